-- What the edits of blocks keep: one lemma to an edit.
use Rattle.std.proofs.Common.{◌≡◌, ℕ, suc, ◌-◌, ◌<◌, ◌≤◌, List, [], ◌∷◌, ◌++◌, length, slice_set, take, drop, Some, Ok, Result, sym, refl, ap, ◌∙◌, subst, arith}
use Rattle.std.proofs.lemmas.Bool.{leb-true}
use Rattle.std.proofs.ByRecursion.{All-append, All-take, All-drop}
use Rattle.std.specs.List.{slice_get}
use Rattle.buffers.specs.Words.{Bytes}
use Rattle.faults.specs.declared.fault.Fault.{Fault}
use Rattle.format.specs.declared.judging.Layout.{Layout}
use Rattle.format.specs.Changes.{with_blocks, with_last}
use Rattle.format.specs.Checks.{◌then◌, ◌with◌, all_of}
use Rattle.format.specs.Content.{Content, IsSound, IsWritable, write, block}
use Rattle.kinds.specs.Kind.{KindSpec, Payload, payload_output, Output, bytes, declined}
use Rattle.reader.specs.Answers.{Sight, block_sight, block_place, look_answer}
use Rattle.reader.specs.Levels.{blocks_present, block_known, block_conditions}
use Rattle.reader.proofs.Asked.{then_ok, unless_ok, within}
use Rattle.reader.proofs.Written.{read_content}
use Rattle.editor.specs.Blocks.{block_in, longer_block, renewed_block}
use Rattle.kinds.specs.Writing.{output_bytes}
use Rattle.editor.specs.Edits.{Edit, add, carry, lengthen, replace, remove, with_block, without_block}
use Rattle.editor.specs.Ledger.{Page, with_marks, with_new, page_after}
use Rattle.editor.proofs.laws.Agrees.{Agrees}
use Rattle.editor.proofs.laws.AgreesBlocks.{agrees_last, agrees_changed, agrees_renewed, agrees_without, follows_last, follows_longer, follows_renewed, follows_without}
use Rattle.editor.proofs.calls.Held.{same_ok, with_ok, writing_held}
use Rattle.editor.proofs.laws.Keeping.{Follows, KeptBy, Keeping}
use Rattle.editor.proofs.calls.Lists.{all_set, all_at, get_set, get_last}
use Rattle.editor.proofs.laws.SoundBlocks.{sound_blocks, body_small, get_in}

-- a block that is written behind the last one
last_writable : (c : Content) (key body : List ℕ) → length key ≡ 4 → Bytes key → Bytes body → length (write (with_last c (block key body))) ≤ 1073741824 → IsWritable (block key body)
last_writable c key body four k b room =
    record {
      key_size = four;
      key_bytes = k;
      body_size = body_small (with_last c (block key body)) (length c.blocks) (block key body) (get_last c.blocks (block key body)) room;
      body_bytes = b;
    }

keeps_last : (e : Edit) (key body : List ℕ) (p : Page) (c : Content) → IsSound c → 6 ≤ c.version → length key ≡ 4 → Bytes key → Bytes body
    → length (write (with_last c (block key body))) ≤ 1073741824 → Agrees p c → page_after e p ≡ with_new p (p.marks ++ (p.next ∷ [])) → KeptBy e p c (with_last c (block key body))
keeps_last e key body p c s late four k b room h note =
    let x = block key body in
    let fit = All-append IsWritable c.blocks (x ∷ []) s.blocks_fit (last_writable c key body four k b room, tt) in
    record {
      sound = sound_blocks c (c.blocks ++ (x ∷ [])) s late fit room;
      agrees = subst (λ (q : Page). Agrees q (with_last c x)) (sym note) (agrees_last p c h x);
      follows = λ kind keeps numbers text m f. subst (λ (q : Page). Follows kind numbers text m q (with_last c x)) (sym note) (follows_last kind keeps numbers text m p c f x);
    }

-- version 6 has come
pub late_from : (v : ℕ) → blocks_present v ≡ Ok tt → 6 ≤ v
late_from v e = leb-true 6 v (unless_ok _ _ e)

pub carry_keeps : (key body : List ℕ) → Keeping (carry key body)
carry_keeps key body p c d s given room h e =
    let q = then_ok (blocks_present c.version) (Ok (with_last c (block key body))) d e in
    let is : with_last c (block key body) ≡ d = cc in
    let fits = subst (λ (x : Content). length (write x) ≤ 1073741824) (sym is) room in
    subst (KeptBy (carry key body) p c) is (keeps_last (carry key body) key body p c s (late_from c.version q.0) given.0 given.1 given.2 fits h refl)

-- what a kind wrote
pub wrote_is : (o : Output) (w : List ℕ) → output_bytes o ≡ Ok w → o ≡ bytes w
wrote_is (bytes v) w e = let same : v ≡ w = cc in ap bytes same
wrote_is (declined p) w e = let z : ◌≡◌ {A = ℕ} 0 1 = cc in absurd (omega arith)

pub add_keeps : (new : Payload) → Keeping (add new)
add_keeps new p c d s given room h e =
    let q = then_ok (blocks_present c.version) (output_bytes (payload_output new) with λ w. Ok (with_last c (block new.kind.key w))) d e in
    let w = with_ok (output_bytes (payload_output new)) (λ w. Ok (with_last c (block new.kind.key w))) d q.1 in
    let is : with_last c (block new.kind.key w.0) ≡ d = same_ok _ d w.2 in
    let fits = subst (λ (x : Content). length (write x) ≤ 1073741824) (sym is) room in
    let body = given.2 w.0 (wrote_is (payload_output new) w.0 w.1) in
    subst (KeptBy (add new) p c) is
    (keeps_last (add new) new.kind.key w.0 p c s (late_from c.version q.0) given.0 given.1 body fits h refl)

-- a block of the file
pub record Among (c : Content) (k : ℕ) : Type 0 where
  pub late : 6 ≤ c.version
  pub from : 1 ≤ k
  pub to : k ≤ length c.blocks
  pub there : slice_get c.blocks (k - 1) ≡ Some (block_in c.blocks k)
  pub writable : IsWritable (block_in c.blocks k)

pub among : (c : Content) (k : ℕ) → IsSound c → all_of (block_conditions c.version (length c.blocks) k) ≡ Ok tt → Among c k
among c k s e =
    let c1 = then_ok (blocks_present c.version) _ tt e in
    let c2 = then_ok (block_known (length c.blocks) k) _ tt c1.1 in
    let known = within 1 k (length c.blocks) (unless_ok _ _ c2.0) in
    let there = get_in c.blocks k known.0 known.1 in
    record {
      late = late_from c.version c1.0;
      from = known.0;
      to = known.1;
      there = there;
      writable = all_at IsWritable c.blocks (k - 1) (block_in c.blocks k) there s.blocks_fit;
    }

pub index : (n m : ℕ) → 1 ≤ n → n ≤ m → n - 1 < m
index n m from to = omega arith

-- another block in the place of block k, with its key
changed_writable : (c : Content) (k : ℕ) (body : List ℕ) → Among c k → Bytes body → length (write (with_block c k (block (block_in c.blocks k).key body))) ≤ 1073741824
    → IsWritable (block (block_in c.blocks k).key body)
changed_writable c k body a b room =
    let x = block (block_in c.blocks k).key body in
    let old = a.writable in
    record {
      key_size = old.key_size;
      key_bytes = old.key_bytes;
      body_size = body_small (with_block c k x) (k - 1) x (get_set c.blocks (k - 1) x (index k (length c.blocks) a.from a.to)) room;
      body_bytes = b;
    }

sound_changed : (c : Content) (k : ℕ) (body : List ℕ) → IsSound c → Among c k → Bytes body → length (write (with_block c k (block (block_in c.blocks k).key body))) ≤ 1073741824
    → IsSound (with_block c k (block (block_in c.blocks k).key body))
sound_changed c k body s a b room =
    let x = block (block_in c.blocks k).key body in
    sound_blocks c (slice_set c.blocks (k - 1) x) s a.late (all_set IsWritable c.blocks (k - 1) x (changed_writable c k body a b room) s.blocks_fit) room

pub lengthen_keeps : (k : ℕ) (more : List ℕ) → Keeping (lengthen k more)
lengthen_keeps k more p c d s given room h e =
    let old = block_in c.blocks k in
    let q = then_ok (all_of (block_conditions c.version (length c.blocks) k)) (Ok (with_block c k (longer_block old more))) d e in
    let a = among c k s q.0 in
    let is : with_block c k (longer_block old more) ≡ d = cc in
    let fits = subst (λ (x : Content). length (write x) ≤ 1073741824) (sym is) room in
    let body = All-append (λ x. x < 256) old.body more a.writable.body_bytes given in
    subst (KeptBy (lengthen k more) p c) is (record {
      sound = sound_changed c k (old.body ++ more) s a body fits;
      agrees = agrees_changed p c h k (longer_block old more);
      follows = λ kind keeps numbers text m f. follows_longer kind keeps numbers text m p c f k old more a.there;
    })

-- a look that is answered is of a block of the file
pub looked_among : (kind : KindSpec) (c : Content) (k : ℕ) (seen : Sight) → IsSound c → look_answer kind (write c) k ≡ Ok seen → all_of (block_conditions c.version (length c.blocks) k) ≡ Ok tt
looked_among kind c k seen s e =
    let b = write c in
    let w = writing_held c s b refl in
    let l = w.0.0 in
    let same = w.1 in
    let r = read_content b l (subst IsSound (sym same) s) (ap write same) w.0.1 in
    let answered : (all_of (block_conditions l.version l.blocks k) then block_sight kind b k (block_place b (k - 1))) ≡ Ok seen =
    ap (λ (y : Result Layout Fault). y with λ m. all_of (block_conditions m.version m.blocks k) then block_sight kind b k (block_place b (k - 1))) (sym w.0.1) ∙ e in
    let q = then_ok (all_of (block_conditions l.version l.blocks k)) (block_sight kind b k (block_place b (k - 1))) seen answered in
    let version_is : l.version ≡ c.version = r.version_is ∙ ap (λ (x : Content). x.version) same in
    let blocks_are : l.blocks ≡ length c.blocks = r.blocks_are ∙ ap (λ (x : Content). length x.blocks) same in
    ap (λ (v : ℕ). all_of (block_conditions v (length c.blocks) k)) (sym version_is) ∙ ap (λ (n : ℕ). all_of (block_conditions l.version n k)) (sym blocks_are) ∙ q.0

pub replace_keeps : (k : ℕ) (new : Payload) → Keeping (replace k new)
replace_keeps k new p c d s given room h e =
    let old = block_in c.blocks k in
    let seen = with_ok (look_answer new.kind (write c) k) (λ seen. output_bytes (payload_output new) with λ w. Ok (with_block c k (renewed_block old w seen.used))) d e in
    let a = among c k s (looked_among new.kind c k seen.0 s seen.1) in
    let w = with_ok (output_bytes (payload_output new)) (λ w. Ok (with_block c k (renewed_block old w seen.0.used))) d seen.2 in
    let is : with_block c k (renewed_block old w.0 seen.0.used) ≡ d = same_ok _ d w.2 in
    let fits = subst (λ (x : Content). length (write x) ≤ 1073741824) (sym is) room in
    let body = All-append (λ x. x < 256) w.0 (drop seen.0.used old.body) (given w.0 (wrote_is (payload_output new) w.0 w.1)) (All-drop (λ x. x < 256) seen.0.used old.body a.writable.body_bytes) in
    subst (KeptBy (replace k new) p c) is (record {
      sound = sound_changed c k (w.0 ++ drop seen.0.used old.body) s a body fits;
      agrees = agrees_renewed p c h k (renewed_block old w.0 seen.0.used);
      follows = λ looking keeps ns t m f. follows_renewed looking keeps ns t m p c f k (renewed_block old w.0 seen.0.used);
    })

one_more : (k : ℕ) → 1 ≤ k → suc (k - 1) ≡ k
one_more k from = omega arith

pub remove_keeps : (k : ℕ) → Keeping (remove k)
remove_keeps k p c d s given room h e =
    let q = then_ok (all_of (block_conditions c.version (length c.blocks) k)) (Ok (without_block c k)) d e in
    let a = among c k s q.0 in
    let is : without_block c k ≡ d = cc in
    let fits = subst (λ (x : Content). length (write x) ≤ 1073741824) (sym is) room in
    let next = one_more k a.from in
    let less = index k (length c.blocks) a.from a.to in
    let fit = All-append IsWritable (take (k - 1) c.blocks) (drop k c.blocks) (All-take IsWritable (k - 1) c.blocks s.blocks_fit) (All-drop IsWritable k c.blocks s.blocks_fit) in
    subst (KeptBy (remove k) p c) is (record {
      sound = sound_blocks c (take (k - 1) c.blocks ++ drop k c.blocks) s a.late fit fits;
      agrees =
          subst (λ (n : ℕ). Agrees (with_marks p (take (k - 1) p.marks ++ drop n p.marks)) (with_blocks c (take (k - 1) c.blocks ++ drop n c.blocks))) next
          (agrees_without p c h (k - 1) less);
      follows = λ kind keeps numbers text m f.
          subst (λ (n : ℕ). Follows kind numbers text m (with_marks p (take (k - 1) p.marks ++ drop n p.marks)) (with_blocks c (take (k - 1) c.blocks ++ drop n c.blocks))) next
          (follows_without kind keeps numbers text m p c f (k - 1));
    })
