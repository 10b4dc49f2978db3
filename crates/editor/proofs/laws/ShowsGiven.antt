-- A block that was just added or replaced shows what was given.
use Rattle.std.proofs.Common.{◌≡◌, ℕ, ◌+◌, ◌-◌, true, List, [], ◌∷◌, ◌++◌, length, drop, Some, Ok, sym, refl, ap, ◌∙◌, arith}
use Rattle.std.proofs.lemmas.Slice.Eq.{bytes_eq-Decides}
use Rattle.std.specs.List.{slice_get}
use Rattle.std.specs.Str.{bytes_eq}
use Rattle.format.specs.Checks.{◌with◌}
use Rattle.format.specs.Content.{Content, write, block}
use Rattle.kinds.specs.Kind.{KindSpec, IsSoundKind, Payload, payload_output, bytes}
use Rattle.kinds.proofs.Laws.{every_kind_returns}
use Rattle.reader.specs.Answers.{Sight, part, look_answer}
use Rattle.reader.specs.Levels.{blocks_present}
use Rattle.reader.proofs.Asked.{then_ok}
use Rattle.editor.specs.Blocks.{block_in, renewed_block}
use Rattle.kinds.specs.Writing.{output_bytes}
use Rattle.format.specs.Changes.{with_last}
use Rattle.editor.specs.Edits.{add, replace, with_block, edited_content}
use Rattle.editor.specs.Calls.{WorkState, file, state_left}
use Rattle.editor.specs.Law.{Shows}
use Rattle.editor.proofs.calls.Held.{Holding, same_ok, with_ok, file_is}
use Rattle.editor.proofs.laws.KeptBlocks.{Among, among, index, wrote_is, looked_among}
use Rattle.editor.proofs.calls.Lists.{get_set, get_last}
use Rattle.editor.proofs.laws.Looks.{Showing, showing_of, shows_of}

same_key : (xs : List ℕ) → bytes_eq xs xs ≡ true
same_key xs = (bytes_eq-Decides xs xs).1 refl

-- what a kind wrote, with any bytes behind it, shows what was written
written_shows : (kind : KindSpec) → IsSoundKind kind → (key numbers text w more : List ℕ) → bytes_eq key kind.key ≡ true → kind.writes numbers text ≡ bytes w
    → Showing kind numbers text (block key (w ++ more))
written_shows kind keeps key numbers text w more same e =
    let r = every_kind_returns kind keeps numbers text w more e in
    record { key = same; at = r.0; size = length text; used = length w; reads = r.1; text_is = r.2 }

written_alone : (kind : KindSpec) → IsSoundKind kind → (key numbers text w : List ℕ) → bytes_eq key kind.key ≡ true → kind.writes numbers text ≡ bytes w → Showing kind numbers text (block key w)
written_alone kind keeps key numbers text w same e =
    let r = keeps.back numbers text w e in
    record { key = same; at = r.at; size = length text; used = length w; reads = r.read; text_is = r.text_is }

-- the key of a block that was looked at is the kind's
looked_key : (kind : KindSpec) → IsSoundKind kind → (s : WorkState) (c : Content) → Holding s c → (k : ℕ) (seen : Sight) → Among c k → look_answer kind (write c) k ≡ Ok seen
    → bytes_eq (block_in c.blocks k).key kind.key ≡ true
looked_key kind keeps s c h k seen a e =
    let shows : Shows kind s k seen.numbers (part (file s) (seen.text, seen.size)) =
    record { sight = seen; looked = ap (λ (b : List ℕ). look_answer kind b k) (file_is s c h) ∙ e; numbers_are = refl; text_is = refl } in
    (showing_of kind keeps s c h k (block_in c.blocks k) _ _ a.there shows).key

pub add_shows : (new : Payload) → IsSoundKind new.kind → (n : ℕ) (s : WorkState) (c d : Content) → Holding s c → edited_content (add new) c ≡ Ok d → n ≡ length c.blocks → Holding (state_left s (Ok d)) d
    → Shows new.kind (state_left s (Ok d)) (n + 1) new.numbers new.text
add_shows new keeps n s c d h e count after_all =
    let q = then_ok (blocks_present c.version) (output_bytes (payload_output new) with λ w. Ok (with_last c (block new.kind.key w))) d e in
    let w = with_ok (output_bytes (payload_output new)) (λ w. Ok (with_last c (block new.kind.key w))) d q.1 in
    let x = block new.kind.key w.0 in
    let is : with_last c x ≡ d = same_ok _ d w.2 in
    let place : n + 1 - 1 ≡ length c.blocks = omega arith in
    let there : slice_get d.blocks (n + 1 - 1) ≡ Some x =
    ap (λ (y : Content). slice_get y.blocks (n + 1 - 1)) (sym is) ∙ ap (slice_get (c.blocks ++ (x ∷ []))) place ∙ get_last c.blocks x in
    let showing = written_alone new.kind keeps new.kind.key new.numbers new.text w.0 (same_key new.kind.key) (wrote_is (payload_output new) w.0 w.1) in
    shows_of new.kind keeps (state_left s (Ok d)) d after_all (n + 1) x new.numbers new.text (omega arith) there showing

pub replace_shows : (new : Payload) → IsSoundKind new.kind → (k : ℕ) (s : WorkState) (c d : Content) → Holding s c → edited_content (replace k new) c ≡ Ok d → Holding (state_left s (Ok d)) d
    → Shows new.kind (state_left s (Ok d)) k new.numbers new.text
replace_shows new keeps k s c d h e after_all =
    let old = block_in c.blocks k in
    let seen = with_ok (look_answer new.kind (write c) k) (λ seen. output_bytes (payload_output new) with λ w. Ok (with_block c k (renewed_block old w seen.used))) d e in
    let a = among c k h.sound (looked_among new.kind c k seen.0 h.sound seen.1) in
    let w = with_ok (output_bytes (payload_output new)) (λ w. Ok (with_block c k (renewed_block old w seen.0.used))) d seen.2 in
    let x = renewed_block old w.0 seen.0.used in
    let is : with_block c k x ≡ d = same_ok _ d w.2 in
    let there : slice_get d.blocks (k - 1) ≡ Some x =
    ap (λ (y : Content). slice_get y.blocks (k - 1)) (sym is) ∙ get_set c.blocks (k - 1) x (index k (length c.blocks) a.from a.to) in
    let same = looked_key new.kind keeps s c h k seen.0 a seen.1 in
    let showing = written_shows new.kind keeps old.key new.numbers new.text w.0 (drop seen.0.used old.body) same (wrote_is (payload_output new) w.0 w.1) in
    shows_of new.kind keeps (state_left s (Ok d)) d after_all k x new.numbers new.text a.from there showing
