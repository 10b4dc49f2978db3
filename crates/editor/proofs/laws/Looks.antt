-- What a block shows to a kind is what the data of the content's block say.
use Rattle.std.proofs.Common.{◌≡◌, ℕ, ◌+◌, ◌-◌, ◌<◌, ◌≤◌, Bool, true, List, [], length, take, drop, Some, Ok, Result, sym, refl, ap, ◌∙◌, subst, ⊎_elim, arith, rules}
use Rattle.std.proofs.lemmas.Bool.{le-leb, cases_lt}
use Rattle.std.proofs.lemmas.List.{same_lists, places}
use Rattle.std.proofs.lemmas.Option.{slice_get_within}
use Rattle.std.specs.List.{slice_get}
use Rattle.std.specs.Str.{bytes_eq}
use Rattle.faults.specs.declared.fault.Fault.{Fault}
use Rattle.faults.specs.declared.refusal.Refusal.TheVariants.{Key}
use Rattle.faults.specs.Faults.{in_block}
use Rattle.format.specs.declared.judging.Layout.{Layout}
use Rattle.format.specs.Checks.{unless, ◌then◌, ◌with◌, all_of}
use Rattle.format.specs.Content.{Block, Content, IsSound, write, content}
use Rattle.kinds.specs.Kind.{KindSpec, IsSoundKind, Outcome, accepted, refused}
use Rattle.format.specs.Section.{key_at, data_at}
use Rattle.reader.specs.Answers.{Sight, outcome_sight, part, block_place, block_sight}
use Rattle.reader.specs.Laws.{ContentRead}
use Rattle.reader.specs.Levels.{layout_of_file, block_conditions}
use Rattle.reader.proofs.Asked.{then_ok, unless_ok}
use Rattle.reader.proofs.Written.{read_content}
use Rattle.editor.specs.Calls.{WorkState, file}
use Rattle.editor.specs.Law.{Shows}
use Rattle.editor.proofs.calls.Held.{Holding, file_is, layout_is, content_is}

-- what is read of a file is what its content says
pub read_holding : (s : WorkState) (c : Content) → Holding s c → (l : Layout) → layout_of_file (file s) ≡ Ok l → ContentRead (file s) l c
read_holding s c h l e =
    let same = content_is s c h in
    let sound : IsSound (content (file s)) = subst IsSound (sym same) h.sound in
    let written : write (content (file s)) ≡ file s = ap write same ∙ sym (file_is s c h) in
    subst (ContentRead (file s) l) same (read_content (file s) l sound written e)

-- a block of a content shows numbers and a text to a kind
pub record Showing (kind : KindSpec) (numbers text : List ℕ) (x : Block) : Type 0 where
  pub key : bytes_eq x.key kind.key ≡ true
  pub at : ℕ
  pub size : ℕ
  pub used : ℕ
  pub reads : kind.reads x.body ≡ accepted numbers at size used
  pub text_is : take size (drop at x.body) ≡ text

-- a part of a part
part_of_part : (b : List ℕ) (at m a n : ℕ) → a + n ≤ length (take m (drop at b)) → take n (drop (at + a) b) ≡ take n (drop a (take m (drop at b)))
part_of_part b at m a n h = same_lists _ _ (search (rules, places)) (λ k z w. grind (arith, places))

-- what is shown of data that are read
sight_read : (kind : KindSpec) → IsSoundKind kind → (b : List ℕ) (k at m : ℕ) (o : Outcome) → kind.reads (take m (drop at b)) ≡ o → (s : Sight) (numbers text : List ℕ) → outcome_sight k at o ≡ Ok s
    → s.numbers ≡ numbers → part b (s.text, s.size) ≡ text
    → (a : ℕ) × (n : ℕ) × (u : ℕ) × (o ≡ accepted numbers a n u) × (take n (drop a (take m (drop at b))) ≡ text)
sight_read kind keeps b k at m (accepted ns a n u) r s numbers text e f g =
    let st = keeps.steady (take m (drop at b)) ns a n u r in
    let is : record { numbers = ns; text = at + a; size = n; used = u } ≡ s = cc in
    let numbers_are : ns ≡ numbers = ap (λ (y : Sight). y.numbers) is ∙ f in
    let text_is : take n (drop (at + a) b) ≡ text = ap (λ (y : Sight). part b (y.text, y.size)) is ∙ g in
    (a, n, u, ap (λ (y : List ℕ). accepted y a n u) numbers_are, sym (part_of_part b at m a n (omega (arith, st.inside, st.within))) ∙ text_is)
sight_read kind keeps b k at m (refused q p) r s numbers text e f g = let z : ◌≡◌ {A = ℕ} 0 1 = cc in absurd (omega arith)

pub showing_of : (kind : KindSpec) → IsSoundKind kind → (s : WorkState) (c : Content) → Holding s c → (k : ℕ) (x : Block) (numbers text : List ℕ) → slice_get c.blocks (k - 1) ≡ Some x
    → Shows kind s k numbers text → Showing kind numbers text x
showing_of kind keeps s c h k x numbers text e shows =
    let b = file s in
    let l = layout_is s c h in
    let at = block_place b (k - 1) in
    let there = (read_holding s c h l.0 l.1).blocks (k - 1) x e in
    let answered : (all_of (block_conditions l.0.version l.0.blocks k) then block_sight kind b k at) ≡ Ok shows.sight =
    ap (λ (r : Result Layout Fault). r with λ m. all_of (block_conditions m.version m.blocks k) then block_sight kind b k at) (sym l.1) ∙ shows.looked in
    let seen = (then_ok (all_of (block_conditions l.0.version l.0.blocks k)) (block_sight kind b k at) shows.sight answered).1 in
    let both = then_ok (unless (bytes_eq (key_at b at) kind.key) (in_block Key k at)) (outcome_sight k (at + 8) (kind.reads (data_at b at))) shows.sight seen in
    let same : bytes_eq (key_at b at) kind.key ≡ true = unless_ok _ _ both.0 in
    let r = sight_read kind keeps b k (at + 8) _ (kind.reads (data_at b at)) refl shows.sight numbers text both.1 shows.numbers_are shows.text_is in
    record {
      key = subst (λ (y : List ℕ). bytes_eq y kind.key ≡ true) there.0 same;
      at = r.0;
      size = r.1;
      used = r.2;
      reads = ap kind.reads (sym there.1) ∙ r.3;
      text_is = ap (λ (y : List ℕ). take r.1 (drop r.0 y)) (sym there.1) ∙ r.4;
    }

-- what data show is shown of the file
pub shows_of : (kind : KindSpec) → IsSoundKind kind → (s : WorkState) (c : Content) → Holding s c → (k : ℕ) (x : Block) (numbers text : List ℕ) → 1 ≤ k → slice_get c.blocks (k - 1) ≡ Some x
    → Showing kind numbers text x → Shows kind s k numbers text
shows_of kind keeps s c h k x numbers text from e w =
    let b = file s in
    let l = layout_is s c h in
    let at = block_place b (k - 1) in
    let r = read_holding s c h l.0 l.1 in
    let there = r.blocks (k - 1) x e in
    let among = slice_get_within c.blocks (k - 1) x e in
    let to : k ≤ l.0.blocks = omega (arith, r.blocks_are) in
    let late : 6 ≤ l.0.version =
    ⊎_elim
    (λ (early : l.0.version < 6).
    let none : c.blocks ≡ [] = h.sound.blocks_from_six (subst (λ (y : ℕ). y < 6) r.version_is early) in
    let long : length c.blocks ≡ 0 = ap length none in
    absurd (omega arith))
    (λ (y : 6 ≤ l.0.version). y)
    (cases_lt l.0.version 6) in
    let conditions : all_of (block_conditions l.0.version l.0.blocks k) ≡ Ok tt = rw (le-leb 6 l.0.version late, le-leb 1 k from, le-leb k l.0.blocks to) refl in
    let same : bytes_eq (key_at b at) kind.key ≡ true = subst (λ (y : List ℕ). bytes_eq y kind.key ≡ true) (sym there.0) w.key in
    let reads : kind.reads (data_at b at) ≡ accepted numbers w.at w.size w.used = ap kind.reads there.1 ∙ w.reads in
    let steady = keeps.steady (data_at b at) numbers w.at w.size w.used reads in
    let shown : Sight = record { numbers = numbers; text = at + 8 + w.at; size = w.size; used = w.used } in
    let looked : block_sight kind b k at ≡ Ok shown =
    ap (λ (t : Bool). unless t (in_block Key k at) then outcome_sight k (at + 8) (kind.reads (data_at b at))) same ∙ ap (outcome_sight k (at + 8)) reads in
    record {
      sight = shown;
      looked =
          ap (λ (y : Result Layout Fault). y with λ m. all_of (block_conditions m.version m.blocks k) then block_sight kind b k at) l.1
          ∙ ap (λ (y : Result (Unit {0}) Fault). y then block_sight kind b k at) conditions ∙ looked;
      numbers_are = refl;
      text_is =
          part_of_part b (at + 8) _ w.at w.size (omega (arith, steady.inside, steady.within))
          ∙ ap (λ (y : List ℕ). take w.size (drop w.at y)) there.1 ∙ w.text_is;
    }
