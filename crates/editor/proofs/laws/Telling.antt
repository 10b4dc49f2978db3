-- Where a page agrees with the content of the file, the ledger tells what is read.
use Rattle.std.proofs.Common.{◌≡◌, ℕ, ◌/◌, ◌<◌, ◌≤◌, ltb, cond, List, length, drop, Ok, Err, Result, sym, refl, ap, ◌∙◌, subst, ⊎_elim, arith}
use Rattle.std.proofs.lemmas.Bool.{le-ltb, lt-ltb, lt-leb, leb-true, cases_lt, and_parts}
use Rattle.std.proofs.lemmas.Bool.Decides.{nat_tests}
use Rattle.std.proofs.lemmas.List.{length-take-le, length-drop}
use Rattle.faults.specs.declared.fault.Fault.{Fault}
use Rattle.faults.specs.declared.refusal.Refusal.TheVariants.{NoFile}
use Rattle.faults.specs.Faults.{fault}
use Rattle.format.specs.declared.judging.Layout.{Layout}
use Rattle.format.specs.declared.sizes.Sizes.{Sizes}
use Rattle.format.specs.Checks.{Check, ◌then◌, ◌with◌, all_of}
use Rattle.format.specs.Content.{Content, IsSound, write, content, field_in, content_sizes}
use Rattle.format.specs.Header.{the_field, field_pattern}
use Rattle.format.specs.Rows.{row_span, row_in, row_count}
use Rattle.format.specs.Sizes.{sizes_in, quality_in}
use Rattle.format.proofs.Spots.{fields_to}
use Rattle.reader.specs.Answers.{part, row_answer, row_part, field_answer, list_after, numbers_answer}
use Rattle.reader.specs.Laws.{ContentRead}
use Rattle.reader.specs.Levels.{layout_of_file, level_known, layout_known, row_known, field_seen, field_present, enough_room, field_conditions, row_conditions}
use Rattle.format.specs.Conditions.{field_known}
use Rattle.reader.proofs.Agree.{agreed}
use Rattle.reader.proofs.Asked.{then_ok, unless_ok, within, row_answered}
use Rattle.reader.proofs.Written.{read_content, within_count}
use Rattle.editor.specs.Calls.{WorkState, file}
use Rattle.editor.specs.Ledger.{Page, Ledger, blank, page, ledger_field, ledger_row}
use Rattle.editor.specs.Law.{ReadsAs}
use Rattle.editor.proofs.laws.Agrees.{Row, Agrees}
use Rattle.editor.proofs.calls.Held.{Holding, not_both, file_is, layout_is, content_is, size_is}
use Rattle.editor.proofs.laws.Looks.{read_holding}

-- no file and a blank ledger, or a file that the page agrees with
abbrev pub Both : Ledger → WorkState → Type 0
Both blank s = layout_of_file (file s) ≡ Err (fault NoFile 0)
Both (page p) s = (c : Content) × Holding s c × Agrees p c

pub not_page : (p : Page) → blank ≡ page p → ⊥
not_page p e = let z : ◌≡◌ {A = ℕ} 0 1 = cc in omega arith

-- without a file every question is refused by 31, as the blank ledger tells
told_blank : (s : WorkState) → layout_of_file (file s) ≡ Err (fault NoFile 0) → ReadsAs blank s
told_blank s none =
    let b = file s in
    record {
      written = λ h. absurd (not_both h.0 _ (sym none ∙ h.1));
      holds = λ w. absurd (not_page w.0 w.1);
      whole = λ h. absurd (not_both h.0 _ (sym none ∙ h.1));
      agree = agreed b;
      read = record { each = λ l e. absurd (not_both l _ (sym none ∙ e)) };
      count = ap (λ (r : Result Layout Fault). r with λ k. Ok k.blocks) none;
      version = ap (λ (r : Result Layout Fault). r with λ l. Ok l.version) none;
      fields = λ level n. ap (λ (r : Result Layout Fault). r with λ l. all_of (field_conditions l.version level n) then Ok (field_pattern b n)) none;
      rows = λ level cell row.
          ap (λ (r : Result Layout Fault). (r with λ l. all_of (row_conditions l.version l.sizes level cell row) then Ok (row_span l cell row)) with λ p. Ok (part b p)) none;
      numbers = λ level cell row room.
          ap (λ (r : Result Layout Fault). (r with λ l. all_of (row_conditions l.version l.sizes level cell row) then Ok (row_span l cell row)) with λ p. enough_room (p.1 / 4) room) none;
      list = λ level cell row old.
          ap (λ (r : Result Layout Fault). list_after old ((r with λ l. all_of (row_conditions l.version l.sizes level cell row) then Ok (row_span l cell row)) with λ p. Ok (part b p))
          ((r with λ l. all_of (row_conditions l.version l.sizes level cell row) then Ok (row_span l cell row)) with λ p. enough_room (p.1 / 4) (length old))) none;
    }

-- what is answered behind the same conditions
then_same : {X : Type 0} (c : Check) (x y : X) → (c ≡ Ok tt → x ≡ y) → (c then Ok x) ≡ (c then Ok y)
then_same (Ok u) x y f = ap Ok (f refl)
then_same (Err e) x y f = refl

then_with : {X Y : Type 0} (c : Check) (x : X) (f : X → Result Y Fault) → ((c then Ok x) with f) ≡ (c then f x)
then_with (Ok u) x f = refl
then_with (Err e) x f = refl

-- the sizes hang on the fields of the version alone
sizes_agree : (v : ℕ) (f g : ℕ → ℕ) → ((n : ℕ) → 1 ≤ n → n ≤ fields_to v → f n ≡ g n) → sizes_in v f ≡ sizes_in v g
sizes_agree v f g same =
    let late = λ (n i x : ℕ) (from : 1 ≤ n) (has : i ≤ v → n ≤ fields_to v). early_or v i x (f n) (g n) (λ (l : i ≤ v). same n from (has l)) in
    let ranges = late 12 4 31 (omega arith) (λ l. grind (arith, nat_tests)) in
    let bins = late 11 4 512 (omega arith) (λ l. grind (arith, nat_tests)) in
    let channels = late 19 5 3 (omega arith) (λ l. grind (arith, nat_tests)) in
    let first = late 13 4 1 (omega arith) (λ l. grind (arith, nat_tests)) in
    let quality : quality_in v f ≡ quality_in v g =
    ⊎_elim (λ (l : v < 2). rw (lt-leb 2 v l) refl)
    (λ (l : 2 ≤ v). ap (λ (y : ℕ). quality_in v (λ m. y)) (same 2 (omega arith) (grind (arith, nat_tests))))
    (cases_lt v 2) in
    λ i. record { ranges = ranges i; bins = bins i; channels = channels i; first = first i; quality = quality i }
  where
    early_or : (v i x y z : ℕ) → (i ≤ v → y ≡ z) → cond (ltb v i) x y ≡ cond (ltb v i) x z
    early_or v i x y z e = ⊎_elim (λ (l : v < i). rw (lt-ltb v i l) refl) (λ (l : i ≤ v). rw (le-ltb v i l) (e l)) (cases_lt v i)

-- what the conditions of a field and of a row say
field_passed : (v level n : ℕ) → all_of (field_conditions v level n) ≡ Ok tt → (1 ≤ n) × (n ≤ 20) × ((the_field n).level ≤ v)
field_passed v level n e =
    let c1 = then_ok (level_known level) _ tt e in
    let c2 = then_ok (field_known n) _ tt c1.1 in
    let c3 = then_ok (field_seen level n) _ tt c2.1 in
    let c4 = then_ok (field_present v n) _ tt c3.1 in
    let known = within 1 n 20 (unless_ok _ _ c2.0) in
    (known.0, known.1, leb-true _ _ (unless_ok _ _ c4.0))

row_passed : (v : ℕ) (s : Sizes) (level cell row : ℕ) → all_of (row_conditions v s level cell row) ≡ Ok tt → Row s cell row
row_passed v s level cell row e =
    let c1 = then_ok (level_known level) _ tt e in
    let c2 = then_ok (layout_known v level) _ tt c1.1 in
    let c3 = then_ok (row_known s cell row) _ tt c2.1 in
    let both = and_parts _ _ (unless_ok _ _ c3.0) in
    record { cells = within 1 cell s.ranges both.0; rows = within 1 row (row_count s) both.1 }

module _ (p : Page) (s : WorkState) (c : Content) (h : Holding s c) (a : Agrees p c) where
  abbrev b : List ℕ
  b = file s

  abbrev l : Layout
  l = (layout_is s c h).0

  is : layout_of_file b ≡ Ok l
  is = (layout_is s c h).1

  r : ContentRead b l c
  r = read_holding s c h l is

  version_told : l.version ≡ p.version
  version_told = r.version_is ∙ a.version

  sizes_told : l.sizes ≡ sizes_in p.version p.fields
  sizes_told =
      r.sizes_are ∙ sizes_agree c.version (field_in c.fields) p.fields a.fields ∙ ap (λ (v : ℕ). sizes_in v p.fields) a.version

  field_told : (level n : ℕ) → field_answer b level n ≡ ledger_field (page p) level n
  field_told level n =
      ap (λ (x : Result Layout Fault). x with λ m. all_of (field_conditions m.version level n) then Ok (field_pattern b n)) is
      ∙ ap (λ (v : ℕ). all_of (field_conditions v level n) then Ok (field_pattern b n)) version_told
      ∙ then_same (all_of (field_conditions p.version level n)) (field_pattern b n) (p.fields n) (λ e. value (field_passed p.version level n e))
    where
      value : (1 ≤ n) × (n ≤ 20) × ((the_field n).level ≤ p.version) → field_pattern b n ≡ p.fields n
      value k =
          let present : (the_field n).level ≤ c.version = subst (λ (v : ℕ). (the_field n).level ≤ v) (sym a.version) k.2 in
          (r.fields n k.0 k.1 present).1 ∙ a.fields n k.0 (within_count c.version n k.0 k.1 present)

  row_told : (level cell row : ℕ) → row_part b level cell row ≡ ledger_row (page p) level cell row
  row_told level cell row =
      ap (λ (x : Result Layout Fault). (x with λ m. all_of (row_conditions m.version m.sizes level cell row) then Ok (row_span m cell row)) with λ q. Ok (part b q)) is
      ∙ then_with (all_of (row_conditions l.version l.sizes level cell row)) (row_span l cell row) (λ q. Ok (part b q))
      ∙ then_same (all_of (row_conditions l.version l.sizes level cell row)) (part b (row_span l cell row)) (p.rows cell row) (λ e. bytes (row_passed l.version l.sizes level cell row e))
      ∙ ap (λ (v : ℕ). all_of (row_conditions v l.sizes level cell row) then Ok (p.rows cell row)) version_told
      ∙ ap (λ (z : Sizes). all_of (row_conditions p.version z level cell row) then Ok (p.rows cell row)) sizes_told
    where
      bytes : Row l.sizes cell row → part b (row_span l cell row) ≡ p.rows cell row
      bytes k =
          let known : Row (content_sizes c) cell row = subst (λ (z : Sizes). Row z cell row) r.sizes_are k in
          r.rows cell row (row_span l cell row) (row_answered b l cell row is k.cells.0 k.cells.1 k.rows.0 k.rows.1)
          ∙ ap (λ (z : Sizes). part c.cells (row_in z cell row)) r.sizes_are ∙ a.rows cell row known

-- the patterns of a row's bytes are as many as a quarter of its length
with_bytes_long : (b : List ℕ) (x : Result (ℕ × ℕ) Fault) (room : ℕ) → ((q : ℕ × ℕ) → x ≡ Ok q → length (part b q) ≡ q.1)
    → (x with λ q. enough_room (q.1 / 4) room) ≡ ((x with λ q. Ok (part b q)) with λ bytes. enough_room (length bytes / 4) room)
with_bytes_long b (Ok q) room long = ap (λ (n : ℕ). enough_room (n / 4) room) (sym (long q refl))
with_bytes_long b (Err f) room long = refl

pub told_page : (p : Page) (s : WorkState) (c : Content) → Holding s c → Agrees p c → ReadsAs (page p) s
told_page p s c h a =
    let b = file s in
    let l = (layout_is s c h).0 in
    let is : layout_of_file b ≡ Ok l = (layout_is s c h).1 in
    let same = content_is s c h in
    let r = read_holding s c h l is in
    let rows = row_told p s c h a in
    let inside = (agreed b l is).rows_inside in
    let long : (level cell row : ℕ) (q : ℕ × ℕ) → row_answer b level cell row ≡ Ok q → length (part b q) ≡ q.1 =
    λ level cell row q e. let i = (inside level cell row q e).1 in length-take-le q.1 (drop q.0 b) (simp length-drop (omega arith)) in
    let numbers : (level cell row room : ℕ) → numbers_answer b level cell row room ≡ (ledger_row (page p) level cell row with λ bytes. enough_room (length bytes / 4) room) =
    λ level cell row room.
    with_bytes_long b (row_answer b level cell row) room (long level cell row)
    ∙ ap (λ (x : Result (List ℕ) Fault). x with λ bytes. enough_room (length bytes / 4) room) (rows level cell row) in
    record {
      written = λ _. (p, refl);
      holds = λ _. (l, is);
      whole = λ _.
          record {
            sound = subst IsSound (sym same) h.sound;
            written = ap write same ∙ sym (file_is s c h);
            size_is = ap length (file_is s c h) ∙ size_is s c h;
            room = h.room;
          };
      agree = agreed b;
      read =
          record {
            each = λ m e.
                let sound : IsSound (content b) = subst IsSound (sym same) h.sound in
                read_content b m sound (ap write same ∙ sym (file_is s c h)) e;
          };
      count = ap (λ (x : Result Layout Fault). x with λ k. Ok k.blocks) is ∙ ap Ok (r.blocks_are ∙ sym a.count);
      version = ap (λ (x : Result Layout Fault). x with λ m. Ok m.version) is ∙ ap Ok (version_told p s c h a);
      fields = field_told p s c h a;
      rows = rows;
      numbers = numbers;
      list = λ level cell row old.
          ap (λ (x : Result (List ℕ) Fault). list_after old x (numbers_answer b level cell row (length old))) (rows level cell row)
          ∙ ap (list_after old (ledger_row (page p) level cell row)) (numbers level cell row (length old));
    }

pub tells : (l : Ledger) (s : WorkState) → Both l s → ReadsAs l s
tells blank s h = told_blank s h
tells (page p) s h = told_page p s h.0 h.1 h.2
