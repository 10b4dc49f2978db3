-- What a raise keeps.
use Rattle.std.proofs.Common.{◌≡◌, ℕ, ◌+◌, ◌-◌, ◌^◌, ◌<◌, ◌≤◌, List, [], ◌∷◌, ◌++◌, length, Ok, sym, refl, ap, ◌∙◌, subst, arith}
use Rattle.std.proofs.lemmas.Bool.{ltb-true, eqb-true}
use Rattle.std.proofs.lemmas.Bool.Decides.{nat_tests}
use Rattle.std.specs.List.{AllByRecursion}
use Rattle.buffers.specs.Words.{Width}
use Rattle.format.specs.declared.sizes.Sizes.{Sizes}
use Rattle.format.specs.Checks.{all_of}
use Rattle.format.specs.Content.{Block, Content, IsSound, field_in, content_sizes, fields_at, header_slots, section, start}
use Rattle.format.specs.Header.{fields, header_end}
use Rattle.format.specs.Rows.{cells_size, row_in}
use Rattle.format.specs.Sizes.{sizes_in}
use Rattle.format.proofs.Spots.{fields_to}
use Rattle.reader.proofs.Asked.{then_ok, unless_ok}
use Rattle.reader.proofs.Written.{field_total}
use Rattle.reader.specs.Answers.{part}
use Rattle.editor.specs.Edits.{raise, raise_filling, raise_conditions, raised_content}
use Rattle.format.specs.Conditions.{as_long}
use Rattle.editor.specs.Ledger.{Page, page_after, with_values}
use Rattle.editor.proofs.laws.Agrees.{Row, Agrees}
use Rattle.editor.proofs.laws.Keeping.{Keeping, KeptBy}
use Rattle.editor.proofs.laws.Looks.{Showing}
use Rattle.editor.proofs.laws.Marks.{Beside}
use Rattle.headers.specs.Fields.{filled_values}
use Rattle.editor.proofs.raised.RaisedFields.{level_fields, raise_wanted, widths, Fitting, fitting_of, fit_of, fitting_more, wider, new_values, new_fit, new_count, new_numbers, new_same, old_field, new_field, entered_row, sizes_stay}

-- what is known of a content that may be raised with m values
pub record Raisable (c : Content) (m : ℕ) : Type 0 where
  pub to : c.version < 6
  pub no_gap : c.gap ≡ []
  pub count : m ≡ raise_wanted c.version

-- what has no elements is empty
none_of : {X : Type 0} (xs : List X) → length xs ≡ 0 → xs ≡ []
none_of [] e = refl
none_of (x ∷ xs) e = absurd (omega arith)

-- what the conditions tell
pub raisable : (c : Content) (m : ℕ) → all_of (raise_conditions c m) ≡ Ok tt → Raisable c m
raisable c m e =
    let c1 = then_ok _ _ tt e in
    let c2 = then_ok _ _ tt c1.1 in
    let c3 = then_ok (as_long (raise_wanted c.version) m) _ tt c2.1 in
    record {
      to = ltb-true _ _ (unless_ok _ _ c1.0);
      no_gap = none_of c.gap (eqb-true _ _ (unless_ok _ _ c2.0));
      count = eqb-true m _ (unless_ok _ _ c3.0);
    }

-- the data of a raised content begin right behind its header
pub raised_start : (c : Content) (xs : List ℕ) → start (raised_content c xs) ≡ header_end (c.version + 1)
raised_start c xs = omega arith

-- every header ends within reach of the first extent
within_reach : (v : ℕ) → header_end v ≤ 104
within_reach v = grind (arith, nat_tests)

near : (at v : ℕ) → at ≡ header_end v → at - 10 < 2 ^ 31
near at v e = omega (arith, within_reach v)

module _ (c : Content) (xs : List ℕ) (s : IsSound c) (to : c.version < 6) where
  -- the sizes stay
  pub raised_sizes : content_sizes (raised_content c xs) ≡ content_sizes c
  raised_sizes = sizes_stay c.version s.version_from to c.fields xs (field_total c s)

  -- the raised content is sound
  pub sound_raised : AllByRecursion (λ x. x < 2 ^ 32) xs → IsSound (raised_content c xs)
  sound_raised given =
      let d = raised_content c xs in
      let v = c.version in
      let gs = new_values v (field_in c.fields) xs in
      let old = fitting_of (header_slots c) c.fields s.fields_fit in
      let new = new_fit v s.version_from to (field_in c.fields) xs given in
      let wide = wider v s.version_from to (start c) (length (section c.blocks)) (start d) 0 in
      let sizes = raised_sizes in
      let known : (1 ≤ (content_sizes d).bins) × ((content_sizes d).bins ≤ 32768) × (1 ≤ (content_sizes d).ranges) × ((content_sizes d).ranges ≤ 8192) × ((content_sizes d).channels ≡ 3) =
      subst (λ (y : Sizes). (1 ≤ y.bins) × (y.bins ≤ 32768) × (1 ≤ y.ranges) × (y.ranges ≤ 8192) × (y.channels ≡ 3)) (sym sizes)
      (s.bins_from, s.bins_to, s.ranges_from, s.ranges_to, s.channels) in
      record {
        version_from = omega arith;
        version_to = omega arith;
        fields_fit = fit_of (header_slots d) d.fields
            (subst (λ (ws : List Width). Fitting ws (c.fields ++ gs)) (sym wide) (fitting_more (widths (header_slots c)) (widths (fields_at (v + 1) fields)) c.fields gs old new));
        reach = near (start d) (v + 1) (raised_start c xs);
        bins_from = known.0;
        bins_to = known.1;
        ranges_from = known.2;
        ranges_to = known.3;
        channels = known.4;
        blocks_fit = tt;
        blocks_from_six = λ l. refl;
        gap_bytes = tt;
        cells_bytes = s.cells_bytes;
        tail_bytes = s.tail_bytes;
        cells_whole = s.cells_whole ∙ ap cells_size (sym sizes);
      }

  -- the new values are entered for the numbers of the new fields
  fields_agree : (p : Page) → Agrees p c → (n : ℕ) → 1 ≤ n → n ≤ fields_to (c.version + 1) → field_in (raised_content c xs).fields n ≡ (page_after (raise xs) p).fields n
  fields_agree p h n from few =
      let v = c.version in
      let k = fields_to v in
      let gs = new_values v (field_in c.fields) xs in
      let l = field_total c s in
      let count = new_count v s.version_from to (field_in c.fields) xs in
      let numbers = new_numbers v s.version_from to (field_in c.fields) xs in
      let same : gs ≡ new_values v p.fields xs = new_same v s.version_from to (field_in c.fields) p.fields xs in
      entered_row (field_in (c.fields ++ gs)) p.fields k gs
      (λ m a b. old_field c.fields gs k m l a b ∙ h.fields m a b)
      (λ i z. new_field c.fields gs k i l)
      n from (omega arith)
      ∙ ap (λ (ns : List ℕ). with_values p.fields ns gs n) (sym numbers)
      ∙ ap (λ (ys : List ℕ). with_values p.fields (level_fields (v + 1)) ys n) same
      ∙ ap (λ (w : ℕ). with_values p.fields (level_fields (w + 1)) (filled_values (raise_filling w (sizes_in w p.fields)) xs) n) h.version

  -- the page in which the raise is entered agrees with it
  agrees_raise : (p : Page) → Agrees p c → Agrees (page_after (raise xs) p) (raised_content c xs)
  agrees_raise p h =
      let sizes = raised_sizes in
      record {
        version = ap (λ (y : ℕ). y + 1) h.version;
        fields = fields_agree p h;
        rows = λ cell row known.
            ap (λ (z : Sizes). part c.cells (row_in z cell row)) sizes ∙ h.rows cell row (subst (λ (z : Sizes). Row z cell row) sizes known);
        count = h.count ∙ ap (λ (ks : List Block). length ks) (s.blocks_from_six to);
        below = h.below;
        apart = h.apart;
      }

-- what a raise keeps: without blocks there is nothing that a mark could lose
pub raise_keeps : (xs : List ℕ) → Keeping (raise xs)
raise_keeps xs p c d s given room h e =
    let q = then_ok (all_of (raise_conditions c (length xs))) (Ok (raised_content c xs)) d e in
    let k = raisable c (length xs) q.0 in
    let is : raised_content c xs ≡ d = cc in
    subst (KeptBy (raise xs) p c) is (record {
      sound = sound_raised c xs s k.to given;
      agrees = agrees_raise c xs s k.to p h;
      follows = λ kind keeps numbers text m f.
          record {
            given = f.given;
            beside = subst (λ (ks : List Block). Beside (λ n x. n ≡ m → Showing kind numbers text x) p.marks ks) (s.blocks_from_six k.to) f.beside;
          };
    })
