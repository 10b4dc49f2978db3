-- What is known of a draft that was begun: its sizes, its length, and that it is sound as far as it
-- goes.
use Rattle.std.proofs.Common.{◌≡◌, ℕ, ◌+◌, leb, not, ◌*◌, ◌^◌, ◌<◌, ◌≤◌, Bool, true, false, cond, List, [], ◌∷◌, map, length, drop, get_or, sym, refl, ap, ◌∙◌, subst, arith, rules}
use Rattle.std.proofs.ByRecursion.{All-drop, All-from_get_or}
use Rattle.std.proofs.lemmas.Bool.Decides.{nat_tests}
use Rattle.std.specs.List.{AllByRecursion, filter, range_with_len}
use Rattle.buffers.proofs.Lists.{written-length}
use Rattle.buffers.specs.Moves.{written}
use Rattle.buffers.specs.Words.{limit, size, be16}
use Rattle.format.specs.Content.{IsFitting, slots, start, write, content_sizes}
use Rattle.format.specs.Header.{the_field, field_count, header_end, is_steering}
use Rattle.format.specs.Rows.{bin_width, cell_size}
use Rattle.format.specs.Sizes.{most_ranges, most_bins, kind_has_quality}
use Rattle.headers.specs.Extents.{with_following}
use Rattle.headers.specs.Fields.{fields_filled, values_for, filled_values, with_fields}
use Rattle.headers.proofs.Plain.{Fits, put_plain}
use Rattle.editor.proofs.raised.RaisedFields.{Fitting, fit_of, value_fits}
use Rattle.draft.specs.declared.start.Start.{Start}
use Rattle.draft.specs.Drafts.{begin_given, begin_filling, start_sizes, begun_content}
use Rattle.draft.specs.steps.Headers.{with_begun}
use Rattle.draft.specs.Law.{IsGrowing, IsDraftOf}
use Rattle.draft.specs.Stages.{Numbers}
use Rattle.draft.proofs.Begun.{with_version, plain_written}
use Rattle.draft.proofs.Versions.{by_version}

-- a value of the caller's, or what a field is given, fits it
Takes : Start → ℕ → Bool → Type 0
Takes s n true = 2 ^ 32 ≤ limit (the_field n).width
Takes s n false = begin_given s n < limit (the_field n).width

below : (a b c : ℕ) → a < b → b ≤ c → a < c
below a b c h k = omega arith

values_fit : (s : Start) (ns xs : List ℕ) → AllByRecursion (λ n. Takes s n (not (is_steering n))) ns → AllByRecursion (λ x. x < 2 ^ 32) xs
    → Fitting (map (λ (n : ℕ). (the_field n).width) ns) (values_for (begin_filling s) ns xs)
unfolding Takes
values_fit s [] xs h k = tt
values_fit s (n ∷ ns) xs h k = by (not (is_steering n)) h.0 (values_fit s ns (drop 1 xs) h.1 (All-drop (λ x. x < 2 ^ 32) 1 xs k)) (values_fit s ns xs h.1 k)
  where
    by : (t : Bool) → Takes s n t → Fitting (map (λ (n : ℕ). (the_field n).width) ns) (values_for (begin_filling s) ns (drop 1 xs)) → Fitting (map (λ (n : ℕ). (the_field n).width) ns) (values_for (begin_filling s) ns xs)
        → Fitting (map (λ (n : ℕ). (the_field n).width) (n ∷ ns)) (cond t (get_or xs 0 0 ∷ values_for (begin_filling s) ns (drop 1 xs)) (begin_given s n ∷ values_for (begin_filling s) ns xs))
    by true h a b = (below (get_or xs 0 0) (2 ^ 32) (limit (the_field n).width) (value_fits xs k) h, a)
    by false h a b = (h, b)

-- the fields of a version, by number
abbrev pub fields_to : ℕ → List ℕ
fields_to v = filter (λ n. leb (the_field n).level v) (range_with_len 1 field_count)

-- fields that end by a place, and values within their widths, fit what has so many bytes
fits_all : (ns gs : List ℕ) (e m : ℕ) → e ≤ m → AllByRecursion (λ n. (the_field n).place + size (the_field n).width ≤ e) ns
    → Fitting (map (λ (n : ℕ). (the_field n).width) ns) gs → Fits m ns gs
fits_all [] gs e m l h k = tt
fits_all (n ∷ ns) [] e m l h k = tt
fits_all (n ∷ ns) (x ∷ gs) e m l h k = let end = h.0 in (omega arith, k.0, fits_all ns gs e m l h.1 k.1)

-- the numbers of a start are small
pub record Small (s : Start) : Type 0 where
  pub kind : s.kind < 2 ^ 16
  pub bins : s.bins < 2 ^ 32
  pub ranges : s.ranges < 2 ^ 32

-- what a begun content is, by its version
pub record Opened (s : Start) (xs : List ℕ) : Type 0 where
  pub fit : (d e : ℕ) → IsFitting (slots s.version d e) (begun_content s xs).fields
  pub fills : (m : ℕ) → header_end s.version ≤ m → Fits m (fields_filled (begin_filling s)) (filled_values (begin_filling s) xs)
  pub begins : start (begun_content s xs) ≡ header_end s.version
  pub long : length (write (begun_content s xs)) ≡ header_end s.version
  pub short : header_end s.version ≤ 104
  pub bins : (content_sizes (begun_content s xs)).bins ≡ s.bins
  pub ranges : (content_sizes (begun_content s xs)).ranges ≡ s.ranges
  pub channels : (content_sizes (begun_content s xs)).channels ≡ 3
  pub quality : (content_sizes (begun_content s xs)).quality ≡ kind_has_quality s.kind

four : (s : Start) (xs : List ℕ) → Small s → AllByRecursion (λ x. x < 2 ^ 32) xs → Opened (with_version 4 s) xs
unfolding Takes
four s xs m h =
    let kind = m.kind in
    let bins = m.bins in
    let ranges = m.ranges in
    let takes : AllByRecursion (λ n. Takes (with_version 4 s) n (not (is_steering n))) (fields_to 4) = search (rules, arith) in
    let inside : AllByRecursion (λ n. (the_field n).place + size (the_field n).width ≤ header_end 4) (fields_to 4) = search (rules, arith) in
    let fitting = values_fit (with_version 4 s) (fields_to 4) xs takes h in
    record {
      fit = λ d e. fit_of (slots 4 d e) (filled_values (begin_filling (with_version 4 s)) xs) fitting;
      fills = λ m room. fits_all (fields_to 4) (filled_values (begin_filling (with_version 4 s)) xs) (header_end 4) m room inside fitting;
      begins = refl;
      long = refl;
      short = omega arith;
      bins = refl;
      ranges = refl;
      channels = refl;
      quality = refl;
    }

five : (s : Start) (xs : List ℕ) → Small s → AllByRecursion (λ x. x < 2 ^ 32) xs → Opened (with_version 5 s) xs
unfolding Takes
five s xs m h =
    let kind = m.kind in
    let bins = m.bins in
    let ranges = m.ranges in
    let takes : AllByRecursion (λ n. Takes (with_version 5 s) n (not (is_steering n))) (fields_to 5) = search (rules, arith) in
    let inside : AllByRecursion (λ n. (the_field n).place + size (the_field n).width ≤ header_end 5) (fields_to 5) = search (rules, arith) in
    let fitting = values_fit (with_version 5 s) (fields_to 5) xs takes h in
    record {
      fit = λ d e. fit_of (slots 5 d e) (filled_values (begin_filling (with_version 5 s)) xs) fitting;
      fills = λ m room. fits_all (fields_to 5) (filled_values (begin_filling (with_version 5 s)) xs) (header_end 5) m room inside fitting;
      begins = refl;
      long = refl;
      short = omega arith;
      bins = refl;
      ranges = refl;
      channels = refl;
      quality = refl;
    }

six : (s : Start) (xs : List ℕ) → Small s → AllByRecursion (λ x. x < 2 ^ 32) xs → Opened (with_version 6 s) xs
unfolding Takes
six s xs m h =
    let kind = m.kind in
    let bins = m.bins in
    let ranges = m.ranges in
    let takes : AllByRecursion (λ n. Takes (with_version 6 s) n (not (is_steering n))) (fields_to 6) = search (rules, arith) in
    let inside : AllByRecursion (λ n. (the_field n).place + size (the_field n).width ≤ header_end 6) (fields_to 6) = search (rules, arith) in
    let fitting = values_fit (with_version 6 s) (fields_to 6) xs takes h in
    record {
      fit = λ d e. fit_of (slots 6 d e) (filled_values (begin_filling (with_version 6 s)) xs) fitting;
      fills = λ m room. fits_all (fields_to 6) (filled_values (begin_filling (with_version 6 s)) xs) (header_end 6) m room inside fitting;
      begins = refl;
      long = refl;
      short = omega arith;
      bins = refl;
      ranges = refl;
      channels = refl;
      quality = refl;
    }

pub opened : (s : Start) (xs : List ℕ) → 4 ≤ s.version → s.version ≤ 6 → Small s → AllByRecursion (λ x. x < 2 ^ 32) xs → Opened s xs
opened s xs from to m h = by_version (λ v. Opened (with_version v s) xs) (four s xs m h) (five s xs m h) (six s xs m h) s.version from to

-- a draft that is begun is sound as far as it goes
growing : (s : Start) (xs : List ℕ) → 4 ≤ s.version → s.version ≤ 6 → (1 ≤ s.bins) × (s.bins ≤ most_bins) → (1 ≤ s.ranges) × (s.ranges ≤ most_ranges) → Opened s xs → IsGrowing (begun_content s xs)
growing s xs from to bins ranges o =
    let begins = o.begins in
    let short = o.short in
    record {
      cells_bytes = tt;
      whole = λ cells fit long.
          record {
            version_from = omega arith;
            version_to = omega arith;
            fields_fit = o.fit _ _;
            reach = omega arith;
            bins_from = subst (λ (n : ℕ). 1 ≤ n) (sym o.bins) bins.0;
            bins_to = subst (λ (n : ℕ). n ≤ most_bins) (sym o.bins) bins.1;
            ranges_from = subst (λ (n : ℕ). 1 ≤ n) (sym o.ranges) ranges.0;
            ranges_to = subst (λ (n : ℕ). n ≤ most_ranges) (sym o.ranges) ranges.1;
            channels = o.channels;
            blocks_fit = tt;
            blocks_from_six = λ early. refl;
            gap_bytes = tt;
            cells_bytes = fit;
            tail_bytes = tt;
            cells_whole = long;
          };
    }

-- the numbers of such a draft
pub stands_begun : (s : Start) (xs : List ℕ) (d : Numbers) → 4 ≤ s.version → s.version ≤ 6 → (1 ≤ s.bins) × (s.bins ≤ most_bins) → (1 ≤ s.ranges) × (s.ranges ≤ most_ranges) → Opened s xs
    → d.version ≡ s.version → d.cells ≡ s.ranges → d.cell ≡ cell_size (start_sizes s) → d.size ≡ header_end s.version → d.laid ≡ 0 → IsDraftOf (begun_content s xs) d
stands_begun s xs d from to bins ranges o v n c z l =
    record {
      growing = growing s xs from to bins ranges o;
      no_gap = refl;
      no_tail = refl;
      version_is = v;
      cells_is = n ∙ sym o.ranges;
      cell_is = c ∙ ap (λ (k : ℕ). k * bin_width (start_sizes s)) (sym o.bins)
          ∙ ap (λ (q : Bool). (content_sizes (begun_content s xs)).bins * bin_width (record (start_sizes s) { quality = q })) (sym o.quality);
      size_is = z ∙ sym o.long;
      laid_is = let none : 0 ≡ 0 * d.cell = omega arith in none ∙ sym (ap (λ (k : ℕ). k * d.cell) l);
      few = omega arith;
    }

-- the same, from what is known of the arguments
pub opens : (s : Start) (xs : List ℕ) → (4 ≤ s.version) × (s.version ≤ 6) → s.kind < 2 ^ 16 → (1 ≤ s.bins) × (s.bins ≤ most_bins) → (1 ≤ s.ranges) × (s.ranges ≤ most_ranges) → ((i : ℕ) → get_or xs i 0 < 2 ^ 32) → Opened s xs
opens s xs version kind bins ranges small =
    let b = bins.1 in
    let r = ranges.1 in
    opened s xs version.0 version.1 (record { kind = kind; bins = omega arith; ranges = omega arith }) (All-from_get_or (λ x. x < 2 ^ 32) xs 0 (λ i l. small i))

front : (v : ℕ) → 2 ≤ header_end v
front v = grind (arith, nat_tests)

-- the words that were written one after the other are the writing of the content
pub header_written : (b : List ℕ) (s : Start) (xs : List ℕ) → 4 ≤ s.version → s.version ≤ 6 → header_end s.version ≤ length b → Opened s xs
    → with_begun b s xs ≡ written b 0 (write (begun_content s xs))
unfolding with_fields
header_written b s xs from to room o =
    let v = s.version in
    let first = written b 0 (be16 v) in
    let short : 2 ≤ length b = omega (arith, front v) in
    let long : length first ≡ length b = written-length b 0 (be16 v) short in
    let f = begin_filling s in
    ap (λ (y : List ℕ). with_following y v (header_end v) 0)
    (put_plain (fields_filled f) (filled_values f xs) first (length b) long (o.fills (length b) room))
    ∙ plain_written b s xs from to room
