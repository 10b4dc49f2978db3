-- What each check passes, in words of the bytes: a file is accepted exactly when all of these hold.
use Rattle.std.proofs.Common.{◌≡◌, ℕ, zero, suc, ◌+◌, ◌-◌, ◌^◌, ◌<◌, ◌≤◌, Bool, true, false, ◌&&◌, leb, List, [], ◌∷◌, ◌++◌, map, length, drop, pos, is_ok, Ok, Err, Decides, Result, refl, ⊎_elim, arith, w16, w32, to_z}
use lib.Signed.{le_z}
use Rattle.std.proofs.lemmas.Int.{to_z_pos}
use Rattle.std.proofs.lemmas.Bool.{cases_lt, le-ltb, lt-ltb, le-leb, leb-true, false≢true}
use Rattle.std.specs.List.{AllByRecursion}
use Rattle.std.proofs.lemmas.Bool.Decides.{Decides-and, Decides-ltb, Decides-eqb}
use Rattle.buffers.specs.Words.{word32}
use Rattle.faults.specs.declared.fault.Fault.{Fault}
use Rattle.format.specs.declared.extents.Extent.{Extent}
use Rattle.format.specs.Checks.{Check, unless, from, ◌then◌, first_of, passed}
use Rattle.format.specs.Header.{version, extents, the_extent, extent_end, section_begin, header_end, start_by, data_start, section_size}
use Rattle.format.specs.Judging.{extent_covers, extent_agrees, agreeing_checks, size_checks, holding_checks, filling_checks, blocks_of, layout_of, judged}
use Rattle.format.specs.Rows.{cells_size}
use Rattle.format.specs.Sizes.{most_ranges, most_bins, sizes_of}

then_tells : {X P Q : Type 0} (c : Check) (n : Result X Fault) → Decides (is_ok c) P → Decides (is_ok n) Q → Decides (is_ok (c then n)) (P × Q)
then_tells (Ok u) n p q = ((λ h. (p.0 refl, q.0 h)), λ h. q.1 h.1)
then_tells (Err e) n p q = ((λ h. absurd (false≢true h)), λ h. p.1 h.0)

unless_tells : {P : Type 0} (t : Bool) (f : Fault) → Decides t P → Decides (is_ok (unless t f)) P
unless_tells true f d = d
unless_tells false f d = d

passed_tells : {X : Type 0} (r : Result X Fault) → Decides (is_ok (passed r)) (is_ok r ≡ true)
passed_tells (Ok x) = ((λ h. h), λ h. h)
passed_tells (Err f) = ((λ h. h), λ h. h)

from_tells : {P : Type 0} (i v : ℕ) (c : Check) → Decides (is_ok c) P → Decides (is_ok (from i v c)) (i ≤ v → P)
from_tells i v c d =
    ⊎_elim
    (λ (l : v < i). rw (lt-ltb v i l) ((λ h m. absurd (omega arith)), λ h. refl))
    (λ (l : i ≤ v). rw (le-ltb v i l) ((λ h m. d.0 h), λ h. d.1 (h l)))
    (cases_lt v i)

leb_tells : (a b : ℕ) → Decides (leb a b) (a ≤ b)
leb_tells a b = (leb-true a b, le-leb a b)

within_tells : (lo a hi : ℕ) (f : Fault) → Decides (is_ok (unless (leb lo a && leb a hi) f)) ((lo ≤ a) × (a ≤ hi))
within_tells lo a hi f = unless_tells _ f (Decides-and (leb lo a) (leb a hi) (leb_tells lo a) (leb_tells a hi))

-- a signed 32-bit number that is not below a natural
reaches_tells : (x m : ℕ) → Decides (le_z (pos m) (to_z w32 x)) ((x < 2 ^ 31) × (m ≤ x))
reaches_tells x m =
    ⊎_elim
    (λ (l : x < 2 ^ 31). rw (to_z_pos w32 x l) ((λ h. (l, leb-true m x h)), λ h. le-leb m x h.1))
    (λ (l : 2 ^ 31 ≤ x). rw (le-ltb x (2 ^ 31) l) ((λ h. absurd (false≢true h)), λ h. absurd (omega (arith, h.0))))
    (cases_lt x (2 ^ 31))

-- a signed 16-bit number from 1 to 32
version_tells : (x : ℕ) → Decides (le_z (pos 1) (to_z w16 x) && le_z (to_z w16 x) (pos 32)) ((1 ≤ x) × (x ≤ 32))
version_tells x =
    ⊎_elim
    (λ (l : x < 2 ^ 15). rw (to_z_pos w16 x l) (Decides-and (leb 1 x) (leb x 32) (leb_tells 1 x) (leb_tells x 32)))
    (λ (l : 2 ^ 15 ≤ x). rw (le-ltb x (2 ^ 15) l) ((λ h. absurd (false≢true h)), λ h. absurd (omega (arith, h.1))))
    (cases_lt x (2 ^ 15))

-- what an extent's check passes
abbrev pub Covers : List ℕ → ℕ → Extent → Type 0
Covers b v e = e.level ≤ v → (word32 b e.place < 2 ^ 31) × (header_end v - extent_end e ≤ word32 b e.place)

covers_tells : (b : List ℕ) (v : ℕ) (e : Extent) → Decides (is_ok (extent_covers b v e)) (Covers b v e)
covers_tells b v e = from_tells e.level v _ (unless_tells _ _ (reaches_tells (word32 b e.place) (header_end v - extent_end e)))

abbrev pub Agrees : List ℕ → ℕ → Extent → Type 0
Agrees b v e = e.level ≤ v → start_by b e ≡ data_start b

agrees_tells : (b : List ℕ) (v : ℕ) (e : Extent) → Decides (is_ok (extent_agrees b v e)) (Agrees b v e)
agrees_tells b v e = from_tells e.level v _ (unless_tells _ _ (Decides-eqb (start_by b e) (data_start b)))

-- a check of each entry of a table, and then other checks
listed_tells : {E X : Type 0} {P : E → Type 0} {Q : Type 0} (check : E → Check) → ((e : E) → Decides (is_ok (check e)) (P e))
    → (es : List E) (rest : List Check) (x : X) → Decides (is_ok (first_of rest x)) Q
    → Decides (is_ok (first_of (map check es ++ rest) x)) (AllByRecursion P es × Q)
listed_tells check t [] rest x d = ((λ h. (tt, d.0 h)), λ h. d.1 h.1)
listed_tells check t (e ∷ es) rest x d =
    let p = then_tells (check e) _ (t e) (listed_tells check t es rest x d) in
    ((λ h. let q = p.0 h in ((q.0, q.1.0), q.1.1)), λ h. p.1 (h.0.0, (h.0.1, h.1)))

-- what an accepted file keeps, check by check
pub record Rules (b : List ℕ) (v : ℕ) : Type 0 where
  pub long : 10 < length b
  pub version_from : 1 ≤ v
  pub version_to : v ≤ 32
  pub header_inside : header_end v < length b
  pub covers : AllByRecursion (Covers b v) extents
  pub agrees : AllByRecursion (Agrees b v) (drop 1 extents)
  pub bins : 4 ≤ v → (1 ≤ (sizes_of b v).bins) × ((sizes_of b v).bins ≤ most_bins)
  pub ranges : 4 ≤ v → (1 ≤ (sizes_of b v).ranges) × ((sizes_of b v).ranges ≤ most_ranges)
  pub channels : 5 ≤ v → (sizes_of b v).channels ≡ 3
  pub cells_inside : data_start b + cells_size (sizes_of b v) ≤ length b
  pub section_inside : 6 ≤ v → section_begin + section_size b v ≤ data_start b
  pub blocks_pass : is_ok (blocks_of b v) ≡ true

-- extent 1, which every file has, reaches the header's end
pub first_covers : (b : List ℕ) (v : ℕ) → Rules b v → (word32 b 6 < 2 ^ 31) × (header_end v - 10 ≤ word32 b 6)
first_covers b v r = r.covers.0 r.version_from

-- every extent that the version has leads to where the data begin
pub each_agrees : (b : List ℕ) (v i : ℕ) → Rules b v → 1 ≤ i → i ≤ 5 → i ≤ v → start_by b (the_extent i) ≡ data_start b
each_agrees b v zero r from to has = absurd (omega arith)
each_agrees b v (suc zero) r from to has = refl
each_agrees b v (suc (suc zero)) r from to has = r.agrees.0 has
each_agrees b v (suc (suc (suc zero))) r from to has = r.agrees.1.0 has
each_agrees b v (suc (suc (suc (suc zero)))) r from to has = r.agrees.1.1.0 has
each_agrees b v (suc (suc (suc (suc (suc zero))))) r from to has = r.agrees.1.1.1.0 has
each_agrees b v (suc (suc (suc (suc (suc (suc i)))))) r from to has = absurd (omega arith)

pub judged_tells : (b : List ℕ) → Decides (is_ok (judged b)) (Rules b (version b))
judged_tells b =
    let v = version b in
    let s = sizes_of b v in
    let in_order =
    then_tells _ _ (unless_tells _ _ (Decides-ltb 10 (length b)))
    (then_tells _ _ (unless_tells _ _ (version_tells v))
    (then_tells _ _ (unless_tells _ _ (Decides-ltb (header_end v) (length b)))
    (listed_tells (extent_covers b v) (covers_tells b v) extents (agreeing_checks b v ++ (size_checks b v ++ (holding_checks b v ++ filling_checks b v))) (layout_of b)
    (listed_tells (extent_agrees b v) (agrees_tells b v) (drop 1 extents) (size_checks b v ++ (holding_checks b v ++ filling_checks b v)) (layout_of b)
    (then_tells _ _ (from_tells 4 v _ (within_tells 1 s.bins most_bins _))
    (then_tells _ _ (from_tells 4 v _ (within_tells 1 s.ranges most_ranges _))
    (then_tells _ _ (from_tells 5 v _ (unless_tells _ _ (Decides-eqb s.channels 3)))
    (then_tells _ _ (unless_tells _ _ (leb_tells (data_start b + cells_size s) (length b)))
    (then_tells _ _ (from_tells 6 v _ (unless_tells _ _ (leb_tells (section_begin + section_size b v) (data_start b))))
    (then_tells _ _ (passed_tells (blocks_of b v)) ((λ h. tt {0}), λ h. refl))))))))))) in (
      λ h.
          let (long, (versions, (inside, (covered, (agreed, (bins, (ranges, (channels, (cells, (room, (blocks, _))))))))))) = in_order.0 h in
          record {
            long = long;
            version_from = versions.0;
            version_to = versions.1;
            header_inside = inside;
            covers = covered;
            agrees = agreed;
            bins = bins;
            ranges = ranges;
            channels = channels;
            cells_inside = cells;
            section_inside = room;
            blocks_pass = blocks;
          },
      λ r.
          in_order.1 (
            r.long,
            ((r.version_from, r.version_to), (r.header_inside, (r.covers, (r.agrees, (r.bins, (r.ranges, (r.channels, (r.cells_inside, (r.section_inside, (r.blocks_pass, tt)))))))))),
          ),
    )
