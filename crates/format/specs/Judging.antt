-- Judging a file: the checks in their order, and what an accepted file is shown as.
use Rattle.std.specs.Prelude.{◌≡◌, ℕ, ◌+◌, ◌-◌, ◌≤◌, Bool, cond, ◌&&◌, List, [], ◌∷◌, ◌++◌, map, length, drop, pos, Ok, Err, Result, MatchResult, ◌==◌, int_le, nat_le, nat_lt}
use Rattle.buffers.specs.Words.{int16, int32}
use Rattle.faults.specs.declared.fault.Fault.{Fault}
use Rattle.faults.specs.declared.refusal.Refusal.TheVariants.{TooFewBytes, Version, ExtentTooSmall, ExtentsDisagree, Bins, Cells, Channels, SectionTooLong, DataCut}
use Rattle.faults.specs.Faults.{fault}
use Rattle.faults.specs.Numbers.{layer_number}
use Rattle.format.specs.declared.judging.Layout.{Layout}
use Rattle.format.specs.declared.extents.Extent.{Extent}
use Rattle.format.specs.Checks.{Check, unless, from, ◌with◌, first_of, all_of, passed, IsPassed, IsFirstFault}
use Rattle.format.specs.Header.{version, the_field, extents, the_extent, extent_end, section_begin, section_size_place, header_end, start_by, data_start, section_size}
use Rattle.format.specs.Rows.{cells_size}
use Rattle.format.specs.Section.{section_blocks, IsTiled, IsCut}
use Rattle.format.specs.Sizes.{most_ranges, most_bins, sizes_of}

-- the file has more bytes than that
abbrev pub longer_than : List ℕ → ℕ → Check
longer_than b end = unless (nat_lt end (length b)) (fault TooFewBytes 0)

-- the version, as a signed number, is one of 1 to 32
abbrev pub version_known : List ℕ → Check
version_known b =
    unless (int_le (pos 1) (int16 b 0) && int_le (int16 b 0) (pos 32)) (fault Version 0)

-- checks 1 to 3: the version is known, and the file is longer than its header
abbrev pub opening_checks : List ℕ → List Check
opening_checks b = longer_than b (extent_end (the_extent 1)) ∷ version_known b
    ∷ longer_than b (header_end (version b)) ∷ []

-- an extent reaches at least to the header's end
abbrev pub extent_covers : List ℕ → ℕ → Extent → Check
extent_covers b v e =
    from e.level v
    (unless (int_le (pos (header_end v - extent_end e)) (int32 b e.place)) (fault ExtentTooSmall e.place))

-- check 4: every extent that the version has covers the header
abbrev pub covering_checks : List ℕ → ℕ → List Check
covering_checks b v = map (extent_covers b v) extents

-- an extent leads to the same place as extent 1
abbrev pub extent_agrees : List ℕ → ℕ → Extent → Check
extent_agrees b v e =
    from e.level v (unless (start_by b e == data_start b) (fault ExtentsDisagree e.place))

-- check 5: all extents lead to one place
abbrev pub agreeing_checks : List ℕ → ℕ → List Check
agreeing_checks b v = map (extent_agrees b v) (drop 1 extents)

-- checks 6 and 7: the counts of bins, cells and channels are in range
abbrev pub is_bin_count : ℕ → Bool
is_bin_count n = nat_le 1 n && nat_le n most_bins

abbrev pub is_range_count : ℕ → Bool
is_range_count n = nat_le 1 n && nat_le n most_ranges

abbrev pub size_checks : List ℕ → ℕ → List Check
size_checks b v =
    from 4 v (unless (is_bin_count (sizes_of b v).bins) (fault Bins (the_field 11).place))
    ∷ from 4 v (unless (is_range_count (sizes_of b v).ranges) (fault Cells (the_field 12).place))
    ∷ from 5 v (unless ((sizes_of b v).channels == 3) (fault Channels (the_field 19).place))
    ∷ []

-- checks 8 and 9: the cells lie within the file, and the section of blocks before them
abbrev pub holding_checks : List ℕ → ℕ → List Check
holding_checks b v =
    unless (nat_le (data_start b + cells_size (sizes_of b v)) (length b)) (fault DataCut (data_start b))
    ∷ from 6 v (unless (nat_le (section_begin + section_size b v) (data_start b)) (fault SectionTooLong section_size_place))
    ∷ []

-- the count of a file's blocks, or the fault of the first that does not fit; below version 6 there
-- are none
abbrev pub blocks_of : List ℕ → ℕ → Result ℕ Fault
blocks_of b v = cond (nat_lt v 6) (Ok 0) (section_blocks b (section_begin + section_size b v))

-- check 10: the blocks fill the section
abbrev pub filling_checks : List ℕ → ℕ → List Check
filling_checks b v = passed (blocks_of b v) ∷ []

-- all checks, in their order
abbrev pub checks : List ℕ → List Check
checks b =
    let v = version b in
    opening_checks b
    ++ (covering_checks b v
    ++ (agreeing_checks b v ++ (size_checks b v ++ (holding_checks b v ++ filling_checks b v))))

abbrev pub block_count_of : Result ℕ Fault → ℕ
block_count_of (Ok n) = n
block_count_of (Err f) = 0

-- what an accepted file of version v with n blocks is shown as
abbrev pub layout_with : List ℕ → ℕ → ℕ → Layout
layout_with b v n =
    record {
      version = v;
      start = data_start b;
      sizes = sizes_of b v;
      section = section_size b v;
      blocks = n;
    }

abbrev pub layout_of : List ℕ → Layout
layout_of b = layout_with b (version b) (block_count_of (blocks_of b (version b)))

-- judging: the fault of the first check that fails, or else the layout
abbrev pub judged : List ℕ → Result Layout Fault
judged b = first_of (checks b) (layout_of b)

-- the same, one group of checks after the other
abbrev pub judged_in_groups : List ℕ → Result Layout Fault
judged_in_groups b =
    first_of (opening_checks b) (version b) with λ v.
    all_of (covering_checks b v) with λ _.
    all_of (agreeing_checks b v) with λ _.
    first_of (size_checks b v) (sizes_of b v) with λ _.
    all_of (holding_checks b v) with λ _.
    blocks_of b v with λ n.
    Ok (layout_with b v n)

-- the refusal is the first check of the list that fails; an accepted file passes all, and its
-- layout is shown
abbrev pub IsFirstRefusal : List ℕ → Result Layout Fault → Type 0
IsFirstRefusal b r =
    MatchResult r (λ l. (l ≡ layout_of b) × IsPassed (checks b)) (IsFirstFault (checks b))

-- the blocks of an accepted file fill its section, and below version 6 there are none
pub record IsFilled (b : List ℕ) (l : Layout) : Type 0 where
  pub tiled : 6 ≤ l.version → IsTiled b (section_begin + l.section) l.blocks
  pub early : l.version ≤ 5 → l.blocks ≡ 0

-- a refusal at the layer section, number 3, tells of a block after whole ones that the section's
-- end cuts
abbrev pub IsCutThere : List ℕ → Fault → Type 0
IsCutThere b f = layer_number f.layer ≡ 3 → IsCut b (section_begin + section_size b (version b)) f
