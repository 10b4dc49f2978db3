-- The sizes of a file's data: the one place that says how many cells, bins and channels there are.
use Rattle.std.specs.Prelude.{ℕ, Bool, ◌&&◌, List, pos, int_le, nat_le, nat_lt, if◌then◌else◌}
use Rattle.std.specs.Int.{w16}
use Rattle.std.proofs.Common.{to_z}
use Rattle.format.specs.declared.sizes.Sizes.{Sizes}
use Rattle.format.specs.Header.{field_pattern}

-- a file below version 4 is assumed to have so many range cells, of so many bins
abbrev pub early_ranges : ℕ
early_ranges = 31

abbrev pub early_bins : ℕ
early_bins = 512

-- a file has at most so many range cells, of at most so many bins
abbrev pub most_ranges : ℕ
most_ranges = 8192

abbrev pub most_bins : ℕ
most_bins = 32768

-- field 2, taken as signed, says that there is a quality row: it is at least 2
abbrev pub kind_has_quality : ℕ → Bool
kind_has_quality kind = int_le (pos 2) (to_z w16 kind)

-- a quality row is present from version 2 on, where field 2 says so
abbrev pub quality_in : ℕ → (ℕ → ℕ) → Bool
quality_in v value = nat_le 2 v && kind_has_quality (value 2)

-- the sizes of a file of version v whose field n has the pattern `value n`: below version 4 they
-- are assumed, and the first range cell has the number 1; below version 5 there are 3 channels
abbrev pub sizes_in : ℕ → (ℕ → ℕ) → Sizes
sizes_in v value =
    record {
      ranges = if nat_lt v 4 then early_ranges else value 12;
      bins = if nat_lt v 4 then early_bins else value 11;
      channels = if nat_lt v 5 then 3 else value 19;
      first = if nat_lt v 4 then 1 else value 13;
      quality = quality_in v value;
    }

-- the sizes that a file's header gives
abbrev pub has_quality : List ℕ → ℕ → Bool
has_quality b v = quality_in v (field_pattern b)

abbrev pub sizes_of : List ℕ → ℕ → Sizes
sizes_of b v = sizes_in v (field_pattern b)
