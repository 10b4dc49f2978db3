-- Fields written into a header.
use Rattle.std.specs.Prelude.{ℕ, Bool, cond, ◌&&◌, List, [], ◌∷◌, drop, length, if◌then◌else◌, nat_lt, slice_index}
use Rattle.std.specs.List.{filter, range_with_len}
use Rattle.buffers.specs.Moves.{room, written}
use Rattle.buffers.specs.Words.{size, limit, be}
use Rattle.format.specs.Header.{field_count, the_field}

-- the value x fits field n, which lies in the buffer
abbrev pub field_fits : List ℕ → ℕ → ℕ → Bool
field_fits b n x =
    nat_lt x (limit (the_field n).width) && room b (the_field n).place (size (the_field n).width)

-- field n has the value x
abbrev pub header_with_field : List ℕ → ℕ → ℕ → List ℕ
header_with_field b n x = written b (the_field n).place (be (the_field n).width x)

-- the same where it fits; else all is as it was
abbrev pub put_header_field : List ℕ → ℕ → ℕ → List ℕ
put_header_field b n x = if field_fits b n x then header_with_field b n x else b

-- how a header is filled: which fields are written, which of them take a value of the caller's, and
-- what the others are given
pub record FillingSpec : Type 0 where
  pub has : ℕ → Bool
  pub takes : ℕ → Bool
  pub given : ℕ → ℕ

-- the fields that are written, by number
abbrev pub fields_filled : FillingSpec → List ℕ
fields_filled f = filter f.has (range_with_len 1 field_count)

-- the values of fields in order, those that are taken from the caller's values in their order; a
-- value that is lacking is 0
abbrev pub values_for : FillingSpec → List ℕ → List ℕ → List ℕ
values_for f [] xs = []
values_for f (n ∷ ns) xs =
    cond (f.takes n) (slice_index xs 0 ∷ values_for f ns (drop 1 xs)) (f.given n
    ∷ values_for f ns xs)

-- the values of all fields that are written, and how many of them are the caller's
abbrev pub filled_values : FillingSpec → List ℕ → List ℕ
filled_values f xs = values_for f (fields_filled f) xs

abbrev pub values_wanted : FillingSpec → ℕ
values_wanted f = length (filter f.takes (fields_filled f))

-- values are written into fields, in turn, each where it fits
abbrev pub put_values : List ℕ → List ℕ → List ℕ → List ℕ
put_values b [] xs = b
put_values b (n ∷ ns) [] = b
put_values b (n ∷ ns) (x ∷ xs) = put_values (put_header_field b n x) ns xs

-- the same, of values that all fit
abbrev pub plain_values : List ℕ → List ℕ → List ℕ → List ℕ
plain_values b [] xs = b
plain_values b (n ∷ ns) [] = b
plain_values b (n ∷ ns) (x ∷ xs) = plain_values (header_with_field b n x) ns xs

-- a buffer whose header is filled
unfoldable pub with_fields : List ℕ → FillingSpec → List ℕ → List ℕ
with_fields b f xs = put_values b (fields_filled f) (filled_values f xs)
