-- The numbers of a record's fields, written as its parts ask.
use Rattle.std.proofs.Common.{◌≡◌, ℕ, ℤ, FitsSigned, w16, of_z, to_z-of_z, List, [], ◌∷◌, ◌++◌, ◌∙◌, codes, decimal, sym, ap, refl, arith}
use Rattle.std.specs.List.{flat_map}
use Rattle.buffers.specs.Words.{Width, one, two, four, eight}
use Rattle.kinds.specs.Packed.{Part, plain, signed}
use Rattle.script.specs.Fields.{HaveNumbers, IsNumeralOf, numeral_for, part_text, signed_text, numeral_text, field_argument, arguments_for}
use Rattle.script.specs.declared.fields.NamedNumeral.{NamedNumeral}
use Rattle.script.specs.declared.fields.Numeral.{Numeral}
use Rattle.script.specs.declared.fields.Numeral.TheVariants.{Unsigned, Signed, Float}

-- a signed number, given as its bit pattern, is written with its sign
part_text_signed : (z : ℤ) → FitsSigned w16 z → part_text signed (of_z w16 z) ≡ signed_text z
part_text_signed z f = ap signed_text (to_z-of_z f)

-- an unsigned number is written so, whatever its width
unsigned_written : (w : Width) (n : ℕ) → numeral_text (numeral_for w n) ≡ decimal n
unsigned_written one n = refl
unsigned_written two n = refl
unsigned_written four n = refl
unsigned_written eight n = refl

-- a number is written as its part asks
numeral_written : (p : Part) (n : ℕ) (x : Numeral) → IsNumeralOf p n x → numeral_text x ≡ part_text p n
numeral_written (plain w) n x is = ap numeral_text is ∙ unsigned_written w n
numeral_written signed n (Unsigned m) is = elim is [ ]
numeral_written signed n (Signed z) is = sym (part_text_signed z is.0) ∙ ap (part_text signed) is.1
numeral_written signed n (Float m) is = elim is [ ]

-- and so are all, in order
pub numbers_written : (ps : List Part) (ns : List ℕ) (fs : List NamedNumeral) → HaveNumbers ps ns fs
    → flat_map field_argument fs ≡ arguments_for ps ns
numbers_written [] ns [] is = refl
numbers_written [] ns (f ∷ fs) is = elim is [ ]
numbers_written (p ∷ ps) [] fs is = elim is [ ]
numbers_written (p ∷ ps) (n ∷ ns) [] is = elim is [ ]
numbers_written (p ∷ ps) (n ∷ ns) (f ∷ fs) is =
    rw (numeral_written p n f.1 is.0, numbers_written ps ns fs is.1) refl
