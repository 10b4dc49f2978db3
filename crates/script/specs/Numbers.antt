-- Decimal numbers.
use Rattle.std.specs.Prelude.{◌≡◌, ℕ, ◌<◌, List, Some, None, Option, FitsSigned}
use Rattle.std.specs.Int.{w16}
use Rattle.std.proofs.Common.{of_z}
use Rattle.std.specs.Str.Parse.{IsNumeral, digits_value, signed_digits_value, without_leading_plus, without_leading_sign}
use Rattle.buffers.specs.Words.{limit}
use Rattle.kinds.specs.Packed.{Part, plain, signed}
use Rattle.script.specs.Arguments.{argument}

-- an argument that is a decimal numeral, perhaps after a plus sign, of a number that fits the part;
-- for a signed part also after a minus sign
abbrev pub IsNumeralFor : Part → List ℕ → Type 0
IsNumeralFor (plain w) t =
    IsNumeral 10 (without_leading_plus t) × (digits_value 10 (without_leading_plus t) < limit w)
IsNumeralFor signed t =
    IsNumeral 10 (without_leading_sign t) × FitsSigned w16 (signed_digits_value 10 t)

-- the number that its digits have, as a record has it in its list: a signed one as its bit pattern
abbrev pub number_for : Part → List ℕ → ℕ
number_for (plain w) t = digits_value 10 (without_leading_plus t)
number_for signed t = of_z w16 (signed_digits_value 10 t)

-- an argument writes that number of a part, and any other argument none
abbrev pub NamesNumber : {N : Type 0} → (N → ℕ) → Part → List ℕ → Option N → Type 0
NamesNumber number p t (Some n) = IsNumeralFor p t × (number n ≡ number_for p t)
NamesNumber number p t None = IsNumeralFor p t → ⊥

-- the first argument of a text writes that number of a part
abbrev pub ReadsNumber : Part → List ℕ → ℕ → Type 0
ReadsNumber p t n = IsNumeralFor p (argument t) × (n ≡ number_for p (argument t))
