-- Signed numbers and their bit patterns.
use Rattle.std.proofs.Common.{◌≡◌, ℤ, FitsSigned, w16, of_z, to_z, to_z-of_z, sym, ap, ◌∙◌}

-- signed numbers of 16 bits that have the same pattern are the same
pub same_pattern : (x y : ℤ) → FitsSigned w16 x → FitsSigned w16 y → of_z w16 x ≡ of_z w16 y → x ≡ y
same_pattern x y f g e = sym (to_z-of_z f) ∙ ap (to_z w16) e ∙ to_z-of_z g
