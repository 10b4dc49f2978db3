-- Values that fit are written, each at its place.
use Rattle.std.proofs.Common.{◌≡◌, ℕ, ◌+◌, ◌<◌, ◌≤◌, List, [], ◌∷◌, length, ap, refl, ◌∙◌, arith}
use Rattle.std.proofs.lemmas.Bool.{and_from, le-leb, lt-ltb, cond-true}
use Rattle.buffers.proofs.Encoded.{be-length}
use Rattle.buffers.proofs.Lists.{written-length}
use Rattle.buffers.specs.Words.{size, limit, be}
use Rattle.format.specs.Header.{the_field}
use Rattle.headers.specs.Fields.{field_fits, header_with_field, put_header_field, put_values, plain_values}

-- the values fit their fields, which end within m bytes
abbrev pub Fits : ℕ → List ℕ → List ℕ → Type 0
Fits m [] xs = Unit {0}
Fits m (n ∷ ns) [] = Unit {0}
Fits m (n ∷ ns) (x ∷ xs) = ((the_field n).place + size (the_field n).width ≤ m) × (x < limit (the_field n).width) × Fits m ns xs

pub put_one : (b : List ℕ) (n x : ℕ) → (the_field n).place + size (the_field n).width ≤ length b → x < limit (the_field n).width → put_header_field b n x ≡ header_with_field b n x
put_one b n x inside fits =
    cond-true (field_fits b n x) _ _ (and_from _ _ (lt-ltb x (limit (the_field n).width) fits) (le-leb _ _ inside))

pub put_plain : (ns xs b : List ℕ) (m : ℕ) → length b ≡ m → Fits m ns xs → put_values b ns xs ≡ plain_values b ns xs
put_plain [] xs b m l f = refl
put_plain (n ∷ ns) [] b m l f = refl
put_plain (n ∷ ns) (x ∷ xs) b m l f =
    let inside : (the_field n).place + size (the_field n).width ≤ length b = omega (arith, f.0) in
    let long : length (header_with_field b n x) ≡ m =
    written-length b (the_field n).place (be (the_field n).width x) (omega (arith, be-length (the_field n).width x, inside)) ∙ l in
    ap (λ (y : List ℕ). put_values y ns xs) (put_one b n x inside f.1) ∙ put_plain ns xs (header_with_field b n x) m long f.2
