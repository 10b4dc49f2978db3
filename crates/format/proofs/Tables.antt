-- The code's table of fields says what the definition's says.
use Rattle.std.proofs.Common.{◌≡◌, ℕ, ◌<◌, List, map, length, get_or, sym, ap, ◌∙◌, refl}
use Rattle.std.proofs.lemmas.List.{get_or-map}
use Rattle.buffers.specs.Words.{four, size}
use Rattle.format.specs.declared.fields.FieldLayout.{FieldLayout}
use Rattle.format.specs.declared.fields.TheConstants.{FIELDS}
use Rattle.format.specs.Header.{FieldEntry, field, fields}

-- two tables of one length of which a column is the same have the same entry in each row
same_entry : {A B : Type 0} (xs : List A) (ys : List B) (f : A → ℕ) (g : B → ℕ) (i : ℕ) (x : A) (y : B) → map f xs ≡ map g ys
    → i < length xs → i < length ys → f (get_or xs i x) ≡ g (get_or ys i y)
same_entry xs ys f g i x y e l m =
    sym (get_or-map f xs i x 0 l) ∙ ap (λ (zs : List ℕ). get_or zs i 0) e ∙ get_or-map g ys i y 0 m

pub same_level : (i : ℕ) (x : FieldLayout) → i < 20 → (get_or FIELDS i x).0 ≡ (get_or fields i (field 0 0 four)).level
same_level i x l = same_entry FIELDS fields (λ (r : FieldLayout). r.0) (λ (f : FieldEntry). f.level) i x (field 0 0 four) refl l l

pub same_place : (i : ℕ) (x : FieldLayout) → i < 20 → (get_or FIELDS i x).1 ≡ (get_or fields i (field 0 0 four)).place
same_place i x l = same_entry FIELDS fields (λ (r : FieldLayout). r.1) (λ (f : FieldEntry). f.place) i x (field 0 0 four) refl l l

pub same_size : (i : ℕ) (x : FieldLayout) → i < 20 → (get_or FIELDS i x).2 ≡ size (get_or fields i (field 0 0 four)).width
same_size i x l = same_entry FIELDS fields (λ (r : FieldLayout). r.2) (λ (f : FieldEntry). size f.width) i x (field 0 0 four) refl l l
