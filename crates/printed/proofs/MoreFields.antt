-- One more field, at the end of those that are listed.
use Rattle.std.proofs.Common.{◌≡◌, ℕ, ◌+◌, ◌<◌, List, [], ◌∷◌, ◌++◌, codes, length, take, get_or, subst, ◌∙◌, sym, ap, refl}
use Rattle.std.proofs.lemmas.List.{append_assoc, append-nil, take_more}
use Rattle.script.specs.declared.fields.NamedNumeral.{NamedNumeral}
use Rattle.printed.specs.Named.{IsFieldText, AreMoreFields, IsFieldList}

pub more_field : (fs : List NamedNumeral) (f : NamedNumeral) (t a : List ℕ) → AreMoreFields fs t → IsFieldText f a
    → AreMoreFields (fs ++ f ∷ []) (t ++ (codes ", " ++ a))
more_field [] f t a is shown =
    (a, ([], (ap (λ (l : List ℕ). l ++ (codes ", " ++ a)) is ∙ ap (λ (l : List ℕ). codes ", " ++ l) (sym (append-nil a)), (shown, refl))))
more_field (g ∷ fs) f t a is shown =
    let first = is.0 in
    let more = is.1.0 in (
      first,
      (
        more ++ (codes ", " ++ a),
        (
          ap (λ (l : List ℕ). l ++ (codes ", " ++ a)) is.1.1.0 ∙ ap (λ (l : List ℕ). codes ", " ++ l) (append_assoc first more (codes ", " ++ a)),
          (is.1.1.1.0, more_field fs f more a is.1.1.1.1 shown),
        ),
      ),
    )

-- the same of a list that is listed as far as a place
pub one_more : (rest : List NamedNumeral) (i : ℕ) (f : NamedNumeral) (t a : List ℕ) → i < length rest → f ≡ get_or rest i f → AreMoreFields (take i rest) t
    → IsFieldText f a → AreMoreFields (take (i + 1) rest) (t ++ (codes ", " ++ a))
one_more rest i f t a inside is before shown =
    subst (λ (l : List NamedNumeral). AreMoreFields l (t ++ (codes ", " ++ a))) (sym (take_more rest i f inside))
    (subst (λ (g : NamedNumeral). AreMoreFields (take i rest ++ g ∷ []) (t ++ (codes ", " ++ a))) is (more_field (take i rest) f t a before shown))

-- a first field and all others
pub whole_list : (fs rest : List NamedNumeral) (f : NamedNumeral) (first more t : List ℕ) → fs ≡ f ∷ rest → t ≡ first ++ more → IsFieldText f first
    → AreMoreFields rest more → IsFieldList fs t
whole_list fs rest f first more t is parts shown others =
    subst (λ (l : List NamedNumeral). IsFieldList l t) (sym is) (first, (more, (parts, (shown, others))))
