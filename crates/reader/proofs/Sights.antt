-- What looking at a block shows.
use Rattle.std.proofs.Common.{◌≡◌, ℕ, ◌+◌, ◌-◌, ◌≤◌, Bool, true, false, List, length, IfOk, Ok, Err, Result, sym, refl, ap, ◌∙◌, arith}
use Rattle.std.specs.Str.{bytes_eq}
use Rattle.faults.specs.declared.fault.Fault.{Fault}
use Rattle.format.specs.declared.judging.Layout.{Layout}
use Rattle.format.specs.Checks.{Check, unless, all_of, ◌then◌, ◌with◌}
use Rattle.format.specs.Section.{key_at, size_at, data_at}
use Rattle.kinds.proofs.Laws.{part_within}
use Rattle.kinds.specs.declared.kind.Reading.{Reading}
use Rattle.kinds.specs.Kind.{KindSpec, IsSoundKind, Outcome, accepted, refused}
use Rattle.reader.specs.declared.blocks.Entry.{Entry}
use Rattle.reader.specs.Answers.{Sight, outcome_sight, block_sight, reading_sight, block_place, entry_at, look_answer}
use Rattle.reader.specs.Levels.{layout_of_file, block_conditions}
use Rattle.reader.proofs.Asked.{entry_asked}

-- the place and the length of the text that is shown
abbrev text_of : Result Sight Fault → ℕ
text_of (Ok s) = s.text
text_of (Err f) = 0

abbrev size_of : Result Sight Fault → ℕ
size_of (Ok s) = s.size
size_of (Err f) = 0

-- a text lies in the data
text_in_data : (kind : KindSpec) → IsSoundKind kind → (d : List ℕ) (o : Outcome) → kind.reads d ≡ o → (k place : ℕ) (s : Sight) → Ok s ≡ outcome_sight k place o
    → s.text + s.size ≤ place + length d
text_in_data kind kept d (accepted ns a n u) reads k place s e =
    let h = kept.steady d ns a n u reads in
    let at : s.text ≡ place + a = ap text_of e in
    let long : s.size ≡ n = ap size_of e in
    omega (arith, h.inside, h.within)
text_in_data kind kept d (refused r p) reads k place s e = let z : ◌≡◌ {A = ℕ} 0 1 = cc in absurd (omega arith)

-- nothing is shown at another key
past_key : (same : Bool) (f : Fault) (r : Result Sight Fault) (s : Sight) → Ok s ≡ (unless same f then r) → Ok s ≡ r
past_key true f r s e = e
past_key false f r s e = let z : ◌≡◌ {A = ℕ} 0 1 = cc in absurd (omega arith)

-- a text that is shown lies in the file
pub text_inside : {R : Type 0} (numbers : R → List ℕ) (kind : KindSpec) → IsSoundKind kind → (k at : ℕ) (b : List ℕ) (r : Result (Reading R) Fault)
    → at + 8 + size_at b at ≤ length b → reading_sight numbers r ≡ block_sight kind b k at → IfOk r (λ v. v.text + v.length ≤ length b)
text_inside numbers kind kept k at b (Ok v) room e =
    let d = data_at b at in
    let t = text_in_data kind kept d (kind.reads d) refl k (at + 8) _ (past_key (bytes_eq (key_at b at) kind.key) _ _ _ e) in
    omega (arith, part_within (size_at b at) (at + 8) b)
text_inside numbers kind kept k at b (Err f) room e = tt

-- where there is a file, and its conditions hold, a question is answered
past_conditions : {X : Type 0} (r : Result Layout Fault) (l : Layout) (check : Layout → Check) (answer : Result X Fault)
    → Ok l ≡ r → check l ≡ Ok tt → (r with λ m. check m then answer) ≡ answer
past_conditions r l check answer e f = ap (λ (x : Result Layout Fault). x with λ m. check m then answer) (sym e) ∙ ap (λ (x : Check). x then answer) f

-- looking at the block that is asked for shows what the definition says
pub look_shown : {R : Type 0} (numbers : R → List ℕ) (kind : KindSpec) (b : List ℕ) (l : Layout) (k : ℕ) (e : Entry) (r : Result (Reading R) Fault)
    → Ok l ≡ layout_of_file b → Ok e ≡ (all_of (block_conditions l.version l.blocks k) then Ok (entry_at b (block_place b (k - 1))))
    → reading_sight numbers r ≡ block_sight kind b k e.place → reading_sight numbers r ≡ look_answer kind b k
look_shown numbers kind b l k e r file found h =
    let asked = entry_asked b l k e found in
    let passed = past_conditions (layout_of_file b) l (λ (m : Layout). all_of (block_conditions m.version m.blocks k)) (block_sight kind b k (block_place b (k - 1))) file asked.0 in
    h ∙ ap (block_sight kind b k) asked.1 ∙ sym passed
