-- What it is to hold a file: the bytes of the file are the writing of a sound content.
use Rattle.std.proofs.Common.{◌≡◌, ℕ, ◌-◌, ◌<◌, ◌≤◌, max, leb, true, List, [], ◌++◌, length, take, drop, replicate, is_ok, Ok, Err, Result, sym, refl, ap, ◌∙◌, subst, ⊎_elim, arith}
use Rattle.std.proofs.lemmas.Bool.{le-leb, cond-true, cond-false, lt-leb, cases_lt}
use Rattle.std.proofs.lemmas.List.{length-append, length-take-le, length-drop, length-replicate, take_at}
use Rattle.faults.specs.declared.fault.Fault.{Fault}
use Rattle.faults.specs.declared.refusal.Refusal.TheVariants.{TooFewBytes, NoFile}
use Rattle.faults.specs.Faults.{fault}
use Rattle.format.specs.declared.judging.Layout.{Layout}
use Rattle.format.specs.Checks.{◌with◌}
use Rattle.format.specs.Content.{Content, write, IsSound, content, content_at}
use Rattle.format.specs.Header.{version}
use Rattle.format.specs.Judging.{judged}
use Rattle.format.proofs.Rules.{Rules, judged_tells}
use Rattle.format.proofs.Trip.{written_read}
use Rattle.reader.specs.Laws.{ReadFile}
use Rattle.reader.specs.Levels.{accepted_layout, or_no_file, file_layout, layout_of_file}
use Rattle.editor.specs.Calls.{WorkState, file, file_content, if_held, file_end, state_left}
use Rattle.format.specs.InBuffer.{capacity, with_file}

-- where judging accepts, a file is held, and else none
pub judged_held : (b : List ℕ) (l : Layout) → judged b ≡ Ok l → layout_of_file b ≡ Ok l
unfolding layout_of_file file_layout
judged_held b l e = ap (λ (r : Result Layout Fault). or_no_file (accepted_layout r)) e

pub refused_none : (b : List ℕ) (f : Fault) → judged b ≡ Err f → layout_of_file b ≡ Err (fault NoFile 0)
unfolding layout_of_file file_layout
refused_none b f e = ap (λ (r : Result Layout Fault). or_no_file (accepted_layout r)) e

pub not_both : {X : Type 0} (x : X) (f : Fault) → ◌≡◌ {A = Result X Fault} (Err f) (Ok x) → ⊥
not_both x f e = let z : ◌≡◌ {A = ℕ} 0 1 = cc in omega arith

-- an answer behind another one
pub with_ok : {X Y : Type 0} (r : Result X Fault) (f : X → Result Y Fault) (y : Y) → (r with f) ≡ Ok y → (x : X) × (r ≡ Ok x) × (f x ≡ Ok y)
with_ok (Ok x) f y e = (x, refl, e)
with_ok (Err g) f y e = absurd (not_both y g e)

pub same_ok : {X : Type 0} (x y : X) → ◌≡◌ {A = Result X Fault} (Ok x) (Ok y) → x ≡ y
same_ok x y e = cc

pub ok_is : {X : Type 0} (r : Result X Fault) → is_ok r ≡ true → (x : X) × (r ≡ Ok x)
ok_is (Ok x) e = (x, refl)
ok_is (Err f) e = let z : ◌≡◌ {A = ℕ} 0 1 = cc in absurd (omega arith)

-- the writing of a sound content is a file, and has that content
pub writing_held : (c : Content) → IsSound c → (b : List ℕ) → b ≡ write c → ((l : Layout) × (layout_of_file b ≡ Ok l)) × (content b ≡ c)
writing_held c s b is =
    let q = written_read c s b is in
    let same = q.2 in
    let rules : Rules b (version b) = subst (Rules b) (sym same) q.0 in
    let l = ok_is (judged b) ((judged_tells b).1 rules) in
    ((l.0, judged_held b l.0 l.1), ap (content_at b) same ∙ q.1)

-- a state whose file is the writing of that sound content
pub record Holding (s : WorkState) (c : Content) : Type 0 where
  pub sound : IsSound c
  pub room : s.size ≤ capacity s.buffer
  pub written : take s.size s.buffer ≡ write c

pub file_is : (s : WorkState) (c : Content) → Holding s c → file s ≡ write c
file_is s c h = cond-true (leb s.size (capacity s.buffer)) _ _ (le-leb s.size (capacity s.buffer) h.room) ∙ h.written

pub layout_is : (s : WorkState) (c : Content) → Holding s c → (l : Layout) × (layout_of_file (file s) ≡ Ok l)
layout_is s c h = (writing_held c h.sound (file s) (file_is s c h)).0

pub content_is : (s : WorkState) (c : Content) → Holding s c → content (file s) ≡ c
content_is s c h = (writing_held c h.sound (file s) (file_is s c h)).1

pub file_content_is : (s : WorkState) (c : Content) → Holding s c → file_content s ≡ Ok c
file_content_is s c h =
    let l = layout_is s c h in
    ap (λ (r : Result Layout Fault). r with λ m. Ok (content (file s))) l.1 ∙ ap Ok (content_is s c h)

pub size_is : (s : WorkState) (c : Content) → Holding s c → length (write c) ≡ s.size
size_is s c h = ap length (sym h.written) ∙ length-take-le s.size s.buffer (omega (arith, h.room))

pub end_is : (s : WorkState) (c : Content) → Holding s c → file_end s ≡ s.size
end_is s c h = let l = layout_is s c h in ap (λ (r : Result Layout Fault). if_held r s.size) l.1

if_held_within : (r : Result Layout Fault) (n m : ℕ) → n ≤ m → if_held r n ≤ m
if_held_within (Ok l) n m h = h
if_held_within (Err f) n m h = omega arith

-- where a file is to be read, it lies in the buffer
pub end_inside : (s : WorkState) → file_end s ≤ length s.buffer
end_inside s =
    let most = capacity s.buffer in
    ⊎_elim
    (λ (over : most < s.size).
    let none : file s ≡ [] = cond-false (leb s.size most) _ _ (lt-leb s.size most over) in
    let nothing : file_end s ≡ 0 = ap (λ (b : List ℕ). if_held (layout_of_file b) s.size) none ∙ ap (λ (r : Result Layout Fault). if_held r s.size) (refused_none [] (fault TooFewBytes 0) refl) in
    omega arith)
    (λ (within : s.size ≤ most). if_held_within (layout_of_file (file s)) s.size (length s.buffer) (omega arith))
    (cases_lt most s.size)

-- a buffer keeps its length when a file takes the place of another
pub with_file-length : (buffer new : List ℕ) (old : ℕ) → old ≤ length buffer → length new ≤ length buffer → length (with_file buffer old new) ≡ length buffer
with_file-length buffer new old h k =
    let zeros : List ℕ = replicate (old - length new) 0 in
    let rest : List ℕ = drop (max old (length new)) buffer in
    let l1 = length-append new (zeros ++ rest) in
    let l2 = length-append zeros rest in
    let l3 : length zeros ≡ old - length new = length-replicate (old - length new) 0 in
    let l4 = length-drop (max old (length new)) buffer in
    omega arith

-- an accepted call leaves a state that holds its content
pub settled_holds : (s : WorkState) (c : Content) → IsSound c → length (write c) ≤ capacity s.buffer → Holding (state_left s (Ok c)) c
settled_holds s c sound room =
    let long = with_file-length s.buffer (write c) (file_end s) (end_inside s) (omega arith) in
    record {
      sound = sound;
      room = omega arith;
      written = take_at (write c) _ (length (write c)) refl;
    }

-- where a file is read, it is held
pub holding_of : (s : WorkState) (l : Layout) → ReadFile (file s) → layout_of_file (file s) ≡ Ok l → Holding s (content (file s))
holding_of s l read e =
    let b = file s in
    let most = capacity s.buffer in
    let room : s.size ≤ most =
    ⊎_elim
    (λ (over : most < s.size).
    let none : b ≡ [] = cond-false (leb s.size most) _ _ (lt-leb s.size most over) in
    absurd (not_both l _ (sym (refused_none [] (fault TooFewBytes 0) refl) ∙ ap layout_of_file (sym none) ∙ e)))
    (λ (within : s.size ≤ most). within)
    (cases_lt most s.size) in
    let all : b ≡ take s.size s.buffer = cond-true (leb s.size most) _ _ (le-leb s.size most room) in
    let p = read.each l e in
    record { sound = p.sound; room = room; written = sym all ∙ sym p.written }
