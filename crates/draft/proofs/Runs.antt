-- Legal runs of a draft: what stands in the buffer is the writing of the content of the accepted
-- calls.
use Rattle.std.proofs.Common.{◌≡◌, ℕ, ◌*◌, ◌≤◌, ltb, Bool, true, false, List, length, take, cond, Ok, Err, Result, sym, refl, ap, ◌∙◌, subst, arith}
use Rattle.std.proofs.lemmas.Bool.{ltb-false}
use Rattle.faults.specs.declared.fault.Fault.{Fault}
use Rattle.faults.specs.declared.refusal.Refusal.TheVariants.{CellCount}
use Rattle.faults.specs.Faults.{fault}
use Rattle.format.specs.declared.judging.Layout.{Layout}
use Rattle.format.specs.Checks.{Check}
use Rattle.format.specs.Content.{Content, IsSound, content, content_at, content_sizes, write}
use Rattle.format.specs.Header.{version}
use Rattle.format.specs.Judging.{judged}
use Rattle.format.specs.Rows.{cells_size}
use Rattle.format.proofs.Rules.{Rules, judged_tells}
use Rattle.format.proofs.Trip.{written_read}
use Rattle.editor.proofs.calls.Held.{not_both, ok_is, same_ok}
use Rattle.draft.specs.Drafts.{Step, put, carried, lay}
use Rattle.draft.specs.Law.{IsDraftOf, IsStepGiven, Stage, at_blocks, at_cells, closed, stage_of, close_stage, DraftEvent, DraftRun, stop, call, turn, close, content_entered, content_of_run, IsDrafted, IsClosedFile, DraftLaw}
use Rattle.draft.specs.Stages.{Numbers, DraftState, step_answer, step_done, if_passed, close_answer}
use Rattle.draft.proofs.Added.{file_begins, begins_file}
use Rattle.draft.proofs.Follows.{Early, accepted_adds}

-- what is known at a stage: no cells are laid at the blocks, and a closed draft was closed with its
-- size
At : Stage → DraftState → Type 0
At at_blocks s = s.draft.laid ≡ 0
At at_cells s = Unit {0}
At (closed n) s = close_answer s.draft ≡ Ok n

early : (step : Step) (s : DraftState) → At (stage_of step) s → Early step s
unfolding At
early (put new) s h = h
early (carried key body) s h = h
early (lay more) s h = tt

still : (step : Step) (s : DraftState) → At (stage_of step) s → At (stage_of step) (step_done step s)
unfolding At
still (put new) s h = h
still (carried key body) s h = h
still (lay more) s h = tt

-- one call
called_at : (step : Step) (s : DraftState) → At (stage_of step) s → (a : Check) → At (stage_of step) (if_passed a (step_done step s) s)
called_at step s h (Ok u) = still step s h
called_at step s h (Err f) = h

called_drafted : (step : Step) (s : DraftState) (c : Content) (before : List ℕ) → At (stage_of step) s → (step_answer step s ≡ Ok tt → IsStepGiven step) → IsDrafted c before s
    → (a : Check) → step_answer step s ≡ a → IsDrafted (content_entered step a c) before (if_passed a (step_done step s) s)
called_drafted step s c before h given d (Ok tt) e =
    let q = accepted_adds step s c (early step s h) d.stands e (given e) in
    record { stands = q.stands; written = q.written before d.written }
called_drafted step s c before h given d (Err f) e = d

-- closing
closed_at : (s : DraftState) (r : Result ℕ Fault) → close_answer s.draft ≡ r → At (close_stage r) s
unfolding At
closed_at s (Ok n) e = e
closed_at s (Err f) e = tt

-- a run
kept : {p q : Stage} {s t : DraftState} {es : List DraftEvent} (c : Content) (before : List ℕ) → DraftRun p s es q t → At p s → IsDrafted c before s → At q t × IsDrafted (content_of_run c es) before t
unfolding At
kept c before stop h d = (h, d)
kept c before (call {s = s} step given run) h d =
    kept (content_entered step (step_answer step s) c) before run (called_at step s h (step_answer step s)) (called_drafted step s c before h given d (step_answer step s) refl)
kept c before (turn run) h d = kept c before run tt d
kept c before (close {s = s} run) h d = kept c before run (closed_at s (close_answer s.draft) refl) d

-- ---- a closed draft
-- all its cells are laid
closed_whole : (d : Numbers) (n : ℕ) → close_answer d ≡ Ok n → (d.cells ≤ d.laid) × (d.size ≡ n)
closed_whole d n e = by (ltb d.laid d.cells) refl e
  where
    by : (t : Bool) → ltb d.laid d.cells ≡ t → cond t (Err (fault CellCount d.laid)) (Ok d.size) ≡ Ok n → (d.cells ≤ d.laid) × (d.size ≡ n)
    by true q e = absurd (not_both n (fault CellCount d.laid) e)
    by false q e = (ltb-false d.laid d.cells q, same_ok d.size n e)

all_cells : (c : Content) (d : Numbers) → IsDraftOf c d → d.cells ≤ d.laid → length c.cells ≡ cells_size (content_sizes c)
all_cells c d st all =
    let few = st.few in
    let is : d.laid ≡ d.cells = omega arith in
    let z = content_sizes c in
    st.laid_is ∙ ap (λ (n : ℕ). n * d.cell) (is ∙ st.cells_is) ∙ ap (λ (n : ℕ). z.ranges * n) st.cell_is

-- the writing of a sound content is accepted, with that content
accepted : (c : Content) → IsSound c → (b : List ℕ) → b ≡ write c → ((l : Layout) × (judged b ≡ Ok l)) × (content b ≡ c)
accepted c s b is =
    let q = written_read c s b is in
    let same = q.2 in
    let rules : Rules b (version b) = subst (Rules b) (sym same) q.0 in
    (ok_is (judged b) ((judged_tells b).1 rules), ap (content_at b) same ∙ q.1)

whole : (c : Content) (before : List ℕ) (t : DraftState) (n : ℕ) → close_answer t.draft ≡ Ok n → IsDrafted c before t → IsClosedFile c n t.buffer
whole c before t n e d =
    let st = d.stands in
    let q = closed_whole t.draft n e in
    let sound : IsSound c = st.growing.whole c.cells st.growing.cells_bytes (all_cells c t.draft st q.0) in
    let size : n ≡ length (write c) = sym q.1 ∙ st.size_is in
    let all : take n t.buffer ≡ write c = ap (λ (m : ℕ). take m t.buffer) size ∙ file_begins t.buffer before (write c) d.written in
    let a = accepted c sound (take n t.buffer) all in
    record { sound = sound; size_is = size; written = all; layout = a.0.0; accepted = a.0.1; content_is = a.1 }

-- the law, of a draft that begins its buffer
pub law : (c : Content) (s : DraftState) → s.draft.laid ≡ 0 → IsDraftOf c s.draft → take (length (write c)) s.buffer ≡ write c → DraftLaw c s
unfolding At
law c s none st e =
    let d : IsDrafted c s.buffer s = record { stands = st; written = begins_file s.buffer (write c) e } in
    record {
      so_far = λ es p t run. (kept c s.buffer run none d).1;
      whole = λ es n t run. let k = kept c s.buffer run none d in whole (content_of_run c es) s.buffer t n k.0 k.1;
    }
