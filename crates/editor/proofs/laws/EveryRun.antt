-- The readers' law holds of every run.
use Rattle.std.proofs.Common.{◌≡◌, ℕ, ◌+◌, min, ◌-◌, ◌≤◌, leb, List, [], length, Some, Ok, Err, Result, sym, refl, ap, ◌∙◌, subst, arith}
use Rattle.std.proofs.lemmas.Bool.{le-leb, cond-true}
use Rattle.std.proofs.lemmas.Option.{slice_get_within}
use Rattle.std.specs.List.{slice_get}
use Rattle.buffers.specs.Words.{Bytes}
use Rattle.faults.specs.declared.fault.Fault.{Fault}
use Rattle.faults.specs.declared.refusal.Refusal.TheVariants.{TooFewBytes, NoFile}
use Rattle.faults.specs.Faults.{fault}
use Rattle.format.specs.declared.judging.Layout.{Layout}
use Rattle.format.specs.Checks.{◌then◌, ◌with◌, passed}
use Rattle.format.specs.Content.{Content, IsSound, write, content}
use Rattle.format.specs.Judging.{judged}
use Rattle.kinds.specs.Kind.{KindSpec, IsSoundKind}
use Rattle.reader.specs.Laws.{ReadFile}
use Rattle.reader.specs.Levels.{layout_of_file}
use Rattle.reader.proofs.Written.{sound_file}
use Rattle.editor.specs.Edits.{Edit, add, replace, edited_content}
use Rattle.editor.specs.Calls.{WorkState, work_state, file, if_held, made_state, Call, load, edit, new_content, call_outcome, state_left, call_answer, state_after}
use Rattle.format.specs.InBuffer.{capacity, room_for}
use Rattle.editor.specs.Ledger.{Page, Ledger, blank, page, opened_page, opened_ledger, begun_ledger, unused_mark, page_after, ledger_after, ledger_entered}
use Rattle.editor.specs.Law.{WorkEvent, IsGiven, WorkRun, stop, call, ask, ledger_of, Shows, ShowsGiven, HasMark, ReadersLaw}
use Rattle.editor.proofs.laws.Agrees.{Agrees, opens}
use Rattle.editor.proofs.calls.Done.{fits, accepted_with}
use Rattle.editor.proofs.calls.Held.{Holding, same_ok, not_both, with_ok, judged_held, refused_none, layout_is, content_is, file_content_is, holding_of, settled_holds}
use Rattle.editor.proofs.laws.Keeping.{Follows}
use Rattle.editor.proofs.laws.Kept.{edit_keeps}
use Rattle.editor.proofs.calls.Lists.{there_is}
use Rattle.editor.proofs.laws.Looks.{Showing, showing_of, shows_of, read_holding}
use Rattle.editor.proofs.laws.Marks.{beside_at, beside_one, below_at, new_beside}
use Rattle.editor.proofs.laws.ShowsGiven.{add_shows, replace_shows}
use Rattle.editor.proofs.laws.Telling.{Both, not_page, tells}

-- a file and a page that agree, and the block that has the mark m shows that
abbrev Tracked : KindSpec → List ℕ → List ℕ → ℕ → Ledger → WorkState → Type 0
Tracked kind numbers text m blank s = ⊥
Tracked kind numbers text m (page p) s = (c : Content) × Holding s c × Agrees p c × Follows kind numbers text m p c

-- what an accepted call leaves
record Moved (l : Ledger) (s : WorkState) (k : Call) (d : Content) : Type 0 where
  pub page_of : Page
  pub entered : ledger_after k l ≡ page page_of
  pub holding : Holding (state_left s (Ok d)) d
  pub agrees : Agrees page_of d
  pub follows : (kind : KindSpec) → IsSoundKind kind → (numbers text : List ℕ) (m : ℕ) → Tracked kind numbers text m l s → Follows kind numbers text m page_of d

-- a load gives new marks
load_follows : (l : Ledger) (s : WorkState) (c : Content) (kind : KindSpec) (numbers text : List ℕ) (m : ℕ) → Tracked kind numbers text m l s
    → Follows kind numbers text m (opened_page (unused_mark l) c) c
load_follows blank s c kind numbers text m t = absurd t
load_follows (page p) s c kind numbers text m t =
    let given = t.3.given in
    record {
      given = omega arith;
      beside = new_beside (λ n x. n ≡ m → Showing kind numbers text x) p.next c.blocks (λ n x from e. absurd (omega arith));
    }

moved_load : (l : Ledger) (s : WorkState) (bytes : List ℕ) (d : Content) → call_outcome (load bytes) s ≡ Ok d → Bytes bytes → Moved l s (load bytes) d
moved_load l s bytes d e given =
    let f = fits (capacity s.buffer) (new_content (load bytes) s) d e in
    let j = with_ok (judged bytes) (λ m. Ok (content bytes)) d f.0 in
    let is : content bytes ≡ d = same_ok _ d j.2 in
    let sound : IsSound d = subst IsSound is (sound_file bytes j.0 given (judged_held bytes j.0 j.1)).0 in
    record {
      page_of = opened_page (unused_mark l) (content bytes);
      entered = refl;
      holding = settled_holds s d sound f.1;
      agrees = subst (Agrees (opened_page (unused_mark l) (content bytes))) is (opens (unused_mark l) (content bytes));
      follows = λ kind keeps numbers text m t.
          subst (Follows kind numbers text m (opened_page (unused_mark l) (content bytes))) is (load_follows l s (content bytes) kind numbers text m t);
    }

moved_edit : (p : Page) (s : WorkState) (e : Edit) (c d : Content) → Holding s c → Agrees p c → call_outcome (edit e) s ≡ Ok d → IsGiven (edit e) → Moved (page p) s (edit e) d
moved_edit p s e c d h a o given =
    let f = fits (capacity s.buffer) (new_content (edit e) s) d o in
    let made_state : edited_content e c ≡ Ok d = ap (λ (r : Result Content Fault). r with edited_content e) (sym (file_content_is s c h)) ∙ f.0 in
    let k = edit_keeps e p c d h.sound given (omega (arith, f.1)) a made_state in
    record {
      page_of = page_after e p;
      entered = refl;
      holding = settled_holds s d k.sound f.1;
      agrees = k.agrees;
      follows = λ kind keeps numbers text m t.
          let same : t.0 ≡ c = sym (content_is s t.0 t.1) ∙ content_is s c h in
          k.follows kind keeps numbers text m (subst (Follows kind numbers text m p) same t.3);
    }

-- without a file no edit is accepted
no_edit : (s : WorkState) (e : Edit) (d : Content) → layout_of_file (file s) ≡ Err (fault NoFile 0) → call_outcome (edit e) s ≡ Ok d → ⊥
no_edit s e d none o =
    not_both d (fault NoFile 0)
    (ap (λ (r : Result Layout Fault). (((r with λ l. Ok (content (file s))) with edited_content e) with λ c. room_for (capacity s.buffer) c then Ok c)) (sym none) ∙ o)

moved : (l : Ledger) (s : WorkState) (k : Call) (d : Content) → Both l s → call_outcome k s ≡ Ok d → IsGiven k → Moved l s k d
moved l s (load bytes) d b o given = moved_load l s bytes d o given
moved blank s (edit e) d b o given = absurd (no_edit s e d b o)
moved (page p) s (edit e) d b o given = moved_edit p s e b.0 d b.1 b.2 o given

-- one call
stepped : (l : Ledger) (s : WorkState) (k : Call) (r : Result Content Fault) → call_outcome k s ≡ r → (passed r ≡ Ok tt → IsGiven k) → Both l s → Both (ledger_entered l k (passed r)) (state_left s r)
stepped l s k (Err f) o given b = b
stepped l s k (Ok d) o given b =
    let m = moved l s k d b o (given refl) in
    subst (λ (x : Ledger). Both x (state_left s (Ok d))) (sym m.entered) (d, m.holding, m.agrees)

module _ (kind : KindSpec) (keeps : IsSoundKind kind) (numbers text : List ℕ) (m : ℕ) where
  tracked : (l : Ledger) (s : WorkState) (k : Call) (r : Result Content Fault) → call_outcome k s ≡ r → (passed r ≡ Ok tt → IsGiven k) → Both l s → Tracked kind numbers text m l s
      → Tracked kind numbers text m (ledger_entered l k (passed r)) (state_left s r)
  tracked l s k (Err f) o given b t = t
  tracked l s k (Ok d) o given b t =
      let v = moved l s k d b o (given refl) in
      subst (λ (x : Ledger). Tracked kind numbers text m x (state_left s (Ok d))) (sym v.entered) (d, v.holding, v.agrees, v.follows kind keeps numbers text m t)

-- a run
run_both : (l : Ledger) {s t : WorkState} {es : List WorkEvent} → Both l s → WorkRun s es t → Both (ledger_of l es) t
unfolding call_answer state_after
run_both l b stop = b
run_both l {s} b (call c given r) = run_both (ledger_entered l c (call_answer c s)) (stepped l s c (call_outcome c s) refl given b) r
run_both l b (ask r) = run_both l b r

run_tracked : (kind : KindSpec) → IsSoundKind kind → (numbers text : List ℕ) (m : ℕ) (l : Ledger) {s t : WorkState} {es : List WorkEvent} → Both l s → Tracked kind numbers text m l s → WorkRun s es t
    → Tracked kind numbers text m (ledger_of l es) t
unfolding call_answer state_after
run_tracked kind keeps numbers text m l b t stop = t
run_tracked kind keeps numbers text m l {s} b t (call c given r) =
    run_tracked kind keeps numbers text m (ledger_entered l c (call_answer c s)) (stepped l s c (call_outcome c s) refl given b)
    (tracked kind keeps numbers text m l s c (call_outcome c s) refl given b t) r
run_tracked kind keeps numbers text m l b t (ask r) = run_tracked kind keeps numbers text m l b t r

same_page : (p q : Page) → page p ≡ page q → p ≡ q
same_page p q e = cc

module _ (kind : KindSpec) (keeps : IsSoundKind kind) (numbers text : List ℕ) (m : ℕ) where
  starts : (l : Ledger) (s : WorkState) (i : ℕ) → Both l s → HasMark l i m → Shows kind s i numbers text → Tracked kind numbers text m l s
  starts blank s i b marked shows = absurd (not_page marked.0 marked.1)
  starts (page q) s i b marked shows =
      let (c, h, a) = b in
      let (p, is, from, at) = marked in
      let same : q ≡ p = same_page q p is in
      let mine : slice_get q.marks (i - 1) ≡ Some m = subst (λ (x : Page). slice_get x.marks (i - 1) ≡ Some m) (sym same) at in
      let among = slice_get_within q.marks (i - 1) m mine in
      let x = there_is c.blocks (i - 1) (omega (arith, a.count)) in
      let showing = showing_of kind keeps s c h i x.0 numbers text x.1 shows in (
        c,
        h,
        a,
        record {
          given = below_at q.next q.marks (i - 1) m a.below mine;
          beside = beside_one (Showing kind numbers text) q.marks c.blocks (i - 1) m x.0 a.apart a.count mine x.1 showing;
        },
      )

  ends : (l : Ledger) (s : WorkState) (j : ℕ) → Tracked kind numbers text m l s → HasMark l j m → Shows kind s j numbers text
  ends blank s j t marked = absurd t
  ends (page q) s j t marked =
      let (c, h, a, f) = t in
      let (p, is, from, at) = marked in
      let same : q ≡ p = same_page q p is in
      let mine : slice_get q.marks (j - 1) ≡ Some m = subst (λ (x : Page). slice_get x.marks (j - 1) ≡ Some m) (sym same) at in
      let x = beside_at (λ n y. n ≡ m → Showing kind numbers text y) q.marks c.blocks (j - 1) m f.beside mine in
      shows_of kind keeps s c h j x.0 numbers text from x.1 (x.2 refl)

within_most : (n m : ℕ) → n ≤ min m 1073741824 → n ≤ 1073741824
within_most n m h = omega arith

-- a block that was just added, or replaced
edit_given : (l : Ledger) (s : WorkState) (e : Edit) → Both l s → IsGiven (edit e) → call_answer (edit e) s ≡ Ok tt
    → (p : Page) × (c : Content) × (d : Content) × Holding s c × Agrees p c × (edited_content e c ≡ Ok d) × Holding (state_left s (Ok d)) d × (state_after (edit e) s ≡ state_left s (Ok d))
edit_given blank s e b given a =
    let w = accepted_with (edit e) s a in
    absurd (not_both w.0 (fault NoFile 0) (ap (λ (r : Result Layout Fault). (r with λ l. Ok (content (file s))) with edited_content e) (sym b) ∙ w.1))
edit_given (page p) s e (c, h, g) given a =
    let w = accepted_with (edit e) s a in
    let d = w.0 in
    let made_state : edited_content e c ≡ Ok d = ap (λ (r : Result Content Fault). r with edited_content e) (sym (file_content_is s c h)) ∙ w.1 in
    let k = edit_keeps e p c d h.sound given (within_most (length (write d)) (length s.buffer) w.2) g made_state in
    (p, c, d, h, g, made_state, settled_holds s d k.sound w.2, w.3)

shows_given : (l : Ledger) (s : WorkState) → Both l s → ShowsGiven s
shows_given l s b =
    record {
      added = λ new keeps n given a count.
          let (p, c, d, h, g, made_state, holds, is) = edit_given l s (add new) b given a in
          let r = read_holding s c h (layout_is s c h).0 (layout_is s c h).1 in
          let all : n ≡ length c.blocks =
          same_ok n _ (sym count ∙ ap (λ (y : Result Layout Fault). y with λ k. Ok k.blocks) (layout_is s c h).1) ∙ r.blocks_are in
          subst (λ (t : WorkState). Shows new.kind t (n + 1) new.numbers new.text) (sym is) (add_shows new keeps n s c d h made_state all holds);
      replaced = λ new keeps k given a.
          let (p, c, d, h, g, made_state, holds, is) = edit_given l s (replace k new) b given a in
          subst (λ (t : WorkState). Shows new.kind t k new.numbers new.text) (sym is) (replace_shows new keeps k s c d h made_state holds);
    }

pub law_from : (l : Ledger) (s : WorkState) → Both l s → ReadersLaw l s
law_from l s b =
    record {
      tells = λ es t r. tells (ledger_of l es) t (run_both l b r);
      lasts = λ es fs t u r q kind keeps i j m numbers text marked shows later.
          let at = run_both l b r in
          let track = starts kind keeps numbers text m (ledger_of l es) t i at marked shows in
          ends kind keeps numbers text m (ledger_of (ledger_of l es) fs) u j (run_tracked kind keeps numbers text m (ledger_of l es) at track q) later;
      given = λ es t r. shows_given (ledger_of l es) t (run_both l b r);
    }

-- the making
-- where the bytes are a file
begun_held : (buffer : List ℕ) (n : ℕ) (l : Layout) → ReadFile (file (work_state buffer n)) → layout_of_file (file (work_state buffer n)) ≡ Ok l → Both (begun_ledger buffer n) (made_state buffer n)
begun_held buffer n l read e =
    let s = work_state buffer n in
    let b = file s in
    let holding : Holding s (content b) = holding_of s l read e in
    let same : made_state buffer n ≡ s = ap (λ (r : Result Layout Fault). work_state buffer (if_held r n)) e in
    let opening : begun_ledger buffer n ≡ page (opened_page 0 (content b)) = ap (λ (r : Result Layout Fault). opened_ledger (r with λ m. Ok (content b))) e in
    subst (λ (x : WorkState). Both (begun_ledger buffer n) x) (sym same)
    (subst (λ (x : Ledger). Both x s) (sym opening) (content b, holding, opens 0 (content b)))

-- and where they are none
begun_none : (buffer : List ℕ) (n : ℕ) → layout_of_file (file (work_state buffer n)) ≡ Err (fault NoFile 0) → Both (begun_ledger buffer n) (made_state buffer n)
begun_none buffer n e =
    let b = file (work_state buffer n) in
    let same : made_state buffer n ≡ work_state buffer 0 = ap (λ (r : Result Layout Fault). work_state buffer (if_held r n)) e in
    let opening : begun_ledger buffer n ≡ blank = ap (λ (r : Result Layout Fault). opened_ledger (r with λ m. Ok (content b))) e in
    let nothing : file (work_state buffer 0) ≡ [] = cond-true (leb 0 (capacity buffer)) _ _ (le-leb 0 (capacity buffer) (omega arith)) in
    let none : layout_of_file (file (work_state buffer 0)) ≡ Err (fault NoFile 0) = ap layout_of_file nothing ∙ refused_none [] (fault TooFewBytes 0) refl in
    subst (λ (x : WorkState). Both (begun_ledger buffer n) x) (sym same) (subst (λ (x : Ledger). Both x (work_state buffer 0)) (sym opening) none)

begun_by : (buffer : List ℕ) (n : ℕ) → ReadFile (file (work_state buffer n)) → (r : Result Layout Fault) → judged (file (work_state buffer n)) ≡ r → Both (begun_ledger buffer n) (made_state buffer n)
begun_by buffer n h (Ok l) e = begun_held buffer n l h (judged_held (file (work_state buffer n)) l e)
begun_by buffer n h (Err f) e = begun_none buffer n (refused_none (file (work_state buffer n)) f e)

begins_with : (buffer : List ℕ) (n : ℕ) → ReadFile (file (work_state buffer n)) → Both (begun_ledger buffer n) (made_state buffer n)
begins_with buffer n h = begun_by buffer n h (judged (file (work_state buffer n))) refl

pub every_run : (buffer : List ℕ) (n : ℕ) → ReadFile (file (work_state buffer n)) → ReadersLaw (begun_ledger buffer n) (made_state buffer n)
every_run buffer n h = law_from (begun_ledger buffer n) (made_state buffer n) (begins_with buffer n h)
