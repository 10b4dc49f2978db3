-- A call that is carried out by a patch answers, stays or leaves as its plan says.
use Rattle.std.proofs.Common.{◌≡◌, ℕ, ◌+◌, ◌-◌, ◌≤◌, leb, Bool, true, false, List, length, Ok, Err, Result, sym, refl, ap, ◌∙◌, subst, arith}
use Rattle.std.proofs.lemmas.Bool.{leb-true, leb-false}
use Rattle.faults.specs.declared.fault.Fault.{Fault}
use Rattle.faults.specs.declared.refusal.Refusal.TheVariants.{Capacity}
use Rattle.faults.specs.Faults.{fault}
use Rattle.format.specs.declared.judging.Layout.{Layout}
use Rattle.format.specs.Checks.{Check, unless, ◌then◌, ◌with◌}
use Rattle.format.specs.Content.{Content, write, content}
use Rattle.format.specs.Header.{header_end}
use Rattle.format.proofs.Trip.{head_six}
use Rattle.reader.specs.Laws.{ReadFile}
use Rattle.reader.specs.Levels.{layout_of_file}
use Rattle.reader.proofs.Place.{placed}
use Rattle.editor.specs.declared.patch.Patch.{Patch}
use Rattle.editor.specs.Calls.{WorkState, work_state, file, file_end, Call, new_content}
use Rattle.format.specs.InBuffer.{capacity, with_file}
use Rattle.editor.specs.steps.Patches.{IsSmallFile, IsFittingPatch, IsPlanned, patch_of}
use Rattle.editor.proofs.calls.Done.{refused, accepted, over_capacity}
use Rattle.editor.proofs.calls.Held.{holding_of, size_is, file_is}

-- the patch that a layout gives
abbrev pub patch_is : WorkState → Layout → ℕ → ℕ → ℕ → ℕ → ℕ → Patch
patch_is s l at removed added head body =
    record { at = at; removed = removed; added = added; size = s.size + added - removed; start = l.start + added - removed; section = l.section + added - removed; head = head; body = body }

-- where a file is held, its parts lie in it
pub record Lies (s : WorkState) (l : Layout) : Type 0 where
  pub within : s.size ≤ length s.buffer
  pub small : s.size ≤ 1073741824
  pub start_to : l.start ≤ s.size
  pub section_to : 104 + l.section ≤ l.start

pub lies : (s : WorkState) (l : Layout) → ReadFile (file s) → layout_of_file (file s) ≡ Ok l → 6 ≤ l.version → Lies s l
lies s l read e late =
    let h = holding_of s l read e in
    let p = placed (file s) l e in
    let long : length (file s) ≡ s.size = ap length (file_is s (content (file s)) h) ∙ size_is s (content (file s)) h in
    let behind = p.behind in
    let cells = p.cells_inside in
    let room = h.room in
    let head : header_end l.version ≡ 104 = head_six l.version late in
    record { within = omega arith; small = omega arith; start_to = omega arith; section_to = omega arith }

-- and are small
pub small_of : (s : WorkState) (l : Layout) → ReadFile (file s) → layout_of_file (file s) ≡ Ok l → IsSmallFile s l
small_of s l read e =
    let h = holding_of s l read e in
    let p = placed (file s) l e in
    let long : length (file s) ≡ s.size = ap length (file_is s (content (file s)) h) ∙ size_is s (content (file s)) h in
    let behind = p.behind in
    let cells = p.cells_inside in
    let room = h.room in
    record { file = omega arith; size = omega arith; start = omega arith; section = omega arith }

patch_fits : (s : WorkState) (l : Layout) (at removed added head body : ℕ) → Lies s l → 104 ≤ at → at + removed ≤ 104 + l.section → (s.size + added - removed ≤ length s.buffer → head + 8 ≤ length s.buffer) → body ≤ s.size + added - removed → s.size + added - removed ≤ capacity s.buffer
    → IsFittingPatch s (patch_is s l at removed added head body)
patch_fits s l at removed added head body h front inside before data_in room =
    let within = h.within in
    let small = h.small in
    let start = h.start_to in
    let section = h.section_to in
    record {
      front = front;
      inside = omega arith;
      within = within;
      size_is = refl;
      room = omega arith;
      small = omega arith;
      start_from = omega arith;
      start_to = omega arith;
      section_to = omega arith;
      head_in = before (omega arith);
      body_to = data_in;
    }

-- what is to be known where the conditions are passed
pub record Plan (c : Call) (s : WorkState) (l : Layout) (at removed added head body : ℕ) (leaves : Patch → List ℕ) : Type 0 where
  pub content : Content
  pub wants : new_content c s ≡ Ok content
  pub long : length (write content) ≡ s.size + added - removed
  pub lie : Lies s l
  pub front : 104 ≤ at
  pub inside : at + removed ≤ 104 + l.section
  pub before : s.size + added - removed ≤ length s.buffer → head + 8 ≤ length s.buffer
  pub data_in : body ≤ s.size + added - removed
  pub whole : IsFittingPatch s (patch_is s l at removed added head body) → with_file s.buffer (file_end s) (write content) ≡ leaves (patch_is s l at removed added head body)

-- a call that is refused
pub by_fault : (c : Call) (s : WorkState) (n : ℕ) (g : Fault) (leaves : Patch → List ℕ) → new_content c s ≡ Err g → IsPlanned c s n (Err g) leaves
by_fault c s n g leaves e = let q = refused c s g e in record { answers = sym q.0; stays = q.1; left = tt; fits = tt; adds = tt }

by_room : (c : Call) (s : WorkState) (l : Layout) (at removed added head body : ℕ) (leaves : Patch → List ℕ) → Plan c s l at removed added head body leaves → (t : Bool) → leb (s.size + added - removed) (capacity s.buffer) ≡ t
    → IsPlanned c s added (unless t (fault Capacity (s.size + added - removed)) then Ok (patch_is s l at removed added head body)) leaves
by_room c s l at removed added head body leaves p true e =
    let room = leb-true (s.size + added - removed) (capacity s.buffer) e in
    let a = accepted c s p.content p.wants (subst (λ (n : ℕ). n ≤ capacity s.buffer) (sym p.long) room) in
    record {
      answers = sym a.0;
      stays = tt;
      left = a.1 ∙ ap (λ (b : List ℕ). work_state b (length (write p.content))) (p.whole (patch_fits s l at removed added head body p.lie p.front p.inside p.before p.data_in room)) ∙ ap (work_state (leaves (patch_is s l at removed added head body))) p.long;
      fits = patch_fits s l at removed added head body p.lie p.front p.inside p.before p.data_in room;
      adds = refl;
    }
by_room c s l at removed added head body leaves p false e =
    let q = over_capacity c s p.content (s.size + added - removed) p.wants p.long (leb-false (s.size + added - removed) (capacity s.buffer) e) in
    record { answers = sym q.0; stays = q.1; left = tt; fits = tt; adds = tt }

pub by_conditions : (c : Call) (s : WorkState) (l : Layout) (at removed added head body : ℕ) (leaves : Patch → List ℕ) (t : Check) → ((g : Fault) → t ≡ Err g → new_content c s ≡ Err g)
    → (t ≡ Ok tt → Plan c s l at removed added head body leaves) → IsPlanned c s added (t then patch_of s l at removed added head body) leaves
by_conditions c s l at removed added head body leaves (Ok u) fails plan =
    by_room c s l at removed added head body leaves (plan refl) (leb (s.size + added - removed) (capacity s.buffer)) refl
by_conditions c s l at removed added head body leaves (Err g) fails plan = by_fault c s added g leaves (fails g refl)

-- what is found is handed on where the conditions are passed
pub handed_on : {X Y : Type 0} (c : Check) (x : X) (next : X → Result Y Fault) → ((c then Ok x) with next) ≡ (c then next x)
handed_on (Ok u) x next = refl
handed_on (Err f) x next = refl

pub planned : {X : Type 0} (c : Call) (s : WorkState) (at removed head body : Layout → ℕ) (added : ℕ) (conditions : Layout → Check) (found : Layout → X) (next : X → Result Patch Fault) (leaves : Patch → List ℕ) (r : Result Layout Fault) → layout_of_file (file s) ≡ r
    → ((l : Layout) → next (found l) ≡ patch_of s l (at l) (removed l) added (head l) (body l))
    → ((g : Fault) → r ≡ Err g → new_content c s ≡ Err g)
    → ((l : Layout) (g : Fault) → r ≡ Ok l → conditions l ≡ Err g → new_content c s ≡ Err g)
    → ((l : Layout) → r ≡ Ok l → conditions l ≡ Ok tt → Plan c s l (at l) (removed l) added (head l) (body l) leaves)
    → IsPlanned c s added ((r with λ l. conditions l then Ok (found l)) with next) leaves
planned c s at removed head body added conditions found next leaves (Err g) e is none fails plan = by_fault c s added g leaves (none g refl)
planned c s at removed head body added conditions found next leaves (Ok l) e is none fails plan =
    subst (λ (y : Result Patch Fault). IsPlanned c s added y leaves) (sym (handed_on (conditions l) (found l) next ∙ ap (λ (y : Result Patch Fault). conditions l then y) (is l)))
    (by_conditions c s l (at l) (removed l) added (head l) (body l) leaves (conditions l) (λ g. fails l g refl) (plan l refl))
