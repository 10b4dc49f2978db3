-- What a raise answers and leaves.
use Rattle.std.proofs.Common.{◌≡◌, ℕ, ◌-◌, ◌^◌, ◌<◌, ◌≤◌, max, ltb, ◌==◌, List, [], ◌∷◌, ◌++◌, length, drop, Ok, Err, Result, IfOk, sym, refl, ap, ◌∙◌, subst, ⊎_elim, ◌≢◌, arith}
use Rattle.std.proofs.lemmas.Bool.{le-leb, lt-leb, le-ltb, leb-true, cases_lt, eq-eqb, ne_eqb, cases_eq}
use Rattle.std.specs.List.{AllByRecursion}
use Rattle.faults.specs.declared.fault.Fault.{Fault}
use Rattle.faults.specs.declared.refusal.Refusal.TheVariants.{NothingToRaise, Gap, Capacity}
use Rattle.faults.specs.Faults.{fault}
use Rattle.format.specs.declared.judging.Layout.{Layout}
use Rattle.format.specs.declared.sizes.Sizes.{Sizes}
use Rattle.format.specs.Checks.{Check, unless, ◌then◌, ◌with◌, passed, all_of}
use Rattle.format.specs.Content.{Block, Content, IsSound, write, content, content_sizes, section, start}
use Rattle.format.specs.Header.{header_end}
use Rattle.reader.specs.Laws.{ReadFile}
use Rattle.reader.specs.Levels.{layout_of_file}
use Rattle.reader.proofs.Asked.{then_ok, unless_ok}
use Rattle.editor.specs.Edits.{raise, raised_content, raise_conditions, edited_content}
use Rattle.format.specs.Conditions.{as_long}
use Rattle.format.specs.InBuffer.{capacity, within_capacity, with_file}
use Rattle.editor.specs.Calls.{WorkState, work_state, file, file_end, edit, new_content, call_answer, state_after}
use Rattle.editor.specs.steps.Raising.{raised_size, layout_conditions, layout_to_raise, raised_in}
use Rattle.editor.proofs.calls.Done.{refused, accepted, over_capacity}
use Rattle.editor.proofs.calls.Held.{Holding, not_both, with_ok, holding_of, file_content_is, end_is}
use Rattle.editor.proofs.raised.Raised.{Raisable, raisable}
use Rattle.editor.proofs.raised.RaisedFields.{raise_wanted}
use Rattle.editor.proofs.raised.RaisedBytes.{raised_long, raised_bytes, header_within}

-- a gap is none where the data begin right behind the header
gap_told : (c : Content) (at : ℕ) (f : Fault) → IsSound c → c.version < 6 → at ≡ start c
    → unless (at == header_end c.version) f ≡ unless (length c.gap == 0) f
gap_told c at f s to is =
    let none : length (section c.blocks) ≡ 0 = ap (λ (ks : List Block). length (section ks)) (s.blocks_from_six to) in
    ⊎_elim
    (λ (e : length c.gap ≡ 0). rw (eq-eqb (length c.gap) 0 e, eq-eqb at (header_end c.version) (omega arith)) refl)
    (λ (n : length c.gap ≢ 0). rw (ne_eqb (length c.gap) 0 n, ne_eqb at (header_end c.version) (λ e. n (omega arith))) refl)
    (cases_eq (length c.gap) 0)

-- what is asked of the layout but for the capacity is what is asked of the content
abbrev first_conditions : ℕ → ℕ → ℕ → List Check
first_conditions v at m = unless (ltb v 6) (fault NothingToRaise 0) ∷ unless (at == header_end v) (fault Gap 0) ∷ as_long (raise_wanted v) m ∷ []

-- so the refusals are the same
conditions_told : (c : Content) (at m : ℕ) → IsSound c → at ≡ start c → all_of (first_conditions c.version at m) ≡ all_of (raise_conditions c m)
conditions_told c at m s is =
    ⊎_elim
    (λ (to : c.version < 6). ap (λ (q : Check). unless (ltb c.version 6) (fault NothingToRaise 0) then (q then (as_long (raise_wanted c.version) m then Ok tt))) (gap_told c at (fault Gap 0) s to is))
    (λ (six : 6 ≤ c.version). rw (le-ltb c.version 6 six) refl)
    (cases_lt c.version 6)

-- the file that is left
longer_file : (buffer new : List ℕ) (old : ℕ) → old ≤ length new → with_file buffer old new ≡ new ++ drop (length new) buffer
longer_file buffer new old h =
    let none : old - length new ≡ 0 = omega arith in
    let most : max old (length new) ≡ length new = omega arith in
    rw (none, most) refl

-- what the buffer is, by the layout that was found
abbrev pub raise_left : WorkState → List ℕ → Result (Layout × ℕ) Fault → WorkState
raise_left s xs (Ok p) = work_state (raised_in s.buffer s.size p.0.version p.0.sizes xs) p.1
raise_left s xs (Err f) = s

-- what is known where it is found
pub record Ready (s : WorkState) (m : ℕ) (p : Layout × ℕ) : Type 0 where
  pub from : 1 ≤ p.0.version
  pub to : p.0.version < 6
  pub inside : header_end p.0.version ≤ s.size
  pub room : raised_size s.size p.0.version ≤ length s.buffer
  pub count : m ≡ raise_wanted p.0.version

-- a file that is held, with its layout and its content
pub record HeldFile (s : WorkState) (l : Layout) (c : Content) : Type 0 where
  pub holding : Holding s c
  pub wants : (xs : List ℕ) → new_content (edit (raise xs)) s ≡ (all_of (raise_conditions c (length xs)) then Ok (raised_content c xs))
  pub version_is : l.version ≡ c.version
  pub start_is : l.start ≡ start c
  pub sizes_are : l.sizes ≡ content_sizes c

-- where a file is read
held_file : (s : WorkState) (l : Layout) → ReadFile (file s) → layout_of_file (file s) ≡ Ok l → HeldFile s l (content (file s))
held_file s l read e =
    let c = content (file s) in
    let h = holding_of s l read e in
    let r = read.each l e in
    record {
      holding = h;
      wants = λ xs. ap (λ (y : Result Content Fault). y with edited_content (raise xs)) (file_content_is s c h);
      version_is = r.version_is;
      start_is = r.start_is;
      sizes_are = r.sizes_are;
    }

-- the call is accepted, and what is written is the file that is left
pub record Found (s : WorkState) (xs : List ℕ) (p : Layout × ℕ) : Type 0 where
  pub answers : call_answer (edit (raise xs)) s ≡ Ok tt
  pub leaves : state_after (edit (raise xs)) s ≡ raise_left s xs (Ok p)
  pub ready : Ready s (length xs) p

module _ (s : WorkState) (l : Layout) (c : Content) (xs : List ℕ) (k : HeldFile s l c) (given : AllByRecursion (λ x. x < 2 ^ 32) xs) where
  -- the layout, and how many bytes the file is to have
  abbrev found : Layout × ℕ
  found = (l, raised_size s.size l.version)

  abbrev fits : Check
  fits = within_capacity (capacity s.buffer) (raised_size s.size l.version)

  -- the conditions of the layout are those of the content
  asked : all_of (layout_conditions l (length xs)) ≡ all_of (raise_conditions c (length xs))
  asked =
      ap (λ (v : ℕ). all_of (first_conditions v l.start (length xs))) k.version_is
      ∙ conditions_told c l.start (length xs) k.holding.sound k.start_is

  -- how long the file is to be
  long : Raisable c (length xs) → length (write (raised_content c xs)) ≡ raised_size s.size l.version
  long ok = raised_long s c xs k.holding ok.to given ok.no_gap ∙ ap (raised_size s.size) (sym k.version_is)

  -- what is written is the file that is left
  left : Raisable c (length xs) → raised_size s.size l.version ≤ capacity s.buffer → with_file s.buffer (file_end s) (write (raised_content c xs)) ≡ raised_in s.buffer s.size l.version l.sizes xs
  left ok room =
      let d = raised_content c xs in
      let size = long ok in
      let grows : s.size ≤ length (write d) = omega arith in
      let here : raised_size s.size c.version ≤ length s.buffer = subst (λ (v : ℕ). raised_size s.size v ≤ length s.buffer) k.version_is (omega arith) in
      ap (λ (n : ℕ). with_file s.buffer n (write d)) (end_is s c k.holding)
      ∙ longer_file s.buffer (write d) s.size grows
      ∙ ap (λ (n : ℕ). write d ++ drop n s.buffer) (raised_long s c xs k.holding ok.to given ok.no_gap)
      ∙ sym (raised_bytes s c xs k.holding ok.to given ok.no_gap here)
      ∙ ap (λ (v : ℕ). raised_in s.buffer s.size v (content_sizes c) xs) (sym k.version_is)
      ∙ ap (λ (z : Sizes). raised_in s.buffer s.size l.version z xs) (sym k.sizes_are)

  -- what the writing asks for
  ready : Raisable c (length xs) → raised_size s.size l.version ≤ capacity s.buffer → Ready s (length xs) found
  ready ok room =
      let known : Ready s (length xs) found =
      record {
        from = subst (λ (v : ℕ). 1 ≤ v) (sym k.version_is) k.holding.sound.version_from;
        to = subst (λ (v : ℕ). v < 6) (sym k.version_is) ok.to;
        inside = subst (λ (v : ℕ). header_end v ≤ s.size) (sym k.version_is) (header_within s c xs k.holding ok.to given);
        room = omega arith;
        count = ok.count ∙ ap raise_wanted (sym k.version_is);
      } in
      known

  -- the conditions pass
  is_found : (p : Layout × ℕ) → (all_of (layout_conditions l (length xs)) then (fits then Ok found)) ≡ Ok p → Found s xs p
  is_found p e =
      let d = raised_content c xs in
      let q = then_ok (all_of (raise_conditions c (length xs))) (fits then Ok found) p (ap (λ (y : Check). y then (fits then Ok found)) (sym asked) ∙ e) in
      let r = then_ok fits (Ok found) p q.1 in
      let ok = raisable c (length xs) q.0 in
      let room : raised_size s.size l.version ≤ capacity s.buffer = leb-true _ _ (unless_ok _ _ r.0) in
      let is : found ≡ p = cc in
      let made : new_content (edit (raise xs)) s ≡ Ok d = k.wants xs ∙ ap (λ (y : Check). y then Ok d) q.0 in
      let size = long ok in
      let buffer = left ok room in
      let a = accepted (edit (raise xs)) s d made (subst (λ (n : ℕ). n ≤ capacity s.buffer) (sym size) room) in
      let at : work_state (with_file s.buffer (file_end s) (write d)) (length (write d)) ≡ raise_left s xs (Ok found) = λ i. work_state (buffer i) (size i) in
      subst (Found s xs) is (record { answers = a.0; leaves = a.1 ∙ at; ready = ready ok room })

  -- one of them fails
  is_refused : (f : Fault) → (all_of (layout_conditions l (length xs)) then (fits then Ok found)) ≡ Err f
      → (call_answer (edit (raise xs)) s ≡ Err f) × (state_after (edit (raise xs)) s ≡ s)
  is_refused f e = by (all_of (raise_conditions c (length xs))) refl (ap (λ (y : Check). y then (fits then Ok found)) (sym asked) ∙ e)
    where
      by : (q : Check) → all_of (raise_conditions c (length xs)) ≡ q → (q then (fits then Ok found)) ≡ Err f → (call_answer (edit (raise xs)) s ≡ Err f) × (state_after (edit (raise xs)) s ≡ s)
      by (Err g) is w =
          let same : g ≡ f = cc in
          refused (edit (raise xs)) s f (k.wants xs ∙ ap (λ (y : Check). y then Ok (raised_content c xs)) is ∙ ap Err same)
      by (Ok u) is w =
          let d = raised_content c xs in
          let n = raised_size s.size l.version in
          let made : new_content (edit (raise xs)) s ≡ Ok d = k.wants xs ∙ ap (λ (y : Check). y then Ok d) is in
          ⊎_elim
          (λ (over : capacity s.buffer < n).
          let fails : ◌≡◌ {A = Result (Layout × ℕ) Fault} (Err (fault Capacity n)) (Err f) = rw (lt-leb n (capacity s.buffer) over) at w in
          let a = over_capacity (edit (raise xs)) s d n made (long (raisable c (length xs) is)) over in
          let same : fault Capacity n ≡ f = cc in
          (a.0 ∙ ap Err same, a.1))
          (λ (within : n ≤ capacity s.buffer).
          let passes : ◌≡◌ {A = Result (Layout × ℕ) Fault} (Ok found) (Err f) = rw (le-leb n (capacity s.buffer) within) at w in
          absurd (not_both found f (sym passes)))
          (cases_lt (capacity s.buffer) n)

-- what the call answers and leaves, by the layout that was found
pub record RaiseBy (s : WorkState) (xs : List ℕ) (r : Result (Layout × ℕ) Fault) : Type 0 where
  pub answers : passed r ≡ call_answer (edit (raise xs)) s
  pub leaves : state_after (edit (raise xs)) s ≡ raise_left s xs r
  pub ready : IfOk r (Ready s (length xs))

-- what is asked of a layout
abbrev ask : WorkState → ℕ → Layout → Result (Layout × ℕ) Fault
ask s m l = all_of (layout_conditions l m) then (within_capacity (capacity s.buffer) (raised_size s.size l.version) then Ok (l, raised_size s.size l.version))

-- a call that is refused
no_layout : (s : WorkState) (xs : List ℕ) (f : Fault) → ReadFile (file s) → AllByRecursion (λ x. x < 2 ^ 32) xs → (r : Result Layout Fault) → layout_of_file (file s) ≡ r
    → (r with ask s (length xs)) ≡ Err f → (call_answer (edit (raise xs)) s ≡ Err f) × (state_after (edit (raise xs)) s ≡ s)
no_layout s xs f read given (Err g) e w =
    let is : g ≡ f = cc in
    refused (edit (raise xs)) s f (ap (λ (r : Result Layout Fault). (r with λ l. Ok (content (file s))) with edited_content (raise xs)) e ∙ ap Err is)
no_layout s xs f read given (Ok l) e w = is_refused s l (content (file s)) xs (held_file s l read e) given f w

-- of every answer
pub raise_by : (s : WorkState) (xs : List ℕ) (r : Result (Layout × ℕ) Fault) → ReadFile (file s) → r ≡ layout_to_raise s (length xs)
    → AllByRecursion (λ x. x < 2 ^ 32) xs → RaiseBy s xs r
raise_by s xs (Err f) read e given =
    let q = no_layout s xs f read given (layout_of_file (file s)) refl (sym e) in
    record { answers = sym q.0; leaves = q.1; ready = tt }
raise_by s xs (Ok p) read e given =
    let w = with_ok (layout_of_file (file s)) (ask s (length xs)) p (sym e) in
    let q = is_found s w.0 (content (file s)) xs (held_file s w.0 read w.1) given p w.2 in
    record { answers = sym q.answers; leaves = q.leaves; ready = q.ready }
