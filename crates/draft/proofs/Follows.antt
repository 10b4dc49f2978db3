-- Each call does with the numbers and the buffer what the definition of drafts says of the content
-- so far.
use Rattle.std.proofs.Common.{◌≡◌, ℕ, zero, suc, ◌+◌, ◌-◌, ◌*◌, ◌/◌, ◌<◌, ◌≤◌, ltb, List, [], ◌∷◌, ◌++◌, length, Ok, Err, Result, sym, refl, ap, ◌∙◌, subst, arith}
use Rattle.std.proofs.lemmas.Bool.{leb-true, ltb-true, eqb-true}
use Rattle.std.proofs.lemmas.List.{length-append}
use Rattle.std.proofs.Math.Nat.{suc-mul, mul-div_cancel, le-mul_of_pos_right}
use Rattle.std.proofs.lemmas.Bool.Decides.{nat_tests}
use Rattle.buffers.specs.Moves.{written}
use Rattle.buffers.specs.Words.{Bytes}
use Rattle.faults.specs.declared.fault.Fault.{Fault}
use Rattle.faults.specs.declared.refusal.Refusal.TheVariants.{CellCount}
use Rattle.faults.specs.Faults.{fault}
use Rattle.format.specs.Changes.{with_cells, settled_header, with_last}
use Rattle.format.specs.Checks.{Check, unless, ◌then◌, ◌with◌, all_of, passed}
use Rattle.format.specs.Content.{Content, block_bytes, write, content_sizes, block}
use Rattle.format.specs.Rows.{bin_width, cell_size}
use Rattle.kinds.specs.Kind.{payload_output, Output, bytes, declined, output_length}
use Rattle.kinds.proofs.Puts.{output_length_is}
use Rattle.reader.specs.Levels.{blocks_present}
use Rattle.reader.proofs.Asked.{then_ok, unless_ok}
use Rattle.kinds.specs.Writing.{output_bytes, written_bytes}
use Rattle.format.specs.InBuffer.{capacity, with_file, room_for, within_capacity}
use Rattle.format.specs.Conditions.{as_long}
use Rattle.editor.proofs.calls.Held.{same_ok, with_ok, not_both}
use Rattle.editor.proofs.laws.KeptBlocks.{late_from, wrote_is}
use Rattle.draft.specs.Drafts.{Step, put, carried, lay, lay_conditions, cells_laid, step_outcome, step_content}
use Rattle.draft.specs.Law.{IsDraftOf, BeginsWith, IsStepGiven, IsFollowing, content_after}
use Rattle.draft.specs.Stages.{Numbers, DraftState, step_answer, draft_after, step_done, if_passed, block_room_answer, end_with_block, with_block_put}
use Rattle.draft.proofs.Added.{Bare, filled_sound, file_begins, begins_file, last_long, last_in_buffer, last_growing, cells_long, cells_in_buffer, cells_growing}

-- no cells are laid yet
none_laid : (c : Content) (d : Numbers) → IsDraftOf c d → d.laid ≡ 0 → c.cells ≡ []
none_laid c d s none = empty c.cells (s.laid_is ∙ ap (λ (n : ℕ). n * d.cell) none ∙ omega arith)
  where
    empty : (x : List ℕ) → length x ≡ 0 → x ≡ []
    empty [] e = refl
    empty (y ∷ ys) e = absurd (omega arith)

bare : (c : Content) (d : Numbers) → IsDraftOf c d → d.laid ≡ 0 → 6 ≤ c.version → Bare c
bare c d s none late =
    record { growing = s.growing; no_gap = s.no_gap; no_cells = none_laid c d s none; no_tail = s.no_tail; late = late }

-- ---- what is done with a block
module _ (c : Content) (s : DraftState) (key body : List ℕ) (four : length key ≡ 4) (st : IsDraftOf c s.draft) (none : s.draft.laid ≡ 0) (late : 6 ≤ c.version) where
  b : Bare c
  b = bare c s.draft st none late

  -- the length that is asked for
  pub block_length : end_with_block s.draft (length body) ≡ length (write (with_last c (block key body)))
  block_length = ap (λ (n : ℕ). n + (8 + length body)) st.size_is ∙ sym (last_long c (block key body) four b)

  pub block_stands : Bytes key → Bytes body → length (write (with_last c (block key body))) ≤ 1073741824 → IsDraftOf (with_last c (block key body)) (with_block_put s key body).draft
  block_stands k d within_capacity =
      record {
        growing = last_growing c (block key body) four b k d within_capacity;
        no_gap = st.no_gap;
        no_tail = st.no_tail;
        version_is = st.version_is;
        cells_is = st.cells_is;
        cell_is = st.cell_is;
        size_is = block_length;
        laid_is = st.laid_is;
        few = st.few;
      }

  pub block_in_buffer : (before : List ℕ) → s.buffer ≡ with_file before 0 (write c) → (with_block_put s key body).buffer ≡ with_file before 0 (write (with_last c (block key body)))
  block_in_buffer before e =
      ap (λ (n : ℕ). written (settled_header s.buffer (n + (8 + length body)) (n + (8 + length body) - 104)) n (block_bytes (block key body))) st.size_is
      ∙ last_in_buffer c (block key body) four b s.buffer before e

-- ---- what is done with a cell
one_more : (n m : ℕ) → n * m + m ≡ (n + 1) * m
one_more n m = let next : suc n ≡ n + 1 = omega arith in sym (suc-mul n m) ∙ ap (λ (k : ℕ). k * m) next

module _ (c : Content) (s : DraftState) (more : List ℕ) (st : IsDraftOf c s.draft) (fits : length more ≡ s.draft.cell) where
  pub cell_length : s.draft.size + s.draft.cell ≡ length (write (with_cells c (c.cells ++ more)))
  cell_length = ap (λ (n : ℕ). n + s.draft.cell) st.size_is ∙ ap (λ (n : ℕ). length (write c) + n) (sym fits) ∙ sym (cells_long c more st.no_tail)

  pub cell_stands : Bytes more → s.draft.laid < s.draft.cells → IsDraftOf (with_cells c (c.cells ++ more)) (step_done (lay more) s).draft
  cell_stands b less =
      record {
        growing = cells_growing c more b st.growing;
        no_gap = st.no_gap;
        no_tail = st.no_tail;
        version_is = st.version_is;
        cells_is = st.cells_is;
        cell_is = st.cell_is;
        size_is = cell_length;
        laid_is = length-append c.cells more ∙ ap (λ (n : ℕ). n + length more) st.laid_is ∙ ap (λ (n : ℕ). s.draft.laid * s.draft.cell + n) fits ∙ one_more s.draft.laid s.draft.cell;
        few = omega arith;
      }

  pub cell_in_buffer : (before : List ℕ) → s.buffer ≡ with_file before 0 (write c) → (step_done (lay more) s).buffer ≡ with_file before 0 (write (with_cells c (c.cells ++ more)))
  cell_in_buffer before e = ap (λ (n : ℕ). written s.buffer n more) st.size_is ∙ cells_in_buffer c more s.buffer before st.no_tail e

-- ---- what a call answers
pass : {X : Type 0} (x : X) (t : Check) → t ≡ passed (t then Ok x)
pass x (Ok tt) = refl
pass x (Err f) = refl

-- what a kind wrote
wrote_bytes : (o : Output) (w : List ℕ) → output_bytes o ≡ Ok w → written_bytes o ≡ w
wrote_bytes o w e = ap written_bytes (wrote_is o w e)

measured_bytes : (o : Output) (n : ℕ) → output_length o ≡ Ok n → n ≡ length (written_bytes o)
measured_bytes o n e = let w = output_length_is o n (sym e) in w.2 ∙ ap (λ (y : Output). length (written_bytes y)) (sym w.1)

module _ (c : Content) (s : DraftState) (st : IsDraftOf c s.draft) where
  put_answers : (key : List ℕ) → length key ≡ 4 → s.draft.laid ≡ 0 → (t : Check) → blocks_present c.version ≡ t → (o : Output)
      → (t then (output_length o with λ n. within_capacity (capacity s.buffer) (end_with_block s.draft n)))
      ≡ passed ((t then (output_bytes o with λ w. Ok (with_last c (block key w)))) with λ d. room_for (capacity s.buffer) d then Ok d)
  put_answers key four none (Err f) e o = refl
  put_answers key four none (Ok u) e (declined p) = refl
  put_answers key four none (Ok u) e (bytes w) =
      let d = with_last c (block key w) in
      ap (within_capacity (capacity s.buffer)) (block_length c s key w four st none (late_from c.version e)) ∙ pass d (within_capacity (capacity s.buffer) (length (write d)))

  carry_answers : (key body : List ℕ) → length key ≡ 4 → s.draft.laid ≡ 0 → (t : Check) → blocks_present c.version ≡ t
      → (t then within_capacity (capacity s.buffer) (end_with_block s.draft (length body)))
      ≡ passed ((t then Ok (with_last c (block key body))) with λ d. room_for (capacity s.buffer) d then Ok d)
  carry_answers key body four none (Err f) e = refl
  carry_answers key body four none (Ok u) e =
      let d = with_last c (block key body) in
      ap (within_capacity (capacity s.buffer)) (block_length c s key body four st none (late_from c.version e)) ∙ pass d (within_capacity (capacity s.buffer) (length (write d)))

  -- what is passed where a cell is laid
  pub lay_tells : (m : ℕ) → all_of (lay_conditions s.draft.laid s.draft.cells s.draft.cell m) ≡ Ok tt → (s.draft.laid < s.draft.cells) × (m ≡ s.draft.cell)
  lay_tells m e =
      let one = then_ok (unless (ltb s.draft.laid s.draft.cells) (fault CellCount s.draft.laid)) (as_long s.draft.cell m then Ok tt) tt e in
      let two = then_ok (as_long s.draft.cell m) (Ok tt) tt one.1 in
      (ltb-true s.draft.laid s.draft.cells (unless_ok _ _ one.0), eqb-true m s.draft.cell (unless_ok _ _ two.0))

  lay_behind : (more : List ℕ) (t : Check) → (t ≡ Ok tt → length more ≡ s.draft.cell)
      → (t then within_capacity (capacity s.buffer) (s.draft.size + s.draft.cell)) ≡ passed ((t then Ok (with_cells c (c.cells ++ more))) with λ d. room_for (capacity s.buffer) d then Ok d)
  lay_behind more (Err f) h = refl
  lay_behind more (Ok tt) h =
      let d = with_cells c (c.cells ++ more) in
      ap (within_capacity (capacity s.buffer)) (cell_length c s more st (h refl)) ∙ pass d (within_capacity (capacity s.buffer) (length (write d)))

  -- a cell has bytes
  cell_some : zero < s.draft.cell
  cell_some =
      let z = content_sizes c in
      let from : 1 ≤ z.bins = (filled_sound c st.growing).bins_from in
      let wide : zero < bin_width z = grind (arith, nat_tests) in
      let more : z.bins ≤ z.bins * bin_width z = le-mul_of_pos_right z.bins wide in
      let is = st.cell_is in
      omega arith

  laid_are : s.draft.laid ≡ cells_laid c
  laid_are =
      sym (ap (λ (n : ℕ). n / cell_size (content_sizes c)) st.laid_is ∙ ap (λ (n : ℕ). s.draft.laid * s.draft.cell / n) (sym st.cell_is) ∙ mul-div_cancel s.draft.laid cell_some)

  lay_answers : (more : List ℕ)
      → (all_of (lay_conditions s.draft.laid s.draft.cells s.draft.cell (length more)) then within_capacity (capacity s.buffer) (s.draft.size + s.draft.cell))
      ≡ passed ((all_of (lay_conditions (cells_laid c) (content_sizes c).ranges (cell_size (content_sizes c)) (length more)) then Ok (with_cells c (c.cells ++ more))) with λ d. room_for (capacity s.buffer) d then Ok d)
  lay_answers more =
      let e = λ (laid cells cell : ℕ). passed ((all_of (lay_conditions laid cells cell (length more)) then Ok (with_cells c (c.cells ++ more))) with λ d. room_for (capacity s.buffer) d then Ok d) in
      lay_behind more (all_of (lay_conditions s.draft.laid s.draft.cells s.draft.cell (length more))) (λ h. (lay_tells (length more) h).1)
      ∙ ap (λ (n : ℕ). e n s.draft.cells s.draft.cell) laid_are ∙ ap (λ (n : ℕ). e (cells_laid c) n s.draft.cell) st.cells_is ∙ ap (λ (n : ℕ). e (cells_laid c) (content_sizes c).ranges n) st.cell_is

-- a key of four bytes, which every block has
abbrev pub Keyed : Step → Type 0
Keyed (put new) = length new.kind.key ≡ 4
Keyed (carried key body) = length key ≡ 4
Keyed (lay more) = Unit {0}

-- no cells are laid while a draft takes blocks
abbrev pub Early : Step → DraftState → Type 0
Early (put new) s = s.draft.laid ≡ 0
Early (carried key body) s = s.draft.laid ≡ 0
Early (lay more) s = Unit {0}

pub answers : (step : Step) (s : DraftState) (c : Content) → Keyed step → Early step s → IsDraftOf c s.draft → step_answer step s ≡ passed (step_outcome (capacity s.buffer) step c)
answers (put new) s c four none st =
    ap (λ (v : ℕ). blocks_present v then (output_length (payload_output new) with λ n. within_capacity (capacity s.buffer) (end_with_block s.draft n))) st.version_is
    ∙ put_answers c s st new.kind.key four none (blocks_present c.version) refl (payload_output new)
answers (carried key body) s c four none st =
    ap (λ (v : ℕ). blocks_present v then within_capacity (capacity s.buffer) (end_with_block s.draft (length body))) st.version_is
    ∙ carry_answers c s st key body four none (blocks_present c.version) refl
answers (lay more) s c k none st = lay_answers c s st more

-- ---- what is made of the content
pub adds : (step : Step) (most : ℕ) (c d : Content) → step_outcome most step c ≡ Ok d → d ≡ content_after step c
adds step most c d e =
    let x = with_ok (step_content step c) (λ y. room_for most y then Ok y) d e in
    sym (same_ok x.0 d (then_ok (room_for most x.0) (Ok x.0) d x.2).1) ∙ made step x.0 x.1
  where
    made : (step : Step) (d : Content) → step_content step c ≡ Ok d → d ≡ content_after step c
    made (put new) d e =
        let q = then_ok (blocks_present c.version) (output_bytes (payload_output new) with λ w. Ok (with_last c (block new.kind.key w))) d e in
        let w = with_ok (output_bytes (payload_output new)) (λ w. Ok (with_last c (block new.kind.key w))) d q.1 in
        sym (same_ok _ d w.2) ∙ ap (λ (b : List ℕ). with_last c (block new.kind.key b)) (sym (wrote_bytes (payload_output new) w.0 w.1))
    made (carried key body) d e = sym (same_ok _ d (then_ok (blocks_present c.version) (Ok (with_last c (block key body))) d e).1)
    made (lay more) d e = sym (same_ok _ d (then_ok _ (Ok (with_cells c (c.cells ++ more))) d e).1)

-- ---- what an accepted call leaves
-- a size within the capacity
roomy : (b : List ℕ) (n m : ℕ) → within_capacity (capacity b) n ≡ Ok tt → n ≡ m → m ≤ 1073741824
roomy b n m e is = let r = leb-true n (capacity b) (unless_ok _ _ e) in omega arith

-- a block that an accepted call puts: its version has blocks, and there is room for it
block_passed : (s : DraftState) (o : Result ℕ Fault) → block_room_answer s o ≡ Ok tt → (6 ≤ s.draft.version) × ((n : ℕ) × (o ≡ Ok n) × (within_capacity (capacity s.buffer) (end_with_block s.draft n) ≡ Ok tt))
block_passed s o e =
    let q = then_ok (blocks_present s.draft.version) (o with λ n. within_capacity (capacity s.buffer) (end_with_block s.draft n)) tt e in
    let n = with_ok o (λ n. within_capacity (capacity s.buffer) (end_with_block s.draft n)) tt q.1 in
    (late_from s.draft.version q.0, n)

-- what an accepted call leaves, by its content
pub record Adds (step : Step) (s : DraftState) (c : Content) : Type 0 where
  pub stands : IsDraftOf (content_after step c) (step_done step s).draft
  pub written : (before : List ℕ) → s.buffer ≡ with_file before 0 (write c) → (step_done step s).buffer ≡ with_file before 0 (write (content_after step c))

block_adds : (s : DraftState) (c : Content) (key body : List ℕ) → length key ≡ 4 → Bytes key → Bytes body → s.draft.laid ≡ 0 → IsDraftOf c s.draft → 6 ≤ s.draft.version
    → within_capacity (capacity s.buffer) (end_with_block s.draft (length body)) ≡ Ok tt
    → IsDraftOf (with_last c (block key body)) (with_block_put s key body).draft × ((before : List ℕ) → s.buffer ≡ with_file before 0 (write c) → (with_block_put s key body).buffer ≡ with_file before 0 (write (with_last c (block key body))))
block_adds s c key body four k b none st late room_is =
    let version : 6 ≤ c.version = subst (λ (v : ℕ). 6 ≤ v) st.version_is late in (
      block_stands c s key body four st none version k b (roomy s.buffer _ _ room_is (block_length c s key body four st none version)),
      block_in_buffer c s key body four st none version,
    )

pub accepted_adds : (step : Step) (s : DraftState) (c : Content) → Early step s → IsDraftOf c s.draft → step_answer step s ≡ Ok tt → IsStepGiven step → Adds step s c
accepted_adds (put new) s c none st e given =
    let o = payload_output new in
    let p = block_passed s (output_length o) e in
    let n = p.1 in
    let body = written_bytes o in
    let fits : within_capacity (capacity s.buffer) (end_with_block s.draft (length body)) ≡ Ok tt = ap (λ (m : ℕ). within_capacity (capacity s.buffer) (end_with_block s.draft m)) (sym (measured_bytes o n.0 n.1)) ∙ n.2 in
    let is : o ≡ bytes body = let w = output_length_is o n.0 (sym n.1) in w.1 ∙ ap bytes (sym (ap written_bytes w.1)) in
    let q = block_adds s c new.kind.key body given.0 given.1 (given.2 body is) none st p.0 fits in
    record { stands = q.0; written = q.1 }
accepted_adds (carried key body) s c none st e given =
    let p = block_passed s (Ok (length body)) e in
    let n = p.1 in
    let fits : within_capacity (capacity s.buffer) (end_with_block s.draft (length body)) ≡ Ok tt = ap (λ (m : ℕ). within_capacity (capacity s.buffer) (end_with_block s.draft m)) (same_ok (length body) n.0 n.1) ∙ n.2 in
    let q = block_adds s c key body given.0 given.1 given.2 none st p.0 fits in
    record { stands = q.0; written = q.1 }
accepted_adds (lay more) s c none st e given =
    let t = then_ok (all_of (lay_conditions s.draft.laid s.draft.cells s.draft.cell (length more))) (within_capacity (capacity s.buffer) (s.draft.size + s.draft.cell)) tt e in
    let both = lay_tells c s st (length more) t.0 in
    record { stands = cell_stands c s more st both.1 given both.0; written = cell_in_buffer c s more st both.1 }

pub follows : (step : Step) (s : DraftState) (c : Content) → Keyed step → Early step s → (step_answer step s ≡ Ok tt → IsStepGiven step) → IsDraftOf c s.draft → IsFollowing step s c
follows step s c keyed early given st =
    record {
      answers = answers step s c keyed early st;
      adds = λ d e. adds step (capacity s.buffer) c d e;
      stands = λ e. let a = accepted_adds step s c early st e (given e) in subst (λ (t : DraftState). IsDraftOf (content_after step c) t.draft) (sym (left e)) a.stands;
      begins = λ e begins. let a = accepted_adds step s c early st e (given e) in
          let w = a.written s.buffer (begins_file s.buffer (write c) begins) in
          subst (λ (t : DraftState). BeginsWith (content_after step c) t.buffer) (sym (left e)) (file_begins (step_done step s).buffer s.buffer (write (content_after step c)) w);
    }
  where
    left : step_answer step s ≡ Ok tt → draft_after step s ≡ step_done step s
    left e = ap (λ (a : Check). if_passed a (step_done step s) s) e

-- the same of a call that is refused, and of one whose arguments are known
pub follows_refused : (step : Step) (s : DraftState) (f : Fault) → Keyed step → Early step s → Err f ≡ step_answer step s → (c : Content) → IsDraftOf c s.draft → IsFollowing step s c
follows_refused step s f keyed early r c st = follows step s c keyed early (λ e. absurd (not_both tt f (r ∙ e))) st

pub follows_given : (step : Step) (s : DraftState) → Keyed step → Early step s → IsStepGiven step → (c : Content) → IsDraftOf c s.draft → IsFollowing step s c
follows_given step s keyed early given c st = follows step s c keyed early (λ e. given) st
