-- What a call answers and leaves: set, store and load.
use Rattle.std.proofs.Common.{◌≡◌, ℕ, ◌+◌, ◌-◌, ◌^◌, ◌<◌, ◌≤◌, max, leb, List, ◌++◌, length, take, drop, replicate, Ok, Err, Result, IfOk, IsOk, sym, refl, ap, ◌∙◌, subst, arith, rules}
use Rattle.std.proofs.lemmas.Bool.{le-leb, lt-leb, leb-true}
use Rattle.std.proofs.lemmas.Bool.Decides.{nat_tests}
use Rattle.std.proofs.lemmas.List.{same_lists, length-replicate, take_at, drop-drop, places, length-append, length-take-le}
use Rattle.std.proofs.Math.Seq.{drop-append-add}
use Rattle.std.proofs.Math.Nat.{zero-add}
use Rattle.buffers.specs.Moves.{written}
use Rattle.buffers.specs.Words.{Width, be, be32, Bytes}
use Rattle.faults.specs.declared.fault.Fault.{Fault}
use Rattle.faults.specs.declared.refusal.Refusal.TheVariants.{Capacity}
use Rattle.faults.specs.Faults.{fault}
use Rattle.format.specs.declared.judging.Layout.{Layout}
use Rattle.format.specs.Changes.{with_field}
use Rattle.format.specs.Checks.{Check, unless, ◌then◌, ◌with◌, passed, all_of}
use Rattle.format.specs.Content.{Content, IsSound, write, content, content_sizes, header, section, start}
use Rattle.format.specs.declared.sizes.Sizes.{Sizes}
use Rattle.format.specs.Judging.{judged}
use Rattle.format.specs.Header.{the_field, header_end}
use Rattle.format.proofs.Writing.{writing_changes, header_long}
use Rattle.format.specs.Rows.{row_in, row_span}
use Rattle.reader.specs.Laws.{ReadFile}
use Rattle.reader.specs.Levels.{layout_of_file}
use Rattle.reader.proofs.Asked.{then_ok, unless_ok}
use Rattle.reader.proofs.Written.{field_total, within_count}
use Rattle.editor.specs.Edits.{set, store, set_conditions, store_conditions, with_row, edited_content}
use Rattle.editor.specs.steps.Places.{set_place, store_place}
use Rattle.editor.specs.Calls.{WorkState, work_state, file, file_end, Call, load, edit, new_content, call_outcome, state_left, call_answer, state_after}
use Rattle.format.specs.InBuffer.{capacity, room_for, with_file}
use Rattle.editor.proofs.calls.Held.{Holding, same_ok, ok_is, not_both, with_ok, holding_of, file_content_is, end_is, size_is}
use Rattle.editor.proofs.calls.Places.{stored_at}
use Rattle.buffers.proofs.Lists.{written-length}
use Rattle.editor.proofs.laws.Sounds.{storable, row_among, Settable, settable, wide}

-- a call that is refused before its last condition
pub refused : (call : Call) (s : WorkState) (f : Fault) → new_content call s ≡ Err f → (call_answer call s ≡ Err f) × (state_after call s ≡ s)
unfolding call_answer state_after
refused call s f e =
    let o : call_outcome call s ≡ Err f = ap (λ (r : Result Content Fault). r with λ c. room_for (capacity s.buffer) c then Ok c) e in
    (ap passed o, ap (state_left s) o)

-- and one that is not refused
pub accepted : (call : Call) (s : WorkState) (d : Content) → new_content call s ≡ Ok d → length (write d) ≤ capacity s.buffer
    → (call_answer call s ≡ Ok tt) × (state_after call s ≡ state_left s (Ok d))
unfolding call_answer state_after
accepted call s d e room =
    let fits : room_for (capacity s.buffer) d ≡ Ok tt = rw (le-leb (length (write d)) (capacity s.buffer) room) refl in
    let o : call_outcome call s ≡ Ok d =
    ap (λ (r : Result Content Fault). r with λ c. room_for (capacity s.buffer) c then Ok c) e ∙ ap (λ (c : Check). c then Ok d) fits in
    (ap passed o, ap (state_left s) o)

-- what is refused stays, and what is accepted is left as the content that the call wants
pub refused_stays : (call : Call) (s : WorkState) (f : Fault) → Err f ≡ call_answer call s → state_after call s ≡ s
unfolding call_answer state_after
refused_stays call s f e = by (call_outcome call s) e
  where
    by : (r : Result Content Fault) → Err f ≡ passed r → state_left s r ≡ s
    by (Ok d) e = absurd (not_both tt f e)
    by (Err g) e = refl

pub accepted_leaves : (call : Call) (s : WorkState) (d : Content) → Ok tt ≡ call_answer call s → new_content call s ≡ Ok d → state_after call s ≡ state_left s (Ok d)
unfolding call_answer state_after
accepted_leaves call s d e w =
    ap (λ (r : Result Content Fault). state_left s (r with λ c. room_for (capacity s.buffer) c then Ok c)) w
    ∙ by (room_for (capacity s.buffer) d) (e ∙ ap (λ (r : Result Content Fault). passed (r with λ c. room_for (capacity s.buffer) c then Ok c)) w)
  where
    by : (c : Check) → Ok tt ≡ passed (c then Ok d) → state_left s (c then Ok d) ≡ state_left s (Ok d)
    by (Ok u) e = refl
    by (Err g) e = absurd (not_both tt g (sym e))

-- what an accepted call wanted, and that there was room for it
pub fits : (most : ℕ) (r : Result Content Fault) (d : Content) → (r with λ c. room_for most c then Ok c) ≡ Ok d → (r ≡ Ok d) × (length (write d) ≤ most)
fits most r d e =
    let w = with_ok r (λ c. room_for most c then Ok c) d e in
    let c = w.0 in
    let q = then_ok (room_for most c) (Ok c) d w.2 in
    let room : length (write c) ≤ most = leb-true _ _ (unless_ok _ _ q.0) in
    let is : c ≡ d = same_ok c d q.1 in
    (w.1 ∙ ap Ok is, subst (λ (x : Content). length (write x) ≤ most) is room)

passed_ok : {X : Type 0} (r : Result X Fault) → passed r ≡ Ok tt → (x : X) × (r ≡ Ok x)
passed_ok (Ok x) e = (x, refl)
passed_ok (Err f) e = absurd (not_both tt f e)

pub accepted_with : (call : Call) (s : WorkState) → call_answer call s ≡ Ok tt
    → (d : Content) × (new_content call s ≡ Ok d) × (length (write d) ≤ capacity s.buffer) × (state_after call s ≡ state_left s (Ok d))
unfolding call_answer state_after
accepted_with call s e =
    let d = passed_ok (call_outcome call s) e in
    let f = fits (capacity s.buffer) (new_content call s) d.0 d.1 in
    (d.0, f.0, f.1, ap (state_left s) d.1)

-- a call that is refused by its last condition
pub over_capacity : (call : Call) (s : WorkState) (d : Content) (n : ℕ) → new_content call s ≡ Ok d → length (write d) ≡ n → capacity s.buffer < n
    → (call_answer call s ≡ Err (fault Capacity n)) × (state_after call s ≡ s)
unfolding call_answer state_after
over_capacity call s d n e long over =
    let misses : room_for (capacity s.buffer) d ≡ Err (fault Capacity n) =
    ap (λ (m : ℕ). unless (leb m (capacity s.buffer)) (fault Capacity m)) long ∙ rw (lt-leb n (capacity s.buffer) over) refl in
    let o : call_outcome call s ≡ Err (fault Capacity n) =
    ap (λ (r : Result Content Fault). r with λ c. room_for (capacity s.buffer) c then Ok c) e ∙ ap (λ (c : Check). c then Ok d) misses in
    (ap passed o, ap (state_left s) o)

-- behind the same conditions
then_err : {X Y : Type 0} (c : Check) (x : X) (y : Y) (f : Fault) → (c then Ok x) ≡ Err f → (c then Ok y) ≡ Err f
then_err (Ok u) x y f e = absurd (not_both x f (sym e))
then_err (Err g) x y f e = let is : g ≡ f = cc in ap Err is

-- a file that gives way to one of the same size
same_size : (buffer new : List ℕ) (old : ℕ) → length new ≡ old → with_file buffer old new ≡ new ++ drop old buffer
same_size buffer new old l =
    let none : old - length new ≡ 0 = omega arith in
    let most : max old (length new) ≡ old = omega arith in
    rw (none, most) refl

-- a file that is written, and zeros behind it
pub put_whole : (buffer new : List ℕ) (old : ℕ) → old ≤ length buffer → length new ≤ length buffer
    → written (written buffer 0 new) (length new) (replicate (old - length new) 0) ≡ with_file buffer old new
unfolding written
put_whole buffer new old h k =
    let zeros : List ℕ = replicate (old - length new) 0 in
    let long : length zeros ≡ old - length new = length-replicate (old - length new) 0 in
    let rest : List ℕ = drop (length new) buffer in
    let front : take (length new) (new ++ rest) ≡ new = take_at new rest (length new) refl in
    let behind : drop (length new + length zeros) (new ++ rest) ≡ drop (max old (length new)) buffer =
    drop-append-add new rest (length zeros) ∙ drop-drop (length zeros) (length new) buffer ∙ ap (λ (n : ℕ). drop n buffer) (omega arith) in
    ap (λ (n : ℕ). take (length new) (new ++ drop n buffer) ++ (zeros ++ drop (length new + length zeros) (new ++ drop n buffer))) (zero-add (length new))
    ∙ ap (λ (l : List ℕ). l ++ (zeros ++ drop (length new + length zeros) (new ++ rest))) front
    ∙ ap (λ (l : List ℕ). new ++ (zeros ++ l)) behind

-- bytes that are written in the file are written in the buffer
written_front : (buffer r : List ℕ) (old at : ℕ) → at + length r ≤ old → old ≤ length buffer → written (take old buffer) at r ++ drop old buffer ≡ written buffer at r
unfolding written
written_front buffer r old at h k =
    let long = length-take-le old buffer k in
    let l1 = length-append (take at (take old buffer)) (r ++ drop (at + length r) (take old buffer)) in
    let l2 = length-append r (drop (at + length r) (take old buffer)) in
    same_lists _ _ (search (rules, places)) (λ i z w. grind (arith, places))

-- an edit that writes bytes at a place of the file, and changes nothing else
pub writes_there : (s : WorkState) (c d : Content) (at : ℕ) (r : List ℕ) → Holding s c → write d ≡ written (write c) at r → at + length r ≤ s.size
    → (length (write d) ≡ s.size) × (state_left s (Ok d) ≡ work_state (written s.buffer at r) s.size)
writes_there s c d at r h e inside =
    let size = size_is s c h in
    let long : length (write d) ≡ s.size = ap length e ∙ written-length (write c) at r (omega arith) ∙ size in
    let front : write d ≡ written (take s.size s.buffer) at r = e ∙ ap (λ (b : List ℕ). written b at r) (sym h.written) in
    let whole : with_file s.buffer s.size (write d) ≡ written s.buffer at r =
    same_size s.buffer (write d) s.size long ∙ ap (λ (b : List ℕ). b ++ drop s.size s.buffer) front
    ∙ written_front s.buffer r s.size at inside (omega (arith, h.room)) in
    let ends : with_file s.buffer (file_end s) (write d) ≡ written s.buffer at r = ap (λ (n : ℕ). with_file s.buffer n (write d)) (end_is s c h) ∙ whole in
    (long, λ i. work_state (ends i) (long i))

-- ---- a field is set
-- what the buffer is, by the place that was found
abbrev pub set_left : WorkState → ℕ → Result ℕ Fault → WorkState
set_left s x (Ok place) = work_state (written s.buffer place (be32 x)) s.size
set_left s x (Err f) = s

-- a field stands in the header, and the header in the file
field_within : (n v : ℕ) → 1 ≤ n → n ≤ 20 → (the_field n).level ≤ v → (the_field n).place + 4 ≤ header_end v
field_within n v from to seen = grind (arith, nat_tests)

field_before : (n v : ℕ) → Settable v n → (the_field n).place + 4 ≤ header_end v
field_before n v k = field_within n v k.from k.to k.present

header_inside : (c : Content) → IsSound c → header_end c.version ≤ length (write c)
header_inside c s =
    let long = header_long c s.fields_fit in
    let rest : List ℕ = section c.blocks ++ (c.gap ++ (c.cells ++ c.tail)) in
    let all = length-append (header c) rest in
    omega arith

within_file : (place head long size : ℕ) → place + 4 ≤ head → head ≤ long → long ≡ size → place + 4 ≤ size
within_file place head long size h k l = omega arith

-- what is set is found where the content has it
set_found : (s : WorkState) (n x : ℕ) (l : Layout) (place : ℕ) → ReadFile (file s) → layout_of_file (file s) ≡ Ok l → (all_of (set_conditions l.version n) then Ok (the_field n).place) ≡ Ok place
    → x < 2 ^ 32 → (call_answer (edit (set n x)) s ≡ Ok tt) × (state_after (edit (set n x)) s ≡ work_state (written s.buffer place (be32 x)) s.size) × (place + 4 ≤ s.size)
set_found s n x l place read e found less =
    let b = file s in
    let c = content b in
    let h = holding_of s l read e in
    let r = read.each l e in
    let q = then_ok (all_of (set_conditions l.version n)) (Ok (the_field n).place) place found in
    let passes : all_of (set_conditions c.version n) ≡ Ok tt = subst (λ (v : ℕ). all_of (set_conditions v n) ≡ Ok tt) r.version_is q.0 in
    let k = settable c.version n passes in
    let d = with_field c n x in
    let at : (the_field n).place ≡ place = cc in
    let made : new_content (edit (set n x)) s ≡ Ok d = ap (λ (y : Result Content Fault). y with edited_content (set n x)) (file_content_is s c h) ∙ ap (λ (y : Check). y then Ok d) passes in
    let few : n ≤ length c.fields = subst (λ (y : ℕ). n ≤ y) (sym (field_total c h.sound)) (within_count c.version n k.from k.to k.present) in
    let change : write d ≡ written (write c) place (be32 x) =
    (writing_changes c h.sound).field_change n x k.from few ∙ ap (λ (w : Width). written (write c) (the_field n).place (be w x)) (wide c.version n k)
    ∙ ap (λ (y : ℕ). written (write c) y (be32 x)) at in
    let inside : place + 4 ≤ s.size = subst (λ (y : ℕ). y + 4 ≤ s.size) at (within_file (the_field n).place (header_end c.version) (length (write c)) s.size (field_before n c.version k) (header_inside c h.sound) (size_is s c h)) in
    let t = writes_there s c d place (be32 x) h change inside in
    let room : length (write d) ≤ capacity s.buffer = subst (λ (y : ℕ). y ≤ capacity s.buffer) (sym t.0) h.room in
    let a = accepted (edit (set n x)) s d made room in
    (a.0, a.1 ∙ t.1, inside)

set_refused : (s : WorkState) (n x : ℕ) (f : Fault) → ReadFile (file s) → (r : Result Layout Fault) → layout_of_file (file s) ≡ r
    → (r with λ l. all_of (set_conditions l.version n) then Ok (the_field n).place) ≡ Err f → new_content (edit (set n x)) s ≡ Err f
set_refused s n x f read (Err g) e found =
    let is : g ≡ f = cc in
    ap (λ (r : Result Layout Fault). (r with λ l. Ok (content (file s))) with edited_content (set n x)) e ∙ ap Err is
set_refused s n x f read (Ok l) e found =
    let c = content (file s) in
    let r = read.each l e in
    let fails = then_err (all_of (set_conditions l.version n)) (the_field n).place (with_field c n x) f found in
    ap (λ (y : Result Layout Fault). (y with λ m. Ok c) with edited_content (set n x)) e
    ∙ ap (λ (v : ℕ). all_of (set_conditions v n) then Ok (with_field c n x)) (sym r.version_is) ∙ fails

-- what the call answers and leaves, by the place that was found; and that place lies in the buffer
pub record SetBy (s : WorkState) (n x : ℕ) (r : Result ℕ Fault) : Type 0 where
  pub answers : passed r ≡ call_answer (edit (set n x)) s
  pub leaves : state_after (edit (set n x)) s ≡ set_left s x r
  pub inside : IfOk r (λ place. place + 4 ≤ length s.buffer)

pub set_by : (s : WorkState) (n x : ℕ) (r : Result ℕ Fault) → ReadFile (file s) → r ≡ set_place (file s) n → x < 2 ^ 32 → SetBy s n x r
set_by s n x (Err f) read e less =
    let q = refused (edit (set n x)) s f (set_refused s n x f read (layout_of_file (file s)) refl (sym e)) in
    record { answers = sym q.0; leaves = q.1; inside = tt }
set_by s n x (Ok place) read e less =
    let w = with_ok (layout_of_file (file s)) (λ l. all_of (set_conditions l.version n) then Ok (the_field n).place) place (sym e) in
    let h = holding_of s w.0 read w.1 in
    let q = set_found s n x w.0 place read w.1 w.2 less in
    record { answers = sym q.0; leaves = q.1; inside = omega (arith, q.2, h.room) }

-- the cells stand in the file
cells_within : (c : Content) (at n place size : ℕ) → IsSound c → at + n ≤ length c.cells → start c + at ≡ place → length (write c) ≡ size → place + n ≤ size
cells_within c at n place size s h is long =
    let head = header_long c s.fields_fit in
    let l1 = length-append (header c) (section c.blocks ++ (c.gap ++ (c.cells ++ c.tail))) in
    let l2 = length-append (section c.blocks) (c.gap ++ (c.cells ++ c.tail)) in
    let l3 = length-append c.gap (c.cells ++ c.tail) in
    let l4 = length-append c.cells c.tail in
    omega arith

-- ---- a row is stored
abbrev pub store_left : WorkState → List ℕ → Result ℕ Fault → WorkState
store_left s bytes (Ok place) = work_state (written s.buffer place bytes) s.size
store_left s bytes (Err f) = s

store_found : (s : WorkState) (cell row : ℕ) (bytes : List ℕ) (l : Layout) (place : ℕ) → ReadFile (file s) → layout_of_file (file s) ≡ Ok l
    → (all_of (store_conditions l.sizes cell row (length bytes)) then Ok (row_span l cell row).0) ≡ Ok place → Bytes bytes
    → (call_answer (edit (store cell row bytes)) s ≡ Ok tt) × (state_after (edit (store cell row bytes)) s ≡ work_state (written s.buffer place bytes) s.size) × (place + length bytes ≤ s.size)
store_found s cell row bytes l place read e found given =
    let b = file s in
    let c = content b in
    let h = holding_of s l read e in
    let r = read.each l e in
    let z = content_sizes c in
    let in-cells = (row_in z cell row).0 in
    let q = then_ok (all_of (store_conditions l.sizes cell row (length bytes))) (Ok (row_span l cell row).0) place found in
    let passes : all_of (store_conditions z cell row (length bytes)) ≡ Ok tt = subst (λ (y : Sizes). all_of (store_conditions y cell row (length bytes)) ≡ Ok tt) r.sizes_are q.0 in
    let k = storable z cell row (length bytes) passes in
    let d = with_row c cell row bytes in
    let span : l.start + (row_in l.sizes cell row).0 ≡ place = cc in
    let at : start c + in-cells ≡ place = ap (λ (y : Sizes). start c + (row_in y cell row).0) (sym r.sizes_are) ∙ ap (λ (y : ℕ). y + (row_in l.sizes cell row).0) (sym r.start_is) ∙ span in
    let made : new_content (edit (store cell row bytes)) s ≡ Ok d =
    ap (λ (y : Result Content Fault). y with edited_content (store cell row bytes)) (file_content_is s c h) ∙ ap (λ (y : Check). y then Ok d) passes in
    let among = row_among c cell row h.sound k.cells k.rows in
    let fits : in-cells + length bytes ≤ length c.cells = subst (λ (y : ℕ). in-cells + y ≤ length c.cells) (sym k.long) among in
    let change : write d ≡ written (write c) place bytes =
    (writing_changes c h.sound).cells_change in-cells bytes fits ∙ ap (λ (y : ℕ). written (write c) y bytes) at in
    let inside : place + length bytes ≤ s.size = cells_within c in-cells (length bytes) place s.size h.sound fits at (size_is s c h) in
    let t = writes_there s c d place bytes h change inside in
    let room : length (write d) ≤ capacity s.buffer = subst (λ (y : ℕ). y ≤ capacity s.buffer) (sym t.0) h.room in
    let a = accepted (edit (store cell row bytes)) s d made room in
    (a.0, a.1 ∙ t.1, inside)

store_refused : (s : WorkState) (cell row : ℕ) (bytes : List ℕ) (f : Fault) → ReadFile (file s) → (r : Result Layout Fault) → layout_of_file (file s) ≡ r
    → (r with λ l. all_of (store_conditions l.sizes cell row (length bytes)) then Ok (row_span l cell row).0) ≡ Err f → new_content (edit (store cell row bytes)) s ≡ Err f
store_refused s cell row bytes f read (Err g) e found =
    let is : g ≡ f = cc in
    ap (λ (r : Result Layout Fault). (r with λ l. Ok (content (file s))) with edited_content (store cell row bytes)) e ∙ ap Err is
store_refused s cell row bytes f read (Ok l) e found =
    let c = content (file s) in
    let r = read.each l e in
    let fails = then_err (all_of (store_conditions l.sizes cell row (length bytes))) (row_span l cell row).0 (with_row c cell row bytes) f found in
    ap (λ (y : Result Layout Fault). (y with λ m. Ok c) with edited_content (store cell row bytes)) e
    ∙ ap (λ (z : Sizes). all_of (store_conditions z cell row (length bytes)) then Ok (with_row c cell row bytes)) (sym r.sizes_are) ∙ fails

pub record StoreBy (s : WorkState) (cell row : ℕ) (bytes : List ℕ) (r : Result ℕ Fault) : Type 0 where
  pub answers : passed r ≡ call_answer (edit (store cell row bytes)) s
  pub leaves : state_after (edit (store cell row bytes)) s ≡ store_left s bytes r
  pub inside : IfOk r (λ place. place + length bytes ≤ length s.buffer)

pub store_by : (s : WorkState) (cell row : ℕ) (bytes : List ℕ) (r : Result ℕ Fault) → ReadFile (file s) → r ≡ store_place (file s) cell row (length bytes) → Bytes bytes
    → StoreBy s cell row bytes r
store_by s cell row bytes (Err f) read e given =
    let q = refused (edit (store cell row bytes)) s f (store_refused s cell row bytes f read (layout_of_file (file s)) refl (sym (e ∙ stored_at (file s) cell row (length bytes)))) in
    record { answers = sym q.0; leaves = q.1; inside = tt }
store_by s cell row bytes (Ok place) read e given =
    let w = with_ok (layout_of_file (file s)) (λ l. all_of (store_conditions l.sizes cell row (length bytes)) then Ok (row_span l cell row).0) place (sym (e ∙ stored_at (file s) cell row (length bytes))) in
    let h = holding_of s w.0 read w.1 in
    let q = store_found s cell row bytes w.0 place read w.1 w.2 given in
    record { answers = sym q.0; leaves = q.1; inside = omega (arith, q.2, h.room) }

-- ---- other bytes are loaded
load_wanted : (s : WorkState) (bytes : List ℕ) (l : Layout) → Ok l ≡ judged bytes → new_content (load bytes) s ≡ Ok (content bytes)
load_wanted s bytes l e = ap (λ (r : Result Layout Fault). r with λ m. Ok (content bytes)) (sym e)

pub load_refused : (s : WorkState) (bytes : List ℕ) (f : Fault) → Err f ≡ judged bytes → Err f ≡ call_answer (load bytes) s
load_refused s bytes f e = sym (refused (load bytes) s f (ap (λ (r : Result Layout Fault). r with λ l. Ok (content bytes)) (sym e))).0

pub load_over : (s : WorkState) (bytes : List ℕ) (l : Layout) → Ok l ≡ judged bytes → write (content bytes) ≡ bytes → capacity s.buffer < length bytes
    → Err (fault Capacity (length bytes)) ≡ call_answer (load bytes) s
load_over s bytes l e w over = sym (over_capacity (load bytes) s (content bytes) (length bytes) (load_wanted s bytes l e) (ap length w) over).0

pub load_done : (s : WorkState) (bytes : List ℕ) (l : Layout) → Ok l ≡ judged bytes → write (content bytes) ≡ bytes → length bytes ≤ capacity s.buffer
    → Ok tt ≡ call_answer (load bytes) s
load_done s bytes l e w room =
    sym (accepted (load bytes) s (content bytes) (load_wanted s bytes l e) (subst (λ (b : List ℕ). length b ≤ capacity s.buffer) (sym w) room)).0

pub load_leaves : (s : WorkState) (bytes : List ℕ) → IsOk (judged bytes) → write (content bytes) ≡ bytes → Ok tt ≡ call_answer (load bytes) s
    → state_after (load bytes) s ≡ work_state (with_file s.buffer (file_end s) bytes) (length bytes)
load_leaves s bytes o w a =
    let l = ok_is (judged bytes) o in
    accepted_leaves (load bytes) s (content bytes) a (load_wanted s bytes l.0 (sym l.1)) ∙ ap (λ (b : List ℕ). work_state (with_file s.buffer (file_end s) b) (length b)) w
