-- Each turn copies a row behind those before it, and behind the last row all are copied.
use Rattle.std.proofs.Common.{◌≡◌, ℕ, length, Ok, Err, Result, sym, ◌∙◌, rules, arith}
use Rattle.faults.specs.declared.fault.Fault.{Fault}
use Rattle.reader.specs.Judged.{judged_bytes}
use Rattle.exports.proofs.Rows.{Turn, turn_fits, turn_copied, cell_copied, all_copied, has_room}
use Rattle.exports.proofs.Rows.{copied_answer, copied_list}
use Rattle.exports.proofs.copy_rows.Goals.{else-loop-row-test}
use Rattle.exports.proofs.copy_rows.Goals.{then-loop-row-test+in_ok-length+in_ok-numbers+else-row-row-end}
use Rattle.exports.proofs.copy_rows.Goals as goal

pub returns-in_err-numbers : goal.returns-in_err-numbers
returns-in_err-numbers c =
    let b = judged_bytes c.args.file.now in
    let l = c.in_ok-layout.layout in
    let old = c.args.list.now in
    let cell = c.loop-cell.cell in
    let row = c.loop-row.row in
    let at = c.loop-row.end in
    let now = c.loop-row.list in
    let p : ℕ × ℕ = (c.in_ok-length.field-0-0, c.in_ok-length.length) in
    let t : Turn b l old cell row at now p = record {
      known = sym c.in_ok-layout.ensures.exact;
      answered = c.in_ok-length.ensures.answer;
      begins = c.loop-row.invariant.0;
      fits = has_room l c.cell_size.result (length old) c.cell_size.ensures (search rules);
      long = c.loop-row.auto.list ∙ c.loop-cell.auto.list;
      before = c.loop-row.invariant.2;
    } in
    let room = turn_fits b l old cell row at now p t in
    let both : ◌≡◌ {A = Result (Unit {0}) Fault} (Err c.in_err-numbers.field-0.0) (Ok tt) =
    c.in_err-numbers.ensures.answer ∙ room in
    let z : ◌≡◌ {A = ℕ} 0 1 = cc in
    absurd (omega arith)

pub loop-row-preserved : goal.loop-row-preserved
loop-row-preserved c =
    let b = judged_bytes c.args.file.now in
    let l = c.in_ok-layout.layout in
    let old = c.args.list.now in
    let cell = c.loop-cell.cell in
    let row = c.loop-row.row in
    let at = c.loop-row.end in
    let now = c.loop-row.list in
    let p : ℕ × ℕ = (c.in_ok-length.field-0-0, c.in_ok-length.length) in
    let t : Turn b l old cell row at now p = record {
      known = sym c.in_ok-layout.ensures.exact;
      answered = c.in_ok-length.ensures.answer;
      begins = c.loop-row.invariant.0;
      fits = has_room l c.cell_size.result (length old) c.cell_size.ensures (search rules);
      long = c.loop-row.auto.list ∙ c.loop-cell.auto.list;
      before = c.loop-row.invariant.2;
    } in
    turn_copied b l old cell row at now p c.numbers.new.list t c.numbers.ensures.list

pub loop-cell-preserved : goal.loop-cell-preserved
loop-cell-preserved c =
    let b = judged_bytes c.args.file.now in
    let l = c.in_ok-layout.layout in
    let old = c.args.list.now in
    elim c.loop-row-test.branch [
      | else-loop-row-test w ↦ absurd (omega arith)
      | then-loop-row-test+in_ok-length+in_ok-numbers+else-row-row-end w ↦
          let cell = c.loop-cell.cell in
          let row = c.loop-row.row in
          let at = c.loop-row.end in
          let now = c.loop-row.list in
          let p : ℕ × ℕ = (w.in_ok-length.field-0-0, w.in_ok-length.length) in
          let t : Turn b l old cell row at now p = record {
            known = sym c.in_ok-layout.ensures.exact;
            answered = w.in_ok-length.ensures.answer;
            begins = c.loop-row.invariant.0;
            fits = has_room l c.cell_size.result (length old) c.cell_size.ensures (search rules);
            long = c.loop-row.auto.list ∙ c.loop-cell.auto.list;
            before = c.loop-row.invariant.2;
          } in
          let from = c.loop-cell.auto.cell in
          let new = w.numbers.new.list in
          let next = c.loop-row-test.list in
          let end = c.loop-row-test.end in
          let copy = w.numbers.ensures.list in
          cell_copied b l old cell row at now p new next end t copy from (omega arith)
          w.end-is w.list-is
    ]

pub returns-else-count-list-2 : goal.returns-else-count-list-2
returns-else-count-list-2 c =
    let b = judged_bytes c.args.file.now in
    let l = c.in_ok-layout.layout in
    let old = c.args.list.now in
    elim c.loop-row-test.branch [
      | else-loop-row-test w ↦ absurd (omega arith)
      | then-loop-row-test+in_ok-length+in_ok-numbers+else-row-row-end w ↦
          let cell = c.loop-cell.cell in
          let row = c.loop-row.row in
          let at = c.loop-row.end in
          let now = c.loop-row.list in
          let p : ℕ × ℕ = (w.in_ok-length.field-0-0, w.in_ok-length.length) in
          let t : Turn b l old cell row at now p = record {
            known = sym c.in_ok-layout.ensures.exact;
            answered = w.in_ok-length.ensures.answer;
            begins = c.loop-row.invariant.0;
            fits = has_room l c.cell_size.result (length old) c.cell_size.ensures (search rules);
            long = c.loop-row.auto.list ∙ c.loop-cell.auto.list;
            before = c.loop-row.invariant.2;
          } in
          let from = c.loop-cell.auto.cell in
          let new = w.numbers.new.list in
          let next = c.loop-row-test.list in
          let end = c.loop-row-test.end in
          let copy = w.numbers.ensures.list in
          let done =
          cell_copied b l old cell row at now p new next end t copy from (omega arith)
          w.end-is w.list-is in
          let all = all_copied l cell end done.0 (omega arith) in
          record {
            answer = copied_answer b l old end t.known t.fits all;
            list = copied_list b l old next end t.known t.fits all done.2;
          }
    ]
