use Rattle.std.proofs.Common.{rules}
use Rattle.kinds.specs.Kind.{payload}
use Rattle.editor.specs.Calls.{view, load, edit}
use Rattle.editor.specs.Edits.{set, store, add, carry, lengthen, replace, remove, raise}
use Rattle.editor.specs.Law.{WorkRun, stop, ask}
use Rattle.editor.proofs.laws.Sessions.{go_on, always}
use Rattle.editor.proofs.amending.amend.Goals as goal

pub returns : goal.returns
returns g c =
    let by = c.args.by.now in
    let a = g.A.Kind in
    let b = g.B.Kind in
    let s0 = view c.make-file.result in
    let s1 = view c.load-loaded.new.self in
    let s2 = view c.raise-raised.new.self in
    let s3 = view c.set-changed.new.self in
    let s4 = view c.store-stored.new.self in
    let s5 = view c.add-added.new.self in
    let s6 = view c.carry-carried.new.self in
    let s7 = view c.lengthen-lengthened.new.self in
    let s8 = view c.replace-replaced.new.self in
    let s9 = view c.remove-removed.new.self in
    let removing : WorkRun s8 _ s9 = go_on (edit (remove by.less)) c.remove-removed.result s8 s9 s9 _ (record { given = always c.remove-removed.result _ c.remove-removed.ensures.given; answered = c.remove-removed.ensures.answer; left = c.remove-removed.ensures.after }) stop in
    let replacing : WorkRun s7 _ s9 = go_on (edit (replace by.other (payload b.kind (b.numbers c.args.second) by.replaced.now))) c.replace-replaced.result s7 s8 s9 _ (record { given = c.replace-replaced.ensures.given; answered = c.replace-replaced.ensures.answer; left = c.replace-replaced.ensures.after }) removing in
    let lengthening : WorkRun s6 _ s9 = go_on (edit (lengthen by.longer by.more.now)) c.lengthen-lengthened.result s6 s7 s9 _ (record { given = always c.lengthen-lengthened.result _ c.lengthen-lengthened.ensures.given; answered = c.lengthen-lengthened.ensures.answer; left = c.lengthen-lengthened.ensures.after }) replacing in
    let carrying : WorkRun s5 _ s9 = go_on (edit (carry by.key by.body.now)) c.carry-carried.result s5 s6 s9 _ (record { given = always c.carry-carried.result _ c.carry-carried.ensures.given; answered = c.carry-carried.ensures.answer; left = c.carry-carried.ensures.after }) lengthening in
    let adding : WorkRun s4 _ s9 = go_on (edit (add (payload a.kind (a.numbers c.args.first) by.added.now))) c.add-added.result s4 s5 s9 _ (record { given = c.add-added.ensures.given; answered = c.add-added.ensures.answer; left = c.add-added.ensures.after }) carrying in
    let storing : WorkRun s3 _ s9 = go_on (edit (store by.cell by.row by.bytes.now)) c.store-stored.result s3 s4 s9 _ (record { given = always c.store-stored.result _ c.store-stored.ensures.given; answered = c.store-stored.ensures.answer; left = c.store-stored.ensures.after }) (ask adding) in
    let setting : WorkRun s2 _ s9 = go_on (edit (set by.field by.value)) c.set-changed.result s2 s3 s9 _ (record { given = always c.set-changed.result _ c.set-changed.ensures.given; answered = c.set-changed.ensures.answer; left = c.set-changed.ensures.after }) storing in
    let raising : WorkRun s1 _ s9 = go_on (edit (raise by.values.now)) c.raise-raised.result s1 s2 s9 _ (record { given = always c.raise-raised.result _ c.raise-raised.ensures.given; answered = c.raise-raised.ensures.answer; left = c.raise-raised.ensures.after }) setting in
    let loading : WorkRun s0 _ s9 = go_on (load by.file.now) c.load-loaded.result s0 s1 s9 _ (record { given = always c.load-loaded.result _ c.load-loaded.ensures.given; answered = c.load-loaded.ensures.answer; left = c.load-loaded.ensures.after }) raising in
    let told = c.make-file.ensures.law.tells _ s9 loading in
    search rules
