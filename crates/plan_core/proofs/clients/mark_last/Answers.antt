use Rattle.std.proofs.Common.{◌≡◌, ◌+◌, ◌-◌, ◌<◌, length, get_or, ap, sym, ◌∙◌, arith}
use Rattle.std.specs.Vec.{vec_len}
use Rattle.plan_core.specs.declared.notes.Note.{Note}
use Rattle.plan_core.specs.Parties.{marked}
use Rattle.plan_core.proofs.Marking.{mark_last}
use Rattle.plan_core.proofs.clients.mark_last.Goals as goal

pub returns-in-Some-clause-items : goal.returns-in-Some-clause-items
returns-in-Some-clause-items c =
    let at = c.args.at in
    let log = c.args.log.now.items in
    let note = c.in-Some.note.now in
    let n = vec_len c.args.log.now - 1 in
    let some : 0 < length log = c.in-Some.ensures.item.3.0 in
    let is : record note { lost = c.is_lost-note.result } ≡ marked at (get_or log n note) = ap (λ lost. record note { lost = lost }) c.is_lost-note.ensures ∙ ap (marked at) c.in-Some.ensures.value in
    mark_last at log n (record note { lost = c.is_lost-note.result }) note c.requires (omega (arith, some, c.args.log.now.ok.0)) is
