use Rattle.std.proofs.Common.{◌≡◌, ◌+◌, ◌-◌, ◌≤◌, ◌++◌, slice_get, ap, sym, subst, ◌∙◌, arith}
use Rattle.std.specs.Option.{option_or}
use Rattle.plan_core.specs.Inside.{Desk}
use Rattle.plan_core.specs.Parties.{position_in, positions}
use Rattle.plan_core.proofs.Marking.{first_noted}
use Rattle.plan_core.proofs.Noted.{positions_noted}
use Rattle.plan_core.proofs.clients.Client.note.Goals as goal

pub invariant_of-self : goal.invariant_of-self
invariant_of-self c =
    let log = c.self.inside.log.items in
    let entry = c.args.entry in
    let room : 1 ≤ c.self.inside.room = subst (λ (desk : Desk). 1 ≤ desk.room) (sym c.self.view_is) c.requires.room in
    record {
      first = c.or-self-inside.ensures ∙ (ap (λ first. option_or first entry) c.self.invariant.first ∙ (first_noted (positions log) entry ∙ ap (λ all. slice_get all 0) (sym (ap positions c.push_reserved.ensures.items ∙ positions_noted log c.args.point entry))));
      listed = omega (arith, c.self.invariant.listed, c.push_reserved.ensures.len, c.push_reserved.ensures.capacity, room);
    }
