use Rattle.std.proofs.Common.{◌≡◌, ◌+◌, ◌≤◌, length, map, slice_get, ap, sym, subst, ◌∙◌, arith}
use Rattle.plan_core.specs.Inside.{Desk, first_but, IsAtLast}
use Rattle.plan_core.specs.Parties.{positions}
use Rattle.plan_core.proofs.Marking.{first_lost}
use Rattle.plan_core.proofs.clients.Client.lose.Goals as goal

pub invariant_of-self : goal.invariant_of-self
invariant_of-self c =
    let log = c.self.inside.log.items in
    let last : IsAtLast c.args.at log = subst (λ (desk : Desk). IsAtLast c.args.at desk.party.log) (sym c.self.view_is) c.requires.last in
    record {
      first = c.other_than-self-inside.ensures ∙ (ap (first_but c.args.at) c.self.invariant.first ∙ (first_lost c.args.at log last ∙ ap (λ all. slice_get (positions all) 0) (sym c.mark_last.ensures.items)));
      listed = omega (arith, c.self.invariant.listed, c.mark_last.ensures.count, c.mark_last.ensures.room);
    }
