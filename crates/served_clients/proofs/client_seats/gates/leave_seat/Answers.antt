use Rattle.std.proofs.Common.{ap, ◌∙◌, arith}
use Rattle.line_answers.specs.gate.Passes.{view}
use Rattle.line_answers.specs.gate.Views.{merged, StartsWith}
use Rattle.served_clients.proofs.Joins.{joined_more, joined_parts}
use Rattle.served_clients.proofs.client_seats.gates.leave_seat.Goals as goal

pub returns-clause-seen : goal.returns-clause-seen
returns-clause-seen g c history ends =
    joined_parts (λ list. StartsWith history list) (view c.args.pass.now) (view c.args.seat.guest.pass) (view c.join.new.into) c.join.ensures.joined ends

pub returns-clause-joined : goal.returns-clause-joined
returns-clause-joined g c talks talk joined done =
    joined_more c.args.shared.now (view c.args.pass.now) (view c.args.seat.guest.pass) (view c.join.new.into) talks talk
    joined done.replies done.proved done.own_entries done.counts done.told_so done.settled
    c.join.ensures.joined c.join.ensures.turns c.join.ensures.own_entries c.join.ensures.rises

pub returns-clause-share : goal.returns-clause-share
returns-clause-share g c = let shares = ap (λ v. v.share) c.join.ensures.joined in let its = c.requires.back.share in omega arith

pub returns-clause-turns : goal.returns-clause-turns
returns-clause-turns g c none =
    ap (λ v. v.turns) c.join.ensures.joined ∙ ap (merged (view c.args.pass.now).turns) none
