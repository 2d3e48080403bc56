use Rattle.std.proofs.Common.{rules}
use Rattle.book_gate.specs.Views.{statement_of}
use Rattle.book_gate.proofs.Keeps.{take_step}
use Rattle.book_gate.proofs.gates.Gate.take_ticket.Goals as goal

pub fetch_add-requires : goal.fetch_add-requires
fetch_add-requires g c = (
  search rules,
  search rules,
  take_step (statement_of g.S.Stands.list g.S.Stands.settled g.S.Stands.count) g.S.Stands.footing _ _ _ _ c.args.pass.now.seat.me c.requires.idle.0 c.requires.idle.1 c.requires.budget,
)
