use Rattle.std.proofs.Common.{rules}
use Rattle.book_gate.specs.Views.{statement_of}
use Rattle.book_gate.proofs.Keeps.{advance_step}
use Rattle.book_gate.proofs.gates.Gate.advance.Goals as goal

pub fetch_add-requires : goal.fetch_add-requires
fetch_add-requires g c = let back = c.requires.back in (
  search rules,
  search rules,
  advance_step (statement_of g.S.Stands.list g.S.Stands.settled g.S.Stands.count) g.S.Stands.footing _ _ _ _ c.args.pass.now.seat.me back.0 c.requires.turn.0 c.requires.turn.1 back.1 back.2 back.3 back.4,
)
