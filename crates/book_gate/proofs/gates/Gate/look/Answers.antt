use Rattle.std.proofs.Common.{rules}
use Rattle.book_gate.specs.Views.{statement_of}
use Rattle.book_gate.proofs.Keeps.{look_step}
use Rattle.book_gate.proofs.gates.Gate.look.Goals as goal

pub load-requires : goal.load-requires
load-requires g c = (
  search rules,
  search rules,
  look_step (statement_of g.S.Stands.list g.S.Stands.settled g.S.Stands.count) g.S.Stands.footing _ _ _ _ c.args.pass.now.seat.me c.requires.waits.0 c.requires.waits.1,
)
