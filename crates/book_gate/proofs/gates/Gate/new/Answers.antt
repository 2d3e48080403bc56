use Rattle.std.proofs.Common.{[], ◌∷◌, Some, ap, ◌∙◌, sym}
use Rattle.book_gate.specs.Views.{statement_of}
use Rattle.book_gate.proofs.Keeps.{starts}
use Rattle.book_gate.proofs.gates.Gate.new.Goals as goal

pub new-requires : goal.new-requires
new-requires g c = starts (statement_of g.S.Stands.list g.S.Stands.settled g.S.Stands.count) g.S.Stands.footing _ _ c.requires.some c.requires.few _
    (c.in-Ok.ensures.slots ∙ ap (λ b. Some b ∷ []) (sym c.of.ensures))
