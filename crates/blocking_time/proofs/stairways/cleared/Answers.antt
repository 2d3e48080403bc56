use Rattle.std.proofs.Common.{rules, sym, ◌∙◌, arith, w64}
use Rattle.std.proofs.lemmas.Int.{to_z-of_z}
use mir.Val.{SFits}
use Rattle.blocking_time.proofs.Passing.{gone_by_numbers}
use Rattle.blocking_time.proofs.stairways.cleared.Goals as goal

pub returns-clause-value : goal.returns-clause-value
returns-clause-value c =
    let fits : SFits w64 c.gone_from.result = search rules in
    to_z-of_z w64 c.gone_from.result fits ∙ (c.gone_from.ensures.value ∙ (sym (c.moved_to.ensures.cursor.skips c.args.metres (search rules)) ∙ gone_by_numbers c.args.net.now c.args.settings.now c.args.path.now c.args.index c.args.metres (omega arith)))
