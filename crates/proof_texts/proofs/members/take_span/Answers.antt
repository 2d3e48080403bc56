use mir.Val.{SFits}
use Rattle.std.proofs.Common.{None, w64, rules}
use Rattle.std.proofs.lemmas.Int.{to_z-of_z}
use Rattle.rail_types.specs.Limits.{IsTick}
use Rattle.client_lines.specs.Forms.{a_tick, one}
use Rattle.client_lines.proofs.FormLaws.{read_takes}
use Rattle.client_lines.proofs.Meanings.{NameLaws}
use Rattle.proof_texts.proofs.members.take_span.Goals as goal

pub just_before-requires : goal.just_before-requires
just_before-requires c =
    let laws : NameLaws = record { spelled = c.names_are_spelled_once.ensures.spelled; read = c.names_are_spelled_once.ensures.read } in
    let near : IsTick c.in_ok-from.from = (read_takes laws (one (a_tick None)) c.args.fields.now c.tick.new.self c.in_ok-from.from c.in_ok-from.ensures).spelled.2.1 in
    let fits : SFits w64 c.in_ok-from.from = search rules in
    rw (to_z-of_z w64 c.in_ok-from.from fits) near.0
