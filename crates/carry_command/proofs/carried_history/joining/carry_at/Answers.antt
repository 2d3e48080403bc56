use Rattle.std.proofs.Common.{◌≡◌, Some, slice_get, take, sym, subst, rules}
use Rattle.rail_types.specs.declared.tracks.Network.{Network}
use Rattle.path_recover.specs.history.Legal.{IsDeedOn}
use Rattle.path_recover.specs.history.Meanings.{Says}
use Rattle.carry_command.specs.CarriedInside.{carried_of}
use Rattle.carry_command.proofs.Spelled.{body_short}
use Rattle.carry_command.proofs.Steps.{carried_new}
use Rattle.carry_command.proofs.carried_history.joining.carry_at.Goals as goal

pub carry_live-requires : goal.carry_live-requires
carry_live-requires c =
    let old = c.args.old.now in
    let t = c.args.empty.now.timetable in
    let at = c.args.at in
    let carrying = c.args.carrying.now in
    let entry = c.in-Some.entry.now in
    let here : slice_get old.entries at ≡ Some entry = search rules in
    let joins = c.front.ensures.legal at entry here in
    let says = subst (Says old.timetable (take at old.entries) entry) joins.fresh (c.verdicts_say_what_they_mean.ensures.says old.timetable (take at old.entries) entry) in
    record {
      next = record {
        carried = c.requires.carried;
        live = search rules;
        in_range = record {
          within = joins.in_range.within;
          on_net = subst (λ (n : Network). IsDeedOn n entry.deed) (sym c.requires.net) joins.in_range.on_net;
        };
        new = carried_new t old.entries at (carried_of old.entries carrying) carrying.kept.items carrying.left.items c.requires.carried.carried entry says.0;
        short = body_short old.entries at entry here c.requires.short;
      };
    }
