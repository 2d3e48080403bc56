use Rattle.std.proofs.Common.{◌≡◌, Bool, Option, None, Some, is_some, option_map, inr, refl, sym, ap, subst, ◌∙◌}
use Rattle.command_reports.specs.Scenes.{scene}
use Rattle.carry_command.specs.Prepared.{IsPrepared}
use Rattle.carry_command.proofs.olds.carry_history.Goals as goal

is_some_map : {A B : Type 0} (f : A → B) (x : Option A) → is_some (option_map f x) ≡ is_some x
is_some_map f None = refl
is_some_map f (Some it) = refl

pub returns : goal.returns
returns g c =
    let may_leave : c.is_some-may_leave.result ≡ is_some c.args.names.now.left = c.is_some-may_leave.ensures ∙ (sym (is_some_map (λ name. name.now) c.left.result) ∙ ap is_some c.left.ensures) in
    record {
      works = inr (record {
        between = scene g.O.Outside c.args.outside.now;
        given = c.in_ok-prepared.prepared;
        first = (refl, subst (λ (may : Bool). IsPrepared c.args.network.now c.args.base c.args.found.history may c.in_ok-prepared.prepared) may_leave c.in_ok-prepared.ensures.prepares);
        next = c.write_prepared.ensures.works;
      });
    }
