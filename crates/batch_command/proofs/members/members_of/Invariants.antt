use Rattle.std.proofs.Common.{◌≡◌, ℕ, ◌<◌, ◌≤◌, map}
use Rattle.command_line.specs.Workers.{worker_name, worker_names}
use Rattle.command_line.specs.declared.batch_words.clients.TheConstants.{MAX_WORKERS}
use Rattle.served_clients.specs.admission.Clients.{rules_named}
use Rattle.served_clients.specs.Lending.{IsUnchanged}
use Rattle.command_reports.specs.Scenes.{scene}
use Rattle.batch_command.proofs.members.members_of.Given as goal

abbrev pub invariant-loop-before : goal.invariant-loop-before
invariant-loop-before g l = record {
  still : IsUnchanged (scene g.O.Outside l.fn.outside) (scene g.O.Outside l.outside);
  names : map (λ member. member.name) l.members.items ≡ worker_names l.batch l.before;
  given : map (λ member. member.rules.items) l.members.items ≡ map (λ name. rules_named name l.fn.rules.items) (worker_names l.batch l.before);
  others : (other : ℕ) → l.before < other → other ≤ MAX_WORKERS → rules_named (worker_name l.batch other) l.rules.items ≡ rules_named (worker_name l.batch other) l.fn.rules.items;
}
