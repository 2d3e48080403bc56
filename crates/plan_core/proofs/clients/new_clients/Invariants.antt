use Rattle.std.proofs.Common.{◌≡◌, ℕ, [], map, replicate, None}
use Rattle.plan_core.specs.Inside.{party_of}
use Rattle.plan_core.proofs.clients.new_clients.Given as goal

abbrev pub invariant-loop-made : goal.invariant-loop-made
invariant-loop-made l = map party_of l.all.items ≡ replicate l._made (record { front = 0; searched = None; log = [] })
