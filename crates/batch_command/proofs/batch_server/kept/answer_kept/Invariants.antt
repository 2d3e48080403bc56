use Rattle.std.proofs.Common.{◌≡◌, ◌+◌, ◌≤◌, All, None, filter, get_or, is_some, length, vec_capacity}
use Rattle.std.specs.List.{range_with_len}
use Rattle.batch_command.specs.InOrder.{places}
use Rattle.batch_command.specs.Clerks.{EachWent, lines_left}
use Rattle.batch_command.proofs.batch_server.kept.answer_kept.Given as goal

abbrev pub invariant-loop-at : goal.invariant-loop-at
invariant-loop-at g l = record {
  places_are : places l.kept.items ≡ filter (λ at. is_some (get_or l.owners at None)) (range_with_len 0 l.at);
  went : EachWent g.L.Rule l.lines l.owners l.kept.items l.fn.clerks l.clerks;
  left : All (λ clerk. length l.lines ≤ lines_left clerk + length l.kept.items) l.clerks;
  few : length l.kept.items ≤ l.at;
  room : vec_capacity l.kept ≡ vec_capacity l.fn.kept;
}
