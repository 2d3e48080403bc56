use Rattle.std.proofs.Common.{◌≡◌, ◌∙◌, ap, length, subst}
use Rattle.batch_pool.specs.Rooms.{IsRoomFor as IsPoolFor}
use Rattle.batch_command.specs.Clerks.{free_places}
use Rattle.batch_command.proofs.batch_server.rooms.room_for.Goals as goal

pub returns : goal.returns
returns g c =
    let lines = c.in_ok-of_lines.ensures in
    let workers = c.in_ok-of_workers.ensures in
    let all : c.len.result ≡ length (free_places c.args.owners.now) = c.len.ensures ∙ (c.in_ok-of_lines.of_lines.todo.ok.0 ∙ ap length lines.todo) in record {
      todo_is = lines.todo;
      no_answer = lines.kept;
      each_answer = lines.space;
      no_worker = workers.worked;
      each_worker = workers.each;
      no_part = workers.parts;
      each_part = workers.space;
      texts_are = lines.texts;
      pool_is = subst (λ n. IsPoolFor c.args.workers n c.in_ok-pool.pool) all c.in_ok-pool.ensures;
    }
