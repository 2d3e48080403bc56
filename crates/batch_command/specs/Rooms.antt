-- *inside*: room that is made before the first line of a list is answered.
use Rattle.std.specs.Prelude.{◌≡◌, ℕ, ◌≤◌, List, [], Option, length, replicate, vec_capacity}
use Rattle.batch_pool.specs.Rooms.{IsRoomFor as IsPoolFor}
use Rattle.batch_command.specs.Clerks.{free_places}
use Rattle.batch_command.specs.declared.batch_server.rooms.Room.{Room}

-- room for so many workers, and for the lines of these owners
pub record IsRoomFor {D Btw L : Type 0} (workers : ℕ) (owners : List (Option ℕ))
    (room : Room D Btw L) : Type 0 where
  pub todo_is : room.todo.items ≡ free_places owners
  pub no_answer : room.kept.items ≡ []
  pub each_answer : length owners ≤ vec_capacity room.kept
  pub no_worker : room.worked.items ≡ []
  pub each_worker : workers ≤ vec_capacity room.worked
  pub no_part : room.parts.items ≡ []
  pub each_part : workers ≤ vec_capacity room.parts
  pub texts_are : room.texts.items ≡ replicate (length owners) []
  pub pool_is : IsPoolFor workers (length (free_places owners)) room.pool
