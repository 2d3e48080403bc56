-- Room for a batch.
use Rattle.std.specs.Prelude.{◌≡◌, ℕ, ◌≤◌, All, [], length, None, Option, Some, vec_capacity}
use Rattle.crossbeam_queue.specs.Passes.{IsPassOf}
use Rattle.batch_pool.specs.Hands.{hand, knows}
use Rattle.batch_pool.specs.declared.rooms.Queue.{Queue}
use Rattle.batch_pool.specs.declared.rooms.Room.{Room}

-- a queue that nothing was put into; there is none exactly where there is no place
abbrev pub IsQueueFor : ℕ → Option Queue → Type 0
IsQueueFor places None = places ≡ 0
IsQueueFor places (Some queue) =
    IsPassOf queue.line queue.pass × (knows queue.pass ≡ hand 1024 [] [])

-- room for so many workers and so many places
pub record IsRoomFor {W R : Type 0} (workers places : ℕ) (room : Room W R) : Type 0 where
  pub queue_is : IsQueueFor places room.queue
  pub lists : length room.answers.items ≡ workers
  pub no_answer : All (λ list. list.items ≡ []) room.answers.items
  pub each_answer : All (λ list. vec_capacity list ≡ places) room.answers.items
  pub no_job : room.jobs.items ≡ []
  pub each_job : workers ≤ vec_capacity room.jobs
  pub none_served : room.served.items ≡ []
  pub each_served : workers ≤ vec_capacity room.served
