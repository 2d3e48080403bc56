-- Inside: workers with their passes of the queue.
use Rattle.std.specs.Prelude.{◌≡◌, ℕ, ◌+◌, ◌≤◌, List, [], ◌∷◌, length, vec_capacity}
use Rattle.batch_pool.specs.Batches.{places}
use Rattle.batch_pool.specs.Hands.{hand, knows, weigh}
use Rattle.batch_pool.specs.declared.jobs.Job.{Job}
use Rattle.batch_pool.specs.declared.shifts.Shift.{Shift}
use Rattle.batch_pool.specs.declared.workers.Served.{Served}

-- the lines that the worker answered or may still be asked
abbrev pub lines_of : {W R : Type 0} → (W → ℕ) → Shift W R → ℕ
lines_of left shift = left shift.worker + length shift.answers.items

-- what the shift answered, as it comes back
abbrev pub served_of : {W R : Type 0} → Shift W R → Served W R
served_of shift = record { worker = shift.worker; answers = shift.answers.items }

-- the weights of all places that were answered, added up
abbrev pub weigh_all : {W R : Type 0} → (ℕ → ℕ) → List (Served W R) → ℕ
weigh_all h [] = 0
weigh_all h (s ∷ rest) = weigh h (places s.answers) + weigh_all h rest

-- a worker that has not begun, with a pass that knows all that is to do, and room for all of it
pub record IsReady {W R : Type 0} (todo : List ℕ) (job : Job W R) : Type 0 where
  pub knows_all : knows job.pass ≡ hand 1 todo []
  pub empty : job.shift.answers.items ≡ []
  pub room : vec_capacity job.shift.answers ≡ length todo

-- a worker that answered what its pass took, and may be asked all the rest
pub record IsBack {W R : Type 0} (left : W → ℕ) (is_sound : W → Type 0) (todo : List ℕ)
    (job : Job W R) : Type 0 where
  pub parts : (knows job.pass).parts ≡ 1
  pub taken : (h : ℕ → ℕ) → weigh h (knows job.pass).taken
      ≡ weigh h (places job.shift.answers.items)
  pub counts : length job.shift.answers.items ≤ length (knows job.pass).taken
  pub room : vec_capacity job.shift.answers ≡ length todo
  pub left_lines : length todo ≤ lines_of left job.shift
  pub sound : is_sound job.shift.worker
