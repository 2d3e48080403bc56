-- What a growing text holds, and the room that it has without taking memory.
use Rattle.std.specs.Prelude.{ℕ, List}

-- the bytes held, and how many more have room
pub record Buffered : Type 0 where
  pub held : List ℕ
  pub spare : ℕ
