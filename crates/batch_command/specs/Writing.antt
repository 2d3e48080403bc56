-- Texts written one after another.
use Rattle.std.specs.Prelude.{◌≡◌, ◌⊎◌, ℕ, ◌<◌, List, [], ◌++◌, flat_map, get_or, length, take}
use Rattle.command_reports.specs.Writing.{TookAll}
use Rattle.served_clients.specs.sessions.declared.sessions.Ended.{Ended}
use Rattle.served_clients.specs.sessions.declared.sessions.Why.TheVariants.{Input, WriteFault}
use Rattle.outside_io.specs.Stops.{StopsAt}
use Rattle.outside_io.specs.declared.sinks.Sink.{Ghosts as Sinks}

-- texts, one after another
abbrev pub text_of_all : List (List ℕ) → List ℕ
text_of_all texts = flat_map (λ text. text) texts

-- the sink took all texts
pub record WroteAll {Snk : Type 0} (sink : Sinks Snk) (texts : List (List ℕ)) (before after : Snk)
    (ended : Ended) : Type 0 where
  pub took : TookAll sink (text_of_all texts) before after
  pub ended_is : ended ≡ record { lines = length texts; why = Input }

-- the sink took some of the texts, and a proper part from the front of
-- the next one, and then failed
pub record WroteSome {Snk : Type 0} (sink : Sinks Snk) (texts : List (List ℕ)) (before after : Snk)
    (ended : Ended) : Type 0 where
  pub count : ℕ
  pub part : ℕ
  pub fewer : count < length texts
  pub proper : part < length (get_or texts count [])
  pub stops : StopsAt sink.held sink.faults before after
      (text_of_all (take count texts) ++ take part (get_or texts count []))
  pub ended_is : ended ≡ record { lines = count; why = WriteFault }

-- texts were written, and so it ended
abbrev pub Writes : {Snk : Type 0} → Sinks Snk → List (List ℕ) → Snk → Snk → Ended → Type 0
Writes sink texts before after ended =
    WroteAll sink texts before after ended ⊎ WroteSome sink texts before after ended
