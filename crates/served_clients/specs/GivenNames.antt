-- The names of the files of a run.
use Rattle.std.specs.Prelude.{ℕ, List}
use Rattle.served_clients.specs.declared.run_names.RunNames.{RunNames}

-- the names that a run is given: those of a network's file, a train file, a base timetable's and a
-- journal
pub record GivenNames : Type 0 where
  pub network : List ℕ
  pub trains : List ℕ
  pub base : List ℕ
  pub journal : List ℕ

-- these, named
abbrev pub given_names : (network trains base journal : List ℕ) → GivenNames
given_names network trains base journal = record {
  network = network;
  trains = trains;
  base = base;
  journal = journal;
}

-- those that code hands over
abbrev pub names_in : RunNames → GivenNames
names_in names = given_names names.network.now names.trains.now names.base.now names.journal.now
