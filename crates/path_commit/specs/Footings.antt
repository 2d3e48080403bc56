-- What no turn changes of a book.
use Rattle.path_commit.specs.declared.stands.Footing.{Footing}
use Rattle.path_commit.specs.Ledgers.{Ledger}

-- the network, the base timetable, both digests, the moment of the book's making
-- and the number of entries then
abbrev pub footing_of : {D : Type 0} → Ledger D → Footing
footing_of ledger = record {
  net = ledger.timetable.net;
  base = record { settings = ledger.timetable.settings; claims = ledger.timetable.base };
  network_digest = ledger.network_digest;
  base_digest = ledger.base_digest;
  made = ledger.made;
  found = ledger.found;
}
