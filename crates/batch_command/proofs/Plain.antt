-- The workers of a batch, told without what happens between their searches.
use Rattle.std.proofs.Common.{◌≡◌, ◌∙◌, ℕ, List, [], ◌∷◌, Option, map, refl, ap}
use Rattle.served_clients.specs.admission.declared.rules.Rule.{Ghosts as Rules}
use Rattle.batch_command.specs.Batches.{HasWorked, WereAnswered}
use Rattle.batch_command.specs.declared.batch_server.members.Member.{Member}
use Rattle.batch_command.specs.declared.batch_server.members.Worked.{Worked}
use Rattle.served_clients.specs.lines.Names.{Names}
use Rattle.served_clients.specs.admission.declared.client_rules.clients.ClientRules.{ClientRules}
use Rattle.served_clients.specs.ClientRuns.{AreMatched}
use Rattle.served_clients.specs.Talks.{Talk}
use Rattle.outside_io.specs.declared.betweens.NoBetween.{NoBetween}
use Rattle.served_clients.specs.book.Ledgers.{Ledger}
use Rattle.rail_types.specs.declared.entries.Entry.{Entry}
use Rattle.batch_command.specs.Lists.{AreMembers}

-- a worker without what happens between searches
abbrev pub plain : {Btw L : Type 0} → Member Btw L → Member NoBetween L
plain member = record { name = member.name; between = record {}; rules = member.rules }

parts_plain : {Btw L P : Type 0} (f : Member Btw L → P) (g : Member NoBetween L → P) → ((member : Member Btw L) → g (plain member) ≡ f member) → (members : List (Member Btw L)) → map g (map plain members) ≡ map f members
parts_plain f g same [] = refl
parts_plain {P = P} f g same (member ∷ members) = ap (λ (part : P). part ∷ map g (map plain members)) (same member) ∙ ap (λ (parts : List P). f member ∷ parts) (parts_plain f g same members)

pub members_plain : {Btw L : Type 0} (batch : List ℕ) (workers : ℕ) (rules : List (ClientRules L)) (members : List (Member Btw L)) → AreMembers batch workers rules members → AreMembers batch workers rules (map plain members)
members_plain {Btw} {L} batch workers rules members are = record {
  names = parts_plain (λ (one : Member Btw L). one.name) (λ (one : Member NoBetween L). one.name) (λ one. refl) members ∙ are.names;
  given = parts_plain (λ (one : Member Btw L). one.rules.items) (λ (one : Member NoBetween L). one.rules.items) (λ one. refl) members ∙ are.given;
}

module _ {Btw L : Type 0} (kind : Rules L) (found left : List Entry) where
  worked_plain_one : (member : Member Btw L) (worked : Worked L) (talk : Talk) → HasWorked kind found left member worked talk → HasWorked kind found left (plain member) worked talk
  worked_plain_one member worked talk has = record {
    name = has.name;
    talk_name = has.talk_name;
    unproved = has.unproved;
    lines = has.lines;
    begun = has.begun;
    told = has.told;
  }

  all_plain : (members : List (Member Btw L)) (worked : List (Worked L)) (talks : List Talk) → AreMatched (HasWorked kind found left) members worked talks → AreMatched (HasWorked kind found left) (map plain members) worked talks
  all_plain [] [] [] all = all
  all_plain [] [] (t ∷ talks) all = absurd all
  all_plain [] (w ∷ worked) [] all = absurd all
  all_plain [] (w ∷ worked) (t ∷ talks) all = absurd all
  all_plain (m ∷ members) [] [] all = absurd all
  all_plain (m ∷ members) [] (t ∷ talks) all = absurd all
  all_plain (m ∷ members) (w ∷ worked) [] all = absurd all
  all_plain (m ∷ members) (w ∷ worked) (t ∷ talks) all = (worked_plain_one m w t all.0, all_plain members worked talks all.1)

pub answered_plain : {D Btw L : Type 0} (kind : Rules L) (disk_faults : D → ℕ) (known : Names) (lines : List (List ℕ)) (owners : List (Option ℕ)) (found left : Ledger D) (members : List (Member Btw L)) (worked : List (Worked L)) (texts : Option (List (List ℕ)))
    → WereAnswered kind disk_faults known lines owners found left members worked texts → WereAnswered kind disk_faults known lines owners found left (map plain members) worked texts
answered_plain kind disk_faults known lines owners found left members worked texts were = record {
  talks = were.talks;
  shares = were.shares;
  workers = all_plain kind found.entries left.entries members worked were.talks were.workers;
  run = were.run;
  shared = were.shared;
  texts_are = were.texts_are;
  untouched = were.untouched;
}
