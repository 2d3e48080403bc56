-- Entries that are sent to a book, and a copy of its live claims, once the book has gone on.
use Rattle.std.proofs.Common.{◌≡◌, ◌++◌, ◌∷◌, [], List, length, take, refl, sym, ap, ◌∙◌, subst}
use Rattle.std.proofs.lemmas.List.{take_at}
use Rattle.std.proofs.lemmas.List.Elements.{All-push}
use Rattle.rail_types.specs.declared.entries.Entry.{Entry}
use Rattle.rail_types.specs.declared.tracks.Network.{Network}
use Rattle.rail_types.specs.Limits.{IsEntryWithinLimits}
use Rattle.rail_types.specs.Occupation.{HeldClaim}
use Rattle.rail_types.specs.Timetables.{Timetable, timetable_of}
use Rattle.grant_log.specs.Following.{AreLive}
use Rattle.grant_log.specs.Legal.{IsDeedOn, IsInRange}
use Rattle.path_commit.specs.declared.stands.Footing.{Footing}
use Rattle.path_commit.specs.declared.turns.Sent.{Sent}
use Rattle.path_commit.specs.Ledgers.{Ledger}
use Rattle.path_commit.specs.Runs.{AreInRange, Grows}

-- one entry more that is in range
pub one_more : (timetable : Timetable) (net : Network) (sent : Sent) (old new : List Sent) → timetable.net ≡ net → IsEntryWithinLimits sent.entry × IsDeedOn net sent.entry.deed → new ≡ old ++ (sent ∷ []) → AreInRange timetable old → AreInRange timetable new
one_more timetable net sent old new same fits is known =
    subst (AreInRange timetable) (sym is) (All-push (λ (one : Sent). IsInRange timetable one.entry) old sent known (record { within = fits.0; on_net = subst (λ (n : Network). IsDeedOn n sent.entry.deed) (sym same) fits.1 }))

module _ {D : Type 0} (old new : Ledger D) (grows : Grows old new) where
  same_timetable : new.timetable ≡ old.timetable
  same_timetable = ap (λ (f : Footing). timetable_of f.net f.base) grows.footing

  first_entries : take (length old.entries) new.entries ≡ old.entries
  first_entries = ap (take (length old.entries)) grows.entries ∙ take_at old.entries grows.more (length old.entries) refl

  pub still_live : (held : List HeldClaim) → AreLive old.timetable held old.entries → AreLive new.timetable held (take (length old.entries) new.entries)
  still_live held live = subst (λ (t : Timetable). AreLive t held (take (length old.entries) new.entries)) (sym same_timetable) (subst (λ (l : List Entry). AreLive old.timetable held l) (sym first_entries) live)
