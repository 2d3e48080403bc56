-- What was carried, and one entry more.
use Rattle.std.proofs.Common.{◌≡◌, ◌∙◌, ℕ, ◌+◌, List, [], ◌∷◌, ◌++◌, length, sym, ap, subst}
use Rattle.std.proofs.lemmas.List.{append-nil}
use Rattle.std.proofs.lemmas.List.Elements.{All-nil}
use Rattle.path_recover.specs.spelling.Body.{body_of}
use Rattle.path_recover.specs.spelling.Within.{HasBody}
use Rattle.path_recover.specs.journal.Histories.{bodies_of, counted, front_of}
use Rattle.path_recover.specs.history.Following.{AreLive}
use Rattle.path_recover.specs.history.Legal.{Joins}
use Rattle.path_recover.specs.history.Verdict.{verdict_on}
use Rattle.path_recover.proofs.history_lemmas.Legals.{legal_push}
use Rattle.path_recover.specs.claims.Held.{held}
use Rattle.rail_types.specs.declared.entries.Entry.{Entry}
use Rattle.rail_types.specs.Timetables.{Timetable}
use Rattle.carry_command.specs.Carried.{entries_at, IsCarriedTo, IsReason}
use Rattle.carry_command.specs.CarriedInside.{carried_of, CarriesOn, HasCarried, IsNext, IsSpelled}
use Rattle.carry_command.specs.declared.carried_history.joining.Carrying.{Carrying}
use Rattle.carry_command.specs.declared.carried_history.reasons.LeftOut.{LeftOut}
use Rattle.carry_command.proofs.Spelled.{all_more_one, entries_more, spelled_more}
use Rattle.carry_command.proofs.Steps.{carried_left, carried_none, carried_one}

-- nothing was carried yet
pub begins : (timetable : Timetable) (old : List Entry) (carrying : Carrying) → carrying.kept.items ≡ [] → carrying.left.items ≡ [] → AreLive timetable (held carrying.book) [] → length carrying.book ≡ timetable.net.zones → HasCarried timetable old 0 carrying
begins timetable old carrying kept left live zones =
    let none : carried_of old carrying ≡ [] = ap (entries_at old) kept in
    record {
      carried = subst (λ (p : List Entry × (List ℕ × List LeftOut)). IsCarriedTo timetable old 0 p.0 p.1.0 p.1.1) (λ i. (sym none i, (sym kept i, sym left i))) (carried_none timetable old);
      live = rw none live;
      zones = zones;
      has = rw none (All-nil HasBody);
    }

pub begins_spelled : (header : List ℕ) (old : List Entry) (carrying : Carrying) → carrying.kept.items ≡ [] → carrying.file.held ≡ header → IsSpelled header old carrying
begins_spelled header old carrying kept file =
    file ∙ (sym (append-nil header) ∙ ap (λ (l : List ℕ). front_of header (bodies_of (entries_at old l))) (sym kept))

module _ (timetable : Timetable) (old : List Entry) (at : ℕ) (before : Carrying) where
  module _ (after : Carrying) (entry : Entry) (next : IsNext timetable old at before entry) where
    -- the next entry is left out
    pub goes_without : (one : LeftOut) → one.at ≡ at → IsReason before.kept.items (verdict_on timetable (carried_of old before) entry) one.reason → after.book ≡ before.book → after.file ≡ before.file → after.kept ≡ before.kept
        → after.left.items ≡ before.left.items ++ one ∷ [] → CarriesOn timetable old at before after
    goes_without one here reason book file kept left =
        let same : carried_of old after ≡ carried_of old before = ap (λ v. entries_at old v.items) kept in
        record {
          carried = record {
            carried = subst (λ (p : List Entry × (List ℕ × List LeftOut)). IsCarriedTo timetable old (at + 1) p.0 p.1.0 p.1.1) (λ i. (sym same i, (sym (ap (λ v. v.items) kept) i, sym left i)))
                (carried_left timetable old at (carried_of old before) before.kept.items before.left.items next.carried.carried entry one here next.live reason);
            live = rw (book, same) next.carried.live;
            zones = rw book next.carried.zones;
            has = rw same next.carried.has;
          };
          spelled = λ header is. rw (file, same) is;
        }

    -- the next entry is carried
    pub goes_with : Joins timetable (carried_of old before) entry → AreLive timetable (held after.book) (carried_of old before ++ entry ∷ []) → length after.book ≡ length before.book → after.file.held ≡ before.file.held ++ 1 ∷ counted (body_of entry) → HasBody entry
        → after.kept.items ≡ before.kept.items ++ at ∷ [] → after.left ≡ before.left → CarriesOn timetable old at before after
    goes_with joins live zones file has kept left =
        let same : carried_of old after ≡ carried_of old before ++ entry ∷ [] = ap (entries_at old) kept ∙ entries_more old before.kept.items at entry next.live.here in
        let legal = legal_push timetable (carried_of old before) entry next.carried.carried.legal joins in
        record {
          carried = record {
            carried = subst (λ (p : List Entry × (List ℕ × List LeftOut)). IsCarriedTo timetable old (at + 1) p.0 p.1.0 p.1.1) (λ i. (sym same i, (sym kept i, sym (ap (λ v. v.items) left) i)))
                (carried_one timetable old at (carried_of old before) before.kept.items before.left.items next.carried.carried entry legal next.live);
            live = rw same live;
            zones = zones ∙ next.carried.zones;
            has = rw same (all_more_one HasBody (carried_of old before) entry next.carried.has has);
          };
          spelled = λ header is. rw same (spelled_more header (carried_of old before) entry before.file.held after.file.held is file);
        }
