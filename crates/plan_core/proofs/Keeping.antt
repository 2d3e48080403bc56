-- A world stays sound, whatever happens.
use Rattle.std.proofs.Common.{◌≡◌, ◌≢◌, ◌⊎◌, ℕ, zero, ◌+◌, ◌-◌, ◌<◌, ◌≤◌, min, Bool, true, false, nat_lt, if◌then◌else◌, List, [], ◌∷◌, ◌++◌, length, map, take, drop, get_or, slice_get, Option, Some, None, IfSome, All, AllPairs, Contains, replicate, inl, inr, refl, ap, sym, subst, ◌∙◌, arith, rules, length-append}
use Rattle.std.proofs.lemmas.Grind.{common_steps}
use Rattle.std.proofs.lemmas.List.{append-nil, length-map, take_all, take_more, length-take-le}
use Rattle.std.proofs.lemmas.List.Elements.{All-contains_itself, All-replicate}
use Rattle.std.proofs.lemmas.List.Quantifiers.{all_pairs_push}
use Rattle.std.proofs.lemmas.Option.{same_Some, slice_get-get_or}
use Rattle.rail_types.specs.declared.entries.Deed.TheVariants.{Free as deed_free}
use Rattle.rail_types.specs.declared.entries.Entry.{Entry}
use Rattle.rail_types.specs.Timetables.{IsTimetable, Timetable}
use Rattle.grant_journal.specs.declared.journals.Stage.TheVariants.{Record, Gate}
use Rattle.grant_log.proofs.Legals.{legal_push, legal_take}
use Rattle.plan_core.specs.declared.events.Event.{Event}
use Rattle.plan_core.specs.declared.events.Event.TheVariants.{Turn, Seek, Commit, Free, Fault, Settle, Crash, Open}
use Rattle.plan_core.specs.declared.notes.Note.{Note}
use Rattle.plan_core.specs.Events.{after, begun, IsEnabled, read, stopped, without_last, written}
use Rattle.plan_core.specs.Inside.{IsAtLast, IsInStep, IsKept, IsOnlyLast}
use Rattle.plan_core.specs.Parties.{changed_at, losing, marked, noting, Party, positions, restarting, seeking, writing}
use Rattle.plan_core.specs.Sound.{IsSound}
use Rattle.plan_core.specs.Worlds.{first_world, IsOf, IsSettled, MayWrite, Names, Plan}
use Rattle.plan_core.proofs.Lists.{all_changed, all_mapped, length_changed, of_all, to_all}
use Rattle.plan_core.proofs.Named.{all_from, all_to, changed_from, changed_to, lost_from, lost_to, noted_from, noted_new, noted_to}
use Rattle.plan_core.proofs.Noted.{marked_ascend, positions_noted}
use Rattle.plan_core.proofs.Owned.{AreOwned, named_below, owned_alike, owned_less, owned_more}
use Rattle.plan_core.proofs.Stepping.{marked_step, noted_low, noted_pending, only_last, raised}

abbrev Ascend : List ℕ → Type 0
Ascend all = AllPairs (λ one later. one < later) all

some_up : (o : Option ℕ) (a b : ℕ) → IfSome o (λ front. front ≤ a) → a ≤ b → IfSome o (λ front. front ≤ b)
some_up None a b known less = known
some_up (Some front) a b known less = omega (arith, known, less)

ascend_push : (all : List ℕ) (front : ℕ) → Ascend all → ((at : ℕ) → Contains all at → at < front) → Ascend (all ++ front ∷ [])
ascend_push all front known below = all_pairs_push (λ one later. one < later) all front known (λ k d within. below (get_or all k d) (All-contains_itself all k d within))

abbrev pub plain_entry : Entry
plain_entry = record { owner = []; number = 0; line = 0; deed = deed_free 0 }

module _ (world : Plan) (known : IsKept world) where
  abbrev front : ℕ
  front = length world.entries

  owned : AreOwned world
  owned = record { notes = known.sound.notes; owned = known.sound.owned }

  named : (k : ℕ) (party : Party) (at : ℕ) → slice_get world.clients k ≡ Some party → Contains (positions party.log) at → at < length world.entries
  named k party at here inside = named_below world owned k at (party, here, inside)

  next_unnamed : IsSettled world → (k : ℕ) (party : Party) → slice_get world.clients k ≡ Some party → Contains (positions party.log) world.settled → ⊥
  next_unnamed settled k party here inside = let less = named k party world.settled here inside in omega (arith, less, settled)

  front_of : (k : ℕ) (party : Party) → slice_get world.clients k ≡ Some party → party.front ≤ length world.entries
  front_of k party here = of_all (λ it. it.front ≤ length world.entries) world.clients k party known.sound.fronts here

  searched_of : (k : ℕ) (party : Party) → slice_get world.clients k ≡ Some party → IfSome party.searched (λ f. f ≤ party.front)
  searched_of k party here = of_all (λ it. IfSome it.searched (λ f. f ≤ it.front)) world.clients k party known.sound.searched here

  ascend_of : (k : ℕ) (party : Party) → slice_get world.clients k ≡ Some party → Ascend (positions party.log)
  ascend_of k party here = of_all (λ it. Ascend (positions it.log)) world.clients k party known.sound.ascending here

  step_of : (k : ℕ) (party : Party) → slice_get world.clients k ≡ Some party → IsInStep world.settled party.log
  step_of k party here = of_all (λ it. IsInStep world.settled it.log) world.clients k party known.logs here

  -- a client reads the history
  plain : (party : Party) → positions (noting (length world.entries) None party).log ≡ positions party.log
  plain party = positions_noted party.log (length world.entries) None ∙ append-nil (positions party.log)

  pub kept_read : (client : ℕ) → IsSettled world → IsKept (read world client)
  kept_read client settled =
      let f = noting (length world.entries) None in
      let alike = owned_alike world (read world client) refl (length_changed client f world.clients) (changed_to client f world.clients plain) (changed_from client f world.clients plain) owned in
      record {
        sound = record {
          timetable = known.sound.timetable;
          legal = known.sound.legal;
          settled = known.sound.settled;
          fronts = all_changed (λ it. it.front ≤ length world.entries) client f world.clients known.sound.fronts (λ x here. omega arith);
          searched = all_changed (λ it. IfSome it.searched (λ q. q ≤ it.front)) client f world.clients known.sound.searched (λ x here. some_up x.searched x.front (length world.entries) (searched_of client x here) (front_of client x here));
          notes = alike.notes;
          ascending = all_changed (λ it. Ascend (positions it.log)) client f world.clients known.sound.ascending (λ x here. subst Ascend (sym (plain x)) (ascend_of client x here));
          owned = alike.owned;
        };
        logs = all_changed (λ it. IsInStep world.settled it.log) client f world.clients known.logs (λ x here. noted_low world.settled world.settled (length world.entries) None x.log (step_of client x here) (next_unnamed settled client x here) (omega arith) (omega (arith, settled)) (omega (arith, settled)) (λ at same. let wrong : ◌≡◌ {A = Option ℕ} None (Some at) = same in cc));
      }

  -- a client searches
  pub kept_seek : (client : ℕ) → IsKept (record world { clients = changed_at client seeking world.clients })
  kept_seek client =
      let v = record world { clients = changed_at client seeking world.clients } in
      let alike = owned_alike world v refl (length_changed client seeking world.clients) (changed_to client seeking world.clients (λ party. refl)) (changed_from client seeking world.clients (λ party. refl)) owned in
      record {
        sound = record {
          timetable = known.sound.timetable;
          legal = known.sound.legal;
          settled = known.sound.settled;
          fronts = all_changed (λ it. it.front ≤ length world.entries) client seeking world.clients known.sound.fronts (front_of client);
          searched = all_changed (λ it. IfSome it.searched (λ q. q ≤ it.front)) client seeking world.clients known.sound.searched (λ x here. omega arith);
          notes = alike.notes;
          ascending = all_changed (λ it. Ascend (positions it.log)) client seeking world.clients known.sound.ascending (ascend_of client);
          owned = alike.owned;
        };
        logs = all_changed (λ it. IsInStep world.settled it.log) client seeking world.clients known.logs (step_of client);
      }

  -- a client writes an entry
  module _ (client : ℕ) (entry : Entry) (may : MayWrite world client entry) where
    long : length (world.entries ++ entry ∷ []) ≡ length world.entries + 1
    long = length-append world.entries (entry ∷ [])

    mine : (party : Party) × (slice_get world.clients client ≡ Some party)
    mine = (get_or world.clients client (record { front = 0; searched = None; log = [] }), slice_get-get_or world.clients client (record { front = 0; searched = None; log = [] }) may.served.has)

    low : (k : ℕ) (party : Party) → slice_get world.clients k ≡ Some party → IsInStep (length world.entries + 1) party.log
    low k party here = raised world.settled (length world.entries + 1) party.log (step_of k party here) (omega (arith, may.settled)) (λ inside. absurd (next_unnamed may.settled k party here inside))

    pub kept_written : IsKept (written world client entry)
    kept_written =
        let f = writing (length world.entries) in
        let more : (party : Party) → positions (f party).log ≡ positions party.log ++ length world.entries ∷ [] = λ party. positions_noted party.log (length world.entries + 1) (Some (length world.entries)) in
        let alike = owned_more world (written world client entry) client entry may.is_of refl (length_changed client f world.clients) owned (noted_to client f world.clients (length world.entries) more) (noted_new client f world.clients (length world.entries) more mine.0 mine.1) (noted_from client f world.clients (length world.entries) more) in
        record {
          sound = record {
            timetable = known.sound.timetable;
            legal = legal_push world.timetable world.entries entry known.sound.legal may.joins;
            settled = inl (sym long);
            fronts = all_changed (λ it. it.front ≤ length (world.entries ++ entry ∷ [])) client f world.clients (to_all (λ it. it.front ≤ length (world.entries ++ entry ∷ [])) world.clients (λ k party here. omega (arith, front_of k party here, long))) (λ x here. omega (arith, long));
            searched = all_changed (λ it. IfSome it.searched (λ q. q ≤ it.front)) client f world.clients known.sound.searched (λ x here. search rules);
            notes = alike.notes;
            ascending = all_changed (λ it. Ascend (positions it.log)) client f world.clients known.sound.ascending (λ x here. subst Ascend (sym (more x)) (ascend_push (positions x.log) (length world.entries) (ascend_of client x here) (λ at inside. named client x at here inside)));
            owned = alike.owned;
          };
          logs = all_changed (λ it. IsInStep (length world.entries + 1) it.log) client f world.clients (to_all (λ it. IsInStep (length world.entries + 1) it.log) world.clients low) (λ x here. noted_low world.settled (length world.entries + 1) (length world.entries + 1) (Some (length world.entries)) x.log (step_of client x here) (next_unnamed may.settled client x here) (omega (arith, may.settled)) (omega (arith, may.settled)) (omega arith) (λ at same. ap (λ n. n + 1) (same_Some (length world.entries) at same)));
        }

    pub kept_begun : IsKept (begun world client entry)
    kept_begun =
        let f = noting (length world.entries + 1) (Some (length world.entries)) in
        let more : (party : Party) → positions (f party).log ≡ positions party.log ++ length world.entries ∷ [] = λ party. positions_noted party.log (length world.entries + 1) (Some (length world.entries)) in
        let alike = owned_more world (begun world client entry) client entry may.is_of refl (length_changed client f world.clients) owned (noted_to client f world.clients (length world.entries) more) (noted_new client f world.clients (length world.entries) more mine.0 mine.1) (noted_from client f world.clients (length world.entries) more) in
        record {
          sound = record {
            timetable = known.sound.timetable;
            legal = legal_push world.timetable world.entries entry known.sound.legal may.joins;
            settled = inr (omega (arith, may.settled, long));
            fronts = all_changed (λ it. it.front ≤ length (world.entries ++ entry ∷ [])) client f world.clients (to_all (λ it. it.front ≤ length (world.entries ++ entry ∷ [])) world.clients (λ k party here. omega (arith, front_of k party here, long))) (λ x here. omega (arith, long));
            searched = all_changed (λ it. IfSome it.searched (λ q. q ≤ it.front)) client f world.clients known.sound.searched (λ x here. some_up x.searched x.front (length world.entries + 1) (searched_of client x here) (omega (arith, front_of client x here)));
            notes = alike.notes;
            ascending = all_changed (λ it. Ascend (positions it.log)) client f world.clients known.sound.ascending (λ x here. subst Ascend (sym (more x)) (ascend_push (positions x.log) (length world.entries) (ascend_of client x here) (λ at inside. named client x at here inside)));
            owned = alike.owned;
          };
          logs = all_changed (λ it. IsInStep world.settled it.log) client f world.clients known.logs (λ x here. subst (λ n. IsInStep world.settled (x.log ++ (record { point = n + 1; entry = Some n; lost = false }) ∷ [])) may.settled (noted_pending world.settled x.log (step_of client x here) (next_unnamed may.settled client x here)));
        }

  -- all is settled
  pub kept_settled : (up : Bool) → IsKept (record world { settled = length world.entries; up = up })
  kept_settled up =
      let v = record world { settled = length world.entries; up = up } in
      let alike = owned_alike world v refl refl (λ client at named. named) (λ client at named. named) owned in
      record {
        sound = record {
          timetable = known.sound.timetable;
          legal = known.sound.legal;
          settled = inl refl;
          fronts = known.sound.fronts;
          searched = known.sound.searched;
          notes = alike.notes;
          ascending = known.sound.ascending;
          owned = alike.owned;
        };
        logs = to_all (λ it. IsInStep (length world.entries) it.log) world.clients (λ k party here. raised world.settled (length world.entries) party.log (step_of k party here) least (λ inside. named k party world.settled here inside));
      }
    where
      least : world.settled ≤ length world.entries
      least = elim known.sound.settled [
        | inl same ↦ omega (arith, same)
        | inr one_less ↦ omega (arith, one_less)
      ]

  -- the world stops
  pub kept_stopped : IsKept (stopped world)
  kept_stopped =
      let f = restarting (length world.entries) in
      let alike = owned_alike world (stopped world) refl (length-map world.clients f) (all_to f world.clients (λ party. refl)) (all_from f world.clients (λ party. refl)) owned in
      record {
        sound = record {
          timetable = known.sound.timetable;
          legal = known.sound.legal;
          settled = known.sound.settled;
          fronts = all_mapped (λ it. it.front ≤ length world.entries) f world.clients (λ k x here. omega arith);
          searched = all_mapped (λ it. IfSome it.searched (λ q. q ≤ it.front)) f world.clients (λ k x here. search rules);
          notes = alike.notes;
          ascending = all_mapped (λ it. Ascend (positions it.log)) f world.clients ascend_of;
          owned = alike.owned;
        };
        logs = all_mapped (λ it. IsInStep world.settled it.log) f world.clients step_of;
      }

  -- the last entry is lost, which is not settled; what else a client knows of it goes when the world stops
  module _ (unsettled : world.settled < length world.entries) where
    behind : world.settled + 1 ≡ length world.entries
    behind = elim known.sound.settled [
      | inl same ↦ absurd (omega (arith, same, unsettled))
      | inr one_less ↦ one_less
    ]

    place : length world.entries - 1 ≡ world.settled
    place = omega (arith, behind)

    -- only the last note of a client may name the last entry
    pub at_last : (k : ℕ) (party : Party) → slice_get world.clients k ≡ Some party → IsAtLast (length world.entries - 1) party.log
    at_last k party here = record {
      last = subst (λ n. IsOnlyLast n party.log) (sym place) (only_last world.settled party.log (step_of k party here));
      ascending = ascend_of k party here;
      up_to = λ j d within. let less = named k party (get_or (positions party.log) j d) here (All-contains_itself (positions party.log) j d within) in omega (arith, less, behind);
    }

    abbrev v : Plan
    v = without_last world

    pub short : length v.entries ≡ length world.entries - 1
    short = length-take-le (length world.entries - 1) world.entries (omega arith)

    parts : (entry : Entry) → world.entries ≡ take (length world.entries - 1) world.entries ++ get_or world.entries (length world.entries - 1) entry ∷ []
    parts entry =
        let within : length world.entries - 1 < length world.entries = omega (arith, behind) in
        let whole : take (length world.entries - 1 + 1) world.entries ≡ world.entries = take_all (length world.entries - 1 + 1) world.entries (omega arith) in
        sym whole ∙ take_more world.entries (length world.entries - 1) entry within

    pub kept_lost : IsKept (stopped (without_last world))
    kept_lost =
        let entry = plain_entry in
        let n = length world.entries - 1 in
        let f : Party → Party = λ party. restarting (length v.entries) (losing n party) in
        let less = owned_less world v (get_or world.entries n entry) (parts entry) (length-map world.clients (losing n)) owned (λ client at it differ. lost_to n world.clients client at it (λ same. differ (same ∙ sym short))) (λ client at it. let one = lost_from n world.clients client at it in (one.0, λ same. one.1 (same ∙ short))) in
        let alike = owned_alike v (stopped v) refl (length-map v.clients (restarting (length v.entries))) (all_to (restarting (length v.entries)) v.clients (λ party. refl)) (all_from (restarting (length v.entries)) v.clients (λ party. refl)) less in
        record {
          sound = record {
            timetable = known.sound.timetable;
            legal = legal_take world.timetable world.entries n known.sound.legal;
            settled = inl (sym (short ∙ place));
            fronts = all_mapped (λ it. it.front ≤ length v.entries) (restarting (length v.entries)) v.clients (λ k x here. omega arith);
            searched = all_mapped (λ it. IfSome it.searched (λ q. q ≤ it.front)) (restarting (length v.entries)) v.clients (λ k x here. search rules);
            notes = alike.notes;
            ascending = all_mapped (λ it. Ascend (positions it.log)) (restarting (length v.entries)) v.clients (λ k x here. of_all (λ it. Ascend (positions it.log)) v.clients k x (all_mapped (λ it. Ascend (positions it.log)) (losing n) world.clients (λ k x here. marked_ascend n x.log (ascend_of k x here))) here);
            owned = alike.owned;
          };
          logs = all_mapped (λ it. IsInStep world.settled it.log) (restarting (length v.entries)) v.clients (λ k x here. of_all (λ it. IsInStep world.settled it.log) v.clients k x (all_mapped (λ it. IsInStep world.settled it.log) (losing n) world.clients (λ k x here. subst (λ at. IsInStep world.settled (map (marked at) x.log)) (sym place) (marked_step world.settled x.log (step_of k x here)))) here);
        }

-- what the notes of a kept world name is its clients'
pub owned_of : (world : Plan) → IsKept world → AreOwned world
owned_of world known = record { notes = known.sound.notes; owned = known.sound.owned }

abbrev nobody : Party
nobody = record { front = 0; searched = None; log = [] }

nothing : (at : ℕ) → Contains [] at → ⊥
nothing at (k, within, here) = absurd (omega (arith, within))

none_named : (timetable : Timetable) (clients client at : ℕ) → Names (first_world timetable clients) client at → ⊥
none_named timetable clients client at named =
    let empty = of_all (λ it. positions it.log ≡ []) (replicate clients nobody) client named.0 (All-replicate (λ it. positions it.log ≡ []) clients nobody refl) named.1 in
    let inside : Contains [] at = subst (λ all. Contains all at) empty named.2 in
    nothing at inside

-- the world at its beginning
pub kept_first : (timetable : Timetable) (clients : ℕ) → IsTimetable timetable → IsKept (first_world timetable clients)
kept_first timetable clients planned = record {
  sound = record {
    timetable = planned;
    legal = λ at entry here. let wrong : ◌≡◌ {A = Option Entry} None (Some entry) = here in cc;
    settled = inl refl;
    fronts = All-replicate (λ it. it.front ≤ 0) clients nobody (omega arith);
    searched = All-replicate (λ it. IfSome it.searched (λ q. q ≤ it.front)) clients nobody (search rules);
    notes = λ client at less. (
      (λ named. absurd (none_named timetable clients client at named)),
      (λ one. let wrong : ◌≡◌ {A = Option Entry} None (Some one.0) = one.1 in cc),
    );
    ascending = All-replicate (λ it. Ascend (positions it.log)) clients nobody (λ i j d less within. absurd (omega (arith, within)));
    owned = λ at less. absurd (omega (arith, less));
  };
  logs = All-replicate (λ it. IsInStep 0 it.log) clients nobody (record {
    each = λ k note here. let wrong : ◌≡◌ {A = Option Note} None (Some note) = here in cc;
    behind = λ k d within. absurd (omega (arith, within));
    points = λ i j d less within. absurd (omega (arith, within));
  });
}
