-- What stays true from event to event.
use Rattle.std.proofs.Common.{◌≡◌, ◌≢◌, ◌⊎◌, ◌↔◌, ℕ, ◌+◌, ◌-◌, ◌<◌, ◌≤◌, min, Bool, true, false, ◌||◌, nat_eq, nat_lt, if◌then◌else◌, List, [], ◌∷◌, ◌++◌, length, map, take, get_or, slice_get, Option, Some, None, All, inl, inr, refl, ap, sym, subst, ◌∙◌, arith, length-append}
use Rattle.std.proofs.lemmas.Bool.Decides.{Decides-eqb}
use Rattle.std.proofs.lemmas.List.{take-append-le, take-take, take_all, take_more, length-take-le}
use Rattle.std.proofs.lemmas.Option.{same_Some}
use Rattle.rail_types.specs.declared.entries.Entry.{Entry}
use Rattle.rail_types.specs.Timetables.{IsTimetable, Timetable}
use Rattle.grant_journal.specs.declared.journals.Stage.TheVariants.{Record, Gate}
use Rattle.grant_log.proofs.Slices.{slice_get_push}
use Rattle.plan_core.specs.declared.events.Event.{Event}
use Rattle.plan_core.specs.declared.events.Event.TheVariants.{Turn, Seek, Commit, Free, Fault, Settle, Crash, Open}
use Rattle.plan_core.specs.declared.notes.Note.{Note}
use Rattle.plan_core.specs.Events.{after, begun, IsEnabled, read, stopped, without_last, written}
use Rattle.plan_core.specs.Inside.{IsInStep, IsKept}
use Rattle.plan_core.specs.Pairs.{IsEventOfPair, IsTurnOf, Pair, pair_of, TakesTurn}
use Rattle.plan_core.specs.Parties.{changed_at, is_at, losing, marked, noting, Party, restarting, seeking, writing}
use Rattle.plan_core.specs.Runs.{BacksOnlyByLoss, HasLostLast, IsCrash, IsLostAt, LosesLast, MarksOnlyTheLost, Runs, Takes}
use Rattle.plan_core.specs.Sound.{GoBackByLoss, IsSound}
use Rattle.plan_core.specs.Worlds.{first_world, MayWrite, Plan}
use Rattle.plan_core.proofs.Keeping.{kept_begun, kept_first, kept_lost, kept_read, kept_seek, kept_settled, kept_stopped, kept_written, plain_entry}
use Rattle.plan_core.proofs.Lists.{changed_cases, mapped, of_all, to_all}

is_less : (a b : ℕ) → nat_lt a b ≡ true → a < b
is_less a b is = search (arith, is)

not_less : (a b : ℕ) → nat_lt a b ≡ false → b ≤ a
not_less a b is = search (arith, is)

may_write : (world : Plan) (client : ℕ) (entry : Entry) → IsEnabled world (Fault client entry Record) → MayWrite world client entry
may_write world client entry enabled = elim enabled [
  | inl commit ↦ commit.write
  | inr free ↦ free.write
]

-- where the last entry is lost, or not
abbrev cut : Plan → Bool → Plan
cut world lost = if lost then without_last world else world

kept_cut : (world : Plan) (lost : Bool) → nat_lt world.settled (length world.entries) ≡ lost → IsKept world → IsKept (stopped (cut world lost))
kept_cut world true is known = kept_lost world known (is_less world.settled (length world.entries) is)
kept_cut world false is known = kept_stopped world known

pub kept_after : (world : Plan) (event : Event) → IsKept world → IsEnabled world event → IsKept (after world event)
kept_after world (Turn client) known enabled = kept_read world known client enabled.1
kept_after world (Seek client) known enabled = kept_seek world known client
kept_after world (Commit client entry) known enabled = kept_written world known client entry enabled.write
kept_after world (Free client entry) known enabled = kept_written world known client entry enabled.write
kept_after world (Fault client entry Record) known enabled = kept_read world known client (may_write world client entry enabled).settled
kept_after world (Fault client entry Gate) known enabled = kept_begun world known client entry (may_write world client entry enabled)
kept_after world (Settle true) known enabled = kept_settled world known world.up
kept_after world (Settle false) known enabled = known
kept_after world (Crash true) known enabled = kept_stopped world known
kept_after world (Crash false) known enabled = kept_cut world (nat_lt world.settled (length world.entries)) refl known
kept_after world Open known enabled = kept_settled world known true

kept_takes : (old : Plan) (event : Event) (new : Plan) → IsKept old → Takes old event new → IsKept new
kept_takes old event new known takes = elim takes [
  | inl did ↦ subst IsKept (sym did.1) (kept_after old event known did.0)
  | inr idle ↦ subst IsKept (sym idle.1) known
]

pub kept_runs : (old : Plan) (events : List Event) (new : Plan) → IsKept old → Runs old events new → IsKept new
kept_runs old [] new known run = subst IsKept (sym run) known
kept_runs old (event ∷ events) new known run = kept_runs run.0 events new (kept_takes old event run.0 known run.1) run.2

pub sound_runs : (timetable : Timetable) (clients : ℕ) (events : List Event) (world : Plan) → IsTimetable timetable → Runs (first_world timetable clients) events world → IsSound world
sound_runs timetable clients events world planned run = (kept_runs (first_world timetable clients) events world (kept_first timetable clients planned) run).sound

pub points_runs : (timetable : Timetable) (clients : ℕ) (events : List Event) (world : Plan) → IsTimetable timetable → Runs (first_world timetable clients) events world → All (λ party. GoBackByLoss party.log) world.clients
points_runs timetable clients events world planned run =
    let known = kept_runs (first_world timetable clients) events world (kept_first timetable clients planned) run in
    to_all (λ party. GoBackByLoss party.log) world.clients (λ k party here. (of_all (λ it. IsInStep world.settled it.log) world.clients k party known.logs here).points)

-- the timetable never changes
timetable_cut : (world : Plan) (lost : Bool) → (stopped (cut world lost)).timetable ≡ world.timetable
timetable_cut world true = refl
timetable_cut world false = refl

timetable_after : (world : Plan) (event : Event) → (after world event).timetable ≡ world.timetable
timetable_after world (Turn client) = refl
timetable_after world (Seek client) = refl
timetable_after world (Commit client entry) = refl
timetable_after world (Free client entry) = refl
timetable_after world (Fault client entry Record) = refl
timetable_after world (Fault client entry Gate) = refl
timetable_after world (Settle true) = refl
timetable_after world (Settle false) = refl
timetable_after world (Crash true) = refl
timetable_after world (Crash false) = timetable_cut world (nat_lt world.settled (length world.entries))
timetable_after world Open = refl

pub same_timetable : (old new : Plan) (events : List Event) → Runs old events new → new.timetable ≡ old.timetable
same_timetable old new [] run = ap (λ (it : Plan). it.timetable) run
same_timetable old new (event ∷ events) run = same_timetable run.0 new events run.2 ∙ elim run.1 [
  | inl did ↦ ap (λ (it : Plan). it.timetable) did.1 ∙ timetable_after old event
  | inr idle ↦ ap (λ (it : Plan). it.timetable) idle.1
]

-- the settled entries stay
record Stays (old new : Plan) : Type 0 where
  low : new.settled ≤ length new.entries
  count : old.settled ≤ new.settled
  same : take old.settled new.entries ≡ take old.settled old.entries

stays_itself : (world : Plan) → world.settled ≤ length world.entries → Stays world world
stays_itself world low = record { low = low; count = omega arith; same = refl }

stays_more : (world : Plan) (client : ℕ) (entry : Entry) (settled : ℕ) (clients : List Party) → world.settled ≤ length world.entries → world.settled ≤ settled → settled ≤ length world.entries + 1 → Stays world (record world { entries = world.entries ++ entry ∷ []; settled = settled; clients = clients })
stays_more world client entry settled clients low more most = record {
  low = omega (arith, most, length-append world.entries (entry ∷ []));
  count = more;
  same = take-append-le world.settled world.entries (entry ∷ []) low;
}

stays_cut : (world : Plan) (lost : Bool) → nat_lt world.settled (length world.entries) ≡ lost → world.settled ≤ length world.entries → Stays world (stopped (cut world lost))
stays_cut world true is low =
    let less = is_less world.settled (length world.entries) is in
    let short = length-take-le (length world.entries - 1) world.entries (omega arith) in
    record {
      low = omega (arith, less, short);
      count = omega arith;
      same = take-take world.settled (length world.entries - 1) world.entries (omega (arith, less));
    }
stays_cut world false is low = record { low = low; count = omega arith; same = refl }

stays_after : (world : Plan) (event : Event) → world.settled ≤ length world.entries → Stays world (after world event)
stays_after world (Turn client) low = record { low = low; count = omega arith; same = refl }
stays_after world (Seek client) low = record { low = low; count = omega arith; same = refl }
stays_after world (Commit client entry) low = stays_more world client entry (length world.entries + 1) (written world client entry).clients low (omega (arith, low)) (omega arith)
stays_after world (Free client entry) low = stays_more world client entry (length world.entries + 1) (written world client entry).clients low (omega (arith, low)) (omega arith)
stays_after world (Fault client entry Record) low = record { low = low; count = omega arith; same = refl }
stays_after world (Fault client entry Gate) low = stays_more world client entry world.settled (begun world client entry).clients low (omega arith) (omega (arith, low))
stays_after world (Settle true) low = record { low = omega arith; count = low; same = refl }
stays_after world (Settle false) low = stays_itself world low
stays_after world (Crash true) low = record { low = low; count = omega arith; same = refl }
stays_after world (Crash false) low = stays_cut world (nat_lt world.settled (length world.entries)) refl low
stays_after world Open low = record { low = omega arith; count = low; same = refl }

stays_takes : (old : Plan) (event : Event) (new : Plan) → old.settled ≤ length old.entries → Takes old event new → Stays old new
stays_takes old event new low takes = elim takes [
  | inl did ↦ subst (Stays old) (sym did.1) (stays_after old event low)
  | inr idle ↦ subst (Stays old) (sym idle.1) (stays_itself old low)
]

stays_runs : (old : Plan) (events : List Event) (new : Plan) → old.settled ≤ length old.entries → Runs old events new → Stays old new
stays_runs old [] new low run = subst (Stays old) (sym run) (stays_itself old low)
stays_runs old (event ∷ events) new low run =
    let first = stays_takes old event run.0 low run.1 in
    let rest = stays_runs run.0 events new first.low run.2 in
    record {
      low = rest.low;
      count = omega (arith, first.count, rest.count);
      same = sym (take-take old.settled run.0.settled new.entries first.count) ∙ (ap (take old.settled) rest.same ∙ (take-take old.settled run.0.settled run.0.entries first.count ∙ first.same));
    }

low_sound : (world : Plan) → IsSound world → world.settled ≤ length world.entries
low_sound world known = elim known.settled [
  | inl same ↦ omega (arith, same)
  | inr one_less ↦ omega (arith, one_less)
]

pub settled_stay : (old new : Plan) (events : List Event) → IsSound old → Runs old events new → take old.settled new.entries ≡ take old.settled old.entries
settled_stay old new events known run = (stays_runs old events new (low_sound old known) run).same

pub settled_count : (old new : Plan) (events : List Event) → IsSound old → Runs old events new → old.settled ≤ new.settled
settled_count old new events known run = (stays_runs old events new (low_sound old known) run).count

-- a crash
crash_cut : (world : Plan) (lost : Bool) → nat_lt world.settled (length world.entries) ≡ lost → ((stopped (cut world lost)).entries ≡ world.entries) ⊎ HasLostLast world (stopped (cut world lost))
crash_cut world true is =
    let less = is_less world.settled (length world.entries) is in
    let n = length world.entries - 1 in
    inr (record {
      unsettled = less;
      last = get_or world.entries n plain_entry;
      entries = sym (take_all (n + 1) world.entries (omega arith)) ∙ take_more world.entries n plain_entry (omega (arith, less));
    })
crash_cut world false is = inl refl

crash_after : (world : Plan) (keeps_last : Bool) → ((after world (Crash keeps_last)).entries ≡ world.entries) ⊎ HasLostLast world (after world (Crash keeps_last))
crash_after world true = inl refl
crash_after world false = crash_cut world (nat_lt world.settled (length world.entries)) refl

pub crash_takes : (old new : Plan) (event : Event) → IsSound old → IsCrash event → Takes old event new → (new.entries ≡ old.entries) ⊎ HasLostLast old new
crash_takes old new event known crash takes = elim takes [
  | inl did ↦
      let is : new ≡ after old (Crash crash.0) = did.1 ∙ ap (after old) crash.1 in
      subst (λ (it : Plan). (it.entries ≡ old.entries) ⊎ HasLostLast old it) (sym is) (crash_after old crash.0)
  | inr idle ↦ inl (ap (λ (it : Plan). it.entries) idle.1)
]

-- the pair
pair_cut : (world : Plan) (lost : Bool) → pair_of (stopped (cut world lost)) ≡ (if lost then record { entries = take (length world.entries - 1) world.entries; settled = world.settled } else pair_of world)
pair_cut world true = refl
pair_cut world false = refl

pub event_pair : (world : Plan) (event : Event) → IsEnabled world event → IsEventOfPair world.timetable event (pair_of world) (pair_of (after world event))
event_pair world (Turn client) enabled = (enabled.1, refl)
event_pair world (Seek client) enabled = refl
event_pair world (Commit client entry) enabled = (record { settled = enabled.write.settled; joins = enabled.write.joins }, enabled.takes, refl)
event_pair world (Free client entry) enabled = (record { settled = enabled.write.settled; joins = enabled.write.joins }, enabled.frees, refl)
event_pair world (Fault client entry Record) enabled = let may = may_write world client entry enabled in (record { settled = may.settled; joins = may.joins }, refl)
event_pair world (Fault client entry Gate) enabled = let may = may_write world client entry enabled in (record { settled = may.settled; joins = may.joins }, refl)
event_pair world (Settle true) enabled = (enabled.1, refl)
event_pair world (Settle false) enabled = (enabled.1, refl)
event_pair world (Crash true) enabled = refl
event_pair world (Crash false) enabled = pair_cut world (nat_lt world.settled (length world.entries))
event_pair world Open enabled = refl

pub turn_pair : (world : Plan) (event : Event) (client : ℕ) → IsTurnOf client event → IsEnabled world event → TakesTurn world.timetable client (pair_of world) (pair_of (after world event))
turn_pair world event client turn enabled = inl (event, turn, event_pair world event enabled)

pub settled_turn : (world : Plan) (event : Event) (client : ℕ) → IsTurnOf client event → IsEnabled world (Settle true) → IsEnabled (after world (Settle true)) event → TakesTurn world.timetable client (pair_of world) (pair_of (after (after world (Settle true)) event))
settled_turn world event client turn settles enabled = inr (inl (pair_of (after world (Settle true)), event_pair world (Settle true) settles, (event, turn, event_pair (after world (Settle true)) event enabled)))

pub failed_turn : (world : Plan) (client : ℕ) → IsEnabled world (Settle false) → TakesTurn world.timetable client (pair_of world) (pair_of world)
failed_turn world client fails = inr (inr (event_pair world (Settle false) fails))

-- marks of lost entries
module _ (old : Plan) (event : Event) (new : Plan) where
  abbrev Marked : List Note → ℕ → Note → Type 0
  Marked log k note = IsLostAt log k ⊎ (LosesLast old event × (note.entry ≡ Some (length new.entries)))

  -- a log that is the same, or has one note more that is not lost
  plain_mark : (log : List Note) (k : ℕ) (note : Note) → slice_get log k ≡ Some note → note.lost ≡ true → Marked log k note
  plain_mark log k note here lost = inl (note, here, lost)

  noted_mark : (log : List Note) (point : ℕ) (entry : Option ℕ) (k : ℕ) (note : Note) → slice_get (log ++ (record { point = point; entry = entry; lost = false }) ∷ []) k ≡ Some note → note.lost ≡ true → Marked log k note
  noted_mark log point entry k note here lost = elim (slice_get_push log (record { point = point; entry = entry; lost = false }) k note here) [
    | inl was ↦ inl (note, was.1, lost)
    | inr more ↦ let wrong : ◌≡◌ {A = Bool} false true = ap (λ (it : Note). it.lost) more.1 ∙ lost in cc
  ]

  -- clients of whom one has changed
  changed_mark : (mine : ℕ) (f : Party → Party) → ((party : Party) (k : ℕ) (note : Note) → slice_get (f party).log k ≡ Some note → note.lost ≡ true → Marked party.log k note) → (client k : ℕ) (before behind : Party) (note : Note) → slice_get old.clients client ≡ Some before → slice_get (changed_at mine f old.clients) client ≡ Some behind → slice_get behind.log k ≡ Some note → note.lost ≡ true → Marked before.log k note
  changed_mark mine f each client k before behind note here there noted lost = elim (changed_cases mine f old.clients client behind there) [
    | inl same ↦
        let was : same.0 ≡ before = same_Some same.0 before (sym same.2 ∙ (ap (slice_get old.clients) (sym same.1) ∙ here)) in
        subst (λ (it : Party). Marked it.log k note) was (each same.0 k note (subst (λ (it : Party). slice_get it.log k ≡ Some note) same.3 noted) lost)
    | inr other ↦
        let was : behind ≡ before = same_Some behind before (sym other.1 ∙ here) in
        plain_mark before.log k note (subst (λ (it : Party). slice_get it.log k ≡ Some note) was noted) lost
  ]

  -- the same clients
  same_mark : (client k : ℕ) (before behind : Party) (note : Note) → slice_get old.clients client ≡ Some before → slice_get old.clients client ≡ Some behind → slice_get behind.log k ≡ Some note → note.lost ≡ true → Marked before.log k note
  same_mark client k before behind note here there noted lost =
      let was : behind ≡ before = same_Some behind before (sym there ∙ here) in
      plain_mark before.log k note (subst (λ (it : Party). slice_get it.log k ≡ Some note) was noted) lost

  -- clients that start again
  stopped_mark : (n client k : ℕ) (before behind : Party) (note : Note) → slice_get old.clients client ≡ Some before → slice_get (map (restarting n) old.clients) client ≡ Some behind → slice_get behind.log k ≡ Some note → note.lost ≡ true → Marked before.log k note
  stopped_mark n client k before behind note here there noted lost =
      let one = mapped (restarting n) old.clients client behind there in
      let was : one.0 ≡ before = same_Some one.0 before (sym one.1 ∙ here) in
      plain_mark before.log k note (subst (λ (it : Party). slice_get it.log k ≡ Some note) was (subst (λ (it : Party). slice_get it.log k ≡ Some note) one.2 noted)) lost

  lost_or : (at : ℕ) (lost : Bool) (entry : Option ℕ) → (lost || is_at at entry) ≡ true → (lost ≡ true) ⊎ (entry ≡ Some at)
  lost_or at true entry is = inl refl
  lost_or at false None is = let wrong : ◌≡◌ {A = Bool} false true = is in cc
  lost_or at false (Some p) is = inr (ap Some (same_number p at is))
    where
      same_number : (a b : ℕ) → nat_eq a b ≡ true → a ≡ b
      same_number a b equal = (Decides-eqb a b).0 equal

  -- clients that start again without the last entry
  lost_mark : (n m : ℕ) → LosesLast old event → length new.entries ≡ n → (client k : ℕ) (before behind : Party) (note : Note) → slice_get old.clients client ≡ Some before → slice_get (map (restarting m) (map (losing n) old.clients)) client ≡ Some behind → slice_get behind.log k ≡ Some note → note.lost ≡ true → Marked before.log k note
  lost_mark n m loses count client k before behind note here there noted lost =
      let one = mapped (restarting m) (map (losing n) old.clients) client behind there in
      let two = mapped (losing n) old.clients client one.0 one.1 in
      let was : two.0 ≡ before = same_Some two.0 before (sym two.1 ∙ here) in
      let shown : slice_get (map (marked n) before.log) k ≡ Some note = subst (λ (it : Party). slice_get (map (marked n) it.log) k ≡ Some note) was (subst (λ (it : Party). slice_get it.log k ≡ Some note) two.2 (subst (λ (it : Party). slice_get it.log k ≡ Some note) one.2 noted)) in
      let first = mapped (marked n) before.log k note shown in
      elim (lost_or n first.0.lost first.0.entry (sym (ap (λ (it : Note). it.lost) first.2) ∙ lost)) [
        | inl already ↦ inl (first.0, first.1, already)
        | inr named ↦ inr (loses, ap (λ (it : Note). it.entry) first.2 ∙ (named ∙ ap Some (sym count)))
      ]

marks_cut : (old : Plan) (lost : Bool) → nat_lt old.settled (length old.entries) ≡ lost → old.up ≡ true → MarksOnlyTheLost old (Crash false) (stopped (cut old lost))
marks_cut old true is up =
    let less = is_less old.settled (length old.entries) is in
    let short = length-take-le (length old.entries - 1) old.entries (omega arith) in
    lost_mark old (Crash false) (stopped (cut old true)) (length old.entries - 1) (length (take (length old.entries - 1) old.entries)) (record { is = refl; up = up; unsettled = less }) short
marks_cut old false is up = stopped_mark old (Crash false) (stopped (cut old false)) (length old.entries)

marks_after : (old : Plan) (event : Event) → IsEnabled old event → MarksOnlyTheLost old event (after old event)
marks_after old (Turn mine) enabled = changed_mark old (Turn mine) (after old (Turn mine)) mine (noting (length old.entries) None) (λ party k note here lost. noted_mark old (Turn mine) (after old (Turn mine)) party.log (length old.entries) None k note here lost)
marks_after old (Seek mine) enabled = changed_mark old (Seek mine) (after old (Seek mine)) mine seeking (λ party k note here lost. plain_mark old (Seek mine) (after old (Seek mine)) party.log k note here lost)
marks_after old (Commit mine entry) enabled = changed_mark old (Commit mine entry) (after old (Commit mine entry)) mine (writing (length old.entries)) (λ party k note here lost. noted_mark old (Commit mine entry) (after old (Commit mine entry)) party.log (length old.entries + 1) (Some (length old.entries)) k note here lost)
marks_after old (Free mine entry) enabled = changed_mark old (Free mine entry) (after old (Free mine entry)) mine (writing (length old.entries)) (λ party k note here lost. noted_mark old (Free mine entry) (after old (Free mine entry)) party.log (length old.entries + 1) (Some (length old.entries)) k note here lost)
marks_after old (Fault mine entry Record) enabled = changed_mark old (Fault mine entry Record) (after old (Fault mine entry Record)) mine (noting (length old.entries) None) (λ party k note here lost. noted_mark old (Fault mine entry Record) (after old (Fault mine entry Record)) party.log (length old.entries) None k note here lost)
marks_after old (Fault mine entry Gate) enabled = changed_mark old (Fault mine entry Gate) (after old (Fault mine entry Gate)) mine (noting (length old.entries + 1) (Some (length old.entries))) (λ party k note here lost. noted_mark old (Fault mine entry Gate) (after old (Fault mine entry Gate)) party.log (length old.entries + 1) (Some (length old.entries)) k note here lost)
marks_after old (Settle true) enabled = same_mark old (Settle true) (after old (Settle true))
marks_after old (Settle false) enabled = same_mark old (Settle false) old
marks_after old (Crash true) enabled = stopped_mark old (Crash true) (after old (Crash true)) (length old.entries)
marks_after old (Crash false) enabled = marks_cut old (nat_lt old.settled (length old.entries)) refl enabled
marks_after old Open enabled = same_mark old Open (after old Open)

pub marks_takes : (old new : Plan) (event : Event) → Takes old event new → MarksOnlyTheLost old event new
marks_takes old new event takes = elim takes [
  | inl did ↦ subst (MarksOnlyTheLost old event) (sym did.1) (marks_after old event did.0)
  | inr idle ↦ subst (MarksOnlyTheLost old event) (sym idle.1) (same_mark old event old)
]

-- the fronts
module _ (old : Plan) (event : Event) (known : IsSound old) where
  abbrev Backs : Party → Party → Type 0
  Backs before behind = (before.front ≤ behind.front) ⊎ (LosesLast old event × (before.front ≤ behind.front + 1))

  most : (client : ℕ) (party : Party) → slice_get old.clients client ≡ Some party → party.front ≤ length old.entries
  most client party here = of_all (λ it. it.front ≤ length old.entries) old.clients client party known.fronts here

  changed_front : (mine : ℕ) (f : Party → Party) → ((party : Party) → party.front ≤ length old.entries → party.front ≤ (f party).front) → (client : ℕ) (before behind : Party) → slice_get old.clients client ≡ Some before → slice_get (changed_at mine f old.clients) client ≡ Some behind → Backs before behind
  changed_front mine f each client before behind here there = elim (changed_cases mine f old.clients client behind there) [
    | inl same ↦
        let was : same.0 ≡ before = same_Some same.0 before (sym same.2 ∙ (ap (slice_get old.clients) (sym same.1) ∙ here)) in
        let up = each before (most client before here) in
        inl (subst (λ (it : Party). before.front ≤ it.front) (sym (same.3 ∙ ap f was)) up)
    | inr other ↦ inl (let was = ap (λ (it : Party). it.front) (same_Some behind before (sym other.1 ∙ here)) in omega (arith, was))
  ]

  same_front : (client : ℕ) (before behind : Party) → slice_get old.clients client ≡ Some before → slice_get old.clients client ≡ Some behind → Backs before behind
  same_front client before behind here there = inl (let was = ap (λ (it : Party). it.front) (same_Some behind before (sym there ∙ here)) in omega (arith, was))

  stopped_front : (client : ℕ) (before behind : Party) → slice_get old.clients client ≡ Some before → slice_get (map (restarting (length old.entries)) old.clients) client ≡ Some behind → Backs before behind
  stopped_front client before behind here there =
      let one = mapped (restarting (length old.entries)) old.clients client behind there in
      let was = ap (λ (it : Party). it.front) (same_Some one.0 before (sym one.1 ∙ here)) in
      let now : behind.front ≡ min one.0.front (length old.entries) = ap (λ (it : Party). it.front) one.2 in
      inl (omega (arith, was, now, most client before here))

  lost_front : (n m : ℕ) → LosesLast old event → length old.entries ≤ m + 1 → (client : ℕ) (before behind : Party) → slice_get old.clients client ≡ Some before → slice_get (map (restarting m) (map (losing n) old.clients)) client ≡ Some behind → Backs before behind
  lost_front n m loses count client before behind here there =
      let one = mapped (restarting m) (map (losing n) old.clients) client behind there in
      let two = mapped (losing n) old.clients client one.0 one.1 in
      let was = ap (λ (it : Party). it.front) (same_Some two.0 before (sym two.1 ∙ here)) in
      let same : one.0.front ≡ two.0.front = ap (λ (it : Party). it.front) two.2 in
      let now : behind.front ≡ min one.0.front m = ap (λ (it : Party). it.front) one.2 in
      inr (loses, omega (arith, was, same, now, most client before here, count))

fronts_cut : (old : Plan) (lost : Bool) → nat_lt old.settled (length old.entries) ≡ lost → IsSound old → old.up ≡ true → BacksOnlyByLoss old (Crash false) (stopped (cut old lost))
fronts_cut old true is known up =
    let less = is_less old.settled (length old.entries) is in
    let short = length-take-le (length old.entries - 1) old.entries (omega arith) in
    lost_front old (Crash false) known (length old.entries - 1) (length (take (length old.entries - 1) old.entries)) (record { is = refl; up = up; unsettled = less }) (omega (arith, short, less))
fronts_cut old false is known up = stopped_front old (Crash false) known

fronts_after : (old : Plan) (event : Event) → IsSound old → IsEnabled old event → BacksOnlyByLoss old event (after old event)
fronts_after old (Turn mine) known enabled = changed_front old (Turn mine) known mine (noting (length old.entries) None) (λ party up. up)
fronts_after old (Seek mine) known enabled = changed_front old (Seek mine) known mine seeking (λ party up. omega arith)
fronts_after old (Commit mine entry) known enabled = changed_front old (Commit mine entry) known mine (writing (length old.entries)) (λ party up. omega (arith, up))
fronts_after old (Free mine entry) known enabled = changed_front old (Free mine entry) known mine (writing (length old.entries)) (λ party up. omega (arith, up))
fronts_after old (Fault mine entry Record) known enabled = changed_front old (Fault mine entry Record) known mine (noting (length old.entries) None) (λ party up. up)
fronts_after old (Fault mine entry Gate) known enabled = changed_front old (Fault mine entry Gate) known mine (noting (length old.entries + 1) (Some (length old.entries))) (λ party up. omega (arith, up))
fronts_after old (Settle true) known enabled = same_front old (Settle true) known
fronts_after old (Settle false) known enabled = same_front old (Settle false) known
fronts_after old (Crash true) known enabled = stopped_front old (Crash true) known
fronts_after old (Crash false) known enabled = fronts_cut old (nat_lt old.settled (length old.entries)) refl known enabled
fronts_after old Open known enabled = same_front old Open known

pub fronts_takes : (old new : Plan) (event : Event) → IsSound old → Takes old event new → BacksOnlyByLoss old event new
fronts_takes old new event known takes = elim takes [
  | inl did ↦ subst (BacksOnlyByLoss old event) (sym did.1) (fronts_after old event known did.0)
  | inr idle ↦ subst (BacksOnlyByLoss old event) (sym idle.1) (same_front old event known)
]

-- one event more
pub runs_more : (old : Plan) (events : List Event) (mid : Plan) (event : Event) (new : Plan) → Runs old events mid → Takes mid event new → Runs old (events ++ event ∷ []) new
runs_more old [] mid event new run takes = (new, subst (λ (it : Plan). Takes it event new) run takes, refl)
runs_more old (first ∷ events) mid event new run takes = (run.0, run.1, runs_more run.0 events mid event new run.2 takes)
