-- How the parts of a book go on together.
use Rattle.std.proofs.Common.{◌≡◌, ◌∷◌, ◌++◌, [], ℕ, ◌+◌, ◌-◌, ◌<◌, ◌≤◌, List, length, Option, Some, None, slice_get, nat_lt, if◌then◌else◌, true, false, Bool, All, inl, inr, sym, ap, subst, refl, ◌∙◌, arith, length-append, zero, suc}
use Rattle.std.specs.Prelude.{slice_index}
use Rattle.std.specs.Int.{w32, to_be_bytes}
use Rattle.std.proofs.lemmas.Bool.Decides.{nat_tests}
use Rattle.std.proofs.lemmas.List.{length-map}
use Rattle.std.proofs.lemmas.List.Elements.{All-push}
use Rattle.rail_types.specs.declared.entries.Entry.{Entry}
use Rattle.rail_types.specs.Timetables.{IsTimetable}
use Rattle.occupation_book.specs.Zones.{Zone}
use Rattle.occupation_book.specs.Held.{held}
use Rattle.outside_io.specs.declared.disks.Disk.{Ghosts}
use Rattle.grant_journal.specs.declared.journals.Written.{Written}
use Rattle.grant_journal.specs.declared.journals.Written.TheVariants.{Done, Fault}
use Rattle.grant_journal.specs.declared.journals.Stage.TheVariants.{Record, Gate}
use Rattle.grant_journal.specs.declared.journals.Settled.{Settled}
use Rattle.grant_journal.specs.declared.journals.Settled.TheVariants.{Done as Put, Fault as Failed}
use Rattle.grant_journal.proofs.Spanning.{spans-weaker}
use Rattle.std.proofs.lemmas.Option.{slice_get_within}
use Rattle.grant_log.specs.Following.{AreLive}
use Rattle.grant_log.specs.Legal.{IsLegal, Register}
use Rattle.entry_codec.specs.Body.{body_of}
use Rattle.entry_codec.specs.Within.{HasBody}
use Rattle.grant_journal.specs.Headers.{header_of}
use Rattle.grant_journal.specs.Histories.{bodies_of, bytes_of, counted, front_of, record_of, ReadsAs, ReadsAsEither}
use Rattle.grant_journal.proofs.Prefixes.{reads-least}
use Rattle.grant_journal.specs.Answers.{Enters, Leaves, Settles as Settling}
use Rattle.grant_journal.specs.Keeping.{Keeps, Left}
use Rattle.grant_journal.specs.Timed.{Timed, settled_of}
use Rattle.grant_journal.proofs.Keepings.{next-at, rest-at, stands-for}
use Rattle.path_commit.specs.Answers.{Commits, HasCommitCause, IsBeforeOrAfter, IsRefusal, Settles}
use Rattle.path_commit.specs.Inside.{AreOne, IsToldBy, ledger_of}
use Rattle.path_commit.specs.Ledgers.{IsKept, IsPrefixOf, Ledger}
use Rattle.path_commit.specs.declared.answers.Committed.{Committed}
use Rattle.path_commit.specs.declared.answers.Committed.TheVariants.{Done as told_done, Refused, Clash, Full, DiskFault as told_fault, Unsettled as told_unsettled, Memory}

-- the bodies with one more
pub bodies_more : (entries : List Entry) (entry : Entry) → bodies_of (entries ++ entry ∷ []) ≡ bodies_of entries ++ body_of entry ∷ []
bodies_more [] entry = refl
bodies_more (one ∷ entries) entry = ap (λ (l : List (List ℕ)). body_of one ∷ l) (bodies_more entries entry)

pub bodies_count : (entries : List Entry) → length (bodies_of entries) ≡ length entries
bodies_count entries = length-map entries body_of

-- as many entries as are settled, or one more
pub settled_bounds : {D : Type 0} (disk : Ghosts D) (timed : Timed D) (header : List ℕ) (bodies : List (List ℕ)) → Keeps disk timed header bodies → (settled_of timed ≤ length bodies) × (length bodies ≤ settled_of timed + 1)
settled_bounds disk timed header bodies kept = elim kept.now [
  | inl all ↦ (omega (arith, all.count), omega (arith, all.count))
  | inr last ↦ (omega (arith, last.count, ap length last.last, length-append last.before (last.body ∷ [])), omega (arith, last.count, ap length last.last, length-append last.before (last.body ∷ [])))
]

module _ {D : Type 0} (disk : Ghosts D) (network base : List ℕ) (history : Register) (claims : List Zone) (old new : Timed D) (one : AreOne disk network base history claims old) where
  header : List ℕ
  header = header_of network base

  -- ---- a pending entry settled

  module _ (made : new.made ≡ old.made) (found : new.found ≡ old.found) (room : new.spare + length new.moments ≡ old.spare + length old.moments) where
    still_one : Keeps disk new (header_of network base) (bodies_of history.entries) → AreOne disk network base history claims new
    still_one kept = record { digests = one.digests; live = one.live; zones = one.zones; spelled = one.spelled; kept = kept; room = let had = one.room in omega (arith, had, found, room) }

    pub settled_one : (told : Settled) → Settling disk old new (header_of network base) (bodies_of history.entries) told → AreOne disk network base history claims new
    settled_one Put leaves = still_one leaves.0.keeps
    settled_one Failed leaves = still_one leaves.0.keeps

  pub settled_left : (told : Settled) → Settling disk old new (header_of network base) (bodies_of history.entries) told → Left disk old.journal.disk new.journal.disk (IsPrefixOf (ledger_of network base history old) (settled_of old))
  settled_left Put leaves = leaves.0.left
  settled_left Failed leaves = leaves.0.left

  pub settled_told : (told : Settled) → Settling disk old new (header_of network base) (bodies_of history.entries) told → Settles disk (ledger_of network base history old) (ledger_of network base history new) told
  settled_told Put leaves =
      let count = bodies_count history.entries in (
        leaves.1.0 ∙ count,
        elim leaves.1.1 [
          | inl idle ↦ inl (idle.0 ∙ count, ap (ledger_of network base history) idle.1)
          | inr more ↦ inr (subst (λ n. settled_of old < n) count more.0, more.1)
        ],
      )
  settled_told Failed leaves = (subst (λ n. settled_of old < n) (bodies_count history.entries) leaves.1, leaves.0.moments)

-- ---- an entry entered

module _ {D : Type 0} (disk : Ghosts D) (network base : List ℕ) (history after : Register) (claims now : List Zone) (old new : Timed D) (entry : Entry) (one : AreOne disk network base history claims old) where
  -- the write of the record failed
  pub faulty_one : Leaves disk old new (header_of network base) (bodies_of history.entries) old.moments (ReadsAs (header_of network base) (bodies_of history.entries)) → new.made ≡ old.made → new.found ≡ old.found → new.spare + length new.moments ≡ old.spare + length old.moments → AreOne disk network base history claims new
  faulty_one leaves made found room = record { digests = one.digests; live = one.live; zones = one.zones; spelled = one.spelled; kept = leaves.keeps; room = let had = one.room in omega (arith, had, found, room) }

  pub faulty_left : Leaves disk old new (header_of network base) (bodies_of history.entries) old.moments (ReadsAs (header_of network base) (bodies_of history.entries)) → Left disk old.journal.disk new.journal.disk (IsBeforeOrAfter (ledger_of network base history old) (ledger_of network base history new))
  faulty_left leaves = record {
    spans = spans-weaker disk.clock disk.since old.journal.disk new.journal.disk _ _ leaves.left.spans (λ image reads. inl reads);
    began = λ image was. inl (leaves.left.began image was);
  }

  module _ (timetable : after.timetable ≡ history.timetable) (entries : after.entries ≡ history.entries ++ entry ∷ []) (live : AreLive history.timetable (held now) (history.entries ++ entry ∷ [])) (zones : length now ≡ length claims) (made : new.made ≡ old.made) (found : new.found ≡ old.found) (room : new.spare + length new.moments ≡ old.spare + length old.moments) (some : 1 ≤ old.spare) (settled : settled_of old ≡ length history.entries) (has : HasBody entry) where
    bodies : bodies_of after.entries ≡ bodies_of history.entries ++ body_of entry ∷ []
    bodies = ap bodies_of entries ∙ bodies_more history.entries entry

    pub entered_one : (moments : List ℕ) → Leaves disk old new (header_of network base) (bodies_of history.entries ++ body_of entry ∷ []) moments (ReadsAsEither (header_of network base) (bodies_of history.entries) (bodies_of history.entries ++ body_of entry ∷ [])) → AreOne disk network base after now new
    entered_one moments leaves = record {
      digests = one.digests;
      live = rw (timetable, entries) live;
      zones = zones ∙ one.zones ∙ ap (λ t. t.net.zones) (sym timetable);
      spelled = subst (All HasBody) (sym entries) (All-push HasBody history.entries entry one.spelled has);
      kept = rw bodies leaves.keeps;
      room = let had = one.room in omega (arith, had, found, room, some, settled, ap length entries, length-append history.entries (entry ∷ []));
    }

    pub entered_left : (moments : List ℕ) → Leaves disk old new (header_of network base) (bodies_of history.entries ++ body_of entry ∷ []) moments (ReadsAsEither (header_of network base) (bodies_of history.entries) (bodies_of history.entries ++ body_of entry ∷ [])) → Left disk old.journal.disk new.journal.disk (IsBeforeOrAfter (ledger_of network base history old) (ledger_of network base after new))
    entered_left moments leaves = subst (λ (l : List (List ℕ)). Left disk old.journal.disk new.journal.disk (ReadsAsEither (header_of network base) (bodies_of history.entries) l)) (sym bodies) leaves.left

-- ---- what a book keeps

index_of : (moments : List ℕ) (k : ℕ) (moment : ℕ) → slice_get moments k ≡ Some moment → slice_index moments k ≡ moment
index_of [] k moment is = absurd (let wrong : ◌≡◌ {A = Option ℕ} None (Some moment) = is in cc)
index_of (m ∷ moments) zero moment is = let same : Some m ≡ Some moment = is in cc
index_of (m ∷ moments) (suc k) moment is = index_of moments k moment is

same_some : (a b : ℕ) → Some a ≡ Some b → a ≡ b
same_some a b same = cc

module _ {D : Type 0} (disk : Ghosts D) (network base : List ℕ) (history : Register) (claims : List Zone) (timed : Timed D) (one : AreOne disk network base history claims timed) where
  since_found : (at moment : ℕ) (image : List ℕ) → at < timed.found → timed.made ≡ moment → disk.since timed.journal.disk moment image → IsPrefixOf (ledger_of network base history timed) (at + 1) image
  since_found at moment image less is was = reads-least (header_of network base) (bodies_of history.entries) (at + 1) timed.found image (omega arith) (one.kept.remembers.since_made image (subst (λ m. disk.since timed.journal.disk m image) (sym is) was))

  since_later : (at moment : ℕ) (image : List ℕ) → timed.found ≤ at → slice_get timed.moments (at - timed.found) ≡ Some moment → disk.since timed.journal.disk moment image → IsPrefixOf (ledger_of network base history timed) (at + 1) image
  since_later at moment image more is was =
      let k = at - timed.found in
      let within : k < length timed.moments = slice_get_within timed.moments k moment is in
      let here : slice_index timed.moments k ≡ moment = index_of timed.moments k moment is in
      let number : timed.found + k + 1 ≡ at + 1 = omega arith in
      subst (λ n. IsPrefixOf (ledger_of network base history timed) n image) number (one.kept.remembers.since_settled k within image (subst (λ m. disk.since timed.journal.disk m image) (sym here) was))

  before_now : (at moment : ℕ) (test : Bool) → (if test then Some timed.made else slice_get timed.moments (at - timed.found)) ≡ Some moment → moment ≤ disk.clock timed.journal.disk
  before_now at moment true is = let same = same_some timed.made moment is in let before = one.kept.remembers.made_before in omega (arith, same, before)
  before_now at moment false is =
      let k = at - timed.found in
      let here = index_of timed.moments k moment is in
      let before = one.kept.remembers.settled_before k (slice_get_within timed.moments k moment is) in
      omega (arith, here, before)

  since_moment : (at moment : ℕ) (image : List ℕ) (test : Bool) → nat_lt at timed.found ≡ test → (if test then Some timed.made else slice_get timed.moments (at - timed.found)) ≡ Some moment → disk.since timed.journal.disk moment image → IsPrefixOf (ledger_of network base history timed) (at + 1) image
  since_moment at moment image true test is was = since_found at moment image (grind (arith, nat_tests)) (same_some timed.made moment is) was
  since_moment at moment image false test is was = since_later at moment image (grind (arith, nat_tests)) is was

  pub keeps_all : IsTimetable history.timetable → IsLegal history.timetable history.entries → IsKept disk (ledger_of network base history timed)
  keeps_all planned legal =
      let bounds = settled_bounds disk timed (header_of network base) (bodies_of history.entries) one.kept in
      let count = bodies_count history.entries in record {
        timetable = planned;
        legal = legal;
        settled = (let low = bounds.0 in omega (arith, low, count), let high = bounds.1 in omega (arith, high, count));
        spelled = one.spelled;
        short = one.kept.short;
        now = stands-for disk.images disk.clock disk.since timed.journal (header_of network base) (bodies_of history.entries) (settled_of timed) one.kept.now;
        made_before = one.kept.remembers.made_before;
        since_made = one.kept.remembers.since_made;
        settled_before = λ at moment is. before_now at moment (nat_lt at timed.found) is;
        since_settled = λ at moment image is was. since_moment at moment image (nat_lt at timed.found) refl is was;
      }

-- ---- by what the journal answers

pub record_bytes : (entry : Entry) → length (record_of entry) ≡ length (body_of entry) + 5
record_bytes entry = omega (arith, length-append (counted (body_of entry)) (0 ∷ []), length-append (to_be_bytes w32 (length (body_of entry))) (body_of entry))

pub next_used : {D : Type 0} (disk : Ghosts D) (network base : List ℕ) (history : Register) (claims : List Zone) (timed : Timed D) → AreOne disk network base history claims timed → ((network base : List ℕ) (entries : List Entry) → length network ≡ 32 → length base ≡ 32 → length (front_of (header_of network base) (bodies_of entries)) + 1 ≡ bytes_of entries) → timed.journal.next + 1 ≡ bytes_of history.entries
next_used disk network base history claims timed one law =
    let next = next-at disk.images disk.clock disk.since timed.journal (header_of network base) (bodies_of history.entries) (settled_of timed) one.kept.now in
    ap (λ n. n + 1) next ∙ law network base history.entries one.digests.0 one.digests.1

module _ {D : Type 0} (disk : Ghosts D) (network base : List ℕ) (history after : Register) (claims now : List Zone) (old new : Timed D) (entry : Entry) (one : AreOne disk network base history claims old)
    (timetable : after.timetable ≡ history.timetable) (entries : after.entries ≡ history.entries ++ entry ∷ []) (live : AreLive history.timetable (held now) (history.entries ++ entry ∷ [])) (zones : length now ≡ length claims) (made : new.made ≡ old.made) (found : new.found ≡ old.found) (room : new.spare + length new.moments ≡ old.spare + length old.moments) (some : 1 ≤ old.spare) (settled : settled_of old ≡ length history.entries) (has : HasBody entry) where
  pub one_by : (written : Written) (at : ℕ) (told : Committed) → IsToldBy written at told → Enters disk old new (header_of network base) (bodies_of history.entries) (body_of entry) written → AreOne disk network base after now new
  one_by Done at told is leaves = entered_one disk network base history after claims now old new entry one timetable entries live zones made found room some settled has _ leaves
  one_by (Fault Record) at told is leaves = absurd is
  one_by (Fault Gate) at told is leaves = entered_one disk network base history after claims now old new entry one timetable entries live zones made found room some settled has _ leaves

  pub left_by : (written : Written) (at : ℕ) (told : Committed) → IsToldBy written at told → Enters disk old new (header_of network base) (bodies_of history.entries) (body_of entry) written → Left disk old.journal.disk new.journal.disk (IsBeforeOrAfter (ledger_of network base history old) (ledger_of network base after new))
  left_by Done at told is leaves = entered_left disk network base history after claims now old new entry one timetable entries live zones made found room some settled has _ leaves
  left_by (Fault Record) at told is leaves = absurd is
  left_by (Fault Gate) at told is leaves = entered_left disk network base history after claims now old new entry one timetable entries live zones made found room some settled has _ leaves

  pub commits_by : (written : Written) (at : ℕ) (told : Committed) → at ≡ length history.entries → IsToldBy written at told → Enters disk old new (header_of network base) (bodies_of history.entries) (body_of entry) written → Commits disk (ledger_of network base history old) (ledger_of network base after new) entry told
  commits_by Done at told place is leaves = subst (Commits disk (ledger_of network base history old) (ledger_of network base after new) entry) (sym is) (place, entries, leaves.moments)
  commits_by (Fault Record) at told place is leaves = absurd is
  commits_by (Fault Gate) at told place is leaves = subst (Commits disk (ledger_of network base history old) (ledger_of network base after new) entry) (sym is) (place, entries, leaves.moments)

pub record_failed : {D : Type 0} (disk : Ghosts D) (old new : Timed D) (header : List ℕ) (bodies : List (List ℕ)) (body : List ℕ) (written : Written) → written ≡ Fault Record → Enters disk old new header bodies body written → Leaves disk old new header bodies old.moments (ReadsAs header bodies)
record_failed disk old new header bodies body written is told = subst (Enters disk old new header bodies body) is told

-- ---- more room

pub roomy_one : {D : Type 0} (disk : Ghosts D) (network base : List ℕ) (history after : Register) (claims now : List Zone) (timed : Timed D) (spare : ℕ) → AreOne disk network base history claims timed → after.timetable ≡ history.timetable → after.entries ≡ history.entries → held now ≡ held claims → length now ≡ length claims → timed.spare ≤ spare → AreOne disk network base after now (record timed { spare = spare })
roomy_one disk network base history after claims now timed spare one timetable entries same zones more = record {
  digests = one.digests;
  live = rw (timetable, entries, same) one.live;
  zones = zones ∙ one.zones ∙ ap (λ t. t.net.zones) (sym timetable);
  spelled = rw entries one.spelled;
  kept = rw entries one.kept;
  room = let had = one.room in omega (arith, had, more, ap length entries);
}

-- ---- refusals

pub commits_not : {D : Type 0} (disk : Ghosts D) (old new : Ledger D) (entry : Entry) (told : Committed) → IsRefusal told → new ≡ old → Commits disk old new entry told
commits_not disk old new entry (Refused verdict) is same = same
commits_not disk old new entry (Clash at) is same = same
commits_not disk old new entry Full is same = same
commits_not disk old new entry Memory is same = same
commits_not disk old new entry (told_done at) is same = absurd is
commits_not disk old new entry told_fault is same = absurd is
commits_not disk old new entry (told_unsettled at) is same = absurd is

pub cause_not : (before now : ℕ) (told : Committed) → IsRefusal told → now ≡ before → HasCommitCause before now told
cause_not before now (Refused verdict) is same = same
cause_not before now (Clash at) is same = same
cause_not before now Full is same = same
cause_not before now Memory is same = same
cause_not before now (told_done at) is same = absurd is
cause_not before now told_fault is same = absurd is
cause_not before now (told_unsettled at) is same = absurd is

pub left_not : {D : Type 0} (disk : Ghosts D) → ((d : D) (image : List ℕ) → disk.since d (disk.clock d) image → disk.images d image) → (network base : List ℕ) (history : Register) (claims : List Zone) (timed : Timed D) → AreOne disk network base history claims timed → settled_of timed ≡ length history.entries → Left disk timed.journal.disk timed.journal.disk (IsBeforeOrAfter (ledger_of network base history timed) (ledger_of network base history timed))
left_not disk only network base history claims timed one idle =
    let rest = rest-at disk.images disk.clock disk.since timed.journal (header_of network base) (bodies_of history.entries) (settled_of timed) (idle ∙ sym (bodies_count history.entries)) one.kept.now in
    record {
      spans = record { later = omega arith; images = λ moment image le was. inl was; kept = λ moment image le was. was };
      began = λ image was. inl (rest.now image (only timed.journal.disk image was));
    }
