-- What a client knows of a history.
use Rattle.std.proofs.Common.{◌≡◌, true, false, List, [], Option, Some, None, IsNone, Result, Ok, Err}
use Rattle.std.proofs.Common.{OnOk, length, take, flat_map, ap, sym, ◌∙◌, subst, refl, append_assoc}
use Rattle.std.specs.Prelude.{is_err, ◌++◌}
use Rattle.std.proofs.lemmas.List.{append-nil, take_at}
use Rattle.book_gate.specs.Views.{StartsWith}
use Rattle.path_commit.specs.history.Following.{AreLive}
use Rattle.path_commit.specs.claims.Held.{claims_by_zone, held}
use Rattle.path_commit.specs.claims.Zones.{Zone}
use Rattle.rail_types.specs.Occupation.{HeldClaim}
use Rattle.rail_types.specs.declared.entries.Entry.{Entry}
use Rattle.rail_types.specs.Timetables.{Timetable}
use Rattle.ask_turns.specs.Clients.{IsCopyOf, Knows}
use Rattle.ask_turns.specs.declared.client_turns.clients.Client.{Client}

pub starts_trans : {X : Type 0} (a b c : List X) → StartsWith a b → StartsWith b c → StartsWith a c
starts_trans a b c p q = (q.0 ++ p.0, p.1 ∙ ap (λ l. l ++ p.0) q.1 ∙ append_assoc c q.0 p.0)

-- the copy is that of the first entries up to the client's front
pub known_live : (timetable : Timetable) (client : Client) (entries : List Entry)
    → Knows timetable client entries
    → AreLive timetable (held client.copy) (take client.front entries)
known_live timetable client entries knows =
    subst (AreLive timetable (held client.copy))
    (sym (ap (take client.front) knows.1.1 ∙ take_at knows.0 knows.1.0 client.front (sym knows.2.front)))
    knows.2.live

-- a copy with the same claims zone by zone is as good
pub same_claims_known : (timetable : Timetable) (client : Client) (copy : List Zone) (entries : List Entry)
    → claims_by_zone copy ≡ claims_by_zone client.copy → length copy ≡ length client.copy
    → Knows timetable client entries → Knows timetable (record client { copy = copy }) entries
same_claims_known timetable client copy entries same long knows = (
  knows.0,
  knows.1,
  record {
    front = knows.2.front;
    zones = long ∙ knows.2.zones;
    live = subst (λ (l : List HeldClaim). AreLive timetable l knows.0)
        (ap (λ (claims : List (List HeldClaim)). flat_map (λ one. one) claims) (sym same)) knows.2.live;
    courses = knows.2.courses;
    charts = knows.2.charts;
  },
)

pub known_longer : (timetable : Timetable) (client : Client) (long short : List Entry)
    → StartsWith long short → Knows timetable client short → Knows timetable client long
known_longer timetable client long short more knows =
    (knows.0, starts_trans long short knows.0 more knows.1, knows.2)

pub not_err : {T E : Type 0} (P : Type 0) (result : Result T E) → is_err result ≡ false → OnOk result P → P
not_err P (Ok x) is told = told
not_err P (Err e) is told = absurd (true_not_false is)
  where
    true_not_false : true ≡ false → ⊥
    true_not_false wrong = cc

pub none_there : {X : Type 0} (some : Option X) → ((x : X) → some ≡ Some x → ⊥) → IsNone some
none_there None absent = refl
none_there (Some x) absent = absurd (absent x refl)

pub knows_copy : (timetable : Timetable) (client : Client) (entries : List Entry)
    → IsCopyOf timetable client entries → Knows timetable client entries
knows_copy timetable client entries copy = (entries, ([], sym (append-nil entries)), copy)
