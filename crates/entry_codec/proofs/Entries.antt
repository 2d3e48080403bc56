-- Entries are read where their bodies stand.
use Rattle.std.proofs.Common.{◌≡◌, ◌≢◌, ℕ, zero, suc, ◌+◌, ◌-◌, ◌^◌, ◌<◌, ◌≤◌, Bool, true, false, cond, eqb, List, [], ◌∷◌, ◌++◌, length, take, Option, Some, All, Result, Ok, Err, refl, sym, ap, subst, ◌∙◌, append_assoc, arith, inl, inr}
use Rattle.std.proofs.lemmas.Bool.{and_parts, eqb-true}
use Rattle.std.proofs.Math.Dec.{eqb-suc-zero}
use Rattle.std.proofs.lemmas.Bool.Decides.{nat_tests}
use Rattle.std.specs.Prelude.{IfOk, IfErr}
use Rattle.std.specs.List.{list_all, AllByRecursion}
use Rattle.std.specs.Int.{w32, w64, to_be_bytes}
use Rattle.std.proofs.lemmas.List.{append-nil, nil_from_length}
use Rattle.std.proofs.lemmas.List.Elements.{All-from_recursion, recursion_from_All, All-weaker}
use Rattle.byte_fields.specs.Unread.{Unread}
use Rattle.rail_types.specs.declared.limits.TheConstants.{MAX_OWNER_BYTES, MAX_STOPS, MAX_DWELL, MAX_PINNED_RUNS, MAX_HOLD_CLAIMS, MAX_REASON_BYTES}
use Rattle.rail_types.specs.declared.paths.Claim.{Claim}
use Rattle.rail_types.specs.Occupation.{HasTicks}
use Rattle.std.specs.List.{flat_map}
use Rattle.std.proofs.lemmas.List.Concat.{flat_map-cons}
use Rattle.rail_types.specs.declared.paths.Path.{Path}
use Rattle.rail_types.specs.declared.paths.Run.{Run}
use Rattle.rail_types.specs.declared.trains.Stop.{Stop}
use Rattle.rail_types.specs.declared.trains.Train.{Train}
use Rattle.rail_types.specs.declared.trains.Request.{Request}
use Rattle.rail_types.specs.declared.entries.Wanted.TheVariants.{Asked, Pinned}
use Rattle.rail_types.specs.declared.entries.Deed.{Deed}
use Rattle.rail_types.specs.declared.entries.Deed.TheVariants.{Hold, Grant, Free}
use Rattle.rail_types.specs.declared.entries.Entry.{Entry}
use Rattle.rail_types.specs.Limits.{IsClientName, IsNameByte, IsRunWithinLimits, IsClaimWithinLimits, IsHoldWithinLimits, IsDeedWithinLimits, is_name_byte}
use Rattle.entry_codec.specs.declared.faults.EntryFault.{EntryFault}
use Rattle.entry_codec.specs.declared.faults.EntryFault.TheVariants.{NotEntry, Memory}
use Rattle.entry_codec.specs.declared.kinds.Kind.{Kind}
use Rattle.entry_codec.specs.declared.kinds.Kind.TheVariants as kind
use Rattle.entry_codec.specs.Body.{body_of, kind_byte, deed_text, claim_text, name_text, list_text, train_text, window_text, stop_text, run_text}
use Rattle.entry_codec.specs.Within.{IsFourBytes, IsDeedOfItsTypes, HasBody}
use Rattle.entry_codec.specs.Reading.{meant, any_bytes, before_all, reasoned_field, kind_of, byte_field, name_field, list_field, stop_field, run_field, asked_field, pinned_field, kind_field, deed_field, entry_field, whole, entry_at, after, Gives, GivesAll, Refuses}
use Rattle.entry_codec.proofs.Readers.{IsBytes, Taken, joined, Spells, with_text, Reads, then_takes, then_spells, made_takes, made_spells, ok_is, under_limits, meant_reads}
use Rattle.entry_codec.proofs.Items.{after_ok}
use Rattle.entry_codec.proofs.Numbers.{taken_bytes, byte_reads, number_reads, name_reads, IsNameOf}
use Rattle.entry_codec.proofs.Parts.{chosen, same_some, nothing_is, limited_reads, position_reads, window_reads, claim_reads, IsClaim, AreNext, claims_read, next_claims, next_apart, are_next, all_behind, train_reads, stop_reads, IsStop, run_reads, IsRun, IsListOf, list_reads}

-- ---- the lists of a grant

pub stops_read : Reads (list_field 0 MAX_STOPS stop_field) (list_text stop_text) (IsListOf 0 MAX_STOPS IsStop)
stops_read = list_reads 0 MAX_STOPS (omega arith) stop_field stop_text IsStop stop_reads

pub runs_read : (most : ℕ) → most < 2 ^ 32 → Reads (list_field 1 most run_field) (list_text run_text) (IsListOf 1 most IsRun)
runs_read most lt = list_reads 1 most lt run_field run_text IsRun run_reads

pub each_fits : (runs : List Run) → AllByRecursion IsRun runs → All (λ run. IsFourBytes run.block) runs × All IsRunWithinLimits runs
each_fits runs h =
    let all = All-from_recursion IsRun runs h in
    (All-weaker IsRun (λ run. IsFourBytes run.block) (λ run p. p.0) runs all, All-weaker IsRun IsRunWithinLimits (λ run p. p.1) runs all)

pub runs_fit : (runs : List Run) → All (λ run. IsFourBytes run.block) runs → All IsRunWithinLimits runs → AllByRecursion IsRun runs
runs_fit runs blocks ticks = recursion_from_All IsRun runs (λ k d lt. (blocks k d lt, ticks k d lt))

-- ---- kinds

-- the kind of a deed
abbrev pub what : Deed → Kind
what (Hold claims []) = kind.Hold
what (Hold claims (byte ∷ others)) = kind.Reasoned
what (Grant (Asked request) path) = kind.Asked
what (Grant Pinned path) = kind.Pinned
what (Free entry) = kind.Free

abbrev pub byte_of : Kind → ℕ
byte_of kind.Hold = 1
byte_of kind.Asked = 2
byte_of kind.Pinned = 3
byte_of kind.Free = 4
byte_of kind.Reasoned = 5

pub what_is : (deed : Deed) → byte_of (what deed) ≡ kind_byte deed
what_is (Hold claims []) = refl
what_is (Hold claims (byte ∷ others)) = refl
what_is (Grant (Asked request) path) = refl
what_is (Grant Pinned path) = refl
what_is (Free entry) = refl

next_kind : (a n : ℕ) (k found : Kind) (others : Option Kind) → byte_of k ≡ n → (others ≡ Some found → a ≡ byte_of found) → cond (eqb a n) (Some k) others ≡ Some found → a ≡ byte_of found
next_kind a n k found others named else e =
    elim (chosen (eqb a n) (Some k) others (Some found) e) [
      | inl hit ↦ eqb-true a n hit.0 ∙ sym named ∙ ap byte_of (same_some k found hit.1)
      | inr miss ↦ else miss.1
    ]

kind_meant : (a : ℕ) (k : Kind) → kind_of a ≡ Some k → a ≡ byte_of k
kind_meant a k e =
    next_kind a 1 kind.Hold k _ refl (next_kind a 2 kind.Asked k _ refl (next_kind a 3 kind.Pinned k _ refl (next_kind a 4 kind.Free k _ refl (next_kind a 5 kind.Reasoned k _ refl (λ none_is. absurd (nothing_is k none_is)))))) e

pub kind_spelled : (k : Kind) → (byte_of k < 256) × (kind_of (byte_of k) ≡ Some k)
kind_spelled kind.Hold = (omega arith, refl)
kind_spelled kind.Asked = (omega arith, refl)
kind_spelled kind.Pinned = (omega arith, refl)
kind_spelled kind.Free = (omega arith, refl)
kind_spelled kind.Reasoned = (omega arith, refl)

kind_meaning_reads : Reads (meant kind_of byte_field) (λ k. byte_of k ∷ []) (λ k. Unit {0})
kind_meaning_reads =
    meant_reads byte_reads kind_of (λ k. byte_of k ∷ []) (λ k. Unit {0})
    (λ a k l e. (ap (λ (n : ℕ). n ∷ []) (kind_meant a k e), tt))
    (λ k l. (byte_of k, (kind_spelled k).0, refl, (kind_spelled k).1))

kind_takes : (old new : Unread) (x : Kind) → IsBytes old.left → kind_field old ≡ Ok (x, new) → Taken old.left (byte_of x ∷ []) new.left × Unit {0}
unfolding kind_field
kind_takes old new x fits e = kind_meaning_reads.takes old new x fits e

kind_again : (x : Kind) → Unit {0} → Spells (byte_of x ∷ []) kind_field x
unfolding kind_field
kind_again x limits = kind_meaning_reads.again x limits

pub kind_reads : Reads kind_field (λ k. byte_of k ∷ []) (λ k. Unit {0})
kind_reads = record { takes = kind_takes; again = kind_again }

-- ---- deeds

abbrev pub IsDeed : Deed → Type 0
IsDeed deed = IsDeedWithinLimits deed × IsDeedOfItsTypes deed

pinned_takes : (old new : Unread) (x : Deed) → IsBytes old.left → pinned_field old ≡ Ok (x, new) → Taken old.left (deed_text x) new.left × (IsDeed x × (what x ≡ kind.Pinned))
unfolding pinned_field
pinned_takes old new x fits e =
    then_takes train_reads _ _ old (x, new) fits e (λ train mid1 t1 l1 e1.
    then_takes (runs_read MAX_PINNED_RUNS (omega arith)) _ _ mid1 (x, new) t1.fits e1 (λ runs mid2 t2 l2 e2.
    let each = each_fits runs l2.each in
    made_takes old mid2 new (Grant Pinned (record { train = train; runs = runs })) x deed_text (λ deed. IsDeed deed × (what deed ≡ kind.Pinned)) e2 (joined t1 t2)
    ((record { train = l1; some = l2.some; count = l2.count; runs = each.1 }, each.0), refl)))

asked_takes : (old new : Unread) (x : Deed) → IsBytes old.left → asked_field old ≡ Ok (x, new) → Taken old.left (deed_text x) new.left × (IsDeed x × (what x ≡ kind.Asked))
unfolding asked_field
asked_takes old new x fits e =
    then_takes train_reads _ _ old (x, new) fits e (λ train mid1 t1 l1 e1.
    then_takes number_reads _ _ mid1 (x, new) t1.fits e1 (λ origin mid2 t2 l2 e2.
    then_takes number_reads _ _ mid2 (x, new) t2.fits e2 (λ destination mid3 t3 l3 e3.
    then_takes window_reads _ _ mid3 (x, new) t3.fits e3 (λ depart mid4 t4 l4 e4.
    then_takes window_reads _ _ mid4 (x, new) t4.fits e4 (λ arrive mid5 t5 l5 e5.
    then_takes stops_read _ _ mid5 (x, new) t5.fits e5 (λ stops mid6 t6 l6 e6.
    then_takes (runs_read (2 ^ 32 - 1) (omega arith)) _ _ mid6 (x, new) t6.fits e6 (λ runs mid7 t7 l7 e7.
    let each = each_fits runs l7.each in
    let all_stops = All-from_recursion IsStop stops l6.each in
    made_takes old mid7 new (Grant (Asked (record { train = train; origin = origin; destination = destination; depart = depart; arrive = arrive; stops = stops })) (record { train = train; runs = runs })) x deed_text
    (λ deed. IsDeed deed × (what deed ≡ kind.Asked)) e7 (joined (joined t1 (joined (joined (joined (joined t2 t3) t4) t5) t6)) t7) (
      (
        record {
          request = record { train = l1; depart = l4; arrive = l5; count = l6.count; dwells = All-weaker IsStop (λ stop. stop.dwell ≤ MAX_DWELL) (λ stop p. p.1) stops all_stops };
          train = refl;
          runs = record { train = l1; some = l7.some; count = l7.count; runs = each.1 };
        },
        (record { origin = l2; destination = l3; stops = All-weaker IsStop (λ stop. IsFourBytes stop.stop) (λ stop p. p.0) stops all_stops }, each.0),
      ),
      refl,
    ))))))))

pinned_again : (path : Path) → IsDeed (Grant Pinned path) → Spells (deed_text (Grant Pinned path)) pinned_field (Grant Pinned path)
unfolding pinned_field
pinned_again path limits =
    then_spells (train_reads.again path.train limits.0.train) _ (
    made_spells ((runs_read MAX_PINNED_RUNS (omega arith)).again path.runs (record { some = limits.0.some; count = limits.0.count; each = runs_fit path.runs limits.1 limits.0.runs })) _ (Grant Pinned path) refl)

regroup7 : (a b c d e f g : List ℕ) → a ++ (b ++ (c ++ (d ++ (e ++ (f ++ g))))) ≡ (a ++ ((((b ++ c) ++ d) ++ e) ++ f)) ++ g
regroup7 a b c d e f g = simp append_assoc

-- the request of an answered grant, which has the train of the path
abbrev asked_by : Request → Path → Deed
asked_by request path = Grant (Asked (record { train = path.train; origin = request.origin; destination = request.destination; depart = request.depart; arrive = request.arrive; stops = request.stops })) path

asked_is : (request : Request) (path : Path) → request.train ≡ path.train → asked_by request path ≡ Grant (Asked request) path
asked_is request path e = ap (λ (train : Train). Grant (Asked (record { train = train; origin = request.origin; destination = request.destination; depart = request.depart; arrive = request.arrive; stops = request.stops })) path) (sym e)

pub stops_fit : (stops : List Stop) → All (λ stop. IsFourBytes stop.stop) stops → All (λ stop. stop.dwell ≤ MAX_DWELL) stops → AllByRecursion IsStop stops
stops_fit stops names dwells = recursion_from_All IsStop stops (λ k d lt. (names k d lt, dwells k d lt))

asked_again : (request : Request) (path : Path) → IsDeed (Grant (Asked request) path) → Spells (deed_text (Grant (Asked request) path)) asked_field (Grant (Asked request) path)
unfolding asked_field
asked_again request path limits =
    with_text (regroup7 (train_text path.train) (to_be_bytes w32 request.origin) (to_be_bytes w32 request.destination) (window_text request.depart) (window_text request.arrive) (list_text stop_text request.stops) (list_text run_text path.runs)) (
    then_spells (train_reads.again path.train limits.0.runs.train) _ (
    then_spells (number_reads.again request.origin limits.1.0.origin) _ (
    then_spells (number_reads.again request.destination limits.1.0.destination) _ (
    then_spells (window_reads.again request.depart limits.0.request.depart) _ (
    then_spells (window_reads.again request.arrive limits.0.request.arrive) _ (
    then_spells (stops_read.again request.stops (record { some = omega arith; count = limits.0.request.count; each = stops_fit request.stops limits.1.0.stops limits.0.request.dwells })) _ (
    made_spells ((runs_read (2 ^ 32 - 1) (omega arith)).again path.runs (record { some = limits.0.runs.some; count = limits.0.runs.count; each = runs_fit path.runs limits.1.1 limits.0.runs.runs })) _ (Grant (Asked request) path) (asked_is request path limits.0.train))))))))

-- ---- holds

abbrev pub AreBytes : List ℕ → Type 0
AreBytes bytes = All (λ byte. byte < 2 ^ 8) bytes

each_byte : (bytes : List ℕ) → IsBytes bytes → AllByRecursion (λ (byte : ℕ). byte < 2 ^ 8) bytes
each_byte [] fits = tt
each_byte (byte ∷ bytes) fits = (omega (arith, fits 0), each_byte bytes (λ i. fits (suc i)))

pub are_bytes : (bytes : List ℕ) → IsBytes bytes → AreBytes bytes
are_bytes bytes fits = All-from_recursion (λ (byte : ℕ). byte < 2 ^ 8) bytes (each_byte bytes fits)

byte_there : (bytes : List ℕ) → AllByRecursion (λ (byte : ℕ). byte < 2 ^ 8) bytes → IsBytes bytes
byte_there [] each i = omega arith
byte_there (byte ∷ bytes) each zero = omega (arith, each.0)
byte_there (byte ∷ bytes) each (suc i) = byte_there bytes each.1 i

pub bytes_there : (bytes : List ℕ) → AreBytes bytes → IsBytes bytes
bytes_there bytes all = byte_there bytes (recursion_from_All (λ (byte : ℕ). byte < 2 ^ 8) bytes all)

abbrev pub IsReason : List ℕ → Type 0
IsReason reason = IsNameOf MAX_REASON_BYTES any_bytes reason × AreBytes reason

reason_takes : (old new : Unread) (x : List ℕ) → IsBytes old.left → name_field MAX_REASON_BYTES any_bytes old ≡ Ok (x, new) → Taken old.left (name_text x) new.left × IsReason x
reason_takes old new x fits e =
    let taken = (name_reads MAX_REASON_BYTES any_bytes (omega arith)).takes old new x fits e in
    let all = taken_bytes old.left (name_text x) new.left fits taken.0 in
    (taken.0, (taken.1, are_bytes x (λ i. all (suc i))))

pub reason_reads : Reads (name_field MAX_REASON_BYTES any_bytes) name_text IsReason
reason_reads = record { takes = reason_takes; again = λ x limits. (name_reads MAX_REASON_BYTES any_bytes (omega arith)).again x limits.0 }

-- a hold with a reason has its text and its kind
some_reason : (claims : List Claim) (reason : List ℕ) → 1 ≤ length reason → (name_text reason ++ list_text claim_text claims ≡ deed_text (Hold claims reason)) × (what (Hold claims reason) ≡ kind.Reasoned)
some_reason claims [] some = absurd (omega (arith, some))
some_reason claims (byte ∷ others) some = (refl, refl)

zones_fit : (claims : List Claim) → AllByRecursion IsClaim claims → All (λ claim. IsFourBytes claim.zone) claims
zones_fit claims h = All-weaker IsClaim (λ claim. IsFourBytes claim.zone) (λ claim p. p.0) claims (All-from_recursion IsClaim claims h)

pub hold_fits : (claims : List Claim) (reason : List ℕ) → AreNext before_all claims → (1 ≤ length claims) × (length claims ≤ MAX_HOLD_CLAIMS) → length reason ≤ MAX_REASON_BYTES → (reason ≡ [] → length claims ≡ 1)
    → AreBytes reason → IsDeed (Hold claims reason)
hold_fits claims reason next count short plain bytes =
    let each = next_claims before_all claims next in
    let all = All-from_recursion IsClaim claims each in (
      record {
        within = All-weaker IsClaim IsClaimWithinLimits (λ claim p. p.1) claims all;
        some = count.0;
        count = count.1;
        joined = record { ticks = All-weaker IsClaim (λ claim. HasTicks claim.span) (λ claim p. p.1.ordered) claims all; apart = next_apart before_all claims next };
        short = short;
        plain = plain;
      },
      (zones_fit claims each, bytes),
    )

pub hold_next : (claims : List Claim) (reason : List ℕ) → IsHoldWithinLimits claims reason → All (λ claim. IsFourBytes claim.zone) claims → AreNext before_all claims
hold_next claims reason limits zones =
    let each = recursion_from_All IsClaim claims (λ k d lt. (zones k d lt, limits.within k d lt)) in
    are_next before_all claims (λ k d lt. all_behind _ (limits.within k d lt)) each limits.joined.apart

reasoned_takes : (old new : Unread) (x : Deed) → IsBytes old.left → reasoned_field old ≡ Ok (x, new) → Taken old.left (deed_text x) new.left × (IsDeed x × (what x ≡ kind.Reasoned))
unfolding reasoned_field
reasoned_takes old new x fits e =
    then_takes reason_reads _ _ old (x, new) fits e (λ reason mid1 t1 l1 e1.
    then_takes (limited_reads 1 MAX_HOLD_CLAIMS (omega arith)) _ _ mid1 (x, new) t1.fits e1 (λ count mid2 t2 l2 e2.
    then_takes (claims_read count before_all) _ _ mid2 (x, new) t2.fits e2 (λ claims mid3 t3 l3 e3.
    let counted : Taken mid1.left (to_be_bytes w32 (length claims)) mid2.left = subst (λ (n : ℕ). Taken mid1.left (to_be_bytes w32 n) mid2.left) (sym l3.0) t2 in
    let fit = hold_fits claims reason l3.1 (omega (arith, l2.0, l3.0), omega (arith, l2.1, l3.0)) l1.0.count (λ none_is. absurd (omega (arith, l1.0.some, ap length none_is))) l1.1 in
    let told = some_reason claims reason l1.0.some in
    made_takes old mid3 new (Hold claims reason) x deed_text (λ deed. IsDeed deed × (what deed ≡ kind.Reasoned)) e3
    (subst (λ (w : List ℕ). Taken old.left w mid3.left) told.0 (joined t1 (joined counted t3))) (fit, told.1))))

reasoned_again : (claims : List Claim) (byte : ℕ) (others : List ℕ) → IsDeed (Hold claims (byte ∷ others)) → Spells (deed_text (Hold claims (byte ∷ others))) reasoned_field (Hold claims (byte ∷ others))
unfolding reasoned_field
reasoned_again claims byte others limits =
    then_spells (reason_reads.again (byte ∷ others) (record { some = omega arith; count = limits.0.short; test_is = refl }, limits.1.1)) _ (
    then_spells ((limited_reads 1 MAX_HOLD_CLAIMS (omega arith)).again (length claims) (limits.0.some, limits.0.count)) _ (
    made_spells ((claims_read (length claims) before_all).again claims (refl, hold_next claims (byte ∷ others) limits.0 limits.1.0)) _ (Hold claims (byte ∷ others)) refl))

one_text : (claim : Claim) → claim_text claim ≡ flat_map claim_text (claim ∷ [])
one_text claim = sym (flat_map-cons claim_text claim [] ∙ append-nil (claim_text claim))

pub plain_fits : (claim : Claim) → IsClaim claim → IsDeed (Hold (claim ∷ []) [])
plain_fits claim l = hold_fits (claim ∷ []) [] ((l, all_behind claim l.1), tt) (omega arith, omega arith) (omega arith) (λ none_is. refl) (are_bytes [] (λ i. omega arith))

plain_again : (claims : List Claim) → IsDeed (Hold claims []) → Spells (deed_text (Hold claims [])) (deed_field kind.Hold) (Hold claims [])
unfolding deed_field
plain_again [] limits = absurd (omega (arith, limits.0.some))
plain_again (claim ∷ []) limits =
    let zone = (recursion_from_All (λ (claim : Claim). IsFourBytes claim.zone) (claim ∷ []) limits.1.0).0 in
    let within = (recursion_from_All IsClaimWithinLimits (claim ∷ []) limits.0.within).0 in
    with_text (one_text claim) (made_spells (claim_reads.again claim (zone, within)) _ (Hold (claim ∷ []) []) refl)
plain_again (claim ∷ other ∷ claims) limits = absurd (omega (arith, limits.0.plain refl))

deed_takes : (k : Kind) (old new : Unread) (x : Deed) → IsBytes old.left → deed_field k old ≡ Ok (x, new) → Taken old.left (deed_text x) new.left × (IsDeed x × (what x ≡ k))
unfolding deed_field
deed_takes kind.Hold old new x fits e =
    then_takes claim_reads _ _ old (x, new) fits e (λ claim mid t l e1.
    made_takes old mid new (Hold (claim ∷ []) []) x deed_text (λ deed. IsDeed deed × (what deed ≡ kind.Hold)) e1 (subst (λ (w : List ℕ). Taken old.left w mid.left) (one_text claim) t) (plain_fits claim l, refl))
deed_takes kind.Asked old new x fits e = asked_takes old new x fits e
deed_takes kind.Pinned old new x fits e = pinned_takes old new x fits e
deed_takes kind.Free old new x fits e =
    then_takes position_reads _ _ old (x, new) fits e (λ entry mid t l e1.
    made_takes old mid new (Free entry) x deed_text (λ deed. IsDeed deed × (what deed ≡ kind.Free)) e1 t ((l, tt), refl))
deed_takes kind.Reasoned old new x fits e = reasoned_takes old new x fits e

deed_again : (x : Deed) → IsDeed x → Spells (deed_text x) (deed_field (what x)) x
unfolding deed_field
deed_again (Hold claims []) limits = plain_again claims limits
deed_again (Hold claims (byte ∷ others)) limits = reasoned_again claims byte others limits
deed_again (Grant (Asked request) path) limits = asked_again request path limits
deed_again (Grant Pinned path) limits = pinned_again path limits
deed_again (Free entry) limits = made_spells (position_reads.again entry limits.0) _ (Free entry) refl

pub deed_reads : (k : Kind) → Reads (deed_field k) deed_text (λ deed. IsDeed deed × (what deed ≡ k))
deed_reads k = record {
  takes = deed_takes k;
  again = λ x limits. subst (λ (kind : Kind). Spells (deed_text x) (deed_field kind) x) limits.1 (deed_again x limits.0);
}

-- ---- entries

name_byte_passes : (byte : ℕ) → is_name_byte byte ≡ true → IsNameByte byte
name_byte_passes byte e = grind (arith, nat_tests)

name_byte_is : (byte : ℕ) → IsNameByte byte → is_name_byte byte ≡ true
name_byte_is byte h = grind (arith, nat_tests)

name_bytes_pass : (name : List ℕ) → list_all is_name_byte name ≡ true → AllByRecursion IsNameByte name
name_bytes_pass [] e = tt
name_bytes_pass (x ∷ xs) e = let b = and_parts (is_name_byte x) (list_all is_name_byte xs) e in (name_byte_passes x b.0, name_bytes_pass xs b.1)

pub name_bytes_are : (name : List ℕ) → AllByRecursion IsNameByte name → list_all is_name_byte name ≡ true
name_bytes_are [] h = refl
name_bytes_are (x ∷ xs) h = rw (name_byte_is x h.0, name_bytes_are xs h.1) refl

pub owner_takes : (name : List ℕ) → IsNameOf MAX_OWNER_BYTES (list_all is_name_byte) name → IsClientName name
owner_takes name h = record { some = h.some; short = h.count; bytes = All-from_recursion IsNameByte name (name_bytes_pass name h.test_is) }

pub owner_back : (name : List ℕ) → IsClientName name → IsNameOf MAX_OWNER_BYTES (list_all is_name_byte) name
owner_back name h = record { some = h.some; count = h.short; test_is = name_bytes_are name (recursion_from_All IsNameByte name h.bytes) }

pub owner_reads : Reads (name_field MAX_OWNER_BYTES (list_all is_name_byte)) name_text IsClientName
owner_reads = under_limits (name_reads MAX_OWNER_BYTES (list_all is_name_byte) (omega arith)) IsClientName owner_takes owner_back

entry_takes : (old new : Unread) (x : Entry) → IsBytes old.left → entry_field old ≡ Ok (x, new) → Taken old.left (body_of x) new.left × HasBody x
unfolding entry_field
entry_takes old new x fits e =
    then_takes kind_reads _ _ old (x, new) fits e (λ k mid1 t1 l1 e1.
    then_takes position_reads _ _ mid1 (x, new) t1.fits e1 (λ number mid2 t2 l2 e2.
    then_takes number_reads _ _ mid2 (x, new) t2.fits e2 (λ line mid3 t3 l3 e3.
    then_takes owner_reads _ _ mid3 (x, new) t3.fits e3 (λ owner mid4 t4 l4 e4.
    then_takes (deed_reads k) _ _ mid4 (x, new) t4.fits e4 (λ deed mid5 t5 l5 e5.
    let named : byte_of k ≡ kind_byte deed = ap byte_of (sym l5.1) ∙ what_is deed in
    made_takes old mid5 new (record { owner = owner; number = number; line = line; deed = deed }) x body_of HasBody e5
    (joined (joined (joined (joined (subst (λ (n : ℕ). Taken old.left (n ∷ []) mid1.left) named t1) t2) t3) t4) t5)
    (record { limits = record { owner = l4; number = l2; deed = l5.0.0 }; line = l3; deed = l5.0.1 }))))))

regroup5 : (a b c d e : List ℕ) → a ++ (b ++ (c ++ (d ++ e))) ≡ (((a ++ b) ++ c) ++ d) ++ e
regroup5 a b c d e = simp append_assoc

entry_again : (x : Entry) → HasBody x → Spells (body_of x) entry_field x
unfolding entry_field
entry_again x has =
    with_text (regroup5 (kind_byte x.deed ∷ []) (to_be_bytes w64 x.number) (to_be_bytes w32 x.line) (name_text x.owner) (deed_text x.deed)) (
    then_spells (with_text (ap (λ (n : ℕ). n ∷ []) (what_is x.deed)) (kind_reads.again (what x.deed) tt)) _ (
    then_spells (position_reads.again x.number has.limits.number) _ (
    then_spells (number_reads.again x.line has.line) _ (
    then_spells (owner_reads.again x.owner has.limits.owner) _ (
    made_spells ((deed_reads (what x.deed)).again x.deed ((has.limits.deed, has.deed), refl)) _ x refl)))))

pub entry_reads : Reads entry_field body_of HasBody
entry_reads = record { takes = entry_takes; again = entry_again }

-- ---- whole bodies

guard_ended : (b : Bool) (x y : Entry) (at : ℕ) → cond b (Ok x) (Err at) ≡ Ok y → (b ≡ true) × (x ≡ y)
guard_ended true x y at e = (refl, cc)
guard_ended false x y at e = absurd cc

pub whole_ok : (read : Result (Entry × Unread) ℕ) (x : Entry) → whole read ≡ Ok x → (new : Unread) × (read ≡ Ok (x, new)) × (new.left ≡ [])
whole_ok (Err at) x e = absurd cc
whole_ok (Ok found) x e =
    let g = guard_ended (eqb (length found.1.left) 0) found.0 x found.1.at e in
    (found.1, ap (λ (v : Entry). Ok (v, found.1)) g.1, nil_from_length found.1.left (eqb-true _ _ g.0))

-- what is read is a body of the entry
pub body_is : (body : List ℕ) (x : Entry) → IsBytes body → entry_at body ≡ Ok x → HasBody x × (body ≡ body_of x)
unfolding entry_at
body_is body x fits e =
    let start : Unread = record { at = 0; left = body } in
    let a = whole_ok (entry_field start) x e in
    let b = entry_reads.takes start a.0 x fits a.1 in
    (b.1, b.0.parts ∙ ap (λ (rest : List ℕ). body_of x ++ rest) a.2 ∙ append-nil (body_of x))

-- the body of an entry is read
pub body_again : (body : List ℕ) (x : Entry) → HasBody x → body ≡ body_of x → entry_at body ≡ Ok x
unfolding entry_at
body_again body x has e = ap entry_at (e ∙ sym (append-nil (body_of x))) ∙ ap whole ((entry_reads.again x has).found 0 [])

-- no body begins the body of another entry
pub bodies_apart : (a b : Entry) (x y : List ℕ) → HasBody a → HasBody b → body_of a ++ x ≡ body_of b ++ y → (a ≡ b) × (x ≡ y)
bodies_apart a b x y has_a has_b e =
    let first = (entry_reads.again a has_a).found 0 x in
    let second = (entry_reads.again b has_b).found 0 y in
    let same = ok_is (a, record { at = 0 + length (body_of a); left = x }) (b, record { at = 0 + length (body_of b); left = y }) (sym first ∙ ap (λ (left : List ℕ). entry_field (record { at = 0; left = left })) e ∙ second) in
    (ap (λ (p : Entry × Unread). p.0) same, ap (λ (p : Entry × Unread). p.1.left) same)

-- ---- where a refusal is placed

pub missing_at : (entry : Entry) (count : ℕ) → HasBody entry → count < length (body_of entry) → entry_at (take count (body_of entry)) ≡ Err count
unfolding entry_at
missing_at entry count has lt = ap whole ((entry_reads.again entry has).short 0 count lt) ∙ ap (λ (n : ℕ). Err n) (omega arith)

surplus_whole : (entry : Entry) (at : ℕ) (rest : List ℕ) → rest ≢ [] → whole (Ok (entry, record { at = at; left = rest })) ≡ Err at
surplus_whole entry at [] some = absurd (some refl)
surplus_whole entry at (x ∷ xs) some = rw (eqb-suc-zero (length xs)) refl

pub surplus_at : (entry : Entry) (rest : List ℕ) → HasBody entry → rest ≢ [] → entry_at (body_of entry ++ rest) ≡ Err (length (body_of entry))
unfolding entry_at
surplus_at entry rest has some = ap whole ((entry_reads.again entry has).found 0 rest) ∙ surplus_whole entry (0 + length (body_of entry)) rest some ∙ ap (λ (n : ℕ). Err n) (omega arith)

-- ---- the clauses of a reader

abbrev ended_or : Entry → ℕ → List ℕ → Result Entry ℕ
ended_or x at rest = cond (eqb (length rest) 0) (Ok x) (Err at)

pub whole_ended : (x : Entry) (left : Unread) → left.left ≡ [] → whole (Ok (x, left)) ≡ Ok x
whole_ended x left ended = ap (λ (rest : List ℕ). ended_or x left.at rest) ended

whole_of : (read : Result (Entry × Unread) ℕ) (left : Unread) → after read ≡ Ok left → left.left ≡ [] → (x : Entry) × (whole read ≡ Ok x)
whole_of read left e ended =
    let a = after_ok read left e in
    (a.0, ap whole a.1 ∙ whole_ended a.0 left ended)

-- a body that was passed over to its end is an entry's
pub passed_all : (body : List ℕ) (start left : Unread) → start.at ≡ 0 → start.left ≡ body → after (entry_field start) ≡ Ok left → left.left ≡ [] → (x : Entry) × (entry_at body ≡ Ok x)
unfolding entry_at
passed_all body start left at all e ended =
    let same : start ≡ record { at = 0; left = body } = rw (← at, ← all) refl in
    whole_of (entry_field (record { at = 0; left = body })) left (sym (ap (λ (u : Unread). after (entry_field u)) same) ∙ e) ended

abbrev wrong_entry : ℕ → Result Entry ℕ
wrong_entry at = Err at

no_entry : (x : Entry) (at : ℕ) → wrong_entry at ≡ Ok x → ⊥
no_entry x at e = absurd cc

whole_value : (read : Result (Entry × Unread) ℕ) (x y : Entry) (left : Unread) → read ≡ Ok (y, left) → whole read ≡ Ok x → ◌≡◌ {A = Result Entry ℕ} (Ok x) (Ok y)
whole_value read x y left e all =
    let g = whole_ok read x all in
    ap (λ (p : Entry × Unread). Ok p.0) (ok_is (x, g.0) (y, left) (sym g.1 ∙ e))

pub err_not_ok : (read : Result (Entry × Unread) ℕ) (x : Entry) (at : ℕ) → read ≡ Err at → whole read ≡ Ok x → ⊥
err_not_ok read x at e all = absurd (no_entry x at (sym (ap whole e) ∙ all))

-- what is read behind the passing is what the body spells
pub read_after : (body : List ℕ) (start left : Unread) (result : Result Entry EntryFault) → start.at ≡ 0 → start.left ≡ body → (passed : (x : Entry) × (entry_at body ≡ Ok x)) → Gives left result (entry_field start)
    → GivesAll result (entry_at body) × ((at : ℕ) → entry_at body ≡ Err at → ⊥)
unfolding entry_at
read_after body start left (Ok entry) at all passed given =
    let same : start ≡ record { at = 0; left = body } = rw (← at, ← all) refl in
    let read = entry_field (record { at = 0; left = body }) in
    let given' = sym (ap entry_field same) ∙ given in
    (passed.1 ∙ whole_value read passed.0 entry left given' passed.1, λ n e. no_entry passed.0 n (sym e ∙ passed.1))
read_after body start left (Err Memory) at all passed given = (tt, λ n e. no_entry passed.0 n (sym e ∙ passed.1))
read_after body start left (Err (NotEntry n)) at all passed given =
    let same : start ≡ record { at = 0; left = body } = rw (← at, ← all) refl in
    let given' = sym (ap entry_field same) ∙ given in
    absurd (err_not_ok (entry_field (record { at = 0; left = body })) passed.0 n given' passed.1)

pub is_found : (body : List ℕ) (result : Result Entry EntryFault) → IsBytes body → GivesAll result (entry_at body) → IfOk result (λ entry. HasBody entry × (body ≡ body_of entry))
is_found body (Ok entry) fits given = body_is body entry fits given
is_found body (Err fault) fits given = tt

pub is_only : (body : List ℕ) (result : Result Entry EntryFault) → GivesAll result (entry_at body) → (entry : Entry) → HasBody entry → body ≡ body_of entry → GivesAll result (Ok entry)
is_only body (Ok other) given entry has e = sym (body_again body entry has e) ∙ given
is_only body (Err Memory) given entry has e = tt
is_only body (Err (NotEntry at)) given entry has e = sym (body_again body entry has e) ∙ given

pub ok_not_err : (x : Entry) (at : ℕ) → Ok x ≡ Err at → ⊥
ok_not_err x at e = absurd cc

abbrev memory_wanted : Result Entry EntryFault
memory_wanted = Err Memory

other_fault : (at : ℕ) → memory_wanted ≡ Err (NotEntry at) → ⊥
other_fault at e = absurd cc

ok_or_err : (read : Result Entry ℕ) → ((at : ℕ) → read ≡ Err at → ⊥) → (x : Entry) × (read ≡ Ok x)
ok_or_err (Ok x) never = (x, refl)
ok_or_err (Err at) never = absurd (never at refl)

pub is_none : (body : List ℕ) (result : Result Entry EntryFault) → IsBytes body → GivesAll result (entry_at body) → ((at : ℕ) → entry_at body ≡ Err at → result ≡ Err (NotEntry at)) → IfErr result (λ fault. Refuses fault body)
is_none body (Ok entry) fits given wrong = tt
is_none body (Err Memory) fits given wrong =
    let x = ok_or_err (entry_at body) (λ at e. absurd (other_fault at (wrong at e))) in
    let found = body_is body x.0 fits x.1 in
    (x.0, found.0, found.1)
is_none body (Err (NotEntry at)) fits given wrong = λ entry has e. ok_not_err entry at (sym (body_again body entry has e) ∙ given)

pub none_has : (body : List ℕ) (at : ℕ) → entry_at body ≡ Err at → (entry : Entry) → HasBody entry → body ≡ body_of entry → ⊥
none_has body at wrong entry has e = ok_not_err entry at (sym (body_again body entry has e) ∙ wrong)
