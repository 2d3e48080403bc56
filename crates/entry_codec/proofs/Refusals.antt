-- An entry's body has its fields, and what is no entry's body is wrong at the first wrong field.
use Rattle.std.proofs.Common.{◌≡◌, ◌≢◌, ℕ, zero, suc, ◌+◌, ◌-◌, ◌^◌, ◌<◌, ◌≤◌, ◌⊎◌, inl, inr, Bool, true, false, cond, eqb, All, List, [], ◌∷◌, ◌++◌, length, take, Result, Ok, Err, refl, sym, ap, subst, ◌∙◌, append_assoc, arith, length-append}
use Rattle.std.specs.List.{list_all, flat_map, AllByRecursion}
use Rattle.std.specs.Int.{w32, w64, to_be_bytes}
use Rattle.std.proofs.lemmas.List.{append-nil, length-replicate, length-take-le}
use Rattle.std.proofs.lemmas.List.Elements.{All-from_recursion, recursion_from_All, All-weaker}
use Rattle.std.proofs.lemmas.List.Concat.{flat_map-cons}
use Rattle.std.proofs.Math.Dec.{eqb-suc-zero}
use Rattle.byte_fields.specs.Unread.{Unread}
use Rattle.rail_types.specs.declared.limits.TheConstants.{MAX_NUMBER, MAX_OWNER_BYTES, MAX_STOPS, MAX_DWELL, MAX_PINNED_RUNS, MAX_HOLD_CLAIMS, MAX_REASON_BYTES}
use Rattle.rail_types.specs.Limits.{is_between, is_name_byte, IsRequestWithinLimits, IsTrainWithinLimits, IsDeedWithinLimits}
use Rattle.rail_types.specs.declared.paths.Path.{Path}
use Rattle.rail_types.specs.declared.paths.Claim.{Claim}
use Rattle.rail_types.specs.declared.paths.Window.{Window}
use Rattle.rail_types.specs.declared.paths.Run.{Run}
use Rattle.rail_types.specs.declared.trains.Train.{Train}
use Rattle.rail_types.specs.declared.trains.Stop.{Stop}
use Rattle.rail_types.specs.declared.trains.Request.{Request}
use Rattle.rail_types.specs.declared.entries.Wanted.TheVariants.{Asked, Pinned}
use Rattle.rail_types.specs.declared.entries.Deed.{Deed}
use Rattle.rail_types.specs.declared.entries.Deed.TheVariants.{Hold, Grant, Free}
use Rattle.rail_types.specs.declared.entries.Entry.{Entry}
use Rattle.entry_codec.specs.declared.faults.EntryFault.{EntryFault}
use Rattle.entry_codec.specs.declared.faults.EntryFault.TheVariants.{NotEntry}
use Rattle.entry_codec.specs.declared.kinds.Kind.{Kind}
use Rattle.entry_codec.specs.declared.kinds.Kind.TheVariants as kind
use Rattle.entry_codec.specs.Body.{body_of, kind_byte, deed_text, name_text, list_text, train_text, window_text, wish_text, claim_text, stop_text, run_text}
use Rattle.entry_codec.specs.Within.{HasBody, IsFourBytes, IsWishOfItsTypes, IsDeedOfItsTypes, HasOneIfPlain, HasItsTrain, IsFormed}
use Rattle.entry_codec.specs.Reading.{done, limited_field, kind_of, before_all, any_bytes, byte_field, name_field, list_field, stop_field, run_field, asked_field, pinned_field, reasoned_field, kind_field, deed_field, entry_field, whole, entry_at, GivesAll}
use Rattle.entry_codec.specs.Places.{Field, bytes_of, number_of, name_fields, window_fields, stop_fields, run_fields, train_fields, claim_fields, claims_fields, list_fields, hold_fields, wish_fields, deed_fields, fields_of, NoneIsRight, StopsAt, IsWrongAt}
use Rattle.entry_codec.proofs.Readers.{IsBytes, ok_is}
use Rattle.entry_codec.proofs.Numbers.{is_between-true, between, IsNameOf}
use Rattle.entry_codec.proofs.Parts.{IsStop, IsRun, IsClaim, IsListOf}
use Rattle.entry_codec.proofs.Entries.{byte_of, what, what_is, kind_reads, owner_takes, owner_back, entry_reads, body_is, body_again, hold_fits, hold_next, plain_fits, IsDeed, IsReason, reason_reads, AreBytes, are_bytes, bytes_there, each_fits, runs_fit, stops_fit}
use Rattle.entry_codec.proofs.Stops.{Begins, AreRight, right_both, right_parts, bytes_both, Places, Cause, reach, Later, Onward, AnyForm, of_form, Part, done_later, then_later, done_onward, then_onward, last_onward, done_places, then_stops, then_places, last_places, lift_places, MeansBytes, meant_means, atom_part}
use Rattle.entry_codec.proofs.Wrongs.{byte_means, number_part, position_part, limited_part, window_part, train_part, claim_part, stop_part, run_part, name_part, formed_name_part, any_name, name_places_in, list_part, claims_places, claims_right, claims_later, claims_onward, claims_full, claims_bytes, each_right, each_bytes, begins_front, begins_past, any_items, all_any, StopForm, RunForm, ClaimForm}

-- ---- deeds of one kind

abbrev pub IsFormedDeed : Deed → Type 0
IsFormedDeed deed = IsDeedOfItsTypes deed × HasOneIfPlain deed

abbrev pub DeedOf : Kind → Type 0
DeedOf k = (deed : Deed) × (kind_byte deed ≡ byte_of k) × IsFormedDeed deed

abbrev pub fields_in : (k : Kind) → DeedOf k → List Field
fields_in k one = deed_fields one.0

abbrev any_run : Run
any_run = record { block = 0; enter = before_all.span.from; leave = before_all.span.from; stops = true }

abbrev any_stop : Stop
any_stop = record { stop = 0; dwell = 0 }

abbrev any_window : Window
any_window = record { from = before_all.span.from; to = before_all.span.from }

abbrev any_train : Train
any_train = record { name = []; length_m = 0; speed = 0; accel = 0; brake = 0; allowance = 0 }

any_bytes_each : (count : ℕ) → AllByRecursion (λ (byte : ℕ). byte < 2 ^ 8) (any_name count)
any_bytes_each zero = tt
any_bytes_each (suc count) = (omega arith, any_bytes_each count)

any_bytes_fit : (count : ℕ) → AreBytes (any_name count)
any_bytes_fit count = All-from_recursion (λ (byte : ℕ). byte < 2 ^ 8) (any_name count) (any_bytes_each count)

runs_part : (most : ℕ) → most < 2 ^ 32 → Part (list_field 1 most run_field) (list_fields 1 most run_fields) (list_text run_text) (IsListOf 1 most IsRun) (AllByRecursion RunForm)
runs_part most lt = list_part 1 most lt run_field run_fields run_text IsRun RunForm run_part any_run (omega arith)

stops_part : Part (list_field 0 MAX_STOPS stop_field) (list_fields 0 MAX_STOPS stop_fields) (list_text stop_text) (IsListOf 0 MAX_STOPS IsStop) (AllByRecursion StopForm)
stops_part = list_part 0 MAX_STOPS (omega arith) stop_field stop_fields stop_text IsStop StopForm stop_part any_stop (omega arith)

abbrev StopNames : List Stop → Type 0
StopNames stops = All (λ stop. IsFourBytes stop.stop) stops

abbrev RunNames : List Run → Type 0
RunNames runs = All (λ run. IsFourBytes run.block) runs

stop_names : (stops : List Stop) → AllByRecursion StopForm stops → StopNames stops
stop_names stops each = All-from_recursion StopForm stops each

run_names : (runs : List Run) → AllByRecursion RunForm runs → RunNames runs
run_names runs each = All-from_recursion RunForm runs each

all_stops : (stops : List Stop) → StopNames stops → AllByRecursion StopForm stops
all_stops stops names = recursion_from_All StopForm stops names

all_runs : (runs : List Run) → RunNames runs → AllByRecursion RunForm runs
all_runs runs names = recursion_from_All RunForm runs names

abbrev pinned_by : (train : Train) (runs : List Run) → AllByRecursion RunForm runs → DeedOf kind.Pinned
pinned_by train runs each = (Grant Pinned (record { train = train; runs = runs }), refl, (run_names runs each, tt))

pinned_places : Places (fields_in kind.Pinned) [] pinned_field
unfolding pinned_field
pinned_places =
    then_places train_part (fields_in kind.Pinned) [] (λ train f. (pinned_by train [] tt, list_fields 1 MAX_PINNED_RUNS run_fields [], refl)) _ (λ train l1.
    then_places (runs_part MAX_PINNED_RUNS (omega arith)) (fields_in kind.Pinned) (train_fields train) (λ runs f. (pinned_by train runs f, [], sym (append-nil (train_fields train ++ list_fields 1 MAX_PINNED_RUNS run_fields runs)))) _ (λ runs l2. done_places (fields_in kind.Pinned) _ _))

pinned_later : Later pinned_field
unfolding pinned_field
pinned_later = then_later train_part.later _ (λ train. then_later (runs_part MAX_PINNED_RUNS (omega arith)).later _ (λ runs. done_later _))

pinned_onward : (path : Path) → RunNames path.runs → Onward pinned_field (train_fields path.train ++ list_fields 1 MAX_PINNED_RUNS run_fields path.runs)
unfolding pinned_field
pinned_onward path names =
    then_onward train_part _ (λ train. then_later (runs_part MAX_PINNED_RUNS (omega arith)).later _ (λ runs. done_later _)) path.train tt (list_fields 1 MAX_PINNED_RUNS run_fields path.runs) (λ l1.
    last_onward ((runs_part MAX_PINNED_RUNS (omega arith)).onward path.runs (all_runs path.runs names)) _)

abbrev asked_of : (train : Train) (origin destination : ℕ) (depart arrive : Window) (stops : List Stop) (runs : List Run) → IsFourBytes origin → IsFourBytes destination → AllByRecursion StopForm stops → AllByRecursion RunForm runs → DeedOf kind.Asked
asked_of train origin destination depart arrive stops runs f g each_stop each_run = (
  Grant (Asked (record { train = train; origin = origin; destination = destination; depart = depart; arrive = arrive; stops = stops })) (record { train = train; runs = runs }),
  refl,
  ((record { origin = f; destination = g; stops = stop_names stops each_stop }, run_names runs each_run), tt),
)

asked_places : Places (fields_in kind.Asked) [] asked_field
unfolding asked_field
asked_places =
    let g = fields_in kind.Asked in
    then_places train_part g [] (λ train f. (asked_of train 0 0 any_window any_window [] [] (omega arith) (omega arith) tt tt, _, refl)) _ (λ train l1.
    then_places number_part g _ (λ origin f. (asked_of train origin 0 any_window any_window [] [] f (omega arith) tt tt, _, refl)) _ (λ origin l2.
    then_places number_part g _ (λ destination f. (asked_of train origin destination any_window any_window [] [] l2 f tt tt, _, refl)) _ (λ destination l3.
    then_places window_part g _ (λ depart f. (asked_of train origin destination depart any_window [] [] l2 l3 tt tt, _, refl)) _ (λ depart l4.
    then_places window_part g _ (λ arrive f. (asked_of train origin destination depart arrive [] [] l2 l3 tt tt, _, refl)) _ (λ arrive l5.
    then_places stops_part g _ (λ stops f. (asked_of train origin destination depart arrive stops [] l2 l3 f tt, list_fields 1 (2 ^ 32 - 1) run_fields [], refl)) _ (λ stops l6.
    then_places (runs_part (2 ^ 32 - 1) (omega arith)) g _ (λ runs f. (asked_of train origin destination depart arrive stops runs l2 l3 (stops_part.form stops l6) f, [], sym (append-nil (fields_in kind.Asked (asked_of train origin destination depart arrive stops runs l2 l3 (stops_part.form stops l6) f))))) _ (λ runs l7. done_places g _ _)))))))

asked_later : Later asked_field
unfolding asked_field
asked_later = then_later train_part.later _ (λ train. then_later number_part.later _ (λ origin. then_later number_part.later _ (λ destination. then_later window_part.later _ (λ depart. then_later window_part.later _ (λ arrive. then_later stops_part.later _ (λ stops. then_later (runs_part (2 ^ 32 - 1) (omega arith)).later _ (λ runs. done_later _)))))))

fields_regrouped : (t o d w a s r : List Field) → t ++ (o ++ (d ++ (w ++ (a ++ (s ++ (r ++ [])))))) ≡ (t ++ (((o ++ (d ++ w)) ++ a) ++ s)) ++ r
fields_regrouped t o d w a s r = simp (append_assoc, append-nil)

asked_onward : (request : Request) (path : Path) → IsWishOfItsTypes request × RunNames path.runs → Onward asked_field (deed_fields (Grant (Asked request) path))
unfolding asked_field
asked_onward request path form =
    subst (λ (t : List Field). Onward asked_field t)
    (fields_regrouped (train_fields path.train) (number_of request.origin true ∷ []) (number_of request.destination true ∷ []) (window_fields request.depart) (window_fields request.arrive) (list_fields 0 MAX_STOPS stop_fields request.stops) (list_fields 1 (2 ^ 32 - 1) run_fields path.runs)) (
    then_onward train_part _ (λ train. then_later number_part.later _ (λ origin. then_later number_part.later _ (λ destination. then_later window_part.later _ (λ depart. then_later window_part.later _ (λ arrive. then_later stops_part.later _ (λ stops. then_later (runs_part (2 ^ 32 - 1) (omega arith)).later _ (λ runs. done_later _))))))) path.train tt _ (λ l1.
    then_onward number_part _ (λ origin. then_later number_part.later _ (λ destination. then_later window_part.later _ (λ depart. then_later window_part.later _ (λ arrive. then_later stops_part.later _ (λ stops. then_later (runs_part (2 ^ 32 - 1) (omega arith)).later _ (λ runs. done_later _)))))) request.origin form.0.origin _ (λ l2.
    then_onward number_part _ (λ destination. then_later window_part.later _ (λ depart. then_later window_part.later _ (λ arrive. then_later stops_part.later _ (λ stops. then_later (runs_part (2 ^ 32 - 1) (omega arith)).later _ (λ runs. done_later _))))) request.destination form.0.destination _ (λ l3.
    then_onward window_part _ (λ depart. then_later window_part.later _ (λ arrive. then_later stops_part.later _ (λ stops. then_later (runs_part (2 ^ 32 - 1) (omega arith)).later _ (λ runs. done_later _)))) request.depart tt _ (λ l4.
    then_onward window_part _ (λ arrive. then_later stops_part.later _ (λ stops. then_later (runs_part (2 ^ 32 - 1) (omega arith)).later _ (λ runs. done_later _))) request.arrive tt _ (λ l5.
    then_onward stops_part _ (λ stops. then_later (runs_part (2 ^ 32 - 1) (omega arith)).later _ (λ runs. done_later _)) request.stops (all_stops request.stops form.0.stops) _ (λ l6.
    then_onward (runs_part (2 ^ 32 - 1) (omega arith)) _ (λ runs. done_later _) path.runs (all_runs path.runs form.1) [] (λ l7. done_onward _))))))))

reason_part : Part (name_field MAX_REASON_BYTES any_bytes) (name_fields MAX_REASON_BYTES any_bytes) name_text IsReason AreBytes
reason_part = formed_name_part MAX_REASON_BYTES any_bytes (omega arith) AreBytes (λ count. any_bytes_fit count) reason_reads

claims_count_part : Part (limited_field 1 MAX_HOLD_CLAIMS) (λ n. number_of n (is_between 1 MAX_HOLD_CLAIMS n) ∷ []) (to_be_bytes w32) (λ n. (1 ≤ n) × (n ≤ MAX_HOLD_CLAIMS)) AnyForm
claims_count_part = limited_part 1 MAX_HOLD_CLAIMS (omega arith)

zone_names : (claims : List Claim) → AllByRecursion ClaimForm claims → All (λ claim. IsFourBytes claim.zone) claims
zone_names claims each = All-from_recursion ClaimForm claims each

reasoned_begins : (reason : List ℕ) → 1 ≤ length reason → AreBytes reason → (claims : List Claim) → AllByRecursion ClaimForm claims
    → Begins (fields_in kind.Reasoned) (name_fields MAX_REASON_BYTES any_bytes reason ++ (number_of (length claims) (is_between 1 MAX_HOLD_CLAIMS (length claims)) ∷ claims_fields before_all claims))
reasoned_begins [] some bytes claims each = absurd (omega (arith, some))
reasoned_begins (byte ∷ others) some bytes claims each = ((Hold claims (byte ∷ others), refl, ((zone_names claims each, bytes), tt)), [], sym (append-nil (hold_fields claims (byte ∷ others))))

counted_begins : (reason : List ℕ) → 1 ≤ length reason → AreBytes reason → (count : ℕ) (claims : List Claim) → AllByRecursion ClaimForm claims → length claims ≡ count
    → Begins (fields_in kind.Reasoned) (name_fields MAX_REASON_BYTES any_bytes reason ++ (number_of count (is_between 1 MAX_HOLD_CLAIMS count) ∷ claims_fields before_all claims))
counted_begins reason some bytes count claims each len =
    subst (λ (n : ℕ). Begins (fields_in kind.Reasoned) (name_fields MAX_REASON_BYTES any_bytes reason ++ (number_of n (is_between 1 MAX_HOLD_CLAIMS n) ∷ claims_fields before_all claims))) len (reasoned_begins reason some bytes claims each)

reasoned_places : Places (fields_in kind.Reasoned) [] reasoned_field
unfolding reasoned_field
reasoned_places =
    let g = fields_in kind.Reasoned in
    then_stops reason_part g []
    (name_places_in MAX_REASON_BYTES any_bytes (omega arith) g [] (λ count some. begins_front g [] (name_fields MAX_REASON_BYTES any_bytes (any_name count)) (number_of 0 (is_between 1 MAX_HOLD_CLAIMS 0) ∷ [])
    (reasoned_begins (any_name count) (omega (arith, some, length-replicate {A = ℕ} count 0)) (any_bytes_fit count) [] tt))) _ (λ reason l1.
    then_places claims_count_part g (name_fields MAX_REASON_BYTES any_bytes reason)
    (λ count f. begins_front g (name_fields MAX_REASON_BYTES any_bytes reason) (number_of count (is_between 1 MAX_HOLD_CLAIMS count) ∷ []) (claims_fields before_all (any_items before_all count)) (counted_begins reason l1.0.some l1.1 count (any_items before_all count) (all_any ClaimForm before_all (omega arith) count) (length-replicate count before_all))) _ (λ count l2.
    last_places g (name_fields MAX_REASON_BYTES any_bytes reason ++ number_of count (is_between 1 MAX_HOLD_CLAIMS count) ∷ []) (claims_places g _ count before_all
    (λ claims each len. begins_past g (name_fields MAX_REASON_BYTES any_bytes reason) (number_of count (is_between 1 MAX_HOLD_CLAIMS count) ∷ []) (claims_fields before_all claims) (counted_begins reason l1.0.some l1.1 count claims each len))) (λ claims. Hold claims reason)))

reasoned_later : Later reasoned_field
unfolding reasoned_field
reasoned_later = then_later reason_part.later _ (λ reason. then_later claims_count_part.later _ (λ count. then_later (claims_later count before_all) _ (λ claims. done_later _)))

reasoned_onward : (claims : List Claim) (reason : List ℕ) → AllByRecursion ClaimForm claims → AreBytes reason
    → Onward reasoned_field (name_fields MAX_REASON_BYTES any_bytes reason ++ number_of (length claims) (is_between 1 MAX_HOLD_CLAIMS (length claims)) ∷ claims_fields before_all claims)
unfolding reasoned_field
reasoned_onward claims reason each bytes =
    then_onward reason_part _ (λ reason. then_later claims_count_part.later _ (λ count. then_later (claims_later count before_all) _ (λ claims. done_later _))) reason bytes _ (λ l1.
    then_onward claims_count_part _ (λ count. then_later (claims_later count before_all) _ (λ claims. done_later _)) (length claims) tt (claims_fields before_all claims) (λ l2.
    last_onward (claims_onward before_all claims each) _))

abbrev plain_of : (claim : Claim) → ClaimForm claim → DeedOf kind.Hold
plain_of claim f = (Hold (claim ∷ []) [], refl, ((zone_names (claim ∷ []) (f, tt), are_bytes [] (λ i. omega arith)), refl))

deed_places : (k : Kind) → Places (fields_in k) [] (deed_field k)
unfolding deed_field
deed_places kind.Hold = then_places claim_part (fields_in kind.Hold) [] (λ claim f. (plain_of claim f, [], refl)) _ (λ claim l. done_places (fields_in kind.Hold) _ _)
deed_places kind.Asked = asked_places
deed_places kind.Pinned = pinned_places
deed_places kind.Free = then_places position_part (fields_in kind.Free) [] (λ entry f. ((Free entry, refl, (tt, tt)), [], refl)) _ (λ entry l. done_places (fields_in kind.Free) _ _)
deed_places kind.Reasoned = reasoned_places

deed_later : (k : Kind) → Later (deed_field k)
unfolding deed_field
deed_later kind.Hold = then_later claim_part.later _ (λ claim. done_later _)
deed_later kind.Asked = asked_later
deed_later kind.Pinned = pinned_later
deed_later kind.Free = then_later position_part.later _ (λ entry. done_later _)
deed_later kind.Reasoned = reasoned_later

zones_of : (claims : List Claim) → All (λ claim. IsFourBytes claim.zone) claims → AllByRecursion ClaimForm claims
zones_of claims names = recursion_from_All ClaimForm claims names

plain_onward : (claims : List Claim) → length claims ≡ 1 → AllByRecursion ClaimForm claims → Onward (deed_field kind.Hold) (flat_map claim_fields claims)
unfolding deed_field
plain_onward [] one each = absurd (omega (arith, one))
plain_onward (claim ∷ []) one each =
    subst (λ (t : List Field). Onward (deed_field kind.Hold) t) (sym (flat_map-cons claim_fields claim []))
    (then_onward claim_part (λ claim. done (Hold (claim ∷ []) [])) (λ claim. done_later _) claim each.0 [] (λ l. done_onward _))
plain_onward (claim ∷ other ∷ claims) one each = absurd (omega (arith, one))

deed_onward : (deed : Deed) → IsFormedDeed deed → Onward (deed_field (what deed)) (deed_fields deed)
unfolding deed_field
deed_onward (Hold claims []) form = plain_onward claims form.1 (zones_of claims form.0.0)
deed_onward (Hold claims (byte ∷ others)) form = reasoned_onward claims (byte ∷ others) (zones_of claims form.0.0) form.0.1
deed_onward (Grant (Asked request) path) form = asked_onward request path form.0
deed_onward (Grant Pinned path) form = pinned_onward path form.0
deed_onward (Free entry) form = then_onward position_part (λ entry. done (Free entry)) (λ entry. done_later _) entry tt [] (λ l. done_onward _)

-- ---- entries

kind_means : MeansBytes kind_field 1
unfolding kind_field
kind_means = meant_means byte_field 1 byte_means kind_of

kind_part : Part kind_field (λ k. record { bytes = byte_of k ∷ []; right = true } ∷ []) (λ k. byte_of k ∷ []) (λ k. Unit {0}) AnyForm
kind_part = atom_part kind_reads kind_means (λ k. true) (λ k l. refl) (λ k l. tt) (λ k f r. tt) kind.Hold tt refl

any_deed : (k : Kind) → DeedOf k
any_deed kind.Hold = plain_of before_all (omega arith)
any_deed kind.Asked = asked_of any_train 0 0 any_window any_window [] [] (omega arith) (omega arith) tt tt
any_deed kind.Pinned = pinned_by any_train [] tt
any_deed kind.Free = (Free 0, refl, (tt, tt))
any_deed kind.Reasoned = (Hold [] (0 ∷ []), refl, ((zone_names [] tt, any_bytes_fit 1), tt))

abbrev entry_by : ℕ → ℕ → List ℕ → Deed → Entry
entry_by number line owner deed = record { owner = owner; number = number; line = line; deed = deed }

owner_part : Part (name_field MAX_OWNER_BYTES (list_all is_name_byte)) (name_fields MAX_OWNER_BYTES (list_all is_name_byte)) name_text (λ owner. IsNameOf MAX_OWNER_BYTES (list_all is_name_byte) owner × AnyForm owner) AnyForm
owner_part = name_part MAX_OWNER_BYTES (list_all is_name_byte) (omega arith)

-- the fields of an entry with a deed of a kind
abbrev behind_kind : ℕ → ℕ → ℕ → List ℕ → List Field → List Field
behind_kind byte number line owner others =
    record { bytes = byte ∷ []; right = true } ∷ record { bytes = to_be_bytes w64 number; right = is_between 0 MAX_NUMBER number } ∷ number_of line true
    ∷ name_fields MAX_OWNER_BYTES (list_all is_name_byte) owner ++ others

entry_begins : (k : Kind) (number line : ℕ) (owner : List ℕ) (one : DeedOf k) → fields_of (entry_by number line owner one.0) ≡ behind_kind (byte_of k) number line owner (deed_fields one.0)
entry_begins k number line owner one = ap (λ (n : ℕ). behind_kind n number line owner (deed_fields one.0)) one.1

formed_by : (number line : ℕ) (owner : List ℕ) (k : Kind) (one : DeedOf k) → IsFourBytes line → IsFormed (entry_by number line owner one.0)
formed_by number line owner k one f = record { line = f; deed = one.2.0; plain = one.2.1 }

pub entry_places : Places (of_form IsFormed fields_of) [] entry_field
unfolding entry_field
entry_places =
    let g = of_form IsFormed fields_of in
    then_places kind_part g [] (λ k f. ((entry_by 0 0 [] (any_deed k).0, formed_by 0 0 [] k (any_deed k) (omega arith)), _, entry_begins k 0 0 [] (any_deed k))) _ (λ k l1.
    then_places position_part g _ (λ number f. ((entry_by number 0 [] (any_deed k).0, formed_by number 0 [] k (any_deed k) (omega arith)), _, entry_begins k number 0 [] (any_deed k))) _ (λ number l2.
    then_places number_part g _ (λ line f. ((entry_by number line [] (any_deed k).0, formed_by number line [] k (any_deed k) f), _, entry_begins k number line [] (any_deed k))) _ (λ line l3.
    then_places owner_part g _ (λ owner f. ((entry_by number line owner (any_deed k).0, formed_by number line owner k (any_deed k) l3), _, entry_begins k number line owner (any_deed k))) _ (λ owner l4.
    last_places g _ (lift_places (fields_in k) g _ (λ one. ((entry_by number line owner one.0, formed_by number line owner k one l3), [], entry_begins k number line owner one ∙ sym (append-nil (behind_kind (byte_of k) number line owner (deed_fields one.0))))) (deed_places k)) (λ deed. entry_by number line owner deed)))))

entry_onward : (e : Entry) → IsFormed e → Onward entry_field (behind_kind (byte_of (what e.deed)) e.number e.line e.owner (deed_fields e.deed))
unfolding entry_field
entry_onward e form =
    then_onward kind_part _ (λ k. then_later position_part.later _ (λ number. then_later number_part.later _ (λ line. then_later owner_part.later _ (λ owner. then_later (deed_later k) _ (λ deed. done_later _))))) (what e.deed) tt _ (λ l1.
    then_onward position_part _ (λ number. then_later number_part.later _ (λ line. then_later owner_part.later _ (λ owner. then_later (deed_later (what e.deed)) _ (λ deed. done_later _)))) e.number tt _ (λ l2.
    then_onward number_part _ (λ line. then_later owner_part.later _ (λ owner. then_later (deed_later (what e.deed)) _ (λ deed. done_later _))) e.line form.line _ (λ l3.
    then_onward owner_part _ (λ owner. then_later (deed_later (what e.deed)) _ (λ deed. done_later _)) e.owner tt (deed_fields e.deed) (λ l4.
    last_onward (deed_onward e.deed (form.deed, form.plain)) _))))

all_onward : (e : Entry) → IsFormed e → Onward entry_field (fields_of e)
all_onward e form = subst (λ (n : ℕ). Onward entry_field (behind_kind n e.number e.line e.owner (deed_fields e.deed))) (what_is e.deed) (entry_onward e form)

-- ---- the fields of an entry are those of its body, and right

both_bytes : (a b : List Field) (x y : List ℕ) → bytes_of a ≡ x → bytes_of b ≡ y → bytes_of (a ++ b) ≡ x ++ y
both_bytes a b x y p q = bytes_both a b ∙ ap (λ (t : List ℕ). t ++ bytes_of b) p ∙ ap (λ (t : List ℕ). x ++ t) q

wish_bytes : (request : Request) → bytes_of (wish_fields request) ≡ wish_text request
wish_bytes request =
    both_bytes ((number_of request.origin true ∷ number_of request.destination true ∷ window_fields request.depart) ++ window_fields request.arrive) (list_fields 0 MAX_STOPS stop_fields request.stops) (to_be_bytes w32 request.origin ++ to_be_bytes w32 request.destination ++ window_text request.depart ++ window_text request.arrive) (list_text stop_text request.stops)
    (both_bytes (number_of request.origin true ∷ number_of request.destination true ∷ window_fields request.depart) (window_fields request.arrive) (to_be_bytes w32 request.origin ++ to_be_bytes w32 request.destination ++ window_text request.depart) (window_text request.arrive)
    (ap (λ (t : List ℕ). to_be_bytes w32 request.origin ++ (to_be_bytes w32 request.destination ++ t)) (window_part.bytes request.depart) ∙ sym (append_assoc (to_be_bytes w32 request.origin) (to_be_bytes w32 request.destination) (window_text request.depart)))
    (window_part.bytes request.arrive))
    (stops_part.bytes request.stops)

deed_bytes : (deed : Deed) → bytes_of (deed_fields deed) ≡ deed_text deed
deed_bytes (Hold claims []) = each_bytes claim_fields claim_text claim_part.bytes claims
deed_bytes (Hold claims (byte ∷ others)) =
    both_bytes (name_fields MAX_REASON_BYTES any_bytes (byte ∷ others)) (number_of (length claims) (is_between 1 MAX_HOLD_CLAIMS (length claims)) ∷ claims_fields before_all claims) (name_text (byte ∷ others)) (list_text claim_text claims)
    ((name_part MAX_REASON_BYTES any_bytes (omega arith)).bytes (byte ∷ others))
    (ap (λ (t : List ℕ). to_be_bytes w32 (length claims) ++ t) (claims_bytes before_all claims))
deed_bytes (Grant (Asked request) path) =
    both_bytes (train_fields path.train ++ wish_fields request) (list_fields 1 (2 ^ 32 - 1) run_fields path.runs) (train_text path.train ++ wish_text request) (list_text run_text path.runs)
    (both_bytes (train_fields path.train) (wish_fields request) (train_text path.train) (wish_text request) (train_part.bytes path.train) (wish_bytes request))
    ((runs_part (2 ^ 32 - 1) (omega arith)).bytes path.runs)
deed_bytes (Grant Pinned path) =
    both_bytes (train_fields path.train) (list_fields 1 MAX_PINNED_RUNS run_fields path.runs) (train_text path.train) (list_text run_text path.runs) (train_part.bytes path.train) ((runs_part MAX_PINNED_RUNS (omega arith)).bytes path.runs)
deed_bytes (Free entry) = append-nil (to_be_bytes w64 entry)

regrouped : (a b c d : List ℕ) → a ++ (b ++ (c ++ d)) ≡ ((a ++ b) ++ c) ++ d
regrouped a b c d = simp append_assoc

pub entry_bytes : (entry : Entry) → bytes_of (fields_of entry) ≡ body_of entry
entry_bytes entry =
    both_bytes (behind_kind (kind_byte entry.deed) entry.number entry.line entry.owner []) (deed_fields entry.deed) (kind_byte entry.deed ∷ to_be_bytes w64 entry.number ++ to_be_bytes w32 entry.line ++ name_text entry.owner) (deed_text entry.deed)
    (ap (λ (t : List ℕ). (kind_byte entry.deed ∷ []) ++ (to_be_bytes w64 entry.number ++ (to_be_bytes w32 entry.line ++ t))) (owner_part.bytes entry.owner) ∙ regrouped (kind_byte entry.deed ∷ []) (to_be_bytes w64 entry.number) (to_be_bytes w32 entry.line) (name_text entry.owner))
    (deed_bytes entry.deed)

wish_right : (request : Request) → IsRequestWithinLimits request → IsWishOfItsTypes request → AreRight (wish_fields request)
wish_right request limits types =
    right_both ((number_of request.origin true ∷ number_of request.destination true ∷ window_fields request.depart) ++ window_fields request.arrive) (list_fields 0 MAX_STOPS stop_fields request.stops)
    (right_both (number_of request.origin true ∷ number_of request.destination true ∷ window_fields request.depart) (window_fields request.arrive) (refl, (refl, window_part.right request.depart limits.depart)) (window_part.right request.arrive limits.arrive))
    (stops_part.right request.stops (record { some = omega arith; count = limits.count; each = stops_fit request.stops types.stops limits.dwells }))

deed_right : (deed : Deed) → IsDeedWithinLimits deed → IsDeedOfItsTypes deed → AreRight (deed_fields deed)
deed_right (Hold claims []) limits types = each_right claim_fields IsClaim claim_part.right claims (recursion_from_All IsClaim claims (λ k d lt. (types.0 k d lt, limits.within k d lt)))
deed_right (Hold claims (byte ∷ others)) limits types = (
  is_between-true 1 MAX_REASON_BYTES (length (byte ∷ others)) (omega arith, limits.short),
  (
    refl,
    (
      is_between-true 1 MAX_HOLD_CLAIMS (length claims) (limits.some, limits.count),
      claims_right before_all claims (hold_next claims (byte ∷ others) limits types.0),
    ),
  ),
)
deed_right (Grant (Asked request) path) limits types =
    right_both (train_fields path.train ++ wish_fields request) (list_fields 1 (2 ^ 32 - 1) run_fields path.runs)
    (right_both (train_fields path.train) (wish_fields request) (train_part.right path.train limits.runs.train) (wish_right request limits.request types.0))
    ((runs_part (2 ^ 32 - 1) (omega arith)).right path.runs (record { some = limits.runs.some; count = limits.runs.count; each = runs_fit path.runs types.1 limits.runs.runs }))
deed_right (Grant Pinned path) limits types =
    right_both (train_fields path.train) (list_fields 1 MAX_PINNED_RUNS run_fields path.runs) (train_part.right path.train limits.train)
    ((runs_part MAX_PINNED_RUNS (omega arith)).right path.runs (record { some = limits.some; count = limits.count; each = runs_fit path.runs types limits.runs }))
deed_right (Free entry) limits types = (is_between-true 0 MAX_NUMBER entry (omega arith, limits), tt)

each_field_right : (entry : Entry) → HasBody entry → AreRight (fields_of entry)
each_field_right entry has =
    right_both (behind_kind (kind_byte entry.deed) entry.number entry.line entry.owner []) (deed_fields entry.deed)
    (refl, (is_between-true 0 MAX_NUMBER entry.number (omega arith, has.limits.number), (refl, owner_part.right entry.owner (owner_back entry.owner has.limits.owner, tt))))
    (deed_right entry.deed has.limits.deed has.deed)

all_right : (fields : List Field) → AreRight fields → All (λ field. field.right ≡ true) fields
all_right fields h = All-from_recursion (λ (field : Field). field.right ≡ true) fields h

pub entry_right : (entry : Entry) → HasBody entry → All (λ field. field.right ≡ true) (fields_of entry)
entry_right entry has = all_right (fields_of entry) (each_field_right entry has)

-- ---- where a body is wrong

abbrev found_entry : Entry × Unread → Result (Entry × Unread) ℕ
found_entry found = Ok found

not_both : (found : Entry × Unread) (at : ℕ) → found_entry found ≡ Err at → ⊥
not_both found at e = absurd cc

abbrev wrong_here : ℕ → Result Entry ℕ
wrong_here at = Err at

same_place : (a b : ℕ) → wrong_here a ≡ wrong_here b → a ≡ b
same_place a b e = cc

over_at : (x : Entry) (here at : ℕ) (ended : Bool) → ended ≡ false → cond ended (Ok x) (Err here) ≡ wrong_here at → at ≡ here
over_at x here at true none_is e = absurd cc
over_at x here at false none_is e = sym (same_place here at e)

left_over : (x : Entry) (here : ℕ) (left : List ℕ) (at : ℕ) → cond (eqb (length left) 0) (Ok x) (Err here) ≡ wrong_here at → (left ≢ []) × (at ≡ here)
left_over x here [] at e = absurd cc
left_over x here (byte ∷ left) at e = (λ none_is. absurd cc, over_at x here at (eqb (length (byte ∷ left)) 0) (eqb-suc-zero (length left)) e)

whole_err : (read : Result (Entry × Unread) ℕ) (at : ℕ) → whole read ≡ Err at → (read ≡ Err at) ⊎ ((x : Entry) × (new : Unread) × (read ≡ Ok (x, new)) × (new.left ≢ []) × (at ≡ new.at))
whole_err (Err other) at e = inl (ap (λ (n : ℕ). Err n) (same_place other at e))
whole_err (Ok found) at e = let over = left_over found.0 found.1.at found.1.left at e in inr (found.0, found.1, refl, over.0, over.1)

none_right : (front : List Field) (bytes : List ℕ) (at : ℕ) → at ≡ 0 + length (bytes_of front) → 1 ≤ length bytes → ((more : List ℕ) → entry_field (record { at = 0; left = (bytes_of front ++ bytes) ++ more }) ≡ Err at) → AreRight front → NoneIsRight front bytes
none_right front bytes at here some wrong right e field behind form fields same is_right =
    let all : bytes_of (front ++ field ∷ []) ≡ bytes_of front ++ bytes = bytes_both front (field ∷ []) ∙ ap (λ (t : List ℕ). bytes_of front ++ t) (flat_map-cons (λ (field : Field). field.bytes) field [] ∙ append-nil field.bytes ∙ same) in
    let start : Unread = record { at = 0; left = (bytes_of front ++ bytes) ++ [] } in
    let reached = (all_onward e form).passes (front ++ field ∷ []) behind (fields ∙ sym (append_assoc front (field ∷ []) behind)) (right_both front (field ∷ []) right (is_right, tt)) start [] (ap (λ (t : List ℕ). t ++ []) (sym all)) in
    let stopped : reach (entry_field start) ≡ at = ap reach (wrong []) in
    absurd (omega (arith, reached, stopped, here, some, ap length all, length-append (bytes_of front) bytes))

stops_at : (front : List Field) (next : Field) (tail : List Field) (body rest : List ℕ) (at : ℕ) → body ≡ bytes_of front ++ rest → AreRight front → Cause entry_field (record { at = 0; left = body }) (bytes_of front) (length next.bytes) rest at → StopsAt front (next ∷ tail) rest at
stops_at front next tail body rest at parts right (inl short) = inl (short.0, short.1 ∙ omega (arith, ap length parts, length-append (bytes_of front) rest))
stops_at front next tail body rest at parts right (inr wrong) =
    inr (wrong.0, wrong.1 ∙ omega arith, none_right front (take (length next.bytes) rest) at wrong.1 (omega (arith, wrong.3, length-take-le (length next.bytes) rest wrong.0)) wrong.2 right)

form_of : (deed : Deed) → IsDeedWithinLimits deed → HasOneIfPlain deed
form_of (Hold claims []) limits = limits.plain refl
form_of (Hold claims (byte ∷ others)) limits = tt
form_of (Grant wanted path) limits = tt
form_of (Free entry) limits = tt

pub formed : (e : Entry) → HasBody e → IsFormed e
formed e has = record { line = has.line; deed = has.deed; plain = form_of e.deed has.limits.deed }

surplus_stop : (start : Unread) (at : ℕ) (x : Entry) (new : Unread) → start.left ≡ body_of x ++ new.left → HasBody x → entry_field start ≡ Ok (x, new) → new.left ≢ [] → at ≡ new.at → start.at ≡ 0 → IsWrongAt start.left at
surplus_stop start at x new parts has found some here zero_is =
    let again = (entry_reads.again x has).found start.at new.left in
    let same = ok_is (x, new) (x, record { at = start.at + length (body_of x); left = new.left }) (sym found ∙ ap (λ (left : List ℕ). entry_field (record { at = start.at; left = left })) parts ∙ again) in
    let moved : new.at ≡ start.at + length (body_of x) = ap (λ (p : Entry × Unread). p.1.at) same in
    record {
      entry = x;
      formed = formed x has;
      before = fields_of x;
      behind = [];
      fields = sym (append-nil (fields_of x));
      right = entry_right x has;
      rest = new.left;
      parts = parts ∙ ap (λ (t : List ℕ). t ++ new.left) (sym (entry_bytes x));
      stops = (some, omega (arith, here, moved, zero_is, ap length (entry_bytes x)));
    }

pub wrong_at_is : (body : List ℕ) (at : ℕ) → IsBytes body → entry_at body ≡ Err at → IsWrongAt body at
unfolding entry_at
wrong_at_is body at fits e =
    let start : Unread = record { at = 0; left = body } in
    elim (whole_err (entry_field start) at e) [
      | inl wrong ↦ let stop = entry_places start at fits wrong in record {
        entry = stop.begun.0.0;
        formed = stop.begun.0.1;
        before = stop.front;
        behind = stop.next ∷ stop.begun.1;
        fields = stop.begun.2 ∙ append_assoc stop.front (stop.next ∷ []) stop.begun.1;
        right = all_right stop.front stop.right;
        rest = stop.rest;
        parts = stop.parts;
        stops = stops_at stop.front stop.next stop.begun.1 body stop.rest at stop.parts stop.right stop.cause;
      }
      | inr over ↦ surplus_stop start at over.0 over.1 (entry_reads.takes start over.1 over.0 fits over.2).0.parts (entry_reads.takes start over.1 over.0 fits over.2).1 over.2 over.3 over.4 refl
    ]

pub is_first : (body : List ℕ) (result : Result Entry EntryFault) → IsBytes body → GivesAll result (entry_at body) → (at : ℕ) → result ≡ Err (NotEntry at) → IsWrongAt body at
is_first body result fits given at e = wrong_at_is body at fits (subst (λ (r : Result Entry EntryFault). GivesAll r (entry_at body)) e given)

pub told_is : (body : List ℕ) (at : ℕ) → AreBytes body → entry_at body ≡ Err at → IsWrongAt body at
told_is body at bytes e = wrong_at_is body at (bytes_there body bytes) e

pub spelled_is : (body : List ℕ) (e : Entry) → AreBytes body → entry_at body ≡ Ok e → HasBody e × (body ≡ body_of e)
spelled_is body e bytes read = body_is body e (bytes_there body bytes) read

pub back_is : (e : Entry) → HasBody e → entry_at (body_of e) ≡ Ok e
back_is e has = body_again (body_of e) e has refl

-- ---- an entry of the form whose fields are right has a body

list_full : (claims : List Claim) → length claims ≡ 1 → AllByRecursion ClaimForm claims → AreRight (flat_map claim_fields claims) → IsDeed (Hold claims [])
list_full [] one each right = absurd (omega (arith, one))
list_full (claim ∷ []) one each right = plain_fits claim (claim_part.full claim each.0 (right_parts (claim_fields claim) [] (subst AreRight (flat_map-cons claim_fields claim []) right)).0)
list_full (claim ∷ other ∷ claims) one each right = absurd (omega (arith, one))

deed_full : (deed : Deed) → IsFormedDeed deed → HasItsTrain deed → AreRight (deed_fields deed) → IsDeed deed
deed_full (Hold claims []) form train right = list_full claims form.1 (zones_of claims form.0.0) right
deed_full (Hold claims (byte ∷ others)) form train right =
    let reason = right_parts (name_fields MAX_REASON_BYTES any_bytes (byte ∷ others)) (number_of (length claims) (is_between 1 MAX_HOLD_CLAIMS (length claims)) ∷ claims_fields before_all claims) right in
    let named = reason_part.full (byte ∷ others) form.0.1 reason.0 in
    hold_fits claims (byte ∷ others) (claims_full before_all claims (zones_of claims form.0.0) reason.1.1) (between 1 MAX_HOLD_CLAIMS (length claims) reason.1.0) named.0.count (λ none_is. absurd cc) form.0.1
deed_full (Grant (Asked request) path) form train right =
    let first = right_parts (train_fields path.train ++ wish_fields request) (list_fields 1 (2 ^ 32 - 1) run_fields path.runs) right in
    let second = right_parts (train_fields path.train) (wish_fields request) first.0 in
    let windows = second.1.1.1 in
    let both = right_parts (window_fields request.depart ++ window_fields request.arrive) (list_fields 0 MAX_STOPS stop_fields request.stops) windows in
    let each = right_parts (window_fields request.depart) (window_fields request.arrive) both.0 in
    let of_train = train_part.full path.train tt second.0 in
    let same = train in
    let stops = stops_part.full request.stops (all_stops request.stops form.0.0.stops) both.1 in
    let runs = (runs_part (2 ^ 32 - 1) (omega arith)).full path.runs (all_runs path.runs form.0.1) first.1 in (
      record {
        request = record {
          train = subst IsTrainWithinLimits (sym same) of_train;
          depart = window_part.full request.depart tt each.0;
          arrive = window_part.full request.arrive tt each.1;
          count = stops.count;
          dwells = All-weaker IsStop (λ stop. stop.dwell ≤ MAX_DWELL) (λ stop p. p.1) request.stops (All-from_recursion IsStop request.stops stops.each);
        };
        train = same;
        runs = record { train = of_train; some = runs.some; count = runs.count; runs = (each_fits path.runs runs.each).1 };
      },
      form.0,
    )
deed_full (Grant Pinned path) form train right =
    let both = right_parts (train_fields path.train) (list_fields 1 MAX_PINNED_RUNS run_fields path.runs) right in
    let runs = (runs_part MAX_PINNED_RUNS (omega arith)).full path.runs (all_runs path.runs form.0) both.1 in
    (record { train = train_part.full path.train tt both.0; some = runs.some; count = runs.count; runs = (each_fits path.runs runs.each).1 }, form.0)
deed_full (Free entry) form train right = ((between 0 MAX_NUMBER entry right.0).1, tt)

pub full_is : (e : Entry) → IsFormed e → HasItsTrain e.deed → All (λ field. field.right ≡ true) (fields_of e) → HasBody e
full_is e form train all =
    let right = recursion_from_All (λ (field : Field). field.right ≡ true) (fields_of e) all in
    let parts = right_parts (name_fields MAX_OWNER_BYTES (list_all is_name_byte) e.owner) (deed_fields e.deed) right.1.1.1 in
    let deed = deed_full e.deed (form.deed, form.plain) train parts.1 in
    record {
      limits = record { owner = owner_takes e.owner (owner_part.full e.owner tt parts.0).0; number = (between 0 MAX_NUMBER e.number right.1.0).1; deed = deed.0 };
      line = form.line;
      deed = form.deed;
    }
