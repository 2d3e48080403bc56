-- Where each part of an entry stops.
use Rattle.std.proofs.Common.{◌≡◌, ℕ, zero, suc, ◌^◌, ◌<◌, ◌≤◌, Bool, true, ◌&&◌, List, [], ◌∷◌, ◌++◌, length, replicate, Some, inl, inr, refl, sym, ap, subst, ◌∙◌, append_assoc, arith}
use Rattle.std.specs.Prelude.{ℤ, ◌<ℤ◌, int_lt, nat_le}
use Rattle.std.specs.List.{flat_map, AllByRecursion}
use Rattle.std.specs.Str.{is_utf8}
use Rattle.std.specs.Int.{Width, w32, w64, byte_len, to_be_bytes, from_be_bytes, cast_signed}
use Rattle.std.proofs.lemmas.Bool.{le-leb, leb-true, cases_lt}
use Rattle.std.proofs.lemmas.List.{append-nil, length-replicate}
use Rattle.std.proofs.lemmas.List.Concat.{flat_map-cons}
use Rattle.std.proofs.lemmas.Str.{IsUtf8-from_is_utf8, is_utf8-from_IsUtf8}
use Rattle.byte_fields.specs.Unread.{signed_bytes}
use Rattle.rail_types.specs.declared.limits.TheConstants.{MAX_NUMBER, MAX_TRAIN_LENGTH_M, MAX_SPEED_MM_S, MAX_ACCEL_MM_S2, MAX_ALLOWANCE_PERCENT, MAX_TRAIN_NAME_BYTES, MAX_DWELL}
use Rattle.rail_types.specs.Limits.{is_between, is_tick, IsTick, IsWindowWithinLimits, IsTrainWithinLimits}
use Rattle.rail_types.specs.declared.paths.Claim.{Claim}
use Rattle.rail_types.specs.declared.paths.Window.{Window}
use Rattle.rail_types.specs.declared.paths.Run.{Run}
use Rattle.rail_types.specs.declared.trains.Stop.{Stop}
use Rattle.rail_types.specs.declared.trains.Train.{Train}
use Rattle.rail_types.specs.Occupation.{EndsBefore}
use Rattle.entry_codec.specs.Within.{IsFourBytes}
use Rattle.entry_codec.specs.Body.{claim_text, window_text, train_text, name_text, stop_text, run_text, flag_byte, list_text}
use Rattle.entry_codec.specs.Reading.{Reading, ◌>>=◌, done, meant, if_so, is_behind, before_all, byte_field, bytes_field, number_field, signed_field, limited_field, position_field, tick_field, later_field, next_zone_field, begin_field, flag_of, flag_field, name_field, items_field, list_field, window_field, claim_field, next_claim_field, claims_field, train_field, stop_field, run_field}
use Rattle.entry_codec.specs.Places.{Field, bytes_of, number_of, tick_of, name_fields, window_fields, stop_fields, run_fields, train_fields, claim_fields, next_claim_fields, claims_fields, list_fields}
use Rattle.entry_codec.proofs.Numbers.{number_reads, count_reads, bytes_read, name_reads, IsNameOf, between, is_between-true}
use Rattle.entry_codec.proofs.Readers.{Reads, under_limits, passing_reads}
use Rattle.entry_codec.proofs.Parts.{limited_reads, position_reads, tick_reads, tick_is, tick_passes, later_reads, later_is, later_passes, next_zone_reads, begin_reads, behind_is, behind_passes, IsBehind, is_behind_it, zone_is, flag_reads, window_reads, claim_reads, IsClaim, next_claim_reads, IsNextClaim, stop_reads, IsStop, run_reads, IsRun, train_reads, IsListOf, list_reads, AreNext}
use Rattle.entry_codec.proofs.Stops.{Begins, AreRight, right_both, right_parts, bytes_both, Places, Later, Onward, AnyForm, of_form, Part, done_places, then_stops, then_places, last_places, MeansBytes, meant_means, atom_places, atom_part, atom_onward, bytes_later, meant_later, done_later, then_later, done_onward, then_onward, last_onward}

-- ---- single fields

pub byte_means : MeansBytes byte_field 1
unfolding byte_field
byte_means = record { some = omega arith; meaning = λ bytes. Some _; is = λ u. refl }

number_means : (w : Width) → 1 ≤ byte_len w → MeansBytes (number_field w) (byte_len w)
unfolding number_field
number_means w some = record { some = some; meaning = λ bytes. Some (from_be_bytes w bytes); is = λ u. refl }

signed_means : MeansBytes signed_field 8
unfolding signed_field
signed_means = meant_means (number_field w64) 8 (number_means w64 (omega arith)) (λ n. Some (cast_signed w64 n))

limited_means : (least most : ℕ) → MeansBytes (limited_field least most) 4
unfolding limited_field
limited_means least most = meant_means (number_field w32) 4 (number_means w32 (omega arith)) (if_so (is_between least most))

position_means : MeansBytes position_field 8
unfolding position_field
position_means = meant_means (number_field w64) 8 (number_means w64 (omega arith)) (if_so (is_between 0 MAX_NUMBER))

tick_means : MeansBytes tick_field 8
unfolding tick_field
tick_means = meant_means signed_field 8 signed_means (if_so is_tick)

later_means : (from : ℤ) → MeansBytes (later_field from) 8
unfolding later_field
later_means from = meant_means signed_field 8 signed_means (if_so (λ tick. is_tick tick && int_lt from tick))

zone_means : (before : Claim) → MeansBytes (next_zone_field before) 4
unfolding next_zone_field
zone_means before = meant_means (number_field w32) 4 (number_means w32 (omega arith)) (if_so (nat_le before.zone))

begin_means : (before : Claim) (zone : ℕ) → MeansBytes (begin_field before zone) 8
unfolding begin_field
begin_means before zone = meant_means signed_field 8 signed_means (if_so (is_behind before zone))

flag_means : MeansBytes flag_field 1
unfolding flag_field
flag_means = meant_means byte_field 1 byte_means flag_of

pub number_part : Part (number_field w32) (λ n. number_of n true ∷ []) (to_be_bytes w32) (λ n. n < 2 ^ 32) IsFourBytes
number_part = atom_part number_reads (number_means w32 (omega arith)) (λ n. true) (λ n l. refl) (λ n l. l) (λ n f r. f) 0 (omega arith) refl

pub limited_part : (least most : ℕ) → most < 2 ^ 32 → Part (limited_field least most) (λ n. number_of n (is_between least most n) ∷ []) (to_be_bytes w32) (λ n. (least ≤ n) × (n ≤ most)) AnyForm
limited_part least most lt = atom_part (limited_reads least most lt) (limited_means least most) (is_between least most) (λ n l. is_between-true least most n l) (λ n l. tt) (λ n f r. between least most n r) 0 tt refl

pub position_part : Part position_field (λ n. record { bytes = to_be_bytes w64 n; right = is_between 0 MAX_NUMBER n } ∷ []) (to_be_bytes w64) (λ n. n ≤ MAX_NUMBER) AnyForm
position_part = atom_part position_reads position_means (is_between 0 MAX_NUMBER) (λ n l. is_between-true 0 MAX_NUMBER n (omega arith, l)) (λ n l. tt) (λ n f r. (between 0 MAX_NUMBER n r).1) 0 tt refl

pub tick_part : Part tick_field (λ t. tick_of t (is_tick t) ∷ []) signed_bytes IsTick AnyForm
tick_part = atom_part tick_reads tick_means is_tick tick_is (λ t l. tt) (λ t f r. tick_passes t r) before_all.span.from tt refl

pub later_part : (from : ℤ) → Part (later_field from) (λ t. tick_of t (is_tick t && int_lt from t) ∷ []) signed_bytes (λ t. IsTick t × (from <ℤ t)) AnyForm
later_part from = atom_part (later_reads from) (later_means from) (λ t. is_tick t && int_lt from t) (later_is from) (λ t l. tt) (λ t f r. later_passes from t r) before_all.span.from tt refl

pub zone_part : (before : Claim) → Part (next_zone_field before) (λ zone. number_of zone (nat_le before.zone zone) ∷ []) (to_be_bytes w32) (λ zone. IsFourBytes zone × (before.zone ≤ zone)) IsFourBytes
zone_part before = atom_part (next_zone_reads before) (zone_means before) (nat_le before.zone) (λ zone l. le-leb before.zone zone l.1) (λ zone l. l.0) (λ zone f r. (f, leb-true before.zone zone r)) 0 (omega arith) refl

pub begin_part : (before : Claim) (zone : ℕ) → Part (begin_field before zone) (λ t. tick_of t (is_behind before zone t) ∷ []) signed_bytes (λ t. IsTick t × IsBehind before zone t) AnyForm
begin_part before zone = atom_part (begin_reads before zone) (begin_means before zone) (is_behind before zone) (behind_is before zone) (λ t l. tt) (λ t f r. behind_passes before zone t r) before_all.span.from tt refl

pub flag_part : Part flag_field (λ b. record { bytes = flag_byte b ∷ []; right = true } ∷ []) (λ b. flag_byte b ∷ []) (λ b. Unit {0}) AnyForm
flag_part = atom_part flag_reads flag_means (λ b. true) (λ b l. refl) (λ b l. tt) (λ b f r. tt) true tt refl

-- ---- names

count_part : (most : ℕ) → most < 256 → Part (meant (if_so (is_between 1 most)) byte_field) (λ b. record { bytes = b ∷ []; right = is_between 1 most b } ∷ []) (λ b. b ∷ []) (λ b. (1 ≤ b) × (b ≤ most)) AnyForm
count_part most lt = atom_part (count_reads most lt) (meant_means byte_field 1 byte_means (if_so (is_between 1 most))) (is_between 1 most) (λ b l. is_between-true 1 most b l) (λ b l. tt) (λ b f r. between 1 most b r) 0 tt refl

bytes_means : (count : ℕ) (test : List ℕ → Bool) → 1 ≤ count → MeansBytes (meant (if_so test) (bytes_field count)) count
bytes_means count test some = record { some = some; meaning = if_so test; is = λ u. refl }

-- so many bytes of no matter what
abbrev pub any_name : ℕ → List ℕ
any_name count = replicate count 0

any_fields : (most : ℕ) (test : List ℕ → Bool) (count : ℕ) → name_fields most test (any_name count) ≡ record { bytes = count ∷ []; right = is_between 1 most count } ∷ record { bytes = any_name count; right = test (any_name count) } ∷ []
any_fields most test count = ap (λ (n : ℕ). record { bytes = n ∷ []; right = is_between 1 most n } ∷ record { bytes = any_name count; right = test (any_name count) } ∷ []) (length-replicate count 0)

pub begins_front : {B : Type 0} (g : B → List Field) (before x y : List Field) → Begins g (before ++ (x ++ y)) → Begins g (before ++ x)
begins_front g before x y h = (h.0, y ++ h.1, h.2 ∙ ap (λ (t : List Field). t ++ h.1) (sym (append_assoc before x y)) ∙ append_assoc (before ++ x) y h.1)

pub begins_past : {B : Type 0} (g : B → List Field) (before x y : List Field) → Begins g (before ++ (x ++ y)) → Begins g ((before ++ x) ++ y)
begins_past g before x y h = subst (λ (t : List Field). Begins g t) (sym (append_assoc before x y)) h

abbrev count_of : ℕ → ℕ → Field
count_of most count = record { bytes = count ∷ []; right = is_between 1 most count }

abbrev text_of : (List ℕ → Bool) → List ℕ → Field
text_of test text = record { bytes = text; right = test text }

-- a name of at least one byte, in whatever it is a part of
pub name_places_in : {B : Type 0} (most : ℕ) (test : List ℕ → Bool) → most < 256 → (g : B → List Field) (before : List Field) → ((count : ℕ) → 1 ≤ count → Begins g (before ++ name_fields most test (any_name count))) → Places g before (name_field most test)
unfolding name_field
name_places_in most test lt g before opens =
    let counted : (count : ℕ) → 1 ≤ count → Begins g (before ++ (count_of most count ∷ text_of test (any_name count) ∷ [])) =
    λ count some. subst (λ (t : List Field). Begins g (before ++ t)) (any_fields most test count) (opens count some) in
    then_stops (count_part most lt) g before (atom_places (meant_means byte_field 1 byte_means (if_so (is_between 1 most))) g before (count_of most 1) refl (begins_front g before (count_of most 1 ∷ []) (text_of test (any_name 1) ∷ []) (counted 1 (omega arith)))) _
    (λ count l. atom_places (bytes_means count test l.0) g (before ++ count_of most count ∷ []) (text_of test (any_name count)) (length-replicate count 0) (begins_past g before (count_of most count ∷ []) (text_of test (any_name count) ∷ []) (counted count l.0)))

name_places : (most : ℕ) (test : List ℕ → Bool) → most < 256 → (Form : List ℕ → Type 0) → ((count : ℕ) → Form (any_name count)) → Places (of_form Form (name_fields most test)) [] (name_field most test)
name_places most test lt Form formed =
    name_places_in most test lt (of_form Form (name_fields most test)) [] (λ count some. ((any_name count, formed count), [], sym (append-nil (name_fields most test (any_name count)))))

text_later : (count : ℕ) (test : List ℕ → Bool) → Later (meant (if_so test) (bytes_field count))
text_later count test = meant_later (bytes_later count) (if_so test)

name_later : (most : ℕ) (test : List ℕ → Bool) → most < 256 → Later (name_field most test)
unfolding name_field
name_later most test lt = then_later (count_part most lt).later _ (λ count. text_later count test)

text_onward : (test : List ℕ → Bool) (name : List ℕ) → Onward (meant (if_so test) (bytes_field (length name))) (text_of test name ∷ [])
text_onward test name =
    atom_onward (text_of test name) name name refl (text_later (length name) test) (λ r. (passing_reads (bytes_read (length name)) test).again name (refl, r))

name_onward : (most : ℕ) (test : List ℕ → Bool) → most < 256 → (name : List ℕ) → Onward (name_field most test) (name_fields most test name)
unfolding name_field
name_onward most test lt name = then_onward (count_part most lt) (λ count. meant (if_so test) (bytes_field count)) (λ count. text_later count test) (length name) tt (text_of test name ∷ []) (λ l. text_onward test name)

-- a name of a form: what its bytes are beside the test
pub formed_name_part : (most : ℕ) (test : List ℕ → Bool) → most < 256 → (Form : List ℕ → Type 0) → ((count : ℕ) → Form (any_name count)) → Reads (name_field most test) name_text (λ name. IsNameOf most test name × Form name)
    → Part (name_field most test) (name_fields most test) name_text (λ name. IsNameOf most test name × Form name) Form
formed_name_part most test lt Form formed reads = record {
  reads = reads;
  right = λ name l. (is_between-true 1 most (length name) (l.0.some, l.0.count), (l.0.test_is, tt));
  bytes = λ name. simp append-nil;
  form = λ name l. l.1;
  full = λ name f r. let b = between 1 most (length name) r.0 in (record { some = b.0; count = b.1; test_is = r.1.0 }, f);
  places = name_places most test lt Form formed;
  later = name_later most test lt;
  onward = λ name f. name_onward most test lt name;
}

pub name_part : (most : ℕ) (test : List ℕ → Bool) → most < 256 → Part (name_field most test) (name_fields most test) name_text (λ name. IsNameOf most test name × AnyForm name) AnyForm
name_part most test lt = formed_name_part most test lt AnyForm (λ count. tt) (under_limits (name_reads most test lt) (λ name. IsNameOf most test name × AnyForm name) (λ name l. (l, tt)) (λ name l. l.0))

-- ---- windows, stops and runs

window_places : Places (of_form AnyForm window_fields) [] window_field
unfolding window_field
window_places =
    let g = of_form AnyForm window_fields in
    then_places tick_part g [] (λ from f1. ((record { from = from; to = from }, tt), _, refl)) _ (λ from l1.
    then_places tick_part g _ (λ to f2. ((record { from = from; to = to }, tt), [], refl)) _ (λ to l2. done_places g _ _))

window_later : Later window_field
unfolding window_field
window_later = then_later tick_part.later _ (λ from. then_later tick_part.later _ (λ to. done_later _))

window_onward : (w : Window) → Onward window_field (window_fields w)
unfolding window_field
window_onward w =
    then_onward tick_part _ (λ from. then_later tick_part.later _ (λ to. done_later _)) w.from tt _ (λ l1.
    then_onward tick_part _ (λ to. done_later _) w.to tt [] (λ l2. done_onward _))

pub window_part : Part window_field window_fields window_text IsWindowWithinLimits AnyForm
window_part = record {
  reads = window_reads;
  right = λ w l. (tick_is w.from l.from, (tick_is w.to l.to, tt));
  bytes = λ w. simp append-nil;
  form = λ w l. tt;
  full = λ w f r. record { from = tick_passes w.from r.0; to = tick_passes w.to r.1.0 };
  places = window_places;
  later = window_later;
  onward = λ w f. window_onward w;
}

abbrev pub StopForm : Stop → Type 0
StopForm stop = IsFourBytes stop.stop

stop_places : Places (of_form StopForm stop_fields) [] stop_field
unfolding stop_field
stop_places =
    let g = of_form StopForm stop_fields in
    then_places number_part g [] (λ stop f1. ((record { stop = stop; dwell = 0 }, f1), _, refl)) _ (λ stop l1.
    then_places (limited_part 0 MAX_DWELL (omega arith)) g _ (λ dwell f2. ((record { stop = stop; dwell = dwell }, l1), [], refl)) _ (λ dwell l2. done_places g _ _))

dwell_part : Part (limited_field 0 MAX_DWELL) (λ n. number_of n (is_between 0 MAX_DWELL n) ∷ []) (to_be_bytes w32) (λ n. (0 ≤ n) × (n ≤ MAX_DWELL)) AnyForm
dwell_part = limited_part 0 MAX_DWELL (omega arith)

stop_later : Later stop_field
unfolding stop_field
stop_later = then_later number_part.later _ (λ stop. then_later dwell_part.later _ (λ dwell. done_later _))

stop_onward : (s : Stop) → StopForm s → Onward stop_field (stop_fields s)
unfolding stop_field
stop_onward s f =
    then_onward number_part _ (λ stop. then_later dwell_part.later _ (λ dwell. done_later _)) s.stop f _ (λ l1.
    then_onward dwell_part _ (λ dwell. done_later _) s.dwell tt [] (λ l2. done_onward _))

pub stop_part : Part stop_field stop_fields stop_text IsStop StopForm
stop_part = record {
  reads = stop_reads;
  right = λ s l. (refl, (is_between-true 0 MAX_DWELL s.dwell (omega arith, l.1), tt));
  bytes = λ s. simp append-nil;
  form = λ s l. l.0;
  full = λ s f r. (f, (between 0 MAX_DWELL s.dwell r.1.0).1);
  places = stop_places;
  later = stop_later;
  onward = stop_onward;
}

abbrev pub RunForm : Run → Type 0
RunForm run = IsFourBytes run.block

run_places : Places (of_form RunForm run_fields) [] run_field
unfolding run_field
run_places =
    let g = of_form RunForm run_fields in
    then_places number_part g [] (λ block f1. ((record { block = block; enter = before_all.span.from; leave = before_all.span.from; stops = true }, f1), _, refl)) _ (λ block l1.
    then_places tick_part g _ (λ enter f2. ((record { block = block; enter = enter; leave = enter; stops = true }, l1), _, refl)) _ (λ enter l2.
    then_places tick_part g _ (λ leave f3. ((record { block = block; enter = enter; leave = leave; stops = true }, l1), _, refl)) _ (λ leave l3.
    then_places flag_part g _ (λ stops f4. ((record { block = block; enter = enter; leave = leave; stops = stops }, l1), [], refl)) _ (λ stops l4. done_places g _ _))))

run_later : Later run_field
unfolding run_field
run_later = then_later number_part.later _ (λ block. then_later tick_part.later _ (λ enter. then_later tick_part.later _ (λ leave. then_later flag_part.later _ (λ stops. done_later _))))

run_onward : (r : Run) → RunForm r → Onward run_field (run_fields r)
unfolding run_field
run_onward r f =
    then_onward number_part _ (λ block. then_later tick_part.later _ (λ enter. then_later tick_part.later _ (λ leave. then_later flag_part.later _ (λ stops. done_later _)))) r.block f _ (λ l1.
    then_onward tick_part _ (λ enter. then_later tick_part.later _ (λ leave. then_later flag_part.later _ (λ stops. done_later _))) r.enter tt _ (λ l2.
    then_onward tick_part _ (λ leave. then_later flag_part.later _ (λ stops. done_later _)) r.leave tt _ (λ l3.
    then_onward flag_part _ (λ stops. done_later _) r.stops tt [] (λ l4. done_onward _))))

pub run_part : Part run_field run_fields run_text IsRun RunForm
run_part = record {
  reads = run_reads;
  right = λ r l. (refl, (tick_is r.enter l.1.enter, (tick_is r.leave l.1.leave, (refl, tt))));
  bytes = λ r. simp append-nil;
  form = λ r l. l.0;
  full = λ r f q. (f, record { enter = tick_passes r.enter q.1.0; leave = tick_passes r.leave q.1.1.0 });
  places = run_places;
  later = run_later;
  onward = run_onward;
}

abbrev pub ClaimForm : Claim → Type 0
ClaimForm claim = IsFourBytes claim.zone

claim_places : Places (of_form ClaimForm claim_fields) [] claim_field
unfolding claim_field
claim_places =
    let g = of_form ClaimForm claim_fields in
    then_places number_part g [] (λ zone f1. ((record { zone = zone; span = before_all.span }, f1), _, refl)) _ (λ zone l1.
    then_places tick_part g _ (λ from f2. ((record { zone = zone; span = record { from = from; to = from } }, l1), _, refl)) _ (λ from l2.
    then_places (later_part from) g _ (λ to f3. ((record { zone = zone; span = record { from = from; to = to } }, l1), [], refl)) _ (λ to l3. done_places g _ _)))

claim_later : Later claim_field
unfolding claim_field
claim_later = then_later number_part.later _ (λ zone. then_later tick_part.later _ (λ from. then_later (later_part from).later _ (λ to. done_later _)))

claim_onward : (c : Claim) → ClaimForm c → Onward claim_field (claim_fields c)
unfolding claim_field
claim_onward c f =
    then_onward number_part _ (λ zone. then_later tick_part.later _ (λ from. then_later (later_part from).later _ (λ to. done_later _))) c.zone f _ (λ l1.
    then_onward tick_part _ (λ from. then_later (later_part from).later _ (λ to. done_later _)) c.span.from tt _ (λ l2.
    then_onward (later_part c.span.from) _ (λ to. done_later _) c.span.to tt [] (λ l3. done_onward _)))

pub claim_part : Part claim_field claim_fields claim_text IsClaim ClaimForm
claim_part = record {
  reads = claim_reads;
  right = λ c l. (refl, (tick_is c.span.from l.1.from, (later_is c.span.from c.span.to (l.1.to, l.1.ordered), tt)));
  bytes = λ c. simp append-nil;
  form = λ c l. l.0;
  full = λ c f r. let to = later_passes c.span.from c.span.to r.1.1.0 in (f, record { from = tick_passes c.span.from r.1.0; to = to.0; ordered = to.1 });
  places = claim_places;
  later = claim_later;
  onward = claim_onward;
}

next_claim_places : (before : Claim) → Places (of_form ClaimForm (next_claim_fields before)) [] (next_claim_field before)
unfolding next_claim_field
next_claim_places before =
    let g = of_form ClaimForm (next_claim_fields before) in
    then_places (zone_part before) g [] (λ zone f1. ((record { zone = zone; span = before_all.span }, f1), _, refl)) _ (λ zone l1.
    then_places (begin_part before zone) g _ (λ from f2. ((record { zone = zone; span = record { from = from; to = from } }, l1.0), _, refl)) _ (λ from l2.
    then_places (later_part from) g _ (λ to f3. ((record { zone = zone; span = record { from = from; to = to } }, l1.0), [], refl)) _ (λ to l3. done_places g _ _)))

next_claim_later : (before : Claim) → Later (next_claim_field before)
unfolding next_claim_field
next_claim_later before = then_later (zone_part before).later _ (λ zone. then_later (begin_part before zone).later _ (λ from. then_later (later_part from).later _ (λ to. done_later _)))

next_claim_onward : (before c : Claim) → ClaimForm c → Onward (next_claim_field before) (next_claim_fields before c)
unfolding next_claim_field
next_claim_onward before c f =
    then_onward (zone_part before) _ (λ zone. then_later (begin_part before zone).later _ (λ from. then_later (later_part from).later _ (λ to. done_later _))) c.zone f _ (λ l1.
    then_onward (begin_part before c.zone) _ (λ from. then_later (later_part from).later _ (λ to. done_later _)) c.span.from tt _ (λ l2.
    then_onward (later_part c.span.from) _ (λ to. done_later _) c.span.to tt [] (λ l3. done_onward _)))

ends_behind : (before c : Claim) → before.zone ≤ c.zone → IsBehind before c.zone c.span.from → EndsBefore before c
ends_behind before c le (inl lt) = inl lt
ends_behind before c le (inr later) =
    elim (cases_lt before.zone c.zone) [
      | inl lt ↦ inl lt
      | inr ge ↦ inr (omega (arith, le, ge), later)
    ]

next_claim_full : (before c : Claim) → ClaimForm c → AreRight (next_claim_fields before c) → IsNextClaim before c
next_claim_full before c f r =
    let from = behind_passes before c.zone c.span.from r.1.0 in
    let to = later_passes c.span.from c.span.to r.1.1.0 in
    ((f, record { from = from.0; to = to.0; ordered = to.1 }), ends_behind before c (leb-true before.zone c.zone r.0) from.1)

pub next_claim_part : (before : Claim) → Part (next_claim_field before) (next_claim_fields before) claim_text (IsNextClaim before) ClaimForm
next_claim_part before = record {
  reads = next_claim_reads before;
  right = λ c l. (le-leb before.zone c.zone (zone_is before c l.1), (behind_is before c.zone c.span.from (l.0.1.from, is_behind_it before c l.1), (later_is c.span.from c.span.to (l.0.1.to, l.0.1.ordered), tt)));
  bytes = λ c. simp append-nil;
  form = λ c l. l.0.0;
  full = next_claim_full before;
  places = next_claim_places before;
  later = next_claim_later before;
  onward = next_claim_onward before;
}

-- ---- trains

abbrev any_train : List ℕ → ℕ → ℕ → ℕ → ℕ → Train
any_train name length_m speed accel brake = record { name = name; length_m = length_m; speed = speed; accel = accel; brake = brake; allowance = 0 }

train_places : Places (of_form AnyForm train_fields) [] train_field
unfolding train_field
train_places =
    let g = of_form AnyForm train_fields in
    then_places (name_part MAX_TRAIN_NAME_BYTES is_utf8 (omega arith)) g [] (λ name f. ((any_train name 0 0 0 0, tt), _, refl)) _ (λ name l1.
    then_places (limited_part 1 MAX_TRAIN_LENGTH_M (omega arith)) g _ (λ length_m f. ((any_train name length_m 0 0 0, tt), _, refl)) _ (λ length_m l2.
    then_places (limited_part 1 MAX_SPEED_MM_S (omega arith)) g _ (λ speed f. ((any_train name length_m speed 0 0, tt), _, refl)) _ (λ speed l3.
    then_places (limited_part 1 MAX_ACCEL_MM_S2 (omega arith)) g _ (λ accel f. ((any_train name length_m speed accel 0, tt), _, refl)) _ (λ accel l4.
    then_places (limited_part 1 MAX_ACCEL_MM_S2 (omega arith)) g _ (λ brake f. ((any_train name length_m speed accel brake, tt), _, refl)) _ (λ brake l5.
    then_places (limited_part 0 MAX_ALLOWANCE_PERCENT (omega arith)) g _ (λ allowance f. ((record { name = name; length_m = length_m; speed = speed; accel = accel; brake = brake; allowance = allowance }, tt), [], refl)) _ (λ allowance l6. done_places g _ _))))))

train_later : Later train_field
unfolding train_field
train_later = then_later (name_part MAX_TRAIN_NAME_BYTES is_utf8 (omega arith)).later _ (λ name. then_later (limited_part 1 MAX_TRAIN_LENGTH_M (omega arith)).later _ (λ length_m. then_later (limited_part 1 MAX_SPEED_MM_S (omega arith)).later _ (λ speed. then_later (limited_part 1 MAX_ACCEL_MM_S2 (omega arith)).later _ (λ accel. then_later (limited_part 1 MAX_ACCEL_MM_S2 (omega arith)).later _ (λ brake. then_later (limited_part 0 MAX_ALLOWANCE_PERCENT (omega arith)).later _ (λ allowance. done_later _))))))

train_onward : (t : Train) → Onward train_field (train_fields t)
unfolding train_field
train_onward t =
    then_onward (name_part MAX_TRAIN_NAME_BYTES is_utf8 (omega arith)) _ (λ name. then_later (limited_part 1 MAX_TRAIN_LENGTH_M (omega arith)).later _ (λ length_m. then_later (limited_part 1 MAX_SPEED_MM_S (omega arith)).later _ (λ speed. then_later (limited_part 1 MAX_ACCEL_MM_S2 (omega arith)).later _ (λ accel. then_later (limited_part 1 MAX_ACCEL_MM_S2 (omega arith)).later _ (λ brake. then_later (limited_part 0 MAX_ALLOWANCE_PERCENT (omega arith)).later _ (λ allowance. done_later _)))))) t.name tt _ (λ l1.
    then_onward (limited_part 1 MAX_TRAIN_LENGTH_M (omega arith)) _ (λ length_m. then_later (limited_part 1 MAX_SPEED_MM_S (omega arith)).later _ (λ speed. then_later (limited_part 1 MAX_ACCEL_MM_S2 (omega arith)).later _ (λ accel. then_later (limited_part 1 MAX_ACCEL_MM_S2 (omega arith)).later _ (λ brake. then_later (limited_part 0 MAX_ALLOWANCE_PERCENT (omega arith)).later _ (λ allowance. done_later _))))) t.length_m tt _ (λ l2.
    then_onward (limited_part 1 MAX_SPEED_MM_S (omega arith)) _ (λ speed. then_later (limited_part 1 MAX_ACCEL_MM_S2 (omega arith)).later _ (λ accel. then_later (limited_part 1 MAX_ACCEL_MM_S2 (omega arith)).later _ (λ brake. then_later (limited_part 0 MAX_ALLOWANCE_PERCENT (omega arith)).later _ (λ allowance. done_later _)))) t.speed tt _ (λ l3.
    then_onward (limited_part 1 MAX_ACCEL_MM_S2 (omega arith)) _ (λ accel. then_later (limited_part 1 MAX_ACCEL_MM_S2 (omega arith)).later _ (λ brake. then_later (limited_part 0 MAX_ALLOWANCE_PERCENT (omega arith)).later _ (λ allowance. done_later _))) t.accel tt _ (λ l4.
    then_onward (limited_part 1 MAX_ACCEL_MM_S2 (omega arith)) _ (λ brake. then_later (limited_part 0 MAX_ALLOWANCE_PERCENT (omega arith)).later _ (λ allowance. done_later _)) t.brake tt _ (λ l5.
    then_onward (limited_part 0 MAX_ALLOWANCE_PERCENT (omega arith)) _ (λ allowance. done_later _) t.allowance tt [] (λ l6. done_onward _))))))

pub train_part : Part train_field train_fields train_text IsTrainWithinLimits AnyForm
train_part = record {
  reads = train_reads;
  right = λ t l. (
    is_between-true 1 MAX_TRAIN_NAME_BYTES (length t.name) (l.named.0, l.named.1),
    (
      is_utf8-from_IsUtf8 t.name l.named.2,
      (
        is_between-true 1 MAX_TRAIN_LENGTH_M t.length_m l.length_m,
        (
          is_between-true 1 MAX_SPEED_MM_S t.speed l.speed,
          (
            is_between-true 1 MAX_ACCEL_MM_S2 t.accel l.accel,
            (
              is_between-true 1 MAX_ACCEL_MM_S2 t.brake l.brake,
              (
                is_between-true 0 MAX_ALLOWANCE_PERCENT t.allowance (omega arith, l.allowance),
                tt,
              ),
            ),
          ),
        ),
      ),
    ),
  );
  bytes = λ t. simp (append-nil, append_assoc);
  form = λ t l. tt;
  full = λ t f r. record {
    named = (
      (between 1 MAX_TRAIN_NAME_BYTES (length t.name) r.0).0,
      (between 1 MAX_TRAIN_NAME_BYTES (length t.name) r.0).1,
      IsUtf8-from_is_utf8 t.name r.1.0,
    );
    length_m = between 1 MAX_TRAIN_LENGTH_M t.length_m r.1.1.0;
    speed = between 1 MAX_SPEED_MM_S t.speed r.1.1.1.0;
    accel = between 1 MAX_ACCEL_MM_S2 t.accel r.1.1.1.1.0;
    brake = between 1 MAX_ACCEL_MM_S2 t.brake r.1.1.1.1.1.0;
    allowance = (between 0 MAX_ALLOWANCE_PERCENT t.allowance r.1.1.1.1.1.1.0).1;
  };
  places = train_places;
  later = train_later;
  onward = λ t f. train_onward t;
}

-- ---- lists

-- some list of so many elements
abbrev pub any_items : {A : Type 0} → A → ℕ → List A
any_items some count = replicate count some

pub all_any : {A : Type 0} (Form : A → Type 0) (some : A) → Form some → (count : ℕ) → AllByRecursion Form (any_items some count)
all_any Form some formed zero = tt
all_any Form some formed (suc count) = (formed, all_any Form some formed count)

pub each_form : {A : Type 0} (P Q : A → Type 0) → ((a : A) → P a → Q a) → (x : List A) → AllByRecursion P x → AllByRecursion Q x
each_form P Q there [] h = tt
each_form P Q there (a ∷ x) h = (there a h.0, each_form P Q there x h.1)

items_places : {A B : Type 0} {item : Reading A} {fields : A → List Field} {text : A → List ℕ} {Limits Form : A → Type 0} → Part item fields text Limits Form → (some : A) → Form some → (g : B → List Field) (before : List Field) (count : ℕ)
    → ((x : List A) → AllByRecursion Form x → length x ≡ count → Begins g (before ++ flat_map fields x)) → Places g before (items_field item count)
unfolding items_field
items_places part some formed g before zero opens = done_places g before _
items_places {A} {fields = fields} {Form = Form} part some formed g before (suc count) opens =
    let put : (first : A) (others : List A) → Begins g (before ++ flat_map fields (first ∷ others)) → Begins g (before ++ (fields first ++ flat_map fields others)) = λ first others. subst (λ (t : List Field). Begins g (before ++ t)) (flat_map-cons fields first others) in
    then_places part g before
    (λ first f. begins_front g before (fields first) (flat_map fields (any_items some count)) (put first (any_items some count) (opens (first ∷ any_items some count) (f, all_any Form some formed count) (ap suc (length-replicate count some))))) _ (λ first l.
    last_places g (before ++ fields first) (items_places part some formed g (before ++ fields first) count (λ others each len. begins_past g before (fields first) (flat_map fields others) (put first others (opens (first ∷ others) (part.form first l, each) (ap suc len))))) (λ others. first ∷ others))

items_later : {A : Type 0} {item : Reading A} → Later item → (count : ℕ) → Later (items_field item count)
unfolding items_field
items_later later zero = done_later _
items_later later (suc count) = then_later later _ (λ first. then_later (items_later later count) _ (λ others. done_later _))

items_onward : {A : Type 0} {item : Reading A} {fields : A → List Field} {text : A → List ℕ} {Limits Form : A → Type 0} → Part item fields text Limits Form → (x : List A) → AllByRecursion Form x → Onward (items_field item (length x)) (flat_map fields x)
unfolding items_field
items_onward part [] each = done_onward _
items_onward {item = item} {fields} part (a ∷ x) each =
    subst (λ (t : List Field). Onward (items_field item (length (a ∷ x))) t) (sym (flat_map-cons fields a x))
    (then_onward part (λ first. items_field item (length x) >>= λ others. done (first ∷ others)) (λ first. then_later (items_later part.later (length x)) _ (λ others. done_later _)) a each.0 (flat_map fields x)
    (λ l. last_onward (items_onward part x each.1) (λ others. a ∷ others)))

list_places_in : {A B : Type 0} (least most : ℕ) → most < 2 ^ 32 → {item : Reading A} {fields : A → List Field} {text : A → List ℕ} {Limits Form : A → Type 0} → Part item fields text Limits Form → (some : A) → Form some → (g : B → List Field) (before : List Field)
    → ((x : List A) → AllByRecursion Form x → Begins g (before ++ list_fields least most fields x)) → Places g before (list_field least most item)
unfolding list_field
list_places_in {A} least most lt {fields = fields} {Form = Form} part some formed g before opens =
    let counted : (count : ℕ) (x : List A) → AllByRecursion Form x → length x ≡ count → Begins g (before ++ (number_of count (is_between least most count) ∷ flat_map fields x)) = λ count x each len. subst (λ (n : ℕ). Begins g (before ++ (number_of n (is_between least most n) ∷ flat_map fields x))) len (opens x each) in
    then_places (limited_part least most lt) g before (λ count f. begins_front g before (number_of count (is_between least most count) ∷ []) (flat_map fields (any_items some count)) (counted count (any_items some count) (all_any Form some formed count) (length-replicate count some))) _ (λ count l.
    items_places part some formed g (before ++ number_of count (is_between least most count) ∷ []) count (λ x each len. begins_past g before (number_of count (is_between least most count) ∷ []) (flat_map fields x) (counted count x each len)))

list_later : {A : Type 0} (least most : ℕ) → most < 2 ^ 32 → {item : Reading A} → Later item → Later (list_field least most item)
unfolding list_field
list_later least most lt later = then_later (limited_part least most lt).later _ (λ count. items_later later count)

list_onward : {A : Type 0} (least most : ℕ) → most < 2 ^ 32 → {item : Reading A} {fields : A → List Field} {text : A → List ℕ} {Limits Form : A → Type 0} → Part item fields text Limits Form → (x : List A) → AllByRecursion Form x
    → Onward (list_field least most item) (list_fields least most fields x)
unfolding list_field
list_onward least most lt {item} {fields} part x each =
    then_onward (limited_part least most lt) (λ count. items_field item count) (λ count. items_later part.later count) (length x) tt (flat_map fields x) (λ l. items_onward part x each)

each_full : {A : Type 0} (fields : A → List Field) (Limits Form : A → Type 0) → ((a : A) → Form a → AreRight (fields a) → Limits a) → (x : List A) → AllByRecursion Form x → AreRight (flat_map fields x) → AllByRecursion Limits x
each_full fields Limits Form full [] each h = tt
each_full fields Limits Form full (a ∷ x) each h =
    let both = right_parts (fields a) (flat_map fields x) (subst AreRight (flat_map-cons fields a x) h) in
    (full a each.0 both.0, each_full fields Limits Form full x each.1 both.1)

pub each_right : {A : Type 0} (fields : A → List Field) (Limits : A → Type 0) → ((a : A) → Limits a → AreRight (fields a)) → (x : List A) → AllByRecursion Limits x → AreRight (flat_map fields x)
each_right fields Limits right [] h = tt
each_right fields Limits right (a ∷ x) h = subst AreRight (sym (flat_map-cons fields a x)) (right_both (fields a) (flat_map fields x) (right a h.0) (each_right fields Limits right x h.1))

pub each_bytes : {A : Type 0} (fields : A → List Field) (text : A → List ℕ) → ((a : A) → bytes_of (fields a) ≡ text a) → (x : List A) → bytes_of (flat_map fields x) ≡ flat_map text x
each_bytes fields text bytes [] = refl
each_bytes fields text bytes (a ∷ x) =
    ap bytes_of (flat_map-cons fields a x) ∙ bytes_both (fields a) (flat_map fields x)
    ∙ ap (λ (t : List ℕ). t ++ bytes_of (flat_map fields x)) (bytes a) ∙ ap (λ (t : List ℕ). text a ++ t) (each_bytes fields text bytes x)
    ∙ sym (flat_map-cons text a x)

pub list_part : {A : Type 0} (least most : ℕ) → most < 2 ^ 32 → (item : Reading A) (fields : A → List Field) (text : A → List ℕ) (Limits Form : A → Type 0) → Part item fields text Limits Form → (some : A) → Form some
    → Part (list_field least most item) (list_fields least most fields) (list_text text) (IsListOf least most Limits) (AllByRecursion Form)
list_part {A} least most lt item fields text Limits Form part some formed = record {
  reads = list_reads least most lt item text Limits part.reads;
  right = λ x l. (is_between-true least most (length x) (l.some, l.count), each_right fields Limits part.right x l.each);
  bytes = λ x. bytes_both (number_of (length x) (is_between least most (length x)) ∷ []) (flat_map fields x) ∙ ap (λ (t : List ℕ). to_be_bytes w32 (length x) ++ t) (each_bytes fields text part.bytes x);
  form = λ x l. each_form Limits Form part.form x l.each;
  full = λ x f r. let b = between least most (length x) r.0 in record { some = b.0; count = b.1; each = each_full fields Limits Form part.full x f r.1 };
  places = list_places_in least most lt part some formed (of_form (AllByRecursion Form) (list_fields least most fields)) [] (λ x f. ((x, f), [], sym (append-nil (list_fields least most fields x))));
  later = list_later least most lt part.later;
  onward = list_onward least most lt part;
}

-- ---- claims one behind another

pub claims_places : {B : Type 0} (g : B → List Field) (before : List Field) (count : ℕ) (last : Claim) → ((x : List Claim) → AllByRecursion ClaimForm x → length x ≡ count → Begins g (before ++ claims_fields last x)) → Places g before (claims_field count last)
unfolding claims_field
claims_places g before zero last opens = done_places g before _
claims_places g before (suc count) last opens =
    then_places (next_claim_part last) g before
    (λ first f. begins_front g before (next_claim_fields last first) (claims_fields first (any_items before_all count)) (opens (first ∷ any_items before_all count) (f, all_any ClaimForm before_all (omega arith) count) (ap suc (length-replicate count before_all)))) _ (λ first l.
    last_places g (before ++ next_claim_fields last first) (claims_places g (before ++ next_claim_fields last first) count first (λ others each len. begins_past g before (next_claim_fields last first) (claims_fields first others) (opens (first ∷ others) (l.0.0, each) (ap suc len)))) (λ others. first ∷ others))

pub claims_later : (count : ℕ) (last : Claim) → Later (claims_field count last)
unfolding claims_field
claims_later zero last = done_later _
claims_later (suc count) last = then_later (next_claim_part last).later _ (λ first. then_later (claims_later count first) _ (λ others. done_later _))

pub claims_onward : (last : Claim) (x : List Claim) → AllByRecursion ClaimForm x → Onward (claims_field (length x) last) (claims_fields last x)
unfolding claims_field
claims_onward last [] each = done_onward _
claims_onward last (c ∷ x) each =
    then_onward (next_claim_part last) (λ first. claims_field (length x) first >>= λ others. done (first ∷ others)) (λ first. then_later (claims_later (length x) first) _ (λ others. done_later _)) c each.0 (claims_fields c x)
    (λ l. last_onward (claims_onward c x each.1) (λ others. c ∷ others))

pub claims_full : (last : Claim) (x : List Claim) → AllByRecursion ClaimForm x → AreRight (claims_fields last x) → AreNext last x
claims_full last [] each h = tt
claims_full last (c ∷ x) each h =
    let both = right_parts (next_claim_fields last c) (claims_fields c x) h in
    (next_claim_full last c each.0 both.0, claims_full c x each.1 both.1)

pub claims_right : (last : Claim) (x : List Claim) → AreNext last x → AreRight (claims_fields last x)
claims_right last [] h = tt
claims_right last (c ∷ x) h = right_both (next_claim_fields last c) (claims_fields c x) ((next_claim_part last).right c h.0) (claims_right c x h.1)

pub claims_bytes : (last : Claim) (x : List Claim) → bytes_of (claims_fields last x) ≡ flat_map claim_text x
claims_bytes last [] = refl
claims_bytes last (c ∷ x) =
    bytes_both (next_claim_fields last c) (claims_fields c x)
    ∙ ap (λ (t : List ℕ). t ++ bytes_of (claims_fields c x)) ((next_claim_part last).bytes c) ∙ ap (λ (t : List ℕ). claim_text c ++ t) (claims_bytes c x)
    ∙ sym (flat_map-cons claim_text c x)
