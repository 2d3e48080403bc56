-- What groups of fields say, as they are written.
use Rattle.std.proofs.Common.{◌≡◌, ◌∙◌, ap, sym, refl, subst, ℕ, zero, suc, ◌≤◌, ◌+◌, List, [], ◌∷◌, ◌++◌, length, Option, Some, None, decimal, arith}
use Rattle.std.specs.List.{All, flat_map}
use Rattle.std.specs.Fmt.{signed_decimal}
use Rattle.std.proofs.lemmas.List.{append-nil}
use Rattle.std.proofs.lemmas.List.Elements.{All-cons, All-head, All-nil, All-tail}
use Rattle.json_fields.specs.Escapes.{escaped}
use Rattle.rail_types.specs.IdLists.{number_of}
use Rattle.train_file.specs.Trains.{train_named}
use Rattle.rail_types.specs.declared.limits.TheConstants.{MAX_DWELL, MAX_STOPS}
use Rattle.rail_types.specs.declared.paths.Window.{Window}
use Rattle.rail_types.specs.declared.trains.Request.{Request}
use Rattle.rail_types.specs.declared.trains.Stop.{Stop}
use Rattle.rail_types.specs.declared.trains.Train.{Train}
use Rattle.rail_types.specs.Limits.{IsWindowWithinLimits}
use Rattle.client_lines.specs.Forms.{Form, Spells, a_name, a_number, a_tick, chain, done, one}
use Rattle.client_lines.specs.Lines.{a_point, a_request, a_stop, a_window, groups, some_tick}
use Rattle.client_lines.specs.Names.{Names}
use Rattle.proof_texts.specs.Texts.{counted_fields, name_at, request_fields, stop_fields, time_fields}
use Rattle.proof_texts.specs.Told.{IsPointOf, IsRequestOf, IsStopOf, IsTrainOf}
use Rattle.proof_texts.proofs.Words.{first_of, point_told, tell_number, tell_point, tell_train, then_one, train_told}

-- a form whose fields are the text of what they say, of which so much is known
pub record IsSpelled {A : Type 0} (form : Form A) (text : A → List (List ℕ)) (Is : A → Type 0) : Type 0 where
  pub told : (fields : List (List ℕ)) (said : A) → Spells form fields said → (fields ≡ text said) × Is said
  pub tells : (said : A) → Is said → Spells form (text said) said

-- ---- groups

module _ {A : Type 0} (text : A → List (List ℕ)) (Is : A → Type 0) (group : Option A → Form A) (each : (before : Option A) → IsSpelled (group before) text Is) where
  pub groups_told : (count : ℕ) (before : Option A) (fields : List (List ℕ)) (items : List A) → Spells (groups group before count) fields items
      → (fields ≡ flat_map text items) × (All Is items × (length items ≡ count))
  unfolding groups
  groups_told zero before fields items s = subst (λ (xs : List A). (fields ≡ flat_map text xs) × (All Is xs × (length xs ≡ 0))) (sym s.1) (s.0, (All-nil Is, refl))
  groups_told (suc count) before fields items s =
      let here = (each before).told s.1 s.0 s.4 in
      let on = groups_told count (Some s.0) s.5.1 s.5.0 s.5.4 in
      let behind : s.2 ≡ flat_map text s.5.0 = s.5.3 ∙ (ap (λ (back : List (List ℕ)). s.5.1 ++ back) s.5.5.0 ∙ append-nil s.5.1) ∙ on.0 in
      let all : fields ≡ flat_map text (s.0 ∷ s.5.0) = s.3 ∙ (ap (λ (front : List (List ℕ)). front ++ s.2) here.0 ∙ ap (λ (back : List (List ℕ)). text s.0 ++ back) behind) in
      subst (λ (xs : List A). (fields ≡ flat_map text xs) × (All Is xs × (length xs ≡ suc count))) (sym s.5.5.1)
      (all, (All-cons Is s.0 s.5.0 here.1 on.1.0, ap suc on.1.1))

  pub tell_groups : (items : List A) (before : Option A) → All Is items → Spells (groups group before (length items)) (flat_map text items) items
  unfolding groups
  tell_groups [] before all = (refl, refl)
  tell_groups (item ∷ items) before all =
      let here = (each before).tells item (All-head Is item items all) in
      let on = tell_groups items (Some item) (All-tail Is item items all) in
      (item, text item, flat_map text items, refl, here, (items, flat_map text items, [], sym (append-nil (flat_map text items)), on, (refl, refl)))

-- ---- windows

abbrev pub window_text : Window → List (List ℕ)
window_text window = signed_decimal window.from ∷ signed_decimal window.to ∷ []

pub window_is : IsSpelled a_window window_text IsWindowWithinLimits
unfolding a_window
window_is = record {
  told = λ fields window s.
      let from = first_of (a_tick None) (λ from. chain some_tick (λ to. done (record { from = from; to = to }))) fields window s in
      let to = first_of (a_tick None) (λ to. done (record { from = from.first; to = to })) from.rest window from.spelled in
      let all : fields ≡ from.field ∷ (to.field ∷ []) = from.parts ∙ ap (λ (rest : List (List ℕ)). from.field ∷ rest) (to.parts ∙ ap (λ (rest : List (List ℕ)). to.field ∷ rest) to.spelled.0) in
      let texts : fields ≡ signed_decimal from.first ∷ (signed_decimal to.first ∷ []) = all ∙ (ap (λ (field : List ℕ). field ∷ (to.field ∷ [])) from.says.0 ∙ ap (λ (field : List ℕ). signed_decimal from.first ∷ (field ∷ [])) to.says.0) in
      subst (λ (w : Window). (fields ≡ window_text w) × IsWindowWithinLimits w) (sym to.spelled.1) (texts, record { from = from.says.1; to = to.says.1 });
  tells = λ window is.
      then_one (a_tick None) (λ from. chain some_tick (λ to. done (record { from = from; to = to }))) (signed_decimal window.from) (signed_decimal window.to ∷ []) window.from window (refl, is.from, tt)
      (then_one (a_tick None) (λ to. done (record { from = window.from; to = to })) (signed_decimal window.to) [] window.to window (refl, is.to, tt) (refl, refl));
}

-- ---- stops

module _ (known : Names) where
  abbrev pub stops : List (List ℕ)
  stops = known.railway.stops

  abbrev stop_of : ℕ → Form Stop
  stop_of stop = chain (one (a_number 0 (MAX_DWELL + 1))) (λ dwell. done (record { stop = stop; dwell = dwell }))

  pub stop_is : (before : Option Stop) → IsSpelled (a_stop known before) (stop_fields stops) (IsStopOf known)
  unfolding a_stop
  stop_is before = record {
    told = λ fields stop s.
        let point = first_of (a_name (λ name. number_of name stops)) stop_of fields stop s in
        let dwell = first_of (a_number 0 (MAX_DWELL + 1)) (λ dwell. done (record { stop = point.first; dwell = dwell })) point.rest stop point.spelled in
        let named = point_told known point.field point.first point.says in
        let all : fields ≡ point.field ∷ (dwell.field ∷ []) = point.parts ∙ ap (λ (rest : List (List ℕ)). point.field ∷ rest) (dwell.parts ∙ ap (λ (rest : List (List ℕ)). dwell.field ∷ rest) dwell.spelled.0) in
        let texts : fields ≡ escaped (name_at stops point.first) ∷ (decimal dwell.first ∷ []) = all ∙ (ap (λ (field : List ℕ). field ∷ (dwell.field ∷ [])) named.0 ∙ ap (λ (field : List ℕ). escaped (name_at stops point.first) ∷ (field ∷ [])) dwell.says.0) in
        subst (λ (one : Stop). (fields ≡ stop_fields stops one) × IsStopOf known one) (sym dwell.spelled.1) (texts, record { point = named.1; short = omega (arith, dwell.says.3) });
    tells = λ stop is.
        then_one (a_name (λ name. number_of name stops)) stop_of (escaped (name_at stops stop.stop)) (decimal stop.dwell ∷ []) stop.stop stop (tell_point known stop.stop is.point)
        (then_one (a_number 0 (MAX_DWELL + 1)) (λ dwell. done (record { stop = stop.stop; dwell = dwell })) (decimal stop.dwell) [] stop.dwell stop
        (tell_number (MAX_DWELL + 1) stop.dwell (omega (arith, is.short)) (omega (arith, is.short))) (refl, refl));
  }

  -- ---- requests

  abbrev counted : Train → ℕ → ℕ → Window → Window → Form Request
  counted train origin destination depart arrive =
      chain (one (a_number 0 (MAX_STOPS + 1))) (λ count. chain (groups (a_stop known) None count) (λ items. done (record { train = train; origin = origin; destination = destination; depart = depart; arrive = arrive; stops = items })))

  abbrev times : Train → ℕ → ℕ → Form Request
  times train origin destination = chain a_window (λ depart. chain a_window (λ arrive. counted train origin destination depart arrive))

  abbrev destined : Train → ℕ → Form Request
  destined train origin = chain (a_point known) (λ destination. times train origin destination)

  abbrev begun : Train → Form Request
  begun train = chain (a_point known) (λ origin. destined train origin)

  -- what is told of the stops of a request
  record IsCounted (train : Train) (origin destination : ℕ) (depart arrive : Window) (fields : List (List ℕ)) (request : Request) : Type 0 where
    items : List Stop
    text_is : fields ≡ counted_fields stops items
    count : length items ≤ MAX_STOPS
    all : All (IsStopOf known) items
    request_is : request ≡ record { train = train; origin = origin; destination = destination; depart = depart; arrive = arrive; stops = items }

  counted_told : (train : Train) (origin destination : ℕ) (depart arrive : Window) (fields : List (List ℕ)) (request : Request) → Spells (counted train origin destination depart arrive) fields request → IsCounted train origin destination depart arrive fields request
  counted_told train origin destination depart arrive fields request s =
      let count = first_of (a_number 0 (MAX_STOPS + 1)) (λ count. chain (groups (a_stop known) None count) (λ items. done (record { train = train; origin = origin; destination = destination; depart = depart; arrive = arrive; stops = items }))) fields request s in
      let more = count.spelled in
      let items = groups_told (stop_fields stops) (IsStopOf known) (a_stop known) stop_is count.first None more.1 more.0 more.4 in
      let behind : count.rest ≡ flat_map (stop_fields stops) more.0 = more.3 ∙ (ap (λ (back : List (List ℕ)). more.1 ++ back) more.5.0 ∙ append-nil more.1) ∙ items.0 in
      record {
        items = more.0;
        text_is = count.parts ∙ (ap (λ (field : List ℕ). field ∷ count.rest) (count.says.0 ∙ ap decimal (sym items.1.1)) ∙ ap (λ (rest : List (List ℕ)). decimal (length more.0) ∷ rest) behind);
        count = omega (arith, items.1.1, count.says.3);
        all = items.1.0;
        request_is = more.5.1;
      }

  tell_counted : (request : Request) → length request.stops ≤ MAX_STOPS → All (IsStopOf known) request.stops
      → Spells (counted request.train request.origin request.destination request.depart request.arrive) (counted_fields stops request.stops) request
  tell_counted request few all =
      then_one (a_number 0 (MAX_STOPS + 1)) (λ count. chain (groups (a_stop known) None count) (λ items. done (record { train = request.train; origin = request.origin; destination = request.destination; depart = request.depart; arrive = request.arrive; stops = items })))
      (decimal (length request.stops)) (flat_map (stop_fields stops) request.stops) (length request.stops) request (tell_number (MAX_STOPS + 1) (length request.stops) (omega (arith, few)) (omega (arith, few)))
      (request.stops, flat_map (stop_fields stops) request.stops, [], sym (append-nil (flat_map (stop_fields stops) request.stops)), tell_groups (stop_fields stops) (IsStopOf known) (a_stop known) stop_is request.stops None all, (refl, refl))

  -- what is told of the windows of a request
  record IsTimed (train : Train) (origin destination : ℕ) (fields : List (List ℕ)) (request : Request) : Type 0 where
    text_is : fields ≡ time_fields stops request
    depart : IsWindowWithinLimits request.depart
    arrive : IsWindowWithinLimits request.arrive
    count : length request.stops ≤ MAX_STOPS
    all : All (IsStopOf known) request.stops
    train_is : request.train ≡ train
    origin_is : request.origin ≡ origin
    destination_is : request.destination ≡ destination

  times_told : (train : Train) (origin destination : ℕ) (fields : List (List ℕ)) (request : Request) → Spells (times train origin destination) fields request → IsTimed train origin destination fields request
  times_told train origin destination fields request s =
      let depart = window_is.told s.1 s.0 s.4 in
      let more = s.5 in
      let arrive = window_is.told more.1 more.0 more.4 in
      let c = counted_told train origin destination s.0 more.0 more.2 request more.5 in
      let behind : s.2 ≡ window_text more.0 ++ counted_fields stops c.items = more.3 ∙ (ap (λ (front : List (List ℕ)). front ++ more.2) arrive.0 ∙ ap (λ (back : List (List ℕ)). window_text more.0 ++ back) c.text_is) in
      let all : fields ≡ window_text s.0 ++ (window_text more.0 ++ counted_fields stops c.items) = s.3 ∙ (ap (λ (front : List (List ℕ)). front ++ s.2) depart.0 ∙ ap (λ (back : List (List ℕ)). window_text s.0 ++ back) behind) in
      subst (λ (one : Request). IsTimed train origin destination fields one) (sym c.request_is)
      (record { text_is = all; depart = depart.1; arrive = arrive.1; count = c.count; all = c.all; train_is = refl; origin_is = refl; destination_is = refl })

  tell_times : (request : Request) → IsRequestOf known request → Spells (times request.train request.origin request.destination) (time_fields stops request) request
  tell_times request is = (
    request.depart,
    window_text request.depart,
    window_text request.arrive ++ counted_fields stops request.stops,
    refl,
    window_is.tells request.depart is.depart,
    (request.arrive, window_text request.arrive, counted_fields stops request.stops, refl, window_is.tells request.arrive is.arrive, tell_counted request is.count is.stops),
  )

  request_told : (fields : List (List ℕ)) (request : Request) → Spells (a_request known) fields request → (fields ≡ request_fields stops request) × IsRequestOf known request
  unfolding a_request
  request_told fields request s =
      let train = first_of (a_name (λ name. train_named name known.trains)) begun fields request s in
      let origin = first_of (a_name (λ name. number_of name stops)) (destined train.first) train.rest request train.spelled in
      let destination = first_of (a_name (λ name. number_of name stops)) (times train.first origin.first) origin.rest request origin.spelled in
      let t = times_told train.first origin.first destination.first destination.rest request destination.spelled in
      let by_train = train_told known train.field train.first train.says in
      let by_origin = point_told known origin.field origin.first origin.says in
      let by_destination = point_told known destination.field destination.first destination.says in
      let train_text : train.field ≡ escaped request.train.name = by_train.0 ∙ ap (λ (one : Train). escaped one.name) (sym t.train_is) in
      let origin_text : origin.field ≡ escaped (name_at stops request.origin) = by_origin.0 ∙ ap (λ (point : ℕ). escaped (name_at stops point)) (sym t.origin_is) in
      let destination_text : destination.field ≡ escaped (name_at stops request.destination) = by_destination.0 ∙ ap (λ (point : ℕ). escaped (name_at stops point)) (sym t.destination_is) in
      let all : fields ≡ train.field ∷ (origin.field ∷ (destination.field ∷ destination.rest)) =
      train.parts ∙ ap (λ (rest : List (List ℕ)). train.field ∷ rest) (origin.parts ∙ ap (λ (rest : List (List ℕ)). origin.field ∷ rest) destination.parts) in
      let texts : train.field ∷ (origin.field ∷ (destination.field ∷ destination.rest)) ≡ request_fields stops request = rw (train_text, origin_text, destination_text, t.text_is) refl in (
        all ∙ texts,
        record {
          train = subst (IsTrainOf known) (sym t.train_is) by_train.1;
          origin = subst (IsPointOf known) (sym t.origin_is) by_origin.1;
          destination = subst (IsPointOf known) (sym t.destination_is) by_destination.1;
          depart = t.depart;
          arrive = t.arrive;
          count = t.count;
          stops = t.all;
        },
      )

  tell_request : (request : Request) → IsRequestOf known request → Spells (a_request known) (request_fields stops request) request
  unfolding a_request
  tell_request request is =
      then_one (a_name (λ name. train_named name known.trains)) begun (escaped request.train.name) (escaped (name_at stops request.origin) ∷ (escaped (name_at stops request.destination) ∷ time_fields stops request)) request.train request (tell_train known request.train is.train)
      (then_one (a_name (λ name. number_of name stops)) (destined request.train) (escaped (name_at stops request.origin)) (escaped (name_at stops request.destination) ∷ time_fields stops request) request.origin request (tell_point known request.origin is.origin)
      (then_one (a_name (λ name. number_of name stops)) (times request.train request.origin) (escaped (name_at stops request.destination)) (time_fields stops request) request.destination request (tell_point known request.destination is.destination)
      (tell_times request is)))

  pub request_is : IsSpelled (a_request known) (request_fields stops) (IsRequestOf known)
  request_is = record { told = request_told; tells = tell_request }
