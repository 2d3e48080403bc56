-- The text of a proof: a line of what was asked at which front, a line of how many members there
-- are, and a line for each member.
use Rattle.std.specs.Prelude.{ℕ, List, [], ◌∷◌, ◌++◌, length, map, codes, decimal, flat_map}
use Rattle.std.specs.List.{slice_index_or}
use Rattle.std.specs.Fmt.{signed_decimal}
use Rattle.json_fields.specs.Escapes.{escaped}
use Rattle.rail_types.specs.declared.trains.Stop.{Stop}
use Rattle.rail_types.specs.declared.trains.Request.{Request}
use Rattle.client_lines.specs.Fields.{flag_field, line_of, said}
use Rattle.running_time.specs.declared.edges.Enter.{Enter}
use Rattle.running_time.specs.declared.edges.Enter.TheVariants.{Still, From}
use Rattle.tail_states.specs.declared.certificates.Member.{Member}
use Rattle.proof_texts.specs.declared.refusals.Proof.{Proof}

-- the name of an operational point
abbrev pub name_at : List (List ℕ) → ℕ → List ℕ
name_at stops point = slice_index_or stops point []

-- STOP DWELL
abbrev pub stop_fields : List (List ℕ) → Stop → List (List ℕ)
stop_fields stops stop = escaped (name_at stops stop.stop) ∷ decimal stop.dwell ∷ []

-- COUNT, then COUNT times STOP DWELL
abbrev pub counted_fields : List (List ℕ) → List Stop → List (List ℕ)
counted_fields stops items = decimal (length items) ∷ flat_map (stop_fields stops) items

-- DEPART_FROM DEPART_TO ARRIVE_FROM ARRIVE_TO, and the stops
abbrev pub time_fields : List (List ℕ) → Request → List (List ℕ)
time_fields stops request =
    signed_decimal request.depart.from ∷ signed_decimal request.depart.to
    ∷ signed_decimal request.arrive.from ∷ signed_decimal request.arrive.to
    ∷ counted_fields stops request.stops

-- TRAIN ORIGIN DESTINATION, and when
abbrev pub request_fields : List (List ℕ) → Request → List (List ℕ)
request_fields stops request =
    escaped request.train.name ∷ escaped (name_at stops request.origin)
    ∷ escaped (name_at stops request.destination) ∷ time_fields stops request

-- `ask N`, and then the request
abbrev pub asked_fields : List (List ℕ) → Proof → List (List ℕ)
asked_fields stops proof =
    codes "ask" ∷ decimal proof.number ∷ request_fields stops proof.request

-- `proof at M`, and what was asked for
abbrev pub head_fields : List (List ℕ) → Proof → List (List ℕ)
head_fields stops proof =
    codes "proof" ∷ codes "at" ∷ decimal proof.at ∷ asked_fields stops proof

-- `members C`
abbrev pub count_fields : ℕ → List (List ℕ)
count_fields count = said (codes "members") count

-- 0 for a block that was entered from stand, else the speed in the block before
abbrev pub entered_number : Enter → ℕ
entered_number Still = 0
entered_number (From speed) = speed

-- ENTERED STANDING MADE FROM TO
abbrev pub state_fields : Member → List (List ℕ)
state_fields member =
    decimal (entered_number member.place.entered) ∷ flag_field member.place.standing
    ∷ decimal member.place.made ∷ signed_decimal member.window.from
    ∷ signed_decimal member.window.to ∷ []

-- the blocks, and then the state
abbrev pub place_fields : Member → List (List ℕ)
place_fields member = map decimal member.place.tail ++ state_fields member

-- `member T`, then T blocks, and then ENTERED STANDING MADE FROM TO
abbrev pub member_fields : Member → List (List ℕ)
member_fields member =
    codes "member" ∷ decimal (length member.place.tail) ∷ place_fields member

-- fields as a line with its end
abbrev pub ended : List (List ℕ) → List ℕ
ended fields = line_of fields ++ 10 ∷ []

abbrev pub member_text : Member → List ℕ
member_text member = ended (member_fields member)

-- a proof as it is written, operational points by their names
abbrev pub proof_text : List (List ℕ) → Proof → List ℕ
proof_text stops proof =
    ended (head_fields stops proof)
    ++ (ended (count_fields (length proof.closed.members))
    ++ flat_map member_text proof.closed.members)
