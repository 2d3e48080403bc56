-- What moves of the plan of a request lead to is a place of the request.
use Rattle.std.proofs.Common.{◌≡◌, ◌∙◌, inl, inr, sym, ap, arith, ℕ, ◌+◌, ◌-◌, ◌≤◌, List, [], ◌∷◌, length, get_or}
use Rattle.std.proofs.Math.ListN.{get_or-eq_default}
use Rattle.std.proofs.lemmas.Bool.{cases_lt}
use Rattle.std.proofs.lemmas.Option.{get_or_from_slice_get, slice_get_within}
use Rattle.rail_types.specs.declared.tracks.Network.{Network}
use Rattle.rail_types.specs.declared.trains.Request.{Request}
use Rattle.rail_types.specs.declared.entries.Settings.{Settings}
use Rattle.stair_pieces.specs.declared.places.Place.{Place}
use Rattle.stair_pieces.specs.declared.places.Step.{Step}
use Rattle.stair_pieces.specs.Moves.{IsEnd, IsMove, IsPlace, begun, gone_on}
use Rattle.stair_pieces.specs.Places.{place_after, start_place}
use Rattle.tail_states.specs.Listed.{Listed}
use Rattle.label_search.specs.declared.plans.Plan.{Plan}
use Rattle.label_search.specs.declared.plans.Target.TheVariants.{Place as To, End}
use Rattle.label_search.specs.Closed.{IsLedOver, IsLedTo}
use Rattle.label_search.specs.Paths.{move_at, place_at}
use Rattle.path_labels.specs.Joining.{IsPlannedFrom, move_of, moves_of}
use Rattle.path_labels.proofs.Standing.{IsAt, at_start, count_is, leads_on, listed_at}

module _ (net : Network) (settings : Settings) (request : Request) (listed : Listed) (plan : Plan) (all : IsPlannedFrom net settings request listed plan) where
  -- the planned place of a number is listed, and is a place of the request
  pub record IsReachedAt (number : ℕ) : Type 0 where
    pub place : Place
    pub here : IsAt net settings request listed plan all number place
    pub among : IsPlace net request place
    pub behind : (1 ≤ number) × (number ≤ length listed.members)
    pub member : get_or listed.members (number - 1) start_place ≡ place

  -- so is what a move from it leads to
  next_reached : (from number to : ℕ) (place : Place) → IsAt net settings request listed plan all from place → (move_at plan from number).target ≡ To to
      → ((step : Step) → IsMove net request place step → ¬ IsEnd request place step → IsPlace net request (place_after net request.train place step)) → IsReachedAt to
  next_reached from number to place at target goes = elim (cases_lt number (length (moves_of listed from))) [
    | inl within ↦
        let leads = leads_on net settings request listed plan all from place at number within to target in
        let step = (move_of listed from number).step in
        let after = place_after net request.train place step in
        let n = leads.listed_number.0 in
        let same = leads.listed_number.1 in
        let inside = slice_get_within listed.members n after leads.listed_number.2 in
        let back : to - 1 ≡ n = omega (arith, same) in
        record {
          place = after;
          here = leads.there;
          among = goes step (listed_at net settings request listed plan all from place at number within).allowed leads.no_end;
          behind = (omega (arith, same), omega (arith, same, inside));
          member = ap (λ k. get_or listed.members k start_place) back ∙ get_or_from_slice_get listed.members n after start_place leads.listed_number.2;
        }
    | inr past ↦ absurd (let none : End ≡ To to = sym (ap (λ (m : _). m.target) (get_or-eq_default (place_at plan from).moves _ (omega (arith, past, count_is net settings request listed plan all from place at)))) ∙ target in cc)
  ]

  reached_over : (over : List ℕ) (to : ℕ) → IsLedOver plan over to → IsReachedAt to
  reached_over [] to led = next_reached 0 led.0 to start_place (at_start net settings request listed plan all) led.1 (λ step move goes_on. begun step move goes_on)
  reached_over (from ∷ before) to led =
      let last = reached_over before from led.0 in
      next_reached from led.1.0 to last.place last.here led.1.1 (λ step move goes_on. gone_on last.place step last.among move goes_on)

  pub reached_at : (number : ℕ) → IsLedTo plan number → IsReachedAt number
  reached_at number led = reached_over led.0 number led.1
