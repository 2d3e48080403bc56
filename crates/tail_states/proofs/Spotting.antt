-- What strides lead to.
use Rattle.std.proofs.Common.{◌≡◌, ◌∙◌, inl, inr, refl, sym, ap, subst, arith, ℕ, ◌<◌, ◌≤◌, List, [], ◌∷◌, Some, All, length, length-append}
use Rattle.std.specs.Prelude.{slice_get}
use Rattle.std.proofs.lemmas.List.Elements.{All-nil, All-cons, All-append, All-contains}
use Rattle.rail_types.specs.declared.tracks.Network.{Network}
use Rattle.rail_types.specs.declared.trains.Train.{Train}
use Rattle.running_time.specs.declared.edges.Edge.{Edge}
use Rattle.running_time.specs.Limits.{IsEnterWithinLimits}
use Rattle.blocking_time.specs.Runs.{block_at}
use Rattle.stair_pieces.specs.declared.places.Place.{Place}
use Rattle.stair_pieces.specs.declared.places.Step.{Step}
use Rattle.stair_pieces.specs.Places.{start_place, place_after}
use Rattle.stair_pieces.specs.Steps.{IsTailIn}
use Rattle.tail_states.specs.Listed.{HasNoneTwice, Interns}
use Rattle.tail_states.specs.Spots.{AreSpotsFound, HasMoreSpotsThan, IsReached, IsSpotFrom, IsSpotOf, IsStride, MayRun, run_on, set_out, spot_after, with_made}
use Rattle.tail_states.proofs.Numbers.{contains_at}

module _ (net : Network) (train : Train) where
  pub start_from : MayRun net train → IsSpotFrom net train start_place
  start_from may = record {
    from = inl refl;
    under = record { blocks = may.blocks; train_fits = may.train_fits; numbers = All-nil (λ block. block < length net.blocks) };
    begins = λ none. refl;
    made = refl;
  }

  pub spot_from : (spot : Place) → IsSpotOf net train spot → IsSpotFrom net train spot
  spot_from spot is = record { from = inr is.reached; under = is.under; begins = λ none. absurd (is.gone none); made = is.made }

  -- a copy of the spot of a number
  pub spot_of_member : (spots : List Place) → AreSpotsFound net train spots → (number : ℕ) (there copy : Place) → slice_get spots number ≡ Some there → copy ≡ there → IsSpotOf net train copy
  spot_of_member spots found number there copy at same = subst (IsSpotOf net train) (sym same) (All-contains (IsSpotOf net train) spots there found.sound (contains_at spots number there at))

  -- a path may begin on a block that is served
  pub sets_out : (block : ℕ) (start : Place) (exit : Edge) → block < length net.blocks → ¬ ((block_at net block).serves ≡ []) → start ≡ start_place → IsStride net start (record { block = block; exit = exit })
  sets_out block start exit within served is = subst (λ p. IsStride net p (record { block = block; exit = exit })) (sym is) (record { within = within; follows = served; halts = λ stops. served })

  reached_after : (spot : Place) (step : Step) → IsSpotFrom net train spot → IsStride net spot step → IsReached net train (spot_after net train spot step)
  reached_after spot step here stride = elim here.from [
    | inl starts ↦ subst (λ p. IsReached net train (spot_after net train p step)) (sym starts) (set_out step (subst (λ p. IsStride net p step) starts stride))
    | inr among ↦ run_on spot step among stride
  ]

  -- behind a stride is a spot
  pub spot_behind : (spot : Place) (step : Step) (after behind : Place) → IsSpotFrom net train spot → IsStride net spot step → after ≡ place_after net train spot step
      → IsTailIn net train after.tail → (after.tail ≡ [] → ⊥) → IsEnterWithinLimits after.entered → behind ≡ with_made after 0 → IsSpotOf net train behind
  spot_behind spot step after behind here stride is under gone entered spot_is = subst (IsSpotOf net train) (sym spot_is) (record {
    reached = subst (λ p. IsReached net train (with_made p 0)) (sym is) (reached_after spot step here stride);
    under = under;
    gone = gone;
    entered = entered;
    made = refl;
  })

  module _ (old new : List Place) (spot : Place) (found : AreSpotsFound net train old) (is : IsSpotOf net train spot) (interns : Interns old new spot) where
    sound_still : All (IsSpotOf net train) new
    sound_still = elim interns [
      | inl same ↦ subst (All (IsSpotOf net train)) (sym same) found.sound
      | inr more ↦ subst (All (IsSpotOf net train)) (sym more) (All-append (IsSpotOf net train) old (spot ∷ []) found.sound (All-cons (IsSpotOf net train) spot [] is (All-nil (IsSpotOf net train))))
    ]

    one_more : length new ≤ 16385
    one_more = elim interns [
      | inl same ↦ omega (arith, found.few, ap length same)
      | inr more ↦ omega (arith, found.few, ap length more ∙ length-append old (spot ∷ []))
    ]

    pub found_still : HasNoneTwice new → length new ≤ 16384 → AreSpotsFound net train new
    found_still distinct few = record { sound = sound_still; distinct = distinct; few = few }

    pub too_many : HasNoneTwice new → 16384 < length new → (length new ≡ 16385) × HasMoreSpotsThan 16384 net train
    too_many distinct many = (omega (arith, one_more, many), (new, many, distinct, sound_still))
