-- Trains within their limits, and one more behind them.
use Rattle.std.proofs.Common.{◌≡◌, ℕ, zero, suc, ◌<◌, ◌≤◌, List, [], ◌∷◌, ◌++◌, length, get_or, map, Bool, true, false, ◌||◌, refl, sym, ap, ◌∙◌, subst, arith, length-append}
use Rattle.std.proofs.lemmas.Slice.Eq.{bytes_eq-Decides}
use Rattle.std.proofs.lemmas.List.Elements.{All-nil, All-push}
use Rattle.std.proofs.lemmas.List.Quantifiers.{all_pairs_push}
use Rattle.std.specs.Prelude.{◌≢◌}
use Rattle.std.specs.List.{list_any}
use Rattle.std.specs.Str.{bytes_eq}
use Rattle.rail_types.specs.declared.trains.Train.{Train}
use Rattle.rail_types.specs.declared.limits.TheConstants.{MAX_TRAINS}
use Rattle.rail_types.specs.Limits.{IsTrainWithinLimits}
use Rattle.train_file.specs.Trains.{AreTrains, name_of}

either_true : (b : Bool) → b || true ≡ true
either_true true = refl
either_true false = refl

known_there : (name : List ℕ) (trains : List Train) (k : ℕ) (d : Train) → k < length trains → (get_or trains k d).name ≡ name → list_any (bytes_eq name) (map name_of trains) ≡ true
known_there name [] k d h e = absurd (omega arith)
known_there name (x ∷ xs) zero d h e = ap (λ (b : Bool). b || list_any (bytes_eq name) (map name_of xs)) ((bytes_eq-Decides name x.name).1 (sym e))
known_there name (x ∷ xs) (suc k) d h e = ap (λ (b : Bool). bytes_eq name x.name || b) (known_there name xs k d (omega arith) e) ∙ either_true (bytes_eq name x.name)

pub no_trains : AreTrains []
no_trains = record {
  few = omega arith;
  each = All-nil IsTrainWithinLimits;
  distinct = λ i j d less h. absurd (omega arith);
}

pub trains_on : (trains : List Train) (train : Train) → AreTrains trains → length trains < MAX_TRAINS → IsTrainWithinLimits train → list_any (bytes_eq train.name) (map name_of trains) ≡ false → AreTrains (trains ++ train ∷ [])
trains_on trains train are room within fresh = record {
  few = (let long = length-append trains (train ∷ []) in omega arith);
  each = All-push IsTrainWithinLimits trains train are.each within;
  distinct = all_pairs_push (λ (one other : Train). one.name ≢ other.name) trains train are.distinct (λ k d h e.
      let known = known_there train.name trains k d h e in
      let both : true ≡ false = sym known ∙ fresh in
      absurd (cc));
}
