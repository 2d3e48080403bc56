-- The members of a certificate can be told.
use Rattle.std.proofs.Common.{◌≡◌, refl, sym, subst, ℕ, ◌+◌, ◌<◌, ◌≤◌, List, [], ◌∷◌, ◌++◌, length}
use Rattle.std.proofs.Common.{All, Bool, true, false, nat_lt, if◌then◌else◌, arith}
use Rattle.std.specs.List.{slice_index_or}
use Rattle.std.proofs.lemmas.Int.{ints}
use Rattle.std.proofs.lemmas.Bool.Decides.{nat_tests}
use Rattle.std.proofs.lemmas.List.Elements.{All-head, All-tail}
use Rattle.std.proofs.lemmas.List.Sums.{sum_by-cons}
use Rattle.rail_types.specs.declared.tracks.Network.{Network}
use Rattle.rail_types.specs.declared.trains.Request.{Request}
use Rattle.rail_types.specs.declared.trains.Train.{Train}
use Rattle.rail_types.specs.Limits.{IsBlockWithinLimits}
use Rattle.path_labels.specs.running.declared.edges.Enter.{Enter}
use Rattle.path_labels.specs.running.declared.edges.Enter.TheVariants.{Still, From}
use Rattle.path_labels.specs.running.Limits.{IsEnterWithinLimits}
use Rattle.blocking_time.specs.Runs.{block_at}
use Rattle.path_labels.specs.pieces.declared.places.Place.{Place}
use Rattle.path_labels.specs.pieces.Moves.{IsPlace, begun, gone_on}
use Rattle.path_labels.specs.pieces.Places.{metres_of, start_place, under_train}
use Rattle.path_labels.specs.tails.Asked.{PlacesMayBeCut, SoundNetworksAreAsked}
use Rattle.proof_texts.specs.Told.{IsEntered}
use Rattle.ask_turns.specs.CertificateLaws.{CertificatesCanBeTold}

module _ (net : Network) (blocks : All IsBlockWithinLimits net.blocks) where
  abbrev IsNumber : ℕ → Type 0
  IsNumber block = block < length net.blocks

  metre : (block : ℕ) → IsNumber block → 1 ≤ (block_at net block).length_m
  metre block within = (blocks block _ within).length_m.0

  -- each block has a metre at least
  metres_least : (tail : List ℕ) → All IsNumber tail → length tail ≤ metres_of net tail
  metres_least [] all = omega arith
  metres_least (block ∷ tail) all =
      let one = metre block (All-head IsNumber block tail all) in
      let more : metres_of net (block ∷ tail) ≡ (block_at net block).length_m + metres_of net tail = sum_by-cons (λ (b : ℕ). (block_at net b).length_m) block tail in
      let rest = metres_least tail (All-tail IsNumber block tail all) in
      omega (arith, one, rest, more)

  module _ (train : Train) where
    few_by : (block : ℕ) (tail : List ℕ) (is : Bool) → nat_lt (metres_of net tail) train.length_m ≡ is → (All IsNumber (under_train net train tail) → length (under_train net train tail) ≤ train.length_m)
        → All IsNumber (if is then block ∷ tail else under_train net train tail) → length (if is then block ∷ tail else under_train net train tail) ≤ train.length_m
    few_by block tail true is rest all =
        let least = metres_least tail (All-tail IsNumber block tail all) in
        let less : metres_of net tail < train.length_m = grind (arith, nat_tests, is) in
        omega (arith, least, less)
    few_by block tail false is rest all = rest all

    -- no more blocks are under a train than it has metres
    few_under : (tail : List ℕ) → All IsNumber (under_train net train tail) → length (under_train net train tail) ≤ train.length_m
    few_under [] all = omega arith
    few_under (block ∷ tail) all = few_by block tail (nat_lt (metres_of net tail) train.length_m) refl (few_under tail) all

tail_under : (net : Network) (request : Request) (place : Place) → IsPlace net request place → (tail : List ℕ) × (place.tail ≡ under_train net request.train tail)
tail_under net request place (begun step move more) = (start_place.tail ++ step.block ∷ [], refl)
tail_under net request place (gone_on before step is move more) = (before.tail ++ step.block ∷ [], refl)

entered_told : (entered : Enter) → IsEnterWithinLimits entered → IsEntered entered
entered_told Still is = tt
entered_told (From speed) is = (is.0, omega (arith, is.1))

module _ (asked : SoundNetworksAreAsked) (cut : PlacesMayBeCut) where
  pub can_be_told : CertificatesCanBeTold
  can_be_told known settings live proof sound settings_within within request is front line count =
      let net = known.railway.network in
      let ask = asked net proof.request sound within.train within.count in
      let may = cut net settings proof.request ask settings_within in
      record {
        front = front;
        line = line;
        request = request;
        count = count;
        members = λ k d less.
            let it = is.members k d less in
            let place = (slice_index_or proof.closed.members k d).place in
            let here = may.places place it.place in
            let tail = tail_under net proof.request place it.place in
            let few : length place.tail ≤ proof.request.train.length_m = subst (λ (xs : List ℕ). length xs ≤ proof.request.train.length_m) (sym tail.1)
            (few_under net ask.blocks proof.request.train tail.0 (subst (λ (xs : List ℕ). All (λ block. block < length net.blocks) xs) tail.1 here.under.numbers)) in
            let made = may.made place it.place in
            record {
              blocks = λ j e inside. (here.under.numbers j e inside, omega (arith, ask.points.count, here.under.numbers j e inside));
              count = omega (arith, few, within.train.length_m.1);
              entered = entered_told place.entered here.entered;
              made = omega (arith, made, within.count);
              within = record {
                from = (omega (arith, ints, it.ticks.0), omega (arith, ints, it.some, it.ticks.1, settings_within.horizon.1));
                to = (omega (arith, ints, it.some, it.ticks.0), omega (arith, ints, it.ticks.1, settings_within.horizon.1));
              };
              some = it.some;
            };
      }
