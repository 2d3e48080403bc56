use Rattle.std.proofs.Common.{◌≡◌, ◌∙◌, ℕ, ◌<◌, List, length, sym, subst, ap, All}
use Rattle.std.specs.Prelude.{ℤ, pos, ◌≤ℤ◌}
use Rattle.rail_types.specs.declared.paths.Claim.{Claim}
use Rattle.capacity_406.specs.declared.trains.Link.{Link}
use Rattle.capacity_406.specs.declared.trains.Occupied.{Occupied}
use Rattle.capacity_406.specs.declared.places.Place.{Place}
use Rattle.rail_types.specs.Limits.{IsNear}
use Rattle.capacity_406.specs.Chain.{IsChain}
use Rattle.capacity_406.specs.Compression.{IsLastStart, IsLeastCompression}
use Rattle.capacity_406.specs.Inside.{AreFirsts, AreTaken, IsNearShift, begin_at, shifts_of}
use Rattle.capacity_406.proofs.Settling.{firsts_near}
use Rattle.capacity_406.proofs.Leasts.{all_early, all_near, last_start, least_compression}
use Rattle.capacity_406.proofs.compressions.compress_some.Goals as goal

pub last_train-last-requires-clause-near : goal.last_train-last-requires-clause-near
last_train-last-requires-clause-near c = subst (All (λ first. IsNear first.span.from)) (sym c.deref-3.ensures.value) (firsts_near c.args.trains.now c.requires.beside c.in_ok-firsts.firsts.items c.in_ok-firsts.ensures)

-- the same over lists that are read again
last_of : (trains : List Occupied) (firsts read : List Claim) (places again : List Place) → read ≡ firsts → places ≡ again → AreFirsts trains firsts → (last : ℕ) → last < length read → ((train : ℕ) → train < length read → begin_at read places train ≤ℤ begin_at read places last) → (tick : ℤ) × IsLastStart trains (shifts_of again) last tick
last_of trains firsts read places again same kept are last below most = (begin_at read places last, subst (λ (all : List Place). IsLastStart trains (shifts_of all) last (begin_at read places last)) kept (last_start trains read places (subst (AreFirsts trains) (sym same) are) last below most))

pub chain_to-requires-clause-last : goal.chain_to-requires-clause-last
chain_to-requires-clause-last c = last_of c.args.trains.now c.in_ok-firsts.firsts.items c.deref-3.result.now c.deref-4.result.now c.deref-5.result.now c.deref-3.ensures.value (c.deref-4.ensures.value ∙ sym c.deref-5.ensures.value) c.in_ok-firsts.ensures c.last_train-last.result c.last_train-last.ensures.bound c.last_train-last.ensures.last

pub returns-clause-least : goal.returns-clause-least
returns-clause-least c =
    let taken = subst (AreTaken c.args.trains.now) (sym c.deref.ensures.value) c.in_ok-taken.ensures in
    let same : c.from_vec.result ≡ shifts_of c.in_ok-places.places.items = c.from_vec.ensures ∙ (c.in_ok-shifts.ensures ∙ ap shifts_of c.deref-6.ensures.value) in
    subst (IsLeastCompression c.args.trains.now) (sym same) (least_compression c.args.trains.now c.requires.beside c.deref.result.now taken c.in_ok-places.places.items c.in_ok-places.ensures)

pub returns-clause-early : goal.returns-clause-early
returns-clause-early c =
    let taken = subst (AreTaken c.args.trains.now) (sym c.deref.ensures.value) c.in_ok-taken.ensures in
    let same : c.from_vec.result ≡ shifts_of c.in_ok-places.places.items = c.from_vec.ensures ∙ (c.in_ok-shifts.ensures ∙ ap shifts_of c.deref-6.ensures.value) in
    subst (All (λ shift. shift ≤ℤ pos 0)) (sym same) (all_early c.args.trains.now c.requires.beside c.deref.result.now taken c.in_ok-places.places.items c.in_ok-places.ensures)

pub returns-clause-near : goal.returns-clause-near
returns-clause-near c =
    let same : c.from_vec.result ≡ shifts_of c.in_ok-places.places.items = c.from_vec.ensures ∙ (c.in_ok-shifts.ensures ∙ ap shifts_of c.deref-6.ensures.value) in
    subst (All IsNearShift) (sym same) (all_near c.args.trains.now c.deref.result.now c.in_ok-places.places.items c.in_ok-places.ensures)

pub returns-clause-chain : goal.returns-clause-chain
returns-clause-chain c =
    let trains : List Occupied = c.args.trains.now in
    let links : List Link = c.in_ok-chain.chain.items in
    let same : c.from_vec.result ≡ shifts_of c.deref-5.result.now = c.from_vec.ensures ∙ (c.in_ok-shifts.ensures ∙ ap shifts_of (c.deref-6.ensures.value ∙ sym c.deref-5.ensures.value)) in
    subst (IsChain trains c.from_vec.result) (sym c.from_vec-2.ensures)
    (subst (λ shifts. IsChain trains shifts links) (sym same) c.in_ok-chain.ensures)
