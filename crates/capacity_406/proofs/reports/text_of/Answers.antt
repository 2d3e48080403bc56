use Rattle.std.proofs.Common.{◌≡◌, ◌∙◌, ℕ, ◌<◌, ◌++◌, List, length, arith, sym, subst, ap, All}
use Rattle.std.specs.Prelude.{ℤ, ◌<ℤ◌}
use Rattle.rail_types.specs.declared.paths.Claim.{Claim}
use Rattle.rail_types.specs.Limits.{IsNearSpan}
use Rattle.capacity_406.specs.declared.reports.Told.{Told}
use Rattle.capacity_406.specs.declared.trains.Link.{Link}
use Rattle.capacity_406.specs.declared.trains.Occupied.{Occupied}
use Rattle.capacity_406.specs.Chain.{IsChain}
use Rattle.capacity_406.specs.Compression.{IsCompression}
use Rattle.capacity_406.specs.Inside.{AreFirsts}
use Rattle.capacity_406.specs.Report.{capacity_text}
use Rattle.capacity_406.specs.Telling.{AreToldBy, IsTimeOf, ends_at}
use Rattle.capacity_406.specs.Trains.{AreBeside, IsFirstClaim}
use Rattle.capacity_406.proofs.Telling.{chain_trains, ends_late, spans_near, time_so, told_so}
use Rattle.capacity_406.proofs.reports.text_of.Goals as goal

pub told_of-requires-clause-near : goal.told_of-requires-clause-near
told_of-requires-clause-near c = subst (All (λ (first : Claim). IsNearSpan first.span)) (sym c.deref.ensures.value) (spans_near c.args.trains.now c.requires.beside c.in_ok-firsts.firsts.items c.in_ok-firsts.ensures)

pub occupied_time-occupied-requires-clause-near : goal.occupied_time-occupied-requires-clause-near
occupied_time-occupied-requires-clause-near c = subst (All (λ (first : Claim). IsNearSpan first.span)) (sym c.deref-2.ensures.value) (spans_near c.args.trains.now c.requires.beside c.in_ok-firsts.firsts.items c.in_ok-firsts.ensures)

-- the same over lists that are read again
late_of : (trains : List Occupied) → AreBeside trains → (firsts read : List Claim) (shifts again : List ℤ) → read ≡ firsts → again ≡ shifts → AreFirsts trains firsts → IsCompression trains shifts → (train : ℕ) (earliest : Claim) → train < length read → IsFirstClaim read earliest → earliest.span.from <ℤ ends_at read again train
late_of trains beside firsts read shifts again same also are so train earliest within is = ends_late trains beside read (subst (AreFirsts trains) (sym same) are) again (subst (IsCompression trains) (sym also) so) train earliest within is

pub occupied_time-occupied-requires-clause-late : goal.occupied_time-occupied-requires-clause-late
occupied_time-occupied-requires-clause-late c = late_of c.args.trains.now c.requires.beside c.in_ok-firsts.firsts.items c.deref-2.result.now c.args.compressed.now.shifts c.as_slice-2.result.now c.deref-2.ensures.value c.as_slice-2.ensures c.in_ok-firsts.ensures c.requires.least.compression

links_told : (trains : List Occupied) (shifts : List ℤ) (chain again : List Link) (told read : List Told) → again ≡ chain → read ≡ told → length told ≡ length trains → IsChain trains shifts chain → All (λ link. link.train < length read) again
links_told trains shifts chain again told read same also counted is k d within =
    let below = chain_trains trains shifts again (subst (IsChain trains shifts) (sym same) is) k d within in
    let e = ap length also in
    omega arith

pub push_text-requires-clause-trains : goal.push_text-requires-clause-trains
push_text-requires-clause-trains c = links_told c.args.trains.now c.args.compressed.now.shifts c.args.compressed.now.chain c.as_slice-3.result.now c.in_ok-told.told.items c.deref-3.result.now c.as_slice-3.ensures c.deref-3.ensures.value c.in_ok-told.ensures.counted c.requires.chain

pub returns : goal.returns
returns c =
    let trains : List Occupied = c.args.trains.now in
    let shifts : List ℤ = c.args.compressed.now.shifts in
    let told : List Told = c.in_ok-told.told.items in
    let time : ℕ = c.occupied_time-occupied.result in
    let tells : AreToldBy trains c.in_ok-firsts.firsts.items shifts told = subst (λ firsts. AreToldBy trains firsts shifts told) c.deref.ensures.value (subst (λ again. AreToldBy trains c.deref.result.now again told) c.as_slice.ensures c.in_ok-told.ensures) in
    let takes : IsTimeOf c.in_ok-firsts.firsts.items shifts time = subst (λ firsts. IsTimeOf firsts shifts time) c.deref-2.ensures.value (subst (λ again. IsTimeOf c.deref-2.result.now again time) c.as_slice-2.ensures c.occupied_time-occupied.ensures.time) in
    record {
      shifts = shifts;
      chain = c.args.compressed.now.chain;
      told = told;
      occupied = time;
      least = c.requires.least;
      links = c.requires.chain;
      tells = told_so trains c.requires.beside c.in_ok-firsts.firsts.items c.in_ok-firsts.ensures shifts told tells;
      time = time_so trains c.requires.beside c.requires.own c.in_ok-firsts.firsts.items c.in_ok-firsts.ensures shifts time takes;
      text_is = c.in_ok-push_text.ensures
          ∙ (ap (λ front. front ++ capacity_text c.args.stretch.now time c.deref-3.result.now c.as_slice-3.result.now) c.new-text.ensures.items
          ∙ (ap (λ all. capacity_text c.args.stretch.now time all c.as_slice-3.result.now) c.deref-3.ensures.value
          ∙ ap (λ chain. capacity_text c.args.stretch.now time told chain) c.as_slice-3.ensures));
    }
