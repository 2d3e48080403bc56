use Rattle.std.proofs.Common.{◌≡◌, ◌∙◌, arith, sym, refl}
use Rattle.std.proofs.lemmas.Int.{ints}
use Rattle.label_search.specs.declared.plans.Target.TheVariants.{End}
use Rattle.std.proofs.lemmas.Result.{on_ok_weaker}
use Rattle.label_search.proofs.Covers.{grown_none}
use Rattle.label_search.proofs.Growth.{search_more}
use Rattle.label_search.proofs.Reaching.{wanted_of_move, admitted_place, best_ending, best_low, admitted_end, target_within}
use Rattle.label_search.proofs.searches.reach.Goals as goal

pub returns-in-Place-clause-search : goal.returns-in-Place-clause-search
returns-in-Place-clause-search c =
    let move_is = target_within c.args.plan.now c.args.book.now c.requires.plan c.args.front.now.place c.args.number _ c.requires.front.place c.requires.number c.requires.step _ (sym c.target.ensures ∙ c.in-Place.is) in
    search_more c.args.plan.now c.args.trip.now c.args.book.now c.args.search.now _ _ c.requires.search
    (wanted_of_move c.args.plan.now c.args.trip.now c.args.book.now c.args.search.now c.args.front.now c.requires.front c.args.number _ c.requires.step c.args.free.now _ c.later-leaves.ensures.from c.later-leaves.ensures.to c.requires.some c.requires.goes c.requires.held c.requires.free _ (sym c.target.ensures ∙ c.in-Place.is) move_is.1 move_is.0)
    c.add.ensures.places c.add.ensures.grown refl refl

pub returns-in-Place-clause-admitted : goal.returns-in-Place-clause-admitted
returns-in-Place-clause-admitted c = on_ok_weaker c.add.result
    (admitted_place c.args.plan.now c.args.trip.now c.args.book.now c.args.search.now c.args.front.now c.requires.front c.args.number _ c.requires.step c.args.free.now _ c.later-leaves.ensures.from c.later-leaves.ensures.to c.requires.some c.requires.goes c.requires.held c.requires.free _ (sym c.target.ensures ∙ c.in-Place.is) (record { labels = c.add.new.self; best = c.args.search.now.best; limits = c.args.search.now.limits }))
    c.add.ensures.reached

pub returns-in-End-clause-search : goal.returns-in-End-clause-search
returns-in-End-clause-search c =
    let ends : c.target.result ≡ End = c.in-End.is in
    let is = sym c.target.ensures ∙ ends in
    record {
      places = c.requires.search.places;
      sound = c.requires.search.sound;
      best = best_ending c.args.plan.now c.args.trip.now c.args.book.now c.args.search.now c.args.front.now c.requires.front c.args.number _ c.requires.step c.args.free.now _ c.later-leaves.ensures.from c.later-leaves.ensures.to c.requires.some c.requires.goes c.requires.held c.requires.free is _ c.requires.search.best c.better-search.ensures.one;
      limits = c.requires.search.limits;
      low = best_low c.args.plan.now c.args.trip.now c.args.book.now c.args.search.now c.args.front.now c.requires.front c.args.number _ c.requires.step c.args.free.now _ c.later-leaves.ensures.from c.later-leaves.ensures.to c.requires.some c.requires.goes c.requires.held c.requires.free is _ c.requires.below c.requires.search.low c.better-search.ensures.one;
    }

pub returns-in-End-clause-further : goal.returns-in-End-clause-further
returns-in-End-clause-further c = record { grown = grown_none (λ label. Unit {0}) _; better = c.better-search.ensures.kept; limits = refl }

pub returns-in-End-clause-admitted : goal.returns-in-End-clause-admitted
returns-in-End-clause-admitted c =
    let ends : c.target.result ≡ End = c.in-End.is in
    let is = sym c.target.ensures ∙ ends in
    admitted_end c.args.plan.now c.args.trip.now c.args.book.now c.args.search.now c.args.front.now c.requires.front c.args.number _ c.requires.step c.args.free.now _ c.later-leaves.ensures.from c.later-leaves.ensures.to c.requires.some c.requires.goes c.requires.held c.requires.free is _ c.better-search.ensures.beaten

pub later-leaves-requires-clause-near : goal.later-leaves-requires-clause-near
later-leaves-requires-clause-near c =
    let first = c.requires.held c.args.free.now.from (omega (arith, ints), c.requires.some) in
    let last = c.requires.held c.args.free.now.to (c.requires.some, omega (arith, ints)) in
    let begins = first.0 in let early = first.1 in let late = last.0 in let ends = last.1 in
    let low = c.requires.front.ticks.0 in let high = c.requires.front.ticks.1 in
    let horizon = c.requires.plan.horizon in
    ((omega (arith, ints), omega (arith, ints)), (omega (arith, ints), omega (arith, ints)))
