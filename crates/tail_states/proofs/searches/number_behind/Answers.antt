use Rattle.std.proofs.Common.{◌∙◌, sym, subst, arith}
use Rattle.std.proofs.lemmas.Option.{slice_get_within}
use Rattle.stair_pieces.specs.Moves.{IsPlace}
use Rattle.tail_states.proofs.Moving.{goes_on, found_still, too_many}
use Rattle.tail_states.proofs.searches.number_behind.Goals as goal

pub returns-then-count-clause-wide : goal.returns-then-count-clause-wide
returns-then-count-clause-wide c =
    let net = c.args.net.now in
    let request = c.args.request.now in
    let among = subst (IsPlace net request) (sym c.in_ok-after.ensures.value) (goes_on net request c.args.place.now c.args.step c.requires.place c.requires.step c.requires.no_end) in
    let many = too_many net request _ c.intern.new.self c.in_ok-after.after c.requires.found among c.in_ok-number.ensures.grown c.len-count.ensures.distinct (omega (arith, c.if-count.true, c.len-count.ensures.count)) in
    (c.len-count.ensures.count ∙ many.0, many.1)

pub overflow_cast-result-2 : goal.overflow_cast-result-2
overflow_cast-result-2 c =
    let within = slice_get_within c.intern.new.self c.in_ok-number.number c.in_ok-after.after c.in_ok-number.ensures.at in
    omega (arith, within, c.if-count.false, c.len-count.ensures.count)

pub returns-clause-found : goal.returns-clause-found
returns-clause-found c =
    let net = c.args.net.now in
    let request = c.args.request.now in
    let among = subst (IsPlace net request) (sym c.in_ok-after.ensures.value) (goes_on net request c.args.place.now c.args.step c.requires.place c.requires.step c.requires.no_end) in
    found_still net request _ c.intern.new.self c.in_ok-after.after c.requires.found among c.in_ok-number.ensures.grown c.len-count.ensures.distinct (omega (arith, c.if-count.false, c.len-count.ensures.count))
