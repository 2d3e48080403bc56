use Rattle.std.proofs.Common.{rules, ◌≡◌}
use Rattle.signal_blocks.specs.Cuts.{is_cut, cut_places}
use Rattle.signal_blocks.proofs.Ranges.{filter_range_more}
use Rattle.signal_blocks.proofs.Cuttings.{cuts_rise, cuts_within, some_cut}
use Rattle.signal_blocks.proofs.block_cuts.cuts.cut_places.Goals as goal
use Rattle.signal_blocks.proofs.block_cuts.cuts.cut_places.Goals.{then-is_cut+in_ok-push, else-is_cut}

pub places-preserved : goal.places-preserved
places-preserved c =
    let more = filter_range_more (is_cut c.args.sights.now c.args.passed.now) c.places.place in
    elim c.if-is_cut.branch [
      | then-is_cut+in_ok-push w ↦ rw (more, ← c.is_cut.ensures, w.if-is_cut.true, ← c.places.invariant) (search rules)
      | else-is_cut w ↦ rw (more, ← c.is_cut.ensures, w.if-is_cut.false) (search rules)
    ]

pub returns-clause-rise : goal.returns-clause-rise
returns-clause-rise c =
    let same : c.places.cuts.items ≡ cut_places c.args.sights.now c.args.passed.now = search rules in
    rw same (cuts_rise c.args.sights.now c.args.passed.now)

pub returns-clause-within : goal.returns-clause-within
returns-clause-within c =
    let same : c.places.cuts.items ≡ cut_places c.args.sights.now c.args.passed.now = search rules in
    rw same (cuts_within c.args.sights.now c.args.passed.now)

pub returns-clause-some : goal.returns-clause-some
returns-clause-some c =
    let same : c.places.cuts.items ≡ cut_places c.args.sights.now c.args.passed.now = search rules in
    rw same (some_cut c.args.sights.now c.args.passed.now)
