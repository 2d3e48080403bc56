use Rattle.std.proofs.Common.{◌≡◌, ◌∙◌, ap, length, arith, drop}
use Rattle.track_graph.proofs.Numbers.{front_all}
use Rattle.track_graph.proofs.StandRows.{listed_within, rows_are}
use Rattle.track_graph.proofs.stands.stands_by_track.Goals as goal

pub fill_rows-requires-clause-within : goal.fill_rows-requires-clause-within
fill_rows-requires-clause-within c =
    let rows : length c.deref_mut.result.now ≡ c.args.tracks = ap length c.deref_mut.ensures.value ∙ c.in_ok-rows.ensures.long in
    rw (c.deref.ensures.value, rows) (listed_within c.args.placed.now c.args.tracks c.in_ok-listed.listed.items c.in_ok-listed.ensures c.requires.within)

pub returns : goal.returns
returns c =
    let rows : length c.deref_mut.result.now ≡ c.args.tracks = ap length c.deref_mut.ensures.value ∙ c.in_ok-rows.ensures.long in
    let shown = rw (c.deref.ensures.value, rows) at c.in_ok-fill_rows.ensures.ok in
    let same = front_all c.in_ok-rows.rows.len c.fill_rows.new.rows (drop (length c.fill_rows.new.rows) c.in_ok-rows.rows.items) (omega (arith, c.in_ok-rows.rows.ok.0, c.in_ok-rows.ensures.long, shown.long)) in
    rw same (rows_are c.args.placed.now c.args.tracks c.in_ok-listed.listed.items c.fill_rows.new.rows c.in_ok-listed.ensures shown)
