use Rattle.std.proofs.Common.{List, ◌++◌, ap, ◌∙◌}
use Rattle.std.specs.Int.{w32, to_be_bytes}
use Rattle.rail_types.specs.declared.trains.Stop.{Stop}
use Rattle.entry_codec.specs.Body.{window_text, list_text, stop_text}
use Rattle.entry_codec.proofs.Appends.{appended}
use Rattle.entry_codec.proofs.writing.add_wish.Goals as goal

pub returns-clause-held : goal.returns-clause-held
returns-clause-held c =
    let request = c.args.request.now in
    let origin = to_be_bytes w32 request.origin in
    let destination = to_be_bytes w32 request.destination in
    let depart = window_text request.depart in
    let arrive = window_text request.arrive in
    let two = appended c.args.to.now.held _ _ origin destination c.add_number.ensures.held c.add_number-2.ensures.held in
    let three = appended c.args.to.now.held _ _ (origin ++ destination) depart two c.add_window.ensures.held in
    let four = appended c.args.to.now.held _ _ ((origin ++ destination) ++ depart) arrive three c.add_window-2.ensures.held in
    let listed = c.add_stops.ensures.held ∙ ap (λ (stops : List Stop). c.add_window-2.new.to.held ++ list_text stop_text stops) c.as_slice.ensures in
    appended c.args.to.now.held _ _ (((origin ++ destination) ++ depart) ++ arrive) (list_text stop_text request.stops) four listed
