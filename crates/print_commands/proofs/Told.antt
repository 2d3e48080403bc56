-- What is told of the trains that run on a stretch.
use Rattle.std.proofs.Common.{ℕ, ◌<◌, List, length, Vec, Result, Ok, Err, inl, inr, refl}
use Rattle.std.specs.Prelude.{IfErr, IfOk}
use Rattle.std.specs.Global.{Global}
use Rattle.grant_log.specs.Legal.{Register}
use Rattle.capacity_406.specs.declared.TheConstants.{MAX_TRAINS}
use Rattle.capacity_406.specs.declared.trains.Occupied.{Occupied}
use Rattle.capacity_406.specs.declared.trains.Stretch.{Stretch}
use Rattle.capacity_406.specs.Report.{IsCapacityText}
use Rattle.capacity_406.specs.StretchTrains.{AreTrainsOn}
use Rattle.command_reports.specs.declared.refusals.Refusal.{Refusal}
use Rattle.print_commands.specs.Capacities.{AreKnown, AreRefused, IsCapacityOf, IsNotTold}

pub told_of_trains : (stretch : Stretch) (history : Register) (trains : List Occupied) (result : Result (Vec ℕ Global) Refusal) → AreKnown history.timetable.net.zones stretch → AreTrainsOn stretch history.timetable history.entries trains
    → IfOk result (λ text. ¬ (MAX_TRAINS < length trains)) → IfOk result (λ text. IsCapacityText stretch trains text.items) → IfOk result (λ text. IsCapacityOf stretch history text.items)
told_of_trains stretch history trains (Ok text) known run few tells = record { known = known; trains = trains; run = run; few = few; tells = tells }
told_of_trains stretch history trains (Err refusal) known run few tells = tt

not_told : (stretch : Stretch) (history : Register) (trains : List Occupied) (refusal : Refusal) → AreKnown history.timetable.net.zones stretch → AreTrainsOn stretch history.timetable history.entries trains → AreRefused trains refusal
    → IsNotTold stretch history refusal
not_told stretch history trains refusal known run (inl many) = inl (_, inr (record { known = known; trains = trains; run = run; many = many.0; line_is = refl }), many.1)
not_told stretch history trains refusal known run (inr is) = inr is

pub not_told_of_trains : (stretch : Stretch) (history : Register) (trains : List Occupied) (result : Result (Vec ℕ Global) Refusal) → AreKnown history.timetable.net.zones stretch → AreTrainsOn stretch history.timetable history.entries trains
    → IfErr result (AreRefused trains) → IfErr result (IsNotTold stretch history)
not_told_of_trains stretch history trains (Ok text) known run refused = tt
not_told_of_trains stretch history trains (Err refusal) known run refused = not_told stretch history trains refusal known run refused
