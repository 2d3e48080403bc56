-- What is done at an order.
use Rattle.std.specs.Prelude.{◌≢◌, ⊤, ℕ, List, None, Some}
use Rattle.admission_rules.specs.declared.rules.Rule.{Ghosts as Rules}
use Rattle.admission_rules.specs.declared.client_rules.clients.ClientRules.{ClientRules}
use Rattle.command_reports.specs.declared.exit_status.Status.{Status}
use Rattle.outside_io.specs.declared.disks.Disk.{Ghosts as Disks}
use Rattle.outside_io.specs.declared.sinks.Sink.{Ghosts as Sinks}
use Rattle.outside_io.specs.declared.sources.Source.{Ghosts as Sources}
use Rattle.command_reports.specs.Scenes.{Scene}
use Rattle.command_words.specs.declared.orders.Order.{Order}
use Rattle.command_words.specs.declared.orders.Order.TheVariants.{Tables, Init, Stairs, Capacity}
use Rattle.command_words.specs.declared.orders.Order.TheVariants.{Serve, Demo, Check, Batch, Carry}
use Rattle.command_reports.specs.Works.{Runs}
use Rattle.batch_command.specs.GivenBatches.{batch_of}
use Rattle.batch_command.specs.Runs.{IsBatchDone, IsRefusedList, RunsBatch}
use Rattle.print_commands.specs.Capacities.{HasNoCapacity, stretch_of, TellsCapacity}
use Rattle.carry_command.specs.Runs.{IsCarried, RunsCarry}
use Rattle.check_command.specs.Runs.{check_names, IsChecked, IsRefused, RunsCheck}
use Rattle.demo_command.specs.Works.{demo_calls, DemoWorks, IsShown}
use Rattle.init_command.specs.Works.{BeginOver, init_calls, IsDone, move_calls, MoveOver, ReadsBoth}
use Rattle.print_commands.specs.Steps.{IsPrinted, print_calls, Prints, ReadsHistory, WasOnlyRead}
use Rattle.print_commands.specs.Works.{IsListed, list_calls, ListWorks}
use Rattle.request_server.specs.Clienteles.{clientele_of}
use Rattle.served_clients.specs.GivenNames.{given_names}
use Rattle.served_clients.specs.RunGhosts.{run_ghosts}
use Rattle.request_server.specs.ServeRuns.{IsServed, RunsServe}
use Rattle.print_commands.specs.Tables.{HasNoGrant, TellsStairs}
use Rattle.osrd_stdcm.specs.Carries.{carry_names, IsNotCarriedOver, LeavesCarry}

-- an order was carried out, step by step, with these rules of clients
abbrev pub OrderSays : {Src Snk Dsk L : Type 0} → Sources Src → Sinks Snk → Disks Dsk → Rules L
    → List (ClientRules L) → Order → Scene Src Snk Dsk → Scene Src Snk Dsk → Status → Type 0
OrderSays source sink disk kind handed (Tables network out) old new status =
    Runs sink (list_calls network out) (ListWorks source sink network out) old new status
OrderSays source sink disk kind handed (Init network base journal None) old new status =
    Runs sink (init_calls network base journal)
    (ReadsBoth source network base (BeginOver disk journal)) old new status
OrderSays source sink disk kind handed (Init network base journal (Some from)) old new status =
    Runs sink (move_calls network base journal from)
    (ReadsBoth source network base (MoveOver disk journal from)) old new status
OrderSays source sink disk kind handed (Stairs network base journal entry out) old new status =
    Runs sink (print_calls network base journal out)
    (Prints sink (ReadsHistory source disk network base journal) out (TellsStairs entry))
    old new status
OrderSays source sink disk kind handed (Capacity network base journal first last from to out)
    old new status =
    Runs sink (print_calls network base journal out)
    (Prints sink (ReadsHistory source disk network base journal) out
    (TellsCapacity (stretch_of first last from to))) old new status
OrderSays source sink disk kind handed (Serve network trains base journal clients proofs rules)
    old new status =
    RunsServe (run_ghosts source sink disk kind) (given_names network trains base journal)
    (clientele_of clients proofs handed) old new status
OrderSays source sink disk kind handed (Demo number out) old new status =
    Runs sink (demo_calls out) (DemoWorks sink number out) old new status
OrderSays source sink disk kind handed (Check network trains base journal proof) old new status =
    RunsCheck source sink disk (check_names network trains base journal proof) old new status
OrderSays source sink disk kind handed (Batch network trains base journal client workers rules)
    old new status =
    RunsBatch (run_ghosts source sink disk kind) (given_names network trains base journal)
    (batch_of client workers handed) old new status
OrderSays source sink disk kind handed (Carry network base journal from from_base left)
    old new status =
    RunsCarry source sink disk (carry_names network base journal from from_base left) old new status

-- all that an order asks for was done, with these rules of clients
abbrev pub OrderIsDone : {Src Snk Dsk L : Type 0} → Sources Src → Sinks Snk → Disks Dsk → Rules L
    → List (ClientRules L) → Order → Scene Src Snk Dsk → Scene Src Snk Dsk → Type 0
OrderIsDone source sink disk kind handed (Tables network out) old new =
    IsListed source sink network out old new
OrderIsDone source sink disk kind handed (Init network base journal None) old new =
    IsDone source network base (BeginOver disk journal) old new
OrderIsDone source sink disk kind handed (Init network base journal (Some from)) old new =
    IsDone source network base (MoveOver disk journal from) old new
OrderIsDone source sink disk kind handed (Stairs network base journal entry out) old new =
    IsPrinted source sink disk network base journal out (TellsStairs entry) old new
OrderIsDone source sink disk kind handed (Capacity network base journal first last from to out)
    old new =
    IsPrinted source sink disk network base journal out
    (TellsCapacity (stretch_of first last from to)) old new
OrderIsDone source sink disk kind handed (Serve network trains base journal clients proofs rules)
    old new =
    IsServed (run_ghosts source sink disk kind) (given_names network trains base journal)
    (clientele_of clients proofs handed) old new
OrderIsDone source sink disk kind handed (Demo number out) old new = IsShown sink number out old new
OrderIsDone source sink disk kind handed (Check network trains base journal proof) old new =
    IsChecked source sink disk network trains base journal proof old new
OrderIsDone source sink disk kind handed (Batch network trains base journal client workers rules)
    old new =
    IsBatchDone (run_ghosts source sink disk kind) (given_names network trains base journal)
    (batch_of client workers handed) old new
OrderIsDone source sink disk kind handed (Carry network base journal from from_base left)
    old new =
    IsCarried source sink disk (carry_names network base journal from from_base left) old new

-- why an order was answered with its command's own no; only stairways, capacities, proofs, batches
-- and journals that are carried have one
abbrev pub OrderIsRefused : {Src Snk Dsk : Type 0} → Sources Src → Sinks Snk → Disks Dsk → Order
    → Scene Src Snk Dsk → Scene Src Snk Dsk → Type 0
OrderIsRefused source sink disk (Tables network out) old new = ⊥
OrderIsRefused source sink disk (Init network base journal from) old new = ⊥
OrderIsRefused source sink disk (Stairs network base journal entry out) old new =
    HasNoGrant source disk network base journal entry old
OrderIsRefused source sink disk (Capacity network base journal first last from to out) old new =
    HasNoCapacity source disk network base journal (stretch_of first last from to) old
OrderIsRefused source sink disk (Serve network trains base journal clients proofs rules) old new = ⊥
OrderIsRefused source sink disk (Demo number out) old new = ⊥
OrderIsRefused source sink disk (Check network trains base journal proof) old new =
    IsRefused source disk network trains base journal proof old
OrderIsRefused source sink disk (Batch network trains base journal client workers rules) old new =
    IsRefusedList source disk (given_names network trains base journal) client workers old
OrderIsRefused source sink disk (Carry network base journal from from_base left) old new =
    IsNotCarriedOver source sink disk (carry_names network base journal from from_base left) old new

-- What an order left under names, whatever the status. Where a journal is only read, it was; where
-- one is carried, both disks and the sinks are told, at each moment. Of the others `OrderSays`
-- tells all.
abbrev pub OrderLeaves : {Src Snk Dsk : Type 0} → Sources Src → Disks Dsk → Order
    → Scene Src Snk Dsk → Scene Src Snk Dsk → Type 0
OrderLeaves source disk (Tables network out) old new = ⊤
OrderLeaves source disk (Init network base journal from) old new = ⊤
OrderLeaves source disk (Stairs network base journal entry out) old new =
    WasOnlyRead disk (old.disks journal) (new.disks journal)
OrderLeaves source disk (Capacity network base journal first last from to out) old new =
    WasOnlyRead disk (old.disks journal) (new.disks journal)
OrderLeaves source disk (Serve network trains base journal clients proofs rules) old new = ⊤
OrderLeaves source disk (Demo number out) old new = ⊤
OrderLeaves source disk (Check network trains base journal proof) old new =
    WasOnlyRead disk (old.disks journal) (new.disks journal)
OrderLeaves source disk (Batch network trains base journal client workers rules) old new = ⊤
OrderLeaves source disk (Carry network base journal from from_base left) old new =
    LeavesCarry source disk (carry_names network base journal from from_base left) old new

-- the order has no disk of this name
abbrev pub NamesNoDisk : Order → List ℕ → Type 0
NamesNoDisk (Tables network out) name = ⊤
NamesNoDisk (Init network base journal None) name = name ≢ journal
NamesNoDisk (Init network base journal (Some from)) name = (name ≢ journal) × (name ≢ from)
NamesNoDisk (Stairs network base journal entry out) name = name ≢ journal
NamesNoDisk (Capacity network base journal first last from to out) name = name ≢ journal
NamesNoDisk (Serve network trains base journal clients proofs rules) name = name ≢ journal
NamesNoDisk (Demo number out) name = ⊤
NamesNoDisk (Check network trains base journal proof) name = name ≢ journal
NamesNoDisk (Batch network trains base journal client workers rules) name = name ≢ journal
NamesNoDisk (Carry network base journal from from_base left) name =
    (name ≢ journal) × (name ≢ from)

-- the order serves no clients
abbrev pub HasNoClients : Order → Type 0
HasNoClients (Tables network out) = ⊤
HasNoClients (Init network base journal from) = ⊤
HasNoClients (Stairs network base journal entry out) = ⊤
HasNoClients (Capacity network base journal first last from to out) = ⊤
HasNoClients (Serve network trains base journal clients proofs rules) = ⊥
HasNoClients (Demo number out) = ⊤
HasNoClients (Check network trains base journal proof) = ⊤
HasNoClients (Batch network trains base journal client workers rules) = ⊥
HasNoClients (Carry network base journal from from_base left) = ⊤

-- the order has no file of this name for lines of entries that are left out
abbrev pub NamesNoLeft : Order → List ℕ → Type 0
NamesNoLeft (Tables network out) name = ⊤
NamesNoLeft (Init network base journal from) name = ⊤
NamesNoLeft (Stairs network base journal entry out) name = ⊤
NamesNoLeft (Capacity network base journal first last from to out) name = ⊤
NamesNoLeft (Serve network trains base journal clients proofs rules) name = ⊤
NamesNoLeft (Demo number out) name = ⊤
NamesNoLeft (Check network trains base journal proof) name = ⊤
NamesNoLeft (Batch network trains base journal client workers rules) name = ⊤
NamesNoLeft (Carry network base journal from from_base left) name = left ≢ Some name
