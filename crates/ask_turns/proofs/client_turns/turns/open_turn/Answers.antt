use Rattle.std.proofs.Common.{◌≡◌, ℕ, ◌+◌, ◌≤◌, List, [], length, ap, sym, ◌∙◌, subst, refl, arith}
use Rattle.std.proofs.lemmas.List.{append-nil}
use Rattle.book_gate.specs.Passes.{opened, view}
use Rattle.book_gate.specs.Views.{StartsWith}
use Rattle.path_commit.specs.Footings.{footing_of}
use Rattle.path_commit.specs.Ledgers.{Ledger}
use Rattle.rail_types.specs.declared.entries.Entry.{Entry}
use Rattle.ask_turns.specs.Turns.{IsReached, Sight}
use Rattle.ask_turns.proofs.Ended.{fails_to_settle, looks}
use Rattle.ask_turns.proofs.Known.{none_there}
use Rattle.ask_turns.proofs.Opened as settling
use Rattle.ask_turns.proofs.client_turns.turns.open_turn.Goals as goal

pub leave-requires-clause-list : goal.leave-requires-clause-list
leave-requires-clause-list g c =
    let m : Sight = view c.enter-held.new.pass in (
      [],
      settling.list g.D.Disk.faults m c.enter-held.result c.book.result.now c.settle.new.self
          c.enter-held.ensures.found c.book.ensures.found c.settle.ensures.entries ∙ sym (append-nil m.found.list),
    )

pub returns-in-Fault-clause-halted : goal.returns-in-Fault-clause-halted
returns-in-Fault-clause-halted g c =
    let faults = g.D.Disk.faults in
    let v : Sight = view c.args.pass.now in let m : Sight = view c.enter-held.new.pass in
    let given : Ledger g.row.D.Denot = c.enter-held.result in let old : Ledger g.row.D.Denot = c.book.result.now in
    let left : Ledger g.row.D.Denot = c.settle.new.self in
    let found = c.enter-held.ensures.found in let lent = c.book.ensures.found in let entries = c.settle.ensures.entries in
    let list = settling.list faults m given old left found lent entries in
    let rose = settling.rose faults m given old left found lent entries c.in-Fault.ensures.cause in
    let before : m.found.count ≡ faults old.disk = settling.count_then faults m given old left found lent entries in
    let later : faults old.disk ≤ faults left.disk = c.settle.ensures.later in
    fails_to_settle faults v m (view c.leave.new.pass) left c.enter-held.ensures.opens c.leave.ensures.served
    (subst (λ (l : List Entry). StartsWith l v.seen) (sym (ap (λ s. s.list) found)) c.enter-held.ensures.seen)
    list (settling.still_pending faults m given old left found lent entries c.settle.ensures.footing c.in-Fault.ensures.settles.1)
    (settling.pending faults m given old left found lent entries c.in-Fault.ensures.settles.0) (omega arith) rose

pub leave-requires-in-Some-clause-list : goal.leave-requires-in-Some-clause-list
leave-requires-in-Some-clause-list g c =
    let faults = g.D.Disk.faults in
    let m : Sight = view c.enter-held.new.pass in
    let given : Ledger g.row.D.Denot = c.enter-held.result in let old : Ledger g.row.D.Denot = c.book.result.now in
    let left : Ledger g.row.D.Denot = c.settle.new.self in let now : Ledger g.row.D.Denot = c.book-2.result.now in
    let put = settling.settled_put g.D.Disk old left (faults old.disk) (faults left.disk) c.settle.result
    c.in_default.not-Fault c.settle.ensures.settles c.settle.ensures.cause in
    let up = settling.up faults m given old left now c.enter-held.ensures.found c.book.ensures.found
    c.settle.ensures.entries put c.book-2.ensures.found in
    ([], up.list ∙ sym (append-nil m.found.list))

pub returns-in-Some-clause-halted : goal.returns-in-Some-clause-halted
returns-in-Some-clause-halted g c =
    let faults = g.D.Disk.faults in
    let m : Sight = view c.enter-held.new.pass in
    let given : Ledger g.row.D.Denot = c.enter-held.result in let old : Ledger g.row.D.Denot = c.book.result.now in
    let left : Ledger g.row.D.Denot = c.settle.new.self in let now : Ledger g.row.D.Denot = c.book-2.result.now in
    let put = settling.settled_put g.D.Disk old left (faults old.disk) (faults left.disk) c.settle.result
    c.in_default.not-Fault c.settle.ensures.settles c.settle.ensures.cause in
    let up = settling.up faults m given old left now c.enter-held.ensures.found c.book.ensures.found
    c.settle.ensures.entries put c.book-2.ensures.found in
    let v : Sight = view c.args.pass.now in
    let goes_on : StartsWith m.found.list v.seen =
    subst (λ (l : List Entry). StartsWith l v.seen) (sym (ap (λ s. s.list) c.enter-held.ensures.found)) c.enter-held.ensures.seen in
    let w : Sight = view c.leave-in-Some.new.pass in (
      looks faults v m now now c.enter-held.ensures.opens goes_on up.within up.list up.counts (omega arith)
          w c.leave-in-Some.ensures.served refl up.settled,
      record {
        asked = c.in-Some.ensures.some.0;
        stands = c.front-front.ensures ∙ ap length up.list ∙ ap (λ (x : Sight). length x.found.list) (sym c.leave-in-Some.ensures.served);
        beyond = c.in-Some.ensures.some.1;
      },
    )

pub returns-clause-open : goal.returns-clause-open
returns-clause-open g c =
    let faults = g.D.Disk.faults in
    let m : Sight = view c.enter-held.new.pass in
    let given : Ledger g.row.D.Denot = c.enter-held.result in let old : Ledger g.row.D.Denot = c.book.result.now in
    let left : Ledger g.row.D.Denot = c.settle.new.self in let now : Ledger g.row.D.Denot = c.book-2.result.now in
    let put = settling.settled_put g.D.Disk old left (faults old.disk) (faults left.disk) c.settle.result
    c.in_default.not-Fault c.settle.ensures.settles c.settle.ensures.cause in
    let up = settling.up faults m given old left now c.enter-held.ensures.found c.book.ensures.found
    c.settle.ensures.entries put c.book-2.ensures.found in
    let v : Sight = view c.args.pass.now in
    let goes_on : StartsWith m.found.list v.seen =
    subst (λ (l : List Entry). StartsWith l v.seen) (sym (ap (λ s. s.list) c.enter-held.ensures.found)) c.enter-held.ensures.seen in
    let footing : footing_of now ≡ footing_of (opened c.args.gate.now) =
    ap footing_of c.book-2.ensures.found ∙ c.settle.ensures.footing ∙ ap footing_of c.book.ensures.found
    ∙ c.enter-held.ensures.footing in
    let reached : IsReached c.args.after m.found.list = λ front asked.
    let near = c.beyond.ensures.none (none_there c.beyond.result c.in_default-beyond.not-Some) front asked in
    let here = c.front-front.ensures ∙ ap length up.list in omega arith in record {
      own = c.enter-held.ensures.own;
      turn = c.enter-held.ensures.turn;
      opens = c.enter-held.ensures.opens;
      goes_on = goes_on;
      within = up.within;
      list = up.list;
      counts = up.counts;
      settled = up.settled;
      footing = footing;
      reached = reached;
    }

pub enter-held-requires-clause-own : goal.enter-held-requires-clause-own
enter-held-requires-clause-own g c = c.requires.ready.0

pub enter-held-requires-clause-idle : goal.enter-held-requires-clause-idle
enter-held-requires-clause-idle g c = c.requires.ready.1

pub enter-held-requires-clause-budget : goal.enter-held-requires-clause-budget
enter-held-requires-clause-budget g c = c.requires.budget

pub leave-requires-clause-own : goal.leave-requires-clause-own
leave-requires-clause-own g c = c.enter-held.ensures.own

pub leave-requires-clause-turn : goal.leave-requires-clause-turn
leave-requires-clause-turn g c = c.enter-held.ensures.turn

pub leave-requires-clause-footing : goal.leave-requires-clause-footing
leave-requires-clause-footing g c =
    c.settle.ensures.footing ∙ ap footing_of c.book.ensures.found ∙ c.enter-held.ensures.footing

pub leave-requires-clause-count : goal.leave-requires-clause-count
leave-requires-clause-count g c =
    let faults = g.D.Disk.faults in
    let m : Sight = view c.enter-held.new.pass in
    let given : Ledger g.row.D.Denot = c.enter-held.result in let old : Ledger g.row.D.Denot = c.book.result.now in
    let left : Ledger g.row.D.Denot = c.settle.new.self in
    subst (λ (count : ℕ). count ≤ faults left.disk)
    (sym (settling.count_then faults m given old left c.enter-held.ensures.found c.book.ensures.found c.settle.ensures.entries))
    c.settle.ensures.later

pub returns-in-Fault-clause-budget : goal.returns-in-Fault-clause-budget
returns-in-Fault-clause-budget g c = ap (λ (left : ℕ). left + 1) c.leave.ensures.budget ∙ c.enter-held.ensures.budget

pub returns-in-Fault-clause-ready : goal.returns-in-Fault-clause-ready
returns-in-Fault-clause-ready g c = (c.leave.ensures.own, c.leave.ensures.idle)

pub leave-requires-in-Some-clause-own : goal.leave-requires-in-Some-clause-own
leave-requires-in-Some-clause-own g c = c.enter-held.ensures.own

pub leave-requires-in-Some-clause-turn : goal.leave-requires-in-Some-clause-turn
leave-requires-in-Some-clause-turn g c = c.enter-held.ensures.turn

pub leave-requires-in-Some-clause-footing : goal.leave-requires-in-Some-clause-footing
leave-requires-in-Some-clause-footing g c =
    ap footing_of c.book-2.ensures.found ∙ c.settle.ensures.footing ∙ ap footing_of c.book.ensures.found
    ∙ c.enter-held.ensures.footing

pub leave-requires-in-Some-clause-count : goal.leave-requires-in-Some-clause-count
leave-requires-in-Some-clause-count g c =
    let faults = g.D.Disk.faults in
    let m : Sight = view c.enter-held.new.pass in
    let given : Ledger g.row.D.Denot = c.enter-held.result in let old : Ledger g.row.D.Denot = c.book.result.now in
    let left : Ledger g.row.D.Denot = c.settle.new.self in let now : Ledger g.row.D.Denot = c.book-2.result.now in
    let put = settling.settled_put g.D.Disk old left (faults old.disk) (faults left.disk) c.settle.result
    c.in_default.not-Fault c.settle.ensures.settles c.settle.ensures.cause in
    let up = settling.up faults m given old left now c.enter-held.ensures.found c.book.ensures.found
    c.settle.ensures.entries put c.book-2.ensures.found in
    settling.no_more m.found.count (faults now.disk) up.counts

pub returns-in-Some-clause-budget : goal.returns-in-Some-clause-budget
returns-in-Some-clause-budget g c = ap (λ (left : ℕ). left + 1) c.leave-in-Some.ensures.budget ∙ c.enter-held.ensures.budget

pub returns-in-Some-clause-ready : goal.returns-in-Some-clause-ready
returns-in-Some-clause-ready g c = (c.leave-in-Some.ensures.own, c.leave-in-Some.ensures.idle)

pub returns-clause-budget : goal.returns-clause-budget
returns-clause-budget g c = c.enter-held.ensures.budget

pub returns-in-Fault-clause-goes_on : goal.returns-in-Fault-clause-goes_on
returns-in-Fault-clause-goes_on g c =
    let list = ap (λ (x : Sight). x.found.list) c.leave.ensures.served ∙ ap (λ s. s.list) c.enter-held.ensures.found in
    subst (λ (l : List Entry). StartsWith l (view c.args.pass.now).seen) (sym list) c.enter-held.ensures.seen

pub returns-in-Some-clause-goes_on : goal.returns-in-Some-clause-goes_on
returns-in-Some-clause-goes_on g c =
    let list = ap (λ (x : Sight). x.found.list) c.leave-in-Some.ensures.served ∙ ap (λ s. s.list) c.enter-held.ensures.found in
    subst (λ (l : List Entry). StartsWith l (view c.args.pass.now).seen) (sym list) c.enter-held.ensures.seen

pub returns-clause-goes_on : goal.returns-clause-goes_on
returns-clause-goes_on g c =
    subst (λ (l : List Entry). StartsWith l (view c.args.pass.now).seen)
    (sym (ap (λ s. s.list) c.enter-held.ensures.found)) c.enter-held.ensures.seen
