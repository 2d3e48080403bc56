use Rattle.std.proofs.Common.{◌≤◌, ℕ, List, All, inl, length, refl, sym, subst}
use Rattle.command_reports.specs.Scenes.{scene}
use Rattle.served_clients.specs.RunGhosts.{run_ghosts}
use Rattle.served_clients.specs.lines.declared.lines.TheConstants.{MAX_LINE_BYTES}
use Rattle.served_clients.specs.sessions.declared.sessions.TheConstants.{MAX_LINES}
use Rattle.served_clients.proofs.StreamLoans.{unchanged}
use Rattle.batch_command.specs.GivenBatches.{batch_of}
use Rattle.batch_command.specs.Lists.{LinesSay}
use Rattle.batch_command.proofs.Whole.{list_by}
use Rattle.batch_command.proofs.lists.serve_list.Goals as goal

pub returns-in-Err : goal.returns-in-Err
returns-in-Err g c = record {
  says = record {
    disk_is = c.close.ensures.disk;
    unwritten = refl;
    why = inl (record { fault = c.in-Err.fault; refuses = c.in-Err.ensures.refused; told = c.list_stops.ensures });
  };
  still = unchanged (scene g.O.Outside c.args.outside.now);
}

pub answer_lines-requires-clause-named : goal.answer_lines-requires-clause-named
answer_lines-requires-clause-named g c κs within = c.requires.named

pub answer_lines-requires-clause-name : goal.answer_lines-requires-clause-name
answer_lines-requires-clause-name g c κs within = c.requires.name

pub answer_lines-requires-clause-workers : goal.answer_lines-requires-clause-workers
answer_lines-requires-clause-workers g c κs within = c.requires.workers

pub answer_lines-requires-clause-settled : goal.answer_lines-requires-clause-settled
answer_lines-requires-clause-settled g c κs within = c.requires.settled

pub answer_lines-requires-clause-sound : goal.answer_lines-requires-clause-sound
answer_lines-requires-clause-sound g c κs within = c.requires.sound

pub answer_lines-requires-clause-network : goal.answer_lines-requires-clause-network
answer_lines-requires-clause-network g c κs within = c.requires.network

pub answer_lines-requires-clause-count : goal.answer_lines-requires-clause-count
answer_lines-requires-clause-count g c κs within =
    subst (λ (lines : List (List ℕ)). length lines ≤ MAX_LINES) (sym c.deref.ensures.value) c.in-Ok.ensures.read.lines_are.count

pub answer_lines-requires-clause-texts : goal.answer_lines-requires-clause-texts
answer_lines-requires-clause-texts g c κs within =
    subst (λ (lines : List (List ℕ)). All (λ (line : List ℕ). length line ≤ MAX_LINE_BYTES) lines) (sym c.deref.ensures.value)
    (λ k d below. (c.in-Ok.ensures.read.lines_are.lines_are k d below).short)

pub returns-in-Ok : goal.returns-in-Ok
returns-in-Ok g c =
    let ghosts = run_ghosts g.O.Src.Source g.O.Snk.Sink g.O.Dsk.Disk g.L.Rule in
    let known = c.args.known in let batch = batch_of c.args.answering.now.client.now c.args.answering.now.workers c.args.rules.items in
    let found = c.args.book in let after = c.answer_lines.result.0 in
    let says = subst (λ (lines : List (List ℕ)). LinesSay ghosts known batch lines found after c.args.sink.now c.answer_lines.new.sink c.answer_lines.result.1) c.deref.ensures.value c.answer_lines.ensures.says in
    record { says = list_by ghosts known batch c.in-Ok.lines.items found after c.args.source.now c.read_list.new.source c.args.sink.now c.answer_lines.new.sink c.answer_lines.result.1 c.in-Ok.ensures.read says; still = c.answer_lines.ensures.still }
