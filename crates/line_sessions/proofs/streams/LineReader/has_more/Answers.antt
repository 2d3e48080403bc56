use Rattle.std.proofs.Common.{[], ap, sym, ◌∙◌, append-nil}
use Rattle.std.proofs.KnownBytes.{Consumes-nil}
use Rattle.line_sessions.proofs.LineParts.{more_from_refilled, slice_range-none, slice_range-some}
use Rattle.line_sessions.proofs.streams.LineReader.has_more.Goals as goal

pub returns-then-self-clause-says : goal.returns-then-self-clause-says
returns-then-self-clause-says g c =
    let here = ap (λ lines. lines.pending) c.self.view_is in record {
      rest = c.args.self.now.pending;
      came = record { taken = []; consumed = Consumes-nil _; bytes_are = append-nil _ };
      some = λ none. slice_range-some _ _ _ c.if-self.true c.self.invariant.1 (here ∙ none);
    }

pub returns-clause-says : goal.returns-clause-says
returns-clause-says g c = more_from_refilled _ _ _ _ _ (sym (ap (λ lines. lines.pending) c.self.view_is) ∙ slice_range-none _ _ _ c.if-self.false) c.refill.ensures.says
