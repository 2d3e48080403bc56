-- How a list is read line by line, and how that ends.
use Rattle.std.proofs.Common.{◌≡◌, ◌∙◌, ℕ, ◌+◌, ◌<◌, ◌≤◌, List, [], ◌∷◌, ◌++◌, length, All, refl}
use Rattle.std.proofs.Common.{sym, ap, arith, append_assoc, append-nil, subst}
use Rattle.std.proofs.lemmas.List.{length_push}
use Rattle.std.proofs.lemmas.List.Elements.{All-nil, All-push}
use Rattle.std.specs.Io.KnownBytes.{Consumes, Keeps}
use Rattle.std.proofs.KnownBytes.{Consumes-nil, Consumes-trans}
use Rattle.served_clients.specs.sessions.Ends.{Begins}
use Rattle.served_clients.specs.sessions.Lines.{ended, IsLine, line_end, lines_of}
use Rattle.served_clients.specs.sessions.Streams.{Came, CameLast, CameLastLine, CameLine, CameLong}
use Rattle.served_clients.specs.sessions.Streams.{CameMore, PartThenFault}
use Rattle.served_clients.specs.sessions.declared.sessions.TheConstants.{MAX_LINES}
use Rattle.served_clients.proofs.sessions_lemmas.SessionSteps.{ended-append, have_no_end, line_text}
use Rattle.served_clients.proofs.sessions_lemmas.SessionSteps.{lines_of-ended, lines_of-last}
use Rattle.served_clients.proofs.sessions_lemmas.SessionSteps.{unless_empty-some}
use Rattle.batch_command.specs.LineLists.{AreTooMany, IsBroken, IsTooLong, IsWanted, IsWhole}
use Rattle.outside_io.specs.Faults.{Rose}
use Rattle.outside_io.specs.declared.sources.Source.{Ghosts as Sources}

module _ {Src : Type 0} (source : Sources Src) where
  -- so many lines came: what was taken is these and what is pending, and nothing failed
  pub record IsGathered (old now : Src) (pending : List ℕ) (lines : List (List ℕ)) (number : ℕ) : Type 0 where
    pub taken : List ℕ
    pub consumed : Consumes (source.left old) (source.left now) taken
    pub text : taken ≡ ended lines ++ pending
    pub lines_are : All IsLine lines
    pub count : length lines ≡ number
    pub quiet : source.faults now ≡ source.faults old

  pub gathered_none : (old : Src) (pending : List ℕ) (lines : List (List ℕ)) → pending ≡ [] → lines ≡ [] → IsGathered old old pending lines 0
  gathered_none old pending lines none no_lines = record {
    taken = [];
    consumed = Consumes-nil (source.left old);
    text = sym none ∙ ap (λ l. ended l ++ pending) (sym no_lines);
    lines_are = subst (All IsLine) (sym no_lines) (All-nil IsLine);
    count = ap length no_lines;
    quiet = refl;
  }

module _ {Src : Type 0} (source : Sources Src) {old now : Src} {pending : List ℕ} {lines : List (List ℕ)} {number : ℕ}
    (so : IsGathered source old now pending lines number) (new : Src) where
  took : (bytes : List ℕ) (came : Came (source.left now) (source.left new) pending bytes) → Consumes (source.left old) (source.left new) (so.taken ++ came.taken)
  took bytes came = Consumes-trans (source.left old) (source.left now) (source.left new) so.taken came.taken so.consumed came.consumed

  took_text : (bytes : List ℕ) (came : Came (source.left now) (source.left new) pending bytes) → so.taken ++ came.taken ≡ ended lines ++ bytes
  took_text bytes came =
      ap (λ front. front ++ came.taken) so.text ∙ append_assoc (ended lines) pending came.taken ∙ ap (λ rest. ended lines ++ rest) came.bytes_are

  begun : (bytes : List ℕ) (came : Came (source.left now) (source.left new) pending bytes) → number ≤ MAX_LINES → Begins (so.taken ++ came.taken) lines bytes
  begun bytes came most = record { text = took_text bytes came; lines_are = so.lines_are; count = omega (arith, so.count) }

  pub gathered_line : (line pending' : List ℕ) (more : List (List ℕ)) → CameLine (source.left now) (source.left new) pending line pending'
      → source.faults new ≡ source.faults now → more ≡ lines ++ line ∷ [] → IsGathered source old new pending' more (number + 1)
  gathered_line line pending' more came quiet pushed = record {
    taken = so.taken ++ came.came.taken;
    consumed = took (line ++ line_end ∷ pending') came.came;
    text = took_text (line ++ line_end ∷ pending') came.came ∙ line_text (ended lines) line pending'
        ∙ ap (λ front. front ++ pending') (sym (ended-append lines line)) ∙ ap (λ l. ended l ++ pending') (sym pushed);
    lines_are = subst (All IsLine) (sym pushed) (All-push IsLine lines line so.lines_are came.line_is);
    count = ap length pushed ∙ length_push lines line ∙ ap (λ n. n + 1) so.count;
    quiet = quiet ∙ so.quiet;
  }

  pub whole_with_last : (line pending' : List ℕ) (more : List (List ℕ)) → CameLastLine (source.left now) (source.left new) pending line pending'
      → source.faults new ≡ source.faults now → more ≡ lines ++ line ∷ [] → number < MAX_LINES → IsWhole source old new more
  whole_with_last line pending' more came quiet pushed most = record {
    taken = so.taken ++ came.last.came.taken;
    consumed = took line came.last.came;
    at_end = came.last.at_end;
    lines_are = record {
      text = pushed ∙ sym (ap lines_of (took_text line came.last.came) ∙ lines_of-ended lines line (have_no_end lines so.lines_are)
          ∙ ap (λ others. lines ++ others) (lines_of-last line came.line_is.one ∙ unless_empty-some line came.some));
      lines_are = subst (All IsLine) (sym pushed) (All-push IsLine lines line so.lines_are came.line_is);
      count = let long = ap length pushed ∙ length_push lines line in omega (arith, so.count);
    };
    quiet = quiet ∙ so.quiet;
  }

  pub whole_at_end : (pending' : List ℕ) → CameLast (source.left now) (source.left new) pending [] pending'
      → source.faults new ≡ source.faults now → number ≤ MAX_LINES → IsWhole source old new lines
  whole_at_end pending' came quiet most = record {
    taken = so.taken ++ came.came.taken;
    consumed = took [] came.came;
    at_end = came.at_end;
    lines_are = record {
      text = sym (ap lines_of (took_text [] came.came) ∙ lines_of-ended lines [] (have_no_end lines so.lines_are) ∙ append-nil lines);
      lines_are = so.lines_are;
      count = omega (arith, so.count);
    };
    quiet = quiet ∙ so.quiet;
  }

  pub too_long : CameLong (source.left now) (source.left new) pending → source.faults new ≡ source.faults now → number < MAX_LINES → IsTooLong source old new
  too_long came quiet most = record {
    taken = so.taken ++ came.came.taken;
    lines = lines;
    line = came.line;
    rest = came.rest;
    consumed = took (came.line ++ came.rest) came.came;
    begins = begun (came.line ++ came.rest) came.came (omega arith);
    one = came.one;
    long = came.long;
    allowed = omega (arith, so.count);
    quiet = quiet ∙ so.quiet;
  }

  pub too_many : CameMore (source.left now) (source.left new) pending → source.faults new ≡ source.faults now → number ≡ MAX_LINES → AreTooMany source old new
  too_many came quiet full = record {
    taken = so.taken ++ came.came.taken;
    lines = lines;
    rest = came.rest;
    consumed = took came.rest came.came;
    begins = begun came.rest came.came (omega (arith, full));
    full = so.count ∙ full;
    more = came.some;
    quiet = quiet ∙ so.quiet;
  }

  pub wanted : (bytes : List ℕ) → Came (source.left now) (source.left new) pending bytes → source.faults new ≡ source.faults now → IsWanted source old new
  wanted bytes came quiet = record { taken = so.taken ++ came.taken; consumed = took bytes came; quiet = quiet ∙ so.quiet }

module _ {Src : Type 0} (source : Sources Src) {old now : Src} {pending : List ℕ} {lines : List (List ℕ)} {number : ℕ}
    (so : IsGathered source old now pending lines number) (new : Src) where
  pub broken : PartThenFault source.left source.faults now new pending → number < MAX_LINES → IsBroken source old new
  broken fault most = record {
    taken = so.taken ++ fault.part.came.taken;
    lines = lines;
    rest = fault.part.rest;
    begins = begun source so fault.at_fault fault.part.rest fault.part.came (omega arith);
    partial = fault.part.partial;
    short = fault.part.short;
    few = λ full. absurd (omega (arith, full, so.count));
    stops = record {
      mid = fault.at_fault;
      taken_so = took source so fault.at_fault fault.part.rest fault.part.came;
      quiet = fault.quiet ∙ so.quiet;
      kept = fault.kept;
      later = fault.later;
      rose = fault.rose;
    };
  }

  pub broken_when_full : Keeps (source.left now) (source.left new) → pending ≡ [] → source.faults now ≤ source.faults new
      → Rose (source.faults now) (source.faults new) → number ≡ MAX_LINES → IsBroken source old new
  broken_when_full kept none later rose full = record {
    taken = so.taken;
    lines = lines;
    rest = [];
    begins = record { text = so.text ∙ ap (λ rest. ended lines ++ rest) none; lines_are = so.lines_are; count = omega (arith, so.count, full) };
    partial = λ k d below. absurd (omega arith);
    short = omega arith;
    few = λ _. refl;
    stops = record { mid = now; taken_so = so.consumed; quiet = so.quiet; kept = kept; later = later; rose = rose };
  }
