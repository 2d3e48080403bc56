-- Texts that were written one after another.
use Rattle.std.proofs.Common.{◌≡◌, ◌∙◌, ℕ, ◌<◌, List, [], ◌++◌, ap, get_or, length, subst, take}
use Rattle.std.proofs.lemmas.List.{get_or_default}
use Rattle.std.proofs.KnownBytes.{Appends-trans}
use Rattle.command_reports.specs.Writing.{TookAll}
use Rattle.served_clients.specs.sessions.declared.sessions.Why.TheVariants.{WriteFault}
use Rattle.outside_io.specs.Stops.{StopsAt}
use Rattle.outside_io.specs.declared.sinks.Sink.{Ghosts as Sinks}
use Rattle.batch_command.specs.Writing.{text_of_all, WroteSome}

module _ {Snk : Type 0} (sink : Sinks Snk) where
  -- a sink that took bytes, and then some, and failed
  took_then_stops : (front back : List ℕ) (before mid after : Snk) → TookAll sink front before mid
      → StopsAt sink.held sink.faults mid after back → StopsAt sink.held sink.faults before after (front ++ back)
  took_then_stops front back before mid after one stops = record {
    mid = stops.mid;
    gained_so = Appends-trans (sink.held before) (sink.held mid) (sink.held stops.mid) front back one.took stops.gained_so;
    quiet = stops.quiet ∙ one.quiet;
    kept = stops.kept;
    later = stops.later;
    rose = stops.rose;
  }

  -- a sink that took so many texts, and then failed within the next one
  pub wrote_some : (texts : List (List ℕ)) (count : ℕ) (next text : List ℕ) (part lines : ℕ) (before mid after : Snk)
      → count < length texts → text ≡ get_or texts count next → part < length text
      → TookAll sink (text_of_all (take count texts)) before mid
      → StopsAt sink.held sink.faults mid after (take part text) → lines ≡ count
      → WroteSome sink texts before after (record { lines = lines; why = WriteFault })
  wrote_some texts count next text part lines before mid after fewer is proper took stops number =
      let same : text ≡ get_or texts count [] = is ∙ get_or_default texts count next [] fewer in
      record {
        count = count;
        part = part;
        fewer = fewer;
        proper = subst (λ (bytes : List ℕ). part < length bytes) same proper;
        stops =
            subst (λ (bytes : List ℕ). StopsAt sink.held sink.faults before after (text_of_all (take count texts) ++ take part bytes)) same
            (took_then_stops (text_of_all (take count texts)) (take part text) before mid after took stops);
        ended_is = ap (λ (n : ℕ). record { lines = n; why = WriteFault }) number;
      }
