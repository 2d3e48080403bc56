-- The first field of a line.
use Rattle.std.proofs.Common.{◌≡◌, ◌∙◌, ℕ, List, [], get_or, nat_eq, ap, refl}
use Rattle.std.proofs.lemmas.List.Splits.{slice_split_at, slice_split_none}
use Rattle.std.specs.List.{slice_split}
use Rattle.served_clients.specs.lines.Cuts.{IsCutAt, Lacks}
use Rattle.batch_command.specs.Asks.{first_field}

pub first_cut : (line front back : List ℕ) → IsCutAt 32 line front back → first_field line ≡ front
first_cut line front back cut =
    ap (λ l. get_or l 0 []) (ap (slice_split (λ byte. nat_eq byte 32)) cut.parts ∙ slice_split_at (λ byte. nat_eq byte 32) front 32 back cut.first refl)

pub first_whole : (line : List ℕ) → Lacks 32 line → first_field line ≡ line
first_whole line lacks = ap (λ l. get_or l 0 []) (slice_split_none (λ byte. nat_eq byte 32) line lacks)
