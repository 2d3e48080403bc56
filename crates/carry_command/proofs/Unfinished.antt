-- What a journal begins with.
use Rattle.std.proofs.Common.{◌≡◌, ℕ, List, ◌∷◌, ◌++◌, length, take, drop, inl, inr, sym, ap, ◌∙◌}
use Rattle.std.proofs.Common.{arith}
use Rattle.path_recover.specs.Files.{TellsHistory}
use Rattle.path_recover.specs.journal.Headers.{header_of_version}
use Rattle.path_recover.specs.journal.Histories.{bodies_of, front_of, ReadsAs}
use Rattle.rail_types.specs.declared.entries.Entry.{Entry}
use Rattle.rail_types.specs.Timetables.{Timetable}
use Rattle.carry_command.specs.Unfinished.{IsUnfinished}

begins : (version : ℕ) (network base file : List ℕ) (bodies : List (List ℕ)) → ReadsAs (header_of_version version network base) bodies file → (rest : List ℕ) × (file ≡ 83 ∷ (84 ∷ rest))
begins version network base file bodies reads = (drop 2 (front_of (header_of_version version network base) bodies ++ (reads.gate ∷ reads.rest)), reads.split)

apart : (file image rest others : List ℕ) → file ≡ 83 ∷ (84 ∷ rest) → image ≡ 83 ∷ (84 ∷ others) → IsUnfinished file image → ⊥
apart file image rest others whole is (inl short) = absurd (omega (arith, short, ap length is))
apart file image rest others whole is (inr differs) = differs (ap (take 1) is ∙ sym (ap (take 1) whole))

pub unfinished_refused : (timetable other : Timetable) (network base file : List ℕ) (entries : List Entry) (version : ℕ) (other_network other_base image : List ℕ) (others : List Entry)
    → TellsHistory timetable 2 network base file entries → IsUnfinished file image → TellsHistory other version other_network other_base image others → ⊥
unfinished_refused timetable other network base file entries version other_network other_base image others whole unfinished tells =
    let first = begins 2 network base file (bodies_of entries) whole.reads in
    let second = begins version other_network other_base image (bodies_of others) tells.reads in
    apart file image first.0 second.0 first.1 second.1 unfinished
