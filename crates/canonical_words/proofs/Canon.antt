-- What `clap` makes of canonical words.
use Rattle.std.proofs.Common.{ℕ, List, [], ◌∷◌, refl, codes}
use Rattle.command_line.specs.Spelling.{Setting, setting}
use Rattle.clap.proofs.OnLiterals.{clap_on_literals}
use Rattle.canonical_words.specs.Canonical.{ComesBack}

-- the options for the names of files, and others behind them
abbrev pub with_files : (network base journal : List ℕ) → List Setting → List Setting
with_files network base journal others =
    setting (codes "network") network ∷ setting (codes "base") base ∷ setting (codes "journal") journal ∷ others

pub list_back : (network out : List ℕ) → ComesBack (codes "list") (setting (codes "network") network ∷ setting (codes "out") out ∷ [])
unfolding clap_on_literals
list_back network out = record { taken = refl; values = refl }

pub init_back : (network base journal : List ℕ) → ComesBack (codes "init") (with_files network base journal [])
unfolding clap_on_literals
init_back network base journal = record { taken = refl; values = refl }

pub move_back : (network base journal from : List ℕ) → ComesBack (codes "init") (with_files network base journal (setting (codes "from") from ∷ []))
unfolding clap_on_literals
move_back network base journal from = record { taken = refl; values = refl }

pub stairs_back : (network base journal entry out : List ℕ) → ComesBack (codes "stairs") (with_files network base journal (setting (codes "entry") entry ∷ setting (codes "out") out ∷ []))
unfolding clap_on_literals
stairs_back network base journal entry out = record { taken = refl; values = refl }

pub capacity_back : (network base journal first last from to out : List ℕ) → ComesBack (codes "capacity") (with_files network base journal (setting (codes "first") first ∷ setting (codes "last") last ∷ setting (codes "from") from ∷ setting (codes "to") to ∷ setting (codes "out") out ∷ []))
unfolding clap_on_literals
capacity_back network base journal first last from to out = record { taken = refl; values = refl }

pub serve_back : (network base journal trains : List ℕ) → ComesBack (codes "serve") (with_files network base journal (setting (codes "trains") trains ∷ []))
unfolding clap_on_literals
serve_back network base journal trains = record { taken = refl; values = refl }

pub demo_back : (number out : List ℕ) → ComesBack (codes "demo") (setting (codes "number") number ∷ setting (codes "out") out ∷ [])
unfolding clap_on_literals
demo_back number out = record { taken = refl; values = refl }

pub check_back : (network base journal trains proof : List ℕ) → ComesBack (codes "check") (with_files network base journal (setting (codes "trains") trains ∷ setting (codes "proof") proof ∷ []))
unfolding clap_on_literals
check_back network base journal trains proof = record { taken = refl; values = refl }

pub batch_back : (network base journal trains client workers : List ℕ) → ComesBack (codes "batch") (with_files network base journal (setting (codes "trains") trains ∷ setting (codes "client") client ∷ setting (codes "workers") workers ∷ []))
unfolding clap_on_literals
batch_back network base journal trains client workers = record { taken = refl; values = refl }

pub carry_back : (network base journal from from_base : List ℕ) → ComesBack (codes "carry") (with_files network base journal (setting (codes "from") from ∷ setting (codes "from-base") from_base ∷ []))
unfolding clap_on_literals
carry_back network base journal from from_base = record { taken = refl; values = refl }

pub left_back : (left : List ℕ) → ComesBack (codes "carry") (setting (codes "left") left ∷ [])
unfolding clap_on_literals
left_back left = record { taken = refl; values = refl }
