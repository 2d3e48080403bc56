-- What a crash leaves of a book's disk.
use Rattle.std.proofs.Common.{◌≡◌, ◌∙◌, ◌+◌, ℕ, List, Option, None, Some, length, IfSome, refl, ap}
use Rattle.std.proofs.Common.{subst, arith}
use Rattle.outside_io.specs.declared.disks.Disk.{Ghosts as Disks}
use Rattle.path_recover.specs.journal.Headers.{header_of}
use Rattle.path_recover.specs.journal.Histories.{bodies_of, ReadsAsPrefix}
use Rattle.line_answers.specs.book.Footings.{footing_of}
use Rattle.line_answers.specs.book.Ledgers.{IsPrefixOf, Ledger, settled_of}
use Rattle.line_answers.specs.book.declared.stands.Footing.{Footing}
use Rattle.served_clients.specs.ServedJournals.{IsClosed, IsFound, Remains}
use Rattle.served_clients.specs.declared.served_journals.files.Files.{Files}

-- what a file reads as, by the digests of the files
prefix_by : (n n' b b' : List ℕ) (bodies : List (List ℕ)) (least least' : ℕ) (file : List ℕ) → n ≡ n' → b ≡ b' → least ≡ least' → ReadsAsPrefix (header_of n b) bodies least file → ReadsAsPrefix (header_of n' b') bodies least' file
prefix_by n n' b b' bodies least least' file network base count reads =
    subst (λ (x : List ℕ). ReadsAsPrefix (header_of x b') bodies least' file) network
    (subst (λ (x : List ℕ). ReadsAsPrefix (header_of n x) bodies least' file) base
    (subst (λ (k : ℕ). ReadsAsPrefix (header_of n b) bodies k file) count reads))

-- what a disk holds, by what holds of it where it is told
told_by : (P Q : List ℕ → Type 0) (contents : Option (List ℕ)) → ((file : List ℕ) → P file → Q file) → IfSome contents P → IfSome contents Q
told_by P Q None all is = tt
told_by P Q (Some file) all is = all file is

-- what a crash leaves, by what the book kept
pub remains_by : {D : Type 0} (disk : Disks D) (files : Files) (before after : D) (found left : Ledger D) → IsFound disk files before found → footing_of left ≡ footing_of found → IsClosed disk left after → Remains disk files before after found left
remains_by {D} disk files before after found left opened footing closed =
    let network : left.network_digest ≡ files.network.digest = ap (λ (f : Footing). f.network_digest) footing ∙ opened.made.network_digest in
    let base : left.base_digest ≡ files.base.digest = ap (λ (f : Footing). f.base_digest) footing ∙ opened.made.base_digest in
    let count : left.found ≡ length found.entries = ap (λ (f : Footing). f.found) footing ∙ opened.made.found in
    let made : left.made ≡ disk.clock found.disk = ap (λ (f : Footing). f.made) footing ∙ opened.made.made in
    let tick = opened.tick in
    let bodies = bodies_of left.entries in
    let at : (least least' : ℕ) (file : List ℕ) → least ≡ least' → IsPrefixOf left least file → ReadsAsPrefix (header_of files.network.digest files.base.digest) bodies least' file =
    λ least least' file same reads. prefix_by left.network_digest files.network.digest left.base_digest files.base.digest bodies least least' file network base same reads in
    record {
      since = λ image is. at left.found (length found.entries) image count (closed.since (disk.clock before + 1) image (omega arith) is);
      now = λ image is. at (settled_of left) (settled_of left) image refl (closed.kept.now image (subst (λ (d : D). disk.images d image) closed.disk_is is));
      contents = told_by (IsPrefixOf left (settled_of left)) (λ file. ReadsAsPrefix (header_of files.network.digest files.base.digest) bodies (settled_of left) file) (disk.contents after)
          (λ file reads. at (settled_of left) (settled_of left) file refl reads) closed.contents;
    }
