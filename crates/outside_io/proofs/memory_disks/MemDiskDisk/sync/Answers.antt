use Rattle.std.proofs.Common.{◌≡◌, ℕ, List, ◌∷◌, sym, ap, ◌∙◌, subst}
use Rattle.outside_io.specs.DiskLaws.{contents-image}
use Rattle.outside_io.specs.StoredDisks.{Change, DiskInMemory, IsImageAfter, synced}
use Rattle.outside_io.proofs.memory_disks.MemDiskDisk.sync.Goals as goal

-- once it is synced, a crash leaves the contents, which it might have left before
synced-image : (old mid new : DiskInMemory) (image : List ℕ) → mid.first ≡ old.first → mid.changes ≡ old.changes → new.first ≡ mid.first → new.changes ≡ synced ∷ mid.changes → IsImageAfter new.first new.changes image → IsImageAfter old.first old.changes image
synced-image old mid new image first changes first_new changes_new left =
    let whole : IsImageAfter old.first (synced ∷ old.changes) image = subst (λ (x : List ℕ × List Change). IsImageAfter x.0 x.1 image) (λ i. ((first_new ∙ first) i, (changes_new ∙ ap (λ all. synced ∷ all) changes) i)) left in
    subst (IsImageAfter old.first old.changes) (sym whole) (contents-image old.first old.changes)

pub returns-clause-crash : goal.returns-clause-crash
returns-clause-crash c image left =
    let call = c.next_call_fails-call_fails.ensures.counted in
    let sync = c.next_sync_fails-sync_fails.ensures.counted in
    let last = c.settle.ensures in
    synced-image c.args.self.now c.next_sync_fails-sync_fails.new.self c.settle.new.self image (ap (λ d. d.first) sync ∙ ap (λ d. d.first) call) (ap (λ d. d.changes) sync ∙ ap (λ d. d.changes) call) (ap (λ d. d.first) last) (ap (λ d. d.changes) last) left
