use Rattle.std.proofs.Common.{◌≡◌, ℕ, List, Option, None, Some, IfSome, refl, subst}
use Rattle.line_answers.specs.book.Ledgers.{IsPrefixOf, settled_of}
use Rattle.served_clients.proofs.served_journals.books.close_book.Goals as goal

-- the contents of a disk, where they are told, are an image of now
told_contents : (P : List ℕ → Type 0) (images : List ℕ → Type 0) (contents : Option (List ℕ)) → ((bytes : List ℕ) → contents ≡ Some bytes → images bytes) → ((image : List ℕ) → images image → P image) → IfSome contents P
told_contents P images None is all = tt
told_contents P images (Some bytes) is all = all bytes (is bytes refl)

pub returns : goal.returns
returns g c =
    let D = g.row.D.Denot in
    let disk = g.D.Disk in
    let book = c.args.book in let after : D = c.close.result in
    let same = c.close.ensures.disk in let kept = c.close.ensures.keeps in
    record {
      closed = record {
        disk_is = same;
        kept = kept;
        since = λ moment image made is. kept.since_made image (g.met.D.Disk.since_earlier book.disk book.made moment image made (subst (λ (d : D). disk.since d moment image) same is));
        contents = told_contents (IsPrefixOf book (settled_of book)) (disk.images after) (disk.contents after) (g.met.D.Disk.contents_are_image after)
            (λ image is. kept.now image (subst (λ (d : D). disk.images d image) same is));
      };
    }
