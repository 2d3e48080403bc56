-- What a book keeps after each answer of its journal.
use Rattle.std.proofs.Common.{◌≡◌, inl, inr, ℕ, ◌+◌, ◌<◌, ◌^◌, List, [], ◌∷◌, ◌++◌, length, refl, sym, ◌∙◌, ap, subst, arith, length-append}
use Rattle.std.proofs.lemmas.List.Elements.{All-push}
use Rattle.outside_io.specs.Disks.{Spans}
use Rattle.grant_journal.specs.Front.{EndsBehind, with_entry, IsBeforeOrAfter}
use Rattle.grant_journal.specs.Gates.{Gated}
use Rattle.grant_journal.specs.Journals.{IsAtRest, IsPending}
use Rattle.grant_journal.specs.Histories.{counted, front_of, ReadsAsPrefix}
use Rattle.grant_journal.specs.Keeping.{LastIsPending, Remembers, IsKept}
use Rattle.grant_journal.proofs.Spanning.{spans-weaker}
use Rattle.grant_journal.proofs.Prefixes.{front-more, reads-either, reads-whole, reads-least, either-prefix}
use Rattle.grant_journal.proofs.Keepings.{remembers-goes_on, remembers-stays, remembers-more}

module _ {D : Type 0} (images : D → List ℕ → Type 0) (clock : D → ℕ) (since : D → ℕ → List ℕ → Type 0) (old new : Gated D) (header : List ℕ) (bodies : List (List ℕ)) (made found : ℕ) (moments : List ℕ) where
  -- a journal that is at rest with one entry more
  rest-more : (body : List ℕ) → IsAtRest images new (with_entry (front_of header bodies) (counted body)) → IsAtRest images new (front_of header (bodies ++ (body ∷ [])))
  rest-more body rest = subst (IsAtRest images new) (sym (front-more header bodies body)) rest

  -- a fault before the entry was begun
  pub kept-faulty : IsKept images clock since old header bodies made found moments → found + length moments ≡ length bodies → IsAtRest images new (front_of header bodies) × Spans clock since old.disk new.disk (EndsBehind (front_of header bodies)) → IsKept images clock since new header bodies made found moments
  kept-faulty kept idle left = record {
    now = inl (record { count = idle; rest = left.0 });
    short = kept.short;
    remembers = remembers-stays images clock since old.disk new.disk (EndsBehind (front_of header bodies)) header bodies made found moments left.1 (λ image reads. reads-least header bodies (found + length moments) (length bodies) image (omega arith) (reads-whole header bodies image reads)) kept.remembers;
  }

  -- one entry more, while all older moments stay
  pub remembers-entry : (body : List ℕ) → found + length moments ≡ length bodies → Spans clock since old.disk new.disk (IsBeforeOrAfter (front_of header bodies) (counted body)) → Remembers clock since old.disk header bodies made found moments → Remembers clock since new.disk header (bodies ++ (body ∷ [])) made found moments
  remembers-entry body idle span before =
      remembers-goes_on images clock since old.disk new.disk (IsBeforeOrAfter (front_of header bodies) (counted body)) header bodies (body ∷ []) made found moments span
      (λ image either. subst (λ (n : ℕ). ReadsAsPrefix header (bodies ++ (body ∷ [])) n image) (sym idle) (either-prefix header bodies body image (reads-either header bodies body image either)))
      before

  -- a fault after it was begun
  pub kept-pending : (body : List ℕ) → length body < 2 ^ 32 → IsKept images clock since old header bodies made found moments → found + length moments ≡ length bodies → IsPending images new (front_of header bodies) (counted body) × Spans clock since old.disk new.disk (IsBeforeOrAfter (front_of header bodies) (counted body)) → IsKept images clock since new header (bodies ++ (body ∷ [])) made found moments
  kept-pending body fits kept idle left = record {
    now = inr (record { before = bodies; body = body; last = refl; count = idle; pending = left.0 });
    short = All-push (λ (b : List ℕ). length b < 2 ^ 32) bodies body kept.short fits;
    remembers = remembers-entry body idle left.1 kept.remembers;
  }

  -- all done
  pub kept-done : ((disk : D) (image : List ℕ) → since disk (clock disk) image → images disk image) → (body : List ℕ) → length body < 2 ^ 32 → IsKept images clock since old header bodies made found moments → found + length moments ≡ length bodies → IsAtRest images new (with_entry (front_of header bodies) (counted body)) × Spans clock since old.disk new.disk (IsBeforeOrAfter (front_of header bodies) (counted body)) → IsKept images clock since new header (bodies ++ (body ∷ [])) made found (moments ++ (clock new.disk ∷ []))
  kept-done only body fits kept idle left =
      let rest = rest-more body left.0 in record {
        now = inl (record { count = omega (arith, length-append moments (clock new.disk ∷ []), length-append bodies (body ∷ [])); rest = rest });
        short = All-push (λ (b : List ℕ). length b < 2 ^ 32) bodies body kept.short fits;
        remembers = remembers-more images clock since only new.disk header (bodies ++ (body ∷ [])) made found moments (omega (arith, length-append bodies (body ∷ []))) rest.now (remembers-entry body idle left.1 kept.remembers);
      }

-- what is kept once a pending gate was written again
module _ {D : Type 0} (images : D → List ℕ → Type 0) (clock : D → ℕ) (since : D → ℕ → List ℕ → Type 0) (old new : Gated D) (header : List ℕ) (bodies : List (List ℕ)) (made found : ℕ) (moments : List ℕ) (kept : IsKept images clock since old header bodies made found moments) (last : LastIsPending images old header bodies (found + length moments)) where
  reads-again : (image : List ℕ) → IsBeforeOrAfter (front_of header last.before) (counted last.body) image → ReadsAsPrefix header bodies (found + length moments) image
  reads-again image either =
      subst (λ (n : ℕ). ReadsAsPrefix header bodies n image) (sym last.count)
      (subst (λ (b : List (List ℕ)). ReadsAsPrefix header b (length last.before) image) (sym last.last) (either-prefix header last.before last.body image (reads-either header last.before last.body image either)))

  pub spans-again : Spans clock since old.disk new.disk (IsBeforeOrAfter (front_of header last.before) (counted last.body)) → Spans clock since old.disk new.disk (ReadsAsPrefix header bodies (found + length moments))
  spans-again span = spans-weaker clock since old.disk new.disk _ _ span reads-again

  pub kept-faulty-again : IsPending images new (front_of header last.before) (counted last.body) × Spans clock since old.disk new.disk (IsBeforeOrAfter (front_of header last.before) (counted last.body)) → IsKept images clock since new header bodies made found moments
  kept-faulty-again left = record {
    now = inr (record { before = last.before; body = last.body; last = last.last; count = last.count; pending = left.0 });
    short = kept.short;
    remembers = remembers-stays images clock since old.disk new.disk _ header bodies made found moments left.1 reads-again kept.remembers;
  }

  pub kept-settled : ((disk : D) (image : List ℕ) → since disk (clock disk) image → images disk image) → IsAtRest images new (with_entry (front_of header last.before) (counted last.body)) × Spans clock since old.disk new.disk (IsBeforeOrAfter (front_of header last.before) (counted last.body)) → IsKept images clock since new header bodies made found (moments ++ (clock new.disk ∷ []))
  kept-settled only left =
      let front : with_entry (front_of header last.before) (counted last.body) ≡ front_of header bodies = sym (front-more header last.before last.body) ∙ ap (front_of header) (sym last.last) in
      let rest = subst (IsAtRest images new) front left.0 in
      let one_more : length bodies ≡ length last.before + 1 = ap length last.last ∙ length-append last.before (last.body ∷ []) in record {
        now = inl (record { count = omega (arith, length-append moments (clock new.disk ∷ []), last.count); rest = rest });
        short = kept.short;
        remembers = remembers-more images clock since only new.disk header bodies made found moments (omega (arith, last.count)) rest.now (remembers-stays images clock since old.disk new.disk _ header bodies made found moments left.1 reads-again kept.remembers);
      }
