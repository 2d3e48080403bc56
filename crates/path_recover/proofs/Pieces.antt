-- Pieces of a file that are read one behind the other.
use Rattle.std.proofs.Common.{◌≡◌, ℕ, List, Option, None, Some, ◌++◌, length, take, drop, sym, ap, ◌∙◌, subst}
use Rattle.std.specs.Prelude.{IfSome}
use Rattle.std.proofs.lemmas.List.{length-append, take-append-drop}
use Rattle.std.proofs.Math.Seq.{take-add}
use Rattle.outside_io.specs.declared.disks.Disk.{Ghosts}
use Rattle.path_recover.specs.Pieces.{HasLooked, IsFrontOf}

-- two looks are one
pub looked_on : {D : Type 0} (disk : Ghosts D) (old between new : D) → HasLooked disk old between → HasLooked disk between new → HasLooked disk old new
looked_on disk old between new first second = record {
  contents = second.contents ∙ first.contents;
  time = record {
    clock = second.time.clock ∙ first.time.clock;
    images = λ image now. first.time.images image (second.time.images image now);
    images_kept = λ image before. second.time.images_kept image (first.time.images_kept image before);
    past_alone = λ moment image now. first.time.past_alone moment image (second.time.past_alone moment image now);
    kept = λ moment image before. second.time.kept moment image (first.time.kept moment image before);
  };
}

-- a front and a front of what is behind it are a longer front
longer : (front piece bytes : List ℕ) → IsFrontOf front bytes → IsFrontOf piece (drop (length front) bytes) → IsFrontOf (front ++ piece) bytes
longer front piece bytes begins goes_on =
    (λ i. begins i ++ goes_on i) ∙ sym (take-add (length front) (length piece) bytes) ∙ ap (λ n. take n bytes) (sym (length-append front piece))

-- a front and all that is behind it are the whole
whole : (front piece bytes : List ℕ) → IsFrontOf front bytes → piece ≡ drop (length front) bytes → front ++ piece ≡ bytes
whole front piece bytes begins ends = (λ i. begins i ++ ends i) ∙ take-append-drop (length front) bytes

-- the same, where the bytes are told
pub longer_told : (now before : Option (List ℕ)) (front piece all : List ℕ) (at : ℕ) → now ≡ before → at ≡ length front → all ≡ front ++ piece
    → IfSome before (IsFrontOf front) → IfSome now (λ bytes. IsFrontOf piece (drop at bytes)) → IfSome before (IsFrontOf all)
longer_told now None front piece all at same place split begins goes_on = tt
longer_told now (Some bytes) front piece all at same place split begins goes_on =
    let behind : IsFrontOf piece (drop at bytes) = subst (λ told. IfSome told (λ bytes. IsFrontOf piece (drop at bytes))) same goes_on in
    subst (λ l. IsFrontOf l bytes) (sym split) (longer front piece bytes begins (subst (λ n. IsFrontOf piece (drop n bytes)) place behind))

pub whole_told : (now before : Option (List ℕ)) (front piece all : List ℕ) (at : ℕ) → now ≡ before → at ≡ length front → all ≡ front ++ piece
    → IfSome before (IsFrontOf front) → IfSome now (λ bytes. piece ≡ drop at bytes) → IfSome before (λ bytes. all ≡ bytes)
whole_told now None front piece all at same place split begins ends = tt
whole_told now (Some bytes) front piece all at same place split begins ends =
    let behind : piece ≡ drop at bytes = subst (λ told. IfSome told (λ bytes. piece ≡ drop at bytes)) same ends in
    split ∙ whole front piece bytes begins (behind ∙ ap (λ n. drop n bytes) place)
