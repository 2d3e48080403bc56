-- The bytes of a spelled name, one after another.
use Rattle.std.proofs.Common.{◌≡◌, ◌∙◌, ap, sym, refl, ℕ, ◌+◌, ◌<◌, ◌≤◌, List, [], ◌∷◌, ◌++◌, length, drop, get_or, Option, Some, None, option_and_then, append_assoc, add-one, drop-cons}
use Rattle.std.proofs.lemmas.List.{append-nil, drop_all}
use Rattle.json_fields.specs.declared.name_text.spellings.Escape.{Escape}
use Rattle.json_fields.specs.declared.name_text.spellings.Escape.TheVariants.{Outside, Begun, Halfway}
use Rattle.json_fields.specs.declared.name_text.spellings.Step.{Step}
use Rattle.json_fields.specs.NameReading.{found_bytes, step_of, read_on, with_front}

pub with_front-nil : (name : Option (List ℕ)) → with_front [] name ≡ name
with_front-nil None = refl
with_front-nil (Some bytes) = refl

pub with_front-append : (a b : List ℕ) (name : Option (List ℕ)) → with_front (a ++ b) name ≡ with_front a (with_front b name)
with_front-append a b None = refl
with_front-append a b (Some bytes) = ap Some (append_assoc a b bytes)

-- what is spelled, by the byte at its front
pub read_on-byte : (escape : Escape) (byte : ℕ) (bytes : List ℕ) → read_on escape (byte ∷ bytes) ≡ option_and_then (λ (step : Step). with_front (found_bytes step.found) (read_on step.escape bytes)) (step_of escape byte)
unfolding read_on
read_on-byte Outside byte bytes = refl
read_on-byte Begun byte bytes = refl
read_on-byte (Halfway high) byte bytes = refl

at_byte : (field : List ℕ) (i d : ℕ) → i < length field → drop i field ≡ get_or field i d ∷ drop (i + 1) field
at_byte field i d within = drop-cons field i d within ∙ rw add-one refl

-- a byte that can't stand there
pub refused : (escape : Escape) (name field : List ℕ) (i d : ℕ) (all : Option (List ℕ)) → i < length field → None ≡ step_of escape (get_or field i d)
    → with_front name (read_on escape (drop i field)) ≡ all → None ≡ all
refused escape name field i d all within is so_far =
    let none : read_on escape (drop i field) ≡ None = rw (at_byte field i d within) (read_on-byte escape (get_or field i d) (drop (i + 1) field) ∙ rw (← is) refl) in
    rw none at so_far

-- a byte that can
pub goes_on : (escape : Escape) (step : Step) (name field : List ℕ) (i d : ℕ) (all : Option (List ℕ)) → i < length field → Some step ≡ step_of escape (get_or field i d)
    → with_front name (read_on escape (drop i field)) ≡ all → with_front (name ++ found_bytes step.found) (read_on step.escape (drop (i + 1) field)) ≡ all
goes_on escape step name field i d all within is so_far =
    let one : read_on escape (drop i field) ≡ with_front (found_bytes step.found) (read_on step.escape (drop (i + 1) field)) = rw (at_byte field i d within) (read_on-byte escape (get_or field i d) (drop (i + 1) field) ∙ rw (← is) refl) in
    with_front-append name (found_bytes step.found) (read_on step.escape (drop (i + 1) field)) ∙ (rw one at so_far)

-- the end, outside an escape and inside
pub ends_outside : (name field : List ℕ) (i : ℕ) (all : Option (List ℕ)) → length field ≤ i → with_front name (read_on Outside (drop i field)) ≡ all → Some name ≡ all
unfolding read_on
ends_outside name field i all past so_far = sym (ap Some (append-nil name)) ∙ (rw (drop_all i field past) at so_far)

pub ends_inside : (escape : Escape) (name field : List ℕ) (i : ℕ) (all : Option (List ℕ)) → (escape ≡ Outside → ⊥) → length field ≤ i → with_front name (read_on escape (drop i field)) ≡ all → None ≡ all
unfolding read_on
ends_inside Outside name field i all other past so_far = absurd (other refl)
ends_inside Begun name field i all other past so_far = rw (drop_all i field past) at so_far
ends_inside (Halfway high) name field i all other past so_far = rw (drop_all i field past) at so_far
