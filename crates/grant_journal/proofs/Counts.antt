-- How many bytes a file of a history has up to its first gate that isn't open.
use Rattle.std.proofs.Common.{◌≡◌, ℕ, ◌+◌, List, [], ◌∷◌, length, refl, sym, ◌∙◌, arith, length-append}
use Rattle.std.specs.Prelude.{sum_by}
use Rattle.std.proofs.lemmas.List.Sums.{sum_by-cons}
use Rattle.std.specs.Int.{w32, to_be_bytes}
use Rattle.rail_types.specs.declared.entries.Entry.{Entry}
use Rattle.entry_codec.specs.Body.{body_of}
use Rattle.grant_journal.specs.Headers.{header_of}
use Rattle.grant_journal.specs.Histories.{bodies_of, bytes_of, counted, front_of, opened}

four : (n : ℕ) → length (to_be_bytes w32 n) ≡ 4
four n = refl

pub header_bytes : (network base : List ℕ) → length network ≡ 32 → length base ≡ 32 → length (header_of network base) ≡ 76
header_bytes network base n b = omega (arith, length-append network base)

counted_bytes : (body : List ℕ) → length (counted body) ≡ length body + 4
counted_bytes body = omega (arith, length-append (to_be_bytes w32 (length body)) body, four (length body))

opened_bytes : (entries : List Entry) → length (opened (bodies_of entries)) ≡ sum_by (λ entry. length (body_of entry) + 5) entries
opened_bytes [] = refl
opened_bytes (entry ∷ entries) = length-append (1 ∷ counted (body_of entry)) (opened (bodies_of entries)) ∙ (λ i. (one (body_of entry)) i + opened_bytes entries i) ∙ sym (sum_by-cons (λ one. length (body_of one) + 5) entry entries)
  where
    one : (body : List ℕ) → length (1 ∷ counted body) ≡ length body + 5
    one body = omega (arith, counted_bytes body)

pub front_bytes : (network base : List ℕ) (entries : List Entry) → length network ≡ 32 → length base ≡ 32 → length (front_of (header_of network base) (bodies_of entries)) + 1 ≡ bytes_of entries
front_bytes network base entries n b = omega (arith, length-append (header_of network base) (opened (bodies_of entries)), header_bytes network base n b, opened_bytes entries)
