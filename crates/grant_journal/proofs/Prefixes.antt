-- Files that read as a history, or as a prefix of one.
use Rattle.std.proofs.Common.{◌≡◌, inl, inr, ℕ, ◌≤◌, List, [], ◌∷◌, ◌++◌, length, sym, ◌∙◌, ap, subst, arith, append_assoc, length-append}
use Rattle.std.proofs.lemmas.Grind.{flat_map-append}
use Rattle.std.proofs.lemmas.List.{append-nil, take_all, take-append-le}
use Rattle.grant_journal.specs.Front.{EndsBehind, with_entry, IsBeforeOrAfter}
use Rattle.grant_journal.specs.Histories.{counted, opened, front_of, ReadsAs, ReadsAsEither, ReadsAsPrefix}

-- one entry more stands behind the front
pub front-more : (header : List ℕ) (bodies : List (List ℕ)) (body : List ℕ) → front_of header (bodies ++ (body ∷ [])) ≡ with_entry (front_of header bodies) (counted body)
front-more header bodies body =
    let parts : opened (bodies ++ (body ∷ [])) ≡ opened bodies ++ opened (body ∷ []) = flat_map-append (λ (b : List ℕ). 1 ∷ counted b) bodies (body ∷ []) in
    let one : opened (body ∷ []) ≡ 1 ∷ counted body = append-nil (1 ∷ counted body) in
    ap (λ (l : List ℕ). header ++ l) (parts ∙ ap (λ (l : List ℕ). opened bodies ++ l) one) ∙ sym (append_assoc header (opened bodies) (1 ∷ counted body))

-- a file of the front with one entry or without it reads as the history before or after
pub reads-either : (header : List ℕ) (bodies : List (List ℕ)) (body file : List ℕ) → IsBeforeOrAfter (front_of header bodies) (counted body) file → ReadsAsEither header bodies (bodies ++ (body ∷ [])) file
reads-either header bodies body file (inl before) = inl before
reads-either header bodies body file (inr after) = inr (subst (λ (front : List ℕ). EndsBehind front file) (sym (front-more header bodies body)) after)

pub reads-whole : (header : List ℕ) (bodies : List (List ℕ)) (file : List ℕ) → ReadsAs header bodies file → ReadsAsPrefix header bodies (length bodies) file
reads-whole header bodies file reads = record {
  count = length bodies;
  enough = omega arith;
  within = omega arith;
  reads = subst (λ (b : List (List ℕ)). ReadsAs header b file) (sym (take_all (length bodies) bodies (omega arith))) reads;
}

-- a prefix of the history is one of a longer history
pub reads-further : (header : List ℕ) (bodies more : List (List ℕ)) (least : ℕ) (file : List ℕ) → ReadsAsPrefix header bodies least file → ReadsAsPrefix header (bodies ++ more) least file
reads-further header bodies more least file prefix = record {
  count = prefix.count;
  enough = prefix.enough;
  within = omega (arith, prefix.within, length-append bodies more);
  reads = subst (λ (b : List (List ℕ)). ReadsAs header b file) (sym (take-append-le prefix.count bodies more prefix.within)) prefix.reads;
}

-- one that has more entries has the first of them
pub reads-least : (header : List ℕ) (bodies : List (List ℕ)) (least more : ℕ) (file : List ℕ) → least ≤ more → ReadsAsPrefix header bodies more file → ReadsAsPrefix header bodies least file
reads-least header bodies least more file le prefix = record { count = prefix.count; enough = omega (arith, prefix.enough); within = prefix.within; reads = prefix.reads }

-- before or after an entry a file reads as a prefix that has all entries before it
pub either-prefix : (header : List ℕ) (bodies : List (List ℕ)) (body file : List ℕ) → ReadsAsEither header bodies (bodies ++ (body ∷ [])) file → ReadsAsPrefix header (bodies ++ (body ∷ [])) (length bodies) file
either-prefix header bodies body file (inl before) = reads-further header bodies (body ∷ []) (length bodies) file (reads-whole header bodies file before)
either-prefix header bodies body file (inr after) = reads-least header (bodies ++ (body ∷ [])) (length bodies) (length (bodies ++ (body ∷ []))) file (omega (arith, length-append bodies (body ∷ []))) (reads-whole header (bodies ++ (body ∷ [])) file after)
