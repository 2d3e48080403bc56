use Rattle.std.proofs.Common.{rules, ◌≡◌, ◌++◌, Bool, true, false, List, ℕ, length, refl, sym, ap, ◌∙◌}
use Rattle.path_recover.specs.Starts.{HasDigests, start_of}
use Rattle.path_recover.proofs.journal_reading.starts.pass_header.Goals as goal

no_answer : (answer : Bool) → answer ≡ false → answer ≡ true → ⊥
no_answer answer wrong right = absurd cc

with_digests : (version : ℕ) (start network base left file had other : List ℕ) → start ≡ start_of version → file ≡ start ++ network ++ base ++ left → had ≡ network → other ≡ base → length network ≡ 32 → length base ≡ 32 → HasDigests version had other file
with_digests version start network base left file had other begins split is also size as_long = record {
  left = left;
  split = split ∙ (λ i. begins i ++ sym is i ++ sym also i ++ left);
  network_size = ap length is ∙ size;
  base_size = ap length also ∙ as_long;
}

pub returns-then-not-is_same-clause-refused : goal.returns-then-not-is_same-clause-refused
returns-then-not-is_same-clause-refused c = (
  refl,
  λ same. no_answer c.is_same.result c.if-not-is_same.true (c.is_same.ensures.1 (sym c.digest.ensures ∙ same)),
  c.digests.result.1.now,
  with_digests c.args.version c.start-start.result c.digests.result.0.now c.digests.result.1.now c.digests.result.2.now c.args.file.now c.digest.result c.digests.result.1.now c.start-start.ensures c.digests.ensures.split c.digest.ensures refl c.digests.ensures.network c.digests.ensures.base,
)

pub returns-then-not-is_same-2-clause-refused : goal.returns-then-not-is_same-2-clause-refused
returns-then-not-is_same-2-clause-refused c =
    let same : c.digests.result.0.now ≡ c.args.network.now = search rules in (
      refl,
      λ other. no_answer c.is_same-2.result c.if-not-is_same-2.true (c.is_same-2.ensures.1 (sym c.digest-then-not-is_same-2.ensures ∙ other)),
      with_digests c.args.version c.start-start.result c.digests.result.0.now c.digests.result.1.now c.digests.result.2.now c.args.file.now c.args.network.now c.digest-then-not-is_same-2.result c.start-start.ensures c.digests.ensures.split (sym same) c.digest-then-not-is_same-2.ensures c.digests.ensures.network c.digests.ensures.base,
    )
