use Rattle.std.proofs.Common.{◌≡◌, true, false, refl}
use Rattle.std.proofs.lemmas.List.Elements.{All-map}
use Rattle.rail_types.specs.declared.paths.Claim.{Claim}
use Rattle.rail_types.specs.Occupation.{HasTicks, HeldClaim}
use Rattle.occupation_book.specs.Held.{held}
use Rattle.refusal_proof.specs.Proofs.{claims_held}
use Rattle.refusal_proof.proofs.Moving.{label_moves, labels_by_closing, labels_told, none_told, places_told, proof_by_passing, starts_by_closing}
use Rattle.refusal_proof.proofs.checks.check_listed.Goals as goal

pub returns-in_default-clause-none : goal.returns-in_default-clause-none
returns-in_default-clause-none c = λ _. none_told c.args.places.now.members c.as_slice.result.now c.args.proof.now.members c.in_ok-labels.field-0 c.as_slice.ensures c.in_default.is c.in_ok-labels.ensures.none

pub starts_pass-requires-clause-moves : goal.starts_pass-requires-clause-moves
starts_pass-requires-clause-moves c =
    let are = labels_told c.args.places.now.members c.as_slice.result.now c.args.proof.now.members c.in_ok-labels.field-0 c.in-Some.labels c.as_slice-labels.result.now c.as_slice.ensures c.in-Some.is c.as_slice-labels.ensures.value c.in_ok-labels.ensures.found in
    label_moves c.args.net.now c.args.request.now c.args.places.now c.args.proof.now.members c.as_slice-labels.result.now c.requires.moves are

pub labels_pass-requires-clause-moves : goal.labels_pass-requires-clause-moves
labels_pass-requires-clause-moves c =
    let are = labels_told c.args.places.now.members c.as_slice.result.now c.args.proof.now.members c.in_ok-labels.field-0 c.in-Some.labels c.as_slice-labels.result.now c.as_slice.ensures c.in-Some.is c.as_slice-labels.ensures.value c.in_ok-labels.ensures.found in
    label_moves c.args.net.now c.args.request.now c.args.places.now c.args.proof.now.members c.as_slice-labels.result.now c.requires.moves are

pub returns-then-not-branch-clause-exact : goal.returns-then-not-branch-clause-exact
returns-then-not-branch-clause-exact c =
    let are = labels_told c.args.places.now.members c.as_slice.result.now c.args.proof.now.members c.in_ok-labels.field-0 c.in-Some.labels c.as_slice-labels.result.now c.as_slice.ensures c.in-Some.is c.as_slice-labels.ensures.value c.in_ok-labels.ensures.found in (
      (λ never. absurd (let t : false ≡ true = never in cc)),
      (λ proof. absurd (
          let passes = c.in_ok-starts_pass.ensures.1 (starts_by_closing c.args.net.now c.args.settings.now c.args.request.now c.args.book.now c.args.places.now.members c.as_slice-labels.result.now c.requires.places.distinct are.all c.args.proof.now.members are.alike proof.closed) in
          let fails = c.if-not-branch.true in
          cc)),
    )

pub returns-then-not-branch-clause-listed : goal.returns-then-not-branch-clause-listed
returns-then-not-branch-clause-listed c = places_told c.args.places.now.members c.as_slice.result.now c.args.proof.now.members c.in_ok-labels.field-0 c.in-Some.labels c.as_slice.ensures c.in-Some.is c.in_ok-labels.ensures.places

pub returns-clause-listed : goal.returns-clause-listed
returns-clause-listed c = places_told c.args.places.now.members c.as_slice.result.now c.args.proof.now.members c.in_ok-labels.field-0 c.in-Some.labels c.as_slice.ensures c.in-Some.is c.in_ok-labels.ensures.places

pub returns-clause-exact : goal.returns-clause-exact
returns-clause-exact c =
    let are = labels_told c.args.places.now.members c.as_slice.result.now c.args.proof.now.members c.in_ok-labels.field-0 c.in-Some.labels c.as_slice-labels.result.now c.as_slice.ensures c.in-Some.is c.as_slice-labels.ensures.value c.in_ok-labels.ensures.found in (
      (λ yes. proof_by_passing c.args.net.now c.args.settings.now c.args.request.now c.args.book.now c.args.places.now.members c.as_slice-labels.result.now c.requires.places.distinct are.all c.args.proof.now.members are.alike c.requires.places c.args.proof.now refl
          (places_told c.args.places.now.members c.as_slice.result.now c.args.proof.now.members c.in_ok-labels.field-0 c.in-Some.labels c.as_slice.ensures c.in-Some.is c.in_ok-labels.ensures.places)
          (c.in_ok-starts_pass.ensures.0 c.if-not-branch.false) (c.in_ok-passes.ensures.0 yes)),
      (λ proof. c.in_ok-passes.ensures.1 (labels_by_closing c.args.net.now c.args.settings.now c.args.request.now c.args.book.now c.args.places.now.members c.as_slice-labels.result.now c.requires.places.distinct are.all c.args.proof.now.members are.alike proof.closed)),
    )

pub returns-clause-sound : goal.returns-clause-sound
returns-clause-sound c = λ yes.
    let proof = (returns-clause-exact c).0 yes in
    c.closed_members_exclude_paths.ensures.all c.args.net.now c.args.settings.now c.args.request.now (claims_held c.args.book.now) c.args.proof.now.members c.requires.flawless c.requires.request.train.length_m.0
    (All-map (λ (claim : Claim). HasTicks claim.span) (λ (one : HeldClaim). one.0) (held c.args.book.now) c.zones.ensures.apart.ticks) proof.closed
