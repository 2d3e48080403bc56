use Rattle.std.proofs.Common.{◌≡◌, ◌∙◌, ap, sym, subst, ◌++◌, ◌^◌, pos, ◌<ℤ◌, true, false, length, All}
use Rattle.std.proofs.lemmas.List.Elements.{All-append}
use Rattle.occupation_book.specs.Held.{held}
use Rattle.refusal_proof.specs.Inside.{IsClaimIn, claims_of}
use Rattle.refusal_proof.proofs.Moving.{claims_in, first_of_move, move_of_both, second_of_move}
use Rattle.refusal_proof.proofs.moves.move_passes.Goals as goal

pub passes-requires-clause-claims : goal.passes-requires-clause-claims
passes-requires-clause-claims c = subst (All (IsClaimIn (length c.args.book.now))) (sym c.in_ok-taking.ensures.claims) (subst (λ n. All (IsClaimIn n) (claims_of c.args.net.now c.args.settings.now c.args.request.now c.args.onward.now.place.now c.args.one.now)) (sym c.requires.zones) (claims_in c.pieces_are_claims.ensures.pieces c.pieces_are_claims.ensures.standing c.pieces_are_claims.ensures.places c.args.net.now c.args.settings.now c.args.request.now c.args.onward.now.place.now c.args.one.now.step c.args.one.now.next c.requires.flawless c.requires.place c.requires.step (subst (λ t. t <ℤ pos (2 ^ 43)) c.in_ok-taking.ensures.ticks c.in_ok-taking.ensures.bound) c.requires.settings.release))

pub passes-requires-2-clause-claims : goal.passes-requires-2-clause-claims
passes-requires-2-clause-claims c = subst (All (IsClaimIn (length c.args.book.now))) (sym (c.in_ok-extend_from_slice.ensures.items ∙ ap (λ xs. xs ++ c.as_slice.result.now) c.in_ok-taking.ensures.claims ∙ ap (λ ys. (claims_of c.args.net.now c.args.settings.now c.args.request.now c.args.onward.now.place.now c.args.one.now) ++ ys) c.as_slice.ensures))
    (All-append (IsClaimIn (length c.args.book.now)) (claims_of c.args.net.now c.args.settings.now c.args.request.now c.args.onward.now.place.now c.args.one.now) c.args.onward.now.going.now.claims (subst (λ n. All (IsClaimIn n) (claims_of c.args.net.now c.args.settings.now c.args.request.now c.args.onward.now.place.now c.args.one.now)) (sym c.requires.zones) (claims_in c.pieces_are_claims.ensures.pieces c.pieces_are_claims.ensures.standing c.pieces_are_claims.ensures.places c.args.net.now c.args.settings.now c.args.request.now c.args.onward.now.place.now c.args.one.now.step c.args.one.now.next c.requires.flawless c.requires.place c.requires.step (subst (λ t. t <ℤ pos (2 ^ 43)) c.in_ok-taking.ensures.ticks c.in_ok-taking.ensures.bound) c.requires.settings.release)) c.requires.going)

pub returns-then-not-passes : goal.returns-then-not-passes
returns-then-not-passes c = (
  λ never. absurd (let t : false ≡ true = never in cc),
  λ all. absurd (
      let passes = c.passes.ensures.1 (second_of_move c.args.net.now c.args.settings.now c.args.request.now (held c.args.book.now) c.args.labels.now c.args.onward.now.going.now c.args.onward.now.place.now c.args.one.now c.in_ok-taking.taking.claims.items c.in_ok-taking.ensures.claims c.in_ok-taking.taking.ticks c.in_ok-taking.ensures.ticks c.in_ok-taking.taking.next c.in_ok-taking.ensures.next all) in
      let fails = c.if-not-passes.true in
      cc),
)

pub returns : goal.returns
returns c = (
  λ yes. move_of_both c.args.net.now c.args.settings.now c.args.request.now (held c.args.book.now) c.args.labels.now c.args.onward.now.going.now c.args.onward.now.place.now c.args.one.now c.in_ok-taking.taking.claims.items c.in_ok-taking.ensures.claims c.in_ok-taking.taking.ticks c.in_ok-taking.ensures.ticks c.in_ok-taking.taking.next c.in_ok-taking.ensures.next c.extend_from_slice.new.self.items (c.in_ok-extend_from_slice.ensures.items ∙ ap (λ xs. xs ++ c.as_slice.result.now) c.in_ok-taking.ensures.claims ∙ ap (λ ys. (claims_of c.args.net.now c.args.settings.now c.args.request.now c.args.onward.now.place.now c.args.one.now) ++ ys) c.as_slice.ensures)
      (c.passes.ensures.0 c.if-not-passes.false) (c.passes-2.ensures.0 yes),
  λ all. c.passes-2.ensures.1 (first_of_move c.args.net.now c.args.settings.now c.args.request.now (held c.args.book.now) c.args.labels.now c.args.onward.now.going.now c.args.onward.now.place.now c.args.one.now c.in_ok-taking.taking.claims.items c.in_ok-taking.ensures.claims c.in_ok-taking.taking.ticks c.in_ok-taking.ensures.ticks c.in_ok-taking.taking.next c.in_ok-taking.ensures.next c.extend_from_slice.new.self.items (c.in_ok-extend_from_slice.ensures.items ∙ ap (λ xs. xs ++ c.as_slice.result.now) c.in_ok-taking.ensures.claims ∙ ap (λ ys. (claims_of c.args.net.now c.args.settings.now c.args.request.now c.args.onward.now.place.now c.args.one.now) ++ ys) c.as_slice.ensures) all),
)
