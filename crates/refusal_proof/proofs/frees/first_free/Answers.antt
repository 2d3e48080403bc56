use Rattle.std.proofs.Common.{◌<◌, ◌+◌, ◌*◌, ◌-◌, pos, ◌+ℤ◌, length, refl, sym, subst, arith}
use Rattle.std.specs.Int.{int_gap}
use Rattle.std.proofs.lemmas.Int.{ints}
use Rattle.rail_types.specs.declared.paths.Claim.{Claim}
use Rattle.occupation_book.specs.Held.{held}
use Rattle.refusal_proof.proofs.Rounds.{IsRound, less_anew, less_more, none_left, round_anew, round_more}
use Rattle.refusal_proof.proofs.frees.first_free.Goals as goal
use Rattle.refusal_proof.proofs.frees.first_free.Goals.{then-next-rest, else-next-rest}

-- what an index past the end is read as
abbrev no_claim : Claim
no_claim = record { zone = 0; span = record { from = pos 0; to = pos 0 } }

pub returns-in_err-next-clause-none : goal.returns-in_err-next-clause-none
returns-in_err-next-clause-none c = λ none.
    none_left (held c.args.book.now) c.args.claims.now c.args.window.now c.loop-known.rest c.loop-known.known c.loop-known.at c.loop-known-test.true c.loop-known.invariant no_claim
    (c.in_err-next.ensures.none refl)

pub loop-known-smaller : goal.loop-known-smaller
loop-known-smaller c =
    let count = length c.args.claims.now in
    let next = c.in_ok-next.next in
    let end = c.args.window.now.to +ℤ pos 1 in
    let some = c.loop-known.invariant.some in
    let to = c.loop-known.invariant.to in
    elim c.if-next-rest.branch [
      | then-next-rest w ↦
          subst (λ more. int_gap next.from end * (count + 1) + (count - more) < int_gap c.loop-known.rest.from end * (count + 1) + (count - c.loop-known.known)) (sym w.known-is)
          (less_anew (held c.args.book.now) c.args.claims.now c.args.window.now c.loop-known.rest c.loop-known.known c.loop-known.at c.loop-known-test.true c.loop-known.invariant no_claim
          next c.next_place-at.result c.in_ok-next.ensures.found c.next_place-at.ensures.on c.next_place-at.ensures.round end (omega (arith, ints, w.if-next-rest.true)) (omega (arith, ints, some, to)))
      | else-next-rest w ↦
          subst (λ more. int_gap next.from end * (count + 1) + (count - more) < int_gap c.loop-known.rest.from end * (count + 1) + (count - c.loop-known.known)) (sym w.known-is)
          (less_more (held c.args.book.now) c.args.claims.now c.args.window.now c.loop-known.rest c.loop-known.known c.loop-known.at c.loop-known-test.true c.loop-known.invariant no_claim
          next c.next_place-at.result c.in_ok-next.ensures.found c.next_place-at.ensures.on c.next_place-at.ensures.round end (omega (arith, ints, w.if-next-rest.false)))
    ]

pub loop-known-preserved : goal.loop-known-preserved
loop-known-preserved c =
    let kept = held c.args.book.now in
    elim c.if-next-rest.branch [
      | then-next-rest w ↦
          subst (λ more. IsRound kept c.args.claims.now c.args.window.now c.in_ok-next.next more c.next_place-at.result) (sym w.known-is)
          (round_anew kept c.args.claims.now c.args.window.now c.loop-known.rest c.loop-known.known c.loop-known.at c.loop-known-test.true c.loop-known.invariant no_claim
          c.in_ok-next.next c.next_place-at.result c.in_ok-next.ensures.found c.next_place-at.ensures.on c.next_place-at.ensures.round)
      | else-next-rest w ↦
          subst (λ more. IsRound kept c.args.claims.now c.args.window.now c.in_ok-next.next more c.next_place-at.result) (sym w.known-is)
          (round_more kept c.args.claims.now c.args.window.now c.loop-known.rest c.loop-known.known c.loop-known.at c.loop-known-test.true c.loop-known.invariant no_claim
          c.in_ok-next.next c.next_place-at.result c.in_ok-next.ensures.found c.next_place-at.ensures.on c.next_place-at.ensures.round (omega (arith, ints, w.if-next-rest.false)))
    ]
