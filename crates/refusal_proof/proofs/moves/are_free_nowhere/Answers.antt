use Rattle.std.proofs.Common.{◌≡◌, true, false, arith}
use Rattle.std.proofs.lemmas.Int.{ints}
use Rattle.refusal_proof.proofs.moves.are_free_nowhere.Goals as goal

pub returns : goal.returns
returns c =
    let first = c.in-Some.ensures.found in
    let low = first.from in
    let some = first.some in
    let same = first.to in
    (λ never. absurd (let t : false ≡ true = never in cc), λ none. absurd (none c.in-Some._rest.from (omega (arith, ints, low), omega (arith, ints, some, same)) first.first))
