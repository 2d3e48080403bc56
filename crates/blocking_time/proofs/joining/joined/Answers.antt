use Rattle.std.proofs.Common.{◌∙◌, ap, subst, take, length, arith}
use Rattle.std.proofs.lemmas.List.{take_all}
use Rattle.blocking_time.specs.Joined.{CoverTheSame}
use Rattle.blocking_time.proofs.Hulls.{joined_are_one}
use Rattle.blocking_time.proofs.Unions.{covers_permuted}
use Rattle.blocking_time.proofs.joining.joined.Goals as goal

pub returns : goal.returns
returns c =
    let all = c.in_ok-made.ensures.same in
    joined_are_one.alone c.args.claims.now _ c.in_ok-made.ensures.joined
    (covers_permuted c.args.claims.now c.in_ok-sorted.sorted.items _ c.in_ok-sorted.ensures.moved
    (subst (CoverTheSame _) (ap (λ xs. take (length xs) xs) c.as_slice.ensures.value ∙ take_all (length c.in_ok-sorted.sorted.items) c.in_ok-sorted.sorted.items (omega arith)) all))
