use Rattle.std.proofs.Common.{◌≡◌, List, [], ◌∷◌, arith, get_or, length}
use Rattle.demo_command.proofs.sessions.counts_of.Goals as goal

single : {X : Type 0} (xs : List X) (x : X) → 1 ≡ length xs → x ≡ get_or xs 0 x → xs ≡ x ∷ []
single [] x long is = absurd (omega arith)
single (first ∷ []) x long is = cc
single (first ∷ next ∷ xs) x long is = absurd (omega arith)

pub returns : goal.returns
returns c = record {
  session = c.session-item.result;
  one = single c.args.sessions.now c.session-item.result (omega arith) c.session-item.is;
  why = c.in_ok-counts.ensures.why;
  count = c.in_ok-counts.ensures.counted;
}
