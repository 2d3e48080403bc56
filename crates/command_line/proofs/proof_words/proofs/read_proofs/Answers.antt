use Rattle.std.proofs.Common.{◌≡◌, ◌∙◌, true, false, rules, sym, subst}
use Rattle.std.specs.List.{AllPairs}
use Rattle.command_line.specs.Proofs.{AreApart}
use Rattle.command_line.proofs.NamingProofs.{proofs_once}
use Rattle.command_line.proofs.proof_words.proofs.read_proofs.Goals as goal

pub returns-then-not-are_all_apart-clause-refused : goal.returns-then-not-are_all_apart-clause-refused
returns-then-not-are_all_apart-clause-refused c is kept are same =
    let once : kept ≡ c.in-Ok.proofs = proofs_once c.args.clients.now kept c.in-Ok.proofs are.each c.in-Ok.ensures.understood (same ∙ sym c.in-Ok.ensures.spelled) in
    let slice : c.as_slice.result.now ≡ c.in-Ok.proofs = search rules in
    let passed : c.are_all_apart.result ≡ true = c.are_all_apart.ensures.1 (subst (AllPairs AreApart) (once ∙ sym slice) are.apart) in
    let failed : c.are_all_apart.result ≡ false = search rules in
    cc
