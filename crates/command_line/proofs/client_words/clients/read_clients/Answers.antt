use Rattle.std.proofs.Common.{◌≡◌, ◌∙◌, true, false, rules, sym, subst}
use Rattle.std.specs.List.{AllPairs}
use Rattle.command_line.specs.Clients.{AreApart}
use Rattle.command_line.proofs.NamingClients.{clients_once}
use Rattle.command_line.proofs.client_words.clients.read_clients.Goals as goal

pub returns-then-not-are_all_apart-clause-refused : goal.returns-then-not-are_all_apart-clause-refused
returns-then-not-are_all_apart-clause-refused c is clients are same =
    let once : clients ≡ c.in-Ok.clients = clients_once clients c.in-Ok.clients are.each c.in-Ok.ensures.understood (same ∙ sym c.in-Ok.ensures.spelled) in
    let slice : c.as_slice.result.now ≡ c.in-Ok.clients = search rules in
    let passed : c.are_all_apart.result ≡ true = c.are_all_apart.ensures.1 (subst (AllPairs AreApart) (once ∙ sym slice) are.apart) in
    let failed : c.are_all_apart.result ≡ false = search rules in
    cc
