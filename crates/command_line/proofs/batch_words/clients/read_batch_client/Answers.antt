use Rattle.std.proofs.Common.{◌≡◌, ◌∙◌, ◌<◌, ◌≤◌, length, arith, rules, subst, sym}
use Rattle.command_line.specs.declared.client_words.clients.ClientWord.{ClientWord}
use Rattle.command_line.proofs.NamingClients.{names_once}
use Rattle.command_line.proofs.batch_words.clients.read_batch_client.Goals as goal

-- a word names one client
pub returns-then-as_bytes-gt-MAX_BATCH_NAME_BYTES-clause-refused :
    goal.returns-then-as_bytes-gt-MAX_BATCH_NAME_BYTES-clause-refused
returns-then-as_bytes-gt-MAX_BATCH_NAME_BYTES-clause-refused c is client batch spelled =
    let same : client ≡ c.in-Ok.client = names_once client c.in-Ok.client batch.formed c.in-Ok.ensures.understood (spelled ∙ sym c.in-Ok.ensures.spelled) in
    let short : length c.in-Ok.client.client ≤ 29 = subst (λ (word : ClientWord). length word.client ≤ 29) same batch.short in
    let long : 29 < length c.in-Ok.client.client = search rules in
    omega (arith, short, long)
