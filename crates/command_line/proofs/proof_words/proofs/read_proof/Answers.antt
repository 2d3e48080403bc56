use Rattle.std.proofs.Common.{◌≡◌, ◌∙◌, true, false, rules, subst, sym}
use Rattle.command_line.proofs.Spellings.{lacks_cut, unique_cut}
use Rattle.rail_types.specs.Limits.{IsClientName}
use Rattle.command_line.specs.Clients.{IsStreamName}
use Rattle.command_line.proofs.NamingClients.{name_lacks}
use Rattle.command_line.proofs.proof_words.proofs.read_proof.Goals as goal

pub returns-in_default-clause-refused : goal.returns-in_default-clause-refused
returns-in_default-clause-refused c is proof formed spelled = lacks_cut 61 _ _ _ c.in_default.ensures.absent (sym spelled)

pub returns-then-not-is_client_name-clause-refused : goal.returns-then-not-is_client_name-clause-refused
returns-then-not-is_client_name-clause-refused c is proof formed spelled =
    let bytes : c.as_bytes.result.now ≡ c.in-Some.name.now = search rules in
    let cut = unique_cut 61 _ proof.client _ _ c.in-Some.ensures.found.first (name_lacks proof.client formed.client) (sym c.in-Some.ensures.found.parts ∙ sym spelled) in
    let passed : c.is_client_name.result ≡ true = c.is_client_name.ensures.1 (subst IsClientName (sym (bytes ∙ cut.0)) formed.client) in
    let failed : c.is_client_name.result ≡ false = search rules in
    cc

pub returns-then-not-is_file_name-clause-refused : goal.returns-then-not-is_file_name-clause-refused
returns-then-not-is_file_name-clause-refused c is proof formed spelled =
    let cut = unique_cut 61 _ proof.client _ _ c.in-Some.ensures.found.first (name_lacks proof.client formed.client) (sym c.in-Some.ensures.found.parts ∙ sym spelled) in
    let passed : c.is_file_name.result ≡ true = c.is_file_name.ensures.1 (subst IsStreamName (sym cut.1) formed.file) in
    let failed : c.is_file_name.result ≡ false = search rules in
    cc
