-- Clients of the words, and the files of their proofs, may be served.
use Rattle.std.proofs.Common.{List}
use Rattle.std.proofs.lemmas.List.Elements.{All-weaker}
use Rattle.command_line.specs.Clients.{AreClients as AreClientWords}
use Rattle.command_line.specs.declared.client_words.clients.ClientWord.{ClientWord}
use Rattle.command_line.specs.Proofs.{AreProofs, IsNoStreamOf, IsProofOf}
use Rattle.command_line.specs.declared.proof_words.proofs.ProofWord.{ProofWord}
use Rattle.request_server.specs.PlannedClients.{AreClients}
use Rattle.osrd_stdcm.proofs.Calls.{calls_differ}

pub clients_fit : (clients : List ClientWord) (proofs : List ProofWord) → AreClientWords clients → AreProofs clients proofs → AreClients clients proofs
clients_fit clients proofs words files = record {
  some = words.some;
  few = words.few;
  named = λ k d within. (words.each k d within).client;
  names = λ i j d before within. (words.apart i j d before within).names;
  calls = calls_differ clients proofs words.apart (All-weaker (IsProofOf clients) (λ (proof : ProofWord). IsNoStreamOf clients proof.file) (λ (proof : ProofWord) one. one.own) proofs files.each) files.apart;
}
