use Rattle.std.proofs.Common.{◌≡◌, map, take}
use Rattle.std.specs.List.{All}
use Rattle.command_line.specs.Clients.{client_text, IsClientWord}
use Rattle.command_line.proofs.client_words.clients.clients_of.Given as goal

abbrev pub invariant-loop-word : goal.invariant-loop-word
invariant-loop-word l = record {
  understood : All IsClientWord l.clients;
  spelled : map client_text l.clients ≡ map (λ word. word.now) (take l.word-index l.words);
}
