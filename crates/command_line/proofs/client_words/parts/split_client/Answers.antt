use Rattle.std.proofs.Common.{lit<, ◌∷◌, ◌++◌}
use Rattle.std.proofs.lemmas.Str.Pattern.{split_after}
use Rattle.command_line.proofs.client_words.parts.split_client.Goals as goal

pub returns-in-None-clause-only : goal.returns-in-None-clause-only
returns-in-None-clause-only c name input output no_equals no_colon joined =
    rw c.in-None.is at (split_after 61 c.args.word.now name (input ++ 58 ∷ output) c.split_once.result c.split_once.ensures.cases (lit< tt) joined no_equals)

pub returns-in-None-split_once-clause-only : goal.returns-in-None-split_once-clause-only
returns-in-None-split_once-clause-only c name input output no_equals no_colon joined =
    let first = rw c.in-Some.is at (split_after 61 c.args.word.now name (input ++ 58 ∷ output) c.split_once.result c.split_once.ensures.cases (lit< tt) joined no_equals) in
    rw c.in-None-split_once.is at (split_after 58 c.in-Some.streams.now input output c.split_once-in-Some.result c.split_once-in-Some.ensures.cases (lit< tt) first.1 no_colon)

pub returns-in-Some-split_once-clause-only : goal.returns-in-Some-split_once-clause-only
returns-in-Some-split_once-clause-only c name input output no_equals no_colon joined =
    let first = rw c.in-Some.is at (split_after 61 c.args.word.now name (input ++ 58 ∷ output) c.split_once.result c.split_once.ensures.cases (lit< tt) joined no_equals) in
    let second = rw c.in-Some-split_once.is at (split_after 58 c.in-Some.streams.now input output c.split_once-in-Some.result c.split_once-in-Some.ensures.cases (lit< tt) first.1 no_colon) in
    (first.0, second.0, second.1)
