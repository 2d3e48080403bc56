-- *inside*: answers put to their places in a table.
use Rattle.std.specs.Prelude.{ℕ, List, [], ◌∷◌, map, set}
use Rattle.served_clients.specs.lines.Replies.{reply_text}
use Rattle.served_clients.specs.lines.declared.reply_texts.replies.Reply.{Reply}

-- a table, once these were put to their places, one after another
abbrev pub filled : {T : Type 0} → List T → List (ℕ × T) → List T
filled table [] = table
filled table ((at, it) ∷ more) = filled (set table at it) more

-- the texts of answers, by their places
abbrev pub texts_by : List (ℕ × Reply) → List (ℕ × List ℕ)
texts_by answers = map (λ a. (a.0, reply_text a.1)) answers
