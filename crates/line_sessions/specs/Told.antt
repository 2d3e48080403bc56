-- Lines that a desk answered.
use Rattle.std.specs.Prelude.{◌≡◌, ℕ, ◌+◌, List, [], ◌∷◌, flat_map, map}
use Rattle.client_lines.specs.Replies.{reply_text}
use Rattle.client_lines.specs.declared.reply_texts.replies.Reply.{Reply}

-- a line, the reply that it was told, and the text of the reply's proof,
-- which is empty where it has none
pub record Told : Type 0 where
  pub line : List ℕ
  pub reply : Reply
  pub proof : List ℕ

-- the lines alone
abbrev pub lines_told : List Told → List (List ℕ)
lines_told told = map (λ one. one.line) told

-- the texts of the replies, one behind the other
abbrev pub text_told : List Told → List ℕ
text_told told = flat_map (λ one. reply_text one.reply) told

-- the texts of their proofs, one behind the other
abbrev pub proofs_told : List Told → List ℕ
proofs_told told = flat_map (λ one. one.proof) told

-- the desk answered these lines one after another, the first of which has this number, and
-- came from one state to the other
abbrev pub AreAnswered : {Desk : Type 0}
    → (Desk → ℕ → List ℕ → Reply → List ℕ → Desk → Type 0)
    → ℕ → List Told → Desk → Desk → Type 0
AreAnswered answers number [] old new = new ≡ old
AreAnswered {Desk} answers number (one ∷ told) old new =
    (mid : Desk) × answers old number one.line one.reply one.proof mid
    × AreAnswered answers (number + 1) told mid new
