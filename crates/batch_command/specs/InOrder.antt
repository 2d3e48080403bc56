-- Replies to the lines of a list, in the order of the list.
use Rattle.std.specs.Prelude.{◌≡◌, ℕ, All, IsPermutation, List, ◌++◌, flat_map, get_or, length, map}
use Rattle.std.specs.List.{range_with_len}
use Rattle.served_clients.specs.lines.Replies.{reply_text}
use Rattle.served_clients.specs.lines.declared.reply_texts.replies.Reply.{Reply}
use Rattle.served_clients.specs.lines.declared.reply_texts.replies.Reply.TheVariants as reply

-- the places of answers
abbrev pub places : List (ℕ × Reply) → List ℕ
places answers = map (λ a. a.0) answers

-- all that was answered: first these, and then in parts
abbrev pub all_answers : List (ℕ × Reply) → List (List (ℕ × Reply)) → List (ℕ × Reply)
all_answers first parts = first ++ flat_map (λ part. part) parts

-- each of so many places has one answer, and no other place has any
abbrev pub AreWhole : ℕ → List (ℕ × Reply) → Type 0
AreWhole count answers = IsPermutation (places answers) (range_with_len 0 count)

-- the reply at a place
abbrev pub reply_at : List Reply → ℕ → Reply
reply_at replies at = get_or replies at reply.NoMemory

-- these are the texts of so many replies, of which each answer is the one at its place
pub record AreInOrder (count : ℕ) (answers : List (ℕ × Reply)) (texts : List (List ℕ))
    : Type 0 where
  pub replies : List Reply
  pub number : length replies ≡ count
  pub placed : All (λ a. reply_at replies a.0 ≡ a.1) answers
  pub texts_are : texts ≡ map reply_text replies
