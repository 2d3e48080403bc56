-- What the workers of a batch are told.
use Rattle.std.specs.Prelude.{◌≡◌, ℕ, ◌<◌, IsPermutation, List, [], ◌∷◌, Option, None, Some, filter}
use Rattle.std.specs.Prelude.{flat_map, get_or, length, map, nat_eq, Bool, false}
use Rattle.std.specs.List.{range_with_len}
use Rattle.served_clients.specs.admission.declared.rules.Rule.{Ghosts as Rules}
use Rattle.batch_command.specs.declared.batch_server.members.Member.{Member}
use Rattle.batch_command.specs.declared.batch_server.members.Worked.{Worked}
use Rattle.served_clients.specs.gate.Views.{StartsWith}
use Rattle.served_clients.specs.lines.Names.{Names}
use Rattle.served_clients.specs.admission.Ruled.{stand}
use Rattle.served_clients.specs.ClientRuns.{AreMatched, IsRun, told_own}
use Rattle.served_clients.specs.Talks.{Talk}
use Rattle.served_clients.specs.sessions.Told.{lines_told}
use Rattle.batch_command.specs.InOrder.{reply_at}
use Rattle.served_clients.specs.book.Ledgers.{Ledger}
use Rattle.rail_types.specs.declared.entries.Entry.{Entry}
use Rattle.served_clients.specs.lines.Replies.{reply_text}
use Rattle.served_clients.specs.lines.declared.reply_texts.replies.Reply.{Reply}

-- the line of a list at a place
abbrev pub line_at : List (List ℕ) → ℕ → List ℕ
line_at lines at = get_or lines at []

-- ---- which worker answered which lines

-- whether the owner of a line is the worker at this place
abbrev pub is_of : ℕ → Option ℕ → Bool
is_of worker None = false
is_of worker (Some owner) = nat_eq owner worker

-- the places of the lines that are that worker's own, in order
abbrev pub own_places : List (Option ℕ) → ℕ → List ℕ
own_places owners worker =
    filter (λ at. is_of worker (get_or owners at None)) (range_with_len 0 (length owners))

-- each worker was told the lines at its places, one after another
abbrev pub AreTold : List (List ℕ) → List (List ℕ) → List Talk → Type 0
AreTold lines [] [] = Unit {0}
AreTold lines [] (talk ∷ talks) = ⊥
AreTold lines (share ∷ shares) [] = ⊥
AreTold lines (share ∷ shares) (talk ∷ talks) =
    (lines_told talk.traffic.told ≡ map (line_at lines) share) × AreTold lines shares talks

-- each worker answered the lines that are its own before its others, in order
abbrev pub BeginWithOwn : List (Option ℕ) → List (List ℕ) → Type 0
BeginWithOwn owners shares = (worker : ℕ) → worker < length shares
    → StartsWith (get_or shares worker []) (own_places owners worker)

-- The workers shared the places of a list, in these parts: each place is in one of
-- them, once, and nothing else is.
pub record AreShared (lines : List (List ℕ)) (owners : List (Option ℕ)) (talks : List Talk)
    (shares : List (List ℕ)) : Type 0 where
  pub once : IsPermutation (flat_map (λ share. share) shares)
      (range_with_len 0 (length lines))
  pub lines_are : AreTold lines shares talks
  pub own_first : BeginWithOwn owners shares

-- ---- the replies

-- the replies that each worker gave are those at its places
abbrev pub AreGiven : List Reply → List (List ℕ) → List Talk → Type 0
AreGiven replies [] [] = Unit {0}
AreGiven replies [] (talk ∷ talks) = ⊥
AreGiven replies (share ∷ shares) [] = ⊥
AreGiven replies (share ∷ shares) (talk ∷ talks) =
    (map (λ one. one.reply) talk.traffic.told ≡ map (reply_at replies) share)
    × AreGiven replies shares talks

-- these are the texts of the replies, one for each line, in the order of the list
pub record AreReplies (lines : List (List ℕ)) (talks : List Talk) (shares : List (List ℕ))
    (texts : List (List ℕ)) : Type 0 where
  pub replies : List Reply
  pub number : length replies ≡ length lines
  pub given : AreGiven replies shares talks
  pub texts_are : texts ≡ map reply_text replies

-- the texts are those of the replies in the order of the list; without texts, memory was wanted
abbrev pub AreTexts : List (List ℕ) → List Talk → List (List ℕ) → Option (List (List ℕ))
    → Type 0
AreTexts lines talks shares None = Unit {0}
AreTexts lines talks shares (Some texts) = AreReplies lines talks shares texts

-- ---- the workers

-- This worker was told this, without proofs, and its rules were told its own entries: before its
-- first line those of the history found, and behind its last one those of the history left.
pub record HasWorked {Btw L : Type 0} (kind : Rules L) (found left : List Entry)
    (member : Member Btw L) (worked : Worked L) (talk : Talk) : Type 0 where
  pub name : worked.name ≡ member.name
  pub talk_name : talk.name ≡ member.name
  pub unproved : talk.proves ≡ false
  pub lines : worked.lines ≡ length talk.traffic.told
  pub begun : talk.rules ≡ told_own found member.name (stand kind member.rules.items)
  pub told : stand kind worked.rules.items
      ≡ told_own left member.name (stand kind member.rules.items)

-- The workers shared the lines of a list, of which some were their own before, and were told one
-- history. Without lines all is as it was.
pub record WereAnswered {D Btw L : Type 0} (kind : Rules L) (disk_faults : D → ℕ) (known : Names)
    (lines : List (List ℕ)) (owners : List (Option ℕ)) (found left : Ledger D)
    (members : List (Member Btw L)) (worked : List (Worked L)) (texts : Option (List (List ℕ)))
    : Type 0 where
  pub talks : List Talk
  pub shares : List (List ℕ)
  pub workers : AreMatched (HasWorked kind found.entries left.entries) members worked talks
  pub run : IsRun disk_faults known found left talks
  pub shared : AreShared lines owners talks shares
  pub texts_are : AreTexts lines talks shares texts
  pub untouched : lines ≡ [] → left ≡ found
