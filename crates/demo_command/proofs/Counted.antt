-- Replies counted in their text.
use Rattle.std.proofs.Common.{◌≡◌, ◌∙◌, ℕ, List, [], ◌∷◌, Bool, true, false, refl, ap, arith}
use Rattle.std.proofs.Common.{append_assoc, length}
use Rattle.std.specs.Prelude.{filter, if◌then◌else◌, nat_eq}
use Rattle.std.specs.List.{slice_split}
use Rattle.std.proofs.lemmas.List.Splits.{slice_split_at}
use Rattle.client_lines.specs.declared.reply_texts.replies.Reply.{Reply}
use Rattle.client_lines.specs.Fields.{line_of}
use Rattle.client_lines.specs.Replies.{reply_fields}
use Rattle.served_clients.specs.sessions.Told.{text_told, Told}
use Rattle.demo_command.specs.Counts.{begins, count_lines}
use Rattle.demo_command.specs.Sessions.{count_told}
use Rattle.demo_command.proofs.Plain.{reply_plain}

-- a test that gives the same of the first element as another test of its own one
by_tests : {X Y : Type 0} (a b : Bool) (x : X) (y : Y) (xs : List X) (ys : List Y) → a ≡ b → length xs ≡ length ys → length (if a then x ∷ xs else xs) ≡ length (if b then y ∷ ys else ys)
by_tests true true x y xs ys same as_long = omega arith
by_tests true false x y xs ys same as_long = cc
by_tests false true x y xs ys same as_long = cc
by_tests false false x y xs ys same as_long = as_long

one_more : {X Y : Type 0} (p : X → Bool) (q : Y → Bool) (x : X) (y : Y) (xs : List X) (ys : List Y) → p x ≡ q y → length (filter p xs) ≡ length (filter q ys) → length (filter p (x ∷ xs)) ≡ length (filter q (y ∷ ys))
one_more p q x y xs ys same as_long = by_tests (p x) (q y) x y (filter p xs) (filter q ys) same as_long

passed_over : {X : Type 0} (test : Bool) (x : X) → test ≡ false → length (if test then x ∷ [] else []) ≡ 0
passed_over true x is = cc
passed_over false x is = refl

-- the lines of the replies' text that begin so are as many as the replies of that kind, where each such line has that kind
pub counts_agree : (head : List ℕ) (kind : Reply → Bool) → ((told : Reply) → begins head (line_of (reply_fields told)) ≡ kind told) → begins head [] ≡ false → (told : List Told)
    → count_lines head (text_told told) ≡ count_told kind told
counts_agree head kind agree empty [] = passed_over (begins head []) [] empty
counts_agree head kind agree empty (one ∷ told) =
    let line = line_of (reply_fields one.reply) in
    ap (λ text. count_lines head text) (append_assoc line (10 ∷ []) (text_told told))
    ∙ ap (λ parts. length (filter (begins head) parts)) (slice_split_at (λ byte. nat_eq byte 10) line 10 (text_told told) (reply_plain one.reply) refl)
    ∙ one_more (begins head) (λ (other : Told). kind other.reply) line one (slice_split (λ byte. nat_eq byte 10) (text_told told)) told (agree one.reply) (counts_agree head kind agree empty told)
