use Rattle.std.proofs.Common.{◌≡◌, ◌∙◌, ℕ, List, [], ◌∷◌, ◌++◌, length, append_assoc, ap}
use Rattle.std.specs.Int.{w32, to_be_bytes}
use Rattle.path_recover.specs.spelling.Body.{body_of}
use Rattle.path_recover.specs.journal.Histories.{counted}
use Rattle.carry_command.proofs.spelling.push_record.Goals as goal

three : (to first second third body : List ℕ) (size : ℕ) → first ≡ to ++ 1 ∷ [] → second ≡ first ++ to_be_bytes w32 size → third ≡ second ++ body → size ≡ length body → third ≡ to ++ 1 ∷ counted body
three to first second third body size one two more is =
    more ∙ (ap (λ (l : List ℕ). l ++ body) (two ∙ ap (λ (l : List ℕ). l ++ to_be_bytes w32 size) one)
    ∙ (append_assoc (to ++ 1 ∷ []) (to_be_bytes w32 size) body ∙ (append_assoc to (1 ∷ []) (to_be_bytes w32 size ++ body) ∙ ap (λ (n : ℕ). to ++ 1 ∷ (to_be_bytes w32 n ++ body)) is)))

pub returns-clause-spelled : goal.returns-clause-spelled
returns-clause-spelled c =
    three c.args.to.now.held c.put_u8.new.to.held c.put_u32.new.to.held c.write.new.to.held (body_of c.args.entry.now) c.body_len.result c.in_ok-put_u8.ensures.ok c.in_ok-put_u32.ensures.ok c.in_ok-write.ensures.ok c.body_len.ensures
