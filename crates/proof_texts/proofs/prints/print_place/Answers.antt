use Rattle.std.proofs.Common.{◌≡◌, ℕ, List, ◌++◌, map, decimal, subst}
use Rattle.client_lines.specs.Fields.{spaced}
use Rattle.client_lines.proofs.Printing.{spaced-append}
use Rattle.proof_texts.specs.Texts.{state_fields}
use Rattle.proof_texts.proofs.Printing.{prints_both}
use Rattle.proof_texts.proofs.prints.print_place.Goals as goal

pub returns : goal.returns
returns c =
    let member = c.args.member.now in
    let first : c.print_blocks.new.to.held ≡ c.args.to.now.held ++ spaced (map decimal member.place.tail) =
    subst (λ (tail : List ℕ). c.print_blocks.new.to.held ≡ c.args.to.now.held ++ spaced (map decimal tail)) c.as_slice.ensures c.in_ok-print_blocks.ensures.ok in
    rw (spaced-append (map decimal member.place.tail) (state_fields member))
    (prints_both (spaced (map decimal member.place.tail)) (spaced (state_fields member)) c.args.to.now c.print_blocks.new.to c.print_state.new.to c.print_state.result first c.print_blocks.ensures.kept c.print_state.ensures)
