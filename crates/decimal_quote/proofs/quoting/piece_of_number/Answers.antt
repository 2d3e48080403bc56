use Rattle.std.proofs.Common.{◌≡◌, ℕ, List, length, length-take, take, not, Bool, ◌&&◌, ◌-◌, arith, ap, sym, ◌∙◌}
use Rattle.decimal_quote.specs.Numbers.{is_number, is_short_whole}
use Rattle.decimal_quote.specs.Quoted.{begins_run, needs_marks}
use Rattle.decimal_quote.proofs.Fronts.{is_none, is_piece, none_some, some_same}
use Rattle.decimal_quote.proofs.quoting.piece_of_number.Goals as goal
use Rattle.decimal_quote.proofs.quoting.piece_of_number.Goals.{in-Some+else-not-begins_in_number, in_default}

pub overflow_sub-text : goal.overflow_sub-text
overflow_sub-text c =
    let piece = is_piece c.args.text.now c.in-Some.behind.now (sym c.in-Some.ensures) (sym c.if-not-begins_in_number.ensures) in
    omega (arith, piece.0)

pub returns-then-not-begins_in_number-clause-length : goal.returns-then-not-begins_in_number-clause-length
returns-then-not-begins_in_number-clause-length c =
    let piece = is_piece c.args.text.now c.in-Some.behind.now (sym c.in-Some.ensures) (sym c.if-not-begins_in_number.ensures) in
    ap length c.split_at.ensures.front
    ∙ length-take (length c.args.text.now - length c.in-Some.behind.now) c.args.text.now ∙ omega (arith, piece.0)

pub returns-then-not-begins_in_number-clause-marks : goal.returns-then-not-begins_in_number-clause-marks
returns-then-not-begins_in_number-clause-marks c =
    let piece = is_piece c.args.text.now c.in-Some.behind.now (sym c.in-Some.ensures) (sym c.if-not-begins_in_number.ensures) in
    let long = returns-then-not-begins_in_number-clause-length c in
    let front : List ℕ = take (length c.split_at.result.0.now) c.args.text.now in
    let same : front ≡ c.split_at.result.0.now =
    ap (λ (n : ℕ). take n c.args.text.now) {y = length c.args.text.now - length c.in-Some.behind.now} (omega (arith, long, piece.0))
    ∙ sym c.split_at.ensures.front in
    let numeric = ap (λ (n : ℕ). is_number (take n c.args.text.now)) long ∙ piece.1 in
    ap not (c.is_short_whole.ensures ∙ ap is_short_whole (sym same))
    ∙ ap (λ (z : Bool). z && not (is_short_whole front)) (sym numeric)

pub returns-clause-marks : goal.returns-clause-marks
returns-clause-marks c =
    sym (is_none c.args.text.now (λ r e. elim c.match-behind_number.branch [
      | in-Some+else-not-begins_in_number w ↦
          ap begins_run (some_same r w.in-Some.behind.now (sym e ∙ sym w.in-Some.ensures)) ∙ sym w.if-not-begins_in_number.ensures
      | in_default w ↦ absurd (none_some r (w.in_default.ensures ∙ e))
    ]))
    ∙ ap (λ (n : ℕ). needs_marks (take n c.args.text.now)) (sym c.bytes_of_number.ensures.bytes)
