use Rattle.std.proofs.Common.{◌≡◌, ◌∷◌, true, ap, ◌∙◌, arith}
use Rattle.json.specs.Json.{value}
use Rattle.json.specs.Reads.{token_of}
use Rattle.serde_json.specs.Read.{of_json, converted}
use Rattle.serde_json.specs.View.{view, members_view}
use Rattle.infra_fields.specs.Kept.{KeepsHalf}
use Rattle.infra_fields.specs.Tokens.{opens_object}
use Rattle.infra_fields.proofs.Turns.{no_token, object_refused}
use Rattle.infra_fields.proofs.KeptValues.{file_kept, half_same, whole_kept}
use Rattle.infra_fields.proofs.file_values.file_lists.keep_file.Goals as goal

pub returns-in_err-token-clause-err : goal.returns-in_err-token-clause-err
returns-in_err-token-clause-err c refused = no_token c.args.depth c.args.reader.now (grind arith)

pub returns-in_err-lists-clause-err : goal.returns-in_err-lists-clause-err
returns-in_err-lists-clause-err c refused =
    let first : c.args.reader.now ≡ token_of c.in_ok-token.token ∷ c.next.new.self = grind arith in
    let opens : opens_object (token_of c.in_ok-token.token) ≡ true = grind arith in
    object_refused c.args.depth c.args.reader.now (token_of c.in_ok-token.token) c.next.new.self first opens (omega (arith, c.requires)) (c.keep_lists.ensures.err (grind arith))

pub returns-then-opens_object-clause-ok : goal.returns-then-opens_object-clause-ok
returns-then-opens_object-clause-ok c =
    let first : c.args.reader.now ≡ token_of c.in_ok-token.token ∷ c.next.new.self = grind arith in
    let opens : opens_object (token_of c.in_ok-token.token) ≡ true = grind arith in
    file_kept c.args.half c.args.depth c.args.reader.now (token_of c.in_ok-token.token) c.next.new.self c.keep_lists.new.reader first (omega (arith, c.requires))
    (members_view c.in_ok-lists.lists.entries) (view c.from.result) opens c.in_ok-lists.ensures.ok c.from.ensures

pub returns-in_err-other-clause-err : goal.returns-in_err-other-clause-err
returns-in_err-other-clause-err c refused =
    let first : c.args.reader.now ≡ token_of c.in_ok-token.token ∷ c.next.new.self = grind arith in
    ap (λ ts. converted of_json (value c.args.depth ts)) first ∙ c.read_from.ensures.err (grind arith)

pub returns-clause-ok : goal.returns-clause-ok
returns-clause-ok c =
    let first : c.args.reader.now ≡ token_of c.in_ok-token.token ∷ c.next.new.self = grind arith in
    let d = view c.in_ok-other.other in
    whole_kept (KeepsHalf c.args.half) c.args.depth c.args.reader.now (token_of c.in_ok-token.token) c.next.new.self c.read_from.new.reader d first (half_same c.args.half d) c.in_ok-other.ensures.ok
