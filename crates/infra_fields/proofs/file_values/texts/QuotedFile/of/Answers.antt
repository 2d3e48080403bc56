use Rattle.std.proofs.Common.{ap, ◌∙◌, ℕ, List, Vec, Global, subst, sym, true≢false}
use Rattle.decimal_quote.specs.Quoted.{IsQuoted}
use Rattle.json_fields.specs.Texts.{data_of}
use Rattle.json_fields.proofs.Bytes.{data_of_other}
use Rattle.infra_fields.proofs.file_values.texts.QuotedFile.of.Goals as goal

pub returns-clause-text : goal.returns-clause-text
returns-clause-text c quoted h =
    c.in_ok-quoted.ensures.only quoted (subst (λ (given : List ℕ). IsQuoted given quoted) (sym c.as_slice.ensures.value) h)
    ∙ ap (λ (v : Vec ℕ Global). v.items) (sym c.in-Ok.ensures.ok)

pub returns-in_default-clause-none : goal.returns-in_default-clause-none
returns-in_default-clause-none c is quoted h =
    ap data_of (c.in_ok-quoted.ensures.only quoted (subst (λ (given : List ℕ). IsQuoted given quoted) (sym c.as_slice.ensures.value) h))
    ∙ data_of_other c.in_ok-quoted.quoted.items (λ utf8. true≢false (sym (c.in_default.ensures.succeeds utf8)))
