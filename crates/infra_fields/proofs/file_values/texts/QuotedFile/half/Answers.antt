use Rattle.std.proofs.Common.{◌≡◌, ap, ◌∙◌, subst, sym}
use Rattle.json_fields.specs.Texts.{data_of}
use Rattle.json_fields.proofs.Bytes.{data_of_text}
use Rattle.serde_json.specs.Read.{read}
use Rattle.infra_fields.specs.Kept.{GivesHalf}
use Rattle.infra_fields.proofs.file_values.texts.QuotedFile.half.Goals as goal

pub returns-clause-kept : goal.returns-clause-kept
returns-clause-kept c =
    let same : c.as_str.result.now ≡ c.args.self.now = c.as_str.ensures.value ∙ c.self.view_is in
    let reads : data_of c.args.self.now ≡ read c.as_str.result.now =
    sym (ap data_of same) ∙ data_of_text c.as_str.result.now c.as_str.utf8 in
    subst (GivesHalf c.args.half c.half_of_text.result) (sym reads) c.half_of_text.ensures
