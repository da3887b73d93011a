use Rattle.std.proofs.Common.{length}
use Rattle.hf_info.specs.Infe.{info_of, content_text}
use Rattle.hf_info.proofs.PutLemmas.{length-infe_body, capped_sum}
use Rattle.hf_info.proofs.put.body_len.Goals as goal

pub returns : goal.returns
returns c =
    let i = info_of c.args.info.now in
    let summed = capped_sum c.fields_len-fields.result c.text_len-name.result (length (content_text i)) c.uri_len-uri.result c.content_len-content.result c.saturating_add.result c.saturating_add-2.result c.saturating_add-3.result c.content_len-content.ensures c.saturating_add.ensures c.saturating_add-2.ensures c.saturating_add-3.ensures in
    rw (length-infe_body c.args.wide i) (rw (c.fields_len-fields.ensures, c.text_len-name.ensures, c.uri_len-uri.ensures) at summed)
