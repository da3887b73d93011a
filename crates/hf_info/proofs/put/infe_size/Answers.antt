use Rattle.std.proofs.Common.{length}
use Rattle.hf_info.specs.Infe.{info_of, infe_body}
use Rattle.hf_info.proofs.PutLemmas.{length-infe_box, capped_small, capped_large}
use Rattle.hf_info.proofs.put.infe_size.Goals as goal

pub returns-then-body-lt4294967288 : goal.returns-then-body-lt4294967288
returns-then-body-lt4294967288 c =
    let i = info_of c.args.info.now in
    rw (length-infe_box c.args.wide i) (capped_small (length (infe_body c.args.wide i)) c.body_len-body.result c.body_len-body.ensures c.if-body-lt4294967288.true)

pub returns : goal.returns
returns c =
    let i = info_of c.args.info.now in
    rw (length-infe_box c.args.wide i) (capped_large (length (infe_body c.args.wide i)) c.body_len-body.result c.saturating_add.result c.body_len-body.ensures c.if-body-lt4294967288.false c.saturating_add.ensures)
