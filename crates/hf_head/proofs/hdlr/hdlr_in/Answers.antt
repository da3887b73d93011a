use Rattle.std.proofs.Common.{arith}
use Rattle.hf_head.proofs.HdlrLemmas.{is_found, is_only}
use Rattle.hf_head.proofs.hdlr.hdlr_in.Goals as goal

pub returns-clause-found : goal.returns-clause-found
returns-clause-found c = is_found c.args.at c.args.body.now c.picture_in.result (λ i. omega (arith, c.type_inv.body i)) c.picture_in.ensures

pub returns-clause-only : goal.returns-clause-only
returns-clause-only c = λ h. is_only c.args.at c.args.body.now c.picture_in.result c.picture_in.ensures h
