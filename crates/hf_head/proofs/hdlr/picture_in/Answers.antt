use Rattle.hf_head.proofs.HdlrLemmas.{picture_read, picture_refused}
use Rattle.hf_head.proofs.hdlr.picture_in.Goals as goal

pub returns-then-is : goal.returns-then-is
returns-then-is c = picture_read c.args.at c.args.body.now c.in_ok-handler.handler c.in_ok-handler.ensures (c.is.ensures.0 c.if-is.true)

pub returns : goal.returns
returns c = picture_refused c.args.at c.args.body.now c.in_ok-handler.handler c.in_ok-handler.ensures (λ same. let t = c.is.ensures.1 same in absurd (cc (t, c.if-is.false)))
