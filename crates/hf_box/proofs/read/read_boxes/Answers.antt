use Rattle.std.proofs.Common.{arith}
use Rattle.hf_box.proofs.BoxLaws.{is_found, all_within}
use Rattle.hf_box.proofs.read.read_boxes.Goals as goal

pub returns-clause-found : goal.returns-clause-found
returns-clause-found c = is_found c.args.top c.args.origin c.args.bytes.now c.frames_in.result (λ i. omega (arith, c.type_inv.bytes i)) c.frames_in.ensures.exact

pub returns-clause-within : goal.returns-clause-within
returns-clause-within c = all_within c.args.top c.args.origin c.args.bytes.now c.frames_in.result (λ i. omega (arith, c.type_inv.bytes i)) c.frames_in.ensures.exact
