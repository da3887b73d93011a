use Rattle.std.proofs.Common.{arith}
use Rattle.hf_head.proofs.PitmLemmas.{is_found, is_only}
use Rattle.hf_head.proofs.pitm.pitm_in.Goals as goal

pub returns-clause-found : goal.returns-clause-found
returns-clause-found c = is_found c.args.at c.args.body.now c.id_in.result (λ i. omega (arith, c.type_inv.body i)) c.id_in.ensures

pub returns-clause-only : goal.returns-clause-only
returns-clause-only c = λ id h. is_only c.args.at c.args.body.now c.id_in.result id c.id_in.ensures h
