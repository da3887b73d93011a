use Rattle.std.proofs.Common.{arith}
use Rattle.hf_loc.proofs.IlocLemmas.{is_found, is_few, is_only}
use Rattle.hf_loc.proofs.iloc.iloc_in.Goals as goal

pub returns-clause-found : goal.returns-clause-found
returns-clause-found c = is_found c.args.at c.args.body.now c.locs_in.result (λ i. omega (arith, c.type_inv.body i)) c.locs_in.ensures

pub returns-clause-few : goal.returns-clause-few
returns-clause-few c = is_few c.args.at c.args.body.now c.locs_in.result (λ i. omega (arith, c.type_inv.body i)) c.locs_in.ensures

pub returns-clause-only : goal.returns-clause-only
returns-clause-only c = λ locs h few. is_only c.args.at c.args.body.now c.locs_in.result locs c.locs_in.ensures h few
