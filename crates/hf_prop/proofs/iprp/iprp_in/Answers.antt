use Rattle.std.proofs.Common.{arith}
use Rattle.hf_prop.proofs.IprpLemmas.{is_found, is_only}
use Rattle.hf_prop.proofs.iprp.iprp_in.Goals as goal

pub returns-clause-found : goal.returns-clause-found
returns-clause-found c = is_found (record { kind = c.args.kind; at = c.args.at; head = c.args.head; body = c.args.body.now }) c.iprp_of.result (λ i. omega (arith, c.type_inv.body i)) c.iprp_of.ensures

pub returns-clause-only : goal.returns-clause-only
returns-clause-only c = λ v h. is_only (record { kind = c.args.kind; at = c.args.at; head = c.args.head; body = c.args.body.now }) c.iprp_of.result v c.iprp_of.ensures h
