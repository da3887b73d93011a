use Rattle.std.proofs.Common.{arith}
use Rattle.hf_links.proofs.GrplLemmas.{is_found, is_only}
use Rattle.hf_links.proofs.grpl.grpl_in.Goals as goal

pub returns-clause-found : goal.returns-clause-found
returns-clause-found c = is_found (record { kind = c.args.kind; at = c.args.at; head = c.args.head; body = c.args.body.now }) c.groups_of_box.result (λ i. omega (arith, c.type_inv.body i)) c.groups_of_box.ensures

pub returns-clause-only : goal.returns-clause-only
returns-clause-only c = λ groups h. is_only (record { kind = c.args.kind; at = c.args.at; head = c.args.head; body = c.args.body.now }) c.groups_of_box.result groups c.groups_of_box.ensures h
