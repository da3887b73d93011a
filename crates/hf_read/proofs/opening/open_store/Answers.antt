use Rattle.std.proofs.Common.{arith}
use Rattle.hf_read.proofs.OpeningLaws.{opened_denotes, denoted_opens}
use Rattle.hf_read.proofs.opening.open_store.Goals as goal

pub returns-clause-found : goal.returns-clause-found
returns-clause-found c = opened_denotes c.args.file.now (λ i. omega (arith, c.type_inv.file i)) c.requires c.opened.result c.opened.ensures

pub returns-clause-only : goal.returns-clause-only
returns-clause-only c = denoted_opens c.args.file.now (λ i. omega (arith, c.type_inv.file i)) c.requires c.opened.result c.opened.ensures
