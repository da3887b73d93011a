use Rattle.std.proofs.Common.{arith}
use Rattle.hf_base.specs.declared.kinds.TheConstants.{IINF}
use Rattle.hf_box.specs.Boxes.{BoxAt}
use Rattle.hf_info.proofs.IinfLemmas.{is_found, is_only}
use Rattle.hf_info.proofs.iinf.iinf_in.Goals as goal

pub returns-clause-found : goal.returns-clause-found
returns-clause-found c =
    let b : BoxAt = record { kind = IINF; at = c.args.at; head = c.args.head; body = c.args.body.now } in
    is_found b c.entries_in.result (λ i. omega (arith, c.type_inv.body i)) c.entries_in.ensures

pub returns-clause-only : goal.returns-clause-only
returns-clause-only c =
    let b : BoxAt = record { kind = IINF; at = c.args.at; head = c.args.head; body = c.args.body.now } in
    λ infos h. is_only b c.entries_in.result infos c.entries_in.ensures h
