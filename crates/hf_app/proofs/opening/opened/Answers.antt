use Rattle.std.proofs.Common.{refl, rules}
use Rattle.hf_app.proofs.Faults.{no_fault, fault_told}
use Rattle.hf_app.proofs.opening.opened.Goals as goal

pub returns-in-Ok : goal.returns-in-Ok
returns-in-Ok c = record { denoted = c.in-Ok.ensures.found.0; sound = no_fault c.args.file.now c.in-Ok.store c.in-Ok.ensures.exact }

pub returns-in-Err-Unfit : goal.returns-in-Err-Unfit
returns-in-Err-Unfit c = (refl, fault_told c.args.file.now _ (search rules))
