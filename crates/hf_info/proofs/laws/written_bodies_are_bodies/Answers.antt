use Rattle.hf_info.proofs.InfeWritten.{infe_written}
use Rattle.hf_info.proofs.IinfWritten.{iinf_written}
use Rattle.hf_info.proofs.laws.written_bodies_are_bodies.Goals as goal

pub returns-clause-infe : goal.returns-clause-infe
returns-clause-infe c = infe_written

pub returns-clause-iinf : goal.returns-clause-iinf
returns-clause-iinf c = iinf_written
