use Rattle.std.proofs.Common.{refl}
use Rattle.hf_box.specs.Worked.{worked_file}
use Rattle.hf_read.proofs.Opened.{reads}
use Rattle.hf_read.proofs.worked.cut_files_are_refused.Goals as goal

pub returns-clause-cut_0_to_0 : goal.returns-clause-cut_0_to_0
unfolding reads worked_file
returns-clause-cut_0_to_0 c = refl

pub returns-clause-cut_1_to_7 : goal.returns-clause-cut_1_to_7
unfolding reads worked_file
returns-clause-cut_1_to_7 c = refl

pub returns-clause-cut_8_to_23 : goal.returns-clause-cut_8_to_23
unfolding reads worked_file
returns-clause-cut_8_to_23 c = refl

pub returns-clause-cut_24_to_24 : goal.returns-clause-cut_24_to_24
unfolding reads worked_file
returns-clause-cut_24_to_24 c = refl

pub returns-clause-cut_25_to_31 : goal.returns-clause-cut_25_to_31
unfolding reads worked_file
returns-clause-cut_25_to_31 c = refl

pub returns-clause-cut_32_to_181 : goal.returns-clause-cut_32_to_181
unfolding reads worked_file
returns-clause-cut_32_to_181 c = refl

pub returns-clause-cut_182_to_182 : goal.returns-clause-cut_182_to_182
unfolding reads worked_file
returns-clause-cut_182_to_182 c = refl

pub returns-clause-cut_183_to_189 : goal.returns-clause-cut_183_to_189
unfolding reads worked_file
returns-clause-cut_183_to_189 c = refl

pub returns-clause-cut_190_to_192 : goal.returns-clause-cut_190_to_192
unfolding reads worked_file
returns-clause-cut_190_to_192 c = refl
