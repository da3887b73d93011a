use Rattle.hf_text.proofs.WordLaws.{reads-command, command-reads}
use Rattle.hf_text.proofs.laws.words_are_one_command.Goals as goal

pub returns : goal.returns
returns c = λ words command. (reads-command words command, command-reads words command)
