use Rattle.std.proofs.Common.{string_bytes, arith, sym}
use Rattle.hf_text.proofs.Operands.{end-here, end-past}
use Rattle.hf_text.proofs.places.read_end.Goals as goal

pub returns-then-at-i : goal.returns-then-at-i
returns-then-at-i c = sym (end-here string_bytes c.args.words.now c.args.at c.args.i (omega arith))

pub returns-else-at-i : goal.returns-else-at-i
returns-else-at-i c = sym (end-past string_bytes c.args.words.now c.args.at c.args.i (omega arith))
