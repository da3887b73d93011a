use Rattle.std.proofs.Common.{Some, List, ℕ, string_bytes, arith}
use Rattle.hf_text.proofs.Operands.{name-here, operand-past}
use Rattle.hf_text.proofs.places.read_name.Goals as goal

pub returns-then-at-i-clause-read : goal.returns-then-at-i-clause-read
returns-then-at-i-clause-read c = name-here string_bytes c.args.words.now c.args.at c.args.i (omega arith)

pub returns-else-at-i-clause-read : goal.returns-else-at-i-clause-read
returns-else-at-i-clause-read c = operand-past string_bytes c.args.words.now c.args.at c.args.i (λ (word : List ℕ). Some word) (omega arith)
