-- The outcome where a call below stopped.
use Rattle.std.specs.Prelude.{ℕ}
use Rattle.hf_desk.specs.declared.read.ReadStop.{ReadStop}
use Rattle.hf_desk.specs.declared.read.ReadStop.TheVariants as reads
use Rattle.hf_app.specs.declared.stopping.Stop.{Stop}
use Rattle.hf_app.specs.declared.stopping.Stop.TheVariants as stops
use Rattle.hf_text.specs.declared.outcome.Outcome.{Outcome}
use Rattle.hf_text.specs.declared.outcome.Outcome.TheVariants.{Unfit, Refused, TooLong, ReadFault, NoMemory}

abbrev pub outcome_of_read : ℕ → ReadStop → Outcome
outcome_of_read source reads.TooLong = TooLong source
outcome_of_read source reads.Fault = ReadFault
outcome_of_read source reads.NoMemory = NoMemory

abbrev pub outcome_of_stop : Stop → Outcome
outcome_of_stop (stops.Unfit source why) = Unfit source why
outcome_of_stop (stops.Refused edit why) = Refused edit why
outcome_of_stop stops.NoMemory = NoMemory
