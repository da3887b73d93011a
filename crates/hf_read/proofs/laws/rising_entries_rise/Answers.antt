use Rattle.hf_info.specs.Infe.{Info}
use Rattle.hf_read.proofs.RisingLaws.{in_rising, from_rising, rising_rises}
use Rattle.hf_read.proofs.laws.rising_entries_rise.Goals as goal

pub returns : goal.returns
returns c = record {
  members = λ xs x. (from_rising (λ (i : Info). i.id) xs x, in_rising (λ (i : Info). i.id) xs x);
  rises = λ xs distinct. rising_rises (λ (i : Info). i.id) xs distinct;
}
