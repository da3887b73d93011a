use Rattle.std.proofs.Common.{◌≡◌, ◌-◌, length}
use Rattle.hf_base.specs.Reading.{times, with_front}
use Rattle.hf_prop.specs.Ipma.{pick_at}
use Rattle.hf_prop.specs.Tables.{pick_bytes}
use Rattle.hf_prop.proofs.ipma.read_picks.Given as goal

abbrev pub invariant-loop : goal.invariant-loop
invariant-loop l = record {
  read : with_front l.picks (times (pick_at l.short (pick_bytes l.two_bytes)) (l.count - l.counter) l.rest) ≡ times (pick_at l.short (pick_bytes l.two_bytes)) l.count l.bytes;
  count : length l.picks ≡ l.counter;
}
