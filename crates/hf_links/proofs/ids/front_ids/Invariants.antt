use Rattle.std.proofs.Common.{◌≡◌, ◌-◌, length}
use Rattle.hf_base.specs.Reading.{front, times, with_front}
use Rattle.hf_links.proofs.ids.front_ids.Given as goal

abbrev pub invariant-loop : goal.invariant-loop
invariant-loop l = record {
  read : with_front l.ids (times (front l.width l.short) (l.count - l.counter) l.rest) ≡ times (front l.width l.short) l.count l.bytes;
  many : length l.ids ≡ l.counter;
}
