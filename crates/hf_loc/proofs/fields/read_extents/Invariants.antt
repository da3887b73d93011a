use Rattle.std.proofs.Common.{◌≡◌, ◌-◌, length}
use Rattle.hf_base.specs.Reading.{times, with_front}
use Rattle.hf_loc.specs.Iloc.{extent_at}
use Rattle.hf_loc.specs.Views.{widths_in}
use Rattle.hf_loc.proofs.fields.read_extents.Given as goal

abbrev pub invariant-loop : goal.invariant-loop
invariant-loop l = record {
  read : with_front l.extents (times (extent_at l.short (widths_in l.widths)) (l.count - l.counter) l.rest) ≡ times (extent_at l.short (widths_in l.widths)) l.count l.bytes;
  count : length l.extents ≡ l.counter;
}
