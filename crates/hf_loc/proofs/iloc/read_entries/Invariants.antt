use Rattle.std.proofs.Common.{◌≡◌, ◌-◌, ◌≤◌, []}
use Rattle.hf_base.specs.Entries.{entries_from}
use Rattle.hf_base.specs.declared.limits.TheConstants.{ROWS}
use Rattle.hf_loc.specs.Iloc.{entry_at}
use Rattle.hf_loc.specs.Views.{widths_in, IsTable}
use Rattle.hf_loc.proofs.iloc.read_entries.Given as goal

abbrev pub invariant-loop : goal.invariant-loop
invariant-loop l = record {
  table : IsTable l.table;
  few : l.table.rows ≤ ROWS;
  read : entries_from (entry_at ROWS l.at (widths_in l.widths)) l.table.locs.items (l.count - l.counter) l.rest ≡ entries_from (entry_at ROWS l.at (widths_in l.widths)) [] l.count l.bytes;
}
