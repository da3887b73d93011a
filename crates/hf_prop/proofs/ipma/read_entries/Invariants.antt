use Rattle.std.proofs.Common.{◌≡◌, ◌-◌, ◌≤◌}
use Rattle.hf_base.specs.Entries.{entries_from}
use Rattle.hf_base.specs.declared.limits.TheConstants.{ROWS}
use Rattle.hf_prop.specs.Ipma.{entry_at}
use Rattle.hf_prop.specs.Tables.{pick_bytes, IsTable}
use Rattle.hf_prop.proofs.ipma.read_entries.Given as goal

abbrev pub invariant-loop : goal.invariant-loop
invariant-loop l = record {
  table : IsTable l.table;
  few : l.table.rows ≤ ROWS;
  read : entries_from (entry_at ROWS l.at l.width (pick_bytes l.two_bytes)) l.table.assocs (l.count - l.counter) l.rest ≡ entries_from (entry_at ROWS l.at l.width (pick_bytes l.two_bytes)) l.fn.table.assocs l.count l.bytes;
}
