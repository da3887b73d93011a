use Rattle.std.proofs.Common.{◌≡◌, ◌≤◌, take}
use Rattle.hf_table.specs.Held.{props_in}
use Rattle.hf_table.specs.Table.{places_of}
use Rattle.hf_store.proofs.store.room.places.Given as goal

abbrev pub invariant-loop-held : goal.invariant-loop-held
invariant-loop-held l = record {
  few : l.count ≤ l.held-index;
  counted : l.count ≡ places_of l.prop (props_in (take l.held-index l.props));
}
