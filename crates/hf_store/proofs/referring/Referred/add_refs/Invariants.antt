use Rattle.std.proofs.Common.{take}
use Rattle.hf_store.specs.Referred.{HasAll, targets_by}
use Rattle.hf_store.proofs.referring.Referred.add_refs.Given as goal

abbrev pub invariant-loop-list : goal.invariant-loop-list
invariant-loop-list l = record {
  kept : HasAll l.self l.fn.self;
  added : HasAll l.self (targets_by (take l.list-index l.refs));
}
