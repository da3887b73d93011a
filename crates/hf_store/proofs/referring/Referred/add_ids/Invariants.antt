use Rattle.std.proofs.Common.{take}
use Rattle.hf_store.specs.Referred.{HasAll}
use Rattle.hf_store.proofs.referring.Referred.add_ids.Given as goal

abbrev pub invariant-loop-id : goal.invariant-loop-id
invariant-loop-id l = record {
  kept : HasAll l.self l.fn.self;
  added : HasAll l.self (take l.id-index l.ids);
}
