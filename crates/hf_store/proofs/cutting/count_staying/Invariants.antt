use Rattle.std.proofs.Common.{◌≡◌, ◌≤◌, take, length, filter}
use Rattle.hf_store.specs.Stays.{IsSearchable, stays_of}
use Rattle.hf_store.proofs.cutting.count_staying.Given as goal

abbrev pub invariant-loop-id : goal.invariant-loop-id
invariant-loop-id l = record {
  few : l.count ≤ l.id-index;
  counted : IsSearchable l.stays → l.count ≡ length (filter (stays_of l.stays) (take l.id-index l.ids));
}
