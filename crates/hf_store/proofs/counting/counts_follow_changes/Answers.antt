use Rattle.hf_store.proofs.Counted.{item_goes, item_comes, item_changes, group_goes, group_comes, group_changes}
use Rattle.hf_store.proofs.counting.counts_follow_changes.Goals as goal

pub returns : goal.returns
returns c = record {
  item_goes = item_goes;
  item_comes = item_comes;
  item_changes = item_changes;
  group_goes = group_goes;
  group_comes = group_comes;
  group_changes = group_changes;
}
