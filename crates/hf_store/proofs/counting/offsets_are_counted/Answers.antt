use Rattle.hf_store.proofs.Counted.{none_before_the_first, one_more_before_the_next, all_before_the_end, rest_is_behind}
use Rattle.hf_store.proofs.Offsets.{offsets_are_counted}
use Rattle.hf_store.proofs.counting.offsets_are_counted.Goals as goal

pub returns : goal.returns
returns c = record {
  offsets = offsets_are_counted;
  first = none_before_the_first;
  next = one_more_before_the_next;
  end = all_before_the_end;
  rest = rest_is_behind;
}
