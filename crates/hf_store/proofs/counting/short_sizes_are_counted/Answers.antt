use Rattle.hf_store.proofs.ShortBoxes.{infes_are_counted, links_are_counted, props_are_counted, groups_are_counted}
use Rattle.hf_store.proofs.counting.short_sizes_are_counted.Goals as goal

pub returns : goal.returns
returns c = record {
  infes = infes_are_counted;
  links = links_are_counted;
  props = props_are_counted;
  groups = groups_are_counted;
}
