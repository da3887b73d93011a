use Rattle.hf_edit.proofs.Untouched.{added_items_come, no_item_comes, untouched_items_stay}
use Rattle.hf_edit.proofs.laws.untouched_items_stay.Goals as goal

pub returns : goal.returns
returns c = record { stay = untouched_items_stay; come = added_items_come; none_comes = no_item_comes }
