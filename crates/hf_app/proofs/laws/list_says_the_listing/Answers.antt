use Rattle.hf_app.proofs.Headlines.{list_done}
use Rattle.hf_app.proofs.laws.list_says_the_listing.Goals as goal

pub returns : goal.returns
returns c = list_done
