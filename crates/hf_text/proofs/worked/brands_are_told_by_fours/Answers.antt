use Rattle.std.proofs.Common.{refl}
use Rattle.hf_text.specs.Listing.{brand_fields}
use Rattle.hf_text.proofs.worked.brands_are_told_by_fours.Goals as goal

pub returns : goal.returns
unfolding brand_fields
returns c = record { none = refl; two = refl; space = refl }
