use Rattle.std.proofs.Common.{refl}
use Rattle.std.specs.Fmt.{digits}
use Rattle.hf_text.specs.Listing.{string_field, brand_fields, brands_text, primary_text, entry_text, prop_text, ref_text, item_text, group_text, listing_text}
use Rattle.hf_text.specs.WorkedListings.{picture_and_text, picture_and_text_lines, linked, linked_lines}
use Rattle.hf_text.proofs.worked.stores_are_listed.Goals as goal

pub returns : goal.returns
unfolding digits string_field brand_fields brands_text primary_text entry_text prop_text ref_text item_text group_text listing_text picture_and_text picture_and_text_lines linked linked_lines
returns c = record { text = refl; links = refl }
