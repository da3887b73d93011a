use Rattle.hf_worked.proofs.RefusedStores.{refused_zero_in_name, refused_content_without_mime, refused_uri_without_uri, refused_properties_256, refused_type_of_five_bytes, refused_type_of_three_bytes, refused_zero_in_content, refused_zero_in_encoding, refused_zero_in_uri, refused_encoding_without_mime, refused_property_type_of_five_bytes}
use Rattle.hf_worked.proofs.broken.bad_items_are_refused.Goals as goal

pub returns : goal.returns
returns c = record { not_zero_in_name = refused_zero_in_name; not_content_without_mime = refused_content_without_mime; not_uri_without_uri = refused_uri_without_uri; not_properties_256 = refused_properties_256; not_type_of_five_bytes = refused_type_of_five_bytes; not_type_of_three_bytes = refused_type_of_three_bytes; not_zero_in_content = refused_zero_in_content; not_zero_in_encoding = refused_zero_in_encoding; not_zero_in_uri = refused_zero_in_uri; not_encoding_without_mime = refused_encoding_without_mime; not_property_type_of_five_bytes = refused_property_type_of_five_bytes }
