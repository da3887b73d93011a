use Rattle.hf_worked.proofs.RefusedStores.{refused_without_mif1, refused_mif1_across_brands, refused_brands_of_five_bytes, refused_major_of_five_bytes, refused_minor_of_five_bytes}
use Rattle.hf_worked.proofs.broken.bad_brands_are_refused.Goals as goal

pub returns : goal.returns
returns c = record { not_without_mif1 = refused_without_mif1; not_mif1_across_brands = refused_mif1_across_brands; not_brands_of_five_bytes = refused_brands_of_five_bytes; not_major_of_five_bytes = refused_major_of_five_bytes; not_minor_of_five_bytes = refused_minor_of_five_bytes }
