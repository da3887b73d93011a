-- Stores that are not valid.
use Rattle.std.proofs.Common.{ℕ, zero, suc, refl, arith, inl, inr}
use Rattle.hf_store.specs.Derived.{input_pairs, IsEndless}
use Rattle.hf_store.specs.Valid.{Valid}
use Rattle.hf_worked.specs.BadStores.{brands_of_five_bytes, content_without_mime, cycle, dangling_reference, empty_reference, encoding_without_mime, grid_cut_short, grid_of_long_sides_cut_short, grid_of_two_with_one, group_of_none, group_of_others, group_of_wide_flags, group_of_wide_id, group_of_wide_version, group_type_of_five_bytes, groups_of_one_id, id_of_five_bytes, identity_of_none, ids_of_one, iloc_reference, made_of_itself, major_of_five_bytes, mif1_across_brands, minor_of_five_bytes, overlay_cut_short, primary_of_none, properties_256, property_type_of_five_bytes, reference_type_of_five_bytes, references_fall, references_twice, type_of_five_bytes, type_of_three_bytes, uri_without_uri, without_mif1, zero_id, zero_in_content, zero_in_encoding, zero_in_name, zero_in_uri}

pub refused_without_mif1 : Valid without_mif1 → ⊥
unfolding without_mif1
refused_without_mif1 valid = let field = valid.brands.mif1 in grind arith

pub refused_mif1_across_brands : Valid mif1_across_brands → ⊥
unfolding mif1_across_brands
refused_mif1_across_brands valid = let field = valid.brands.mif1 in grind arith

pub refused_brands_of_five_bytes : Valid brands_of_five_bytes → ⊥
unfolding brands_of_five_bytes
refused_brands_of_five_bytes valid = let field = valid.brands.fours in grind arith

pub refused_zero_in_name : Valid zero_in_name → ⊥
unfolding zero_in_name
refused_zero_in_name valid = let field = valid.items.0.name in grind arith

pub refused_content_without_mime : Valid content_without_mime → ⊥
unfolding content_without_mime
refused_content_without_mime valid = let field = valid.items.0.only_mime in grind arith

pub refused_uri_without_uri : Valid uri_without_uri → ⊥
unfolding uri_without_uri
refused_uri_without_uri valid = let field = valid.items.0.only_uri in grind arith

pub refused_references_fall : Valid references_fall → ⊥
unfolding references_fall
refused_references_fall valid = let field = valid.items.0.kinds_rise in grind arith

pub refused_references_twice : Valid references_twice → ⊥
unfolding references_twice
refused_references_twice valid = let field = valid.items.0.kinds_rise in grind arith

pub refused_iloc_reference : Valid iloc_reference → ⊥
unfolding iloc_reference
refused_iloc_reference valid = let field = valid.items.0.refs in grind arith

pub refused_dangling_reference : Valid dangling_reference → ⊥
unfolding dangling_reference
refused_dangling_reference valid = let field = valid.items.0.refs in grind arith

pub refused_identity_of_none : Valid identity_of_none → ⊥
unfolding identity_of_none
refused_identity_of_none valid = let field = valid.items.0.fits in grind arith

pub refused_grid_of_two_with_one : Valid grid_of_two_with_one → ⊥
unfolding grid_of_two_with_one
refused_grid_of_two_with_one valid = let field = valid.items.1.0.fits in grind arith

pub refused_grid_cut_short : Valid grid_cut_short → ⊥
unfolding grid_cut_short
refused_grid_cut_short valid = let field = valid.items.1.0.fits in grind arith

pub refused_grid_of_long_sides_cut_short : Valid grid_of_long_sides_cut_short → ⊥
unfolding grid_of_long_sides_cut_short
refused_grid_of_long_sides_cut_short valid = let field = valid.items.1.0.fits in grind arith

pub refused_overlay_cut_short : Valid overlay_cut_short → ⊥
unfolding overlay_cut_short
refused_overlay_cut_short valid = let field = valid.items.1.0.fits in grind arith

pub refused_groups_of_one_id : Valid groups_of_one_id → ⊥
unfolding groups_of_one_id
refused_groups_of_one_id valid = let field = valid.groups_rise in grind arith

pub refused_group_of_none : Valid group_of_none → ⊥
unfolding group_of_none
refused_group_of_none valid = let field = valid.groups in grind arith

pub refused_zero_id : Valid zero_id → ⊥
unfolding zero_id
refused_zero_id valid = let field = valid.ids_rise in grind arith

pub refused_ids_of_one : Valid ids_of_one → ⊥
unfolding ids_of_one
refused_ids_of_one valid = let field = valid.ids_rise in grind arith

pub refused_primary_of_none : Valid primary_of_none → ⊥
unfolding primary_of_none
refused_primary_of_none valid = let field = valid.primary in grind arith

pub refused_empty_reference : Valid empty_reference → ⊥
unfolding empty_reference
refused_empty_reference valid = let field = valid.items.0.refs in grind arith

pub refused_group_of_others : Valid group_of_others → ⊥
unfolding group_of_others
refused_group_of_others valid = let field = valid.groups in grind arith

pub refused_group_of_wide_flags : Valid group_of_wide_flags → ⊥
unfolding group_of_wide_flags
refused_group_of_wide_flags valid = let field = valid.groups in grind arith

pub refused_properties_256 : Valid properties_256 → ⊥
unfolding properties_256
refused_properties_256 valid = let field = valid.items.0.props in grind arith

pub refused_major_of_five_bytes : Valid major_of_five_bytes → ⊥
unfolding major_of_five_bytes
refused_major_of_five_bytes valid = let field = valid.brands.major in grind arith

pub refused_minor_of_five_bytes : Valid minor_of_five_bytes → ⊥
unfolding minor_of_five_bytes
refused_minor_of_five_bytes valid = let field = valid.brands.minor in grind arith

pub refused_id_of_five_bytes : Valid id_of_five_bytes → ⊥
unfolding id_of_five_bytes
refused_id_of_five_bytes valid = let field = valid.items.0.id in grind arith

pub refused_type_of_five_bytes : Valid type_of_five_bytes → ⊥
unfolding type_of_five_bytes
refused_type_of_five_bytes valid = let field = valid.items.0.kind in grind arith

pub refused_type_of_three_bytes : Valid type_of_three_bytes → ⊥
unfolding type_of_three_bytes
refused_type_of_three_bytes valid = let field = valid.items.0.kind in grind arith

pub refused_zero_in_content : Valid zero_in_content → ⊥
unfolding zero_in_content
refused_zero_in_content valid = let field = valid.items.0.content in grind arith

pub refused_zero_in_encoding : Valid zero_in_encoding → ⊥
unfolding zero_in_encoding
refused_zero_in_encoding valid = let field = valid.items.0.encoding in grind arith

pub refused_zero_in_uri : Valid zero_in_uri → ⊥
unfolding zero_in_uri
refused_zero_in_uri valid = let field = valid.items.0.uri in grind arith

pub refused_encoding_without_mime : Valid encoding_without_mime → ⊥
unfolding encoding_without_mime
refused_encoding_without_mime valid = let field = valid.items.0.only_mime in grind arith

pub refused_property_type_of_five_bytes : Valid property_type_of_five_bytes → ⊥
unfolding property_type_of_five_bytes
refused_property_type_of_five_bytes valid = let field = valid.items.0.prop_kinds in grind arith

pub refused_reference_type_of_five_bytes : Valid reference_type_of_five_bytes → ⊥
unfolding reference_type_of_five_bytes
refused_reference_type_of_five_bytes valid = let field = valid.items.0.refs.0.kind in grind arith

pub refused_group_type_of_five_bytes : Valid group_type_of_five_bytes → ⊥
unfolding group_type_of_five_bytes
refused_group_type_of_five_bytes valid = let field = valid.groups.0.kind in grind arith

pub refused_group_of_wide_version : Valid group_of_wide_version → ⊥
unfolding group_of_wide_version
refused_group_of_wide_version valid = let field = valid.groups.0.version in grind arith

pub refused_group_of_wide_id : Valid group_of_wide_id → ⊥
unfolding group_of_wide_id
refused_group_of_wide_id valid = let field = valid.groups.0.id in grind arith

turn : ℕ → ℕ
turn zero = 1
turn (suc zero) = 2
turn (suc (suc n)) = turn n

turns : IsEndless (input_pairs cycle.items) turn
unfolding cycle turn
turns zero = inl refl
turns (suc zero) = inr (inl refl)
turns (suc (suc n)) = turns n

pub refused_cycle : Valid cycle → ⊥
refused_cycle valid = valid.ends turn turns

stays : IsEndless (input_pairs made_of_itself.items) (λ n. 1)
unfolding made_of_itself
stays n = inl refl

pub refused_made_of_itself : Valid made_of_itself → ⊥
refused_made_of_itself valid = valid.ends (λ n. 1) stays
