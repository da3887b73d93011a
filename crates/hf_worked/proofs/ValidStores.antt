-- Worked stores that are valid.
use Rattle.std.proofs.Common.{◌<◌, ◌^◌, ℕ, List, [], ◌∷◌, ◌++◌, map, refl, arith}
use Rattle.std.specs.List.{AllByRecursion, range_with_len}
use Rattle.hf_store.specs.Store.{Item, ids_of}
use Rattle.hf_head.specs.Ftyp.{ftyp_body}
use Rattle.hf_head.specs.Hdlr.{hdlr_body}
use Rattle.hf_head.specs.Pitm.{pitm_body}
use Rattle.std.specs.Prelude.{◌==◌, if◌then◌else◌}
use Rattle.hf_base.specs.Number.{num}
use Rattle.hf_box.specs.Head.{box_len, box_head, box}
use Rattle.hf_store.specs.Table.{table_of}
use Rattle.hf_info.specs.Infe.{infe_body}
use Rattle.hf_info.specs.Iinf.{iinf_body}
use Rattle.hf_links.specs.Grpl.{group_body, grpl_body}
use Rattle.hf_links.specs.Iref.{reference_body, iref_body}
use Rattle.hf_loc.specs.Iloc.{iloc_entry, iloc_body}
use Rattle.hf_prop.specs.Ipma.{ipma_entry, ipma_body}
use Rattle.hf_prop.specs.Iprp.{ipco_body, iprp_body}
use Rattle.hf_store.specs.Layout.{is_wide, box_if_any, bytes_in, meta_front, meta_body, laid}
use Rattle.hf_store.specs.Derived.{input_pairs}
use Rattle.hf_store.specs.Valid.{body_sum, meta_len, IsGoodItem, Valid}
use Rattle.hf_worked.specs.WorkedStores.{one_picture, one_empty_item, greatest_narrow_id, least_wide_id, two_widths, turned_picture, sized_picture, properties_127, properties_128, properties_300, identity_item, overlays, two_alternatives, picture_with_exif, picture_with_xmp, picture_with_thumbnail, every_feature, every_feature_wide, photograph, photograph_redacted, photograph_bare, tile, tiles, thumbnail, exif, xmp}
use Rattle.hf_store.proofs.Ends.{ends}
use Rattle.hf_store.proofs.Finds.{found, all_found}

-- its name on an `unfolding` line opens the layout of meta
unfoldable pub layout : Unit {0}
unfolding num box_len box_head box table_of is_wide box_if_any ftyp_body hdlr_body pitm_body infe_body iinf_body reference_body iref_body ipco_body ipma_entry ipma_body iprp_body group_body grpl_body bytes_in iloc_entry iloc_body meta_front meta_body laid body_sum meta_len
layout = tt

-- a tile is a good item of any store
good_tile : (is : List Item) (id : ℕ) → id < 256 ^ 4 → IsGoodItem is (tile id)
good_tile is id few = search arith

good_tiles : (is : List Item) (ids : List ℕ) (rest : List Item) → AllByRecursion (λ id. id < 256 ^ 4) ids → AllByRecursion (IsGoodItem is) rest → AllByRecursion (IsGoodItem is) (map tile ids ++ rest)
good_tiles is [] rest few good = good
good_tiles is (id ∷ ids) rest few good = (good_tile is id few.0, good_tiles is ids rest few.1 good)

pub valid_one_picture : Valid one_picture
unfolding layout one_picture
valid_one_picture =
    let ends = ends (λ id. 0) (input_pairs one_picture.items) refl in
    search (found, ends, arith)

pub valid_one_empty_item : Valid one_empty_item
unfolding layout one_empty_item
valid_one_empty_item =
    let ends = ends (λ id. 0) (input_pairs one_empty_item.items) refl in
    search (found, ends, arith)

pub valid_greatest_narrow_id : Valid greatest_narrow_id
unfolding layout greatest_narrow_id
valid_greatest_narrow_id =
    let ends = ends (λ id. 0) (input_pairs greatest_narrow_id.items) refl in
    search (found, ends, arith)

pub valid_least_wide_id : Valid least_wide_id
unfolding layout least_wide_id
valid_least_wide_id =
    let ends = ends (λ id. 0) (input_pairs least_wide_id.items) refl in
    search (found, ends, arith)

pub valid_two_widths : Valid two_widths
unfolding layout two_widths
valid_two_widths =
    let ends = ends (λ id. 0) (input_pairs two_widths.items) refl in
    search (found, ends, arith)

pub valid_turned_picture : Valid turned_picture
unfolding layout turned_picture
valid_turned_picture =
    let ends = ends (λ id. 0) (input_pairs turned_picture.items) refl in
    search (found, ends, arith)

pub valid_sized_picture : Valid sized_picture
unfolding layout sized_picture
valid_sized_picture =
    let ends = ends (λ id. 0) (input_pairs sized_picture.items) refl in
    search (found, ends, arith)

pub valid_properties_127 : Valid properties_127
unfolding layout properties_127
valid_properties_127 =
    let ends = ends (λ id. 0) (input_pairs properties_127.items) refl in
    search (found, ends, arith)

pub valid_properties_128 : Valid properties_128
unfolding layout properties_128
valid_properties_128 =
    let ends = ends (λ id. 0) (input_pairs properties_128.items) refl in
    search (found, ends, arith)

pub valid_properties_300 : Valid properties_300
unfolding layout properties_300
valid_properties_300 =
    record {
      brands = search arith;
      ids_rise = search arith;
      primary = search found;
      items = search arith;
      groups_rise = search arith;
      groups = search arith;
      ends = ends (λ id. 0) (input_pairs properties_300.items) refl;
      count = omega arith;
      kinds = omega arith;
      body = omega arith;
      meta = omega arith;
    }

pub valid_identity_item : Valid identity_item
unfolding layout identity_item
valid_identity_item =
    let ends = ends (λ id. if id == 2 then 1 else 0) (input_pairs identity_item.items) refl in
    search (found, ends, arith)

pub valid_overlays : Valid overlays
unfolding layout overlays
valid_overlays =
    let ends = ends (λ id. 0) (input_pairs overlays.items) refl in
    search (found, ends, arith)

pub valid_two_alternatives : Valid two_alternatives
unfolding layout two_alternatives
valid_two_alternatives =
    let ends = ends (λ id. 0) (input_pairs two_alternatives.items) refl in
    search (found, ends, arith)

pub valid_picture_with_exif : Valid picture_with_exif
unfolding layout picture_with_exif
valid_picture_with_exif =
    let ends = ends (λ id. 0) (input_pairs picture_with_exif.items) refl in
    search (found, ends, arith)

pub valid_picture_with_xmp : Valid picture_with_xmp
unfolding layout picture_with_xmp
valid_picture_with_xmp =
    let ends = ends (λ id. 0) (input_pairs picture_with_xmp.items) refl in
    search (found, ends, arith)

pub valid_picture_with_thumbnail : Valid picture_with_thumbnail
unfolding layout picture_with_thumbnail
valid_picture_with_thumbnail =
    let ends = ends (λ id. 0) (input_pairs picture_with_thumbnail.items) refl in
    search (found, ends, arith)

pub valid_every_feature : Valid every_feature
unfolding layout every_feature
valid_every_feature =
    record {
      brands = search arith;
      ids_rise = search arith;
      primary = search found;
      items = (search (found, arith), (search (found, arith), (search (found, arith), (search (found, arith), (search (found, arith), (search (found, arith), (search (found, arith), (search (found, arith), (search (found, arith), (search (found, arith), tt))))))))));
      groups_rise = search arith;
      groups = search (found, arith);
      ends = ends (λ id. if id == 9 then 1 else (if id == 3 then 1 else 0)) (input_pairs every_feature.items) refl;
      count = omega arith;
      kinds = omega arith;
      body = omega arith;
      meta = omega arith;
    }

pub valid_every_feature_wide : Valid every_feature_wide
unfolding layout every_feature_wide
valid_every_feature_wide =
    record {
      brands = search arith;
      ids_rise = search arith;
      primary = search found;
      items = let last = found 4294967294 (ids_of every_feature_wide.items) refl in (search (found, arith), (search (found, arith), (search (found, arith), (search (found, arith), (search (found, arith), (search (found, arith), (search (found, arith), (search (found, arith), (search (found, arith), (search (found, arith), (search (found, arith), tt)))))))))));
      groups_rise = search arith;
      groups = search (found, arith);
      ends = ends (λ id. if id == 9 then 1 else (if id == 3 then 1 else 0)) (input_pairs every_feature_wide.items) refl;
      count = omega arith;
      kinds = omega arith;
      body = omega arith;
      meta = omega arith;
    }

pub valid_photograph : Valid photograph
unfolding layout photograph
valid_photograph =
    record {
      brands = search arith;
      ids_rise = search arith;
      primary = search found;
      items = let there = all_found (ids_of photograph.items) (range_with_len 1 48) refl in good_tiles photograph.items (range_with_len 1 48) (tiles ∷ thumbnail ∷ exif ∷ xmp ∷ []) (search arith) (search (there, found, arith), (search (found, arith), (search (found, arith), (search (found, arith), tt))));
      groups_rise = search arith;
      groups = search arith;
      ends = ends (λ id. if id == 49 then 1 else 0) (input_pairs photograph.items) refl;
      count = omega arith;
      kinds = omega arith;
      body = omega arith;
      meta = omega arith;
    }

pub valid_photograph_redacted : Valid photograph_redacted
unfolding layout photograph_redacted
valid_photograph_redacted =
    record {
      brands = search arith;
      ids_rise = search arith;
      primary = search found;
      items = let there = all_found (ids_of photograph_redacted.items) (range_with_len 1 48) refl in good_tiles photograph_redacted.items (range_with_len 1 48) (record tiles { name = [] } ∷ thumbnail ∷ []) (search arith) (search (there, found, arith), (search (found, arith), tt));
      groups_rise = search arith;
      groups = search arith;
      ends = ends (λ id. if id == 49 then 1 else 0) (input_pairs photograph_redacted.items) refl;
      count = omega arith;
      kinds = omega arith;
      body = omega arith;
      meta = omega arith;
    }

pub valid_photograph_bare : Valid photograph_bare
unfolding layout photograph_bare
valid_photograph_bare =
    record {
      brands = search arith;
      ids_rise = search arith;
      primary = search found;
      items = let there = all_found (ids_of photograph_bare.items) (range_with_len 1 48) refl in good_tiles photograph_bare.items (range_with_len 1 48) (record tiles { name = [] } ∷ []) (search arith) (search (there, found, arith), tt);
      groups_rise = search arith;
      groups = search arith;
      ends = ends (λ id. if id == 49 then 1 else 0) (input_pairs photograph_bare.items) refl;
      count = omega arith;
      kinds = omega arith;
      body = omega arith;
      meta = omega arith;
    }
