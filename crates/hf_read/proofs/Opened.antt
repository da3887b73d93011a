-- Its name on an `unfolding` line opens all that reading a file computes with.
use Rattle.hf_base.specs.BytesOf.{bytes_of}
use Rattle.hf_base.specs.Counts.{ends, leaves_of, size_of}
use Rattle.hf_base.specs.Entries.{entries_from}
use Rattle.hf_base.specs.Levels.{over}
use Rattle.hf_base.specs.LocationFaults.{external_fault, bad_method_fault, zero_length_fault, no_idat_fault, bad_index_fault, loc_cycle_fault}
use Rattle.hf_base.specs.LocationFaults.{out_of_file_fault, out_of_idat_fault, too_scattered_fault, out_of_item_fault, too_many_bytes_fault, locations_fault}
use Rattle.hf_base.specs.Number.{num, number}
use Rattle.hf_base.specs.Reading.{front, front_bytes, front_four, front_full, times}
use Rattle.hf_box.specs.Framing.{cut, box_at, frames_within}
use Rattle.hf_box.specs.Head.{box_len, box_head, box, head_len}
use Rattle.hf_box.specs.Tables.{boxes_from}
use Rattle.hf_box.specs.Walk.{children_at}
use Rattle.hf_head.specs.Ftyp.{ftyp_at, ftyp_body}
use Rattle.hf_head.specs.Hdlr.{handler_at, hdlr_at, hdlr_body}
use Rattle.hf_head.specs.Pitm.{id_at, pitm_at, pitm_body}
use Rattle.hf_info.specs.Infe.{infe_at, infe_body}
use Rattle.hf_info.specs.Iinf.{with_infe, iinf_at, iinf_body}
use Rattle.hf_links.specs.Grpl.{group_at, with_group, grpl_at, group_body, grpl_body}
use Rattle.hf_links.specs.Iref.{ref_box_at, with_ref_box, iref_at, reference_body, iref_body}
use Rattle.hf_loc.specs.Iloc.{index_at, extent_at, fields_at, loc_at, widths_at, iloc_within, iloc_entry, iloc_body}
use Rattle.hf_loc.specs.Iloc.{entry_at as loc_entry_at, counted_at as loc_counted_at}
use Rattle.hf_prop.specs.Ipma.{pick_at, assoc_at, entry_at, counted_at, with_ipma, ipma_entry, ipma_body}
use Rattle.hf_prop.specs.Iprp.{at_most_one, props_at, iprp_within, ipco_body, iprp_body}
use Rattle.hf_store.specs.Layout.{is_wide, box_if_any, bytes_in, meta_front, meta_body, laid}
use Rattle.hf_store.specs.Table.{table_of}
use Rattle.hf_store.specs.Valid.{body_sum, meta_len}
use Rattle.hf_read.specs.Faults.{no_primary_fault, dangling_need_fault, bad_property_fault, bad_derived_fault, derive_cycle_fault, derived_fault}
use Rattle.hf_store.specs.LimitFaults.{too_many_items_fault, too_many_links_fault, meta_too_long_fault, limits_fault}
use Rattle.hf_read.specs.Kept.{kept_refs, kept_props, kept_groups}
use Rattle.hf_read.specs.Reading.{store_at, tables_at, checked, reading_parts, reading, fault_of}
use Rattle.hf_read.specs.Rising.{by_rising}
use Rattle.hf_read.specs.TopLevel.{first_fault, has_brand, brands_at, top_of, parts_of}
use Rattle.hf_read.specs.Walks.{walkers, first_walker}

-- up to the checks of the store
unfoldable pub reads_unchecked : Unit {0}
unfolding bytes_of ends leaves_of size_of entries_from over external_fault bad_method_fault zero_length_fault no_idat_fault bad_index_fault loc_cycle_fault out_of_file_fault out_of_idat_fault too_scattered_fault out_of_item_fault too_many_bytes_fault locations_fault num number front front_bytes front_four front_full times cut box_at frames_within box_len box_head box head_len boxes_from children_at ftyp_at ftyp_body handler_at hdlr_at hdlr_body id_at pitm_at pitm_body infe_at infe_body with_infe iinf_at iinf_body group_at with_group grpl_at group_body grpl_body ref_box_at with_ref_box iref_at reference_body iref_body index_at extent_at fields_at loc_at widths_at iloc_within iloc_entry iloc_body loc_entry_at loc_counted_at pick_at assoc_at entry_at counted_at with_ipma ipma_entry ipma_body at_most_one props_at iprp_within ipco_body iprp_body is_wide box_if_any bytes_in meta_front meta_body laid table_of body_sum meta_len no_primary_fault dangling_need_fault bad_property_fault bad_derived_fault derive_cycle_fault derived_fault too_many_items_fault too_many_links_fault meta_too_long_fault limits_fault kept_refs kept_props kept_groups store_at tables_at reading_parts reading fault_of by_rising first_fault has_brand brands_at top_of parts_of walkers first_walker
reads_unchecked = tt

unfoldable pub reads : Unit {0}
unfolding reads_unchecked checked
reads = tt
