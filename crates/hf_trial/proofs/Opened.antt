-- The stores of trials and their files, opened.
use Rattle.hf_base.specs.Number.{num}
use Rattle.hf_box.specs.Head.{box_len, box_head, box}
use Rattle.hf_derived.specs.Grid.{grid_body}
use Rattle.hf_head.specs.Ftyp.{ftyp_body}
use Rattle.hf_head.specs.Hdlr.{hdlr_body}
use Rattle.hf_head.specs.Pitm.{pitm_body}
use Rattle.hf_info.specs.Infe.{infe_body}
use Rattle.hf_info.specs.Iinf.{iinf_body}
use Rattle.hf_links.specs.Iref.{reference_body, iref_body}
use Rattle.hf_loc.specs.Iloc.{iloc_entry, iloc_body}
use Rattle.hf_prop.specs.Ipma.{ipma_entry, ipma_body}
use Rattle.hf_prop.specs.Iprp.{ipco_body, iprp_body}
use Rattle.hf_store.specs.Counts.{counts_of}
use Rattle.hf_store.specs.Layout.{is_wide, box_if_any, bytes_in, meta_front, meta_body, laid}
use Rattle.hf_store.specs.Table.{table_of}
use Rattle.hf_store.specs.Valid.{body_sum}
use Rattle.hf_trial.specs.Bytes.{tile_bytes, grid_bytes, exif_bytes, hvcc_body, ispe_body}
use Rattle.hf_trial.specs.Trial.{trial_store_of}

-- its name on an `unfolding` line opens the store of a trial
unfoldable pub trial : Unit {0}
unfolding num grid_body tile_bytes grid_bytes exif_bytes hvcc_body ispe_body trial_store_of table_of body_sum counts_of
trial = tt

-- and this one its file
unfoldable pub layout : Unit {0}
unfolding box_len box_head box is_wide box_if_any ftyp_body hdlr_body pitm_body infe_body iinf_body reference_body iref_body ipco_body
    ipma_entry ipma_body iprp_body bytes_in iloc_entry iloc_body meta_front meta_body laid
layout = tt
