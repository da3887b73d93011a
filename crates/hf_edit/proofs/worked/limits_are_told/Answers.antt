use Rattle.hf_edit.proofs.WorkedLimits.{additions_fill_meta, additions_fit_meta, body_before_meta, body_fits, body_is_full, ids_before_body, items_are_full, items_fit, kinds_are_full, kinds_before_items, kinds_fit, meta_fits, meta_is_full, props_before_kinds}
use Rattle.hf_edit.proofs.worked.limits_are_told.Goals as goal

pub returns : goal.returns
returns c =
    record {
      kinds = kinds_fit;
      too_many_kinds = kinds_are_full;
      items = items_fit;
      too_many_items = items_are_full;
      kinds_before_items = kinds_before_items;
      ids_before_body = ids_before_body;
      body = body_fits;
      too_long_body = body_is_full;
      props_before_kinds = props_before_kinds;
      body_before_meta = body_before_meta;
      meta = meta_fits;
      too_long_meta = meta_is_full;
      added_meta = additions_fit_meta;
      too_long_added_meta = additions_fill_meta;
    }
