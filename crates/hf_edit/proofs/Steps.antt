-- An edit against which there is no reason leaves a valid store valid.
use Rattle.std.proofs.Common.{◌≡◌, ◌<◌, ◌≤◌, ◌+◌, ℕ, Bool, true, false, not, cond, length, refl, sym, ap, subst, arith, inl, inr, Some, None}
use Rattle.std.specs.Prelude.{◌==◌, slice_get}
use Rattle.std.proofs.lemmas.List.{length-map}
use Rattle.hf_base.specs.declared.four.FourCc.{FourCc}
use Rattle.hf_table.specs.Held.{is_of}
use Rattle.hf_store.specs.Changes.{added, hide, id_at, lacking, removed, with_hidden, with_primary, without_props}
use Rattle.hf_store.specs.Counts.{counts_of}
use Rattle.hf_store.specs.Lists.{IsIn}
use Rattle.hf_store.specs.Sizes.{AreFours, counted_meta}
use Rattle.hf_store.specs.Store.{Item, ItemStore, ids_of}
use Rattle.hf_store.specs.Table.{table_of}
use Rattle.hf_store.specs.Valid.{meta_len, Valid}
use Rattle.hf_store.proofs.Spots.{at_or, within_at}
use Rattle.hf_store.proofs.MetaCounts.{good_fours, valid_fours, meta_is_counted}
use Rattle.hf_deps.proofs.Needers.{valid_unneeded}
use Rattle.hf_edit.specs.Additions.{exif_item, greatest_id, primary_item, xmp_item}
use Rattle.hf_edit.specs.Edits.{Edit, Remove, AddExif, AddXmp, Thumb, Primary, Rotate, Mirror, Crop, Hide, Show, Drop, step, with_item, why}
use Rattle.hf_edit.specs.Left.{IsGoodEdit, StepsKeepValidity}
use Rattle.hf_edit.specs.Pictures.{cropped, mirrored, rotated}
use Rattle.hf_edit.proofs.Coming.{good_exif, good_xmp, kept, next_fits, valid_more, valid_thumbnail}
use Rattle.hf_edit.proofs.Free.{IsFree, is_free}
use Rattle.hf_edit.proofs.Named.{is_somewhere, with_item_at}
use Rattle.hf_deps.proofs.Parts.{IsPart, filter-all, valid_parts}
use Rattle.hf_edit.proofs.Reshaped.{four_cropped, four_mirrored, four_rotated, valid_reshaped}

-- ---- another primary item

fours-primary : (s : ItemStore) (id : ℕ) → Valid s → AreFours (with_primary id s)
fours-primary s id valid = good_fours (with_primary id s) valid.items (valid_fours s valid).groups

counted-primary : (s : ItemStore) (id : ℕ) → counted_meta (with_primary id s) ≡ counted_meta s
unfolding counts_of table_of
counted-primary s id = refl

meta-primary : (s : ItemStore) (id : ℕ) → Valid s → meta_len (with_primary id s) ≤ meta_len s
meta-primary s id valid =
    let same = counted-primary s id in
    let before = (meta_is_counted s (valid_fours s valid) (inl valid.meta)).1 in
    let after = (meta_is_counted (with_primary id s) (fours-primary s id valid) (inr (omega (arith, same, before, valid.meta)))).1 in
    omega (arith, before, after, same)

valid_primary : (s : ItemStore) (id : ℕ) → Valid s → IsIn id (ids_of s.items) → Valid (with_primary id s)
unfolding table_of
valid_primary s id valid there = record {
  brands = valid.brands;
  ids_rise = valid.ids_rise;
  primary = there;
  items = valid.items;
  groups_rise = valid.groups_rise;
  groups = valid.groups;
  ends = valid.ends;
  count = valid.count;
  kinds = valid.kinds;
  body = valid.body;
  meta = omega (arith, meta-primary s id valid, valid.meta);
}

-- ---- a changed item

whole : (i : Item) → IsPart i i
whole i = record { same = refl; stays = (λ h. true, sym (filter-all i.props)) }

hidden_part : (hidden : Bool) (i : Item) → IsPart i (hide hidden i)
hidden_part hidden i = record { same = refl; stays = (λ h. true, sym (filter-all i.props)) }

lacking_part : (kind : FourCc) (i : Item) → IsPart i (lacking kind i)
lacking_part kind i = record { same = refl; stays = (λ h. not (is_of kind h), refl) }

valid_changed : (id : ℕ) (change : Item → Item) → ((i : Item) → IsPart i (change i)) → (s : ItemStore) → Valid s → Valid (with_item id change s)
valid_changed id change part s valid =
    valid_parts (λ (i : Item). cond (i.id == id) (change i) i)
    (λ i. elim (i.id == id) as (λ b. IsPart i (cond b (change i) i)) [ true ↦ part i | false ↦ whole i ])
    s valid

-- ---- the law

valid_step : (s : ItemStore) (e : Edit) → Valid s → IsGoodEdit e → IsFree s e → Valid (step s e)
valid_step s (Remove id) valid good free = valid_unneeded s id valid free.shown free.unneeded
valid_step s (AddExif id tiff) valid good free =
    let there = is_somewhere s id free.there in
    let fits = next_fits s valid free.ids in
    let i = exif_item tiff id (greatest_id s + 1) in
    valid_more s id there fits i valid refl refl (good_exif s id there fits tiff) (kept (added i s) free.items free.kinds free.body free.meta)
valid_step s (AddXmp id text) valid good free =
    let there = is_somewhere s id free.there in
    let fits = next_fits s valid free.ids in
    let i = xmp_item text id (greatest_id s + 1) in
    valid_more s id there fits i valid refl refl (good_xmp s id there fits text) (kept (added i s) free.items free.kinds free.body free.meta)
valid_step s (Thumb id donor) valid good free =
    let there = is_somewhere s id free.there in
    let fits = next_fits s valid free.ids in
    let kept = kept (step s (Thumb id donor)) free.items free.kinds free.body free.meta in
    valid_thumbnail s id there fits donor (primary_item donor) refl valid good free.whole kept
valid_step s (Primary id) valid good free = valid_primary s id valid (is_somewhere s id free.there)
valid_step s (Rotate id quarters) valid good free =
    valid_reshaped s id (λ (i : Item). rotated quarters i.props) valid (λ i all. four_rotated quarters i.props all) free.props free.kinds free.meta
valid_step s (Mirror id axis) valid good free =
    valid_reshaped s id (λ (i : Item). mirrored axis i.props) valid (λ i all. four_mirrored axis i.props all) free.props free.kinds free.meta
valid_step s (Crop id x y w h) valid good free = valid_reshaped s id (cropped x y w h) valid (four_cropped x y w h) free.props free.kinds free.meta
valid_step s (Hide id) valid good free = valid_changed id (hide true) (hidden_part true) s valid
valid_step s (Show id) valid good free = valid_changed id (hide false) (hidden_part false) s valid
valid_step s (Drop id kind) valid good free = valid_changed id (lacking kind) (lacking_part kind) s valid

pub steps_keep_validity : StepsKeepValidity
steps_keep_validity s e valid good free = valid_step s e valid good (is_free s e free)

-- ---- the changes of the item at the place where the id stands

module _ (s : ItemStore) (id k : ℕ) (valid : Valid s) (here : slice_get (ids_of s.items) k ≡ Some id) where
  pub place : k < length s.items
  place = omega (arith, within_at (ids_of s.items) k id here, length-map s.items (λ (i : Item). i.id))

  pub hidden_at : (hidden : Bool) → with_hidden k hidden s ≡ with_item id (hide hidden) s
  hidden_at hidden = with_item_at (hide hidden) s id k valid.ids_rise here

  pub lacking_at : (kind : FourCc) → without_props k kind s ≡ with_item id (lacking kind) s
  lacking_at kind = with_item_at (lacking kind) s id k valid.ids_rise here

  pub removed_at : removed (id_at k s.items) s ≡ removed id s
  removed_at = ap (λ (n : ℕ). removed n s) (at_or (ids_of s.items) k id 0 here)

  pub valid_hidden : (hidden : Bool) → Valid (with_hidden k hidden s)
  valid_hidden hidden = subst Valid (sym (hidden_at hidden)) (valid_changed id (hide hidden) (hidden_part hidden) s valid)

  pub valid_lacking : (kind : FourCc) → Valid (without_props k kind s)
  valid_lacking kind = subst Valid (sym (lacking_at kind)) (valid_changed id (lacking kind) (lacking_part kind) s valid)

  pub valid_left : why s (Remove id) ≡ None → Valid (removed (id_at k s.items) s)
  valid_left free = subst Valid (sym removed_at) (steps_keep_validity s (Remove id) valid tt free)
