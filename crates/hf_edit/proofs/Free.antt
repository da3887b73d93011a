-- What holds of an edit against which there is no reason.
use Rattle.std.proofs.Common.{◌≡◌, ℕ, Bool, true, false, refl, Option, Some, None}
use Rattle.std.specs.Prelude.{option_map}
use Rattle.hf_store.specs.Store.{ItemStore}
use Rattle.hf_store.specs.declared.reason.Reason.{Reason}
use Rattle.hf_store.specs.declared.reason.Reason.TheVariants as reasons
use Rattle.hf_edit.specs.Edits.{Edit, names_none, takes_primary, needer, pictures_metadata, shows_hidden, raises_minor, takes_derived, crops_unsized, crops_outside, turns_wrongly, mirrors_wrongly, drops_none, drops_essential, fills_props, fills_kinds, fills_items, fills_ids, fills_body, fills_meta, when, ◌or_else◌, why}

-- no reason comes first, and none later
none_of : (test : Bool) (reason : Reason) (rest : Option Reason) → (when test reason or_else rest) ≡ None → (test ≡ false) × (rest ≡ None)
none_of true reason rest e = absurd cc
none_of false reason rest e = (refl, e)

none_needs : (by : Option ℕ) (rest : Option Reason) → (option_map (λ id. reasons.Needed id) by or_else rest) ≡ None → (by ≡ None) × (rest ≡ None)
none_needs (Some id) rest e = absurd cc
none_needs None rest e = (refl, e)

pub record IsFree (s : ItemStore) (e : Edit) : Type 0 where
  pub there : names_none s e ≡ false
  pub shown : takes_primary s e ≡ false
  pub unneeded : needer s e ≡ None
  pub whole : takes_derived e ≡ false
  pub inside : crops_outside s e ≡ false
  pub turn : turns_wrongly e ≡ false
  pub axis : mirrors_wrongly e ≡ false
  pub props : fills_props s e ≡ false
  pub kinds : fills_kinds s e ≡ false
  pub items : fills_items s e ≡ false
  pub ids : fills_ids s e ≡ false
  pub body : fills_body s e ≡ false
  pub meta : fills_meta s e ≡ false

pub is_free : (s : ItemStore) (e : Edit) → why s e ≡ None → IsFree s e
is_free s e none =
    let there = none_of (names_none s e) reasons.NoItem _ none in
    let shown = none_of (takes_primary s e) reasons.IsPrimary _ there.1 in
    let unneeded = none_needs (needer s e) _ shown.1 in
    let picture = none_of (pictures_metadata s e) reasons.NotImage _ unneeded.1 in
    let visible = none_of (shows_hidden s e) reasons.IsHidden _ picture.1 in
    let major = none_of (raises_minor s e) reasons.IsMinor _ visible.1 in
    let whole = none_of (takes_derived e) reasons.DonorDerived _ major.1 in
    let sized = none_of (crops_unsized s e) reasons.NoSize _ whole.1 in
    let inside = none_of (crops_outside s e) reasons.OutsidePicture _ sized.1 in
    let turn = none_of (turns_wrongly e) reasons.BadTurn _ inside.1 in
    let axis = none_of (mirrors_wrongly e) reasons.BadAxis _ turn.1 in
    let some = none_of (drops_none s e) reasons.NoProperty _ axis.1 in
    let optional = none_of (drops_essential s e) reasons.IsEssential _ some.1 in
    let props = none_of (fills_props s e) reasons.PropsFull _ optional.1 in
    let kinds = none_of (fills_kinds s e) reasons.KindsFull _ props.1 in
    let items = none_of (fills_items s e) reasons.ItemsFull _ kinds.1 in
    let ids = none_of (fills_ids s e) reasons.IdsFull _ items.1 in
    let body = none_of (fills_body s e) reasons.BodyFull _ ids.1 in
    let meta = none_of (fills_meta s e) reasons.MetaFull _ body.1 in
    record {
      there = there.0;
      shown = shown.0;
      unneeded = unneeded.0;
      whole = whole.0;
      inside = inside.0;
      turn = turn.0;
      axis = axis.0;
      props = props.0;
      kinds = kinds.0;
      items = items.0;
      ids = ids.0;
      body = body.0;
      meta = meta.0;
    }
