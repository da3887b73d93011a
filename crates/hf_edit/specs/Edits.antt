-- Edits of a store: what each makes of it, and the reasons against it. These rules are this project's own.
use Rattle.std.specs.Prelude.{ℕ, ◌==◌, Bool, true, false, not, ◌&&◌, ◌||◌, List, length, map, Option, Some, None, option_map, nat_lt, if◌then◌else◌}
use Rattle.std.specs.List.{list_any}
use Rattle.std.specs.Option.{is_none}
use Rattle.hf_base.specs.declared.four.FourCc.{FourCc}
use Rattle.hf_base.specs.declared.limits.TheConstants as limits
use Rattle.hf_box.specs.Literals.{four}
use Rattle.hf_box.specs.Walk.{is_kind}
use Rattle.hf_links.specs.Kinds.{is_minor as is_minor_kind, is_need}
use Rattle.hf_store.specs.Changes.{hide, holding, lacking, removed, with_primary}
use Rattle.hf_store.specs.Store.{Held, Item, ItemStore, ids_of}
use Rattle.hf_store.specs.Table.{table_of}
use Rattle.hf_store.specs.Valid.{body_sum, meta_len}
use Rattle.hf_store.specs.declared.item.RefList.{RefList}
use Rattle.hf_store.specs.declared.reason.Reason.{Reason}
use Rattle.hf_store.specs.declared.reason.Reason.TheVariants as reasons
use Rattle.hf_table.specs.Held.{is_of}
use Rattle.hf_deps.specs.Needs.{needed_by}
use Rattle.hf_edit.specs.Additions.{exif_item, next_id_of, primary_item, thumbnail_item, with_next, xmp_item}
use Rattle.hf_edit.specs.Pictures.{cropped, is_outside, mirrored, picture_size_of, rotated}

pub data Edit : Type 0 where
  -- the item with this id goes
  Remove : ℕ → Edit
  -- Exif metadata of it comes, with these bytes
  AddExif : ℕ → List ℕ → Edit
  -- XMP metadata of it comes, with this text
  AddXmp : ℕ → List ℕ → Edit
  -- a thumbnail of it comes: the primary item of this store
  Thumb : ℕ → ItemStore → Edit
  -- it becomes the primary
  Primary : ℕ → Edit
  -- it is turned by so many quarters, anticlockwise
  Rotate : ℕ → ℕ → Edit
  -- it is mirrored at this axis
  Mirror : ℕ → ℕ → Edit
  -- a window of it is shown: the first column, the first row, the width and the height
  Crop : ℕ → ℕ → ℕ → ℕ → ℕ → Edit
  -- it is hidden
  Hide : ℕ → Edit
  -- it is shown
  Show : ℕ → Edit
  -- its properties of this type go
  Drop : ℕ → FourCc → Edit

-- the id of the item that an edit names
abbrev pub named : Edit → ℕ
named (Remove id) = id
named (AddExif id tiff) = id
named (AddXmp id text) = id
named (Thumb id donor) = id
named (Primary id) = id
named (Rotate id quarters) = id
named (Mirror id axis) = id
named (Crop id x y w h) = id
named (Hide id) = id
named (Show id) = id
named (Drop id kind) = id

-- ---- what an edit makes of a store

-- the item with an id is changed, and no other one
abbrev pub with_item : ℕ → (Item → Item) → ItemStore → ItemStore
with_item id change s = record s { items = map (λ (i : Item). if i.id == id then change i else i) s.items }

-- an item with properties that are made of it
abbrev pub reshaped : (Item → List Held) → Item → Item
reshaped props i = holding (props i) i

-- a thumbnail that is this item, or none
abbrev pub with_thumbnail : Option Item → ℕ → ItemStore → ItemStore
with_thumbnail None id s = s
with_thumbnail (Some picture) id s = with_next (thumbnail_item picture id) s

-- the store after an edit
abbrev pub step : ItemStore → Edit → ItemStore
step s (Remove id) = removed id s
step s (AddExif id tiff) = with_next (exif_item tiff id) s
step s (AddXmp id text) = with_next (xmp_item text id) s
step s (Thumb id donor) = with_thumbnail (primary_item donor) id s
step s (Primary id) = with_primary id s
step s (Rotate id quarters) = with_item id (reshaped (λ i. rotated quarters i.props)) s
step s (Mirror id axis) = with_item id (reshaped (λ i. mirrored axis i.props)) s
step s (Crop id x y w h) = with_item id (reshaped (cropped x y w h)) s
step s (Hide id) = with_item id (hide true) s
step s (Show id) = with_item id (hide false) s
step s (Drop id kind) = with_item id (lacking kind) s

-- the edits that add an item
abbrev pub adds : Edit → Bool
adds (AddExif id tiff) = true
adds (AddXmp id text) = true
adds (Thumb id donor) = true
adds _ = false

-- those that give an item other properties, and do not only take some
abbrev pub reshapes : Edit → Bool
reshapes (Rotate id quarters) = true
reshapes (Mirror id axis) = true
reshapes (Crop id x y w h) = true
reshapes _ = false

-- ---- items

-- no item has the id
abbrev pub is_absent : ℕ → ItemStore → Bool
is_absent id s = not (list_any (λ x. x == id) (ids_of s.items))

-- the item with the id passes a test
abbrev pub item_is : (Item → Bool) → ℕ → ItemStore → Bool
item_is test id s = list_any (λ (i : Item). (i.id == id) && test i) s.items

-- the primary item passes a test
abbrev pub primary_is : (Item → Bool) → ItemStore → Bool
primary_is test s = item_is test s.primary s

-- an item that is no picture: `Exif`, `mime` and `uri ` of ISO/IEC 14496-12 and ISO/IEC 23008-12
abbrev pub is_metadata : Item → Bool
is_metadata i = is_kind i.kind (four "Exif") || is_kind i.kind (four "mime") || is_kind i.kind (four "uri ")

abbrev pub is_hidden : Item → Bool
is_hidden i = i.hidden

-- a thumbnail or an auxiliary picture of another item
abbrev pub is_minor : Item → Bool
is_minor i = list_any (λ (r : RefList). is_minor_kind r.kind) i.refs

-- a picture that is made of others, or needs others
abbrev pub is_derived : Item → Bool
is_derived i =
    list_any (λ (r : RefList). is_need r.kind) i.refs
    || is_kind i.kind (four "grid") || is_kind i.kind (four "iovl") || is_kind i.kind (four "iden")

-- an item with a property of the type
abbrev pub has_kind : FourCc → Item → Bool
has_kind kind i = list_any (is_of kind) i.props

-- one with an essential property of the type
abbrev pub has_essential : FourCc → Item → Bool
has_essential kind i = list_any (λ (h : Held). is_of kind h && h.essential) i.props

-- ---- reasons: each is one test of a store and an edit, with the edits that it can speak against

-- the edit names no item
abbrev pub names_none : ItemStore → Edit → Bool
names_none s e = is_absent (named e) s

-- the primary item would go, or be hidden
abbrev pub takes_primary : ItemStore → Edit → Bool
takes_primary s (Remove id) = s.primary == id
takes_primary s (Hide id) = s.primary == id
takes_primary s _ = false

-- the least id of another item that needs the one that would go
abbrev pub needer : ItemStore → Edit → Option ℕ
needer s (Remove id) = needed_by id s.items
needer s _ = None

-- metadata would be treated as a picture, or become a thumbnail
abbrev pub pictures_metadata : ItemStore → Edit → Bool
pictures_metadata s (AddExif id tiff) = item_is is_metadata id s
pictures_metadata s (AddXmp id text) = item_is is_metadata id s
pictures_metadata s (Thumb id donor) = item_is is_metadata id s || primary_is is_metadata donor
pictures_metadata s (Primary id) = item_is is_metadata id s
pictures_metadata s (Rotate id quarters) = item_is is_metadata id s
pictures_metadata s (Mirror id axis) = item_is is_metadata id s
pictures_metadata s (Crop id x y w h) = item_is is_metadata id s
pictures_metadata s _ = false

-- a hidden item would be shown as the picture
abbrev pub shows_hidden : ItemStore → Edit → Bool
shows_hidden s (Primary id) = item_is is_hidden id s
shows_hidden s _ = false

-- a minor item would be shown as the picture, or get a thumbnail
abbrev pub raises_minor : ItemStore → Edit → Bool
raises_minor s (Thumb id donor) = item_is is_minor id s
raises_minor s (Primary id) = item_is is_minor id s
raises_minor s _ = false

-- the thumbnail would need other items
abbrev pub takes_derived : Edit → Bool
takes_derived (Thumb id donor) = primary_is is_derived donor
takes_derived _ = false

-- the size of the picture is not known
abbrev pub crops_unsized : ItemStore → Edit → Bool
crops_unsized s (Crop id x y w h) = item_is (λ i. is_none (picture_size_of i)) id s
crops_unsized s _ = false

-- the window is empty or reaches beyond the picture
abbrev pub crops_outside : ItemStore → Edit → Bool
crops_outside s (Crop id x y w h) = item_is (λ i. is_outside x y w h (picture_size_of i)) id s
crops_outside s _ = false

-- a turn of other than one, two or three quarters
abbrev pub turns_wrongly : Edit → Bool
turns_wrongly (Rotate id quarters) = (quarters == 0) || nat_lt 3 quarters
turns_wrongly _ = false

-- an axis other than 0 and 1
abbrev pub mirrors_wrongly : Edit → Bool
mirrors_wrongly (Mirror id axis) = nat_lt 1 axis
mirrors_wrongly _ = false

-- the item has none of the properties that would go
abbrev pub drops_none : ItemStore → Edit → Bool
drops_none s (Drop id kind) = item_is (λ i. not (has_kind kind i)) id s
drops_none s _ = false

-- an essential property would go
abbrev pub drops_essential : ItemStore → Edit → Bool
drops_essential s (Drop id kind) = item_is (has_essential kind) id s
drops_essential s _ = false

-- ---- reasons that speak of the store that the edit would make

-- the item has too many properties
abbrev pub fills_props : ItemStore → Edit → Bool
fills_props s e = reshapes e && item_is (λ i. nat_lt limits.PROPS (length i.props)) (named e) (step s e)

-- the items have too many distinct ones
abbrev pub fills_kinds : ItemStore → Edit → Bool
fills_kinds s e = (reshapes e || adds e) && nat_lt limits.KINDS (length (table_of (step s e)))

-- there are too many items
abbrev pub fills_items : ItemStore → Edit → Bool
fills_items s e = adds e && nat_lt limits.ITEMS (length (step s e).items)

-- no id is left for the item; this speaks of the store before the edit
abbrev pub fills_ids : ItemStore → Edit → Bool
fills_ids s e = adds e && is_none (next_id_of s)

-- the items have too many bytes
abbrev pub fills_body : ItemStore → Edit → Bool
fills_body s e = adds e && nat_lt limits.BODY (body_sum (step s e).items)

-- the `meta` box is too long
abbrev pub fills_meta : ItemStore → Edit → Bool
fills_meta s e = (reshapes e || adds e) && nat_lt limits.META (meta_len (step s e))

-- ---- the order of the reasons

-- a reason where it holds
abbrev pub when : Bool → Reason → Option Reason
when true reason = Some reason
when false reason = None

-- a reason, or where there is none, what is told instead
infixr 10 ◌or_else◌
abbrev pub ◌or_else◌ : Option Reason → Option Reason → Option Reason
(Some reason) or_else rest = Some reason
None or_else rest = rest

-- the first reason against an edit, in the order of the reasons
abbrev pub why : ItemStore → Edit → Option Reason
why s e =
    when (names_none s e) reasons.NoItem
    or_else when (takes_primary s e) reasons.IsPrimary
    or_else option_map (λ by. reasons.Needed by) (needer s e)
    or_else when (pictures_metadata s e) reasons.NotImage
    or_else when (shows_hidden s e) reasons.IsHidden
    or_else when (raises_minor s e) reasons.IsMinor
    or_else when (takes_derived e) reasons.DonorDerived
    or_else when (crops_unsized s e) reasons.NoSize
    or_else when (crops_outside s e) reasons.OutsidePicture
    or_else when (turns_wrongly e) reasons.BadTurn
    or_else when (mirrors_wrongly e) reasons.BadAxis
    or_else when (drops_none s e) reasons.NoProperty
    or_else when (drops_essential s e) reasons.IsEssential
    or_else when (fills_props s e) reasons.PropsFull
    or_else when (fills_kinds s e) reasons.KindsFull
    or_else when (fills_items s e) reasons.ItemsFull
    or_else when (fills_ids s e) reasons.IdsFull
    or_else when (fills_body s e) reasons.BodyFull
    or_else when (fills_meta s e) reasons.MetaFull
    or_else None
