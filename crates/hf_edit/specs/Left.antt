-- What edits leave as it was.
use Rattle.std.specs.Prelude.{ℕ, ◌≡◌, ◌⊎◌, ◌+◌, ◌==◌, not, List, [], ◌∷◌, ◌++◌, filter, Option, Some, None, if◌then◌else◌}
use Rattle.hf_store.specs.Lists.{IsIn, not_empty}
use Rattle.hf_store.specs.Changes.{cut_groups, is_other}
use Rattle.hf_store.specs.Store.{Item, Group, ItemStore, ids_of}
use Rattle.hf_store.specs.declared.item.RefList.{RefList}
use Rattle.hf_store.specs.Table.{table_of}
use Rattle.hf_store.specs.Valid.{Valid}
use Rattle.hf_edit.specs.Additions.{exif_item, greatest_id, primary_item, thumbnail_item, xmp_item}
use Rattle.hf_edit.specs.Edits.{Edit, Remove, AddExif, AddXmp, Thumb, Primary, Rotate, Mirror, Crop, Hide, Show, Drop, step, why}

-- all ids but one, in order
abbrev pub ids_without : ℕ → List ℕ → List ℕ
ids_without id ids = filter (λ x. not (x == id)) ids

-- what references become where the item with an id goes: that id goes from each list, and a list that is left without any goes
abbrev pub refs_without : ℕ → List RefList → List RefList
refs_without id [] = []
refs_without id (r ∷ rs) =
    let left = ids_without id r.to in
    if not_empty left then record r { to = left } ∷ refs_without id rs else refs_without id rs

-- the item with the id goes
abbrev pub Takes : Edit → ℕ → Type 0
Takes (Remove id) x = x ≡ id
Takes _ x = ⊥

-- the mark of the item with the id is set or cleared
abbrev pub Marks : Edit → ℕ → Type 0
Marks (Hide id) x = x ≡ id
Marks (Show id) x = x ≡ id
Marks _ x = ⊥

-- the item with the id gets other properties, or loses some
abbrev pub Reshapes : Edit → ℕ → Type 0
Reshapes (Rotate id quarters) x = x ≡ id
Reshapes (Mirror id axis) x = x ≡ id
Reshapes (Crop id a b w h) x = x ≡ id
Reshapes (Drop id kind) x = x ≡ id
Reshapes _ x = ⊥

-- the references that are left of these: those to an item that goes are gone, and the others are the same
abbrev pub AreLeft : Edit → List RefList → List RefList → Type 0
AreLeft (Remove id) before after = after ≡ refs_without id before
AreLeft _ before after = after ≡ before

-- an item, and what an edit leaves of it
pub record IsLeft (e : Edit) (before after : Item) : Type 0 where
  pub id : after.id ≡ before.id
  pub kind : after.kind ≡ before.kind
  pub name : after.name ≡ before.name
  pub content : after.content ≡ before.content
  pub encoding : after.encoding ≡ before.encoding
  pub uri : after.uri ≡ before.uri
  pub bytes : after.bytes ≡ before.bytes
  pub mark : (Marks e before.id → ⊥) → after.hidden ≡ before.hidden
  pub props : (Reshapes e before.id → ⊥) → after.props ≡ before.props
  pub refs : AreLeft e before.refs after.refs

-- the ids of the items that are left, in their order
abbrev pub AreIdsLeft : Edit → List ℕ → List ℕ → Type 0
AreIdsLeft (Remove id) before after = after ≡ ids_without id before
AreIdsLeft _ before after = after ≡ before

-- the thumbnail that comes, if the other store has a primary item
abbrev pub thumbnail_coming : Option Item → ℕ → ℕ → List Item
thumbnail_coming None id next = []
thumbnail_coming (Some picture) id next = thumbnail_item picture id next ∷ []

-- the item that an edit adds to a store, if it adds one: its id is one more than the greatest of an item or a group
abbrev pub coming : ItemStore → Edit → List Item
coming s (AddExif id tiff) = exif_item tiff id (greatest_id s + 1) ∷ []
coming s (AddXmp id text) = xmp_item text id (greatest_id s + 1) ∷ []
coming s (Thumb id donor) = thumbnail_coming (primary_item donor) id (greatest_id s + 1)
coming s _ = []

-- the groups that are left: only a removed item goes from them
abbrev pub AreGroupsLeft : Edit → List Group → List Group → Type 0
AreGroupsLeft (Remove id) before after = after ≡ cut_groups (is_other id) before
AreGroupsLeft _ before after = after ≡ before

-- the primary item that is left
abbrev pub IsPrimaryLeft : Edit → ℕ → ℕ → Type 0
IsPrimaryLeft (Primary id) before after = after ≡ id
IsPrimaryLeft _ before after = after ≡ before

-- a store, and what an edit leaves of it beside what each item has
pub record IsRestLeft (e : Edit) (before after : ItemStore) : Type 0 where
  pub brands : after.brands ≡ before.brands
  pub primary : IsPrimaryLeft e before.primary after.primary
  -- an item that comes stands behind those that are left
  pub ids : (left : List ℕ) × AreIdsLeft e (ids_of before.items) left × (ids_of after.items ≡ left ++ ids_of (coming before e))
  pub groups : AreGroupsLeft e before.groups after.groups

-- the store that a thumbnail is taken from is valid
abbrev pub IsGoodEdit : Edit → Type 0
IsGoodEdit (Thumb id donor) = Valid donor
IsGoodEdit _ = Unit {0}

-- ---- laws

-- an edit against which there is no reason leaves a valid store valid
abbrev pub StepsKeepValidity : Type 0
StepsKeepValidity = (s : ItemStore) (e : Edit) → Valid s → IsGoodEdit e → why s e ≡ None → Valid (step s e)

-- an item that an edit does not take away is there after it, with all that the edit does not touch
abbrev pub UntouchedItemsStay : Type 0
UntouchedItemsStay =
    (s : ItemStore) (e : Edit) (i : Item) → IsIn i s.items → (Takes e i.id → ⊥)
    → (j : Item) × IsIn j (step s e).items × IsLeft e i j

-- the item that an edit adds is there
abbrev pub AddedItemsCome : Type 0
AddedItemsCome = (s : ItemStore) (e : Edit) (j : Item) → IsIn j (coming s e) → IsIn j (step s e).items

-- and no other item is there
abbrev pub NoItemComes : Type 0
NoItemComes =
    (s : ItemStore) (e : Edit) (j : Item) → IsIn j (step s e).items
    → ((i : Item) × IsIn i s.items × IsLeft e i j) ⊎ IsIn j (coming s e)

-- and all else stays
abbrev pub RestStays : Type 0
RestStays = (s : ItemStore) (e : Edit) → IsRestLeft e s (step s e)

-- metadata that comes has no properties, so the distinct properties of all items stay
abbrev pub MetadataHasNoProps : Type 0
MetadataHasNoProps =
    (s : ItemStore) (id : ℕ) (bytes : List ℕ)
    → (table_of (step s (AddExif id bytes)) ≡ table_of s) × (table_of (step s (AddXmp id bytes)) ≡ table_of s)
