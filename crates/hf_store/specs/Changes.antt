-- What changes make of a store. These rules are this project's own.
use Rattle.std.specs.Prelude.{ℕ, zero, suc, ◌==◌, Bool, not, ◌&&◌, ◌||◌, List, [], ◌∷◌, ◌++◌, length, map, filter, get_or}
use Rattle.hf_base.specs.declared.four.FourCc.{FourCc}
use Rattle.hf_store.specs.Lists.{not_empty}
use Rattle.hf_table.specs.Held.{is_among, without_kind, without_optional}
use Rattle.hf_store.specs.Store.{Held, RefList, Item, Group, ItemStore, ids_of}

-- the id of the item at a place
abbrev pub id_at : ℕ → List Item → ℕ
id_at i is = get_or (ids_of is) i 0

-- ---- one part changes

abbrev pub with_primary : ℕ → ItemStore → ItemStore
with_primary id s = record s { primary = id }

-- a list in which what stands at a place is changed
abbrev pub changed_at : {A : Type 0} → (A → A) → ℕ → List A → List A
changed_at change i [] = []
changed_at change zero (x ∷ xs) = change x ∷ xs
changed_at change (suc i) (x ∷ xs) = x ∷ changed_at change i xs

abbrev pub hide : Bool → Item → Item
hide hidden i = record i { hidden = hidden }

-- the item at a place is hidden, or is not
abbrev pub with_hidden : ℕ → Bool → ItemStore → ItemStore
with_hidden i hidden s = record s { items = changed_at (hide hidden) i s.items }

abbrev pub unnamed : Item → Item
unnamed i = record i { name = [] }

-- no item has a name
abbrev pub without_names : ItemStore → ItemStore
without_names s = record s { items = map unnamed s.items }

abbrev pub holding : List Held → Item → Item
holding held i = record i { props = held }

-- other properties of the item at a place
abbrev pub with_props : ℕ → List Held → ItemStore → ItemStore
with_props i held s = record s { items = changed_at (holding held) i s.items }

abbrev pub lacking : FourCc → Item → Item
lacking kind i = record i { props = without_kind kind i.props }

-- the properties of one type go from the item at a place
abbrev pub without_props : ℕ → FourCc → ItemStore → ItemStore
without_props i kind s = record s { items = changed_at (lacking kind) i s.items }

abbrev pub lacking_optional : FourCc → Item → Item
lacking_optional kind i = record i { props = without_optional kind i.props }

-- of the item at a place, the properties of one type go that are not essential
abbrev pub without_optionals : ℕ → FourCc → ItemStore → ItemStore
without_optionals i kind s = record s { items = changed_at (lacking_optional kind) i s.items }

-- one more item, behind the others
abbrev pub added : Item → ItemStore → ItemStore
added i s = record s { items = s.items ++ i ∷ [] }

-- ---- items go

-- the references of a list to the items whose ids stay
abbrev pub cut_list : (ℕ → Bool) → RefList → RefList
cut_list stays r = record r { to = filter stays r.to }

-- reference lists of these; one that would be empty goes
abbrev pub cut_refs : (ℕ → Bool) → List RefList → List RefList
cut_refs stays rs = filter (λ (r : RefList). not_empty r.to) (map (cut_list stays) rs)

abbrev pub cut_item : (ℕ → Bool) → Item → Item
cut_item stays i = record i { refs = cut_refs stays i.refs }

-- a group stays where an entity is left, and where none is lost or nothing stands after the entities
abbrev pub group_stays : (ℕ → Bool) → Group → Bool
group_stays stays g =
    let left = filter stays g.entities in
    not_empty left && ((length left == length g.entities) || not (not_empty g.tail))

abbrev pub cut_group : (ℕ → Bool) → Group → Group
cut_group stays g = record g { entities = filter stays g.entities }

abbrev pub cut_items : (ℕ → Bool) → List Item → List Item
cut_items stays is = map (cut_item stays) (filter (λ (i : Item). stays i.id) is)

abbrev pub cut_groups : (ℕ → Bool) → List Group → List Group
cut_groups stays gs = map (cut_group stays) (filter (group_stays stays) gs)

-- the store with the items alone whose ids stay: the others go, and their ids from all references and groups
unfoldable pub cut : (ℕ → Bool) → ItemStore → ItemStore
cut stays s = record {
  brands = s.brands;
  primary = s.primary;
  items = cut_items stays s.items;
  groups = cut_groups stays s.groups;
}

abbrev pub is_other : ℕ → ℕ → Bool
is_other id x = not (x == id)

-- the store without an item
abbrev pub removed : ℕ → ItemStore → ItemStore
removed id s = cut (is_other id) s

-- the store with the items alone whose ids are listed
abbrev pub kept_only : List ℕ → ItemStore → ItemStore
kept_only ids s = cut (is_among ids) s
