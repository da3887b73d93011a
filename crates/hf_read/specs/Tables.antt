-- The tables of `meta`: the entries on items, and which of them are there where a box is missing.
use Rattle.std.specs.Prelude.{◌≡◌, ℕ, List, [], Option, Some, None, Result, Ok}
use Rattle.hf_base.specs.Located.{Located, located_item, located_items}
use Rattle.hf_base.specs.declared.fault.ReadRefusal.{ReadRefusal}
use Rattle.hf_base.specs.declared.loc.Loc.{Loc}
use Rattle.hf_base.specs.declared.loc.RefBox.{RefBox}
use Rattle.hf_box.specs.Boxes.{BoxAt}
use Rattle.hf_info.specs.Infe.{Info}
use Rattle.hf_info.specs.Iinf.{info_ids}
use Rattle.hf_links.specs.Grpl.{Group, IsGrpl, grpl_at}
use Rattle.hf_links.specs.Iref.{IsIref, iref_at}
use Rattle.hf_loc.specs.Iloc.{IsIloc, iloc_at}
use Rattle.hf_prop.specs.declared.iprp.Iprp.{Iprp}
use Rattle.hf_prop.specs.Iprp.{IsIprp, iprp_at}
use Rattle.hf_read.specs.Rising.{by_rising}

-- what stands in the boxes of `meta`, in file order
pub record Tables : Type 0 where
  pub infos : List Info
  pub locs : List Loc
  pub links : List RefBox
  pub iprp : Iprp
  pub groups : List Group

-- ---- a missing box has no entries

abbrev pub AreLocs : Option BoxAt → List Loc → Type 0
AreLocs None locs = locs ≡ []
AreLocs (Some b) locs = IsIloc b.body locs

abbrev pub AreLinks : Option BoxAt → List RefBox → Type 0
AreLinks None links = links ≡ []
AreLinks (Some b) links = IsIref b links

abbrev pub no_iprp : Iprp
no_iprp = record { props = []; assocs = [] }

abbrev pub AreProps : Option BoxAt → Iprp → Type 0
AreProps None v = v ≡ no_iprp
AreProps (Some b) v = IsIprp b v

abbrev pub AreGroups : Option BoxAt → List Group → Type 0
AreGroups None groups = groups ≡ []
AreGroups (Some b) groups = IsGrpl b groups

-- ---- the same, read from left to right

abbrev pub locs_in : Option BoxAt → Result (List Loc) ReadRefusal
locs_in None = Ok []
locs_in (Some b) = iloc_at b.at b.body

abbrev pub links_in : Option BoxAt → Result (List RefBox) ReadRefusal
links_in None = Ok []
links_in (Some b) = iref_at b

abbrev pub iprp_in : Option BoxAt → Result Iprp ReadRefusal
iprp_in None = Ok no_iprp
iprp_in (Some b) = iprp_at b

abbrev pub groups_in : Option BoxAt → Result (List Group) ReadRefusal
groups_in None = Ok []
groups_in (Some b) = grpl_at b

-- ---- the items

-- the entries on items by rising id
abbrev pub infos_by_id : List Info → List Info
infos_by_id infos = by_rising (λ (i : Info). i.id) infos

-- the ids of the items, rising
abbrev pub item_ids : List Info → List ℕ
item_ids infos = info_ids (infos_by_id infos)

-- an item with its entry of `iloc` and its references of type `iloc`
abbrev pub located_in : Tables → Info → Located
located_in t info = located_item t.locs t.links info.id

-- and all items, by rising id
abbrev pub items_in : Tables → List Located
items_in t = located_items (item_ids t.infos) t.locs t.links
