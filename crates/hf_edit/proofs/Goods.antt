-- Items and groups stay good among other items that have the same ids, or more.
use Rattle.std.proofs.Common.{◌≤◌, ℕ, Bool, List, length}
use Rattle.std.specs.List.{AllByRecursion}
use Rattle.hf_base.specs.declared.limits.TheConstants as limits
use Rattle.hf_prop.specs.declared.held.Held.{Held}
use Rattle.hf_store.specs.Lists.{IsIn}
use Rattle.hf_store.specs.Store.{Item, Group, ids_of}
use Rattle.hf_store.specs.declared.item.RefList.{RefList}
use Rattle.hf_store.specs.Valid.{IsFour, IsGoodRef, IsGoodItem, IsGoodGroup}
use Rattle.hf_edit.proofs.Members.{all_same}

-- a list of properties that an item may have
pub record AreGoodProps (held : List Held) : Type 0 where
  pub few : length held ≤ limits.PROPS
  pub kinds : AllByRecursion (λ (h : Held). IsFour h.prop.kind) held

module _ (is js : List Item) (more : (id : ℕ) → IsIn id (ids_of is) → IsIn id (ids_of js)) where
  good_ref : (r : RefList) → IsGoodRef is r → IsGoodRef js r
  good_ref r good = record {
    kind = good.kind;
    not_iloc = good.not_iloc;
    some = good.some;
    links = good.links;
    to = all_same (λ id. IsIn id (ids_of is)) (λ id. IsIn id (ids_of js)) r.to good.to more;
  }

  pub good_group : (g : Group) → IsGoodGroup is g → IsGoodGroup js g
  good_group g good = record {
    kind = good.kind;
    version = good.version;
    flags = good.flags;
    id = good.id;
    some = good.some;
    entities = all_same (λ id. IsIn id (ids_of is)) (λ id. IsIn id (ids_of js)) g.entities good.entities more;
  }

  -- with another mark and other properties too
  pub good_changed : (i : Item) (hidden : Bool) (held : List Held) → IsGoodItem is i → AreGoodProps held
      → IsGoodItem js (record i { hidden = hidden; props = held })
  good_changed i hidden held good props = record {
    id = good.id;
    kind = good.kind;
    name = good.name;
    content = good.content;
    encoding = good.encoding;
    uri = good.uri;
    only_mime = good.only_mime;
    only_uri = good.only_uri;
    props = props.few;
    prop_kinds = props.kinds;
    refs = all_same (IsGoodRef is) (IsGoodRef js) i.refs good.refs good_ref;
    kinds_rise = good.kinds_rise;
    fits = good.fits;
  }

  pub good_item : (i : Item) → IsGoodItem is i → IsGoodItem js i
  good_item i good = good_changed i i.hidden i.props good (record { few = good.props; kinds = good.prop_kinds })

  pub all_good_items : (ks : List Item) → AllByRecursion (IsGoodItem is) ks → AllByRecursion (IsGoodItem js) ks
  all_good_items ks good = all_same (IsGoodItem is) (IsGoodItem js) ks good good_item

  pub all_good_groups : (gs : List Group) → AllByRecursion (IsGoodGroup is) gs → AllByRecursion (IsGoodGroup js) gs
  all_good_groups gs good = all_same (IsGoodGroup is) (IsGoodGroup js) gs good good_group
