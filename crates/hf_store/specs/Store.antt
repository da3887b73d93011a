-- What a file says of its items, without where anything lies in it: no offset, extent, construction method or
-- reference of type `iloc`. The terms are those of ISO/IEC 14496-12 and ISO/IEC 23008-12.
use Rattle.std.specs.Prelude.{ℕ, Bool, List, map}
use Rattle.hf_base.specs.declared.four.FourCc.{FourCc}
use Rattle.hf_head.specs.Ftyp.{Brands}
pub use Rattle.hf_links.specs.Grpl.{Group}
pub use Rattle.hf_prop.specs.declared.prop.Prop.{Prop}
pub use Rattle.hf_prop.specs.declared.held.Held.{Held}
pub use Rattle.hf_store.specs.declared.item.RefList.{RefList}

-- an item: what its `infe` says, its bytes, its properties in the order of their associations, its references
pub record Item : Type 0 where
  pub id : ℕ
  pub kind : FourCc
  pub hidden : Bool
  pub name : List ℕ
  pub content : List ℕ
  pub encoding : List ℕ
  pub uri : List ℕ
  pub bytes : List ℕ
  pub props : List Held
  pub refs : List RefList

-- the brands, the id of the primary item, the items by rising id, the groups by rising id
pub record ItemStore : Type 0 where
  pub brands : Brands
  pub primary : ℕ
  pub items : List Item
  pub groups : List Group

abbrev pub ids_of : List Item → List ℕ
ids_of is = map (λ (i : Item). i.id) is
