-- The home of a data item: the data item whose bytes in `mdat` are its bytes.
use Rattle.std.specs.Prelude.{◌≡◌, true, List}
use Rattle.hf_store.specs.Lists.{IsIn}
use Rattle.hf_store.specs.Store.{Item}
use Rattle.hf_store.specs.Layout.{Homes, is_data_item}

-- among these items one is the home of i: it has the same bytes, and is its own home
pub record HasHome (home : Homes) (is : List Item) (i : Item) : Type 0 where
  pub at : Item
  pub among : IsIn at is
  pub data_item : is_data_item at ≡ true
  pub itself : home is at ≡ at.id
  pub found : home is i ≡ at.id
  pub same : at.bytes ≡ i.bytes

-- each data item has a home
abbrev pub AreHomes : Homes → Type 0
AreHomes home = (is : List Item) (i : Item) → IsIn i is → is_data_item i ≡ true → HasHome home is i
