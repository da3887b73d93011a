-- What the types of the code stand for.
use Rattle.std.specs.Prelude.{List, map}
use Rattle.hf_pieces.specs.Bytes.{joined}
use Rattle.hf_head.specs.Ftyp.{brands_of}
use Rattle.hf_links.specs.Grpl.{groups_of}
use Rattle.hf_store.specs.Store.{Item as StatedItem, ItemStore}
use Rattle.hf_store.specs.declared.item.Item.{Item}
use Rattle.hf_store.specs.declared.store.Parts.{Parts}
use Rattle.hf_store.specs.declared.store.Store.TheInside.{Inside}

abbrev pub item_of : Item → StatedItem
item_of i = record {
  id = i.id;
  kind = i.kind;
  hidden = i.hidden;
  name = i.name.now;
  content = i.content.now;
  encoding = i.encoding.now;
  uri = i.uri.now;
  bytes = joined i.body;
  props = i.props;
  refs = i.refs;
}

abbrev pub items_of : List Item → List StatedItem
items_of is = map item_of is

-- the store that these parts are
abbrev pub stated : Parts → ItemStore
stated p = record { brands = brands_of p.brands; primary = p.primary; items = items_of p.items; groups = groups_of p.groups }

abbrev pub store_of : Inside → ItemStore
store_of s = record { brands = brands_of s.brands; primary = s.primary; items = items_of s.items.items; groups = groups_of s.groups.items }
