-- Items of what was read for each of them.
use Rattle.std.specs.Prelude.{ℕ, List, [], ◌∷◌}
use Rattle.hf_info.specs.Infe.{Info}
use Rattle.hf_prop.specs.declared.held.Held.{Held}
use Rattle.hf_store.specs.Store.{Item}
use Rattle.hf_store.specs.declared.item.RefList.{RefList}

-- the item of an entry of `iinf`, with these bytes, properties and references
abbrev pub item_with : Info → List ℕ → List Held → List RefList → Item
item_with info bytes props refs = record {
  id = info.id;
  kind = info.kind;
  hidden = info.hidden;
  name = info.name;
  content = info.content;
  encoding = info.encoding;
  uri = info.uri;
  bytes = bytes;
  props = props;
  refs = refs;
}

-- an item for each entry, as long as there are bytes, properties and references
abbrev pub items_with : List Info → List (List ℕ) → List (List Held) → List (List RefList) → List Item
items_with (info ∷ infos) (bytes ∷ bodies) (held ∷ props) (lists ∷ refs) = item_with info bytes held lists ∷ items_with infos bodies props refs
items_with _ _ _ _ = []
