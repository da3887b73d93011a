-- What the types of the code stand for.
use Rattle.std.specs.Prelude.{List, map}
use Rattle.hf_base.specs.Located.{Located as Stated}
use Rattle.hf_extent.specs.declared.items.Located.{Located}

abbrev pub item_seen : Located → Stated
item_seen r = record { id = r.id; method = r.method; dref = r.dref; base = r.base; extents = r.extents.now; sources = r.sources }

abbrev pub items_seen : List Located → List Stated
items_seen items = map item_seen items
