-- The offsets that are written for the items of a store, counted from item to item.
use Rattle.std.specs.Prelude.{◌≡◌, ◌+◌, ◌-◌, ◌<◌, ◌≤◌, ℕ, List, length, drop, slice_get, Some, if◌then◌else◌}
use Rattle.hf_store.specs.Counts.{Counts, no_counts, plus, counts_of_item, counts_of_items, counts_of_groups, counts_of, counts_before}
use Rattle.hf_store.specs.Layout.{own, in_idat, offset_of}
use Rattle.hf_store.specs.Lists.{RisesFrom}
use Rattle.hf_store.specs.Store.{Item, ItemStore, ids_of}

-- the offset of an item with these counts before it, in a file of so many bytes that ends with so many bytes in `mdat`
abbrev pub offset_by : ℕ → ℕ → Counts → Item → ℕ
offset_by file_len mdat before i = if in_idat i then before.idat else file_len - mdat + before.mdat

-- ---- laws

-- each item has the offset that the counts of those before it tell
abbrev pub OffsetsAreCounted : Type 0
OffsetsAreCounted =
    (s : ItemStore) (file_len k : ℕ) (i : Item) → RisesFrom ◌<◌ 0 (ids_of s.items) → (counts_of s).mdat ≤ file_len → slice_get s.items k ≡ Some i
    → offset_of own file_len s.items i ≡ offset_by file_len (counts_of s).mdat (counts_before k s.items) i

-- what a loop over the items counts: nothing before the first one
abbrev pub NoneBeforeTheFirst : Type 0
NoneBeforeTheFirst = (is : List Item) → counts_before 0 is ≡ no_counts

-- then those of each item more
abbrev pub OneMoreBeforeTheNext : Type 0
OneMoreBeforeTheNext = (is : List Item) (k : ℕ) (i : Item) → slice_get is k ≡ Some i → counts_before (k + 1) is ≡ plus (counts_before k is) (counts_of_item i)

-- in the end all
abbrev pub AllBeforeTheEnd : Type 0
AllBeforeTheEnd = (is : List Item) (k : ℕ) → length is ≤ k → counts_before k is ≡ counts_of_items is

-- and at no place more than all
abbrev pub RestIsBehind : Type 0
RestIsBehind = (s : ItemStore) (k : ℕ) → counts_of s ≡ plus (counts_before k s.items) (plus (counts_of_items (drop k s.items)) (counts_of_groups s.groups))
