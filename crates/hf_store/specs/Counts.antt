-- What is counted over the items and groups of a store. The lengths of the boxes of its canonical file follow from these
-- counts, and each change of the store adds and takes those of the items that it changes.
use Rattle.std.specs.Prelude.{◌≡◌, ◌+◌, ◌^◌, ◌≤◌, ℕ, List, length, filter, take, set, slice_get, Some, nat_lt, nat_le, if◌then◌else◌}
use Rattle.std.specs.List.{sum_by, flat_map, remove, insert}
use Rattle.hf_box.specs.Written.{bit, zero_ended}
use Rattle.hf_info.specs.Infe.{content_text, uri_text}
use Rattle.hf_store.specs.Layout.{own, is_wide, info_of, all_boxes, has_bytes, has_props, with_bytes, in_idat, idat_body, mdat_body}
use Rattle.hf_store.specs.Store.{RefList, Item, Group, ItemStore}
use Rattle.hf_store.specs.Table.{props_of}
use Rattle.hf_store.specs.Valid.{body_sum}
pub use Rattle.hf_store.specs.declared.tally.Counts.{Counts}

abbrev pub no_counts : Counts
no_counts = record {
  items = 0;
  located = 0;
  wide = 0;
  strings = 0;
  links = 0;
  targets = 0;
  holders = 0;
  picks = 0;
  idat = 0;
  mdat = 0;
  groups = 0;
  entities = 0;
  tails = 0;
}

abbrev pub plus : Counts → Counts → Counts
plus a b = record {
  items = a.items + b.items;
  located = a.located + b.located;
  wide = a.wide + b.wide;
  strings = a.strings + b.strings;
  links = a.links + b.links;
  targets = a.targets + b.targets;
  holders = a.holders + b.holders;
  picks = a.picks + b.picks;
  idat = a.idat + b.idat;
  mdat = a.mdat + b.mdat;
  groups = a.groups + b.groups;
  entities = a.entities + b.entities;
  tails = a.tails + b.tails;
}

-- each count of a part is no greater
pub record HasCounts (c part : Counts) : Type 0 where
  pub items : part.items ≤ c.items
  pub located : part.located ≤ c.located
  pub wide : part.wide ≤ c.wide
  pub strings : part.strings ≤ c.strings
  pub links : part.links ≤ c.links
  pub targets : part.targets ≤ c.targets
  pub holders : part.holders ≤ c.holders
  pub picks : part.picks ≤ c.picks
  pub idat : part.idat ≤ c.idat
  pub mdat : part.mdat ≤ c.mdat
  pub groups : part.groups ≤ c.groups
  pub entities : part.entities ≤ c.entities
  pub tails : part.tails ≤ c.tails

-- the counts of all elements of a list, given those of one
abbrev pub summed : {A : Type 0} → (A → Counts) → List A → Counts
summed f xs = record {
  items = sum_by (λ x. (f x).items) xs;
  located = sum_by (λ x. (f x).located) xs;
  wide = sum_by (λ x. (f x).wide) xs;
  strings = sum_by (λ x. (f x).strings) xs;
  links = sum_by (λ x. (f x).links) xs;
  targets = sum_by (λ x. (f x).targets) xs;
  holders = sum_by (λ x. (f x).holders) xs;
  picks = sum_by (λ x. (f x).picks) xs;
  idat = sum_by (λ x. (f x).idat) xs;
  mdat = sum_by (λ x. (f x).mdat) xs;
  groups = sum_by (λ x. (f x).groups) xs;
  entities = sum_by (λ x. (f x).entities) xs;
  tails = sum_by (λ x. (f x).tails) xs;
}

-- the bytes that the strings of an item take in its `infe`: its name, and what a `mime` or a `uri ` has behind it
abbrev pub strings_of : Item → ℕ
strings_of i = length (zero_ended i.name) + length (content_text (info_of i)) + length (uri_text (info_of i))

-- the ids in reference lists
abbrev pub targets_of : List RefList → ℕ
targets_of rs = sum_by (λ (r : RefList). length r.to) rs

abbrev pub counts_of_item : Item → Counts
counts_of_item i = record no_counts {
  items = 1;
  located = bit (has_bytes i.bytes);
  wide = bit (nat_le (256 ^ 2) i.id);
  strings = strings_of i;
  links = length i.refs;
  targets = targets_of i.refs;
  holders = bit (has_props i);
  picks = length i.props;
  idat = if in_idat i then length i.bytes else 0;
  mdat = if in_idat i then 0 else length i.bytes;
}

abbrev pub counts_of_group : Group → Counts
counts_of_group g = record no_counts { groups = 1; entities = length g.entities; tails = length g.tail }

abbrev pub counts_of_items : List Item → Counts
counts_of_items is = summed counts_of_item is

abbrev pub counts_of_groups : List Group → Counts
counts_of_groups gs = summed counts_of_group gs

unfoldable pub counts_of : ItemStore → Counts
counts_of s = plus (counts_of_items s.items) (counts_of_groups s.groups)

-- those of the items before a place
abbrev pub counts_before : ℕ → List Item → Counts
counts_before k is = counts_of_items (take k is)

-- ---- laws

-- what these counts are of the layout of a store
pub record AreCounts (s : ItemStore) (c : Counts) : Type 0 where
  pub items : c.items ≡ length s.items
  pub located : c.located ≡ length (with_bytes s.items)
  pub wide : nat_lt 0 c.wide ≡ is_wide s.items
  pub links : c.links ≡ length (all_boxes s.items)
  pub targets : c.targets ≡ sum_by (λ (i : Item). targets_of i.refs) s.items
  pub holders : c.holders ≡ length (filter has_props s.items)
  pub picks : c.picks ≡ length (flat_map props_of s.items)
  pub idat : c.idat ≡ length (idat_body s.items)
  pub mdat : c.mdat ≡ length (mdat_body own s.items)
  pub body : c.idat + c.mdat ≡ body_sum s.items
  pub groups : c.groups ≡ length s.groups

abbrev pub CountsAreOfTheLayout : Type 0
CountsAreOfTheLayout = (s : ItemStore) → AreCounts s (counts_of s)

abbrev pub with_items : ItemStore → List Item → ItemStore
with_items s is = record s { items = is }

abbrev pub with_groups : ItemStore → List Group → ItemStore
with_groups s gs = record s { groups = gs }

-- an item that goes takes its counts with it
abbrev pub ItemGoes : Type 0
ItemGoes =
    (s : ItemStore) (k : ℕ) (i : Item) → slice_get s.items k ≡ Some i → plus (counts_of (with_items s (remove s.items k))) (counts_of_item i) ≡ counts_of s

-- one that comes brings its own
abbrev pub ItemComes : Type 0
ItemComes = (s : ItemStore) (k : ℕ) (i : Item) → counts_of (with_items s (insert s.items k i)) ≡ plus (counts_of s) (counts_of_item i)

-- and one that stands for another one does both
abbrev pub ItemChanges : Type 0
ItemChanges =
    (s : ItemStore) (k : ℕ) (i j : Item) → slice_get s.items k ≡ Some i
    → plus (counts_of (with_items s (set s.items k j))) (counts_of_item i) ≡ plus (counts_of s) (counts_of_item j)

-- the same of groups
abbrev pub GroupGoes : Type 0
GroupGoes =
    (s : ItemStore) (k : ℕ) (g : Group) → slice_get s.groups k ≡ Some g → plus (counts_of (with_groups s (remove s.groups k))) (counts_of_group g) ≡ counts_of s

abbrev pub GroupComes : Type 0
GroupComes = (s : ItemStore) (k : ℕ) (g : Group) → counts_of (with_groups s (insert s.groups k g)) ≡ plus (counts_of s) (counts_of_group g)

abbrev pub GroupChanges : Type 0
GroupChanges =
    (s : ItemStore) (k : ℕ) (g h : Group) → slice_get s.groups k ≡ Some g
    → plus (counts_of (with_groups s (set s.groups k h))) (counts_of_group g) ≡ plus (counts_of s) (counts_of_group h)
