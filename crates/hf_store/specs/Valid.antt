-- Which stores are valid. The limits are this project's own.
use Rattle.std.specs.Prelude.{ℕ, ◌≡◌, ◌≢◌, ◌⊎◌, ◌%◌, ◌^◌, ◌<◌, ◌≤◌, List, [], ◌∷◌, length, map, IsTrue}
use Rattle.std.specs.List.{AllByRecursion, sum_by}
use Rattle.std.specs.Ordering.{nat_cmp}
use Rattle.std.specs.declared.cmp.Ordering.TheVariants.{Less}
use Rattle.std.specs.Cmp.Lexicographic.{slice_cmp}
use Rattle.hf_base.specs.Entries.{HasNoZero}
use Rattle.hf_base.specs.declared.four.FourCc.{FourCc}
use Rattle.hf_base.specs.declared.limits.TheConstants as limits
use Rattle.hf_box.specs.Head.{box}
use Rattle.hf_store.specs.Lists.{IsIn, RisesFrom, Rises}
use Rattle.hf_store.specs.Store.{Held, RefList, Item, Group, ItemStore, ids_of}
use Rattle.hf_box.specs.Literals.{four}
use Rattle.hf_head.specs.Ftyp.{Brands}
use Rattle.hf_store.specs.Table.{table_of}
use Rattle.hf_store.specs.Derived.{inputs, fits, input_pairs, IsEndless}
use Rattle.hf_store.specs.Layout.{own, meta_body}

-- the bytes of all items, counted
unfoldable pub body_sum : List Item → ℕ
body_sum is = sum_by (λ (i : Item). length i.bytes) is

-- the length of the `meta` box that is laid with offsets of eight bytes
unfoldable pub meta_len : ItemStore → ℕ
meta_len s = length (box (four "meta") (meta_body own 8 0 s))

-- a type, brand or handler has four bytes
abbrev pub IsFour : FourCc → Type 0
IsFour kind = length kind.0 ≡ 4

-- types rise by their bytes
abbrev pub IsBelow : FourCc → FourCc → Type 0
IsBelow a b = slice_cmp nat_cmp a.0 b.0 ≡ Less

-- the brand is one of those that take four bytes each
abbrev pub HasBrand : FourCc → List ℕ → Type 0
HasBrand brand (a ∷ b ∷ c ∷ d ∷ rest) = (brand.0 ≡ a ∷ b ∷ c ∷ d ∷ []) ⊎ HasBrand brand rest
HasBrand brand _ = ⊥

-- brands of four bytes each, with `mif1` among them
pub record AreGoodBrands (b : Brands) : Type 0 where
  pub major : IsFour b.major
  pub minor : b.minor < 256 ^ 4
  pub fours : length b.compatible % 4 ≡ 0
  pub within : length b.compatible ≤ limits.FILE
  pub mif1 : (b.major ≡ four "mif1") ⊎ HasBrand (four "mif1") b.compatible

-- references to some of these items, so many at most; those of type `iloc` are no part of a store
pub record IsGoodRefWithin (most : ℕ) (is : List Item) (r : RefList) : Type 0 where
  pub kind : IsFour r.kind
  pub not_iloc : r.kind ≢ four "iloc"
  pub some : 0 < length r.to
  pub links : length r.to ≤ most
  pub to : AllByRecursion (λ id. IsIn id (ids_of is)) r.to

abbrev pub IsGoodRef : List Item → RefList → Type 0
IsGoodRef = IsGoodRefWithin limits.LINKS

-- an item among these items, with so many references of one type at most: strings without a zero byte, and only the
-- strings that its type has
pub record IsGoodItemWithin (most : ℕ) (is : List Item) (i : Item) : Type 0 where
  pub id : i.id < 256 ^ 4
  pub kind : IsFour i.kind
  pub name : HasNoZero i.name
  pub content : HasNoZero i.content
  pub encoding : HasNoZero i.encoding
  pub uri : HasNoZero i.uri
  pub only_mime : (i.kind ≡ four "mime") ⊎ ((i.content ≡ []) × (i.encoding ≡ []))
  pub only_uri : (i.kind ≡ four "uri ") ⊎ (i.uri ≡ [])
  pub props : length i.props ≤ limits.PROPS
  pub prop_kinds : AllByRecursion (λ (h : Held). IsFour h.prop.kind) i.props
  pub refs : AllByRecursion (IsGoodRefWithin most is) i.refs
  pub kinds_rise : Rises IsBelow (map (λ (r : RefList). r.kind) i.refs)
  pub fits : IsTrue (fits i.kind i.bytes (length (inputs i.refs)))

abbrev pub IsGoodItem : List Item → Item → Type 0
IsGoodItem = IsGoodItemWithin limits.LINKS

-- a group of some of these items
pub record IsGoodGroup (is : List Item) (g : Group) : Type 0 where
  pub kind : IsFour g.kind
  pub version : g.version < 256 ^ 1
  pub flags : g.flags < 256 ^ 3
  pub id : g.id < 256 ^ 4
  pub some : 0 < length g.entities
  pub entities : AllByRecursion (λ id. IsIn id (ids_of is)) g.entities

-- valid, with so many items at most, so many references of one type, and so many bytes of `meta`
pub record ValidWithin (most_items most_links most_bytes : ℕ) (s : ItemStore) : Type 0 where
  pub brands : AreGoodBrands s.brands
  -- item ids are at least 1 and rise
  pub ids_rise : RisesFrom ◌<◌ 0 (ids_of s.items)
  pub primary : IsIn s.primary (ids_of s.items)
  pub items : AllByRecursion (IsGoodItemWithin most_links s.items) s.items
  -- group ids rise; the first may be 0
  pub groups_rise : Rises ◌<◌ (map (λ (g : Group). g.id) s.groups)
  pub groups : AllByRecursion (IsGoodGroup s.items) s.groups
  -- no item is made of itself, through others or not
  pub ends : (walk : ℕ → ℕ) → IsEndless (input_pairs s.items) walk → ⊥
  pub count : length s.items ≤ most_items
  pub kinds : length (table_of s) ≤ limits.KINDS
  pub body : body_sum s.items ≤ limits.BODY
  pub meta : meta_len s ≤ most_bytes

abbrev pub Valid : ItemStore → Type 0
Valid = ValidWithin limits.ITEMS limits.LINKS limits.META

-- valid but for these three limits
abbrev pub IsSound : ItemStore → Type 0
IsSound s = (items : ℕ) × (links : ℕ) × (bytes : ℕ) × ValidWithin items links bytes s
