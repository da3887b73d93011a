-- What is true of canonical files.
use Rattle.std.specs.Prelude.{ℕ, suc, ◌≡◌, ◌<◌, List, length, slice_get, Some}
use Rattle.hf_box.specs.Head.{box}
use Rattle.hf_box.specs.Literals.{four}
use Rattle.hf_loc.specs.Iloc.{offset_width, iloc_body}
use Rattle.hf_table.specs.Numbered.{Stands}
use Rattle.hf_store.specs.Layout.{own, entries_of, meta_body}
use Rattle.hf_store.specs.Store.{Prop, Item, ItemStore}
use Rattle.hf_store.specs.Table.{number_of, lists_of, table_of}
use Rattle.hf_store.specs.Valid.{body_sum, Valid}
use Rattle.hf_plan.specs.Canon.{Canon}
use Rattle.hf_plan.specs.Lay.{Lay}
use Rattle.hf_plan.specs.Places.{source_of, StandsAt}
use Rattle.hf_plan.specs.Plan.{start_of, IsFirstUse, Planned, IsNumber, IsPlan}

-- a valid store has a canonical file
abbrev pub HasCanon : Type 0
HasCanon = (s : ItemStore) → Valid s → (F : List ℕ) × Canon s F

-- a store has one canonical file at most
abbrev pub OneCanon : Type 0
OneCanon = (s : ItemStore) (F G : List ℕ) → Canon s F → Canon s G → F ≡ G

-- offsets of four bytes make a shorter file than offsets of eight where some item has bytes
abbrev pub NarrowIsShorter : Type 0
NarrowIsShorter = (s : ItemStore) (F G : List ℕ) → Lay s 4 F → Lay s 8 G → 0 < body_sum s.items → length F < length G

-- and one as long where none has
abbrev pub NarrowIsAsLong : Type 0
NarrowIsAsLong = (s : ItemStore) (F G : List ℕ) → Lay s 4 F → Lay s 8 G → body_sum s.items ≡ 0 → length F ≡ length G

-- a plan is that of a file of its store
pub record IsOfFile (s : ItemStore) (p : Planned) (F : List ℕ) : Type 0 where
  -- the width of offsets, and the length
  pub lay : Lay s (offset_width p.long) F
  pub total : length F ≡ p.total
  -- the lengths of its boxes, of which two have offsets in them
  pub meta : length (box (four "meta") (meta_body own (offset_width p.long) (length F) s)) ≡ p.sizes.meta
  pub iloc : length (box (four "iloc") (iloc_body p.wide (offset_width p.long) (entries_of own (length F) s.items))) ≡ p.sizes.iloc
  -- the bytes of each item stand where the plan says
  pub start : (i n : ℕ) (item : Item) → slice_get s.items i ≡ Some item → slice_get p.starts i ≡ Some (Some n)
      → StandsAt n item.bytes (source_of F s.items item)

abbrev pub PlanIsCanon : Type 0
PlanIsCanon = (s : ItemStore) (p : Planned) (F : List ℕ) → Valid s → IsPlan s p → Canon s F → IsOfFile s p F

-- a plan tells of each item and of each property of a store what stands in the file
pub record TellsAll (s : ItemStore) (p : Planned) : Type 0 where
  pub starts : length p.starts ≡ length s.items
  pub start : (i : ℕ) (item : Item) → slice_get s.items i ≡ Some item → slice_get p.starts i ≡ Some (start_of own p.total s.items item)
  pub kinds : length p.firsts ≡ length (table_of s)
  -- the k-th box of `ipco` has the property that is first used there
  pub first : (k : ℕ) (place : ℕ × ℕ) → slice_get p.firsts k ≡ Some place → (q : Prop) × (slice_get (table_of s) k ≡ Some q) × IsFirstUse s place q
  -- the number of a property is the place of its box in `ipco`, counted from 1
  pub number : (i j : ℕ) (q : Prop) → Stands (lists_of s) i j q
      → IsNumber p i j (number_of q (table_of s)) × ((n : ℕ) × (number_of q (table_of s) ≡ suc n) × (slice_get (table_of s) n ≡ Some q))

abbrev pub PlanTellsAll : Type 0
PlanTellsAll = (s : ItemStore) (p : Planned) → IsPlan s p → TellsAll s p

-- a store has one plan at most
abbrev pub OnePlan : Type 0
OnePlan = (s : ItemStore) (p q : Planned) → IsPlan s p → IsPlan s q → p ≡ q
