-- The size of an item's picture, told of its properties as a whole: ImageSpatialExtentsProperty and ImageRotation of ISO/IEC
-- 23008-12, and CleanApertureBox of ISO/IEC 14496-12. Which of them count is this project's own rule.
use Rattle.std.specs.Prelude.{ℕ, ◌≡◌, ◌↔◌, ◌⊎◌, ◌-◌, ◌^◌, ◌%◌, ◌<◌, ◌≤◌, ◌==◌, Bool, false, List, [], ◌∷◌, ◌++◌, count_by, slice_get, Option, Some, None, IsTrue}
use Rattle.std.specs.List.{AllByRecursion}
use Rattle.hf_base.specs.declared.kinds.TheConstants.{CLAP, IROT, ISPE}
use Rattle.hf_prop.specs.Views.{size_in, turn_in, window_in}
use Rattle.hf_store.specs.Lists.{IsIn}
use Rattle.hf_store.specs.Store.{Held, Item, Prop}
use Rattle.hf_table.specs.Held.{is_of, of_kind}
use Rattle.hf_edit.specs.Pictures.{picture_size_of, turned}

-- the first property of type `ispe` states this size
abbrev pub FirstStates : List Held → ℕ × ℕ → Type 0
FirstStates hs size = (p : Prop) × (slice_get (of_kind ISPE hs) 0 ≡ Some p) × (size_in p ≡ Some size)

-- an `irot` has a turn, and a `clap` a window
pub record HasView (h : Held) : Type 0 where
  pub turn : IsTrue (is_of IROT h) → (quarters : ℕ) × (turn_in h.prop ≡ Some quarters)
  pub window : IsTrue (is_of CLAP h) → (sides : ℕ × ℕ) × (window_in h.prop ≡ Some sides)

-- the sides before the turns that count, and the properties with these turns: the window of the last `clap` and what stands
-- behind it, or without a `clap` the stated size and all properties
pub record IsBase (stated : ℕ × ℕ) (hs : List Held) (sides : ℕ × ℕ) (behind : List Held) : Type 0 where
  pub last : of_kind CLAP behind ≡ []
  pub from :
      ((behind ≡ hs) × (sides ≡ stated))
      ⊎ ((before : List Held) × (h : Held) × (hs ≡ before ++ h ∷ behind) × (window_in h.prop ≡ Some sides))

-- a turn of an odd number of quarters
abbrev pub is_odd : Option ℕ → Bool
is_odd None = false
is_odd (Some quarters) = quarters % 2 == 1

abbrev pub odd_turns : List Held → ℕ
odd_turns hs = count_by (λ (h : Held). is_odd (turn_in h.prop)) hs

-- the sides in the end, whatever they are
pub record AreSides (hs : List Held) (size : ℕ × ℕ) : Type 0 where
  pub stated : ℕ × ℕ
  pub first : FirstStates hs stated
  pub views : AllByRecursion HasView hs
  pub sides : ℕ × ℕ
  pub behind : List Held
  pub base : IsBase stated hs sides behind
  pub turns : size ≡ turned sides (odd_turns behind)

-- neither side is 0 or above 2^31 - 1
pub record AreWithin (size : ℕ × ℕ) : Type 0 where
  pub some_width : 0 < size.0
  pub width : size.0 ≤ 2 ^ 31 - 1
  pub some_height : 0 < size.1
  pub height : size.1 ≤ 2 ^ 31 - 1

-- why there is no size
pub data LacksSize (hs : List Held) : Type 0 where
  -- no property is an `ispe`
  NoExtents : of_kind ISPE hs ≡ [] → LacksSize hs
  -- the first `ispe` has no size
  BadExtents : (p : Prop) → slice_get (of_kind ISPE hs) 0 ≡ Some p → size_in p ≡ None → LacksSize hs
  -- an `irot` has no turn
  BadTurn : (h : Held) → IsIn h hs → IsTrue (is_of IROT h) → turn_in h.prop ≡ None → LacksSize hs
  -- a `clap` has no window
  BadWindow : (h : Held) → IsIn h hs → IsTrue (is_of CLAP h) → window_in h.prop ≡ None → LacksSize hs
  -- a side in the end is 0 or too long
  BadSides : (size : ℕ × ℕ) → AreSides hs size → (AreWithin size → ⊥) → LacksSize hs

-- the size of a picture with these properties, or that there is none
abbrev pub IsPictureSize : List Held → Option (ℕ × ℕ) → Type 0
IsPictureSize hs (Some size) = AreSides hs size × AreWithin size
IsPictureSize hs None = LacksSize hs

-- ---- law

abbrev pub PictureSizeIsTold : Type 0
PictureSizeIsTold = (i : Item) (answer : Option (ℕ × ℕ)) → (picture_size_of i ≡ answer) ↔ IsPictureSize i.props answer
