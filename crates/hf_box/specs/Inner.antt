-- The boxes inside another one that are still to be taken.
use Rattle.std.specs.Prelude.{◌≡◌, ◌+◌, ◌^◌, ◌<◌, ◌≤◌, ℕ, false, List, [], length, Result, Ok, Err}
use Rattle.hf_base.specs.declared.fault.ReadRefusal.{ReadRefusal}
use Rattle.hf_base.specs.declared.limits.TheConstants.{BOXES}
use Rattle.hf_box.specs.Boxes.{BoxAt}
use Rattle.hf_box.specs.Framing.{frames_within}

-- what was read; nothing where it was refused
abbrev pub boxes_or_none : Result (List BoxAt) ReadRefusal → List BoxAt
boxes_or_none (Ok boxes) = boxes
boxes_or_none (Err fault) = []

-- the boxes that these bytes are, so many, with places counted from `at`
abbrev pub boxes_left : ℕ → ℕ → List ℕ → List BoxAt
boxes_left many at bytes = boxes_or_none (frames_within many false at bytes)

-- the bytes are so many boxes, within the limit, and all places in them are numbers of eight bytes
pub record AreInner (many at : ℕ) (bytes : List ℕ) : Type 0 where
  pub framed : frames_within many false at bytes ≡ Ok (boxes_left many at bytes)
  pub counted : length (boxes_left many at bytes) ≡ many
  pub few : many ≤ BOXES
  pub place : at + length bytes < 2 ^ 64
