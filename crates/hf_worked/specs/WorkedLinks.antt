-- Worked boxes of `iref` and associations of `ipma`.
use Prim.Native.String.{String}
use Rattle.std.specs.Prelude.{ℕ, Bool, List, [], ◌∷◌}
use Rattle.hf_box.specs.Literals.{four, hex_of}
use Rattle.hf_store.specs.Store.{Prop}
use Rattle.hf_store.specs.References.{RefBox}
use Rattle.hf_store.specs.Picks.{Pick}

abbrev pub ref_box : String → ℕ → List ℕ → RefBox
ref_box kind from to = record { kind = four kind; from = from; to = to }

-- boxes in no order: of the third item two of one type, one of type `iloc`, one that leads to no item
abbrev pub scattered_boxes : List RefBox
scattered_boxes =
    ref_box "thmb" 3 (1 ∷ [])
    ∷ ref_box "cdsc" 3 (2 ∷ 9 ∷ 1 ∷ [])
    ∷ ref_box "iloc" 3 (1 ∷ [])
    ∷ ref_box "cdsc" 4 (3 ∷ [])
    ∷ ref_box "auxl" 3 (9 ∷ [])
    ∷ ref_box "cdsc" 3 (4 ∷ 2 ∷ [])
    ∷ []

abbrev pub prop : String → List ℕ → Prop
prop kind body = record { kind = four kind; body = body }

abbrev pub pick : Bool → ℕ → Pick
pick essential number = record { essential = essential; index = number }

-- three boxes of `ipco`, the first and the last one equal
abbrev pub three_boxes : List Prop
three_boxes = prop "irot" (hex_of "01") ∷ prop "imir" (hex_of "00") ∷ prop "irot" (hex_of "01") ∷ []
