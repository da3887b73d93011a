-- Properties and lists of properties that are worked.
use Prim.Native.String.{String as Text}
use Rattle.std.specs.Prelude.{ℕ, List, [], ◌∷◌, false, true}
use Rattle.hf_box.specs.Literals.{four}
use Rattle.hf_prop.specs.declared.held.Held.{Held}
use Rattle.hf_prop.specs.declared.prop.Prop.{Prop}

abbrev pub prop : Text → List ℕ → Prop
prop kind body = record { kind = four kind; body = body }

-- `irot` of one quarter turn, and of two
abbrev pub quarter : Prop
quarter = prop "irot" (1 ∷ [])

abbrev pub half : Prop
half = prop "irot" (2 ∷ [])

-- the same body under another type
abbrev pub axis : Prop
axis = prop "imir" (1 ∷ [])

abbrev pub needed : Prop → Held
needed p = record { essential = true; prop = p }

abbrev pub other : Prop → Held
other p = record { essential = false; prop = p }

-- the lists of three items, of which the second has no properties
abbrev pub lists : List (List Prop)
lists = (half ∷ axis ∷ []) ∷ [] ∷ (axis ∷ quarter ∷ half ∷ []) ∷ []

-- items with ids and these lists
abbrev pub items : List (ℕ × List Prop)
items = (2, half ∷ axis ∷ []) ∷ (3, []) ∷ (7, axis ∷ quarter ∷ half ∷ []) ∷ []
