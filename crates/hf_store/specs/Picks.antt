-- What the associations of `ipma` select among the boxes of `ipco` (ISO/IEC 23008-12).
use Rattle.std.specs.Prelude.{ℕ, zero, suc, ◌≡◌, Bool, List, [], ◌∷◌, map, Some, slice_get}
use Rattle.hf_store.specs.Lists.{IsIn}
use Rattle.hf_store.specs.Store.{Prop, Held, Item, ItemStore}
use Rattle.hf_store.specs.Table.{table_of, number_of}
pub use Rattle.hf_prop.specs.declared.assoc.Pick.{Pick}

-- the association that is written for a property
abbrev pub pick_of : List Prop → Held → Pick
pick_of table h = record { essential = h.essential; index = number_of h.prop table }

-- the properties that are held by one association, and by the further ones; number 0 is no property
abbrev pub SelectsOne : List Prop → Bool → ℕ → List Held → List Held → Type 0
SelectsOne ps essential zero held further = held ≡ further
SelectsOne ps essential (suc n) held further = (p : Prop) × (slice_get ps n ≡ Some p) × (held ≡ record { essential = essential; prop = p } ∷ further)

-- the properties that these associations select, in order
abbrev pub Selects : List Prop → List Pick → List Held → Type 0
Selects ps [] held = held ≡ []
Selects ps (k ∷ ks) held = (further : List Held) × SelectsOne ps k.essential k.index held further × Selects ps ks further

-- the numbers that are written select each item's properties
abbrev pub NumbersSelect : Type 0
NumbersSelect = (s : ItemStore) (i : Item) → IsIn i s.items → Selects (table_of s) (map (pick_of (table_of s)) i.props) i.props

-- and nothing else
abbrev pub SelectsOnce : Type 0
SelectsOnce = (ps : List Prop) (ks : List Pick) (some others : List Held) → Selects ps ks some → Selects ps ks others → some ≡ others
