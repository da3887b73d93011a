-- The items of the code that are listed.
use Rattle.std.proofs.Common.{◌≡◌, ℕ, Bool, true, false, cond, filter, List, [], ◌∷◌, ◌++◌, refl, ap}
use Rattle.std.specs.List.{flat_map}
use Rattle.hf_store.specs.Seen.{item_of, items_of}
use Rattle.hf_store.specs.Store.{Item, Prop}
use Rattle.hf_store.specs.Table.{props_of}
use Rattle.hf_store.specs.declared.item.Item.{Item as CodeItem}
use Rattle.hf_table.specs.Held.{props_in}

abbrev pub code_props : CodeItem → List Prop
code_props i = props_in i.props

pub code-props : (is : List CodeItem) → flat_map props_of (items_of is) ≡ flat_map code_props is
code-props [] = refl
code-props (i ∷ is) = ap (λ ps. code_props i ++ ps) (code-props is)

kept : (p : ℕ → Bool) (i : CodeItem) (is : List CodeItem) (b : Bool) → items_of (filter (λ (j : CodeItem). p j.id) is) ≡ filter (λ (j : Item). p j.id) (items_of is)
    → items_of (cond b (i ∷ filter (λ (j : CodeItem). p j.id) is) (filter (λ (j : CodeItem). p j.id) is)) ≡ cond b (item_of i ∷ filter (λ (j : Item). p j.id) (items_of is)) (filter (λ (j : Item). p j.id) (items_of is))
kept p i is true e = ap (λ js. item_of i ∷ js) e
kept p i is false e = e

pub stated-listed : (p : ℕ → Bool) (is : List CodeItem) → items_of (filter (λ (i : CodeItem). p i.id) is) ≡ filter (λ (i : Item). p i.id) (items_of is)
stated-listed p [] = refl
stated-listed p (i ∷ is) = kept p i is (p i.id) (stated-listed p is)
