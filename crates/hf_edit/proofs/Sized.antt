-- The size of a picture, as the walk of the properties goes on.
use Rattle.std.proofs.Common.{◌≡◌, ℕ, ◌+◌, ◌≤◌, List, [], ◌∷◌, drop, length, refl, sym, ap, ◌∙◌, Option, Some, None}
use Rattle.std.specs.Prelude.{fold, slice_get}
use Rattle.std.specs.Option.{option_and_then}
use Rattle.std.proofs.lemmas.List.{drop_all}
use Rattle.hf_store.specs.Store.{Held, Item}
use Rattle.hf_store.proofs.Spots.{drop_here}
use Rattle.hf_edit.specs.Pictures.{first_size, picture_size_of, sized_by, when_sides}

fold-none : (hs : List Held) → fold sized_by None hs ≡ None
fold-none [] = refl
fold-none (h ∷ hs) = fold-none hs

module _ (i : Item) (hs : List Held) (same : hs ≡ i.props) where
  sized : (size : Option (ℕ × ℕ)) → fold sized_by (first_size hs) hs ≡ size → option_and_then when_sides size ≡ picture_size_of i
  unfolding picture_size_of
  sized size is =
      sym (ap (option_and_then when_sides) is) ∙ ap (λ (ps : List Held). option_and_then when_sides (fold sized_by (first_size ps) ps)) same

  pub unsized : None ≡ first_size hs → None ≡ picture_size_of i
  unsized none = sized None (ap (λ (size : Option (ℕ × ℕ)). fold sized_by size hs) (sym none) ∙ fold-none hs)

  module _ (size : ℕ × ℕ) (k : ℕ) (so_far : fold sized_by (first_size hs) hs ≡ fold sized_by (Some size) (drop k hs)) where
    pub sized-none : (h : Held) → slice_get hs k ≡ Some h → None ≡ sized_by (Some size) h → None ≡ picture_size_of i
    sized-none h here none =
        sized None
        (so_far ∙ ap (fold sized_by (Some size)) (drop_here hs k h here)
        ∙ ap (λ (next : Option (ℕ × ℕ)). fold sized_by next (drop (k + 1) hs)) (sym none)
        ∙ fold-none (drop (k + 1) hs))

    pub sized-all : length hs ≤ k → when_sides size ≡ picture_size_of i
    sized-all past = sized (Some size) (so_far ∙ ap (fold sized_by (Some size)) (drop_all k hs past))
