-- An id that no reference leads to is needed by no item.
use Rattle.std.proofs.Common.{◌≡◌, ℕ, List, [], ◌∷◌, sym, subst, inl, inr, None}
use Rattle.std.specs.List.{flat_map}
use Rattle.hf_order.proofs.Members.{in_front, in_back}
use Rattle.hf_store.specs.Lists.{IsIn}
use Rattle.hf_store.specs.Referred.{targets_by, all_targets}
use Rattle.hf_store.specs.Store.{Item, ItemStore}
use Rattle.hf_store.specs.declared.item.RefList.{RefList}
use Rattle.hf_deps.specs.Needs.{needed_by}
use Rattle.hf_deps.proofs.Needers.{no_needer_is_told}

in_flat : {A B : Type 0} (f : A → List B) (xs : List A) (x : A) (b : B) → IsIn x xs → IsIn b (f x) → IsIn b (flat_map f xs)
in_flat f [] x b h there = absurd h
in_flat {B = B} f (y ∷ ys) x b (inl e) there = in_front b (f y) (flat_map f ys) (subst (λ z. IsIn b (f z)) (sym e) there)
in_flat f (y ∷ ys) x b (inr h) there = in_back b (f y) (flat_map f ys) (in_flat f ys x b h there)

pub none_refers : (s : ItemStore) (id : ℕ) → (IsIn id (all_targets s.items) → ⊥) → needed_by id s.items ≡ None
none_refers s id none =
    (no_needer_is_told s id).1
    (λ a other h.
    none (in_flat (λ (i : Item). targets_by i.refs) s.items h.0 id h.2 (in_flat (λ (r : RefList). r.to) h.0.refs h.1 id h.4 h.6)))
