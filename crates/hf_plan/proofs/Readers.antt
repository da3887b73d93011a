-- What a plan tells of the items and properties of its store.
use Rattle.std.proofs.Common.{◌≡◌, ℕ, zero, suc, List, [], ◌∷◌, ◌++◌, length, map, Some, refl, sym, ap, ◌∙◌, subst, inl, inr}
use Rattle.std.specs.Prelude.{slice_get}
use Rattle.std.specs.List.{AllZip}
use Rattle.std.proofs.lemmas.List.{length-map}
use Rattle.std.proofs.lemmas.Simd.{map-map}
use Rattle.std.proofs.lemmas.Slice.Zip.{AllZip-long}
use Rattle.hf_table.specs.Held.{all_props}
use Rattle.hf_table.specs.Numbered.{Stands}
use Rattle.hf_table.proofs.Tables.{each_property_is_numbered}
use Rattle.hf_store.specs.Layout.{own}
use Rattle.hf_store.specs.Lists.{IsIn}
use Rattle.hf_store.specs.Store.{Prop, ItemStore}
use Rattle.hf_store.specs.Table.{number_of, props_of, lists_of, table_of}
use Rattle.hf_store.proofs.Spots.{some_is, get_map, in_at}
use Rattle.hf_plan.specs.Laws.{PlanTellsAll}
use Rattle.hf_plan.specs.Plan.{start_of, IsFirstUse, Planned, IsNumber, IsPlan}
use Rattle.hf_plan.proofs.Numbers.{table-is}

-- what stands at a place of the first list has one of the second there
zipped : {A B : Type 0} (R : A → B → Type 0) (xs : List A) (ys : List B) (k : ℕ) (x : A) → AllZip R xs ys → slice_get xs k ≡ Some x
    → (y : B) × (slice_get ys k ≡ Some y) × R x y
zipped R [] ys k x all here = absurd cc
zipped R (z ∷ zs) [] k x all here = absurd all
zipped R (z ∷ zs) (y ∷ ys) zero x all here = (y, refl, subst (λ w. R w y) (some_is here) all.0)
zipped R (z ∷ zs) (y ∷ ys) (suc k) x all here = zipped R zs ys k x all.1 here

in_left : {A : Type 0} (x : A) (xs ys : List A) → IsIn x xs → IsIn x (xs ++ ys)
in_left x [] ys h = absurd h
in_left x (z ∷ zs) ys (inl e) = inl e
in_left x (z ∷ zs) ys (inr h) = inr (in_left x zs ys h)

in_right : {A : Type 0} (x : A) (xs ys : List A) → IsIn x ys → IsIn x (xs ++ ys)
in_right x [] ys h = h
in_right x (z ∷ zs) ys h = inr (in_right x zs ys h)

in_all : (lists : List (List Prop)) (i : ℕ) (ps : List Prop) (q : Prop) → slice_get lists i ≡ Some ps → IsIn q ps → IsIn q (all_props lists)
in_all [] i ps q here h = absurd cc
in_all (qs ∷ lists) zero ps q here h = in_left q qs (all_props lists) (subst (λ (rs : List Prop). IsIn q rs) (sym (some_is here)) h)
in_all (qs ∷ lists) (suc i) ps q here h = in_right q qs (all_props lists) (in_all lists i ps q here h)

-- a property of an item has a number, and its box stands there
numbered : (s : ItemStore) (i j : ℕ) (q : Prop) → Stands (lists_of s) i j q
    → (n : ℕ) × (number_of q (table_of s) ≡ suc n) × (slice_get (table_of s) n ≡ Some q)
numbered s i j q stands =
    let among = in_all (lists_of s) i stands.props q stands.at (in_at stands.props j q stands.held) in
    subst (λ (ps : List Prop). (n : ℕ) × (number_of q ps ≡ suc n) × (slice_get ps n ≡ Some q)) (table-is s)
    (each_property_is_numbered q (all_props (lists_of s)) among)

number_told : (s : ItemStore) (p : Planned) (i j : ℕ) (q : Prop) → IsPlan s p → Stands (lists_of s) i j q → IsNumber p i j (number_of q (table_of s))
number_told s p i j q plan stands =
    let number : Prop → ℕ = λ r. number_of r (table_of s) in
    let rows : p.numbers ≡ map (map number) (lists_of s) = plan.numbers ∙ sym (map-map (map number) props_of s.items) in
    record {
      numbers = map number stands.props;
      item = ap (λ (ns : List (List ℕ)). slice_get ns i) rows ∙ get_map (map number) (lists_of s) i stands.props stands.at;
      number = get_map number stands.props j q stands.held;
    }

pub plan_tells_all : PlanTellsAll
plan_tells_all s p plan =
    let start = start_of own p.total s.items in
    record {
      starts = ap length plan.starts ∙ length-map s.items start;
      start = λ i item here. ap (λ os. slice_get os i) plan.starts ∙ get_map start s.items i item here;
      kinds = sym (AllZip-long (IsFirstUse s) p.firsts (table_of s) plan.firsts);
      first = λ k place here. zipped (IsFirstUse s) p.firsts (table_of s) k place plan.firsts here;
      number = λ i j q stands. (number_told s p i j q plan stands, numbered s i j q stands);
    }
