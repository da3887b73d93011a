-- A trial is built of its parts, and is not refused.
use Rattle.std.proofs.Common.{◌≡◌, ℕ, ◌*◌, ◌≤◌, false, List, [], ◌∷◌, ◌++◌, None, length, map, append_assoc, refl, ap, subst, ◌∙◌}
use Rattle.std.specs.Prelude.{Ok, Err, nat_lt}
use Rattle.std.specs.List.{AllByRecursion, list_any}
use Rattle.std.proofs.lemmas.Bool.{le-ltb}
use Rattle.std.proofs.lemmas.List.{map-append}
use Rattle.hf_base.specs.Reading.{IfUnfit}
use Rattle.hf_base.specs.declared.fault.OpenFault.{OpenFault}
use Rattle.hf_base.specs.declared.fault.OpenFault.TheVariants.{Unfit}
use Rattle.hf_base.specs.declared.fault.ReadRefusal.{ReadRefusal}
use Rattle.hf_base.specs.declared.limits.TheConstants as limits
use Rattle.hf_head.specs.Ftyp.{Brands}
use Rattle.hf_store.specs.LimitFaults.{first_item, has_long_list, limits_fault}
use Rattle.hf_store.specs.Seen.{item_of, items_of}
use Rattle.hf_store.specs.Store.{Item as Stated, Group, ItemStore}
use Rattle.hf_store.specs.Valid.{IsGoodRef, IsGoodItem}
use Rattle.hf_store.specs.declared.item.Item.{Item}
use Rattle.hf_store.specs.declared.item.RefList.{RefList}
use Rattle.hf_store.proofs.Passed.{none_passed}
use Rattle.hf_trial.specs.Bytes.{tile_ids, grid_bytes, exif_bytes, ispe_body}
use Rattle.hf_trial.specs.Trial.{heic, grid_id, tile, grid_of, grid, exif_of, exif, trial_store_of}
use Rattle.hf_trial.proofs.Valid.{trial_stores_are_valid}

-- ---- a valid store passes no limit

no_long_list : (all : List Stated) (rs : List RefList) → AllByRecursion (IsGoodRef all) rs
    → list_any (λ (r : RefList). nat_lt limits.LINKS (length r.to)) rs ≡ false
no_long_list all [] good = refl
no_long_list all (r ∷ rs) good =
    let here : nat_lt limits.LINKS (length r.to) ≡ false = le-ltb limits.LINKS (length r.to) good.0.links in
    rw here (no_long_list all rs good.1)

none_long : (all is : List Stated) → AllByRecursion (IsGoodItem all) is → first_item has_long_list is ≡ None
none_long all [] good = refl
none_long all (i ∷ is) good =
    let here : has_long_list i ≡ false = no_long_list all i.refs good.0.refs in
    rw here (none_long all is good.1)

not_refused : (seed n : ℕ) → 1 ≤ n → n ≤ 256 → limits_fault (trial_store_of seed n) ≡ Ok tt
not_refused seed n some few =
    let s = trial_store_of seed n in
    let valid = trial_stores_are_valid seed n some few in
    none_passed s valid.count (none_long s.items s.items valid.items) valid.meta

pub not_told : (seed n : ℕ) (s : ItemStore) (e : OpenFault) (why : ReadRefusal) → 1 ≤ n → n ≤ 256
    → s ≡ trial_store_of seed n → e ≡ Unfit why → IfUnfit e (λ w. limits_fault s ≡ Err w) → ⊥
not_told seed n s e why some few same is told =
    let fault : limits_fault s ≡ Err why = subst (λ (f : OpenFault). IfUnfit f (λ w. limits_fault s ≡ Err w)) is told in
    let none : limits_fault s ≡ Ok tt = ap limits_fault same ∙ not_refused seed n some few in
    absurd (cc (fault, none))

-- ---- the parts

pub same_grid : (n : ℕ) (bytes ispe : List ℕ) → bytes ≡ grid_bytes n → ispe ≡ ispe_body 1024 (64 * n) → grid_of n bytes ispe ≡ grid n
same_grid n bytes ispe b p = λ j. grid_of n (b j) (p j)

pub same_exif : (n : ℕ) (bytes : List ℕ) → bytes ≡ exif_bytes → exif_of n bytes ≡ exif n
same_exif n bytes b = λ j. exif_of n (b j)

-- the grid and its metadata behind other items
pub items_more : (old with_grid new : List Item) (g x : Item) (first second : Stated) → with_grid ≡ old ++ g ∷ [] → new ≡ with_grid ++ x ∷ []
    → item_of g ≡ first → item_of x ≡ second → items_of new ≡ items_of old ++ first ∷ second ∷ []
items_more old with_grid new g x first second f e same_g same_x =
    let two : items_of with_grid ≡ items_of old ++ item_of g ∷ [] = ap items_of f ∙ map-append item_of old (g ∷ []) in
    let all = ap items_of e ∙ map-append item_of with_grid (x ∷ []) ∙ ap (λ (is : List Stated). is ++ item_of x ∷ []) two in
    all ∙ append_assoc (items_of old) (item_of g ∷ []) (item_of x ∷ []) ∙ (λ j. items_of old ++ same_g j ∷ same_x j ∷ [])

pub trial_is : (seed n : ℕ) (brands : Brands) (items tiles : List Item) (g x : Stated) (groups : List Group)
    → brands ≡ heic → items_of items ≡ items_of tiles ++ g ∷ x ∷ []
    → items_of tiles ≡ map (tile seed) (tile_ids n) → g ≡ grid n → x ≡ exif n → groups ≡ []
    → record { brands = brands; primary = grid_id n; items = items_of items; groups = groups } ≡ trial_store_of seed n
unfolding trial_store_of
trial_is seed n brands items tiles g x groups b all ts same_g same_x no_groups =
    let made : Brands → List Stated → List Group → ItemStore = λ bs is gs. record { brands = bs; primary = grid_id n; items = is; groups = gs } in
    ap (λ (is : List Stated). made brands is groups) all ∙ (λ j. made (b j) (ts j ++ same_g j ∷ same_x j ∷ []) (no_groups j))
