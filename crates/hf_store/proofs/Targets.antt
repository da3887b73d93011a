-- The ids that references lead to, of items that change, and items that no reference to an id leads from.
use Rattle.std.proofs.Common.{◌≡◌, ℕ, zero, suc, ◌<◌, Bool, true, List, [], ◌∷◌, ◌++◌, length, set, map, filter, refl, sym, ap, ◌∙◌, inl, inr, Some}
use Rattle.std.specs.Prelude.{slice_get}
use Rattle.std.specs.List.{AllByRecursion, remove}
use Rattle.std.proofs.lemmas.Bool.{cases_Bool}
use Rattle.hf_order.proofs.Members.{in_front, in_back, in_joined}
use Rattle.hf_store.specs.Changes.{is_other, cut_refs, cut_item, unnamed}
use Rattle.hf_store.specs.Lists.{IsIn, not_empty}
use Rattle.hf_store.specs.Referred.{targets_by, all_targets, HasAll, HaveTargets}
use Rattle.hf_store.specs.Store.{RefList, Item}
use Rattle.hf_store.specs.Valid.{IsGoodRef, IsGoodItem}
use Rattle.hf_store.proofs.CutValid.{lacks, some-there}
use Rattle.hf_store.proofs.Spots.{some_is}

-- ---- fewer ids

-- where both parts have no more
joined_fewer : (xs ys all more : List ℕ) → HasAll all xs → HasAll more ys → HasAll (all ++ more) (xs ++ ys)
joined_fewer xs ys all more first second id h =
    elim (in_joined id xs ys h) [ inl a ↦ in_front id all more (first id a) | inr b ↦ in_back id all more (second id b) ]

-- and where the first part is gone
later_fewer : (xs all more : List ℕ) → HasAll more xs → HasAll (all ++ more) xs
later_fewer xs all more some id h = in_back id all more (some id h)

same_ids : (ids : List ℕ) → HasAll ids ids
same_ids ids id h = h

filter_fewer : (p : ℕ → Bool) (ids : List ℕ) → HasAll ids (filter p ids)
filter_fewer p [] id h = h
filter_fewer p (x ∷ xs) id h =
    elim (cases_Bool (p x)) [
      | inl there ↦ let kept : IsIn id (x ∷ filter p xs) = rw there at h in elim kept [ inl e ↦ inl e | inr k ↦ inr (filter_fewer p xs id k) ]
      | inr gone ↦ let rest : IsIn id (filter p xs) = rw gone at h in inr (filter_fewer p xs id rest)
    ]

refs_fewer : (stays : ℕ → Bool) (rs : List RefList) → HasAll (targets_by rs) (targets_by (cut_refs stays rs))
refs_fewer stays [] id h = h
refs_fewer stays (r ∷ rs) id h =
    elim (cases_Bool (not_empty (filter stays r.to))) [
      | inl some ↦
          let kept : IsIn id (filter stays r.to ++ targets_by (cut_refs stays rs)) = rw some at h in
          joined_fewer (filter stays r.to) (targets_by (cut_refs stays rs)) r.to (targets_by rs) (filter_fewer stays r.to) (refs_fewer stays rs) id kept
      | inr none ↦
          let rest : IsIn id (targets_by (cut_refs stays rs)) = rw none at h in
          later_fewer (targets_by (cut_refs stays rs)) r.to (targets_by rs) (refs_fewer stays rs) id rest
    ]

-- items whose references are cut
pub targets_cut : (stays : ℕ → Bool) (is : List Item) → HasAll (all_targets is) (all_targets (map (cut_item stays) is))
targets_cut stays [] id h = h
targets_cut stays (i ∷ is) id h =
    joined_fewer (targets_by (cut_refs stays i.refs)) (all_targets (map (cut_item stays) is)) (targets_by i.refs) (all_targets is)
    (refs_fewer stays i.refs) (targets_cut stays is) id h

-- those that pass a test
pub targets_filtered : (p : Item → Bool) (is : List Item) → HasAll (all_targets is) (all_targets (filter p is))
targets_filtered p [] id h = h
targets_filtered p (i ∷ is) id h =
    elim (cases_Bool (p i)) [
      | inl there ↦
          let kept : IsIn id (targets_by i.refs ++ all_targets (filter p is)) = rw there at h in
          joined_fewer (targets_by i.refs) (all_targets (filter p is)) (targets_by i.refs) (all_targets is) (same_ids (targets_by i.refs))
          (targets_filtered p is) id kept
      | inr gone ↦
          let rest : IsIn id (all_targets (filter p is)) = rw gone at h in
          later_fewer (all_targets (filter p is)) (targets_by i.refs) (all_targets is) (targets_filtered p is) id rest
    ]

-- those that are left when one is taken out
pub targets_removed : (is : List Item) (k : ℕ) → HasAll (all_targets is) (all_targets (remove is k))
targets_removed [] zero id h = h
targets_removed [] (suc k) id h = h
targets_removed (i ∷ is) zero id h = in_back id (targets_by i.refs) (all_targets is) h
targets_removed (i ∷ is) (suc k) id h =
    joined_fewer (targets_by i.refs) (all_targets (remove is k)) (targets_by i.refs) (all_targets is) (same_ids (targets_by i.refs))
    (targets_removed is k) id h

-- ---- the same ids

-- another item at a place, with the same references
pub targets-set : (is : List Item) (k : ℕ) (x y : Item) → slice_get is k ≡ Some x → y.refs ≡ x.refs → all_targets (set is k y) ≡ all_targets is
targets-set [] k x y here same = absurd cc
targets-set (i ∷ is) zero x y here same =
    ap (λ (rs : List RefList). targets_by rs ++ all_targets is) (same ∙ sym (ap (λ (j : Item). j.refs) (some_is here)))
targets-set (i ∷ is) (suc k) x y here same = ap (λ ts. targets_by i.refs ++ ts) (targets-set is k x y here same)

pub targets-unnamed : (is : List Item) → all_targets (map unnamed is) ≡ all_targets is
targets-unnamed [] = refl
targets-unnamed (i ∷ is) = ap (λ ts. targets_by i.refs ++ ts) (targets-unnamed is)

-- ---- one item more

pub targets_pushed : (ids : List ℕ) (is : List Item) (x : Item) → HasAll ids (all_targets is) → HasAll ids (targets_by x.refs)
    → HasAll ids (all_targets (is ++ x ∷ []))
targets_pushed ids [] x old new id h = elim (in_joined id (targets_by x.refs) [] h) [ inl a ↦ new id a | inr b ↦ absurd b ]
targets_pushed ids (i ∷ is) x old new id h =
    elim (in_joined id (targets_by i.refs) (all_targets (is ++ x ∷ [])) h) [
      | inl a ↦ old id (in_front id (targets_by i.refs) (all_targets is) a)
      | inr b ↦ targets_pushed ids is x (λ n m. old n (in_back n (targets_by i.refs) (all_targets is) m)) new id b
    ]

-- ---- no reference list of a valid store is empty

some_refs : (all : List Item) (rs : List RefList) → AllByRecursion (IsGoodRef all) rs → AllByRecursion (λ (r : RefList). 0 < length r.to) rs
some_refs all [] good = tt
some_refs all (r ∷ rs) good = (good.0.some, some_refs all rs good.1)

pub have_targets : (all is : List Item) → AllByRecursion (IsGoodItem all) is → HaveTargets is
have_targets all [] good = tt
have_targets all (i ∷ is) good = (some_refs all i.refs good.0.refs, have_targets all is good.1)

pub all_removed : {A : Type 0} (P : A → Type 0) (xs : List A) (k : ℕ) → AllByRecursion P xs → AllByRecursion P (remove xs k)
all_removed P [] zero all = tt
all_removed P [] (suc k) all = tt
all_removed P (x ∷ xs) zero all = all.1
all_removed P (x ∷ xs) (suc k) all = (all.0, all_removed P xs k all.1)

-- ---- an id that no reference leads to

refs-lacking : (id : ℕ) (rs : List RefList) → AllByRecursion (λ (r : RefList). 0 < length r.to) rs → (IsIn id (targets_by rs) → ⊥)
    → cut_refs (is_other id) rs ≡ rs
refs-lacking id [] some none = refl
refs-lacking id (r ∷ rs) some none =
    let same : filter (is_other id) r.to ≡ r.to = lacks id r.to (λ h. none (in_front id r.to (targets_by rs) h)) in
    let there : not_empty (filter (is_other id) r.to) ≡ true = ap not_empty same ∙ some-there r.to some.0 in
    let rest = refs-lacking id rs some.1 (λ h. none (in_back id r.to (targets_by rs) h)) in
    rw there (ap (λ ids. record r { to = ids } ∷ cut_refs (is_other id) rs) same ∙ ap (λ qs. r ∷ qs) rest)

-- its removal changes no item
pub items-lacking : (id : ℕ) (is : List Item) → HaveTargets is → (IsIn id (all_targets is) → ⊥) → map (cut_item (is_other id)) is ≡ is
items-lacking id [] some none = refl
items-lacking id (i ∷ is) some none =
    let same = refs-lacking id i.refs some.0 (λ h. none (in_front id (targets_by i.refs) (all_targets is) h)) in
    let rest = items-lacking id is some.1 (λ h. none (in_back id (targets_by i.refs) (all_targets is) h)) in
    ap (λ rs. record i { refs = rs } ∷ map (cut_item (is_other id)) is) same ∙ ap (λ js. i ∷ js) rest
