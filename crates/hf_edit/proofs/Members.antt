-- Members of a list that is mapped or filtered, and facts of all members.
use Rattle.std.proofs.Common.{◌≡◌, Bool, true, false, cond, List, [], ◌∷◌, ◌++◌, filter, take, ℕ, zero, suc, sym, ap, ◌∙◌, inl, inr}
use Rattle.std.specs.List.{AllByRecursion, list_any}
use Rattle.std.proofs.lemmas.Bool.{or_parts}
use Rattle.hf_store.specs.Lists.{IsIn}

pub passing_in : {A : Type 0} (test : A → Bool) (x : A) (xs : List A) → test x ≡ true → IsIn x xs → IsIn x (filter test xs)
passing_in test x [] e h = absurd h
passing_in test x (y ∷ ys) e (inl same) = rw (ap test same ∙ e) (inl same)
passing_in test x (y ∷ ys) e (inr h) =
    let later = passing_in test x ys e h in
    elim (test y) as (λ b. IsIn x (cond b (y ∷ filter test ys) (filter test ys))) [ true ↦ inr later | false ↦ later ]

-- ---- facts of all

pub all_same : {A : Type 0} (Q P : A → Type 0) (xs : List A) → AllByRecursion Q xs → ((x : A) → Q x → P x) → AllByRecursion P xs
all_same Q P [] all each = tt
all_same Q P (x ∷ xs) all each = (each x all.0, all_same Q P xs all.1 each)

pub all_append : {A : Type 0} (P : A → Type 0) (xs ys : List A) → AllByRecursion P xs → AllByRecursion P ys → AllByRecursion P (xs ++ ys)
all_append P [] ys some more = more
all_append P (x ∷ xs) ys some more = (some.0, all_append P xs ys some.1 more)

pub all_take : {A : Type 0} (P : A → Type 0) (k : ℕ) (xs : List A) → AllByRecursion P xs → AllByRecursion P (take k xs)
all_take P zero xs all = tt
all_take P (suc k) [] all = tt
all_take P (suc k) (x ∷ xs) all = (all.0, all_take P k xs all.1)

-- a test that none of them passes
pub none_passes : {A : Type 0} (test : A → Bool) (xs : List A) (x : A) → list_any test xs ≡ false → IsIn x xs → test x ≡ false
none_passes test [] x none h = absurd h
none_passes test (y ∷ ys) x none (inl e) = ap test (sym e) ∙ (or_parts (test y) (list_any test ys) none).0
none_passes test (y ∷ ys) x none (inr h) = none_passes test ys x (or_parts (test y) (list_any test ys) none).1 h
