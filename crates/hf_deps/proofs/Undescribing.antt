-- Items that lose their descriptions, one type after the other.
use Rattle.std.proofs.Common.{◌≡◌, ℕ, zero, suc, ◌+◌, ◌<◌, ◌≤◌, Bool, true, false, not, ◌&&◌, ◌||◌, List, [], ◌∷◌, length, map, filter, refl, sym, add-one, ap, ◌∙◌, arith, inl, inr}
use Rattle.std.specs.List.Sorted.{IsStrictlyIncreasing}
use Rattle.std.proofs.lemmas.Bool.{cases_Bool}
use Rattle.hf_base.proofs.Rising.{rises_at}
use Rattle.hf_base.specs.declared.four.FourCc.{FourCc}
use Rattle.hf_base.specs.Members.{RisesFrom, Rises}
use Rattle.hf_box.specs.Literals.{four}
use Rattle.hf_store.specs.Changes.{changed_at, lacking_optional, unnamed, without_names, without_optionals}
use Rattle.hf_store.specs.Store.{Held, Item, ItemStore}
use Rattle.hf_store.specs.Valid.{Valid}
use Rattle.hf_store.proofs.Mapped.{length-mapped, mapped, mapped-all, mapped-none}
use Rattle.hf_table.specs.Held.{is_of, is_optional_of, without_optional}
use Rattle.hf_deps.specs.Redacted.{all_bared, all_undescribed, bared, is_description, undescribed}
use Rattle.hf_deps.proofs.Parts.{IsPart, valid_part_at}

-- ---- numbers that rise

rises_any : (low : ℕ) (xs : List ℕ) → RisesFrom ◌<◌ low xs → Rises ◌<◌ xs
rises_any low [] up = tt
rises_any low (x ∷ xs) up = up.1

pub strictly : (xs : List ℕ) → RisesFrom ◌<◌ 0 xs → IsStrictlyIncreasing xs
strictly xs up k less = rises_at xs (rises_any 0 xs up) k (k + 1) (omega arith) less

-- ---- properties

-- a property stays where it is none of three types, or is essential
none_of_three : (a b c e : Bool) → ((not (a && not e) && not (b && not e)) && not (c && not e)) ≡ not ((a || b || c) && not e)
none_of_three true b c false = refl
none_of_three false true c false = refl
none_of_three false false true false = refl
none_of_three false false false false = refl
none_of_three true true true true = refl
none_of_three true true false true = refl
none_of_three true false true true = refl
none_of_three true false false true = refl
none_of_three false true true true = refl
none_of_three false true false true = refl
none_of_three false false true true = refl
none_of_three false false false true = refl

filter_both : {A : Type 0} (p q : A → Bool) (xs : List A) → filter p (filter q xs) ≡ filter (λ x. q x && p x) xs
filter_both p q [] = refl
filter_both p q (x ∷ xs) =
    let rest = filter_both p q xs in
    elim (cases_Bool (q x)) [
      | inl here ↦ elim (cases_Bool (p x)) [ inl too ↦ rw (here, too) (ap (λ l. x ∷ l) rest) | inr gone ↦ rw (here, gone) rest ]
      | inr gone ↦ rw gone rest
    ]

filter_alike : {A : Type 0} (p q : A → Bool) (xs : List A) → ((x : A) → p x ≡ q x) → filter p xs ≡ filter q xs
filter_alike p q [] same = refl
filter_alike p q (x ∷ xs) same =
    let rest = filter_alike p q xs same in
    let here = same x in
    elim (cases_Bool (q x)) [ inl stays ↦ rw (here ∙ stays, stays) (ap (λ l. x ∷ l) rest) | inr goes ↦ rw (here ∙ goes, goes) rest ]

abbrev stays : FourCc → Held → Bool
stays kind h = not (is_optional_of kind h)

thrice : (hs : List Held)
    → without_optional (four "mdft") (without_optional (four "crtt") (without_optional (four "udes") hs)) ≡ filter (λ (h : Held). not (is_description h)) hs
thrice hs =
    let first = stays (four "udes") in
    let second = stays (four "crtt") in
    let third = stays (four "mdft") in
    ap (filter third) (filter_both second first hs)
    ∙ filter_both third (λ h. first h && second h) hs
    ∙ filter_alike (λ h. (first h && second h) && third h) (λ h. not (is_description h)) hs
    (λ h. none_of_three (is_of (four "udes") h) (is_of (four "crtt") h) (is_of (four "mdft") h) h.essential)

-- ---- the item at a place

pub length-changed : {A : Type 0} (change : A → A) (k : ℕ) (xs : List A) → length (changed_at change k xs) ≡ length xs
length-changed change k [] = refl
length-changed change zero (x ∷ xs) = refl
length-changed change (suc k) (x ∷ xs) = ap suc (length-changed change k xs)

changed_twice : {A : Type 0} (f g : A → A) (k : ℕ) (xs : List A) → changed_at f k (changed_at g k xs) ≡ changed_at (λ x. f (g x)) k xs
changed_twice f g k [] = refl
changed_twice f g zero (x ∷ xs) = refl
changed_twice f g (suc k) (x ∷ xs) = ap (λ l. x ∷ l) (changed_twice f g k xs)

changed_alike : {A : Type 0} (f g : A → A) (k : ℕ) (xs : List A) → ((x : A) → f x ≡ g x) → changed_at f k xs ≡ changed_at g k xs
changed_alike f g k [] same = refl
changed_alike f g zero (x ∷ xs) same = ap (λ y. y ∷ xs) (same x)
changed_alike f g (suc k) (x ∷ xs) same = ap (λ l. x ∷ l) (changed_alike f g k xs same)

lacking_part : (kind : FourCc) (i : Item) → IsPart i (lacking_optional kind i)
lacking_part kind i = record { same = refl; stays = (λ h. not (is_optional_of kind h), refl) }

pub valid_without : (k : ℕ) (kind : FourCc) (s : ItemStore) → Valid s → Valid (without_optionals k kind s)
valid_without k kind s valid = valid_part_at (lacking_optional kind) (lacking_part kind) k s valid

pub all_dropped : (k : ℕ) (s : ItemStore)
    → without_optionals k (four "mdft") (without_optionals k (four "crtt") (without_optionals k (four "udes") s))
    ≡ record s { items = changed_at undescribed k s.items }
all_dropped k s =
    let first = lacking_optional (four "udes") in
    let second = lacking_optional (four "crtt") in
    let third = lacking_optional (four "mdft") in
    let made : List Item → ItemStore = λ is. record s { items = is } in
    ap made
    (ap (changed_at third k) (changed_twice second first k s.items)
    ∙ changed_twice third (λ i. second (first i)) k s.items
    ∙ changed_alike (λ i. third (second (first i))) undescribed k s.items (λ i. ap (λ (hs : List Held). record i { props = hs }) (thrice i.props)))

module _ (k : ℕ) (kind : FourCc) (s t : ItemStore) (is : t ≡ without_optionals k kind s) where
  pub place_without : k < length s.items → k < length t.items
  place_without less = omega (arith, less, ap (λ (u : ItemStore). length u.items) is, length-changed (lacking_optional kind) k s.items)

-- ---- all items

changed-suc : {A : Type 0} (change : A → A) (k : ℕ) (xs : List A) → changed_at change k (mapped change k xs) ≡ mapped change (suc k) xs
changed-suc change k [] = refl
changed-suc change zero (x ∷ xs) = ap (λ l. change x ∷ l) (sym (mapped-none change xs))
changed-suc change (suc k) (x ∷ xs) = ap (λ l. change x ∷ l) (changed-suc change k xs)

-- one more item of those that are changed
pub one_mapped : (k : ℕ) (s t u : ItemStore) → t ≡ record s { items = mapped undescribed k s.items } → u ≡ record t { items = changed_at undescribed k t.items }
    → u ≡ record s { items = mapped undescribed (k + 1) s.items }
one_mapped k s t u so_far done =
    let made : List Item → ItemStore = λ is. record s { items = is } in
    done
    ∙ ap (λ (v : ItemStore). record v { items = changed_at undescribed k v.items }) so_far
    ∙ ap made (changed-suc undescribed k s.items ∙ ap (λ (n : ℕ). mapped undescribed n s.items) (sym (add-one k)))

pub all_mapped : (k : ℕ) (s t : ItemStore) → t ≡ record s { items = mapped undescribed k s.items } → length s.items ≤ k → t ≡ all_undescribed s
all_mapped k s t so_far all = so_far ∙ ap (λ (is : List Item). record s { items = is }) (mapped-all undescribed s.items k all)

pub mapped_place : (k : ℕ) (s t : ItemStore) → t ≡ record s { items = mapped undescribed k s.items } → k < length s.items → k < length t.items
mapped_place k s t so_far less = omega (arith, less, ap (λ (u : ItemStore). length u.items) so_far, length-mapped undescribed s.items k)

pub none_mapped : (s : ItemStore) → s ≡ record s { items = mapped undescribed 0 s.items }
none_mapped s = ap (λ (is : List Item). record s { items = is }) (sym (mapped-none undescribed s.items))

-- the names go, and then the descriptions
pub bared_is : (s : ItemStore) → all_undescribed (without_names s) ≡ all_bared s
bared_is s = ap (λ (is : List Item). record s { items = is }) (each s.items)
  where
    each : (is : List Item) → map undescribed (map unnamed is) ≡ map bared is
    each [] = refl
    each (i ∷ is) = ap (λ (js : List Item). bared i ∷ js) (each is)
