-- What a loop over a list gathers: a value for each of its elements so far.
use Rattle.std.proofs.Common.{◌≡◌, ℕ, Bool, true, false, ◌+◌, ◌<◌, ◌≤◌, List, [], ◌∷◌, ◌++◌, length, map, take, get_or, refl, sym, ap, ◌∙◌}
use Rattle.std.specs.List.{filter}
use Rattle.std.proofs.lemmas.List.{append_assoc, append-nil, map_more, map-append, take_all}
use Rattle.std.proofs.lemmas.List.Elements.{filter-append}

-- what holds of all elements so far holds of all, where none is left
pub all_taken : {A B : Type 0} (f : List A → B) (xs : List A) (i : ℕ) (x : B) → length xs ≤ i → x ≡ f (take i xs) → x ≡ f xs
all_taken f xs i x past so_far = so_far ∙ ap f (take_all i xs past)

-- a part of what an element is seen as
pub part_at : {A B C : Type 0} (view : A → B) (part : B → C) (xs : List A) (i : ℕ) (x : A) (ys new : List C) → i < length xs
    → ys ≡ map part (map view (take i xs)) → new ≡ ys ++ part (view (get_or xs i x)) ∷ [] → new ≡ map part (map view (take (i + 1) xs))
part_at {A} {B} {C} view part xs i x ys new less so_far added =
    let earlier = map view (take i xs) in
    let last = view (get_or xs i x) ∷ [] in
    added ∙ ap (λ (l : List C). l ++ map part last) so_far ∙ sym (ap (map part) (map_more view xs i x less) ∙ map-append part earlier last)

pub part_more : {A B C : Type 0} (view : A → B) (part : B → C) (xs : List A) (i : ℕ) (x : A) (ys new : List C) → i < length xs → x ≡ get_or xs i x
    → ys ≡ map part (map view (take i xs)) → new ≡ ys ++ part (view x) ∷ [] → new ≡ map part (map view (take (i + 1) xs))
part_more {A} {B} {C} view part xs i x ys new less is so_far added =
    part_at view part xs i x ys new less so_far (added ∙ ap (λ (y : A). ys ++ part (view y) ∷ []) is)

-- behind values that were there first
pub value_more : {A B : Type 0} (f : A → B) (xs : List A) (i : ℕ) (x : A) (first ys new : List B) → i < length xs
    → ys ≡ first ++ map f (take i xs) → new ≡ ys ++ f (get_or xs i x) ∷ [] → new ≡ first ++ map f (take (i + 1) xs)
value_more {A} {B} f xs i x first ys new less so_far added =
    let last = f (get_or xs i x) ∷ [] in
    added ∙ ap (λ (l : List B). l ++ last) so_far ∙ append_assoc first (map f (take i xs)) last
    ∙ sym (ap (λ (l : List B). first ++ l) (map_more f xs i x less))

-- what is left of those that pass a test, where what is gathered is seen as the elements are
module _ {A B : Type 0} (view : A → B) (test : B → Bool) (left : B → B) (xs : List A) (x : A) (ys : List A) where
  seen_more : (last : List B) → filter test (view x ∷ []) ≡ last
      → map left (filter test (map view (xs ++ x ∷ []))) ≡ map left (filter test (map view xs)) ++ map left last
  seen_more last is =
      ap (λ (l : List B). map left (filter test l)) (map-append view xs (x ∷ []))
      ∙ ap (map left) (filter-append test (map view xs) (view x ∷ []) ∙ ap (λ (l : List B). filter test (map view xs) ++ l) is)
      ∙ map-append left (filter test (map view xs)) last

  pub kept_more : (y : A) (new : List A) → test (view x) ≡ true → view y ≡ left (view x)
      → map view ys ≡ map left (filter test (map view xs)) → new ≡ ys ++ y ∷ []
      → map view new ≡ map left (filter test (map view (xs ++ x ∷ [])))
  kept_more y new passes is so_far added =
      ap (map view) added ∙ map-append view ys (y ∷ [])
      ∙ ap (λ (l : List B). l ++ view y ∷ []) so_far
      ∙ ap (λ (b : B). map left (filter test (map view xs)) ++ b ∷ []) is
      ∙ sym (seen_more (view x ∷ []) (rw passes refl))

  pub passed_over : test (view x) ≡ false → map view ys ≡ map left (filter test (map view xs)) → map view ys ≡ map left (filter test (map view (xs ++ x ∷ [])))
  passed_over fails so_far = so_far ∙ sym (seen_more [] (rw fails refl) ∙ append-nil (map left (filter test (map view xs))))
