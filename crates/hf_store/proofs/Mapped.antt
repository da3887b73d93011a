-- A list of which the first elements are changed.
use Rattle.std.proofs.Common.{◌≡◌, ℕ, zero, suc, ◌+◌, ◌<◌, ◌≤◌, List, [], ◌∷◌, length, get_or, set, map, refl, ap, sym, ◌∙◌, add-one, arith, Some}
use Rattle.std.specs.Prelude.{slice_get}
use Rattle.std.proofs.Math.ListN.{get_or-map}
use Rattle.std.proofs.lemmas.List.{length-map, map-set}

abbrev pub mapped : {A : Type 0} → (A → A) → ℕ → List A → List A
mapped f i [] = []
mapped f zero (x ∷ xs) = x ∷ xs
mapped f (suc i) (x ∷ xs) = f x ∷ mapped f i xs

pub mapped-none : {A : Type 0} (f : A → A) (xs : List A) → mapped f 0 xs ≡ xs
mapped-none f [] = refl
mapped-none f (x ∷ xs) = refl

pub mapped-all : {A : Type 0} (f : A → A) (xs : List A) (i : ℕ) → length xs ≤ i → mapped f i xs ≡ map f xs
mapped-all f [] i all = refl
mapped-all f (x ∷ xs) zero all = absurd (omega arith)
mapped-all f (x ∷ xs) (suc i) all = ap (λ ys. f x ∷ ys) (mapped-all f xs i (omega arith))

pub length-mapped : {A : Type 0} (f : A → A) (xs : List A) (i : ℕ) → length (mapped f i xs) ≡ length xs
length-mapped f [] i = refl
length-mapped f (x ∷ xs) zero = refl
length-mapped f (x ∷ xs) (suc i) = ap suc (length-mapped f xs i)

mapped-suc : {A : Type 0} (f : A → A) (xs : List A) (i : ℕ) (x : A) → i < length xs → x ≡ get_or (mapped f i xs) i x → set (mapped f i xs) i (f x) ≡ mapped f (suc i) xs
mapped-suc f [] i x within here = absurd (omega arith)
mapped-suc f (y ∷ ys) zero x within here = ap (λ z. f z ∷ ys) here ∙ ap (λ zs. f y ∷ zs) (sym (mapped-none f ys))
mapped-suc f (y ∷ ys) (suc i) x within here = ap (λ zs. f y ∷ zs) (mapped-suc f ys i x (omega arith) here)

-- one more
pub mapped-next : {A : Type 0} (f : A → A) (xs : List A) (i : ℕ) (x : A) → i < length xs → x ≡ get_or (mapped f i xs) i x → set (mapped f i xs) i (f x) ≡ mapped f (i + 1) xs
mapped-next f xs i x within here = mapped-suc f xs i x within here ∙ ap (λ n. mapped f n xs) (sym (add-one i))

-- what stands at a place
pub here_at : {A : Type 0} (xs : List A) (k : ℕ) (x : A) → k < length xs → x ≡ get_or xs k x → slice_get xs k ≡ Some x
here_at [] k x within here = absurd (omega arith)
here_at (y ∷ ys) zero x within here = ap Some (sym here)
here_at (y ∷ ys) (suc k) x within here = here_at ys k x (omega arith) here

-- a loop that has changed the first elements changes one more
pub plain-next : {A : Type 0} (f : A → A) (first now : List A) (i : ℕ) (x new : A) → i < length now → x ≡ get_or now i x → now ≡ mapped f i first → new ≡ f x → set now i new ≡ mapped f (i + 1) first
plain-next f first now i x new within here so_far done =
    let same : length now ≡ length first = ap length so_far ∙ length-mapped f first i in
    ap (λ y. set now i y) done ∙ ap (λ ys. set ys i (f x)) so_far ∙ mapped-next f first i x (omega (arith, within, same)) (here ∙ ap (λ ys. get_or ys i x) so_far)

-- the same of what the elements stand for
pub pass-next : {A B : Type 0} (view : A → B) (f : B → B) (first now : List A) (i : ℕ) (x new : A) → i < length now → x ≡ get_or now i x → map view now ≡ mapped f i (map view first) → view new ≡ f (view x) → map view (set now i new) ≡ mapped f (i + 1) (map view first)
pass-next view f first now i x new within here so_far done =
    map-set view now i new ∙ plain-next f (map view first) (map view now) i (view x) (view new) (omega (arith, within, length-map now view)) (ap view here ∙ sym (get_or-map view now i x)) so_far done

pub length-passed : {A B : Type 0} (view : A → B) (f : B → B) (first now : List A) (i : ℕ) → map view now ≡ mapped f i (map view first) → length now ≡ length first
length-passed view f first now i so_far = sym (length-map now view) ∙ ap length so_far ∙ length-mapped f (map view first) i ∙ length-map first view
