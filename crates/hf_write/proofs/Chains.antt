-- Pieces that are put for one item after another.
use Rattle.std.proofs.Common.{◌≡◌, ℕ, zero, suc, ◌+◌, ◌<◌, ◌≤◌, List, [], ◌∷◌, ◌++◌, length, take, refl, sym, ap, subst, Ok, IsErr, arith, Some}
use Rattle.std.specs.Prelude.{slice_get}
use Rattle.std.specs.List.{flat_map}
use Rattle.std.proofs.lemmas.List.{take_all}
use Rattle.hf_desk.specs.Outside.{Outside}
use Rattle.hf_desk.specs.Calls.{Puts}
use Rattle.hf_desk.specs.Pages.{ByPut, Gives}
use Rattle.hf_desk.proofs.Paging.{gives_as, gives_each, gives_each_stop}
use Rattle.hf_desk.proofs.Joined.{Wrote, puts_more, puts_exit, puts_each, puts_each_stop}
use Rattle.hf_store.proofs.Spots.{at_or, within_at}

-- the writing call that failed ends the whole
pub stops : {a b : Outside} {x : List ℕ} {r s : Wrote} (rest : List ℕ) → IsErr r → IsErr s → Puts a x r b → Puts a (x ++ rest) s b
stops rest ir is p = puts_exit ir is (puts_more rest ir p)

-- the same, of other bytes
pub puts_as : {a b : Outside} {x y : List ℕ} {r : Wrote} → x ≡ y → Puts a x r b → Puts a y r b
puts_as {a = a} {b = b} {r = r} e p = subst (λ (l : List ℕ). Puts a l r b) e p

module _ {X : Type 0} (f : X → List ℕ) (xs : List X) (i : ℕ) (x : X) (here : slice_get xs i ≡ Some x) where
  pub each_next : {a b c : Outside} {s : Wrote} → Puts a (flat_map f (take i xs)) (Ok tt) b → Puts b (f x) s c → Puts a (flat_map f (take (i + 1) xs)) s c
  each_next p q = puts_each f xs i x (within_at xs i x here) p (puts_as (ap f (sym (at_or xs i x x here))) q)

  pub each_stops : {a b c : Outside} {r s : Wrote} → IsErr r → IsErr s → Puts a (flat_map f (take i xs)) (Ok tt) b → Puts b (f x) r c → Puts a (flat_map f xs) s c
  each_stops ir is p q = puts_exit ir is (puts_each_stop f xs i x (within_at xs i x here) ir (each_next p q))

module _ {X : Type 0} (f : X → List ℕ) (xs : List X) (i : ℕ) (x : X) (here : slice_get xs i ≡ Some x) where
  pub gives_next : {a b c : Outside} {h m n : List ℕ} {s : Wrote} → Gives ByPut a h (flat_map f (take i xs)) (Ok tt) b m → Gives ByPut b m (f x) s c n
      → Gives ByPut a h (flat_map f (take (i + 1) xs)) s c n
  gives_next p q = gives_each f xs i x (within_at xs i x here) p (gives_as (ap f (sym (at_or xs i x x here))) q)

  pub gives_last : {a b c : Outside} {h m n : List ℕ} {r s : Wrote} → IsErr r → IsErr s → Gives ByPut a h (flat_map f (take i xs)) (Ok tt) b m → Gives ByPut b m (f x) r c n
      → Gives ByPut a h (flat_map f xs) s c n
  gives_last ir is p q = gives_each_stop f xs i x (within_at xs i x here) ir is p (gives_as (ap f (sym (at_or xs i x x here))) q)

pub each_done : {X : Type 0} (f : X → List ℕ) (xs : List X) (i : ℕ) {a b : Outside} {s : Wrote} → length xs ≤ i → Puts a (flat_map f (take i xs)) s b → Puts a (flat_map f xs) s b
each_done f xs i h p = puts_as (ap (flat_map f) (take_all i xs h)) p

pub there_is : {X : Type 0} (xs : List X) (i : ℕ) → i < length xs → (x : X) × (slice_get xs i ≡ Some x)
there_is [] i h = absurd (omega arith)
there_is (x ∷ xs) zero h = (x, refl)
there_is (x ∷ xs) (suc i) h = there_is xs i (omega arith)
