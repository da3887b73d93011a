-- Bytes that are given to a page in parts: what was given, and what is left of the whole.
use Rattle.std.proofs.Common.{◌≡◌, ℕ, ◌<◌, ◌≤◌, ◌+◌, ◌-◌, List, [], ◌++◌, length, take, drop, get_or, Ok, Some, IsErr, arith, refl, sym, ◌∙◌, ap, append-nil, append_assoc}
use Rattle.std.specs.Prelude.{slice_get}
use Rattle.std.specs.List.{flat_map}
use Rattle.std.proofs.lemmas.List.{drop_all, drop_more, take_all, length-drop}
use Rattle.hf_desk.specs.Outside.{Outside}
use Rattle.hf_desk.specs.Pages.{BySay, Gives}
use Rattle.hf_desk.proofs.Joined.{Wrote}
use Rattle.hf_desk.proofs.Paging.{gives_nothing, gives_then, gives_stops, gives_as}
use Rattle.hf_text.specs.Texts.{byte_text}
use Rattle.hf_store.proofs.Spots.{drop_here}

-- of the whole so much is left to be given
pub record Leaves (old : Outside) (held whole left : List ℕ) (new : Outside) (page : List ℕ) : Type 0 where
  pub front : List ℕ
  pub is : front ++ left ≡ whole
  pub gives : Gives BySay old held front (Ok tt) new page

pub leaves_all : (o : Outside) (held whole : List ℕ) → Leaves o held whole whole o held
leaves_all o held whole = record { front = []; is = refl; gives = gives_nothing BySay o held }

-- what is left begins with x, which is given
pub leaves_less : {a b c : Outside} {h w m n : List ℕ} (x y left : List ℕ) → left ≡ x ++ y → Leaves a h w left b m → Gives BySay b m x (Ok tt) c n → Leaves a h w y c n
leaves_less x y left e p q = record {
  front = p.front ++ x;
  is = append_assoc p.front x y ∙ ap (λ (l : List ℕ). p.front ++ l) (sym e) ∙ p.is;
  gives = gives_then p.gives q;
}

-- or could not be given
pub leaves_stop : {a b c : Outside} {h w m n : List ℕ} {r s : Wrote} (x y left : List ℕ) → left ≡ x ++ y → IsErr r → IsErr s → Leaves a h w left b m → Gives BySay b m x r c n → Gives BySay a h w s c n
leaves_stop x y left e ir is p q = gives_as (ap (λ (l : List ℕ). p.front ++ l) (sym e) ∙ p.is) (gives_then p.gives (gives_stops y ir is q))

pub leaves_none : {a b : Outside} {h w m : List ℕ} {left : List ℕ} → left ≡ [] → Leaves a h w left b m → Gives BySay a h w (Ok tt) b m
leaves_none e p = gives_as (sym (append-nil p.front) ∙ ap (λ (l : List ℕ). p.front ++ l) (sym e) ∙ p.is) p.gives

-- the texts from a place on, of which there is one more
pub texts_from : {X : Type 0} (f : X → List ℕ) (xs : List X) (i : ℕ) (x : X) → slice_get xs i ≡ Some x → flat_map f (drop i xs) ≡ f x ++ flat_map f (drop (i + 1) xs)
texts_from f xs i x here = ap (flat_map f) (drop_here xs i x here)

pub texts_here : {X : Type 0} (f : X → List ℕ) (xs : List X) (i : ℕ) (d : X) → i < length xs → flat_map f (drop i xs) ≡ f (get_or xs i d) ++ flat_map f (drop (i + 1) xs)
texts_here f xs i d less = ap (flat_map f) (drop_more xs i d less)

pub no_texts : {X : Type 0} (f : X → List ℕ) (xs : List X) (i : ℕ) → length xs ≤ i → flat_map f (drop i xs) ≡ []
no_texts f xs i all = ap (flat_map f) (drop_all i xs all)

-- what is left is this
pub leaves_as : {a b : Outside} {h w m left other : List ℕ} → left ≡ other → Leaves a h w left b m → Leaves a h w other b m
leaves_as e p = record { front = p.front; is = ap (λ (l : List ℕ). p.front ++ l) (sym e) ∙ p.is; gives = p.gives }

-- the last elements, cut off as a slice
pub cut_rest : {X : Type 0} (n : ℕ) (xs : List X) → drop n xs ≡ take (length xs - n) (drop n xs)
cut_rest n xs = sym (take_all (length xs - n) (drop n xs) (omega (arith, length-drop n xs)))

-- the first byte is given
module _ (bytes : List ℕ) (d : ℕ) (some : 0 < length bytes) where
  pub first_less : {a b c : Outside} {h w m n : List ℕ} → Leaves a h w (flat_map byte_text bytes) b m → Gives BySay b m (byte_text (get_or bytes 0 d)) (Ok tt) c n → Leaves a h w (flat_map byte_text (drop 1 bytes)) c n
  first_less p q = leaves_less (byte_text (get_or bytes 0 d)) (flat_map byte_text (drop 1 bytes)) (flat_map byte_text bytes) (texts_here byte_text bytes 0 d some) p q

  pub first_stop : {a b c : Outside} {h w m n : List ℕ} {r s : Wrote} → IsErr r → IsErr s → Leaves a h w (flat_map byte_text bytes) b m → Gives BySay b m (byte_text (get_or bytes 0 d)) r c n → Gives BySay a h w s c n
  first_stop ir is p q = leaves_stop (byte_text (get_or bytes 0 d)) (flat_map byte_text (drop 1 bytes)) (flat_map byte_text bytes) (texts_here byte_text bytes 0 d some) ir is p q
