-- The first meta among boxes.
use Rattle.std.proofs.Common.{◌≡◌, ℕ, zero, suc, ◌+◌, ◌<◌, List, [], ◌∷◌, ◌++◌, length, take, drop, get_or, Some, sym, ap, subst, ◌∙◌, arith}
use Rattle.std.specs.List.{AllByRecursion}
use Rattle.hf_base.specs.declared.kinds.TheConstants.{META}
use Rattle.hf_box.specs.declared.view.BoxView.{BoxView}
use Rattle.hf_box.specs.Boxes.{BoxAt, box_of, boxes_of}
use Rattle.hf_box.specs.Walk.{IsNotMeta, IsMetaAt, HasMeta}
use Rattle.hf_base.specs.declared.fault.OpenFault.{OpenFault}
use Rattle.hf_base.specs.declared.fault.OpenFault.TheVariants as errors
use Rattle.hf_base.specs.declared.fault.ReadRefusal.{ReadRefusal}
use Rattle.hf_base.specs.Reading.{IfUnfit}
use Rattle.std.proofs.lemmas.List.{drop_more, take-append-drop, drop-map, map_more, take-map}

pub is_there : (boxes : List BoxView) (i : ℕ) (d : BoxView) → i < length boxes → (get_or boxes i d).kind ≡ META → IsMetaAt (boxes_of boxes) i
is_there [] i d lt e = absurd (omega arith)
is_there (b ∷ bs) zero d lt e = ap (λ k. Some k) e
is_there (b ∷ bs) (suc i) d lt e = is_there bs i d (omega arith) e

pub not_before : (boxes : List BoxView) (i : ℕ) (d : BoxView) → i < length boxes → ((get_or boxes i d).kind ≡ META → ⊥) → AllByRecursion IsNotMeta (take i (boxes_of boxes)) → AllByRecursion IsNotMeta (take (suc i) (boxes_of boxes))
not_before [] i d lt other h = absurd (omega arith)
not_before (b ∷ bs) zero d lt other h = (other, tt)
not_before (b ∷ bs) (suc i) d lt other h = (h.0, not_before bs i d (omega arith) other h.1)

kind_there : (boxes : List BoxView) (i : ℕ) (d : BoxView) → i < length boxes → IsMetaAt (boxes_of boxes) i → (get_or boxes i d).kind ≡ META
kind_there [] i d lt e = absurd (omega arith)
kind_there (b ∷ bs) zero d lt e = cc
kind_there (b ∷ bs) (suc i) d lt e = kind_there bs i d (omega arith) e

-- the box at the place is the first meta
pub is_meta : (boxes : List BoxView) (i : ℕ) (m : BoxView) → i < length boxes → m ≡ get_or boxes i m → IsMetaAt (boxes_of boxes) i → m.kind ≡ META
is_meta boxes i m lt e h = ap (λ (b : BoxView). b.kind) e ∙ kind_there boxes i m lt h

pub has_meta : (boxes : List BoxView) (i : ℕ) (m : BoxView) → i < length boxes → m ≡ get_or boxes i m → AllByRecursion IsNotMeta (take i (boxes_of boxes)) → IsMetaAt (boxes_of boxes) i
    → HasMeta (boxes_of boxes) (take i (boxes_of boxes)) (box_of m) (boxes_of (drop (i + 1) boxes)) × (boxes_of (take (i + 1) boxes) ≡ take i (boxes_of boxes) ++ box_of m ∷ [])
has_meta boxes i m lt e none h =
    let rest : drop i boxes ≡ m ∷ drop (i + 1) boxes = drop_more boxes i m lt ∙ ap (λ (b : BoxView). b ∷ drop (i + 1) boxes) (sym e) in
    let parts : boxes_of boxes ≡ take i (boxes_of boxes) ++ box_of m ∷ boxes_of (drop (i + 1) boxes) =
    sym (take-append-drop i (boxes_of boxes)) ∙ ap (λ (l : List BoxAt). take i (boxes_of boxes) ++ l) (drop-map box_of i boxes ∙ ap boxes_of rest) in
    let front : boxes_of (take (i + 1) boxes) ≡ take i (boxes_of boxes) ++ box_of m ∷ [] =
    map_more box_of boxes i m lt ∙ ap (λ (b : BoxView). boxes_of (take i boxes) ++ box_of b ∷ []) (sym e) ∙ ap (λ (l : List BoxAt). l ++ box_of m ∷ []) (sym (take-map box_of i boxes)) in
    (record { parts = parts; is = is_meta boxes i m lt e h; first = none }, front)

pub unfit_weaker : (e : OpenFault) (P Q : ReadRefusal → Type 0) → IfUnfit e P → ((r : ReadRefusal) → P r → Q r) → IfUnfit e Q
unfit_weaker errors.NoMemory P Q h f = tt
unfit_weaker (errors.Unfit r) P Q h f = f r h

-- what is known of the place that was found, where boxes stand there
pub record AtMeta (boxes : List BoxView) (i : ℕ) (m : BoxView) : Type 0 where
  pub is : m.kind ≡ META
  pub has : HasMeta (boxes_of boxes) (take i (boxes_of boxes)) (box_of m) (boxes_of (drop (i + 1) boxes))
  pub front : boxes_of (take (i + 1) boxes) ≡ take i (boxes_of boxes) ++ box_of m ∷ []

pub at_meta : (boxes lent : List BoxView) (i : ℕ) (m : BoxView) → lent ≡ boxes → AllByRecursion IsNotMeta (take i (boxes_of lent)) → (i < length lent → IsMetaAt (boxes_of lent) i)
    → i < length boxes → m ≡ get_or boxes i m → AtMeta boxes i m
at_meta boxes lent i m same none there lt e =
    let h : IsMetaAt (boxes_of boxes) i = subst (λ (l : List BoxView). IsMetaAt (boxes_of l) i) same (there (omega (arith, ap length same))) in
    let before : AllByRecursion IsNotMeta (take i (boxes_of boxes)) = subst (λ (l : List BoxView). AllByRecursion IsNotMeta (take i (boxes_of l))) same none in
    let p = has_meta boxes i m lt e before h in
    record { is = is_meta boxes i m lt e h; has = p.0; front = p.1 }
