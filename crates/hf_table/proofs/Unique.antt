-- Tables of the same lists say the same.
use Rattle.std.proofs.Common.{◌≡◌, ℕ, zero, suc, ◌+◌, ◌<◌, ◌≤◌, List, [], ◌∷◌, length, take, refl, sym, ap, ◌∙◌, arith, inl, inr, length-append}
use Rattle.std.specs.List.{AllZip}
use Rattle.std.proofs.lemmas.Bool.{cases_lt}
use Rattle.std.proofs.lemmas.Grind.{same_number_lists}
use Rattle.std.proofs.lemmas.List.{length-map}
use Rattle.std.proofs.lemmas.Option.{slice_get_within}
use Rattle.hf_prop.specs.declared.prop.Prop.{Prop}
use Rattle.hf_table.specs.Held.{all_props}
use Rattle.hf_table.specs.Laws.{TablesAreAlike, PlacesAreThere}
use Rattle.hf_table.specs.Numbered.{place_of, Stands, IsFirst}
use Rattle.hf_table.specs.Table.{number_of, table}
use Rattle.hf_table.proofs.Cuts.{all-more}
use Rattle.hf_table.proofs.Places.{list-there, place-there}

front-shorter : (lists : List (List Prop)) (m n : ℕ) → m ≤ n → length (all_props (take m lists)) ≤ length (all_props (take n lists))
front-shorter lists zero n h = omega arith
front-shorter lists (suc m) zero h = absurd (omega arith)
front-shorter [] (suc m) (suc n) h = omega arith
front-shorter (ps ∷ lists) (suc m) (suc n) h =
    let rest = front-shorter lists m n (omega arith) in
    omega (arith, length-append ps (all_props (take m lists)), length-append ps (all_props (take n lists)))

-- a place in an earlier list is an earlier place of all
earlier-place : (lists : List (List Prop)) (i j k l : ℕ) (p : Prop) → Stands lists i j p → i < k → place_of lists i j < place_of lists k l
earlier-place lists i j k l p s h =
    let front = front-shorter lists (i + 1) k (omega arith) in
    let whole = ap length (all-more lists i s.props s.at) in
    let within = slice_get_within s.props j p s.held in
    omega (arith, length-append (all_props (take i lists)) s.props)

module _ (lists : List (List Prop)) where
  same-list : (i j k l : ℕ) (p q : Prop) → Stands lists i j p → Stands lists k l q → place_of lists i j ≡ place_of lists k l → i ≡ k
  same-list i j k l p q s t e =
      elim (cases_lt i k) [
        | inl less ↦ let a = earlier-place lists i j k l p s less in absurd (omega arith)
        | inr more ↦ elim (cases_lt k i) [
          | inl less ↦ let a = earlier-place lists k l i j q t less in absurd (omega arith)
          | inr same ↦ omega arith
        ]
      ]

  same-place : (v w : ℕ × ℕ) (p q : Prop) → Stands lists v.0 v.1 p → Stands lists w.0 w.1 q → place_of lists v.0 v.1 ≡ place_of lists w.0 w.1 → v ≡ w
  same-place v w p q s t e =
      let first : v.0 ≡ w.0 = same-list v.0 v.1 w.0 w.1 p q s t e in
      let front = ap (λ n. length (all_props (take n lists))) first in
      let second : v.1 ≡ w.1 = omega arith in
      (λ k. (first k, second k))

  first-unique : (ps : List Prop) (v w : ℕ × ℕ) (p : Prop) → IsFirst lists ps v p → IsFirst lists ps w p → v ≡ w
  first-unique ps v w p f g = same-place v w p p f.stands g.stands (f.place ∙ sym g.place)

  pub firsts-unique : (ps : List Prop) (vs ws : List (ℕ × ℕ)) (qs : List Prop) → AllZip (IsFirst lists ps) vs qs → AllZip (IsFirst lists ps) ws qs → vs ≡ ws
  firsts-unique ps [] [] qs f g = refl
  firsts-unique ps [] (w ∷ ws) [] f g = absurd g
  firsts-unique ps [] (w ∷ ws) (q ∷ qs) f g = absurd f
  firsts-unique ps (v ∷ vs) [] [] f g = absurd f
  firsts-unique ps (v ∷ vs) [] (q ∷ qs) f g = absurd g
  firsts-unique ps (v ∷ vs) (w ∷ ws) [] f g = absurd f
  firsts-unique ps (v ∷ vs) (w ∷ ws) (q ∷ qs) f g =
      let one = first-unique ps v w q f.0 g.0 in
      let more = firsts-unique ps vs ws qs f.1 g.1 in
      (λ k. one k ∷ more k)

pub tables_are_alike : TablesAreAlike
tables_are_alike lists some other s o = (
  firsts-unique lists (all_props lists) some.firsts.items other.firsts.items (table (all_props lists)) s.firsts o.firsts,
  s.numbers ∙ sym o.numbers,
  same_number_lists some.starts.items other.starts.items (s.count ∙ sym o.count)
      (λ k h. (let there : k < length lists = let e = s.count in omega arith in s.starts k there ∙ sym (o.starts k there))),
)

pub places_are_there : PlacesAreThere
places_are_there lists t i j p h s =
    let there = list-there lists i j p s in
    let count = h.count in
    let start = h.starts i there in
    let place = place-there lists i j p s in
    let numbers = ap length h.numbers ∙ length-map (all_props lists) (λ q. number_of q (table (all_props lists))) in
    (omega arith, omega arith)
