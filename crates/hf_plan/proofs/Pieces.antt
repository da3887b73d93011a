-- The numbers of properties, item by item.
use Rattle.std.proofs.Common.{◌≡◌, ℕ, zero, suc, ◌+◌, ◌-◌, ◌<◌, List, [], ◌∷◌, ◌++◌, length, length-append, map, take, drop, refl, sym, ap, ◌∙◌, subst, append_assoc, arith, Some}
use Rattle.std.specs.Prelude.{slice_get}
use Rattle.std.specs.List.{slice_index}
use Rattle.std.proofs.Math.Seq.{drop-append_seam}
use Rattle.std.proofs.lemmas.List.{length-map, map-append, append-nil, take_at}
use Rattle.hf_prop.specs.declared.prop.Prop.{Prop}
use Rattle.hf_table.specs.Held.{all_props}
use Rattle.hf_store.proofs.Spots.{some_is}
use Rattle.hf_plan.specs.Plan.{Planned, IsNumber}
use Rattle.hf_plan.specs.Seen.{pieces_at, planned_of}
use Rattle.hf_plan.specs.declared.planned.Plan.TheInside.{Inside}

-- ---- what stands in a piece stands in the whole

in_drop : {A : Type 0} (n : ℕ) (xs : List A) (k : ℕ) (x : A) → slice_get (drop n xs) k ≡ Some x → slice_get xs (n + k) ≡ Some x
in_drop zero xs k x e = let here : 0 + k ≡ k = omega arith in ap (slice_get xs) here ∙ e
in_drop (suc n) [] k x e = absurd cc
in_drop (suc n) (y ∷ ys) k x e = let later : suc n + k ≡ suc (n + k) = omega arith in ap (slice_get (y ∷ ys)) later ∙ in_drop n ys k x e

in_take : {A : Type 0} (n : ℕ) (xs : List A) (k : ℕ) (x : A) → slice_get (take n xs) k ≡ Some x → slice_get xs k ≡ Some x
in_take zero xs k x e = absurd cc
in_take (suc n) [] k x e = absurd cc
in_take (suc n) (y ∷ ys) zero x e = e
in_take (suc n) (y ∷ ys) (suc k) x e = in_take n ys k x e

pub in_piece : (begins xs : List ℕ) (i j : ℕ) (piece : List ℕ) (x : ℕ) → slice_get (pieces_at begins xs) i ≡ Some piece → slice_get piece j ≡ Some x
    → (i < length begins) × (slice_get xs (slice_index begins i + j) ≡ Some x)
in_piece [] xs i j piece x here there = absurd cc
in_piece (b ∷ []) xs zero j piece x here there = (omega arith, in_drop b xs j x (subst (λ ys. slice_get ys j ≡ Some x) (sym (some_is here)) there))
in_piece (b ∷ []) xs (suc i) j piece x here there = absurd cc
in_piece (b ∷ e ∷ later) xs zero j piece x here there =
    (omega arith, in_drop b xs j x (in_take (e - b) (drop b xs) j x (subst (λ ys. slice_get ys j ≡ Some x) (sym (some_is here)) there)))
in_piece (b ∷ e ∷ later) xs (suc i) j piece x here there = let rest = in_piece (e ∷ later) xs i j piece x here there in (omega (arith, rest.0), rest.1)

-- the number that a plan has for a property, in the table of the code
pub number_at : (p : Inside) (q : Planned) (i j n : ℕ) → planned_of p ≡ q → IsNumber q i j n
    → (i < length p.table.starts.items) × (slice_get p.table.numbers.items (slice_index p.table.starts.items i + j) ≡ Some n)
number_at p q i j n view is =
    let has : IsNumber (planned_of p) i j n = subst (λ (r : Planned). IsNumber r i j n) (sym view) is in
    in_piece p.table.starts.items p.table.numbers.items i j has.numbers n has.item has.number

-- ---- where the pieces begin

abbrev begins_from : {A : Type 0} → ℕ → List (List A) → List ℕ
begins_from n [] = []
begins_from n (xs ∷ later) = n ∷ begins_from (n + length xs) later

begins_are : (n : ℕ) (begins : List ℕ) (lists : List (List Prop)) → length begins ≡ length lists
    → ((i : ℕ) → i < length lists → slice_index begins i ≡ n + length (all_props (take i lists))) → begins ≡ begins_from n lists
begins_are n [] [] count each = refl
begins_are n [] (ps ∷ lists) count each = absurd (omega (arith, count))
begins_are n (b ∷ bs) [] count each = absurd (omega (arith, count))
begins_are n (b ∷ bs) (ps ∷ lists) count each =
    let first : b ≡ n = each 0 (omega arith) ∙ omega arith in
    let next : (i : ℕ) → i < length lists → slice_index bs i ≡ n + length ps + length (all_props (take i lists)) = λ i within.
    each (suc i) (omega (arith, within)) ∙ omega (arith, length-append ps (all_props (take i lists)))
    in
    let rest = begins_are (n + length ps) bs lists (omega (arith, count)) next in
    ap (λ c. c ∷ bs) first ∙ ap (λ cs. n ∷ cs) rest

-- ---- each list is its piece

module _ (f : Prop → ℕ) where
  whole-cons : (ps : List Prop) (lists : List (List Prop)) → map f (all_props (ps ∷ lists)) ≡ map f ps ++ map f (all_props lists)
  whole-cons ps lists = map-append f ps (all_props lists)

  after : (before xs ys : List ℕ) (n : ℕ) → n ≡ length before → drop n (before ++ (xs ++ ys)) ≡ xs ++ ys
  after before xs ys n is = ap (λ k. drop k (before ++ (xs ++ ys))) is ∙ drop-append_seam before (xs ++ ys)

  pieces_from : (before : List ℕ) (n : ℕ) (lists : List (List Prop)) → n ≡ length before
      → pieces_at (begins_from n lists) (before ++ map f (all_props lists)) ≡ map (map f) lists
  pieces_from before n [] is = refl
  pieces_from before n (ps ∷ []) is =
      let rest : map f (all_props (ps ∷ [])) ≡ map f ps = ap (map f) (append-nil ps) in
      ap (λ xs. xs ∷ []) (ap (λ k. drop k (before ++ map f (all_props (ps ∷ [])))) is ∙ drop-append_seam before (map f (all_props (ps ∷ []))) ∙ rest)
  pieces_from before n (ps ∷ qs ∷ lists) is =
      let later = map f (all_props (qs ∷ lists)) in
      let all : before ++ map f (all_props (ps ∷ qs ∷ lists)) ≡ before ++ (map f ps ++ later) = ap (λ xs. before ++ xs) (whole-cons ps (qs ∷ lists)) in
      let len : n + length ps - n ≡ length (map f ps) = omega (arith, length-map ps f) in
      let first : take (n + length ps - n) (drop n (before ++ (map f ps ++ later))) ≡ map f ps =
      ap (λ xs. take (n + length ps - n) xs) (after before (map f ps) later n is) ∙ take_at (map f ps) later (n + length ps - n) (sym len)
      in
      let next : n + length ps ≡ length (before ++ map f ps) = omega (arith, is, length-append before (map f ps), length-map ps f) in
      let rest : pieces_at (begins_from (n + length ps) (qs ∷ lists)) (before ++ (map f ps ++ later)) ≡ map (map f) (qs ∷ lists) =
      ap (pieces_at (begins_from (n + length ps) (qs ∷ lists))) (sym (append_assoc before (map f ps) later))
      ∙ pieces_from (before ++ map f ps) (n + length ps) (qs ∷ lists) next
      in
      ap (pieces_at (begins_from n (ps ∷ qs ∷ lists))) all
      ∙ ap (λ xs. xs ∷ pieces_at (begins_from (n + length ps) (qs ∷ lists)) (before ++ (map f ps ++ later))) first
      ∙ ap (λ xss. map f ps ∷ xss) rest

  pub pieces_are : (begins numbers : List ℕ) (lists : List (List Prop)) → numbers ≡ map f (all_props lists) → length begins ≡ length lists
      → ((i : ℕ) → i < length lists → slice_index begins i ≡ length (all_props (take i lists))) → pieces_at begins numbers ≡ map (map f) lists
  pieces_are begins numbers lists are count each =
      ap (λ ns. pieces_at begins ns) are
      ∙ ap (λ bs. pieces_at bs (map f (all_props lists))) (begins_are 0 begins lists count (λ i within. each i within ∙ omega arith))
      ∙ pieces_from [] 0 lists refl
