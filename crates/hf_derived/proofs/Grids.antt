-- The grid that is read stands there, and the grid that stands there is read.
use Rattle.std.proofs.Common.{◌≡◌, ℕ, suc, ◌+◌, ◌-◌, ◌*◌, ◌^◌, ◌<◌, ◌≤◌, Bool, true, false, ◌&&◌, cond, eqb, leb, List, [], ◌∷◌, ◌++◌, length, take, drop, get_or, Some, None, refl, sym, ap, subst, ◌∙◌, arith, inl, inr}
use Rattle.std.specs.Prelude.{Option, IfSome}
use Rattle.std.proofs.lemmas.Bool.{cases_lt, and_parts, eqb-true, eq-eqb, ne_eqb, leb-true, le-leb, lt-leb}
use Rattle.std.proofs.lemmas.List.{append-nil, length-take, length-drop, drop-drop}
use Rattle.hf_base.specs.Number.{IsBytes, num, number}
use Rattle.hf_base.specs.ReadingLaws.{IsBytes-drop}
use Rattle.hf_derived.specs.Derived.{side}
use Rattle.hf_derived.specs.Grid.{IsGrid, IsGridOf, grid_at, grid_body}
use Rattle.hf_derived.specs.declared.grid.Grid.{Grid}
use Rattle.hf_derived.proofs.Sides.{two_bytes, side_cases, side_told, flag_fits, two_again, two_stand, number_front, some_if, unmet, unmet_is}

-- a grid of so many rows and columns, with these bytes behind them
abbrev pub made : ℕ → ℕ → ℕ → List ℕ → Grid
made flags rows columns rest = record {
  rows = suc rows;
  columns = suc columns;
  width = number (side flags) rest;
  height = number (side flags) (drop (side flags) rest);
}

-- four bytes and more
pub grid_at-is : (version flags rows columns : ℕ) (rest : List ℕ) → grid_at (version ∷ flags ∷ rows ∷ columns ∷ rest) ≡ cond (eqb version 0 && leb (2 * side flags) (length rest)) (Some (made flags rows columns rest)) None
unfolding grid_at
grid_at-is version flags rows columns rest = refl

grid_same : (g : Grid) (rows columns width height : ℕ) → g.rows ≡ rows → g.columns ≡ columns → width ≡ g.width → height ≡ g.height
    → record { rows = rows; columns = columns; width = width; height = height } ≡ g
grid_same g rows columns width height a b c d =
    let of : ℕ → ℕ → ℕ → ℕ → Grid = λ r k w h. record { rows = r; columns = k; width = w; height = h } in
    ap (λ (n : ℕ). of n columns width height) (sym a) ∙ ap (λ (n : ℕ). of g.rows n width height) (sym b) ∙ ap (λ (n : ℕ). of g.rows g.columns n height) c ∙ ap (λ (n : ℕ). of g.rows g.columns g.width n) d

pub grid_only : (bytes : List ℕ) (g : Grid) → IsGrid bytes g → grid_at bytes ≡ Some g
grid_only bytes g h =
    let s = side h.flags in
    let sides = num g.width s ++ (num g.height s ++ h.rest) in
    let again = two_again s g.width g.height h.rest h.width_fits h.height_fits in
    let long : leb (2 * s) (length sides) ≡ true = le-leb (2 * s) (length sides) again.long in
    let parts : bytes ≡ 0 ∷ h.flags ∷ h.rows_minus_one ∷ h.columns_minus_one ∷ sides =
    h.is ∙ two_bytes 0 h.flags (num h.rows_minus_one 1 ++ (num h.columns_minus_one 1 ++ sides)) (omega arith) h.flags_fit
    ∙ ap (λ (l : List ℕ). 0 ∷ h.flags ∷ l) (two_bytes h.rows_minus_one h.columns_minus_one sides h.rows_fit h.columns_fit)
    in
    let is = grid_at-is 0 h.flags h.rows_minus_one h.columns_minus_one sides in
    let chosen : cond (eqb 0 0 && leb (2 * s) (length sides)) (Some (made h.flags h.rows_minus_one h.columns_minus_one sides)) None ≡ Some (made h.flags h.rows_minus_one h.columns_minus_one sides) = rw long refl in
    ap grid_at parts ∙ is ∙ chosen ∙ ap (λ (x : Grid). Some x) (grid_same g (suc h.rows_minus_one) (suc h.columns_minus_one) (number s sides) (number s (drop s sides)) h.rows h.columns again.first again.second)

pub grid_found : (bytes : List ℕ) (g : Grid) → IsBytes (take 12 bytes) → grid_at bytes ≡ Some g → IsGrid bytes g
unfolding grid_at
grid_found [] g fits e = absurd cc
grid_found (a ∷ []) g fits e = absurd cc
grid_found (a ∷ b ∷ []) g fits e = absurd cc
grid_found (a ∷ b ∷ c ∷ []) g fits e = absurd cc
grid_found (version ∷ flags ∷ rows ∷ columns ∷ rest) g fits e =
    let s = side flags in
    let k = some_if (eqb version 0 && leb (2 * s) (length rest)) (made flags rows columns rest) g e in
    let p = and_parts (eqb version 0) (leb (2 * s) (length rest)) k.0 in
    let zero : version ≡ 0 = eqb-true version 0 p.0 in
    let long : 2 * s ≤ length rest = leb-true (2 * s) (length rest) p.1 in
    let rest_fits : IsBytes (take 8 rest) = IsBytes-drop 4 (version ∷ flags ∷ rows ∷ columns ∷ take 8 rest) fits in
    let few : 2 * s ≤ 8 = elim (side_cases flags) [ inl e ↦ omega arith | inr e ↦ omega arith ] in
    let stand = two_stand 8 s rest few long rest_fits in
    let width = number s rest in
    let height = number s (drop s rest) in
    let tail = num width s ++ (num height s ++ drop s (drop s rest)) in
    let is : version ∷ flags ∷ rows ∷ columns ∷ rest ≡ num 0 1 ++ (num flags 1 ++ (num rows 1 ++ (num columns 1 ++ tail))) =
    ap (λ (v : ℕ). v ∷ flags ∷ rows ∷ columns ∷ rest) zero
    ∙ ap (λ (l : List ℕ). 0 ∷ flags ∷ rows ∷ columns ∷ l) stand.parts
    ∙ ap (λ (l : List ℕ). 0 ∷ flags ∷ l) (sym (two_bytes rows columns tail (fits 2) (fits 3)))
    ∙ sym (two_bytes 0 flags (num rows 1 ++ (num columns 1 ++ tail)) (omega arith) (fits 1))
    in
    subst (λ (x : Grid). IsGrid (version ∷ flags ∷ rows ∷ columns ∷ rest) x) k.1 (record {
      flags = flags;
      rows_minus_one = rows;
      columns_minus_one = columns;
      rest = drop s (drop s rest);
      is = is;
      flags_fit = fits 1;
      rows_fit = fits 2;
      rows = refl;
      columns_fit = fits 3;
      columns = refl;
      width_fits = stand.first;
      height_fits = stand.second;
    })

pub one_grid : (bytes : List ℕ) (some other : Grid) → IsGrid bytes some → IsGrid bytes other → some ≡ other
one_grid bytes some other p q = let e = sym (grid_only bytes some p) ∙ grid_only bytes other q in cc

-- a number above 0 is one more than the number below it
one_more : (n : ℕ) → 0 < n → n ≡ suc (n - 1)
one_more n some = omega arith

pub grid_again : (long : Bool) (g : Grid) → IsGridOf long g → IsGrid (grid_body long g) g
unfolding grid_body
grid_again long g h =
    let told = side_told long in
    record {
      flags = cond long 1 0;
      rows_minus_one = g.rows - 1;
      columns_minus_one = g.columns - 1;
      rest = [];
      is = rw (told, append-nil (num g.height (cond long 4 2))) refl;
      flags_fit = flag_fits long;
      rows_fit = h.rows;
      rows = one_more g.rows h.some_rows;
      columns_fit = h.columns;
      columns = one_more g.columns h.some_columns;
      width_fits = subst (λ (n : ℕ). g.width < 256 ^ n) (sym told) h.width;
      height_fits = subst (λ (n : ℕ). g.height < 256 ^ n) (sym told) h.height;
    }

-- ---- the first twelve bytes tell

-- too short
pub grid_short : (bytes : List ℕ) → length bytes < 4 → grid_at bytes ≡ None
unfolding grid_at
grid_short [] short = refl
grid_short (a ∷ []) short = refl
grid_short (a ∷ b ∷ []) short = refl
grid_short (a ∷ b ∷ c ∷ []) short = refl
grid_short (a ∷ b ∷ c ∷ d ∷ rest) short = absurd (omega arith)

-- by places
pub grid_by_places : (bytes : List ℕ) → 4 ≤ length bytes → grid_at bytes ≡ cond (eqb (get_or bytes 0 0) 0 && leb (2 * side (get_or bytes 1 0)) (length (drop 4 bytes))) (Some (made (get_or bytes 1 0) (get_or bytes 2 0) (get_or bytes 3 0) (drop 4 bytes))) None
unfolding grid_at
grid_by_places [] long = absurd (omega arith)
grid_by_places (a ∷ []) long = absurd (omega arith)
grid_by_places (a ∷ b ∷ []) long = absurd (omega arith)
grid_by_places (a ∷ b ∷ c ∷ []) long = absurd (omega arith)
grid_by_places (a ∷ b ∷ c ∷ d ∷ rest) long = refl

front_cell : (flags rows columns : ℕ) (rest : List ℕ) → 2 * side flags ≤ length rest → made flags rows columns (take 8 rest) ≡ made flags rows columns rest
front_cell flags rows columns rest long =
    let s = side flags in
    let few : 2 * s ≤ 8 = elim (side_cases flags) [ inl e ↦ omega arith | inr e ↦ omega arith ] in
    grid_same (made flags rows columns rest) (suc rows) (suc columns) (number s (take 8 rest)) (number s (drop s (take 8 rest))) refl refl
    (number_front s 0 8 rest (omega arith) (omega arith))
    (number_front s s 8 rest (omega arith) (omega arith))

pub same_test : (n room : ℕ) (rest : List ℕ) → n ≤ room → leb n (length (take room rest)) ≡ leb n (length rest)
same_test n room rest few = elim (cases_lt (length rest) n) [
  | inl less ↦ lt-leb n (length (take room rest)) (omega (arith, length-take room rest)) ∙ sym (lt-leb n (length rest) less)
  | inr more ↦ le-leb n (length (take room rest)) (omega (arith, length-take room rest)) ∙ sym (le-leb n (length rest) more)
]

pub grid_front : (bytes : List ℕ) → grid_at (take 12 bytes) ≡ grid_at bytes
unfolding grid_at
grid_front [] = refl
grid_front (a ∷ []) = refl
grid_front (a ∷ b ∷ []) = refl
grid_front (a ∷ b ∷ c ∷ []) = refl
grid_front (version ∷ flags ∷ rows ∷ columns ∷ rest) =
    let s = side flags in
    let few : 2 * s ≤ 8 = elim (side_cases flags) [ inl e ↦ omega arith | inr e ↦ omega arith ] in
    let test = same_test (2 * s) 8 rest few in
    let moved : cond (eqb version 0 && leb (2 * s) (length (take 8 rest))) (Some (made flags rows columns (take 8 rest))) None ≡ cond (eqb version 0 && leb (2 * s) (length rest)) (Some (made flags rows columns (take 8 rest))) None =
    ap (λ (b : Bool). cond (eqb version 0 && b) (Some (made flags rows columns (take 8 rest))) None) test
    in
    moved ∙ elim (cases_lt (length rest) (2 * s)) [
      | inl less ↦ unmet (eqb version 0) (leb (2 * s) (length rest)) (made flags rows columns (take 8 rest)) (made flags rows columns rest) (lt-leb (2 * s) (length rest) less)
      | inr long ↦ ap (λ (g : Grid). cond (eqb version 0 && leb (2 * s) (length rest)) (Some g) None) (front_cell flags rows columns rest long)
    ]

-- ---- what the code finds

pub version_fails : (bytes : List ℕ) → 4 ≤ length bytes → (get_or bytes 0 0 ≡ 0 → ⊥) → None ≡ grid_at bytes
version_fails bytes long other =
    let f : eqb (get_or bytes 0 0) 0 ≡ false = ne_eqb (get_or bytes 0 0) 0 other in
    sym (grid_by_places bytes long ∙ rw f refl)

pub sides_fail : (bytes : List ℕ) → 4 ≤ length bytes → length bytes < 4 + 2 * side (get_or bytes 1 0) → None ≡ grid_at bytes
sides_fail bytes long short =
    let s = side (get_or bytes 1 0) in
    let f : leb (2 * s) (length (drop 4 bytes)) ≡ false = lt-leb (2 * s) (length (drop 4 bytes)) (omega (arith, length-drop 4 bytes)) in
    sym (grid_by_places bytes long ∙ unmet_is (eqb (get_or bytes 0 0) 0) (leb (2 * s) (length (drop 4 bytes))) (made (get_or bytes 1 0) (get_or bytes 2 0) (get_or bytes 3 0) (drop 4 bytes)) f)

pub grid_is : (bytes : List ℕ) (rows columns width height : ℕ) → 4 ≤ length bytes → get_or bytes 0 0 ≡ 0 → 4 + 2 * side (get_or bytes 1 0) ≤ length bytes
    → rows ≡ get_or bytes 2 0 + 1 → columns ≡ get_or bytes 3 0 + 1 → width ≡ number (side (get_or bytes 1 0)) (drop 4 bytes) → height ≡ number (side (get_or bytes 1 0)) (drop (4 + side (get_or bytes 1 0)) bytes)
    → Some (record { rows = rows; columns = columns; width = width; height = height }) ≡ grid_at bytes
grid_is bytes rows columns width height long zero room a b c d =
    let s = side (get_or bytes 1 0) in
    let g = made (get_or bytes 1 0) (get_or bytes 2 0) (get_or bytes 3 0) (drop 4 bytes) in
    let f : leb (2 * s) (length (drop 4 bytes)) ≡ true = le-leb (2 * s) (length (drop 4 bytes)) (omega (arith, length-drop 4 bytes)) in
    let t : eqb (get_or bytes 0 0) 0 ≡ true = eq-eqb (get_or bytes 0 0) 0 zero in
    let places : grid_at bytes ≡ Some g = grid_by_places bytes long ∙ rw (t, f) refl in
    let high : height ≡ number s (drop s (drop 4 bytes)) = d ∙ ap (number s) (sym (drop-drop s 4 bytes)) in
    let first : suc (get_or bytes 2 0) ≡ rows = omega (arith, a) in
    let second : suc (get_or bytes 3 0) ≡ columns = omega (arith, b) in
    ap (λ (x : Grid). Some x) (grid_same g rows columns width height first second c high) ∙ sym places

pub reads : (bytes front : List ℕ) (r : Option Grid) → front ≡ take 12 bytes → r ≡ grid_at front → r ≡ grid_at bytes
reads bytes front r same is = is ∙ ap grid_at same ∙ grid_front bytes

pub finds : (bytes front : List ℕ) (r : Option Grid) → front ≡ take 12 bytes → IsBytes front → r ≡ grid_at bytes → IfSome r (λ g. IsGrid bytes g)
finds bytes front None same fits e = tt
finds bytes front (Some g) same fits e = grid_found bytes g (subst (λ (l : List ℕ). IsBytes l) same fits) (sym e)
