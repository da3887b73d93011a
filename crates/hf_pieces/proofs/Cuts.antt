-- A part of pieces is copied one slice after the other.
use Rattle.std.proofs.Common.{◌≡◌, ℕ, zero, suc, ◌+◌, ◌-◌, ◌<◌, min, true, List, [], ◌∷◌, ◌++◌, length, take, drop, get_or, refl, sym, ap, ◌∙◌, arith, append_assoc, length-append}
use Rattle.std.proofs.lemmas.Bool.{and_parts, and_from}
use Rattle.std.proofs.lemmas.List.{length-drop, take_min, drop_min, append-nil, take_at, take-map}
use Rattle.std.specs.Prelude.{nat_lt}
use Rattle.std.specs.Borrow.{Bor}
use Rattle.hf_pieces.specs.Bytes.{seen, joined, are_filled, with_piece, BeginsWith}
use Rattle.hf_pieces.proofs.Joins.{joined_more}

-- behind old stand len bytes from a place on, as far as the front has them; so many are still to be skipped, and so many to be taken
pub record HasCut (at len : ℕ) (old front : List ℕ) (skip left : ℕ) (now : List ℕ) : Type 0 where
  pub skip_is : skip ≡ at - length front
  pub left_is : left ≡ len - (length front - at)
  pub bytes : now ≡ old ++ take len (drop at front)

take_ends : (n : ℕ) (xs ys : List ℕ) → take n (xs ++ ys) ≡ take n xs ++ take (n - length xs) ys
take_ends zero [] ys = refl
take_ends zero (x ∷ xs) ys = let e : 0 - length (x ∷ xs) ≡ 0 = omega arith in rw e refl
take_ends (suc n) [] ys = let e : suc n - 0 ≡ suc n = omega arith in rw e refl
take_ends (suc n) (x ∷ xs) ys = let e : suc n - length (x ∷ xs) ≡ n - length xs = omega arith in rw e (ap (λ (l : List ℕ). x ∷ l) (take_ends n xs ys))

drop_ends : (n : ℕ) (xs ys : List ℕ) → drop n (xs ++ ys) ≡ drop n xs ++ drop (n - length xs) ys
drop_ends zero [] ys = refl
drop_ends zero (x ∷ xs) ys = let e : 0 - length (x ∷ xs) ≡ 0 = omega arith in rw e refl
drop_ends (suc n) [] ys = let e : suc n - 0 ≡ suc n = omega arith in rw e refl
drop_ends (suc n) (x ∷ xs) ys = let e : suc n - length (x ∷ xs) ≡ n - length xs = omega arith in rw e (drop_ends n xs ys)

-- as much of a slice as is to be taken
part : (s : List ℕ) (skip left start count : ℕ) → start ≡ min skip (length s) → count ≡ min left (length s - start)
    → take count (drop start s) ≡ take left (drop skip s)
part s skip left start count e f =
    let at : drop start s ≡ drop skip s = ap (λ (n : ℕ). drop n s) e ∙ drop_min skip s in
    let g : count ≡ min left (length (drop start s)) = omega (arith, e, f, length-drop start s) in
    ap (λ (n : ℕ). take n (drop start s)) g ∙ take_min left (drop start s) ∙ ap (λ (l : List ℕ). take left l) at

pub cut_more : (at len : ℕ) (old front s : List ℕ) (skip left start count : ℕ) (now text : List ℕ) → HasCut at len old front skip left now
    → start ≡ min skip (length s) → count ≡ min left (length s - start)
    → text ≡ take count (drop start s) → HasCut at len old (front ++ s) (skip - start) (left - count) (now ++ text)
cut_more at len old front s skip left start count now text h e f g =
    let ends : take len (drop at (front ++ s)) ≡ take len (drop at front) ++ take (len - length (drop at front)) (drop (at - length front) s) =
    ap (take len) (drop_ends at front s) ∙ take_ends len (drop at front) (drop (at - length front) s)
    in
    let taken : len - length (drop at front) ≡ left = omega (arith, h.left_is, length-drop at front) in
    record {
      skip_is = omega (arith, h.skip_is, e, length-append front s);
      left_is = omega (arith, h.left_is, h.skip_is, e, f, length-append front s);
      bytes = ap (λ (l : List ℕ). l ++ text) h.bytes
          ∙ append_assoc old (take len (drop at front)) text
          ∙ ap (λ (l : List ℕ). old ++ (take len (drop at front) ++ l)) (g ∙ part s skip left start count e f)
          ∙ ap (λ (l : List ℕ). old ++ l) (sym (ends ∙ ap (λ (n : ℕ). take len (drop at front) ++ take n (drop (at - length front) s)) taken
          ∙ ap (λ (n : ℕ). take len (drop at front) ++ take left (drop n s)) (sym h.skip_is)));
    }

-- with one slice more of a list
pub cuts_more : (at len : ℕ) (old : List ℕ) (slices : List (Bor (List ℕ))) (place : ℕ) (d : Bor (List ℕ)) (skip left start count : ℕ) (now next : List ℕ)
    → place < length slices
    → HasCut at len old (joined (seen (take place slices))) skip left now → start ≡ min skip (length (get_or slices place d).now)
    → count ≡ min left (length (get_or slices place d).now - start)
    → next ≡ now ++ take ((start + count) - start) (drop start (get_or slices place d).now)
    → HasCut at len old (joined (seen (take (place + 1) slices))) (skip - start) (left - count) next
cuts_more at len old slices place d skip left start count now next less h e f g =
    let text : take ((start + count) - start) (drop start (get_or slices place d).now) ≡ take count (drop start (get_or slices place d).now) =
    ap (λ (n : ℕ). take n (drop start (get_or slices place d).now)) (omega arith) in
    rw (joined_more slices place d less, g) (cut_more at len old (joined (seen (take place slices))) (get_or slices place d).now skip left start count now _ h e f text)

-- ---- what stood there first

pub begins_here : (pieces : List (List ℕ)) → BeginsWith pieces pieces
begins_here pieces = ([], sym (append-nil pieces))

pub begins_more : (front pieces : List (List ℕ)) (piece : List ℕ) → BeginsWith front pieces → BeginsWith front (with_piece pieces piece)
begins_more front pieces [] begins = begins
begins_more front pieces (b ∷ bs) (rest, is) =
    (rest ++ (b ∷ bs) ∷ [], ap (λ (l : List (List ℕ)). l ++ (b ∷ bs) ∷ []) is ∙ append_assoc front rest ((b ∷ bs) ∷ []))

pub front_again : (front pieces : List (List ℕ)) (count : ℕ) → BeginsWith front pieces → length front ≡ count → take count pieces ≡ front
front_again front pieces count (rest, is) e = ap (take count) is ∙ take_at front rest count e

filled_take : (slices : List (Bor (List ℕ))) (count : ℕ) → are_filled (seen slices) ≡ true → are_filled (seen (take count slices)) ≡ true
filled_take [] zero all = refl
filled_take [] (suc count) all = refl
filled_take (s ∷ ss) zero all = refl
filled_take (s ∷ ss) (suc count) all =
    let parts = and_parts (nat_lt 0 (length s.now)) (are_filled (seen ss)) all in
    and_from (nat_lt 0 (length s.now)) (are_filled (seen (take count ss))) parts.0 (filled_take ss count parts.1)

pub seen_front : (slices left : List (Bor (List ℕ))) (count : ℕ) (pieces : List (List ℕ)) → left ≡ take count slices → seen slices ≡ pieces
    → seen left ≡ take count pieces
seen_front slices left count pieces is whole = ap seen is ∙ sym (take-map (λ (s : Bor (List ℕ)). s.now) count slices) ∙ ap (take count) whole

pub filled_front : (slices left : List (Bor (List ℕ))) (count : ℕ) → left ≡ take count slices → are_filled (seen slices) ≡ true → are_filled (seen left) ≡ true
filled_front slices left count is all = ap (λ (l : List (Bor (List ℕ))). are_filled (seen l)) is ∙ filled_take slices count all
