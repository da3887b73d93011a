-- The properties so far, where lists of properties are gone through.
use Rattle.std.proofs.Common.{inl, inr, ◌≡◌, ℕ, ◌+◌, ◌<◌, ◌≤◌, List, [], ◌∷◌, ◌++◌, length}
use Rattle.std.proofs.Common.{take, drop, get_or, sym, ap, subst, ◌∙◌, arith, cond, true, false, Bool, length-append}
use Rattle.std.specs.Prelude.{fold, slice_get, Some}
use Rattle.std.specs.List.{list_any}
use Rattle.std.proofs.lemmas.Bool.{cases_lt}
use Rattle.std.proofs.lemmas.List.{append-nil, get_or_append_left, get_or_push, take_more, take-append-drop}
use Rattle.std.proofs.lemmas.List.Sums.{fold-append}
use Rattle.std.proofs.lemmas.Option.{get_or_from_slice_get, slice_get_within}
use Rattle.std.proofs.lemmas.Grind.{flat_map-append}
use Rattle.hf_prop.specs.declared.prop.Prop.{Prop}
use Rattle.hf_table.specs.Held.{all_props}
use Rattle.hf_table.specs.Table.{same_prop, with_prop, table}

-- ---- a table grows
with-longer : (b : Bool) (qs : List Prop) (p : Prop) → length qs ≤ length (cond b qs (qs ++ p ∷ []))
with-longer true qs p = omega arith
with-longer false qs p = omega (arith, length-append qs (p ∷ []))

pub fold-longer : (qs ps : List Prop) → length qs ≤ length (fold with_prop qs ps)
fold-longer qs [] = omega arith
fold-longer qs (p ∷ ps) = let a = with-longer (list_any (same_prop p) qs) qs p in let b = fold-longer (with_prop qs p) ps in omega arith

-- a table of a part is no longer than that of all
pub few-so-far : (qs ps rest : List Prop) (n : ℕ) → length (fold with_prop qs (ps ++ rest)) ≤ n → length (fold with_prop qs ps) ≤ n
few-so-far qs ps rest n few = let e = ap length (fold-append with_prop qs ps rest) in let m = fold-longer (fold with_prop qs ps) rest in omega arith

-- ---- one list more
module _ (lists : List (List Prop)) (i : ℕ) (ps : List Prop) (at : slice_get lists i ≡ Some ps) where
  there : i < length lists
  there = slice_get_within lists i ps at

  pub all-more : all_props (take (i + 1) lists) ≡ all_props (take i lists) ++ ps
  all-more =
      ap all_props (take_more lists i ps there ∙ ap (λ y. take i lists ++ y ∷ []) (get_or_from_slice_get lists i ps ps at))
      ∙ flat_map-append (λ (l : List Prop). l) (take i lists) (ps ∷ []) ∙ ap (λ l. all_props (take i lists) ++ l) (append-nil ps)

  pub few-kinds : (keys : List Prop) (n : ℕ) → keys ≡ table (all_props (take i lists)) → length (table (all_props lists)) ≤ n
      → length (fold with_prop keys ps) ≤ n
  few-kinds keys n seen few =
      let parts : all_props lists ≡ all_props (take (i + 1) lists) ++ all_props (drop (i + 1) lists) =
      ap all_props (sym (take-append-drop (i + 1) lists)) ∙ flat_map-append (λ (l : List Prop). l) (take (i + 1) lists) (drop (i + 1) lists) in
      let whole : length (table (all_props (take (i + 1) lists))) ≤ n =
      few-so-far [] (all_props (take (i + 1) lists)) (all_props (drop (i + 1) lists)) n (subst (λ l. length (table l) ≤ n) parts few) in
      let now : fold with_prop keys ps ≡ table (all_props (take (i + 1) lists)) =
      ap (λ ks. fold with_prop ks ps) seen ∙ sym (fold-append with_prop [] (all_props (take i lists)) ps) ∙ ap table (sym all-more) in
      subst (λ l. length l ≤ n) (sym now) whole

-- one more number, where the n-th of them is f n
pub starts-more : (ss new : List ℕ) (n x : ℕ) (f : ℕ → ℕ) → new ≡ ss ++ x ∷ [] → length ss ≡ n → ((k : ℕ) → k < n → get_or ss k 0 ≡ f k) → x ≡ f n
    → (k : ℕ) → k < n + 1 → get_or new k 0 ≡ f k
starts-more ss new n x f pushed e below here k h =
    ap (λ l. get_or l k 0) pushed
    ∙ elim (cases_lt k n) [
      | inl less ↦ get_or_append_left ss (x ∷ []) 0 k (omega arith) ∙ below k less
      | inr more ↦ let same : k ≡ n = omega arith in get_or_push ss x 0 k (e ∙ sym same) ∙ here ∙ ap f (sym same)
    ]
