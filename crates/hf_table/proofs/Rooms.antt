-- Within the limits of a store the numbers of holders and the bytes of the boxes fit.
use Rattle.std.proofs.Common.{◌≡◌, ℕ, ◌*◌, ◌<◌, ◌≤◌, List, [], ◌∷◌, length, get_or, sym, ap, ◌∙◌, arith, true, false, Bool, ◌||◌, true≢false, refl}
use Rattle.std.specs.Prelude.{All}
use Rattle.std.specs.List.{list_any}
use Rattle.std.proofs.lemmas.Bool.{ltb-true, lt-ltb}
use Rattle.std.proofs.lemmas.List.Concat.{length-flat_map}
use Rattle.std.proofs.lemmas.List.Folds.{list_any_at}
use Rattle.std.proofs.lemmas.List.Sums.{sum_by-cons, sum_by-le, count_by-le-length}
use Rattle.hf_base.specs.declared.limits.TheConstants as limits
use Rattle.hf_prop.specs.declared.prop.Prop.{Prop}
use Rattle.hf_table.specs.Held.{all_props}
use Rattle.hf_table.specs.Laws.{LimitsLeaveRoom}
use Rattle.hf_table.specs.Table.{same_prop, places_of, prop_size, size_sum, table}
use Rattle.hf_table.proofs.Tables.{same_prop-is, same_prop-self}
use Rattle.hf_table.proofs.Tally.{placed, table-any, sizes-tallied}

size-below : (p : Prop) (ps : List Prop) → list_any (same_prop p) ps ≡ true → prop_size p ≤ size_sum ps
size-below p [] e = absurd (true≢false (sym e))
size-below p (q ∷ qs) e = by (same_prop p q) refl (λ f. size-below p qs (ap (λ b. b || list_any (same_prop p) qs) (sym f) ∙ e))
  where
    by : (b : Bool) → same_prop p q ≡ b → (same_prop p q ≡ false → prop_size p ≤ size_sum qs) → prop_size p ≤ size_sum (q ∷ qs)
    by true f later = let s = ap prop_size (same_prop-is p q f) in let c = sum_by-cons prop_size q qs in omega arith
    by false f later = let s = later f in let c = sum_by-cons prop_size q qs in omega arith

length-all : (lists : List (List Prop)) (n : ℕ) → All (λ (l : List Prop). length l ≤ n) lists → length (all_props lists) ≤ length lists * n
length-all lists n short =
    let e = length-flat_map (λ (l : List Prop). l) lists in
    let s = sum_by-le (λ (l : List Prop). length l) n lists short in
    omega arith

-- a property of the list is no longer than the table of all
size-within : (ps all : List Prop) (n : ℕ) → ((q : Prop) → places_of q ps ≤ places_of q all) → size_sum (table all) ≤ n → All (λ p. prop_size p ≤ n) ps
size-within ps all n among light k d within =
    let p = get_or ps k d in
    let some : 0 < places_of p ps = ltb-true 0 (places_of p ps) (sym (placed p ps) ∙ list_any_at (same_prop p) ps k d within (same_prop-self p)) in
    let more = among p in
    let there : list_any (same_prop p) (table all) ≡ true = table-any p all ∙ placed p all ∙ lt-ltb 0 (places_of p all) (omega arith) in
    let b = size-below p (table all) there in
    omega arith

pub limits_leave_room : LimitsLeaveRoom
limits_leave_room us lists ps all c t few short light brief among later =
    let size = sizes-tallied us (all_props lists) c t in
    let sum = sum_by-le prop_size limits.META ps (size-within ps all limits.META among later) in
    let long = length-all lists limits.PROPS short in (
      λ q. (let h = t.each q in let a = count_by-le-length (same_prop q) (all_props lists) in let b = count_by-le-length (same_prop q) ps in omega arith),
      omega arith,
    )
