-- One more property comes to a table that is being made.
use Rattle.std.proofs.Common.{◌≡◌, ℕ, ◌+◌, ◌<◌, List, [], ◌∷◌, ◌++◌, length, map, sym, ap, subst, ◌∙◌, arith, cond, true, false, length-append}
use Rattle.std.specs.List.{list_any, position_or_len, AllZip}
use Rattle.std.proofs.lemmas.List.{map-append}
use Rattle.std.proofs.lemmas.List.Sums.{fold_push}
use Rattle.hf_prop.specs.declared.prop.Prop.{Prop}
use Rattle.hf_table.specs.Numbered.{IsFirst, Stands, place_of}
use Rattle.hf_table.specs.Table.{same_prop, number_of, with_prop, table}
use Rattle.hf_table.proofs.Tables.{same_prop-self}
use Rattle.hf_table.proofs.Tally.{table-any}
use Rattle.hf_table.proofs.Numbers.{position-grow, position-end, number-comes, numbers-stay, zip-weaker, zip-push}

module _ (lists : List (List Prop)) (ps : List Prop) (p : Prop) where
  first-grow : (w : ℕ × ℕ) (q : Prop) → IsFirst lists ps w q → IsFirst lists (ps ++ p ∷ []) w q
  first-grow w q f = record {
    place = f.place ∙ sym (position-grow (same_prop q) ps (p ∷ []) (subst (λ n. n < length ps) f.place f.there));
    there = let t = f.there in omega (arith, length-append ps (p ∷ []));
    stands = f.stands;
  }

  -- keys, places and numbers so far, and those after the property has come
  module _ (keys : List Prop) (seen : keys ≡ table ps) where
    pub seen-more : with_prop keys p ≡ table (ps ++ p ∷ [])
    seen-more = ap (λ ks. with_prop ks p) seen ∙ sym (fold_push with_prop [] ps p)

    any-seen : (q : Prop) → list_any (same_prop q) keys ≡ list_any (same_prop q) ps
    any-seen q = ap (list_any (same_prop q)) seen ∙ table-any q ps

    pub numbers-more : map (λ q. number_of q keys) ps ++ (position_or_len (same_prop p) keys + 1) ∷ []
        ≡ map (λ q. number_of q (with_prop keys p)) (ps ++ p ∷ [])
    numbers-more =
        let old = numbers-stay ps keys p (λ r e. any-seen r ∙ e) in
        let one = number-comes p keys in
        sym (map-append (λ q. number_of q (with_prop keys p)) ps (p ∷ []) ∙ (λ j. old j ++ one j ∷ []))

    module _ (places : List (ℕ × ℕ)) (firsts : AllZip (IsFirst lists ps) places keys) where
      kept : AllZip (IsFirst lists (ps ++ p ∷ [])) places keys
      kept = zip-weaker (IsFirst lists ps) (IsFirst lists (ps ++ p ∷ [])) first-grow places keys firsts

      pub firsts-kept : list_any (same_prop p) keys ≡ true → AllZip (IsFirst lists (ps ++ p ∷ [])) places (with_prop keys p)
      firsts-kept e = subst (λ b. AllZip (IsFirst lists (ps ++ p ∷ [])) places (cond b keys (keys ++ p ∷ []))) (sym e) kept

      pub firsts-more : (i j : ℕ) → place_of lists i j ≡ length ps → Stands lists i j p → list_any (same_prop p) keys ≡ false
          → AllZip (IsFirst lists (ps ++ p ∷ [])) (places ++ (i, j) ∷ []) (with_prop keys p)
      firsts-more i j here at e =
          let new : IsFirst lists (ps ++ p ∷ []) (i, j) p = record {
            place = here ∙ sym (position-end (same_prop p) ps p (sym (any-seen p) ∙ e) (same_prop-self p));
            there = omega (arith, length-append ps (p ∷ []));
            stands = at;
          } in
          subst (λ b. AllZip (IsFirst lists (ps ++ p ∷ [])) (places ++ (i, j) ∷ []) (cond b keys (keys ++ p ∷ []))) (sym e)
          (zip-push (IsFirst lists (ps ++ p ∷ [])) places keys (i, j) p kept new)
