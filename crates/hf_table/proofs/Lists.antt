-- Uses along a list of properties that is gone through from its front.
use Rattle.std.proofs.Common.{Bool, ◌≡◌, ℕ, ◌+◌, ◌<◌, ◌≤◌, ◌^◌, List, [], ◌∷◌, ◌++◌, take, drop, get_or, length, sym, ap, ◌∙◌, arith, cond, true, false}
use Rattle.std.specs.Prelude.{filter, sum_by}
use Rattle.std.proofs.lemmas.List.{take_more, take-append-drop, map-append}
use Rattle.std.proofs.lemmas.List.Elements.{filter-append}
use Rattle.std.proofs.lemmas.List.Sums.{sum_by-append}
use Rattle.hf_base.specs.declared.four.FourCc.{FourCc}
use Rattle.hf_prop.specs.declared.prop.Prop.{Prop}
use Rattle.hf_table.specs.Held.{props_in, of_kind, is_of, is_optional_of, optional_of}
use Rattle.hf_table.specs.Table.{same_prop, places_of}
use Rattle.hf_table.specs.Uses.{Use, holders_in, Gains, Trades, Holds, HasRoom}
use Rattle.hf_table.proofs.Tables.{same_prop-self}
use Rattle.hf_prop.specs.declared.held.Held.{Held}

pub gains-none : (us : List Use) → Gains us [] us
gains-none us = record { each = λ q. omega arith }

-- what came and went again
pub gains-undone : (a b c : List Use) (ps : List Prop) → Gains a ps b → Gains c ps b → Gains a [] c
gains-undone a b c ps up down = record { each = λ q. let x = up.each q in let y = down.each q in omega arith }

pub trades-gains : (a b c : List Use) (less more : List Prop) → Gains a more b → Gains c less b → Trades a less more c
trades-gains a b c less more up down = record { each = λ q. let x = up.each q in let y = down.each q in omega arith }

pub holds-gained : (a b : List Use) (ps qs : List Prop) → Gains a ps b → Holds a qs → Holds b qs
holds-gained a b ps qs up held q = let x = up.each q in let y = held q in omega arith

pub holds-those : (a b : List Use) (ps : List Prop) → Gains a ps b → Holds b ps
holds-those a b ps up q = let x = up.each q in omega arith

pub one-place : (p : Prop) → places_of p (p ∷ []) ≡ 1
one-place p = ap (λ b. 0 + cond b 1 0) (same_prop-self p)

pub holds-one : (us : List Use) (p : Prop) → Holds us (p ∷ []) → 0 < holders_in us p
holds-one us p held = let x = held p in let y = one-place p in omega arith

module _ {X : Type 0} (g : List X → List Prop) (joins : (xs ys : List X) → g (xs ++ ys) ≡ g xs ++ g ys) (xs : List X) where
  sum-within : (f : Prop → ℕ) (n : ℕ) → sum_by f (g (take n xs)) ≤ sum_by f (g xs)
  sum-within f n =
      let whole : sum_by f (g xs) ≡ sum_by f (g (take n xs)) + sum_by f (g (drop n xs)) =
      ap (λ l. sum_by f (g l)) (sym (take-append-drop n xs)) ∙ ap (sum_by f) (joins (take n xs) (drop n xs))
      ∙ sum_by-append f (g (take n xs)) (g (drop n xs)) in
      omega arith

  module _ (i : ℕ) (x : X) (there : i < length xs) (is : x ≡ get_or xs i x) where
    more : g (take (i + 1) xs) ≡ g (take i xs) ++ g (x ∷ [])
    more = ap g (take_more xs i x there ∙ ap (λ y. take i xs ++ y ∷ []) (sym is)) ∙ joins (take i xs) (x ∷ [])

    pub sum-more : (f : Prop → ℕ) → sum_by f (g (take (i + 1) xs)) ≡ sum_by f (g (take i xs)) + sum_by f (g (x ∷ []))
    sum-more f = ap (sum_by f) more ∙ sum_by-append f (g (take i xs)) (g (x ∷ []))

    pub sum-next : (f : Prop → ℕ) → sum_by f (g (take i xs)) + sum_by f (g (x ∷ [])) ≤ sum_by f (g xs)
    sum-next f = let a = sum-more f in let b = sum-within f (i + 1) in omega arith

    module _ (a b : List Use) where
      pub taken-holds : Holds a (g xs) → Gains b (g (take i xs)) a → Holds b (g (x ∷ []))
      taken-holds held down q = let h = held q in let d = down.each q in let n = sum-next (λ p. cond (same_prop q p) 1 0) in omega arith

      pub added-room : HasRoom a (g xs) → Gains a (g (take i xs)) b → (p : Prop) → g (x ∷ []) ≡ p ∷ [] → holders_in b p < 2 ^ 62
      added-room room up p one =
          let r = room.0 p in
          let u = up.each p in
          let n = sum-next (λ r. cond (same_prop p r) 1 0) in
          let here : places_of p (g (x ∷ [])) ≡ 1 = ap (places_of p) one ∙ one-place p in
          omega arith

      module _ (c : List Use) where
        pub taken-more : Gains b (g (take i xs)) a → Gains c (g (x ∷ [])) b → Gains c (g (take (i + 1) xs)) a
        taken-more down next = record {
          each = λ q. let d = down.each q in let e = next.each q in let m = sum-more (λ p. cond (same_prop q p) 1 0) in omega arith;
        }

        pub added-more : Gains a (g (take i xs)) b → Gains b (g (x ∷ [])) c → Gains a (g (take (i + 1) xs)) c
        added-more up next = record {
          each = λ q. let d = up.each q in let e = next.each q in let m = sum-more (λ p. cond (same_prop q p) 1 0) in omega arith;
        }

pub props-join : (xs ys : List Held) → props_in (xs ++ ys) ≡ props_in xs ++ props_in ys
props-join xs ys = map-append (λ (h : Held). h.prop) xs ys

-- the properties that pass a test
abbrev passing : (Held → Bool) → List Held → List Prop
passing test held = props_in (filter test held)

passing-join : (test : Held → Bool) (xs ys : List Held) → passing test (xs ++ ys) ≡ passing test xs ++ passing test ys
passing-join test xs ys = ap props_in (filter-append test xs ys) ∙ props-join (filter test xs) (filter test ys)

passing-one : (test : Held → Bool) (h : Held) → test h ≡ true → passing test (h ∷ []) ≡ h.prop ∷ []
passing-one test h e = ap (λ b. props_in (cond b (h ∷ []) [])) e

passing-none : (test : Held → Bool) (h : Held) → test h ≡ false → passing test (h ∷ []) ≡ []
passing-none test h e = ap (λ b. props_in (cond b (h ∷ []) [])) e

pub kinds-join : (kind : FourCc) (xs ys : List Held) → of_kind kind (xs ++ ys) ≡ of_kind kind xs ++ of_kind kind ys
kinds-join kind = passing-join (is_of kind)

pub kind-one : (kind : FourCc) (h : Held) → is_of kind h ≡ true → of_kind kind (h ∷ []) ≡ h.prop ∷ []
kind-one kind = passing-one (is_of kind)

pub kind-none : (kind : FourCc) (h : Held) → is_of kind h ≡ false → of_kind kind (h ∷ []) ≡ []
kind-none kind = passing-none (is_of kind)

pub optional-join : (kind : FourCc) (xs ys : List Held) → optional_of kind (xs ++ ys) ≡ optional_of kind xs ++ optional_of kind ys
optional-join kind = passing-join (is_optional_of kind)

pub optional-one : (kind : FourCc) (h : Held) → is_optional_of kind h ≡ true → optional_of kind (h ∷ []) ≡ h.prop ∷ []
optional-one kind = passing-one (is_optional_of kind)

pub optional-none : (kind : FourCc) (h : Held) → is_optional_of kind h ≡ false → optional_of kind (h ∷ []) ≡ []
optional-none kind = passing-none (is_optional_of kind)
