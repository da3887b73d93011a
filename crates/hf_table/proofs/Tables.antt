-- The table of distinct properties has each property, at its number.
use Rattle.std.proofs.Common.{◌≡◌, suc, Bool, true, false, ◌||◌, cond, List, [], ◌∷◌, ◌++◌, refl, sym, ap, ◌⊎◌, inl, inr, subst, ℕ, Some}
use Rattle.std.specs.Prelude.{slice_get, fold}
use Rattle.std.specs.List.{list_any}
use Rattle.std.specs.Str.{bytes_eq}
use Rattle.std.proofs.lemmas.Bool.{cases_Bool, and_parts, and_from}
use Rattle.std.proofs.lemmas.Slice.Eq.{bytes_eq-Decides}
use Rattle.hf_base.specs.Members.{IsIn}
use Rattle.hf_base.specs.declared.four.FourCc.{FourCc}
use Rattle.hf_box.specs.Walk.{is_kind}
use Rattle.hf_prop.specs.declared.prop.Prop.{Prop}
use Rattle.hf_table.specs.Laws.{EachIsNumbered}
use Rattle.hf_table.specs.Table.{same_prop, with_prop, table, number_of}

pub is_kind-is : (a b : FourCc) → is_kind a b ≡ true → a ≡ b
is_kind-is a b e =
    let made : List ℕ → FourCc = λ k. record { 0 = k } in
    ap made ((bytes_eq-Decides a.0 b.0).0 e)

pub same_prop-is : (p q : Prop) → same_prop p q ≡ true → p ≡ q
same_prop-is p q e =
    let parts = and_parts (is_kind p.kind q.kind) (bytes_eq p.body q.body) e in
    let kind : p.kind ≡ q.kind = is_kind-is p.kind q.kind parts.0 in
    let body : p.body ≡ q.body = (bytes_eq-Decides p.body q.body).0 parts.1 in
    let made : FourCc → List ℕ → Prop = λ k b. record { kind = k; body = b } in
    let one : made p.kind p.body ≡ made q.kind q.body = rw (kind, body) refl in
    one

pub same_prop-self : (p : Prop) → same_prop p p ≡ true
same_prop-self p =
    and_from (is_kind p.kind p.kind) (bytes_eq p.body p.body) ((bytes_eq-Decides p.kind.0 p.kind.0).1 refl) ((bytes_eq-Decides p.body p.body).1 refl)

both : (b : Bool) → b ≡ false → b ≡ true → ⊥
both b f t = cc

-- what is numbered is there
pub number_selects : (p : Prop) (qs : List Prop) → IsIn p qs → (n : ℕ) × (number_of p qs ≡ suc n) × (slice_get qs n ≡ Some p)
number_selects p [] h = absurd h
number_selects p (q ∷ qs) h =
    elim (cases_Bool (same_prop p q)) [
      | inl is_here ↦ let e : q ≡ p = sym (same_prop-is p q is_here) in (0, rw is_here refl, rw e refl)
      | inr not_here ↦
          let later : IsIn p qs =
          elim h [ inl e ↦ absurd (both (same_prop p q) not_here (subst (λ (r : Prop). same_prop p r ≡ true) (sym e) (same_prop-self p))) | inr k ↦ k ] in
          let rest = number_selects p qs later in
          (suc rest.0, rw not_here (ap suc rest.1), rest.2)
    ]

pub in_left : {A : Type 0} (x : A) (xs ys : List A) → IsIn x xs → IsIn x (xs ++ ys)
in_left x [] ys h = absurd h
in_left x (y ∷ xs) ys (inl e) = inl e
in_left x (y ∷ xs) ys (inr h) = inr (in_left x xs ys h)

pub in_right : {A : Type 0} (x : A) (xs ys : List A) → IsIn x ys → IsIn x (xs ++ ys)
in_right x [] ys h = h
in_right x (y ∷ xs) ys h = inr (in_right x xs ys h)

any_in : (p : Prop) (ps : List Prop) → list_any (same_prop p) ps ≡ true → IsIn p ps
any_in p [] e = absurd (both false refl e)
any_in p (q ∷ qs) e =
    elim (cases_Bool (same_prop p q)) [
      | inl is_here ↦ inl (sym (same_prop-is p q is_here))
      | inr not_here ↦ inr (any_in p qs (subst (λ (b : Bool). (b || list_any (same_prop p) qs) ≡ true) not_here e))
    ]

with_prop-keeps : (p q : Prop) (earlier : List Prop) → IsIn p earlier → IsIn p (with_prop earlier q)
with_prop-keeps p q earlier h =
    elim (list_any (same_prop q) earlier) as (λ b. IsIn p (cond b earlier (earlier ++ q ∷ []))) [
      | true ↦ h
      | false ↦ in_left p earlier (q ∷ []) h
    ]

with_prop-has : (p : Prop) (earlier : List Prop) → IsIn p (with_prop earlier p)
with_prop-has p earlier =
    elim (cases_Bool (list_any (same_prop p) earlier)) [
      | inl there ↦ rw there (any_in p earlier there)
      | inr new ↦ rw new (in_right p earlier (p ∷ []) (inl refl))
    ]

-- what the table has, and what is added to it, stays there
folded_has : (p : Prop) (earlier ps : List Prop) → IsIn p earlier ⊎ IsIn p ps → IsIn p (fold with_prop earlier ps)
folded_has p earlier [] (inl h) = h
folded_has p earlier [] (inr h) = absurd h
folded_has p earlier (q ∷ qs) (inl h) = folded_has p (with_prop earlier q) qs (inl (with_prop-keeps p q earlier h))
folded_has p earlier (q ∷ qs) (inr (inl e)) =
    folded_has p (with_prop earlier q) qs (inl (subst (λ (r : Prop). IsIn p (with_prop earlier r)) (sym e) (with_prop-has p earlier)))
folded_has p earlier (q ∷ qs) (inr (inr h)) = folded_has p (with_prop earlier q) qs (inr h)

-- each property of a list stands in its table
pub table_has : (p : Prop) (ps : List Prop) → IsIn p ps → IsIn p (table ps)
table_has p ps h = folded_has p [] ps (inr h)

pub each_property_is_numbered : EachIsNumbered
each_property_is_numbered p ps h = number_selects p (table ps) (table_has p ps h)
