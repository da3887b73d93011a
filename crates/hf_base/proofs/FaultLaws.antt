-- Places without a fault have bytes, of the stated lengths; and where each item has bytes and the limits are kept, there is no fault.
use Rattle.std.proofs.Common.{◌≡◌, ℕ, Bool, false, inl, inr, List, [], ◌∷◌, refl, sym, ap, ◌∙◌, Option, Result, Ok, Err}
use Rattle.std.proofs.lemmas.Bool.{cases_Bool}
use Rattle.hf_base.specs.Reading.{◌>>=◌}
use Rattle.hf_base.specs.declared.fault.ReadRefusal.{ReadRefusal}
use Rattle.hf_base.specs.Located.{Located}
use Rattle.hf_base.specs.Members.{IsIn}
use Rattle.hf_base.specs.LocationFaults.{first_with, refused, external_fault, bad_method_fault, zero_length_fault, no_idat_fault, bad_index_fault, loc_cycle_fault, out_of_file_fault, out_of_idat_fault, too_scattered_fault, out_of_item_fault, too_many_bytes_fault, locations_fault}

-- ---- the parts

-- no item has the fault
pub none_has : (has : Located → Bool) (why : ℕ → ReadRefusal) (items : List Located) (r : Located) → refused why (first_with has items) ≡ Ok tt
    → IsIn r items → has r ≡ false
none_has has why [] r fine is = absurd is
none_has has why (x ∷ xs) r fine is = elim (cases_Bool (has x)) [
  | inl held ↦ (let e : refused why (first_with has (x ∷ xs)) ≡ Err (why x.id) = rw held refl in absurd (cc))
  | inr fails ↦ (
      let e : first_with has (x ∷ xs) ≡ first_with has xs = rw fails refl in
      let rest : refused why (first_with has xs) ≡ Ok tt = ap (refused why) (sym e) ∙ fine in
      elim is [
        | inl same ↦ ap has (sym same) ∙ fails
        | inr later ↦ none_has has why xs r rest later
      ]
      )
]

pub none_refused : (has : Located → Bool) (why : ℕ → ReadRefusal) (items : List Located) → ((r : Located) → IsIn r items → has r ≡ false)
    → refused why (first_with has items) ≡ Ok tt
none_refused has why [] each = refl
none_refused has why (x ∷ xs) each =
    let fails : has x ≡ false = each x (inl refl) in
    let e : first_with has (x ∷ xs) ≡ first_with has xs = rw fails refl in
    ap (refused why) e ∙ none_refused has why xs (λ r is. each r (inr is))

first_ok : (a b : Result (Unit {0}) ReadRefusal) → (a >>= λ x. b) ≡ Ok tt → (a ≡ Ok tt) × (b ≡ Ok tt)
first_ok (Ok tt) b fine = (refl, fine)
first_ok (Err e) b fine = absurd (cc)

both_ok : (a b : Result (Unit {0}) ReadRefusal) → a ≡ Ok tt → b ≡ Ok tt → (a >>= λ x. b) ≡ Ok tt
both_ok a b e f = rw e f

-- each part has no fault
pub record AreFine (F : List ℕ) (idat : Option (List ℕ)) (items : List Located) : Type 0 where
  pub here : external_fault items ≡ Ok tt
  pub known : bad_method_fault items ≡ Ok tt
  pub whole : zero_length_fault items ≡ Ok tt
  pub inner : no_idat_fault idat items ≡ Ok tt
  pub named : bad_index_fault items ≡ Ok tt
  pub ending : loc_cycle_fault items ≡ Ok tt
  pub in_file : out_of_file_fault F items ≡ Ok tt
  pub in_idat : out_of_idat_fault idat items ≡ Ok tt
  pub few : too_scattered_fault items ≡ Ok tt
  pub in_items : out_of_item_fault F idat items ≡ Ok tt
  pub small : too_many_bytes_fault F idat items ≡ Ok tt

pub parts_fine : (F : List ℕ) (idat : Option (List ℕ)) (items : List Located) → locations_fault F idat items ≡ Ok tt → AreFine F idat items
unfolding locations_fault
parts_fine F idat items fine =
    let p1 = first_ok (external_fault items) _ fine in
    let p2 = first_ok (bad_method_fault items) _ p1.1 in
    let p3 = first_ok (zero_length_fault items) _ p2.1 in
    let p4 = first_ok (no_idat_fault idat items) _ p3.1 in
    let p5 = first_ok (bad_index_fault items) _ p4.1 in
    let p6 = first_ok (loc_cycle_fault items) _ p5.1 in
    let p7 = first_ok (out_of_file_fault F items) _ p6.1 in
    let p8 = first_ok (out_of_idat_fault idat items) _ p7.1 in
    let p9 = first_ok (too_scattered_fault items) _ p8.1 in
    let p10 = first_ok (out_of_item_fault F idat items) _ p9.1 in
    record { here = p1.0; known = p2.0; whole = p3.0; inner = p4.0; named = p5.0; ending = p6.0; in_file = p7.0; in_idat = p8.0; few = p9.0; in_items = p10.0; small = p10.1 }

pub fine_parts : (F : List ℕ) (idat : Option (List ℕ)) (items : List Located) → AreFine F idat items → locations_fault F idat items ≡ Ok tt
unfolding locations_fault
fine_parts F idat items p =
    both_ok _ _ p.here (both_ok _ _ p.known (both_ok _ _ p.whole (both_ok _ _ p.inner (both_ok _ _ p.named (both_ok _ _ p.ending (both_ok _ _ p.in_file (both_ok _ _ p.in_idat (both_ok _ _ p.few (both_ok _ _ p.in_items p.small)))))))))
