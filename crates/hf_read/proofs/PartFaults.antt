-- Parts over ids that have no fault: what they say of the primary item, of references and of associations.
use Rattle.std.proofs.Common.{◌≡◌, ℕ, ◌≤◌, Bool, true, false, not, ◌&&◌, eqb, List, [], ◌∷◌, length, find, Ok, Err, refl, sym, ap, subst, ◌∙◌, inl, inr}
use Rattle.std.specs.List.{filter, list_any}
use Rattle.std.proofs.lemmas.Bool.{cases_Bool, eqb-true, eq-eqb, ltb-false, le-ltb}
use Rattle.hf_base.specs.Entries.{has_id}
use Rattle.hf_base.specs.EntryLaws.{refused_not}
use Rattle.hf_base.specs.LocationFaults.{refused}
use Rattle.hf_base.specs.Members.{IsIn}
use Rattle.hf_base.specs.declared.fault.ReadRefusal.{ReadRefusal}
use Rattle.hf_base.specs.declared.fault.ReadRefusal.TheVariants.{NoPrimary, DanglingNeed, BadProperty}
use Rattle.hf_base.specs.declared.loc.RefBox.{RefBox}
use Rattle.hf_base.proofs.BytesLaws.{any_not}
use Rattle.hf_order.proofs.Members.{in_all, all_from, in_filter, has_in, in_has}
use Rattle.hf_prop.specs.declared.assoc.Assoc.{Assoc}
use Rattle.hf_prop.specs.declared.assoc.Pick.{Pick}
use Rattle.hf_prop.specs.declared.iprp.Iprp.{Iprp}
use Rattle.hf_links.specs.Kinds.{is_need}
use Rattle.hf_read.specs.Denotes.{NeedsAreItems, PicksAreProps}
use Rattle.hf_read.specs.Faults.{no_primary_fault, is_dangling, dangling_need_fault, is_past, bad_property_fault}
use Rattle.hf_read.specs.Kept.{picks_of}
use Rattle.hf_read.proofs.Filters.{not_false, passes, passed, any_none, in_flat, from_flat}

-- ---- tests of lists

-- no element of a list passes a test, exactly where none is refused
pub found_none : (why : ℕ → ReadRefusal) (test : ℕ → Bool) (ids : List ℕ) → refused why (find test ids) ≡ Ok tt → (x : ℕ) → IsIn x ids → test x ≡ false
found_none why test [] fine x h = absurd h
found_none why test (id ∷ ids) fine x h = elim (cases_Bool (test id)) [
  | inl t ↦ absurd (let e : refused why (find test (id ∷ ids)) ≡ Err (why id) = rw t refl in let no : Err (why id) ≡ Ok tt = sym e ∙ fine in cc)
  | inr f ↦
      let e : find test (id ∷ ids) ≡ find test ids = rw f refl in
      elim h [ inl same ↦ ap test (sym same) ∙ f | inr k ↦ found_none why test ids (ap (refused why) (sym e) ∙ fine) x k ]
]

pub none_found : (why : ℕ → ReadRefusal) (test : ℕ → Bool) (ids : List ℕ) → ((x : ℕ) → IsIn x ids → test x ≡ false) → refused why (find test ids) ≡ Ok tt
none_found why test [] each = refl
none_found why test (id ∷ ids) each =
    let f = each id (inl refl) in
    let e : find test (id ∷ ids) ≡ find test ids = rw f refl in
    ap (refused why) e ∙ none_found why test ids (λ x h. each x (inr h))

-- ---- the primary item

pub primary_there : (ids : List ℕ) (primary : ℕ) → no_primary_fault ids primary ≡ Ok tt → IsIn primary ids
unfolding no_primary_fault
primary_there ids primary fine = in_has primary ids (not_false (has_id primary ids) (refused_not (not (has_id primary ids)) (NoPrimary primary) tt fine))

pub there_primary : (ids : List ℕ) (primary : ℕ) → IsIn primary ids → no_primary_fault ids primary ≡ Ok tt
unfolding no_primary_fault
there_primary ids primary h = let t = has_in primary ids h in rw t refl

-- ---- references that are needed

both_false : (a b c : Bool) → a && (b && c) ≡ false → a ≡ true → b ≡ true → c ≡ false
both_false a b true e f g = let all : a && (b && true) ≡ true = rw (f, g) refl in let no : true ≡ false = sym all ∙ e in absurd cc
both_false a b false e f g = refl

named : (to : ℕ) (ids : List ℕ) → not (has_id to ids) ≡ false → IsIn to ids
named to ids f = in_has to ids (not_false (has_id to ids) f)

pub needs_are : (ids : List ℕ) (links : List RefBox) → dangling_need_fault ids links ≡ Ok tt → NeedsAreItems ids links
unfolding dangling_need_fault
needs_are ids links fine r among from need =
    let none = found_none (λ id. DanglingNeed id) (λ id. list_any (is_dangling ids id) links) ids fine r.from from in
    let fit : is_dangling ids r.from r ≡ false = any_not (is_dangling ids r.from) links r none among in
    let all = both_false (eqb r.from r.from) (is_need r.kind) (list_any (λ to. not (has_id to ids)) r.to) fit (eq-eqb r.from r.from refl) need in
    all_from (λ to. IsIn to ids) r.to (λ to h. named to ids (any_not (λ x. not (has_id x ids)) r.to to all h))

fits_need : (ids : List ℕ) (links : List RefBox) (id : ℕ) (r : RefBox) → NeedsAreItems ids links → IsIn id ids → IsIn r links → is_dangling ids id r ≡ false
fits_need ids links id r needs h among = elim (cases_Bool (eqb r.from id)) [
  | inl t ↦ elim (cases_Bool (is_need r.kind)) [
    | inl need ↦
        let from : IsIn r.from ids = subst (λ (n : ℕ). IsIn n ids) (sym (eqb-true r.from id t)) h in
        let all = needs r among from need in
        let none : list_any (λ to. not (has_id to ids)) r.to ≡ false = any_none (λ to. not (has_id to ids)) r.to (λ to k. let there = has_in to ids (in_all (λ x. IsIn x ids) r.to all to k) in rw there refl) in
        rw (t, need, none) refl
    | inr free ↦ rw (t, free) refl
  ]
  | inr f ↦ rw f refl
]

pub are_needs : (ids : List ℕ) (links : List RefBox) → NeedsAreItems ids links → dangling_need_fault ids links ≡ Ok tt
unfolding dangling_need_fault
are_needs ids links needs = none_found (λ id. DanglingNeed id) (λ id. list_any (is_dangling ids id) links) ids (λ id h. any_none (is_dangling ids id) links (λ r among. fits_need ids links id r needs h among))

-- ---- associations

pub in_picks : (assocs : List Assoc) (a : Assoc) (p : Pick) → IsIn a assocs → IsIn p a.picks → IsIn p (picks_of a.item assocs)
in_picks assocs a p h k =
    let kept = passes (λ (x : Assoc). eqb x.item a.item) assocs a h (eq-eqb a.item a.item refl) in
    in_flat (λ (x : Assoc). x.picks) (filter (λ (x : Assoc). eqb x.item a.item) assocs) a p kept k

pub from_picks : (assocs : List Assoc) (id : ℕ) (p : Pick) → IsIn p (picks_of id assocs) → (a : Assoc) × IsIn a assocs × (a.item ≡ id) × IsIn p a.picks
from_picks assocs id p h =
    let r = from_flat (λ (x : Assoc). x.picks) (filter (λ (x : Assoc). eqb x.item id) assocs) p h in
    (r.0, in_filter (λ (x : Assoc). eqb x.item id) assocs r.0 r.1, eqb-true r.0.item id (passed (λ (x : Assoc). eqb x.item id) assocs r.0 r.1), r.2)

pub picks_are : (ids : List ℕ) (v : Iprp) → bad_property_fault ids v ≡ Ok tt → PicksAreProps ids v
unfolding bad_property_fault
picks_are ids v fine a among item =
    let none = found_none (λ id. BadProperty id) (λ id. list_any (is_past v.props) (picks_of id v.assocs)) ids fine a.item item in
    all_from (λ (p : Pick). p.index ≤ length v.props) a.picks (λ p k. ltb-false (length v.props) p.index (any_not (is_past v.props) (picks_of a.item v.assocs) p none (in_picks v.assocs a p among k)))

pub are_picks : (ids : List ℕ) (v : Iprp) → PicksAreProps ids v → bad_property_fault ids v ≡ Ok tt
unfolding bad_property_fault
are_picks ids v picks = none_found (λ id. BadProperty id) (λ id. list_any (is_past v.props) (picks_of id v.assocs)) ids (λ id h. any_none (is_past v.props) (picks_of id v.assocs) (λ p k.
    let r = from_picks v.assocs id p k in
    let item : IsIn r.0.item ids = subst (λ (n : ℕ). IsIn n ids) (sym r.2) h in
    le-ltb (length v.props) p.index (in_all (λ (q : Pick). q.index ≤ length v.props) r.0.picks (picks r.0 r.1 item) p r.3)))
