-- Where each item has bytes and the limits are kept, the places have no fault.
use Rattle.std.proofs.Common.{◌≡◌, ℕ, zero, suc, ◌+◌, ◌≤◌, Bool, true, false, ◌&&◌, inl, inr, List, [], ◌∷◌, ◌++◌, length, map, take, drop, refl, sym, ap, ◌∙◌, arith, Option, Some, None, sum, Ok, length-append}
use Rattle.std.specs.Prelude.{◌==◌, not, nat_lt, if◌then◌else◌}
use Rattle.std.specs.List.{list_any}
use Rattle.std.specs.Option.{option_map, is_none}
use Rattle.std.proofs.lemmas.Bool.{cases_Bool, false≢true, le-ltb, and_parts}
use Rattle.std.proofs.lemmas.Bool.Decides.{nat_tests}
use Rattle.std.proofs.lemmas.List.{length-drop, length-take-le}
use Rattle.std.proofs.lemmas.List.Sums.{sum_by-cons}
use Rattle.hf_base.specs.declared.fault.ReadRefusal.{ReadRefusal}
use Rattle.hf_base.specs.declared.fault.ReadRefusal.TheVariants.{External, BadMethod, ZeroLength, NoIdat, BadIndex, LocCycle, OutOfFile, OutOfIdat, TooScattered, OutOfItem, TooManyBytes}
use Rattle.hf_base.specs.declared.limits.TheConstants.{BODY, PIECES}
use Rattle.hf_base.specs.declared.loc.Extent.{Extent}
use Rattle.hf_base.specs.Located.{Located, source_of}
use Rattle.hf_base.specs.Members.{IsIn}
use Rattle.hf_base.specs.Levels.{over, told}
use Rattle.hf_base.specs.BytesOf.{by_method, piece_in, bytes_in, bytes_of, joined_pieces, piece_of}
use Rattle.hf_base.specs.Counts.{ends_in, ends, extent_size, size_in, size_of, inner_size}
use Rattle.hf_base.specs.LocationFaults.{passes, has_extents, is_whole, is_external, has_bad_method, has_zero_length, lacks_idat, has_bad_index, is_endless, is_out_of_file, is_out_of_idat, is_out_of_item, limited, external_fault, bad_method_fault, zero_length_fault, no_idat_fault, bad_index_fault, loc_cycle_fault, out_of_file_fault, out_of_idat_fault, too_scattered_fault, out_of_item_fault, too_many_bytes_fault, locations_fault}
use Rattle.hf_base.specs.Placed.{IsPlaced, ArePlaced}
use Rattle.hf_base.proofs.LevelLaws.{all_from, bytes_are, in_item}
use Rattle.hf_base.proofs.FaultLaws.{none_refused, none_has, parts_fine, fine_parts}
use Rattle.hf_base.proofs.BytesLaws.{any_not, bytes_there}

same_list : (a b : List ℕ) → Some a ≡ Some b → a ≡ b
same_list a b e = cc

-- ---- one extent

-- an extent with a piece has a source, of which the piece takes what is stated
pub record HasPart (base : ℕ) (e : Extent) (o : Option (List ℕ)) (p : List ℕ) : Type 0 where
  pub source : List ℕ
  pub is : o ≡ Some source
  pub size : length p ≡ (if e.length == 0 then length source else e.length)
  pub within : (e.length == 0) ≡ false → nat_lt (length source) (base + e.offset + e.length) ≡ false

piece_back : (base : ℕ) (e : Extent) (o : Option (List ℕ)) (p : List ℕ) → piece_of base e o ≡ Some p → HasPart base e o p
piece_back base e None p found = absurd (cc)
piece_back base e (Some source) p found = elim (cases_Bool (e.length == 0)) [
  | inl whole ↦ (
      let same : source ≡ p = same_list source p (rw whole at found) in
      record { source = source; is = refl; size = rw whole (ap length (sym same)); within = λ part. absurd (false≢true (sym part ∙ whole)) }
      )
  | inr part ↦ elim (cases_Bool (nat_lt (length source) (base + e.offset + e.length))) [
    | inl past ↦ (let none : ◌≡◌ {A = Option (List ℕ)} None (Some p) = rw (part, past) at found in absurd (cc))
    | inr fits ↦ (
        let same : take e.length (drop (base + e.offset) source) ≡ p = same_list _ p (rw (part, fits) at found) in
        let enough : base + e.offset + e.length ≤ length source = grind (arith, nat_tests) in
        let room : e.length ≤ length (drop (base + e.offset) source) = omega (arith, length-drop (base + e.offset) source) in
        record { source = source; is = refl; size = rw part (ap length (sym same) ∙ length-take-le e.length (drop (base + e.offset) source) room); within = λ _. fits }
        )
  ]
]

-- ---- all extents

later_part : (q b : List ℕ) (o : Option (List ℕ)) → option_map (λ (rest : List ℕ). q ++ rest) o ≡ Some b → (r : List ℕ) × (o ≡ Some r) × (q ++ r ≡ b)
later_part q b None e = absurd (cc)
later_part q b (Some r) e = (r, refl, cc)

first_part : (o : Option (List ℕ)) (ps : List (Option (List ℕ))) (b : List ℕ) → joined_pieces (o ∷ ps) ≡ Some b
    → (q : List ℕ) × (r : List ℕ) × (o ≡ Some q) × (joined_pieces ps ≡ Some r) × (q ++ r ≡ b)
first_part None ps b e = absurd (cc)
first_part (Some q) ps b e = let rest = later_part q b (joined_pieces ps) e in (q, rest.0, refl, rest.1, rest.2)

pub each_there : (f : Extent → Option (List ℕ)) (es : List Extent) (b : List ℕ) → joined_pieces (map f es) ≡ Some b → (e : Extent) → IsIn e es
    → (p : List ℕ) × (f e ≡ Some p)
each_there f [] b whole e is = absurd is
each_there f (x ∷ xs) b whole e (inl same) = let w = first_part (f x) (map f xs) b whole in (w.0, ap f (sym same) ∙ w.2)
each_there f (x ∷ xs) b whole e (inr is) = let w = first_part (f x) (map f xs) b whole in each_there f xs w.1 w.3 e is

whole_size : (f : Extent → Option (List ℕ)) (g : Extent → ℕ) (es : List Extent) (b : List ℕ) → joined_pieces (map f es) ≡ Some b
    → ((e : Extent) → IsIn e es → (p : List ℕ) → f e ≡ Some p → length p ≡ g e) → length b ≡ sum (map g es)
whole_size f g [] b whole each = ap length (sym (same_list [] b whole))
whole_size f g (x ∷ xs) b whole each =
    let w = first_part (f x) (map f xs) b whole in
    let first : length w.0 ≡ g x = each x (inl refl) w.0 w.2 in
    let rest : length w.1 ≡ sum (map g xs) = whole_size f g xs w.1 w.3 (λ e is p. each e (inr is) p) in
    omega (arith, first, rest, ap length w.4, length-append w.0 w.1, sum_by-cons (λ n. n) (g x) (map g xs))

-- ---- levels

told_back : (other : Located → Option (List ℕ)) (o : Option Located) (b : List ℕ) → told None other o ≡ Some b
    → (s : Located) × (o ≡ Some s) × (other s ≡ Some b)
told_back other None b e = absurd (cc)
told_back other (Some s) b e = (s, refl, e)

in_other : {A : Type 0} (method : ℕ) (a b c : A) → (method == 2) ≡ true → by_method method a b c ≡ c
in_other method a b c two = rw two refl

in_idat : {A : Type 0} (method : ℕ) (a b c : A) → (method == 2) ≡ false → (method == 1) ≡ true → by_method method a b c ≡ b
in_idat method a b c two one = rw (two, one) refl

in_file : {A : Type 0} (method : ℕ) (a b c : A) → (method == 2) ≡ false → (method == 1) ≡ false → by_method method a b c ≡ a
in_file method a b c two one = rw (two, one) refl

not_item : (method : ℕ) (b : Bool) → (method == 2) ≡ false → by_method method true true b ≡ true
not_item method b other = elim (cases_Bool (method == 1)) [ inl one ↦ rw (other, one) refl | inr one ↦ rw (other, one) refl ]

inner_is : (idat : Option (List ℕ)) (b : List ℕ) → idat ≡ Some b → length b ≡ inner_size idat
inner_is None b e = absurd (cc)
inner_is (Some inner) b e = ap length (sym (same_list inner b e))

-- how many bytes the source of an extent has
source_is : (F : List ℕ) (idat : Option (List ℕ)) (items : List Located) (r : Located) (e : Extent) (other : Located → Option (List ℕ)) (size : Located → ℕ) (source : List ℕ) → by_method r.method (Some F) idat (told None other (source_of items r e)) ≡ Some source
    → ((s : Located) → source_of items r e ≡ Some s → (b : List ℕ) → other s ≡ Some b → length b ≡ size s)
    → length source ≡ by_method r.method (length F) (inner_size idat) (told 0 size (source_of items r e))
source_is F idat items r e other size source is sizes = elim (cases_Bool (r.method == 2)) [
  | inl two ↦ (
      let s = told_back other (source_of items r e) source (sym (in_other r.method (Some F) idat _ two) ∙ is) in
      sizes s.0 s.1 source s.2 ∙ ap (told 0 size) (sym s.1) ∙ sym (in_other r.method (length F) (inner_size idat) _ two)
      )
  | inr two ↦ elim (cases_Bool (r.method == 1)) [
    | inl one ↦ inner_is idat source (sym (in_idat r.method (Some F) idat _ two one) ∙ is) ∙ sym (in_idat r.method (length F) (inner_size idat) _ two one)
    | inr one ↦ ap length (sym (same_list F source (sym (in_file r.method (Some F) idat _ two one) ∙ is))) ∙ sym (in_file r.method (length F) (inner_size idat) _ two one)
  ]
]

pub levels_back : (F : List ℕ) (idat : Option (List ℕ)) (items : List Located) (n : ℕ) (r : Located) (b : List ℕ)
    → over None (bytes_in F idat items) n r ≡ Some b
    → (over false (ends_in items) n r ≡ true) × (length b ≡ over 0 (size_in (length F) (inner_size idat) items) n r)
unfolding over
levels_back F idat items zero r b there = absurd (cc)
levels_back F idat items (suc n) r b there = (
  all_from (λ (e : Extent). by_method r.method true true (told false (over false (ends_in items) n) (source_of items r e))) r.extents
      (λ e is. elim (cases_Bool (r.method == 2)) [
        | inl two ↦ (
            let p = each_there (piece_in F idat items (over None (bytes_in F idat items) n) r) r.extents b there e is in
            let part = piece_back r.base e _ p.0 p.1 in
            let s = told_back (over None (bytes_in F idat items) n) (source_of items r e) part.source (sym (in_other r.method (Some F) idat _ two) ∙ part.is) in
            in_item r.method true true _ two ∙ ap (told false (over false (ends_in items) n)) s.1 ∙ (levels_back F idat items n s.0 part.source s.2).0
            )
        | inr other ↦ not_item r.method _ other
      ]),
  whole_size (piece_in F idat items (over None (bytes_in F idat items) n) r) (extent_size (length F) (inner_size idat) items (over 0 (size_in (length F) (inner_size idat) items) n) r) r.extents b there
      (λ e is p found.
      let part = piece_back r.base e _ p found in
      part.size ∙ ap (λ k. if e.length == 0 then k else e.length)
      (source_is F idat items r e (over None (bytes_in F idat items) n) (over 0 (size_in (length F) (inner_size idat) items) n) part.source part.is (λ s _ c known. (levels_back F idat items n s c known).1))),
)

pub bytes_end : (F : List ℕ) (idat : Option (List ℕ)) (items : List Located) (r : Located) (b : List ℕ) → bytes_of F idat items r ≡ Some b → ends items r ≡ true
unfolding over bytes_of ends
bytes_end F idat items r b there = (levels_back F idat items (suc (length items)) r b there).0

pub bytes_size : (F : List ℕ) (idat : Option (List ℕ)) (items : List Located) (r : Located) (b : List ℕ) → bytes_of F idat items r ≡ Some b
    → length b ≡ size_of (length F) (inner_size idat) items r
unfolding over bytes_of size_of
bytes_size F idat items r b there = (levels_back F idat items (suc (length items)) r b there).1

-- ---- no fault

any_none : {A : Type 0} (p : A → Bool) (xs : List A) → ((x : A) → IsIn x xs → p x ≡ false) → list_any p xs ≡ false
any_none p [] each = refl
any_none p (x ∷ xs) each = let e : p x ≡ false = each x (inl refl) in let f : list_any p xs ≡ false = any_none p xs (λ y is. each y (inr is)) in rw (e, f) refl

where_first : (a b : Bool) → (a ≡ true → b ≡ false) → (a && b) ≡ false
where_first true b e = e refl
where_first false b e = refl

-- what is told of an extent of such an item
part_of : (F : List ℕ) (idat : Option (List ℕ)) (items : List Located) (r : Located) → IsPlaced F idat items r → (e : Extent) → IsIn e r.extents
    → (p : List ℕ) × HasPart r.base e (by_method r.method (Some F) idat (told None (bytes_of F idat items) (source_of items r e))) p
part_of F idat items r placed e is =
    let fixed = sym (bytes_are F idat items r (bytes_end F idat items r placed.bytes placed.are)) ∙ placed.are in
    let p = each_there (piece_in F idat items (bytes_of F idat items) r) r.extents placed.bytes fixed e is in
    (p.0, piece_back r.base e _ p.0 p.1)

whole_then : (a b : Bool) → (a && not b) ≡ false → a ≡ true → b ≡ true
whole_then true true e held = refl
whole_then true false e held = absurd (false≢true (sym e))
whole_then false b e held = absurd (false≢true held)

-- an extent does not pass the end of its source
inside : (F : List ℕ) (idat : Option (List ℕ)) (items : List Located) (r : Located) → IsPlaced F idat items r → (e : Extent) → IsIn e r.extents
    → (source : List ℕ) → ((e.length == 0) ≡ false → nat_lt (length source) (r.base + e.offset + e.length) ≡ false) → passes (length source) r e ≡ false
inside F idat items r placed e is source within = elim (cases_Bool (e.length == 0)) [
  | inl zero_long ↦ (
      let ok : ((e.length == 0) && not (is_whole r e)) ≡ false = any_not (λ (x : Extent). (x.length == 0) && not (is_whole r x)) r.extents e placed.whole is in
      let whole : is_whole r e ≡ true = whole_then (e.length == 0) (is_whole r e) ok zero_long in
      let start : (r.base + e.offset == 0) ≡ true =
      (and_parts (length r.extents == 1) (r.base + e.offset == 0) (and_parts _ ((length r.extents == 1) && (r.base + e.offset == 0)) whole).1).1 in
      le-ltb (length source) (r.base + e.offset + e.length) (grind (arith, nat_tests))
      )
  | inr part ↦ within part
]

some_extent : (es : List Extent) → has_extents es ≡ true → (e : Extent) × IsIn e es
some_extent [] some = absurd (false≢true some)
some_extent (e ∷ es) some = (e, inl refl)

one_of : (n : ℕ) → (n == 1) ≡ true → (n == 2) ≡ false
one_of n one = grind (arith, nat_tests)

zero_of : (n : ℕ) → (n == 0) ≡ true → ((n == 2) ≡ false) × ((n == 1) ≡ false)
zero_of n none = (grind (arith, nat_tests), grind (arith, nat_tests))

pub within_limit : (limit total : ℕ) (why : ℕ → ReadRefusal) → total ≤ limit → limited limit why total ≡ Ok tt
within_limit limit total why few = let t : nat_lt limit total ≡ false = le-ltb limit total few in rw t refl

ends_fine : (items : List Located) (r : Located) → ends items r ≡ true → is_endless items r ≡ false
ends_fine items r e = rw e refl

named_fine : (F : List ℕ) (idat : Option (List ℕ)) (items : List Located) (r : Located) → IsPlaced F idat items r → has_bad_index items r ≡ false
named_fine F idat items r placed = where_first (r.method == 2) _ (λ two. any_none (λ (e : Extent). is_none (source_of items r e)) r.extents (λ e is.
    let part = (part_of F idat items r placed e is).1 in
    let s = told_back (bytes_of F idat items) (source_of items r e) part.source (sym (in_other r.method (Some F) idat _ two) ∙ part.is) in
    ap is_none s.1))

inner_fine : (F : List ℕ) (idat : Option (List ℕ)) (items : List Located) (r : Located) → IsPlaced F idat items r → lacks_idat idat r ≡ false
inner_fine F idat items r placed = where_first (r.method == 1) _ (λ one. where_first (has_extents r.extents) (is_none idat) (λ some.
    let e = some_extent r.extents some in
    let part = (part_of F idat items r placed e.0 e.1).1 in
    let there : idat ≡ Some part.source = sym (in_idat r.method (Some F) idat _ (one_of r.method one) one) ∙ part.is in
    ap is_none there))

file_fine : (F : List ℕ) (idat : Option (List ℕ)) (items : List Located) (r : Located) → IsPlaced F idat items r → is_out_of_file (length F) r ≡ false
file_fine F idat items r placed = where_first (r.method == 0) _ (λ none. any_none (passes (length F) r) r.extents (λ e is.
    let part = (part_of F idat items r placed e is).1 in
    let other = zero_of r.method none in
    let same : F ≡ part.source = same_list F part.source (sym (in_file r.method (Some F) idat _ other.0 other.1) ∙ part.is) in
    ap (λ (l : List ℕ). passes (length l) r e) same ∙ inside F idat items r placed e is part.source part.within))

idat_fine : (F : List ℕ) (idat : Option (List ℕ)) (items : List Located) (r : Located) → IsPlaced F idat items r → is_out_of_idat (inner_size idat) r ≡ false
idat_fine F idat items r placed = where_first (r.method == 1) _ (λ one. any_none (passes (inner_size idat) r) r.extents (λ e is.
    let part = (part_of F idat items r placed e is).1 in
    let there : idat ≡ Some part.source = sym (in_idat r.method (Some F) idat _ (one_of r.method one) one) ∙ part.is in
    ap (λ n. passes n r e) (sym (inner_is idat part.source there)) ∙ inside F idat items r placed e is part.source part.within))

items_fine : (F : List ℕ) (idat : Option (List ℕ)) (items : List Located) (r : Located) → IsPlaced F idat items r
    → is_out_of_item (length F) (inner_size idat) items r ≡ false
items_fine F idat items r placed = where_first (r.method == 2) _ (λ two. any_none (λ (e : Extent). passes (told 0 (size_of (length F) (inner_size idat) items) (source_of items r e)) r e) r.extents (λ e is.
    let part = (part_of F idat items r placed e is).1 in
    let s = told_back (bytes_of F idat items) (source_of items r e) part.source (sym (in_other r.method (Some F) idat _ two) ∙ part.is) in
    let n : told 0 (size_of (length F) (inner_size idat) items) (source_of items r e) ≡ length part.source =
    ap (told 0 (size_of (length F) (inner_size idat) items)) s.1 ∙ sym (bytes_size F idat items s.0 part.source s.2) in
    ap (λ k. passes k r e) n ∙ inside F idat items r placed e is part.source part.within))

pub no_fault : (F : List ℕ) (idat : Option (List ℕ)) (items : List Located) → ArePlaced F idat items → locations_fault F idat items ≡ Ok tt
unfolding external_fault bad_method_fault zero_length_fault no_idat_fault bad_index_fault loc_cycle_fault out_of_file_fault out_of_idat_fault too_scattered_fault out_of_item_fault too_many_bytes_fault
no_fault F idat items placed = let each = placed.each in fine_parts F idat items (record {
  here = none_refused is_external (λ id. External id) items (λ r is. (each r is).here);
  known = none_refused has_bad_method (λ id. BadMethod id) items (λ r is. (each r is).known);
  whole = none_refused has_zero_length (λ id. ZeroLength id) items (λ r is. (each r is).whole);
  inner = none_refused (lacks_idat idat) (λ id. NoIdat id) items (λ r is. inner_fine F idat items r (each r is));
  named = none_refused (has_bad_index items) (λ id. BadIndex id) items (λ r is. named_fine F idat items r (each r is));
  ending = none_refused (is_endless items) (λ id. LocCycle id) items (λ r is. ends_fine items r (bytes_end F idat items r (each r is).bytes (each r is).are));
  in_file = none_refused (is_out_of_file (length F)) (λ id. OutOfFile id) items (λ r is. file_fine F idat items r (each r is));
  in_idat = none_refused (is_out_of_idat (inner_size idat)) (λ id. OutOfIdat id) items (λ r is. idat_fine F idat items r (each r is));
  few = within_limit PIECES _ (λ count. TooScattered count) placed.few;
  in_items = none_refused (is_out_of_item (length F) (inner_size idat) items) (λ id. OutOfItem id) items (λ r is. items_fine F idat items r (each r is));
  small = within_limit BODY _ (λ total. TooManyBytes total) placed.small;
})

pub limit_kept : (limit total : ℕ) (why : ℕ → ReadRefusal) → limited limit why total ≡ Ok tt → total ≤ limit
limit_kept limit total why fine = elim (cases_Bool (nat_lt limit total)) [
  | inl over ↦ (let e = rw over at fine in absurd (cc))
  | inr within ↦ grind (arith, nat_tests)
]

pub placed : (F : List ℕ) (idat : Option (List ℕ)) (items : List Located) → locations_fault F idat items ≡ Ok tt → ArePlaced F idat items
unfolding external_fault bad_method_fault zero_length_fault too_scattered_fault too_many_bytes_fault
placed F idat items fine =
    let p = parts_fine F idat items fine in
    record {
      each = λ r is.
          let b = bytes_there F idat items r fine is in
          record {
            here = none_has is_external (λ id. External id) items r p.here is;
            known = none_has has_bad_method (λ id. BadMethod id) items r p.known is;
            whole = none_has has_zero_length (λ id. ZeroLength id) items r p.whole is;
            bytes = b.0;
            are = b.1;
          };
      few = limit_kept PIECES _ (λ count. TooScattered count) p.few;
      small = limit_kept BODY _ (λ total. TooManyBytes total) p.small;
    }
