-- Places without a fault have bytes, and as many as their extents state.
use Rattle.std.proofs.Common.{◌≡◌, ℕ, zero, suc, ◌+◌, ◌≤◌, Bool, true, false, ◌&&◌, inl, inr, List, [], ◌∷◌, ◌++◌, length, map, take, drop, refl, sym, ap, ◌∙◌, arith, Option, Some, None, sum, Ok, length-append}
use Rattle.std.specs.Prelude.{◌==◌, not, nat_lt, if◌then◌else◌}
use Rattle.std.specs.List.{list_any}
use Rattle.std.specs.Option.{option_and_then, is_none}
use Rattle.std.proofs.lemmas.Bool.{cases_Bool, false≢true, lt-ltb}
use Rattle.std.proofs.lemmas.Bool.Decides.{nat_tests}
use Rattle.std.proofs.lemmas.List.{length-drop, length-take-le}
use Rattle.std.proofs.lemmas.List.Sums.{sum_by-cons}
use Rattle.hf_base.specs.declared.fault.ReadRefusal.TheVariants.{BadMethod, NoIdat, BadIndex, LocCycle, OutOfFile, OutOfIdat, OutOfItem}
use Rattle.hf_base.specs.declared.loc.Extent.{Extent}
use Rattle.hf_base.specs.Located.{Located, item_with, source_of, id_at}
use Rattle.hf_base.specs.Members.{IsIn}
use Rattle.hf_base.specs.Levels.{over, told}
use Rattle.hf_base.specs.BytesOf.{by_method, piece_in, bytes_in, bytes_of, joined_pieces, piece_of}
use Rattle.hf_base.specs.Counts.{ends_in, ends, extent_size, size_in, size_of, inner_size}
use Rattle.hf_base.specs.LocationFaults.{passes, has_extents, has_bad_method, lacks_idat, has_bad_index, is_endless, is_out_of_file, is_out_of_idat, is_out_of_item, bad_method_fault, no_idat_fault, bad_index_fault, loc_cycle_fault, out_of_file_fault, out_of_idat_fault, out_of_item_fault, locations_fault}
use Rattle.hf_base.proofs.LevelLaws.{stable, source_ends, size_local}
use Rattle.hf_base.proofs.FaultLaws.{AreFine, none_has, parts_fine}

-- ---- members

pub row_in : (id : ℕ) (items : List Located) (s : Located) → item_with id items ≡ Some s → IsIn s items
row_in id [] s found = absurd (cc)
row_in id (x ∷ xs) s found = elim (cases_Bool (x.id == id)) [
  | inl same ↦ (let e : item_with id (x ∷ xs) ≡ Some x = rw same refl in inl (cc))
  | inr other ↦ (let e : item_with id (x ∷ xs) ≡ item_with id xs = rw other refl in inr (row_in id xs s (sym e ∙ found)))
]

chosen_in : (items : List Located) (o : Option ℕ) (s : Located) → option_and_then (λ id. item_with id items) o ≡ Some s → IsIn s items
chosen_in items None s found = absurd (cc)
chosen_in items (Some id) s found = row_in id items s found

pub source_in : (items : List Located) (r : Located) (e : Extent) (s : Located) → source_of items r e ≡ Some s → IsIn s items
source_in items r e s found = chosen_in items (id_at e.index r.sources) s found

pub any_not : {A : Type 0} (p : A → Bool) (xs : List A) (x : A) → list_any p xs ≡ false → IsIn x xs → p x ≡ false
any_not p [] x none is = absurd is
any_not p (y ∷ ys) x none is = elim (cases_Bool (p y)) [
  | inl held ↦ (let e : list_any p (y ∷ ys) ≡ true = rw held refl in absurd (cc))
  | inr fails ↦ (
      let e : list_any p (y ∷ ys) ≡ list_any p ys = rw fails refl in
      elim is [ inl same ↦ ap p (sym same) ∙ fails | inr later ↦ any_not p ys x (sym e ∙ none) later ]
      )
]

-- the second test fails where the first holds
second : (a b : Bool) → (a && b) ≡ false → a ≡ true → b ≡ false
second true b none held = none
second false b none held = absurd (cc)

there : {A : Type 0} (o : Option A) → is_none o ≡ false → (x : A) × (o ≡ Some x)
there None none = absurd (cc)
there (Some x) none = (x, refl)

-- ---- one extent

pub piece_fits : (base : ℕ) (e : Extent) (source : List ℕ) → nat_lt (length source) (base + e.offset + e.length) ≡ false
    → (p : List ℕ) × (piece_of base e (Some source) ≡ Some p) × (length p ≡ (if e.length == 0 then length source else e.length))
piece_fits base e source within = elim (cases_Bool (e.length == 0)) [
  | inl whole ↦ (source, rw whole refl, rw whole refl)
  | inr part ↦ (
      let fits : base + e.offset + e.length ≤ length source = grind (arith, nat_tests) in
      let enough : e.length ≤ length (drop (base + e.offset) source) = omega (arith, length-drop (base + e.offset) source) in
      (take e.length (drop (base + e.offset) source), rw (part, within) refl, rw part (length-take-le e.length (drop (base + e.offset) source) enough))
      )
]

-- where a source is known, an extent that does not pass its end has a piece
pub extent_fits : (base : ℕ) (e : Extent) (o : Option (List ℕ)) (source : List ℕ) (size : ℕ) → o ≡ Some source → length source ≡ size
    → nat_lt size (base + e.offset + e.length) ≡ false
    → (p : List ℕ) × (piece_of base e o ≡ Some p) × (length p ≡ (if e.length == 0 then size else e.length))
extent_fits base e o source size known is within =
    let found = piece_fits base e source (ap (λ n. nat_lt n (base + e.offset + e.length)) is ∙ within) in
    (found.0, ap (piece_of base e) known ∙ found.1, found.2 ∙ ap (λ n. if e.length == 0 then n else e.length) is)

-- ---- all extents

pub joined_there : (f : Extent → Option (List ℕ)) (g : Extent → ℕ) (es : List Extent)
    → ((e : Extent) → IsIn e es → (p : List ℕ) × (f e ≡ Some p) × (length p ≡ g e))
    → (b : List ℕ) × (joined_pieces (map f es) ≡ Some b) × (length b ≡ sum (map g es))
joined_there f g [] each = ([], refl, refl)
joined_there f g (e ∷ es) each =
    let first = each e (inl refl) in
    let rest = joined_there f g es (λ x is. each x (inr is)) in
    (first.0 ++ rest.0, rw (first.1, rest.1) refl, length-append first.0 rest.0 ∙ ap (λ n. n + length rest.0) first.2 ∙ ap (λ n. g e + n) rest.2 ∙ sym (sum_by-cons (λ x. x) (g e) (map g es)))

-- ---- levels

by_item : {A : Type 0} (method : ℕ) (a b c : A) → (method == 2) ≡ true → by_method method a b c ≡ c
by_item method a b c two = rw two refl

by_idat : {A : Type 0} (method : ℕ) (a b c : A) → (method == 2) ≡ false → (method == 1) ≡ true → by_method method a b c ≡ b
by_idat method a b c two one = rw (two, one) refl

by_file : {A : Type 0} (method : ℕ) (a b c : A) → (method == 2) ≡ false → (method == 1) ≡ false → by_method method a b c ≡ a
by_file method a b c two one = rw (two, one) refl

not_empty : (e : Extent) (es : List Extent) → IsIn e es → has_extents es ≡ true
not_empty e [] is = absurd is
not_empty e (x ∷ xs) is = lt-ltb 0 (length (x ∷ xs)) (omega arith)

-- what an item without a fault lacks
pub record IsFine (F : List ℕ) (idat : Option (List ℕ)) (items : List Located) (r : Located) : Type 0 where
  pub known : has_bad_method r ≡ false
  pub inner : lacks_idat idat r ≡ false
  pub named : has_bad_index items r ≡ false
  pub in_file : is_out_of_file (length F) r ≡ false
  pub in_idat : is_out_of_idat (inner_size idat) r ≡ false
  pub in_items : is_out_of_item (length F) (inner_size idat) items r ≡ false

pub fine_item : (F : List ℕ) (idat : Option (List ℕ)) (items : List Located) (r : Located) → AreFine F idat items → IsIn r items → IsFine F idat items r
unfolding bad_method_fault no_idat_fault bad_index_fault out_of_file_fault out_of_idat_fault out_of_item_fault
fine_item F idat items r p is = record {
  known = none_has has_bad_method (λ id. BadMethod id) items r p.known is;
  inner = none_has (lacks_idat idat) (λ id. NoIdat id) items r p.inner is;
  named = none_has (has_bad_index items) (λ id. BadIndex id) items r p.named is;
  in_file = none_has (is_out_of_file (length F)) (λ id. OutOfFile id) items r p.in_file is;
  in_idat = none_has (is_out_of_idat (inner_size idat)) (λ id. OutOfIdat id) items r p.in_idat is;
  in_items = none_has (is_out_of_item (length F) (inner_size idat) items) (λ id. OutOfItem id) items r p.in_items is;
}

pub not_endless : (items : List Located) (r : Located) → loc_cycle_fault items ≡ Ok tt → IsIn r items → ends items r ≡ true
unfolding loc_cycle_fault
not_endless items r ending is =
    let e : not (ends items r) ≡ false = none_has (is_endless items) (λ id. LocCycle id) items r ending is in
    elim (cases_Bool (ends items r)) [ inl held ↦ held | inr fails ↦ (let f : not (ends items r) ≡ true = rw fails refl in absurd (cc)) ]

pub fine_ends : (F : List ℕ) (idat : Option (List ℕ)) (items : List Located) (r : Located) → AreFine F idat items → IsIn r items → ends items r ≡ true
fine_ends F idat items r p is = not_endless items r p.ending is

idat_there : (idat : Option (List ℕ)) → is_none idat ≡ false → (inner : List ℕ) × (idat ≡ Some inner) × (length inner ≡ inner_size idat)
idat_there None none = absurd (cc)
idat_there (Some inner) none = (inner, refl, refl)

-- the piece of an extent, where the bytes of the other items are there and as many as stated
part_there : (F : List ℕ) (idat : Option (List ℕ)) (items : List Located) (r : Located) (e : Extent) (other : Located → Option (List ℕ)) (size : Located → ℕ)
    → IsFine F idat items r → IsIn e r.extents
    → ((r.method == 2) ≡ true → (s : Located) → source_of items r e ≡ Some s → (b : List ℕ) × (other s ≡ Some b) × (length b ≡ size s) × (size s ≡ size_of (length F) (inner_size idat) items s))
    → (p : List ℕ) × (piece_in F idat items other r e ≡ Some p) × (length p ≡ extent_size (length F) (inner_size idat) items size r e)
part_there F idat items r e other size fine is sources = elim (cases_Bool (r.method == 2)) [
  | inl two ↦ (
      let named = any_not (λ (x : Extent). is_none (source_of items r x)) r.extents e (second (r.method == 2) _ fine.named two) is in
      let s = there (source_of items r e) named in
      let known = sources two s.0 s.1 in
      let within : passes (told 0 (size_of (length F) (inner_size idat) items) (source_of items r e)) r e ≡ false =
      any_not (λ (x : Extent). passes (told 0 (size_of (length F) (inner_size idat) items) (source_of items r x)) r x) r.extents e (second (r.method == 2) _ fine.in_items two) is in
      let within_s : nat_lt (size s.0) (r.base + e.offset + e.length) ≡ false =
      ap (λ n. nat_lt n (r.base + e.offset + e.length)) (known.3 ∙ ap (told 0 (size_of (length F) (inner_size idat) items)) (sym s.1)) ∙ within in
      let o : by_method r.method (Some F) idat (told None other (source_of items r e)) ≡ Some known.0 = by_item r.method (Some F) idat _ two
      ∙ ap (told None other) s.1 ∙ known.1 in
      let n : by_method r.method (length F) (inner_size idat) (told 0 size (source_of items r e)) ≡ size s.0 =
      by_item r.method (length F) (inner_size idat) _ two ∙ ap (told 0 size) s.1 in
      let found = extent_fits r.base e _ known.0 (size s.0) o known.2 within_s in
      (found.0, found.1, found.2 ∙ ap (λ k. if e.length == 0 then k else e.length) (sym n))
      )
  | inr two ↦ elim (cases_Bool (r.method == 1)) [
    | inl one ↦ (
        let inner = idat_there idat (second (has_extents r.extents) (is_none idat) (second (r.method == 1) _ fine.inner one) (not_empty e r.extents is)) in
        let within : passes (inner_size idat) r e ≡ false = any_not (passes (inner_size idat) r) r.extents e (second (r.method == 1) _ fine.in_idat one) is in
        let o : by_method r.method (Some F) idat (told None other (source_of items r e)) ≡ Some inner.0 = by_idat r.method (Some F) idat _ two one ∙ inner.1 in
        let n : by_method r.method (length F) (inner_size idat) (told 0 size (source_of items r e)) ≡ inner_size idat =
        by_idat r.method (length F) (inner_size idat) _ two one in
        let found = extent_fits r.base e _ inner.0 (inner_size idat) o inner.2 within in
        (found.0, found.1, found.2 ∙ ap (λ k. if e.length == 0 then k else e.length) (sym n))
        )
    | inr one ↦ (
        let known : nat_lt 2 r.method ≡ false = fine.known in
        let zero_method : (r.method == 0) ≡ true = grind (arith, nat_tests) in
        let within : passes (length F) r e ≡ false = any_not (passes (length F) r) r.extents e (second (r.method == 0) _ fine.in_file zero_method) is in
        let o : by_method r.method (Some F) idat (told None other (source_of items r e)) ≡ Some F = by_file r.method (Some F) idat _ two one in
        let n : by_method r.method (length F) (inner_size idat) (told 0 size (source_of items r e)) ≡ length F =
        by_file r.method (length F) (inner_size idat) _ two one in
        let found = extent_fits r.base e _ F (length F) o refl within in
        (found.0, found.1, found.2 ∙ ap (λ k. if e.length == 0 then k else e.length) (sym n))
        )
  ]
]

levels_there : (F : List ℕ) (idat : Option (List ℕ)) (items : List Located) → AreFine F idat items → (n : ℕ) (r : Located) → IsIn r items
    → over false (ends_in items) n r ≡ true → n ≤ suc (length items)
    → (b : List ℕ) × (over None (bytes_in F idat items) n r ≡ Some b) × (length b ≡ over 0 (size_in (length F) (inner_size idat) items) n r)
unfolding over size_of
levels_there F idat items fine zero r is end few = absurd (false≢true end)
levels_there F idat items fine (suc n) r is end few =
    joined_there (piece_in F idat items (over None (bytes_in F idat items) n) r) (extent_size (length F) (inner_size idat) items (over 0 (size_in (length F) (inner_size idat) items) n) r) r.extents
    (λ e within. part_there F idat items r e (over None (bytes_in F idat items) n) (over 0 (size_in (length F) (inner_size idat) items) n) (fine_item F idat items r fine is) within
    (λ two s found.
    let ends_s : over false (ends_in items) n s ≡ true = source_ends items (over false (ends_in items) n) r e s end within two found in
    let known = levels_there F idat items fine n s (source_in items r e s found) ends_s (omega arith) in
    (known.0, known.1, known.2, stable 0 (size_in (length F) (inner_size idat) items) items (size_local (length F) (inner_size idat) items) n n (suc (length items)) s ends_s (omega arith) (omega arith))))

-- an item without a fault has bytes, and as many as its extents state
pub bytes_there : (F : List ℕ) (idat : Option (List ℕ)) (items : List Located) (r : Located) → locations_fault F idat items ≡ Ok tt → IsIn r items
    → (b : List ℕ) × (bytes_of F idat items r ≡ Some b) × (length b ≡ size_of (length F) (inner_size idat) items r)
unfolding over size_of bytes_of ends
bytes_there F idat items r fine is =
    let p = parts_fine F idat items fine in
    levels_there F idat items p (suc (length items)) r is (fine_ends F idat items r p is) (omega arith)
