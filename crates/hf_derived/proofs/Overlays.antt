-- The overlay that is read stands there, and the overlay that stands there is read.
use Rattle.std.proofs.Common.{◌≡◌, ℕ, ◌+◌, ◌*◌, ◌%◌, ◌^◌, ◌<◌, ◌≤◌, min, Bool, true, false, ◌&&◌, cond, eqb, leb, List, [], ◌∷◌, ◌++◌, length, take, drop, get_or, Some, None, refl, sym, ap, subst, ◌∙◌, arith, inl, inr}
use Rattle.std.specs.Prelude.{Option, IfSome}
use Rattle.std.proofs.lemmas.Bool.{cases_lt, and_parts, eqb-true, eq-eqb, ne_eqb, leb-true, le-leb, lt-leb}
use Rattle.std.proofs.lemmas.List.{append-nil, drop_at, drop-drop, take-append-drop, length-append, length-drop, length-take, length-take-le, get_or-take}
use Rattle.hf_base.specs.Number.{IsBytes, num, number}
use Rattle.hf_base.specs.NumberLaws.{length-num}
use Rattle.hf_base.specs.ReadingLaws.{IsBytes-drop}
use Rattle.hf_derived.specs.Derived.{side}
use Rattle.hf_derived.specs.Overlay.{IsOverlay, IsOverlayOf, overlay_at, overlay_body}
use Rattle.hf_derived.specs.declared.overlay.Overlay.{Overlay}
use Rattle.hf_derived.proofs.Sides.{two_bytes, side_cases, side_told, flag_fits, AreAgain, two_again, part_fits, two_stand, number_front, some_if, unmet_is}

-- an overlay with these flags, and these bytes behind them
abbrev pub made : ℕ → List ℕ → Overlay
made flags rest = record {
  long = eqb (flags % 2) 1;
  width = number (side flags) (drop 8 rest);
  height = number (side flags) (drop (8 + side flags) rest);
}

-- two bytes and more
pub overlay_at-is : (inputs version flags : ℕ) (rest : List ℕ) → overlay_at inputs (version ∷ flags ∷ rest) ≡ cond (eqb version 0 && leb (8 + 2 * side flags + inputs * (2 * side flags)) (length rest)) (Some (made flags rest)) None
unfolding overlay_at
overlay_at-is inputs version flags rest = refl

overlay_same : (o : Overlay) (long : Bool) (width height : ℕ) → o.long ≡ long → width ≡ o.width → height ≡ o.height → record { long = long; width = width; height = height } ≡ o
overlay_same o long width height a b c =
    let of : Bool → ℕ → ℕ → Overlay = λ l w h. record { long = l; width = w; height = h } in
    ap (λ (l : Bool). of l width height) (sym a) ∙ ap (λ (n : ℕ). of o.long n height) b ∙ ap (λ (n : ℕ). of o.long o.width n) c

-- the fields in front of the offsets, and the offsets, have room
room_for : (s offsets_room : ℕ) (fill width height offsets rest : List ℕ) → length fill ≡ 8 → length width ≡ s → length height ≡ s → length offsets ≡ offsets_room
    → 8 + 2 * s + offsets_room ≤ length (fill ++ (width ++ (height ++ (offsets ++ rest))))
room_for s offsets_room fill width height offsets rest a b c d =
    omega (arith, a, b, c, d, length-append fill (width ++ (height ++ (offsets ++ rest))), length-append width (height ++ (offsets ++ rest)), length-append height (offsets ++ rest), length-append offsets rest)

pub overlay_only : (bytes : List ℕ) (inputs : ℕ) (o : Overlay) → IsOverlay bytes inputs o → overlay_at inputs bytes ≡ Some o
overlay_only bytes inputs o h =
    let s = side h.flags in
    let tail = num o.width s ++ (num o.height s ++ (h.offsets ++ h.rest)) in
    let again : AreAgain s o.width o.height tail = two_again s o.width o.height (h.offsets ++ h.rest) h.width_fits h.height_fits in
    let fixed = 8 + 2 * s + inputs * (2 * s) in
    let room : leb fixed (length (h.fill ++ tail)) ≡ true = le-leb fixed (length (h.fill ++ tail)) (room_for s (inputs * (2 * s)) h.fill (num o.width s) (num o.height s) h.offsets h.rest h.fill_size (length-num s o.width) (length-num s o.height) h.offsets_size) in
    let behind : drop 8 (h.fill ++ tail) ≡ tail = drop_at h.fill tail 8 h.fill_size in
    let further : drop (8 + s) (h.fill ++ tail) ≡ drop s tail = sym (drop-drop s 8 (h.fill ++ tail)) ∙ ap (drop s) behind in
    let chosen : cond (eqb 0 0 && leb fixed (length (h.fill ++ tail))) (Some (made h.flags (h.fill ++ tail))) None ≡ Some (made h.flags (h.fill ++ tail)) = rw room refl in
    ap (overlay_at inputs) (h.is ∙ two_bytes 0 h.flags (h.fill ++ tail) (omega arith) h.flags_fit)
    ∙ overlay_at-is inputs 0 h.flags (h.fill ++ tail)
    ∙ chosen
    ∙ ap (λ (x : Overlay). Some x) (overlay_same o (eqb (h.flags % 2) 1) (number s (drop 8 (h.fill ++ tail))) (number s (drop (8 + s) (h.fill ++ tail))) h.long (ap (number s) behind ∙ again.first) (ap (number s) further ∙ again.second))

-- the parts behind the flags
record Parts (s offsets_room : ℕ) (rest : List ℕ) : Type 0 where
  fill : List ℕ
  offsets : List ℕ
  more : List ℕ
  is : rest ≡ fill ++ (num (number s (drop 8 rest)) s ++ (num (number s (drop (8 + s) rest)) s ++ (offsets ++ more)))
  fill_size : length fill ≡ 8
  offsets_size : length offsets ≡ offsets_room
  width : number s (drop 8 rest) < 256 ^ s
  height : number s (drop (8 + s) rest) < 256 ^ s

parts_of : (s offsets_room : ℕ) (rest : List ℕ) → s ≤ 4 → IsBytes (take 16 rest) → 8 + 2 * s + offsets_room ≤ length rest → Parts s offsets_room rest
parts_of s offsets_room rest few fits long =
    let tail = drop 8 rest in
    let behind = drop s (drop s tail) in
    let stand = two_stand 8 s tail (omega arith) (omega (arith, length-drop 8 rest)) (part_fits 16 8 8 rest (omega arith) fits) in
    let moved : number s (drop s tail) ≡ number s (drop (8 + s) rest) = ap (number s) (drop-drop s 8 rest) in
    record {
      fill = take 8 rest;
      offsets = take offsets_room behind;
      more = drop offsets_room behind;
      is = sym (take-append-drop 8 rest)
          ∙ ap (λ (l : List ℕ). take 8 rest ++ l) stand.parts
          ∙ ap (λ (n : ℕ). take 8 rest ++ (num (number s tail) s ++ (num n s ++ behind))) moved
          ∙ ap (λ (l : List ℕ). take 8 rest ++ (num (number s tail) s ++ (num (number s (drop (8 + s) rest)) s ++ l))) (sym (take-append-drop offsets_room behind));
      fill_size = length-take-le 8 rest (omega arith);
      offsets_size = length-take-le offsets_room behind (omega (arith, length-drop s (drop s tail), length-drop s tail, length-drop 8 rest));
      width = stand.first;
      height = subst (λ (n : ℕ). n < 256 ^ s) moved stand.second;
    }

side-few : (flags : ℕ) → side flags ≤ 4
side-few flags = elim (side_cases flags) [ inl e ↦ omega arith | inr e ↦ omega arith ]

pub overlay_found : (bytes : List ℕ) (inputs : ℕ) (o : Overlay) → IsBytes (take 18 bytes) → overlay_at inputs bytes ≡ Some o → IsOverlay bytes inputs o
unfolding overlay_at
overlay_found [] inputs o fits e = absurd cc
overlay_found (a ∷ []) inputs o fits e = absurd cc
overlay_found (version ∷ flags ∷ rest) inputs o fits e =
    let s = side flags in
    let offsets_room = inputs * (2 * s) in
    let k = some_if (eqb version 0 && leb (8 + 2 * s + offsets_room) (length rest)) (made flags rest) o e in
    let p = and_parts (eqb version 0) (leb (8 + 2 * s + offsets_room) (length rest)) k.0 in
    let zero : version ≡ 0 = eqb-true version 0 p.0 in
    let long : 8 + 2 * s + offsets_room ≤ length rest = leb-true (8 + 2 * s + offsets_room) (length rest) p.1 in
    let rest_fits : IsBytes (take 16 rest) = IsBytes-drop 2 (version ∷ flags ∷ take 16 rest) fits in
    let parts = parts_of s offsets_room rest (side-few flags) rest_fits long in
    let tail = num (number s (drop 8 rest)) s ++ (num (number s (drop (8 + s) rest)) s ++ (parts.offsets ++ parts.more)) in
    let is : version ∷ flags ∷ rest ≡ num 0 1 ++ (num flags 1 ++ (parts.fill ++ tail)) =
    ap (λ (v : ℕ). v ∷ flags ∷ rest) zero
    ∙ ap (λ (l : List ℕ). 0 ∷ flags ∷ l) parts.is
    ∙ sym (two_bytes 0 flags (parts.fill ++ tail) (omega arith) (fits 1))
    in
    subst (λ (x : Overlay). IsOverlay (version ∷ flags ∷ rest) inputs x) k.1 (record {
      flags = flags;
      fill = parts.fill;
      offsets = parts.offsets;
      rest = parts.more;
      is = is;
      flags_fit = fits 1;
      long = refl;
      fill_size = parts.fill_size;
      width_fits = parts.width;
      height_fits = parts.height;
      offsets_size = parts.offsets_size;
    })

pub one_overlay : (bytes : List ℕ) (inputs : ℕ) (some other : Overlay) → IsOverlay bytes inputs some → IsOverlay bytes inputs other → some ≡ other
one_overlay bytes inputs some other p q = let e = sym (overlay_only bytes inputs some p) ∙ overlay_only bytes inputs other q in cc

-- flags 1 are told, and flags 0
flag_told : (long : Bool) → long ≡ eqb (cond long 1 0 % 2) 1
flag_told true = refl
flag_told false = refl

pub overlay_again : (inputs : ℕ) (o : Overlay) (fill offsets : List ℕ) → IsOverlayOf inputs o fill offsets → IsOverlay (overlay_body o fill offsets) inputs o
unfolding overlay_body
overlay_again inputs o fill offsets h =
    let told = side_told o.long in
    record {
      flags = cond o.long 1 0;
      fill = fill;
      offsets = offsets;
      rest = [];
      is = rw (told, append-nil offsets) refl;
      flags_fit = flag_fits o.long;
      long = flag_told o.long;
      fill_size = h.fill_size;
      width_fits = subst (λ (n : ℕ). o.width < 256 ^ n) (sym told) h.width;
      height_fits = subst (λ (n : ℕ). o.height < 256 ^ n) (sym told) h.height;
      offsets_size = subst (λ (n : ℕ). length offsets ≡ inputs * (2 * n)) (sym told) h.offsets_size;
    }

-- ---- what the code finds

pub overlay_short : (inputs : ℕ) (bytes : List ℕ) → length bytes < 2 → None ≡ overlay_at inputs bytes
unfolding overlay_at
overlay_short inputs [] short = refl
overlay_short inputs (a ∷ []) short = refl
overlay_short inputs (a ∷ b ∷ rest) short = absurd (omega arith)

-- by places
overlay_by_places : (inputs : ℕ) (bytes : List ℕ) → 2 ≤ length bytes → overlay_at inputs bytes ≡ cond (eqb (get_or bytes 0 0) 0 && leb (8 + 2 * side (get_or bytes 1 0) + inputs * (2 * side (get_or bytes 1 0))) (length (drop 2 bytes))) (Some (made (get_or bytes 1 0) (drop 2 bytes))) None
unfolding overlay_at
overlay_by_places inputs [] long = absurd (omega arith)
overlay_by_places inputs (a ∷ []) long = absurd (omega arith)
overlay_by_places inputs (a ∷ b ∷ rest) long = refl

-- the front of so many bytes tells
pub front_at : (front bytes : List ℕ) (i : ℕ) → front ≡ take 18 bytes → i < 18 → get_or front i 0 ≡ get_or bytes i 0
front_at front bytes i e less = ap (λ (l : List ℕ). get_or l i 0) e ∙ get_or-take 18 bytes i 0 less

pub front_long : (front bytes : List ℕ) → front ≡ take 18 bytes → 2 ≤ length front → 2 ≤ length bytes
front_long front bytes e long = let size : length front ≡ min 18 (length bytes) = ap length e ∙ length-take 18 bytes in omega arith

pub front_fails : (inputs : ℕ) (front bytes : List ℕ) → front ≡ take 18 bytes → length front < 2 → None ≡ overlay_at inputs bytes
front_fails inputs front bytes e short = let size : length front ≡ min 18 (length bytes) = ap length e ∙ length-take 18 bytes in overlay_short inputs bytes (omega arith)

pub version_fails : (inputs : ℕ) (front bytes : List ℕ) → front ≡ take 18 bytes → 2 ≤ length front → (get_or front 0 0 ≡ 0 → ⊥) → None ≡ overlay_at inputs bytes
version_fails inputs front bytes e long other =
    let f : eqb (get_or bytes 0 0) 0 ≡ false = ne_eqb (get_or bytes 0 0) 0 (λ z. other (front_at front bytes 0 e (omega arith) ∙ z)) in
    sym (overlay_by_places inputs bytes (front_long front bytes e long) ∙ rw f refl)

-- the test for room, with the flags in front of it
room_test : (fixed len : ℕ) (bytes : List ℕ) → length bytes ≡ len → 2 ≤ length bytes → leb (fixed + 2) len ≡ leb fixed (length (drop 2 bytes))
room_test fixed len bytes size long = elim (cases_lt len (fixed + 2)) [
  | inl less ↦ lt-leb (fixed + 2) len less ∙ sym (lt-leb fixed (length (drop 2 bytes)) (omega (arith, length-drop 2 bytes)))
  | inr more ↦ le-leb (fixed + 2) len more ∙ sym (le-leb fixed (length (drop 2 bytes)) (omega (arith, length-drop 2 bytes)))
]

room_at : (inputs len s : ℕ) (front bytes : List ℕ) → front ≡ take 18 bytes → length bytes ≡ len → 2 ≤ length front → s ≡ side (get_or front 1 0)
    → leb (10 + 2 * s + inputs * (2 * s)) len ≡ leb (8 + 2 * side (get_or bytes 1 0) + inputs * (2 * side (get_or bytes 1 0))) (length (drop 2 bytes))
room_at inputs len s front bytes e size long is =
    let t = side (get_or bytes 1 0) in
    let same : s ≡ t = is ∙ ap side (front_at front bytes 1 e (omega arith)) in
    let shifted : 10 + 2 * t + inputs * (2 * t) ≡ 8 + 2 * t + inputs * (2 * t) + 2 = omega arith in
    ap (λ (n : ℕ). leb (10 + 2 * n + inputs * (2 * n)) len) same
    ∙ ap (λ (n : ℕ). leb n len) shifted
    ∙ room_test (8 + 2 * t + inputs * (2 * t)) len bytes size (front_long front bytes e long)

pub room_fails : (inputs len s : ℕ) (front bytes : List ℕ) → front ≡ take 18 bytes → length bytes ≡ len → 2 ≤ length front → s ≡ side (get_or front 1 0)
    → leb (10 + 2 * s + inputs * (2 * s)) len ≡ false → None ≡ overlay_at inputs bytes
room_fails inputs len s front bytes e size long is f =
    let t = side (get_or bytes 1 0) in
    let g = sym (room_at inputs len s front bytes e size long is) ∙ f in
    sym (overlay_by_places inputs bytes (front_long front bytes e long) ∙ unmet_is (eqb (get_or bytes 0 0) 0) (leb (8 + 2 * t + inputs * (2 * t)) (length (drop 2 bytes))) (made (get_or bytes 1 0) (drop 2 bytes)) g)

-- there is room for both sides in the front
pub sides_room : (s room len front : ℕ) → s ≤ 4 → 10 + 2 * s + room ≤ len → front ≡ min len 18 → 10 + 2 * s ≤ front
sides_room s room len front few long size = omega arith

pub overlay_is : (inputs len s : ℕ) (front bytes : List ℕ) (long_flag : Bool) (width height : ℕ) → front ≡ take 18 bytes → length bytes ≡ len → 2 ≤ length front → get_or front 0 0 ≡ 0 → s ≡ side (get_or front 1 0)
    → leb (10 + 2 * s + inputs * (2 * s)) len ≡ true → 10 + 2 * s ≤ length front → s ≤ 4
    → long_flag ≡ eqb (get_or front 1 0 % 2) 1 → width ≡ number s (drop 10 front) → height ≡ number s (drop (10 + s) front)
    → Some (record { long = long_flag; width = width; height = height }) ≡ overlay_at inputs bytes
overlay_is inputs len s front bytes long_flag width height e size long zero is room sides few a b c =
    let flags = get_or bytes 1 0 in
    let t = side flags in
    let same : s ≡ t = is ∙ ap side (front_at front bytes 1 e (omega arith)) in
    let whole : length front ≡ min 18 (length bytes) = ap length e ∙ length-take 18 bytes in
    let g = sym (room_at inputs len s front bytes e size long is) ∙ room in
    let z : eqb (get_or bytes 0 0) 0 ≡ true = eq-eqb (get_or bytes 0 0) 0 (sym (front_at front bytes 0 e (omega arith)) ∙ zero) in
    let o = made flags (drop 2 bytes) in
    let places : overlay_at inputs bytes ≡ Some o = overlay_by_places inputs bytes (front_long front bytes e long) ∙ rw (z, g) refl in
    let first : o.long ≡ long_flag = sym (a ∙ ap (λ (n : ℕ). eqb (n % 2) 1) (front_at front bytes 1 e (omega arith))) in
    let wide : width ≡ o.width = b ∙ ap (λ (l : List ℕ). number s (drop 10 l)) e ∙ number_front s 10 18 bytes (omega arith) (omega arith) ∙ ap (number s) (sym (drop-drop 8 2 bytes)) ∙ ap (λ (n : ℕ). number n (drop 8 (drop 2 bytes))) same in
    let place : 2 + (8 + s) ≡ 10 + s = omega arith in
    let high : height ≡ o.height =
    c ∙ ap (λ (l : List ℕ). number s (drop (10 + s) l)) e ∙ number_front s (10 + s) 18 bytes (omega arith) (omega arith)
    ∙ ap (λ (n : ℕ). number s (drop n bytes)) (sym place)
    ∙ ap (number s) (sym (drop-drop (8 + s) 2 bytes))
    ∙ ap (λ (n : ℕ). number n (drop (8 + n) (drop 2 bytes))) same
    in
    ap (λ (x : Overlay). Some x) (overlay_same o long_flag width height first wide high) ∙ sym places

pub finds : (inputs : ℕ) (bytes front : List ℕ) (r : Option Overlay) → front ≡ take 18 bytes → IsBytes front → r ≡ overlay_at inputs bytes → IfSome r (λ o. IsOverlay bytes inputs o)
finds inputs bytes front None same fits e = tt
finds inputs bytes front (Some o) same fits e = overlay_found bytes inputs o (subst (λ (l : List ℕ). IsBytes l) same fits) (sym e)
