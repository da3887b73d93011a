-- The body that is written has its entries.
use Rattle.std.proofs.Common.{◌≡◌, ℕ, ◌+◌, ◌*◌, ◌≤◌, ◌<◌, ◌^◌, ◌⊎◌, Bool, true, false, List, [], ◌∷◌, ◌++◌, length, map, Ok, refl, sym, ap, subst, ◌∙◌, append_assoc, length-append, arith, inl, inr}
use Rattle.std.specs.List.{flat_map, AllByRecursion}
use Rattle.std.specs.Prelude.{IsTrue}
use Rattle.std.proofs.lemmas.List.{append-nil, length-map}
use Rattle.std.proofs.lemmas.List.Concat.{flat_map-cons}
use Rattle.std.proofs.lemmas.List.Sums.{sum_by-cons}
use Rattle.std.proofs.Math.Nat.{mod-eq_of_lt}
use Rattle.hf_base.specs.declared.limits.TheConstants.{ROWS}
use Rattle.hf_base.specs.declared.loc.Extent.{Extent}
use Rattle.hf_base.specs.declared.loc.Loc.{Loc}
use Rattle.hf_base.specs.Entries.{AreTexts, are_distinct}
use Rattle.hf_base.specs.Number.{num}
use Rattle.hf_base.specs.NumberLaws.{length-num}
use Rattle.hf_base.specs.Reading.{full}
use Rattle.hf_box.specs.Written.{id_width}
use Rattle.hf_loc.specs.Iloc.{Widths, widths_of, are_widths, IsExtent, IsEntry, loc_ids, loc_rows, IsIloc, iloc_at, iloc_version, Entry, loc_of, iloc_entry, entry_text, iloc_body, IsWritten}
use Rattle.hf_loc.proofs.IlocLemmas.{iloc_again}

-- offsets and lengths of w bytes
abbrev pub IsNumberWidth : ℕ → Type 0
IsNumberWidth w = (w ≡ 4) ⊎ (w ≡ 8)

-- the widths that the body states
abbrev widths : Bool → ℕ → Widths
widths wide w = record { id = id_width wide; method = 2; offset = w; length = w; base = 0; index = 0 }

abbrev stated : Bool → ℕ → Widths
stated wide w = widths_of (iloc_version wide) (16 * w + w) 0

stated_is : (wide : Bool) (w : ℕ) → IsNumberWidth w → stated wide w ≡ widths wide w
stated_is false w (inl e) = rw e refl
stated_is false w (inr e) = rw e refl
stated_is true w (inl e) = rw e refl
stated_is true w (inr e) = rw e refl

are_widths-stated : (wide : Bool) (w : ℕ) → IsNumberWidth w → are_widths (stated wide w) ≡ true
are_widths-stated false w (inl e) = rw e refl
are_widths-stated false w (inr e) = rw e refl
are_widths-stated true w (inl e) = rw e refl
are_widths-stated true w (inr e) = rw e refl

version_known : (wide : Bool) → iloc_version wide ≤ 2
version_known false = omega arith
version_known true = omega arith

sizes_fit : (w : ℕ) → IsNumberWidth w → 16 * w + w < 256
sizes_fit w (inl e) = omega arith
sizes_fit w (inr e) = omega arith

num_none : (n : ℕ) → num n 0 ≡ []
unfolding num
num_none n = refl

-- ---- an entry

abbrev extent : Entry → Extent
extent e = record { index = 1; offset = e.offset; length = e.length }

extent_is : (wide : Bool) (w : ℕ) (e : Entry) → IsWritten wide w e → IsExtent (widths wide w) (num e.offset w ++ num e.length w) (extent e)
extent_is wide w e h = record { index = 0; index_fits = omega arith; is_index = refl; offset = h.offset; length = h.length; is = rw (num_none 0) refl }

entry_is : (wide : Bool) (w : ℕ) (e : Entry) → IsWritten wide w e → IsEntry (widths wide w) (entry_text wide w e) (loc_of e)
unfolding iloc_entry
entry_is wide w e h =
    let parts = num e.offset w ++ num e.length w in
    record {
      method = e.method;
      method_fits = omega (arith, h.method);
      is_method = sym (mod-eq_of_lt h.method);
      id = h.id;
      dref = omega arith;
      base = omega arith;
      count = omega arith;
      parts = parts;
      is = rw (num_none 0) (simp append_assoc);
      extents = (parts, [], sym (append-nil parts), extent_is wide w e h, refl);
    }

entries_are : (wide : Bool) (w : ℕ) (es : List Entry) → AllByRecursion (IsWritten wide w) es → AreTexts (IsEntry (widths wide w)) (flat_map (entry_text wide w) es) (map loc_of es)
entries_are wide w [] h = refl
entries_are wide w (e ∷ es) h = (entry_text wide w e, flat_map (entry_text wide w) es, flat_map-cons (entry_text wide w) e es, entry_is wide w e h.0, entries_are wide w es h.1)

abbrev ids : List Entry → List ℕ
ids es = map (λ (e : Entry). e.id) es

same_ids : (es : List Entry) → loc_ids (map loc_of es) ≡ ids es
same_ids [] = refl
same_ids (e ∷ es) = ap (λ (l : List ℕ). e.id ∷ l) (same_ids es)

-- each entry is two rows
rows_are : (es : List Entry) → loc_rows (map loc_of es) ≡ 2 * length es
rows_are [] = refl
rows_are (e ∷ es) = omega (arith, sum_by-cons (λ (l : Loc). 1 + length l.extents) (loc_of e) (map loc_of es), rows_are es)

-- ---- the body

pub written_is : (wide : Bool) (w : ℕ) (es : List Entry) → IsNumberWidth w → length es < 256 ^ id_width wide → AllByRecursion (IsWritten wide w) es → IsTrue (are_distinct (ids es))
    → IsIloc (iloc_body wide w es) (map loc_of es)
unfolding iloc_body
written_is wide w es width count fits distinct =
    let same = stated_is wide w width in
    let id : (stated wide w).id ≡ id_width wide = ap (λ (y : Widths). y.id) same in
    let len = length-map es loc_of in
    let text = flat_map (entry_text wide w) es in
    let written : (full (iloc_version wide) 0 ++ num (16 * w + w) 1 ++ num 0 1 ++ num (length es) (id_width wide) ++ text) ≡ full (iloc_version wide) 0 ++ (num (16 * w + w) 1 ++ (num 0 1 ++ (num (length es) (id_width wide) ++ (text ++ [])))) = rw (append-nil text) (simp append_assoc) in
    let moved : (n k : ℕ) → n ≡ length es → k ≡ id_width wide → full (iloc_version wide) 0 ++ (num (16 * w + w) 1 ++ (num 0 1 ++ (num (length es) (id_width wide) ++ (text ++ [])))) ≡ full (iloc_version wide) 0 ++ (num (16 * w + w) 1 ++ (num 0 1 ++ (num n k ++ (text ++ [])))) = λ n k a b. rw (a, b) refl in
    record {
      version = iloc_version wide;
      known = version_known wide;
      flags = 0;
      flags_fit = omega arith;
      sizes = 16 * w + w;
      sizes_fit = sizes_fit w width;
      bases = 0;
      bases_fit = omega arith;
      widths = are_widths-stated wide w width;
      count = subst (λ (k : ℕ). length (map loc_of es) < 256 ^ k) (sym id) (subst (λ (n : ℕ). n < 256 ^ id_width wide) (sym len) count);
      entries = text;
      rest = [];
      is = written ∙ moved (length (map loc_of es)) (stated wide w).id len id;
      texts = subst (λ (y : Widths). AreTexts (IsEntry y) text (map loc_of es)) (sym same) (entries_are wide w es fits);
      distinct = ap are_distinct (same_ids es) ∙ distinct;
    }

pub written_read : (at : ℕ) (wide : Bool) (w : ℕ) (es : List Entry) → IsNumberWidth w → length es < 256 ^ id_width wide → AllByRecursion (IsWritten wide w) es → IsTrue (are_distinct (ids es)) → 2 * length es ≤ ROWS
    → iloc_at at (iloc_body wide w es) ≡ Ok (map loc_of es)
written_read at wide w es width count fits distinct few =
    iloc_again ROWS at (iloc_body wide w es) (map loc_of es) (written_is wide w es width count fits distinct) (subst (λ (n : ℕ). n ≤ ROWS) (sym (rows_are es)) few)

-- ---- lengths

pub length-entry : (wide : Bool) (w id method offset len : ℕ) → length (iloc_entry wide w id method offset len) ≡ id_width wide + 6 + 2 * w
unfolding iloc_entry
length-entry wide w id method offset len = simp (length-append, length-num) (omega arith)

-- an entry is what stands in front of its extent, and the extent
pub entry_parts : (wide : Bool) (w id method offset len : ℕ) → (num id (id_width wide) ++ num method 2 ++ num 0 2 ++ num 1 2) ++ (num offset w ++ num len w) ≡ iloc_entry wide w id method offset len
unfolding iloc_entry
entry_parts wide w id method offset len = simp append_assoc
