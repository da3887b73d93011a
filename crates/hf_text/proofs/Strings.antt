-- The texts of strings and brands, part by part.
use Rattle.std.proofs.Common.{◌≡◌, ◌<◌, ◌≤◌, ◌+◌, ℕ, suc, Bool, true, false, List, [], ◌∷◌, ◌++◌, length, take, drop, get_or, refl, sym, ap, ◌∙◌, arith, append_assoc, length-append}
use Rattle.std.specs.Prelude.{◌==◌, ◌/◌, ◌%◌, if◌then◌else◌, codes}
use Rattle.std.specs.List.{flat_map}
use Rattle.std.specs.Str.{bytes_eq}
use Rattle.std.proofs.lemmas.Bool.{eqb-true}
use Rattle.std.proofs.lemmas.List.{take-append-drop, take_more, flat_map_more}
use Rattle.std.proofs.lemmas.List.Concat.{flat_map-append}
use Rattle.std.proofs.lemmas.Slice.Eq.{bytes_eq-Decides}
use Rattle.hf_text.specs.Texts.{is_plain, hex_digit_of, byte_text}
use Rattle.hf_store.specs.Store.{Item}
use Rattle.hf_text.specs.Lines.{number_field, type_field}
use Rattle.hf_text.specs.Listing.{string_field, brand_fields, shown_field, entry_text}

-- ---- runs of plain bytes

chosen : (b : Bool) (x y : List ℕ) → b ≡ true → (if b then x else y) ≡ x
chosen true x y e = refl
chosen false x y e = absurd (cc)

not_chosen : (b : Bool) (x y : List ℕ) → b ≡ false → (if b then x else y) ≡ y
not_chosen true x y e = absurd (cc)
not_chosen false x y e = refl

pub plain_byte : (byte : ℕ) → is_plain byte ≡ true → byte_text byte ≡ byte ∷ []
plain_byte byte is = chosen (is_plain byte) (byte ∷ []) (codes "\\x" ++ hex_digit_of (byte / 16) ∷ hex_digit_of (byte % 16) ∷ []) is

-- a byte that is no plain one, piece by piece
pub other_byte : (text begun more all : List ℕ) (byte high low : ℕ) → is_plain byte ≡ false → begun ≡ text ++ codes "\\x" → high ≡ hex_digit_of (byte / 16)
    → low ≡ hex_digit_of (byte % 16) → more ≡ begun ++ high ∷ [] → all ≡ more ++ low ∷ [] → all ≡ text ++ byte_text byte
other_byte text begun more all byte high low is front first second one two =
    let whole : all ≡ ((text ++ codes "\\x") ++ high ∷ []) ++ low ∷ [] = cc in
    let digits : high ∷ low ∷ [] ≡ hex_digit_of (byte / 16) ∷ hex_digit_of (byte % 16) ∷ [] = cc in
    whole
    ∙ ap (λ (l : List ℕ). l ++ low ∷ []) (append_assoc text (codes "\\x") (high ∷ []))
    ∙ append_assoc text (codes "\\x" ++ high ∷ []) (low ∷ [])
    ∙ ap (λ (l : List ℕ). text ++ (codes "\\x" ++ l)) digits
    ∙ ap (λ (l : List ℕ). text ++ l) (sym (not_chosen (is_plain byte) (byte ∷ []) (codes "\\x" ++ hex_digit_of (byte / 16) ∷ hex_digit_of (byte % 16) ∷ []) is))

-- a word behind a space
module _ (text begun all word : List ℕ) (space : 32 < 128 → begun ≡ text ++ codes " ") (last : all ≡ begun ++ word) where
  pub after_space : all ≡ text ++ (codes " " ++ word)
  after_space = last ∙ ap (λ (l : List ℕ). l ++ word) (space (omega arith)) ∙ append_assoc text (codes " ") word

  pub after_space-length : (n : ℕ) → length word ≤ n → length all ≤ length text + (n + 1)
  after_space-length n short =
      let whole : length all ≡ length text + suc (length word) = ap length after_space ∙ length-append text (codes " " ++ word) in
      omega arith

-- there is a byte
pub filled : (bytes : List ℕ) (b : Bool) → b ≡ (length bytes == 0) → b ≡ false → 0 < length bytes
filled [] b e is = absurd (cc)
filled (x ∷ xs) b e is = omega arith

-- a plain byte behind plain ones
pub plain_more : (bytes : List ℕ) (i d : ℕ) → i < length bytes → is_plain (get_or bytes i d) ≡ true → flat_map byte_text (take i bytes) ≡ take i bytes
    → flat_map byte_text (take (i + 1) bytes) ≡ take (i + 1) bytes
plain_more bytes i d less is plain =
    let last : byte_text (get_or bytes i d) ≡ get_or bytes i d ∷ [] = plain_byte (get_or bytes i d) is in
    ap (flat_map byte_text) (take_more bytes i d less)
    ∙ sym (flat_map_more byte_text [] (take i bytes) (get_or bytes i d))
    ∙ ap (λ (l : List ℕ). l ++ byte_text (get_or bytes i d)) plain
    ∙ ap (λ (l : List ℕ). take i bytes ++ l) last
    ∙ sym (take_more bytes i d less)

-- a run of plain bytes, and the others
pub run_then : (bytes : List ℕ) (n : ℕ) → flat_map byte_text (take n bytes) ≡ take n bytes → flat_map byte_text bytes ≡ take n bytes ++ flat_map byte_text (drop n bytes)
run_then bytes n plain =
    ap (flat_map byte_text) (sym (take-append-drop n bytes))
    ∙ flat_map-append byte_text (take n bytes) (drop n bytes)
    ∙ ap (λ (l : List ℕ). l ++ flat_map byte_text (drop n bytes)) plain

-- ---- strings

pub string-none : (bytes : List ℕ) → (length bytes == 0) ≡ true → string_field bytes ≡ codes " -"
unfolding string_field
string-none [] e = refl
string-none (b ∷ bs) e = absurd (omega (arith, eqb-true (length (b ∷ bs)) 0 e))

pub string-hyphen : (bytes : List ℕ) → bytes_eq bytes (codes "-") ≡ true → string_field bytes ≡ codes " \\x2d"
unfolding string_field
string-hyphen bytes e = ap string_field ((bytes_eq-Decides bytes (codes "-")).0 e)

pub string-other : (bytes : List ℕ) → (length bytes == 0) ≡ false → bytes_eq bytes (codes "-") ≡ false → string_field bytes ≡ codes " " ++ flat_map byte_text bytes
unfolding string_field
string-other [] e f = absurd (cc)
string-other (b ∷ bs) e f = ap (λ (t : Bool). codes " " ++ (if t then codes "\\x2d" else flat_map byte_text (b ∷ bs))) f

-- ---- brands

pub brands-more : (bytes : List ℕ) → 4 ≤ length bytes → brand_fields bytes ≡ (codes " " ++ flat_map byte_text (take 4 bytes)) ++ brand_fields (drop 4 bytes)
unfolding brand_fields
brands-more [] h = absurd (omega arith)
brands-more (a ∷ []) h = absurd (omega arith)
brands-more (a ∷ b ∷ []) h = absurd (omega arith)
brands-more (a ∷ b ∷ c ∷ []) h = absurd (omega arith)
brands-more (a ∷ b ∷ c ∷ d ∷ rest) h = refl

pub brands-none : (bytes : List ℕ) → (4 ≤ length bytes → ⊥) → brand_fields bytes ≡ []
unfolding brand_fields
brands-none [] h = refl
brands-none (a ∷ []) h = refl
brands-none (a ∷ b ∷ []) h = refl
brands-none (a ∷ b ∷ c ∷ []) h = refl
brands-none (a ∷ b ∷ c ∷ d ∷ rest) h = absurd (h (omega arith))

-- ---- whole lines

-- the words in front of an item's strings
pub entry_is : (i : Item) (words : List ℕ) (len : ℕ) → words ≡ codes "item" ++ number_field i.id ++ type_field i.kind ++ number_field len ++ shown_field i.hidden → len ≡ length i.bytes
    → words ++ string_field i.name ++ string_field i.content ++ string_field i.encoding ++ string_field i.uri ++ codes "\n" ≡ entry_text i
unfolding entry_text
entry_is i words len e same = rw (e, same) refl
