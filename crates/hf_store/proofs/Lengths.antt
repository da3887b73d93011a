-- How long `iloc` and `meta` are, whatever the offsets are.
use Rattle.std.proofs.Common.{◌≡◌, ℕ, ◌+◌, ◌*◌, Bool, List, [], ◌∷◌, length, length-append, refl, ap, ◌∙◌, arith}
use Rattle.std.specs.List.{flat_map}
use Rattle.std.proofs.lemmas.List.{length-map}
use Rattle.hf_base.specs.NumberLaws.{length-num}
use Rattle.hf_box.specs.Head.{box_len}
use Rattle.hf_store.specs.Store.{Item, ItemStore}
use Rattle.hf_box.specs.Literals.{four}
use Rattle.hf_box.specs.Written.{id_width}
use Rattle.hf_loc.specs.Iloc.{Entry, iloc_entry, entry_text, iloc_body}
use Rattle.hf_store.specs.Layout.{Homes, own, is_wide, with_bytes, entry_of, entries_of, meta_front, meta_body}
use Rattle.hf_store.specs.Valid.{meta_len}
use Rattle.hf_store.proofs.BoxLengths.{length-box}

pub length-iloc_entry : (wide : Bool) (w id method offset len : ℕ) → length (iloc_entry wide w id method offset len) ≡ 6 + id_width wide + (w + w)
unfolding iloc_entry
length-iloc_entry wide w id method offset len = simp (length-append, length-num) (omega arith)

length-entries : (wide : Bool) (w : ℕ) (entries : List Entry) → length (flat_map (entry_text wide w) entries) ≡ length entries * (6 + id_width wide + (w + w))
length-entries wide w [] = omega arith
length-entries wide w (e ∷ es) =
    simp (length-append, length-iloc_entry) (omega (arith, length-entries wide w es))

length-body : (wide : Bool) (w : ℕ) (entries : List Entry) → length (iloc_body wide w entries) ≡ 6 + id_width wide + length entries * (6 + id_width wide + (w + w))
unfolding iloc_body
length-body wide w entries = simp (length-append, length-num, length-entries wide w entries) (omega arith)

pub length-iloc_body : (home : Homes) (wide : Bool) (w file_len : ℕ) (is : List Item)
    → length (iloc_body wide w (entries_of home file_len is)) ≡ 6 + id_width wide + length (with_bytes is) * (6 + id_width wide + (w + w))
length-iloc_body home wide w file_len is =
    length-body wide w (entries_of home file_len is) ∙ ap (λ (n : ℕ). 6 + id_width wide + n * (6 + id_width wide + (w + w))) (length-map (with_bytes is) (entry_of home file_len is))

-- bytes in the body of `meta`, with offsets of w bytes
unfoldable pub meta_body_len : ℕ → ItemStore → ℕ
meta_body_len w s =
    length (meta_front s)
    + box_len (6 + id_width (is_wide s.items) + length (with_bytes s.items) * (6 + id_width (is_wide s.items) + (w + w)))

pub length-meta_body : (home : Homes) (w file_len : ℕ) (s : ItemStore) → length (meta_body home w file_len s) ≡ meta_body_len w s
unfolding meta_body meta_body_len
length-meta_body home w file_len s =
    simp (length-append, length-box (four "iloc") (iloc_body (is_wide s.items) w (entries_of home file_len s.items)) refl, length-iloc_body)

pub meta_len-is : (s : ItemStore) → meta_len s ≡ box_len (meta_body_len 8 s)
unfolding meta_len
meta_len-is s = length-box (four "meta") (meta_body own 8 0 s) refl ∙ ap box_len (length-meta_body own 8 0 s)
