-- How long `meta` is where an item comes beside one with a name.
use Rattle.std.proofs.Common.{◌≡◌, ℕ, ◌+◌, ◌<◌, ◌*◌, ◌^◌, ap, ◌∙◌, false, List, [], ◌∷◌, ◌++◌, length, length-append, refl, arith}
use Rattle.std.specs.List.{filter}
use Rattle.hf_box.specs.Head.{box_len}
use Rattle.hf_box.specs.Literals.{four}
use Rattle.hf_box.specs.Written.{id_width}
use Rattle.hf_head.specs.Hdlr.{hdlr_body}
use Rattle.hf_head.specs.Pitm.{pitm_body}
use Rattle.hf_info.specs.Iinf.{iinf_body}
use Rattle.hf_info.specs.Infe.{infe_body, infe_box}
use Rattle.hf_links.specs.Grpl.{grpl_body}
use Rattle.hf_links.specs.Iref.{iref_body}
use Rattle.hf_prop.specs.Iprp.{iprp_body}
use Rattle.hf_store.specs.Layout.{is_wide, with_bytes, info_of, infos_of, all_boxes, iprp_of, in_idat, bytes_in, box_if_any}
use Rattle.hf_store.specs.Store.{Item, ItemStore}
use Rattle.hf_store.specs.Valid.{meta_len}
use Rattle.hf_store.proofs.BoxLengths.{length-box, box_len-short}
use Rattle.hf_store.proofs.FieldLengths.{strings_len, length-infe_body, length-iinf_body, length-meta_front}
use Rattle.hf_store.proofs.Lengths.{meta_body_len, meta_len-is}
use Rattle.hf_worked.proofs.ValidStores.{layout}
use Rattle.hf_worked.specs.WorkedStores.{heic, one_empty_item, plain}
use Rattle.hf_edit.specs.Additions.{exif_item, next_id_of, thumbnail_item, xmp_item}
use Rattle.hf_edit.specs.Edits.{AddExif, AddXmp, Thumb, step}
use Rattle.hf_edit.specs.WorkedLimits.{named_picture}

-- the item with the name
one : List ℕ → Item
one name = record (plain 1 "hvc1" []) { name = name }

beside : List ℕ → Item → ItemStore
beside name other = record { brands = heic; primary = 1; items = one name ∷ other ∷ []; groups = [] }

named_infe : (name : List ℕ) (n : ℕ) → length name ≡ n → n < 2 ^ 31 → length (infe_box false (info_of (one name))) ≡ 21 + n
unfolding one
named_infe name n len few =
    let body : length (infe_body false (info_of (one name))) ≡ 13 + n = length-infe_body false (info_of (one name)) refl ∙ (unfold strings_len in omega (arith, len)) in
    omega (arith, length-box (four "infe") (infe_body false (info_of (one name))) refl ∙ ap box_len body ∙ box_len-short (13 + n) (omega (arith, few)))

-- the boxes beside `iinf`
others : ItemStore → ℕ
others s =
    box_len (length hdlr_body) + box_len (length (pitm_body (is_wide s.items) s.primary))
    + length (box_if_any (four "iref") (iref_body (is_wide s.items)) (all_boxes s.items))
    + box_len (length (iprp_body (is_wide s.items) (iprp_of s)))
    + length (box_if_any (four "grpl") grpl_body s.groups)
    + length (box_if_any (four "idat") bytes_in (filter in_idat s.items))
    + box_len (6 + id_width (is_wide s.items) + length (with_bytes s.items) * (6 + id_width (is_wide s.items) + (8 + 8)))

module _ (other : Item) (name : List ℕ) (n k rest : ℕ) (len : length name ≡ n) (few : n < 2 ^ 31) (infe : length (infe_box false (info_of other)) ≡ k) (narrow : is_wide (beside name other).items ≡ false) (boxes : others (beside name other) ≡ rest) (short : k + rest < 1000) where
  iinf : box_len (length (iinf_body (is_wide (beside name other).items) (infos_of (beside name other).items))) ≡ 8 + (27 + n + k)
  unfolding beside
  iinf =
      let body : length (iinf_body false (infos_of (beside name other).items)) ≡ 27 + n + k =
      length-iinf_body false (infos_of (beside name other).items)
      ∙ omega (arith, length-append (infe_box false (info_of (one name))) (infe_box false (info_of other) ++ []), length-append (infe_box false (info_of other)) [], named_infe name n len few, infe)
      in
      rw narrow (ap box_len body ∙ box_len-short (27 + n + k) (omega (arith, few, short)))

  beside_len : meta_len (beside name other) ≡ 47 + n + k + rest
  unfolding meta_body_len others
  beside_len =
      let body : meta_body_len 8 (beside name other) ≡ 39 + n + k + rest = omega (arith, length-meta_front (beside name other), iinf, boxes) in
      omega (arith, meta_len-is (beside name other), ap box_len body, box_len-short (39 + n + k + rest) (omega (arith, few, short)))

pub with_exif : (name : List ℕ) (n : ℕ) → length name ≡ n → n < 2 ^ 31 → meta_len (step (named_picture name []) (AddExif 1 [])) ≡ 213 + n
unfolding layout one beside others named_picture next_id_of
with_exif name n len few = omega (arith, beside_len (exif_item [] 1 2) name n 21 145 len few refl refl refl (omega arith))

pub with_xmp : (name : List ℕ) (n : ℕ) → length name ≡ n → n < 2 ^ 31 → meta_len (step (named_picture name []) (AddXmp 1 [])) ≡ 209 + n
unfolding layout one beside others named_picture next_id_of
with_xmp name n len few = omega (arith, beside_len (xmp_item [] 1 2) name n 41 121 len few refl refl refl (omega arith))

pub with_thumbnail : (name : List ℕ) (n : ℕ) → length name ≡ n → n < 2 ^ 31 → meta_len (step (named_picture name []) (Thumb 1 one_empty_item)) ≡ 189 + n
unfolding layout one beside others named_picture next_id_of one_empty_item
with_thumbnail name n len few = omega (arith, beside_len (thumbnail_item (plain 1 "hvc1" []) 1 2) name n 21 121 len few refl refl refl (omega arith))
