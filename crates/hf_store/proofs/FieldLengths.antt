-- How long the bodies of the boxes are whose fields have known widths.
use Rattle.std.proofs.Common.{◌≡◌, ℕ, ◌+◌, ◌*◌, Bool, true, false, List, [], ◌∷◌, length, length-append, refl, arith}
use Rattle.std.specs.List.{flat_map, filter}
use Rattle.hf_base.specs.Number.{num}
use Rattle.hf_base.specs.NumberLaws.{length-num}
use Rattle.hf_box.specs.Head.{box_len}
use Rattle.hf_box.specs.Literals.{four}
use Rattle.hf_head.specs.Ftyp.{Brands, ftyp_body}
use Rattle.hf_info.specs.Infe.{Info, infe_body, infe_box, content_text, uri_text}
use Rattle.hf_info.specs.Iinf.{iinf_body}
use Rattle.hf_links.specs.Grpl.{grpl_body}
use Rattle.hf_links.specs.Iref.{reference_body, iref_body}
use Rattle.hf_prop.specs.declared.assoc.Assoc.{Assoc}
use Rattle.hf_prop.specs.declared.assoc.Pick.{Pick}
use Rattle.hf_prop.specs.Ipma.{association, ipma_entry, ipma_body}
use Rattle.hf_prop.specs.Iprp.{iprp_body}
use Rattle.hf_store.specs.Store.{ItemStore}
use Rattle.hf_store.specs.Layout.{is_wide, box_if_any, infos_of, all_boxes, iprp_of, in_idat, bytes_in, meta_front}
use Rattle.hf_box.specs.Written.{bit, id_width}
use Rattle.hf_head.specs.Hdlr.{hdlr_body}
use Rattle.hf_head.specs.Pitm.{pitm_body}
use Rattle.hf_store.proofs.BoxLengths.{length-box}

pub length-ftyp_body : (b : Brands) → length b.major.0 ≡ 4 → length (ftyp_body b) ≡ 8 + length b.compatible
unfolding ftyp_body
length-ftyp_body b major = simp (length-append, length-num) (omega (arith, major))

pub length-hdlr_body : length hdlr_body ≡ 25
unfolding hdlr_body
length-hdlr_body = simp (length-append, length-num) (omega arith)

pub length-pitm_body : (wide : Bool) (id : ℕ) → length (pitm_body wide id) ≡ 4 + id_width wide
unfolding pitm_body
length-pitm_body wide id = simp (length-append, length-num) (omega arith)

-- the strings of an entry behind its name, with the zero bytes that end them
unfoldable pub strings_len : Info → ℕ
strings_len info = length (content_text info) + length (uri_text info)

pub length-infe_body : (wide : Bool) (info : Info) → length info.kind.0 ≡ 4 → length (infe_body wide info) ≡ 11 + id_width wide + length info.name + strings_len info
unfolding infe_body strings_len
length-infe_body wide info kind = simp (length-append, length-num) (omega (arith, kind))

pub length-iinf_body : (wide : Bool) (infos : List Info) → length (iinf_body wide infos) ≡ 4 + id_width wide + length (flat_map (infe_box wide) infos)
unfolding iinf_body
length-iinf_body wide infos = simp (length-append, length-num) (omega arith)

-- numbers of one width
pub length-nums : (w : ℕ) (xs : List ℕ) → length (flat_map (λ x. num x w) xs) ≡ length xs * w
length-nums w [] = omega arith
length-nums w (x ∷ xs) = simp (length-append, length-num) (omega (arith, length-nums w xs))

pub length-reference_body : (wide : Bool) (from : ℕ) (to : List ℕ) → length (reference_body wide from to) ≡ id_width wide + 2 + length to * id_width wide
unfolding reference_body
length-reference_body wide from to = simp (length-append, length-num, length-nums) (omega arith)

length-association : (two_bytes : Bool) (p : Pick) → length (association two_bytes p) ≡ 1 + bit two_bytes
length-association true p = length-num 2 _
length-association false p = length-num 1 _

length-associations : (two_bytes : Bool) (ps : List Pick) → length (flat_map (association two_bytes) ps) ≡ length ps * (1 + bit two_bytes)
length-associations two_bytes [] = omega arith
length-associations two_bytes (p ∷ ps) = simp (length-append, length-association) (omega (arith, length-associations two_bytes ps))

pub length-ipma_entry : (wide two_bytes : Bool) (a : Assoc) → length (ipma_entry wide two_bytes a) ≡ id_width wide + 1 + length a.picks * (1 + bit two_bytes)
unfolding ipma_entry
length-ipma_entry wide two_bytes a = simp (length-append, length-num, length-associations) (omega arith)

pub length-ipma_body : (wide two_bytes : Bool) (assocs : List Assoc) → length (ipma_body wide two_bytes assocs) ≡ 8 + length (flat_map (ipma_entry wide two_bytes) assocs)
unfolding ipma_body
length-ipma_body wide two_bytes assocs = simp (length-append, length-num) (omega arith)

-- the parts of `meta` before its `iloc`
pub length-meta_front : (s : ItemStore)
    → length (meta_front s)
    ≡ 4 + box_len (length hdlr_body) + box_len (length (pitm_body (is_wide s.items) s.primary)) + box_len (length (iinf_body (is_wide s.items) (infos_of s.items)))
    + length (box_if_any (four "iref") (iref_body (is_wide s.items)) (all_boxes s.items))
    + box_len (length (iprp_body (is_wide s.items) (iprp_of s)))
    + length (box_if_any (four "grpl") grpl_body s.groups)
    + length (box_if_any (four "idat") bytes_in (filter in_idat s.items))
unfolding meta_front
length-meta_front s =
    let wide = is_wide s.items in
    simp (length-append, length-num, length-box (four "hdlr") hdlr_body refl, length-box (four "pitm") (pitm_body wide s.primary) refl, length-box (four "iinf") (iinf_body wide (infos_of s.items)) refl, length-box (four "iprp") (iprp_body wide (iprp_of s)) refl) (omega arith)
