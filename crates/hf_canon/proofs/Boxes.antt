-- A layout is boxes, and so is its `meta`.
use Rattle.std.proofs.Common.{◌≡◌, ◌+◌, ◌^◌, ◌<◌, ℕ, Bool, true, false, List, [], ◌∷◌, ◌++◌, length, drop, Option, Some, None}
use Rattle.std.proofs.Common.{refl, sym, ap, subst, ◌∙◌, append_assoc, append-nil, length-append, arith, inl, inr}
use Rattle.std.specs.List.{filter}
use Rattle.std.specs.Option.{option_to_list}
use Rattle.std.proofs.lemmas.List.{drop_at}
use Rattle.hf_base.specs.NumberLaws.{length-num}
use Rattle.hf_base.specs.Reading.{full}
use Rattle.hf_base.specs.declared.four.FourCc.{FourCc}
use Rattle.hf_box.specs.Boxes.{BoxAt, IsBoxes}
use Rattle.hf_box.specs.Head.{box, head_len, written_at}
use Rattle.hf_box.specs.Literals.{four}
use Rattle.hf_box.proofs.HeadLemmas.{boxes-written}
use Rattle.hf_head.specs.Ftyp.{ftyp_body}
use Rattle.hf_head.specs.Hdlr.{hdlr_body}
use Rattle.hf_head.specs.Pitm.{pitm_body}
use Rattle.hf_info.specs.Iinf.{iinf_body}
use Rattle.hf_links.specs.Grpl.{grpl_body}
use Rattle.hf_links.specs.Iref.{iref_body}
use Rattle.hf_loc.specs.Iloc.{iloc_body}
use Rattle.hf_prop.specs.Iprp.{iprp_body}
use Rattle.hf_store.specs.Layout.{own, is_wide, infos_of, all_boxes, iprp_of, entries_of, in_idat, bytes_in, mdat_body, box_if_any, meta_front, meta_body, laid}
use Rattle.hf_store.specs.Store.{ItemStore}
use Rattle.hf_store.proofs.BoxLengths.{length-box, box_len-cases}
use Rattle.hf_plan.specs.Lay.{Lay}
use Rattle.hf_read.specs.TopLevel.{Parts, AreParts}
use Rattle.hf_canon.proofs.LaidOut.{HasBodyIfAny, IsLaidOut}

-- ---- boxes one behind the other

-- a box with a length has a size
pub has_size : (kind : FourCc) (body : List ℕ) → length kind.0 ≡ 4 → length (box kind body) < 256 ^ 8 → 16 + length body < 256 ^ 8
has_size kind body four few =
    let len = length-box kind body four in
    elim (box_len-cases (length body)) [
      | inl p ↦ omega (arith, p.0)
      | inr p ↦ omega (arith, p.1, few, len)
    ]

-- what stands behind some bytes has a length
pub behind_few : (front rest : List ℕ) → length (front ++ rest) < 256 ^ 8 → length rest < 256 ^ 8
behind_few front rest few = omega (arith, few, length-append front rest)

pub then_box : (top : Bool) (kind : FourCc) (body rest : List ℕ) (place : ℕ) (others : List BoxAt) → length kind.0 ≡ 4
    → length (box kind body ++ rest) < 256 ^ 8 → IsBoxes rest (place + length (box kind body)) top others
    → IsBoxes (box kind body ++ rest) place top (written_at place kind body ∷ others)
then_box top kind body rest place others four few more =
    let size = has_size kind body four (omega (arith, few, length-append (box kind body) rest)) in
    boxes-written (box kind body ++ rest) place top kind body rest others refl four size more

pub last_box : (top : Bool) (kind : FourCc) (body : List ℕ) (place : ℕ) → length kind.0 ≡ 4 → length (box kind body) < 256 ^ 8
    → IsBoxes (box kind body) place top (written_at place kind body ∷ [])
last_box top kind body place four few =
    let whole = sym (append-nil (box kind body)) in
    boxes-written (box kind body) place top kind body [] [] whole four (has_size kind body four few) refl

-- a box that may be absent
abbrev text_of : FourCc → Option (List ℕ) → List ℕ
text_of kind None = []
text_of kind (Some body) = box kind body

abbrev behind_any : ℕ → FourCc → Option (List ℕ) → ℕ
behind_any place kind None = place
behind_any place kind (Some body) = place + length (box kind body)

abbrev any_at : ℕ → FourCc → Option (List ℕ) → Option BoxAt
any_at place kind None = None
any_at place kind (Some body) = Some (written_at place kind body)

then_any : (kind : FourCc) (o : Option (List ℕ)) (rest : List ℕ) (place : ℕ) (others : List BoxAt) → length kind.0 ≡ 4
    → length (text_of kind o ++ rest) < 256 ^ 8 → IsBoxes rest (behind_any place kind o) false others
    → IsBoxes (text_of kind o ++ rest) place false (option_to_list (any_at place kind o) ++ others)
then_any kind None rest place others four few more = more
then_any kind (Some body) rest place others four few more = then_box false kind body rest place others four few more

-- ---- the boxes of the file

abbrev top_boxes : List ℕ → List ℕ → List ℕ → List BoxAt
top_boxes ftyp meta mdat =
    let meta_at = 0 + length (box (four "ftyp") ftyp) in
    let mdat_at = meta_at + length (box (four "meta") meta) in
    written_at 0 (four "ftyp") ftyp ∷ written_at meta_at (four "meta") meta ∷ written_at mdat_at (four "mdat") mdat ∷ []

are_top : (ftyp meta mdat : List ℕ) → length (box (four "ftyp") ftyp ++ (box (four "meta") meta ++ box (four "mdat") mdat)) < 256 ^ 8
    → IsBoxes (box (four "ftyp") ftyp ++ (box (four "meta") meta ++ box (four "mdat") mdat)) 0 true (top_boxes ftyp meta mdat)
are_top ftyp meta mdat few =
    let a = box (four "ftyp") ftyp in
    let b = box (four "meta") meta in
    let c = box (four "mdat") mdat in
    let from_meta = behind_few a (b ++ c) few in
    let last_at = 0 + length a + length b in
    let last = last_box true (four "mdat") mdat last_at refl (behind_few b c from_meta) in
    let last_is = written_at last_at (four "mdat") mdat ∷ [] in
    let meta_is = written_at (0 + length a) (four "meta") meta ∷ last_is in
    then_box true (four "ftyp") ftyp (b ++ c) 0 meta_is refl few (then_box true (four "meta") meta c (0 + length a) last_is refl from_meta last)

-- ---- the boxes of `meta`

-- their bodies
record Bodies : Type 0 where
  hdlr : List ℕ
  pitm : List ℕ
  iinf : List ℕ
  iref : Option (List ℕ)
  iprp : List ℕ
  grpl : Option (List ℕ)
  idat : Option (List ℕ)
  iloc : List ℕ

-- their bytes
abbrev text : Bodies → List ℕ
text m =
    box (four "hdlr") m.hdlr
    ++ (box (four "pitm") m.pitm
    ++ (box (four "iinf") m.iinf
    ++ (text_of (four "iref") m.iref
    ++ (box (four "iprp") m.iprp ++ (text_of (four "grpl") m.grpl ++ (text_of (four "idat") m.idat ++ box (four "iloc") m.iloc))))))

-- where they stand, from the place of `hdlr` on
abbrev pitm_at : ℕ → Bodies → ℕ
pitm_at place m = place + length (box (four "hdlr") m.hdlr)

abbrev iinf_at : ℕ → Bodies → ℕ
iinf_at place m = pitm_at place m + length (box (four "pitm") m.pitm)

abbrev iref_at : ℕ → Bodies → ℕ
iref_at place m = iinf_at place m + length (box (four "iinf") m.iinf)

abbrev iprp_at : ℕ → Bodies → ℕ
iprp_at place m = behind_any (iref_at place m) (four "iref") m.iref

abbrev grpl_at : ℕ → Bodies → ℕ
grpl_at place m = iprp_at place m + length (box (four "iprp") m.iprp)

abbrev idat_at : ℕ → Bodies → ℕ
idat_at place m = behind_any (grpl_at place m) (four "grpl") m.grpl

abbrev iloc_at : ℕ → Bodies → ℕ
iloc_at place m = behind_any (idat_at place m) (four "idat") m.idat

abbrev parts_at : ℕ → Bodies → Parts
parts_at place m = record {
  hdlr = written_at place (four "hdlr") m.hdlr;
  pitm = written_at (pitm_at place m) (four "pitm") m.pitm;
  iinf = written_at (iinf_at place m) (four "iinf") m.iinf;
  iloc = Some (written_at (iloc_at place m) (four "iloc") m.iloc);
  iref = any_at (iref_at place m) (four "iref") m.iref;
  iprp = Some (written_at (iprp_at place m) (four "iprp") m.iprp);
  grpl = any_at (grpl_at place m) (four "grpl") m.grpl;
  idat = any_at (idat_at place m) (four "idat") m.idat;
}

abbrev boxes_of : Parts → List BoxAt
boxes_of p =
    let last = option_to_list p.idat ++ option_to_list p.iloc in
    p.hdlr ∷ p.pitm ∷ p.iinf ∷ (option_to_list p.iref ++ (option_to_list p.iprp ++ (option_to_list p.grpl ++ last)))

-- the later ones
module _ (place : ℕ) (m : Bodies) where
  abbrev from_iloc : List ℕ
  from_iloc = box (four "iloc") m.iloc

  abbrev from_idat : List ℕ
  from_idat = text_of (four "idat") m.idat ++ from_iloc

  abbrev from_grpl : List ℕ
  from_grpl = text_of (four "grpl") m.grpl ++ from_idat

  abbrev from_iprp : List ℕ
  from_iprp = box (four "iprp") m.iprp ++ from_grpl

  abbrev boxes_from_idat : List BoxAt
  boxes_from_idat = option_to_list (any_at (idat_at place m) (four "idat") m.idat) ++ written_at (iloc_at place m) (four "iloc") m.iloc ∷ []

  abbrev boxes_from_grpl : List BoxAt
  boxes_from_grpl = option_to_list (any_at (grpl_at place m) (four "grpl") m.grpl) ++ boxes_from_idat

  abbrev boxes_from_iprp : List BoxAt
  boxes_from_iprp = written_at (iprp_at place m) (four "iprp") m.iprp ∷ boxes_from_grpl

  are_later : length from_iprp < 256 ^ 8 → IsBoxes from_iprp (iprp_at place m) false boxes_from_iprp
  are_later few =
      let few_grpl = behind_few (box (four "iprp") m.iprp) from_grpl few in
      let few_idat = behind_few (text_of (four "grpl") m.grpl) from_idat few_grpl in
      let few_iloc = behind_few (text_of (four "idat") m.idat) from_iloc few_idat in
      let last = written_at (iloc_at place m) (four "iloc") m.iloc ∷ [] in
      let in_iloc = last_box false (four "iloc") m.iloc (iloc_at place m) refl few_iloc in
      let in_idat = then_any (four "idat") m.idat from_iloc (idat_at place m) last refl few_idat in_iloc in
      let in_grpl = then_any (four "grpl") m.grpl from_idat (grpl_at place m) boxes_from_idat refl few_grpl in_idat in
      then_box false (four "iprp") m.iprp from_grpl (iprp_at place m) boxes_from_grpl refl few in_grpl

  are_boxes : length (text m) < 256 ^ 8 → IsBoxes (text m) place false (boxes_of (parts_at place m))
  are_boxes few =
      let from_iref = text_of (four "iref") m.iref ++ from_iprp in
      let from_iinf = box (four "iinf") m.iinf ++ from_iref in
      let from_pitm = box (four "pitm") m.pitm ++ from_iinf in
      let few_pitm = behind_few (box (four "hdlr") m.hdlr) from_pitm few in
      let few_iinf = behind_few (box (four "pitm") m.pitm) from_iinf few_pitm in
      let few_iref = behind_few (box (four "iinf") m.iinf) from_iref few_iinf in
      let few_iprp = behind_few (text_of (four "iref") m.iref) from_iprp few_iref in
      let boxes_from_iref = option_to_list (any_at (iref_at place m) (four "iref") m.iref) ++ boxes_from_iprp in
      let boxes_from_iinf = written_at (iinf_at place m) (four "iinf") m.iinf ∷ boxes_from_iref in
      let in_iref = then_any (four "iref") m.iref from_iprp (iref_at place m) boxes_from_iprp refl few_iref (are_later few_iprp) in
      let in_iinf = then_box false (four "iinf") m.iinf from_iref (iinf_at place m) boxes_from_iref refl few_iinf in_iref in
      let in_pitm = then_box false (four "pitm") m.pitm from_iinf (pitm_at place m) boxes_from_iinf refl few_pitm in_iinf in
      then_box false (four "hdlr") m.hdlr from_pitm place (written_at (pitm_at place m) (four "pitm") m.pitm ∷ boxes_from_iinf) refl few in_pitm

are_parts_of : (place : ℕ) (hdlr pitm iinf iprp iloc : List ℕ) (iref grpl idat : Option (List ℕ))
    → (let m : Bodies = record { hdlr = hdlr; pitm = pitm; iinf = iinf; iref = iref; iprp = iprp; grpl = grpl; idat = idat; iloc = iloc } in
    AreParts (boxes_of (parts_at place m)) (parts_at place m))
are_parts_of place h p i q l None None None = search
are_parts_of place h p i q l None None (Some c) = search
are_parts_of place h p i q l None (Some b) None = search
are_parts_of place h p i q l None (Some b) (Some c) = search
are_parts_of place h p i q l (Some a) None None = search
are_parts_of place h p i q l (Some a) None (Some c) = search
are_parts_of place h p i q l (Some a) (Some b) None = search
are_parts_of place h p i q l (Some a) (Some b) (Some c) = search

are_parts : (place : ℕ) (m : Bodies) → AreParts (boxes_of (parts_at place m)) (parts_at place m)
are_parts place m = are_parts_of place m.hdlr m.pitm m.iinf m.iprp m.iloc m.iref m.grpl m.idat

-- ---- what a layout has in them

-- a body where something is listed in it
abbrev any_body : {A : Type 0} → (List A → List ℕ) → List A → Option (List ℕ)
any_body body [] = None
any_body body (x ∷ xs) = Some (body (x ∷ xs))

box_if_any-is : {A : Type 0} (kind : FourCc) (body : List A → List ℕ) (xs : List A) → box_if_any kind body xs ≡ text_of kind (any_body body xs)
unfolding box_if_any
box_if_any-is kind body [] = refl
box_if_any-is kind body (x ∷ xs) = refl

has_body : {A : Type 0} (kind : FourCc) (body : List A → List ℕ) (xs : List A) (place : ℕ) → HasBodyIfAny body xs (any_at place kind (any_body body xs))
has_body kind body [] place = refl
has_body kind body (x ∷ xs) place = (written_at place kind (body (x ∷ xs)), refl, refl)

abbrev bodies_of : ℕ → ℕ → ItemStore → Bodies
bodies_of w end s =
    let wide = is_wide s.items in
    record {
      hdlr = hdlr_body;
      pitm = pitm_body wide s.primary;
      iinf = iinf_body wide (infos_of s.items);
      iref = any_body (iref_body wide) (all_boxes s.items);
      iprp = iprp_body wide (iprp_of s);
      grpl = any_body grpl_body s.groups;
      idat = any_body bytes_in (filter in_idat s.items);
      iloc = iloc_body wide w (entries_of own end s.items);
    }

meta_is : (w end : ℕ) (s : ItemStore) → meta_body own w end s ≡ full 0 0 ++ text (bodies_of w end s)
unfolding meta_body meta_front
meta_is w end s =
    let iref = box_if_any-is (four "iref") (iref_body (is_wide s.items)) (all_boxes s.items) in
    let grpl = box_if_any-is (four "grpl") grpl_body s.groups in
    let idat = box_if_any-is (four "idat") bytes_in (filter in_idat s.items) in
    rw (iref, grpl, idat) (simp append_assoc)

-- ---- the whole

-- a layout is boxes with the bodies that are written
pub laid_out : (s : ItemStore) (w : ℕ) (F : List ℕ) → Lay s w F → IsLaidOut F s w
unfolding laid
laid_out s w F lay =
    let n = length F in
    let ftyp = ftyp_body s.brands in
    let meta = meta_body own w n s in
    let mdat = mdat_body own s.items in
    let m = bodies_of w n s in
    let a = box (four "ftyp") ftyp in
    let b = box (four "meta") meta in
    let c = box (four "mdat") mdat in
    let made : F ≡ a ++ (b ++ c) = lay.bytes ∙ append_assoc a b c in
    let size : n < 256 ^ 8 = lay.numbers.size in
    let few : length (a ++ (b ++ c)) < 256 ^ 8 = omega (arith, size, ap length made) in
    let whole : meta ≡ full 0 0 ++ text m = meta_is w n s in
    let front : length (full 0 0) ≡ 4 = simp (length-append, length-num) (omega arith) in
    let meta_len : length meta ≡ 4 + length (text m) = omega (arith, ap length whole, length-append (full 0 0) (text m), front) in
    let meta_few = has_size (four "meta") meta refl (omega (arith, few, length-append a (b ++ c), length-append b c)) in
    let rest : drop 4 meta ≡ text m = ap (drop 4) whole ∙ drop_at (full 0 0) (text m) 4 front in
    let place = (0 + length a) + head_len (length meta) + 4 in
    let children = boxes_of (parts_at place m) in
    record {
      top = top_boxes ftyp meta mdat;
      boxes = subst (λ (l : List ℕ). IsBoxes l 0 true (top_boxes ftyp meta mdat)) (sym made) (are_top ftyp meta mdat few);
      ftyp = written_at 0 (four "ftyp") ftyp;
      meta = written_at (0 + length a) (four "meta") meta;
      level = record { first = refl; one_ftyp = refl; one_meta = refl; no_moov = refl; no_moof = refl };
      full = omega (arith, meta_len);
      children = children;
      inner = subst (λ (l : List ℕ). IsBoxes l place false children) (sym rest) (are_boxes place m (omega (arith, meta_len, meta_few)));
      parts = parts_at place m;
      are_parts = are_parts place m;
      brands = refl;
      hdlr = refl;
      pitm = refl;
      iinf = refl;
      iloc = (_, refl, refl);
      iref = has_body (four "iref") (iref_body (is_wide s.items)) (all_boxes s.items) (iref_at place m);
      iprp = (_, refl, refl);
      grpl = has_body (four "grpl") grpl_body s.groups (grpl_at place m);
      idat = has_body (four "idat") bytes_in (filter in_idat s.items) (idat_at place m);
    }
