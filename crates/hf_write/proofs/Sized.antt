-- The lengths of boxes, as a plan tells them.
use Rattle.std.proofs.Common.{◌≡◌, ℕ, ◌+◌, ◌^◌, ◌≤◌, Bool, true, false, List, [], ◌∷◌, ◌++◌, length, length-append, filter, refl, sym, ap, ◌∙◌, arith, subst}
use Rattle.std.proofs.lemmas.Nat.{mul-le}
use Rattle.hf_base.specs.Reading.{full as full_box}
use Rattle.hf_base.specs.declared.four.FourCc.{FourCc}
use Rattle.hf_base.specs.declared.limits.TheConstants as limits
use Rattle.hf_box.specs.Head.{box, box_len}
use Rattle.hf_box.specs.Literals.{four}
use Rattle.hf_box.specs.Written.{id_width}
use Rattle.hf_head.specs.Hdlr.{hdlr_body}
use Rattle.hf_head.specs.Pitm.{pitm_body}
use Rattle.hf_info.specs.Iinf.{iinf_body}
use Rattle.hf_links.specs.Grpl.{grpl_body}
use Rattle.hf_links.specs.Iref.{iref_body}
use Rattle.hf_loc.specs.Iloc.{offset_width, iloc_body}
use Rattle.hf_prop.specs.Ipma.{ipma_body}
use Rattle.hf_prop.specs.Iprp.{is_long_table, ipco_body, iprp_body}
use Rattle.hf_store.specs.Layout.{own, is_wide, with_bytes, in_idat, bytes_in, infos_of, all_boxes, assocs_of, iprp_of, entries_of, box_if_any, mdat_body, meta_front, meta_body}
use Rattle.hf_store.specs.Store.{ItemStore}
use Rattle.hf_store.specs.Table.{table_of}
use Rattle.hf_store.specs.Valid.{Valid}
use Rattle.hf_store.proofs.BoxLengths.{length-box, box_len-le, le-box_len}
use Rattle.hf_store.proofs.CountsAre.{counts_are}
use Rattle.hf_store.proofs.FewCounts.{counts_are_few}
use Rattle.hf_store.proofs.Lengths.{meta_body_len, length-meta_body, length-iloc_body, meta_len-is}
use Rattle.hf_plan.specs.Plan.{sizes_of, Planned, IsPlan}

-- a box that a plan counts: its length is known and small
abbrev pub IsSized : ℕ → List ℕ → Type 0
IsSized size body = (box_len (length body) ≡ size) × (8 ≤ size) × (size ≤ 2 ^ 62)

sized : (size : ℕ) (kind : FourCc) (body : List ℕ) → length kind.0 ≡ 4 → size ≡ length (box kind body) → length (box kind body) ≤ 2 ^ 61 → IsSized size body
sized size kind body is_four is few =
    let len = length-box kind body is_four in
    (sym (is ∙ len), omega (arith, is, len, le-box_len (length body)), omega (arith, is, few))

-- a box that may be absent is so where its length is 0
pub absent : {A : Type 0} (kind : FourCc) (body : List A → List ℕ) (xs : List A) (size : ℕ) → length kind.0 ≡ 4 → size ≡ length (box_if_any kind body xs) → size ≡ 0 → [] ≡ box_if_any kind body xs
unfolding box_if_any
absent kind body [] size is_four is none = refl
absent kind body (x ∷ xs) size is_four is none =
    absurd (let len = length-box kind (body (x ∷ xs)) is_four in omega (arith, is, none, len, le-box_len (length (body (x ∷ xs)))))

-- and otherwise it is a box
pub present : {A : Type 0} (kind : FourCc) (body : List A → List ℕ) (xs : List A) (size : ℕ) → size ≡ length (box_if_any kind body xs) → (size ≡ 0 → ⊥) → box kind (body xs) ≡ box_if_any kind body xs
unfolding box_if_any
present kind body [] size is some = absurd (some is)
present kind body (x ∷ xs) size is some = refl

-- ---- the parts of `meta`

lengths : (a b c d e f g h : List ℕ)
    → length (a ++ b ++ c ++ d ++ e ++ f ++ g ++ h) ≡ length a + (length b + (length c + (length d + (length e + (length f + (length g + length h))))))
lengths a b c d e f g h = simp (length-append) (omega arith)

pub record AreFront (s : ItemStore) (top : ℕ) : Type 0 where
  pub iinf : length (box (four "iinf") (iinf_body (is_wide s.items) (infos_of s.items))) ≤ top
  pub iref : length (box_if_any (four "iref") (iref_body (is_wide s.items)) (all_boxes s.items)) ≤ top
  pub iprp : length (box (four "iprp") (iprp_body (is_wide s.items) (iprp_of s))) ≤ top
  pub grpl : length (box_if_any (four "grpl") grpl_body s.groups) ≤ top
  pub idat : length (box_if_any (four "idat") bytes_in (filter in_idat s.items)) ≤ top

front_is : (s : ItemStore)
    → length (meta_front s)
    ≡ length (full_box 0 0)
    + (length (box (four "hdlr") hdlr_body)
    + (length (box (four "pitm") (pitm_body (is_wide s.items) s.primary))
    + (length (box (four "iinf") (iinf_body (is_wide s.items) (infos_of s.items)))
    + (length (box_if_any (four "iref") (iref_body (is_wide s.items)) (all_boxes s.items))
    + (length (box (four "iprp") (iprp_body (is_wide s.items) (iprp_of s)))
    + (length (box_if_any (four "grpl") grpl_body s.groups) + length (box_if_any (four "idat") bytes_in (filter in_idat s.items))))))))
unfolding meta_front
front_is s =
    let wide = is_wide s.items in
    lengths (full_box 0 0) (box (four "hdlr") hdlr_body) (box (four "pitm") (pitm_body wide s.primary)) (box (four "iinf") (iinf_body wide (infos_of s.items)))
    (box_if_any (four "iref") (iref_body wide) (all_boxes s.items)) (box (four "iprp") (iprp_body wide (iprp_of s))) (box_if_any (four "grpl") grpl_body s.groups)
    (box_if_any (four "idat") bytes_in (filter in_idat s.items))

front_below : (s : ItemStore) → AreFront s (length (meta_front s))
front_below s =
    let all = front_is s in
    record { iinf = omega (arith, all); iref = omega (arith, all); iprp = omega (arith, all); grpl = omega (arith, all); idat = omega (arith, all) }

front_small : (s : ItemStore) → Valid s → length (meta_front s) ≤ limits.META
unfolding meta_body_len
front_small s valid = omega (arith, meta_len-is s, valid.meta, le-box_len (meta_body_len 8 s))

pub are_front : (s : ItemStore) → Valid s → AreFront s limits.META
are_front s valid =
    let below = front_below s in
    let small = front_small s valid in
    record {
      iinf = omega (arith, below.iinf, small);
      iref = omega (arith, below.iref, small);
      iprp = omega (arith, below.iprp, small);
      grpl = omega (arith, below.grpl, small);
      idat = omega (arith, below.idat, small);
    }

-- the boxes of `iprp`
inner_props : (s : ItemStore)
    → length (box (four "ipco") (ipco_body (table_of s))) + length (box (four "ipma") (ipma_body (is_wide s.items) (is_long_table (table_of s)) (assocs_of (table_of s) s.items)))
    ≤ length (box (four "iprp") (iprp_body (is_wide s.items) (iprp_of s)))
unfolding iprp_body
inner_props s =
    let ipco = box (four "ipco") (ipco_body (table_of s)) in
    let ipma = box (four "ipma") (ipma_body (is_wide s.items) (is_long_table (table_of s)) (assocs_of (table_of s) s.items)) in
    omega (arith, length-append ipco ipma, length-box (four "iprp") (ipco ++ ipma) refl, le-box_len (length (ipco ++ ipma)))

pub ipco_few : (s : ItemStore) → Valid s → length (box (four "ipco") (ipco_body (table_of s))) ≤ limits.META
ipco_few s valid = omega (arith, inner_props s, (are_front s valid).iprp)

-- ---- each box

offset_small : (long : Bool) → offset_width long ≤ 8
offset_small true = omega arith
offset_small false = omega arith

width_small : (wide : Bool) → id_width wide ≤ 4
width_small true = omega arith
width_small false = omega arith

located_few : (s : ItemStore) → Valid s → length (with_bytes s.items) ≤ limits.ITEMS
located_few s valid = omega (arith, (counts_are s).located, (counts_are_few s valid).0.located)

iloc_small : (s : ItemStore) (long : Bool) (end : ℕ) → Valid s → length (iloc_body (is_wide s.items) (offset_width long) (entries_of own end s.items)) ≤ 2 ^ 40
iloc_small s long end valid =
    let w = id_width (is_wide s.items) in
    let o = offset_width long in
    omega (
      arith,
      length-iloc_body own (is_wide s.items) o end s.items,
      width_small (is_wide s.items),
      mul-le (length (with_bytes s.items)) (6 + w + (o + o)) limits.ITEMS 26 (located_few s valid) (omega (arith, width_small (is_wide s.items), offset_small long)),
    )

module _ (s : ItemStore) (p : Planned) (valid : Valid s) (plan : IsPlan s p) where
  pub iinf_sized : IsSized p.sizes.iinf (iinf_body (is_wide s.items) (infos_of s.items))
  unfolding sizes_of
  iinf_sized = sized p.sizes.iinf (four "iinf") (iinf_body (is_wide s.items) (infos_of s.items)) refl (ap (λ z. z.iinf) plan.sizes) (omega (arith, (are_front s valid).iinf))

  pub iref_size : p.sizes.iref ≡ length (box_if_any (four "iref") (iref_body (is_wide s.items)) (all_boxes s.items))
  unfolding sizes_of
  iref_size = ap (λ z. z.iref) plan.sizes

  pub grpl_size : p.sizes.grpl ≡ length (box_if_any (four "grpl") grpl_body s.groups)
  unfolding sizes_of
  grpl_size = ap (λ z. z.grpl) plan.sizes

  pub idat_size : p.sizes.idat ≡ length (box_if_any (four "idat") bytes_in (filter in_idat s.items))
  unfolding sizes_of
  idat_size = ap (λ z. z.idat) plan.sizes

  if_any : {A : Type 0} (size : ℕ) (kind : FourCc) (body : List A → List ℕ) (xs : List A) → length kind.0 ≡ 4 → size ≡ length (box_if_any kind body xs) → length (box_if_any kind body xs) ≤ limits.META → (size ≡ 0 → ⊥)
      → IsSized size (body xs)
  if_any size kind body xs is_four is few some =
      let same = ap length (present kind body xs size is some) in
      sized size kind (body xs) is_four (is ∙ sym same) (omega (arith, same, few))

  pub iref_sized : (p.sizes.iref ≡ 0 → ⊥) → IsSized p.sizes.iref (iref_body (is_wide s.items) (all_boxes s.items))
  iref_sized some = if_any p.sizes.iref (four "iref") (iref_body (is_wide s.items)) (all_boxes s.items) refl iref_size (are_front s valid).iref some

  pub grpl_sized : (p.sizes.grpl ≡ 0 → ⊥) → IsSized p.sizes.grpl (grpl_body s.groups)
  grpl_sized some = if_any p.sizes.grpl (four "grpl") grpl_body s.groups refl grpl_size (are_front s valid).grpl some

  pub idat_sized : (p.sizes.idat ≡ 0 → ⊥) → IsSized p.sizes.idat (bytes_in (filter in_idat s.items))
  idat_sized some = if_any p.sizes.idat (four "idat") bytes_in (filter in_idat s.items) refl idat_size (are_front s valid).idat some

  iprp_sized_by : IsSized p.sizes.iprp (iprp_body (is_wide s.items) (iprp_of s))
  unfolding sizes_of
  iprp_sized_by = sized p.sizes.iprp (four "iprp") (iprp_body (is_wide s.items) (iprp_of s)) refl (ap (λ z. z.iprp) plan.sizes) (omega (arith, (are_front s valid).iprp))

  pub ipco_sized : IsSized p.sizes.ipco (ipco_body (table_of s))
  unfolding sizes_of
  ipco_sized = sized p.sizes.ipco (four "ipco") (ipco_body (table_of s)) refl (ap (λ z. z.ipco) plan.sizes) (omega (arith, ipco_few s valid))

  ipma_sized_by : IsSized p.sizes.ipma (ipma_body (is_wide s.items) (is_long_table (table_of s)) (assocs_of (table_of s) s.items))
  unfolding sizes_of
  ipma_sized_by =
      sized p.sizes.ipma (four "ipma") (ipma_body (is_wide s.items) (is_long_table (table_of s)) (assocs_of (table_of s) s.items)) refl (ap (λ z. z.ipma) plan.sizes)
      (omega (arith, inner_props s, (are_front s valid).iprp))

  iloc_sized_by : IsSized p.sizes.iloc (iloc_body (is_wide s.items) (offset_width p.long) (entries_of own p.total s.items))
  unfolding sizes_of
  iloc_sized_by =
      let w = offset_width p.long in
      let wide = is_wide s.items in
      let now = iloc_body wide w (entries_of own p.total s.items) in
      let counted = iloc_body wide w (entries_of own 0 s.items) in
      let same : length counted ≡ length now = length-iloc_body own wide w 0 s.items ∙ sym (length-iloc_body own wide w p.total s.items) in
      let size : p.sizes.iloc ≡ length (box (four "iloc") counted) = ap (λ z. z.iloc) plan.sizes in
      let len = length-box (four "iloc") counted refl ∙ ap box_len same ∙ sym (length-box (four "iloc") now refl) in
      sized p.sizes.iloc (four "iloc") now refl (size ∙ len) (omega (arith, length-box (four "iloc") now refl, box_len-le (length now), iloc_small s p.long p.total valid))

  pub iloc_sized : IsSized p.sizes.iloc (iloc_body p.wide (offset_width p.long) (entries_of own p.total s.items))
  iloc_sized = subst (λ v. IsSized p.sizes.iloc (iloc_body v (offset_width p.long) (entries_of own p.total s.items))) (sym plan.wide) iloc_sized_by

  pub iprp_sized : IsSized p.sizes.iprp (iprp_body p.wide (iprp_of s))
  iprp_sized = subst (λ v. IsSized p.sizes.iprp (iprp_body v (iprp_of s))) (sym plan.wide) iprp_sized_by

  pub ipma_sized : IsSized p.sizes.ipma (ipma_body p.wide (is_long_table (table_of s)) (assocs_of (table_of s) s.items))
  ipma_sized = subst (λ v. IsSized p.sizes.ipma (ipma_body v (is_long_table (table_of s)) (assocs_of (table_of s) s.items))) (sym plan.wide) ipma_sized_by

  pub mdat_sized : IsSized p.sizes.mdat (mdat_body own s.items)
  unfolding sizes_of
  mdat_sized =
      let body = mdat_body own s.items in
      let few : length body ≤ limits.BODY = omega (arith, (counts_are s).mdat, (counts_are s).body, valid.body) in
      sized p.sizes.mdat (four "mdat") body refl (ap (λ z. z.mdat) plan.sizes) (omega (arith, length-box (four "mdat") body refl, box_len-le (length body), few))

  pub meta_sized : IsSized p.sizes.meta (meta_body own (offset_width p.long) p.total s)
  unfolding sizes_of meta_body_len
  meta_sized =
      let w = offset_width p.long in
      let now = meta_body own w p.total s in
      let counted = meta_body own w 0 s in
      let same : length counted ≡ length now = length-meta_body own w 0 s ∙ sym (length-meta_body own w p.total s) in
      let size : p.sizes.meta ≡ length (box (four "meta") counted) = ap (λ z. z.meta) plan.sizes in
      let len = length-box (four "meta") counted refl ∙ ap box_len same ∙ sym (length-box (four "meta") now refl) in
      let iloc = length-iloc_body own (is_wide s.items) w p.total s.items in
      let inner = box_len-le (length (iloc_body (is_wide s.items) w (entries_of own p.total s.items))) in
      let small : length now ≤ 2 ^ 50 =
      omega (arith, length-meta_body own w p.total s, front_small s valid, iloc_small s p.long p.total valid, inner, ap box_len iloc)
      in
      sized p.sizes.meta (four "meta") now refl (size ∙ len) (omega (arith, length-box (four "meta") now refl, box_len-le (length now), small))
