-- The entries that are read stand there, and the entries that stand there are read.
use Rattle.std.proofs.Common.{◌≡◌, ℕ, ◌+◌, ◌≤◌, ◌<◌, ◌^◌, true, false, not, suc, List, [], ◌∷◌, ◌++◌, length, eqb, Result, Ok, Err, refl, sym, ap, subst, ◌∙◌, arith, inl, inr}
use Rattle.std.specs.List.{AllZip, AllByRecursion}
use Rattle.std.specs.Prelude.{IfOk}
use Rattle.std.specs.Global.{Vec}
use Rattle.std.proofs.lemmas.Bool.{eq-eqb, cases_Bool}
use Rattle.std.proofs.lemmas.List.{length-map}
use Rattle.hf_base.specs.declared.fault.ReadRefusal.TheVariants.{BadRecord, BadVersion, DoubleItem}
use Rattle.hf_base.specs.declared.fault.OpenFault.{OpenFault}
use Rattle.hf_base.specs.declared.fault.OpenFault.TheVariants as errors
use Rattle.hf_base.specs.declared.kinds.TheConstants.{IINF, INFE}
use Rattle.hf_base.specs.declared.limits.TheConstants.{BOXES}
use Rattle.hf_base.specs.Number.{IsBytes, num}
use Rattle.hf_base.specs.Reading.{Gives, MatchOpen, front, front_full, full}
use Rattle.hf_base.specs.ReadingLaws.{bind_ok, ok_is, front_takes, front_again, full_takes, full_again}
use Rattle.hf_base.specs.Entries.{has_id, IsIdWidth, id_width_at, refuse_if}
use Rattle.hf_base.specs.EntryLaws.{width_again, width_take, refused_not}
use Rattle.hf_base.specs.NewEntries.{IsNew, new_each, each_new}
use Rattle.hf_box.specs.Boxes.{BoxAt, IsBoxes}
use Rattle.hf_box.specs.Framing.{frames}
use Rattle.hf_box.specs.Tables.{of_kind}
use Rattle.hf_box.specs.Walk.{is_kind}
use Rattle.hf_box.proofs.BoxLaws.{boxes_iff_frames, same_boxes}
use Rattle.hf_box.proofs.InnerLemmas.{of_kind-length}
use Rattle.hf_box.proofs.Lists.{boxes_read}
use Rattle.hf_box.proofs.TableLaws.{boxes_again, boxes_take, bodies}
use Rattle.hf_info.specs.declared.infe.Info.{Info as InfoView}
use Rattle.hf_info.specs.Infe.{Info, IsInfe, IsGoodInfo, infos_of, infe_at}
use Rattle.hf_info.specs.Iinf.{info_ids, IsInfeBox, IsIinf, IsIinfWithin, with_infe, iinf_at}
use Rattle.hf_info.proofs.InfeLemmas.{infe_only, infe_found}
use Rattle.hf_info.proofs.InfeWritten.{infe_good}

abbrev id_of : Info → ℕ
id_of i = i.id

box_again : (earlier : List Info) (b : BoxAt) (i : Info) → IsInfeBox b i → IsNew id_of earlier i → with_infe earlier b ≡ Ok (earlier ++ i ∷ [])
unfolding with_infe
box_again earlier b i h new =
    let read = infe_only b.at b.body i h in
    let other : has_id i.id (info_ids earlier) ≡ false = new in
    rw (read, other) refl

box_take : (earlier : List Info) (b : BoxAt) (more : List Info) → IsBytes b.body → with_infe earlier b ≡ Ok more → (x : Info) × (more ≡ earlier ++ x ∷ []) × IsInfeBox b x × IsNew id_of earlier x
unfolding with_infe
box_take earlier b more fits e =
    let i = bind_ok (infe_at b.at b.body) _ more e in
    let n = bind_ok (refuse_if (has_id i.0.id (info_ids earlier)) (DoubleItem i.0.id)) _ more i.2 in
    (i.0, sym (ok_is (earlier ++ i.0 ∷ []) more n.2), infe_found b.at b.body i.0 fits i.1, refused_not _ _ n.0 n.1)

version_fits : (version width : ℕ) → IsIdWidth 0 version width → version < 256 ^ 1
version_fits version width (inl (v, w)) = omega (arith, v)
version_fits version width (inr (v, w)) = omega (arith, v)

AllZip-length : {A B : Type 0} (R : A → B → Type 0) (xs : List A) (ys : List B) → AllZip R xs ys → length xs ≡ length ys
AllZip-length R [] [] h = refl
AllZip-length R [] (y ∷ ys) h = absurd h
AllZip-length R (x ∷ xs) [] h = absurd h
AllZip-length R (x ∷ xs) (y ∷ ys) h = ap suc (AllZip-length R xs ys h.1)

bodies_of_kind : (boxes : List BoxAt) → AllByRecursion (λ (b : BoxAt). IsBytes b.body) boxes → AllByRecursion (λ (b : BoxAt). IsBytes b.body) (of_kind INFE boxes)
bodies_of_kind [] h = tt
bodies_of_kind (b ∷ bs) h = elim (cases_Bool (is_kind b.kind INFE)) [
  | inl t ↦ rw t (h.0, bodies_of_kind bs h.1)
  | inr f ↦ rw f (bodies_of_kind bs h.1)
]

pub iinf_only : (b : BoxAt) (infos : List Info) → IsIinfWithin b infos → iinf_at b ≡ Ok infos
unfolding iinf_at
iinf_only b infos (r, few) =
    let short = BadRecord IINF b.at in
    let head = full_again r.version r.flags short (num (length infos) r.width ++ r.inner) (version_fits r.version r.width r.versioned) r.flags_fit in
    let count = front_again r.width (length infos) short r.inner r.count_fits in
    let width = width_again 0 (BadVersion IINF b.at) r.version r.width r.versioned in
    let framed = boxes_read BOXES false (b.at + b.head + 4 + r.width) r.inner r.boxes r.framed few in
    let whole : eqb (length infos) (length (of_kind INFE r.boxes)) ≡ true = eq-eqb _ _ (sym (AllZip-length IsInfeBox (of_kind INFE r.boxes) infos r.entries)) in
    let each = boxes_again with_infe IsInfeBox (IsNew id_of) box_again [] infos (of_kind INFE r.boxes) r.entries (new_each id_of [] infos r.distinct) in
    rw (r.is, head, width, count, framed, whole) each

pub iinf_found : (b : BoxAt) (infos : List Info) → IsBytes b.body → iinf_at b ≡ Ok infos → IsIinfWithin b infos
unfolding iinf_at
iinf_found b infos fits e =
    let short = BadRecord IINF b.at in
    let a = bind_ok (front_full short b.body) _ infos e in
    let w = bind_ok (id_width_at 0 (BadVersion IINF b.at) a.0.0.0) _ infos a.2 in
    let c = bind_ok (front w.0 short a.0.1) _ infos w.2 in
    let f = bind_ok (frames false (b.at + b.head + 4 + w.0) c.0.1) _ infos c.2 in
    let n = bind_ok (refuse_if (not (eqb c.0.0 (length (of_kind INFE f.0)))) short) _ infos f.2 in
    let s = full_takes short b.body a.0 fits a.1 in
    let s1 = front_takes w.0 short a.0.1 c.0 s.0.fits c.1 in
    let framed = (boxes_iff_frames c.0.1 (b.at + b.head + 4 + w.0) false f.0 s1.0.fits).1 f.1 in
    let t = boxes_take with_infe IsInfeBox (IsNew id_of) box_take [] infos (of_kind INFE f.0) (bodies_of_kind f.0 (bodies c.0.1 (b.at + b.head + 4 + w.0) [] f.0 s1.0.fits framed.0)) n.2 in
    let count : c.0.0 ≡ length (of_kind INFE f.0) = grind (arith, refused_not (not (eqb c.0.0 (length (of_kind INFE f.0)))) short n.0 n.1) in
    let many : c.0.0 ≡ length t.0 = count ∙ AllZip-length IsInfeBox (of_kind INFE f.0) t.0 t.2 in
    let made : IsIinf b t.0 = record {
      version = a.0.0.0;
      flags = a.0.0.1;
      flags_fit = s.2;
      width = w.0;
      versioned = width_take 0 (BadVersion IINF b.at) a.0.0.0 w.0 w.1;
      count_fits = subst (λ (m : ℕ). m < 256 ^ w.0) many s1.1;
      inner = c.0.1;
      is = s.0.parts ∙ ap (λ (l : List ℕ). full a.0.0.0 a.0.0.1 ++ l) (s1.0.parts ∙ ap (λ (m : ℕ). num m w.0 ++ c.0.1) many);
      boxes = f.0;
      framed = framed.0;
      entries = t.2;
      distinct = each_new id_of [] t.0 refl t.3;
    } in
    subst (λ (l : List Info). IsIinfWithin b l) (sym t.1) (made, framed.1)

-- ---- what the reader answers

pub is_found : (b : BoxAt) (r : Result (Vec InfoView) OpenFault) → IsBytes b.body → Gives (λ v. infos_of v.items) r (iinf_at b) → IfOk r (λ v. IsIinfWithin b (infos_of v.items))
is_found b (Ok v) fits given = iinf_found b (infos_of v.items) fits given
is_found b (Err e) fits given = tt

pub is_only : (b : BoxAt) (r : Result (Vec InfoView) OpenFault) (infos : List Info) → Gives (λ v. infos_of v.items) r (iinf_at b) → IsIinfWithin b infos
    → MatchOpen r (λ v. infos_of v.items ≡ infos) (λ fault. ⊥)
is_only b (Ok v) infos given h = ok_is (infos_of v.items) infos (sym given ∙ iinf_only b infos h)
is_only b (Err errors.NoMemory) infos given h = tt
is_only b (Err (errors.Unfit e)) infos given h = let f = iinf_only b infos h in absurd cc

-- ---- what callers need of the entries

each_good : (boxes : List BoxAt) (infos : List Info) → AllZip IsInfeBox boxes infos → AllByRecursion IsGoodInfo infos
each_good [] [] h = tt
each_good [] (i ∷ infos) h = absurd h
each_good (b ∷ bs) [] h = absurd h
each_good (b ∷ bs) (i ∷ infos) h = (infe_good b.body i h.0, each_good bs infos h.1)

pub iinf_good : (b : BoxAt) (infos : List Info) → IsIinf b infos → AllByRecursion IsGoodInfo infos
iinf_good b infos r = each_good (of_kind INFE r.boxes) infos r.entries

pub iinf_few : (b : BoxAt) (infos : List Info) → IsIinfWithin b infos → length infos ≤ BOXES
iinf_few b infos (r, few) = omega (arith, AllZip-length IsInfeBox (of_kind INFE r.boxes) infos r.entries, of_kind-length INFE r.boxes, few)

pub all_good : (b : BoxAt) (r : Result (Vec InfoView) OpenFault) → IfOk r (λ v. IsIinfWithin b (infos_of v.items)) → IfOk r (λ v. AllByRecursion IsGoodInfo (infos_of v.items))
all_good b (Ok v) h = iinf_good b (infos_of v.items) h.0
all_good b (Err e) h = tt

pub all_few : (b : BoxAt) (r : Result (Vec InfoView) OpenFault) → IfOk r (λ v. IsIinfWithin b (infos_of v.items)) → IfOk r (λ v. length v.items ≤ BOXES)
all_few b (Ok v) h = omega (arith, iinf_few b (infos_of v.items) h, length-map {A = InfoView} {B = Info})
all_few b (Err e) h = tt

-- ---- one value

pub one_infe : (body : List ℕ) (some other : Info) → IsInfe body some → IsInfe body other → some ≡ other
one_infe body some other p q = ok_is some other (sym (infe_only 0 body some p) ∙ infe_only 0 body other q)

same_infos : (boxes : List BoxAt) (some others : List Info) → AllZip IsInfeBox boxes some → AllZip IsInfeBox boxes others → some ≡ others
same_infos [] [] [] p q = refl
same_infos [] [] (i ∷ is) p q = absurd q
same_infos [] (i ∷ is) others p q = absurd p
same_infos (b ∷ bs) [] others p q = absurd p
same_infos (b ∷ bs) (i ∷ is) [] p q = absurd q
same_infos (b ∷ bs) (i ∷ is) (j ∷ js) p q =
    let first = one_infe b.body i j p.0 q.0 in
    let more = same_infos bs is js p.1 q.1 in
    cc

-- the fields in front of the boxes of an `iinf`, as they are read
front_again_of : (b : BoxAt) (infos : List Info) (r : IsIinf b infos)
    → (front_full (BadRecord IINF b.at) b.body ≡ Ok ((r.version, r.flags), num (length infos) r.width ++ r.inner))
    × (id_width_at 0 (BadVersion IINF b.at) r.version ≡ Ok r.width)
    × (front r.width (BadRecord IINF b.at) (num (length infos) r.width ++ r.inner) ≡ Ok (length infos, r.inner))
front_again_of b infos r =
    let short = BadRecord IINF b.at in (
      ap (front_full short) r.is ∙ full_again r.version r.flags short (num (length infos) r.width ++ r.inner) (version_fits r.version r.width r.versioned) r.flags_fit,
      width_again 0 (BadVersion IINF b.at) r.version r.width r.versioned,
      front_again r.width (length infos) short r.inner r.count_fits,
    )

pub one_iinf : (b : BoxAt) (some others : List Info) → IsIinf b some → IsIinf b others → some ≡ others
one_iinf b some others r s =
    let p = front_again_of b some r in
    let q = front_again_of b others s in
    let head = ok_is ((r.version, r.flags), num (length some) r.width ++ r.inner) ((s.version, s.flags), num (length others) s.width ++ s.inner) (sym p.0 ∙ q.0) in
    let version : r.version ≡ s.version = ap (λ (x : (ℕ × ℕ) × List ℕ). x.0.0) head in
    let behind : num (length some) r.width ++ r.inner ≡ num (length others) s.width ++ s.inner = ap (λ (x : (ℕ × ℕ) × List ℕ). x.1) head in
    let width : r.width ≡ s.width = ok_is r.width s.width (sym p.1 ∙ ap (id_width_at 0 (BadVersion IINF b.at)) version ∙ q.1) in
    let again : front s.width (BadRecord IINF b.at) (num (length others) s.width ++ s.inner) ≡ Ok (length some, r.inner) =
    ap (front s.width (BadRecord IINF b.at)) (sym behind) ∙ subst (λ (w : ℕ). front w (BadRecord IINF b.at) (num (length some) r.width ++ r.inner) ≡ Ok (length some, r.inner)) width p.2 in
    let count = ok_is (length some, r.inner) (length others, s.inner) (sym again ∙ q.2) in
    let inner : r.inner ≡ s.inner = ap (λ (x : ℕ × List ℕ). x.1) count in
    let framed : IsBoxes s.inner (b.at + b.head + 4 + s.width) false r.boxes =
    subst (λ (l : List ℕ). IsBoxes l (b.at + b.head + 4 + s.width) false r.boxes) inner (subst (λ (w : ℕ). IsBoxes r.inner (b.at + b.head + 4 + w) false r.boxes) width r.framed) in
    let boxes : r.boxes ≡ s.boxes = same_boxes s.inner (b.at + b.head + 4 + s.width) false r.boxes s.boxes framed s.framed in
    same_infos (of_kind INFE r.boxes) some others r.entries (rw boxes s.entries)
