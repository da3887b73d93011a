-- Properties are read as they stand.
use Rattle.std.proofs.Common.{◌≡◌, ◌+◌, ◌≤◌, ℕ, false, List, [], ◌∷◌, map, Option, Some, None, Result, Ok, Err, refl, sym, ap, subst, ◌∙◌, arith, inl, inr}
use Rattle.std.specs.Prelude.{IfOk}
use Rattle.std.specs.Option.{option_to_list}
use Rattle.std.proofs.lemmas.Bool.{cases_Bool}
use Rattle.hf_base.specs.declared.four.FourCc.{FourCc}
use Rattle.hf_base.specs.declared.fault.OpenFault.{OpenFault}
use Rattle.hf_base.specs.declared.fault.OpenFault.TheVariants as errors
use Rattle.hf_base.specs.declared.kinds.TheConstants.{IPCO, IPMA}
use Rattle.hf_base.specs.declared.limits.TheConstants.{BOXES, ROWS}
use Rattle.hf_base.specs.Number.{IsBytes}
use Rattle.hf_base.specs.Reading.{Gives, MatchOpen}
use Rattle.hf_base.specs.ReadingLaws.{bind_ok, ok_is}
use Rattle.hf_base.specs.EntryLaws.{EachGoes}
use Rattle.hf_base.specs.NewEntries.{IsFew, few_each, each_few, IsNew, new_each, each_new, each_both, both_first, both_second}
use Rattle.hf_box.specs.Boxes.{BoxAt}
use Rattle.hf_box.specs.Framing.{frames}
use Rattle.hf_box.specs.Tables.{of_kind, boxes_from}
use Rattle.hf_box.specs.Walk.{is_kind}
use Rattle.hf_box.proofs.Lists.{boxes_read}
use Rattle.hf_box.proofs.BoxLaws.{boxes_iff_frames, same_boxes}
use Rattle.hf_box.proofs.TableLaws.{bodies}
use Rattle.hf_prop.specs.declared.assoc.Assoc.{Assoc}
use Rattle.hf_prop.specs.declared.iprp.Iprp.{Iprp}
use Rattle.hf_prop.specs.declared.prop.Prop.{Prop}
use Rattle.hf_prop.specs.Ipma.{assoc_rows, with_ipma}
use Rattle.hf_prop.specs.Iprp.{prop_of, AreProps, IsIprp, IpcoWithin, StandsWithin, IsIprpWithin, at_most_one, props_at, iprp_within, iprp_at}
use Rattle.hf_prop.proofs.IpmaLemmas.{id_of, len_of, Goes, flat, AreBodies, tables_again, tables_take}

bodies_of_kind : (kind : FourCc) (boxes : List BoxAt) → AreBodies boxes → AreBodies (of_kind kind boxes)
bodies_of_kind kind [] h = tt
bodies_of_kind kind (b ∷ bs) h = elim (cases_Bool (is_kind b.kind kind)) [
  | inl t ↦ rw t (h.0, bodies_of_kind kind bs h.1)
  | inr f ↦ rw f (bodies_of_kind kind bs h.1)
]

pub one_again : (bs : List BoxAt) (o : Option BoxAt) → bs ≡ option_to_list o → at_most_one bs ≡ Ok o
unfolding at_most_one
one_again bs None e = rw e refl
one_again bs (Some b) e = rw e refl

one_take : (bs : List BoxAt) (o : Option BoxAt) → at_most_one bs ≡ Ok o → bs ≡ option_to_list o
unfolding at_most_one
one_take [] o e = ap option_to_list (ok_is None o e)
one_take (b ∷ []) o e = ap option_to_list (ok_is (Some b) o e)
one_take (b ∷ c ∷ bs) o e = absurd cc

-- ---- what stands there is read

props_again : (o : Option BoxAt) (props : List Prop) → (r : AreProps o props) → IpcoWithin o props r → props_at o ≡ Ok props
unfolding props_at
props_again None props r within = ap (λ (l : List Prop). Ok l) (sym r)
props_again (Some b) props r within =
    let framed = boxes_read BOXES false (b.at + b.head) b.body r.boxes r.framed within in
    rw framed (ap (λ (l : List Prop). Ok l) (sym r.is))

-- entries with ids of their own, within the limit
goes_on : (most : ℕ) (b : BoxAt) (v : Iprp) → (r : IsIprp b v) → assoc_rows v.assocs ≤ most → EachGoes (Goes most) [] (flat r.tables)
goes_on most b v r rows =
    let goes = each_both (IsNew id_of) (IsFew most len_of) [] v.assocs (new_each id_of [] v.assocs r.distinct) (few_each most len_of [] v.assocs rows) in
    subst (λ (l : List Assoc). EachGoes (Goes most) [] l) r.assocs goes

pub assocs_again : (most : ℕ) (b : BoxAt) (v : Iprp) → (r : IsIprp b v) → assoc_rows v.assocs ≤ most → boxes_from (with_ipma most) [] (of_kind IPMA r.boxes) ≡ Ok v.assocs
assocs_again most b v r rows =
    tables_again most [] (of_kind IPMA r.boxes) r.tables r.entries (goes_on most b v r rows) ∙ ap (λ (l : List Assoc). Ok l) (sym r.assocs)

pub iprp_again : (most : ℕ) (b : BoxAt) (v : Iprp) → StandsWithin most b v → iprp_within most b ≡ Ok v
unfolding iprp_within
iprp_again most b v h =
    let r = h.stands in
    let framed = boxes_read BOXES false (b.at + b.head) b.body r.boxes r.framed h.boxes in
    let one = one_again (of_kind IPCO r.boxes) r.ipco r.one in
    let props = props_again r.ipco v.props r.props h.ipco in
    let assocs = assocs_again most b v r h.rows in
    rw (framed, one, props, assocs) refl

-- ---- what is read stands there

props_take : (o : Option BoxAt) (props : List Prop) → AreBodies (option_to_list o) → props_at o ≡ Ok props → (r : AreProps o props) × IpcoWithin o props r
unfolding props_at
props_take None props fits e = (sym (ok_is [] props e), tt)
props_take (Some b) props fits e =
    let f = bind_ok (frames false (b.at + b.head) b.body) _ props e in
    let framed = (boxes_iff_frames b.body (b.at + b.head) false f.0 fits.0).1 f.1 in
    (record { boxes = f.0; framed = framed.0; is = sym (ok_is (map prop_of f.0) props f.2) }, framed.1)

pub iprp_take : (most : ℕ) (b : BoxAt) (v : Iprp) → IsBytes b.body → iprp_within most b ≡ Ok v → StandsWithin most b v
unfolding iprp_within
iprp_take most b v fits e =
    let f = bind_ok (frames false (b.at + b.head) b.body) _ v e in
    let o = bind_ok (at_most_one (of_kind IPCO f.0)) _ v f.2 in
    let p = bind_ok (props_at o.0) _ v o.2 in
    let a = bind_ok (boxes_from (with_ipma most) [] (of_kind IPMA f.0)) _ v p.2 in
    let framed = (boxes_iff_frames b.body (b.at + b.head) false f.0 fits).1 f.1 in
    let all = bodies b.body (b.at + b.head) [] f.0 fits framed.0 in
    let one = one_take (of_kind IPCO f.0) o.0 o.1 in
    let props = props_take o.0 p.0 (subst AreBodies one (bodies_of_kind IPCO f.0 all)) p.1 in
    let t = tables_take most [] a.0 (of_kind IPMA f.0) (bodies_of_kind IPMA f.0 all) a.1 in
    let goes = subst (λ (l : List Assoc). EachGoes (Goes most) [] l) (sym t.1) t.3 in
    let made : IsIprp b (record { props = p.0; assocs = a.0 }) = record {
      boxes = f.0;
      framed = framed.0;
      ipco = o.0;
      one = one;
      props = props.0;
      tables = t.0;
      entries = t.2;
      assocs = t.1;
      distinct = each_new id_of [] a.0 refl (both_first (IsNew id_of) (IsFew most len_of) [] a.0 goes);
    } in
    let rows : assoc_rows a.0 ≤ most = each_few most len_of [] a.0 (omega arith) (both_second (IsNew id_of) (IsFew most len_of) [] a.0 goes) in
    subst (λ (x : Iprp). StandsWithin most b x) (ok_is (record { props = p.0; assocs = a.0 }) v a.2) (record { stands = made; boxes = framed.1; ipco = props.1; rows = rows })

-- ---- a box has one value at most

same_option : (o q : Option BoxAt) → option_to_list o ≡ option_to_list q → o ≡ q
same_option None None e = refl
same_option None (Some c) e = absurd cc
same_option (Some b) None e = absurd cc
same_option (Some b) (Some c) e = cc

same_props : (o : Option BoxAt) (some other : List Prop) → AreProps o some → AreProps o other → some ≡ other
same_props None some other p q = p ∙ sym q
same_props (Some b) some other p q = p.is ∙ ap (map prop_of) (same_boxes b.body (b.at + b.head) false p.boxes q.boxes p.framed q.framed) ∙ sym q.is

-- a limit that both lists keep reads both
pub one_value : (b : BoxAt) (some other : Iprp) → IsIprp b some → IsIprp b other → some ≡ other
one_value b some other p q =
    let boxes : p.boxes ≡ q.boxes = same_boxes b.body (b.at + b.head) false p.boxes q.boxes p.framed q.framed in
    let ipco : p.ipco ≡ q.ipco = same_option p.ipco q.ipco (sym p.one ∙ ap (of_kind IPCO) boxes ∙ q.one) in
    let props : some.props ≡ other.props = same_props q.ipco some.props other.props (subst (λ (o : Option BoxAt). AreProps o some.props) ipco p.props) q.props in
    let most = assoc_rows some.assocs + assoc_rows other.assocs in
    let read_p = assocs_again most b some p (omega arith) in
    let read_q = assocs_again most b other q (omega arith) in
    let assocs : some.assocs ≡ other.assocs = ok_is some.assocs other.assocs (sym read_p ∙ ap (λ (bs : List BoxAt). boxes_from (with_ipma most) [] (of_kind IPMA bs)) boxes ∙ read_q) in
    λ i. record { props = props i; assocs = assocs i }

-- ---- what a function returned

abbrev Read : Type 0
Read = Result Iprp OpenFault

pub is_found : (b : BoxAt) (r : Read) → IsBytes b.body → Gives (λ v. v) r (iprp_at b) → IfOk r (λ v. IsIprpWithin b v)
is_found b (Ok v) fits given = iprp_take ROWS b v fits given
is_found b (Err e) fits given = tt

pub is_only : (b : BoxAt) (r : Read) (v : Iprp) → Gives (λ x. x) r (iprp_at b) → IsIprpWithin b v → MatchOpen r (λ read. read ≡ v) (λ fault. ⊥)
is_only b (Ok read) v given h = ok_is read v (sym given ∙ iprp_again ROWS b v h)
is_only b (Err errors.NoMemory) v given h = tt
is_only b (Err (errors.Unfit e)) v given h = let f = iprp_again ROWS b v h in absurd cc
