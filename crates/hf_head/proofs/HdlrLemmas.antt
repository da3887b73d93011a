-- The handler that is read stands there, and the handler that stands there is read.
use Rattle.std.proofs.Common.{◌≡◌, ℕ, Bool, true, false, cond, List, [], ◌∷◌, ◌++◌, Result, Ok, Err, refl, ap, subst, ◌∙◌, arith}
use Rattle.std.specs.Prelude.{IsOk, OnOk}
use Rattle.hf_base.specs.declared.four.FourCc.{FourCc}
use Rattle.hf_base.specs.declared.fault.ReadRefusal.{ReadRefusal}
use Rattle.hf_base.specs.declared.fault.ReadRefusal.TheVariants.{BadRecord, NotPicture}
use Rattle.hf_base.specs.declared.kinds.TheConstants.{HDLR, PICT}
use Rattle.hf_base.specs.Number.{IsBytes, num}
use Rattle.hf_base.specs.Reading.{◌>>=◌, Reads, front, front_four, front_full, full}
use Rattle.hf_base.specs.ReadingLaws.{bind_ok, ok_is, front_takes, front_again, four_takes, four_again, full_takes, full_again}
use Rattle.hf_box.specs.Walk.{is_kind}
use Rattle.hf_box.proofs.SameKinds.{same_kind, other_kind, is_same_kind}
use Rattle.hf_head.specs.Hdlr.{Fields, Fit, HasHandler, IsHdlr, handler_at, hdlr_at, hdlr_body}

-- what is read behind each field
abbrev after_second : ℕ → FourCc → ℕ × List ℕ → Result FourCc ReadRefusal
after_second at k x = front 4 (BadRecord HDLR at) x.1 >>= λ y. Ok k

abbrev after_first : ℕ → FourCc → ℕ × List ℕ → Result FourCc ReadRefusal
after_first at k x = front 4 (BadRecord HDLR at) x.1 >>= after_second at k

abbrev after_kind : ℕ → FourCc × List ℕ → Result FourCc ReadRefusal
after_kind at k = front 4 (BadRecord HDLR at) k.1 >>= after_first at k.0

abbrev after_defined : ℕ → ℕ × List ℕ → Result FourCc ReadRefusal
after_defined at x = front_four (BadRecord HDLR at) x.1 >>= after_kind at

abbrev after_version : ℕ → (ℕ × ℕ) × List ℕ → Result FourCc ReadRefusal
after_version at x = front 4 (BadRecord HDLR at) x.1 >>= after_defined at

pub handler_found : (at : ℕ) (body : List ℕ) (k : FourCc) → IsBytes body → handler_at at body ≡ Ok k → HasHandler body k
unfolding handler_at
handler_found at body k fits e =
    let short = BadRecord HDLR at in
    let v = bind_ok (front_full short body) (after_version at) k e in
    let p = bind_ok (front 4 short v.0.1) (after_defined at) k v.2 in
    let h = bind_ok (front_four short p.0.1) (after_kind at) k p.2 in
    let a = bind_ok (front 4 short h.0.1) (after_first at h.0.0) k h.2 in
    let b = bind_ok (front 4 short a.0.1) (after_second at h.0.0) k a.2 in
    let c = bind_ok (front 4 short b.0.1) (λ y. Ok h.0.0) k b.2 in
    let tv = full_takes short body v.0 fits v.1 in
    let tp = front_takes 4 short v.0.1 p.0 tv.0.fits p.1 in
    let th = four_takes short p.0.1 h.0 tp.0.fits h.1 in
    let ta = front_takes 4 short h.0.1 a.0 th.0.fits a.1 in
    let tb = front_takes 4 short a.0.1 b.0 ta.0.fits b.1 in
    let tc = front_takes 4 short b.0.1 c.0 tb.0.fits c.1 in
    let f : Fields = record { version = v.0.0.0; flags = v.0.0.1; pre_defined = p.0.0; reserved_0 = a.0.0; reserved_1 = b.0.0; reserved_2 = c.0.0 } in
    let fit : Fit f = record { version = tv.1; flags = tv.2; pre_defined = tp.1; reserved_0 = ta.1; reserved_1 = tb.1; reserved_2 = tc.1 } in
    let second = tb.0.parts ∙ ap (λ (l : List ℕ). num f.reserved_1 4 ++ l) tc.0.parts in
    let first = ta.0.parts ∙ ap (λ (l : List ℕ). num f.reserved_0 4 ++ l) second in
    let kind = th.0.parts ∙ ap (λ (l : List ℕ). h.0.0.0 ++ l) first in
    let defined = tp.0.parts ∙ ap (λ (l : List ℕ). num f.pre_defined 4 ++ l) kind in
    let all = tv.0.parts ∙ ap (λ (l : List ℕ). full f.version f.flags ++ l) defined in
    subst (λ (y : FourCc). HasHandler body y) (ok_is h.0.0 k c.2) (f, c.0.1, fit, th.1, all)

pub handler_only : (at : ℕ) (body : List ℕ) (k : FourCc) → HasHandler body k → handler_at at body ≡ Ok k
unfolding handler_at
handler_only at body k (f, name, fit, four, parts) =
    let short = BadRecord HDLR at in
    let c = num f.reserved_2 4 ++ name in
    let b = num f.reserved_1 4 ++ c in
    let a = num f.reserved_0 4 ++ b in
    let h = k.0 ++ a in
    let p = num f.pre_defined 4 ++ h in
    ap (handler_at at) parts ∙ rw (full_again f.version f.flags short p fit.version fit.flags, front_again 4 f.pre_defined short h fit.pre_defined, four_again short k a four, front_again 4 f.reserved_0 short b fit.reserved_0, front_again 4 f.reserved_1 short c fit.reserved_1, front_again 4 f.reserved_2 short name fit.reserved_2) refl

abbrev fine : Unit {0} → Result (Unit {0}) ReadRefusal
fine x = Ok x

abbrev picture : FourCc → Result (Unit {0}) ReadRefusal
picture k = cond (is_kind k PICT) (Ok tt) (Err NotPicture)

is_picture : (b : Bool) → cond b (Ok tt) (Err NotPicture) ≡ fine tt → b ≡ true
is_picture true e = refl
is_picture false e = absurd cc

pub hdlr_found : (at : ℕ) (body : List ℕ) → IsBytes body → hdlr_at at body ≡ Ok tt → IsHdlr body
unfolding hdlr_at
hdlr_found at body fits e =
    let a = bind_ok (handler_at at body) picture tt e in
    subst (λ (k : FourCc). HasHandler body k) (is_same_kind a.0 PICT (is_picture (is_kind a.0 PICT) a.2)) (handler_found at body a.0 fits a.1)

pub hdlr_only : (at : ℕ) (body : List ℕ) → IsHdlr body → hdlr_at at body ≡ Ok tt
unfolding hdlr_at
hdlr_only at body h = rw (handler_only at body PICT h) refl

pub picture_read : (at : ℕ) (body : List ℕ) (k : FourCc) → handler_at at body ≡ Ok k → k ≡ PICT → hdlr_at at body ≡ Ok tt
unfolding hdlr_at
picture_read at body k e same = rw (e, same_kind k PICT same) refl

pub picture_refused : (at : ℕ) (body : List ℕ) (k : FourCc) → handler_at at body ≡ Ok k → (k ≡ PICT → ⊥) → hdlr_at at body ≡ Err NotPicture
unfolding hdlr_at
picture_refused at body k e other = rw (e, other_kind k PICT other) refl

pub is_found : (at : ℕ) (body : List ℕ) (r : Result (Unit {0}) ReadRefusal) → IsBytes body → Reads (λ x. x) r (hdlr_at at body) → OnOk r (IsHdlr body)
is_found at body (Ok x) fits given = hdlr_found at body fits given
is_found at body (Err e) fits given = tt

pub is_only : (at : ℕ) (body : List ℕ) (r : Result (Unit {0}) ReadRefusal) → Reads (λ x. x) r (hdlr_at at body) → IsHdlr body → IsOk r
is_only at body (Ok x) given h = refl
is_only at body (Err e) given h = let f = hdlr_only at body h in absurd cc

pub written_is : IsHdlr hdlr_body
unfolding hdlr_body num
written_is = (
  record { version = 0; flags = 0; pre_defined = 0; reserved_0 = 0; reserved_1 = 0; reserved_2 = 0 },
  0 ∷ [],
  record { version = omega arith; flags = omega arith; pre_defined = omega arith; reserved_0 = omega arith; reserved_1 = omega arith; reserved_2 = omega arith },
  refl,
  refl,
)
