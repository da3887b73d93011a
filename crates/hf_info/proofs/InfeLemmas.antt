-- The entry that is read stands there, and the entry that stands there is read.
use Rattle.std.proofs.Common.{◌≡◌, ◌≢◌, ℕ, ◌<◌, ◌^◌, ◌%◌, true, false, not, List, [], ◌++◌, eqb, cond, Ok, refl, sym, ap, subst, ◌∙◌, arith, inl, inr}
use Rattle.std.proofs.lemmas.Bool.{cases_Bool}
use Rattle.hf_base.specs.declared.four.FourCc.{FourCc}
use Rattle.hf_base.specs.declared.fault.ReadRefusal.TheVariants.{BadRecord, BadVersion, ZeroId, Protected}
use Rattle.hf_base.specs.declared.kinds.TheConstants.{INFE, MIME, URI}
use Rattle.hf_base.specs.Number.{IsBytes, num}
use Rattle.hf_base.specs.Reading.{front, front_four, front_full, full}
use Rattle.hf_base.specs.ReadingLaws.{bind_ok, ok_is, front_takes, front_again, four_takes, four_again, full_takes, full_again}
use Rattle.hf_base.specs.Entries.{IsIdWidth, id_width_at, refuse_if}
use Rattle.hf_base.specs.EntryLaws.{width_again, width_take, refused_not}
use Rattle.hf_box.specs.Walk.{is_kind}
use Rattle.hf_box.proofs.SameKinds.{same_kind, is_same_kind, other_kind}
use Rattle.hf_info.specs.Texts.{text_at, behind_text}
use Rattle.hf_info.specs.Infe.{Info, IsMime, IsUri, IsInfe, info_with, infe_at}
use Rattle.hf_info.proofs.TextLemmas.{not_zero, text_again, text_take}

-- a string that a type has
abbrev if_mime : FourCc → List ℕ → List ℕ
if_mime kind text = cond (is_kind kind MIME) text []

abbrev if_uri : FourCc → List ℕ → List ℕ
if_uri kind text = cond (is_kind kind URI) text []

pub differ : (a b : FourCc) → is_kind a b ≡ false → a ≢ b
differ a b f e = let t : true ≡ false = sym (same_kind a b e) ∙ f in cc

-- ---- what stands there is read

-- the strings of an entry
content_again : (info : Info) (bytes : List ℕ) → IsMime info bytes → ((if_mime info.kind (text_at bytes)) ≡ info.content) × (if_mime info.kind (text_at (behind_text bytes)) ≡ info.encoding)
content_again info bytes (inl (kind, (more, rest, first, second))) =
    let mime = same_kind info.kind MIME kind in
    let a = text_again bytes info.content more first in
    let b = text_again more info.encoding rest second in
    (rw mime a.0, rw (mime, a.1) b.0)
content_again info bytes (inr (kind, content, encoding)) =
    let other = other_kind info.kind MIME kind in
    (rw other (sym content), rw other (sym encoding))

uri_again : (info : Info) (bytes : List ℕ) → IsUri info bytes → if_uri info.kind (text_at bytes) ≡ info.uri
uri_again info bytes (inl (kind, rest, text)) =
    let uri = same_kind info.kind URI kind in
    rw uri (text_again bytes info.uri rest text).0
uri_again info bytes (inr (kind, none)) =
    let other = other_kind info.kind URI kind in
    rw other (sym none)

version_fits : (version width : ℕ) → IsIdWidth 2 version width → version < 256 ^ 1
version_fits version width (inl (v, w)) = omega (arith, v)
version_fits version width (inr (v, w)) = omega (arith, v)

info_is : (flags id : ℕ) (kind : FourCc) (strings : List ℕ) (i : Info) → i.id ≡ id → i.kind ≡ kind → i.hidden ≡ (eqb (flags % 2) 1) → text_at strings ≡ i.name
    → if_mime kind (text_at (behind_text strings)) ≡ i.content → if_mime kind (text_at (behind_text (behind_text strings))) ≡ i.encoding → if_uri kind (text_at (behind_text strings)) ≡ i.uri
    → info_with flags id kind strings ≡ i
info_is flags id kind strings i a b c d e f g = λ j. record { id = sym a j; kind = sym b j; hidden = sym c j; name = d j; content = e j; encoding = f j; uri = g j }

pub infe_only : (at : ℕ) (body : List ℕ) (info : Info) → IsInfe body info → infe_at at body ≡ Ok info
unfolding infe_at
infe_only at body info h =
    let short = BadRecord INFE at in
    let head = full_again h.version h.flags short (num info.id h.width ++ (num 0 2 ++ (info.kind.0 ++ h.strings))) (version_fits h.version h.width h.versioned) h.flags_fit in
    let width = width_again 2 (BadVersion INFE at) h.version h.width h.versioned in
    let id = front_again h.width info.id short (num 0 2 ++ (info.kind.0 ++ h.strings)) h.id_fits in
    let protection = front_again 2 0 short (info.kind.0 ++ h.strings) (omega arith) in
    let kind = four_again short info.kind h.strings h.kind in
    let some : eqb info.id 0 ≡ false = not_zero info.id h.some in
    let name = text_again h.strings info.name h.more h.name in
    let mime = content_again info h.more h.mime in
    let uri = uri_again info h.more h.uri in
    let whole = info_is h.flags info.id info.kind h.strings info refl refl h.hidden name.0
    (ap (λ (l : List ℕ). if_mime info.kind (text_at l)) name.1 ∙ mime.0)
    (ap (λ (l : List ℕ). if_mime info.kind (text_at (behind_text l))) name.1 ∙ mime.1)
    (ap (λ (l : List ℕ). if_uri info.kind (text_at l)) name.1 ∙ uri) in
    rw (h.is, head, width, id, protection, kind, some) (ap (λ (i : Info). Ok i) whole)

-- ---- what is read stands there

mime_take : (flags id : ℕ) (kind : FourCc) (strings : List ℕ) → IsMime (info_with flags id kind strings) (behind_text strings)
mime_take flags id kind strings = elim (cases_Bool (is_kind kind MIME)) [
  | inl t ↦
      let first = text_take (behind_text strings) in
      let second = text_take (behind_text (behind_text strings)) in
      rw t (inl (is_same_kind kind MIME t, (behind_text (behind_text strings), behind_text (behind_text (behind_text strings)), first, second)))
  | inr f ↦ rw f (inr (differ kind MIME f, refl, refl))
]

uri_take : (flags id : ℕ) (kind : FourCc) (strings : List ℕ) → IsUri (info_with flags id kind strings) (behind_text strings)
uri_take flags id kind strings = elim (cases_Bool (is_kind kind URI)) [
  | inl t ↦ rw t (inl (is_same_kind kind URI t, behind_text (behind_text strings), text_take (behind_text strings)))
  | inr f ↦ rw f (inr (differ kind URI f, refl))
]

pub infe_found : (at : ℕ) (body : List ℕ) (info : Info) → IsBytes body → infe_at at body ≡ Ok info → IsInfe body info
unfolding infe_at
infe_found at body info fits e =
    let short = BadRecord INFE at in
    let v = bind_ok (front_full short body) _ info e in
    let w = bind_ok (id_width_at 2 (BadVersion INFE at) v.0.0.0) _ info v.2 in
    let i = bind_ok (front w.0 short v.0.1) _ info w.2 in
    let p = bind_ok (front 2 short i.0.1) _ info i.2 in
    let k = bind_ok (front_four short p.0.1) _ info p.2 in
    let z = bind_ok (refuse_if (eqb i.0.0 0) (ZeroId at)) _ info k.2 in
    let o = bind_ok (refuse_if (not (eqb p.0.0 0)) (Protected i.0.0)) _ info z.2 in
    let s0 = full_takes short body v.0 fits v.1 in
    let s1 = front_takes w.0 short v.0.1 i.0 s0.0.fits i.1 in
    let s2 = front_takes 2 short i.0.1 p.0 s1.0.fits p.1 in
    let s3 = four_takes short p.0.1 k.0 s2.0.fits k.1 in
    let some : eqb i.0.0 0 ≡ false = refused_not _ _ z.0 z.1 in
    let unprotected : p.0.0 ≡ 0 = grind (arith, refused_not (not (eqb p.0.0 0)) (Protected i.0.0) o.0 o.1) in
    let made = info_with v.0.0.1 i.0.0 k.0.0 k.0.1 in
    let stands : IsInfe body made = record {
      version = v.0.0.0;
      flags = v.0.0.1;
      flags_fit = s0.2;
      width = w.0;
      versioned = width_take 2 (BadVersion INFE at) v.0.0.0 w.0 w.1;
      strings = k.0.1;
      is = s0.0.parts ∙ ap (λ (l : List ℕ). full v.0.0.0 v.0.0.1 ++ l) (s1.0.parts ∙ ap (λ (l : List ℕ). num i.0.0 w.0 ++ l) (s2.0.parts ∙ ap (λ (n : ℕ). num n 2 ++ p.0.1) unprotected ∙ ap (λ (l : List ℕ). num 0 2 ++ l) s3.0.parts));
      hidden = refl;
      some = grind (arith, some);
      id_fits = s1.1;
      kind = s3.1;
      more = behind_text k.0.1;
      name = text_take k.0.1;
      mime = mime_take v.0.0.1 i.0.0 k.0.0 k.0.1;
      uri = uri_take v.0.0.1 i.0.0 k.0.0 k.0.1;
    } in
    subst (λ (x : Info). IsInfe body x) (ok_is made info o.2) stands
