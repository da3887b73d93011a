-- What an entry can say, and that an entry that is written says it.
use Rattle.std.proofs.Common.{◌≡◌, ℕ, ◌<◌, ◌^◌, ◌%◌, Bool, true, false, List, [], ◌∷◌, ◌++◌, eqb, refl, sym, subst, append_assoc, arith, inl, inr, ◌⊎◌}
use Rattle.std.proofs.lemmas.Bool.{cases_Bool}
use Rattle.std.proofs.lemmas.List.{append-nil}
use Rattle.hf_base.specs.declared.four.FourCc.{FourCc}
use Rattle.hf_base.specs.declared.kinds.TheConstants.{MIME, URI}
use Rattle.hf_base.specs.Number.{num}
use Rattle.hf_base.specs.Reading.{full}
use Rattle.hf_base.specs.Entries.{HasNoZero, IsIdWidth}
use Rattle.hf_box.specs.Walk.{is_kind}
use Rattle.hf_box.specs.Written.{bit, id_width, zero_ended}
use Rattle.hf_box.proofs.SameKinds.{is_same_kind}
use Rattle.hf_info.specs.Texts.{IsText, zero_ended_if_any}
use Rattle.hf_info.specs.Infe.{Info, IsMime, IsUri, IsInfe, IsGoodInfo, infe_version, content_text, uri_text, infe_body}
use Rattle.hf_info.proofs.TextLemmas.{text_written}
use Rattle.hf_info.proofs.InfeLemmas.{differ}

-- ---- what an entry can say

id_below : (id version width : ℕ) → IsIdWidth 2 version width → id < 256 ^ width → id < 256 ^ 4
id_below id version width (inl (v, w)) fits = omega (arith, subst (λ (n : ℕ). id < 256 ^ n) w fits)
id_below id version width (inr (v, w)) fits = subst (λ (n : ℕ). id < 256 ^ n) w fits

-- the strings of a `mime`
record HasContent (info : Info) : Type 0 where
  content : HasNoZero info.content
  encoding : HasNoZero info.encoding
  only_mime : (info.kind ≡ MIME) ⊎ ((info.content ≡ []) × (info.encoding ≡ []))

empty : (text : List ℕ) → text ≡ [] → HasNoZero text
empty text e = rw e tt

content_good : (info : Info) (bytes : List ℕ) → IsMime info bytes → HasContent info
content_good info bytes (inl (kind, (more, rest, first, second))) = record { content = first.0; encoding = second.0; only_mime = inl kind }
content_good info bytes (inr (kind, content, encoding)) = record {
  content = empty info.content content;
  encoding = empty info.encoding encoding;
  only_mime = inr (content, encoding);
}

abbrev HasUri : Info → Type 0
HasUri info = HasNoZero info.uri × ((info.kind ≡ URI) ⊎ (info.uri ≡ []))

uri_good : (info : Info) (bytes : List ℕ) → IsUri info bytes → HasUri info
uri_good info bytes (inl (kind, rest, text)) = (text.0, inl kind)
uri_good info bytes (inr (kind, none)) = (empty info.uri none, inr none)

pub infe_good : (body : List ℕ) (info : Info) → IsInfe body info → IsGoodInfo info
infe_good body info h =
    let content = content_good info h.more h.mime in
    let uri = uri_good info h.more h.uri in
    record {
      some = h.some;
      id = id_below info.id h.version h.width h.versioned h.id_fits;
      kind = h.kind;
      name = h.name.0;
      content = content.content;
      encoding = content.encoding;
      uri = uri.0;
      only_mime = content.only_mime;
      only_uri = uri.1;
    }

-- ---- an entry that is written

mime_is_no_uri : (kind : FourCc) → kind ≡ MIME → is_kind kind URI ≡ false
mime_is_no_uri kind e = rw e refl

uri_is_no_mime : (kind : FourCc) → kind ≡ URI → is_kind kind MIME ≡ false
uri_is_no_mime kind e = rw e refl

last_text : (text : List ℕ) → HasNoZero text → IsText (zero_ended text) text []
unfolding num
last_text text clean = (clean, inl refl)

last_text_if_any : (text : List ℕ) → HasNoZero text → IsText (zero_ended_if_any text) text []
last_text_if_any [] clean = (tt, inr (refl, refl))
last_text_if_any (x ∷ xs) clean = last_text (x ∷ xs) clean

mime_written : (info : Info) → IsGoodInfo info → IsMime info (content_text info ++ uri_text info)
mime_written info good = elim (cases_Bool (is_kind info.kind MIME)) [
  | inl t ↦
      let kind = is_same_kind info.kind MIME t in
      let behind = zero_ended_if_any info.encoding in
      let whole : content_text info ++ uri_text info ≡ zero_ended info.content ++ behind = rw (t, mime_is_no_uri info.kind kind) (append-nil (zero_ended info.content ++ behind)) in
      subst (λ (l : List ℕ). IsMime info l) (sym whole) (inl (kind, (behind, [], text_written info.content behind good.content, last_text_if_any info.encoding good.encoding)))
  | inr f ↦ elim good.only_mime [ inl kind ↦ absurd (differ info.kind MIME f kind) | inr none ↦ inr (differ info.kind MIME f, none.0, none.1) ]
]

uri_written : (info : Info) → IsGoodInfo info → IsUri info (content_text info ++ uri_text info)
uri_written info good = elim (cases_Bool (is_kind info.kind URI)) [
  | inl t ↦
      let kind = is_same_kind info.kind URI t in
      let whole : content_text info ++ uri_text info ≡ zero_ended info.uri = rw (t, uri_is_no_mime info.kind kind) refl in
      subst (λ (l : List ℕ). IsUri info l) (sym whole) (inl (kind, [], last_text info.uri good.uri))
  | inr f ↦ elim good.only_uri [ inl kind ↦ absurd (differ info.kind URI f kind) | inr none ↦ inr (differ info.kind URI f, none) ]
]

mark_again : (hidden : Bool) → hidden ≡ eqb (bit hidden % 2) 1
mark_again true = refl
mark_again false = refl

bit_fits : (hidden : Bool) → bit hidden < 256 ^ 3
bit_fits true = omega arith
bit_fits false = omega arith

versions : (wide : Bool) → IsIdWidth 2 (infe_version wide) (id_width wide)
versions true = inr (refl, refl)
versions false = inl (refl, refl)

pub regroup : (a b c d e f g : List ℕ) → (((((a ++ b) ++ c) ++ d) ++ e) ++ f) ++ g ≡ a ++ (b ++ (c ++ (d ++ (e ++ (f ++ g)))))
regroup a b c d e f g = simp append_assoc refl

pub infe_written : (wide : Bool) (info : Info) → IsGoodInfo info → info.id < 256 ^ id_width wide → IsInfe (infe_body wide info) info
unfolding infe_body
infe_written wide info good fits =
    let behind = content_text info ++ uri_text info in
    record {
      version = infe_version wide;
      flags = bit info.hidden;
      flags_fit = bit_fits info.hidden;
      width = id_width wide;
      versioned = versions wide;
      strings = zero_ended info.name ++ behind;
      is = regroup (full (infe_version wide) (bit info.hidden)) (num info.id (id_width wide)) (num 0 2) info.kind.0 (zero_ended info.name) (content_text info) (uri_text info);
      hidden = mark_again info.hidden;
      some = good.some;
      id_fits = fits;
      kind = good.kind;
      more = behind;
      name = text_written info.name behind good.name;
      mime = mime_written info good;
      uri = uri_written info good;
    }
