use Rattle.std.proofs.Common.{◌≡◌, ℕ, ◌+◌, Bool, true, false, cond, List, [], ◌++◌, length, refl, sym, ap, ◌∙◌, subst}
use Rattle.hf_base.specs.Number.{num}
use Rattle.hf_base.specs.declared.kinds.TheConstants.{MIME, URI}
use Rattle.hf_box.specs.Walk.{is_kind}
use Rattle.hf_box.specs.Written.{bit}
use Rattle.hf_store.specs.Counts.{strings_of}
use Rattle.hf_store.specs.Seen.{item_of}
use Rattle.hf_store.specs.Store.{Item}
use Rattle.hf_store.specs.Valid.{IsFour}
use Rattle.hf_edit.specs.Additions.{exif_item, thumbnail_item, xmp_item}
use Rattle.hf_edit.specs.Seen.{draft_of}
use Rattle.hf_edit.specs.declared.additions.Draft.{Draft}
use Rattle.hf_edit.proofs.additions.Draft.strings.Goals as goal

-- an item that has only the strings that its type asks for
plain : (mime uri : Bool)
    → 1 + bit mime + bit uri ≡ length ([] ++ num 0 1) + length (cond mime (([] ++ num 0 1) ++ []) []) + length (cond uri ([] ++ num 0 1) [])
unfolding num
plain true true = refl
plain true false = refl
plain false true = refl
plain false false = refl

exif : (tiff : List ℕ) (of id : ℕ) → 1 ≡ strings_of (exif_item tiff of id)
unfolding num
exif tiff of id = refl

xmp : (text : List ℕ) (of id : ℕ) → 21 ≡ strings_of (xmp_item text of id)
unfolding num
xmp text of id = refl

thumbnail : (p : Item) (of id x y : ℕ) → x ≡ bit (is_kind p.kind MIME) → y ≡ bit (is_kind p.kind URI) → 1 + x + y ≡ strings_of (thumbnail_item p of id)
thumbnail p of id x y one other =
    ap (λ (n : ℕ). 1 + n + y) one ∙ ap (λ (n : ℕ). 1 + bit (is_kind p.kind MIME) + n) other ∙ plain (is_kind p.kind MIME) (is_kind p.kind URI)

pub returns-in-Exif-clause-bytes : goal.returns-in-Exif-clause-bytes
returns-in-Exif-clause-bytes c of id = exif c.in-Exif.field-0.now of id ∙ ap (λ (d : Draft). strings_of (draft_of d of id)) (sym c.in-Exif.is)

pub returns-in-Xmp-clause-bytes : goal.returns-in-Xmp-clause-bytes
returns-in-Xmp-clause-bytes c of id = xmp c.in-Xmp.field-0.now of id ∙ ap (λ (d : Draft). strings_of (draft_of d of id)) (sym c.in-Xmp.is)

pub returns-in-Thumb-clause-bytes : goal.returns-in-Thumb-clause-bytes
returns-in-Thumb-clause-bytes c of id =
    thumbnail (item_of c.in-Thumb.picture.now) of id _ _ c.one_of.ensures.bit c.one_of-in-Thumb.ensures.bit
    ∙ ap (λ (d : Draft). strings_of (draft_of d of id)) (sym c.in-Thumb.is)

pub returns-in-Thumb-clause-four : goal.returns-in-Thumb-clause-four
returns-in-Thumb-clause-four c of id = subst (λ (d : Draft). IsFour (draft_of d of id).kind) (sym c.in-Thumb.is) c.one_of.ensures.four
