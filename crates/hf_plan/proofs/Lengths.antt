-- How long a file is, whatever its offsets are.
use Rattle.std.proofs.Common.{◌≡◌, ℕ, ◌+◌, List, length, length-append, refl, sym, ap, ◌∙◌}
use Rattle.hf_box.specs.Head.{box_len}
use Rattle.hf_store.specs.Store.{ItemStore}
use Rattle.hf_box.specs.Literals.{four}
use Rattle.hf_head.specs.Ftyp.{ftyp_body}
use Rattle.hf_store.specs.Layout.{Homes, mdat_body, meta_body, laid}
use Rattle.hf_store.proofs.BoxLengths.{length-box}
use Rattle.hf_store.proofs.Lengths.{meta_body_len, length-meta_body}
use Rattle.hf_plan.specs.Lay.{LayBy}

-- bytes of the file, with offsets of w bytes
unfoldable pub file_len : Homes → ℕ → ItemStore → ℕ
file_len home w s = box_len (length (ftyp_body s.brands)) + box_len (meta_body_len w s) + box_len (length (mdat_body home s.items))

pub length-laid : (home : Homes) (w end : ℕ) (s : ItemStore) → length (laid home w end s) ≡ file_len home w s
unfolding laid file_len
length-laid home w end s =
    simp (length-append, length-box (four "ftyp") (ftyp_body s.brands) refl, length-box (four "meta") (meta_body home w end s) refl, length-box (four "mdat") (mdat_body home s.items) refl, length-meta_body)

-- a layout's length depends on no offset
pub length-LayBy : (home : Homes) (s : ItemStore) (w : ℕ) (F : List ℕ) → LayBy home s w F → length F ≡ file_len home w s
length-LayBy home s w F lay = ap length lay.bytes ∙ length-laid home w (length F) s

-- and so there is one layout at most
pub LayBy-one : (home : Homes) (s : ItemStore) (w : ℕ) (F G : List ℕ) → LayBy home s w F → LayBy home s w G → F ≡ G
LayBy-one home s w F G f g =
    let same : length F ≡ length G = length-LayBy home s w F f ∙ sym (length-LayBy home s w G g) in
    f.bytes ∙ ap (λ (end : ℕ). laid home w end s) same ∙ sym g.bytes
