-- The bytes that fit so many inputs are the payloads that count as many.
use Rattle.std.proofs.Common.{◌≡◌, ◌↔◌, ℕ, suc, ◌+◌, ◌*◌, Bool, true, false, ◌&&◌, cond, eqb, leb, List, [], ◌∷◌, length, Some, None, refl, sym, ap, ◌∙◌}
use Rattle.std.specs.Prelude.{Option, is_some, IsTrue}
use Rattle.std.proofs.lemmas.Bool.{eqb-true, eq-eqb}
use Rattle.hf_base.specs.Number.{IsBytes}
use Rattle.hf_base.specs.declared.four.FourCc.{FourCc}
use Rattle.hf_base.specs.declared.kinds.TheConstants.{GRID, IOVL, IDEN}
use Rattle.hf_box.proofs.SameKinds.{other_kind}
use Rattle.hf_derived.specs.Derived.{side, fits_grid, fits_overlay, fits}
use Rattle.hf_derived.specs.Grid.{IsGrid, grid_at}
use Rattle.hf_derived.specs.Overlay.{IsOverlay, overlay_at}
use Rattle.hf_derived.specs.declared.grid.Grid.{Grid}
use Rattle.hf_derived.specs.declared.overlay.Overlay.{Overlay}
use Rattle.hf_derived.proofs.Grids.{grid_only, grid_found}
use Rattle.hf_derived.proofs.Overlays.{overlay_only, overlay_found}
use Rattle.hf_derived.proofs.Sides.{IsBytes-take}

-- there is a grid, and it has so many cells
abbrev pub has_cells : Option Grid → ℕ → Bool
has_cells None count = false
has_cells (Some g) count = eqb (g.rows * g.columns) count

choose : (first second third : Bool) (g : Grid) (count : ℕ) → eqb (g.rows * g.columns) count ≡ second → (first && second && third) ≡ has_cells (cond (first && third) (Some g) None) count
choose true true true g count e = sym e
choose true true false g count e = refl
choose true false true g count e = sym e
choose true false false g count e = refl
choose false true true g count e = refl
choose false true false g count e = refl
choose false false true g count e = refl
choose false false false g count e = refl

pub fits_grid-is : (bytes : List ℕ) (count : ℕ) → fits_grid bytes count ≡ has_cells (grid_at bytes) count
unfolding grid_at
fits_grid-is [] count = refl
fits_grid-is (a ∷ []) count = refl
fits_grid-is (a ∷ b ∷ []) count = refl
fits_grid-is (a ∷ b ∷ c ∷ []) count = refl
fits_grid-is (version ∷ flags ∷ rows ∷ columns ∷ rest) count =
    choose (eqb version 0) (eqb (suc rows * suc columns) count) (leb (2 * side flags) (length rest)) _ count refl

some_when : {A : Type 0} (test : Bool) (x : A) → test ≡ is_some (cond test (Some x) None)
some_when true x = refl
some_when false x = refl

pub fits_overlay-is : (bytes : List ℕ) (count : ℕ) → fits_overlay bytes count ≡ is_some (overlay_at count bytes)
unfolding overlay_at
fits_overlay-is [] count = refl
fits_overlay-is (a ∷ []) count = refl
fits_overlay-is (version ∷ flags ∷ rest) count = some_when (eqb version 0 && leb (8 + 2 * side flags + count * (2 * side flags)) (length rest)) _

-- ---- each type

pub fits-grid : (kind : FourCc) (bytes : List ℕ) (count : ℕ) → kind ≡ GRID → fits kind bytes count ≡ has_cells (grid_at bytes) count
fits-grid kind bytes count e = ap (λ (k : FourCc). fits k bytes count) e ∙ fits_grid-is bytes count

pub fits-overlay : (kind : FourCc) (bytes : List ℕ) (count : ℕ) → kind ≡ IOVL → fits kind bytes count ≡ is_some (overlay_at count bytes)
fits-overlay kind bytes count e = ap (λ (k : FourCc). fits k bytes count) e ∙ fits_overlay-is bytes count

pub fits-identity : (kind : FourCc) (bytes : List ℕ) (count : ℕ) → kind ≡ IDEN → fits kind bytes count ≡ eqb count 1
fits-identity kind bytes count e = ap (λ (k : FourCc). fits k bytes count) e

pub fits-other : (kind : FourCc) (bytes : List ℕ) (count : ℕ) → (kind ≡ GRID → ⊥) → (kind ≡ IOVL → ⊥) → (kind ≡ IDEN → ⊥) → fits kind bytes count ≡ true
fits-other kind bytes count grid overlay identity =
    let a = other_kind kind GRID grid in
    let b = other_kind kind IOVL overlay in
    let c = other_kind kind IDEN identity in
    rw (a, b, c) refl

-- ---- bytes that fit are payloads

abbrev Cells : List ℕ → ℕ → Type 0
Cells bytes count = (g : Grid) × IsGrid bytes g × (g.rows * g.columns ≡ count)

cells_from : (bytes : List ℕ) (count : ℕ) (found : Option Grid) → IsBytes bytes → grid_at bytes ≡ found → has_cells found count ≡ true → Cells bytes count
cells_from bytes count None fits e h = absurd cc
cells_from bytes count (Some g) fits e h = (g, grid_found bytes g (IsBytes-take 12 bytes fits) e, eqb-true (g.rows * g.columns) count h)

pub grids_fit : (bytes : List ℕ) (count : ℕ) → IsBytes bytes → IsTrue (fits GRID bytes count) ↔ Cells bytes count
grids_fit bytes count is_bytes = (
  (λ h. cells_from bytes count (grid_at bytes) is_bytes refl (sym (fits_grid-is bytes count) ∙ h)),
  (λ p. let e = grid_only bytes p.0 p.1 in fits_grid-is bytes count ∙ ap (λ (o : Option Grid). has_cells o count) e ∙ eq-eqb (p.0.rows * p.0.columns) count p.2),
)

overlay_from : (bytes : List ℕ) (count : ℕ) (found : Option Overlay) → IsBytes bytes → overlay_at count bytes ≡ found → is_some found ≡ true → (o : Overlay) × IsOverlay bytes count o
overlay_from bytes count None fits e h = absurd cc
overlay_from bytes count (Some o) fits e h = (o, overlay_found bytes count o (IsBytes-take 18 bytes fits) e)

pub overlays_fit : (bytes : List ℕ) (count : ℕ) → IsBytes bytes → IsTrue (fits IOVL bytes count) ↔ ((o : Overlay) × IsOverlay bytes count o)
overlays_fit bytes count is_bytes = (
  (λ h. overlay_from bytes count (overlay_at count bytes) is_bytes refl (sym (fits_overlay-is bytes count) ∙ h)),
  (λ p. let e = overlay_only bytes count p.0 p.1 in fits_overlay-is bytes count ∙ ap (λ (o : Option Overlay). is_some o) e),
)

pub identities_fit : (bytes : List ℕ) (count : ℕ) → IsTrue (fits IDEN bytes count) ↔ (count ≡ 1)
identities_fit bytes count = ((λ h. eqb-true count 1 h), (λ e. eq-eqb count 1 e))
