-- The canonical file of a valid store denotes it.
use Rattle.std.proofs.Common.{◌≡◌, ◌⊎◌, ℕ, List, length, refl, sym, subst, inl, inr}
use Rattle.hf_head.specs.Ftyp.{IsFtyp}
use Rattle.hf_head.specs.Hdlr.{IsHdlr}
use Rattle.hf_head.specs.Pitm.{IsPitm}
use Rattle.hf_head.proofs.FtypLemmas as ftyp_laws
use Rattle.hf_head.proofs.HdlrLemmas as hdlr_laws
use Rattle.hf_head.proofs.PitmLemmas as pitm_laws
use Rattle.hf_store.specs.Layout.{is_wide}
use Rattle.hf_store.specs.Store.{ItemStore}
use Rattle.hf_store.specs.Valid.{Valid}
use Rattle.hf_plan.specs.Lay.{Lay}
use Rattle.hf_read.specs.Denotes.{Denotes}
use Rattle.hf_read.proofs.DenotesLaws.{denotes_one}
use Rattle.hf_canon.specs.Laws.{CanonDenotes, EqualFilesEqualStores}
use Rattle.hf_canon.proofs.Boxes.{laid_out}
use Rattle.hf_canon.proofs.Items.{items_are, groups_come_back}
use Rattle.hf_canon.proofs.LaidOut.{tables_of}
use Rattle.hf_canon.proofs.Naming.{needs_are, picks_are}
use Rattle.hf_canon.proofs.Records.{infos_are, locs_are, links_are, props_are, groups_are}

-- a layout with offsets of four bytes, or of eight
lay_denotes : (s : ItemStore) (w : ℕ) (F : List ℕ) → Valid s → (w ≡ 4) ⊎ (w ≡ 8) → Lay s w F → Denotes F s
lay_denotes s w F valid width lay =
    let l = laid_out s w F lay in
    let good = valid.brands in
    let brands = ftyp_laws.written_is s.brands good.major good.minor good.fours in
    let primary = pitm_laws.written_is (is_wide s.items) s.primary lay.numbers.primary in
    record {
      top = l.top;
      boxes = l.boxes;
      ftyp = l.ftyp;
      meta = l.meta;
      level = l.level;
      full = l.full;
      children = l.children;
      inner = l.inner;
      parts = l.parts;
      are_parts = l.are_parts;
      brands = subst (λ (body : List ℕ). IsFtyp body s.brands) (sym l.brands) brands;
      picture = subst IsHdlr (sym l.hdlr) hdlr_laws.written_is;
      primary = subst (λ (body : List ℕ). IsPitm body s.primary) (sym l.pitm) primary;
      tables = tables_of (length F) s;
      infos = infos_are s w F valid lay l.parts.iinf l.iinf;
      locs = locs_are s w F valid lay width l.parts.iloc l.iloc;
      links = links_are s w F valid lay l.parts.iref l.iref;
      iprp = props_are s w F valid lay l.parts.iprp l.iprp;
      all_groups = groups_are s w F valid lay l.parts.grpl l.grpl;
      needs = needs_are s valid;
      picks = picks_are s;
      items = items_are s w F l.parts.idat valid lay l.idat;
      groups = groups_come_back s valid;
      valid = valid;
    }

pub canon_denotes : CanonDenotes
canon_denotes s F valid (inl narrow) = lay_denotes s 4 F valid (inl refl) narrow.0
canon_denotes s F valid (inr wide) = lay_denotes s 8 F valid (inr refl) wide.1

pub equal_files : EqualFilesEqualStores
equal_files s t F s_valid t_valid s_canon t_canon =
    denotes_one F s t (canon_denotes s F s_valid s_canon) (canon_denotes t F t_valid t_canon)
