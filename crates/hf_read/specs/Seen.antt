-- What the types of the code stand for.
use Rattle.std.specs.Prelude.{◌≡◌, ◌<◌, ◌^◌, IfSome, IsTrue}
use Rattle.std.specs.Option.{option_map}
use Rattle.hf_base.specs.Entries.{are_distinct}
use Rattle.hf_base.specs.Members.{Rises}
use Rattle.hf_base.specs.declared.four.FourCc.{FourCc}
use Rattle.hf_base.specs.declared.kinds.TheConstants.{HDLR, PITM, IINF, ILOC, IREF, IPRP, GRPL, IDAT}
use Rattle.hf_box.specs.Boxes.{box_of, end_of}
use Rattle.hf_box.specs.declared.view.BoxView.{BoxView}
use Rattle.hf_extent.specs.Places.{HaveDistinctIds}
use Rattle.hf_info.specs.Infe.{infos_of}
use Rattle.hf_links.specs.Grpl.{groups_of, group_ids}
use Rattle.hf_prop.specs.Ipma.{assoc_ids}
use Rattle.hf_read.specs.Tables.{Tables, infos_by_id, item_ids}
use Rattle.hf_read.specs.TopLevel.{Parts}
use Rattle.hf_read.specs.declared.meta.MetaParts.{MetaParts}
use Rattle.hf_read.specs.declared.meta.MetaTables.{MetaTables}

abbrev pub parts_seen : MetaParts → Parts
parts_seen p = record {
  hdlr = box_of p.hdlr;
  pitm = box_of p.pitm;
  iinf = box_of p.iinf;
  iloc = option_map box_of p.iloc;
  iref = option_map box_of p.iref;
  iprp = option_map box_of p.iprp;
  grpl = option_map box_of p.grpl;
  idat = option_map box_of p.idat;
}

-- a box of this type, whose end has a place
abbrev pub IsBoxOf : FourCc → BoxView → Type 0
IsBoxOf kind b = (b.kind ≡ kind) × (end_of (box_of b) < 2 ^ 64)

-- each box that is read has its type
pub record HaveKinds (p : MetaParts) : Type 0 where
  pub hdlr : IsBoxOf HDLR p.hdlr
  pub pitm : IsBoxOf PITM p.pitm
  pub iinf : IsBoxOf IINF p.iinf
  pub iloc : IfSome p.iloc (IsBoxOf ILOC)
  pub iref : IfSome p.iref (IsBoxOf IREF)
  pub iprp : IfSome p.iprp (IsBoxOf IPRP)
  pub grpl : IfSome p.grpl (IsBoxOf GRPL)
  pub idat : IfSome p.idat (IsBoxOf IDAT)

-- the tables are these, with the entries on items by rising id
pub record AreTablesOf (m : MetaTables) (t : Tables) : Type 0 where
  pub infos : infos_of m.infos.items ≡ infos_by_id t.infos
  pub ids : m.ids.items ≡ item_ids t.infos
  pub locs : m.locs.items ≡ t.locs
  pub links : m.links.items ≡ t.links
  pub iprp : m.iprp ≡ t.iprp
  pub groups : groups_of m.groups.items ≡ t.groups

-- the ids of the items rise, and no two entries of a table have one id
pub record AreReadable (m : MetaTables) : Type 0 where
  pub ids : Rises ◌<◌ m.ids.items
  pub locs : HaveDistinctIds m.locs.items
  pub assocs : IsTrue (are_distinct (assoc_ids m.iprp.assocs))
  pub groups : IsTrue (are_distinct (group_ids (groups_of m.groups.items)))
