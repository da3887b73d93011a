-- What is written for each item.
use Rattle.std.specs.Prelude.{◌≡◌, ◌≤◌, ◌<◌, ◌^◌, ℕ, Bool, true, false, List, [], ◌++◌, length, map, filter, All, if◌then◌else◌}
use Rattle.std.specs.List.{flat_map}
use Rattle.hf_base.specs.declared.limits.TheConstants as limits
use Rattle.hf_base.specs.Reading.{full as full_box}
use Rattle.hf_box.specs.Head.{box_head, box}
use Rattle.hf_box.specs.Literals.{four}
use Rattle.hf_head.specs.Hdlr.{hdlr_body}
use Rattle.hf_head.specs.Pitm.{pitm_body}
use Rattle.hf_info.specs.Iinf.{iinf_body}
use Rattle.hf_loc.specs.Iloc.{offset_width, entry_text, iloc_body}
use Rattle.hf_links.specs.Grpl.{grpl_body}
use Rattle.hf_links.specs.Iref.{reference_box, iref_body}
use Rattle.hf_prop.specs.Ipma.{association, ipma_entry}
use Rattle.hf_prop.specs.Iprp.{iprp_body}
use Rattle.hf_prop.specs.declared.prop.Prop.{Prop}
use Rattle.hf_store.specs.Picks.{pick_of}
use Rattle.hf_store.specs.Store.{Item, ItemStore}
use Rattle.hf_store.specs.declared.item.RefList.{RefList}
use Rattle.hf_store.specs.Layout.{own, is_wide, has_bytes, in_idat, bytes_in, has_props, infos_of, item_boxes, all_boxes, assoc_of, iprp_of, entry_of, entries_of, box_if_any, meta_body}
use Rattle.hf_plan.specs.Plan.{Planned}

-- the entry of an item in `iloc`; one without bytes has none
abbrev pub entry_if_any : Bool → ℕ → ℕ → List Item → Item → List ℕ
entry_if_any wide w file_len is i = if has_bytes i.bytes then entry_text wide w (entry_of own file_len is i) else []

-- the same, of the item at a place, by a plan
abbrev pub planned_entry : ItemStore → Planned → Item → List ℕ
planned_entry s p i = entry_if_any p.wide (offset_width p.long) p.total s.items i

-- the header of `meta`, and its body up to `pitm`
abbrev pub meta_begin : ItemStore → Planned → List ℕ
meta_begin s p =
    box_head (four "meta") (length (meta_body own (offset_width p.long) p.total s))
    ++ (full_box 0 0 ++ (box (four "hdlr") hdlr_body ++ box (four "pitm") (pitm_body p.wide s.primary)))

-- its boxes behind `pitm`, up to `iprp`
abbrev pub meta_lists : ItemStore → Planned → List ℕ
meta_lists s p =
    box (four "iinf") (iinf_body (is_wide s.items) (infos_of s.items))
    ++ (box_if_any (four "iref") (iref_body (is_wide s.items)) (all_boxes s.items) ++ box (four "iprp") (iprp_body p.wide (iprp_of s)))

-- its boxes behind `iprp`
abbrev pub meta_places : ItemStore → Planned → List ℕ
meta_places s p =
    box_if_any (four "grpl") grpl_body s.groups
    ++ (box_if_any (four "idat") bytes_in (filter in_idat s.items) ++ box (four "iloc") (iloc_body p.wide (offset_width p.long) (entries_of own p.total s.items)))

-- the bytes of an item that stands in `idat`, where `inner`, or in `mdat`, where not; of another one nothing
abbrev pub bytes_if : Bool → Item → List ℕ
bytes_if true i = if in_idat i then i.bytes else []
bytes_if false i = if in_idat i then [] else i.bytes

-- the boxes of an item's references
abbrev pub refs_text : Bool → Item → List ℕ
refs_text wide i = flat_map (reference_box wide) (item_boxes i.id i.refs)

-- a list of references that can be written
abbrev pub IsShortRef : Bool → RefList → Type 0
IsShortRef wide r = (length r.to ≤ limits.LINKS) × (wide ≡ false → All (λ id. id < 256 ^ 2) r.to)

abbrev pub prop_box : Prop → List ℕ
prop_box p = box p.kind p.body

-- the associations of an item
abbrev pub picks_text : Bool → List Prop → Item → List ℕ
picks_text long table i = flat_map (association long) (map (pick_of table) i.props)

-- the entry of an item in `ipma`; one without properties has none
abbrev pub assoc_if_any : Bool → Bool → List Prop → Item → List ℕ
assoc_if_any wide long table i = if has_props i then ipma_entry wide long (assoc_of table i) else []
