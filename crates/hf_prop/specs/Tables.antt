-- The values of the reader, as definitions see them.
use Rattle.std.specs.Prelude.{◌≡◌, ℕ, Bool, Option, Some, None, if◌then◌else◌}
use Rattle.hf_base.specs.Entries.{has_id}
use Rattle.hf_box.specs.declared.view.BoxView.{BoxView}
use Rattle.hf_box.specs.Boxes.{BoxAt, box_of}
use Rattle.hf_prop.specs.declared.ipma.Table.{Table}
use Rattle.hf_prop.specs.Ipma.{assoc_ids, assoc_rows}

-- how many bytes an association takes
abbrev pub pick_bytes : Bool → ℕ
pick_bytes two_bytes = if two_bytes then 2 else 1

-- what is counted and looked up is that of the entries
pub record IsTable (t : Table) : Type 0 where
  pub rows : t.rows ≡ assoc_rows t.assocs
  pub ids : (id : ℕ) → has_id id t.ids ≡ has_id id (assoc_ids t.assocs)

-- the box that a view shows, where there is one
abbrev pub ipco_in : Option BoxView → Option BoxAt
ipco_in None = None
ipco_in (Some view) = Some (box_of view)
