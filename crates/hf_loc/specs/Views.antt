-- The values of the reader, as definitions see them.
use Rattle.std.specs.Prelude.{◌≡◌, ℕ, if◌then◌else◌}
use Rattle.hf_base.specs.Entries.{has_id}
use Rattle.hf_box.specs.Written.{id_width}
use Rattle.hf_loc.specs.declared.widths.Width.{Width}
use Rattle.hf_loc.specs.declared.widths.Width.TheVariants.{Zero, Four, Eight}
use Rattle.hf_loc.specs.declared.widths.Widths.{Widths as Kept}
use Rattle.hf_loc.specs.declared.fields.Fields.{Fields as Read}
use Rattle.hf_loc.specs.declared.table.Table.{Table}
use Rattle.hf_loc.specs.Iloc.{Widths, Fields, loc_ids, loc_rows}

-- how many bytes a width is
abbrev pub width_of : Width → ℕ
width_of Zero = 0
width_of Four = 4
width_of Eight = 8

abbrev pub widths_in : Kept → Widths
widths_in w = record {
  id = id_width w.wide;
  method = if w.method then 2 else 0;
  offset = width_of w.offset;
  length = width_of w.length;
  base = width_of w.base;
  index = width_of w.index;
}

abbrev pub fields_in : Read → Fields
fields_in f = record { id = f.id; method = f.method; dref = f.dref; base = f.base; count = f.count }

-- what is counted and looked up is that of the entries
pub record IsTable (t : Table) : Type 0 where
  pub rows : t.rows ≡ loc_rows t.locs.items
  pub ids : (id : ℕ) → has_id id t.ids ≡ has_id id (loc_ids t.locs.items)
