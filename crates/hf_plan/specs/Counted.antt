-- The lengths of boxes by what is counted of a store.
use Rattle.std.specs.Prelude.{ℕ, Bool}
use Rattle.hf_loc.specs.Iloc.{offset_width}
use Rattle.hf_store.specs.declared.tally.Counts.{Counts}
use Rattle.hf_store.specs.Sizes.{short_inner, iinf_size, iref_size, ipco_size, ipma_size, iprp_size, grpl_size, idat_size, iloc_size, meta_size_by, mdat_size}
use Rattle.hf_plan.specs.declared.sizes.Sizes.{Sizes}

-- with offsets of eight bytes or of four, ids of four or of two, so many distinct properties, and so many bytes of their boxes
abbrev pub sizes_by : Bool → Bool → ℕ → ℕ → Counts → Sizes
sizes_by long wide kinds props c =
    let inner = short_inner wide props c in
    record {
      meta = meta_size_by wide (offset_width long) kinds c inner;
      iinf = iinf_size wide inner;
      iref = iref_size c inner;
      iprp = iprp_size wide kinds c inner;
      ipco = ipco_size inner;
      ipma = ipma_size wide kinds c;
      grpl = grpl_size c inner;
      idat = idat_size c;
      iloc = iloc_size wide (offset_width long) c;
      mdat = mdat_size c;
    }
