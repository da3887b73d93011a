-- What a plan says follows from the counts of the store.
use Rattle.std.proofs.Common.{◌≡◌, ℕ, ◌+◌, ◌≤◌, Bool, cond, Some, None, length, sym, refl, ap, ◌∙◌, arith}
use Rattle.std.specs.Prelude.{slice_get}
use Rattle.hf_box.specs.Head.{box_len}
use Rattle.hf_loc.specs.Iloc.{offset_width}
use Rattle.hf_store.specs.Counts.{counts_of, counts_before}
use Rattle.hf_store.specs.declared.tally.Counts.{Counts}
use Rattle.hf_store.specs.Layout.{own, is_wide, has_bytes, laid}
use Rattle.hf_store.specs.Offsets.{offset_by}
use Rattle.hf_store.specs.Sizes.{short_props, file_size_by, counted_inner}
use Rattle.hf_store.specs.Store.{Item, ItemStore}
use Rattle.hf_store.specs.Table.{table_of}
use Rattle.hf_store.specs.Valid.{Valid}
use Rattle.hf_store.proofs.BoxLengths.{le-box_len}
use Rattle.hf_store.proofs.MetaCounts.{valid_sizes_are_counted}
use Rattle.hf_store.proofs.Offsets.{offsets_are_counted}
use Rattle.hf_plan.specs.Counted.{sizes_by}
use Rattle.hf_plan.specs.declared.sizes.Sizes.{Sizes}
use Rattle.hf_plan.specs.Plan.{start_of, sizes_of}

-- the whole length of each box
pub sizes-counted : (long : Bool) (s : ItemStore) → Valid s
    → sizes_of long s ≡ sizes_by long (is_wide s.items) (length (table_of s)) (short_props (table_of s)) (counts_of s)
unfolding sizes_of
sizes-counted long s valid =
    let sizes = valid_sizes_are_counted s valid in
    let meta = sizes.meta own (offset_width long) 0 in
    let iloc = sizes.iloc own (offset_width long) 0 in
    rw (meta, sizes.iinf, sizes.iref, sizes.iprp, sizes.ipco, sizes.ipma, sizes.grpl, sizes.idat, iloc, sizes.mdat) refl

-- the same by numbers that are equal
pub sizes-told : (long : Bool) (s : ItemStore) (wide : Bool) (kinds props : ℕ) (c : Counts) → Valid s → wide ≡ is_wide s.items
    → kinds ≡ length (table_of s) → props ≡ short_props (table_of s) → c ≡ counts_of s → sizes_by long wide kinds props c ≡ sizes_of long s
sizes-told long s wide kinds props c valid e f g h =
    (λ j. sizes_by long (e j) (f j) (g j) (h j)) ∙ sym (sizes-counted long s valid)

-- the whole file
pub total-counted : (w : ℕ) (s : ItemStore) → Valid s
    → length (laid own w 0 s) ≡ file_size_by (is_wide s.items) w (length (table_of s)) s.brands (counts_of s) (counted_inner s)
total-counted w s valid = (valid_sizes_are_counted s valid).file w 0 valid.brands.major

-- by the lengths of its boxes
pub total-told : (long : Bool) (s : ItemStore) (sizes : Sizes) (total : ℕ) → Valid s → sizes ≡ sizes_of long s
    → total ≡ box_len (8 + length s.brands.compatible) + sizes.meta + sizes.mdat → total ≡ length (laid own (offset_width long) 0 s)
total-told long s sizes total valid are sum =
    let is = are ∙ sizes-counted long s valid in
    omega (arith, sum, ap (λ (x : Sizes). x.meta) is, ap (λ (x : Sizes). x.mdat) is, total-counted (offset_width long) s valid)

-- the file has room for `mdat`
pub room-counted : (w : ℕ) (s : ItemStore) → Valid s → (counts_of s).mdat ≤ length (laid own w 0 s)
room-counted w s valid = omega (arith, total-counted w s valid, le-box_len (counts_of s).mdat)

-- the offset that is written for an item
pub start-counted : (total : ℕ) (s : ItemStore) (k : ℕ) (i : Item) → Valid s → (counts_of s).mdat ≤ total → slice_get s.items k ≡ Some i
    → start_of own total s.items i ≡ cond (has_bytes i.bytes) (Some (offset_by total (counts_of s).mdat (counts_before k s.items) i)) None
start-counted total s k i valid room here = ap (λ n. cond (has_bytes i.bytes) (Some n) None) (offsets_are_counted s total k i valid.ids_rise room here)
