-- Whether the unfolding of items into those that they lie in ends, and how many leaves and bytes an item has by what its
-- extents state. Leaves are this project's own.
use Rattle.std.specs.Prelude.{ℕ, Bool, true, false, List, length, map, ◌==◌, sum, Option, Some, None, if◌then◌else◌}
use Rattle.std.specs.List.{list_all}
use Rattle.hf_base.specs.declared.loc.Extent.{Extent}
use Rattle.hf_base.specs.Located.{Located, source_of}
use Rattle.hf_base.specs.Levels.{by_levels, told}
use Rattle.hf_base.specs.BytesOf.{by_method}

-- unfolding ends at an extent in the file or in `idat`, and where it ends at the item that the extent takes its bytes from
abbrev pub ends_in : List Located → (Located → Bool) → Located → Bool
ends_in items other r = list_all (λ (e : Extent). by_method r.method true true (told false other (source_of items r e))) r.extents

-- with as many levels as there are items
unfoldable pub ends : List Located → Located → Bool
ends items r = by_levels false (ends_in items) (length items) r

-- an extent in the file or in `idat` is one leaf, and one in another item has the leaves of that item
abbrev pub leaves_in : List Located → (Located → ℕ) → Located → ℕ
leaves_in items other r = sum (map (λ (e : Extent). by_method r.method 1 1 (told 0 other (source_of items r e))) r.extents)

-- how many leaves an item has; 0 where unfolding does not end
unfoldable pub leaves_of : List Located → Located → ℕ
leaves_of items r = by_levels 0 (leaves_in items) (length items) r

-- how many bytes the source of an extent has, in a file of len bytes with an `idat` of so many
abbrev pub source_size : ℕ → ℕ → List Located → (Located → ℕ) → Located → Extent → ℕ
source_size len inner items other r e = by_method r.method len inner (told 0 other (source_of items r e))

-- how many bytes an extent has: those that it states, or those of its whole source
abbrev pub extent_size : ℕ → ℕ → List Located → (Located → ℕ) → Located → Extent → ℕ
extent_size len inner items other r e = if e.length == 0 then source_size len inner items other r e else e.length

-- those of all extents
abbrev pub size_in : ℕ → ℕ → List Located → (Located → ℕ) → Located → ℕ
size_in len inner items other r = sum (map (extent_size len inner items other r) r.extents)

-- how many bytes an item has; 0 where unfolding does not end
unfoldable pub size_of : ℕ → ℕ → List Located → Located → ℕ
size_of len inner items r = by_levels 0 (size_in len inner items) (length items) r

-- how many bytes an `idat` has, if there is one
abbrev pub inner_size : Option (List ℕ) → ℕ
inner_size None = 0
inner_size (Some idat) = length idat
