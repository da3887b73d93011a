-- The bytes of an item: `iloc`, construction methods 0 to 2 (ItemLocationBox of ISO/IEC 14496-12).
use Rattle.std.specs.Prelude.{ℕ, ◌+◌, List, [], ◌∷◌, ◌++◌, length, take, drop, map, ◌==◌, nat_lt, Option, Some, None, if◌then◌else◌}
use Rattle.std.specs.Option.{option_map}
use Rattle.hf_base.specs.declared.loc.Extent.{Extent}
use Rattle.hf_base.specs.Located.{Located, source_of}
use Rattle.hf_base.specs.Levels.{by_levels, told}

-- method 0 counts in the file, method 1 in `idat`, method 2 in another item
abbrev pub by_method : {A : Type 0} → ℕ → A → A → A → A
by_method method in_file in_idat in_item = if method == 2 then in_item else if method == 1 then in_idat else in_file

-- what an extent takes of its source: the whole of it where its length is 0, or so many bytes from a place on, which must
-- lie in it
abbrev pub piece_of : ℕ → Extent → Option (List ℕ) → Option (List ℕ)
piece_of base e None = None
piece_of base e (Some source) =
    if e.length == 0 then Some source
    else if nat_lt (length source) (base + e.offset + e.length) then None
    else Some (take e.length (drop (base + e.offset) source))

-- the pieces, end to end, where each is there
abbrev pub joined_pieces : List (Option (List ℕ)) → Option (List ℕ)
joined_pieces [] = Some []
joined_pieces (None ∷ ps) = None
joined_pieces (Some p ∷ ps) = option_map (λ (rest : List ℕ). p ++ rest) (joined_pieces ps)

-- the piece of an extent, where the bytes of the other items are known
abbrev pub piece_in : List ℕ → Option (List ℕ) → List Located → (Located → Option (List ℕ)) → Located → Extent → Option (List ℕ)
piece_in F idat items other r e = piece_of r.base e (by_method r.method (Some F) idat (told None other (source_of items r e)))

-- the pieces of the extents in their order; an item without an extent has no bytes
abbrev pub bytes_in : List ℕ → Option (List ℕ) → List Located → (Located → Option (List ℕ)) → Located → Option (List ℕ)
bytes_in F idat items other r = joined_pieces (map (piece_in F idat items other r) r.extents)

-- with so many levels of items that lie in items; with none an extent of method 2 has no piece
abbrev pub bytes_at : ℕ → List ℕ → Option (List ℕ) → List Located → Located → Option (List ℕ)
bytes_at levels F idat items r = by_levels None (bytes_in F idat items) levels r

-- with as many levels as there are items: so the bytes are there only where unfolding ends
unfoldable pub bytes_of : List ℕ → Option (List ℕ) → List Located → Located → Option (List ℕ)
bytes_of F idat items r = bytes_at (length items) F idat items r
