-- Items by their places among the ids.
use Rattle.std.specs.Prelude.{◌≡◌, ℕ, suc, Bool, IsTrue, ◌&&◌, List, [], ◌∷◌, ◌++◌, map, ◌==◌, Option, if◌then◌else◌}
use Rattle.std.specs.List.{position, filter_map, list_any}
use Rattle.std.specs.Option.{option_map, option_and_then, is_none}
use Rattle.hf_base.specs.Entries.{are_distinct}
use Rattle.hf_base.specs.declared.loc.Extent.{Extent}
use Rattle.hf_base.specs.declared.loc.Loc.{Loc}
use Rattle.hf_base.specs.Located.{Located, id_at}

-- no two entries have one id
abbrev pub HaveDistinctIds : List Loc → Type 0
HaveDistinctIds locs = IsTrue (are_distinct (map (λ (l : Loc). l.id) locs))

-- these are the items with these ids
abbrev pub AreAt : List ℕ → List Located → Type 0
AreAt ids items = map (λ (r : Located). r.id) items ≡ ids

-- the place of an id
abbrev pub id_place : List ℕ → ℕ → Option ℕ
id_place ids id = position (λ x. x == id) ids

-- the place of the item that an extent of method 2 takes its bytes from
abbrev pub place_of : List ℕ → Located → Extent → Option ℕ
place_of ids r e = option_and_then (id_place ids) (id_at e.index r.sources)

-- an extent of method 2 has no such item
abbrev pub has_bad_place : List ℕ → Located → Bool
has_bad_place ids r = (r.method == 2) && list_any (λ (e : Extent). is_none (place_of ids r e)) r.extents

-- the item's place with those of the items that it takes bytes from
abbrev pub item_links : List ℕ → ℕ → Located → List (ℕ × ℕ)
item_links ids i r = if r.method == 2 then filter_map (λ (e : Extent). option_map (λ (k : ℕ). (i, k)) (place_of ids r e)) r.extents else []

-- the same of these items, of which the first has place i
unfoldable pub links_from : List ℕ → ℕ → List Located → List (ℕ × ℕ)
links_from ids i [] = []
links_from ids i (r ∷ rs) = item_links ids i r ++ links_from ids (suc i) rs
