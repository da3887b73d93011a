-- The distinct properties of a list of properties, in the order of their first use: the boxes of `ipco`
-- (ItemPropertyContainerBox of ISO/IEC 23008-12) in a canonical file.
use Rattle.std.specs.Prelude.{ℕ, suc, ◌+◌, Bool, ◌&&◌, List, [], ◌∷◌, ◌++◌, length, fold, count_by, sum_by, if◌then◌else◌}
use Rattle.std.specs.List.{list_any}
use Rattle.std.specs.Str.{bytes_eq}
use Rattle.hf_box.specs.Walk.{is_kind}
use Rattle.hf_prop.specs.declared.prop.Prop.{Prop}

-- properties are told apart by type and body
abbrev pub same_prop : Prop → Prop → Bool
same_prop p q = is_kind p.kind q.kind && bytes_eq p.body q.body

-- the earlier ones, and this one where it is not among them
abbrev pub with_prop : List Prop → Prop → List Prop
with_prop earlier p = if list_any (same_prop p) earlier then earlier else earlier ++ p ∷ []

-- the distinct properties, in the order of their first use
abbrev pub table : List Prop → List Prop
table ps = fold with_prop [] ps

-- the number of a property: its place in the table, counted from 1. One that the table lacks would get the number of
-- the last one; the table of some properties has each of them
abbrev pub number_of : Prop → List Prop → ℕ
number_of p [] = 0
number_of p (q ∷ qs) = if same_prop p q then 1 else suc (number_of p qs)

-- how many places of a list have a property
abbrev pub places_of : Prop → List Prop → ℕ
places_of p ps = count_by (same_prop p) ps

-- the bytes of a property's box: its header, and its body
abbrev pub prop_size : Prop → ℕ
prop_size p = 8 + length p.body

-- the bytes of the boxes of these properties
abbrev pub size_sum : List Prop → ℕ
size_sum ps = sum_by prop_size ps
