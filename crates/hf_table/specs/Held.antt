-- The properties of items.
use Rattle.std.specs.Prelude.{ℕ, nat_eq, not, ◌&&◌, Bool, List, map, filter}
use Rattle.std.specs.List.{flat_map, list_any}
use Rattle.hf_base.specs.declared.four.FourCc.{FourCc}
use Rattle.hf_box.specs.Walk.{is_kind}
use Rattle.hf_prop.specs.declared.prop.Prop.{Prop}
use Rattle.hf_prop.specs.declared.held.Held.{Held}

-- the properties, without their essential marks
abbrev pub props_in : List Held → List Prop
props_in held = map (λ (h : Held). h.prop) held

abbrev pub is_of : FourCc → Held → Bool
is_of kind h = is_kind h.prop.kind kind

-- those of one type
abbrev pub of_kind : FourCc → List Held → List Prop
of_kind kind held = props_in (filter (is_of kind) held)

-- the others, with their essential marks
abbrev pub without_kind : FourCc → List Held → List Held
without_kind kind held = filter (λ (h : Held). not (is_of kind h)) held

abbrev pub is_optional_of : FourCc → Held → Bool
is_optional_of kind h = is_of kind h && not h.essential

-- those of one type that are not essential
abbrev pub optional_of : FourCc → List Held → List Prop
optional_of kind held = props_in (filter (is_optional_of kind) held)

-- the others, with their essential marks
abbrev pub without_optional : FourCc → List Held → List Held
without_optional kind held = filter (λ (h : Held). not (is_optional_of kind h)) held

-- all properties, one list after the other
abbrev pub all_props : List (List Prop) → List Prop
all_props lists = flat_map (λ (ps : List Prop). ps) lists

-- whether an id is one of these
abbrev pub is_among : List ℕ → ℕ → Bool
is_among ids id = list_any (nat_eq id) ids

-- those whose id, told by id_of, is one of these
abbrev pub listed : {A : Type 0} → (A → ℕ) → List ℕ → List A → List A
listed id_of ids items = filter (λ i. is_among ids (id_of i)) items

-- those whose id, told by id_of, is none of these
abbrev pub others : {A : Type 0} → (A → ℕ) → List ℕ → List A → List A
others id_of ids items = filter (λ i. not (is_among ids (id_of i))) items

-- the properties, told by props_of, of those whose id is none of these
abbrev pub props_of_others : {A : Type 0} → (A → ℕ) → (A → List Prop) → List ℕ → List A → List Prop
props_of_others id_of props_of ids items = flat_map props_of (others id_of ids items)
