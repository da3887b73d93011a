-- How long the boxes of items are that have an id and properties alone.
use Rattle.std.proofs.Common.{◌≡◌, ℕ, ◌+◌, ◌*◌, ◌≤◌, Bool, true, false, List, [], ◌∷◌, length, map, length-append, refl, ap, arith, inl, inr}
use Rattle.std.specs.List.{AllByRecursion, flat_map, filter}
use Rattle.std.proofs.lemmas.Bool.{cases_Bool}
use Rattle.std.proofs.lemmas.List.{length-map}
use Rattle.hf_base.specs.declared.four.FourCc.{FourCc}
use Rattle.hf_box.specs.Head.{box_len, box}
use Rattle.hf_box.specs.Literals.{four}
use Rattle.hf_box.specs.Written.{bit, id_width}
use Rattle.hf_head.specs.Hdlr.{hdlr_body}
use Rattle.hf_head.specs.Pitm.{pitm_body}
use Rattle.hf_store.specs.Store.{Prop, Held, Item, ItemStore}
use Rattle.hf_store.specs.Table.{props_of, table_of}
use Rattle.hf_store.specs.Derived.{input_pairs}
use Rattle.hf_info.specs.Infe.{infe_body, infe_box}
use Rattle.hf_info.specs.Iinf.{iinf_body}
use Rattle.hf_links.specs.Grpl.{grpl_body}
use Rattle.hf_links.specs.Iref.{iref_body}
use Rattle.hf_prop.specs.Ipma.{ipma_entry, ipma_body}
use Rattle.hf_prop.specs.Iprp.{is_long_table, ipco_body, iprp_body}
use Rattle.hf_store.specs.Picks.{pick_of}
use Rattle.hf_store.specs.Layout.{is_wide, info_of, infos_of, all_boxes, assoc_of, assocs_of, iprp_of, has_props, in_idat, with_bytes, bytes_in, box_if_any, meta_front}
use Rattle.hf_store.specs.Valid.{body_sum, meta_len}
use Rattle.hf_store.proofs.BoxLengths.{length-box, box_len-le}
use Rattle.hf_store.proofs.FieldLengths.{strings_len, length-hdlr_body, length-pitm_body, length-infe_body, length-iinf_body, length-ipma_entry, length-ipma_body, length-meta_front}
use Rattle.hf_store.proofs.Lengths.{meta_body_len, meta_len-is}
use Rattle.hf_worked.proofs.Holders.{IsBare}

-- ---- what is left out

-- where nothing is listed
no_box : {A : Type 0} (kind : FourCc) (body : List A → List ℕ) → length (box_if_any kind body []) ≡ 0
unfolding box_if_any
no_box kind body = refl

pub no_inputs-bare : (is : List Item) → AllByRecursion IsBare is → input_pairs is ≡ []
no_inputs-bare [] bare = refl
no_inputs-bare (i ∷ is) bare = rw bare.0.refs (no_inputs-bare is bare.1)

pub no_bytes-bare : (is : List Item) → AllByRecursion IsBare is → body_sum is ≡ 0
unfolding body_sum
no_bytes-bare [] bare = refl
no_bytes-bare (i ∷ is) bare = rw bare.0.bytes (no_bytes-bare is bare.1)

no_references-bare : (is : List Item) → AllByRecursion IsBare is → all_boxes is ≡ []
no_references-bare [] bare = refl
no_references-bare (i ∷ is) bare = rw bare.0.refs (no_references-bare is bare.1)

none_with_bytes : (is : List Item) → AllByRecursion IsBare is → with_bytes is ≡ []
none_with_bytes [] bare = refl
none_with_bytes (i ∷ is) bare = rw bare.0.bytes (none_with_bytes is bare.1)

not_in_idat-bare : (i : Item) → IsBare i → in_idat i ≡ false
not_in_idat-bare i bare = rw bare.kind refl

none_in_idat-bare : (is : List Item) → AllByRecursion IsBare is → filter in_idat is ≡ []
none_in_idat-bare [] bare = refl
none_in_idat-bare (i ∷ is) bare = rw (not_in_idat-bare i bare.0) (none_in_idat-bare is bare.1)

-- ---- what is there

le-width : (wide : Bool) → id_width wide ≤ 4
le-width true = omega arith
le-width false = omega arith

infe_body-bare : (wide : Bool) (i : Item) → IsBare i → length (infe_body wide (info_of i)) ≤ 15
unfolding strings_len
infe_body-bare wide i bare =
    let strings : strings_len (info_of i) ≡ 0 = rw bare.kind refl in
    let four : length i.kind.0 ≡ 4 = rw bare.kind refl in
    omega (arith, length-infe_body wide (info_of i) four, strings, ap length bare.name, le-width wide)

infes-bare : (wide : Bool) (is : List Item) → AllByRecursion IsBare is → length (flat_map (infe_box wide) (infos_of is)) ≤ length is * 31
infes-bare wide [] bare = omega arith
infes-bare wide (i ∷ is) bare =
    omega (arith, length-append (infe_box wide (info_of i)) (flat_map (infe_box wide) (infos_of is)), length-box (four "infe") (infe_body wide (info_of i)) refl, box_len-le (length (infe_body wide (info_of i))), infe_body-bare wide i bare.0, infes-bare wide is bare.1)

-- an association has two bytes at most
at_most_double : (b : Bool) (n : ℕ) → n * (1 + bit b) ≤ n * 2
at_most_double true n = omega arith
at_most_double false n = omega arith

entries-bare : (wide two_bytes : Bool) (table : List Prop) (is : List Item) → length (flat_map (ipma_entry wide two_bytes) (assocs_of table is)) ≤ length is * 5 + length (flat_map props_of is) * 2
entries-bare wide two_bytes table [] = omega arith
entries-bare wide two_bytes table (i ∷ is) =
    let rest = entries-bare wide two_bytes table is in
    let props = length-append (props_of i) (flat_map props_of is) in
    let more = length-map i.props (λ (h : Held). h.prop) in
    let picks = length-map i.props (pick_of table) in
    elim (cases_Bool (has_props i)) [
      | inl some ↦
          rw some (omega (arith, length-append (ipma_entry wide two_bytes (assoc_of table i)) (flat_map (ipma_entry wide two_bytes) (assocs_of table is)), length-ipma_entry wide two_bytes (assoc_of table i), at_most_double two_bytes (length (map (pick_of table) i.props)), le-width wide, rest, props, more, picks))
      | inr none ↦ rw none (omega (arith, rest, props))
    ]

-- ---- the whole

pub meta-bare : (s : ItemStore) → AllByRecursion IsBare s.items → s.groups ≡ [] → length s.items ≤ 65536 → length (flat_map props_of s.items) ≤ 32767 → length (ipco_body (table_of s)) ≤ 589806 → meta_len s ≤ 1073741824
unfolding meta_body_len iprp_body
meta-bare s bare no_groups few few_props few_kinds =
    let wide = is_wide s.items in
    let assocs = assocs_of (table_of s) s.items in
    let two_bytes = is_long_table (table_of s) in
    let iref : length (box_if_any (four "iref") (iref_body wide) (all_boxes s.items)) ≡ 0 = rw (no_references-bare s.items bare) (no_box (four "iref") (iref_body wide)) in
    let grpl : length (box_if_any (four "grpl") grpl_body s.groups) ≡ 0 = rw no_groups (no_box (four "grpl") grpl_body) in
    let idat : length (box_if_any (four "idat") bytes_in (filter in_idat s.items)) ≡ 0 = rw (none_in_idat-bare s.items bare) (no_box (four "idat") bytes_in) in
    let iprp : length (iprp_body wide (iprp_of s)) ≤ 16 + length (ipco_body (table_of s)) + (16 + (8 + (length s.items * 5 + length (flat_map props_of s.items) * 2))) =
    omega (arith, length-append (box (four "ipco") (ipco_body (table_of s))) (box (four "ipma") (ipma_body wide two_bytes assocs)), length-box (four "ipco") (ipco_body (table_of s)) refl, length-box (four "ipma") (ipma_body wide two_bytes assocs) refl, box_len-le (length (ipco_body (table_of s))), box_len-le (length (ipma_body wide two_bytes assocs)), length-ipma_body wide two_bytes assocs, entries-bare wide two_bytes (table_of s) s.items)
    in
    let iinf : length (iinf_body wide (infos_of s.items)) ≤ 8 + length s.items * 31 = omega (arith, length-iinf_body wide (infos_of s.items), le-width wide, infes-bare wide s.items bare) in
    let located : length (with_bytes s.items) ≡ 0 = ap length (none_with_bytes s.items bare) in
    let iloc : box_len (6 + id_width wide + length (with_bytes s.items) * (6 + id_width wide + (8 + 8))) ≤ 26 = rw located (omega (arith, box_len-le (6 + id_width wide + 0 * (6 + id_width wide + (8 + 8))), le-width wide)) in
    let front : length (meta_front s) ≤ 10000000 =
    omega (arith, length-meta_front s, box_len-le (length hdlr_body), length-hdlr_body, box_len-le (length (pitm_body wide s.primary)), length-pitm_body wide s.primary, le-width wide, box_len-le (length (iinf_body wide (infos_of s.items))), iinf, iref, box_len-le (length (iprp_body wide (iprp_of s))), iprp, grpl, idat, few, few_props, few_kinds)
    in
    omega (arith, meta_len-is s, box_len-le (meta_body_len 8 s), front, iloc)
