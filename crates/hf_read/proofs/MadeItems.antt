-- Items that are made of what was found for each of them.
use Rattle.std.proofs.Common.{◌≡◌, ℕ, List, [], ◌∷◌, map, ◌++◌, Option, Some, option_to_list, refl, sym, ap, ◌∙◌}
use Rattle.std.specs.Prelude.{unwrap_or}
use Rattle.std.proofs.lemmas.List.{append_assoc, map-append}
use Rattle.std.proofs.lemmas.Simd.{map-map}
use Rattle.hf_base.specs.BytesOf.{bytes_of}
use Rattle.hf_base.specs.Located.{Located, located_items}
use Rattle.hf_extent.specs.Bodies.{AreBytesOf}
use Rattle.hf_base.specs.declared.loc.Loc.{Loc}
use Rattle.hf_base.specs.declared.loc.RefBox.{RefBox}
use Rattle.hf_head.specs.Ftyp.{Brands}
use Rattle.hf_info.specs.Infe.{Info as Stated, infos_of}
use Rattle.hf_info.specs.Iinf.{info_ids}
use Rattle.hf_links.specs.Grpl.{Group, groups_of}
use Rattle.hf_pieces.specs.Bytes.{joined}
use Rattle.hf_prop.specs.declared.held.Held.{Held}
use Rattle.hf_prop.specs.declared.iprp.Iprp.{Iprp}
use Rattle.hf_store.specs.Seen.{item_of as item_seen, items_of}
use Rattle.hf_store.specs.Store.{Item, ItemStore}
use Rattle.hf_store.specs.declared.item.Item.{Item as View}
use Rattle.hf_store.specs.declared.item.RefList.{RefList}
use Rattle.hf_read.specs.Items.{item_with, items_with}
use Rattle.hf_read.specs.Kept.{kept_refs, kept_props, kept_groups}
use Rattle.hf_read.specs.Reading.{item_at, store_at}
use Rattle.hf_read.specs.Seen.{AreTablesOf}
use Rattle.hf_read.specs.Tables.{Tables, item_ids, items_in, located_in, infos_by_id}
use Rattle.hf_read.specs.declared.meta.MetaTables.{MetaTables}
use Rattle.hf_read.proofs.ItemLaws.{items_are}

-- ---- nothing is made where bytes, properties or references have run out

no_bodies : (infos : List Stated) (props : List (List Held)) (refs : List (List RefList)) → items_with infos [] props refs ≡ []
no_bodies [] props refs = refl
no_bodies (info ∷ infos) props refs = refl

no_props : (infos : List Stated) (bodies : List (List ℕ)) (refs : List (List RefList)) → items_with infos bodies [] refs ≡ []
no_props [] bodies refs = refl
no_props (info ∷ infos) [] refs = refl
no_props (info ∷ infos) (body ∷ bodies) refs = refl

no_refs : (infos : List Stated) (bodies : List (List ℕ)) (props : List (List Held)) → items_with infos bodies props [] ≡ []
no_refs [] bodies props = refl
no_refs (info ∷ infos) [] props = refl
no_refs (info ∷ infos) (body ∷ bodies) [] = refl
no_refs (info ∷ infos) (body ∷ bodies) (held ∷ props) = refl

pub bodies_end : (info : Stated) (infos : List Stated) (old new : List (List (List ℕ))) (props : List (List Held)) (refs : List (List RefList))
    → old ≡ [] → new ≡ [] → items_with (info ∷ infos) (map joined old) props refs ≡ items_with infos (map joined new) props refs
bodies_end info infos old new props refs was is =
    ap (λ (l : List (List (List ℕ))). items_with (info ∷ infos) (map joined l) props refs) was ∙ sym (no_bodies infos props refs)
    ∙ sym (ap (λ (l : List (List (List ℕ))). items_with infos (map joined l) props refs) is)

pub props_end : (info : Stated) (infos : List Stated) (bodies left : List (List ℕ)) (old new : List (List Held)) (refs : List (List RefList))
    → old ≡ [] → new ≡ [] → items_with (info ∷ infos) bodies old refs ≡ items_with infos left new refs
props_end info infos bodies left old new refs was is =
    ap (λ (l : List (List Held)). items_with (info ∷ infos) bodies l refs) was ∙ no_props (info ∷ infos) bodies refs
    ∙ sym (ap (λ (l : List (List Held)). items_with infos left l refs) is ∙ no_props infos left refs)

pub refs_end : (info : Stated) (infos : List Stated) (bodies left : List (List ℕ)) (props behind : List (List Held)) (old new : List (List RefList))
    → old ≡ [] → new ≡ [] → items_with (info ∷ infos) bodies props old ≡ items_with infos left behind new
refs_end info infos bodies left props behind old new was is =
    ap (λ (l : List (List RefList)). items_with (info ∷ infos) bodies props l) was ∙ no_refs (info ∷ infos) bodies props
    ∙ sym (ap (λ (l : List (List RefList)). items_with infos left behind l) is ∙ no_refs infos left behind)

-- ---- one turn of the loop

-- what was made before, and what is made of the rest, where at most one item is made of the first entry
pub item_more : (old : List View) (made : Option View) (new : List View) (some left whole : List Item) → new ≡ old ++ option_to_list made
    → some ≡ items_of (option_to_list made) ++ left → items_of old ++ some ≡ whole → items_of new ++ left ≡ whole
item_more old made new some left whole grown first so_far =
    ap (λ (l : List View). items_of l ++ left) grown
    ∙ ap (λ (l : List Item). l ++ left) (map-append item_seen old (option_to_list made))
    ∙ append_assoc (items_of old) (items_of (option_to_list made)) left
    ∙ sym (ap (λ (l : List Item). items_of old ++ l) first) ∙ so_far

-- ---- what is made is the items of the store

-- the properties, and the references, of entries
abbrev props_in : Tables → List Stated → List (List Held)
props_in t infos = map (kept_props t.iprp) (info_ids infos)

abbrev refs_in : Tables → List Stated → List (List RefList)
refs_in t infos = map (kept_refs (item_ids t.infos) t.links) (info_ids infos)

-- the bytes of an entry's item
abbrev bytes_in : List ℕ → Option (List ℕ) → Tables → Stated → Option (List ℕ)
bytes_in F idat t info = bytes_of F idat (items_in t) (located_in t info)

made_each : (F : List ℕ) (idat : Option (List ℕ)) (t : Tables) (infos : List Stated) (bodies : List (List (List ℕ)))
    → map (bytes_in F idat t) infos ≡ map (λ (pieces : List (List ℕ)). Some (joined pieces)) bodies
    → items_with infos (map joined bodies) (props_in t infos) (refs_in t infos) ≡ map (item_at F idat t) infos
made_each F idat t [] bodies are = refl
made_each F idat t (info ∷ infos) [] are = absurd cc
made_each F idat t (info ∷ infos) (body ∷ bodies) are =
    let first : bytes_in F idat t info ≡ Some (joined body) = cc in
    let others : map (bytes_in F idat t) infos ≡ map (λ (pieces : List (List ℕ)). Some (joined pieces)) bodies = cc in
    let item = λ (bytes : List ℕ). item_with info bytes (kept_props t.iprp info.id) (kept_refs (item_ids t.infos) t.links info.id) in
    let here : item (joined body) ≡ item_at F idat t info = sym (ap (λ (o : Option (List ℕ)). item (unwrap_or o [])) first) in
    ap (λ (i : Item). i ∷ items_with infos (map joined bodies) (props_in t infos) (refs_in t infos)) here
    ∙ ap (λ (l : List Item). item_at F idat t info ∷ l) (made_each F idat t infos bodies others)

pub made_items : (F : List ℕ) (idat : Option (List ℕ)) (t : Tables) (bodies : List (List (List ℕ))) → AreBytesOf F idat (items_in t) bodies
    → items_with (infos_by_id t.infos) (map joined bodies) (props_in t (infos_by_id t.infos)) (refs_in t (infos_by_id t.infos))
    ≡ map (item_at F idat t) (infos_by_id t.infos)
made_items F idat t bodies are =
    made_each F idat t (infos_by_id t.infos) bodies
    (sym (map-map (bytes_of F idat (items_in t)) (located_in t) (infos_by_id t.infos))
    ∙ sym (ap (λ (l : List Located). map (bytes_of F idat (items_in t)) l) (items_are t)) ∙ are)

-- ---- the tables of the code

pub located_is : (t : Tables) (ids : List ℕ) (locs : List Loc) (links : List RefBox) → ids ≡ item_ids t.infos → locs ≡ t.locs → links ≡ t.links
    → located_items ids locs links ≡ items_in t
located_is t ids locs links i l r =
    ap (λ (k : List ℕ). located_items k locs links) i ∙ ap (λ (k : List Loc). located_items (item_ids t.infos) k links) l
    ∙ ap (λ (k : List RefBox). located_items (item_ids t.infos) t.locs k) r

pub items_is : (F : List ℕ) (idat : Option (List ℕ)) (t : Tables) (m : MetaTables) (bodies : List (List (List ℕ))) (items : List Item)
    → AreTablesOf m t → AreBytesOf F idat (items_in t) bodies
    → items ≡ items_with (infos_of m.infos.items) (map joined bodies) (map (kept_props m.iprp) m.ids.items)
    (map (kept_refs m.ids.items m.links.items) m.ids.items) → items ≡ map (item_at F idat t) (infos_by_id t.infos)
items_is F idat t m bodies items are bytes i =
    let ids = item_ids t.infos in
    let held = map (kept_props m.iprp) m.ids.items in
    let lists = map (kept_refs m.ids.items m.links.items) m.ids.items in
    let props : held ≡ map (kept_props t.iprp) ids =
    ap (λ (v : Iprp). map (kept_props v) m.ids.items) are.iprp ∙ ap (map (kept_props t.iprp)) are.ids in
    let refs : lists ≡ map (kept_refs ids t.links) ids =
    ap (λ (l : List RefBox). map (kept_refs m.ids.items l) m.ids.items) are.links ∙ ap (λ (k : List ℕ). map (kept_refs k t.links) k) are.ids in
    i ∙ ap (λ (l : List Stated). items_with l (map joined bodies) held lists) are.infos
    ∙ ap (λ (l : List (List Held)). items_with (infos_by_id t.infos) (map joined bodies) l lists) props
    ∙ ap (λ (l : List (List RefList)). items_with (infos_by_id t.infos) (map joined bodies) (map (kept_props t.iprp) ids) l) refs
    ∙ made_items F idat t bodies bytes

pub store_is : (F : List ℕ) (idat : Option (List ℕ)) (brands : Brands) (primary : ℕ) (t : Tables) (m : MetaTables) (items : List Item)
    (groups : List Group) → AreTablesOf m t → items ≡ map (item_at F idat t) (infos_by_id t.infos) → groups ≡ kept_groups m.ids.items (groups_of m.groups.items)
    → record { brands = brands; primary = primary; items = items; groups = groups } ≡ store_at F idat brands primary t
unfolding store_at
store_is F idat brands primary t m items groups are i g =
    let groups' : groups ≡ kept_groups (item_ids t.infos) t.groups =
    g ∙ ap (λ (k : List ℕ). kept_groups k (groups_of m.groups.items)) are.ids ∙ ap (kept_groups (item_ids t.infos)) are.groups in
    let with : List Item → List Group → ItemStore = λ is gs. record { brands = brands; primary = primary; items = is; groups = gs } in
    ap (λ (is : List Item). with is groups) i ∙ ap (with (map (item_at F idat t) (infos_by_id t.infos))) groups'
