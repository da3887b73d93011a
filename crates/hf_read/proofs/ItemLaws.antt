-- The items of a file: they are those of the entries of `iinf`, each with the bytes at its places.
use Rattle.std.proofs.Common.{◌≡◌, ℕ, ◌≤◌, List, [], ◌∷◌, length, map, sum, Option, refl, sym, ap, subst, ◌∙◌, arith, inl, inr}
use Rattle.std.specs.Prelude.{unwrap_or}
use Rattle.std.specs.List.{AllZip}
use Rattle.std.proofs.lemmas.List.Sums.{sum_by-cons}
use Rattle.hf_base.specs.Counts.{leaves_of, size_of, inner_size}
use Rattle.hf_base.specs.Located.{Located, located_item}
use Rattle.hf_base.specs.Members.{IsIn}
use Rattle.hf_base.specs.Placed.{IsPlaced, ArePlaced}
use Rattle.hf_base.specs.declared.limits.TheConstants.{BODY, PIECES}
use Rattle.hf_base.proofs.Converse.{bytes_size}
use Rattle.hf_info.specs.Infe.{Info}
use Rattle.hf_info.specs.Iinf.{info_ids}
use Rattle.hf_order.proofs.Members.{in_map, from_map}
use Rattle.hf_store.specs.Store.{Item, ids_of}
use Rattle.hf_store.specs.Valid.{body_sum}
use Rattle.hf_store.proofs.Bodies.{body_sum-cons}
use Rattle.hf_read.specs.Denotes.{IsItemOf}
use Rattle.hf_read.specs.Reading.{item_of, item_at}
use Rattle.hf_read.specs.Tables.{Tables, infos_by_id, located_in, items_in}

-- ---- the items with their places

located_each : (t : Tables) (infos : List Info) → map (located_item t.locs t.links) (info_ids infos) ≡ map (located_in t) infos
located_each t [] = refl
located_each t (info ∷ infos) = ap (λ (l : List Located). located_in t info ∷ l) (located_each t infos)

pub items_are : (t : Tables) → items_in t ≡ map (located_in t) (infos_by_id t.infos)
items_are t = located_each t (infos_by_id t.infos)

-- ---- what the items are

pub ids_zip : (F : List ℕ) (idat : Option (List ℕ)) (t : Tables) (infos : List Info) (is : List Item) → AllZip (IsItemOf F idat t) infos is → ids_of is ≡ info_ids infos
ids_zip F idat t [] [] z = refl
ids_zip F idat t [] (i ∷ is) z = absurd z
ids_zip F idat t (info ∷ infos) [] z = absurd z
ids_zip F idat t (info ∷ infos) (i ∷ is) z =
    let first : i.id ≡ info.id = ap (λ (k : Item). k.id) z.0.is in
    let others = ids_zip F idat t infos is z.1 in
    ap (λ (n : ℕ). n ∷ ids_of is) first ∙ ap (λ (l : List ℕ). info.id ∷ l) others

pub zip_items : (F : List ℕ) (idat : Option (List ℕ)) (t : Tables) (infos : List Info) (is : List Item) → AllZip (IsItemOf F idat t) infos is → is ≡ map (item_at F idat t) infos
zip_items F idat t [] [] z = refl
zip_items F idat t [] (i ∷ is) z = absurd z
zip_items F idat t (info ∷ infos) [] z = absurd z
zip_items F idat t (info ∷ infos) (i ∷ is) z =
    let first : i ≡ item_at F idat t info = z.0.is ∙ ap (λ (o : Option (List ℕ)). item_of t info (unwrap_or o [])) (sym z.0.placed.are) in
    let others = zip_items F idat t infos is z.1 in
    ap (λ (k : Item). k ∷ is) first ∙ ap (λ (l : List Item). item_at F idat t info ∷ l) others

pub items_zip : (F : List ℕ) (idat : Option (List ℕ)) (t : Tables) (infos : List Info) → ((info : Info) → IsIn info infos → IsPlaced F idat (items_in t) (located_in t info))
    → AllZip (IsItemOf F idat t) infos (map (item_at F idat t) infos)
items_zip F idat t [] each = tt
items_zip F idat t (info ∷ infos) each =
    let placed = each info (inl refl) in
    let one : IsItemOf F idat t info (item_at F idat t info) = record {
      placed = placed;
      is = ap (λ (o : Option (List ℕ)). item_of t info (unwrap_or o [])) placed.are;
    } in
    (one, items_zip F idat t infos (λ other h. each other (inr h)))

pub zip_placed : (F : List ℕ) (idat : Option (List ℕ)) (t : Tables) (infos : List Info) (is : List Item) → AllZip (IsItemOf F idat t) infos is
    → (info : Info) → IsIn info infos → IsPlaced F idat (items_in t) (located_in t info)
zip_placed F idat t [] is z info h = absurd h
zip_placed F idat t (first ∷ infos) [] z info h = absurd z
zip_placed F idat t (first ∷ infos) (i ∷ is) z info (inl e) = subst (λ (k : Info). IsPlaced F idat (items_in t) (located_in t k)) e z.0.placed
zip_placed F idat t (first ∷ infos) (i ∷ is) z info (inr h) = zip_placed F idat t infos is z.1 info h

-- an item of the store is that of an entry
pub item_entry : (F : List ℕ) (idat : Option (List ℕ)) (t : Tables) (infos : List Info) (is : List Item) → AllZip (IsItemOf F idat t) infos is
    → (i : Item) → IsIn i is → (info : Info) × IsIn info infos × IsItemOf F idat t info i
item_entry F idat t [] [] z i h = absurd h
item_entry F idat t [] (j ∷ js) z i h = absurd z
item_entry F idat t (info ∷ infos) [] z i h = absurd h
item_entry F idat t (info ∷ infos) (j ∷ js) z i (inl e) = (info, inl refl, subst (λ (k : Item). IsItemOf F idat t info k) e z.0)
item_entry F idat t (info ∷ infos) (j ∷ js) z i (inr h) = let r = item_entry F idat t infos js z.1 i h in (r.0, inr r.1, r.2)

-- ---- how many bytes they have

no_body : body_sum [] ≡ 0
unfolding body_sum
no_body = refl

abbrev sizes : List ℕ → Option (List ℕ) → Tables → List Info → ℕ
sizes F idat t infos = sum (map (size_of (length F) (inner_size idat) (items_in t)) (map (located_in t) infos))

sizes_zip : (F : List ℕ) (idat : Option (List ℕ)) (t : Tables) (infos : List Info) (is : List Item) → AllZip (IsItemOf F idat t) infos is → body_sum is ≡ sizes F idat t infos
sizes_zip F idat t [] [] z = no_body
sizes_zip F idat t [] (i ∷ is) z = absurd z
sizes_zip F idat t (info ∷ infos) [] z = absurd z
sizes_zip F idat t (info ∷ infos) (i ∷ is) z =
    let size = size_of (length F) (inner_size idat) (items_in t) in
    let bytes : length i.bytes ≡ size (located_in t info) = ap (λ (k : Item). length k.bytes) z.0.is ∙ bytes_size F idat (items_in t) (located_in t info) z.0.placed.bytes z.0.placed.are in
    let others = sizes_zip F idat t infos is z.1 in
    let all = sum_by-cons (λ (n : ℕ). n) (size (located_in t info)) (map size (map (located_in t) infos)) in
    omega (arith, body_sum-cons i is, bytes, others, all)

lengths_zip : (F : List ℕ) (idat : Option (List ℕ)) (t : Tables) (infos : List Info) (is : List Item) → AllZip (IsItemOf F idat t) infos is
    → map (λ (i : Item). length i.bytes) is ≡ map (size_of (length F) (inner_size idat) (items_in t)) (map (located_in t) infos)
lengths_zip F idat t [] [] z = refl
lengths_zip F idat t [] (i ∷ is) z = absurd z
lengths_zip F idat t (info ∷ infos) [] z = absurd z
lengths_zip F idat t (info ∷ infos) (i ∷ is) z =
    let size = size_of (length F) (inner_size idat) (items_in t) in
    let first : length i.bytes ≡ size (located_in t info) = ap (λ (k : Item). length k.bytes) z.0.is ∙ bytes_size F idat (items_in t) (located_in t info) z.0.placed.bytes z.0.placed.are in
    let others = lengths_zip F idat t infos is z.1 in
    ap (λ (n : ℕ). n ∷ map (λ (k : Item). length k.bytes) is) first ∙ ap (λ (l : List ℕ). size (located_in t info) ∷ l) others

pub lengths_are : (F : List ℕ) (idat : Option (List ℕ)) (t : Tables) (is : List Item) → AllZip (IsItemOf F idat t) (infos_by_id t.infos) is
    → map (λ (i : Item). length i.bytes) is ≡ map (size_of (length F) (inner_size idat) (items_in t)) (items_in t)
lengths_are F idat t is z = lengths_zip F idat t (infos_by_id t.infos) is z ∙ ap (λ (l : List Located). map (size_of (length F) (inner_size idat) (items_in t)) l) (sym (items_are t))

pub body_is : (F : List ℕ) (idat : Option (List ℕ)) (t : Tables) (is : List Item) → AllZip (IsItemOf F idat t) (infos_by_id t.infos) is
    → body_sum is ≡ sum (map (size_of (length F) (inner_size idat) (items_in t)) (items_in t))
body_is F idat t is z = sizes_zip F idat t (infos_by_id t.infos) is z ∙ ap (λ (l : List Located). sum (map (size_of (length F) (inner_size idat) (items_in t)) l)) (sym (items_are t))

-- ---- all are placed

pub placed_each : (F : List ℕ) (idat : Option (List ℕ)) (t : Tables) → ArePlaced F idat (items_in t) → (info : Info) → IsIn info (infos_by_id t.infos) → IsPlaced F idat (items_in t) (located_in t info)
placed_each F idat t placed info h = placed.each (located_in t info) (subst (λ (l : List Located). IsIn (located_in t info) l) (sym (items_are t)) (in_map (located_in t) (infos_by_id t.infos) info h))

pub are_placed : (F : List ℕ) (idat : Option (List ℕ)) (t : Tables) (is : List Item) → AllZip (IsItemOf F idat t) (infos_by_id t.infos) is
    → sum (map (leaves_of (items_in t)) (items_in t)) ≤ PIECES → body_sum is ≤ BODY → ArePlaced F idat (items_in t)
are_placed F idat t is z few small = record {
  each = λ r h.
      let from = from_map (located_in t) (infos_by_id t.infos) r (subst (λ (l : List Located). IsIn r l) (items_are t) h) in
      subst (λ (l : Located). IsPlaced F idat (items_in t) l) from.2 (zip_placed F idat t (infos_by_id t.infos) is z from.0 from.1);
  few = few;
  small = subst (λ (n : ℕ). n ≤ BODY) (body_is F idat t is z) small;
}
