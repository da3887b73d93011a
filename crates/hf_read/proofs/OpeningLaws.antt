-- The chain of reading, as the code goes along it.
use Rattle.std.proofs.Common.{◌≡◌, true, ℕ, ◌≤◌, ◌<◌, List, [], ◌∷◌, length, map, Option, Result, Ok, Err, refl, sym, ap, subst, ◌∙◌}
use Rattle.std.specs.Prelude.{IfOk}
use Rattle.hf_base.specs.LocationFaults.{locations_fault}
use Rattle.hf_base.specs.Members.{IsIn, Rises}
use Rattle.hf_base.specs.Number.{IsBytes}
use Rattle.hf_base.specs.Reading.{◌>>=◌, Fails, Gives, IfUnfit, MatchOpen}
use Rattle.hf_base.specs.ReadingLaws.{bind_ok, ok_is}
use Rattle.hf_base.specs.declared.fault.OpenFault.{OpenFault}
use Rattle.hf_base.specs.declared.fault.OpenFault.TheVariants as errors
use Rattle.hf_base.specs.declared.fault.ReadRefusal.{ReadRefusal}
use Rattle.hf_base.specs.declared.fault.ReadRefusal.TheVariants.{NoMeta}
use Rattle.hf_base.specs.declared.kinds.TheConstants.{META}
use Rattle.hf_base.specs.declared.limits.TheConstants.{FILE}
use Rattle.hf_box.specs.Boxes.{BoxAt}
use Rattle.hf_box.specs.Framing.{frames}
use Rattle.hf_box.specs.Walk.{children_at}
use Rattle.hf_derived.specs.Cycle.{AreAmong}
use Rattle.hf_head.specs.Ftyp.{Brands}
use Rattle.hf_head.specs.Hdlr.{hdlr_at}
use Rattle.hf_head.specs.Pitm.{pitm_at}
use Rattle.hf_info.specs.Infe.{Info}
use Rattle.hf_info.specs.Iinf.{info_ids}
use Rattle.hf_order.proofs.Members.{from_map}
use Rattle.hf_store.specs.Derived.{input_pairs}
use Rattle.hf_store.specs.LimitFaults.{limits_fault}
use Rattle.hf_store.specs.Store.{Item, ItemStore, ids_of}
use Rattle.hf_store.specs.Valid.{IsSound}
use Rattle.hf_store.specs.declared.item.RefList.{RefList}
use Rattle.hf_read.specs.Denotes.{DenotesWithin}
use Rattle.hf_read.specs.Faults.{derived_fault}
use Rattle.hf_read.specs.Kept.{kept_refs}
use Rattle.hf_read.specs.Opening.{IsMetaOf, IsStoreOf}
use Rattle.hf_read.specs.Reading.{idat_of, item_at, store_at, tables_at, checked, reading_parts, reading}
use Rattle.hf_read.specs.Tables.{Tables, infos_by_id, item_ids, items_in}
use Rattle.hf_read.specs.TopLevel.{brands_at, first_fault, first_of, found, inner_parts, meta_of, Parts, parts_of, top_box_fault, top_of}
use Rattle.hf_read.proofs.FirstFaults.{fine}
use Rattle.hf_read.proofs.KeptRefs.{list_kind, joined_passes}
use Rattle.hf_read.proofs.ReadLaws.{limited, store_primary, store_read, store_again, fault_again}
use Rattle.hf_read.proofs.ReadingLaws.{reading_denotes}
use Rattle.hf_read.proofs.Steps.{joined}
use Rattle.hf_read.proofs.StoreFaults.{LeadToItems, pairs_among}
use Rattle.hf_read.proofs.StoreLaws.{is_sound}

-- ---- the items of the store

ids_each : (F : List ℕ) (idat : Option (List ℕ)) (t : Tables) (infos : List Info) → ids_of (map (item_at F idat t) infos) ≡ info_ids infos
ids_each F idat t [] = refl
ids_each F idat t (info ∷ infos) = ap (λ (l : List ℕ). info.id ∷ l) (ids_each F idat t infos)

store_ids : (F : List ℕ) (idat : Option (List ℕ)) (brands : Brands) (primary : ℕ) (t : Tables)
    → ids_of (store_at F idat brands primary t).items ≡ item_ids t.infos
unfolding store_at
store_ids F idat brands primary t = ids_each F idat t (infos_by_id t.infos)

-- references that are kept lead to items
kept_lead : (ids : List ℕ) (t : Tables) (from : ℕ) (r : RefList) (x : ℕ) → IsIn r (kept_refs ids t.links from) → IsIn x r.to → IsIn x ids
kept_lead ids t from r x h k =
    let p = list_kind ids t.links from r h in
    joined_passes ids p.0 from t.links x (subst (λ (q : RefList). IsIn x q.to) (sym p.2) k)

store_leads : (F : List ℕ) (idat : Option (List ℕ)) (brands : Brands) (primary : ℕ) (t : Tables) → LeadToItems (store_at F idat brands primary t).items
unfolding store_at
store_leads F idat brands primary t i r x h k among =
    let e = from_map (item_at F idat t) (infos_by_id t.infos) i h in
    let kept : IsIn r (kept_refs (item_ids t.infos) t.links e.0.id) = subst (λ (j : Item). IsIn r j.refs) (sym e.2) k in
    subst (λ (l : List ℕ). IsIn x l) (sym (ids_each F idat t (infos_by_id t.infos))) (kept_lead (item_ids t.infos) t e.0.id r x kept among)

module _ (F : List ℕ) (idat : Option (List ℕ)) (brands : Brands) (primary : ℕ) (t : Tables) (s : ItemStore) (is : s ≡ store_at F idat brands primary t) where
  pub items_rise : (ids : List ℕ) → ids ≡ item_ids t.infos → Rises ◌<◌ ids → Rises ◌<◌ (ids_of s.items)
  items_rise ids same up = subst (λ (l : List ℕ). Rises ◌<◌ l) (same ∙ sym (ap (λ (x : ItemStore). ids_of x.items) is ∙ store_ids F idat brands primary t)) up

  pub inputs_among : AreAmong (ids_of s.items) (input_pairs s.items)
  inputs_among =
      let leads : LeadToItems s.items = subst (λ (x : ItemStore). LeadToItems x.items) (sym is) (store_leads F idat brands primary t) in
      pairs_among s.items leads

-- ---- faults behind the boxes of `meta`

module _ (F : List ℕ) (brands : Brands) (parts : Parts) where
  -- the outcome, where it is a fault
  abbrev pub Told : OpenFault → Type 0
  Told e = IfUnfit e (λ why. reading_parts F brands parts ≡ Err why)

  pub hdlr_told : (e : ReadRefusal) → hdlr_at parts.hdlr.at parts.hdlr.body ≡ Err e → reading_parts F brands parts ≡ Err e
  unfolding reading_parts
  hdlr_told e h = rw h refl

  module _ (picture : hdlr_at parts.hdlr.at parts.hdlr.body ≡ fine) where
    pub pitm_told : (e : ReadRefusal) → pitm_at parts.pitm.at parts.pitm.body ≡ Err e → reading_parts F brands parts ≡ Err e
    unfolding reading_parts
    pitm_told e h = rw (picture, h) refl

    module _ (primary : ℕ) (named : pitm_at parts.pitm.at parts.pitm.body ≡ Ok primary) where
      pub tables_told : (e : OpenFault) → IfUnfit e (λ why. tables_at primary parts ≡ Err why) → Told e
      unfolding reading_parts
      tables_told errors.NoMemory h = tt
      tables_told (errors.Unfit e) h = rw (picture, named, h) refl

      module _ (t : Tables) (read : tables_at primary parts ≡ Ok t) where
        pub places_told : (e : OpenFault) → IfUnfit e (λ why. locations_fault F (idat_of parts) (items_in t) ≡ Err why) → Told e
        unfolding reading_parts
        places_told errors.NoMemory h = tt
        places_told (errors.Unfit e) h = rw (picture, named, read, h) refl

        module _ (placed : locations_fault F (idat_of parts) (items_in t) ≡ fine) (s : ItemStore) (is : s ≡ store_at F (idat_of parts) brands primary t) where
          pub derived_told : (e : OpenFault) → Fails e (derived_fault s.items) → Told e
          unfolding reading_parts checked
          derived_told errors.NoMemory h = tt
          derived_told (errors.Unfit e) h =
              let made = store_at F (idat_of parts) brands primary t in
              let derived : derived_fault made.items ≡ Err e = subst (λ (x : ItemStore). derived_fault x.items ≡ Err e) is h in
              rw (picture, named, read, placed, derived) refl

          pub is_store : derived_fault s.items ≡ fine → IsStoreOf F brands parts s
          is_store derived =
              let first : primary ≡ s.primary = sym (ap (λ (x : ItemStore). x.primary) is ∙ store_primary F (idat_of parts) brands primary t) in
              record {
                picture = picture;
                primary = named ∙ ap (λ (n : ℕ). Ok n) first;
                tables = t;
                are_tables = ap (λ (n : ℕ). tables_at n parts) (sym first) ∙ read;
                placed = placed;
                is = is ∙ ap (λ (n : ℕ). store_at F (idat_of parts) brands n t) first;
                derived = derived;
              }

-- ---- the boxes of `meta`

-- what is left of the program behind the boxes of the file and its brands
regrouped : {A B C D E : Type 0} (once : Result A ReadRefusal) (found : Result B ReadRefusal) (brands : E) (f : B → Result C ReadRefusal)
    (g : C → Result D ReadRefusal) (h : E → D → Result ItemStore ReadRefusal)
    → ((once >>= λ (a : A). found >>= λ (meta : B). Ok (brands, meta)) >>= λ (top : E × B). f top.1 >>= λ (children : C). g children >>= h top.0)
    ≡ (((once >>= λ (a : A). found) >>= λ (meta : B). f meta >>= g) >>= h brands)
regrouped (Err e) found brands f g h = refl
regrouped (Ok a) (Err e) brands f g h = refl
regrouped (Ok a) (Ok meta) brands f g h = sym (joined (f meta) g (h brands))

module _ (F : List ℕ) (boxes : List BoxAt) (brands : Brands) (framed : frames true 0 F ≡ Ok boxes) (named : brands_at boxes ≡ Ok brands) where
  by_parts : reading F ≡ (inner_parts boxes >>= reading_parts F brands)
  unfolding reading top_of inner_parts meta_of
  by_parts =
      rw (framed, named) (regrouped (first_fault top_box_fault [] boxes) (found NoMeta (first_of META boxes)) brands children_at parts_of (reading_parts F))

  pub meta_told : (e : OpenFault) → Fails e (inner_parts boxes) → Fails e (reading F)
  meta_told errors.NoMemory h = tt
  meta_told (errors.Unfit e) h = by_parts ∙ rw h refl

  top_is : (meta : BoxAt) → meta_of boxes ≡ Ok meta → top_of boxes ≡ Ok (brands, meta)
  unfolding top_of meta_of
  top_is meta h = let a = bind_ok (first_fault top_box_fault [] boxes) _ meta h in rw (named, a.1, a.2) refl

  pub is_meta : (parts : Parts) → inner_parts boxes ≡ Ok parts → IsMetaOf F brands parts
  unfolding inner_parts
  is_meta parts h =
      let a = bind_ok (meta_of boxes) _ parts h in
      let b = bind_ok (children_at a.0) _ parts a.2 in
      record {
        boxes = boxes;
        framed = framed;
        meta = a.0;
        top = top_is a.0 a.1;
        children = b.0;
        inner = b.1;
        are_parts = b.2;
      }

-- ---- the whole

pub sound : (F : List ℕ) (brands : Brands) (parts : Parts) (s : ItemStore) → IsBytes F → length F ≤ FILE → IsMetaOf F brands parts
    → IsStoreOf F brands parts s → IsSound s
sound F brands parts s fits small m p = is_sound F s small (store_read F brands parts s fits m p)

pub fault_read : (F : List ℕ) (brands : Brands) (parts : Parts) → IsMetaOf F brands parts → (e : OpenFault)
    → IfUnfit e (λ why. reading_parts F brands parts ≡ Err why) → Fails e (reading F)
fault_read F brands parts m errors.NoMemory h = tt
fault_read F brands parts m (errors.Unfit e) h = fault_again F brands parts e m h

pub built : (F : List ℕ) (brands : Brands) (parts : Parts) (s : ItemStore) → IsMetaOf F brands parts → IsStoreOf F brands parts s
    → (r : Result ItemStore OpenFault) → MatchOpen r (λ store. (store ≡ s) × (limits_fault s ≡ fine)) (λ why. limits_fault s ≡ Err why) → Gives (λ store. store) r (reading F)
built F brands parts s m p (Ok store) h =
    let kept : limited s ≡ Ok s = rw h.1 refl in
    store_again F brands parts s m p ∙ kept ∙ ap (λ (x : ItemStore). Ok x) (sym h.0)
built F brands parts s m p (Err errors.NoMemory) h = tt
built F brands parts s m p (Err (errors.Unfit e)) h =
    let told : limited s ≡ Err e = rw h refl in
    store_again F brands parts s m p ∙ told

-- ---- what is opened

pub opened_denotes : (F : List ℕ) → IsBytes F → length F ≤ FILE → (r : Result ItemStore OpenFault) → Gives (λ store. store) r (reading F)
    → IfOk r (λ store. DenotesWithin F store)
opened_denotes F fits small (Ok store) h = (reading_denotes F store fits small).1 h
opened_denotes F fits small (Err e) h = tt

pub denoted_opens : (F : List ℕ) → IsBytes F → length F ≤ FILE → (r : Result ItemStore OpenFault) → Gives (λ store. store) r (reading F)
    → (s : ItemStore) → DenotesWithin F s → MatchOpen r (λ store. store ≡ s) (λ fault. ⊥)
denoted_opens F fits small (Ok store) h s d = ok_is store s (sym h ∙ (reading_denotes F s fits small).0 d)
denoted_opens F fits small (Err errors.NoMemory) h s d = tt
denoted_opens F fits small (Err (errors.Unfit e)) h s d = let both : Err e ≡ Ok s = sym h ∙ (reading_denotes F s fits small).0 d in cc
