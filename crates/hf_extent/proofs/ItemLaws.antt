-- One entry or one box of references more changes one item.
use Rattle.std.proofs.Common.{◌≡◌, ℕ, zero, suc, ◌+◌, ◌<◌, Bool, true, false, ◌&&◌, inl, inr, List, [], ◌∷◌, ◌++◌, length, map, take, get_or, set, refl, sym, ap, ◌∙◌, arith, Option, Some, None, Result, Ok, Err}
use Rattle.std.specs.Result.{OnOk}
use Rattle.std.specs.Prelude.{◌==◌, not, filter}
use Rattle.std.specs.List.{find, flat_map}
use Rattle.std.specs.Option.{option_or}
use Rattle.std.specs.Str.{bytes_eq}
use Rattle.std.proofs.lemmas.Bool.{cases_Bool, and_parts, eqb-true, false≢true}
use Rattle.std.proofs.lemmas.Slice.Eq.{bytes_eq-Decides}
use Rattle.std.proofs.lemmas.Bool.Decides.{nat_tests}
use Rattle.std.proofs.lemmas.List.{append-nil, take_more}
use Rattle.std.proofs.lemmas.List.Folds.{find-append}
use Rattle.std.proofs.lemmas.List.Concat.{flat_map-append}
use Rattle.std.proofs.lemmas.List.Elements.{filter-append}
use Rattle.std.proofs.lemmas.List.Quantifiers.{position-Some}
use Rattle.hf_base.specs.declared.four.FourCc.{FourCc}
use Rattle.hf_base.specs.declared.kinds.TheConstants.{ILOC}
use Rattle.hf_base.specs.declared.loc.Loc.{Loc}
use Rattle.hf_base.specs.declared.loc.RefBox.{RefBox}
use Rattle.hf_base.specs.Located.{Located as Stated, located_at, located_item, located_items, loc_of, sources_of, locates}
use Rattle.hf_extent.specs.declared.items.Located.{Located}
use Rattle.hf_extent.specs.Seen.{item_seen, items_seen}
use Rattle.hf_base.specs.Entries.{has_id, are_distinct}
use Rattle.hf_base.specs.Members.{Rises}
use Rattle.hf_extent.specs.Places.{AreAt, HaveDistinctIds, id_place}
use Rattle.hf_extent.proofs.PlaceLaws.{place_found}

pub seen_set : (items : List Located) (i : ℕ) (x : Located) → items_seen (set items i x) ≡ set (items_seen items) i (item_seen x)
seen_set [] zero x = refl
seen_set [] (suc i) x = refl
seen_set (r ∷ rs) zero x = refl
seen_set (r ∷ rs) (suc i) x = ap (λ (l : List Stated). item_seen r ∷ l) (seen_set rs i x)

same_maps : (f g : ℕ → Stated) (ids : List ℕ) → ((k : ℕ) → k < length ids → f (get_or ids k 0) ≡ g (get_or ids k 0)) → map f ids ≡ map g ids
same_maps f g [] each = refl
same_maps f g (a ∷ ks) each = ap (λ (r : Stated). r ∷ map f ks) (each zero (omega arith)) ∙ ap (λ (l : List Stated). g a ∷ l) (same_maps f g ks (λ k less. each (suc k) (omega arith)))

set_one : (f g : ℕ → Stated) (ids : List ℕ) (i : ℕ) (y : Stated) → i < length ids → y ≡ g (get_or ids i 0)
    → ((k : ℕ) → k < length ids → (k ≡ i → ⊥) → f (get_or ids k 0) ≡ g (get_or ids k 0)) → set (map f ids) i y ≡ map g ids
set_one f g [] i y less is each = absurd (omega arith)
set_one f g (a ∷ ks) zero y less is each = ap (λ (r : Stated). r ∷ map f ks) is ∙ ap (λ (l : List Stated). g a ∷ l) (same_maps f g ks (λ k few. each (suc k) (omega arith) (λ e. absurd (omega (arith, e)))))
set_one f g (a ∷ ks) (suc i) y less is each =
    ap (λ (r : Stated). r ∷ set (map f ks) i y) (each zero (omega arith) (λ e. absurd (omega (arith, e))))
    ∙ ap (λ (l : List Stated). g a ∷ l) (set_one f g ks i y (omega arith) is (λ k few other. each (suc k) (omega arith) (λ e. other (omega (arith, e)))))

mapped_at : (f : ℕ → Stated) (items : List Located) (ids : List ℕ) (i : ℕ) (x : Located) → items_seen items ≡ map f ids → i < length ids
    → x ≡ get_or items i x → i < length items → item_seen x ≡ f (get_or ids i 0)
mapped_at f [] ids i x e less is within = absurd (omega arith)
mapped_at f (r ∷ rs) [] i x e less is within = absurd (omega arith)
mapped_at f (r ∷ rs) (a ∷ ks) zero x e less is within = let h : item_seen r ≡ f a = cc in ap item_seen is ∙ h
mapped_at f (r ∷ rs) (a ∷ ks) (suc i) x e less is within = let t : items_seen rs ≡ map f ks = cc in mapped_at f rs ks i x t (omega arith) is (omega arith)

pub id_at_place : (ids : List ℕ) (id i : ℕ) → Some i ≡ id_place ids id → (i < length ids) × (get_or ids i 0 ≡ id)
id_at_place ids id i e = let p = position-Some (λ x. x == id) ids i 0 (sym e) in (p.0, eqb-true (get_or ids i 0) id p.1)

other_id : (ids : List ℕ) (id k : ℕ) (o : Option ℕ) → Rises ◌<◌ ids → o ≡ id_place ids id → k < length ids → (o ≡ Some k → ⊥) → (id == get_or ids k 0) ≡ false
other_id ids id k o rising e less other = elim (cases_Bool (id == get_or ids k 0)) [
  | inl same ↦ absurd (other (e ∙ sym (place_found ids id k rising (less, sym (eqb-true id (get_or ids k 0) same)))))
  | inr differs ↦ differs
]

some_number : (a b : ℕ) → Some a ≡ Some b → a ≡ b
some_number a b e = cc

-- ---- entries

or_none : (o : Option Loc) → option_or o None ≡ o
or_none None = refl
or_none (Some l) = refl

unchanged_entry : (locs : List Loc) (l : Loc) (id : ℕ) → (l.id == id) ≡ false → loc_of id (locs ++ l ∷ []) ≡ loc_of id locs
unchanged_entry locs l id other =
    find-append (λ (x : Loc). x.id == id) locs (l ∷ [])
    ∙ (let none : find (λ (x : Loc). x.id == id) (l ∷ []) ≡ None = rw other refl in ap (option_or (loc_of id locs)) none) ∙ or_none (loc_of id locs)

new_entry : (locs : List Loc) (l : Loc) (id : ℕ) → l.id ≡ id → loc_of l.id locs ≡ None → loc_of id (locs ++ l ∷ []) ≡ Some l
new_entry locs l id same none =
    let here : (l.id == id) ≡ true = grind (arith, nat_tests) in
    let before : loc_of id locs ≡ None = ap (λ n. loc_of n locs) (sym same) ∙ none in
    find-append (λ (x : Loc). x.id == id) locs (l ∷ []) ∙ rw (before, here) refl

pub entry_more : (ids : List ℕ) (items : List Located) (locs : List Loc) (links : List RefBox) (l : Loc) (i : ℕ) (old new : Located) → Rises ◌<◌ ids
    → items_seen items ≡ located_items ids locs links → loc_of l.id locs ≡ None → Some i ≡ id_place ids l.id → i < length items → old ≡ get_or items i old
    → item_seen new ≡ record (item_seen old) { method = l.method; dref = l.dref; base = l.base; extents = l.extents }
    → items_seen (set items i new) ≡ located_items ids (locs ++ l ∷ []) links
entry_more ids items locs links l i old new rising so_far none place within is e =
    let at = id_at_place ids l.id i place in
    let was : item_seen old ≡ located_item locs links (get_or ids i 0) = mapped_at (located_item locs links) items ids i old so_far at.0 is within in
    let bare : loc_of (get_or ids i 0) locs ≡ None = ap (λ n. loc_of n locs) at.1 ∙ none in
    let became : item_seen new ≡ located_item (locs ++ l ∷ []) links (get_or ids i 0) =
    e ∙ ap (λ (r : Stated). record r { method = l.method; dref = l.dref; base = l.base; extents = l.extents }) (was ∙ ap (λ (o : Option Loc). located_at (get_or ids i 0) o (sources_of (get_or ids i 0) links)) bare)
    ∙ ap (λ (o : Option Loc). located_at (get_or ids i 0) o (sources_of (get_or ids i 0) links)) (sym (new_entry locs l (get_or ids i 0) (sym at.1) none))
    in
    seen_set items i new ∙ ap (λ (rs : List Stated). set rs i (item_seen new)) so_far
    ∙ set_one (located_item locs links) (located_item (locs ++ l ∷ []) links) ids i (item_seen new) at.0 became
    (λ k less other. ap (λ (o : Option Loc). located_at (get_or ids k 0) o (sources_of (get_or ids k 0) links)) (sym (unchanged_entry locs l (get_or ids k 0) (other_id ids l.id k (Some i) rising place less (λ f. other (sym (some_number i k f)))))))

pub entry_nowhere : (ids : List ℕ) (items : List Located) (locs : List Loc) (links : List RefBox) (l : Loc) → Rises ◌<◌ ids
    → items_seen items ≡ located_items ids locs links → None ≡ id_place ids l.id → items_seen items ≡ located_items ids (locs ++ l ∷ []) links
entry_nowhere ids items locs links l rising so_far place =
    so_far ∙ same_maps (located_item locs links) (located_item (locs ++ l ∷ []) links) ids
    (λ k less. ap (λ (o : Option Loc). located_at (get_or ids k 0) o (sources_of (get_or ids k 0) links)) (sym (unchanged_entry locs l (get_or ids k 0) (other_id ids l.id k None rising place less (λ f. absurd (cc))))))

-- ---- references

source_more : (id : ℕ) (links : List RefBox) (b : RefBox) → locates id b ≡ true → sources_of id (links ++ b ∷ []) ≡ sources_of id links ++ b.to
source_more id links b here =
    let one : filter (locates id) (b ∷ []) ≡ b ∷ [] = rw here refl in
    ap (flat_map (λ (x : RefBox). x.to)) (filter-append (locates id) links (b ∷ []) ∙ ap (λ (l : List RefBox). filter (locates id) links ++ l) one)
    ∙ flat_map-append (λ (x : RefBox). x.to) (filter (locates id) links) (b ∷ []) ∙ ap (λ (l : List ℕ). sources_of id links ++ l) (append-nil b.to)

pub source_same : (id : ℕ) (links : List RefBox) (b : RefBox) → locates id b ≡ false → sources_of id (links ++ b ∷ []) ≡ sources_of id links
source_same id links b other =
    let none : filter (locates id) (b ∷ []) ≡ [] = rw other refl in
    ap (flat_map (λ (x : RefBox). x.to)) (filter-append (locates id) links (b ∷ []) ∙ ap (λ (l : List RefBox). filter (locates id) links ++ l) none ∙ append-nil (filter (locates id) links))

second_fails : (a b : Bool) → b ≡ false → (a && b) ≡ false
second_fails true b e = e
second_fails false b e = refl

grown : (id : ℕ) (o : Option Loc) (sources to : List ℕ)
    → record (located_at id o sources) { sources = (located_at id o sources).sources ++ to } ≡ located_at id o (sources ++ to)
grown id None sources to = refl
grown id (Some l) sources to = refl

pub link_more : (ids : List ℕ) (items : List Located) (locs : List Loc) (links : List RefBox) (b : RefBox) (i : ℕ) (old new : Located) → Rises ◌<◌ ids
    → items_seen items ≡ located_items ids locs links → bytes_eq b.kind.0 ILOC.0 ≡ true → Some i ≡ id_place ids b.from → i < length items
    → old ≡ get_or items i old
    → item_seen new ≡ record (item_seen old) { sources = old.sources ++ b.to } → items_seen (set items i new) ≡ located_items ids locs (links ++ b ∷ [])
link_more ids items locs links b i old new rising so_far kind place within is e =
    let at = id_at_place ids b.from i place in
    let was : item_seen old ≡ located_item locs links (get_or ids i 0) = mapped_at (located_item locs links) items ids i old so_far at.0 is within in
    let from : (b.from == get_or ids i 0) ≡ true = grind (arith, nat_tests, at.1) in
    let here : locates (get_or ids i 0) b ≡ true = rw (kind, from) refl in
    let became : item_seen new ≡ located_item locs (links ++ b ∷ []) (get_or ids i 0) =
    e ∙ ap (λ (r : Stated). record r { sources = r.sources ++ b.to }) was
    ∙ grown (get_or ids i 0) (loc_of (get_or ids i 0) locs) (sources_of (get_or ids i 0) links) b.to
    ∙ ap (λ (l : List ℕ). located_at (get_or ids i 0) (loc_of (get_or ids i 0) locs) l) (sym (source_more (get_or ids i 0) links b here))
    in
    seen_set items i new ∙ ap (λ (rs : List Stated). set rs i (item_seen new)) so_far
    ∙ set_one (located_item locs links) (located_item locs (links ++ b ∷ [])) ids i (item_seen new) at.0 became
    (λ k less other. ap (λ (l : List ℕ). located_at (get_or ids k 0) (loc_of (get_or ids k 0) locs) l) (sym (source_same (get_or ids k 0) links b (second_fails (bytes_eq b.kind.0 ILOC.0) _ (other_id ids b.from k (Some i) rising place less (λ f. other (sym (some_number i k f))))))))

pub link_nowhere : (ids : List ℕ) (items : List Located) (locs : List Loc) (links : List RefBox) (b : RefBox) → Rises ◌<◌ ids
    → items_seen items ≡ located_items ids locs links → None ≡ id_place ids b.from → items_seen items ≡ located_items ids locs (links ++ b ∷ [])
link_nowhere ids items locs links b rising so_far place =
    so_far ∙ same_maps (located_item locs links) (located_item locs (links ++ b ∷ [])) ids
    (λ k less. ap (λ (l : List ℕ). located_at (get_or ids k 0) (loc_of (get_or ids k 0) locs) l) (sym (source_same (get_or ids k 0) links b (second_fails (bytes_eq b.kind.0 ILOC.0) _ (other_id ids b.from k None rising place less (λ f. absurd (cc)))))))

pub link_of_another_kind : (ids : List ℕ) (items : List Located) (locs : List Loc) (links : List RefBox) (b : RefBox)
    → items_seen items ≡ located_items ids locs links → bytes_eq b.kind.0 ILOC.0 ≡ false → items_seen items ≡ located_items ids locs (links ++ b ∷ [])
link_of_another_kind ids items locs links b so_far kind =
    so_far ∙ same_maps (located_item locs links) (located_item locs (links ++ b ∷ [])) ids
    (λ k less. ap (λ (l : List ℕ). located_at (get_or ids k 0) (loc_of (get_or ids k 0) locs) l) (sym (source_same (get_or ids k 0) links b (let f : locates (get_or ids k 0) b ≡ false = rw kind refl in f))))

pub on_ok : {A E P Q : Type 0} (r : Result A E) → OnOk r P → (P → Q) → OnOk r Q
on_ok (Ok x) p f = f p
on_ok (Err e) p f = tt

-- ---- the loops

id_of_item : (id : ℕ) (o : Option Loc) (sources : List ℕ) → (located_at id o sources).id ≡ id
id_of_item id None sources = refl
id_of_item id (Some l) sources = refl

items_at : (ids : List ℕ) (locs : List Loc) (links : List RefBox) → map (λ (r : Stated). r.id) (located_items ids locs links) ≡ ids
items_at [] locs links = refl
items_at (a ∷ ks) locs links = ap (λ n. n ∷ map (λ (r : Stated). r.id) (located_items ks locs links)) (id_of_item a (loc_of a locs) (sources_of a links)) ∙ ap (λ (l : List ℕ). a ∷ l) (items_at ks locs links)

pub are_at : (ids : List ℕ) (items : List Stated) (locs : List Loc) (links : List RefBox) → items ≡ located_items ids locs links → AreAt ids items
are_at ids items locs links e = ap (map (λ (r : Stated). r.id)) e ∙ items_at ids locs links

has_later : (locs : List Loc) (i id : ℕ) (l : Loc) → i < length locs → l ≡ get_or locs i l → l.id ≡ id → has_id id (map (λ (x : Loc). x.id) locs) ≡ true
has_later [] i id l less is same = absurd (omega arith)
has_later (x ∷ xs) zero id l less is same =
    let here : (x.id == id) ≡ true = grind (arith, nat_tests, ap (λ (y : Loc). y.id) is) in
    rw here refl
has_later (x ∷ xs) (suc i) id l less is same =
    let rest = has_later xs i id l (omega arith) is same in
    elim (cases_Bool (x.id == id)) [ inl here ↦ rw here refl | inr other ↦ rw (other, rest) refl ]

pub none_before : (locs : List Loc) (i : ℕ) (l : Loc) → HaveDistinctIds locs → i < length locs → l ≡ get_or locs i l → loc_of l.id (take i locs) ≡ None
none_before [] i l distinct less is = absurd (omega arith)
none_before (x ∷ xs) zero l distinct less is = refl
none_before (x ∷ xs) (suc i) l distinct less is =
    let parts = and_parts (not (has_id x.id (map (λ (y : Loc). y.id) xs))) (are_distinct (map (λ (y : Loc). y.id) xs)) distinct in
    let rest : loc_of l.id (take i xs) ≡ None = none_before xs i l parts.1 (omega arith) is in
    elim (cases_Bool (x.id == l.id)) [
      | inl same ↦ (
          let later : has_id x.id (map (λ (y : Loc). y.id) xs) ≡ true = has_later xs i x.id l (omega arith) is (sym (eqb-true x.id l.id same)) in
          let no : not (has_id x.id (map (λ (y : Loc). y.id) xs)) ≡ false = rw later refl in
          absurd (false≢true (sym no ∙ parts.0))
          )
      | inr other ↦ (let e : loc_of l.id (x ∷ take i xs) ≡ loc_of l.id (take i xs) = rw other refl in e ∙ rest)
    ]

pub loc_taken : (ids : List ℕ) (items : List Located) (locs : List Loc) (i : ℕ) (l : Loc) → items_seen items ≡ located_items ids (take i locs ++ l ∷ []) []
    → i < length locs → l ≡ get_or locs i l → items_seen items ≡ located_items ids (take (i + 1) locs) []
loc_taken ids items locs i l e less is =
    e ∙ ap (λ (ls : List Loc). located_items ids ls []) (ap (λ (x : Loc). take i locs ++ x ∷ []) is ∙ sym (take_more locs i l less))

pub same_kind : (a b : FourCc) → a ≡ b → bytes_eq a.0 b.0 ≡ true
same_kind a b e = (bytes_eq-Decides a.0 b.0).1 (ap (λ (k : FourCc). k.0) e)

pub other_kind : (a b : FourCc) → (a ≡ b → ⊥) → bytes_eq a.0 b.0 ≡ false
other_kind a b differs = elim (cases_Bool (bytes_eq a.0 b.0)) [
  | inl same ↦ absurd (differs (let e : a.0 ≡ b.0 = (bytes_eq-Decides a.0 b.0).0 same in let made : List ℕ → FourCc = λ l. record { 0 = l } in ap made e))
  | inr other ↦ other
]
