-- A file denotes at most one store.
use Rattle.std.proofs.Common.{◌≡◌, ℕ, ◌+◌, true, false, List, [], ◌∷◌, take, drop, Option, Some, None, refl, sym, ap, subst, ◌∙◌}
use Rattle.std.specs.List.{AllZip}
use Rattle.hf_base.specs.BytesOf.{bytes_of}
use Rattle.hf_base.specs.ReadingLaws.{ok_is}
use Rattle.hf_base.specs.declared.kinds.TheConstants.{META}
use Rattle.hf_base.specs.declared.loc.Loc.{Loc}
use Rattle.hf_base.specs.declared.loc.RefBox.{RefBox}
use Rattle.hf_box.specs.Boxes.{BoxAt, IsBoxes}
use Rattle.hf_box.specs.Tables.{of_kind}
use Rattle.hf_box.proofs.BoxLaws.{same_boxes}
use Rattle.hf_head.specs.Ftyp.{Brands, IsFtyp}
use Rattle.hf_head.specs.Pitm.{IsPitm}
use Rattle.hf_head.proofs.FtypLemmas.{one_value as one_brands}
use Rattle.hf_head.proofs.PitmLemmas.{one_value as one_primary}
use Rattle.hf_info.specs.Infe.{Info}
use Rattle.hf_info.specs.Iinf.{IsIinf}
use Rattle.hf_info.proofs.IinfLemmas.{one_iinf}
use Rattle.hf_links.specs.Grpl.{Group}
use Rattle.hf_links.proofs.GrplLemmas.{one_value as one_grpl}
use Rattle.hf_links.proofs.IrefLemmas.{one_value as one_iref}
use Rattle.hf_loc.proofs.IlocLemmas.{one_value as one_iloc}
use Rattle.hf_prop.specs.declared.iprp.Iprp.{Iprp}
use Rattle.hf_prop.proofs.IprpLemmas.{one_value as one_iprp}
use Rattle.hf_store.specs.Store.{Item, ItemStore}
use Rattle.hf_read.specs.Denotes.{IsItemOf, Denotes}
use Rattle.hf_read.specs.Kept.{kept_groups}
use Rattle.hf_read.specs.Reading.{idat_of, item_of}
use Rattle.hf_read.specs.Tables.{Tables, AreLocs, AreLinks, AreProps, AreGroups, infos_by_id, item_ids, located_in, items_in}
use Rattle.hf_read.specs.TopLevel.{Parts, parts_of}
use Rattle.hf_read.proofs.TopLevelLaws.{parts_read}

single : (a b : BoxAt) (all : List BoxAt) → all ≡ a ∷ [] → all ≡ b ∷ [] → a ≡ b
single a b all e f = let both : a ∷ [] ≡ b ∷ [] = sym e ∙ f in cc

some_is : (a b : List ℕ) (o : Option (List ℕ)) → o ≡ Some a → o ≡ Some b → a ≡ b
some_is a b o e f = let both : Some a ≡ Some b = sym e ∙ f in cc

-- ---- tables, where their box may be missing

one_locs : (o : Option BoxAt) (some others : List Loc) → AreLocs o some → AreLocs o others → some ≡ others
one_locs None some others h k = h ∙ sym k
one_locs (Some b) some others h k = one_iloc b.body some others h k

one_links : (o : Option BoxAt) (some others : List RefBox) → AreLinks o some → AreLinks o others → some ≡ others
one_links None some others h k = h ∙ sym k
one_links (Some b) some others h k = one_iref b some others h k

one_props : (o : Option BoxAt) (some other : Iprp) → AreProps o some → AreProps o other → some ≡ other
one_props None some other h k = h ∙ sym k
one_props (Some b) some other h k = one_iprp b some other h k

one_groups : (o : Option BoxAt) (some others : List Group) → AreGroups o some → AreGroups o others → some ≡ others
one_groups None some others h k = h ∙ sym k
one_groups (Some b) some others h k = one_grpl b some others h k

-- ---- items

one_item : (F : List ℕ) (idat : Option (List ℕ)) (t : Tables) (info : Info) (i j : Item) → IsItemOf F idat t info i → IsItemOf F idat t info j → i ≡ j
one_item F idat t info i j x y =
    let bytes : x.placed.bytes ≡ y.placed.bytes = some_is x.placed.bytes y.placed.bytes (bytes_of F idat (items_in t) (located_in t info)) x.placed.are y.placed.are in
    x.is ∙ ap (item_of t info) bytes ∙ sym y.is

pub one_list : (F : List ℕ) (idat : Option (List ℕ)) (t : Tables) (infos : List Info) (is js : List Item) → AllZip (IsItemOf F idat t) infos is → AllZip (IsItemOf F idat t) infos js → is ≡ js
one_list F idat t [] [] [] x y = refl
one_list F idat t [] [] (j ∷ js) x y = absurd y
one_list F idat t [] (i ∷ is) js x y = absurd x
one_list F idat t (info ∷ infos) [] js x y = absurd x
one_list F idat t (info ∷ infos) (i ∷ is) [] x y = absurd y
one_list F idat t (info ∷ infos) (i ∷ is) (j ∷ js) x y =
    let first = one_item F idat t info i j x.0 y.0 in
    let others = one_list F idat t infos is js x.1 y.1 in
    ap (λ (k : Item). k ∷ is) first ∙ ap (λ (l : List Item). j ∷ l) others

-- ---- the whole

pub one_parts : (F : List ℕ) (s t : ItemStore) (x : Denotes F s) (y : Denotes F t) → x.parts ≡ y.parts
one_parts F s t x y =
    let top : x.top ≡ y.top = same_boxes F 0 true x.top y.top x.boxes y.boxes in
    let meta : x.meta ≡ y.meta = single x.meta y.meta _ (subst (λ (l : List BoxAt). of_kind META l ≡ x.meta ∷ []) top x.level.one_meta) y.level.one_meta in
    let inner : IsBoxes (drop 4 y.meta.body) (y.meta.at + y.meta.head + 4) false x.children = subst (λ (m : BoxAt). IsBoxes (drop 4 m.body) (m.at + m.head + 4) false x.children) meta x.inner in
    let children : x.children ≡ y.children = same_boxes (drop 4 y.meta.body) (y.meta.at + y.meta.head + 4) false x.children y.children inner y.inner in
    ok_is x.parts y.parts (sym (parts_read x.children x.parts x.are_parts) ∙ ap parts_of children ∙ parts_read y.children y.parts y.are_parts)

pub one_tables : (F : List ℕ) (s t : ItemStore) (x : Denotes F s) (y : Denotes F t) → x.tables ≡ y.tables
one_tables F s t x y =
    let parts = one_parts F s t x y in
    let infos : x.tables.infos ≡ y.tables.infos = one_iinf y.parts.iinf x.tables.infos y.tables.infos (subst (λ (p : Parts). IsIinf p.iinf x.tables.infos) parts x.infos) y.infos in
    let locs : x.tables.locs ≡ y.tables.locs = one_locs y.parts.iloc x.tables.locs y.tables.locs (subst (λ (p : Parts). AreLocs p.iloc x.tables.locs) parts x.locs) y.locs in
    let links : x.tables.links ≡ y.tables.links = one_links y.parts.iref x.tables.links y.tables.links (subst (λ (p : Parts). AreLinks p.iref x.tables.links) parts x.links) y.links in
    let iprp : x.tables.iprp ≡ y.tables.iprp = one_props y.parts.iprp x.tables.iprp y.tables.iprp (subst (λ (p : Parts). AreProps p.iprp x.tables.iprp) parts x.iprp) y.iprp in
    let groups : x.tables.groups ≡ y.tables.groups = one_groups y.parts.grpl x.tables.groups y.tables.groups (subst (λ (p : Parts). AreGroups p.grpl x.tables.groups) parts x.all_groups) y.all_groups in
    let made : List Info → List Loc → List RefBox → Iprp → List Group → Tables = λ i l r p g. record { infos = i; locs = l; links = r; iprp = p; groups = g } in
    let same : made x.tables.infos x.tables.locs x.tables.links x.tables.iprp x.tables.groups ≡ made y.tables.infos y.tables.locs y.tables.links y.tables.iprp y.tables.groups = rw (infos, locs, links, iprp, groups) refl in
    same

pub denotes_one : (F : List ℕ) (s t : ItemStore) → Denotes F s → Denotes F t → s ≡ t
denotes_one F s t x y =
    let top : x.top ≡ y.top = same_boxes F 0 true x.top y.top x.boxes y.boxes in
    let ftyp : x.ftyp ≡ y.ftyp = single x.ftyp y.ftyp (take 1 y.top) (ap (take 1) (sym top) ∙ x.level.first) y.level.first in
    let parts = one_parts F s t x y in
    let tables = one_tables F s t x y in
    let brands : s.brands ≡ t.brands = one_brands y.ftyp.body s.brands t.brands (subst (λ (b : BoxAt). IsFtyp b.body s.brands) ftyp x.brands) y.brands in
    let primary : s.primary ≡ t.primary = one_primary y.parts.pitm.body s.primary t.primary (subst (λ (p : Parts). IsPitm p.pitm.body s.primary) parts x.primary) y.primary in
    let mine : AllZip (IsItemOf F (idat_of y.parts) x.tables) (infos_by_id x.tables.infos) s.items = subst (λ (p : Parts). AllZip (IsItemOf F (idat_of p) x.tables) (infos_by_id x.tables.infos) s.items) parts x.items in
    let others : AllZip (IsItemOf F (idat_of y.parts) y.tables) (infos_by_id y.tables.infos) s.items = subst (λ (u : Tables). AllZip (IsItemOf F (idat_of y.parts) u) (infos_by_id u.infos) s.items) tables mine in
    let items : s.items ≡ t.items = one_list F (idat_of y.parts) y.tables (infos_by_id y.tables.infos) s.items t.items others y.items in
    let groups : s.groups ≡ t.groups = x.groups ∙ ap (λ (u : Tables). kept_groups (item_ids u.infos) u.groups) tables ∙ sym y.groups in
    let made : Brands → ℕ → List Item → List Group → ItemStore = λ b p i g. record { brands = b; primary = p; items = i; groups = g } in
    let same : made s.brands s.primary s.items s.groups ≡ made t.brands t.primary t.items t.groups = rw (brands, primary, items, groups) refl in
    same
