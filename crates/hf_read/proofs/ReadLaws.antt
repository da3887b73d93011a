-- A file that is read from left to right without a fault, by its parts.
use Rattle.std.proofs.Common.{◌≡◌, ℕ, ◌+◌, ◌≤◌, Bool, true, false, ltb, List, [], ◌∷◌, ◌++◌, length, drop, Result, Ok, Err, Option, Some, refl, sym, ap, subst, ◌∙◌, inl, inr}
use Rattle.std.proofs.lemmas.Bool.{cases_Bool, ltb-false, le-ltb}
use Rattle.hf_base.specs.LocationFaults.{locations_fault}
use Rattle.hf_base.specs.Members.{IsIn}
use Rattle.hf_base.specs.Number.{IsBytes}
use Rattle.hf_base.specs.Placed.{ArePlaced}
use Rattle.hf_base.specs.Reading.{◌>>=◌}
use Rattle.hf_base.specs.ReadingLaws.{bind_ok, chosen, ok_is, IsBytes-drop}
use Rattle.hf_base.specs.declared.four.FourCc.{FourCc}
use Rattle.hf_base.specs.declared.fault.ReadRefusal.{ReadRefusal}
use Rattle.hf_base.specs.declared.fault.ReadRefusal.TheVariants.{BadRecord}
use Rattle.hf_base.specs.declared.kinds.TheConstants.{FTYP, META, HDLR, PITM, IINF, ILOC, IREF, IPRP, GRPL}
use Rattle.hf_base.specs.declared.limits.TheConstants.{BOXES, ROWS}
use Rattle.hf_base.proofs.Converse.{placed, no_fault}
use Rattle.hf_box.specs.Boxes.{BoxAt, IsBoxes}
use Rattle.hf_box.specs.Framing.{frames}
use Rattle.hf_box.specs.Tables.{of_kind}
use Rattle.hf_box.specs.Walk.{is_kind, children_at}
use Rattle.hf_box.proofs.BoxLaws.{body_is_bytes}
use Rattle.hf_box.proofs.Lists.{frames_spell, boxes_read}
use Rattle.hf_head.specs.Ftyp.{Brands, IsFtyp}
use Rattle.hf_head.specs.Hdlr.{IsHdlr, hdlr_at}
use Rattle.hf_head.specs.Pitm.{IsPitm, pitm_at}
use Rattle.hf_head.proofs.FtypLemmas.{ftyp_found, ftyp_only}
use Rattle.hf_head.proofs.HdlrLemmas.{hdlr_found, hdlr_only}
use Rattle.hf_head.proofs.PitmLemmas.{pitm_found, pitm_only}
use Rattle.hf_info.specs.Iinf.{IsIinfWithin, iinf_at}
use Rattle.hf_info.proofs.IinfLemmas.{iinf_only, iinf_found}
use Rattle.hf_loc.specs.Iloc.{loc_rows}
use Rattle.hf_store.specs.Store.{ItemStore}
use Rattle.hf_read.specs.Denotes.{NeedsAreItems, PicksAreProps, LinksWithin, PropsWithin, GroupsWithin}
use Rattle.hf_store.specs.LimitFaults.{limits_fault}
use Rattle.hf_read.specs.Faults.{no_primary_fault, dangling_need_fault, bad_property_fault, derived_fault}
use Rattle.hf_read.specs.Opening.{IsMetaOf, IsStoreOf}
use Rattle.hf_read.specs.Reading.{idat_of, store_at, tables_at, checked, reading_parts, reading}
use Rattle.hf_read.specs.Tables.{Tables, AreLocs, AreLinks, AreProps, AreGroups, locs_in, links_in, iprp_in, groups_in, item_ids, items_in}
use Rattle.hf_read.specs.TopLevel.{first_of, IsTopLevel, has_mif1, top_of, Parts, AreParts, parts_of}
use Rattle.hf_read.proofs.FirstFaults.{fine, first_from, first_option}
use Rattle.hf_read.proofs.PartFaults.{primary_there, there_primary, needs_are, are_needs, picks_are, are_picks}
use Rattle.hf_read.proofs.TableParts.{locs_take, locs_again, links_take, links_again, iprp_in_take, iprp_in_again, groups_take, groups_again}
use Rattle.hf_read.proofs.TopLevelLaws.{Opens, top_opens, top_read, parts_are, parts_read}

-- what stands in the tables of `meta`, within the limits
pub record AreTables (parts : Parts) (primary : ℕ) (t : Tables) : Type 0 where
  pub infos : IsIinfWithin parts.iinf t.infos
  pub there : IsIn primary (item_ids t.infos)
  pub locs : AreLocs parts.iloc t.locs
  pub few_locs : loc_rows t.locs ≤ ROWS
  pub links : AreLinks parts.iref t.links
  pub few_links : LinksWithin parts.iref t.links
  pub needs : NeedsAreItems (item_ids t.infos) t.links
  pub iprp : AreProps parts.iprp t.iprp
  pub few_props : PropsWithin parts.iprp t.iprp
  pub picks : PicksAreProps (item_ids t.infos) t.iprp
  pub groups : AreGroups parts.grpl t.groups
  pub few_groups : GroupsWithin parts.grpl t.groups

-- what is known of a file that was read as this store, before its limits are looked at
pub record IsRead (F : List ℕ) (s : ItemStore) : Type 0 where
  pub top : List BoxAt
  pub boxes : IsBoxes F 0 true top
  pub few_top : length top ≤ BOXES
  pub ftyp : BoxAt
  pub meta : BoxAt
  pub level : IsTopLevel top ftyp meta
  pub brands : IsFtyp ftyp.body s.brands
  pub mif1 : has_mif1 s.brands ≡ true
  pub children : List BoxAt
  pub full : 4 ≤ length meta.body
  pub inner : IsBoxes (drop 4 meta.body) (meta.at + meta.head + 4) false children
  pub few_children : length children ≤ BOXES
  pub parts : Parts
  pub are_parts : AreParts children parts
  pub picture : IsHdlr parts.hdlr.body
  pub primary : IsPitm parts.pitm.body s.primary
  pub tables : Tables
  pub are_tables : AreTables parts s.primary tables
  pub placed : ArePlaced F (idat_of parts) (items_in tables)
  pub is : s ≡ store_at F (idat_of parts) s.brands s.primary tables
  pub derived : derived_fault s.items ≡ Ok tt

-- ---- the bodies of boxes are bytes

found_at : (k : FourCc) (boxes : List BoxAt) (x : BoxAt) → first_of k boxes ≡ Some x → (before : List BoxAt) × (after : List BoxAt) × (boxes ≡ before ++ x ∷ after)
found_at k [] x h = absurd cc
found_at k (b ∷ bs) x h = elim (cases_Bool (is_kind b.kind k)) [
  | inl t ↦
      let is : b ≡ x = (let e : Some b ≡ Some x = sym (rw t refl) ∙ h in cc) in
      ([], bs, ap (λ (y : BoxAt). y ∷ bs) is)
  | inr f ↦
      let p = found_at k bs x (sym (rw f refl) ∙ h) in
      (b ∷ p.0, p.1, ap (λ (l : List BoxAt). b ∷ l) p.2)
]

bytes_of_first : (bytes : List ℕ) (origin : ℕ) (top : Bool) (boxes : List BoxAt) (k : FourCc) (x : BoxAt) → IsBytes bytes → IsBoxes bytes origin top boxes → first_of k boxes ≡ Some x → IsBytes x.body
bytes_of_first bytes origin top boxes k x fits are h =
    let p = found_at k boxes x h in
    body_is_bytes bytes origin top p.0 x p.1 fits (subst (λ (l : List BoxAt). IsBoxes bytes origin top l) p.2 are)

bytes_of_one : (bytes : List ℕ) (origin : ℕ) (top : Bool) (boxes : List BoxAt) (k : FourCc) (x : BoxAt) → IsBytes bytes → IsBoxes bytes origin top boxes → of_kind k boxes ≡ x ∷ [] → IsBytes x.body
bytes_of_one bytes origin top boxes k x fits are h = bytes_of_first bytes origin top boxes k x fits are (first_from k boxes x h)

-- ---- the children

children_are : (m : BoxAt) (children : List BoxAt) → children_at m ≡ Ok children → (4 ≤ length m.body) × (frames false (m.at + m.head + 4) (drop 4 m.body) ≡ Ok children)
unfolding children_at
children_are m children h = elim (chosen (ltb (length m.body) 4) (Err (BadRecord META m.at)) (frames false (m.at + m.head + 4) (drop 4 m.body)) (Ok children) h) [
  | inl p ↦ absurd cc
  | inr p ↦ (ltb-false (length m.body) 4 p.0, p.1)
]

children_again : (m : BoxAt) (children : List BoxAt) → 4 ≤ length m.body → frames false (m.at + m.head + 4) (drop 4 m.body) ≡ Ok children → children_at m ≡ Ok children
unfolding children_at
children_again m children long h = let low = le-ltb (length m.body) 4 long in rw (low, h) refl

-- ---- the tables

-- the bodies of the boxes in `meta` are bytes
abbrev HaveBytes : List BoxAt → Type 0
HaveBytes children = (k : FourCc) (x : BoxAt) → first_of k children ≡ Some x → IsBytes x.body

tables_take : (children : List BoxAt) (parts : Parts) (primary : ℕ) (t : Tables) → HaveBytes children → AreParts children parts → tables_at primary parts ≡ Ok t → AreTables parts primary t
unfolding tables_at
tables_take children parts primary t bytes are h =
    let a = bind_ok (iinf_at parts.iinf) _ t h in
    let b = bind_ok (no_primary_fault (item_ids a.0) primary) _ t a.2 in
    let c = bind_ok (locs_in parts.iloc) _ t b.2 in
    let d = bind_ok (links_in parts.iref) _ t c.2 in
    let e = bind_ok (dangling_need_fault (item_ids a.0) d.0) _ t d.2 in
    let f = bind_ok (iprp_in parts.iprp) _ t e.2 in
    let g = bind_ok (bad_property_fault (item_ids a.0) f.0) _ t f.2 in
    let i = bind_ok (groups_in parts.grpl) _ t g.2 in
    let locs = locs_take parts.iloc c.0 (λ x is. bytes ILOC x (first_option ILOC children parts.iloc are.iloc ∙ is)) c.1 in
    let links = links_take parts.iref d.0 (λ x is. bytes IREF x (first_option IREF children parts.iref are.iref ∙ is)) d.1 in
    let iprp = iprp_in_take parts.iprp f.0 (λ x is. bytes IPRP x (first_option IPRP children parts.iprp are.iprp ∙ is)) f.1 in
    let groups = groups_take parts.grpl i.0 (λ x is. bytes GRPL x (first_option GRPL children parts.grpl are.grpl ∙ is)) i.1 in
    let made : Tables = record { infos = a.0; locs = c.0; links = d.0; iprp = f.0; groups = i.0 } in
    let tables : AreTables parts primary made = record {
      infos = iinf_found parts.iinf a.0 (bytes IINF parts.iinf (first_from IINF children parts.iinf are.iinf)) a.1;
      there = primary_there (item_ids a.0) primary b.1;
      locs = locs.0;
      few_locs = locs.1;
      links = links.0;
      few_links = links.1;
      needs = needs_are (item_ids a.0) d.0 e.1;
      iprp = iprp.0;
      few_props = iprp.1;
      picks = picks_are (item_ids a.0) f.0 g.1;
      groups = groups.0;
      few_groups = groups.1;
    } in
    subst (λ (x : Tables). AreTables parts primary x) (ok_is made t i.2) tables

tables_again : (parts : Parts) (primary : ℕ) (t : Tables) → AreTables parts primary t → tables_at primary parts ≡ Ok t
unfolding tables_at
tables_again parts primary t h =
    let infos = iinf_only parts.iinf t.infos h.infos in
    let there = there_primary (item_ids t.infos) primary h.there in
    let locs = locs_again parts.iloc t.locs h.locs h.few_locs in
    let links = links_again parts.iref t.links h.links h.few_links in
    let needs = are_needs (item_ids t.infos) t.links h.needs in
    let iprp = iprp_in_again parts.iprp t.iprp h.iprp h.few_props in
    let picks = are_picks (item_ids t.infos) t.iprp h.picks in
    let groups = groups_again parts.grpl t.groups h.groups h.few_groups in
    rw (infos, there, locs, links, needs, iprp, picks, groups) refl

-- ---- what is read behind the boxes of `meta`

pub store_primary : (F : List ℕ) (idat : Option (List ℕ)) (brands : Brands) (primary : ℕ) (t : Tables) → (store_at F idat brands primary t).primary ≡ primary
unfolding store_at
store_primary F idat brands primary t = refl

pub store_brands : (F : List ℕ) (idat : Option (List ℕ)) (brands : Brands) (primary : ℕ) (t : Tables) → (store_at F idat brands primary t).brands ≡ brands
unfolding store_at
store_brands F idat brands primary t = refl

parts_taken : (F : List ℕ) (brands : Brands) (parts : Parts) (s : ItemStore) → reading_parts F brands parts ≡ Ok s
    → IsStoreOf F brands parts s × (limits_fault s ≡ fine)
unfolding reading_parts checked
parts_taken F brands parts s h =
    let a = bind_ok (hdlr_at parts.hdlr.at parts.hdlr.body) _ s h in
    let b = bind_ok (pitm_at parts.pitm.at parts.pitm.body) _ s a.2 in
    let c = bind_ok (tables_at b.0 parts) _ s b.2 in
    let d = bind_ok (locations_fault F (idat_of parts) (items_in c.0)) _ s c.2 in
    let made : ItemStore = store_at F (idat_of parts) brands b.0 c.0 in
    let e = bind_ok (derived_fault made.items) _ s d.2 in
    let f = bind_ok (limits_fault made) _ s e.2 in
    let same : s ≡ made = sym (ok_is made s f.2) in
    let first : s.primary ≡ b.0 = ap (λ (x : ItemStore). x.primary) same ∙ store_primary F (idat_of parts) brands b.0 c.0 in
    let is : IsStoreOf F brands parts s = record {
      picture = a.1;
      primary = b.1 ∙ ap (λ (n : ℕ). Ok n) (sym first);
      tables = c.0;
      are_tables = ap (λ (n : ℕ). tables_at n parts) first ∙ c.1;
      placed = d.1;
      is = same ∙ ap (λ (n : ℕ). store_at F (idat_of parts) brands n c.0) (sym first);
      derived = ap (λ (x : ItemStore). derived_fault x.items) same ∙ e.1;
    } in
    (is, ap limits_fault same ∙ f.1)

-- the store, unless its limits have a fault
abbrev pub limited : ItemStore → Result ItemStore ReadRefusal
limited s = limits_fault s >>= λ kept. Ok s

checked_again : (s : ItemStore) → derived_fault s.items ≡ fine → checked s ≡ limited s
unfolding checked
checked_again s d = rw d refl

parts_again : (F : List ℕ) (brands : Brands) (parts : Parts) (s : ItemStore) → IsStoreOf F brands parts s → reading_parts F brands parts ≡ limited s
unfolding reading_parts
parts_again F brands parts s p =
    let last : checked (store_at F (idat_of parts) brands s.primary p.tables) ≡ limited s = ap checked (sym p.is) ∙ checked_again s p.derived in
    rw (p.picture, p.primary, p.are_tables, p.placed) last

-- ---- the whole

pub store_read : (F : List ℕ) (brands : Brands) (parts : Parts) (s : ItemStore) → IsBytes F → IsMetaOf F brands parts → IsStoreOf F brands parts s → IsRead F s
store_read F brands parts s fits m p =
    let top = frames_spell BOXES true 0 F m.boxes fits m.framed in
    let opens = top_opens m.boxes (brands, m.meta) m.top in
    let meta_bytes : IsBytes m.meta.body = bytes_of_one F 0 true m.boxes META m.meta fits top.0 opens.level.one_meta in
    let ftyp_bytes : IsBytes opens.ftyp.body = bytes_of_one F 0 true m.boxes FTYP opens.ftyp fits top.0 opens.level.one_ftyp in
    let inner_bytes = IsBytes-drop 4 m.meta.body meta_bytes in
    let ch = children_are m.meta m.children m.inner in
    let place = m.meta.at + m.meta.head + 4 in
    let kids = frames_spell BOXES false place (drop 4 m.meta.body) m.children inner_bytes ch.1 in
    let are = parts_are m.children parts m.are_parts in
    let bytes : HaveBytes m.children = λ k x. bytes_of_first (drop 4 m.meta.body) place false m.children k x inner_bytes kids.0 in
    let same : brands ≡ s.brands = sym (ap (λ (x : ItemStore). x.brands) p.is ∙ store_brands F (idat_of parts) brands s.primary p.tables) in
    record {
      top = m.boxes;
      boxes = top.0;
      few_top = top.1;
      ftyp = opens.ftyp;
      meta = m.meta;
      level = opens.level;
      brands = subst (λ (x : Brands). IsFtyp opens.ftyp.body x) same (ftyp_found opens.ftyp.at opens.ftyp.body brands ftyp_bytes opens.brands_are);
      mif1 = ap has_mif1 (sym same) ∙ opens.mif1;
      children = m.children;
      full = ch.0;
      inner = kids.0;
      few_children = kids.1;
      parts = parts;
      are_parts = are;
      picture = hdlr_found parts.hdlr.at parts.hdlr.body (bytes HDLR parts.hdlr (first_from HDLR m.children parts.hdlr are.hdlr)) p.picture;
      primary = pitm_found parts.pitm.at parts.pitm.body s.primary (bytes PITM parts.pitm (first_from PITM m.children parts.pitm are.pitm)) p.primary;
      tables = p.tables;
      are_tables = tables_take m.children parts s.primary p.tables bytes are p.are_tables;
      placed = placed F (idat_of parts) (items_in p.tables) p.placed;
      is = p.is ∙ ap (λ (x : Brands). store_at F (idat_of parts) x s.primary p.tables) same;
      derived = p.derived;
    }

pub store_again : (F : List ℕ) (brands : Brands) (parts : Parts) (s : ItemStore) → IsMetaOf F brands parts → IsStoreOf F brands parts s → reading F ≡ limited s
unfolding reading
store_again F brands parts s m p = rw (m.framed, m.top, m.inner, m.are_parts) (parts_again F brands parts s p)

pub fault_again : (F : List ℕ) (brands : Brands) (parts : Parts) (e : ReadRefusal) → IsMetaOf F brands parts → reading_parts F brands parts ≡ Err e
    → reading F ≡ Err e
unfolding reading
fault_again F brands parts e m h = rw (m.framed, m.top, m.inner, m.are_parts) h

pub is_read : (F : List ℕ) (s : ItemStore) → IsBytes F → reading F ≡ Ok s → IsRead F s × (limits_fault s ≡ fine)
unfolding reading
is_read F s fits h =
    let a = bind_ok (frames true 0 F) _ s h in
    let b = bind_ok (top_of a.0) _ s a.2 in
    let c = bind_ok (children_at b.0.1) _ s b.2 in
    let d = bind_ok (parts_of c.0) _ s c.2 in
    let p = parts_taken F b.0.0 d.0 s d.2 in
    let m : IsMetaOf F b.0.0 d.0 = record { boxes = a.0; framed = a.1; meta = b.0.1; top = b.1; children = c.0; inner = c.1; are_parts = d.1 } in
    (store_read F b.0.0 d.0 s fits m p.0, p.1)

pub read_again : (F : List ℕ) (s : ItemStore) → IsRead F s → limits_fault s ≡ fine → reading F ≡ Ok s
read_again F s h limits =
    let brands = ftyp_only h.ftyp.at h.ftyp.body s.brands h.brands in
    let opens : Opens h.top s.brands h.meta = record { ftyp = h.ftyp; level = h.level; brands_are = brands; mif1 = h.mif1 } in
    let inner = boxes_read BOXES false (h.meta.at + h.meta.head + 4) (drop 4 h.meta.body) h.children h.inner h.few_children in
    let m : IsMetaOf F s.brands h.parts = record {
      boxes = h.top;
      framed = boxes_read BOXES true 0 F h.top h.boxes h.few_top;
      meta = h.meta;
      top = top_read h.top s.brands h.meta opens;
      children = h.children;
      inner = children_again h.meta h.children h.full inner;
      are_parts = parts_read h.children h.parts h.are_parts;
    } in
    let p : IsStoreOf F s.brands h.parts s = record {
      picture = hdlr_only h.parts.hdlr.at h.parts.hdlr.body h.picture;
      primary = pitm_only h.parts.pitm.at h.parts.pitm.body s.primary h.primary;
      tables = h.tables;
      are_tables = tables_again h.parts s.primary h.tables h.are_tables;
      placed = no_fault F (idat_of h.parts) (items_in h.tables) h.placed;
      is = h.is;
      derived = h.derived;
    } in
    store_again F s.brands h.parts s m p ∙ rw limits refl
