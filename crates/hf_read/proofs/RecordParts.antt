-- What stands in the boxes of tables: types of four bytes, and numbers that fit their fields.
use Rattle.std.proofs.Common.{◌≡◌, ℕ, ◌+◌, ◌^◌, ◌<◌, Bool, true, false, List, [], ◌∷◌, length, map, Option, Some, None, refl, sym, ap, subst, ◌∙◌, arith, inl, inr}
use Rattle.std.specs.Prelude.{◌%◌, ◌==◌}
use Rattle.std.specs.List.{AllZip}
use Rattle.std.proofs.lemmas.Bool.{cases_Bool}
use Rattle.hf_base.specs.Entries.{AreTexts, are_distinct}
use Rattle.hf_base.specs.Members.{IsIn}
use Rattle.hf_base.specs.declared.loc.RefBox.{RefBox}
use Rattle.hf_box.specs.Boxes.{BoxAt, IsBoxes}
use Rattle.hf_links.specs.Grpl.{Group, IsGroup}
use Rattle.hf_links.specs.Iref.{IsRefBox}
use Rattle.hf_order.proofs.Members.{from_map}
use Rattle.hf_prop.specs.declared.assoc.Assoc.{Assoc}
use Rattle.hf_prop.specs.declared.assoc.Pick.{Pick}
use Rattle.hf_prop.specs.declared.iprp.Iprp.{Iprp}
use Rattle.hf_prop.specs.declared.prop.Prop.{Prop}
use Rattle.hf_prop.specs.Ipma.{pick_width, mark, IsPick, IsAssoc, IsIpma, assoc_ids}
use Rattle.hf_prop.specs.Iprp.{prop_of, AreProps as ArePropsOf, IsIprp}
use Rattle.hf_read.specs.Tables.{AreLinks, AreProps, AreGroups, no_iprp}
use Rattle.hf_read.proofs.Filters.{from_flat}

-- ---- lists

pub in_zip : {A B : Type 0} (R : A → B → Type 0) (xs : List A) (ys : List B) → AllZip R xs ys → (y : B) → IsIn y ys → (x : A) × IsIn x xs × R x y
in_zip R [] [] z y h = absurd h
in_zip R [] (b ∷ bs) z y h = absurd z
in_zip R (a ∷ as') [] z y h = absurd z
in_zip R (a ∷ as') (b ∷ bs) z y (inl e) = (a, inl refl, subst (λ c. R a c) e z.0)
in_zip R (a ∷ as') (b ∷ bs) z y (inr h) = let r = in_zip R as' bs z.1 y h in (r.0, inr r.1, r.2)

in_texts : {A : Type 0} (IsText : List ℕ → A → Type 0) (bytes : List ℕ) (xs : List A) → AreTexts IsText bytes xs → (x : A) → IsIn x xs → (text : List ℕ) × IsText text x
in_texts IsText bytes [] texts x h = absurd h
in_texts IsText bytes (y ∷ ys) (text, rest, whole, is, more) x (inl e) = (text, subst (λ z. IsText text z) e is)
in_texts IsText bytes (y ∷ ys) (text, rest, whole, is, more) x (inr h) = in_texts IsText rest ys more x h

-- the types of boxes have four bytes
pub box_kinds : (bytes : List ℕ) (origin : ℕ) (top : Bool) (boxes : List BoxAt) → IsBoxes bytes origin top boxes → (b : BoxAt) → IsIn b boxes → length b.kind.0 ≡ 4
box_kinds bytes origin top [] are b h = absurd h
box_kinds bytes origin top (x ∷ xs) (text, rest, whole, place, four, spelled, more) b (inl e) = subst (λ (y : BoxAt). length y.kind.0 ≡ 4) e four
box_kinds bytes origin top (x ∷ xs) (text, rest, whole, place, four, spelled, more) b (inr h) = box_kinds rest (origin + length text) top xs more b h

-- ---- references

pub link_kinds : (o : Option BoxAt) (links : List RefBox) → AreLinks o links → (r : RefBox) → IsIn r links → length r.kind.0 ≡ 4
link_kinds None links are r h = absurd (subst (λ (l : List RefBox). IsIn r l) are h)
link_kinds (Some b) links are r h =
    let p = in_zip (IsRefBox are.width) are.boxes links are.each r h in
    ap (λ k. length k.0) p.2.kind ∙ box_kinds are.inner (b.at + b.head + 4) false are.boxes are.framed p.0 p.1

-- ---- groups

-- what a group that is read is known to be
pub record IsGoodGroup (g : Group) : Type 0 where
  pub kind : length g.kind.0 ≡ 4
  pub version : g.version < 256 ^ 1
  pub flags : g.flags < 256 ^ 3
  pub id : g.id < 256 ^ 4

pub good_groups : (o : Option BoxAt) (groups : List Group) → AreGroups o groups → (g : Group) → IsIn g groups → IsGoodGroup g
good_groups None groups are g h = absurd (subst (λ (l : List Group). IsIn g l) are h)
good_groups (Some b) groups are g h =
    let p = in_zip IsGroup are.boxes groups are.each g h in
    record {
      kind = ap (λ k. length k.0) p.2.kind ∙ box_kinds b.body (b.at + b.head) false are.boxes are.framed p.0 p.1;
      version = p.2.version;
      flags = p.2.flags;
      id = p.2.id;
    }

pub distinct_groups : (o : Option BoxAt) (groups : List Group) → AreGroups o groups → are_distinct (map (λ (g : Group). g.id) groups) ≡ true
distinct_groups None groups are = subst (λ (l : List Group). are_distinct (map (λ (g : Group). g.id) l) ≡ true) (sym are) refl
distinct_groups (Some b) groups are = are.distinct

-- ---- properties and associations

-- what properties and associations that are read are known to be
pub record IsGoodIprp (v : Iprp) : Type 0 where
  pub kinds : (p : Prop) → IsIn p v.props → length p.kind.0 ≡ 4
  pub few : (a : Assoc) → IsIn a v.assocs → length a.picks < 256
  pub below : (a : Assoc) (p : Pick) → IsIn a v.assocs → IsIn p a.picks → p.index < 2 ^ 15
  pub distinct : are_distinct (assoc_ids v.assocs) ≡ true

props_kinds : (o : Option BoxAt) (props : List Prop) → ArePropsOf o props → (p : Prop) → IsIn p props → length p.kind.0 ≡ 4
props_kinds None props are p h = absurd (subst (λ (l : List Prop). IsIn p l) are h)
props_kinds (Some b) props are p h =
    let m = from_map prop_of are.boxes p (subst (λ (l : List Prop). IsIn p l) are.is h) in
    ap (λ (q : Prop). length q.kind.0) (sym m.2) ∙ box_kinds b.body (b.at + b.head) false are.boxes are.framed m.0 m.1

-- an entry is that of a box
assoc_box : (b : BoxAt) (v : Iprp) (r : IsIprp b v) (a : Assoc) → IsIn a v.assocs → (m : BoxAt) × (t : List Assoc) × IsIpma m.body t × IsIn a t
assoc_box b v r a h =
    let p = from_flat (λ (t : List Assoc). t) r.tables a (subst (λ (l : List Assoc). IsIn a l) r.assocs h) in
    let z = in_zip (λ (m : BoxAt) (t : List Assoc). IsIpma m.body t) _ r.tables r.entries p.0 p.1 in
    (z.0, p.0, z.2, p.2)

below_mark : (flags n : ℕ) → n < mark (pick_width flags) → n < 2 ^ 15
below_mark flags n h = elim (cases_Bool (flags % 2 == 1)) [
  | inl two ↦ let w : pick_width flags ≡ 2 = rw two refl in subst (λ (k : ℕ). n < mark k) w h
  | inr one ↦ let w : pick_width flags ≡ 1 = rw one refl in let small : n < 2 ^ 7 = subst (λ (k : ℕ). n < mark k) w h in omega (arith, small)
]

good_box : (b : BoxAt) (v : Iprp) → IsIprp b v → IsGoodIprp v
good_box b v r = record {
  kinds = props_kinds r.ipco v.props r.props;
  few = λ a h.
      let m = assoc_box b v r a h in
      let t = in_texts (IsAssoc m.2.width (pick_width m.2.flags)) m.2.entries m.1 m.2.texts a m.3 in
      t.1.count;
  below = λ a p h k.
      let m = assoc_box b v r a h in
      let w = pick_width m.2.flags in
      let t = in_texts (IsAssoc m.2.width w) m.2.entries m.1 m.2.texts a m.3 in
      let q = in_texts (IsPick w) t.1.parts a.picks t.1.picks p k in
      below_mark m.2.flags p.index q.1.0;
  distinct = r.distinct;
}

good_none : IsGoodIprp no_iprp
good_none = record { kinds = λ p h. absurd h; few = λ a h. absurd h; below = λ a p h k. absurd h; distinct = refl }

pub good_iprp : (o : Option BoxAt) (v : Iprp) → AreProps o v → IsGoodIprp v
good_iprp None v are = subst IsGoodIprp (sym are) good_none
good_iprp (Some b) v are = good_box b v are
