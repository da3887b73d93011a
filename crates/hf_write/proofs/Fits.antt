-- What is written fits its fields.
use Rattle.std.proofs.Common.{◌≡◌, ℕ, zero, suc, ◌^◌, ◌<◌, ◌≤◌, Bool, true, List, [], ◌∷◌, ◌++◌, length, length-append, refl, sym, ap, ◌∙◌, arith, subst, inl, inr, Some}
use Rattle.std.specs.Prelude.{slice_get}
use Rattle.std.specs.List.{AllByRecursion, flat_map, filter}
use Rattle.std.proofs.lemmas.Bool.{cases_Bool}
use Rattle.std.proofs.lemmas.List.Elements.{All-from_recursion}
use Rattle.hf_base.specs.Number.{num}
use Rattle.hf_base.specs.Reading.{full as full_box}
use Rattle.hf_base.specs.declared.four.FourCc.{FourCc}
use Rattle.hf_base.specs.declared.limits.TheConstants as limits
use Rattle.hf_box.specs.Head.{box_len}
use Rattle.hf_box.specs.Literals.{four}
use Rattle.hf_box.specs.Written.{id_width, id_version}
use Rattle.hf_info.specs.Infe.{Info, infe_box}
use Rattle.hf_info.specs.Iinf.{iinf_body}
use Rattle.hf_links.specs.Grpl.{group_box, group_body, grpl_body}
use Rattle.hf_loc.specs.Iloc.{offset_width}
use Rattle.hf_store.specs.Layout.{own, is_wide, has_bytes, with_bytes, info_of, infos_of, box_if_any}
use Rattle.hf_store.specs.Store.{Item, Group, ItemStore, ids_of}
use Rattle.hf_store.specs.Table.{table_of}
use Rattle.hf_store.specs.Valid.{IsGoodRef, IsGoodItem, IsGoodGroup, Valid}
use Rattle.hf_store.specs.declared.item.RefList.{RefList}
use Rattle.hf_store.proofs.BoxLengths.{length-box, le-box_len}
use Rattle.hf_store.proofs.Cuts.{filter-le}
use Rattle.hf_store.proofs.Spots.{holds_here, id_here, get_map, some_is}
use Rattle.hf_plan.specs.Canon.{Canon}
use Rattle.hf_plan.specs.Lay.{IsWrittenRef, IsWrittenItem, IsWrittenExtent, IsWritten}
use Rattle.hf_plan.specs.Plan.{Planned, IsPlan}
use Rattle.hf_plan.proofs.Bounds.{ids_below, in_below, count_fits}
use Rattle.hf_plan.proofs.OneFile.{has_canon}
use Rattle.hf_plan.proofs.Plans.{plan_finds}
use Rattle.hf_write.specs.Entries.{IsShortRef}
use Rattle.hf_write.proofs.Sized.{are_front}

-- each number of the file of a plan fits its field
pub written : (s : ItemStore) (p : Planned) → Valid s → IsPlan s p → IsWritten own (offset_width p.long) p.total s
written s p valid plan =
    let file = has_canon s valid in
    let found = plan_finds s p file.0 valid plan file.1 in
    subst (λ (n : ℕ). IsWritten own (offset_width p.long) n s) found.1 found.0.numbers

pub id_fits : (s : ItemStore) (wide : Bool) (k : ℕ) (i : Item) → Valid s → wide ≡ is_wide s.items → slice_get s.items k ≡ Some i → i.id < 256 ^ id_width wide
id_fits s wide k i valid e here =
    rw e (holds_here (λ (id : ℕ). id < 256 ^ id_width (is_wide s.items)) (ids_of s.items) k i.id (ids_below s.items valid.items) (id_here s.items k i here))

pub primary_fits : (s : ItemStore) (wide : Bool) (id : ℕ) → Valid s → wide ≡ is_wide s.items → id ≡ s.primary → id < 256 ^ id_width wide
primary_fits s wide id valid e same = rw (e, same) (in_below s.primary (256 ^ id_width (is_wide s.items)) (ids_of s.items) valid.primary (ids_below s.items valid.items))

pub items_fit : (s : ItemStore) (wide : Bool) → Valid s → wide ≡ is_wide s.items → length s.items < 256 ^ id_width wide
items_fit s wide valid e = rw e (count_fits s valid)

pub located_fit : (s : ItemStore) (wide : Bool) → Valid s → wide ≡ is_wide s.items → length (with_bytes s.items) < 256 ^ id_width wide
located_fit s wide valid e = omega (arith, items_fit s wide valid e, filter-le (λ (i : Item). has_bytes i.bytes) s.items)

-- a part is no longer than all
pub part-le : {X : Type 0} (f : X → List ℕ) (xs : List X) (k : ℕ) (x : X) → slice_get xs k ≡ Some x → length (f x) ≤ length (flat_map f xs)
part-le f [] k x e = absurd cc
part-le f (y ∷ ys) zero x e = omega (arith, length-append (f y) (flat_map f ys), ap (λ z. length (f z)) (some_is e))
part-le f (y ∷ ys) (suc k) x e = omega (arith, length-append (f y) (flat_map f ys), part-le f ys k x e)

-- the entry of an item in `iinf` is short
behind : (c a b : List ℕ) → length c ≤ length (a ++ b ++ c)
behind c a b = omega (arith, length-append (a ++ b) c)

entries-le : (wide : Bool) (is : List Info) → length (flat_map (infe_box wide) is) ≤ length (iinf_body wide is)
unfolding iinf_body
entries-le wide is = behind (flat_map (infe_box wide) is) (full_box (id_version wide) 0) (num (length is) (id_width wide))

pub infe_few : (s : ItemStore) (wide : Bool) (k : ℕ) (i : Item) → Valid s → wide ≡ is_wide s.items → slice_get s.items k ≡ Some i → length (infe_box wide (info_of i)) ≤ limits.META
infe_few s wide k i valid e here =
    let v = is_wide s.items in
    let part = part-le (infe_box v) (infos_of s.items) k (info_of i) (get_map info_of s.items k i here) in
    let body = iinf_body v (infos_of s.items) in
    let few : length body ≤ limits.META = omega (arith, (are_front s valid).iinf, length-box (four "iinf") body refl, le-box_len (length body)) in
    let all : length (infe_box v (info_of i)) ≤ limits.META = omega (arith, few, part, entries-le v (infos_of s.items)) in
    subst (λ (w : Bool). length (infe_box w (info_of i)) ≤ limits.META) (sym e) all

-- ---- references

-- each number of an item fits
pub item_fits : (s : ItemStore) (k : ℕ) (i : Item) → Valid s → slice_get s.items k ≡ Some i → IsWrittenItem (is_wide s.items) (table_of s) i
item_fits s k i valid here = holds_here (IsWrittenItem (is_wide s.items) (table_of s)) s.items k i (numbers (has_canon s valid)) here
  where
    numbers : ((F : List ℕ) × Canon s F) → AllByRecursion (IsWrittenItem (is_wide s.items) (table_of s)) s.items
    numbers (F, inl narrow) = narrow.0.numbers.items
    numbers (F, inr wide) = wide.1.numbers.items

short_refs : (is : List Item) (wide : Bool) (rs : List RefList) → AllByRecursion (IsGoodRef is) rs → AllByRecursion (IsWrittenRef wide) rs → AllByRecursion (IsShortRef wide) rs
short_refs is wide [] good fit = tt
short_refs is wide (r ∷ rs) good fit =
    ((good.0.links, λ narrow. All-from_recursion (λ (id : ℕ). id < 256 ^ 2) r.to (subst (λ (v : Bool). AllByRecursion (λ (id : ℕ). id < 256 ^ id_width v) r.to) narrow fit.0.1)), short_refs is wide rs good.1 fit.1)

pub refs_fit : (s : ItemStore) (wide : Bool) (k : ℕ) (i : Item) → Valid s → wide ≡ is_wide s.items → slice_get s.items k ≡ Some i → AllByRecursion (IsShortRef wide) i.refs
refs_fit s wide k i valid e here =
    let good : IsGoodItem s.items i = holds_here (IsGoodItem s.items) s.items k i valid.items here in
    let fit = item_fits s k i valid here in
    rw e (short_refs s.items (is_wide s.items) i.refs good.refs fit.refs)

-- ---- groups

pub flags_fit : (s : ItemStore) (k : ℕ) (g : Group) → Valid s → slice_get s.groups k ≡ Some g → g.flags < 256 ^ 3
flags_fit s k g valid here = let good : IsGoodGroup s.items g = holds_here (IsGoodGroup s.items) s.groups k g valid.groups here in good.flags

any-le : {A : Type 0} (kind : FourCc) (body : List A → List ℕ) (xs : List A) (k : ℕ) (x : A) → length kind.0 ≡ 4 → slice_get xs k ≡ Some x → length (body xs) ≤ length (box_if_any kind body xs)
unfolding box_if_any
any-le kind body [] k x is_four here = absurd cc
any-le kind body (y ∷ ys) k x is_four here = omega (arith, length-box kind (body (y ∷ ys)) is_four, le-box_len (length (body (y ∷ ys))))

pub group_few : (s : ItemStore) (k : ℕ) (g : Group) → Valid s → slice_get s.groups k ≡ Some g → box_len (length (group_body g)) ≤ limits.META
unfolding grpl_body
group_few s k g valid here =
    let good : IsGoodGroup s.items g = holds_here (IsGoodGroup s.items) s.groups k g valid.groups here in
    omega (arith, length-box g.kind (group_body g) good.kind, part-le group_box s.groups k g here, any-le (four "grpl") grpl_body s.groups k g refl here, (are_front s valid).grpl)

-- ---- extents

-- a fact of those that are taken is one of what stands at a place and is taken
where_here : {A : Type 0} (P : A → Type 0) (q : A → Bool) (xs : List A) (k : ℕ) (x : A) → AllByRecursion P (filter q xs) → slice_get xs k ≡ Some x → q x ≡ true → P x
where_here P q [] k x all here is = absurd cc
where_here P q (y ∷ ys) zero x all here is =
    let taken : q y ≡ true = ap q (some_is here) ∙ is in
    let first : P y = (rw taken at all).0 in
    subst P (some_is here) first
where_here P q (y ∷ ys) (suc k) x all here is =
    elim (cases_Bool (q y)) [
      | inl taken ↦ where_here P q ys k x (rw taken at all).1 here is
      | inr left ↦ where_here P q ys k x (rw left at all) here is
    ]

pub extent_fits : (s : ItemStore) (p : Planned) (k : ℕ) (i : Item) → Valid s → IsPlan s p → slice_get s.items k ≡ Some i → has_bytes i.bytes ≡ true → IsWrittenExtent own (offset_width p.long) p.total s.items i
extent_fits s p k i valid plan here some =
    where_here (IsWrittenExtent own (offset_width p.long) p.total s.items) (λ (j : Item). has_bytes j.bytes) s.items k i (written s p valid plan).extents here some
