-- A plan gives the canonical file.
use Rattle.std.proofs.Common.{◌≡◌, ℕ, ◌^◌, ◌<◌, ◌≤◌, Bool, true, false, cond, List, length, Some, None, refl, sym, ap, ◌∙◌, subst, arith, inl, inr}
use Rattle.std.specs.Prelude.{nat_le, slice_get}
use Rattle.std.proofs.lemmas.Bool.{leb-true, leb-false}
use Rattle.hf_box.specs.Head.{box_len, box}
use Rattle.hf_box.specs.Literals.{four}
use Rattle.hf_loc.specs.Iloc.{offset_width, iloc_body}
use Rattle.hf_store.specs.Layout.{own, is_wide, has_bytes, offset_of, entries_of, meta_body, laid}
use Rattle.hf_store.specs.Store.{Item, ItemStore}
use Rattle.hf_store.specs.Valid.{Valid}
use Rattle.hf_store.proofs.BoxLengths.{length-box}
use Rattle.hf_store.proofs.Lengths.{meta_body_len, length-meta_body, length-iloc_body}
use Rattle.hf_store.proofs.Spots.{some_is, get_map, in_at}
use Rattle.hf_plan.specs.Canon.{Canon}
use Rattle.hf_plan.specs.Laws.{PlanIsCanon}
use Rattle.hf_plan.specs.Lay.{Lay}
use Rattle.hf_plan.specs.Places.{source_of, StandsAt}
use Rattle.hf_plan.specs.Plan.{start_of, sizes_of, Planned, IsPlan}
use Rattle.hf_plan.specs.declared.sizes.Sizes.{Sizes}
use Rattle.hf_plan.proofs.Bounds.{own_homes, lays, file_len-bound}
use Rattle.hf_plan.proofs.Lengths.{file_len, length-laid, length-LayBy}
use Rattle.hf_plan.proofs.OneFile.{one_canon}
use Rattle.hf_plan.proofs.Places.{bytes_stand}

canon_by : (s : ItemStore) (long : Bool) (total : ℕ) (F : List ℕ) → Valid s → long ≡ nat_le (2 ^ 32) (length (laid own 4 0 s))
    → total ≡ length (laid own (offset_width long) 0 s)
    → F ≡ laid own (offset_width long) total s → Canon s F × Lay s (offset_width long) F
canon_by s true total F valid long e made =
    let at : total ≡ file_len own 8 s = e ∙ length-laid own 8 0 s in
    let bound = file_len-bound own s valid in
    let file : laid own 8 (file_len own 8 s) s ≡ F = ap (λ (n : ℕ). laid own 8 n s) (sym at) ∙ sym made in
    let big : 2 ^ 32 ≤ length (laid own 4 0 s) = leb-true _ _ (sym long) in
    let lay : Lay s 8 F = subst (λ (G : List ℕ). Lay s 8 G) file (lays own own_homes 8 s valid (omega (arith, bound)) (omega (arith, bound))) in
    (inr ((λ G short. omega (arith, length-LayBy own s 4 G short.0, short.1, length-laid own 4 0 s, big)), lay), lay)
canon_by s false total F valid long e made =
    let at : total ≡ file_len own 4 s = e ∙ length-laid own 4 0 s in
    let few : length (laid own 4 0 s) < 2 ^ 32 = leb-false _ _ (sym long) in
    let small : file_len own 4 s < 2 ^ 32 = omega (arith, few, length-laid own 4 0 s) in
    let file : laid own 4 (file_len own 4 s) s ≡ F = ap (λ (n : ℕ). laid own 4 n s) (sym at) ∙ sym made in
    let lay : Lay s 4 F = subst (λ (G : List ℕ). Lay s 4 G) file (lays own own_homes 4 s valid small (omega (arith, small))) in
    (inl (lay, omega (arith, ap length file, length-laid own 4 (file_len own 4 s) s, small)), lay)

-- the bytes that are laid as the plan says are the canonical file
pub plan_canon : (s : ItemStore) (p : Planned) (F : List ℕ) → Valid s → IsPlan s p → F ≡ laid own (offset_width p.long) p.total s → Canon s F
plan_canon s p F valid plan made = (canon_by s p.long p.total F valid plan.long plan.total made).0

pub plan_finds : (s : ItemStore) (p : Planned) (F : List ℕ) → Valid s → IsPlan s p → Canon s F → Lay s (offset_width p.long) F × (length F ≡ p.total)
plan_finds s p F valid plan canon =
    let w = offset_width p.long in
    let both = canon_by s p.long p.total (laid own w p.total s) valid plan.long plan.total refl in
    let same : laid own w p.total s ≡ F = one_canon s (laid own w p.total s) F both.0 canon in
    (subst (λ (G : List ℕ). Lay s w G) same both.1, ap length (sym same) ∙ length-laid own w p.total s ∙ sym (length-laid own w 0 s) ∙ sym plan.total)

-- ---- what a plan says of that file

-- the boxes with offsets in them are as long with any offsets
meta_at : (s : ItemStore) (p : Planned) (n : ℕ) → IsPlan s p → length (box (four "meta") (meta_body own (offset_width p.long) n s)) ≡ p.sizes.meta
unfolding sizes_of
meta_at s p n plan =
    let w = offset_width p.long in
    let long : (m : ℕ) → length (box (four "meta") (meta_body own w m s)) ≡ box_len (meta_body_len w s) = λ m.
    length-box (four "meta") (meta_body own w m s) refl ∙ ap box_len (length-meta_body own w m s)
    in
    long n ∙ sym (long 0) ∙ sym (ap (λ (x : Sizes). x.meta) plan.sizes)

iloc_at : (s : ItemStore) (p : Planned) (n : ℕ) → IsPlan s p
    → length (box (four "iloc") (iloc_body p.wide (offset_width p.long) (entries_of own n s.items))) ≡ p.sizes.iloc
unfolding sizes_of
iloc_at s p n plan =
    let w = offset_width p.long in
    let text : Bool → ℕ → List ℕ = λ wide m. iloc_body wide w (entries_of own m s.items) in
    let long : (m : ℕ) → length (box (four "iloc") (text (is_wide s.items) m)) ≡ box_len (length (text (is_wide s.items) 0)) = λ m.
    length-box (four "iloc") (text (is_wide s.items) m) refl
    ∙ ap box_len (length-iloc_body own (is_wide s.items) w m s.items ∙ sym (length-iloc_body own (is_wide s.items) w 0 s.items))
    in
    ap (λ (b : Bool). length (box (four "iloc") (text b n))) plan.wide ∙ long n ∙ sym (long 0) ∙ sym (ap (λ (x : Sizes). x.iloc) plan.sizes)

-- an offset that is told is that of an item with bytes
start_some : (has : Bool) (offset n : ℕ) → cond has (Some offset) None ≡ Some n → (has ≡ true) × (offset ≡ n)
start_some true offset n e = (refl, some_is e)
start_some false offset n e = absurd cc

start_stands : (s : ItemStore) (p : Planned) (F : List ℕ) (i n : ℕ) (item : Item) → Valid s → IsPlan s p → Lay s (offset_width p.long) F → length F ≡ p.total
    → slice_get s.items i ≡ Some item → slice_get p.starts i ≡ Some (Some n) → StandsAt n item.bytes (source_of F s.items item)
start_stands s p F i n item valid plan lay total here start =
    let told : slice_get p.starts i ≡ Some (start_of own p.total s.items item) =
    ap (λ os. slice_get os i) plan.starts ∙ get_map (start_of own p.total s.items) s.items i item here
    in
    let is = start_some (has_bytes item.bytes) (offset_of own p.total s.items item) n (some_is (sym told ∙ start)) in
    let at : offset_of own (length F) s.items item ≡ n = ap (λ (m : ℕ). offset_of own m s.items item) total ∙ is.1 in
    subst (λ (m : ℕ). StandsAt m item.bytes (source_of F s.items item)) at
    (bytes_stand s (offset_width p.long) F item valid lay (in_at s.items i item here) is.0)

pub plan_is_canon : PlanIsCanon
plan_is_canon s p F valid plan canon =
    let found = plan_finds s p F valid plan canon in
    record {
      lay = found.0;
      total = found.1;
      meta = meta_at s p (length F) plan;
      iloc = iloc_at s p (length F) plan;
      start = λ i n item here start. start_stands s p F i n item valid plan found.0 found.1 here start;
    }
