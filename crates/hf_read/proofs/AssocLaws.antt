-- The properties of items, gathered from entry to entry.
use Rattle.std.proofs.Common.{◌≡◌, ℕ, zero, suc, ◌+◌, ◌<◌, true, false, eqb, List, [], ◌∷◌, ◌++◌, length, map, take, get_or, set, refl, sym, ap, subst, ◌∙◌, arith, inl, inr, ◌⊎◌, Option, None}
use Rattle.std.specs.List.{filter, flat_map}
use Rattle.std.specs.Option.{option_map, option_to_list}
use Rattle.std.proofs.lemmas.Bool.{ne_eqb, eq-eqb}
use Rattle.std.proofs.lemmas.List.{append-nil, take_more, get_or-map, map-append}
use Rattle.std.proofs.lemmas.List.Concat.{flat_map-append}
use Rattle.std.proofs.lemmas.List.Elements.{filter-append}
use Rattle.std.proofs.lemmas.Option.{slice_get_past}
use Rattle.hf_base.specs.Entries.{has_id}
use Rattle.hf_base.specs.Members.{IsIn, RisesFrom, Rises}
use Rattle.hf_base.proofs.LevelLaws.{map_same}
use Rattle.hf_base.proofs.Rising.{rises_at}
use Rattle.hf_order.proofs.Members.{not_has}
use Rattle.hf_prop.specs.declared.held.Held.{Held}
use Rattle.hf_prop.specs.declared.assoc.Assoc.{Assoc}
use Rattle.hf_prop.specs.declared.assoc.Pick.{Pick}
use Rattle.hf_prop.specs.declared.prop.Prop.{Prop}
use Rattle.hf_read.specs.Kept.{picks_of, prop_at, held_at, kept_props}

-- ---- one association

none_at : (n : ℕ) (props : List Prop) → (n ≡ 0) ⊎ (length props < n) → prop_at n props ≡ None
none_at zero props which = refl
none_at (suc k) props (inl e) = absurd cc
none_at (suc k) props (inr past) = slice_get_past props k (omega (arith, past))

-- a number that is 0, or past the end, selects nothing
pub none_held : (props : List Prop) (p : Pick) → (p.index ≡ 0) ⊎ (length props < p.index) → held_at props p ≡ []
none_held props p which =
    ap (λ (o : Option Prop). option_to_list (option_map (λ (prop : Prop). record { essential = p.essential; prop = prop }) o)) (none_at p.index props which)

-- ---- one entry

-- with these entries
abbrev pub with_assocs : List Prop → List Assoc → ℕ → List Held
with_assocs props assocs id = kept_props (record { props = props; assocs = assocs }) id

picks_same : (assocs : List Assoc) (a : Assoc) (id : ℕ) → eqb a.item id ≡ false → picks_of id (assocs ++ a ∷ []) ≡ picks_of id assocs
picks_same assocs a id other =
    let none : filter (λ (x : Assoc). eqb x.item id) (a ∷ []) ≡ [] = rw other refl in
    ap (flat_map (λ (x : Assoc). x.picks)) (filter-append (λ (x : Assoc). eqb x.item id) assocs (a ∷ [])
    ∙ ap (λ (l : List Assoc). filter (λ (x : Assoc). eqb x.item id) assocs ++ l) none ∙ append-nil (filter (λ (x : Assoc). eqb x.item id) assocs))

picks_joined : (assocs : List Assoc) (a : Assoc) (id : ℕ) → eqb a.item id ≡ true → picks_of id (assocs ++ a ∷ []) ≡ picks_of id assocs ++ a.picks
picks_joined assocs a id same =
    let one : filter (λ (x : Assoc). eqb x.item id) (a ∷ []) ≡ a ∷ [] = rw same refl in
    ap (flat_map (λ (x : Assoc). x.picks)) (filter-append (λ (x : Assoc). eqb x.item id) assocs (a ∷ [])
    ∙ ap (λ (l : List Assoc). filter (λ (x : Assoc). eqb x.item id) assocs ++ l) one)
    ∙ flat_map-append (λ (x : Assoc). x.picks) (filter (λ (x : Assoc). eqb x.item id) assocs) (a ∷ [])
    ∙ ap (λ (l : List Pick). picks_of id assocs ++ l) (append-nil a.picks)

held_same : (props : List Prop) (assocs : List Assoc) (a : Assoc) (id : ℕ) → (a.item ≡ id → ⊥)
    → with_assocs props assocs id ≡ with_assocs props (assocs ++ a ∷ []) id
unfolding kept_props
held_same props assocs a id other = sym (ap (flat_map (held_at props)) (picks_same assocs a id (ne_eqb a.item id other)))

held_joined : (props : List Prop) (assocs : List Assoc) (a : Assoc) (id : ℕ) → a.item ≡ id
    → with_assocs props (assocs ++ a ∷ []) id ≡ with_assocs props assocs id ++ flat_map (held_at props) a.picks
unfolding kept_props
held_joined props assocs a id same =
    ap (flat_map (held_at props)) (picks_joined assocs a id (eq-eqb a.item id same)) ∙ flat_map-append (held_at props) (picks_of id assocs) a.picks

-- ---- all items

past : (low : ℕ) (xs : List ℕ) (x : ℕ) → RisesFrom ◌<◌ low xs → IsIn x xs → low < x
past low [] x up h = absurd h
past low (y ∷ ys) x up (inl e) = subst (λ n. low < n) e up.0
past low (y ∷ ys) x up (inr h) = let first : low < y = up.0 in let more = past y ys x up.1 h in omega (arith, first, more)

rest_rises : (x : ℕ) (xs : List ℕ) → Rises ◌<◌ (x ∷ xs) → Rises ◌<◌ xs
rest_rises x [] up = tt
rest_rises x (y ∷ ys) up = up.1

-- a list with an element for each id, of which that of one id becomes another one
pub set_one : {B : Type 0} (f g : ℕ → B) (ids : List ℕ) (at : ℕ) (b : B) → Rises ◌<◌ ids → at < length ids → b ≡ g (get_or ids at 0)
    → ((id : ℕ) → (get_or ids at 0 ≡ id → ⊥) → f id ≡ g id) → set (map f ids) at b ≡ map g ids
set_one f g [] at b up less is others = absurd (omega (arith, less))
set_one {B = B} f g (x ∷ xs) zero b up less is others =
    ap (λ (y : B). y ∷ map f xs) is
    ∙ ap (λ (l : List B). g x ∷ l) (map_same f g xs (λ y h. others y (λ e. let lt = past x xs y up h in absurd (omega (arith, lt, e)))))
set_one {B = B} f g (x ∷ xs) (suc k) b up less is others =
    let lt = rises_at (x ∷ xs) up 0 (suc k) (omega arith) less in
    ap (λ (y : B). y ∷ set (map f xs) k b) (others x (λ e. absurd (omega (arith, lt, e))))
    ∙ ap (λ (l : List B). g x ∷ l) (set_one f g xs k b (rest_rises x xs up) (omega (arith, less)) is others)

pub entry_more : (props : List Prop) (assocs : List Assoc) (a : Assoc) (ids : List ℕ) (lists : List (List Held)) (at : ℕ) (old new : List Held) → Rises ◌<◌ ids
    → at < length ids → get_or ids at 0 ≡ a.item → old ≡ get_or lists at old → new ≡ old ++ flat_map (held_at props) a.picks
    → lists ≡ map (with_assocs props assocs) ids → set lists at new ≡ map (with_assocs props (assocs ++ a ∷ [])) ids
entry_more props assocs a ids lists at old new up less item is done so_far =
    let was : old ≡ with_assocs props assocs (get_or ids at 0) =
    is ∙ ap (λ (l : List (List Held)). get_or l at old) so_far ∙ get_or-map (with_assocs props assocs) ids at 0 old less in
    let became : new ≡ with_assocs props (assocs ++ a ∷ []) (get_or ids at 0) =
    done ∙ ap (λ (l : List Held). l ++ flat_map (held_at props) a.picks) was ∙ sym (held_joined props assocs a (get_or ids at 0) (sym item)) in
    ap (λ (l : List (List Held)). set l at new) so_far
    ∙ set_one (with_assocs props assocs) (with_assocs props (assocs ++ a ∷ [])) ids at new up less became
    (λ id other. held_same props assocs a id (λ e. other (item ∙ e)))

pub entry_nowhere : (props : List Prop) (assocs : List Assoc) (a : Assoc) (ids : List ℕ) → has_id a.item ids ≡ false
    → map (with_assocs props assocs) ids ≡ map (with_assocs props (assocs ++ a ∷ [])) ids
entry_nowhere props assocs a ids none =
    map_same (with_assocs props assocs) (with_assocs props (assocs ++ a ∷ [])) ids
    (λ id h. held_same props assocs a id (λ e. not_has a.item ids none (subst (λ n. IsIn n ids) (sym e) h)))

-- none yet
abbrev no_props : ℕ → List Held
no_props id = []

pub one_empty : (ids : List ℕ) (i : ℕ) (lists : List (List Held)) → i < length ids
    → lists ≡ map no_props (take i ids) → lists ++ [] ∷ [] ≡ map no_props (take (i + 1) ids)
one_empty ids i lists less so_far =
    ap (λ (l : List (List Held)). l ++ [] ∷ []) so_far ∙ sym (ap (map no_props) (take_more ids i 0 less) ∙ map-append no_props (take i ids) (get_or ids i 0 ∷ []))

pub no_entries : (props : List Prop) (ids : List ℕ) → map no_props ids ≡ map (with_assocs props []) ids
unfolding kept_props
no_entries props ids = refl
