-- The links of pairs, gathered from left to right.
use Rattle.std.proofs.Common.{◌≡◌, ℕ, zero, suc, ◌+◌, ◌<◌, ◌≤◌, true, false, List, [], ◌∷◌, ◌++◌, length, take, get_or, refl, sym, ap, ◌∙◌, arith, Option, Some, None, append_assoc}
use Rattle.std.specs.List.{filter_map, cons_option}
use Rattle.std.specs.Option.{option_map, option_to_list}
use Rattle.std.specs.Prelude.{◌==◌}
use Rattle.std.proofs.lemmas.Bool.Decides.{nat_tests}
use Rattle.std.proofs.lemmas.List.{append-nil, take_all}
use Rattle.hf_base.specs.declared.loc.Extent.{Extent}
use Rattle.hf_extent.specs.declared.items.Located.{Located}
use Rattle.hf_extent.specs.Seen.{item_seen, items_seen}
use Rattle.hf_base.specs.Located.{Located as Stated}
use Rattle.hf_extent.specs.Places.{place_of, item_links, links_from}

go : {B : Type 0} (o : Option B) (bs : List B) → cons_option o bs ≡ option_to_list o ++ bs
go None bs = refl
go (Some b) bs = refl

cons_or_not : {A B : Type 0} (h : A → Option B) (x : A) (xs : List A) → filter_map h (x ∷ xs) ≡ option_to_list (h x) ++ filter_map h xs
cons_or_not h x xs = go (h x) (filter_map h xs)

mapped_more : {A B : Type 0} (h : A → Option B) (xs : List A) (i : ℕ) (d : A) → i < length xs
    → filter_map h (take (i + 1) xs) ≡ filter_map h (take i xs) ++ option_to_list (h (get_or xs i d))
mapped_more h [] i d less = absurd (omega arith)
mapped_more h (x ∷ xs) zero d less = cons_or_not h x [] ∙ append-nil (option_to_list (h x))
mapped_more h (x ∷ xs) (suc i) d less =
    let e : suc i + 1 ≡ suc (i + 1) = omega arith in
    rw e (cons_or_not h x (take (i + 1) xs)
    ∙ ap (λ l. option_to_list (h x) ++ l) (mapped_more h xs i d (omega arith))
    ∙ sym (append_assoc (option_to_list (h x)) (filter_map h (take i xs)) (option_to_list (h (get_or xs i d))))
    ∙ ap (λ l. l ++ option_to_list (h (get_or xs i d))) (sym (cons_or_not h x (take i xs))))

pub pairs_more : (h : Extent → Option (ℕ × ℕ)) (es : List Extent) (i : ℕ) (d : Extent) (front pairs next : List (ℕ × ℕ))
    → pairs ≡ front ++ filter_map h (take i es) → i < length es
    → next ≡ pairs ++ option_to_list (h (get_or es i d)) → next ≡ front ++ filter_map h (take (i + 1) es)
pairs_more h es i d front pairs next so_far less e =
    e ∙ ap (λ l. l ++ option_to_list (h (get_or es i d))) so_far ∙ append_assoc front (filter_map h (take i es)) (option_to_list (h (get_or es i d)))
    ∙ ap (λ l. front ++ l) (sym (mapped_more h es i d less))

pub links_more : (ids : List ℕ) (n : ℕ) (items : List Located) (i : ℕ) (x : Located) → i < length items → x ≡ get_or items i x
    → links_from ids n (items_seen (take (i + 1) items)) ≡ links_from ids n (items_seen (take i items)) ++ item_links ids (n + i) (item_seen x)
unfolding links_from
links_more ids n [] i x less is = absurd (omega arith)
links_more ids n (r ∷ rs) zero x less is =
    let e : n + 0 ≡ n = omega arith in
    rw e (append-nil (item_links ids n (item_seen r)) ∙ ap (λ (y : Located). item_links ids n (item_seen y)) (sym is))
links_more ids n (r ∷ rs) (suc i) x less is =
    let e : suc i + 1 ≡ suc (i + 1) = omega arith in
    let f : n + suc i ≡ suc n + i = omega arith in
    rw (e, f) (ap (λ l. item_links ids n (item_seen r) ++ l) (links_more ids (suc n) rs i x (omega arith) is)
    ∙ sym (append_assoc (item_links ids n (item_seen r)) (links_from ids (suc n) (items_seen (take i rs))) (item_links ids (suc n + i) (item_seen x))))

pub links_step : (ids : List ℕ) (items : List Located) (i : ℕ) (x : Located) (pairs next : List (ℕ × ℕ))
    → pairs ≡ links_from ids 0 (items_seen (take i items)) → i < length items → x ≡ get_or items i x
    → next ≡ pairs ++ item_links ids i (item_seen x) → next ≡ links_from ids 0 (items_seen (take (i + 1) items))
links_step ids items i x pairs next so_far less is e =
    let z : 0 + i ≡ i = omega arith in
    e ∙ ap (λ l. l ++ item_links ids i (item_seen x)) so_far
    ∙ ap (λ n. links_from ids 0 (items_seen (take i items)) ++ item_links ids n (item_seen x)) (sym z) ∙ sym (links_more ids 0 items i x less is)

-- ---- the links of one item

pub no_links : (ids : List ℕ) (i : ℕ) (r : Stated) → (r.method ≡ 2 → ⊥) → item_links ids i r ≡ []
no_links ids i r other = let t : (r.method == 2) ≡ false = grind (arith, nat_tests) in rw t refl

pub links_of_extents : (ids : List ℕ) (i n : ℕ) (r : Stated) (front pairs : List (ℕ × ℕ))
    → pairs ≡ front ++ filter_map (λ (e : Extent). option_map (λ (k : ℕ). (i, k)) (place_of ids r e)) (take n r.extents)
    → length r.extents ≤ n → r.method ≡ 2 → pairs ≡ front ++ item_links ids i r
links_of_extents ids i n r front pairs so_far all two =
    let t : (r.method == 2) ≡ true = grind (arith, nat_tests) in
    let links : item_links ids i r ≡ filter_map (λ (e : Extent). option_map (λ (k : ℕ). (i, k)) (place_of ids r e)) r.extents = rw t refl in
    so_far ∙ ap (λ (es : List Extent). front ++ filter_map (λ (e : Extent). option_map (λ (k : ℕ). (i, k)) (place_of ids r e)) es) (take_all n r.extents all)
    ∙ ap (λ (l : List (ℕ × ℕ)). front ++ l) (sym links)
