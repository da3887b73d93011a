-- The boxes inside others, where each has a header of eight bytes.
use Rattle.std.proofs.Common.{◌≡◌, ℕ, ◌+◌, ◌*◌, ◌^◌, ◌<◌, ◌≤◌, Bool, true, false, List, [], ◌∷◌, length, length-append, refl, sym, ap, ◌∙◌, arith}
use Rattle.std.specs.List.{AllByRecursion, sum_by}
use Rattle.std.proofs.lemmas.List.Sums.{sum_by-cons, sum_by-append}
use Rattle.hf_base.specs.NumberLaws.{length-num}
use Rattle.hf_base.specs.declared.loc.RefBox.{RefBox}
use Rattle.hf_box.specs.Head.{box_len, box}
use Rattle.hf_box.specs.Literals.{four}
use Rattle.hf_box.specs.Written.{id_width}
use Rattle.hf_info.specs.Infe.{infe_body, infe_box}
use Rattle.hf_links.specs.Grpl.{group_body, group_box}
use Rattle.hf_links.specs.Iref.{reference_body, reference_box}
use Rattle.hf_store.specs.Counts.{strings_of, targets_of, counts_of}
use Rattle.hf_store.specs.Layout.{info_of, item_boxes, all_boxes}
use Rattle.hf_store.specs.Sizes.{infe_size, prop_box_size, group_size, AllRefs, infes_size, links_size, groups_size, IsShortItem, IsShortList, IsShortProp, IsShortGroup, InfesAreCounted, LinksAreCounted, PropsAreCounted, GroupsAreCounted}
use Rattle.hf_store.specs.Store.{Prop, RefList, Item, Group}
use Rattle.hf_store.specs.Valid.{IsFour}
use Rattle.hf_store.proofs.BoxLengths.{length-box, box_len-short}
use Rattle.hf_store.proofs.CountsAre.{box_from, counts_are, sum-zero, sum-one}
use Rattle.hf_store.proofs.FieldLengths.{strings_len, length-infe_body, length-reference_body, length-nums}
use Rattle.hf_store.proofs.Sizes.{le-width, sum-map}

-- ---- one box

pub ge-width : (wide : Bool) → 2 ≤ id_width wide
ge-width true = omega arith
ge-width false = omega arith

pub infe_body-size : (wide : Bool) (i : Item) → IsFour i.kind → length (infe_body wide (info_of i)) ≡ 10 + id_width wide + strings_of i
unfolding strings_len
infe_body-size wide i kind = simp (length-append, length-num) (omega (arith, length-infe_body wide (info_of i) kind))

pub infe-short : (wide : Bool) (i : Item) → IsShortItem i → length (infe_box wide (info_of i)) ≡ 18 + id_width wide + strings_of i
infe-short wide i short =
    let body = infe_body-size wide i short.0 in
    let fits : 8 + (10 + id_width wide + strings_of i) < 256 ^ 4 = omega (arith, short.1, le-width wide) in
    length-box (four "infe") (infe_body wide (info_of i)) refl ∙ ap box_len body ∙ box_len-short _ fits ∙ omega arith

few_links : (wide : Bool) (n : ℕ) → 14 + n * 4 < 256 ^ 4 → 8 + (id_width wide + 2 + n * id_width wide) < 256 ^ 4
few_links true n few = omega (arith, few)
few_links false n few = omega (arith, few)

pub link-short : (wide : Bool) (from : ℕ) (r : RefList) → IsShortList r
    → length (box r.kind (reference_body wide from r.to)) ≡ 10 + id_width wide + length r.to * id_width wide
link-short wide from r short =
    length-box r.kind (reference_body wide from r.to) short.0 ∙ ap box_len (length-reference_body wide from r.to)
    ∙ box_len-short _ (few_links wide (length r.to) short.1) ∙ omega arith

pub group_body-size : (g : Group) → length (group_body g) ≡ 12 + length g.entities * 4 + length g.tail
unfolding group_body
group_body-size g = simp (length-append, length-num, length-nums) (omega arith)

pub group-short : (g : Group) → IsShortGroup g → length (group_box g) ≡ 20 + length g.entities * 4 + length g.tail
group-short g short =
    let fits : 8 + (12 + length g.entities * 4 + length g.tail) < 256 ^ 4 = omega (arith, short.1) in
    length-box g.kind (group_body g) short.0 ∙ ap box_len (group_body-size g) ∙ box_len-short _ fits ∙ omega arith

pub prop-short : (p : Prop) → IsShortProp p → length (box p.kind p.body) ≡ 8 + length p.body
prop-short p short = length-box p.kind p.body short.0 ∙ box_len-short (length p.body) short.1

-- ---- sums

infes_sum : (wide : Bool) (is : List Item) → AllByRecursion IsShortItem is → infes_size wide is ≡ length is * (18 + id_width wide) + sum_by strings_of is
infes_sum wide [] short = omega arith
infes_sum wide (i ∷ is) short =
    let size = sum_by-cons (infe_size wide) i is in
    let strings = sum_by-cons strings_of i is in
    omega (arith, size, strings, infe-short wide i short.0, infes_sum wide is short.1)

pub infes_are_counted : InfesAreCounted
unfolding counts_of
infes_are_counted s wide short =
    let none = sum-zero s.groups in
    let items = (counts_are s).items in
    infes_sum wide s.items short ∙ ap (λ n. n * (18 + id_width wide) + sum_by strings_of s.items) (sym items) ∙ omega (arith, none)

links_of_one : (wide : Bool) (from : ℕ) (rs : List RefList) → AllByRecursion IsShortList rs
    → sum_by (λ (r : RefList). length (box r.kind (reference_body wide from r.to))) rs ≡ length rs * (10 + id_width wide) + targets_of rs * id_width wide
links_of_one wide from [] short = omega arith
links_of_one wide from (r ∷ rs) short =
    let size = sum_by-cons (λ (q : RefList). length (box q.kind (reference_body wide from q.to))) r rs in
    let targets = ap (λ n. n * id_width wide) (sum_by-cons (λ (q : RefList). length q.to) r rs) in
    omega (arith, size, targets, link-short wide from r short.0, links_of_one wide from rs short.1)

pub links_size-cons : (wide : Bool) (i : Item) (is : List Item)
    → links_size wide (i ∷ is) ≡ sum_by (λ (r : RefList). length (box r.kind (reference_body wide i.id r.to))) i.refs + links_size wide is
links_size-cons wide i is =
    sum_by-append (λ (b : RefBox). length (reference_box wide b)) (item_boxes i.id i.refs) (all_boxes is)
    ∙ ap (λ n. n + links_size wide is) (sum-map (λ (b : RefBox). length (reference_box wide b)) (box_from i.id) i.refs)

links_sum : (wide : Bool) (is : List Item) → AllRefs IsShortList is
    → links_size wide is ≡ sum_by (λ (i : Item). length i.refs) is * (10 + id_width wide) + sum_by (λ (i : Item). targets_of i.refs) is * id_width wide
links_sum wide [] short = omega arith
links_sum wide (i ∷ is) short =
    let size = links_size-cons wide i is in
    let links = ap (λ n. n * (10 + id_width wide)) (sum_by-cons (λ (j : Item). length j.refs) i is) in
    let targets = ap (λ n. n * id_width wide) (sum_by-cons (λ (j : Item). targets_of j.refs) i is) in
    omega (arith, size, links, targets, links_of_one wide i.id i.refs short.0, links_sum wide is short.1)

pub links_are_counted : LinksAreCounted
unfolding counts_of
links_are_counted s wide short =
    let none = sum-zero s.groups in
    let links = sum_by (λ (i : Item). length i.refs) s.items in
    let targets = sum_by (λ (i : Item). targets_of i.refs) s.items in
    let more : (n : ℕ) → n ≡ n + sum_by (λ (g : Group). 0) s.groups = λ n. omega (arith, none) in
    links_sum wide s.items short ∙ ap (λ n. n * (10 + id_width wide) + targets * id_width wide) (more links)
    ∙ ap (λ n. (links + sum_by (λ (g : Group). 0) s.groups) * (10 + id_width wide) + n * id_width wide) (more targets)

pub props_are_counted : PropsAreCounted
props_are_counted [] short = refl
props_are_counted (p ∷ ps) short =
    omega (arith, sum_by-cons prop_box_size p ps, sum_by-cons (λ (q : Prop). 8 + length q.body) p ps, prop-short p short.0, props_are_counted ps short.1)

groups_sum : (gs : List Group) → AllByRecursion IsShortGroup gs
    → groups_size gs ≡ length gs * 20 + sum_by (λ (g : Group). length g.entities) gs * 4 + sum_by (λ (g : Group). length g.tail) gs
groups_sum [] short = omega arith
groups_sum (g ∷ gs) short =
    let entities = sum_by-cons (λ (h : Group). length h.entities) g gs in
    let tails = sum_by-cons (λ (h : Group). length h.tail) g gs in
    omega (arith, sum_by-cons group_size g gs, entities, tails, group-short g short.0, groups_sum gs short.1)

pub groups_are_counted : GroupsAreCounted
unfolding counts_of
groups_are_counted s short = omega (arith, groups_sum s.groups short, sum-zero s.items, sum-one s.groups)
