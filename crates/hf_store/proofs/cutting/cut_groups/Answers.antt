use Rattle.std.proofs.Common.{length, ap, sym, refl, ◌∙◌, ◌≡◌, ◌≤◌, arith, rules, map, filter, cond, Bool, true, false, List, [], ◌∷◌}
use Rattle.std.proofs.lemmas.Fn.{filter_same}
use Rattle.std.proofs.lemmas.Grind.{common_steps}
use Rattle.std.proofs.lemmas.List.{length-map}
use Rattle.hf_links.specs.Grpl.{Group as StatedGroup, group_of, groups_of}
use Rattle.hf_links.specs.declared.grpl.Group.{Group}
use Rattle.hf_store.specs.Changes.{cut_group, group_stays}
use Rattle.hf_store.specs.Stays.{stays_of}
use Rattle.hf_store.proofs.Mapped.{mapped-none, pass-next, mapped-all, length-passed}
use Rattle.hf_store.proofs.cutting.cut_groups.Goals as goal

pub loop-i-init : goal.loop-i-init
loop-i-init c = sym (mapped-none (cut_group (stays_of c.args.stays.now)) (groups_of c.retain.new.self.items))

pub loop-i-preserved : goal.loop-i-preserved
loop-i-preserved c =
    pass-next group_of (cut_group (stays_of c.args.stays.now)) c.retain.new.self.items c.loop-i.groups.items c.loop-i.i c.index_mut.result.now c.cut_group.new.group (grind (arith, common_steps)) c.index_mut.ensures.value c.loop-i.invariant c.cut_group.ensures

kept : (p : StatedGroup → Bool) (g : Group) (gs : List Group) (b : Bool) → groups_of (filter (λ (h : Group). p (group_of h)) gs) ≡ filter p (groups_of gs)
    → groups_of (cond b (g ∷ filter (λ (h : Group). p (group_of h)) gs) (filter (λ (h : Group). p (group_of h)) gs)) ≡ cond b (group_of g ∷ filter p (groups_of gs)) (filter p (groups_of gs))
kept p g gs true e = ap (λ hs. group_of g ∷ hs) e
kept p g gs false e = e

stated-filter : (p : StatedGroup → Bool) (gs : List Group) → groups_of (filter (λ (g : Group). p (group_of g)) gs) ≡ filter p (groups_of gs)
stated-filter p [] = refl
stated-filter p (g ∷ gs) = kept p g gs (p (group_of g)) (stated-filter p gs)

pub returns : goal.returns
returns c =
    let p = group_stays (stays_of c.args.stays.now) in
    let f = cut_group (stays_of c.args.stays.now) in
    let left : c.retain.new.self.items ≡ filter (λ (g : Group). p (group_of g)) c.args.groups.now.items = filter_same _ (λ (g : Group). p (group_of g)) _ (λ g b h k. search (rules, c.requires)) _ _ c.retain.ensures.filtered in
    let same : length c.loop-i.groups.items ≡ length c.retain.new.self.items = length-passed group_of f c.retain.new.self.items c.loop-i.groups.items c.loop-i.i c.loop-i.invariant in
    let all : length c.retain.new.self.items ≤ c.loop-i.i = grind (arith, common_steps) in
    c.loop-i.invariant ∙ mapped-all f (groups_of c.retain.new.self.items) c.loop-i.i (omega (arith, length-map c.retain.new.self.items group_of, all)) ∙ ap (map f) (ap groups_of left ∙ stated-filter p c.args.groups.now.items)
