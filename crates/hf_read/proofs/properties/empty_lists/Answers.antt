use Rattle.std.proofs.Common.{◌++◌, ◌∷◌, [], ap, ◌∙◌, List, ℕ, map, arith}
use Rattle.hf_read.proofs.AssocLaws.{one_empty}
use Rattle.hf_read.proofs.Gathered.{all_taken}
use Rattle.hf_read.proofs.properties.empty_lists.Goals as goal

pub loop-preserved : goal.loop-preserved
loop-preserved c =
    c.in_ok-push.ensures.items ∙ ap (λ l. c.loop.lists.items ++ l ∷ []) c.new.ensures
    ∙ one_empty c.args.ids.now c.loop.index c.loop.lists.items c.loop-test.true c.loop.invariant

pub returns : goal.returns
returns c =
    all_taken (λ (ids : List ℕ). map (λ id. []) ids) c.args.ids.now c.loop.index c.loop.lists.items
    (omega (arith, c.loop-test.false, c.loop.auto.index-end)) c.loop.invariant
