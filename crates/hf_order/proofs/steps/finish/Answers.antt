use Rattle.std.proofs.Common.{◌≡◌, ℕ, ◌+◌, ◌-◌, List, length, drop, get_or, set, eqb, sym, ap, subst, ◌∙◌, arith}
use Rattle.std.specs.List.{filter}
use Rattle.std.proofs.lemmas.List.{drop_more, get_or_read}
use Rattle.hf_order.specs.Waiting.{IsUnderWay}
use Rattle.hf_order.proofs.UnderWay.{taken, met, met_some, user_within}
use Rattle.hf_order.proofs.steps.finish.Goals as goal

pub loop-pair-init : goal.loop-pair-init
loop-pair-init c =
    let sorted = c.args.sorted.now in
    let order = c.args.order.now.items in
    let done = c.args.done in
    let node = get_or_read order done c.index.result.now c.requires.begun c.index.ensures 0 in
    let users : c.users_of-users.result.now ≡ filter (λ (pair : ℕ × ℕ). eqb pair.1 (get_or order done 0)) sorted = c.users_of-users.ensures ∙ ap (λ (n : ℕ). filter (λ (pair : ℕ × ℕ). eqb pair.1 n) sorted) node in
    subst (λ (l : List (ℕ × ℕ)). IsUnderWay sorted l (done + 1) c.args.left.now order) (sym users) (taken sorted done c.args.left.now order c.requires.begun c.requires.under_way)

pub meet-requires-clause-within : goal.meet-requires-clause-within
meet-requires-clause-within c =
    let less = user_within (length c.args.left.now) c.args.sorted.now c.users_of-users.result.now _ c.loop-pair.pair-index (0, 0) c.requires.within c.users_of-users.ensures c.loop-pair-test.true in
    omega (arith, c.loop-pair.auto.left)

pub meet-requires-clause-some : goal.meet-requires-clause-some
meet-requires-clause-some c =
    let users = c.users_of-users.result.now in
    let i = c.loop-pair.pair-index in
    let left = c.loop-pair.left in
    let less = user_within (length c.args.left.now) c.args.sorted.now users _ i (0, 0) c.requires.within c.users_of-users.ensures c.loop-pair-test.true in
    let way = subst (λ (l : List (ℕ × ℕ)). IsUnderWay c.args.sorted.now l (c.args.done + 1) left c.loop-pair.order.items) (drop_more users i (0, 0) c.loop-pair-test.true) c.loop-pair.invariant in
    met_some c.args.sorted.now (drop (i + 1) users) (get_or users i (0, 0)) (c.args.done + 1) left c.loop-pair.order.items (omega (arith, c.loop-pair.auto.left)) way

pub loop-pair-preserved : goal.loop-pair-preserved
loop-pair-preserved c =
    let sorted = c.args.sorted.now in
    let users = c.users_of-users.result.now in
    let i = c.loop-pair.pair-index in
    let left = c.loop-pair.left in
    let order = c.loop-pair.order.items in
    let done = c.args.done + 1 in
    let less = user_within (length c.args.left.now) sorted users _ i (0, 0) c.requires.within c.users_of-users.ensures c.loop-pair-test.true in
    let way = subst (λ (l : List (ℕ × ℕ)). IsUnderWay sorted l done left order) (drop_more users i (0, 0) c.loop-pair-test.true) c.loop-pair.invariant in
    let user = get_or users i (0, 0) in
    let rest = drop (i + 1) users in
    let next = met sorted rest user done left order (omega (arith, c.loop-pair.auto.left)) way in
    let joined = subst (λ (o : List ℕ). IsUnderWay sorted rest done (set left user.0 (get_or left user.0 0 - 1)) o) (sym c.in_ok-meet.ensures.joined) next in
    subst (λ (l : List ℕ). IsUnderWay sorted rest done l c.meet.new.order.items) (sym c.meet.ensures.lessened) joined
