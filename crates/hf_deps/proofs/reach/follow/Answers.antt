use Rattle.std.proofs.Common.{◌≡◌, ℕ, ◌+◌, List, drop, eqb, get_or, sym, ap, subst, ◌∙◌}
use Rattle.std.specs.List.{filter}
use Rattle.std.proofs.lemmas.List.{drop_more, get_or_read}
use Rattle.hf_order.proofs.Members.{at_in, in_filter}
use Rattle.hf_store.specs.Lists.{IsIn}
use Rattle.hf_deps.specs.Reach.{IsSpread}
use Rattle.hf_deps.proofs.Spread.{followed, taken}
use Rattle.hf_deps.proofs.reach.follow.Goals as goal

pub loop-pair-init : goal.loop-pair-init
loop-pair-init c =
    let pairs = c.args.pairs.now in
    let reached = c.args.reached.now.items in
    let done = c.args.done in
    let first = c.args.store.now.primary in
    let by = get_or_read reached done c.index.result.now c.requires.more c.index.ensures 0 in
    let kept : c.pairs_by-kept.result.now ≡ filter (λ (pair : ℕ × ℕ). eqb pair.1 (get_or reached done 0)) pairs =
    c.pairs_by-kept.ensures ∙ ap (λ (n : ℕ). filter (λ (pair : ℕ × ℕ). eqb pair.1 n) pairs) by
    in
    record {
      marked = c.requires.marked;
      spread = subst (λ (l : List (ℕ × ℕ)). IsSpread pairs l first (done + 1) reached) (sym kept)
          (taken pairs first done reached c.requires.more c.requires.spread);
    }

pub meet-requires-clause-there : goal.meet-requires-clause-there
meet-requires-clause-there c =
    let pairs = c.args.pairs.now in
    let kept = c.pairs_by-kept.result.now in
    let pair = get_or kept c.loop-pair.pair-index (0, 0) in
    let among = subst (IsIn pair) c.pairs_by-kept.ensures (at_in kept c.loop-pair.pair-index (0, 0) c.loop-pair-test.true) in
    c.requires.ends pair.1 pair.0 (in_filter _ pairs pair among)

pub loop-pair-preserved : goal.loop-pair-preserved
loop-pair-preserved c =
    let pairs = c.args.pairs.now in
    let kept = c.pairs_by-kept.result.now in
    let i = c.loop-pair.pair-index in
    let first = c.args.store.now.primary in
    let old = c.loop-pair.reached.items in
    let met = c.in_ok-meet.ensures in
    let way = subst (λ (l : List (ℕ × ℕ)). IsSpread pairs l first (c.args.done + 1) old)
    (drop_more kept i (0, 0) c.loop-pair-test.true) c.loop-pair.invariant.spread in
    record {
      marked = met.marked;
      spread = followed pairs (drop (i + 1) kept) (get_or kept i (0, 0)) first (c.args.done + 1) old c.meet.new.reached.items met.grows met.there way;
    }
