use Rattle.std.proofs.Common.{◌≡◌, ◌+◌, arith, ap, ◌∙◌}
use Rattle.hf_store.specs.Counts.{Counts}
use Rattle.hf_store.specs.Seen.{store_of}
use Rattle.hf_store.specs.Store.{ItemStore}
use Rattle.hf_store.specs.Valid.{body_sum}
use Rattle.hf_store.proofs.CountsAre.{counts_are}
use Rattle.hf_store.proofs.store.Store.body_sum.Goals as goal

pub overflow_add-result : goal.overflow_add-result
overflow_add-result c =
    let sum : c.self.inside.counts.idat + c.self.inside.counts.mdat ≡ body_sum (store_of c.self.inside).items = ap (λ (k : Counts). k.idat + k.mdat) c.self.invariant.counted ∙ (counts_are (store_of c.self.inside)).body in
    omega (arith, sum, c.self.invariant.valid.body)

pub returns-clause-value : goal.returns-clause-value
returns-clause-value c =
    ap (λ (k : Counts). k.idat + k.mdat) c.self.invariant.counted ∙ (counts_are (store_of c.self.inside)).body ∙ ap (λ (s : ItemStore). body_sum s.items) c.self.view_is

pub returns-clause-few : goal.returns-clause-few
returns-clause-few c =
    let sum : c.self.inside.counts.idat + c.self.inside.counts.mdat ≡ body_sum (store_of c.self.inside).items = ap (λ (k : Counts). k.idat + k.mdat) c.self.invariant.counted ∙ (counts_are (store_of c.self.inside)).body in
    omega (arith, sum, c.self.invariant.valid.body)
