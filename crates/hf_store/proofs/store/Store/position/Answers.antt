use Rattle.std.proofs.Common.{arith}
use Rattle.hf_store.specs.Store.{ids_of}
use Rattle.hf_store.proofs.Spots.{at_in, id_here, rises_later}
use Rattle.hf_store.proofs.store.Store.position.Goals as goal

pub loop-low-preserved-then-found-id-2 : goal.loop-low-preserved-then-found-id-2
loop-low-preserved-then-found-id-2 c = (
  c.loop-low.invariant.0,
  λ k e.
      let later = rises_later 0 (ids_of c.args.self.now.items) _ k _ _ c.len-high.ensures.valid.ids_rise (id_here c.args.self.now.items _ _ c.at.ensures) e (omega arith) in
      (omega (arith, later), (c.loop-low.invariant.1 k e).1),
)

pub loop-low-preserved : goal.loop-low-preserved
loop-low-preserved c = (
  omega (arith, c.loop-low.invariant.0),
  λ k e.
      let sooner = rises_later 0 (ids_of c.args.self.now.items) k _ _ _ c.len-high.ensures.valid.ids_rise e (id_here c.args.self.now.items _ _ c.at.ensures) (omega arith) in
      ((c.loop-low.invariant.1 k e).0, omega (arith, sooner)),
)

pub returns-clause-none : goal.returns-clause-none
returns-clause-none c = λ there.
    let at = at_in c.args.id (ids_of c.args.self.now.items) there in
    let between = c.loop-low.invariant.1 at.0 at.1 in
    absurd (omega (arith, between.0, between.1))
