use Rattle.std.proofs.Common.{arith}
use Rattle.hf_box.proofs.InnerLemmas.{of_kind-length}
use Rattle.hf_box.proofs.inner.InnerBoxes.count_of.Goals as goal

pub overflow_add-many : goal.overflow_add-many
overflow_add-many c = omega (arith, of_kind-length c.args.kind c.args.self.now, c.copy-left.ensures.few)
