use Rattle.std.proofs.Common.{rules}
use Rattle.hf_desk.proofs.Making.{makes, makes_nothing}
use Rattle.hf_plan.proofs.OneFile.{has_canon}
use Rattle.hf_app.proofs.making.make_canonical.Goals as goal

pub returns-in-Ok : goal.returns-in-Ok
returns-in-Ok g c =
    let F = has_canon c.args.store.now c.valid.ensures in
    let puts = c.write.ensures F.0 F.1 in
    record {
      file = F.0;
      canonical = F.1;
      makes = makes c.in-Ok.ensures.ok (search rules) (search rules) (λ is lacks.
          (c.in-Ok.ensures.steady is lacks).1) puts;
    }

pub returns-in-Err : goal.returns-in-Err
returns-in-Err g c =
    let F = has_canon c.args.store.now c.valid.ensures in
    record { file = F.0; canonical = F.1; makes = makes_nothing c.in-Err.ensures.err c.in-Err.ensures.cause (λ is lacks. (search rules)) }
