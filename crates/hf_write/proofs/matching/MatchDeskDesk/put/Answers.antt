use Rattle.std.proofs.Common.{refl, ap, ◌∙◌}
use Rattle.std.specs.Prelude.{option_copied}
use Rattle.std.proofs.lemmas.Bool.Decides.{Decides-eqb}
use Rattle.std.proofs.lemmas.Slice.Eq.{strip_prefix_is}
use Rattle.hf_desk.specs.Mark.{Match}
use Rattle.hf_write.proofs.Compared.{left_is}
use Rattle.hf_write.proofs.matching.MatchDeskDesk.put.Goals as goal
use Rattle.hf_write.proofs.matching.MatchDeskDesk.put.Goals.{in-Some, in-None}

pub returns-clause-ok : goal.returns-clause-ok
returns-clause-ok c =
    let piece = c.args.piece.now in
    elim c.match-self.branch [
      | in-Some w ↦
          let rest = w.in-Some.rest in
          let stripped = w.strip_prefix-self in
          let cases = strip_prefix_is Decides-eqb rest.now piece stripped.result stripped.ensures.cases in
          record { mark = ap Match (ap option_copied w.self-is ∙ left_is c.args.self.now.rest stripped.result rest piece w.in-Some.is cases) }
      | in-None w ↦ record { mark = rw (w.self-is, w.in-None.is) refl }
    ]
