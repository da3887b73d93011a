use Rattle.std.proofs.Common.{refl, ◌∙◌}
use Rattle.hf_desk.proofs.Paging.{put_end, put_stop}
use Rattle.hf_plan.proofs.OneFile.{has_canon}
use Rattle.hf_write.proofs.file.write.Goals as goal

pub end-requires : goal.end-requires
end-requires g c =
    let file = has_canon c.args.store.now c.valid.ensures in
    (c.in_ok-give_file.ensures file.0 file.1).writes.only.creating ∙ c.requires.creating

pub returns-in_err-give_file : goal.returns-in_err-give_file
returns-in_err-give_file g c = λ file canon. put_stop refl c.from_residual.ensures.0 (rw c.new-page.ensures at c.in_err-give_file.ensures file canon)

pub returns : goal.returns
returns g c = λ file canon. put_end (rw c.new-page.ensures at c.in_ok-give_file.ensures file canon) c.end.ensures.writes
