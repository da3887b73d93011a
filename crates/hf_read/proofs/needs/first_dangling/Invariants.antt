use Rattle.std.proofs.Common.{◌≡◌, find, take}
use Rattle.hf_read.proofs.LeastLaws.{stands, dangles}
use Rattle.hf_base.specs.declared.loc.RefBox.{RefBox}
use Rattle.hf_read.proofs.needs.first_dangling.Given as goal

abbrev pub invariant-loop-link : goal.invariant-loop-link
invariant-loop-link l = l.least ≡ find (stands (λ (r : RefBox). r.from) (dangles l.ids) (take l.link-index l.links)) l.ids
