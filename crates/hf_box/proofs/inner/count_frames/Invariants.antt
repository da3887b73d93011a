use Rattle.std.proofs.Common.{◌≡◌, ◌+◌, ◌-◌, ◌^◌, ◌<◌, ◌≤◌, List, false, length}
use Rattle.hf_base.specs.declared.limits.TheConstants.{BOXES}
use Rattle.hf_box.specs.Boxes.{BoxAt}
use Rattle.hf_box.specs.Framing.{frames, frames_within}
use Rattle.hf_box.proofs.Loop.{with_front}
use Rattle.hf_box.proofs.inner.count_frames.Given as goal

abbrev pub invariant-loop-rest : goal.invariant-loop-rest
invariant-loop-rest l = record {
  read : (front : List BoxAt) × (length front ≡ l.many) × (with_front front (frames_within (BOXES - l.many) false l.at l.rest) ≡ frames false l.fn.origin l.fn.bytes);
  room : l.many ≤ BOXES;
  place : l.at + length l.rest < 2 ^ 64;
}

abbrev pub decreases-loop-rest : goal.decreases-loop-rest
decreases-loop-rest l = length l.rest
