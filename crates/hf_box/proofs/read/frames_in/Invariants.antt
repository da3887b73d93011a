use Rattle.std.proofs.Common.{◌≡◌, ◌+◌, ◌-◌, ◌^◌, ◌<◌, ◌≤◌, length}
use Rattle.hf_base.specs.declared.limits.TheConstants.{BOXES}
use Rattle.hf_box.specs.Boxes.{boxes_of}
use Rattle.hf_box.specs.Framing.{frames, frames_within}
use Rattle.hf_box.proofs.Loop.{with_front}
use Rattle.hf_box.proofs.read.frames_in.Given as goal

abbrev pub invariant-loop-rest : goal.invariant-loop-rest
invariant-loop-rest l = record {
  read : with_front (boxes_of l.boxes.items) (frames_within (BOXES - length l.boxes.items) l.top l.at l.rest) ≡ frames l.top l.fn.origin l.fn.bytes;
  room : length l.boxes.items ≤ BOXES;
  place : l.at + length l.rest < 2 ^ 64;
}

abbrev pub decreases-loop-rest : goal.decreases-loop-rest
decreases-loop-rest l = length l.rest
