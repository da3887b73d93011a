use Rattle.hf_table.proofs.Rooms.{limits_leave_room}
use Rattle.hf_table.proofs.laws.limits_leave_room.Goals as goal

pub returns : goal.returns
returns c = limits_leave_room
