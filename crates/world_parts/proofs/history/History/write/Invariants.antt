use Rattle.std.proofs.Common.{◌≡◌, ◌≤◌, ◌+◌, take}
use Rattle.dtx_model.specs.Words.{onto}
use Rattle.dtx_model.specs.Wires.{is_stopped}
use Rattle.world_parts.proofs.history.History.write.Given as goal

abbrev pub invariant-loop-x : goal.invariant-loop-x
invariant-loop-x l =
    (l.self.past ≡ onto l.initial.self.past (take l.x-index l.xs)) × (l.stopped ≡ is_stopped l.self.past) × (l.initial.self.room ≤ l.self.room + l.x-index)
    × (l.initial.self.start_room ≤ l.self.start_room + l.x-index) × (l.initial.self.send_room ≤ l.self.send_room + l.x-index)
