use Rattle.std.proofs.Common.{◌≡◌, ◌+◌, drop}
use Rattle.dtx_model.specs.Log.{zeros_at}
use Rattle.slotted.proofs.bytes.read_zeros.Given as goal

abbrev pub invariant-loop-x : goal.invariant-loop-x
invariant-loop-x l = record { rest : zeros_at l.place (drop l.x-index l.b) ≡ zeros_at l.at l.b; place : l.place ≡ l.at + l.x-index }
