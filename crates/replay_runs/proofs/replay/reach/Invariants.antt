use Rattle.std.proofs.Common.{◌≡◌, ◌≤◌, length, vec_len}
use Rattle.dtx_values.specs.declared.number.TxNo.{TxNo}
use Rattle.dtx_values.specs.declared.number.TheConstants.TxNo.{MAX}
use Rattle.replay_runs.specs.RunState.{state_of}
use Rattle.replay_runs.proofs.replay.reach.Given as goal

abbrev pub invariant-loop-number : goal.invariant-loop-number
invariant-loop-number l = record {
  at : vec_len l.worlds ≡ l.number;
  same : (u : TxNo) → state_of u l.worlds.items ≡ state_of u l.initial.worlds.items;
  few : length l.initial.worlds.items ≤ MAX → length l.worlds.items ≤ MAX;
}
