use Rattle.std.proofs.Common.{◌≡◌, is_some, true}
use Rattle.std.specs.Prelude.{IsTrue}
use Rattle.dtx_values.specs.declared.entry.Entry.TheVariants.{Restarted}
use Rattle.dtx_values.specs.declared.number.TxNo.{TxNo}
use Rattle.dtx_model.specs.Tied.{tied}
use Rattle.dtx_model.specs.Words.{past_of}
use Rattle.tx_world.specs.State.{is_reached_by}
use Rattle.replay_runs.specs.RunState.{IsRecordKept, record_in, reopened, state_of}
use Rattle.replay_runs.proofs.Halting.{IsElseSame, IsThrough}
use Rattle.replay_runs.specs.Whose.{named}
use Rattle.replay_runs.proofs.replay.Run.restart_all.Given as goal

abbrev pub invariant-loop-place : goal.invariant-loop-place
invariant-loop-place g l = record {
  same : IsElseSame l.initial.self-inside.plans l.self-inside.plans l.initial.self-inside.managers.items l.self-inside.managers.items (named l.initial.self-inside.whose) (named l.self-inside.whose) l.initial.self-inside.contexts.items l.self-inside.contexts.items;
  through : IsThrough (reopened l.log) (is_reached_by l.log.life) (λ t. Restarted (is_some (record_in l.log.slots t.value))) l.initial.self-inside.worlds.items (past_of l.initial.self-inside.trace.items) l.place l.self-inside.worlds.items (past_of l.self-inside.trace.items);
  kept : ((t : TxNo) → IsRecordKept (state_of t l.initial.self-inside.worlds.items)) → (t : TxNo) → IsRecordKept (state_of t l.self-inside.worlds.items);
  sound : IsTrue g.D.Disk.honest → ((t : TxNo) → tied (state_of t l.initial.self-inside.worlds.items).world.past ≡ true) → (t : TxNo) → tied (state_of t l.self-inside.worlds.items).world.past ≡ true;
}
