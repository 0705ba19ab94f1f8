use Rattle.dtx_values.specs.declared.entry.Entry.TheVariants.{Stopped}
use Rattle.dtx_values.specs.declared.number.TxNo.{TxNo}
use Rattle.dtx_model.specs.Words.{past_of}
use Rattle.tx_world.specs.State.{is_hit_by}
use Rattle.replay_runs.specs.RunState.{IsRecordKept, halted, state_of}
use Rattle.replay_runs.proofs.Halting.{IsElseSame, IsThrough}
use Rattle.replay_runs.specs.Whose.{named}
use Rattle.replay_runs.proofs.replay.Run.stop_all.Given as goal

abbrev pub invariant-loop-place : goal.invariant-loop-place
invariant-loop-place l = record {
  same : IsElseSame l.initial.self-inside.plans l.self-inside.plans l.initial.self-inside.managers.items l.self-inside.managers.items (named l.initial.self-inside.whose) (named l.self-inside.whose) l.initial.self-inside.contexts.items l.self-inside.contexts.items;
  through : IsThrough (halted l.life) (is_hit_by l.life) (λ t. Stopped) l.initial.self-inside.worlds.items (past_of l.initial.self-inside.trace.items) l.place l.self-inside.worlds.items (past_of l.self-inside.trace.items);
  kept : ((t : TxNo) → IsRecordKept (state_of t l.initial.self-inside.worlds.items)) → (t : TxNo) → IsRecordKept (state_of t l.self-inside.worlds.items);
}
