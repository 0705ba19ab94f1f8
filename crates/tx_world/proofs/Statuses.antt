-- The status of a transaction is what a `status` is answered.
use Rattle.std.proofs.Common.{◌≡◌, ◌∙◌, ℕ, Option, Some, None, refl, sym, ap}
use Rattle.dtx_values.specs.declared.call.Call.TheVariants.{Status as StatusCall}
use Rattle.dtx_values.specs.declared.number.TxNo.{TxNo}
use Rattle.dtx_values.specs.declared.words.Outcome.{Outcome}
use Rattle.dtx_values.specs.declared.words.Outcome.TheVariants.{Committed, Aborted, InDoubt}
use Rattle.dtx_values.specs.declared.words.Status.{Status}
use Rattle.dtx_model.specs.Answers.{if_begun, local_answer, status_answer}
use Rattle.dtx_model.specs.World.{World, answer_at, half}
use Rattle.tx_world.specs.OwnCalls.{said, status_of}

said_of : (o : Option Outcome) → status_answer o ≡ said (status_of o)
said_of (Some Committed) = refl
said_of (Some Aborted) = refl
said_of (Some InDoubt) = refl
said_of None = refl

pub status_said : (t : ℕ) (w : World) (u : TxNo) (m : ℕ) (s : Status) → s ≡ status_of (half w).seen.decided → answer_at t w (StatusCall u) m ≡ if_begun (half w).seen.limit (said s)
unfolding answer_at local_answer
status_said t w u m s is = ap (if_begun (half w).seen.limit) (said_of (half w).seen.decided ∙ ap said (sym is))
