-- Which blocks tell nothing of the log's device calls: that of an act that was done at the log tells of them, and that of a restart.
use Rattle.std.proofs.Common.{◌≡◌, ℕ, Bool, true, false, refl}
use Rattle.dtx_values.specs.declared.entry.Entry.{Entry}
use Rattle.dtx_values.specs.declared.entry.Entry.TheVariants.{Logged, Freed, Restarted}
use Rattle.dtx_values.specs.declared.note.Reply.{Reply}
use Rattle.dtx_values.specs.declared.note.Reply.TheVariants.{Vote as VoteReply, Promote as Promotes, Owner as OwnerReply, Ack}
use Rattle.dtx_values.specs.declared.number.EnlNo.{EnlNo}
use Rattle.dtx_model.specs.Words.{each}
use Rattle.dtx_model.specs.Coordinated.{Coordinated, commit_sends}
use Rattle.dtx_model.specs.World.{World}
use Rattle.dtx_model.specs.Steps.{LogAnswer, Done, Full, StoppedNow, StoppedBefore, Step, Calls, Replies, Acts, Coordinates, Delivers, Stops, Restarts, block_at}
use Rattle.script_calls.proofs.StepBlocks.{OfReply, OfStep, deed_commit, is_deed, of_block, of_deeds}
use Rattle.tx_world.proofs.StillTied.{is_restarting}
use Rattle.replay_runs.proofs.Telling.{is_untelling}

-- the coordinator's act was done at the log
abbrev pub is_done_answer : LogAnswer → Bool
is_done_answer Done = true
is_done_answer _ = false

abbrev pub is_done : Step → Bool
is_done (Coordinates a) = is_done_answer a
is_done _ = false

-- A block that tells nothing of the log's device calls.
deed_untelling : (x : Entry) → is_deed x ≡ true → is_untelling x ≡ true
deed_untelling Logged k = absurd cc
deed_untelling Freed k = absurd cc
deed_untelling (Restarted found) k = absurd cc
deed_untelling _ k = refl

reply_untelling : (e : EnlNo) (r : Reply) → OfReply is_untelling e r
reply_untelling e (VoteReply v) = refl
reply_untelling e (Promotes ok) = refl
reply_untelling e (OwnerReply x) = (refl, refl)
reply_untelling e Ack = tt

step_untelling : (m : Step) → is_done m ≡ false → is_restarting m ≡ false → OfStep is_untelling m
step_untelling (Calls n a c k) d r = tt
step_untelling (Replies e q) d r = reply_untelling e q
step_untelling Acts d r = tt
step_untelling (Coordinates Done) d r = absurd cc
step_untelling (Coordinates Full) d r = tt
step_untelling (Coordinates StoppedNow) d r = refl
step_untelling (Coordinates StoppedBefore) d r = refl
step_untelling (Delivers c d) e r = tt
step_untelling Stops d r = refl
step_untelling (Restarts found) d r = absurd cc

pub untelling_block : (t : ℕ) (w : World) (m : Step) → is_done m ≡ false → is_restarting m ≡ false → each is_untelling (block_at t w m) ≡ true
untelling_block t w m d r = (of_block is_untelling deed_untelling t w m (step_untelling m d r)).proof

-- and what the coordinator says after an append
pub untelling_commit : (k : Coordinated) → each is_untelling (commit_sends k) ≡ true
untelling_commit k = (of_deeds is_untelling deed_untelling (deed_commit k)).proof
