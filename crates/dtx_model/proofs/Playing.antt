-- A script's replay as one transaction sees it, computed: its lines in order, and then what is pending, until nothing is.
use Rattle.std.proofs.Common.{ℕ, zero, suc, ◌==◌, Bool, List, [], ◌∷◌, Option, Some, None, if◌then◌else◌}
use Rattle.dtx_values.specs.declared.call.Call.{Call}
use Rattle.dtx_values.specs.declared.call.Call.TheVariants.{Await, Do}
use Rattle.dtx_values.specs.declared.entry.Entry.{Entry}
use Rattle.dtx_values.specs.declared.note.Note.{Note}
use Rattle.dtx_values.specs.declared.note.Reply.{Reply}
use Rattle.dtx_values.specs.declared.note.Reply.TheVariants.{Ack}
use Rattle.dtx_values.specs.declared.number.ActorNo.{ActorNo}
use Rattle.dtx_values.specs.declared.number.EnlNo.{EnlNo}
use Rattle.dtx_values.specs.declared.number.TxNo.{TxNo}
use Rattle.dtx_values.specs.declared.script.Body.{Body}
use Rattle.dtx_values.specs.declared.script.Body.TheVariants.{Restart}
use Rattle.dtx_values.specs.declared.script.Line.{Line}
use Rattle.dtx_model.specs.Words.{kth}
use Rattle.dtx_model.specs.Calls.{call_of}
use Rattle.dtx_model.specs.Plans.{plan_of, planned}
use Rattle.dtx_model.specs.Replies.{due_of}
use Rattle.dtx_model.specs.World.{World, half}
use Rattle.dtx_model.specs.Steps.{LogAnswer, Done, Step, Calls, Replies, Acts, Coordinates, Delivers, Restarts, StepName, ReplyOf, LocalAct, CoordinatorAct, Delivery, after, pending}

-- how far it has got: the transaction's world, what the log is going to answer to its appends and frees, and what the restarts to come are
-- going to find of its record. After these answers the log does what it is asked.
pub record Running : Type 0 where
  pub world : World
  pub answers : List LogAnswer
  pub finds : List Bool

-- the reply that the enlistment's plan has to the note
abbrev pub or_ack : Option Reply → Reply
or_ack (Some r) = r
or_ack None = Ack

abbrev pub reply_to : World → EnlNo → Option Note → Reply
reply_to w e (Some n) = or_ack (planned (plan_of w.calls e.value) n)
reply_to w e None = Ack

abbrev pub move : ℕ → Running → Step → Running
move t r m = record { world = after t r.world m; answers = r.answers; finds = r.finds }

abbrev pub coordinate_with : ℕ → Running → List LogAnswer → Running
coordinate_with t r [] = move t r (Coordinates Done)
coordinate_with t r (a ∷ xs) = record { world = after t r.world (Coordinates a); answers = xs; finds = r.finds }

abbrev pub restart_with : ℕ → Running → List Bool → Running
restart_with t r [] = r
restart_with t r (found ∷ xs) = record { world = after t r.world (Restarts found); answers = r.answers; finds = xs }

-- the pending step of this name
abbrev pub step_by : ℕ → Running → StepName → Running
step_by t r (ReplyOf e) = move t r (Replies e (reply_to r.world e (due_of (half r.world).seen e.value)))
step_by t r LocalAct = move t r Acts
step_by t r CoordinatorAct = coordinate_with t r r.answers
step_by t r (Delivery c d) = move t r (Delivers c d)

-- the first pending step, until there is none; nothing where so many steps don't reach that
abbrev pub settle : ℕ → ℕ → Running → Option Running
settle zero t r = None
settle (suc n) t r = elim (pending r.world) as (λ x. Option Running) [ [] ↦ Some r | m ∷ ms ↦ settle n t (step_by t r m) ]

-- the k-th pending step at most so often, with the number of steps done
abbrev pub does : ℕ → ℕ → ℕ → ℕ → Running → ℕ × Running
does zero t k m r = (m, r)
does (suc n) t k m r = elim (kth (pending r.world) k) as (λ x. ℕ × Running) [ None ↦ (m, r) | Some x ↦ does n t k (suc m) (step_by t r x) ]

-- so many steps are enough for each history that is worked out
abbrev pub fuel : ℕ
fuel = 200

abbrev pub enter : ℕ → ℕ → ActorNo → Call → ℕ × Running → Running
enter t n a c x = move t x.1 (Calls n a c x.0)

abbrev pub enter_if : ℕ → ℕ → ActorNo → Call → Option Running → Option Running
enter_if t n a c (Some r) = Some (enter t n a c (0, r))
enter_if t n a c None = None

-- a call: `do` does its steps first, and `await` all that are pending
abbrev pub by_call : ℕ → ℕ → ActorNo → Call → Running → Option Running
by_call t n a (Do u k m) r = Some (enter t n a (Do u k m) (does m t k 0 r))
by_call t n a (Await u) r = enter_if t n a (Await u) (settle fuel t r)
by_call t n a c r = enter_if t n a c (Some r)

abbrev pub by_own : ℕ → ℕ → ActorNo → Option (TxNo × Call) → Running → Option Running
by_own t n a (Some (u, c)) r = if t == u.value then by_call t n a c r else Some r
by_own t n a None r = Some r

abbrev pub by_line : List Line → ℕ → ℕ → ActorNo → Body → Running → Option Running
by_line s t n a Restart r = Some (restart_with t r r.finds)
by_line s t n a b r = by_own t n a (call_of s b) r

-- the lines in order, numbered from n
abbrev pub play : List Line → ℕ → ℕ → List Line → Option Running → Option Running
play s t n [] (Some r) = settle fuel t r
play s t n (l ∷ ls) (Some r) = play s t (suc n) ls (by_line s t n l.actor l.body r)
play s t n [] None = None
play s t n (l ∷ ls) None = None

abbrev pub history_in : Option Running → Option (List Entry)
history_in (Some r) = Some r.world.past
history_in None = None

-- the history of transaction t in the script's replay, where the log answers so, and the restarts find this of its record
abbrev pub played : List Line → ℕ → List LogAnswer → List Bool → Option (List Entry)
played s t answers finds = history_in (play s t 1 s (Some (record { world = record { calls = []; past = [] }; answers = answers; finds = finds })))
