-- The steps of one transaction, those that are pending, and the entries of each: the whole of a transaction's machine, over its calls and its history.
use Rattle.std.specs.Prelude.{ℕ, Bool, true, false, ◌||◌, List, [], ◌∷◌, ◌++◌, map, filter, if◌then◌else◌}
use Rattle.std.specs.List.{flat_map}
use Rattle.dtx_values.specs.declared.call.Call.{Call}
use Rattle.dtx_values.specs.declared.entry.Answer.{Answer}
use Rattle.dtx_values.specs.declared.entry.Entry.{Entry}
use Rattle.dtx_values.specs.declared.entry.Entry.TheVariants.{Called, Down as Ended, Freed, Got, LogFull, Logged, Restarted, Stopped}
use Rattle.dtx_values.specs.declared.message.Conn.{Conn}
use Rattle.dtx_values.specs.declared.message.Dir.{Dir}
use Rattle.dtx_values.specs.declared.message.Dir.TheVariants.{Up, Down}
use Rattle.dtx_values.specs.declared.message.Message.{Message}
use Rattle.dtx_values.specs.declared.note.Plan.{Plan}
use Rattle.dtx_values.specs.declared.note.Reply.{Reply}
use Rattle.dtx_values.specs.declared.number.ActorNo.{ActorNo}
use Rattle.dtx_values.specs.declared.number.EnlNo.{EnlNo}
use Rattle.dtx_values.specs.declared.end.End.{End}
use Rattle.dtx_model.specs.Words.{onto}
use Rattle.dtx_model.specs.Promotes.{identifier_of}
use Rattle.dtx_model.specs.Wires.{in_transit}
use Rattle.dtx_model.specs.Coordinated.{Coordinated, abort_sends, commit_sends, core_down, core_got, follow, may_free, may_log}
use Rattle.dtx_model.specs.Waiting.{EnteredCall}
use Rattle.dtx_model.specs.Plans.{plan_of}
use Rattle.dtx_model.specs.Half.{Half}
use Rattle.dtx_model.specs.Arrivals.{local_down, local_got}
use Rattle.dtx_model.specs.Acts.{act_entries}
use Rattle.dtx_model.specs.Facts.{facts_if, has_facts}
use Rattle.dtx_model.specs.Replies.{all_due, is_answered, reply_entries}
use Rattle.dtx_model.specs.World.{World, half, core, has_left, answer_at, facts_at}

-- what the log answered to an append or a free: done, no gate is closed, stopped by this call, or found stopped
pub data LogAnswer : Type 0 where
  Done : LogAnswer
  Full : LogAnswer
  StoppedNow : LogAnswer
  StoppedBefore : LogAnswer

-- one step: a line's call by its actor, with the steps that were done for it before it answers, which only a `do` counts; a reply of an enlistment; the
-- local act; the coordinator's act, with what the log answered; a delivery; a stop that another brought; and a restart that found a record or none
pub data Step : Type 0 where
  Calls : (line : ℕ) → (actor : ActorNo) → (call : Call) → (done : ℕ) → Step
  Replies : (enlistment : EnlNo) → (reply : Reply) → Step
  Acts : Step
  Coordinates : (answer : LogAnswer) → Step
  Delivers : (connection : Conn) → (direction : Dir) → Step
  Stops : Step
  Restarts : (found : Bool) → Step

-- a pending step, without what is answered to it
pub data StepName : Type 0 where
  ReplyOf : (enlistment : EnlNo) → StepName
  LocalAct : StepName
  CoordinatorAct : StepName
  Delivery : (connection : Conn) → (direction : Dir) → StepName

-- the replies that are due and whose plans aren't silent, by number
abbrev pub replies_due : (ℕ → Plan) → Half → List StepName
replies_due p h = map (λ x. ReplyOf x.0) (filter (is_answered p) (all_due h.seen))

abbrev pub local_if : List Entry → List StepName
local_if [] = []
local_if (x ∷ xs) = LocalAct ∷ []

abbrev pub core_act : Coordinated → List StepName
core_act k = if may_log k || may_free k then CoordinatorAct ∷ [] else []

abbrev pub delivery_if : Bool → Conn → Dir → List StepName
delivery_if true c d = Delivery c d ∷ []
delivery_if false c d = []

abbrev pub deliveries_on : List Entry → End → List StepName
deliveries_on past n = delivery_if (has_left n.connection Up past) n.connection Up ++ delivery_if (has_left n.connection Down past) n.connection Down

-- what is pending at the local side: the replies that are due, and then the local act
unfoldable pub local_pending : (ℕ → Plan) → Half → List StepName
local_pending p h = replies_due p h ++ local_if (act_entries h)

-- Pending: the replies that are due, the local act, the coordinator's act, and the deliveries, by connection, upward first
unfoldable pub pending : World → List StepName
pending w = local_pending (plan_of w.calls) (half w) ++ core_act (core w) ++ flat_map (deliveries_on w.past) (half w).seen.ends

-- the coordinator's act: an append where it may append, else a free
abbrev pub appended : Coordinated → LogAnswer → List Entry
appended k Done = Logged ∷ commit_sends (follow k Logged)
appended k Full = LogFull ∷ abort_sends (follow k LogFull)
appended k _ = Stopped ∷ []

abbrev pub freed : LogAnswer → List Entry
freed Done = Freed ∷ []
freed Full = []
freed _ = Stopped ∷ []

abbrev pub coordinates : Coordinated → LogAnswer → List Entry
coordinates k a = if may_log k then appended k a else freed a

-- a delivery: the first message on the way, or else the end
abbrev pub got_by : ℕ → World → Conn → Dir → Message → List Entry
got_by t w c Up m = core_got (identifier_of t) (core w) c m
got_by t w c Down m = local_got t (half w) c m

abbrev pub ended_at : World → Conn → Dir → List Entry
ended_at w c Up = core_down (core w) c
ended_at w c Down = local_down (half w) c

abbrev pub delivered : ℕ → World → Conn → Dir → List Message → List Entry
delivered t w c d [] = Ended c d ∷ ended_at w c d
delivered t w c d (m ∷ ms) = Got c d m ∷ got_by t w c d m

abbrev pub called : ℕ → World → ℕ → ActorNo → Call → Answer → List Entry
called t w n a c x = Called n a x ∷ facts_if (has_facts x) (facts_at t w c x)

-- a restart first stops a coordinator that isn't stopped
abbrev pub restarted : Bool → Bool → List Entry
restarted true found = Restarted found ∷ []
restarted false found = Stopped ∷ Restarted found ∷ []

-- the block of a step of transaction t: the entries that it makes
unfoldable pub block_at : ℕ → World → Step → List Entry
block_at t w (Calls n a c m) = called t w n a c (answer_at t w c m)
block_at t w (Replies e r) = reply_entries (half w) e r
block_at t w Acts = act_entries (half w)
block_at t w (Coordinates x) = coordinates (core w) x
block_at t w (Delivers c d) = delivered t w c d (in_transit c d w.past)
block_at t w Stops = Stopped ∷ []
block_at t w (Restarts found) = restarted (core w).stopped found

-- the calls with that of the step, where it is one
abbrev pub entered : Step → List EnteredCall → List EnteredCall
entered (Calls n a c m) ks = record { line = n; actor = a; call = c } ∷ ks
entered _ ks = ks

-- the world after a step
unfoldable pub after : ℕ → World → Step → World
after t w m = record { calls = entered m w.calls; past = onto w.past (block_at t w m) }
