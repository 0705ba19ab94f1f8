-- Steps whose reply an object may give, and the notes without a reply that objects hear.
use Rattle.std.specs.Prelude.{ℕ, ◌-◌, ◌≡◌, Bool, true, false, List, [], ◌∷◌, length, Option, Some, None, slice_index_or, not, if◌then◌else◌}
use Rattle.std.specs.Option.{option_map}
use Rattle.dtx_values.specs.declared.entry.Entry.{Entry}
use Rattle.dtx_values.specs.declared.note.Note.{Note}
use Rattle.dtx_values.specs.declared.note.Plan.{Plan}
use Rattle.dtx_values.specs.declared.note.Reply.{Reply}
use Rattle.dtx_values.specs.declared.number.EnlNo.{EnlNo}
use Rattle.dtx_values.specs.declared.number.RmNo.{RmNo}
use Rattle.dtx_values.specs.declared.number.TheConstants.EnlNo.{MAX}
use Rattle.dtx_values.specs.declared.number.TxNo.{TxNo}
use Rattle.dtx_values.specs.declared.script.Line.{Line}
use Rattle.dtx_model.specs.Words.{each, kth}
use Rattle.dtx_model.specs.Plans.{planned}
use Rattle.dtx_model.specs.Replies.{fits}
use Rattle.dtx_model.specs.World.{World}
use Rattle.dtx_model.specs.Steps.{Step, Replies, StepName, pending}
use Rattle.dtx_model.specs.Caused.{IsNamed, Of, is_manager, plans_of}
use Rattle.heard_notes.specs.Heard.{Shows, is_reply, note_shown, note_told}
use Rattle.heard_notes.specs.declared.of.Of.{Of as Given}
use Rattle.heard_notes.specs.declared.of.Of.TheVariants.{Manager, Volatiles}
use Rattle.heard_notes.specs.Whose.{whose}
use Rattle.script_calls.specs.Managers.{AreManagers}
use Rattle.coordinator_log.specs.State.{LogState}
use Rattle.tx_world.specs.State.{TxState}
use Rattle.tx_world.specs.Stepping.{Does, IsToPlan, reply_in}
use Rattle.replay_runs.specs.Volatiles.{AreVolatiles}

-- an answer, where there is one and it fits the note
abbrev pub fitting : Note → Option Reply → Option Reply
fitting n (Some r) = if fits r n then Some r else None
fitting n None = None

-- this answer, as the reply of an enlistment
abbrev pub reply_by : EnlNo → Option Reply → Option (EnlNo × Reply)
reply_by e a = option_map (λ r. (e, r)) a

-- the k-th pending step is a reply of this enlistment, and this one fits the note to which it is due
pub record MayReply (w : World) (k : ℕ) (e : EnlNo) (r : Reply) : Type 0 where
  pub note : Note
  pub due : reply_in w (kth (pending w) k) ≡ Some (e, note)
  pub fitting : fits r note ≡ true

-- the step is this reply, where one is given; and where none is, a reply is the planned one
abbrev pub IsGiven : Option (EnlNo × Reply) → World → Step → Type 0
IsGiven (Some x) w m = m ≡ Replies x.0 x.1
IsGiven None w m = IsToPlan w m

-- The k-th pending step was done: this reply, where one is given; and where none is, a reply is the planned one.
pub record DoesGiven {D : Type 0} (faults : D → ℕ) (given : Option (EnlNo × Reply)) (k : ℕ) (old : TxState) (from : LogState D) (new : TxState) (to : LogState D) : Type 0 where
  pub name : StepName
  pub step : Step
  pub stands : kth (pending old.world) k ≡ Some name
  pub named : IsNamed old.world name step
  pub reply : IsGiven given old.world step
  pub done : Does faults step old from new to

-- for whom an object answers, by the tables of the script's managers and volatiles
abbrev pub answers_by : Given → List (Option RmNo) → List Bool → ℕ → Bool
answers_by (Manager r) ms vs e = is_manager r (slice_index_or ms (e - 1) None)
answers_by Volatiles ms vs e = slice_index_or vs (e - 1) false

-- who is a volatile, by its table
abbrev pub volatile_by : List Bool → ℕ → Bool
volatile_by vs e = slice_index_or vs (e - 1) false

-- an object that answers for the enlistment was asked for the reply to this note, and this is its answer, where that fits; any other was not
abbrev pub IsAskedIf : {R : Type 0} → (R → TxNo → EnlNo → Note → Option Reply → R → Type 0) → Bool → TxNo → EnlNo → Note → R → Option (EnlNo × Reply) → R → Type 0
IsAskedIf gives true t e n x given y = (a : Option Reply) × gives x t e n a y × (given ≡ reply_by e (fitting n a))
IsAskedIf gives false t e n x given y = (y ≡ x) × (given ≡ None)

-- so it was, where a reply to a note is due of an enlistment
abbrev pub IsAsked : {R : Type 0} → (R → TxNo → EnlNo → Note → Option Reply → R → Type 0) → (ℕ → Bool) → TxNo → Option (EnlNo × Note) → R → Option (EnlNo × Reply) → R → Type 0
IsAsked gives who t (Some d) x given y = IsAskedIf gives (who d.0.value) t d.0 d.1 x given y
IsAsked gives who t None x given y = (y ≡ x) × (given ≡ None)

-- the note without a reply that an entry tells, where it is told one for whom the object answers
abbrev pub told_if : (ℕ → Bool) → (ℕ → Bool) → Entry → Option (EnlNo × Note) → Option (EnlNo × Note)
told_if who volatile x (Some n) = if who n.0.value then note_told (volatile n.0.value) x else None
told_if who volatile x None = None

abbrev pub told_by : (ℕ → Bool) → (ℕ → Bool) → Entry → Option (EnlNo × Note)
told_by who volatile x = told_if who volatile x (note_told true x)

-- the object heard these notes of a transaction, the oldest first, whatever it answered
abbrev pub IsTold : {R : Type 0} → (R → TxNo → EnlNo → Note → Option Reply → R → Type 0) → TxNo → List (EnlNo × Note) → R → R → Type 0
IsTold gives t [] from to = to ≡ from
IsTold {R} gives t (n ∷ ns) from to = (next : R) × (a : Option Reply) × gives from t n.0 n.1 a next × IsTold gives t ns next to

-- An object is made for a script: it answers for those whom `o` names, and the tables are those of the script's managers and volatiles.
pub record IsForOne (s : List Line) (o : Of) (of : Given) (ms : List (Option RmNo)) (vs : List Bool) : Type 0 where
  pub names : o ≡ whose of
  pub managers : AreManagers s s ms
  pub volatiles : AreVolatiles s s vs
  pub known : length ms ≡ MAX
  pub marked : length vs ≡ MAX

-- the entry shows no reply
abbrev pub is_no_reply : Entry → Bool
is_no_reply x = not (is_reply x)

-- the reply to a note is the one that is given, or else the one that is planned
abbrev pub IsReplyOf : (ℕ → Plan) → EnlNo → Note → Option (EnlNo × Reply) → Reply → Type 0
IsReplyOf p e n (Some x) r = x ≡ (e, r)
IsReplyOf p e n None r = planned (p e.value) n ≡ Some r

-- The block of a reply to a note: its own entry comes first, and shows the note and the reply, the given or the planned one; the others show none.
pub record IsRepliedIn (s : List Line) (e : EnlNo) (n : Note) (given : Option (EnlNo × Reply)) (es : List Entry) : Type 0 where
  pub entry : Entry
  pub rest : List Entry
  pub reply : Reply
  pub block : es ≡ entry ∷ rest
  pub note : (volatile : ℕ → Bool) → note_shown volatile entry ≡ Some (e, n)
  pub is : is_reply entry ≡ true
  pub shows : Shows entry reply
  pub taken : IsReplyOf (plans_of s) e n given reply
  pub others : each is_no_reply rest ≡ true

-- the block of a pending step, where a reply to a note is due there, or none is
abbrev pub IsBlockOf : List Line → Option (EnlNo × Note) → Option (EnlNo × Reply) → List Entry → Type 0
IsBlockOf s (Some d) given es = IsRepliedIn s d.0 d.1 given es
IsBlockOf s None given es = each is_no_reply es ≡ true
