-- The calls that a transaction's world was given: which of them wait, and what they say of enlistments. A history has of a call that waits its line
-- alone, so these are readings of the history and of the calls entered.
use Rattle.std.specs.Prelude.{ℕ, ◌==◌, Bool, true, false, not, List, [], ◌∷◌, filter, Option, Some, None}
use Rattle.dtx_values.specs.declared.call.Call.{Call}
use Rattle.dtx_values.specs.declared.call.Call.TheVariants.{Durable, Promotable}
use Rattle.dtx_values.specs.declared.entry.Answer.TheVariants.{Fine, True, Wait}
use Rattle.dtx_values.specs.declared.entry.Entry.{Entry}
use Rattle.dtx_values.specs.declared.entry.Entry.TheVariants.{Called, Answered}
use Rattle.dtx_values.specs.declared.number.EnlNo.{EnlNo}
use Rattle.dtx_values.specs.declared.number.RmNo.{RmNo}
use Rattle.dtx_values.specs.declared.script.Support.{Support}
use Rattle.dtx_values.specs.declared.script.Support.TheVariants.{SinglePhase, TwoPhase}
use Rattle.dtx_values.specs.declared.words.Class.{Class}
use Rattle.dtx_values.specs.declared.words.Class.TheVariants.{DurableTwo, DurableSingle}
use Rattle.dtx_values.specs.Table.{insert_by}
pub use Rattle.dtx_model.specs.declared.waiting.EnteredCall.{EnteredCall}
use Rattle.dtx_model.specs.declared.waiting.Wanted.{Wanted}
use Rattle.dtx_model.specs.declared.waiting.Wanted.TheVariants.{Identifier, Place}
use Rattle.dtx_model.specs.Words.{latest}

-- a call that waits, with its line, and what it waits for: the identifier, as a marshal call does, or a place at the coordinator, as a durable call does
abbrev pub Waiter : Type 0
Waiter = ℕ × Wanted

abbrev pub class_by : Support → Class
class_by (SinglePhase v o) = DurableSingle
class_by (TwoPhase v) = DurableTwo

abbrev pub wanted_by : Call → Wanted
wanted_by (Durable t e r s) = Place e r (class_by s)
wanted_by _ = Identifier

abbrev pub call_if : Bool → Call → Option Call
call_if true c = Some c
call_if false c = None

abbrev pub call_in : ℕ → EnteredCall → Option Call
call_in n k = call_if (k.line == n) k.call

-- the call of line n, where it was entered
abbrev pub call_at : List EnteredCall → ℕ → Option Call
call_at ks n = latest (call_in n) ks

abbrev pub wanted : Option Call → Wanted
wanted (Some c) = wanted_by c
wanted None = Identifier

abbrev pub waiter_line : Waiter → ℕ
waiter_line w = w.0

abbrev pub waiting_after : List EnteredCall → Entry → List Waiter → List Waiter
waiting_after ks (Called n a Wait) ws = insert_by waiter_line (n, wanted (call_at ks n)) ws
waiting_after ks (Answered n x) ws = filter (λ w. not (n == w.0)) ws
waiting_after ks _ ws = ws

-- the calls that wait, in order of lines
abbrev pub waiting : List EnteredCall → List Entry → List Waiter
waiting ks [] = []
waiting ks (x ∷ past) = waiting_after ks x (waiting ks past)

-- it waits for a place at the coordinator, or this enlistment's
abbrev pub is_place : Waiter → Bool
is_place (n, Place e r c) = true
is_place (n, Identifier) = false

abbrev pub is_place_of : ℕ → Waiter → Bool
is_place_of e (n, Place f r c) = e == f.value
is_place_of e (n, Identifier) = false

-- The managers of the durables and promotables that were enlisted by their calls at once: the history doesn't say them, and one of them may have to be handed
-- over to the coordinator. Those of the others are in their ENLIST.
abbrev pub managed_by : Option Call → List (EnlNo × RmNo) → List (EnlNo × RmNo)
managed_by (Some (Durable t e r s)) ms = (e, r) ∷ ms
managed_by (Some (Promotable t e r v x p)) ms = (e, r) ∷ ms
managed_by _ ms = ms

abbrev pub managed_after : List EnteredCall → Entry → List (EnlNo × RmNo) → List (EnlNo × RmNo)
managed_after ks (Called n a Fine) ms = managed_by (call_at ks n) ms
managed_after ks (Called n a True) ms = managed_by (call_at ks n) ms
managed_after ks _ ms = ms

-- newest first
abbrev pub managed : List EnteredCall → List Entry → List (EnlNo × RmNo)
managed ks [] = []
managed ks (x ∷ past) = managed_after ks x (managed ks past)
