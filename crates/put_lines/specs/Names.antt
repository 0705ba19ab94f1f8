-- What a script says of the names of a put.
use Rattle.std.specs.Prelude.{ℕ, ◌≡◌, ◌-◌, ◌==◌, Bool, true, false, ◌&&◌, not, List, length, Option, Some, None, is_some, slice_index_or, if◌then◌else◌}
use Rattle.dtx_values.specs.declared.number.TheConstants.TxNo.{MAX as TRANSACTIONS}
use Rattle.dtx_values.specs.declared.number.TheConstants.EnlNo.{MAX as ENLISTMENTS}
use Rattle.dtx_values.specs.declared.number.RmNo.{RmNo}
use Rattle.dtx_values.specs.declared.script.BadCause.{BadCause}
use Rattle.dtx_values.specs.declared.script.BadCause.TheVariants.{NameUnknown, WrongKind}
use Rattle.dtx_values.specs.declared.script.Body.{Body}
use Rattle.dtx_values.specs.declared.script.Body.TheVariants.{Volatile, Durable, Promotable}
use Rattle.dtx_values.specs.declared.script.Line.{Line}
use Rattle.dtx_model.specs.Caused.{Of, Volatiles, Manager}
use Rattle.heard_notes.specs.Puts.{Named}
use Rattle.heard_notes.specs.declared.put.Put.{Put}
use Rattle.put_lines.specs.Input.{named_in}
use Rattle.put_lines.specs.declared.names.Made.{Made}
use Rattle.put_lines.specs.declared.names.Names.{Names}

-- the object is that of all volatiles
abbrev pub is_of_volatiles : Of → Bool
is_of_volatiles Volatiles = true
is_of_volatiles o = false

-- it is that of this manager
abbrev pub is_of_manager : RmNo → Of → Bool
is_of_manager r (Manager q) = q.value == r.value
is_of_manager r o = false

-- what a command says of this enlistment, where it makes it
abbrev pub made_here : Of → ℕ → Body → Option Made
made_here o e (Volatile t f x v) = if e == f.value then Some (record { transaction = t; has_object = is_of_volatiles o }) else None
made_here o e (Durable t f r s) = if e == f.value then Some (record { transaction = t; has_object = is_of_manager r o }) else None
made_here o e (Promotable t f r v x p) = if e == f.value then Some (record { transaction = t; has_object = is_of_manager r o }) else None
made_here o e _ = None

-- it is one of this transaction that has the object
abbrev pub is_right : ℕ → Option Made → Bool
is_right t (Some m) = (t == m.transaction.value) && m.has_object
is_right t None = false

-- what the tables say of a put
abbrev pub named_at : Names → Put → Named
named_at n p = record {
  made = slice_index_or n.transactions.items (p.transaction.value - 1) false && is_some (slice_index_or n.enlistments.items (p.enlistment.value - 1) None);
  right = is_right p.transaction.value (slice_index_or n.enlistments.items (p.enlistment.value - 1) None);
}

-- the first fault of a put's names
abbrev pub naming_fault : Named → Option BadCause
naming_fault n = if not n.made then Some NameUnknown else if not n.right then Some WrongKind else None

-- the tables say what the script says
pub record AreNames (s : List Line) (o : Of) (n : Names) : Type 0 where
  pub transactions_long : length n.transactions.items ≡ TRANSACTIONS
  pub enlistments_long : length n.enlistments.items ≡ ENLISTMENTS
  pub named : (p : Put) → named_at n p ≡ named_in s o p
