-- What lies under a transaction's lock, and what its type keeps.
use Rattle.std.specs.Prelude.{ℕ, ◌≡◌, ◌⊎◌, Bool, true, false, List, Some, IsTrue}
use Rattle.dtx_values.specs.declared.call.Call.{Call}
use Rattle.dtx_values.specs.TxIds.{number_of}
use Rattle.dtx_values.specs.declared.note.Note.{Note}
use Rattle.dtx_values.specs.declared.note.Reply.{Reply}
use Rattle.dtx_values.specs.declared.number.ActorNo.{ActorNo}
use Rattle.dtx_values.specs.declared.number.EnlNo.{EnlNo}
use Rattle.dtx_values.specs.declared.script.Line.{Line}
use Rattle.dtx_model.specs.Words.{always, has}
use Rattle.dtx_model.specs.Grammar.{OfTransaction, is_made}
use Rattle.dtx_model.specs.Plans.{planned}
use Rattle.dtx_model.specs.Replies.{fits}
use Rattle.dtx_model.specs.Tied.{tied}
use Rattle.dtx_model.specs.Caused.{IsCallOf, IsIn, has_object, is_as_planned, plans_of}
use Rattle.script_calls.specs.Prefix.{IsPrefix}
use Rattle.script_calls.specs.SeenRow.{SeenRow}
pub use Rattle.script_calls.specs.Threadable.{IsThreadable, is_do_line}
use Rattle.tx_world.specs.State.{TxState}
pub use Rattle.script_histories.specs.LogQuiet.{is_log_full}
pub use Rattle.turn_parts.specs.Runs.{untouched}

-- the transaction; for each actor its calls there, and how many of them were entered; and the enlistments whose replies are out: each was asked outside the lock, with this note
pub record Cell : Type 0 where
  pub tx : TxState
  pub rows : List (SeenRow Call)
  pub out : List (EnlNo × Note)

-- What a cell keeps in a run of the script s in which the first k managers have an object, and whose disk tells what it holds where `honest` says so: the script names the transaction, which is of epoch 0, each call that was entered is one that its line
-- gives the transaction, of each actor's calls there those that were entered are the first ones, in order, and each reply is the planned one, or that of an enlistment whose manager has an object; over an honest disk each restart of the log
-- that the history tells of found what may be found, and no append found the log full.
pub record IsKept (s : List Line) (k : ℕ) (honest : Bool) (x : TxState) (rows : List (SeenRow Call)) : Type 0 where
  pub script : IsThreadable s
  pub first : x.transaction.epoch ≡ 0
  pub named : is_made s (OfTransaction (number_of x.transaction)) ≡ true
  pub given : (n : ℕ) (a : ActorNo) (c : Call) → IsIn x.world.calls n a c → IsCallOf s (number_of x.transaction) n a c
  pub in_order : IsPrefix s (number_of x.transaction) rows x.world.calls
  pub planned : always (is_as_planned (plans_of s) (has_object s k)) x.world.past ≡ true
  pub sound : IsTrue honest → tied x.world.past ≡ true
  pub unfilled : IsTrue honest → has is_log_full x.world.past ≡ false

-- The enlistment may reply so to the note: the reply fits it, and is the planned one unless its manager has an object.
pub record MayReply (s : List Line) (k : ℕ) (e : EnlNo) (n : Note) (r : Reply) : Type 0 where
  pub fitting : fits r n ≡ true
  pub right : (has_object s k e.value ≡ true) ⊎ (planned (plans_of s e.value) n ≡ Some r)
