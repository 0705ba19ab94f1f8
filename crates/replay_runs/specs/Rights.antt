-- What is said of the right to commit, of appends to the log, and of stops, in each transaction of a trace.
use Rattle.std.specs.Prelude.{◌≡◌, true, false, ◌∷◌, ◌||◌, List}
use Rattle.dtx_values.specs.declared.entry.Entry.{Entry}
use Rattle.dtx_values.specs.declared.number.TxNo.{TxNo}
use Rattle.dtx_model.specs.Observed.{observe}
use Rattle.dtx_model.specs.Traces.{Placed, history}
use Rattle.dtx_model.specs.Outcome.{evidence}
use Rattle.dtx_model.specs.Words.{always, ever, has, onto, past_of}
use Rattle.outcome_law.specs.Appended.{backs_append, has_append, is_abort_decision, is_barred, stopped_at_append}
use Rattle.outcome_law.specs.Stopped.{is_outcome_withheld, restarts_without_evidence}
use Rattle.local_half.specs.Rights.{is_in_one_place, right_after, right_of, right_seen}

-- in each transaction the right to commit is in one place, which the local side knows, and each entry moves it as `right_after` says
pub record HasOneRight (T : List Placed) : Type 0 where
  pub one : (t : TxNo) → is_in_one_place (history t.value (past_of T)) ≡ true
  pub seen : (t : TxNo) → right_seen (observe (history t.value (past_of T))) ≡ right_of (history t.value (past_of T))
  pub moves : (t : TxNo) (past es : List Entry) (x : Entry) → history t.value (past_of T) ≡ onto past (x ∷ es) → right_of (x ∷ past) ≡ right_after x (right_of past)

-- in each transaction that is decided to be aborted no append was tried and none may be, nor will be (`is_barred` says why), and no owner answered Committed; and where one may
-- be tried or was, or there is a record, the transaction is ready, and COMMIT, YES and each vote were got
pub record AreAppendsBacked (T : List Placed) : Type 0 where
  pub untried : (t : TxNo) → has is_abort_decision (history t.value (past_of T)) ≡ true → (has_append (history t.value (past_of T)) || stopped_at_append (history t.value (past_of T))) ≡ false
  pub barred : (t : TxNo) → has is_abort_decision (history t.value (past_of T)) ≡ true → is_barred (history t.value (past_of T)) ≡ true
  pub backed : (t : TxNo) → (has_append (history t.value (past_of T)) || stopped_at_append (history t.value (past_of T))) ≡ true → backs_append (history t.value (past_of T)) ≡ true

-- in each transaction, from a stop that leaves it unknown whether its record is there to the restart after it, nobody says committed or aborted; and where a restart found no record, there was no
-- evidence before, and SINGLE wasn't sent, there is never evidence
pub record AreOutcomesWithheld (T : List Placed) : Type 0 where
  pub withheld : (t : TxNo) → always is_outcome_withheld (history t.value (past_of T)) ≡ true
  pub never : (t : TxNo) → ever restarts_without_evidence (history t.value (past_of T)) ≡ true → evidence (history t.value (past_of T)) ≡ false
