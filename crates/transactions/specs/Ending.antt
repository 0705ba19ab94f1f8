-- A transaction of which nothing is left to do.
use Rattle.std.specs.Prelude.{◌≡◌, ◌==◌, Bool, true, false, not, List, [], Some, None, ◌⊎◌, is_some}
use Rattle.dtx_values.specs.declared.entry.Entry.{Entry}
use Rattle.dtx_values.specs.declared.entry.Entry.TheVariants.{Told, Voted}
use Rattle.dtx_values.specs.declared.entry.Party.TheVariants.{Enl}
use Rattle.dtx_values.specs.declared.number.EnlNo.{EnlNo}
use Rattle.dtx_values.specs.declared.tx_id.TxId.{TxId}
use Rattle.dtx_values.specs.declared.words.Vote.TheVariants.{Yes}
use Rattle.dtx_model.specs.Words.{has}
use Rattle.dtx_model.specs.World.{half}
use Rattle.dtx_model.specs.Steps.{pending}
use Rattle.transactions.specs.declared.usage.Usage.TheVariants.{Left}
use Rattle.transactions.specs.Slots.{live_at}
use Rattle.transactions.specs.State.{LiveState, past}

-- the enlistment was told an outcome
abbrev pub is_told_to : EnlNo → Entry → Bool
is_told_to e (Told (Enl f) o) = e.value == f.value
is_told_to e _ = false

-- an enlistment voted yes, and wasn't told an outcome in this history
abbrev pub is_left_prepared : List Entry → Entry → Bool
is_left_prepared h (Voted e Yes) = not (has (is_told_to e) h)
is_left_prepared h _ = false

-- Nothing is left to do: the client was told, no step is pending, no record of it stands, and each enlistment that voted yes was told.
pub record IsOver (x : LiveState) : Type 0 where
  pub told : is_some (half x.tx.world).seen.told_client ≡ true
  pub idle : pending x.tx.world ≡ []
  pub unrecorded : x.tx.ours ≡ None
  pub resolved : has (is_left_prepared (past x)) (past x) ≡ false

-- Nobody holds the transaction any more, which was x before: it goes on as it was, or it was over and was taken off.
abbrev pub IsLeft : TxId → LiveState → List LiveState → Type 0
IsLeft t x new = (live_at t new ≡ Some (record x { usage = Left })) ⊎ ((live_at t new ≡ None) × IsOver x)

-- So it is with the transaction of this number, where one goes on; and where none does, none does afterwards.
abbrev pub IsLeftAt : TxId → List LiveState → List LiveState → Type 0
IsLeftAt t old new = ((x : LiveState) → live_at t old ≡ Some x → IsLeft t x new) × (live_at t old ≡ None → live_at t new ≡ None)
