-- A manager, as its users see it.
use Rattle.std.specs.Prelude.{ℕ, ◌≡◌, ◌≢◌, ◌-◌, ◌==◌, ◌&&◌, not, Bool, true, false, List, Option, Some, None, slice_get, if◌then◌else◌}
use Rattle.dtx_values.specs.TxIds.{first_id, number_of}
use Rattle.dtx_values.specs.declared.number.TxNo.{TxNo}
use Rattle.dtx_values.specs.declared.tx_id.TxId.{TxId}
use Rattle.coordinator_log.specs.State.{LogState}
use Rattle.transactions.specs.declared.usage.Usage.{Usage}
use Rattle.transactions.specs.declared.usage.Usage.TheVariants.{Free, Held, Left}
use Rattle.transactions.specs.State.{LiveState}

-- The log, the transactions by place from 1, the last number for good that was given, the clock, and its greatest reading.
pub record Standing (D C : Type 0) : Type 0 where
  pub log : LogState D
  pub lives : List LiveState
  pub last : ℕ
  pub clock : C
  pub reading : ℕ

-- a transaction goes on there
abbrev pub is_used : Usage → Bool
is_used Free = false
is_used Held = true
is_used Left = true

-- this transaction goes on there
abbrev pub is_live : TxId → LiveState → Bool
is_live t x = is_used x.usage && (number_of x.number == number_of t)

abbrev pub live_in : TxId → Option LiveState → Option LiveState
live_in t (Some x) = if is_live t x then Some x else None
live_in t None = None

-- this transaction, where it goes on: it stands at the place of its number within the epoch
abbrev pub live_at : TxId → List LiveState → Option LiveState
live_at t xs = live_in t (slice_get xs (t.t.value - 1))

-- no transaction goes on at the place
abbrev pub is_vacant : Option LiveState → Bool
is_vacant (Some x) = not (is_used x.usage)
is_vacant None = true

abbrev pub standing_in : TxNo → Option LiveState → TxId
standing_in p (Some x) = if is_used x.usage then x.number else first_id p
standing_in p None = first_id p

-- the transaction that goes on at this place; where none does, that of epoch 0, which none of a manager has
abbrev pub standing_at : TxNo → List LiveState → TxId
standing_at p xs = standing_in p (slice_get xs (p.value - 1))

-- every other transaction is as it was
abbrev pub AreSame : TxId → List LiveState → List LiveState → Type 0
AreSame t old new = (u : TxId) → u ≢ t → live_at u new ≡ live_at u old

-- Nothing of the manager changed but its transactions.
abbrev pub KeepsRest : {D C : Type 0} → Standing D C → Standing D C → Type 0
KeepsRest old new = new ≡ record old { lives = new.lives }

-- the clock and its greatest reading are as they were
abbrev pub KeepsClock : {D C : Type 0} → Standing D C → Standing D C → Type 0
KeepsClock old new = (new.clock ≡ old.clock) × (new.reading ≡ old.reading)

-- and so is the last number for good that was given
abbrev pub KeepsTime : {D C : Type 0} → Standing D C → Standing D C → Type 0
KeepsTime old new = KeepsClock old new × (new.last ≡ old.last)
