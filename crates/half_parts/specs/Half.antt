-- The local side of a transaction.
use Rattle.std.specs.Prelude.{ℕ, ◌+◌, ◌==◌, ◌≡◌, ◌≤◌, ◌&&◌, ◌||◌, Bool, true, false, not, List, [], ◌∷◌, Option, Some, None, is_some, if◌then◌else◌, nat_lt}
use Rattle.std.specs.List.{filter_map}
use Rattle.dtx_values.specs.declared.call.Call.{Call}
use Rattle.dtx_values.specs.declared.call.Call.TheVariants.{Volatile, Durable, Promotable, Await, Do, Lose, Gone, Reenlist, Recovered}
use Rattle.dtx_values.specs.declared.entry.Entry.{Entry}
use Rattle.dtx_values.specs.declared.entry.Entry.TheVariants.{Lost}
use Rattle.dtx_values.specs.declared.note.Note.{Note}
use Rattle.dtx_values.specs.declared.note.Reply.{Reply}
use Rattle.dtx_values.specs.declared.number.EnlNo.{EnlNo}
use Rattle.dtx_values.specs.declared.tx_id.TxId.{TxId}
use Rattle.dtx_values.specs.Outgoing.{Outgoing}
use Rattle.dtx_model.specs.declared.branch.Branch.{Branch}
use Rattle.dtx_model.specs.Words.{has, kth}
use Rattle.dtx_model.specs.Observed.{Observed}
use Rattle.dtx_model.specs.declared.waiting.EnteredCall.{EnteredCall}
use Rattle.dtx_model.specs.Waiting.{Waiter, is_place_of}
use Rattle.dtx_model.specs.Half.{Half, heeds_all, at_home}
use Rattle.dtx_model.specs.Replies.{due_of, fits, with_note}
use Rattle.dtx_model.specs.World.{World, half as half_at, gone_unlinked}
use Rattle.dtx_model.specs.Caused.{IsOwnRun, is_new}
use Rattle.enlist_table.specs.Waiting.{is_waiting}
pub use Rattle.dtx_model.specs.Facts.{is_done, is_waiting_answer}

-- the transaction, and what its local side knows of its calls and its history
pub record Known : Type 0 where
  pub transaction : TxId
  pub half : Half

-- what is known after a block of entries, where these calls are those of the block
abbrev pub after : List EnteredCall → Known → List Entry → Known
after ks k es = record { transaction = k.transaction; half = heeds_all ks k.half es }

-- the local side follows the world of transaction t: calls that were entered there and the steps after them made it, and it knows all that can be read of it
pub record Follows (t : ℕ) (w : World) (h : Half) : Type 0 where
  pub ran : IsOwnRun t w
  pub knows : half_at w ≡ h

-- the outbox has room for so many more entries and messages
pub record IsRoom (entries messages : ℕ) (o : Outgoing) : Type 0 where
  pub entries_fit : entries ≤ o.room
  pub messages_fit : messages ≤ o.send_room

-- the outbox lost room for at most so many entries and messages
pub record IsLeft (entries messages : ℕ) (old new : Outgoing) : Type 0 where
  pub entries_left : old.room ≤ new.room + entries
  pub messages_left : old.send_room ≤ new.send_room + messages

-- the outbox has room for what one step of the local side makes
abbrev pub HasRoom : Outgoing → Type 0
HasRoom o = IsRoom 40 20 o

-- the call is answered by the half itself: it is none of do, await, lose, gone, reenlist and recovered
abbrev pub is_its_own : Call → Bool
is_its_own (Await t) = false
is_its_own (Do t k n) = false
is_its_own (Lose t c u w) = false
is_its_own (Gone e) = false
is_its_own (Reenlist e) = false
is_its_own (Recovered t r) = false
is_its_own _ = true

-- a call waits for a place of this enlistment
abbrev pub is_awaited : List Waiter → ℕ → Bool
is_awaited ws e = has (is_place_of e) ws

-- a call waits for the place of the enlistment that the call makes
abbrev pub is_made_by_waiting : List Waiter → Call → Bool
is_made_by_waiting ws (Volatile t e x v) = is_awaited ws e.value
is_made_by_waiting ws (Durable t e r s) = is_awaited ws e.value
is_made_by_waiting ws (Promotable t e r v x p) = is_awaited ws e.value
is_made_by_waiting ws _ = false

-- the call of this line waits
abbrev pub waits_at : List Waiter → ℕ → Bool
waits_at ws n = has (λ w. n == w.0) ws

-- what the call of line n makes neither stands nor waits, and no call of that line waits
abbrev pub is_free : Half → ℕ → Call → Bool
is_free h n c = is_new h.seen c && not (is_made_by_waiting h.waits c) && not (waits_at h.waits n)

-- the reply fits the note to which one is due, where one is
abbrev pub fits_due : Reply → Option Note → Bool
fits_due r (Some n) = fits r n
fits_due r None = true

-- a commit that came over a connection wasn't acknowledged
abbrev pub owes_ack : Branch → Bool
owes_ack b = is_some b.due

-- Something else than a vote may be due: the commit was handed over, a promotable was asked and didn't reply, or a commit wasn't acknowledged.
abbrev pub owes_more : Observed → Bool
owes_more o = is_some o.handed || (o.promote_asked && not o.promote_replied) || (o.single_asked && not o.requested) || has owes_ack o.branches

-- A reply may be due: a vote is awaited, or something else may be due.
abbrev pub may_owe : Observed → Bool
may_owe o = has is_waiting o.table || owes_more o

-- the reply of the lower number; the second where the numbers are the same
abbrev pub lower : Option (EnlNo × Note) → Option (EnlNo × Note) → Option (EnlNo × Note)
lower (Some a) (Some b) = if nat_lt a.0.value b.0.value then Some a else Some b
lower (Some a) None = Some a
lower None y = y

-- the first of these enlistments of which a reply is due, with the note
abbrev pub first_due : Observed → List EnlNo → Option (EnlNo × Note)
first_due o es = kth (filter_map (λ e. with_note e (due_of o e.value)) es) 1

-- what the loss of an enlistment writes: where one of its connections is open, no more than that
abbrev pub loss : Bool → Half → EnlNo → List Entry
loss true h e = Lost e ∷ []
loss false h e = gone_unlinked h e

-- nothing of a promotion is known, and no call waits
pub record IsAtHome (h : Half) : Type 0 where
  pub same : h ≡ at_home h.seen h.managers
