-- What an enlistment is answered that comes back by its recovery information.
use Rattle.std.specs.Prelude.{◌≡◌, ◌≢◌, ℕ, Bool, true, false, List, [], length, Option, Some, None, Result, Ok, Err}
use Rattle.dtx_values.specs.declared.entry.Answer.{Answer}
use Rattle.dtx_values.specs.declared.entry.Answer.TheVariants.{Fine, Finished, Over, Connected, Stopped}
use Rattle.dtx_values.specs.declared.entry.Entry.{Entry}
use Rattle.dtx_values.specs.declared.info.BadInfo.{BadInfo}
use Rattle.dtx_values.specs.declared.info.BadInfo.TheVariants.{Length, Value}
use Rattle.dtx_values.specs.declared.message.Info.{Info}
use Rattle.dtx_values.specs.declared.number.EnlNo.{EnlNo}
use Rattle.dtx_values.specs.RecoveryInfo.{IsInfo, bad_field}
use Rattle.dtx_model.specs.Words.{past_of}
use Rattle.dtx_model.specs.World.{reenlist_answer}
use Rattle.reenlist_recovery.specs.declared.refusal.ReenlistRefusal.{ReenlistRefusal}
use Rattle.reenlist_recovery.specs.declared.refusal.ReenlistRefusal.TheVariants.{BadInfo as Unreadable, NoSuch, Finished as IsFinished, RecoveryOver, Connected as IsConnected, Stopped as IsStopped}

-- the bytes are no recovery information, since there are not 36 of them, or by the first bad field
abbrev pub IsBad : List ℕ → BadInfo → Type 0
IsBad b (Length n) = (n ≡ length b) × (n ≢ 36)
IsBad b (Value p) = (length b ≡ 36) × (bad_field b ≡ Some p)

-- the bytes are recovery information
abbrev pub IsSomeInfo : List ℕ → Type 0
IsSomeInfo b = (i : Info) × IsInfo b i

-- the bytes weren't refused
abbrev pub was_read : Result Info ReenlistRefusal → Bool
was_read (Err (Unreadable b)) = false
was_read _ = true

-- the answer of a script's call `reenlist` after this history, oldest entry first; it reads the history alone
abbrev pub reenlisted : List Entry → EnlNo → Answer
reenlisted xs e = reenlist_answer (record { calls = []; past = past_of xs }) e

-- the refusal that says this answer of a `reenlist`; the last clause is for NoSuch, and for those that it never gets
abbrev pub refusal_of : EnlNo → Answer → Option ReenlistRefusal
refusal_of e Fine = None
refusal_of e Finished = Some (IsFinished e)
refusal_of e (Over r) = Some (RecoveryOver r)
refusal_of e (Connected f) = Some (IsConnected f)
refusal_of e Stopped = Some IsStopped
refusal_of e _ = Some NoSuch

-- the information, or the refusal
abbrev pub unless_refused : Info → Option ReenlistRefusal → Result Info ReenlistRefusal
unless_refused i None = Ok i
unless_refused i (Some r) = Err r

-- what information of this transaction is answered
abbrev pub answered : List Entry → Info → Result Info ReenlistRefusal
answered xs i = unless_refused i (refusal_of i.enl (reenlisted xs i.enl))
