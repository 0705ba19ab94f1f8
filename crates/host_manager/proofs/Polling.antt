-- What comes next in a transaction, and its end, by what the manager says of them.
use Rattle.std.proofs.Common.{ℕ, ◌≡◌, ◌≢◌, ◌⊎◌, ◌∷◌, [], Bool, true, false, List, Some, None, Result, Ok, Err, IfOk, IfErr, OnErr, OnOk, IsTrue, length, inl, inr, ap, refl, sym}
use Rattle.dtx_values.specs.TxIds.{number_of}
use Rattle.dtx_values.specs.declared.entry.Answer.TheVariants.{NoSuch}
use Rattle.dtx_values.specs.declared.entry.Entry.{Entry}
use Rattle.dtx_values.specs.declared.note.Reply.{Reply}
use Rattle.dtx_values.specs.declared.number.EnlNo.{EnlNo}
use Rattle.dtx_values.specs.declared.number.RmNo.{RmNo}
use Rattle.dtx_values.specs.declared.tx_id.TxId.{TxId}
use Rattle.dtx_model.specs.Replies.{reply_entries}
use Rattle.dtx_model.specs.Words.{onto}
use Rattle.dtx_model.specs.World.{half}
use Rattle.host_disk.specs.HostState.{HostState}
use Rattle.host_disk.specs.Order.{is_settled}
use Rattle.host_manager.proofs.Passing.{held, on_this}
use Rattle.host_manager.specs.Host.{IsLawful}
use Rattle.host_manager.specs.Polls.{Ends, EndsAt, GoesOn, NotDue, Replies, RepliesAt, Stays}
use Rattle.host_manager.specs.Results.{ended_in, replied_in}
use Rattle.host_manager.specs.declared.clock.HostClock.{HostClock}
use Rattle.transactions.specs.declared.error.TxError.{TxError}
use Rattle.transactions.specs.declared.error.TxError.TheVariants.{Memory, Refused}
use Rattle.transactions.specs.declared.event.Next.{Next}
use Rattle.transactions.specs.declared.event.Next.TheVariants.{Disk, Nothing}
use Rattle.transactions.specs.declared.handle.CommittableTransaction.{CommittableTransaction}
use Rattle.transactions.specs.Doing.{AdvancesAt, is_due}
use Rattle.transactions.specs.Ending.{IsOver}
use Rattle.transactions.specs.Hearing.{Writes, found_in}
use Rattle.transactions.specs.Slots.{AreSame, KeepsRest, KeepsTime, Standing, live_at}
use Rattle.transactions.specs.State.{LiveState, past}
use Rattle.transactions.specs.Waiting.{AllAsked}

pub goes_on : (number : ℕ) (t : TxId) (m n : Standing HostState HostClock) (ms : List RmNo) (given : ℕ) (z : Result Next TxError)
    → number_of t ≡ number → live_at t m.lives ≢ None
    → IfOk z (λ x. AdvancesAt (found_in x) t m.lives n.lives)
    → OnErr z (AdvancesAt None t m.lives n.lives)
    → IfOk z (λ x. x ≢ Disk → IsTrue (is_settled n.log.disk.asked))
    → (is_settled m.log.disk.asked ≡ false → n ≡ m)
    → (z ≡ Ok Disk → is_settled n.log.disk.asked ≡ false)
    → (z ≡ Ok Nothing → (y : LiveState) → live_at t n.lives ≡ Some y → (y.heard ≡ length (past y)) × AllAsked y.tx.world)
    → IsLawful t n.lives → AreSame t m.lives n.lives → KeepsTime m n
    → IfErr z (λ e. (e ≡ Memory) ⊎ ((e ≡ Refused NoSuch) × (live_at t m.lives ≡ None)))
    → GoesOn number (held m ms given) (held n ms given) z
goes_on number t m n ms given (Ok x) named live comes stays quiet busy disk all lawful others time cause = record {
  transaction = t;
  named = named;
  comes = comes;
  quiet = quiet;
  disk = λ is. disk (ap (λ (v : Next). Ok v) is);
  busy = λ asked. ap (λ (s : Standing HostState HostClock). held s ms given) (busy asked);
  all = λ is. all (ap (λ (v : Next). Ok v) is);
  lawful = lawful;
  others = others;
  time = time;
  desk = refl;
}
goes_on number t m n ms given (Err e) named live comes stays quiet busy disk all lawful others time cause = elim cause [
  | inl memory ↦ inl (memory, t, named, stays, others, time, refl)
  | inr none ↦ absurd (live none.1)
]

pub replies : (number : ℕ) (t : TxId) (e : EnlNo) (r : Reply) (m n : Standing HostState HostClock) (ms : List RmNo) (given : ℕ) (z : Result Bool TxError)
    → number_of t ≡ number → live_at t m.lives ≢ None
    → IfOk z (λ b. (x : LiveState) → live_at t m.lives ≡ Some x → b ≡ is_due e r x)
    → (z ≡ Ok true → (x : LiveState) → live_at t m.lives ≡ Some x
    → (y : LiveState) × (live_at t n.lives ≡ Some y) × Writes ((e, r) ∷ []) x y × (y ≡ record x { tx = y.tx }) × (es : List Entry) × (past y ≡ onto (onto (past x) (reply_entries (half x.tx.world) e r)) es))
    → (z ≡ Ok false → live_at t n.lives ≡ live_at t m.lives) → OnErr z (live_at t n.lives ≡ live_at t m.lives)
    → AreSame t m.lives n.lives → KeepsRest m n
    → IfErr z (λ x. (x ≡ Memory) ⊎ ((x ≡ Refused NoSuch) × (live_at t m.lives ≡ None)))
    → Replies number e r (held m ms given) (held n ms given) (replied_in z)
replies number t e r m n ms given (Ok true) named live due replied unchanged failed others rest cause =
    on_this number (RepliesAt e r) m n ms given t named (λ x at. let w = replied refl x at in (sym (due x at), w.0, w.1, w.2, w.3, w.4, w.5)) others rest
replies number t e r m n ms given (Ok false) named live due replied unchanged failed others rest cause =
    on_this number (NotDue e r) m n ms given t named (unchanged refl, λ x at. sym (due x at)) others rest
replies number t e r m n ms given (Err x) named live due replied unchanged failed others rest cause = elim cause [
  | inl memory ↦ inl (memory, on_this number Stays m n ms given t named failed others rest)
  | inr none ↦ absurd (live none.1)
]

pub ends : (number : ℕ) (u : CommittableTransaction) (m n : Standing HostState HostClock) (ms : List RmNo) (given : ℕ) (z : Result (Unit {0}) CommittableTransaction)
    → number_of u.number ≡ number → live_at u.number m.lives ≢ None
    → OnOk z ((x : LiveState) × (live_at u.number m.lives ≡ Some x) × IsOver x) → OnOk z (live_at u.number n.lives ≡ None)
    → IfErr z (λ v. (v ≡ u) × (n ≡ m)) → OnErr z ((x : LiveState) → live_at u.number m.lives ≡ Some x → IsOver x → ⊥)
    → AreSame u.number m.lives n.lives → KeepsRest m n
    → Ends number (held m ms given) (held n ms given) (ended_in z)
ends number u m n ms given (Ok x) named live over gone refused cause others rest = on_this number EndsAt m n ms given u.number named (over, gone) others rest
ends number u m n ms given (Err v) named live over gone refused cause others rest = (ap (λ (s : Standing HostState HostClock). held s ms given) refused.1, u.number, named, live, cause)
