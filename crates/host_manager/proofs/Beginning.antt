-- The beginning of a transaction, by what the manager says of it; and what was given to the host.
use Rattle.std.proofs.Common.{ℕ, ◌≡◌, ◌≤◌, ◌<◌, ◌⊎◌, ◌∷◌, Bool, true, false, List, [], Option, Some, None, Result, Ok, Err, IfErr, OnErr, IsTrue, inl, inr, length, ap, refl, subst, sym, arith}
use Rattle.dtx_values.specs.TxIds.{number_of}
use Rattle.dtx_values.specs.declared.call.Call.TheVariants.{Begin}
use Rattle.dtx_values.specs.declared.entry.Answer.TheVariants.{Fine}
use Rattle.dtx_values.specs.declared.number.RmNo.{RmNo}
use Rattle.dtx_values.specs.declared.words.Timeout.{Timeout}
use Rattle.host_disk.specs.HostState.{HostState, MayBeLeft}
use Rattle.host_disk.specs.Order.{Order, is_settled}
use Rattle.host_manager.proofs.Passing.{held}
use Rattle.host_manager.specs.Host.{faults}
use Rattle.host_manager.specs.Lives.{Begins}
use Rattle.host_manager.specs.Results.{begun_in}
use Rattle.host_manager.specs.declared.clock.HostClock.{HostClock}
use Rattle.transactions.specs.declared.error.TxError.{TxError}
use Rattle.transactions.specs.declared.handle.CommittableTransaction.{CommittableTransaction}
use Rattle.transactions.specs.Calling.{IsCalled}
use Rattle.transactions.specs.Numbering.{MayNotBegin, NumbersLog}
use Rattle.transactions.specs.Slots.{AreSame, Standing, live_at}
use Rattle.transactions.specs.State.{LiveState, blank}

-- what was given is among what is asked for, where that changed only if it was nothing
pub still_given : (given : ℕ) (a b : List Order) → given ≤ length a → (is_settled a ≡ false → b ≡ a) → given ≤ length b
still_given given [] b within same = omega (arith, within)
still_given given (x ∷ xs) b within same = subst (λ (l : List Order). given ≤ length l) (sym (same refl)) within

-- a begin that wasn't first the disk's came where nothing was asked of it
settled_first : (z : Result (Option CommittableTransaction) TxError) (settled : Bool) (P : Type 0) → (settled ≡ false → (z ≡ Ok None) × P) → (z ≡ Ok None → ⊥) → settled ≡ true
settled_first z true P busy other = refl
settled_first z false P busy other = absurd (other (busy refl).0)

pub begins : (timeout : Timeout) (m n : Standing HostState HostClock) (ms : List RmNo) (given : ℕ) (z : Result (Option CommittableTransaction) TxError)
    → ((tx : CommittableTransaction) → z ≡ Ok (Some tx) → live_at tx.number m.lives ≡ None)
    → ((tx : CommittableTransaction) → z ≡ Ok (Some tx) → (y : LiveState) × (live_at tx.number n.lives ≡ Some y) × IsCalled faults n.log (Begin tx.number.t timeout) 1 Fine (blank tx.number m.reading) y)
    → ((tx : CommittableTransaction) → z ≡ Ok (Some tx) → (m.last < number_of tx.number) × (n.last ≡ number_of tx.number))
    → ((tx : CommittableTransaction) → z ≡ Ok (Some tx) → AreSame tx.number m.lives n.lives)
    → ((tx : CommittableTransaction) → z ≡ Ok (Some tx) → IsTrue (is_settled n.log.disk.asked))
    → (is_settled m.log.disk.asked ≡ false → (z ≡ Ok None) × (n ≡ m))
    → m.last ≤ n.last
    → (z ≡ Ok None → (is_settled m.log.disk.asked ≡ false) ⊎ (m.last < n.last))
    → (z ≡ Ok None → n.lives ≡ m.lives)
    → OnErr z (n.lives ≡ m.lives)
    → NumbersLog true MayBeLeft faults m.log n.log
    → IfErr z (MayNotBegin faults m.log n.log m.lives)
    → Begins timeout (held m ms given) (held n ms given) (begun_in z)
begins timeout m n ms given (Ok (Some tx)) fresh begun above others quiet busy rises only waits refused log cause = (
  settled_first (Ok (Some tx)) (is_settled m.log.disk.asked) (n ≡ m) busy (λ q. cc),
  record {
    transaction = tx.number;
    named = refl;
    fresh = fresh tx refl;
    begun = begun tx refl;
    above = (above tx refl).0;
    is_last = (above tx refl).1;
    others = others tx refl;
    quiet = quiet tx refl;
  },
  record { log = log; rises = rises; desk = refl },
)
begins timeout m n ms given (Ok None) fresh begun above others quiet busy rises only waits refused log cause = elim (only refl) [
  | inl asked ↦ inl (asked, ap (λ (s : Standing HostState HostClock). held s ms given) (busy asked).1)
  | inr rose ↦ inr (waits refl, rose, record { log = log; rises = rises; desk = refl })
]
begins timeout m n ms given (Err e) fresh begun above others quiet busy rises only waits refused log cause = (
  settled_first (Err e) (is_settled m.log.disk.asked) (n ≡ m) busy (λ q. cc),
  refused,
  record { log = log; rises = rises; desk = refl },
  cause,
)
