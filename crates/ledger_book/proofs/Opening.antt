-- What a book is when it is opened.
use Rattle.std.specs.Prelude.{IfOk, IsFalse, IsTrue, nat_le}
use Rattle.std.proofs.Common.{◌≡◌, ◌<◌, ◌≤◌, ◌+◌, ◌*◌, ◌-◌, ◌^◌, ◌∙◌, ℕ, zero, suc, Bool, true, false, ◌&&◌, List, [], ◌∷◌, Option, Some, None, Result, Ok, Err, length, refl, ap, arith, subst, sym}
use Rattle.std.proofs.lemmas.Bool.{and_right, or_from}
use Rattle.std.proofs.lemmas.Bool.Decides.{nat_tests}
use Rattle.dtx_model.specs.Words.{has}
use Rattle.coordinator_log.specs.Crash.{AllHold as LogHolds}
use Rattle.coordinator_log.specs.Slots.{open_records as logged}
use Rattle.log_epochs.specs.Epochs.{epoch_of}
use Rattle.kv_resource.specs.Bytes.{KvRecord}
use Rattle.kv_resource.specs.Held.{holdings_from, holdings_of, record_held}
use Rattle.kv_resource.specs.Images.{AllHold}
use Rattle.kv_resource.specs.Store.{KvState, open_records}
use Rattle.recovery_laws.specs.Whole.{Site, has_here, is_of_number}
use Rattle.transactions.specs.Slots.{Standing}
use Rattle.kv_holding.specs.Holding.{IsAsStored}
use Rattle.ledger_book.specs.Recovered.{sites_of}
use Rattle.ledger_book.specs.Whole.{AreFree, IsFound}
use Rattle.ledger_book.specs.declared.account.Side.TheVariants.{Left}
use Rattle.ledger_book.specs.declared.book.Book.{Book}
use Rattle.ledger_book.proofs.Making.{Parts, of_ok}

-- what no call of this process wrote isn't of this process
none_here : (n k : ℕ) (ss : List (Option KvRecord)) → k + length ss ≤ 1024 → has (λ h. is_of_number n h && h.here) (holdings_from 1024 k ss) ≡ false
none_here n k [] low = refl
none_here n k (None ∷ ss) low = none_here n (suc k) ss (omega (arith, low))
none_here n k (Some r ∷ ss) low =
    let under : nat_le 1024 k ≡ false = grind (arith, nat_tests, low) in
    or_from (is_of_number n (record_held (nat_le 1024 k) r) && nat_le 1024 k) (has (λ h. is_of_number n h && h.here) (holdings_from 1024 (suc k) ss))
    (and_right (is_of_number n (record_held (nat_le 1024 k) r)) (nat_le 1024 k) under) (none_here n (suc k) ss (omega (arith, low)))

store_early : {D : Type 0} (n : ℕ) (s : KvState D) → s.earlier ≡ 1024 → length s.memory.slots ≡ 1024 → has (λ h. is_of_number n h && h.here) (holdings_of s) ≡ false
store_early n s is many = ap (λ k. has (λ h. is_of_number n h && h.here) (holdings_from k 0 s.memory.slots)) is ∙ none_here n 0 s.memory.slots (omega (arith, many))

both_early : {D : Type 0} (n : ℕ) (left right : KvState D) → left.earlier ≡ 1024 → length left.memory.slots ≡ 1024 → right.earlier ≡ 1024 → length right.memory.slots ≡ 1024 → has_here n (sites_of left right) ≡ false
both_early n left right a b c d =
    or_from (has (λ h. is_of_number n h && h.here) (holdings_of left)) (has {A = Site} (λ s. has (λ h. is_of_number n h && h.here) s.held) (record { manager = 2; held = holdings_of right } ∷ [])) (store_early n left a b)
    (or_from (has (λ h. is_of_number n h && h.here) (holdings_of right)) false (store_early n right c d) refl)

pub found : {D C E F : Type 0} (honest : Bool) (image : D → List ℕ → Type 0) (faults : D → ℕ) (manager : Standing D C) (left : KvState D) (right : Result (KvState D) F) (left_count right_count : ℕ) (z : Result (Book D C) E)
    → Parts manager left right z → IfOk z (λ b. AreFree Left b.stores) → manager.lives ≡ [] → IsTrue manager.log.is_up → manager.last ≡ 65536 * epoch_of (logged manager.log.slots) + 256
    → LogHolds (image manager.log.disk) (logged manager.log.slots) → IsFalse left.memory.stopped → (IsTrue honest → AllHold (image left.disk) (open_records left.memory.slots)) → left.earlier ≡ 1024 → faults left.disk ≡ left_count
    → left_count < 2 ^ 64 - 1 → IfOk right (λ s. IsFalse s.memory.stopped) → (IsTrue honest → IfOk right (λ s. AllHold (image s.disk) (open_records s.memory.slots))) → IfOk right (λ s. s.earlier ≡ 1024)
    → IfOk right (λ s. faults s.disk ≡ right_count) → right_count < 2 ^ 64 - 1 → IfOk z (λ b. IsFound honest image faults b)
found {D} {C} honest image faults manager left right lc rc (Ok b) p free lives up last images left_up left_images left_early left_count left_low right_up right_images right_early right_count right_low =
    let s = b.stores.right in
    let early : s.earlier ≡ 1024 = of_ok (λ (x : KvState D). x.earlier ≡ 1024) right s p.right_is right_early in
    let left_is = sym p.left_is in
    record {
      lives = ap (λ (m : Standing D C). m.lives) p.manager_is ∙ lives;
      free = free;
      up = subst (λ (m : Standing D C). IsTrue m.log.is_up) (sym p.manager_is) up;
      last = subst (λ (m : Standing D C). m.last ≡ 65536 * epoch_of (logged m.log.slots) + 256) (sym p.manager_is) last;
      images = subst (λ (m : Standing D C). LogHolds (image m.log.disk) (logged m.log.slots)) (sym p.manager_is) images;
      left = record {
        up = subst (λ (x : KvState D). IsFalse x.memory.stopped) left_is left_up;
        many = p.many.0;
        images = λ is. subst (λ (x : KvState D). AllHold (image x.disk) (open_records x.memory.slots)) left_is (left_images is);
      };
      right = record {
        up = of_ok (λ (x : KvState D). IsFalse x.memory.stopped) right s p.right_is right_up;
        many = p.many.1;
        images = λ is. of_ok (λ (x : KvState D). AllHold (image x.disk) (open_records x.memory.slots)) right s p.right_is (right_images is);
      };
      early = λ n. both_early n b.stores.left s (ap (λ (x : KvState D). x.earlier) p.left_is ∙ left_early) p.many.0 early p.many.1;
      counted = (
        subst (λ k. k < 2 ^ 64 - 1) (sym (ap (λ (x : KvState D). faults x.disk) p.left_is ∙ left_count)) left_low,
        subst (λ k. k < 2 ^ 64 - 1) (sym (of_ok (λ (x : KvState D). faults x.disk ≡ rc) right s p.right_is right_count)) right_low,
      );
    }
found honest image faults manager left right lc rc (Err e) p free lives up last images left_up left_images left_early left_count left_low right_up right_images right_early right_count right_low = tt
