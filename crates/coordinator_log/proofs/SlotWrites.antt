-- The slots after a stop at a write into one of them.
use Rattle.std.proofs.Common.{◌≡◌, ◌⊎◌, inl, inr, ℕ, ◌+◌, ◌*◌, ◌≤◌, ◌<◌, Bool, true, false, cond, nat_le, List, length, sym, subst, arith}
use Rattle.std.proofs.lemmas.Bool.Decides.{nat_tests}
use Rattle.dtx_values.specs.declared.Image.{Image}
use Rattle.dtx_values.specs.declared.Image.TheVariants.{Lose, Keep, Torn}
use Rattle.outside.specs.Disk.{overwritten}
use Rattle.dtx_model.specs.Log.{Slot, slots_of}
use Rattle.slotted.proofs.SlotWrites.{along, body_torn, same_bytes, torn_at}
use Rattle.coordinator_log.specs.Slots.{HasSlots, IsClosed}
use Rattle.coordinator_log.specs.Stop.{at_write, done_before}
use Rattle.coordinator_log.proofs.Files.{log_reads}

-- the slots by a test whose outcome is known
pub by_test : (x y : Bool) (b c : List ℕ) (new old : List Slot) → x ≡ y → HasSlots b (cond y new old) c → HasSlots b (cond x new old) c
by_test x y b c new old e has = subst (λ (t : Bool). HasSlots b (cond t new old) c) (sym e) has

-- where no fault came, one fact gives the next
pub unless_fault : {A B C : Type 0} → (B → C) → A ⊎ B → A ⊎ C
unless_fault f (inl a) = inl a
unless_fault f (inr b) = inr (f b)

-- with each image, a stop at the write of a record leaves the slots as they were
pub body_stopped : (i : Image) (k at : ℕ) (b c bytes : List ℕ) → k < 1024 → at ≡ 513 + 512 * k → IsClosed k b → 524800 ≤ length b → length bytes ≡ 511 → c ≡ at_write i b at bytes → HasSlots b (slots_of b) c
body_stopped Lose k at b c bytes lt a closed room long is = same_bytes b c is
body_stopped Keep k at b c bytes lt a closed room long is = (body_torn log_reads k b c lt closed (torn_at log_reads k at b c bytes lt a room long is)).0
body_stopped Torn k at b c bytes lt a closed room long is = (body_torn log_reads k b c lt closed (torn_at log_reads k at b c bytes lt a room long is)).0

-- at a stop at the write of a gate, the slots are the new ones exactly where the write is done
pub gate_stopped : (i : Image) (n : ℕ) (b b1 c : List ℕ) (at : ℕ) (gate : List ℕ) (old new : List Slot) → c ≡ at_write i b1 at gate → HasSlots b old b1
    → HasSlots b new (overwritten b1 at gate) → HasSlots b (cond (nat_le (n + 1) (done_before i n)) new old) c
gate_stopped Lose n b b1 c at gate old new is x y = let later : nat_le (n + 1) n ≡ false = grind (arith, nat_tests) in rw later (along b b1 c old is x)
gate_stopped Keep n b b1 c at gate old new is x y = let now : nat_le (n + 1) (n + 1) ≡ true = grind (arith, nat_tests) in rw now (along b (overwritten b1 at gate) c new is y)
gate_stopped Torn n b b1 c at gate old new is x y = let now : nat_le (n + 1) (n + 1) ≡ true = grind (arith, nat_tests) in rw now (along b (overwritten b1 at gate) c new is y)
