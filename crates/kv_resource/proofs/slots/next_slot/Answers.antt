use Rattle.std.proofs.Common.{◌≡◌, ◌≤◌, ◌<◌, ap, sym, ◌∙◌, ℕ, cond, true, false, nat_lt, Some, None, refl, arith}
use Rattle.std.proofs.lemmas.Bool.Decides.{nat_tests}
use Rattle.kv_resource.specs.Store.{above_highest}
use Rattle.kv_resource.proofs.Loops.{next_done, next_none, next_some}
use Rattle.kv_resource.proofs.slots.next_slot.Goals as goal
use Rattle.kv_resource.proofs.slots.next_slot.Goals.{then-is_some, else-is_some}

pub loop-k-preserved : goal.loop-k-preserved
loop-k-preserved c =
    elim c.if-is_some.branch [
      | then-is_some w ↦ rw w.next-is (record {
        so_far = next_some c.args.slots.now c.loop-k.k c.index-slots-k.result c.loop-k.next c.loop-k-test.true c.index-slots-k.is (sym c.is_some.ensures ∙ w.if-is_some.true) ∙ c.loop-k.invariant.so_far;
        low = omega arith;
      })
      | else-is_some w ↦ rw w.next-is (record {
        so_far = next_none c.args.slots.now c.loop-k.k c.index-slots-k.result c.loop-k.next c.loop-k-test.true c.index-slots-k.is (sym c.is_some.ensures ∙ w.if-is_some.false) ∙ c.loop-k.invariant.so_far;
        low = let le = c.loop-k.invariant.low in omega arith;
      })
    ]

-- the slot after the highest open one is below the end, or none is
below : (n high : ℕ) → n ≡ high → n < 1024 → Some n ≡ cond (nat_lt high 1024) (Some high) None
below n high is lt = let test : nat_lt high 1024 ≡ true = grind (arith, nat_tests) in rw test (ap Some is)

pub returns-then-next-lt-SLOTS : goal.returns-then-next-lt-SLOTS
returns-then-next-lt-SLOTS c = below c.loop-k.next (above_highest 0 c.args.slots.now 0) (next_done c.args.slots.now c.loop-k.k c.loop-k.next c.loop-k-test.false c.loop-k.invariant.so_far) c.if-next-lt-SLOTS.true

past : (n high : ℕ) → n ≡ high → 1024 ≤ n → None ≡ cond (nat_lt high 1024) (Some high) None
past n high is le = let test : nat_lt high 1024 ≡ false = grind (arith, nat_tests) in rw test refl

pub returns-else-next-lt-SLOTS : goal.returns-else-next-lt-SLOTS
returns-else-next-lt-SLOTS c = past c.loop-k.next (above_highest 0 c.args.slots.now 0) (next_done c.args.slots.now c.loop-k.k c.loop-k.next c.loop-k-test.false c.loop-k.invariant.so_far) c.if-next-lt-SLOTS.false
