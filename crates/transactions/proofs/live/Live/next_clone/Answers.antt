use Rattle.std.proofs.Common.{◌≡◌, ◌≤◌, ◌+◌, ◌∙◌, Option, Some, None, IfSome, ℕ, arith}
use Rattle.dtx_values.specs.declared.number.CloneNo.{CloneNo}
use Rattle.transactions.proofs.Counting.{added, counted_more, clone_new_of}
use Rattle.transactions.proofs.live.Live.next_clone.Goals as goal

-- a number that was made of this value has it
made : (o : Option CloneNo) (n : ℕ) (x : CloneNo) → IfSome o (λ y. y.value ≡ n) → o ≡ Some x → x.value ≡ n
made (Some y) n x h e = let same : y ≡ x = cc in let value : y.value ≡ n = h in cc
made None n x h e = absurd cc

pub invariant_of-self : goal.invariant_of-self
invariant_of-self c =
    let s = c.self.inside in
    let was = c.self.invariant in
    let n = c.in_ok-number.number in
    let next : n ≡ s.cloned + 1 = added _ _ _ _ c.checked_add.ensures c.in_ok-number.ensures.ok_part in
    let more : s.cloned ≤ n = omega arith in
    record {
      own = was.own;
      unrestarted = was.unrestarted;
      within = was.within;
      counted = counted_more s.lines s.enlisted s.cloned s.lines s.enlisted n s.world.world.calls (omega arith) (omega arith) more was.counted;
      unrecovered = was.unrecovered;
      named = was.named;
    }

pub returns-clause-unmade : goal.returns-clause-unmade
returns-clause-unmade c =
    let next : c.in_ok-number.number ≡ c.self.inside.cloned + 1 = added _ _ _ _ c.checked_add.ensures c.in_ok-number.ensures.ok_part in
    let value : c.in_ok-c.c.value ≡ c.in_ok-number.number = made _ _ _ c.new.ensures.value c.in_ok-c.ensures.ok_part in
    clone_new_of _ _ c.in_ok-c.c.value c.self.view_is (value ∙ next) c.self.invariant
