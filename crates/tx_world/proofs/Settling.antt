-- Steps, one after the other, and where none is left.
use Rattle.std.proofs.Common.{◌≡◌, ◌+◌, ℕ, suc, List, [], ◌∷◌, None, arith, refl, sym, subst}
use Rattle.dtx_model.specs.Words.{kth}
use Rattle.dtx_model.specs.Steps.{StepName}
use Rattle.coordinator_log.specs.State.{LogState}
use Rattle.tx_world.specs.State.{TxState}
use Rattle.tx_world.specs.Stepping.{DoesKth, SomeSteps, Stepped}

-- no first step: none at all
pub none_pending : (ms : List StepName) → kth ms 1 ≡ None → ms ≡ []
none_pending [] e = refl
none_pending (m ∷ ms) e = absurd cc

-- one step more
pub one_more : {D : Type 0} (faults : D → ℕ) (k count : ℕ) (old : TxState) (from : LogState D) (mid : TxState) (at_it : LogState D) (new : TxState) (to : LogState D)
    → Stepped faults k count old from mid at_it → DoesKth faults k mid at_it new to → Stepped faults k (count + 1) old from new to
one_more faults k count old from mid at_it new to before did =
    let P : ℕ → Type 0 = λ n. Stepped faults k n old from new to in
    let more : suc count ≡ count + 1 = omega arith in
    subst P more (mid, at_it, before, did)

-- where no more steps are done, some were
pub stopped_there : {D : Type 0} (faults : D → ℕ) (k count : ℕ) (old : TxState) (from : LogState D) (mid : TxState) (at_it : LogState D) (new : TxState) (to : LogState D)
    → Stepped faults k count old from mid at_it → (new ≡ mid) × (to ≡ at_it) → SomeSteps faults k old from new to
stopped_there {D} faults k count old from mid at_it new to before same =
    let P : TxState → Type 0 = λ x. SomeSteps faults k old from x to in
    let Q : LogState D → Type 0 = λ l. SomeSteps faults k old from mid l in
    subst P (sym same.0) (subst Q (sym same.1) (count, before))
