-- The first pending step that isn't a reply that is out stands at its place.
use Rattle.std.proofs.Common.{◌≡◌, ◌⊎◌, inl, inr, ℕ, suc, ◌+◌, Bool, true, false, List, [], ◌∷◌, Option, Some, None, slice_get, refl, sym, subst, ◌∙◌, arith, if◌then◌else◌}
use Rattle.dtx_values.specs.declared.note.Note.{Note}
use Rattle.dtx_values.specs.declared.number.EnlNo.{EnlNo}
use Rattle.dtx_model.specs.Words.{kth}
use Rattle.dtx_model.specs.World.{World}
use Rattle.dtx_model.specs.Steps.{StepName, pending}
use Rattle.tx_world.specs.Stepping.{reply_in}
use Rattle.tx_cells.specs.Cell.{Cell}
use Rattle.tx_cells.specs.Turns.{first_turn, is_out, turn_of, turn_or}
use Rattle.tx_cells.specs.declared.turns.Turn.{Turn}
use Rattle.tx_cells.specs.declared.turns.Turn.TheVariants.{Step, Ask}

-- the turn is this step, or one of the later ones
here_or_later : (out : List (EnlNo × Note)) (i k : ℕ) (o : Option (EnlNo × Note)) (rest : Turn) → turn_or out i o rest ≡ Step k → (i ≡ k) ⊎ (rest ≡ Step k)
here_or_later out i k None rest e = inl cc
here_or_later out i k (Some x) rest e = by (is_out out x) e
  where
    by : (b : Bool) → (if b then rest else Ask x.0 x.1) ≡ Step k → (i ≡ k) ⊎ (rest ≡ Step k)
    by true e = inr e
    by false e = absurd cc

-- a step at a place from i on
step_there : (w : World) (out : List (EnlNo × Note)) (i k : ℕ) (ms : List StepName) → first_turn w out i ms ≡ Step k → (j : ℕ) × (m : StepName) × (k ≡ i + j) × (slice_get ms j ≡ Some m)
step_there w out i k [] e = absurd cc
step_there w out i k (m ∷ ms) e =
    elim (here_or_later out i k (reply_in w (Some m)) (first_turn w out (i + 1) ms) e) [
      | inl q ↦ (0, m, omega (arith, q), refl)
      | inr q ↦ let r = step_there w out (i + 1) k ms q in (suc r.0, r.1, omega (arith, r.2), r.3)
    ]

-- no turn is a step at a place where none is pending
pub step_stands : (c : Cell) (k : ℕ) → turn_of c ≡ Step k → kth (pending c.tx.world) k ≡ None → ⊥
step_stands c k e none =
    let r = step_there c.tx.world c.out 1 k (pending c.tx.world) e in
    let place : suc r.0 ≡ k = omega (arith, r.2) in
    let here : kth (pending c.tx.world) k ≡ Some r.1 = subst (λ j. kth (pending c.tx.world) j ≡ Some r.1) place r.3 in
    let clash : None ≡ Some r.1 = sym none ∙ here in
    absurd cc
