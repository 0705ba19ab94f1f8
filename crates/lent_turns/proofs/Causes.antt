-- Why a turn failed that took the log's lock.
use Rattle.std.proofs.Common.{◌≡◌, ◌⊎◌, inl, inr, subst, sym, ap}
use Rattle.std.specs.Prelude.{IfErr, Ok, Err, Result}
use Rattle.dtx_values.specs.declared.note.Note.{Note}
use Rattle.dtx_values.specs.declared.number.EnlNo.{EnlNo}
use Rattle.coordinator_log.specs.State.{LogState}
use Rattle.tx_world.specs.State.{TxState}
use Rattle.tx_cells.specs.Cell.{Cell}
use Rattle.tx_cells.specs.Ties.{HasCause, IsCause}
use Rattle.tx_cells.specs.Turns.{unmarked}
use Rattle.tx_cells.specs.declared.error.TurnError.{TurnError}
use Rattle.tx_cells.specs.declared.error.TurnError.TheVariants.{Memory}
use Rattle.tx_cells.proofs.Causes.{cause_named}
use Rattle.lent_turns.specs.Turning.{MayFail}

-- over this log, which was lent
pub failed_over : {A D : Type 0} (x : TxState) (log : LogState D) (P : Type 0) (r : Result A TurnError) → IfErr r (λ e. P × IsCause x log e) → IfErr r (λ e. MayFail D x e × P)
failed_over x log P (Ok a) h = tt
failed_over x log P (Err e) h = (inr (log, h.1), h.0)

-- over this log, which the turn may change
pub failed_with : {A D : Type 0} (x : TxState) (log : LogState D) (P Q : Type 0) (r : Result A TurnError) → IfErr r (λ e. ((e ≡ Memory) ⊎ IsCause x log e) × P × Q) → IfErr r (λ e. MayFail D x e × P)
failed_with x log P Q (Ok a) h = tt
failed_with x log P Q (Err e) h = (elim h.0 [ inl m ↦ inl m | inr c ↦ inr (log, c) ], h.1)

-- behind the mark of a reply, which was taken off
pub failed_unmarked : {A : Type 0} (D : Type 0) (y : EnlNo × Note) (old mid new : Cell) (r : Result A TurnError) → mid ≡ unmarked y old → IfErr r (λ e. MayFail D mid.tx e × (new ≡ mid)) → IfErr r (λ e. MayFail D old.tx e × (new.tx ≡ old.tx))
failed_unmarked D y old mid new (Ok a) m h = tt
failed_unmarked D y old mid new (Err e) m h =
    let P : Cell → Type 0 = λ c. MayFail D c.tx e × (new.tx ≡ c.tx) in subst P m (h.0, ap (λ (c : Cell). c.tx) h.1)

-- and so it is named
pub failure_named : (D : Type 0) (x : TxState) (e : TurnError) → MayFail D x e → HasCause e
failure_named D x e (inl m) = subst HasCause (sym m) tt
failure_named D x e (inr c) = cause_named x c.0 e c.1
