-- What was done with the log, and what was done without it, was done at a log in some state.
use Rattle.std.proofs.Common.{ℕ, true, ap, sym, ◌∙◌, if◌then◌else◌}
use Rattle.std.specs.Prelude.{Bool, Result, Ok, Err, IfOk}
use Rattle.dtx_values.specs.declared.note.Note.{Note}
use Rattle.dtx_values.specs.TxIds.{number_of}
use Rattle.dtx_values.specs.declared.note.Reply.{Reply}
use Rattle.dtx_values.specs.declared.number.ActorNo.{ActorNo}
use Rattle.dtx_values.specs.declared.number.EnlNo.{EnlNo}
use Rattle.dtx_model.specs.Steps.{Step}
use Rattle.coordinator_log.specs.State.{LogState}
use Rattle.tx_world.specs.State.{TxState}
use Rattle.tx_world.specs.OwnCalls.{DoesAlone, DoesKthAlone}
use Rattle.tx_world.specs.Stepping.{Does, DoesKth}
use Rattle.tx_cells.specs.Cell.{Cell}
use Rattle.tx_cells.specs.Entering.{Enters, IsDone, IsKthDone}
use Rattle.tx_cells.specs.TakingBack.{TakesBack}
use Rattle.tx_cells.specs.declared.error.TurnError.{TurnError}
use Rattle.tx_cells.specs.declared.turns.Turned.{Turned}
use Rattle.tx_cells.proofs.Kept.{turned_silent}

pub done_alone : (m : Step) (x y : TxState) → DoesAlone m x y → IsDone m x y
done_alone m x y d = (
  true,
  0,
  record { transaction = d.transaction; world = d.world ∙ turned_silent (number_of x.transaction) x.world m; life = d.life ∙ sym (ap (λ b. if b then 0 else x.life) d.silent); kept = d.kept },
)

pub done_over : {D : Type 0} (faults : D → ℕ) (from to : LogState D) (m : Step) (x y : TxState) → Does faults m x from y to → IsDone m x y
done_over faults from to m x y d = (from.is_up, from.life, record { transaction = d.transaction; world = d.world; life = d.life; kept = d.kept })

more : (P Q : Step → TxState → TxState → Type 0) → ((m : Step) (x y : TxState) → P m x y → Q m x y) → (a : ActorNo) (n : ℕ) (r : Turned) (old new : Cell) → Enters P a n r old new → Enters Q a n r old new
more P Q f a n r old new e =
    record { call = e.call; next = e.next; answered = e.answered; done = f _ old.tx new.tx e.done; ours = e.ours; unsure = e.unsure; row = e.row; others = e.others; out = e.out }

pub enters_alone : (a : ActorNo) (n : ℕ) (r : Turned) (old new : Cell) → Enters DoesAlone a n r old new → Enters IsDone a n r old new
enters_alone a n r old new e = more DoesAlone IsDone done_alone a n r old new e

pub enters_over : {D : Type 0} (faults : D → ℕ) (log : LogState D) (a : ActorNo) (n : ℕ) (r : Turned) (old new : Cell) → Enters (λ m x y. Does faults m x log y log) a n r old new → Enters IsDone a n r old new
enters_over faults log a n r old new e = more (λ (m : Step) (x y : TxState). Does faults m x log y log) IsDone (done_over faults log log) a n r old new e

pub ok_over : {D E : Type 0} (faults : D → ℕ) (log : LogState D) (a : ActorNo) (n : ℕ) (result : Result Turned E) (old new : Cell) → IfOk result (λ r. Enters (λ m x y. Does faults m x log y log) a n r old new)
    → IfOk result (λ r. Enters IsDone a n r old new)
ok_over faults log a n (Ok r) old new e = enters_over faults log a n r old new e
ok_over faults log a n (Err f) old new e = tt

pub kth_alone : (k : ℕ) (x y : TxState) → DoesKthAlone k x y → IsKthDone k x y
kth_alone k x y d = record { name = d.name; step = d.step; stands = d.stands; named = d.named; planned = d.planned; done = done_alone d.step x y d.done }

pub kth_over : {D : Type 0} (faults : D → ℕ) (from to : LogState D) (k : ℕ) (x y : TxState) → DoesKth faults k x from y to → IsKthDone k x y
kth_over faults from to k x y d = record { name = d.name; step = d.step; stands = d.stands; named = d.named; planned = d.planned; done = done_over faults from to d.step x y d.done }

more_taken : (P Q : Step → TxState → TxState → Type 0) → ((m : Step) (x y : TxState) → P m x y → Q m x y) → (e : EnlNo) (n : Note) (r : Reply) (result : Result Bool TurnError) (old new : Cell) → TakesBack P e n r result old new → TakesBack Q e n r result old new
more_taken P Q f e n r result old new t = record { due = t.due; done = λ yes. f _ old.tx new.tx (t.done yes); nearer = t.nearer; late = t.late; unmarked = t.unmarked }

pub taken_alone : (e : EnlNo) (n : Note) (r : Reply) (result : Result Bool TurnError) (old new : Cell) → TakesBack DoesAlone e n r result old new → TakesBack IsDone e n r result old new
taken_alone e n r result old new t = more_taken DoesAlone IsDone done_alone e n r result old new t

pub taken_over : {D : Type 0} (faults : D → ℕ) (log : LogState D) (e : EnlNo) (n : Note) (r : Reply) (result : Result Bool TurnError) (old new : Cell) → TakesBack (λ m x y. Does faults m x log y log) e n r result old new → TakesBack IsDone e n r result old new
taken_over faults log e n r result old new t = more_taken (λ (m : Step) (x y : TxState). Does faults m x log y log) IsDone (done_over faults log log) e n r result old new t
