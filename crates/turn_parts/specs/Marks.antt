-- Replies that are out: each was asked for outside the lock of its transaction, and didn't come back yet.
use Rattle.std.specs.Prelude.{◌==◌, ◌&&◌, not, Bool, true, false, List, filter, Option, Some, None}
use Rattle.dtx_values.specs.declared.note.Note.{Note}
use Rattle.dtx_values.specs.declared.note.Note.TheVariants.{Init, Prepare, Promote, Hand, Single, Commit, Rollback, InDoubt}
use Rattle.dtx_values.specs.declared.number.EnlNo.{EnlNo}
use Rattle.dtx_model.specs.Words.{has}
use Rattle.dtx_model.specs.World.{World}
use Rattle.dtx_model.specs.Steps.{pending}
use Rattle.tx_world.specs.Stepping.{reply_in}

-- both are the same note
abbrev pub same_note : Note → Note → Bool
same_note Init Init = true
same_note Prepare Prepare = true
same_note Promote Promote = true
same_note Hand Hand = true
same_note Single Single = true
same_note Commit Commit = true
same_note Rollback Rollback = true
same_note InDoubt InDoubt = true
same_note _ _ = false

-- it is a reply of this enlistment to this note
abbrev pub is_to : EnlNo × Note → EnlNo × Note → Bool
is_to x y = x.0.value == y.0.value && same_note x.1 y.1

-- the reply is out
abbrev pub is_out : List (EnlNo × Note) → EnlNo × Note → Bool
is_out out x = has (is_to x) out

-- the replies that are out, without that of this enlistment to this note
abbrev pub taken_off : EnlNo × Note → List (EnlNo × Note) → List (EnlNo × Note)
taken_off x out = filter (λ y. not (is_to x y)) out

-- a pending step is the reply of this enlistment to this note
abbrev pub is_that : EnlNo × Note → Option (EnlNo × Note) → Bool
is_that x (Some y) = is_to x y
is_that x None = false

-- a reply of the enlistment to this note is due, and its plan isn't silent: it is a pending step
abbrev pub is_due : World → EnlNo × Note → Bool
is_due w x = has (λ m. is_that x (reply_in w (Some m))) (pending w)
