-- A reply that is pending is due, stands at a place, and its plan isn't silent.
use Rattle.std.proofs.Common.{◌≡◌, ℕ, zero, suc, ◌==◌, Bool, true, false, ◌||◌, List, [], ◌∷◌, Option, Some, None, is_some, refl, ap, sym, ◌∙◌}
use Rattle.std.proofs.lemmas.Bool.{eqb-true}
use Rattle.dtx_values.specs.declared.note.Note.{Note}
use Rattle.dtx_values.specs.declared.note.Note.TheVariants.{Init, Prepare, Promote, Hand, Single, Commit, Rollback, InDoubt}
use Rattle.dtx_values.specs.declared.number.EnlNo.{EnlNo}
use Rattle.dtx_model.specs.Words.{has, kth}
use Rattle.dtx_model.specs.Plans.{plan_of, planned}
use Rattle.dtx_model.specs.Replies.{due_of, with_note}
use Rattle.dtx_model.specs.World.{World, half}
use Rattle.dtx_model.specs.Steps.{StepName, ReplyOf, pending}
use Rattle.dtx_model.proofs.Bools.{and_left, and_right}
use Rattle.dtx_values.proofs.SameNumbers.{same_enlistment}
use Rattle.script_calls.proofs.Unsilent.{unsilent}
use Rattle.tx_world.specs.Stepping.{reply_in}
use Rattle.turn_parts.specs.Marks.{is_due, is_that, same_note}

-- Two notes that are the same are equal.
note_is : (a b : Note) → same_note a b ≡ true → a ≡ b
note_is Init Init k = refl
note_is Prepare Prepare k = refl
note_is Promote Promote k = refl
note_is Hand Hand k = refl
note_is Single Single k = refl
note_is Commit Commit k = refl
note_is Rollback Rollback k = refl
note_is InDoubt InDoubt k = refl
note_is a b k = absurd cc

-- The reply of an enlistment to a note stands at a place of these steps, and is due.
record IsPlaced (w : World) (e : EnlNo) (n : Note) (ms : List StepName) : Type 0 where
  place : ℕ
  stands : kth ms place ≡ Some (ReplyOf e)
  due : due_of (half w).seen e.value ≡ Some n

of_reply : (w : World) (e f : EnlNo) (n : Note) (o : Option Note) → due_of (half w).seen f.value ≡ o → is_that (e, n) (with_note f o) ≡ true → IsPlaced w e n (ReplyOf f ∷ [])
of_reply w e f n None q k = absurd cc
of_reply w e f n (Some m) q k =
    let enlistment : e.value ≡ f.value = eqb-true e.value f.value (and_left (e.value == f.value) (same_note n m) k) in
    let note : n ≡ m = note_is n m (and_right (e.value == f.value) (same_note n m) k) in
    record { place = 1; stands = ap (λ (x : EnlNo). Some (ReplyOf x)) (sym (same_enlistment e f enlistment)); due = ap (due_of (half w).seen) enlistment ∙ (q ∙ ap Some (sym note)) }

of_step : (w : World) (e : EnlNo) (n : Note) (m : StepName) → is_that (e, n) (reply_in w (Some m)) ≡ true → IsPlaced w e n (m ∷ [])
of_step w e n (ReplyOf f) k = of_reply w e f n (due_of (half w).seen f.value) refl k
of_step w e n m k = absurd cc

first_of : (w : World) (e : EnlNo) (n : Note) (m : StepName) (ms : List StepName) → IsPlaced w e n (m ∷ []) → IsPlaced w e n (m ∷ ms)
first_of w e n m ms p = record { place = 1; stands = by p.place p.stands; due = p.due }
  where
    by : (k : ℕ) → kth (m ∷ []) k ≡ Some (ReplyOf e) → Some m ≡ Some (ReplyOf e)
    by zero q = absurd cc
    by (suc zero) q = q
    by (suc (suc k)) q = absurd cc

one_on : (m : StepName) (ms : List StepName) (k : ℕ) (x : StepName) → kth ms k ≡ Some x → kth (m ∷ ms) (suc k) ≡ Some x
one_on m ms zero x q = absurd cc
one_on m ms (suc k) x q = q

placed : (w : World) (e : EnlNo) (n : Note) (ms : List StepName) → has (λ m. is_that (e, n) (reply_in w (Some m))) ms ≡ true → IsPlaced w e n ms
placed w e n [] k = absurd cc
placed w e n (m ∷ ms) k = by (is_that (e, n) (reply_in w (Some m))) refl k (placed w e n ms)
  where
    by : (b : Bool) → is_that (e, n) (reply_in w (Some m)) ≡ b → (b || has (λ m. is_that (e, n) (reply_in w (Some m))) ms) ≡ true → (has (λ m. is_that (e, n) (reply_in w (Some m))) ms ≡ true → IsPlaced w e n ms) → IsPlaced w e n (m ∷ ms)
    by true is h rest = first_of w e n m ms (of_step w e n m is)
    by false is h rest = let p = rest h in record { place = suc p.place; stands = one_on m ms p.place (ReplyOf e) p.stands; due = p.due }

-- So a reply that is pending is due, and planned.
pub record IsOwed (w : World) (e : EnlNo) (n : Note) : Type 0 where
  pub place : ℕ
  pub stands : kth (pending w) place ≡ Some (ReplyOf e)
  pub due : due_of (half w).seen e.value ≡ Some n
  pub unsilent : is_some (planned (plan_of w.calls e.value) n) ≡ true

pub owed : (w : World) (x : EnlNo × Note) → is_due w x ≡ true → IsOwed w x.0 x.1
owed w x k = let p = placed w x.0 x.1 (pending w) k in record { place = p.place; stands = p.stands; due = p.due; unsilent = unsilent w p.place x.0 x.1 p.stands p.due }
