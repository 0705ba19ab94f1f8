-- What a round of the caller leaves settled.
use Rattle.std.proofs.Common.{◌≡◌, ℕ, ◌+◌, ◌<◌, Bool, true, false, ◌&&◌, ◌||◌, IsTrue, List, [], ◌∷◌, ◌++◌, Option, Some, None, get_or, length, set, take, refl, ap, subst, sym, ◌∙◌}
use Rattle.std.proofs.lemmas.List.{take_more, take_more_set}
use Rattle.dtx_values.specs.declared.note.Note.{Note}
use Rattle.dtx_values.specs.declared.note.Note.TheVariants.{Init, Prepare, Promote, Hand, Single, Commit, Rollback, InDoubt}
use Rattle.dtx_values.specs.declared.number.EnlNo.{EnlNo}
use Rattle.dtx_model.specs.Words.{each, has, kth}
use Rattle.dtx_model.specs.Steps.{StepName, pending}
use Rattle.dtx_model.specs.World.{World}
use Rattle.dtx_model.proofs.Bools.{and_left, and_right}
use Rattle.history_table.proofs.Tests.{eq_self}
use Rattle.tx_world.specs.Stepping.{reply_in}
use Rattle.tx_cells.specs.Turns.{is_due, is_that, is_to, same_note}

note_self : (n : Note) → same_note n n ≡ true
note_self Init = refl
note_self Prepare = refl
note_self Promote = refl
note_self Hand = refl
note_self Single = refl
note_self Commit = refl
note_self Rollback = refl
note_self InDoubt = refl

-- the first pending step is due
due_first : (w : World) (ms : List StepName) (x : EnlNo × Note) → reply_in w (kth ms 1) ≡ Some x → has (λ m. is_that x (reply_in w (Some m))) ms ≡ true
due_first w [] x e = absurd (cc)
due_first w (m ∷ ms) x e =
    let here : is_that x (reply_in w (Some m)) ≡ true = ap (is_that x) e ∙ (ap (λ b. b && same_note x.1 x.1) (eq_self x.0.value) ∙ note_self x.1) in
    ap (λ b. b || has (λ m. is_that x (reply_in w (Some m))) ms) here

pub is_due_first : (w : World) (x : EnlNo × Note) → reply_in w (kth (pending w) 1) ≡ Some x → is_due w x ≡ true
is_due_first w x e = due_first w (pending w) x e

-- one more at the end passes too
each_push : {A : Type 0} (p : A → Bool) (xs : List A) (y : A) → each p xs ≡ true → p y ≡ true → each p (xs ++ y ∷ []) ≡ true
each_push p [] y all here = ap (λ b. b && true) here
each_push p (x ∷ xs) y all here =
    ap (λ b. b && each p (xs ++ y ∷ [])) (and_left (p x) (each p xs) all) ∙ each_push p xs y (and_right (p x) (each p xs) all) here

pub each_more : {A : Type 0} (p : A → Bool) (xs : List A) (i : ℕ) (x : A) → i < length xs → x ≡ get_or xs i x → each p (take i xs) ≡ true → p x ≡ true → each p (take (i + 1) xs) ≡ true
each_more p xs i x less here all is = subst (λ (ys : List _). each p ys ≡ true) (sym (take_more xs i x less)) (each_push p (take i xs) (get_or xs i x) all (ap p (sym here) ∙ is))

pub each_more_set : {A : Type 0} (p : A → Bool) (xs : List A) (i : ℕ) (y : A) → i < length xs → each p (take i xs) ≡ true → p y ≡ true → each p (take (i + 1) (set xs i y)) ≡ true
each_more_set p xs i y less all here = subst (λ (ys : List _). each p ys ≡ true) (sym (take_more_set xs i y less)) (each_push p (take i xs) y all here)
