-- The marks of a pair, and how the work of a note changes them.
use Rattle.std.proofs.Common.{◌≡◌, Bool, true, false, not, ◌&&◌, ◌||◌, List, [], ◌∷◌, ◌++◌, refl, cond}
use Rattle.dtx_values.specs.declared.note.Note.{Note}
use Rattle.dtx_model.proofs.Bools.{and_left, and_right}
use Rattle.dtx_model.specs.Outcome.{is_empty}
use Rattle.dtx_model.specs.Words.{has}
use Rattle.all_or_nothing.specs.Marks.{begins, commits, drops, is_single, is_unmarked, may_become}

-- the first is marked
abbrev pub leads : List Bool → Bool
leads [] = false
leads (b ∷ l) = b

-- the first that isn't marked becomes these
abbrev pub on_first : List Bool → List Bool → List Bool
on_first x [] = []
on_first x (b ∷ l) = cond b (b ∷ on_first x l) (x ++ l)

-- what the work of a note does to the marks of its pair: nothing; it adds one, marked or not; it marks the first that isn't; or it drops that
pub data Step : Type 0 where
  Stays : Step
  Adds : (marked : Bool) → Step
  MarksOne : Step
  DropsOne : Step

abbrev pub stepped : Step → List Bool → List Bool
stepped Stays l = l
stepped (Adds b) l = l ++ b ∷ []
stepped MarksOne l = on_first (true ∷ []) l
stepped DropsOne l = on_first [] l

-- under which note it does so, and of which marks
abbrev pub may_step : Note → Step → List Bool → Bool
may_step n Stays l = true
may_step n (Adds b) l = begins n && (is_empty l && (not b || commits n))
may_step n MarksOne l = commits n && has not l
may_step n DropsOne l = drops n && has not l

-- so marks that are one at most become what they may
pub step_becomes : (n : Note) (s : Step) (l : List Bool) → may_step n s l ≡ true → is_single l ≡ true → may_become n l (stepped s l) ≡ true
step_becomes n Stays [] e one = refl
step_becomes n Stays (true ∷ []) e one = refl
step_becomes n Stays (false ∷ []) e one = refl
step_becomes n Stays (b ∷ c ∷ l) e one = absurd cc
step_becomes n (Adds true) [] e one = added (begins n) (commits n) e
  where
    added : (b c : Bool) → (b && (true && (not true || c))) ≡ true → (false || ((b && (true && (false || (c && true)))) || ((c && (false && true)) || (drops n && (false && false))))) ≡ true
    added true true e = refl
    added true false e = absurd cc
    added false c e = absurd cc
step_becomes n (Adds false) [] e one = added (begins n) (commits n) e
  where
    added : (b c : Bool) → (b && (true && (not false || c))) ≡ true → (false || ((b && (true && (true || (c && false)))) || ((c && (false && false)) || (drops n && (false && false))))) ≡ true
    added true c e = refl
    added false c e = absurd cc
step_becomes n (Adds b) (c ∷ l) e one = absurd (filled (begins n) e)
  where
    filled : (x : Bool) → (x && (false && (not b || commits n))) ≡ true → ⊥
    filled true e = cc
    filled false e = cc
step_becomes n MarksOne [] e one = absurd (let h = and_right (commits n) false e in cc)
step_becomes n MarksOne (true ∷ []) e one = absurd (let h = and_right (commits n) false e in cc)
step_becomes n MarksOne (false ∷ []) e one = marked (begins n) (commits n) (and_left (commits n) true e)
  where
    marked : (b c : Bool) → c ≡ true → (false || ((b && (false && (false || (c && true)))) || ((c && (true && true)) || (drops n && (true && false))))) ≡ true
    marked true true e = refl
    marked false true e = refl
    marked b false e = absurd cc
step_becomes n MarksOne (b ∷ c ∷ l) e one = absurd cc
step_becomes n DropsOne [] e one = absurd (let h = and_right (drops n) false e in cc)
step_becomes n DropsOne (true ∷ []) e one = absurd (let h = and_right (drops n) false e in cc)
step_becomes n DropsOne (false ∷ []) e one = dropped (begins n) (commits n) (drops n) (and_left (drops n) true e)
  where
    dropped : (b c d : Bool) → d ≡ true → (false || ((b && (false && (false || (c && false)))) || ((c && (true && false)) || (d && (true && true))))) ≡ true
    dropped true true true e = refl
    dropped true false true e = refl
    dropped false true true e = refl
    dropped false false true e = refl
    dropped b c false e = absurd cc
step_becomes n DropsOne (b ∷ c ∷ l) e one = absurd cc

-- what is held is held still, where the note drops nothing
pub step_keeps : (n : Note) (s : Step) (l : List Bool) → may_step n s l ≡ true → drops n ≡ false → is_empty l ≡ false → is_empty (stepped s l) ≡ false
step_keeps n s [] e off some = absurd cc
step_keeps n Stays (b ∷ l) e off some = refl
step_keeps n (Adds c) (b ∷ l) e off some = refl
step_keeps n MarksOne (true ∷ l) e off some = refl
step_keeps n MarksOne (false ∷ l) e off some = refl
step_keeps n DropsOne (b ∷ l) e off some = absurd (let on = and_left (drops n) (has not (b ∷ l)) e in cc)

-- where the first is marked it stays so
pub step_leads : (s : Step) (l : List Bool) → leads l ≡ true → leads (stepped s l) ≡ true
step_leads s [] e = absurd cc
step_leads s (false ∷ l) e = absurd cc
step_leads Stays (true ∷ l) e = refl
step_leads (Adds b) (true ∷ l) e = refl
step_leads MarksOne (true ∷ l) e = refl
step_leads DropsOne (true ∷ l) e = refl

-- and where it is marked after one was added that isn't, it was before
pub led : (l : List Bool) → leads (l ++ false ∷ []) ≡ true → leads l ≡ true
led [] e = absurd cc
led (b ∷ l) e = e

-- where the first is marked something is held, and isn't unmarked
pub led_marks : (l : List Bool) → leads l ≡ true → (is_empty l ≡ false) × (is_unmarked l ≡ false)
led_marks [] e = absurd cc
led_marks (false ∷ l) e = absurd cc
led_marks (true ∷ l) e = (refl, refl)

-- where all that is held is marked the first is
pub all_lead : (l : List Bool) → is_empty l ≡ false → has not l ≡ false → leads l ≡ true
all_lead [] some e = absurd cc
all_lead (true ∷ l) some e = refl
all_lead (false ∷ l) some e = absurd cc

-- what is held, and whose first isn't marked, has one that isn't
pub not_led : (l : List Bool) → is_empty l ≡ false → leads l ≡ false → has not l ≡ true
not_led [] some e = absurd cc
not_led (true ∷ l) some e = absurd cc
not_led (false ∷ l) some e = refl

-- once the first that wasn't marked is, the pair isn't unmarked
pub marked_now : (l : List Bool) → has not l ≡ true → is_unmarked (on_first (true ∷ []) l) ≡ false
marked_now [] e = absurd cc
marked_now (true ∷ l) e = refl
marked_now (false ∷ l) e = refl

-- with one more something is held
pub more_held : (l : List Bool) (b : Bool) → is_empty (l ++ b ∷ []) ≡ false
more_held [] b = refl
more_held (c ∷ l) b = refl
