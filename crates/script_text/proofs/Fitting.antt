-- Lines whose numbers are in their ranges fill a form.
use Rattle.std.proofs.Common.{◌&&◌, ◌≡◌, ℕ, zero, suc, Bool, true, false, List, [], ◌∷◌, refl, ◌∙◌, arith}
use Rattle.dtx_values.specs.declared.script.Body.{Body}
use Rattle.dtx_values.specs.declared.script.Body.TheVariants.{Begin, Open, Finish, Close, Current, Volatile, Durable, Promotable, Clone, Complete, Commit, Rollback, Marshal}
use Rattle.dtx_values.specs.declared.script.Body.TheVariants.{Status, Await, Tick, Do, Lose, Gone, Reenlist, Recovered, Stop, Restart, Par}
use Rattle.dtx_values.specs.declared.script.Line.{Line}
use Rattle.dtx_values.specs.declared.script.Opening.TheVariants.{Required, RequiresNew, Suppress}
use Rattle.dtx_values.specs.declared.script.Support.TheVariants.{SinglePhase, TwoPhase}
use Rattle.dtx_model.specs.Grammar.{actor_name, words, command_words, is_from, is_in_range}
use Rattle.dtx_model.specs.Faults.{Pattern, allows, command_forms, line_forms, actor_pattern}
use Rattle.dtx_model.proofs.Bools.{and_both, and_left, and_right, or_right}
use Rattle.script_words.proofs.Patterns.{actor_allowed, transaction_allowed, enlistment_allowed, clone_allowed, scope_allowed, manager_allowed, connection_allowed, timeout_allowed, isolation_allowed}
use Rattle.script_words.proofs.Patterns.{option_allowed, vote_allowed, owner_allowed, promotion_allowed, kind_allowed, image_allowed, number_allowed}
use Rattle.line_reader.specs.Reader.{ahead}
use Rattle.line_reader.proofs.WordFaults.{fits, fits_some}

-- words fill the form at a place of some forms
abbrev fits_at : List (List Pattern) → ℕ → List (List ℕ) → Bool
fits_at [] i ws = false
fits_at (f ∷ fs) zero ws = fits f ws
fits_at (f ∷ fs) (suc i) ws = fits_at fs i ws

-- so they fill one
at_some : (fs : List (List Pattern)) (i : ℕ) (ws : List (List ℕ)) → fits_at fs i ws ≡ true → fits_some fs ws ≡ true
at_some [] i ws h = absurd (cc h)
at_some (f ∷ fs) zero ws h = rw h refl
at_some (f ∷ fs) (suc i) ws h = or_right (fits f ws) (fits_some fs ws) (at_some fs i ws h)

-- one more word is allowed
also : {a b : Bool} → a ≡ true → b ≡ true → (a && b) ≡ true
also {a} {b} h k = and_both a b h k

-- a command whose numbers are in their ranges fills this form
body_fills : (b : Body) → is_in_range b ≡ true → (i : ℕ) × (fits_at command_forms i (command_words b) ≡ true)
body_fills (Begin t d) h = (0, also (transaction_allowed t) (also (timeout_allowed d h) refl))
body_fills (Open s (Required t d i)) h = (1, also (scope_allowed s) (also (transaction_allowed t) (also (timeout_allowed d h) (also (isolation_allowed i) refl))))
body_fills (Open s (RequiresNew t d i)) h = (2, also (scope_allowed s) (also (transaction_allowed t) (also (timeout_allowed d h) (also (isolation_allowed i) refl))))
body_fills (Open s Suppress) h = (3, also (scope_allowed s) refl)
body_fills (Finish s) h = (4, also (scope_allowed s) refl)
body_fills (Close s) h = (5, also (scope_allowed s) refl)
body_fills Current h = (6, refl)
body_fills (Volatile t e o v) h = (7, also (transaction_allowed t) (also (enlistment_allowed e) (also (option_allowed o) (also (vote_allowed v) refl))))
body_fills (Durable t e r (SinglePhase v o)) h = (8, also (transaction_allowed t) (also (enlistment_allowed e) (also (manager_allowed r) (also (vote_allowed v) (also (owner_allowed o) refl)))))
body_fills (Durable t e r (TwoPhase v)) h = (9, also (transaction_allowed t) (also (enlistment_allowed e) (also (manager_allowed r) (also (vote_allowed v) refl))))
body_fills (Promotable t e r v o p) h =
    (10, also (transaction_allowed t) (also (enlistment_allowed e) (also (manager_allowed r) (also (vote_allowed v) (also (owner_allowed o) (also (promotion_allowed p) refl))))))
body_fills (Clone t c k) h = (11, also (transaction_allowed t) (also (clone_allowed c) (also (kind_allowed k) refl)))
body_fills (Complete c) h = (12, also (clone_allowed c) refl)
body_fills (Commit t) h = (13, also (transaction_allowed t) refl)
body_fills (Rollback t) h = (14, also (transaction_allowed t) refl)
body_fills (Marshal t) h = (15, also (transaction_allowed t) refl)
body_fills (Status t) h = (16, also (transaction_allowed t) refl)
body_fills (Await t) h = (17, also (transaction_allowed t) refl)
body_fills (Tick t n) h = (18, also (transaction_allowed t) (also (number_allowed 1 1000000000 n (omega arith) h) refl))
body_fills (Do t k n) h =
    let place = number_allowed 1 99 k (omega arith) (and_left _ _ h) in
    let times = number_allowed 1 999 n (omega arith) (and_right (is_from 1 99 k) _ h) in
    (19, also (transaction_allowed t) (also place (also times refl)))
body_fills (Lose t c u d) h =
    let up = number_allowed 0 999 u (omega arith) (and_left _ _ h) in
    let down = number_allowed 0 999 d (omega arith) (and_right (is_from 0 999 u) _ h) in
    (20, also (transaction_allowed t) (also (connection_allowed c) (also up (also down refl))))
body_fills (Gone e) h = (21, also (enlistment_allowed e) refl)
body_fills (Reenlist e) h = (22, also (enlistment_allowed e) refl)
body_fills (Recovered t r) h = (23, also (transaction_allowed t) (also (manager_allowed r) refl))
body_fills (Stop n i) h = (24, also (number_allowed 1 99 n (omega arith) h) (also (image_allowed i) refl))
body_fills Restart h = (25, refl)
body_fills Par h = (26, refl)

-- the forms of a line are those of a command after an actor
pub line_forms_are : line_forms ≡ ahead actor_pattern command_forms
line_forms_are = refl

-- an actor and words that fill a form fill the form after an actor
actor_fits : (fs : List (List Pattern)) (a : List ℕ) (ws : List (List ℕ)) → allows actor_pattern a ≡ true → fits_some (ahead actor_pattern fs) (a ∷ ws) ≡ fits_some fs ws
actor_fits [] a ws h = refl
actor_fits (f ∷ fs) a ws h = rw (h, actor_fits fs a ws h) refl

-- a line whose numbers are in their ranges fills a form
pub line_fits : (l : Line) → is_in_range l.body ≡ true → fits_some line_forms (words l) ≡ true
line_fits l h =
    let form = body_fills l.body h in
    actor_fits command_forms (actor_name l.actor.value) (command_words l.body) (actor_allowed l.actor) ∙ at_some command_forms form.0 (command_words l.body) form.1
