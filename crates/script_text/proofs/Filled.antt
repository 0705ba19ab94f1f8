-- The command whose words fill a form.
use Rattle.std.proofs.Common.{◌≡◌, ℕ, ◌&&◌, ◌||◌, true, List, [], ◌∷◌, refl, ap, ap₂, ◌∙◌, codes}
use Rattle.dtx_values.specs.declared.script.Body.{Body}
use Rattle.dtx_values.specs.declared.script.Body.TheVariants.{Begin, Open, Finish, Close, Current, Volatile, Durable, Promotable, Clone, Complete, Commit, Rollback, Marshal}
use Rattle.dtx_values.specs.declared.script.Body.TheVariants.{Status, Await, Tick, Do, Lose, Gone, Reenlist, Recovered, Stop, Restart, Par}
use Rattle.dtx_values.specs.declared.script.Line.{Line}
use Rattle.dtx_values.specs.declared.script.Opening.TheVariants.{Required, RequiresNew, Suppress}
use Rattle.dtx_values.specs.declared.script.Support.TheVariants.{SinglePhase, TwoPhase}
use Rattle.dtx_model.specs.Grammar.{words, command_words, is_from, is_in_range}
use Rattle.dtx_model.specs.Faults.{Pattern, word, number, allows, command_forms, line_forms, actor_pattern, transaction_pattern, enlistment_pattern, clone_pattern, scope_pattern, manager_pattern, connection_pattern, timeout_pattern, iso_pattern, option_pattern, vote_pattern, owner_pattern, promote_pattern, kind_pattern, image_pattern}
use Rattle.dtx_model.proofs.Bools.{and_both, and_left, and_right, or_case, or_right}
use Rattle.line_reader.specs.Reader.{ahead}
use Rattle.line_reader.proofs.WordFaults.{fits, fits_some}
use Rattle.script_words.proofs.Meanings.{Means, listed, counted, actor, transaction, enlistment, clone, scope, manager, connection, timeout, iso, option, vote, owner, promote, kind, image}

infixr 10 ◌beside◌
-- what is left of the words fills what is left of a form; with what was in front of it, it is all words
record Left (in_front : List (List ℕ) → List (List ℕ)) (f : List Pattern) (ws : List (List ℕ)) : Type 0 where
  rest : List (List ℕ)
  fills : fits f rest ≡ true
  whole : in_front rest ≡ ws

-- the value whose text the first word is, and what is left after it
record Cut (A : Type 0) (spell : A → List ℕ) (in_front : List (List ℕ) → List (List ℕ)) (f : List Pattern) (ws : List (List ℕ)) : Type 0 where
  value : A
  left : Left (λ r. in_front (spell value ∷ r)) f ws

-- one word is cut off
cut_one : {A : Type 0} {spell : A → List ℕ} {in_front : List (List ℕ) → List (List ℕ)} {s : Pattern} {f : List Pattern} {ws : List (List ℕ)} → Means A spell s
    → (rest : List (List ℕ)) → fits (s ∷ f) rest ≡ true → in_front rest ≡ ws → Cut A spell in_front f ws
cut_one m [] h e = absurd (cc h)
cut_one {in_front} {s} {f} m (w ∷ rest) h e =
    let x = m.value w (and_left _ _ h) in
    record { value = x.0; left = record { rest = rest; fills = and_right _ _ h; whole = ap (λ v. in_front (v ∷ rest)) x.1 ∙ e } }

-- the same, said of what is left
cut : {A : Type 0} {spell : A → List ℕ} {in_front : List (List ℕ) → List (List ℕ)} {s : Pattern} {f : List Pattern} {ws : List (List ℕ)} → Means A spell s
    → Left in_front (s ∷ f) ws → Cut A spell in_front f ws
cut m h = cut_one m h.rest h.fills h.whole

-- a fixed word is cut off
fixed : {v : List ℕ} {in_front : List (List ℕ) → List (List ℕ)} {f : List Pattern} {ws : List (List ℕ)} → Left in_front (word v ∷ f) ws → Left (λ r. in_front (v ∷ r)) f ws
fixed {v} h = (cut (listed {A = Unit {0}} (λ x. v) (tt ∷ [])) h).left

-- no words are left where no place is
ends_with : (in_front : List (List ℕ) → List (List ℕ)) (ws rest : List (List ℕ)) → fits [] rest ≡ true → in_front rest ≡ ws → in_front [] ≡ ws
ends_with in_front ws [] h e = e
ends_with in_front ws (w ∷ rest) h e = absurd (cc h)

-- the same, said of what is left
ends : {in_front : List (List ℕ) → List (List ℕ)} {ws : List (List ℕ)} → Left in_front [] ws → in_front [] ≡ ws
ends {in_front} {ws} h = ends_with in_front ws h.rest h.fills h.whole

-- the words fill the form
abbrev Fills : List Pattern → List (List ℕ) → Type 0
Fills f ws = Left (λ r. r) f ws

-- the words are those of a command whose numbers are in their ranges
pub record AreCommandWords (ws : List (List ℕ)) : Type 0 where
  pub body : Body
  pub in_range : is_in_range body ≡ true
  pub is : command_words body ≡ ws

-- words that fill a form of one fixed word
alone : (b : Body) (v : List ℕ) {ws : List (List ℕ)} → is_in_range b ≡ true → command_words b ≡ v ∷ [] → Fills (word v ∷ []) ws → AreCommandWords ws
alone b v r e h = record { body = b; in_range = r; is = e ∙ ends (fixed h) }

-- words that fill a form of a fixed word and a value
of_one : {A : Type 0} {spell : A → List ℕ} {s : Pattern} {ws : List (List ℕ)} → Means A spell s → (b : A → Body) (v : List ℕ) → ((x : A) → is_in_range (b x) ≡ true)
    → ((x : A) → command_words (b x) ≡ v ∷ spell x ∷ []) → Fills (word v ∷ s ∷ []) ws → AreCommandWords ws
of_one m b v r e h =
    let x = cut m (fixed h) in
    record { body = b x.value; in_range = r x.value; is = e x.value ∙ ends x.left }

-- `begin`: its words are those of a command
made_begin : {ws : List (List ℕ)} → Fills (word (codes "begin") ∷ transaction_pattern ∷ timeout_pattern ∷ []) ws → AreCommandWords ws
made_begin h =
    let t = cut transaction (fixed h) in
    let d = cut timeout t.left in
    record { body = Begin t.value d.value.0; in_range = d.value.1; is = ends d.left }

-- `open` with `required`
made_open_required : {ws : List (List ℕ)} → Fills (word (codes "open") ∷ scope_pattern ∷ word (codes "required") ∷ transaction_pattern ∷ timeout_pattern ∷ iso_pattern ∷ []) ws → AreCommandWords ws
made_open_required h =
    let s = cut scope (fixed h) in
    let t = cut transaction (fixed s.left) in
    let d = cut timeout t.left in
    let i = cut iso d.left in
    record { body = Open s.value (Required t.value d.value.0 i.value); in_range = d.value.1; is = ends i.left }

-- `open` with `requiresnew`
made_open_new : {ws : List (List ℕ)} → Fills (word (codes "open") ∷ scope_pattern ∷ word (codes "requiresnew") ∷ transaction_pattern ∷ timeout_pattern ∷ iso_pattern ∷ []) ws → AreCommandWords ws
made_open_new h =
    let s = cut scope (fixed h) in
    let t = cut transaction (fixed s.left) in
    let d = cut timeout t.left in
    let i = cut iso d.left in
    record { body = Open s.value (RequiresNew t.value d.value.0 i.value); in_range = d.value.1; is = ends i.left }

-- `open` with `suppress`
made_open_suppress : {ws : List (List ℕ)} → Fills (word (codes "open") ∷ scope_pattern ∷ word (codes "suppress") ∷ []) ws → AreCommandWords ws
made_open_suppress h =
    let s = cut scope (fixed h) in
    record { body = Open s.value Suppress; in_range = refl; is = ends (fixed s.left) }

-- `volatile`
made_volatile : {ws : List (List ℕ)} → Fills (word (codes "volatile") ∷ transaction_pattern ∷ enlistment_pattern ∷ option_pattern ∷ vote_pattern ∷ []) ws → AreCommandWords ws
made_volatile h =
    let t = cut transaction (fixed h) in
    let e = cut enlistment t.left in
    let o = cut option e.left in
    let v = cut vote o.left in
    record { body = Volatile t.value e.value o.value v.value; in_range = refl; is = ends v.left }

-- `durable` with `single`
made_durable_single : {ws : List (List ℕ)} → Fills (word (codes "durable") ∷ transaction_pattern ∷ enlistment_pattern ∷ manager_pattern ∷ word (codes "single") ∷ vote_pattern ∷ owner_pattern ∷ []) ws → AreCommandWords ws
made_durable_single h =
    let t = cut transaction (fixed h) in
    let e = cut enlistment t.left in
    let r = cut manager e.left in
    let v = cut vote (fixed r.left) in
    let o = cut owner v.left in
    record { body = Durable t.value e.value r.value (SinglePhase v.value o.value); in_range = refl; is = ends o.left }

-- `durable` with `two`
made_durable_two : {ws : List (List ℕ)} → Fills (word (codes "durable") ∷ transaction_pattern ∷ enlistment_pattern ∷ manager_pattern ∷ word (codes "two") ∷ vote_pattern ∷ []) ws → AreCommandWords ws
made_durable_two h =
    let t = cut transaction (fixed h) in
    let e = cut enlistment t.left in
    let r = cut manager e.left in
    let v = cut vote (fixed r.left) in
    record { body = Durable t.value e.value r.value (TwoPhase v.value); in_range = refl; is = ends v.left }

-- `promotable`
made_promotable : {ws : List (List ℕ)} → Fills (word (codes "promotable") ∷ transaction_pattern ∷ enlistment_pattern ∷ manager_pattern ∷ vote_pattern ∷ owner_pattern ∷ promote_pattern ∷ []) ws → AreCommandWords ws
made_promotable h =
    let t = cut transaction (fixed h) in
    let e = cut enlistment t.left in
    let r = cut manager e.left in
    let v = cut vote r.left in
    let o = cut owner v.left in
    let p = cut promote o.left in
    record { body = Promotable t.value e.value r.value v.value o.value p.value; in_range = refl; is = ends p.left }

-- `clone`
made_clone : {ws : List (List ℕ)} → Fills (word (codes "clone") ∷ transaction_pattern ∷ clone_pattern ∷ kind_pattern ∷ []) ws → AreCommandWords ws
made_clone h =
    let t = cut transaction (fixed h) in
    let c = cut clone t.left in
    let k = cut kind c.left in
    record { body = Clone t.value c.value k.value; in_range = refl; is = ends k.left }

-- `tick`
made_tick : {ws : List (List ℕ)} → Fills (word (codes "tick") ∷ transaction_pattern ∷ number 1 1000000000 ∷ []) ws → AreCommandWords ws
made_tick h =
    let t = cut transaction (fixed h) in
    let n = cut (counted 1 1000000000) t.left in
    record { body = Tick t.value n.value.0; in_range = n.value.1; is = ends n.left }

-- `do`
made_do : {ws : List (List ℕ)} → Fills (word (codes "do") ∷ transaction_pattern ∷ number 1 99 ∷ number 1 999 ∷ []) ws → AreCommandWords ws
made_do h =
    let t = cut transaction (fixed h) in
    let k = cut (counted 1 99) t.left in
    let n = cut (counted 1 999) k.left in
    record { body = Do t.value k.value.0 n.value.0; in_range = and_both (is_from 1 99 k.value.0) (is_from 1 999 n.value.0) k.value.1 n.value.1; is = ends n.left }

-- `lose`
made_lose : {ws : List (List ℕ)} → Fills (word (codes "lose") ∷ transaction_pattern ∷ connection_pattern ∷ number 0 999 ∷ number 0 999 ∷ []) ws → AreCommandWords ws
made_lose h =
    let t = cut transaction (fixed h) in
    let c = cut connection t.left in
    let u = cut (counted 0 999) c.left in
    let d = cut (counted 0 999) u.left in
    record { body = Lose t.value c.value u.value.0 d.value.0; in_range = and_both (is_from 0 999 u.value.0) (is_from 0 999 d.value.0) u.value.1 d.value.1; is = ends d.left }

-- `recovered`
made_recovered : {ws : List (List ℕ)} → Fills (word (codes "recovered") ∷ transaction_pattern ∷ manager_pattern ∷ []) ws → AreCommandWords ws
made_recovered h =
    let t = cut transaction (fixed h) in
    let r = cut manager t.left in
    record { body = Recovered t.value r.value; in_range = refl; is = ends r.left }

-- `stop`
made_stop : {ws : List (List ℕ)} → Fills (word (codes "stop") ∷ number 1 99 ∷ image_pattern ∷ []) ws → AreCommandWords ws
made_stop h =
    let n = cut (counted 1 99) (fixed h) in
    let i = cut image n.left in
    record { body = Stop n.value.0 i.value; in_range = n.value.1; is = ends i.left }

-- for each form
abbrev ForEach : (List Pattern → Type 0) → List (List Pattern) → Type 0
ForEach P [] = Unit {0}
ForEach P (f ∷ fs) = P f × ForEach P fs

-- what follows from each form follows where one is filled
from_some : (C : Type 0) (ws : List (List ℕ)) (fs : List (List Pattern)) → ForEach (λ f. Fills f ws → C) fs → fits_some fs ws ≡ true → C
from_some C ws [] each h = absurd (cc h)
from_some C ws (f ∷ fs) each h = or_case (fits f ws) (fits_some fs ws) (λ k. each.0 (record { rest = ws; fills = k; whole = refl })) (from_some C ws fs each.1) h

-- one form more
◌beside◌ : {A B : Type 0} → A → B → A × B
◌beside◌ a b = (a, b)

-- each form's words are those of a command
each_form : (ws : List (List ℕ)) → ForEach (λ f. Fills f ws → AreCommandWords ws) command_forms
each_form ws =
    made_begin
    beside made_open_required
    beside made_open_new
    beside made_open_suppress
    beside of_one scope (λ x. Finish x) (codes "finish") (λ x. refl) (λ x. refl)
    beside of_one scope (λ x. Close x) (codes "close") (λ x. refl) (λ x. refl)
    beside alone Current (codes "current") refl refl
    beside made_volatile
    beside made_durable_single
    beside made_durable_two
    beside made_promotable
    beside made_clone
    beside of_one clone (λ x. Complete x) (codes "complete") (λ x. refl) (λ x. refl)
    beside of_one transaction (λ x. Commit x) (codes "commit") (λ x. refl) (λ x. refl)
    beside of_one transaction (λ x. Rollback x) (codes "rollback") (λ x. refl) (λ x. refl)
    beside of_one transaction (λ x. Marshal x) (codes "marshal") (λ x. refl) (λ x. refl)
    beside of_one transaction (λ x. Status x) (codes "status") (λ x. refl) (λ x. refl)
    beside of_one transaction (λ x. Await x) (codes "await") (λ x. refl) (λ x. refl)
    beside made_tick
    beside made_do
    beside made_lose
    beside of_one enlistment (λ x. Gone x) (codes "gone") (λ x. refl) (λ x. refl)
    beside of_one enlistment (λ x. Reenlist x) (codes "reenlist") (λ x. refl) (λ x. refl)
    beside made_recovered
    beside made_stop
    beside alone Restart (codes "restart") refl refl
    beside alone Par (codes "par") refl refl
    beside tt

-- words that fill a form after an actor are an actor and words that fill a form
no_actor : (fs : List (List Pattern)) → fits_some (ahead actor_pattern fs) [] ≡ true → ⊥
no_actor [] h = cc h
no_actor (f ∷ fs) h = no_actor fs h

-- more words that do are an actor and words that fill a form
behind_actor : (fs : List (List Pattern)) (w : List ℕ) (ws : List (List ℕ)) → fits_some (ahead actor_pattern fs) (w ∷ ws) ≡ true → (allows actor_pattern w ≡ true) × (fits_some fs ws ≡ true)
behind_actor [] w ws h = absurd (cc h)
behind_actor (f ∷ fs) w ws h =
    or_case (allows actor_pattern w && fits f ws) (fits_some (ahead actor_pattern fs) (w ∷ ws))
    (λ k. (and_left _ _ k, ap (λ b. b || fits_some fs ws) (and_right _ _ k)))
    (λ k. let r = behind_actor fs w ws k in (r.0, or_right (fits f ws) (fits_some fs ws) r.1)) h

-- the words are those of a line whose numbers are in their ranges
pub record AreLineWords (ws : List (List ℕ)) : Type 0 where
  pub line : Line
  pub in_range : is_in_range line.body ≡ true
  pub is : words line ≡ ws

-- words that fill the form of a line are those of one
pub line_of : (ws : List (List ℕ)) → fits_some line_forms ws ≡ true → AreLineWords ws
line_of [] h = absurd (no_actor command_forms h)
line_of (w ∷ ws) h =
    let k = behind_actor command_forms w ws h in
    let a = actor.value w k.0 in
    let b = from_some (AreCommandWords ws) ws command_forms (each_form ws) k.1 in
    record { line = record { actor = a.0; body = b.body }; in_range = b.in_range; is = ap₂ (λ x xs. x ∷ xs) a.1 b.is }
