-- The faults of words by forms that share their first place.
use Rattle.std.proofs.Common.{◌≡◌, ℕ, ◌||◌, ◌&&◌, ◌∙◌, Bool, true, false, List, [], ◌∷◌, refl, ap, Option, Some, None, if◌then◌else◌, codes}
use Rattle.std.specs.List.{filter_map}
use Rattle.std.proofs.Math.Bool.{or-false}
use Rattle.dtx_values.specs.declared.script.BadCause.{BadCause}
use Rattle.dtx_model.specs.Words.{has}
use Rattle.dtx_model.specs.Outcome.{is_empty}
use Rattle.dtx_model.specs.Faults.{Pattern, allows, behind, looks_named, looks_numbered, wants_number, word_cause, word_fault, command_forms, line_forms, actor_pattern, transaction_pattern, enlistment_pattern, scope_pattern, manager_pattern}
use Rattle.script_words.specs.Places.{IsAt, place_fault, end_fault, cause_of, is_misnamed, is_misnumbered, is_numbered, tail}
use Rattle.line_reader.specs.Reader.{ahead, first_fault, opening_forms, support_forms}

-- the two ways to say that a word looks like a name
named-by_letters : (s : Pattern) (w : List ℕ) → looks_named s w ≡ is_misnamed s.letters w
named-by_letters s [] = refl
named-by_letters s (b ∷ []) = refl
named-by_letters s (b ∷ d ∷ ds) = refl

-- and like a number
numbered-by_place : (o : Option (ℕ × ℕ)) (w : List ℕ) → looks_numbered o w ≡ (is_numbered o && is_misnumbered w)
numbered-by_place None [] = refl
numbered-by_place None (b ∷ bs) = refl
numbered-by_place (Some r) [] = refl
numbered-by_place (Some r) (b ∷ bs) = refl

-- where the first place allows the word, the forms go on
kept : (s : Pattern) (fs : List (List Pattern)) (w : List ℕ) → allows s w ≡ true → filter_map (behind w) (ahead s fs) ≡ fs
kept s [] w h = refl
kept s (f ∷ fs) w h = rw (h, kept s fs w h) refl

-- where it doesn't, no form is left
dropped : (s : Pattern) (fs : List (List Pattern)) (w : List ℕ) → allows s w ≡ false → filter_map (behind w) (ahead s fs) ≡ []
dropped s [] w h = refl
dropped s (f ∷ fs) w h = rw (h, dropped s fs w h) refl

-- none of these forms is filled
unfilled : (s : Pattern) (fs : List (List Pattern)) → has is_empty (ahead s fs) ≡ false
unfilled s [] = refl
unfilled s (f ∷ fs) = unfilled s fs

-- either of two equal tests is the first
or_same : (a b : Bool) → (b ≡ a) → (a || b) ≡ a
or_same true b e = refl
or_same false b e = e

-- they want a number where their first place does
wanted : (s : Pattern) (f : List Pattern) (fs : List (List Pattern)) (w : List ℕ) → has (wants_number w) (ahead s (f ∷ fs)) ≡ (looks_named s w || looks_numbered s.number w)
wanted s f [] w = or-false (looks_named s w || looks_numbered s.number w)
wanted s f (g ∷ fs) w = or_same (looks_named s w || looks_numbered s.number w) _ (wanted s g fs w)

-- their cause is that of their first place
first_cause : (s : Pattern) (f : List Pattern) (fs : List (List Pattern)) (w : List ℕ) → word_cause (ahead s (f ∷ fs)) w ≡ cause_of s.letters (is_numbered s.number) w
unfolding cause_of
first_cause s f fs w = rw (unfilled s fs, wanted s f fs w, named-by_letters s w, numbered-by_place s.number w) refl

-- forms with one first place fault the first word there, or what follows it
at_word : (s : Pattern) (f : List Pattern) (fs : List (List Pattern)) (w : List ℕ) (ws : List (List ℕ)) (b : Bool) → allows s w ≡ b
    → word_fault (ahead s (f ∷ fs)) (w ∷ ws) ≡ first_fault (if b then None else Some (cause_of s.letters (is_numbered s.number) w)) (word_fault (f ∷ fs) ws)
unfolding first_fault
at_word s f fs w ws true h = rw (kept s (f ∷ fs) w h) refl
at_word s f fs w ws false h = rw (dropped s (f ∷ fs) w h, first_cause s f fs w) refl

-- forms with one first place have its fault, or that of what follows it
pub shared : (s : Pattern) (f : List Pattern) (fs : List (List Pattern)) (ws : List (List ℕ)) → word_fault (ahead s (f ∷ fs)) ws ≡ first_fault (place_fault s ws) (word_fault (f ∷ fs) (tail ws))
unfolding first_fault place_fault
shared s f fs [] = rw (unfilled s (f ∷ fs)) refl
shared s f fs (w ∷ ws) = at_word s f fs w ws (allows s w) refl

-- so does one form
pub single : (s : Pattern) (f : List Pattern) (ws : List (List ℕ)) → word_fault ((s ∷ f) ∷ []) ws ≡ first_fault (place_fault s ws) (word_fault (f ∷ []) (tail ws))
single s f ws = shared s f [] ws

-- where there is a first fault, it is the one
pub first-some : (c : BadCause) (o : Option BadCause) → first_fault (Some c) o ≡ Some c
unfolding first_fault
first-some c o = refl

-- where there is none, it is the second
pub first-none : (o : Option BadCause) → first_fault None o ≡ o
unfolding first_fault
first-none o = refl

-- where the first word is taken, the form goes on after it
pub pass_one : (s : Pattern) (f : List Pattern) (ws : List (List ℕ)) (w : List ℕ) (new : List (List ℕ)) → IsAt s ws w new → word_fault ((s ∷ f) ∷ []) ws ≡ word_fault (f ∷ []) new
unfolding first_fault
pass_one s f ws w new h = single s f ws ∙ rw (h.1, h.2) refl

-- where it may not stand, there is its cause
pub stop_one : (s : Pattern) (f : List Pattern) (ws : List (List ℕ)) (c : BadCause) → place_fault s ws ≡ Some c → word_fault ((s ∷ f) ∷ []) ws ≡ Some c
unfolding first_fault
stop_one s f ws c h = single s f ws ∙ rw h refl

-- a form that is filled
pub filled : (ws : List (List ℕ)) → word_fault ([] ∷ []) ws ≡ end_fault ws
unfolding end_fault
filled [] = refl
filled (w ∷ ws) = refl

-- the words behind `open`, behind a durable's manager and behind an actor
pub open_forms : (ws : List (List ℕ)) → word_fault command_forms (codes "open" ∷ ws) ≡ first_fault (place_fault scope_pattern ws) (word_fault opening_forms (tail ws))
open_forms ws = shared scope_pattern _ _ ws

-- the words behind `durable`
pub durable_forms : (ws : List (List ℕ)) → word_fault command_forms (codes "durable" ∷ ws) ≡ first_fault (place_fault transaction_pattern ws)
    (first_fault (place_fault enlistment_pattern (tail ws)) (first_fault (place_fault manager_pattern (tail (tail ws))) (word_fault support_forms (tail (tail (tail ws))))))
durable_forms ws =
    let last = shared manager_pattern _ _ (tail (tail ws)) in
    let second : word_fault (ahead enlistment_pattern (ahead manager_pattern support_forms)) (tail ws)
    ≡ first_fault (place_fault enlistment_pattern (tail ws)) (first_fault (place_fault manager_pattern (tail (tail ws))) (word_fault support_forms (tail (tail (tail ws)))))
    = shared enlistment_pattern _ _ (tail ws) ∙ ap (λ o. first_fault (place_fault enlistment_pattern (tail ws)) o) last in
    shared transaction_pattern _ _ ws ∙ ap (λ o. first_fault (place_fault transaction_pattern ws) o) second

-- the words of a line
pub line_form : (ws : List (List ℕ)) → word_fault line_forms ws ≡ first_fault (place_fault actor_pattern ws) (word_fault command_forms (tail ws))
line_form ws = shared actor_pattern _ _ ws

pub ruleset forms = (single, first-some, first-none, filled)
