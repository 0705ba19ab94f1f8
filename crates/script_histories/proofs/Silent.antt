-- Where a history is settled and commit was asked, the client was told, or there is something that it waits for.
use Rattle.std.proofs.Common.{◌≡◌, ◌==◌, ℕ, Bool, true, false, ◌&&◌, ◌||◌, zero, suc, List, [], ◌∷◌, slice_get, Option, Some, None, refl, ◌∙◌, ap, sym}
use Rattle.std.specs.Prelude.{is_some, is_none, not, find, if◌then◌else◌}
use Rattle.std.proofs.lemmas.Bool.{eqb-true, false_from_ne_true}
use Rattle.dtx_values.specs.declared.number.EnlNo.{EnlNo}
use Rattle.dtx_values.specs.declared.entry.Entry.{Entry}
use Rattle.dtx_values.specs.declared.entry.Entry.TheVariants.{Lost, Reenlisted}
use Rattle.dtx_values.specs.declared.script.Line.{Line}
use Rattle.dtx_values.specs.declared.note.Plan.{Plan}
use Rattle.dtx_values.specs.declared.words.Class.{Class}
use Rattle.dtx_values.specs.declared.words.Outcome.{Outcome}
use Rattle.dtx_values.specs.declared.words.Vote.{Vote}
use Rattle.dtx_values.specs.Class.{is_volatile}
use Rattle.dtx_values.specs.Clones.{blocks}
use Rattle.dtx_values.specs.Row.{has_voted, is_marked}
use Rattle.dtx_model.specs.Words.{has, each, latest, all_of, or_else, holds}
use Rattle.dtx_model.specs.Entries.{client_told_of, clone_of, decision_of, handed_of, is_any_owner, is_asked, is_asked_alone, is_commit, is_decision, is_hand, is_lost, is_request_of, is_sealed, is_vote}
use Rattle.dtx_model.specs.Observed.{observe, rows}
use Rattle.dtx_model.specs.Outcome.{can_own, durables, enlisted, is_complete}
use Rattle.dtx_model.specs.Half.{is_gone, is_handed}
use Rattle.dtx_model.specs.Plans.{owner_reply, vote_reply}
use Rattle.dtx_model.specs.Caused.{plans_of}
use Rattle.dtx_model.proofs.Narrow.{act_by, act_entries, due_note, is_to_tell, open_note}
use Rattle.dtx_model.specs.History.{is_silent, is_silent_to_promote, is_still_lost, is_waiting, loss_of}
use Rattle.std.proofs.lemmas.Bool.{or_left}
use Rattle.dtx_model.proofs.Bools.{and_both, and_left, and_right, not_both, or_case, or_first, or_right, or_second}
use Rattle.history_table.proofs.Scans.{each-at, each_more, has_less}
use Rattle.history_table.proofs.Lists.{each_from_at}
use Rattle.history_table.proofs.EntryTests.{is_unplanned, is_only, is_answer, undecided}
use Rattle.script_histories.proofs.Dues.{one_class, voted_volatile}
use Rattle.script_histories.proofs.Rule.{ruled}
use Rattle.script_histories.proofs.RuledRows.{open_blocks, row_marked, row_voted, hand_seen, lost_seen}
use Rattle.script_histories.proofs.Evidence.{hand_stands}
use Rattle.history_table.proofs.Owned.{has_filter, has_rows}
use Rattle.script_histories.proofs.Going.{IsKept, going_unanswered, lost_of}
use Rattle.history_table.proofs.Handed.{any_answer}
use Rattle.script_histories.proofs.Plans.{planned_owner, planned_vote}
use Rattle.script_histories.proofs.Settled.{AreUnplanned, by_seal, unhanded_by}
use Rattle.history_table.proofs.NextActs.{has_answered, told_all}

-- whoever was handed the commit didn't vote
handed_unvoted : (e : ℕ) (h : List Entry) → ruled h ≡ true → has (is_hand e) h ≡ true → has (is_vote e) h ≡ false
handed_unvoted e h r k =
    false_from_ne_true (has (is_vote e) h)
    (λ v. one_class e h r (voted_volatile e h r v) (sym (has_filter (λ x. e == x.0.value) (λ x. not (is_volatile x.1)) (enlisted h)) ∙ only_there e (durables h) (hand_stands e h r k).alone))
  where
    only_there : (e : ℕ) (xs : List (EnlNo × Class)) → is_only e xs ≡ true → has (λ x. e == x.0.value) xs ≡ true
    only_there e [] o = absurd cc
    only_there e (x ∷ []) o = or_left (e == x.0.value) false (and_left (e == x.0.value) (can_own x.1) o)
    only_there e (x ∷ y ∷ ys) o = absurd cc

-- while nothing is decided, whoever was lost had voted
lost_voted : (h : List Entry) (e : ℕ) → IsKept h → has is_decision h ≡ false → has (is_lost e) h ≡ true → has (is_vote e) h ≡ true
lost_voted h e k d l = listed (has (is_vote e) h) h e (λ f. has (is_vote f) h) refl (step (has is_decision h) _ d k.spared) l
  where
    step : (d s : Bool) → d ≡ false → (d || s) ≡ true → s ≡ true
    step true s n k = absurd cc
    step false s n k = k

    listed : (b : Bool) (past : List Entry) (e : ℕ) (v : ℕ → Bool) → v e ≡ b → each (λ f. v f.value) (all_of lost_of past) ≡ true → has (is_lost e) past ≡ true → b ≡ true
    listed b [] e v q k l = absurd cc
    listed b (Lost f ∷ past) e v q k l =
        or_case (e == f.value) (has (is_lost e) past)
        (λ s. let same : e ≡ f.value = eqb-true e f.value s in sym q ∙ ap v same ∙ and_left (v f.value) (each (λ f. v f.value) (all_of lost_of past)) k)
        (listed b past e v q (and_right (v f.value) (each (λ f. v f.value) (all_of lost_of past)) k)) l
    listed b (x ∷ past) e v q k l = listed b past e v q k l

-- where no reply is due of a row and it isn't silent, it voted if it was asked, and wasn't handed the commit
row_rest : (s : List Line) (e : EnlNo) (d l m v w a : Bool) → d ≡ false → a ≡ false → (l ≡ true → v ≡ true) → (w ≡ true → v ≡ false)
    → is_unplanned (plans_of s e.value) (if d || l then None else open_note (m && not v) w) ≡ true
    → ((m && is_none (planned_vote s e.value) && not v) || (w && is_none (planned_owner s e.value) && not a)) ≡ false → ((not m || v) && not w) ≡ true
row_rest s e true l m v w a n y f g due silent = absurd cc
row_rest s e d l m v w true n y f g due silent = absurd cc
row_rest s e false true m true true false n y f g due silent = let no : true ≡ false = g refl in absurd cc
row_rest s e false true m true false false n y f g due silent = and_both (not m || true) true (or_right (not m) true refl) refl
row_rest s e false true m false w false n y f g due silent = let no : false ≡ true = f refl in absurd cc
row_rest s e false false true false w false n y f g due silent = absurd (vote e (planned_vote s e.value) due (or_first _ _ silent))
  where
    vote : (e : EnlNo) (o : Option Vote) → is_none (vote_reply o) ≡ true → (true && is_none o && true) ≡ false → ⊥
    vote e (Some v) p q = cc
    vote e None p q = cc
row_rest s e false false true true true false n y f g due silent = let no : true ≡ false = g refl in absurd cc
row_rest s e false false true true false false n y f g due silent = refl
row_rest s e false false false v true false n y f g due silent = absurd (answer e (planned_owner s e.value) due silent)
  where
    answer : (e : EnlNo) (o : Option Outcome) → is_none (owner_reply o) ≡ true → ((false && is_none (planned_vote s e.value) && not v) || (true && is_none o && true)) ≡ false → ⊥
    answer e (Some x) p q = cc
    answer e None p q = cc
row_rest s e false false false v false false n y f g due silent = refl

-- who is lost was lost
still_was_lost : (e : ℕ) (h : List Entry) → is_still_lost e h ≡ true → has (is_lost e) h ≡ true
still_was_lost e [] k = absurd cc
still_was_lost e (Lost f ∷ h) k = step (e == f.value) (still_was_lost e h) k
  where
    step : (b : Bool) → (is_still_lost e h ≡ true → has (is_lost e) h ≡ true) → holds (or_else (if b then Some true else None) (latest (loss_of e) h)) ≡ true → (b || has (is_lost e) h) ≡ true
    step true ih k = refl
    step false ih k = ih k
still_was_lost e (Reenlisted f ∷ h) k = step (e == f.value) (still_was_lost e h) k
  where
    step : (b : Bool) → (is_still_lost e h ≡ true → has (is_lost e) h ≡ true) → holds (or_else (if b then Some false else None) (latest (loss_of e) h)) ≡ true → has (is_lost e) h ≡ true
    step true ih k = absurd cc
    step false ih k = ih k
still_was_lost e (x ∷ h) k = or_right (is_lost e x) (has (is_lost e) h) (still_was_lost e h k)

-- nobody is silent to the notes that the local side gives where nothing is promoted
local_notes : (p : Plan) (h : List Entry) (e : ℕ) → (has (is_lost e) h ≡ true → has (is_vote e) h ≡ true) → (has (is_hand e) h ≡ true → has (is_vote e) h ≡ false) → is_silent p h e ≡ false
    → ((has (is_asked e) h && is_none p.vote && not (has (is_vote e) h)) || (has (is_hand e) h && is_none p.owner && not (has (is_any_owner e) h))) ≡ false
local_notes p h e cast handed k = by_loss (is_still_lost e h) refl k
  where
    prepare : Bool
    prepare = has (is_asked e) h && is_none p.vote && not (has (is_vote e) h)

    hand : Bool
    hand = has (is_hand e) h && is_none p.owner && not (has (is_any_owner e) h)

    single : Bool
    single = has (is_asked_alone e) h && is_none p.owner && not (has (is_request_of e) h)

    voted : has (is_vote e) h ≡ true → (prepare || hand) ≡ false
    voted v = both (has (is_asked e) h && is_none p.vote) (has (is_vote e) h) (has (is_hand e) h) (is_none p.owner) (not (has (is_any_owner e) h)) v (false_from_ne_true (has (is_hand e) h) (λ q. not_both (has (is_vote e) h) v (handed q)))
      where
        both : (a v w b c : Bool) → v ≡ true → w ≡ false → ((a && not v) || (w && b && c)) ≡ false
        both true v w b c e f = rw (e, f) refl
        both false v w b c e f = rw f refl

    by_loss : (l : Bool) → is_still_lost e h ≡ l → (not l && (prepare || hand || is_silent_to_promote p h e || single)) ≡ false → (prepare || hand) ≡ false
    by_loss true q k = voted (cast (still_was_lost e h q))
    by_loss false q k = or_first (prepare || hand) (is_silent_to_promote p h e) (or_first (prepare || hand || is_silent_to_promote p h e) single k)

-- where nothing is decided, no reply is due and nobody is silent, each row voted if it was asked, and none was handed the commit
rows_rest : (s : List Line) (h : List Entry) → IsKept h → latest decision_of h ≡ None → AreUnplanned s h → has (λ x. is_silent (plans_of s x.0.value) h x.0.value) (enlisted h) ≡ false
    → each (λ x. has_answered x && not (is_handed (latest handed_of h) x.number.value)) (rows h) ≡ true
unfolding observe
rows_rest s h k d due silent =
    let quiet : has (λ x. is_silent (plans_of s x.number.value) h x.number.value) (rows h) ≡ false = has_rows (λ (e : EnlNo) (c : Class). is_silent (plans_of s e.value) h e.value) h ∙ silent in
    let u = undecided h d in
    each_from_at (λ x. has_answered x && not (is_handed (latest handed_of h) x.number.value)) (rows h)
    (λ i x e.
    let n = x.number.value in
    row_rest s x.number (is_some (latest decision_of h)) (is_gone (observe h) n) (is_marked x) (has_voted x) (is_handed (latest handed_of h) n) (has (is_any_owner n) h) (ap is_some d)
    (has_less (is_any_owner n) is_answer (any_answer n) h (going_unanswered h u k.going))
    (λ l. row_voted h i x k.rules e ∙ lost_voted h n k u (sym (lost_seen n h k.rules) ∙ l))
    (λ w. row_voted h i x k.rules e ∙ handed_unvoted n h k.rules (sym (hand_seen n h k.rules) ∙ w))
    (each-at (λ y. is_unplanned (plans_of s y.number.value) (due_note (observe h) y)) (rows h) i x due e)
    (rw (row_marked h i x k.rules e, row_voted h i x k.rules e, hand_seen n h k.rules) (local_notes (plans_of s n) h n (lost_voted h n k u) (handed_unvoted n h k.rules) (none-at (λ y. is_silent (plans_of s y.number.value) h y.number.value) (rows h) i x quiet e))))
  where
    none-at : {A : Type 0} (p : A → Bool) (xs : List A) (i : ℕ) (x : A) → has p xs ≡ false → slice_get xs i ≡ Some x → p x ≡ false
    none-at p [] i x n e = absurd cc
    none-at p (y ∷ ys) zero x n e = let same : y ≡ x = cc in sym (ap p same) ∙ or_first (p y) (has p ys) n
    none-at p (y ∷ ys) (suc i) x n e = none-at p ys i x (or_second (p y) (has p ys) n) e

-- by cases: something was decided, or nothing was
by_decision : (s : List Line) (h : List Entry) (d : Option Outcome) → latest decision_of h ≡ d → IsKept h → has is_commit h ≡ true → act_by d (observe h) ≡ [] → AreUnplanned s h
    → (is_some (latest client_told_of h) || is_waiting s h) ≡ true
unfolding observe
by_decision s h (Some x) f k c a due =
    or_left (is_some (latest client_told_of h)) (is_waiting s h) (told_all x (find (is_to_tell (observe h) x) (observe h).listeners) (latest client_told_of h) a)
by_decision s h None f k c a due =
    or_right (is_some (latest client_told_of h)) (is_waiting s h)
    (waits (has (λ c. blocks c.1 && not (is_complete h c)) (all_of clone_of h)) (has (λ x. is_silent (plans_of s x.0.value) h x.0.value) (enlisted h))
    (λ closed silent.
    let rest = rows_rest s h k f due silent in
    let answered : each has_answered (rows h) ≡ true =
    each_more (λ x. has_answered x && not (is_handed (latest handed_of h) x.number.value)) has_answered
    (λ x. and_left (has_answered x) (not (is_handed (latest handed_of h) x.number.value))) (rows h) rest in
    let still : each (λ x. not (can_own x.class) || not (is_handed (latest handed_of h) x.number.value)) (rows h) ≡ true =
    each_more (λ x. has_answered x && not (is_handed (latest handed_of h) x.number.value)) (λ x. not (can_own x.class) || not (is_handed (latest handed_of h) x.number.value))
    (λ x q. or_right (not (can_own x.class)) _ (and_right (has_answered x) (not (is_handed (latest handed_of h) x.number.value)) q)) (rows h) rest in
    by_seal h (has is_commit h) (has is_sealed h) refl c k.rules (open_blocks h k.rules ∙ closed) answered (unhanded_by h k.rules still) a))
  where
    waits : (b c : Bool) → (b ≡ false → c ≡ false → ⊥) → (b || c) ≡ true
    waits true c f = refl
    waits false true f = refl
    waits false false f = absurd (f refl refl)

-- a settled history in which commit was asked: the client was told, or there is something that it waits for
pub told_or_waits : (s : List Line) (h : List Entry) → IsKept h → act_entries (observe h) ≡ [] → AreUnplanned s h → has is_commit h ≡ true → (is_some (latest client_told_of h) || is_waiting s h) ≡ true
unfolding observe act_entries
told_or_waits s h k a due c = by_decision s h (latest decision_of h) refl k c a due
