-- The lines of the calls that stand in a transaction's history are those of the calls that were entered there.
use Rattle.std.proofs.Common.{◌≡◌, ℕ, zero, suc, ◌-◌, ◌==◌, Bool, true, false, List, [], ◌∷◌, Option, Some, None, map, length, refl, ap, sym, subst, ◌∙◌}
use Rattle.std.specs.Prelude.{if◌then◌else◌, slice_index_or}
use Rattle.std.proofs.lemmas.Bool.{leb-true}
use Rattle.std.proofs.lemmas.List.{take_all}
use Rattle.dtx_values.specs.declared.call.Call.{Call}
use Rattle.dtx_values.specs.declared.entry.Entry.{Entry}
use Rattle.dtx_values.specs.declared.entry.Entry.TheVariants.{Called}
use Rattle.dtx_values.specs.declared.number.ActorNo.{ActorNo}
use Rattle.dtx_values.specs.declared.script.Line.{Line}
use Rattle.dtx_model.specs.Caused.{IsOwnRun, Ran}
use Rattle.dtx_model.specs.Facts.{facts_if, has_facts}
use Rattle.dtx_model.specs.Steps.{Step, Calls, after, block_at}
use Rattle.dtx_model.specs.Words.{each, onto, put}
use Rattle.dtx_model.specs.World.{World, answer_at, facts_at}
use Rattle.dtx_model.proofs.Bools.{and_left, and_right}
use Rattle.script_histories.proofs.Pending.{is_not_called}
use Rattle.script_histories.proofs.ReplayRuns.{block_not_called, facts_not_called}
use Rattle.call_order.proofs.Lists.{map-past}
use Rattle.script_calls.specs.declared.calls.LogCall.{LogCall}
use Rattle.script_calls.specs.declared.rows.Due.{Due}
use Rattle.script_calls.specs.Due.{calls_at, log_calls_at}
use Rattle.script_calls.specs.Prefix.{IsLogPrefix, IsPrefix, entered_by, lines_by, own_line}
use Rattle.script_calls.specs.Rows.{are_entered, is_entered, no_calls, row_at}
use Rattle.script_calls.specs.SeenRow.{SeenRow}
use Rattle.script_calls.proofs.Entered.{all_entered}
use Rattle.call_order.specs.InOrder.{lines_of}

-- an entry that is no call is no line's,
not_own_line : (a : ℕ) (x : Entry) → is_not_called x ≡ true → own_line a x ≡ None
not_own_line a (Called n b y) k = absurd cc
not_own_line a _ k = refl

-- so a block without a call leaves the lines
pub no_more_lines : (a : ℕ) (h es : List Entry) → each is_not_called es ≡ true → lines_by a (onto h es) ≡ lines_by a h
no_more_lines a h [] k = refl
no_more_lines a h (x ∷ es) k =
    no_more_lines a (x ∷ h) es (and_right (is_not_called x) (each is_not_called es) k)
    ∙ ap (λ (o : Option ℕ). put o (lines_by a h)) (not_own_line a x (and_left (is_not_called x) (each is_not_called es) k))

-- The history and the calls of a world have each actor's lines alike
abbrev HasLines : ℕ → World → Type 0
HasLines a w = lines_by a w.past ≡ map (λ (d : Due Call). d.line) (entered_by a w.calls)

-- after a step too,
step_lines : (a t : ℕ) (w : World) (m : Step) → HasLines a w → HasLines a (after t w m)
unfolding after block_at
step_lines a t w (Calls n b c k) ih =
    no_more_lines a (Called n b (answer_at t w c k) ∷ w.past) (facts_if (has_facts (answer_at t w c k)) (facts_at t w c (answer_at t w c k))) (facts_not_called t w c k) ∙ by (a == b.value)
  where
    by : (e : Bool) → put (if e then Some n else None) (lines_by a w.past) ≡ map (λ (d : Due Call). d.line) (put (if e then Some (record { line = n; call = c }) else None) (entered_by a w.calls))
    by true = ap (λ (ns : List ℕ). n ∷ ns) ih
    by false = ih
step_lines a t w m ih = no_more_lines a w.past (block_at t w m) (block_not_called t w m refl) ∙ ih

-- and so in each run.
ran_lines : (G : ℕ → ActorNo → Call → Type 0) (t : ℕ) (ms : List Step) (w : World) → Ran G t ms w → (a : ℕ) → HasLines a w
ran_lines G t [] w r a = ap (λ (h : List Entry). lines_by a h) r.1 ∙ sym (ap (λ ks. map (λ (d : Due Call). d.line) (entered_by a ks)) r.0)
ran_lines G t (m ∷ ms) w r a = subst (λ (v : World). HasLines a v) (sym r.3) (step_lines a t r.0 m (ran_lines G t ms r.0 r.1 a))

pub entered_lines : (t : ℕ) (w : World) → IsOwnRun t w → (a : ℕ) → lines_by a w.past ≡ map (λ (d : Due Call). d.line) (entered_by a w.calls)
entered_lines t w r a = ran_lines _ t r.0 w r.1 a

-- Where each call of each row was entered they are the lines of all of them.
pub whole_lines : (s : List Line) (t : ℕ) (rows : List (SeenRow Call)) (w : World) → IsOwnRun t w → IsPrefix s t rows w.calls → are_entered rows ≡ true
    → (a : ActorNo) → lines_by a.value w.past ≡ lines_of (calls_at s a.value t)
whole_lines s t rows w r p all a =
    entered_lines t w r a.value ∙ ap (λ (ds : List (Due Call)). map (λ (d : Due Call). d.line) ds) (all_entered s t rows w.calls p all a)
    ∙ sym (map-past (λ (d : Due Call). d.line) (calls_at s a.value t))

-- each row is that of an actor all of whose calls were entered, also where there is none
row_entered : {C : Type 0} (rows : List (SeenRow C)) (i : ℕ) → are_entered rows ≡ true → is_entered (slice_index_or rows i no_calls) ≡ true
row_entered [] i k = refl
row_entered (r ∷ rows) zero k = and_left (is_entered r) (are_entered rows) k
row_entered (r ∷ rows) (suc i) k = row_entered rows i (and_right (is_entered r) (are_entered rows) k)

-- So it is at the log.
pub whole_log_lines : (s : List Line) (rows : List (SeenRow LogCall)) (h : List Entry) → IsLogPrefix s rows h → are_entered rows ≡ true
    → (a : ActorNo) → lines_by a.value h ≡ lines_of (log_calls_at s a.value)
whole_log_lines s rows h p all a =
    let r = row_at a rows in
    let done = leb-true (length r.calls) r.entered (row_entered rows (a.value - 1) all) in
    p.entered a ∙ ap (λ (ds : List (Due LogCall)). lines_of ds) (take_all r.entered r.calls done ∙ p.calls a)
