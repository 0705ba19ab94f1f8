-- Traces in which the log is sound: what this says of each history and in either order, and that it is sound where nothing is promoted and nothing stands at it.
use Rattle.std.proofs.Common.{◌≡◌, ◌==◌, ℕ, Bool, true, false, ◌&&◌, List, [], ◌∷◌, refl, ap, sym, subst, ◌∙◌, if◌then◌else◌}
use Rattle.std.specs.Prelude.{not}
use Rattle.dtx_values.specs.declared.entry.Entry.{Entry}
use Rattle.dtx_values.specs.declared.entry.Entry.TheVariants.{LogFull}
use Rattle.dtx_values.specs.declared.number.TxNo.{TxNo}
use Rattle.dtx_values.specs.declared.script.Line.{Line}
use Rattle.dtx_values.specs.declared.trace.Place.TheVariants.{Context, Log, Transaction}
use Rattle.dtx_model.specs.Words.{always, each, has, past_of}
use Rattle.dtx_model.specs.AtLog.{is_local_trace, is_log}
use Rattle.dtx_model.specs.Caused.{IsCallOf, has_object, is_as_planned, is_unpromoted, plans_of}
use Rattle.dtx_model.specs.History.{IsHistory}
use Rattle.dtx_model.specs.Promotes.{is_promoting}
use Rattle.dtx_model.specs.Traces.{Placed, history, is_at}
use Rattle.dtx_model.proofs.Bools.{and_both, and_left, and_right, not_false, not_true, or_false, or_first, or_second}
use Rattle.dtx_model.proofs.Local.{free-local}
use Rattle.dtx_model.proofs.Reading.{each-past, has-past}
use Rattle.dtx_model.proofs.Unpromoted.{are_local, is_local}
use Rattle.history_table.proofs.Tests.{eq_self}
use Rattle.script_histories.specs.LogQuiet.{is_found_full, is_log_full, is_log_quiet, is_log_sound}
use Rattle.script_histories.proofs.PlannedReplays.{AllPlanned, IsPlanned, is_planned_there}
use Rattle.script_histories.proofs.ReplayTurns.{local_quiet}

-- where the log is sound it is quiet, in either order
pub past_quiet : (T : List Placed) → is_log_sound T ≡ true → is_log_quiet (past_of T) ≡ true
past_quiet T k = each-past (λ (x : Placed). not (is_log x.0)) T ∙ and_left (is_log_quiet T) (not (has is_found_full T)) k

-- and in each history no append found it full
unfull : (b : Bool) (x : Entry) (h : List Entry) → is_log_full x ≡ false → each (λ x. not (is_log_full x)) h ≡ true → each (λ x. not (is_log_full x)) (if b then x ∷ h else h) ≡ true
unfull true x h k j = and_both (not (is_log_full x)) (each (λ x. not (is_log_full x)) h) (not_false (is_log_full x) k) j
unfull false x h k j = j

history_unfull : (u : ℕ) (T : List Placed) → has is_found_full T ≡ false → each (λ x. not (is_log_full x)) (history u T) ≡ true
history_unfull u [] k = refl
history_unfull u ((Transaction t, x) ∷ T) k =
    unfull (u == t.value) x (history u T) (or_first (is_log_full x) (has is_found_full T) k) (history_unfull u T (or_second (is_log_full x) (has is_found_full T) k))
history_unfull u ((Context a, x) ∷ T) k = history_unfull u T k
history_unfull u ((Log, x) ∷ T) k = history_unfull u T k

-- so each reply is planned there and each append found room
both_always : (s : List Line) (h : List Entry) → always (is_as_planned (plans_of s) (has_object s 0)) h ≡ true → each (λ x. not (is_log_full x)) h ≡ true → IsPlanned s h
both_always s [] p q = refl
both_always s (x ∷ h) p q =
    let planned = is_as_planned (plans_of s) (has_object s 0) h x in
    let before = always (is_as_planned (plans_of s) (has_object s 0)) h in
    let room = each (λ x. not (is_log_full x)) h in
    and_both (planned && not (is_log_full x)) (always (is_planned_there s) h)
    (and_both planned (not (is_log_full x)) (and_left planned before p) (and_left (not (is_log_full x)) room q))
    (both_always s h (and_right planned before p) (and_right (not (is_log_full x)) room q))

pub all_planned : (s : List Line) (rise : ℕ) (T : List Placed) → IsHistory s 0 rise T → is_log_sound T ≡ true → AllPlanned s (past_of T)
all_planned s rise T a l u =
    let none : has is_found_full (past_of T) ≡ false = has-past is_found_full T ∙ not_true (has is_found_full T) (and_right (is_log_quiet T) (not (has is_found_full T)) l) in
    both_always s (history u.value (past_of T)) (a.caused u).planned (history_unfull u.value (past_of T) none)

-- Nothing is promoted in a local trace, so nothing is promoted in a history of it,
history_unpromoted : (u : ℕ) (T : List Placed) → is_local_trace T ≡ true → has is_promoting (history u T) ≡ false
history_unpromoted u [] l = refl
history_unpromoted u (x ∷ T) l =
    let here = and_left (not (is_log x.0) && not (is_promoting x.1)) (is_local_trace T) l in
    step (is_at u x.0) x (not_true (is_promoting x.1) (and_right (not (is_log x.0)) (not (is_promoting x.1)) here))
    (history_unpromoted u T (and_right (not (is_log x.0) && not (is_promoting x.1)) (is_local_trace T) l))
  where
    step : (b : Bool) (x : Placed) → is_promoting x.1 ≡ false → has is_promoting (history u T) ≡ false → has is_promoting (if b then x.1 ∷ history u T else history u T) ≡ false
    step true x p q = or_false (is_promoting x.1) (has is_promoting (history u T)) p q
    step false x p q = q

-- and no append is in it,
local_unfull : (h : List Entry) → are_local h ≡ true → has is_log_full h ≡ false
local_unfull [] k = refl
local_unfull (LogFull ∷ h) k = absurd cc
local_unfull (x ∷ h) k = local_unfull h (and_right (is_local x) (are_local h) k)

-- and where no history has one that found the log full, the trace has none
tail_unfull : (b : Bool) (x : Entry) (h : List Entry) → has is_log_full (if b then x ∷ h else h) ≡ false → has is_log_full h ≡ false
tail_unfull true x h k = or_second (is_log_full x) (has is_log_full h) k
tail_unfull false x h k = k

none_full : (T : List Placed) → ((u : TxNo) → has is_log_full (history u.value T) ≡ false) → has is_found_full T ≡ false
none_full [] f = refl
none_full ((Transaction t, x) ∷ T) f =
    let own : has is_log_full (x ∷ history t.value T) ≡ false =
    subst (λ b. has is_log_full (if b then x ∷ history t.value T else history t.value T) ≡ false) (eq_self t.value) (f t) in
    or_false (is_log_full x) (has is_found_full T) (or_first (is_log_full x) (has is_log_full (history t.value T)) own)
    (none_full T (λ u. tail_unfull (u.value == t.value) x (history u.value T) (f u)))
none_full ((Context a, x) ∷ T) f = none_full T f
none_full ((Log, x) ∷ T) f = none_full T f

-- so where nothing stands at the log, and no history has one, the log is sound
pub sound_of : (T : List Placed) → is_log_quiet T ≡ true → ((u : TxNo) → has is_log_full (history u.value (past_of T)) ≡ false) → is_log_sound T ≡ true
sound_of T l f = and_both (is_log_quiet T) (not (has is_found_full T)) l (ap not (sym (has-past is_found_full T) ∙ none_full (past_of T) f))

-- and it is so in a local trace
pub local_sound : (s : List Line) (k rise : ℕ) (T : List Placed) → IsHistory s k rise T → is_local_trace T ≡ true → is_log_sound T ≡ true
local_sound s k rise T a l =
    let past : is_local_trace (past_of T) ≡ true = each-past (λ (x : Placed). not (is_log x.0) && not (is_promoting x.1)) T ∙ l in
    let unpromoted : (u : TxNo) → is_unpromoted (history u.value (past_of T)) ≡ true = λ u. ap not (history_unpromoted u.value (past_of T) past) in
    let homes : (u : TxNo) → are_local (history u.value (past_of T)) ≡ true =
    λ u. free-local (IsCallOf s u.value) u.value (history u.value (past_of T)) (a.caused u).freely (unpromoted u) in
    sound_of T (local_quiet T l) (λ u. local_unfull (history u.value (past_of T)) (homes u))
