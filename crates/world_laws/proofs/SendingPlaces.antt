-- The calls that wait are of different lines, and no two of them wait for the place of one enlistment.
use Rattle.std.proofs.Common.{◌≡◌, ℕ, ◌==◌, Bool, true, false, ◌&&◌, ◌||◌, List, [], ◌∷◌, filter, Some, refl, sym, subst, ap, ◌∙◌}
use Rattle.std.specs.Prelude.{nat_lt, not, if◌then◌else◌}
use Rattle.std.proofs.lemmas.Bool.{eq-eqb, eqb-true, false_from_ne_true}
use Rattle.dtx_values.specs.declared.call.Call.{Call}
use Rattle.dtx_values.specs.declared.call.Call.TheVariants.{Durable}
use Rattle.dtx_values.specs.declared.entry.Answer.{Answer}
use Rattle.dtx_values.specs.declared.entry.Answer.TheVariants.{Wait}
use Rattle.dtx_values.specs.declared.entry.Entry.{Entry}
use Rattle.dtx_values.specs.declared.entry.Entry.TheVariants.{Answered, Called, Down as Ended, Got, Stopped}
use Rattle.dtx_values.specs.declared.message.Conn.{Conn}
use Rattle.dtx_values.specs.declared.message.Dir.{Dir}
use Rattle.dtx_values.specs.declared.message.Message.{Message}
use Rattle.dtx_values.specs.declared.number.ActorNo.{ActorNo}
use Rattle.dtx_values.specs.declared.number.EnlNo.{EnlNo}
use Rattle.dtx_values.specs.declared.number.RmNo.{RmNo}
use Rattle.dtx_values.specs.declared.words.Class.{Class}
use Rattle.dtx_values.specs.Table.{insert_by}
use Rattle.dtx_model.specs.declared.waiting.EnteredCall.{EnteredCall}
use Rattle.dtx_model.specs.declared.waiting.Wanted.{Wanted}
use Rattle.dtx_model.specs.declared.waiting.Wanted.TheVariants.{Identifier, Place}
use Rattle.dtx_model.specs.Acts.{act_entries}
use Rattle.dtx_model.specs.Caused.{AreMadeOnce, MayCome, Ran, made_by}
use Rattle.dtx_model.specs.Coordinated.{may_log}
use Rattle.dtx_model.specs.Entries.{is_call}
use Rattle.dtx_model.specs.Facts.{facts_if, has_facts}
use Rattle.dtx_model.specs.Grammar.{OfEnlistment}
use Rattle.dtx_model.specs.Half.{Half}
use Rattle.dtx_model.specs.Replies.{reply_entries}
use Rattle.dtx_model.specs.Steps.{Step, Calls, Replies, Acts, Coordinates, Delivers, Stops, Restarts, after, block_at, coordinates, delivered, ended_at, got_by, restarted}
use Rattle.dtx_model.specs.Waiting.{Waiter, call_at, waiter_line, waiting, wanted, wanted_by}
use Rattle.dtx_model.specs.Wires.{in_transit}
use Rattle.dtx_model.specs.Words.{each, has, onto}
use Rattle.dtx_model.specs.World.{World, half, core, answer_at, facts_at}
use Rattle.dtx_model.proofs.Bools.{and_both, and_left, and_right, not_both, not_false, not_true, or_false, or_first, or_second}
use Rattle.dtx_model.proofs.Heeding.{fresh}
use Rattle.dtx_model.proofs.Quiet.{Quiet, is_quiet, q_act, q_appended, q_called, q_ended_at, q_freed, q_got_by, q_if, q_one, q_reply, q_restarted}
use Rattle.history_table.proofs.Lists.{OfEach, has-insert}
use Rattle.history_table.proofs.Owned.{has_filter}
use Rattle.history_table.proofs.Scans.{has_more}
use Rattle.history_table.proofs.Tests.{eq_swap}
use Rattle.history_table.proofs.Makers.{AreMade, IsWaiter, waits_at, place_number}

no : false ≡ true → ⊥
no e = absurd cc

-- no two of one line
abbrev pub are_lines : List Waiter → Bool
are_lines [] = true
are_lines (v ∷ vs) = not (has (waits_at v.0) vs) && are_lines vs

less_filter : (p q : Waiter → Bool) (ws : List Waiter) → has p ws ≡ false → has p (filter q ws) ≡ false
less_filter p q ws n =
    false_from_ne_true (has p (filter q ws))
    (λ t. not_both (has p ws) (has_more (λ v. p v && q v) p (λ v a. and_left (p v) (q v) a) ws (sym (has_filter p q ws) ∙ t)) n)

filter_lines : (q : Waiter → Bool) (ws : List Waiter) → are_lines ws ≡ true → are_lines (filter q ws) ≡ true
filter_lines q [] k = refl
filter_lines q (v ∷ vs) k = step (q v) (filter_lines q vs (and_right (not (has (waits_at v.0) vs)) (are_lines vs) k))
  where
    step : (b : Bool) → are_lines (filter q vs) ≡ true → are_lines (if b then v ∷ filter q vs else filter q vs) ≡ true
    step true r =
        and_both (not (has (waits_at v.0) (filter q vs))) (are_lines (filter q vs))
        (not_false (has (waits_at v.0) (filter q vs)) (less_filter (waits_at v.0) q vs (not_true (has (waits_at v.0) vs) (and_left (not (has (waits_at v.0) vs)) (are_lines vs) k)))) r
    step false r = r

insert_lines : (n : ℕ) (x : Wanted) (ws : List Waiter) → has (waits_at n) ws ≡ false → are_lines ws ≡ true → are_lines (insert_by waiter_line (n, x) ws) ≡ true
insert_lines n x [] m k = refl
insert_lines n x (v ∷ vs) m k = step (nat_lt v.0 n) (insert_lines n x vs (or_second (n == v.0) (has (waits_at n) vs) m) (and_right (not (has (waits_at v.0) vs)) (are_lines vs) k))
  where
    step : (b : Bool) → are_lines (insert_by waiter_line (n, x) vs) ≡ true → are_lines (if b then v ∷ insert_by waiter_line (n, x) vs else (n, x) ∷ v ∷ vs) ≡ true
    step true r =
        and_both (not (has (waits_at v.0) (insert_by waiter_line (n, x) vs))) (are_lines (insert_by waiter_line (n, x) vs))
        (not_false (has (waits_at v.0) (insert_by waiter_line (n, x) vs))
        (has-insert (waits_at v.0) waiter_line (n, x) vs
        ∙ or_false (v.0 == n) (has (waits_at v.0) vs) (eq_swap v.0 n ∙ or_first (n == v.0) (has (waits_at n) vs) m) (not_true (has (waits_at v.0) vs) (and_left (not (has (waits_at v.0) vs)) (are_lines vs) k)))) r
    step false r = and_both (not (has (waits_at n) (v ∷ vs))) (are_lines (v ∷ vs)) (not_false (has (waits_at n) (v ∷ vs)) m) k

-- a call that waits came
waits_called : (ks : List EnteredCall) (n : ℕ) (h : List Entry) → has (waits_at n) (waiting ks h) ≡ true → has (is_call n) h ≡ true
waits_called ks n [] k = absurd (no k)
waits_called ks n (Called m a Wait ∷ h) k = by (n == m) (has (waits_at n) (waiting ks h)) (has (is_call n) h) (waits_called ks n h) (sym (has-insert (waits_at n) waiter_line (m, wanted (call_at ks m)) (waiting ks h)) ∙ k)
  where
    by : (a b c : Bool) → (b ≡ true → c ≡ true) → (a || b) ≡ true → (a || c) ≡ true
    by true b c f k = refl
    by false b c f k = f k
waits_called ks n (Called m a x ∷ h) k = by (n == m) (has (is_call n) h) (waits_called ks n h k)
  where
    by : (a c : Bool) → c ≡ true → (a || c) ≡ true
    by true c k = refl
    by false c k = k
waits_called ks n (Answered m x ∷ h) k =
    waits_called ks n h (has_more (λ v. waits_at n v && not (m == v.0)) (waits_at n) (λ v a. and_left (waits_at n v) (not (m == v.0)) a) (waiting ks h) (sym (has_filter (waits_at n) (λ v. not (m == v.0)) (waiting ks h)) ∙ k))
waits_called ks n (x ∷ h) k = waits_called ks n h k

-- with one more entry that is no call, and with a call whose line is new
other_lines : (ks : List EnteredCall) (x : Entry) (h : List Entry) → is_quiet x ≡ true → are_lines (waiting ks h) ≡ true → are_lines (waiting ks (x ∷ h)) ≡ true
other_lines ks (Called n a y) h q k = absurd (no q)
other_lines ks (Answered n y) h q k = filter_lines (λ v. not (n == v.0)) (waiting ks h) k
other_lines ks _ h q k = k

block_lines : (ks : List EnteredCall) (h es : List Entry) → Quiet es → are_lines (waiting ks h) ≡ true → are_lines (waiting ks (onto h es)) ≡ true
block_lines ks h [] q k = k
block_lines ks h (x ∷ es) q k =
    block_lines ks (x ∷ h) es (record { proof = and_right (is_quiet x) (each is_quiet es) q.proof }) (other_lines ks x h (and_left (is_quiet x) (each is_quiet es) q.proof) k)

called_lines : (ks : List EnteredCall) (n : ℕ) (a : ActorNo) (x : Answer) (h : List Entry) → has (is_call n) h ≡ false → are_lines (waiting ks h) ≡ true → are_lines (waiting ks (Called n a x ∷ h)) ≡ true
called_lines ks n a Wait h new k =
    insert_lines n (wanted (call_at ks n)) (waiting ks h) (false_from_ne_true (has (waits_at n) (waiting ks h)) (λ t. not_both (has (is_call n) h) (waits_called ks n h t) new)) k
called_lines ks n a _ h new k = k

-- after each step
delivered_lines : (t : ℕ) (w : World) (c : Conn) (d : Dir) (ms : List Message) → are_lines (waiting w.calls w.past) ≡ true → are_lines (waiting w.calls (onto w.past (delivered t w c d ms))) ≡ true
delivered_lines t w c d [] k = block_lines w.calls (Ended c d ∷ w.past) (ended_at w c d) (q_ended_at w c d) k
delivered_lines t w c d (m ∷ ms) k = block_lines w.calls (Got c d m ∷ w.past) (got_by t w c d m) (q_got_by t w c d m) k

step_lines : (G : ℕ → ActorNo → Call → Type 0) (t : ℕ) (w : World) (m : Step) → MayCome G t w m → are_lines (waiting w.calls w.past) ≡ true → are_lines (waiting (after t w m).calls (after t w m).past) ≡ true
unfolding after block_at
step_lines G t w (Calls n a c m) q k =
    let x = answer_at t w c m in
    let own : EnteredCall = record { line = n; actor = a; call = c } in
    block_lines (own ∷ w.calls) (Called n a x ∷ w.past) (facts_if (has_facts x) (facts_at t w c x)) (q_called t w c x)
    (called_lines (own ∷ w.calls) n a x w.past q.1 (subst (λ ws. are_lines ws ≡ true) (sym (ap (λ (v : Half). v.waits) (fresh own w.calls w.past q.1))) k))
step_lines G t w (Replies e r) q k = block_lines w.calls w.past (reply_entries (half w) e r) (q_reply (half w) e r) k
step_lines G t w Acts q k = block_lines w.calls w.past (act_entries (half w)) (q_act (half w)) k
step_lines G t w (Coordinates x) q k = block_lines w.calls w.past (coordinates (core w) x) (q_if (may_log (core w)) (q_appended (core w) x) (q_freed x)) k
step_lines G t w (Delivers c d) q k = delivered_lines t w c d (in_transit c d w.past) k
step_lines G t w Stops q k = block_lines w.calls w.past (Stopped ∷ []) (q_one Stopped refl) k
step_lines G t w (Restarts found) q k = block_lines w.calls w.past (restarted (core w).stopped found) (q_restarted (core w).stopped found) k

-- so in each world that steps made
pub ran_lines : (G : ℕ → ActorNo → Call → Type 0) (t : ℕ) (ms : List Step) (w : World) → Ran G t ms w → are_lines (waiting w.calls w.past) ≡ true
ran_lines G t [] w r = ap (λ h. are_lines (waiting w.calls h)) r.1
ran_lines G t (m ∷ ms) w r = subst (λ (x : World). are_lines (waiting x.calls x.past) ≡ true) (sym r.3) (step_lines G t r.0 m r.2 (ran_lines G t ms r.0 r.1))

-- Two that wait for the place of one enlistment.
abbrev pub same_place : Waiter → Waiter → Bool
same_place (n, Place e r c) (m, Place f q d) = e.value == f.value
same_place _ _ = false

-- no two wait for the place of one enlistment
abbrev pub are_apart : List Waiter → Bool
are_apart [] = true
are_apart (v ∷ vs) = not (has (same_place v) vs) && are_apart vs

-- a call that waits for a place makes its enlistment
place_made : (e : EnlNo) (r : RmNo) (c : Class) (k : Call) → Place e r c ≡ wanted_by k → made_by k ≡ Some (OfEnlistment e.value)
place_made e r c (Durable t f q s) w = ap (λ n. Some (OfEnlistment n)) (sym (ap place_number w))
place_made e r c _ w = absurd cc

one_apart : (G : ℕ → ActorNo → Call → Type 0) (ks : List EnteredCall) (h : List Entry) (v w : Waiter) → AreMadeOnce G → IsWaiter G ks h v → IsWaiter G ks h w → (v.0 == w.0) ≡ false → same_place v w ≡ false
one_apart G ks h (n, Place e r c) (m, Place f q d) once i j k =
    false_from_ne_true (e.value == f.value)
    (λ t. not_both (n == m) (same n m (once n m i.actor j.actor i.call j.call (OfEnlistment e.value) i.may j.may (place_made e r c i.call i.wants)
    (place_made f q d j.call j.wants ∙ ap (λ x. Some (OfEnlistment x)) (sym (eqb-true e.value f.value t))))) k)
  where
    same : (n m : ℕ) → n ≡ m → (n == m) ≡ true
    same n m s = eq-eqb n m s
one_apart G ks h (n, Place e r c) (m, Identifier) once i j k = refl
one_apart G ks h (n, Identifier) w once i j k = refl

none_apart : (G : ℕ → ActorNo → Call → Type 0) (ks : List EnteredCall) (h : List Entry) (v : Waiter) (ws : List Waiter) → AreMadeOnce G → IsWaiter G ks h v → OfEach (IsWaiter G ks h) ws
    → has (waits_at v.0) ws ≡ false → has (same_place v) ws ≡ false
none_apart G ks h v [] once i j k = refl
none_apart G ks h v (w ∷ ws) once i j k =
    or_false (same_place v w) (has (same_place v) ws) (one_apart G ks h v w once i j.0 (or_first (v.0 == w.0) (has (waits_at v.0) ws) k))
    (none_apart G ks h v ws once i j.1 (or_second (v.0 == w.0) (has (waits_at v.0) ws) k))

apart_by : (G : ℕ → ActorNo → Call → Type 0) (ks : List EnteredCall) (h : List Entry) (ws : List Waiter) → AreMadeOnce G → OfEach (IsWaiter G ks h) ws → are_lines ws ≡ true → are_apart ws ≡ true
apart_by G ks h [] once j k = refl
apart_by G ks h (v ∷ vs) once j k =
    and_both (not (has (same_place v) vs)) (are_apart vs)
    (not_false (has (same_place v) vs) (none_apart G ks h v vs once j.0 j.1 (not_true (has (waits_at v.0) vs) (and_left (not (has (waits_at v.0) vs)) (are_lines vs) k))))
    (apart_by G ks h vs once j.1 (and_right (not (has (waits_at v.0) vs)) (are_lines vs) k))

-- no two wait for the place of one enlistment
pub all_apart : (G : ℕ → ActorNo → Call → Type 0) (ks : List EnteredCall) (h : List Entry) → AreMadeOnce G → AreMade G ks h → are_lines (waiting ks h) ≡ true → are_apart (waiting ks h) ≡ true
all_apart G ks h once a k = apart_by G ks h (waiting ks h) once a.waiters k
