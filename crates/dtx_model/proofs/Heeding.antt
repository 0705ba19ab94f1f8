-- The two sides' knowledge, entry by entry and step by step: what a world keeps of it follows from the block of each step, and of the calls from the step's
-- own alone.
use Rattle.std.proofs.Common.{◌≡◌, ℕ, ◌==◌, Bool, true, false, List, [], ◌∷◌, refl, ap, sym, ◌∙◌, arith}
use Rattle.std.proofs.lemmas.Bool.Decides.{nat_tests}
use Rattle.dtx_values.specs.declared.call.Call.{Call}
use Rattle.dtx_values.specs.declared.entry.Answer.{Answer}
use Rattle.dtx_values.specs.declared.entry.Answer.TheVariants.{Fine, True, Wait}
use Rattle.dtx_values.specs.declared.entry.Entry.{Entry}
use Rattle.dtx_values.specs.declared.entry.Entry.TheVariants.{Called, Got, Down as Ended, Stopped}
use Rattle.dtx_values.specs.declared.message.Conn.{Conn}
use Rattle.dtx_values.specs.declared.message.Dir.{Dir}
use Rattle.dtx_values.specs.declared.message.Message.{Message}
use Rattle.dtx_values.specs.declared.number.ActorNo.{ActorNo}
use Rattle.dtx_values.specs.declared.number.EnlNo.{EnlNo}
use Rattle.dtx_values.specs.declared.number.RmNo.{RmNo}
use Rattle.dtx_model.specs.Words.{has, onto}
use Rattle.dtx_model.specs.Entries.{is_call}
use Rattle.dtx_model.specs.Observed.{observe, track}
use Rattle.dtx_model.specs.Wires.{in_transit}
use Rattle.dtx_model.specs.Coordinated.{coordinate, follow_all, may_log}
use Rattle.dtx_model.specs.Waiting.{EnteredCall, Waiter, managed, managed_after, waiting, waiting_after}
use Rattle.dtx_model.specs.Half.{Half, half_of, heeds, heeds_all}
use Rattle.dtx_model.specs.Acts.{act_entries}
use Rattle.dtx_model.specs.Replies.{reply_entries}
use Rattle.dtx_model.specs.Facts.{facts_if, has_facts}
use Rattle.dtx_model.specs.World.{World, half, core, answer_at, facts_at}
use Rattle.dtx_model.specs.Steps.{Step, Calls, Replies, Acts, Coordinates, Delivers, Stops, Restarts, after, block_at, coordinates, delivered, ended_at, entered, got_by, restarted}
use Rattle.dtx_model.specs.Caused.{MayCome}
use Rattle.dtx_model.proofs.Bools.{or_first, or_second}
use Rattle.dtx_model.proofs.Quiet.{Quiet, is_quiet, q_act, q_appended, q_called, q_ended_at, q_freed, q_got_by, q_head, q_if, q_one, q_reply, q_restarted, q_tail}

-- one more entry
pub half_of-cons : (ks : List EnteredCall) (past : List Entry) (x : Entry) → half_of ks (x ∷ past) ≡ heeds ks (half_of ks past) x
unfolding observe track
half_of-cons ks past x = refl

-- a block
pub half_of-onto : (ks : List EnteredCall) (past xs : List Entry) → half_of ks (onto past xs) ≡ heeds_all ks (half_of ks past) xs
unfolding observe track heeds_all
half_of-onto ks past [] = refl
half_of-onto ks past (x ∷ xs) = half_of-onto ks (x ∷ past) xs

-- the coordinator's
pub coordinate-onto : (past xs : List Entry) → coordinate (onto past xs) ≡ follow_all (coordinate past) xs
unfolding coordinate follow_all
coordinate-onto past [] = refl
coordinate-onto past (x ∷ xs) = coordinate-onto (x ∷ past) xs

-- a call that no entry has is of no account
waits_same : (k : EnteredCall) (ks : List EnteredCall) (ws : List Waiter) (x : Entry) → is_call k.line x ≡ false → waiting_after (k ∷ ks) x ws ≡ waiting_after ks x ws
waits_same k ks ws (Called n a Wait) e = rw e refl
waits_same k ks ws _ e = refl

managers_same : (k : EnteredCall) (ks : List EnteredCall) (ms : List (EnlNo × RmNo)) (x : Entry) → is_call k.line x ≡ false → managed_after (k ∷ ks) x ms ≡ managed_after ks x ms
managers_same k ks ms (Called n a Fine) e = rw e refl
managers_same k ks ms (Called n a True) e = rw e refl
managers_same k ks ms _ e = refl

fresh_waiting : (k : EnteredCall) (ks : List EnteredCall) (past : List Entry) → has (is_call k.line) past ≡ false → waiting (k ∷ ks) past ≡ waiting ks past
fresh_waiting k ks [] e = refl
fresh_waiting k ks (x ∷ past) e =
    rw (fresh_waiting k ks past (or_second (is_call k.line x) (has (is_call k.line) past) e)) (waits_same k ks (waiting ks past) x (or_first (is_call k.line x) (has (is_call k.line) past) e))

fresh_managed : (k : EnteredCall) (ks : List EnteredCall) (past : List Entry) → has (is_call k.line) past ≡ false → managed (k ∷ ks) past ≡ managed ks past
fresh_managed k ks [] e = refl
fresh_managed k ks (x ∷ past) e =
    rw (fresh_managed k ks past (or_second (is_call k.line x) (has (is_call k.line) past) e)) (managers_same k ks (managed ks past) x (or_first (is_call k.line x) (has (is_call k.line) past) e))

pub fresh : (k : EnteredCall) (ks : List EnteredCall) (past : List Entry) → has (is_call k.line) past ≡ false → half_of (k ∷ ks) past ≡ half_of ks past
fresh k ks past e = rw (fresh_waiting k ks past e, fresh_managed k ks past e) refl

-- of the calls only that of an entry matters
heeds_same : (ks : List EnteredCall) (h : Half) (x : Entry) → is_quiet x ≡ true → heeds ks h x ≡ heeds [] h x
heeds_same ks h (Called n a x) p = absurd cc
heeds_same ks h _ p = refl

pub heeds_all_same : (ks : List EnteredCall) (h : Half) (xs : List Entry) → Quiet xs → heeds_all ks h xs ≡ heeds_all [] h xs
unfolding heeds_all
heeds_all_same ks h [] q = refl
heeds_all_same ks h (x ∷ xs) q = rw (heeds_same ks h x (q_head x xs q)) (heeds_all_same ks (heeds [] h x) xs (q_tail x xs q))

not_called : Entry → Bool
not_called (Called n a x) = false
not_called _ = true

head_same : (ks : List EnteredCall) (h : Half) (x : Entry) → not_called x ≡ true → heeds ks h x ≡ heeds [] h x
unfolding not_called
head_same ks h (Called n a x) p = absurd cc
head_same ks h _ p = refl

headed_same : (ks : List EnteredCall) (h : Half) (x : Entry) (xs : List Entry) → not_called x ≡ true → Quiet xs → heeds_all ks h (x ∷ xs) ≡ heeds_all [] h (x ∷ xs)
unfolding heeds_all
headed_same ks h x xs p q = rw (head_same ks h x p) (heeds_all_same ks (heeds [] h x) xs q)

eq_self : (n : ℕ) → (n == n) ≡ true
eq_self n = grind (arith, nat_tests)

own_call : (n : ℕ) (a b : ActorNo) (c : Call) (ks : List EnteredCall) (h : Half) (x : Answer) →
    heeds (record { line = n; actor = a; call = c } ∷ ks) h (Called n b x) ≡ heeds (record { line = n; actor = a; call = c } ∷ []) h (Called n b x)
own_call n a b c ks h Wait = rw (eq_self n) refl
own_call n a b c ks h Fine = rw (eq_self n) refl
own_call n a b c ks h True = rw (eq_self n) refl
own_call n a b c ks h _ = refl

-- a block that comes after the world, of which only what its own calls say is new
quiet_after : (ks : List EnteredCall) (past es : List Entry) → Quiet es → half_of ks (onto past es) ≡ heeds_all [] (half_of ks past) es
quiet_after ks past es q = half_of-onto ks past es ∙ heeds_all_same ks (half_of ks past) es q

headed_after : (ks : List EnteredCall) (past : List Entry) (x : Entry) (es : List Entry) → not_called x ≡ true → Quiet es → half_of ks (onto past (x ∷ es)) ≡ heeds_all [] (half_of ks past) (x ∷ es)
headed_after ks past x es p q = half_of-onto ks past (x ∷ es) ∙ headed_same ks (half_of ks past) x es p q

called_after : (n : ℕ) (a : ActorNo) (c : Call) (ks : List EnteredCall) (past : List Entry) (x : Answer) (es : List Entry) → has (is_call n) past ≡ false → Quiet es →
    half_of (record { line = n; actor = a; call = c } ∷ ks) (onto past (Called n a x ∷ es)) ≡ heeds_all (record { line = n; actor = a; call = c } ∷ []) (half_of ks past) (Called n a x ∷ es)
unfolding heeds_all
called_after n a c ks past x es e q =
    let k : EnteredCall = record { line = n; actor = a; call = c } in
    half_of-onto (k ∷ ks) past (Called n a x ∷ es)
    ∙ ap (λ (h : Half). heeds_all (k ∷ ks) (heeds (k ∷ ks) h (Called n a x)) es) (fresh k ks past e)
    ∙ ap (λ (h : Half). heeds_all (k ∷ ks) h es) (own_call n a a c ks (half_of ks past) x)
    ∙ heeds_all_same (k ∷ ks) (heeds (k ∷ []) (half_of ks past) (Called n a x)) es q
    ∙ sym (heeds_all_same (k ∷ []) (heeds (k ∷ []) (half_of ks past) (Called n a x)) es q)

delivered_after : (t : ℕ) (w : World) (c : Conn) (d : Dir) (ms : List Message) → half_of w.calls (onto w.past (delivered t w c d ms)) ≡ heeds_all [] (half w) (delivered t w c d ms)
unfolding not_called
delivered_after t w c d [] = headed_after w.calls w.past (Ended c d) (ended_at w c d) refl (q_ended_at w c d)
delivered_after t w c d (m ∷ ms) = headed_after w.calls w.past (Got c d m) (got_by t w c d m) refl (q_got_by t w c d m)

-- what the local side knows after a step follows from what it knew, the block, and the step's own call
pub half_behind : (G : ℕ → ActorNo → Call → Type 0) (t : ℕ) (w : World) (m : Step) → MayCome G t w m → half (after t w m) ≡ heeds_all (entered m []) (half w) (block_at t w m)
unfolding after block_at
half_behind G t w (Calls n a c m) k = called_after n a c w.calls w.past (answer_at t w c m) (facts_if (has_facts (answer_at t w c m)) (facts_at t w c (answer_at t w c m))) k.1 (q_called t w c (answer_at t w c m))
half_behind G t w (Replies e x) k = quiet_after w.calls w.past (reply_entries (half w) e x) (q_reply (half w) e x)
half_behind G t w Acts k = quiet_after w.calls w.past (act_entries (half w)) (q_act (half w))
half_behind G t w (Coordinates x) k = quiet_after w.calls w.past (coordinates (core w) x) (q_if (may_log (core w)) (q_appended (core w) x) (q_freed x))
half_behind G t w (Delivers c d) k = delivered_after t w c d (in_transit c d w.past)
half_behind G t w Stops k = quiet_after w.calls w.past (Stopped ∷ []) (q_one Stopped refl)
half_behind G t w (Restarts found) k = quiet_after w.calls w.past (restarted (core w).stopped found) (q_restarted (core w).stopped found)

-- and so does what the coordinator knows
pub core_behind : (t : ℕ) (w : World) (m : Step) → core (after t w m) ≡ follow_all (core w) (block_at t w m)
unfolding after
core_behind t w m = coordinate-onto w.past (block_at t w m)
