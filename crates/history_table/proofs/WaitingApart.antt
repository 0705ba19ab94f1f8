-- In each world that steps make, where no two lines' calls make the same enlistment: no two calls wait for one place, and after the seal no call waits.
use Rattle.std.proofs.Common.{◌≡◌, ℕ, ◌==◌, Bool, true, false, ◌&&◌, ◌⊎◌, inl, inr, List, [], ◌∷◌, ◌++◌, Option, Some, None, refl, ◌∙◌, ap, sym, subst}
use Rattle.std.specs.Prelude.{filter, find, is_some, nat_lt, not, if◌then◌else◌}
use Rattle.std.specs.List.{flat_map}
use Rattle.std.proofs.lemmas.Bool.{false_from_ne_true}
use Rattle.dtx_values.specs.declared.call.Call.{Call}
use Rattle.dtx_values.specs.declared.call.Call.TheVariants.{Volatile, Durable, Promotable, Marshal}
use Rattle.dtx_values.specs.declared.entry.Answer.{Answer}
use Rattle.dtx_values.specs.declared.entry.Answer.TheVariants.{Fine, Id, Wait}
use Rattle.dtx_values.specs.declared.entry.Entry.{Entry}
use Rattle.dtx_values.specs.declared.entry.Entry.TheVariants.{Answered, Called, Enlisted, Got, Promoted, Sealed, Sent, Stopped}
use Rattle.dtx_values.specs.declared.message.Conn.{Conn}
use Rattle.dtx_values.specs.declared.message.Conn.TheVariants.{Begin, Voter, Enl}
use Rattle.dtx_values.specs.declared.message.Dir.{Dir}
use Rattle.dtx_values.specs.declared.message.Dir.TheVariants.{Up, Down}
use Rattle.dtx_values.specs.declared.message.Info.{Info}
use Rattle.dtx_values.specs.declared.message.Message.{Message}
use Rattle.dtx_values.specs.declared.message.Message.TheVariants.{BeginBegin, VoterCreated, EnlistEnlist, EnlistEnlisted}
use Rattle.dtx_values.specs.declared.number.ActorNo.{ActorNo}
use Rattle.dtx_values.specs.declared.number.EnlNo.{EnlNo}
use Rattle.dtx_values.specs.declared.number.RmNo.{RmNo}
use Rattle.dtx_values.specs.declared.words.Cause.{Cause}
use Rattle.dtx_values.specs.declared.words.Cause.TheVariants.{Marshal as MarshalCause}
use Rattle.dtx_values.specs.declared.words.Class.{Class}
use Rattle.dtx_values.specs.Class.{is_promotable}
use Rattle.dtx_values.specs.Owners.{cause_of}
use Rattle.dtx_values.specs.Support.{is_single}
use Rattle.dtx_values.specs.Table.{insert_by}
use Rattle.dtx_model.specs.declared.waiting.EnteredCall.{EnteredCall}
use Rattle.dtx_model.specs.declared.waiting.Wanted.TheVariants.{Identifier, Place}
use Rattle.dtx_model.specs.Words.{each, has, onto}
use Rattle.dtx_model.specs.Entries.{is_call, is_sealed}
use Rattle.dtx_model.specs.Grammar.{OfEnlistment}
use Rattle.dtx_model.specs.Promotes.{identifier_of}
use Rattle.dtx_model.specs.Wires.{in_transit}
use Rattle.dtx_model.specs.Waiting.{Waiter, call_at, is_place_of, waiter_line, waiting, wanted, wanted_by}
use Rattle.dtx_model.specs.Half.{Half, by_manager, enlist_sent, given, info, is_handed, is_promoting, over, promoted_by, sees}
use Rattle.dtx_model.specs.Arrivals.{arrived, created, enlisted_at, hand_over, local_got, place_given}
use Rattle.dtx_model.specs.Acts.{act_entries, commit_sent}
use Rattle.dtx_model.specs.Replies.{reply_entries}
use Rattle.dtx_model.specs.Facts.{begin_promotion, durable_facts, facts_if, has_facts, is_waiting_answer}
use Rattle.dtx_model.specs.World.{World, answer_at, core, facts_at, half}
use Rattle.dtx_model.specs.Steps.{Step, Calls, Replies, Acts, Coordinates, Delivers, Stops, Restarts, after, block_at, coordinates, delivered, ended_at, got_by, restarted}
use Rattle.dtx_model.specs.Caused.{AreMadeOnce, MayCome, Ran}
use Rattle.dtx_model.proofs.Bools.{and_both, and_left, and_right, not_both, not_false}
use Rattle.dtx_model.proofs.Heeding.{fresh}
use Rattle.history_table.proofs.Tests.{eq_swap}
use Rattle.history_table.proofs.Scans.{each_more}
use Rattle.history_table.proofs.Lists.{OfEach, each-insert}
use Rattle.history_table.proofs.Handover.{are_apart, same_place}
use Rattle.history_table.proofs.CalmBlocks.{Calm, Seals, act_kind, calm_arrived, calm_called, calm_commit_sent, calm_coordinates, calm_core_got, calm_ended_at, calm_reply, calm_restarted, is_slow}
use Rattle.history_table.proofs.CoreStages.{kept_some}
use Rattle.history_table.proofs.Upward.{none_waits}
use Rattle.history_table.proofs.Waiters.{own_call, sealed_gives}
use Rattle.history_table.proofs.Makers.{IsWaiter, lasting_makes, makes_enlistment, makes_name, place_made, ran_made}

-- no two calls wait for one place, and after the seal none waits
pub record AreApart (ks : List EnteredCall) (h : List Entry) : Type 0 where
  pub apart : are_apart (waiting ks h) ≡ true
  pub quiet : has is_sealed h ≡ true → waiting ks h ≡ []

-- the entry is no call and no seal
abbrev pub is_idle : Entry → Bool
is_idle (Called n a x) = false
is_idle Sealed = false
is_idle _ = true

slow_idle : (x : Entry) → is_slow x ≡ true → is_idle x ≡ true
slow_idle (Called n a x) t = absurd cc
slow_idle Sealed t = absurd cc
slow_idle _ t = refl

calm_idle : (es : List Entry) → Calm es → each is_idle es ≡ true
calm_idle es c = each_more is_slow is_idle slow_idle es c.slow

-- those that are left are apart
filter_apart : (q : Waiter → Bool) (ws : List Waiter) → are_apart ws ≡ true → are_apart (filter q ws) ≡ true
filter_apart q [] a = refl
filter_apart q (w ∷ ws) a = step (q w) (filter_apart q ws (and_right (each (λ v. not (same_place w v)) ws) (are_apart ws) a))
  where
    step : (b : Bool) → are_apart (filter q ws) ≡ true → are_apart (if b then w ∷ filter q ws else filter q ws) ≡ true
    step true ih =
        and_both (each (λ v. not (same_place w v)) (filter q ws)) (are_apart (filter q ws)) (kept_some (λ v. not (same_place w v)) q ws (and_left (each (λ v. not (same_place w v)) ws) (are_apart ws) a)) ih
    step false ih = ih

-- an entry that is no call and no seal keeps it
idle_one : (ks : List EnteredCall) (x : Entry) (h : List Entry) → is_idle x ≡ true → AreApart ks h → AreApart ks (x ∷ h)
idle_one ks (Called n a x) h t k = absurd cc
idle_one ks Sealed h t k = absurd cc
idle_one ks (Answered n x) h t k = record { apart = filter_apart (λ w. not (n == w.0)) (waiting ks h) k.apart; quiet = λ s. ap (filter (λ w. not (n == w.0))) (k.quiet s) }
idle_one ks x h t k = record { apart = k.apart; quiet = λ s. k.quiet s }

idle_apart : (ks : List EnteredCall) (h es : List Entry) → each is_idle es ≡ true → AreApart ks h → AreApart ks (onto h es)
idle_apart ks h [] t k = k
idle_apart ks h (x ∷ es) t k = idle_apart ks (x ∷ h) es (and_right (is_idle x) (each is_idle es) t) (idle_one ks x h (and_left (is_idle x) (each is_idle es) t) k)

-- The arrivals of CREATED and ENLISTED: a test passes them that passes what they bring.
pub record PassesGiven (p : Entry → Bool) : Type 0 where
  pub promoted : (u : ℕ) (c : Cause) → p (Promoted u c) ≡ true
  pub answered : (n : ℕ) (x : Answer) → p (Answered n x) ≡ true
  pub placed : (e : EnlNo) (c : Class) → p (Enlisted e c) ≡ true
  pub sent : (e : EnlNo) (i : Info) → p (Sent (Enl e) Up (EnlistEnlist i)) ≡ true

given_pass : (p : Entry → Bool) → PassesGiven p → (t : ℕ) (ws : List Waiter) → each p (flat_map (given t) ws) ≡ true
given_pass p g t [] = refl
given_pass p g t ((n, Identifier) ∷ ws) =
    and_both (p (Answered n (Id (identifier_of t)))) (each p (flat_map (given t) ws)) (g.answered n (Id (identifier_of t))) (given_pass p g t ws)
given_pass p g t ((n, Place e r c) ∷ ws) =
    and_both (p (Sent (Enl e) Up (EnlistEnlist (info t e r)))) (each p (flat_map (given t) ws)) (g.sent e (info t e r)) (given_pass p g t ws)

handed_pass : (p : Entry → Bool) → PassesGiven p → (t : ℕ) (v : Half) (x : Option EnlNo) → each p (hand_over t v x) ≡ true
handed_pass p g t v (Some e) = sent v.managers
  where
    sent : (ms : List (EnlNo × RmNo)) → each p (by_manager (enlist_sent t) ms e) ≡ true
    sent [] = refl
    sent (m ∷ ms) = step (e.value == m.0.value) (sent ms)
      where
        step : (b : Bool) → each p (by_manager (enlist_sent t) ms e) ≡ true → each p (if b then enlist_sent t e m.1 else by_manager (enlist_sent t) ms e) ≡ true
        step true k = and_both (p (Sent (Enl e) Up (EnlistEnlist (info t e m.1)))) true (g.sent e (info t e m.1)) refl
        step false k = k
handed_pass p g t v None = by v.seen.cause
  where
    by : (o : Option Cause) → each p (promoted_by t o ++ flat_map (given t) v.waits) ≡ true
    by (Some c) = and_both (p (Promoted (identifier_of t) c)) (each p (flat_map (given t) v.waits)) (g.promoted (identifier_of t) c) (given_pass p g t v.waits)
    by None = given_pass p g t v.waits

pass_if : (p : Entry → Bool) (b : Bool) (xs ys : List Entry) → each p xs ≡ true → each p ys ≡ true → each p (if b then xs else ys) ≡ true
pass_if p true xs ys k l = k
pass_if p false xs ys k l = l

placed_pass : (p : Entry → Bool) → PassesGiven p → (o : Option Waiter) → each p (place_given o) ≡ true
placed_pass p g (Some (n, Place e r c)) = and_both (p (Enlisted e c)) (p (Answered n Fine) && true) (g.placed e c) (and_both (p (Answered n Fine)) true (g.answered n Fine) refl)
placed_pass p g (Some (n, Identifier)) = refl
placed_pass p g None = refl

pub created_pass : (p : Entry → Bool) → PassesGiven p → (t : ℕ) (v : Half) → each p (created t v) ≡ true
created_pass p g t v =
    pass_if p (is_some v.seen.decided) [] (if is_promoting v.seen then hand_over t v v.seen.handover else []) refl
    (pass_if p (is_promoting v.seen) (hand_over t v v.seen.handover) [] (handed_pass p g t v v.seen.handover) refl)

pub enlisted_pass : (p : Entry → Bool) → PassesGiven p → (t : ℕ) (v : Half) (e : EnlNo) → each p (enlisted_at t v e) ≡ true
enlisted_pass p g t v e =
    let own = is_promoting v.seen && is_handed v.seen.handover e.value in
    let placed = place_given (find (is_place_of e.value) v.waits) in
    pass_if p (is_some v.seen.decided) [] (if own then over t v else if v.seen.promoted then placed else []) refl
    (pass_if p own (over t v) (if v.seen.promoted then placed else []) (handed_pass p g t v None)
    (pass_if p v.seen.promoted placed [] (placed_pass p g (find (is_place_of e.value) v.waits)) refl))

idle_passes : PassesGiven is_idle
idle_passes = record { promoted = λ u c. refl; answered = λ n x. refl; placed = λ e c. refl; sent = λ e i. refl }

idle_got : (t : ℕ) (h : Half) (c : Conn) (m : Message) → each is_idle (local_got t h c m) ≡ true
unfolding local_got
idle_got t h Voter VoterCreated = created_pass is_idle idle_passes t (sees h (Got Voter Down VoterCreated))
idle_got t h (Enl e) EnlistEnlisted = enlisted_pass is_idle idle_passes t (sees h (Got (Enl e) Down EnlistEnlisted)) e
idle_got t h c m = calm_idle (arrived t (sees h (Got c Down m)) c m) (calm_arrived t (sees h (Got c Down m)) c m refl)

pub idle_delivered : (t : ℕ) (w : World) (c : Conn) (d : Dir) (ms : List Message) → each is_idle (delivered t w c d ms) ≡ true
idle_delivered t w c d [] = calm_idle (ended_at w c d) (calm_ended_at w c d)
idle_delivered t w c Up (m ∷ ms) = calm_idle (got_by t w c Up m) (calm_core_got (identifier_of t) (core w) c m)
idle_delivered t w c Down (m ∷ ms) = idle_got t (half w) c m

-- The facts of a call.
idle_begin : (v : Half) (o : Option Cause) → each is_idle (begin_promotion v o) ≡ true
idle_begin v None = refl
idle_begin v (Some c) = pass_if is_idle (has (λ x. is_promotable x.class) v.seen.table) [] (Sent Begin Up BeginBegin ∷ []) refl refl

idle_facts : (b : Bool) (es : List Entry) → each is_idle es ≡ true → each is_idle (facts_if b es) ≡ true
idle_facts true es k = k
idle_facts false es k = refl

idle_durable : (t : ℕ) (v : Half) (e : EnlNo) (r : RmNo) (s : Bool) (x : Answer) → each is_idle (durable_facts t v e r s x) ≡ true
idle_durable t v e r s Wait =
    pass_if is_idle v.seen.promoted (enlist_sent t e r) (if is_promoting v.seen then [] else begin_promotion v (cause_of v.seen.table s)) refl
    (pass_if is_idle (is_promoting v.seen) [] (begin_promotion v (cause_of v.seen.table s)) refl (idle_begin v (cause_of v.seen.table s)))
idle_durable t v e r s _ = refl

pub idle_call : (t : ℕ) (w : World) (c : Call) (x : Answer) → each is_idle (facts_if (has_facts x) (facts_at t w c x)) ≡ true
idle_call t w (Volatile u e o v) x = idle_facts (has_facts x) (facts_at t w (Volatile u e o v) x) refl
idle_call t w (Promotable u e r v o y) x = idle_facts (has_facts x) (facts_at t w (Promotable u e r v o y) x) refl
idle_call t w (Marshal u) x =
    idle_facts (has_facts x) (facts_at t w (Marshal u) x) (pass_if is_idle (is_promoting (half w).seen) [] (begin_promotion (half w) (Some MarshalCause)) refl (idle_begin (half w) (Some MarshalCause)))
idle_call t w (Durable u e r s) x = idle_facts (has_facts x) (facts_at t w (Durable u e r s) x) (idle_durable t (half w) e r (is_single s) x)
idle_call t w c x = calm_idle (facts_if (has_facts x) (facts_at t w c x)) (calm_called t w c x refl)

-- One more that waits: it is apart from each other, whose line came before.
same_swap : (v w : Waiter) → same_place v w ≡ same_place w v
same_swap (n, Identifier) (m, Identifier) = refl
same_swap (n, Identifier) (m, Place f q d) = refl
same_swap (n, Place e r c) (m, Identifier) = refl
same_swap (n, Place e r c) (m, Place f q d) = eq_swap f.value e.value

insert_apart : (w : Waiter) (ws : List Waiter) → each (λ v. not (same_place w v)) ws ≡ true → are_apart ws ≡ true → are_apart (insert_by waiter_line w ws) ≡ true
insert_apart w [] d a = refl
insert_apart w (v ∷ vs) d a =
    step (nat_lt (waiter_line v) (waiter_line w))
    (insert_apart w vs (and_right (not (same_place w v)) (each (λ u. not (same_place w u)) vs) d) (and_right (each (λ u. not (same_place v u)) vs) (are_apart vs) a))
  where
    step : (b : Bool) → are_apart (insert_by waiter_line w vs) ≡ true → are_apart (if b then v ∷ insert_by waiter_line w vs else w ∷ v ∷ vs) ≡ true
    step true ih =
        and_both (each (λ u. not (same_place v u)) (insert_by waiter_line w vs)) (are_apart (insert_by waiter_line w vs))
        (each-insert (λ u. not (same_place v u)) waiter_line w vs
        ∙ and_both (not (same_place v w)) (each (λ u. not (same_place v u)) vs) (ap not (same_swap v w) ∙ and_left (not (same_place w v)) (each (λ u. not (same_place w u)) vs) d)
        (and_left (each (λ u. not (same_place v u)) vs) (are_apart vs) a)) ih
    step false ih = and_both (each (λ u. not (same_place w u)) (v ∷ vs)) (are_apart (v ∷ vs)) d a

-- a call whose line is new makes another enlistment than each that waits
line_apart : (G : ℕ → ActorNo → Call → Type 0) (ks : List EnteredCall) (h : List Entry) (n : ℕ) (a : ActorNo) (c : Call) → AreMadeOnce G → G n a c → has (is_call n) h ≡ false → (v : Waiter) → IsWaiter G ks h v
    → same_place (n, wanted_by c) v ≡ false
line_apart G ks h n a (Durable u e r s) once g new (m, Place f q d) w =
    false_from_ne_true (f.value == e.value)
    (λ t. let own : makes_enlistment f.value (Durable u e r s) ≡ true = t in
    let lines : n ≡ m =
    once n m a w.actor (Durable u e r s) w.call (OfEnlistment f.value) g w.may (makes_name f.value (Durable u e r s) own)
    (makes_name f.value w.call (lasting_makes f.value w.call (place_made f q d w.call w.wants).0)) in
    let P : ℕ → Type 0 = λ k. has (is_call k) h ≡ false in
    not_both (has (is_call m) h) w.called (subst P lines new))
line_apart G ks h n a (Durable u e r s) once g new (m, Identifier) w = refl
line_apart G ks h n a c once g new v w = refl

all_apart : (G : ℕ → ActorNo → Call → Type 0) (ks : List EnteredCall) (h : List Entry) (n : ℕ) (a : ActorNo) (c : Call) → AreMadeOnce G → G n a c → has (is_call n) h ≡ false → (ws : List Waiter) → OfEach (IsWaiter G ks h) ws
    → each (λ v. not (same_place (n, wanted_by c) v)) ws ≡ true
all_apart G ks h n a c once g new [] w = refl
all_apart G ks h n a c once g new (v ∷ ws) w =
    and_both (not (same_place (n, wanted_by c) v)) (each (λ v. not (same_place (n, wanted_by c) v)) ws) (not_false (same_place (n, wanted_by c) v) (line_apart G ks h n a c once g new v w.0))
    (all_apart G ks h n a c once g new ws w.1)

-- the call was entered, and no entry has it yet
fresh_apart : (ks : List EnteredCall) (h : List Entry) (k : EnteredCall) → has (is_call k.line) h ≡ false → AreApart ks h → AreApart (k ∷ ks) h
fresh_apart ks h k new o =
    let same : waiting (k ∷ ks) h ≡ waiting ks h = ap (λ (x : Half). x.waits) (fresh k ks h new) in record { apart = ap are_apart same ∙ o.apart; quiet = λ s. same ∙ o.quiet s }

called_apart : (ks : List EnteredCall) (h : List Entry) (n : ℕ) (a : ActorNo) (c : Call) (x : Answer) → call_at ks n ≡ Some c → each (λ v. not (same_place (n, wanted_by c) v)) (waiting ks h) ≡ true
    → (has is_sealed h ≡ true → is_waiting_answer x ≡ false) → AreApart ks h → AreApart ks (Called n a x ∷ h)
called_apart ks h n a c Wait e d f o =
    record {
      apart =
          insert_apart (n, wanted (call_at ks n)) (waiting ks h) (let P : Option Call → Type 0 = λ y. each (λ v. not (same_place (n, wanted y) v)) (waiting ks h) ≡ true in subst P (sym e) d) o.apart;
      quiet = λ s. absurd (not_both (is_waiting_answer Wait) refl (f s));
    }
called_apart ks h n a c x e d f o = record { apart = o.apart; quiet = λ s. o.quiet s }

entered_apart : (G : ℕ → ActorNo → Call → Type 0) (t : ℕ) (w : World) (n : ℕ) (a : ActorNo) (c : Call) (m : ℕ) → AreMadeOnce G → G n a c → has (is_call n) w.past ≡ false → OfEach (IsWaiter G w.calls w.past) (waiting w.calls w.past)
    → AreApart w.calls w.past → AreApart (record { line = n; actor = a; call = c } ∷ w.calls) (onto w.past (Called n a (answer_at t w c m) ∷ facts_if (has_facts (answer_at t w c m)) (facts_at t w c (answer_at t w c m))))
entered_apart G t w n a c m once g new ws o =
    let k : EnteredCall = record { line = n; actor = a; call = c } in
    let x = answer_at t w c m in
    let same : waiting (k ∷ w.calls) w.past ≡ waiting w.calls w.past = ap (λ (x : Half). x.waits) (fresh k w.calls w.past new) in
    let P : List Waiter → Type 0 = λ vs. each (λ v. not (same_place (n, wanted_by c) v)) vs ≡ true in
    idle_apart (k ∷ w.calls) (Called n a x ∷ w.past) (facts_if (has_facts x) (facts_at t w c x)) (idle_call t w c x)
    (called_apart (k ∷ w.calls) w.past n a c x (own_call n a c w.calls) (subst P (sym same) (all_apart G w.calls w.past n a c once g new (waiting w.calls w.past) ws)) (sealed_gives t w c m)
    (fresh_apart w.calls w.past k new o))

-- the seal comes where none waits
seal_apart : (w : World) → Seals (half w) (act_entries (half w)) → AreApart w.calls w.past → AreApart w.calls (onto w.past (act_entries (half w)))
seal_apart w s o =
    let none = none_waits (waiting w.calls w.past) (is_promoting (half w).seen) s.0 in
    let sealed : AreApart w.calls (Sealed ∷ w.past) = record { apart = o.apart; quiet = λ q. none.0 } in
    let P : List Entry → Type 0 = λ es. AreApart w.calls (onto w.past es) in
    subst P (sym s.2) (idle_apart w.calls (Sealed ∷ w.past) (commit_sent (half w).seen) (calm_idle (commit_sent (half w).seen) (calm_commit_sent (half w).seen)) sealed)

-- after each step
step_apart : (G : ℕ → ActorNo → Call → Type 0) (t : ℕ) (w : World) (m : Step) → AreMadeOnce G → MayCome G t w m → OfEach (IsWaiter G w.calls w.past) (waiting w.calls w.past) → AreApart w.calls w.past
    → AreApart (after t w m).calls (after t w m).past
unfolding after block_at
step_apart G t w (Calls n a c m) once q ws o = entered_apart G t w n a c m once q.0 q.1 ws o
step_apart G t w (Replies e x) once q ws o = idle_apart w.calls w.past (reply_entries (half w) e x) (calm_idle (reply_entries (half w) e x) (calm_reply (half w) e x)) o
step_apart G t w Acts once q ws o = by (act_kind (half w))
  where
    by : Calm (act_entries (half w)) ⊎ Seals (half w) (act_entries (half w)) → AreApart w.calls (onto w.past (act_entries (half w)))
    by (inl c) = idle_apart w.calls w.past (act_entries (half w)) (calm_idle (act_entries (half w)) c) o
    by (inr s) = seal_apart w s o
step_apart G t w (Coordinates x) once q ws o = idle_apart w.calls w.past (coordinates (core w) x) (calm_idle (coordinates (core w) x) (calm_coordinates (core w) x)) o
step_apart G t w (Delivers c d) once q ws o = idle_apart w.calls w.past (delivered t w c d (in_transit c d w.past)) (idle_delivered t w c d (in_transit c d w.past)) o
step_apart G t w Stops once q ws o = idle_apart w.calls w.past (Stopped ∷ []) refl o
step_apart G t w (Restarts found) once q ws o =
    idle_apart w.calls w.past (restarted (core w).stopped found) (calm_idle (restarted (core w).stopped found) (calm_restarted (core w).stopped found)) o

-- So in each world that steps made.
pub ran_apart : (G : ℕ → ActorNo → Call → Type 0) (t : ℕ) (ms : List Step) (w : World) → AreMadeOnce G → Ran G t ms w → AreApart w.calls w.past
ran_apart G t [] w once r = subst (AreApart w.calls) (sym r.1) (record { apart = refl; quiet = λ s. refl })
ran_apart G t (m ∷ ms) w once r = subst (λ (x : World). AreApart x.calls x.past) (sym r.3) (step_apart G t r.0 m once r.2 (ran_made G t ms r.0 r.1).waiters (ran_apart G t ms r.0 once r.1))
