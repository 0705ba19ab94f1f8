-- In each world that steps make, where the table stands: no ENLIST is sent before CREATED came, and until the promotion succeeds each that was sent is that of the
-- enlistment that is handed over.
use Rattle.std.proofs.Common.{◌≡◌, ℕ, ◌==◌, Bool, true, false, ◌&&◌, ◌⊎◌, inl, inr, List, [], ◌∷◌, ◌++◌, Option, Some, None, refl, ◌∙◌, ap, sym, subst}
use Rattle.std.specs.Prelude.{find, is_some, not, if◌then◌else◌}
use Rattle.std.specs.List.{flat_map}
use Rattle.std.proofs.lemmas.Bool.{eqb-true}
use Rattle.dtx_values.specs.declared.call.Call.{Call}
use Rattle.dtx_values.specs.declared.entry.Entry.{Entry}
use Rattle.dtx_values.specs.declared.entry.Entry.TheVariants.{Called, Down as Ended, Got, Promoted, Promoting, Sent, Stopped}
use Rattle.dtx_values.specs.declared.message.Conn.{Conn}
use Rattle.dtx_values.specs.declared.message.Conn.TheVariants.{Voter, Enl}
use Rattle.dtx_values.specs.declared.message.Dir.TheVariants.{Up, Down}
use Rattle.dtx_values.specs.declared.message.Message.{Message}
use Rattle.dtx_values.specs.declared.message.Message.TheVariants.{VoterCreated, EnlistEnlist, EnlistEnlisted}
use Rattle.dtx_values.specs.declared.number.ActorNo.{ActorNo}
use Rattle.dtx_values.specs.declared.number.EnlNo.{EnlNo}
use Rattle.dtx_values.specs.declared.number.RmNo.{RmNo}
use Rattle.dtx_values.specs.declared.words.Cause.{Cause}
use Rattle.dtx_model.specs.Words.{each, has, onto}
use Rattle.dtx_model.specs.Entries.{is_decision, is_promoted, is_sealed}
use Rattle.dtx_model.specs.Observed.{handover, observe, track}
use Rattle.dtx_model.specs.Promotes.{identifier_of, is_promoting}
use Rattle.dtx_model.specs.Waiting.{is_place_of}
use Rattle.dtx_model.specs.Wires.{in_transit, opens}
use Rattle.dtx_model.specs.Half.{Half, by_manager, enlist_sent, given, info, is_handed, over, promoted_by, sees}
use Rattle.dtx_model.specs.Half.{is_promoting as sees_promoting}
use Rattle.dtx_model.specs.Arrivals.{arrived, created, enlisted_at, hand_over, local_got, place_given}
use Rattle.dtx_model.specs.Acts.{act_entries, commit_sent}
use Rattle.dtx_model.specs.Coordinated.{core_got}
use Rattle.dtx_model.specs.Replies.{reply_entries}
use Rattle.dtx_model.specs.Facts.{facts_if, has_facts}
use Rattle.dtx_model.specs.World.{World, answer_at, core, facts_at, half}
use Rattle.dtx_model.specs.Steps.{Step, Calls, Replies, Acts, Coordinates, Delivers, Stops, Restarts, after, block_at, coordinates, delivered, ended_at, restarted}
use Rattle.dtx_model.specs.Caused.{Ran}
use Rattle.dtx_model.proofs.Bools.{and_left, and_right, not_both, not_true, or_case, or_second}
use Rattle.history_table.proofs.Tests.{eq_self, first_of_three}
use Rattle.history_table.proofs.Keeping.{Keeps, keeps_before, newest, third_of_three}
use Rattle.history_table.proofs.Scans.{has_after}
use Rattle.history_table.proofs.Sendings.{opened_promoting}
use Rattle.history_table.proofs.CalmBlocks.{Calm, Seals, act_kind, calm_arrived, calm_commit_sent, calm_coordinates, calm_core_got, calm_ended_at, calm_reply, calm_restarted}
use Rattle.history_table.proofs.CameOnce.{IsAfter, call_un, calm_un, is_unopening, step_after, unopened}

-- the table stands before a block, where it stands after it
pub keeps_within : (h es : List Entry) → Keeps (onto h es) → Keeps h
keeps_within h [] k = k
keeps_within h (x ∷ es) k = keeps_before x h (keeps_within (x ∷ h) es k)

-- what stands at the start, and which each step keeps where the table stands after it, stands in each world that steps made in which the table stands
pub ran_keeping : (P : List Entry → Type 0) → P [] → ((t : ℕ) (w : World) (m : Step) → Keeps w.past → Keeps (after t w m).past → P w.past → P (after t w m).past)
    → (G : ℕ → ActorNo → Call → Type 0) (t : ℕ) (ms : List Step) (w : World) → Ran G t ms w → Keeps w.past → P w.past
unfolding after
ran_keeping P start step G t [] w r k = subst P (sym r.1) start
ran_keeping P start step G t (m ∷ ms) w r k =
    let v = r.0 in
    let past : w.past ≡ onto v.past (block_at t v m) = ap (λ (x : World). x.past) r.3 in
    let now : Keeps (onto v.past (block_at t v m)) = subst Keeps past k in
    let before : Keeps v.past = keeps_within v.past (block_at t v m) now in
    subst P (sym past) (step t v m before now (ran_keeping P start step G t ms v r.1 before))

-- until the promotion succeeds, each ENLIST that was sent is that of the handover
abbrev pub IsHanding : List Entry → Type 0
IsHanding h = has is_promoted h ≡ false → (e : EnlNo) → has (opens (Enl e)) h ≡ true → is_handed (handover h) e.value ≡ true

-- an entry that sends none keeps it: before a promotion begins none was sent
one_handing : (x : Entry) (h : List Entry) → Keeps (x ∷ h) → is_unopening x ≡ true → IsHanding h → IsHanding (x ∷ h)
one_handing (Promoting c) h k u a = λ p e o.
    absurd
    (not_both (has is_promoting h) (opened_promoting (Enl e) h (keeps_before (Promoting c) h k) o)
    (not_true (has is_promoting h) (third_of_three (not (has is_decision h)) (not (has is_sealed h)) (not (has is_promoting h)) (newest (Promoting c) h k))))
one_handing x h k u a = λ p e o.
    a (or_second (is_promoted x) (has is_promoted h) p) e (or_case (opens (Enl e) x) (has (opens (Enl e)) h) (λ b. absurd (not_both (opens (Enl e) x) b (unopened e x u))) (λ b. b) o)

un_handing : (h es : List Entry) → Keeps (onto h es) → each is_unopening es ≡ true → IsHanding h → IsHanding (onto h es)
un_handing h [] k u a = a
un_handing h (x ∷ es) k u a =
    un_handing (x ∷ h) es k (and_right (is_unopening x) (each is_unopening es) u) (one_handing x h (keeps_within (x ∷ h) es k) (and_left (is_unopening x) (each is_unopening es) u) a)

-- where the promotion succeeded nothing is asked
promoted_handing : (h es : List Entry) → has is_promoted h ≡ true → IsHanding (onto h es)
promoted_handing h es t = λ p e o. absurd (not_both (has is_promoted (onto h es)) (has_after is_promoted h es t) p)

over_handing : (t : ℕ) (v : Half) (h : List Entry) → is_some v.seen.cause ≡ true → IsHanding (onto h (over t v))
over_handing t v h s = by v.seen.cause s
  where
    by : (o : Option Cause) → is_some o ≡ true → IsHanding (onto h (promoted_by t o ++ flat_map (given t) v.waits))
    by (Some c) q = promoted_handing (Promoted (identifier_of t) c ∷ h) (flat_map (given t) v.waits) refl
    by None q = absurd cc

-- the ENLIST of the handover
sent_handing : (t : ℕ) (e : EnlNo) (r : RmNo) (h : List Entry) → is_handed (handover h) e.value ≡ true → IsHanding h → IsHanding (Sent (Enl e) Up (EnlistEnlist (info t e r)) ∷ h)
sent_handing t e r h q a = λ p f o.
    or_case ((f.value == e.value) && true) (has (opens (Enl f)) h) (λ b. subst (λ n. is_handed (handover h) n ≡ true) (sym (eqb-true f.value e.value (and_left (f.value == e.value) true b))) q) (λ b. a p f b) o

manager_handing : (t : ℕ) (h : List Entry) (e : EnlNo) (ms : List (EnlNo × RmNo)) → is_handed (handover h) e.value ≡ true → IsHanding h → IsHanding (onto h (by_manager (enlist_sent t) ms e))
manager_handing t h e [] q a = a
manager_handing t h e (m ∷ ms) q a = step (e.value == m.0.value) (manager_handing t h e ms q a)
  where
    step : (b : Bool) → IsHanding (onto h (by_manager (enlist_sent t) ms e)) → IsHanding (onto h (if b then enlist_sent t e m.1 else by_manager (enlist_sent t) ms e))
    step true ih = sent_handing t e m.1 h q a
    step false ih = ih

-- The arrivals: h is the history with the message, and v what is known of it.
if_handing : (h : List Entry) (b : Bool) (xs ys : List Entry) → (b ≡ true → IsHanding (onto h xs)) → (b ≡ false → IsHanding (onto h ys)) → IsHanding (onto h (if b then xs else ys))
if_handing h true xs ys p q = p refl
if_handing h false xs ys p q = q refl

caused : (v : Half) → sees_promoting v.seen ≡ true → is_some v.seen.cause ≡ true
caused v q = first_of_three (is_some v.seen.cause) (not v.seen.promoted) (not v.seen.failed) q

handed_handing : (t : ℕ) (h : List Entry) (v : Half) (x : Option EnlNo) → x ≡ handover h → is_some v.seen.cause ≡ true → IsHanding h → IsHanding (onto h (hand_over t v x))
handed_handing t h v (Some e) q s a = manager_handing t h e v.managers (ap (λ o. is_handed o e.value) (sym q) ∙ eq_self e.value) a
handed_handing t h v None q s a = over_handing t v h s

created_handing : (t : ℕ) (h : List Entry) (v : Half) → v.seen.handover ≡ handover h → IsHanding h → IsHanding (onto h (created t v))
created_handing t h v s a =
    if_handing h (is_some v.seen.decided) [] (if sees_promoting v.seen then hand_over t v v.seen.handover else []) (λ q. a)
    (λ q. if_handing h (sees_promoting v.seen) (hand_over t v v.seen.handover) [] (λ w. handed_handing t h v v.seen.handover s (caused v w) a) (λ w. a))

enlisted_handing : (t : ℕ) (h : List Entry) (v : Half) (e : EnlNo) → v.seen.promoted ≡ has is_promoted h → IsHanding h → IsHanding (onto h (enlisted_at t v e))
enlisted_handing t h v e s a =
    let own = sees_promoting v.seen && is_handed v.seen.handover e.value in
    let placed = place_given (find (is_place_of e.value) v.waits) in
    if_handing h (is_some v.seen.decided) [] (if own then over t v else if v.seen.promoted then placed else []) (λ q. a)
    (λ q. if_handing h own (over t v) (if v.seen.promoted then placed else []) (λ w. over_handing t v h (caused v (and_left (sees_promoting v.seen) (is_handed v.seen.handover e.value) w)))
    (λ w. if_handing h v.seen.promoted placed [] (λ p. promoted_handing h placed (sym s ∙ p)) (λ p. a)))

got_handing : (t : ℕ) (w : World) (c : Conn) (m : Message) → Keeps (onto (Got c Down m ∷ w.past) (local_got t (half w) c m)) → IsHanding w.past → IsHanding (onto (Got c Down m ∷ w.past) (local_got t (half w) c m))
unfolding local_got observe track
got_handing t w Voter VoterCreated k a = created_handing t (Got Voter Down VoterCreated ∷ w.past) (sees (half w) (Got Voter Down VoterCreated)) refl a
got_handing t w (Enl e) EnlistEnlisted k a = enlisted_handing t (Got (Enl e) Down EnlistEnlisted ∷ w.past) (sees (half w) (Got (Enl e) Down EnlistEnlisted)) e refl a
got_handing t w c m k a =
    un_handing w.past (Got c Down m ∷ arrived t (sees (half w) (Got c Down m)) c m) k
    (calm_un (arrived t (sees (half w) (Got c Down m)) c m) (calm_arrived t (sees (half w) (Got c Down m)) c m refl)) a

down_handing : (t : ℕ) (w : World) (c : Conn) (ms : List Message) → Keeps (onto w.past (delivered t w c Down ms)) → IsHanding w.past → IsHanding (onto w.past (delivered t w c Down ms))
down_handing t w c [] k a = un_handing w.past (Ended c Down ∷ ended_at w c Down) k (calm_un (ended_at w c Down) (calm_ended_at w c Down)) a
down_handing t w c (m ∷ ms) k a = got_handing t w c m k a

up_handing : (t : ℕ) (w : World) (c : Conn) (ms : List Message) → Keeps (onto w.past (delivered t w c Up ms)) → IsHanding w.past → IsHanding (onto w.past (delivered t w c Up ms))
up_handing t w c [] k a = un_handing w.past (Ended c Up ∷ ended_at w c Up) k (calm_un (ended_at w c Up) (calm_ended_at w c Up)) a
up_handing t w c (m ∷ ms) k a =
    un_handing w.past (Got c Up m ∷ core_got (identifier_of t) (core w) c m) k (calm_un (core_got (identifier_of t) (core w) c m) (calm_core_got (identifier_of t) (core w) c m)) a

-- after each step
step_handing : (t : ℕ) (w : World) (m : Step) → Keeps w.past → Keeps (after t w m).past → IsHanding w.past → IsHanding (after t w m).past
unfolding after block_at observe
step_handing t w m k n a = by (has is_promoted w.past) refl
  where
    seals : Calm (act_entries (half w)) ⊎ Seals (half w) (act_entries (half w)) → each is_unopening (act_entries (half w)) ≡ true
    seals (inl c) = calm_un (act_entries (half w)) c
    seals (inr s) = let P : List Entry → Type 0 = λ es. each is_unopening es ≡ true in subst P (sym s.2) (calm_un (commit_sent (half w).seen) (calm_commit_sent (half w).seen))

    open_step : (m : Step) → has is_promoted w.past ≡ false → Keeps (onto w.past (block_at t w m)) → IsHanding (onto w.past (block_at t w m))
    open_step (Calls n x c j) f k = un_handing w.past (Called n x (answer_at t w c j) ∷ facts_if (has_facts (answer_at t w c j)) (facts_at t w c (answer_at t w c j))) k (call_un t w c (answer_at t w c j) f) a
    open_step (Replies e r) f k = un_handing w.past (reply_entries (half w) e r) k (calm_un (reply_entries (half w) e r) (calm_reply (half w) e r)) a
    open_step Acts f k = un_handing w.past (act_entries (half w)) k (seals (act_kind (half w))) a
    open_step (Coordinates x) f k = un_handing w.past (coordinates (core w) x) k (calm_un (coordinates (core w) x) (calm_coordinates (core w) x)) a
    open_step (Delivers c Up) f k = up_handing t w c (in_transit c Up w.past) k a
    open_step (Delivers c Down) f k = down_handing t w c (in_transit c Down w.past) k a
    open_step Stops f k = un_handing w.past (Stopped ∷ []) k refl a
    open_step (Restarts found) f k = un_handing w.past (restarted (core w).stopped found) k (calm_un (restarted (core w).stopped found) (calm_restarted (core w).stopped found)) a

    by : (b : Bool) → has is_promoted w.past ≡ b → IsHanding (onto w.past (block_at t w m))
    by true e = promoted_handing w.past (block_at t w m) e
    by false e = open_step m e n

-- So in each world that steps made: until the promotion succeeds each ENLIST is that of the handover.
pub ran_handing : (G : ℕ → ActorNo → Call → Type 0) (t : ℕ) (ms : List Step) (w : World) → Ran G t ms w → Keeps w.past → IsHanding w.past
ran_handing G t ms w r k = ran_keeping IsHanding (λ p e o. absurd cc) step_handing G t ms w r k

-- And none is sent before CREATED came.
pub ran_after : (G : ℕ → ActorNo → Call → Type 0) (t : ℕ) (ms : List Step) (w : World) → Ran G t ms w → Keeps w.past → IsAfter w.past
ran_after G t ms w r k = ran_keeping IsAfter (λ e o. absurd cc) (λ t w m k n a. step_after t w m k a) G t ms w r k
