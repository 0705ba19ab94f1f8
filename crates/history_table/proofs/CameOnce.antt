-- What comes down once at each place, and when: BEGUN, CREATED and PREPARE come once, and no ENLIST is sent before CREATED came. So after each step.
use Rattle.std.proofs.Common.{◌≡◌, ℕ, ◌==◌, Bool, true, false, ◌&&◌, ◌||◌, ◌⊎◌, inl, inr, List, [], ◌∷◌, Option, Some, None, refl, sym, subst, ap, ◌∙◌}
use Rattle.std.specs.Prelude.{not, if◌then◌else◌}
use Rattle.std.proofs.lemmas.Bool.{false_from_ne_true}
use Rattle.dtx_values.specs.declared.call.Call.{Call}
use Rattle.dtx_values.specs.declared.call.Call.TheVariants.{Volatile, Durable, Promotable, Marshal}
use Rattle.dtx_values.specs.declared.entry.Answer.{Answer}
use Rattle.dtx_values.specs.declared.entry.Answer.TheVariants.{Wait}
use Rattle.dtx_values.specs.declared.entry.Entry.{Entry}
use Rattle.dtx_values.specs.declared.entry.Entry.TheVariants.{Called, Down as Ended, Got, Promoting, Sent, Stopped}
use Rattle.dtx_values.specs.declared.message.Conn.{Conn}
use Rattle.dtx_values.specs.declared.message.Conn.TheVariants.{Begin, Voter, Enl, Again}
use Rattle.dtx_values.specs.declared.message.Dir.TheVariants.{Up, Down}
use Rattle.dtx_values.specs.declared.message.Message.{Message}
use Rattle.dtx_values.specs.declared.message.Message.TheVariants.{BeginBegin, VoterCreated, EnlistEnlist, EnlistEnlisted, EnlistPrepare}
use Rattle.dtx_values.specs.declared.number.EnlNo.{EnlNo}
use Rattle.dtx_values.specs.declared.number.RmNo.{RmNo}
use Rattle.dtx_values.specs.declared.words.Cause.{Cause}
use Rattle.dtx_values.specs.declared.words.Cause.TheVariants.{Marshal as MarshalCause}
use Rattle.dtx_values.specs.Class.{is_promotable}
use Rattle.dtx_values.specs.Lines.{is_opening}
use Rattle.dtx_values.specs.Owners.{cause_of}
use Rattle.dtx_values.specs.Support.{is_single}
use Rattle.dtx_model.specs.Words.{always, each, has, onto}
use Rattle.dtx_model.specs.Entries.{is_asked, is_promoted}
use Rattle.dtx_model.specs.Observed.{observe}
use Rattle.dtx_model.specs.Promotes.{identifier_of, is_created_got}
use Rattle.dtx_model.specs.Wires.{MayCross, in_transit, is_next, opens}
use Rattle.dtx_model.specs.Half.{Half, enlist_sent, is_promoting as sees_promoting, sees}
use Rattle.dtx_model.specs.Arrivals.{arrived, local_got}
use Rattle.dtx_model.specs.Acts.{act_entries, commit_sent}
use Rattle.dtx_model.specs.Coordinated.{core_got}
use Rattle.dtx_model.specs.Replies.{reply_entries}
use Rattle.dtx_model.specs.Facts.{begin_promotion, durable_facts, facts_if, has_facts}
use Rattle.dtx_model.specs.World.{World, answer_at, core, facts_at, half}
use Rattle.dtx_model.specs.Steps.{Step, Calls, Replies, Acts, Coordinates, Delivers, Stops, Restarts, after, block_at, coordinates, delivered, ended_at, restarted}
use Rattle.dtx_model.proofs.Bools.{and_left, and_never, and_right, not_both, or_case, or_false, or_right}
use Rattle.history_table.proofs.Scans.{each_more}
use Rattle.history_table.proofs.Table.{is_prepare_got, stands_volatile}
use Rattle.history_table.proofs.Keeping.{Keeps, before}
use Rattle.history_table.proofs.Crossed.{got_sent}
use Rattle.history_table.proofs.Standing.{prepared_if_asked, unvolatile_if_opened}
use Rattle.history_table.proofs.Deciding.{stays}
use Rattle.history_table.proofs.Arrivals.{ComeOnce}
use Rattle.history_table.proofs.Leading.{opening_was_sent}
use Rattle.history_table.proofs.CoreKnown.{sent_opened_there}
use Rattle.history_table.proofs.CoreBlocks.{promoted_created}
use Rattle.history_table.proofs.CalmBlocks.{Calm, Seals, act_kind, calm_arrived, calm_called, calm_commit_sent, calm_coordinates, calm_core_got, calm_ended_at, calm_reply, calm_restarted, is_slow}
use Rattle.history_table.proofs.Welcomes.{begun_new, created_new, is_direct}
use Rattle.history_table.proofs.Asking.{IsAsking, prepare_new}
use Rattle.history_table.proofs.Messages.{ENLIST}
use Rattle.dtx_model.proofs.Quiet.{takes_next}

no : false ≡ true → ⊥
no e = absurd cc

-- no ENLIST is sent before CREATED came
abbrev pub IsAfter : List Entry → Type 0
IsAfter h = (e : EnlNo) → has (opens (Enl e)) h ≡ true → has is_created_got h ≡ true

-- the entry sends no ENLIST
abbrev pub is_unopening : Entry → Bool
is_unopening (Sent c Up m) = not (ENLIST m)
is_unopening _ = true

slow_un : (x : Entry) → is_slow x ≡ true → is_unopening x ≡ true
slow_un (Sent c Up m) t = t
slow_un (Sent c Down m) t = refl
slow_un _ t = refl

not_opening : (e : EnlNo) (m : Message) → not (ENLIST m) ≡ true → is_opening (Enl e) m ≡ false
not_opening e (EnlistEnlist i) t = absurd (no t)
not_opening e _ t = refl

pub unopened : (e : EnlNo) (x : Entry) → is_unopening x ≡ true → opens (Enl e) x ≡ false
unopened e (Sent (Enl f) Up m) t = ap (λ b. (e.value == f.value) && b) (not_opening f m t) ∙ and_never (e.value == f.value)
unopened e (Sent Begin Up m) t = refl
unopened e (Sent Voter Up m) t = refl
unopened e (Sent (Again f) Up m) t = refl
unopened e (Sent c Down m) t = refl
unopened e _ t = refl

un_onto : (h es : List Entry) → each is_unopening es ≡ true → IsAfter h → IsAfter (onto h es)
un_onto h [] u a = a
un_onto h (x ∷ es) u a =
    un_onto (x ∷ h) es (and_right (is_unopening x) (each is_unopening es) u)
    (λ e t. or_right (is_created_got x) (has is_created_got h)
    (or_case (opens (Enl e) x) (has (opens (Enl e)) h) (λ b. absurd (not_both (opens (Enl e) x) b (unopened e x (and_left (is_unopening x) (each is_unopening es) u)))) (λ b. a e b) t))

pub calm_un : (es : List Entry) → Calm es → each is_unopening es ≡ true
calm_un es c = each_more is_slow is_unopening slow_un es c.slow

there : (h es : List Entry) → has is_created_got h ≡ true → IsAfter (onto h es)
there h es t = λ e o. stays is_created_got h es t

-- while CREATED didn't come it isn't promoted
unpromoted : (h : List Entry) → Keeps h → has is_created_got h ≡ false → has is_promoted h ≡ false
unpromoted h k n = false_from_ne_true (has is_promoted h) (λ t. not_both (has is_created_got h) (before is_promoted is_created_got promoted_created h k t) n)

begin_un : (v : Half) (o : Option Cause) → each is_unopening (begin_promotion v o) ≡ true
begin_un v None = refl
begin_un v (Some c) = by (has (λ x. is_promotable x.class) v.seen.table)
  where
    by : (b : Bool) → each is_unopening (Promoting c ∷ (if b then [] else Sent Begin Up BeginBegin ∷ [])) ≡ true
    by true = refl
    by false = refl

unless_un : (v : Half) (o : Option Cause) (b : Bool) → each is_unopening (if b then [] else begin_promotion v o) ≡ true
unless_un v o true = refl
unless_un v o false = begin_un v o

facts_un : (b : Bool) (es : List Entry) → each is_unopening es ≡ true → each is_unopening (facts_if b es) ≡ true
facts_un true es u = u
facts_un false es u = refl

durable_un : (t : ℕ) (v : Half) (e : EnlNo) (r : RmNo) (s : Bool) (x : Answer) → v.seen.promoted ≡ false → each is_unopening (durable_facts t v e r s x) ≡ true
durable_un t v e r s Wait p = by v.seen.promoted p
  where
    by : (b : Bool) → b ≡ false → each is_unopening (if b then enlist_sent t e r else if sees_promoting v.seen then [] else begin_promotion v (cause_of v.seen.table s)) ≡ true
    by true q = absurd cc
    by false q = unless_un v (cause_of v.seen.table s) (sees_promoting v.seen)
durable_un t v e r s _ p = refl

pub call_un : (t : ℕ) (w : World) (c : Call) (x : Answer) → (half w).seen.promoted ≡ false → each is_unopening (facts_if (has_facts x) (facts_at t w c x)) ≡ true
call_un t w (Volatile u e o v) x p = facts_un (has_facts x) (facts_at t w (Volatile u e o v) x) refl
call_un t w (Promotable u e r v o y) x p = facts_un (has_facts x) (facts_at t w (Promotable u e r v o y) x) refl
call_un t w (Marshal u) x p = facts_un (has_facts x) (facts_at t w (Marshal u) x) (unless_un (half w) (Some MarshalCause) (sees_promoting (half w).seen))
call_un t w (Durable u e r s) x p = facts_un (has_facts x) (facts_at t w (Durable u e r s) x) (durable_un t (half w) e r (is_single s) x p)
call_un t w c x p = calm_un (facts_if (has_facts x) (facts_at t w c x)) (calm_called t w c x refl)

-- what comes down on a connection that was opened
down_opened : (c : Conn) (m : Message) (h : List Entry) → Keeps h → MayCross h (Got c Down m) → has (opens c) h ≡ true
down_opened c m h k n = opening_was_sent c h k.wires (sent_opened_there c (λ y. true) h k (got_sent c Down m (λ y. true) h n refl))

got_after : (t : ℕ) (w : World) (c : Conn) (m : Message) → Keeps w.past → MayCross w.past (Got c Down m) → has is_created_got w.past ≡ false → IsAfter w.past
    → IsAfter (onto (Got c Down m ∷ w.past) (local_got t (half w) c m))
unfolding local_got
got_after t w Voter VoterCreated k n f a = there (Got Voter Down VoterCreated ∷ w.past) (local_got t (half w) Voter VoterCreated) refl
got_after t w (Enl e) EnlistEnlisted k n f a = absurd (not_both (has is_created_got w.past) (a e (down_opened (Enl e) EnlistEnlisted w.past k n)) f)
got_after t w c m k n f a =
    un_onto w.past (Got c Down m ∷ arrived t (sees (half w) (Got c Down m)) c m) (calm_un (arrived t (sees (half w) (Got c Down m)) c m) (calm_arrived t (sees (half w) (Got c Down m)) c m refl)) a

down_after : (t : ℕ) (w : World) (c : Conn) (ms : List Message) → in_transit c Down w.past ≡ ms → Keeps w.past → has is_created_got w.past ≡ false → IsAfter w.past → IsAfter (onto w.past (delivered t w c Down ms))
down_after t w c [] q k f a = un_onto w.past (Ended c Down ∷ ended_at w c Down) (calm_un (ended_at w c Down) (calm_ended_at w c Down)) a
down_after t w c (m ∷ ms) q k f a = got_after t w c m k (takes_next m ms (in_transit c Down w.past) q) f a

up_after : (t : ℕ) (w : World) (c : Conn) (ms : List Message) → IsAfter w.past → IsAfter (onto w.past (delivered t w c Up ms))
up_after t w c [] a = un_onto w.past (Ended c Up ∷ ended_at w c Up) (calm_un (ended_at w c Up) (calm_ended_at w c Up)) a
up_after t w c (m ∷ ms) a = un_onto w.past (Got c Up m ∷ core_got (identifier_of t) (core w) c m) (calm_un (core_got (identifier_of t) (core w) c m) (calm_core_got (identifier_of t) (core w) c m)) a

pub step_after : (t : ℕ) (w : World) (m : Step) → Keeps w.past → IsAfter w.past → IsAfter (after t w m).past
unfolding after block_at observe
step_after t w m k a = by (has is_created_got w.past) refl
  where
    seals : Calm (act_entries (half w)) ⊎ Seals (half w) (act_entries (half w)) → each is_unopening (act_entries (half w)) ≡ true
    seals (inl c) = calm_un (act_entries (half w)) c
    seals (inr s) = let P : List Entry → Type 0 = λ es. each is_unopening es ≡ true in subst P (sym s.2) (calm_un (commit_sent (half w).seen) (calm_commit_sent (half w).seen))

    open_step : (m : Step) → has is_created_got w.past ≡ false → IsAfter (onto w.past (block_at t w m))
    open_step (Calls n x c j) f = un_onto w.past (Called n x (answer_at t w c j) ∷ facts_if (has_facts (answer_at t w c j)) (facts_at t w c (answer_at t w c j))) (call_un t w c (answer_at t w c j) (unpromoted w.past k f)) a
    open_step (Replies e r) f = un_onto w.past (reply_entries (half w) e r) (calm_un (reply_entries (half w) e r) (calm_reply (half w) e r)) a
    open_step Acts f = un_onto w.past (act_entries (half w)) (seals (act_kind (half w))) a
    open_step (Coordinates x) f = un_onto w.past (coordinates (core w) x) (calm_un (coordinates (core w) x) (calm_coordinates (core w) x)) a
    open_step (Delivers c Up) f = up_after t w c (in_transit c Up w.past) a
    open_step (Delivers c Down) f = down_after t w c (in_transit c Down w.past) refl k f a
    open_step Stops f = un_onto w.past (Stopped ∷ []) refl a
    open_step (Restarts found) f = un_onto w.past (restarted (core w).stopped found) (calm_un (restarted (core w).stopped found) (calm_restarted (core w).stopped found)) a

    by : (b : Bool) → has is_created_got w.past ≡ b → IsAfter (onto w.past (block_at t w m))
    by true e = there w.past (block_at t w m) e
    by false e = open_step m e

-- nobody whose PREPARE comes was asked
asked_new : (e : EnlNo) (h : List Entry) → Keeps h → IsAsking h → is_next EnlistPrepare (in_transit (Enl e) Down h) → has (is_asked e.value) h ≡ false
asked_new e h k i n =
    let volatile = unvolatile_if_opened e h k (down_opened (Enl e) EnlistPrepare h k n) in
    false_from_ne_true (has (is_asked e.value) h)
    (λ t. not_both (stands_volatile e.value h || has (is_prepare_got e.value) h) (prepared_if_asked e.value h k t)
    (or_false (stands_volatile e.value h) (has (is_prepare_got e.value) h) volatile (prepare_new e h k i n)))

pub come_once : (h : List Entry) → Keeps h → always is_direct h ≡ true → IsAsking h → IsAfter h → ComeOnce h
come_once h k d i a =
    record { begun = λ u n. begun_new u h k d n; created = λ n. created_new h k d n; prepared = λ e n. asked_new e h k i n; after_created = a }
