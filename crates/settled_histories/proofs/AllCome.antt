-- In each world that steps made, whose history keeps the table: once it is sealed, each enlistment whose connection was opened stands, and came to the coordinator.
use Rattle.std.proofs.Common.{◌≡◌, ℕ, ◌==◌, Bool, true, false, ◌&&◌, ◌||◌, ◌⊎◌, inl, inr, List, [], ◌∷◌, Option, Some, None, refl, ◌∙◌, ap, sym, subst}
use Rattle.std.specs.Prelude.{find, is_some, if◌then◌else◌}
use Rattle.std.proofs.lemmas.Bool.{eqb-true, false_from_ne_true, or_left}
use Rattle.dtx_values.specs.declared.call.Call.{Call}
use Rattle.dtx_values.specs.declared.call.Call.TheVariants.{Durable, Marshal, Promotable, Volatile}
use Rattle.dtx_values.specs.declared.entry.Answer.{Answer}
use Rattle.dtx_values.specs.declared.entry.Answer.TheVariants.{TooLate, Wait}
use Rattle.dtx_values.specs.declared.entry.Ask.TheVariants.{Promote, Single}
use Rattle.dtx_values.specs.declared.entry.Entry.{Entry}
use Rattle.dtx_values.specs.declared.entry.Entry.TheVariants.{Asked, Called, Down as Ended, Enlisted, Got, Promoting, Restarted, Sealed, Sent, Stopped}
use Rattle.dtx_values.specs.declared.message.Conn.{Conn}
use Rattle.dtx_values.specs.declared.message.Conn.TheVariants.{Begin, Voter, Enl}
use Rattle.dtx_values.specs.declared.message.Dir.{Dir}
use Rattle.dtx_values.specs.declared.message.Dir.TheVariants.{Up, Down}
use Rattle.dtx_values.specs.declared.message.Message.{Message}
use Rattle.dtx_values.specs.declared.message.Message.TheVariants.{BeginBegin, EnlistEnlisted, VoterCreated}
use Rattle.dtx_values.specs.declared.number.ActorNo.{ActorNo}
use Rattle.dtx_values.specs.declared.number.EnlNo.{EnlNo}
use Rattle.dtx_values.specs.declared.number.RmNo.{RmNo}
use Rattle.dtx_values.specs.declared.words.Cause.{Cause}
use Rattle.dtx_values.specs.declared.words.Cause.TheVariants.{Marshal as MarshalCause}
use Rattle.dtx_values.specs.declared.words.Class.{Class}
use Rattle.dtx_values.specs.declared.words.Outcome.{Outcome}
use Rattle.dtx_values.specs.Class.{is_promotable, is_volatile}
use Rattle.dtx_values.specs.Support.{is_single}
use Rattle.dtx_model.specs.Words.{each, has, latest, onto}
use Rattle.dtx_model.specs.Entries.{decision_of, is_promoted, is_sealed}
use Rattle.dtx_model.specs.Observed.{observe, track}
use Rattle.dtx_model.specs.Outcome.{enlisted}
use Rattle.dtx_model.specs.Promotes.{identifier_of, is_under_way}
use Rattle.dtx_model.specs.Wires.{in_transit, opens}
use Rattle.dtx_model.specs.declared.waiting.Wanted.TheVariants.{Identifier, Place}
use Rattle.dtx_model.specs.Waiting.{Waiter, is_place_of, waiting}
use Rattle.dtx_model.specs.Half.{Half, is_handed, is_promoting as sees_promoting, over, sees}
use Rattle.dtx_model.specs.Arrivals.{arrived, hand_over, local_got, place_given}
use Rattle.dtx_model.specs.Acts.{act_entries, commit_sent}
use Rattle.dtx_model.specs.Answers.{if_begun, local_answer, unless_ended}
use Rattle.dtx_model.specs.Coordinated.{core_got}
use Rattle.dtx_model.specs.Facts.{begin_promotion, durable_facts, facts_if, has_facts}
use Rattle.dtx_model.specs.Replies.{reply_entries}
use Rattle.dtx_model.specs.World.{World, answer_at, core, facts_at, half}
use Rattle.dtx_model.specs.Steps.{Step, Calls, Replies, Acts, Coordinates, Delivers, Stops, Restarts, after, block_at, coordinates, delivered, ended_at, restarted}
use Rattle.dtx_model.specs.Caused.{Ran}
use Rattle.dtx_model.proofs.Bools.{and_both, and_left, and_right, not_both, or_case, or_first, or_right, or_second}
use Rattle.history_table.proofs.CalmBlocks.{Calm, Seals as SealsCalmly, act_kind as calm_kind, calm_arrived, calm_called, calm_commit_sent, calm_coordinates, calm_core_got, calm_ended_at, calm_reply}
use Rattle.history_table.proofs.CameOnce.{calm_un, is_unopening, unopened}
use Rattle.history_table.proofs.EntryTests.{is_enlisted, is_volatile_of}
use Rattle.history_table.proofs.HalfKnows.{way_seen}
use Rattle.history_table.proofs.Handing.{keeps_within}
use Rattle.history_table.proofs.Keeping.{Keeps}
use Rattle.history_table.proofs.Recording.{come_if_promoted}
use Rattle.history_table.proofs.Standing.{unvolatile_if_opened}
use Rattle.history_table.proofs.Table.{is_enlist_got}
use Rattle.history_table.proofs.Undecided.{way_unsealed}
use Rattle.history_table.proofs.Upward.{none_waits}
use Rattle.history_table.proofs.QuietBlocks.{is_quiet, q_coordinates}
use Rattle.settled_histories.proofs.Coming.{AreComing}
use Rattle.settled_histories.proofs.QuietKinds.{ActKind, act_kind, q_called, q_commit_sent, q_core_got, q_ended_at, q_local_got, q_reply}
use Rattle.settled_histories.proofs.SealedRows.{IsJoined, coming_of, quiet_unsealed, ran_joined, seal_stands}

-- once it is sealed, each whose connection was opened stands
abbrev pub IsStood : List Entry → Type 0
IsStood h = has is_sealed h ≡ true → (e : EnlNo) → has (opens (Enl e)) h ≡ true → has (is_enlisted e.value) h ≡ true

-- so it is at each time
abbrev pub AreStood : List Entry → Type 0
AreStood [] = Unit {0}
AreStood (x ∷ h) = IsStood (x ∷ h) × AreStood h

pub now_stood : (h : List Entry) → AreStood h → IsStood h
now_stood [] a = λ s. absurd cc
now_stood (x ∷ h) a = a.0

-- the entry is no seal and opens no enlistment's connection
stood_more : (x : Entry) (h : List Entry) → is_sealed x ≡ false → is_unopening x ≡ true → AreStood h → AreStood (x ∷ h)
stood_more x h u n a = (
  (λ s e o. or_right (is_enlisted e.value x) (has (is_enlisted e.value) h)
      (now_stood h a (or_case (is_sealed x) (has is_sealed h) (λ t. absurd (not_both (is_sealed x) t u)) (λ t. t) s) e
      (or_case (opens (Enl e) x) (has (opens (Enl e)) h) (λ t. absurd (not_both (opens (Enl e) x) t (unopened e x n))) (λ t. t) o))),
  a,
)

still_stood : (h es : List Entry) → each is_quiet es ≡ true → each is_unopening es ≡ true → AreStood h → AreStood (onto h es)
still_stood h [] q n a = a
still_stood h (x ∷ es) q n a =
    still_stood (x ∷ h) es (and_right (is_quiet x) (each is_quiet es) q) (and_right (is_unopening x) (each is_unopening es) n)
    (stood_more x h (quiet_unsealed x (and_left (is_quiet x) (each is_quiet es) q)) (and_left (is_unopening x) (each is_unopening es) n) a)

head_stood : (x : Entry) (h es : List Entry) → is_sealed x ≡ false → is_unopening x ≡ true → each is_quiet es ≡ true → each is_unopening es ≡ true → AreStood h → AreStood (onto (x ∷ h) es)
head_stood x h es s u q n a = still_stood (x ∷ h) es q n (stood_more x h s u a)

-- before the seal nothing is asked
unsealed_more : (x : Entry) (h : List Entry) → is_sealed x ≡ false → has is_sealed h ≡ false → AreStood h → AreStood (x ∷ h)
unsealed_more x h u n a = ((λ s e o. absurd (or_case (is_sealed x) (has is_sealed h) (λ t. not_both (is_sealed x) t u) (λ t. not_both (has is_sealed h) t n) s)), a)

none_sealed : (x : Entry) (h : List Entry) → is_sealed x ≡ false → has is_sealed h ≡ false → has is_sealed (x ∷ h) ≡ false
none_sealed x h u n = ap (λ b. b || has is_sealed h) u ∙ n

unsealed_stood : (h es : List Entry) → each is_quiet es ≡ true → has is_sealed h ≡ false → AreStood h → AreStood (onto h es)
unsealed_stood h [] q n a = a
unsealed_stood h (x ∷ es) q n a =
    let u = quiet_unsealed x (and_left (is_quiet x) (each is_quiet es) q) in
    unsealed_stood (x ∷ h) es (and_right (is_quiet x) (each is_quiet es) q) (none_sealed x h u n) (unsealed_more x h u n a)

-- a block, before the seal or after it
block_stood : (x : Entry) (h es : List Entry) → is_sealed x ≡ false → is_unopening x ≡ true → each is_quiet es ≡ true → (has is_sealed h ≡ true → each is_unopening es ≡ true) → AreStood h → AreStood (onto (x ∷ h) es)
block_stood x h es s u q f a = by (has is_sealed h) refl
  where
    by : (b : Bool) → has is_sealed h ≡ b → AreStood (onto (x ∷ h) es)
    by true t = head_stood x h es s u q (f t) a
    by false t = unsealed_stood (x ∷ h) es q (none_sealed x h s t) (unsealed_more x h s t a)

-- The calls.
begin_un : (v : Half) (o : Option Cause) → each is_unopening (begin_promotion v o) ≡ true
begin_un v None = refl
begin_un v (Some c) = by (has (λ x. is_promotable x.class) v.seen.table)
  where
    by : (b : Bool) → each is_unopening (Promoting c ∷ (if b then [] else Sent Begin Up BeginBegin ∷ [])) ≡ true
    by true = refl
    by false = refl

unless_un : (v : Half) (o : Option Cause) (b : Bool) → each is_unopening (if b then [] else begin_promotion v o) ≡ true
unless_un v o true = refl
unless_un v o false = begin_un v o

facts_un : (b : Bool) (es : List Entry) → each is_unopening es ≡ true → each is_unopening (facts_if b es) ≡ true
facts_un true es u = u
facts_un false es u = refl

-- after the seal no call of a durable waits
late_wait : (l : Option ℕ) (d : Option Outcome) (s : Bool) (y : Answer) → if_begun l (unless_ended d (if s then TooLate else y)) ≡ Wait → s ≡ false
late_wait None d s y e = absurd cc
late_wait (Some l) (Some o) s y e = absurd cc
late_wait (Some l) None true y e = absurd cc
late_wait (Some l) None false y e = refl

durable_un : (t : ℕ) (v : Half) (e : EnlNo) (r : RmNo) (s : Bool) (x : Answer) → (x ≡ Wait → ⊥) → each is_unopening (durable_facts t v e r s x) ≡ true
durable_un t v e r s Wait n = absurd (n refl)
durable_un t v e r s _ n = refl

call_un : (t : ℕ) (w : World) (c : Call) (m : ℕ) → has is_sealed w.past ≡ true → each is_unopening (facts_if (has_facts (answer_at t w c m)) (facts_at t w c (answer_at t w c m))) ≡ true
unfolding answer_at local_answer observe
call_un t w (Volatile u e o v) m s = facts_un (has_facts (answer_at t w (Volatile u e o v) m)) (facts_at t w (Volatile u e o v) (answer_at t w (Volatile u e o v) m)) refl
call_un t w (Promotable u e r v o y) m s = facts_un (has_facts (answer_at t w (Promotable u e r v o y) m)) (facts_at t w (Promotable u e r v o y) (answer_at t w (Promotable u e r v o y) m)) refl
call_un t w (Marshal u) m s =
    facts_un (has_facts (answer_at t w (Marshal u) m)) (facts_at t w (Marshal u) (answer_at t w (Marshal u) m)) (unless_un (half w) (Some MarshalCause) (sees_promoting (half w).seen))
call_un t w (Durable u e r p) m s =
    let x = answer_at t w (Durable u e r p) m in
    facts_un (has_facts x) (facts_at t w (Durable u e r p) x) (durable_un t (half w) e r (is_single p) x (λ q. not_both (has is_sealed w.past) s (late_wait (half w).seen.limit (half w).seen.decided (has is_sealed w.past) _ q)))
call_un t w c m s = let x = answer_at t w c m in calm_un (facts_if (has_facts x) (facts_at t w c x)) (calm_called t w c x refl)

-- What comes down. After the seal no promotion is under way.
sealed_way : (h : List Entry) → Keeps h → has is_sealed h ≡ true → is_under_way h ≡ false
sealed_way h k s = false_from_ne_true (is_under_way h) (λ w. not_both (has is_sealed h) s (way_unsealed h k w))

created_un : (d p : Bool) (es : List Entry) → p ≡ false → each is_unopening (if d then [] else if p then es else []) ≡ true
created_un true p es n = refl
created_un false true es n = absurd cc
created_un false false es n = refl

place_un : (o : Option Waiter) → each is_unopening (place_given o) ≡ true
place_un (Some (n, Place e r c)) = refl
place_un (Some (n, Identifier)) = refl
place_un None = refl

enlisted_un : (d p g o : Bool) (es fs : List Entry) → p ≡ false → each is_unopening fs ≡ true → each is_unopening (if d then [] else if p && g then es else if o then fs else []) ≡ true
enlisted_un true p g o es fs n u = refl
enlisted_un false true g o es fs n u = absurd cc
enlisted_un false false g true es fs n u = u
enlisted_un false false g false es fs n u = refl

down_un : (t : ℕ) (w : World) (c : Conn) (m : Message) → Keeps w.past → has is_sealed w.past ≡ true → each is_unopening (local_got t (half w) c m) ≡ true
unfolding local_got observe track
down_un t w Voter VoterCreated k s =
    let v = sees (half w) (Got Voter Down VoterCreated) in
    created_un (is_some (latest decision_of w.past)) (sees_promoting (observe w.past)) (hand_over t v v.seen.handover) (way_seen w.past ∙ sealed_way w.past k s)
down_un t w (Enl e) EnlistEnlisted k s =
    let v = sees (half w) (Got (Enl e) Down EnlistEnlisted) in
    enlisted_un (is_some (latest decision_of w.past)) (sees_promoting (observe w.past)) (is_handed v.seen.handover e.value) (has is_promoted w.past) (over t v) (place_given (find (is_place_of e.value) v.waits))
    (way_seen w.past ∙ sealed_way w.past k s) (place_un (find (is_place_of e.value) v.waits))
down_un t w c m k s = calm_un (arrived t (sees (half w) (Got c Down m)) c m) (calm_arrived t (sees (half w) (Got c Down m)) c m refl)

delivered_stood : (t : ℕ) (w : World) (c : Conn) (d : Dir) (ms : List Message) → Keeps w.past → AreStood w.past → AreStood (onto w.past (delivered t w c d ms))
delivered_stood t w c d [] k a = head_stood (Ended c d) w.past (ended_at w c d) refl refl (q_ended_at w c d).proof (calm_un (ended_at w c d) (calm_ended_at w c d)) a
delivered_stood t w c Up (m ∷ ms) k a =
    head_stood (Got c Up m) w.past (core_got (identifier_of t) (core w) c m) refl refl (q_core_got (identifier_of t) (core w) c m).proof
    (calm_un (core_got (identifier_of t) (core w) c m) (calm_core_got (identifier_of t) (core w) c m)) a
delivered_stood t w c Down (m ∷ ms) k a = block_stood (Got c Down m) w.past (local_got t (half w) c m) refl refl (q_local_got t (half w) c m).proof (down_un t w c m k) a

-- The local act.
commit_un : (w : World) → each is_unopening (commit_sent (half w).seen) ≡ true
commit_un w = calm_un (commit_sent (half w).seen) (calm_commit_sent (half w).seen)

acts_un : (w : World) → each is_unopening (act_entries (half w)) ≡ true
acts_un w = by (calm_kind (half w))
  where
    by : Calm (act_entries (half w)) ⊎ SealsCalmly (half w) (act_entries (half w)) → each is_unopening (act_entries (half w)) ≡ true
    by (inl q) = calm_un (act_entries (half w)) q
    by (inr s) = subst (λ (xs : List Entry). each is_unopening xs ≡ true) (sym s.2) (commit_un w)

act_stood : (w : World) (es : List Entry) → ActKind (half w) es → (has is_sealed w.past ≡ true → each is_unopening es ≡ true) → Keeps w.past → AreComing w.calls w.past → IsJoined w.past → AreStood w.past
    → AreStood (onto w.past es)
unfolding observe
act_stood w es (inl q) f k c j a = by (has is_sealed w.past) refl
  where
    by : (b : Bool) → has is_sealed w.past ≡ b → AreStood (onto w.past es)
    by true t = still_stood w.past es q.proof (f t) a
    by false t = unsealed_stood w.past es q.proof t a
act_stood w es (inr (inl p)) f k c j a = subst (λ (xs : List Entry). AreStood (onto w.past xs)) (sym p.block) (stood_more (Asked p.who Promote) w.past refl refl a)
act_stood w es (inr (inr (inl p))) f k c j a = subst (λ (xs : List Entry). AreStood (onto w.past xs)) (sym p.block) (stood_more (Asked p.who Single) w.past refl refl a)
act_stood w es (inr (inr (inr s))) f k c j a =
    let parts = none_waits (waiting w.calls w.past) (sees_promoting (observe w.past)) s.still in
    subst (λ (xs : List Entry). AreStood (onto w.past xs)) (sym s.block)
    (still_stood (Sealed ∷ w.past) (commit_sent (half w).seen) (q_commit_sent (half w).seen).proof (commit_un w)
    ((λ t e o. seal_stands w.calls w.past k s.undecided (parts.0, sym (way_seen w.past) ∙ parts.1) c j e o), a))

restarted_stood : (h : List Entry) (b found : Bool) → AreStood h → AreStood (onto h (restarted b found))
restarted_stood h true found a = stood_more (Restarted found) h refl refl a
restarted_stood h false found a = stood_more (Restarted found) (Stopped ∷ h) refl refl (stood_more Stopped h refl refl a)

step_stood : (t : ℕ) (w : World) (m : Step) → Keeps w.past → AreComing w.calls w.past → IsJoined w.past → AreStood w.past → AreStood (after t w m).past
unfolding after block_at
step_stood t w (Calls n x c m) k b j a =
    block_stood (Called n x (answer_at t w c m)) w.past (facts_if (has_facts (answer_at t w c m)) (facts_at t w c (answer_at t w c m))) refl refl (q_called t w c (answer_at t w c m)).proof (call_un t w c m) a
step_stood t w (Replies e r) k b j a = still_stood w.past (reply_entries (half w) e r) (q_reply (half w) e r).proof (calm_un (reply_entries (half w) e r) (calm_reply (half w) e r)) a
step_stood t w Acts k b j a = act_stood w (act_entries (half w)) (act_kind (half w)) (λ s. acts_un w) k b j a
step_stood t w (Coordinates x) k b j a = still_stood w.past (coordinates (core w) x) (q_coordinates (core w) x).proof (calm_un (coordinates (core w) x) (calm_coordinates (core w) x)) a
step_stood t w (Delivers c d) k b j a = delivered_stood t w c d (in_transit c d w.past) k a
step_stood t w Stops k b j a = still_stood w.past (Stopped ∷ []) refl refl a
step_stood t w (Restarts found) k b j a = restarted_stood w.past (core w).stopped found a

-- so in each world that steps made
pub ran_stood : (G : ℕ → ActorNo → Call → Type 0) (t : ℕ) (ms : List Step) (w : World) → Ran G t ms w → Keeps w.past → AreStood w.past
unfolding after
ran_stood G t [] w r k = subst AreStood (sym r.1) tt
ran_stood G t (m ∷ ms) w r k =
    let b = keeps_within r.0.past (block_at t r.0 m) (subst (λ (x : World). Keeps x.past) r.3 k) in
    subst (λ (x : World). AreStood x.past) (sym r.3) (step_stood t r.0 m b (coming_of G t ms r.0 r.1 b) (ran_joined G t ms r.0 r.1 b) (ran_stood G t ms r.0 r.1 b))

-- who stands is listed
pub stands_listed : (e : EnlNo) (h : List Entry) → has (is_enlisted e.value) h ≡ true → has (λ x. e.value == x.0.value) (enlisted h) ≡ true
stands_listed e [] t = absurd cc
stands_listed e (Enlisted f c ∷ h) t = or_case (e.value == f.value) (has (is_enlisted e.value) h) (λ q. or_left (e.value == f.value) _ q) (λ q. or_right (e.value == f.value) _ (stands_listed e h q)) t
stands_listed e (x ∷ h) t = stands_listed e h t

-- And of a promotion each that stands, and isn't volatile, came.
pub come_stood : (e : EnlNo) (h : List Entry) → Keeps h → IsStood h → has is_sealed h ≡ true → has is_promoted h ≡ true → has (opens (Enl e)) h ≡ true → has (is_enlist_got e.value) h ≡ true
come_stood e h k a s p o = come (enlisted h) (come_if_promoted h k p) (unvolatile_if_opened e h k o) (stands_listed e h (a s e o))
  where
    come : (xs : List (EnlNo × Class)) → each (λ x. is_volatile x.1 || has (is_enlist_got x.0.value) h) xs ≡ true → has (is_volatile_of e.value) xs ≡ false → has (λ x. e.value == x.0.value) xs ≡ true
        → has (is_enlist_got e.value) h ≡ true
    come [] c v t = absurd cc
    come (x ∷ xs) c v t =
        or_case (e.value == x.0.value) (has (λ y. e.value == y.0.value) xs)
        (λ q. let P : ℕ → Type 0 = λ n. has (is_enlist_got n) h ≡ true in
        subst P (sym (eqb-true e.value x.0.value q))
        (or_case (is_volatile x.1) (has (is_enlist_got x.0.value) h) (λ w. absurd (not_both (is_volatile_of e.value x) (and_both (e.value == x.0.value) (is_volatile x.1) q w) (or_first (is_volatile_of e.value x) (has (is_volatile_of e.value) xs) v))) (λ g. g)
        (and_left (is_volatile x.1 || has (is_enlist_got x.0.value) h) _ c)))
        (λ q. come xs (and_right (is_volatile x.1 || has (is_enlist_got x.0.value) h) _ c) (or_second (is_volatile_of e.value x) (has (is_volatile_of e.value) xs) v) q) t
