-- In each world that steps made, where nothing is decided: no rollback was asked for, no time was up, no promotable failed to promote, and where the commit was asked for each
-- rollback clone was complete. No end that the local side saw was a veto, and after its yes it didn't see both b and v end.
use Rattle.std.proofs.Common.{◌≡◌, ℕ, Bool, true, false, ◌&&◌, ◌||◌, ◌⊎◌, inl, inr, List, [], ◌∷◌, ◌++◌, refl, ◌∙◌, subst, sym, if◌then◌else◌, Option, Some, None}
use Rattle.std.specs.Prelude.{find, is_some, not}
use Rattle.std.proofs.lemmas.Bool.{or_left}
use Rattle.dtx_values.specs.declared.call.Call.{Call}
use Rattle.dtx_values.specs.declared.call.Call.TheVariants.{Commit, Reenlist, Rollback, Tick}
use Rattle.dtx_values.specs.declared.entry.Entry.{Entry}
use Rattle.dtx_values.specs.declared.entry.Entry.TheVariants.{Called, Clock, CommitAsked, Decided, Down as Ended, Freed, Got, Late, LocalYes, LogFull, Logged, PromoteReply, Reenlisted, Restarted, RollbackAsked, Sent, Stopped, TimedOut}
use Rattle.dtx_values.specs.declared.message.Conn.{Conn}
use Rattle.dtx_values.specs.declared.message.Conn.TheVariants.{Begin, Voter, Enl, Again}
use Rattle.dtx_values.specs.declared.message.Dir.{Dir}
use Rattle.dtx_values.specs.declared.message.Dir.TheVariants.{Up, Down}
use Rattle.dtx_values.specs.declared.message.Message.{Message}
use Rattle.dtx_values.specs.declared.message.Message.TheVariants.{BeginBegin}
use Rattle.dtx_values.specs.declared.note.Reply.TheVariants.{Promote}
use Rattle.dtx_values.specs.declared.number.ActorNo.{ActorNo}
use Rattle.dtx_values.specs.declared.number.EnlNo.{EnlNo}
use Rattle.dtx_values.specs.declared.words.CloneKind.{CloneKind}
use Rattle.dtx_values.specs.declared.words.CloneKind.TheVariants.{Block, Rollback as RollbackKind}
use Rattle.dtx_values.specs.declared.words.Outcome.{Outcome}
use Rattle.dtx_values.specs.declared.words.Outcome.TheVariants.{Aborted, InDoubt}
use Rattle.dtx_values.specs.Clones.{blocks, is_open_rollback}
use Rattle.dtx_values.specs.Ends.{saw_end}
use Rattle.dtx_values.specs.Row.{has_voted, is_of}
use Rattle.dtx_values.specs.Table.{voted}
use Rattle.dtx_model.specs.Words.{all_of, always, each, has, latest, onto}
use Rattle.dtx_model.specs.Entries.{clone_of, decision_of, is_decision, is_vote, is_yes}
use Rattle.dtx_model.specs.Outcome.{is_complete, is_rollback}
use Rattle.dtx_model.specs.History.{is_asked_in_time}
use Rattle.dtx_model.specs.declared.branch.Branch.{Branch}
use Rattle.dtx_model.specs.Observed.{ends_of, is_branch, observe, rows, track}
use Rattle.dtx_model.specs.Promotes.{identifier_of}
use Rattle.dtx_model.specs.Tied.{tied}
use Rattle.dtx_model.specs.Wires.{in_transit}
use Rattle.dtx_model.specs.Coordinated.{Coordinated, abort_sends, commit_sends, core_got, follow, may_log}
use Rattle.dtx_model.specs.Half.{Half, decide, ended, fails_if, is_promoting, sees, veto, veto_if, veto_message, reenlist_sent}
use Rattle.dtx_model.specs.Arrivals.{ended_by, ended_there, has_both_ends, local_down, local_got, unless_decided}
use Rattle.dtx_model.specs.Acts.{act_entries}
use Rattle.dtx_model.specs.Facts.{facts_if, has_facts, is_late, reaches, ticked}
use Rattle.dtx_model.specs.Replies.{reply_entries}
use Rattle.dtx_model.specs.World.{World, answer_at, core, facts_at, half, reenlist_facts}
use Rattle.dtx_model.specs.Steps.{LogAnswer, Done, Full, StoppedBefore, StoppedNow, Step, Calls, Replies, Acts, Coordinates, Delivers, Stops, Restarts, after, block_at, coordinates, delivered, ended_at, restarted}
use Rattle.dtx_model.specs.Caused.{AreMadeOnce, Ran}
use Rattle.dtx_model.proofs.Bools.{and_both, and_left, and_right, not_both, or_false, or_right}
use Rattle.dtx_model.proofs.Reading.{has-onto}
use Rattle.history_table.proofs.EntryTests.{all_closed}
use Rattle.history_table.proofs.Scans.{each_more, has_more}
use Rattle.history_table.proofs.Keeping.{Keeps, keeps_before}
use Rattle.history_table.proofs.Undecided.{Stands, goes_on}
use Rattle.history_table.proofs.HalfRows.{vote_seen}
use Rattle.settled_histories.proofs.Wired.{is_any_end, is_end_on}
use Rattle.settled_histories.proofs.Fine.{is_pair, is_spared_down}
use Rattle.settled_histories.proofs.Unblamed.{down_early}
use Rattle.settled_histories.proofs.EndsNoted.{ends_noted}
use Rattle.settled_histories.proofs.MildBlocks.{is_mild, m_abort, m_act, m_called, m_commit, m_core_got, m_ended_at, m_local_got, m_reply}
use Rattle.history_table.proofs.Steady.{run_stands, tied_under}

-- what ends a transaction at the local side, by what it was asked or answered, or by the clock
abbrev pub is_local_end : Entry → Bool
is_local_end RollbackAsked = true
is_local_end TimedOut = true
is_local_end (PromoteReply e ok) = not ok
is_local_end _ = false

-- no such entry came; where the commit was asked for each rollback clone was complete; no end on this side was a veto; and the outcome isn't in doubt by the ends of b and v
pub record IsUnended (h : List Entry) : Type 0 where
  pub unended : has is_local_end h ≡ false
  pub in_time : always is_asked_in_time h ≡ true
  pub spared : always is_spared_down h ≡ true
  pub certain : (has is_yes h && has (is_end_on Begin Down) h && has (is_end_on Voter Down) h) ≡ false

-- while nothing is decided
abbrev pub IsGoingOn : List Entry → Type 0
IsGoingOn h = has is_decision h ≡ false → IsUnended h

-- after the local yes one of the two is left, since before it none of them ended
still_certain : (x : Entry) (h : List Entry) → is_any_end x ≡ false → IsUnended h → (has is_yes (x ∷ h) && has (is_end_on Begin Down) (x ∷ h) && has (is_end_on Voter Down) (x ∷ h)) ≡ false
still_certain LocalYes h n u = by (has is_yes h) refl u.certain
  where
    by : (b : Bool) → has is_yes h ≡ b → (b && has (is_end_on Begin Down) h && has (is_end_on Voter Down) h) ≡ false → (has (is_end_on Begin Down) h && has (is_end_on Voter Down) h) ≡ false
    by true q c = c
    by false q c = rw (down_early Begin h refl u.spared q) refl
still_certain (Ended c d) h n u = absurd cc
still_certain x h n u = u.certain

no_end_spared : (x : Entry) (h : List Entry) → is_any_end x ≡ false → is_spared_down h x ≡ true
no_end_spared (Ended c d) h n = absurd cc
no_end_spared x h n = refl

-- one more entry, and a block of entries that do nothing of the kind
one_more : (x : Entry) (h : List Entry) → is_any_end x ≡ false → is_local_end x ≡ false → is_asked_in_time h x ≡ true → IsUnended h → IsUnended (x ∷ h)
one_more x h e n t u =
    record {
      unended = or_false (is_local_end x) (has is_local_end h) n u.unended;
      in_time = and_both (is_asked_in_time h x) (always is_asked_in_time h) t u.in_time;
      spared = and_both (is_spared_down h x) (always is_spared_down h) (no_end_spared x h e) u.spared;
      certain = still_certain x h e u;
    }

mild_any : (x : Entry) → is_mild x ≡ true → is_any_end x ≡ false
mild_any (Ended c d) q = absurd cc
mild_any _ q = refl

mild_end : (x : Entry) → is_mild x ≡ true → is_local_end x ≡ false
mild_end RollbackAsked q = absurd cc
mild_end TimedOut q = absurd cc
mild_end (PromoteReply e ok) q = absurd cc
mild_end _ q = refl

mild_time : (x : Entry) (h : List Entry) → is_mild x ≡ true → is_asked_in_time h x ≡ true
mild_time CommitAsked h q = absurd cc
mild_time _ h q = refl

mild_more : (h es : List Entry) → each is_mild es ≡ true → IsUnended h → IsUnended (onto h es)
mild_more h [] q u = u
mild_more h (x ∷ es) q u =
    let first = and_left (is_mild x) (each is_mild es) q in
    mild_more (x ∷ h) es (and_right (is_mild x) (each is_mild es) q) (one_more x h (mild_any x first) (mild_end x first) (mild_time x h first) u)

-- a block goes on where it leaves it so, and where it decides
goes : (h es : List Entry) → (IsUnended h → IsUnended (onto h es)) → IsGoingOn h → IsGoingOn (onto h es)
goes h es f g = λ d. f (g (or_second_of (has is_decision es) (has is_decision h) (sym (has-onto is_decision h es) ∙ d)))
  where
    or_second_of : (a b : Bool) → (a || b) ≡ false → b ≡ false
    or_second_of true b k = absurd cc
    or_second_of false b k = k

mild_goes : (h es : List Entry) → each is_mild es ≡ true → IsGoingOn h → IsGoingOn (onto h es)
mild_goes h es q g = goes h es (mild_more h es q) g

head_goes : (x : Entry) (h es : List Entry) → is_any_end x ≡ false → is_local_end x ≡ false → is_asked_in_time h x ≡ true → each is_mild es ≡ true → IsGoingOn h → IsGoingOn (onto (x ∷ h) es)
head_goes x h es e n t q g = goes h (x ∷ es) (λ u. mild_more (x ∷ h) es q (one_more x h e n t u)) g

decided_goes : (h es : List Entry) → has is_decision es ≡ true → IsGoingOn (onto h es)
decided_goes h es k = λ d. absurd (not_both (has is_decision (onto h es)) (has-onto is_decision h es ∙ or_left (has is_decision es) (has is_decision h) k) d)

-- a veto decides
has_front : (xs ys : List Entry) → has is_decision xs ≡ true → has is_decision (xs ++ ys) ≡ true
has_front [] ys k = absurd cc
has_front (x ∷ xs) ys k = step (is_decision x) (has is_decision xs) (has_front xs ys) k
  where
    step : (a b : Bool) → (b ≡ true → has is_decision (xs ++ ys) ≡ true) → (a || b) ≡ true → (a || has is_decision (xs ++ ys)) ≡ true
    step true b f k = refl
    step false b f k = f k

pub decide_decides : (h : Half) (x : Outcome) → has is_decision (decide h x) ≡ true
decide_decides h x = step (is_promoting h.seen) (ended h.waits x)
  where
    step : (b : Bool) (ys : List Entry) → has is_decision (fails_if b ++ Decided x ∷ ys) ≡ true
    step true ys = refl
    step false ys = refl

pub veto_decides : (h : Half) → has is_decision (veto h) ≡ true
unfolding veto
veto_decides h = has_front (decide h Aborted) (veto_message h.seen) (decide_decides h Aborted)

-- the block of a call that asks for the commit
closed_kind : (k : CloneKind) (b : Bool) → (blocks k || b) ≡ true → (not (is_rollback k) || b) ≡ true
closed_kind Block b k = refl
closed_kind RollbackKind b k = k

closed_then : (h : List Entry) → all_closed (CommitAsked ∷ h) ≡ true → is_asked_in_time h CommitAsked ≡ true
closed_then h k =
    each_more (λ c. blocks c.1 || is_complete (CommitAsked ∷ h) c) (λ c. not (is_rollback c.1) || is_complete h c) (λ c q. closed_kind c.1 (is_complete h c) q) (all_of clone_of h) k

commit_goes : (k : Half) (y : Entry) (h : List Entry) (f b : Bool) → is_mild y ≡ true → Stands (onto (y ∷ h) (facts_if f (CommitAsked ∷ veto_if b k))) → IsGoingOn h
    → IsGoingOn (onto (y ∷ h) (facts_if f (CommitAsked ∷ veto_if b k)))
commit_goes k y h false b q s g = mild_goes h (y ∷ []) (and_both (is_mild y) true q refl) g
commit_goes k y h true true q s g = decided_goes (CommitAsked ∷ y ∷ h) (veto k) (veto_decides k)
commit_goes k y h true false q s g = λ d.
    one_more CommitAsked (y ∷ h) refl refl (closed_then (y ∷ h) (goes_on (CommitAsked ∷ y ∷ h) s d).closed) (mild_goes h (y ∷ []) (and_both (is_mild y) true q refl) g (or_second_of (is_decision CommitAsked) _ d))
  where
    or_second_of : (a b : Bool) → (a || b) ≡ false → b ≡ false
    or_second_of true b k = absurd cc
    or_second_of false b k = k

-- that of a rollback, of a tick, and of a reenlistment
rollback_goes : (k : Half) (y : Entry) (h : List Entry) (f : Bool) → is_mild y ≡ true → IsGoingOn h → IsGoingOn (onto (y ∷ h) (facts_if f (RollbackAsked ∷ veto k)))
rollback_goes k y h false q g = mild_goes h (y ∷ []) (and_both (is_mild y) true q refl) g
rollback_goes k y h true q g = decided_goes (RollbackAsked ∷ y ∷ h) (veto k) (veto_decides k)

tick_goes : (k : Half) (n : ℕ) (y : Entry) (h : List Entry) (f r l : Bool) → is_mild y ≡ true → IsGoingOn h
    → IsGoingOn (onto (y ∷ h) (facts_if f (Clock n ∷ (if r then (if l then Late ∷ [] else TimedOut ∷ veto k) else []))))
tick_goes k n y h false r l q g = mild_goes h (y ∷ []) (and_both (is_mild y) true q refl) g
tick_goes k n y h true false l q g = mild_goes h (y ∷ Clock n ∷ []) (and_both (is_mild y) true q refl) g
tick_goes k n y h true true true q g = mild_goes h (y ∷ Clock n ∷ Late ∷ []) (and_both (is_mild y) true q refl) g
tick_goes k n y h true true false q g = decided_goes (TimedOut ∷ Clock n ∷ y ∷ h) (veto k) (veto_decides k)

reenlist_goes : (t : ℕ) (o : Option Branch) (y : Entry) (h : List Entry) (f : Bool) → is_mild y ≡ true → IsGoingOn h → IsGoingOn (onto (y ∷ h) (facts_if f (reenlist_facts t o)))
reenlist_goes t o y h false q g = mild_goes h (y ∷ []) (and_both (is_mild y) true q refl) g
reenlist_goes t None y h true q g = mild_goes h (y ∷ []) (and_both (is_mild y) true q refl) g
reenlist_goes t (Some b) y h true q g =
    head_goes (Reenlisted b.enlistment) (y ∷ h) (reenlist_sent t b.enlistment b.manager) refl refl refl refl (mild_goes h (y ∷ []) (and_both (is_mild y) true q refl) g)

-- the log's
appended_goes : (k : Coordinated) (h : List Entry) (b : Bool) (a : LogAnswer) → may_log k ≡ b → IsGoingOn h → IsGoingOn (onto h (coordinates k a))
appended_goes k h true Done e g = rw e (head_goes Logged h (commit_sends (follow k Logged)) refl refl refl (m_commit (follow k Logged)).proof g)
appended_goes k h true Full e g = rw e (head_goes LogFull h (abort_sends (follow k LogFull)) refl refl refl (m_abort (follow k LogFull)).proof g)
appended_goes k h true StoppedNow e g = rw e (mild_goes h (Stopped ∷ []) refl g)
appended_goes k h true StoppedBefore e g = rw e (mild_goes h (Stopped ∷ []) refl g)
appended_goes k h false Done e g = rw e (head_goes Freed h [] refl refl refl refl g)
appended_goes k h false Full e g = rw e g
appended_goes k h false StoppedNow e g = rw e (mild_goes h (Stopped ∷ []) refl g)
appended_goes k h false StoppedBefore e g = rw e (mild_goes h (Stopped ∷ []) refl g)

-- What the local side goes by after the end of a connection: whether something was decided, the yes, the votes, and the ends of b and v.
record IsAware (k : Half) (c : Conn) (h : List Entry) : Type 0 where
  decided : is_some k.seen.decided ≡ true → has is_decision h ≡ true
  yes : k.seen.yes ≡ has is_yes h
  cast : (e : EnlNo) → voted e.value k.seen.table ≡ true → has (is_vote e.value) h ≡ true
  both : has_both_ends k.seen ≡ false → (has (is_end_on Begin Down) (Ended c Down ∷ h) && has (is_end_on Voter Down) (Ended c Down ∷ h)) ≡ false

-- one more end that is spared
one_end : (c : Conn) (d : Dir) (h : List Entry) → is_spared_down h (Ended c d) ≡ true
    → (has is_yes h && has (is_end_on Begin Down) (Ended c d ∷ h) && has (is_end_on Voter Down) (Ended c d ∷ h)) ≡ false → IsUnended h → IsUnended (Ended c d ∷ h)
one_end c d h k n u = record { unended = u.unended; in_time = u.in_time; spared = and_both (is_spared_down h (Ended c d)) (always is_spared_down h) k u.spared; certain = n }

-- that on the coordinator's side is spared here, and so is that of another than b and v, which leaves the ends of these as they were
up_certain : (c : Conn) (h : List Entry) → IsUnended h → (has is_yes h && has (is_end_on Begin Down) (Ended c Up ∷ h) && has (is_end_on Voter Down) (Ended c Up ∷ h)) ≡ false
up_certain Begin h u = u.certain
up_certain Voter h u = u.certain
up_certain (Enl e) h u = u.certain
up_certain (Again e) h u = u.certain

up_goes : (c : Conn) (h es : List Entry) → each is_mild es ≡ true → IsGoingOn h → IsGoingOn (onto (Ended c Up ∷ h) es)
up_goes c h es q g = mild_goes (Ended c Up ∷ h) es q (λ d. let u = g d in one_end c Up h refl (up_certain c h u) u)

-- where something is decided nothing is done, else what this block does
undecided_goes : (k : Half) (h es : List Entry) → (is_some k.seen.decided ≡ true → has is_decision h ≡ true) → IsGoingOn (onto h es) → IsGoingOn (onto h (unless_decided k es))
undecided_goes k h es f g = step (is_some k.seen.decided) f
  where
    step : (b : Bool) → (b ≡ true → has is_decision h ≡ true) → IsGoingOn (onto h (if b then [] else es))
    step true f = λ d. absurd (not_both (has is_decision h) (f refl) d)
    step false f = g

-- the end of b and of v: a veto before the yes, and after it doubt where it is the second one
pair_spared : (c : Conn) (h : List Entry) → is_pair c ≡ true → has is_yes h ≡ true → is_spared_down h (Ended c Down) ≡ true
pair_spared Begin h p y = rw y refl
pair_spared Voter h p y = rw y refl
pair_spared _ h p y = absurd cc

pair_goes : (k : Half) (c : Conn) (h : List Entry) → is_pair c ≡ true → IsAware k c h → IsGoingOn h → IsGoingOn (onto (Ended c Down ∷ h) (ended_there k))
pair_goes k c h p a g = step k.seen.yes (has_both_ends k.seen) a.yes refl
  where
    step : (y b : Bool) → y ≡ has is_yes h → has_both_ends k.seen ≡ b → IsGoingOn (onto (Ended c Down ∷ h) (if not y then veto k else if b then decide k InDoubt else []))
    step false b e q = decided_goes (Ended c Down ∷ h) (veto k) (veto_decides k)
    step true true e q = decided_goes (Ended c Down ∷ h) (decide k InDoubt) (decide_decides k InDoubt)
    step true false e q = λ d. one_end c Down h (pair_spared c h p (sym e)) (rw (sym e) (a.both q)) (g d)

-- the end of an enlistment's own connection: a veto before the yes and before its vote
own_spared : (y v : Bool) → (y ≡ true) ⊎ (v ≡ true) → not (not y && not v) ≡ true
own_spared true v k = refl
own_spared false true k = refl
own_spared false false (inl k) = absurd cc
own_spared false false (inr k) = absurd cc

own_goes : (k : Half) (e : EnlNo) (h : List Entry) → IsAware k (Enl e) h → IsGoingOn h → IsGoingOn (onto (Ended (Enl e) Down ∷ h) (if k.seen.yes || voted e.value k.seen.table then [] else veto k))
own_goes k e h a g = step k.seen.yes (voted e.value k.seen.table) a.yes (a.cast e)
  where
    alone : ((has is_yes h ≡ true) ⊎ (has (is_vote e.value) h ≡ true)) → IsGoingOn (Ended (Enl e) Down ∷ h)
    alone s = λ d. let u = g d in one_end (Enl e) Down h (own_spared (has is_yes h) (has (is_vote e.value) h) s) u.certain u

    step : (y v : Bool) → y ≡ has is_yes h → (v ≡ true → has (is_vote e.value) h ≡ true) → IsGoingOn (onto (Ended (Enl e) Down ∷ h) (if y || v then [] else veto k))
    step true v q f = alone (inl (sym q))
    step false true q f = alone (inr (f refl))
    step false false q f = decided_goes (Ended (Enl e) Down ∷ h) (veto k) (veto_decides k)

-- the block of an end
down_goes : (k : Half) (c : Conn) (h : List Entry) → IsAware k c h → IsGoingOn h → IsGoingOn (onto (Ended c Down ∷ h) (ended_by k c))
down_goes k Begin h a g = undecided_goes k (Ended Begin Down ∷ h) (ended_there k) a.decided (pair_goes k Begin h refl a g)
down_goes k Voter h a g = undecided_goes k (Ended Voter Down ∷ h) (ended_there k) a.decided (pair_goes k Voter h refl a g)
down_goes k (Enl e) h a g = undecided_goes k (Ended (Enl e) Down ∷ h) (if k.seen.yes || voted e.value k.seen.table then [] else veto k) a.decided (own_goes k e h a g)
down_goes k (Again e) h a g = λ d. let u = g d in one_end (Again e) Down h refl u.certain u

keeps_under : (h es : List Entry) → Keeps (onto h es) → Keeps h
keeps_under h [] k = k
keeps_under h (x ∷ es) k = keeps_before x h (keeps_under (x ∷ h) es k)

-- so much the local side knows there
aware : (w : World) (c : Conn) → Keeps (Ended c Down ∷ w.past) → IsAware (sees (half w) (Ended c Down)) c w.past
unfolding observe track
aware w c k =
    record {
      decided = λ t. decided_there w.past t;
      yes = refl;
      cast = λ e t. voted_there e w.past (keeps_before (Ended c Down) w.past k) t;
      both = λ n.
          not_noted (has (is_end_on Begin Down) (Ended c Down ∷ w.past)) (has (is_end_on Voter Down) (Ended c Down ∷ w.past))
          (saw_end Begin (ends_of (Ended c Down ∷ w.past))) (saw_end Voter (ends_of (Ended c Down ∷ w.past)))
          (ends_noted Begin (Ended c Down ∷ w.past) refl k) (ends_noted Voter (Ended c Down ∷ w.past) refl k) n;
    }
  where
    not_noted : (a b s t : Bool) → (a ≡ true → s ≡ true) → (b ≡ true → t ≡ true) → (s && t) ≡ false → (a && b) ≡ false
    not_noted true true s t f g n = absurd (not_both (s && t) (and_both s t (f refl) (g refl)) n)
    not_noted true false s t f g n = refl
    not_noted false b s t f g n = refl

    decided_there : (h : List Entry) → is_some (latest decision_of h) ≡ true → has is_decision h ≡ true
    decided_there [] t = absurd cc
    decided_there (Decided x ∷ h) t = refl
    decided_there (x ∷ h) t = or_right (is_decision x) (has is_decision h) (decided_there h t)

    voted_there : (e : EnlNo) (h : List Entry) → Keeps h → voted e.value (rows h) ≡ true → has (is_vote e.value) h ≡ true
    voted_there e h k t = sym (vote_seen h e.value k (has_more (λ x. is_of e.value x && has_voted x) (is_of e.value) (λ x. and_left (is_of e.value x) (has_voted x)) (rows h) t)) ∙ t

delivered_goes : (t : ℕ) (w : World) (c : Conn) (d : Dir) (ms : List Message) → Keeps (onto w.past (delivered t w c d ms)) → IsGoingOn w.past → IsGoingOn (onto w.past (delivered t w c d ms))
unfolding local_down
delivered_goes t w c Up [] k g = up_goes c w.past (ended_at w c Up) (m_ended_at w c Up).proof g
delivered_goes t w c Down [] k g =
    let here = sees (half w) (Ended c Down) in down_goes here c w.past (aware w c (keeps_under (Ended c Down ∷ w.past) (ended_by here c) k)) g
delivered_goes t w c Up (m ∷ ms) k g = head_goes (Got c Up m) w.past (core_got (identifier_of t) (core w) c m) refl refl refl (m_core_got (identifier_of t) (core w) c m).proof g
delivered_goes t w c Down (m ∷ ms) k g = head_goes (Got c Down m) w.past (local_got t (half w) c m) refl refl refl (m_local_got t (half w) c m).proof g

restarted_goes : (h : List Entry) (b found : Bool) → IsGoingOn h → IsGoingOn (onto h (restarted b found))
restarted_goes h true found g = head_goes (Restarted found) h [] refl refl refl refl g
restarted_goes h false found g = head_goes (Restarted found) (Stopped ∷ h) [] refl refl refl refl (mild_goes h (Stopped ∷ []) refl g)

-- the answer to promote
promote_goes : (k : Half) (h : List Entry) (e : EnlNo) (ok : Bool) → IsGoingOn h → IsGoingOn (onto h (reply_entries k e (Promote ok)))
unfolding reply_entries
promote_goes k h e true g = head_goes (PromoteReply e true) h (Sent Begin Up BeginBegin ∷ []) refl refl refl refl g
promote_goes k h e false g = decided_goes (PromoteReply e false ∷ h) (veto (sees k (PromoteReply e false))) (veto_decides (sees k (PromoteReply e false)))

-- after each step
step_goes : (t : ℕ) (w : World) (m : Step) → Stands (after t w m).past → IsGoingOn w.past → IsGoingOn (after t w m).past
unfolding after block_at
step_goes t w (Calls n a (Commit u) i) s g =
    let y = answer_at t w (Commit u) i in
    commit_goes (sees (half w) CommitAsked) (Called n a y) w.past (has_facts y) (has is_open_rollback (half w).seen.clones) refl s g
step_goes t w (Calls n a (Rollback u) i) s g =
    let y = answer_at t w (Rollback u) i in
    rollback_goes (sees (half w) RollbackAsked) (Called n a y) w.past (has_facts y) refl g
step_goes t w (Calls n a (Tick u j) i) s g =
    let y = answer_at t w (Tick u j) i in
    let o = (half w).seen in
    let c = ticked o.clock j in
    tick_goes (half w) c (Called n a y) w.past (has_facts y) (reaches o.limit o.clock c) (is_late o) refl g
step_goes t w (Calls n a (Reenlist e) i) s g =
    let y = answer_at t w (Reenlist e) i in
    reenlist_goes t (find (is_branch e.value) (half w).seen.branches) (Called n a y) w.past (has_facts y) refl g
step_goes t w (Calls n a c i) s g =
    let y = answer_at t w c i in
    mild_goes w.past (Called n a y ∷ facts_if (has_facts y) (facts_at t w c y)) (m_called t w c y refl).proof g
step_goes t w (Replies e (Promote ok)) s g = promote_goes (half w) w.past e ok g
step_goes t w (Replies e r) s g = mild_goes w.past (reply_entries (half w) e r) (m_reply (half w) e r refl).proof g
step_goes t w Acts s g = mild_goes w.past (act_entries (half w)) (m_act (half w)).proof g
step_goes t w (Coordinates a) s g = appended_goes (core w) w.past (may_log (core w)) a refl g
step_goes t w (Delivers c d) s g = delivered_goes t w c d (in_transit c d w.past) s.keeps g
step_goes t w Stops s g = mild_goes w.past (Stopped ∷ []) refl g
step_goes t w (Restarts found) s g = restarted_goes w.past (core w).stopped found g

-- so in each world that steps made
pub ran_goes : (G : ℕ → ActorNo → Call → Type 0) (t : ℕ) (ms : List Step) (w : World) → AreMadeOnce G → Ran G t ms w → tied w.past ≡ true → IsGoingOn w.past
unfolding after
ran_goes G t [] w once r d = subst IsGoingOn (sym r.1) (λ u. record { unended = refl; in_time = refl; spared = refl; certain = refl })
ran_goes G t (m ∷ ms) w once r d =
    let v = r.0 in
    let now : tied (after t v m).past ≡ true = subst (λ (x : World). tied x.past ≡ true) r.3 d in
    let stands = (run_stands G t (m ∷ ms) (after t v m) once (v, r.1, r.2, refl) now).steady.stands in
    subst (λ (x : World). IsGoingOn x.past) (sym r.3) (step_goes t v m stands (ran_goes G t ms v once r.1 (tied_under v.past (block_at t v m) now)))
