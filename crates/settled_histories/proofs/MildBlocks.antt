-- Which entries no block has but as its first: what is got and an end, an act of the log, a restart, the asking for the commit or a rollback, the end of the time, and an
-- answer to promote, and who comes back.
use Rattle.std.proofs.Common.{◌≡◌, ℕ, Bool, true, false, ◌||◌, List, [], ◌∷◌, ◌++◌, is_some, refl, if◌then◌else◌}
use Rattle.dtx_values.specs.declared.call.Call.{Call}
use Rattle.dtx_values.specs.declared.call.Call.TheVariants.{Commit, Rollback, Tick, Reenlist}
use Rattle.dtx_values.specs.declared.entry.Answer.{Answer}
use Rattle.dtx_values.specs.declared.entry.Ask.TheVariants.{Promote, Single as AskSingle}
use Rattle.dtx_values.specs.declared.entry.Entry.{Entry}
use Rattle.dtx_values.specs.declared.entry.Entry.TheVariants.{CommitAsked, RollbackAsked, TimedOut, Asked, PromoteReply, Sealed, Sent, Got, Down as Ended, Logged, LogFull, Freed, Restarted, Reenlisted, Recovered as RecoveredEntry, Clock, Late, Cut}
use Rattle.dtx_values.specs.declared.message.Conn.{Conn}
use Rattle.dtx_values.specs.declared.message.Conn.TheVariants.{Begin, Voter}
use Rattle.dtx_values.specs.declared.message.Dir.{Dir}
use Rattle.dtx_values.specs.declared.message.Dir.TheVariants.{Up, Down}
use Rattle.dtx_values.specs.declared.message.Message.{Message}
use Rattle.dtx_values.specs.declared.message.Message.TheVariants.{BeginBegin, BeginCommitted, BeginInDoubt, VoterCommit, VoterInDoubt}
use Rattle.dtx_values.specs.declared.note.Reply.{Reply}
use Rattle.dtx_values.specs.declared.note.Reply.TheVariants.{Promote as PromoteAnswer}
use Rattle.dtx_values.specs.declared.number.EnlNo.{EnlNo}
use Rattle.dtx_values.specs.Clones.{is_open_rollback}
use Rattle.dtx_values.specs.Ends.{same_connection}
use Rattle.dtx_model.specs.Words.{each, has}
use Rattle.history_table.proofs.Scans.{each_more}
use Rattle.dtx_model.specs.Coordinated.{Coordinated, abort_sends, commit_sends, core_got, doubt_sends, one_sends}
use Rattle.dtx_model.specs.Half.{Half, sees, veto, veto_if}
use Rattle.dtx_model.specs.Arrivals.{local_got}
use Rattle.dtx_model.specs.Acts.{act_entries}
use Rattle.dtx_model.specs.Replies.{reply_entries}
use Rattle.dtx_model.specs.Facts.{facts_if, has_facts, is_late, reaches, ticked}
use Rattle.dtx_model.specs.World.{World, half, core, facts_at}
use Rattle.dtx_model.specs.Steps.{ended_at}
use Rattle.dtx_model.proofs.Writes.{Each, e_cons, e_one, IsClosed, each_closed, Source, ByCall, ByReply, ByMessage, ByAct, is_committing, is_rolling_back, is_tick, is_promise, asks_commit, asks_rollback, ticks, returns, promises, writes, is_outcome_message, is_returning}
use Rattle.dtx_model.proofs.Blocks.{of_abort_sends, of_commit_sends, of_core_got, of_core_down, of_veto, of_veto_if, of_local_down, of_arrived, of_whole_act, of_reply, of_called}
use Rattle.dtx_model.proofs.Bools.{and_both, not_both, or_first, or_second}
use Rattle.dtx_values.specs.Lines.{has_line}

-- the entry isn't got and no end, no act of the log and no restart; it asks for no commit or rollback, ends no time, is no answer to promote, and nobody comes
-- back
abbrev pub is_mild : Entry → Bool
is_mild (Got c d m) = false
is_mild (Ended c d) = false
is_mild Logged = false
is_mild LogFull = false
is_mild Freed = false
is_mild (Restarted found) = false
is_mild CommitAsked = false
is_mild RollbackAsked = false
is_mild TimedOut = false
is_mild (PromoteReply e ok) = false
is_mild (Reenlisted e) = false
is_mild _ = true

abbrev pub Mild : List Entry → Type 0
Mild es = Each is_mild es

mild : IsClosed (λ ws es. Each is_mild es)
mild = each_closed is_mild refl (λ x. refl) (λ n x. refl) refl refl

-- so are the entries of blocks that have none of these
mild_entry : (s : Source) → asks_commit s ≡ false → asks_rollback s ≡ false → ticks s ≡ false → promises s ≡ false → returns s ≡ false → (x : Entry) → writes s x ≡ true → Mild (x ∷ [])
mild_entry s c b k p r x t = e_one x (passes x t)
  where
    passes : (x : Entry) → writes s x ≡ true → is_mild x ≡ true
    passes (Got d u m) t = absurd cc
    passes (Ended d u) t = absurd cc
    passes Logged t = absurd cc
    passes LogFull t = absurd cc
    passes Freed t = absurd cc
    passes (Restarted found) t = absurd cc
    passes CommitAsked t = absurd (not_both (asks_commit s) t c)
    passes RollbackAsked t = absurd (not_both (asks_rollback s) t b)
    passes TimedOut t = absurd (not_both (ticks s) t k)
    passes (PromoteReply e ok) t = absurd (not_both (promises s) t p)
    passes (Reenlisted e) t = absurd (not_both (returns s) t r)
    passes _ t = refl

mild_sent : (c : Conn) (m : Message) → has_line c Down m ≡ true → is_outcome_message m ≡ true → Mild (Sent c Down m ∷ [])
mild_sent c m l o = e_one (Sent c Down m) refl

pub m_abort : (k : Coordinated) → Mild (abort_sends k)
m_abort k = of_abort_sends (mild.lists []) k mild_sent

pub m_commit : (k : Coordinated) → Mild (commit_sends k)
m_commit k = of_commit_sends (mild.lists []) k mild_sent

pub m_one : (k : Coordinated) → Mild (one_sends k)
m_one k = by (has (same_connection Begin) k.known) (has (same_connection Voter) k.known)
  where
    by : (a b : Bool) → Mild ((if a then Sent Begin Down BeginCommitted ∷ [] else []) ++ (if b then Sent Voter Down VoterCommit ∷ [] else []))
    by true true = record { proof = refl }
    by true false = record { proof = refl }
    by false true = record { proof = refl }
    by false false = record { proof = refl }

pub m_doubt : (k : Coordinated) → Mild (doubt_sends k)
m_doubt k = by (has (same_connection Begin) k.known) (has (same_connection Voter) k.known)
  where
    by : (a b : Bool) → Mild ((if a then Sent Begin Down BeginInDoubt ∷ [] else []) ++ (if b then Sent Voter Down VoterInDoubt ∷ [] else []))
    by true true = record { proof = refl }
    by true false = record { proof = refl }
    by false true = record { proof = refl }
    by false false = record { proof = refl }

pub m_core_got : (id : ℕ) (k : Coordinated) (c : Conn) (m : Message) → Mild (core_got id k c m)
m_core_got id k c m = of_core_got (mild.lists []) id k c m (λ d n l a. e_one (Sent d Down n) refl)

-- what the local side does after a message
pub m_local_got : (t : ℕ) (h : Half) (c : Conn) (m : Message) → Mild (local_got t h c m)
unfolding local_got
m_local_got t h c m = let g = sees h (Got c Down m) in of_arrived mild t g c m (mild_entry (ByMessage g.waits c m) refl refl refl refl refl)

pub m_ended_at : (w : World) (c : Conn) (d : Dir) → Mild (ended_at w c d)
m_ended_at w c Up = of_core_down (mild.lists []) (core w) c mild_sent
m_ended_at w c Down = of_local_down mild (half w) c

-- the local act is mild
pub m_act : (h : Half) → Mild (act_entries h)
m_act h =
    of_whole_act mild h (mild_entry (ByAct (is_some h.seen.decided)) refl refl refl refl refl) (λ e. e_one (Asked e Promote) refl) (λ e. e_one (Asked e AskSingle) refl) (e_one Sealed refl)
    (λ m t. e_one (Sent Begin Up m) refl)

-- a reply that isn't one to promote
pub m_reply : (h : Half) (e : EnlNo) (r : Reply) → is_promise r ≡ false → Mild (reply_entries h e r)
m_reply h e r n = of_reply mild h e r (mild_entry (ByReply r) refl refl refl n refl)

-- a call that asks for the commit or a rollback, a tick, or a reenlistment
abbrev pub is_ending_call : Call → Bool
is_ending_call c = (is_committing c || is_rolling_back c) || (is_tick c || is_returning c)

-- what stands after the call
pub m_called : (t : ℕ) (w : World) (c : Call) (a : Answer) → is_ending_call c ≡ false → Mild (facts_if (has_facts a) (facts_at t w c a))
m_called t w c a n =
    let asks = or_first (is_committing c || is_rolling_back c) (is_tick c || is_returning c) n in
    let rest = or_second (is_committing c || is_rolling_back c) (is_tick c || is_returning c) n in
    of_called mild t w c a
    (mild_entry (ByCall c) (or_first (is_committing c) (is_rolling_back c) asks) (or_second (is_committing c) (is_rolling_back c) asks) (or_first (is_tick c) (is_returning c) rest) refl
    (or_second (is_tick c) (is_returning c) rest)) (λ d i m. e_one (Cut d i m) refl) (λ r. e_one (RecoveredEntry r) refl)

-- A test that passes what is mild, and what asks for the commit or a rollback, ends the time or answers to promote: it passes each block of the local side but that of a
-- reenlistment, and what was got.
pub record IsWide (p : Entry → Bool) : Type 0 where
  pub mild : (x : Entry) → is_mild x ≡ true → p x ≡ true
  pub commit : p CommitAsked ≡ true
  pub rollback : p RollbackAsked ≡ true
  pub timeout : p TimedOut ≡ true
  pub promise : (e : EnlNo) (ok : Bool) → p (PromoteReply e ok) ≡ true

-- it passes a mild list
pub wide_mild : (p : Entry → Bool) → IsWide p → (es : List Entry) → Mild es → each p es ≡ true
wide_mild p w es q = each_more is_mild p w.mild es q.proof

wide_cons : (p : Entry → Bool) → IsWide p → (x : Entry) (es : List Entry) → p x ≡ true → Mild es → each p (x ∷ es) ≡ true
wide_cons p w x es k q = and_both (p x) (each p es) k (wide_mild p w es q)

wide_if : (p : Entry → Bool) (f : Bool) (es : List Entry) → each p es ≡ true → each p (facts_if f es) ≡ true
wide_if p true es k = k
wide_if p false es k = refl

wide_tick : (p : Entry → Bool) → IsWide p → (k : Half) (n : ℕ) (r l : Bool) → each p (Clock n ∷ (if r then (if l then Late ∷ [] else TimedOut ∷ veto k) else [])) ≡ true
wide_tick p w k n false l = wide_mild p w (Clock n ∷ []) (e_one (Clock n) refl)
wide_tick p w k n true true = wide_mild p w (Clock n ∷ Late ∷ []) (e_cons (Clock n) refl (e_one Late refl))
wide_tick p w k n true false = and_both (p (Clock n)) (each p (TimedOut ∷ veto k)) (w.mild (Clock n) refl) (wide_cons p w TimedOut (veto k) w.timeout (of_veto mild k))

-- so it passes what stands after any other call
pub wide_called : (p : Entry → Bool) → IsWide p → (t : ℕ) (w : World) (c : Call) (a : Answer) → is_returning c ≡ false → each p (facts_if (has_facts a) (facts_at t w c a)) ≡ true
wide_called p q t w (Commit u) a n =
    let b = has is_open_rollback (half w).seen.clones in
    wide_if p (has_facts a) (CommitAsked ∷ veto_if b (sees (half w) CommitAsked)) (wide_cons p q CommitAsked (veto_if b (sees (half w) CommitAsked)) q.commit (of_veto_if mild b (sees (half w) CommitAsked)))
wide_called p q t w (Rollback u) a n =
    wide_if p (has_facts a) (RollbackAsked ∷ veto (sees (half w) RollbackAsked)) (wide_cons p q RollbackAsked (veto (sees (half w) RollbackAsked)) q.rollback (of_veto mild (sees (half w) RollbackAsked)))
wide_called p q t w (Tick u i) a n =
    let o = (half w).seen in
    let c = ticked o.clock i in
    wide_if p (has_facts a) (Clock c ∷ (if reaches o.limit o.clock c then (if is_late o then Late ∷ [] else TimedOut ∷ veto (half w)) else [])) (wide_tick p q (half w) c (reaches o.limit o.clock c) (is_late o))
wide_called p q t w (Reenlist e) a n = absurd cc
wide_called p q t w c a n = wide_mild p q (facts_if (has_facts a) (facts_at t w c a)) (m_called t w c a refl)

-- and the block of a reply
pub wide_reply : (p : Entry → Bool) → IsWide p → (h : Half) (e : EnlNo) (r : Reply) → each p (reply_entries h e r) ≡ true
unfolding reply_entries
wide_reply p q h e (PromoteAnswer true) = wide_cons p q (PromoteReply e true) (Sent Begin Up BeginBegin ∷ []) (q.promise e true) (e_one (Sent Begin Up BeginBegin) refl)
wide_reply p q h e (PromoteAnswer false) = wide_cons p q (PromoteReply e false) (veto (sees h (PromoteReply e false))) (q.promise e false) (of_veto mild (sees h (PromoteReply e false)))
wide_reply p q h e r = wide_mild p q (reply_entries h e r) (m_reply h e r refl)
