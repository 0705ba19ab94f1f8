-- In each world that steps made, in which the coordinator didn't stop: where it has decided, it said so on b, unless it saw the end of b; and on v where it had asked the voter, unless it saw
-- the end of v or got its NO.
use Rattle.std.proofs.Common.{◌≡◌, ℕ, Bool, true, false, ◌&&◌, ◌⊎◌, inl, inr, List, [], ◌∷◌, ◌++◌, refl, ◌∙◌, ap, subst, sym, if◌then◌else◌, Option, Some, None, is_some}
use Rattle.std.specs.Prelude.{filter, find, not}
use Rattle.std.proofs.lemmas.Bool.{false_from_ne_true, or_left}
use Rattle.dtx_values.specs.declared.call.Call.{Call}
use Rattle.dtx_values.specs.declared.call.Call.TheVariants.{Reenlist}
use Rattle.dtx_values.specs.declared.entry.Answer.{Answer}
use Rattle.dtx_values.specs.declared.entry.Ask.TheVariants.{Promote, Single as AskSingle}
use Rattle.dtx_values.specs.declared.entry.Entry.{Entry}
use Rattle.dtx_values.specs.declared.entry.Entry.TheVariants.{Asked, Called, Cut, Down as Ended, Freed, Got, LogFull, Logged, Recovered as RecoveredEntry, Restarted, Sealed, Sent, Stopped}
use Rattle.dtx_values.specs.declared.message.Conn.{Conn}
use Rattle.dtx_values.specs.declared.message.Conn.TheVariants.{Begin, Voter, Enl, Again}
use Rattle.dtx_values.specs.declared.message.Dir.{Dir}
use Rattle.dtx_values.specs.declared.message.Dir.TheVariants.{Up, Down}
use Rattle.dtx_values.specs.declared.message.Message.{Message}
use Rattle.dtx_values.specs.declared.message.Message.TheVariants.{BeginAborted, BeginCommit, BeginCommitOne, BeginCommitted, BeginInDoubt, EnlistSingle, VoterInDoubt, VoterAbort, VoterAsk, VoterCommit, VoterNo, EnlistAbort, EnlistCommit, EnlistPrepare, ReenlistAborted, ReenlistCommitted}
use Rattle.dtx_values.specs.declared.note.Reply.{Reply}
use Rattle.dtx_values.specs.declared.number.ActorNo.{ActorNo}
use Rattle.dtx_values.specs.declared.number.EnlNo.{EnlNo}
use Rattle.dtx_values.specs.Ends.{same_connection}
use Rattle.dtx_values.specs.Lines.{has_line, is_opening}
use Rattle.dtx_model.specs.declared.desk.Stage.{Stage}
use Rattle.dtx_model.specs.declared.desk.Stage.TheVariants.{Active, Answered, Given, Recorded, Sole}
use Rattle.dtx_model.specs.Words.{each, has, onto}
use Rattle.dtx_model.specs.declared.branch.Branch.{Branch}
use Rattle.dtx_model.specs.Observed.{is_branch}
use Rattle.dtx_model.specs.Promotes.{identifier_of}
use Rattle.dtx_model.specs.Tied.{is_stop}
use Rattle.dtx_model.specs.Wires.{in_transit, is_stopped}
use Rattle.dtx_model.specs.Coordinated.{Coordinated, abort_sends, accepts, commit_sends, coordinate, core_got, doubt_sends, follow, is_active, is_going, is_no_got, is_one, is_recorded, is_sole, may_free, one_sends, stage_if, may_log, stage_after, still_hears, to, to_each, to_waiting}
use Rattle.dtx_model.specs.Coordinated.{core_down, is_prepared}
use Rattle.dtx_model.specs.Half.{Half, sees}
use Rattle.dtx_model.specs.Arrivals.{local_got}
use Rattle.dtx_model.specs.Acts.{act_entries}
use Rattle.dtx_model.specs.Facts.{facts_if, has_facts}
use Rattle.dtx_model.specs.Replies.{reply_entries}
use Rattle.dtx_model.specs.World.{World, answer_at, core, facts_at, half, reenlist_facts}
use Rattle.dtx_model.specs.Steps.{LogAnswer, Done, Full, StoppedBefore, StoppedNow, Step, Calls, Replies, Acts, Coordinates, Delivers, Stops, Restarts, after, appended, block_at, delivered, ended_at, freed, restarted}
use Rattle.dtx_model.specs.Caused.{MayCome, Ran, may_coordinate}
use Rattle.dtx_model.proofs.Writes.{Each, e_one, IsClosed, each_closed, Source, ByAct, ByCall, ByMessage, ByReply, answers, is_asking, is_outcome_message, writes}
use Rattle.dtx_model.proofs.Blocks.{of_abort_sends, of_arrived, of_called, of_commit_sends, of_core_down, of_core_got, of_local_down, of_reply, of_whole_act}
use Rattle.dtx_model.proofs.Bools.{and_both, and_left, and_right, not_both, not_true, or_case, or_right, or_second}
use Rattle.dtx_model.proofs.Reading.{has-onto}
use Rattle.history_table.proofs.Scans.{has_more}
use Rattle.settled_histories.proofs.Onto.{none_before, stood_before}
use Rattle.settled_histories.proofs.Wired.{IsWired, is_end_on, unstopped}
use Rattle.settled_histories.proofs.MessageKinds.{ASK, OUTCOME, VOTER_NO, VOTER_OUTCOME}
use Rattle.history_table.proofs.Table.{is_opening_got}
use Rattle.history_table.proofs.Keeping.{Keeps, keeps_before, newest}
use Rattle.settled_histories.proofs.OpenedRows.{kept_opened}
use Rattle.settled_histories.proofs.Knowledge.{opening_known}
use Rattle.history_table.proofs.CoreStages.{begun_if_active}
use Rattle.history_table.proofs.CoreKnown.{sent_opened_there}
use Rattle.history_table.proofs.Crossed.{is_sent_on, is_got_on}
use Rattle.settled_histories.proofs.MildBlocks.{IsWide, Mild, is_mild, m_abort, m_act, m_commit, m_core_got, m_doubt, m_ended_at, m_local_got, m_one, wide_called, wide_mild, wide_reply}
use Rattle.history_table.proofs.Leading.{opening_on}
use Rattle.history_table.proofs.Sendings.{got_line}
use Rattle.settled_histories.proofs.Awaits.{awaits, awaits_upheld}
use Rattle.settled_histories.proofs.Verdicts.{IsVerdict, begun_then, end_begun, end_verdict, got_verdict}

-- Where the coordinator has decided, it sent its decision on b, unless it saw the end of b; and on v, where it had sent ASK, unless it saw the end of v or got NO.
pub record IsAnnounced (h : List Entry) : Type 0 where
  pub on_begin : awaits (coordinate h).stage ≡ false → has (is_end_on Begin Up) h ≡ false → has (is_sent_on Begin Down OUTCOME) h ≡ true
  pub on_voter : awaits (coordinate h).stage ≡ false → has (is_sent_on Voter Down ASK) h ≡ true → has (is_end_on Voter Up) h ≡ false → has (is_got_on Voter Up VOTER_NO) h ≡ false
      → has (is_sent_on Voter Down VOTER_OUTCOME) h ≡ true

-- a history that keeps the table and in which the coordinator never stopped
pub record IsUnstopped (h : List Entry) : Type 0 where
  pub keeps : Keeps h
  pub unstopped : has is_stop h ≡ false

-- it was so before its newest entry, and before a block
pub unstopped_before : (x : Entry) (h : List Entry) → IsUnstopped (x ∷ h) → IsUnstopped h
unstopped_before x h u = record { keeps = keeps_before x h u.keeps; unstopped = or_second (is_stop x) (has is_stop h) u.unstopped }

pub unstopped_under : (h es : List Entry) → IsUnstopped (onto h es) → IsUnstopped h
unstopped_under h [] u = u
unstopped_under h (x ∷ es) u = unstopped_before x h (unstopped_under (x ∷ h) es u)

-- its connections are as their rows say
pub unstopped_wired : (h : List Entry) → IsUnstopped h → IsWired h
unstopped_wired h u = record { opened = kept_opened h u.keeps; unstopped = u.unstopped; run = u.keeps.wires }

-- with the entry the coordinator goes on awaiting where it awaited: it is neither got, an end, an act of the log, nor a restart
abbrev pub is_apart : Entry → Bool
is_apart (Got c d m) = false
is_apart (Ended c d) = false
is_apart Logged = false
is_apart LogFull = false
is_apart Freed = false
is_apart (Restarted found) = false
is_apart _ = true

wide_apart : IsWide is_apart
wide_apart = record { mild = one; commit = refl; rollback = refl; timeout = refl; promise = λ e ok. refl }
  where
    one : (x : Entry) → is_mild x ≡ true → is_apart x ≡ true
    one (Got c d m) q = absurd cc
    one (Ended c d) q = absurd cc
    one Logged q = absurd cc
    one LogFull q = absurd cc
    one Freed q = absurd cc
    one (Restarted b) q = absurd cc
    one _ q = refl

mild_apart : (es : List Entry) → Mild es → each is_apart es ≡ true
mild_apart es q = wide_mild is_apart wide_apart es q

stage_apart : (k : Coordinated) (x : Entry) → is_apart x ≡ true → awaits (stage_after k x) ≡ awaits k.stage
stage_apart k (Got c d m) q = absurd cc
stage_apart k (Ended c d) q = absurd cc
stage_apart k Logged q = absurd cc
stage_apart k LogFull q = absurd cc
stage_apart k Freed q = absurd cc
stage_apart k (Restarted b) q = absurd cc
stage_apart k (Sent (Enl e) Down EnlistSingle) q = by k.stage
  where
    by : (s : Stage) → awaits (stage_if (is_sole s) Given s) ≡ awaits s
    by Sole = refl
    by _ = refl
stage_apart k _ q = refl

stage_block : (h es : List Entry) → each is_apart es ≡ true → awaits (coordinate (onto h es)).stage ≡ awaits (coordinate h).stage
unfolding coordinate follow
stage_block h [] q = refl
stage_block h (x ∷ es) q = stage_block (x ∷ h) es (and_right (is_apart x) (each is_apart es) q) ∙ stage_apart (coordinate h) x (and_left (is_apart x) (each is_apart es) q)

-- The entry sends no ASK. So it is in each block but that of COMMIT.
abbrev is_unasking : Entry → Bool
is_unasking (Sent c Down m) = not (ASK m)
is_unasking _ = true

unasking : IsClosed (λ ws es. Each is_unasking es)
unasking = each_closed is_unasking refl (λ x. refl) (λ n x. refl) refl refl

unasking_entry : (s : Source) (x : Entry) → writes s x ≡ true → Each is_unasking (x ∷ [])
unasking_entry s x t = e_one x (passes x t)
  where
    passes : (x : Entry) → writes s x ≡ true → is_unasking x ≡ true
    passes (Sent c Down m) t = absurd cc
    passes _ t = refl

unasking_sent : (c : Conn) (m : Message) → has_line c Down m ≡ true → is_outcome_message m ≡ true → Each is_unasking (Sent c Down m ∷ [])
unasking_sent c m l o = e_one (Sent c Down m) (passes m o)
  where
    passes : (m : Message) → is_outcome_message m ≡ true → not (ASK m) ≡ true
    passes VoterAsk o = absurd cc
    passes _ o = refl

unasking_answer : (c : Conn) (m : Message) → is_asking c m ≡ false → (n : Message) → answers c m n ≡ true → not (ASK n) ≡ true
unasking_answer c m k VoterAsk t = absurd (not_both (is_asking c m) t k)
unasking_answer c m k _ t = refl

unasking_core : (id : ℕ) (k : Coordinated) (c : Conn) (m : Message) → is_asking c m ≡ false → each is_unasking (core_got id k c m) ≡ true
unasking_core id k c m n = (of_core_got (unasking.lists []) id k c m (λ d i l a. e_one (Sent d Down i) (unasking_answer c m n i a))).proof

-- where it has decided, that of COMMIT too
active_awaits : (s : Stage) → is_active s ≡ true → awaits s ≡ true
active_awaits Active t = refl
active_awaits _ t = absurd cc

unasking_commit : (id : ℕ) (k : Coordinated) → awaits k.stage ≡ false → each is_unasking (core_got id k Begin BeginCommit) ≡ true
unfolding core_got
unasking_commit id k n = by (is_active k.stage) (λ a. not_both (awaits k.stage) (active_awaits k.stage a) n)
  where
    by : (b : Bool) → (b ≡ true → ⊥) → each is_unasking (if b then to k Voter VoterAsk ++ to_each k EnlistPrepare k.desks else []) ≡ true
    by true f = absurd (f refl)
    by false f = refl

unasking_one : (id : ℕ) (k : Coordinated) → awaits k.stage ≡ false → each is_unasking (core_got id k Begin BeginCommitOne) ≡ true
unfolding core_got
unasking_one id k n = by (accepts k) (λ a. not_both (awaits k.stage) (active_awaits k.stage (and_left (is_active k.stage) (not k.commit) a)) n)
  where
    by : (b : Bool) → (b ≡ true → ⊥)
        → each is_unasking (if not b then [] else if is_one k.desks then to k Voter VoterAsk else abort_sends (follow k (Got Begin Up BeginCommitOne))) ≡ true
    by true f = absurd (f refl)
    by false f = refl

unasking_got : (id : ℕ) (k : Coordinated) (c : Conn) (m : Message) → awaits k.stage ≡ false → each is_unasking (core_got id k c m) ≡ true
unasking_got id k Begin BeginCommit n = unasking_commit id k n
unasking_got id k Begin BeginCommitOne n = unasking_one id k n
unasking_got id k c m n = unasking_core id k c m refl

unasking_abort : (k : Coordinated) → each is_unasking (abort_sends k) ≡ true
unasking_abort k = (of_abort_sends (unasking.lists []) k unasking_sent).proof

unasking_committed : (k : Coordinated) → each is_unasking (commit_sends k) ≡ true
unasking_committed k = (of_commit_sends (unasking.lists []) k unasking_sent).proof

unasking_end : (w : World) (c : Conn) (d : Dir) → each is_unasking (ended_at w c d) ≡ true
unasking_end w c Up = (of_core_down (unasking.lists []) (core w) c unasking_sent).proof
unasking_end w c Down = (of_local_down unasking (half w) c).proof

-- the local side's
unasking_local : (t : ℕ) (h : Half) (c : Conn) (m : Message) → each is_unasking (local_got t h c m) ≡ true
unfolding local_got
unasking_local t h c m = let g = sees h (Got c Down m) in (of_arrived unasking t g c m (unasking_entry (ByMessage g.waits c m))).proof

unasking_called : (t : ℕ) (w : World) (c : Call) (a : Answer) → each is_unasking (facts_if (has_facts a) (facts_at t w c a)) ≡ true
unasking_called t w c a = (of_called unasking t w c a (unasking_entry (ByCall c)) (λ d n m. e_one (Cut d n m) refl) (λ r. e_one (RecoveredEntry r) refl)).proof

unasking_reply : (h : Half) (e : EnlNo) (r : Reply) → each is_unasking (reply_entries h e r) ≡ true
unasking_reply h e r = (of_reply unasking h e r (unasking_entry (ByReply r))).proof

unasking_act : (h : Half) → each is_unasking (act_entries h) ≡ true
unasking_act h =
    (of_whole_act unasking h (unasking_entry (ByAct (is_some h.seen.decided))) (λ e. e_one (Asked e Promote) refl) (λ e. e_one (Asked e AskSingle) refl) (e_one Sealed refl)
    (λ m t. e_one (Sent Begin Up m) refl)).proof

-- what is sent, in a block or before it
sent_there : (c : Conn) (p : Message → Bool) (h es : List Entry) → has (is_sent_on c Down p) h ≡ true → has (is_sent_on c Down p) (onto h es) ≡ true
sent_there c p h es k = has-onto (is_sent_on c Down p) h es ∙ or_right (has (is_sent_on c Down p) es) (has (is_sent_on c Down p) h) k

sent_here : (c : Conn) (p : Message → Bool) (h es : List Entry) → has (is_sent_on c Down p) es ≡ true → has (is_sent_on c Down p) (onto h es) ≡ true
sent_here c p h es k = has-onto (is_sent_on c Down p) h es ∙ or_left (has (is_sent_on c Down p) es) (has (is_sent_on c Down p) h) k

unasking_unsent : (x : Entry) → is_unasking x ≡ true → is_sent_on Voter Down ASK x ≡ false
unasking_unsent (Sent Voter Down m) t = not_true (ASK m) t
unasking_unsent (Sent Voter Up m) t = refl
unasking_unsent (Sent Begin d m) t = refl
unasking_unsent (Sent (Enl e) d m) t = refl
unasking_unsent (Sent (Again e) d m) t = refl
unasking_unsent _ t = refl

apart_ungot : (c : Conn) (x : Entry) → is_apart x ≡ true → is_opening_got c x ≡ false
apart_ungot c (Got e d m) t = absurd cc
apart_ungot c _ t = refl

-- a block that leaves the stage and sends no ASK
apart_announces : (h es : List Entry) → each is_apart es ≡ true → each is_unasking es ≡ true → IsAnnounced h → IsAnnounced (onto h es)
apart_announces h es q s a =
    record {
      on_begin = λ n u. sent_there Begin OUTCOME h es (a.on_begin (sym (stage_block h es q) ∙ n) (none_before (is_end_on Begin Up) h es u));
      on_voter = λ n k u v. sent_there Voter VOTER_OUTCOME h es
          (a.on_voter (sym (stage_block h es q) ∙ n) (stood_before (is_sent_on Voter Down ASK) is_unasking unasking_unsent h es s k) (none_before (is_end_on Voter Up) h es u)
          (none_before (is_got_on Voter Up VOTER_NO) h es v));
    }

-- a block whose first entry may decide
head_announces : (x : Entry) (h es : List Entry) → each is_apart es ≡ true → is_unasking x ≡ true → (awaits (coordinate h).stage ≡ false → each is_unasking es ≡ true) → IsAnnounced h
    → (awaits (coordinate h).stage ≡ true → awaits (stage_after (coordinate h) x) ≡ false → IsAnnounced (onto (x ∷ h) es)) → IsAnnounced (onto (x ∷ h) es)
unfolding coordinate follow
head_announces x h es q s d a f = by (awaits (coordinate h).stage) refl (awaits (stage_after (coordinate h) x)) refl
  where
    open_still : awaits (stage_after (coordinate h) x) ≡ true → awaits (coordinate (onto (x ∷ h) es)).stage ≡ false → ⊥
    open_still c n = not_both (awaits (stage_after (coordinate h) x)) c (sym (stage_block (x ∷ h) es q) ∙ n)

    by : (b : Bool) → awaits (coordinate h).stage ≡ b → (c : Bool) → awaits (stage_after (coordinate h) x) ≡ c → IsAnnounced (onto (x ∷ h) es)
    by true e false c = f e c
    by true e true c = record { on_begin = λ n u. absurd (open_still c n); on_voter = λ n k u v. absurd (open_still c n) }
    by false e b c =
        let all = and_both (is_unasking x) (each is_unasking es) s (d e) in
        record {
          on_begin = λ n u. sent_there Begin OUTCOME h (x ∷ es) (a.on_begin e (none_before (is_end_on Begin Up) h (x ∷ es) u));
          on_voter = λ n k u v. sent_there Voter VOTER_OUTCOME h (x ∷ es)
              (a.on_voter e (stood_before (is_sent_on Voter Down ASK) is_unasking unasking_unsent h (x ∷ es) all k) (none_before (is_end_on Voter Up) h (x ∷ es) u)
              (none_before (is_got_on Voter Up VOTER_NO) h (x ∷ es) v));
        }

still : (x : Entry) (h : List Entry) {P : Type 0} → stage_after (coordinate h) x ≡ (coordinate h).stage → awaits (coordinate h).stage ≡ true → awaits (stage_after (coordinate h) x) ≡ false → P
still x h e u n = absurd (not_both (awaits (coordinate h).stage) u (sym (ap awaits e) ∙ n))

-- A connection whose opening message was got, and whose end wasn't seen, is known.

known : (c : Conn) (h : List Entry) → IsUnstopped h → has (is_opening_got c) h ≡ true → has (is_end_on c Up) h ≡ false → has (same_connection c) (coordinate h).known ≡ true
known c h u k e = opening_known c h (unstopped_wired h u) (has_more (is_opening_got c) (is_got_on c Up (is_opening c)) (opening_on c) h k) e

-- the voter's NO is noted only where it was got
no_noted : (h : List Entry) → (coordinate h).no ≡ true → has (is_got_on Voter Up VOTER_NO) h ≡ true
unfolding coordinate follow
no_noted [] t = absurd cc
no_noted (x ∷ h) t =
    or_case (is_no_got x && is_going (coordinate h).stage) (coordinate h).no
    (λ a. or_left (is_got_on Voter Up VOTER_NO x) (has (is_got_on Voter Up VOTER_NO) h) (on_voter x (and_left (is_no_got x) (is_going (coordinate h).stage) a)))
    (λ a. or_right (is_got_on Voter Up VOTER_NO x) (has (is_got_on Voter Up VOTER_NO) h) (no_noted h a)) t
  where
    on_voter : (x : Entry) → is_no_got x ≡ true → is_got_on Voter Up VOTER_NO x ≡ true
    on_voter (Got Voter Up VoterNo) t = refl
    on_voter _ t = absurd cc

no_unnoted : (h : List Entry) → has (is_got_on Voter Up VOTER_NO) h ≡ false → (coordinate h).no ≡ false
no_unnoted h n = false_from_ne_true (coordinate h).no (λ t. not_both (has (is_got_on Voter Up VOTER_NO) h) (no_noted h t) n)

-- what an abort and a commit send, where b is known, and where v is
abort_sent : (k : Coordinated) → has (same_connection Begin) k.known ≡ true → has (is_sent_on Begin Down OUTCOME) (abort_sends k) ≡ true
abort_sent k e = rw e refl

commit_sent : (k : Coordinated) → has (same_connection Begin) k.known ≡ true → has (is_sent_on Begin Down OUTCOME) (commit_sends k) ≡ true
commit_sent k e = rw e refl

abort_told : (k : Coordinated) → has (same_connection Voter) k.known ≡ true → k.no ≡ false → has (is_sent_on Voter Down VOTER_OUTCOME) (abort_sends k) ≡ true
abort_told k e n = rw (e, n) (by (has (same_connection Begin) k.known) (to_each k EnlistAbort (filter (λ d. still_hears d.ballot) k.desks)) (to_waiting k ReenlistAborted))
  where
    by : (b : Bool) (xs ys : List Entry) → has (is_sent_on Voter Down VOTER_OUTCOME) ((if b then Sent Begin Down BeginAborted ∷ [] else []) ++ (Sent Voter Down VoterAbort ∷ []) ++ xs ++ ys) ≡ true
    by true xs ys = refl
    by false xs ys = refl

commit_told : (k : Coordinated) → has (same_connection Voter) k.known ≡ true → has (is_sent_on Voter Down VOTER_OUTCOME) (commit_sends k) ≡ true
commit_told k e = rw e (by (has (same_connection Begin) k.known) (to_each k EnlistCommit (filter (λ d. is_prepared d.ballot) k.desks)) (to_waiting k ReenlistCommitted))
  where
    by : (b : Bool) (xs ys : List Entry) → has (is_sent_on Voter Down VOTER_OUTCOME) ((if b then Sent Begin Down BeginCommitted ∷ [] else []) ++ (Sent Voter Down VoterCommit ∷ []) ++ xs ++ ys) ≡ true
    by true xs ys = refl
    by false xs ys = refl

one_sent : (k : Coordinated) → has (same_connection Begin) k.known ≡ true → has (is_sent_on Begin Down OUTCOME) (one_sends k) ≡ true
one_sent k e = rw e refl

doubt_sent : (k : Coordinated) → has (same_connection Begin) k.known ≡ true → has (is_sent_on Begin Down OUTCOME) (doubt_sends k) ≡ true
doubt_sent k e = rw e refl

one_told : (k : Coordinated) → has (same_connection Voter) k.known ≡ true → has (is_sent_on Voter Down VOTER_OUTCOME) (one_sends k) ≡ true
one_told k e = rw e (by (has (same_connection Begin) k.known))
  where
    by : (b : Bool) → has (is_sent_on Voter Down VOTER_OUTCOME) ((if b then Sent Begin Down BeginCommitted ∷ [] else []) ++ (Sent Voter Down VoterCommit ∷ [])) ≡ true
    by true = refl
    by false = refl

doubt_told : (k : Coordinated) → has (same_connection Voter) k.known ≡ true → has (is_sent_on Voter Down VOTER_OUTCOME) (doubt_sends k) ≡ true
doubt_told k e = rw e (by (has (same_connection Begin) k.known))
  where
    by : (b : Bool) → has (is_sent_on Voter Down VOTER_OUTCOME) ((if b then Sent Begin Down BeginInDoubt ∷ [] else []) ++ (Sent Voter Down VoterInDoubt ∷ [])) ≡ true
    by true = refl
    by false = refl

-- a block after a decision that sends it where it is known, where BEGIN was got
decision_announces : (h es : List Entry) → IsUnstopped (onto h es) → each is_apart es ≡ true → (has (is_end_on Begin Up) h ≡ false → has (is_opening_got Begin) h ≡ true)
    → (has (same_connection Begin) (coordinate h).known ≡ true → has (is_sent_on Begin Down OUTCOME) es ≡ true)
    → (has (same_connection Voter) (coordinate h).known ≡ true → (coordinate h).no ≡ false → has (is_sent_on Voter Down VOTER_OUTCOME) es ≡ true) → IsAnnounced (onto h es)
decision_announces h es u q o f g =
    let here = unstopped_under h es u in
    record {
      on_begin = λ n e. let unended = none_before (is_end_on Begin Up) h es e in sent_here Begin OUTCOME h es (f (known Begin h here (o unended) unended));
      on_voter = λ n k e v.
          sent_here Voter VOTER_OUTCOME h es
          (g (known Voter h here (stood_before (is_opening_got Voter) is_apart (apart_ungot Voter) h es q (sent_opened_there Voter ASK (onto h es) u.keeps k)) (none_before (is_end_on Voter Up) h es e))
          (no_unnoted h (none_before (is_got_on Voter Up VOTER_NO) h es v)));
    }

abort_announces : (h : List Entry) → IsUnstopped (onto h (abort_sends (coordinate h))) → (has (is_end_on Begin Up) h ≡ false → has (is_opening_got Begin) h ≡ true) → IsAnnounced (onto h (abort_sends (coordinate h)))
abort_announces h u o = decision_announces h (abort_sends (coordinate h)) u (mild_apart (abort_sends (coordinate h)) (m_abort (coordinate h))) o (abort_sent (coordinate h)) (abort_told (coordinate h))

commit_announces : (h : List Entry) → IsUnstopped (onto h (commit_sends (coordinate h))) → (has (is_end_on Begin Up) h ≡ false → has (is_opening_got Begin) h ≡ true) → IsAnnounced (onto h (commit_sends (coordinate h)))
commit_announces h u o = decision_announces h (commit_sends (coordinate h)) u (mild_apart (commit_sends (coordinate h)) (m_commit (coordinate h))) o (commit_sent (coordinate h)) (λ k n. commit_told (coordinate h) k)

-- what the one that was let decide said, or the coordinator's doubt: k knows what is known here
one_announces : (h : List Entry) (k : Coordinated) → (coordinate h).known ≡ k.known → IsUnstopped (onto h (one_sends k)) → (has (is_end_on Begin Up) h ≡ false → has (is_opening_got Begin) h ≡ true) → IsAnnounced (onto h (one_sends k))
one_announces h k q u o =
    decision_announces h (one_sends k) u (mild_apart (one_sends k) (m_one k)) o (λ t. one_sent k (ap (has (same_connection Begin)) (sym q) ∙ t)) (λ t n. one_told k (ap (has (same_connection Voter)) (sym q) ∙ t))

doubt_announces : (h : List Entry) (k : Coordinated) → (coordinate h).known ≡ k.known → IsUnstopped (onto h (doubt_sends k)) → (has (is_end_on Begin Up) h ≡ false → has (is_opening_got Begin) h ≡ true)
    → IsAnnounced (onto h (doubt_sends k))
doubt_announces h k q u o =
    decision_announces h (doubt_sends k) u (mild_apart (doubt_sends k) (m_doubt k)) o (λ t. doubt_sent k (ap (has (same_connection Begin)) (sym q) ∙ t)) (λ t n. doubt_told k (ap (has (same_connection Voter)) (sym q) ∙ t))

-- A message that the coordinator gets.
got_announces : (id : ℕ) (c : Conn) (m : Message) (h : List Entry) → IsUnstopped (onto (Got c Up m ∷ h) (core_got id (coordinate h) c m)) → IsAnnounced h
    → IsAnnounced (onto (Got c Up m ∷ h) (core_got id (coordinate h) c m))
unfolding coordinate follow
got_announces id c m h u a =
    let x = Got c Up m in
    let k = coordinate h in
    let block = core_got id k c m in
    head_announces x h block (mild_apart block (m_core_got id k c m)) refl (unasking_got id k c m) a (decides u)
  where
    here : List Entry
    here = Got c Up m ∷ h

    verdict : (es : List Entry) → core_got id (coordinate h) c m ≡ es → (IsUnstopped (onto here es) → IsAnnounced (onto here es)) → IsUnstopped (onto here (core_got id (coordinate h) c m))
        → IsAnnounced (onto here (core_got id (coordinate h) c m))
    verdict es e f u =
        let P : List Entry → Type 0 = λ fs. IsAnnounced (onto here fs) in
        let Q : List Entry → Type 0 = λ fs. IsUnstopped (onto here fs) in
        subst P (sym e) (f (subst Q e u))

    decides : IsUnstopped (onto (Got c Up m ∷ h) (core_got id (coordinate h) c m)) → awaits (coordinate h).stage ≡ true → awaits (stage_after (coordinate h) (Got c Up m)) ≡ false
        → IsAnnounced (onto (Got c Up m ∷ h) (core_got id (coordinate h) c m))
    decides u s n =
        let k = (unstopped_under here (core_got id (coordinate h) c m) u).keeps in
        let begun = begun_then awaits awaits_upheld c m h k s n in
        by (λ e. or_right (is_opening_got Begin (Got c Up m)) (has (is_opening_got Begin) h) begun) (got_verdict awaits awaits_upheld id c m (coordinate h) (got_line c Up m h k) s n)
      where
        by : (has (is_end_on Begin Up) here ≡ false → has (is_opening_got Begin) here ≡ true) → IsVerdict (coordinate h) (Got c Up m) (core_got id (coordinate h) c m) → IsAnnounced (onto here (core_got id (coordinate h) c m))
        by o (inl e) = verdict (abort_sends (coordinate here)) e (λ v. abort_announces here v o) u
        by o (inr (s, q, inl e)) = verdict (one_sends (coordinate h)) e (λ v. one_announces here (coordinate h) q v o) u
        by o (inr (s, q, inr e)) = verdict (doubt_sends (coordinate h)) e (λ v. doubt_announces here (coordinate h) q v o) u

-- An end that it sees.
end_announces : (w : World) (c : Conn) → IsUnstopped (onto (Ended c Up ∷ w.past) (ended_at w c Up)) → IsAnnounced w.past → IsAnnounced (onto (Ended c Up ∷ w.past) (ended_at w c Up))
unfolding coordinate follow
end_announces w c u a =
    head_announces (Ended c Up) w.past (ended_at w c Up) (mild_apart (ended_at w c Up) (m_ended_at w c Up)) refl (λ n. unasking_end w c Up) a (decides u)
  where
    here : List Entry
    here = Ended c Up ∷ w.past

    verdict : (es : List Entry) → ended_at w c Up ≡ es → (IsUnstopped (onto here es) → IsAnnounced (onto here es)) → IsUnstopped (onto here (ended_at w c Up)) → IsAnnounced (onto here (ended_at w c Up))
    verdict es e f u =
        let P : List Entry → Type 0 = λ fs. IsAnnounced (onto here fs) in
        let Q : List Entry → Type 0 = λ fs. IsUnstopped (onto here fs) in
        subst P (sym e) (f (subst Q e u))

    not_begin : has (is_end_on Begin Up) here ≡ false → c ≡ Begin → ⊥
    not_begin e q = let P : Conn → Type 0 = λ d. has (is_end_on Begin Up) (Ended d Up ∷ w.past) ≡ false in let never : true ≡ false = subst P q e in absurd cc

    decides : IsUnstopped (onto (Ended c Up ∷ w.past) (ended_at w c Up)) → awaits (coordinate w.past).stage ≡ true → awaits (stage_after (coordinate w.past) (Ended c Up)) ≡ false
        → IsAnnounced (onto (Ended c Up ∷ w.past) (ended_at w c Up))
    decides u s n =
        let k = (unstopped_under here (ended_at w c Up) u).keeps in
        by (λ e. end_begun awaits awaits_upheld c w.past k s n (not_begin e)) (end_verdict awaits awaits_upheld (coordinate w.past) c s n)
      where
        by : (has (is_end_on Begin Up) here ≡ false → has (is_opening_got Begin) here ≡ true)
            → (core_down (coordinate w.past) c ≡ abort_sends (coordinate here)) ⊎ ((stage_after (coordinate w.past) (Ended c Up) ≡ Answered) × (core_down (coordinate w.past) c ≡ doubt_sends (coordinate here)))
            → IsAnnounced (onto here (ended_at w c Up))
        by o (inl e) = verdict (abort_sends (coordinate here)) e (λ v. abort_announces here v o) u
        by o (inr (s, e)) = verdict (doubt_sends (coordinate here)) e (λ v. doubt_announces here (coordinate here) refl v o) u

-- A delivery.
pub stage_down : (k : Coordinated) (c : Conn) (m : Message) → stage_after k (Got c Down m) ≡ k.stage
stage_down k Begin m = refl
stage_down k Voter m = refl
stage_down k (Enl e) m = refl
stage_down k (Again e) m = refl

delivered_announces : (t : ℕ) (w : World) (c : Conn) (d : Dir) (ms : List Message) → IsUnstopped (onto w.past (delivered t w c d ms)) → IsAnnounced w.past → IsAnnounced (onto w.past (delivered t w c d ms))
delivered_announces t w c Up [] u a = end_announces w c u a
delivered_announces t w c Down [] u a =
    head_announces (Ended c Down) w.past (ended_at w c Down) (mild_apart (ended_at w c Down) (m_ended_at w c Down)) refl (λ n. unasking_end w c Down) a (λ s n. still (Ended c Down) w.past refl s n)
delivered_announces t w c Up (m ∷ ms) u a = got_announces (identifier_of t) c m w.past u a
delivered_announces t w c Down (m ∷ ms) u a =
    head_announces (Got c Down m) w.past (local_got t (half w) c m) (mild_apart (local_got t (half w) c m) (m_local_got t (half w) c m)) refl (λ n. unasking_local t (half w) c m) a
    (λ s n. still (Got c Down m) w.past (stage_down (coordinate w.past) c m) s n)

-- the log's
recorded_open : (p : Stage → Bool) → p Recorded ≡ false → (s : Stage) → is_recorded s ≡ true → p s ≡ true → ⊥
recorded_open p n Recorded r u = not_both (p Recorded) u n
recorded_open p n _ r u = absurd cc

pub free_recorded : (p : Stage → Bool) → p Recorded ≡ false → (k : Coordinated) → may_free k ≡ true → p k.stage ≡ true → ⊥
unfolding may_free
free_recorded p n k f u = recorded_open p n k.stage (and_right (not k.stopped) (is_recorded k.stage) (and_left (not k.stopped && is_recorded k.stage) _ f)) u

pub log_active : (k : Coordinated) → may_log k ≡ true → is_active k.stage ≡ true
unfolding may_log
log_active k l = second (not k.stopped) (is_active k.stage) k.commit k.yes _ l
  where
    second : (a b c d e : Bool) → (a && b && c && d && e) ≡ true → b ≡ true
    second a b c d e k = and_right a b (and_left (a && b) c (and_left (a && b && c) d (and_left (a && b && c && d) e k)))

log_announces : (a : LogAnswer) (h : List Entry) → may_log (coordinate h) ≡ true → IsUnstopped (onto h (appended (coordinate h) a)) → IsAnnounced h → IsAnnounced (onto h (appended (coordinate h) a))
unfolding coordinate
log_announces Done h l u n =
    let k = follow (coordinate h) Logged in
    head_announces Logged h (commit_sends k) (mild_apart (commit_sends k) (m_commit k)) refl (λ d. unasking_committed k) n
    (λ s d. commit_announces (Logged ∷ h) u (λ e. begun_if_active h (log_active (coordinate h) l)))
log_announces Full h l u n =
    let k = follow (coordinate h) LogFull in
    head_announces LogFull h (abort_sends k) (mild_apart (abort_sends k) (m_abort k)) refl (λ d. unasking_abort k) n
    (λ s d. abort_announces (LogFull ∷ h) u (λ e. begun_if_active h (log_active (coordinate h) l)))
log_announces StoppedNow h l u n = let q : true ≡ false = u.unstopped in absurd cc
log_announces StoppedBefore h l u n = let q : true ≡ false = u.unstopped in absurd cc

free_announces : (a : LogAnswer) (h : List Entry) → may_log (coordinate h) ≡ false → may_coordinate (coordinate h) a ≡ true → IsAnnounced h → IsAnnounced (onto h (freed a))
free_announces Done h e c n =
    head_announces Freed h [] refl refl (λ d. refl) n
    (λ s d. absurd
    (free_recorded awaits refl (coordinate h) (or_case (may_log (coordinate h)) (may_free (coordinate h) && true) (λ l. absurd (not_both (may_log (coordinate h)) l e)) (λ f. and_left (may_free (coordinate h)) true f) c) s))
free_announces Full h e c n = n
free_announces StoppedNow h e c n = apart_announces h (Stopped ∷ []) refl refl n
free_announces StoppedBefore h e c n = apart_announces h (Stopped ∷ []) refl refl n

coordinates_announces : (a : LogAnswer) (h : List Entry) (b : Bool) → may_log (coordinate h) ≡ b → may_coordinate (coordinate h) a ≡ true → IsUnstopped (onto h (if b then appended (coordinate h) a else freed a)) → IsAnnounced h
    → IsAnnounced (onto h (if b then appended (coordinate h) a else freed a))
coordinates_announces a h true e c u n = log_announces a h e u n
coordinates_announces a h false e c u n = free_announces a h e c n

-- a restart comes with a stop
restarted_announces : (h : List Entry) (b found : Bool) → IsUnstopped (onto h (restarted b found)) → IsAnnounced (onto h (restarted b found))
restarted_announces h true found u = absurd (not_both (is_stopped h) (newest (Restarted found) h u.keeps) (unstopped h (or_second (is_stop (Restarted found)) (has is_stop h) u.unstopped)))
restarted_announces h false found u = let lost : true ≡ false = u.unstopped in absurd cc

reenlist_apart : (t : ℕ) (o : Option Branch) (f : Bool) → each is_apart (facts_if f (reenlist_facts t o)) ≡ true
reenlist_apart t o false = refl
reenlist_apart t None true = refl
reenlist_apart t (Some b) true = refl

-- after each step
step_announces : (G : ℕ → ActorNo → Call → Type 0) (t : ℕ) (w : World) (m : Step) → MayCome G t w m → IsUnstopped (after t w m).past → IsAnnounced w.past → IsAnnounced (after t w m).past
unfolding after block_at
step_announces G t w (Calls n a (Reenlist e) i) q s g =
    let y = answer_at t w (Reenlist e) i in
    let o = find (is_branch e.value) (half w).seen.branches in
    apart_announces w.past (Called n a y ∷ facts_if (has_facts y) (reenlist_facts t o)) (reenlist_apart t o (has_facts y)) (unasking_called t w (Reenlist e) y) g
step_announces G t w (Calls n a c i) q s g =
    let y = answer_at t w c i in
    apart_announces w.past (Called n a y ∷ facts_if (has_facts y) (facts_at t w c y)) (wide_called is_apart wide_apart t w c y refl) (unasking_called t w c y) g
step_announces G t w (Replies e r) q s g = apart_announces w.past (reply_entries (half w) e r) (wide_reply is_apart wide_apart (half w) e r) (unasking_reply (half w) e r) g
step_announces G t w Acts q s g = apart_announces w.past (act_entries (half w)) (mild_apart (act_entries (half w)) (m_act (half w))) (unasking_act (half w)) g
step_announces G t w (Coordinates a) q s g = coordinates_announces a w.past (may_log (core w)) refl q s g
step_announces G t w (Delivers c d) q s g = delivered_announces t w c d (in_transit c d w.past) s g
step_announces G t w Stops q s g = apart_announces w.past (Stopped ∷ []) refl refl g
step_announces G t w (Restarts found) q s g = restarted_announces w.past (core w).stopped found s

-- it is so at the start
none_announced : IsAnnounced []
unfolding coordinate
none_announced = record { on_begin = λ n e. absurd cc; on_voter = λ n k e v. absurd cc }

-- so in each world that steps made, in which the coordinator didn't stop
pub ran_announces : (G : ℕ → ActorNo → Call → Type 0) (t : ℕ) (ms : List Step) (w : World) → Ran G t ms w → IsUnstopped w.past → IsAnnounced w.past
unfolding after
ran_announces G t [] w r u = subst IsAnnounced (sym r.1) none_announced
ran_announces G t (m ∷ ms) w r u =
    let v = r.0 in
    let now = subst (λ (x : World). IsUnstopped x.past) r.3 u in
    subst (λ (x : World). IsAnnounced x.past) (sym r.3) (step_announces G t v m r.2 now (ran_announces G t ms v r.1 (unstopped_under v.past (block_at t v m) now)))
