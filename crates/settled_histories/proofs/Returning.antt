-- In each world that steps made, connections may have been cut and the coordinator may have stopped and been started again: whoever came back and was neither told nor broken off since has its
-- REENLIST or an answer on the way, or waits where nothing is decided.
use Rattle.std.proofs.Common.{◌≡◌, ℕ, ◌==◌, Bool, true, false, ◌&&◌, ◌||◌, ◌⊎◌, inl, inr, List, [], ◌∷◌, Option, Some, None, is_none, is_some, refl, ◌∙◌, ap, sym, subst}
use Rattle.std.specs.Prelude.{find, map, not, if◌then◌else◌}
use Rattle.std.proofs.lemmas.Bool.{eqb-true, false_from_ne_true, or_left}
use Rattle.dtx_values.specs.declared.call.Call.{Call}
use Rattle.dtx_values.specs.declared.call.Call.TheVariants.{Recovered, Reenlist}
use Rattle.dtx_values.specs.declared.entry.Answer.{Answer}
use Rattle.dtx_values.specs.declared.entry.Answer.TheVariants.{Connected, Fine, Finished, NoSuch, NotBegun, Over as OverAnswer, Stopped as StoppedAnswer}
use Rattle.dtx_values.specs.declared.entry.Entry.{Entry}
use Rattle.dtx_values.specs.declared.entry.Entry.TheVariants.{Called, Down as Ended, Freed, Got, LogFull, Logged, Recovered as RecoveredEntry, Reenlisted, Restarted, Sent, Stopped, Told}
use Rattle.dtx_values.specs.declared.entry.Party.TheVariants.{Enl as Member}
use Rattle.dtx_values.specs.declared.message.Conn.{Conn}
use Rattle.dtx_values.specs.declared.message.Conn.TheVariants.{Enl, Again}
use Rattle.dtx_values.specs.declared.message.Dir.{Dir}
use Rattle.dtx_values.specs.declared.message.Dir.TheVariants.{Up, Down}
use Rattle.dtx_values.specs.declared.message.Message.{Message}
use Rattle.dtx_values.specs.declared.message.Message.TheVariants.{ReenlistAborted, ReenlistCommitted, ReenlistReenlist}
use Rattle.dtx_values.specs.declared.message.Info.{Info}
use Rattle.dtx_values.specs.declared.note.Note.{Note}
use Rattle.dtx_values.specs.declared.note.Note.TheVariants.{Prepare as PrepareNote, Promote as PromoteNote, Hand as HandNote, Single as SingleNote}
use Rattle.dtx_values.specs.declared.note.Reply.{Reply}
use Rattle.dtx_values.specs.declared.note.Reply.TheVariants.{Vote as VoteReply, Promote as Promotes, Owner as OwnerReply, Ack}
use Rattle.dtx_values.specs.declared.number.ActorNo.{ActorNo}
use Rattle.dtx_values.specs.declared.number.EnlNo.{EnlNo}
use Rattle.dtx_values.specs.declared.number.RmNo.{RmNo}
use Rattle.dtx_values.specs.declared.number.TxNo.{TxNo}
use Rattle.dtx_values.specs.Ends.{is_in, knows, same_connection, same_direction, with_tag}
use Rattle.dtx_values.specs.Lines.{has_line}
use Rattle.dtx_values.specs.declared.row.Row.{Row}
use Rattle.dtx_values.specs.Row.{has_voted, is_marked, is_of}
use Rattle.dtx_values.specs.Class.{is_volatile}
use Rattle.dtx_values.specs.declared.words.Vote.{Vote}
use Rattle.dtx_values.specs.declared.words.Outcome.{Outcome}
use Rattle.dtx_values.specs.declared.words.Outcome.TheVariants.{Aborted as AbortedOutcome, Committed}
use Rattle.dtx_model.specs.declared.branch.Branch.{Branch}
use Rattle.dtx_model.specs.declared.desk.Stage.{Stage}
use Rattle.dtx_model.specs.declared.desk.Stage.TheVariants.{Aborted, Active, Answered, Given, Idle, Over, Recorded, Sole, Unknown}
use Rattle.dtx_model.specs.Words.{each, has, latest, onto, or_else}
use Rattle.dtx_model.specs.Entries.{handed_of, is_hand}
use Rattle.dtx_model.specs.Observed.{branch_due, branches, due_in, ends_of, is_branch, observe, rows}
use Rattle.dtx_model.specs.Outcome.{is_empty}
use Rattle.dtx_model.specs.Promotes.{identifier_of, is_enlisted_got}
use Rattle.dtx_model.specs.Tied.{tied}
use Rattle.dtx_model.specs.Wires.{begins_ended, ended_after, ends, in_transit, is_ended, is_stopped, loses, lost_after, lost_since, opened_with, opens}
use Rattle.dtx_model.specs.Coordinated.{abort_sends, commit_sends, coordinate, core_got, follow, has_aborted, is_recorded, may_free, may_log, to}
use Rattle.dtx_model.specs.Half.{Half, info, is_gone, is_handed, was_told}
use Rattle.dtx_model.specs.Arrivals.{local_got}
use Rattle.dtx_model.specs.Acts.{act_entries}
use Rattle.dtx_model.specs.Answers.{if_begun}
use Rattle.dtx_model.specs.Facts.{facts_if, has_facts}
use Rattle.dtx_model.specs.Replies.{conn_due, due_conn, due_of, fits, is_volatile_row, may_still_vote, note_of_conn, note_of_row, owes_outcome, owes_promotion, owes_request, owes_vote, reply_entries, row_note}
use Rattle.dtx_model.specs.World.{World, answer_at, branch_answer, branches_by, core, facts_at, half, has_left, is_connected, is_finished_there, is_linked, is_unfinished_link, recovered_answer, reenlist_answer, reenlist_by, reenlist_facts, unless_connected, unless_stopped, was_opened}
use Rattle.dtx_model.specs.Steps.{LogAnswer, Done, Full, StoppedBefore, StoppedNow, Step, Calls, Replies, Acts, Coordinates, Delivers, Stops, Restarts, after, appended, block_at, called, delivered, ended_at, freed, restarted}
use Rattle.dtx_model.specs.Caused.{AreMadeOnce, MayCome, Ran, may_coordinate}
use Rattle.dtx_model.proofs.Bools.{and_both, and_left, and_right, not_both, not_false, not_true, or_case, or_false, or_first, or_right}
use Rattle.dtx_model.proofs.Connections.{same_is, same_way_is}
use Rattle.dtx_values.proofs.SameNumbers.{same_enlistment}
use Rattle.history_table.proofs.Tests.{eq_self}
use Rattle.history_table.proofs.Scans.{each-at, find_none, has_more}
use Rattle.history_table.proofs.Lists.{found_at, has-at}
use Rattle.history_table.proofs.Owned.{has_filter}
use Rattle.history_table.proofs.Table.{is_enlist_got, is_opening_got, stands_volatile}
use Rattle.history_table.proofs.Keeping.{Keeps, before as stands_before, keeps_before}
use Rattle.history_table.proofs.Handing.{keeps_within}
use Rattle.history_table.proofs.Sendings.{got_line}
use Rattle.history_table.proofs.Crossed.{IsStill, down_more, end_still, is_got_on, since_opened, still_more, stopped_down}
use Rattle.history_table.proofs.CameBack.{alone_if_opened}
use Rattle.history_table.proofs.Undecided.{hand_seen}
use Rattle.history_table.proofs.CoreStages.{has_recorded, recorded_mark, stopped_same}
use Rattle.history_table.proofs.CoreKnown.{enlist_of, got_there, record_seen}
use Rattle.history_table.proofs.HalfKnows.{one_tag_more}
use Rattle.history_table.proofs.HalfReplies.{owed, volatile_seen}
use Rattle.history_table.proofs.Standing.{unvolatile_if_opened}
use Rattle.settled_histories.proofs.MildBlocks.{IsWide, is_mild, wide_reply}
use Rattle.history_table.proofs.Steady.{run_keeps, run_stands, tied_under}
use Rattle.settled_histories.proofs.Announced.{free_recorded}
use Rattle.settled_histories.proofs.Awaits.{withholds}
use Rattle.history_table.proofs.EntryTests.{is_return}
use Rattle.history_table.proofs.Marks.{IsMarked, enlisted_on, opened_if_returned, return_row}
use Rattle.history_table.proofs.Reenlisted.{opened_since}
use Rattle.history_table.proofs.Managed.{branches_managed, is_enlist_by, is_managed_branch, one_manager}
use Rattle.settled_histories.proofs.Finished.{opened_branch, finished_seen, is_finished, unfinished_more}
use Rattle.settled_histories.proofs.FreedDesks.{AreFreed, never_freed, none_freed, step_freed}
use Rattle.settled_histories.proofs.Awaiting.{is_asking_back, is_back, is_number, is_underway, is_waiting_there, next_asks, own_down, own_next}
use Rattle.settled_histories.proofs.Back.{IsAnswering, IsBack, IsReady, back_beyond, back_entry, back_returned, block_answers, head_answers, is_sent_to, is_undue, lasting_answers, was_back}
use Rattle.settled_histories.proofs.BackBlocks.{again_same, down_same, end_reaches, end_same, full_reaches, got_reaches, is_own_reply, lasting_abort, lasting_act, lasting_called, lasting_commit, lasting_core_got, lasting_ended_at, lasting_local_got, lasting_reply, logged_reaches, to_known}
use Rattle.settled_histories.proofs.CommonBlocks.{is_reenlist}

-- what is so of each that is back
abbrev AreAnswering : List Entry → Type 0
AreAnswering h = (e : EnlNo) → is_back e.value h ≡ true → IsAnswering e h

-- A message that comes up on the connection of its own reenlistment.
enlist_came : (e : EnlNo) (h : List Entry) → Keeps h → has (is_return e.value) h ≡ true → has (is_enlist_got e.value) h ≡ true
enlist_came e h k t =
    has_more (is_opening_got (Enl e)) (is_enlist_got e.value) (enlist_of e.value e (eq_self e.value)) h
    (got_there (Enl e) (λ m. true) h k (has_more (is_enlisted_got e.value) (is_got_on (Enl e) Down (λ m. true)) (enlisted_on e) h (stands_before (is_return e.value) (is_enlisted_got e.value) (return_row e.value) h k t)))

over_stage : (s : Stage) → is_recorded s ≡ false → has_aborted s ≡ false → withholds s ≡ false → has_recorded s ≡ true
over_stage Over r a u = refl
over_stage Idle r a u = absurd cc
over_stage Active r a u = absurd cc
over_stage Sole r a u = absurd cc
over_stage Given r a u = absurd cc
over_stage Answered r a u = absurd cc
over_stage Aborted r a u = absurd cc
over_stage Unknown r a u = absurd cc
over_stage Recorded r a u = refl

known_there : (e f : EnlNo) (m n : Message) (h : List Entry) → (e.value == f.value) ≡ true → is_waiting_there e (Got (Again f) Up m ∷ h) ≡ true
    → has (is_sent_to e) (to (follow (coordinate h) (Got (Again f) Up m)) (Again f) n) ≡ true
unfolding coordinate
known_there e f m n h q t =
    let k = follow (coordinate h) (Got (Again f) Up m) in
    to_known e k f n q (and_right (has (is_number e.value) k.waits) (has (same_connection (Again e)) k.known) t)

reenlist_ready : (e f : EnlNo) (id : ℕ) (i : Info) (h : List Entry) → Keeps h → (e.value == f.value) ≡ true → AreFreed h → is_back e.value h ≡ true → IsBack e h
    → is_waiting_there e (Got (Again f) Up (ReenlistReenlist i) ∷ h) ≡ true
    → (withholds (coordinate (Got (Again f) Up (ReenlistReenlist i) ∷ h)).stage ≡ true) ⊎ (has (is_sent_to e) (core_got id (coordinate h) (Again f) (ReenlistReenlist i)) ≡ true)
unfolding core_got
reenlist_ready e f id i h k q w b a t = pick (is_recorded (coordinate h).stage) (has_aborted (coordinate h).stage) (withholds (coordinate h).stage) refl refl refl
  where
    pick : (r v u : Bool) → is_recorded (coordinate h).stage ≡ r → has_aborted (coordinate h).stage ≡ v → withholds (coordinate h).stage ≡ u
        → (withholds (coordinate (Got (Again f) Up (ReenlistReenlist i) ∷ h)).stage ≡ true)
        ⊎ (has (is_sent_to e) (if r then to (follow (coordinate h) (Got (Again f) Up (ReenlistReenlist i))) (Again f) ReenlistCommitted else if v then to (follow (coordinate h) (Got (Again f) Up (ReenlistReenlist i))) (Again f) ReenlistAborted else []) ≡ true)
    pick true v u x y z = inr (known_there e f (ReenlistReenlist i) ReenlistCommitted h q t)
    pick false true u x y z = inr (known_there e f (ReenlistReenlist i) ReenlistAborted h q t)
    pick false false true x y z = inl (ap withholds (again_same f (ReenlistReenlist i) h) ∙ z)
    pick false false false x y z =
        absurd (never_freed e h w (record_seen h k (over_stage (coordinate h).stage x y z)) (sym (recorded_mark h) ∙ x) (enlist_came e h k (back_returned e.value h b)) a.unfinished a.unrecovered)

other_ready : (e f : EnlNo) (m : Message) (h es : List Entry) → Keeps (Got (Again f) Up m ∷ h) → (e.value == f.value) ≡ true → is_reenlist m ≡ false → IsAnswering e h → IsReady e (Got (Again f) Up m ∷ h) es
other_ready e f m h es k q n a u = by (is_underway e h) refl
  where
    by : (b : Bool) → is_underway e h ≡ b → (withholds (coordinate (Got (Again f) Up m ∷ h)).stage ≡ true) ⊎ (has (is_sent_to e) es ≡ true)
    by false c = inl (ap withholds (again_same f m h) ∙ a.heard c)
    by true c =
        or_case (is_asking_back (in_transit (Again e) Up h)) (not (is_empty (in_transit (Again e) Down h)))
        (λ v. absurd (not_both (is_reenlist m) (next_asks m (in_transit (Again e) Up h) (own_next e f m h k q) v) n))
        (λ v. absurd (not_both (is_underway e (Got (Again f) Up m ∷ h)) (own_down e f m h k v) u)) c

own_ready : (e f : EnlNo) (id : ℕ) (m : Message) (h : List Entry) → Keeps (Got (Again f) Up m ∷ h) → Keeps h → (e.value == f.value) ≡ true → AreFreed h → is_back e.value h ≡ true → IsAnswering e h → IsBack e (Got (Again f) Up m ∷ h)
    → IsReady e (Got (Again f) Up m ∷ h) (core_got id (coordinate h) (Again f) m)
own_ready e f id (ReenlistReenlist i) h k past q w b a now = λ u.
    let x = Got (Again f) Up (ReenlistReenlist i) in
    reenlist_ready e f id i h past q w b a.back
    (or_case (is_underway e (x ∷ h)) (is_waiting_there e (x ∷ h)) (λ c. absurd (not_both (is_underway e (x ∷ h)) c u)) (λ c. c) now.awaited.way)
own_ready e f id m h k past q w b a now = other_ready e f m h (core_got id (coordinate h) (Again f) m) k q refl a

own_answers : (e : EnlNo) (id : ℕ) (m : Message) (h : List Entry) → AreFreed h → (is_back e.value h ≡ true → IsAnswering e h) → Keeps (onto (Got (Again e) Up m ∷ h) (core_got id (coordinate h) (Again e) m))
    → is_back e.value (onto (Got (Again e) Up m ∷ h) (core_got id (coordinate h) (Again e) m)) ≡ true
    → IsAnswering e (onto (Got (Again e) Up m ∷ h) (core_got id (coordinate h) (Again e) m))
own_answers e id m h w f k t =
    let x = Got (Again e) Up m in
    let es = core_got id (coordinate h) (Again e) m in
    let now = keeps_within (x ∷ h) es k in
    let past = keeps_within h (x ∷ es) k in
    block_answers e (x ∷ h) es (lasting_core_got e id (coordinate h) (Again e) m) k
    (λ b. let was = was_back e.value x h refl b in
    let back = back_entry e x h now past refl refl (λ q. (f q).back) b in
    (back, own_ready e e id m h now past (eq_self e.value) w was.before (f was.before) back)) t

-- Whoever a message comes down to is told.
untold : (e : EnlNo) (o : Outcome) (h : List Entry) → is_back e.value (Told (Member e) o ∷ h) ≡ true → ⊥
untold e o h b = let w = was_back e.value (Told (Member e) o) h refl b in not_both (e.value == e.value) (eq_self e.value) w.untold

told_off : (e : EnlNo) (t : ℕ) (v : Half) (m : Message) (h : List Entry) → has_line (Again e) Down m ≡ true → is_back e.value (onto (Got (Again e) Down m ∷ h) (local_got t v (Again e) m)) ≡ true → ⊥
unfolding local_got
told_off e t v ReenlistCommitted h l b = untold e Committed (Got (Again e) Down ReenlistCommitted ∷ h) b
told_off e t v ReenlistAborted h l b = untold e AbortedOutcome (Got (Again e) Down ReenlistAborted ∷ h) b
told_off e t v _ h l b = absurd cc

-- The deliveries.
got_other : (e : EnlNo) (c : Conn) (d r : Dir) (m n : Message) (y : Conn) → same_connection (Again e) c ≡ false → Got c d m ≡ Got y r n → same_connection (Again e) y ≡ false
got_other e c d r m n y q t = let same : c ≡ y = cc in let P : Conn → Type 0 = λ z. same_connection (Again e) z ≡ false in subst P same q

delivered_answers : (t : ℕ) (w : World) (c : Conn) (d : Dir) (ms : List Message) → AreFreed w.past → AreAnswering w.past → Keeps (onto w.past (delivered t w c d ms))
    → AreAnswering (onto w.past (delivered t w c d ms))
delivered_answers t w c Up [] r f k e b =
    head_answers e (Ended c Up) w.past (ended_at w c Up) refl refl (λ y x n q. absurd cc) (lasting_ended_at e w c Up) k (λ u n v. end_reaches e c w.past u n v) (f e) b
delivered_answers t w c Down [] r f k e b =
    head_answers e (Ended c Down) w.past (ended_at w c Down) refl refl (λ y x n q. absurd cc) (lasting_ended_at e w c Down) k
    (λ u n v. absurd (not_both (withholds (coordinate w.past).stage) u (sym (ap withholds (end_same c w.past)) ∙ n))) (f e) b
delivered_answers t w c Up (m ∷ ms) r f k e b = by (same_connection (Again e) c) refl
  where
    by : (q : Bool) → same_connection (Again e) c ≡ q → IsAnswering e (onto (Got c Up m ∷ w.past) (core_got (identifier_of t) (core w) c m))
    by false q =
        head_answers e (Got c Up m) w.past (core_got (identifier_of t) (core w) c m) refl refl (λ y x n p. got_other e c Up x m n y q p) (lasting_core_got e (identifier_of t) (core w) c m) k
        (λ u n v. got_reaches e (identifier_of t) c m w.past (got_line c Up m w.past (keeps_within (Got c Up m ∷ w.past) (core_got (identifier_of t) (core w) c m) k)) u n v) (f e) b
    by true q =
        let P : Conn → Type 0 = λ y. Keeps (onto (Got y Up m ∷ w.past) (core_got (identifier_of t) (core w) y m))
        → is_back e.value (onto (Got y Up m ∷ w.past) (core_got (identifier_of t) (core w) y m)) ≡ true → IsAnswering e (onto (Got y Up m ∷ w.past) (core_got (identifier_of t) (core w) y m)) in
        subst P (same_is (Again e) c q) (own_answers e (identifier_of t) m w.past r (f e)) k b
delivered_answers t w c Down (m ∷ ms) r f k e b = by (same_connection (Again e) c) refl
  where
    by : (q : Bool) → same_connection (Again e) c ≡ q → IsAnswering e (onto (Got c Down m ∷ w.past) (local_got t (half w) c m))
    by false q =
        head_answers e (Got c Down m) w.past (local_got t (half w) c m) (not_false (same_connection (Again e) c) q) refl (λ y x n p. got_other e c Down x m n y q p) (lasting_local_got e t (half w) c m) k
        (λ u n v. absurd (not_both (withholds (coordinate w.past).stage) u (sym (ap withholds (down_same c m w.past)) ∙ n))) (f e) b
    by true q =
        let P : Conn → Type 0 = λ y. Keeps (onto (Got y Down m ∷ w.past) (local_got t (half w) y m)) → is_back e.value (onto (Got y Down m ∷ w.past) (local_got t (half w) y m)) ≡ true → ⊥ in
        absurd
        (subst P (same_is (Again e) c q)
        (λ kept back. told_off e t (half w) m w.past (got_line (Again e) Down m w.past (keeps_within (Got (Again e) Down m ∷ w.past) (local_got t (half w) (Again e) m) kept)) back) k b)

-- The log's.
-- A stop breaks each return off.
stop_none : {A : Type 0} (e : ℕ) (h : List Entry) → is_back e (Stopped ∷ h) ≡ true → A
stop_none e h b = let w = was_back e Stopped h refl b in let never : true ≡ false = w.unbroken in absurd cc

stop_answers : (h : List Entry) → AreAnswering (Stopped ∷ h)
stop_answers h = λ e b. stop_none e.value h b

coordinates_answers : (h : List Entry) (a : LogAnswer) (b : Bool) → may_log (coordinate h) ≡ b → may_coordinate (coordinate h) a ≡ true → AreAnswering h → Keeps (onto h (if b then appended (coordinate h) a else freed a))
    → AreAnswering (onto h (if b then appended (coordinate h) a else freed a))
coordinates_answers h Done true l c f k e b =
    let sends = commit_sends (follow (coordinate h) Logged) in
    head_answers e Logged h sends refl refl (λ y d n q. absurd cc) (lasting_commit e (follow (coordinate h) Logged)) k (λ u n t. logged_reaches e h t) (f e) b
coordinates_answers h Full true l c f k e b =
    let sends = abort_sends (follow (coordinate h) LogFull) in
    head_answers e LogFull h sends refl refl (λ y d n q. absurd cc) (lasting_abort e (follow (coordinate h) LogFull)) k (λ u n t. full_reaches e h t) (f e) b
coordinates_answers h StoppedNow true l c f k e b = stop_answers h e b
coordinates_answers h StoppedBefore true l c f k e b = stop_answers h e b
coordinates_answers h Done false l c f k e b =
    head_answers e Freed h [] refl refl (λ y d n q. absurd cc) refl k
    (λ u n t. absurd
    (free_recorded withholds refl (coordinate h) (or_case (may_log (coordinate h)) (may_free (coordinate h) && true) (λ v. absurd (not_both (may_log (coordinate h)) v l)) (λ v. and_left (may_free (coordinate h)) true v) c) u)) (f e) b
coordinates_answers h Full false l c f k e b = f e b
coordinates_answers h StoppedNow false l c f k e b = stop_answers h e b
coordinates_answers h StoppedBefore false l c f k e b = stop_answers h e b

-- A reply.
wide_unreturned : (e : EnlNo) → IsWide (λ x. not (is_return e.value x))
wide_unreturned e = record { mild = one; commit = refl; rollback = refl; timeout = refl; promise = λ f ok. refl }
  where
    one : (x : Entry) → is_mild x ≡ true → not (is_return e.value x) ≡ true
    one (Reenlisted f) q = absurd cc
    one _ q = refl

back_under : (e : EnlNo) (h es : List Entry) → each (λ x. not (is_return e.value x)) es ≡ true → is_back e.value (onto h es) ≡ true → is_back e.value h ≡ true
back_under e h [] u b = b
back_under e h (x ∷ es) u b =
    (was_back e.value x h (not_true (is_return e.value x) (and_left (not (is_return e.value x)) (each (λ y. not (is_return e.value y)) es) u))
    (back_under e (x ∷ h) es (and_right (not (is_return e.value x)) (each (λ y. not (is_return e.value y)) es) u) b)).before

-- who is back has no acknowledgement due
none_conn : (e : EnlNo) (h : List Entry) → each (is_undue e.value) (branches h) ≡ true → conn_due (observe h) e.value ≡ None
unfolding observe
none_conn e h u = step (find (is_branch e.value) (branches h)) refl
  where
    bare : (i : Bool) (o : Option Conn) → i ≡ true → (not i || is_none o) ≡ true → o ≡ None
    bare true None p q = refl
    bare true (Some c) p q = absurd cc
    bare false o p q = absurd cc

    step : (o : Option Branch) → find (is_branch e.value) (branches h) ≡ o → due_conn o ≡ None
    step None q = refl
    step (Some b) q =
        let place = found_at (is_branch e.value) (branches h) b q in
        bare (is_branch e.value b) b.due place.2 (each-at (is_undue e.value) (branches h) place.0 b u place.1)

row_unfit : (a b c d : Bool) (n : Note) → or_else (if a then Some PrepareNote else if b then Some PromoteNote else if c then Some HandNote else if d then Some SingleNote else None) None ≡ Some n → fits Ack n ≡ true → ⊥
row_unfit true b c d n q t = let same : PrepareNote ≡ n = cc in not_both (fits Ack n) t (subst (λ m. fits Ack m ≡ false) same refl)
row_unfit false true c d n q t = let same : PromoteNote ≡ n = cc in not_both (fits Ack n) t (subst (λ m. fits Ack m ≡ false) same refl)
row_unfit false false true d n q t = let same : HandNote ≡ n = cc in not_both (fits Ack n) t (subst (λ m. fits Ack m ≡ false) same refl)
row_unfit false false false true n q t = let same : SingleNote ≡ n = cc in not_both (fits Ack n) t (subst (λ m. fits Ack m ≡ false) same refl)
row_unfit false false false false n q t = absurd cc

no_ack : (e : EnlNo) (h : List Entry) (n : Note) → conn_due (observe h) e.value ≡ None → due_of (observe h) e.value ≡ Some n → fits Ack n ≡ true → ⊥
unfolding due_of
no_ack e h n c d t = step (is_gone (observe h) e.value) (find (is_of e.value) (observe h).table) d
  where
    step : (g : Bool) (o : Option Row) → (if g then None else or_else (note_of_row (observe h) o) (note_of_conn (conn_due (observe h) e.value))) ≡ Some n → ⊥
    step true o d = absurd cc
    step false None d = let P : Option Conn → Type 0 = λ z. note_of_conn z ≡ Some n in let never : note_of_conn None ≡ Some n = subst P c d in absurd cc
    step false (Some x) d =
        let P : Option Conn → Type 0 = λ z. or_else (row_note (observe h) x) (note_of_conn z) ≡ Some n in
        row_unfit (owes_vote (observe h) x) (owes_promotion (observe h) x) (owes_outcome (observe h) x) (owes_request (observe h) x) n (subst P c d) t

-- and votes no more
no_vote : (e : EnlNo) (h : List Entry) (v : Vote) (n : Note) → Keeps h → knows (Enl e) (ends_of h) ≡ false → stands_volatile e.value h ≡ false → due_of (observe h) e.value ≡ Some n → fits (VoteReply v) n ≡ true → ⊥
unfolding observe
no_vote e h v n k unknown steady d t =
    let w = owed h (VoteReply v) n e.value refl d t in
    let place = found_at (is_of e.value) (rows h) w.row w.stands in
    let same : e ≡ w.row.number = same_enlistment e w.row.number (eqb-true e.value w.row.number.value place.2) in
    let may = and_right (is_marked w.row && not (has_voted w.row)) (may_still_vote (observe h) w.row) w.answers in
    by w.row same (is_volatile w.row.class) refl
    (λ q. has-at (λ y. is_of e.value y && is_volatile y.class) (rows h) place.0 w.row place.1 (and_both (is_of e.value w.row) (is_volatile w.row.class) place.2 q)) may
  where
    by : (x : Row) → e ≡ x.number → (b : Bool) → is_volatile x.class ≡ b → (is_volatile x.class ≡ true → is_volatile_row (observe h) e.value ≡ true)
        → (if b then not (is_some (observe h).decided) else knows (Enl x.number) (ends_of h) && not (was_told (observe h) x.number.value)) ≡ true → ⊥
    by x s true q f m = not_both (stands_volatile e.value h) (sym (volatile_seen h e.value) ∙ f q) steady
    by x s false q f m =
        let P : EnlNo → Type 0 = λ g. knows (Enl g) (ends_of h) ≡ true in
        not_both (knows (Enl e) (ends_of h)) (subst P (sym s) (and_left (knows (Enl x.number) (ends_of h)) (not (was_told (observe h) x.number.value)) m)) unknown

own_unfit : (G : ℕ → ActorNo → Call → Type 0) (e : EnlNo) (h : List Entry) (r : Reply) (n : Note) → Keeps h → IsMarked G h → is_back e.value h ≡ true → IsBack e h → is_own_reply r ≡ true → due_of (observe h) e.value ≡ Some n
    → fits r n ≡ true → ⊥
own_unfit G e h (VoteReply v) n k m b w o d t =
    let came = back_returned e.value h b in
    no_vote e h v n k (m.back e came) (unvolatile_if_opened e h k (opened_if_returned e h k came)) d t
own_unfit G e h Ack n k m b w o d t = no_ack e h n (none_conn e h w.undue) d t
own_unfit G e h (Promotes ok) n k m b w o d t = absurd cc
own_unfit G e h (OwnerReply x) n k m b w o d t = absurd cc

reply_answers : (G : ℕ → ActorNo → Call → Type 0) (w : World) (f : EnlNo) (r : Reply) (n : Note) → due_of (half w).seen f.value ≡ Some n → fits r n ≡ true → Keeps w.past → IsMarked G w.past → AreAnswering w.past
    → Keeps (onto w.past (reply_entries (half w) f r)) → AreAnswering (onto w.past (reply_entries (half w) f r))
reply_answers G w f r n d t past m a k e b = by ((e.value == f.value) && is_own_reply r) refl
  where
    before : is_back e.value w.past ≡ true
    before = back_under e w.past (reply_entries (half w) f r) (wide_reply (λ x. not (is_return e.value x)) (wide_unreturned e) (half w) f r) b

    by : (q : Bool) → ((e.value == f.value) && is_own_reply r) ≡ q → IsAnswering e (onto w.past (reply_entries (half w) f r))
    by false q = lasting_answers e w.past (reply_entries (half w) f r) (lasting_reply e f (half w) r q) k (a e) b
    by true q =
        let same = same_enlistment e f (eqb-true e.value f.value (and_left (e.value == f.value) (is_own_reply r) q)) in
        let P : EnlNo → Type 0 = λ g. due_of (half w).seen g.value ≡ Some n in
        absurd (own_unfit G e w.past r n past m before (a e before).back (and_right (e.value == f.value) (is_own_reply r) q) (subst P (sym same) d) t)

-- One comes back: it isn't finished, its manager hasn't recovered, it isn't connected, and the coordinator doesn't stand stopped.
branch_free : (a f v c p : Bool) (r : RmNo) (e : EnlNo) → has_facts (if not a then NoSuch else if f then Finished else if v then OverAnswer r else if c then Connected e else if p then StoppedAnswer else Fine) ≡ true
    → (f ≡ false) × (v ≡ false) × (c ≡ false) × (p ≡ false)
branch_free false f v c p r e k = absurd cc
branch_free true true v c p r e k = absurd cc
branch_free true false true c p r e k = absurd cc
branch_free true false false true p r e k = absurd cc
branch_free true false false false true r e k = absurd cc
branch_free true false false false false r e k = (refl, refl, refl, refl)

-- Where this side of its own connection saw the end, nothing is on the way there: an end comes last, and a stop leaves nothing on the way upward.
ended_now : (e : EnlNo) (d : Dir) (x : Entry) (h : List Entry) → Keeps (x ∷ h) → ends (Enl e) d x ≡ true → IsStill (Enl e) d (x ∷ h)
ended_now e d (Ended c r) h k t =
    let P : Conn → Type 0 = λ y. IsStill y d (Ended c r ∷ h) in
    let Q : Dir → Type 0 = λ y. IsStill c y (Ended c r ∷ h) in
    subst P (sym (same_is (Enl e) c (and_left (same_connection (Enl e) c) (same_direction d r) t))) (subst Q (sym (same_way_is d r (and_right (same_connection (Enl e) c) (same_direction d r) t))) (end_still c r h k.wires.0))
ended_now e d (Got c r m) h k t =
    absurd (not_both (has_line c r m) (got_line c r m h k) (not_true (has_line c r m) (and_right (same_connection (Enl e) c && same_direction d r) (not (has_line c r m)) t)))
ended_now e Up Stopped h k t = (stopped_down (Enl e) (Stopped ∷ h) refl).still
ended_now e Down Stopped h k t = absurd cc
ended_now e Up _ h k t = absurd cc
ended_now e Down _ h k t = absurd cc

opened_stopped : (e : EnlNo) (d : Dir) (x : Entry) (h : List Entry) → begins_ended d h ≡ true → IsStill (Enl e) d (x ∷ h)
opened_stopped e Up x h s = (down_more (Enl e) x h s (stopped_down (Enl e) h s)).still
opened_stopped e Down x h s = absurd cc

ended_quiet : (e : EnlNo) (d : Dir) (h : List Entry) → Keeps h → is_ended (Enl e) d h ≡ true → IsStill (Enl e) d h
ended_quiet e d [] k t = absurd cc
ended_quiet e d (x ∷ h) k t = step (ended_quiet e d h (keeps_before x h k)) (opens (Enl e) x) refl t
  where
    step : (is_ended (Enl e) d h ≡ true → IsStill (Enl e) d h) → (b : Bool) → opens (Enl e) x ≡ b → ended_after b (begins_ended d h) (ends (Enl e) d x || is_ended (Enl e) d h) ≡ true → IsStill (Enl e) d (x ∷ h)
    step ih true o t = opened_stopped e d x h t
    step ih false o t =
        or_case (ends (Enl e) d x) (is_ended (Enl e) d h) (λ a. ended_now e d x h k a)
        (λ a. still_more (Enl e) d x h (λ m p. absurd (not_both (opens (Enl e) x) p o)) (λ p. absurd (not_both (opens (Enl e) x) p o)) (ih a)) t

both_ended : (e : EnlNo) (h : List Entry) → has (opens (Enl e)) h ≡ true → is_connected e h ≡ false → (is_ended (Enl e) Up h ≡ true) × (is_ended (Enl e) Down h ≡ true)
both_ended e h o u =
    by (was_opened (Enl e) h) (is_ended (Enl e) Up h) (is_ended (Enl e) Down h) (has_left (Enl e) Up h) (has_left (Enl e) Down h) (opened_since (Enl e) h o) (or_first (is_linked (Enl e) h) (is_linked (Again e) h) u)
  where
    by : (o a b l r : Bool) → o ≡ true → (o && (not (a && b) || l || r)) ≡ false → (a ≡ true) × (b ≡ true)
    by false a b l r p q = absurd cc
    by true true true l r p q = (refl, refl)
    by true true false l r p q = absurd cc
    by true false b l r p q = absurd cc

undue_all : (e : ℕ) (bs : List Branch) → each (is_undue e) (map (branch_due e None) bs) ≡ true
undue_all e [] = refl
undue_all e (b ∷ bs) = and_both (is_undue e (branch_due e None b)) (each (is_undue e) (map (branch_due e None) bs)) (by (is_branch e b)) (undue_all e bs)
  where
    by : (c : Bool) → (not c || is_none (due_in c None b.due)) ≡ true
    by true = refl
    by false = refl

reopened : (c : Conn) (x : Entry) (h : List Entry) → opens c x ≡ true → is_stopped h ≡ false → (o : Option Bool) → lost_after c h x o ≡ Some false
reopened c x h p s None = by (opens c x) (is_stopped h) p s
  where
    by : (b t : Bool) → b ≡ true → t ≡ false → (if b then Some t else None) ≡ Some false
    by true t p q = ap (λ b. Some b) q
    by false t p q = absurd cc
reopened c x h p s (Some l) = by (opens c x) (is_stopped h) (l || loses c x) p s
  where
    by : (b t l : Bool) → b ≡ true → t ≡ false → (if b then Some t else Some l) ≡ Some false
    by true t l p q = ap (λ b. Some b) q
    by false t l p q = absurd cc

asks_back : (b stop : Bool) (i : Info) (ms : List Message) → b ≡ true → stop ≡ false → is_asking_back (if b then opened_with Up (ReenlistReenlist i) stop else ms) ≡ true
asks_back true false i ms p q = refl
asks_back true true i ms p q = absurd cc
asks_back false stop i ms p q = absurd cc

-- the block of its return
abbrev returned : ℕ → ℕ → ActorNo → Answer → Branch → List Entry → List Entry
returned t n a y b h = Sent (Again b.enlistment) Up (ReenlistReenlist (info t b.enlistment b.manager)) ∷ Reenlisted b.enlistment ∷ Called n a y ∷ h

return_back : (t n : ℕ) (a : ActorNo) (y : Answer) (b : Branch) (h : List Entry) → Keeps (returned t n a y b h) → is_stopped h ≡ false → is_managed_branch h b ≡ true → is_finished b.enlistment.value h ≡ false
    → is_in b.manager.value (coordinate h).recovered ≡ false → is_connected b.enlistment h ≡ false → IsAnswering b.enlistment (returned t n a y b h)
unfolding coordinate follow
return_back t n a y b h k s g u v c =
    let e = b.enlistment in
    let called = Called n a y ∷ h in
    let back = Reenlisted e ∷ called in
    let m = ReenlistReenlist (info t e b.manager) in
    let x = Sent (Again e) Up m in
    let kept = keeps_before x back k in
    let past = keeps_before (Called n a y) h (keeps_before (Reenlisted e) called kept) in
    let own = both_ended e h (opened_if_returned e back kept (or_left (e.value == e.value) (has (is_return e.value) h) (eq_self e.value))) c in
    let opening : opens (Again e) x ≡ true = and_both (e.value == e.value) true (eq_self e.value) refl in
    let way : is_underway e (x ∷ back) ≡ true =
    or_left (is_asking_back (in_transit (Again e) Up (x ∷ back))) (not (is_empty (in_transit (Again e) Down (x ∷ back)))) (asks_back (opens (Again e) x) (is_stopped back) (info t e b.manager) _ opening s) in
    record {
      back =
          record {
            standing = s;
            up = ended_quiet e Up (x ∷ back) k own.0;
            down = ended_quiet e Down (x ∷ back) k own.1;
            unended = unended_new (opens (Again e) x) _ opening;
            unfinished =
                unfinished_more e.value x back refl refl
                (unfinished_more e.value (Reenlisted e) called refl refl (unfinished_more e.value (Called n a y) h refl refl u));
            undue = undue_all e.value (branches h);
            unrecovered = λ r q. let same : r ≡ b.manager.value = one_manager e r b.manager.value h past q g in let P : ℕ → Type 0 = λ z. is_in z (coordinate h).recovered ≡ false in subst P (sym same) v;
            awaited = record { opened = reopened (Again e) x back opening s (lost_since (Again e) back); way = or_left (is_underway e (x ∷ back)) (is_waiting_there e (x ∷ back)) way };
          };
      heard = λ q. absurd (not_both (is_underway e (x ∷ back)) way q);
    }
  where
    unended_new : (o w : Bool) → o ≡ true → ended_after o false w ≡ false
    unended_new true w p = refl
    unended_new false w p = absurd cc

return_answers : (t : ℕ) (w : World) (n : ℕ) (a : ActorNo) (f : EnlNo) (l : Option ℕ) → Keeps w.past → AreAnswering w.past → Keeps (onto w.past (called t w n a (Reenlist f) (if_begun l (reenlist_answer w f))))
    → AreAnswering (onto w.past (called t w n a (Reenlist f) (if_begun l (reenlist_answer w f))))
unfolding observe
return_answers t w n a f None past g k e b = lasting_answers e w.past (Called n a NotBegun ∷ []) refl k (g e) b
return_answers t w n a f (Some d) past g k e b = by (find (is_branch f.value) (branches w.past)) refl k b
  where
    one : (c : Branch) → is_managed_branch w.past c ≡ true → (q : Bool) → has_facts (branch_answer w c) ≡ q → Keeps (onto (Called n a (branch_answer w c) ∷ w.past) (facts_if q (reenlist_facts t (Some c))))
        → is_back e.value (onto (Called n a (branch_answer w c) ∷ w.past) (facts_if q (reenlist_facts t (Some c)))) ≡ true
        → IsAnswering e (onto (Called n a (branch_answer w c) ∷ w.past) (facts_if q (reenlist_facts t (Some c))))
    one c i false q k b = lasting_answers e w.past (Called n a (branch_answer w c) ∷ []) refl k (g e) b
    one c i true q k b = self (e.value == c.enlistment.value) refl
      where
        self : (p : Bool) → (e.value == c.enlistment.value) ≡ p → IsAnswering e (returned t n a (branch_answer w c) c w.past)
        self false p =
            lasting_answers e w.past (Called n a (branch_answer w c) ∷ Reenlisted c.enlistment ∷ Sent (Again c.enlistment) Up (ReenlistReenlist (info t c.enlistment c.manager)) ∷ [])
            (and_both (not (e.value == c.enlistment.value)) true (not_false (e.value == c.enlistment.value) p) refl) k (g e) b
        self true p =
            let free = branch_free c.enlisted (is_finished_there (half w).seen c.enlistment.value) (is_in c.manager.value (core w).recovered) (is_connected c.enlistment w.past) (core w).stopped c.manager c.enlistment q in
            let P : EnlNo → Type 0 = λ h. IsAnswering h (returned t n a (branch_answer w c) c w.past) in
            subst P (sym (same_enlistment e c.enlistment (eqb-true e.value c.enlistment.value p)))
            (return_back t n a (branch_answer w c) c w.past k (sym (stopped_same w.past) ∙ free.3) i (or_first (is_finished c.enlistment.value w.past) (is_handed (latest handed_of w.past) c.enlistment.value) (sym (finished_seen c.enlistment.value w.past) ∙ free.0)) free.1 free.2)

    by : (o : Option Branch) → find (is_branch f.value) (branches w.past) ≡ o → Keeps (onto w.past (Called n a (reenlist_by w o) ∷ facts_if (has_facts (reenlist_by w o)) (reenlist_facts t o)))
        → is_back e.value (onto w.past (Called n a (reenlist_by w o) ∷ facts_if (has_facts (reenlist_by w o)) (reenlist_facts t o))) ≡ true
        → IsAnswering e (onto w.past (Called n a (reenlist_by w o) ∷ facts_if (has_facts (reenlist_by w o)) (reenlist_facts t o)))
    by None q k b = lasting_answers e w.past (Called n a NoSuch ∷ []) refl k (g e) b
    by (Some c) q k b =
        let place = found_at (is_branch f.value) (branches w.past) c q in
        one c (each-at (is_managed_branch w.past) (branches w.past) place.0 c (branches_managed w.past) place.1) (has_facts (branch_answer w c)) refl k b

-- A manager recovers: not that of one that is back, which is connected and isn't finished.
connected_back : (e : EnlNo) (h : List Entry) → IsBack e h → is_connected e h ≡ true
connected_back e h w =
    or_right (is_linked (Enl e) h) (is_linked (Again e) h)
    (by (was_opened (Again e) h) (is_ended (Again e) Up h) (is_ended (Again e) Down h) (has_left (Again e) Up h) (has_left (Again e) Down h) (ap is_some w.awaited.opened) w.unended)
  where
    by : (o a b l r : Bool) → o ≡ true → b ≡ false → (o && (not (a && b) || l || r)) ≡ true
    by true false b l r p q = refl
    by true true true l r p q = absurd cc
    by true true false l r p q = refl
    by false a b l r p q = absurd cc

-- and to none that is back the commit was handed
back_unhanded : (e : EnlNo) (h : List Entry) → Keeps h → IsBack e h → is_handed (latest handed_of h) e.value ≡ false
back_unhanded e h k i =
    let alone = alone_if_opened e h k (since_opened (Again e) h (ap is_some i.awaited.opened)) in
    hand_seen e.value h k
    ∙ not_true (has (is_hand e.value) h)
    (and_right (has (is_enlisted_got e.value) h) (not (has (is_hand e.value) h))
    (and_left (has (is_enlisted_got e.value) h && not (has (is_hand e.value) h)) (is_ended (Enl e) Down h) alone))

unfinished_link : (w : World) (e : EnlNo) (r : ℕ) → Keeps w.past → IsBack e w.past → has (is_enlist_by e.value r) w.past ≡ true → (bs : List Branch) → each (is_managed_branch w.past) bs ≡ true → has (is_branch e.value) bs ≡ true
    → has (λ b. is_unfinished_link w b && (r == b.manager.value)) bs ≡ true
unfolding observe
unfinished_link w e r k i t [] m g = absurd cc
unfinished_link w e r k i t (b ∷ bs) m g =
    or_case (is_branch e.value b) (has (is_branch e.value) bs)
    (λ q. or_left (is_unfinished_link w b && (r == b.manager.value)) (has (λ d. is_unfinished_link w d && (r == d.manager.value)) bs) (here (same_enlistment e b.enlistment (eqb-true e.value b.enlistment.value q)) (and_left (is_managed_branch w.past b) (each (is_managed_branch w.past) bs) m)))
    (λ q. or_right (is_unfinished_link w b && (r == b.manager.value)) (has (λ d. is_unfinished_link w d && (r == d.manager.value)) bs) (unfinished_link w e r k i t bs (and_right (is_managed_branch w.past b) (each (is_managed_branch w.past) bs) m) q)) g
  where
    here : e ≡ b.enlistment → is_managed_branch w.past b ≡ true → (is_unfinished_link w b && (r == b.manager.value)) ≡ true
    here s m =
        let F : EnlNo → Type 0 = λ f. is_finished f.value w.past ≡ false in
        let C : EnlNo → Type 0 = λ f. is_connected f w.past ≡ true in
        let H : EnlNo → Type 0 = λ f. is_handed (latest handed_of w.past) f.value ≡ false in
        let M : EnlNo → Type 0 = λ f. has (is_enlist_by f.value b.manager.value) w.past ≡ true in
        let one : r ≡ b.manager.value = one_manager e r b.manager.value w.past k t (subst M (sym s) m) in
        and_both (is_unfinished_link w b) (r == b.manager.value)
        (and_both (not (is_finished_there (half w).seen b.enlistment.value)) (is_connected b.enlistment w.past)
        (not_false (is_finished_there (half w).seen b.enlistment.value)
        (finished_seen b.enlistment.value w.past
        ∙ or_false (is_finished b.enlistment.value w.past) (is_handed (latest handed_of w.past) b.enlistment.value) (subst F s i.unfinished) (subst H s (back_unhanded e w.past k i)))) (subst C s (connected_back e w.past i)))
        (rw one (eq_self b.manager.value))

recovers_none : (w : World) (q : RmNo) → has_facts (recovered_answer w q) ≡ true → has (is_unfinished_link w) (branches_by w q.value) ≡ false
recovers_none w q t = by (not (has (λ b. b.enlisted) (branches_by w q.value))) (is_in q.value (core w).recovered) (find (is_unfinished_link w) (branches_by w q.value)) refl t
  where
    by : (a v : Bool) (o : Option Branch) → find (is_unfinished_link w) (branches_by w q.value) ≡ o → has_facts (if a then NoSuch else if v then OverAnswer q else unless_connected o (unless_stopped w)) ≡ true
        → has (is_unfinished_link w) (branches_by w q.value) ≡ false
    by true v o p t = absurd cc
    by false true o p t = absurd cc
    by false false (Some b) p t = absurd cc
    by false false None p t = find_none (is_unfinished_link w) (branches_by w q.value) p

unrecovered_still : (w : World) (e : EnlNo) (q : RmNo) → Keeps w.past → IsBack e w.past → has_facts (recovered_answer w q) ≡ true → has (opens (Enl e)) w.past ≡ true → (r : ℕ) → has (is_enlist_by e.value r) w.past ≡ true
    → is_in r (with_tag q.value (coordinate w.past).recovered) ≡ false
unfolding observe
unrecovered_still w e q k i t o r g = false_from_ne_true (is_in r (with_tag q.value (coordinate w.past).recovered)) (λ v. by (r == q.value) refl v)
  where
    by : (b : Bool) → (r == q.value) ≡ b → is_in r (with_tag q.value (coordinate w.past).recovered) ≡ true → ⊥
    by false p v = not_both (is_in r (coordinate w.past).recovered) (one_tag_more r q.value (coordinate w.past).recovered v p) (i.unrecovered r g)
    by true p v =
        let P : ℕ → Type 0 = λ n. has (λ b. is_unfinished_link w b && (n == b.manager.value)) (branches w.past) ≡ true in
        let link = unfinished_link w e r k i g (branches w.past) (branches_managed w.past) (opened_branch e w.past o) in
        not_both (has (is_unfinished_link w) (branches_by w q.value))
        (has_filter (is_unfinished_link w) (λ b. q.value == b.manager.value) (branches w.past) ∙ subst P (eqb-true r q.value p) link) (recovers_none w q t)

recovered_back : (w : World) (n : ℕ) (a : ActorNo) (y : Answer) (q : RmNo) (e : EnlNo) → Keeps (RecoveredEntry q ∷ Called n a y ∷ w.past) → IsAnswering e w.past → has (opens (Enl e)) w.past ≡ true
    → ((r : ℕ) → has (is_enlist_by e.value r) w.past ≡ true → is_in r (with_tag q.value (coordinate w.past).recovered) ≡ false) → IsAnswering e (RecoveredEntry q ∷ Called n a y ∷ w.past)
unfolding coordinate follow
recovered_back w n a y q e k i o f =
    let called = Called n a y ∷ w.past in
    let kept = keeps_before (RecoveredEntry q) called k in
    let first = back_beyond e (Called n a y) w.past kept o refl refl refl refl i.back.unrecovered i.back in
    record { back = back_beyond e (RecoveredEntry q) called k o refl refl refl refl f first; heard = λ u. i.heard u }

recovered_answers : (t : ℕ) (w : World) (n : ℕ) (a : ActorNo) (u : TxNo) (q : RmNo) (l : Option ℕ) → Keeps w.past → AreAnswering w.past
    → Keeps (onto w.past (called t w n a (Recovered u q) (if_begun l (recovered_answer w q))))
    → AreAnswering (onto w.past (called t w n a (Recovered u q) (if_begun l (recovered_answer w q))))
recovered_answers t w n a u q None past g k e b = lasting_answers e w.past (Called n a NotBegun ∷ []) refl k (g e) b
recovered_answers t w n a u q (Some d) past g k e b = by (has_facts (recovered_answer w q)) refl k b
  where
    by : (f : Bool) → has_facts (recovered_answer w q) ≡ f → Keeps (onto (Called n a (recovered_answer w q) ∷ w.past) (facts_if f (RecoveredEntry q ∷ [])))
        → is_back e.value (onto (Called n a (recovered_answer w q) ∷ w.past) (facts_if f (RecoveredEntry q ∷ []))) ≡ true → IsAnswering e (onto (Called n a (recovered_answer w q) ∷ w.past) (facts_if f (RecoveredEntry q ∷ [])))
    by false p k b = lasting_answers e w.past (Called n a (recovered_answer w q) ∷ []) refl k (g e) b
    by true p k b =
        let before = back_under e w.past (Called n a (recovered_answer w q) ∷ RecoveredEntry q ∷ []) refl b in
        let o = opened_if_returned e w.past past (back_returned e.value w.past before) in
        recovered_back w n a (recovered_answer w q) q e k (g e before) o (λ r v. unrecovered_still w e q past (g e before).back p o r v)

call_answers : (t : ℕ) (w : World) (n : ℕ) (a : ActorNo) (c : Call) (j : ℕ) → Keeps w.past → AreAnswering w.past → Keeps (onto w.past (called t w n a c (answer_at t w c j)))
    → AreAnswering (onto w.past (called t w n a c (answer_at t w c j)))
unfolding answer_at
call_answers t w n a (Reenlist f) j past g k = return_answers t w n a f (half w).seen.limit past g k
call_answers t w n a (Recovered u q) j past g k = recovered_answers t w n a u q (half w).seen.limit past g k
call_answers t w n a c j past g k = λ e b.
    let y = answer_at t w c j in
    lasting_answers e w.past (Called n a y ∷ facts_if (has_facts y) (facts_at t w c y)) (lasting_called e t w c y refl refl) k (g e) b

-- A restart comes after a stop, or brings one.
restarted_answers : (h : List Entry) (b found : Bool) → (coordinate h).stopped ≡ b → AreAnswering h → AreAnswering (onto h (restarted b found))
restarted_answers h true found s g = λ e b.
    let w = was_back e.value (Restarted found) h refl b in
    absurd (not_both (is_stopped h) (sym (stopped_same h) ∙ s) (g e w.before).back.standing)
restarted_answers h false found s g = λ e b.
    let w = was_back e.value (Restarted found) (Stopped ∷ h) refl b in
    stop_none e.value h w.before

-- After each step.
step_answers : (G : ℕ → ActorNo → Call → Type 0) (t : ℕ) (w : World) (m : Step) → MayCome G t w m → Keeps w.past → IsMarked G w.past → AreFreed w.past → Keeps (after t w m).past → AreAnswering w.past
    → AreAnswering (after t w m).past
unfolding after block_at
step_answers G t w (Calls n a c j) q past i r k g = call_answers t w n a c j past g k
step_answers G t w (Replies f y) q past i r k g = reply_answers G w f y q.0 q.1 q.2 past i g k
step_answers G t w Acts q past i r k g = λ e b. lasting_answers e w.past (act_entries (half w)) (lasting_act e (half w)) k (g e) b
step_answers G t w (Coordinates a) q past i r k g = coordinates_answers w.past a (may_log (core w)) refl q g k
step_answers G t w (Delivers c d) q past i r k g = delivered_answers t w c d (in_transit c d w.past) r g k
step_answers G t w Stops q past i r k g = stop_answers w.past
step_answers G t w (Restarts found) q past i r k g = restarted_answers w.past (core w).stopped found refl g

pub record IsReturning (h : List Entry) : Type 0 where
  pub freed : AreFreed h
  pub answering : (e : EnlNo) → is_back e.value h ≡ true → IsAnswering e h

-- so in each world that steps made, where each restart found what may be found
pub ran_returning : (G : ℕ → ActorNo → Call → Type 0) (t : ℕ) (ms : List Step) (w : World) → AreMadeOnce G → Ran G t ms w → tied w.past ≡ true → IsReturning w.past
unfolding after
ran_returning G t [] w once r d = subst (λ (h : List Entry). IsReturning h) (sym r.1) (record { freed = none_freed; answering = λ e b. absurd cc })
ran_returning G t (m ∷ ms) w once r d =
    let v = r.0 in
    let now : tied (after t v m).past ≡ true = subst (λ (x : World). tied x.past ≡ true) r.3 d in
    let before : tied v.past ≡ true = tied_under v.past (block_at t v m) now in
    let kept = run_keeps G t (m ∷ ms) (after t v m) once (v, r.1, r.2, refl) now in
    let stands = run_stands G t ms v once r.1 before in
    let past = ran_returning G t ms v once r.1 before in
    subst (λ (x : World). IsReturning x.past) (sym r.3)
    (record {
      freed = step_freed G t v m r.2 kept past.freed;
      answering = step_answers G t v m r.2 stands.steady.stands.keeps stands.marked past.freed kept past.answering;
    })
