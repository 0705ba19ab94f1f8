-- Who acknowledges has a connection of its own: it came to the coordinator.
use Rattle.std.proofs.Common.{ℕ, ◌≡◌, ◌==◌, Bool, true, false, not, List, [], ◌∷◌, Option, Some, None, is_some, refl, sym, subst, ap, ◌∙◌}
use Rattle.std.specs.Prelude.{find, if◌then◌else◌}
use Rattle.std.proofs.lemmas.Bool.{eqb-true}
use Rattle.dtx_values.specs.declared.call.Call.{Call}
use Rattle.dtx_values.specs.declared.entry.Ask.TheVariants.{Promote, Single as AskSingle}
use Rattle.dtx_values.specs.declared.entry.Entry.{Entry}
use Rattle.dtx_values.specs.declared.entry.Entry.TheVariants.{Acked, Asked, Called, Cut, Down as Ended, Freed, Got, LogFull, Logged, OwnerAnswered, PromoteReply, Recovered as RecoveredEntry, Requested, Restarted, Sealed, Sent, Stopped, Voted}
use Rattle.dtx_values.specs.declared.message.Conn.{Conn}
use Rattle.dtx_values.specs.declared.message.Conn.TheVariants.{Again, Begin, Enl}
use Rattle.dtx_values.specs.declared.message.Dir.{Dir}
use Rattle.dtx_values.specs.declared.message.Dir.TheVariants.{Down, Up}
use Rattle.dtx_values.specs.declared.message.Message.{Message}
use Rattle.dtx_values.specs.declared.message.Message.TheVariants.{BeginBegin, EnlistAck, ReenlistAck}
use Rattle.dtx_values.specs.declared.note.Note.{Note}
use Rattle.dtx_values.specs.declared.note.Note.TheVariants.{Commit, Hand, Prepare, Promote as PromoteNote, Single}
use Rattle.dtx_values.specs.declared.note.Reply.{Reply}
use Rattle.dtx_values.specs.declared.note.Reply.TheVariants.{Ack, Owner as OwnerReply, Promote as Promotes, Vote as VoteReply}
use Rattle.dtx_values.specs.declared.number.ActorNo.{ActorNo}
use Rattle.dtx_values.specs.declared.number.EnlNo.{EnlNo}
use Rattle.dtx_values.specs.declared.row.Row.{Row}
use Rattle.dtx_values.specs.declared.words.Outcome.{Outcome}
use Rattle.dtx_values.specs.Ends.{knows}
use Rattle.dtx_values.specs.Lines.{has_line}
use Rattle.dtx_values.specs.Row.{is_of}
use Rattle.dtx_values.specs.Vote.{is_no}
use Rattle.dtx_model.specs.declared.branch.Branch.{Branch}
use Rattle.dtx_model.specs.Words.{has, onto, or_else}
use Rattle.dtx_model.specs.Acts.{act_entries}
use Rattle.dtx_model.specs.Arrivals.{local_got}
use Rattle.dtx_model.specs.Caused.{MayCome, Ran}
use Rattle.dtx_model.specs.Facts.{facts_if, has_facts}
use Rattle.dtx_model.specs.Half.{Half, is_gone, sees, to_up}
use Rattle.dtx_model.specs.Observed.{Observed, branches, is_branch, observe}
use Rattle.dtx_model.specs.Replies.{conn_due, due_conn, due_of, fits, is_volatile_row, note_of_conn, note_of_row, one_message, owes_outcome, owes_promotion, owes_request, owes_vote, owner_entries, reply_entries, request_message, request_of, vote_message}
use Rattle.dtx_model.specs.Steps.{Acts, Calls, Coordinates, Delivers, Replies, Restarts, Step, Stops, after, block_at, coordinates, delivered, ended_at, got_by, restarted}
use Rattle.dtx_model.specs.Wires.{in_transit, opens}
use Rattle.dtx_model.specs.World.{World, answer_at, core, facts_at, half}
use Rattle.dtx_model.proofs.Blocks.{of_ack, of_arrived, of_called, of_coordinates, of_core_down, of_core_got, of_local_down, of_restarted, of_veto, of_veto_if, of_whole_act}
use Rattle.dtx_model.proofs.Bools.{not_both, not_false, not_true, or_case, or_right}
use Rattle.dtx_model.proofs.Reading.{has-onto}
use Rattle.dtx_model.proofs.Writes.{ByAct, ByCall, ByMessage, Each, IsClosed, Source, e_cons, e_if, e_none, e_one, each_closed, is_outcome_message, replies, writes}
use Rattle.history_table.proofs.Lists.{found_at}
use Rattle.history_table.proofs.Managed.{branches_managed, enlist_opens, is_enlist_by, is_managed_branch}
use Rattle.history_table.proofs.Scans.{each-at, has_more, none_more}
use Rattle.history_table.proofs.Table.{is_acked_by}

-- the entry is no acknowledgement of this enlistment
abbrev is_unacked : ℕ → Entry → Bool
is_unacked n x = not (is_acked_by n x)

unacked : (n : ℕ) → IsClosed (λ ws es. Each (is_unacked n) es)
unacked n = each_closed (is_unacked n) refl (λ x. refl) (λ k x. refl) refl refl

-- blocks that no reply makes have none
unacked_entry : (n : ℕ) (s : Source) → replies s ≡ false → (x : Entry) → writes s x ≡ true → Each (is_unacked n) (x ∷ [])
unacked_entry n s r x t = e_one x (passes x t)
  where
    passes : (x : Entry) → writes s x ≡ true → is_unacked n x ≡ true
    passes (Acked f) t = absurd (not_both (replies s) t r)
    passes _ t = refl

unacked_sent : (n : ℕ) (c : Conn) (m : Message) → has_line c Down m ≡ true → is_outcome_message m ≡ true → Each (is_unacked n) (Sent c Down m ∷ [])
unacked_sent n c m l o = e_one (Sent c Down m) refl

unacked_got : (n t : ℕ) (w : World) (c : Conn) (d : Dir) (m : Message) → Each (is_unacked n) (got_by t w c d m)
unfolding local_got
unacked_got n t w c Up m = of_core_got ((unacked n).lists []) _ (core w) c m (λ d k l a. e_one (Sent d Down k) refl)
unacked_got n t w c Down m = let g = sees (half w) (Got c Down m) in of_arrived (unacked n) t g c m (unacked_entry n (ByMessage g.waits c m) refl)

unacked_end : (n : ℕ) (w : World) (c : Conn) (d : Dir) → Each (is_unacked n) (ended_at w c d)
unacked_end n w c Up = of_core_down ((unacked n).lists []) (core w) c (unacked_sent n)
unacked_end n w c Down = of_local_down (unacked n) (half w) c

unacked_delivered : (n t : ℕ) (w : World) (c : Conn) (d : Dir) (ms : List Message) → Each (is_unacked n) (delivered t w c d ms)
unacked_delivered n t w c d [] = e_cons (Ended c d) refl (unacked_end n w c d)
unacked_delivered n t w c d (m ∷ ms) = e_cons (Got c d m) refl (unacked_got n t w c d m)

-- nor have replies but an acknowledgement
up_unacked : (n : ℕ) (o : Observed) (c : Conn) (m : Message) → Each (is_unacked n) (to_up o c m)
up_unacked n o c m = e_if (knows c o.ends) (e_one (Sent c Up m) refl) e_none

owner_unacked : (n : ℕ) (f : EnlNo) (h : Half) (x : Outcome) (o : Option Note) → Each (is_unacked n) (owner_entries h f x o)
owner_unacked n f h x (Some Single) = e_cons (Requested f (request_of x)) refl (up_unacked n h.seen Begin (request_message x))
owner_unacked n f h x _ = e_cons (OwnerAnswered f x) refl (e_if h.seen.promoted (up_unacked n h.seen (Enl f) (one_message x)) ((unacked n).decides h x))

-- a reply is none of another's
reply_unacked : (n : ℕ) (f : EnlNo) (h : Half) (r : Reply) → ((r ≡ Ack) → (n == f.value) ≡ false) → Each (is_unacked n) (reply_entries h f r)
unfolding reply_entries
reply_unacked n f h (VoteReply v) q =
    let g = sees h (Voted f v) in
    e_cons (Voted f v) refl (e_if (is_volatile_row g.seen f.value) (of_veto_if (unacked n) (is_no v) g) (up_unacked n g.seen (Enl f) (vote_message v)))
reply_unacked n f h (Promotes true) q = e_cons (PromoteReply f true) refl (e_one (Sent Begin Up BeginBegin) refl)
reply_unacked n f h (Promotes false) q = e_cons (PromoteReply f false) refl (of_veto (unacked n) (sees h (PromoteReply f false)))
reply_unacked n f h (OwnerReply x) q = owner_unacked n f h x (due_of h.seen f.value)
reply_unacked n f h Ack q =
    e_cons (Acked f) (not_false (n == f.value) (q refl)) (of_ack (unacked n) h.waits h.seen (conn_due h.seen f.value) (λ g. e_one (Sent (Enl g) Up EnlistAck) refl) (λ g. e_one (Sent (Again g) Up ReenlistAck) refl))

-- an acknowledgement is due to a commit that came over a connection
no_commit : (o : Observed) (x : Option Row) → note_of_row o x ≡ Some Commit → ⊥
no_commit o (Some x) q = by (owes_vote o x) (owes_promotion o x) (owes_outcome o x) (owes_request o x) q
  where
    by : (a b c d : Bool) → (if a then Some Prepare else if b then Some PromoteNote else if c then Some Hand else if d then Some Single else None) ≡ Some Commit → ⊥
    by true b c d q = cc
    by false true c d q = cc
    by false false true d q = cc
    by false false false true q = cc
    by false false false false q = cc
no_commit o None q = cc

due_there : (o : Observed) (e : ℕ) → due_of o e ≡ Some Commit → is_some (conn_due o e) ≡ true
unfolding due_of
due_there o e q = by (is_gone o e) (note_of_row o (find (is_of e) o.table)) (conn_due o e) (no_commit o (find (is_of e) o.table)) q
  where
    by : (g : Bool) (n : Option Note) (c : Option Conn) → (n ≡ Some Commit → ⊥) → (if g then None else or_else n (note_of_conn c)) ≡ Some Commit → is_some c ≡ true
    by true n c x q = absurd cc
    by false (Some n) c x q = absurd (x q)
    by false None (Some c) x q = refl
    by false None None x q = absurd cc

-- who has one has a connection of its own
due_opens : (e : EnlNo) (h : List Entry) → is_some (conn_due (observe h) e.value) ≡ true → has (opens (Enl e)) h ≡ true
unfolding observe
due_opens e h t = by (find (is_branch e.value) (branches h)) refl t
  where
    by : (o : Option Branch) → find (is_branch e.value) (branches h) ≡ o → is_some (due_conn o) ≡ true → has (opens (Enl e)) h ≡ true
    by None q t = absurd cc
    by (Some b) q t =
        let place = found_at (is_branch e.value) (branches h) b q in
        let P : ℕ → Type 0 = λ n. has (is_enlist_by n b.manager.value) h ≡ true in
        has_more (is_enlist_by e.value b.manager.value) (opens (Enl e)) (enlist_opens e b.manager.value) h
        (subst P (sym (eqb-true e.value b.enlistment.value place.2)) (each-at (is_managed_branch h) (branches h) place.0 b (branches_managed h) place.1))

due_is : (n : Note) → fits Ack n ≡ true → n ≡ Commit
due_is Commit f = refl
due_is _ f = absurd cc

-- what each step keeps
abbrev AckedOpened : EnlNo → List Entry → Type 0
AckedOpened e h = has (is_acked_by e.value) h ≡ true → has (opens (Enl e)) h ≡ true

by_block : (e : EnlNo) (h es : List Entry) → Each (is_unacked e.value) es → AckedOpened e h → AckedOpened e (onto h es)
by_block e h es u k a =
    has-onto (opens (Enl e)) h es ∙ or_right (has (opens (Enl e)) es) (has (opens (Enl e)) h)
    (or_case (has (is_acked_by e.value) es) (has (is_acked_by e.value) h) (λ t. absurd (not_both (has (is_acked_by e.value) es) t (none_more (is_unacked e.value) (is_acked_by e.value) (λ x q. not_true (is_acked_by e.value x) q) es u.proof))) k
    (sym (has-onto (is_acked_by e.value) h es) ∙ a))

step_acked : (G : ℕ → ActorNo → Call → Type 0) (t : ℕ) (e : EnlNo) (w : World) (m : Step) → MayCome G t w m → AckedOpened e w.past → AckedOpened e (after t w m).past
unfolding after block_at
step_acked G t e w (Calls n a c k) q o =
    by_block e w.past (Called n a (answer_at t w c k) ∷ facts_if (has_facts (answer_at t w c k)) (facts_at t w c (answer_at t w c k)))
    (e_cons (Called n a (answer_at t w c k)) refl
    (of_called (unacked e.value) t w c (answer_at t w c k) (unacked_entry e.value (ByCall c) refl) (λ d i j. e_one (Cut d i j) refl) (λ r. e_one (RecoveredEntry r) refl))) o
step_acked G t e w (Replies f Ack) q o = by (e.value == f.value) refl
  where
    by : (b : Bool) → (e.value == f.value) ≡ b → AckedOpened e (onto w.past (reply_entries (half w) f Ack))
    by true s a =
        let due : due_of (half w).seen f.value ≡ Some Commit = q.1 ∙ ap Some (due_is q.0 q.2) in
        let N : ℕ → Type 0 = λ n. is_some (conn_due (observe w.past) n) ≡ true in
        has-onto (opens (Enl e)) w.past (reply_entries (half w) f Ack)
        ∙ or_right (has (opens (Enl e)) (reply_entries (half w) f Ack)) (has (opens (Enl e)) w.past) (due_opens e w.past (subst N (sym (eqb-true e.value f.value s)) (due_there (half w).seen f.value due)))
    by false s a = by_block e w.past (reply_entries (half w) f Ack) (reply_unacked e.value f (half w) Ack (λ r. s)) o a
step_acked G t e w (Replies f (VoteReply v)) q o = by_block e w.past (reply_entries (half w) f (VoteReply v)) (reply_unacked e.value f (half w) (VoteReply v) (λ r. absurd cc)) o
step_acked G t e w (Replies f (Promotes ok)) q o = by_block e w.past (reply_entries (half w) f (Promotes ok)) (reply_unacked e.value f (half w) (Promotes ok) (λ r. absurd cc)) o
step_acked G t e w (Replies f (OwnerReply x)) q o = by_block e w.past (reply_entries (half w) f (OwnerReply x)) (reply_unacked e.value f (half w) (OwnerReply x) (λ r. absurd cc)) o
step_acked G t e w Acts q o =
    by_block e w.past (act_entries (half w))
    (of_whole_act (unacked e.value) (half w) (unacked_entry e.value (ByAct (is_some (half w).seen.decided)) refl) (λ g. e_one (Asked g Promote) refl) (λ g. e_one (Asked g AskSingle) refl) (e_one Sealed refl) (λ m t. e_one (Sent Begin Up m) refl)) o
step_acked G t e w (Coordinates x) q o =
    by_block e w.past (coordinates (core w) x)
    (of_coordinates ((unacked e.value).lists []) (core w) x (unacked_sent e.value) (e_one Logged refl) (e_one LogFull refl) (e_one Freed refl) (e_one Stopped refl)) o
step_acked G t e w (Delivers c d) q o = by_block e w.past (delivered t w c d (in_transit c d w.past)) (unacked_delivered e.value t w c d (in_transit c d w.past)) o
step_acked G t e w Stops q o = by_block e w.past (Stopped ∷ []) (e_one Stopped refl) o
step_acked G t e w (Restarts found) q o = by_block e w.past (restarted (core w).stopped found) (of_restarted ((unacked e.value).lists []) (core w).stopped found (e_one Stopped refl) (e_one (Restarted found) refl)) o

-- so it is of each world that steps make
pub acked_opened : (G : ℕ → ActorNo → Call → Type 0) (t : ℕ) (e : EnlNo) (ms : List Step) (w : World) → Ran G t ms w → AckedOpened e w.past
acked_opened G t e [] w r = λ a. absurd (let none : has (is_acked_by e.value) w.past ≡ false = ap (λ h. has (is_acked_by e.value) h) r.1 in not_both (has (is_acked_by e.value) w.past) a none)
acked_opened G t e (m ∷ ms) w r = subst (λ (x : World). AckedOpened e x.past) (sym r.3) (step_acked G t e r.0 m r.2 (acked_opened G t e ms r.0 r.1))
