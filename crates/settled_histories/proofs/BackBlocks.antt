-- The blocks of steps, by what they do to one that came back: those of the local side leave it, and where the coordinator decides, it sends to each that waits.
use Rattle.std.proofs.Common.{◌≡◌, ℕ, ◌==◌, Bool, true, false, ◌&&◌, ◌⊎◌, inl, inr, List, [], ◌∷◌, ◌++◌, Option, Some, is_some, refl, ◌∙◌, ap, sym, subst}
use Rattle.std.specs.Prelude.{filter, not, if◌then◌else◌}
use Rattle.std.specs.List.{flat_map}
use Rattle.std.proofs.lemmas.Bool.{eqb-true, or_left}
use Rattle.std.proofs.lemmas.List.Folds.{list_any-append}
use Rattle.dtx_values.specs.declared.call.Call.{Call}
use Rattle.dtx_values.specs.declared.call.Call.TheVariants.{Gone, Lose, Recovered, Reenlist}
use Rattle.dtx_values.specs.declared.entry.Answer.{Answer}
use Rattle.dtx_values.specs.declared.entry.Ask.TheVariants.{Promote, Single as AskSingle}
use Rattle.dtx_values.specs.declared.entry.Entry.{Entry}
use Rattle.dtx_values.specs.declared.entry.Entry.TheVariants.{Acked, Asked, Cut, Down as Ended, Freed, Got, LogFull, Logged, Lost as LostEntry, OwnerAnswered, PromoteReply, Recovered as RecoveredEntry, Reenlisted, Requested, Restarted, Sealed, Sent, Stopped, Voted}
use Rattle.dtx_values.specs.declared.message.Conn.{Conn}
use Rattle.dtx_values.specs.declared.message.Conn.TheVariants.{Begin, Voter, Enl, Again}
use Rattle.dtx_values.specs.declared.message.Dir.{Dir}
use Rattle.dtx_values.specs.declared.message.Dir.TheVariants.{Up, Down}
use Rattle.dtx_values.specs.declared.message.Message.{Message}
use Rattle.dtx_values.specs.declared.message.Message.TheVariants.{BeginBegin, BeginAborted, BeginCommitted, EnlistAbort, EnlistAck, EnlistCommit, ReenlistAborted, ReenlistAck, ReenlistCommitted, VoterAbort, VoterCommit}
use Rattle.dtx_values.specs.declared.note.Note.{Note}
use Rattle.dtx_values.specs.declared.note.Note.TheVariants.{Single}
use Rattle.dtx_values.specs.declared.note.Reply.{Reply}
use Rattle.dtx_values.specs.declared.note.Reply.TheVariants.{Vote as VoteReply, Promote as Promotes, Owner as OwnerReply, Ack}
use Rattle.dtx_values.specs.declared.number.EnlNo.{EnlNo}
use Rattle.dtx_values.specs.declared.words.Outcome.{Outcome}
use Rattle.dtx_values.specs.Ends.{knows, same_connection}
use Rattle.dtx_values.specs.Lines.{has_line}
use Rattle.dtx_values.specs.Vote.{is_no}
use Rattle.dtx_model.specs.Words.{each, has}
use Rattle.dtx_model.specs.Observed.{Observed}
use Rattle.dtx_model.specs.Coordinated.{Coordinated, abort_if, abort_sends, commit_sends, coordinate, core_down, core_got, doubt_sends, follow, is_prepared, stage_after, still_hears, to, to_each, to_waiting}
use Rattle.dtx_model.specs.Half.{Half, sees, to_up}
use Rattle.dtx_model.specs.Arrivals.{local_got}
use Rattle.dtx_model.specs.Acts.{act_entries}
use Rattle.dtx_model.specs.Facts.{facts_if, has_facts}
use Rattle.dtx_model.specs.Replies.{conn_due, due_of, is_volatile_row, one_message, owner_entries, reply_entries, request_message, request_of, vote_message}
use Rattle.dtx_model.specs.World.{World, core, facts_at, gone_by, half, open_ones}
use Rattle.dtx_model.specs.Steps.{ended_at}
use Rattle.dtx_model.proofs.Writes.{Each, ByAct, ByCall, ByMessage, IsClosed, Source, e_cons, e_if, e_none, e_one, each_closed, is_outcome_message, replies, returns, writes, is_returning}
use Rattle.dtx_model.proofs.Blocks.{of_abort_sends, of_ack, of_arrived, of_commit_sends, of_core_down, of_core_got, of_cuts, of_facts, of_gone_unlinked, of_local_down, of_veto, of_veto_if, of_whole_act}
use Rattle.dtx_model.proofs.Bools.{and_left, and_right, not_both, not_false, or_case, or_right}
use Rattle.dtx_values.proofs.SameNumbers.{same_enlistment}
use Rattle.dtx_model.specs.declared.desk.Stage.TheVariants.{Answered}
use Rattle.settled_histories.proofs.Announced.{stage_down}
use Rattle.settled_histories.proofs.Awaits.{withholds, withholds_upheld}
use Rattle.settled_histories.proofs.Verdicts.{IsVerdict, end_verdict, got_verdict}
use Rattle.settled_histories.proofs.Awaiting.{is_number, is_waiting_there}
use Rattle.settled_histories.proofs.Back.{is_lasting, is_sent_to}

-- The local side.
lasting : (e : EnlNo) → IsClosed (λ ws es. Each (is_lasting e) es)
lasting e = each_closed (is_lasting e) refl (λ x. refl) (λ n x. refl) refl refl

lasting_entry : (e : EnlNo) (s : Source) → replies s ≡ false → returns s ≡ false → (x : Entry) → writes s x ≡ true → Each (is_lasting e) (x ∷ [])
lasting_entry e s r b x t = e_one x (passes x t)
  where
    passes : (x : Entry) → writes s x ≡ true → is_lasting e x ≡ true
    passes (Got c d m) t = absurd cc
    passes (Ended c d) t = absurd cc
    passes Logged t = absurd cc
    passes LogFull t = absurd cc
    passes Freed t = absurd cc
    passes Stopped t = absurd cc
    passes (Restarted found) t = absurd cc
    passes (RecoveredEntry q) t = absurd cc
    passes (Reenlisted f) t = absurd (not_both (returns s) t b)
    passes (Voted f v) t = absurd (not_both (replies s) t r)
    passes (Acked f) t = absurd (not_both (replies s) t r)
    passes _ t = refl

lasting_sent : (e : EnlNo) (c : Conn) (m : Message) → has_line c Down m ≡ true → is_outcome_message m ≡ true → Each (is_lasting e) (Sent c Down m ∷ [])
lasting_sent e c m l o = e_one (Sent c Down m) refl

pub lasting_abort : (e : EnlNo) (k : Coordinated) → each (is_lasting e) (abort_sends k) ≡ true
lasting_abort e k = (of_abort_sends ((lasting e).lists []) k (lasting_sent e)).proof

pub lasting_commit : (e : EnlNo) (k : Coordinated) → each (is_lasting e) (commit_sends k) ≡ true
lasting_commit e k = (of_commit_sends ((lasting e).lists []) k (lasting_sent e)).proof

pub lasting_core_got : (e : EnlNo) (id : ℕ) (k : Coordinated) (c : Conn) (m : Message) → each (is_lasting e) (core_got id k c m) ≡ true
lasting_core_got e id k c m = (of_core_got ((lasting e).lists []) id k c m (λ d n l a. e_one (Sent d Down n) refl)).proof

pub lasting_ended_at : (e : EnlNo) (w : World) (c : Conn) (d : Dir) → each (is_lasting e) (ended_at w c d) ≡ true
lasting_ended_at e w c Up = (of_core_down ((lasting e).lists []) (core w) c (lasting_sent e)).proof
lasting_ended_at e w c Down = (of_local_down (lasting e) (half w) c).proof

pub lasting_local_got : (e : EnlNo) (t : ℕ) (h : Half) (c : Conn) (m : Message) → each (is_lasting e) (local_got t h c m) ≡ true
unfolding local_got
lasting_local_got e t h c m = let g = sees h (Got c Down m) in (of_arrived (lasting e) t g c m (lasting_entry e (ByMessage g.waits c m) refl refl)).proof

pub lasting_act : (e : EnlNo) (h : Half) → each (is_lasting e) (act_entries h) ≡ true
lasting_act e h =
    (of_whole_act (lasting e) h (lasting_entry e (ByAct (is_some h.seen.decided)) refl refl) (λ g. e_one (Asked g Promote) refl) (λ g. e_one (Asked g AskSingle) refl) (e_one Sealed refl) (λ m t. e_one (Sent Begin Up m) refl)).proof

-- what stands after a call that brings nobody back, and no manager's recovery
abbrev pub is_recovering : Call → Bool
is_recovering (Recovered u r) = true
is_recovering _ = false

gone_lasting : (e : EnlNo) (w : World) (g : EnlNo) (cs : List Conn) → Each (is_lasting e) (gone_by w g cs)
gone_lasting e w g [] = of_gone_unlinked (lasting e) (half w) g (e_one (LostEntry g) refl)
gone_lasting e w g (c ∷ cs) = e_cons (LostEntry g) refl (of_cuts (lasting e) (half w).waits w (c ∷ cs) (λ d n m. e_one (Cut d n m) refl))

call_lasting : (e : EnlNo) (t : ℕ) (w : World) (c : Call) (a : Answer) → is_returning c ≡ false → is_recovering c ≡ false → Each (is_lasting e) (facts_at t w c a)
call_lasting e t w (Lose u c n m) a r v = e_one (Cut c _ _) refl
call_lasting e t w (Gone g) a r v = gone_lasting e w g (open_ones w g)
call_lasting e t w (Reenlist g) a r v = absurd cc
call_lasting e t w (Recovered u q) a r v = absurd cc
call_lasting e t w c a r v = of_facts (lasting e) t (half w) c a (lasting_entry e (ByCall c) refl refl)

pub lasting_called : (e : EnlNo) (t : ℕ) (w : World) (c : Call) (a : Answer) → is_returning c ≡ false → is_recovering c ≡ false → each (is_lasting e) (facts_if (has_facts a) (facts_at t w c a)) ≡ true
lasting_called e t w c a r v = by (has_facts a)
  where
    by : (b : Bool) → each (is_lasting e) (facts_if b (facts_at t w c a)) ≡ true
    by true = (call_lasting e t w c a r v).proof
    by false = refl

-- a reply that is no vote and no acknowledgement of its own
up_lasting : (e : EnlNo) (o : Observed) (c : Conn) (m : Message) → Each (is_lasting e) (to_up o c m)
up_lasting e o c m = e_if (knows c o.ends) (e_one (Sent c Up m) refl) e_none

owner_lasting : (e f : EnlNo) (h : Half) (x : Outcome) (n : Option Note) → Each (is_lasting e) (owner_entries h f x n)
owner_lasting e f h x (Some Single) = e_cons (Requested f (request_of x)) refl (up_lasting e h.seen Begin (request_message x))
owner_lasting e f h x _ = e_cons (OwnerAnswered f x) refl (e_if h.seen.promoted (up_lasting e h.seen (Enl f) (one_message x)) ((lasting e).decides h x))

-- the reply is a vote or an acknowledgement
abbrev pub is_own_reply : Reply → Bool
is_own_reply (VoteReply v) = true
is_own_reply Ack = true
is_own_reply _ = false

reply_lasting : (e f : EnlNo) (h : Half) (r : Reply) → ((e.value == f.value) && is_own_reply r) ≡ false → Each (is_lasting e) (reply_entries h f r)
unfolding reply_entries
reply_lasting e f h (VoteReply v) n =
    let after = sees h (Voted f v) in
    e_cons (Voted f v) (not_false (e.value == f.value) (apart (e.value == f.value) n))
    (e_if (is_volatile_row after.seen f.value) (of_veto_if (lasting e) (is_no v) after) (up_lasting e after.seen (Enl f) (vote_message v)))
  where
    apart : (b : Bool) → (b && true) ≡ false → b ≡ false
    apart true q = absurd cc
    apart false q = refl
reply_lasting e f h (Promotes true) n = e_cons (PromoteReply f true) refl (e_one (Sent Begin Up BeginBegin) refl)
reply_lasting e f h (Promotes false) n = e_cons (PromoteReply f false) refl (of_veto (lasting e) (sees h (PromoteReply f false)))
reply_lasting e f h (OwnerReply x) n = owner_lasting e f h x (due_of h.seen f.value)
reply_lasting e f h Ack n =
    e_cons (Acked f) (not_false (e.value == f.value) (apart (e.value == f.value) n))
    (of_ack (lasting e) h.waits h.seen (conn_due h.seen f.value) (λ g. e_one (Sent (Enl g) Up EnlistAck) refl) (λ g. e_one (Sent (Again g) Up ReenlistAck) refl))
  where
    apart : (b : Bool) → (b && true) ≡ false → b ≡ false
    apart true q = absurd cc
    apart false q = refl

pub lasting_reply : (e f : EnlNo) (h : Half) (r : Reply) → ((e.value == f.value) && is_own_reply r) ≡ false → each (is_lasting e) (reply_entries h f r) ≡ true
lasting_reply e f h r n = (reply_lasting e f h r n).proof

-- The coordinator. Where it decides, it sends to each that waits and is known.
in_front : (e : EnlNo) (xs ys : List Entry) → has (is_sent_to e) xs ≡ true → has (is_sent_to e) (xs ++ ys) ≡ true
in_front e xs ys t = list_any-append (is_sent_to e) xs ys ∙ or_left (has (is_sent_to e) xs) (has (is_sent_to e) ys) t

in_back : (e : EnlNo) (xs ys : List Entry) → has (is_sent_to e) ys ≡ true → has (is_sent_to e) (xs ++ ys) ≡ true
in_back e xs ys t = list_any-append (is_sent_to e) xs ys ∙ or_right (has (is_sent_to e) xs) (has (is_sent_to e) ys) t

pub to_known : (e : EnlNo) (k : Coordinated) (f : EnlNo) (m : Message) → (e.value == f.value) ≡ true → has (same_connection (Again e)) k.known ≡ true → has (is_sent_to e) (to k (Again f) m) ≡ true
to_known e k f m q t =
    let P : EnlNo → Type 0 = λ g. has (same_connection (Again g)) k.known ≡ true in
    by (has (same_connection (Again f)) k.known) (subst P (same_enlistment e f (eqb-true e.value f.value q)) t)
  where
    by : (b : Bool) → b ≡ true → has (is_sent_to e) (if b then Sent (Again f) Down m ∷ [] else []) ≡ true
    by true p = rw q refl
    by false p = absurd cc

waiting_sent : (e : EnlNo) (k : Coordinated) (m : Message) (ws : List EnlNo) → has (is_number e.value) ws ≡ true → has (same_connection (Again e)) k.known ≡ true → has (is_sent_to e) (flat_map (λ f. to k (Again f) m) ws) ≡ true
waiting_sent e k m [] t g = absurd cc
waiting_sent e k m (f ∷ ws) t g =
    or_case (is_number e.value f) (has (is_number e.value) ws) (λ q. in_front e (to k (Again f) m) (flat_map (λ f. to k (Again f) m) ws) (to_known e k f m q g))
    (λ q. in_back e (to k (Again f) m) (flat_map (λ f. to k (Again f) m) ws) (waiting_sent e k m ws q g)) t

-- it waits there, and its connection is known
abbrev is_held : EnlNo → Coordinated → Bool
is_held e k = has (is_number e.value) k.waits && has (same_connection (Again e)) k.known

abort_reaches : (e : EnlNo) (k : Coordinated) → is_held e k ≡ true → has (is_sent_to e) (abort_sends k) ≡ true
abort_reaches e k t =
    let early = to k Begin BeginAborted ++ (if k.no then [] else to k Voter VoterAbort) ++ to_each k EnlistAbort (filter (λ d. still_hears d.ballot) k.desks) in
    in_back e early (to_waiting k ReenlistAborted)
    (waiting_sent e k ReenlistAborted k.waits (and_left (has (is_number e.value) k.waits) (has (same_connection (Again e)) k.known) t) (and_right (has (is_number e.value) k.waits) (has (same_connection (Again e)) k.known) t))

commit_reaches : (e : EnlNo) (k : Coordinated) → is_held e k ≡ true → has (is_sent_to e) (commit_sends k) ≡ true
commit_reaches e k t =
    let early = to k Begin BeginCommitted ++ to k Voter VoterCommit ++ to_each k EnlistCommit (filter (λ d. is_prepared d.ballot) k.desks) in
    in_back e early (to_waiting k ReenlistCommitted)
    (waiting_sent e k ReenlistCommitted k.waits (and_left (has (is_number e.value) k.waits) (has (same_connection (Again e)) k.known) t) (and_right (has (is_number e.value) k.waits) (has (same_connection (Again e)) k.known) t))

pub logged_reaches : (e : EnlNo) (h : List Entry) → is_waiting_there e (Logged ∷ h) ≡ true → has (is_sent_to e) (commit_sends (follow (coordinate h) Logged)) ≡ true
unfolding coordinate
logged_reaches e h t = commit_reaches e (follow (coordinate h) Logged) t

pub full_reaches : (e : EnlNo) (h : List Entry) → is_waiting_there e (LogFull ∷ h) ≡ true → has (is_sent_to e) (abort_sends (follow (coordinate h) LogFull)) ≡ true
unfolding coordinate
full_reaches e h t = abort_reaches e (follow (coordinate h) LogFull) t

-- A message or an end that makes it decide otherwise than by the one that it let decide: it aborts.
got_decides : (e : EnlNo) (id : ℕ) (k : Coordinated) (c : Conn) (m : Message) → has_line c Up m ≡ true → withholds k.stage ≡ true → withholds (stage_after k (Got c Up m)) ≡ false → is_held e (follow k (Got c Up m)) ≡ true
    → has (is_sent_to e) (core_got id k c m) ≡ true
got_decides e id k c m l u n t = by (got_verdict withholds withholds_upheld id c m k l u n)
  where
    by : IsVerdict k (Got c Up m) (core_got id k c m) → has (is_sent_to e) (core_got id k c m) ≡ true
    by (inl q) = subst (λ (es : List Entry). has (is_sent_to e) es ≡ true) (sym q) (abort_reaches e (follow k (Got c Up m)) t)
    by (inr v) = absurd (not_both (withholds (stage_after k (Got c Up m))) (ap withholds v.0) n)

stage_there : (k : Coordinated) (x : Entry) → (follow k x).stage ≡ stage_after k x
unfolding follow
stage_there k x = refl

pub got_reaches : (e : EnlNo) (id : ℕ) (c : Conn) (m : Message) (h : List Entry) → has_line c Up m ≡ true → withholds (coordinate h).stage ≡ true → withholds (coordinate (Got c Up m ∷ h)).stage ≡ false
    → is_waiting_there e (Got c Up m ∷ h) ≡ true → has (is_sent_to e) (core_got id (coordinate h) c m) ≡ true
unfolding coordinate
got_reaches e id c m h l u n t = got_decides e id (coordinate h) c m l u (ap withholds (sym (stage_there (coordinate h) (Got c Up m))) ∙ n) t

end_decides : (e : EnlNo) (k : Coordinated) (c : Conn) → withholds k.stage ≡ true → withholds (stage_after k (Ended c Up)) ≡ false → is_held e (follow k (Ended c Up)) ≡ true → has (is_sent_to e) (core_down k c) ≡ true
end_decides e k c u n t = by (end_verdict withholds withholds_upheld k c u n)
  where
    by : (core_down k c ≡ abort_sends (follow k (Ended c Up))) ⊎ ((stage_after k (Ended c Up) ≡ Answered) × (core_down k c ≡ doubt_sends (follow k (Ended c Up)))) → has (is_sent_to e) (core_down k c) ≡ true
    by (inl q) = subst (λ (es : List Entry). has (is_sent_to e) es ≡ true) (sym q) (abort_reaches e (follow k (Ended c Up)) t)
    by (inr v) = absurd (not_both (withholds (stage_after k (Ended c Up))) (ap withholds v.0) n)

pub end_reaches : (e : EnlNo) (c : Conn) (h : List Entry) → withholds (coordinate h).stage ≡ true → withholds (coordinate (Ended c Up ∷ h)).stage ≡ false → is_waiting_there e (Ended c Up ∷ h) ≡ true
    → has (is_sent_to e) (core_down (coordinate h) c) ≡ true
unfolding coordinate
end_reaches e c h u n t = end_decides e (coordinate h) c u (ap withholds (sym (stage_there (coordinate h) (Ended c Up))) ∙ n) t

-- What comes down, and ends on the local side, leave its stage.
pub down_same : (c : Conn) (m : Message) (h : List Entry) → (coordinate (Got c Down m ∷ h)).stage ≡ (coordinate h).stage
unfolding coordinate follow
down_same c m h = stage_down (coordinate h) c m

pub end_same : (c : Conn) (h : List Entry) → (coordinate (Ended c Down ∷ h)).stage ≡ (coordinate h).stage
unfolding coordinate follow
end_same c h = refl

-- and so does what comes up on the connection of a reenlistment
pub again_same : (f : EnlNo) (m : Message) (h : List Entry) → (coordinate (Got (Again f) Up m ∷ h)).stage ≡ (coordinate h).stage
unfolding coordinate follow
again_same f m h = by (has_line (Again f) Up m)
  where
    by : (b : Bool) → (if b then abort_if (not b && false) (coordinate h).stage else abort_if (not b && false) (coordinate h).stage) ≡ (coordinate h).stage
    by true = refl
    by false = refl
