-- The replies and the local act leave less.
use Rattle.std.proofs.Common.{◌≡◌, ℕ, ◌+◌, ◌<◌, ◌≤◌, ◌==◌, Bool, true, false, ◌&&◌, ◌||◌, not, List, [], ◌∷◌, ◌++◌, find, Option, Some, None, is_some, if◌then◌else◌, refl, sym, subst, ap, ◌∙◌, arith}
use Rattle.dtx_values.specs.declared.entry.Ask.TheVariants.{Prepare, Promote, Single}
use Rattle.dtx_values.specs.declared.entry.Entry.{Entry}
use Rattle.dtx_values.specs.declared.entry.Entry.TheVariants.{Acked, Asked, Decided, Handed, LocalYes, OwnerAnswered, PromoteReply, PromotionFailed, Requested, Sealed, Sent, Told, Voted}
use Rattle.dtx_values.specs.declared.entry.Party.TheVariants.{Client, Enl as Member}
use Rattle.dtx_values.specs.declared.message.Conn.{Conn}
use Rattle.dtx_values.specs.declared.message.Conn.TheVariants.{Begin, Voter, Enl, Again}
use Rattle.dtx_values.specs.declared.message.Dir.TheVariants.{Up}
use Rattle.dtx_values.specs.declared.message.Message.TheVariants.{BeginBegin, BeginCommit, BeginCommitOne, EnlistAck, ReenlistAck, VoterAsk, VoterYes}
use Rattle.dtx_values.specs.declared.note.Note.{Note}
use Rattle.dtx_values.specs.declared.note.Note.TheVariants.{Prepare as PrepareNote, Promote as PromoteNote, Hand, Single as SingleNote, Commit}
use Rattle.dtx_values.specs.declared.note.Reply.{Reply}
use Rattle.dtx_values.specs.declared.note.Reply.TheVariants.{Vote as VoteReply, Promote as Promotes, Owner as OwnerReply, Ack}
use Rattle.dtx_values.specs.declared.number.EnlNo.{EnlNo}
use Rattle.dtx_values.specs.declared.row.Row.{Row}
use Rattle.dtx_values.specs.declared.words.Outcome.{Outcome}
use Rattle.dtx_values.specs.declared.words.Outcome.TheVariants.{Committed, Aborted, InDoubt}
use Rattle.dtx_values.specs.declared.words.Vote.{Vote}
use Rattle.dtx_values.specs.declared.words.Vote.TheVariants.{Yes, No, Done}
use Rattle.dtx_values.specs.Class.{is_class, is_promotable}
use Rattle.dtx_values.specs.Ends.{tag_of, was_got}
use Rattle.dtx_values.specs.Owners.{commits_alone, owner_of}
use Rattle.dtx_values.specs.Row.{is_marked, is_of}
use Rattle.dtx_values.specs.Table.{voted_before}
use Rattle.dtx_values.specs.Vote.{is_no}
use Rattle.dtx_values.specs.Waves.{all_voted, is_over, may_be_asked, name_of, next_ask}
use Rattle.local_half.specs.Half.{owes_ack}
use Rattle.dtx_model.specs.declared.branch.Branch.{Branch}
use Rattle.dtx_model.specs.declared.listener.Listener.{Listener}
use Rattle.dtx_model.specs.declared.waiting.EnteredCall.{EnteredCall}
use Rattle.dtx_model.specs.Acts.{act_by, act_entries, ask_or, asked_act, commit_act, commit_sent, is_to_tell, promotable_in, promoted_act, sealed_act, tell, unasked_promotable, undecided_act, under_way, voter_act, yes_act}
use Rattle.dtx_model.specs.Half.{Half, decide, ended, fails_if, half_of, is_gone, is_handed, is_promoting, sees, to_up, veto}
use Rattle.dtx_model.specs.Observed.{Observed, is_branch, listeners, observe, rows}
use Rattle.dtx_model.specs.Outcome.{is_empty}
use Rattle.dtx_model.specs.Replies.{ack_on, conn_due, due_conn, due_of, fits, is_volatile_row, is_unsettled, may_still_answer, may_still_vote, note_of_conn, note_of_row, one_message, owes_outcome, owes_promotion, owes_request, owes_vote, owner_entries, promote_entries, reply_entries, request_message, request_of, row_note, vote_message, voted_by}
use Rattle.dtx_model.specs.Words.{has, onto, or_else}
use Rattle.dtx_model.proofs.Bools.{and_both, and_left, and_right, not_true}
use Rattle.history_table.proofs.Tests.{eq_self, second_of_four, second_of_three}
use Rattle.world_laws.specs.Left.{unmarked, untold, unvoted}
use Rattle.world_laws.proofs.LeftCounts.{find-passes, has-found}
use Rattle.world_laws.proofs.LeftHalf.{client-half, decided-half, handed-half, owner-half, promote-half, replied-half, requested-half, sealed-half, single-half, yes-half}
use Rattle.world_laws.proofs.LeftItems.{acked-less, marked-less, told-less, voted-less}
use Rattle.world_laws.proofs.LeftLocal.{free-ended, free-up, free-veto, free-veto_if}
use Rattle.world_laws.proofs.LeftSpend.{Free, by-half, falls-by, free-cons, free-if, free-more, free-none, left, less-free, spend}

no : false ≡ true → ⊥
no e = absurd cc

-- To what a reply is due tells what isn't done yet.
abbrev pub Owed : Observed → ℕ → Note → Type 0
Owed o e PrepareNote = has (λ x. is_of e x && unvoted x) o.table ≡ true
Owed o e PromoteNote = o.promote_replied ≡ false
Owed o e Hand = may_still_answer o ≡ true
Owed o e SingleNote = o.requested ≡ false
Owed o e Commit = has (λ b. is_branch e b && owes_ack b) o.branches ≡ true
Owed o e _ = Unit {0}

owed_row : (o : Observed) (e : ℕ) (x : Row) (n : Note) → find (is_of e) o.table ≡ Some x → row_note o x ≡ Some n → Owed o e n
owed_row o e x n f k = by (owes_vote o x) (owes_promotion o x) (owes_outcome o x) (owes_request o x) refl refl refl refl n k
  where
    by : (a b c d : Bool) → owes_vote o x ≡ a → owes_promotion o x ≡ b → owes_outcome o x ≡ c → owes_request o x ≡ d → (n : Note)
        → (if a then Some PrepareNote else if b then Some PromoteNote else if c then Some Hand else if d then Some SingleNote else None) ≡ Some n → Owed o e n
    by true b c d p q r s PrepareNote k =
        has-found (is_of e) (λ y. is_of e y && unvoted y) x o.table f
        (and_both (is_of e x) (unvoted x) (find-passes (is_of e) x o.table f) (second_of_three (is_marked x) (unvoted x) (may_still_vote o x) p))
    by false true c d p q r s PromoteNote k = not_true o.promote_replied (second_of_four o.promote_asked (not o.promote_replied) (is_promotable x.class) (not (is_some o.decided)) q)
    by false false true d p q r s Hand k = and_right (is_handed o.handed x.number.value) (may_still_answer o) r
    by false false false true p q r s SingleNote k = not_true o.requested (second_of_four o.single_asked (not o.requested) (is_promotable x.class) (not (is_some o.decided)) s)
    by _ _ _ _ p q r s _ k = absurd cc

owed_conn : (o : Observed) (e : ℕ) (n : Note) → note_of_conn (conn_due o e) ≡ Some n → Owed o e n
owed_conn o e n k = by (find (is_branch e) o.branches) refl n k
  where
    by : (b : Option Branch) → find (is_branch e) o.branches ≡ b → (n : Note) → note_of_conn (due_conn b) ≡ Some n → Owed o e n
    by None f n k = absurd cc
    by (Some b) f n k = at b.due refl n k
      where
        at : (d : Option Conn) → b.due ≡ d → (n : Note) → note_of_conn d ≡ Some n → Owed o e n
        at None q n k = absurd cc
        at (Some c) q Commit k = has-found (is_branch e) (λ y. is_branch e y && owes_ack y) b o.branches f (and_both (is_branch e b) (owes_ack b) (find-passes (is_branch e) b o.branches f) (ap is_some q))
        at (Some c) q _ k = absurd cc

-- a reply that is due isn't given yet
pub owed : (o : Observed) (e : ℕ) (n : Note) → due_of o e ≡ Some n → Owed o e n
unfolding due_of
owed o e n k = by (is_gone o e) (find (is_of e) o.table) refl k
  where
    by : (g : Bool) (r : Option Row) → find (is_of e) o.table ≡ r → (if g then None else or_else (note_of_row o r) (note_of_conn (conn_due o e))) ≡ Some n → Owed o e n
    by true r f k = absurd cc
    by false None f k = owed_conn o e n k
    by false (Some x) f k = at (row_note o x) refl k
      where
        at : (m : Option Note) → row_note o x ≡ m → or_else m (note_of_conn (conn_due o e)) ≡ Some n → Owed o e n
        at (Some z) q k = owed_row o e x n f (q ∙ k)
        at None q k = owed_conn o e n k

-- a decision leaves less, where nothing was decided
decide_falls : (ks : List EnteredCall) (h : List Entry) (g : Half) (x : Outcome) → is_some (observe h).decided ≡ false → left ks (onto h (decide g x)) < left ks h
unfolding observe
decide_falls ks h g x n = by (is_promoting g.seen)
  where
    after : (h : List Entry) → is_some (observe h).decided ≡ false → left ks (onto h (Decided x ∷ ended g.waits x)) < left ks h
    after h n = falls-by ks h (ended g.waits x) (Decided x) 1 0 (by-half ks h (Decided x) 1 (decided-half ks x h n) refl (omega arith)) (less-free (free-ended g.waits x)) (omega arith)

    by : (b : Bool) → left ks (onto h (fails_if b ++ Decided x ∷ ended g.waits x)) < left ks h
    by true = let a = spend ks PromotionFailed h refl in let b = after (PromotionFailed ∷ h) n in omega arith
    by false = after h n

-- The replies.
free-voted : (g : Half) (e : EnlNo) (v : Vote) → Free (voted_by g e v) 1
free-voted g e v = free-if (is_volatile_row g.seen e.value) (free-veto_if (is_no v) g) (by v)
  where
    by : (v : Vote) → Free (to_up g.seen (Enl e) (vote_message v)) 1
    by Yes = free-up g.seen (Enl e) (vote_message Yes) 1 (omega arith)
    by No = free-up g.seen (Enl e) (vote_message No) 1 (omega arith)
    by Done = free-up g.seen (Enl e) (vote_message Done) 1 (omega arith)

free-ack : (o : Observed) (c : Option Conn) → Free (ack_on o c) 1
free-ack o (Some (Enl e)) = free-up o (Enl e) EnlistAck 1 (omega arith)
free-ack o (Some (Again e)) = free-up o (Again e) ReenlistAck 1 (omega arith)
free-ack o (Some Begin) = free-none 1
free-ack o (Some Voter) = free-none 1
free-ack o None = free-none 1

vote_falls : (ks : List EnteredCall) (h : List Entry) (g : Half) (e : EnlNo) (v : Vote) → Owed (observe h) e.value PrepareNote → left ks (onto h (Voted e v ∷ voted_by g e v)) < left ks h
unfolding observe
vote_falls ks h g e v o = falls-by ks h (voted_by g e v) (Voted e v) 2 1 (by-half ks h (Voted e v) 2 (voted-less ks e v h o) refl (omega arith)) (less-free (free-voted g e v)) (omega arith)

promote_falls : (ks : List EnteredCall) (h : List Entry) (g : Half) (e : EnlNo) (b : Bool) → (observe h).promote_replied ≡ false → left ks (onto h (promote_entries g e b)) < left ks h
promote_falls ks h g e true n =
    falls-by ks h (Sent Begin Up BeginBegin ∷ []) (PromoteReply e true) 24 23 (by-half ks h (PromoteReply e true) 24 (replied-half ks e true h n) refl (omega arith))
    (less-free (free-more 23 (omega arith) (free-cons (Sent Begin Up BeginBegin) refl (free-none 0)))) (omega arith)
promote_falls ks h g e false n =
    falls-by ks h (veto (sees g (PromoteReply e false))) (PromoteReply e false) 24 1 (by-half ks h (PromoteReply e false) 24 (replied-half ks e false h n) refl (omega arith))
    (less-free (free-veto (sees g (PromoteReply e false)))) (omega arith)

free-request : (o : Observed) (x : Outcome) → Free (to_up o Begin (request_message x)) 1
free-request o Aborted = free-up o Begin (request_message Aborted) 1 (omega arith)
free-request o Committed = free-up o Begin (request_message Committed) 1 (omega arith)
free-request o InDoubt = free-up o Begin (request_message InDoubt) 1 (omega arith)

request_falls : (ks : List EnteredCall) (h : List Entry) (g : Half) (e : EnlNo) (x : Outcome) → (observe h).requested ≡ false
    → left ks (onto h (Requested e (request_of x) ∷ to_up g.seen Begin (request_message x))) < left ks h
request_falls ks h g e x n =
    falls-by ks h (to_up g.seen Begin (request_message x)) (Requested e (request_of x)) 2 1 (by-half ks h (Requested e (request_of x)) 2 (requested-half ks e (request_of x) h n) refl (omega arith))
    (less-free (free-request g.seen x)) (omega arith)

free-answer : (o : Observed) (e : EnlNo) (x : Outcome) → Free (to_up o (Enl e) (one_message x)) 1
free-answer o e Committed = free-up o (Enl e) (one_message Committed) 1 (omega arith)
free-answer o e Aborted = free-up o (Enl e) (one_message Aborted) 1 (omega arith)
free-answer o e InDoubt = free-up o (Enl e) (one_message InDoubt) 1 (omega arith)

alone_falls : (ks : List EnteredCall) (h : List Entry) (g : Half) (e : EnlNo) (x : Outcome) → is_some (observe h).decided ≡ false → left ks (onto h (OwnerAnswered e x ∷ decide g x)) < left ks h
unfolding observe
alone_falls ks h g e x n = let a = spend ks (OwnerAnswered e x) h refl in let b = decide_falls ks (OwnerAnswered e x ∷ h) g x n in omega arith

-- the owner's answer: where it is promoted the coordinator is told, else it decides
owned_falls : (ks : List EnteredCall) (h : List Entry) (e : EnlNo) (x : Outcome) → may_still_answer (observe h) ≡ true
    → left ks (onto h (OwnerAnswered e x ∷ (if (observe h).promoted then to_up (observe h) (Enl e) (one_message x) else decide (half_of ks h) x))) < left ks h
owned_falls ks h e x m = by (observe h).promoted (may m)
  where
    o : Observed
    o = observe h

    may : may_still_answer o ≡ true → (if o.promoted then not o.answered && is_unsettled o.decided else not (is_some o.decided)) ≡ true
    may m = m

    by : (b : Bool) → (if b then not o.answered && is_unsettled o.decided else not (is_some o.decided)) ≡ true
        → left ks (onto h (OwnerAnswered e x ∷ (if b then to_up o (Enl e) (one_message x) else decide (half_of ks h) x))) < left ks h
    by true q =
        falls-by ks h (to_up o (Enl e) (one_message x)) (OwnerAnswered e x) 2 1
        (by-half ks h (OwnerAnswered e x) 2 (owner-half ks e x h (not_true o.answered (and_left (not o.answered) (is_unsettled o.decided) q))) refl (omega arith)) (less-free (free-answer o e x)) (omega arith)
    by false q = alone_falls ks h (half_of ks h) e x (not_true (is_some o.decided) q)

ack_falls : (ks : List EnteredCall) (h : List Entry) (g : Half) (e : EnlNo) (c : Option Conn) → Owed (observe h) e.value Commit → left ks (onto h (Acked e ∷ ack_on g.seen c)) < left ks h
unfolding observe
ack_falls ks h g e c o = falls-by ks h (ack_on g.seen c) (Acked e) 2 1 (by-half ks h (Acked e) 2 (acked-less ks e h o) refl (omega arith)) (less-free (free-ack g.seen c)) (omega arith)

-- a reply that is due and fits leaves less
pub reply_falls : (ks : List EnteredCall) (h : List Entry) (e : EnlNo) (r : Reply) (n : Note) → due_of (observe h) e.value ≡ Some n → fits r n ≡ true → left ks (onto h (reply_entries (half_of ks h) e r)) < left ks h
unfolding reply_entries
reply_falls ks h e (VoteReply v) PrepareNote d f = vote_falls ks h (sees (half_of ks h) (Voted e v)) e v (owed (observe h) e.value PrepareNote d)
reply_falls ks h e (Promotes ok) PromoteNote d f = promote_falls ks h (half_of ks h) e ok (owed (observe h) e.value PromoteNote d)
reply_falls ks h e (OwnerReply x) Hand d f =
    subst (λ (o : Option Note). left ks (onto h (owner_entries (half_of ks h) e x o)) < left ks h) (sym d) (owned_falls ks h e x (owed (observe h) e.value Hand d))
reply_falls ks h e (OwnerReply x) SingleNote d f =
    subst (λ (o : Option Note). left ks (onto h (owner_entries (half_of ks h) e x o)) < left ks h) (sym d) (request_falls ks h (half_of ks h) e x (owed (observe h) e.value SingleNote d))
reply_falls ks h e Ack Commit d f = ack_falls ks h (half_of ks h) e (conn_due (observe h) e.value) (owed (observe h) e.value Commit d)
reply_falls ks h e _ _ d f = absurd (no f)

-- The local act: where there is one, it leaves less.
record Drops (ks : List EnteredCall) (h es : List Entry) : Type 0 where
  less : is_empty es ≡ false → left ks (onto h es) < left ks h

drops-none : {ks : List EnteredCall} {h : List Entry} → Drops ks h []
drops-none = record { less = λ n. absurd (by n) }
  where
    by : true ≡ false → ⊥
    by e = absurd cc

drops-if : (b : Bool) {ks : List EnteredCall} {h xs ys : List Entry} → (b ≡ true → Drops ks h xs) → (b ≡ false → Drops ks h ys) → Drops ks h (if b then xs else ys)
drops-if true p q = p refl
drops-if false p q = q refl

drops-by : {ks : List EnteredCall} {h es : List Entry} → left ks (onto h es) < left ks h → Drops ks h es
drops-by l = record { less = λ _. l }

-- one entry that leaves so much less at the local side
drops-one : {ks : List EnteredCall} {h : List Entry} (x : Entry) → left ks (x ∷ h) + 1 ≤ left ks h → Drops ks h (x ∷ [])
drops-one x a = record { less = λ _. omega arith }

asked_unmarked : (xs : List Row) (z : Bool) (e : EnlNo) → next_ask xs z ≡ Some e → has (λ x. is_of e.value x && unmarked x) xs ≡ true
unfolding next_ask
asked_unmarked xs z e k = step (find (may_be_asked xs z) xs) refl k
  where
    step : (o : Option Row) → find (may_be_asked xs z) xs ≡ o → name_of o ≡ Some e → has (λ x. is_of e.value x && unmarked x) xs ≡ true
    step None f k = absurd (cc)
    step (Some x) f k =
        let same : x.number ≡ e = cc in
        let passes = find-passes (may_be_asked xs z) x xs f in
        let none : unmarked x ≡ true = and_right (is_class z x.class) (unmarked x) (and_left (is_class z x.class && unmarked x) (not z || voted_before x.added xs) passes) in
        has-found (may_be_asked xs z) (λ y. is_of e.value y && unmarked y) x xs f (rw (← same) (and_both (x.number.value == x.number.value) (unmarked x) (eq_self x.number.value) none))

drops-ask : {ks : List EnteredCall} {h : List Entry} (z over : Bool) {next : List Entry} → Drops ks h next → Drops ks h (ask_or (next_ask (rows h) z) over next)
drops-ask {ks} {h} z over {next} d = by (next_ask (rows h) z) refl
  where
    by : (o : Option EnlNo) → next_ask (rows h) z ≡ o → Drops ks h (ask_or o over next)
    by (Some e) q = drops-one (Asked e Prepare) (by-half ks h (Asked e Prepare) 1 (marked-less ks e h (asked_unmarked (rows h) z e q)) refl (omega arith))
    by None q = drops-if over (λ _. d) (λ _. drops-none)

drops-tell : (ks : List EnteredCall) (h : List Entry) (x : Outcome) → Drops ks h (tell x (find (is_to_tell (observe h) x) (listeners h)) (observe h).told_client)
drops-tell ks h x = by (find (is_to_tell (observe h) x) (listeners h)) refl (observe h).told_client refl
  where
    by : (l : Option Listener) → find (is_to_tell (observe h) x) (listeners h) ≡ l → (t : Option Outcome) → (observe h).told_client ≡ t → Drops ks h (tell x l t)
    by (Some l) f t q =
        let passes = find-passes (is_to_tell (observe h) x) l (listeners h) f in
        let untold_now : untold l ≡ true = and_left (untold l) _ passes in
        let there = has-found (is_to_tell (observe h) x) (λ y. (l.enlistment.value == y.enlistment.value) && untold y) l (listeners h) f (and_both (l.enlistment.value == l.enlistment.value) (untold l) (eq_self l.enlistment.value) untold_now) in
        drops-one (Told (Member l.enlistment) x) (by-half ks h (Told (Member l.enlistment) x) 1 (told-less ks l.enlistment x h there) refl (omega arith))
    by None f (Some y) q = drops-none
    by None f None q = drops-one (Told Client x) (by-half ks h (Told Client x) 1 (client-half ks x h (ap is_some q)) refl (omega arith))

drops-commit : (ks : List EnteredCall) (h : List Entry) (g : Half) (o : Option EnlNo) → is_some (observe h).handed ≡ false → is_some (observe h).decided ≡ false → Drops ks h (commit_act g o)
drops-commit ks h g (Some e) n d = drops-one (Handed e) (by-half ks h (Handed e) 1 (handed-half ks e h n) refl (omega arith))
drops-commit ks h g None n d = drops-by (decide_falls ks h g Committed d)

drops-yes : (ks : List EnteredCall) (h : List Entry) → Drops ks h (yes_act (observe h))
drops-yes ks h =
    drops-if (observe h).yes (λ _. drops-none)
    (λ n. drops-by (falls-by ks h (to_up (observe h) Voter VoterYes) LocalYes 2 1 (by-half ks h LocalYes 2 (yes-half ks h n) refl (omega arith)) (less-free (free-up (observe h) Voter VoterYes 1 (omega arith))) (omega arith)))

drops-voter : (ks : List EnteredCall) (h : List Entry) → Drops ks h (voter_act (half_of ks h))
unfolding observe
drops-voter ks h = drops-if (was_got Voter (tag_of VoterAsk) (observe h).ends) (λ _. drops-ask false (all_voted (rows h)) (drops-yes ks h)) (λ _. drops-none)

drops-promoted : (ks : List EnteredCall) (h : List Entry) (o : Option EnlNo) → Drops ks h (promoted_act (half_of ks h) o)
drops-promoted ks h (Some e) =
    drops-if (observe h).single_asked (λ _. drops-voter ks h) (λ n. drops-one (Asked e Single) (by-half ks h (Asked e Single) 1 (single-half ks e h n) refl (omega arith)))
drops-promoted ks h None = drops-voter ks h

drops-sealed : (ks : List EnteredCall) (h : List Entry) → is_some (observe h).decided ≡ false → Drops ks h (sealed_act (half_of ks h))
unfolding observe
drops-sealed ks h d =
    drops-if (observe h).promoted (λ _. drops-promoted ks h (promotable_in (observe h).table))
    (λ _. drops-ask false (all_voted (rows h)) (drops-if (is_some (observe h).handed) (λ _. drops-none) (λ n. drops-commit ks h (half_of ks h) (owner_of (rows h)) n d)))

free-commit_sent : (o : Observed) → Free (commit_sent o) 1
free-commit_sent o = free-if (o.promoted && not (is_some (promotable_in o.table))) (by (commits_alone o.table)) (free-none 1)
  where
    by : (b : Bool) → Free (to_up o Begin (if b then BeginCommitOne else BeginCommit)) 1
    by true = free-up o Begin BeginCommitOne 1 (omega arith)
    by false = free-up o Begin BeginCommit 1 (omega arith)

drops-asked : (ks : List EnteredCall) (h : List Entry) → is_some (observe h).decided ≡ false → Drops ks h (asked_act (half_of ks h))
unfolding observe
drops-asked ks h d =
    drops-if (observe h).sealed (λ _. drops-sealed ks h d)
    (λ n. drops-ask true (is_over (rows h) (observe h).clones (under_way (half_of ks h)))
    (drops-by (falls-by ks h (commit_sent (observe h)) Sealed 2 1 (by-half ks h Sealed 2 (sealed-half ks h n) refl (omega arith)) (less-free (free-commit_sent (observe h))) (omega arith))))

drops-undecided : (ks : List EnteredCall) (h : List Entry) → is_some (observe h).decided ≡ false → Drops ks h (undecided_act (half_of ks h) (unasked_promotable (observe h)))
drops-undecided ks h d = by (is_promoting (observe h) && not (observe h).promote_asked) refl
  where
    rest : Drops ks h (if (observe h).commit then asked_act (half_of ks h) else [])
    rest = drops-if (observe h).commit (λ _. drops-asked ks h d) (λ _. drops-none)

    by : (b : Bool) → (is_promoting (observe h) && not (observe h).promote_asked) ≡ b → Drops ks h (undecided_act (half_of ks h) (if b then promotable_in (observe h).table else None))
    by true q = at (promotable_in (observe h).table)
      where
        at : (o : Option EnlNo) → Drops ks h (undecided_act (half_of ks h) o)
        at (Some e) = drops-one (Asked e Promote) (by-half ks h (Asked e Promote) 1 (promote-half ks e h (not_true (observe h).promote_asked (and_right (is_promoting (observe h)) (not (observe h).promote_asked) q))) refl (omega arith))
        at None = rest
    by false q = rest

drops-act : (ks : List EnteredCall) (h : List Entry) (d : Option Outcome) → (observe h).decided ≡ d → Drops ks h (act_by d (half_of ks h))
unfolding observe
drops-act ks h (Some x) q = drops-tell ks h x
drops-act ks h None q = drops-undecided ks h (ap is_some q)

-- the local act, where there is one, leaves less
pub act_falls : (ks : List EnteredCall) (h : List Entry) → is_empty (act_entries (half_of ks h)) ≡ false → left ks (onto h (act_entries (half_of ks h))) < left ks h
unfolding act_entries
act_falls ks h n = (drops-act ks h (observe h).decided refl).less n
