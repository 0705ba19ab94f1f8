-- What stands before what is sent, and so before what is got.
use Rattle.std.proofs.Common.{◌≡◌, Bool, true, ◌&&◌, List, sym, subst, ◌∷◌, false, refl, ◌==◌, []}
use Rattle.std.specs.Prelude.{not, ◌||◌}
use Rattle.std.proofs.lemmas.Bool.{false_from_ne_true, or_left}
use Rattle.dtx_values.specs.declared.entry.Entry.{Entry}
use Rattle.dtx_values.specs.declared.entry.Entry.TheVariants.{Sent, Got, Down as End, Voted, Freed, Logged, Restarted}
use Rattle.dtx_values.specs.declared.message.Conn.{Conn}
use Rattle.dtx_values.specs.declared.message.Conn.TheVariants.{Voter, Begin, Enl}
use Rattle.dtx_values.specs.declared.message.Dir.{Dir}
use Rattle.dtx_values.specs.declared.message.Dir.TheVariants.{Up, Down}
use Rattle.dtx_values.specs.declared.message.Info.{Info}
use Rattle.dtx_values.specs.declared.message.Message.{Message}
use Rattle.dtx_values.specs.declared.message.Message.TheVariants.{BeginCommitted, VoterCommit, EnlistCommit, ReenlistCommitted, BeginAborted, VoterRefused, VoterAbort, EnlistRefused, EnlistAbort, ReenlistAborted, VoterYes, BeginCommit, BeginCommitOne, EnlistPrepared, EnlistSingle, EnlistReadonly, EnlistEnlist}
use Rattle.dtx_values.specs.declared.number.EnlNo.{EnlNo}
use Rattle.dtx_values.specs.declared.words.Vote.{Vote}
use Rattle.dtx_values.specs.declared.words.Vote.TheVariants.{Yes, No, Done}
use Rattle.dtx_values.specs.Ends.{same_connection, same_direction}
use Rattle.dtx_values.specs.Lines.{has_line}
use Rattle.dtx_values.specs.Vote.{is_good}
use Rattle.dtx_model.specs.Words.{has, ever}
use Rattle.dtx_model.specs.Entries.{is_yes, is_yes_got, is_any_single_sent, is_promoted, is_sealed, is_decision, is_commit_got, is_good_vote, is_record}
use Rattle.dtx_model.specs.Learned.{coordinator_aborted, is_first_abort}
use Rattle.dtx_model.specs.Tied.{is_ready_got, has_mark, is_logged}
use Rattle.dtx_model.specs.Wires.{opens}
use Rattle.dtx_model.specs.Promotes.{ends_told, is_promoting, is_refusal}
use Rattle.dtx_model.specs.Caused.{same_vote}
use Rattle.dtx_model.specs.Coordinated.{coordinate, has_desk, is_sole}
use Rattle.dtx_model.proofs.Bools.{and_left, and_right, not_both, not_true, not_false, or_case, or_false, or_right, and_both}
use Rattle.dtx_model.proofs.Connections.{same_is, same_way_is}
use Rattle.history_table.proofs.Tests.{first_of_four, third_of_four, fourth_of_four, second_of_four}
use Rattle.history_table.proofs.Table.{ends_with, is_aborted_for_good, is_one_aborted, is_one_committed, is_one_phase_got, is_there, may_commit, may_let_decide, message_row, rule, is_cast}
use Rattle.history_table.proofs.Keeping.{Keeps, before, earlier, earlier_keeping, keeps_before, newest}
use Rattle.history_table.proofs.Crossed.{is_sent_on, is_got_on, was_sent, got_sent, end_opened}
use Rattle.history_table.proofs.Messages.{YES, COMMIT, VOTED}
use Rattle.history_table.proofs.Scans.{has_more}

-- What is sent has a line there, and keeps its row.
pub sent_row : (c : Conn) (d : Dir) (p : Message → Bool) (Q : List Entry → Bool)
    → ((m : Message) (h : List Entry) → Keeps h → p m ≡ true → has_line c d m ≡ true → message_row h c m ≡ true → Q h ≡ true)
    → (x : Entry) (h : List Entry) → Keeps h → rule h x ≡ true → is_sent_on c d p x ≡ true → Q h ≡ true
sent_row c d p Q f (Sent e r m) h k q t =
    let both = and_left (same_connection c e && same_direction d r) (p m) t in
    let conn : c ≡ e = same_is c e (and_left (same_connection c e) (same_direction d r) both) in
    let way : d ≡ r = same_way_is d r (and_right (same_connection c e) (same_direction d r) both) in
    let line : has_line e r m ≡ true = first_of_four (has_line e r m) (has is_promoting h) (is_there h e r m) (message_row h e m) q in
    let row : message_row h e m ≡ true = fourth_of_four (has_line e r m) (has is_promoting h) (is_there h e r m) (message_row h e m) q in
    let L : Conn → Type 0 = λ y. has_line y r m ≡ true in
    let W : Dir → Type 0 = λ y. has_line c y m ≡ true in
    let R : Conn → Type 0 = λ y. message_row h y m ≡ true in
    f m h k (and_right (same_connection c e && same_direction d r) (p m) t) (subst W (sym way) (subst L (sym conn) line)) (subst R (sym conn) row)
sent_row c d p Q f _ h k q t = absurd cc

-- what is sent is sent of a promotion
sent_promoting : (c : Conn) (d : Dir) (p : Message → Bool) (x : Entry) (h : List Entry) → Keeps h → rule h x ≡ true → is_sent_on c d p x ≡ true → has is_promoting h ≡ true
sent_promoting c d p (Sent e r m) h k q t = second_of_four (has_line e r m) (has is_promoting h) (is_there h e r m) (message_row h e m) q
sent_promoting c d p _ h k q t = absurd cc

opens_promoting : (c : Conn) (x : Entry) (h : List Entry) → Keeps h → rule h x ≡ true → opens c x ≡ true → has is_promoting h ≡ true
opens_promoting c (Sent e Up m) h k q t = second_of_four (has_line e Up m) (has is_promoting h) (is_there h e Up m) (message_row h e m) q
opens_promoting c _ h k q t = absurd cc

-- a connection was opened of a promotion
pub opened_promoting : (c : Conn) (h : List Entry) → Keeps h → has (opens c) h ≡ true → has is_promoting h ≡ true
opened_promoting c h k s = before (opens c) is_promoting (opens_promoting c) h k s

-- what a message needs that passes p, and stays, stands where such a message was got
pub from_got : (c : Conn) (d : Dir) (p : Message → Bool) (Q : List Entry → Bool) → ((x : Entry) (h : List Entry) → Q h ≡ true → Q (x ∷ h) ≡ true)
    → ((m : Message) (h : List Entry) → Keeps h → p m ≡ true → has_line c d m ≡ true → message_row h c m ≡ true → Q h ≡ true)
    → (h : List Entry) → Keeps h → has (is_got_on c d p) h ≡ true → Q h ≡ true
from_got c d p Q stays f h k s = earlier (is_sent_on c d p) Q stays (sent_row c d p Q f) h k (was_sent c d p h k.wires s)

-- and where it is got now
pub by_got : (c : Conn) (d : Dir) (p : Message → Bool) (Q : List Entry → Bool) → ((x : Entry) (h : List Entry) → Q h ≡ true → Q (x ∷ h) ≡ true)
    → ((m : Message) (h : List Entry) → Keeps h → p m ≡ true → has_line c d m ≡ true → message_row h c m ≡ true → Q h ≡ true)
    → (m : Message) (h : List Entry) → Keeps (Got c d m ∷ h) → p m ≡ true → Q h ≡ true
by_got c d p Q stays f m h k t =
    let past = keeps_before (Got c d m) h k in earlier (is_sent_on c d p) Q stays (sent_row c d p Q f) h past (got_sent c d m p h k.wires.0 t)

-- the same, where what stays has its say in the table
pub by_got_keeping : (c : Conn) (d : Dir) (p : Message → Bool) (Q : List Entry → Bool) → ((x : Entry) (h : List Entry) → Keeps (x ∷ h) → Q h ≡ true → Q (x ∷ h) ≡ true)
    → ((m : Message) (h : List Entry) → Keeps h → p m ≡ true → has_line c d m ≡ true → message_row h c m ≡ true → Q h ≡ true)
    → (m : Message) (h : List Entry) → Keeps (Got c d m ∷ h) → p m ≡ true → Q h ≡ true
by_got_keeping c d p Q stays f m h k t =
    let past = keeps_before (Got c d m) h k in earlier_keeping (is_sent_on c d p) Q stays (sent_row c d p Q f) h past (got_sent c d m p h k.wires.0 t)

pub from_got_keeping : (c : Conn) (d : Dir) (p : Message → Bool) (Q : List Entry → Bool) → ((x : Entry) (h : List Entry) → Keeps (x ∷ h) → Q h ≡ true → Q (x ∷ h) ≡ true)
    → ((m : Message) (h : List Entry) → Keeps h → p m ≡ true → has_line c d m ≡ true → message_row h c m ≡ true → Q h ≡ true)
    → (h : List Entry) → Keeps h → has (is_got_on c d p) h ≡ true → Q h ≡ true
from_got_keeping c d p Q stays f h k s = earlier_keeping (is_sent_on c d p) Q stays (sent_row c d p Q f) h k (was_sent c d p h k.wires s)

-- what is got has a line there
pub got_line : (c : Conn) (d : Dir) (m : Message) (h : List Entry) → Keeps (Got c d m ∷ h) → has_line c d m ≡ true
got_line c d m h k = step (has_line c d m) refl
  where
    none : (n : Message) (g : List Entry) → Keeps g → not (has_line c d n) ≡ true → has_line c d n ≡ true → message_row g c n ≡ true → false ≡ true
    none n g w t l r = absurd (not_both (has_line c d n) l (not_true (has_line c d n) t))

    step : (b : Bool) → has_line c d m ≡ b → has_line c d m ≡ true
    step true e = e
    step false e =
        let never : false ≡ true = by_got c d (λ n. not (has_line c d n)) (λ g. false) (λ x g t. t) none m h k (rw e refl) in absurd cc

-- what is got is got of a promotion
pub got_promoting : (c : Conn) (d : Dir) (m : Message) (h : List Entry) → Keeps (Got c d m ∷ h) → has is_promoting h ≡ true
got_promoting c d m h k =
    before (is_sent_on c d (λ n. true)) is_promoting (sent_promoting c d (λ n. true)) h (keeps_before (Got c d m) h k) (got_sent c d m (λ n. true) h k.wires.0 refl)

-- and so is an end that is seen
pub end_promoting : (c : Conn) (d : Dir) (h : List Entry) → Keeps (End c d ∷ h) → has is_promoting h ≡ true
end_promoting c d h k = opened_promoting c h (keeps_before (End c d) h k) (end_opened c d h k.wires.0)

-- a commit that the coordinator sends to an enlistment, one that it sends on b or v, and an abort or a refusal
abbrev pub is_commit_message : Message → Bool
is_commit_message EnlistCommit = true
is_commit_message ReenlistCommitted = true
is_commit_message _ = false

abbrev pub is_commit_verdict : Message → Bool
is_commit_verdict BeginCommitted = true
is_commit_verdict VoterCommit = true
is_commit_verdict _ = false

abbrev pub is_abort_message : Message → Bool
is_abort_message BeginAborted = true
is_abort_message (VoterRefused cause) = true
is_abort_message VoterAbort = true
is_abort_message (EnlistRefused cause) = true
is_abort_message EnlistAbort = true
is_abort_message ReenlistAborted = true
is_abort_message _ = false

-- an abort or a refusal that comes only where nobody was let decide
abbrev pub is_final_abort : Message → Bool
is_final_abort BeginAborted = true
is_final_abort (VoterRefused cause) = true
is_final_abort VoterAbort = true
is_final_abort (EnlistRefused cause) = true
is_final_abort EnlistAbort = true
is_final_abort _ = false

-- what the newest entry passes, some passes
pub ends_has : (p : Entry → Bool) (h : List Entry) → ends_with p h ≡ true → has p h ≡ true
ends_has p [] t = absurd cc
ends_has p (x ∷ h) t = or_left (p x) (has p h) t

-- The local side said yes where the coordinator got that.
yes_of : (m : Message) (h : List Entry) → Keeps h → YES m ≡ true → has_line Voter Up m ≡ true → message_row h Voter m ≡ true → has is_yes h ≡ true
yes_of VoterYes h k t l r = ends_has is_yes h r
yes_of _ h k t l r = absurd cc

pub yes_got_on : (x : Entry) → is_yes_got x ≡ true → is_got_on Voter Up YES x ≡ true
yes_got_on (Got Voter Up VoterYes) t = refl
yes_got_on _ t = absurd cc

pub yes_if_got : (h : List Entry) → Keeps h → has is_yes_got h ≡ true → has is_yes h ≡ true
yes_if_got h k s =
    from_got Voter Up YES (λ g. has is_yes g) (λ x g t. or_right (is_yes x) (has is_yes g) t) yes_of h k (has_more is_yes_got (is_got_on Voter Up YES) yes_got_on h s)

-- It was promoted where the coordinator got COMMIT.
pub commit_of : (m : Message) (h : List Entry) → Keeps h → COMMIT m ≡ true → has_line Begin Up m ≡ true → message_row h Begin m ≡ true → has is_promoted h ≡ true
commit_of BeginCommit h k t l r = second_of_four (has is_sealed h) (has is_promoted h) (not (has is_decision h)) _ (and_left (may_commit h) _ r)
commit_of BeginCommitOne h k t l r = second_of_four (has is_sealed h) (has is_promoted h) (not (has is_decision h)) _ (and_left (may_commit h) _ r)
commit_of _ h k t l r = absurd cc

pub commit_got_on : (x : Entry) → is_commit_got x ≡ true → is_got_on Begin Up COMMIT x ≡ true
commit_got_on (Got Begin Up BeginCommit) t = refl
commit_got_on (Got Begin Up BeginCommitOne) t = refl
commit_got_on _ t = absurd cc

pub promoted_if_commit : (h : List Entry) → Keeps h → has is_commit_got h ≡ true → has is_promoted h ≡ true
promoted_if_commit h k s =
    from_got Begin Up COMMIT (λ g. has is_promoted g) (λ x g t. or_right (is_promoted x) (has is_promoted g) t) commit_of h k
    (has_more is_commit_got (is_got_on Begin Up COMMIT) commit_got_on h s)

-- An enlistment voted well where the coordinator got its PREPARED or READONLY.
vote_is : (v w : Vote) → same_vote v w ≡ true → v ≡ w
vote_is Yes Yes t = refl
vote_is No No t = refl
vote_is Done Done t = refl
vote_is _ _ t = absurd cc

cast_good : (e : EnlNo) (v : Vote) → is_good v ≡ true → (x : Entry) → is_cast (Enl e) v x ≡ true → is_good_vote e.value x ≡ true
cast_good e v g (Voted f w) t =
    let good : is_good w ≡ true = subst (λ u. is_good u ≡ true) (vote_is v w (and_right (e.value == f.value) (same_vote v w) t)) g in
    and_both (e.value == f.value) (is_good w) (and_left (e.value == f.value) (same_vote v w) t) good
cast_good e v g _ t = absurd cc

ready_of : (e : EnlNo) (m : Message) (h : List Entry) → Keeps h → VOTED m ≡ true → has_line (Enl e) Up m ≡ true → message_row h (Enl e) m ≡ true → has (is_good_vote e.value) h ≡ true
ready_of e EnlistPrepared h k t l r = has_more (is_cast (Enl e) Yes) (is_good_vote e.value) (cast_good e Yes refl) h r
ready_of e EnlistReadonly h k t l r = has_more (is_cast (Enl e) Done) (is_good_vote e.value) (cast_good e Done refl) h r
ready_of e _ h k t l r = absurd cc

ready_got_on : (e : EnlNo) (x : Entry) → is_ready_got e.value x ≡ true → is_got_on (Enl e) Up VOTED x ≡ true
ready_got_on e (Got (Enl f) Up EnlistPrepared) t = rw t refl
ready_got_on e (Got (Enl f) Up EnlistReadonly) t = rw t refl
ready_got_on e _ t = absurd cc

pub good_if_ready : (e : EnlNo) (h : List Entry) → Keeps h → has (is_ready_got e.value) h ≡ true → has (is_good_vote e.value) h ≡ true
good_if_ready e h k s =
    from_got (Enl e) Up VOTED (λ g. has (is_good_vote e.value) g) (λ x g t. or_right (is_good_vote e.value x) (has (is_good_vote e.value) g) t) (ready_of e) h k
    (has_more (is_ready_got e.value) (is_got_on (Enl e) Up VOTED) (ready_got_on e) h s)

-- A record stands where the coordinator's commit is got.
pub record_of_mark : (h : List Entry) → has_mark h ≡ true → has is_record h ≡ true
record_of_mark [] t = absurd cc
record_of_mark (Logged ∷ h) t = refl
record_of_mark (Restarted true ∷ h) t = refl
record_of_mark (Restarted false ∷ h) t = absurd cc
record_of_mark (Freed ∷ h) t = absurd cc
record_of_mark (x ∷ h) t = or_right (is_record x) (has is_record h) (record_of_mark h t)

pub logged_record : (x : Entry) → is_logged x ≡ true → is_record x ≡ true
logged_record Logged t = refl
logged_record _ t = absurd cc

verdict : (h : List Entry) → (has is_logged h || has is_one_committed h) ≡ true → (has is_record h || has is_one_committed h) ≡ true
verdict h t =
    or_case (has is_logged h) (has is_one_committed h) (λ a. or_left (has is_record h) (has is_one_committed h) (has_more is_logged is_record logged_record h a))
    (λ a. or_right (has is_record h) (has is_one_committed h) a) t

verdict_more : (x : Entry) (h : List Entry) → (has is_record h || has is_one_committed h) ≡ true → (has is_record (x ∷ h) || has is_one_committed (x ∷ h)) ≡ true
verdict_more x h t =
    or_case (has is_record h) (has is_one_committed h) (λ a. or_left (has is_record (x ∷ h)) (has is_one_committed (x ∷ h)) (or_right (is_record x) (has is_record h) a))
    (λ a. or_right (has is_record (x ∷ h)) (has is_one_committed (x ∷ h)) (or_right (is_one_committed x) (has is_one_committed h) a)) t

record_of : (c : Conn) (m : Message) (h : List Entry) → Keeps h → is_commit_message m ≡ true → has_line c Down m ≡ true → message_row h c m ≡ true → has is_record h ≡ true
record_of c EnlistCommit h k t l r = has_more is_logged is_record logged_record h r
record_of c ReenlistCommitted h k t l r = record_of_mark h r
record_of c _ h k t l r = absurd cc

pub record_by_got : (c : Conn) (m : Message) (h : List Entry) → Keeps (Got c Down m ∷ h) → is_commit_message m ≡ true → has is_record h ≡ true
record_by_got c m h k t = by_got c Down is_commit_message (λ g. has is_record g) (λ x g s. or_right (is_record x) (has is_record g) s) (record_of c) m h k t

-- on b and v it comes also where the one that was let decide committed
verdict_of : (c : Conn) (m : Message) (h : List Entry) → Keeps h → is_commit_verdict m ≡ true → has_line c Down m ≡ true → message_row h c m ≡ true → (has is_record h || has is_one_committed h) ≡ true
verdict_of c BeginCommitted h k t l r = verdict h r
verdict_of c VoterCommit h k t l r = verdict h r
verdict_of c _ h k t l r = absurd cc

pub verdict_by_got : (c : Conn) (m : Message) (h : List Entry) → Keeps (Got c Down m ∷ h) → is_commit_verdict m ≡ true → (has is_record h || has is_one_committed h) ≡ true
verdict_by_got c m h k t = by_got c Down is_commit_verdict (λ g. has is_record g || has is_one_committed g) verdict_more (verdict_of c) m h k t

-- The coordinator aborted where its abort or refusal is got.
pub aborted_more : (x : Entry) (h : List Entry) → coordinator_aborted h ≡ true → coordinator_aborted (x ∷ h) ≡ true
unfolding coordinator_aborted
aborted_more x h t = or_right (is_first_abort h x) (ever is_first_abort h) t

pub abort_of : (c : Conn) (m : Message) (h : List Entry) → Keeps h → is_abort_message m ≡ true → has_line c Down m ≡ true → message_row h c m ≡ true → coordinator_aborted h ≡ true
abort_of c BeginAborted h k t l r = and_left (coordinator_aborted h) _ r
abort_of c (VoterRefused cause) h k t l r = and_left (coordinator_aborted h) _ r
abort_of c VoterAbort h k t l r = and_left (coordinator_aborted h) _ r
abort_of c (EnlistRefused cause) h k t l r = and_left (coordinator_aborted h) _ r
abort_of c EnlistAbort h k t l r = and_left (coordinator_aborted h) _ r
abort_of c ReenlistAborted h k t l r = r
abort_of c _ h k t l r = absurd cc

pub aborted_by_got : (c : Conn) (m : Message) (h : List Entry) → Keeps (Got c Down m ∷ h) → is_abort_message m ≡ true → coordinator_aborted h ≡ true
aborted_by_got c m h k t = by_got c Down is_abort_message coordinator_aborted aborted_more (abort_of c) m h k t

-- Nobody is let decide once the coordinator aborted, so what it aborted for good stays so.
pub single_row : (x : Entry) (h : List Entry) → rule h x ≡ true → is_any_single_sent x ≡ true → (e : EnlNo) × (x ≡ Sent (Enl e) Down EnlistSingle) × (may_let_decide h (Enl e) ≡ true)
single_row (Sent (Enl e) Down EnlistSingle) h r t =
    (e, refl, fourth_of_four (has_line (Enl e) Down EnlistSingle) (has is_promoting h) (is_there h (Enl e) Down EnlistSingle) (message_row h (Enl e) EnlistSingle) r)
single_row _ h r t = absurd cc

pub single_live : (h : List Entry) (e : EnlNo) → may_let_decide h (Enl e) ≡ true → coordinator_aborted h ≡ false
single_live h e m =
    not_true (coordinator_aborted h)
    (third_of_four (has is_one_phase_got h) (has is_yes_got h) (not (coordinator_aborted h)) (is_sole (coordinate h).stage && has_desk (coordinate h) e.value) m)

pub for_good_more : (x : Entry) (h : List Entry) → rule h x ≡ true → is_aborted_for_good h ≡ true → is_aborted_for_good (x ∷ h) ≡ true
for_good_more x h r t =
    let a = and_left (coordinator_aborted h) (not (has is_any_single_sent h) || has is_one_aborted h) t in
    and_both (coordinator_aborted (x ∷ h)) (not (has is_any_single_sent (x ∷ h)) || has is_one_aborted (x ∷ h)) (aborted_more x h a)
    (or_case (not (has is_any_single_sent h)) (has is_one_aborted h)
    (λ n. or_left (not (has is_any_single_sent (x ∷ h))) (has is_one_aborted (x ∷ h)) (not_false (has is_any_single_sent (x ∷ h)) (or_false (is_any_single_sent x) (has is_any_single_sent h)
    (false_from_ne_true (is_any_single_sent x) (λ s. let w = single_row x h r s in not_both (coordinator_aborted h) a (single_live h w.0 w.2))) (not_true (has is_any_single_sent h) n))))
    (λ o. or_right (not (has is_any_single_sent (x ∷ h))) (has is_one_aborted (x ∷ h)) (or_right (is_one_aborted x) (has is_one_aborted h) o))
    (and_right (coordinator_aborted h) (not (has is_any_single_sent h) || has is_one_aborted h) t))

good_of : (c : Conn) (m : Message) (h : List Entry) → Keeps h → is_final_abort m ≡ true → has_line c Down m ≡ true → message_row h c m ≡ true → is_aborted_for_good h ≡ true
good_of c BeginAborted h k t l r = r
good_of c (VoterRefused cause) h k t l r = r
good_of c VoterAbort h k t l r = r
good_of c (EnlistRefused cause) h k t l r = r
good_of c EnlistAbort h k t l r = r
good_of c _ h k t l r = absurd cc

pub for_good_by_got : (c : Conn) (m : Message) (h : List Entry) → Keeps (Got c Down m ∷ h) → is_final_abort m ≡ true → is_aborted_for_good h ≡ true
for_good_by_got c m h k t = by_got_keeping c Down is_final_abort is_aborted_for_good (λ x g w q. for_good_more x g (newest x g w) q) (good_of c) m h k t

-- so it did where its refusal is got, and where the telling of its abort comes
pub refusal_for_good : (x : Entry) (h : List Entry) → Keeps (x ∷ h) → is_refusal x ≡ true → is_aborted_for_good h ≡ true
refusal_for_good (Got Begin Down BeginAborted) h k t = for_good_by_got Begin BeginAborted h k refl
refusal_for_good (Got Voter Down (VoterRefused cause)) h k t = for_good_by_got Voter (VoterRefused cause) h k refl
refusal_for_good (Got Voter Down VoterAbort) h k t = for_good_by_got Voter VoterAbort h k refl
refusal_for_good (Got (Enl e) Down (EnlistRefused cause)) h k t = for_good_by_got (Enl e) (EnlistRefused cause) h k refl
refusal_for_good (Got (Enl e) Down EnlistAbort) h k t = for_good_by_got (Enl e) EnlistAbort h k refl
refusal_for_good _ h k t = absurd cc

pub told_for_good : (x : Entry) (h : List Entry) → Keeps h → ends_told h x ≡ true → is_aborted_for_good h ≡ true
told_for_good x (Got (Enl e) Down EnlistAbort ∷ h) k t = for_good_more (Got (Enl e) Down EnlistAbort) h (newest (Got (Enl e) Down EnlistAbort) h k) (for_good_by_got (Enl e) EnlistAbort h k refl)
told_for_good x _ k t = absurd cc

-- An enlistment's ENLIST names that enlistment.
abbrev pub is_own : EnlNo → Message → Bool
is_own e (EnlistEnlist i) = e.value == i.enl.value
is_own e _ = true

pub own_info : (e : EnlNo) (i : Info) (h : List Entry) → Keeps (Got (Enl e) Up (EnlistEnlist i) ∷ h) → (e.value == i.enl.value) ≡ true
own_info e i h k = step (e.value == i.enl.value) refl
  where
    none : (m : Message) (g : List Entry) → Keeps g → not (is_own e m) ≡ true → has_line (Enl e) Up m ≡ true → message_row g (Enl e) m ≡ true → false ≡ true
    none (EnlistEnlist j) g w t l r = absurd (not_both (e.value == j.enl.value) (first_of_four (e.value == j.enl.value) _ _ _ r) (not_true (e.value == j.enl.value) t))
    none _ g w t l r = absurd cc

    step : (b : Bool) → (e.value == i.enl.value) ≡ b → (e.value == i.enl.value) ≡ true
    step true q = q
    step false q =
        let never : false ≡ true = by_got (Enl e) Up (λ m. not (is_own e m)) (λ g. false) (λ x g t. t) none (EnlistEnlist i) h k (rw q refl) in absurd cc
