-- What the messages that the coordinator sends make of what it keeps.
use Rattle.std.proofs.Common.{◌≡◌, ◌∙◌, Bool, true, false, List, [], ◌∷◌, ◌++◌, filter, refl, ap, if◌then◌else◌}
use Rattle.std.specs.List.{flat_map}
use Rattle.dtx_values.specs.declared.entry.Entry.{Entry}
use Rattle.dtx_values.specs.declared.entry.Entry.TheVariants.{Sent}
use Rattle.dtx_values.specs.declared.message.Conn.TheVariants.{Begin, Voter, Enl, Again}
use Rattle.dtx_values.specs.declared.message.Dir.TheVariants.{Down}
use Rattle.dtx_values.specs.declared.message.Message.{Message}
use Rattle.dtx_values.specs.declared.message.Message.TheVariants.{BeginAborted, BeginCommitted, EnlistAbort, EnlistCommit, EnlistPrepare, EnlistSingle, ReenlistAborted, ReenlistCommitted, VoterAbort, VoterAsk, VoterCommit}
use Rattle.dtx_values.specs.declared.number.EnlNo.{EnlNo}
use Rattle.dtx_values.specs.Ends.{same_connection}
use Rattle.dtx_model.specs.declared.desk.Desk.{Desk}
use Rattle.dtx_model.specs.Words.{has}
use Rattle.dtx_model.specs.Coordinated.{Coordinated, abort_sends, but, commit_sends, follow, follow_all, is_active, is_prepared, still_hears, to, to_each, to_waiting}
use Rattle.coordinator_core.specs.Kept.{unreached}
use Rattle.coordinator_core.proofs.Left.{left_by, left_reached}

-- two blocks after each other
pub follow_all-append : (k : Coordinated) (xs ys : List Entry) → follow_all k (xs ++ ys) ≡ follow_all (follow_all k xs) ys
unfolding follow_all
follow_all-append k [] ys = refl
follow_all-append k (x ∷ xs) ys = follow_all-append (follow k x) xs ys

-- two blocks of which the first changes nothing
pub after_quiet : (k : Coordinated) (xs ys : List Entry) → follow_all k xs ≡ k → follow_all k (xs ++ ys) ≡ follow_all k ys
after_quiet k xs ys same = follow_all-append k xs ys ∙ ap (λ (s : Coordinated). follow_all s ys) same

-- an empty block changes nothing
pub after_none : (k : Coordinated) → follow_all k [] ≡ k
unfolding follow_all
after_none k = refl

-- a message on b or on v changes nothing, nor one to an enlistment but SINGLE
quiet_begin : (k : Coordinated) (m : Message) → follow k (Sent Begin Down m) ≡ k
unfolding follow
quiet_begin k m = refl

quiet_voter : (k : Coordinated) (m : Message) → follow k (Sent Voter Down m) ≡ k
unfolding follow
quiet_voter k m = refl

-- the message isn't SINGLE
abbrev pub is_no_single : Message → Bool
is_no_single EnlistSingle = false
is_no_single _ = true

quiet_enlist : (k : Coordinated) (e : EnlNo) (m : Message) → is_no_single m ≡ true → follow k (Sent (Enl e) Down m) ≡ k
unfolding follow
quiet_enlist k e EnlistSingle other = absurd cc
quiet_enlist k e m other = refl

quiet_if : (b : Bool) (k : Coordinated) (x : Entry) → follow k x ≡ k → follow_all k (if b then x ∷ [] else []) ≡ k
unfolding follow_all
quiet_if true k x same = same
quiet_if false k x same = refl

pub after_begin : (k j : Coordinated) (m : Message) → follow_all k (to j Begin m) ≡ k
after_begin k j m = quiet_if (has (same_connection Begin) j.known) k (Sent Begin Down m) (quiet_begin k m)

pub after_voter : (k j : Coordinated) (m : Message) → follow_all k (to j Voter m) ≡ k
after_voter k j m = quiet_if (has (same_connection Voter) j.known) k (Sent Voter Down m) (quiet_voter k m)

pub after_enlist : (k j : Coordinated) (e : EnlNo) (m : Message) → is_no_single m ≡ true → follow_all k (to j (Enl e) m) ≡ k
after_enlist k j e m other = quiet_if (has (same_connection (Enl e)) j.known) k (Sent (Enl e) Down m) (quiet_enlist k e m other)

pub after_each : (k j : Coordinated) (m : Message) (ds : List Desk) → is_no_single m ≡ true → follow_all k (to_each j m ds) ≡ k
after_each k j m [] other = after_none k
after_each k j m (d ∷ ds) other = after_quiet k (to j (Enl d.enlistment) m) (to_each j m ds) (after_enlist k j d.enlistment m other) ∙ after_each k j m ds other

after_unless : (b : Bool) (k : Coordinated) (xs : List Entry) → follow_all k xs ≡ k → follow_all k (if b then [] else xs) ≡ k
after_unless true k xs same = after_none k
after_unless false k xs same = same

pub after_if : (b : Bool) (k : Coordinated) (xs : List Entry) → follow_all k xs ≡ k → follow_all k (if b then xs else []) ≡ k
after_if true k xs same = same
after_if false k xs same = after_none k

-- asking each to prepare changes nothing
pub after_ask : (k j : Coordinated) → follow_all k (if is_active j.stage then to j Voter VoterAsk ++ to_each j EnlistPrepare j.desks else []) ≡ k
after_ask k j =
    after_if (is_active j.stage) k (to j Voter VoterAsk ++ to_each j EnlistPrepare j.desks)
    (after_quiet k (to j Voter VoterAsk) (to_each j EnlistPrepare j.desks) (after_voter k j VoterAsk) ∙ after_each k j EnlistPrepare j.desks refl)

-- three blocks that change nothing, before one that may
after_three : (k : Coordinated) (a b c d : List Entry) → follow_all k a ≡ k → follow_all k b ≡ k → follow_all k c ≡ k → follow_all k (a ++ b ++ c ++ d) ≡ follow_all k d
after_three k a b c d p q r =
    after_quiet k (a ++ b ++ c) d (after_quiet k (a ++ b) c (after_quiet k a b p ∙ q) ∙ r)

-- of telling an abort only what those who wait hear changes something
pub after_abort : (k : Coordinated) → follow_all k (abort_sends k) ≡ follow_all k (to_waiting k ReenlistAborted)
after_abort k =
    after_three k (to k Begin BeginAborted) (if k.no then [] else to k Voter VoterAbort) (to_each k EnlistAbort (filter (λ d. still_hears d.ballot) k.desks)) (to_waiting k ReenlistAborted)
    (after_begin k k BeginAborted) (after_unless k.no k (to k Voter VoterAbort) (after_voter k k VoterAbort)) (after_each k k EnlistAbort (filter (λ d. still_hears d.ballot) k.desks) refl)

-- so it is with telling the commit
pub after_commit : (k : Coordinated) → follow_all k (commit_sends k) ≡ follow_all k (to_waiting k ReenlistCommitted)
after_commit k =
    after_three k (to k Begin BeginCommitted) (to k Voter VoterCommit) (to_each k EnlistCommit (filter (λ d. is_prepared d.ballot) k.desks)) (to_waiting k ReenlistCommitted)
    (after_begin k k BeginCommitted) (after_voter k k VoterCommit) (after_each k k EnlistCommit (filter (λ d. is_prepared d.ballot) k.desks) refl)

-- with these waiting
abbrev pub with_waits : List EnlNo → Coordinated → Coordinated
with_waits ws k = record { stage = k.stage; commit = k.commit; yes = k.yes; no = k.no; desks = k.desks; known = k.known; waits = ws; recovered = k.recovered; stopped = k.stopped }

-- one that is answered waits no longer
pub after_again : (b : Bool) (k : Coordinated) (e : EnlNo) (m : Message) → follow_all k (if b then Sent (Again e) Down m ∷ [] else []) ≡ with_waits (if b then but e.value k.waits else k.waits) k
unfolding follow follow_all
after_again true k e m = refl
after_again false k e m = refl

-- the connection of one that came back is known
abbrev reaches : Coordinated → EnlNo → Bool
reaches k e = has (same_connection (Again e)) k.known

after_these : (k j : Coordinated) (m : Message) (es : List EnlNo) → follow_all k (flat_map (λ e. to j (Again e) m) es) ≡ with_waits (left_by (reaches j) es k.waits) k
after_these k j m [] = after_none k
after_these k j m (e ∷ es) =
    let rest = flat_map (λ (f : EnlNo). to j (Again f) m) es in
    let now = with_waits (if reaches j e then but e.value k.waits else k.waits) k in
    follow_all-append k (to j (Again e) m) rest ∙ ap (λ (s : Coordinated). follow_all s rest) (after_again (reaches j e) k e m) ∙ after_these now j m es

-- those who wait are answered: only those whose connection isn't known still wait
pub after_waiting : (k : Coordinated) (m : Message) → follow_all k (to_waiting k m) ≡ with_waits (unreached k.known k.waits) k
after_waiting k m = after_these k k m k.waits ∙ ap (λ (ws : List EnlNo). with_waits ws k) (left_reached (reaches k) k.waits)
