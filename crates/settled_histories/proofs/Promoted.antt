-- A promotion whose BEGIN was sent is over where nothing is left on the way and nothing is decided.
use Rattle.std.proofs.Common.{◌≡◌, Bool, true, false, ◌&&◌, List, [], ◌∷◌, Option, Some, None, refl, subst}
use Rattle.std.specs.Prelude.{not}
use Rattle.std.proofs.lemmas.Bool.{true_from_ne_false}
use Rattle.dtx_values.specs.declared.entry.Entry.{Entry}
use Rattle.dtx_values.specs.declared.entry.Entry.TheVariants.{Promoting, PromotionFailed, Sent, Got}
use Rattle.dtx_values.specs.declared.message.Conn.{Conn}
use Rattle.dtx_values.specs.declared.message.Conn.TheVariants.{Begin, Voter, Enl}
use Rattle.dtx_values.specs.declared.message.Dir.{Dir}
use Rattle.dtx_values.specs.declared.message.Dir.TheVariants.{Up, Down}
use Rattle.dtx_values.specs.declared.message.Message.{Message}
use Rattle.dtx_values.specs.declared.message.Message.TheVariants.{BeginBegin, BeginBegun, VoterVoter, VoterCreated, VoterRefused, VoterAbort, EnlistEnlist, EnlistEnlisted, EnlistRefused, EnlistAbort}
use Rattle.dtx_values.specs.declared.number.EnlNo.{EnlNo}
use Rattle.dtx_model.specs.Words.{has, always}
use Rattle.dtx_model.specs.Entries.{is_decision, is_promoted}
use Rattle.dtx_model.specs.Promotes.{is_promoting, is_under_way}
use Rattle.dtx_values.specs.Ends.{same_connection, same_direction}
use Rattle.dtx_model.proofs.Bools.{and_left, and_right, and_both, not_false, not_true, not_both, or_first, or_second, or_right}
use Rattle.settled_histories.proofs.Fine.{IsFine, is_bad, is_bad_message}
use Rattle.dtx_model.specs.Observed.{handover, is_promotion_failed}
use Rattle.dtx_model.specs.Half.{is_handed}
use Rattle.history_table.proofs.Messages.{BEGIN, ENLIST}
use Rattle.settled_histories.proofs.MessageKinds.{BEGUN, CREATED, ENLISTED, ENLIST_ANSWER, VOTER, VOTER_ANSWER}
use Rattle.settled_histories.proofs.Debts.{created_next, enlisted_next, is_going_up, when}
use Rattle.settled_histories.proofs.Arrived.{arrived}
use Rattle.dtx_model.proofs.Connections.{same_is, same_self, same_way_is}
use Rattle.settled_histories.proofs.Followed.{Demands, followed}
use Rattle.settled_histories.proofs.Unblamed.{fine_before}
use Rattle.history_table.proofs.Scans.{has_less}
use Rattle.settled_histories.proofs.Rest.{is_after_start, is_ordered, is_sound, IsQuiet}
use Rattle.settled_histories.proofs.Foregoing.{unpromoted_firm}
use Rattle.settled_histories.proofs.Joined.{IsJoined}
use Rattle.settled_histories.proofs.Wired.{IsFirm, is_plain}
use Rattle.history_table.proofs.Crossed.{is_sent_on, is_got_on, got_sent}

-- a history in which nothing is decided, and o is the handover of its promotion
pub record IsRising (o : Option EnlNo) (h : List Entry) : Type 0 where
  pub fine : IsFine h
  pub undecided : has is_decision h ≡ false
  pub unpromoted : has is_promoted h ≡ false
  pub later : always is_after_start h ≡ true
  pub start : has is_promoting h ≡ true → handover h ≡ o

-- it was so before its newest entry
rising_before : (o : Option EnlNo) (x : Entry) (h : List Entry) → IsRising o (x ∷ h) → IsRising o h
rising_before o x h r = record {
  fine = fine_before x h r.fine;
  undecided = or_second (is_decision x) (has is_decision h) r.undecided;
  unpromoted = or_second (is_promoted x) (has is_promoted h) r.unpromoted;
  later = and_right (is_after_start h x) (always is_after_start h) r.later;
  start = λ p. same x h o p (and_left (is_after_start h x) (always is_after_start h) r.later) (r.start (or_right (is_promoting x) (has is_promoting h) p));
}
  where
    same : (x : Entry) (h : List Entry) (o : Option EnlNo) → has is_promoting h ≡ true → is_after_start h x ≡ true → handover (x ∷ h) ≡ o → handover h ≡ o
    same (Promoting c) h o p b e = absurd (not_both (has is_promoting h) p (not_true (has is_promoting h) b))
    same x h o p b e = e

-- what was got was sent after `promoting`
pub sent_after_start : (c : Conn) (d : Dir) (p : Message → Bool) (h : List Entry) → always is_after_start h ≡ true → has (is_sent_on c d p) h ≡ true → has is_promoting h ≡ true
sent_after_start c d p [] b k = absurd cc
sent_after_start c d p (Sent e r m ∷ h) b k = and_left (has is_promoting h) (always is_after_start h) b
sent_after_start c d p (x ∷ h) b k = or_right (is_promoting x) (has is_promoting h) (sent_after_start c d p h (and_right (is_after_start h x) (always is_after_start h) b) k)

got_after_start : (o : Option EnlNo) (c : Conn) (d : Dir) (m : Message) (h : List Entry) → IsRising o (Got c d m ∷ h) → has is_promoting h ≡ true
got_after_start o c d m h r = sent_after_start c d (λ n. true) h r.later (got_sent c d m (λ n. true) h r.fine.wired.run.0 refl)

-- a bad message isn't sent
good_of : (c e : Conn) (d r : Dir) (m : Message) (p q : Message → Bool) → ((m : Message) → p m ≡ true → is_bad_message m ≡ false → q m ≡ true) → is_bad_message m ≡ false
    → (same_connection c e && same_direction d r && p m) ≡ true → (same_connection c e && same_direction d r && q m) ≡ true
good_of c e d r m p q f g k =
    and_both (same_connection c e && same_direction d r) (q m) (and_left (same_connection c e && same_direction d r) (p m) k) (f m (and_right (same_connection c e && same_direction d r) (p m) k) g)

pub good_answer : (c : Conn) (d : Dir) (p q : Message → Bool) → ((m : Message) → p m ≡ true → is_bad_message m ≡ false → q m ≡ true) → (x : Entry) → is_bad x ≡ false → is_sent_on c d p x ≡ true
    → is_sent_on c d q x ≡ true
good_answer c d p q f (Sent e r m) g k = good_of c e d r m p q f g k
good_answer c d p q f x g k = absurd cc

created_well : (m : Message) → VOTER_ANSWER m ≡ true → is_bad_message m ≡ false → CREATED m ≡ true
created_well VoterCreated k g = refl
created_well (VoterRefused c) k g = absurd cc
created_well VoterAbort k g = absurd cc
created_well m k g = absurd cc

pub enlisted_well : (m : Message) → ENLIST_ANSWER m ≡ true → is_bad_message m ≡ false → ENLISTED m ≡ true
enlisted_well EnlistEnlisted k g = refl
enlisted_well (EnlistRefused c) k g = absurd cc
enlisted_well EnlistAbort k g = absurd cc
enlisted_well m k g = absurd cc

-- what is demanded where nothing is decided
pub while_open : (b : Bool) (q : Entry → Bool) → b ≡ false → when (not b) q ≡ Some q
while_open true q k = absurd cc
while_open false q k = refl

-- what is demanded on a condition that holds
pub if_so : (b : Bool) (q : Entry → Bool) → b ≡ true → when b q ≡ Some q
if_so true q k = refl
if_so false q k = absurd cc

-- once it began, such a promotion is under way
under_way : (o : Option EnlNo) (h : List Entry) → IsRising o h → has is_promoting h ≡ true → is_under_way h ≡ true
under_way o h r b =
    and_both (has is_promoting h && not (has is_promoted h)) (not (has is_promotion_failed h)) (and_both (has is_promoting h) (not (has is_promoted h)) b (not_false (has is_promoted h) r.unpromoted))
    (not_false (has is_promotion_failed h) (has_less is_promotion_failed is_bad failed h r.fine.unbad))
  where
    failed : (x : Entry) → is_promotion_failed x ≡ true → is_bad x ≡ true
    failed PromotionFailed k = refl
    failed x k = absurd cc

-- and what a message on the way up demands is demanded
going_up : (o : Option EnlNo) (c : Conn) (d : Dir) (m : Message) (past : List Entry) (q : Entry → Bool) → IsRising o (Got c d m ∷ past) → when (is_going_up past) q ≡ Some q
going_up o c d m past q r =
    let before = rising_before o (Got c d m) past r in
    if_so (is_going_up past) q
    (and_both (is_under_way past) (not (has is_decision past)) (under_way o past before (got_after_start o c d m past r)) (not_false (has is_decision past) before.undecided))

-- what each message demands that is got on one connection
pub got_due : (P : List Entry → Type 0) (c : Conn) (d : Dir) (p : Message → Bool) (q : Entry → Bool)
    → ((m : Message) (past : List Entry) → P (Got c d m ∷ past) → p m ≡ true → Demands P past (Got c d m) q)
    → (y : Entry) (past : List Entry) → P (y ∷ past) → is_got_on c d p y ≡ true → Demands P past y q
got_due P c d p q due (Got e r m) past g k =
    let both = and_left (same_connection c e && same_direction d r) (p m) k in
    let Q : Conn → Type 0 = λ x. P (Got x r m ∷ past) → Demands P past (Got x r m) q in
    let R : Dir → Type 0 = λ x. P (Got c x m ∷ past) → Demands P past (Got c x m) q in
    subst Q (same_is c e (and_left (same_connection c e) (same_direction d r) both))
    (subst R (same_way_is d r (and_right (same_connection c e) (same_direction d r) both)) (λ h. due m past h (and_right (same_connection c e && same_direction d r) (p m) k))) g
got_due P c d p q due y past g k = absurd cc

-- BEGIN got: BEGUN
begun_due : (o : Option EnlNo) (m : Message) (past : List Entry) → IsRising o (Got Begin Up m ∷ past) → BEGIN m ≡ true → Demands (IsRising o) past (Got Begin Up m) (is_sent_on Begin Down BEGUN)
begun_due o BeginBegin past r k = record { test = is_sent_on Begin Down BEGUN; owed = refl; serves = λ x s t. t }
begun_due o m past r k = absurd cc

-- BEGUN got: VOTER
voter_due : (o : Option EnlNo) (m : Message) (past : List Entry) → IsRising o (Got Begin Down m ∷ past) → BEGUN m ≡ true → Demands (IsRising o) past (Got Begin Down m) (is_sent_on Voter Up VOTER)
voter_due o (BeginBegun u) past r k =
    record { test = is_sent_on Voter Up VOTER; owed = going_up o Begin Down (BeginBegun u) past (is_sent_on Voter Up VOTER) r; serves = λ x s t. t }
voter_due o m past r k = absurd cc

-- VOTER got: CREATED
created_due : (o : Option EnlNo) (m : Message) (past : List Entry) → IsRising o (Got Voter Up m ∷ past) → VOTER m ≡ true → Demands (IsRising o) past (Got Voter Up m) (is_sent_on Voter Down CREATED)
created_due o (VoterVoter u) past r k =
    record {
      test = is_sent_on Voter Down VOTER_ANSWER;
      owed = refl;
      serves = λ x s t. good_answer Voter Down VOTER_ANSWER CREATED created_well x (or_first (is_bad x) (has is_bad (Got Voter Up (VoterVoter u) ∷ past)) s.fine.unbad) t;
    }
created_due o m past r k = absurd cc

-- CREATED got: the ENLIST of the handover, or the promotion is over
next_due : (o : Option EnlNo) (m : Message) (past : List Entry) → IsRising o (Got Voter Down m ∷ past) → CREATED m ≡ true → Demands (IsRising o) past (Got Voter Down m) (created_next o)
next_due o VoterCreated past r k =
    record {
      test = created_next (handover past);
      owed = going_up o Voter Down VoterCreated past (created_next (handover past)) r;
      serves = λ x s t. subst (λ w. created_next w x ≡ true) ((rising_before o (Got Voter Down VoterCreated) past r).start (got_after_start o Voter Down VoterCreated past r)) t;
    }
next_due o m past r k = absurd cc

-- ENLIST got: ENLISTED
enlisted_due : (o : Option EnlNo) (e : EnlNo) (m : Message) (past : List Entry) → IsRising o (Got (Enl e) Up m ∷ past) → ENLIST m ≡ true
    → Demands (IsRising o) past (Got (Enl e) Up m) (is_sent_on (Enl e) Down ENLISTED)
enlisted_due o e (EnlistEnlist i) past r k =
    record {
      test = is_sent_on (Enl e) Down ENLIST_ANSWER;
      owed = refl;
      serves = λ x s t. good_answer (Enl e) Down ENLIST_ANSWER ENLISTED enlisted_well x (or_first (is_bad x) (has is_bad (Got (Enl e) Up (EnlistEnlist i) ∷ past)) s.fine.unbad) t;
    }
enlisted_due o e m past r k = absurd cc

-- ENLISTED got at the handover: the promotion is over
over_due : (e : EnlNo) (m : Message) (past : List Entry) → IsRising (Some e) (Got (Enl e) Down m ∷ past) → ENLISTED m ≡ true → Demands (IsRising (Some e)) past (Got (Enl e) Down m) is_promoted
over_due e EnlistEnlisted past r k =
    let before = rising_before (Some e) (Got (Enl e) Down EnlistEnlisted) past r in
    let began = got_after_start (Some e) (Enl e) Down EnlistEnlisted past r in
    let here : (is_under_way past && is_handed (handover past) e.value) ≡ true = and_both (is_under_way past) (is_handed (handover past) e.value) (under_way (Some e) past before began) (rw (before.start began) (same_self (Enl e))) in
    record {
      test = enlisted_next (is_under_way past && is_handed (handover past) e.value) e.value;
      owed = while_open (has is_decision past) (enlisted_next (is_under_way past && is_handed (handover past) e.value) e.value) r.undecided;
      serves = λ x s t. subst (λ b. enlisted_next b e.value x ≡ true) here t;
    }
over_due e m past r k = absurd cc

-- what was got was answered by what is got, on a connection that is firm
pub climb : (P : List Entry → Type 0) → ((x : Entry) (h : List Entry) → P (x ∷ h) → P h) → ((h : List Entry) → P h → IsFine h) → (c e : Conn) (d r : Dir) (p q : Message → Bool)
    → ((m : Message) (past : List Entry) → P (Got c d m ∷ past) → p m ≡ true → Demands P past (Got c d m) (is_sent_on e r q))
    → (h : List Entry) → P h → IsFirm e h → IsQuiet h → has (is_got_on c d p) h ≡ true → has (is_got_on e r q) h ≡ true
climb P closed fine c e d r p q due h g s w k =
    arrived e r q h (fine h g).wired s (w.empty e r) (followed P closed (is_got_on c d p) (is_sent_on e r q) (got_due P c d p (is_sent_on e r q) due) h g w.paid w.free k)

-- where BEGIN was sent and nothing is decided, a promotion is over
pub promoted : (h : List Entry) → IsFine h → IsJoined h → has is_decision h ≡ false → always is_after_start h ≡ true → always is_sound h ≡ true → always is_ordered h ≡ true → IsQuiet h
    → has (is_sent_on Begin Up BEGIN) h ≡ true → has is_promoted h ≡ true
promoted h f j u l s o w k = true_from_ne_false (has is_promoted h) (λ n. last (handover h) (record { fine = f; undecided = u; unpromoted = n; later = l; start = λ p. refl }))
  where
    firm : (o : Option EnlNo) → IsRising o h → (c : Conn) → is_plain c ≡ true → IsFirm c h
    firm x r c p = unpromoted_firm h f.wired.run j s o r.unpromoted c p

    rung : (o : Option EnlNo) → IsRising o h → (c e : Conn) (d r : Dir) (p q : Message → Bool)
        → ((m : Message) (past : List Entry) → IsRising o (Got c d m ∷ past) → p m ≡ true → Demands (IsRising o) past (Got c d m) (is_sent_on e r q)) → IsFirm e h → has (is_got_on c d p) h ≡ true
        → has (is_got_on e r q) h ≡ true
    rung o r c e d t p q due g k = climb (IsRising o) (rising_before o) (λ h r. r.fine) c e d t p q due h r g w k

    begin : (o : Option EnlNo) → IsRising o h → has (is_got_on Begin Up BEGIN) h ≡ true
    begin o r = arrived Begin Up BEGIN h f.wired (firm o r Begin refl) (w.empty Begin Up) k

    created : (o : Option EnlNo) → IsRising o h → has (is_got_on Voter Down CREATED) h ≡ true
    created o r =
        rung o r Voter Voter Up Down VOTER CREATED (created_due o) (firm o r Voter refl)
        (rung o r Begin Voter Down Up BEGUN VOTER (voter_due o) (firm o r Voter refl) (rung o r Begin Begin Up Down BEGIN BEGUN (begun_due o) (firm o r Begin refl) (begin o r)))

    next : (o : Option EnlNo) → IsRising o h → has (created_next o) h ≡ true
    next o r = followed (IsRising o) (rising_before o) (is_got_on Voter Down CREATED) (created_next o) (got_due (IsRising o) Voter Down CREATED (created_next o) (next_due o)) h r w.paid w.free (created o r)

    last : (o : Option EnlNo) → IsRising o h → ⊥
    last None r = not_both (has is_promoted h) (next None r) r.unpromoted
    last (Some e) r =
        let own = firm (Some e) r (Enl e) refl in
        let enlist : has (is_got_on (Enl e) Up ENLIST) h ≡ true = arrived (Enl e) Up ENLIST h f.wired own (w.empty (Enl e) Up) (next (Some e) r) in
        let enlisted = rung (Some e) r (Enl e) (Enl e) Up Down ENLIST ENLISTED (enlisted_due (Some e) e) own enlist in
        not_both (has is_promoted h)
        (followed (IsRising (Some e)) (rising_before (Some e)) (is_got_on (Enl e) Down ENLISTED) is_promoted (got_due (IsRising (Some e)) (Enl e) Down ENLISTED is_promoted (over_due e)) h r w.paid w.free enlisted)
        r.unpromoted
