-- Tests of an entry don't look at the identifier in its message.
use Rattle.std.proofs.Common.{◌≡◌, ℕ, refl, ap}
use Rattle.std.specs.Prelude.{not}
use Rattle.dtx_values.specs.declared.entry.Entry.{Entry}
use Rattle.dtx_values.specs.declared.entry.Entry.TheVariants.{Sent, Got}
use Rattle.dtx_values.specs.declared.message.Conn.{Conn}
use Rattle.dtx_values.specs.declared.message.Conn.TheVariants.{Begin, Voter, Enl, Again}
use Rattle.dtx_values.specs.declared.message.Dir.{Dir}
use Rattle.dtx_values.specs.declared.message.Dir.TheVariants.{Up, Down}
use Rattle.dtx_values.specs.declared.message.Info.{Info}
use Rattle.dtx_values.specs.declared.message.Message.{Message}
use Rattle.dtx_values.specs.declared.message.Message.TheVariants.{BeginBegun, VoterVoter, EnlistEnlist, ReenlistReenlist}
use Rattle.dtx_values.specs.declared.words.Outcome.{Outcome}
use Rattle.dtx_values.specs.Lines.{has_line, is_opening, is_begin_up, is_begin_down, is_voter_up, is_voter_down, is_enlist_up, is_enlist_down, is_reenlist_up, is_reenlist_down}
use Rattle.dtx_model.specs.Entries.{is_commit, is_sealed, is_promoted, is_record, is_yes, is_hand, is_any_hand, handed_of, is_owner, is_any_owner, enlisted_of, clone_of, is_completed, is_vote, is_good_vote, is_commit_message, is_commit_got, is_yes_got, is_vote_got, is_enlist_got, is_single_sent, is_any_single_sent, is_one_got, is_decision, is_final}
use Rattle.dtx_model.specs.Outcome.{ended_there, is_begin_end, is_outcome_got, is_voter_end}
use Rattle.dtx_model.specs.Wires.{stop_of}
use Rattle.fine_texts.proofs.Filling.{filled, info_on, message_with}

-- a reading of a message that is alike for each identifier is alike for the message with another
pub reads : {B : Type 0} (p : Message → B) (u : ℕ) (c : Conn) → ((v : ℕ) → p (BeginBegun u) ≡ p (BeginBegun v)) → ((v : ℕ) → p (VoterVoter u) ≡ p (VoterVoter v))
    → ((i : Info) → p (EnlistEnlist (info_on u c)) ≡ p (EnlistEnlist i)) → ((i : Info) → p (ReenlistReenlist (info_on u c)) ≡ p (ReenlistReenlist i)) → (m : Message) → p (message_with u c m) ≡ p m
unfolding message_with
reads p u c begun voter enlist reenlist (BeginBegun v) = begun v
reads p u c begun voter enlist reenlist (VoterVoter v) = voter v
reads p u c begun voter enlist reenlist (EnlistEnlist i) = enlist i
reads p u c begun voter enlist reenlist (ReenlistReenlist i) = reenlist i
reads p u c begun voter enlist reenlist m = refl

-- a reading of an entry that is alike for the messages with another identifier is alike for the entry with that
pub looks : {B : Type 0} (p : Entry → B) (u : ℕ) → ((c : Conn) (d : Dir) (m : Message) → p (Sent c d (message_with u c m)) ≡ p (Sent c d m))
    → ((c : Conn) (d : Dir) (m : Message) → p (Got c d (message_with u c m)) ≡ p (Got c d m)) → (x : Entry) → p (filled u x) ≡ p x
unfolding filled
looks p u sent got (Sent c d m) = sent c d m
looks p u sent got (Got c d m) = got c d m
looks p u sent got x = refl

-- whether the message has a line on its connection
pub lined : (u : ℕ) (c : Conn) (d : Dir) (m : Message) → has_line c d (message_with u c m) ≡ has_line c d m
lined u Begin Up m = reads is_begin_up u Begin (λ v. refl) (λ v. refl) (λ i. refl) (λ i. refl) m
lined u Begin Down m = reads is_begin_down u Begin (λ v. refl) (λ v. refl) (λ i. refl) (λ i. refl) m
lined u Voter Up m = reads is_voter_up u Voter (λ v. refl) (λ v. refl) (λ i. refl) (λ i. refl) m
lined u Voter Down m = reads is_voter_down u Voter (λ v. refl) (λ v. refl) (λ i. refl) (λ i. refl) m
lined u (Enl e) Up m = reads is_enlist_up u (Enl e) (λ v. refl) (λ v. refl) (λ i. refl) (λ i. refl) m
lined u (Enl e) Down m = reads is_enlist_down u (Enl e) (λ v. refl) (λ v. refl) (λ i. refl) (λ i. refl) m
lined u (Again e) Up m = reads is_reenlist_up u (Again e) (λ v. refl) (λ v. refl) (λ i. refl) (λ i. refl) m
lined u (Again e) Down m = reads is_reenlist_down u (Again e) (λ v. refl) (λ v. refl) (λ i. refl) (λ i. refl) m

-- whether it opens a connection
pub opening : (u : ℕ) (c : Conn) (m : Message) → is_opening c (message_with u c m) ≡ is_opening c m
opening u Begin m = reads (is_opening Begin) u Begin (λ v. refl) (λ v. refl) (λ i. refl) (λ i. refl) m
opening u Voter m = reads (is_opening Voter) u Voter (λ v. refl) (λ v. refl) (λ i. refl) (λ i. refl) m
opening u (Enl e) m = reads (is_opening (Enl e)) u (Enl e) (λ v. refl) (λ v. refl) (λ i. refl) (λ i. refl) m
opening u (Again e) m = reads (is_opening (Again e)) u (Again e) (λ v. refl) (λ v. refl) (λ i. refl) (λ i. refl) m

-- The tests that look at no message.
pub commit : (u : ℕ) (x : Entry) → is_commit (filled u x) ≡ is_commit x
commit u x = looks is_commit u (λ c d m. refl) (λ c d m. refl) x

pub sealed : (u : ℕ) (x : Entry) → is_sealed (filled u x) ≡ is_sealed x
sealed u x = looks is_sealed u (λ c d m. refl) (λ c d m. refl) x

pub promoted : (u : ℕ) (x : Entry) → is_promoted (filled u x) ≡ is_promoted x
promoted u x = looks is_promoted u (λ c d m. refl) (λ c d m. refl) x

pub record_is : (u : ℕ) (x : Entry) → is_record (filled u x) ≡ is_record x
record_is u x = looks is_record u (λ c d m. refl) (λ c d m. refl) x

pub yes : (u : ℕ) (x : Entry) → is_yes (filled u x) ≡ is_yes x
yes u x = looks is_yes u (λ c d m. refl) (λ c d m. refl) x

pub hand : (u e : ℕ) (x : Entry) → is_hand e (filled u x) ≡ is_hand e x
hand u e x = looks (is_hand e) u (λ c d m. refl) (λ c d m. refl) x

pub any_hand : (u : ℕ) (x : Entry) → is_any_hand (filled u x) ≡ is_any_hand x
any_hand u x = looks is_any_hand u (λ c d m. refl) (λ c d m. refl) x

pub handed : (u : ℕ) (x : Entry) → handed_of (filled u x) ≡ handed_of x
handed u x = looks handed_of u (λ c d m. refl) (λ c d m. refl) x

pub owner : (u e : ℕ) (o : Outcome) (x : Entry) → is_owner e o (filled u x) ≡ is_owner e o x
owner u e o x = looks (is_owner e o) u (λ c d m. refl) (λ c d m. refl) x

pub any_owner : (u e : ℕ) (x : Entry) → is_any_owner e (filled u x) ≡ is_any_owner e x
any_owner u e x = looks (is_any_owner e) u (λ c d m. refl) (λ c d m. refl) x

pub enlisted_here : (u : ℕ) (x : Entry) → enlisted_of (filled u x) ≡ enlisted_of x
enlisted_here u x = looks enlisted_of u (λ c d m. refl) (λ c d m. refl) x

pub clone_here : (u : ℕ) (x : Entry) → clone_of (filled u x) ≡ clone_of x
clone_here u x = looks clone_of u (λ c d m. refl) (λ c d m. refl) x

pub completed : (u n : ℕ) (x : Entry) → is_completed n (filled u x) ≡ is_completed n x
completed u n x = looks (is_completed n) u (λ c d m. refl) (λ c d m. refl) x

pub vote : (u e : ℕ) (x : Entry) → is_vote e (filled u x) ≡ is_vote e x
vote u e x = looks (is_vote e) u (λ c d m. refl) (λ c d m. refl) x

pub good_vote : (u e : ℕ) (x : Entry) → is_good_vote e (filled u x) ≡ is_good_vote e x
good_vote u e x = looks (is_good_vote e) u (λ c d m. refl) (λ c d m. refl) x

pub decision : (u : ℕ) (x : Entry) → is_decision (filled u x) ≡ is_decision x
decision u x = looks is_decision u (λ c d m. refl) (λ c d m. refl) x

pub final : (u : ℕ) (o : Outcome) (x : Entry) → is_final o (filled u x) ≡ is_final o x
final u o x = looks (is_final o) u (λ c d m. refl) (λ c d m. refl) x

pub stop_here : (u : ℕ) (x : Entry) → stop_of (filled u x) ≡ stop_of x
stop_here u x = looks stop_of u (λ c d m. refl) (λ c d m. refl) x

-- The tests that look at a message.
pub commit_got : (u : ℕ) (x : Entry) → is_commit_got (filled u x) ≡ is_commit_got x
commit_got u x = looks is_commit_got u (λ c d m. refl) got x
  where
    got : (c : Conn) (d : Dir) (m : Message) → is_commit_got (Got c d (message_with u c m)) ≡ is_commit_got (Got c d m)
    got Begin Up m = reads is_commit_message u Begin (λ v. refl) (λ v. refl) (λ i. refl) (λ i. refl) m
    got c d m = refl

pub yes_got : (u : ℕ) (x : Entry) → is_yes_got (filled u x) ≡ is_yes_got x
yes_got u x = looks is_yes_got u (λ c d m. refl) got x
  where
    got : (c : Conn) (d : Dir) (m : Message) → is_yes_got (Got c d (message_with u c m)) ≡ is_yes_got (Got c d m)
    got Voter Up m = reads (λ n. is_yes_got (Got Voter Up n)) u Voter (λ v. refl) (λ v. refl) (λ i. refl) (λ i. refl) m
    got c d m = refl

pub vote_got : (u e : ℕ) (x : Entry) → is_vote_got e (filled u x) ≡ is_vote_got e x
vote_got u e x = looks (is_vote_got e) u (λ c d m. refl) got x
  where
    got : (c : Conn) (d : Dir) (m : Message) → is_vote_got e (Got c d (message_with u c m)) ≡ is_vote_got e (Got c d m)
    got (Enl f) Up m = reads (λ n. is_vote_got e (Got (Enl f) Up n)) u (Enl f) (λ v. refl) (λ v. refl) (λ i. refl) (λ i. refl) m
    got c d m = refl

pub enlist_got : (u : ℕ) (x : Entry) → is_enlist_got (filled u x) ≡ is_enlist_got x
enlist_got u x = looks is_enlist_got u (λ c d m. refl) got x
  where
    got : (c : Conn) (d : Dir) (m : Message) → is_enlist_got (Got c d (message_with u c m)) ≡ is_enlist_got (Got c d m)
    got (Enl f) Up m = reads (λ n. is_enlist_got (Got (Enl f) Up n)) u (Enl f) (λ v. refl) (λ v. refl) (λ i. refl) (λ i. refl) m
    got c d m = refl

pub one_got : (u e : ℕ) (x : Entry) → is_one_got e (filled u x) ≡ is_one_got e x
one_got u e x = looks (is_one_got e) u (λ c d m. refl) got x
  where
    got : (c : Conn) (d : Dir) (m : Message) → is_one_got e (Got c d (message_with u c m)) ≡ is_one_got e (Got c d m)
    got (Enl f) Up m = reads (λ n. is_one_got e (Got (Enl f) Up n)) u (Enl f) (λ v. refl) (λ v. refl) (λ i. refl) (λ i. refl) m
    got c d m = refl

pub single_sent : (u e : ℕ) (x : Entry) → is_single_sent e (filled u x) ≡ is_single_sent e x
single_sent u e x = looks (is_single_sent e) u sent (λ c d m. refl) x
  where
    sent : (c : Conn) (d : Dir) (m : Message) → is_single_sent e (Sent c d (message_with u c m)) ≡ is_single_sent e (Sent c d m)
    sent (Enl f) Down m = reads (λ n. is_single_sent e (Sent (Enl f) Down n)) u (Enl f) (λ v. refl) (λ v. refl) (λ i. refl) (λ i. refl) m
    sent c d m = refl

pub any_single_sent : (u : ℕ) (x : Entry) → is_any_single_sent (filled u x) ≡ is_any_single_sent x
any_single_sent u x = looks is_any_single_sent u sent (λ c d m. refl) x
  where
    sent : (c : Conn) (d : Dir) (m : Message) → is_any_single_sent (Sent c d (message_with u c m)) ≡ is_any_single_sent (Sent c d m)
    sent (Enl f) Down m = reads (λ n. is_any_single_sent (Sent (Enl f) Down n)) u (Enl f) (λ v. refl) (λ v. refl) (λ i. refl) (λ i. refl) m
    sent c d m = refl

pub begin_end : (u : ℕ) (x : Entry) → is_begin_end (filled u x) ≡ is_begin_end x
begin_end u x = looks is_begin_end u (λ c d m. refl) got x
  where
    got : (c : Conn) (d : Dir) (m : Message) → is_begin_end (Got c d (message_with u c m)) ≡ is_begin_end (Got c d m)
    got Begin Down m = ap not (lined u Begin Down m)
    got c d m = refl

pub voter_end : (u : ℕ) (x : Entry) → is_voter_end (filled u x) ≡ is_voter_end x
voter_end u x = looks is_voter_end u (λ c d m. refl) got x
  where
    got : (c : Conn) (d : Dir) (m : Message) → is_voter_end (Got c d (message_with u c m)) ≡ is_voter_end (Got c d m)
    got Voter Down m = ap not (lined u Voter Down m)
    got c d m = refl

pub outcome_got : (u : ℕ) (x : Entry) → is_outcome_got (filled u x) ≡ is_outcome_got x
outcome_got u x = looks is_outcome_got u (λ c d m. refl) got x
  where
    got : (c : Conn) (d : Dir) (m : Message) → is_outcome_got (Got c d (message_with u c m)) ≡ is_outcome_got (Got c d m)
    got Begin Down m = reads (λ n. is_outcome_got (Got Begin Down n)) u Begin (λ v. refl) (λ v. refl) (λ i. refl) (λ i. refl) m
    got Voter Down m = reads (λ n. is_outcome_got (Got Voter Down n)) u Voter (λ v. refl) (λ v. refl) (λ i. refl) (λ i. refl) m
    got c d m = refl

-- whose connection ends by the entry
pub end_there : (u : ℕ) (x : Entry) → ended_there (filled u x) ≡ ended_there x
end_there u x = looks ended_there u (λ c d m. refl) got x
  where
    got : (c : Conn) (d : Dir) (m : Message) → ended_there (Got c d (message_with u c m)) ≡ ended_there (Got c d m)
    got (Enl e) Up m = reads (λ n. ended_there (Got (Enl e) Up n)) u (Enl e) (λ v. refl) (λ v. refl) (λ i. refl) (λ i. refl) m
    got c d m = refl
