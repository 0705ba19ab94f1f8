-- The rows of the enlistments.
use Rattle.std.specs.Prelude.{◌≡◌, ℕ, Bool, true, false, ◌||◌, List, Option, Some, None, slice_index_or}
use Rattle.dtx_values.specs.declared.entry.Entry.{Entry}
use Rattle.dtx_values.specs.declared.entry.Entry.TheVariants.{Enlisted, Voted, Handed, OwnerAnswered, Sent, Got}
use Rattle.dtx_values.specs.declared.message.Conn.TheVariants.{Enl}
use Rattle.dtx_values.specs.declared.message.Dir.TheVariants.{Up, Down}
use Rattle.dtx_values.specs.declared.message.Message.{Message}
use Rattle.dtx_values.specs.declared.message.Message.TheVariants.{EnlistNo, EnlistOneAborted, EnlistOneCommitted, EnlistOneInDoubt, EnlistPrepared, EnlistReadonly, EnlistSingle}
use Rattle.dtx_values.specs.declared.number.EnlNo.{EnlNo}
use Rattle.dtx_values.specs.declared.words.Outcome.TheVariants.{Committed, InDoubt}
use Rattle.dtx_values.specs.Class.{is_volatile}
use Rattle.dtx_model.specs.Entries.{is_any_owner, is_hand, is_one_got, is_owner, is_single_sent, is_vote, is_vote_got, same_outcome}
use Rattle.dtx_model.specs.Outcome.{volatiles}
use Rattle.dtx_model.specs.Words.{has}
use Rattle.trace_checker.specs.declared.members.Ballot.{Ballot}
use Rattle.trace_checker.specs.declared.members.Dealings.{Dealings}
use Rattle.trace_checker.specs.declared.members.Member.{Member}
use Rattle.trace_checker.specs.declared.members.Members.{Members}
use Rattle.trace_checker.specs.Voters.{is_enlisted}

-- what the history shows of this enlistment
pub record IsMemberOf (h : List Entry) (e : ℕ) (m : Member) : Type 0 where
  pub volatile : m.volatile ≡ is_enlisted (volatiles h) e
  pub voted : m.voted ≡ has (is_vote e) h
  pub heard : m.heard ≡ has (is_vote_got e) h
  pub handed : m.handed ≡ has (is_hand e) h
  pub answered : m.answered ≡ has (is_any_owner e) h
  pub committed : m.committed ≡ has (is_owner e Committed) h
  pub unsure : m.unsure ≡ has (is_owner e InDoubt) h
  pub single : m.single ≡ has (is_single_sent e) h
  pub replied : m.replied ≡ has (is_one_got e) h

-- no volatile, and no vote
abbrev pub blank : Ballot
blank = record { volatile = false; voted = false }

-- no dealings
abbrev pub none : Dealings
none = record { heard = false; handed = false; answered = false; committed = false; unsure = false; single = false; replied = false }

-- all that is known of an enlistment, by its two rows
abbrev pub whole : Ballot → Dealings → Member
whole b d = record { volatile = b.volatile; voted = b.voted; heard = d.heard; handed = d.handed; answered = d.answered; committed = d.committed; unsure = d.unsure; single = d.single; replied = d.replied }

-- the rows of this enlistment; past the end of a table nothing is known
abbrev pub ballot : ℕ → Members → Ballot
ballot e ms = slice_index_or ms.ballots.items e blank

abbrev pub dealings : ℕ → Members → Dealings
dealings e ms = slice_index_or ms.dealings.items e none

abbrev pub member : ℕ → Members → Member
member e ms = whole (ballot e ms) (dealings e ms)

-- each row says what the history shows of its enlistment
abbrev pub IsMembersOf : List Entry → Members → Type 0
IsMembersOf h ms = (e : ℕ) → IsMemberOf h e (member e ms)

-- the enlistment whose ballot the entry changes
abbrev pub voter : Entry → Option EnlNo
voter (Enlisted e c) = Some e
voter (Voted e v) = Some e
voter _ = None

-- the enlistment whose dealings the entry changes
abbrev pub dealer : Entry → Option EnlNo
dealer (Handed e) = Some e
dealer (OwnerAnswered e o) = Some e
dealer (Sent (Enl e) Down EnlistSingle) = Some e
dealer (Got (Enl e) Up m) = Some e
dealer _ = None

-- PREPARED, NO or READONLY
abbrev pub is_vote_message : Message → Bool
is_vote_message EnlistPrepared = true
is_vote_message EnlistNo = true
is_vote_message EnlistReadonly = true
is_vote_message _ = false

-- an answer to SINGLE
abbrev pub is_one_message : Message → Bool
is_one_message EnlistOneCommitted = true
is_one_message EnlistOneAborted = true
is_one_message EnlistOneInDoubt = true
is_one_message _ = false

-- the ballot with an entry that changes it
abbrev pub ballot_after : Entry → Ballot → Ballot
ballot_after (Enlisted e c) b = record b { volatile = is_volatile c || b.volatile }
ballot_after (Voted e v) b = record b { voted = true }
ballot_after _ b = b

-- the dealings with what the coordinator got from their enlistment
abbrev pub dealings_hearing : Message → Dealings → Dealings
dealings_hearing x d = record d { heard = is_vote_message x || d.heard; replied = is_one_message x || d.replied }

-- the dealings with an entry that changes them
abbrev pub dealings_after : Entry → Dealings → Dealings
dealings_after (Handed e) d = record d { handed = true }
dealings_after (OwnerAnswered e o) d = record d { answered = true; committed = same_outcome Committed o || d.committed; unsure = same_outcome InDoubt o || d.unsure }
dealings_after (Sent c p x) d = record d { single = true }
dealings_after (Got c p x) d = dealings_hearing x d
dealings_after _ d = d
