-- What ties what is held of a transaction to its history.
use Rattle.std.specs.Prelude.{ℕ, ◌≡◌, ◌⊎◌, ◌==◌, ◌&&◌, ◌||◌, not, Bool, true, false, List, [], ◌∷◌}
use Rattle.dtx_values.specs.declared.entry.Entry.{Entry}
use Rattle.dtx_values.specs.declared.entry.Entry.TheVariants.{Voted}
use Rattle.dtx_values.specs.declared.number.EnlNo.{EnlNo}
use Rattle.dtx_values.specs.declared.note.Reply.{Reply}
use Rattle.dtx_values.specs.declared.note.Reply.TheVariants.{Vote as VoteReply, Ack}
use Rattle.dtx_values.specs.declared.words.Outcome.TheVariants.{Aborted, Committed}
use Rattle.dtx_values.specs.declared.words.Vote.TheVariants.{Yes, Done}
use Rattle.dtx_model.specs.Entries.{is_asked, is_hand, is_vote}
use Rattle.dtx_model.specs.Outcome.{is_empty}
use Rattle.dtx_model.specs.Words.{has}
use Rattle.record_laws.specs.Recorded.{is_ack, is_told_so, is_vote_yes}
use Rattle.recovery_laws.specs.Whole.{Site}
use Rattle.transactions.specs.Hearing.{Given}
use Rattle.all_or_nothing.specs.Marks.{Place, At, Nowhere, is_single, is_unmarked, marks_of}

abbrev pub is_yes : Reply → Bool
is_yes (VoteReply Yes) = true
is_yes _ = false

abbrev pub is_done : Reply → Bool
is_done (VoteReply Done) = true
is_done _ = false

abbrev pub is_any_vote : Reply → Bool
is_any_vote (VoteReply v) = true
is_any_vote _ = false

abbrev pub is_acking : Reply → Bool
is_acking Ack = true
is_acking _ = false

-- one of these replies is so, and of this enlistment
abbrev pub gives : (Reply → Bool) → ℕ → List Given → Bool
gives p e gs = has (λ g. (g.0.value == e) && p g.1) gs

abbrev pub is_vote_done : ℕ → Entry → Bool
is_vote_done e (Voted f Done) = e == f.value
is_vote_done e _ = false

-- By the history, or by what is to be given, this enlistment voted yes, or done, or voted at all, or acknowledged.
abbrev pub said_yes : List Given → List Entry → ℕ → Bool
said_yes gs h e = has (is_vote_yes e) h || gives is_yes e gs

abbrev pub said_done : List Given → List Entry → ℕ → Bool
said_done gs h e = has (is_vote_done e) h || gives is_done e gs

abbrev pub said_vote : List Given → List Entry → ℕ → Bool
said_vote gs h e = has (is_vote e) h || gives is_any_vote e gs

abbrev pub said_ack : List Given → List Entry → ℕ → Bool
said_ack gs h e = has (is_ack e) h || gives is_acking e gs

-- it was asked to prepare, or handed the commit
abbrev pub is_begun : List Entry → ℕ → Bool
is_begun heard e = has (is_asked e) heard || has (is_hand e) heard

abbrev pub is_aborted_by : List Entry → ℕ → Bool
is_aborted_by heard e = has (is_told_so Aborted e) heard

-- What a crash may leave of transaction n, tied to what its enlistments heard. One at most is held of each, and at the resource of its manager, once it was asked to prepare or handed the commit. It
-- is marked only once it was handed or told of the commit. Nothing is held of one that voted done; and one that voted yes and acknowledged isn't without a mark, unless it was told to roll back.
pub record IsLeftSo (n : ℕ) (place : EnlNo → Place) (gs : List Given) (h heard : List Entry) (ss : List Site) : Type 0 where
  pub single : (m e : ℕ) → is_single (marks_of m n e ss) ≡ true
  pub routed : (m e : ℕ) → is_empty (marks_of m n e ss) ≡ false → (f : EnlNo) × (f.value ≡ e) × (place f ≡ At m) × (is_begun heard e ≡ true)
  pub marked : (m e : ℕ) → marks_of m n e ss ≡ true ∷ [] → (has (is_hand e) heard || has (is_told_so Committed e) heard) ≡ true
  pub done : (m e : ℕ) → said_done gs h e ≡ true → is_empty (marks_of m n e ss) ≡ true
  pub acked : (m e : ℕ) → said_ack gs h e ≡ true → said_yes gs h e ≡ true → (not (is_unmarked (marks_of m n e ss)) || is_aborted_by heard e) ≡ true

-- What is held of transaction n is tied to its history h, of which the enlistments heard these entries. One votes only when asked, and acknowledges only a commit that it was told of. One that voted
-- yes is heard somewhere, and is kept, where that is at a resource, unless it was told to roll back. And so is whatever a crash may leave.
pub record IsTied (n : ℕ) (place : EnlNo → Place) (keeps : EnlNo → Type 0) (leaves : List Site → Type 0) (gs : List Given) (h heard : List Entry) : Type 0 where
  pub votes : (e : ℕ) → said_vote gs h e ≡ true → has (is_asked e) heard ≡ true
  pub acks : (e : ℕ) → said_ack gs h e ≡ true → has (is_told_so Committed e) heard ≡ true
  pub placed : (e : EnlNo) → said_yes gs h e.value ≡ true → place e ≡ Nowhere → ⊥
  pub kept : (e : EnlNo) (m : ℕ) → place e ≡ At m → said_yes gs h e.value ≡ true → keeps e ⊎ (is_aborted_by heard e.value ≡ true)
  pub left : (ss : List Site) → leaves ss → IsLeftSo n place gs h heard ss
