-- What a store answers to a note, and what it keeps then: by what it kept before, and by whether a call of its disk failed under the note.
use Rattle.std.specs.Prelude.{ℕ, min, Bool, true, false, ◌&&◌, ◌||◌, not, List, [], ◌∷◌, set, Option, Some, None, if◌then◌else◌}
use Rattle.dtx_values.specs.declared.note.Note.{Note}
use Rattle.dtx_values.specs.declared.note.Note.TheVariants.{Prepare, Promote, Hand, Single, Commit, Rollback}
use Rattle.dtx_values.specs.declared.note.Reply.{Reply}
use Rattle.dtx_values.specs.declared.note.Reply.TheVariants.{Vote as VoteReply, Promote as PromoteReply, Owner, Ack}
use Rattle.dtx_values.specs.declared.words.Outcome.TheVariants.{Committed, Aborted, InDoubt as DoubtOutcome}
use Rattle.dtx_values.specs.declared.words.Vote.TheVariants.{Yes, No, Done}
use Rattle.kv_resource.specs.Bytes.{KvRecord, with_mark}
use Rattle.kv_resource.specs.Store.{KvDraft, KvMemory, Pair, draft_of, has_draft, has_marked, has_slot, has_unmarked, is_unmarked_of, next_slot, without_draft, wrote}

-- whether a call of the disk failed under the note, and under which part of it: none; while the record or its gate was written, or a gate was closed; while the mark was written
pub data Fate : Type 0 where
  Smooth : Fate
  AtRecord : Fate
  AtMark : Fate

-- what the note has to write: nothing; a record; a record and its mark; the mark of the record that is there; or the closing of that one's gate
pub data Work : Type 0 where
  Nothing : Work
  Writes : (slot : ℕ) → Work
  WritesAndMarks : (slot : ℕ) → Work
  Marks : Work
  Closes : Work

-- a stopped store calls no device; what is marked stays; a pair with an open slot writes no second one
abbrev pub unless : Bool → Work → Work
unless true w = Nothing
unless false w = w

abbrev pub into_slot : Option ℕ → (ℕ → Work) → Work
into_slot (Some k) w = w k
into_slot None w = Nothing

unfoldable pub work_of : KvMemory → Pair → Note → Work
work_of m p Prepare = unless (m.stopped || has_slot m p || not (has_draft m p)) (into_slot (next_slot m.slots) Writes)
work_of m p Hand =
    unless (m.stopped || has_marked m p || not (wrote m p)) (if has_slot m p then Marks else into_slot (next_slot m.slots) WritesAndMarks)
work_of m p Commit = unless (m.stopped || not (has_unmarked m p)) Marks
work_of m p Rollback = unless (m.stopped || not (has_unmarked m p)) Closes
work_of m p _ = Nothing

-- The answers.
abbrev pub is_smooth : Fate → Bool
is_smooth Smooth = true
is_smooth _ = false

-- what is to be written is written: there was nothing to write, or a slot for it, and no call failed
abbrev pub is_work : Work → Bool
is_work Nothing = false
is_work _ = true

abbrev pub prepare_answer : KvMemory → Pair → Fate → Option Reply
prepare_answer m p f =
    if not (wrote m p) then Some (VoteReply Done) else if has_marked m p || (has_slot m p && not m.stopped) then Some (VoteReply Yes) else
    if is_work (work_of m p Prepare) && is_smooth f then Some (VoteReply Yes) else Some (VoteReply No)

abbrev pub hand_answer : KvMemory → Pair → Fate → Option Reply
hand_answer m p f =
    if not (wrote m p) || has_marked m p then Some (Owner Committed) else if not (is_work (work_of m p Hand)) then Some (Owner Aborted) else
    if is_smooth f then Some (Owner Committed) else Some (Owner DoubtOutcome)

abbrev pub commit_answer : KvMemory → Pair → Fate → Option Reply
commit_answer m p f = if not (has_unmarked m p) then Some Ack else if not m.stopped && is_smooth f then Some Ack else None

unfoldable pub answer_of : KvMemory → Pair → Note → Fate → Option Reply
answer_of m p Prepare f = prepare_answer m p f
answer_of m p Hand f = hand_answer m p f
answer_of m p Commit f = commit_answer m p f
answer_of m p Promote f = Some (PromoteReply true)
answer_of m p Single f = Some (Owner Committed)
answer_of m p _ f = None

-- What is kept.
-- the record of a draft, with this mark
abbrev pub record_with : Bool → KvDraft → KvRecord
record_with m d = record { transaction = d.transaction; enlistment = d.enlistment; writes = d.writes; marked = m }

abbrev pub fresh_record : KvMemory → Pair → Bool → KvRecord
fresh_record m p marked = record { transaction = p.0; enlistment = p.1; writes = draft_of m p; marked = marked }

-- the lowest slot with an unmarked record of the pair: it becomes this
abbrev pub on_unmarked : Pair → (KvRecord → Option KvRecord) → List (Option KvRecord) → List (Option KvRecord)
on_unmarked p f [] = []
on_unmarked p f (None ∷ ss) = None ∷ on_unmarked p f ss
on_unmarked p f (Some r ∷ ss) = if is_unmarked_of p r then f r ∷ ss else Some r ∷ on_unmarked p f ss

abbrev pub marked_record : KvRecord → Option KvRecord
marked_record r = Some (with_mark true r)

abbrev pub closed_record : KvRecord → Option KvRecord
closed_record r = None

-- the slots after the work: as they were where a call failed, but that a record whose mark failed stays unmarked
abbrev pub slots_after : KvMemory → Pair → Work → Fate → List (Option KvRecord)
slots_after m p Nothing f = m.slots
slots_after m p (Writes k) f = if is_smooth f then set m.slots k (Some (fresh_record m p false)) else m.slots
slots_after m p (WritesAndMarks k) Smooth = set m.slots k (Some (fresh_record m p true))
slots_after m p (WritesAndMarks k) AtRecord = m.slots
slots_after m p (WritesAndMarks k) AtMark = set m.slots k (Some (fresh_record m p false))
slots_after m p Marks f = if is_smooth f then on_unmarked p marked_record m.slots else m.slots
slots_after m p Closes f = if is_smooth f then on_unmarked p closed_record m.slots else m.slots

-- a vote of No and an owner's Aborted drop the pair's writes, as a rollback does; a record that is written takes them; a mark's fault keeps them where no record was written
abbrev pub drops : KvMemory → Pair → Note → Fate → Bool
drops m p Rollback f = true
drops m p Prepare f = not (has_slot m p)
drops m p Hand AtRecord = not (is_work (work_of m p Hand))
drops m p Hand f = not (has_slot m p)
drops m p _ f = false

unfoldable pub memory_after : KvMemory → Pair → Note → Fate → KvMemory
memory_after m p n f =
    record {
      slots = slots_after m p (work_of m p n) f;
      drafts = (if drops m p n f then without_draft p m.drafts else m.drafts);
      stopped = m.stopped || (is_work (work_of m p n) && not (is_smooth f));
    }

-- the first slot that isn't an earlier process's: where a record was written into a slot below it, that slot
abbrev pub earlier_after : ℕ → Work → Fate → ℕ
earlier_after n (Writes k) f = if is_smooth f then min n k else n
earlier_after n (WritesAndMarks k) AtRecord = n
earlier_after n (WritesAndMarks k) f = min n k
earlier_after n _ f = n
