-- What a store keeps of a pair: a draft, a record that isn't marked, one that is, or nothing; and what each note makes of it, where no call of its disk fails.
use Rattle.std.proofs.Common.{ℕ, suc, ◌≡◌, ◌+◌, ◌≤◌, ◌||◌, ◌&&◌, Bool, true, false, cond, not, find, List, [], ◌∷◌, length, set, Option, Some, None, is_some, refl, sym, ap, ◌∙◌, arith}
use Rattle.std.specs.Prelude.{if◌then◌else◌}
use Rattle.std.proofs.lemmas.Bool.{false_from_ne_true}
use Rattle.dtx_values.specs.Table.{how_many}
use Rattle.dtx_values.specs.declared.note.Note.{Note}
use Rattle.dtx_values.specs.declared.note.Note.TheVariants.{Init, Prepare, Promote, Hand, Single, Commit, Rollback, InDoubt}
use Rattle.dtx_values.specs.declared.note.Reply.{Reply}
use Rattle.dtx_values.specs.declared.note.Reply.TheVariants.{Vote as VoteReply, Promote as PromoteReply, Owner, Ack}
use Rattle.dtx_values.specs.declared.words.Outcome.TheVariants.{Committed, Aborted, InDoubt as InDoubtOutcome}
use Rattle.dtx_values.specs.declared.words.Vote.TheVariants.{Yes, No, Done}
use Rattle.dtx_model.specs.Words.{has}
use Rattle.dtx_model.proofs.Bools.{and_left, and_never}
use Rattle.history_table.proofs.Lists.{OfEach}
use Rattle.kv_resource.specs.Bytes.{KvRecord}
use Rattle.kv_resource.specs.Notes.{Closes, Marks, Nothing, Smooth, Work, Writes, WritesAndMarks, answer_of, closed_record, drops, fresh_record, into_slot, is_smooth, is_work, marked_record, memory_after, on_unmarked, slots_after, unless, work_of}
use Rattle.kv_resource.specs.Store.{KvDraft, KvMemory, Pair, has_draft, has_marked, has_slot, has_unmarked, is_draft_of, is_marked_record, is_record_of, is_unmarked_of, next_slot, open_records, pair_of_draft, pair_of_record, without_draft}
use Rattle.kv_resource.proofs.Giving.{after_by, commit_answers, commit_work, hand_answers, hand_work, no_answer, prepare_answers, prepare_work, rollback_work}
use Rattle.store_run.proofs.Pairs.{Slots, counted, is_done_of, uncounted}

pub data Status : Type 0 where
  Drafted : Status
  Prepared : Status
  Marked : Status
  Gone : Status

abbrev pub status_by : Bool → Bool → Bool → Status
status_by true u k = Drafted
status_by false true k = Prepared
status_by false false true = Marked
status_by false false false = Gone

abbrev pub has_done : KvMemory → Pair → Bool
has_done m p = has (is_done_of p) (open_records m.slots)

abbrev pub status : KvMemory → Pair → Status
status m p = status_by (has_draft m p) (has_unmarked m p) (has_done m p)

-- A store whose pairs wrote this: each is in one place at most.
pub record IsOf (W : Pair → List (ℕ × ℕ)) (m : KvMemory) : Type 0 where
  pub up : m.stopped ≡ false
  pub many : length m.slots ≡ 1024
  pub one : (p : Pair) → how_many (is_draft_of p) m.drafts + how_many (is_record_of p) (open_records m.slots) ≤ 1
  pub drafts : OfEach (λ d. d.writes ≡ W (pair_of_draft d)) m.drafts
  pub records : OfEach (λ r. r.writes ≡ W (pair_of_record r)) (open_records m.slots)

-- what becomes of a pair
pub data Act : Type 0 where
  Stay : Act
  Drop : Act
  Put : (slot : ℕ) → (mark : Bool) → Act
  Mark : Act
  Close : Act

abbrev pub kept_as : Slots → List KvDraft → KvMemory
kept_as ss ds = record { slots = ss; drafts = ds; stopped = false }

abbrev pub acted : KvMemory → Pair → Act → KvMemory
acted m p Stay = kept_as m.slots m.drafts
acted m p Drop = kept_as m.slots (without_draft p m.drafts)
acted m p (Put k b) = kept_as (set m.slots k (Some (fresh_record m p b))) (without_draft p m.drafts)
acted m p Mark = kept_as (on_unmarked p marked_record m.slots) m.drafts
acted m p Close = kept_as (on_unmarked p closed_record m.slots) (without_draft p m.drafts)

abbrev pub put_in : Bool → Option ℕ → Act
put_in b (Some k) = Put k b
put_in b None = Drop

abbrev pub act_of : Status → Option ℕ → Note → Act
act_of Drafted next Prepare = put_in false next
act_of Drafted next Hand = put_in true next
act_of Drafted next Rollback = Drop
act_of Prepared next Hand = Mark
act_of Prepared next Commit = Mark
act_of Prepared next Rollback = Close
act_of Marked next Rollback = Drop
act_of Gone next Prepare = Drop
act_of Gone next Hand = Drop
act_of Gone next Rollback = Drop
act_of s next n = Stay

abbrev pub after_act : Status → Act → Status
after_act s (Put k b) = if b then Marked else Prepared
after_act s Mark = Marked
after_act s Close = Gone
after_act Drafted Drop = Gone
after_act s a = s

-- what is answered
abbrev pub vote_in : Option ℕ → Reply
vote_in (Some k) = VoteReply Yes
vote_in None = VoteReply No

abbrev pub outcome_in : Option ℕ → Reply
outcome_in (Some k) = Owner Committed
outcome_in None = Owner Aborted

abbrev pub answered : Status → Option ℕ → Note → Option Reply
answered Drafted next Prepare = Some (vote_in next)
answered Gone next Prepare = Some (VoteReply Done)
answered s next Prepare = Some (VoteReply Yes)
answered Drafted next Hand = Some (outcome_in next)
answered s next Hand = Some (Owner Committed)
answered s next Commit = Some Ack
answered s next Promote = Some (PromoteReply true)
answered s next Single = Some (Owner Committed)
answered s next n = None

-- Where a pair is.
abbrev unmarked_found : Option KvRecord → Bool
unmarked_found (Some r) = not r.marked
unmarked_found None = false

none_of : (p : Pair) (rs : List KvRecord) → has (is_record_of p) rs ≡ false → (has (is_unmarked_of p) rs ≡ false) × (has (is_done_of p) rs ≡ false)
none_of p [] n = (refl, refl)
none_of p (x ∷ rs) n = by (is_record_of p x) n (none_of p rs)
  where
    by : (a : Bool) → (a || has (is_record_of p) rs) ≡ false → (has (is_record_of p) rs ≡ false → (has (is_unmarked_of p) rs ≡ false) × (has (is_done_of p) rs ≡ false))
        → (((a && not x.marked) || has (is_unmarked_of p) rs) ≡ false) × (((a && x.marked) || has (is_done_of p) rs) ≡ false)
    by true n g = absurd cc
    by false n g = g n

found : (p : Pair) (rs : List KvRecord) → how_many (is_record_of p) rs ≤ 1
    → (has (is_record_of p) rs ≡ is_some (find (is_record_of p) rs)) × (has (is_unmarked_of p) rs ≡ unmarked_found (find (is_record_of p) rs)) × (has (is_done_of p) rs ≡ is_marked_record (find (is_record_of p) rs))
found p [] le = (refl, refl, refl)
found p (x ∷ rs) le = by (is_record_of p x) le (found p rs)
  where
    or_none : (a b : Bool) → b ≡ false → (a || b) ≡ a
    or_none true b e = refl
    or_none false b e = e

    by : (a : Bool) → (if a then suc (how_many (is_record_of p) rs) else how_many (is_record_of p) rs) ≤ 1
        → (how_many (is_record_of p) rs ≤ 1 → (has (is_record_of p) rs ≡ is_some (find (is_record_of p) rs)) × (has (is_unmarked_of p) rs ≡ unmarked_found (find (is_record_of p) rs)) × (has (is_done_of p) rs ≡ is_marked_record (find (is_record_of p) rs)))
        → ((a || has (is_record_of p) rs) ≡ is_some (cond a (Some x) (find (is_record_of p) rs))) × (((a && not x.marked) || has (is_unmarked_of p) rs) ≡ unmarked_found (cond a (Some x) (find (is_record_of p) rs)))
        × (((a && x.marked) || has (is_done_of p) rs) ≡ is_marked_record (cond a (Some x) (find (is_record_of p) rs)))
    by true le g =
        let none = none_of p rs (uncounted (is_record_of p) rs (omega arith)) in
        (refl, or_none (not x.marked) (has (is_unmarked_of p) rs) none.0, or_none x.marked (has (is_done_of p) rs) none.1)
    by false le g = g le

pub record Seen (m : KvMemory) (p : Pair) : Type 0 where
  pub slot : has_slot m p ≡ (has_unmarked m p || has_done m p)
  pub marked : has_marked m p ≡ has_done m p
  pub alone : (has_draft m p && (has_unmarked m p || has_done m p)) ≡ false
  pub single : (has_unmarked m p && has_done m p) ≡ false

pub seen : (W : Pair → List (ℕ × ℕ)) (m : KvMemory) (p : Pair) → IsOf W m → Seen m p
seen W m p o =
    let few : how_many (is_record_of p) (open_records m.slots) ≤ 1 = let one = o.one p in omega arith in
    let f = found p (open_records m.slots) few in
    let slot : has_slot m p ≡ (has_unmarked m p || has_done m p) = f.0 ∙ by (find (is_record_of p) (open_records m.slots)) ∙ (λ i. sym f.1 i || sym f.2 i) in
    record {
      slot = slot;
      marked = sym f.2;
      alone = false_from_ne_true (has_draft m p && (has_unmarked m p || has_done m p)) (λ t.
          let a = counted (is_draft_of p) m.drafts (and_left (has_draft m p) (has_unmarked m p || has_done m p) t) in
          let b = counted (is_record_of p) (open_records m.slots) (slot ∙ second (has_draft m p) (has_unmarked m p || has_done m p) t) in
          let one = o.one p in omega arith);
      single = (λ i. f.1 i && f.2 i) ∙ apart (find (is_record_of p) (open_records m.slots));
    }
  where
    by : (x : Option KvRecord) → is_some x ≡ (unmarked_found x || is_marked_record x)
    by (Some r) = either r.marked
      where
        either : (b : Bool) → true ≡ (not b || b)
        either true = refl
        either false = refl
    by None = refl

    second : (a b : Bool) → (a && b) ≡ true → b ≡ true
    second true b t = t
    second false b t = absurd cc

    apart : (x : Option KvRecord) → (unmarked_found x && is_marked_record x) ≡ false
    apart (Some r) = either r.marked
      where
        either : (b : Bool) → (not b && b) ≡ false
        either true = refl
        either false = refl
    apart None = refl

-- What a note makes of a store.
module _ (m : KvMemory) (p : Pair) (up : m.stopped ≡ false) (w : Seen m p) where
  turn : (n : Note) (x : Work) (b : Bool) → work_of m p n ≡ x → drops m p n Smooth ≡ b → memory_after m p n Smooth ≡ kept_as (slots_after m p x Smooth) (cond b (without_draft p m.drafts) m.drafts)
  turn n x b e f =
      after_by m p n Smooth x b (without_draft p m.drafts) e f refl ∙ ap (λ (c : Bool). record { slots = slots_after m p x Smooth; drafts = cond b (without_draft p m.drafts) m.drafts; stopped = c }) (still (is_work x))
    where
      still : (c : Bool) → m.stopped || (c && not (is_smooth Smooth)) ≡ false
      still c = ap (λ a. a || (c && false)) up ∙ and_never c

  slot_is : (u k : Bool) → has_unmarked m p ≡ u → has_done m p ≡ k → has_slot m p ≡ (u || k)
  slot_is u k e f = w.slot ∙ (λ i. e i || f i)

  marked_is : (k : Bool) → has_done m p ≡ k → has_marked m p ≡ k
  marked_is k f = w.marked ∙ f

  prepared : (d u k : Bool) (next : Option ℕ) → has_draft m p ≡ d → has_unmarked m p ≡ u → has_done m p ≡ k → next_slot m.slots ≡ next → (d && (u || k)) ≡ false → (u && k) ≡ false
      → (memory_after m p Prepare Smooth ≡ acted m p (act_of (status_by d u k) next Prepare)) × (answer_of m p Prepare Smooth ≡ answered (status_by d u k) next Prepare)
  prepared d u k next e f g h a b = by d u k next a b (prepare_work m p false (u || k) d next up (slot_is u k f g) e h) (ap not (slot_is u k f g))
      (λ x q. prepare_answers m p Smooth (u || k) d k false (is_work x) (slot_is u k f g) e (marked_is k g) up (ap is_work q))
    where
      by : (d u k : Bool) (next : Option ℕ) → (d && (u || k)) ≡ false → (u && k) ≡ false → work_of m p Prepare ≡ unless (false || (u || k) || not d) (into_slot next Writes) → drops m p Prepare Smooth ≡ not (u || k)
          → ((x : Work) → work_of m p Prepare ≡ x → answer_of m p Prepare Smooth
          ≡ cond (not ((u || k) || d)) (Some (VoteReply Done)) (cond (k || ((u || k) && not false)) (Some (VoteReply Yes)) (cond (is_work x && true) (Some (VoteReply Yes)) (Some (VoteReply No)))))
          → (memory_after m p Prepare Smooth ≡ acted m p (act_of (status_by d u k) next Prepare)) × (answer_of m p Prepare Smooth ≡ answered (status_by d u k) next Prepare)
      by true true k next a b q r s = absurd cc
      by true false true next a b q r s = absurd cc
      by true false false (Some i) a b q r s = (turn Prepare (Writes i) true q r, s (Writes i) q)
      by true false false None a b q r s = (turn Prepare Nothing true q r, s Nothing q)
      by false true true next a b q r s = absurd cc
      by false true false next a b q r s = (turn Prepare Nothing false q r, s Nothing q)
      by false false true next a b q r s = (turn Prepare Nothing false q r, s Nothing q)
      by false false false next a b q r s = (turn Prepare Nothing true q r, s Nothing q)

  handed : (d u k : Bool) (next : Option ℕ) → has_draft m p ≡ d → has_unmarked m p ≡ u → has_done m p ≡ k → next_slot m.slots ≡ next → (d && (u || k)) ≡ false → (u && k) ≡ false
      → (memory_after m p Hand Smooth ≡ acted m p (act_of (status_by d u k) next Hand)) × (answer_of m p Hand Smooth ≡ answered (status_by d u k) next Hand)
  handed d u k next e f g h a b = by d u k next a b (hand_work m p false k (u || k) d next up (marked_is k g) (slot_is u k f g) e h) (ap not (slot_is u k f g))
      (λ x q. hand_answers m p Smooth (u || k) d k (is_work x) (slot_is u k f g) e (marked_is k g) (ap is_work q))
    where
      by : (d u k : Bool) (next : Option ℕ) → (d && (u || k)) ≡ false → (u && k) ≡ false → work_of m p Hand ≡ unless (false || k || not ((u || k) || d)) (cond (u || k) Marks (into_slot next WritesAndMarks))
          → drops m p Hand Smooth ≡ not (u || k)
          → ((x : Work) → work_of m p Hand ≡ x → answer_of m p Hand Smooth
          ≡ cond (not ((u || k) || d) || k) (Some (Owner Committed)) (cond (not (is_work x)) (Some (Owner Aborted)) (cond true (Some (Owner Committed)) (Some (Owner InDoubtOutcome)))))
          → (memory_after m p Hand Smooth ≡ acted m p (act_of (status_by d u k) next Hand)) × (answer_of m p Hand Smooth ≡ answered (status_by d u k) next Hand)
      by true true k next a b q r s = absurd cc
      by true false true next a b q r s = absurd cc
      by true false false (Some i) a b q r s = (turn Hand (WritesAndMarks i) true q r, s (WritesAndMarks i) q)
      by true false false None a b q r s = (turn Hand Nothing true q r, s Nothing q)
      by false true true next a b q r s = absurd cc
      by false true false next a b q r s = (turn Hand Marks false q r, s Marks q)
      by false false true next a b q r s = (turn Hand Nothing false q r, s Nothing q)
      by false false false next a b q r s = (turn Hand Nothing true q r, s Nothing q)

  committed : (d u k : Bool) (next : Option ℕ) → has_draft m p ≡ d → has_unmarked m p ≡ u → has_done m p ≡ k → next_slot m.slots ≡ next → (d && (u || k)) ≡ false → (u && k) ≡ false
      → (memory_after m p Commit Smooth ≡ acted m p (act_of (status_by d u k) next Commit)) × (answer_of m p Commit Smooth ≡ answered (status_by d u k) next Commit)
  committed d u k next e f g h a b = by d u k a b (commit_work m p false u up f) (commit_answers m p Smooth u false f up)
    where
      by : (d u k : Bool) → (d && (u || k)) ≡ false → (u && k) ≡ false → work_of m p Commit ≡ unless (false || not u) Marks → answer_of m p Commit Smooth ≡ cond (not u) (Some Ack) (cond true (Some Ack) None)
          → (memory_after m p Commit Smooth ≡ acted m p (act_of (status_by d u k) next Commit)) × (answer_of m p Commit Smooth ≡ answered (status_by d u k) next Commit)
      by true true k a b q s = absurd cc
      by true false true a b q s = absurd cc
      by true false false a b q s = (turn Commit Nothing false q refl, s)
      by false true true a b q s = absurd cc
      by false true false a b q s = (turn Commit Marks false q refl, s)
      by false false true a b q s = (turn Commit Nothing false q refl, s)
      by false false false a b q s = (turn Commit Nothing false q refl, s)

  rolled_back : (d u k : Bool) (next : Option ℕ) → has_draft m p ≡ d → has_unmarked m p ≡ u → has_done m p ≡ k → next_slot m.slots ≡ next → (d && (u || k)) ≡ false → (u && k) ≡ false
      → (memory_after m p Rollback Smooth ≡ acted m p (act_of (status_by d u k) next Rollback)) × (answer_of m p Rollback Smooth ≡ answered (status_by d u k) next Rollback)
  rolled_back d u k next e f g h a b = by d u k a b (rollback_work m p false u up f)
    where
      by : (d u k : Bool) → (d && (u || k)) ≡ false → (u && k) ≡ false → work_of m p Rollback ≡ unless (false || not u) Closes
          → (memory_after m p Rollback Smooth ≡ acted m p (act_of (status_by d u k) next Rollback)) × (answer_of m p Rollback Smooth ≡ answered (status_by d u k) next Rollback)
      by true true k a b q = absurd cc
      by true false true a b q = absurd cc
      by true false false a b q = (turn Rollback Nothing true q refl, no_answer m p Smooth)
      by false true true a b q = absurd cc
      by false true false a b q = (turn Rollback Closes true q refl, no_answer m p Smooth)
      by false false true a b q = (turn Rollback Nothing true q refl, no_answer m p Smooth)
      by false false false a b q = (turn Rollback Nothing true q refl, no_answer m p Smooth)

  -- a note of another kind changes nothing
  stays : (n : Note) (s : Status) (next : Option ℕ) → work_of m p n ≡ Nothing → drops m p n Smooth ≡ false → act_of s next n ≡ Stay → memory_after m p n Smooth ≡ acted m p (act_of s next n)
  stays n s next q r a = turn n Nothing false q r ∙ ap (acted m p) (sym a)

  pub note_acts : (n : Note) → (memory_after m p n Smooth ≡ acted m p (act_of (status m p) (next_slot m.slots) n)) × (answer_of m p n Smooth ≡ answered (status m p) (next_slot m.slots) n)
  unfolding answer_of work_of
  note_acts Prepare = prepared (has_draft m p) (has_unmarked m p) (has_done m p) (next_slot m.slots) refl refl refl refl w.alone w.single
  note_acts Hand = handed (has_draft m p) (has_unmarked m p) (has_done m p) (next_slot m.slots) refl refl refl refl w.alone w.single
  note_acts Commit = committed (has_draft m p) (has_unmarked m p) (has_done m p) (next_slot m.slots) refl refl refl refl w.alone w.single
  note_acts Rollback = rolled_back (has_draft m p) (has_unmarked m p) (has_done m p) (next_slot m.slots) refl refl refl refl w.alone w.single
  note_acts Promote = by (status m p)
    where
      by : (s : Status) → (memory_after m p Promote Smooth ≡ acted m p (act_of s (next_slot m.slots) Promote)) × (Some (PromoteReply true) ≡ answered s (next_slot m.slots) Promote)
      by Drafted = (turn Promote Nothing false refl refl, refl)
      by Prepared = (turn Promote Nothing false refl refl, refl)
      by Marked = (turn Promote Nothing false refl refl, refl)
      by Gone = (turn Promote Nothing false refl refl, refl)
  note_acts Single = by (status m p)
    where
      by : (s : Status) → (memory_after m p Single Smooth ≡ acted m p (act_of s (next_slot m.slots) Single)) × (Some (Owner Committed) ≡ answered s (next_slot m.slots) Single)
      by Drafted = (turn Single Nothing false refl refl, refl)
      by Prepared = (turn Single Nothing false refl refl, refl)
      by Marked = (turn Single Nothing false refl refl, refl)
      by Gone = (turn Single Nothing false refl refl, refl)
  note_acts Init = by (status m p)
    where
      by : (s : Status) → (memory_after m p Init Smooth ≡ acted m p (act_of s (next_slot m.slots) Init)) × (None ≡ answered s (next_slot m.slots) Init)
      by Drafted = (turn Init Nothing false refl refl, refl)
      by Prepared = (turn Init Nothing false refl refl, refl)
      by Marked = (turn Init Nothing false refl refl, refl)
      by Gone = (turn Init Nothing false refl refl, refl)
  note_acts InDoubt = by (status m p)
    where
      by : (s : Status) → (memory_after m p InDoubt Smooth ≡ acted m p (act_of s (next_slot m.slots) InDoubt)) × (None ≡ answered s (next_slot m.slots) InDoubt)
      by Drafted = (turn InDoubt Nothing false refl refl, refl)
      by Prepared = (turn InDoubt Nothing false refl refl, refl)
      by Marked = (turn InDoubt Nothing false refl refl, refl)
      by Gone = (turn InDoubt Nothing false refl refl, refl)
