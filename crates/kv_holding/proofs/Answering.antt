-- The answers of a store to a note: they fit it, and what each says.
use Rattle.std.proofs.Common.{◌≡◌, ◌⊎◌, inl, inr, Bool, true, false, not, ◌&&◌, ◌||◌, cond, Option, Some, None, refl, sym, ap, ◌∙◌}
use Rattle.dtx_values.specs.declared.note.Note.{Note}
use Rattle.dtx_values.specs.declared.note.Note.TheVariants.{Init, Prepare, Promote, Hand, Single, Commit, Rollback, InDoubt}
use Rattle.dtx_values.specs.declared.note.Reply.{Reply}
use Rattle.dtx_values.specs.declared.note.Reply.TheVariants.{Vote as VoteReply, Owner, Ack}
use Rattle.dtx_values.specs.declared.words.Outcome.TheVariants.{Committed, Aborted, InDoubt as DoubtOutcome}
use Rattle.dtx_values.specs.declared.words.Vote.{Vote}
use Rattle.dtx_values.specs.declared.words.Vote.TheVariants.{Yes, No, Done}
use Rattle.kv_resource.specs.Notes.{Fate, answer_of, is_smooth, is_work, work_of, unless, into_slot, Writes, Marks}
use Rattle.kv_resource.specs.Store.{KvMemory, Pair, has_draft, has_marked, has_slot, has_unmarked, next_slot}
use Rattle.kv_resource.proofs.Giving.{commit_answers, commit_work, hand_answers, prepare_answers, prepare_work}
use Rattle.all_or_nothing.specs.Marks.{drops, fits_if}

-- ---- each answer fits its note

votes : (a b c : Bool) → fits_if (cond a (Some (VoteReply Done)) (cond b (Some (VoteReply Yes)) (cond c (Some (VoteReply Yes)) (Some (VoteReply No))))) Prepare ≡ true
votes true b c = refl
votes false true c = refl
votes false false true = refl
votes false false false = refl

owns : (a b c : Bool) → fits_if (cond a (Some (Owner Committed)) (cond b (Some (Owner Aborted)) (cond c (Some (Owner Committed)) (Some (Owner DoubtOutcome))))) Hand ≡ true
owns true b c = refl
owns false true c = refl
owns false false true = refl
owns false false false = refl

acks : (a b : Bool) → fits_if (cond a (Some Ack) (cond b (Some Ack) None)) Commit ≡ true
acks true b = refl
acks false true = refl
acks false false = refl

pub answer_fits : (m : KvMemory) (p : Pair) (n : Note) (f : Fate) → fits_if (answer_of m p n f) n ≡ true
unfolding answer_of
answer_fits m p Prepare f =
    let s = has_slot m p in
    let d = has_draft m p in
    let k = has_marked m p in
    let w = is_work (work_of m p Prepare) in
    ap (λ (a : Option Reply). fits_if a Prepare) (prepare_answers m p f s d k m.stopped w refl refl refl refl refl) ∙ votes (not (s || d)) (k || (s && not m.stopped)) (w && is_smooth f)
answer_fits m p Hand f =
    let s = has_slot m p in
    let d = has_draft m p in
    let k = has_marked m p in
    let w = is_work (work_of m p Hand) in
    ap (λ (a : Option Reply). fits_if a Hand) (hand_answers m p f s d k w refl refl refl refl) ∙ owns (not (s || d) || k) (not w) (is_smooth f)
answer_fits m p Commit f =
    ap (λ (a : Option Reply). fits_if a Commit) (commit_answers m p f (has_unmarked m p) m.stopped refl refl) ∙ acks (not (has_unmarked m p)) (not m.stopped && is_smooth f)
answer_fits m p Promote f = refl
answer_fits m p Single f = refl
answer_fits m p Init f = refl
answer_fits m p Rollback f = refl
answer_fits m p InDoubt f = refl

-- ---- to which note an answer was

pub vote_to : (n : Note) (v : Vote) → fits_if (Some (VoteReply v)) n ≡ true → n ≡ Prepare
vote_to Prepare v e = refl
vote_to Init v e = absurd cc
vote_to Promote v e = absurd cc
vote_to Hand v e = absurd cc
vote_to Single v e = absurd cc
vote_to Commit v e = absurd cc
vote_to Rollback v e = absurd cc
vote_to InDoubt v e = absurd cc

pub ack_to : (n : Note) → fits_if (Some Ack) n ≡ true → n ≡ Commit
ack_to Commit e = refl
ack_to Init e = absurd cc
ack_to Prepare e = absurd cc
ack_to Promote e = absurd cc
ack_to Hand e = absurd cc
ack_to Single e = absurd cc
ack_to Rollback e = absurd cc
ack_to InDoubt e = absurd cc

pub drop_by : (n : Note) → drops n ≡ true → n ≡ Rollback
drop_by Rollback e = refl
drop_by Init e = absurd cc
drop_by Prepare e = absurd cc
drop_by Promote e = absurd cc
drop_by Hand e = absurd cc
drop_by Single e = absurd cc
drop_by Commit e = absurd cc
drop_by InDoubt e = absurd cc

-- ---- done: there was nothing to write

done_by : (s d b c : Bool) → cond (not (s || d)) (Some (VoteReply Done)) (cond b (Some (VoteReply Yes)) (cond c (Some (VoteReply Yes)) (Some (VoteReply No)))) ≡ Some (VoteReply Done) → d ≡ false
done_by true d true c e = absurd cc
done_by true d false true e = absurd cc
done_by true d false false e = absurd cc
done_by false true true c e = absurd cc
done_by false true false true e = absurd cc
done_by false true false false e = absurd cc
done_by false false b c e = refl

no_draft_no_work : (m : KvMemory) (p : Pair) → has_draft m p ≡ false → is_work (work_of m p Prepare) ≡ false
no_draft_no_work m p e = ap is_work (prepare_work m p m.stopped (has_slot m p) false (next_slot m.slots) refl refl e refl) ∙ by m.stopped (has_slot m p)
  where
    by : (a b : Bool) → is_work (unless (a || b || true) (into_slot (next_slot m.slots) Writes)) ≡ false
    by true true = refl
    by true false = refl
    by false true = refl
    by false false = refl

prepared_done : (m : KvMemory) (p : Pair) (f : Fate) → answer_of m p Prepare f ≡ Some (VoteReply Done) → is_work (work_of m p Prepare) ≡ false
prepared_done m p f e =
    let s = has_slot m p in
    let d = has_draft m p in
    let k = has_marked m p in
    let w = is_work (work_of m p Prepare) in
    no_draft_no_work m p (done_by s d (k || (s && not m.stopped)) (w && is_smooth f) (sym (prepare_answers m p f s d k m.stopped w refl refl refl refl refl) ∙ e))

pub done_idle : (m : KvMemory) (p : Pair) (n : Note) (f : Fate) → answer_of m p n f ≡ Some (VoteReply Done) → is_work (work_of m p n) ≡ false
done_idle m p n f e =
    let is : n ≡ Prepare = vote_to n Done (ap (λ (a : Option Reply). fits_if a n) (sym e) ∙ answer_fits m p n f) in
    ap (λ (x : Note). is_work (work_of m p x)) is ∙ prepared_done m p f (ap (λ (x : Note). answer_of m p x f) (sym is) ∙ e)

-- ---- yes: the pair has a slot, and the store isn't stopped; or it has a marked one; or it was written now

yes_by : (s d k st w sm : Bool) → cond (not (s || d)) (Some (VoteReply Done)) (cond (k || (s && not st)) (Some (VoteReply Yes)) (cond (w && sm) (Some (VoteReply Yes)) (Some (VoteReply No)))) ≡ Some (VoteReply Yes)
    → ((st ≡ false) × (s ≡ true)) ⊎ ((k ≡ true) ⊎ ((w ≡ true) × (sm ≡ true)))
yes_by s d true st w sm e = inr (inl refl)
yes_by true d false false w sm e = inl (refl, refl)
yes_by s d false st true true e = inr (inr (refl, refl))
yes_by true d false true false sm e = absurd cc
yes_by true d false true true false e = absurd cc
yes_by false true false st false sm e = absurd cc
yes_by false true false st true false e = absurd cc
yes_by false false false st false sm e = absurd cc
yes_by false false false st true false e = absurd cc

pub voted_yes : (m : KvMemory) (p : Pair) (f : Fate) → answer_of m p Prepare f ≡ Some (VoteReply Yes)
    → ((m.stopped ≡ false) × (has_slot m p ≡ true)) ⊎ ((has_marked m p ≡ true) ⊎ ((is_work (work_of m p Prepare) ≡ true) × (is_smooth f ≡ true)))
voted_yes m p f e =
    let s = has_slot m p in
    let d = has_draft m p in
    let k = has_marked m p in
    let w = is_work (work_of m p Prepare) in
    yes_by s d k m.stopped w (is_smooth f) (sym (prepare_answers m p f s d k m.stopped w refl refl refl refl refl) ∙ e)

-- ---- acknowledged: nothing of the pair was unmarked, or it was marked now

ack_by : (u st sm : Bool) → cond (not u) (Some Ack) (cond (not st && sm) (Some Ack) None) ≡ Some Ack → (u ≡ false) ⊎ ((u ≡ true) × (st ≡ false) × (sm ≡ true))
ack_by false st sm e = inl refl
ack_by true false true e = inr (refl, refl, refl)
ack_by true true sm e = absurd cc
ack_by true false false e = absurd cc

pub acked_by : (m : KvMemory) (p : Pair) (f : Fate) → answer_of m p Commit f ≡ Some Ack → (has_unmarked m p ≡ false) ⊎ ((has_unmarked m p ≡ true) × (m.stopped ≡ false) × (is_smooth f ≡ true))
acked_by m p f e = ack_by (has_unmarked m p) m.stopped (is_smooth f) (sym (commit_answers m p f (has_unmarked m p) m.stopped refl refl) ∙ e)

-- without what isn't marked a commit has no work
pub marked_idle : (m : KvMemory) (p : Pair) → has_unmarked m p ≡ false → is_work (work_of m p Commit) ≡ false
marked_idle m p e = ap is_work (commit_work m p m.stopped false refl e) ∙ by m.stopped
  where
    by : (a : Bool) → is_work (unless (a || true) Marks) ≡ false
    by true = refl
    by false = refl

-- with a slot a prepare has none
pub there_idle : (m : KvMemory) (p : Pair) → has_slot m p ≡ true → is_work (work_of m p Prepare) ≡ false
there_idle m p e = ap is_work (prepare_work m p m.stopped true (has_draft m p) (next_slot m.slots) refl e refl refl) ∙ by m.stopped
  where
    by : (a : Bool) → is_work (unless (a || true || not (has_draft m p)) (into_slot (next_slot m.slots) Writes)) ≡ false
    by true = refl
    by false = refl
