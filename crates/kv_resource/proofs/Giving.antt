-- What a store gives to a note, by what is found of the pair and by what became of the work.
use Rattle.std.specs.Prelude.{Contains, IsFalse, IsTrue}
use Rattle.std.proofs.Common.{◌≡◌, ◌⊎◌, inl, inr, ℕ, Bool, true, false, ◌&&◌, ◌||◌, not, cond, List, [], ◌∷◌, Option, Some, None, Result, Ok, refl, sym, ap, subst, ◌∙◌, arith}
use Rattle.outside.specs.Faults.{Rose}
use Rattle.dtx_values.specs.declared.note.Note.{Note}
use Rattle.dtx_values.specs.declared.note.Note.TheVariants.{Prepare, Hand, Commit, Rollback}
use Rattle.dtx_values.specs.declared.note.Reply.{Reply}
use Rattle.dtx_values.specs.declared.note.Reply.TheVariants.{Vote as VoteReply, Owner, Ack}
use Rattle.dtx_values.specs.declared.words.Outcome.TheVariants.{Committed, Aborted, InDoubt as DoubtOutcome}
use Rattle.dtx_values.specs.declared.words.Vote.TheVariants.{Yes, No, Done}
use Rattle.slotted.proofs.SlotReads.{file_agrees}
use Rattle.kv_resource.specs.Bytes.{KvRecord, kv_has}
use Rattle.kv_resource.specs.Images.{AllHold, Gives, IsKept, may_hold}
use Rattle.kv_resource.specs.Notes.{Closes, Fate, Marks, Nothing, Smooth, Work, Writes, WritesAndMarks, answer_of, drops, earlier_after, into_slot, is_smooth, is_work, memory_after, slots_after, unless, work_of}
use Rattle.kv_resource.specs.Store.{KvDraft, KvMemory, KvState, Pair, has_draft, has_marked, has_slot, has_unmarked, next_slot, open_records, with_drafts, without_draft}
use Rattle.kv_resource.proofs.Files.{kv_file}

-- ---- the work of a note, its answer and what is kept, by what is known of the pair

pub prepare_work : (m : KvMemory) (p : Pair) (st s d : Bool) (next : Option ℕ) → m.stopped ≡ st → has_slot m p ≡ s → has_draft m p ≡ d → next_slot m.slots ≡ next
    → work_of m p Prepare ≡ unless (st || s || not d) (into_slot next Writes)
unfolding work_of
prepare_work m p st s d next a b c e = λ i. unless (a i || b i || not (c i)) (into_slot (e i) Writes)

pub hand_work : (m : KvMemory) (p : Pair) (st k s d : Bool) (next : Option ℕ) → m.stopped ≡ st → has_marked m p ≡ k → has_slot m p ≡ s → has_draft m p ≡ d → next_slot m.slots ≡ next
    → work_of m p Hand ≡ unless (st || k || not (s || d)) (cond s Marks (into_slot next WritesAndMarks))
unfolding work_of
hand_work m p st k s d next a b c e f = λ i. unless (a i || b i || not (c i || e i)) (cond (c i) Marks (into_slot (f i) WritesAndMarks))

pub commit_work : (m : KvMemory) (p : Pair) (st u : Bool) → m.stopped ≡ st → has_unmarked m p ≡ u → work_of m p Commit ≡ unless (st || not u) Marks
unfolding work_of
commit_work m p st u a b = λ i. unless (a i || not (b i)) Marks

pub rollback_work : (m : KvMemory) (p : Pair) (st u : Bool) → m.stopped ≡ st → has_unmarked m p ≡ u → work_of m p Rollback ≡ unless (st || not u) Closes
unfolding work_of
rollback_work m p st u a b = λ i. unless (a i || not (b i)) Closes

pub prepare_answers : (m : KvMemory) (p : Pair) (f : Fate) (s d k st w : Bool) → has_slot m p ≡ s → has_draft m p ≡ d → has_marked m p ≡ k → m.stopped ≡ st → is_work (work_of m p Prepare) ≡ w
    → answer_of m p Prepare f ≡ cond (not (s || d)) (Some (VoteReply Done)) (cond (k || (s && not st)) (Some (VoteReply Yes)) (cond (w && is_smooth f) (Some (VoteReply Yes)) (Some (VoteReply No))))
unfolding answer_of
prepare_answers m p f s d k st w a b c e h =
    λ i. cond (not (a i || b i)) (Some (VoteReply Done)) (cond (c i || (a i && not (e i))) (Some (VoteReply Yes)) (cond (h i && is_smooth f) (Some (VoteReply Yes)) (Some (VoteReply No))))

pub hand_answers : (m : KvMemory) (p : Pair) (f : Fate) (s d k w : Bool) → has_slot m p ≡ s → has_draft m p ≡ d → has_marked m p ≡ k → is_work (work_of m p Hand) ≡ w
    → answer_of m p Hand f ≡ cond (not (s || d) || k) (Some (Owner Committed)) (cond (not w) (Some (Owner Aborted)) (cond (is_smooth f) (Some (Owner Committed)) (Some (Owner DoubtOutcome))))
unfolding answer_of
hand_answers m p f s d k w a b c h = λ i. cond (not (a i || b i) || c i) (Some (Owner Committed)) (cond (not (h i)) (Some (Owner Aborted)) (cond (is_smooth f) (Some (Owner Committed)) (Some (Owner DoubtOutcome))))

pub commit_answers : (m : KvMemory) (p : Pair) (f : Fate) (u st : Bool) → has_unmarked m p ≡ u → m.stopped ≡ st → answer_of m p Commit f ≡ cond (not u) (Some Ack) (cond (not st && is_smooth f) (Some Ack) None)
unfolding answer_of
commit_answers m p f u st a b = λ i. cond (not (a i)) (Some Ack) (cond (not (b i) && is_smooth f) (Some Ack) None)

pub no_answer : (m : KvMemory) (p : Pair) (f : Fate) → answer_of m p Rollback f ≡ None
unfolding answer_of
no_answer m p f = refl

pub after_by : (m : KvMemory) (p : Pair) (n : Note) (f : Fate) (w : Work) (b : Bool) (ds : List KvDraft) → work_of m p n ≡ w → drops m p n f ≡ b → without_draft p m.drafts ≡ ds
    → memory_after m p n f ≡ record { slots = slots_after m p w f; drafts = cond b ds m.drafts; stopped = m.stopped || (is_work w && not (is_smooth f)) }
unfolding memory_after
after_by m p n f w b ds a e h = λ i. record { slots = slots_after m p (a i) f; drafts = cond (e i) (h i) m.drafts; stopped = m.stopped || (is_work (a i) && not (is_smooth f)) }

or_false : (b : Bool) → b || false ≡ b
or_false true = refl
or_false false = refl

-- ---- what is given

-- one of two
pub one_of_two : (x : Result (List KvRecord) ℕ) (a b : List KvRecord) → (x ≡ Ok a) ⊎ (x ≡ Ok b) → (rs : List KvRecord) × (x ≡ Ok rs) × Contains (a ∷ b ∷ []) rs
one_of_two x a b (inl e) = (a, e, (0, omega arith, refl))
one_of_two x a b (inr e) = (b, e, (1, omega arith, refl))

-- without work the disk and the slots stay
pub idle : {D : Type 0} (honest : Bool) (seen : D → List ℕ) (image : D → List ℕ → Type 0) (size faults : D → ℕ) (old : KvState D) (p : Pair) (n : Note) (a : Option Reply) (b : Bool) (ds : List KvDraft)
    → IsKept honest (seen old.disk) (image old.disk) (size old.disk) old.memory → work_of old.memory p n ≡ Nothing → a ≡ answer_of old.memory p n Smooth
    → drops old.memory p n Smooth ≡ b → without_draft p old.memory.drafts ≡ ds
    → Gives honest image faults old p n a (with_drafts (cond b ds old.memory.drafts) old)
idle honest seen image size faults old p n a b ds kept nothing answer dropped left =
    let m = old.memory in
    let held : IsTrue honest → IsFalse m.stopped → AllHold (image old.disk) (open_records m.slots) = λ h up. file_agrees kv_file (seen old.disk) (image old.disk) m.slots (kept.stored h up) in
    record {
      fate = Smooth;
      answer = answer;
      kept = sym (after_by m p n Smooth Nothing b ds nothing dropped left ∙ ap (λ (x : Bool). record { slots = m.slots; drafts = cond b ds m.drafts; stopped = x }) (or_false m.stopped));
      cause = λ no. absurd cc;
      smooth = λ _. refl;
      earlier = ap (λ (w : Work). earlier_after old.earlier w Smooth) (sym nothing);
      idle = λ _. refl;
      leaves = λ h. record {
        images = λ up c on. (open_records m.slots, held h up c on, subst (λ (w : Work). Contains (may_hold m p w) (open_records m.slots)) (sym nothing) (0, omega arith, refl));
        durable = λ up. held h up;
        stopped = λ _ c on. on;
      };
    }

-- with work each image is one of those that it may be
pub worked : {D : Type 0} (honest : Bool) (image : D → List ℕ → Type 0) (faults : D → ℕ) (old new : KvState D) (p : Pair) (n : Note) (a : Option Reply) (f : Fate) (w : Work)
    → old.memory.stopped ≡ false → work_of old.memory p n ≡ w → is_work w ≡ true → a ≡ answer_of old.memory p n f
    → new.memory ≡ memory_after old.memory p n f → new.earlier ≡ earlier_after old.earlier w f
    → (is_smooth f ≡ false → Rose (faults old.disk) (faults new.disk)) → (is_smooth f ≡ true → faults new.disk ≡ faults old.disk)
    → (IsTrue honest → (c : List ℕ) → image new.disk c → (rs : List KvRecord) × (kv_has c ≡ Ok rs) × Contains (may_hold old.memory p w) rs)
    → (IsTrue honest → IsFalse new.memory.stopped → AllHold (image new.disk) (open_records new.memory.slots))
    → Gives honest image faults old p n a new
worked honest image faults old new p n a f w up work some answer kept since cause smooth images durable =
    let m = old.memory in
    record {
      fate = f;
      answer = answer;
      kept = kept;
      cause = cause;
      smooth = smooth;
      earlier = since ∙ ap (λ (v : Work). earlier_after old.earlier v f) (sym work);
      idle = λ none. absurd (let both : true ≡ false = sym some ∙ ap is_work (sym work) ∙ none in cc);
      leaves = λ h. record {
        images = λ _ c on. let i = images h c on in (i.0, i.1, subst (λ (v : Work). Contains (may_hold m p v) i.0) (sym work) i.2);
        durable = durable h;
        stopped = λ is. absurd (let both : true ≡ false = sym is ∙ up in cc);
      };
    }
