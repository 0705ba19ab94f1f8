-- Each way that a note can go, from what was found of the pair and what the device work did.
use Rattle.std.specs.Prelude.{Contains, IsTrue, min, remove}
use Rattle.std.proofs.Common.{◌≡◌, ◌⊎◌, inl, inr, ℕ, Bool, true, false, ◌&&◌, ◌||◌, not, cond, eqb, List, [], ◌∷◌, Option, Some, None, Result, Ok, Err, refl, sym, ap, subst, ◌∙◌, arith, set}
use Rattle.std.proofs.lemmas.Bool.Decides.{nat_tests}
use Rattle.std.proofs.lemmas.List.{set-set}
use Rattle.outside.specs.Faults.{Rose}
use Rattle.outside.specs.declared.failure.Failed.{Failed}
use Rattle.dtx_values.specs.declared.note.Note.{Note}
use Rattle.dtx_values.specs.declared.note.Note.TheVariants.{Prepare, Hand, Commit, Rollback}
use Rattle.dtx_values.specs.declared.note.Reply.{Reply}
use Rattle.dtx_values.specs.declared.note.Reply.TheVariants.{Vote as VoteReply, Owner, Ack}
use Rattle.dtx_values.specs.declared.words.Outcome.TheVariants.{Committed, Aborted, InDoubt as DoubtOutcome}
use Rattle.dtx_values.specs.declared.words.Vote.TheVariants.{Yes, No, Done}
use Rattle.kv_resource.specs.Bytes.{KvRecord, kv_has, with_mark}
use Rattle.kv_resource.specs.Images.{Gives, IsKept, TurnsSlot, may_hold}
use Rattle.kv_resource.specs.Notes.{AtMark, AtRecord, Closes, Fate, Marks, Nothing, Smooth, Work, Writes, WritesAndMarks, answer_of, closed_record, drops, earlier_after, fresh_record, into_slot, is_smooth, is_work, marked_record, record_with, slots_after, unless, work_of}
use Rattle.kv_resource.specs.Store.{KvDraft, KvMemory, KvState, Pair, draft_of, has_draft, has_marked, has_slot, has_unmarked, is_record_of, is_unmarked_of, next_slot, open_records, with_drafts, without_draft, writes_of}
use Rattle.kv_resource.proofs.Finding.{IsDraftAt, IsFirst, Slots, find_draft, find_first, on_first}
use Rattle.kv_resource.proofs.Giving.{after_by, commit_answers, commit_work, hand_answers, hand_work, idle, no_answer, one_of_two, prepare_answers, prepare_work, rollback_work, worked}

-- no work where one of three says so
stays : (a b : Bool) (w : Work) → b ≡ true → unless (a || b) w ≡ Nothing
stays true b w e = refl
stays false b w e = ap (λ (x : Bool). unless x w) e

first_of_three : (a b c : Bool) (w : Work) → b ≡ true → unless (a || b || c) w ≡ Nothing
first_of_three true b c w e = refl
first_of_three false b c w e = ap (λ (x : Bool). unless (x || c) w) e

-- the room for one more record
no_room : (st : Bool) (next : Option ℕ) (w : ℕ → Work) → cond st None next ≡ None → unless (st || false || false) (into_slot next w) ≡ Nothing
no_room true next w e = refl
no_room false next w e = ap (λ (o : Option ℕ). into_slot o w) e

pub room_is : (st : Bool) (next : Option ℕ) (k : ℕ) → cond st None next ≡ Some k → (st ≡ false) × (next ≡ Some k)
room_is true next k e = absurd cc
room_is false next k e = (refl, e)

-- the record of a draft of the pair
pub fresh_is : (m : KvMemory) (p : Pair) (i : ℕ) (d : KvDraft) → IsDraftAt p m.drafts i d → record_with false d ≡ fresh_record m p false
fresh_is m p i d f =
    let writes : d.writes ≡ draft_of m p = sym (ap writes_of (find_draft p m.drafts i d f).0) in
    let same = numbers p.0 d.transaction p.1 d.enlistment f.passes in
    λ j. record { transaction = same.0 j; enlistment = same.1 j; writes = writes j; marked = false }
  where
    numbers : (a b c e : ℕ) → (eqb a b && eqb c e) ≡ true → (b ≡ a) × (e ≡ c)
    numbers a b c e h = (grind (arith, nat_tests, h), grind (arith, nat_tests, h))

module _ {D : Type 0} (honest : Bool) (seen : D → List ℕ) (image : D → List ℕ → Type 0) (size faults : D → ℕ) (old : KvState D) (p : Pair) (kept : IsKept honest (seen old.disk) (image old.disk) (size old.disk) old.memory) where
  abbrev m : KvMemory
  m = old.memory

  -- ---- Prepare and Hand of a pair with a slot

  pub prepare_slot : (k : ℕ) → IsFirst (is_record_of p) m.slots k → (mark st : Bool) → has_marked m p ≡ mark → m.stopped ≡ st
      → Gives honest image faults old p Prepare (cond (mark || not st) (Some (VoteReply Yes)) (Some (VoteReply No))) old
  prepare_slot k f mark st marked stopped =
      let there : has_slot m p ≡ true = (find_first (is_record_of p) m.slots k f).1 in
      let none : work_of m p Prepare ≡ Nothing = prepare_work m p m.stopped (has_slot m p) (has_draft m p) (next_slot m.slots) refl refl refl refl ∙ first_of_three m.stopped (has_slot m p) (not (has_draft m p)) (into_slot (next_slot m.slots) Writes) there in
      let answer = prepare_answers m p Smooth true (has_draft m p) mark st false there refl marked stopped (ap is_work none) in
      idle honest seen image size faults old p Prepare _ false (without_draft p m.drafts) kept none (answer_of_two mark st ∙ sym answer) (ap not there) refl
    where
      answer_of_two : (mark st : Bool) → cond (mark || not st) (Some (VoteReply Yes)) (Some (VoteReply No)) ≡ cond (mark || (true && not st)) (Some (VoteReply Yes)) (Some (VoteReply No))
      answer_of_two mark st = refl

  pub hand_marked : (k : ℕ) → IsFirst (is_record_of p) m.slots k → has_marked m p ≡ true → Gives honest image faults old p Hand (Some (Owner Committed)) old
  hand_marked k f marked =
      let there : has_slot m p ≡ true = (find_first (is_record_of p) m.slots k f).1 in
      let none : work_of m p Hand ≡ Nothing =
      hand_work m p m.stopped (has_marked m p) (has_slot m p) (has_draft m p) (next_slot m.slots) refl refl refl refl refl ∙ first_of_three m.stopped (has_marked m p) _ _ marked in
      idle honest seen image size faults old p Hand _ false (without_draft p m.drafts) kept none (sym (hand_answers m p Smooth true (has_draft m p) true false there refl marked (ap is_work none))) (ap not there) refl

  pub hand_stopped : (k : ℕ) → IsFirst (is_record_of p) m.slots k → has_marked m p ≡ false → m.stopped ≡ true → Gives honest image faults old p Hand (Some (Owner Aborted)) old
  hand_stopped k f marked stopped =
      let there : has_slot m p ≡ true = (find_first (is_record_of p) m.slots k f).1 in
      let none : work_of m p Hand ≡ Nothing = hand_work m p true (has_marked m p) (has_slot m p) (has_draft m p) (next_slot m.slots) stopped refl refl refl refl in
      idle honest seen image size faults old p Hand _ false (without_draft p m.drafts) kept none (sym (hand_answers m p Smooth true (has_draft m p) false false there refl marked (ap is_work none))) (ap not there) refl

  -- ---- of a pair that wrote nothing

  module _ (none_slot : has_slot m p ≡ false) (none_marked : has_marked m p ≡ false) where
    pub prepare_nothing : has_draft m p ≡ false → without_draft p m.drafts ≡ m.drafts → Gives honest image faults old p Prepare (Some (VoteReply Done)) old
    prepare_nothing none_draft same =
        let none : work_of m p Prepare ≡ Nothing = prepare_work m p m.stopped (has_slot m p) false (next_slot m.slots) refl refl none_draft refl ∙ stays (m.stopped || has_slot m p) true _ refl in
        idle honest seen image size faults old p Prepare _ true m.drafts kept none (sym (prepare_answers m p Smooth false false false m.stopped false none_slot none_draft none_marked refl (ap is_work none))) (ap not none_slot) same

    pub hand_nothing : has_draft m p ≡ false → without_draft p m.drafts ≡ m.drafts → Gives honest image faults old p Hand (Some (Owner Committed)) old
    hand_nothing none_draft same =
        let none : work_of m p Hand ≡ Nothing = hand_work m p m.stopped (has_marked m p) false false (next_slot m.slots) refl refl none_slot none_draft refl ∙ stays (m.stopped || has_marked m p) true _ refl in
        idle honest seen image size faults old p Hand _ true m.drafts kept none (sym (hand_answers m p Smooth false false false false none_slot none_draft none_marked (ap is_work none))) (ap not none_slot) same

    -- ---- of a pair with a draft

    module _ (i : ℕ) (d : KvDraft) (f : IsDraftAt p m.drafts i d) where
      drafted : has_draft m p ≡ true
      drafted = (find_draft p m.drafts i d f).1

      pub prepare_full : cond m.stopped None (next_slot m.slots) ≡ None → Gives honest image faults old p Prepare (Some (VoteReply No)) (with_drafts (without_draft p m.drafts) old)
      prepare_full full =
          let none : work_of m p Prepare ≡ Nothing = prepare_work m p m.stopped false true (next_slot m.slots) refl none_slot drafted refl ∙ no_room m.stopped (next_slot m.slots) Writes full in
          idle honest seen image size faults old p Prepare _ true (without_draft p m.drafts) kept none (sym (prepare_answers m p Smooth false true false m.stopped false none_slot drafted none_marked refl (ap is_work none))) (ap not none_slot) refl

      pub hand_full : cond m.stopped None (next_slot m.slots) ≡ None → Gives honest image faults old p Hand (Some (Owner Aborted)) (with_drafts (without_draft p m.drafts) old)
      hand_full full =
          let none : work_of m p Hand ≡ Nothing = hand_work m p m.stopped false false true (next_slot m.slots) refl none_marked none_slot drafted refl ∙ no_room m.stopped (next_slot m.slots) WritesAndMarks full in
          idle honest seen image size faults old p Hand _ true (without_draft p m.drafts) kept none (sym (hand_answers m p Smooth false true false false none_slot drafted none_marked (ap is_work none))) (ap not none_slot) refl

  -- ---- device work on one slot

  -- after work that was done
  one_done : (new : KvState D) (n : Note) (a : Option Reply) (w : Work) (k : ℕ) (x : Option KvRecord) (ds : List KvDraft) (u : Unit {0}) (b : Bool) → m.stopped ≡ false → work_of m p n ≡ w → is_work w ≡ true
      → a ≡ answer_of m p n Smooth → TurnsSlot honest image faults old new k x ds (earlier_after old.earlier w Smooth) (Ok u) → may_hold m p w ≡ open_records m.slots ∷ open_records (set m.slots k x) ∷ [] → slots_after m p w Smooth ≡ set m.slots k x
      → drops m p n Smooth ≡ b → cond b (without_draft p m.drafts) m.drafts ≡ ds → Gives honest image faults old p n a new
  one_done new n a w k x ds u b up work some answer turns holds slots dropped drafts =
      worked honest image faults old new p n a Smooth w up work some answer
      (turns.done ∙ sym (after_by m p n Smooth w b (without_draft p m.drafts) work dropped refl ∙ (λ j. record { slots = slots j; drafts = drafts j; stopped = up j || (some j && false) })))
      turns.since (λ rough. absurd cc) (λ _. turns.smooth)
      (λ h c on. subst (λ (l : List (List KvRecord)). (rs : List KvRecord) × (kv_has c ≡ Ok rs) × Contains l rs) (sym holds) (one_of_two (kv_has c) _ _ (turns.images h c on)))
      (λ h _ c on. turns.durable h c on ∙ ap (λ (y : KvMemory). Ok (open_records y.slots)) (sym turns.done))

  -- after work that a fault broke off
  one_broken : (new : KvState D) (n : Note) (a : Option Reply) (f : Fate) (w : Work) (ds : List KvDraft) (b : Bool) → m.stopped ≡ false → work_of m p n ≡ w → is_work w ≡ true → is_smooth f ≡ false
      → a ≡ answer_of m p n f → new.memory ≡ record { slots = slots_after m p w f; drafts = ds; stopped = true } → new.earlier ≡ earlier_after old.earlier w f → Rose (faults old.disk) (faults new.disk)
      → (IsTrue honest → (c : List ℕ) → image new.disk c → (rs : List KvRecord) × (kv_has c ≡ Ok rs) × Contains (may_hold m p w) rs)
      → drops m p n f ≡ b → cond b (without_draft p m.drafts) m.drafts ≡ ds → Gives honest image faults old p n a new
  one_broken new n a f w ds b up work some rough answer failed left cause images dropped drafts =
      worked honest image faults old new p n a f w up work some answer
      (failed ∙ sym (after_by m p n f w b (without_draft p m.drafts) work dropped refl ∙ (λ j. record { slots = slots_after m p w f; drafts = drafts j; stopped = up j || (some j && not (rough j)) })))
      left (λ _. cause) (λ is. absurd (let both : true ≡ false = sym is ∙ rough in cc)) images
      (λ h running. absurd (let both : true ≡ false = sym (ap (λ (y : KvMemory). y.stopped) failed) ∙ running in cc))

  -- ---- a mark or a closed gate

  module _ (k : ℕ) (f : IsFirst (is_unmarked_of p) m.slots k) (up : m.stopped ≡ false) (new : KvState D) where
    unmarked_there : has_unmarked m p ≡ true
    unmarked_there = (find_first (is_unmarked_of p) m.slots k f).1

    marks_hold : may_hold m p Marks ≡ open_records m.slots ∷ open_records (set m.slots k (Some (with_mark true f.r))) ∷ []
    marks_hold = ap (λ (ss : Slots). open_records m.slots ∷ open_records ss ∷ []) (on_first p marked_record m.slots k f)

    closes_hold : may_hold m p Closes ≡ open_records m.slots ∷ open_records (set m.slots k None) ∷ []
    closes_hold = ap (λ (ss : Slots). open_records m.slots ∷ open_records ss ∷ []) (on_first p closed_record m.slots k f)

    pub committed : (u : Unit {0}) → TurnsSlot honest image faults old new k (Some (with_mark true f.r)) m.drafts old.earlier (Ok u) → Gives honest image faults old p Commit (Some Ack) new
    committed u turns =
        one_done new Commit (Some Ack) Marks k (Some (with_mark true f.r)) m.drafts u false up (commit_work m p false true up unmarked_there) refl (sym (commit_answers m p Smooth true false unmarked_there up)) turns marks_hold
        (on_first p marked_record m.slots k f) refl refl

    pub uncommitted : (fl : Failed) → TurnsSlot honest image faults old new k (Some (with_mark true f.r)) m.drafts old.earlier (Err fl) → Gives honest image faults old p Commit None new
    uncommitted fl turns =
        one_broken new Commit None AtMark Marks m.drafts false up (commit_work m p false true up unmarked_there) refl refl (sym (commit_answers m p AtMark true false unmarked_there up)) turns.failed turns.still turns.cause
        (λ h c on. subst (λ (l : List (List KvRecord)). (rs : List KvRecord) × (kv_has c ≡ Ok rs) × Contains l rs) (sym marks_hold) (one_of_two (kv_has c) _ _ (turns.images h c on))) refl refl

    pub rolled_back : (u : Unit {0}) → TurnsSlot honest image faults (with_drafts (without_draft p m.drafts) old) new k None (without_draft p m.drafts) old.earlier (Ok u) → Gives honest image faults old p Rollback None new
    rolled_back u turns =
        one_done new Rollback None Closes k None (without_draft p m.drafts) u true up (rollback_work m p false true up unmarked_there) refl (sym (no_answer m p Smooth))
        (record { done = turns.done; since = turns.since; failed = tt; still = tt; smooth = turns.smooth; cause = tt; images = turns.images; durable = turns.durable }) closes_hold (on_first p closed_record m.slots k f) refl refl

    pub not_rolled_back : (fl : Failed) → TurnsSlot honest image faults (with_drafts (without_draft p m.drafts) old) new k None (without_draft p m.drafts) old.earlier (Err fl) → Gives honest image faults old p Rollback None new
    not_rolled_back fl turns =
        one_broken new Rollback None AtRecord Closes (without_draft p m.drafts) true up (rollback_work m p false true up unmarked_there) refl refl (sym (no_answer m p AtRecord)) turns.failed turns.still turns.cause
        (λ h c on. subst (λ (l : List (List KvRecord)). (rs : List KvRecord) × (kv_has c ≡ Ok rs) × Contains l rs) (sym closes_hold) (one_of_two (kv_has c) _ _ (turns.images h c on))) refl refl

    -- the same mark by a Hand
    module _ (there : has_slot m p ≡ true) (unmarked : has_marked m p ≡ false) where
      handing : work_of m p Hand ≡ Marks
      handing = hand_work m p false false true (has_draft m p) (next_slot m.slots) up unmarked there refl refl

      pub hand_done : (u : Unit {0}) → TurnsSlot honest image faults old new k (Some (with_mark true f.r)) m.drafts old.earlier (Ok u) → Gives honest image faults old p Hand (Some (Owner Committed)) new
      hand_done u turns =
          one_done new Hand _ Marks k (Some (with_mark true f.r)) m.drafts u false up handing refl (sym (hand_answers m p Smooth true (has_draft m p) false true there refl unmarked (ap is_work handing))) turns marks_hold
          (on_first p marked_record m.slots k f) (ap not there) refl

      pub hand_broken : (fl : Failed) → TurnsSlot honest image faults old new k (Some (with_mark true f.r)) m.drafts old.earlier (Err fl) → Gives honest image faults old p Hand (Some (Owner DoubtOutcome)) new
      hand_broken fl turns =
          one_broken new Hand _ AtMark Marks m.drafts false up handing refl refl (sym (hand_answers m p AtMark true (has_draft m p) false true there refl unmarked (ap is_work handing))) turns.failed turns.still turns.cause
          (λ h c on. subst (λ (l : List (List KvRecord)). (rs : List KvRecord) × (kv_has c ≡ Ok rs) × Contains l rs) (sym marks_hold) (one_of_two (kv_has c) _ _ (turns.images h c on))) (ap not there) refl

  -- nothing to commit or to roll back
  pub commit_nothing : has_unmarked m p ≡ false → Gives honest image faults old p Commit (Some Ack) old
  commit_nothing no_one =
      let none : work_of m p Commit ≡ Nothing = commit_work m p m.stopped false refl no_one ∙ stays m.stopped true Marks refl in
      idle honest seen image size faults old p Commit _ false (without_draft p m.drafts) kept none (sym (commit_answers m p Smooth false m.stopped no_one refl)) refl refl

  pub commit_stopped : has_unmarked m p ≡ true → m.stopped ≡ true → Gives honest image faults old p Commit None old
  commit_stopped there stopped =
      idle honest seen image size faults old p Commit _ false (without_draft p m.drafts) kept (commit_work m p true true stopped there) (sym (commit_answers m p Smooth true true there stopped)) refl refl

  pub rollback_idle : (st u : Bool) → m.stopped ≡ st → has_unmarked m p ≡ u → (st || not u) ≡ true → Gives honest image faults old p Rollback None (with_drafts (without_draft p m.drafts) old)
  rollback_idle st u a b stop =
      idle honest seen image size faults old p Rollback _ true (without_draft p m.drafts) kept (rollback_work m p st u a b ∙ ap (λ (x : Bool). unless x Closes) stop) (sym (no_answer m p Smooth)) refl refl

  -- ---- a record, and a record with its mark

  module _ (none_slot : has_slot m p ≡ false) (none_marked : has_marked m p ≡ false) (i : ℕ) (d : KvDraft) (f : IsDraftAt p m.drafts i d) (k : ℕ) (up : m.stopped ≡ false) (next : next_slot m.slots ≡ Some k) where
    there_draft : has_draft m p ≡ true
    there_draft = (find_draft p m.drafts i d f).1

    preparing : work_of m p Prepare ≡ Writes k
    preparing = prepare_work m p false false true (Some k) up none_slot there_draft next

    handing_over : work_of m p Hand ≡ WritesAndMarks k
    handing_over = hand_work m p false false false true (Some k) up none_marked none_slot there_draft next

    pub prepared : (new : KvState D) (u : Unit {0}) → TurnsSlot honest image faults old new k (Some (record_with false d)) (remove m.drafts i) (min old.earlier k) (Ok u) → Gives honest image faults old p Prepare (Some (VoteReply Yes)) new
    prepared new u turns =
        let same : record_with false d ≡ fresh_record m p false = fresh_is m p i d f in
        one_done new Prepare _ (Writes k) k (Some (fresh_record m p false)) (remove m.drafts i) u true up preparing refl
        (sym (prepare_answers m p Smooth false true false false true none_slot there_draft none_marked up (ap is_work preparing)))
        (subst (λ (q : KvRecord). TurnsSlot honest image faults old new k (Some q) (remove m.drafts i) (min old.earlier k) (Ok u)) same turns) refl refl (ap not none_slot) (find_draft p m.drafts i d f).2

    pub not_prepared : (mid : KvState D) (fl : Failed) → TurnsSlot honest image faults old mid k (Some (record_with false d)) (remove m.drafts i) (min old.earlier k) (Err fl)
        → Gives honest image faults old p Prepare (Some (VoteReply No)) (with_drafts (without_draft p mid.memory.drafts) mid)
    not_prepared mid fl turns =
        let same : record_with false d ≡ fresh_record m p false = fresh_is m p i d f in
        one_broken (with_drafts (without_draft p mid.memory.drafts) mid) Prepare _ AtRecord (Writes k) (without_draft p m.drafts) true up preparing refl refl
        (sym (prepare_answers m p AtRecord false true false false true none_slot there_draft none_marked up (ap is_work preparing)))
        (λ j. record { slots = (turns.failed j).slots; drafts = without_draft p (turns.failed j).drafts; stopped = (turns.failed j).stopped }) turns.still turns.cause
        (λ h c on. one_of_two (kv_has c) _ _ (subst (λ (q : KvRecord). (kv_has c ≡ Ok (open_records m.slots)) ⊎ (kv_has c ≡ Ok (open_records (set m.slots k (Some q))))) same (turns.images h c on)))
        (ap not none_slot) refl

    -- of the three that it may be, the first or the second; the second or the third
    early : (x : Result (List KvRecord) ℕ) (a b c : List KvRecord) → (x ≡ Ok a) ⊎ (x ≡ Ok b) → (rs : List KvRecord) × (x ≡ Ok rs) × Contains (a ∷ b ∷ c ∷ []) rs
    early x a b c (inl is) = (a, is, (0, omega arith, refl))
    early x a b c (inr is) = (b, is, (1, omega arith, refl))

    late : (x : Result (List KvRecord) ℕ) (a b c : List KvRecord) → (x ≡ Ok b) ⊎ (x ≡ Ok c) → (rs : List KvRecord) × (x ≡ Ok rs) × Contains (a ∷ b ∷ c ∷ []) rs
    late x a b c (inl is) = (b, is, (1, omega arith, refl))
    late x a b c (inr is) = (c, is, (2, omega arith, refl))

    pub not_handed : (new : KvState D) (fl : Failed) → TurnsSlot honest image faults old new k (Some (record_with false d)) (remove m.drafts i) (min old.earlier k) (Err fl) → Gives honest image faults old p Hand (Some (Owner DoubtOutcome)) new
    not_handed new fl turns =
        let same : record_with false d ≡ fresh_record m p false = fresh_is m p i d f in
        one_broken new Hand _ AtRecord (WritesAndMarks k) m.drafts false up handing_over refl refl (sym (hand_answers m p AtRecord false true false true none_slot there_draft none_marked (ap is_work handing_over))) turns.failed turns.still turns.cause
        (λ h c on. early (kv_has c) _ _ _ (subst (λ (q : KvRecord). (kv_has c ≡ Ok (open_records m.slots)) ⊎ (kv_has c ≡ Ok (open_records (set m.slots k (Some q))))) same (turns.images h c on)))
        (ap (λ (w : Work). not (is_work w)) handing_over) refl

    module _ (mid : KvState D) (u : Unit {0}) (recorded : TurnsSlot honest image faults old mid k (Some (record_with false d)) (remove m.drafts i) (min old.earlier k) (Ok u)) where
      -- between the record and its mark
      between : mid.memory ≡ record { slots = set m.slots k (Some (fresh_record m p false)); drafts = remove m.drafts i; stopped = false }
      between = recorded.done ∙ ap (λ (q : KvRecord). record { slots = set m.slots k (Some q); drafts = remove m.drafts i; stopped = false }) (fresh_is m p i d f)

      marked_slots : set mid.memory.slots k (Some (fresh_record m p true)) ≡ set m.slots k (Some (fresh_record m p true))
      marked_slots = ap (λ (y : KvMemory). set y.slots k (Some (fresh_record m p true))) between ∙ set-set m.slots k (Some (fresh_record m p false)) (Some (fresh_record m p true))

      either_late : (c : List ℕ) → (kv_has c ≡ Ok (open_records mid.memory.slots)) ⊎ (kv_has c ≡ Ok (open_records (set mid.memory.slots k (Some (fresh_record m p true)))))
          → (rs : List KvRecord) × (kv_has c ≡ Ok rs) × Contains (may_hold m p (WritesAndMarks k)) rs
      either_late c (inl is) = late (kv_has c) _ _ _ (inl (is ∙ ap (λ (y : KvMemory). Ok (open_records y.slots)) between))
      either_late c (inr is) = late (kv_has c) _ _ _ (inr (is ∙ ap (λ (ss : Slots). Ok (open_records ss)) marked_slots))

      pub handed : (new : KvState D) (v : Unit {0}) → TurnsSlot honest image faults mid new k (Some (fresh_record m p true)) mid.memory.drafts mid.earlier (Ok v) → Gives honest image faults old p Hand (Some (Owner Committed)) new
      handed new v turns =
          let whole : new.memory ≡ record { slots = set m.slots k (Some (fresh_record m p true)); drafts = remove m.drafts i; stopped = false } =
          turns.done ∙ (λ j. record { slots = marked_slots j; drafts = (between j).drafts; stopped = false }) in
          worked honest image faults old new p Hand _ Smooth (WritesAndMarks k) up handing_over refl (sym (hand_answers m p Smooth false true false true none_slot there_draft none_marked (ap is_work handing_over)))
          (whole ∙ sym (after_by m p Hand Smooth (WritesAndMarks k) true (remove m.drafts i) handing_over (ap not none_slot) (find_draft p m.drafts i d f).2
          ∙ ap (λ (s : Bool). record { slots = set m.slots k (Some (fresh_record m p true)); drafts = remove m.drafts i; stopped = s || false }) up))
          (turns.since ∙ recorded.since) (λ rough. absurd cc) (λ _. turns.smooth ∙ recorded.smooth) (λ h c on. either_late c (turns.images h c on))
          (λ h _ c on. turns.durable h c on ∙ ap (λ (y : KvMemory). Ok (open_records y.slots)) (sym turns.done))

      pub half_handed : (new : KvState D) (fl : Failed) → TurnsSlot honest image faults mid new k (Some (fresh_record m p true)) mid.memory.drafts mid.earlier (Err fl) → Gives honest image faults old p Hand (Some (Owner DoubtOutcome)) new
      half_handed new fl turns =
          one_broken new Hand _ AtMark (WritesAndMarks k) (remove m.drafts i) true up handing_over refl refl (sym (hand_answers m p AtMark false true false true none_slot there_draft none_marked (ap is_work handing_over)))
          (turns.failed ∙ (λ j. record { slots = (between j).slots; drafts = (between j).drafts; stopped = true })) (turns.still ∙ recorded.since) (subst (λ (n : ℕ). Rose n (faults new.disk)) recorded.smooth turns.cause)
          (λ h c on. either_late c (turns.images h c on)) (ap not none_slot) (find_draft p m.drafts i d f).2

  -- a note that nothing is done at
  pub still : (n : Note) (a : Option Reply) → work_of m p n ≡ Nothing → a ≡ answer_of m p n Smooth → drops m p n Smooth ≡ false → Gives honest image faults old p n a old
  still n a none answer dropped = idle honest seen image size faults old p n a false (without_draft p m.drafts) kept none answer dropped refl
