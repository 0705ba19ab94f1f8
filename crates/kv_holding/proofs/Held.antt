-- The law of a store as a holder of prepared work.
use Rattle.kv_resource.proofs.Giving.{commit_work}
use Rattle.std.specs.Prelude.{Contains, IsTrue, map, find}
use Rattle.std.proofs.Common.{◌≡◌, ◌⊎◌, inl, inr, ℕ, Bool, true, false, not, ◌&&◌, ◌||◌, cond, List, [], length, Option, Some, refl, sym, ap, subst, ◌∙◌, set}
use Rattle.std.proofs.lemmas.Bool.{cases_Bool}
use Rattle.dtx_values.specs.declared.note.Note.{Note}
use Rattle.dtx_values.specs.declared.note.Note.TheVariants.{Prepare, Commit, Rollback}
use Rattle.dtx_values.specs.declared.note.Reply.{Reply}
use Rattle.dtx_values.specs.declared.note.Reply.TheVariants.{Vote as VoteReply, Ack}
use Rattle.dtx_values.specs.declared.words.Vote.TheVariants.{Yes}
use Rattle.dtx_model.specs.Outcome.{is_empty}
use Rattle.dtx_model.specs.Words.{has}
use Rattle.resource_managers.specs.Holding.{Holding}
use Rattle.kv_resource.specs.Bytes.{KvRecord}
use Rattle.kv_resource.specs.Held.{record_held}
use Rattle.kv_resource.specs.Images.{AllHold, Gives, may_hold}
use Rattle.kv_resource.specs.Notes.{Marks, Nothing, Writes, fresh_record, is_smooth, is_work, slots_after, work_of, Work, on_unmarked, marked_record}
use Rattle.kv_resource.specs.Store.{after_put, KvMemory, KvState, Pair, has_marked, has_slot, has_unmarked, open_records, is_record_of, is_marked_record}
use Rattle.all_or_nothing.specs.Marks.{Becomes, drops, fits_if, is_single, is_unmarked, marks_in, may_become}
use Rattle.kv_holding.specs.Holding.{IsAsStored, KvHolds, KvKeeps, KvLeaves, KvSound, is_pair, memory_held}
use Rattle.kv_holding.proofs.Answering.{acked_by, ack_to, answer_fits, done_idle, drop_by, marked_idle, there_idle, vote_to, voted_yes}
use Rattle.kv_holding.proofs.Marks.{all_lead, leads, led_marks, marked_now, more_held, step_becomes, step_keeps, step_leads, Stays}
use Rattle.kv_holding.proofs.Records.{found_lead, found_unmarked, marks_at, own_marked, pair_is, own_pair, own_more, in_next}
use Rattle.kv_holding.proofs.Working.{IsWorked, as_many, due, has_some, image_worked, marks_now, memory_worked, prepare_writes, rough_leads, slots_then, some_marks, stopped_then, stopped_works, IsDue}

-- ---- a store whose images hold what it has in memory

-- then a crash may leave nothing else
as_memory : {D : Type 0} (honest : Bool) (image : D → List ℕ → Type 0) (s : KvState D) → (IsTrue honest → AllHold (image s.disk) (open_records s.memory.slots)) → (hs : List Holding) → KvLeaves honest image s hs → hs ≡ memory_held s.memory
as_memory honest image s images hs (inl l) =
    let held = images l.honestly l.bytes l.left in
    let read = l.read in
    let same : l.records ≡ open_records s.memory.slots = cc in
    l.found ∙ ap (map (record_held false)) same
as_memory honest image s images hs (inr h) = h.1

-- what it has as marked is so
memory_sound : {D : Type 0} (honest : Bool) (image : D → List ℕ → Type 0) (s : KvState D) → (IsTrue honest → AllHold (image s.disk) (open_records s.memory.slots))
    → (q : Pair) (hs : List Holding) → KvLeaves honest image s hs → has_marked s.memory q ≡ true → (is_empty (marks_in q.0 q.1 hs) ≡ false) × (is_unmarked (marks_in q.0 q.1 hs) ≡ false)
memory_sound honest image s images q hs l e =
    let is = as_memory honest image s images hs l in
    let led = led_marks (marks_now s.memory q) (sym (found_lead q (open_records s.memory.slots)) ∙ e) in
    (ap (λ (x : List Holding). is_empty (marks_in q.0 q.1 x)) is ∙ led.0, ap (λ (x : List Holding). is_unmarked (marks_in q.0 q.1 x)) is ∙ led.1)

pub as_stored : {D : Type 0} (honest : Bool) (image : D → List ℕ → Type 0) (s : KvState D) → IsAsStored honest image s → KvSound honest image s
as_stored honest image s o = record { many = o.many; marked = memory_sound honest image s o.images }

-- a put changes neither its slots nor its disk
pub put_sound : {D : Type 0} (honest : Bool) (image : D → List ℕ → Type 0) (s : KvState D) (p : Pair) (k v : ℕ) → KvSound honest image s → KvSound honest image (after_put p k v s)
put_sound honest image s p k v sound = record { many = sound.many; marked = λ q hs l e. sound.marked q hs (before hs l) e }
  where
    before : (hs : List Holding) → KvLeaves honest image (after_put p k v s) hs → KvLeaves honest image s hs
    before hs (inl l) = inl (record { honestly = l.honestly; bytes = l.bytes; left = l.left; records = l.records; read = l.read; found = l.found })
    before hs (inr h) = inr h

-- ---- a store after a note

or_both : (a b : Bool) → a ≡ false → b ≡ false → a || b ≡ false
or_both false b p q = q
or_both true b p q = p

module _ {D : Type 0} (honest : Bool) (image : D → List ℕ → Type 0) (faults : D → ℕ) (old new : KvState D) (p : Pair) (n : Note) (a : Option Reply) (sound : KvSound honest image old) (g : Gives honest image faults old p n a new) where
  abbrev m : KvMemory
  m = old.memory

  -- the slots after it
  slots_new : new.memory.slots ≡ slots_after m p (work_of m p n) g.fate
  slots_new = ap (λ (x : KvMemory). x.slots) g.kept ∙ slots_then m p n g.fate

  -- whether it is stopped
  stopped_new : new.memory.stopped ≡ m.stopped || (is_work (work_of m p n) && not (is_smooth g.fate))
  stopped_new = ap (λ (x : KvMemory). x.stopped) g.kept ∙ stopped_then m p n g.fate

  many_new : length new.memory.slots ≡ 1024
  many_new = ap (λ (x : List (Option KvRecord)). length x) slots_new ∙ (as_many m p (work_of m p n) g.fate ∙ sound.many)

  -- without work its slots stay
  slots_idle : work_of m p n ≡ Nothing → new.memory.slots ≡ m.slots
  slots_idle none = slots_new ∙ ap (λ (w : Work). slots_after m p w g.fate) none

  -- ---- of a stopped store nothing changes

  module _ (stop : m.stopped ≡ true) where
    none_due : work_of m p n ≡ Nothing
    none_due = stopped_works m p n stop

    slots_stopped : new.memory.slots ≡ m.slots
    slots_stopped = slots_idle none_due

    same_disk : new.disk ≡ old.disk
    same_disk = g.idle (ap is_work none_due)

    still : new.memory.stopped ≡ true
    still = stopped_new ∙ ap (λ (b : Bool). b || (is_work (work_of m p n) && not (is_smooth g.fate))) stop

    left_before : (hs : List Holding) → KvLeaves honest image new hs → KvLeaves honest image old hs
    left_before hs (inl l) = inl (record { honestly = l.honestly; bytes = l.bytes; left = subst (λ (d : D). image d l.bytes) same_disk l.left; records = l.records; read = l.read; found = l.found })
    left_before hs (inr h) = absurd (let up = h.0 in let s = still in let both : true ≡ false = sym s ∙ up in cc)

    kept_stopped : (q : Pair) → KvKeeps honest image old q → KvKeeps honest image new q
    kept_stopped q k = (ap (λ (x : List (Option KvRecord)). has (is_record_of q) (open_records x)) slots_stopped ∙ k.0, λ hs l. k.1 hs (left_before hs l))

    marked_before : (q : Pair) → has_marked new.memory q ≡ true → has_marked m q ≡ true
    marked_before q e = ap (λ (x : List (Option KvRecord)). is_marked_record (find (is_record_of q) (open_records x))) (sym slots_stopped) ∙ e

  -- ---- of another, all that is left came of its memory by the work

  module _ (up : m.stopped ≡ false) where
    new_worked : IsWorked n p (work_of m p n) (open_records m.slots) (open_records new.memory.slots)
    new_worked = subst (λ (x : List (Option KvRecord)). IsWorked n p (work_of m p n) (open_records m.slots) (open_records x)) (sym slots_new) (memory_worked m p n g.fate sound.many)

    left_worked : (hs : List Holding) → KvLeaves honest image new hs → (rs : List KvRecord) × (hs ≡ map (record_held false) rs) × IsWorked n p (work_of m p n) (open_records m.slots) rs
    left_worked hs (inl l) =
        let i = (g.leaves l.honestly).images up l.bytes l.left in
        let read = l.read in
        let held = i.1 in
        let same : i.0 ≡ l.records = cc in
        (l.records, l.found, image_worked m p n sound.many l.records (subst (λ (x : List KvRecord). Contains (may_hold m p (work_of m p n)) x) same i.2))
    left_worked hs (inr h) = (open_records new.memory.slots, h.1, new_worked)

    -- what the old memory held a crash might have left
    memory_left : KvLeaves honest image old (memory_held m)
    memory_left = inr (up, refl)

    -- a pair that is held after the work, whether it is that of the note or not
    holds_on : (q : Pair) (rs : List KvRecord) → IsWorked n p (work_of m p n) (open_records m.slots) rs → is_empty (marks_now m q) ≡ false → (is_empty (marks_at q rs) ≡ false) ⊎ ((q ≡ p) × (n ≡ Rollback))
    holds_on q rs w some = elim (cases_Bool (is_pair p q.0 q.1)) [
      | inr other ↦ inl (ap (λ (l : List Bool). is_empty l) (w.others q other) ∙ some)
      | inl own ↦
          let is : q ≡ p = pair_is p q own in
          elim (cases_Bool (drops n)) [
            | inl drop ↦ inr (is, drop_by n drop)
            | inr keep ↦ inl (ap (λ (x : Pair). is_empty (marks_at x rs)) is ∙ (ap (λ (l : List Bool). is_empty l) w.own ∙ step_keeps n w.step (marks_now m p) w.fits keep (ap (λ (x : Pair). is_empty (marks_now m x)) (sym is) ∙ some)))
          ]
    ]

    leads_on : (q : Pair) (rs : List KvRecord) → IsWorked n p (work_of m p n) (open_records m.slots) rs → leads (marks_now m q) ≡ true → leads (marks_at q rs) ≡ true
    leads_on q rs w e = elim (cases_Bool (is_pair p q.0 q.1)) [
      | inr other ↦ ap leads (w.others q other) ∙ e
      | inl own ↦
          let is : q ≡ p = pair_is p q own in
          ap (λ (x : Pair). leads (marks_at x rs)) is ∙ (ap leads w.own ∙ step_leads w.step (marks_now m p) (ap (λ (x : Pair). leads (marks_now m x)) (sym is) ∙ e))
    ]

    -- what was kept stays so, unless the note dropped it
    kept_up : (q : Pair) → ((q ≡ p) × (n ≡ Rollback) → ⊥) → KvKeeps honest image old q → KvKeeps honest image new q
    kept_up q not_dropped k =
        let some : is_empty (marks_now m q) ≡ false = some_marks m q k.0 in
        (has_some new.memory q (sure (open_records new.memory.slots) new_worked some), λ hs l. let w = left_worked hs l in ap (λ (x : List Holding). is_empty (marks_in q.0 q.1 x)) w.1 ∙ sure w.0 w.2 some)
      where
        sure : (rs : List KvRecord) → IsWorked n p (work_of m p n) (open_records m.slots) rs → is_empty (marks_now m q) ≡ false → is_empty (marks_at q rs) ≡ false
        sure rs w some = elim (holds_on q rs w some) [ inl is ↦ is | inr gone ↦ absurd (not_dropped gone) ]

    -- ---- where no call failed its images hold what it has in memory

    module _ (on : new.memory.stopped ≡ false) where
      images_new : IsTrue honest → AllHold (image new.disk) (open_records new.memory.slots)
      images_new h = (g.leaves h).durable on

      keeps_now : (q : Pair) → is_empty (marks_now new.memory q) ≡ false → KvKeeps honest image new q
      keeps_now q some = (has_some new.memory q some, λ hs l. ap (λ (x : List Holding). is_empty (marks_in q.0 q.1 x)) (as_memory honest image new images_new hs l) ∙ some)

      sound_on : KvSound honest image new
      sound_on = record { many = many_new; marked = memory_sound honest image new images_new }

    smooth_up : is_smooth g.fate ≡ true → new.memory.stopped ≡ false
    smooth_up smooth = stopped_new ∙ or_both m.stopped (is_work (work_of m p n) && not (is_smooth g.fate)) up (ap (λ (b : Bool). is_work (work_of m p n) && not b) smooth ∙ never (is_work (work_of m p n)))
      where
        never : (b : Bool) → b && false ≡ false
        never true = refl
        never false = refl

    idle_up : is_work (work_of m p n) ≡ false → new.memory.stopped ≡ false
    idle_up none = stopped_new ∙ or_both m.stopped (is_work (work_of m p n) && not (is_smooth g.fate)) up (ap (λ (b : Bool). b && not (is_smooth g.fate)) none)

    sound_up : KvSound honest image new
    sound_up = elim (cases_Bool (is_smooth g.fate)) [
      | inl smooth ↦ sound_on (smooth_up smooth)
      | inr rough ↦ record {
        many = many_new;
        marked = λ q hs l e.
            let w = left_worked hs l in
            let now : leads (marks_at q (open_records (slots_after m p (work_of m p n) g.fate))) ≡ true = ap (λ (x : List (Option KvRecord)). leads (marks_at q (open_records x))) (sym slots_new) ∙ (sym (found_lead q (open_records new.memory.slots)) ∙ e) in
            let led = led_marks (marks_at q w.0) (leads_on q w.0 w.2 (rough_leads m p n g.fate q sound.many rough now)) in
            (ap (λ (x : List Holding). is_empty (marks_in q.0 q.1 x)) w.1 ∙ led.0, ap (λ (x : List Holding). is_unmarked (marks_in q.0 q.1 x)) w.1 ∙ led.1);
      }
    ]

  -- ---- the parts of the law

  fitting : fits_if a n ≡ true
  fitting = ap (λ (x : Option Reply). fits_if x n) g.answer ∙ answer_fits m p n g.fate

  abbrev Turns : List Holding → Type 0
  Turns hs = (gs : List Holding) × KvLeaves honest image old gs × (is_single (marks_in p.0 p.1 gs) ≡ true → Becomes n a (marks_in p.0 p.1 gs) (marks_in p.0 p.1 hs)) × ((k f : ℕ) → is_pair p k f ≡ false → marks_in k f hs ≡ marks_in k f gs)

  turns_by : (hs : List Holding) → KvLeaves honest image new hs → (b : Bool) → m.stopped ≡ b → Turns hs
  turns_by hs l true stop = (hs, left_before stop hs l, λ one. record { turned = step_becomes n Stays (marks_in p.0 p.1 hs) refl one; done = λ _. refl }, λ k f other. refl)
  turns_by hs l false up =
      let w = left_worked up hs l in
      let same : marks_in p.0 p.1 hs ≡ marks_at p w.0 = ap (λ (x : List Holding). marks_in p.0 p.1 x) w.1 in
      let step = w.2.step in (
        memory_held m,
        memory_left up,
        λ one. record {
          turned = ap (λ (x : List Bool). may_become n (marks_now m p) x) (same ∙ w.2.own) ∙ step_becomes n step (marks_now m p) w.2.fits one;
          done = λ e. same ∙ w.2.idle (done_idle m p n g.fate (sym g.answer ∙ e));
        },
        λ k f other. ap (λ (x : List Holding). marks_in k f x) w.1 ∙ w.2.others (k, f) other,
      )

  stays : (q : Pair) → KvKeeps honest image old q → KvKeeps honest image new q ⊎ ((q ≡ p) × (n ≡ Rollback))
  stays q k = elim (cases_Bool m.stopped) [
    | inl stop ↦ inl (kept_stopped stop q k)
    | inr up ↦ elim (cases_Bool (is_pair p q.0 q.1)) [
      | inr other ↦ inl (kept_up up q (λ gone. let same : is_pair p q.0 q.1 ≡ true = ap (λ (x : Pair). is_pair p x.0 x.1) gone.0 ∙ own_pair p false [] in let both : true ≡ false = sym same ∙ other in cc) k)
      | inl own ↦
          let is : q ≡ p = pair_is p q own in
          elim (cases_Bool (drops n)) [
            | inl drop ↦ inr (is, drop_by n drop)
            | inr keep ↦ inl (kept_up up q (λ gone. let on : drops n ≡ true = ap drops gone.1 in let both : true ≡ false = sym on ∙ keep in cc) k)
          ]
    ]
  ]

  sound_new : KvSound honest image new
  sound_new = elim (cases_Bool m.stopped) [
    | inl stop ↦ record { many = many_new; marked = λ q hs l e. sound.marked q hs (left_before stop hs l) (marked_before stop q e) }
    | inr up ↦ sound_up up
  ]

-- what votes yes keeps
yes_keeps : {D : Type 0} (honest : Bool) (image : D → List ℕ → Type 0) (faults : D → ℕ) (old new : KvState D) (p : Pair) (a : Option Reply) → KvSound honest image old → Gives honest image faults old p Prepare a new
    → a ≡ Some (VoteReply Yes) → KvKeeps honest image new p
yes_keeps honest image faults old new p a sound g e =
    let m = old.memory in
    elim (voted_yes m p g.fate (sym g.answer ∙ e)) [
      | inl there ↦ kept_there there.0 there.1
      | inr (inl marked) ↦ elim (cases_Bool m.stopped) [
        | inl stop ↦ (
          ap (λ (x : List (Option KvRecord)). has (is_record_of p) (open_records x)) (slots_stopped honest image faults old new p Prepare a sound g stop) ∙ slot_of_marked marked,
          λ hs l. (sound.marked p hs (left_before honest image faults old new p Prepare a sound g stop hs l) marked).0,
        )
        | inr up ↦ kept_there up (slot_of_marked marked)
      ]
      | inr (inr written) ↦ elim (cases_Bool m.stopped) [
        | inl stop ↦ absurd (let none = ap is_work (stopped_works m p Prepare stop) in let both : true ≡ false = sym written.0 ∙ none in cc)
        | inr up ↦
            let k = prepare_writes m p written.0 in
            let on = smooth_up honest image faults old new p Prepare a sound g up written.1 in
            keeps_now honest image faults old new p Prepare a sound g up on p (written_now k.0 k.1 written.1)
      ]
    ]
  where
    slot_of_marked : has_marked old.memory p ≡ true → has_slot old.memory p ≡ true
    slot_of_marked marked = has_some old.memory p (led_marks (marks_now old.memory p) (sym (found_lead p (open_records old.memory.slots)) ∙ marked)).0

    kept_there : old.memory.stopped ≡ false → has_slot old.memory p ≡ true → KvKeeps honest image new p
    kept_there up there =
        let none = there_idle old.memory p there in
        let on = idle_up honest image faults old new p Prepare a sound g up none in
        let w = new_worked honest image faults old new p Prepare a sound g up in
        keeps_now honest image faults old new p Prepare a sound g up on p (ap (λ (l : List Bool). is_empty l) (w.idle none) ∙ some_marks old.memory p there)

    written_now : (k : ℕ) → work_of old.memory p Prepare ≡ Writes k → is_smooth g.fate ≡ true → is_empty (marks_now new.memory p) ≡ false
    written_now k work smooth =
        let d : IsDue old.memory p Prepare (Writes k) = subst (IsDue old.memory p Prepare) work (due old.memory p Prepare) in
        let r = fresh_record old.memory p false in
        let slots : new.memory.slots ≡ set old.memory.slots k (Some r) = slots_new honest image faults old new p Prepare a sound g ∙ (ap (λ (w : Work). slots_after old.memory p w g.fate) work ∙ ap (λ (b : Bool). cond b (set old.memory.slots k (Some r)) old.memory.slots) smooth) in
        let last = in_next old.memory.slots k r sound.many d.2 in
        ap (λ (x : List (Option KvRecord)). is_empty (marks_at p (open_records x))) slots ∙ (ap (λ (x : List KvRecord). is_empty (marks_at p x)) last ∙ (ap (λ (l : List Bool). is_empty l) (own_more p (open_records old.memory.slots) r (own_pair p false r.writes)) ∙ more_held (marks_now old.memory p) false))

-- what is kept isn't unmarked once it is acknowledged
ack_marked : {D : Type 0} (honest : Bool) (image : D → List ℕ → Type 0) (faults : D → ℕ) (old new : KvState D) (p : Pair) (a : Option Reply) → KvSound honest image old → Gives honest image faults old p Commit a new
    → a ≡ Some Ack → KvKeeps honest image old p → (hs : List Holding) → KvLeaves honest image new hs → is_unmarked (marks_in p.0 p.1 hs) ≡ false
ack_marked honest image faults old new p a sound g e k hs l =
    let m = old.memory in
    elim (acked_by m p g.fate (sym g.answer ∙ e)) [
      | inl none ↦
          let all : leads (marks_now m p) ≡ true = all_lead (marks_now m p) (some_marks m p k.0) (sym (found_unmarked p (open_records m.slots)) ∙ none) in
          elim (cases_Bool m.stopped) [
            | inl stop ↦ (sound.marked p hs (left_before honest image faults old new p Commit a sound g stop hs l) (found_lead p (open_records m.slots) ∙ all)).1
            | inr up ↦
                let w = left_worked honest image faults old new p Commit a sound g up hs l in
                ap (λ (x : List Holding). is_unmarked (marks_in p.0 p.1 x)) w.1 ∙ (ap (λ (x : List Bool). is_unmarked x) (w.2.idle (marked_idle m p none)) ∙ (led_marks (marks_now m p) all).1)
          ]
      | inr now ↦
          let up = now.1 in
          let on = smooth_up honest image faults old new p Commit a sound g up now.2 in
          let is = as_memory honest image new (images_new honest image faults old new p Commit a sound g up on) hs l in
          ap (λ (x : List Holding). is_unmarked (marks_in p.0 p.1 x)) is ∙ marked_here now.0 up now.2
    ]
  where
    marked_here : has_unmarked old.memory p ≡ true → old.memory.stopped ≡ false → is_smooth g.fate ≡ true → is_unmarked (marks_now new.memory p) ≡ false
    marked_here there up smooth =
        let work : work_of old.memory p Commit ≡ Marks = commit_work old.memory p false true up there in
        let slots : new.memory.slots ≡ on_unmarked p marked_record old.memory.slots = slots_new honest image faults old new p Commit a sound g ∙ (ap (λ (w : Work). slots_after old.memory p w g.fate) work ∙ ap (λ (b : Bool). cond b (on_unmarked p marked_record old.memory.slots) old.memory.slots) smooth) in
        ap (λ (x : List (Option KvRecord)). is_unmarked (marks_at p (open_records x))) slots ∙ (ap (λ (x : List Bool). is_unmarked x) (own_marked p old.memory.slots) ∙ marked_now (marks_now old.memory p) (sym (found_unmarked p (open_records old.memory.slots)) ∙ there))

-- the law
pub holds : {D : Type 0} (honest : Bool) (image : D → List ℕ → Type 0) (faults : D → ℕ) (old new : KvState D) (p : Pair) (n : Note) (a : Option Reply) → KvSound honest image old → Gives honest image faults old p n a new → KvHolds honest image old p n a new
holds honest image faults old new p n a sound g = record {
  fitting = fitting honest image faults old new p n a sound g;
  turns = λ hs l. turns_by honest image faults old new p n a sound g hs l old.memory.stopped refl;
  yes = λ e.
      let is : n ≡ Prepare = vote_to n Yes (ap (λ (x : Option Reply). fits_if x n) (sym e) ∙ fitting honest image faults old new p n a sound g) in
      yes_keeps honest image faults old new p a sound (subst (λ (x : Note). Gives honest image faults old p x a new) is g) e;
  stays = stays honest image faults old new p n a sound g;
  acked = λ e k hs l.
      let is : n ≡ Commit = ack_to n (ap (λ (x : Option Reply). fits_if x n) (sym e) ∙ fitting honest image faults old new p n a sound g) in
      ack_marked honest image faults old new p a sound (subst (λ (x : Note). Gives honest image faults old p x a new) is g) e k hs l;
  sound = sound_new honest image faults old new p n a sound g;
}
