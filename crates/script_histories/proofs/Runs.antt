-- Runs in which nothing is promoted, by what the local side has seen; and a run in which no promotion begins is one.
use Rattle.std.proofs.Common.{◌≡◌, ◌⊎◌, inl, inr, ℕ, true, false, List, [], ◌∷◌, ap, sym, ◌∙◌}
use Rattle.std.specs.Prelude.{not}
use Rattle.dtx_values.specs.declared.call.Call.{Call}
use Rattle.dtx_values.specs.declared.entry.Entry.{Entry}
use Rattle.dtx_values.specs.declared.note.Note.{Note}
use Rattle.dtx_values.specs.declared.number.ActorNo.{ActorNo}
use Rattle.dtx_model.specs.Words.{has, onto}
use Rattle.dtx_model.specs.Entries.{is_call}
use Rattle.dtx_model.specs.Observed.{Observed, observe}
use Rattle.dtx_model.specs.Replies.{due_of, fits}
use Rattle.dtx_model.specs.World.{World, core, has_left}
use Rattle.dtx_model.specs.Steps.{Step, Calls, Replies, Acts, Coordinates, Delivers, Stops, Restarts, after, block_at}
use Rattle.dtx_model.specs.Caused.{FreelyCaused, IsIn, IsOwnRun, MayCome, Ran, is_begin_sent, is_unpromoted, may_coordinate}
use Rattle.dtx_model.proofs.Bools.{and_left, not_both, not_true, or_first, or_second}
use Rattle.dtx_model.proofs.Narrow.{block}
use Rattle.dtx_model.proofs.NarrowReplies.{IsDue, due-narrow}
use Rattle.dtx_model.proofs.Local.{IsNarrow, free-local, step-narrow, may_nothing}
use Rattle.dtx_model.proofs.Reading.{has-onto}
use Rattle.dtx_model.proofs.Unpromoted.{are_local, begin-local, left-local, observe-local}
use Rattle.dtx_model.specs.Promotes.{is_promoting}

-- the step may come after this history: a call where it may be entered and its line hasn't come yet, and a reply where one is due and it fits
abbrev pub MayComeLocal : (ℕ → ActorNo → Call → Type 0) → List Entry → Step → Type 0
MayComeLocal G h (Calls n a c m) = G n a c × (has (is_call n) h ≡ false)
MayComeLocal G h (Replies e r) = (n : Note) × IsDue (observe h) e.value n × (fits r n ≡ true)
MayComeLocal G h Acts = Unit {0}
MayComeLocal G h _ = ⊥

-- the history is what these steps made, the newest step first
abbrev pub RanLocal : (ℕ → ActorNo → Call → Type 0) → List Step → List Entry → Type 0
RanLocal G [] h = h ≡ []
RanLocal G (m ∷ ms) h = (past : List Entry) × RanLocal G ms past × MayComeLocal G past m × (h ≡ onto past (block (observe past) m))

-- the history is what some steps made
abbrev pub IsLocalRun : (ℕ → ActorNo → Call → Type 0) → List Entry → Type 0
IsLocalRun G h = (steps : List Step) × RanLocal G steps h

-- a step that may come where nothing is promoted may come by what the local side has seen
pub may_come : (G : ℕ → ActorNo → Call → Type 0) (t : ℕ) (w : World) (m : Step) → are_local w.past ≡ true → MayCome G t w m → MayComeLocal G w.past m
may_come G t w (Calls n a c k) p q = (q.0, q.1)
may_come G t w (Replies e r) p q = (q.0, due-narrow (observe w.past) e.value q.0 (ap (λ (o : Observed). due_of o e.value) (sym (observe-local w.past p)) ∙ q.1), q.2)
may_come G t w Acts p q = tt
may_come G t w (Coordinates a) p q = absurd (not_both (may_coordinate (core w) a) q (may_nothing w a p))
may_come G t w (Delivers c d) p q = absurd (not_both (has_left c d w.past) q (left-local c d w.past p))
may_come G t w Stops p q = absurd (not_both (has is_begin_sent w.past) (and_left (has is_begin_sent w.past) (not (core w).stopped) q) (begin-local w.past p))
may_come G t w (Restarts found) p q = absurd (not_both (has is_begin_sent w.past) q (begin-local w.past p))

-- what the last step of a run without a promotion did
pub record RanBefore (G : ℕ → ActorNo → Call → Type 0) (v w : World) (m : Step) : Type 0 where
  pub unpromoted : has is_promoting v.past ≡ false
  pub home : are_local v.past ≡ true
  pub may : MayComeLocal G v.past m
  pub past : w.past ≡ onto v.past (block (observe v.past) m)

pub ran_before : (G : ℕ → ActorNo → Call → Type 0) (t : ℕ) (m : Step) (ms : List Step) (w : World) (r : Ran G t (m ∷ ms) w) → has is_promoting w.past ≡ false → RanBefore G r.0 w m
unfolding after
ran_before G t m ms w r q =
    let v = r.0 in
    let e = ap (λ (w : World). w.past) r.3 in
    let none = sym (has-onto is_promoting v.past (block_at t v m)) ∙ ap (has is_promoting) (sym e) ∙ q in
    let before = or_second (has is_promoting (block_at t v m)) (has is_promoting v.past) none in
    let home = free-local G t v.past (v.calls, (ms, r.1)) (ap not before) in
    record {
      unpromoted = before;
      home = home;
      may = may_come G t v m home r.2;
      past = e ∙ ap (onto v.past) (same t v m (or_first (has is_promoting (block_at t v m)) (has is_promoting v.past) none) (step-narrow G t v m home r.2));
    }
  where
    same : (t : ℕ) (v : World) (m : Step) → has is_promoting (block_at t v m) ≡ false → (has is_promoting (block_at t v m) ≡ true) ⊎ IsNarrow t v m
        → block_at t v m ≡ block (observe v.past) m
    same t v m n (inl k) = absurd (not_both (has is_promoting (block_at t v m)) k n)
    same t v m n (inr k) = k.0

-- what steps make in which no promotion begins, they make by what the local side has seen
ran_local : (G : ℕ → ActorNo → Call → Type 0) (t : ℕ) (ms : List Step) (w : World) → Ran G t ms w → has is_promoting w.past ≡ false → RanLocal G ms w.past
ran_local G t [] w r q = r.1
ran_local G t (m ∷ ms) w r q = let b = ran_before G t m ms w r q in (r.0.past, ran_local G t ms r.0 r.1 b.unpromoted, b.may, b.past)

-- what is freely caused and in which nothing is promoted is such a run
pub free_run : (G : ℕ → ActorNo → Call → Type 0) (t : ℕ) (h : List Entry) → FreelyCaused G t h → is_unpromoted h ≡ true → IsLocalRun G h
free_run G t h r u = (r.1.0, ran_local G t r.1.0 (record { calls = r.0; past = h }) r.1.1 (not_true (has is_promoting h) u))

-- what a program's own calls make is freely caused by them
pub own_free : (t : ℕ) (w : World) → IsOwnRun t w → FreelyCaused (IsIn w.calls) t w.past
own_free t w r = (w.calls, r)
