-- What a transaction keeps of the log is what its history says: so while its coordinator runs; and so it stays where the coordinator stops, while it is stopped, and when it is
-- told what a restart found.
use Rattle.std.proofs.Common.{◌≡◌, ◌∙◌, inl, inr, ℕ, Bool, true, false, ◌&&◌, ◌||◌, not, List, [], ◌∷◌, Option, Some, None, is_some, refl, ap, sym, subst}
use Rattle.dtx_values.specs.declared.entry.Entry.{Entry}
use Rattle.dtx_values.specs.declared.entry.Entry.TheVariants.{Freed, Logged, Restarted, Stopped}
use Rattle.dtx_model.specs.Words.{each, has, holds, latest, onto}
use Rattle.dtx_model.specs.Log.{CommitRecord}
use Rattle.dtx_model.specs.Tied.{before_first_stop, before_last_stop, can_free, can_log, has_mark, is_stop, is_tied, is_unmarked, mark_of, tied}
use Rattle.dtx_model.specs.Coordinated.{coordinate, follow, is_undecided}
use Rattle.dtx_model.proofs.Bools.{and_both, and_left, and_right, not_both, or_right}
use Rattle.history_table.proofs.CoreStages.{open_before, recorded_mark, restart_open, stopped_same}
use Rattle.history_table.proofs.Recording.{first_none, first_some, stopped_stop}
use Rattle.history_table.proofs.Steady.{tied_under}
use Rattle.tx_world.specs.AtLog.{IsOurs, Kept, Tie}
use Rattle.tx_world.specs.Kept.{stop_if}
use Rattle.tx_world.specs.Tried.{IsTried}
use Rattle.world_parts.proofs.Keeping.{is_elsewhere}

-- what a coordinator keeps that runs: a record exactly where there is one, and nothing is unsure
pub record IsSure (h : List Entry) (x : Kept) : Type 0 where
  pub there : is_some x.ours ≡ has_mark h
  pub sure : x.unsure ≡ false

never : (b : Bool) → b ≡ true → b ≡ false → ⊥
never b t f = not_both b t f

pub sure_tried : (h : List Entry) (x : Kept) → IsSure h x → IsTried h x
sure_tried h x s =
    record {
      tried = λ t. first (has_mark h) (is_unmarked (latest mark_of h) && can_log (before_first_stop h)) (sym s.there ∙ t);
      kept = λ t. s.there ∙ t;
      unsure = λ t. absurd (never x.unsure t s.sure);
    }
  where
    first : (a b : Bool) → a ≡ true → (a || b) ≡ true
    first true b t = refl
    first false b t = absurd cc

pub sure_of : (id : ℕ) (h : List Entry) (x : Kept) → IsOurs id (coordinate h) x → (coordinate h).stopped ≡ false → IsSure h x
sure_of id h x o runs = record { there = o.recorded runs ∙ recorded_mark h; sure = o.sure runs }

-- An entry that isn't the log's, and a stop, leave the marks,
mark_none : (x : Entry) → is_elsewhere x ≡ true → mark_of x ≡ None
mark_none Logged i = absurd cc
mark_none Freed i = absurd cc
mark_none (Restarted found) i = absurd cc
mark_none _ i = refl

latest_more : (x : Entry) (h : List Entry) → mark_of x ≡ None → latest mark_of (x ∷ h) ≡ latest mark_of h
latest_more x h n = rw n refl

pub latest_onto : (h es : List Entry) → each is_elsewhere es ≡ true → latest mark_of (onto h es) ≡ latest mark_of h
latest_onto h [] i = refl
latest_onto h (x ∷ es) i =
    latest_onto (x ∷ h) es (and_right (is_elsewhere x) (each is_elsewhere es) i) ∙ latest_more x h (mark_none x (and_left (is_elsewhere x) (each is_elsewhere es) i))

sure_on : (h n : List Entry) (x : Kept) → latest mark_of n ≡ latest mark_of h → IsSure h x → IsSure n x
sure_on h n x e s = record { there = s.there ∙ ap (λ (o : Option Bool). holds o) (sym e); sure = s.sure }

-- and, where the coordinator stopped before, what stands before its first and its last stop.
first_more : (x : Entry) (h : List Entry) → is_elsewhere x ≡ true → has is_stop h ≡ true → before_first_stop (x ∷ h) ≡ before_first_stop h
first_more Stopped h i s = absurd cc
first_more x h i s = first_some (x ∷ h) h h s

last_more : (x : Entry) (h : List Entry) → is_elsewhere x ≡ true → before_last_stop (x ∷ h) ≡ before_last_stop h
last_more Stopped h i = absurd cc
last_more x h i = refl

tried_same : (h n : List Entry) (x : Kept) → latest mark_of n ≡ latest mark_of h → before_first_stop n ≡ before_first_stop h → before_last_stop n ≡ before_last_stop h → IsTried h x → IsTried n x
tried_same h n x e f l t =
    record {
      tried = λ o. ap (λ (m : Option Bool). holds m || (is_unmarked m && can_log (before_first_stop n))) e
          ∙ ap (λ (g : List Entry). has_mark h || (is_unmarked (latest mark_of h) && can_log g)) f ∙ t.tried o;
      kept = λ o. t.kept (ap (λ (m : Option Bool). holds m) (sym e) ∙ o);
      unsure = λ o. ap (λ (m : Option Bool). not (holds m) || can_free (before_last_stop n)) e ∙ ap (λ (g : List Entry). not (has_mark h) || can_free g) l ∙ t.unsure o;
    }

tried_stays : (h es : List Entry) (x : Kept) → each is_elsewhere es ≡ true → has is_stop h ≡ true → IsTried h x → IsTried (onto h es) x
tried_stays h [] x i s t = t
tried_stays h (y ∷ es) x i s t =
    let first = and_left (is_elsewhere y) (each is_elsewhere es) i in
    tried_stays (y ∷ h) es x (and_right (is_elsewhere y) (each is_elsewhere es) i) (or_right (is_stop y) (has is_stop h) s)
    (tried_same h (y ∷ h) x (latest_more y h (mark_none y first)) (first_more y h first s) (last_more y h first) t)

-- So it stays with a block that isn't the log's,
pub tried_onto : (id : ℕ) (h es : List Entry) (x : Kept) → each is_elsewhere es ≡ true → IsOurs id (coordinate h) x → IsTried h x → IsTried (onto h es) x
tried_onto id h es x i o t = by (coordinate h).stopped refl
  where
    by : (b : Bool) → (coordinate h).stopped ≡ b → IsTried (onto h es) x
    by false e = sure_tried (onto h es) x (sure_on h (onto h es) x (latest_onto h es i) (sure_of id h x o e))
    by true e = tried_stays h es x i (stopped_stop h (sym (stopped_same h) ∙ e)) t

-- also where a coordinator that ran stops after it;
pub tried_turned : (id : ℕ) (h es : List Entry) (x : Kept) (b : Bool) → each is_elsewhere es ≡ true → IsOurs id (coordinate h) x → (b ≡ true → (coordinate h).stopped ≡ false) → IsTried h x
    → IsTried (stop_if b (onto h es)) x
tried_turned id h es x true i o runs t =
    sure_tried (Stopped ∷ onto h es) x (sure_on h (Stopped ∷ onto h es) x (latest_onto h es i) (sure_of id h x o (runs refl)))
tried_turned id h es x false i o runs t = tried_onto id h es x i o t

-- and where one that runs stops.
pub tried_stopped : (id : ℕ) (h : List Entry) (x : Kept) → IsOurs id (coordinate h) x → (coordinate h).stopped ≡ false → IsTried (Stopped ∷ h) x
tried_stopped id h x o runs = sure_tried (Stopped ∷ h) x (sure_on h (Stopped ∷ h) x refl (sure_of id h x o runs))

-- What restarts found was tied before a block, where it is after it.
pub tied_before : (h es n : List Entry) (b : Bool) → n ≡ stop_if b (onto h es) → tied n ≡ true → tied h ≡ true
tied_before h es n b e d = by b (subst (λ (g : List Entry). tied g ≡ true) e d)
  where
    by : (c : Bool) → tied (stop_if c (onto h es)) ≡ true → tied h ≡ true
    by true k = tied_under h es k
    by false k = tied_under h es k

-- while nothing is decided at the coordinator, no entry says whether there is a record
pub unmarked_open : (h : List Entry) → is_undecided (coordinate h).stage ≡ true → latest mark_of h ≡ None
unfolding coordinate follow
unmarked_open [] u = refl
unmarked_open (Logged ∷ h) u = absurd cc
unmarked_open (Freed ∷ h) u = absurd cc
unmarked_open (Restarted found ∷ h) u = absurd (restart_open found (coordinate h).stage u)
unmarked_open (x ∷ h) u = unmarked_open h (open_before (coordinate h) x u)

-- The coordinator was stopped by its act at the log: an append that might come was tried, or a free.
pub append_tried : (h : List Entry) (x : Kept) → can_log h ≡ true → has is_stop h ≡ false → latest mark_of h ≡ None → IsTried (Stopped ∷ h) x
append_tried h x can unstopped none =
    record {
      tried = λ t. ap (λ (m : Option Bool). holds m || (is_unmarked m && can_log (before_first_stop (Stopped ∷ h)))) none ∙ ap can_log (first_none h h unstopped) ∙ can;
      kept = λ t. absurd (never (has_mark h) t (ap (λ (m : Option Bool). holds m) none));
      unsure = λ t. ap (λ (m : Option Bool). not (holds m) || can_free h) none;
    }

pub free_tried : (h : List Entry) (x : Kept) → can_free h ≡ true → has_mark h ≡ true → is_some x.ours ≡ true → IsTried (Stopped ∷ h) x
free_tried h x can marked there =
    record {
      tried = λ t. ap (λ b. b || (is_unmarked (latest mark_of h) && can_log (before_first_stop (Stopped ∷ h)))) marked;
      kept = λ t. there;
      unsure = λ t. or_right (not (has_mark h)) (can_free h) can;
    }

-- What a restart finds of what is kept is tied: it is the same, or none while that is unsure.
pub found_tied : (h : List Entry) (x : Kept) (found : Option CommitRecord) → Tie x.ours x.unsure found → IsTried h x → is_tied h (Restarted (is_some found)) ≡ true
found_tied h x found tie t = elim tie [ inl e ↦ same found e | inr e ↦ subst (λ (o : Option CommitRecord). is_tied h (Restarted (is_some o)) ≡ true) (sym e.0) (t.unsure e.1) ]
  where
    same : (o : Option CommitRecord) → o ≡ x.ours → is_tied h (Restarted (is_some o)) ≡ true
    same (Some r) e = t.tried (ap (λ (p : Option CommitRecord). is_some p) (sym e))
    same None e = unmarked (has_mark h) refl
      where
        unmarked : (b : Bool) → has_mark h ≡ b → (not b || can_free (before_last_stop h)) ≡ true
        unmarked true m = absurd (never (is_some x.ours) (t.kept m) (ap (λ (p : Option CommitRecord). is_some p) (sym e)))
        unmarked false m = refl

-- so what restarts found is tied after it, also where the coordinator ran till then
pub told_tied : (id : ℕ) (h : List Entry) (x : Kept) (found : Option CommitRecord) (b : Bool) → IsOurs id (coordinate h) x → (tied h ≡ true → IsTried h x) → (b ≡ true → (coordinate h).stopped ≡ false)
    → Tie x.ours x.unsure found → tied h ≡ true → tied (Restarted (is_some found) ∷ stop_if b h) ≡ true
told_tied id h x found true o t runs tie d = and_both (is_tied (Stopped ∷ h) (Restarted (is_some found))) (tied (Stopped ∷ h)) (found_tied (Stopped ∷ h) x found tie (tried_stopped id h x o (runs refl))) d
told_tied id h x found false o t runs tie d = and_both (is_tied h (Restarted (is_some found))) (tied h) (found_tied h x found tie (t d)) d
