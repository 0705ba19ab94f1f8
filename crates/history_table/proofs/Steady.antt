-- The law of one outcome over runs: in each world that steps made, promoted or not, in which each restart found what may be found, what the local side goes by stands, and so the
-- table is kept.
use Rattle.std.proofs.Common.{◌≡◌, ℕ, true, ◌⊎◌, inl, inr, List, [], ◌∷◌, refl, sym, subst}
use Rattle.dtx_values.specs.declared.call.Call.{Call}
use Rattle.dtx_values.specs.declared.entry.Entry.{Entry}
use Rattle.dtx_values.specs.declared.message.Dir.TheVariants.{Up, Down}
use Rattle.dtx_values.specs.declared.number.ActorNo.{ActorNo}
use Rattle.dtx_model.specs.Words.{always, onto}
use Rattle.dtx_model.specs.Tied.{is_tied, tied}
use Rattle.dtx_model.specs.World.{World}
use Rattle.dtx_model.specs.Steps.{Step, Calls, Replies, Acts, Coordinates, Delivers, Stops, Restarts, after, block_at}
use Rattle.dtx_model.specs.Caused.{AreMadeOnce, FreelyCaused, MayCome, Ran}
use Rattle.dtx_model.proofs.Bools.{and_right}
use Rattle.dtx_model.proofs.Quiet.{wire_run}
use Rattle.history_table.proofs.Keeping.{Keeps}
use Rattle.history_table.proofs.Undecided.{Stands}
use Rattle.history_table.proofs.CoreBlocks.{is_core_step}
use Rattle.history_table.proofs.CoreGoing.{core_stands}
use Rattle.history_table.proofs.Upward.{IsComing, none_coming, step_coming}
use Rattle.history_table.proofs.Welcomes.{is_direct, step_direct}
use Rattle.history_table.proofs.Asking.{IsAsking, none_asked, step_asking}
use Rattle.history_table.proofs.CameOnce.{IsAfter, come_once, step_after}
use Rattle.history_table.proofs.ToldOn.{step_told}
use Rattle.history_table.proofs.Makers.{ran_made}
use Rattle.history_table.proofs.LocalSteps.{IsSteady, is_local_step, local_keeps, start_steady}
use Rattle.history_table.proofs.Marks.{IsMarked, none_marked}
use Rattle.history_table.proofs.MarkSteps.{step_marked}
use Rattle.history_table.proofs.AskedWhom.{asked_whom}
use Rattle.history_table.proofs.NewMade.{all_new, ran_waited}

-- what each step goes by
pub record IsStanding (G : ℕ → ActorNo → Call → Type 0) (w : World) : Type 0 where
  pub steady : IsSteady G w
  -- who comes to the coordinator
  pub coming : IsComing w.calls w.past
  -- what is sent downward once, and directly after what
  pub direct : always is_direct w.past ≡ true
  pub asking : IsAsking w.past
  pub opened : IsAfter w.past
  pub marked : IsMarked G w.past

-- a step is of the local side, or of the coordinator's
each_side : (m : Step) → (is_local_step m ≡ true) ⊎ (is_core_step m ≡ true)
each_side (Calls n a c j) = inl refl
each_side (Replies e r) = inl refl
each_side Acts = inl refl
each_side (Coordinates x) = inr refl
each_side (Delivers c Down) = inl refl
each_side (Delivers c Up) = inr refl
each_side Stops = inr refl
each_side (Restarts found) = inr refl

-- where each restart of a history found what may be found, so did those of its beginning
pub tied_under : (h es : List Entry) → tied (onto h es) ≡ true → tied h ≡ true
tied_under h [] k = k
tied_under h (x ∷ es) k = and_right (is_tied h x) (tied h) (tied_under (x ∷ h) es k)

-- it stands at the start
start_stands : (G : ℕ → ActorNo → Call → Type 0) → IsStanding G (record { calls = []; past = [] })
start_stands G =
    record { steady = start_steady G; coming = none_coming; direct = refl; asking = none_asked; opened = λ e t. absurd cc; marked = none_marked G }

-- each step keeps it
step_stands : (G : ℕ → ActorNo → Call → Type 0) (t : ℕ) (ms : List Step) (v : World) (m : Step) → AreMadeOnce G → Ran G t ms v → MayCome G t v m → tied (after t v m).past ≡ true → IsStanding G v
    → IsStanding G (after t v m)
step_stands G t ms v m once r q d s =
    record {
      steady =
          record {
            stands = now;
            asked = asked_whom G (after t v m).past now.keeps marks;
            told = step_told t v m now.keeps s.steady.told;
            once = come_once (after t v m).past now.keeps straight asks first;
            waited = ran_waited G t (m ∷ ms) (after t v m) once ran now.keeps;
            new = all_new G (after t v m).calls (after t v m).past once (ran_made G t (m ∷ ms) (after t v m) ran) marks;
          };
      coming = step_coming G t v m q s.steady.stands.keeps s.coming;
      direct = straight;
      asking = asks;
      opened = first;
      marked = marks;
    }
  where
    ran : Ran G t (m ∷ ms) (after t v m)
    ran = (v, r, q, refl)

    by : (is_local_step m ≡ true) ⊎ (is_core_step m ≡ true) → Stands (after t v m).past
    by (inl l) = local_keeps G t v m l s.steady q
    by (inr c) = core_stands G t v m c q s.steady.stands s.coming d (wire_run G t (m ∷ ms) (after t v m) ran)

    now : Stands (after t v m).past
    now = by (each_side m)

    straight : always is_direct (after t v m).past ≡ true
    straight = step_direct t v m s.direct

    asks : IsAsking (after t v m).past
    asks = step_asking t v m s.steady.stands.keeps s.asking

    first : IsAfter (after t v m).past
    first = step_after t v m s.steady.stands.keeps s.opened

    marks : IsMarked G (after t v m).past
    marks = step_marked G t v m q s.steady.new now.keeps s.marked

-- so it stands in each world of a run in which each restart found what may be found
pub run_stands : (G : ℕ → ActorNo → Call → Type 0) (t : ℕ) (ms : List Step) (w : World) → AreMadeOnce G → Ran G t ms w → tied w.past ≡ true → IsStanding G w
unfolding after
run_stands G t [] w once r d =
    subst (λ ks. IsStanding G (record { calls = ks; past = w.past })) (sym r.0) (subst (λ h. IsStanding G (record { calls = []; past = h })) (sym r.1) (start_stands G))
run_stands G t (m ∷ ms) w once r d =
    let v = r.0 in
    let now : tied (after t v m).past ≡ true = subst (λ (x : World). tied x.past ≡ true) r.3 d in
    subst (IsStanding G) (sym r.3) (step_stands G t ms v m once r.1 r.2 now (run_stands G t ms v once r.1 (tied_under v.past (block_at t v m) now)))

-- what the local side goes by
pub run_steady : (G : ℕ → ActorNo → Call → Type 0) (t : ℕ) (ms : List Step) (w : World) → AreMadeOnce G → Ran G t ms w → tied w.past ≡ true → IsSteady G w
run_steady G t ms w once r d = (run_stands G t ms w once r d).steady

-- so the table is kept
pub run_keeps : (G : ℕ → ActorNo → Call → Type 0) (t : ℕ) (ms : List Step) (w : World) → AreMadeOnce G → Ran G t ms w → tied w.past ≡ true → Keeps w.past
run_keeps G t ms w once r d = (run_steady G t ms w once r d).stands.keeps

-- what is freely caused keeps the table
pub free_keeps : (G : ℕ → ActorNo → Call → Type 0) (t : ℕ) (h : List Entry) → AreMadeOnce G → FreelyCaused G t h → tied h ≡ true → Keeps h
free_keeps G t h once f d = run_keeps G t f.1.0 (record { calls = f.0; past = h }) once f.1.1 d
