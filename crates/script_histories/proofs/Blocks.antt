-- The block of each step that may come keeps the rules, and so does a run in which nothing is promoted.
use Rattle.std.proofs.Common.{◌≡◌, ℕ, true, List, [], ◌∷◌, refl, sym, subst}
use Rattle.dtx_values.specs.declared.call.Call.{Call}
use Rattle.dtx_values.specs.declared.entry.Entry.{Entry}
use Rattle.dtx_values.specs.declared.number.ActorNo.{ActorNo}
use Rattle.dtx_values.specs.declared.script.Line.{Line}
use Rattle.dtx_model.specs.Words.{onto}
use Rattle.dtx_model.specs.Observed.{observe}
use Rattle.dtx_model.specs.Caused.{IsCallOf, AreMadeOnce, FreelyCaused, IsIn, IsOwnRun, is_unpromoted}
use Rattle.dtx_model.specs.Grammar.{are_named_well}
use Rattle.dtx_model.specs.World.{World}
use Rattle.dtx_model.specs.Steps.{Step, Calls, Replies, Acts}
use Rattle.dtx_model.proofs.Narrow.{answer, act_entries, block}
use Rattle.script_histories.proofs.Runs.{MayComeLocal, RanLocal, IsLocalRun, free_run, own_free}
use Rattle.script_histories.proofs.Going.{IsKept}
use Rattle.script_histories.proofs.Calls.{call_keeps}
use Rattle.script_histories.proofs.Acts.{reply_keeps, act_keeps}
use Rattle.script_histories.proofs.NamedCalls.{run_new}
use Rattle.history_table.proofs.Names.{script_once}
use Rattle.dtx_model.specs.Facts.{is_done}

-- the block of a step that may come keeps it
step_keeps : (G : ℕ → ActorNo → Call → Type 0) (h : List Entry) (m : Step) → AreMadeOnce G → IsLocalRun G h → MayComeLocal G h m → IsKept h → IsKept (onto h (block (observe h) m))
unfolding block act_entries observe
step_keeps G h (Calls n a c m) once r k i =
    call_keeps h n a (answer (observe h) c m) c m (is_done (answer (observe h) c m)) i (run_new G n a c h once r k.0 k.1) refl
step_keeps G h (Replies e y) once r k i = reply_keeps h e y k.0 i k.1 k.2
step_keeps G h Acts once r k i = act_keeps h (observe h).decided refl i
step_keeps G h _ once r k i = absurd k

-- what the steps make keeps it
ran_kept : (G : ℕ → ActorNo → Call → Type 0) (steps : List Step) (h : List Entry) → AreMadeOnce G → RanLocal G steps h → IsKept h
ran_kept G [] h once r = subst IsKept (sym r) (record { rules = refl; going = refl; spared = refl })
ran_kept G (m ∷ ms) h once r = subst IsKept (sym r.3) (step_keeps G r.0 m once (ms, r.1) r.2 (ran_kept G ms r.0 once r.1))

-- where nothing is promoted and names are made once, a run keeps it
pub run_kept : (G : ℕ → ActorNo → Call → Type 0) (h : List Entry) → AreMadeOnce G → IsLocalRun G h → IsKept h
run_kept G h once r = ran_kept G r.0 h once r.1

-- what is freely caused and in which nothing is promoted keeps it, where names are made once
pub free_kept : (G : ℕ → ActorNo → Call → Type 0) (t : ℕ) (h : List Entry) → AreMadeOnce G → FreelyCaused G t h → is_unpromoted h ≡ true → IsKept h
free_kept G t h once r u = run_kept G h once (free_run G t h r u)

-- by the calls of a script
pub script_kept : (s : List Line) (t : ℕ) (h : List Entry) → are_named_well s ≡ true → FreelyCaused (IsCallOf s t) t h → is_unpromoted h ≡ true → IsKept h
script_kept s t h named r u = free_kept (IsCallOf s t) t h (script_once s t named) r u

-- by a program's own calls
pub own_kept : (t : ℕ) (w : World) → AreMadeOnce (IsIn w.calls) → IsOwnRun t w → is_unpromoted w.past ≡ true → IsKept w.past
own_kept t w once r u = free_kept (IsIn w.calls) t w.past once (own_free t w r) u
