-- What stands at each place of a trace that is put together part by part.
use Rattle.std.proofs.Common.{◌≡◌, ℕ, Bool, true, false, List, [], ◌∷◌, ◌++◌, map, append-nil, refl, ap, ◌∙◌}
use Rattle.dtx_values.specs.declared.entry.Entry.{Entry}
use Rattle.dtx_values.specs.declared.trace.Place.{Place}
use Rattle.dtx_values.specs.declared.trace.Place.TheVariants.{Log, Transaction}
use Rattle.dtx_model.specs.AtLog.{at_log, is_log}
use Rattle.dtx_model.specs.Traces.{Placed, at_context, entries_at, history, is_at, is_context, placed}
use Rattle.tx_cells.specs.Cell.{Cell}
use Rattle.thread_runs.specs.Gathering.{with_histories, with_log}

-- The newest part of a trace is at a place that passes,
pub entries_here : (p : Place → Bool) (q : Place) (h : List Entry) (T : List Placed) → p q ≡ true → entries_at p (map (λ e. (q, e)) h ++ T) ≡ h ++ entries_at p T
entries_here p q [] T k = refl
entries_here p q (x ∷ h) T k = rw k (ap (λ (es : List Entry). x ∷ es) (entries_here p q h T k))

-- or at one that doesn't.
pub entries_there : (p : Place → Bool) (q : Place) (h : List Entry) (T : List Placed) → p q ≡ false → entries_at p (map (λ e. (q, e)) h ++ T) ≡ entries_at p T
entries_there p q [] T k = refl
entries_there p q (x ∷ h) T k = rw k (entries_there p q h T k)

-- The histories of cells are at no context and not at the log,
pub contexts_kept : (a : ℕ) (cs : List Cell) (T : List Placed) → at_context a (with_histories cs T) ≡ at_context a T
contexts_kept a [] T = refl
contexts_kept a (c ∷ cs) T =
    contexts_kept a cs (placed c.tx.transaction.t c.tx.world.past ++ T) ∙ entries_there (is_context a) (Transaction c.tx.transaction.t) c.tx.world.past T refl

pub log_kept : (cs : List Cell) (T : List Placed) → at_log (with_histories cs T) ≡ at_log T
log_kept [] T = refl
log_kept (c ∷ cs) T = log_kept cs (placed c.tx.transaction.t c.tx.world.past ++ T) ∙ entries_there is_log (Transaction c.tx.transaction.t) c.tx.world.past T refl

-- and the entries at the log are there alone.
pub contexts_before_log : (a : ℕ) (h : List Entry) (T : List Placed) → at_context a (with_log h T) ≡ at_context a T
contexts_before_log a h T = entries_there (is_context a) Log h T refl

pub histories_before_log : (t : ℕ) (h : List Entry) (T : List Placed) → history t (with_log h T) ≡ history t T
histories_before_log t h T = entries_there (is_at t) Log h T refl

pub log_there : (h : List Entry) (T : List Placed) → at_log T ≡ [] → at_log (with_log h T) ≡ h
log_there h T none = entries_here is_log Log h T refl ∙ (ap (λ (es : List Entry). h ++ es) none ∙ append-nil h)
