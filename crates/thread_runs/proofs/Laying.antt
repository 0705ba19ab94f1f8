-- The places of the trace of a run on threads stand in order: the contexts by actor, the transactions by number, and then the log.
use Rattle.std.proofs.Common.{◌≡◌, ◌≤◌, ◌<◌, ◌+◌, ℕ, nat_le, nat_lt, true, List, [], ◌∷◌, ◌++◌, map, arith, ap, sym, subst, ◌∙◌}
use Rattle.std.proofs.lemmas.Bool.Decides.{nat_tests}
use Rattle.dtx_values.specs.declared.entry.Entry.{Entry}
use Rattle.dtx_values.specs.declared.script.Line.{Line}
use Rattle.dtx_values.specs.declared.trace.Place.{Place}
use Rattle.dtx_values.specs.declared.trace.Place.TheVariants.{Log, Transaction}
use Rattle.dtx_model.specs.Traces.{Placed, placed}
use Rattle.dtx_model.specs.Words.{each}
use Rattle.dtx_model.proofs.Bools.{and_both}
use Rattle.history_table.proofs.Scans.{each_more}
use Rattle.tx_cells.specs.Board.{transactions_of}
use Rattle.tx_cells.specs.Cell.{Cell}
use Rattle.thread_runs.specs.Gathering.{IsLaidBelow, are_in_order, rank, with_histories, with_log}
use Rattle.thread_runs.proofs.ByCell.{Rises, numbers, rises_transactions}

-- What stands before a rank stands before a later one, and no later than the place of that rank.
lower : (n m k : ℕ) → n ≤ m → nat_lt k n ≡ true → nat_lt k m ≡ true
lower n m k more e = grind (arith, nat_tests)

up_to : (n m k : ℕ) → n ≤ m + 1 → nat_lt k n ≡ true → nat_le k m ≡ true
up_to n m k more e = grind (arith, nat_tests)

here : (k n : ℕ) → k < n → nat_lt k n ≡ true
here k n less = grind (arith, nat_tests)

all_lower : (n m : ℕ) (T : List Placed) → n ≤ m → each (λ y. nat_lt (rank y.0) n) T ≡ true → each (λ y. nat_lt (rank y.0) m) T ≡ true
all_lower n m T more e = each_more (λ y. nat_lt (rank y.0) n) (λ y. nat_lt (rank y.0) m) (λ y. lower n m (rank y.0) more) T e

-- One more entry stands at a place that isn't before the others.
laid_entry : (q : Place) (x : Entry) (T : List Placed) (n m : ℕ) → n ≤ rank q + 1 → n ≤ m → rank q < m → IsLaidBelow n T → IsLaidBelow m ((q, x) ∷ T)
laid_entry q x T n m late more before l =
    record {
      in_order = and_both (each (λ y. nat_le (rank y.0) (rank q)) T) (are_in_order T) (each_more (λ y. nat_lt (rank y.0) n) (λ y. nat_le (rank y.0) (rank q)) (λ y. up_to n (rank q) (rank y.0) late) T l.below) l.in_order;
      below = and_both (nat_lt (rank q) m) (each (λ y. nat_lt (rank y.0) m) T) (here (rank q) m before) (all_lower n m T more l.below);
    }

-- So does a block of entries there.
pub laid_block : (q : Place) (h : List Entry) (T : List Placed) (n m : ℕ) → n ≤ rank q + 1 → m ≡ rank q + 1 → IsLaidBelow n T → IsLaidBelow m (map (λ e. (q, e)) h ++ T)
laid_block q [] T n m late is l = record { in_order = l.in_order; below = all_lower n m T (omega (arith, late, is)) l.below }
laid_block q (x ∷ h) T n m late is l = laid_entry q x (map (λ e. (q, e)) h ++ T) m m (omega (arith, is)) (omega arith) (omega (arith, is)) (laid_block q h T n m late is l)

-- The histories of transactions whose numbers rise stand in order,
pub laid_histories : (n m : ℕ) (cs : List Cell) (T : List Placed) → n ≤ 257 → m ≡ 16 + n → Rises n (numbers cs) → IsLaidBelow m T → IsLaidBelow 273 (with_histories cs T)
laid_histories n m [] T few is r l = record { in_order = l.in_order; below = all_lower m 273 T (omega (arith, few, is)) l.below }
laid_histories n m (c ∷ cs) T few is r l =
    let t = c.tx.transaction.t in
    let low = r.0 in
    let high = t.in_range.1 in
    laid_histories (t.value + 1) (16 + t.value + 1) cs (placed t c.tx.world.past ++ T) (omega (arith, high)) (omega arith) r.1
    (laid_block (Transaction t) c.tx.world.past T m (16 + t.value + 1) (omega (arith, low, is)) (omega arith) l)

-- and the log's entries after them.
pub laid_all : (s : List Line) (cs : List Cell) (h : List Entry) (start T : List Placed) → numbers cs ≡ transactions_of s → T ≡ with_log h (with_histories cs start) → IsLaidBelow 17 start → are_in_order T ≡ true
laid_all s cs h start T named is l =
    let rises = subst (Rises 1) (sym named) (rises_transactions s) in
    let laid = laid_block Log h (with_histories cs start) 273 274 (omega arith) (omega arith) (laid_histories 1 17 cs start (omega arith) (omega arith) rises l) in
    ap are_in_order is ∙ laid.in_order
