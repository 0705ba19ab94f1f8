use Rattle.std.proofs.Common.{◌-◌, ◌<◌, List, [], ◌∷◌, ◌++◌, get_or, length, arith, refl, subst, sym}
use Rattle.dtx_values.specs.declared.entry.Entry.{Entry}
use Rattle.dtx_values.specs.declared.number.TxNo.{TxNo}
use Rattle.dtx_values.specs.declared.trace.Place.{Place}
use Rattle.dtx_model.specs.Traces.{history}
use Rattle.dtx_model.specs.Words.{past_of}
use Rattle.trace_checker.specs.declared.book.Book.{Book}
use Rattle.trace_checker.specs.Keeps.{Keeps}
use Rattle.trace_checker.specs.Kept.{IsBookOf}
use Rattle.trace_checker.proofs.Stepping.{checked_here, on_both}
use Rattle.trace_checker.proofs.Tracing.{aside_context, aside_log, aside_kept, book_at, kept_at}
use Rattle.trace_checker.proofs.checker.Checker.note.Goals as goal

pub returns-in-Transaction : goal.returns-in-Transaction
returns-in-Transaction c = on_both c.note.result (λ loss lost noted T k.
    let u = c.in-Transaction.t in
    let i = c.index.result in
    let h = history u.value (past_of T) in
    let is = book_at T u c.args.self.now.books.items i c.index_mut-book.result.now c.index.ensures.place c.index_mut-book.ensures.value k.books in
    let within : i < length c.args.self.now.books.items = omega (arith, c.index.ensures.within, c.args.self.now.many, c.args.self.now.books.ok.0) in
    checked_here T u c.args.at c.args.x.now loss c.args.self.now _ i c.note.new.self c.in-Transaction.is refl c.index.ensures.place within k (lost h is (kept_at T u k.keeps)) (λ n. noted n h is)) c.note.ensures.lost c.note.ensures.noted

pub returns-in-Context : goal.returns-in-Context
returns-in-Context c = λ T k.
    let x = c.args.x.now in
    let K : Place → Type 0 = λ p. Keeps (T ++ (p, x) ∷ []) in
    let B : Place → Type 0 = λ p. (t : TxNo) (d : Book) → IsBookOf (history t.value (past_of (T ++ (p, x) ∷ []))) (get_or c.args.self.now.books.items (t.value - 1) d) in
    record {
      keeps = subst K (sym c.in-Context.is) (aside_kept T _ (λ t. aside_context t.value c.in-Context.field-0 x T) k.keeps);
      books = subst B (sym c.in-Context.is) (λ t d. let Q : List Entry → Type 0 = λ h. IsBookOf h (get_or c.args.self.now.books.items (t.value - 1) d) in subst Q (sym (aside_context t.value c.in-Context.field-0 x T)) (k.books t d));
    }

pub returns-in-Log : goal.returns-in-Log
returns-in-Log c = λ T k.
    let x = c.args.x.now in
    let K : Place → Type 0 = λ p. Keeps (T ++ (p, x) ∷ []) in
    let B : Place → Type 0 = λ p. (t : TxNo) (d : Book) → IsBookOf (history t.value (past_of (T ++ (p, x) ∷ []))) (get_or c.args.self.now.books.items (t.value - 1) d) in
    record {
      keeps = subst K (sym c.in-Log.is) (aside_kept T _ (λ t. aside_log t.value x T) k.keeps);
      books = subst B (sym c.in-Log.is) (λ t d. let Q : List Entry → Type 0 = λ h. IsBookOf h (get_or c.args.self.now.books.items (t.value - 1) d) in subst Q (sym (aside_log t.value x T)) (k.books t d));
    }
