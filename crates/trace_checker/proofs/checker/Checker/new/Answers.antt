use Rattle.std.proofs.Common.{◌+◌, ◌<◌, ◌-◌, [], List, get_or, subst, sym, arith, vec_len}
use Rattle.trace_checker.specs.declared.book.Book.{Book}
use Rattle.trace_checker.specs.Kept.{IsBookOf}
use Rattle.trace_checker.proofs.Tracing.{blank_more, none_kept}
use Rattle.trace_checker.proofs.checker.Checker.new.Goals as goal

pub loop-alloc-preserved : goal.loop-alloc-preserved
loop-alloc-preserved c = record {
  few = omega (arith, c.in_ok-push.ensures.len);
  blank = λ j d lt.
      let old = c.loop-alloc.books in
      let within : j < vec_len old + 1 = omega (arith, lt, c.in_ok-push.ensures.len) in
      let P : List Book → Type 0 = λ bs. IsBookOf [] (get_or bs j d) in
      subst P (sym c.in_ok-push.ensures.items) (blank_more old.items c.new.result (vec_len old) (sym old.ok.0) c.loop-alloc.invariant.blank c.new.ensures j d within);
}

pub returns : goal.returns
returns c = record {
  keeps = none_kept;
  books = λ t d.
      let low = t.in_range.0 in
      let high = t.in_range.1 in
      let within : t.value - 1 < vec_len c.loop-alloc.books = omega arith in
      c.loop-alloc.invariant.blank (t.value - 1) d within;
}
