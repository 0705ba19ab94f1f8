use Rattle.std.proofs.Common.{ℕ, ◌<◌, ◌≤◌, ◌-◌, [], get_or, vec_len}
use Rattle.trace_checker.specs.declared.book.Book.{Book}
use Rattle.trace_checker.specs.Kept.{IsBookOf}
use Rattle.trace_checker.proofs.checker.Checker.new.Given as goal

abbrev pub invariant-loop-alloc : goal.invariant-loop-alloc
invariant-loop-alloc l = record { few : vec_len l.books ≤ 256; blank : (j : ℕ) (d : Book) → j < vec_len l.books → IsBookOf [] (get_or l.books.items j d) }

abbrev pub decreases-loop-alloc : goal.decreases-loop-alloc
decreases-loop-alloc l = 256 - vec_len l.books
