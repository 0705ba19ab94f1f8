-- Names that wait for something.
use Rattle.std.specs.Prelude.{◌≡◌, ℕ, Bool, ◌&&◌, not, slice_index_or}
use Rattle.trace_checker.specs.declared.left.Left.{Left}
use Rattle.trace_checker.specs.declared.left.Waiting.{Waiting}
use Rattle.trace_checker.specs.declared.left.Waiting.TheVariants.{Unknown}
use Rattle.trace_checker.specs.Waiting.{is_done, is_waiting}

-- what is known of this name
abbrev pub name_at : ℕ → Left → Waiting
name_at n l = slice_index_or l.names.items n Unknown

-- these names came, and these are done: the table says which are done, and which of those that came aren't
pub record IsLeft (came settled : ℕ → Bool) (l : Left) : Type 0 where
  pub done : (n : ℕ) → is_done (name_at n l) ≡ settled n
  pub left : (n : ℕ) → is_waiting (name_at n l) ≡ (came n && not (settled n))
