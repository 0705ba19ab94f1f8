-- Scripts that are to run on threads.
use Rattle.std.proofs.Common.{◌≡◌, ℕ, ◌+◌, Bool, ◌||◌, true, false, List, [], ◌∷◌, Option, Some, None, cond, refl}
use Rattle.std.specs.Prelude.{if◌then◌else◌}
use Rattle.std.specs.Option.{ForSome}
use Rattle.dtx_values.specs.declared.script.Line.{Line}
use Rattle.dtx_model.specs.Words.{has}
use Rattle.script_calls.specs.Threadable.{is_do_line}
use Rattle.program_io.specs.Judged.{HasDoAt, first_do_from}
use Rattle.program_io.specs.Refusal.{HasNoRun, IsOnThreads}
use Rattle.program_io.specs.declared.judging.Refusal.TheVariants.{HasDo}
use Rattle.program_io.specs.declared.way.Way.{Way}
use Rattle.program_io.proofs.Reading.{IsFront, reads-front}

-- where there is no first `do`, there is none
pub no_do : (n : ℕ) (s : List Line) → first_do_from n s ≡ None → has (λ l. is_do_line l.body) s ≡ false
no_do n [] e = refl
no_do n (l ∷ ls) e = by (no_do (n + 1) ls) (is_do_line l.body) e
  where
    by : (first_do_from (n + 1) ls ≡ None → has (λ l. is_do_line l.body) ls ≡ false) → (b : Bool) → (if b then Some n else first_do_from (n + 1) ls) ≡ None → (b || has (λ l. is_do_line l.body) ls) ≡ false
    by later true k = absurd cc
    by later false k = later k

-- and where there is one, the lines have a `do`
pub some_do : (n m : ℕ) (s : List Line) → first_do_from n s ≡ Some m → has (λ l. is_do_line l.body) s ≡ false → ⊥
some_do n m [] e none = cc
some_do n m (l ∷ ls) e none = by (some_do (n + 1) m ls) (is_do_line l.body) e none
  where
    by : (first_do_from (n + 1) ls ≡ Some m → has (λ l. is_do_line l.body) ls ≡ false → ⊥) → (b : Bool) → (if b then Some n else first_do_from (n + 1) ls) ≡ Some m → (b || has (λ l. is_do_line l.body) ls) ≡ false → ⊥
    by later true k none = cc
    by later false k none = later k none

-- a `do` in the bytes that were read is one in all of them
pub refused_do : (w : Way) (given : Option (List ℕ)) (bytes : List ℕ) (n : ℕ) → IsFront given bytes → HasNoRun w bytes (HasDo n) → IsOnThreads w × ForSome given (λ b. HasDoAt b n)
refused_do w given bytes n front (on, found) = (on, λ b told. of_front b told found)
  where
    of_front : (b : List ℕ) → given ≡ Some b → HasDoAt bytes n → HasDoAt b n
    of_front b told (s, reads, at) = (s, reads-front given bytes s front reads b told, at)
