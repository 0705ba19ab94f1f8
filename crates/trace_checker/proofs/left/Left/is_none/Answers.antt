use Rattle.std.proofs.Common.{◌≡◌, ℕ, suc, ◌==◌, true, false, List, [], ◌∷◌, get_or, refl, ap, sym, ◌∙◌}
use Rattle.std.specs.List.{count_by}
use Rattle.trace_checker.specs.declared.left.Waiting.{Waiting}
use Rattle.trace_checker.specs.declared.left.Waiting.TheVariants.{Unknown, Waits, Done}
use Rattle.trace_checker.specs.Waiting.{is_waiting}
use Rattle.trace_checker.proofs.left.Left.is_none.Goals as goal

-- where some are counted, one waits
some_waits : (xs : List Waiting) (n : ℕ) → n ≡ count_by is_waiting xs → (n == 0) ≡ false → (k : ℕ) × (is_waiting (get_or xs k Unknown) ≡ true)
some_waits [] n e f = let none : (n == 0) ≡ true = ap (λ m. m == 0) e in absurd cc
some_waits (Waits ∷ xs) n e f = (0, refl)
some_waits (Unknown ∷ xs) n e f = let w = some_waits xs n e f in (suc w.0, w.1)
some_waits (Done ∷ xs) n e f = let w = some_waits xs n e f in (suc w.0, w.1)

pub returns-clause-some : goal.returns-clause-some
returns-clause-some c = λ f came done k.
    let w = some_waits c.args.self.now.names.items c.args.self.now.count c.args.self.now.counted f in (w.0, sym (k.left w.0) ∙ w.1)
