-- Who may own the commit.
use Rattle.std.specs.Prelude.{◌≡◌, ℕ, ◌==◌, List, [], ◌∷◌, if◌then◌else◌}
use Rattle.dtx_values.specs.declared.entry.Entry.{Entry}
use Rattle.dtx_values.specs.declared.number.EnlNo.{EnlNo}
use Rattle.dtx_values.specs.declared.words.Class.{Class}
use Rattle.dtx_model.specs.Outcome.{can_own, durables}
use Rattle.dtx_model.specs.Words.{each, has}
use Rattle.trace_checker.specs.declared.owner.Lasting.{Lasting}
use Rattle.trace_checker.specs.declared.owner.Lasting.TheVariants.{Nobody, One, Several}
use Rattle.trace_checker.specs.declared.owner.Owner.{Owner}

-- whom these enlistments name: nobody, one, or several
abbrev pub named_by : List (EnlNo × Class) → Lasting
named_by [] = Nobody
named_by (x ∷ xs) = if each (λ y. x.0.value == y.0.value) xs then One x.0.value else Several

-- whom they name with one more
abbrev pub named_with : ℕ → Lasting → Lasting
named_with n Nobody = One n
named_with n (One m) = if m == n then One m else Several
named_with n Several = Several

pub record IsOwnerOf (h : List Entry) (o : Owner) : Type 0 where
  pub lasting : o.lasting ≡ named_by (durables h)
  pub able : o.able ≡ has (λ y. can_own y.1) (durables h)
