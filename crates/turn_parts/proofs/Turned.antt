-- The calls of a transaction after a step, and the name that a call makes.
use Rattle.std.proofs.Common.{◌≡◌, ℕ, Bool, true, false, ◌&&◌, not, Option, Some, None, refl, ap, sym, if◌then◌else◌}
use Rattle.std.proofs.lemmas.Bool.{eqb-true}
use Rattle.dtx_values.specs.declared.call.Call.{Call}
use Rattle.dtx_model.specs.Grammar.{Name, OfTransaction, OfEnlistment, OfClone, OfScope}
use Rattle.dtx_model.specs.World.{World}
use Rattle.dtx_model.specs.Steps.{Step, Stops, after, entered}
use Rattle.dtx_model.specs.Caused.{made_by}
use Rattle.tx_world.specs.State.{is_maker, is_name, sends_begin, turned}

-- the calls after a step, with the stop that may follow it
pub turned_calls : (up : Bool) (t : ℕ) (w : World) (m : Step) → (turned up t w m).calls ≡ entered m w.calls
unfolding after
turned_calls up t w m = by (sends_begin t w m && not up)
  where
    by : (c : Bool) → (if c then after t (after t w m) Stops else after t w m).calls ≡ entered m w.calls
    by true = refl
    by false = refl

-- a call that makes a name makes this one
name_here : (x : Name) (o : Option Name) → is_name x o ≡ true → o ≡ Some x
name_here (OfEnlistment e) (Some (OfEnlistment f)) k = ap (λ j. Some (OfEnlistment j)) (sym (eqb-true e f k))
name_here (OfEnlistment e) (Some (OfClone f)) k = absurd cc
name_here (OfEnlistment e) (Some (OfTransaction f)) k = absurd cc
name_here (OfEnlistment e) (Some (OfScope f)) k = absurd cc
name_here (OfEnlistment e) None k = absurd cc
name_here (OfClone e) (Some (OfClone f)) k = ap (λ j. Some (OfClone j)) (sym (eqb-true e f k))
name_here (OfClone e) (Some (OfEnlistment f)) k = absurd cc
name_here (OfClone e) (Some (OfTransaction f)) k = absurd cc
name_here (OfClone e) (Some (OfScope f)) k = absurd cc
name_here (OfClone e) None k = absurd cc
name_here (OfTransaction e) o k = absurd cc
name_here (OfScope e) o k = absurd cc

-- so both make the same
pub same_made : (o : Option Name) (d : Call) → is_maker o d ≡ true → (x : Name) × (o ≡ Some x) × (made_by d ≡ Some x)
same_made (Some x) d k = (x, refl, name_here x (made_by d) k)
same_made None d k = absurd cc
