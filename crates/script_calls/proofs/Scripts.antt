-- How many lines a script has, and that they give what was entered.
use Rattle.std.proofs.Common.{◌≡◌, ◌≤◌, ℕ, zero, suc, List, ◌∷◌, Some, arith, length, subst}
use Rattle.dtx_values.specs.declared.call.Call.{Call}
use Rattle.dtx_values.specs.declared.number.ActorNo.{ActorNo}
use Rattle.dtx_values.specs.declared.script.Line.{Line}
use Rattle.dtx_model.specs.Caused.{IsCallOf, IsIn}
use Rattle.dtx_model.specs.Grammar.{IsScript}
use Rattle.dtx_model.specs.Words.{kth}
use Rattle.dtx_model.specs.declared.waiting.EnteredCall.{EnteredCall}
use Rattle.line_reader.proofs.Scripts.{length_script}

-- a script has at most so many lines
pub few : (s : List Line) → IsScript s → length s ≤ 1048576
few s k = let bytes = length_script s in let within = k.within in omega arith

-- Each call that was entered is one that the script gives, where one more was entered that it gives.
pub given_more : (s : List Line) (t : ℕ) (k : EnteredCall) (ks : List EnteredCall) → IsCallOf s t k.line k.actor k.call → ((n : ℕ) (a : ActorNo) (c : Call) → IsIn ks n a c → IsCallOf s t n a c)
    → (n : ℕ) (a : ActorNo) (c : Call) → IsIn (k ∷ ks) n a c → IsCallOf s t n a c
given_more s t k ks mine given n a c i = by i.place i.stands
  where
    by : (j : ℕ) → kth (k ∷ ks) j ≡ Some (record { line = n; actor = a; call = c }) → IsCallOf s t n a c
    by zero e = absurd cc
    by (suc zero) e =
        let same : k ≡ record { line = n; actor = a; call = c } = cc in
        subst (λ (j : EnteredCall). IsCallOf s t j.line j.actor j.call) same mine
    by (suc (suc j)) e = given n a c (record { place = suc j; stands = e })
