-- Histories, newest entry first, in which the calls of the lines before `par` come first or don't.
use Rattle.std.proofs.Common.{◌≡◌, Bool, true, false, List, [], ◌∷◌, refl}
use Rattle.dtx_values.specs.declared.entry.Answer.TheVariants.{Fine}
use Rattle.dtx_values.specs.declared.entry.Entry.TheVariants.{Called}
use Rattle.dtx_model.proofs.Cast.{a1, a2}
use Rattle.script_calls.specs.FirstCalls.{are_first}

-- lines 1 and 2 stand before `par`, which is line 3; the calls of 4 and 5 come in either order
pub in_order : are_first 3 (Called 4 a1 Fine ∷ Called 5 a2 Fine ∷ Called 2 a2 Fine ∷ Called 1 a1 Fine ∷ []) ≡ true
in_order = refl

-- line 2 comes before line 1
pub out_of_order : are_first 3 (Called 1 a1 Fine ∷ Called 2 a2 Fine ∷ []) ≡ false
out_of_order = refl

-- line 4 comes before line 2
pub overtaken : are_first 3 (Called 2 a2 Fine ∷ Called 4 a1 Fine ∷ Called 1 a1 Fine ∷ []) ≡ false
overtaken = refl

-- without a `par` line any order will do
pub without_par : are_first 0 (Called 1 a1 Fine ∷ Called 2 a2 Fine ∷ []) ≡ true
without_par = refl
