-- While nothing is promoted the steps are what proofs/Narrow has.
use Rattle.std.proofs.Common.{◌≡◌, Bool, true, false, List, [], ◌∷◌, Option, Some, None, refl, is_some, if◌then◌else◌}
use Rattle.dtx_values.specs.declared.entry.Entry.{Entry}
use Rattle.dtx_values.specs.declared.entry.Entry.TheVariants.{Sealed}
use Rattle.dtx_values.specs.declared.number.EnlNo.{EnlNo}
use Rattle.dtx_values.specs.declared.number.RmNo.{RmNo}
use Rattle.dtx_values.specs.declared.words.Outcome.{Outcome}
use Rattle.dtx_values.specs.Waves.{is_over, next_ask, all_voted}
use Rattle.dtx_values.specs.Owners.{owner_of}
use Rattle.dtx_model.specs.Observed.{Observed}
use Rattle.dtx_model.specs.Acts.{act_by as full_act_by, act_entries as full_act, ask_or, commit_act as full_commit}
use Rattle.dtx_model.proofs.Narrow.{act_by, act_entries, after_seal, before_seal, commit_act, undecided_act}
use Rattle.dtx_model.proofs.Unpromoted.{at_home}

-- the local act
commit_same : (o : Observed) (ms : List (EnlNo × RmNo)) (handed : Bool) (owner : Option EnlNo) → (if handed then [] else full_commit (at_home o ms) owner) ≡ commit_act handed owner
commit_same o ms true owner = refl
commit_same o ms false (Some e) = refl
commit_same o ms false None = refl

asked_same : (commit sealed over voted : Bool) (z n : Option EnlNo) (es fs : List Entry) → es ≡ fs →
    (if commit then (if sealed then ask_or n voted es else ask_or z over (Sealed ∷ [])) else []) ≡ undecided_act commit sealed (before_seal z over) (after_seal n voted fs)
asked_same false sealed over voted z n es fs e = refl
asked_same true false over voted (Some x) n es fs e = refl
asked_same true false over voted None n es fs e = refl
asked_same true true over voted z (Some x) es fs e = refl
asked_same true true over true z None es fs e = e
asked_same true true over false z None es fs e = refl

act_by_same : (d : Option Outcome) (o : Observed) (ms : List (EnlNo × RmNo)) → full_act_by d (at_home o ms) ≡ act_by d o
act_by_same (Some x) o ms = refl
act_by_same None o ms =
    asked_same o.commit o.sealed (is_over o.table o.clones 0) (all_voted o.table) (next_ask o.table true) (next_ask o.table false)
    (if is_some o.handed then [] else full_commit (at_home o ms) (owner_of o.table)) (commit_act (is_some o.handed) (owner_of o.table)) (commit_same o ms (is_some o.handed) (owner_of o.table))

pub act-narrow : (o : Observed) (ms : List (EnlNo × RmNo)) → full_act (at_home o ms) ≡ act_entries o
unfolding full_act act_entries
act-narrow o ms = act_by_same o.decided o ms
