use Rattle.std.proofs.Common.{◌≡◌, drop}
use Rattle.std.specs.Prelude.{find}
use Rattle.dtx_values.specs.TxIds.{number_of}
use Rattle.kv_resource.specs.Store.{is_busy_draft}
use Rattle.kv_resource.proofs.drafts.busy_draft.Given as goal

abbrev pub invariant-loop-d : goal.invariant-loop-d
invariant-loop-d l = find (is_busy_draft (number_of l.t, l.e.value) l.key) l.drafts ≡ find (is_busy_draft (number_of l.t, l.e.value) l.key) (drop l.d-index l.drafts)
