use Rattle.std.proofs.Common.{◌≡◌, ◌∙◌, sym, [], List, Option, Some, None}
use Rattle.std.specs.Prelude.{IfNone}
use Rattle.std.specs.Iterator.{YieldsFirstBy}
use Rattle.std.specs.Option.{option_map}
use Rattle.dtx_values.specs.declared.number.EnlNo.{EnlNo}
use Rattle.dtx_values.specs.declared.tx_id.TxId.{TxId}
use Rattle.dtx_model.specs.Words.{put}
use Rattle.kv_resource.specs.Store.{Pair, in_doubt, numbers_of, open_records}
use Rattle.kv_resource.proofs.doubts.InDoubtIterator.next.Goals as goal

-- the first is given, or none is left
given : (o : Option (TxId × EnlNo)) (old new : List Pair) → put (option_map numbers_of o) new ≡ old → IfNone o (old ≡ []) → YieldsFirstBy numbers_of (λ s. s) old o new
given None old new e none = (none, e ∙ none)
given (Some x) old new e none = sym e

pub returns-clause-steps : goal.returns-clause-steps
returns-clause-steps c =
    let all = in_doubt (open_records c.self.inside.slots.now) in
    rw (← c.self.view_is) (given c.next_of-pair.result.0 all (in_doubt (open_records c.next_of-pair.result.1.now)) c.next_of-pair.ensures.first c.next_of-pair.ensures.none)
