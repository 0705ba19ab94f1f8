use Rattle.std.proofs.Common.{ap, sym, ◌∙◌, ◌∷◌, List, Option}
use Rattle.kv_resource.specs.Bytes.{KvRecord}
use Rattle.kv_resource.specs.Store.{in_doubt, open_records}
use Rattle.kv_resource.proofs.doubts.next_of.Goals as goal

pub loop-first-preserved : goal.loop-first-preserved
loop-first-preserved c =
    sym (ap (λ (l : List (Option KvRecord)). in_doubt (open_records l)) c.in-Some.ensures.cases.0
    ∙ ap (λ (s : Option KvRecord). in_doubt (open_records (s ∷ c.in-Some.others.now))) c.in_default-first.is) ∙ c.loop-first.invariant
