use Rattle.kv_resource.specs.Bytes.{kv_head}
use Rattle.kv_resource.proofs.opening.store_head.Goals as goal

pub returns : goal.returns
unfolding kv_head
returns c = c.written_head.ensures
