-- A store before puts, and after them.
use Rattle.std.specs.Prelude.{◌≡◌, false, List, [], ◌∷◌, length, None}
use Rattle.heard_notes.specs.declared.put.Put.{Put}
use Rattle.kv_resource.specs.Store.{KvMemory, KvState, Pair, after_put, open_records, put_refusal}

-- an empty store, as it was made
pub record IsBlank (m : KvMemory) : Type 0 where
  pub up : m.stopped ≡ false
  pub empty : open_records m.slots ≡ []
  pub undrafted : m.drafts ≡ []
  pub many : length m.slots ≡ 1024

-- the pair whose put it is
abbrev pub pair_of : Put → Pair
pair_of p = (p.transaction.value, p.enlistment.value)

-- the store with a put, and with these, in order of lines
abbrev pub with_put : {D : Type 0} → KvState D → Put → KvState D
with_put m p = after_put (pair_of p) p.key p.value m

abbrev pub with_puts : {D : Type 0} → KvState D → List Put → KvState D
with_puts m [] = m
with_puts m (p ∷ ps) = with_puts (with_put m p) ps

-- none of them is refused, where its turn comes
abbrev pub AreAllowed : {D : Type 0} → KvState D → List Put → Type 0
AreAllowed m [] = Unit {0}
AreAllowed m (p ∷ ps) = (put_refusal m.memory (pair_of p) p.key ≡ None) × AreAllowed (with_put m p) ps
