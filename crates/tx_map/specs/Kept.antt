-- What the fields of a map keep.
use Rattle.std.specs.Prelude.{◌≡◌, [], vec_capacity}
use Rattle.tx_map.specs.declared.map.TxMap.TheInside.{Inside}
use Rattle.tx_map.specs.Live.{MapState, entry_key, write_key}
use Rattle.tx_map.specs.Room.{HasRoom}
use Rattle.tx_map.specs.Order.{IsRising}
use Rattle.tx_map.specs.Pairs.{AreTallied}

abbrev pub state_of : Inside → MapState
state_of m = record { base = m.base.items; live = m.live.items }

-- base and live are in order of key, each pair has its tally, and base and spare have room for a base with all live writes
pub record IsKept (m : Inside) : Type 0 where
  pub base_rises : IsRising entry_key m.base.items
  pub live_rises : IsRising write_key m.live.items
  pub tallied : AreTallied m.live.items m.pairs
  pub spare_empty : m.spare.items ≡ []
  pub base_room : HasRoom m.base.items m.live.items (vec_capacity m.base)
  pub spare_room : HasRoom m.base.items m.live.items (vec_capacity m.spare)
