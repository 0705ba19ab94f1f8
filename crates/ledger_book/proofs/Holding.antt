-- The two stores are holders of prepared work.
use Rattle.std.specs.Prelude.{ℕ, Bool, List}
use Rattle.std.proofs.Common.{refl}
use Rattle.all_or_nothing.specs.Objects.{AreHolders}
use Rattle.kv_holding.proofs.TwoStores.{stores_hold as two_stores_hold}
use Rattle.ledger_book.specs.Holding.{stores_give, stores_keep, stores_leave, stores_place, stores_sound}

pub stores_hold : {D : Type 0} (honest : Bool) (image : D → List ℕ → Type 0) (faults : D → ℕ) → AreHolders (stores_give honest image faults) (λ o. stores_place o) (stores_keep honest image) (stores_leave honest image) (stores_sound honest image)
stores_hold honest image faults = two_stores_hold honest image faults 1 2 refl (λ o. o.left) (λ o. o.right) (λ o. o.left_as) (λ o. o.right_as) (stores_give honest image faults) (λ a b e n r g. g)
