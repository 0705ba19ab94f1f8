-- The two stores as holders of prepared work: where they hear an enlistment, what they keep for good, and what a crash may leave of both.
use Rattle.std.specs.Prelude.{◌≡◌, ℕ, Bool, List, Option}
use Rattle.dtx_values.specs.declared.note.Note.{Note}
use Rattle.dtx_values.specs.declared.note.Reply.{Reply}
use Rattle.recovery_laws.specs.Whole.{Site}
use Rattle.resource_managers.specs.declared.enlistment.Enlistment.{Enlistment}
use Rattle.all_or_nothing.specs.Marks.{Place}
use Rattle.kv_holding.specs.TwoStores.{AreSound, IsHandedOn, TwoKeep, TwoLeave, place_of}
use Rattle.ledger_book.specs.declared.stores.Stores.{Stores}

-- what they give to a note: the store that is enlisted hears it, and what each is enlisted as stays
abbrev pub stores_give : {D : Type 0} → Bool → (D → List ℕ → Type 0) → (D → ℕ) → Stores D → Enlistment → Note → Option Reply → Stores D → Type 0
stores_give honest image faults old e n a new = IsHandedOn honest image faults old.left old.right old.left_as old.right_as e n a new.left new.right × ((new.left_as ≡ old.left_as) × (new.right_as ≡ old.right_as))

-- the left store hears what it is enlisted as, at manager 1; the right one what it is, at manager 2
abbrev pub stores_place : {D : Type 0} → Stores D → Enlistment → Place
stores_place o e = place_of 1 2 o.left_as o.right_as e

-- the store that hears the enlistment keeps it for good
abbrev pub stores_keep : {D : Type 0} → Bool → (D → List ℕ → Type 0) → Stores D → Enlistment → Type 0
stores_keep honest image o e = TwoKeep honest image o.left o.right o.left_as o.right_as e

-- a crash may leave this of both
abbrev pub stores_leave : {D : Type 0} → Bool → (D → List ℕ → Type 0) → Stores D → List Site → Type 0
stores_leave honest image o ss = TwoLeave honest image 1 2 o.left o.right ss

-- the memory of both is sound
abbrev pub stores_sound : {D : Type 0} → Bool → (D → List ℕ → Type 0) → Stores D → Type 0
stores_sound honest image o = AreSound honest image o.left o.right
