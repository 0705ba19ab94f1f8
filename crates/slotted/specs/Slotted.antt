-- A slotted file: a head of 512 bytes, and 1,024 slots of 512 bytes each. Byte 0 of a slot is its gate, and 1 is open; what stands after a closed gate isn't looked at.
-- Such files differ in the head and in what an open slot holds.
use Rattle.std.specs.Prelude.{◌≡◌, ◌⊎◌, ℕ, zero, suc, ◌+◌, ◌==◌, List, [], ◌∷◌, ◌++◌, replicate, slice_index, slice_index_or, take, drop, set, map, Option, Some, None, Result, Ok, Err, if◌then◌else◌}
use Rattle.std.specs.List.{filter_map}
use Rattle.outside.specs.Disk.{IsOnly}
use Rattle.dtx_model.specs.Log.{◌>>=◌, same_at}

-- what a slot is read as: what it holds, or nothing where its gate is closed; or the first place in it of another form
abbrev pub SlotRead : Type 0 → Type 0
SlotRead A = Result (Option A) ℕ

-- a slot, where `body` reads the bytes after the gate
abbrev pub gated : {A : Type 0} → (List ℕ → Result A ℕ) → List ℕ → SlotRead A
gated body b = if slice_index b 0 == 1 then (body (drop 1 b) >>= λ r. Ok (Some r)) else Ok None

-- so many slots, one behind the other
unfoldable pub slots_by : {A : Type 0} → (List ℕ → SlotRead A) → ℕ → List ℕ → List (SlotRead A)
slots_by f zero b = []
slots_by f (suc n) b = f (take 512 b) ∷ slots_by f n (drop 512 b)

-- the slots of a file
unfoldable pub slots_in : {A : Type 0} → (List ℕ → SlotRead A) → List ℕ → List (SlotRead A)
slots_in f b = slots_by f 1024 (drop 512 b)

-- what the open slots hold that begin at this place, in order, or the first place of another form
abbrev pub held_from : {A : Type 0} → ℕ → List (SlotRead A) → Result (List A) ℕ
held_from place [] = Ok []
held_from place (Ok None ∷ ss) = held_from (place + 512) ss
held_from place (Ok (Some r) ∷ ss) = held_from (place + 512) ss >>= λ rs. Ok (r ∷ rs)
held_from place (Err p ∷ ss) = Err (place + p)

-- what a file holds with this head and these slots, or the first place of another form
abbrev pub held_by : {A : Type 0} → List ℕ → (List ℕ → List (SlotRead A)) → List ℕ → Result (List A) ℕ
held_by head slots_of b = same_at 0 head (take 512 b) >>= λ _. held_from 512 (slots_of b)

-- what stands in the slots whose gates are open, in order of slots
abbrev pub held_in : {A : Type 0} → List (Option A) → List A
held_in ss = filter_map (λ s. s) ss

-- a slot of the form that the file has
abbrev pub formed : {A : Type 0} → Option A → SlotRead A
formed s = Ok s

-- The slots before and after a write. `slots_of` reads the slots of a file.

-- the same head, and the slots are these
pub record HasSlotsBy {A : Type 0} (slots_of : List ℕ → List (SlotRead A)) (was : List ℕ) (held : List (SlotRead A)) (now : List ℕ) : Type 0 where
  pub same_head : take 512 now ≡ take 512 was
  pub slots : slots_of now ≡ held

-- slot k is as before, or reads as this; all else is as before
abbrev pub IsEitherBy : {A : Type 0} → (List ℕ → List (SlotRead A)) → List ℕ → ℕ → SlotRead A → List ℕ → Type 0
IsEitherBy slots_of was k s c = HasSlotsBy slots_of was (slots_of was) c ⊎ HasSlotsBy slots_of was (set (slots_of was) k s) c

-- slot k reads as this
abbrev pub IsSlotBy : {A : Type 0} → (List ℕ → List (SlotRead A)) → ℕ → SlotRead A → List ℕ → Type 0
IsSlotBy slots_of k s b = slice_index_or (slots_of b) k (Err 0) ≡ s

-- the disk's bytes are such a file with these slots, and a crash leaves nothing else
pub record AgreesBy {A : Type 0} (head : List ℕ) (slots_of : List ℕ → List (SlotRead A)) (seen : List ℕ) (image : List ℕ → Type 0) (slots : List (Option A)) : Type 0 where
  pub at_head : take 512 seen ≡ head
  pub on_disk : slots_of seen ≡ map formed slots
  pub durable : IsOnly seen image

-- the bytes are this head, zeros to the end of the file, and whatever comes after it
pub record IsBlank (head b : List ℕ) : Type 0 where
  pub zeros : ℕ
  pub rest : List ℕ
  pub many : 512 + zeros ≡ 524800
  pub is : b ≡ head ++ replicate zeros 0 ++ rest
