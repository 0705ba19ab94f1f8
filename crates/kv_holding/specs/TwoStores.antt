-- Two stores as the objects of transactions: how they hear a note together, where, what they keep for good, and what a crash may leave of both.
use Rattle.std.specs.Prelude.{◌≡◌, ◌≢◌, ℕ, Bool, true, false, List, [], ◌∷◌, Option, Some, None}
use Rattle.dtx_values.specs.declared.note.Note.{Note}
use Rattle.dtx_values.specs.declared.note.Reply.{Reply}
use Rattle.recovery_laws.specs.Whole.{Site}
use Rattle.resource_managers.specs.Holding.{Holding}
use Rattle.resource_managers.specs.Pairs.{pair_of}
use Rattle.resource_managers.specs.declared.enlistment.Enlistment.{Enlistment}
use Rattle.kv_resource.specs.Images.{Gives}
use Rattle.kv_resource.specs.Store.{KvState}
use Rattle.all_or_nothing.specs.Marks.{At, Nowhere, Place}
use Rattle.all_or_nothing.specs.Objects.{AreHolders}
use Rattle.kv_holding.specs.Holding.{KvKeeps, KvLeaves, KvSound, is_pair}

-- The store that is enlisted so hears the note, and the other one stays as it is. Where neither is, nobody hears it.
pub record IsHandedOn {D : Type 0} (honest : Bool) (image : D → List ℕ → Type 0) (faults : D → ℕ) (left right : KvState D) (left_as right_as : Option Enlistment) (e : Enlistment) (n : Note) (a : Option Reply) (left_now right_now : KvState D) : Type 0 where
  pub to_left : left_as ≡ Some e → Gives honest image faults left (pair_of e) n a left_now × (right_now ≡ right)
  pub to_right : left_as ≢ Some e → right_as ≡ Some e → Gives honest image faults right (pair_of e) n a right_now × (left_now ≡ left)
  pub to_nobody : left_as ≢ Some e → right_as ≢ Some e → (a ≡ None) × ((left_now ≡ left) × (right_now ≡ right))

-- this is what is enlisted, by its numbers
abbrev pub is_as : Option Enlistment → Enlistment → Bool
is_as (Some x) e = is_pair (pair_of x) (pair_of e).0 (pair_of e).1
is_as None e = false

-- where two stores hear an enlistment, by whether it is the left one's, and by whether it is the right one's: at the left one's manager, at the right one's, or nowhere
abbrev pub place_by : ℕ → ℕ → Bool → Bool → Place
place_by i j true y = At i
place_by i j false true = At j
place_by i j false false = Nowhere

abbrev pub place_of : ℕ → ℕ → Option Enlistment → Option Enlistment → Enlistment → Place
place_of i j left_as right_as e = place_by i j (is_as left_as e) (is_as right_as e)

-- the first, or the second, or neither, by the same
abbrev pub KeptBy : Bool → Bool → Type 0 → Type 0 → Type 0
KeptBy true y L R = L
KeptBy false true L R = R
KeptBy false false L R = ⊥

-- the store that hears the enlistment keeps it for good
abbrev pub TwoKeep : {D : Type 0} → Bool → (D → List ℕ → Type 0) → KvState D → KvState D → Option Enlistment → Option Enlistment → Enlistment → Type 0
TwoKeep honest image left right left_as right_as e = KeptBy (is_as left_as e) (is_as right_as e) (KvKeeps honest image left (pair_of e)) (KvKeeps honest image right (pair_of e))

-- what two stores hold, each at its manager
abbrev pub two_sites : ℕ → ℕ → List Holding → List Holding → List Site
two_sites i j hs ks = record { manager = i; held = hs } ∷ record { manager = j; held = ks } ∷ []

-- a crash may leave this of both
abbrev pub TwoLeave : {D : Type 0} → Bool → (D → List ℕ → Type 0) → ℕ → ℕ → KvState D → KvState D → List Site → Type 0
TwoLeave honest image i j left right ss = (hs : List Holding) × (ks : List Holding) × KvLeaves honest image left hs × KvLeaves honest image right ks × (ss ≡ two_sites i j hs ks)

-- the memory of both is sound
abbrev pub AreSound : {D : Type 0} → Bool → (D → List ℕ → Type 0) → KvState D → KvState D → Type 0
AreSound honest image left right = KvSound honest image left × KvSound honest image right

-- two stores, and what each is enlisted as
pub record TwoStores (D : Type 0) : Type 0 where
  pub left : KvState D
  pub right : KvState D
  pub left_as : Option Enlistment
  pub right_as : Option Enlistment

-- what they give to a note, which enlists none anew
abbrev pub TheyGive : {D : Type 0} → Bool → (D → List ℕ → Type 0) → (D → ℕ) → TwoStores D → Enlistment → Note → Option Reply → TwoStores D → Type 0
TheyGive honest image faults old e n a new = IsHandedOn honest image faults old.left old.right old.left_as old.right_as e n a new.left new.right × ((new.left_as ≡ old.left_as) × (new.right_as ≡ old.right_as))

-- two stores of the managers i and j are holders of prepared work
abbrev pub AreTwoHolders : {D : Type 0} → Bool → (D → List ℕ → Type 0) → (D → ℕ) → ℕ → ℕ → Type 0
AreTwoHolders honest image faults i j =
    AreHolders (TheyGive honest image faults) (λ o. place_of i j o.left_as o.right_as) (λ o. TwoKeep honest image o.left o.right o.left_as o.right_as) (λ o. TwoLeave honest image i j o.left o.right)
    (λ o. AreSound honest image o.left o.right)
