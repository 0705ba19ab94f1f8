-- A store as a holder of prepared work: what a crash may leave of it, what it keeps for good, and what a note makes of that.
use Rattle.std.specs.Prelude.{◌≡◌, ◌⊎◌, ℕ, ◌==◌, Bool, true, false, ◌&&◌, List, length, map, Option, Some, IsFalse, IsTrue}
use Rattle.dtx_values.specs.declared.note.Note.{Note}
use Rattle.dtx_values.specs.declared.note.Note.TheVariants.{Rollback}
use Rattle.dtx_values.specs.declared.note.Reply.{Reply}
use Rattle.dtx_values.specs.declared.note.Reply.TheVariants.{Vote as VoteReply, Ack}
use Rattle.dtx_values.specs.declared.words.Vote.TheVariants.{Yes}
use Rattle.dtx_model.specs.Outcome.{is_empty}
use Rattle.resource_managers.specs.Holding.{Holding}
use Rattle.kv_resource.specs.Held.{MayLeave, record_held}
use Rattle.kv_resource.specs.Images.{AllHold}
use Rattle.kv_resource.specs.Store.{KvMemory, KvState, Pair, has_marked, has_slot, open_records}
use Rattle.all_or_nothing.specs.Marks.{Becomes, fits_if, is_single, is_unmarked, marks_in}

-- what a store has in memory of enlistments, as a later process finds it
abbrev pub memory_held : KvMemory → List Holding
memory_held m = map (record_held false) (open_records m.slots)

-- whether these two numbers are the pair
abbrev pub is_pair : Pair → ℕ → ℕ → Bool
is_pair p n e = (p.0 == n) && (p.1 == e)

-- A crash may leave this of a store: what an image of its disk holds; or what it has in memory, where it isn't stopped.
abbrev pub KvLeaves : {D : Type 0} → Bool → (D → List ℕ → Type 0) → KvState D → List Holding → Type 0
KvLeaves honest image s hs = MayLeave honest image s hs ⊎ (IsFalse s.memory.stopped × (hs ≡ memory_held s.memory))

-- The memory of a store is sound: it has 1,024 slots; and a pair that it has as marked is held in all that a crash may leave, and isn't unmarked there.
pub record KvSound {D : Type 0} (honest : Bool) (image : D → List ℕ → Type 0) (s : KvState D) : Type 0 where
  pub many : length s.memory.slots ≡ 1024
  pub marked : (q : Pair) (hs : List Holding) → KvLeaves honest image s hs → has_marked s.memory q ≡ true → (is_empty (marks_in q.0 q.1 hs) ≡ false) × (is_unmarked (marks_in q.0 q.1 hs) ≡ false)

-- A store keeps a pair for good: it has an open slot, and the pair is held in all that a crash may leave.
abbrev pub KvKeeps : {D : Type 0} → Bool → (D → List ℕ → Type 0) → KvState D → Pair → Type 0
KvKeeps honest image s q = (has_slot s.memory q ≡ true) × ((hs : List Holding) → KvLeaves honest image s hs → is_empty (marks_in q.0 q.1 hs) ≡ false)

-- What a note to a pair makes of a store, as of a holder of prepared work. The reply fits the note. Whatever a crash may leave after the note came of something that it might have left before: what is held
-- of the pair became that by the note, where it was held once at most, and what is held of each other pair is the same. What the store votes yes of it keeps; it keeps what it kept, but for the pair that
-- was rolled back; what it kept isn't unmarked once it acknowledged; and its memory is sound.
pub record KvHolds {D : Type 0} (honest : Bool) (image : D → List ℕ → Type 0) (old : KvState D) (p : Pair) (n : Note) (a : Option Reply) (new : KvState D) : Type 0 where
  pub fitting : fits_if a n ≡ true
  pub turns : (hs : List Holding) → KvLeaves honest image new hs
      → (gs : List Holding) × KvLeaves honest image old gs × (is_single (marks_in p.0 p.1 gs) ≡ true → Becomes n a (marks_in p.0 p.1 gs) (marks_in p.0 p.1 hs)) × ((k f : ℕ) → is_pair p k f ≡ false → marks_in k f hs ≡ marks_in k f gs)
  pub yes : a ≡ Some (VoteReply Yes) → KvKeeps honest image new p
  pub stays : (q : Pair) → KvKeeps honest image old q → KvKeeps honest image new q ⊎ ((q ≡ p) × (n ≡ Rollback))
  pub acked : a ≡ Some Ack → KvKeeps honest image old p → (hs : List Holding) → KvLeaves honest image new hs → is_unmarked (marks_in p.0 p.1 hs) ≡ false
  pub sound : KvSound honest image new

-- The disk of a store has what the store has in memory: it isn't stopped, it has 1,024 slots, and each image of its disk holds what it has in memory. So it is once it was opened or formatted, and until a
-- call of its disk fails.
pub record IsAsStored {D : Type 0} (honest : Bool) (image : D → List ℕ → Type 0) (s : KvState D) : Type 0 where
  pub up : IsFalse s.memory.stopped
  pub many : length s.memory.slots ≡ 1024
  pub images : IsTrue honest → AllHold (image s.disk) (open_records s.memory.slots)
