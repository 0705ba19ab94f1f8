-- What is held of one enlistment, and what a note makes of it.
use Rattle.std.specs.Prelude.{ℕ, ◌≡◌, ◌⊎◌, ◌==◌, ◌&&◌, ◌||◌, Bool, true, false, List, [], ◌∷◌, ◌++◌, Option, Some, None, if◌then◌else◌}
use Rattle.dtx_values.specs.declared.note.Note.{Note}
use Rattle.dtx_values.specs.declared.note.Note.TheVariants.{Prepare, Hand, Commit, Rollback}
use Rattle.dtx_values.specs.declared.note.Reply.{Reply}
use Rattle.dtx_values.specs.declared.number.EnlNo.{EnlNo}
use Rattle.dtx_values.specs.declared.note.Reply.TheVariants.{Vote as VoteReply, Ack}
use Rattle.dtx_values.specs.declared.words.Vote.TheVariants.{Yes, Done}
use Rattle.dtx_model.specs.Outcome.{is_empty}
use Rattle.dtx_model.specs.Replies.{fits}
use Rattle.resource_managers.specs.Holding.{Holding}
use Rattle.recovery_laws.specs.Whole.{Site, is_of_number}

-- the holdings of enlistment e of transaction n, by their marks: true is marked as committed
abbrev pub marks_in : ℕ → ℕ → List Holding → List Bool
marks_in n e [] = []
marks_in n e (h ∷ hs) = if is_of_number n h && (e == h.enlistment) then h.marked ∷ marks_in n e hs else marks_in n e hs

-- the same, at the resources of manager m
abbrev pub marks_of : ℕ → ℕ → ℕ → List Site → List Bool
marks_of m n e [] = []
marks_of m n e (s ∷ ss) = if m == s.manager then marks_in n e s.held ++ marks_of m n e ss else marks_of m n e ss

-- one at most is held
abbrev pub is_single : List Bool → Bool
is_single [] = true
is_single (b ∷ []) = true
is_single _ = false

-- it is held, and isn't marked; it is marked
abbrev pub is_unmarked : List Bool → Bool
is_unmarked (false ∷ []) = true
is_unmarked _ = false

abbrev pub is_marked : List Bool → Bool
is_marked (true ∷ []) = true
is_marked _ = false

abbrev pub is_same : List Bool → List Bool → Bool
is_same [] [] = true
is_same (true ∷ []) (true ∷ []) = true
is_same (false ∷ []) (false ∷ []) = true
is_same _ _ = false

-- under these notes something may come to be held; under these what is held may come to be marked; and under this it may go
abbrev pub begins : Note → Bool
begins Prepare = true
begins Hand = true
begins _ = false

abbrev pub commits : Note → Bool
commits Hand = true
commits Commit = true
commits _ = false

abbrev pub drops : Note → Bool
drops Rollback = true
drops _ = false

-- What is held of an enlistment may become this under a note: it stays; it comes to be held, and marked at once where it was handed the commit; it is marked; or it goes, where it isn't marked.
abbrev pub may_become : Note → List Bool → List Bool → Bool
may_become n old new =
    is_same old new || ((begins n && (is_empty old && (is_unmarked new || (commits n && is_marked new)))) || ((commits n && (is_unmarked old && is_marked new)) || (drops n && (is_unmarked old && is_empty new))))

-- What a note made of what is held of an enlistment, by the reply: after done it is as it was.
pub record Becomes (n : Note) (r : Option Reply) (old new : List Bool) : Type 0 where
  pub turned : may_become n old new ≡ true
  pub done : r ≡ Some (VoteReply Done) → new ≡ old

-- Where an object hears an enlistment: nowhere; as one that holds nothing for good, such as a volatile; or at the resource of a manager.
pub data Place : Type 0 where
  Nowhere : Place
  Passing : Place
  At : (manager : ℕ) → Place

abbrev pub is_at : Place → ℕ → Bool
is_at (At k) m = m == k
is_at _ m = false

abbrev pub fits_if : Option Reply → Note → Bool
fits_if (Some r) n = fits r n
fits_if None n = true

-- What a note to enlistment e of transaction n, which is heard at p, made of what is held: of no other is anything changed.
pub record IsTurned (p : Place) (n e : ℕ) (note : Note) (r : Option Reply) (old new : List Site) : Type 0 where
  pub own : (m : ℕ) → is_at p m ≡ true → is_single (marks_of m n e old) ≡ true → Becomes note r (marks_of m n e old) (marks_of m n e new)
  pub others : (m k f : ℕ) → (is_at p m && ((n == k) && (e == f))) ≡ false → marks_of m k f new ≡ marks_of m k f old

-- How objects hear a note to enlistment e of transaction n. By `place` they hear an enlistment, before the note and after it; by `keeps` they hold one for good; and by `leaves` a crash may leave what is
-- held. The reply fits the note. None votes yes of what is heard nowhere, and what votes yes at a resource is kept there, until it is rolled back. Whatever a crash may leave after the note came of
-- something that it might have left before; and what was kept isn't without a mark once it acknowledged.
pub record HearsAs (n : ℕ) (place : EnlNo → Place) (keeps keeps_now : EnlNo → Type 0) (leaves leaves_now : List Site → Type 0) (e : EnlNo) (note : Note) (r : Option Reply) : Type 0 where
  pub fitting : fits_if r note ≡ true
  pub somewhere : r ≡ Some (VoteReply Yes) → place e ≡ Nowhere → ⊥
  pub turns : (new : List Site) → leaves_now new → (old : List Site) × leaves old × IsTurned (place e) n e.value note r old new
  pub yes : r ≡ Some (VoteReply Yes) → (m : ℕ) → place e ≡ At m → keeps_now e
  pub stays : (f : EnlNo) → keeps f → keeps_now f ⊎ ((f ≡ e) × (note ≡ Rollback))
  pub acked : r ≡ Some Ack → keeps e → (m : ℕ) → place e ≡ At m → (ss : List Site) → leaves_now ss → is_unmarked (marks_of m n e.value ss) ≡ false
