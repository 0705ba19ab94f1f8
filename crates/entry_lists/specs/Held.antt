-- Entries that take little room.
use Rattle.std.specs.Prelude.{ℕ, Bool, true, false, List, nat_lt, slice_index_or}
use Rattle.dtx_values.specs.declared.entry.Entry.{Entry}
use Rattle.dtx_values.specs.declared.entry.Answer.TheVariants.{Fine}
use Rattle.dtx_values.specs.declared.entry.Entry.TheVariants.{Called as CalledWith, Began as BeganWith, Enlisted as EnlistedWith, CommitAsked as AskedCommit, RollbackAsked as AskedRollback}
use Rattle.dtx_values.specs.declared.entry.Entry.TheVariants.{Clock as ClockAt, Asked as AskedOf, Voted as VotedOf, Sealed as SealedNow, Decided as DecidedAs, Told as ToldTo, Late}
use Rattle.dtx_values.specs.declared.entry.Party.TheVariants.{Client, Enl}
use Rattle.dtx_values.specs.declared.trace.Place.{Place}
use Rattle.dtx_values.specs.declared.trace.Place.TheVariants.{Context, Transaction, Log}
use Rattle.entry_lists.specs.declared.brief.Brief.{Brief}
use Rattle.entry_lists.specs.declared.brief.Brief.TheVariants.{Called, Began, Enlisted, CommitAsked, RollbackAsked, Clock, Asked, Voted, Sealed, Decided, Told, ToldClient, Whole}
use Rattle.entry_lists.specs.declared.short.ShortPlace.{ShortPlace}
use Rattle.entry_lists.specs.declared.short.ShortPlace.TheVariants.{Context as ShortContext, Transaction as ShortTransaction, Log as ShortLog}

-- entries, and for how many more there is room
pub record Held : Type 0 where
  pub items : List Entry
  pub room : ℕ

-- the same of entries with their places
pub record HeldPlaced : Type 0 where
  pub items : List (Place × Entry)
  pub room : ℕ

-- the entry that stands in few bytes, or whole among these
abbrev pub entry_in : List Entry → Brief → Entry
entry_in ws (Called a n) = CalledWith n a Fine
entry_in ws (Began n) = BeganWith n
entry_in ws (Enlisted e c) = EnlistedWith e c
entry_in ws CommitAsked = AskedCommit
entry_in ws RollbackAsked = AskedRollback
entry_in ws (Clock n) = ClockAt n
entry_in ws (Asked e a) = AskedOf e a
entry_in ws (Voted e v) = VotedOf e v
entry_in ws Sealed = SealedNow
entry_in ws (Decided o) = DecidedAs o
entry_in ws (Told e o) = ToldTo (Enl e) o
entry_in ws (ToldClient o) = ToldTo Client o
entry_in ws (Whole k) = slice_index_or ws k Late

-- it is the place of an entry that stands whole
abbrev pub is_whole : Brief → Bool
is_whole (Whole k) = true
is_whole _ = false

-- where it stands whole, it is one of so many
abbrev pub is_within : ℕ → Brief → Bool
is_within n (Whole k) = nat_lt k n
is_within n _ = true

-- the place that stands in few bytes
abbrev pub place_of : ShortPlace → Place
place_of (ShortContext a) = Context a
place_of (ShortTransaction t) = Transaction t
place_of ShortLog = Log

-- the same of an entry with its place
abbrev pub placed_in : List Entry → (ShortPlace × Brief) → Place × Entry
placed_in ws x = (place_of x.0, entry_in ws x.1)

abbrev pub is_placed_within : ℕ → (ShortPlace × Brief) → Bool
is_placed_within n x = is_within n x.1
