-- A map is a fold of what its pairs committed, and an undoing is exact.
use Rattle.std.specs.Prelude.{◌≡◌, ℕ, false, List, [], ◌∷◌, Option, Some, None}
use Rattle.dtx_values.specs.declared.note.Note.{Note}
use Rattle.dtx_values.specs.declared.note.Note.TheVariants.{Commit, Rollback}
use Rattle.tx_map.specs.declared.refusal.MapRefusal.{MapRefusal}
use Rattle.tx_map.specs.declared.write.LiveWrite.{LiveWrite}
use Rattle.tx_map.specs.declared.write.MapEntry.{MapEntry}
use Rattle.tx_map.specs.Live.{MapState, Pair, has_live, own}
use Rattle.tx_map.specs.Notes.{after_note, moved}
use Rattle.tx_map.specs.Puts.{after_put, put_refusal}

-- a call that changes a map: a put, which does nothing where it is refused, or a note
pub data MapCall : Type 0 where
  Puts : (pair : Pair) → (key : ℕ) → (value : Option ℕ) → MapCall
  Hears : (pair : Pair) → (note : Note) → MapCall

abbrev pub unless_refused : Option MapRefusal → MapState → MapState → MapState
unless_refused (Some r) old new = old
unless_refused None old new = new

abbrev pub after_call : MapState → MapCall → MapState
after_call m (Puts p k v) = unless_refused (put_refusal p k m.live) m (after_put p k v m)
after_call m (Hears p n) = after_note m p n

abbrev pub after_calls : MapState → List MapCall → MapState
after_calls m [] = m
after_calls m (c ∷ cs) = after_calls (after_call m c) cs

-- in front of the rest, what is live for the pair where the call is its Commit
abbrev pub taken : MapState → MapCall → List (List LiveWrite) → List (List LiveWrite)
taken m (Hears p Commit) rest = own p m.live ∷ rest
taken m _ rest = rest

-- what was live for the note's pair at each Commit, in the order in which they were heard
abbrev pub committed : MapState → List MapCall → List (List LiveWrite)
committed m [] = []
committed m (c ∷ cs) = taken m c (committed (after_call m c) cs)

abbrev pub moved_all : List (List LiveWrite) → List MapEntry → List MapEntry
moved_all [] b = b
moved_all (ws ∷ rest) b = moved_all rest (moved ws b)

-- the base after any calls is the fold of what was committed
abbrev pub IsFold : Type 0
IsFold = (m : MapState) (cs : List MapCall) → (after_calls m cs).base ≡ moved_all (committed m cs) m.base

-- puts of one pair
abbrev pub puts_of : Pair → List (ℕ × Option ℕ) → List MapCall
puts_of p [] = []
puts_of p (w ∷ ws) = Puts p w.0 w.1 ∷ puts_of p ws

-- puts of a pair that had no live write, and its Rollback, leave the map as it was
abbrev pub IsUndone : Type 0
IsUndone = (m : MapState) (p : Pair) (ws : List (ℕ × Option ℕ)) → has_live p m.live ≡ false → after_call (after_calls m (puts_of p ws)) (Hears p Rollback) ≡ m
