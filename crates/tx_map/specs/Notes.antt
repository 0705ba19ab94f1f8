-- What a note changes, and what is answered.
use Rattle.std.specs.Prelude.{◌≡◌, ℕ, ◌||◌, List, [], ◌∷◌, ◌++◌, map, Option, Some, None, if◌then◌else◌}
use Rattle.dtx_values.specs.declared.note.Note.{Note}
use Rattle.dtx_values.specs.declared.note.Note.TheVariants.{Prepare, Commit, Rollback}
use Rattle.dtx_values.specs.declared.note.Reply.{Reply}
use Rattle.dtx_values.specs.declared.note.Reply.TheVariants.{Vote as VoteReply}
use Rattle.dtx_values.specs.declared.number.EnlNo.{EnlNo}
use Rattle.dtx_values.specs.declared.number.TxNo.{TxNo}
use Rattle.dtx_values.specs.declared.words.Vote.{Vote}
use Rattle.dtx_values.specs.declared.words.Vote.TheVariants.{Yes, Done}
use Rattle.tx_map.specs.declared.write.LiveWrite.{LiveWrite}
use Rattle.tx_map.specs.declared.write.MapEntry.{MapEntry}
use Rattle.tx_map.specs.Live.{MapState, Pair, entry_key, has_live, is_of, others, own}
use Rattle.tx_map.specs.Order.{above, below}

-- the write, marked as voted where it is the pair's
abbrev pub marked : Pair → LiveWrite → LiveWrite
marked p w = record { transaction = w.transaction; enlistment = w.enlistment; key = w.key; value = w.value; voted = w.voted || is_of p w }

-- a key with its value, where it has one
abbrev pub entry_at : ℕ → Option ℕ → List MapEntry
entry_at k (Some v) = record { key = k; value = v } ∷ []
entry_at k None = []

abbrev pub entry_of : LiveWrite → List MapEntry
entry_of w = entry_at w.key w.value

-- the base with one write: what is below its key, the key with the new value, and what is above
abbrev pub base_with : LiveWrite → List MapEntry → List MapEntry
base_with w b = below entry_key w.key b ++ (entry_of w ++ above entry_key w.key b)

-- the base with each of the writes
abbrev pub moved : List LiveWrite → List MapEntry → List MapEntry
moved [] b = b
moved (w ∷ ws) b = moved ws (base_with w b)

-- a pair that wrote nothing is done; else it votes yes
abbrev pub vote_of : Pair → MapState → Vote
vote_of p m = if has_live p m.live then Yes else Done

-- only Prepare is answered
abbrev pub answer_of : MapState → Pair → Note → Option Reply
answer_of m p Prepare = Some (VoteReply (vote_of p m))
answer_of m p _ = None

-- Prepare marks the pair's live writes, Commit moves them into the base, Rollback drops them; no other note changes anything
abbrev pub after_note : MapState → Pair → Note → MapState
after_note m p Prepare = record { base = m.base; live = map (marked p) m.live }
after_note m p Commit = record { base = moved (own p m.live) m.base; live = others p m.live }
after_note m p Rollback = record { base = m.base; live = others p m.live }
after_note m p _ = m

-- what a map gives of a note
pub record GivesNote (old : MapState) (t : TxNo) (e : EnlNo) (n : Note) (answer : Option Reply) (new : MapState) : Type 0 where
  pub answered : answer ≡ answer_of old (t, e) n
  pub after : new ≡ after_note old (t, e) n
