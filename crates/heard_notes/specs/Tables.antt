-- The table that a run leaves is the fold of the puts of those that committed.
use Rattle.std.specs.Prelude.{ℕ, ◌==◌, ◌≡◌, nat_lt, Bool, true, false, ◌&&◌, ◌||◌, not, List, [], ◌∷◌, ◌++◌, codes, decimal, if◌then◌else◌}
use Rattle.dtx_values.specs.declared.entry.Entry.{Entry}
use Rattle.dtx_values.specs.declared.entry.Entry.TheVariants.{Acked, OwnerAnswered, PromoteReply, Requested, Told, Voted}
use Rattle.dtx_values.specs.declared.entry.Party.TheVariants.{Enl}
use Rattle.dtx_values.specs.declared.entry.Request.TheVariants.{Commit as RequestCommit}
use Rattle.dtx_values.specs.declared.number.TxNo.{TxNo}
use Rattle.dtx_values.specs.declared.words.Outcome.TheVariants.{Committed}
use Rattle.dtx_values.specs.declared.words.Vote.{Vote}
use Rattle.dtx_values.specs.declared.words.Vote.TheVariants.{Yes, Done}
use Rattle.dtx_values.specs.declared.script.Line.{Line}
use Rattle.dtx_model.specs.Caused.{Of, Volatiles, answers, same_vote}
use Rattle.dtx_model.specs.Traces.{Placed, history}
use Rattle.dtx_model.specs.Words.{each, has}
use Rattle.heard_notes.specs.declared.put.Put.{Put}

-- the entry says that the enlistment committed: as an owner, or by its acknowledgement; and of a volatile, where it is told
abbrev pub commits : ℕ → Entry → Bool
commits e (OwnerAnswered f Committed) = e == f.value
commits e (Acked f) = e == f.value
commits e _ = false

-- it tells the enlistment that the transaction committed
abbrev pub hears_commit : ℕ → Entry → Bool
hears_commit e (Told (Enl f) Committed) = e == f.value
hears_commit e _ = false

-- by this trace, newest entry first, the enlistment of the put committed
abbrev pub has_committed : Of → List Placed → Put → Bool
has_committed Volatiles T p = has (hears_commit p.enlistment.value) (history p.transaction.value T)
has_committed _ T p = has (commits p.enlistment.value) (history p.transaction.value T)

-- the table with a key's value: keys rising
abbrev pub with_value : ℕ → ℕ → List (ℕ × ℕ) → List (ℕ × ℕ)
with_value k v [] = (k, v) ∷ []
with_value k v (w ∷ ws) = if nat_lt w.0 k then w ∷ with_value k v ws else if w.0 == k then (k, v) ∷ ws else (k, v) ∷ w ∷ ws

-- the fold of the puts that pass, in order of lines
abbrev pub put_onto : (Put → Bool) → List (ℕ × ℕ) → List Put → List (ℕ × ℕ)
put_onto passes t [] = t
put_onto passes t (p ∷ ps) = put_onto passes (if passes p then with_value p.key p.value t else t) ps

-- the table after a run, by its trace, which stands newest entry first here
abbrev pub table_after : Of → List Placed → List Put → List (ℕ × ℕ)
table_after o T ps = put_onto (has_committed o T) [] ps

-- its text: a line KEY VALUE for each key
abbrev pub table_text : List (ℕ × ℕ) → List ℕ
table_text [] = []
table_text (w ∷ ws) = decimal w.0 ++ codes " " ++ decimal w.1 ++ 10 ∷ table_text ws

-- the enlistment has puts
abbrev pub has_puts : List Put → ℕ → Bool
has_puts ps e = has (λ p. e == p.enlistment.value) ps

-- the vote of one that has puts, and of one that has none
abbrev pub expected_vote : Bool → Vote
expected_vote true = Yes
expected_vote false = Done

-- a reply of one that has the object is yes with puts and done without, committed, ok, or a request to commit
abbrev pub is_willing_reply : (ℕ → Bool) → List Put → Entry → Bool
is_willing_reply who ps (Voted e v) = not (who e.value) || same_vote (expected_vote (has_puts ps e.value)) v
is_willing_reply who ps (OwnerAnswered e Committed) = true
is_willing_reply who ps (OwnerAnswered e o) = not (who e.value)
is_willing_reply who ps (PromoteReply e ok) = not (who e.value) || ok
is_willing_reply who ps (Requested e RequestCommit) = true
is_willing_reply who ps (Requested e r) = not (who e.value)
is_willing_reply who ps _ = true

-- so are all of them, by this trace, newest entry first
abbrev pub AreWilling : List Line → Of → List Put → List Placed → Type 0
AreWilling s o ps T = (t : TxNo) → each (is_willing_reply (answers s o) ps) (history t.value T) ≡ true
