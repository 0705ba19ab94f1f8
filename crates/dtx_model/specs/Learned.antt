-- What an enlistment that came back learns.
use Rattle.std.specs.Prelude.{ℕ, ◌==◌, ◌≡◌, Bool, true, false, ◌&&◌, ◌||◌, not, List, [], ◌∷◌}
use Rattle.dtx_values.specs.declared.entry.Entry.{Entry}
use Rattle.dtx_values.specs.declared.entry.Entry.TheVariants.{Cut, Down as End, Got, LogFull, Lost, Reenlisted, Restarted, Stopped, Told}
use Rattle.dtx_values.specs.declared.entry.Party.TheVariants.{Enl}
use Rattle.dtx_values.specs.declared.message.Conn.TheVariants.{Begin, Voter, Enl as OnEnl, Again}
use Rattle.dtx_values.specs.declared.message.Dir.TheVariants.{Down, Up}
use Rattle.dtx_values.specs.declared.message.Message.TheVariants.{BeginAbort, BeginCommitOne, VoterNo, EnlistNo, EnlistOneAborted}
use Rattle.dtx_values.specs.declared.words.Outcome.{Outcome}
use Rattle.dtx_values.specs.declared.words.Outcome.TheVariants.{Committed, Aborted, InDoubt}
use Rattle.dtx_model.specs.Words.{has, always, ever}
use Rattle.dtx_model.specs.Entries.{is_record, is_told}
use Rattle.dtx_model.specs.Outcome.{by_log, evidence, is_lone, is_veto_end}
use Rattle.dtx_values.specs.Lines.{has_line}

-- the coordinator aborts at this entry: it got an abort, a No, or the Aborted of the one that it let decide, or COMMIT for a single phase where not exactly one enlistment came;
-- its log was full, it found no record, or it saw the end of a connection before that one's COMMIT, YES or vote came
abbrev pub is_abort : List Entry → Entry → Bool
is_abort h (Got Begin Up BeginAbort) = true
is_abort h (Got Voter Up VoterNo) = true
is_abort h (Got (OnEnl e) Up EnlistNo) = true
is_abort h (Got (OnEnl e) Up EnlistOneAborted) = true
is_abort h (Got Begin Up BeginCommitOne) = not (is_lone h) && is_veto_end h Begin Up
is_abort h (Got c Up m) = not (has_line c Up m) && is_veto_end h c Up
is_abort h (End c Up) = is_veto_end h c Up
is_abort h LogFull = true
is_abort h (Restarted found) = not found
is_abort h _ = false

-- it aborts at this entry, and no record was logged or found before
abbrev pub is_first_abort : List Entry → Entry → Bool
is_first_abort past x = is_abort past x && not (has is_record past)

-- CoordAborted: the coordinator aborted at some entry
unfoldable pub coordinator_aborted : List Entry → Bool
coordinator_aborted h = ever is_first_abort h

-- what may be told over the connection of a reenlistment: committed on evidence by the log, aborted where the coordinator aborted
abbrev pub may_learn : List Entry → Outcome → Bool
may_learn h Committed = evidence h && by_log h
may_learn h Aborted = coordinator_aborted h
may_learn h InDoubt = false

-- what E is told directly after a message to it, on the connection of its own reenlistment
abbrev pub is_learned : List Entry → Entry → Bool
is_learned (Got (Again f) Down m ∷ past) (Told (Enl e) o) = not (e.value == f.value) || may_learn (Got (Again f) Down m ∷ past) o
is_learned past _ = true

-- the enlistment was lost again, the coordinator stopped, or the connection of its reenlistment was cut
abbrev pub breaks_off : ℕ → Entry → Bool
breaks_off e (Lost f) = e == f.value
breaks_off e Stopped = true
breaks_off e (Cut (Again f) u w) = e == f.value
breaks_off e _ = false

-- whoever came back at the entry was told, where these entries stand after it: unless that was broken off, or nothing is decided at the coordinator
abbrev pub is_answered : Bool → List Entry → Entry → Bool
is_answered decided behind (Reenlisted e) = has (breaks_off e.value) behind || has (is_told e.value) behind || not decided
is_answered decided behind _ = true

abbrev pub are_answered : Bool → List Entry → List Entry → Bool
are_answered decided behind [] = true
are_answered decided behind (x ∷ past) = is_answered decided behind x && are_answered decided (x ∷ behind) past

-- the coordinator recorded the commit, or aborted
abbrev pub is_decided_there : List Entry → Bool
is_decided_there h = has is_record h || coordinator_aborted h

-- Learned: what is told over such a connection is the logged outcome, or abort where there is none
abbrev pub Learned : List Entry → Type 0
Learned h = always is_learned h ≡ true
