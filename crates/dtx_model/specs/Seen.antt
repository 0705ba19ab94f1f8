-- What a history shows of one enlistment and of one clone, entry by entry, beside the rows of the tables; and of the timeout.
use Rattle.std.specs.Prelude.{ℕ, ◌≡◌, ◌==◌, nat_le, Bool, true, false, ◌&&◌, ◌||◌, not, List, [], ◌∷◌, Option, Some, None, if◌then◌else◌}
use Rattle.dtx_values.specs.declared.number.EnlNo.{EnlNo}
use Rattle.dtx_values.specs.declared.entry.Ask.TheVariants.{Prepare}
use Rattle.dtx_values.specs.declared.entry.Entry.{Entry}
use Rattle.dtx_values.specs.declared.entry.Entry.TheVariants.{Asked, Clock, Enlisted, Late, Lost, Reenlisted, TimedOut, Voted}
use Rattle.dtx_values.specs.declared.row.CloneRow.{CloneRow}
use Rattle.dtx_values.specs.declared.words.Vote.{Vote}
use Rattle.dtx_values.specs.Row.{is_marked}
use Rattle.dtx_values.specs.declared.row.Row.{Row}
use Rattle.dtx_values.specs.Table.{voted_before}
use Rattle.dtx_model.specs.Words.{has, each, latest, all_of}
use Rattle.dtx_model.specs.Entries.{began_of, is_asked, is_completed, is_told, is_vote}
use Rattle.dtx_model.specs.declared.listener.Listener.{Listener}
use Rattle.dtx_model.specs.Observed.{rows}

abbrev pub asked_of : Entry → Option EnlNo
asked_of (Asked e Prepare) = Some e
asked_of _ = None

-- who was asked to prepare before this enlistment came
abbrev pub asked_before : ℕ → List Entry → List EnlNo
asked_before e [] = []
asked_before e (Enlisted f c ∷ past) = if e == f.value then all_of asked_of past else asked_before e past
asked_before e (x ∷ past) = asked_before e past

-- each that was asked to prepare before this enlistment came voted
abbrev pub waited_for : List Entry → ℕ → Bool
waited_for h e = each (λ f. has (is_vote f.value) h) (asked_before e h)

abbrev pub vote_of : ℕ → Entry → Option Vote
vote_of e (Voted f v) = if e == f.value then Some v else None
vote_of e _ = None

-- the row says what the history shows of its enlistment: whether it was asked to prepare, its vote, and whether each that was asked
-- before it came voted
pub record IsSeen (h : List Entry) (x : Row) : Type 0 where
  pub marked : is_marked x ≡ has (is_asked x.number.value) h
  pub voted : x.vote ≡ latest (vote_of x.number.value) h
  pub waited : voted_before x.added (rows h) ≡ waited_for h x.number.value

-- the row says whether its clone was completed
abbrev pub IsCloneSeen : List Entry → CloneRow → Type 0
IsCloneSeen h r = r.complete ≡ has (is_completed r.clone.value) h

-- a tick brought the clock to n or past it
abbrev pub is_clock_from : ℕ → Entry → Bool
is_clock_from n (Clock m) = nat_le n m
is_clock_from n _ = false

-- a clock at n reaches this timeout, and no tick before it did
abbrev pub is_first_over : Option ℕ → ℕ → List Entry → Bool
is_first_over (Some d) n past = nat_le d n && not (has (is_clock_from d) past)
is_first_over None n past = false

-- the newest entry is the first clock that reaches the timeout
abbrev pub is_behind_first : List Entry → Bool
is_behind_first (Clock n ∷ past) = is_first_over (latest began_of past) n past
is_behind_first _ = false

-- where the entry is of a timeout, it stands directly behind the first clock that reached it
abbrev pub is_timely : List Entry → Entry → Bool
is_timely h TimedOut = is_behind_first h
is_timely h Late = is_behind_first h
is_timely h _ = true

-- this enlistment was lost, and didn't come back after it
abbrev pub is_away : ℕ → List Entry → Bool
is_away e [] = false
is_away e (Lost f ∷ past) = (e == f.value) || is_away e past
is_away e (Reenlisted f ∷ past) = not (e == f.value) && is_away e past
is_away e (x ∷ past) = is_away e past

-- the listener says whether its enlistment was told an outcome, and whether it is lost: it was, and didn't come back
pub record IsHeard (h : List Entry) (l : Listener) : Type 0 where
  pub told : l.told ≡ has (is_told l.enlistment.value) h
  pub lost : l.lost ≡ is_away l.enlistment.value h
