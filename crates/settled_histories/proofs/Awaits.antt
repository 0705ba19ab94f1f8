-- What the coordinator's stage says of its decision. It awaits where it has decided nothing and told nobody anything: COMMIT wasn't got, the votes or YES are awaited, or the one that it let decide.
-- It withholds where whoever comes back waits there: it awaits, or who was let decide has answered, or was lost.
use Rattle.std.proofs.Common.{◌≡◌, Bool, true, false, ◌&&◌, List, [], ◌∷◌, refl}
use Rattle.std.specs.Prelude.{not, if◌then◌else◌}
use Rattle.std.proofs.lemmas.Bool.{true_from_ne_false}
use Rattle.dtx_values.specs.declared.entry.Entry.{Entry}
use Rattle.dtx_values.specs.declared.entry.Entry.TheVariants.{Sent, Got, Down as End, Logged, Freed, Restarted}
use Rattle.dtx_values.specs.declared.message.Conn.{Conn}
use Rattle.dtx_values.specs.declared.message.Conn.TheVariants.{Begin, Voter, Enl, Again}
use Rattle.dtx_values.specs.declared.message.Dir.TheVariants.{Up, Down}
use Rattle.dtx_values.specs.declared.message.Message.{Message}
use Rattle.dtx_values.specs.declared.message.Message.TheVariants.{BeginBegin, BeginCommitOne, EnlistOneCommitted, EnlistOneAborted, EnlistOneInDoubt, EnlistSingle}
use Rattle.dtx_values.specs.Lines.{has_line}
use Rattle.dtx_model.specs.declared.desk.Stage.{Stage}
use Rattle.dtx_model.specs.declared.desk.Stage.TheVariants.{Idle, Active, Sole, Given, Answered, Aborted, Recorded, Over, Unknown}
use Rattle.dtx_model.specs.Words.{has}
use Rattle.dtx_model.specs.Entries.{is_record}
use Rattle.dtx_model.specs.Coordinated.{Coordinated, abort_if, aborts, begin_if, behind_restart, coordinate, ended_stage, follow, has_desk, hears_one, is_active, is_given, is_one, is_sole, is_undecided, sole_if, stage_after, stage_if}
use Rattle.dtx_model.proofs.Bools.{not_both, or_false}

-- it has decided nothing, and nothing was decided for it
abbrev pub awaits : Stage → Bool
awaits Idle = true
awaits Active = true
awaits Sole = true
awaits Given = true
awaits _ = false

-- it awaits, or who was let decide has answered, or was lost
abbrev pub withholds : Stage → Bool
withholds Idle = true
withholds Active = true
withholds Sole = true
withholds Given = true
withholds Answered = true
withholds _ = false

-- a test of stages that only a decision of its own leaves
pub record IsUpheld (p : Stage → Bool) : Type 0 where
  pub idle : p Idle ≡ true
  pub active : p Active ≡ true
  pub sole : p Sole ≡ true
  pub given : p Given ≡ true
  pub aborted : p Aborted ≡ false
  pub recorded : p Recorded ≡ false
  pub over : p Over ≡ false
  pub unknown : p Unknown ≡ false

pub awaits_upheld : IsUpheld awaits
awaits_upheld = record { idle = refl; active = refl; sole = refl; given = refl; aborted = refl; recorded = refl; over = refl; unknown = refl }

pub withholds_upheld : IsUpheld withholds
withholds_upheld = record { idle = refl; active = refl; sole = refl; given = refl; aborted = refl; recorded = refl; over = refl; unknown = refl }

either_stage : (p : Stage → Bool) (b : Bool) (s t : Stage) → p s ≡ false → p t ≡ false → p (if b then s else t) ≡ false
either_stage p true s t m n = m
either_stage p false s t m n = n

module _ (p : Stage → Bool) (u : IsUpheld p) where
  begin_left : (s : Stage) → p s ≡ false → p (begin_if s) ≡ false
  begin_left Idle n = absurd (not_both (p Idle) u.idle n)
  begin_left s n = n

  sole_left : (c one : Bool) (s : Stage) → p s ≡ false → p (sole_if (is_active s && c) one s) ≡ false
  sole_left c one Active n = absurd (not_both (p Active) u.active n)
  sole_left c one s n = n

  single_left : (s : Stage) → p s ≡ false → p (stage_if (is_sole s) Given s) ≡ false
  single_left Sole n = absurd (not_both (p Sole) u.sole n)
  single_left s n = n

  one_left : (d : Bool) (s : Stage) → p s ≡ false → p (stage_if (is_given s && d) Answered s) ≡ false
  one_left d Given n = absurd (not_both (p Given) u.given n)
  one_left d s n = n

  abort_left : (b : Bool) (s : Stage) → p s ≡ false → p (abort_if b s) ≡ false
  abort_left b s n = either_stage p (b && is_undecided s) Aborted s u.aborted n

  ended_left : (d b : Bool) (s : Stage) → p s ≡ false → p (if is_given s && d then Answered else abort_if b s) ≡ false
  ended_left d b Given n = absurd (not_both (p Given) u.given n)
  ended_left d b s n = abort_left b s n

  end_left : (k : Coordinated) (c : Conn) (x : Entry) → p k.stage ≡ false → p (ended_stage k c x) ≡ false
  end_left k (Enl e) x n = ended_left (has_desk k e.value) (aborts k x) k.stage n
  end_left k Begin x n = abort_left (aborts k x) k.stage n
  end_left k Voter x n = abort_left (aborts k x) k.stage n
  end_left k (Again e) x n = abort_left (aborts k x) k.stage n

  restart_left : (found : Bool) (s : Stage) → p (behind_restart found s) ≡ false
  restart_left true s = u.recorded
  restart_left false Recorded = u.over
  restart_left false Over = u.over
  restart_left false _ = u.unknown

  got_left : (k : Coordinated) (c : Conn) (m : Message) → p k.stage ≡ false → p (stage_after k (Got c Up m)) ≡ false
  got_left k Begin BeginBegin n = begin_left k.stage n
  got_left k Begin BeginCommitOne n = sole_left (not k.commit) (is_one k.desks) k.stage n
  got_left k (Enl e) EnlistOneCommitted n = one_left (has_desk k e.value) k.stage n
  got_left k (Enl e) EnlistOneInDoubt n = one_left (has_desk k e.value) k.stage n
  got_left k (Enl e) EnlistOneAborted n = either_stage p (hears_one k e.value) Aborted k.stage u.aborted n
  got_left k c m n = either_stage p (has_line c Up m) (abort_if (aborts k (Got c Up m)) k.stage) (ended_stage k c (Got c Up m)) (abort_left (aborts k (Got c Up m)) k.stage n) (end_left k c (Got c Up m) n)

  sent_left : (k : Coordinated) (c : Conn) (m : Message) → p k.stage ≡ false → p (stage_after k (Sent c Down m)) ≡ false
  sent_left k (Enl e) EnlistSingle n = single_left k.stage n
  sent_left k (Enl e) m n = n
  sent_left k Begin m n = n
  sent_left k Voter m n = n
  sent_left k (Again e) m n = n

  stage_left : (k : Coordinated) (x : Entry) → p k.stage ≡ false → p (stage_after k x) ≡ false
  stage_left k (Got c Up m) n = got_left k c m n
  stage_left k (Got Begin Down m) n = n
  stage_left k (Got Voter Down m) n = n
  stage_left k (Got (Enl e) Down m) n = n
  stage_left k (Got (Again e) Down m) n = n
  stage_left k (Sent c Down m) n = sent_left k c m n
  stage_left k (Sent Begin Up m) n = n
  stage_left k (Sent Voter Up m) n = n
  stage_left k (Sent (Enl e) Up m) n = n
  stage_left k (Sent (Again e) Up m) n = n
  stage_left k (End c Up) n = end_left k c (End c Up) n
  stage_left k (End c Down) n = n
  stage_left k Logged n = u.recorded
  stage_left k Freed n = u.over
  stage_left k (Restarted found) n = restart_left found k.stage
  stage_left k x n = abort_left (aborts k x) k.stage n

  -- it was so before the newest entry
  pub upheld_before : (k : Coordinated) (x : Entry) → p (stage_after k x) ≡ true → p k.stage ≡ true
  upheld_before k x t = true_from_ne_false (p k.stage) (λ n. not_both (p (stage_after k x)) t (stage_left k x n))

  -- so there is no record
  pub upheld_unrecorded : (h : List Entry) → p (coordinate h).stage ≡ true → has is_record h ≡ false
  unfolding coordinate follow
  upheld_unrecorded [] t = refl
  upheld_unrecorded (x ∷ h) t = or_false (is_record x) (has is_record h) (one x t) (upheld_unrecorded h (upheld_before (coordinate h) x t))
    where
      one : (x : Entry) → p (stage_after (coordinate h) x) ≡ true → is_record x ≡ false
      one Logged t = absurd (not_both (p Recorded) t u.recorded)
      one (Restarted found) t = absurd (not_both (p (behind_restart found (coordinate h).stage)) t (restart_left found (coordinate h).stage))
      one _ t = refl

-- a restart isn't awaited
pub restart_is_left : (found : Bool) (s : Stage) → awaits (behind_restart found s) ≡ false
restart_is_left found s = restart_left awaits awaits_upheld found s

-- what the coordinator may still abort by itself, it awaits; and what it awaits, it withholds
pub undecided_awaits : (s : Stage) → is_undecided s ≡ true → awaits s ≡ true
undecided_awaits Idle t = refl
undecided_awaits Active t = refl
undecided_awaits Sole t = refl
undecided_awaits _ t = absurd cc

pub awaits_withholds : (s : Stage) → awaits s ≡ true → withholds s ≡ true
awaits_withholds Idle t = refl
awaits_withholds Active t = refl
awaits_withholds Sole t = refl
awaits_withholds Given t = refl
awaits_withholds _ t = absurd cc
