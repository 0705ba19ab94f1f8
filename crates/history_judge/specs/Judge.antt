-- What a verdict on a history says. The history stands oldest entry first here.
use Rattle.std.specs.Prelude.{ℕ, ◌+◌, ◌<◌, ◌≡◌, true, false, List, length, take}
use Rattle.dtx_values.specs.declared.entry.Entry.{Entry}
use Rattle.history_judge.specs.declared.verdict.Verdict.{Verdict}
use Rattle.history_judge.specs.declared.verdict.Verdict.TheVariants.{Fine, NotJustified, Disagree}
use Rattle.dtx_model.specs.Words.{past_of}
use Rattle.dtx_model.specs.Outcome.{justified, agree}

-- place i, from 0, is the first at fault: before it what is told is just and agrees, and with it it isn't just any more
pub record IsNotJustifiedAt (h : List Entry) (i : ℕ) : Type 0 where
  pub within : i < length h
  pub just : justified (past_of (take i h)) ≡ true
  pub agrees : agree (past_of (take i h)) ≡ true
  pub fault : justified (past_of (take (i + 1) h)) ≡ false

-- place i is the first at fault: before it what is told is just and agrees, and with it it is still just, but doesn't agree
pub record IsDisagreementAt (h : List Entry) (i : ℕ) : Type 0 where
  pub within : i < length h
  pub just : justified (past_of (take i h)) ≡ true
  pub agrees : agree (past_of (take i h)) ≡ true
  pub still_just : justified (past_of (take (i + 1) h)) ≡ true
  pub fault : agree (past_of (take (i + 1) h)) ≡ false

-- the verdict is true of the history
abbrev pub IsVerdict : List Entry → Verdict → Type 0
IsVerdict h Fine = (justified (past_of h) ≡ true) × (agree (past_of h) ≡ true)
IsVerdict h (NotJustified i) = IsNotJustifiedAt h i
IsVerdict h (Disagree i) = IsDisagreementAt h i
