-- A script has one trace: traces that differ from the one of proofs/ReplayExample in an entry, and are none of its script. Each stands oldest first.
use Rattle.std.proofs.Common.{◌≡◌, ◌==◌, Bool, true, false, List, [], ◌∷◌, ◌++◌, refl, ap}
use Rattle.dtx_values.specs.declared.entry.Answer.TheVariants.{Did, OutcomeIs, StillOpen}
use Rattle.dtx_values.specs.declared.entry.Entry.TheVariants.{Called, Voted, Decided, Told}
use Rattle.dtx_values.specs.declared.entry.Party.TheVariants.{Client, Enl}
use Rattle.dtx_values.specs.declared.words.Outcome.TheVariants.{Committed, Aborted}
use Rattle.dtx_values.specs.declared.words.Vote.TheVariants.{Yes, No}
use Rattle.dtx_model.specs.Words.{has}
use Rattle.dtx_model.specs.Traces.{Placed, placed}
use Rattle.dtx_model.specs.History.{IsHistory, IsReplay}
use Rattle.script_histories.specs.LogQuiet.{is_log_sound}
use Rattle.script_histories.proofs.Determined.{history_same}
use Rattle.script_histories.proofs.ReplayExample.{did, is_history, is_replay, script, stepped, whole}
use Rattle.dtx_model.proofs.Cast.{a1, e1, t1}

-- a replay of the script in which the log is sound has that trace and no other
pub no_other : (T : List Placed) → is_log_sound T ≡ true → IsHistory script 0 0 T → IsReplay script 0 true T → placed t1 whole ≡ T
no_other T l h r = history_same script (placed t1 whole) T 0 true is_history is_replay h r refl l

-- an entry says that a `do` did one step, that the outcome isn't told yet, or that e1 votes no
abbrev says_one : Placed → Bool
says_one (p, Called n a (Did m)) = m == 1
says_one _ = false

abbrev says_open : Placed → Bool
says_open (p, Called n a StillOpen) = true
says_open _ = false

abbrev says_no : Placed → Bool
says_no (p, Voted e No) = true
says_no _ = false

-- the `do` says that it did one step where it did two
abbrev pub wrong_number : List Placed
wrong_number =
    placed t1
    (stepped ++ Called 4 a1 (Did 1) ∷ Voted e1 Yes ∷ Decided Committed ∷ Told (Enl e1) Committed ∷ Told Client Committed ∷ Called 5 a1 (OutcomeIs Committed) ∷ [])

pub wrong_number_is_none : IsHistory script 0 0 wrong_number → IsReplay script 0 true wrong_number → ⊥
wrong_number_is_none h r = let same : false ≡ true = ap (has says_one) (no_other wrong_number refl h r) in cc

-- the `await` is answered while the client is still to be told
abbrev pub early_answer : List Placed
early_answer = placed t1 (did ++ Voted e1 Yes ∷ Decided Committed ∷ Told (Enl e1) Committed ∷ Called 5 a1 StillOpen ∷ Told Client Committed ∷ [])

pub early_answer_is_none : IsHistory script 0 0 early_answer → IsReplay script 0 true early_answer → ⊥
early_answer_is_none h r = let same : false ≡ true = ap (has says_open) (no_other early_answer refl h r) in cc

-- e1 votes no, where its line plans a yes
abbrev pub other_vote : List Placed
other_vote = placed t1 (did ++ Voted e1 No ∷ Decided Aborted ∷ Told Client Aborted ∷ Called 5 a1 (OutcomeIs Aborted) ∷ [])

pub other_vote_is_none : IsHistory script 0 0 other_vote → IsReplay script 0 true other_vote → ⊥
other_vote_is_none h r = let same : false ≡ true = ap (has says_no) (no_other other_vote refl h r) in cc
