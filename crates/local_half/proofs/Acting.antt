-- A local act makes at least one entry.
use Rattle.std.proofs.Common.{◌≡◌, Bool, true, false, List, ◌∷◌, ◌++◌, refl}
use Rattle.dtx_values.specs.declared.entry.Entry.{Entry}
use Rattle.dtx_values.specs.declared.entry.Entry.TheVariants.{Decided}
use Rattle.dtx_values.specs.declared.words.Outcome.{Outcome}
use Rattle.dtx_values.specs.declared.words.Outcome.TheVariants.{Committed}
use Rattle.dtx_model.specs.Half.{Half, ended, fails_if, is_promoting}
use Rattle.dtx_model.specs.Outcome.{is_empty}
use Rattle.local_half.specs.declared.half.acts.LocalAct.{LocalAct}
use Rattle.local_half.specs.declared.half.acts.LocalAct.TheVariants.{Write, Seal, Commit, SayYes}
use Rattle.local_half.specs.Told.{entries_of}

decision_made : (b : Bool) (x : Outcome) (es : List Entry) → is_empty (fails_if b ++ Decided x ∷ es) ≡ false
decision_made true x es = refl
decision_made false x es = refl

pub act_made : (h : Half) (a : LocalAct) → is_empty (entries_of h a) ≡ false
act_made h (Write x) = refl
act_made h Seal = refl
act_made h Commit = decision_made (is_promoting h.seen) Committed (ended h.waits Committed)
act_made h SayYes = refl
