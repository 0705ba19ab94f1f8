-- How the parts of a run follow each other: what two parts in a row keep, they keep together.
use Rattle.std.proofs.Common.{◌≡◌, ◌≤◌, ◌∙◌, ℕ, Result, Ok, Err, Bool, true, false, List, sym, subst, refl, arith, inl, inr}
use Rattle.std.specs.Prelude.{OnOk, nat_lt}
use Rattle.outside.proofs.Rising.{rose_earlier, rose_later}
use Rattle.dtx_model.specs.declared.waiting.EnteredCall.{EnteredCall}
use Rattle.dtx_values.specs.declared.script.Line.{Line}
use Rattle.dtx_model.specs.Caused.{Of}
use Rattle.dtx_model.specs.Words.{each, past_of}
use Rattle.heard_notes.specs.Heard.{HeardNote, heard}
use Rattle.coordinator_log.specs.State.{LogState}
use Rattle.tx_world.specs.State.{TxState}
use Rattle.replay_runs.specs.LogRun.{LogGoes, LogStays}
use Rattle.replay_runs.specs.RunState.{AreBelow, HaveSameCalls, HearsOn, Holds, RunState, RunsOn, StepsGo}

-- a log that nothing touched
pub goes_same : {D : Type 0} (faults : D → ℕ) (honest : Bool) (image : D → List ℕ → Type 0) (log : LogState D) → LogGoes faults honest image log log
goes_same faults honest image log = record { grows = omega arith; logs = λ h are. are; foreign = λ h before kept. kept }

pub stays_same : {D : Type 0} (faults : D → ℕ) (log : LogState D) → LogStays faults log log
stays_same faults log = record { stays = λ up none. inl up; still = λ up. up; unarmed = λ none. none; life = refl }

-- two parts of a run in a row, at the log
pub goes_then : {D : Type 0} (faults : D → ℕ) (honest : Bool) (image : D → List ℕ → Type 0) (a b c : LogState D) → LogGoes faults honest image a b → LogGoes faults honest image b c
    → LogGoes faults honest image a c
goes_then faults honest image a b c p q =
    record { grows = omega (arith, p.grows, q.grows); logs = λ h are. q.logs h (p.logs h are); foreign = λ h before kept. q.foreign h before (p.foreign h before kept) }

pub stays_then : {D : Type 0} (faults : D → ℕ) (a b c : LogState D) → faults a.disk ≤ faults b.disk → faults b.disk ≤ faults c.disk → LogStays faults a b → LogStays faults b c → LogStays faults a c
stays_then faults a b c first second p q =
    record {
      stays = λ up none.
          elim (p.stays up none) [
            | inl here ↦ elim (q.stays here (p.unarmed none)) [
              | inl there ↦ inl there
              | inr rose ↦ inr (rose_earlier (faults a.disk) (faults b.disk) (faults c.disk) first rose)
            ]
            | inr rose ↦ inr (rose_later (faults a.disk) (faults b.disk) (faults c.disk) rose second)
          ];
      still = λ up. p.still (q.still up);
      unarmed = λ none. q.unarmed (p.unarmed none);
      life = q.life ∙ p.life;
    }

-- and of the run
pub runs_same : {D : Type 0} (faults : D → ℕ) (honest : Bool) (image : D → List ℕ → Type 0) (obeys : Bool) (seen : D → List ℕ) (log : LogState D) (r : RunState) → Holds honest image log r → RunsOn faults honest image obeys seen log log r r
runs_same faults honest image obeys seen log r h = record { script = refl; objects = refl; holds = h; tells = λ start told. told; finds = λ is start found. found }

pub runs_then : {D : Type 0} (faults : D → ℕ) (honest : Bool) (image : D → List ℕ → Type 0) (obeys : Bool) (seen : D → List ℕ) (a b c : LogState D) (p q r : RunState) → RunsOn faults honest image obeys seen a b p q
    → RunsOn faults honest image obeys seen b c q r → RunsOn faults honest image obeys seen a c p r
runs_then faults honest image obeys seen a b c p q r first second =
    record {
      script = second.script ∙ first.script;
      objects = second.objects ∙ first.objects;
      holds = second.holds;
      tells = λ start told. second.tells start (first.tells start told);
      finds = λ is start found. second.finds is start (first.finds is start found);
    }

-- no part entered a call
pub calls_then : (a b c : List TxState) → HaveSameCalls a b → HaveSameCalls b c → HaveSameCalls a c
calls_then a b c p q = λ t. q t ∙ p t

-- steps that were none, and steps of two parts in a row
pub steps_same : {D : Type 0} (faults : D → ℕ) (honest : Bool) (image : D → List ℕ → Type 0) (log : LogState D) (r : RunState) → StepsGo faults honest image log log r r
steps_same faults honest image log r = record { contexts = refl; calls = λ t. refl; log = goes_same faults honest image log; stays = stays_same faults log }

pub steps_then : {D : Type 0} (faults : D → ℕ) (honest : Bool) (image : D → List ℕ → Type 0) (a b c : LogState D) (p q r : RunState) → StepsGo faults honest image a b p q → StepsGo faults honest image b c q r
    → StepsGo faults honest image a c p r
steps_then faults honest image a b c p q r first second =
    record {
      contexts = second.contexts ∙ first.contexts;
      calls = calls_then p.worlds q.worlds r.worlds first.calls second.calls;
      log = goes_then faults honest image a b c first.log second.log;
      stays = stays_then faults a b c first.log.grows second.log.grows first.stays second.stays;
    }

-- where no call was entered, the calls are still those of the lines before
pub below_same : (n : ℕ) (old new : List TxState) → HaveSameCalls old new → AreBelow n old → AreBelow n new
below_same n old new same below = λ t. subst (λ (ks : List EnteredCall). each (λ k. nat_lt k.line n) ks ≡ true) (sym (same t)) (below t)

-- A log that is stopped before a part is so after it.
pub down_still : (a b : Bool) → (b ≡ true → a ≡ true) → a ≡ false → b ≡ a
down_still true b still e = absurd cc
down_still false true still e = absurd (let k = still refl in cc)
down_still false false still e = refl

-- What objects hear of no part, of two parts in a row, and of one in which the script and those that have an object stay.
pub hears_same : {O : Type 0} (is_for : List Line → Of → O → Type 0) (hears : List Line → O → List HeardNote → O → Type 0) (r : RunState) (x : O) → is_for r.script r.objects x → HearsOn is_for hears r r x x
hears_same is_for hears r x made = record { made = made; reached = λ from reached. reached }

pub hears_then : {O : Type 0} (is_for : List Line → Of → O → Type 0) (hears : List Line → O → List HeardNote → O → Type 0) (p q r : RunState) (x y z : O) → HearsOn is_for hears p q x y → HearsOn is_for hears q r y z
    → HearsOn is_for hears p r x z
hears_then is_for hears p q r x y z first second = record { made = second.made; reached = λ from reached. second.reached from (first.reached from reached) }

pub hears_on : {O : Type 0} (is_for : List Line → Of → O → Type 0) (hears : List Line → O → List HeardNote → O → Type 0) (p q : RunState) (x y : O) → q.script ≡ p.script → q.objects ≡ p.objects → is_for p.script p.objects y
    → ((from : O) → hears p.script from (heard p.script p.objects (past_of p.trace)) x → hears p.script from (heard p.script p.objects (past_of q.trace)) y) → HearsOn is_for hears p q x y
hears_on is_for hears p q x y script objects made reached =
    record {
      made = subst (λ (s : List Line). is_for s q.objects y) (sym script) (subst (λ (o : Of). is_for p.script o y) (sym objects) made);
      reached = λ from before.
          subst (λ (s : List Line). hears s from (heard s q.objects (past_of q.trace)) y) (sym script)
          (subst (λ (o : Of). hears p.script from (heard p.script o (past_of q.trace)) y) (sym objects) (reached from before));
    }

-- and of one whose entries show no note
pub hears_none : {O : Type 0} (is_for : List Line → Of → O → Type 0) (hears : List Line → O → List HeardNote → O → Type 0) (p q : RunState) (x : O) → q.script ≡ p.script → q.objects ≡ p.objects → is_for p.script p.objects x
    → heard p.script p.objects (past_of q.trace) ≡ heard p.script p.objects (past_of p.trace) → HearsOn is_for hears p q x x
hears_none is_for hears p q x script objects made same =
    hears_on is_for hears p q x x script objects made (λ from before. subst (λ (hs : List HeardNote). hears p.script from hs x) (sym same) before)

-- what follows from two clauses of a result
pub on_ok_both : {T E A B C : Type 0} (r : Result T E) → (A → B → C) → OnOk r A → OnOk r B → OnOk r C
on_ok_both (Ok x) f a b = f a b
on_ok_both (Err e) f a b = tt
