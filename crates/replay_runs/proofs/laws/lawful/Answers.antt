use Rattle.std.proofs.Common.{◌≡◌, true, List, subst}
use Rattle.dtx_values.specs.declared.entry.Entry.{Entry}
use Rattle.dtx_model.specs.Caused.{FreelyCaused, IsCallOf}
use Rattle.dtx_model.specs.Tied.{tied as is_tied_history}
use Rattle.dtx_model.proofs.Bools.{or_false}
use Rattle.dtx_model.specs.Traces.{history}
use Rattle.dtx_model.specs.Words.{past_of}
use Rattle.outcome_law.specs.Appended.{has_append, stopped_at_append}
use Rattle.replay_runs.proofs.laws.lawful.Goals as goal

pub returns : goal.returns
returns c honest is_fresh s trace named caused settled tied unlike unfilled =
    let T = past_of trace in
    record {
      tied = tied;
      outcome = λ sound. record {
        just = λ t. c.one_outcome.ensures.just s t.value (history t.value T) named (caused t) (sound t);
        agrees = λ t. c.one_outcome.ensures.agrees s t.value (history t.value T) named (caused t) (sound t);
        learned = λ t. c.one_outcome.ensures.learned s t.value (history t.value T) named (caused t) (sound t);
      };
      complete = λ sound. record {
        told = λ t. c.completeness.ensures.told s t.value (history t.value T) named (caused t) (sound t);
        committed = λ t asked. c.completeness.ensures.committed s t.value (history t.value T) named (caused t) (settled sound t) asked;
        answered = λ t. c.completeness.ensures.answered s t.value (history t.value T) named (caused t) (sound t);
      };
      waited = λ sound t. c.completeness.ensures.waited s t.value (history t.value T) named (caused t) (sound t);
      rights = λ sound. record {
        one = λ t. c.rights.ensures.one s t.value (history t.value T) named (caused t) (sound t);
        seen = λ t. c.rights.ensures.placed s t (history t.value T) named (caused t);
        moves = λ t past es x split.
            c.rights.ensures.moves s t.value past es x named (subst (λ (h : List Entry). FreelyCaused (IsCallOf s t.value) t.value h) split (caused t)) (subst (λ (h : List Entry). is_tied_history h ≡ true) split (sound t));
      };
      appends = λ sound. record {
        untried = λ t aborted.
            or_false (has_append (history t.value T)) (stopped_at_append (history t.value T)) (c.appends.ensures.unlogged s t.value (history t.value T) named (caused t) (sound t) aborted)
            (c.untried.ensures s t (history t.value T) named (caused t) (sound t) aborted);
        barred = λ t aborted. c.appends.ensures.barred s t.value (history t.value T) named (caused t) (sound t) aborted;
        backed = λ t. c.appends.ensures.backed s t.value (history t.value T) named (caused t) (sound t);
      };
      stops = λ sound. record {
        withheld = λ t. c.stops.ensures.withheld s t.value (history t.value T) named (caused t) (sound t);
        never = λ t. c.stops.ensures.never s t.value (history t.value T) named (caused t) (sound t);
      };
      unlike = unlike;
      unfilled = unfilled;
    }
