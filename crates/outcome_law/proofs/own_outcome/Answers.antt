use Rattle.dtx_model.specs.Caused.{IsIn}
use Rattle.script_histories.proofs.LocalTies.{unpromoted_tied}
use Rattle.script_histories.proofs.OneOutcome.{all_agree, all_just, all_learned}
use Rattle.script_histories.proofs.Runs.{own_free}
use Rattle.history_table.proofs.Steady.{free_keeps}
use Rattle.outcome_law.proofs.own_outcome.Goals as goal

pub returns-clause-just : goal.returns-clause-just
returns-clause-just c = λ t w once r d. all_just w.past (free_keeps (IsIn w.calls) t w.past once (own_free t w r) d)

pub returns-clause-agrees : goal.returns-clause-agrees
returns-clause-agrees c = λ t w once r d. all_agree w.past (free_keeps (IsIn w.calls) t w.past once (own_free t w r) d)

pub returns-clause-learned : goal.returns-clause-learned
returns-clause-learned c = λ t w once r d. all_learned w.past (free_keeps (IsIn w.calls) t w.past once (own_free t w r) d)

pub returns-clause-tied : goal.returns-clause-tied
returns-clause-tied c = λ t w r u. unpromoted_tied (IsIn w.calls) t w.past (own_free t w r) u
