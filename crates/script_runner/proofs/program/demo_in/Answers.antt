use Rattle.std.proofs.Common.{ℕ, List, Some, ap, arith, refl, subst, ◌∙◌}
use Rattle.dtx_model.specs.Grammar.{Reads}
use Rattle.script_maker.specs.Gen.{gen}
use Rattle.script_runner.proofs.Refusals.{not_on_threads, sure_answer}
use Rattle.script_runner.proofs.program.demo_in.Goals as goal

pub returns-clause-answers : goal.returns-clause-answers
returns-clause-answers g c =
    let script = c.make_script.ensures.script in
    sure_answer c.run_in.result.0 c.run_in.ensures.runs.asked c.run_in.ensures.runs.unlisted c.run_in.ensures.runs.unchecked
    (λ n cause e. c.reads_exactly.ensures.either (gen c.args.n) script.0 n cause script.1 (c.run_in.ensures.runs.input.bad n cause e (gen c.args.n) (ap Some (c.new-source.ensures ∙ c.in-Ok.ensures.text))))
    (λ n e. not_on_threads (c.run_in.ensures.runs.input.not_threadable n e).0)
    (λ e. let r = c.run_in.ensures.runs.faults.read_fault e in omega (arith, r))

pub returns-clause-given_up_whole : goal.returns-clause-given_up_whole
returns-clause-given_up_whole g c honest memory calm =
    let made = c.new-source.ensures ∙ c.in-Ok.ensures.text in
    c.run_in.ensures.runs.disk.given_up_whole refl honest memory calm (λ s is reads. c.make_script.ensures.no_log_line s (subst (λ (b : List ℕ). Reads b s) made (reads _ refl)))
