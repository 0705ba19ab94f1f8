use Rattle.std.proofs.Common.{◌≡◌, ◌∙◌, ap, subst}
use Rattle.std.specs.Prelude.{Result, Ok, Err, IfErr, IfOk}
use Rattle.script_runner.specs.Promises.{telling}
use Rattle.script_runner.proofs.Doing.{at_refusal, at_stop, at_text}
use Rattle.script_runner.proofs.program.run_in.Goals as goal

-- what holds of an Ok value holds of this one, and so of an error
of_ok : {A E : Type 0} (P : A → Type 0) (r : Result A E) (x : A) → r ≡ Ok x → IfOk r P → P x
of_ok P r x e h = subst (λ s. IfOk s P) e h

of_err : {A E : Type 0} (P : E → Type 0) (r : Result A E) (x : E) → r ≡ Err x → IfErr r P → P x
of_err P r x e h = subst (λ s. IfErr s P) e h

-- it is one of the two, and a result has one error
not_both : {A E : Type 0} (r : Result A E) (x : A) (y : E) → r ≡ Ok x → r ≡ Err y → ⊥
not_both r x y ok err = cc

one_error : {A E : Type 0} (r : Result A E) (x y : E) → r ≡ Err x → r ≡ Err y → x ≡ y
one_error r x y e f = cc

pub returns-in-Err-clause-runs : goal.returns-in-Err-clause-runs
returns-in-Err-clause-runs g c =
    at_refusal (telling g.S.Source.left g.S.Source.faults g.K.Sink.written g.K.Sink.faults g.D.Disk.honest g.D.Disk.seen g.D.Disk.image g.D.Disk.size g.D.Disk.faults) c.args.way c.args.form _
    c.reads_exactly.ensures.either c.reads_exactly.ensures.one c.reads_exactly.ensures.first c.args.source.now c.script_from.new.source c.args.sink.now c.args.disk c.in-Err.exit
    c.in-Err.ensures.refused c.in-Err.ensures.judged c.in-Err.ensures.cause c.in-Err.ensures.unfaulted

pub returns-in-Ok-traced-clause-runs : goal.returns-in-Ok-traced-clause-runs
returns-in-Ok-traced-clause-runs g c =
    let run = c.traced_anew-traced.ensures in
    let is = c.in-Ok-traced.is in
    at_text (telling g.S.Source.left g.S.Source.faults g.K.Sink.written g.K.Sink.faults g.D.Disk.honest g.D.Disk.seen g.D.Disk.image g.D.Disk.size g.D.Disk.faults) c.args.way c.args.form _
    c.reads_exactly.ensures.either c.reads_exactly.ensures.one c.in-Ok.script c.args.source.now c.script_from.new.source c.args.disk c.traced_anew-traced.result.1
    c.in-Ok.ensures.script.0 c.in-Ok.ensures.script.1 c.in-Ok.ensures.smooth c.in-Ok-traced.trace
    (of_ok _ _ _ is run.run) (of_ok _ _ _ is run.typed) (of_ok _ _ _ is run.frame_typed) (of_ok _ _ _ is run.carried) (of_ok _ _ _ is run.got_carried)
    c.args.sink.now c.written_in.new.sink c.written_in.result c.written_in.ensures.answers c.in-Ok.ensures.left
    c.written_in.ensures.all c.written_in.ensures.cut c.written_in.ensures.memory c.written_in.ensures.fault c.written_in.ensures.smooth
    (run.grows (λ k. not_both _ _ _ is k)) (λ h. run.logs h (λ k. not_both _ _ _ is k)) run.whole

pub returns-clause-runs : goal.returns-clause-runs
returns-clause-runs g c =
    let run = c.traced_anew-traced.ensures in
    let is = c.in-Err-traced.is in
    at_stop (telling g.S.Source.left g.S.Source.faults g.K.Sink.written g.K.Sink.faults g.D.Disk.honest g.D.Disk.seen g.D.Disk.image g.D.Disk.size g.D.Disk.faults) c.args.way c.args.form _
    c.reads_exactly.ensures.either c.reads_exactly.ensures.one c.in-Ok.script c.args.source.now c.script_from.new.source c.args.disk c.traced_anew-traced.result.1
    c.in-Ok.ensures.script.0 c.in-Ok.ensures.script.1 c.in-Ok.ensures.smooth
    c.args.sink.now c.in-Err-traced.exit (of_err _ _ _ is run.only)
    (λ e. run.fault (is ∙ ap Err e)) (λ ne. run.grows (λ k. ne (one_error _ _ _ is k))) (λ h ne. run.logs h (λ k. ne (one_error _ _ _ is k))) run.whole
