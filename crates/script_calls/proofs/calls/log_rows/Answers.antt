use Rattle.std.proofs.Common.{◌+◌, ap, arith, sym, ◌∙◌}
use Rattle.dtx_values.specs.declared.number.ActorNo.{ActorNo}
use Rattle.line_reader.proofs.Scripts.{length_script}
use Rattle.script_calls.specs.Due.{log_call}
use Rattle.script_calls.specs.Rows.{row_at}
use Rattle.script_calls.proofs.Filling.{log_calls_next, log_row_more, log_row_same}
use Rattle.script_calls.proofs.calls.log_rows.Goals.{in-Some+in_ok-add, in_default}
use Rattle.script_calls.proofs.calls.log_rows.Goals as goal

pub overflow_add-n : goal.overflow_add-n
overflow_add-n c = let bytes = length_script c.args.lines.now in let within = c.requires.within in omega (arith, bytes, within, c.loop-l.invariant.0, c.loop-l-test.true)

pub loop-l-preserved : goal.loop-l-preserved
loop-l-preserved c =
    let lines = c.args.lines.now in
    let i = c.loop-l.l-index in
    let l = c.l-item.result in
    let n = c.loop-l.n in
    let row = λ (a : ActorNo). log_calls_next lines i n l a.value _ c.loop-l-test.true c.l-item.is c.loop-l.invariant.0 (c.loop-l.invariant.1 a) in
    elim c.match-log_call.branch [
      | in-Some+in_ok-add w ↦
          let given = sym c.log_call.ensures ∙ w.in-Some.is in
          (ap (λ k. k + 1) c.loop-l.invariant.0, λ a. ap (row_at a) w.rows-is ∙ log_row_more a l.actor (n + 1) (log_call l.body) w.in-Some.call c.loop-l.rows w.add.new.self given w.in_ok-add.ensures.here w.in_ok-add.ensures.others ∙ row a)
      | in_default w ↦
          let given = sym c.log_call.ensures ∙ w.in_default.is in
          (ap (λ k. k + 1) c.loop-l.invariant.0, λ a. log_row_same a l.actor (n + 1) (log_call l.body) c.loop-l.rows c.match-log_call.rows given w.rows-is ∙ row a)
    ]
