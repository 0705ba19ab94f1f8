use Rattle.std.proofs.Common.{◌≡◌, ◌+◌, [], List, ap, arith, drop, length, refl, replicate, subst, sym, take, ◌∙◌}
use Rattle.std.proofs.lemmas.List.{length-replicate}
use Rattle.dtx_values.specs.declared.call.Call.{Call}
use Rattle.dtx_values.specs.declared.script.Line.{Line}
use Rattle.dtx_model.specs.Words.{past_of}
use Rattle.scope_context.specs.Standing.{Standing}
use Rattle.line_reader.proofs.Scripts.{length_script}
use Rattle.script_calls.specs.Rows.{no_calls, row_at}
use Rattle.script_calls.specs.RowsOf.{rows_of}
use Rattle.script_calls.specs.Scoped.{AreOpen, calls_given, nothing_open, rolled_at}
use Rattle.script_calls.specs.SeenRow.{SeenRow}
use Rattle.script_calls.proofs.Filling.{calls_next, none_due, split_here}
use Rattle.script_calls.proofs.Openings.{open_none, past_next, rolled_here, unopened}
use Rattle.script_calls.proofs.calls.fill.Goals as goal

pub loop-l-init : goal.loop-l-init
loop-l-init c = record {
  count = refl;
  open_at = subst (λ (cs : List Standing). AreOpen cs []) (sym c.requires.contexts) open_none;
  calls = λ t a. ap (λ (all : List (List (SeenRow Call))). row_at a (rows_of t all)) c.requires.rows ∙ none_due t a;
}

pub overflow_add-n : goal.overflow_add-n
overflow_add-n c =
    let bytes = length_script c.args.plans.now in
    let within = c.requires.script.within in
    let same = ap length c.lines-lines.ensures in
    omega (arith, bytes, within, same, c.loop-l.invariant.count, c.loop-l-test.true)

pub given-requires-clause-unopened : goal.given-requires-clause-unopened
given-requires-clause-unopened c =
    let lines = c.lines-lines.result.now in
    let i = c.loop-l.l-index in
    let l = c.l-item.result in
    let split = sym c.lines-lines.ensures ∙ split_here lines i l c.loop-l-test.true c.l-item.is in
    unopened c.args.plans.now (take i lines) (drop (i + 1) lines) l c.loop-l.contexts split c.requires.script.named c.loop-l.invariant.open_at

pub given-requires-clause-all : goal.given-requires-clause-all
given-requires-clause-all c = c.loop-l.auto.contexts ∙ ap length c.requires.contexts ∙ length-replicate {A = Standing} 16 nothing_open

pub add_given-requires : goal.add_given-requires
add_given-requires c = c.loop-l.auto.rows ∙ ap length c.requires.rows ∙ length-replicate {A = List (SeenRow Call)} 256 (replicate 16 no_calls)

pub loop-l-preserved : goal.loop-l-preserved
loop-l-preserved c =
    let lines = c.lines-lines.result.now in
    let i = c.loop-l.l-index in
    let l = c.l-item.result in
    let before = past_of (take i lines) in
    let many : length c.given.new.contexts ≡ 16 = c.given.auto.contexts ∙ c.loop-l.auto.contexts ∙ ap length c.requires.contexts ∙ length-replicate {A = Standing} 16 nothing_open in
    let rolled : c.rolled-rolled.result.now ≡ rolled_at l.actor c.given.new.contexts =
    rolled_here c.given.new.contexts c.given.new.contexts l.actor c.index.result c.index-contexts-index.result c.rolled-rolled.result.now many c.index.ensures.place c.index-contexts-index.is
    (c.rolled-rolled.ensures ∙ ap (λ (x : Standing). x.rolled) (sym c.index-contexts-index.is)) refl in
    let given = ap (calls_given c.in_ok-gives.gives) rolled ∙ c.in_ok-gives.ensures.calls before c.loop-l.invariant.open_at in
    record {
      count = ap (λ n. n + 1) c.loop-l.invariant.count;
      open_at = subst (λ (ls : List Line). AreOpen c.given.new.contexts ls) (sym (past_next lines i l c.loop-l-test.true c.l-item.is)) (c.in_ok-gives.ensures.scopes before c.loop-l.invariant.open_at);
      calls = λ t a. c.in_ok-add_given.ensures t a
          ∙ calls_next c.args.plans.now lines i c.loop-l.n l a.value t.value _ _ c.loop-l-test.true c.l-item.is c.loop-l.invariant.count given (c.loop-l.invariant.calls t a);
    }
