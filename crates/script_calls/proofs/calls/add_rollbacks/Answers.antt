use Rattle.std.proofs.Common.{◌≡◌, ◌+◌, ◌==◌, ◌∷◌, ◌++◌, [], List, ap, sym, take, ◌∙◌, if◌then◌else◌}
use Rattle.std.proofs.lemmas.List.{map-append, take_more}
use Rattle.dtx_values.specs.declared.call.Call.{Call}
use Rattle.dtx_values.specs.declared.call.Call.TheVariants.{Rollback}
use Rattle.dtx_values.specs.declared.number.TxNo.{TxNo}
use Rattle.dtx_model.specs.Words.{all_of, put}
use Rattle.script_calls.specs.Due.{due_at}
use Rattle.script_calls.specs.Rows.{row_at, with_calls}
use Rattle.script_calls.specs.RowsOf.{rows_of}
use Rattle.script_calls.specs.Scoped.{rollbacks}
use Rattle.script_calls.proofs.Filling.{row_more}
use Rattle.script_calls.proofs.calls.add_rollbacks.Goals as goal

pub loop-t-preserved : goal.loop-t-preserved
loop-t-preserved c = λ u b.
    let ts = c.args.rolled.now in
    let i = c.loop-t.t-index in
    let t = c.t-item.result in
    let own = b.value == c.args.a.value in
    let old = row_at b (rows_of u c.args.rows.now) in
    let more : rollbacks (take (i + 1) ts) ≡ rollbacks (take i ts) ++ (t, Rollback t) ∷ [] =
    ap rollbacks (take_more ts i t c.loop-t-test.true ∙ ap (λ (x : TxNo). take i ts ++ x ∷ []) (sym c.t-item.is)) ∙ map-append (λ (x : TxNo). (x, Rollback x)) (take i ts) (t ∷ []) in
    c.in_ok-add.ensures u b
    ∙ ap (with_calls (if own then put (due_at u.value c.args.n (t, Rollback t)) [] else [])) (c.loop-t.invariant u b)
    ∙ row_more own (due_at u.value c.args.n) (rollbacks (take i ts)) (t, Rollback t) old
    ∙ ap (λ (cs : List (TxNo × Call)). with_calls (if own then all_of (due_at u.value c.args.n) cs else []) old) (sym more)
