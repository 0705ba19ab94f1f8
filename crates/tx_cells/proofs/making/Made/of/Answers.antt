use Rattle.std.proofs.Common.{Bool, false, ◌-◌, ◌||◌, ◌∙◌, ap, arith, sym, take}
use Rattle.std.proofs.lemmas.List.{get_or-replicate}
use Rattle.std.proofs.lemmas.List.Folds.{list_any_more}
use Rattle.dtx_values.specs.declared.script.Line.{Line}
use Rattle.dtx_model.specs.Grammar.{OfTransaction, is_made, makes, same_name}
use Rattle.dtx_model.specs.Words.{has}
use Rattle.tx_cells.proofs.making.Made.of.Goals as goal

pub loop-line-init : goal.loop-line-init
loop-line-init c = λ t. get_or-replicate 256 (t.value - 1) false false (omega (arith, t.in_range))

pub loop-line-preserved : goal.loop-line-preserved
loop-line-preserved c =
    let s = c.args.lines.now in
    let i = c.loop-line.line-index in
    λ t.
    let here : Line → Bool = λ l. has (λ m. same_name (OfTransaction t.value) m) (makes l.body) in
    c.keep.ensures t
    ∙ (ap (λ b. b || here c.line-item.result) (c.loop-line.invariant t)
    ∙ (ap (λ l. is_made (take i s) (OfTransaction t.value) || here l) c.line-item.is ∙ sym (list_any_more here s i c.line-item.result c.loop-line-test.true)))
