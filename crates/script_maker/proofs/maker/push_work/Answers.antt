use Rattle.std.proofs.Common.{◌≡◌, ◌++◌, refl, ap, ◌∙◌, arith, append_assoc}
use Rattle.dtx_model.specs.Grammar.{script_text}
use Rattle.script_maker.specs.Gen.{commit_line, enlisted_lines, first_durable_line, second_durable_line}
use Rattle.script_maker.proofs.Pushes.{kind_clone, kind_no, kind_owner, kind_two, kind_yes, text_push}
use Rattle.script_maker.proofs.maker.push_work.Goals as goal
use Rattle.script_maker.proofs.maker.push_work.Goals.{in-0+in_ok-push-in-0, in-1+in_ok-push-in-1, in-2+in_ok-push-in-2, in-3+in_ok-push-in-3+in_ok-push-in-3-2, in_default+in_ok-push-in_default}

pub returns : goal.returns
returns c =
    let old = c.args.lines.now.items in
    let k = c.args.k in
    let enlisted : script_text c.match-k-rem5.lines.items ≡ script_text old ++ enlisted_lines k = elim c.match-k-rem5.branch [
      | in-0+in_ok-push-in-0 w ↦ ap (λ v. script_text v.items) w.lines-is ∙ text_push _ _ _ _ _ w.in_ok-push-in-0.ensures.items refl w.volatile.ensures ∙ ap (λ y. script_text old ++ y) (kind_yes k w.in-0.is)
      | in-1+in_ok-push-in-1 w ↦ ap (λ v. script_text v.items) w.lines-is ∙ text_push _ _ _ _ _ w.in_ok-push-in-1.ensures.items refl w.volatile-in-1.ensures ∙ ap (λ y. script_text old ++ y) (kind_no k w.in-1.is)
      | in-2+in_ok-push-in-2 w ↦ ap (λ v. script_text v.items) w.lines-is ∙ text_push _ _ _ _ _ w.in_ok-push-in-2.ensures.items refl w.owner.ensures ∙ ap (λ y. script_text old ++ y) (kind_owner k w.in-2.is)
      | in-3+in_ok-push-in-3+in_ok-push-in-3-2 w ↦ ap (λ v. script_text v.items) w.lines-is
          ∙ text_push _ _ _ _ _ w.in_ok-push-in-3-2.ensures.items (text_push _ _ _ _ _ w.in_ok-push-in-3.ensures.items refl w.first_durable.ensures) w.second_durable.ensures
          ∙ append_assoc (script_text old) (first_durable_line k) (second_durable_line k) ∙ ap (λ y. script_text old ++ y) (kind_two k w.in-3.is)
      | in_default+in_ok-push-in_default w ↦ ap (λ v. script_text v.items) w.lines-is ∙ text_push _ _ _ _ _ w.in_ok-push-in_default.ensures.items refl w.rollback_clone.ensures
          ∙ ap (λ y. script_text old ++ y) (kind_clone k (omega arith) (omega arith) (omega arith) (omega arith))
    ] in
    text_push _ _ _ _ _ c.in_ok-push.ensures.items enlisted c.commit.ensures ∙ append_assoc (script_text old) (enlisted_lines k) (commit_line k)
