use Rattle.std.proofs.Common.{[], List, ap, sym, ◌∙◌}
use Rattle.dtx_values.specs.declared.entry.Entry.{Entry}
use Rattle.dtx_values.specs.Outgoing.{Outgoing, written}
use Rattle.dtx_model.specs.Arrivals.{aborted_by, told_abort}
use Rattle.dtx_model.specs.Half.{Half}
use Rattle.half_parts.specs.Half.{Known, after}
use Rattle.half_parts.proofs.Deciding.{aborted_after, heeds_all-append}
use Rattle.local_half.proofs.News.{aborted_there}
use Rattle.local_half.proofs.half.LocalHalf.aborted_for.Goals as goal
use Rattle.dtx_model.proofs.Writing.{written-written}

pub returns : goal.returns
returns c =
    let k = c.args.self.now in
    let h = k.half in
    let e = c.args.e in
    let there = aborted_there h c.args.c e c.in_default.not-Again in
    record {
      state =
          c.learn.ensures.state ∙ ap (λ (j : Known). after [] j (aborted_by j.half)) c.tell_abort.ensures.state
          ∙ ap (λ (es : List Entry). after [] (after [] k (told_abort h e)) es) (aborted_after h e)
          ∙ ap (λ (g : Half). record { transaction = k.transaction; half = g }) (heeds_all-append [] h (told_abort h e) (aborted_by h))
          ∙ ap (λ (es : List Entry). after [] k es) (sym there);
      out =
          c.learn.ensures.out ∙ ap (λ (j : Known). written c.tell_abort.new.out (aborted_by j.half)) c.tell_abort.ensures.state
          ∙ ap (λ (es : List Entry). written c.tell_abort.new.out es) (aborted_after h e)
          ∙ ap (λ (o : Outgoing). written o (aborted_by h)) c.tell_abort.ensures.out
          ∙ written-written c.args.out.now (told_abort h e) (aborted_by h)
          ∙ ap (λ (es : List Entry). written c.args.out.now es) (sym there);
    }
