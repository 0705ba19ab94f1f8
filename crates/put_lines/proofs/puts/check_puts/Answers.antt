use Rattle.std.proofs.Common.{◌≡◌, ◌+◌, [], ◌∷◌, ◌++◌, List, drop, take, ap, arith, subst, sym, ◌∙◌}
use Rattle.std.proofs.lemmas.List.{length-take-le, take_more}
use Rattle.dtx_model.specs.Words.{past_of}
use Rattle.dtx_model.proofs.Histories.{past_of-snoc}
use Rattle.heard_notes.specs.Puts.{Named, put_fault}
use Rattle.heard_notes.specs.Whose.{whose}
use Rattle.heard_notes.specs.declared.put.Put.{Put}
use Rattle.put_lines.specs.Input.{are_good}
use Rattle.put_lines.specs.Keys.{AreKeys}
use Rattle.put_lines.proofs.Goods.{cut_at, good_one_more}
use Rattle.put_lines.proofs.puts.check_puts.Goals as goal

pub returns-in-Some-clause-bad : goal.returns-in-Some-clause-bad
returns-in-Some-clause-bad c =
    let ps = c.args.puts.now in
    let i = c.loop-i.i in
    let p = c.index-puts-i.result in
    let before = past_of (take i ps) in
    let more : take (i + 1) ps ≡ take i ps ++ p ∷ [] = take_more ps i p (omega arith) ∙ ap (λ (x : Put). take i ps ++ x ∷ []) (sym c.index-puts-i.is) in
    record {
      before = take i ps;
      put = p;
      after = drop (i + 1) ps;
      whole = cut_at ps i p more;
      number = omega (arith, length-take-le i ps);
      good = c.loop-i.invariant.good;
      fault = ap (λ (n : Named). put_fault c.args.most n before p) (sym (c.in_ok-names.ensures.named p)) ∙ sym (c.in_ok-cause.ensures.fault before c.loop-i.invariant.keys) ∙ c.in-Some.is;
    }

pub loop-i-preserved : goal.loop-i-preserved
loop-i-preserved c =
    let ps = c.args.puts.now in
    let i = c.loop-i.i in
    let p = c.index-puts-i.result in
    let before = past_of (take i ps) in
    let more : take (i + 1) ps ≡ take i ps ++ p ∷ [] = take_more ps i p (omega arith) ∙ ap (λ (x : Put). take i ps ++ x ∷ []) (sym c.index-puts-i.is) in
    let fine = ap (λ (n : Named). put_fault c.args.most n before p) (sym (c.in_ok-names.ensures.named p)) ∙ sym (c.in_ok-cause.ensures.fault before c.loop-i.invariant.keys) ∙ c.in-None.is in
    record {
      good = ap (are_good c.args.most c.args.lines.now (whose c.args.of) []) more ∙ good_one_more c.args.most c.args.lines.now (whose c.args.of) (take i ps) p c.loop-i.invariant.good fine;
      keys = subst (λ (h : List Put). AreKeys h c.fault.new.keys) (sym (ap past_of more ∙ past_of-snoc (take i ps) p)) (c.in_ok-cause.ensures.kept before c.loop-i.invariant.keys c.in-None.is);
    }
