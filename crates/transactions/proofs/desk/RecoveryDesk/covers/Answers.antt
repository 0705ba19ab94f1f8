use Rattle.std.proofs.Common.{◌≡◌, ◌∙◌, ap, rules, sym, take}
use Rattle.std.specs.List.{list_all}
use Rattle.std.proofs.lemmas.Iterator.{YieldsList-from_slice}
use Rattle.std.proofs.lemmas.Iterator.Search.{all_from_yields_List}
use Rattle.std.proofs.lemmas.List.Folds.{list_all-map}
use Rattle.dtx_values.specs.RecoveryInfo.{pair_of}
use Rattle.transactions.specs.Recovering.{has_recovered}
use Rattle.transactions.proofs.desk.RecoveryDesk.covers.Goals as goal

pub returns : goal.returns
returns c =
    let ms = c.args.self.now in
    let r = c.args.r.now in
    let all : c.all.result ≡ list_all (λ p. has_recovered p.0.value ms) c.pairs.result.now =
    all_from_yields_List (λ p. has_recovered p.0.value ms) _ _ c.all.result c.all.ensures.ran (YieldsList-from_slice c.pairs.result.now cc) (λ x b q k. search rules) in
    all ∙ (ap (list_all (λ p. has_recovered p.0.value ms)) c.pairs.ensures ∙ sym (list_all-map (λ p. has_recovered p.0 ms) pair_of (take r.count r.durables)))
