use borrow.Author.Tests.{tests}
use Rattle.std.proofs.Common.{◌≡◌, ◌==◌, ◌∙◌, ◌&&◌, ap, rules, sym, take}
use Rattle.std.specs.List.{list_any}
use Rattle.std.proofs.lemmas.Iterator.{YieldsList-from_slice}
use Rattle.std.proofs.lemmas.Iterator.Search.{any_from_yields_List}
use Rattle.dtx_values.specs.RecoveryInfo.{pair_of}
use Rattle.transactions.proofs.Freeing.{list_any-map}
use Rattle.transactions.proofs.finishing.names.Goals as goal

pub returns : goal.returns
returns c =
    let m = c.args.rm.value in
    let e = c.args.e.value in
    let r = c.args.r.now in
    let any : c.any.result ≡ list_any (λ p. (m == p.0.value) && (e == p.1.value)) c.pairs.result.now =
    any_from_yields_List (λ p. (m == p.0.value) && (e == p.1.value)) _ _ c.any.result c.any.ensures.ran (YieldsList-from_slice c.pairs.result.now cc) (λ x b q k. search (rules, tests)) in
    any ∙ (ap (list_any (λ p. (m == p.0.value) && (e == p.1.value))) c.pairs.ensures ∙ sym (list_any-map (λ p. (m == p.0) && (e == p.1)) pair_of (take r.count r.durables)))
