use Rattle.std.proofs.Common.{◌≡◌, ◌∙◌, [], List, false, true, is_some, ap, subst, sym}
use Rattle.dtx_values.specs.declared.entry.Entry.{Entry}
use Rattle.dtx_values.specs.TxIds.{number_of}
use Rattle.dtx_values.specs.Outgoing.{written}
use Rattle.dtx_model.specs.Answers.{has_promotion}
use Rattle.half_parts.specs.Half.{Known, after}
use Rattle.half_parts.specs.Taken.{is_place_awaited, place_sent, with_waiter}
use Rattle.half_parts.proofs.Notes.{waits_for}
use Rattle.half_parts.proofs.Waiting.{place_awaited, started_facts}
use Rattle.local_half.proofs.half.LocalHalf.facts_of_waiting.Goals as goal

pub send_place-requires-clause-undecided : goal.send_place-requires-clause-undecided
send_place-requires-clause-undecided c =
    let k = c.args.self.now in
    subst (λ (k : Known). is_some k.half.seen.decided ≡ false) (sym c.wait.ensures) (waits_for (number_of k.transaction) k.half c.args.c.now c.requires.own c.requires.waits).undecided

pub send_place-requires-clause-awaited : goal.send_place-requires-clause-awaited
send_place-requires-clause-awaited c =
    subst (λ (k : Known). is_place_awaited k.half.waits c.args.c.now ≡ true) (sym c.wait.ensures) (place_awaited c.args.self.now.half.waits c.args.line c.args.c.now)

pub returns-then-has_promotion-clause-state : goal.returns-then-has_promotion-clause-state
returns-then-has_promotion-clause-state c =
    let k = c.args.self.now in
    let waiter = with_waiter c.args.line c.args.c.now k in
    c.send_place.ensures.state ∙ ap (λ (j : Known). after [] j (place_sent (number_of j.transaction) j.half c.args.c.now)) c.wait.ensures
    ∙ ap (λ (es : List Entry). after [] waiter es) (sym (started_facts (number_of k.transaction) k.half c.args.c.now c.requires.own c.requires.waits (sym c.has_promotion.ensures ∙ c.if-has_promotion.true)))

pub returns-then-has_promotion-clause-out : goal.returns-then-has_promotion-clause-out
returns-then-has_promotion-clause-out c =
    let k = c.args.self.now in
    c.send_place.ensures.out ∙ ap (λ (j : Known). written c.args.out.now (place_sent (number_of j.transaction) j.half c.args.c.now)) c.wait.ensures
    ∙ ap (λ (es : List Entry). written c.args.out.now es) (sym (started_facts (number_of k.transaction) k.half c.args.c.now c.requires.own c.requires.waits (sym c.has_promotion.ensures ∙ c.if-has_promotion.true)))

pub unreachable-requires : goal.unreachable-requires
unreachable-requires c =
    let k = c.args.self.now in
    let none : has_promotion k.half.seen ≡ false = sym c.has_promotion.ensures ∙ c.if-has_promotion.false in
    let some : is_some c.cause_for.result ≡ true = ap is_some c.cause_for.ensures ∙ (waits_for (number_of k.transaction) k.half c.args.c.now c.requires.own c.requires.waits).caused none in
    let never : is_some c.cause_for.result ≡ false = ap is_some c.in-None.is in
    cc
