use Rattle.std.proofs.Common.{◌≡◌, ◌+◌, ◌∙◌, false, is_some, ap, arith}
use Rattle.dtx_values.specs.declared.tx_id.TxId.{TxId}
use Rattle.transactions.specs.Events.{event_of}
use Rattle.transactions.specs.Hearing.{listed}
use Rattle.transactions.specs.State.{LiveState}
use Rattle.transactions.proofs.Hearing.{hears-passed, passes-on, passes-silent}
use Rattle.transactions.proofs.live.Live.hear.Goals as goal

pub returns-then-is_some-clause-heard : goal.returns-then-is_some-clause-heard
returns-then-is_some-clause-heard c =
    let was = c.loop-next.invariant in
    let event = c.event_of-event.result in
    let items = c.history-history.result.now.items in
    let number : c.self.inside.number ≡ c.args.self.now.number = ap (λ (z : LiveState). z.number) c.self.view_is in
    let said : event ≡ event_of c.args.self.now.number c.at.result = c.event_of-event.ensures ∙ ap (λ (t : TxId). event_of t c.at.result) number in
    hears-passed _ _ (c.loop-next.next + 1) items (listed event) c.self.view_is c.history-history.ensures (passes-on _ _ c.loop-next.next items c.at.result event was (omega arith) c.at.ensures said)

pub loop-next-preserved : goal.loop-next-preserved
loop-next-preserved c =
    let was = c.loop-next.invariant in
    let event = c.event_of-event.result in
    let items = c.history-history.result.now.items in
    let number : c.self.inside.number ≡ c.args.self.now.number = ap (λ (z : LiveState). z.number) c.self.view_is in
    let said : event ≡ event_of c.args.self.now.number c.at.result = c.event_of-event.ensures ∙ ap (λ (t : TxId). event_of t c.at.result) number in
    let none : is_some event ≡ false = cc in
    passes-silent _ _ c.loop-next.next items c.at.result event none was (omega arith) c.at.ensures said
