use Rattle.std.proofs.Common.{◌≡◌, ℕ, List, ◌∷◌, ap, refl, sym, ◌∙◌}
use Rattle.dtx_values.specs.declared.call.Call.TheVariants.{Gone}
use Rattle.dtx_values.specs.TxIds.{number_of}
use Rattle.dtx_values.specs.declared.entry.Answer.TheVariants.{Fine}
use Rattle.dtx_values.specs.declared.entry.Entry.{Entry}
use Rattle.dtx_values.specs.declared.entry.Entry.TheVariants.{Called, Lost}
use Rattle.dtx_model.specs.Outcome.{is_empty}
use Rattle.dtx_model.specs.Words.{onto, past_of}
use Rattle.dtx_model.specs.Steps.{Calls, entered}
use Rattle.dtx_model.specs.World.{answer_at, open_ones}
use Rattle.world_parts.specs.Entering.{links_cut}
use Rattle.tx_world.specs.State.{TxState, may_enter}
use Rattle.tx_world.proofs.Calling.{with_call}
use Rattle.tx_world.proofs.Leaving.{gone_stands, left, left_few, left_past, left_sendable, rows_promotable}
use Rattle.tx_world.proofs.Linking.{Linked}
use Rattle.tx_world.proofs.Silently.{linked_written, written_done, written_whole}
use Rattle.tx_world.proofs.Written.{stopped_is, world_of}
use Rattle.tx_world.proofs.world.TxWorld.enter_cut.Goals.{After-is_stopped, After-cut_links}
use Rattle.tx_world.proofs.world.TxWorld.enter_cut.Goals as goal

-- the loss is ready to be written, whatever number is given with it
ready : (c : After-is_stopped) (m : ℕ)
    → Linked c.self.inside.transaction (world_of c.self.inside.calls.items c.self.inside.history.past) (Calls c.args.line c.args.actor (Gone c.args.e) m) c.gone.new.self c.self.inside.core
    (Called c.args.line c.args.actor Fine ∷ Lost c.args.e ∷ links_cut c.self.inside.history.past c.is_promotable_row-promotes.result c.args.e)
ready c m =
    let i = c.self.inside in
    let w = world_of i.calls.items i.history.past in
    let may = ap (λ (x : TxState). may_enter x.world c.args.line (Gone c.args.e)) c.self.view_is ∙ c.requires.enters in
    let fine = ap (λ (x : TxState). answer_at (number_of x.transaction) x.world (Gone c.args.e) 0) c.self.view_is ∙ c.requires.fine in
    let some = ap (λ (x : TxState). is_empty (open_ones x.world c.args.e)) c.self.view_is ∙ c.requires.linked in
    let b = c.is_promotable_row-promotes.result in
    let row = rows_promotable i.transaction w i.half i.core c.args.e c.rows.result.now b c.self.invariant.kept c.rows.ensures.rows c.is_promotable_row-promotes.ensures in
    left i.transaction w i.half c.gone.new.self i.core c.args.line c.args.actor c.args.e b m c.self.invariant.kept may fine some row c.gone.ensures.state

-- the call is the newest
calls : (c : After-is_stopped) (m : ℕ) → past_of c.push_reserved.new.self.items ≡ entered (Calls c.args.line c.args.actor (Gone c.args.e) m) (past_of c.self.inside.calls.items)
calls c m =
    with_call c.self.inside.calls.items c.reserve_call.new.calls.items c.push_reserved.new.self.items (record { line = c.args.line; actor = c.args.actor; call = Gone c.args.e }) c.push_reserved.ensures.items
    c.in_ok-reserve_call.ensures.items

-- and its entries and the cuts come onto the past
past : (c : After-cut_links)
    → c.cut_links.new.self.past ≡ onto c.self.inside.history.past (Called c.args.line c.args.actor Fine ∷ Lost c.args.e ∷ links_cut c.self.inside.history.past c.is_promotable_row-promotes.result c.args.e)
past c =
    let h = c.self.inside.history.past in
    left_past c.args.line c.args.actor c.args.e c.is_promotable_row-promotes.result h c.write.new.self.past c.cut_links.new.self.past
    (c.write.ensures.past ∙ ap (λ (p : List Entry). Lost c.args.e ∷ Called c.args.line c.args.actor Fine ∷ p) c.in_ok-reserve.ensures.same) c.cut_links.ensures.past

pub gone-requires-clause-stands : goal.gone-requires-clause-stands
gone-requires-clause-stands c =
    let i = c.self.inside in
    let fine = ap (λ (x : TxState). answer_at (number_of x.transaction) x.world (Gone c.args.e) 0) c.self.view_is ∙ c.requires.fine in
    gone_stands i.transaction (world_of i.calls.items i.history.past) i.half i.core c.args.e c.self.invariant.kept fine

pub write-requires-clause-sendable : goal.write-requires-clause-sendable
write-requires-clause-sendable c =
    left_sendable c.args.line c.args.actor c.args.e c.is_promotable_row-promotes.result c.self.inside.history.past c.reserve.new.self.past c.in_ok-reserve.ensures.same (ready c 0).sendable

pub write-requires-clause-stopped : goal.write-requires-clause-stopped
write-requires-clause-stopped c =
    c.is_stopped.ensures ∙ stopped_is c.self.invariant.kept c.in_ok-reserve.ensures.same

pub cut_links-requires-clause-few : goal.cut_links-requires-clause-few
cut_links-requires-clause-few c =
    let h = c.self.inside.history.past in
    left_few c.args.line c.args.actor c.args.e h c.write.new.self.past
    (c.write.ensures.past ∙ ap (λ (p : List Entry). Lost c.args.e ∷ Called c.args.line c.args.actor Fine ∷ p) c.in_ok-reserve.ensures.same) (sym c.if-not-is_countable.ensures)

pub invariant_of-self-2 : goal.invariant_of-self-2
invariant_of-self-2 c =
    let b = (goal.at.invariant_of-self-2 c).After-is_stopped in
    written_whole (linked_written (ready b 0) refl (calls b 0) (past c)) c.self.invariant

pub returns-clause-done : goal.returns-clause-done
returns-clause-done c m =
    let b = (goal.at.returns-clause-done c).After-is_stopped in
    written_done c.self.inside.at_log c.args.self.now (linked_written (ready b m) refl (calls b m) (past c)) c.self.view_is
