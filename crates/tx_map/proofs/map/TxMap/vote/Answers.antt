use Rattle.std.proofs.Common.{◌≡◌, length, sym, ap, ◌∙◌, arith, map}
use Rattle.std.proofs.lemmas.List.{length-map, with_items_is}
use Rattle.tx_map.specs.Notes.{marked}
use Rattle.tx_map.proofs.LiveWrites.{rising-marked}
use Rattle.tx_map.proofs.Tallying.{tallied-marked}
use Rattle.tx_map.proofs.map.TxMap.vote.Goals as goal

pub invariant_of-self : goal.invariant_of-self
invariant_of-self c =
    let marks : c.mark.new.live ≡ map (marked (c.args.t, c.args.e)) c.self.inside.live.items = c.mark.ensures ∙ ap (λ xs. map (marked (c.args.t, c.args.e)) xs) c.deref_mut.ensures.value in
    let many = ap length marks ∙ length-map c.self.inside.live.items (marked (c.args.t, c.args.e)) in
    let items = with_items_is c.self.inside.live c.mark.new.live (many ∙ sym c.self.inside.live.ok.0) ∙ marks in
    let len = ap length items ∙ length-map c.self.inside.live.items (marked (c.args.t, c.args.e)) in
    record {
      base_rises = c.self.invariant.base_rises;
      live_rises = rw items (rising-marked (c.args.t, c.args.e) 0 c.self.inside.live.items c.self.invariant.live_rises);
      tallied = rw items (tallied-marked (c.args.t, c.args.e) c.self.inside.live.items c.self.inside.pairs c.mark_tally.new.pairs c.self.invariant.tallied c.mark_tally.ensures.marked);
      spare_empty = c.self.invariant.spare_empty;
      base_room = omega (arith, len);
      spare_room = omega (arith, len);
    }
