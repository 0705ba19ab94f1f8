use Rattle.std.proofs.Common.{length-set, ap, ◌∙◌, arith}
use Rattle.tx_map.specs.Live.{MapState}
use Rattle.tx_map.specs.Puts.{write_of}
use Rattle.tx_map.proofs.LiveWrites.{refusal-none, rising-with_live, with_live-insert, with_live-set}
use Rattle.tx_map.proofs.Placing.{tallied-put}
use Rattle.tx_map.proofs.map.TxMap.put.Goals as goal

-- the key had a live write of the pair
pub invariant_of-self : goal.invariant_of-self
invariant_of-self c =
    let allowed = rw c.deref.ensures.value at c.in_ok-at.ensures.allowed in
    let free = refusal-none (c.args.t, c.args.e) c.args.key c.self.inside.live.items allowed in
    let at = rw (c.in-Ok.is, c.deref.ensures.value) at c.in_ok-at.ensures.own in
    let written = with_live-set (c.args.t, c.args.e) c.args.key c.args.value c.self.inside.live.items c.self.invariant.live_rises free c.in-Ok.at at in
    let len = length-set c.self.inside.live.items c.in-Ok.at (write_of (c.args.t, c.args.e) c.args.key c.args.value) in
    record {
      base_rises = c.self.invariant.base_rises;
      live_rises = rw written (rising-with_live (c.args.t, c.args.e) c.args.key c.args.value c.self.inside.live.items c.self.invariant.live_rises free);
      tallied = tallied-put (c.args.t, c.args.e) c.args.key c.args.value c.self.inside.live.items c.self.inside.pairs c.self.invariant.live_rises c.self.invariant.tallied allowed c.in-Ok.at at;
      spare_empty = c.self.invariant.spare_empty;
      base_room = omega (arith, len);
      spare_room = omega (arith, len);
    }

pub returns-in-Ok-clause-written : goal.returns-in-Ok-clause-written
returns-in-Ok-clause-written c =
    let free = refusal-none (c.args.t, c.args.e) c.args.key c.self.inside.live.items (rw c.deref.ensures.value at c.in_ok-at.ensures.allowed) in
    let at = rw (c.in-Ok.is, c.deref.ensures.value) at c.in_ok-at.ensures.own in
    let written = with_live-set (c.args.t, c.args.e) c.args.key c.args.value c.self.inside.live.items c.self.invariant.live_rises free c.in-Ok.at at in
    rw (← c.self.view_is) (ap (λ ws. let m : MapState = record { base = c.self.inside.base.items; live = ws } in m) written)

-- it had none
pub invariant_of-self-in-Ok-add : goal.invariant_of-self-in-Ok-add
invariant_of-self-in-Ok-add c =
    let free = refusal-none (c.args.t, c.args.e) c.args.key c.self.inside.live.items (rw c.deref.ensures.value at c.in_ok-at.ensures.allowed) in
    let gap = rw (c.in-Err.is, c.deref.ensures.value) at c.in_ok-at.ensures.new in
    let written = c.in-Ok-add.ensures.live ∙ with_live-insert (c.args.t, c.args.e) c.args.key c.args.value c.self.inside.live.items c.self.invariant.live_rises free c.in-Err.at gap in
    record {
      base_rises = rw c.in-Ok-add.ensures.base c.self.invariant.base_rises;
      live_rises = rw written (rising-with_live (c.args.t, c.args.e) c.args.key c.args.value c.self.inside.live.items c.self.invariant.live_rises free);
      tallied = c.in-Ok-add.ensures.tallied;
      spare_empty = c.in-Ok-add.ensures.spare ∙ c.self.invariant.spare_empty;
      base_room = c.in-Ok-add.ensures.made;
      spare_room = c.in-Ok-add.ensures.next;
    }

pub returns-in-Ok-add-clause-written : goal.returns-in-Ok-add-clause-written
returns-in-Ok-add-clause-written c =
    let free = refusal-none (c.args.t, c.args.e) c.args.key c.self.inside.live.items (rw c.deref.ensures.value at c.in_ok-at.ensures.allowed) in
    let gap = rw (c.in-Err.is, c.deref.ensures.value) at c.in_ok-at.ensures.new in
    let written = c.in-Ok-add.ensures.live ∙ with_live-insert (c.args.t, c.args.e) c.args.key c.args.value c.self.inside.live.items c.self.invariant.live_rises free c.in-Err.at gap in
    rw (← c.self.view_is, c.in-Ok-add.ensures.base) (ap (λ ws. let m : MapState = record { base = c.self.inside.base.items; live = ws } in m) written)
