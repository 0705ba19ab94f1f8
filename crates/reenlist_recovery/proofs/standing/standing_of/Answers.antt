use Rattle.std.proofs.Common.{◌∙◌, arith}
use Rattle.reenlist_recovery.proofs.Standings.{again-room, first-standing, next-standing, own-room}
use Rattle.reenlist_recovery.proofs.standing.standing_of.Goals as goal

pub loop-i-init : goal.loop-i-init
loop-i-init c = c.at_first-standing.ensures ∙ first-standing c.args.e c.args.history.now.items

pub follow-standing-requires-clause-own : goal.follow-standing-requires-clause-own
follow-standing-requires-clause-own c = own-room c.args.e c.args.history.now.items c.loop-i.i c.loop-i.standing (omega arith) (omega arith) c.loop-i.invariant

pub follow-standing-requires-clause-again : goal.follow-standing-requires-clause-again
follow-standing-requires-clause-again c = again-room c.args.e c.args.history.now.items c.loop-i.i c.loop-i.standing (omega arith) (omega arith) c.loop-i.invariant

pub loop-i-preserved : goal.loop-i-preserved
loop-i-preserved c =
    next-standing c.args.e c.args.history.now.items c.loop-i.i c.at.result c.loop-i.standing c.follow-standing.result (omega arith) c.at.ensures c.loop-i.invariant c.follow-standing.ensures
