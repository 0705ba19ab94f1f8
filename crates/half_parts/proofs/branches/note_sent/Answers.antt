use Rattle.half_parts.proofs.Links.{room_for}
use Rattle.half_parts.proofs.branches.note_sent.Goals as goal

pub add-requires : goal.add-requires
add-requires c =
    room_for c.in-Enl.e c.in-EnlistEnlist.info.rm c.args.branches.now.items _ (rw (c.in-Enl.is, c.in-EnlistEnlist.is) at c.requires)
