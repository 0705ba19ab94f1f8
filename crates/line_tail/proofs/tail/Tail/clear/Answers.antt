use Rattle.std.proofs.Common.{rules, ◌≤◌, length}
use Rattle.std.proofs.lemmas.List.{drop_all}
use Rattle.line_tail.specs.declared.tail.TheConstants.{LINE_ROOM}
use Rattle.line_tail.proofs.tail.Tail.clear.Goals as goal

pub returns : goal.returns
returns c =
    let long : length c.self.inside.bytes ≤ LINE_ROOM = search rules in
    drop_all LINE_ROOM c.self.inside.bytes long
