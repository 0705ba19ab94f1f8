use Rattle.std.proofs.Common.{◌≡◌, ◌+◌, ◌≤◌, List, ℕ, ap, arith, length, sym, ◌∙◌}
use Rattle.outside.specs.Disk.{overwritten}
use Rattle.outside.proofs.Sheets.{length-with_zeros, put-both}
use Rattle.outside.proofs.sheet.Sheet.put.Goals as goal

pub returns : goal.returns
returns c =
    let size = c.self.inside.size in
    let long : length c.args.self.now ≡ size = ap length (sym c.self.view_is) ∙ length-with_zeros size c.self.inside.front.items c.self.invariant.0 in
    let room : c.args.at + length c.args.from.now ≤ size = omega (arith, c.requires, long) in
    put-both size c.self.inside.front.items c.put_front.new.front.items c.blank_front.new.front.items c.args.from.now c.args.at c.blank_from-end.result c.self.invariant.0 room
    c.blank_from-end.ensures.within c.blank_from-end.ensures.blank c.put_front.ensures.put (c.blank_front.ensures.blanked size)
    ∙ ap (λ (v : List ℕ). overwritten v c.args.at c.args.from.now) c.self.view_is
