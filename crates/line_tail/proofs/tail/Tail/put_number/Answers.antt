use Rattle.std.proofs.Common.{rules, ◌≡◌, ◌≤◌, ◌-◌, decimal, length, ap, sym, ◌∙◌, arith, length-append, length-drop}
use Rattle.std.proofs.lemmas.Fmt.{length-decimal-le}
use Rattle.line_tail.specs.declared.tail.TheConstants.{LINE_ROOM}
use Rattle.line_tail.proofs.tail.Tail.put_number.Goals as goal

pub write_digits-self-inside-requires : goal.write_digits-self-inside-requires
write_digits-self-inside-requires c =
    let short : length (decimal c.args.n) ≤ 20 = search (rules, length-decimal-le 20) in
    let long : length c.self.inside.bytes ≡ LINE_ROOM = search rules in
    let left : length c.args.self.now ≡ length c.self.inside.bytes - c.self.inside.start = ap length (sym c.self.view_is) ∙ length-drop c.self.inside.start c.self.inside.bytes in
    (omega arith, omega arith)

pub returns-clause-length : goal.returns-clause-length
returns-clause-length c =
    let short : length (decimal c.args.n) ≤ 20 = search (rules, length-decimal-le 20) in
    grind (arith, length-append, c.write_digits-self-inside.ensures.written)
