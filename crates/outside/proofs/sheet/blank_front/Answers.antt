use Rattle.std.proofs.Common.{◌≡◌, ◌-◌, ◌++◌, inl, inr, List, ℕ, ap, arith, drop, length, refl, rules, sym, take, ◌∙◌}
use Rattle.outside.specs.Disk.{overwritten}
use Rattle.outside.specs.Sheet.{with_zeros}
use Rattle.outside.proofs.Sheets.{blank-behind, blank-part, zeros}
use Rattle.outside.proofs.Writing.{vec_written}
use Rattle.outside.proofs.sheet.blank_front.Goals as goal

pub returns-then-at-n-clause-blanked : goal.returns-then-at-n-clause-blanked
returns-then-at-n-clause-blanked c size few room =
    let xs = c.args.front.now.items in
    let new = c.fill.new.bytes in
    let written : take c.args.front.now.len (new ++ drop (length new) xs) ≡ new = vec_written xs new c.args.front.now.len (search rules) (search rules) in
    ap (λ (v : List ℕ). with_zeros size v) (written ∙ c.fill.ensures ∙ ap (λ (v : List ℕ). overwritten v c.args.at (zeros c.args.n)) c.deref_mut.ensures.value)
    ∙ blank-part size xs c.args.at c.args.n c.args.n few room (omega (arith, c.if-at-n.true, c.len-held.ensures)) (omega arith) (inl refl)

pub returns-then-at-held-clause-blanked : goal.returns-then-at-held-clause-blanked
returns-then-at-held-clause-blanked c size few room =
    let xs = c.args.front.now.items in
    let k = c.len-held.result - c.args.at in
    let new = c.fill-then-at-held.new.bytes in
    let written : take c.args.front.now.len (new ++ drop (length new) xs) ≡ new = vec_written xs new c.args.front.now.len (search rules) (search rules) in
    ap (λ (v : List ℕ). with_zeros size v) (written ∙ c.fill-then-at-held.ensures ∙ ap (λ (v : List ℕ). overwritten v c.args.at (zeros k)) c.deref_mut-then-at-held.ensures.value)
    ∙ blank-part size xs c.args.at c.args.n k few room (omega (arith, c.if-at-held.true, c.len-held.ensures)) (omega (arith, c.if-at-n.false)) (inr (omega (arith, c.if-at-held.true, c.len-held.ensures)))

pub returns-else-at-held-clause-blanked : goal.returns-else-at-held-clause-blanked
returns-else-at-held-clause-blanked c size few room = sym (blank-behind size c.args.front.now.items c.args.at c.args.n (omega (arith, c.if-at-held.false, c.len-held.ensures)) room)
