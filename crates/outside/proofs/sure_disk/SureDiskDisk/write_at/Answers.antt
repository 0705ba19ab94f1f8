use Rattle.std.proofs.Common.{◌≡◌, ◌+◌, ◌≤◌, ◌∙◌, List, ℕ, ap, length, refl, subst, arith}
use Rattle.std.proofs.lemmas.List.{length-replicate}
use Rattle.outside.specs.Disk.{Follows, IsTorn, overwritten}
use Rattle.outside.specs.Images.{Images, IsOneOf, spoilt}
use Rattle.outside.proofs.Sheets.{length-overwritten}
use Rattle.outside.proofs.Writing.{IsTorn-overwritten, Follows-torn}
use Rattle.outside.proofs.sure_disk.SureDiskDisk.write_at.Goals as goal

pub returns-clause-images : goal.returns-clause-images
returns-clause-images c =
    let b = c.self.inside in
    let at = c.args.at in
    let from = c.args.from.now in
    let n = length from in
    let before : List ℕ = overwritten b.torn b.last (spoilt b.many) in
    let long : length (spoilt b.many) ≡ b.many = length-replicate b.many 0xA5 in
    let same : length before ≡ length b.kept = length-overwritten b.torn (spoilt b.many) b.last (omega (arith, long, c.self.invariant.1, c.self.invariant.2)) ∙ c.self.invariant.1 in
    let kept : length b.kept ≡ length c.args.self.now.kept = ap (λ (d : Images). length d.kept) c.self.view_is in
    let room : at + n ≤ length b.kept = omega (arith, kept, c.requires) in
    let after : List ℕ = overwritten c.spoil.new.self at (spoilt n) in
    let d : Images = record { kept = b.kept; synced = b.synced; torn = before } in
    let e : Images = record { kept = c.put.new.self; synced = b.synced; torn = after } in
    subst (λ (d : Images). Follows (IsTorn at n) (IsOneOf d) (IsOneOf e)) c.self.view_is
    (Follows-torn d e at n same refl (IsTorn-overwritten b.kept at n from c.put.new.self c.put.ensures refl room) (IsTorn-overwritten before at n (spoilt n) after (ap (λ (v : List ℕ). overwritten v at (spoilt n)) c.spoil.ensures) (length-replicate n 0xA5) (omega (arith, room, same))))
