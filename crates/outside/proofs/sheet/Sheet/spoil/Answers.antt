use Rattle.std.proofs.Common.{◌≡◌, List, ℕ, ap, arith, length, sym, ◌∙◌}
use Rattle.std.proofs.lemmas.List.{length-replicate}
use Rattle.outside.specs.Disk.{overwritten}
use Rattle.outside.specs.Images.{spoilt}
use Rattle.outside.specs.Sheet.{with_zeros}
use Rattle.outside.proofs.Sheets.{length-with_zeros, put-front}
use Rattle.outside.proofs.sheet.Sheet.spoil.Goals as goal

pub returns : goal.returns
returns c =
    let long : length c.args.self.now ≡ c.self.inside.size = ap length (sym c.self.view_is) ∙ length-with_zeros c.self.inside.size c.self.inside.front.items c.self.invariant.0 in
    ap (λ (v : List ℕ). with_zeros c.self.inside.size v) c.spoil_front.ensures.put
    ∙ put-front c.self.inside.size c.self.inside.front.items (spoilt c.args.n) c.args.at c.args.n (length-replicate {A = ℕ} c.args.n 0xA5) c.self.invariant.0 (omega (arith, c.requires, long)) ∙ ap (λ (v : List ℕ). overwritten v c.args.at (spoilt c.args.n)) c.self.view_is
