use Rattle.std.proofs.lemmas.Bool.{both_ways}
use Rattle.std.proofs.Common.{◌≡◌, false, inl, refl, sym, ◌∙◌, arith}
use Rattle.coordinator_log.specs.Slots.{open_records}
use Rattle.transactions.proofs.Freeing.{frees_done, frees_failed, frees_none, some_found}
use Rattle.transactions.proofs.recovering.free_recovered.Goals as goal

pub returns-in-Some-clause-frees : goal.returns-in-Some-clause-frees
returns-in-Some-clause-frees g c =
    let log = c.args.log.now in
    let down : log.is_up ≡ false = sym c.is_up.ensures.up ∙ c.if-is_up.false in
    frees_failed g.D.Disk.honest g.D.Disk.image g.D.Disk.faults c.args.desk.now c.args.lives.now log log _ refl (frees_none c.args.desk.now c.args.lives.now (open_records log.slots))
    (some_found c.args.desk.now c.args.lives.now c.in-Some.field-0 (open_records log.slots) c.in-Some.ensures.found) (λ d. refl) (λ h up. absurd (both_ways log.is_up down up)) down (inl down) (omega arith)

pub returns-in-None-clause-frees : goal.returns-in-None-clause-frees
returns-in-None-clause-frees g c =
    let log = c.args.log.now in
    let down : log.is_up ≡ false = sym c.is_up.ensures.up ∙ c.if-is_up.false in
    frees_done g.D.Disk.honest g.D.Disk.image g.D.Disk.faults c.args.desk.now c.args.lives.now log log tt (frees_none c.args.desk.now c.args.lives.now (open_records log.slots))
    (c.in-None.ensures.none refl) (λ none. refl) (λ d. refl) (λ h up. absurd (both_ways log.is_up down up)) (λ h up. absurd (both_ways log.is_up down up)) refl refl

pub returns-in-Some-clause-left : goal.returns-in-Some-clause-left
returns-in-Some-clause-left g c h up = absurd (both_ways c.args.log.now.is_up (sym c.is_up.ensures.up ∙ c.if-is_up.false) up)

pub returns-in-None-clause-left : goal.returns-in-None-clause-left
returns-in-None-clause-left g c h up = absurd (both_ways c.args.log.now.is_up (sym c.is_up.ensures.up ∙ c.if-is_up.false) up)
