use Rattle.std.proofs.Common.{◌≡◌, ◌∙◌, ◌⊎◌, ◌++◌, ◌∷◌, [], false, List, Result, Ok, Err, subst, sym}
use Rattle.std.specs.Prelude.{OnOk, is_err}
use Rattle.coordinator_log.specs.Slots.{open_records}
use Rattle.resource_managers.specs.Holding.{Holding}
use Rattle.transactions.specs.Recovering.{OnlyFrees}
use Rattle.transactions.specs.Recovery.{IsFoundPartly, IsOneOf}
use Rattle.transactions.specs.Slots.{Standing}
use Rattle.transactions.proofs.Covering.{one_of}
use Rattle.transactions.proofs.manager.TransactionManager.recover.Given.{Over}
use Rattle.transactions.proofs.manager.TransactionManager.recover.Goals.{After-finish_all, After-free_covered}
use Rattle.transactions.proofs.manager.TransactionManager.recover.Goals as goal

-- what a crash leaves of the resource
images : (g : Over) (c : After-finish_all g) (hs : List Holding) → g.R.Recoverable.leaves c.finish_all.new.r hs
    → g.R.Recoverable.leaves c.args.r.now hs ⊎ IsFoundPartly (open_records c.args.self.now.log.slots) c.args.rm.value (g.R.Recoverable.holds c.args.r.now) hs
images g c hs left =
    subst (λ (s : Standing _ _). g.R.Recoverable.leaves c.args.r.now hs ⊎ IsFoundPartly (open_records s.log.slots) c.args.rm.value (g.R.Recoverable.holds c.args.r.now) hs) c.self.view_is
    (c.finish_all.ensures.images hs left)

-- what isn't refused is done
done_of : {A E : Type 0} (z : Result A E) (P : Type 0) → is_err z ≡ false → OnOk z P → P
done_of (Ok x) P isnt done = done
done_of (Err e) P isnt done = absurd cc

-- it is one call of recovery, as the law says it
one : (g : Over) (c : After-free_covered g) → IsOneOf c.args.desk.now c.args.rm (open_records c.args.self.now.log.slots) (open_records c.free_covered.new.self.log.slots)
one g c =
    let desk : c.add.new.self ≡ c.args.desk.now ++ c.args.rm ∷ [] = done_of c.add.result _ (sym c.is_err.ensures.value ∙ c.if-is_err.false) c.add.ensures.added in
    let xs = c.args.self.now.lives in
    let from = open_records c.args.self.now.log.slots in
    let to = open_records c.free_covered.new.self.log.slots in
    one_of c.args.desk.now c.args.rm xs from to (subst (λ ms. OnlyFrees ms xs from to) desk c.free_covered.ensures.frees.records)

pub returns-in-Ok-free_covered-clause-one_of : goal.returns-in-Ok-free_covered-clause-one_of
returns-in-Ok-free_covered-clause-one_of g c finished = one g (goal.at.returns-in-Ok-free_covered-clause-one_of g c).After-free_covered

pub returns-in-Err-free_covered-clause-one_of : goal.returns-in-Err-free_covered-clause-one_of
returns-in-Err-free_covered-clause-one_of g c finished = one g (goal.at.returns-in-Err-free_covered-clause-one_of g c).After-free_covered

pub returns-in-Ok-free_covered-clause-images : goal.returns-in-Ok-free_covered-clause-images
returns-in-Ok-free_covered-clause-images g c = images g (goal.at.returns-in-Ok-free_covered-clause-images g c).After-finish_all

pub returns-in-Err-free_covered-clause-images : goal.returns-in-Err-free_covered-clause-images
returns-in-Err-free_covered-clause-images g c = images g (goal.at.returns-in-Err-free_covered-clause-images g c).After-finish_all
