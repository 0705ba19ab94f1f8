use Rattle.std.proofs.Common.{◌≡◌, ◌∙◌, ◌++◌, ◌⊎◌, ◌∷◌, [], List, Result, Ok, Err, ap, arith, inl, inr, map, subst, sym, false}
use Rattle.std.specs.Prelude.{OnErr}
use Rattle.std.proofs.lemmas.List.{map-append}
use Rattle.coordinator_log.specs.Slots.{open_records}
use Rattle.recovery_laws.specs.Stepwise.{doubts}
use Rattle.resource_managers.specs.Holding.{Holding, finished, first_in_doubt}
use Rattle.resource_managers.specs.Pairs.{pair_of}
use Rattle.transactions.specs.Recovery.{IsFoundPartly, finish_told, outcome_by_commit}
use Rattle.transactions.proofs.Partly.{IsUnderWay, all_done, goes_on, left_partly, partly}
use Rattle.transactions.proofs.finishing.finish_all.Given.{Over}
use Rattle.transactions.proofs.finishing.finish_all.Goals.{After-finish}
use Rattle.transactions.proofs.finishing.finish_all.Goals as goal

-- the enlistment is the first in doubt
first : (g : Over) (c : After-finish g) → first_in_doubt (g.R.Recoverable.holds c.loop-e.r) ≡ Rattle.std.proofs.Common.Some (pair_of c.in-Some.e)
first g c = sym c.in-Some.ensures

-- what is held after its finish, which is by what the log says of it
next : (g : Over) (c : After-finish g)
    → IsUnderWay (open_records c.args.log.now.slots) c.args.rm.value (g.R.Recoverable.holds c.args.r.now) (finished c.is_committed-committed.result (pair_of c.in-Some.e) (g.R.Recoverable.holds c.loop-e.r))
    (map finish_told c.loop-e.finished.items ++ (pair_of c.in-Some.e, outcome_by_commit c.is_committed-committed.result) ∷ [])
next g c =
    let rs = open_records c.args.log.now.slots in
    let m = c.args.rm.value in
    let p = pair_of c.in-Some.e in
    let old = g.R.Recoverable.holds c.args.r.now in
    let now = g.R.Recoverable.holds c.loop-e.r in
    let told = map finish_told c.loop-e.finished.items in
    subst (λ b. IsUnderWay rs m old (finished b p now) (told ++ (p, outcome_by_commit b) ∷ [])) (sym c.is_committed-committed.ensures)
    (goes_on rs m old now told p c.requires.named c.loop-e.invariant.way (first g c))

-- what a crash leaves after its finish
images : (g : Over) (c : After-finish g) (hs : List Holding) → g.R.Recoverable.leaves c.finish.new.self hs
    → g.R.Recoverable.leaves c.args.r.now hs ⊎ IsFoundPartly (open_records c.args.log.now.slots) c.args.rm.value (g.R.Recoverable.holds c.args.r.now) hs
images g c hs left = elim (c.finish.ensures.images hs left) [
  | inl was ↦ c.loop-e.invariant.images hs was
  | inr since ↦
      let rs = open_records c.args.log.now.slots in
      let m = c.args.rm.value in
      let old = g.R.Recoverable.holds c.args.r.now in
      inr (left_partly rs m old (g.R.Recoverable.holds c.loop-e.r) (finished c.is_committed-committed.result (pair_of c.in-Some.e) (g.R.Recoverable.holds c.loop-e.r)) hs
      (partly rs m old _ _ c.loop-e.invariant.way) (partly rs m old _ _ (next g c)) since)
]

-- what holds holds on an error
on_err : {A E : Type 0} (z : Result A E) (P : Type 0) → P → OnErr z P
on_err (Ok x) P holds = tt
on_err (Err e) P holds = holds

pub returns-in_err-finish-clause-cause : goal.returns-in_err-finish-clause-cause
returns-in_err-finish-clause-cause g c = on_err c.from_residual.result _ (c.loop-e.invariant.since c.finish.new.self c.in_err-finish.ensures.cause)

pub returns-in_err-finish-clause-images : goal.returns-in_err-finish-clause-images
returns-in_err-finish-clause-images g c = images g (goal.at.returns-in_err-finish-clause-images g c).After-finish

pub loop-e-preserved : goal.loop-e-preserved
loop-e-preserved g c =
    let at = (goal.at.loop-e-preserved g c).After-finish in
    let rs = open_records c.args.log.now.slots in
    let m = c.args.rm.value in
    let p = pair_of c.in-Some.e in
    let old = g.R.Recoverable.holds c.args.r.now in
    let now = g.R.Recoverable.holds c.loop-e.r in
    let is : g.R.Recoverable.holds c.finish.new.self ≡ finished c.is_committed-committed.result p now = c.in_ok-finish.ensures.finished in
    let told : map finish_told c.push_reserved.new.self.items ≡ map finish_told c.loop-e.finished.items ++ (p, outcome_by_commit c.is_committed-committed.result) ∷ [] =
    ap (map finish_told) c.push_reserved.ensures.items ∙ map-append finish_told c.loop-e.finished.items (record { enlistment = c.in-Some.e; outcome = c.outcome.result } ∷ [])
    ∙ ap (λ o. map finish_told c.loop-e.finished.items ++ (p, o) ∷ []) c.outcome.ensures in
    record {
      way =
          subst (λ hs. IsUnderWay rs m old hs (map finish_told c.push_reserved.new.self.items)) (sym is)
          (subst (λ t. IsUnderWay rs m old (finished c.is_committed-committed.result p now) t) (sym told) (next g at));
      room =
          let falls = c.recovery_is_stepwise.ensures.falls c.is_committed-committed.result p now (first g at) in
          let same : doubts (g.R.Recoverable.holds c.finish.new.self) ≡ doubts (finished c.is_committed-committed.result p now) = ap doubts is in
          let room = c.loop-e.invariant.room in
          let len = c.push_reserved.ensures.len in
          let capacity = c.push_reserved.ensures.capacity in
          omega (arith, falls, same, room, len, capacity);
      images = images g at;
      since = λ x failed. c.loop-e.invariant.since x (c.in_ok-finish.ensures.since x failed);
    }

pub returns-clause-settled : goal.returns-clause-settled
returns-clause-settled g c =
    (all_done (open_records c.args.log.now.slots) c.args.rm.value (g.R.Recoverable.holds c.args.r.now) (g.R.Recoverable.holds c.loop-e.r) _ c.requires.named c.loop-e.invariant.way (sym c.in_default.ensures)).0

pub returns-clause-told : goal.returns-clause-told
returns-clause-told g c =
    (all_done (open_records c.args.log.now.slots) c.args.rm.value (g.R.Recoverable.holds c.args.r.now) (g.R.Recoverable.holds c.loop-e.r) _ c.requires.named c.loop-e.invariant.way (sym c.in_default.ensures)).1
