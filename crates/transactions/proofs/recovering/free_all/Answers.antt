use Rattle.std.proofs.lemmas.Bool.{both_ways}
use Rattle.std.proofs.Common.{◌≡◌, ◌∙◌, ℕ, Result, Ok, Err, Some, ap, arith, inr, refl, rules, subst, sym}
use Rattle.outside.specs.Faults.{Rose}
use Rattle.dtx_model.specs.Log.{without_first_of}
use Rattle.coordinator_log.specs.Slots.{open_records}
use Rattle.coordinator_log.specs.State.{LogState}
use Rattle.transactions.specs.Recovering.{NoneIsFound, OnlyFrees, without_each}
use Rattle.transactions.proofs.Freeing.{all_are, frees_both, frees_failed, frees_none, images_both, without_more}
use Rattle.transactions.proofs.recovering.free_all.Goals as goal

-- what is done isn't refused
not_both : {A E : Type 0} (z : Result A E) (x : A) (e : E) → z ≡ Ok x → z ≡ Err e → ⊥
not_both z x e is not = cc

-- a count that rose since it was the same
rose_since : (a b c : ℕ) → b ≡ a → Rose b c → Rose a c
rose_since a b c same rose = subst (λ n. Rose n c) same rose

pub loop-id-init : goal.loop-id-init
loop-id-init g c = record {
  records = frees_none c.args.desk.now c.args.lives.now (open_records c.args.log.now.slots);
  nothing = λ none. refl;
  up = c.requires.up;
  unarmed = λ e. e;
  listed = sym (ap (λ ids. without_each ids (open_records c.args.log.now.slots)) c.requires.empty);
  room = search rules;
  smooth = refl;
}

pub returns-in_err-id-clause-frees : goal.returns-in_err-id-clause-frees
returns-in_err-id-clause-frees g c =
    let ms = c.args.desk.now in
    let xs = c.args.lives.now in
    let from = c.args.log.now in
    let was = c.loop-id.invariant in
    let free = c.free_one.ensures in
    frees_failed g.D.Disk.honest g.D.Disk.image g.D.Disk.faults ms xs from c.free_one.new.log c.from_residual.result c.from_residual.ensures.0
    (frees_both ms xs (open_records from.slots) (open_records c.loop-id.log.slots) (open_records c.free_one.new.log.slots) was.records free.records)
    (λ none. not_both c.free_one.result _ _ (free.nothing (subst (λ (l : LogState _). NoneIsFound ms xs (open_records l.slots)) (sym (was.nothing none)) none)).0 c.in_err-id.was)
    (λ down. absurd (both_ways from.is_up down c.requires.up))
    (λ h up. images_both _ ms xs (open_records from.slots) (open_records c.loop-id.log.slots) was.records (free.images h))
    c.in_err-id.ensures.stopped
    (inr (λ armed. rose_since _ _ _ was.smooth (c.in_err-id.ensures.cause (was.unarmed armed))))
    (let grows = free.grows in let same = was.smooth in omega (arith, grows, same))

pub loop-id-preserved : goal.loop-id-preserved
loop-id-preserved g c =
    let ms = c.args.desk.now in
    let xs = c.args.lives.now in
    let from = c.args.log.now in
    let given : c.free_one.result ≡ Ok (Some c.in-Some.id) = c.in_ok-id.was ∙ ap (λ x. Ok x) c.in-Some.is in
    let was = c.loop-id.invariant in record {
      records = frees_both ms xs (open_records from.slots) (open_records c.loop-id.log.slots) (open_records c.free_one.new.log.slots) was.records c.free_one.ensures.records;
      nothing = λ none. (c.free_one.ensures.nothing (subst (λ (l : LogState _). NoneIsFound ms xs (open_records l.slots)) (sym (was.nothing none)) none)).1 ∙ was.nothing none;
      up = c.in_ok-id.ensures.up;
      unarmed = λ e. c.free_one.ensures.unarmed (was.unarmed e);
      listed =
          c.free_one.ensures.one c.in-Some.id given ∙ ap (without_first_of c.in-Some.id) was.listed ∙ sym (without_more c.loop-id.freed.items c.in-Some.id (open_records from.slots))
          ∙ ap (λ ids. without_each ids (open_records from.slots)) (sym c.push_reserved.ensures.items);
      room =
          let fewer = c.free_one.ensures.fewer c.in-Some.id given in
          let room = was.room in
          let len = c.push_reserved.ensures.len in
          let capacity = c.push_reserved.ensures.capacity in
          omega (arith, fewer, room, len, capacity);
      smooth = c.in_ok-id.ensures.smooth ∙ was.smooth;
    }

pub returns-clause-left : goal.returns-clause-left
returns-clause-left g c h =
    let rs = open_records c.free_one.new.log.slots in
    all_are _ (OnlyFrees c.args.desk.now c.args.lives.now rs) rs (c.is_up.ensures.images h c.in_ok-id.ensures.up) (frees_none c.args.desk.now c.args.lives.now rs)
