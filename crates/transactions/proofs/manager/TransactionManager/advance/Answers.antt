use Rattle.std.proofs.Common.{◌≡◌, Some, None, List, IfOk, OnErr, true, ap, refl, ◌∙◌, slice_get, slice_set, subst, sym, ◌+◌, ◌*◌, inr}
use Rattle.std.proofs.lemmas.Option.{slice_get_read}
use Rattle.std.specs.Vec.{vec_len}
use Rattle.transactions.specs.Doing.{AdvancesAt}
use Rattle.transactions.specs.Hearing.{heard_in}
use Rattle.dtx_values.specs.TxIds.{identifier_of_id}
use Rattle.transactions.specs.Logged.{KeepsRecords}
use Rattle.transactions.specs.Slots.{AreSame, Standing, is_live, live_at}
use Rattle.transactions.specs.State.{LiveState}
use Rattle.transactions.specs.Keeping.{IsKept}
use Rattle.transactions.proofs.Ending.{put_back}
use Rattle.transactions.proofs.Nexts.{all_at, came_at, next_leaves, stayed_at}
use Rattle.transactions.proofs.Recorded.{recorded_left}
use Rattle.transactions.proofs.Fitted.{fits_left}
use Rattle.transactions.proofs.Standing.{live_here, live_number, live_off, live_past, live_was, numbered_set, others_same, still_live}
use Rattle.transactions.proofs.Untouched.{keeps_own, keeps_same, keeps_step}
use Rattle.transactions.proofs.manager.TransactionManager.advance.Goals as goal

pub advance-advanced-requires : goal.advance-advanced-requires
advance-advanced-requires g c =
    let xs = c.self.inside.lives.items in
    let x = c.in-Some.live.now in
    let there : slice_get xs c.index.result ≡ Some x = slice_get_read xs (vec_len c.self.inside.lives) c.index.result x c.self.inside.lives.ok.0 (c.in-Some.ensures.variant.0 refl) c.in-Some.ensures.value in
    record { fits = λ honest up. (c.self.invariant.1 honest).fits up c.index.result x there }

pub invariant_of-self-2 : goal.invariant_of-self-2
invariant_of-self-2 g c =
    let xs = c.self.inside.lives.items in
    let x = c.in-Some.live.now in
    let y = c.advance-advanced.new.self in
    let e = c.advance-advanced.ensures in
    let there : slice_get xs c.index.result ≡ Some x = slice_get_read xs (vec_len c.self.inside.lives) c.index.result x c.self.inside.lives.ok.0 (c.in-Some.ensures.variant.0 refl) c.in-Some.ensures.value in (
      numbered_set xs c.index.result x y there c.self.invariant.0 (next_leaves c.advance-advanced.result x y e.comes e.stays).1 c.is_sound.ensures.own,
      λ honest. fits_left g.D.Disk.honest g.D.Disk.image g.D.Disk.faults c.self.inside.log c.advance-advanced.new.log xs c.index.result x y (65536 * c.self.inside.epoch + c.self.inside.given) honest c.self.invariant.0 there (next_leaves c.advance-advanced.result x y e.comes e.stays).1 e.leaves e.down (c.self.invariant.1 honest),
      e.leaves.later.unarmed c.self.invariant.2,
      recorded_left g.D.Disk.honest g.D.Disk.image g.D.Disk.faults c.self.inside.log c.advance-advanced.new.log x.tx y.tx (65536 * c.self.inside.epoch + c.self.inside.given)
          (c.no_transaction_is_an_epoch.ensures.test x.tx.transaction) e.leaves c.self.invariant.3,
    )

pub returns-clause-comes : goal.returns-clause-comes
returns-clause-comes g c =
    let xs = c.self.inside.lives.items in
    let i = c.index.result in
    let x = c.in-Some.live.now in
    let y = c.advance-advanced.new.self in
    let e = c.advance-advanced.ensures in
    let t = c.args.t in
    let there : slice_get xs i ≡ Some x = slice_get_read xs (vec_len c.self.inside.lives) i x c.self.inside.lives.ok.0 (c.in-Some.ensures.variant.0 refl) c.in-Some.ensures.value in
    let used : is_live t x ≡ true = sym c.if-not-is_live.ensures in
    let now = live_here t xs i x y c.index.ensures.place there (still_live t x y (next_leaves c.advance-advanced.result x y e.comes e.stays) used) in
    subst (λ (s : Standing _ _). IfOk c.advance-advanced.result (λ n. AdvancesAt (heard_in n) t s.lives (slice_set xs i y))) c.self.view_is
    (came_at t c.advance-advanced.result xs (slice_set xs i y) x y (live_was t xs i x c.index.ensures.place there used) now e.comes)

pub returns-clause-stays : goal.returns-clause-stays
returns-clause-stays g c =
    let xs = c.self.inside.lives.items in
    let i = c.index.result in
    let x = c.in-Some.live.now in
    let y = c.advance-advanced.new.self in
    let e = c.advance-advanced.ensures in
    let t = c.args.t in
    let there : slice_get xs i ≡ Some x = slice_get_read xs (vec_len c.self.inside.lives) i x c.self.inside.lives.ok.0 (c.in-Some.ensures.variant.0 refl) c.in-Some.ensures.value in
    let used : is_live t x ≡ true = sym c.if-not-is_live.ensures in
    let now = live_here t xs i x y c.index.ensures.place there (still_live t x y (next_leaves c.advance-advanced.result x y e.comes e.stays) used) in
    subst (λ (s : Standing _ _). OnErr c.advance-advanced.result (AdvancesAt None t s.lives (slice_set xs i y))) c.self.view_is
    (stayed_at t c.advance-advanced.result xs (slice_set xs i y) x y (live_was t xs i x c.index.ensures.place there used) now e.stays)

pub returns-clause-idle : goal.returns-clause-idle
returns-clause-idle g c = λ none.
    let xs = c.self.inside.lives.items in
    let i = c.index.result in
    let x = c.in-Some.live.now in
    let y = c.advance-advanced.new.self in
    let e = c.advance-advanced.ensures in
    let t = c.args.t in
    let there : slice_get xs i ≡ Some x = slice_get_read xs (vec_len c.self.inside.lives) i x c.self.inside.lives.ok.0 (c.in-Some.ensures.variant.0 refl) c.in-Some.ensures.value in
    let used : is_live t x ≡ true = sym c.if-not-is_live.ensures in
    let now = live_here t xs i x y c.index.ensures.place there (still_live t x y (next_leaves c.advance-advanced.result x y e.comes e.stays) used) in
    all_at t (slice_set xs i y) y now (e.idle none)

pub returns-clause-others : goal.returns-clause-others
returns-clause-others g c =
    let xs = c.self.inside.lives.items in
    let x = c.in-Some.live.now in
    let y = c.advance-advanced.new.self in
    let there : slice_get xs c.index.result ≡ Some x = slice_get_read xs (vec_len c.self.inside.lives) c.index.result x c.self.inside.lives.ok.0 (c.in-Some.ensures.variant.0 refl) c.in-Some.ensures.value in
    subst (λ (l : List LiveState). AreSame c.args.t l (slice_set xs c.index.result c.advance-advanced.new.self)) (ap (λ (s : Standing _ _). s.lives) c.self.view_is)
    (others_same c.args.t xs c.index.result x y c.index.ensures.place there (sym c.if-not-is_live.ensures) (next_leaves c.advance-advanced.result x y c.advance-advanced.ensures.comes c.advance-advanced.ensures.stays).1)

pub returns-clause-logged : goal.returns-clause-logged
returns-clause-logged g c =
    let xs = c.self.inside.lives.items in
    let x = c.in-Some.live.now in
    let e = c.advance-advanced.ensures in
    let t = c.args.t in
    let there : slice_get xs c.index.result ≡ Some x = slice_get_read xs (vec_len c.self.inside.lives) c.index.result x c.self.inside.lives.ok.0 (c.in-Some.ensures.variant.0 refl) c.in-Some.ensures.value in
    let own : x.tx.transaction ≡ t = (c.self.invariant.0 c.index.result x there).1 ∙ live_number t x (sym c.if-not-is_live.ensures) in
    let left = keeps_step g.D.Disk.honest g.D.Disk.image g.D.Disk.faults x.tx c.advance-advanced.new.self.tx c.self.inside.log c.advance-advanced.new.log e.leaves e.down in
    subst (λ (s : Standing _ _). KeepsRecords g.D.Disk.honest g.D.Disk.image (identifier_of_id t) s.log c.advance-advanced.new.log) c.self.view_is
    (keeps_own g.D.Disk.honest g.D.Disk.image t x.tx c.self.inside.log c.advance-advanced.new.log own left)

pub invariant_of-self-then-not-is_live : goal.invariant_of-self-then-not-is_live
invariant_of-self-then-not-is_live g c =
    let xs = c.self.inside.lives.items in
    let x = c.in-Some.live.now in
    let there : slice_get xs c.index.result ≡ Some x = slice_get_read xs (vec_len c.self.inside.lives) c.index.result x c.self.inside.lives.ok.0 (c.in-Some.ensures.variant.0 refl) c.in-Some.ensures.value in
    subst (λ (l : List LiveState). IsKept g.D.Disk.honest g.D.Disk.image c.self.inside.log l (65536 * c.self.inside.epoch + c.self.inside.given)) (sym (put_back xs c.index.result x there)) c.self.invariant

pub returns-then-not-is_live-clause-stays : goal.returns-then-not-is_live-clause-stays
returns-then-not-is_live-clause-stays g c = λ v at.
    let xs = c.self.inside.lives.items in
    let x = c.in-Some.live.now in
    let there : slice_get xs c.index.result ≡ Some x = slice_get_read xs (vec_len c.self.inside.lives) c.index.result x c.self.inside.lives.ok.0 (c.in-Some.ensures.variant.0 refl) c.in-Some.ensures.value in
    let none : live_at c.args.t xs ≡ None = live_off c.args.t xs c.index.result x c.index.ensures.place there (sym c.if-not-is_live.ensures) in
    absurd (never v (sym none ∙ subst (λ (s : Standing _ _). live_at c.args.t s.lives ≡ Some v) (sym c.self.view_is) at))
  where
    never : (v : LiveState) → None ≡ Some v → ⊥
    never v q = cc

pub returns-then-not-is_live-clause-cause : goal.returns-then-not-is_live-clause-cause
returns-then-not-is_live-clause-cause g c =
    let xs = c.self.inside.lives.items in
    let x = c.in-Some.live.now in
    let there : slice_get xs c.index.result ≡ Some x = slice_get_read xs (vec_len c.self.inside.lives) c.index.result x c.self.inside.lives.ok.0 (c.in-Some.ensures.variant.0 refl) c.in-Some.ensures.value in
    let none : live_at c.args.t xs ≡ None = live_off c.args.t xs c.index.result x c.index.ensures.place there (sym c.if-not-is_live.ensures) in
    inr (refl, subst (λ (s : Standing _ _). live_at c.args.t s.lives ≡ None) c.self.view_is none)

pub returns-then-not-is_live-clause-logged : goal.returns-then-not-is_live-clause-logged
returns-then-not-is_live-clause-logged g c =
    let log = c.self.inside.log in
    let id = identifier_of_id c.args.t in
    subst (λ (s : Standing _ _). KeepsRecords g.D.Disk.honest g.D.Disk.image id s.log log) c.self.view_is (keeps_same g.D.Disk.honest g.D.Disk.image id log log refl)

pub returns-in_default-clause-logged : goal.returns-in_default-clause-logged
returns-in_default-clause-logged g c =
    let log = c.self.inside.log in
    let id = identifier_of_id c.args.t in
    subst (λ (s : Standing _ _). KeepsRecords g.D.Disk.honest g.D.Disk.image id s.log log) c.self.view_is (keeps_same g.D.Disk.honest g.D.Disk.image id log log refl)

pub returns-in_default-clause-cause : goal.returns-in_default-clause-cause
returns-in_default-clause-cause g c =
    let xs = c.self.inside.lives.items in
    let t = c.args.t in
    let none = live_past t xs (vec_len c.self.inside.lives) c.index.result c.index.ensures.place c.self.inside.lives.ok.0 c.in_default.ensures.variant.1 in
    inr (refl, subst (λ (s : Standing _ _). live_at t s.lives ≡ None) c.self.view_is none)
