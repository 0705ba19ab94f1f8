use Rattle.std.proofs.Common.{◌≡◌, ◌≤◌, ◌<◌, ◌+◌, ◌*◌, ◌-◌, ◌∙◌, List, [], ◌∷◌, ◌++◌, length, slice_get, slice_set, ap, arith, subst, sym, true}
use Rattle.coordinator_log.specs.Slots.{open_records}
use Rattle.std.specs.Prelude.{IsTrue}
use Rattle.dtx_values.specs.TxIds.{number_of}
use Rattle.dtx_values.specs.declared.number.TxNo.{TxNo}
use Rattle.tx_world.specs.AtLog.{AreFit, Fits}
use Rattle.transactions.specs.Keeping.{IsKept}
use Rattle.transactions.specs.Numbering.{IsRecorded}
use Rattle.transactions.specs.Slots.{AreSame, Standing, is_vacant}
use Rattle.transactions.specs.State.{LiveState}
use Rattle.transactions.proofs.Beginning.{inside, kept_push, kept_put, last_is, live_end, others_before, place_free, pushed_off, pushed_on, vacant_none}
use Rattle.transactions.proofs.Standing.{live_here, live_number, others_put}
use Rattle.transactions.proofs.manager.TransactionManager.put.Goals as goal

pub invariant_of-self : goal.invariant_of-self
invariant_of-self g c =
    let xs = c.self.inside.lives.items in
    let log = c.self.inside.log in
    let i = c.index-i.result in
    let t = c.args.t in
    let y = c.args.live in
    let last = 65536 * c.self.inside.epoch + c.self.inside.given in
    let within : i < length xs = omega (arith, c.if-i-len.true, c.len.ensures, c.self.inside.lives.ok.0) in
    let there = inside xs i within in
    let honest = g.D.Disk.honest in
    let image = g.D.Disk.image in
    let fits : Fits y.tx (open_records log.slots) = subst (λ (s : Standing _ _). Fits y.tx (open_records s.log.slots)) (sym c.self.view_is) c.requires.fits in
    let images : IsTrue honest → AreFit (image log.disk) (Fits y.tx) = subst (λ (s : Standing _ _). IsTrue honest → AreFit (image s.log.disk) (Fits y.tx)) (sym c.self.view_is) c.requires.imaged in
    let above : last < number_of t = subst (λ (s : Standing _ _). s.last < number_of t) (sym c.self.view_is) c.requires.above in
    let recorded : IsRecorded honest image log (number_of t) = subst (λ (s : Standing _ _). IsRecorded honest image s.log (number_of t)) (sym c.self.view_is) c.requires.recorded in
    let is = last_is t c.epoch-self-inside.result c.get-self-inside.result c.epoch-self-inside.ensures (c.get-self-inside.ensures.value ∙ ap (λ (p : TxNo). p.value) c.t.ensures) in
    kept_put honest image log t xs i there.0 y last (65536 * c.epoch-self-inside.result + c.get-self-inside.result) there.1 c.index-i.ensures.place (live_number t y c.requires.live) c.is_sound.ensures fits images above recorded is
    c.self.invariant

pub returns-then-i-len-clause-now : goal.returns-then-i-len-clause-now
returns-then-i-len-clause-now g c =
    let xs = c.self.inside.lives.items in
    let i = c.index-i.result in
    let within : i < length xs = omega (arith, c.if-i-len.true, c.len.ensures, c.self.inside.lives.ok.0) in
    let there = inside xs i within in
    live_here c.args.t xs i there.0 c.args.live c.index-i.ensures.place there.1 c.requires.live

pub returns-then-i-len-clause-others : goal.returns-then-i-len-clause-others
returns-then-i-len-clause-others g c =
    let xs = c.self.inside.lives.items in
    let i = c.index-i.result in
    let t = c.args.t in
    let within : i < length xs = omega (arith, c.if-i-len.true, c.len.ensures, c.self.inside.lives.ok.0) in
    let there = inside xs i within in
    let free : is_vacant (slice_get xs i) ≡ true =
    place_free t i xs c.index-i.ensures.place (subst (λ (s : Standing _ _). is_vacant (slice_get s.lives (t.t.value - 1)) ≡ true) (sym c.self.view_is) c.requires.free) in
    subst (λ (l : List LiveState). AreSame t l (slice_set xs i c.args.live)) (ap (λ (s : Standing _ _). s.lives) c.self.view_is)
    (others_put t xs i there.0 c.args.live c.index-i.ensures.place there.1 (λ u n. vacant_none there.0 (slice_get xs i) there.1 free u) (live_number t c.args.live c.requires.live))

pub invariant_of-self-2 : goal.invariant_of-self-2
invariant_of-self-2 g c =
    let xs = c.self.inside.lives.items in
    let log = c.self.inside.log in
    let t = c.args.t in
    let y = c.args.live in
    let last = 65536 * c.self.inside.epoch + c.self.inside.given in
    let within : t.t.value ≤ length xs + 1 = subst (λ (s : Standing _ _). t.t.value ≤ length s.lives + 1) (sym c.self.view_is) c.requires.within in
    let place : length xs + 1 ≡ t.t.value = omega (arith, within, c.index-i.ensures.place, c.if-i-len.false, c.len.ensures, c.self.inside.lives.ok.0) in
    let items : c.push.new.self.items ≡ xs ++ y ∷ [] = pushed_on c.push.result c.in-Ok.field-0 xs (xs ++ y ∷ []) c.push.new.self.items c.push.ensures.items c.in-Ok.is in
    let honest = g.D.Disk.honest in
    let image = g.D.Disk.image in
    let fits : Fits y.tx (open_records log.slots) = subst (λ (s : Standing _ _). Fits y.tx (open_records s.log.slots)) (sym c.self.view_is) c.requires.fits in
    let images : IsTrue honest → AreFit (image log.disk) (Fits y.tx) = subst (λ (s : Standing _ _). IsTrue honest → AreFit (image s.log.disk) (Fits y.tx)) (sym c.self.view_is) c.requires.imaged in
    let above : last < number_of t = subst (λ (s : Standing _ _). s.last < number_of t) (sym c.self.view_is) c.requires.above in
    let recorded : IsRecorded honest image log (number_of t) = subst (λ (s : Standing _ _). IsRecorded honest image s.log (number_of t)) (sym c.self.view_is) c.requires.recorded in
    let is = last_is t c.epoch-self-inside-2.result c.get-self-inside-2.result c.epoch-self-inside-2.ensures (c.get-self-inside-2.ensures.value ∙ ap (λ (p : TxNo). p.value) c.t-2.ensures) in
    kept_push honest image log t xs c.push.new.self.items y last (65536 * c.epoch-self-inside-2.result + c.get-self-inside-2.result) items place (live_number t y c.requires.live) c.is_sound.ensures fits images above recorded is
    c.self.invariant

pub invariant_of-self-in-Err : goal.invariant_of-self-in-Err
invariant_of-self-in-Err g c =
    let xs = c.self.inside.lives.items in
    let y = c.args.live in
    let items : c.push.new.self.items ≡ xs = pushed_off c.push.result c.in-Err.field-0 xs (xs ++ y ∷ []) c.push.new.self.items c.push.ensures.items c.in-Err.is in
    subst (λ (l : List LiveState). IsKept g.D.Disk.honest g.D.Disk.image c.self.inside.log l (65536 * c.self.inside.epoch + c.self.inside.given)) (sym items) c.self.invariant

pub returns-clause-now : goal.returns-clause-now
returns-clause-now g c =
    let xs = c.self.inside.lives.items in
    let t = c.args.t in
    let y = c.args.live in
    let within : t.t.value ≤ length xs + 1 = subst (λ (s : Standing _ _). t.t.value ≤ length s.lives + 1) (sym c.self.view_is) c.requires.within in
    let place : length xs + 1 ≡ t.t.value = omega (arith, within, c.index-i.ensures.place, c.if-i-len.false, c.len.ensures, c.self.inside.lives.ok.0) in
    let items : c.push.new.self.items ≡ xs ++ y ∷ [] = pushed_on c.push.result c.in-Ok.field-0 xs (xs ++ y ∷ []) c.push.new.self.items c.push.ensures.items c.in-Ok.is in
    live_end t xs c.push.new.self.items y items place c.requires.live

pub returns-clause-others : goal.returns-clause-others
returns-clause-others g c =
    let xs = c.self.inside.lives.items in
    let t = c.args.t in
    let y = c.args.live in
    let items : c.push.new.self.items ≡ xs ++ y ∷ [] = pushed_on c.push.result c.in-Ok.field-0 xs (xs ++ y ∷ []) c.push.new.self.items c.push.ensures.items c.in-Ok.is in
    subst (λ (l : List LiveState). AreSame t l c.push.new.self.items) (ap (λ (s : Standing _ _). s.lives) c.self.view_is) (others_before t xs c.push.new.self.items y items (live_number t y c.requires.live))
