use Rattle.std.proofs.Common.{subst, refl}
use Rattle.dtx_values.specs.declared.note.Note.TheVariants.{Promote, Single, Init, InDoubt}
use Rattle.dtx_values.specs.TxIds.{number_of}
use Rattle.kv_resource.specs.Images.{IsKept}
use Rattle.kv_resource.specs.Notes.{answer_of, work_of}
use Rattle.kv_resource.specs.Store.{KvState, Pair}
use Rattle.kv_resource.proofs.Noting.{still}
use Rattle.kv_resource.proofs.kv.Kv.hear.Goals as goal

pub returns-in-Promote : goal.returns-in-Promote
unfolding answer_of work_of
returns-in-Promote g c =
    let old = c.args.self.now in
    let p : Pair = (number_of c.args.t, c.args.e.value) in
    let kept = subst (λ (s : KvState g.row.D.Denot). IsKept g.D.Disk.honest (g.D.Disk.seen s.disk) (g.D.Disk.image s.disk) (g.D.Disk.size s.disk) s.memory) c.self.view_is c.self.invariant.0 in
    rw c.in-Promote.is (still g.D.Disk.honest g.D.Disk.seen g.D.Disk.image g.D.Disk.size g.D.Disk.faults old p kept Promote _ refl refl refl)

pub returns-in-Single : goal.returns-in-Single
unfolding answer_of work_of
returns-in-Single g c =
    let old = c.args.self.now in
    let p : Pair = (number_of c.args.t, c.args.e.value) in
    let kept = subst (λ (s : KvState g.row.D.Denot). IsKept g.D.Disk.honest (g.D.Disk.seen s.disk) (g.D.Disk.image s.disk) (g.D.Disk.size s.disk) s.memory) c.self.view_is c.self.invariant.0 in
    rw c.in-Single.is (still g.D.Disk.honest g.D.Disk.seen g.D.Disk.image g.D.Disk.size g.D.Disk.faults old p kept Single _ refl refl refl)

pub returns-in-Init : goal.returns-in-Init
unfolding answer_of work_of
returns-in-Init g c =
    let old = c.args.self.now in
    let p : Pair = (number_of c.args.t, c.args.e.value) in
    let kept = subst (λ (s : KvState g.row.D.Denot). IsKept g.D.Disk.honest (g.D.Disk.seen s.disk) (g.D.Disk.image s.disk) (g.D.Disk.size s.disk) s.memory) c.self.view_is c.self.invariant.0 in
    rw c.in-Init.is (still g.D.Disk.honest g.D.Disk.seen g.D.Disk.image g.D.Disk.size g.D.Disk.faults old p kept Init _ refl refl refl)

pub returns-in-InDoubt : goal.returns-in-InDoubt
unfolding answer_of work_of
returns-in-InDoubt g c =
    let old = c.args.self.now in
    let p : Pair = (number_of c.args.t, c.args.e.value) in
    let kept = subst (λ (s : KvState g.row.D.Denot). IsKept g.D.Disk.honest (g.D.Disk.seen s.disk) (g.D.Disk.image s.disk) (g.D.Disk.size s.disk) s.memory) c.self.view_is c.self.invariant.0 in
    rw c.in-InDoubt.is (still g.D.Disk.honest g.D.Disk.seen g.D.Disk.image g.D.Disk.size g.D.Disk.faults old p kept InDoubt _ refl refl refl)
