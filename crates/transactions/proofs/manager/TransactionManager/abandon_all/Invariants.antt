use Rattle.std.proofs.Common.{◌≡◌, ◌==◌, false}
use Rattle.dtx_values.specs.declared.tx_id.TxId.{TxId}
use Rattle.dtx_model.specs.Words.{has}
use Rattle.transactions.specs.Scoping.{ConcludesAll}
use Rattle.transactions.specs.Slots.{KeepsTime, live_at}
use Rattle.transactions.proofs.manager.TransactionManager.abandon_all.Given as goal

abbrev pub invariant-loop-place : goal.invariant-loop-place
invariant-loop-place g l = record {
  others : (u : TxId) → has (λ t. u.t.value == t.value) l.a.rolled ≡ false → live_at u l.self.lives ≡ live_at u l.fn.self.lives;
  time : KeepsTime l.fn.self l.self;
  steps : ConcludesAll g.D.Disk.honest g.D.Disk.image g.O.ResourceManager.gives l.fn.self l.self l.fn.o l.o;
}
