use Rattle.std.proofs.Common.{◌≡◌, ◌∙◌, ◌++◌, ◌∷◌, [], ◌+◌, ◌-◌, ◌*◌, ap, sym, arith, append_assoc, length, take, false, List, ℕ, get_or, Ok}
use Rattle.std.specs.Int.{w16, w32, w64, to_le_bytes}
use Rattle.std.specs.List.{flat_map}
use Rattle.std.proofs.lemmas.Bool.Decides.{nat_tests}
use Rattle.std.proofs.lemmas.List.{append-nil, take_all}
use Rattle.dtx_values.specs.declared.number.TxNo.{TxNo}
use Rattle.kv_resource.specs.Bytes.{KvRecord, front_bytes, kv_record_at, write_bytes}
use Rattle.kv_resource.specs.Notes.{record_with}
use Rattle.kv_resource.proofs.Again.{record_again, with_epoch}
use Rattle.slotted.proofs.SlotWrites.{drop_less}
use Rattle.kv_resource.proofs.Loops.{Writes, write_more}
use Rattle.kv_resource.proofs.writing.written_record.Goals as goal
use Rattle.kv_resource.proofs.writing.written_record.Goals.{After-bytes-10-1}

-- four parts, and nothing behind them
join_four : (p q r s a b c d : List ℕ) → a ≡ p → b ≡ a ++ q → c ≡ b ++ r → d ≡ c ++ s → d ≡ (p ++ q ++ r ++ s) ++ []
join_four p q r s a b c d e f g h =
    h ∙ ap (λ (l : List ℕ). l ++ s) (g ∙ ap (λ (l : List ℕ). l ++ r) (f ∙ ap (λ (l : List ℕ). l ++ q) e)) ∙ sym (append-nil (p ++ q ++ r ++ s))

pub loop-i-init : goal.loop-i-init
unfolding front_bytes
loop-i-init c =
    let d = c.args.d.now in
    let count = c.put-2.ensures.front 3 (omega arith) ∙ ap (λ (l : List ℕ). take 1 c.put.new.into ++ l) (c.to_le_bytes.ensures ∙ ap (λ (ws : Writes). to_le_bytes w16 (length ws)) c.writes-writes.ensures.writes) in
    let transaction = c.put-3.ensures.front 7 (omega arith) ∙ ap (λ (l : List ℕ). take 3 c.put-2.new.into ++ l) (c.to_le_bytes-2.ensures ∙ ap (to_le_bytes w32) (c.get.ensures.value ∙ ap (λ (t : TxNo). t.value) c.t.ensures)) in
    let enlistment = c.put-4.ensures.front 11 (omega arith) ∙ ap (λ (l : List ℕ). take 7 c.put-3.new.into ++ l) (c.to_le_bytes-3.ensures ∙ ap (to_le_bytes w32) (c.get-2.ensures.value ∙ c.enlistment.ensures)) in
    record {
      front = join_four (1 ∷ []) (to_le_bytes w16 (length d.writes)) (to_le_bytes w32 c.transaction-transaction.result.t.value) (to_le_bytes w32 d.enlistment) _ _ _ _ (c.put.ensures.front 1 (omega arith)) count transaction enlistment;
      rest = c.put-4.ensures.rest 11 (omega arith) ∙ c.put-3.ensures.rest 11 (omega arith) ∙ c.put-2.ensures.rest 11 (omega arith) ∙ c.put.ensures.rest 11 (omega arith);
      long = omega arith;
    }

pub loop-i-preserved : goal.loop-i-preserved
loop-i-preserved c =
    let ws = c.writes-writes.result.now in
    let i = c.loop-i.i in
    let n = 11 + 12 * (i + 1) in
    let r = record_with false c.args.d.now in
    let w : ℕ × ℕ = get_or ws i (0, 0) in
    let t = c.transaction-transaction.result.t.value in
    let f : List ℕ = front_bytes t r ++ flat_map write_bytes (take i ws) in
    let key : List ℕ = to_le_bytes w32 w.0 in
    let value : List ℕ = to_le_bytes w64 w.1 in
    record {
      front = c.put-in-loop-i-2.ensures.front n (omega arith)
          ∙ ap (λ (l : List ℕ). l ++ c.to_le_bytes-in-loop-i-2.result) (c.put-in-loop-i.ensures.front _ (omega arith) ∙ ap (λ (l : List ℕ). l ++ c.to_le_bytes-in-loop-i.result) c.loop-i.invariant.front ∙ ap (λ (l : List ℕ). f ++ l) c.to_le_bytes-in-loop-i.ensures)
          ∙ ap (λ (l : List ℕ). (f ++ key) ++ l) c.to_le_bytes-in-loop-i-2.ensures ∙ append_assoc f key value ∙ write_more (front_bytes t r) ws i (0, 0) c.loop-i-test.true;
      rest = c.put-in-loop-i-2.ensures.rest n (omega arith) ∙ c.put-in-loop-i.ensures.rest n (omega arith) ∙ drop_less (11 + 12 * i) n c.loop-i.bytes _ (omega arith) c.loop-i.invariant.rest;
      long = omega (arith, c.loop-i.invariant.long);
    }

-- what was written is read again
again : (c : After-bytes-10-1) → (kv_record_at c.put-5.new.into ≡ Ok (record_with false c.args.d.now)) × (length c.put-5.new.into ≡ 511)
again c =
    let d = c.args.d.now in
    let r : KvRecord = record_with false d in
    let x = c.transaction-transaction.result in
    let ws = c.writes-writes.result.now in
    let all : take c.loop-i.i ws ≡ d.writes = take_all c.loop-i.i ws c.loop-i-test.false ∙ c.writes-writes.ensures.writes in
    let many : c.loop-i.i ≡ length d.writes = omega (arith, c.loop-i-test.false, c.loop-i.auto.i-end, ap length c.writes-writes.ensures.writes) in
    let e = c.enlistment.result.in_range in
    let front = c.loop-i.invariant.front ∙ ap (λ (l : Writes). front_bytes x.t.value r ++ flat_map write_bytes l) all in
    let epoch = c.to_le_bytes-4.ensures ∙ ap (to_le_bytes w32) c.epoch.ensures in
    let written_is = c.put-5.ensures.front 510 (omega arith) ∙ ap (λ (l : List ℕ). take 506 c.loop-i.bytes ++ l) epoch in
    record_again x.epoch x.t.value r c.put-5.new.into
    (record {
      within = x.t.in_range;
      epoch_fits = grind (arith, nat_tests, x.in_range);
      number = sym c.transaction-transaction.ensures;
      enlistment = (omega (arith, e.0, c.enlistment.ensures), omega (arith, e.1, c.enlistment.ensures));
      writes = (c.writes-writes.ensures.some, c.writes-writes.ensures.few);
      spelled = c.writes-writes.ensures.spelled;
    })
    (with_epoch _ c.loop-i.bytes c.put-5.new.into _ (11 + 12 * c.loop-i.i) (495 - 12 * length d.writes) front c.loop-i.invariant.rest (omega (arith, many, c.writes-writes.ensures.few)) written_is (c.put-5.ensures.rest 510 (omega arith)))

pub returns-clause-again : goal.returns-clause-again
returns-clause-again c = (again c).0

pub returns-clause-long : goal.returns-clause-long
returns-clause-long c = (again c).1
