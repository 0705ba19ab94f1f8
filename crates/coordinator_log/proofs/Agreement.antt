-- What an append or a free leaves, by the slots in memory that agree with those on the disk.
use Rattle.std.specs.List.{insert}
use Rattle.std.proofs.Common.{◌≡◌, ◌⊎◌, ℕ, zero, suc, ◌<◌, Bool, true, false, cond, List, [], ◌∷◌, length, set, Ok, Option, Some, None, refl, sym, ap, ◌∙◌, arith}
use Rattle.outside.specs.Disk.{IsOnly}
use Rattle.dtx_model.specs.Log.{CommitRecord, log_has, slots_of}
use Rattle.slotted.proofs.SlotReads.{agrees_with, file_agrees, file_either, file_same, file_with}
use Rattle.coordinator_log.specs.Crash.{AllHold, with_record}
use Rattle.coordinator_log.specs.Slots.{HasSlots, IsEither, Agrees, formed, open_records, lowest_closed}
use Rattle.coordinator_log.proofs.Files.{log_file}
use Rattle.coordinator_log.proofs.OpenRecords.{Held}

-- a record in the lowest slot that is closed comes behind the records of those below it
pub insert_lowest : (ss : Held) (k : ℕ) (r : CommitRecord) → lowest_closed ss ≡ k → k < length ss → open_records (set ss k (Some r)) ≡ insert (open_records ss) k r
insert_lowest [] k r is lt = absurd (omega arith)
insert_lowest (None ∷ ss) zero r is lt = refl
insert_lowest (None ∷ ss) (suc k) r is lt = absurd (omega arith)
insert_lowest (Some q ∷ ss) zero r is lt = absurd (omega arith)
insert_lowest (Some q ∷ ss) (suc k) r is lt = ap (λ (l : List CommitRecord). q ∷ l) (insert_lowest ss k r (omega arith) (omega arith))

module _ (b : List ℕ) (image : List ℕ → Type 0) (ss : Held) (agrees : Agrees b image ss) (k : ℕ) (lt : k < length ss) where
  -- a record is in the lowest slot that is closed, or not yet
  pub either_appended : (r : CommitRecord) (c : List ℕ) → lowest_closed ss ≡ k → IsEither b k (Ok (Some r)) c → (log_has c ≡ Ok (open_records ss)) ⊎ (log_has c ≡ Ok (insert (open_records ss) (lowest_closed ss) r))
  either_appended r c low = file_either log_file b image ss agrees k lt (Some r) _ c (insert_lowest ss k r low lt ∙ ap (λ (j : ℕ). insert (open_records ss) j r) (sym low))

  -- each image has the records with this one, once it was appended
  pub all_appended : (r : CommitRecord) (c : List ℕ) (left : List ℕ → Type 0) → lowest_closed ss ≡ k → HasSlots b (set (slots_of b) k (Ok (Some r))) c → IsOnly c left → AllHold left (with_record r ss)
  all_appended r c left low has only d on =
      file_agrees log_file c left (set ss k (Some r)) (agrees_with log_file b image ss agrees k lt (Some r) c left has only) d on ∙ ap (λ (l : List CommitRecord). Ok l) (insert_lowest ss k r low lt ∙ ap (λ (j : ℕ). insert (open_records ss) j r) (sym low))

  -- each image has the records without this one, once it was freed
  pub all_freed : (rs : List CommitRecord) (c : List ℕ) (left : List ℕ → Type 0) → open_records (set ss k None) ≡ rs → HasSlots b (set (slots_of b) k (Ok None)) c → IsOnly c left → AllHold left rs
  all_freed rs c left is has only d on = file_agrees log_file c left (set ss k None) (agrees_with log_file b image ss agrees k lt None c left has only) d on ∙ ap (λ (l : List CommitRecord). Ok l) is

  -- the records by a test, where the slots are by it
  pub log_by_test : (x : Option CommitRecord) (test : Bool) (rs : List CommitRecord) (c : List ℕ) → open_records (set ss k x) ≡ rs → HasSlots b (cond test (set (slots_of b) k (formed x)) (slots_of b)) c
      → log_has c ≡ Ok (cond test rs (open_records ss))
  log_by_test x true rs c is has = file_with log_file b image ss agrees k lt x c has ∙ ap (λ (l : List CommitRecord). Ok l) is
  log_by_test x false rs c is has = file_same log_file b image ss agrees k lt c has

  -- the same, where the test says that the slots are as before
  pub log_unless_test : (x : Option CommitRecord) (test : Bool) (rs : List CommitRecord) (c : List ℕ) → open_records (set ss k x) ≡ rs → HasSlots b (cond test (slots_of b) (set (slots_of b) k (formed x))) c
      → log_has c ≡ Ok (cond test (open_records ss) rs)
  log_unless_test x true rs c is has = file_same log_file b image ss agrees k lt c has
  log_unless_test x false rs c is has = file_with log_file b image ss agrees k lt x c has ∙ ap (λ (l : List CommitRecord). Ok l) is
