-- Where the cell of each transaction is found.
use Rattle.std.proofs.Common.{◌≡◌, ◌<◌, ◌≤◌, ◌-◌, ◌+◌, ◌==◌, ℕ, Bool, true, false, List, ◌∷◌, length, drop, get_or, slice_get, slice_index_or, MatchOption, Option, Some, None, refl, sym, subst, ◌∙◌, arith, if◌then◌else◌}
use Rattle.std.proofs.lemmas.Bool.{eqb-true}
use Rattle.std.proofs.lemmas.List.{drop_more, get_or_read_under}
use Rattle.std.proofs.lemmas.Option.{slice_get_read}
use Rattle.dtx_values.specs.declared.number.TxNo.{TxNo}
use Rattle.dtx_values.specs.declared.number.TheConstants.TxNo.{MAX}
use Rattle.tx_cells.specs.Board.{Named, board_of}
use Rattle.tx_cells.specs.Places.{AreFound, IsAt}

-- one cell more in front of the others
one_more : (all rest : List Named) (k : ℕ) (c : Named) (t : ℕ) (place : Option ℕ) → slice_get all k ≡ Some c → IsAt all rest t place → IsAt all (c ∷ rest) t (if c.transaction.value == t then Some k else place)
one_more all rest k c t place is was = by (c.transaction.value == t) refl
  where
    by : (b : Bool) → (c.transaction.value == t) ≡ b
        → MatchOption (if b then Some k else place) ((if b then Some c.board else board_of rest t) ≡ None) (λ i. (d : Named) × (slice_get all i ≡ Some d) × ((if b then Some c.board else board_of rest t) ≡ Some d.board) × (d.transaction.value ≡ t))
    by true e = (c, is, refl, eqb-true c.transaction.value t e)
    by false e = was

-- The table that is right for the last cells from place j on is right for those from the place before on, once the cell there is put into it.
pub put_more : (cells : List Named) (j : ℕ) (c : Named) (old new : List (Option ℕ)) → 0 < j → j ≤ length cells → c ≡ get_or cells (j - 1) c
    → ((t : TxNo) → slice_index_or new (t.value - 1) None ≡ (if c.transaction.value == t.value then Some (j - 1) else slice_index_or old (t.value - 1) None))
    → ((t : TxNo) → IsAt cells (drop j cells) t.value (slice_index_or old (t.value - 1) None)) → (t : TxNo) → IsAt cells (drop (j - 1) cells) t.value (slice_index_or new (t.value - 1) None)
put_more cells j c old new low high is put was t =
    let back : j - 1 + 1 ≡ j = omega (arith, low) in
    let within : j - 1 < length cells = omega (arith, low, high) in
    let cut : drop (j - 1) cells ≡ c ∷ drop j cells = rw (drop_more cells (j - 1) c within, ← is, back) refl in
    rw (put t, cut) (one_more cells (drop j cells) (j - 1) c t.value _ (slice_get_read cells (length cells) (j - 1) c refl within is) (was t))

-- the cell of a transaction whose place was read in the table
pub found_at : (cells : List Named) (places : List (Option ℕ)) (t : TxNo) (k : ℕ) (place : Option ℕ) (i : ℕ) → k + 1 ≡ t.value → k < MAX → place ≡ get_or places k place → place ≡ Some i → AreFound cells places
    → (c : Named) × (slice_get cells i ≡ Some c) × (board_of cells t.value ≡ Some c.board) × (c.transaction.value ≡ t.value)
found_at cells places t k place i at below read is found =
    let same : t.value - 1 ≡ k = omega (arith, at) in
    let reads : slice_index_or places (t.value - 1) None ≡ Some i = rw same (sym (get_or_read_under places k MAX place None read below (sym found.0)) ∙ is) in
    subst (IsAt cells cells t.value) reads (found.1 t)
