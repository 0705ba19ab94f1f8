-- What a scan of a transaction's history tells.
use Rattle.std.proofs.Common.{ℕ, zero, suc, ◌≡◌, ◌<◌, ◌∙◌, Bool, List, [], ◌∷◌, length, slice_get, slice_index_or, Some, ap, arith, subst, sym}
use Rattle.dtx_values.specs.declared.entry.Entry.{Entry}
use Rattle.dtx_model.specs.Words.{has, onto, past_of}
use Rattle.dtx_model.proofs.Reading.{has-past}
use Rattle.transactions.specs.Answered.{Has}
use Rattle.transactions.specs.State.{LiveState, past}

-- some entry of the list passes where some entry of the history does
pub has-history : (p : Entry → Bool) (items : List Entry) (x y : LiveState) → x ≡ y → past_of items ≡ past x → has p items ≡ has p (past y)
has-history p items x y same h = sym (has-past p items) ∙ ap (λ (z : List Entry). has p z) (h ∙ ap (λ (z : LiveState). past z) same)

-- what stands in a history stands with more after it
kept-onto : {E : Type 0} (h xs : List E) (j : ℕ) (x : E) → slice_get h j ≡ Some x → (k : ℕ) × (slice_get (onto h xs) k ≡ Some x)
kept-onto h [] j x e = (j, e)
kept-onto h (y ∷ xs) j x e = kept-onto (y ∷ h) xs (suc j) x e

-- what stands in a list stands in a history with that list after it
stands-onto : {E : Type 0} (h xs : List E) (i : ℕ) (x : E) → slice_get xs i ≡ Some x → (k : ℕ) × (slice_get (onto h xs) k ≡ Some x)
stands-onto h [] i x e = absurd cc
stands-onto h (y ∷ xs) zero x e = kept-onto (y ∷ h) xs 0 x e
stands-onto h (y ∷ xs) (suc i) x e = stands-onto (y ∷ h) xs i x e

-- what was read at a place stands there
read-at : {E : Type 0} (xs : List E) (i : ℕ) (x : E) → i < length xs → x ≡ slice_index_or xs i x → slice_get xs i ≡ Some x
read-at [] i x h e = absurd (omega arith)
read-at (y ∷ xs) zero x h e = ap Some (sym e)
read-at (y ∷ xs) (suc i) x h e = read-at xs i x (omega arith) e

-- the entry that was read in the list stands in the history
pub stands-history : (items : List Entry) (i : ℕ) (e : Entry) (x y : LiveState) → x ≡ y → past_of items ≡ past x → i < length items → e ≡ slice_index_or items i e → Has e (past y)
stands-history items i e x y same h within read =
    subst (λ (z : List Entry). Has e z) (h ∙ ap (λ (z : LiveState). past z) same) (stands-onto [] items i e (read-at items i e within read))
