-- What stands in a history with a block of entries after it, and in the history before.
use Rattle.std.proofs.Common.{◌≡◌, Bool, true, false, List, ◌∙◌, sym}
use Rattle.dtx_values.specs.declared.entry.Entry.{Entry}
use Rattle.dtx_model.specs.Words.{each, has, onto}
use Rattle.dtx_model.proofs.Bools.{not_both, or_case, or_second}
use Rattle.dtx_model.proofs.Reading.{has-onto}
use Rattle.history_table.proofs.Scans.{none_more}

-- what stands nowhere doesn't stand before the block
pub none_before : (p : Entry → Bool) (h es : List Entry) → has p (onto h es) ≡ false → has p h ≡ false
none_before p h es n = or_second (has p es) (has p h) (sym (has-onto p h es) ∙ n)

-- what no entry of the block is, stands before it
pub stood_before : (p q : Entry → Bool) → ((x : Entry) → q x ≡ true → p x ≡ false) → (h es : List Entry) → each q es ≡ true → has p (onto h es) ≡ true → has p h ≡ true
stood_before p q f h es k t = or_case (has p es) (has p h) (λ a. absurd (not_both (has p es) a (none_more q p f es k))) (λ a. a) (sym (has-onto p h es) ∙ t)
