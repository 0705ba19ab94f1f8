-- The text of a table, row by row.
use Rattle.std.proofs.Common.{◌≡◌, ℕ, List, [], ◌∷◌, ◌++◌, codes, decimal, refl, ap, sym, ◌∙◌, append_assoc}
use Rattle.heard_notes.specs.Tables.{table_text}
use Rattle.put_lines.specs.Rows.{pair_of, pairs_of}
use Rattle.put_lines.specs.declared.table.TableRow.{TableRow}

-- the pairs of more rows
pairs-snoc : (rs : List TableRow) (r : TableRow) → pairs_of (rs ++ r ∷ []) ≡ pairs_of rs ++ pair_of r ∷ []
pairs-snoc [] r = refl
pairs-snoc (x ∷ rs) r = ap (λ (ws : List (ℕ × ℕ)). pair_of x ∷ ws) (pairs-snoc rs r)

-- the text of more pairs
table_text-append : (ws vs : List (ℕ × ℕ)) → table_text (ws ++ vs) ≡ table_text ws ++ table_text vs
table_text-append [] vs = refl
table_text-append (w ∷ ws) vs =
    let line = decimal w.0 ++ codes " " ++ decimal w.1 in
    ap (λ t. line ++ 10 ∷ t) (table_text-append ws vs) ∙ sym (append_assoc line (10 ∷ table_text ws) (table_text vs))

-- one row more
pub table_more : (rs : List TableRow) (r : TableRow) → table_text (pairs_of (rs ++ r ∷ [])) ≡ table_text (pairs_of rs) ++ (decimal r.key ++ codes " " ++ decimal r.value ++ 10 ∷ [])
table_more rs r = ap table_text (pairs-snoc rs r) ∙ table_text-append (pairs_of rs) (pair_of r ∷ [])
