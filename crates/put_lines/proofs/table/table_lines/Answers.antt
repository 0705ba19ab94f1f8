use Rattle.std.proofs.Common.{◌≡◌, ℕ, ◌+◌, List, [], ◌∷◌, ◌++◌, take, get_or, codes, decimal, ap, sym, ◌∙◌}
use Rattle.std.proofs.lemmas.List.{take_more}
use Rattle.heard_notes.specs.Tables.{table_text}
use Rattle.put_lines.specs.Rows.{pairs_of}
use Rattle.put_lines.specs.declared.table.TableRow.{TableRow}
use Rattle.put_lines.proofs.TableTexts.{table_more}
use Rattle.put_lines.proofs.table.table_lines.Goals as goal

pub loop-row-preserved : goal.loop-row-preserved
loop-row-preserved c =
    let rows = c.args.rows.now in
    let i = c.loop-row.row-index in
    let d : TableRow = record { key = 0; value = 0 } in
    let r : TableRow = get_or rows i d in
    let line : List ℕ = decimal r.key ++ codes " " ++ decimal r.value ++ 10 ∷ [] in
    let more : take (i + 1) rows ≡ take i rows ++ r ∷ [] = take_more rows i d c.loop-row-test.true in
    c.in_ok-extend_from_slice.ensures.items
    ∙ ap (λ (t : List ℕ). c.loop-row.text.items ++ t) (c.as_slice.ensures ∙ c.put_row.ensures)
    ∙ ap (λ (t : List ℕ). t ++ line) c.loop-row.invariant
    ∙ sym (table_more (take i rows) r)
    ∙ sym (ap (λ (rs : List TableRow). table_text (pairs_of rs)) more)
