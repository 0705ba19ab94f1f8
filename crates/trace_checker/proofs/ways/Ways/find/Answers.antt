use Rattle.std.proofs.Common.{◌≡◌, ◌<◌, get_or, arith, ap, ◌∙◌}
use Rattle.std.proofs.lemmas.Option.{slice_get_read}
use Rattle.trace_checker.specs.Ways.{place_of}
use Rattle.trace_checker.proofs.Placing.{no_row_other, no_row_past}
use Rattle.trace_checker.proofs.ways.Ways.find.Goals as goal
use Rattle.trace_checker.proofs.ways.Ways.find.Goals.{else-p-len-via-then-p-len+else-index-k, else-p-len-via-else-p-len}

pub returns-then-index-k-clause-some : goal.returns-then-index-k-clause-some
returns-then-index-k-clause-some c =
    let ws = c.args.self.now in let p = c.item_at-p.result in
    let within : p < ws.rows.len = omega (arith, c.if-p-len.true, c.len.ensures) in
    record {
      place = c.item_at-p.ensures ∙ ap (λ ns. get_or ns c.args.k 0) c.deref.ensures.value;
      row = c.index.result.now;
      there = slice_get_read ws.rows.items ws.rows.len p c.index.result.now ws.rows.ok.0 within c.index.ensures;
      number = c.if-index-k.true;
    }

pub returns-else-p-len-clause-none : goal.returns-else-p-len-clause-none
returns-else-p-len-clause-none c =
    let ws = c.args.self.now in let p = c.item_at-p.result in
    let place : p ≡ place_of c.args.k ws = c.item_at-p.ensures ∙ ap (λ ns. get_or ns c.args.k 0) c.deref.ensures.value in
    elim c.else-p-len.branch [
      | else-p-len-via-then-p-len+else-index-k w ↦
          let within : p < ws.rows.len = omega (arith, w.if-p-len.true, c.len.ensures) in
          no_row_other c.args.k p ws w.index.result.now place (slice_get_read ws.rows.items ws.rows.len p w.index.result.now ws.rows.ok.0 within w.index.ensures) w.if-index-k.false
      | else-p-len-via-else-p-len w ↦ no_row_past c.args.k p ws place (omega (arith, w.if-p-len.false, c.len.ensures, ws.rows.ok.0))
    ]
