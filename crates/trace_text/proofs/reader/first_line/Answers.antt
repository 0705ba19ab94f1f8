use Rattle.std.proofs.Common.{◌≡◌, ◌≢◌, ◌∙◌, ◌++◌, ◌≤◌, List, ℕ, ap, arith, length, rules, true}
use Rattle.dtx_model.specs.Traces.{Placed}
use Rattle.dtx_model.specs.TraceText.{is_fit, trace_line}
use Rattle.line_tail.specs.Cut.{front}
use Rattle.trace_lines.specs.Forms.{line_words}
use Rattle.trace_lines.proofs.LineEnds.{front_line}
use Rattle.trace_text.proofs.ReadLines.{line_fits, line_taken}
use Rattle.entry_reader.proofs.ReadPieces.{if_none, same_some, some_apart}
use Rattle.trace_text.proofs.reader.first_line.Goals as goal

pub returns-in_err-x-clause-none : goal.returns-in_err-x-clause-none
returns-in_err-x-clause-none c = if_none ((x : Placed) (after : List ℕ) → is_fit x ≡ true → c.args.bytes.now ≢ trace_line c.args.number x ++ after) _ (λ x after f e.
    let text : c.parts.result.0.now ≡ line_words c.args.number x = c.parts.ensures.front ∙ ap (λ t. front 10 t) e ∙ front_line c.args.number x after in
    some_apart _ x (c.placed.ensures.of c.args.number x f text) c.in_err-x.was)

pub returns-then-bytes-line-clause-none : goal.returns-then-bytes-line-clause-none
returns-then-bytes-line-clause-none c = λ x after f e.
    let text : c.parts.result.0.now ≡ line_words c.args.number x = c.parts.ensures.front ∙ ap (λ t. front 10 t) e ∙ front_line c.args.number x after in
    let same : c.in_ok-x.x ≡ x = same_some _ x c.in_ok-x.x (c.placed.ensures.of c.args.number x f text) c.in_ok-x.was in
    let printed : c.as_slice-line.result.now ≡ trace_line c.args.number c.in_ok-x.x = search rules in
    let line : c.as_slice-line.result.now ≡ trace_line c.args.number x = printed ∙ ap (λ y. trace_line c.args.number y) same in
    let fits : length c.as_slice-line.result.now ≤ length c.args.bytes.now = line_fits c.args.number x c.args.bytes.now c.as_slice-line.result.now after e line in
    omega arith

pub returns-then-ne-clause-none : goal.returns-then-ne-clause-none
returns-then-ne-clause-none c = λ x after f e.
    let text : c.parts.result.0.now ≡ line_words c.args.number x = c.parts.ensures.front ∙ ap (λ t. front 10 t) e ∙ front_line c.args.number x after in
    let same : c.in_ok-x.x ≡ x = same_some _ x c.in_ok-x.x (c.placed.ensures.of c.args.number x f text) c.in_ok-x.was in
    let printed : c.as_slice-line.result.now ≡ trace_line c.args.number c.in_ok-x.x = search rules in
    let line : c.as_slice-line.result.now ≡ trace_line c.args.number x = printed ∙ ap (λ y. trace_line c.args.number y) same in
    let other : c.split_at.result.0.now ≢ c.as_slice-line.result.now = search rules in
    other (c.split_at.ensures.front ∙ line_taken c.args.number x c.args.bytes.now c.as_slice-line.result.now after e line)
