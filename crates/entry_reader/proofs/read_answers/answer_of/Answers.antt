use Rattle.std.proofs.Common.{◌≡◌, ◌∙◌, ap, rules}
use Rattle.dtx_model.specs.TraceText.{answer_text}
use Rattle.line_tail.specs.Cut.{behind, front}
use Rattle.entry_reader.proofs.ReadPieces.{ambient_found, ambient_is, some_apart}
use Rattle.entry_reader.proofs.read_answers.answer_of.Goals as goal

pub returns-in_err-ambient_of-clause-of : goal.returns-in_err-ambient_of-clause-of
returns-in_err-ambient_of-clause-of c = λ x f e.
    let key : c.parts.result.0.now ≡ front 32 (answer_text x) = c.parts.ensures.front ∙ ap (λ t. front 32 t) e in
    let rest : c.parts.result.1.now ≡ behind 32 (answer_text x) = c.parts.ensures.behind ∙ ap (λ t. behind 32 t) e in
    let w = ambient_found x c.ambient_of.result c.parts.result.0.now (search rules) (search rules) (search rules) key c.ambient_of.ensures.of in
    absurd (some_apart c.ambient_of.result w.tx w.read c.in_err-ambient_of.was)

pub returns-clause-of : goal.returns-clause-of
returns-clause-of c = λ x f e.
    let key : c.parts.result.0.now ≡ front 32 (answer_text x) = c.parts.ensures.front ∙ ap (λ t. front 32 t) e in
    let rest : c.parts.result.1.now ≡ behind 32 (answer_text x) = c.parts.ensures.behind ∙ ap (λ t. behind 32 t) e in
    let w = ambient_found x c.ambient_of.result c.parts.result.0.now (search rules) (search rules) (search rules) key c.ambient_of.ensures.of in
    ambient_is x c.ambient_of.result c.in_ok-ambient_of.field-0 w c.in_ok-ambient_of.was
