use Rattle.std.proofs.Common.{◌≡◌, ◌++◌, ◌∷◌, [], ◌+◌, length, ap, sym, ◌∙◌, rules}
use Rattle.dtx_model.specs.Words.{each}
use Rattle.dtx_model.specs.TraceText.{is_fit, trace_text}
use Rattle.trace_text.proofs.ReadTraces.{text_none, text_push, fit_push}
use Rattle.trace_text.proofs.reader.read_trace.Goals as goal

pub loop-rest-init : goal.loop-rest-init
loop-rest-init c =
    let none : c.new-entries.result.items ≡ [] = search rules in
    record {
      bytes = text_none c.args.bytes.now c.new-entries.result.items none;
      fit = ap (λ t. each is_fit t) none;
    }

pub loop-rest-preserved : goal.loop-rest-preserved
loop-rest-preserved c =
    let more : c.push.new.self.items ≡ c.loop-rest.entries.items ++ c.in-Some.x ∷ [] = search rules in
    let first = c.in-Some.ensures.some in
    let number : c.len.result + 1 ≡ length c.loop-rest.entries.items + 1 = search rules in
    record {
      bytes = text_push c.args.bytes.now c.loop-rest.rest.now c.in-Some.after.now c.loop-rest.entries.items c.in-Some.x (c.len.result + 1) c.loop-rest.invariant.bytes number first.0 ∙ ap
          (λ t. trace_text t ++ c.in-Some.after.now) (sym more);
      fit = ap (λ t. each is_fit t) more ∙ fit_push c.loop-rest.entries.items c.in-Some.x c.loop-rest.invariant.fit first.1;
    }
