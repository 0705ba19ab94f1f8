use Rattle.std.proofs.Common.{◌+◌, ◌≡◌, ◌≤◌, None, Some, length, arith, rules, ap, sym, ◌∙◌}
use Rattle.std.proofs.lemmas.Bool.Decides.{nat_tests}
use Rattle.dtx_values.specs.declared.limits.TheConstants.{LINE_BYTES}
use Rattle.dtx_model.specs.Words.{past_of}
use Rattle.dtx_model.specs.Grammar.{line_text}
use Rattle.dtx_model.specs.Faults.{form_fault, name_fault, words_of, ByNames}
use Rattle.line_reader.proofs.Fronts.{spelled_line}
use Rattle.line_reader.proofs.Scripts.{IsGood, length-line_text, script_more}
use Rattle.line_reader.proofs.front_lines.next_line.Goals as goal

pub returns-in-Some-clause-bad : goal.returns-in-Some-clause-bad
returns-in-Some-clause-bad c =
    let l = c.in_ok-line.line in
    let form : form_fault c.args.taken c.args.rest.now ≡ None = c.in_ok-text.ensures.words ∙ c.in_ok-line.ensures.2 in
    let fault : name_fault (past_of c.args.draft.now) l ≡ Some c.in-Some.cause = search rules in
    ByNames l (ap (λ n. form_fault n c.args.rest.now) (sym c.requires.taken) ∙ form) (ap words_of c.in_ok-text.ensures.text ∙ c.in_ok-line.ensures.0) c.in_ok-line.ensures.1 fault

pub returns-in-None-clause-ok : goal.returns-in-None-clause-ok
returns-in-None-clause-ok c =
    let l = c.in_ok-line.line in
    let bytes = c.args.rest.now in
    let text = c.in_ok-text.text.now in
    let after = c.in_ok-text.after.now in
    let named : name_fault (past_of c.args.draft.now) l ≡ None = search rules in
    let spelled = spelled_line l bytes text after c.in_ok-text.ensures.cut c.in_ok-line.ensures.0 in
    let long = length-line_text l bytes text after c.in_ok-text.ensures.cut spelled in
    let at_most : length (line_text l) ≤ LINE_BYTES + 1 = omega (arith, long, c.in_ok-text.ensures.short) in
    let good : IsGood c.args.draft.now l = record {
      in_range = c.in_ok-line.ensures.1;
      short = grind (arith, nat_tests);
      within = omega (arith, long, c.in_ok-text.ensures.within, c.requires.taken);
      names = named;
    } in
    (spelled, script_more c.args.draft.now l c.requires.script good, named)
