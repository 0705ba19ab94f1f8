use Rattle.std.proofs.Common.{◌≡◌, Some, true, subst, sym}
use Rattle.dtx_values.specs.declared.trace.Place.{Place}
use Rattle.dtx_model.specs.TraceText.{is_entry_fit}
use Rattle.trace_text.proofs.ReadLines.{placed_cut}
use Rattle.entry_reader.proofs.ReadPieces.{same_some, some_apart}
use Rattle.trace_text.proofs.reader.placed.Goals as goal

pub returns-in_err-at-clause-of : goal.returns-in_err-at-clause-of
returns-in_err-at-clause-of c = λ n x f e.
    let w = placed_cut n x c.args.text.now _ _ _ e c.parts.ensures.behind c.parts-2.ensures.front c.parts-2.ensures.behind in
    absurd (some_apart _ _ (c.place_of.ensures.of x.0 w.name) c.in_err-at.was)

pub returns-in_err-entry_of-clause-of : goal.returns-in_err-entry_of-clause-of
returns-in_err-entry_of-clause-of c = λ n x f e.
    let w = placed_cut n x c.args.text.now _ _ _ e c.parts.ensures.behind c.parts-2.ensures.front c.parts-2.ensures.behind in
    let place : c.in_ok-at.at ≡ x.0 = same_some _ x.0 c.in_ok-at.at (c.place_of.ensures.of x.0 w.name) c.in_ok-at.was in
    let fit : is_entry_fit c.in_ok-at.at x.1 ≡ true = subst (λ (p : Place). is_entry_fit p x.1 ≡ true) (sym place) f in
    absurd (some_apart _ _ (c.entry_of.ensures.of x.1 fit w.words) c.in_err-entry_of.was)

pub returns-clause-of : goal.returns-clause-of
returns-clause-of c = λ n x f e.
    let w = placed_cut n x c.args.text.now _ _ _ e c.parts.ensures.behind c.parts-2.ensures.front c.parts-2.ensures.behind in
    let place : c.in_ok-at.at ≡ x.0 = same_some _ x.0 c.in_ok-at.at (c.place_of.ensures.of x.0 w.name) c.in_ok-at.was in
    let fit : is_entry_fit c.in_ok-at.at x.1 ≡ true = subst (λ (p : Place). is_entry_fit p x.1 ≡ true) (sym place) f in
    let entry = same_some _ x.1 c.in_ok-entry_of.field-0 (c.entry_of.ensures.of x.1 fit w.words) c.in_ok-entry_of.was in
    λ i. Some (place i, entry i)
