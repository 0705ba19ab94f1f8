use Rattle.std.proofs.Common.{◌≡◌, ◌∙◌, codes, sym, rules}
use Rattle.dtx_values.specs.declared.entry.Entry.TheVariants.{Called}
use Rattle.line_tail.proofs.SameBytes.{same_text}
use Rattle.entry_reader.specs.ReadGroups.{is_call}
use Rattle.entry_reader.proofs.ReadPieces.{AreOfNone, answered_cut, called_cut, if_none, same_some, some_apart, two_found}
use Rattle.entry_reader.proofs.read_entries.call.Goals as goal

pub returns-in_err-number32_of-clause-none : goal.returns-in_err-number32_of-clause-none
returns-in_err-number32_of-clause-none c = if_none (AreOfNone is_call c.args.key.now c.args.rest.now) _ (λ p x f g k r.
    let named : c.args.key.now ≡ codes "call" = search rules in
    let w = called_cut p x _ _ _ _ _ f (same_text _ _ (sym named ∙ k)) r c.parts.ensures.front c.parts.ensures.behind c.parts-then-eq.ensures.front c.parts-then-eq.ensures.behind in
    some_apart _ _ (c.number32_of.ensures.of w.line w.small w.first) c.in_err-number32_of.was)

pub returns-in_err-actor_of-clause-none : goal.returns-in_err-actor_of-clause-none
returns-in_err-actor_of-clause-none c = if_none (AreOfNone is_call c.args.key.now c.args.rest.now) _ (λ p x f g k r.
    let named : c.args.key.now ≡ codes "call" = search rules in
    let w = called_cut p x _ _ _ _ _ f (same_text _ _ (sym named ∙ k)) r c.parts.ensures.front c.parts.ensures.behind c.parts-then-eq.ensures.front c.parts-then-eq.ensures.behind in
    some_apart _ _ (c.actor_of.ensures.of w.actor w.name) c.in_err-actor_of.was)

pub returns-in_err-answer_of-clause-none : goal.returns-in_err-answer_of-clause-none
returns-in_err-answer_of-clause-none c = if_none (AreOfNone is_call c.args.key.now c.args.rest.now) _ (λ p x f g k r.
    let named : c.args.key.now ≡ codes "call" = search rules in
    let w = called_cut p x _ _ _ _ _ f (same_text _ _ (sym named ∙ k)) r c.parts.ensures.front c.parts.ensures.behind c.parts-then-eq.ensures.front c.parts-then-eq.ensures.behind in
    some_apart _ _ (c.answer_of.ensures.of w.answer w.fit w.text) c.in_err-answer_of.was)

pub returns-then-eq-clause-some : goal.returns-then-eq-clause-some
returns-then-eq-clause-some c = λ p x f k r.
    let named : c.args.key.now ≡ codes "call" = search rules in
    let w = called_cut p x _ _ _ _ _ f (same_text _ _ (sym named ∙ k)) r c.parts.ensures.front c.parts.ensures.behind c.parts-then-eq.ensures.front c.parts-then-eq.ensures.behind in
    let line = same_some _ _ _ (c.number32_of.ensures.of w.line w.small w.first) c.in_ok-number32_of.was in
    let actor = same_some _ _ _ (c.actor_of.ensures.of w.actor w.name) c.in_ok-actor_of.was in
    let answer = same_some _ _ _ (c.answer_of.ensures.of w.answer w.fit w.text) c.in_ok-answer_of.was in
    (λ i. Called (line i) (actor i) (answer i)) ∙ sym w.is

pub returns-in_err-number32_of-2-clause-none : goal.returns-in_err-number32_of-2-clause-none
returns-in_err-number32_of-2-clause-none c = if_none (AreOfNone is_call c.args.key.now c.args.rest.now) _ (λ p x f g k r.
    let named : c.args.key.now ≡ codes "answer" = search rules in
    let w = answered_cut p x _ _ _ f (same_text _ _ (sym named ∙ k)) r c.parts.ensures.front c.parts.ensures.behind in
    some_apart _ _ (c.number32_of-then-eq-2.ensures.of w.one w.first.0 w.first.1) c.in_err-number32_of-2.was)

pub returns-in_err-answer_of-2-clause-none : goal.returns-in_err-answer_of-2-clause-none
returns-in_err-answer_of-2-clause-none c = if_none (AreOfNone is_call c.args.key.now c.args.rest.now) _ (λ p x f g k r.
    let named : c.args.key.now ≡ codes "answer" = search rules in
    let w = answered_cut p x _ _ _ f (same_text _ _ (sym named ∙ k)) r c.parts.ensures.front c.parts.ensures.behind in
    some_apart _ _ (c.answer_of-then-eq-2.ensures.of w.two w.last.0 w.last.1) c.in_err-answer_of-2.was)

pub returns-then-eq-2-clause-some : goal.returns-then-eq-2-clause-some
returns-then-eq-2-clause-some c = λ p x f k r.
    let named : c.args.key.now ≡ codes "answer" = search rules in
    let w = answered_cut p x _ _ _ f (same_text _ _ (sym named ∙ k)) r c.parts.ensures.front c.parts.ensures.behind in
    two_found _ _ _ x w _ _ _ _ (c.number32_of-then-eq-2.ensures.of w.one w.first.0 w.first.1) c.in_ok-number32_of-2.was (c.answer_of-then-eq-2.ensures.of w.two w.last.0 w.last.1) c.in_ok-answer_of-2.was
