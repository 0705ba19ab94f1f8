use Rattle.std.proofs.Common.{◌≡◌, ◌∙◌, codes, length, ap, sym, rules}
use Rattle.dtx_values.specs.declared.entry.Entry.TheVariants.{LogWord}
use Rattle.dtx_values.specs.declared.entry.LogNote.TheVariants.{Opened}
use Rattle.line_tail.proofs.SameBytes.{same_text}
use Rattle.entry_reader.specs.ReadGroups.{is_of_words}
use Rattle.entry_reader.proofs.ReadPieces.{AreOfNone, armed_cut, cloned_cut, down_cut, if_none, log_opened_cut, no_length, opened_cut, promoted_cut, same_some, some_apart, told_cut, two_found}
use Rattle.entry_reader.proofs.read_entries.of_words.Goals as goal

pub returns-in_err-clone_of-clause-none : goal.returns-in_err-clone_of-clause-none
returns-in_err-clone_of-clause-none c = if_none (AreOfNone is_of_words c.args.key.now c.args.rest.now) _ (λ p x f g k r.
    let named : c.args.key.now ≡ codes "cloned" = search rules in
    let w = cloned_cut x _ _ _ (same_text _ _ (sym named ∙ k)) r c.parts.ensures.front c.parts.ensures.behind in
    some_apart _ _ (c.clone_of.ensures.of w.one w.first) c.in_err-clone_of.was)

pub returns-in_err-kind_of-clause-none : goal.returns-in_err-kind_of-clause-none
returns-in_err-kind_of-clause-none c = if_none (AreOfNone is_of_words c.args.key.now c.args.rest.now) _ (λ p x f g k r.
    let named : c.args.key.now ≡ codes "cloned" = search rules in
    let w = cloned_cut x _ _ _ (same_text _ _ (sym named ∙ k)) r c.parts.ensures.front c.parts.ensures.behind in
    some_apart _ _ (c.kind_of.ensures.of w.two w.last) c.in_err-kind_of.was)

pub returns-then-eq-clause-some : goal.returns-then-eq-clause-some
returns-then-eq-clause-some c = λ p x f k r.
    let named : c.args.key.now ≡ codes "cloned" = search rules in
    let w = cloned_cut x _ _ _ (same_text _ _ (sym named ∙ k)) r c.parts.ensures.front c.parts.ensures.behind in
    two_found _ _ _ x w _ _ _ _ (c.clone_of.ensures.of w.one w.first) c.in_ok-clone_of.was (c.kind_of.ensures.of w.two w.last) c.in_ok-kind_of.was

pub returns-in_err-party_of-clause-none : goal.returns-in_err-party_of-clause-none
returns-in_err-party_of-clause-none c = if_none (AreOfNone is_of_words c.args.key.now c.args.rest.now) _ (λ p x f g k r.
    let named : c.args.key.now ≡ codes "told" = search rules in
    let w = told_cut x _ _ _ (same_text _ _ (sym named ∙ k)) r c.parts.ensures.front c.parts.ensures.behind in
    some_apart _ _ (c.party_of.ensures.of w.one w.first) c.in_err-party_of.was)

pub returns-in_err-outcome_of-clause-none : goal.returns-in_err-outcome_of-clause-none
returns-in_err-outcome_of-clause-none c = if_none (AreOfNone is_of_words c.args.key.now c.args.rest.now) _ (λ p x f g k r.
    let named : c.args.key.now ≡ codes "told" = search rules in
    let w = told_cut x _ _ _ (same_text _ _ (sym named ∙ k)) r c.parts.ensures.front c.parts.ensures.behind in
    some_apart _ _ (c.outcome_of.ensures.of w.two w.last) c.in_err-outcome_of.was)

pub returns-then-eq-2-clause-some : goal.returns-then-eq-2-clause-some
returns-then-eq-2-clause-some c = λ p x f k r.
    let named : c.args.key.now ≡ codes "told" = search rules in
    let w = told_cut x _ _ _ (same_text _ _ (sym named ∙ k)) r c.parts.ensures.front c.parts.ensures.behind in
    two_found _ _ _ x w _ _ _ _ (c.party_of.ensures.of w.one w.first) c.in_ok-party_of.was (c.outcome_of.ensures.of w.two w.last) c.in_ok-outcome_of.was

pub returns-in_err-identifier_of-clause-none : goal.returns-in_err-identifier_of-clause-none
returns-in_err-identifier_of-clause-none c = if_none (AreOfNone is_of_words c.args.key.now c.args.rest.now) _ (λ p x f g k r.
    let named : c.args.key.now ≡ codes "promoted" = search rules in
    let w = promoted_cut p x _ _ _ f (same_text _ _ (sym named ∙ k)) r c.parts.ensures.front c.parts.ensures.behind in
    some_apart _ _ (c.identifier_of.ensures.of w.one w.first.0 w.first.1) c.in_err-identifier_of.was)

pub returns-in_err-cause_of-clause-none : goal.returns-in_err-cause_of-clause-none
returns-in_err-cause_of-clause-none c = if_none (AreOfNone is_of_words c.args.key.now c.args.rest.now) _ (λ p x f g k r.
    let named : c.args.key.now ≡ codes "promoted" = search rules in
    let w = promoted_cut p x _ _ _ f (same_text _ _ (sym named ∙ k)) r c.parts.ensures.front c.parts.ensures.behind in
    some_apart _ _ (c.cause_of.ensures.of w.two w.last) c.in_err-cause_of.was)

pub returns-then-eq-3-clause-some : goal.returns-then-eq-3-clause-some
returns-then-eq-3-clause-some c = λ p x f k r.
    let named : c.args.key.now ≡ codes "promoted" = search rules in
    let w = promoted_cut p x _ _ _ f (same_text _ _ (sym named ∙ k)) r c.parts.ensures.front c.parts.ensures.behind in
    two_found _ _ _ x w _ _ _ _ (c.identifier_of.ensures.of w.one w.first.0 w.first.1) c.in_ok-identifier_of.was (c.cause_of.ensures.of w.two w.last) c.in_ok-cause_of.was

pub returns-in_err-connection_of-clause-none : goal.returns-in_err-connection_of-clause-none
returns-in_err-connection_of-clause-none c = if_none (AreOfNone is_of_words c.args.key.now c.args.rest.now) _ (λ p x f g k r.
    let named : c.args.key.now ≡ codes "down" = search rules in
    let w = down_cut x _ _ _ (same_text _ _ (sym named ∙ k)) r c.parts.ensures.front c.parts.ensures.behind in
    some_apart _ _ (c.connection_of.ensures.of w.one w.first) c.in_err-connection_of.was)

pub returns-in_err-direction_of-clause-none : goal.returns-in_err-direction_of-clause-none
returns-in_err-direction_of-clause-none c = if_none (AreOfNone is_of_words c.args.key.now c.args.rest.now) _ (λ p x f g k r.
    let named : c.args.key.now ≡ codes "down" = search rules in
    let w = down_cut x _ _ _ (same_text _ _ (sym named ∙ k)) r c.parts.ensures.front c.parts.ensures.behind in
    some_apart _ _ (c.direction_of.ensures.of w.two w.last) c.in_err-direction_of.was)

pub returns-then-eq-4-clause-some : goal.returns-then-eq-4-clause-some
returns-then-eq-4-clause-some c = λ p x f k r.
    let named : c.args.key.now ≡ codes "down" = search rules in
    let w = down_cut x _ _ _ (same_text _ _ (sym named ∙ k)) r c.parts.ensures.front c.parts.ensures.behind in
    two_found _ _ _ x w _ _ _ _ (c.connection_of.ensures.of w.one w.first) c.in_ok-connection_of.was (c.direction_of.ensures.of w.two w.last) c.in_ok-direction_of.was

pub returns-in_err-number8_of-clause-none : goal.returns-in_err-number8_of-clause-none
returns-in_err-number8_of-clause-none c = if_none (AreOfNone is_of_words c.args.key.now c.args.rest.now) _ (λ p x f g k r.
    let named : c.args.key.now ≡ codes "armed" = search rules in
    let w = armed_cut p x _ _ _ f (same_text _ _ (sym named ∙ k)) r c.parts.ensures.front c.parts.ensures.behind in
    some_apart _ _ (c.number8_of.ensures.of w.one w.first.0 w.first.1) c.in_err-number8_of.was)

pub returns-in_err-image_of-clause-none : goal.returns-in_err-image_of-clause-none
returns-in_err-image_of-clause-none c = if_none (AreOfNone is_of_words c.args.key.now c.args.rest.now) _ (λ p x f g k r.
    let named : c.args.key.now ≡ codes "armed" = search rules in
    let w = armed_cut p x _ _ _ f (same_text _ _ (sym named ∙ k)) r c.parts.ensures.front c.parts.ensures.behind in
    some_apart _ _ (c.image_of.ensures.of w.two w.last) c.in_err-image_of.was)

pub returns-then-eq-5-clause-some : goal.returns-then-eq-5-clause-some
returns-then-eq-5-clause-some c = λ p x f k r.
    let named : c.args.key.now ≡ codes "armed" = search rules in
    let w = armed_cut p x _ _ _ f (same_text _ _ (sym named ∙ k)) r c.parts.ensures.front c.parts.ensures.behind in
    two_found _ _ _ x w _ _ _ _ (c.number8_of.ensures.of w.one w.first.0 w.first.1) c.in_ok-number8_of.was (c.image_of.ensures.of w.two w.last) c.in_ok-image_of.was

pub returns-in_err-number16_of-clause-none : goal.returns-in_err-number16_of-clause-none
returns-in_err-number16_of-clause-none c = if_none (AreOfNone is_of_words c.args.key.now c.args.rest.now) _ (λ p x f g k r.
    let named : c.args.key.now ≡ codes "opened" = search rules in
    let nothing : length c.parts.result.1.now ≡ 0 = search rules in
    let w = log_opened_cut p x _ _ _ f (same_text _ _ (sym named ∙ k)) r c.parts.ensures.front c.parts.ensures.behind (no_length _ nothing) in
    some_apart _ _ (c.number16_of.ensures.of w.number w.small w.word) c.in_err-number16_of.was)

pub returns-then-is_empty-clause-some : goal.returns-then-is_empty-clause-some
returns-then-is_empty-clause-some c = λ p x f k r.
    let named : c.args.key.now ≡ codes "opened" = search rules in
    let nothing : length c.parts.result.1.now ≡ 0 = search rules in
    let w = log_opened_cut p x _ _ _ f (same_text _ _ (sym named ∙ k)) r c.parts.ensures.front c.parts.ensures.behind (no_length _ nothing) in
    ap (λ n. LogWord (Opened n)) (same_some _ _ _ (c.number16_of.ensures.of w.number w.small w.word) c.in_ok-number16_of.was) ∙ sym w.is

pub returns-in_err-scope_of-clause-none : goal.returns-in_err-scope_of-clause-none
returns-in_err-scope_of-clause-none c = if_none (AreOfNone is_of_words c.args.key.now c.args.rest.now) _ (λ p x f g k r.
    let named : c.args.key.now ≡ codes "opened" = search rules in
    let w = opened_cut p x _ _ _ f (same_text _ _ (sym named ∙ k)) r c.parts.ensures.front c.parts.ensures.behind (search rules) in
    some_apart _ _ (c.scope_of.ensures.of w.one w.first) c.in_err-scope_of.was)

pub returns-in_err-ambient_of-clause-none : goal.returns-in_err-ambient_of-clause-none
returns-in_err-ambient_of-clause-none c = if_none (AreOfNone is_of_words c.args.key.now c.args.rest.now) _ (λ p x f g k r.
    let named : c.args.key.now ≡ codes "opened" = search rules in
    let w = opened_cut p x _ _ _ f (same_text _ _ (sym named ∙ k)) r c.parts.ensures.front c.parts.ensures.behind (search rules) in
    some_apart _ _ (c.ambient_of.ensures.of w.two w.last) c.in_err-ambient_of.was)

pub returns-then-eq-6-clause-some : goal.returns-then-eq-6-clause-some
returns-then-eq-6-clause-some c = λ p x f k r.
    let named : c.args.key.now ≡ codes "opened" = search rules in
    let w = opened_cut p x _ _ _ f (same_text _ _ (sym named ∙ k)) r c.parts.ensures.front c.parts.ensures.behind (search rules) in
    two_found _ _ _ x w _ _ _ _ (c.scope_of.ensures.of w.one w.first) c.in_ok-scope_of.was (c.ambient_of.ensures.of w.two w.last) c.in_ok-ambient_of.was
