-- One ending is said of each transaction that was begun.
use Rattle.std.proofs.Common.{◌≡◌, ℕ, zero, suc, ◌+◌, ◌<◌, ◌≤◌, Bool, true, false, List, [], ◌∷◌, ◌++◌, Option, Some, None, length, map, filter, refl, ap, sym, ◌∙◌, arith, inl, inr, if◌then◌else◌}
use Rattle.std.specs.List.{flat_map, range_with_len}
use Rattle.std.proofs.lemmas.Bool.{cases_Bool, cases_eq, eq-eqb, ne_eqb}
use Rattle.std.proofs.lemmas.List.Elements.{filter-append}
use Rattle.dtx_values.specs.declared.entry.Entry.{Entry}
use Rattle.dtx_values.specs.declared.number.EnlNo.{EnlNo}
use Rattle.dtx_values.specs.declared.number.ScopeNo.{ScopeNo}
use Rattle.dtx_values.specs.declared.script.Line.{Line}
use Rattle.dtx_values.specs.declared.words.Outcome.{Outcome}
use Rattle.dtx_values.specs.declared.words.Outcome.TheVariants.{Aborted as AbortedWord, Committed as CommittedWord, InDoubt as InDoubtWord}
use Rattle.dtx_model.specs.Entries.{client_told_of, is_promoted}
use Rattle.dtx_model.specs.Learned.{is_first_abort}
use Rattle.dtx_model.specs.Traces.{Placed, history}
use Rattle.dtx_model.specs.Words.{has, latest, past_of}
use Rattle.outcome_reasons.specs.declared.said.AbortReason.{AbortReason}
use Rattle.outcome_reasons.specs.declared.said.CommitReason.{CommitReason}
use Rattle.outcome_reasons.specs.declared.said.DoubtReason.{DoubtReason}
use Rattle.outcome_reasons.specs.declared.said.Moment.{Moment}
use Rattle.outcome_reasons.specs.declared.said.PromotionReason.{PromotionReason}
use Rattle.outcome_reasons.specs.declared.said.Why.{Why}
use Rattle.outcome_reasons.specs.Claims.{HaveOneEnding, is_ending, is_ending_of}
use Rattle.outcome_reasons.specs.Commits.{evident}
use Rattle.outcome_reasons.specs.Doubts.{decided_there, doubtful, committed_at}
use Rattle.outcome_reasons.specs.First.{first_of, first_where}
use Rattle.outcome_reasons.specs.Histories.{Numbered, numbered}
use Rattle.outcome_reasons.specs.Owed.{is_owed, owed, owes_if, prepared}
use Rattle.outcome_reasons.specs.Promotions.{promoting, promotion, promotion_in}
use Rattle.outcome_reasons.specs.Vetoes.{vetoing}
use Rattle.outcome_reasons.specs.Whys.{aborted_line, committed_line, doubt_lines, ended_in, is_began, nested_lines, outcome_lines, said_if, said_of, there_after, whys, whys_of}

-- of another transaction none is said
of_another : (t u : ℕ) (ws : List Why) → (t ≡ u → ⊥) → filter (is_ending_of t) (map (λ w. (u, w)) ws) ≡ []
of_another t u [] apart = refl
of_another t u (w ∷ ws) apart = rw (ne_eqb t u apart) (of_another t u ws apart)

of_itself : (t : ℕ) (ws : List Why) → length (filter (is_ending_of t) (map (λ w. (t, w)) ws)) ≡ length (filter is_ending ws)
of_itself t [] = refl
of_itself t (w ∷ ws) = elim (cases_Bool (is_ending w)) [
  | inl ends ↦ rw (eq-eqb t t refl, ends) (ap suc (of_itself t ws))
  | inr goes_on ↦ rw (eq-eqb t t refl, goes_on) (of_itself t ws)
]

none_of_promotion : (done : Bool) (o : Option (ℕ × (PromotionReason × Moment))) → filter is_ending (promotion_in done o) ≡ []
none_of_promotion true (Some x) = refl
none_of_promotion false (Some x) = refl
none_of_promotion done None = refl

none_owed : (b : Bool) (e : EnlNo) → filter is_ending (owes_if b e) ≡ []
none_owed true e = refl
none_owed false e = refl

none_of_owed : (s : List Line) (h : List Entry) (es : List EnlNo) → filter is_ending (flat_map (λ e. owes_if (is_owed s h e) e) es) ≡ []
none_of_owed s h [] = refl
none_of_owed s h (e ∷ es) =
    filter-append is_ending (owes_if (is_owed s h e) e) (flat_map (λ f. owes_if (is_owed s h f) f) es)
    ∙ (λ j. none_owed (is_owed s h e) e j ++ none_of_owed s h es j)

one_commit : (ns : List ℕ) (o : Option (ℕ × CommitReason)) → length (filter is_ending (committed_line ns o ∷ [])) ≡ 1
one_commit ns (Some x) = refl
one_commit ns None = refl

one_abort : (o : Option (ℕ × (AbortReason × Moment))) → length (filter is_ending (aborted_line o ∷ [])) ≡ 1
one_abort (Some x) = refl
one_abort None = refl

none_there : (ns : List ℕ) (a b : Option ℕ) → filter is_ending (decided_there ns a b ∷ []) ≡ []
none_there ns (Some i) b = refl
none_there ns None (Some i) = refl
none_there ns None None = refl

none_after : (ns : List ℕ) (h : List Entry) (b : Bool) → filter is_ending (there_after ns h b) ≡ []
none_after ns h true = none_there ns (first_where committed_at h) (first_where is_first_abort h)
none_after ns h false = refl

one_doubt : (ns : List ℕ) (h : List Entry) (o : Option (ℕ × DoubtReason)) → length (filter is_ending (doubt_lines ns h o)) ≡ 1
one_doubt ns h (Some x) = ap (λ (l : List Why). suc (length l)) (none_after ns h (ended_in (Some x)))
one_doubt ns h None = refl

one_outcome : (s : List Line) (qs : List (ℕ × ScopeNo)) (ns : List ℕ) (h : List Entry) (o : Option Outcome) → length (filter is_ending (outcome_lines s qs ns h o)) ≡ 1
one_outcome s qs ns h (Some CommittedWord) = one_commit ns (first_of evident h)
one_outcome s qs ns h (Some AbortedWord) = one_abort (first_of (vetoing s qs ns) h)
one_outcome s qs ns h (Some InDoubtWord) = one_doubt ns h (first_of (doubtful ns) h)
one_outcome s qs ns h None = refl

append_none : {A : Type 0} (xs : List A) → xs ++ [] ≡ xs
append_none [] = refl
append_none (x ∷ xs) = ap (λ l. x ∷ l) (append_none xs)

one_said : (s : List Line) (qs : List (ℕ × ScopeNo)) (ns : List ℕ) (h : List Entry) → length (filter is_ending (said_of s qs ns h)) ≡ 1
unfolding said_of
one_said s qs ns h =
    let said : List Why = outcome_lines s qs ns h (latest client_told_of h) in
    ap length
    (filter-append is_ending (promotion s ns h) (said ++ owed s h) ∙ ap (λ l. l ++ filter is_ending (said ++ owed s h)) (none_of_promotion (has is_promoted h) (first_of (promoting s ns) h))
    ∙ filter-append is_ending said (owed s h) ∙ ap (λ l. filter is_ending said ++ l) (none_of_owed s h (prepared h)) ∙ append_none (filter is_ending said))
    ∙ one_outcome s qs ns h (latest client_told_of h)

-- of the transaction itself one is said where it was begun
its_own : (s : List Line) (qs : List (ℕ × ScopeNo)) (t : ℕ) (h : Numbered) → length (filter (is_ending_of t) (said_if s qs t h)) ≡ (if has is_began h.entries then 1 else 0)
its_own s qs t h = elim (cases_Bool (has is_began h.entries)) [
  | inl begun ↦ rw begun (of_itself t (said_of s qs h.numbers h.entries) ∙ one_said s qs h.numbers h.entries)
  | inr not_begun ↦ rw not_begun refl
]

-- and none of another
anothers : (s : List Line) (qs : List (ℕ × ScopeNo)) (t u : ℕ) (h : Numbered) → (t ≡ u → ⊥) → filter (is_ending_of t) (said_if s qs u h) ≡ []
anothers s qs t u h apart = elim (cases_Bool (has is_began h.entries)) [
  | inl begun ↦ rw begun (of_another t u (said_of s qs h.numbers h.entries) apart)
  | inr not_begun ↦ rw not_begun refl
]

above : (s : List Line) (T : List Placed) (t low n : ℕ) → t < low → filter (is_ending_of t) (flat_map (whys_of s T) (range_with_len low n)) ≡ []
above s T t low zero k = refl
above s T t low (suc n) k =
    filter-append (is_ending_of t) (whys_of s T low) (flat_map (whys_of s T) (range_with_len (low + 1) n))
    ∙ (λ j. anothers s (nested_lines T) t low (numbered T low) (λ e. omega (arith, e, k)) j ++ above s T t (low + 1) n (omega (arith, k)) j)

within : (s : List Line) (T : List Placed) (t low n : ℕ) → low ≤ t → t < low + n → length (filter (is_ending_of t) (flat_map (whys_of s T) (range_with_len low n))) ≡ (if has is_began (history t T) then 1 else 0)
within s T t low zero k m = absurd (omega (arith, k, m))
within s T t low (suc n) k m =
    let all = filter-append (is_ending_of t) (whys_of s T low) (flat_map (whys_of s T) (range_with_len (low + 1) n)) in
    elim (cases_eq t low) [
      | inl same ↦
          ap length (all ∙ ap (λ l. filter (is_ending_of t) (whys_of s T low) ++ l) (above s T t (low + 1) n (omega (arith, same))) ∙ append_none (filter (is_ending_of t) (whys_of s T low)))
          ∙ sym (ap (λ (u : ℕ). length (filter (is_ending_of t) (whys_of s T u))) same) ∙ its_own s (nested_lines T) t (numbered T t)
      | inr apart ↦
          ap length (all ∙ ap (λ l. l ++ filter (is_ending_of t) (flat_map (whys_of s T) (range_with_len (low + 1) n))) (anothers s (nested_lines T) t low (numbered T low) apart))
          ∙ within s T t (low + 1) n (omega (arith, k, apart)) (omega (arith, m))
    ]

pub one_ending : (s : List Line) (T : List Placed) → HaveOneEnding T (whys s T)
unfolding whys
one_ending s T t some few = within s (past_of T) t 1 256 (omega (arith, some)) (omega (arith, few))
