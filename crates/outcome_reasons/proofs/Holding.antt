-- Each line that is said holds.
use Rattle.std.proofs.Common.{◌≡◌, ℕ, Bool, true, false, List, [], ◌∷◌, ◌++◌, Option, Some, None, length, refl, ap, subst, sym, ◌∙◌, inl, inr}
use Rattle.std.specs.Prelude.{All}
use Rattle.std.specs.Option.{option_map}
use Rattle.std.specs.List.{flat_map, range_with_len}
use Rattle.std.proofs.lemmas.Bool.{cases_Bool}
use Rattle.std.proofs.lemmas.List.Elements.{All-append, All-cons, All-map, All-nil}
use Rattle.dtx_values.specs.declared.entry.Entry.{Entry}
use Rattle.dtx_values.specs.declared.number.CloneNo.{CloneNo}
use Rattle.dtx_values.specs.declared.number.EnlNo.{EnlNo}
use Rattle.dtx_values.specs.declared.note.Note.{Note}
use Rattle.dtx_values.specs.declared.number.ScopeNo.{ScopeNo}
use Rattle.dtx_values.specs.declared.script.Line.{Line}
use Rattle.dtx_values.specs.declared.words.Outcome.{Outcome}
use Rattle.dtx_values.specs.declared.words.Outcome.TheVariants.{Aborted as AbortedWord, Committed as CommittedWord, InDoubt as InDoubtWord}
use Rattle.dtx_model.specs.Caused.{plans_of}
use Rattle.dtx_model.specs.Entries.{client_told_of, is_commit, is_promoted}
use Rattle.dtx_model.specs.Learned.{is_first_abort}
use Rattle.dtx_model.specs.Outcome.{is_first_veto}
use Rattle.dtx_model.specs.Traces.{Placed}
use Rattle.dtx_model.specs.Words.{has, latest, or_else, past_of}
use Rattle.outcome_reasons.specs.declared.said.AbortReason.{AbortReason}
use Rattle.outcome_reasons.specs.declared.said.CommitReason.{CommitReason}
use Rattle.outcome_reasons.specs.declared.said.DoubtReason.{DoubtReason}
use Rattle.outcome_reasons.specs.declared.said.Moment.{Moment}
use Rattle.outcome_reasons.specs.declared.said.PromotionReason.{PromotionReason}
use Rattle.outcome_reasons.specs.declared.said.Why.{Why}
use Rattle.outcome_reasons.specs.declared.said.Why.TheVariants.{Open}
use Rattle.outcome_reasons.specs.Claims.{Holds, IsExcuse, IsVetoAt, whole}
use Rattle.outcome_reasons.specs.Commits.{commit_reason, evident}
use Rattle.outcome_reasons.specs.Doubts.{decided_there, doubt_reason, doubtful, committed_at}
use Rattle.outcome_reasons.specs.First.{first_of, first_where, when}
use Rattle.outcome_reasons.specs.Moments.{moment, number_at, numbers_of}
use Rattle.outcome_reasons.specs.Opens.{blocking, open_by, open_reason, unanswered}
use Rattle.outcome_reasons.specs.Owed.{is_owed, owed, owes_if, prepared}
use Rattle.outcome_reasons.specs.Promotions.{promoting, promotion, promotion_in}
use Rattle.outcome_reasons.specs.Vetoes.{abort_reason, vetoing}
use Rattle.outcome_reasons.specs.Whys.{aborted_line, committed_line, doubt_line, ended_in, is_began, nested_lines, outcome_lines, said_of, there_after, whys, whys_of}
use Rattle.outcome_reasons.proofs.Claiming.{doubt-first, evidence-first, unjust-abort, unjust-commit, unjust-doubt, veto-first}
use Rattle.outcome_reasons.proofs.Excuses.{nothing_waits, open_clone, silent}
use Rattle.outcome_reasons.proofs.Oldest.{parts_of}

-- each line of a list of them holds
abbrev AllHold : List Line → List Placed → ℕ → List Why → Type 0
AllHold s T t ws = All (λ w. Holds s T t w) ws

one_holds : (s : List Line) (T : List Placed) (t : ℕ) (w : Why) → Holds s T t w → AllHold s T t (w ∷ [])
one_holds s T t w k = All-cons (λ x. Holds s T t x) w [] k (All-nil (λ x. Holds s T t x))

promotion_holds : (s : List Line) (T : List Placed) (t : ℕ) (done : Bool) (o : Option (ℕ × (PromotionReason × Moment))) → AllHold s T t (promotion_in done o)
promotion_holds s T t true (Some x) = one_holds s T t _ tt
promotion_holds s T t false (Some x) = one_holds s T t _ tt
promotion_holds s T t done None = All-nil (λ x. Holds s T t x)

owed_holds : (s : List Line) (T : List Placed) (t : ℕ) (h : List Entry) (es : List EnlNo) → AllHold s T t (flat_map (λ e. owes_if (is_owed s h e) e) es)
owed_holds s T t h [] = All-nil (λ x. Holds s T t x)
owed_holds s T t h (e ∷ es) = All-append (λ x. Holds s T t x) (owes_if (is_owed s h e) e) (flat_map (λ f. owes_if (is_owed s h f) f) es) (by (is_owed s h e)) (owed_holds s T t h es)
  where
    by : (b : Bool) → AllHold s T t (owes_if b e)
    by true = one_holds s T t _ tt
    by false = All-nil (λ x. Holds s T t x)

there_holds : (s : List Line) (T : List Placed) (t : ℕ) (ns : List ℕ) (a b : Option ℕ) → Holds s T t (decided_there ns a b)
there_holds s T t ns (Some i) b = tt
there_holds s T t ns None (Some i) = tt
there_holds s T t ns None None = tt

after_holds : (s : List Line) (T : List Placed) (t : ℕ) (ns : List ℕ) (h : List Entry) (b : Bool) → AllHold s T t (there_after ns h b)
after_holds s T t ns h true = one_holds s T t _ (there_holds s T t ns (first_where committed_at h) (first_where is_first_abort h))
after_holds s T t ns h false = All-nil (λ x. Holds s T t x)

commit_holds : (s : List Line) (T : List Placed) (t : ℕ) (o : Option (ℕ × CommitReason)) → latest client_told_of (whole t T) ≡ Some CommittedWord → first_of evident (whole t T) ≡ o → Holds s T t (committed_line (numbers_of t (past_of T)) o)
commit_holds s T t (Some x) told k = (told, evidence-first (λ past y. commit_reason (y ∷ past)) t T x.0 x.1 k)
commit_holds s T t None told k = (told, unjust-commit (λ past y. commit_reason (y ∷ past)) (whole t T) k told)

-- the moment of the first veto is that of its entry
moment_of : (s : List Line) (qs : List (ℕ × ScopeNo)) (ns : List ℕ) (h : List Entry) (i : ℕ) (a : AbortReason × Moment) → first_of (vetoing s qs ns) h ≡ Some (i, a) → a.1.entry ≡ number_at i ns
moment_of s qs ns [] i a k = absurd cc
moment_of s qs ns (x ∷ past) i a k = by (first_of (vetoing s qs ns) past) (is_first_veto past x) (λ w. moment_of s qs ns past i a w) refl k
  where
    said : AbortReason × Moment
    said = (abort_reason s qs ns past x, moment ns past x)

    by : (o : Option (ℕ × (AbortReason × Moment))) (b : Bool) → (first_of (vetoing s qs ns) past ≡ Some (i, a) → a.1.entry ≡ number_at i ns) → first_of (vetoing s qs ns) past ≡ o → or_else o (option_map (λ c. (length past, c)) (when b said)) ≡ Some (i, a) → a.1.entry ≡ number_at i ns
    by (Some r) b ih is e = ih (is ∙ e)
    by None true ih is e =
        let w = parts_of (length past) i said a e in
        sym (ap (λ (m : AbortReason × Moment). m.1.entry) w.1) ∙ ap (λ n. number_at n ns) w.0
    by None false ih is e = absurd cc

abort_holds : (s : List Line) (T : List Placed) (t : ℕ) (o : Option (ℕ × (AbortReason × Moment))) → latest client_told_of (whole t T) ≡ Some AbortedWord
    → first_of (vetoing s (nested_lines (past_of T)) (numbers_of t (past_of T))) (whole t T) ≡ o → Holds s T t (aborted_line o)
abort_holds s T t (Some x) told k =
    let ns : List ℕ = numbers_of t (past_of T) in
    let r : List Entry → Entry → AbortReason × Moment = λ past y. (abort_reason s (nested_lines (past_of T)) ns past y, moment ns past y) in
    (told, subst (λ n. IsVetoAt t n T) (sym (moment_of s (nested_lines (past_of T)) ns (whole t T) x.0 x.1 k)) (veto-first r t T x.0 x.1 k))
abort_holds s T t None told k =
    (told, unjust-abort (λ past y. (abort_reason s (nested_lines (past_of T)) (numbers_of t (past_of T)) past y, moment (numbers_of t (past_of T)) past y)) (whole t T) k told)

doubt_holds : (s : List Line) (T : List Placed) (t : ℕ) (o : Option (ℕ × DoubtReason)) → latest client_told_of (whole t T) ≡ Some InDoubtWord → first_of (doubtful (numbers_of t (past_of T))) (whole t T) ≡ o
    → Holds s T t (doubt_line (numbers_of t (past_of T)) o)
doubt_holds s T t (Some x) told k = (told, doubt-first (doubt_reason (numbers_of t (past_of T))) t T x.0 x.1 k)
doubt_holds s T t None told k = (told, unjust-doubt (doubt_reason (numbers_of t (past_of T))) (whole t T) k told)

open_holds : (s : List Line) (T : List Placed) (t : ℕ) → latest client_told_of (whole t T) ≡ None → Holds s T t (Open (open_reason s (numbers_of t (past_of T)) (whole t T)))
open_holds s T t told = (
  told,
  elim (cases_Bool (has is_commit (whole t T))) [
    | inl asked ↦ rw asked (by asked (first_of (λ past x. blocking h x) h) (first_of (λ past x. unanswered (plans_of s) h x) h) refl refl)
    | inr unasked ↦ rw unasked unasked
  ],
)
  where
    h : List Entry
    h = whole t T

    by : has is_commit h ≡ true → (o : Option (ℕ × CloneNo)) (p : Option (ℕ × (EnlNo × Note))) → first_of (λ past x. blocking h x) h ≡ o → first_of (λ past x. unanswered (plans_of s) h x) h ≡ p
        → IsExcuse s h (open_by (numbers_of t (past_of T)) o p)
    by asked (Some x) p is are = open_clone h x.0 x.1 is
    by asked None (Some x) is are = silent s h x.0 x.1.0 x.1.1 are
    by asked None None is are = (asked, nothing_waits s h is are)

outcome_holds : (s : List Line) (T : List Placed) (t : ℕ) (o : Option Outcome) → latest client_told_of (whole t T) ≡ o → AllHold s T t (outcome_lines s (nested_lines (past_of T)) (numbers_of t (past_of T)) (whole t T) o)
outcome_holds s T t (Some CommittedWord) k = one_holds s T t _ (commit_holds s T t (first_of evident (whole t T)) k refl)
outcome_holds s T t (Some AbortedWord) k = one_holds s T t _ (abort_holds s T t (first_of (vetoing s (nested_lines (past_of T)) (numbers_of t (past_of T))) (whole t T)) k refl)
outcome_holds s T t (Some InDoubtWord) k =
    let ns : List ℕ = numbers_of t (past_of T) in
    let o : Option (ℕ × DoubtReason) = first_of (doubtful ns) (whole t T) in
    All-cons (λ w. Holds s T t w) (doubt_line ns o) (there_after ns (whole t T) (ended_in o)) (doubt_holds s T t o k refl) (after_holds s T t ns (whole t T) (ended_in o))
outcome_holds s T t None k = one_holds s T t _ (open_holds s T t k)

said_holds : (s : List Line) (T : List Placed) (t : ℕ) → AllHold s T t (said_of s (nested_lines (past_of T)) (numbers_of t (past_of T)) (whole t T))
unfolding said_of
said_holds s T t =
    let ns : List ℕ = numbers_of t (past_of T) in
    let h : List Entry = whole t T in
    let outcome : List Why = outcome_lines s (nested_lines (past_of T)) ns h (latest client_told_of h) in
    All-append (λ w. Holds s T t w) (promotion s ns h) (outcome ++ owed s h) (promotion_holds s T t (has is_promoted h) (first_of (promoting s ns) h))
    (All-append (λ w. Holds s T t w) outcome (owed s h) (outcome_holds s T t (latest client_told_of h) refl) (owed_holds s T t h (prepared h)))

abbrev IsHeld : List Line → List Placed → ℕ × Why → Type 0
IsHeld s T x = Holds s T x.0 x.1

one_by_one : (s : List Line) (T : List Placed) (t : ℕ) → All (IsHeld s T) (whys_of s (past_of T) t)
one_by_one s T t = elim (cases_Bool (has is_began (whole t T))) [
  | inl begun ↦ rw begun (All-map (IsHeld s T) (λ w. (t, w)) (said_of s (nested_lines (past_of T)) (numbers_of t (past_of T)) (whole t T)) (said_holds s T t))
  | inr unbegun ↦ rw unbegun (All-nil (IsHeld s T))
]

all_of_them : (s : List Line) (T : List Placed) (ts : List ℕ) → All (IsHeld s T) (flat_map (whys_of s (past_of T)) ts)
all_of_them s T [] = All-nil (IsHeld s T)
all_of_them s T (t ∷ ts) = All-append (IsHeld s T) (whys_of s (past_of T) t) (flat_map (whys_of s (past_of T)) ts) (one_by_one s T t) (all_of_them s T ts)

pub all-hold : (s : List Line) (T : List Placed) → All (λ x. Holds s T x.0 x.1) (whys s T)
unfolding whys
all-hold s T = all_of_them s T (range_with_len 1 256)
