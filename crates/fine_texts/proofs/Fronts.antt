-- What a trace keeps, its front keeps; so a trace has one verdict.
use Rattle.std.proofs.Common.{◌≡◌, ℕ, ◌+◌, ◌<◌, ◌≤◌, ◌==◌, Bool, true, false, cond, ◌&&◌, ◌||◌, not, nat_lt, List, [], ◌∷◌, ◌++◌, length, take, drop, refl, ap, sym, subst, ◌∙◌, arith, append_assoc}
use Rattle.std.proofs.lemmas.Bool.Decides.{nat_tests}
use Rattle.std.proofs.lemmas.List.{append-nil, take-append-drop, take-take}
use Rattle.dtx_values.specs.declared.entry.Entry.{Entry}
use Rattle.dtx_values.specs.declared.number.TxNo.{TxNo}
use Rattle.dtx_values.specs.declared.trace.Place.TheVariants.{Context, Log, Transaction}
use Rattle.dtx_values.specs.declared.words.Outcome.TheVariants.{Aborted, Committed}
use Rattle.dtx_model.specs.Entries.{is_final}
use Rattle.dtx_model.specs.Outcome.{agree, is_decided_again, is_just, justified}
use Rattle.dtx_model.specs.Traces.{Placed, history}
use Rattle.dtx_model.specs.Wires.{WireRun}
use Rattle.dtx_model.specs.Words.{always, ever, has, past_of}
use Rattle.dtx_model.proofs.Bools.{and_both, and_left, and_right, not_both, or_right}
use Rattle.dtx_model.proofs.Histories.{past_of-snoc}
use Rattle.trace_checker.specs.Keeps.{IsBadAt, IsChecked, Keeps, Loses}
use Rattle.trace_checker.specs.declared.checked.Checked.{Checked}
use Rattle.trace_checker.specs.declared.checked.Checked.TheVariants.{Bad, Fine}
use Rattle.trace_checker.specs.declared.checked.Why.{Why}
use Rattle.trace_checker.specs.declared.checked.Why.TheVariants.{Agree, Justified, Wire}

-- what holds of each history after one more entry held before it
before_entry : (P : List Entry → Type 0) → ((x : Entry) (h : List Entry) → P (x ∷ h) → P h) → (t : ℕ) (x : Placed) (U : List Placed) → P (history t (x ∷ U)) → P (history t U)
before_entry P step t (Context a, x) U p = p
before_entry P step t (Log, x) U p = p
before_entry P step t (Transaction u, x) U p = by (t == u.value) p
  where
    by : (b : Bool) → P (cond b (x ∷ history t U) (history t U)) → P (history t U)
    by true q = step x (history t U) q
    by false q = q

-- what isn't after it wasn't before
neither : (a b : Bool) → not b ≡ true → (a ≡ true → b ≡ true) → not a ≡ true
neither true b n f = sym (ap not (f refl)) ∙ n
neither false b n f = refl

just_before : (x : Entry) (h : List Entry) → justified (x ∷ h) ≡ true → justified h ≡ true
unfolding justified
just_before x h k = and_right (is_just h x) (always is_just h) k

agree_before : (x : Entry) (h : List Entry) → agree (x ∷ h) ≡ true → agree h ≡ true
unfolding agree
agree_before x h k =
    let committed = has (is_final Committed) h in
    let aborted = has (is_final Aborted) h in
    let again = ever is_decided_again h in
    let both = and_left (not ((is_final Committed x || committed) && (is_final Aborted x || aborted))) (not (is_decided_again h x || again)) k in
    let twice = and_right (not ((is_final Committed x || committed) && (is_final Aborted x || aborted))) (not (is_decided_again h x || again)) k in
    and_both (not (committed && aborted)) (not again)
    (neither (committed && aborted) ((is_final Committed x || committed) && (is_final Aborted x || aborted)) both
    (λ j. and_both (is_final Committed x || committed) (is_final Aborted x || aborted) (or_right (is_final Committed x) committed (and_left committed aborted j)) (or_right (is_final Aborted x) aborted (and_right committed aborted j))))
    (neither again (is_decided_again h x || again) twice (λ j. or_right (is_decided_again h x) again j))

wires_before : (x : Entry) (h : List Entry) → WireRun (x ∷ h) → WireRun h
wires_before x h k = k.1

keeps_before : (T : List Placed) (x : Placed) → Keeps (T ++ x ∷ []) → Keeps T
keeps_before T x k =
    let J : List Entry → Type 0 = λ h. justified h ≡ true in
    let A : List Entry → Type 0 = λ h. agree h ≡ true in
    record {
      just = λ (t : TxNo). before_entry J just_before t.value x (past_of T) (subst (λ (U : List Placed). J (history t.value U)) (past_of-snoc T x) (k.just t));
      agrees = λ (t : TxNo). before_entry A agree_before t.value x (past_of T) (subst (λ (U : List Placed). A (history t.value U)) (past_of-snoc T x) (k.agrees t));
      wires = λ (t : TxNo). before_entry WireRun wires_before t.value x (past_of T) (subst (λ (U : List Placed). WireRun (history t.value U)) (past_of-snoc T x) (k.wires t));
    }

keeps_front : (T U : List Placed) → Keeps (T ++ U) → Keeps T
keeps_front T [] k = subst Keeps (append-nil T) k
keeps_front T (x ∷ U) k = keeps_before T x (keeps_front (T ++ x ∷ []) U (subst Keeps (sym (append_assoc T (x ∷ []) U)) k))

keeps_first : (T : List Placed) (n : ℕ) → Keeps T → Keeps (take n T)
keeps_first T n k = keeps_front (take n T) (drop n T) (subst Keeps (sym (take-append-drop n T)) k)

-- what is kept isn't lost
lost_none : (why : Why) (T : List Placed) → Loses why T → Keeps T → ⊥
lost_none Justified T l k = not_both (justified (history l.0.value (past_of T))) (k.just l.0) l.1
lost_none Agree T l k = not_both (agree (history l.1.value (past_of T))) (k.agrees l.1) l.2
lost_none Wire T l k = l.3 (k.wires l.2)

-- one of the three is lost first
one_loss : (T : List Placed) (why other : Why) → Loses why T → Loses other T → why ≡ other
one_loss T Justified Justified l m = refl
one_loss T Justified Agree l m = absurd (not_both (justified (history l.0.value (past_of T))) (m.0 l.0) l.1)
one_loss T Justified Wire l m = absurd (not_both (justified (history l.0.value (past_of T))) (m.0 l.0) l.1)
one_loss T Agree Justified l m = absurd (not_both (justified (history m.0.value (past_of T))) (l.0 m.0) m.1)
one_loss T Agree Agree l m = refl
one_loss T Agree Wire l m = absurd (not_both (agree (history l.1.value (past_of T))) (m.1 l.1) l.2)
one_loss T Wire Justified l m = absurd (not_both (justified (history m.0.value (past_of T))) (l.0 m.0) m.1)
one_loss T Wire Agree l m = absurd (not_both (agree (history m.1.value (past_of T))) (l.1 m.1) m.2)
one_loss T Wire Wire l m = refl

-- nothing is lost before the first bad entry
lost_before : (T : List Placed) (n m : ℕ) (why other : Why) → IsBadAt T n why → IsBadAt T m other → n < m → ⊥
lost_before T n m why other b c lt =
    let short : n ≤ c.place = omega (arith, lt, c.number) in
    lost_none why (take n T) b.lost (subst Keeps (take-take n c.place T short) (keeps_first (take c.place T) n c.before))

-- so the verdict is one
pub verdict_once : (T : List Placed) (v w : Checked) → IsChecked T v → IsChecked T w → v ≡ w
verdict_once T Fine Fine h k = refl
verdict_once T Fine (Bad m other) h k = absurd (lost_none other (take m T) k.lost (keeps_first T m h))
verdict_once T (Bad n why) Fine h k = absurd (lost_none why (take n T) h.lost (keeps_first T n k))
verdict_once T (Bad n why) (Bad m other) h k = by (nat_lt n m) (nat_lt m n) refl refl
  where
    by : (b c : Bool) → nat_lt n m ≡ b → nat_lt m n ≡ c → Bad n why ≡ Bad m other
    by true c e f = let lt : n < m = grind (arith, nat_tests) in absurd (lost_before T n m why other h k lt)
    by false true e f = let lt : m < n = grind (arith, nat_tests) in absurd (lost_before T m n other why k h lt)
    by false false e f =
        let same : n ≡ m = grind (arith, nat_tests) in
        let loss : why ≡ other = one_loss (take m T) why other (subst (λ (i : ℕ). Loses why (take i T)) same h.lost) k.lost in
        λ i. Bad (same i) (loss i)
