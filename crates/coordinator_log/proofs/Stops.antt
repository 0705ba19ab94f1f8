-- The calls that an armed stop counts.
use Rattle.std.proofs.Common.{◌≡◌, ◌⊎◌, ◌≤◌, ◌<◌, ◌+◌, ◌-◌, ℕ, true, false, nat_lt, nat_le, Option, Some, None, refl, sym, ap, subst, ◌∙◌, inl, inr, arith}
use Rattle.std.proofs.lemmas.Bool.{cases_Bool}
use Rattle.std.proofs.lemmas.Bool.Decides.{nat_tests}
use Rattle.dtx_values.specs.declared.Image.{Image}
use Rattle.dtx_values.specs.declared.Image.TheVariants.{Lose, Keep, Torn}
use Rattle.coordinator_log.specs.declared.stop.ArmedStop.{ArmedStop}
use Rattle.coordinator_log.specs.Stop.{BreaksOff, after_calls, done_before, is_done, stop_in}

-- so many calls passed, and this is armed then
pub record HasPassed (n : ℕ) (old now : Option ArmedStop) : Type 0 where
  pub unreached : stop_in n old ≡ None
  pub counted : now ≡ after_calls n old

-- something is not nothing
some_none : {X : Type 0} (x : X) → Some x ≡ None → ⊥
some_none x e = cc

-- a stop that isn't reached in n calls passes as many
passes_of : (n : ℕ) (s : ArmedStop) → stop_in n (Some s) ≡ None → n ≤ s.passes
passes_of n s e = elim (cases_Bool (nat_lt s.passes n)) [
  | inl now ↦ absurd (some_none s.image (rw now at e))
  | inr later ↦ grind (arith, nat_tests)
]

-- and the other way round
unreached_of : (n : ℕ) (s : ArmedStop) → n ≤ s.passes → stop_in n (Some s) ≡ None
unreached_of n s le = let later : nat_lt s.passes n ≡ false = grind (arith, nat_tests) in rw later refl

-- what is armed after n calls that it passes
left_of : (n : ℕ) (s : ArmedStop) → n ≤ s.passes → after_calls n (Some s) ≡ Some (record { passes = s.passes - n; image = s.image })
left_of n s le = let later : nat_lt s.passes n ≡ false = grind (arith, nat_tests) in rw later refl

-- a stop that is reached in n calls is armed no more
none_of : (n : ℕ) (s : ArmedStop) → s.passes < n → after_calls n (Some s) ≡ None
none_of n s lt = let now : nat_lt s.passes n ≡ true = grind (arith, nat_tests) in rw now refl

-- and gives its image
image_of : (n : ℕ) (s : ArmedStop) → s.passes < n → stop_in n (Some s) ≡ Some s.image
image_of n s lt = let now : nat_lt s.passes n ≡ true = grind (arith, nat_tests) in rw now refl

-- a stop that passes another number of calls
abbrev with_passes : Image → ℕ → Option ArmedStop
with_passes i n = Some (record { passes = n; image = i })

-- before the first call
pub none_passed : (a : Option ArmedStop) → HasPassed 0 a a
none_passed None = record { unreached = refl; counted = refl }
none_passed (Some s) =
    let none_less : s.passes ≡ s.passes - 0 = omega arith in
    record { unreached = unreached_of 0 s (omega arith); counted = ap (λ (n : ℕ). Some (record s { passes = n })) none_less ∙ sym (left_of 0 s (omega arith)) }

-- what is armed after calls that passed
now_is : (n : ℕ) (s : ArmedStop) (now : Option ArmedStop) → HasPassed n (Some s) now → now ≡ Some (record s { passes = s.passes - n })
now_is n s now p = p.counted ∙ left_of n s (passes_of n s p.unreached)

-- where the next call passes too, the stop passes one more
one_more : (n : ℕ) (s : ArmedStop) (now : Option ArmedStop) → HasPassed n (Some s) now → stop_in 1 now ≡ None → n + 1 ≤ s.passes
one_more n s now p u =
    let le = passes_of n s p.unreached in
    let next = passes_of 1 (record s { passes = s.passes - n }) (ap (stop_in 1) (sym (now_is n s now p)) ∙ u) in
    omega arith

-- the next call leaves armed what one call more leaves
one_counted : (n : ℕ) (old now next : Option ArmedStop) → HasPassed n old now → next ≡ after_calls 1 now → next ≡ after_calls (n + 1) old
one_counted n None now next p e = e ∙ ap (after_calls 1) p.counted
one_counted n (Some s) now next p e =
    let le = passes_of n s p.unreached in
    let first : next ≡ after_calls 1 (Some (record s { passes = s.passes - n })) = e ∙ ap (after_calls 1) (now_is n s now p) in
    elim (cases_Bool (nat_lt n s.passes)) [
      | inl later ↦
          let more : n + 1 ≤ s.passes = grind (arith, nat_tests) in
          let sum : s.passes - n - 1 ≡ s.passes - (n + 1) = omega arith in
          first ∙ left_of 1 (record s { passes = s.passes - n }) (omega arith) ∙ ap (λ (m : ℕ). Some (record s { passes = m })) sum ∙ sym (left_of (n + 1) s more)
      | inr here ↦
          let no_more : s.passes ≤ n = grind (arith, nat_tests) in
          first ∙ none_of 1 (record s { passes = s.passes - n }) (omega arith) ∙ sym (none_of (n + 1) s (omega arith))
    ]

-- one call more passed
pub passed_more : (n : ℕ) (old now next : Option ArmedStop) → HasPassed n old now → stop_in 1 now ≡ None → next ≡ after_calls 1 now → HasPassed (n + 1) old next
passed_more n None now next p u e = record { unreached = refl; counted = one_counted n None now next p e }
passed_more n (Some s) now next p u e =
    record { unreached = unreached_of (n + 1) s (one_more n s now p u); counted = one_counted n (Some s) now next p e }

-- where calls passed and more don't reach the stop, the next doesn't
pub next_passes : (n : ℕ) (old now : Option ArmedStop) → HasPassed n old now → stop_in (n + 1) old ≡ None → stop_in 1 now ≡ None
next_passes n None now p u = ap (stop_in 1) p.counted
next_passes n (Some s) now p u =
    let le = passes_of (n + 1) s u in
    ap (stop_in 1) (now_is n s now p) ∙ unreached_of 1 (record s { passes = s.passes - n }) (omega arith)

-- the work of m calls was broken off at the next one
pub breaks_at : (n m : ℕ) (old now next : Option ArmedStop) (fault : Type 0) → n + 1 ≤ m → HasPassed n old now → next ≡ after_calls 1 now → (stop_in 1 now ≡ None → fault) → BreaksOff m old next fault
breaks_at n m old now next fault le p e cause =
    let back : n + 1 - 1 ≡ n = omega arith in
    record {
      call = n + 1;
      first = omega arith;
      last = le;
      before = ap (λ (k : ℕ). stop_in k old) back ∙ p.unreached;
      counted = one_counted n old now next p e;
      cause = λ u. cause (next_passes n old now p u);
    }

-- a stop that is armed no more after the next call was reached at it
pub reached_next : (n : ℕ) (s : ArmedStop) (old now next : Option ArmedStop) → HasPassed n old now → next ≡ after_calls 1 now → old ≡ Some s → next ≡ None → (stop_in 1 now ≡ Some s.image) × (s.passes ≡ n)
reached_next n s old now next p e is none =
    let q : HasPassed n (Some s) now = subst (λ (a : Option ArmedStop). HasPassed n a now) is p in
    let le = passes_of n s q.unreached in
    let counted = one_counted n (Some s) now next q e in
    elim (cases_Bool (nat_lt n s.passes)) [
      | inl later ↦
          let more : n + 1 ≤ s.passes = grind (arith, nat_tests) in
          absurd (let f : with_passes s.image (s.passes - (n + 1)) ≡ None = sym (left_of (n + 1) s more) ∙ sym counted ∙ none in some_none _ f)
      | inr here ↦
          let no_more : s.passes ≤ n = grind (arith, nat_tests) in
          (ap (stop_in 1) (now_is n s now q) ∙ image_of 1 (record s { passes = s.passes - n }) (omega arith), omega arith)
    ]

-- a stop that is armed still wasn't reached in calls that passed
pub still_armed : (n : ℕ) (s : ArmedStop) (old now : Option ArmedStop) → HasPassed n old now → old ≡ Some s → now ≡ None → ⊥
still_armed n s old now p is none =
    let q : HasPassed n (Some s) now = subst (λ (a : Option ArmedStop). HasPassed n a now) is p in some_none _ (sym (now_is n s now q) ∙ none)

-- whether a write is done that comes after the call of the stop
pub undone : (m : ℕ) (s : ArmedStop) → s.passes + 1 < m → is_done m s ≡ false
undone m s lt = undone_with m s.image s.passes lt
  where
    undone_with : (m : ℕ) (i : Image) (n : ℕ) → n + 1 < m → nat_le m (done_before i n) ≡ false
    undone_with m Lose n lt = grind (arith, nat_tests)
    undone_with m Keep n lt = grind (arith, nat_tests)
    undone_with m Torn n lt = grind (arith, nat_tests)

-- and one that comes before it
pub done_first : (m : ℕ) (s : ArmedStop) → m ≤ s.passes → is_done m s ≡ true
done_first m s le = done_with m s.image s.passes le
  where
    done_with : (m : ℕ) (i : Image) (n : ℕ) → m ≤ n → nat_le m (done_before i n) ≡ true
    done_with m Lose n le = grind (arith, nat_tests)
    done_with m Keep n le = grind (arith, nat_tests)
    done_with m Torn n le = grind (arith, nat_tests)

-- whether a write is done at which a stop comes is told by the image
pub done_at : (m n : ℕ) (s : ArmedStop) → s.passes ≡ n → is_done m s ≡ nat_le m (done_before s.image n)
done_at m n s e = ap (λ (k : ℕ). nat_le m (done_before s.image k)) e

-- work that was broken off was so by a fault, or by the stop, which is armed no more
pub used_up : (n : ℕ) (old new : Option ArmedStop) (fault : Type 0) → BreaksOff n old new fault → fault ⊎ (new ≡ None)
used_up n None new fault b = inl (b.cause refl)
used_up n (Some s) new fault b = elim (cases_Bool (nat_lt s.passes b.call)) [
  | inl now ↦ let lt : s.passes < b.call = grind (arith, nat_tests) in inr (b.counted ∙ none_of b.call s lt)
  | inr later ↦ let le : b.call ≤ s.passes = grind (arith, nat_tests) in inl (b.cause (unreached_of b.call s le))
]

-- the image of a stop that is armed still is the one that it was armed with
pub image_kept : (n : ℕ) (old new : Option ArmedStop) → new ≡ after_calls n old → (s t : ArmedStop) → old ≡ Some s → new ≡ Some t → t.image ≡ s.image
image_kept n None new e s t is now = absurd cc
image_kept n (Some r) new e s t is now = elim (cases_Bool (nat_lt r.passes n)) [
  | inl reached ↦ let lt : r.passes < n = grind (arith, nat_tests) in absurd (some_none t (sym now ∙ e ∙ none_of n r lt))
  | inr later ↦
      let le : n ≤ r.passes = grind (arith, nat_tests) in
      let same : with_passes r.image (r.passes - n) ≡ Some t = sym (left_of n r le) ∙ sym e ∙ now in
      cc
]
