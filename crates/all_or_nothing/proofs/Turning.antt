-- What a note makes of what is held of its enlistment.
use Rattle.std.proofs.Common.{◌≡◌, ◌⊎◌, inl, inr, Bool, true, false, ◌&&◌, ◌||◌, List, [], ◌∷◌, refl, sym, ◌∙◌}
use Rattle.dtx_values.specs.declared.note.Note.{Note}
use Rattle.dtx_values.specs.declared.note.Note.TheVariants.{Init, Prepare, Promote, Hand, Single, Commit, Rollback, InDoubt}
use Rattle.dtx_model.proofs.Bools.{and_left, and_right, not_both, or_case}
use Rattle.dtx_model.specs.Outcome.{is_empty}
use Rattle.all_or_nothing.specs.Marks.{begins, commits, drops, is_marked, is_same, is_single, is_unmarked, may_become}

-- a change, by what it can be: none; it came to be held; it was marked; or it went
becomes : {C : Type 0} (n : Note) (old new : List Bool) → may_become n old new ≡ true → (is_same old new ≡ true → C)
    → (begins n ≡ true → is_empty old ≡ true → (is_unmarked new || (commits n && is_marked new)) ≡ true → C)
    → (commits n ≡ true → is_unmarked old ≡ true → is_marked new ≡ true → C)
    → (drops n ≡ true → is_unmarked old ≡ true → is_empty new ≡ true → C) → C
becomes n old new e same held marked gone =
    let b = is_empty old && (is_unmarked new || (commits n && is_marked new)) in
    let c = is_unmarked old && is_marked new in
    let d = is_unmarked old && is_empty new in
    or_case (is_same old new) ((begins n && b) || ((commits n && c) || (drops n && d))) same
    (λ f. or_case (begins n && b) ((commits n && c) || (drops n && d))
    (λ p. held (and_left (begins n) b p) (and_left (is_empty old) (is_unmarked new || (commits n && is_marked new)) (and_right (begins n) b p))
    (and_right (is_empty old) (is_unmarked new || (commits n && is_marked new)) (and_right (begins n) b p)))
    (λ g. or_case (commits n && c) (drops n && d)
    (λ p. marked (and_left (commits n) c p) (and_left (is_unmarked old) (is_marked new) (and_right (commits n) c p)) (and_right (is_unmarked old) (is_marked new) (and_right (commits n) c p)))
    (λ p. gone (and_left (drops n) d p) (and_left (is_unmarked old) (is_empty new) (and_right (drops n) d p)) (and_right (is_unmarked old) (is_empty new) (and_right (drops n) d p)))
    g) f) e

unmarked_one : (l : List Bool) → is_unmarked l ≡ true → l ≡ false ∷ []
unmarked_one (false ∷ []) e = refl
unmarked_one (true ∷ []) e = absurd cc
unmarked_one [] e = absurd cc
unmarked_one (true ∷ c ∷ l) e = absurd cc
unmarked_one (false ∷ c ∷ l) e = absurd cc

marked_one : (l : List Bool) → is_marked l ≡ true → l ≡ true ∷ []
marked_one (true ∷ []) e = refl
marked_one (false ∷ []) e = absurd cc
marked_one [] e = absurd cc
marked_one (true ∷ c ∷ l) e = absurd cc
marked_one (false ∷ c ∷ l) e = absurd cc

pub none_empty : (l : List Bool) → is_empty l ≡ true → l ≡ []
none_empty [] e = refl
none_empty (b ∷ l) e = absurd cc

same_is : (old new : List Bool) → is_same old new ≡ true → new ≡ old
same_is [] [] e = refl
same_is (true ∷ []) (true ∷ []) e = refl
same_is (false ∷ []) (false ∷ []) e = refl
same_is [] (b ∷ l) e = absurd cc
same_is (true ∷ []) [] e = absurd cc
same_is (false ∷ []) [] e = absurd cc
same_is (true ∷ []) (false ∷ l) e = absurd cc
same_is (false ∷ []) (true ∷ l) e = absurd cc
same_is (true ∷ []) (true ∷ c ∷ l) e = absurd cc
same_is (false ∷ []) (false ∷ c ∷ l) e = absurd cc
same_is (true ∷ c ∷ k) l e = absurd cc
same_is (false ∷ c ∷ k) l e = absurd cc

-- what comes to be held is held once
new_one : (b : Bool) (l : List Bool) → (is_unmarked l || (b && is_marked l)) ≡ true → is_single l ≡ true
new_one b l e = or_case (is_unmarked l) (b && is_marked l) (λ p. rw (unmarked_one l p) refl) (λ p. rw (marked_one l (and_right b (is_marked l) p)) refl) e

-- it is held at most once still
pub single_on : (n : Note) (old new : List Bool) → may_become n old new ≡ true → is_single old ≡ true → is_single new ≡ true
single_on n old new e s =
    becomes n old new e (λ p. rw (same_is old new p) s) (λ b o p. new_one (commits n) new p) (λ c o p. rw (marked_one new p) refl) (λ d o p. rw (none_empty new p) refl)

-- what is held was held, or came to be
pub held_from : (n : Note) (old new : List Bool) → may_become n old new ≡ true → is_empty new ≡ false → (is_empty old ≡ false) ⊎ (begins n ≡ true)
held_from n old new e h =
    becomes n old new e (λ p. inl (rw (sym (same_is old new p)) h)) (λ b o p. inr b) (λ c o p. inl (rw (unmarked_one old o) refl)) (λ d o p. absurd (not_both (is_empty new) p h))

-- what is marked was marked, or the note marks
pub marked_from : (n : Note) (old new : List Bool) → may_become n old new ≡ true → new ≡ true ∷ [] → (old ≡ true ∷ []) ⊎ (commits n ≡ true)
marked_from n old new e h =
    becomes n old new e (λ p. inl (sym (same_is old new p) ∙ h)) (λ b o p. inr (by (commits n) new h p)) (λ c o p. inr c) (λ d o p. absurd (gone new p h))
  where
    by : (c : Bool) (l : List Bool) → l ≡ true ∷ [] → (is_unmarked l || (c && is_marked l)) ≡ true → c ≡ true
    by true l h p = refl
    by false l h p = absurd (off l h p)
      where
        off : (l : List Bool) → l ≡ true ∷ [] → (is_unmarked l || (false && is_marked l)) ≡ true → ⊥
        off (true ∷ []) h p = absurd cc
        off (false ∷ []) h p = absurd cc
        off [] h p = absurd cc
        off (b ∷ c ∷ l) h p = absurd cc

    gone : (l : List Bool) → is_empty l ≡ true → l ≡ true ∷ [] → ⊥
    gone [] p h = absurd cc
    gone (b ∷ l) p h = absurd cc

-- what wasn't held stays so, where the note begins nothing
pub none_on : (n : Note) (old new : List Bool) → may_become n old new ≡ true → begins n ≡ false → is_empty old ≡ true → is_empty new ≡ true
none_on n old new e off h =
    becomes n old new e (λ p. rw (same_is old new p) h) (λ b o p. absurd (not_both (begins n) b off)) (λ c o p. absurd (apart old o h)) (λ d o p. p)
  where
    apart : (l : List Bool) → is_unmarked l ≡ true → is_empty l ≡ true → ⊥
    apart [] o h = absurd cc
    apart (b ∷ l) o h = absurd cc

-- what isn't without a mark stays so, where the note begins nothing
pub unmarked_on : (n : Note) (old new : List Bool) → may_become n old new ≡ true → begins n ≡ false → is_unmarked old ≡ false → is_unmarked new ≡ false
unmarked_on n old new e off h =
    becomes n old new e (λ p. rw (same_is old new p) h) (λ b o p. absurd (not_both (begins n) b off)) (λ c o p. absurd (not_both (is_unmarked old) o h)) (λ d o p. absurd (not_both (is_unmarked old) o h))

-- which notes these are
pub begins_by : (n : Note) → begins n ≡ true → (n ≡ Prepare) ⊎ (n ≡ Hand)
begins_by Prepare e = inl refl
begins_by Hand e = inr refl
begins_by Init e = absurd cc
begins_by Promote e = absurd cc
begins_by Single e = absurd cc
begins_by Commit e = absurd cc
begins_by Rollback e = absurd cc
begins_by InDoubt e = absurd cc

pub commits_by : (n : Note) → commits n ≡ true → (n ≡ Hand) ⊎ (n ≡ Commit)
commits_by Hand e = inl refl
commits_by Commit e = inr refl
commits_by Init e = absurd cc
commits_by Promote e = absurd cc
commits_by Single e = absurd cc
commits_by Prepare e = absurd cc
commits_by Rollback e = absurd cc
commits_by InDoubt e = absurd cc
