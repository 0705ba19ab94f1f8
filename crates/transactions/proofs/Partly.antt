-- What is held while a recovery goes on: the first settled, and the others as before.
use Rattle.std.proofs.Common.{◌≡◌, ℕ, Bool, true, false, cond, ◌&&◌, ◌||◌, ◌==◌, ◌⊎◌, inl, inr, List, [], ◌∷◌, ◌++◌, find, Option, Some, None, refl, ap, sym, ◌∙◌}
use Rattle.std.proofs.lemmas.List.{append-nil, append_assoc}
use Rattle.std.specs.Option.{option_map}
use Rattle.dtx_values.specs.declared.words.Outcome.{Outcome}
use Rattle.dtx_model.specs.Log.{CommitRecord}
use Rattle.dtx_model.specs.Words.{all_of, has, put}
use Rattle.recovery_laws.proofs.Finishing.{doubt_is}
use Rattle.recovery_laws.specs.Finding.{Aborts, Commits, Finding, IsNotNamed, finding, finding_of, settled, settled_by, settled_one}
use Rattle.resource_managers.specs.Holding.{Holding, as_found, finished, first_in_doubt, is_in_doubt, pair_held, with_mark}
use Rattle.resource_managers.specs.Pairs.{Pair}
use Rattle.transactions.specs.Recovery.{IsFoundPartly, IsPartly, finish_of, finishes, is_not_named, is_unnamed, commits, outcome_by_commit}

put_append : {A : Type 0} (o : Option A) (xs ys : List A) → put o (xs ++ ys) ≡ put o xs ++ ys
put_append (Some x) xs ys = refl
put_append None xs ys = refl

-- what two lists give, one after the other
pub all_of_both : {A B : Type 0} (f : A → Option B) (xs ys : List A) → all_of f (xs ++ ys) ≡ all_of f xs ++ all_of f ys
all_of_both f [] ys = refl
all_of_both f (x ∷ xs) ys = ap (put (f x)) (all_of_both f xs ys) ∙ put_append (f x) (all_of f xs) (all_of f ys)

-- of the first part of a list that has none, none is there
has_left : {A : Type 0} (P : A → Bool) (xs ys : List A) → has P (xs ++ ys) ≡ false → has P xs ≡ false
has_left P [] ys e = refl
has_left P (x ∷ xs) ys e = by (has_left P xs ys) (P x) e
  where
    by : (has P (xs ++ ys) ≡ false → has P xs ≡ false) → (b : Bool) → (b || has P (xs ++ ys)) ≡ false → (b || has P xs) ≡ false
    by ih true e = absurd cc
    by ih false e = ih e

-- what isn't in doubt stays as it is
calm_settled : (rs : List CommitRecord) (m : ℕ) (hs : List Holding) → has is_in_doubt hs ≡ false → settled rs m hs ≡ hs
calm_settled rs m [] calm = refl
calm_settled rs m (h ∷ hs) calm = by (calm_settled rs m hs) (is_in_doubt h) calm
  where
    by : (has is_in_doubt hs ≡ false → settled rs m hs ≡ hs) → (b : Bool) → (b || has is_in_doubt hs) ≡ false → put (cond b (settled_by (finding rs m h) h) (Some h)) (settled rs m hs) ≡ h ∷ hs
    by ih true calm = absurd cc
    by ih false calm = ap (λ l. h ∷ l) (ih calm)

calm_finishes : (rs : List CommitRecord) (m : ℕ) (hs : List Holding) → has is_in_doubt hs ≡ false → finishes rs m hs ≡ []
calm_finishes rs m [] calm = refl
calm_finishes rs m (h ∷ hs) calm = by (calm_finishes rs m hs) (is_in_doubt h) calm
  where
    by : (has is_in_doubt hs ≡ false → finishes rs m hs ≡ []) → (b : Bool) → (b || has is_in_doubt hs) ≡ false
        → put (cond b (Some (pair_held h, outcome_by_commit (commits (finding rs m h)))) None) (finishes rs m hs) ≡ []
    by ih true calm = absurd cc
    by ih false calm = ih calm

-- nothing settled is in doubt, where the log names all that was
settled_calm : (rs : List CommitRecord) (m : ℕ) (hs : List Holding) → has (is_unnamed rs m) hs ≡ false → has is_in_doubt (settled rs m hs) ≡ false
settled_calm rs m [] named = refl
settled_calm rs m (h ∷ hs) named = by (settled_calm rs m hs) (is_in_doubt h) refl (finding rs m h) named
  where
    by : (has (is_unnamed rs m) hs ≡ false → has is_in_doubt (settled rs m hs) ≡ false) → (b : Bool) → is_in_doubt h ≡ b → (f : Finding)
        → ((b && is_not_named f) || has (is_unnamed rs m) hs) ≡ false → has is_in_doubt (put (cond b (settled_by f h) (Some h)) (settled rs m hs)) ≡ false
    by ih false is f named = ap (λ b. b || has is_in_doubt (settled rs m hs)) is ∙ ih named
    by ih true is Commits named = ih named
    by ih true is Aborts named = ih named
    by ih true is IsNotNamed named = absurd cc

-- before what isn't in doubt, the first that is stays the first
calm_first : (xs ys : List Holding) → has is_in_doubt xs ≡ false → first_in_doubt (xs ++ ys) ≡ first_in_doubt ys
calm_first [] ys calm = refl
calm_first (x ∷ xs) ys calm = by (calm_first xs ys) (is_in_doubt x) calm
  where
    by : (has is_in_doubt xs ≡ false → first_in_doubt (xs ++ ys) ≡ first_in_doubt ys) → (b : Bool) → (b || has is_in_doubt xs) ≡ false
        → option_map pair_held (cond b (Some x) (find is_in_doubt (xs ++ ys))) ≡ first_in_doubt ys
    by ih true calm = absurd cc
    by ih false calm = ih calm

calm_finished : (c : Bool) (p : Pair) (xs ys : List Holding) → has is_in_doubt xs ≡ false → finished c p (xs ++ ys) ≡ xs ++ finished c p ys
calm_finished c p [] ys calm = refl
calm_finished c p (x ∷ xs) ys calm = by (calm_finished c p xs ys) (is_in_doubt x) calm
  where
    by : (has is_in_doubt xs ≡ false → finished c p (xs ++ ys) ≡ xs ++ finished c p ys) → (b : Bool) → (b || has is_in_doubt xs) ≡ false
        → cond (b && ((p.0 == x.number) && (p.1 == x.enlistment))) (cond c (with_mark x ∷ xs ++ ys) (xs ++ ys)) (x ∷ finished c p (xs ++ ys)) ≡ x ∷ xs ++ finished c p ys
    by ih true calm = absurd cc
    by ih false calm = ap (λ l. x ∷ l) (ih calm)

none_left : (hs : List Holding) → first_in_doubt hs ≡ None → has is_in_doubt hs ≡ false
none_left [] none = refl
none_left (h ∷ hs) none = by (none_left hs) (is_in_doubt h) none
  where
    by : (first_in_doubt hs ≡ None → has is_in_doubt hs ≡ false) → (b : Bool) → option_map pair_held (cond b (Some h) (find is_in_doubt hs)) ≡ None → (b || has is_in_doubt hs) ≡ false
    by ih true none = absurd cc
    by ih false none = ih none

-- the holdings around the first that is in doubt, of this pair
record IsSplit (p : Pair) (hs : List Holding) : Type 0 where
  pub before : List Holding
  pub first : Holding
  pub after : List Holding
  pub whole : before ++ first ∷ after ≡ hs
  pub calm : has is_in_doubt before ≡ false
  pub doubt : is_in_doubt first ≡ true
  pub pair : pair_held first ≡ p

split : (p : Pair) (hs : List Holding) → first_in_doubt hs ≡ Some p → IsSplit p hs
split p [] first = absurd cc
split p (h ∷ hs) first = by (split p hs) (is_in_doubt h) refl first
  where
    by : (first_in_doubt hs ≡ Some p → IsSplit p hs) → (b : Bool) → is_in_doubt h ≡ b → option_map pair_held (cond b (Some h) (find is_in_doubt hs)) ≡ Some p → IsSplit p (h ∷ hs)
    by ih true is first = record { before = []; first = h; after = hs; whole = refl; calm = refl; doubt = is; pair = cc }
    by ih false is first =
        let s = ih first in
        record { before = h ∷ s.before; first = s.first; after = s.after; whole = ap (λ l. h ∷ l) s.whole; calm = rw is s.calm; doubt = s.doubt; pair = s.pair }

-- how the first that is in doubt is finished by what the log says of it
put_finished : (rs : List CommitRecord) (m : ℕ) (p : Pair) (h : Holding) (hs : List Holding) (f : Finding) → finding_of rs m p ≡ f → is_not_named f ≡ false → is_in_doubt h ≡ true → pair_held h ≡ p
    → finished (commits f) p (h ∷ hs) ≡ put (settled_one rs m h) hs
put_finished rs m p h hs f is named doubt pair =
    ap (λ b. cond b (cond (commits f) (with_mark h ∷ hs) hs) (h ∷ finished (commits f) p hs)) (doubt_is p h doubt pair)
    ∙ by f named ∙ sym (ap (λ b. put (cond b (settled_by (finding rs m h) h) (Some h)) hs) doubt ∙ ap (λ x. put (settled_by x h) hs) (ap (finding_of rs m) pair ∙ is))
  where
    by : (f : Finding) → is_not_named f ≡ false → cond (commits f) (with_mark h ∷ hs) hs ≡ put (settled_by f h) hs
    by Commits named = refl
    by Aborts named = refl
    by IsNotNamed named = absurd cc

-- what is finished of one
put_finish : (rs : List CommitRecord) (m : ℕ) (h : Holding) → is_in_doubt h ≡ true → finishes rs m (h ∷ []) ≡ (pair_held h, outcome_by_commit (commits (finding rs m h))) ∷ []
put_finish rs m h doubt = rw doubt refl

-- the one that is in doubt is named, where all that is are
named_first : (rs : List CommitRecord) (m : ℕ) (xs ys : List Holding) (h : Holding) → has (is_unnamed rs m) (xs ++ h ∷ ys) ≡ false → is_in_doubt h ≡ true → is_not_named (finding rs m h) ≡ false
named_first rs m [] ys h named doubt = by (is_in_doubt h) (is_not_named (finding rs m h)) doubt named
  where
    by : (d n : Bool) → d ≡ true → ((d && n) || has (is_unnamed rs m) ys) ≡ false → n ≡ false
    by true true d named = absurd cc
    by true false d named = refl
    by false n d named = absurd cc
named_first rs m (x ∷ xs) ys h named doubt = by (λ e. named_first rs m xs ys h e doubt) (is_unnamed rs m x) named
  where
    by : (has (is_unnamed rs m) (xs ++ h ∷ ys) ≡ false → is_not_named (finding rs m h) ≡ false) → (b : Bool) → (b || has (is_unnamed rs m) (xs ++ h ∷ ys)) ≡ false
        → is_not_named (finding rs m h) ≡ false
    by ih true named = absurd cc
    by ih false named = ih named

-- What is kept by the loop: some are done, and this was told of them.
pub record IsUnderWay (rs : List CommitRecord) (m : ℕ) (old now : List Holding) (told : List (Pair × Outcome)) : Type 0 where
  pub done : List Holding
  pub left : List Holding
  pub were : done ++ left ≡ old
  pub are : now ≡ settled rs m done ++ left
  pub said : told ≡ finishes rs m done

pub begun : (rs : List CommitRecord) (m : ℕ) (old : List Holding) → IsUnderWay rs m old old []
begun rs m old = record { done = []; left = old; were = refl; are = refl; said = refl }

pub partly : (rs : List CommitRecord) (m : ℕ) (old now : List Holding) (told : List (Pair × Outcome)) → IsUnderWay rs m old now told → IsPartly rs m old now
partly rs m old now told u = record { done = u.done; left = u.left; were = u.were; are = u.are }

-- the part up to the first that is in doubt is settled by its finish
part_settled : (rs : List CommitRecord) (m : ℕ) (p : Pair) (hs : List Holding) (s : IsSplit p hs) → is_not_named (finding_of rs m p) ≡ false
    → finished (commits (finding_of rs m p)) p hs ≡ settled rs m (s.before ++ s.first ∷ []) ++ s.after
part_settled rs m p hs s named =
    let c = commits (finding_of rs m p) in
    let o = settled_one rs m s.first in
    ap (finished c p) (sym s.whole) ∙ calm_finished c p s.before (s.first ∷ s.after) s.calm
    ∙ ap (λ l. s.before ++ l) (put_finished rs m p s.first s.after (finding_of rs m p) refl named s.doubt s.pair ∙ put_append o [] s.after)
    ∙ sym (append_assoc s.before (put o []) s.after)
    ∙ ap (λ l. (l ++ put o []) ++ s.after) (sym (calm_settled rs m s.before s.calm)) ∙ ap (λ l. l ++ s.after) (sym (all_of_both (settled_one rs m) s.before (s.first ∷ [])))

-- and that alone is told
part_told : (rs : List CommitRecord) (m : ℕ) (p : Pair) (hs : List Holding) (s : IsSplit p hs) → finishes rs m (s.before ++ s.first ∷ []) ≡ (p, outcome_by_commit (commits (finding_of rs m p))) ∷ []
part_told rs m p hs s =
    all_of_both (finish_of rs m) s.before (s.first ∷ []) ∙ ap (λ l. l ++ finishes rs m (s.first ∷ [])) (calm_finishes rs m s.before s.calm)
    ∙ put_finish rs m s.first s.doubt ∙ ap (λ (q : Pair). (q, outcome_by_commit (commits (finding_of rs m q))) ∷ []) s.pair

goes_by : (rs : List CommitRecord) (m : ℕ) (old now : List Holding) (told : List (Pair × Outcome)) (p : Pair) (u : IsUnderWay rs m old now told) → IsSplit p u.left
    → has is_in_doubt (settled rs m u.done) ≡ false → is_not_named (finding_of rs m p) ≡ false
    → IsUnderWay rs m old (finished (commits (finding_of rs m p)) p now) (told ++ (p, outcome_by_commit (commits (finding_of rs m p))) ∷ [])
goes_by rs m old now told p u s calm named =
    let c = commits (finding_of rs m p) in
    let part = s.before ++ s.first ∷ [] in
    record {
      done = u.done ++ part;
      left = s.after;
      were = append_assoc u.done part s.after ∙ ap (λ l. u.done ++ l) (append_assoc s.before (s.first ∷ []) s.after ∙ s.whole) ∙ u.were;
      are =
          ap (finished c p) u.are ∙ calm_finished c p (settled rs m u.done) u.left calm ∙ ap (λ l. settled rs m u.done ++ l) (part_settled rs m p u.left s named)
          ∙ sym (append_assoc (settled rs m u.done) (settled rs m part) s.after) ∙ ap (λ l. l ++ s.after) (sym (all_of_both (settled_one rs m) u.done part));
      said =
          ap (λ l. l ++ (p, outcome_by_commit (commits (finding_of rs m p))) ∷ []) u.said ∙ ap (λ l. finishes rs m u.done ++ l) (sym (part_told rs m p u.left s)) ∙ sym (all_of_both (finish_of rs m) u.done part);
    }

-- the first that is in doubt is named
first_named : (rs : List CommitRecord) (m : ℕ) (p : Pair) (done left old : List Holding) → done ++ left ≡ old → has (is_unnamed rs m) old ≡ false → IsSplit p left → is_not_named (finding_of rs m p) ≡ false
first_named rs m p done left old were named s =
    let at : done ++ left ≡ (done ++ s.before) ++ s.first ∷ s.after = ap (λ l. done ++ l) (sym s.whole) ∙ sym (append_assoc done s.before (s.first ∷ s.after)) in
    ap (λ (q : Pair). is_not_named (finding_of rs m q)) (sym s.pair)
    ∙ named_first rs m (done ++ s.before) s.after s.first (ap (has (is_unnamed rs m)) (sym at ∙ were) ∙ named) s.doubt

-- the first that is in doubt is finished
pub goes_on : (rs : List CommitRecord) (m : ℕ) (old now : List Holding) (told : List (Pair × Outcome)) (p : Pair) → has (is_unnamed rs m) old ≡ false → IsUnderWay rs m old now told → first_in_doubt now ≡ Some p
    → IsUnderWay rs m old (finished (commits (finding_of rs m p)) p now) (told ++ (p, outcome_by_commit (commits (finding_of rs m p))) ∷ [])
goes_on rs m old now told p named u first =
    let calm = settled_calm rs m u.done (has_left (is_unnamed rs m) u.done u.left (ap (has (is_unnamed rs m)) u.were ∙ named)) in
    let s = split p u.left (sym (ap first_in_doubt u.are ∙ calm_first (settled rs m u.done) u.left calm) ∙ first) in
    goes_by rs m old now told p u s calm (first_named rs m p u.done u.left old u.were named s)

-- nothing is in doubt any more
pub all_done : (rs : List CommitRecord) (m : ℕ) (old now : List Holding) (told : List (Pair × Outcome)) → has (is_unnamed rs m) old ≡ false → IsUnderWay rs m old now told → first_in_doubt now ≡ None
    → (now ≡ settled rs m old) × (told ≡ finishes rs m old)
all_done rs m old now told named u none =
    let calm = settled_calm rs m u.done (has_left (is_unnamed rs m) u.done u.left (ap (has (is_unnamed rs m)) u.were ∙ named)) in
    let left = none_left u.left (sym (ap first_in_doubt u.are ∙ calm_first (settled rs m u.done) u.left calm) ∙ none) in (
      u.are ∙ ap (λ l. settled rs m u.done ++ l) (sym (calm_settled rs m u.left left)) ∙ sym (all_of_both (settled_one rs m) u.done u.left) ∙ ap (settled rs m) u.were,
      u.said ∙ sym (append-nil (finishes rs m u.done)) ∙ ap (λ l. finishes rs m u.done ++ l) (sym (calm_finishes rs m u.left left)) ∙ sym (all_of_both (finish_of rs m) u.done u.left) ∙ ap (finishes rs m) u.were,
    )

-- a crash leaves what was held before a finish, or after it
pub left_partly : (rs : List CommitRecord) (m : ℕ) (old now next : List Holding) (hs : List Holding) → IsPartly rs m old now → IsPartly rs m old next → (hs ≡ as_found now) ⊎ (hs ≡ as_found next)
    → IsFoundPartly rs m old hs
left_partly rs m old now next hs at to (inl is) = (now, at, is)
left_partly rs m old now next hs at to (inr is) = (next, to, is)
