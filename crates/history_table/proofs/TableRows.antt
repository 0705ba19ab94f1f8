-- The tables of a history: what their rows have to do with its entries.
use Rattle.std.proofs.Common.{◌≡◌, Bool, ◌&&◌, List, [], ◌∷◌, refl, ◌∙◌, ap, ℕ, ◌==◌, ◌||◌, true, false, Option, Some, None, sym, subst, inl, inr}
use Rattle.std.specs.Prelude.{if◌then◌else◌, is_some, not}
use Rattle.std.specs.List.{slice_get}
use Rattle.std.proofs.Math.Bool.{or-false}
use Rattle.std.proofs.lemmas.Bool.{eqb-true, cases_Bool}
use Rattle.dtx_values.specs.declared.number.CloneNo.{CloneNo}
use Rattle.dtx_values.specs.declared.number.EnlNo.{EnlNo}
use Rattle.dtx_values.specs.declared.entry.Ask.TheVariants.{Prepare}
use Rattle.dtx_values.specs.declared.entry.Entry.{Entry}
use Rattle.dtx_values.specs.declared.entry.Entry.TheVariants.{Enlisted, Asked, Voted, Cloned, Completed, CommitAsked}
use Rattle.dtx_values.specs.declared.words.Class.{Class}
use Rattle.dtx_values.specs.declared.words.CloneKind.{CloneKind}
use Rattle.dtx_values.specs.declared.words.CloneKind.TheVariants.{Block, Rollback}
use Rattle.dtx_values.specs.declared.words.Vote.{Vote}
use Rattle.dtx_values.specs.Row.{is_of, number_of, fresh_row, mark_row, vote_row, is_marked, has_voted, unless_there}
use Rattle.dtx_values.specs.declared.row.Row.{Row}
use Rattle.dtx_values.specs.Table.{marks, voted}
use Rattle.dtx_values.specs.Clones.{is_clone, blocks, is_open_rollback}
use Rattle.dtx_values.specs.Class.{is_volatile}
use Rattle.dtx_values.specs.Vote.{is_good, voted_well}
use Rattle.dtx_model.specs.Words.{each, has, latest, or_else, all_of}
use Rattle.dtx_model.specs.Entries.{is_vote, is_good_vote, is_asked, clone_of, is_completed}
use Rattle.dtx_model.specs.Observed.{rows, clone_rows}
use Rattle.dtx_model.specs.Outcome.{enlisted, is_rollback, is_complete, is_veto}
use Rattle.dtx_model.specs.Seen.{vote_of, IsCloneSeen}
use Rattle.dtx_model.proofs.Bools.{or_right, and_right, or_false, or_second, and_left, or_case, or_first}
use Rattle.history_table.proofs.Lists.{each_kept, if_kept, each-insert, has_kept, has-insert, has-behind, OfEach, of-at, of-more, of-map, of-insert, of-behind, of-all, each_same, has_same}
use Rattle.history_table.proofs.EntryTests.{is_enlisted, is_cloned}
use Rattle.history_table.proofs.Tests.{eq_self, eq_swap, apart}

-- what each row passes by its number and class, each enlistment passes
pub each_rows : (f : EnlNo → Class → Bool) (h : List Entry) → each (λ x. f x.number x.class) (rows h) ≡ each (λ x. f x.0 x.1) (enlisted h)
each_rows f [] = refl
each_rows f (Enlisted e c ∷ h) = each-insert (λ x. f x.number x.class) number_of (fresh_row e c (marks (rows h))) (rows h) ∙ ap (λ b. f e c && b) (each_rows f h)
each_rows f (Asked e Prepare ∷ h) =
    each_kept (λ x. f x.number x.class) (λ x. if is_of e.value x then (mark_row (marks (rows h)) x) else x)
    (λ x. if_kept (λ x. f x.number x.class) (is_of e.value x) (mark_row (marks (rows h)) x) x refl) (rows h) ∙ each_rows f h
each_rows f (Voted e v ∷ h) =
    each_kept (λ x. f x.number x.class) (λ x. if is_of e.value x then (vote_row v x) else x)
    (λ x. if_kept (λ x. f x.number x.class) (is_of e.value x) (vote_row v x) x refl) (rows h) ∙ each_rows f h
each_rows f (x ∷ h) = each_rows f h

-- an enlistment stands in the table where it was enlisted
pub enlisted_in_rows : (n : ℕ) (h : List Entry) → has (is_of n) (rows h) ≡ has (is_enlisted n) h
enlisted_in_rows n [] = refl
enlisted_in_rows n (Enlisted e c ∷ h) = has-insert (is_of n) number_of (fresh_row e c (marks (rows h))) (rows h) ∙ ap (λ b. (n == e.value) || b) (enlisted_in_rows n h)
enlisted_in_rows n (Asked e Prepare ∷ h) =
    has_kept (is_of n) (λ x. if is_of e.value x then (mark_row (marks (rows h)) x) else x)
    (λ x. if_kept (is_of n) (is_of e.value x) (mark_row (marks (rows h)) x) x refl) (rows h) ∙ enlisted_in_rows n h
enlisted_in_rows n (Voted e v ∷ h) =
    has_kept (is_of n) (λ x. if is_of e.value x then (vote_row v x) else x)
    (λ x. if_kept (is_of n) (is_of e.value x) (vote_row v x) x refl) (rows h) ∙ enlisted_in_rows n h
enlisted_in_rows n (x ∷ h) = enlisted_in_rows n h

-- what didn't vote has no vote
pub unvoted_latest : (n : ℕ) (h : List Entry) → has (is_vote n) h ≡ false → latest (vote_of n) h ≡ None
unvoted_latest n [] k = refl
unvoted_latest n (Voted f v ∷ h) k = step (n == f.value) (has (is_vote n) h) v (latest (vote_of n) h) (unvoted_latest n h) k
  where
    step : (b g : Bool) (v : Vote) (o : Option Vote) → (g ≡ false → o ≡ None) → (b || g) ≡ false → or_else (if b then Some v else None) o ≡ None
    step true g v o ih k = absurd cc
    step false g v o ih k = ih k
unvoted_latest n (x ∷ h) k = unvoted_latest n h k

-- what didn't vote didn't vote well
pub unvoted_unwell : (n : ℕ) (h : List Entry) → has (is_vote n) h ≡ false → has (is_good_vote n) h ≡ false
unvoted_unwell n [] k = refl
unvoted_unwell n (Voted f v ∷ h) k = step (n == f.value) (has (is_vote n) h) (is_good v) (has (is_good_vote n) h) (unvoted_unwell n h) k
  where
    step : (b g w m : Bool) → (g ≡ false → m ≡ false) → (b || g) ≡ false → ((b && w) || m) ≡ false
    step true g w m ih k = absurd cc
    step false g w m ih k = ih k
unvoted_unwell n (x ∷ h) k = unvoted_unwell n h k

-- the row says what the history shows of its enlistment, and is in it
pub record IsRow (h : List Entry) (x : Row) : Type 0 where
  pub stands : has (is_enlisted x.number.value) h ≡ true
  pub marked : is_marked x ≡ has (is_asked x.number.value) h
  pub voted : has_voted x ≡ has (is_vote x.number.value) h
  pub vote : x.vote ≡ latest (vote_of x.number.value) h
  pub well : voted_well x.vote ≡ has (is_good_vote x.number.value) h

-- the row of an enlistment that has just come
fresh_seen : (e : EnlNo) (c : Class) (n : ℕ) (h : List Entry) → has (is_asked e.value) h ≡ false → has (is_vote e.value) h ≡ false → IsRow (Enlisted e c ∷ h) (fresh_row e c n)
fresh_seen e c n h asked silent =
    record {
      stands = rw (eq_self e.value) refl;
      marked = sym asked;
      voted = sym silent;
      vote = sym (unvoted_latest e.value h silent);
      well = sym (unvoted_unwell e.value h silent);
    }

-- a row that stands, after an enlistment
older_seen : (e : EnlNo) (c : Class) (h : List Entry) (x : Row) → IsRow h x → IsRow (Enlisted e c ∷ h) x
older_seen e c h x w =
    record {
      stands = or_right (x.number.value == e.value) (has (is_enlisted x.number.value) h) w.stands;
      marked = w.marked;
      voted = w.voted;
      vote = w.vote;
      well = w.well;
    }

-- what stands there or is put there is there
pub there : {A : Type 0} (o : Option A) (x : A) → is_some (unless_there o x) ≡ true
there (Some y) x = refl
there None x = refl

-- what isn't there is nothing
pub none_there : {A : Type 0} (o : Option A) → is_some o ≡ false → o ≡ None
none_there (Some y) h = absurd cc
none_there None h = refl

-- a row after an ask to prepare, which is its own or another's
asked_seen : (e : EnlNo) (n : ℕ) (h : List Entry) (x : Row) (b : Bool) → (x.number.value == e.value) ≡ b → IsRow h x
    → IsRow (Asked e Prepare ∷ h) (if b then (mark_row n x) else x)
asked_seen e n h x true same w = record { stands = w.stands; marked = rw same (there x.asked n); voted = w.voted; vote = w.vote; well = w.well }
asked_seen e n h x false other w = record { stands = w.stands; marked = rw other w.marked; voted = w.voted; vote = w.vote; well = w.well }

-- a row after a vote, which is its own or another's
voted_seen : (e : EnlNo) (v : Vote) (h : List Entry) (x : Row) (b : Bool) → (x.number.value == e.value) ≡ b → has (is_vote e.value) h ≡ false → IsRow h x
    → IsRow (Voted e v ∷ h) (if b then (vote_row v x) else x)
voted_seen e v h x true same once w =
    let number : x.number.value ≡ e.value = eqb-true x.number.value e.value same in
    let silent : has (is_vote x.number.value) h ≡ false = subst (λ n. has (is_vote n) h ≡ false) (sym number) once in
    let gone : x.vote ≡ None = none_there x.vote (w.voted ∙ silent) in
    let unwell : has (is_good_vote x.number.value) h ≡ false = unvoted_unwell x.number.value h silent in
    record {
      stands = w.stands;
      marked = w.marked;
      voted = rw same (there x.vote v);
      vote = rw same (ap (λ o. unless_there o v) gone);
      well = rw (same, unwell, or-false (is_good v)) (ap (λ o. voted_well (unless_there o v)) gone);
    }
voted_seen e v h x false other once w =
    record {
      stands = w.stands;
      marked = w.marked;
      voted = rw other w.voted;
      vote = rw other w.vote;
      well = rw other w.well;
    }

-- what some row of a clone passes by its number and kind, some clone passes
pub has_clones : (f : CloneNo → CloneKind → Bool) (h : List Entry) → has (λ r. f r.clone r.kind) (clone_rows h) ≡ has (λ c. f c.0 c.1) (all_of clone_of h)
has_clones f [] = refl
has_clones f (Cloned c k ∷ h) = has-behind (λ r. f r.clone r.kind) (record { clone = c; kind = k; complete = false }) (clone_rows h) ∙ ap (λ b. f c k || b) (has_clones f h)
has_clones f (Completed c ∷ h) =
    has_kept (λ r. f r.clone r.kind) (λ r. record { clone = r.clone; kind = r.kind; complete = is_clone c.value r || r.complete }) (λ r. refl) (clone_rows h) ∙ has_clones f h
has_clones f (x ∷ h) = has_clones f h

-- a clone stands among the rows where it was made
pub clone_stands : (n : ℕ) (h : List Entry) → has (is_clone n) (clone_rows h) ≡ has (is_cloned n) h
clone_stands n [] = refl
clone_stands n (Cloned c k ∷ h) = has-behind (is_clone n) (record { clone = c; kind = k; complete = false }) (clone_rows h) ∙ ap (λ b. (n == c.value) || b) (clone_stands n h)
clone_stands n (Completed c ∷ h) =
    has_kept (is_clone n) (λ r. record { clone = r.clone; kind = r.kind; complete = is_clone c.value r || r.complete }) (λ r. refl) (clone_rows h) ∙ clone_stands n h
clone_stands n (x ∷ h) = clone_stands n h

-- a clone that doesn't block makes a commit a veto
pub rollback_kind : (k : CloneKind) → not (blocks k) ≡ is_rollback k
rollback_kind Block = refl
rollback_kind Rollback = refl

-- A history whose entries follow one another: what is so of it is so of what stands before its last entry, who is enlisted wasn't before and wasn't asked, who votes was enlisted and
-- hadn't voted, and a clone is made once, before it is complete.
pub record Ordered (K : List Entry → Type 0) : Type 0 where
  pub before : (x : Entry) (h : List Entry) → K (x ∷ h) → K h
  pub new : (e : EnlNo) (c : Class) (h : List Entry) → K (Enlisted e c ∷ h) → has (is_enlisted e.value) h ≡ false
  pub unasked : (e : EnlNo) (c : Class) (h : List Entry) → K (Enlisted e c ∷ h) → has (is_asked e.value) h ≡ false
  pub enlisted : (e : EnlNo) (v : Vote) (h : List Entry) → K (Voted e v ∷ h) → has (is_enlisted e.value) h ≡ true
  pub once : (e : EnlNo) (v : Vote) (h : List Entry) → K (Voted e v ∷ h) → has (is_vote e.value) h ≡ false
  pub unmade : (c : CloneNo) (k : CloneKind) (h : List Entry) → K (Cloned c k ∷ h) → has (is_cloned c.value) h ≡ false
  pub made : (c : CloneNo) (h : List Entry) → K (Completed c ∷ h) → has (is_cloned c.value) h ≡ true

-- So its rows say what its entries show.
module _ {K : List Entry → Type 0} (o : Ordered K) where
  -- what wasn't enlisted didn't vote
  pub unvoted_by : (n : ℕ) (h : List Entry) → K h → has (is_enlisted n) h ≡ false → has (is_vote n) h ≡ false
  unvoted_by n [] r e = refl
  unvoted_by n (Enlisted f c ∷ h) r e = unvoted_by n h (o.before (Enlisted f c) h r) (or_second (n == f.value) (has (is_enlisted n) h) e)
  unvoted_by n (Voted f v ∷ h) r e =
      or_false (n == f.value) (has (is_vote n) h) (apart (λ m. has (is_enlisted m) h) n f.value e (o.enlisted f v h r)) (unvoted_by n h (o.before (Voted f v) h r) e)
  unvoted_by n (x ∷ h) r e = unvoted_by n h (o.before x h r) e

  -- each row says what the history shows of its enlistment
  pub rows_by : (h : List Entry) → K h → OfEach (IsRow h) (rows h)
  rows_by [] r = tt
  rows_by (Enlisted e c ∷ h) r =
      of-insert (IsRow (Enlisted e c ∷ h)) number_of (fresh_row e c (marks (rows h)))
      (fresh_seen e c (marks (rows h)) h (o.unasked e c h r) (unvoted_by e.value h (o.before (Enlisted e c) h r) (o.new e c h r))) (rows h)
      (of-more (IsRow h) (IsRow (Enlisted e c ∷ h)) (older_seen e c h) (rows h) (rows_by h (o.before (Enlisted e c) h r)))
  rows_by (Asked e Prepare ∷ h) r =
      of-map (IsRow h) (IsRow (Asked e Prepare ∷ h)) (λ x. if is_of e.value x then (mark_row (marks (rows h)) x) else x)
      (λ x. asked_seen e (marks (rows h)) h x (is_of e.value x) (eq_swap x.number.value e.value)) (rows h) (rows_by h (o.before (Asked e Prepare) h r))
  rows_by (Voted e v ∷ h) r =
      of-map (IsRow h) (IsRow (Voted e v ∷ h)) (λ x. if is_of e.value x then (vote_row v x) else x)
      (λ x. voted_seen e v h x (is_of e.value x) (eq_swap x.number.value e.value) (o.once e v h r)) (rows h) (rows_by h (o.before (Voted e v) h r))
  rows_by (x ∷ h) r =
      of-more (IsRow h) (IsRow (x ∷ h)) (λ q w. record { stands = w.stands; marked = w.marked; voted = w.voted; vote = w.vote; well = w.well }) (rows h)
      (rows_by h (o.before x h r))

  -- the row at a place says what the history shows of its enlistment
  pub row_by : (h : List Entry) (k : ℕ) (x : Row) → K h → slice_get (rows h) k ≡ Some x → IsRow h x
  row_by h k x r e = of-at (IsRow h) (rows h) k x (rows_by h r) e

  -- where each row of a class that p names has a vote, each such enlistment voted
  pub class_by : (p : Class → Bool) (h : List Entry) → K h → each (λ x. not (p x.class) || has_voted x) (rows h) ≡ each (λ x. not (p x.1) || has (is_vote x.0.value) h) (enlisted h)
  class_by p h r =
      each_same (λ x. not (p x.class) || has_voted x) (λ x. not (p x.class) || has (is_vote x.number.value) h) (rows h)
      (of-more (IsRow h) (λ x. (not (p x.class) || has_voted x) ≡ (not (p x.class) || has (is_vote x.number.value) h)) (λ x w. ap (λ b. not (p x.class) || b) w.voted) (rows h) (rows_by h r))
      ∙ each_rows (λ e c. not (p c) || has (is_vote e.value) h) h

  -- each row is volatile with a vote yes or done where each enlistment is volatile and voted so
  pub evident_by : (h : List Entry) → K h → each (λ x. is_volatile x.class && voted_well x.vote) (rows h) ≡ each (λ x. is_volatile x.1 && has (is_good_vote x.0.value) h) (enlisted h)
  evident_by h r =
      each_same (λ x. is_volatile x.class && voted_well x.vote) (λ x. is_volatile x.class && has (is_good_vote x.number.value) h) (rows h)
      (of-more (IsRow h) (λ x. (is_volatile x.class && voted_well x.vote) ≡ (is_volatile x.class && has (is_good_vote x.number.value) h))
      (λ x w. ap (λ b. is_volatile x.class && b) w.well) (rows h) (rows_by h r))
      ∙ each_rows (λ e c. is_volatile c && has (is_good_vote e.value) h) h

  -- what wasn't cloned wasn't completed
  uncompleted_by : (n : ℕ) (h : List Entry) → K h → has (is_cloned n) h ≡ false → has (is_completed n) h ≡ false
  uncompleted_by n [] r e = refl
  uncompleted_by n (Cloned c k ∷ h) r e = uncompleted_by n h (o.before (Cloned c k) h r) (or_second (n == c.value) (has (is_cloned n) h) e)
  uncompleted_by n (Completed c ∷ h) r e =
      or_false (n == c.value) (has (is_completed n) h) (apart (λ m. has (is_cloned m) h) n c.value e (o.made c h r)) (uncompleted_by n h (o.before (Completed c) h r) e)
  uncompleted_by n (x ∷ h) r e = uncompleted_by n h (o.before x h r) e

  -- each clone's row says whether it was completed
  pub clones_by : (h : List Entry) → K h → OfEach (IsCloneSeen h) (clone_rows h)
  clones_by [] r = tt
  clones_by (Cloned c k ∷ h) r =
      of-behind (IsCloneSeen h) (record { clone = c; kind = k; complete = false }) (sym (uncompleted_by c.value h (o.before (Cloned c k) h r) (o.unmade c k h r))) (clone_rows h)
      (clones_by h (o.before (Cloned c k) h r))
  clones_by (Completed c ∷ h) r =
      of-map (IsCloneSeen h) (IsCloneSeen (Completed c ∷ h)) (λ r. record { clone = r.clone; kind = r.kind; complete = is_clone c.value r || r.complete })
      (λ r w. ap (λ b. b || r.complete) (eq_swap c.value r.clone.value) ∙ ap (λ b. (r.clone.value == c.value) || b) w) (clone_rows h) (clones_by h (o.before (Completed c) h r))
  clones_by (x ∷ h) r = clones_by h (o.before x h r)

  -- where p passes the kind of a clone that isn't complete, as the rows and as the history show it
  pub open_by : (p : CloneKind → Bool) (h : List Entry) → K h → has (λ c. p c.kind && not c.complete) (clone_rows h) ≡ has (λ c. p c.1 && not (is_complete h c)) (all_of clone_of h)
  open_by p h r =
      has_same (λ c. p c.kind && not c.complete) (λ c. p c.kind && not (has (is_completed c.clone.value) h)) (clone_rows h)
      (of-more (IsCloneSeen h) (λ c. (p c.kind && not c.complete) ≡ (p c.kind && not (has (is_completed c.clone.value) h))) (λ c w. ap (λ b. p c.kind && not b) w) (clone_rows h) (clones_by h r))
      ∙ has_clones (λ c k. p k && not (has (is_completed c.value) h)) h

  -- a commit is a veto where such a clone is open by the rows
  pub vetoed_by : (h : List Entry) → K h → has is_open_rollback (clone_rows h) ≡ is_veto h CommitAsked
  vetoed_by h r =
      has_same is_open_rollback (λ c. is_rollback c.kind && not c.complete) (clone_rows h)
      (of-all (λ c. is_open_rollback c ≡ (is_rollback c.kind && not c.complete)) (λ c. ap (λ b. b && not c.complete) (rollback_kind c.kind)) (clone_rows h))
      ∙ open_by is_rollback h r

  -- an enlistment whose row has no vote didn't vote
  pub unvoted_row_by : (h : List Entry) (e : ℕ) → K h → has (is_of e) (rows h) ≡ true → voted e (rows h) ≡ false → has (is_vote e) h ≡ false
  unvoted_row_by h e r s v = of_row h e (rows h) (rows_by h r) s v
    where
      of_row : (h : List Entry) (e : ℕ) (xs : List Row) → OfEach (IsRow h) xs → has (is_of e) xs ≡ true → has (λ x. is_of e x && has_voted x) xs ≡ false → has (is_vote e) h ≡ false
      of_row h e [] w s v = absurd cc
      of_row h e (x ∷ xs) w s v =
          or_case (is_of e x) (has (is_of e) xs)
          (λ k. let same : e ≡ x.number.value = eqb-true e x.number.value k in
          let none : (is_of e x && has_voted x) ≡ false = or_first (is_of e x && has_voted x) (has (λ x. is_of e x && has_voted x) xs) v in
          let unvoted : has_voted x ≡ false = rw k at none in
          rw same (sym w.0.voted ∙ unvoted))
          (λ k. of_row h e xs w.1 k (or_second (is_of e x && has_voted x) (has (λ x. is_of e x && has_voted x) xs) v)) s

  -- an enlistment whose row has a vote voted
  pub cast_row_by : (h : List Entry) (e : ℕ) → K h → voted e (rows h) ≡ true → has (is_vote e) h ≡ true
  cast_row_by h e r v = of_row h e (rows h) (rows_by h r) v
    where
      of_row : (h : List Entry) (e : ℕ) (xs : List Row) → OfEach (IsRow h) xs → has (λ x. is_of e x && has_voted x) xs ≡ true → has (is_vote e) h ≡ true
      of_row h e [] w v = absurd cc
      of_row h e (x ∷ xs) w v =
          or_case (is_of e x && has_voted x) (has (λ x. is_of e x && has_voted x) xs)
          (λ k. let same : e ≡ x.number.value = eqb-true e x.number.value (and_left (is_of e x) (has_voted x) k) in rw same (sym w.0.voted ∙ and_right (is_of e x) (has_voted x) k))
          (of_row h e xs w.1) v

  -- an enlistment that stands voted exactly where its row has a vote
  pub vote_by : (h : List Entry) (e : ℕ) → K h → has (is_of e) (rows h) ≡ true → voted e (rows h) ≡ has (is_vote e) h
  vote_by h e r s = elim (cases_Bool (voted e (rows h))) [
    | inl v ↦ v ∙ sym (cast_row_by h e r v)
    | inr v ↦ v ∙ sym (unvoted_row_by h e r s v)
  ]
