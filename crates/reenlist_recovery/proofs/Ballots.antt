-- What one more entry makes of what the rows say of an enlistment's vote.
use Rattle.std.proofs.Common.{◌≡◌, ℕ, ◌==◌, Bool, true, false, ◌&&◌, ◌||◌, not, List, Option, Some, None, is_some, if◌then◌else◌, refl, sym, ◌∙◌}
use Rattle.dtx_values.specs.declared.entry.Ask.TheVariants.{Prepare}
use Rattle.dtx_values.specs.declared.entry.Entry.{Entry}
use Rattle.dtx_values.specs.declared.entry.Entry.TheVariants.{Enlisted, Asked, Voted}
use Rattle.dtx_values.specs.declared.row.Row.{Row}
use Rattle.dtx_values.specs.declared.words.Vote.{Vote}
use Rattle.dtx_values.specs.Row.{fresh_row, is_of, mark_in, mark_row, number_of, unless_there, vote_in, vote_row}
use Rattle.dtx_values.specs.Table.{marks}
use Rattle.dtx_values.specs.Vote.{still_hears}
use Rattle.dtx_model.specs.Observed.{rows_after}
use Rattle.dtx_model.specs.Words.{has}
use Rattle.dtx_model.proofs.Bools.{and_never}
use Rattle.reenlist_recovery.specs.Enlisted.{ballot_after, ballot_of, is_unvoted, still_hears_by}
use Rattle.reenlist_recovery.proofs.Found.{has-more, has-only, other_number, same_number}
use Rattle.dtx_model.specs.World.{is_out_row}
use Rattle.dtx_model.proofs.Passing.{has-insert_by, has-map}

and_always : (a : Bool) → (a && true) ≡ a
and_always true = refl
and_always false = refl

or_never : (a : Bool) → (a || false) ≡ a
or_never true = refl
or_never false = refl

-- a mark leaves the vote as it was
unvoted_marked : (e f n : ℕ) (x : Row) → is_unvoted e (mark_in f n x) ≡ is_unvoted e x
unvoted_marked e f n x = by (is_of f x)
  where
    by : (b : Bool) → is_unvoted e (if b then mark_row n x else x) ≡ is_unvoted e x
    by true = refl
    by false = refl

out_marked : (e f n : ℕ) (x : Row) → is_out_row e (mark_in f n x) ≡ is_out_row e x
out_marked e f n x = by (is_of f x)
  where
    by : (b : Bool) → is_out_row e (if b then mark_row n x else x) ≡ is_out_row e x
    by true = refl
    by false = refl

-- a vote stands in the enlistment's row, unless one does already
unvoted_row : (s : Bool) (v : Vote) (o : Option Vote) → (s && not (is_some (unless_there o v))) ≡ false
unvoted_row s v None = and_never s
unvoted_row s v (Some w) = and_never s

out_row : (s : Bool) (v : Vote) (o : Option Vote) → (s && not (still_hears (unless_there o v))) ≡ ((s && not (still_hears o)) || (not (still_hears_by v) && (s && not (is_some o))))
out_row true v None = sym (and_always (not (still_hears_by v)))
out_row true v (Some w) = sym ((λ k. not (still_hears (Some w)) || and_never (not (still_hears_by v)) k) ∙ or_never (not (still_hears (Some w))))
out_row false v o = sym (and_never (not (still_hears_by v)))

-- by whether the vote is its own, and whether the row is the voter's
unvoted_voted : (e f : ℕ) (v : Vote) (x : Row) → is_unvoted e (vote_in f v x) ≡ (not (e == f) && is_unvoted e x)
unvoted_voted e f v x = by (f == x.number.value) (e == f) refl refl
  where
    by : (b c : Bool) → (f == x.number.value) ≡ b → (e == f) ≡ c → is_unvoted e (if b then vote_row v x else x) ≡ (not c && is_unvoted e x)
    by true true k l = unvoted_row (e == x.number.value) v x.vote
    by true false k l = rw (other_number e f x.number.value l k) refl
    by false true k l = rw (same_number e f x.number.value l k) refl
    by false false k l = refl

out_voted : (e f : ℕ) (v : Vote) (x : Row) → is_out_row e (vote_in f v x) ≡ (is_out_row e x || (((e == f) && not (still_hears_by v)) && is_unvoted e x))
out_voted e f v x = by (f == x.number.value) (e == f) refl refl
  where
    by : (b c : Bool) → (f == x.number.value) ≡ b → (e == f) ≡ c → is_out_row e (if b then vote_row v x else x) ≡ (is_out_row e x || ((c && not (still_hears_by v)) && is_unvoted e x))
    by true true k l = out_row (e == x.number.value) v x.vote
    by true false k l = rw (other_number e f x.number.value l k) refl
    by false true k l = rw (same_number e f x.number.value l k) (sym (and_never (not (still_hears_by v))))
    by false false k l = sym (or_never (is_out_row e x))

-- what the rows say after one more entry
pub ballot-more : (e : ℕ) (x : Entry) (xs : List Row) → ballot_of e (rows_after x xs) ≡ ballot_after e x (ballot_of e xs)
ballot-more e (Enlisted f c) xs =
    let row = fresh_row f c (marks xs) in
    λ k. record {
      unvoted = (has-insert_by (is_unvoted e) number_of row xs ∙ (λ j. and_always (e == f.value) j || has (is_unvoted e) xs)) k;
      out = (has-insert_by (is_out_row e) number_of row xs ∙ (λ j. and_never (e == f.value) j || has (is_out_row e) xs)) k;
    }
ballot-more e (Asked f Prepare) xs =
    λ k. record {
      unvoted = has-map (is_unvoted e) (mark_in f.value (marks xs)) (unvoted_marked e f.value (marks xs)) xs k;
      out = has-map (is_out_row e) (mark_in f.value (marks xs)) (out_marked e f.value (marks xs)) xs k;
    }
ballot-more e (Voted f v) xs =
    λ k. record {
      unvoted = has-only (is_unvoted e) (is_unvoted e) (vote_in f.value v) (not (e == f.value)) (unvoted_voted e f.value v) xs k;
      out = has-more (is_out_row e) (is_out_row e) (is_unvoted e) (vote_in f.value v) ((e == f.value) && not (still_hears_by v)) (out_voted e f.value v) xs k;
    }
ballot-more e _ xs = refl
