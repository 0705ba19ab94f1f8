-- What the local side does next, by its rows and listeners: whom it asks to prepare, and whom it tells.
use Rattle.std.proofs.Common.{Bool, ◌&&◌, ◌||◌, List, ◌≡◌, true, false, refl, ℕ, ◌==◌, Some, ◌∙◌, sym, slice_get, Option, None, []}
use Rattle.std.specs.Prelude.{not, find, is_some}
use Rattle.dtx_values.specs.declared.number.EnlNo.{EnlNo}
use Rattle.dtx_values.specs.declared.entry.Entry.{Entry}
use Rattle.dtx_values.specs.declared.entry.Entry.TheVariants.{CommitAsked}
use Rattle.dtx_values.specs.declared.entry.Party.TheVariants.{Enl}
use Rattle.dtx_values.specs.declared.words.Outcome.{Outcome}
use Rattle.dtx_values.specs.declared.words.Outcome.TheVariants.{Committed, Aborted, InDoubt}
use Rattle.dtx_values.specs.Row.{is_marked, has_voted, is_asked_before}
use Rattle.dtx_values.specs.declared.row.Row.{Row}
use Rattle.dtx_values.specs.declared.words.Class.{Class}
use Rattle.dtx_values.specs.declared.words.Class.TheVariants.{Zero, One, DurableTwo, DurableSingle, Promotable}
use Rattle.dtx_values.specs.Class.{is_class, is_volatile, is_zero, is_one}
use Rattle.dtx_values.specs.Waves.{hears, name_of, may_be_asked, next_ask, zeros_voted, all_voted}
use Rattle.dtx_values.specs.Table.{voted_before}
use Rattle.dtx_model.specs.declared.listener.Listener.{Listener}
use Rattle.dtx_model.specs.Words.{has, each, all_of}
use Rattle.dtx_model.specs.Entries.{clone_of}
use Rattle.dtx_model.specs.Observed.{rows, listeners}
use Rattle.dtx_model.specs.Outcome.{hears_doubt, enlisted, is_complete, is_rollback, is_veto}
use Rattle.dtx_model.specs.Half.{is_aborted}
use Rattle.dtx_model.specs.Acts.{tell}
use Rattle.dtx_model.proofs.Bools.{or_right, and_both, not_false, and_left, and_right}
use Rattle.history_table.proofs.Lists.{passes, each_from_at, found_well, has-at, none_each}
use Rattle.history_table.proofs.EntryTests.{is_certain, is_volatile_of}
use Rattle.history_table.proofs.Owned.{volatile_hears, has_rows}
use Rattle.history_table.proofs.Tests.{eq_self}
use Rattle.history_table.proofs.Scans.{none_more, each_more, find_none, each_both}

-- still to be told: it wasn't, and it is a volatile that hears, or passes a where the outcome is aborted
abbrev pub hears_by : List Entry → Outcome → (Listener → Bool) → Listener → Bool
hears_by h x a l = not l.told && (hears (rows h) l.enlistment.value || (is_aborted x && a l))

-- whoever is to be told may hear the outcome
pub to_tell_well : (h : List Entry) (x : Outcome) (a : Listener → Bool) → passes (λ l. is_certain x || hears_doubt h (Enl l.enlistment)) (find (hears_by h x a) (listeners h)) ≡ true
to_tell_well h x a =
    found_well (hears_by h x a) (λ l. is_certain x || hears_doubt h (Enl l.enlistment)) (listeners h)
    (each_from_at (λ l. not (hears_by h x a l) || (is_certain x || hears_doubt h (Enl l.enlistment))) (listeners h) (λ k l e. well h x l))
  where
    in_doubt : (t b c q : Bool) → (b ≡ true → q ≡ true) → (not (not t && (b || (false && c))) || q) ≡ true
    in_doubt true b c q f = refl
    in_doubt false true c q f = f refl
    in_doubt false false c q f = refl

    well : (h : List Entry) (x : Outcome) (l : Listener) → (not (hears_by h x a l) || (is_certain x || hears_doubt h (Enl l.enlistment))) ≡ true
    well h Committed l = or_right (not (hears_by h Committed a l)) true refl
    well h Aborted l = or_right (not (hears_by h Aborted a l)) true refl
    well h InDoubt l = in_doubt l.told (hears (rows h) l.enlistment.value) (a l) (hears_doubt h (Enl l.enlistment)) (volatile_hears h l.enlistment)

-- what is asked is volatile
pub asked_volatile : (zero : Bool) (c : Class) → is_class zero c ≡ true → is_volatile c ≡ true
asked_volatile true Zero k = refl
asked_volatile true One k = refl
asked_volatile true DurableTwo k = absurd cc
asked_volatile true DurableSingle k = absurd cc
asked_volatile true Promotable k = absurd cc
asked_volatile false Zero k = refl
asked_volatile false One k = refl
asked_volatile false DurableTwo k = absurd cc
asked_volatile false DurableSingle k = absurd cc
asked_volatile false Promotable k = absurd cc

-- a row of a volatile is that of a volatile enlistment
pub row_volatile : (h : List Entry) (k : ℕ) (x : Row) → slice_get (rows h) k ≡ Some x → is_volatile x.class ≡ true → has (is_volatile_of x.number.value) (enlisted h) ≡ true
row_volatile h k x e v =
    let n = x.number.value in
    sym (has_rows (λ (f : EnlNo) (c : Class). (n == f.value) && is_volatile c) h)
    ∙ has-at (λ (y : Row). (n == y.number.value) && is_volatile y.class) (rows h) k x e (and_both (n == n) (is_volatile x.class) (eq_self n) v)

-- the name of what passes passes
pub name_passes : (p : EnlNo → Bool) (o : Option Row) → passes (λ x. p x.number) o ≡ true → passes p (name_of o) ≡ true
name_passes p (Some x) q = q
name_passes p None q = refl

-- so the next that is asked passes where each that may be asked does
pub next_passes : (p : EnlNo → Bool) (xs : List Row) (first : Bool) → ((k : ℕ) (x : Row) → slice_get xs k ≡ Some x → (not (may_be_asked xs first x) || p x.number) ≡ true) → passes p (next_ask xs first) ≡ true
unfolding next_ask
next_passes p xs first f =
    name_passes p (find (may_be_asked xs first) xs) (found_well (may_be_asked xs first) (λ x. p x.number) xs (each_from_at (λ x. not (may_be_asked xs first x) || p x.number) xs f))

-- where each rollback clone is complete, asking for the commit is no veto
pub asked_well : (h : List Entry) → each (λ c. not (is_rollback c.1) || is_complete h c) (all_of clone_of h) ≡ true → is_veto h CommitAsked ≡ false
asked_well h k =
    none_more (λ c. not (is_rollback c.1) || is_complete h c) (λ c. is_rollback c.1 && not (is_complete h c)) (λ c. step (is_rollback c.1) (is_complete h c)) (all_of clone_of h) k
  where
    step : (r x : Bool) → (not r || x) ≡ true → (r && not x) ≡ false
    step false x k = refl
    step true true k = refl
    step true false k = absurd cc

-- the row, where it is marked, has a vote
abbrev pub has_answered : Row → Bool
has_answered x = not (is_marked x) || has_voted x

-- where each marked row has a vote, each that was marked before any place has
answered_before : (n : ℕ) (xs : List Row) → each has_answered xs ≡ true → voted_before n xs ≡ true
answered_before n xs h = each_more has_answered (λ q. not (is_asked_before q.asked n) || has_voted q) (λ q. step q.asked n (has_voted q)) xs h
  where
    step : (o : Option ℕ) (n : ℕ) (v : Bool) → (not (is_some o) || v) ≡ true → (not (is_asked_before o n) || v) ≡ true
    step (Some k) n v h = or_right (not (is_asked_before (Some k) n)) v h
    step None n v h = refl

-- where nobody is to be asked, none of the class may be
none_asked : (xs : List Row) (zero : Bool) → next_ask xs zero ≡ None → each (λ x. not (may_be_asked xs zero x)) xs ≡ true
unfolding next_ask
none_asked xs zero e =
    none_each (may_be_asked xs zero) (λ x. not (may_be_asked xs zero x)) (λ x. not_false (may_be_asked xs zero x)) xs
    (find_none (may_be_asked xs zero) xs (nameless (find (may_be_asked xs zero) xs) e))
  where
    nameless : (o : Option Row) → name_of o ≡ None → o ≡ None
    nameless (Some x) e = absurd cc
    nameless None e = refl

-- where each marked row has a vote and nobody is to be asked in phase zero, each Zero row has a vote
pub zeros_done : (xs : List Row) → each has_answered xs ≡ true → next_ask xs true ≡ None → zeros_voted xs ≡ true
zeros_done xs a e =
    each_both has_answered (λ x. not (may_be_asked xs true x)) (λ x. not (is_zero x.class) || has_voted x)
    (λ x. step (is_zero x.class) (is_marked x) (has_voted x) (voted_before x.added xs) (answered_before x.added xs a)) xs a (none_asked xs true e)
  where
    step : (z m v w : Bool) → w ≡ true → (not m || v) ≡ true → not (z && not m && (not true || w)) ≡ true → (not z || v) ≡ true
    step false m v w k a q = refl
    step true true v w k a q = a
    step true false v true k a q = absurd cc
    step true false v false k a q = absurd cc

-- where each marked row and each Zero row has a vote and nobody is to be asked after the seal, all voted
pub ones_done : (xs : List Row) → each has_answered xs ≡ true → zeros_voted xs ≡ true → next_ask xs false ≡ None → all_voted xs ≡ true
ones_done xs a z e =
    let both = λ (x : Row). has_answered x && (not (is_zero x.class) || has_voted x) in
    each_both both (λ x. not (may_be_asked xs false x)) (λ x. not (is_volatile x.class) || has_voted x) (λ x. step x.class (is_marked x) (has_voted x)) xs
    (each_both has_answered (λ x. not (is_zero x.class) || has_voted x) both (λ x. and_both (has_answered x) (not (is_zero x.class) || has_voted x)) xs a z)
    (none_asked xs false e)
  where
    step : (c : Class) (m v : Bool) → ((not m || v) && (not (is_zero c) || v)) ≡ true → not (is_one c && not m && true) ≡ true → (not (is_volatile c) || v) ≡ true
    step Zero m v a q = and_right (not m || v) v a
    step One true v a q = and_left v true a
    step One false v a q = absurd cc
    step _ m v a q = refl

-- where the client is left to be told nothing, it was told
pub told_all : (x : Outcome) (q : Option Listener) (o : Option Outcome) → tell x q o ≡ [] → is_some o ≡ true
told_all x (Some q) o e = absurd cc
told_all x None (Some y) e = refl
told_all x None None e = absurd cc
