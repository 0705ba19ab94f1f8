-- Which replies are due while nothing is promoted, and what they make.
use Rattle.std.proofs.Common.{◌≡◌, ◌⊎◌, inl, inr, ℕ, Bool, true, false, ◌&&◌, ◌||◌, not, List, [], ◌∷◌, Option, Some, None, refl, ap, ◌∙◌, find, map, is_some, if◌then◌else◌}
use Rattle.dtx_values.specs.declared.entry.Entry.TheVariants.{Voted}
use Rattle.dtx_values.specs.declared.note.Note.{Note}
use Rattle.dtx_values.specs.declared.note.Note.TheVariants.{Prepare, Hand}
use Rattle.dtx_values.specs.declared.note.Reply.{Reply}
use Rattle.dtx_values.specs.declared.note.Reply.TheVariants.{Vote as VoteReply, Promote as Promotes, Owner as OwnerReply, Ack}
use Rattle.dtx_values.specs.declared.number.EnlNo.{EnlNo}
use Rattle.dtx_values.specs.declared.number.RmNo.{RmNo}
use Rattle.dtx_values.specs.declared.row.Row.{Row}
use Rattle.dtx_values.specs.declared.words.Vote.{Vote}
use Rattle.dtx_values.specs.Class.{is_volatile}
use Rattle.dtx_values.specs.Row.{has_voted, is_marked, is_of, vote_in, vote_row}
use Rattle.dtx_values.specs.Vote.{is_no}
use Rattle.dtx_model.specs.Words.{has, or_else}
use Rattle.dtx_model.specs.Observed.{Observed, track}
use Rattle.dtx_model.specs.Half.{is_gone, is_handed, sees, veto, veto_if as full_veto_if}
use Rattle.dtx_model.specs.Replies.{due_of, fits, is_volatile_row, note_of_row, reply_entries as full_reply, row_note}
use Rattle.dtx_model.proofs.Narrow.{reply_entries, veto_if}
use Rattle.dtx_model.proofs.Unpromoted.{at_home, narrow}

-- why a reply of the enlistment of this number is due: a volatile was asked and hasn't voted, or the commit was handed to it; and nothing is decided, and it isn't lost
pub record OwesVote (o : Observed) (e : ℕ) (n : Note) : Type 0 where
  pub row : Row
  pub stands : find (is_of e) o.table ≡ Some row
  pub note : n ≡ Prepare
  pub volatile : is_volatile row.class ≡ true
  pub asked : is_marked row ≡ true
  pub unvoted : has_voted row ≡ false
  pub open_yet : is_some o.decided ≡ false
  pub there : is_gone o e ≡ false

pub record OwesOutcome (o : Observed) (e : ℕ) (n : Note) : Type 0 where
  pub row : Row
  pub stands : find (is_of e) o.table ≡ Some row
  pub note : n ≡ Hand
  pub handed : is_handed o.handed row.number.value ≡ true
  pub open_yet : is_some o.decided ≡ false
  pub there : is_gone o e ≡ false

abbrev pub IsDue : Observed → ℕ → Note → Type 0
IsDue o e n = OwesVote o e n ⊎ OwesOutcome o e n

note_cases : (marked voted volatile decided handed : Bool) (n : Note) →
    (if marked && not voted && (if volatile then not decided else false) then Some Prepare else if handed && not decided then Some Hand else None) ≡ Some n →
    ((n ≡ Prepare) × (volatile ≡ true) × (marked ≡ true) × (voted ≡ false) × (decided ≡ false)) ⊎ ((n ≡ Hand) × (handed ≡ true) × (decided ≡ false))
note_cases true false true false handed n p = inl (cc, refl, refl, refl, refl)
note_cases true false true true true n p = absurd cc
note_cases true false true true false n p = absurd cc
note_cases true false false false true n p = inr (cc, refl, refl)
note_cases true false false false false n p = absurd cc
note_cases true false false true true n p = absurd cc
note_cases true false false true false n p = absurd cc
note_cases true true volatile false true n p = inr (cc, refl, refl)
note_cases true true volatile false false n p = absurd cc
note_cases true true volatile true true n p = absurd cc
note_cases true true volatile true false n p = absurd cc
note_cases false voted volatile false true n p = inr (cc, refl, refl)
note_cases false voted volatile false false n p = absurd cc
note_cases false voted volatile true true n p = absurd cc
note_cases false voted volatile true false n p = absurd cc

row_due : (o : Observed) (e : ℕ) (n : Note) (x : Option Row) → find (is_of e) o.table ≡ x → is_gone o e ≡ false → or_else (note_of_row (narrow o) x) None ≡ Some n → IsDue o e n
row_due o e n None f g p = absurd cc
row_due o e n (Some x) f g p =
    made (note_cases (is_marked x) (has_voted x) (is_volatile x.class) (is_some o.decided) (is_handed o.handed x.number.value) n (drop (row_note (narrow o) x) p))
  where
    drop : (m : Option Note) → or_else m None ≡ Some n → m ≡ Some n
    drop (Some m) q = q
    drop None q = q

    made : ((n ≡ Prepare) × (is_volatile x.class ≡ true) × (is_marked x ≡ true) × (has_voted x ≡ false) × (is_some o.decided ≡ false)) ⊎ ((n ≡ Hand) × (is_handed o.handed x.number.value ≡ true) × (is_some o.decided ≡ false)) → IsDue o e n
    made (inl q) = inl (record { row = x; stands = f; note = q.0; volatile = q.1; asked = q.2; unvoted = q.3; open_yet = q.4; there = g })
    made (inr q) = inr (record { row = x; stands = f; note = q.0; handed = q.1; open_yet = q.2; there = g })

due_by : (o : Observed) (e : ℕ) (n : Note) (gone : Bool) → is_gone o e ≡ gone → (if gone then None else or_else (note_of_row (narrow o) (find (is_of e) o.table)) None) ≡ Some n → IsDue o e n
due_by o e n true g p = absurd cc
due_by o e n false g p = row_due o e n (find (is_of e) o.table) refl g p

pub due-narrow : (o : Observed) (e : ℕ) (n : Note) → due_of (narrow o) e ≡ Some n → IsDue o e n
unfolding due_of
due-narrow o e n p = due_by o e n (is_gone o e) refl p

-- the class of a row is kept by votes
is_volatile_of : ℕ → Row → Bool
is_volatile_of e x = is_of e x && is_volatile x.class

volatile_voted : (e f : ℕ) (v : Vote) (b : Bool) (x : Row) → is_volatile_of e (if b then vote_row v x else x) ≡ is_volatile_of e x
unfolding is_volatile_of
volatile_voted e f v true x = refl
volatile_voted e f v false x = refl

volatile_kept : (e f : ℕ) (v : Vote) (xs : List Row) → has (is_volatile_of e) (map (vote_in f v) xs) ≡ has (is_volatile_of e) xs
volatile_kept e f v [] = refl
volatile_kept e f v (x ∷ xs) = rw (volatile_voted e f v (is_of f x) x, volatile_kept e f v xs) refl

volatile_there : (b : Bool) (x y : Row) (rest : Option Row) (others : Bool) → is_volatile x.class ≡ true → (rest ≡ Some x → others ≡ true) → (if b then Some y else rest) ≡ Some x →
    ((b && is_volatile y.class) || others) ≡ true
volatile_there true x y rest others p k f = rw (the_same f) refl
  where
    the_same : Some y ≡ Some x → is_volatile y.class ≡ true
    the_same q = cc
volatile_there false x y rest others p k f = k f

found_volatile : (e : ℕ) (x : Row) (xs : List Row) → find (is_of e) xs ≡ Some x → is_volatile x.class ≡ true → has (is_volatile_of e) xs ≡ true
unfolding is_volatile_of
found_volatile e x [] f p = absurd cc
found_volatile e x (y ∷ ys) f p = volatile_there (is_of e y) x y (find (is_of e) ys) (has (is_volatile_of e) ys) p (λ q. found_volatile e x ys q p) f

row_volatile : (o : Observed) (e : EnlNo) (v : Vote) (x : Row) → find (is_of e.value) o.table ≡ Some x → is_volatile x.class ≡ true → is_volatile_row (track (narrow o) (Voted e v)) e.value ≡ true
unfolding track is_volatile_of
row_volatile o e v x f p = volatile_kept e.value e.value v o.table ∙ found_volatile e.value x o.table f p

vetoed_same : (o : Observed) (ms : List (EnlNo × RmNo)) (e : EnlNo) (v : Vote) (b : Bool) → full_veto_if b (sees (at_home o ms) (Voted e v)) ≡ veto_if b
unfolding track veto
vetoed_same o ms e v true = refl
vetoed_same o ms e v false = refl

-- what a reply makes
reply_same : (o : Observed) (ms : List (EnlNo × RmNo)) (e : EnlNo) (r : Reply) (n : Note) → due_of (narrow o) e.value ≡ Some n → fits r n ≡ true → IsDue o e.value n → full_reply (at_home o ms) e r ≡ reply_entries e r
unfolding full_reply
reply_same o ms e (VoteReply v) n d f (inl q) = rw (row_volatile o e v q.row q.stands q.volatile) (ap (λ es. Voted e v ∷ es) (vetoed_same o ms e v (is_no v)))
reply_same o ms e (OwnerReply x) n d f (inr q) = rw (d ∙ ap Some q.note) refl
reply_same o ms e (VoteReply v) n d f (inr q) = absurd cc
reply_same o ms e (OwnerReply x) n d f (inl q) = absurd cc
reply_same o ms e (Promotes ok) n d f (inl q) = absurd cc
reply_same o ms e (Promotes ok) n d f (inr q) = absurd cc
reply_same o ms e Ack n d f (inl q) = absurd cc
reply_same o ms e Ack n d f (inr q) = absurd cc

pub reply-narrow : (o : Observed) (ms : List (EnlNo × RmNo)) (e : EnlNo) (r : Reply) (n : Note) → due_of (narrow o) e.value ≡ Some n → fits r n ≡ true → full_reply (at_home o ms) e r ≡ reply_entries e r
reply-narrow o ms e r n d f = reply_same o ms e r n d f (due-narrow o e.value n d)
