-- What is held stays tied to the history: while that goes on, and when an enlistment hears a note.
use Rattle.std.proofs.Common.{◌≡◌, ◌⊎◌, inl, inr, ℕ, Bool, true, false, not, ◌&&◌, ◌||◌, ◌==◌, List, [], ◌∷◌, ◌++◌, Option, Some, None, refl, ap, subst, sym, ◌∙◌}
use Rattle.std.proofs.lemmas.Bool.{eqb-true, or_left}
use Rattle.std.proofs.lemmas.List.Folds.{list_any-append}
use Rattle.dtx_values.specs.declared.entry.Entry.{Entry}
use Rattle.dtx_values.specs.declared.note.Note.{Note}
use Rattle.dtx_values.specs.declared.note.Note.TheVariants.{Init, Prepare, Promote, Hand, Single, Commit, Rollback, InDoubt}
use Rattle.dtx_values.specs.declared.note.Reply.{Reply}
use Rattle.dtx_values.specs.declared.note.Reply.TheVariants.{Vote as VoteReply, Promote as Promotes, Owner as OwnerReply, Ack}
use Rattle.dtx_values.specs.declared.number.EnlNo.{EnlNo}
use Rattle.dtx_values.specs.declared.words.Outcome.TheVariants.{Aborted, Committed}
use Rattle.dtx_values.specs.declared.words.Vote.{Vote}
use Rattle.dtx_values.specs.declared.words.Vote.TheVariants.{Done, No, Yes}
use Rattle.dtx_model.proofs.Bools.{and_left, and_right, or_case, or_right}
use Rattle.dtx_model.specs.Entries.{is_asked, is_hand}
use Rattle.dtx_model.specs.Replies.{fits}
use Rattle.dtx_model.specs.Words.{has}
use Rattle.record_laws.specs.Recorded.{is_told_so}
use Rattle.recovery_laws.specs.Whole.{Site}
use Rattle.all_or_nothing.specs.Marks.{At, Nowhere, Passing, Place, is_at, is_unmarked, marks_of}
use Rattle.transactions.specs.Hearing.{Given}
use Rattle.all_or_nothing.specs.Tying.{IsTied, gives, is_aborted_by, is_acking, is_any_vote, is_begun, is_done, is_yes, said_ack, said_done, said_vote, said_yes}
use Rattle.history_table.proofs.Tests.{eq_self}

-- ---- the history goes on, and no note is heard

-- by the second no more was said than by the first
pub record SaysNoMore (gs : List Given) (h : List Entry) (gs_now : List Given) (h_now : List Entry) : Type 0 where
  pub vote : (e : ℕ) → said_vote gs_now h_now e ≡ true → said_vote gs h e ≡ true
  pub yes_vote : (e : ℕ) → said_yes gs_now h_now e ≡ true → said_yes gs h e ≡ true
  pub done : (e : ℕ) → said_done gs_now h_now e ≡ true → said_done gs h e ≡ true
  pub ack : (e : ℕ) → said_ack gs_now h_now e ≡ true → said_ack gs h e ≡ true

abbrev pub HasMore : List Entry → List Entry → Type 0
HasMore heard heard_now = (p : Entry → Bool) → has p heard ≡ true → has p heard_now ≡ true

pub or_more : (a b c d : Bool) → (a ≡ true → c ≡ true) → (b ≡ true → d ≡ true) → (a || b) ≡ true → (c || d) ≡ true
or_more true b c d f g e = or_left c d (f refl)
or_more false b c d f g e = or_right c d (g e)

pub begun_more : (heard heard_now : List Entry) (e : ℕ) → HasMore heard heard_now → is_begun heard e ≡ true → is_begun heard_now e ≡ true
begun_more heard heard_now e more k = or_more (has (is_asked e) heard) (has (is_hand e) heard) (has (is_asked e) heard_now) (has (is_hand e) heard_now) (more (is_asked e)) (more (is_hand e)) k

pub tied_on : (n : ℕ) (place : EnlNo → Place) (keeps : EnlNo → Type 0) (leaves : List Site → Type 0) (gs gs_now : List Given) (h h_now heard heard_now : List Entry)
    → HasMore heard heard_now → SaysNoMore gs h gs_now h_now → IsTied n place keeps leaves gs h heard → IsTied n place keeps leaves gs_now h_now heard_now
tied_on n place keeps leaves gs gs_now h h_now heard heard_now more says tied = record {
  votes = λ e s. more (is_asked e) (tied.votes e (says.vote e s));
  acks = λ e s. more (is_told_so Committed e) (tied.acks e (says.ack e s));
  placed = λ e s. tied.placed e (says.yes_vote e.value s);
  kept = λ e m at s. by e (tied.kept e m at (says.yes_vote e.value s));
  left = λ ss there. let so = tied.left ss there in record {
    single = so.single;
    routed = λ m e some. let at = so.routed m e some in (at.0, at.1, at.2, begun_more heard heard_now e more at.3);
    marked = λ m e is. or_more (has (is_hand e) heard) (has (is_told_so Committed e) heard) (has (is_hand e) heard_now) (has (is_told_so Committed e) heard_now) (more (is_hand e)) (more (is_told_so Committed e)) (so.marked m e is);
    done = λ m e s. so.done m e (says.done e s);
    acked = λ m e a y. or_more (not (is_unmarked (marks_of m n e ss))) (is_aborted_by heard e) (not (is_unmarked (marks_of m n e ss))) (is_aborted_by heard_now e) (λ p. p) (more (is_told_so Aborted e)) (so.acked m e (says.ack e a) (says.yes_vote e y));
  };
}
  where
    by : (e : EnlNo) → keeps e ⊎ (is_aborted_by heard e.value ≡ true) → keeps e ⊎ (is_aborted_by heard_now e.value ≡ true)
    by e (inl k) = inl k
    by e (inr k) = inr (more (is_told_so Aborted e.value) k)

-- ---- an enlistment hears a note

-- the reply that was given, where one was
abbrev pub replied : EnlNo → Option Reply → List Given
replied e (Some r) = (e, r) ∷ []
replied e None = []

-- The note comes by these entries, which are heard after others: they say it; none is asked a second time, and none is asked or handed anything once it was told of the commit; and of those heard at a
-- resource none is both asked to prepare and handed the commit.
pub record Comes (place : EnlNo → Place) (e : EnlNo) (note : Note) (heard es : List Entry) : Type 0 where
  pub asked : note ≡ Prepare → has (is_asked e.value) es ≡ true
  pub handed : note ≡ Hand → has (is_hand e.value) es ≡ true
  pub committed : note ≡ Commit → has (is_told_so Committed e.value) es ≡ true
  pub aborted : note ≡ Rollback → has (is_told_so Aborted e.value) es ≡ true
  pub new_asked : note ≡ Prepare → (has (is_asked e.value) heard ≡ false) × (has (is_told_so Committed e.value) heard ≡ false)
  pub new_handed : note ≡ Hand → has (is_told_so Committed e.value) heard ≡ false
  pub unasked : note ≡ Hand → (m : ℕ) → place e ≡ At m → has (is_asked e.value) heard ≡ false
  pub unhanded : note ≡ Prepare → (m : ℕ) → place e ≡ At m → has (is_hand e.value) heard ≡ false

pub more_first : (heard es : List Entry) → HasMore heard (heard ++ es)
more_first heard es p k = list_any-append p heard es ∙ or_left (has p heard) (has p es) k

pub more_last : (heard es : List Entry) (p : Entry → Bool) → has p es ≡ true → has p (heard ++ es) ≡ true
more_last heard es p k = list_any-append p heard es ∙ or_right (has p heard) (has p es) k

-- a vote answers a question to prepare, and an acknowledgement a commit
pub vote_answers : (v : Vote) (n : Note) → fits (VoteReply v) n ≡ true → n ≡ Prepare
vote_answers v Prepare k = refl
vote_answers v Init k = absurd cc
vote_answers v Promote k = absurd cc
vote_answers v Hand k = absurd cc
vote_answers v Single k = absurd cc
vote_answers v Commit k = absurd cc
vote_answers v Rollback k = absurd cc
vote_answers v InDoubt k = absurd cc

pub ack_answers : (n : Note) → fits Ack n ≡ true → n ≡ Commit
ack_answers Commit k = refl
ack_answers Prepare k = absurd cc
ack_answers Init k = absurd cc
ack_answers Promote k = absurd cc
ack_answers Hand k = absurd cc
ack_answers Single k = absurd cc
ack_answers Rollback k = absurd cc
ack_answers InDoubt k = absurd cc

-- which replies these are
pub yes_is : (r : Reply) → is_yes r ≡ true → r ≡ VoteReply Yes
yes_is (VoteReply Yes) k = refl
yes_is (VoteReply No) k = absurd cc
yes_is (VoteReply Done) k = absurd cc
yes_is (Promotes b) k = absurd cc
yes_is (OwnerReply o) k = absurd cc
yes_is Ack k = absurd cc

pub done_is : (r : Reply) → is_done r ≡ true → r ≡ VoteReply Done
done_is (VoteReply Done) k = refl
done_is (VoteReply No) k = absurd cc
done_is (VoteReply Yes) k = absurd cc
done_is (Promotes b) k = absurd cc
done_is (OwnerReply o) k = absurd cc
done_is Ack k = absurd cc

pub ack_is : (r : Reply) → is_acking r ≡ true → r ≡ Ack
ack_is Ack k = refl
ack_is (VoteReply v) k = absurd cc
ack_is (Promotes b) k = absurd cc
ack_is (OwnerReply o) k = absurd cc

pub vote_is : (r : Reply) → is_any_vote r ≡ true → (v : Vote) × (r ≡ VoteReply v)
vote_is (VoteReply v) k = (v, refl)
vote_is (Promotes b) k = absurd cc
vote_is (OwnerReply o) k = absurd cc
vote_is Ack k = absurd cc

-- what is said now was said before, or is the reply
pub record IsReply (p : Reply → Bool) (e : ℕ) (e0 : EnlNo) (r : Option Reply) : Type 0 where
  pub reply : Reply
  pub is : r ≡ Some reply
  pub passes : p reply ≡ true
  pub of : e0.value ≡ e

pub says_more : (p : Reply → Bool) (a : Bool) (e : ℕ) (gs : List Given) (e0 : EnlNo) (r : Option Reply) → (a || gives p e (gs ++ replied e0 r)) ≡ true → ((a || gives p e gs) ≡ true) ⊎ IsReply p e e0 r
says_more p a e gs e0 r k =
    or_case a (gives p e (gs ++ replied e0 r)) (λ q. inl (or_left a (gives p e gs) q))
    (λ q. or_case (gives p e gs) (gives p e (replied e0 r)) (λ f. inl (or_right a (gives p e gs) f)) (λ f. inr (by r f)) (sym (list_any-append (λ g. (g.0.value == e) && p g.1) gs (replied e0 r)) ∙ q)) k
  where
    by : (r : Option Reply) → gives p e (replied e0 r) ≡ true → IsReply p e e0 r
    by None f = absurd cc
    by (Some x) f =
        let one = or_case ((e0.value == e) && p x) false (λ q. q) (λ q. absurd cc) f in
        record { reply = x; is = refl; passes = and_right (e0.value == e) (p x) one; of = eqb-true e0.value e (and_left (e0.value == e) (p x) one) }

pub at_is : (p : Place) (m : ℕ) → is_at p m ≡ true → p ≡ At m
at_is (At k) m e = ap (λ j. At j) (sym (eqb-true m k e))
at_is Nowhere m e = absurd cc
at_is Passing m e = absurd cc

pub is_at_it : (p : Place) (m : ℕ) → p ≡ At m → is_at p m ≡ true
is_at_it p m e = subst (λ q. is_at q m ≡ true) (sym e) (eq_self m)
