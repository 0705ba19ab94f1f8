-- What is held stays tied to the history when an enlistment hears a note.
use Rattle.std.proofs.Common.{◌≡◌, ◌⊎◌, inl, inr, ℕ, Bool, true, false, not, ◌&&◌, ◌||◌, ◌==◌, List, [], ◌∷◌, ◌++◌, Option, Some, refl, ap, subst, sym, ◌∙◌}
use Rattle.std.proofs.lemmas.Bool.{eqb-true, or_left}
use Rattle.dtx_values.specs.declared.entry.Entry.{Entry}
use Rattle.dtx_values.specs.declared.entry.Entry.TheVariants.{Voted}
use Rattle.dtx_values.specs.declared.note.Note.{Note}
use Rattle.dtx_values.specs.declared.note.Note.TheVariants.{Prepare, Hand, Commit, Rollback}
use Rattle.dtx_values.specs.declared.note.Reply.{Reply}
use Rattle.dtx_values.specs.declared.note.Reply.TheVariants.{Vote as VoteReply, Promote as Promotes, Owner as OwnerReply, Ack}
use Rattle.dtx_values.specs.declared.number.EnlNo.{EnlNo}
use Rattle.dtx_values.specs.declared.words.Outcome.TheVariants.{Aborted, Committed}
use Rattle.dtx_values.specs.declared.words.Vote.TheVariants.{Done, No, Yes}
use Rattle.dtx_values.proofs.SameNumbers.{same_enlistment}
use Rattle.dtx_model.proofs.Bools.{and_both, and_left, and_right, not_both, not_false, or_case, or_right}
use Rattle.dtx_model.specs.Entries.{is_asked, is_hand, is_vote}
use Rattle.dtx_model.specs.Outcome.{is_empty}
use Rattle.dtx_model.specs.Words.{has}
use Rattle.history_table.proofs.Scans.{has_more}
use Rattle.record_laws.specs.Recorded.{is_ack, is_told_so, is_vote_yes}
use Rattle.recovery_laws.specs.Whole.{Site}
use Rattle.all_or_nothing.specs.Marks.{At, Becomes, HearsAs, IsTurned, Nowhere, Place, begins, commits, fits_if, is_at, is_single, is_unmarked, marks_of}
use Rattle.transactions.specs.Hearing.{Given}
use Rattle.all_or_nothing.specs.Tying.{IsLeftSo, IsTied, gives, is_aborted_by, is_acking, is_any_vote, is_begun, is_done, is_vote_done, is_yes, said_ack, said_done, said_vote, said_yes}
use Rattle.all_or_nothing.proofs.Tied.{Comes, IsReply, ack_answers, ack_is, at_is, begun_more, done_is, is_at_it, more_first, more_last, or_more, replied, says_more, vote_answers, vote_is, yes_is}
use Rattle.all_or_nothing.proofs.Turning.{begins_by, commits_by, held_from, marked_from, none_on, single_on, unmarked_on}

-- the note that this reply answers
fit_of : (r : Option Reply) (x : Reply) (note : Note) → fits_if r note ≡ true → r ≡ Some x → fits_if (Some x) note ≡ true
fit_of r x note k e = subst (λ o. fits_if o note ≡ true) e k

-- what isn't held isn't held without a mark
none_unmarked : (l : List Bool) → is_empty l ≡ true → is_unmarked l ≡ false
none_unmarked [] e = refl
none_unmarked (b ∷ l) e = absurd cc

empty_or : (l : List Bool) → (is_empty l ≡ true) ⊎ (is_empty l ≡ false)
empty_or [] = inl refl
empty_or (b ∷ l) = inr refl

-- what the enlistment e0 heard, with all that is known of it
pub record Hearing (n : ℕ) (place : EnlNo → Place) (keeps keeps_now : EnlNo → Type 0) (leaves leaves_now : List Site → Type 0) (gs : List Given) (h heard es : List Entry) (e0 : EnlNo) (note : Note) (r : Option Reply) : Type 0 where
  pub hears : HearsAs n place keeps keeps_now leaves leaves_now e0 note r
  pub comes : Comes place e0 note heard es
  pub tied : IsTied n place keeps leaves gs h heard

-- One that is heard at this resource and begins something now did nothing before: it was neither asked nor handed, nor told of a commit.
begins_new : (n : ℕ) (place : EnlNo → Place) (keeps keeps_now : EnlNo → Type 0) (leaves leaves_now : List Site → Type 0) (gs : List Given) (h heard es : List Entry) (e0 : EnlNo) (note : Note) (r : Option Reply)
    → Hearing n place keeps keeps_now leaves leaves_now gs h heard es e0 note r → (m : ℕ) → place e0 ≡ At m → begins note ≡ true → (has (is_asked e0.value) heard ≡ false) × (has (is_told_so Committed e0.value) heard ≡ false)
begins_new n place keeps keeps_now leaves leaves_now gs h heard es e0 note r c m at b = by (begins_by note b)
  where
    by : (note ≡ Prepare) ⊎ (note ≡ Hand) → (has (is_asked e0.value) heard ≡ false) × (has (is_told_so Committed e0.value) heard ≡ false)
    by (inl p) = c.comes.new_asked p
    by (inr p) = (c.comes.unasked p m at, c.comes.new_handed p)

-- one that votes done votes
done_vote : (e : ℕ) (x : Entry) → is_vote_done e x ≡ true → is_vote e x ≡ true
done_vote e (Voted f Done) q = q
done_vote e (Voted f Yes) q = absurd cc
done_vote e (Voted f No) q = absurd cc
done_vote e _ q = absurd cc

done_reply : (x : Reply) → is_done x ≡ true → is_any_vote x ≡ true
done_reply (VoteReply v) q = refl
done_reply (Promotes b) q = absurd cc
done_reply (OwnerReply o) q = absurd cc
done_reply Ack q = absurd cc

done_given : (e : ℕ) (g : Given) → ((g.0.value == e) && is_done g.1) ≡ true → ((g.0.value == e) && is_any_vote g.1) ≡ true
done_given e g q = and_both (g.0.value == e) (is_any_vote g.1) (and_left (g.0.value == e) (is_done g.1) q) (done_reply g.1 (and_right (g.0.value == e) (is_done g.1) q))

done_votes : (gs : List Given) (h : List Entry) (e : ℕ) → said_done gs h e ≡ true → said_vote gs h e ≡ true
done_votes gs h e k =
    or_more (has (is_vote_done e) h) (gives is_done e gs) (has (is_vote e) h) (gives is_any_vote e gs) (has_more (is_vote_done e) (is_vote e) (done_vote e) h)
    (has_more (λ g. (g.0.value == e) && is_done g.1) (λ g. (g.0.value == e) && is_any_vote g.1) (done_given e) gs) k

left_now : (n : ℕ) (place : EnlNo → Place) (keeps keeps_now : EnlNo → Type 0) (leaves leaves_now : List Site → Type 0) (gs : List Given) (h heard es : List Entry) (e0 : EnlNo) (note : Note) (r : Option Reply)
    → Hearing n place keeps keeps_now leaves leaves_now gs h heard es e0 note r → (ss old : List Site) → leaves_now ss → leaves old → IsTurned (place e0) n e0.value note r old ss
    → IsLeftSo n place (gs ++ replied e0 r) h (heard ++ es) ss
left_now n place keeps keeps_now leaves leaves_now gs h heard es e0 note r c ss old there was turned = record {
  single = λ m e. single m e (whose m e);
  routed = λ m e some. routed m e some (whose m e);
  marked = λ m e is. marked m e is (whose m e);
  done = λ m e s. done m e s (whose m e);
  acked = λ m e a y. acked m e a y (whose m e);
}
  where
    so : IsLeftSo n place gs h heard old
    so = c.tied.left old was

    -- it is of the enlistment that hears the note, or is as it was
    Whose : ℕ → ℕ → Type 0
    Whose m e = ((place e0 ≡ At m) × (e0.value ≡ e)) ⊎ (marks_of m n e ss ≡ marks_of m n e old)

    whose : (m e : ℕ) → Whose m e
    whose m e = by (is_at (place e0) m && ((n == n) && (e0.value == e))) refl
      where
        by : (b : Bool) → (is_at (place e0) m && ((n == n) && (e0.value == e))) ≡ b → Whose m e
        by true k = inl (at_is (place e0) m (and_left (is_at (place e0) m) ((n == n) && (e0.value == e)) k), eqb-true e0.value e (and_right (n == n) (e0.value == e) (and_right (is_at (place e0) m) ((n == n) && (e0.value == e)) k)))
        by false k = inr (turned.others m n e k)

    own : (m : ℕ) → place e0 ≡ At m → Becomes note r (marks_of m n e0.value old) (marks_of m n e0.value ss)
    own m at = turned.own m (is_at_it (place e0) m at) (so.single m e0.value)

    single : (m e : ℕ) → Whose m e → is_single (marks_of m n e ss) ≡ true
    single m e (inl w) = subst (λ j. is_single (marks_of m n j ss) ≡ true) w.1 (single_on note (marks_of m n e0.value old) (marks_of m n e0.value ss) (own m w.0).turned (so.single m e0.value))
    single m e (inr w) = subst (λ l. is_single l ≡ true) (sym w) (so.single m e)

    -- what was held of it was heard at this resource
    old_at : (m e : ℕ) → is_empty (marks_of m n e old) ≡ false → e0.value ≡ e → place e0 ≡ At m
    old_at m e some q = let at = so.routed m e some in subst (λ f. place f ≡ At m) (same_enlistment at.0 e0 (at.1 ∙ sym q)) at.2

    -- what is as it was, of the one that hears, isn't held: else it would be heard there
    begun_by : begins note ≡ true → is_begun es e0.value ≡ true
    begun_by b = by (begins_by note b)
      where
        by : (note ≡ Prepare) ⊎ (note ≡ Hand) → is_begun es e0.value ≡ true
        by (inl p) = or_left (has (is_asked e0.value) es) (has (is_hand e0.value) es) (c.comes.asked p)
        by (inr p) = or_right (has (is_asked e0.value) es) (has (is_hand e0.value) es) (c.comes.handed p)

    begun_last : (e : ℕ) → is_begun es e ≡ true → is_begun (heard ++ es) e ≡ true
    begun_last e k = or_more (has (is_asked e) es) (has (is_hand e) es) (has (is_asked e) (heard ++ es)) (has (is_hand e) (heard ++ es)) (more_last heard es (is_asked e)) (more_last heard es (is_hand e)) k

    Routed : ℕ → ℕ → Type 0
    Routed m e = (f : EnlNo) × (f.value ≡ e) × (place f ≡ At m) × (is_begun (heard ++ es) e ≡ true)

    routed : (m e : ℕ) → is_empty (marks_of m n e ss) ≡ false → Whose m e → Routed m e
    routed m e some (inr w) = let at = so.routed m e (subst (λ l. is_empty l ≡ false) w some) in (at.0, at.1, at.2, begun_more heard (heard ++ es) e (more_first heard es) at.3)
    routed m e some (inl w) =
        by (held_from note (marks_of m n e0.value old) (marks_of m n e0.value ss) (own m w.0).turned (subst (λ j. is_empty (marks_of m n j ss) ≡ false) (sym w.1) some))
      where
        by : (is_empty (marks_of m n e0.value old) ≡ false) ⊎ (begins note ≡ true) → Routed m e
        by (inl k) = (e0, w.1, w.0, subst (λ j. is_begun (heard ++ es) j ≡ true) w.1 (begun_more heard (heard ++ es) e0.value (more_first heard es) (so.routed m e0.value k).3))
        by (inr b) = (e0, w.1, w.0, subst (λ j. is_begun (heard ++ es) j ≡ true) w.1 (begun_last e0.value (begun_by b)))

    Told : List Entry → ℕ → Bool
    Told xs e = has (is_hand e) xs || has (is_told_so Committed e) xs

    marked : (m e : ℕ) → marks_of m n e ss ≡ true ∷ [] → Whose m e → Told (heard ++ es) e ≡ true
    marked m e is (inr w) = or_more (has (is_hand e) heard) (has (is_told_so Committed e) heard) (has (is_hand e) (heard ++ es)) (has (is_told_so Committed e) (heard ++ es)) (more_first heard es (is_hand e)) (more_first heard es (is_told_so Committed e)) (so.marked m e (sym w ∙ is))
    marked m e is (inl w) =
        subst (λ j. Told (heard ++ es) j ≡ true) w.1
        (by (marked_from note (marks_of m n e0.value old) (marks_of m n e0.value ss) (own m w.0).turned (subst (λ j. marks_of m n j ss ≡ true ∷ []) (sym w.1) is)))
      where
        by : (marks_of m n e0.value old ≡ true ∷ []) ⊎ (commits note ≡ true) → Told (heard ++ es) e0.value ≡ true
        by (inl k) = or_more (has (is_hand e0.value) heard) (has (is_told_so Committed e0.value) heard) (has (is_hand e0.value) (heard ++ es)) (has (is_told_so Committed e0.value) (heard ++ es)) (more_first heard es (is_hand e0.value)) (more_first heard es (is_told_so Committed e0.value)) (so.marked m e0.value k)
        by (inr k) = which (commits_by note k)
          where
            which : (note ≡ Hand) ⊎ (note ≡ Commit) → Told (heard ++ es) e0.value ≡ true
            which (inl p) = or_left (has (is_hand e0.value) (heard ++ es)) (has (is_told_so Committed e0.value) (heard ++ es)) (more_last heard es (is_hand e0.value) (c.comes.handed p))
            which (inr p) = or_right (has (is_hand e0.value) (heard ++ es)) (has (is_told_so Committed e0.value) (heard ++ es)) (more_last heard es (is_told_so Committed e0.value) (c.comes.committed p))

    -- an enlistment that was asked begins nothing now
    begins_none : (m : ℕ) → place e0 ≡ At m → has (is_asked e0.value) heard ≡ true → begins note ≡ false
    begins_none m at k = by (begins note) refl
      where
        by : (b : Bool) → begins note ≡ b → begins note ≡ false
        by true q = absurd (not_both (has (is_asked e0.value) heard) k (begins_new n place keeps keeps_now leaves leaves_now gs h heard es e0 note r c m at q).0)
        by false q = q

    begins_none_told : (m : ℕ) → place e0 ≡ At m → has (is_told_so Committed e0.value) heard ≡ true → begins note ≡ false
    begins_none_told m at k = by (begins note) refl
      where
        by : (b : Bool) → begins note ≡ b → begins note ≡ false
        by true q = absurd (not_both (has (is_told_so Committed e0.value) heard) k (begins_new n place keeps keeps_now leaves leaves_now gs h heard es e0 note r c m at q).1)
        by false q = q

    -- where it is asked to prepare, nothing was held of it
    unheld : (m : ℕ) → note ≡ Prepare → is_empty (marks_of m n e0.value old) ≡ true
    unheld m p = by (empty_or (marks_of m n e0.value old))
      where
        by : (is_empty (marks_of m n e0.value old) ≡ true) ⊎ (is_empty (marks_of m n e0.value old) ≡ false) → is_empty (marks_of m n e0.value old) ≡ true
        by (inl k) = k
        by (inr k) =
            let at = old_at m e0.value k refl in
            or_case (has (is_asked e0.value) heard) (has (is_hand e0.value) heard) (λ a. absurd (not_both (has (is_asked e0.value) heard) a (c.comes.new_asked p).0)) (λ a. absurd (not_both (has (is_hand e0.value) heard) a (c.comes.unhanded p m at)))
            (so.routed m e0.value k).3

    -- what is as it was though its enlistment hears isn't held
    elsewhere : (m e : ℕ) → e0.value ≡ e → marks_of m n e ss ≡ marks_of m n e old → (place e0 ≡ At m → is_empty (marks_of m n e ss) ≡ true) → is_empty (marks_of m n e ss) ≡ true
    elsewhere m e q w here = by (empty_or (marks_of m n e ss))
      where
        by : (is_empty (marks_of m n e ss) ≡ true) ⊎ (is_empty (marks_of m n e ss) ≡ false) → is_empty (marks_of m n e ss) ≡ true
        by (inl k) = k
        by (inr k) = here (old_at m e (subst (λ l. is_empty l ≡ false) w k) q)

    done : (m e : ℕ) → said_done (gs ++ replied e0 r) h e ≡ true → Whose m e → is_empty (marks_of m n e ss) ≡ true
    done m e s w = by (says_more is_done (has (is_vote_done e) h) e gs e0 r s) w
      where
        after : (m : ℕ) → place e0 ≡ At m → has (is_asked e0.value) heard ≡ true → is_empty (marks_of m n e0.value old) ≡ true → is_empty (marks_of m n e0.value ss) ≡ true
        after m at asked none = none_on note (marks_of m n e0.value old) (marks_of m n e0.value ss) (own m at).turned (begins_none m at asked) none

        new : (m : ℕ) → IsReply is_done e e0 r → place e0 ≡ At m → is_empty (marks_of m n e0.value ss) ≡ true
        new m x at =
            let is : r ≡ Some (VoteReply Done) = x.is ∙ ap (λ q. Some q) (done_is x.reply x.passes) in
            let note_is : note ≡ Prepare = vote_answers Done note (fit_of r (VoteReply Done) note c.hears.fitting is) in
            subst (λ l. is_empty l ≡ true) (sym ((own m at).done is)) (unheld m note_is)

        by : ((said_done gs h e ≡ true) ⊎ IsReply is_done e e0 r) → Whose m e → is_empty (marks_of m n e ss) ≡ true
        by (inl k) (inr v) = subst (λ l. is_empty l ≡ true) (sym v) (so.done m e k)
        by (inl k) (inl v) =
            let k0 : said_done gs h e0.value ≡ true = subst (λ j. said_done gs h j ≡ true) (sym v.1) k in
            subst (λ j. is_empty (marks_of m n j ss) ≡ true) v.1 (after m v.0 (c.tied.votes e0.value (done_votes gs h e0.value k0)) (so.done m e0.value k0))
        by (inr x) (inl v) = subst (λ j. is_empty (marks_of m n j ss) ≡ true) v.1 (new m x v.0)
        by (inr x) (inr v) = elsewhere m e x.of v (λ at. subst (λ j. is_empty (marks_of m n j ss) ≡ true) x.of (new m x at))

    Fine : ℕ → ℕ → Type 0
    Fine m e = (not (is_unmarked (marks_of m n e ss)) || is_aborted_by (heard ++ es) e) ≡ true

    fine : (m e : ℕ) → is_unmarked (marks_of m n e ss) ≡ false → Fine m e
    fine m e k = or_left (not (is_unmarked (marks_of m n e ss))) (is_aborted_by (heard ++ es) e) (not_false (is_unmarked (marks_of m n e ss)) k)

    acked : (m e : ℕ) → said_ack (gs ++ replied e0 r) h e ≡ true → said_yes (gs ++ replied e0 r) h e ≡ true → Whose m e → Fine m e
    acked m e a y w = by (says_more is_acking (has (is_ack e) h) e gs e0 r a) (says_more is_yes (has (is_vote_yes e) h) e gs e0 r y) w
      where
        kept_same : (marks_of m n e ss ≡ marks_of m n e old) → (not (is_unmarked (marks_of m n e old)) || is_aborted_by heard e) ≡ true → Fine m e
        kept_same v k = subst (λ l. (not (is_unmarked l) || is_aborted_by (heard ++ es) e) ≡ true) (sym v)
            (or_more (not (is_unmarked (marks_of m n e old))) (is_aborted_by heard e) (not (is_unmarked (marks_of m n e old))) (is_aborted_by (heard ++ es) e) (λ p. p) (more_first heard es (is_told_so Aborted e)) k)

        -- it acknowledged before: it was told of the commit, so it begins nothing now
        before : (m : ℕ) → place e0 ≡ At m → has (is_told_so Committed e0.value) heard ≡ true → (not (is_unmarked (marks_of m n e0.value old)) || is_aborted_by heard e0.value) ≡ true → Fine m e0.value
        before m at told k =
            or_case (not (is_unmarked (marks_of m n e0.value old))) (is_aborted_by heard e0.value)
            (λ p. fine m e0.value (unmarked_on note (marks_of m n e0.value old) (marks_of m n e0.value ss) (own m at).turned (begins_none_told m at told) (Rattle.dtx_model.proofs.Bools.not_true (is_unmarked (marks_of m n e0.value old)) p)))
            (λ p. or_right (not (is_unmarked (marks_of m n e0.value ss))) (is_aborted_by (heard ++ es) e0.value) (more_first heard es (is_told_so Aborted e0.value) p)) k

        -- it votes yes now, though it acknowledged before: that can't be, since it is asked no more
        votes_late : IsReply is_yes e e0 r → said_ack gs h e ≡ true → ⊥
        votes_late x k =
            let is : r ≡ Some (VoteReply Yes) = x.is ∙ ap (λ q. Some q) (yes_is x.reply x.passes) in
            let note_is : note ≡ Prepare = vote_answers Yes note (fit_of r (VoteReply Yes) note c.hears.fitting is) in
            not_both (has (is_told_so Committed e0.value) heard) (subst (λ j. has (is_told_so Committed j) heard ≡ true) (sym x.of) (c.tied.acks e k)) (c.comes.new_asked note_is).1

        -- it acknowledges now, and voted yes before
        acks_now : IsReply is_acking e e0 r → said_yes gs h e ≡ true → place e0 ≡ At m → Fine m e0.value
        acks_now x k at =
            let is : r ≡ Some Ack = x.is ∙ ap (λ q. Some q) (ack_is x.reply x.passes) in
            kept (c.tied.kept e0 m at (subst (λ j. said_yes gs h j ≡ true) (sym x.of) k)) is
          where
            kept : keeps e0 ⊎ (is_aborted_by heard e0.value ≡ true) → r ≡ Some Ack → Fine m e0.value
            kept (inl q) is = fine m e0.value (c.hears.acked is q m at ss there)
            kept (inr q) is = or_right (not (is_unmarked (marks_of m n e0.value ss))) (is_aborted_by (heard ++ es) e0.value) (more_first heard es (is_told_so Aborted e0.value) q)

        both_now : IsReply is_acking e e0 r → IsReply is_yes e e0 r → ⊥
        both_now x z = no (sym (ack_is x.reply x.passes) ∙ (some x.reply z.reply (sym x.is ∙ z.is) ∙ yes_is z.reply z.passes))
          where
            some : (p q : Reply) → Some p ≡ Some q → p ≡ q
            some p q k = cc

            no : Ack ≡ VoteReply Yes → ⊥
            no k = absurd cc

        -- what is as it was, of the one that hears, isn't held unless it is heard there
        outside : e0.value ≡ e → marks_of m n e ss ≡ marks_of m n e old → (place e0 ≡ At m → Fine m e) → Fine m e
        outside q v here = which (empty_or (marks_of m n e ss))
          where
            which : (is_empty (marks_of m n e ss) ≡ true) ⊎ (is_empty (marks_of m n e ss) ≡ false) → Fine m e
            which (inl k) = fine m e (none_unmarked (marks_of m n e ss) k)
            which (inr k) = here (old_at m e (subst (λ l. is_empty l ≡ false) v k) q)

        by : ((said_ack gs h e ≡ true) ⊎ IsReply is_acking e e0 r) → ((said_yes gs h e ≡ true) ⊎ IsReply is_yes e e0 r) → Whose m e → Fine m e
        by (inl p) (inl q) (inr v) = kept_same v (so.acked m e p q)
        by (inl p) (inl q) (inl v) =
            subst (λ j. Fine m j) v.1
            (before m v.0 (subst (λ j. has (is_told_so Committed j) heard ≡ true) (sym v.1) (c.tied.acks e p)) (subst (λ j. (not (is_unmarked (marks_of m n j old)) || is_aborted_by heard j) ≡ true) (sym v.1) (so.acked m e p q)))
        by (inl p) (inr x) v = absurd (votes_late x p)
        by (inr x) (inr z) v = absurd (both_now x z)
        by (inr x) (inl q) (inl v) = subst (λ j. Fine m j) v.1 (acks_now x q v.0)
        by (inr x) (inl q) (inr v) = outside x.of v (λ at. subst (λ j. Fine m j) x.of (acks_now x q at))

pub tied_heard : (n : ℕ) (place : EnlNo → Place) (keeps keeps_now : EnlNo → Type 0) (leaves leaves_now : List Site → Type 0) (gs : List Given) (h heard es : List Entry) (e0 : EnlNo) (note : Note) (r : Option Reply)
    → Hearing n place keeps keeps_now leaves leaves_now gs h heard es e0 note r → IsTied n place keeps_now leaves_now (gs ++ replied e0 r) h (heard ++ es)
tied_heard n place keeps keeps_now leaves leaves_now gs h heard es e0 note r c = record {
  votes = λ e s. votes e (says_more is_any_vote (has (is_vote e) h) e gs e0 r s);
  acks = λ e s. acks e (says_more is_acking (has (is_ack e) h) e gs e0 r s);
  placed = λ e s. placed e (says_more is_yes (has (is_vote_yes e.value) h) e.value gs e0 r s);
  kept = λ e m at s. kept e m at (says_more is_yes (has (is_vote_yes e.value) h) e.value gs e0 r s);
  left = λ ss there. let was = c.hears.turns ss there in left_now n place keeps keeps_now leaves leaves_now gs h heard es e0 note r c ss was.0 there was.1 was.2;
}
  where
    votes : (e : ℕ) → ((said_vote gs h e ≡ true) ⊎ IsReply is_any_vote e e0 r) → has (is_asked e) (heard ++ es) ≡ true
    votes e (inl k) = more_first heard es (is_asked e) (c.tied.votes e k)
    votes e (inr x) =
        let v = vote_is x.reply x.passes in
        let note_is : note ≡ Prepare = vote_answers v.0 note (fit_of r (VoteReply v.0) note c.hears.fitting (x.is ∙ ap (λ q. Some q) v.1)) in
        subst (λ j. has (is_asked j) (heard ++ es) ≡ true) x.of (more_last heard es (is_asked e0.value) (c.comes.asked note_is))

    acks : (e : ℕ) → ((said_ack gs h e ≡ true) ⊎ IsReply is_acking e e0 r) → has (is_told_so Committed e) (heard ++ es) ≡ true
    acks e (inl k) = more_first heard es (is_told_so Committed e) (c.tied.acks e k)
    acks e (inr x) =
        let note_is : note ≡ Commit = ack_answers note (fit_of r Ack note c.hears.fitting (x.is ∙ ap (λ q. Some q) (ack_is x.reply x.passes))) in
        subst (λ j. has (is_told_so Committed j) (heard ++ es) ≡ true) x.of (more_last heard es (is_told_so Committed e0.value) (c.comes.committed note_is))

    yes_now : (e : EnlNo) → IsReply is_yes e.value e0 r → r ≡ Some (VoteReply Yes)
    yes_now e x = x.is ∙ ap (λ q. Some q) (yes_is x.reply x.passes)

    placed : (e : EnlNo) → ((said_yes gs h e.value ≡ true) ⊎ IsReply is_yes e.value e0 r) → place e ≡ Nowhere → ⊥
    placed e (inl k) at = c.tied.placed e k at
    placed e (inr x) at = c.hears.somewhere (yes_now e x) (subst (λ f. place f ≡ Nowhere) (sym (same_enlistment e0 e x.of)) at)

    kept : (e : EnlNo) (m : ℕ) → place e ≡ At m → ((said_yes gs h e.value ≡ true) ⊎ IsReply is_yes e.value e0 r) → keeps_now e ⊎ (is_aborted_by (heard ++ es) e.value ≡ true)
    kept e m at (inr x) =
        let same = same_enlistment e0 e x.of in
        inl (subst (λ f. keeps_now f) same (c.hears.yes (yes_now e x) m (subst (λ f. place f ≡ At m) (sym same) at)))
    kept e m at (inl k) = by (c.tied.kept e m at k)
      where
        after : keeps_now e ⊎ ((e ≡ e0) × (note ≡ Rollback)) → keeps_now e ⊎ (is_aborted_by (heard ++ es) e.value ≡ true)
        after (inl p) = inl p
        after (inr p) = inr (more_last heard es (is_told_so Aborted e.value) (subst (λ f. has (is_told_so Aborted f.value) es ≡ true) (sym p.0) (c.comes.aborted p.1)))

        by : keeps e ⊎ (is_aborted_by heard e.value ≡ true) → keeps_now e ⊎ (is_aborted_by (heard ++ es) e.value ≡ true)
        by (inl p) = after (c.hears.stays e p)
        by (inr p) = inr (more_first heard es (is_told_so Aborted e.value) p)
