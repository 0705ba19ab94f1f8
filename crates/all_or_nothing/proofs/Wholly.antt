-- A transaction that is tied to what is held of it is whole.
use Rattle.std.proofs.Common.{◌≡◌, ◌⊎◌, inl, inr, ℕ, Bool, true, false, not, ◌&&◌, ◌||◌, ◌==◌, List, [], ◌∷◌, Option, Some, None, refl, subst, sym, ◌∙◌}
use Rattle.std.specs.Option.{option_map}
use Rattle.std.proofs.lemmas.Bool.{eqb-true, or_left}
use Rattle.coordinator_core.specs.Acting.{record_for}
use Rattle.dtx_values.specs.declared.entry.Entry.{Entry}
use Rattle.dtx_values.specs.declared.entry.Entry.TheVariants.{Voted}
use Rattle.dtx_values.specs.declared.number.EnlNo.{EnlNo}
use Rattle.dtx_values.specs.declared.words.Outcome.TheVariants.{Aborted, Committed}
use Rattle.dtx_values.specs.declared.words.Vote.TheVariants.{Done, No, Yes}
use Rattle.dtx_model.proofs.Bools.{and_both, and_left, and_right, not_both, or_case, or_right}
use Rattle.dtx_model.specs.Entries.{is_any_hand, is_asked, is_good_vote, is_hand}
use Rattle.dtx_model.specs.Outcome.{is_empty}
use Rattle.dtx_model.specs.Tied.{has_mark, before_first_stop, can_log, is_logged}
use Rattle.dtx_model.specs.Words.{each, has}
use Rattle.dtx_model.specs.World.{World, core}
use Rattle.history_table.proofs.Handed.{hand_name}
use Rattle.record_laws.specs.Recorded.{IsOf, RecordsVotes, TellsByRecord, is_ack, is_free_tried, is_record_tried, is_told_so, is_vote_yes}
use Rattle.recovery_laws.specs.Whole.{Site, are_all_named, has_marked, has_unmarked, is_held, is_whole_by}
use Rattle.all_or_nothing.specs.Marks.{At, Nowhere, Passing, Place, is_unmarked, marks_of}
use Rattle.all_or_nothing.specs.Tying.{IsLeftSo, IsTied, is_aborted_by, is_vote_done, said_yes}
use Rattle.all_or_nothing.proofs.Marking.{Marked, all_held, all_named, held_if, if_held, is_some_held, marked_some, none_both, only_false, only_true, unmarked_held}

-- What is known of a transaction: what its history says of the record, where its objects hear its enlistments, and what they keep is left.
pub record Knows (t : ℕ) (w : World) (place : EnlNo → Place) (keeps : EnlNo → Type 0) (leaves : List Site → Type 0) (n : ℕ) (heard : List Entry) : Type 0 where
  pub votes : RecordsVotes t w
  pub tells : TellsByRecord w
  pub within : (p : Entry → Bool) → has p heard ≡ true → has p w.past ≡ true
  pub routes : (e : EnlNo) (m : ℕ) → place e ≡ At m → IsOf w m e.value
  pub passes : (e : EnlNo) (m : ℕ) → place e ≡ Passing → IsOf w m e.value → ⊥
  pub held : (e : EnlNo) (m : ℕ) → keeps e → place e ≡ At m → (ss : List Site) → leaves ss → is_empty (marks_of m n e.value ss) ≡ false

-- who voted has a name
vote_name : (e : ℕ) (h : List Entry) → has (is_vote_yes e) h ≡ true → (f : EnlNo) × (f.value ≡ e)
vote_name e [] k = absurd cc
vote_name e (x ∷ h) k = or_case (is_vote_yes e x) (has (is_vote_yes e) h) (here e x) (λ p. vote_name e h p) k
  where
    here : (e : ℕ) (x : Entry) → is_vote_yes e x ≡ true → (f : EnlNo) × (f.value ≡ e)
    here e (Voted f Yes) p = (f, sym (eqb-true e f.value p))
    here e (Voted f No) p = absurd cc
    here e (Voted f Done) p = absurd cc
    here e _ p = absurd cc

-- a good vote is yes or done
good_split : (e : ℕ) (h : List Entry) → has (is_good_vote e) h ≡ true → (has (is_vote_yes e) h || has (is_vote_done e) h) ≡ true
good_split e [] k = absurd cc
good_split e (x ∷ h) k = or_case (is_good_vote e x) (has (is_good_vote e) h) (λ p. first (is_vote_yes e x) (is_vote_done e x) (has (is_vote_yes e) h) (has (is_vote_done e) h) (here e x p)) (λ p. rest (is_vote_yes e x) (is_vote_done e x) (has (is_vote_yes e) h) (has (is_vote_done e) h) (good_split e h p)) k
  where
    here : (e : ℕ) (x : Entry) → is_good_vote e x ≡ true → (is_vote_yes e x || is_vote_done e x) ≡ true
    here e (Voted f Yes) p = or_left (e == f.value) false (and_left (e == f.value) true p)
    here e (Voted f Done) p = and_left (e == f.value) true p
    here e (Voted f No) p = absurd (no (e == f.value) p)
      where
        no : (b : Bool) → (b && false) ≡ true → ⊥
        no true q = absurd cc
        no false q = absurd cc
    here e _ p = absurd cc

    first : (a b c d : Bool) → (a || b) ≡ true → ((a || c) || (b || d)) ≡ true
    first true b c d p = refl
    first false true true d p = refl
    first false true false d p = refl
    first false false c d p = absurd cc

    rest : (a b c d : Bool) → (c || d) ≡ true → ((a || c) || (b || d)) ≡ true
    rest true b c d p = refl
    rest false b true d p = refl
    rest false true false d p = refl
    rest false false false d p = p

-- the same enlistment is of one manager
one_manager : (o : Option ℕ) (m k : ℕ) → o ≡ Some m → o ≡ Some k → m ≡ k
one_manager (Some x) m k p q = cc
one_manager None m k p q = absurd cc

-- ---- by the record

-- one that voted yes is held at its manager's resource, where nobody is told to abort
yes_held : (t n : ℕ) (w : World) (place : EnlNo → Place) (keeps : EnlNo → Type 0) (leaves : List Site → Type 0) (heard : List Entry) (ss : List Site) → Knows t w place keeps leaves n heard
    → IsTied n place keeps leaves [] w.past heard → leaves ss → is_record_tried w.past ≡ true → (m e : ℕ) → IsOf w m e → has (is_vote_yes e) w.past ≡ true → is_some_held (marks_of m n e ss) ≡ true
yes_held t n w place keeps leaves heard ss k tied left tried m e of voted =
    let name = vote_name e w.past voted in
    let f = name.0 in
    let of_f : IsOf w m f.value = subst (λ j. IsOf w m j) (sym name.1) of in
    let said : said_yes [] w.past f.value ≡ true = subst (λ j. said_yes [] w.past j ≡ true) (sym name.1) (or_left (has (is_vote_yes e) w.past) false voted) in
    subst (λ j. is_some_held (marks_of m n j ss) ≡ true) name.1 (by f of_f said (place f) refl)
  where
    by : (f : EnlNo) → IsOf w m f.value → said_yes [] w.past f.value ≡ true → (p : Place) → place f ≡ p → is_some_held (marks_of m n f.value ss) ≡ true
    by f of said Nowhere at = absurd (tied.placed f said at)
    by f of said Passing at = absurd (k.passes f m at of)
    by f of said (At j) at = there (tied.kept f j at said)
      where
        same : j ≡ m
        same = one_manager (option_map (λ r. r.value) (Rattle.dtx_model.specs.Plans.manager_of w.calls f.value)) j m (k.routes f j at) of

        there : keeps f ⊎ (is_aborted_by heard f.value ≡ true) → is_some_held (marks_of m n f.value ss) ≡ true
        there (inl kept) = subst (λ i. is_some_held (marks_of i n f.value ss) ≡ true) same (if_held (marks_of j n f.value ss) (k.held f j kept at ss left))
        there (inr told) = absurd (not_both (has (is_told_so Aborted f.value) w.past) (k.within (is_told_so Aborted f.value) told) (k.votes.unaborted tried f.value))

-- what is held once a record was tried is of one that voted yes
held_yes : (t n : ℕ) (w : World) (place : EnlNo → Place) (keeps : EnlNo → Type 0) (leaves : List Site → Type 0) (heard : List Entry) (ss : List Site) → Knows t w place keeps leaves n heard
    → IsTied n place keeps leaves [] w.past heard → leaves ss → is_record_tried w.past ≡ true → (m e : ℕ) → is_some_held (marks_of m n e ss) ≡ true
    → IsOf w m e × (has (is_vote_yes e) w.past ≡ true)
held_yes t n w place keeps leaves heard ss k tied left tried m e some =
    let so = tied.left ss left in
    let at = so.routed m e (held_if (marks_of m n e ss) some) in
    let of : IsOf w m e = subst (λ j. IsOf w m j) at.1 (k.routes at.0 m at.2) in
    (of, asked so of (or_case (has (is_asked e) heard) (has (is_hand e) heard) (λ p. p) (λ p. absurd (handed p)) at.3))
  where
    any : (x : Entry) → is_hand e x ≡ true → is_any_hand x ≡ true
    any x p = Rattle.history_table.proofs.Handed.hand_any e x p

    handed : has (is_hand e) heard ≡ true → ⊥
    handed p =
        not_both (has is_any_hand w.past) (Rattle.history_table.proofs.Scans.has_more (is_hand e) is_any_hand any w.past (k.within (is_hand e) p)) (k.votes.unhanded tried)

    asked : IsLeftSo n place [] w.past heard ss → IsOf w m e → has (is_asked e) heard ≡ true → has (is_vote_yes e) w.past ≡ true
    asked so of p =
        or_case (has (is_vote_yes e) w.past) (has (is_vote_done e) w.past) (λ y. y)
        (λ d. absurd (not_both (is_empty (marks_of m n e ss)) (so.done m e (or_left (has (is_vote_done e) w.past) false d)) (held_if (marks_of m n e ss) some)))
        (good_split e w.past (k.votes.voted tried m e of (k.within (is_asked e) p)))

pub whole_by_record : (t n : ℕ) (w : World) (place : EnlNo → Place) (keeps : EnlNo → Type 0) (leaves : List Site → Type 0) (heard : List Entry) (ss : List Site) → Knows t w place keeps leaves n heard
    → IsTied n place keeps leaves [] w.past heard → leaves ss → is_record_tried w.past ≡ true → is_whole_by (Some (record_for t (core w))) n ss ≡ true
whole_by_record t n w place keeps leaves heard ss k tied left tried =
    let r = record_for t (core w) in
    and_both (each (is_held n ss) r.enlistments) (are_all_named n r ss)
    (all_held n ss r.enlistments (λ m e named. let of = k.votes.named tried m e named in yes_held t n w place keeps leaves heard ss k tied left tried m e of.0 of.1))
    (all_named n r ss (λ m e some. let of = held_yes t n w place keeps leaves heard ss k tied left tried m e some in k.votes.names tried m e of.0 of.1))

-- ---- without one

-- two that are held are the same, where one was handed the commit
alone : (t n : ℕ) (w : World) (place : EnlNo → Place) (keeps : EnlNo → Type 0) (leaves : List Site → Type 0) (heard : List Entry) (ss : List Site) → Knows t w place keeps leaves n heard
    → IsTied n place keeps leaves [] w.past heard → leaves ss → (e : ℕ) → has (is_hand e) w.past ≡ true → (m f : ℕ) → is_some_held (marks_of m n f ss) ≡ true → f ≡ e
alone t n w place keeps leaves heard ss k tied left e hand m f some =
    let at = (tied.left ss left).routed m f (held_if (marks_of m n f ss) some) in
    let of : IsOf w m f = subst (λ j. IsOf w m j) at.1 (k.routes at.0 m at.2) in
    let only = k.tells.alone e m f hand of in
    or_case (has (is_asked f) heard) (has (is_hand f) heard) (λ p. absurd (not_both (has (is_asked f) w.past) (k.within (is_asked f) p) only.0)) (λ p. only.1 (k.within (is_hand f) p)) at.3

-- and then they are held at one resource
one_place : (t n : ℕ) (w : World) (place : EnlNo → Place) (keeps : EnlNo → Type 0) (leaves : List Site → Type 0) (heard : List Entry) (ss : List Site) → Knows t w place keeps leaves n heard
    → IsTied n place keeps leaves [] w.past heard → leaves ss → (m e k f : ℕ) → f ≡ e → is_some_held (marks_of m n e ss) ≡ true → is_some_held (marks_of k n f ss) ≡ true → k ≡ m
one_place t n w place keeps leaves heard ss knows tied left m e k f same first second =
    let a = (tied.left ss left).routed m e (held_if (marks_of m n e ss) first) in
    let b = (tied.left ss left).routed k f (held_if (marks_of k n f ss) second) in
    let of_a : IsOf w m e = subst (λ j. IsOf w m j) a.1 (knows.routes a.0 m a.2) in
    let of_b : IsOf w k e = subst (λ j. IsOf w k j) (b.1 ∙ same) (knows.routes b.0 k b.2) in
    one_manager (option_map (λ r. r.value) (Rattle.dtx_model.specs.Plans.manager_of w.calls e)) k m of_b of_a

apart : (l : List Bool) → l ≡ true ∷ [] → is_unmarked l ≡ true → ⊥
apart l e u = no (subst (λ k. is_unmarked k ≡ true) e u)
  where
    no : is_unmarked (true ∷ []) ≡ true → ⊥
    no p = absurd cc

-- Of a transaction that has no record, and, if it was logged, whose record was freed or may have been, nothing is marked while something else isn't.
pub whole_without : (t n : ℕ) (w : World) (place : EnlNo → Place) (keeps : EnlNo → Type 0) (leaves : List Site → Type 0) (heard : List Entry) (ss : List Site) → Knows t w place keeps leaves n heard
    → IsTied n place keeps leaves [] w.past heard → leaves ss → (has is_logged w.past ≡ true → is_free_tried w.past ≡ true) → is_whole_by None n ss ≡ true
whole_without t n w place keeps leaves heard ss k tied left gone =
    none_both (has_marked n ss) (has_unmarked n ss) (λ a b. both (marked_some (λ c. c) n ss a) (marked_some (λ c. not c) n ss b))
  where
    so : IsLeftSo n place [] w.past heard ss
    so = tied.left ss left

    -- the same enlistment at the same resource isn't both
    same : (m e j f : ℕ) → f ≡ e → marks_of m n e ss ≡ true ∷ [] → is_unmarked (marks_of j n f ss) ≡ true → ⊥
    same m e j f q a b =
        let there : j ≡ m = one_place t n w place keeps leaves heard ss k tied left m e j f q (subst (λ l. is_some_held l ≡ true) (sym a) refl) (unmarked_held (marks_of j n f ss) b) in
        apart (marks_of m n e ss) a (subst (λ i. is_unmarked (marks_of i n e ss) ≡ true) there (subst (λ i. is_unmarked (marks_of j n i ss) ≡ true) q b))

    handed : (m e j f g : ℕ) → has (is_hand g) w.past ≡ true → marks_of m n e ss ≡ true ∷ [] → is_unmarked (marks_of j n f ss) ≡ true → ⊥
    handed m e j f g hand a b =
        let first : e ≡ g = alone t n w place keeps leaves heard ss k tied left g hand m e (subst (λ l. is_some_held l ≡ true) (sym a) refl) in
        let second : f ≡ g = alone t n w place keeps leaves heard ss k tied left g hand j f (unmarked_held (marks_of j n f ss) b) in
        same m e j f (second ∙ sym first) a b

    freed : (j f : ℕ) → has is_logged w.past ≡ true → is_unmarked (marks_of j n f ss) ≡ true → ⊥
    freed j f logged b =
        let tried : is_record_tried w.past ≡ true = or_left (has is_logged w.past || has_mark w.past) (can_log (before_first_stop w.past)) (or_left (has is_logged w.past) (has_mark w.past) logged) in
        let was = held_yes t n w place keeps leaves heard ss k tied left tried j f (unmarked_held (marks_of j n f ss) b) in
        let ack = k.tells.freed (gone logged) j f was.0 was.1 in
        or_case (not (is_unmarked (marks_of j n f ss))) (is_aborted_by heard f) (λ p. not_both (is_unmarked (marks_of j n f ss)) b (Rattle.dtx_model.proofs.Bools.not_true (is_unmarked (marks_of j n f ss)) p))
        (λ p. not_both (has (is_told_so Aborted f) w.past) (k.within (is_told_so Aborted f) p) (k.votes.unaborted tried f))
        (so.acked j f (or_left (has (is_ack f) w.past) false ack) (or_left (has (is_vote_yes f) w.past) false was.1))

    both : Marked (λ c. c) n ss → Marked (λ c. not c) n ss → ⊥
    both a b =
        let l : marks_of a.manager n a.enlistment ss ≡ true ∷ [] = only_true (marks_of a.manager n a.enlistment ss) (so.single a.manager a.enlistment) a.passes in
        let u : is_unmarked (marks_of b.manager n b.enlistment ss) ≡ true = only_false (marks_of b.manager n b.enlistment ss) (so.single b.manager b.enlistment) b.passes in
        let at = so.routed a.manager a.enlistment (held_if (marks_of a.manager n a.enlistment ss) (subst (λ i. is_some_held i ≡ true) (sym l) refl)) in
        let of : IsOf w a.manager a.enlistment = subst (λ j. IsOf w a.manager j) at.1 (k.routes at.0 a.manager at.2) in
        or_case (has (is_hand a.enlistment) heard) (has (is_told_so Committed a.enlistment) heard)
        (λ p. handed a.manager a.enlistment b.manager b.enlistment a.enlistment (k.within (is_hand a.enlistment) p) l u)
        (λ p. or_case (has is_any_hand w.past) (has is_logged w.past) (λ h. let g = hand_name w.past h in handed a.manager a.enlistment b.manager b.enlistment g.0 g.1 l u) (λ h. freed b.manager b.enlistment h u)
        (k.tells.told a.manager a.enlistment of (k.within (is_told_so Committed a.enlistment) p)))
        (so.marked a.manager a.enlistment l)
