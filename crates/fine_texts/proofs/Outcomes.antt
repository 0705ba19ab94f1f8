-- What is just, and who agrees, doesn't depend on the identifier in the messages.
use Rattle.std.proofs.Common.{◌≡◌, ℕ, ◌==◌, ◌&&◌, ◌||◌, not, List, [], ◌∷◌, ◌++◌, map, Option, Some, None, filter, if◌then◌else◌, refl, ap, ◌∙◌}
use Rattle.dtx_values.specs.declared.entry.Entry.{Entry}
use Rattle.dtx_values.specs.declared.entry.Entry.TheVariants.{CommitAsked, RollbackAsked, TimedOut, Decided, Told, Got, Down, Lost}
use Rattle.dtx_values.specs.declared.entry.Party.{Party}
use Rattle.dtx_values.specs.declared.entry.Party.TheVariants.{Client, Enl}
use Rattle.dtx_values.specs.declared.message.Conn.{Conn}
use Rattle.dtx_values.specs.declared.message.Conn.TheVariants.{Begin, Voter, Enl as OnEnl, Again}
use Rattle.dtx_values.specs.declared.message.Dir.{Dir}
use Rattle.dtx_values.specs.declared.message.Dir.TheVariants.{Up, Down as Downward}
use Rattle.dtx_values.specs.declared.message.Message.{Message}
use Rattle.dtx_values.specs.declared.message.Message.TheVariants.{BeginCommitOne}
use Rattle.dtx_values.specs.declared.number.EnlNo.{EnlNo}
use Rattle.dtx_values.specs.declared.words.Class.{Class}
use Rattle.dtx_values.specs.declared.words.Outcome.{Outcome}
use Rattle.dtx_values.specs.declared.words.Outcome.TheVariants.{Committed, Aborted, InDoubt}
use Rattle.dtx_values.specs.Class.{is_volatile}
use Rattle.dtx_values.specs.Lines.{has_line}
use Rattle.dtx_model.specs.Words.{has, each, all_of}
use Rattle.dtx_model.specs.Entries.{is_commit, is_sealed, is_promoted, is_record, is_yes, is_hand, is_any_hand, handed_of, is_owner, is_any_owner, enlisted_of, clone_of, is_completed, is_vote, is_good_vote, is_commit_got, is_yes_got, is_vote_got, is_enlist_got, is_single_sent, is_any_single_sent, is_one_got, is_decision, is_final}
use Rattle.dtx_model.specs.Outcome.{agree, all_vote, by_log, by_owner, by_seal, can_own, coordinator_doubt, doubt, durables, ended_there, enlisted, evidence, hears_doubt, is_begin_end, is_deciding, is_decided_again, is_empty, is_first_veto, is_just, is_lone, is_lost_owner, is_lost_single, is_outcome_got, is_rollback, is_veto, is_veto_end, is_voter_end, justified, may_decide, may_tell, owner_committed, owner_doubt, ready, single_doubt, vetoed, volatiles, voters}
use Rattle.dtx_model.proofs.Passing.{has-map}
use Rattle.fine_texts.proofs.Filling.{filled, message_with}
use Rattle.fine_texts.proofs.Looking as look
use Rattle.fine_texts.proofs.Mapping.{all_of-map, always-map, ever-map, how_many-map}

-- the history with this identifier in its messages
abbrev with_id : ℕ → List Entry → List Entry
with_id u h = map (filled u) h

-- Whether an entry passes.
commit : (u : ℕ) (h : List Entry) → has is_commit (with_id u h) ≡ has is_commit h
commit u h = has-map is_commit (filled u) (look.commit u) h

sealed : (u : ℕ) (h : List Entry) → has is_sealed (with_id u h) ≡ has is_sealed h
sealed u h = has-map is_sealed (filled u) (look.sealed u) h

promoted : (u : ℕ) (h : List Entry) → has is_promoted (with_id u h) ≡ has is_promoted h
promoted u h = has-map is_promoted (filled u) (look.promoted u) h

recorded : (u : ℕ) (h : List Entry) → has is_record (with_id u h) ≡ has is_record h
recorded u h = has-map is_record (filled u) (look.record_is u) h

yes : (u : ℕ) (h : List Entry) → has is_yes (with_id u h) ≡ has is_yes h
yes u h = has-map is_yes (filled u) (look.yes u) h

hand : (u e : ℕ) (h : List Entry) → has (is_hand e) (with_id u h) ≡ has (is_hand e) h
hand u e h = has-map (is_hand e) (filled u) (look.hand u e) h

any_hand : (u : ℕ) (h : List Entry) → has is_any_hand (with_id u h) ≡ has is_any_hand h
any_hand u h = has-map is_any_hand (filled u) (look.any_hand u) h

owner : (u e : ℕ) (o : Outcome) (h : List Entry) → has (is_owner e o) (with_id u h) ≡ has (is_owner e o) h
owner u e o h = has-map (is_owner e o) (filled u) (look.owner u e o) h

any_owner : (u e : ℕ) (h : List Entry) → has (is_any_owner e) (with_id u h) ≡ has (is_any_owner e) h
any_owner u e h = has-map (is_any_owner e) (filled u) (look.any_owner u e) h

completed : (u n : ℕ) (h : List Entry) → has (is_completed n) (with_id u h) ≡ has (is_completed n) h
completed u n h = has-map (is_completed n) (filled u) (look.completed u n) h

vote : (u e : ℕ) (h : List Entry) → has (is_vote e) (with_id u h) ≡ has (is_vote e) h
vote u e h = has-map (is_vote e) (filled u) (look.vote u e) h

good_vote : (u e : ℕ) (h : List Entry) → has (is_good_vote e) (with_id u h) ≡ has (is_good_vote e) h
good_vote u e h = has-map (is_good_vote e) (filled u) (look.good_vote u e) h

decision : (u : ℕ) (h : List Entry) → has is_decision (with_id u h) ≡ has is_decision h
decision u h = has-map is_decision (filled u) (look.decision u) h

final : (u : ℕ) (o : Outcome) (h : List Entry) → has (is_final o) (with_id u h) ≡ has (is_final o) h
final u o h = has-map (is_final o) (filled u) (look.final u o) h

commit_got : (u : ℕ) (h : List Entry) → has is_commit_got (with_id u h) ≡ has is_commit_got h
commit_got u h = has-map is_commit_got (filled u) (look.commit_got u) h

yes_got : (u : ℕ) (h : List Entry) → has is_yes_got (with_id u h) ≡ has is_yes_got h
yes_got u h = has-map is_yes_got (filled u) (look.yes_got u) h

vote_got : (u e : ℕ) (h : List Entry) → has (is_vote_got e) (with_id u h) ≡ has (is_vote_got e) h
vote_got u e h = has-map (is_vote_got e) (filled u) (look.vote_got u e) h

one_got : (u e : ℕ) (h : List Entry) → has (is_one_got e) (with_id u h) ≡ has (is_one_got e) h
one_got u e h = has-map (is_one_got e) (filled u) (look.one_got u e) h

single_sent : (u e : ℕ) (h : List Entry) → has (is_single_sent e) (with_id u h) ≡ has (is_single_sent e) h
single_sent u e h = has-map (is_single_sent e) (filled u) (look.single_sent u e) h

any_single_sent : (u : ℕ) (h : List Entry) → has is_any_single_sent (with_id u h) ≡ has is_any_single_sent h
any_single_sent u h = has-map is_any_single_sent (filled u) (look.any_single_sent u) h

begin_end : (u : ℕ) (h : List Entry) → has is_begin_end (with_id u h) ≡ has is_begin_end h
begin_end u h = has-map is_begin_end (filled u) (look.begin_end u) h

voter_end : (u : ℕ) (h : List Entry) → has is_voter_end (with_id u h) ≡ has is_voter_end h
voter_end u h = has-map is_voter_end (filled u) (look.voter_end u) h

outcome_got : (u : ℕ) (h : List Entry) → has is_outcome_got (with_id u h) ≡ has is_outcome_got h
outcome_got u h = has-map is_outcome_got (filled u) (look.outcome_got u) h

-- What the entries give.
enlisted_there : (u : ℕ) (h : List Entry) → enlisted (with_id u h) ≡ enlisted h
enlisted_there u h = all_of-map enlisted_of (filled u) (look.enlisted_here u) h

clones : (u : ℕ) (h : List Entry) → all_of clone_of (with_id u h) ≡ all_of clone_of h
clones u h = all_of-map clone_of (filled u) (look.clone_here u) h

handed : (u : ℕ) (h : List Entry) → all_of handed_of (with_id u h) ≡ all_of handed_of h
handed u h = all_of-map handed_of (filled u) (look.handed u) h

volatiles_there : (u : ℕ) (h : List Entry) → volatiles (with_id u h) ≡ volatiles h
volatiles_there u h = ap (λ (xs : List (EnlNo × Class)). filter (λ x. is_volatile x.1) xs) (enlisted_there u h)

durables_there : (u : ℕ) (h : List Entry) → durables (with_id u h) ≡ durables h
durables_there u h = ap (λ (xs : List (EnlNo × Class)). filter (λ x. not (is_volatile x.1)) xs) (enlisted_there u h)

lone : (u : ℕ) (h : List Entry) → is_lone (with_id u h) ≡ is_lone h
lone u h = ap (λ (n : ℕ). n == 1) (how_many-map is_enlist_got (filled u) (look.enlist_got u) h)

-- Evidence.
all_voting : (u : ℕ) (h : List Entry) → all_vote (with_id u h) ≡ all_vote h
all_voting u h = λ j. promoted u h j && not (any_single_sent u h j)

voters_there : (u : ℕ) (h : List Entry) → voters (with_id u h) ≡ voters h
voters_there u h = λ j. if all_voting u h j then volatiles_there u h j ++ durables_there u h j else volatiles_there u h j

ready_there : (u : ℕ) (h : List Entry) → ready (with_id u h) ≡ ready h
unfolding ready
ready_there u h = λ j. commit u h j && each (λ c. completed u c.0.value h j) (clones u h j) && each (λ x. good_vote u x.0.value h j) (voters_there u h j)

by_seal_there : (u : ℕ) (h : List Entry) → by_seal (with_id u h) ≡ by_seal h
unfolding by_seal
by_seal_there u h = λ j. sealed u h j && not (promoted u h j) && is_empty (durables_there u h j)

decides : (u : ℕ) (h : List Entry) (e : ℕ) → may_decide (with_id u h) e ≡ may_decide h e
decides u h e = λ j. not (promoted u h j) || single_sent u e h j

owner_there : (u : ℕ) (h : List Entry) (ds : List (EnlNo × Class)) → owner_committed (with_id u h) ds ≡ owner_committed h ds
owner_there u h [] = refl
owner_there u h (x ∷ xs) = λ j.
    each (λ y. x.0.value == y.0.value) xs && has (λ y. can_own y.1) (x ∷ xs) && decides u h x.0.value j && hand u x.0.value h j && owner u x.0.value Committed h j

by_owner_there : (u : ℕ) (h : List Entry) → by_owner (with_id u h) ≡ by_owner h
unfolding by_owner
by_owner_there u h = owner_there u h (durables (with_id u h)) ∙ ap (owner_committed h) (durables_there u h)

by_log_there : (u : ℕ) (h : List Entry) → by_log (with_id u h) ≡ by_log h
unfolding by_log
by_log_there u h = λ j. promoted u h j && recorded u h j

evidence_there : (u : ℕ) (h : List Entry) → evidence (with_id u h) ≡ evidence h
unfolding evidence
evidence_there u h = λ j. ready_there u h j && (by_seal_there u h j || by_owner_there u h j || by_log_there u h j)

-- A veto: by what came before it, and by itself.
veto_end : (u : ℕ) (h : List Entry) (c : Conn) (d : Dir) → is_veto_end (with_id u h) c d ≡ is_veto_end h c d
veto_end u h Begin Downward = λ j. not (yes u h j)
veto_end u h Voter Downward = λ j. not (yes u h j)
veto_end u h (OnEnl e) Downward = λ j. not (yes u h j) && not (vote u e.value h j)
veto_end u h Begin Up = λ j. not (commit_got u h j)
veto_end u h Voter Up = λ j. not (yes_got u h j)
veto_end u h (OnEnl e) Up = λ j. not (vote_got u e.value h j) && not (single_sent u e.value h j)
veto_end u h (Again e) d = refl

veto_got : (u : ℕ) (h : List Entry) (c : Conn) (d : Dir) (m : Message) → is_veto (with_id u h) (Got c d m) ≡ is_veto h (Got c d m)
veto_got u h Begin Up BeginCommitOne = λ j. not (lone u h j) && veto_end u h Begin Up j
veto_got u h Begin Up m = λ j. not (has_line Begin Up m) && veto_end u h Begin Up j
veto_got u h c d m = λ j. not (has_line c d m) && veto_end u h c d j

veto_past : (u : ℕ) (h : List Entry) (x : Entry) → is_veto (with_id u h) x ≡ is_veto h x
veto_past u h RollbackAsked = λ j. not (yes u h j) && not (any_hand u h j)
veto_past u h TimedOut = λ j. not (yes u h j) && not (any_hand u h j)
veto_past u h CommitAsked = λ j. has (λ c. is_rollback c.1 && not (completed u c.0.value h j)) (clones u h j)
veto_past u h (Lost e) = λ j. not (vote u e.value h j) && not (hand u e.value h j)
veto_past u h (Down c d) = veto_end u h c d
veto_past u h (Got c d m) = veto_got u h c d m
veto_past u h x = refl

veto_itself : (u : ℕ) (h : List Entry) (x : Entry) → is_veto h (filled u x) ≡ is_veto h x
veto_itself u h x = look.looks (is_veto h) u (λ c d m. refl) got x
  where
    got : (c : Conn) (d : Dir) (m : Message) → is_veto h (Got c d (message_with u c m)) ≡ is_veto h (Got c d m)
    got Begin Up m = look.reads (λ n. is_veto h (Got Begin Up n)) u Begin (λ v. refl) (λ v. refl) (λ i. refl) (λ i. refl) m
    got c d m = ap (λ b. not b && is_veto_end h c d) (look.lined u c d m)

first_veto : (u : ℕ) (h : List Entry) (x : Entry) → is_first_veto (with_id u h) (filled u x) ≡ is_first_veto h x
first_veto u h x =
    let veto : is_veto (with_id u h) (filled u x) ≡ is_veto h x = veto_past u h (filled u x) ∙ veto_itself u h x in
    λ j. veto j && not (evidence_there u h j)

vetoed_there : (u : ℕ) (h : List Entry) → vetoed (with_id u h) ≡ vetoed h
unfolding vetoed
vetoed_there u h = ever-map is_first_veto (filled u) (first_veto u) h

-- Doubt.
lost_owner : (u : ℕ) (h : List Entry) (x : Entry) → is_lost_owner (with_id u h) (filled u x) ≡ is_lost_owner h x
lost_owner u h x = past (filled u x) ∙ look.looks (is_lost_owner h) u (λ c d m. refl) (λ c d m. refl) x
  where
    past : (y : Entry) → is_lost_owner (with_id u h) y ≡ is_lost_owner h y
    past (Lost e) = λ j. hand u e.value h j && not (any_owner u e.value h j)
    past y = refl

owner_doubted : (u : ℕ) (h : List Entry) → owner_doubt (with_id u h) ≡ owner_doubt h
unfolding owner_doubt
owner_doubted u h =
    let lost = ever-map is_lost_owner (filled u) (lost_owner u) h in
    λ j. has (λ e. owner u e.value InDoubt h j) (handed u h j) || lost j

coordinator_doubted : (u : ℕ) (h : List Entry) → coordinator_doubt (with_id u h) ≡ coordinator_doubt h
unfolding coordinator_doubt
coordinator_doubted u h = λ j. yes u h j && begin_end u h j && voter_end u h j && not (outcome_got u h j)

deciding : (u : ℕ) (h : List Entry) (o : Option EnlNo) → is_deciding (with_id u h) o ≡ is_deciding h o
deciding u h (Some e) = λ j. single_sent u e.value h j && not (one_got u e.value h j)
deciding u h None = refl

lost_single : (u : ℕ) (h : List Entry) (x : Entry) → is_lost_single (with_id u h) (filled u x) ≡ is_lost_single h x
lost_single u h x = deciding u h (ended_there (filled u x)) ∙ ap (is_deciding h) (look.end_there u x)

single_doubted : (u : ℕ) (h : List Entry) → single_doubt (with_id u h) ≡ single_doubt h
unfolding single_doubt
single_doubted u h = ever-map is_lost_single (filled u) (lost_single u) h

doubted : (u : ℕ) (h : List Entry) → doubt (with_id u h) ≡ doubt h
unfolding doubt
doubted u h = λ j. owner_doubted u h j || coordinator_doubted u h j || single_doubted u h j

hearing : (u : ℕ) (h : List Entry) (p : Party) → hears_doubt (with_id u h) p ≡ hears_doubt h p
hearing u h Client = refl
hearing u h (Enl e) = ap (λ (xs : List (EnlNo × Class)). has (λ x. e.value == x.0.value) xs) (volatiles_there u h)

-- What may be told.
tells : (u : ℕ) (h : List Entry) (p : Party) (o : Outcome) → may_tell (with_id u h) p o ≡ may_tell h p o
unfolding may_tell
tells u h p Committed = evidence_there u h
tells u h p Aborted = λ j. vetoed_there u h j && not (evidence_there u h j)
tells u h p InDoubt = λ j. hearing u h p j && doubted u h j

just : (u : ℕ) (h : List Entry) (x : Entry) → is_just (with_id u h) (filled u x) ≡ is_just h x
just u h x = past (filled u x) ∙ look.looks (is_just h) u (λ c d m. refl) (λ c d m. refl) x
  where
    past : (y : Entry) → is_just (with_id u h) y ≡ is_just h y
    past (Told p o) = tells u h p o
    past (Decided o) = tells u h Client o
    past y = refl

pub justified_there : (u : ℕ) (h : List Entry) → justified (with_id u h) ≡ justified h
unfolding justified
justified_there u h = always-map is_just (filled u) (just u) h

-- Who agrees.
decided_again : (u : ℕ) (h : List Entry) (x : Entry) → is_decided_again (with_id u h) (filled u x) ≡ is_decided_again h x
decided_again u h x = λ j. look.decision u x j && decision u h j

pub agree_there : (u : ℕ) (h : List Entry) → agree (with_id u h) ≡ agree h
unfolding agree
agree_there u h =
    let again = ever-map is_decided_again (filled u) (decided_again u) h in
    λ j. not (final u Committed h j && final u Aborted h j) && not (again j)
