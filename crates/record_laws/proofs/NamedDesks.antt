-- Where a record was appended, or may have been, and no restart came, each that voted yes and came to the coordinator has a desk there that said PREPARED; and each desk that said PREPARED is one
-- that voted yes. So the record names those.
use Rattle.std.proofs.Common.{ℕ, Bool, true, false, ◌≡◌, ◌==◌, ◌&&◌, ◌||◌, List, [], ◌∷◌, ◌∙◌, ap, refl, subst, sym, ◌⊎◌, inl, inr, Option, Some, None}
use Rattle.std.specs.Prelude.{not, if◌then◌else◌, map, filter, is_some}
use Rattle.std.specs.Option.{option_map}
use Rattle.std.proofs.lemmas.Bool.{eq-eqb, eqb-true, false_from_ne_true, or_left}
use Rattle.dtx_values.specs.RecoveryInfo.{pair_of}
use Rattle.dtx_values.specs.declared.entry.Entry.{Entry}
use Rattle.dtx_values.specs.declared.entry.Entry.TheVariants.{Got, Voted}
use Rattle.dtx_values.specs.declared.message.Conn.TheVariants.{Enl}
use Rattle.dtx_values.specs.declared.message.Dir.TheVariants.{Up}
use Rattle.dtx_values.specs.declared.message.Message.{Message}
use Rattle.dtx_values.specs.declared.message.Message.TheVariants.{EnlistNo, EnlistOneAborted, EnlistPrepared, EnlistReadonly}
use Rattle.dtx_values.specs.declared.number.EnlNo.{EnlNo}
use Rattle.dtx_values.specs.declared.number.RmNo.{RmNo}
use Rattle.dtx_values.specs.declared.words.Outcome.TheVariants.{Aborted as AbortedOutcome}
use Rattle.dtx_values.specs.declared.words.Vote.TheVariants.{Done, No, Yes}
use Rattle.dtx_values.specs.Lines.{has_line}
use Rattle.coordinator_core.specs.Acting.{record_for}
use Rattle.dtx_model.specs.declared.desk.Ballot.{Ballot}
use Rattle.dtx_model.specs.declared.desk.Ballot.TheVariants.{Prepared, ReadOnly, Refused}
use Rattle.dtx_model.specs.declared.desk.Desk.{Desk}
use Rattle.dtx_model.specs.declared.desk.Stage.{Stage}
use Rattle.dtx_model.specs.declared.desk.Stage.TheVariants.{Aborted, Active, Answered, Given, Idle, Over, Recorded, Sole, Unknown}
use Rattle.dtx_model.specs.AtLog.{is_restart}
use Rattle.dtx_model.specs.Coordinated.{Coordinated, ballot_of, coordinate, follow, has_aborted, has_voted, is_desk_of, is_prepared, is_undecided, with_ballot}
use Rattle.dtx_model.specs.Entries.{is_any_hand, is_asked, is_commit_got, is_record, is_two_phase_got, is_vote, is_vote_got}
use Rattle.dtx_model.specs.Learned.{coordinator_aborted}
use Rattle.dtx_model.specs.Plans.{manager_of}
use Rattle.dtx_model.specs.Tied.{can_log, is_prepared_got, is_ready_got}
use Rattle.dtx_model.specs.declared.waiting.EnteredCall.{EnteredCall}
use Rattle.dtx_model.specs.Words.{each, has}
use Rattle.dtx_model.proofs.Bools.{and_both, and_left, and_right, not_both, or_case, or_right}
use Rattle.history_table.proofs.CoreKnown.{IsLasting, aborted_there, desk_stays, record_seen, vote_kept}
use Rattle.history_table.proofs.CoreStages.{desks_backed, has_recorded, is_after_one, is_backed, one_if_after}
use Rattle.history_table.proofs.Crossed.{is_got_on}
use Rattle.history_table.proofs.HalfRows.{voted_once}
use Rattle.history_table.proofs.Keeping.{Keeps, before, keeps_before, newest}
use Rattle.history_table.proofs.LetDecide.{aborted_if_one, answered_handed, one_apart}
use Rattle.history_table.proofs.Managed.{desks_managed, is_enlist_by, is_managed_desk}
use Rattle.history_table.proofs.Owned.{has_filter}
use Rattle.history_table.proofs.Recording.{can_commit, can_live, can_ready, can_two_phase, can_unstopped, named}
use Rattle.history_table.proofs.Scans.{each_both, has_more}
use Rattle.history_table.proofs.Sendings.{from_got}
use Rattle.history_table.proofs.Table.{is_cast, is_enlist_got, is_one_aborted, message_row, rule}
use Rattle.history_table.proofs.Tests.{second_of_five}
use Rattle.settled_histories.proofs.Desked.{uncome}
use Rattle.settled_histories.proofs.Unheard.{calm_unmarked, can_unlogged, unmarked_unrecorded}
use Rattle.record_laws.specs.Recorded.{is_named, is_record_tried, is_vote_yes}
use Rattle.record_laws.proofs.TriedRecords.{if_tried, tried_unhanded}

-- Where an append may come, nothing is decided.
able_open : (h : List Entry) → Keeps h → can_log h ≡ true → is_undecided (coordinate h).stage ≡ true
able_open h k c =
    by (coordinate h).stage (false_from_ne_true (is_after_one (coordinate h).stage) (λ o. not_both (has is_two_phase_got h) (can_two_phase h c) (one_apart h k (one_if_after h o))))
    (false_from_ne_true (has_aborted (coordinate h).stage) (λ a. not_both (coordinator_aborted h) (aborted_there h k a) (can_live h c)))
    (false_from_ne_true (has_recorded (coordinate h).stage) (λ r. not_both (has is_record h) (record_seen h k r) (unmarked_unrecorded h (calm_unmarked h k (can_unstopped h c) (can_unlogged h c)))))
  where
    by : (s : Stage) → is_after_one s ≡ false → has_aborted s ≡ false → has_recorded s ≡ false → is_undecided s ≡ true
    by Idle o a r = refl
    by Active o a r = refl
    by Sole o a r = refl
    by Given o a r = absurd cc
    by Answered o a r = absurd cc
    by Aborted o a r = absurd cc
    by Recorded o a r = absurd cc
    by Over o a r = absurd cc
    by Unknown o a r = absurd cc

-- A desk of this enlistment that has a ballot keeps one, until a restart.
abbrev is_cast_by : ℕ → Desk → Bool
is_cast_by e d = is_desk_of e d && has_voted d

cast_lasts : (e : ℕ) → IsLasting (is_cast_by e)
cast_lasts e = record { acks = λ f d a. a; ballots = by }
  where
    by : (f : ℕ) (o : Option Ballot) (d : Desk) → is_cast_by e d ≡ true → is_cast_by e (with_ballot f o d) ≡ true
    by f None d a = a
    by f (Some b) d a = at (is_desk_of f d)
      where
        at : (c : Bool) → is_cast_by e (if c then record { enlistment = d.enlistment; manager = d.manager; ballot = Some b; acked = d.acked } else d) ≡ true
        at true = and_both (is_desk_of e d) true (and_left (is_desk_of e d) (has_voted d) a) refl
        at false = a

abbrev is_counted : ℕ → List Entry → Bool
is_counted e h = has is_commit_got h && (not (has (is_enlist_got e) h) || has (is_cast_by e) (coordinate h).desks)

counted : (c g p : Bool) → c ≡ true → (g ≡ true → p ≡ true) → (c && (not g || p)) ≡ true
counted true true p c f = f refl
counted true false p c f = refl
counted false g p c f = absurd cc

counted_cast : (c g p : Bool) → (c && (not g || p)) ≡ true → g ≡ true → p ≡ true
counted_cast true true p t q = t
counted_cast true false p t q = absurd cc
counted_cast false g p t q = absurd cc

ready_voted : (e : ℕ) (x : Entry) → is_ready_got e x ≡ true → is_vote_got e x ≡ true
ready_voted e (Got (Enl f) Up EnlistPrepared) q = q
ready_voted e (Got (Enl f) Up EnlistReadonly) q = q
ready_voted e _ q = absurd cc

counted_at : (e : ℕ) (h : List Entry) → Keeps h → can_log h ≡ true → (has is_restart h || is_counted e h) ≡ true
counted_at e h k c =
    or_right (has is_restart h) (is_counted e h)
    (counted (has is_commit_got h) (has (is_enlist_got e) h) (has (is_cast_by e) (coordinate h).desks) (can_commit h c)
    (λ t. vote_kept e h k (able_open h k c) (has_more (is_ready_got e) (is_vote_got e) (ready_voted e) h (named e (λ n. has (is_ready_got n) h) h k t (can_ready h c)))))

counted_more : (e : ℕ) (x : Entry) (h : List Entry) → Keeps (x ∷ h) → is_restart x ≡ false → is_counted e h ≡ true → is_counted e (x ∷ h) ≡ true
unfolding coordinate follow
counted_more e x h k n t =
    let c = and_left (has is_commit_got h) (not (has (is_enlist_got e) h) || has (is_cast_by e) (coordinate h).desks) t in
    counted (has is_commit_got (x ∷ h)) (has (is_enlist_got e) (x ∷ h)) (has (is_cast_by e) (coordinate (x ∷ h)).desks) (or_right (is_commit_got x) (has is_commit_got h) c)
    (λ g. let came = or_case (is_enlist_got e x) (has (is_enlist_got e) h) (λ a. absurd (uncome e x h k c a)) (λ a. a) g in
    desk_stays (is_cast_by e) (cast_lasts e) (coordinate h) x (λ b q. not_both (is_restart x) (subst (λ y. is_restart y ≡ true) (sym q) refl) n)
    (counted_cast (has is_commit_got h) (has (is_enlist_got e) h) (has (is_cast_by e) (coordinate h).desks) t came))

counted_stays : (e : ℕ) (x : Entry) (h : List Entry) → Keeps (x ∷ h) → (has is_restart h || is_counted e h) ≡ true → (has is_restart (x ∷ h) || is_counted e (x ∷ h)) ≡ true
counted_stays e x h k t = by (is_restart x) refl
  where
    by : (b : Bool) → is_restart x ≡ b → (has is_restart (x ∷ h) || is_counted e (x ∷ h)) ≡ true
    by true q = or_left (has is_restart (x ∷ h)) (is_counted e (x ∷ h)) (or_left (is_restart x) (has is_restart h) q)
    by false q =
        or_case (has is_restart h) (is_counted e h) (λ r. or_left (has is_restart (x ∷ h)) (is_counted e (x ∷ h)) (or_right (is_restart x) (has is_restart h) r))
        (λ c. or_right (has is_restart (x ∷ h)) (is_counted e (x ∷ h)) (counted_more e x h k q c)) t

tried_cast : (e : ℕ) (h : List Entry) → Keeps h → has is_restart h ≡ false → is_record_tried h ≡ true → has (is_enlist_got e) h ≡ true → has (is_cast_by e) (coordinate h).desks ≡ true
tried_cast e h k n t g =
    counted_cast (has is_commit_got h) (has (is_enlist_got e) h) (has (is_cast_by e) (coordinate h).desks)
    (or_case (has is_restart h) (is_counted e h) (λ r. absurd (not_both (has is_restart h) r n)) (λ c. c) (if_tried (λ h. has is_restart h || is_counted e h) (counted_stays e) (counted_at e) h k t)) g

-- Each votes once.
vote_new : (e : ℕ) (x : Entry) (h : List Entry) → Keeps (x ∷ h) → is_vote e x ≡ true → has (is_vote e) h ≡ true → ⊥
vote_new e (Voted f v) h k a b = not_both (has (is_vote f.value) h) (subst (λ n. has (is_vote n) h ≡ true) (eqb-true e f.value a) b) (voted_once f v h (newest (Voted f v) h k))
vote_new e _ h k a b = absurd cc

votes_apart : (e : ℕ) (p q : Entry → Bool) → ((x : Entry) → p x ≡ true → is_vote e x ≡ true) → ((x : Entry) → q x ≡ true → is_vote e x ≡ true) → ((x : Entry) → p x ≡ true → q x ≡ true → ⊥) → (h : List Entry)
    → Keeps h → has p h ≡ true → has q h ≡ true → ⊥
votes_apart e p q f g n [] k s t = absurd cc
votes_apart e p q f g n (x ∷ h) k s t =
    or_case (p x) (has p h) (λ a. or_case (q x) (has q h) (λ b. n x a b) (λ b. vote_new e x h k (f x a) (has_more q (is_vote e) g h b)) t)
    (λ a. or_case (q x) (has q h) (λ b. vote_new e x h k (g x b) (has_more p (is_vote e) f h a)) (λ b. votes_apart e p q f g n h (keeps_before x h k) a b) t) s

-- a vote no or done
abbrev is_other_vote : ℕ → Entry → Bool
is_other_vote e (Voted f No) = e == f.value
is_other_vote e (Voted f Done) = e == f.value
is_other_vote e _ = false

yes_is_vote : (e : ℕ) (x : Entry) → is_vote_yes e x ≡ true → is_vote e x ≡ true
yes_is_vote e (Voted f Yes) t = t
yes_is_vote e _ t = absurd cc

other_is_vote : (e : ℕ) (x : Entry) → is_other_vote e x ≡ true → is_vote e x ≡ true
other_is_vote e (Voted f No) t = t
other_is_vote e (Voted f Done) t = t
other_is_vote e _ t = absurd cc

yes_or_other : (e : ℕ) (x : Entry) → is_vote_yes e x ≡ true → is_other_vote e x ≡ true → ⊥
yes_or_other e (Voted f Yes) s t = absurd cc
yes_or_other e _ s t = absurd cc

-- The messages of the votes come from the votes.
cast_yes : (f : EnlNo) (x : Entry) → is_cast (Enl f) Yes x ≡ true → is_vote_yes f.value x ≡ true
cast_yes f (Voted g Yes) t = and_left (f.value == g.value) true t
cast_yes f (Voted g No) t = absurd (not_both false (and_right (f.value == g.value) false t) refl)
cast_yes f (Voted g Done) t = absurd (not_both false (and_right (f.value == g.value) false t) refl)
cast_yes f _ t = absurd cc

cast_no : (f : EnlNo) (x : Entry) → is_cast (Enl f) No x ≡ true → is_other_vote f.value x ≡ true
cast_no f (Voted g No) t = and_left (f.value == g.value) true t
cast_no f (Voted g Yes) t = absurd (not_both false (and_right (f.value == g.value) false t) refl)
cast_no f (Voted g Done) t = absurd (not_both false (and_right (f.value == g.value) false t) refl)
cast_no f _ t = absurd cc

cast_done : (f : EnlNo) (x : Entry) → is_cast (Enl f) Done x ≡ true → is_other_vote f.value x ≡ true
cast_done f (Voted g Done) t = and_left (f.value == g.value) true t
cast_done f (Voted g Yes) t = absurd (not_both false (and_right (f.value == g.value) false t) refl)
cast_done f (Voted g No) t = absurd (not_both false (and_right (f.value == g.value) false t) refl)
cast_done f _ t = absurd cc

abbrev PREPARED : Message → Bool
PREPARED EnlistPrepared = true
PREPARED _ = false

abbrev NEITHER : Message → Bool
NEITHER EnlistNo = true
NEITHER EnlistReadonly = true
NEITHER _ = false

got_on : (a : Bool) → a ≡ true → (a && true && true) ≡ true
got_on true t = refl
got_on false t = t

prepared_got_on : (f : EnlNo) (x : Entry) → is_prepared_got f.value x ≡ true → is_got_on (Enl f) Up PREPARED x ≡ true
prepared_got_on f (Got (Enl g) Up EnlistPrepared) t = got_on (f.value == g.value) t
prepared_got_on f _ t = absurd cc

prepared_row : (f : EnlNo) (m : Message) (h : List Entry) → Keeps h → PREPARED m ≡ true → has_line (Enl f) Up m ≡ true → message_row h (Enl f) m ≡ true → has (is_vote_yes f.value) h ≡ true
prepared_row f EnlistPrepared h k t l r = has_more (is_cast (Enl f) Yes) (is_vote_yes f.value) (cast_yes f) h r
prepared_row f _ h k t l r = absurd cc

-- who said PREPARED voted yes
yes_if_prepared : (f : EnlNo) (h : List Entry) → Keeps h → has (is_prepared_got f.value) h ≡ true → has (is_vote_yes f.value) h ≡ true
yes_if_prepared f h k t =
    from_got (Enl f) Up PREPARED (λ g. has (is_vote_yes f.value) g) (λ x g q. or_right (is_vote_yes f.value x) (has (is_vote_yes f.value) g) q) (prepared_row f) h k
    (has_more (is_prepared_got f.value) (is_got_on (Enl f) Up PREPARED) (prepared_got_on f) h t)

neither_row : (f : EnlNo) (m : Message) (h : List Entry) → Keeps h → NEITHER m ≡ true → has_line (Enl f) Up m ≡ true → message_row h (Enl f) m ≡ true → has (is_other_vote f.value) h ≡ true
neither_row f EnlistNo h k t l r = has_more (is_cast (Enl f) No) (is_other_vote f.value) (cast_no f) h r
neither_row f EnlistReadonly h k t l r = has_more (is_cast (Enl f) Done) (is_other_vote f.value) (cast_done f) h r
neither_row f _ h k t l r = absurd cc

other_if_got : (f : EnlNo) (h : List Entry) → Keeps h → has (is_got_on (Enl f) Up NEITHER) h ≡ true → has (is_other_vote f.value) h ≡ true
other_if_got f h k t = from_got (Enl f) Up NEITHER (λ g. has (is_other_vote f.value) g) (λ x g q. or_right (is_other_vote f.value x) (has (is_other_vote f.value) g) q) (neither_row f) h k t

-- A ballot that isn't PREPARED comes of NO, of READONLY, or of the Aborted of who was let decide.
abbrev is_unprepared : Option Ballot → Bool
is_unprepared (Some Refused) = true
is_unprepared (Some ReadOnly) = true
is_unprepared _ = false

abbrev is_unprepared_got : ℕ → Entry → Bool
is_unprepared_got e (Got (Enl f) Up EnlistNo) = e == f.value
is_unprepared_got e (Got (Enl f) Up EnlistReadonly) = e == f.value
is_unprepared_got e (Got (Enl f) Up EnlistOneAborted) = e == f.value
is_unprepared_got e _ = false

unprepared_from : (e f : EnlNo) (m : Message) → (e.value == f.value) ≡ true → is_unprepared (ballot_of m) ≡ true → is_unprepared_got e.value (Got (Enl f) Up m) ≡ true
unprepared_from e f EnlistNo q a = q
unprepared_from e f EnlistReadonly q a = q
unprepared_from e f _ q a = absurd cc

prepared_from : (e f : EnlNo) (m : Message) → (e.value == f.value) ≡ true → is_prepared (ballot_of m) ≡ true → is_prepared_got e.value (Got (Enl f) Up m) ≡ true
prepared_from e f EnlistPrepared q a = q
prepared_from e f _ q a = absurd cc

desks_unprepared : (h : List Entry) → each (is_backed is_unprepared is_unprepared_got h) (coordinate h).desks ≡ true
desks_unprepared h = desks_backed is_unprepared is_unprepared_got (record { none = refl; from = unprepared_from; one = λ e f q a. q }) h

desks_prepared : (h : List Entry) → each (is_backed is_prepared is_prepared_got h) (coordinate h).desks ≡ true
desks_prepared h = desks_backed is_prepared is_prepared_got (record { none = refl; from = prepared_from; one = λ e f q a. absurd cc }) h

unprepared_case : (f : EnlNo) (h : List Entry) → has (is_unprepared_got f.value) h ≡ true → (has (is_got_on (Enl f) Up NEITHER) h ≡ true) ⊎ (has is_one_aborted h ≡ true)
unprepared_case f [] t = absurd cc
unprepared_case f (x ∷ h) t = or_case (is_unprepared_got f.value x) (has (is_unprepared_got f.value) h) (λ a. here x a) (λ a. there (unprepared_case f h a)) t
  where
    here : (x : Entry) → is_unprepared_got f.value x ≡ true → (has (is_got_on (Enl f) Up NEITHER) (x ∷ h) ≡ true) ⊎ (has is_one_aborted (x ∷ h) ≡ true)
    here (Got (Enl g) Up EnlistNo) a = inl (or_left (is_got_on (Enl f) Up NEITHER (Got (Enl g) Up EnlistNo)) (has (is_got_on (Enl f) Up NEITHER) h) (got_on (f.value == g.value) a))
    here (Got (Enl g) Up EnlistReadonly) a = inl (or_left (is_got_on (Enl f) Up NEITHER (Got (Enl g) Up EnlistReadonly)) (has (is_got_on (Enl f) Up NEITHER) h) (got_on (f.value == g.value) a))
    here (Got (Enl g) Up EnlistOneAborted) a = inr refl
    here _ a = absurd cc

    there : (has (is_got_on (Enl f) Up NEITHER) h ≡ true) ⊎ (has is_one_aborted h ≡ true) → (has (is_got_on (Enl f) Up NEITHER) (x ∷ h) ≡ true) ⊎ (has is_one_aborted (x ∷ h) ≡ true)
    there (inl a) = inl (or_right (is_got_on (Enl f) Up NEITHER x) (has (is_got_on (Enl f) Up NEITHER) h) a)
    there (inr a) = inr (or_right (is_one_aborted x) (has is_one_aborted h) a)

-- so of one that voted yes none came, where nobody was handed the commit
none_unprepared : (f : EnlNo) (h : List Entry) → Keeps h → has is_any_hand h ≡ false → has (is_vote_yes f.value) h ≡ true → has (is_unprepared_got f.value) h ≡ true → ⊥
none_unprepared f h k n y t = by (unprepared_case f h t)
  where
    by : (has (is_got_on (Enl f) Up NEITHER) h ≡ true) ⊎ (has is_one_aborted h ≡ true) → ⊥
    by (inl a) = votes_apart f.value (is_vote_yes f.value) (is_other_vote f.value) (yes_is_vote f.value) (other_is_vote f.value) (yes_or_other f.value) h k y (other_if_got f h k a)
    by (inr a) = not_both (has is_any_hand h) (answered_handed AbortedOutcome h k (aborted_if_one h k a)) n

-- Who voted yes was asked to prepare.
yes_row : (e : ℕ) (x : Entry) (h : List Entry) → Keeps h → rule h x ≡ true → is_vote_yes e x ≡ true → has (is_asked e) h ≡ true
yes_row e (Voted f Yes) h k r t =
    subst (λ n. has (is_asked n) h ≡ true) (sym (eqb-true e f.value t)) (second_of_five _ (has (is_asked f.value) h) (not (has (is_vote f.value) h)) _ _ r)
yes_row e _ h k r t = absurd cc

pub asked_if_yes : (e : ℕ) (h : List Entry) → Keeps h → has (is_vote_yes e) h ≡ true → has (is_asked e) h ≡ true
asked_if_yes e h k t = before (is_vote_yes e) (is_asked e) (yes_row e) h k t

-- What the record names is what desks that said PREPARED name.
has_mapped : {A B : Type 0} (p : B → Bool) (f : A → B) (xs : List A) → has p (map f xs) ≡ has (λ x. p (f x)) xs
has_mapped p f [] = refl
has_mapped p f (x ∷ xs) = ap (λ b. p (f x) || b) (has_mapped p f xs)

abbrev is_naming : ℕ → ℕ → Desk → Bool
is_naming m e d = (m == d.manager.value) && (e == d.enlistment.value)

named_desks : (t m e : ℕ) (k : Coordinated) → is_named m e (record_for t k) ≡ has (λ d. is_naming m e d && is_prepared d.ballot) k.desks
named_desks t m e k =
    has_mapped (λ (p : ℕ × ℕ). (m == p.0) && (e == p.1)) (λ (d : Desk). pair_of (d.manager, d.enlistment)) (filter (λ d. is_prepared d.ballot) k.desks) ∙ has_filter (is_naming m e) (λ d. is_prepared d.ballot) k.desks

picked : {A : Type 0} (p q : A → Bool) (xs : List A) → has p xs ≡ true → each q xs ≡ true → (x : A) × (p x ≡ true) × (q x ≡ true)
picked p q [] h a = absurd cc
picked p q (x ∷ xs) h a = or_case (p x) (has p xs) (λ b. (x, b, and_left (q x) (each q xs) a)) (λ b. picked p q xs b (and_right (q x) (each q xs) a)) h

has_with : {A : Type 0} (p q r : A → Bool) → ((x : A) → p x ≡ true → q x ≡ true → r x ≡ true) → (xs : List A) → has p xs ≡ true → each q xs ≡ true → has r xs ≡ true
has_with p q r f [] h a = absurd cc
has_with p q r f (x ∷ xs) h a =
    or_case (p x) (has p xs) (λ b. or_left (r x) (has r xs) (f x b (and_left (q x) (each q xs) a))) (λ b. or_right (r x) (has r xs) (has_with p q r f xs b (and_right (q x) (each q xs) a))) h

abbrev IsOfManager : List EnteredCall → ℕ → ℕ → Type 0
IsOfManager ks m e = option_map (λ (r : RmNo). r.value) (manager_of ks e) ≡ Some m

-- whom the record names is of that manager, and voted yes
pub named_voted : (ks : List EnteredCall) (t : ℕ) (h : List Entry) → Keeps h → ((e r : ℕ) → has (is_enlist_by e r) h ≡ true → IsOfManager ks r e) → (m e : ℕ) → is_named m e (record_for t (coordinate h)) ≡ true
    → IsOfManager ks m e × (has (is_vote_yes e) h ≡ true)
named_voted ks t h k own m e n = (subst (λ i. IsOfManager ks i e) (sym manager) (subst (λ i. IsOfManager ks d.manager.value i) (sym number) (own d.enlistment.value d.manager.value managed)), subst (λ i. has (is_vote_yes i) h ≡ true) (sym number) voted)
  where
    prepared : Desk → Bool
    prepared d = is_backed is_prepared is_prepared_got h d

    found : (d : Desk) × ((is_naming m e d && is_prepared d.ballot) ≡ true) × ((is_managed_desk h d && prepared d) ≡ true)
    found = picked (λ d. is_naming m e d && is_prepared d.ballot) (λ d. is_managed_desk h d && prepared d) (coordinate h).desks (sym (named_desks t m e (coordinate h)) ∙ n)
        (each_both (is_managed_desk h) prepared (λ d. is_managed_desk h d && prepared d) (λ d a b. and_both (is_managed_desk h d) (prepared d) a b) (coordinate h).desks (desks_managed h k) (desks_prepared h))

    d : Desk
    d = found.0

    both : is_naming m e d ≡ true
    both = and_left (is_naming m e d) (is_prepared d.ballot) found.1

    manager : m ≡ d.manager.value
    manager = eqb-true m d.manager.value (and_left (m == d.manager.value) (e == d.enlistment.value) both)

    number : e ≡ d.enlistment.value
    number = eqb-true e d.enlistment.value (and_right (m == d.manager.value) (e == d.enlistment.value) both)

    managed : has (is_enlist_by d.enlistment.value d.manager.value) h ≡ true
    managed = and_left (is_managed_desk h d) (prepared d) found.2

    backed : (b r : Bool) → (not b || r) ≡ true → b ≡ true → r ≡ true
    backed true r k q = k
    backed false r k q = absurd cc

    voted : has (is_vote_yes d.enlistment.value) h ≡ true
    voted = yes_if_prepared d.enlistment h k
        (backed (is_prepared d.ballot) (has (is_prepared_got d.enlistment.value) h) (and_right (is_managed_desk h d) (prepared d) found.2) (and_right (is_naming m e d) (is_prepared d.ballot) found.1))

-- and it names each that voted yes and came
pub voted_named : (ks : List EnteredCall) (t : ℕ) (h : List Entry) → Keeps h → has is_restart h ≡ false → is_record_tried h ≡ true → ((e r : ℕ) → has (is_enlist_by e r) h ≡ true → IsOfManager ks r e) → (m : ℕ)
    (f : EnlNo) → IsOfManager ks m f.value → has (is_vote_yes f.value) h ≡ true → has (is_enlist_got f.value) h ≡ true → is_named m f.value (record_for t (coordinate h)) ≡ true
voted_named ks t h k n r own m f o y g =
    named_desks t m f.value (coordinate h)
    ∙ has_with (is_cast_by f.value) (λ d. is_managed_desk h d && silent d) (λ d. is_naming m f.value d && is_prepared d.ballot) at (coordinate h).desks (tried_cast f.value h k n r g)
    (each_both (is_managed_desk h) silent (λ d. is_managed_desk h d && silent d) (λ d a b. and_both (is_managed_desk h d) (silent d) a b) (coordinate h).desks (desks_managed h k) (desks_unprepared h))
  where
    silent : Desk → Bool
    silent d = is_backed is_unprepared is_unprepared_got h d

    ballot : (o : Option Ballot) (c : Bool) → is_some o ≡ true → (not (is_unprepared o) || c) ≡ true → (c ≡ true → ⊥) → is_prepared o ≡ true
    ballot (Some Prepared) c v b z = refl
    ballot (Some Refused) c v b z = absurd (z b)
    ballot (Some ReadOnly) c v b z = absurd (z b)
    ballot None c v b z = absurd cc

    at : (d : Desk) → is_cast_by f.value d ≡ true → (is_managed_desk h d && silent d) ≡ true → (is_naming m f.value d && is_prepared d.ballot) ≡ true
    at d c q =
        let here = and_left (is_desk_of f.value d) (has_voted d) c in
        let same : f.value ≡ d.enlistment.value = eqb-true f.value d.enlistment.value here in
        let his = own d.enlistment.value d.manager.value (and_left (is_managed_desk h d) (silent d) q) in
        let mine : IsOfManager ks m d.enlistment.value = subst (λ i. IsOfManager ks m i) same o in
        let manager : m ≡ d.manager.value = cc in
        and_both (is_naming m f.value d) (is_prepared d.ballot) (and_both (m == d.manager.value) (f.value == d.enlistment.value) (eq-eqb m d.manager.value manager) here)
        (ballot d.ballot (has (is_unprepared_got d.enlistment.value) h) (and_right (is_desk_of f.value d) (has_voted d) c) (and_right (is_managed_desk h d) (silent d) q)
        (λ z. none_unprepared f h k (tried_unhanded h k r) y (subst (λ i. has (is_unprepared_got i) h ≡ true) (sym same) z)))
