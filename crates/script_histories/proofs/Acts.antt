-- The block of each reply that is due and of each local act keeps the rules.
use Rattle.std.proofs.Common.{Bool, false, List, ℕ, true, ◌&&◌, Option, Some, ◌≡◌, ◌∙◌, ap, sym, inl, inr, subst, ◌||◌, None, refl, ◌==◌, [], ◌∷◌}
use Rattle.std.specs.Prelude.{not, is_some, find}
use Rattle.std.proofs.lemmas.Bool.{eqb-true, or_left}
use Rattle.dtx_values.specs.declared.number.EnlNo.{EnlNo}
use Rattle.dtx_values.specs.declared.entry.Ask.TheVariants.{Prepare}
use Rattle.dtx_values.specs.declared.entry.Entry.{Entry}
use Rattle.dtx_values.specs.declared.entry.Entry.TheVariants.{Voted, OwnerAnswered, Told, Asked, Sealed, Handed, Decided}
use Rattle.dtx_values.specs.declared.entry.Party.TheVariants.{Client, Enl}
use Rattle.dtx_values.specs.declared.note.Reply.{Reply}
use Rattle.dtx_values.specs.declared.note.Note.{Note}
use Rattle.dtx_values.specs.declared.note.Note.TheVariants.{Prepare as PrepareNote, Hand as HandNote}
use Rattle.dtx_values.specs.declared.note.Reply.TheVariants.{Vote as VoteReply, Owner as OwnerReply}
use Rattle.dtx_values.specs.declared.words.Outcome.{Outcome}
use Rattle.dtx_values.specs.declared.words.Outcome.TheVariants.{Committed}
use Rattle.dtx_values.specs.declared.words.Vote.TheVariants.{Yes, No, Done}
use Rattle.dtx_values.specs.Row.{has_voted, is_marked, is_of}
use Rattle.dtx_values.specs.Clones.{blocks, is_open_block}
use Rattle.dtx_values.specs.Class.{is_class, is_volatile}
use Rattle.dtx_values.specs.Owners.{owner_of}
use Rattle.dtx_values.specs.Waves.{next_ask, zeros_voted, is_over, all_voted}
use Rattle.dtx_model.specs.declared.listener.Listener.{Listener}
use Rattle.dtx_model.specs.Words.{has, latest, onto, all_of, each}
use Rattle.dtx_model.specs.Entries.{is_asked, is_vote, is_hand, is_decision, handed_of, decision_of, is_commit, clone_of, is_good_vote, is_sealed, is_promoted, is_any_hand}
use Rattle.dtx_model.specs.Observed.{observe, rows, clone_rows, listeners}
use Rattle.dtx_model.specs.Outcome.{hears_doubt, is_complete, enlisted, volatiles, voters, ready, durables, is_empty, by_seal, by_owner, by_log, evidence, may_tell}
use Rattle.dtx_model.specs.Replies.{fits}
use Rattle.dtx_model.proofs.Narrow.{reply_entries, before_seal, after_seal, commit_act, undecided_act, hears_abort, is_to_tell, act_by}
use Rattle.dtx_model.proofs.NarrowReplies.{IsDue}
use Rattle.dtx_model.specs.Half.{is_handed}
use Rattle.dtx_model.specs.Acts.{tell}
use Rattle.dtx_model.proofs.Bools.{and_left, and_right, not_false, three_hold, and_both, or_right, not_true}
use Rattle.history_table.proofs.EntryTests.{is_enlisted, is_answer, undecided, is_decided, is_certain, all_complete, zeros_cast, is_no_vote, is_only}
use Rattle.history_table.proofs.Tests.{four_hold, same_self, shut_step, close_step, five_hold}
use Rattle.history_table.proofs.Lists.{found_at, passes, none_each, each_filter}
use Rattle.history_table.proofs.TableRows.{none_there}
use Rattle.history_table.proofs.NextActs.{next_passes, asked_volatile, row_volatile, to_tell_well}
use Rattle.history_table.proofs.Scans.{each_both, each_more}
use Rattle.history_table.proofs.Owned.{any_hand_seen}
use Rattle.script_histories.proofs.Rule.{rule, ruled}
use Rattle.script_histories.proofs.RuledRows.{hand_seen, rows_enlisted, row_marked, row_voted, zeros_seen, open_blocks, all_voted_seen, owner_only, owner_none}
use Rattle.script_histories.proofs.Going.{going_unanswered, IsKept, yes_keeps, done_keeps, no_keeps, answer_keeps, keep, going_closed, going_willing}
use Rattle.script_histories.proofs.Evidence.{voters-volatile, sealed_closed, none_promoted}

-- a reply is a vote or an answer of an owner that may come here
abbrev pub may_reply : List Entry → EnlNo → Reply → Bool
may_reply h e (VoteReply v) = rule h (Voted e v)
may_reply h e (OwnerReply x) = rule h (OwnerAnswered e x)
may_reply h e _ = false

-- what a reply to the note of the enlistment of this number needs
abbrev is_well_due : List Entry → ℕ → Option Note → Bool
is_well_due h e (Some PrepareNote) = not (has is_decision h) && has (is_enlisted e) h && has (is_asked e) h && not (has (is_vote e) h)
is_well_due h e (Some HandNote) = not (has is_decision h) && has (is_hand e) h && not (has is_answer h)
is_well_due h e _ = true

-- who was asked and hasn't voted may vote
due_rule : (m v d s a w : Bool) → d ≡ false → s ≡ true → m ≡ a → v ≡ w → (m && not v) ≡ true → (not d && s && a && not w) ≡ true
due_rule m v d s a w p q e f k = four_hold (not d) s a (not w) (not_false d p) q (sym e ∙ and_left m (not v) k) (ap (λ b. not b) (sym f) ∙ and_right m (not v) k)

-- who was handed the commit may answer while nobody answered
answer_rule : (h : List Entry) (e : EnlNo) (x : Outcome) → IsKept h → has is_decision h ≡ false → is_handed (latest handed_of h) e.value ≡ true → rule h (OwnerAnswered e x) ≡ true
answer_rule h e x k d w =
    three_hold (not (has is_decision h)) (has (is_hand e.value) h) (not (has is_answer h)) (not_false (has is_decision h) d) (sym (hand_seen e.value h k.rules) ∙ w)
    (not_false (has is_answer h) (going_unanswered h d k.going))

-- what the note that is due needs holds
due_well : (h : List Entry) (e : ℕ) (n : Note) → IsKept h → IsDue (observe h) e n → is_well_due h e (Some n) ≡ true
unfolding observe
due_well h e n i (inl q) =
    let place = found_at (is_of e) (rows h) q.row q.stands in
    let same : e ≡ q.row.number.value = eqb-true e q.row.number.value place.2 in
    let asked : (is_marked q.row && not (has_voted q.row)) ≡ true = and_both (is_marked q.row) (not (has_voted q.row)) q.asked (not_false (has_voted q.row) q.unvoted) in
    subst (λ m. is_well_due h e (Some m) ≡ true) (sym q.note)
    (subst (λ m. is_well_due h m (Some PrepareNote) ≡ true) (sym same)
    (due_rule (is_marked q.row) (has_voted q.row) (has is_decision h) (has (is_enlisted q.row.number.value) h) (has (is_asked q.row.number.value) h) (has (is_vote q.row.number.value) h)
    (undecided h (none_there (latest decision_of h) q.open_yet)) (rows_enlisted h place.0 q.row i.rules place.1) (row_marked h place.0 q.row i.rules place.1) (row_voted h place.0 q.row i.rules place.1) asked))
due_well h e n i (inr q) =
    let place = found_at (is_of e) (rows h) q.row q.stands in
    let same : e ≡ q.row.number.value = eqb-true e q.row.number.value place.2 in
    subst (λ m. is_well_due h e (Some m) ≡ true) (sym q.note)
    (subst (λ m. is_well_due h m (Some HandNote) ≡ true) (sym same)
    (answer_rule h q.row.number Committed i (undecided h (none_there (latest decision_of h) q.open_yet)) q.handed))

-- a reply that fits the note that is due may come
fits_well : (h : List Entry) (e : EnlNo) (y : Reply) (n : Note) → fits y n ≡ true → IsDue (observe h) e.value n → is_well_due h e.value (Some n) ≡ true → may_reply h e y ≡ true
fits_well h e y n f (inl q) w = vote y (subst (λ m. fits y m ≡ true) q.note f) (subst (λ m. is_well_due h e.value (Some m) ≡ true) q.note w)
  where
    vote : (y : Reply) → fits y PrepareNote ≡ true → is_well_due h e.value (Some PrepareNote) ≡ true → may_reply h e y ≡ true
    vote (VoteReply v) f w = w
    vote _ f w = absurd cc
fits_well h e y n f (inr q) w = answer y (subst (λ m. fits y m ≡ true) q.note f) (subst (λ m. is_well_due h e.value (Some m) ≡ true) q.note w)
  where
    answer : (y : Reply) → fits y HandNote ≡ true → is_well_due h e.value (Some HandNote) ≡ true → may_reply h e y ≡ true
    answer (OwnerReply x) f w = w
    answer _ f w = absurd cc

-- the entries of a reply that may come keep it
vote_keeps : (h : List Entry) (e : EnlNo) (y : Reply) → IsKept h → may_reply h e y ≡ true → IsKept (onto h (reply_entries e y))
vote_keeps h e (VoteReply Yes) k q = yes_keeps h e k q
vote_keeps h e (VoteReply Done) k q = done_keeps h e k q
vote_keeps h e (VoteReply No) k q = no_keeps h e k q
vote_keeps h e (OwnerReply x) k q = answer_keeps h e x k q
vote_keeps h e _ k q = absurd cc

-- the entries of a reply that is due keep it
pub reply_keeps : (h : List Entry) (e : EnlNo) (y : Reply) (n : Note) → IsKept h → IsDue (observe h) e.value n → fits y n ≡ true → IsKept (onto h (reply_entries e y))
reply_keeps h e y n i d f = vote_keeps h e y i (fits_well h e y n f d (due_well h e.value n i d))

-- what was decided is told
told_rule : (h : List Entry) (x : Outcome) → latest decision_of h ≡ Some x → is_decided x (latest decision_of h) ≡ true
told_rule h x e = ap (is_decided x) e ∙ same_self x

-- what is told keeps it
tell_keeps : (h : List Entry) (x : Outcome) (l : Option Listener) (t : Option Outcome) → IsKept h → is_decided x (latest decision_of h) ≡ true
    → passes (λ l. is_certain x || hears_doubt h (Enl l.enlistment)) l ≡ true → IsKept (onto h (tell x l t))
tell_keeps h x (Some l) t k q w = keep (Told (Enl l.enlistment) x) h k refl (and_both (is_decided x (latest decision_of h)) (is_certain x || hears_doubt h (Enl l.enlistment)) q w) (λ g. g)
tell_keeps h x None (Some y) k q w = k
tell_keeps h x None None k q w = keep (Told Client x) h k refl (and_both (is_decided x (latest decision_of h)) (is_certain x || true) q (or_right (is_certain x) true refl)) (λ g. g)

-- who may be asked and wasn't
ask_step : (c m w d t s a v : Bool) → d ≡ false → t ≡ true → s ≡ true → m ≡ a → (c ≡ true → v ≡ true) → (not (c && not m && w) || (not d && t && s && not a && v)) ≡ true
ask_step true true w d t s a v p q u e f = refl
ask_step true false w d t s a v p q u e f =
    or_right (not w) (not d && t && s && not a && v)
    (and_both (not d && t && s && not a) v (four_hold (not d) t s (not a) (not_false d p) q u (ap (λ b. not b) (sym e))) (f refl))
ask_step false m w d t s a v p q u e f = refl

-- the next that is asked may be asked
next_well : (h : List Entry) (first : Bool) → ruled h ≡ true → has is_decision h ≡ false → has is_commit h ≡ true
    → passes (λ e. rule h (Asked e Prepare)) (next_ask (rows h) first) ≡ true
next_well h first r d c =
    next_passes (λ e. rule h (Asked e Prepare)) (rows h) first
    (λ k x e. ask_step (is_class first x.class) (is_marked x) _ (has is_decision h) (has is_commit h) (has (is_enlisted x.number.value) h) (has (is_asked x.number.value) h) _
    d c (rows_enlisted h k x r e) (row_marked h k x r e) (λ z. row_volatile h k x e (asked_volatile first x.class z)))

-- what comes in phase zero keeps it
before_keeps : (h : List Entry) (q : Option EnlNo) (over : Bool) → IsKept h → passes (λ e. rule h (Asked e Prepare)) q ≡ true → (over ≡ true → rule h Sealed ≡ true)
    → IsKept (onto h (before_seal q over))
before_keeps h (Some e) over k w f = keep (Asked e Prepare) h k refl w (λ g. g)
before_keeps h None true k w f = keep Sealed h k refl (f refl) (λ g. g)
before_keeps h None false k w f = k

-- what comes after the seal keeps it
behind_keeps : (h : List Entry) (q : Option EnlNo) (voted : Bool) (commit : List Entry) → IsKept h → passes (λ e. rule h (Asked e Prepare)) q ≡ true
    → (voted ≡ true → IsKept (onto h commit)) → IsKept (onto h (after_seal q voted commit))
behind_keeps h (Some e) voted commit k w f = keep (Asked e Prepare) h k refl w (λ g. g)
behind_keeps h None true commit k w f = f refl
behind_keeps h None false commit k w f = k

-- the commit that is handed over or decided keeps it
commit_act_keeps : (h : List Entry) (handed : Bool) (owner : Option EnlNo) → IsKept h → ((e : EnlNo) → handed ≡ false → owner ≡ Some e → rule h (Handed e) ≡ true)
    → (owner ≡ None → rule h (Decided Committed) ≡ true) → IsKept (onto h (commit_act handed owner))
commit_act_keeps h true owner k f g = k
commit_act_keeps h false (Some e) k f g = keep (Handed e) h k refl (f e refl refl) (λ g. g)
commit_act_keeps h false None k f g = keep (Decided Committed) h k refl (g refl) (λ g. refl)

-- where phase zero is over, it may be sealed
may_seal : (h : List Entry) → IsKept h → has is_decision h ≡ false → has is_commit h ≡ true → is_over (rows h) (clone_rows h) 0 ≡ true → rule h Sealed ≡ true
unfolding is_over
may_seal h k d c o =
    let both = and_left (zeros_voted (rows h) && not (has is_open_block (clone_rows h))) (0 == 0) o in
    let zeros = sym (zeros_seen h k.rules) ∙ and_left (zeros_voted (rows h)) (not (has is_open_block (clone_rows h))) both in
    let shut = sym (open_blocks h k.rules) ∙ not_true (has is_open_block (clone_rows h)) (and_right (zeros_voted (rows h)) (not (has is_open_block (clone_rows h))) both) in
    let complete : all_complete h ≡ true =
    each_both (λ c. not (blocks c.1) || is_complete h c) (λ c. blocks c.1 || is_complete h c) (λ c. is_complete h c) (λ c. close_step (blocks c.1) (is_complete h c)) (all_of clone_of h)
    (none_each (λ c. blocks c.1 && not (is_complete h c)) (λ c. not (blocks c.1) || is_complete h c) (λ c. shut_step (blocks c.1) (is_complete h c)) (all_of clone_of h) shut)
    (going_closed h d c k.going) in
    four_hold (not (has is_decision h)) (has is_commit h) (all_complete h) (zeros_cast h) (not_false (has is_decision h) d) c complete zeros

-- one step of `voted_good`
good_step : (b v g : Bool) → (v ≡ true → g ≡ true) → (b || v) ≡ true → ((b && true) || g) ≡ true
good_step true v g f k = refl
good_step false v g f k = f k

-- where nobody voted no, who voted, voted yes or done
voted_good : (e : ℕ) (h : List Entry) → has is_no_vote h ≡ false → has (is_vote e) h ≡ true → has (is_good_vote e) h ≡ true
voted_good e [] w k = k
voted_good e (Voted f No ∷ h) w k = absurd cc
voted_good e (Voted f Yes ∷ h) w k = good_step (e == f.value) (has (is_vote e) h) (has (is_good_vote e) h) (voted_good e h w) k
voted_good e (Voted f Done ∷ h) w k = good_step (e == f.value) (has (is_vote e) h) (has (is_good_vote e) h) (voted_good e h w) k
voted_good e (x ∷ h) w k = voted_good e h w k

-- where it is sealed and all voted, it is ready
may_ready : (h : List Entry) → IsKept h → has is_decision h ≡ false → has is_sealed h ≡ true → all_voted (rows h) ≡ true → ready h ≡ true
unfolding ready
may_ready h k d s a =
    let closed = sealed_closed h k.rules s in
    let cast : each (λ x. has (is_vote x.0.value) h) (volatiles h) ≡ true = each_filter (λ x. is_volatile x.1) (λ x. has (is_vote x.0.value) h) (enlisted h) (sym (all_voted_seen h k.rules) ∙ a) in
    let good : each (λ x. has (is_good_vote x.0.value) h) (volatiles h) ≡ true =
    each_more (λ x. has (is_vote x.0.value) h) (λ x. has (is_good_vote x.0.value) h) (λ x. voted_good x.0.value h (going_willing h d k.going)) (volatiles h) cast in
    three_hold (has is_commit h) (all_complete h) (each (λ x. has (is_good_vote x.0.value) h) (voters h)) closed.commit closed.complete
    (subst (λ xs. each (λ x. has (is_good_vote x.0.value) h) xs ≡ true) (sym (voters-volatile h k.rules)) good)

-- where it is sealed and ready and nothing is durable or promotable, it may be committed
may_commit : (h : List Entry) → ruled h ≡ true → has is_decision h ≡ false → has is_sealed h ≡ true → ready h ≡ true → durables h ≡ [] → rule h (Decided Committed) ≡ true
unfolding may_tell evidence by_seal
may_commit h r d s a n =
    let bare : is_empty (durables h) ≡ true = ap is_empty n in
    let seal : by_seal h ≡ true = three_hold (has is_sealed h) (not (has is_promoted h)) (is_empty (durables h)) s (not_false (has is_promoted h) (none_promoted h r)) bare in
    and_both (not (has is_decision h)) (evidence h) (not_false (has is_decision h) d)
    (and_both (ready h) (by_seal h || by_owner h || by_log h) a (or_left (by_seal h || by_owner h) (by_log h) (or_left (by_seal h) (by_owner h) seal)))

-- where it is sealed and ready and the commit wasn't handed over, it may be handed to the owner
may_hand : (h : List Entry) (e : EnlNo) → ruled h ≡ true → has is_decision h ≡ false → has is_sealed h ≡ true → ready h ≡ true → is_some (latest handed_of h) ≡ false
    → owner_of (rows h) ≡ Some e → rule h (Handed e) ≡ true
may_hand h e r d s a u o =
    five_hold (not (has is_decision h)) (has is_sealed h) (ready h) (is_only e.value (durables h)) (not (has is_any_hand h)) (not_false (has is_decision h) d) s a (owner_only h e r o)
    (not_false (has is_any_hand h) (sym (any_hand_seen h) ∙ u))

-- the local act while nothing is decided keeps it
undecided_keeps : (h : List Entry) (commit sealed : Bool) (xs ys : List Entry) → IsKept h → (commit ≡ true → sealed ≡ false → IsKept (onto h xs))
    → (commit ≡ true → sealed ≡ true → IsKept (onto h ys)) → IsKept (onto h (undecided_act commit sealed xs ys))
undecided_keeps h false sealed xs ys k f g = k
undecided_keeps h true false xs ys k f g = f refl refl
undecided_keeps h true true xs ys k f g = g refl refl

-- the local act keeps it
pub act_keeps : (h : List Entry) (d : Option Outcome) → latest decision_of h ≡ d → IsKept h → IsKept (onto h (act_by d (observe h)))
unfolding observe
act_keeps h (Some x) e k = tell_keeps h x (find (is_to_tell (observe h) x) (listeners h)) _ k (told_rule h x e) (to_tell_well h x (hears_abort (observe h)))
act_keeps h None e k =
    let d = undecided h e in
    undecided_keeps h (has is_commit h) (has is_sealed h) _ _ k
    (λ c s. before_keeps h (next_ask (rows h) true) (is_over (rows h) (clone_rows h) 0) k (next_well h true k.rules d c) (may_seal h k d c))
    (λ c s. behind_keeps h (next_ask (rows h) false) (all_voted (rows h)) (commit_act (is_some (latest handed_of h)) (owner_of (rows h))) k (next_well h false k.rules d c)
    (λ a. let set = may_ready h k d s a in
    commit_act_keeps h (is_some (latest handed_of h)) (owner_of (rows h)) k (λ f u o. may_hand h f k.rules d s set u o)
    (λ o. may_commit h k.rules d s set (owner_none h k.rules o))))
