-- The local act keeps the table, promoted or not.
use Rattle.std.proofs.Common.{◌≡◌, ℕ, ◌+◌, ◌==◌, Bool, true, false, ◌&&◌, ◌||◌, List, [], ◌∷◌, ◌++◌, Option, Some, None, refl, ◌∙◌, ap, sym, arith}
use Rattle.std.specs.Prelude.{find, is_some, length, not, if◌then◌else◌}
use Rattle.std.proofs.lemmas.Bool.{false_from_ne_true, or_left}
use Rattle.std.proofs.lemmas.Bool.Decides.{nat_tests}
use Rattle.dtx_values.specs.declared.entry.Ask.TheVariants.{Prepare, Promote, Single}
use Rattle.dtx_values.specs.declared.entry.Entry.{Entry}
use Rattle.dtx_values.specs.declared.entry.Entry.TheVariants.{Asked, Handed, LocalYes, Requested, Sealed, Told}
use Rattle.dtx_values.specs.declared.entry.Party.{Party}
use Rattle.dtx_values.specs.declared.entry.Party.TheVariants.{Client, Enl}
use Rattle.dtx_values.specs.declared.message.Conn.TheVariants.{Begin, Voter}
use Rattle.dtx_values.specs.declared.message.Message.TheVariants.{BeginCommit, BeginCommitOne, VoterAsk, VoterYes}
use Rattle.dtx_values.specs.declared.number.EnlNo.{EnlNo}
use Rattle.dtx_values.specs.declared.number.RmNo.{RmNo}
use Rattle.dtx_values.specs.declared.words.Outcome.{Outcome}
use Rattle.dtx_values.specs.declared.words.Outcome.TheVariants.{Committed}
use Rattle.dtx_values.specs.Class.{is_class, is_volatile}
use Rattle.dtx_values.specs.Clones.{blocks, is_open_block}
use Rattle.dtx_values.specs.Ends.{tag_of, was_got}
use Rattle.dtx_values.specs.Owners.{commits_alone, owner_of}
use Rattle.dtx_values.specs.Row.{is_marked}
use Rattle.dtx_values.specs.Waves.{all_voted, is_over, next_ask, zeros_voted}
use Rattle.dtx_model.specs.declared.listener.Listener.{Listener}
use Rattle.dtx_model.specs.Words.{all_of, each, has, latest, onto}
use Rattle.dtx_model.specs.Entries.{clone_of, decision_of, handed_of, is_any_hand, is_asked, is_commit, is_decision, is_good_vote, is_promoted, is_sealed, is_vote, is_yes}
use Rattle.dtx_model.specs.Observed.{clone_rows, ends_of, is_ask_single, is_request, listeners, observe, rows}
use Rattle.dtx_model.specs.Outcome.{all_vote, by_log, by_owner, by_seal, durables, enlisted, evidence, hears_doubt, is_complete, is_empty, ready, volatiles, voters}
use Rattle.dtx_model.specs.Promotes.{is_promoting, is_under_way}
use Rattle.dtx_model.specs.Waiting.{Waiter, managed, waiting}
use Rattle.dtx_model.specs.Half.{decide, fails_if, to_up, is_promoting as sees_promoting}
use Rattle.dtx_model.specs.Acts.{act_by, act_entries, after_seal, ask_or, asked_act, commit_act, commit_message, commit_sent, hears_abort, is_to_tell, promotable_in, promoted_act, sealed_act, tell, unasked_promotable, undecided_act, under_way, voter_act, yes_act}
use Rattle.dtx_model.specs.World.{World, half}
use Rattle.dtx_model.proofs.Bools.{and_both, and_left, and_right, not_both, not_false, not_true, or_right, three_hold}
use Rattle.history_table.proofs.Tests.{five_hold, four_hold, third_of_four, same_self, close_step, shut_step}
use Rattle.history_table.proofs.Scans.{each_both}
use Rattle.history_table.proofs.Lists.{none_each, passes, each_filter}
use Rattle.history_table.proofs.EntryTests.{all_complete, has_promotable, is_certain, is_decided, is_only, zeros_cast, undecided, all_closed}
use Rattle.history_table.proofs.Owned.{any_hand_seen}
use Rattle.history_table.proofs.Table.{is_abort_decided, is_abort_sent, is_lone_owner, is_single_got, may_commit, may_hand, decision_row, ends_again, ends_with, hears_decision, hears_here, is_again, is_ask_got, is_settled_there, rule, stands_promotable, stands_volatile, volatiles_well}
use Rattle.history_table.proofs.Keeping.{Keeps, before}
use Rattle.history_table.proofs.Recording.{commit_if_sealed, complete_if_sealed, promoted_if_sealed}
use Rattle.history_table.proofs.HalfRows.{all_voted_seen, open_blocks, row_marked, zeros_seen}
use Rattle.history_table.proofs.HalfKnows.{ask_got, way_seen}
use Rattle.history_table.proofs.HalfOwner.{lone_seen, none_promotable, owner_none, owner_only}
use Rattle.history_table.proofs.Evident.{not_all}
use Rattle.history_table.proofs.Deciding.{decide_decides, decide_keeps, decided_there, seen_half}
use Rattle.history_table.proofs.Undecided.{Stands, decided_stand, goes_on, is_willing, promotes_on, stand, way_unsealed}
use Rattle.history_table.proofs.HalfReplies.{to_up_stands, unaborted_yet}
use Rattle.history_table.proofs.NextActs.{asked_volatile, row_volatile, to_tell_well, next_passes}

-- the history doesn't end with a message on the connection of a reenlistment: what it brings is told in its block
abbrev pub IsToldOn : List Entry → Type 0
IsToldOn h = (e : ℕ) → ends_with (is_again e) h ≡ false

told_on : (h : List Entry) (p : Party) → IsToldOn h → ends_again h p ≡ false
told_on h Client t = refl
told_on h (Enl e) t = t e.value

told_row : (h : List Entry) (p : Party) (x : Outcome) → IsToldOn h → latest decision_of h ≡ Some x → (is_certain x || hears_doubt h p) ≡ true → rule h (Told p x) ≡ true
told_row h p x t d q =
    or_right (hears_here h p x) (hears_decision h p x)
    (and_both (is_decided x (latest decision_of h) && (is_certain x || hears_doubt h p)) (not (ends_again h p))
    (and_both (is_decided x (latest decision_of h)) (is_certain x || hears_doubt h p) (ap (is_decided x) d ∙ same_self x) q) (not_false (ends_again h p) (told_on h p t)))

tell_stands : (h : List Entry) (x : Outcome) (l : Option Listener) (t : Option Outcome) → Stands h → IsToldOn h → latest decision_of h ≡ Some x
    → passes (λ l. is_certain x || hears_doubt h (Enl l.enlistment)) l ≡ true → Stands (onto h (tell x l t))
tell_stands h x (Some l) t k e d w = stand (Told (Enl l.enlistment) x) h refl tt k (told_row h (Enl l.enlistment) x e d w) (λ g. g)
tell_stands h x None (Some y) k e d w = k
tell_stands h x None None k e d w = stand (Told Client x) h refl tt k (told_row h Client x e d (or_right (is_certain x) true refl)) (λ g. g)

ask_step : (c m w a v t d : Bool) (r : Bool) → d ≡ false → t ≡ true → m ≡ a → (c ≡ true → v ≡ true) → (not (c && not m && w) || (not a && ((v && t && not d) || r))) ≡ true
ask_step true true w a v t d r p q e f = refl
ask_step true false w true v t d r p q e f = absurd cc
ask_step true false w false true true false r p q e f = or_right (not w) true refl
ask_step true false w false false t d r p q e f = absurd (not_both false (f refl) refl)
ask_step true false w false true false d r p q e f = absurd cc
ask_step true false w false true true true r p q e f = absurd cc
ask_step false m w a v t d r p q e f = refl

next_well : (h : List Entry) (first : Bool) → Keeps h → has is_decision h ≡ false → has is_commit h ≡ true → passes (λ e. rule h (Asked e Prepare)) (next_ask (rows h) first) ≡ true
next_well h first r d c =
    next_passes (λ e. rule h (Asked e Prepare)) (rows h) first
    (λ k x e. ask_step (is_class first x.class) (is_marked x) _ (has (is_asked x.number.value) h) (stands_volatile x.number.value h) (has is_commit h) (has is_decision h) _
    d c (row_marked h k x r e) (λ z. row_volatile h k x e (asked_volatile first x.class z)))

ask_or_stands : (h : List Entry) (q : Option EnlNo) (over : Bool) (next : List Entry) → Stands h → passes (λ e. rule h (Asked e Prepare)) q ≡ true → (over ≡ true → Stands (onto h next))
    → Stands (onto h (ask_or q over next))
ask_or_stands h (Some e) over next k w f = stand (Asked e Prepare) h refl tt k w (λ g. g)
ask_or_stands h None true next k w f = f refl
ask_or_stands h None false next k w f = k

closed_now : (c a : Bool) → (not c || a) ≡ true → c ≡ true → a ≡ true
closed_now true a k e = k
closed_now false a k e = absurd cc

none_under_way : (n : ℕ) (b : Bool) → ((n + (if b then 1 else 0)) == 0) ≡ true → b ≡ false
none_under_way n true k = absurd (step n k)
  where
    step : (n : ℕ) → ((n + 1) == 0) ≡ true → ⊥
    step n k = grind (arith, nat_tests)
none_under_way n false k = refl

may_seal : (h : List Entry) (n : ℕ) → Stands h → has is_decision h ≡ false → has is_commit h ≡ true → has is_sealed h ≡ false
    → is_over (rows h) (clone_rows h) (n + (if sees_promoting (observe h) then 1 else 0)) ≡ true → rule h Sealed ≡ true
unfolding is_over
may_seal h n k d c s o =
    let way = n + (if sees_promoting (observe h) then 1 else 0) in
    let both = and_left (zeros_voted (rows h) && not (has is_open_block (clone_rows h))) (way == 0) o in
    let zeros = sym (zeros_seen h k.keeps) ∙ and_left (zeros_voted (rows h)) (not (has is_open_block (clone_rows h))) both in
    let shut = sym (open_blocks h k.keeps) ∙ not_true (has is_open_block (clone_rows h)) (and_right (zeros_voted (rows h)) (not (has is_open_block (clone_rows h))) both) in
    let still = sym (way_seen h) ∙ none_under_way n (sees_promoting (observe h)) (and_right (zeros_voted (rows h) && not (has is_open_block (clone_rows h))) (way == 0) o) in
    let complete : all_complete h ≡ true =
    each_both (λ c. not (blocks c.1) || is_complete h c) (λ c. blocks c.1 || is_complete h c) (λ c. is_complete h c) (λ c. close_step (blocks c.1) (is_complete h c)) (all_of clone_of h)
    (none_each (λ c. blocks c.1 && not (is_complete h c)) (λ c. not (blocks c.1) || is_complete h c) (λ c. shut_step (blocks c.1) (is_complete h c)) (all_of clone_of h) shut)
    (closed_now (has is_commit h) (all_closed h) (goes_on h k d).closed c) in
    five_hold (not (has is_decision h)) (has is_commit h) (all_complete h) (zeros_cast h) (not (has is_sealed h) && is_settled_there h) (not_false (has is_decision h) d) c complete zeros
    (and_both (not (has is_sealed h)) (is_settled_there h) (not_false (has is_sealed h) s) (settled (has is_promoted h) (has is_promoting h) refl refl still))
  where
    settled : (p q : Bool) → has is_promoted h ≡ p → has is_promoting h ≡ q → is_under_way h ≡ false → (p || not q) ≡ true
    settled true q a b w = refl
    settled false false a b w = refl
    settled false true a b w = absurd (not_both (is_under_way h) (promotes_on h b a (goes_on h k d).unfailed) w)

-- a request comes after the seal
request_sealed : (x : Entry) (h : List Entry) → Keeps h → rule h x ≡ true → is_request x ≡ true → has is_sealed h ≡ true
request_sealed (Requested e q) h k r t = third_of_four (not (has is_decision h)) (has is_promoted h) (has is_sealed h) (stands_promotable e.value h && not (has is_request h)) r
request_sealed _ h k r t = absurd cc

sealed_if_request : (h : List Entry) → Keeps h → has is_request h ≡ true → has is_sealed h ≡ true
sealed_if_request h k t = before is_request is_sealed request_sealed h k t

-- COMMIT is sent of the name that the one durable asks for, where nothing is promotable
commit_row : (h : List Entry) → Keeps h → has is_decision h ≡ false → has is_sealed h ≡ false → has is_promoted h ≡ true → is_some (promotable_in (rows h)) ≡ false → may_commit (Sealed ∷ h) ≡ true
commit_row h k d s p n =
    four_hold true (has is_promoted h) (not (has is_decision h)) (not (has is_abort_sent h) && (not (has_promotable h) || has is_request h)) refl p (not_false (has is_decision h) d)
    (and_both (not (has is_abort_sent h)) (not (has_promotable h) || has is_request h)
    (not_false (has is_abort_sent h) (unaborted_yet h k d (false_from_ne_true (has is_request h) (λ r. not_both (has is_sealed h) (sealed_if_request h k r) s))))
    (or_left (not (has_promotable h)) (has is_request h) (not_false (has_promotable h) (none_promotable h n))))

seal_stands : (h : List Entry) → Stands h → has is_decision h ≡ false → has is_sealed h ≡ false → rule h Sealed ≡ true → Stands (onto h (Sealed ∷ commit_sent (observe h)))
unfolding observe
seal_stands h k d s r = step (has is_promoted h) (is_some (promotable_in (rows h))) refl refl
  where
    sealed : Stands (Sealed ∷ h)
    sealed = stand Sealed h refl tt k r (λ g. g)

    named : may_commit (Sealed ∷ h) ≡ true → (b : Bool) → commits_alone (rows h) ≡ b → Stands (onto (Sealed ∷ h) (to_up (observe h) Begin (if b then BeginCommitOne else BeginCommit)))
    named m true q =
        to_up_stands h (Sealed ∷ h) Begin BeginCommitOne sealed refl (λ o. o) (and_both (may_commit (Sealed ∷ h)) (is_lone_owner (durables h)) m (sym (lone_seen h) ∙ q))
    named m false q =
        to_up_stands h (Sealed ∷ h) Begin BeginCommit sealed refl (λ o. o)
        (and_both (may_commit (Sealed ∷ h)) (not (is_lone_owner (durables h))) m (not_false (is_lone_owner (durables h)) (sym (lone_seen h) ∙ q)))

    step : (p q : Bool) → has is_promoted h ≡ p → is_some (promotable_in (rows h)) ≡ q → Stands (onto (Sealed ∷ h) (if p && not q then to_up (observe h) Begin (commit_message (observe h)) else []))
    step false q e n = sealed
    step true true e n = sealed
    step true false e n = named (commit_row h k.keeps d s e n) (commits_alone (rows h)) refl

-- After the seal. Where all voted, each volatile voted well.
well_now : (h : List Entry) → Stands h → has is_decision h ≡ false → all_voted (rows h) ≡ true → volatiles_well h ≡ true
well_now h k d a =
    each_both (λ x. not (is_volatile x.1) || has (is_vote x.0.value) h) (is_willing h) (λ x. not (is_volatile x.1) || has (is_good_vote x.0.value) h)
    (λ x. step (is_volatile x.1) (has (is_vote x.0.value) h) (has (is_good_vote x.0.value) h)) (enlisted h) (sym (all_voted_seen h k.keeps) ∙ a) (goes_on h k d).willing
  where
    step : (v t g : Bool) → (not v || t) ≡ true → (not v || (not t || g)) ≡ true → (not v || g) ≡ true
    step true true g p q = q
    step true false g p q = absurd cc
    step false t g p q = refl

yes_stands : (h : List Entry) → Stands h → has is_decision h ≡ false → has is_sealed h ≡ true → has is_promoted h ≡ true → has is_ask_got h ≡ true → volatiles_well h ≡ true
    → Stands (onto h (yes_act (observe h)))
unfolding observe
yes_stands h k d s p q v = step (has is_yes h) refl
  where
    step : (b : Bool) → has is_yes h ≡ b → Stands (onto h (if b then [] else LocalYes ∷ to_up (observe h) Voter VoterYes))
    step true e = k
    step false e =
        to_up_stands h (LocalYes ∷ h) Voter VoterYes
        (stand LocalYes h refl tt k
        (five_hold (not (has is_decision h)) (has is_sealed h) (has is_promoted h) (volatiles_well h) (has is_ask_got h && not (has is_yes h)) (not_false (has is_decision h) d) s p v
        (and_both (has is_ask_got h) (not (has is_yes h)) q (not_false (has is_yes h) e))) (λ g. g)) refl (λ o. o) refl

voter_stands : (h : List Entry) (ws : List Waiter) (ms : List (EnlNo × RmNo)) → Stands h → has is_decision h ≡ false → has is_sealed h ≡ true → has is_promoted h ≡ true
    → Stands (onto h (voter_act (seen_half h ws ms)))
unfolding observe
voter_stands h ws ms k d s p = step (was_got Voter (tag_of VoterAsk) (ends_of h)) refl
  where
    step : (b : Bool) → was_got Voter (tag_of VoterAsk) (ends_of h) ≡ b → Stands (onto h (if b then after_seal (seen_half h ws ms) (yes_act (observe h)) else []))
    step true e =
        ask_or_stands h (next_ask (rows h) false) (all_voted (rows h)) (yes_act (observe h)) k (next_well h false k.keeps d (commit_if_sealed h k.keeps s))
        (λ a. yes_stands h k d s p (ask_got h e) (well_now h k d a))
    step false e = k

may_ready : (h : List Entry) → Stands h → has is_decision h ≡ false → has is_sealed h ≡ true → has is_promoted h ≡ false → all_voted (rows h) ≡ true → ready h ≡ true
unfolding ready
may_ready h k d s p a =
    let good = each_filter (λ x. is_volatile x.1) (λ x. has (is_good_vote x.0.value) h) (enlisted h) (well_now h k d a) in
    three_hold (has is_commit h) (all_complete h) (each (λ x. has (is_good_vote x.0.value) h) (voters h)) (commit_if_sealed h k.keeps s) (complete_if_sealed h k.keeps s)
    (here (all_vote h) (not_all h p) good)
  where
    here : (b : Bool) → b ≡ false → each (λ x. has (is_good_vote x.0.value) h) (volatiles h) ≡ true
        → each (λ x. has (is_good_vote x.0.value) h) (if b then volatiles h ++ durables h else volatiles h) ≡ true
    here true e g = absurd cc
    here false e g = g

local_commit : (h : List Entry) → has is_sealed h ≡ true → has is_promoted h ≡ false → ready h ≡ true → durables h ≡ [] → decision_row h Committed ≡ true
unfolding evidence by_seal
local_commit h s p a n =
    let seal : by_seal h ≡ true = three_hold (has is_sealed h) (not (has is_promoted h)) (is_empty (durables h)) s (not_false (has is_promoted h) p) (ap is_empty n) in
    or_right _ (not (has is_promoted h) && evidence h)
    (and_both (not (has is_promoted h)) (evidence h) (not_false (has is_promoted h) p)
    (and_both (ready h) (by_seal h || by_owner h || by_log h) a (or_left (by_seal h || by_owner h) (by_log h) (or_left (by_seal h) (by_owner h) seal))))

settled_way : (h : List Entry) → Keeps h → has is_sealed h ≡ true → sees_promoting (observe h) ≡ true → ⊥
settled_way h k s q = not_both (has is_sealed h) s (way_unsealed h k (sym (way_seen h) ∙ q))

local_hand : (h : List Entry) (e : EnlNo) → has is_decision h ≡ false → (b : Bool) → b ≡ false → (if b then ends_with (is_single_got e.value) h && not (is_abort_decided h) else not (has is_decision h)) ≡ true
local_hand h e d true q = absurd cc
local_hand h e d false q = not_false (has is_decision h) d

commit_stands : (h : List Entry) (ws : List Waiter) (ms : List (EnlNo × RmNo)) (handed : Bool) (owner : Option EnlNo) → Stands h → has is_decision h ≡ false → has is_sealed h ≡ true → has is_promoted h ≡ false
    → ready h ≡ true → handed ≡ has is_any_hand h → owner_of (rows h) ≡ owner → Stands (onto h (if handed then [] else commit_act (seen_half h ws ms) owner))
commit_stands h ws ms true owner k d s p r u o = k
commit_stands h ws ms false (Some e) k d s p r u o =
    let unpromoting = false_from_ne_true (has is_promoting h) (λ q. not_both (has is_promoted h) (promoted_if_sealed h k.keeps s q) p) in
    stand (Handed e) h refl tt k
    (five_hold (may_hand h e.value) (has is_sealed h) (ready h) (is_only e.value (durables h)) (not (has is_any_hand h)) (local_hand h e d (has is_promoting h) unpromoting) s r
    (owner_only h e k.keeps unpromoting o) (not_false (has is_any_hand h) (sym u))) (λ g. g)
commit_stands h ws ms false None k d s p r u o =
    let unpromoting = false_from_ne_true (has is_promoting h) (λ q. not_both (has is_promoted h) (promoted_if_sealed h k.keeps s q) p) in
    let row = local_commit h s p r (owner_none h k.keeps unpromoting o) in
    decided_stand (onto h (decide (seen_half h ws ms) Committed))
    (decide_keeps h ws ms Committed k.keeps d (λ w. absurd (not_both (has is_sealed h) s (way_unsealed h k.keeps w))) (λ b q. by_way row b q))
    (decided_there (onto h (decide (seen_half h ws ms) Committed)) Committed (decide_decides h ws ms Committed))
  where
    by_way : decision_row h Committed ≡ true → (b : Bool) → sees_promoting (observe h) ≡ b → decision_row (onto h (fails_if b)) Committed ≡ true
    by_way row true q = absurd (settled_way h k.keeps s q)
    by_way row false q = row

-- The act, sealed, and after commit.
sealed_stands : (h : List Entry) (ws : List Waiter) (ms : List (EnlNo × RmNo)) → Stands h → has is_decision h ≡ false → has is_sealed h ≡ true → Stands (onto h (sealed_act (seen_half h ws ms)))
unfolding observe
sealed_stands h ws ms k d s = step (has is_promoted h) refl
  where
    single : has is_promoted h ≡ true → (o : Option EnlNo) (b : Bool) → Stands (onto h (elim o as (λ x. List Entry) [ Some e ↦ if b then voter_act (seen_half h ws ms) else Asked e Single ∷ [] | None ↦ voter_act (seen_half h ws ms) ]))
    single p (Some e) true = voter_stands h ws ms k d s p
    single p (Some e) false = stand (Asked e Single) h refl tt k refl (λ g. g)
    single p None b = voter_stands h ws ms k d s p

    step : (b : Bool) → has is_promoted h ≡ b
        → Stands (onto h (if b then promoted_act (seen_half h ws ms) (promotable_in (rows h)) else after_seal (seen_half h ws ms) (if is_some (latest handed_of h) then [] else commit_act (seen_half h ws ms) (owner_of (rows h)))))
    step true p = single p (promotable_in (rows h)) (has is_ask_single h)
    step false p =
        ask_or_stands h (next_ask (rows h) false) (all_voted (rows h)) (if is_some (latest handed_of h) then [] else commit_act (seen_half h ws ms) (owner_of (rows h))) k
        (next_well h false k.keeps d (commit_if_sealed h k.keeps s))
        (λ a. commit_stands h ws ms (is_some (latest handed_of h)) (owner_of (rows h)) k d s p (may_ready h k d s p a) (any_hand_seen h) refl)

asked_stands : (h : List Entry) (ws : List Waiter) (ms : List (EnlNo × RmNo)) → Stands h → has is_decision h ≡ false → has is_commit h ≡ true → Stands (onto h (asked_act (seen_half h ws ms)))
unfolding observe
asked_stands h ws ms k d c = step (has is_sealed h) refl
  where
    step : (b : Bool) → has is_sealed h ≡ b
        → Stands (onto h (if b then sealed_act (seen_half h ws ms) else ask_or (next_ask (rows h) true) (is_over (rows h) (clone_rows h) (under_way (seen_half h ws ms))) (Sealed ∷ commit_sent (observe h))))
    step true s = sealed_stands h ws ms k d s
    step false s =
        ask_or_stands h (next_ask (rows h) true) (is_over (rows h) (clone_rows h) (under_way (seen_half h ws ms))) (Sealed ∷ commit_sent (observe h)) k (next_well h true k.keeps d c)
        (λ o. seal_stands h k d s (may_seal h (length ws) k d c s o))

undecided_stands : (h : List Entry) (ws : List Waiter) (ms : List (EnlNo × RmNo)) (o : Option EnlNo) → Stands h → has is_decision h ≡ false → Stands (onto h (undecided_act (seen_half h ws ms) o))
unfolding observe
undecided_stands h ws ms (Some e) k d = stand (Asked e Promote) h refl tt k refl (λ g. g)
undecided_stands h ws ms None k d = step (has is_commit h) refl
  where
    step : (b : Bool) → has is_commit h ≡ b → Stands (onto h (if b then asked_act (seen_half h ws ms) else []))
    step true c = asked_stands h ws ms k d c
    step false c = k

-- The local act keeps it.
pub act_stands : (w : World) → Stands w.past → IsToldOn w.past → Stands (onto w.past (act_entries (half w)))
unfolding act_entries observe
act_stands w k t = step (latest decision_of w.past) refl
  where
    step : (d : Option Outcome) → latest decision_of w.past ≡ d → Stands (onto w.past (act_by d (half w)))
    step (Some x) e = tell_stands w.past x (find (is_to_tell (observe w.past) x) (listeners w.past)) (half w).seen.told_client k t e (to_tell_well w.past x (hears_abort (observe w.past)))
    step None e = undecided_stands w.past (waiting w.calls w.past) (managed w.calls w.past) (unasked_promotable (observe w.past)) k (undecided w.past e)
