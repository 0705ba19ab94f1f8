-- A settled history of a script in which the coordinator didn't stop, whatever else was lost, and in which the commit was asked for, promoted or not: the client was told, or there is something that
-- it waits for.
use Rattle.std.proofs.Common.{◌≡◌, false, List, refl, ℕ, true, Bool, ◌&&◌, ◌||◌, slice_get, Some, ◌∙◌, ap, sym, subst}
use Rattle.std.specs.Prelude.{if◌then◌else◌, is_none, not, is_some}
use Rattle.std.proofs.lemmas.Bool.{false_from_ne_true, or_left}
use Rattle.dtx_values.specs.declared.call.Call.{Call}
use Rattle.dtx_values.specs.declared.call.Call.TheVariants.{Volatile, Durable, Promotable}
use Rattle.dtx_values.specs.declared.entry.Entry.{Entry}
use Rattle.dtx_values.specs.declared.entry.Entry.TheVariants.{OwnerAnswered, PromoteReply, Requested, Promoting}
use Rattle.dtx_values.specs.declared.message.Conn.TheVariants.{Enl, Begin}
use Rattle.dtx_values.specs.declared.message.Dir.TheVariants.{Up}
use Rattle.dtx_values.specs.declared.note.Plan.{Plan}
use Rattle.dtx_values.specs.declared.number.EnlNo.{EnlNo}
use Rattle.dtx_values.specs.declared.row.Row.{Row}
use Rattle.dtx_values.specs.declared.script.Line.{Line}
use Rattle.dtx_values.specs.declared.words.Class.{Class}
use Rattle.dtx_values.specs.Class.{is_promotable}
use Rattle.dtx_values.specs.Clones.{is_open_block, blocks}
use Rattle.dtx_values.specs.Row.{has_voted, is_marked}
use Rattle.dtx_values.specs.declared.number.ActorNo.{ActorNo}
use Rattle.dtx_model.specs.Words.{has, always, each, all_of, latest}
use Rattle.dtx_model.specs.Entries.{decision_of, handed_of, is_lost, is_owner_answer, is_promote_reply_of, is_request_of, is_asked_to_promote, is_any_owner, is_asked, is_asked_alone, is_hand, is_vote, is_decision, is_promoted, is_commit, client_told_of, clone_of}
use Rattle.dtx_model.specs.Observed.{is_promote_reply, is_request, is_ask_promote, observe, is_ask_single, rows, clone_rows}
use Rattle.dtx_model.specs.Outcome.{enlisted, is_complete}
use Rattle.dtx_model.specs.Promotes.{is_promoting}
use Rattle.dtx_model.specs.Tied.{is_stop}
use Rattle.dtx_model.specs.Wires.{is_lost_wire, WireRun}
use Rattle.dtx_model.specs.declared.waiting.EnteredCall.{EnteredCall}
use Rattle.dtx_model.specs.Waiting.{Waiter, waiting, call_at}
use Rattle.dtx_model.specs.Plans.{plan_of}
use Rattle.dtx_model.specs.Replies.{owes_promotion, may_still_answer, may_still_vote, due_of, is_unsettled, names}
use Rattle.dtx_model.specs.Steps.{Step}
use Rattle.dtx_model.specs.World.{World}
use Rattle.dtx_model.specs.Grammar.{OfEnlistment, are_named_well}
use Rattle.dtx_model.specs.Caused.{AreMadeOnce, IsCallOf, Ran, entered_in, plans_of, FreelyCaused, Settled}
use Rattle.dtx_model.specs.History.{is_silent_to_promote, is_still_lost, is_silent, IsToldOrWaits, is_waiting}
use Rattle.dtx_model.proofs.Bools.{not_both, or_second, and_left, and_right, and_both, not_false, not_true, or_first, or_right}
use Rattle.dtx_model.proofs.Local.{free-local}
use Rattle.dtx_model.specs.Half.{is_gone, is_handed}
use Rattle.history_table.proofs.Keeping.{Keeps}
use Rattle.history_table.proofs.Names.{script_once}
use Rattle.history_table.proofs.Makers.{makes_enlistment, maker_called, AreMade, ran_made, all_unplaced, makes_volatile, lasting_makes, makes_name, makes_lasting}
use Rattle.history_table.proofs.Scans.{has_less, has_more}
use Rattle.history_table.proofs.HalfRows.{row_marked, row_voted, rows_enlisted, open_blocks}
use Rattle.history_table.proofs.Lists.{has-at}
use Rattle.history_table.proofs.Owned.{has_rows}
use Rattle.history_table.proofs.EntryTests.{is_answer, is_enlisted, is_unplanned, is_volatile_made}
use Rattle.history_table.proofs.Undecided.{Stands, hand_seen}
use Rattle.history_table.proofs.Steady.{run_steady}
use Rattle.history_table.proofs.Messages.{COMMIT, ENLIST}
use Rattle.history_table.proofs.Crossed.{is_sent_on, is_got_on}
use Rattle.history_table.proofs.Waiters.{is_on_its_way, is_unplaced}
use Rattle.settled_histories.proofs.Wired.{IsWired}
use Rattle.settled_histories.proofs.LostVoters.{lost_is_gone, AreVoters, gone_cast, gone_was_lost, ran_voters}
use Rattle.settled_histories.proofs.Owed.{IsHeeded, IsUnowed, ArePromised, promotion_replied, AreHeeded, all_answered, all_owned, all_voted, commit_requested, heeded_promised}
use Rattle.settled_histories.proofs.Joined.{IsJoined}
use Rattle.settled_histories.proofs.Fine.{IsFine, is_lone_asked}
use Rattle.settled_histories.proofs.Rest.{IsQuiet, IsUnmoved, IsAtRest, is_once_committed}
use Rattle.settled_histories.proofs.Idle.{IsIdle, ends_seen, idle, none_on_the_way}
use Rattle.settled_histories.proofs.SameRows.{is_made_once}
use Rattle.settled_histories.proofs.BeforeRows.{kept_ordered, kept_sound, kept_begun}
use Rattle.settled_histories.proofs.Requests.{IsRequesting, once_got, ran_requests}
use Rattle.settled_histories.proofs.AllCome.{ran_stood}
use Rattle.settled_histories.proofs.LoneAsked.{lone_stood}
use Rattle.settled_histories.proofs.Heard.{ran_heard}
use Rattle.settled_histories.proofs.Foregoing.{vote_cast, commit_promoted, vote_stood}
use Rattle.settled_histories.proofs.OnceMade.{ran_once}
use Rattle.settled_histories.proofs.Meeting.{ran_paid}
use Rattle.settled_histories.proofs.ByTable.{kept_committed, ruled_later}
use Rattle.settled_histories.proofs.OpenedRows.{kept_opened}
use Rattle.settled_histories.proofs.UnstoppedTies.{unstopped_tied}
use Rattle.settled_histories.proofs.Ending.{ran_goes}
use Rattle.settled_histories.proofs.Announced.{IsUnstopped, ran_announces}
use Rattle.settled_histories.proofs.UndecidedFine.{IsSettling, none_answered, undecided_fine, undecided_joined}
use Rattle.settled_histories.proofs.Openings.{once_sent}
use Rattle.settled_histories.proofs.Prepared.{ran_prepares}
use Rattle.settled_histories.proofs.Climbed.{told_at_rest}
use Rattle.script_histories.proofs.Planned.{plan_same}
use Rattle.script_histories.proofs.ScriptCalls.{waiting_read}
use Rattle.script_histories.proofs.WaitingRuns.{ran_waits}
use Rattle.script_histories.proofs.ClosedTables.{sealed_zeros}
use Rattle.script_histories.proofs.Blocks.{script_kept}
use Rattle.script_histories.proofs.Runs.{free_run}
use Rattle.script_histories.proofs.Silent.{told_or_waits}
use Rattle.outcome_law.proofs.Settlings.{settled_act, settled_unplanned}
use Rattle.outcome_law.proofs.Tabled.{KeepsMore, run_rows}
use Rattle.outcome_law.proofs.ClosedRows.{kept_shut}

-- The plan of one that isn't silent has each reply that is due of it.
reply_of : (e : ℕ) (x : Entry) → is_promote_reply_of e x ≡ true → is_promote_reply x ≡ true
reply_of e (PromoteReply f ok) k = refl
reply_of e x k = absurd cc

second : (a b c d : Bool) → (a && b && c && d) ≡ true → b ≡ true
second a b c d k = and_right a b (and_left (a && b) c (and_left (a && b && c) d k))

request_of : (e : ℕ) (x : Entry) → is_request_of e x ≡ true → is_request x ≡ true
request_of e (Requested f r) k = refl
request_of e x k = absurd cc

pub answer_of : (e : ℕ) (x : Entry) → is_any_owner e x ≡ true → is_owner_answer x ≡ true
answer_of e (OwnerAnswered f o) k = refl
answer_of e x k = absurd cc

-- who was asked to promote and isn't silent to that, and owes its reply, plans one
pub promise_planned : (p : Plan) (h : List Entry) (x : Row) → is_silent_to_promote p h x.number.value ≡ false → has (is_asked_to_promote x.number.value) h ≡ true → owes_promotion (observe h) x ≡ true
    → is_none p.promote ≡ true → ⊥
unfolding observe
promise_planned p h x quiet a o z =
    let n = x.number.value in
    not_both (is_silent_to_promote p h n)
    (and_both (has (is_asked_to_promote n) h && is_none p.promote) (not (has (is_promote_reply_of n) h)) (and_both (has (is_asked_to_promote n) h) (is_none p.promote) a z)
    (not_false (has (is_promote_reply_of n) h)
    (has_less (is_promote_reply_of n) is_promote_reply (reply_of n) h (not_true (has is_promote_reply h) (second has_asked (not (has is_promote_reply h)) (is_promotable x.class) _ o))))) quiet
  where
    has_asked : Bool
    has_asked = has is_ask_promote h

-- who is there and isn't silent, is silent to no note
unsilent : (l b : Bool) → l ≡ false → (not l && b) ≡ false → b ≡ false
unsilent true b n k = absurd cc
unsilent false b n k = k

pub unlost_row : (h : List Entry) (x : Row) → Keeps h → is_gone (observe h) x.number.value ≡ false → (b : Bool) → (not (is_still_lost x.number.value h) && b) ≡ false → b ≡ false
unlost_row h x k there b n = unsilent (is_still_lost x.number.value h) b (false_from_ne_true (is_still_lost x.number.value h) (λ q. not_both (is_gone (observe h) x.number.value) (lost_is_gone h x k q) there)) n

heeded : (p : Plan) (h : List Entry) (i : ℕ) (x : Row) → Keeps h → slice_get (rows h) i ≡ Some x → is_gone (observe h) x.number.value ≡ false → is_silent p h x.number.value ≡ false → IsHeeded p h x
unfolding observe
heeded p h i x k e there silent =
    record {
      votes = λ o z. not_both prepare
          (and_both (has (is_asked n) h && is_none p.vote) (not (has (is_vote n) h))
          (and_both (has (is_asked n) h) (is_none p.vote) (sym (row_marked h i x k e) ∙ and_left (is_marked x) (not (has_voted x)) (and_left (is_marked x && not (has_voted x)) (may_still_vote (observe h) x) o)) z)
          (ap not (sym (row_voted h i x k e)) ∙ and_right (is_marked x) (not (has_voted x)) (and_left (is_marked x && not (has_voted x)) (may_still_vote (observe h) x) o)))
          (or_first prepare hand (or_first (prepare || hand) promote first));
      promotes = promise_planned p h x (or_second (prepare || hand) promote first);
      owns = λ m c o z. not_both hand
          (and_both (has (is_hand n) h && is_none p.owner) (not (has (is_any_owner n) h))
          (and_both (has (is_hand n) h) (is_none p.owner) (sym (hand_seen n h k) ∙ and_left (is_handed (latest handed_of h) n) (may_still_answer (observe h)) o) z)
          (not_false (has (is_any_owner n) h)
          (has_less (is_any_owner n) is_owner_answer (answer_of n) h (unanswered_now (has is_promoted h) (has is_owner_answer h) m (and_right (is_handed (latest handed_of h) n) (may_still_answer (observe h)) o)))))
          (or_second prepare hand (or_first (prepare || hand) promote first));
      commits = λ a o z. not_both single
          (and_both (has (is_asked_alone n) h && is_none p.owner) (not (has (is_request_of n) h)) (and_both (has (is_asked_alone n) h) (is_none p.owner) a z)
          (not_false (has (is_request_of n) h) (has_less (is_request_of n) is_request (request_of n) h (not_true (has is_request h) (second (has is_ask_single h) (not (has is_request h)) (is_promotable x.class) _ o)))))
          (or_second (prepare || hand || promote) single quiet);
    }
  where
    n : ℕ
    n = x.number.value

    prepare : Bool
    prepare = has (is_asked n) h && is_none p.vote && not (has (is_vote n) h)

    hand : Bool
    hand = has (is_hand n) h && is_none p.owner && not (has (is_any_owner n) h)

    promote : Bool
    promote = has (is_asked_to_promote n) h && is_none p.promote && not (has (is_promote_reply_of n) h)

    single : Bool
    single = has (is_asked_alone n) h && is_none p.owner && not (has (is_request_of n) h)

    quiet : (prepare || hand || promote || single) ≡ false
    quiet = unlost_row h x k there (prepare || hand || promote || single) silent

    first : (prepare || hand || promote) ≡ false
    first = or_first (prepare || hand || promote) single quiet

    unanswered_now : (m a : Bool) → m ≡ true → (if m then not a && is_unsettled (latest decision_of h) else not (is_some (latest decision_of h))) ≡ true → a ≡ false
    unanswered_now true true q k = absurd cc
    unanswered_now true false q k = refl
    unanswered_now false a q k = absurd cc

-- what no enlistment passes, no row does
pub none_row : (q : ℕ → Bool) (h : List Entry) (i : ℕ) (x : Row) → has (λ y. q y.0.value) (enlisted h) ≡ false → slice_get (rows h) i ≡ Some x → q x.number.value ≡ false
none_row q h i x quiet e =
    false_from_ne_true (q x.number.value)
    (λ k. not_both (has (λ y. q y.number.value) (rows h)) (has-at (λ y. q y.number.value) (rows h) i x e k) (has_rows (λ (e : EnlNo) (c : Class). q e.value) h ∙ quiet))

-- What is so in a settled history of a script in which the coordinator didn't stop, with a run that made it: it keeps the tables; nothing bad came, and what was lost had carried what it was to carry,
-- unless something is decided; and nothing is owed, on the way or pending.
pub record IsSettledRun (s : List Line) (t : ℕ) (h : List Entry) : Type 0 where
  pub calls : List EnteredCall
  pub steps : List Step
  pub ran : Ran (IsCallOf s t) t steps (record { calls = calls; past = h })
  pub made : AreMadeOnce (IsCallOf s t)
  pub stands : Stands h
  pub more : KeepsMore h
  pub once : always is_made_once h ≡ true
  pub wired : IsWired h
  pub quiet : IsQuiet h
  pub fine : has is_decision h ≡ false → IsFine h
  pub joined : has is_decision h ≡ false → IsJoined h
  pub pended : IsIdle (entered_in s h) h
  pub plans : (e : ℕ) → has (is_enlisted e) h ≡ true → plan_of (entered_in s h) e ≡ plans_of s e
  pub unowed : has is_decision h ≡ false → IsUnowed (plan_of (entered_in s h)) h
  pub committed : always is_once_committed h ≡ true
  pub lone : always is_lone_asked h ≡ true
  pub unanswered : has is_decision h ≡ false → has is_owner_answer h ≡ false
  pub spared : has is_decision h ≡ false → (e : EnlNo) → has (is_lost e.value) h ≡ true → has (is_vote e.value) h ≡ true

-- where nothing is decided, each that is lost has voted
pub lost_cast : (h : List Entry) → KeepsMore h → IsJoined h → IsRequesting h → AreVoters h → has is_owner_answer h ≡ false → has is_decision h ≡ false → (e : EnlNo) → has (is_lost e.value) h ≡ true
    → has (is_vote e.value) h ≡ true
lost_cast h m j q voters n d e l = gone_cast h q m.table.wires voters j.commit (λ e l. vote_cast e h m.table (j.cast e l)) n d e l

-- no owner answered, by either test
pub none_owned : (h : List Entry) → has is_answer h ≡ false → has is_owner_answer h ≡ false
none_owned h n = has_less is_owner_answer is_answer one h n
  where
    one : (x : Entry) → is_owner_answer x ≡ true → is_answer x ≡ true
    one (OwnerAnswered f o) k = refl
    one x k = absurd cc

-- so none is owed
pub unowed_of : (p : ℕ → Plan) (h : List Entry) → KeepsMore h → always is_made_once h ≡ true → IsFine h → IsJoined h → ((e : EnlNo) → has (is_lost e.value) h ≡ true → has (is_vote e.value) h ≡ true) → IsRequesting h
    → each (λ e. is_unplanned (p e.value) (due_of (observe h) e.value)) (names (observe h)) ≡ true → IsUnowed p h
unowed_of p h m once f j lost q unanswered =
    record {
      fine = f;
      spared = λ i x e g. record { has_cast = row_voted h i x m.table e ∙ lost x.number (gone_was_lost h x g) };
      carried = λ i x e l. record { has_cast = row_voted h i x m.table e ∙ cast x.number l };
      requests = q.asked;
      sound = kept_sound h m.table;
      ordered = kept_ordered h m.table;
      once = once;
      there = m.there;
      well = m.well;
      unowed = unanswered;
    }
  where
    cast : (e : EnlNo) → is_lost_wire (Enl e) h ≡ true → has (is_vote e.value) h ≡ true
    cast e l = vote_cast e h m.table (j.cast e l)

pub settled_run : (s : List Line) (t : ℕ) (h : List Entry) → are_named_well s ≡ true → FreelyCaused (IsCallOf s t) t h → has is_stop h ≡ false → Settled s h → IsSettledRun s t h
settled_run s t h named c running settled =
    let G = IsCallOf s t in
    let calls = c.0 in
    let steps = c.1.0 in
    let w : World = record { calls = calls; past = h } in
    let ran = c.1.1 in
    let once = script_once s t named in
    let tie = unstopped_tied G t h c running in
    let stands = (run_steady G t steps w once ran tie).stands in
    let keeps = stands.keeps in
    let more = run_rows G t steps w ran keeps in
    let made : AreMade G calls h = ran_made G t steps w ran in
    let wired : IsWired h = record { opened = kept_opened h keeps; unstopped = running; run = keeps.wires } in
    let stopless : IsUnstopped h = record { keeps = keeps; unstopped = running } in
    let made_once = ran_once G t steps w once ran in
    let requests = ran_requests G t steps w once ran keeps in
    let pays = ran_paid G t steps w ran
    (record {
      run = keeps.wires;
      later = ruled_later h keeps.rules;
      sound = kept_sound h keeps;
      committed = kept_committed h keeps;
      once = more.placed;
    }) in
    let i = idle (entered_in s h) h settled in
    let quiet : IsQuiet h = record { paid = pays.paid; free = pays.free; empty = none_on_the_way h wired i.undelivered } in
    let settling : IsSettling h =
    record {
      stands = stands;
      wired = wired;
      caused = more.caused;
      ordered = kept_ordered h keeps;
      quiet = quiet;
      going = ran_goes G t steps w once ran tie;
      announced = ran_announces G t steps w ran stopless;
      requests = requests;
      stood = ran_stood G t steps w ran keeps;
      heard = ran_heard G t steps w ran;
      ended = λ c p l d. ends_seen c h wired i.undelivered p l d;
    } in
    let unanswered : has is_decision h ≡ false → has is_owner_answer h ≡ false = λ d. none_owned h (none_answered h settling d (undecided_joined h settling d)) in
    let voters = ran_voters G t steps w once ran stopless in
    let spared : has is_decision h ≡ false → (e : EnlNo) → has (is_lost e.value) h ≡ true → has (is_vote e.value) h ≡ true = λ d. lost_cast h more (undecided_joined h settling d) requests voters (unanswered d) d in
    record {
      calls = calls;
      steps = steps;
      ran = ran;
      made = once;
      stands = stands;
      more = more;
      once = made_once;
      wired = wired;
      quiet = quiet;
      fine = undecided_fine h settling;
      joined = undecided_joined h settling;
      pended = i;
      plans = λ e q. let m = (made.enlisted e q).0 in
          plan_same s t e h named (record { number = m.number; actor = m.actor; call = m.call; given = m.may; passes = maker_called e m.call m.passes; called = m.called });
      unowed =
          λ d. unowed_of (plan_of (entered_in s h)) h more made_once (undecided_fine h settling d) (undecided_joined h settling d) (spared d) requests i.unanswered;
      committed = once_got h keeps.wires requests.once;
      lone = lone_stood h keeps settling.stood;
      unanswered = unanswered;
      spared = spared;
    }

-- where a promotion began in it, and the promotable's plan has a reply to that, it can't go on
pub unmoved : (s : List Line) (t : ℕ) (h : List Entry) → IsSettledRun s t h → has is_promoting h ≡ true → (has is_promoted h ≡ false → ArePromised (plan_of (entered_in s h)) h) → IsUnmoved (entered_in s h) h
unmoved s t h r began promised =
    let G = IsCallOf s t in
    let w : World = record { calls = r.calls; past = h } in
    let same : waiting r.calls h ≡ waiting (entered_in s h) h = waiting_read s t r.steps w r.ran in
    let keeps = r.stands.keeps in
    record {
      fine = r.fine;
      joined = r.joined;
      later = ruled_later h keeps.rules;
      sound = kept_sound h keeps;
      ordered = kept_ordered h keeps;
      stood = λ e k. vote_stood e h keeps (vote_cast e h keeps k);
      paying = r.quiet.paid;
      free = r.quiet.free;
      waits = λ p. subst (λ (ws : List Waiter). each (is_on_its_way h) ws ≡ true) same (ran_waits G t r.steps w r.ran p);
      unplaced = subst (λ (ws : List Waiter). each (is_unplaced h) ws ≡ true) same (all_unplaced G r.calls h r.made (ran_made G t r.steps w r.ran));
      empty = r.quiet.empty;
      act = r.pended.act;
      replied =
          λ d n. promotion_replied (plan_of (entered_in s h)) h (r.unowed d) (promised n) d
          (false_from_ne_true (has (is_sent_on Begin Up COMMIT) h) (λ q. not_both (has is_promoted h) (commit_promoted h (kept_sound h keeps) q) n));
      started = began;
    }

volatile_makes : (e : ℕ) (c : Call) → makes_volatile e c ≡ true → makes_enlistment e c ≡ true
volatile_makes e (Volatile t f x v) k = k
volatile_makes e _ k = absurd cc

-- no enlistment of which the coordinator got ENLIST is volatile
pub all_lasting : (G : ℕ → ActorNo → Call → Type 0) (ks : List EnteredCall) (h : List Entry) → AreMadeOnce G → AreMade G ks h → WireRun h → (e : EnlNo) → has (is_got_on (Enl e) Up ENLIST) h ≡ true
    → has (is_volatile_made e.value) h ≡ false
all_lasting G ks h once a run e k =
    false_from_ne_true (has (is_volatile_made e.value) h)
    (λ q. let m = a.sent e (once_sent (Enl e) Up ENLIST h run k) in
    let v = a.volatile e.value q in
    let lines : m.number ≡ v.number =
    once m.number v.number m.actor v.actor m.call v.call (OfEnlistment e.value) m.may v.may (makes_name e.value m.call (lasting_makes e.value m.call m.passes))
    (makes_name e.value v.call (volatile_makes e.value v.call v.passes)) in
    let both : Some m.call ≡ Some v.call = sym m.entered ∙ ap (call_at ks) lines ∙ v.entered in
    let same : m.call ≡ v.call = cc in
    apart_calls e.value v.call (subst (λ c. makes_lasting e.value c ≡ true) same m.passes) v.passes)
  where
    apart_calls : (e : ℕ) (c : Call) → makes_lasting e c ≡ true → makes_volatile e c ≡ true → ⊥
    apart_calls e (Volatile t f x v) p q = cc
    apart_calls e (Durable t f r s) p q = cc
    apart_calls e (Promotable t f r v x y) p q = cc
    apart_calls e _ p q = cc

-- Where the commit was asked for too, no blocking clone is open, and the plans have each reply that is due, it is at rest.
pub at_rest : (s : List Line) (t : ℕ) (h : List Entry) → IsSettledRun s t h → has is_promoting h ≡ true → has is_commit h ≡ true → has is_open_block (clone_rows h) ≡ false
    → AreHeeded (plan_of (entered_in s h)) h → IsAtRest (entered_in s h) h
at_rest s t h r began asked closed all =
    let G = IsCallOf s t in
    let w : World = record { calls = r.calls; past = h } in
    let p = plan_of (entered_in s h) in
    let keeps = r.stands.keeps in
    record {
      unmoved = unmoved s t h r began (λ n. heeded_promised p h all);
      begun = kept_begun h keeps;
      zeros = sealed_zeros h (kept_shut h keeps);
      closed = closed;
      once = r.committed;
      prepares =
          λ d n. ran_prepares G t r.steps w r.ran
          (record { fine = r.fine d; sound = kept_sound h keeps; ordered = kept_ordered h keeps; begun = kept_begun h keeps; once = r.committed; undecided = (r.joined d).undecided });
      lasting = all_lasting G r.calls h r.made (ran_made G t r.steps w r.ran) keeps.wires;
      append = r.pended.append;
      answered = λ d. all_answered p h (r.unowed d) all d;
      voted = λ d l e k. all_voted p h (r.unowed d) all d l e.value k;
      requested = λ d. commit_requested p h (r.unowed d) all d;
      owned = λ d e k. all_owned p h keeps (r.unowed d) all began d e k;
      unanswered = r.unanswered;
      spared = r.spared;
      asked = asked;
    }

-- where nobody is silent, the plans have each reply that is due
none_silent : (s : List Line) (t : ℕ) (h : List Entry) → IsSettledRun s t h → has (λ x. is_silent (plans_of s x.0.value) h x.0.value) (enlisted h) ≡ false → AreHeeded (plan_of (entered_in s h)) h
none_silent s t h r quiet = λ i x e there.
    let keeps = r.stands.keeps in
    subst (λ q. IsHeeded q h x) (sym (r.plans x.number.value (rows_enlisted h i x keeps e)))
    (heeded (plans_of s x.number.value) h i x keeps e there (none_row (λ n. is_silent (plans_of s n) h n) h i x quiet e))

-- Where the coordinator didn't stop: a settled history in which the commit was asked for, promoted or not. Where it waits for nothing, it is at rest; so its client was told.
pub told_promoted : (s : List Line) (t : ℕ) (h : List Entry) → are_named_well s ≡ true → FreelyCaused (IsCallOf s t) t h → has is_stop h ≡ false → IsToldOrWaits s h
told_promoted s t h named c running = λ settled asked. by settled asked (has is_promoting h) refl
  where
    same_entry : (x : Entry) → is_promoting x ≡ true → is_promoting x ≡ true
    same_entry (Promoting c) k = k
    same_entry _ k = absurd cc

    waits : (b : Bool) → is_waiting s h ≡ b → (b ≡ false → is_some (latest client_told_of h) ≡ true) → (is_some (latest client_told_of h) || b) ≡ true
    waits true e f = or_right (is_some (latest client_told_of h)) true refl
    waits false e f = or_left (is_some (latest client_told_of h)) false (f refl)

    rests : IsSettledRun s t h → has is_promoting h ≡ true → has is_commit h ≡ true → is_waiting s h ≡ false → IsAtRest (entered_in s h) h
    rests r began asked idles =
        let blocked = has (λ c. blocks c.1 && not (is_complete h c)) (all_of clone_of h) in
        let silent = has (λ x. is_silent (plans_of s x.0.value) h x.0.value) (enlisted h) in
        at_rest s t h r began asked (open_blocks h r.stands.keeps ∙ or_first blocked silent idles) (none_silent s t h r (or_second blocked silent idles))

    by : Settled s h → has is_commit h ≡ true → (b : Bool) → has is_promoting h ≡ b → (is_some (latest client_told_of h) || is_waiting s h) ≡ true
    by settled asked true q =
        waits (is_waiting s h) refl
        (λ n. told_at_rest (entered_in s h) h (rests (settled_run s t h named c running settled) (has_more is_promoting is_promoting same_entry h q) asked n))
    by settled asked false q =
        let kept = script_kept s t h named c (ap not q) in
        let home = free-local (IsCallOf s t) t h c (ap not q) in
        let run = free_run (IsCallOf s t) t h c (ap not q) in
        told_or_waits s h kept (settled_act s t h named run home kept.rules settled) (settled_unplanned s t h named run home kept.rules settled) asked
