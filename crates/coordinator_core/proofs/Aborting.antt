-- What an abort, an end and the other messages of the outcome make of what is kept.
use Rattle.std.proofs.Common.{List, ◌≡◌, ◌∙◌, ◌&&◌, ◌||◌, Bool, true, false, [], ◌∷◌, refl, ap, sym, if◌then◌else◌}
use Rattle.dtx_values.specs.declared.entry.Entry.TheVariants.{Down as End, LogFull}
use Rattle.dtx_values.specs.declared.message.Conn.{Conn}
use Rattle.dtx_values.specs.declared.message.Conn.TheVariants.{Begin, Voter, Enl}
use Rattle.dtx_values.specs.declared.message.Dir.TheVariants.{Up}
use Rattle.dtx_values.specs.declared.message.Message.TheVariants.{BeginCommit, EnlistNo, VoterNo}
use Rattle.dtx_values.specs.declared.number.EnlNo.{EnlNo}
use Rattle.dtx_model.specs.declared.desk.Ballot.TheVariants.{Refused}
use Rattle.dtx_model.specs.declared.desk.Stage.{Stage}
use Rattle.dtx_model.specs.declared.desk.Stage.TheVariants.{Idle, Active, Sole, Given, Answered, Aborted, Recorded, Over, Unknown}
use Rattle.dtx_model.specs.Coordinated.{Coordinated, abort_if, abort_sends, core_got, follow, follow_all, is_active, is_going, is_undecided, waits_after, without}
use Rattle.coordinator_core.specs.Kept.{Kept, abort_block, aborted_if, after_got, answers, voted}
use Rattle.coordinator_core.proofs.Following.{after_ask, after_none}

-- where nothing aborts, nothing changes
pub nothing_done : (b : Bool) (k : Coordinated) → (b && is_undecided k.stage) ≡ false → k ≡ follow_all (aborted_if b k) (abort_block b k)
nothing_done b k fails = by (b && is_undecided k.stage) fails
  where
    by : (t : Bool) → t ≡ false
        → k ≡ follow_all (record { stage = if t then Aborted else k.stage; commit = k.commit; yes = k.yes; no = k.no; desks = k.desks; known = k.known; waits = k.waits; recovered = k.recovered; stopped = k.stopped }) (if t then abort_sends k else [])
    by true fails = absurd cc
    by false fails = sym (after_none k)

-- with these connections known, and these waiting
abbrev pub with_lists : List Conn → List EnlNo → Coordinated → Coordinated
with_lists known waits k =
    record { stage = k.stage; commit = k.commit; yes = k.yes; no = k.no; desks = k.desks; known = known; waits = waits; recovered = k.recovered; stopped = k.stopped }

-- with the connection's end seen, and nobody waiting there
abbrev pub ended : Conn → Coordinated → Coordinated
ended c k =
    record { stage = k.stage; commit = k.commit; yes = k.yes; no = k.no; desks = k.desks; known = without c k.known; waits = waits_after (End c Up) k.waits; recovered = k.recovered; stopped = k.stopped }

-- a test that is noted comes before or after what stood
pub either_way : (a b : Bool) → (a || b) ≡ (b || a)
either_way true true = refl
either_way true false = refl
either_way false true = refl
either_way false false = refl

-- with COMMIT, or the voter's NO, noted where the test holds
abbrev pub noted : Bool → Kept → Kept
noted b s = record {
  transaction = s.transaction;
  state = record { stage = s.state.stage; commit = s.state.commit || b; yes = s.state.yes; no = s.state.no; desks = s.state.desks; known = s.state.known; waits = s.state.waits; recovered = s.state.recovered; stopped = s.state.stopped };
}

abbrev with_commit : Kept → Bool → Kept
with_commit s b = record {
  transaction = s.transaction;
  state = record { stage = s.state.stage; commit = b; yes = s.state.yes; no = s.state.no; desks = s.state.desks; known = s.state.known; waits = s.state.waits; recovered = s.state.recovered; stopped = s.state.stopped };
}

abbrev pub refused : Bool → Coordinated → Coordinated
refused b k =
    record { stage = k.stage; commit = k.commit; yes = k.yes; no = k.no || b; desks = k.desks; known = k.known; waits = k.waits; recovered = k.recovered; stopped = k.stopped }

abbrev with_no : Bool → Coordinated → Coordinated
with_no b k =
    record { stage = k.stage; commit = k.commit; yes = k.yes; no = b; desks = k.desks; known = k.known; waits = k.waits; recovered = k.recovered; stopped = k.stopped }

-- what COMMIT makes of what is kept
pub commit_all : (s : Kept) → noted (is_active s.state.stage) s ≡ after_got s Begin BeginCommit
unfolding follow follow_all core_got
commit_all s =
    let k = s.state in
    let before : noted (is_active k.stage) s ≡ with_commit s (is_active k.stage || k.commit) = ap (with_commit s) (either_way k.commit (is_active k.stage)) in
    before ∙ (λ i. record { transaction = s.transaction; state = sym (after_ask (with_commit s (is_active k.stage || k.commit)).state k) i })

-- what the voter's NO makes of what is kept, and what is written
pub no_all : (s : Kept) → follow_all (aborted_if true (refused (is_going s.state.stage) s.state)) (abort_block true (refused (is_going s.state.stage) s.state)) ≡ (after_got s Voter VoterNo).state
unfolding follow follow_all core_got
no_all s = ap (λ (b : Bool). follow_all (aborted_if true (with_no b s.state)) (abort_block true (with_no b s.state))) (either_way s.state.no (is_going s.state.stage))

pub no_block : (s : Kept) → abort_block true (refused (is_going s.state.stage) s.state) ≡ answers s Voter VoterNo
unfolding follow core_got
no_block s = ap (λ (b : Bool). abort_block true (with_no b s.state)) (either_way s.state.no (is_going s.state.stage))

-- what an enlistment's NO makes of what is kept, and what is written
pub refusal_all : (s : Kept) (e : EnlNo) → follow_all (aborted_if true (voted e.value Refused s.state)) (abort_block true (voted e.value Refused s.state)) ≡ (after_got s (Enl e) EnlistNo).state
unfolding follow follow_all core_got
refusal_all s e = refl

pub refusal_block : (s : Kept) (e : EnlNo) → abort_block true (voted e.value Refused s.state) ≡ answers s (Enl e) EnlistNo
unfolding follow core_got
refusal_block s e = refl

-- aborted by a log that is full
abbrev pub aborted : Coordinated → Coordinated
aborted k =
    record { stage = Aborted; commit = k.commit; yes = k.yes; no = k.no; desks = k.desks; known = k.known; waits = k.waits; recovered = k.recovered; stopped = k.stopped }

pub full_all : (k : Coordinated) → is_active k.stage ≡ true → follow_all (aborted k) (abort_sends (aborted k)) ≡ follow_all k (LogFull ∷ abort_sends (follow k LogFull))
unfolding follow follow_all
full_all k active = λ i. follow_all (here i) (abort_sends (here i))
  where
    by : (s : Stage) → is_active s ≡ true → Aborted ≡ abort_if true s
    by Active held = refl
    by Idle held = refl
    by Sole held = absurd cc
    by Given held = absurd cc
    by Answered held = absurd cc
    by Aborted held = absurd cc
    by Recorded held = absurd cc
    by Over held = absurd cc
    by Unknown held = absurd cc

    here : aborted k ≡ aborted_if true k
    here = λ i. record { stage = by k.stage active i; commit = k.commit; yes = k.yes; no = k.no; desks = k.desks; known = k.known; waits = k.waits; recovered = k.recovered; stopped = k.stopped }
