-- What the single phase makes of what is kept.
use Rattle.std.proofs.Common.{◌≡◌, ◌∙◌, ◌&&◌, ◌||◌, Bool, true, false, List, [], ◌∷◌, ◌++◌, map, None, Some, refl, ap, sym, if◌then◌else◌}
use Rattle.dtx_values.specs.declared.entry.Entry.{Entry}
use Rattle.dtx_values.specs.declared.entry.Entry.TheVariants.{Down as End, Sent}
use Rattle.dtx_values.specs.declared.message.Conn.{Conn}
use Rattle.dtx_values.specs.declared.message.Conn.TheVariants.{Begin, Voter, Enl, Again}
use Rattle.dtx_values.specs.declared.message.Dir.TheVariants.{Down, Up}
use Rattle.dtx_values.specs.declared.message.Message.{Message}
use Rattle.dtx_values.specs.declared.message.Message.TheVariants.{BeginCommitOne, BeginCommitted, BeginInDoubt, EnlistOneAborted, EnlistOneCommitted, EnlistOneInDoubt, EnlistSingle, VoterAsk, VoterCommit, VoterInDoubt, VoterYes}
use Rattle.dtx_values.specs.declared.number.EnlNo.{EnlNo}
use Rattle.dtx_values.specs.Ends.{same_connection}
use Rattle.dtx_model.specs.declared.desk.Ballot.TheVariants.{Refused}
use Rattle.dtx_model.specs.declared.desk.Desk.{Desk}
use Rattle.dtx_model.specs.declared.desk.Stage.{Stage}
use Rattle.dtx_model.specs.declared.desk.Stage.TheVariants.{Idle, Active, Sole, Given, Answered, Aborted, Recorded, Over, Unknown}
use Rattle.dtx_model.specs.Words.{has}
use Rattle.dtx_model.specs.Coordinated.{Coordinated, abort_if, abort_sends, accepts, core_down, core_got, decides, doubt_sends, follow, follow_all, hears_one, is_active, is_early, is_going, is_one, is_sole, is_undecided, sole_if, stage_if, to, to_each, with_ballot}
use Rattle.coordinator_core.specs.Kept.{Kept, after_got, after_loss, answers, both_told, is_deciding, loss_block, off_block, single_sends, sole_block, staged_if}
use Rattle.coordinator_core.proofs.Aborting.{either_way, ended}
use Rattle.coordinator_core.proofs.Following.{after_begin, after_if, after_none, after_quiet, after_voter, follow_all-append}
use Rattle.coordinator_core.proofs.Unlined.{either, no_vote}

-- where the test fails the stage is kept, and nothing is written
pub not_off : (b : Bool) (k : Coordinated) → b ≡ false → k ≡ follow_all (staged_if b Aborted k) (off_block b k)
not_off true k fails = absurd cc
not_off false k fails = sym (after_none k)

-- asking the voter changes nothing, and nothing is asked where COMMIT isn't accepted
pub asked : (a b : Bool) (k : Coordinated) → a ≡ true → b ≡ true → k ≡ follow_all k (sole_block a b k)
asked true true k accepted one = sym (after_voter k k VoterAsk)
asked true false k accepted one = absurd cc
asked false b k accepted one = absurd cc

pub not_asked : (a b : Bool) (k : Coordinated) → a ≡ false → k ≡ follow_all k (sole_block a b k)
not_asked true b k fails = absurd cc
not_asked false b k fails = sym (after_none k)

-- two messages, on b and on v, change nothing
pub both_quiet : (b : Bool) (x y : Message) (k j : Coordinated) → follow_all k (both_told b x y j) ≡ k
both_quiet b x y k j = after_if b k (to j Begin x ++ to j Voter y) (after_quiet k (to j Begin x) (to j Voter y) (after_begin k j x) ∙ after_voter k j y)

-- with this stage
abbrev pub staged : Stage → Coordinated → Coordinated
staged s k = record { stage = s; commit = k.commit; yes = k.yes; no = k.no; desks = k.desks; known = k.known; waits = k.waits; recovered = k.recovered; stopped = k.stopped }

-- the connection of the enlistment is known
abbrev pub reaches : Coordinated → Desk → Bool
reaches k d = has (same_connection (Enl d.enlistment)) k.known

-- a further SINGLE changes nothing
one_given : (b : Bool) (k : Coordinated) (e : EnlNo) → follow_all (staged Given k) (if b then Sent (Enl e) Down EnlistSingle ∷ [] else []) ≡ staged Given k
unfolding follow follow_all
one_given true k e = refl
one_given false k e = refl

still_given : (k j : Coordinated) (ds : List Desk) → follow_all (staged Given k) (to_each j EnlistSingle ds) ≡ staged Given k
still_given k j [] = after_none (staged Given k)
still_given k j (d ∷ ds) = after_quiet (staged Given k) (to j (Enl d.enlistment) EnlistSingle) (to_each j EnlistSingle ds) (one_given (reaches j d) k d.enlistment) ∙ still_given k j ds

-- the first SINGLE gives it
first_given : (b c : Bool) (k : Coordinated) (e : EnlNo) (rest : List Entry) → follow_all (staged Given k) rest ≡ staged Given k → follow_all (staged Sole k) rest ≡ staged (stage_if c Given Sole) k
    → follow_all (follow_all (staged Sole k) (if b then Sent (Enl e) Down EnlistSingle ∷ [] else [])) rest ≡ staged (stage_if (b || c) Given Sole) k
unfolding follow follow_all
first_given true c k e rest given more = given
first_given false c k e rest given more = more

sole_given : (k j : Coordinated) (ds : List Desk) → follow_all (staged Sole k) (to_each j EnlistSingle ds) ≡ staged (stage_if (has (reaches j) ds) Given Sole) k
sole_given k j [] = after_none (staged Sole k)
sole_given k j (d ∷ ds) =
    follow_all-append (staged Sole k) (to j (Enl d.enlistment) EnlistSingle) (to_each j EnlistSingle ds)
    ∙ first_given (reaches j d) (has (reaches j) ds) k d.enlistment (to_each j EnlistSingle ds) (still_given k j ds) (sole_given k j ds)

-- what SINGLE makes of what is kept, where COMMIT for a single phase was got; elsewhere nothing is sent
pub given_all : (k : Coordinated) → is_sole k.stage ≡ true → staged_if (has (reaches k) k.desks) Given k ≡ follow_all k (single_sends k)
given_all k sole = by k.stage refl sole
  where
    by : (s : Stage) → k.stage ≡ s → is_sole s ≡ true → staged_if (has (reaches k) k.desks) Given k ≡ follow_all k (single_sends k)
    by Sole is held =
        let before : staged_if (has (reaches k) k.desks) Given k ≡ staged (stage_if (has (reaches k) k.desks) Given Sole) k = ap (λ (s : Stage). staged (stage_if (has (reaches k) k.desks) Given s) k) is in
        before ∙ sym (sole_given k k k.desks) ∙ (λ i. follow_all (staged (sym is i) k) (if is_sole (sym is i) then to_each k EnlistSingle k.desks else []))
    by Idle is held = absurd cc
    by Active is held = absurd cc
    by Given is held = absurd cc
    by Answered is held = absurd cc
    by Aborted is held = absurd cc
    by Recorded is held = absurd cc
    by Over is held = absurd cc
    by Unknown is held = absurd cc

pub none_given : (k : Coordinated) → is_sole k.stage ≡ false → k ≡ follow_all k (single_sends k)
none_given k fails = by (is_sole k.stage) fails
  where
    by : (b : Bool) → b ≡ false → k ≡ follow_all k (if b then to_each k EnlistSingle k.desks else [])
    by true failed = absurd cc
    by false failed = sym (after_none k)

-- with the voter's YES noted, where the test holds
abbrev with_yes : Bool → Coordinated → Coordinated
with_yes b k = record { stage = k.stage; commit = k.commit; yes = b; no = k.no; desks = k.desks; known = k.known; waits = k.waits; recovered = k.recovered; stopped = k.stopped }

abbrev pub agreed : Bool → Coordinated → Coordinated
agreed b k = with_yes (k.yes || b) k

pub yes_all : (s : Kept) → follow_all (agreed (is_going s.state.stage) s.state) (single_sends (agreed (is_going s.state.stage) s.state)) ≡ (after_got s Voter VoterYes).state
unfolding follow follow_all core_got
yes_all s = ap (λ (b : Bool). follow_all (with_yes b s.state) (single_sends (with_yes b s.state))) (either_way s.state.yes (is_going s.state.stage))

pub yes_block : (s : Kept) → single_sends (agreed (is_going s.state.stage) s.state) ≡ answers s Voter VoterYes
unfolding core_got
yes_block s = refl

-- at this stage, with COMMIT for a single phase noted, where the test holds
abbrev with_commit : Stage → Bool → Coordinated → Coordinated
with_commit s b k = record { stage = s; commit = b; yes = k.yes; no = k.no; desks = k.desks; known = k.known; waits = k.waits; recovered = k.recovered; stopped = k.stopped }

abbrev pub soled : Stage → Bool → Coordinated → Coordinated
soled s b k = with_commit s (k.commit || b) k

pub sole_all : (s : Kept) → let k = s.state in let now = soled (sole_if (accepts k) (is_one k.desks) k.stage) (is_active k.stage) k in
    follow_all now (sole_block (accepts k) (is_one k.desks) now) ≡ (after_got s Begin BeginCommitOne).state
unfolding follow follow_all core_got
sole_all s =
    let k = s.state in
    let now : Bool → Coordinated = λ b. with_commit (sole_if (accepts k) (is_one k.desks) k.stage) b k in
    ap (λ (b : Bool). follow_all (now b) (sole_block (accepts k) (is_one k.desks) (now b))) (either_way k.commit (is_active k.stage))

pub sole_written : (s : Kept) → let k = s.state in sole_block (accepts k) (is_one k.desks) (soled (sole_if (accepts k) (is_one k.desks) k.stage) (is_active k.stage) k) ≡ answers s Begin BeginCommitOne
unfolding follow core_got
sole_written s = refl

-- an answer that is no vote leaves the votes
same_desks : (k : Coordinated) (e : EnlNo) → (if is_active k.stage then map (with_ballot e.value None) k.desks else k.desks) ≡ k.desks
same_desks k e = either (is_active k.stage) (map (with_ballot e.value None) k.desks) k.desks (no_vote e.value k.desks)

abbrev with_desks : List Desk → Stage → Coordinated → Coordinated
with_desks ds s k = record { stage = s; commit = k.commit; yes = k.yes; no = k.no; desks = ds; known = k.known; waits = k.waits; recovered = k.recovered; stopped = k.stopped }

-- what the answer of the one that decides makes of what is kept
pub committed_all : (s : Kept) (e : EnlNo) → staged_if (decides s.state e.value) Answered s.state ≡ (after_got s (Enl e) EnlistOneCommitted).state
unfolding follow follow_all core_got
committed_all s e =
    let k = s.state in
    let d = decides k e.value in
    let block = both_told d BeginCommitted VoterCommit k in
    sym (both_quiet d BeginCommitted VoterCommit (staged_if d Answered k) k)
    ∙ ap (λ (ds : List Desk). follow_all (with_desks ds (stage_if d Answered k.stage) k) block) (sym (same_desks k e))

pub committed_block : (s : Kept) (e : EnlNo) → both_told (decides s.state e.value) BeginCommitted VoterCommit s.state ≡ answers s (Enl e) EnlistOneCommitted
unfolding core_got
committed_block s e = refl

pub in_doubt_block : (s : Kept) (e : EnlNo) → both_told (decides s.state e.value) BeginInDoubt VoterInDoubt s.state ≡ answers s (Enl e) EnlistOneInDoubt
unfolding core_got
in_doubt_block s e = refl

pub in_doubt_all : (s : Kept) (e : EnlNo) → staged_if (decides s.state e.value) Answered s.state ≡ (after_got s (Enl e) EnlistOneInDoubt).state
unfolding follow follow_all core_got
in_doubt_all s e =
    let k = s.state in
    let d = decides k e.value in
    let block = both_told d BeginInDoubt VoterInDoubt k in
    sym (both_quiet d BeginInDoubt VoterInDoubt (staged_if d Answered k) k)
    ∙ ap (λ (ds : List Desk). follow_all (with_desks ds (stage_if d Answered k.stage) k) block) (sym (same_desks k e))

-- with these desks, where one's Aborted came
abbrev pub desked : List Desk → Coordinated → Coordinated
desked ds k = with_desks ds k.stage k

pub aborted_all : (s : Kept) (e : EnlNo) → let b = hears_one s.state e.value in let now = desked (if b then map (with_ballot e.value (Some Refused)) s.state.desks else s.state.desks) s.state in
    follow_all (staged_if b Aborted now) (off_block b now) ≡ (after_got s (Enl e) EnlistOneAborted).state
unfolding follow follow_all core_got
aborted_all s e = refl

pub aborted_written : (s : Kept) (e : EnlNo) → let b = hears_one s.state e.value in off_block b (desked (if b then map (with_ballot e.value (Some Refused)) s.state.desks else s.state.desks) s.state) ≡ answers s (Enl e) EnlistOneAborted
unfolding follow core_got
aborted_written s e = refl

-- what an end makes of what is kept, and what is written
pub ended_all : (k : Coordinated) (c : Conn) → after_loss (is_deciding k c) (is_early k c) (ended c k) ≡ follow_all k (End c Up ∷ core_down k c)
unfolding follow follow_all core_down
ended_all k Begin = refl
ended_all k Voter = refl
ended_all k (Again e) = refl
ended_all k (Enl e) = by (decides k e.value)
  where
    now : Coordinated
    now = ended (Enl e) k

    by : (b : Bool) → after_loss b (is_early k (Enl e)) now
        ≡ follow_all (staged (if b then Answered else abort_if (is_early k (Enl e)) k.stage) now) (if b then doubt_sends now else if is_early k (Enl e) && is_undecided k.stage then abort_sends now else [])
    by true = sym (both_quiet true BeginInDoubt VoterInDoubt (staged Answered now) now)
    by false = refl

pub ended_written : (k : Coordinated) (c : Conn) → loss_block (is_deciding k c) (is_early k c) (ended c k) ≡ core_down k c
unfolding follow core_down
ended_written k Begin = refl
ended_written k Voter = refl
ended_written k (Again e) = refl
ended_written k (Enl e) = refl
