-- What the coordinator does after a message and after an end leaves less.
use Rattle.std.proofs.Common.{◌≡◌, ℕ, ◌+◌, ◌*◌, ◌<◌, ◌≤◌, ◌==◌, Bool, true, false, ◌&&◌, ◌||◌, not, List, [], ◌∷◌, ◌++◌, length, map, Some, None, if◌then◌else◌, refl, ap, ◌∙◌, arith}
use Rattle.std.proofs.lemmas.List.{length-map}
use Rattle.dtx_values.specs.declared.entry.Entry.{Entry}
use Rattle.dtx_values.specs.declared.entry.Entry.TheVariants.{Got, Down as Ended, Sent}
use Rattle.dtx_values.specs.declared.message.Conn.{Conn}
use Rattle.dtx_values.specs.declared.message.Conn.TheVariants.{Begin, Voter, Enl, Again}
use Rattle.dtx_values.specs.declared.message.Dir.TheVariants.{Up, Down}
use Rattle.dtx_values.specs.declared.message.Info.{Info}
use Rattle.dtx_values.specs.declared.message.Message.{Message}
use Rattle.dtx_values.specs.declared.message.Message.TheVariants.{BeginBegin, BeginCommit, BeginCommitOne, BeginBegun, VoterVoter, VoterYes, VoterCreated, VoterRefused, VoterAsk, VoterAbort, EnlistEnlist, EnlistAck, EnlistEnlisted, EnlistRefused, EnlistPrepare, EnlistAbort, EnlistOneAborted, EnlistOneCommitted, EnlistOneInDoubt, EnlistSingle, ReenlistReenlist, ReenlistCommitted, ReenlistAborted}
use Rattle.dtx_values.specs.declared.number.EnlNo.{EnlNo}
use Rattle.dtx_values.specs.Ends.{same_connection}
use Rattle.dtx_values.specs.Lines.{has_line}
use Rattle.dtx_values.specs.Table.{enl_number, insert_by}
use Rattle.dtx_model.specs.declared.desk.Ballot.TheVariants.{Refused}
use Rattle.dtx_model.specs.declared.desk.Desk.{Desk}
use Rattle.dtx_model.specs.declared.desk.Stage.{Stage}
use Rattle.dtx_model.specs.declared.desk.Stage.TheVariants.{Idle, Active, Sole, Given, Answered, Aborted, Recorded, Over, Unknown}
use Rattle.dtx_model.specs.declared.waiting.EnteredCall.{EnteredCall}
use Rattle.dtx_model.specs.Coordinated.{Coordinated, abort_block, abort_if, abort_sends, accepts, aborts, but, coordinate, core_down, core_got, decides, doubt_sends, ended_block, follow, has_aborted, has_desk, hears_one, is_active, is_early, is_given, is_one, is_recorded, is_sole, is_undecided, one_sends, opening_answer, opening_by, stage_if, to, to_each, with_ballot}
use Rattle.dtx_model.specs.Entries.{is_commit_message}
use Rattle.dtx_model.specs.Observed.{observe}
use Rattle.dtx_model.specs.Wires.{in_transit, is_ended}
use Rattle.dtx_model.specs.Words.{has, onto}
use Rattle.dtx_model.proofs.Bools.{and_left, and_never}
use Rattle.dtx_model.proofs.Counts.{length-insert_by}
use Rattle.history_table.proofs.SinglePhase.{sole_one}
use Rattle.half_parts.proofs.Lists.{length-filter-le}
use Rattle.world_laws.specs.Left.{commits, core_left, opened, outcome_left, weight}
use Rattle.world_laws.proofs.LeftCore.{IsFewer, abort-core, asks-le, decides_on, fewer-core, got-fewer, is_special, single-core}
use Rattle.world_laws.proofs.LeftCoordinator.{begin-core, commit-core, commit-one-core, enlist-core, free-abort, free-doubt, free-each2, free-one, free-to, got-by, got-left, is-left-given, not-one-core}
use Rattle.world_laws.proofs.LeftSpend.{Free, falls-by, free-join, free-more, free-none, left, less-free}
use Rattle.world_laws.proofs.LeftHalf.{half-free}
use Rattle.world_laws.proofs.LeftWires.{wires-end, wires-sent}

no : false ≡ true → ⊥
no e = absurd cc

-- REENLIST: one more waits, which counts while nothing is decided
again-core : (asks : ℕ) (k : Coordinated) (e : EnlNo) (i : Info) → core_left asks (follow k (Got (Again e) Up (ReenlistReenlist i))) ≤ core_left asks k + (if is_recorded k.stage then 0 else if has_aborted k.stage then 0 else 3)
unfolding follow
again-core asks k e i =
    let more = length-insert_by enl_number e (but e.value k.waits) in
    let less = length-filter-le (λ (f : EnlNo). not (e.value == f.value)) k.waits in
    let a = by k.stage (length k.desks + length (insert_by enl_number e (but e.value k.waits))) (length k.desks + length k.waits) (omega arith) in omega arith
  where
    by : (s : Stage) (n m : ℕ) → n ≤ m + 1 → outcome_left s n ≤ outcome_left s m + (if is_recorded s then 0 else if has_aborted s then 0 else 3)
    by Idle n m l = omega arith
    by Active n m l = omega arith
    by Sole n m l = omega arith
    by Given n m l = omega arith
    by Answered n m l = omega arith
    by Aborted n m l = omega arith
    by Recorded n m l = omega arith
    by Over n m l = omega arith
    by Unknown n m l = omega arith

-- the answer to VOTER and to ENLIST
answer-cheap : (n : ℕ) (good abort : Message) (refused : ℕ → Message) → weight Down good ≤ n → weight Down abort ≤ n → weight Down (refused 1) ≤ n → weight Down (refused 2) ≤ n → (s : Stage) (b : Bool)
    → weight Down (opening_by s b good abort refused) ≤ n
answer-cheap n good abort refused p q r t Aborted b = q
answer-cheap n good abort refused p q r t Unknown b = t
answer-cheap n good abort refused p q r t Over b = t
answer-cheap n good abort refused p q r t Active true = r
answer-cheap n good abort refused p q r t Active false = p
answer-cheap n good abort refused p q r t Idle b = r
answer-cheap n good abort refused p q r t Sole b = r
answer-cheap n good abort refused p q r t Given b = r
answer-cheap n good abort refused p q r t Answered b = r
answer-cheap n good abort refused p q r t Recorded b = r

-- a message that the coordinator only notes, or by which it aborts
noted : (ks : List EnteredCall) (h : List Entry) (c : Conn) (m : Message) (ms : List Message) → in_transit c Up h ≡ m ∷ ms → has (same_connection c) (opened h) ≡ true → IsFewer (coordinate h) (Got c Up m)
    → 1 ≤ weight Up m
    → left ks (onto h (Got c Up m ∷ (if aborts (coordinate h) (Got c Up m) && is_undecided (coordinate h).stage then abort_sends (follow (coordinate h) (Got c Up m)) else []))) < left ks h
noted ks h c m ms t o i w = by (aborts (coordinate h) (Got c Up m) && is_undecided (coordinate h).stage) refl
  where
    by : (b : Bool) → (aborts (coordinate h) (Got c Up m) && is_undecided (coordinate h).stage) ≡ b
        → left ks (onto h (Got c Up m ∷ (if b then abort_sends (follow (coordinate h) (Got c Up m)) else []))) < left ks h
    by true q =
        let n = 3 * length (coordinate h).desks + 3 * length (coordinate h).waits in
        let a = got-left ks h c m ms 0 (n + 6) t o (let z = abort-core (commits (Got c Up m ∷ h)) (coordinate h) (Got c Up m) i q in omega arith) in
        falls-by ks h (abort_sends (follow (coordinate h) (Got c Up m))) (Got c Up m) (n + 6) (n + 4) (omega arith)
        (less-free (free-more (n + 4) (let x = i.desks in let y = i.waits in omega arith) (free-abort (follow (coordinate h) (Got c Up m))))) (omega arith)
    by false q =
        let a = got-left ks h c m ms 0 0 t o (let z = fewer-core (commits (Got c Up m ∷ h)) (coordinate h) (Got c Up m) i in omega arith) in
        falls-by ks h [] (Got c Up m) 1 0 (omega arith) (less-free (free-none 0)) (omega arith)

up_weight : (m : Message) → 1 ≤ weight Up m
up_weight BeginBegin = omega arith
up_weight (VoterVoter u) = omega arith
up_weight (EnlistEnlist i) = omega arith
up_weight (ReenlistReenlist i) = omega arith
up_weight m = omega arith

got_begin : (ks : List EnteredCall) (h : List Entry) (id : ℕ) (ms : List Message) → in_transit Begin Up h ≡ BeginBegin ∷ ms → has (same_connection Begin) (opened h) ≡ true
    → left ks (onto h (Got Begin Up BeginBegin ∷ to (follow (coordinate h) (Got Begin Up BeginBegin)) Begin (BeginBegun id))) < left ks h
got_begin ks h id ms t o =
    let a = got-left ks h Begin BeginBegin ms 0 0 t o (let z = begin-core (commits h) (coordinate h) in omega arith) in
    falls-by ks h (to (follow (coordinate h) (Got Begin Up BeginBegin)) Begin (BeginBegun id)) (Got Begin Up BeginBegin) 20 19 (omega arith)
    (less-free (free-to (follow (coordinate h) (Got Begin Up BeginBegin)) Begin (BeginBegun id) 19 (omega arith))) (omega arith)

got_voter : (ks : List EnteredCall) (h : List Entry) (u : ℕ) (ms : List Message) → in_transit Voter Up h ≡ VoterVoter u ∷ ms → has (same_connection Voter) (opened h) ≡ true
    → left ks (onto h (Got Voter Up (VoterVoter u) ∷ to (follow (coordinate h) (Got Voter Up (VoterVoter u))) Voter (opening_answer (coordinate h) VoterCreated VoterAbort VoterRefused))) < left ks h
got_voter ks h u ms t o =
    let k = coordinate h in
    let a = got-left ks h Voter (VoterVoter u) ms 0 0 t o (let z = fewer-core (commits h) k (Got Voter Up (VoterVoter u)) (got-fewer k Voter (VoterVoter u) refl refl) in omega arith) in
    let cheap = answer-cheap 14 VoterCreated VoterAbort VoterRefused (omega arith) (omega arith) (omega arith) (omega arith) k.stage k.commit in
    falls-by ks h (to (follow k (Got Voter Up (VoterVoter u))) Voter (opening_answer k VoterCreated VoterAbort VoterRefused)) (Got Voter Up (VoterVoter u)) 15 14 (omega arith)
    (less-free (free-to (follow k (Got Voter Up (VoterVoter u))) Voter (opening_answer k VoterCreated VoterAbort VoterRefused) 14 cheap)) (omega arith)

got_enlist : (ks : List EnteredCall) (h : List Entry) (e : EnlNo) (i : Info) (ms : List Message) → in_transit (Enl e) Up h ≡ EnlistEnlist i ∷ ms → has (same_connection (Enl e)) (opened h) ≡ true
    → left ks (onto h (Got (Enl e) Up (EnlistEnlist i) ∷ to (follow (coordinate h) (Got (Enl e) Up (EnlistEnlist i))) (Enl e) (opening_answer (coordinate h) EnlistEnlisted EnlistAbort EnlistRefused))) < left ks h
got_enlist ks h e i ms t o =
    let k = coordinate h in
    let a = got-left ks h (Enl e) (EnlistEnlist i) ms 7 0 t o (let z = enlist-core (commits h) k e i in omega arith) in
    let cheap = answer-cheap 2 EnlistEnlisted EnlistAbort EnlistRefused (omega arith) (omega arith) (omega arith) (omega arith) k.stage k.commit in
    falls-by ks h (to (follow k (Got (Enl e) Up (EnlistEnlist i))) (Enl e) (opening_answer k EnlistEnlisted EnlistAbort EnlistRefused)) (Got (Enl e) Up (EnlistEnlist i)) 3 2 (omega arith)
    (less-free (free-to (follow k (Got (Enl e) Up (EnlistEnlist i))) (Enl e) (opening_answer k EnlistEnlisted EnlistAbort EnlistRefused) 2 cheap)) (omega arith)

got_commit : (ks : List EnteredCall) (h : List Entry) (ms : List Message) → in_transit Begin Up h ≡ BeginCommit ∷ ms → has (same_connection Begin) (opened h) ≡ true → commits h ≤ 1
    → left ks (onto h (Got Begin Up BeginCommit ∷ (if is_active (coordinate h).stage then to (coordinate h) Voter VoterAsk ++ to_each (coordinate h) EnlistPrepare (coordinate h).desks else []))) < left ks h
got_commit ks h ms t o n = by (is_active (coordinate h).stage) refl
  where
    by : (b : Bool) → is_active (coordinate h).stage ≡ b
        → left ks (onto h (Got Begin Up BeginCommit ∷ (if b then to (coordinate h) Voter VoterAsk ++ to_each (coordinate h) EnlistPrepare (coordinate h).desks else []))) < left ks h
    by true q =
        let k = coordinate h in
        let d = 2 * length (coordinate h).desks + 2 in
        let a = got-by ks h Begin BeginCommit ms 0 d t o (let z = commit-core (commits h) k n in omega arith) in
        falls-by ks h (to k Voter VoterAsk ++ to_each k EnlistPrepare k.desks) (Got Begin Up BeginCommit) (d + 1) d (omega arith)
        (less-free (free-more d (omega arith) (free-join (free-to k Voter VoterAsk 2 (omega arith)) (free-each2 k EnlistPrepare k.desks (omega arith))))) (omega arith)
    by false q =
        let a = got-by ks h Begin BeginCommit ms 0 0 t o (let z = commit-core (commits h) (coordinate h) n in omega arith) in
        falls-by ks h [] (Got Begin Up BeginCommit) 1 0 (omega arith) (less-free (free-none 0)) (omega arith)

-- COMMIT for a single phase leaves who came, and who came back
one-phase-same : (k : Coordinated) → (length (follow k (Got Begin Up BeginCommitOne)).desks ≡ length k.desks) × (length (follow k (Got Begin Up BeginCommitOne)).waits ≡ length k.waits)
unfolding follow
one-phase-same k = (refl, refl)

-- COMMIT for a single phase: the voter is asked, or the outcome is sent
got_commit_one : (ks : List EnteredCall) (h : List Entry) (ms : List Message) → in_transit Begin Up h ≡ BeginCommitOne ∷ ms → has (same_connection Begin) (opened h) ≡ true → commits h ≤ 1
    → left ks (onto h (Got Begin Up BeginCommitOne
    ∷ (if not (accepts (coordinate h)) then [] else if is_one (coordinate h).desks then to (coordinate h) Voter VoterAsk else abort_sends (follow (coordinate h) (Got Begin Up BeginCommitOne))))) < left ks h
got_commit_one ks h ms t o n = by (accepts (coordinate h)) (is_one (coordinate h).desks) refl refl
  where
    k : Coordinated
    k = coordinate h

    by : (a b : Bool) → accepts k ≡ a → is_one k.desks ≡ b
        → left ks (onto h (Got Begin Up BeginCommitOne ∷ (if not a then [] else if b then to k Voter VoterAsk else abort_sends (follow k (Got Begin Up BeginCommitOne))))) < left ks h
    by false b p q =
        let a = got-by ks h Begin BeginCommitOne ms 0 0 t o (let z = commit-one-core (commits h) k n in omega arith) in
        falls-by ks h [] (Got Begin Up BeginCommitOne) 1 0 (omega arith) (less-free (free-none 0)) (omega arith)
    by true true p q =
        let a = got-by ks h Begin BeginCommitOne ms 0 2 t o (let z = commit-one-core (commits h) k n in omega arith) in
        falls-by ks h (to k Voter VoterAsk) (Got Begin Up BeginCommitOne) 3 2 (omega arith) (less-free (free-to k Voter VoterAsk 2 (omega arith))) (omega arith)
    by true false p q =
        let x : Entry = Got Begin Up BeginCommitOne in
        let r = 3 * length k.desks + 3 * length k.waits in
        let a = got-left ks h Begin BeginCommitOne ms 0 (r + 6) t o (let z = not-one-core (commits (x ∷ h)) k p q in omega arith) in
        falls-by ks h (abort_sends (follow k x)) x (r + 6) (r + 4) (omega arith)
        (less-free (free-more (r + 4) (let y = (one-phase-same k).0 in let z = (one-phase-same k).1 in omega arith) (free-abort (follow k x)))) (omega arith)

-- YES: where COMMIT for a single phase came, SINGLE is sent to the one enlistment
single_sent : (ks : List EnteredCall) (h : List Entry) (e : EnlNo) → is_sole (coordinate h).stage ≡ true → left ks (Sent (Enl e) Down EnlistSingle ∷ h) ≤ left ks h
unfolding coordinate
single_sent ks h e s =
    let a = half-free ks (Sent (Enl e) Down EnlistSingle) h refl in
    let b = single-core (commits h) (coordinate h) e in
    let two = part (is_sole (coordinate h).stage) s in
    let w = wires-sent (Enl e) Down EnlistSingle h in omega arith
  where
    part : (b : Bool) → b ≡ true → 2 ≤ (if b then 2 else 0)
    part true s = omega arith
    part false s = absurd cc

yes_stage : (h : List Entry) → is_sole (coordinate (Got Voter Up VoterYes ∷ h)).stage ≡ is_sole (coordinate h).stage
unfolding coordinate follow
yes_stage h = refl

yes_known : (h : List Entry) → (coordinate (Got Voter Up VoterYes ∷ h)).known ≡ (coordinate h).known
unfolding coordinate follow
yes_known h = refl

got_yes : (ks : List EnteredCall) (h : List Entry) (ms : List Message) → in_transit Voter Up h ≡ VoterYes ∷ ms → has (same_connection Voter) (opened h) ≡ true
    → left ks (onto h (Got Voter Up VoterYes ∷ (if is_sole (coordinate h).stage then to_each (coordinate h) EnlistSingle (coordinate h).desks else []))) < left ks h
got_yes ks h ms t o = by (is_sole (coordinate h).stage) refl
  where
    k : Coordinated
    k = coordinate h

    x : Entry
    x = Got Voter Up VoterYes

    less : left ks (x ∷ h) + 1 ≤ left ks h
    less = let a = got-left ks h Voter VoterYes ms 0 0 t o (let z = fewer-core (commits (x ∷ h)) k x (got-fewer k Voter VoterYes refl refl) in omega arith) in omega arith

    one_desk : (d : Desk) (b : Bool) → is_sole k.stage ≡ true → left ks (onto (x ∷ h) ((if b then Sent (Enl d.enlistment) Down EnlistSingle ∷ [] else []) ++ [])) ≤ left ks (x ∷ h)
    one_desk d true q = single_sent ks (x ∷ h) d.enlistment (yes_stage h ∙ q)
    one_desk d false q = omega arith

    desks : (ds : List Desk) → is_one ds ≡ true → is_sole k.stage ≡ true → left ks (onto (x ∷ h) (to_each k EnlistSingle ds)) ≤ left ks (x ∷ h)
    desks (d ∷ []) one q = one_desk d (has (same_connection (Enl d.enlistment)) k.known) q
    desks [] one q = absurd cc
    desks (d ∷ e ∷ ds) one q = absurd cc

    by : (b : Bool) → is_sole k.stage ≡ b → left ks (onto h (x ∷ (if b then to_each k EnlistSingle k.desks else []))) < left ks h
    by true q = let a = less in let c = desks k.desks (sole_one h q) q in omega arith
    by false q = let a = less in omega arith

-- by the entry the one that decides answers, or is lost: the coordinator keeps its desks, and knows of no decision
record IsAnswered (k : Coordinated) (x : Entry) : Type 0 where
  stage : (follow k x).stage ≡ Answered
  desks : (follow k x).desks ≡ k.desks
  stopped : (follow k x).stopped ≡ k.stopped

-- the answer of the one that decides: b and v are told
one_falls : (ks : List EnteredCall) (h : List Entry) (e : EnlNo) (m : Message) (ms : List Message) (es : List Entry) → in_transit (Enl e) Up h ≡ m ∷ ms → has (same_connection (Enl e)) (opened h) ≡ true → 1 ≤ weight Up m
    → decides (coordinate h) e.value ≡ true → (follow (coordinate h) (Got (Enl e) Up m)).stage ≡ Answered → (follow (coordinate h) (Got (Enl e) Up m)).desks ≡ (coordinate h).desks
    → (follow (coordinate h) (Got (Enl e) Up m)).stopped ≡ (coordinate h).stopped → Free es 4 → left ks (onto h (Got (Enl e) Up m ∷ es)) < left ks h
one_falls ks h e m ms es t o w d s r p f =
    let k = coordinate h in
    let x : Entry = Got (Enl e) Up m in
    let a = got-left ks h (Enl e) m ms 0 6 t o (let z = is-left-given (commits (x ∷ h)) k x (and_left (is_given k.stage) (has_desk k e.value) d) s r p in omega arith) in
    falls-by ks h es x 6 4 (omega arith) (less-free f) (omega arith)

-- in its stage an answer leaves the desks as they were
given_desks : (s : Stage) (xs ys : List Desk) → is_given s ≡ true → (if is_active s then xs else ys) ≡ ys
given_desks Given xs ys g = refl
given_desks Idle xs ys g = absurd cc
given_desks Active xs ys g = absurd cc
given_desks Sole xs ys g = absurd cc
given_desks Answered xs ys g = absurd cc
given_desks Aborted xs ys g = absurd cc
given_desks Recorded xs ys g = absurd cc
given_desks Over xs ys g = absurd cc
given_desks Unknown xs ys g = absurd cc

is_given_by : (k : Coordinated) (e : EnlNo) → decides k e.value ≡ true → is_given k.stage ≡ true
is_given_by k e d = and_left (is_given k.stage) (has_desk k e.value) d

-- an answer that isn't heard is only noted
unheard-fewer : (k : Coordinated) (e : EnlNo) (b : Bool) → (follow k (Got (Enl e) Up (if b then EnlistOneCommitted else EnlistOneInDoubt))).stage ≡ k.stage
    → IsFewer k (Got (Enl e) Up (if b then EnlistOneCommitted else EnlistOneInDoubt))
unfolding follow
unheard-fewer k e true s = record { desks = mapped (is_active k.stage); waits = omega arith; stage = s; stopped = refl }
  where
    mapped : (b : Bool) → length (if b then map (with_ballot e.value None) k.desks else k.desks) ≤ length k.desks
    mapped true = let z = length-map k.desks (with_ballot e.value None) in omega arith
    mapped false = omega arith
unheard-fewer k e false s = record { desks = mapped (is_active k.stage); waits = omega arith; stage = s; stopped = refl }
  where
    mapped : (b : Bool) → length (if b then map (with_ballot e.value None) k.desks else k.desks) ≤ length k.desks
    mapped true = let z = length-map k.desks (with_ballot e.value None) in omega arith
    mapped false = omega arith

-- the end of its connection by a message that has no line
unlined-answered : (k : Coordinated) (e : EnlNo) (m : Message) → is_special (Enl e) m ≡ false → has_line (Enl e) Up m ≡ false → decides k e.value ≡ true → IsAnswered k (Got (Enl e) Up m)
unfolding follow
unlined-answered k e (EnlistEnlist i) f p d = absurd cc
unlined-answered k e EnlistOneCommitted f p d = absurd cc
unlined-answered k e EnlistOneAborted f p d = absurd cc
unlined-answered k e EnlistOneInDoubt f p d = absurd cc
unlined-answered k e EnlistAck f p d = absurd cc
unlined-answered k e m f p d =
    record {
      stage = there (has_line (Enl e) Up m) (decides k e.value) (abort_if (aborts k (Got (Enl e) Up m)) k.stage) p d;
      desks = given_desks k.stage _ k.desks (is_given_by k e d);
      stopped = refl;
    }
  where
    there : (b c : Bool) (s : Stage) → b ≡ false → c ≡ true → (if b then s else if c then Answered else s) ≡ Answered
    there true c s p d = absurd cc
    there false true s p d = refl
    there false false s p d = absurd cc

-- onecommitted and oneindoubt
got_committed : (ks : List EnteredCall) (h : List Entry) (e : EnlNo) (ms : List Message) → in_transit (Enl e) Up h ≡ EnlistOneCommitted ∷ ms → has (same_connection (Enl e)) (opened h) ≡ true
    → left ks (onto h (Got (Enl e) Up EnlistOneCommitted ∷ (if decides (coordinate h) e.value then one_sends (coordinate h) else []))) < left ks h
unfolding follow
got_committed ks h e ms t o = by (decides (coordinate h) e.value) refl
  where
    by : (b : Bool) → decides (coordinate h) e.value ≡ b → left ks (onto h (Got (Enl e) Up EnlistOneCommitted ∷ (if b then one_sends (coordinate h) else []))) < left ks h
    by true d =
        one_falls ks h e EnlistOneCommitted ms (one_sends (coordinate h)) t o (omega arith) d (ap (λ (b : Bool). stage_if b Answered (coordinate h).stage) d)
        (given_desks (coordinate h).stage _ (coordinate h).desks (is_given_by (coordinate h) e d)) refl (free-one (coordinate h))
    by false d = noted ks h (Enl e) EnlistOneCommitted ms t o (unheard-fewer (coordinate h) e true (ap (λ (b : Bool). stage_if b Answered (coordinate h).stage) d)) (omega arith)

got_doubt : (ks : List EnteredCall) (h : List Entry) (e : EnlNo) (ms : List Message) → in_transit (Enl e) Up h ≡ EnlistOneInDoubt ∷ ms → has (same_connection (Enl e)) (opened h) ≡ true
    → left ks (onto h (Got (Enl e) Up EnlistOneInDoubt ∷ (if decides (coordinate h) e.value then doubt_sends (coordinate h) else []))) < left ks h
unfolding follow
got_doubt ks h e ms t o = by (decides (coordinate h) e.value) refl
  where
    by : (b : Bool) → decides (coordinate h) e.value ≡ b → left ks (onto h (Got (Enl e) Up EnlistOneInDoubt ∷ (if b then doubt_sends (coordinate h) else []))) < left ks h
    by true d =
        one_falls ks h e EnlistOneInDoubt ms (doubt_sends (coordinate h)) t o (omega arith) d (ap (λ (b : Bool). stage_if b Answered (coordinate h).stage) d)
        (given_desks (coordinate h).stage _ (coordinate h).desks (is_given_by (coordinate h) e d)) refl (free-doubt (coordinate h))
    by false d = noted ks h (Enl e) EnlistOneInDoubt ms t o (unheard-fewer (coordinate h) e false (ap (λ (b : Bool). stage_if b Answered (coordinate h).stage) d)) (omega arith)

-- oneaborted: what is left where it is heard, and where it isn't
heard-out : (s : Stage) (d : Bool) (n : ℕ) → (is_undecided s || (is_given s && d)) ≡ true → 3 * n + 6 ≤ outcome_left s n
heard-out Idle d n q = omega arith
heard-out Active d n q = omega arith
heard-out Sole d n q = omega arith
heard-out Given d n q = omega arith
heard-out Answered d n q = absurd cc
heard-out Aborted d n q = absurd cc
heard-out Recorded d n q = absurd cc
heard-out Over d n q = absurd cc
heard-out Unknown d n q = absurd cc

one-aborted-same : (k : Coordinated) (e : EnlNo)
    → (length (follow k (Got (Enl e) Up EnlistOneAborted)).desks ≤ length k.desks) × (length (follow k (Got (Enl e) Up EnlistOneAborted)).waits ≡ length k.waits)
unfolding follow
one-aborted-same k e = (by (hears_one k e.value), refl)
  where
    by : (b : Bool) → length (if b then map (with_ballot e.value (Some Refused)) k.desks else k.desks) ≤ length k.desks
    by true = let z = length-map k.desks (with_ballot e.value (Some Refused)) in omega arith
    by false = omega arith

one-aborted-core : (asks : ℕ) (k : Coordinated) (e : EnlNo) → hears_one k e.value ≡ true
    → core_left asks (follow k (Got (Enl e) Up EnlistOneAborted)) + (3 * length k.desks + 3 * length k.waits + 6) ≤ core_left asks k
unfolding follow
one-aborted-core asks k e q =
    let d = one-aborted-same k e in
    let out = heard-out k.stage (has_desk k e.value) (length k.desks + length k.waits) q in
    let z = asks-le asks (2 * length (follow k (Got (Enl e) Up EnlistOneAborted)).desks + 2) (2 * length k.desks + 2) (let y = d.0 in omega arith) in
    rw (ap (λ (b : Bool). stage_if b Aborted k.stage) q) (omega arith)

one-aborted-unheard : (k : Coordinated) (e : EnlNo) → hears_one k e.value ≡ false → IsFewer k (Got (Enl e) Up EnlistOneAborted)
unfolding follow
one-aborted-unheard k e q = record { desks = (one-aborted-same k e).0; waits = omega arith; stage = ap (λ (b : Bool). stage_if b Aborted k.stage) q; stopped = refl }

-- oneaborted: the outcome is sent, where it is heard
got_aborted : (ks : List EnteredCall) (h : List Entry) (e : EnlNo) (ms : List Message) → in_transit (Enl e) Up h ≡ EnlistOneAborted ∷ ms → has (same_connection (Enl e)) (opened h) ≡ true
    → left ks (onto h (Got (Enl e) Up EnlistOneAborted ∷ (if hears_one (coordinate h) e.value then abort_sends (follow (coordinate h) (Got (Enl e) Up EnlistOneAborted)) else []))) < left ks h
got_aborted ks h e ms t o = by (hears_one (coordinate h) e.value) refl
  where
    k : Coordinated
    k = coordinate h

    x : Entry
    x = Got (Enl e) Up EnlistOneAborted

    by : (b : Bool) → hears_one k e.value ≡ b → left ks (onto h (x ∷ (if b then abort_sends (follow k x) else []))) < left ks h
    by true q =
        let r = 3 * length k.desks + 3 * length k.waits in
        let s = one-aborted-same k e in
        let a = got-left ks h (Enl e) EnlistOneAborted ms 0 (r + 6) t o (let z = one-aborted-core (commits (x ∷ h)) k e q in omega arith) in
        falls-by ks h (abort_sends (follow k x)) x (r + 6) (r + 4) (omega arith)
        (less-free (free-more (r + 4) (let y = s.0 in let z = s.1 in omega arith) (free-abort (follow k x)))) (omega arith)
    by false q = noted ks h (Enl e) EnlistOneAborted ms t o (one-aborted-unheard k e q) (omega arith)

got_again : (ks : List EnteredCall) (h : List Entry) (e : EnlNo) (i : Info) (ms : List Message) → in_transit (Again e) Up h ≡ ReenlistReenlist i ∷ ms → has (same_connection (Again e)) (opened h) ≡ true
    → left ks (onto h (Got (Again e) Up (ReenlistReenlist i)
    ∷ (if is_recorded (coordinate h).stage then to (follow (coordinate h) (Got (Again e) Up (ReenlistReenlist i))) (Again e) ReenlistCommitted
    else if has_aborted (coordinate h).stage then to (follow (coordinate h) (Got (Again e) Up (ReenlistReenlist i))) (Again e) ReenlistAborted else []))) < left ks h
got_again ks h e i ms t o = by (is_recorded (coordinate h).stage) (has_aborted (coordinate h).stage) (again-core (commits h) (coordinate h) e i)
  where
    k : Coordinated
    k = follow (coordinate h) (Got (Again e) Up (ReenlistReenlist i))

    by : (b c : Bool) → core_left (commits h) k ≤ core_left (commits h) (coordinate h) + (if b then 0 else if c then 0 else 3)
        → left ks (onto h (Got (Again e) Up (ReenlistReenlist i) ∷ (if b then to k (Again e) ReenlistCommitted else if c then to k (Again e) ReenlistAborted else []))) < left ks h
    by true c l =
        let a = got-left ks h (Again e) (ReenlistReenlist i) ms 0 0 t o (let z = l in omega arith) in
        falls-by ks h (to k (Again e) ReenlistCommitted) (Got (Again e) Up (ReenlistReenlist i)) 4 3 (omega arith) (less-free (free-to k (Again e) ReenlistCommitted 3 (omega arith))) (omega arith)
    by false true l =
        let a = got-left ks h (Again e) (ReenlistReenlist i) ms 0 0 t o (let z = l in omega arith) in
        falls-by ks h (to k (Again e) ReenlistAborted) (Got (Again e) Up (ReenlistReenlist i)) 4 3 (omega arith) (less-free (free-to k (Again e) ReenlistAborted 3 (omega arith))) (omega arith)
    by false false l =
        let a = got-left ks h (Again e) (ReenlistReenlist i) ms 3 0 t o (let z = l in omega arith) in
        falls-by ks h [] (Got (Again e) Up (ReenlistReenlist i)) 1 0 (omega arith) (less-free (free-none 0)) (omega arith)

-- any other message: it is only noted, or the coordinator aborts by it, or by it the connection of the one that decides ends
rest_falls : (ks : List EnteredCall) (h : List Entry) (c : Conn) (m : Message) (ms : List Message) → in_transit c Up h ≡ m ∷ ms → has (same_connection c) (opened h) ≡ true → is_special c m ≡ false
    → left ks (onto h (Got c Up m
    ∷ (if has_line c Up m then abort_block (coordinate h) (Got c Up m) else if decides_on (coordinate h) c then doubt_sends (follow (coordinate h) (Got c Up m)) else abort_block (coordinate h) (Got c Up m))))
    < left ks h
rest_falls ks h c m ms t o f = by (has_line c Up m) (decides_on (coordinate h) c) refl refl
  where
    k : Coordinated
    k = coordinate h

    x : Entry
    x = Got c Up m

    plain : (not (has_line c Up m) && decides_on k c) ≡ false → left ks (onto h (x ∷ abort_block k x)) < left ks h
    plain d = noted ks h c m ms t o (got-fewer k c m f d) (up_weight m)

    by : (b d : Bool) → has_line c Up m ≡ b → decides_on k c ≡ d → left ks (onto h (x ∷ (if b then abort_block k x else if d then doubt_sends (follow k x) else abort_block k x))) < left ks h
    by true d p q = plain (ap (λ (b : Bool). not b && decides_on k c) p)
    by false false p q = plain (ap (λ (d : Bool). not (has_line c Up m) && d) q ∙ and_never (not (has_line c Up m)))
    by false true p q = lost c m t o f p q
      where
        lost : (c : Conn) (m : Message) → in_transit c Up h ≡ m ∷ ms → has (same_connection c) (opened h) ≡ true → is_special c m ≡ false → has_line c Up m ≡ false → decides_on (coordinate h) c ≡ true
            → left ks (onto h (Got c Up m ∷ doubt_sends (follow (coordinate h) (Got c Up m)))) < left ks h
        lost Begin m t o f p q = absurd cc
        lost Voter m t o f p q = absurd cc
        lost (Again e) m t o f p q = absurd cc
        lost (Enl e) m t o f p q =
            let i = unlined-answered (coordinate h) e m f p q in
            one_falls ks h e m ms (doubt_sends (follow (coordinate h) (Got (Enl e) Up m))) t o (up_weight m) q i.stage i.desks i.stopped (free-doubt (follow (coordinate h) (Got (Enl e) Up m)))

-- what the coordinator does after a message leaves less
pub got_up_falls : (ks : List EnteredCall) (h : List Entry) (id : ℕ) (c : Conn) (m : Message) (ms : List Message) → in_transit c Up h ≡ m ∷ ms → has (same_connection c) (opened h) ≡ true
    → (c ≡ Begin → is_commit_message m ≡ true → commits h ≤ 1) → left ks (onto h (Got c Up m ∷ core_got id (coordinate h) c m)) < left ks h
unfolding core_got
got_up_falls ks h id Begin BeginBegin ms t o n = got_begin ks h id ms t o
got_up_falls ks h id Voter (VoterVoter u) ms t o n = got_voter ks h u ms t o
got_up_falls ks h id (Enl e) (EnlistEnlist i) ms t o n = got_enlist ks h e i ms t o
got_up_falls ks h id Begin BeginCommitOne ms t o n = got_commit_one ks h ms t o (n refl refl)
got_up_falls ks h id Voter VoterYes ms t o n = got_yes ks h ms t o
got_up_falls ks h id (Enl e) EnlistOneCommitted ms t o n = got_committed ks h e ms t o
got_up_falls ks h id (Enl e) EnlistOneInDoubt ms t o n = got_doubt ks h e ms t o
got_up_falls ks h id (Enl e) EnlistOneAborted ms t o n = got_aborted ks h e ms t o
got_up_falls ks h id Begin BeginCommit ms t o n = got_commit ks h ms t o (n refl refl)
got_up_falls ks h id (Again e) (ReenlistReenlist i) ms t o n = got_again ks h e i ms t o
got_up_falls ks h id Begin m ms t o n = rest_falls ks h Begin m ms t o refl
got_up_falls ks h id Voter m ms t o n = rest_falls ks h Voter m ms t o refl
got_up_falls ks h id (Enl e) m ms t o n = rest_falls ks h (Enl e) m ms t o refl
got_up_falls ks h id (Again e) m ms t o n = rest_falls ks h (Again e) m ms t o refl

-- an end that the coordinator sees
end-fewer : (k : Coordinated) (c : Conn) → decides_on k c ≡ false → IsFewer k (Ended c Up)
unfolding follow
end-fewer k Begin d = record { desks = omega arith; waits = omega arith; stage = refl; stopped = refl }
end-fewer k Voter d = record { desks = omega arith; waits = omega arith; stage = refl; stopped = refl }
end-fewer k (Enl e) d = record { desks = omega arith; waits = omega arith; stage = ap (λ (b : Bool). if b then Answered else abort_if (aborts k (Ended (Enl e) Up)) k.stage) d; stopped = refl }
end-fewer k (Again e) d = record { desks = omega arith; waits = length-filter-le (λ (f : EnlNo). not (e.value == f.value)) k.waits; stage = refl; stopped = refl }

end-left : (ks : List EnteredCall) (h : List Entry) (c : Conn) (b : ℕ) → is_ended c Up h ≡ false → has (same_connection c) (opened h) ≡ true
    → core_left (commits h) (follow (coordinate h) (Ended c Up)) + b ≤ core_left (commits h) (coordinate h) → left ks (Ended c Up ∷ h) + (1 + b) ≤ left ks h
unfolding coordinate observe
end-left ks h c b n o l = let w = wires-end c Up h n o in omega arith

-- the end of any other
plain_end : (ks : List EnteredCall) (h : List Entry) (c : Conn) → is_ended c Up h ≡ false → has (same_connection c) (opened h) ≡ true → decides_on (coordinate h) c ≡ false
    → left ks (onto h (Ended c Up ∷ abort_block (coordinate h) (Ended c Up))) < left ks h
plain_end ks h c n o d = by (aborts (coordinate h) (Ended c Up) && is_undecided (coordinate h).stage) refl
  where
    i : IsFewer (coordinate h) (Ended c Up)
    i = end-fewer (coordinate h) c d

    by : (b : Bool) → (aborts (coordinate h) (Ended c Up) && is_undecided (coordinate h).stage) ≡ b
        → left ks (onto h (Ended c Up ∷ (if b then abort_sends (follow (coordinate h) (Ended c Up)) else []))) < left ks h
    by true q =
        let d = 3 * length (coordinate h).desks + 3 * length (coordinate h).waits in
        let a = end-left ks h c (d + 6) n o (abort-core (commits h) (coordinate h) (Ended c Up) i q) in
        falls-by ks h (abort_sends (follow (coordinate h) (Ended c Up))) (Ended c Up) (d + 6) (d + 4) (omega arith)
        (less-free (free-more (d + 4) (let x = i.desks in let y = i.waits in omega arith) (free-abort (follow (coordinate h) (Ended c Up))))) (omega arith)
    by false q =
        let a = end-left ks h c 0 n o (let z = fewer-core (commits h) (coordinate h) (Ended c Up) i in omega arith) in
        falls-by ks h [] (Ended c Up) 1 0 (omega arith) (less-free (free-none 0)) (omega arith)

-- the end of the one that decides
end-answered : (k : Coordinated) (e : EnlNo) → decides k e.value ≡ true → IsAnswered k (Ended (Enl e) Up)
unfolding follow
end-answered k e d = record { stage = ap (λ (b : Bool). if b then Answered else abort_if (aborts k (Ended (Enl e) Up)) k.stage) d; desks = refl; stopped = refl }

-- what the coordinator does after an end leaves less
pub end_up_falls : (ks : List EnteredCall) (h : List Entry) (c : Conn) → is_ended c Up h ≡ false → has (same_connection c) (opened h) ≡ true
    → left ks (onto h (Ended c Up ∷ core_down (coordinate h) c)) < left ks h
unfolding core_down
end_up_falls ks h Begin n o = plain_end ks h Begin n o refl
end_up_falls ks h Voter n o = plain_end ks h Voter n o refl
end_up_falls ks h (Again e) n o = plain_end ks h (Again e) n o refl
end_up_falls ks h (Enl e) n o = by (decides (coordinate h) e.value) refl
  where
    k : Coordinated
    k = coordinate h

    by : (b : Bool) → decides k e.value ≡ b → left ks (onto h (Ended (Enl e) Up ∷ (if b then doubt_sends (follow k (Ended (Enl e) Up)) else abort_block k (Ended (Enl e) Up)))) < left ks h
    by false d = plain_end ks h (Enl e) n o d
    by true d =
        let i = end-answered k e d in
        let a = end-left ks h (Enl e) 6 n o (is-left-given (commits h) k (Ended (Enl e) Up) (is_given_by k e d) i.stage i.desks i.stopped) in
        falls-by ks h (doubt_sends (follow k (Ended (Enl e) Up))) (Ended (Enl e) Up) 7 4 (omega arith) (less-free (free-doubt (follow k (Ended (Enl e) Up)))) (omega arith)
