-- What a history says of an enlistment and of the coordinator, entry by entry, and what a `reenlist` is answered by it.
use Rattle.std.proofs.Common.{◌≡◌, ◌≤◌, ◌<◌, ◌+◌, ◌^◌, ℕ, Bool, ◌||◌, not, List, [], ◌∷◌, find, length, get_or, take, Option, Some, None, if◌then◌else◌, refl, ap, sym, ◌∙◌, arith}
use Rattle.std.specs.Option.{option_map}
use Rattle.std.proofs.lemmas.Bool.{eqb-true}
use Rattle.std.proofs.lemmas.List.{length-take}
use Rattle.dtx_values.specs.declared.entry.Answer.TheVariants.{Fine, NoSuch, Finished, Over, Connected, Stopped as IsStopped}
use Rattle.dtx_values.specs.declared.entry.Entry.{Entry}
use Rattle.dtx_values.specs.declared.entry.Entry.TheVariants.{Handed, Stopped, Restarted}
use Rattle.dtx_values.specs.declared.message.Conn.TheVariants.{Enl, Again}
use Rattle.dtx_values.specs.declared.message.Dir.TheVariants.{Up, Down}
use Rattle.dtx_values.specs.declared.number.EnlNo.{EnlNo}
use Rattle.dtx_values.specs.Ends.{is_in}
use Rattle.dtx_model.specs.declared.branch.Branch.{Branch}
use Rattle.dtx_model.specs.Coordinated.{coordinate, follow, stopped_after}
use Rattle.dtx_model.specs.Entries.{handed_of}
use Rattle.dtx_model.specs.Half.{is_handed}
use Rattle.dtx_model.specs.Observed.{branches, is_branch, observe, rows}
use Rattle.dtx_model.specs.Wires.{is_stopped, stop_of}
use Rattle.dtx_model.specs.Words.{holds, latest, or_else, past_of}
use Rattle.dtx_model.specs.World.{is_connected, is_finished_there, reenlist_by}
use Rattle.dtx_model.proofs.Pasts.{length-past}
use Rattle.dtx_model.proofs.Prefixes.{past-more}
use Rattle.dtx_values.proofs.SameNumbers.{same_enlistment}
use Rattle.reenlist_recovery.specs.declared.standing.Standing.{Standing}
use Rattle.reenlist_recovery.specs.declared.wire.Wire.{Wire}
use Rattle.reenlist_recovery.specs.Connections.{wire_after, wire_of}
use Rattle.reenlist_recovery.specs.Enlisted.{is_accepted}
use Rattle.reenlist_recovery.specs.Recovery.{reenlisted}
use Rattle.reenlist_recovery.specs.Standing.{HasRoom, answer_by, answer_for, at_first, handed_after, standing_after, standing_of}
use Rattle.reenlist_recovery.proofs.Ballots.{ballot-more}
use Rattle.reenlist_recovery.proofs.Found.{found}
use Rattle.reenlist_recovery.proofs.Seats.{seat-more}
use Rattle.reenlist_recovery.proofs.Wires.{linked-is, transit-few, wire-more}

-- the coordinator stands stopped by the history as it knows itself
stop_more : (x : Entry) (o : Option Bool) → holds (or_else (stop_of x) o) ≡ stopped_after x (holds o)
stop_more Stopped o = refl
stop_more (Restarted b) o = refl
stop_more _ o = refl

stopped_is : (past : List Entry) → is_stopped past ≡ (coordinate past).stopped
unfolding coordinate follow
stopped_is [] = refl
stopped_is (x ∷ past) = stop_more x (latest stop_of past) ∙ ap (stopped_after x) (stopped_is past)

-- the commit is handed to it by the last handing
handed_more : (e : ℕ) (x : Entry) (o : Option EnlNo) → is_handed (or_else (handed_of x) o) e ≡ handed_after e x (is_handed o e)
handed_more e (Handed f) o = refl
handed_more e _ o = refl

-- one more entry
standing_more : (e : EnlNo) (past : List Entry) (x : Entry) → standing_of e (x ∷ past) ≡ standing_after e x (standing_of e past)
unfolding coordinate follow
standing_more e past x = λ k.
    record {
      seat = seat-more e.value x (branches past) k;
      ballot = ballot-more e.value x (rows past) k;
      handed = handed_more e.value x (latest handed_of past) k;
      recovered = (standing_after e x (standing_of e past)).recovered;
      stopped = (standing_after e x (standing_of e past)).stopped;
      own = (wire-more (Enl e) past x ∙ (λ j. wire_after (Enl e) (stopped_is past j) x (wire_of (Enl e) past))) k;
      again = (wire-more (Again e) past x ∙ (λ j. wire_after (Again e) (stopped_is past j) x (wire_of (Again e) past))) k;
    }

-- none yet
pub first-standing : (e : EnlNo) (xs : List Entry) → at_first ≡ standing_of e (past_of (take 0 xs))
unfolding coordinate
first-standing e xs = refl

-- the entry at a place is the newest after those before it
pub next-standing : (e : EnlNo) (xs : List Entry) (i : ℕ) (x : Entry) (s t : Standing) → i < length xs → x ≡ get_or xs i x → s ≡ standing_of e (past_of (take i xs)) → t ≡ standing_after e x s
    → t ≡ standing_of e (past_of (take (i + 1) xs))
next-standing e xs i x s t below at is next =
    next ∙ ap (standing_after e x) is ∙ sym (standing_more e (past_of (take i xs)) x)
    ∙ ap (λ (y : Entry). standing_of e (y ∷ past_of (take i xs))) at
    ∙ ap (standing_of e) (sym (past-more xs i x below))

-- so many messages can be counted
past_few : (xs : List Entry) (i : ℕ) → i < length xs → length (past_of (take i xs)) ≤ i
past_few xs i below = let a = length-past (take i xs) in let b = length-take i xs in omega arith

wire_room : (xs : List Entry) (i : ℕ) (w : Wire) (past : List Entry) → i < length xs → length xs < 2 ^ 64 → length past ≤ i → w.up ≤ length past → w.down ≤ length past → HasRoom w
wire_room xs i w past below few short up down = record { up = omega arith; down = omega arith }

pub own-room : (e : EnlNo) (xs : List Entry) (i : ℕ) (s : Standing) → i < length xs → length xs < 2 ^ 64 → s ≡ standing_of e (past_of (take i xs)) → HasRoom s.own
own-room e xs i s below few is =
    let past = past_of (take i xs) in
    rw is (wire_room xs i (wire_of (Enl e) past) past below few (past_few xs i below) (transit-few (Enl e) Up past) (transit-few (Enl e) Down past))

pub again-room : (e : EnlNo) (xs : List Entry) (i : ℕ) (s : Standing) → i < length xs → length xs < 2 ^ 64 → s ≡ standing_of e (past_of (take i xs)) → HasRoom s.again
again-room e xs i s below few is =
    let past = past_of (take i xs) in
    rw is (wire_room xs i (wire_of (Again e) past) past below few (past_few xs i below) (transit-few (Again e) Up past) (transit-few (Again e) Down past))

-- the answer, by the branch that is found
answer_with : (e : EnlNo) (past : List Entry) (o : Option Branch) → find (is_branch e.value) (branches past) ≡ o
    → reenlist_by (record { calls = []; past = past }) o ≡ answer_for e (standing_of e past) (option_map (λ (b : Branch). b.manager) o)
unfolding observe
answer_with e past None is = refl
answer_with e past (Some b) is =
    let s = standing_of e past in
    let same : b.enlistment ≡ e = sym (same_enlistment e b.enlistment (eqb-true e.value b.enlistment.value (found (is_branch e.value) (branches past) b is))) in
    (λ k.
    if not b.enlisted then NoSuch else if is_finished_there (observe past) (same k).value then Finished else if is_in b.manager.value s.recovered then Over b.manager
    else if is_connected (same k) past then Connected (same k) else if s.stopped then IsStopped else Fine)
    ∙ (λ k.
    if not (is_accepted (sym is k)) then NoSuch else if s.seat.told || s.ballot.out || s.handed then Finished else if is_in b.manager.value s.recovered then Over b.manager
    else if linked-is (Enl e) past k || linked-is (Again e) past k then Connected e else if s.stopped then IsStopped else Fine)

-- what a `reenlist` is answered
pub answer-is : (e : EnlNo) (xs : List Entry) → reenlisted xs e ≡ answer_by e (standing_of e (past_of xs))
unfolding observe
answer-is e xs = answer_with e (past_of xs) (find (is_branch e.value) (branches (past_of xs))) refl
