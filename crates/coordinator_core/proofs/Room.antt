-- For how much there is room.
use Rattle.std.proofs.Common.{◌≡◌, ◌∙◌, ◌≤◌, ◌<◌, ◌&&◌, ℕ, suc, Bool, true, false, List, length, map, nat_le, None, Some, refl, ap, sym, arith, if◌then◌else◌}
use Rattle.std.proofs.lemmas.Bool.{and_from, and_parts, le-leb, leb-true}
use Rattle.std.proofs.lemmas.List.{length-map}
use Rattle.dtx_values.specs.declared.entry.Entry.{Entry}
use Rattle.dtx_values.specs.declared.entry.Entry.TheVariants.{Got}
use Rattle.dtx_values.specs.declared.limits.TheConstants.{CONNECTIONS, DURABLES}
use Rattle.dtx_values.specs.declared.message.Conn.{Conn}
use Rattle.dtx_values.specs.declared.message.Conn.TheVariants.{Begin, Voter, Enl, Again}
use Rattle.dtx_values.specs.declared.message.Dir.TheVariants.{Up}
use Rattle.dtx_values.specs.declared.message.Info.{Info}
use Rattle.dtx_values.specs.declared.message.Message.{Message}
use Rattle.dtx_values.specs.declared.message.Message.TheVariants.{BeginBegin, VoterVoter, EnlistEnlist, EnlistAck, EnlistOneAborted, ReenlistReenlist, ReenlistAck}
use Rattle.dtx_values.specs.declared.number.EnlNo.{EnlNo}
use Rattle.dtx_values.specs.Ends.{order_of}
use Rattle.dtx_values.specs.Table.{enl_number, insert_by}
use Rattle.dtx_model.specs.declared.desk.Ballot.TheVariants.{Refused}
use Rattle.dtx_model.specs.declared.desk.Desk.{Desk}
use Rattle.dtx_model.specs.Coordinated.{Coordinated, accepts, ballot_of, but, desk_number, desks_after, follow, hears_one, is_active, is_enlisting, known_after, waits_after, with_ack, with_ballot, without}
use Rattle.dtx_model.proofs.Counts.{length-insert_by}
use Rattle.coordinator_core.specs.Kept.{IsFew}

-- a place is left for a connection that is opened
opened_fits : (c : Conn) (known : List Conn) → length (insert_by order_of c (without c known)) ≤ CONNECTIONS → length (without c known) < CONNECTIONS
opened_fits c known fits = omega (arith, length-insert_by order_of c (without c known))

pub begin_fits : (k : Coordinated) → IsFew (follow k (Got Begin Up BeginBegin)) → length (without Begin k.known) < CONNECTIONS
unfolding follow
begin_fits k few = opened_fits Begin k.known few.known

pub voter_fits : (k : Coordinated) (u : ℕ) → IsFew (follow k (Got Voter Up (VoterVoter u))) → length (without Voter k.known) < CONNECTIONS
unfolding follow
voter_fits k u few = opened_fits Voter k.known few.known

pub enlist_fits : (k : Coordinated) (e : EnlNo) (i : Info) → IsFew (follow k (Got (Enl e) Up (EnlistEnlist i))) → length (without (Enl e) k.known) < CONNECTIONS
unfolding follow
enlist_fits k e i few = opened_fits (Enl e) k.known few.known

pub reenlist_fits : (k : Coordinated) (e : EnlNo) (i : Info) → IsFew (follow k (Got (Again e) Up (ReenlistReenlist i))) → length (without (Again e) k.known) < CONNECTIONS
unfolding follow
reenlist_fits k e i few = opened_fits (Again e) k.known few.known

-- a place is left for one that waits
pub waiting_fits : (k : Coordinated) (e : EnlNo) (i : Info) → IsFew (follow k (Got (Again e) Up (ReenlistReenlist i))) → length (but e.value k.waits) < DURABLES
unfolding follow
waiting_fits k e i few = let fits : length (insert_by enl_number e (but e.value k.waits)) ≤ DURABLES = few.waits in omega (arith, length-insert_by enl_number e (but e.value k.waits))

-- a place is left for an enlistment that is accepted
pub desk_fits : (k : Coordinated) (e : EnlNo) (i : Info) → IsFew (follow k (Got (Enl e) Up (EnlistEnlist i))) → accepts k ≡ true → length k.desks < DURABLES
unfolding follow
desk_fits k e i few accepted = by (accepts k) accepted few.desks
  where
    desk : Desk
    desk = record { enlistment = e; manager = i.rm; ballot = None; acked = false }

    by : (b : Bool) → b ≡ true → length (if b then insert_by desk_number desk k.desks else k.desks) ≤ DURABLES → length k.desks < DURABLES
    by true holds fits = omega (arith, fits, length-insert_by desk_number desk k.desks)
    by false holds fits = absurd cc

-- how many enlistments there are after a message
pub desks_more : (k : Coordinated) (c : Conn) (m : Message) → is_enlisting c m ≡ true → accepts k ≡ true → length (desks_after k (Got c Up m)) ≡ suc (length k.desks)
desks_more k Begin m held accepted = absurd cc
desks_more k Voter m held accepted = absurd cc
desks_more k (Again e) m held accepted = absurd cc
desks_more k (Enl e) (EnlistEnlist i) held accepted = by (accepts k) accepted
  where
    desk : Desk
    desk = record { enlistment = e; manager = i.rm; ballot = None; acked = false }

    by : (b : Bool) → b ≡ true → length (if b then insert_by desk_number desk k.desks else k.desks) ≡ suc (length k.desks)
    by true same = length-insert_by desk_number desk k.desks
    by false same = absurd cc
desks_more k (Enl e) m held accepted = absurd cc

same_long : (b : Bool) (f : Desk → Desk) (ds : List Desk) → length (if b then map f ds else ds) ≡ length ds
same_long true f ds = length-map ds f
same_long false f ds = refl

pub desks_same : (k : Coordinated) (c : Conn) (m : Message) → (accepts k && is_enlisting c m) ≡ false → length (desks_after k (Got c Up m)) ≡ length k.desks
desks_same k Begin m fails = refl
desks_same k Voter m fails = refl
desks_same k (Again e) ReenlistAck fails = length-map k.desks (with_ack e.value)
desks_same k (Again e) m fails = refl
desks_same k (Enl e) (EnlistEnlist i) fails = by (accepts k) fails
  where
    desk : Desk
    desk = record { enlistment = e; manager = i.rm; ballot = None; acked = false }

    by : (b : Bool) → (b && true) ≡ false → length (if b then insert_by desk_number desk k.desks else k.desks) ≡ length k.desks
    by true failed = absurd cc
    by false failed = refl
desks_same k (Enl e) EnlistAck fails = length-map k.desks (with_ack e.value)
desks_same k (Enl e) EnlistOneAborted fails = same_long (hears_one k e.value) (with_ballot e.value (Some Refused)) k.desks
desks_same k (Enl e) m fails = same_long (is_active k.stage) (with_ballot e.value (ballot_of m)) k.desks

-- how many wait after one came back
pub waits_more : (ws : List EnlNo) (e : EnlNo) (m : Message) (i : Info) → m ≡ ReenlistReenlist i → length (waits_after (Got (Again e) Up m) ws) ≡ suc (length (but e.value ws))
waits_more ws e m i which = ap (λ (n : Message). length (waits_after (Got (Again e) Up n) ws)) which ∙ length-insert_by enl_number e (but e.value ws)

-- the test of what fits
pub few_iff : (k : Coordinated) (x : Entry) (r : Bool) → r ≡ (nat_le (length (desks_after k x)) DURABLES && nat_le (length (known_after x k.known)) CONNECTIONS && nat_le (length (waits_after x k.waits)) DURABLES)
    → (r ≡ true → IsFew (follow k x)) × (IsFew (follow k x) → r ≡ true)
unfolding follow
few_iff k x r same =
    let d = length (desks_after k x) in
    let n = length (known_after x k.known) in
    let w = length (waits_after x k.waits) in (
      λ held.
          let all = and_parts (nat_le d DURABLES && nat_le n CONNECTIONS) (nat_le w DURABLES) (sym same ∙ held) in
          let first = and_parts (nat_le d DURABLES) (nat_le n CONNECTIONS) all.0 in
          record { desks = leb-true d DURABLES first.0; known = leb-true n CONNECTIONS first.1; waits = leb-true w DURABLES all.1 },
      λ few.
          same ∙ and_from (nat_le d DURABLES && nat_le n CONNECTIONS) (nat_le w DURABLES) (and_from (nat_le d DURABLES) (nat_le n CONNECTIONS) (le-leb d DURABLES few.desks) (le-leb n CONNECTIONS few.known)) (le-leb w DURABLES few.waits),
    )
