-- What is known of a history in which nothing is promoted: the local side's marks of a promotion are as they were at the start, no call waits, the coordinator
-- knows nothing, and nothing is on the way.
use Rattle.std.proofs.Common.{◌≡◌, Bool, true, false, List, [], ◌∷◌, None, refl, ap, ◌∙◌}
use Rattle.dtx_values.specs.declared.entry.Answer.TheVariants.{Wait}
use Rattle.dtx_values.specs.declared.entry.Ask.TheVariants.{Prepare}
use Rattle.dtx_values.specs.declared.entry.Entry.{Entry}
use Rattle.dtx_values.specs.declared.entry.Entry.TheVariants.{Called, Began, Cloned, Completed, Enlisted, Init, CommitAsked, RollbackAsked, Clock, TimedOut, Late, Asked, Voted, Sealed, Handed, OwnerAnswered, Decided, Told, Lost}
use Rattle.dtx_values.specs.declared.entry.Party.TheVariants.{Client, Enl}
use Rattle.dtx_values.specs.declared.message.Conn.{Conn}
use Rattle.dtx_values.specs.declared.message.Dir.{Dir}
use Rattle.dtx_values.specs.declared.words.Outcome.TheVariants.{Committed, Aborted, InDoubt}
use Rattle.dtx_model.specs.Words.{each, has}
use Rattle.dtx_model.specs.Observed.{Observed, observe, track}
use Rattle.dtx_model.specs.Coordinated.{coordinate, follow, nothing}
use Rattle.dtx_model.specs.Waiting.{EnteredCall, managed, waiting, waiting_after}
use Rattle.dtx_model.specs.Half.{half_of}
pub use Rattle.dtx_model.specs.Half.{at_home, narrow}
use Rattle.dtx_model.specs.Wires.{in_transit, lost_since, transit_after, lost_after}
use Rattle.dtx_model.specs.World.{has_left}
use Rattle.dtx_model.specs.Caused.{is_begin_sent}
use Rattle.dtx_model.proofs.Bools.{and_left, and_right}

-- an entry that may come while nothing is promoted
abbrev pub is_local : Entry → Bool
is_local (Called n a Wait) = false
is_local (Called n a x) = true
is_local (Began d) = true
is_local (Cloned c k) = true
is_local (Completed c) = true
is_local (Enlisted e c) = true
is_local (Init e) = true
is_local CommitAsked = true
is_local RollbackAsked = true
is_local (Clock n) = true
is_local TimedOut = true
is_local Late = true
is_local (Asked e Prepare) = true
is_local (Voted e v) = true
is_local Sealed = true
is_local (Handed e) = true
is_local (OwnerAnswered e x) = true
is_local (Decided x) = true
is_local (Told p x) = true
is_local (Lost e) = true
is_local _ = false

abbrev pub are_local : List Entry → Bool
are_local h = each is_local h

-- a local entry leaves these marks as they are
track_narrow : (o : Observed) (x : Entry) → is_local x ≡ true → track (narrow o) x ≡ narrow (track o x)
unfolding track
track_narrow o (Called n a Wait) p = absurd cc
track_narrow o (Called n a x) p = refl
track_narrow o (Began d) p = refl
track_narrow o (Cloned c k) p = refl
track_narrow o (Completed c) p = refl
track_narrow o (Enlisted e c) p = refl
track_narrow o (Init e) p = refl
track_narrow o CommitAsked p = refl
track_narrow o RollbackAsked p = refl
track_narrow o (Clock n) p = refl
track_narrow o TimedOut p = refl
track_narrow o Late p = refl
track_narrow o (Asked e Prepare) p = refl
track_narrow o (Voted e v) p = refl
track_narrow o Sealed p = refl
track_narrow o (Handed e) p = refl
track_narrow o (OwnerAnswered e x) p = refl
track_narrow o (Decided x) p = refl
track_narrow o (Told (Enl e) Aborted) p = refl
track_narrow o (Told (Enl e) Committed) p = refl
track_narrow o (Told (Enl e) InDoubt) p = refl
track_narrow o (Told Client x) p = refl
track_narrow o (Lost e) p = refl
track_narrow o _ p = absurd cc

pub observe-local : (h : List Entry) → are_local h ≡ true → observe h ≡ narrow (observe h)
unfolding observe track
observe-local [] p = refl
observe-local (x ∷ h) p =
    ap (λ (o : Observed). track o x) (observe-local h (and_right (is_local x) (are_local h) p)) ∙ track_narrow (observe h) x (and_left (is_local x) (are_local h) p)

-- no call waits
no_waiter : (ks : List EnteredCall) (x : Entry) → is_local x ≡ true → waiting_after ks x [] ≡ []
no_waiter ks (Called n a Wait) p = absurd cc
no_waiter ks _ p = refl

pub waiting-local : (ks : List EnteredCall) (h : List Entry) → are_local h ≡ true → waiting ks h ≡ []
waiting-local ks [] p = refl
waiting-local ks (x ∷ h) p = rw (waiting-local ks h (and_right (is_local x) (are_local h) p)) (no_waiter ks x (and_left (is_local x) (are_local h) p))

-- the local side sees no promotion
pub half-local : (ks : List EnteredCall) (h : List Entry) → are_local h ≡ true → half_of ks h ≡ at_home (observe h) (managed ks h)
half-local ks h p =
    ap (λ (o : Observed). record { seen = o; waits = waiting ks h; managers = managed ks h }) (observe-local h p)
    ∙ ap (λ ws. record { seen = narrow (observe h); waits = ws; managers = managed ks h }) (waiting-local ks h p)

-- the coordinator knows nothing
follow_nothing : (x : Entry) → is_local x ≡ true → follow nothing x ≡ nothing
unfolding follow
follow_nothing (Called n a x) p = refl
follow_nothing (Began d) p = refl
follow_nothing (Cloned c k) p = refl
follow_nothing (Completed c) p = refl
follow_nothing (Enlisted e c) p = refl
follow_nothing (Init e) p = refl
follow_nothing CommitAsked p = refl
follow_nothing RollbackAsked p = refl
follow_nothing (Clock n) p = refl
follow_nothing TimedOut p = refl
follow_nothing Late p = refl
follow_nothing (Asked e a) p = refl
follow_nothing (Voted e v) p = refl
follow_nothing Sealed p = refl
follow_nothing (Handed e) p = refl
follow_nothing (OwnerAnswered e x) p = refl
follow_nothing (Decided x) p = refl
follow_nothing (Told q x) p = refl
follow_nothing (Lost e) p = refl
follow_nothing _ p = absurd cc

pub coordinate-local : (h : List Entry) → are_local h ≡ true → coordinate h ≡ nothing
unfolding coordinate
coordinate-local [] p = refl
coordinate-local (x ∷ h) p = rw (coordinate-local h (and_right (is_local x) (are_local h) p)) (follow_nothing x (and_left (is_local x) (are_local h) p))

-- no connection was opened
never_lost : (c : Conn) (past : List Entry) (x : Entry) → is_local x ≡ true → lost_after c past x None ≡ None
never_lost c past (Called n a x) p = refl
never_lost c past (Began d) p = refl
never_lost c past (Cloned d k) p = refl
never_lost c past (Completed d) p = refl
never_lost c past (Enlisted e d) p = refl
never_lost c past (Init e) p = refl
never_lost c past CommitAsked p = refl
never_lost c past RollbackAsked p = refl
never_lost c past (Clock n) p = refl
never_lost c past TimedOut p = refl
never_lost c past Late p = refl
never_lost c past (Asked e a) p = refl
never_lost c past (Voted e v) p = refl
never_lost c past Sealed p = refl
never_lost c past (Handed e) p = refl
never_lost c past (OwnerAnswered e x) p = refl
never_lost c past (Decided x) p = refl
never_lost c past (Told q x) p = refl
never_lost c past (Lost e) p = refl
never_lost c past _ p = absurd cc

pub unopened-local : (c : Conn) (h : List Entry) → are_local h ≡ true → lost_since c h ≡ None
unopened-local c [] p = refl
unopened-local c (x ∷ h) p = rw (unopened-local c h (and_right (is_local x) (are_local h) p)) (never_lost c h x (and_left (is_local x) (are_local h) p))

-- nothing is on the way
none_sent : (c : Conn) (d : Dir) (past : List Entry) (x : Entry) → is_local x ≡ true → transit_after c d past x [] ≡ []
none_sent c d past (Called n a x) p = refl
none_sent c d past (Began e) p = refl
none_sent c d past (Cloned e k) p = refl
none_sent c d past (Completed e) p = refl
none_sent c d past (Enlisted e k) p = refl
none_sent c d past (Init e) p = refl
none_sent c d past CommitAsked p = refl
none_sent c d past RollbackAsked p = refl
none_sent c d past (Clock n) p = refl
none_sent c d past TimedOut p = refl
none_sent c d past Late p = refl
none_sent c d past (Asked e a) p = refl
none_sent c d past (Voted e v) p = refl
none_sent c d past Sealed p = refl
none_sent c d past (Handed e) p = refl
none_sent c d past (OwnerAnswered e x) p = refl
none_sent c d past (Decided x) p = refl
none_sent c d past (Told q x) p = refl
none_sent c d past (Lost e) p = refl
none_sent c d past _ p = absurd cc

pub transit-local : (c : Conn) (d : Dir) (h : List Entry) → are_local h ≡ true → in_transit c d h ≡ []
transit-local c d [] p = refl
transit-local c d (x ∷ h) p = rw (transit-local c d h (and_right (is_local x) (are_local h) p)) (none_sent c d h x (and_left (is_local x) (are_local h) p))

-- nothing is left to deliver
pub left-local : (c : Conn) (d : Dir) (h : List Entry) → are_local h ≡ true → has_left c d h ≡ false
left-local c d h p = rw (transit-local c d h p, unopened-local c h p) refl

-- BEGIN wasn't sent
no_begin : (x : Entry) → is_local x ≡ true → is_begin_sent x ≡ false
no_begin (Called n a x) p = refl
no_begin (Began e) p = refl
no_begin (Cloned e k) p = refl
no_begin (Completed e) p = refl
no_begin (Enlisted e k) p = refl
no_begin (Init e) p = refl
no_begin CommitAsked p = refl
no_begin RollbackAsked p = refl
no_begin (Clock n) p = refl
no_begin TimedOut p = refl
no_begin Late p = refl
no_begin (Asked e a) p = refl
no_begin (Voted e v) p = refl
no_begin Sealed p = refl
no_begin (Handed e) p = refl
no_begin (OwnerAnswered e x) p = refl
no_begin (Decided x) p = refl
no_begin (Told q x) p = refl
no_begin (Lost e) p = refl
no_begin _ p = absurd cc

pub begin-local : (h : List Entry) → are_local h ≡ true → has is_begin_sent h ≡ false
begin-local [] p = refl
begin-local (x ∷ h) p = rw (no_begin x (and_left (is_local x) (are_local h) p)) (begin-local h (and_right (is_local x) (are_local h) p))
