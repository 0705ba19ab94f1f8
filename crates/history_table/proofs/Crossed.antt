-- What WireRun gives: what is got was sent, nothing goes up while the coordinator stands stopped, and nothing comes down after the end of a connection that is opened
-- once.
use Rattle.std.proofs.Common.{Bool, false, ◌&&◌, ◌≡◌, ℕ, zero, suc, true, List, [], ◌∷◌, ◌||◌, ◌++◌, refl, subst, sym, Some, None, Option}
use Rattle.std.specs.Prelude.{take, if◌then◌else◌, not, is_some}
use Rattle.std.proofs.lemmas.Bool.{or_left}
use Rattle.dtx_values.specs.declared.entry.Entry.{Entry}
use Rattle.dtx_values.specs.declared.entry.Entry.TheVariants.{Sent, Got, Cut, Stopped, Down as End, Restarted}
use Rattle.dtx_values.specs.declared.message.Conn.{Conn}
use Rattle.dtx_values.specs.declared.message.Dir.{Dir}
use Rattle.dtx_values.specs.declared.message.Dir.TheVariants.{Up, Down}
use Rattle.dtx_values.specs.declared.message.Message.{Message}
use Rattle.dtx_values.specs.Ends.{same_connection, same_direction}
use Rattle.dtx_values.specs.Lines.{is_opening, has_line}
use Rattle.dtx_model.specs.Words.{has, holds}
use Rattle.dtx_model.specs.Outcome.{is_empty}
use Rattle.dtx_model.specs.Wires.{without_first, opened_with, opens, sent_behind, transit_after_stop, in_transit, is_open_wire, is_stopped, kept, is_next, MayCross, WireRun, lost_after, lost_since, is_ended, is_lost_wire, transit_after, is_kept, loses, ended_after, ends}
use Rattle.dtx_model.proofs.Bools.{or_case, or_right, and_left, and_both, and_right, not_both, not_true}
use Rattle.dtx_model.proofs.Connections.{same_is, same_way_is}

-- a message that passes is sent, or got, on this connection in this direction
abbrev pub is_sent_on : Conn → Dir → (Message → Bool) → Entry → Bool
is_sent_on c d p (Sent e r m) = same_connection c e && same_direction d r && p m
is_sent_on c d p _ = false

abbrev pub is_got_on : Conn → Dir → (Message → Bool) → Entry → Bool
is_got_on c d p (Got e r m) = same_connection c e && same_direction d r && p m
is_got_on c d p _ = false

-- what is left of the messages on the way was on the way
taken_less : (p : Message → Bool) (n : ℕ) (ms : List Message) → has p (take n ms) ≡ true → has p ms ≡ true
taken_less p zero ms k = absurd cc
taken_less p (suc n) [] k = absurd cc
taken_less p (suc n) (m ∷ ms) k = or_case (p m) (has p (take n ms)) (λ q. or_left (p m) (has p ms) q) (λ q. or_right (p m) (has p ms) (taken_less p n ms q)) k

rest_less : (p : Message → Bool) (ms : List Message) → has p (without_first ms) ≡ true → has p ms ≡ true
rest_less p [] k = k
rest_less p (m ∷ ms) k = or_right (p m) (has p ms) k

-- one more at the end
parted : (p : Message → Bool) (m : Message) (ms : List Message) → has p (ms ++ m ∷ []) ≡ true → (p m || has p ms) ≡ true
parted p m [] k = k
parted p m (x ∷ ms) k =
    or_case (p x) (has p (ms ++ m ∷ [])) (λ q. or_right (p m) (p x || has p ms) (or_left (p x) (has p ms) q))
    (λ q. or_case (p m) (has p ms) (λ a. or_left (p m) (p x || has p ms) a) (λ a. or_right (p m) (p x || has p ms) (or_right (p x) (has p ms) a)) (parted p m ms q)) k

-- the message of an opening is sent there
pub opening_sent : (c e : Conn) (d r : Dir) (m : Message) (p : Message → Bool) (stop : Bool) → opens c (Sent e r m) ≡ true → has p (opened_with d m stop) ≡ true
    → (same_connection c e && same_direction d r && p m) ≡ true
opening_sent c e Up Up m p true o k = absurd cc
opening_sent c e Up Up m p false o k =
    and_both (same_connection c e && true) (p m) (and_both (same_connection c e) true (and_left (same_connection c e) (is_opening e m) o) refl) (or_case (p m) false (λ q. q) (λ q. absurd cc) k)
opening_sent c e Down Up m p stop o k = absurd cc
opening_sent c e d Down m p stop o k = absurd cc

-- one more message that is sent
pub sent_came : (p : Message → Bool) (m : Message) (o s t b rest : Bool) (new ms : List Message) → (o ≡ true → has p new ≡ true → (s && t && p m) ≡ true) → (has p ms ≡ true → rest ≡ true)
    → has p (if o then new else if s && t then sent_behind b m ms else ms) ≡ true → ((s && t && p m) || rest) ≡ true
sent_came p m true s t b rest new ms op ih k = or_left (s && t && p m) rest (op refl k)
sent_came p m false true true true rest new ms op ih k = or_case (p m) (has p ms) (λ q. or_left (p m) rest q) (λ q. or_right (p m) rest (ih q)) (parted p m ms k)
sent_came p m false true true false rest new ms op ih k = or_right (p m) rest (ih k)
sent_came p m false true false b rest new ms op ih k = ih k
sent_came p m false false t b rest new ms op ih k = ih k

-- what is got leaves no more on the way
pub got_came : (p : Message → Bool) (s line t : Bool) (ms : List Message) → has p (if not s then ms else if not line then [] else if t then without_first ms else ms) ≡ true → has p ms ≡ true
got_came p false line t ms k = k
got_came p true false t ms k = absurd cc
got_came p true true true ms k = rest_less p ms k
got_came p true true false ms k = k

pub cut_came : (p : Message → Bool) (s : Bool) (n : ℕ) (ms : List Message) → has p (if s then take n ms else ms) ≡ true → has p ms ≡ true
cut_came p true n ms k = taken_less p n ms k
cut_came p false n ms k = k

pub stopped_came : (p : Message → Bool) (d : Dir) (ms : List Message) → has p (transit_after_stop d ms) ≡ true → has p ms ≡ true
stopped_came p Up ms k = absurd cc
stopped_came p Down ms k = k

-- what is on the way was sent
pub came : (c : Conn) (d : Dir) (p : Message → Bool) (h : List Entry) → has p (in_transit c d h) ≡ true → has (is_sent_on c d p) h ≡ true
came c d p [] k = absurd cc
came c d p (Sent e r m ∷ h) k =
    sent_came p m (opens c (Sent e r m)) (same_connection c e) (same_direction d r) (is_open_wire c h) (has (is_sent_on c d p) h) (opened_with d m (is_stopped h)) (in_transit c d h)
    (opening_sent c e d r m p (is_stopped h)) (came c d p h) k
came c d p (Got e r m ∷ h) k = came c d p h (got_came p (same_connection c e) (has_line e r m) (same_direction d r) (in_transit c d h) k)
came c d p (Cut e u w ∷ h) k = came c d p h (cut_came p (same_connection c e) (kept d u w) (in_transit c d h) k)
came c d p (Stopped ∷ h) k = came c d p h (stopped_came p d (in_transit c d h) k)
came c d p (x ∷ h) k = came c d p h k

-- the next on the way passes, so one does
next_passes : (p : Message → Bool) (m : Message) (ms : List Message) → is_next m ms → p m ≡ true → has p ms ≡ true
next_passes p m [] n k = absurd n
next_passes p m (x ∷ ms) n k = let P : Message → Type 0 = λ y. (p y || has p ms) ≡ true in subst P n (or_left (p m) (has p ms) k)

-- what is got now was sent
pub got_sent : (c : Conn) (d : Dir) (m : Message) (p : Message → Bool) (h : List Entry) → MayCross h (Got c d m) → p m ≡ true → has (is_sent_on c d p) h ≡ true
got_sent c d m p h w k = came c d p h (next_passes p m (in_transit c d h) w k)

-- one that is got was sent
new_sent : (c : Conn) (d : Dir) (p : Message → Bool) (x : Entry) (h : List Entry) → MayCross h x → is_got_on c d p x ≡ true → has (is_sent_on c d p) h ≡ true
new_sent c d p (Got e r m) h w k =
    let both = and_left (same_connection c e && same_direction d r) (p m) k in
    let conn : c ≡ e = same_is c e (and_left (same_connection c e) (same_direction d r) both) in
    let way : d ≡ r = same_way_is d r (and_right (same_connection c e) (same_direction d r) both) in
    let P : Conn → Type 0 = λ y. has (is_sent_on y d p) h ≡ true in
    let Q : Dir → Type 0 = λ y. has (is_sent_on e y p) h ≡ true in
    subst P (sym conn) (subst Q (sym way) (got_sent e r m p h w (and_right (same_connection c e && same_direction d r) (p m) k)))
new_sent c d p _ h w k = absurd cc

-- what was got was sent
pub was_sent : (c : Conn) (d : Dir) (p : Message → Bool) (h : List Entry) → WireRun h → has (is_got_on c d p) h ≡ true → has (is_sent_on c d p) h ≡ true
was_sent c d p [] w k = absurd cc
was_sent c d p (x ∷ h) w k =
    or_right (is_sent_on c d p x) (has (is_sent_on c d p) h)
    (or_case (is_got_on c d p x) (has (is_got_on c d p) h) (λ t. new_sent c d p x h w.0 t) (λ t. was_sent c d p h w.1 t) k)

-- a connection that is lost was opened
opened_step : (b s had : Bool) → is_some (if b then Some s else None) ≡ true → (b || had) ≡ true
opened_step true s had k = refl
opened_step false s had k = absurd cc

lost_opened : (c : Conn) (h : List Entry) (x : Entry) (o : Option Bool) → (is_some o ≡ true → has (opens c) h ≡ true) → is_some (lost_after c h x o) ≡ true → has (opens c) (x ∷ h) ≡ true
lost_opened c h x None f k = opened_step (opens c x) (is_stopped h) (has (opens c) h) k
lost_opened c h x (Some l) f k = or_right (opens c x) (has (opens c) h) (f refl)

pub since_opened : (c : Conn) (h : List Entry) → is_some (lost_since c h) ≡ true → has (opens c) h ≡ true
since_opened c [] k = absurd cc
since_opened c (x ∷ h) k = lost_opened c h x (lost_since c h) (since_opened c h) k

holds_some : (o : Option Bool) → holds o ≡ true → is_some o ≡ true
holds_some (Some b) k = refl
holds_some None k = absurd cc

-- a connection whose end is seen was opened
pub end_opened : (c : Conn) (d : Dir) (h : List Entry) → MayCross h (End c d) → has (opens c) h ≡ true
end_opened c d h w =
    since_opened c h (holds_some (lost_since c h) (and_left (is_lost_wire c h) (is_empty (in_transit c d h)) (and_left (is_lost_wire c h && is_empty (in_transit c d h)) (not (is_ended c d h)) w)))

-- Nothing more is on the way where nothing was, and the connection isn't open nor opened so that something is.
pub none_taken : (n : ℕ) (ms : List Message) → ms ≡ [] → take n ms ≡ []
none_taken zero ms e = refl
none_taken (suc n) [] e = refl
none_taken (suc n) (m ∷ ms) e = absurd cc

none_sent : (m : Message) (o s b : Bool) (new ms : List Message) → (o ≡ true → new ≡ []) → b ≡ false → ms ≡ [] → (if o then new else if s then sent_behind b m ms else ms) ≡ []
none_sent m true s b new ms f e k = f refl
none_sent m false true true new ms f e k = absurd cc
none_sent m false true false new ms f e k = k
none_sent m false false b new ms f e k = k

none_got : (s line t : Bool) (ms : List Message) → ms ≡ [] → (if not s then ms else if not line then [] else if t then without_first ms else ms) ≡ []
none_got false line t ms k = k
none_got true false t ms k = refl
none_got true true true [] k = refl
none_got true true true (m ∷ ms) k = absurd cc
none_got true true false ms k = k

none_cut : (s : Bool) (n : ℕ) (ms : List Message) → ms ≡ [] → (if s then take n ms else ms) ≡ []
none_cut true n ms k = none_taken n ms k
none_cut false n ms k = k

none_stopped : (d : Dir) (ms : List Message) → ms ≡ [] → transit_after_stop d ms ≡ []
none_stopped Up ms k = refl
none_stopped Down ms k = k

none_more : (c : Conn) (d : Dir) (h : List Entry) (x : Entry) (ms : List Message) → ((m : Message) → opens c x ≡ true → opened_with d m (is_stopped h) ≡ []) → is_open_wire c h ≡ false → ms ≡ []
    → transit_after c d h x ms ≡ []
none_more c d h (Sent e r m) ms f b k = none_sent m (opens c (Sent e r m)) (same_connection c e && same_direction d r) (is_open_wire c h) (opened_with d m (is_stopped h)) ms (f m) b k
none_more c d h (Got e r m) ms f b k = none_got (same_connection c e) (has_line e r m) (same_direction d r) ms k
none_more c d h (Cut e u w) ms f b k = none_cut (same_connection c e) (kept d u w) ms k
none_more c d h Stopped ms f b k = none_stopped d ms k
none_more c d h _ ms f b k = k

shut_none : (b stop : Bool) → (b ≡ true → stop ≡ true) → is_kept (if b then Some stop else None) ≡ false
shut_none true true f = refl
shut_none true false f = let k = f refl in absurd cc
shut_none false stop f = refl

shut_some : (b stop l z : Bool) → (b ≡ true → stop ≡ true) → not l ≡ false → is_kept (if b then Some stop else Some (l || z)) ≡ false
shut_some true true l z f k = refl
shut_some true false l z f k = let e = f refl in absurd cc
shut_some false stop true z f k = refl
shut_some false stop false z f k = absurd cc

shut_more : (c : Conn) (h : List Entry) (x : Entry) (o : Option Bool) → (opens c x ≡ true → is_stopped h ≡ true) → is_kept o ≡ false → is_kept (lost_after c h x o) ≡ false
shut_more c h x None f k = shut_none (opens c x) (is_stopped h) f
shut_more c h x (Some l) f k = shut_some (opens c x) (is_stopped h) l (loses c x) f k

-- nothing is on the way in this direction of a connection, and it isn't open
pub record IsStill (c : Conn) (d : Dir) (h : List Entry) : Type 0 where
  pub none : in_transit c d h ≡ []
  pub shut : is_open_wire c h ≡ false

-- it stays so, where it isn't opened so that something is
pub still_more : (c : Conn) (d : Dir) (x : Entry) (h : List Entry) → ((m : Message) → opens c x ≡ true → opened_with d m (is_stopped h) ≡ []) → (opens c x ≡ true → is_stopped h ≡ true)
    → IsStill c d h → IsStill c d (x ∷ h)
still_more c d x h f g w = record { none = none_more c d h x (in_transit c d h) f w.shut w.none; shut = shut_more c h x (lost_since c h) g w.shut }

-- nothing is got where nothing is on the way
pub still_silent : (c : Conn) (d : Dir) (m : Message) (h : List Entry) → IsStill c d h → MayCross h (Got c d m) → ⊥
still_silent c d m h w n = let P : List Message → Type 0 = λ ms. is_next m ms in subst P w.none n

-- While the coordinator stands stopped nothing is on the way to it, and it has seen the end of each connection.
pub record IsDown (c : Conn) (h : List Entry) : Type 0 where
  pub still : IsStill c Up h
  pub over : is_ended c Up h ≡ true

up_none : (m : Message) (stop : Bool) → stop ≡ true → opened_with Up m stop ≡ []
up_none m true e = refl
up_none m false e = absurd cc

over_more : (b stop e w : Bool) → stop ≡ true → w ≡ true → ended_after b stop (e || w) ≡ true
over_more true stop e w s k = s
over_more false stop e w s k = or_right e w k

shut_stop : (c : Conn) (h : List Entry) (o : Option Bool) → is_kept (lost_after c h Stopped o) ≡ false
shut_stop c h None = refl
shut_stop c h (Some true) = refl
shut_stop c h (Some false) = refl

pub down_more : (c : Conn) (x : Entry) (h : List Entry) → is_stopped h ≡ true → IsDown c h → IsDown c (x ∷ h)
down_more c x h s w =
    record {
      still = still_more c Up x h (λ m o. up_none m (is_stopped h) s) (λ o. s) w.still;
      over = over_more (opens c x) (is_stopped h) (ends c Up x) (is_ended c Up h) s w.over;
    }

pub stopped_down : (c : Conn) (h : List Entry) → is_stopped h ≡ true → IsDown c h
stopped_down c [] s = absurd cc
stopped_down c (Stopped ∷ h) s = record { still = record { none = refl; shut = shut_stop c h (lost_since c h) }; over = refl }
stopped_down c (Restarted b ∷ h) s = absurd cc
stopped_down c (x ∷ h) s = down_more c x h s (stopped_down c h s)

-- so nothing is got there, and no end seen
pub nothing_up : (c : Conn) (m : Message) (h : List Entry) → is_stopped h ≡ true → MayCross h (Got c Up m) → ⊥
nothing_up c m h s w = still_silent c Up m h (stopped_down c h s).still w

pub no_end_up : (c : Conn) (h : List Entry) → is_stopped h ≡ true → MayCross h (End c Up) → ⊥
no_end_up c h s w =
    not_both (is_ended c Up h) (stopped_down c h s).over (not_true (is_ended c Up h) (and_right (is_lost_wire c h && is_empty (in_transit c Up h)) (not (is_ended c Up h)) w))

-- an end comes where nothing is on the way, of a connection that isn't open
pub end_still : (c : Conn) (d : Dir) (h : List Entry) → MayCross h (End c d) → IsStill c d (End c d ∷ h)
end_still c d h w =
    let lost = and_left (is_lost_wire c h) (is_empty (in_transit c d h)) (and_left (is_lost_wire c h && is_empty (in_transit c d h)) (not (is_ended c d h)) w) in
    let none = and_right (is_lost_wire c h) (is_empty (in_transit c d h)) (and_left (is_lost_wire c h && is_empty (in_transit c d h)) (not (is_ended c d h)) w) in
    record { none = empty_is (in_transit c d h) none; shut = still_lost c h (lost_since c h) lost }
  where
    empty_is : (ms : List Message) → is_empty ms ≡ true → ms ≡ []
    empty_is [] k = refl
    empty_is (m ∷ ms) k = absurd cc

    still_lost : (c : Conn) (h : List Entry) (o : Option Bool) → holds o ≡ true → is_kept (lost_after c h (End c d) o) ≡ false
    still_lost c h (Some true) k = refl
    still_lost c h (Some false) k = absurd cc
    still_lost c h None k = absurd cc

-- a connection is cut, or the coordinator stops. An enlistment that is lost where it has no open connection cuts none.
abbrev pub is_severing : Entry → Bool
is_severing (Cut c u w) = true
is_severing Stopped = true
is_severing _ = false
