-- The connections carry the history with one more entry that is written: a message that may be sent, or an entry that has nothing to do with connections.
use Rattle.std.proofs.Common.{◌≡◌, ℕ, ◌+◌, Bool, true, false, ◌&&◌, ◌||◌, not, List, [], ◌∷◌, ◌++◌, take, drop, Option, Some, None, Result, Ok, Err, IfErr, IsErrOf, OnOk, ◌⊎◌, ◌↔◌, ◌<◌, is_some, if◌then◌else◌, refl, ap, sym, ◌∙◌, subst, inl, inr, arith}
use Rattle.std.proofs.lemmas.Bool.{cond-false, cond-true}
use Rattle.std.proofs.lemmas.List.{take-append-drop}
use Rattle.std.proofs.lemmas.List.Folds.{list_all-append}
use Rattle.std.proofs.Math.Bool.{or-false}
use Rattle.dtx_values.specs.declared.entry.Entry.{Entry}
use Rattle.dtx_values.specs.declared.entry.Entry.TheVariants.{Cut, Down as End, Got, Restarted, Sent, Stopped}
use Rattle.dtx_values.specs.declared.message.Conn.{Conn}
use Rattle.dtx_values.specs.declared.message.Dir.{Dir}
use Rattle.dtx_values.specs.declared.message.Dir.TheVariants.{Up, Down}
use Rattle.dtx_values.specs.declared.message.Message.{Message}
use Rattle.dtx_values.specs.Lines.{has_line}
use Rattle.dtx_model.specs.Frames.{is_valid}
use Rattle.dtx_model.specs.Words.{always, each, onto}
use Rattle.dtx_model.specs.Wires.{MayCross, is_ended, is_stopped, in_transit, loses, lost_after, lost_since, is_opening, opens, same_connection}
use Rattle.dtx_model.specs.World.{is_linked}
use Rattle.dtx_model.proofs.Bools.{and_both, and_left, and_right, not_both, not_true}
use Rattle.dtx_model.proofs.Histories.{onto-append}
use Rattle.dtx_model.proofs.Pasts.{always-before}
use Rattle.oletx_session.specs.declared.refusal.SessionRefusal.{SessionRefusal}
use Rattle.oletx_session.specs.declared.refusal.SessionRefusal.TheVariants.{Memory, NotOpen, Taken}
use Rattle.oletx_session.specs.Traffic.{Spells, Wire, is_taken, lane, may_send, opposite, wire_of}
use Rattle.dtx_model.proofs.Connections.{same_self}
use Rattle.oletx_session.specs.Carries.{Carries, IsWire}
use Rattle.world_laws.specs.Carried.{are_sendable, is_sendable}
use Rattle.world_laws.specs.Course.{IsOpened, is_written}

-- the entry has nothing to do with connections
abbrev pub is_unsent : Entry → Bool
is_unsent (Sent c d m) = false
is_unsent (Got c d m) = false
is_unsent (End c d) = false
is_unsent (Cut c u w) = false
is_unsent Stopped = false
is_unsent _ = true

wire_kept : (c : Conn) (o : Option Wire) (h n : List Entry) → lost_since c n ≡ lost_since c h → ((d : Dir) → in_transit c d n ≡ in_transit c d h) → ((d : Dir) → is_ended c d n ≡ is_ended c d h) → IsWire c o h
    → IsWire c o n
wire_kept c None h n lost queue ended is = lost ∙ is
wire_kept c (Some w) h n lost queue ended is = (
  lost ∙ is.0,
  λ d. record {
    queue = (let P : List Message → Type 0 = λ ms. Spells (lane d w).bytes ms in subst P (sym (queue d)) (is.1 d).queue);
    ended = (is.1 d).ended ∙ sym (ended d);
  },
)

opens_unsent : (c : Conn) (x : Entry) → is_unsent x ≡ true → opens c x ≡ false
opens_unsent c (Sent e r m) u = absurd cc
opens_unsent c _ u = refl

loses_unsent : (c : Conn) (x : Entry) → is_unsent x ≡ true → loses c x ≡ false
loses_unsent c (Got e r m) u = absurd cc
loses_unsent c (Cut e a b) u = absurd cc
loses_unsent c Stopped u = absurd cc
loses_unsent c _ u = refl

lost_unsent : (c : Conn) (h : List Entry) (x : Entry) → is_unsent x ≡ true → lost_since c (x ∷ h) ≡ lost_since c h
lost_unsent c h x u = by (lost_since c h)
  where
    by : (s : Option Bool) → lost_after c h x s ≡ s
    by None = cond-false (opens c x) (Some (is_stopped h)) None (opens_unsent c x u)
    by (Some l) =
        cond-false (opens c x) (Some (is_stopped h)) (Some (l || loses c x)) (opens_unsent c x u) ∙ ap (λ b. Some (l || b)) (loses_unsent c x u) ∙ ap Some (or-false l)

way_unsent : (c : Conn) (d : Dir) (h : List Entry) (x : Entry) → is_unsent x ≡ true → in_transit c d (x ∷ h) ≡ in_transit c d h
way_unsent c d h (Sent e r m) u = absurd cc
way_unsent c d h (Got e r m) u = absurd cc
way_unsent c d h (End e r) u = absurd cc
way_unsent c d h (Cut e a b) u = absurd cc
way_unsent c d h Stopped u = absurd cc
way_unsent c d h _ u = refl

ended_unsent : (c : Conn) (d : Dir) (h : List Entry) (x : Entry) → is_unsent x ≡ true → is_ended c d (x ∷ h) ≡ is_ended c d h
ended_unsent c d h (Sent e r m) u = absurd cc
ended_unsent c d h (Got e r m) u = absurd cc
ended_unsent c d h (End e r) u = absurd cc
ended_unsent c d h (Cut e a b) u = absurd cc
ended_unsent c d h Stopped u = absurd cc
ended_unsent c Up h _ u = refl
ended_unsent c Down h _ u = refl

pub carried_unsent : (ws : List Wire) (h : List Entry) (x : Entry) → is_unsent x ≡ true → Carries ws h → Carries ws (x ∷ h)
carried_unsent ws h x u k = λ c. wire_kept c (wire_of c ws) h (x ∷ h) (lost_unsent c h x u) (λ d. way_unsent c d h x u) (λ d. ended_unsent c d h x u) (k c)

-- nothing crosses by an entry that is written
pub written_crosses : (h : List Entry) (x : Entry) → is_written x ≡ true → MayCross h x
written_crosses h (Got c d m) w = absurd cc
written_crosses h (End c d) w = absurd cc
written_crosses h _ w = tt

-- what a session's call refuses, it doesn't where there is room and nothing else speaks against it
pub is_done : {T P : Type 0} (r : Result T SessionRefusal) (a b : SessionRefusal) → IfErr r (λ e. (e ≡ a) ⊎ (e ≡ b)) → (IsErrOf r a → ⊥) → (IsErrOf r b → ⊥) → OnOk r P → P
is_done (Ok x) a b only p q k = k
is_done (Err e) a b (inl s) p q k = absurd (p (ap Err s))
is_done (Err e) a b (inr s) p q k = absurd (q (ap Err s))

-- of a history whose messages might be sent, those before might, and so might the next
pub next_sendable : (h xs : List Entry) (i : ℕ) (x : Entry) → are_sendable (onto h xs) ≡ true → drop i xs ≡ x ∷ drop (i + 1) xs → is_sendable (onto h (take i xs)) x ≡ true
next_sendable h xs i x k e =
    let now = onto h (take i xs) in
    let whole : onto h xs ≡ onto (x ∷ now) (drop (i + 1) xs) =
    ap (onto h) (sym (take-append-drop i xs)) ∙ onto-append h (take i xs) (drop i xs) ∙ ap (onto now) e in
    and_left (is_sendable now x) (always is_sendable now) (always-before is_sendable (x ∷ now) (drop (i + 1) xs) (ap (always is_sendable) (sym whole) ∙ k))

-- the history with so many of the entries, and the next
pub next_onto : (h xs : List Entry) (i : ℕ) (x : Entry) → take (i + 1) xs ≡ take i xs ++ x ∷ [] → x ∷ onto h (take i xs) ≡ onto h (take (i + 1) xs)
next_onto h xs i x e = sym (ap (onto h) e ∙ onto-append h (take i xs) (x ∷ []))

-- while only such entries are written, the coordinator stays stopped or not
pub stays_stopped : (h : List Entry) (x : Entry) → is_written x ≡ true → is_stopped (x ∷ h) ≡ is_stopped h
stays_stopped h Stopped w = absurd cc
stays_stopped h (Restarted found) w = absurd cc
stays_stopped h _ w = refl

-- A connection that is free is started.
pub starts : {P : Type 0} (r : Result (Unit {0}) SessionRefusal) (c : Conn) (o : Option Wire) (room : ℕ) → IfErr r (λ e. (e ≡ Taken c) ⊎ (e ≡ Memory)) → (IsErrOf r (Taken c) ↔ (is_taken o ≡ true))
    → (IsErrOf r Memory → room ≡ 0) → 0 < room → is_taken o ≡ false → OnOk r P → P
starts r c o room only taken memory some free k =
    is_done r (Taken c) Memory only (λ e. not_both (is_taken o) (taken.0 e) free) (λ e. let none = memory e in absurd (omega (arith, none, some))) k

-- a message whose sender may send is sent
pub sends : {P : Type 0} (r : Result (Unit {0}) SessionRefusal) (c : Conn) (d : Dir) (o : Option Wire) (room : ℕ) → IfErr r (λ e. (e ≡ NotOpen c) ⊎ (e ≡ Memory)) → (IsErrOf r (NotOpen c) ↔ (may_send d o ≡ false))
    → (IsErrOf r Memory → room ≡ 0) → 0 < room → may_send d o ≡ true → OnOk r P → P
sends r c d o room only shut memory some may k =
    is_done r (NotOpen c) Memory only (λ e. not_both (may_send d o) may (shut.0 e)) (λ e. let none = memory e in absurd (omega (arith, none, some))) k

-- on a connection that was just started its opener may send
pub opener_may : (stopped : Bool) (c : Conn) (d : Dir) (m : Message) (ws : List Wire) (h : List Entry) → IsOpened stopped c ws h → opens c (Sent c d m) ≡ true → may_send d (wire_of c ws) ≡ true
opener_may true c Up m ws h s o = ap (may_send Up) s.here
opener_may false c Up m ws h s o = ap (may_send Up) s.here
opener_may stopped c Down m ws h s o = absurd cc

-- what a message needs that may be sent
pub opening_free : (c : Conn) (d : Dir) (m : Message) (h : List Entry) → is_sendable h (Sent c d m) ≡ true → opens c (Sent c d m) ≡ true → is_linked c h ≡ false
opening_free c d m h s o =
    not_true (is_linked c h)
    (sym (cond-true (opens c (Sent c d m)) (not (is_linked c h)) (is_some (lost_since c h) && not (is_ended c (opposite d) h)) o) ∙ and_right (is_valid m && has_line c d m) (if opens c (Sent c d m) then not (is_linked c h) else (is_some (lost_since c h) && not (is_ended c (opposite d) h))) s)

pub later_open : (c : Conn) (d : Dir) (m : Message) (h : List Entry) → is_sendable h (Sent c d m) ≡ true → opens c (Sent c d m) ≡ false → (is_some (lost_since c h) && not (is_ended c (opposite d) h)) ≡ true
later_open c d m h s o =
    sym (cond-false (opens c (Sent c d m)) (not (is_linked c h)) (is_some (lost_since c h) && not (is_ended c (opposite d) h)) o)
    ∙ and_right (is_valid m && has_line c d m) (if opens c (Sent c d m) then not (is_linked c h) else (is_some (lost_since c h) && not (is_ended c (opposite d) h))) s

pub sendable_valid : (c : Conn) (d : Dir) (m : Message) (h : List Entry) → is_sendable h (Sent c d m) ≡ true → is_valid m ≡ true
sendable_valid c d m h s =
    and_left (is_valid m) (has_line c d m)
    (and_left (is_valid m && has_line c d m) (if opens c (Sent c d m) then not (is_linked c h) else (is_some (lost_since c h) && not (is_ended c (opposite d) h))) s)

-- a message opens its connection exactly where it goes up and opens connections of its type
pub opens_own : (c : Conn) (m : Message) → is_opening c m ≡ true → opens c (Sent c Up m) ≡ true
opens_own c m o = and_both (same_connection c c) (is_opening c m) (same_self c) o

-- after a restart each connection stands as it did
pub carried_restart : (ws : List Wire) (h : List Entry) (found : Bool) → Carries ws h → Carries ws (Restarted found ∷ h)
carried_restart ws h found k = carried_unsent ws h (Restarted found) refl k

-- an item of a list that passes
pub each-item : (p : Entry → Bool) (xs : List Entry) (i : ℕ) (x : Entry) → each p xs ≡ true → drop i xs ≡ x ∷ drop (i + 1) xs → p x ≡ true
each-item p xs i x k e =
    let split = list_all-append p (take i xs) (drop i xs) in
    let rest = and_right (each p (take i xs)) (each p (drop i xs)) (sym split ∙ ap (each p) (take-append-drop i xs) ∙ k) in
    and_left (p x) (each p (drop (i + 1) xs)) (ap (each p) (sym e) ∙ rest)
