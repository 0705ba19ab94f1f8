-- The connections of a history, and what the session keeps of them: an end that was seen is that of a lost connection; and what is open, free or left to deliver by the
-- history is so there.
use Rattle.std.proofs.Common.{◌≡◌, ℕ, zero, suc, take, Bool, true, false, ◌&&◌, ◌||◌, not, List, [], ◌∷◌, Option, Some, None, is_some, refl, ap, sym, ◌∙◌, cond, if◌then◌else◌}
use Rattle.std.specs.List.{flat_map}
use Rattle.std.proofs.lemmas.Bool.{cond-false, cond-true, or_left}
use Rattle.dtx_values.specs.declared.entry.Entry.{Entry}
use Rattle.dtx_values.specs.declared.entry.Entry.TheVariants.{Cut, Down as End, Got, Sent, Stopped}
use Rattle.dtx_values.specs.declared.message.Conn.{Conn}
use Rattle.dtx_values.specs.declared.message.Dir.{Dir}
use Rattle.dtx_values.specs.declared.message.Dir.TheVariants.{Up, Down}
use Rattle.dtx_values.specs.declared.message.Message.{Message}
use Rattle.dtx_values.specs.Lines.{has_line}
use Rattle.dtx_model.specs.Frames.{frame_of}
use Rattle.dtx_model.specs.Outcome.{is_empty}
use Rattle.dtx_model.specs.Wires.{MayCross, WireRun, begins_ended, ended_after, ends, is_ended, is_kept, is_lost_wire, is_open_wire, is_stopped, in_transit, kept, loses, lost_after, lost_since, opened_with, opens, same_connection, same_direction, sent_behind, transit_after, transit_after_stop, without_first}
use Rattle.dtx_model.specs.World.{has_left, is_linked}
use Rattle.dtx_model.proofs.Bools.{and_left, and_right, not_both, or_case, or_false, or_first, or_right, or_second}
use Rattle.oletx_session.specs.Traffic.{Wire, has_left as is_left_on, is_open, is_taken, lane, may_send, opposite, wire_of}
use Rattle.oletx_session.specs.Carries.{Carries, IsLane, IsWire}
use Rattle.dtx_model.proofs.Connections.{same_is}
use Rattle.oletx_session.proofs.Views.{frame_full}
use Rattle.dtx_model.specs.Words.{holds}

-- whether it is lost, where the history says so
lost_is : (c : Conn) (h : List Entry) (l : Bool) → lost_since c h ≡ Some l → is_lost_wire c h ≡ l
lost_is c h l s = ap holds s

-- the entry by which a side sees the end of an open connection loses it, or comes where it is lost
ends_lost : (c : Conn) (d : Dir) (h : List Entry) (x : Entry) (l : Bool) → MayCross h x → lost_since c h ≡ Some l → ends c d x ≡ true → (l || loses c x) ≡ true
ends_lost c d h (End e r) l m s t =
    let same : c ≡ e = same_is c e (and_left (same_connection c e) (same_direction d r) t) in
    let lost : is_lost_wire e h ≡ true =
    and_left (is_lost_wire e h) (is_empty (in_transit e r h)) (and_left (is_lost_wire e h && is_empty (in_transit e r h)) (not (is_ended e r h)) m) in
    or_left l false (sym (lost_is c h l s) ∙ ap (λ x. is_lost_wire x h) same ∙ lost)
ends_lost c d h (Got e r m) l k s t =
    let on = and_left (same_connection c e && same_direction d r) (not (has_line e r m)) t in
    let unlined = and_right (same_connection c e && same_direction d r) (not (has_line e r m)) t in
    or_right l (same_connection c e && not (has_line e r m)) (both (same_connection c e) (not (has_line e r m)) (and_left (same_connection c e) (same_direction d r) on) unlined)
  where
    both : (a b : Bool) → a ≡ true → b ≡ true → (a && b) ≡ true
    both true b p q = q
    both false b p q = absurd cc
ends_lost c Up h Stopped l m s t = or_right l true refl
ends_lost c Down h Stopped l m s t = absurd cc
ends_lost c d h _ l m s t = absurd cc

-- an end that was seen is that of a lost connection, where it was opened
pub ended_lost : (c : Conn) (d : Dir) (h : List Entry) → WireRun h → is_some (lost_since c h) ≡ true → is_ended c d h ≡ true → is_lost_wire c h ≡ true
ended_lost c d [] r o e = absurd cc
ended_lost c d (x ∷ h) r o e = by (λ o t. ended_lost c d h r.1 o t) (lost_since c h) refl (opens c x) refl o e
  where
    begun : (d : Dir) → begins_ended d h ≡ true → is_stopped h ≡ true
    begun Up k = k
    begun Down k = absurd cc

    by : (is_some (lost_since c h) ≡ true → is_ended c d h ≡ true → is_lost_wire c h ≡ true) → (s : Option Bool) → lost_since c h ≡ s → (b : Bool) → opens c x ≡ b → is_some (lost_after c h x s) ≡ true
        → ended_after b (begins_ended d h) (ends c d x || is_ended c d h) ≡ true → holds (lost_after c h x (lost_since c h)) ≡ true
    by before None s true b o e = rw (s, b) (begun d e)
    by before (Some l) s true b o e = rw (s, b) (begun d e)
    by before None s false b o e = absurd (not_both (is_some (cond (opens c x) (Some (is_stopped h)) None)) o (rw b refl))
    by before (Some l) s false b o e =
        let lost : (l || loses c x) ≡ true =
        or_case (ends c d x) (is_ended c d h) (λ t. ends_lost c d h x l r.0 s t)
        (λ t. or_left l (loses c x) (sym (lost_is c h l s) ∙ before (ap is_some s) t)) e in
        rw (s, b) lost

some_none : (b : Bool) → Some b ≡ None → ⊥
some_none b e = cc

-- where nothing is on the way, nothing is after an entry that opens nothing
sent_none : (on is_open : Bool) (m : Message) (ms : List Message) → is_open ≡ false → ms ≡ [] → (if on then sent_behind is_open m ms else ms) ≡ []
sent_none true is_open m ms k n = ap (λ b. sent_behind b m ms) k ∙ n
sent_none false is_open m ms k n = n

got_none : (other unlined here : Bool) (ms : List Message) → ms ≡ [] → (if other then ms else if unlined then [] else if here then without_first ms else ms) ≡ []
got_none true unlined here ms n = n
got_none false true here ms n = refl
got_none false false true ms n = ap without_first n
got_none false false false ms n = n

cut_none : (here : Bool) (k : ℕ) (ms : List Message) → ms ≡ [] → (if here then take k ms else ms) ≡ []
cut_none true zero ms n = refl
cut_none true (suc k) ms n = ap (take (suc k)) n
cut_none false k ms n = n

stop_none : (d : Dir) (ms : List Message) → ms ≡ [] → transit_after_stop d ms ≡ []
stop_none Up ms n = refl
stop_none Down ms n = n

-- nothing is on the way on a connection that was never opened
unopened : (c : Conn) (d : Dir) (h : List Entry) → lost_since c h ≡ None → in_transit c d h ≡ []
unopened c d [] n = refl
unopened c d (x ∷ h) n = by (λ e. unopened c d h e) (lost_since c h) refl (opens c x) refl n
  where
    rest : (x : Entry) → opens c x ≡ false → in_transit c d h ≡ [] → is_open_wire c h ≡ false → transit_after c d h x (in_transit c d h) ≡ []
    rest (Sent e r m) shut none closed =
        let ms = in_transit c d h in
        let on = same_connection c e && same_direction d r in
        cond-false (opens c (Sent e r m)) (opened_with d m (is_stopped h)) (if on then sent_behind (is_open_wire c h) m ms else ms) shut
        ∙ sent_none on (is_open_wire c h) m ms closed none
    rest (Got e r m) shut none closed = got_none (not (same_connection c e)) (not (has_line e r m)) (same_direction d r) (in_transit c d h) none
    rest (Cut e u w) shut none closed = cut_none (same_connection c e) (kept d u w) (in_transit c d h) none
    rest Stopped shut none closed = stop_none d (in_transit c d h) none
    rest _ shut none closed = none

    by : (lost_since c h ≡ None → in_transit c d h ≡ []) → (s : Option Bool) → lost_since c h ≡ s → (b : Bool) → opens c x ≡ b → lost_after c h x s ≡ None → transit_after c d h x (in_transit c d h) ≡ []
    by before (Some l) e true b n = absurd (some_none (is_stopped h) (sym (cond-true (opens c x) (Some (is_stopped h)) (Some (l || loses c x)) b) ∙ n))
    by before (Some l) e false b n = absurd (some_none (l || loses c x) (sym (cond-false (opens c x) (Some (is_stopped h)) (Some (l || loses c x)) b) ∙ n))
    by before None e true b n = absurd (some_none (is_stopped h) (sym (cond-true (opens c x) (Some (is_stopped h)) None b) ∙ n))
    by before None e false b n = rest x b (before e) (ap is_kept e)

-- what is left to deliver by the session is what is left by the history
empty_frames : (ms : List Message) → is_empty (flat_map frame_of ms) ≡ is_empty ms
empty_frames [] = refl
empty_frames (m ∷ ms) = frame_full m (flat_map frame_of ms)

pub left_is : (c : Conn) (d : Dir) (ws : List Wire) (h : List Entry) → Carries ws h → is_left_on d (wire_of c ws) ≡ has_left c d h
left_is c d ws h k = by (wire_of c ws) (k c)
  where
    by : (o : Option Wire) → IsWire c o h → is_left_on d o ≡ has_left c d h
    by None none =
        sym (ap (λ ms. not (is_empty ms) || (is_lost_wire c h && not (is_ended c d h))) (unopened c d h none) ∙ ap (λ (s : Option Bool). holds s && not (is_ended c d h)) none)
    by (Some w) at =
        let l : IsLane c d w h = at.1 d in
        ap (λ b. not (is_empty b) || (w.lost && not (lane d w).ended)) l.queue.bytes
        ∙ ap (λ b. not b || (w.lost && not (lane d w).ended)) (empty_frames (in_transit c d h))
        ∙ ap (λ b. not (is_empty (in_transit c d h)) || (w.lost && not b)) l.ended
        ∙ sym (ap (λ (s : Option Bool). not (is_empty (in_transit c d h)) || (holds s && not (is_ended c d h))) at.0)

-- a connection is open by the session where it is by the history
pub open_is : (c : Conn) (ws : List Wire) (h : List Entry) → Carries ws h → is_open (wire_of c ws) ≡ is_open_wire c h
open_is c ws h k = by (wire_of c ws) (k c)
  where
    by : (o : Option Wire) → IsWire c o h → is_open o ≡ is_open_wire c h
    by None none = sym (ap is_kept none)
    by (Some w) at = sym (ap is_kept at.0)

-- where nothing is left of an earlier opening, the connection is free
pub is_free : (c : Conn) (ws : List Wire) (h : List Entry) → Carries ws h → WireRun h → is_linked c h ≡ false → is_taken (wire_of c ws) ≡ false
is_free c ws h k r free =
    or_false (is_open (wire_of c ws) || is_left_on Up (wire_of c ws)) (is_left_on Down (wire_of c ws))
    (or_false (is_open (wire_of c ws)) (is_left_on Up (wire_of c ws)) (open_is c ws h k ∙ shut (lost_since c h) refl free) (left_is c Up ws h k ∙ left Up (lost_since c h) refl free))
    (left_is c Down ws h k ∙ left Down (lost_since c h) refl free)
  where
    rest : Bool
    rest = not (is_ended c Up h && is_ended c Down h) || has_left c Up h || has_left c Down h

    shut : (s : Option Bool) → lost_since c h ≡ s → (is_some s && rest) ≡ false → is_kept (lost_since c h) ≡ false
    shut None s f = ap is_kept s
    shut (Some l) s f =
        let ended : not (is_ended c Up h && is_ended c Down h) ≡ false =
        or_first (not (is_ended c Up h && is_ended c Down h)) (has_left c Up h) (or_first (not (is_ended c Up h && is_ended c Down h) || has_left c Up h) (has_left c Down h) f) in
        let up : is_ended c Up h ≡ true = and_left (is_ended c Up h) (is_ended c Down h) (unnot (is_ended c Up h && is_ended c Down h) ended) in
        let lost : l ≡ true = sym (lost_is c h l s) ∙ ended_lost c Up h r (ap is_some s) up in
        ap is_kept s ∙ ap not lost
      where
        unnot : (b : Bool) → not b ≡ false → b ≡ true
        unnot true e = refl
        unnot false e = absurd cc

    left : (d : Dir) (s : Option Bool) → lost_since c h ≡ s → (is_some s && rest) ≡ false → has_left c d h ≡ false
    left d None s f =
        ap (λ ms. not (is_empty ms) || (is_lost_wire c h && not (is_ended c d h))) (unopened c d h s) ∙ ap (λ (o : Option Bool). holds o && not (is_ended c d h)) s
    left Up (Some l) s f =
        or_second (not (is_ended c Up h && is_ended c Down h)) (has_left c Up h) (or_first (not (is_ended c Up h && is_ended c Down h) || has_left c Up h) (has_left c Down h) f)
    left Down (Some l) s f = or_second (not (is_ended c Up h && is_ended c Down h) || has_left c Up h) (has_left c Down h) f

-- where a connection was opened, and the side that sends didn't see its end, it may send
pub may_be_sent : (c : Conn) (d : Dir) (ws : List Wire) (h : List Entry) → Carries ws h → (is_some (lost_since c h) && not (is_ended c (opposite d) h)) ≡ true → may_send d (wire_of c ws) ≡ true
may_be_sent c d ws h k may = by (wire_of c ws) (k c)
  where
    by : (o : Option Wire) → IsWire c o h → may_send d o ≡ true
    by None none = absurd (not_both (is_some (lost_since c h)) (and_left (is_some (lost_since c h)) (not (is_ended c (opposite d) h)) may) (ap is_some none))
    by (Some w) at = ap not (at.1 (opposite d)).ended ∙ and_right (is_some (lost_since c h)) (not (is_ended c (opposite d) h)) may

-- what is linked by the history is open or has something left to deliver
pub linked_is : (c : Conn) (ws : List Wire) (h : List Entry) → Carries ws h → WireRun h → (is_open_wire c h || has_left c Up h || has_left c Down h) ≡ is_linked c h
linked_is c ws h k r = by (lost_since c h) refl
  where
    none : is_linked c h ≡ false → (is_open_wire c h || has_left c Up h || has_left c Down h) ≡ is_linked c h
    none free =
        (λ i. sym (open_is c ws h k) i || sym (left_is c Up ws h k) i || sym (left_is c Down ws h k) i) ∙ is_free c ws h k r free ∙ sym free

    lost : (a b x y : Bool) → ((a || not x) || (b || not y)) ≡ (not (x && y) || (a || not x) || (b || not y))
    lost true true true true = refl
    lost true true true false = refl
    lost true true false y = refl
    lost true false true true = refl
    lost true false true false = refl
    lost true false false y = refl
    lost false true true true = refl
    lost false true true false = refl
    lost false true false y = refl
    lost false false true true = refl
    lost false false true false = refl
    lost false false false y = refl

    unended : is_lost_wire c h ≡ false → is_some (lost_since c h) ≡ true → is_ended c Up h ≡ false
    unended shut opened = case (is_ended c Up h) refl
      where
        case : (b : Bool) → is_ended c Up h ≡ b → is_ended c Up h ≡ false
        case false e = e
        case true e = absurd (not_both (is_lost_wire c h) (ended_lost c Up h r opened e) shut)

    by : (s : Option Bool) → lost_since c h ≡ s → (is_open_wire c h || has_left c Up h || has_left c Down h) ≡ is_linked c h
    by None s = none (ap (λ (o : Option Bool). is_some o && (not (is_ended c Up h && is_ended c Down h) || has_left c Up h || has_left c Down h)) s)
    by (Some false) s =
        ap (λ (o : Option Bool). is_kept o || has_left c Up h || has_left c Down h) s
        ∙ sym (ap (λ (o : Option Bool). is_some o && (not (is_ended c Up h && is_ended c Down h) || has_left c Up h || has_left c Down h)) s
        ∙ ap (λ b. not (b && is_ended c Down h) || has_left c Up h || has_left c Down h) (unended (ap holds s) (ap is_some s)))
    by (Some true) s =
        (λ i. is_kept (s i) || (not (is_empty (in_transit c Up h)) || (holds (s i) && not (is_ended c Up h))) || (not (is_empty (in_transit c Down h)) || (holds (s i) && not (is_ended c Down h))))
        ∙ lost (not (is_empty (in_transit c Up h))) (not (is_empty (in_transit c Down h))) (is_ended c Up h) (is_ended c Down h)
        ∙ sym (λ i. is_some (s i) && (not (is_ended c Up h && is_ended c Down h) || (not (is_empty (in_transit c Up h)) || (holds (s i) && not (is_ended c Up h))) || (not (is_empty (in_transit c Down h)) || (holds (s i) && not (is_ended c Down h)))))
