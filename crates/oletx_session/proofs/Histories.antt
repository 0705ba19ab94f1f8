-- What a change of what is seen makes of the histories that it carries. It stands on the definitions of connections alone.
use Rattle.std.proofs.Common.{◌≡◌, ℕ, zero, suc, min, Bool, true, false, ◌&&◌, ◌||◌, cond, if◌then◌else◌, not, List, [], ◌∷◌, ◌++◌, length, take, Option, Some, None, IfSome, refl, ap, sym, subst, ◌∙◌, inl, inr}
use Rattle.std.specs.List.{flat_map}
use Rattle.std.proofs.lemmas.Bool.{and_from, and_parts, and_left, and_right, cases_Bool, cond-false, cond-true, not_from_true, or_right}
use Rattle.std.proofs.Math.Bool.{or-false}
use Rattle.std.proofs.lemmas.List.{append-nil, take_min}
use Rattle.std.proofs.lemmas.List.Concat.{flat_map-append}
use Rattle.dtx_values.specs.declared.entry.Entry.{Entry}
use Rattle.dtx_values.specs.declared.entry.Entry.TheVariants.{Cut, Down as End, Got, Sent}
use Rattle.dtx_values.specs.declared.message.Conn.{Conn}
use Rattle.dtx_values.specs.declared.message.Dir.{Dir}
use Rattle.dtx_values.specs.declared.message.Dir.TheVariants.{Up, Down}
use Rattle.dtx_values.specs.declared.message.Message.{Message}
use Rattle.dtx_model.specs.Frames.{frame_of, is_valid}
use Rattle.dtx_values.specs.Lines.{has_line}
use Rattle.dtx_model.specs.Outcome.{is_empty}
use Rattle.dtx_model.specs.Words.{each, holds}
use Rattle.dtx_model.specs.Wires.{MayCross, begins_ended, ended_after, ends, is_ended, is_kept, is_lost_wire, is_next, is_open_wire, is_opening, is_stopped, kept, in_transit, loses, lost_after, lost_since, opened_with, opens, same_connection, same_direction, sent_behind, without_first}
use Rattle.oletx_session.specs.Traffic.{Becomes, Delivers, Ends, IsCut, Spells, Wire, fresh, lane, lost_at_once, lost_with, may_send, sent_on, wire_of, with_bytes, with_end}
use Rattle.oletx_session.specs.Carries.{Carries, IsLane, IsStarted, IsStartedLost, IsWire}
use Rattle.dtx_model.proofs.Connections.{same_is, same_self, same_way_is}
use Rattle.oletx_session.proofs.Reading.{first_read, none_read}

-- what neither opens nor loses a connection leaves it as it was
lost_kept : (x : Conn) (h : List Entry) (e : Entry) (o : Option Bool) → opens x e ≡ false → loses x e ≡ false → lost_after x h e o ≡ o
lost_kept x h e None shut kept = cond-false (opens x e) (Some (is_stopped h)) None shut
lost_kept x h e (Some lost) shut kept = cond-false (opens x e) (Some (is_stopped h)) (Some (lost || loses x e)) shut ∙ ap Some (ap (λ b. lost || b) kept ∙ or-false lost)

-- what neither opens nor ends a connection leaves it ended or not
ended_kept : (x : Conn) (d : Dir) (h : List Entry) (e : Entry) → opens x e ≡ false → ends x d e ≡ false → is_ended x d (e ∷ h) ≡ is_ended x d h
ended_kept x d h e shut kept =
    (λ k. ended_after (shut k) (begins_ended d h) (kept k || is_ended x d h))

-- a connection that the history leaves as it was
wire_kept : (x : Conn) (o : Option Wire) (h n : List Entry) → lost_since x n ≡ lost_since x h → ((d : Dir) → in_transit x d n ≡ in_transit x d h) → ((d : Dir) → is_ended x d n ≡ is_ended x d h) → IsWire x o h
    → IsWire x o n
wire_kept x None h n lost queue ended is = lost ∙ is
wire_kept x (Some w) h n lost queue ended is = (
  lost ∙ is.0,
  λ d. record {
    queue = (let P : List Message → Type 0 = λ ms. Spells (lane d w).bytes ms in subst P (sym (queue d)) (is.1 d).queue);
    ended = (is.1 d).ended ∙ sym (ended d);
  },
)

-- where one connection stands as the history says, and the others still do, all do
spread : (c : Conn) (w : Wire) (old new : List Wire) (h n : List Entry) → Becomes c w old new → ((x : Conn) → same_connection x c ≡ false → IsWire x (wire_of x old) h) → IsWire c (Some w) n
    → ((x : Conn) → same_connection x c ≡ false → lost_since x n ≡ lost_since x h) → ((x : Conn) → same_connection x c ≡ false → (d : Dir) → in_transit x d n ≡ in_transit x d h)
    → ((x : Conn) → same_connection x c ≡ false → (d : Dir) → is_ended x d n ≡ is_ended x d h) → Carries new n
spread c w old new h n becomes before here lost queue ended x =
    elim (cases_Bool (same_connection x c)) [
      | inl same ↦ (let P : Conn → Type 0 = λ y. IsWire y (wire_of y new) n in
          let Q : Option Wire → Type 0 = λ o. IsWire c o n in
          subst P (sym (same_is x c same)) (subst Q (sym becomes.here) here))
      | inr other ↦ (let Q : Option Wire → Type 0 = λ o. IsWire x o n in
          subst Q (sym (becomes.others x other)) (wire_kept x (wire_of x old) h n (lost x other) (queue x other) (ended x other) (before x other)))
    ]

-- a message opens no other connection
opens_other : (c x : Conn) (d : Dir) (m : Message) → same_connection x c ≡ false → opens x (Sent c d m) ≡ false
opens_other c x Up m other = and_left (same_connection x c) (is_opening c m) other
opens_other c x Down m other = refl

-- nor does a message that is sent end one
sent_ends : (c x : Conn) (d e : Dir) (m : Message) → ends x e (Sent c d m) ≡ false
sent_ends c x d Up m = refl
sent_ends c x d Down m = refl

-- what is sent on a connection leaves the others as they were
sent_others : (c x : Conn) (d e : Dir) (m : Message) (h : List Entry) → same_connection x c ≡ false → in_transit x e (Sent c d m ∷ h) ≡ in_transit x e h
sent_others c x d e m h other =
    let ms = in_transit x e h in
    let on = same_connection x c && same_direction e d in
    let off = and_left (same_connection x c) (same_direction e d) other in
    cond-false (opens x (Sent c d m)) (opened_with e m (is_stopped h)) (cond on (sent_behind (is_open_wire x h) m ms) ms) (opens_other c x d m other)
    ∙ cond-false on (sent_behind (is_open_wire x h) m ms) ms off

-- a test of both lists is a test of the list of both
each_append : (xs ys : List Message) → each is_valid xs ≡ true → each is_valid ys ≡ true → each is_valid (xs ++ ys) ≡ true
each_append [] ys first second = second
each_append (m ∷ xs) ys first second =
    let parts = and_parts (is_valid m) (each is_valid xs) first in
    and_from (is_valid m) (each is_valid (xs ++ ys)) parts.0 (each_append xs ys parts.1 second)

-- and of the first so many
each_take : (n : ℕ) (ms : List Message) → each is_valid ms ≡ true → each is_valid (take n ms) ≡ true
each_take zero ms valid = refl
each_take (suc n) [] valid = refl
each_take (suc n) (m ∷ ms) valid =
    let parts = and_parts (is_valid m) (each is_valid ms) valid in
    and_from (is_valid m) (each is_valid (take n ms)) parts.0 (each_take n ms parts.1)

-- a message behind others is spelled behind them
spell_behind : (b : List ℕ) (m : Message) (ms : List Message) → is_valid m ≡ true → Spells b ms → Spells (b ++ frame_of m) (ms ++ m ∷ [])
spell_behind b m ms valid s = record {
  valid = each_append ms (m ∷ []) s.valid (and_from (is_valid m) true valid refl);
  bytes = (λ k. s.bytes k ++ sym (append-nil (frame_of m)) k) ∙ sym (flat_map-append frame_of ms (m ∷ []));
}

-- the first so many messages, spelled
spell_front : (n : ℕ) (b : List ℕ) (ms : List Message) → Spells b ms → Spells (flat_map frame_of (take n ms)) (take n ms)
spell_front n b ms s = record { valid = each_take n ms s.valid; bytes = refl }

-- a lane whose bytes and messages change alike
lane_from : (c : Conn) (d : Dir) (v w : Wire) (h n : List Entry) (ms : List Message) → in_transit c d n ≡ ms → Spells (lane d v).bytes ms → (lane d v).ended ≡ (lane d w).ended
    → is_ended c d n ≡ is_ended c d h → (lane d w).ended ≡ is_ended c d h → IsLane c d v n
lane_from c d v w h n ms queue spelled same kept ended = record {
  queue = (let P : List Message → Type 0 = λ xs. Spells (lane d v).bytes xs in subst P (sym queue) spelled);
  ended = same ∙ ended ∙ sym kept;
}

-- what is on the way after a message that is sent on the connection
sent_here : (c : Conn) (d e : Dir) (m : Message) (h : List Entry) → opens c (Sent c d m) ≡ false
    → in_transit c e (Sent c d m ∷ h) ≡ (if same_direction e d then sent_behind (is_open_wire c h) m (in_transit c e h) else in_transit c e h)
sent_here c d e m h shut =
    let ms = in_transit c e h in
    let behind = sent_behind (is_open_wire c h) m ms in
    cond-false (opens c (Sent c d m)) (opened_with e m (is_stopped h)) (cond (same_connection c c && same_direction e d) behind ms) shut
    ∙ ap (λ b. cond (b && same_direction e d) behind ms) (same_self c)

-- a wire with one lane's bytes changed is as lost as it was
bytes_lost : (d : Dir) (b : List ℕ) (w : Wire) → (with_bytes d b w).lost ≡ w.lost
bytes_lost Up b w = refl
bytes_lost Down b w = refl

-- and its ends are as seen as they were
bytes_ended : (d e : Dir) (b : List ℕ) (w : Wire) → (lane e (with_bytes d b w)).ended ≡ (lane e w).ended
bytes_ended Up Up b w = refl
bytes_ended Up Down b w = refl
bytes_ended Down Up b w = refl
bytes_ended Down Down b w = refl

-- the lane has these bytes
bytes_here : (d : Dir) (b : List ℕ) (w : Wire) → (lane d (with_bytes d b w)).bytes ≡ b
bytes_here Up b w = refl
bytes_here Down b w = refl

-- and the other has those that it had
bytes_there : (d e : Dir) (b : List ℕ) (w : Wire) → same_direction e d ≡ false → (lane e (with_bytes d b w)).bytes ≡ (lane e w).bytes
bytes_there Up Up b w other = absurd cc
bytes_there Up Down b w other = refl
bytes_there Down Up b w other = refl
bytes_there Down Down b w other = absurd cc

-- a lane of a wire with one lane's bytes changed
lane_bytes_from : (c : Conn) (d e : Dir) (b : List ℕ) (w : Wire) (h n : List Entry) (ms : List Message) → in_transit c e n ≡ (if same_direction e d then ms else in_transit c e h) → Spells b ms
    → is_ended c e n ≡ is_ended c e h → IsLane c e w h → IsLane c e (with_bytes d b w) n
lane_bytes_from c d e b w h n ms queue spelled kept was =
    elim (cases_Bool (same_direction e d)) [
      | inl same ↦ (let way = same_way_is e d same in
          let P : List ℕ → Type 0 = λ xs. Spells xs ms in
          lane_from c e (with_bytes d b w) w h n ms (queue ∙ cond-true (same_direction e d) ms (in_transit c e h) same)
          (subst P (sym ((λ k. (lane (way k) (with_bytes d b w)).bytes) ∙ bytes_here d b w)) spelled) (bytes_ended d e b w) kept was.ended)
      | inr other ↦ (let P : List ℕ → Type 0 = λ xs. Spells xs (in_transit c e h) in
          lane_from c e (with_bytes d b w) w h n (in_transit c e h) (queue ∙ cond-false (same_direction e d) ms (in_transit c e h) other)
          (subst P (sym (bytes_there d e b w other)) was.queue) (bytes_ended d e b w) kept was.ended)
    ]

-- whether the history says that the connection is open
open_said : (c : Conn) (w : Wire) (h : List Entry) → lost_since c h ≡ Some w.lost → is_open_wire c h ≡ not w.lost
open_said c w h is = ap is_kept is

-- the connection on which a message is sent stands as the history says
sent_wire : (c : Conn) (d : Dir) (m : Message) (w : Wire) (h : List Entry) → is_valid m ≡ true → opens c (Sent c d m) ≡ false → IsWire c (Some w) h → IsWire c (Some (sent_on d m w)) (Sent c d m ∷ h)
sent_wire c d m w h valid shut is =
    let n = Sent c d m ∷ h in
    let b = (lane d w).bytes ++ frame_of m in
    let lost = lost_kept c h (Sent c d m) (lost_since c h) shut refl in
    elim (cases_Bool w.lost) [
      | inl is_lost ↦ (let P : Wire → Type 0 = λ v. IsWire c (Some v) n in
          let dropped = λ (e : Dir). sent_here c d e m h shut
          ∙ ap (λ b. cond (same_direction e d) (sent_behind b m (in_transit c e h)) (in_transit c e h)) (open_said c w h is.0 ∙ ap not is_lost) ∙ same_both (same_direction e d) (in_transit c e h) in
          subst P (sym (cond-true w.lost w (with_bytes d b w) is_lost)) (wire_kept c (Some w) h n lost dropped (λ e. ended_kept c e h (Sent c d m) shut (sent_ends c c e d m)) is))
      | inr open' ↦ (let P : Wire → Type 0 = λ v. IsWire c (Some v) n in
          let ms = in_transit c d h in
          let behind = λ (e : Dir). sent_here c d e m h shut
          ∙ ap (λ b. cond (same_direction e d) (sent_behind b m (in_transit c e h)) (in_transit c e h)) (open_said c w h is.0 ∙ ap not open') ∙ same_transit e d (λ xs. xs ++ m ∷ []) (λ f. in_transit c f h) in
          subst P (sym (cond-false w.lost w (with_bytes d b w) open')) (
            lost ∙ is.0 ∙ ap Some (sym (bytes_lost d b w)),
            λ e. lane_bytes_from c d e b w h n (ms ++ m ∷ []) (behind e) (spell_behind (lane d w).bytes m ms valid (is.1 d).queue) (ended_kept c e h (Sent c d m) shut (sent_ends c c e d m)) (is.1 e),
          ))
    ]
  where
    -- a choice between the same is the same
    same_both : (b : Bool) (ms : List Message) → cond b ms ms ≡ ms
    same_both true ms = refl
    same_both false ms = refl

    -- where the directions are the same, so is what is on the way in them
    same_transit : (e d : Dir) (f : List Message → List Message) (q : Dir → List Message) → cond (same_direction e d) (f (q e)) (q e) ≡ cond (same_direction e d) (f (q d)) (q e)
    same_transit Up Up f q = refl
    same_transit Up Down f q = refl
    same_transit Down Up f q = refl
    same_transit Down Down f q = refl

-- after a message that opens nothing each connection stands as the history says
carried_on : (c : Conn) (d : Dir) (m : Message) (w : Wire) (old new : List Wire) (h : List Entry) → is_valid m ≡ true → wire_of c old ≡ Some w → Becomes c (sent_on d m w) old new → Carries old h
    → opens c (Sent c d m) ≡ false → Carries new (Sent c d m ∷ h)
carried_on c d m w old new h valid at becomes carries shut =
    let P : Option Wire → Type 0 = λ o. IsWire c o h in
    spread c (sent_on d m w) old new h (Sent c d m ∷ h) becomes (λ x other. carries x) (sent_wire c d m w h valid shut (subst P at (carries c)))
    (λ x other. lost_kept x h (Sent c d m) (lost_since x h) (opens_other c x d m other) refl) (λ x other e. sent_others c x d e m h other)
    (λ x other e. ended_kept x e h (Sent c d m) (opens_other c x d m other) (sent_ends c x e d m))

-- the same, where the side that sends may
pub carried_sent : (c : Conn) (d : Dir) (m : Message) (old new : List Wire) (h : List Entry) (o : Option Wire) → wire_of c old ≡ o → may_send d o ≡ true → is_valid m ≡ true
    → IfSome o (λ w. Becomes c (sent_on d m w) old new) → Carries old h → opens c (Sent c d m) ≡ false → Carries new (Sent c d m ∷ h)
carried_sent c d m old new h None at may valid becomes carries shut = absurd cc
carried_sent c d m old new h (Some w) at may valid becomes carries shut = carried_on c d m w old new h valid at becomes carries shut

-- what opens a connection, opens it
opened_since : (c : Conn) (h : List Entry) (e : Entry) (o : Option Bool) → opens c e ≡ true → lost_after c h e o ≡ Some (is_stopped h)
opened_since c h e None opening = cond-true (opens c e) (Some (is_stopped h)) None opening
opened_since c h e (Some lost) opening = cond-true (opens c e) (Some (is_stopped h)) (Some (lost || loses c e)) opening

-- a message alone is spelled by its frame
spell_one : (m : Message) → is_valid m ≡ true → Spells ([] ++ frame_of m) (m ∷ [])
spell_one m valid = spell_behind [] m [] valid (record { valid = refl; bytes = refl })

-- what an opening has on the way, and that no end was seen
opened_lane : (c : Conn) (e : Dir) (m : Message) (h : List Entry) → is_valid m ≡ true → opens c (Sent c Up m) ≡ true → is_stopped h ≡ false → IsLane c e (sent_on Up m (fresh c)) (Sent c Up m ∷ h)
opened_lane c Up m h valid opening running = record {
  queue =
      (let P : List Message → Type 0 = λ ms. Spells ([] ++ frame_of m) ms in
      subst P (sym (cond-true (opens c (Sent c Up m)) (opened_with Up m (is_stopped h)) _ opening ∙ cond-false (is_stopped h) [] (m ∷ []) running)) (spell_one m valid));
  ended = sym (ap (λ b. ended_after b (is_stopped h) (is_ended c Up h)) opening ∙ running);
}
opened_lane c Down m h valid opening running = record {
  queue =
      (let P : List Message → Type 0 = λ ms. Spells [] ms in
      subst P (sym (cond-true (opens c (Sent c Up m)) [] _ opening)) (record { valid = refl; bytes = refl }));
  ended = sym (ap (λ b. ended_after b false (is_ended c Down h)) opening);
}

-- after the message that opens a connection which was just started each connection stands as the history says
pub carried_opened : (c : Conn) (d : Dir) (m : Message) (old new : List Wire) (h : List Entry) → is_valid m ≡ true → IfSome (wire_of c old) (λ w. Becomes c (sent_on d m w) old new) → IsStarted c old h
    → opens c (Sent c d m) ≡ true → is_stopped h ≡ false → Carries new (Sent c d m ∷ h)
carried_opened c Down m old new h valid becomes started opening running = absurd cc
carried_opened c Up m old new h valid becomes started opening running =
    let P : Option Wire → Type 0 = λ o. IfSome o (λ w. Becomes c (sent_on Up m w) old new) in
    spread c (sent_on Up m (fresh c)) old new h (Sent c Up m ∷ h) (subst P started.here becomes) started.others
    (opened_since c h (Sent c Up m) (lost_since c h) opening ∙ ap Some running, λ e. opened_lane c e m h valid opening running)
    (λ x other. lost_kept x h (Sent c Up m) (lost_since x h) (opens_other c x Up m other) refl) (λ x other e. sent_others c x Up e m h other)
    (λ x other e. ended_kept x e h (Sent c Up m) (opens_other c x Up m other) (sent_ends c x Up e m))

-- an opening while the coordinator stands stopped has nothing on the way, and the coordinator sees no end of it
lost_lane : (c : Conn) (e : Dir) (m : Message) (h : List Entry) → opens c (Sent c Up m) ≡ true → is_stopped h ≡ true → IsLane c e (lost_at_once c) (Sent c Up m ∷ h)
lost_lane c Up m h opening stopped = record {
  queue =
      (let P : List Message → Type 0 = λ ms. Spells [] ms in
      subst P (sym (cond-true (opens c (Sent c Up m)) (opened_with Up m (is_stopped h)) _ opening ∙ cond-true (is_stopped h) [] (m ∷ []) stopped)) (record { valid = refl; bytes = refl }));
  ended = sym (ap (λ b. ended_after b (is_stopped h) (is_ended c Up h)) opening ∙ stopped);
}
lost_lane c Down m h opening stopped = record {
  queue =
      (let P : List Message → Type 0 = λ ms. Spells [] ms in
      subst P (sym (cond-true (opens c (Sent c Up m)) [] _ opening)) (record { valid = refl; bytes = refl }));
  ended = sym (ap (λ b. ended_after b false (is_ended c Down h)) opening);
}

-- after the message that opens a connection while the coordinator stands stopped each connection stands as the history says
pub carried_opened_lost : (c : Conn) (d : Dir) (m : Message) (old new : List Wire) (h : List Entry) → IfSome (wire_of c old) (λ w. Becomes c (sent_on d m w) old new) → IsStartedLost c old h
    → opens c (Sent c d m) ≡ true → is_stopped h ≡ true → Carries new (Sent c d m ∷ h)
carried_opened_lost c Down m old new h becomes started opening stopped = absurd cc
carried_opened_lost c Up m old new h becomes started opening stopped =
    let P : Option Wire → Type 0 = λ o. IfSome o (λ w. Becomes c (sent_on Up m w) old new) in
    spread c (lost_at_once c) old new h (Sent c Up m ∷ h) (subst P started.here becomes) started.others
    (opened_since c h (Sent c Up m) (lost_since c h) opening ∙ ap Some stopped, λ e. lost_lane c e m h opening stopped)
    (λ x other. lost_kept x h (Sent c Up m) (lost_since x h) (opens_other c x Up m other) refl) (λ x other e. sent_others c x Up e m h other)
    (λ x other e. ended_kept x e h (Sent c Up m) (opens_other c x Up m other) (sent_ends c x Up e m))

-- a message that is got ends nothing where it has a line
got_ends : (c x : Conn) (d e : Dir) (m : Message) → has_line c d m ≡ true → ends x e (Got c d m) ≡ false
got_ends c x d Up m line = and_right (same_connection x c && same_direction Up d) (not (has_line c d m)) (not_from_true (has_line c d m) line)
got_ends c x d Down m line = and_right (same_connection x c && same_direction Down d) (not (has_line c d m)) (not_from_true (has_line c d m) line)

-- and leaves the other connections as they were
got_others : (c x : Conn) (d e : Dir) (m : Message) (h : List Entry) → same_connection x c ≡ false → in_transit x e (Got c d m ∷ h) ≡ in_transit x e h
got_others c x d e m h other =
    let ms = in_transit x e h in
    ap (λ b. cond (not b) ms (cond (not (has_line c d m)) [] (cond (same_direction e d) (without_first ms) ms))) other

-- what is on the way after a message that is got on the connection
got_here : (c : Conn) (d e : Dir) (m : Message) (h : List Entry) → has_line c d m ≡ true → in_transit c e (Got c d m ∷ h) ≡ (if same_direction e d then without_first (in_transit c e h) else in_transit c e h)
got_here c d e m h line =
    let ms = in_transit c e h in
    let behind = cond (same_direction e d) (without_first ms) ms in
    ap (λ b. cond (not b) ms (cond (not (has_line c d m)) [] behind)) (same_self c) ∙ ap (λ b. cond (not b) [] behind) line

-- a wire of which the first message was got stands as the history says
got_wire : (c : Conn) (d : Dir) (m : Message) (w : Wire) (rest : List ℕ) (h : List Entry) → (lane d w).bytes ≡ frame_of m ++ rest → is_valid m ≡ true → has_line c d m ≡ true → IsWire c (Some w) h
    → IsWire c (Some (with_bytes d rest w)) (Got c d m ∷ h)
got_wire c d m w rest h first valid line is =
    let e = Got c d m in
    let n = e ∷ h in
    let P : List ℕ → Type 0 = λ b. Spells b (in_transit c d h) in
    let read = first_read m rest (in_transit c d h) valid (subst P first (is.1 d).queue) in
    let Q : List Message → Type 0 = λ ms. Spells rest ms in
    let spelled = subst Q (sym (ap without_first read.all)) read.spelled in
    let kept = and_right (same_connection c c) (not (has_line c d m)) (not_from_true (has_line c d m) line) in (
      lost_kept c h e (lost_since c h) refl kept ∙ is.0 ∙ ap Some (sym (bytes_lost d rest w)),
      λ f. lane_bytes_from c d f rest w h n (without_first (in_transit c d h)) (got_here c d f m h line ∙ same_transit f d (λ g. in_transit c g h)) spelled (ended_kept c f h e refl (got_ends c c d f m line)) (is.1 f),
    )
  where
    -- where the directions are the same, so is what is on the way in them
    same_transit : (e d : Dir) (q : Dir → List Message) → cond (same_direction e d) (without_first (q e)) (q e) ≡ cond (same_direction e d) (without_first (q d)) (q e)
    same_transit Up Up q = refl
    same_transit Up Down q = refl
    same_transit Down Up q = refl
    same_transit Down Down q = refl

-- the first of messages is the next
next_first : (m : Message) (ms ns : List Message) → ms ≡ m ∷ ns → is_next m ms
next_first m ms ns is = let P : List Message → Type 0 = λ xs. is_next m xs in subst P (sym is) refl

-- what is got was the next on the way
pub got_next : (c : Conn) (d : Dir) (m : Message) (w : Wire) (old new : List Wire) (h : List Entry) → wire_of c old ≡ Some w → Delivers c d m w old new → Carries old h → MayCross h (Got c d m)
got_next c d m w old new h at delivers carries =
    let O : Option Wire → Type 0 = λ o. IsWire c o h in
    let is = subst O at (carries c) in
    let P : List ℕ → Type 0 = λ b. Spells b (in_transit c d h) in
    let read = first_read m delivers.rest (in_transit c d h) delivers.valid (subst P delivers.first (is.1 d).queue) in
    next_first m (in_transit c d h) read.behind read.all

-- after it each connection stands as the history says
pub carried_got : (c : Conn) (d : Dir) (m : Message) (w : Wire) (old new : List Wire) (h : List Entry) → wire_of c old ≡ Some w → Delivers c d m w old new → Carries old h → has_line c d m ≡ true
    → Carries new (Got c d m ∷ h)
carried_got c d m w old new h at delivers carries line =
    let O : Option Wire → Type 0 = λ o. IsWire c o h in
    spread c (with_bytes d delivers.rest w) old new h (Got c d m ∷ h) delivers.taken (λ x other. carries x)
    (got_wire c d m w delivers.rest h delivers.first delivers.valid line (subst O at (carries c)))
    (λ x other. lost_kept x h (Got c d m) (lost_since x h) refl (and_left (same_connection x c) (not (has_line c d m)) other)) (λ x other e. got_others c x d e m h other)
    (λ x other e. ended_kept x e h (Got c d m) refl (got_ends c x d e m line))

-- the end of a connection is not another's
end_others : (c x : Conn) (d e : Dir) → same_connection x c ≡ false → ends x e (End c d) ≡ false
end_others c x d Up other = and_left (same_connection x c) (same_direction Up d) other
end_others c x d Down other = and_left (same_connection x c) (same_direction Down d) other

-- and is one in its own direction
end_here : (c : Conn) (d e : Dir) → ends c e (End c d) ≡ same_direction e d
end_here c d Up = ap (λ b. b && same_direction Up d) (same_self c)
end_here c d Down = ap (λ b. b && same_direction Down d) (same_self c)

-- it changes nothing on the way
end_transit : (c x : Conn) (d e : Dir) (h : List Entry) → in_transit x e (End c d ∷ h) ≡ in_transit x e h
end_transit c x d Up h = refl
end_transit c x d Down h = refl

-- a lane of a wire whose end is seen in one direction
end_lane : (c : Conn) (d e : Dir) (w : Wire) (h : List Entry) → IsLane c e w h → IsLane c e (with_end d w) (End c d ∷ h)
end_lane c Up Up w h is = record { queue = is.queue; ended = sym (ap (λ b. b || is_ended c Up h) (end_here c Up Up)) }
end_lane c Up Down w h is = record { queue = is.queue; ended = is.ended ∙ sym (ap (λ b. b || is_ended c Down h) (end_here c Up Down)) }
end_lane c Down Up w h is = record { queue = is.queue; ended = is.ended ∙ sym (ap (λ b. b || is_ended c Up h) (end_here c Down Up)) }
end_lane c Down Down w h is = record { queue = is.queue; ended = sym (ap (λ b. b || is_ended c Down h) (end_here c Down Down)) }

-- a wire is as lost as it was
end_lost : (d : Dir) (w : Wire) → (with_end d w).lost ≡ w.lost
end_lost Up w = refl
end_lost Down w = refl

-- an end comes where it may
pub end_may : (c : Conn) (d : Dir) (w : Wire) (old new : List Wire) (h : List Entry) → wire_of c old ≡ Some w → Ends c d w old new → Carries old h → MayCross h (End c d)
end_may c d w old new h at end carries =
    let O : Option Wire → Type 0 = λ o. IsWire c o h in
    let is = subst O at (carries c) in
    let P : List ℕ → Type 0 = λ b. Spells b (in_transit c d h) in
    let none = none_read (in_transit c d h) (subst P end.empty (is.1 d).queue) in
    and_from (is_lost_wire c h && is_empty (in_transit c d h)) (not (is_ended c d h)) (and_from (is_lost_wire c h) (is_empty (in_transit c d h)) (ap holds is.0 ∙ end.lost) (ap is_empty none))
    (ap not (sym (is.1 d).ended ∙ end.unseen))

-- after it each connection stands as the history says
pub carried_end : (c : Conn) (d : Dir) (w : Wire) (old new : List Wire) (h : List Entry) → wire_of c old ≡ Some w → Ends c d w old new → Carries old h → Carries new (End c d ∷ h)
carried_end c d w old new h at end carries =
    let O : Option Wire → Type 0 = λ o. IsWire c o h in
    let is = subst O at (carries c) in
    spread c (with_end d w) old new h (End c d ∷ h) end.taken (λ x other. carries x)
    (lost_kept c h (End c d) (lost_since c h) refl refl ∙ is.0 ∙ ap Some (sym (end_lost d w)), λ e. end_lane c d e w h (is.1 e)) (λ x other. lost_kept x h (End c d) (lost_since x h) refl refl)
    (λ x other e. end_transit c x d e h) (λ x other e. ended_kept x e h (End c d) refl (end_others c x d e other))

-- a loss ends nothing
cut_ends : (c x : Conn) (u n : ℕ) (e : Dir) → ends x e (Cut c u n) ≡ false
cut_ends c x u n Up = refl
cut_ends c x u n Down = refl

-- it leaves the other connections as they were
cut_others : (c x : Conn) (u n : ℕ) (e : Dir) (h : List Entry) → same_connection x c ≡ false → in_transit x e (Cut c u n ∷ h) ≡ in_transit x e h
cut_others c x u n e h other = cond-false (same_connection x c) (take (kept e u n) (in_transit x e h)) (in_transit x e h) other

-- and of its own the first so many messages
cut_here : (c : Conn) (u n : ℕ) (e : Dir) (h : List Entry) → in_transit c e (Cut c u n ∷ h) ≡ take (kept e u n) (in_transit c e h)
cut_here c u n e h = cond-true (same_connection c c) (take (kept e u n) (in_transit c e h)) (in_transit c e h) (same_self c)

-- what is lost since it was opened is lost after a loss
cut_since : (c : Conn) (u n : ℕ) (h : List Entry) (lost : Bool) → lost_since c h ≡ Some lost → lost_since c (Cut c u n ∷ h) ≡ Some true
cut_since c u n h lost is = ap (lost_after c h (Cut c u n)) is ∙ ap Some (or_right lost (same_connection c c) (same_self c))

-- a lane of a wire that is lost
cut_lane : (c : Conn) (e : Dir) (w : Wire) (u n : ℕ) (k : ℕ × ℕ) (h : List Entry) → k.0 ≡ min u (length (in_transit c Up h)) → k.1 ≡ min n (length (in_transit c Down h)) → IsLane c e w h
    → IsLane c e (lost_with (take u (in_transit c Up h)) (take n (in_transit c Down h)) w) (Cut c k.0 k.1 ∷ h)
cut_lane c Up w u n k h up down is =
    let ms = in_transit c Up h in
    let P : List Message → Type 0 = λ xs. Spells (flat_map frame_of (take u ms)) xs in
    record {
      queue = subst P (sym (cut_here c k.0 k.1 Up h ∙ ap (λ j. take j ms) up ∙ take_min u ms)) (spell_front u w.up.bytes ms is.queue);
      ended = is.ended ∙ sym (ended_kept c Up h (Cut c k.0 k.1) refl refl);
    }
cut_lane c Down w u n k h up down is =
    let ms = in_transit c Down h in
    let P : List Message → Type 0 = λ xs. Spells (flat_map frame_of (take n ms)) xs in
    record {
      queue = subst P (sym (cut_here c k.0 k.1 Down h ∙ ap (λ j. take j ms) down ∙ take_min n ms)) (spell_front n w.down.bytes ms is.queue);
      ended = is.ended ∙ sym (ended_kept c Down h (Cut c k.0 k.1) refl refl);
    }

-- after a loss each connection stands as the history says
pub carried_cut : (c : Conn) (w : Wire) (u n : ℕ) (k : ℕ × ℕ) (old new : List Wire) (h : List Entry) → wire_of c old ≡ Some w
    → ((us ds : List Message) → Spells w.up.bytes us → Spells w.down.bytes ds → IsCut c w us ds u n k old new) → Carries old h → Carries new (Cut c k.0 k.1 ∷ h)
carried_cut c w u n k old new h at loss carries =
    let O : Option Wire → Type 0 = λ o. IsWire c o h in
    let is = subst O at (carries c) in
    let e = Cut c k.0 k.1 in
    let us = in_transit c Up h in
    let ds = in_transit c Down h in
    let cut = loss us ds (is.1 Up).queue (is.1 Down).queue in
    spread c (lost_with (take u us) (take n ds) w) old new h (e ∷ h) cut.lost (λ x other. carries x)
    (cut_since c k.0 k.1 h w.lost is.0, λ d. cut_lane c d w u n k h cut.up cut.down (is.1 d)) (λ x other. lost_kept x h e (lost_since x h) refl other) (λ x other d. cut_others c x k.0 k.1 d h other)
    (λ x other d. ended_kept x d h e refl (cut_ends c x k.0 k.1 d))

-- nothing was opened in the empty history
pub carried_none : Carries [] []
carried_none c = refl

-- where a connection is started, it stands as just started
pub carried_start : (c : Conn) (old new : List Wire) (h : List Entry) → Becomes c (fresh c) old new → Carries old h → IsStarted c new h
carried_start c old new h becomes carries = record {
  here = becomes.here;
  others = λ x other. (let P : Option Wire → Type 0 = λ o. IsWire x o h in subst P (sym (becomes.others x other)) (carries x));
}

-- where it is started while the coordinator stands stopped, it stands as lost at once
pub carried_start_lost : (c : Conn) (old new : List Wire) (h : List Entry) → Becomes c (lost_at_once c) old new → Carries old h → IsStartedLost c new h
carried_start_lost c old new h becomes carries = record {
  here = becomes.here;
  others = λ x other. (let P : Option Wire → Type 0 = λ o. IsWire x o h in subst P (sym (becomes.others x other)) (carries x));
}

-- what holds of the wire that is there holds of this one
pub at_wire : (c : Conn) (ws : List Wire) (w : Wire) (P : Wire → Type 0) → wire_of c ws ≡ Some w → IfSome (wire_of c ws) P → P w
at_wire c ws w P at h = let Q : Option Wire → Type 0 = λ o. IfSome o P in subst Q at h
