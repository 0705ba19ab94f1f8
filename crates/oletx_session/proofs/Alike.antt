-- The same calls on sessions whose connections stand the same.
use Rattle.std.proofs.Common.{◌≡◌, ◌≢◌, ◌⊎◌, ◌≤◌, ℕ, List, ◌++◌, map, take, Option, Some, None, Result, Ok, Err, IfSome, arith, refl, ap, sym, subst, ◌∙◌, inl, inr}
use Rattle.std.specs.Option.{option_map}
use Rattle.std.proofs.lemmas.Bool.{cases_Bool}
use Rattle.std.proofs.lemmas.List.{append_cancel_left}
use Rattle.dtx_values.specs.declared.message.Conn.{Conn}
use Rattle.dtx_values.specs.declared.message.Dir.{Dir}
use Rattle.dtx_values.specs.declared.message.Dir.TheVariants.{Up, Down}
use Rattle.dtx_values.specs.declared.message.Message.{Message}
use Rattle.dtx_model.specs.Frames.{frame_of}
use Rattle.dtx_model.specs.Outcome.{is_empty}
use Rattle.dtx_model.specs.Wires.{same_connection}
use Rattle.dtx_model.proofs.Connections.{same_is}
use Rattle.oletx_frames.specs.declared.refusal.FrameRefusal.{FrameRefusal}
use Rattle.oletx_frames.proofs.Pieces.{same_messages}
use Rattle.oletx_session.specs.Alike.{AreAlike, Does, Gives, HasRoom, Loses, Sends, Starts}
use Rattle.oletx_session.specs.declared.law.Answer.{Answer}
use Rattle.oletx_session.specs.declared.law.Answer.TheVariants.{Came, Done, Is, Kept, Stopped}
use Rattle.oletx_session.specs.declared.law.Call.{Call}
use Rattle.oletx_session.specs.declared.law.Call.TheVariants.{Deliver, HasLeft, IsOpen, Lose, Send, Start, StartLost, Stop}
use Rattle.oletx_session.specs.declared.refusal.SessionRefusal.{SessionRefusal}
use Rattle.oletx_session.specs.declared.refusal.SessionRefusal.TheVariants.{Memory, NotOpen, Taken}
use Rattle.oletx_session.specs.Traffic.{Becomes, Delivers, Ends, IsCut, Spells, Traffic, Wire, fresh, has_left, is_open, is_taken, lane, lost_at_once, lost_with, may_send, sent_on, stopped_wire, wire_of, with_bytes, with_end}
use Rattle.oletx_session.specs.declared.session.Delivered.{Delivered}
use Rattle.oletx_session.specs.declared.session.Delivered.TheVariants.{BadFrame, End, Msg}
use Rattle.oletx_session.proofs.Stops.{wire_after}
use Rattle.oletx_session.proofs.Views.{frame_full}

-- where one connection becomes the same in both, and the others stay, each stands the same
pub become_alike : (c : Conn) (w v : Wire) (old new ago now : List Wire) → AreAlike old ago → w ≡ v → Becomes c w old new → Becomes c v ago now → AreAlike new now
become_alike c w v old new ago now alike same first second x =
    elim (cases_Bool (same_connection x c)) [
      | inl here ↦ (let P : Conn → Type 0 = λ y. wire_of y new ≡ wire_of y now in subst P (sym (same_is x c here)) (first.here ∙ ap Some same ∙ sym second.here))
      | inr other ↦ first.others x other ∙ alike x ∙ sym (second.others x other)
    ]

-- after a stop of both each stands the same
pub stopped_alike : (old new ago now : List Wire) → AreAlike old ago → new ≡ map stopped_wire old → now ≡ map stopped_wire ago → AreAlike new now
stopped_alike old new ago now alike first second x =
    ap (wire_of x) first ∙ wire_after x old ∙ ap (option_map stopped_wire) (alike x) ∙ sym (wire_after x ago) ∙ sym (ap (wire_of x) second)

-- the same message comes first of the same bytes
same_first : (c : Conn) (d : Dir) (m n : Message) (w : Wire) (old new ago now : List Wire) → AreAlike old ago → Delivers c d m w old new → Delivers c d n w ago now → (m ≡ n) × AreAlike new now
same_first c d m n w old new ago now alike first second =
    let bytes = sym first.first ∙ second.first in
    let same = same_messages m n first.rest second.rest bytes first.valid second.valid in
    let rest = append_cancel_left (frame_of m) first.rest second.rest (bytes ∙ ap (λ x. frame_of x ++ second.rest) (sym same)) in
    (same, become_alike c (with_bytes d first.rest w) (with_bytes d second.rest w) old new ago now alike (ap (λ b. with_bytes d b w) rest) first.taken second.taken)

-- no end comes where a message is on the way
no_end : (c : Conn) (d : Dir) (m : Message) (w : Wire) (old new ago now : List Wire) → Delivers c d m w old new → Ends c d w ago now → ⊥
no_end c d m w old new ago now first second = let full = sym (frame_full m first.rest) ∙ ap is_empty (sym first.first ∙ second.empty) in cc

-- the same comes of the same connection
given_alike : (c : Conn) (d : Dir) (w : Wire) (old new ago now : List Wire) (r s : Delivered) → AreAlike old ago
    → ((m : Message) → r ≡ Msg m → Delivers c d m w old new) → (r ≡ End → Ends c d w old new) → ((e : FrameRefusal) → r ≢ BadFrame e)
    → ((m : Message) → s ≡ Msg m → Delivers c d m w ago now) → (s ≡ End → Ends c d w ago now) → ((e : FrameRefusal) → s ≢ BadFrame e) → (r ≡ s) × AreAlike new now
given_alike c d w old new ago now (BadFrame e) s alike message end never also ends nor = absurd (never e refl)
given_alike c d w old new ago now r (BadFrame e) alike message end never also ends nor = absurd (nor e refl)
given_alike c d w old new ago now (Msg m) (Msg n) alike message end never also ends nor =
    let same = same_first c d m n w old new ago now alike (message m refl) (also n refl) in
    (ap Msg same.0, same.1)
given_alike c d w old new ago now (Msg m) End alike message end never also ends nor = absurd (no_end c d m w old new ago now (message m refl) (ends refl))
given_alike c d w old new ago now End (Msg n) alike message end never also ends nor = absurd (no_end c d n w ago now old new (also n refl) (end refl))
given_alike c d w old new ago now End End alike message end never also ends nor =
    (refl, become_alike c (with_end d w) (with_end d w) old new ago now alike refl (end refl).taken (ends refl).taken)

-- the same connection is found in both
at_some : (P : Wire → Type 0) (o : Option Wire) (w : Wire) → o ≡ Some w → IfSome o P → P w
at_some P o w is h = let Q : Option Wire → Type 0 = λ x. IfSome x P in subst Q is h

-- where connections are as they were, they stand the same as before
alike_still : (old new ago now : List Wire) → AreAlike old ago → new ≡ old → now ≡ ago → AreAlike new now
alike_still old new ago now alike first second x = ap (wire_of x) first ∙ alike x ∙ sym (ap (wire_of x) second)

-- the same comes of a connection, where it was started
came_alike : (c : Conn) (d : Dir) (o : Option Wire) (old new ago now : List Wire) (r s : Delivered) → AreAlike old ago → wire_of c old ≡ o → wire_of c ago ≡ o
    → Gives c d old new (Some r) → Gives c d ago now (Some s) → (r ≡ s) × AreAlike new now
came_alike c d None old new ago now r s alike at also first second = absurd (let none = first.none.1 (ap (has_left d) at) in cc)
came_alike c d (Some w) old new ago now r s alike at also first second =
    given_alike c d w old new ago now r s alike (λ m is. at_some (λ v. Delivers c d m v old new) (wire_of c old) w at (first.message m (ap Some is)))
    (λ is. at_some (λ v. Ends c d v old new) (wire_of c old) w at (first.end (ap Some is))) (λ e is. first.never e (ap Some is))
    (λ m is. at_some (λ v. Delivers c d m v ago now) (wire_of c ago) w also (second.message m (ap Some is)))
    (λ is. at_some (λ v. Ends c d v ago now) (wire_of c ago) w also (second.end (ap Some is))) (λ e is. second.never e (ap Some is))

-- `deliver` gives the same
pub deliver_alike : (c : Conn) (d : Dir) (old new ago now : List Wire) (r s : Option Delivered) → AreAlike old ago → Gives c d old new r → Gives c d ago now s → (r ≡ s) × AreAlike new now
deliver_alike c d old new ago now None None alike first second = (refl, alike_still old new ago now alike (first.unchanged refl) (second.unchanged refl))
deliver_alike c d old new ago now None (Some s) alike first second = absurd (let none = second.none.1 (ap (has_left d) (sym (alike c)) ∙ first.none.0 refl) in cc)
deliver_alike c d old new ago now (Some r) None alike first second = absurd (let none = first.none.1 (ap (has_left d) (alike c) ∙ second.none.0 refl) in cc)
deliver_alike c d old new ago now (Some r) (Some s) alike first second =
    let same = came_alike c d (wire_of c old) old new ago now r s alike refl (sym (alike c)) first second in
    (ap Some same.0, same.1)

-- as many are kept of the same connection, where it was started
cut_alike : (c : Conn) (u n : ℕ) (o : Option Wire) (old new ago now : List Wire) (k j : ℕ × ℕ) → AreAlike old ago → wire_of c old ≡ o → wire_of c ago ≡ o
    → Loses c u n old new (Some k) → Loses c u n ago now (Some j) → (k ≡ j) × AreAlike new now
cut_alike c u n None old new ago now k j alike at also first second = absurd (let none = first.none.1 (ap is_open at) in cc)
cut_alike c u n (Some w) old new ago now k j alike at also first second =
    let us = at_some (λ v. (ms : List Message) × Spells (lane Up v).bytes ms) (wire_of c old) w at first.up in
    let ds = at_some (λ v. (ms : List Message) × Spells (lane Down v).bytes ms) (wire_of c old) w at first.down in
    let one = at_some (λ v. (ms ns : List Message) → Spells v.up.bytes ms → Spells v.down.bytes ns → IsCut c v ms ns u n k old new) (wire_of c old) w at first.lost us.0 ds.0 us.1 ds.1 in
    let other = at_some (λ v. (ms ns : List Message) → Spells v.up.bytes ms → Spells v.down.bytes ns → IsCut c v ms ns u n j ago now) (wire_of c ago) w also second.lost us.0 ds.0 us.1 ds.1 in
    let left = lost_with (take u us.0) (take n ds.0) w in
    (λ i. ((one.up ∙ sym other.up) i, (one.down ∙ sym other.down) i), become_alike c left left old new ago now alike refl one.lost other.lost)

-- `lose` keeps as many
pub lose_alike : (c : Conn) (u n : ℕ) (old new ago now : List Wire) (r s : Option (ℕ × ℕ)) → AreAlike old ago
    → Loses c u n old new r → Loses c u n ago now s → (r ≡ s) × AreAlike new now
lose_alike c u n old new ago now None None alike first second = (refl, alike_still old new ago now alike (first.unchanged refl) (second.unchanged refl))
lose_alike c u n old new ago now None (Some j) alike first second = absurd (let none = second.none.1 (ap is_open (sym (alike c)) ∙ first.none.0 refl) in cc)
lose_alike c u n old new ago now (Some k) None alike first second = absurd (let none = first.none.1 (ap is_open (alike c) ∙ second.none.0 refl) in cc)
lose_alike c u n old new ago now (Some k) (Some j) alike first second =
    let same = cut_alike c u n (wire_of c old) old new ago now k j alike refl (sym (alike c)) first second in
    (ap Some same.0, same.1)

-- an answer that only this refusal may be
only_taken : (c : Conn) (t : ℕ) (e : SessionRefusal) → 1 ≤ t → (e ≡ Memory → t ≡ 0) → (e ≡ Taken c) ⊎ (e ≡ Memory) → e ≡ Taken c
only_taken c t e room memory (inl is) = is
only_taken c t e room memory (inr is) = absurd (let none = memory is in omega arith)

-- the refusal of an answer
refusal_is : (e f : SessionRefusal) → ◌≡◌ {A = Result (Unit {0}) SessionRefusal} (Err e) (Err f) → e ≡ f
refusal_is e f is = cc

-- `start` and `start_lost` do the same
start_alike : (c : Conn) (w : Wire) (old new ago now : Traffic) (r s : Result (Unit {0}) SessionRefusal) → AreAlike old.wires ago.wires → 1 ≤ old.start_room → 1 ≤ ago.start_room
    → Starts c w old r new → Starts c w ago s now → (r ≡ s) × AreAlike new.wires now.wires
start_alike c w old new ago now (Ok x) (Ok y) alike room more first second = (refl, become_alike c w w old.wires new.wires ago.wires now.wires alike refl first.started second.started)
start_alike c w old new ago now (Ok x) (Err e) alike room more first second =
    absurd (let taken = only_taken c ago.start_room e more (λ is. second.answers.memory (ap Err is)) second.answers.only in
    let none = first.answers.taken.1 (ap is_taken (alike c) ∙ second.answers.taken.0 (ap Err taken)) in cc)
start_alike c w old new ago now (Err e) (Ok y) alike room more first second =
    absurd (let taken = only_taken c old.start_room e room (λ is. first.answers.memory (ap Err is)) first.answers.only in
    let none = second.answers.taken.1 (ap is_taken (sym (alike c)) ∙ first.answers.taken.0 (ap Err taken)) in cc)
start_alike c w old new ago now (Err e) (Err f) alike room more first second =
    let one = only_taken c old.start_room e room (λ is. first.answers.memory (ap Err is)) first.answers.only in
    let other = only_taken c ago.start_room f more (λ is. second.answers.memory (ap Err is)) second.answers.only in
    (ap Err (one ∙ sym other), alike_still old.wires new.wires ago.wires now.wires alike first.answers.unchanged second.answers.unchanged)

-- an answer that only this refusal may be
only_shut : (c : Conn) (t : ℕ) (e : SessionRefusal) → 1 ≤ t → (e ≡ Memory → t ≡ 0) → (e ≡ NotOpen c) ⊎ (e ≡ Memory) → e ≡ NotOpen c
only_shut c t e room memory (inl is) = is
only_shut c t e room memory (inr is) = absurd (let none = memory is in omega arith)

-- what is sent on the same connection makes the same of it, where it was started
sent_alike : (c : Conn) (d : Dir) (m : Message) (o : Option Wire) (old new ago now : Traffic) → AreAlike old.wires ago.wires → wire_of c old.wires ≡ o → wire_of c ago.wires ≡ o
    → Sends c d m old (Ok tt) new → Sends c d m ago (Ok tt) now → AreAlike new.wires now.wires
sent_alike c d m None old new ago now alike at also first second = absurd (let none = first.not_open.1 (ap (may_send d) at) in cc)
sent_alike c d m (Some w) old new ago now alike at also first second =
    become_alike c (sent_on d m w) (sent_on d m w) old.wires new.wires ago.wires now.wires alike refl
    (at_some (λ v. Becomes c (sent_on d m v) old.wires new.wires) (wire_of c old.wires) w at first.sent) (at_some (λ v. Becomes c (sent_on d m v) ago.wires now.wires) (wire_of c ago.wires) w also second.sent)

-- `send` does the same
send_alike : (c : Conn) (d : Dir) (m : Message) (old new ago now : Traffic) (r s : Result (Unit {0}) SessionRefusal) → AreAlike old.wires ago.wires → 1 ≤ old.send_room → 1 ≤ ago.send_room
    → Sends c d m old r new → Sends c d m ago s now → (r ≡ s) × AreAlike new.wires now.wires
send_alike c d m old new ago now (Ok x) (Ok y) alike room more first second = (refl, sent_alike c d m (wire_of c old.wires) old new ago now alike refl (sym (alike c)) first second)
send_alike c d m old new ago now (Ok x) (Err e) alike room more first second =
    absurd (let shut = only_shut c ago.send_room e more (λ is. second.memory (ap Err is)) second.only in
    let none = first.not_open.1 (ap (may_send d) (alike c) ∙ second.not_open.0 (ap Err shut)) in cc)
send_alike c d m old new ago now (Err e) (Ok y) alike room more first second =
    absurd (let shut = only_shut c old.send_room e room (λ is. first.memory (ap Err is)) first.only in
    let none = second.not_open.1 (ap (may_send d) (sym (alike c)) ∙ first.not_open.0 (ap Err shut)) in cc)
send_alike c d m old new ago now (Err e) (Err f) alike room more first second =
    let one = only_shut c old.send_room e room (λ is. first.memory (ap Err is)) first.only in
    let other = only_shut c ago.send_room f more (λ is. second.memory (ap Err is)) second.only in
    (ap Err (one ∙ sym other), alike_still old.wires new.wires ago.wires now.wires alike first.unchanged second.unchanged)

-- so each call does the same
pub calls_alike : (call : Call) (r s : Answer) (old new ago now : Traffic) → AreAlike old.wires ago.wires → HasRoom old → HasRoom ago → Does call old r new → Does call ago s now → (r ≡ s) × AreAlike new.wires now.wires
calls_alike (Start c) (Done r) (Done s) old new ago now alike room more first second =
    let same = start_alike c (fresh c) old new ago now r s alike room.0 more.0 first second in (ap Done same.0, same.1)
calls_alike (StartLost c) (Done r) (Done s) old new ago now alike room more first second =
    let same = start_alike c (lost_at_once c) old new ago now r s alike room.0 more.0 first second in (ap Done same.0, same.1)
calls_alike (Send c d m) (Done r) (Done s) old new ago now alike room more first second =
    let same = send_alike c d m old new ago now r s alike room.1 more.1 first second in (ap Done same.0, same.1)
calls_alike (Deliver c d) (Came r) (Came s) old new ago now alike room more first second =
    let same = deliver_alike c d old.wires new.wires ago.wires now.wires r s alike first second in (ap Came same.0, same.1)
calls_alike (HasLeft c d) (Is r) (Is s) old new ago now alike room more first second =
    (ap Is (first.0 ∙ ap (has_left d) (alike c) ∙ sym second.0), alike_still old.wires new.wires ago.wires now.wires alike first.1 second.1)
calls_alike (IsOpen c) (Is r) (Is s) old new ago now alike room more first second =
    (ap Is (first.0 ∙ ap is_open (alike c) ∙ sym second.0), alike_still old.wires new.wires ago.wires now.wires alike first.1 second.1)
calls_alike (Lose c u n) (Kept r) (Kept s) old new ago now alike room more first second =
    let same = lose_alike c u n old.wires new.wires ago.wires now.wires r s alike first second in (ap Kept same.0, same.1)
calls_alike Stop Stopped Stopped old new ago now alike room more first second = (refl, stopped_alike old.wires new.wires ago.wires now.wires alike first second)
calls_alike _ _ _ old new ago now alike room more first second = absurd (assumption (first, second))
