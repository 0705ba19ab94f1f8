-- What one more entry makes of what a history says of a connection.
use Rattle.std.proofs.Common.{◌≡◌, ◌≤◌, ◌+◌, ◌-◌, ◌==◌, ℕ, suc, min, Bool, true, false, ◌&&◌, ◌||◌, not, List, [], ◌∷◌, length, take, Option, Some, None, is_some, if◌then◌else◌, refl, sym, ◌∙◌, arith, length-append}
use Rattle.std.proofs.lemmas.Bool.Decides.{nat_tests}
use Rattle.std.proofs.lemmas.List.{length-take}
use Rattle.dtx_values.specs.declared.entry.Entry.{Entry}
use Rattle.dtx_values.specs.declared.entry.Entry.TheVariants.{Sent, Got, Cut, Stopped}
use Rattle.dtx_values.specs.declared.message.Conn.{Conn}
use Rattle.dtx_values.specs.declared.message.Dir.{Dir}
use Rattle.dtx_values.specs.declared.message.Dir.TheVariants.{Up, Down}
use Rattle.dtx_values.specs.declared.message.Message.{Message}
use Rattle.dtx_values.specs.Lines.{has_line}
use Rattle.dtx_model.specs.Outcome.{is_empty}
use Rattle.dtx_model.specs.Wires.{ended_after, ends, in_transit, is_ended, is_open_wire, is_stopped, kept, lost_after, lost_since, opened_with, opens, same_connection, same_direction, sent_behind, transit_after, transit_after_stop, without_first}
use Rattle.dtx_model.specs.World.{is_linked}
use Rattle.reenlist_recovery.specs.Connections.{count_after, count_got, count_next, count_opened, count_sent, count_stopped, is_linked_wire, lost_next, wire_after, wire_of}
use Rattle.dtx_model.specs.Words.{holds}

-- whether it is lost
lost-more : (c : Conn) (past : List Entry) (x : Entry) (o : Option Bool) → lost_after c past x o ≡ lost_next c (is_stopped past) x o
lost-more c past x None = refl
lost-more c past x (Some lost) = refl

-- the length of one of two lists
either_long : (b : Bool) (xs ys : List Message) → length (if b then xs else ys) ≡ (if b then length xs else length ys)
either_long true xs ys = refl
either_long false xs ys = refl

opened_long : (d : Dir) (m : Message) (stopped : Bool) → length (opened_with d m stopped) ≡ count_opened d stopped
opened_long Up m true = refl
opened_long Up m false = refl
opened_long Down m stopped = refl

sent_long : (is_open : Bool) (m : Message) (ms : List Message) → length (sent_behind is_open m ms) ≡ count_sent is_open (length ms)
sent_long true m ms = length-append ms (m ∷ [])
sent_long false m ms = refl

without_long : (ms : List Message) → length (without_first ms) ≡ length ms - 1
without_long [] = refl
without_long (m ∷ ms) = omega arith

got_long : (same line here : Bool) (ms : List Message)
    → length (if not same then ms else if not line then [] else if here then without_first ms else ms) ≡ (if same then count_got line here (length ms) else length ms)
got_long true true true ms = without_long ms
got_long true true false ms = refl
got_long true false here ms = refl
got_long false line here ms = refl

stopped_long : (d : Dir) (ms : List Message) → length (transit_after_stop d ms) ≡ count_stopped d (length ms)
stopped_long Up ms = refl
stopped_long Down ms = refl

-- how many messages are on the way
count-more : (c : Conn) (d : Dir) (past : List Entry) (x : Entry) (ms : List Message) → length (transit_after c d past x ms) ≡ count_after c d (is_stopped past) (is_open_wire c past) x (length ms)
count-more c d past (Sent e r m) ms =
    let sent = sent_behind (is_open_wire c past) m ms in
    let here = same_connection c e && same_direction d r in
    either_long (opens c (Sent e r m)) (opened_with d m (is_stopped past)) (if here then sent else ms)
    ∙ (λ k. if opens c (Sent e r m) then opened_long d m (is_stopped past) k else either_long here sent ms k)
    ∙ (λ k. if opens c (Sent e r m) then count_opened d (is_stopped past) else if here then sent_long (is_open_wire c past) m ms k else length ms)
count-more c d past (Got e r m) ms = got_long (same_connection c e) (has_line e r m) (same_direction d r) ms
count-more c d past (Cut e u w) ms =
    either_long (same_connection c e) (take (kept d u w) ms) ms ∙ (λ k. if same_connection c e then length-take (kept d u w) ms k else length ms)
count-more c d past Stopped ms = stopped_long d ms
count-more c d past _ ms = refl

-- the connection after one more entry
pub wire-more : (c : Conn) (past : List Entry) (x : Entry) → wire_of c (x ∷ past) ≡ wire_after c (is_stopped past) x (wire_of c past)
wire-more c past x = λ k.
    record {
      lost = lost-more c past x (lost_since c past) k;
      ended_up = ended_after (opens c x) (is_stopped past) (ends c Up x || is_ended c Up past);
      ended_down = ended_after (opens c x) false (ends c Down x || is_ended c Down past);
      up = count-more c Up past x (in_transit c Up past) k;
      down = count-more c Down past x (in_transit c Down past) k;
    }

-- one entry brings at most one message more
opened_few : (d : Dir) (stopped : Bool) (n : ℕ) → count_opened d stopped ≤ n + 1
opened_few Up true n = omega arith
opened_few Up false n = omega arith
opened_few Down stopped n = omega arith

sent_few : (here is_open : Bool) (n : ℕ) → (if here then count_sent is_open n else n) ≤ n + 1
sent_few true true n = omega arith
sent_few true false n = omega arith
sent_few false is_open n = omega arith

got_few : (same line here : Bool) (n : ℕ) → (if same then count_got line here n else n) ≤ n + 1
got_few true true true n = omega arith
got_few true true false n = omega arith
got_few true false here n = omega arith
got_few false line here n = omega arith

cut_few : (same : Bool) (k n : ℕ) → (if same then min k n else n) ≤ n + 1
cut_few true k n = omega arith
cut_few false k n = omega arith

stopped_few : (d : Dir) (n : ℕ) → count_stopped d n ≤ n + 1
stopped_few Up n = omega arith
stopped_few Down n = omega arith

next_few : (c : Conn) (d : Dir) (is_open : Bool) (x : Entry) (n : ℕ) → count_next c d is_open x n ≤ n + 1
next_few c d is_open (Sent e r m) n = sent_few (same_connection c e && same_direction d r) is_open n
next_few c d is_open (Got e r m) n = got_few (same_connection c e) (has_line e r m) (same_direction d r) n
next_few c d is_open (Cut e u w) n = cut_few (same_connection c e) (kept d u w) n
next_few c d is_open Stopped n = stopped_few d n
next_few c d is_open _ n = omega arith

either_few : (b : Bool) (m k n : ℕ) → m ≤ n + 1 → k ≤ n + 1 → (if b then m else k) ≤ n + 1
either_few true m k n p q = p
either_few false m k n p q = q

-- so there are at most as many as entries
pub transit-few : (c : Conn) (d : Dir) (past : List Entry) → length (in_transit c d past) ≤ length past
transit-few c d [] = omega arith
transit-few c d (x ∷ past) =
    let n = length (in_transit c d past) in
    let less = transit-few c d past in
    let more = count-more c d past x (in_transit c d past) in
    let few = either_few (opens c x) (count_opened d (is_stopped past)) (count_next c d (is_open_wire c past) x n) n (opened_few d (is_stopped past) n) (next_few c d (is_open_wire c past) x n) in
    omega arith

-- a connection is linked as its numbers of messages say
not_none : (n : ℕ) → (suc n == 0) ≡ false
not_none n = grind (arith, nat_tests)

empty_long : (ms : List Message) → is_empty ms ≡ (length ms == 0)
empty_long [] = refl
empty_long (m ∷ ms) = sym (not_none (length ms))

linked_by : (was a b lost p q : Bool) → (was && (not (a && b) || (not p || (lost && not a)) || (not q || (lost && not b)))) ≡ (was && (not (a && b) || not p || not q))
linked_by false a b lost p q = refl
linked_by true false b lost p q = refl
linked_by true true false lost p q = refl
linked_by true true true true true true = refl
linked_by true true true true true false = refl
linked_by true true true true false q = refl
linked_by true true true false true true = refl
linked_by true true true false true false = refl
linked_by true true true false false q = refl

pub linked-is : (c : Conn) (past : List Entry) → is_linked c past ≡ is_linked_wire (wire_of c past)
linked-is c past =
    let a = is_ended c Up past in
    let b = is_ended c Down past in
    let was = is_some (lost_since c past) in
    linked_by was a b (holds (lost_since c past)) (is_empty (in_transit c Up past)) (is_empty (in_transit c Down past))
    ∙ (λ k. was && (not (a && b) || not (empty_long (in_transit c Up past) k) || not (empty_long (in_transit c Down past) k)))
