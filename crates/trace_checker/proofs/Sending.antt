-- What the connections carry, with one more message that is sent.
use Rattle.std.proofs.Common.{◌≡◌, ℕ, Bool, true, false, cond, ◌==◌, ◌&&◌, ◌||◌, not, List, [], ◌∷◌, ◌++◌, Option, Some, None, refl, ap, subst, sym, ◌∙◌}
use Rattle.dtx_values.specs.declared.entry.Entry.{Entry}
use Rattle.dtx_values.specs.declared.entry.Entry.TheVariants.{Sent}
use Rattle.dtx_values.specs.declared.message.Conn.{Conn}
use Rattle.dtx_values.specs.declared.message.Dir.{Dir}
use Rattle.dtx_values.specs.declared.message.Dir.TheVariants.{Up, Down}
use Rattle.dtx_values.specs.declared.message.Message.{Message}
use Rattle.dtx_values.specs.Ends.{same_connection, same_direction}
use Rattle.dtx_values.specs.Lines.{is_opening}
use Rattle.dtx_model.specs.Wires.{ended_after, in_transit, is_ended, is_kept, is_open_wire, is_stopped, lost_after, lost_since, opened_with, opens, sent_behind, transit_after}
use Rattle.dtx_model.proofs.Bools.{and_never}
use Rattle.trace_checker.specs.declared.intact.Intact.{Intact}
use Rattle.trace_checker.specs.declared.names.Names.{Names}
use Rattle.trace_checker.specs.declared.ways.Ways.{Ways}
use Rattle.trace_checker.specs.declared.wires.Wires.{Wires}
use Rattle.trace_checker.specs.Connections.{number_of}
use Rattle.trace_checker.specs.Intact.{is_intact_at}
use Rattle.trace_checker.specs.Names.{has_name}
use Rattle.trace_checker.specs.Ways.{ChangesWay, is_way_ended, messages}
use Rattle.trace_checker.specs.Wires.{IsWiresOf, is_intact, is_opened, lost_in}
use Rattle.trace_checker.proofs.Connections.{same_number_of}
use Rattle.trace_checker.proofs.Wiring.{kept_end, now_on, same_key, seen_on}

opens_no : (q c : Conn) (d : Dir) (m : Message) → (same_direction d Up && is_opening c m) ≡ false → opens q (Sent c d m) ≡ false
opens_no q c Up m p = ap (λ b. same_connection q c && b) p ∙ and_never (same_connection q c)
opens_no q c Down m p = refl

or_none : (l : Bool) → (l || false) ≡ l
or_none true = refl
or_none false = refl

lost_sent : (q c : Conn) (d : Dir) (m : Message) (h : List Entry) (o : Option Bool) → opens q (Sent c d m) ≡ false → lost_after q h (Sent c d m) o ≡ o
lost_sent q c d m h None e = ap (λ b. cond b (Some (is_stopped h)) None) e
lost_sent q c d m h (Some l) e = ap (λ b. cond b (Some (is_stopped h)) (Some (l || false))) e ∙ ap Some (or_none l)

transit_sent : (q c : Conn) (d r : Dir) (m : Message) (h : List Entry) (ms : List Message) → opens q (Sent c r m) ≡ false
    → transit_after q d h (Sent c r m) ms ≡ cond (same_connection q c && same_direction d r) (sent_behind (is_open_wire q h) m ms) ms
transit_sent q c d r m h ms e = ap (λ b. cond b (opened_with d m (is_stopped h)) (cond (same_connection q c && same_direction d r) (sent_behind (is_open_wire q h) m ms) ms)) e

-- the connection that is sent on is open where it was opened and is intact
wire_is : (q c : Conn) (h : List Entry) (w : Wires) → same_connection q c ≡ true → IsWiresOf h w → is_open_wire q h ≡ (is_opened c w && is_intact c w)
wire_is q c h w e k = ap is_kept (k.lost q) ∙ (ap (λ n. is_kept (cond (has_name n w.opened) (Some (not (is_intact_at n w.intact))) None)) (same_key q c e) ∙ by (is_opened c w) (is_intact c w))
  where
    by : (a b : Bool) → is_kept (cond a (Some (not b)) None) ≡ (a && b)
    by true true = refl
    by true false = refl
    by false b = refl

-- what is on the way in the direction of the message
behind : (q c : Conn) (m : Message) (h : List Entry) (w : Wires) (ws : Ways) (ms : List Message) → IsWiresOf h w → (is_opened c w && is_intact c w) ≡ true → ms ≡ messages (number_of q) ws
    → cond (same_connection q c && true) (sent_behind (is_open_wire q h) m ms) ms ≡ cond (same_connection q c) (messages (number_of c) ws ++ m ∷ []) (messages (number_of q) ws)
behind q c m h w ws ms k o e = by (same_connection q c) refl
  where
    by : (s : Bool) → same_connection q c ≡ s → cond (s && true) (sent_behind (is_open_wire q h) m ms) ms ≡ cond s (messages (number_of c) ws ++ m ∷ []) (messages (number_of q) ws)
    by true f = ap (λ b. sent_behind b m ms) (wire_is q c h w f k ∙ o) ∙ ap (λ xs. xs ++ m ∷ []) (e ∙ ap (λ n. messages n ws) (same_key q c f))
    by false f = e

-- and in the other one
beside : (s b : Bool) (m : Message) (ms : List Message) → cond (s && false) (sent_behind b m ms) ms ≡ ms
beside true b m ms = refl
beside false b m ms = refl

dropped : (q c : Conn) (t : Bool) (m : Message) (h : List Entry) (w : Wires) (ms : List Message) → IsWiresOf h w → (is_opened c w && is_intact c w) ≡ false
    → cond (same_connection q c && t) (sent_behind (is_open_wire q h) m ms) ms ≡ ms
dropped q c t m h w ms k o = by (same_connection q c) refl t
  where
    by : (s : Bool) → same_connection q c ≡ s → (t : Bool) → cond (s && t) (sent_behind (is_open_wire q h) m ms) ms ≡ ms
    by true f true = ap (λ b. sent_behind b m ms) (wire_is q c h w f k ∙ o)
    by true f false = refl
    by false f t = refl

pub send_dropped : (h : List Entry) (c : Conn) (d : Dir) (m : Message) (w : Wires) → (same_direction d Up && is_opening c m) ≡ false → (is_opened c w && is_intact c w) ≡ false → IsWiresOf h w → IsWiresOf (Sent c d m ∷ h) w
send_dropped h c d m w p o k = record {
  stopped = k.stopped;
  lost = λ q. lost_sent q c d m h (lost_since q h) (opens_no q c d m p) ∙ k.lost q;
  upward = λ q. transit_sent q c Up d m h (in_transit q Up h) (opens_no q c d m p) ∙ (dropped q c (same_direction Up d) m h w (in_transit q Up h) k o ∙ k.upward q);
  downward = λ q. transit_sent q c Down d m h (in_transit q Down h) (opens_no q c d m p) ∙ (dropped q c (same_direction Down d) m h w (in_transit q Down h) k o ∙ k.downward q);
  ended_up = λ q u. ap (λ b. ended_after b (is_stopped h) (is_ended q Up h)) (opens_no q c d m p) ∙ k.ended_up q u;
  ended_down = λ q u. ap (λ b. ended_after b false (is_ended q Down h)) (opens_no q c d m p) ∙ k.ended_down q u;
}

pub send_up : (h : List Entry) (c : Conn) (m : Message) (w : Wires) (new : Ways) → is_opening c m ≡ false → (is_opened c w && is_intact c w) ≡ true
    → ChangesWay (number_of c) (messages (number_of c) w.upward ++ m ∷ []) (is_way_ended (number_of c) w.upward) w.upward new → IsWiresOf h w → IsWiresOf (Sent c Up m ∷ h) (record w { upward = new })
send_up h c m w new p o ch k = record {
  stopped = k.stopped;
  lost = λ q. lost_sent q c Up m h (lost_since q h) (opens_no q c Up m p) ∙ k.lost q;
  upward = λ q. transit_sent q c Up Up m h (in_transit q Up h) (opens_no q c Up m p)
      ∙ (behind q c m h w w.upward (in_transit q Up h) k o (k.upward q) ∙ sym (now_on c q (messages (number_of c) w.upward ++ m ∷ []) (is_way_ended (number_of c) w.upward) w.upward new ch));
  downward = λ q. transit_sent q c Down Up m h (in_transit q Down h) (opens_no q c Up m p) ∙ (beside (same_connection q c) (is_open_wire q h) m (in_transit q Down h) ∙ k.downward q);
  ended_up = λ q u. ap (λ b. ended_after b (is_stopped h) (is_ended q Up h)) (opens_no q c Up m p)
      ∙ (k.ended_up q u ∙ sym (seen_on c q (messages (number_of c) w.upward ++ m ∷ []) (is_way_ended (number_of c) w.upward) w.upward new ch ∙ kept_end c q w.upward));
  ended_down = λ q u. ap (λ b. ended_after b false (is_ended q Down h)) (opens_no q c Up m p) ∙ k.ended_down q u;
}

pub send_down : (h : List Entry) (c : Conn) (m : Message) (w : Wires) (new : Ways) → (is_opened c w && is_intact c w) ≡ true
    → ChangesWay (number_of c) (messages (number_of c) w.downward ++ m ∷ []) (is_way_ended (number_of c) w.downward) w.downward new → IsWiresOf h w → IsWiresOf (Sent c Down m ∷ h) (record w { downward = new })
send_down h c m w new o ch k = record {
  stopped = k.stopped;
  lost = λ q. lost_sent q c Down m h (lost_since q h) refl ∙ k.lost q;
  upward = λ q. beside (same_connection q c) (is_open_wire q h) m (in_transit q Up h) ∙ k.upward q;
  downward = λ q. behind q c m h w w.downward (in_transit q Down h) k o (k.downward q) ∙ sym (now_on c q (messages (number_of c) w.downward ++ m ∷ []) (is_way_ended (number_of c) w.downward) w.downward new ch);
  ended_up = λ q u. k.ended_up q u;
  ended_down = λ q u. k.ended_down q u ∙ sym (seen_on c q (messages (number_of c) w.downward ++ m ∷ []) (is_way_ended (number_of c) w.downward) w.downward new ch ∙ kept_end c q w.downward);
}

-- A connection is opened.
opens_is : (q c : Conn) (m : Message) → is_opening c m ≡ true → opens q (Sent c Up m) ≡ same_connection q c
opens_is q c m y = ap (λ b. same_connection q c && b) y ∙ by (same_connection q c)
  where
    by : (b : Bool) → (b && true) ≡ b
    by true = refl
    by false = refl

-- what an opening makes of the connections, where st says whether the coordinator stands stopped
pub record IsOpening (c : Conn) (m : Message) (st : Bool) (old new : Wires) : Type 0 where
  pub stopped : new.stopped ≡ old.stopped
  pub opened : (q : Conn) → is_opened q new ≡ (same_connection q c || is_opened q old)
  pub intact : (q : Conn) → is_intact q new ≡ cond (same_connection q c) (not st) (is_intact q old)
  pub upward : (q : Conn) → messages (number_of q) new.upward ≡ cond (same_connection q c) (opened_with Up m st) (messages (number_of q) old.upward)
  pub ended_up : (q : Conn) → is_way_ended (number_of q) new.upward ≡ cond (same_connection q c) st (is_way_ended (number_of q) old.upward)
  pub downward : ChangesWay (number_of c) [] false old.downward new.downward

pub open_more : (h : List Entry) (c : Conn) (m : Message) (st : Bool) (w new : Wires) → is_opening c m ≡ true → w.stopped ≡ st → IsOpening c m st w new → IsWiresOf h w → IsWiresOf (Sent c Up m ∷ h) new
open_more h c m st w new y e g k = record {
  stopped = g.stopped ∙ k.stopped;
  lost = λ q. lost_open q (lost_since q h) (k.lost q);
  upward = λ q. ap (λ b. cond b (opened_with Up m (is_stopped h)) (cond (same_connection q c && true) (sent_behind (is_open_wire q h) m (in_transit q Up h)) (in_transit q Up h))) (opens_is q c m y)
      ∙ (up q (same_connection q c) ∙ sym (g.upward q));
  downward = λ q. ap (λ b. cond b [] (cond (same_connection q c && false) (sent_behind (is_open_wire q h) m (in_transit q Down h)) (in_transit q Down h))) (opens_is q c m y)
      ∙ (down q (same_connection q c) ∙ sym (now_on c q [] false w.downward new.downward g.downward));
  ended_up = λ q u. ap (λ b. ended_after b (is_stopped h) (is_ended q Up h)) (opens_is q c m y) ∙ (end_up q (same_connection q c) refl u ∙ sym (g.ended_up q));
  ended_down = λ q u. ap (λ b. ended_after b false (is_ended q Down h)) (opens_is q c m y) ∙ (end_down q (same_connection q c) refl u ∙ sym (seen_on c q [] false w.downward new.downward g.downward));
}
  where
    is : is_stopped h ≡ st
    is = sym k.stopped ∙ e

    twice : (b : Bool) → b ≡ not (not b)
    twice true = refl
    twice false = refl

    none_open : (q : Conn) (o : Option Bool) → lost_after q h (Sent c Up m) o ≡ cond (same_connection q c) (Some (is_stopped h)) o
    none_open q None = ap (λ b. cond b (Some (is_stopped h)) None) (opens_is q c m y)
    none_open q (Some l) = ap (λ b. cond b (Some (is_stopped h)) (Some (l || false))) (opens_is q c m y) ∙ ap (λ v. cond (same_connection q c) (Some (is_stopped h)) (Some v)) (or_none l)

    lost_open : (q : Conn) (o : Option Bool) → o ≡ lost_in q w → lost_after q h (Sent c Up m) o ≡ lost_in q new
    lost_open q o f = none_open q o ∙ (by (same_connection q c) (is_opened q w) (is_intact q w) o f ∙ sym (ap (λ a. cond a (Some (not (is_intact q new))) None) (g.opened q) ∙ ap (λ b. cond (same_connection q c || is_opened q w) (Some (not b)) None) (g.intact q)))
      where
        by : (s a b : Bool) (o : Option Bool) → o ≡ cond a (Some (not b)) None → cond s (Some (is_stopped h)) o ≡ cond (s || a) (Some (not (cond s (not st) b))) None
        by true a b o f = ap Some (is ∙ twice st)
        by false a b o f = f

    up : (q : Conn) (s : Bool) → cond s (opened_with Up m (is_stopped h)) (cond (s && true) (sent_behind (is_open_wire q h) m (in_transit q Up h)) (in_transit q Up h)) ≡ cond s (opened_with Up m st) (messages (number_of q) w.upward)
    up q true = ap (opened_with Up m) is
    up q false = k.upward q

    down : (q : Conn) (s : Bool) → cond s [] (cond (s && false) (sent_behind (is_open_wire q h) m (in_transit q Down h)) (in_transit q Down h)) ≡ cond s [] (messages (number_of q) w.downward)
    down q true = refl
    down q false = k.downward q

    end_up : (q : Conn) (s : Bool) → same_connection q c ≡ s → is_opened q new ≡ true → ended_after s (is_stopped h) (is_ended q Up h) ≡ cond s st (is_way_ended (number_of q) w.upward)
    end_up q true f u = is
    end_up q false f u = k.ended_up q (sym (g.opened q ∙ ap (λ s. s || is_opened q w) f) ∙ u)

    end_down : (q : Conn) (s : Bool) → same_connection q c ≡ s → is_opened q new ≡ true → ended_after s false (is_ended q Down h) ≡ cond s false (is_way_ended (number_of q) w.downward)
    end_down q true f u = refl
    end_down q false f u = k.ended_down q (sym (g.opened q ∙ ap (λ s. s || is_opened q w) f) ∙ u)

pub removed : (s b : Bool) → (not s && b) ≡ cond s false b
removed true b = refl
removed false b = refl

pub added : (s b : Bool) → (s || b) ≡ cond s true b
added true b = refl
added false b = refl

pub opening : (c : Conn) (m : Message) (st : Bool) (w : Wires) (k : ℕ) (opened : Names) (intact : Intact) (upward downward : Ways) → k ≡ number_of c
    → ((n : ℕ) → has_name n opened ≡ ((n == k) || has_name n w.opened)) → ((n : ℕ) → is_intact_at n intact ≡ cond (n == k) (not st) (is_intact_at n w.intact))
    → ChangesWay k (opened_with Up m st) st w.upward upward → ChangesWay k [] false w.downward downward
    → IsOpening c m st w (record { stopped = w.stopped; opened = opened; intact = intact; upward = upward; downward = downward })
opening c m st w k opened intact upward downward e o i u d = record {
  stopped = refl;
  opened = λ q. o (number_of q) ∙ ap (λ b. b || has_name (number_of q) w.opened) (key q);
  intact = λ q. i (number_of q) ∙ ap (λ b. cond b (not st) (is_intact_at (number_of q) w.intact)) (key q);
  upward = λ q. u.messages (number_of q) ∙ ap (λ b. cond b (opened_with Up m st) (messages (number_of q) w.upward)) (key q);
  ended_up = λ q. u.ended (number_of q) ∙ ap (λ b. cond b st (is_way_ended (number_of q) w.upward)) (key q);
  downward = let N : ℕ → Type 0 = λ n. ChangesWay n [] false w.downward downward in subst N e d;
}
  where
    key : (q : Conn) → (number_of q == k) ≡ same_connection q c
    key q = ap (λ n. number_of q == n) e ∙ same_number_of q c
