-- What the connections carry, with one more entry.
use Rattle.std.proofs.Common.{◌≡◌, ◌↔◌, IsTrue, subst, ℕ, Bool, true, false, cond, ◌==◌, ◌&&◌, ◌||◌, not, List, [], ◌∷◌, Option, Some, None, take, refl, ap, sym, ◌∙◌}
use Rattle.std.specs.Result.{OnOk}
use Rattle.std.specs.declared.result.Result.{Result}
use Rattle.std.specs.declared.result.Result.TheVariants.{Ok, Err}
use Rattle.dtx_values.specs.declared.entry.Entry.{Entry}
use Rattle.dtx_values.specs.declared.entry.Entry.TheVariants.{Cut, Down as End, Got}
use Rattle.dtx_values.specs.declared.message.Conn.{Conn}
use Rattle.dtx_values.specs.declared.message.Dir.{Dir}
use Rattle.dtx_values.specs.declared.message.Dir.TheVariants.{Up, Down}
use Rattle.dtx_values.specs.declared.message.Message.{Message}
use Rattle.dtx_values.specs.Ends.{same_connection, same_direction}
use Rattle.dtx_values.specs.Lines.{has_line}
use Rattle.dtx_model.specs.Outcome.{is_empty}
use Rattle.dtx_model.specs.Wires.{MayCross, in_transit, is_ended, is_lost_wire, is_next, lost_after, lost_since, without_first}
use Rattle.dtx_model.specs.Words.{holds}
use Rattle.trace_checker.specs.declared.intact.Intact.{Intact}
use Rattle.trace_checker.specs.declared.ways.Ways.{Ways}
use Rattle.trace_checker.specs.declared.wires.Wires.{Wires}
use Rattle.trace_checker.specs.Connections.{number_of}
use Rattle.trace_checker.specs.Intact.{is_intact_at}
use Rattle.trace_checker.specs.Ways.{ChangesWay, is_way_ended, messages}
use Rattle.trace_checker.specs.Wires.{IsWiresOf, is_intact, is_opened, may_end_in}
use Rattle.trace_checker.proofs.Connections.{same_number_of}
use Rattle.trace_checker.proofs.Keys.{same_is}

pub on_ok : {T E : Type 0} {P Q : Type 0} (r : Result T E) → (P → Q) → OnOk r P → OnOk r Q
on_ok (Ok x) f p = f p
on_ok (Err e) f p = p

pub same_key : (q c : Conn) → same_connection q c ≡ true → number_of q ≡ number_of c
same_key q c e = same_is (number_of q) (number_of c) (same_number_of q c ∙ e)

-- what is on way q after way c changed, and whether its end was seen
pub now_on : (c q : Conn) (ms : List Message) (e : Bool) (old new : Ways) → ChangesWay (number_of c) ms e old new → messages (number_of q) new ≡ cond (same_connection q c) ms (messages (number_of q) old)
now_on c q ms e old new k = k.messages (number_of q) ∙ ap (λ b. cond b ms (messages (number_of q) old)) (same_number_of q c)

pub seen_on : (c q : Conn) (ms : List Message) (e : Bool) (old new : Ways) → ChangesWay (number_of c) ms e old new → is_way_ended (number_of q) new ≡ cond (same_connection q c) e (is_way_ended (number_of q) old)
seen_on c q ms e old new k = k.ended (number_of q) ∙ ap (λ b. cond b e (is_way_ended (number_of q) old)) (same_number_of q c)

turned : (c q : Conn) (f : List Message → List Message) (ws : Ways) → cond (same_connection q c) (f (messages (number_of c) ws)) (messages (number_of q) ws) ≡ cond (same_connection q c) (f (messages (number_of q) ws)) (messages (number_of q) ws)
turned c q f ws = by (same_connection q c) refl
  where
    by : (s : Bool) → same_connection q c ≡ s → cond s (f (messages (number_of c) ws)) (messages (number_of q) ws) ≡ cond s (f (messages (number_of q) ws)) (messages (number_of q) ws)
    by true e = ap (λ n. f (messages n ws)) (sym (same_key q c e))
    by false e = refl

kept_on : (c q : Conn) (ws : Ways) → cond (same_connection q c) (messages (number_of c) ws) (messages (number_of q) ws) ≡ messages (number_of q) ws
kept_on c q ws = turned c q (λ ms. ms) ws ∙ either (same_connection q c) (messages (number_of q) ws)
  where
    either : {A : Type 0} (s : Bool) (x : A) → cond s x x ≡ x
    either true x = refl
    either false x = refl

pub kept_end : (c q : Conn) (ws : Ways) → cond (same_connection q c) (is_way_ended (number_of c) ws) (is_way_ended (number_of q) ws) ≡ is_way_ended (number_of q) ws
kept_end c q ws = by (same_connection q c) refl
  where
    by : (s : Bool) → same_connection q c ≡ s → cond s (is_way_ended (number_of c) ws) (is_way_ended (number_of q) ws) ≡ is_way_ended (number_of q) ws
    by true e = ap (λ n. is_way_ended n ws) (sym (same_key q c e))
    by false e = refl

-- A connection is cut.
pub cut_more : (h : List Entry) (c : Conn) (up down : ℕ) (w : Wires) (intact : Intact) (upward downward : Ways) → ((n : ℕ) → is_intact_at n intact ≡ (not (n == number_of c) && is_intact_at n w.intact))
    → ChangesWay (number_of c) (take up (messages (number_of c) w.upward)) (is_way_ended (number_of c) w.upward) w.upward upward
    → ChangesWay (number_of c) (take down (messages (number_of c) w.downward)) (is_way_ended (number_of c) w.downward) w.downward downward
    → IsWiresOf h w → IsWiresOf (Cut c up down ∷ h) (record w { intact = intact; upward = upward; downward = downward })
cut_more h c up down w intact upward downward i u d k = record {
  stopped = k.stopped;
  lost = λ q. ap (lost_after q h (Cut c up down)) (k.lost q) ∙ (lost q (is_opened q w) (is_intact q w) ∙ ap (λ b. cond (is_opened q w) (Some (not b)) None) (sym (left q)));
  upward = λ q. ap (λ ms. cond (same_connection q c) (take up ms) ms) (k.upward q)
      ∙ sym (now_on c q (take up (messages (number_of c) w.upward)) (is_way_ended (number_of c) w.upward) w.upward upward u ∙ turned c q (take up) w.upward);
  downward = λ q. ap (λ ms. cond (same_connection q c) (take down ms) ms) (k.downward q)
      ∙ sym (now_on c q (take down (messages (number_of c) w.downward)) (is_way_ended (number_of c) w.downward) w.downward downward d ∙ turned c q (take down) w.downward);
  ended_up = λ q o. k.ended_up q o ∙ sym (seen_on c q (take up (messages (number_of c) w.upward)) (is_way_ended (number_of c) w.upward) w.upward upward u ∙ kept_end c q w.upward);
  ended_down = λ q o. k.ended_down q o ∙ sym (seen_on c q (take down (messages (number_of c) w.downward)) (is_way_ended (number_of c) w.downward) w.downward downward d ∙ kept_end c q w.downward);
}
  where
    left : (q : Conn) → is_intact_at (number_of q) intact ≡ (not (same_connection q c) && is_intact q w)
    left q = i (number_of q) ∙ ap (λ s. not s && is_intact q w) (same_number_of q c)

    either : (s b : Bool) → (not b || s) ≡ not (not s && b)
    either true true = refl
    either true false = refl
    either false true = refl
    either false false = refl

    lost : (q : Conn) (a b : Bool) → lost_after q h (Cut c up down) (cond a (Some (not b)) None) ≡ cond a (Some (not (not (same_connection q c) && b))) None
    lost q true b = ap Some (either (same_connection q c) b)
    lost q false b = refl

-- The end of a connection.
lost_end : (q c : Conn) (d : Dir) (h : List Entry) (o : Option Bool) → lost_after q h (End c d) o ≡ o
lost_end q c d h None = refl
lost_end q c d h (Some true) = refl
lost_end q c d h (Some false) = refl

seen : (s E F : Bool) → E ≡ F → ((s && true) || E) ≡ cond s true F
seen true E F k = refl
seen false E F k = k

unseen : (s E F : Bool) → E ≡ F → ((s && false) || E) ≡ F
unseen true E F k = k
unseen false E F k = k

pub end_up : (h : List Entry) (c : Conn) (w : Wires) (new : Ways) → ChangesWay (number_of c) (messages (number_of c) w.upward) true w.upward new → IsWiresOf h w → IsWiresOf (End c Up ∷ h) (record w { upward = new })
end_up h c w new ch k = record {
  stopped = k.stopped;
  lost = λ q. lost_end q c Up h (lost_since q h) ∙ k.lost q;
  upward = λ q. k.upward q ∙ sym (now_on c q (messages (number_of c) w.upward) true w.upward new ch ∙ kept_on c q w.upward);
  downward = λ q. k.downward q;
  ended_up = λ q o. seen (same_connection q c) (is_ended q Up h) (is_way_ended (number_of q) w.upward) (k.ended_up q o) ∙ sym (seen_on c q (messages (number_of c) w.upward) true w.upward new ch);
  ended_down = λ q o. unseen (same_connection q c) (is_ended q Down h) (is_way_ended (number_of q) w.downward) (k.ended_down q o);
}

pub end_down : (h : List Entry) (c : Conn) (w : Wires) (new : Ways) → ChangesWay (number_of c) (messages (number_of c) w.downward) true w.downward new → IsWiresOf h w → IsWiresOf (End c Down ∷ h) (record w { downward = new })
end_down h c w new ch k = record {
  stopped = k.stopped;
  lost = λ q. lost_end q c Down h (lost_since q h) ∙ k.lost q;
  upward = λ q. k.upward q;
  downward = λ q. k.downward q ∙ sym (now_on c q (messages (number_of c) w.downward) true w.downward new ch ∙ kept_on c q w.downward);
  ended_up = λ q o. unseen (same_connection q c) (is_ended q Up h) (is_way_ended (number_of q) w.upward) (k.ended_up q o);
  ended_down = λ q o. seen (same_connection q c) (is_ended q Down h) (is_way_ended (number_of q) w.downward) (k.ended_down q o) ∙ sym (seen_on c q (messages (number_of c) w.downward) true w.downward new ch);
}

-- A message that is got, and has a line.
lost_got : (q c : Conn) (d : Dir) (m : Message) (h : List Entry) (o : Option Bool) → has_line c d m ≡ true → lost_after q h (Got c d m) o ≡ o
lost_got q c d m h None y = refl
lost_got q c d m h (Some l) y = ap Some (ap (λ b. l || (same_connection q c && not b)) y ∙ quiet l (same_connection q c))
  where
    quiet : (l s : Bool) → (l || (s && false)) ≡ l
    quiet true s = refl
    quiet false true = refl
    quiet false false = refl

quiet_got : (s t y E : Bool) → y ≡ true → (((s && t) && not y) || E) ≡ E
quiet_got true true true E k = refl
quiet_got true false true E k = refl
quiet_got false t true E k = refl
quiet_got s t false E k = absurd cc

taken : (s y : Bool) (ms : List Message) → y ≡ true → cond (not s) ms (cond (not y) [] (without_first ms)) ≡ cond s (without_first ms) ms
taken true true ms k = refl
taken false true ms k = refl
taken s false ms k = absurd cc

untaken : (s y : Bool) (ms : List Message) → y ≡ true → cond (not s) ms (cond (not y) [] ms) ≡ ms
untaken true true ms k = refl
untaken false true ms k = refl
untaken s false ms k = absurd cc

pub get_up : (h : List Entry) (c : Conn) (m : Message) (w : Wires) (new : Ways) → has_line c Up m ≡ true
    → ChangesWay (number_of c) (without_first (messages (number_of c) w.upward)) (is_way_ended (number_of c) w.upward) w.upward new → IsWiresOf h w → IsWiresOf (Got c Up m ∷ h) (record w { upward = new })
get_up h c m w new y ch k = record {
  stopped = k.stopped;
  lost = λ q. lost_got q c Up m h (lost_since q h) y ∙ k.lost q;
  upward = λ q. taken (same_connection q c) (has_line c Up m) (in_transit q Up h) y
      ∙ (ap (λ ms. cond (same_connection q c) (without_first ms) ms) (k.upward q)
      ∙ sym (now_on c q (without_first (messages (number_of c) w.upward)) (is_way_ended (number_of c) w.upward) w.upward new ch ∙ turned c q without_first w.upward));
  downward = λ q. untaken (same_connection q c) (has_line c Up m) (in_transit q Down h) y ∙ k.downward q;
  ended_up = λ q o. quiet_got (same_connection q c) true (has_line c Up m) (is_ended q Up h) y
      ∙ (k.ended_up q o ∙ sym (seen_on c q (without_first (messages (number_of c) w.upward)) (is_way_ended (number_of c) w.upward) w.upward new ch ∙ kept_end c q w.upward));
  ended_down = λ q o. quiet_got (same_connection q c) false (has_line c Up m) (is_ended q Down h) y ∙ k.ended_down q o;
}

pub get_down : (h : List Entry) (c : Conn) (m : Message) (w : Wires) (new : Ways) → has_line c Down m ≡ true
    → ChangesWay (number_of c) (without_first (messages (number_of c) w.downward)) (is_way_ended (number_of c) w.downward) w.downward new → IsWiresOf h w → IsWiresOf (Got c Down m ∷ h) (record w { downward = new })
get_down h c m w new y ch k = record {
  stopped = k.stopped;
  lost = λ q. lost_got q c Down m h (lost_since q h) y ∙ k.lost q;
  upward = λ q. untaken (same_connection q c) (has_line c Down m) (in_transit q Up h) y ∙ k.upward q;
  downward = λ q. taken (same_connection q c) (has_line c Down m) (in_transit q Down h) y
      ∙ (ap (λ ms. cond (same_connection q c) (without_first ms) ms) (k.downward q)
      ∙ sym (now_on c q (without_first (messages (number_of c) w.downward)) (is_way_ended (number_of c) w.downward) w.downward new ch ∙ turned c q without_first w.downward));
  ended_up = λ q o. quiet_got (same_connection q c) false (has_line c Down m) (is_ended q Up h) y ∙ k.ended_up q o;
  ended_down = λ q o. quiet_got (same_connection q c) true (has_line c Down m) (is_ended q Down h) y
      ∙ (k.ended_down q o ∙ sym (seen_on c q (without_first (messages (number_of c) w.downward)) (is_way_ended (number_of c) w.downward) w.downward new ch ∙ kept_end c q w.downward));
}

-- An end that may be seen on its side crosses.
end_parts : (o i e s : Bool) → (o && not i && e && not s) ≡ true → (o ≡ true) × (i ≡ false) × (e ≡ true) × (s ≡ false)
end_parts true false true false k = (refl, refl, refl, refl)
end_parts true false true true k = absurd cc
end_parts true false false s k = absurd cc
end_parts true true e s k = absurd cc
end_parts false i e s k = absurd cc

crosses : (l e s : Bool) → l ≡ true → e ≡ true → s ≡ false → (l && e && not s) ≡ true
crosses l e s p q r = rw (p, q, r) refl

lost_is : (h : List Entry) (c : Conn) (w : Wires) → is_opened c w ≡ true → is_intact c w ≡ false → IsWiresOf h w → is_lost_wire c h ≡ true
lost_is h c w o i k = ap holds (k.lost c) ∙ (ap (λ b. holds (cond b (Some (not (is_intact c w))) None)) o ∙ ap not i)

pub end_crosses : (h : List Entry) (c : Conn) (d : Dir) (w : Wires) → may_end_in c d w ≡ true → IsWiresOf h w → MayCross h (End c d)
end_crosses h c Up w e k =
    let p = end_parts (is_opened c w) (is_intact c w) (is_empty (messages (number_of c) w.upward)) (is_way_ended (number_of c) w.upward) e in
    crosses (is_lost_wire c h) (is_empty (in_transit c Up h)) (is_ended c Up h) (lost_is h c w p.0 p.1 k) (ap is_empty (k.upward c) ∙ p.2) (k.ended_up c p.0 ∙ p.3)
end_crosses h c Down w e k =
    let p = end_parts (is_opened c w) (is_intact c w) (is_empty (messages (number_of c) w.downward)) (is_way_ended (number_of c) w.downward) e in
    crosses (is_lost_wire c h) (is_empty (in_transit c Down h)) (is_ended c Down h) (lost_is h c w p.0 p.1 k) (ap is_empty (k.downward c) ∙ p.2) (k.ended_down c p.0 ∙ p.3)

-- A message is got exactly where it is the next on the way.
pub next_up : (h : List Entry) (c : Conn) (m : Message) (w : Wires) (n : ℕ) (r : Bool) → n ≡ number_of c → (IsTrue r ↔ is_next m (messages n w.upward)) → IsWiresOf h w → IsTrue r ↔ MayCross h (Got c Up m)
next_up h c m w n r e next k =
    let N : List Message → Type 0 = λ ms. IsTrue r ↔ is_next m ms in
    subst N (ap (λ i. messages i w.upward) e ∙ sym (k.upward c)) next

pub next_down : (h : List Entry) (c : Conn) (m : Message) (w : Wires) (n : ℕ) (r : Bool) → n ≡ number_of c → (IsTrue r ↔ is_next m (messages n w.downward)) → IsWiresOf h w → IsTrue r ↔ MayCross h (Got c Down m)
next_down h c m w n r e next k =
    let N : List Message → Type 0 = λ ms. IsTrue r ↔ is_next m ms in
    subst N (ap (λ i. messages i w.downward) e ∙ sym (k.downward c)) next

-- A message that has no line is the loss of its connection and its end on the side that gets it.
pub got_lineless : (h : List Entry) (c : Conn) (d : Dir) (m : Message) (w : Wires) → has_line c d m ≡ false → IsWiresOf (End c d ∷ Cut c 0 0 ∷ h) w → IsWiresOf (Got c d m ∷ h) w
got_lineless h c d m w n k = record {
  stopped = k.stopped;
  lost = λ q. lost_both q (lost_since q h) ∙ k.lost q;
  upward = λ q. emptied (same_connection q c) (has_line c d m) (same_direction Up d) (in_transit q Up h) n ∙ k.upward q;
  downward = λ q. emptied (same_connection q c) (has_line c d m) (same_direction Down d) (in_transit q Down h) n ∙ k.downward q;
  ended_up = λ q o. ended (same_connection q c) (same_direction Up d) (has_line c d m) (is_ended q Up h) n ∙ k.ended_up q o;
  ended_down = λ q o. ended (same_connection q c) (same_direction Down d) (has_line c d m) (is_ended q Down h) n ∙ k.ended_down q o;
}
  where
    lost_both : (q : Conn) (o : Option Bool) → lost_after q h (Got c d m) o ≡ lost_after q (Cut c 0 0 ∷ h) (End c d) (lost_after q h (Cut c 0 0) o)
    lost_both q None = refl
    lost_both q (Some l) = ap Some (ap (λ b. l || (same_connection q c && not b)) n ∙ by l (same_connection q c))
      where
        by : (l s : Bool) → (l || (s && true)) ≡ ((l || s) || false)
        by true s = refl
        by false true = refl
        by false false = refl

    emptied : (s y t : Bool) (ms : List Message) → y ≡ false → cond (not s) ms (cond (not y) [] (cond t (without_first ms) ms)) ≡ cond s [] ms
    emptied true false t ms e = refl
    emptied false false t ms e = refl
    emptied s true t ms e = absurd cc

    ended : (s t y E : Bool) → y ≡ false → (((s && t) && not y) || E) ≡ ((s && t) || E)
    ended s t false E e = ap (λ b. b || E) (by (s && t))
      where
        by : (b : Bool) → (b && true) ≡ b
        by true = refl
        by false = refl
    ended s t true E e = absurd cc
