-- On a connection that isn't lost, what was sent was got or is on the way.
use Rattle.std.proofs.Common.{◌≡◌, ℕ, Bool, true, false, ◌&&◌, ◌||◌, List, [], ◌∷◌, ◌++◌, Option, Some, None, refl, sym, subst, ap}
use Rattle.std.specs.Prelude.{is_some, not, take, if◌then◌else◌}
use Rattle.dtx_values.specs.declared.entry.Entry.{Entry}
use Rattle.dtx_values.specs.declared.entry.Entry.TheVariants.{Sent, Got, Cut, Stopped}
use Rattle.dtx_values.specs.declared.message.Conn.{Conn}
use Rattle.dtx_values.specs.declared.message.Dir.{Dir}
use Rattle.dtx_values.specs.declared.message.Dir.TheVariants.{Up, Down}
use Rattle.dtx_values.specs.declared.message.Message.{Message}
use Rattle.dtx_model.specs.Words.{has, holds}
use Rattle.dtx_values.specs.Lines.{has_line, is_opening}
use Rattle.dtx_model.specs.Wires.{is_lost_wire, is_next, is_open_wire, is_kept, is_stopped, in_transit, kept, lost_after, lost_since, opened_with, opens, sent_behind, without_first}
use Rattle.dtx_values.specs.Ends.{same_connection, same_direction}
use Rattle.std.proofs.lemmas.Bool.{or_left, true_from_ne_false}
use Rattle.dtx_model.proofs.Bools.{and_left, and_right, or_case, or_first, or_second, or_false, or_right, not_both}
use Rattle.history_table.proofs.Crossed.{is_severing, is_sent_on, is_got_on}
use Rattle.settled_histories.proofs.Wired.{IsFirm, IsWired, firm_before, is_opened_once, is_plain, newest, unstopped, wired_before}
use Rattle.history_table.proofs.Reenlisted.{opened_since}
use Rattle.dtx_model.proofs.Connections.{same_is, same_way_is}

-- a connection that was opened is open, where it is firm
stays : (c : Conn) (h : List Entry) → IsWired h → IsFirm c h → has (opens c) h ≡ true → lost_since c h ≡ Some false
stays c h w f k = step (lost_since c h) (opened_since c h k) f.kept
  where
    step : (o : Option Bool) → is_some o ≡ true → holds o ≡ false → o ≡ Some false
    step None s n = absurd cc
    step (Some true) s n = absurd cc
    step (Some false) s n = refl

-- and so what is sent on it comes last on the way
goes : (c : Conn) (m : Message) (h : List Entry) (ms : List Message) → IsWired h → IsFirm c h → has (opens c) h ≡ true → sent_behind (is_open_wire c h) m ms ≡ ms ++ m ∷ []
goes c m h ms w f k = ap (λ o. sent_behind (is_kept o) m ms) (stays c h w f k)

-- where a message is sent that doesn't open the connection, it was opened
rule_later : (o b p l : Bool) → o ≡ false → (if o then not b || (not p && l) else b) ≡ true → b ≡ true
rule_later true b p l n k = absurd cc
rule_later false b p l n k = k

-- where one opens a plain connection, it wasn't
rule_first : (o b p l : Bool) → p ≡ true → o ≡ true → (if o then not b || (not p && l) else b) ≡ true → b ≡ false
rule_first true true true l q n k = absurd cc
rule_first true true false l q n k = absurd cc
rule_first true false p l q n k = refl
rule_first false b p l q n k = absurd cc

-- the rule of a message that is sent, on the connection as it is tested
sent_rule : (c e : Conn) (r : Dir) (m : Message) (h : List Entry) → same_connection c e ≡ true → is_opened_once h (Sent e r m) ≡ true
    → (if opens c (Sent e r m) then not (has (opens c) h) || (not (is_plain c) && has is_severing h) else has (opens c) h) ≡ true
sent_rule c e r m h q w =
    let P : Conn → Type 0 = λ x. (if opens x (Sent e r m) then not (has (opens x) h) || (not (is_plain x) && has is_severing h) else has (opens x) h) ≡ true in
    subst P (sym (same_is c e q)) w

-- nothing was sent on a connection that wasn't opened
pub unopened : (c : Conn) (d : Dir) (p : Message → Bool) (h : List Entry) → IsWired h → has (opens c) h ≡ false → has (is_sent_on c d p) h ≡ false
unopened c d p [] w k = refl
unopened c d p (Sent e r m ∷ h) w k =
    let ih = unopened c d p h (wired_before (Sent e r m) h w) shut in
    or_false (same_connection c e && same_direction d r && p m) (has (is_sent_on c d p) h) (other (same_connection c e) refl) ih
  where
    shut : has (opens c) h ≡ false
    shut = or_second (opens c (Sent e r m)) (has (opens c) h) k

    other : (b : Bool) → same_connection c e ≡ b → (b && same_direction d r && p m) ≡ false
    other false q = refl
    other true q =
        absurd (not_both (has (opens c) h)
        (rule_later (opens c (Sent e r m)) (has (opens c) h) (is_plain c) (has is_severing h) (or_first (opens c (Sent e r m)) (has (opens c) h) k) (sent_rule c e r m h q (newest (Sent e r m) h w))) shut)
unopened c d p (x ∷ h) w k = unopened c d p h (wired_before x h w) (or_second (opens c x) (has (opens c) h) k)

-- what passes is in one of two lists together where it is in the first, or in the second
in_first : (p : Message → Bool) (xs ys : List Message) → has p xs ≡ true → has p (xs ++ ys) ≡ true
in_first p [] ys k = absurd cc
in_first p (x ∷ xs) ys k = or_case (p x) (has p xs) (λ q. or_left (p x) (has p (xs ++ ys)) q) (λ q. or_right (p x) (has p (xs ++ ys)) (in_first p xs ys q)) k

comes_last : (p : Message → Bool) (m : Message) (xs : List Message) → p m ≡ true → has p (xs ++ m ∷ []) ≡ true
comes_last p m [] k = or_left (p m) false k
comes_last p m (x ∷ xs) k = or_right (p x) (has p (xs ++ m ∷ [])) (comes_last p m xs k)

-- got, or on the way
abbrev pub reached : Conn → Dir → (Message → Bool) → List Entry → Bool
reached c d p h = has (is_got_on c d p) h || has p (in_transit c d h)

-- what opens a connection is sent on it
opens_same : (c e : Conn) (r : Dir) (m : Message) → opens c (Sent e r m) ≡ true → same_connection c e ≡ true
opens_same c e Up m o = and_left (same_connection c e) (is_opening e m) o
opens_same c e Down m o = absurd cc

-- what opens a connection is on the way upward
opening_goes : (c e : Conn) (d r : Dir) (m : Message) (p : Message → Bool) (stop : Bool) → opens c (Sent e r m) ≡ true → same_direction d r ≡ true → stop ≡ false → p m ≡ true
    → has p (opened_with d m stop) ≡ true
opening_goes c e Up Up m p stop o t u k = rw u (or_left (p m) false k)
opening_goes c e Down Up m p stop o t u k = absurd cc
opening_goes c e d Down m p stop o t u k = absurd cc

-- one more message: o, it opens the connection; s and t, it is on it in this direction; q, it passes
sent_step : (p : Message → Bool) (m : Message) (o s t g rest : Bool) (new later ms : List Message) → (o ≡ true → rest ≡ false) → (o ≡ true → t ≡ true → p m ≡ true → has p new ≡ true)
    → (o ≡ false → s ≡ true → later ≡ ms ++ m ∷ []) → (rest ≡ true → (g || has p ms) ≡ true) → ((s && t && p m) || rest) ≡ true
    → (g || has p (if o then new else if s && t then later else ms)) ≡ true
sent_step p m true s t g rest new later ms un op go ih k =
    or_case (s && t && p m) rest (λ q. or_right g (has p new) (op refl (and_right s t (and_left (s && t) (p m) q)) (and_right (s && t) (p m) q)))
    (λ q. absurd (not_both rest q (un refl))) k
sent_step p m false true true g rest new later ms un op go ih k =
    rw (go refl refl)
    (or_case (p m) rest (λ q. or_right g (has p (ms ++ m ∷ [])) (comes_last p m ms q))
    (λ q. or_case g (has p ms) (λ a. or_left g (has p (ms ++ m ∷ [])) a) (λ a. or_right g (has p (ms ++ m ∷ [])) (in_first p ms (m ∷ []) a)) (ih q)) k)
sent_step p m false true false g rest new later ms un op go ih k = ih k
sent_step p m false false t g rest new later ms un op go ih k = ih k

-- what is got is taken off the way
taken : (p : Message → Bool) (m : Message) (g : Bool) (ms : List Message) → is_next m ms → (g || has p ms) ≡ true → ((p m || g) || has p (without_first ms)) ≡ true
taken p m g [] n k = absurd n
taken p m g (x ∷ ms) n k = let P : Message → Type 0 = λ y. (g || (p y || has p ms)) ≡ true in step g (p m) (has p ms) (subst P (sym n) k)
  where
    step : (a b c : Bool) → (a || (b || c)) ≡ true → ((b || a) || c) ≡ true
    step a true c k = refl
    step true false c k = refl
    step false false c k = k

-- one message got: s and t, it is on the connection in this direction
got_step : (p : Message → Bool) (m : Message) (s line t g : Bool) (ms : List Message) → line ≡ true → (s ≡ true → t ≡ true → is_next m ms) → (g || has p ms) ≡ true
    → (((s && t && p m) || g) || has p (if not s then ms else if not line then [] else if t then without_first ms else ms)) ≡ true
got_step p m false line t g ms l n k = k
got_step p m true false t g ms l n k = absurd cc
got_step p m true true false g ms l n k = k
got_step p m true true true g ms l n k = taken p m g ms (n refl refl) k

-- a cut loses a connection that was opened
cut_lost : (c e : Conn) (u n : ℕ) (h : List Entry) (o : Option Bool) → is_some o ≡ true → same_connection c e ≡ true → holds (lost_after c h (Cut e u n) o) ≡ true
cut_lost c e u n h None s q = absurd cc
cut_lost c e u n h (Some l) s q = or_right l (same_connection c e) q

-- where it was sent on a firm connection, it was got or is on the way
on_way : (c : Conn) (d : Dir) (p : Message → Bool) (h : List Entry) → IsWired h → IsFirm c h → has (is_sent_on c d p) h ≡ true → reached c d p h ≡ true
on_way c d p [] w f k = absurd cc
on_way c d p (Sent e r m ∷ h) w f k =
    let past = wired_before (Sent e r m) h w in
    let firm = firm_before c (Sent e r m) h w f in
    let rule : same_connection c e ≡ true → (if opens c (Sent e r m) then not (has (opens c) h) || (not (is_plain c) && has is_severing h) else has (opens c) h) ≡ true = λ q. sent_rule c e r m h q (newest (Sent e r m) h w) in
    sent_step p m (opens c (Sent e r m)) (same_connection c e) (same_direction d r) (has (is_got_on c d p) h) (has (is_sent_on c d p) h) (opened_with d m (is_stopped h))
    (sent_behind (is_open_wire c h) m (in_transit c d h)) (in_transit c d h)
    (λ o. unopened c d p h past (rule_first (opens c (Sent e r m)) (has (opens c) h) (is_plain c) (has is_severing h) f.plain o (rule (opens_same c e r m o))))
    (λ o t q. opening_goes c e d r m p (is_stopped h) o t (unstopped h past.unstopped) q)
    (λ o s. goes c m h (in_transit c d h) past firm (rule_later (opens c (Sent e r m)) (has (opens c) h) (is_plain c) (has is_severing h) o (rule s))) (on_way c d p h past firm) k
on_way c d p (Got e r m ∷ h) w f k =
    got_step p m (same_connection c e) (has_line e r m) (same_direction d r) (has (is_got_on c d p) h) (in_transit c d h) (newest (Got e r m) h w) next
    (on_way c d p h (wired_before (Got e r m) h w) (firm_before c (Got e r m) h w f) k)
  where
    next : same_connection c e ≡ true → same_direction d r ≡ true → is_next m (in_transit c d h)
    next s t =
        let P : Conn → Type 0 = λ x. is_next m (in_transit x d h) in
        let Q : Dir → Type 0 = λ x. is_next m (in_transit e x h) in
        subst P (sym (same_is c e s)) (subst Q (sym (same_way_is d r t)) w.run.0)
on_way c d p (Cut e u n ∷ h) w f k = step (on_way c d p h past (firm_before c (Cut e u n) h w f) k) (same_connection c e) refl
  where
    past : IsWired h
    past = wired_before (Cut e u n) h w

    opened : has (opens c) h ≡ true
    opened = true_from_ne_false (has (opens c) h) (λ q. not_both (has (is_sent_on c d p) h) k (unopened c d p h past q))

    step : reached c d p h ≡ true → (s : Bool) → same_connection c e ≡ s
        → (has (is_got_on c d p) h || has p (if s then take (kept d u n) (in_transit c d h) else in_transit c d h)) ≡ true
    step ih true q = absurd (not_both (is_lost_wire c (Cut e u n ∷ h)) (cut_lost c e u n h (lost_since c h) (opened_since c h opened) q) f.kept)
    step ih false q = ih
on_way c d p (Stopped ∷ h) w f k = let n : true ≡ false = w.unstopped in absurd cc
on_way c d p (x ∷ h) w f k = on_way c d p h (wired_before x h w) (firm_before c x h w f) k

-- where nothing is left on the way, what was sent on a firm connection was got
pub arrived : (c : Conn) (d : Dir) (p : Message → Bool) (h : List Entry) → IsWired h → IsFirm c h → in_transit c d h ≡ [] → has (is_sent_on c d p) h ≡ true → has (is_got_on c d p) h ≡ true
arrived c d p h w f e k = all_got (has (is_got_on c d p) h) (in_transit c d h) e (on_way c d p h w f k)
  where
    all_got : (g : Bool) (ms : List Message) → ms ≡ [] → (g || has p ms) ≡ true → g ≡ true
    all_got true ms e k = refl
    all_got false [] e k = k
    all_got false (x ∷ ms) e k = absurd cc
