-- The message that opens a connection is the first that is got on it, where the connection is opened once at most and the coordinator doesn't stop.
use Rattle.std.proofs.Common.{◌≡◌, ℕ, zero, suc, Bool, true, false, ◌&&◌, ◌||◌, List, [], ◌∷◌, Option, Some, None, refl, sym, subst}
use Rattle.std.specs.Prelude.{not, take, if◌then◌else◌}
use Rattle.std.proofs.lemmas.Bool.{false_from_ne_true, or_left, true_from_ne_false}
use Rattle.dtx_values.specs.declared.entry.Entry.{Entry}
use Rattle.dtx_values.specs.declared.entry.Entry.TheVariants.{Sent, Got, Cut, Stopped}
use Rattle.dtx_values.specs.declared.message.Conn.{Conn}
use Rattle.dtx_values.specs.declared.message.Dir.{Dir}
use Rattle.dtx_values.specs.declared.message.Dir.TheVariants.{Up, Down}
use Rattle.dtx_values.specs.declared.message.Message.{Message}
use Rattle.dtx_model.specs.Words.{has}
use Rattle.dtx_values.specs.Lines.{has_line, is_opening}
use Rattle.dtx_model.specs.Wires.{WireRun, is_kept, is_next, is_open_wire, is_stopped, in_transit, loses, lost_after, lost_since, opened_with, opens, sent_behind, without_first}
use Rattle.dtx_values.specs.Ends.{same_connection, same_direction}
use Rattle.dtx_model.proofs.Bools.{and_left, and_right, and_both, or_case, or_right, not_both}
use Rattle.settled_histories.proofs.Wired.{IsWired, is_plain, newest, opened_new, unstopped, wired_before}
use Rattle.settled_histories.proofs.Arrived.{unopened}
use Rattle.dtx_model.proofs.Connections.{same_is, same_way_is}
use Rattle.history_table.proofs.Scans.{has_more}
use Rattle.history_table.proofs.Crossed.{is_sent_on, is_got_on, came, got_sent}

-- what was got was sent, and a connection on which something was sent was opened
pub once_sent : (c : Conn) (d : Dir) (p : Message → Bool) (h : List Entry) → WireRun h → has (is_got_on c d p) h ≡ true → has (is_sent_on c d p) h ≡ true
once_sent c d p [] run k = absurd cc
once_sent c d p (Got e r m ∷ h) run k =
    or_case (same_connection c e && same_direction d r && p m) (has (is_got_on c d p) h)
    (λ q. let both = and_left (same_connection c e && same_direction d r) (p m) q in
    let P : Conn → Type 0 = λ x. has (is_sent_on x d p) h ≡ true in
    let Q : Dir → Type 0 = λ x. has (is_sent_on e x p) h ≡ true in
    subst P (sym (same_is c e (and_left (same_connection c e) (same_direction d r) both)))
    (subst Q (sym (way d r (and_right (same_connection c e) (same_direction d r) both))) (got_sent e r m p h run.0 (and_right (same_connection c e && same_direction d r) (p m) q))))
    (λ q. once_sent c d p h run.1 q) k
  where
    way : (d e : Dir) → same_direction d e ≡ true → d ≡ e
    way Up Up h = refl
    way Down Down h = refl
    way _ _ h = absurd cc
once_sent c d p (Sent e r m ∷ h) run k = or_right (same_connection c e && same_direction d r && p m) (has (is_sent_on c d p) h) (once_sent c d p h run.1 k)
once_sent c d p (x ∷ h) run k = once_sent c d p h run.1 k

pub sent_opened : (c : Conn) (d : Dir) (p : Message → Bool) (h : List Entry) → IsWired h → has (is_sent_on c d p) h ≡ true → has (opens c) h ≡ true
sent_opened c d p h w k = true_from_ne_false (has (opens c) h) (λ n. not_both (has (is_sent_on c d p) h) k (unopened c d p h w n))

pub got_opened : (c : Conn) (d : Dir) (p : Message → Bool) (h : List Entry) → IsWired h → has (is_got_on c d p) h ≡ true → has (opens c) h ≡ true
got_opened c d p h w k = sent_opened c d p h w (once_sent c d p h w.run k)

abbrev any : Message → Bool
any m = true

-- The opening message comes first: while the connection is open it is the first on the way.
abbrev is_led : Conn → List Message → Bool → Bool
is_led c [] is_open = not is_open
is_led c (m ∷ ms) is_open = is_opening c m

-- it was got, or else nothing was got, and what is on the way is led by it
abbrev leads : Conn → List Entry → Bool
leads c h = has (is_got_on c Up (is_opening c)) h || (not (has (is_got_on c Up any) h) && is_led c (in_transit c Up h) (is_open_wire c h))

-- what isn't opened anew is open only where it was
open_was : (c : Conn) (x : Entry) (h : List Entry) → opens c x ≡ false → is_open_wire c (x ∷ h) ≡ true → is_open_wire c h ≡ true
open_was c x h o k = step (opens c x) (is_stopped h) (loses c x) (lost_since c h) o k
  where
    step : (b s z : Bool) (o : Option Bool) → b ≡ false
        → is_kept (elim o as (λ y. Option Bool) [ Some l ↦ if b then Some s else Some (l || z) | None ↦ if b then Some s else None ]) ≡ true → is_kept o ≡ true
    step true s z o n k = absurd cc
    step false s z None n k = k
    step false s z (Some true) n k = k
    step false s z (Some false) n k = refl

led_kept : (c : Conn) (ms : List Message) (o u : Bool) → (u ≡ true → o ≡ true) → is_led c ms o ≡ true → is_led c ms u ≡ true
led_kept c [] true true f k = k
led_kept c [] false true f k = let e : false ≡ true = f refl in absurd cc
led_kept c [] o false f k = refl
led_kept c (m ∷ ms) o u f k = k

-- one more comes last
led_more : (c : Conn) (m : Message) (ms : List Message) (o : Bool) → is_led c ms o ≡ true → is_led c (sent_behind o m ms) o ≡ true
led_more c m [] true k = absurd cc
led_more c m [] false k = refl
led_more c m (x ∷ ms) true k = k
led_more c m (x ∷ ms) false k = k

-- a cut takes the last away, and the connection isn't open any more
led_cut : (c : Conn) (n : ℕ) (ms : List Message) (o u : Bool) → u ≡ false → is_led c ms o ≡ true → is_led c (take n ms) u ≡ true
led_cut c zero ms o u e k = rw e refl
led_cut c (suc n) [] o u e k = rw e refl
led_cut c (suc n) (m ∷ ms) o u e k = k

cut_shut : (c e : Conn) (u n : ℕ) (h : List Entry) (o : Option Bool) → same_connection c e ≡ true → is_kept (lost_after c h (Cut e u n) o) ≡ false
cut_shut c e u n h None q = refl
cut_shut c e u n h (Some true) q = refl
cut_shut c e u n h (Some false) q = rw q refl

still_led : (a g l n : Bool) → (l ≡ true → n ≡ true) → (a || (not g && l)) ≡ true → (a || (not g && n)) ≡ true
still_led true g l n f k = refl
still_led false true l n f k = k
still_led false false l n f k = f k

-- the opening message is sent, where nothing was got
led_new : (c e : Conn) (r : Dir) (m : Message) (a g stop u : Bool) → opens c (Sent e r m) ≡ true → g ≡ false → stop ≡ false → (a || (not g && is_led c (opened_with Up m stop) u)) ≡ true
led_new c e Up m true g stop u o n s = refl
led_new c e Up m false true stop u o n s = absurd cc
led_new c e Up m false false true u o n s = absurd cc
led_new c e Up m false false false u o n s =
    let P : Conn → Type 0 = λ x. is_opening x m ≡ true in subst P (sym (same_is c e (and_left (same_connection c e) (is_opening e m) o))) (and_right (same_connection c e) (is_opening e m) o)
led_new c e Down m a g stop u o n s = absurd cc

-- one more message that is sent
led_sent : (c : Conn) (m : Message) (s t o u : Bool) (ms : List Message) → (u ≡ true → o ≡ true) → is_led c ms o ≡ true → is_led c (if s && t then sent_behind o m ms else ms) u ≡ true
led_sent c m true true o u ms f k = led_kept c (sent_behind o m ms) o u f (led_more c m ms o k)
led_sent c m true false o u ms f k = led_kept c ms o u f k
led_sent c m false t o u ms f k = led_kept c ms o u f k

-- one message that is got: s and t, it is on the connection upward; a, the opening message was got, g, any was
led_got : (c : Conn) (m : Message) (s line t a g o u : Bool) (ms : List Message) → line ≡ true → (s ≡ true → t ≡ true → is_next m ms) → (u ≡ true → o ≡ true)
    → (a || (not g && is_led c ms o)) ≡ true
    → (((s && t && is_opening c m) || a) || (not ((s && t && true) || g) && is_led c (if not s then ms else if not line then [] else if t then without_first ms else ms) u)) ≡ true
led_got c m false line t a g o u ms l n f k = still_led a g (is_led c ms o) (is_led c ms u) (led_kept c ms o u f) k
led_got c m true false t a g o u ms l n f k = absurd cc
led_got c m true true false a g o u ms l n f k = still_led a g (is_led c ms o) (is_led c ms u) (led_kept c ms o u f) k
led_got c m true true true true g o u ms l n f k = or_left (is_opening c m || true) _ (or_right (is_opening c m) true refl)
led_got c m true true true false true o u ms l n f k = absurd cc
led_got c m true true true false false o u [] l n f k = absurd (n refl refl)
led_got c m true true true false false o u (x ∷ ms) l n f k =
    or_left (is_opening c m || false) _ (or_left (is_opening c m) false (let P : Message → Type 0 = λ y. is_opening c y ≡ true in subst P (sym (n refl refl)) k))

leading : (c : Conn) (h : List Entry) → IsWired h → is_plain c ≡ true → leads c h ≡ true
leading c [] w p = refl
leading c (Sent e r m ∷ h) w p = by (leading c h past p) (opens c (Sent e r m)) refl
  where
    past : IsWired h
    past = wired_before (Sent e r m) h w

    ungot : opens c (Sent e r m) ≡ true → has (is_got_on c Up any) h ≡ false
    ungot o = false_from_ne_true (has (is_got_on c Up any) h) (λ g. not_both (has (opens c) h) (got_opened c Up any h past g) (opened_new c (Sent e r m) h w p o))

    by : leads c h ≡ true → (b : Bool) → opens c (Sent e r m) ≡ b
        → (has (is_got_on c Up (is_opening c)) h || (not (has (is_got_on c Up any) h)
        && is_led c (if b then opened_with Up m (is_stopped h) else if same_connection c e && same_direction Up r then sent_behind (is_open_wire c h) m (in_transit c Up h) else in_transit c Up h)
        (is_open_wire c (Sent e r m ∷ h)))) ≡ true
    by ih true o =
        led_new c e r m (has (is_got_on c Up (is_opening c)) h) (has (is_got_on c Up any) h) (is_stopped h) (is_open_wire c (Sent e r m ∷ h)) o (ungot o) (unstopped h past.unstopped)
    by ih false o =
        still_led (has (is_got_on c Up (is_opening c)) h) (has (is_got_on c Up any) h) (is_led c (in_transit c Up h) (is_open_wire c h)) _
        (led_sent c m (same_connection c e) (same_direction Up r) (is_open_wire c h) (is_open_wire c (Sent e r m ∷ h)) (in_transit c Up h) (open_was c (Sent e r m) h o)) ih
leading c (Got e r m ∷ h) w p =
    led_got c m (same_connection c e) (has_line e r m) (same_direction Up r) (has (is_got_on c Up (is_opening c)) h) (has (is_got_on c Up any) h) (is_open_wire c h) (is_open_wire c (Got e r m ∷ h))
    (in_transit c Up h) (newest (Got e r m) h w) next (open_was c (Got e r m) h refl) (leading c h (wired_before (Got e r m) h w) p)
  where
    next : same_connection c e ≡ true → same_direction Up r ≡ true → is_next m (in_transit c Up h)
    next s t =
        let P : Conn → Type 0 = λ x. is_next m (in_transit x Up h) in
        let Q : Dir → Type 0 = λ x. is_next m (in_transit e x h) in
        subst P (sym (same_is c e s)) (subst Q (sym (same_way_is Up r t)) w.run.0)
leading c (Cut e u n ∷ h) w p =
    still_led (has (is_got_on c Up (is_opening c)) h) (has (is_got_on c Up any) h) (is_led c (in_transit c Up h) (is_open_wire c h)) _ (by (same_connection c e) refl)
    (leading c h (wired_before (Cut e u n) h w) p)
  where
    by : (s : Bool) → same_connection c e ≡ s → is_led c (in_transit c Up h) (is_open_wire c h) ≡ true
        → is_led c (if s then take u (in_transit c Up h) else in_transit c Up h) (is_open_wire c (Cut e u n ∷ h)) ≡ true
    by true q k = led_cut c u (in_transit c Up h) (is_open_wire c h) (is_open_wire c (Cut e u n ∷ h)) (cut_shut c e u n h (lost_since c h) q) k
    by false q k = led_kept c (in_transit c Up h) (is_open_wire c h) (is_open_wire c (Cut e u n ∷ h)) (open_was c (Cut e u n) h refl) k
leading c (Stopped ∷ h) w p = let n : true ≡ false = w.unstopped in absurd cc
leading c (x ∷ h) w p =
    still_led (has (is_got_on c Up (is_opening c)) h) (has (is_got_on c Up any) h) (is_led c (in_transit c Up h) (is_open_wire c h)) (is_led c (in_transit c Up h) (is_open_wire c (x ∷ h)))
    (led_kept c (in_transit c Up h) (is_open_wire c h) (is_open_wire c (x ∷ h)) (open_was c x h refl)) (leading c h (wired_before x h w) p)

-- where anything was got upward on a plain connection, the opening message was
pub opening_first : (c : Conn) (p : Message → Bool) (h : List Entry) → IsWired h → is_plain c ≡ true → has (is_got_on c Up p) h ≡ true → has (is_got_on c Up (is_opening c)) h ≡ true
opening_first c p h w q k =
    first (has (is_got_on c Up (is_opening c)) h) (has (is_got_on c Up any) h) (is_led c (in_transit c Up h) (is_open_wire c h)) (has_more (is_got_on c Up p) (is_got_on c Up any) (more c p) h k) (leading c h w q)
  where
    more : (c : Conn) (p : Message → Bool) (x : Entry) → is_got_on c Up p x ≡ true → is_got_on c Up any x ≡ true
    more c p (Got e r m) k = and_both (same_connection c e && same_direction Up r) true (and_left (same_connection c e && same_direction Up r) (p m) k) refl
    more c p x k = absurd cc

    first : (a g l : Bool) → g ≡ true → (a || (not g && l)) ≡ true → a ≡ true
    first true g l e k = refl
    first false true l e k = k
    first false false l e k = absurd cc

-- nothing is on the way on a connection that wasn't opened
pub unopened_empty : (c : Conn) (d : Dir) (h : List Entry) → IsWired h → has (opens c) h ≡ false → in_transit c d h ≡ []
unopened_empty c d h w n = step (in_transit c d h) (λ k. not_both (has (opens c) h) (sent_opened c d any h w (came c d any h k)) n)
  where
    step : (ms : List Message) → (has any ms ≡ true → ⊥) → ms ≡ []
    step [] f = refl
    step (m ∷ ms) f = absurd (f refl)
