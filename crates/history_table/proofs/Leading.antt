-- What comes upward on a connection comes after the message that opened it, whatever is lost; and the message that opens the voter's connection or an enlistment's comes
-- once.
use Rattle.std.proofs.Common.{◌≡◌, ℕ, zero, suc, ◌==◌, Bool, true, false, ◌&&◌, ◌||◌, List, [], ◌∷◌, ◌++◌, Option, Some, None, refl, sym, subst, ◌∙◌}
use Rattle.std.specs.Prelude.{not, take, if◌then◌else◌}
use Rattle.std.proofs.lemmas.Bool.{false_from_ne_true, or_left}
use Rattle.dtx_values.specs.declared.entry.Entry.{Entry}
use Rattle.dtx_values.specs.declared.entry.Entry.TheVariants.{Cut, Got, Sent, Stopped}
use Rattle.dtx_values.specs.declared.message.Conn.{Conn}
use Rattle.dtx_values.specs.declared.message.Conn.TheVariants.{Begin, Voter, Enl}
use Rattle.dtx_values.specs.declared.message.Dir.{Dir}
use Rattle.dtx_values.specs.declared.message.Dir.TheVariants.{Up, Down}
use Rattle.dtx_values.specs.declared.message.Message.{Message}
use Rattle.dtx_values.specs.declared.message.Message.TheVariants.{BeginBegin, VoterVoter, EnlistEnlist}
use Rattle.dtx_values.specs.Ends.{same_connection, same_direction}
use Rattle.dtx_values.specs.Lines.{has_line, is_opening}
use Rattle.dtx_model.specs.Words.{has}
use Rattle.dtx_model.specs.Promotes.{is_begun_got, is_promoting}
use Rattle.dtx_model.specs.Wires.{MayCross, WireRun, in_transit, is_kept, is_next, is_open_wire, is_stopped, loses, lost_after, lost_since, opened_with, opens, sent_behind, without_first}
use Rattle.dtx_model.proofs.Bools.{and_left, and_right, and_both, not_both, not_false, not_true, or_case, or_false, or_right}
use Rattle.history_table.proofs.Tests.{third_of_four, fourth_of_four}
use Rattle.history_table.proofs.Lists.{has-behind}
use Rattle.history_table.proofs.Scans.{has_more}
use Rattle.history_table.proofs.Table.{is_opening_got, is_there, message_row, rule}
use Rattle.history_table.proofs.Keeping.{Keeps, keeps_before, newest}
use Rattle.history_table.proofs.Crossed.{is_got_on, is_sent_on, was_sent}
use Rattle.dtx_model.proofs.Connections.{same_is}

-- what is on the way begins with the message that opens the connection, or nothing is and the connection isn't open
abbrev pub is_led : Conn → Bool → List Message → Bool
is_led c b [] = not b
is_led c b (m ∷ ms) = is_opening c m

-- whether a connection is open after an entry
none_kept : (b s z : Bool) → b ≡ false → is_kept (if b then Some s else None) ≡ (false && z)
none_kept true s z e = absurd cc
none_kept false s z e = refl

some_kept : (b s l z : Bool) → b ≡ false → is_kept (if b then Some s else Some (l || z)) ≡ (not l && not z)
some_kept true s l z e = absurd cc
some_kept false s true z e = refl
some_kept false s false z e = refl

open_after : (c : Conn) (h : List Entry) (x : Entry) (o : Option Bool) → opens c x ≡ false → is_kept (lost_after c h x o) ≡ (is_kept o && not (loses c x))
open_after c h x None e = none_kept (opens c x) (is_stopped h) (not (loses c x)) e
open_after c h x (Some l) e = some_kept (opens c x) (is_stopped h) l (loses c x) e

opened_none : (b s : Bool) → b ≡ true → is_kept (if b then Some s else None) ≡ not s
opened_none true s e = refl
opened_none false s e = absurd cc

opened_some : (b s z : Bool) → b ≡ true → is_kept (if b then Some s else Some z) ≡ not s
opened_some true s z e = refl
opened_some false s z e = absurd cc

open_opened : (c : Conn) (h : List Entry) (x : Entry) (o : Option Bool) → opens c x ≡ true → is_kept (lost_after c h x o) ≡ not (is_stopped h)
open_opened c h x None e = opened_none (opens c x) (is_stopped h) e
open_opened c h x (Some l) e = opened_some (opens c x) (is_stopped h) (l || loses c x) e

-- a message that opens this connection is an opening of it
pub opening_of : (c e : Conn) (r : Dir) (m : Message) → opens c (Sent e r m) ≡ true → is_opening c m ≡ true
opening_of c e Up m t =
    let P : Conn → Type 0 = λ y. is_opening y m ≡ true in subst P (sym (same_is c e (and_left (same_connection c e) (is_opening e m) t))) (and_right (same_connection c e) (is_opening e m) t)
opening_of c e Down m t = absurd cc

new_led : (c : Conn) (m : Message) (s n : Bool) → is_opening c m ≡ true → n ≡ not s → is_led c n (opened_with Up m s) ≡ true
new_led c m true n o e = not_false n e
new_led c m false n o e = o

behind_led : (c : Conn) (m : Message) (g k : Bool) (ms : List Message) → (g || is_led c k ms) ≡ true → (g || is_led c k (sent_behind k m ms)) ≡ true
behind_led c m true k ms t = refl
behind_led c m false true [] t = absurd cc
behind_led c m false true (x ∷ ms) t = t
behind_led c m false false ms t = t

sent_led : (c : Conn) (m : Message) (o q g k n : Bool) (new ms : List Message) → (o ≡ true → is_led c n new ≡ true) → (o ≡ false → n ≡ k) → (g || is_led c k ms) ≡ true
    → (g || is_led c n (if o then new else if q then sent_behind k m ms else ms)) ≡ true
sent_led c m true q g k n new ms f e t = or_right g (is_led c n new) (f refl)
sent_led c m false true g k n new ms f e t =
    let P : Bool → Type 0 = λ b. (g || is_led c b (sent_behind k m ms)) ≡ true in subst P (sym (e refl)) (behind_led c m g k ms t)
sent_led c m false false g k n new ms f e t = let P : Bool → Type 0 = λ b. (g || is_led c b ms) ≡ true in subst P (sym (e refl)) t

and_true : (k : Bool) → (k && true) ≡ k
and_true true = refl
and_true false = refl

and_false : (k : Bool) → (k && false) ≡ false
and_false true = refl
and_false false = refl

as_before : (c : Conn) (g k n : Bool) (ms : List Message) → n ≡ (k && true) → (g || is_led c k ms) ≡ true → (g || is_led c n ms) ≡ true
as_before c g k n ms e t = let P : Bool → Type 0 = λ b. (g || is_led c b ms) ≡ true in subst P (sym (e ∙ and_true k)) t

shut_led : (c : Conn) (g k n : Bool) → n ≡ (k && false) → (g || is_led c n []) ≡ true
shut_led c g k n e = or_right g (not n) (not_false n (e ∙ and_false k))

up_led : (c : Conn) (s p l g k n : Bool) (ms rest : List Message) → n ≡ (k && not (s && l)) → (s ≡ true → is_led c k ms ≡ true → p ≡ true) → (g || is_led c k ms) ≡ true
    → (((s && p) || g) || is_led c n (if not s then ms else rest)) ≡ true
up_led c true p l g k n ms rest e f t =
    or_case g (is_led c k ms) (λ a. or_left (p || g) (is_led c n rest) (or_right p g a)) (λ a. or_left (p || g) (is_led c n rest) (or_left p g (f refl a))) t
up_led c false p l g k n ms rest e f t = as_before c g k n ms e t

down_led : (c : Conn) (s l g k n : Bool) (ms : List Message) → n ≡ (k && not (s && not l)) → (g || is_led c k ms) ≡ true
    → (g || is_led c n (if not s then ms else if not l then [] else ms)) ≡ true
down_led c true true g k n ms e t = as_before c g k n ms e t
down_led c true false g k n ms e t = shut_led c g k n e
down_led c false l g k n ms e t = as_before c g k n ms e t

taken_led : (c : Conn) (g k n : Bool) (u : ℕ) (ms : List Message) → n ≡ (k && false) → (g || is_led c k ms) ≡ true → (g || is_led c n (take u ms)) ≡ true
taken_led c g k n zero ms e t = shut_led c g k n e
taken_led c g k n (suc u) [] e t = shut_led c g k n e
taken_led c g k n (suc u) (m ∷ ms) e t = t

cut_led : (c : Conn) (s g k n : Bool) (u : ℕ) (ms : List Message) → n ≡ (k && not s) → (g || is_led c k ms) ≡ true → (g || is_led c n (if s then take u ms else ms)) ≡ true
cut_led c true g k n u ms e t = taken_led c g k n u ms e t
cut_led c false g k n u ms e t = as_before c g k n ms e t

-- the next on the way opens the connection, where one that does is first
next_led : (c : Conn) (m : Message) (k : Bool) (ms : List Message) → is_next m ms → is_led c k ms ≡ true → is_opening c m ≡ true
next_led c m k [] n t = absurd n
next_led c m k (x ∷ ms) n t = let P : Message → Type 0 = λ y. is_opening c y ≡ true in subst P (sym n) t

next_opening : (c e : Conn) (m : Message) (k : Bool) (h : List Entry) → is_next m (in_transit e Up h) → same_connection c e ≡ true → is_led c k (in_transit c Up h) ≡ true → is_opening e m ≡ true
next_opening c e m k h n s t =
    let same : c ≡ e = same_is c e s in
    let P : Conn → Type 0 = λ y. is_led y k (in_transit y Up h) ≡ true in
    next_led e m k (in_transit e Up h) n (subst P same t)

led : (c : Conn) (h : List Entry) → WireRun h → (has (is_opening_got c) h || is_led c (is_open_wire c h) (in_transit c Up h)) ≡ true
led c [] w = refl
led c (Sent e r m ∷ h) w =
    let o = lost_since c h in
    sent_led c m (opens c (Sent e r m)) (same_connection c e && same_direction Up r) (has (is_opening_got c) h) (is_open_wire c h) (is_kept (lost_after c h (Sent e r m) o))
    (opened_with Up m (is_stopped h)) (in_transit c Up h)
    (λ t. new_led c m (is_stopped h) (is_kept (lost_after c h (Sent e r m) o)) (opening_of c e r m t) (open_opened c h (Sent e r m) o t))
    (λ t. open_after c h (Sent e r m) o t ∙ and_true (is_kept o)) (led c h w.1)
led c (Got e Up m ∷ h) w =
    let o = lost_since c h in
    up_led c (same_connection c e) (is_opening e m) (not (has_line e Up m)) (has (is_opening_got c) h) (is_open_wire c h) (is_kept (lost_after c h (Got e Up m) o)) (in_transit c Up h)
    (if not (has_line e Up m) then [] else without_first (in_transit c Up h))
    (open_after c h (Got e Up m) o refl) (next_opening c e m (is_open_wire c h) h w.0) (led c h w.1)
led c (Got e Down m ∷ h) w =
    let o = lost_since c h in
    down_led c (same_connection c e) (has_line e Down m) (has (is_opening_got c) h) (is_open_wire c h) (is_kept (lost_after c h (Got e Down m) o)) (in_transit c Up h)
    (open_after c h (Got e Down m) o refl) (led c h w.1)
led c (Cut e u v ∷ h) w =
    let o = lost_since c h in
    cut_led c (same_connection c e) (has (is_opening_got c) h) (is_open_wire c h) (is_kept (lost_after c h (Cut e u v) o)) u (in_transit c Up h) (open_after c h (Cut e u v) o refl) (led c h w.1)
led c (Stopped ∷ h) w =
    shut_led c (has (is_opening_got c) h) (is_open_wire c h) (is_kept (lost_after c h Stopped (lost_since c h))) (open_after c h Stopped (lost_since c h) refl)
led c (x ∷ h) w =
    as_before c (has (is_opening_got c) h) (is_open_wire c h) (is_kept (lost_after c h x (lost_since c h))) (in_transit c Up h) (open_after c h x (lost_since c h) refl) (led c h w.1)

-- a message comes upward after the one that opened the connection, or is it
pub led_got : (c : Conn) (m : Message) (h : List Entry) → WireRun h → MayCross h (Got c Up m) → (is_opening c m || has (is_opening_got c) h) ≡ true
led_got c m h w n =
    or_case (has (is_opening_got c) h) (is_led c (is_open_wire c h) (in_transit c Up h)) (λ t. or_right (is_opening c m) (has (is_opening_got c) h) t)
    (λ t. or_left (is_opening c m) (has (is_opening_got c) h) (next_led c m (is_open_wire c h) (in_transit c Up h) n t)) (led c h w)

first_here : (c : Conn) (p : Message → Bool) (x : Entry) (h : List Entry) → WireRun h → MayCross h x → is_got_on c Up p x ≡ true → (is_opening_got c x || has (is_opening_got c) h) ≡ true
first_here c p (Got e Up m) h w n t =
    let s = and_left (same_connection c e) true (and_left (same_connection c e && true) (p m) t) in
    let P : Conn → Type 0 = λ y. has (is_opening_got y) h ≡ true in
    or_case (is_opening e m) (has (is_opening_got e) h) (λ o. or_left (same_connection c e && is_opening e m) (has (is_opening_got c) h) (and_both (same_connection c e) (is_opening e m) s o))
    (λ g. or_right (same_connection c e && is_opening e m) (has (is_opening_got c) h) (subst P (sym (same_is c e s)) g)) (led_got e m h w n)
first_here c p (Got e Down m) h w n t = absurd (never (same_connection c e) (p m) t)
  where
    never : (a b : Bool) → (a && false && b) ≡ true → ⊥
    never true b k = absurd cc
    never false b k = absurd cc
first_here c p _ h w n t = absurd cc

-- where a message came upward, the one that opened the connection came
pub opening_came : (c : Conn) (p : Message → Bool) (h : List Entry) → WireRun h → has (is_got_on c Up p) h ≡ true → has (is_opening_got c) h ≡ true
opening_came c p [] w k = absurd cc
opening_came c p (x ∷ h) w k =
    or_case (is_got_on c Up p x) (has (is_got_on c Up p) h) (λ t. first_here c p x h w.1 w.0 t) (λ t. or_right (is_opening_got c x) (has (is_opening_got c) h) (opening_came c p h w.1 t)) k

-- What came was sent: the opening of a connection, and BEGUN before that of the voter's or an enlistment's.
pub opening_on : (c : Conn) (x : Entry) → is_opening_got c x ≡ true → is_got_on c Up (is_opening c) x ≡ true
opening_on c (Got e Up m) t =
    let s = and_left (same_connection c e) (is_opening e m) t in
    let P : Conn → Type 0 = λ y. is_opening y m ≡ true in
    and_both (same_connection c e && true) (is_opening c m) (and_both (same_connection c e) true s refl) (subst P (sym (same_is c e s)) (and_right (same_connection c e) (is_opening e m) t))
opening_on c _ t = absurd cc

pub sent_opens : (c : Conn) (x : Entry) → is_sent_on c Up (is_opening c) x ≡ true → opens c x ≡ true
sent_opens c (Sent e Up m) t =
    let s = and_left (same_connection c e) true (and_left (same_connection c e && true) (is_opening c m) t) in
    let P : Conn → Type 0 = λ y. is_opening y m ≡ true in
    and_both (same_connection c e) (is_opening e m) s (subst P (same_is c e s) (and_right (same_connection c e && true) (is_opening c m) t))
sent_opens c (Sent e Down m) t = absurd (never (same_connection c e) (is_opening c m) t)
  where
    never : (a b : Bool) → (a && false && b) ≡ true → ⊥
    never true b k = absurd cc
    never false b k = absurd cc
sent_opens c _ t = absurd cc

pub opening_was_sent : (c : Conn) (h : List Entry) → WireRun h → has (is_opening_got c) h ≡ true → has (opens c) h ≡ true
opening_was_sent c h w t =
    has_more (is_sent_on c Up (is_opening c)) (opens c) (sent_opens c) h (was_sent c Up (is_opening c) h w (has_more (is_opening_got c) (is_got_on c Up (is_opening c)) (opening_on c) h t))

-- The message that opens b, the voter's connection or an enlistment's: none is on the way but the first, and none once it came.
abbrev is_once : Conn → Bool → List Message → Bool
is_once c g ms = not (has (is_opening c) (if g then ms else without_first ms))

abbrev pub is_single : Conn → Bool
is_single Begin = true
is_single Voter = true
is_single (Enl e) = true
is_single _ = false

rest_none : (p : Message → Bool) (ms : List Message) → has p ms ≡ false → has p (without_first ms) ≡ false
rest_none p [] e = e
rest_none p (m ∷ ms) e = later (p m) (has p ms) e
  where
    later : (a b : Bool) → (a || b) ≡ false → b ≡ false
    later true b k = absurd cc
    later false b k = k

pub taken_none : (p : Message → Bool) (n : ℕ) (ms : List Message) → has p ms ≡ false → has p (take n ms) ≡ false
taken_none p zero ms e = refl
taken_none p (suc n) [] e = refl
taken_none p (suc n) (m ∷ ms) e = parts (p m) (has p ms) (has p (take n ms)) (λ k. taken_none p n ms k) e
  where
    parts : (a b c : Bool) → (b ≡ false → c ≡ false) → (a || b) ≡ false → (a || c) ≡ false
    parts true b c f k = absurd cc
    parts false b c f k = f k

rest_taken : (p : Message → Bool) (n : ℕ) (ms : List Message) → has p (without_first ms) ≡ false → has p (without_first (take n ms)) ≡ false
rest_taken p zero ms e = refl
rest_taken p (suc n) [] e = refl
rest_taken p (suc n) (m ∷ ms) e = taken_none p n ms e

pub behind_none : (p : Message → Bool) (m : Message) (ms : List Message) → p m ≡ false → has p ms ≡ false → has p (ms ++ m ∷ []) ≡ false
behind_none p m ms f e = has-behind p m ms ∙ or_false (p m) (has p ms) f e

rest_behind : (p : Message → Bool) (m : Message) (ms : List Message) → p m ≡ false → has p (without_first ms) ≡ false → has p (without_first (ms ++ m ∷ [])) ≡ false
rest_behind p m [] f e = refl
rest_behind p m (x ∷ ms) f e = behind_none p m ms f e

once_rest : (c : Conn) (g : Bool) (ms : List Message) → is_once c g ms ≡ true → has (is_opening c) (without_first ms) ≡ false
once_rest c true ms t = rest_none (is_opening c) ms (not_true (has (is_opening c) ms) t)
once_rest c false ms t = not_true (has (is_opening c) (without_first ms)) t

once_none : (c : Conn) (g : Bool) → is_once c g [] ≡ true
once_none c true = refl
once_none c false = refl

once_any : (c : Conn) (g : Bool) (ms : List Message) → has (is_opening c) ms ≡ false → is_once c g ms ≡ true
once_any c true ms e = not_false (has (is_opening c) ms) e
once_any c false ms e = not_false (has (is_opening c) (without_first ms)) (rest_none (is_opening c) ms e)

once_behind : (c : Conn) (g k : Bool) (m : Message) (ms : List Message) → is_opening c m ≡ false → is_once c g ms ≡ true → is_once c g (sent_behind k m ms) ≡ true
once_behind c g false m ms f t = t
once_behind c true true m ms f t = not_false (has (is_opening c) (ms ++ m ∷ [])) (behind_none (is_opening c) m ms f (not_true (has (is_opening c) ms) t))
once_behind c false true m ms f t =
    not_false (has (is_opening c) (without_first (ms ++ m ∷ []))) (rest_behind (is_opening c) m ms f (not_true (has (is_opening c) (without_first ms)) t))

once_new : (c : Conn) (g s : Bool) (m : Message) → g ≡ false → is_once c g (opened_with Up m s) ≡ true
once_new c true s m e = absurd cc
once_new c false true m e = refl
once_new c false false m e = refl

once_sent : (c : Conn) (o q g k s : Bool) (m : Message) (ms : List Message) → (o ≡ true → g ≡ false) → (o ≡ false → q ≡ true → is_opening c m ≡ false) → is_once c g ms ≡ true
    → is_once c g (if o then opened_with Up m s else if q then sent_behind k m ms else ms) ≡ true
once_sent c true q g k s m ms f e t = once_new c g s m (f refl)
once_sent c false true g k s m ms f e t = once_behind c g k m ms (e refl refl) t
once_sent c false false g k s m ms f e t = t

once_up : (c : Conn) (s p l g : Bool) (ms : List Message) → is_once c g ms ≡ true → is_once c ((s && p) || g) (if not s then ms else if not l then [] else without_first ms) ≡ true
once_up c false p l g ms t = t
once_up c true p false g ms t = once_none c (p || g)
once_up c true p true g ms t = once_any c (p || g) (without_first ms) (once_rest c g ms t)

once_down : (c : Conn) (s l g : Bool) (ms : List Message) → is_once c g ms ≡ true → is_once c g (if not s then ms else if not l then [] else ms) ≡ true
once_down c false l g ms t = t
once_down c true false g ms t = once_none c g
once_down c true true g ms t = t

once_cut : (c : Conn) (s g : Bool) (u : ℕ) (ms : List Message) → is_once c g ms ≡ true → is_once c g (if s then take u ms else ms) ≡ true
once_cut c false g u ms t = t
once_cut c true true u ms t = not_false (has (is_opening c) (take u ms)) (taken_none (is_opening c) u ms (not_true (has (is_opening c) ms) t))
once_cut c true false u ms t = not_false (has (is_opening c) (without_first (take u ms))) (rest_taken (is_opening c) u ms (not_true (has (is_opening c) (without_first ms)) t))

-- such a message is sent once
single_row : (c : Conn) (m : Message) (h : List Entry) → is_single c ≡ true → is_opening c m ≡ true → message_row h c m ≡ true → has (opens c) h ≡ false
single_row Begin BeginBegin h s o r = not_true (has (opens Begin) h) r
single_row Voter (VoterVoter u) h s o r = not_true (has (opens Voter) h) (and_right (has is_begun_got h) (not (has (opens Voter) h)) r)
single_row (Enl e) (EnlistEnlist i) h s o r = not_true (has (opens (Enl e)) h) (third_of_four (e.value == i.enl.value) (has is_begun_got h) (not (has (opens (Enl e)) h)) _ r)
single_row _ _ h s o r = absurd cc

opens_row : (c : Conn) (x : Entry) (h : List Entry) → is_single c ≡ true → rule h x ≡ true → opens c x ≡ true → has (opens c) h ≡ false
opens_row c (Sent e Up m) h s r t =
    let q = and_left (same_connection c e) (is_opening e m) t in
    let same : c ≡ e = same_is c e q in
    let P : Conn → Type 0 = λ y. is_single y ≡ true in
    let Q : Conn → Type 0 = λ y. has (opens y) h ≡ false in
    subst Q (sym same)
    (single_row e m h (subst P same s) (and_right (same_connection c e) (is_opening e m) t) (fourth_of_four (has_line e Up m) (has is_promoting h) (is_there h e Up m) (message_row h e m) r))
opens_row c (Sent e Down m) h s r t = absurd (never t)
  where
    never : false ≡ true → ⊥
    never e = absurd cc
opens_row c _ h s r t = absurd (never t)
  where
    never : false ≡ true → ⊥
    never e = absurd cc

not_got : (c : Conn) (h : List Entry) → WireRun h → has (opens c) h ≡ false → has (is_opening_got c) h ≡ false
not_got c h w e = false_from_ne_true (has (is_opening_got c) h) (λ t. not_both (has (opens c) h) (opening_was_sent c h w t) e)

no_opening : (c e : Conn) (r : Dir) (m : Message) → opens c (Sent e r m) ≡ false → (same_connection c e && same_direction Up r) ≡ true → is_opening c m ≡ false
no_opening c e Up m o t =
    let s = and_left (same_connection c e) true t in
    let P : Conn → Type 0 = λ y. is_opening y m ≡ false in
    subst P (sym (same_is c e s)) (by (same_connection c e) (is_opening e m) s o)
  where
    by : (a b : Bool) → a ≡ true → (a && b) ≡ false → b ≡ false
    by true b p q = q
    by false b p q = absurd cc
no_opening c e Down m o t = absurd (never (same_connection c e) t)
  where
    never : (a : Bool) → (a && false) ≡ true → ⊥
    never true k = absurd cc
    never false k = absurd cc

once : (c : Conn) (h : List Entry) → is_single c ≡ true → Keeps h → is_once c (has (is_opening_got c) h) (in_transit c Up h) ≡ true
once c [] s k = refl
once c (Sent e r m ∷ h) s k =
    once_sent c (opens c (Sent e r m)) (same_connection c e && same_direction Up r) (has (is_opening_got c) h) (is_open_wire c h) (is_stopped h) m (in_transit c Up h)
    (λ o. not_got c h k.wires.1 (opens_row c (Sent e r m) h s (newest (Sent e r m) h k) o)) (λ o q. no_opening c e r m o q) (once c h s (keeps_before (Sent e r m) h k))
once c (Got e Up m ∷ h) s k =
    once_up c (same_connection c e) (is_opening e m) (has_line e Up m) (has (is_opening_got c) h) (in_transit c Up h) (once c h s (keeps_before (Got e Up m) h k))
once c (Got e Down m ∷ h) s k =
    once_down c (same_connection c e) (has_line e Down m) (has (is_opening_got c) h) (in_transit c Up h) (once c h s (keeps_before (Got e Down m) h k))
once c (Cut e u v ∷ h) s k = once_cut c (same_connection c e) (has (is_opening_got c) h) u (in_transit c Up h) (once c h s (keeps_before (Cut e u v) h k))
once c (Stopped ∷ h) s k = once_none c (has (is_opening_got c) h)
once c (x ∷ h) s k = once c h s (keeps_before x h k)

pub next_stands : (p : Message → Bool) (m : Message) (ms : List Message) → is_next m ms → p m ≡ true → has p ms ≡ true
next_stands p m [] n t = absurd n
next_stands p m (x ∷ ms) n t = let P : Message → Type 0 = λ y. (p y || has p ms) ≡ true in subst P n (or_left (p m) (has p ms) t)

-- where it was got, none is on the way
pub none_again : (c : Conn) (h : List Entry) → is_single c ≡ true → Keeps h → has (is_opening_got c) h ≡ true → has (is_opening c) (in_transit c Up h) ≡ false
none_again c h s k g = by (has (is_opening_got c) h) (in_transit c Up h) (once c h s k) g
  where
    by : (g : Bool) (ms : List Message) → is_once c g ms ≡ true → g ≡ true → has (is_opening c) ms ≡ false
    by true ms t q = not_true (has (is_opening c) ms) t
    by false ms t q = absurd cc

-- so where VOTER comes, none came before
pub voter_new : (u : ℕ) (h : List Entry) → Keeps h → MayCross h (Got Voter Up (VoterVoter u)) → has (is_opening_got Voter) h ≡ false
voter_new u h k n =
    false_from_ne_true (has (is_opening_got Voter) h)
    (λ g. not_both (has (is_opening Voter) (in_transit Voter Up h)) (next_stands (is_opening Voter) (VoterVoter u) (in_transit Voter Up h) n refl) (none_again Voter h refl k g))
