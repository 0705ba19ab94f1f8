-- A message that is sent once on a connection is got once there.
use Rattle.std.proofs.Common.{◌≡◌, ℕ, zero, suc, Bool, true, false, ◌&&◌, ◌||◌, List, [], ◌∷◌, ◌++◌, refl, sym, subst, ap, ◌∙◌}
use Rattle.std.specs.Prelude.{not, take, if◌then◌else◌}
use Rattle.std.proofs.lemmas.Bool.{false_from_ne_true}
use Rattle.dtx_values.specs.declared.entry.Entry.{Entry}
use Rattle.dtx_values.specs.declared.entry.Entry.TheVariants.{Cut, Got, Sent, Stopped}
use Rattle.dtx_values.specs.declared.message.Conn.{Conn}
use Rattle.dtx_values.specs.declared.message.Dir.{Dir}
use Rattle.dtx_values.specs.declared.message.Dir.TheVariants.{Up, Down}
use Rattle.dtx_values.specs.declared.message.Message.{Message}
use Rattle.dtx_values.specs.Ends.{same_connection, same_direction}
use Rattle.dtx_values.specs.Lines.{has_line, is_opening}
use Rattle.dtx_model.specs.Words.{always, has}
use Rattle.dtx_model.specs.Wires.{MayCross, WireRun, in_transit, is_next, is_open_wire, is_stopped, kept, opened_with, opens, sent_behind, transit_after_stop, without_first}
use Rattle.dtx_model.proofs.Bools.{and_left, and_right, not_both, not_false, not_true, or_case, or_false}
use Rattle.history_table.proofs.Crossed.{came, is_got_on, is_sent_on, was_sent}
use Rattle.history_table.proofs.Leading.{opening_of, next_stands, behind_none, taken_none}
use Rattle.dtx_model.proofs.Connections.{same_is, same_way_is}

-- none that passes was sent there before
abbrev pub is_first_sent : Conn → Dir → (Message → Bool) → List Entry → Entry → Bool
is_first_sent c d p h x = not (is_sent_on c d p x) || not (has (is_sent_on c d p) h)

-- Of the messages that pass at most one is on the way, and none once one was got.
abbrev is_one : (Message → Bool) → List Message → Bool
is_one p [] = true
is_one p (m ∷ ms) = if p m then not (has p ms) else is_one p ms

none_one : (p : Message → Bool) → (ms : List Message) → has p ms ≡ false → is_one p ms ≡ true
none_one p [] e = refl
none_one p (m ∷ ms) e = step (p m) e (none_one p ms)
  where
    step : (b : Bool) → (b || has p ms) ≡ false → (has p ms ≡ false → is_one p ms ≡ true) → (if b then not (has p ms) else is_one p ms) ≡ true
    step true e f = absurd cc
    step false e f = f e

one_rest : (p : Message → Bool) → (m : Message) (ms : List Message) → is_one p (m ∷ ms) ≡ true → is_one p ms ≡ true
one_rest p m ms t = step (p m) t
  where
    step : (b : Bool) → (if b then not (has p ms) else is_one p ms) ≡ true → is_one p ms ≡ true
    step true t = none_one p ms (not_true (has p ms) t)
    step false t = t

one_other : (p : Message → Bool) → (m : Message) (ms : List Message) → p m ≡ false → is_one p ms ≡ true → is_one p (ms ++ m ∷ []) ≡ true
one_other p m [] f t = rw f refl
one_other p m (x ∷ ms) f t = step (p x) t (one_other p m ms f)
  where
    step : (b : Bool) → (if b then not (has p ms) else is_one p ms) ≡ true → (is_one p ms ≡ true → is_one p (ms ++ m ∷ []) ≡ true) → (if b then not (has p (ms ++ m ∷ [])) else is_one p (ms ++ m ∷ [])) ≡ true
    step true t g = not_false (has p (ms ++ m ∷ [])) (behind_none p m ms f (not_true (has p ms) t))
    step false t g = g t

one_new : (p : Message → Bool) → (m : Message) (ms : List Message) → has p ms ≡ false → is_one p (ms ++ m ∷ []) ≡ true
one_new p m [] e = by (p m)
  where
    by : (b : Bool) → (if b then true else true) ≡ true
    by true = refl
    by false = refl
one_new p m (x ∷ ms) e = step (p x) e (one_new p m ms)
  where
    step : (b : Bool) → (b || has p ms) ≡ false → (has p ms ≡ false → is_one p (ms ++ m ∷ []) ≡ true) → (if b then not (has p (ms ++ m ∷ [])) else is_one p (ms ++ m ∷ [])) ≡ true
    step true e g = absurd cc
    step false e g = g e

taken_one : (p : Message → Bool) → (n : ℕ) (ms : List Message) → is_one p ms ≡ true → is_one p (take n ms) ≡ true
taken_one p zero ms t = refl
taken_one p (suc n) [] t = refl
taken_one p (suc n) (m ∷ ms) t = step (p m) t (taken_one p n ms)
  where
    step : (b : Bool) → (if b then not (has p ms) else is_one p ms) ≡ true → (is_one p ms ≡ true → is_one p (take n ms) ≡ true) → (if b then not (has p (take n ms)) else is_one p (take n ms)) ≡ true
    step true t f = not_false (has p (take n ms)) (taken_none p n ms (not_true (has p ms) t))
    step false t f = f t

-- so it stands: what was got, and what is on the way
pub record IsOnce (p : Message → Bool) (g : Bool) (ms : List Message) : Type 0 where
  pub none : g ≡ true → has p ms ≡ false
  pub one : is_one p ms ≡ true

o_none : (p : Message → Bool) → (g : Bool) → IsOnce p g []
o_none p g = record { none = λ t. refl; one = refl }

o_sent : (p : Message → Bool) → (g o q k : Bool) (m : Message) (ms : List Message) → (p m ≡ true → q ≡ true → (g ≡ false) × (has p ms ≡ false)) → IsOnce p g ms
    → IsOnce p g (if o then [] else if q then sent_behind k m ms else ms)
o_sent p g true q k m ms f i = o_none p g
o_sent p g false false k m ms f i = i
o_sent p g false true false m ms f i = i
o_sent p g false true true m ms f i = by (p m) refl
  where
    by : (b : Bool) → p m ≡ b → IsOnce p g (ms ++ m ∷ [])
    by true e = let w = f e refl in record { none = λ t. absurd (not_both g t w.0); one = one_new p m ms w.1 }
    by false e = record { none = λ t. behind_none p m ms e (i.none t); one = one_other p m ms e i.one }

o_rest : (p : Message → Bool) → (g y : Bool) (m : Message) (ms : List Message) → is_next m ms → y ≡ p m → IsOnce p g ms → IsOnce p (y || g) (without_first ms)
o_rest p g y m [] n e i = absurd n
o_rest p g y m (x ∷ ms) n e i = record { none = by (p x) refl; one = one_rest p x ms i.one }
  where
    by : (b : Bool) → p x ≡ b → (y || g) ≡ true → has p ms ≡ false
    by true q t = first (p x) q i.one
      where
        first : (c : Bool) → c ≡ true → (if c then not (has p ms) else is_one p ms) ≡ true → has p ms ≡ false
        first true r t = not_true (has p ms) t
        first false r t = absurd cc
    by false q t =
        let same : y ≡ false = e ∙ ap p n ∙ q in
        or_case y g (λ a. absurd (not_both y a same)) (λ a. later (p x) (has p ms) (i.none a)) t
      where
        later : (a b : Bool) → (a || b) ≡ false → b ≡ false
        later true b k = absurd cc
        later false b k = k

o_opened : (p : Message → Bool) → (g : Bool) (d : Dir) (m : Message) (s : Bool) → p m ≡ false → IsOnce p g (opened_with d m s)
o_opened p g Up m true f = o_none p g
o_opened p g Up m false f = record { none = λ t. or_false (p m) false f refl; one = by (p m) f }
  where
    by : (b : Bool) → b ≡ false → (if b then true else true) ≡ true
    by true e = refl
    by false e = refl
o_opened p g Down m s f = o_none p g

o_sends : (p : Message → Bool) → (g o q k s : Bool) (d : Dir) (m : Message) (ms : List Message) → (o ≡ true → p m ≡ false) → (p m ≡ true → q ≡ true → (g ≡ false) × (has p ms ≡ false)) → IsOnce p g ms
    → IsOnce p g (if o then opened_with d m s else if q then sent_behind k m ms else ms)
o_sends p g true q k s d m ms e f i = o_opened p g d m s (e refl)
o_sends p g false q k s d m ms e f i = o_sent p g false q k m ms f i

o_got : (p : Message → Bool) → (g s b l : Bool) (m : Message) (ms : List Message) → (s ≡ true → b ≡ true → is_next m ms) → IsOnce p g ms
    → IsOnce p ((s && b && p m) || g) (if not s then ms else if not l then [] else if b then without_first ms else ms)
o_got p g false b l m ms n i = i
o_got p g true b false m ms n i = o_none p ((b && p m) || g)
o_got p g true true true m ms n i = o_rest p g (p m) m ms (n refl refl) refl i
o_got p g true false true m ms n i = i

o_cut : (p : Message → Bool) → (g s : Bool) (n : ℕ) (ms : List Message) → IsOnce p g ms → IsOnce p g (if s then take n ms else ms)
o_cut p g false n ms i = i
o_cut p g true n ms i = record { none = λ t. taken_none p n ms (i.none t); one = taken_one p n ms i.one }

o_stop : (p : Message → Bool) → (g : Bool) (d : Dir) (ms : List Message) → IsOnce p g ms → IsOnce p g (transit_after_stop d ms)
o_stop p g Up ms i = o_none p g
o_stop p g Down ms i = i

unsent : (c e : Conn) (d r : Dir) (p : Message → Bool) (m : Message) (h : List Entry) → WireRun h → is_first_sent c d p h (Sent e r m) ≡ true → p m ≡ true → (same_connection c e && same_direction d r) ≡ true
    → (has (is_got_on c d p) h ≡ false) × (has p (in_transit c d h) ≡ false)
unsent c e d r p m h w f t q =
    let here : is_sent_on c d p (Sent e r m) ≡ true = both (same_connection c e && same_direction d r) (p m) q t in
    let none = not_true (has (is_sent_on c d p) h) (or_case (not (is_sent_on c d p (Sent e r m))) (not (has (is_sent_on c d p) h)) (λ a. absurd (not_both (is_sent_on c d p (Sent e r m)) here (not_true (is_sent_on c d p (Sent e r m)) a))) (λ a. a) f) in (
      false_from_ne_true (has (is_got_on c d p) h) (λ a. not_both (has (is_sent_on c d p) h) (was_sent c d p h w a) none),
      false_from_ne_true (has p (in_transit c d h)) (λ a. not_both (has (is_sent_on c d p) h) (came c d p h a) none),
    )
  where
    both : (a b : Bool) → a ≡ true → b ≡ true → (a && b) ≡ true
    both true b p q = q
    both false b p q = absurd cc

pub got_once : (c : Conn) (d : Dir) (p : Message → Bool) → ((m : Message) → is_opening c m ≡ true → p m ≡ false) → (h : List Entry) → WireRun h → always (is_first_sent c d p) h ≡ true
    → IsOnce p (has (is_got_on c d p) h) (in_transit c d h)
got_once c d p f [] w a = o_none p false
got_once c d p f (Sent e r m ∷ h) w a =
    o_sends p (has (is_got_on c d p) h) (opens c (Sent e r m)) (same_connection c e && same_direction d r) (is_open_wire c h) (is_stopped h) d m (in_transit c d h) (λ o. f m (opening_of c e r m o))
    (λ t q. unsent c e d r p m h w.1 (and_left (is_first_sent c d p h (Sent e r m)) (always (is_first_sent c d p) h) a) t q)
    (got_once c d p f h w.1 (and_right (is_first_sent c d p h (Sent e r m)) (always (is_first_sent c d p) h) a))
got_once c d p f (Got e r m ∷ h) w a =
    o_got p (has (is_got_on c d p) h) (same_connection c e) (same_direction d r) (has_line e r m) m (in_transit c d h)
    (λ s b. let N : Conn → Type 0 = λ y. is_next m (in_transit y d h) in
    let D : Dir → Type 0 = λ y. is_next m (in_transit e y h) in
    subst N (sym (same_is c e s)) (subst D (sym (same_way_is d r b)) w.0)) (got_once c d p f h w.1 a)
got_once c d p f (Cut e u v ∷ h) w a = o_cut p (has (is_got_on c d p) h) (same_connection c e) (kept d u v) (in_transit c d h) (got_once c d p f h w.1 a)
got_once c d p f (Stopped ∷ h) w a = o_stop p (has (is_got_on c d p) h) d (in_transit c d h) (got_once c d p f h w.1 a)
got_once c d p f (x ∷ h) w a = got_once c d p f h w.1 a

-- so where it comes, none came before
pub first_got : (c : Conn) (d : Dir) (p : Message → Bool) (m : Message) → ((n : Message) → is_opening c n ≡ true → p n ≡ false) → p m ≡ true → (h : List Entry) → WireRun h → always (is_first_sent c d p) h ≡ true
    → MayCross h (Got c d m) → has (is_got_on c d p) h ≡ false
first_got c d p m f t h w a n =
    let i = got_once c d p f h w a in
    false_from_ne_true (has (is_got_on c d p) h) (λ g. not_both (has p (in_transit c d h)) (next_stands p m (in_transit c d h) n t) (i.none g))
