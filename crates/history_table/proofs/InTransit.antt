-- On a connection no more messages of a kind are got, and are on the way, than were sent.
use Rattle.std.proofs.Common.{◌≡◌, ◌≤◌, ℕ, zero, suc, ◌+◌, Bool, true, false, ◌&&◌, List, [], ◌∷◌, ◌++◌, refl, sym, subst, arith}
use Rattle.std.specs.Prelude.{not, take, if◌then◌else◌}
use Rattle.dtx_values.specs.declared.entry.Entry.{Entry}
use Rattle.dtx_values.specs.declared.entry.Entry.TheVariants.{Cut, Got, Sent, Stopped}
use Rattle.dtx_values.specs.declared.message.Conn.{Conn}
use Rattle.dtx_values.specs.declared.message.Dir.{Dir}
use Rattle.dtx_values.specs.declared.message.Dir.TheVariants.{Up, Down}
use Rattle.dtx_values.specs.declared.message.Message.{Message}
use Rattle.dtx_values.specs.Ends.{same_connection, same_direction}
use Rattle.dtx_values.specs.Lines.{has_line, is_opening}
use Rattle.dtx_values.specs.Table.{how_many}
use Rattle.dtx_model.specs.Wires.{WireRun, in_transit, is_next, is_open_wire, is_stopped, kept, opened_with, opens, sent_behind, without_first}
use Rattle.dtx_model.proofs.Bools.{and_left}
use Rattle.history_table.proofs.Crossed.{is_got_on, is_sent_on}
use Rattle.dtx_model.proofs.Connections.{same_is, same_way_is}

-- one more, where it passes
abbrev one_if : Bool → ℕ
one_if b = if b then 1 else 0

last_more : (p : Message → Bool) (m : Message) (ms : List Message) → how_many p (ms ++ m ∷ []) ≤ how_many p ms + one_if (p m)
last_more p m [] = step (p m)
  where
    step : (b : Bool) → (if b then suc zero else zero) ≤ 0 + one_if b
    step true = omega arith
    step false = omega arith
last_more p m (n ∷ ms) = step (p n) (how_many p (ms ++ m ∷ [])) (how_many p ms) (one_if (p m)) (last_more p m ms)
  where
    step : (b : Bool) (u v w : ℕ) → u ≤ v + w → (if b then suc u else u) ≤ (if b then suc v else v) + w
    step true u v w k = omega (arith, k)
    step false u v w k = k

taken_fewer : (p : Message → Bool) (n : ℕ) (ms : List Message) → how_many p (take n ms) ≤ how_many p ms
taken_fewer p zero ms = omega arith
taken_fewer p (suc n) [] = omega arith
taken_fewer p (suc n) (m ∷ ms) = step (p m) (how_many p (take n ms)) (how_many p ms) (taken_fewer p n ms)
  where
    step : (b : Bool) (u v : ℕ) → u ≤ v → (if b then suc u else u) ≤ (if b then suc v else v)
    step true u v k = omega (arith, k)
    step false u v k = k

behind_more : (p : Message → Bool) (b : Bool) (m : Message) (ms : List Message) → how_many p (sent_behind b m ms) ≤ how_many p ms + one_if (p m)
behind_more p true m ms = last_more p m ms
behind_more p false m ms = omega arith

-- what a message that is sent leaves on the way
left_sent : (c e : Conn) (d r : Dir) (m : Message) (p : Message → Bool) (ms : List Message) (stop b o s : Bool) → opens c (Sent e r m) ≡ o → (same_connection c e && same_direction d r) ≡ s
    → how_many p (if o then opened_with d m stop else if s then sent_behind b m ms else ms) ≤ how_many p ms + one_if (s && p m)
left_sent c e d Down m p ms stop b true s f g = absurd cc
left_sent c e Down Up m p ms stop b true s f g = omega arith
left_sent c e Up Up m p ms true b true s f g = omega arith
left_sent c e Up Up m p ms false b true s f g = step s (p m) (how_many p ms) g (and_left (same_connection c e) (is_opening e m) f)
  where
    step : (s q : Bool) (t : ℕ) → (same_connection c e && true) ≡ s → same_connection c e ≡ true → (if q then suc zero else zero) ≤ t + one_if (s && q)
    step true true t g h = omega arith
    step true false t g h = omega arith
    step false q t g h = absurd cc
left_sent c e d r m p ms stop b false true f g = behind_more p b m ms
left_sent c e d r m p ms stop b false false f g = omega arith

sent_count : (b : Bool) (g t s v : ℕ) → g + t ≤ s → v ≤ t + one_if b → g + v ≤ (if b then suc s else s)
sent_count true g t s v h k = omega (arith, h, k)
sent_count false g t s v h k = omega (arith, h, k)

-- what is got was the next on the way
got_count : (p : Message → Bool) (m : Message) (g s : ℕ) (ms : List Message) → is_next m ms → g + how_many p ms ≤ s → (if p m then suc g else g) + how_many p (without_first ms) ≤ s
got_count p m g s [] n k = absurd n
got_count p m g s (x ∷ ms) n k = step (p m) (how_many p ms) (subst (λ z. g + (if p z then suc (how_many p ms) else how_many p ms) ≤ s) (sym n) k)
  where
    step : (b : Bool) (t : ℕ) → g + (if b then suc t else t) ≤ s → (if b then suc g else g) + t ≤ s
    step true t k = omega (arith, k)
    step false t k = k

less_left : (g t u s : ℕ) → g + t ≤ s → u ≤ t → g + u ≤ s
less_left g t u s h k = omega (arith, h, k)

got_all : (c e : Conn) (d r : Dir) (m : Message) (p : Message → Bool) (g s : ℕ) (ms : List Message) (a w l : Bool) → same_connection c e ≡ a → same_direction d r ≡ w → (a ≡ true → w ≡ true → is_next m ms)
    → g + how_many p ms ≤ s → (if a && w && p m then suc g else g) + how_many p (if not a then ms else if not l then [] else if w then without_first ms else ms) ≤ s
got_all c e d r m p g s ms false w l x y n k = k
got_all c e d r m p g s ms true true true x y n k = got_count p m g s ms (n refl refl) k
got_all c e d r m p g s ms true true false x y n k =
    less_left (if p m then suc g else g) (how_many p (without_first ms)) 0 s (got_count p m g s ms (n refl refl) k) (omega arith)
got_all c e d r m p g s ms true false true x y n k = k
got_all c e d r m p g s ms true false false x y n k = less_left g (how_many p ms) 0 s k (omega arith)

-- No more are got and on the way than were sent.
pub no_more : (c : Conn) (d : Dir) (p : Message → Bool) (h : List Entry) → WireRun h
    → how_many (is_got_on c d p) h + how_many p (in_transit c d h) ≤ how_many (is_sent_on c d p) h
no_more c d p [] w = omega arith
no_more c d p (Sent e r m ∷ h) w =
    sent_count (same_connection c e && same_direction d r && p m) (how_many (is_got_on c d p) h) (how_many p (in_transit c d h)) (how_many (is_sent_on c d p) h) _ (no_more c d p h w.1)
    (left_sent c e d r m p (in_transit c d h) (is_stopped h) (is_open_wire c h) (opens c (Sent e r m)) (same_connection c e && same_direction d r) refl refl)
no_more c d p (Got e r m ∷ h) w =
    got_all c e d r m p (how_many (is_got_on c d p) h) (how_many (is_sent_on c d p) h) (in_transit c d h) (same_connection c e) (same_direction d r) (has_line e r m) refl refl
    (λ a b. next a b) (no_more c d p h w.1)
  where
    next : same_connection c e ≡ true → same_direction d r ≡ true → is_next m (in_transit c d h)
    next a b =
        let conn : c ≡ e = same_is c e a in
        let way : d ≡ r = same_way_is d r b in
        let C : Conn → Type 0 = λ y. is_next m (in_transit y r h) in
        let D : Dir → Type 0 = λ y. is_next m (in_transit c y h) in
        subst D (sym way) (subst C (sym conn) w.0)
no_more c d p (Cut e u v ∷ h) w = step (no_more c d p h w.1) (same_connection c e)
  where
    step : how_many (is_got_on c d p) h + how_many p (in_transit c d h) ≤ how_many (is_sent_on c d p) h → (b : Bool)
        → how_many (is_got_on c d p) h + how_many p (if b then take (kept d u v) (in_transit c d h) else in_transit c d h) ≤ how_many (is_sent_on c d p) h
    step ih true =
        less_left (how_many (is_got_on c d p) h) (how_many p (in_transit c d h)) (how_many p (take (kept d u v) (in_transit c d h))) (how_many (is_sent_on c d p) h) ih
        (taken_fewer p (kept d u v) (in_transit c d h))
    step ih false = ih
no_more c Up p (Stopped ∷ h) w = less_left (how_many (is_got_on c Up p) h) (how_many p (in_transit c Up h)) 0 (how_many (is_sent_on c Up p) h) (no_more c Up p h w.1) (omega arith)
no_more c Down p (Stopped ∷ h) w = no_more c Down p h w.1
no_more c d p (x ∷ h) w = no_more c d p h w.1
