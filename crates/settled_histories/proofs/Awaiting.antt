-- Who came back and wasn't told since, and wasn't broken off: the connection of its reenlistment is open, and its REENLIST or an answer is on the way there, or it waits at the coordinator.
use Rattle.std.proofs.Common.{◌≡◌, ℕ, ◌==◌, Bool, true, false, ◌&&◌, ◌||◌, List, [], ◌∷◌, Option, Some, refl, ◌∙◌, ap, sym, subst}
use Rattle.std.specs.Prelude.{not, if◌then◌else◌}
use Rattle.std.proofs.lemmas.Bool.{eqb-true, or_left}
use Rattle.dtx_values.specs.declared.entry.Entry.{Entry}
use Rattle.dtx_values.specs.declared.entry.Entry.TheVariants.{Cut, Down as End, Got, Sent, Stopped}
use Rattle.dtx_values.specs.declared.message.Conn.{Conn}
use Rattle.dtx_values.specs.declared.message.Conn.TheVariants.{Begin, Voter, Enl, Again}
use Rattle.dtx_values.specs.declared.message.Dir.{Dir}
use Rattle.dtx_values.specs.declared.message.Dir.TheVariants.{Up, Down}
use Rattle.dtx_values.specs.declared.message.Message.{Message}
use Rattle.dtx_values.specs.declared.message.Message.TheVariants.{ReenlistReenlist}
use Rattle.dtx_values.specs.declared.number.EnlNo.{EnlNo}
use Rattle.dtx_values.specs.Ends.{order_of, same_connection, same_direction}
use Rattle.dtx_values.specs.Lines.{has_line, is_opening}
use Rattle.dtx_values.specs.Table.{enl_number, insert_by}
use Rattle.dtx_model.specs.Words.{has, holds}
use Rattle.dtx_model.specs.Entries.{is_told}
use Rattle.dtx_model.specs.Outcome.{is_empty}
use Rattle.dtx_model.specs.Learned.{breaks_off}
use Rattle.dtx_model.specs.Wires.{MayCross, in_transit, is_kept, is_lost_wire, is_next, is_open_wire, is_stopped, loses, lost_after, lost_since, opened_with, opens, sent_behind, without_first}
use Rattle.dtx_model.specs.Coordinated.{but, coordinate, follow, known_after, waits_after, without}
use Rattle.dtx_model.proofs.Bools.{and_both, and_left, and_never, and_right, not_both, not_false, not_true, or_case, or_right}
use Rattle.dtx_model.proofs.Connections.{same_is}
use Rattle.history_table.proofs.Lists.{has-insert}
use Rattle.history_table.proofs.Scans.{has_more}
use Rattle.history_table.proofs.Owned.{has_filter}
use Rattle.history_table.proofs.Keeping.{Keeps}
use Rattle.history_table.proofs.Sendings.{got_line}
use Rattle.settled_histories.proofs.Knowledge.{known_still}
use Rattle.history_table.proofs.EntryTests.{is_return}
use Rattle.settled_histories.proofs.CommonBlocks.{is_reenlist}

-- it came back, and was neither told nor broken off since
abbrev pub is_back : ℕ → List Entry → Bool
is_back e [] = false
is_back e (x ∷ h) = is_return e x || (is_back e h && (not (breaks_off e x) && not (is_told e x)))

-- the first of these is REENLIST
abbrev pub is_asking_back : List Message → Bool
is_asking_back [] = false
is_asking_back (m ∷ ms) = is_reenlist m

-- its REENLIST, or an answer, is on the way
abbrev pub is_underway : EnlNo → List Entry → Bool
is_underway e h = is_asking_back (in_transit (Again e) Up h) || not (is_empty (in_transit (Again e) Down h))

abbrev pub is_number : ℕ → EnlNo → Bool
is_number e f = e == f.value

-- the coordinator knows the connection of its reenlistment, and it waits there
abbrev pub is_waiting_there : EnlNo → List Entry → Bool
is_waiting_there e h = has (is_number e.value) (coordinate h).waits && has (same_connection (Again e)) (coordinate h).known

pub record IsAwaited (e : EnlNo) (h : List Entry) : Type 0 where
  pub opened : lost_since (Again e) h ≡ Some false
  pub way : (is_underway e h || is_waiting_there e h) ≡ true

-- the entry is no message that comes down to it
abbrev pub is_unheard : EnlNo → Entry → Bool
is_unheard e (Got c Down m) = not (same_connection (Again e) c)
is_unheard e _ = true

-- The connection stays open.
unlost : (e : EnlNo) (x : Entry) (h : List Entry) → Keeps (x ∷ h) → breaks_off e.value x ≡ false → loses (Again e) x ≡ false
unlost e Stopped h k b = absurd cc
unlost e (Cut Begin u w) h k b = refl
unlost e (Cut Voter u w) h k b = refl
unlost e (Cut (Enl f) u w) h k b = refl
unlost e (Cut (Again f) u w) h k b = b
unlost e (Got d r m) h k b = ap (λ l. same_connection (Again e) d && not l) (got_line d r m h k) ∙ and_never (same_connection (Again e) d)
unlost e _ h k b = refl

open_step : (b s l : Bool) → s ≡ false → l ≡ false → (if b then Some s else Some (false || l)) ≡ Some false
open_step true s l p q = ap (λ b. Some b) p
open_step false s l p q = ap (λ b. Some b) q

open_more : (e : EnlNo) (x : Entry) (h : List Entry) → Keeps (x ∷ h) → is_stopped h ≡ false → breaks_off e.value x ≡ false → lost_since (Again e) h ≡ Some false → lost_since (Again e) (x ∷ h) ≡ Some false
open_more e x h k s b o =
    let P : Option Bool → Type 0 = λ l. lost_after (Again e) h x l ≡ Some false in
    subst P (sym o) (open_step (opens (Again e) x) (is_stopped h) (loses (Again e) x) s (unlost e x h k b))

-- so no end of it is seen
pub endless : (e : EnlNo) (c : Conn) (d : Dir) (h : List Entry) → MayCross h (End c d) → lost_since (Again e) h ≡ Some false → same_connection (Again e) c ≡ false
endless e c d h w o = by (same_connection (Again e) c) refl
  where
    by : (b : Bool) → same_connection (Again e) c ≡ b → b ≡ false
    by false q = refl
    by true q =
        let P : Conn → Type 0 = λ y. is_lost_wire y h ≡ true in
        let lost : is_lost_wire (Again e) h ≡ true = subst P (sym (same_is (Again e) c q)) (and_left (is_lost_wire c h) _ (and_left (is_lost_wire c h && _) _ w)) in
        absurd (not_both (is_lost_wire (Again e) h) lost (ap holds o))

-- What opens it is REENLIST.
again_opening : (e : EnlNo) (d : Conn) (m : Message) → same_connection (Again e) d ≡ true → is_opening d m ≡ true → is_reenlist m ≡ true
again_opening e (Again f) (ReenlistReenlist i) s o = refl
again_opening e (Again f) _ s o = absurd cc
again_opening e Begin m s o = absurd cc
again_opening e Voter m s o = absurd cc
again_opening e (Enl f) m s o = absurd cc

reopens : (e : EnlNo) (d : Conn) (r : Dir) (m : Message) → opens (Again e) (Sent d r m) ≡ true → is_reenlist m ≡ true
reopens e d Up m t = again_opening e d m (and_left (same_connection (Again e) d) (is_opening d m) t) (and_right (same_connection (Again e) d) (is_opening d m) t)
reopens e d Down m t = absurd cc

-- One more message sent: o, it opens the connection; s and t, it goes there up, or down.
sent_underway : (o s t b stop : Bool) (m : Message) (us ds : List Message) → stop ≡ false → (o ≡ true → is_reenlist m ≡ true) → (is_asking_back us || not (is_empty ds)) ≡ true
    → (is_asking_back (if o then opened_with Up m stop else if s then sent_behind b m us else us) || not (is_empty (if o then opened_with Down m stop else if t then sent_behind b m ds else ds))) ≡ true
sent_underway true s t b true m us ds u f k = absurd cc
sent_underway true s t b false m us ds u f k = or_left (is_reenlist m) false (f refl)
sent_underway false s t b stop m us ds u f k =
    or_case (is_asking_back us) (not (is_empty ds))
    (λ a. or_left (is_asking_back (if s then sent_behind b m us else us)) (not (is_empty (if t then sent_behind b m ds else ds))) (first s b us a))
    (λ a. or_right (is_asking_back (if s then sent_behind b m us else us)) (not (is_empty (if t then sent_behind b m ds else ds))) (some t b ds a)) k
  where
    first : (s b : Bool) (us : List Message) → is_asking_back us ≡ true → is_asking_back (if s then sent_behind b m us else us) ≡ true
    first true true (x ∷ us) a = a
    first true true [] a = absurd cc
    first true false us a = a
    first false b us a = a

    some : (t b : Bool) (ds : List Message) → not (is_empty ds) ≡ true → not (is_empty (if t then sent_behind b m ds else ds)) ≡ true
    some true true (x ∷ ds) a = refl
    some true true [] a = absurd cc
    some true false ds a = a
    some false b ds a = a

-- a cut of another connection
cut_apart : (e : EnlNo) (c : Conn) (u w : ℕ) → breaks_off e.value (Cut c u w) ≡ false → same_connection (Again e) c ≡ false
cut_apart e Begin u w b = refl
cut_apart e Voter u w b = refl
cut_apart e (Enl f) u w b = refl
cut_apart e (Again f) u w b = b

-- an entry that is no message got on it leaves what is on the way
pub underway_more : (e : EnlNo) (x : Entry) (h : List Entry) → is_stopped h ≡ false → breaks_off e.value x ≡ false → ((c : Conn) (d : Dir) (m : Message) → x ≡ Got c d m → same_connection (Again e) c ≡ false)
    → is_underway e h ≡ true → is_underway e (x ∷ h) ≡ true
underway_more e (Sent d r m) h s b f k =
    sent_underway (opens (Again e) (Sent d r m)) (same_connection (Again e) d && same_direction Up r) (same_connection (Again e) d && same_direction Down r) (is_open_wire (Again e) h) (is_stopped h) m
    (in_transit (Again e) Up h) (in_transit (Again e) Down h) s (reopens e d r m) k
underway_more e (Got c d m) h s b f k = rw (f c d m refl) k
underway_more e (Cut c u w) h s b f k = rw (cut_apart e c u w b) k
underway_more e Stopped h s b f k = absurd cc
underway_more e _ h s b f k = k

-- what is sent to it is on the way
pub sent_goes : (e : EnlNo) (c : Conn) (m : Message) (h : List Entry) → lost_since (Again e) h ≡ Some false → same_connection (Again e) c ≡ true → is_underway e (Sent c Down m ∷ h) ≡ true
sent_goes e c m h o q =
    or_right (is_asking_back (in_transit (Again e) Up (Sent c Down m ∷ h))) (not (is_empty (in_transit (Again e) Down (Sent c Down m ∷ h))))
    (by (same_connection (Again e) c) (is_open_wire (Again e) h) (in_transit (Again e) Down h) q (ap is_kept o))
  where
    by : (s b : Bool) (ms : List Message) → s ≡ true → b ≡ true → not (is_empty (if s && true then sent_behind b m ms else ms)) ≡ true
    by true true [] p r = refl
    by true true (x ∷ ms) p r = refl
    by true false ms p r = absurd cc
    by false b ms p r = absurd cc

-- Who waits goes on waiting, unless it is answered.
but_kept : (e f : ℕ) (ws : List EnlNo) → (e == f) ≡ false → has (is_number e) ws ≡ true → has (is_number e) (but f ws) ≡ true
but_kept e f ws n k =
    has_filter (is_number e) (λ g. not (f == g.value)) ws
    ∙ has_more (is_number e) (λ g. is_number e g && not (f == g.value)) (λ g t. and_both (is_number e g) (not (f == g.value)) t (not_false (f == g.value) (apart g t))) ws k
  where
    apart : (g : EnlNo) → is_number e g ≡ true → (f == g.value) ≡ false
    apart g t = by (f == g.value) refl
      where
        by : (b : Bool) → (f == g.value) ≡ b → b ≡ false
        by false q = refl
        by true q =
            let P : ℕ → Type 0 = λ n. (e == n) ≡ true in
            absurd (not_both (e == f) (subst P (sym (eqb-true f g.value q)) t) n)

-- one that comes back is put among those that wait
insert_waits : (e : ℕ) (f : EnlNo) (ws : List EnlNo) → ((e == f.value) || has (is_number e) ws) ≡ true → has (is_number e) (insert_by enl_number f (but f.value ws)) ≡ true
insert_waits e f ws k = has-insert (is_number e) enl_number f (but f.value ws) ∙ by (e == f.value) refl k
  where
    by : (b : Bool) → (e == f.value) ≡ b → (b || has (is_number e) ws) ≡ true → (b || has (is_number e) (but f.value ws)) ≡ true
    by true q k = refl
    by false q k = but_kept e f.value ws q k

got_waits : (e : EnlNo) (f : EnlNo) (m : Message) (ws : List EnlNo) → has_line (Again f) Up m ≡ true → has (is_number e.value) ws ≡ true → has (is_number e.value) (waits_after (Got (Again f) Up m) ws) ≡ true
got_waits e f (ReenlistReenlist i) ws l k = insert_waits e.value f ws (or_right (e.value == f.value) (has (is_number e.value) ws) k)
got_waits e f m ws l k = line (has_line (Again f) Up m) l
  where
    line : (b : Bool) → b ≡ true → has (is_number e.value) (if b then ws else but f.value ws) ≡ true
    line true q = k
    line false q = absurd cc

waits_more : (e : EnlNo) (x : Entry) (h : List Entry) → Keeps (x ∷ h) → breaks_off e.value x ≡ false → lost_since (Again e) h ≡ Some false → ((c : Conn) (m : Message) → x ≡ Sent c Down m → same_connection (Again e) c ≡ false)
    → (ws : List EnlNo) → has (is_number e.value) ws ≡ true → has (is_number e.value) (waits_after x ws) ≡ true
waits_more e (Got (Again f) Up m) h k b o g ws t = got_waits e f m ws (got_line (Again f) Up m h k) t
waits_more e (Sent (Again f) Down m) h k b o g ws t = but_kept e.value f.value ws (g (Again f) m refl) t
waits_more e (End (Again f) Up) h k b o g ws t = but_kept e.value f.value ws (endless e (Again f) Up h k.wires.0 o) t
waits_more e Stopped h k b o g ws t = absurd cc
waits_more e _ h k b o g ws t = t

without_kept : (c d : Conn) (cs : List Conn) → same_connection c d ≡ false → has (same_connection c) cs ≡ true → has (same_connection c) (without d cs) ≡ true
without_kept c d cs n k =
    has_filter (same_connection c) (λ x. not (same_connection d x)) cs
    ∙ has_more (same_connection c) (λ x. same_connection c x && not (same_connection d x)) (λ x t. and_both (same_connection c x) (not (same_connection d x)) t (not_false (same_connection d x) (apart x t))) cs k
  where
    apart : (x : Conn) → same_connection c x ≡ true → same_connection d x ≡ false
    apart x t = by (same_connection d x) refl
      where
        by : (b : Bool) → same_connection d x ≡ b → b ≡ false
        by false q = refl
        by true q =
            let P : Conn → Type 0 = λ y. same_connection c y ≡ true in
            absurd (not_both (same_connection c d) (subst P (sym (same_is d x q)) t) n)

knows_more : (e : EnlNo) (x : Entry) (h : List Entry) → Keeps (x ∷ h) → breaks_off e.value x ≡ false → lost_since (Again e) h ≡ Some false → (cs : List Conn) → has (same_connection (Again e)) cs ≡ true
    → has (same_connection (Again e)) (known_after x cs) ≡ true
knows_more e (Got c Up m) h k b o cs t = line (has_line c Up m) (is_opening c m) (got_line c Up m h k)
  where
    line : (l p : Bool) → l ≡ true → has (same_connection (Again e)) (if not l then without c cs else if p then insert_by order_of c (without c cs) else cs) ≡ true
    line true true q = known_still (Again e) c cs t
    line true false q = t
    line false p q = absurd cc
knows_more e (End c Up) h k b o cs t = without_kept (Again e) c cs (endless e c Up h k.wires.0 o) t
knows_more e Stopped h k b o cs t = absurd cc
knows_more e _ h k b o cs t = t

waiting_more : (e : EnlNo) (x : Entry) (h : List Entry) → Keeps (x ∷ h) → breaks_off e.value x ≡ false → lost_since (Again e) h ≡ Some false → ((c : Conn) (m : Message) → x ≡ Sent c Down m → same_connection (Again e) c ≡ false)
    → is_waiting_there e h ≡ true → is_waiting_there e (x ∷ h) ≡ true
unfolding coordinate follow
waiting_more e x h k b o g t =
    let waits = has (is_number e.value) (coordinate h).waits in
    let known = has (same_connection (Again e)) (coordinate h).known in
    and_both (has (is_number e.value) (waits_after x (coordinate h).waits)) (has (same_connection (Again e)) (known_after x (coordinate h).known))
    (waits_more e x h k b o g (coordinate h).waits (and_left waits known t)) (knows_more e x h k b o (coordinate h).known (and_right waits known t))

-- A message that comes up on it: its REENLIST, which makes it wait, or another.
asked_waits : (e f : EnlNo) (m : Message) (h : List Entry) → (e.value == f.value) ≡ true → is_reenlist m ≡ true → is_waiting_there e (Got (Again f) Up m ∷ h) ≡ true
unfolding coordinate follow
asked_waits e f (ReenlistReenlist i) h q t =
    and_both (has (is_number e.value) (insert_by enl_number f (but f.value (coordinate h).waits))) (has (same_connection (Again e)) (insert_by order_of (Again f) (without (Again f) (coordinate h).known)))
    (insert_waits e.value f (coordinate h).waits (or_left (e.value == f.value) (has (is_number e.value) (coordinate h).waits) q))
    (has-insert (same_connection (Again e)) order_of (Again f) (without (Again f) (coordinate h).known) ∙ or_left (e.value == f.value) (has (same_connection (Again e)) (without (Again f) (coordinate h).known)) q)
asked_waits e f _ h q t = absurd cc

pub next_asks : (m : Message) (ms : List Message) → is_next m ms → is_asking_back ms ≡ true → is_reenlist m ≡ true
next_asks m [] n k = absurd n
next_asks m (x ∷ ms) n k = let P : Message → Type 0 = λ y. is_reenlist y ≡ true in subst P (sym n) k

pub own_next : (e f : EnlNo) (m : Message) (h : List Entry) → Keeps (Got (Again f) Up m ∷ h) → (e.value == f.value) ≡ true → is_next m (in_transit (Again e) Up h)
own_next e f m h k q = let P : Conn → Type 0 = λ y. is_next m (in_transit y Up h) in subst P (sym (same_is (Again e) (Again f) q)) k.wires.0

pub own_down : (e f : EnlNo) (m : Message) (h : List Entry) → Keeps (Got (Again f) Up m ∷ h) → not (is_empty (in_transit (Again e) Down h)) ≡ true → is_underway e (Got (Again f) Up m ∷ h) ≡ true
own_down e f m h k t =
    or_right (is_asking_back (in_transit (Again e) Up (Got (Again f) Up m ∷ h))) (not (is_empty (in_transit (Again e) Down (Got (Again f) Up m ∷ h))))
    (down (same_connection (Again e) (Again f)) (has_line (Again f) Up m) (got_line (Again f) Up m h k) t)
  where
    down : (s l : Bool) → l ≡ true → not (is_empty (in_transit (Again e) Down h)) ≡ true
        → not (is_empty (if not s then in_transit (Again e) Down h else if not l then [] else if false then without_first (in_transit (Again e) Down h) else in_transit (Again e) Down h)) ≡ true
    down false l p a = a
    down true true p a = a
    down true false p a = absurd cc

got_own : (e f : EnlNo) (m : Message) (h : List Entry) → Keeps (Got (Again f) Up m ∷ h) → lost_since (Again e) h ≡ Some false → (e.value == f.value) ≡ true → (is_underway e h || is_waiting_there e h) ≡ true
    → (is_underway e (Got (Again f) Up m ∷ h) || is_waiting_there e (Got (Again f) Up m ∷ h)) ≡ true
got_own e f m h k o q w =
    let x = Got (Again f) Up m in
    or_case (is_underway e h) (is_waiting_there e h)
    (λ t. or_case (is_asking_back (in_transit (Again e) Up h)) (not (is_empty (in_transit (Again e) Down h)))
    (λ a. or_right (is_underway e (x ∷ h)) (is_waiting_there e (x ∷ h)) (asked_waits e f m h q (next_asks m (in_transit (Again e) Up h) (own_next e f m h k q) a)))
    (λ a. or_left (is_underway e (x ∷ h)) (is_waiting_there e (x ∷ h)) (own_down e f m h k a)) t)
    (λ t. or_right (is_underway e (x ∷ h)) (is_waiting_there e (x ∷ h)) (waiting_more e x h k refl o (λ c n s. absurd cc) t)) w

-- One more entry.
way_other : (e : EnlNo) (x : Entry) (h : List Entry) → Keeps (x ∷ h) → is_stopped h ≡ false → breaks_off e.value x ≡ false → ((c : Conn) (d : Dir) (m : Message) → x ≡ Got c d m → same_connection (Again e) c ≡ false)
    → ((c : Conn) (m : Message) → x ≡ Sent c Down m → same_connection (Again e) c ≡ false) → IsAwaited e h → (is_underway e (x ∷ h) || is_waiting_there e (x ∷ h)) ≡ true
way_other e x h k s b f g a =
    or_case (is_underway e h) (is_waiting_there e h) (λ t. or_left (is_underway e (x ∷ h)) (is_waiting_there e (x ∷ h)) (underway_more e x h s b f t))
    (λ t. or_right (is_underway e (x ∷ h)) (is_waiting_there e (x ∷ h)) (waiting_more e x h k b a.opened g t)) a.way

way_more : (e : EnlNo) (x : Entry) (h : List Entry) → Keeps (x ∷ h) → is_stopped h ≡ false → is_unheard e x ≡ true → breaks_off e.value x ≡ false → IsAwaited e h → (is_underway e (x ∷ h) || is_waiting_there e (x ∷ h)) ≡ true
way_more e (Sent c Down m) h k s n b a = by (same_connection (Again e) c) refl
  where
    by : (q : Bool) → same_connection (Again e) c ≡ q → (is_underway e (Sent c Down m ∷ h) || is_waiting_there e (Sent c Down m ∷ h)) ≡ true
    by true q = or_left (is_underway e (Sent c Down m ∷ h)) (is_waiting_there e (Sent c Down m ∷ h)) (sent_goes e c m h a.opened q)
    by false q = way_other e (Sent c Down m) h k s b (λ d r p t. absurd cc) (λ d p t. other d p t) a
      where
        other : (d : Conn) (p : Message) → Sent c Down m ≡ Sent d Down p → same_connection (Again e) d ≡ false
        other d p t = let same : c ≡ d = cc in let P : Conn → Type 0 = λ y. same_connection (Again e) y ≡ false in subst P same q
way_more e (Got c d m) h k s n b a = by c d (same_connection (Again e) c) refl n k
  where
    by : (c : Conn) (d : Dir) (q : Bool) → same_connection (Again e) c ≡ q → is_unheard e (Got c d m) ≡ true → Keeps (Got c d m ∷ h) → (is_underway e (Got c d m ∷ h) || is_waiting_there e (Got c d m ∷ h)) ≡ true
    by (Again f) Up true q n k = got_own e f m h k a.opened q a.way
    by (Again f) Down true q n k = absurd (not_both (same_connection (Again e) (Again f)) q (not_true (same_connection (Again e) (Again f)) n))
    by Begin d true q n k = absurd cc
    by Voter d true q n k = absurd cc
    by (Enl f) d true q n k = absurd cc
    by c d false q n k = way_other e (Got c d m) h k s refl (λ y r p t. other y r p t) (λ y p t. absurd cc) a
      where
        other : (y : Conn) (r : Dir) (p : Message) → Got c d m ≡ Got y r p → same_connection (Again e) y ≡ false
        other y r p t = let same : c ≡ y = cc in let P : Conn → Type 0 = λ z. same_connection (Again e) z ≡ false in subst P same q
way_more e x h k s n b a = way_other e x h k s b (λ d r p t. absurd cc) (λ d p t. absurd cc) a

-- it stays so with each entry but a message that comes down to it
pub awaited_more : (e : EnlNo) (x : Entry) (h : List Entry) → Keeps (x ∷ h) → is_stopped h ≡ false → is_unheard e x ≡ true → breaks_off e.value x ≡ false → IsAwaited e h → IsAwaited e (x ∷ h)
awaited_more e x h k s n b a = record { opened = open_more e x h k s b a.opened; way = way_more e x h k s n b a }
