-- The loss of an enlistment with open connections: each of them is cut, and what the others have on the way stays.
use Rattle.std.proofs.Common.{◌≡◌, ◌≢◌, ◌≤◌, ◌∙◌, ℕ, suc, Bool, true, false, ◌&&◌, ◌||◌, not, List, [], ◌∷◌, ◌++◌, length, take, map, min, filter, Option, Some, None, refl, ap, sym, subst, if◌then◌else◌, arith}
use Rattle.std.specs.Prelude.{nat_le}
use Rattle.std.proofs.lemmas.Bool.Decides.{nat_tests}
use Rattle.std.proofs.lemmas.Bool.{cond-false}
use Rattle.std.proofs.lemmas.List.{append_assoc, length-append, length-take}
use Rattle.dtx_values.specs.declared.entry.Answer.{Answer}
use Rattle.dtx_values.specs.TxIds.{number_of}
use Rattle.dtx_values.specs.declared.tx_id.TxId.{TxId}
use Rattle.dtx_values.specs.declared.entry.Answer.TheVariants.{Fine}
use Rattle.dtx_values.specs.declared.entry.Entry.{Entry}
use Rattle.dtx_values.specs.declared.entry.Entry.TheVariants.{Called, Cut, Lost, Sent, Got, Stopped}
use Rattle.dtx_values.specs.declared.message.Conn.{Conn}
use Rattle.dtx_values.specs.declared.message.Conn.TheVariants.{Begin, Enl, Again}
use Rattle.dtx_values.specs.declared.message.Dir.{Dir}
use Rattle.dtx_values.specs.declared.message.Dir.TheVariants.{Up, Down}
use Rattle.dtx_values.specs.declared.message.Message.{Message}
use Rattle.dtx_values.specs.declared.number.ActorNo.{ActorNo}
use Rattle.dtx_values.specs.declared.number.EnlNo.{EnlNo}
use Rattle.dtx_values.specs.Lines.{has_line}
use Rattle.dtx_values.specs.declared.row.Row.{Row}
use Rattle.dtx_values.specs.Row.{is_of}
use Rattle.dtx_values.specs.Class.{is_promotable}
use Rattle.dtx_model.specs.Words.{has, onto}
use Rattle.dtx_model.specs.Outcome.{is_empty}
use Rattle.dtx_model.specs.Wires.{in_transit, is_kept, is_open_wire, is_stopped, kept, lost_after, lost_since, opened_with, opens, same_connection, same_direction, sent_behind, transit_after, transit_after_stop, without_first}
use Rattle.dtx_model.specs.World.{World, answer_at, cut, cut_upward, gone_by, half, is_promotable_row, on_the_way, open_ones}
use Rattle.dtx_model.proofs.Histories.{onto-append}
use Rattle.dtx_values.specs.declared.call.Call.TheVariants.{Gone}
use Rattle.dtx_model.specs.Answers.{gone_answer, if_begun}
use Rattle.dtx_model.specs.Facts.{has_facts}
use Rattle.dtx_model.specs.Caused.{is_begin_sent}
use Rattle.dtx_model.specs.Coordinated.{Coordinated, follow, follow_all}
use Rattle.dtx_model.specs.Half.{Half, heeds, heeds_all, is_gone, stands}
use Rattle.dtx_model.specs.Observed.{track}
use Rattle.dtx_model.specs.Steps.{Calls}
use Rattle.dtx_model.specs.declared.waiting.EnteredCall.{EnteredCall}
use Rattle.dtx_model.proofs.Heeding.{heeds_all_same}
use Rattle.dtx_model.proofs.Quiet.{q_one}
use Rattle.local_half.specs.Half.{Known, after as known_after, loss}
use Rattle.coordinator_core.specs.Kept.{Kept as CoreKept}
use Rattle.world_laws.specs.Carried.{are_sendable}
use Rattle.tx_world.specs.Kept.{Kept}
use Rattle.tx_world.specs.State.{may_enter}
use Rattle.world_parts.proofs.LocalCalls.{call_heeded}
use Rattle.tx_world.proofs.Linking.{Linked, fine_block, linked}
use Rattle.tx_world.proofs.Onward.{half_is}
use Rattle.world_parts.specs.Entering.{cut_if, links_cut}

-- no more messages than entries are on the way
opened_few : (d : Dir) (m : Message) (b : Bool) → length (opened_with d m b) ≤ 1
opened_few Up m true = omega arith
opened_few Up m false = omega arith
opened_few Down m b = omega arith

sent_few : (b : Bool) (m : Message) (ms : List Message) → length (sent_behind b m ms) ≤ suc (length ms)
sent_few true m ms = let e = length-append ms (m ∷ []) in omega (arith, e)
sent_few false m ms = omega arith

rest_few : (ms : List Message) → length (without_first ms) ≤ suc (length ms)
rest_few [] = omega arith
rest_few (m ∷ ms) = omega arith

front_few : (n : ℕ) (ms : List Message) → length (take n ms) ≤ suc (length ms)
front_few n ms = let e = length-take n ms in omega (arith, e)

stop_few : (d : Dir) (ms : List Message) → length (transit_after_stop d ms) ≤ suc (length ms)
stop_few Up ms = omega arith
stop_few Down ms = omega arith

same_few : (ms : List Message) → length ms ≤ suc (length ms)
same_few ms = omega arith

if_few : (b : Bool) (xs ys : List Message) (n : ℕ) → length xs ≤ n → length ys ≤ n → length (if b then xs else ys) ≤ n
if_few true xs ys n k l = k
if_few false xs ys n k l = l

step_few : (c : Conn) (d : Dir) (h : List Entry) (x : Entry) (ms : List Message) → length (transit_after c d h x ms) ≤ suc (length ms)
step_few c d h (Sent e r m) ms =
    let one = opened_few d m (is_stopped h) in
    if_few (opens c (Sent e r m)) (opened_with d m (is_stopped h)) (if same_connection c e && same_direction d r then sent_behind (is_open_wire c h) m ms else ms) (suc (length ms)) (omega (arith, one))
    (if_few (same_connection c e && same_direction d r) (sent_behind (is_open_wire c h) m ms) ms (suc (length ms)) (sent_few (is_open_wire c h) m ms) (same_few ms))
step_few c d h (Got e r m) ms =
    if_few (not (same_connection c e)) ms (if not (has_line e r m) then [] else if same_direction d r then without_first ms else ms) (suc (length ms)) (same_few ms)
    (if_few (not (has_line e r m)) [] (if same_direction d r then without_first ms else ms) (suc (length ms)) (omega arith)
    (if_few (same_direction d r) (without_first ms) ms (suc (length ms)) (rest_few ms) (same_few ms)))
step_few c d h (Cut e u w) ms = if_few (same_connection c e) (take (kept d u w) ms) ms (suc (length ms)) (front_few (kept d u w) ms) (same_few ms)
step_few c d h Stopped ms = stop_few d ms
step_few c d h _ ms = same_few ms

way_few : (c : Conn) (d : Dir) (h : List Entry) → on_the_way c d h ≤ length h
way_few c d [] = omega arith
way_few c d (x ∷ h) =
    let one = step_few c d h x (in_transit c d h) in
    let before = way_few c d h in
    omega (arith, one, before)

pub ways_few : (h : List Entry) → nat_le (length h) 4294967295 ≡ true → (c : Conn) → on_the_way c Up h ≤ 4294967295
ways_few h k c = let few = way_few c Up h in let top : length h ≤ 4294967295 = grind (arith, nat_tests) in omega (arith, few, top)

-- the number that a cut keeps upward is that of all
pub all_kept : (h : List Entry) (c : Conn) → on_the_way c Up h ≤ 4294967295 → cut h c 4294967295 0 ≡ cut_upward h c
all_kept h c k = λ i. Cut c (min_right 4294967295 (on_the_way c Up h) k i) (min_none (on_the_way c Down h) i)
  where
    min_none : (n : ℕ) → min 0 n ≡ 0
    min_none n = omega arith

    min_right : (a b : ℕ) → b ≤ a → min a b ≡ b
    min_right a b l = omega (arith, l)

pub cut_wanted : (h n : List Entry) (c : Conn) (b cuts : Bool) → on_the_way c Up h ≤ 4294967295 → b ≡ true → cuts ≡ is_open_wire c h → (cuts ≡ true → n ≡ cut h c 4294967295 0 ∷ h) → (cuts ≡ false → n ≡ h)
    → n ≡ onto h (cut_if h b c)
cut_wanted h n c b true few wanted is done none =
    done refl ∙ ap (λ (x : Entry). x ∷ h) (all_kept h c few) ∙ ap (λ (v : Bool). onto h (if v && true then cut_upward h c ∷ [] else [])) (sym wanted) ∙ ap (λ (v : Bool). onto h (if b && v then cut_upward h c ∷ [] else [])) is
cut_wanted h n c b false few wanted is done none =
    none refl ∙ ap (λ (v : Bool). onto h (if v && false then cut_upward h c ∷ [] else [])) (sym wanted) ∙ ap (λ (v : Bool). onto h (if b && v then cut_upward h c ∷ [] else [])) is

pub cut_unwanted : (h : List Entry) (c : Conn) (b : Bool) → b ≡ false → h ≡ onto h (cut_if h b c)
cut_unwanted h c b e = ap (λ (v : Bool). onto h (if v && is_open_wire c h then cut_upward h c ∷ [] else [])) (sym e)

-- after an entry that is no connection's, and after the cut of another one, a connection stands as it did
abbrev pub StandsSame : Conn → List Entry → List Entry → Type 0
StandsSame c n h = (is_open_wire c n ≡ is_open_wire c h) × (on_the_way c Up n ≡ on_the_way c Up h)

pub same_cut : (c : Conn) (n h : List Entry) (b : Bool) → StandsSame c n h → cut_if n b c ≡ cut_if h b c
same_cut c n h b s = λ i. if b && s.0 i then Cut c (s.1 i) 0 ∷ [] else []

pub call_stands : (c : Conn) (n : ℕ) (a : ActorNo) (x : Answer) (e : EnlNo) (h : List Entry) → StandsSame c (Lost e ∷ Called n a x ∷ h) h
call_stands c n a x e h = (by (lost_since c h), refl)
  where
    by : (o : Option Bool) → is_kept (lost_after c (Called n a x ∷ h) (Lost e) (lost_after c h (Called n a x) o)) ≡ is_kept o
    by None = refl
    by (Some true) = refl
    by (Some false) = refl

other_cut : (x c : Conn) (h : List Entry) (i j : ℕ) → same_connection x c ≡ false → StandsSame x (Cut c i j ∷ h) h
other_cut x c h i j s = (by (lost_since x h), ap length (cond-false (same_connection x c) (take i (in_transit x Up h)) (in_transit x Up h) s))
  where
    by : (o : Option Bool) → is_kept (lost_after x h (Cut c i j) o) ≡ is_kept o
    by None = refl
    by (Some true) = refl
    by (Some false) = ap not s

pub cut_stands : (x c : Conn) (h : List Entry) (b : Bool) → same_connection x c ≡ false → StandsSame x (onto h (cut_if h b c)) h
cut_stands x c h b s = by (b && is_open_wire c h)
  where
    by : (v : Bool) → StandsSame x (onto h (if v then cut_upward h c ∷ [] else [])) h
    by true = other_cut x c h (on_the_way c Up h) 0 s
    by false = (refl, refl)

pub stands_on : (c : Conn) (n m h : List Entry) → StandsSame c n m → StandsSame c m h → StandsSame c n h
stands_on c n m h s t = (s.0 ∙ t.0, s.1 ∙ t.1)

-- the three cuts, one after the other
pub three_cut : (h p q r : List Entry) (b : Bool) (e : EnlNo) → p ≡ onto h (cut_if h b Begin) → q ≡ onto p (cut_if p true (Enl e)) → r ≡ onto q (cut_if q true (Again e)) → r ≡ onto h (links_cut h b e)
three_cut h p q r b e first second third =
    let one : StandsSame (Enl e) p h = subst (λ (x : List Entry). StandsSame (Enl e) x h) (sym first) (cut_stands (Enl e) Begin h b refl) in
    let two : StandsSame (Again e) p h = subst (λ (x : List Entry). StandsSame (Again e) x h) (sym first) (cut_stands (Again e) Begin h b refl) in
    let three : StandsSame (Again e) q p = subst (λ (x : List Entry). StandsSame (Again e) x p) (sym second) (cut_stands (Again e) (Enl e) p true refl) in
    let own : List Entry = cut_if h true (Enl e) in
    let again : List Entry = cut_if h true (Again e) in
    third
    ∙ (λ i. onto (second i) (same_cut (Again e) q h true (stands_on (Again e) q p h three two) i))
    ∙ (λ i. onto (onto (first i) (same_cut (Enl e) p h true one i)) again)
    ∙ ap (λ (x : List Entry). onto x again) (sym (onto-append h (cut_if h b Begin) own))
    ∙ sym (onto-append h (cut_if h b Begin ++ own) again)
    ∙ ap (onto h) (append_assoc (cut_if h b Begin) own again)

-- they are those of the open connections
abbrev pub links : List Entry → Bool → EnlNo → List Conn
links h b e = filter (λ c. is_open_wire c h) (if b then Begin ∷ Enl e ∷ Again e ∷ [] else Enl e ∷ Again e ∷ [])

pub cuts_are : (h : List Entry) (b : Bool) (e : EnlNo) → links_cut h b e ≡ map (cut_upward h) (links h b e)
cuts_are h true e = by (is_open_wire Begin h) (is_open_wire (Enl e) h) (is_open_wire (Again e) h)
  where
    by : (x y z : Bool) → (if x then cut_upward h Begin ∷ [] else []) ++ ((if y then cut_upward h (Enl e) ∷ [] else []) ++ (if z then cut_upward h (Again e) ∷ [] else [])) ≡ map (cut_upward h) (if x then Begin ∷ (if y then Enl e ∷ (if z then Again e ∷ [] else []) else if z then Again e ∷ [] else []) else if y then Enl e ∷ (if z then Again e ∷ [] else []) else if z then Again e ∷ [] else [])
    by true true true = refl
    by true true false = refl
    by true false true = refl
    by true false false = refl
    by false true true = refl
    by false true false = refl
    by false false true = refl
    by false false false = refl
cuts_are h false e = by (is_open_wire (Enl e) h) (is_open_wire (Again e) h)
  where
    by : (y z : Bool) → (if y then cut_upward h (Enl e) ∷ [] else []) ++ (if z then cut_upward h (Again e) ∷ [] else []) ≡ map (cut_upward h) (if y then Enl e ∷ (if z then Again e ∷ [] else []) else if z then Again e ∷ [] else [])
    by true true = refl
    by true false = refl
    by false true = refl
    by false false = refl

-- whether some is open
pub some_open : (w : World) (e : EnlNo) (b x y z : Bool) → b ≡ is_promotable_row (half w).seen e.value → x ≡ is_open_wire Begin w.past → y ≡ is_open_wire (Enl e) w.past → z ≡ is_open_wire (Again e) w.past
    → ((b && x) || (y || z)) ≡ not (is_empty (open_ones w e))
some_open w e b x y z is_b is_x is_y is_z =
    (λ i. (is_b i && is_x i) || (is_y i || is_z i)) ∙ by (is_promotable_row (half w).seen e.value) (is_open_wire Begin w.past) (is_open_wire (Enl e) w.past) (is_open_wire (Again e) w.past) refl refl refl
  where
    by : (b x y z : Bool) → is_open_wire Begin w.past ≡ x → is_open_wire (Enl e) w.past ≡ y → is_open_wire (Again e) w.past ≡ z
        → ((b && x) || (y || z)) ≡ not (is_empty (filter (λ c. is_open_wire c w.past) (if b then Begin ∷ Enl e ∷ Again e ∷ [] else Enl e ∷ Again e ∷ [])))
    by true true y z p q r = rw p refl
    by true false true z p q r = rw (p, q) refl
    by true false false true p q r = rw (p, q, r) refl
    by true false false false p q r = rw (p, q, r) refl
    by false x true z p q r = rw q refl
    by false x false true p q r = rw (q, r) refl
    by false x false false p q r = rw (q, r) refl

-- the block of such a loss
gone_linked : (w : World) (e : EnlNo) (cs : List Conn) → is_empty cs ≡ false → Lost e ∷ map (cut_upward w.past) cs ≡ gone_by w e cs
gone_linked w e [] k = absurd cc
gone_linked w e (c ∷ cs) k = refl

left_facts : (w : World) (e : EnlNo) (b : Bool) → b ≡ is_promotable_row (half w).seen e.value → is_empty (open_ones w e) ≡ false → Lost e ∷ links_cut w.past b e ≡ gone_by w e (open_ones w e)
left_facts w e b is some =
    ap (λ (xs : List Entry). Lost e ∷ xs) (ap (λ (v : Bool). links_cut w.past v e) is ∙ cuts_are w.past (is_promotable_row (half w).seen e.value) e) ∙ gone_linked w e (open_ones w e) some

pub gone_same : (t : ℕ) (w : World) (e : EnlNo) (m : ℕ) → answer_at t w (Gone e) m ≡ answer_at t w (Gone e) 0
unfolding answer_at
gone_same t w e m = refl

-- cuts send nothing, and leave what both halves know
cuts_silent : (n : ℕ) (a : ActorNo) (h : List Entry) (b : Bool) (e : EnlNo) → has is_begin_sent (Called n a Fine ∷ Lost e ∷ links_cut h b e) ≡ false
cuts_silent n a h b e = ap (has is_begin_sent) (cuts_are h b e) ∙ by (links h b e)
  where
    by : (cs : List Conn) → has is_begin_sent (map (cut_upward h) cs) ≡ false
    by [] = refl
    by (c ∷ cs) = by cs

cuts_heeded : (ks : List EnteredCall) (g : Half) (h : List Entry) (b : Bool) (e : EnlNo) → heeds_all ks g (links_cut h b e) ≡ g
unfolding heeds_all track
cuts_heeded ks g h b e = ap (heeds_all ks g) (cuts_are h b e) ∙ by (links h b e)
  where
    by : (cs : List Conn) → heeds_all ks g (map (cut_upward h) cs) ≡ g
    by [] = refl
    by (c ∷ cs) = by cs

cuts_followed : (k : Coordinated) (h : List Entry) (b : Bool) (e : EnlNo) → follow_all k (links_cut h b e) ≡ k
unfolding follow_all follow
cuts_followed k h b e = ap (follow_all k) (cuts_are h b e) ∙ by (links h b e)
  where
    by : (cs : List Conn) → follow_all k (map (cut_upward h) cs) ≡ k
    by [] = refl
    by (c ∷ cs) = by cs

cuts_sendable : (p h : List Entry) (b : Bool) (e : EnlNo) → are_sendable (onto p (links_cut h b e)) ≡ are_sendable p
cuts_sendable p h b e = ap (λ (xs : List Entry). are_sendable (onto p xs)) (cuts_are h b e) ∙ by p (links h b e)
  where
    by : (q : List Entry) (cs : List Conn) → are_sendable (onto q (map (cut_upward h) cs)) ≡ are_sendable q
    by q [] = refl
    by q (c ∷ cs) = by (cut_upward h c ∷ q) cs

left_heeded : (h g : Known) (n : ℕ) (a : ActorNo) (e : EnlNo) (p : List Entry) (b : Bool) → g ≡ known_after [] h (loss true h.half e)
    → g ≡ known_after (record { line = n; actor = a; call = Gone e } ∷ []) h (Called n a Fine ∷ Lost e ∷ links_cut p b e)
unfolding heeds_all
left_heeded h g n a e p b is =
    let mine : List EnteredCall = record { line = n; actor = a; call = Gone e } ∷ [] in
    is
    ∙ ap (λ (x : Half). record { transaction = h.transaction; half = x })
    (sym (heeds_all_same mine h.half (Lost e ∷ []) (q_one (Lost e) refl))
    ∙ ap (λ (x : Half). heeds mine x (Lost e)) (sym (call_heeded h.half n a (Gone e) Fine refl refl))
    ∙ sym (cuts_heeded mine (heeds mine (heeds mine h.half (Called n a Fine)) (Lost e)) p b e))

left_followed : (k : CoreKept) (n : ℕ) (a : ActorNo) (e : EnlNo) (p : List Entry) (b : Bool) → k ≡ record { transaction = k.transaction; state = follow_all k.state (Called n a Fine ∷ Lost e ∷ links_cut p b e) }
unfolding follow_all follow
left_followed k n a e p b = ap (λ (s : Coordinated). record { transaction = k.transaction; state = s }) (sym (cuts_followed k.state p b e))

pub left : (t : TxId) (w : World) (h g : Known) (k : CoreKept) (n : ℕ) (a : ActorNo) (e : EnlNo) (b : Bool) (m : ℕ) → Kept t w h k → may_enter w n (Gone e) ≡ true → answer_at (number_of t) w (Gone e) 0 ≡ Fine
    → is_empty (open_ones w e) ≡ false → b ≡ is_promotable_row (half w).seen e.value → g ≡ known_after [] h (loss true h.half e)
    → Linked t w (Calls n a (Gone e) m) g k (Called n a Fine ∷ Lost e ∷ links_cut w.past b e)
left t w h g k n a e b m kept may fine some is local =
    linked t w h g k k n a (Gone e) m (Called n a Fine ∷ Lost e ∷ links_cut w.past b e) kept may tt
    (ap (λ (xs : List Entry). Called n a Fine ∷ xs) (left_facts w e b is some) ∙ fine_block (number_of t) w n a (Gone e) m (gone_same (number_of t) w e m ∙ fine)) (cuts_silent n a w.past b e)
    (left_heeded h g n a e w.past b local) (left_followed k n a e w.past b)

-- what was written before the cuts might be sent
pub left_sendable : (n : ℕ) (a : ActorNo) (e : EnlNo) (b : Bool) (h p : List Entry) → p ≡ h → are_sendable (onto h (Called n a Fine ∷ Lost e ∷ links_cut h b e)) ≡ true → are_sendable (Lost e ∷ Called n a Fine ∷ p) ≡ true
left_sendable n a e b h p same k = ap (λ (x : List Entry). are_sendable (Lost e ∷ Called n a Fine ∷ x)) same ∙ sym (cuts_sendable (Lost e ∷ Called n a Fine ∷ h) h b e) ∙ k

-- so few messages are on the way there
pub left_few : (n : ℕ) (a : ActorNo) (e : EnlNo) (h p : List Entry) → p ≡ Lost e ∷ Called n a Fine ∷ h → nat_le (length h) 4294967295 ≡ true → (c : Conn) → on_the_way c Up p ≤ 4294967295
left_few n a e h p wrote few c = subst (λ (x : List Entry). on_the_way c Up x ≤ 4294967295) (sym wrote) (ways_few h few c)

-- the history after it
pub left_past : (n : ℕ) (a : ActorNo) (e : EnlNo) (b : Bool) (h p q : List Entry) → p ≡ Lost e ∷ Called n a Fine ∷ h → q ≡ onto p (links_cut p b e) → q ≡ onto h (Called n a Fine ∷ Lost e ∷ links_cut h b e)
left_past n a e b h p q wrote cuts =
    let now : List Entry = Lost e ∷ Called n a Fine ∷ h in
    cuts
    ∙ ap (λ (x : List Entry). onto x (links_cut x b e)) wrote
    ∙ (λ i. onto now (same_cut Begin now h b (call_stands Begin n a Fine e h) i
    ++ (same_cut (Enl e) now h true (call_stands (Enl e) n a Fine e h) i ++ same_cut (Again e) now h true (call_stands (Again e) n a Fine e h) i)))

-- what it is answered
begun_fine : (l : Option ℕ) (x : Answer) → if_begun l x ≡ Fine → x ≡ Fine
begun_fine None x k = absurd cc
begun_fine (Some d) x k = k

pub gone_stands : (t : TxId) (w : World) (h : Known) (k : CoreKept) (e : EnlNo) → Kept t w h k → answer_at (number_of t) w (Gone e) 0 ≡ Fine → gone_answer (stands h.half.seen e.value) (is_gone h.half.seen e.value) ≡ Fine
unfolding answer_at
gone_stands t w h k e kept fine =
    ap (λ (x : Half). gone_answer (stands x.seen e.value) (is_gone x.seen e.value)) (half_is t w h k kept) ∙ begun_fine (half w).seen.limit (gone_answer (stands (half w).seen e.value) (is_gone (half w).seen e.value)) fine

pub gone_is : (t : TxId) (w : World) (h : Known) (k : CoreKept) (e : EnlNo) (m : ℕ) (a : Answer) → Kept t w h k → a ≡ if_begun h.half.seen.limit (gone_answer (stands h.half.seen e.value) (is_gone h.half.seen e.value))
    → a ≡ answer_at (number_of t) w (Gone e) m
unfolding answer_at
gone_is t w h k e m a kept answered = answered ∙ ap (λ (x : Half). if_begun x.seen.limit (gone_answer (stands x.seen e.value) (is_gone x.seen e.value))) (half_is t w h k kept)

gone_refused : (l : Option ℕ) (there lost : Bool) (a : Answer) → a ≡ if_begun l (gone_answer there lost) → a ≢ Fine → has_facts a ≡ false
gone_refused None there lost a e d = ap has_facts e
gone_refused (Some n) false lost a e d = ap has_facts e
gone_refused (Some n) true true a e d = ap has_facts e
gone_refused (Some n) true false a e d = absurd (d e)

pub gone_alone : (t : ℕ) (w : World) (e : EnlNo) (m : ℕ) (a : Answer) → a ≡ answer_at t w (Gone e) m → a ≢ Fine → has_facts a ≡ false
unfolding answer_at
gone_alone t w e m a k d = gone_refused (half w).seen.limit (stands (half w).seen e.value) (is_gone (half w).seen e.value) a k d

-- whether the rows of the half have it as a promotable
pub rows_promotable : (t : TxId) (w : World) (h : Known) (k : CoreKept) (e : EnlNo) (rows : List Row) (b : Bool) → Kept t w h k → rows ≡ h.half.seen.table → b ≡ has (λ x. is_of e.value x && is_promotable x.class) rows
    → b ≡ is_promotable_row (half w).seen e.value
rows_promotable t w h k e rows b kept same is =
    is ∙ ap (λ (xs : List Row). has (λ x. is_of e.value x && is_promotable x.class) xs) same ∙ ap (λ (x : Half). is_promotable_row x.seen e.value) (half_is t w h k kept)
