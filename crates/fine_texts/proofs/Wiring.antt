-- What the connections carry, with another identifier in the messages.
use Rattle.std.proofs.Common.{◌≡◌, ℕ, Bool, true, false, cond, ◌&&◌, ◌||◌, not, List, [], ◌∷◌, map, take, Option, Some, None, if◌then◌else◌, refl, ap, sym, subst, ◌∙◌}
use Rattle.std.proofs.lemmas.List.{map-append, take-map}
use Rattle.dtx_values.specs.declared.entry.Entry.{Entry}
use Rattle.dtx_values.specs.declared.entry.Entry.TheVariants.{Sent, Got, Cut, Down as End, Stopped}
use Rattle.dtx_values.specs.declared.message.Conn.{Conn}
use Rattle.dtx_values.specs.declared.message.Dir.{Dir}
use Rattle.dtx_values.specs.declared.message.Dir.TheVariants.{Up, Down}
use Rattle.dtx_values.specs.declared.message.Message.{Message}
use Rattle.dtx_values.specs.Ends.{same_connection, same_direction}
use Rattle.dtx_values.specs.Lines.{has_line, is_opening}
use Rattle.dtx_model.specs.Outcome.{is_empty}
use Rattle.dtx_model.specs.Wires.{MayCross, WireRun, begins_ended, ended_after, ends, in_transit, is_ended, is_kept, is_lost_wire, is_next, is_open_wire, is_stopped, kept, loses, lost_after, lost_since, opened_with, opens, sent_behind, stop_of, transit_after, without_first}
use Rattle.dtx_model.specs.Words.{holds}
use Rattle.dtx_model.proofs.Connections.{same_is}
use Rattle.fine_texts.proofs.Filling.{filled, message_with}
use Rattle.fine_texts.proofs.Looking.{lined, looks, opening, stop_here}
use Rattle.fine_texts.proofs.Mapping.{latest-map}

-- whether the entry opens a connection
opened : (u : ℕ) (c : Conn) (x : Entry) → opens c (filled u x) ≡ opens c x
opened u c x = looks (opens c) u sent (λ e d m. refl) x
  where
    sent : (e : Conn) (d : Dir) (m : Message) → opens c (Sent e d (message_with u e m)) ≡ opens c (Sent e d m)
    sent e Up m = ap (λ b. same_connection c e && b) (opening u e m)
    sent e Down m = refl

stopped : (u : ℕ) (h : List Entry) → is_stopped (map (filled u) h) ≡ is_stopped h
stopped u h = ap holds (latest-map stop_of (filled u) (stop_here u) h)

-- whether the entry loses it
losing : (u : ℕ) (c : Conn) (x : Entry) → loses c (filled u x) ≡ loses c x
losing u c x = looks (loses c) u (λ e d m. refl) (λ e d m. ap (λ b. same_connection c e && not b) (lined u e d m)) x

losing_after : (u : ℕ) (c : Conn) (h : List Entry) (x : Entry) (o : Option Bool) → lost_after c (map (filled u) h) (filled u x) o ≡ lost_after c h x o
losing_after u c h x None = λ j. if opened u c x j then Some (stopped u h j) else None
losing_after u c h x (Some l) = λ j. if opened u c x j then Some (stopped u h j) else Some (l || losing u c x j)

lost_there : (u : ℕ) (c : Conn) (h : List Entry) → lost_since c (map (filled u) h) ≡ lost_since c h
lost_there u c [] = refl
lost_there u c (x ∷ h) = losing_after u c h x (lost_since c (map (filled u) h)) ∙ ap (lost_after c h x) (lost_there u c h)

-- whether a side sees its end by the entry
ending : (u : ℕ) (c : Conn) (d : Dir) (x : Entry) → ends c d (filled u x) ≡ ends c d x
ending u c d x = looks (ends c d) u (λ e r m. refl) (λ e r m. ap (λ b. same_connection c e && same_direction d r && not b) (lined u e r m)) x

begins : (u : ℕ) (d : Dir) (h : List Entry) → begins_ended d (map (filled u) h) ≡ begins_ended d h
begins u Up h = stopped u h
begins u Down h = refl

-- and saw it
ended_there : (u : ℕ) (c : Conn) (d : Dir) (h : List Entry) → is_ended c d (map (filled u) h) ≡ is_ended c d h
ended_there u c d [] = refl
ended_there u c d (x ∷ h) =
    let rest = ended_there u c d h in
    λ j. ended_after (opened u c x j) (begins u d h j) (ending u c d x j || rest j)

-- Messages on the way that are changed one by one.
sent_map : (g : Message → Message) (d : Dir) (m : Message) (ms : List Message) (o s t w : Bool)
    → cond o (opened_with d (g m) t) (cond s (sent_behind w (g m) (map g ms)) (map g ms)) ≡ map g (cond o (opened_with d m t) (cond s (sent_behind w m ms) ms))
sent_map g Up m ms true s true w = refl
sent_map g Up m ms true s false w = refl
sent_map g Down m ms true s t w = refl
sent_map g d m ms false true t true = sym (map-append g ms (m ∷ []))
sent_map g d m ms false true t false = refl
sent_map g d m ms false false t w = refl

first_map : (g : Message → Message) (ms : List Message) → without_first (map g ms) ≡ map g (without_first ms)
first_map g [] = refl
first_map g (m ∷ ms) = refl

got_map : (g : Message → Message) (ms : List Message) (s l t : Bool)
    → cond (not s) (map g ms) (cond (not l) [] (cond t (without_first (map g ms)) (map g ms))) ≡ map g (cond (not s) ms (cond (not l) [] (cond t (without_first ms) ms)))
got_map g ms false l t = refl
got_map g ms true false t = refl
got_map g ms true true true = first_map g ms
got_map g ms true true false = refl

cut_map : (g : Message → Message) (n : ℕ) (ms : List Message) (s : Bool) → cond s (take n (map g ms)) (map g ms) ≡ map g (cond s (take n ms) ms)
cut_map g n ms true = take-map g n ms
cut_map g n ms false = refl

empty_map : (g : Message → Message) (ms : List Message) → is_empty (map g ms) ≡ is_empty ms
empty_map g [] = refl
empty_map g (m ∷ ms) = refl

next_map : (g : Message → Message) (m : Message) (ms : List Message) → is_next m ms → is_next (g m) (map g ms)
next_map g m [] k = k
next_map g m (n ∷ ms) k = ap g k

-- a message that is sent on another connection doesn't open this one
not_opened : (c e : Conn) (r : Dir) (m : Message) → same_connection c e ≡ false → opens c (Sent e r m) ≡ false
not_opened c e Up m k = ap (λ b. b && is_opening e m) k
not_opened c e Down m k = refl

-- a message that is sent
sent : (u : ℕ) (c : Conn) (d : Dir) (h : List Entry) (e : Conn) (r : Dir) (m : Message) (ms : List Message) (s : Bool) → same_connection c e ≡ s
    → cond (opens c (Sent e r m)) (opened_with d (message_with u e m) (is_stopped h)) (cond (same_connection c e && same_direction d r) (sent_behind (is_open_wire c h) (message_with u e m) (map (message_with u c) ms)) (map (message_with u c) ms))
    ≡ map (message_with u c) (transit_after c d h (Sent e r m) ms)
sent u c d h e r m ms true k =
    ap (λ (q : Conn). cond (opens c (Sent e r m)) (opened_with d (message_with u q m) (is_stopped h)) (cond (same_connection c e && same_direction d r) (sent_behind (is_open_wire c h) (message_with u q m) (map (message_with u c) ms)) (map (message_with u c) ms))) (sym (same_is c e k))
    ∙ sent_map (message_with u c) d m ms (opens c (Sent e r m)) (same_connection c e && same_direction d r) (is_stopped h) (is_open_wire c h)
sent u c d h e r m ms false k =
    let closed = not_opened c e r m k in
    let left : cond (opens c (Sent e r m)) (opened_with d (message_with u e m) (is_stopped h)) (cond (same_connection c e && same_direction d r) (sent_behind (is_open_wire c h) (message_with u e m) (map (message_with u c) ms)) (map (message_with u c) ms)) ≡ map (message_with u c) ms =
    λ j. cond (closed j) (opened_with d (message_with u e m) (is_stopped h)) (cond (k j && same_direction d r) (sent_behind (is_open_wire c h) (message_with u e m) (map (message_with u c) ms)) (map (message_with u c) ms)) in
    let right : transit_after c d h (Sent e r m) ms ≡ ms = λ j. cond (closed j) (opened_with d m (is_stopped h)) (cond (k j && same_direction d r) (sent_behind (is_open_wire c h) m ms) ms) in
    left ∙ sym (ap (λ (l : List Message). map (message_with u c) l) right)

-- what is on the way after an entry is changed as what was on the way before it
after : (u : ℕ) (c : Conn) (d : Dir) (h : List Entry) (x : Entry) (ms : List Message)
    → transit_after c d (map (filled u) h) (filled u x) (map (message_with u c) ms) ≡ map (message_with u c) (transit_after c d h x ms)
unfolding filled
after u c d h (Sent e r m) ms =
    let opening_here : opens c (Sent e r (message_with u e m)) ≡ opens c (Sent e r m) = opened u c (Sent e r m) in
    let open_here : is_open_wire c (map (filled u) h) ≡ is_open_wire c h = ap is_kept (lost_there u c h) in
    let halted = stopped u h in
    let same : transit_after c d (map (filled u) h) (Sent e r (message_with u e m)) (map (message_with u c) ms)
    ≡ cond (opens c (Sent e r m)) (opened_with d (message_with u e m) (is_stopped h)) (cond (same_connection c e && same_direction d r) (sent_behind (is_open_wire c h) (message_with u e m) (map (message_with u c) ms)) (map (message_with u c) ms)) =
    λ j. cond (opening_here j) (opened_with d (message_with u e m) (halted j)) (cond (same_connection c e && same_direction d r) (sent_behind (open_here j) (message_with u e m) (map (message_with u c) ms)) (map (message_with u c) ms)) in
    same ∙ sent u c d h e r m ms (same_connection c e) refl
after u c d h (Got e r m) ms =
    ap (λ b. cond (not (same_connection c e)) (map (message_with u c) ms) (cond (not b) [] (cond (same_direction d r) (without_first (map (message_with u c) ms)) (map (message_with u c) ms)))) (lined u e r m)
    ∙ got_map (message_with u c) ms (same_connection c e) (has_line e r m) (same_direction d r)
after u c d h (Cut e up down) ms = cut_map (message_with u c) (kept d up down) ms (same_connection c e)
after u c Up h Stopped ms = refl
after u c Down h Stopped ms = refl
after u c d h x ms = refl

transit_there : (u : ℕ) (c : Conn) (d : Dir) (h : List Entry) → in_transit c d (map (filled u) h) ≡ map (message_with u c) (in_transit c d h)
transit_there u c d [] = refl
transit_there u c d (x ∷ h) = ap (transit_after c d (map (filled u) h) (filled u x)) (transit_there u c d h) ∙ after u c d h x (in_transit c d h)

-- what may cross may cross
crosses : (u : ℕ) (h : List Entry) (x : Entry) → MayCross h x → MayCross (map (filled u) h) (filled u x)
unfolding filled
crosses u h (Got c d m) k = subst (is_next (message_with u c m)) (sym (transit_there u c d h)) (next_map (message_with u c) m (in_transit c d h) k)
crosses u h (End c d) k =
    let lost : is_lost_wire c (map (filled u) h) ≡ is_lost_wire c h = ap holds (lost_there u c h) in
    let empty : is_empty (in_transit c d (map (filled u) h)) ≡ is_empty (in_transit c d h) = ap is_empty (transit_there u c d h) ∙ empty_map (message_with u c) (in_transit c d h) in
    let ended = ended_there u c d h in
    let same : (is_lost_wire c (map (filled u) h) && is_empty (in_transit c d (map (filled u) h)) && not (is_ended c d (map (filled u) h))) ≡ (is_lost_wire c h && is_empty (in_transit c d h) && not (is_ended c d h)) =
    λ j. lost j && empty j && not (ended j) in
    same ∙ k
crosses u h x k = tt

pub wires_there : (u : ℕ) (h : List Entry) → WireRun h → WireRun (map (filled u) h)
wires_there u [] k = tt
wires_there u (x ∷ h) k = (crosses u h x k.0, wires_there u h k.1)
