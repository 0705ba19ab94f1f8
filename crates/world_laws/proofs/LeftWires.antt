-- What is left on the connections: how an entry changes it.
use Rattle.std.proofs.Common.{◌≡◌, ℕ, ◌+◌, ◌≤◌, Bool, true, false, ◌&&◌, not, List, [], ◌∷◌, if◌then◌else◌, refl, sym, subst, arith}
use Rattle.dtx_values.specs.declared.entry.Entry.{Entry}
use Rattle.dtx_values.specs.declared.entry.Entry.TheVariants.{Down as Ended, Got, Sent, Stopped}
use Rattle.dtx_values.specs.declared.message.Conn.{Conn}
use Rattle.dtx_values.specs.declared.message.Dir.{Dir}
use Rattle.dtx_values.specs.declared.message.Dir.TheVariants.{Up, Down}
use Rattle.dtx_values.specs.declared.message.Message.{Message}
use Rattle.dtx_values.specs.Ends.{same_connection, same_direction}
use Rattle.dtx_values.specs.Lines.{has_line, is_opening}
use Rattle.dtx_values.specs.Table.{how_many}
use Rattle.dtx_model.specs.Coordinated.{without}
use Rattle.dtx_model.specs.Wires.{begins_ended, ended_after, in_transit, is_ended, is_open_wire, is_stopped, opened_with, opens, sent_behind, without_first}
use Rattle.dtx_model.specs.Words.{has}
use Rattle.dtx_model.proofs.Bools.{not_both, not_true}
use Rattle.dtx_model.proofs.Connections.{same_is, same_self, same_turned}
use Rattle.world_laws.specs.Left.{end_weight, opened, total, unless, way_left, weight, wire_left, wires_left}
use Rattle.world_laws.proofs.LeftSums.{how_many-filter, how_many-none, total-append, total-filter, total-le, total-less, total-more, unless-or}

no : false ≡ true → ⊥
no e = absurd cc

apart_turned : (c e : Conn) → same_connection c e ≡ false → same_connection e c ≡ false
apart_turned c e n = by (same_connection e c) refl
  where
    by : (b : Bool) → same_connection e c ≡ b → b ≡ false
    by true s = absurd (not_both (same_connection c e) (same_turned e c s) n)
    by false s = refl

-- each connection stands once among those that were opened
pub opened-once : (c : Conn) (h : List Entry) → how_many (same_connection c) (opened h) ≤ 1
opened-once c [] = omega arith
opened-once c (Sent e Up m ∷ h) = by (is_opening e m) (same_connection c e) refl (opened-once c h)
  where
    by : (o s : Bool) → same_connection c e ≡ s → how_many (same_connection c) (opened h) ≤ 1
        → how_many (same_connection c) (if o then e ∷ without e (opened h) else opened h) ≤ 1
    by false s q i = i
    by true true q i =
        let none = how_many-none (same_connection c) (λ d. not (same_connection e d))
        (λ d n. apart d (not_true (same_connection e d) n)) (opened h) in
        rw q (omega arith)
      where
        apart : (d : Conn) → same_connection e d ≡ false → same_connection c d ≡ false
        apart d n = subst (λ (x : Conn). same_connection x d ≡ false) (sym (same_is c e q)) n
    by true false q i = let less = how_many-filter (same_connection c) (λ d. not (same_connection e d)) (opened h) in rw q (omega arith)
opened-once c (Sent e Down m ∷ h) = opened-once c h
opened-once c (_ ∷ h) = opened-once c h

-- A message that is sent.
abbrev pub cost : Conn → Dir → Message → ℕ
cost c Up m = weight Up m + (if is_opening c m then 3 else 0)
cost c Down m = weight Down m

sent-apart : (c e : Conn) (d r : Dir) (m : Message) (h : List Entry) → same_connection c e ≡ false → way_left (Sent e r m ∷ h) c d ≤ way_left h c d
sent-apart c e d Up m h n = by (same_connection c e) n
  where
    by : (s : Bool) → s ≡ false
        → total (weight d) (if s && is_opening e m then opened_with d m (is_stopped h) else if s && same_direction d Up then sent_behind (is_open_wire c h) m (in_transit c d h) else in_transit c d h)
        + unless (ended_after (s && is_opening e m) (begins_ended d h) (is_ended c d h)) (end_weight d) ≤ way_left h c d
    by true n = absurd cc
    by false n = omega arith
sent-apart c e d Down m h n = by (same_connection c e) n
  where
    by : (s : Bool) → s ≡ false
        → total (weight d) (if s && same_direction d Down then sent_behind (is_open_wire c h) m (in_transit c d h) else in_transit c d h) + unless (is_ended c d h) (end_weight d) ≤ way_left h c d
    by true n = absurd cc
    by false n = omega arith

sent-on : (c : Conn) (d : Dir) (m : Message) (b : Bool) (ms : List Message) → total (weight d) (sent_behind b m ms) ≤ total (weight d) ms + weight d m
sent-on c d m true ms = let e = total-append (weight d) ms (m ∷ []) in omega arith
sent-on c d m false ms = omega arith

opened-on : (d : Dir) (m : Message) (b : Bool) → total (weight d) (opened_with d m b) ≤ weight Up m
opened-on Up m true = omega arith
opened-on Up m false = omega arith
opened-on Down m b = omega arith

-- where a connection is opened, it has its opening message and two ends
opening-there : (c : Conn) (d : Dir) (m : Message) (h : List Entry) → opens c (Sent c Up m) ≡ true → way_left (Sent c Up m ∷ h) c d ≤ (end_weight d) + total (weight d) (opened_with d m (is_stopped h))
opening-there c d m h o = rw o (by (begins_ended d h))
  where
    by : (b : Bool) → total (weight d) (opened_with d m (is_stopped h)) + unless b (end_weight d) ≤ end_weight d + total (weight d) (opened_with d m (is_stopped h))
    by true = omega arith
    by false = omega arith

-- on a connection that isn't opened by it, it may be on the way
later-there : (c : Conn) (d r : Dir) (m : Message) (h : List Entry) → opens c (Sent c r m) ≡ false → same_direction d r ≡ true → way_left (Sent c r m ∷ h) c d ≤ way_left h c d + weight d m
later-there c d r m h o t = rw (o, same_self c, t) (let e = sent-on c d m (is_open_wire c h) (in_transit c d h) in omega arith)

later-beside : (c : Conn) (d r : Dir) (m : Message) (h : List Entry) → opens c (Sent c r m) ≡ false → same_direction d r ≡ false → way_left (Sent c r m ∷ h) c d ≤ way_left h c d
later-beside c d r m h o t = rw (o, same_self c, t) (omega arith)

later-wire : (c : Conn) (r : Dir) (m : Message) (h : List Entry) → opens c (Sent c r m) ≡ false → wire_left (Sent c r m ∷ h) c ≤ wire_left h c + weight r m
later-wire c Up m h o = let a = later-there c Up Up m h o refl in let b = later-beside c Down Up m h o refl in omega arith
later-wire c Down m h o = let a = later-beside c Up Down m h o refl in let b = later-there c Down Down m h o refl in omega arith

sent-wire-apart : (c : Conn) (r : Dir) (m : Message) (h : List Entry) (e : Conn) → same_connection c e ≡ false → wire_left (Sent c r m ∷ h) e ≤ wire_left h e
sent-wire-apart c r m h e n = let a = sent-apart e c Up r m h (apart_turned c e n) in let b = sent-apart e c Down r m h (apart_turned c e n) in omega arith

later-sent : (c : Conn) (r : Dir) (m : Message) (h : List Entry) → opens c (Sent c r m) ≡ false → total (wire_left (Sent c r m ∷ h)) (opened h) ≤ wires_left h + weight r m
later-sent c r m h o = total-more (wire_left (Sent c r m ∷ h)) (wire_left h) c (weight r m) (sent-wire-apart c r m h) (later-wire c r m h o) (opened h) (opened-once c h)

-- what is left grows by its cost at most
pub wires-sent : (c : Conn) (r : Dir) (m : Message) (h : List Entry) → wires_left (Sent c r m ∷ h) ≤ wires_left h + cost c r m
wires-sent c Down m h = later-sent c Down m h refl
wires-sent c Up m h = by (is_opening c m) refl
  where
    by : (b : Bool) → is_opening c m ≡ b → total (wire_left (Sent c Up m ∷ h)) (if b then c ∷ without c (opened h) else opened h) ≤ wires_left h + (weight Up m + (if b then 3 else 0))
    by true o =
        let p : opens c (Sent c Up m) ≡ true = rw (same_self c) o in
        let a = opening-there c Up m h p in
        let b = opening-there c Down m h p in
        let z = opened-on Up m (is_stopped h) in
        let rest = total-filter (λ e. not (same_connection c e)) (wire_left (Sent c Up m ∷ h)) (wire_left h) (λ e n. sent-wire-apart c Up m h e (not_true (same_connection c e) n)) (opened h) in
        omega arith
    by false o =
        let p : opens c (Sent c Up m) ≡ false = rw (same_self c) o in
        let e = later-sent c Up m h p in omega arith

-- A message that is got.
got-way : (c e : Conn) (d r : Dir) (m : Message) (h : List Entry) → way_left (Got e r m ∷ h) c d ≤ way_left h c d
got-way c e d r m h =
    let z = unless-or (same_connection c e && same_direction d r && not (has_line e r m)) (is_ended c d h) (end_weight d) in
    let y = by (same_connection c e) (has_line e r m) (same_direction d r) (in_transit c d h) in omega arith
  where
    by : (s l t : Bool) (ms : List Message) → total (weight d) (if not s then ms else if not l then [] else if t then without_first ms else ms) ≤ total (weight d) ms
    by false l t ms = omega arith
    by true false t ms = omega arith
    by true true true [] = omega arith
    by true true true (n ∷ ms) = omega arith
    by true true false ms = omega arith

got-there : (c : Conn) (d : Dir) (m : Message) (ms : List Message) (h : List Entry) → in_transit c d h ≡ m ∷ ms → way_left (Got c d m ∷ h) c d + weight d m ≤ way_left h c d
got-there c d m ms h t =
    let z = unless-or (same_connection c c && same_direction d d && not (has_line c d m)) (is_ended c d h) (end_weight d) in
    let y : total (weight d) (if not (same_connection c c) then in_transit c d h else if not (has_line c d m) then [] else if same_direction d d then without_first (in_transit c d h) else in_transit c d h) + weight d m ≤ total (weight d) (in_transit c d h) =
    rw (t, same_self c) (by d (has_line c d m)) in omega arith
  where
    by : (r : Dir) (l : Bool) → total (weight d) (if not l then [] else if same_direction r r then ms else m ∷ ms) + weight d m ≤ weight d m + total (weight d) ms
    by Up true = omega arith
    by Down true = omega arith
    by r false = omega arith

-- what is left falls by the message's weight
pub wires-got : (c : Conn) (d : Dir) (m : Message) (ms : List Message) (h : List Entry) → in_transit c d h ≡ m ∷ ms → has (same_connection c) (opened h) ≡ true
    → wires_left (Got c d m ∷ h) + weight d m ≤ wires_left h
wires-got c d m ms h t o =
    total-less (wire_left (Got c d m ∷ h)) (wire_left h) c (weight d m)
    (λ e n. let a = got-way e c Up d m h in let b = got-way e c Down d m h in omega arith) (by d t) (opened h) o
  where
    by : (d : Dir) → in_transit c d h ≡ m ∷ ms → wire_left (Got c d m ∷ h) c + weight d m ≤ wire_left h c
    by Up t = let a = got-there c Up m ms h t in let b = got-way c c Down Up m h in omega arith
    by Down t = let a = got-there c Down m ms h t in let b = got-way c c Up Down m h in omega arith

-- The end of a connection that is seen.
end-way : (c e : Conn) (d r : Dir) (h : List Entry) → way_left (Ended e r ∷ h) c d ≤ way_left h c d
end-way c e d r h = let z = unless-or (same_connection c e && same_direction d r) (is_ended c d h) (end_weight d) in omega arith

end-there : (c : Conn) (d : Dir) (h : List Entry) → is_ended c d h ≡ false → way_left (Ended c d ∷ h) c d + end_weight d ≤ way_left h c d
end-there c Up h n = rw (n, same_self c) (omega arith)
end-there c Down h n = rw (n, same_self c) (omega arith)

-- an end that is seen leaves its weight less
pub wires-end : (c : Conn) (d : Dir) (h : List Entry) → is_ended c d h ≡ false → has (same_connection c) (opened h) ≡ true → wires_left (Ended c d ∷ h) + end_weight d ≤ wires_left h
wires-end c d h n o =
    total-less (wire_left (Ended c d ∷ h)) (wire_left h) c (end_weight d)
    (λ e n. let a = end-way e c Up d h in let b = end-way e c Down d h in omega arith) (by d n) (opened h) o
  where
    by : (d : Dir) → is_ended c d h ≡ false → wire_left (Ended c d ∷ h) c + end_weight d ≤ wire_left h c
    by Up n = let a = end-there c Up h n in let b = end-way c c Down Up h in omega arith
    by Down n = let a = end-there c Down h n in let b = end-way c c Up Down h in omega arith

-- A stop leaves no more.
stopped-way : (c : Conn) (d : Dir) (h : List Entry) → way_left (Stopped ∷ h) c d ≤ way_left h c d
stopped-way c Up h = omega arith
stopped-way c Down h = omega arith

-- a stop leaves no more on any connection
pub wires-stopped : (h : List Entry) → wires_left (Stopped ∷ h) ≤ wires_left h
wires-stopped h = total-le (wire_left (Stopped ∷ h)) (wire_left h) (λ c. let a = stopped-way c Up h in let b = stopped-way c Down h in omega arith) (opened h)

-- nor does an end
pub wires-ended : (c : Conn) (d : Dir) (h : List Entry) → wires_left (Ended c d ∷ h) ≤ wires_left h
wires-ended c d h = total-le (wire_left (Ended c d ∷ h)) (wire_left h) (λ e. let a = end-way e c Up d h in let b = end-way e c Down d h in omega arith) (opened h)
