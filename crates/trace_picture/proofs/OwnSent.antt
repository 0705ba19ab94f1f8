-- What is on the way was sent in rows that are shown, in order: those of the messages that come next.
use Rattle.std.proofs.Common.{◌≡◌, ℕ, zero, suc, ◌+◌, ◌<◌, ◌≤◌, ◌==◌, ◌&&◌, ◌||◌, Bool, true, false, List, [], ◌∷◌, ◌++◌, append_assoc, append-nil, Option, Some, None, length, length-append, drop, take, map, slice_get, refl, ap, subst, sym, ◌∙◌, arith, inl, inr}
use Rattle.std.proofs.lemmas.Bool.{and_parts, both_ways, cases_Bool, eq-eqb, eqb-true, ne_eqb}
use Rattle.std.proofs.lemmas.List.{take-append-drop}
use Rattle.dtx_values.specs.Ends.{same_connection, same_direction}
use Rattle.dtx_values.specs.Lines.{has_line, is_opening}
use Rattle.dtx_values.specs.declared.entry.Entry.{Entry}
use Rattle.dtx_values.specs.declared.entry.Entry.TheVariants.{Cut, Got, Sent, Stopped}
use Rattle.dtx_values.specs.declared.message.Conn.{Conn}
use Rattle.dtx_values.specs.declared.message.Dir.{Dir}
use Rattle.dtx_values.specs.declared.message.Dir.TheVariants.{Down, Up}
use Rattle.dtx_values.specs.declared.message.Message.{Message}
use Rattle.dtx_model.specs.Wires.{MayCross, in_transit, is_kept, is_next, is_open_wire, is_stopped, kept, loses, lost_after, lost_since, opens, transit_after, without_first}
use Rattle.dtx_model.proofs.Connections.{same_is, same_way_is}
use Rattle.trace_picture.specs.Crossings.{got_since, is_got_on, is_sent_on, sent_since}
use Rattle.trace_picture.specs.OwnSent.{in_row, is_message}

-- the rows that were sent since the connection was opened, and that didn't come yet: first those of what is on the way, and then, where the connection is lost, the others
pub record Waiting (c : Conn) (d : Dir) (shown : List Entry) (rows : List ℕ) (n : ℕ) (ms : List Message) (live : Bool) : Type 0 where
  pub on_way : List ℕ
  pub rest : List ℕ
  pub split : drop n rows ≡ on_way ++ rest
  pub few : n ≤ length rows
  pub messages : map (λ r. in_row r shown) on_way ≡ map (λ m. Some (Sent c d m)) ms
  pub none_lost : live ≡ true → rest ≡ []

-- those of what is shown, where this is the history
abbrev pub Waits : Conn → Dir → List Entry → List Entry → Type 0
Waits c d shown past = Waiting c d shown (sent_since c d shown) (got_since c d shown) (in_transit c d past) (is_open_wire c past)

-- an entry stays in its row
pub within : (r : ℕ) (past : List Entry) (y : Entry) → in_row r past ≡ Some y → r < length past
within r [] y k = absurd cc
within r (x ∷ past) y k = elim (cases_Bool (r == length past)) [
  | inl now ↦ omega (arith, eqb-true r (length past) now)
  | inr before ↦ omega (arith, within r past y (sym (older before) ∙ k))
]
  where
    older : (r == length past) ≡ false → in_row r (x ∷ past) ≡ in_row r past
    older e = rw e refl

stays : (r : ℕ) (x : Entry) (past : List Entry) (y : Entry) → in_row r past ≡ Some y → in_row r (x ∷ past) ≡ Some y
stays r x past y k = rw (ne_eqb r (length past) (λ e. omega (arith, e, within r past y k))) k

all_stay : (c : Conn) (d : Dir) (x : Entry) (past : List Entry) (rows : List ℕ) (ms : List Message) → map (λ r. in_row r past) rows ≡ map (λ m. Some (Sent c d m)) ms
    → map (λ r. in_row r (x ∷ past)) rows ≡ map (λ m. Some (Sent c d m)) ms
all_stay c d x past [] [] k = refl
all_stay c d x past [] (m ∷ ms) k = absurd cc
all_stay c d x past (r ∷ rows) [] k = absurd cc
all_stay c d x past (r ∷ rows) (m ∷ ms) k =
    let now : in_row r past ≡ Some (Sent c d m) = cc in
    let more : map (λ q. in_row q past) rows ≡ map (λ n. Some (Sent c d n)) ms = cc in
    (λ j. stays r x past (Sent c d m) now j ∷ all_stay c d x past rows ms more j)

-- lost where it was, or where it is lost now; none was opened
abbrev lost_or : Bool → Option Bool → Option Bool
lost_or l None = None
lost_or l (Some b) = Some (b || l)

-- whether the connection is lost after an entry that doesn't open it
lost_by : (c : Conn) (x : Entry) (past : List Entry) (o : Option Bool) (l : Bool) → opens c x ≡ false → loses c x ≡ l → lost_after c past x o ≡ lost_or l o
lost_by c x past None l p q = rw p refl
lost_by c x past (Some b) l p q = rw p (ap (λ z. Some (b || z)) q)

-- whether the connection is live stays, where the entry neither opens nor loses it
open_stays : (c : Conn) (x : Entry) (past : List Entry) → opens c x ≡ false → loses c x ≡ false → is_open_wire c (x ∷ past) ≡ is_open_wire c past
open_stays c x past p q = ap is_kept (lost_by c x past (lost_since c past) false p q) ∙ by (lost_since c past)
  where
    by : (o : Option Bool) → is_kept (lost_or false o) ≡ is_kept o
    by None = refl
    by (Some true) = refl
    by (Some false) = refl

-- it isn't live, where the entry loses it
lost_now : (c : Conn) (x : Entry) (past : List Entry) → opens c x ≡ false → loses c x ≡ true → is_open_wire c (x ∷ past) ≡ true → ⊥
lost_now c x past p q k = both_ways (is_open_wire c (x ∷ past)) (ap is_kept (lost_by c x past (lost_since c past) true p q) ∙ by (lost_since c past)) k
  where
    by : (o : Option Bool) → is_kept (lost_or true o) ≡ false
    by None = refl
    by (Some true) = refl
    by (Some false) = refl

-- an entry that neither opens, sends nor gets, where as much is on the way as before, and the connection is live only where it was
inert : (c : Conn) (d : Dir) (x : Entry) (shown past more : List Entry) → opens c x ≡ false → is_sent_on c d x ≡ false → is_got_on c d x ≡ false → in_transit c d more ≡ in_transit c d past
    → (is_open_wire c more ≡ true → is_open_wire c past ≡ true) → Waits c d shown past → Waits c d (x ∷ shown) more
inert c d x shown past more p q g t l w =
    let rows : sent_since c d (x ∷ shown) ≡ sent_since c d shown = rw (q, p) refl in
    let count : got_since c d (x ∷ shown) ≡ got_since c d shown = rw (p, g) refl in
    record {
      on_way = w.on_way;
      rest = w.rest;
      split = (λ j. drop (count j) (rows j)) ∙ w.split;
      few = subst (λ n. n ≤ length (sent_since c d (x ∷ shown))) (sym count) (subst (λ (rs : List ℕ). got_since c d shown ≤ length rs) (sym rows) w.few);
      messages = all_stay c d x shown w.on_way (in_transit c d past) w.messages ∙ sym (ap (map (λ m. Some (Sent c d m))) t);
      none_lost = λ live. w.none_lost (l live);
    }

-- the same of an entry of the history
inert_there : (c : Conn) (d : Dir) (x : Entry) (shown past : List Entry) → opens c x ≡ false → is_sent_on c d x ≡ false → is_got_on c d x ≡ false → in_transit c d (x ∷ past) ≡ in_transit c d past → loses c x ≡ false
    → Waits c d shown past → Waits c d (x ∷ shown) (x ∷ past)
inert_there c d x shown past p q g t l w = inert c d x shown past (x ∷ past) p q g t (λ live. sym (open_stays c x past p l) ∙ live) w

pub drop_more : {A : Type 0} (n : ℕ) (xs ys : List A) → n ≤ length xs → drop n (xs ++ ys) ≡ drop n xs ++ ys
drop_more zero xs ys k = refl
drop_more (suc n) [] ys k = absurd (omega (arith, k))
drop_more (suc n) (x ∷ xs) ys k = drop_more n xs ys (omega (arith, k))

pub drop_one : {A : Type 0} (n : ℕ) (xs ys : List A) (y : A) → drop n xs ≡ y ∷ ys → drop (n + 1) xs ≡ ys
drop_one zero [] ys y k = absurd cc
drop_one zero (x ∷ xs) ys y k = let same : xs ≡ ys = cc in same
drop_one (suc n) [] ys y k = absurd cc
drop_one (suc n) (x ∷ xs) ys y k =
    let more : suc n + 1 ≡ suc (n + 1) = omega arith in
    ap (λ i. drop i (x ∷ xs)) more ∙ drop_one n xs ys y k

drop_short : {A : Type 0} (n : ℕ) (xs ys : List A) (y : A) → drop n xs ≡ y ∷ ys → n + 1 ≤ length xs
drop_short zero [] ys y k = absurd cc
drop_short zero (x ∷ xs) ys y k = omega arith
drop_short (suc n) [] ys y k = absurd cc
drop_short (suc n) (x ∷ xs) ys y k = omega (arith, drop_short n xs ys y k)

pub drop_at : {A : Type 0} (n : ℕ) (xs ys : List A) (y : A) → drop n xs ≡ y ∷ ys → slice_get xs n ≡ Some y
drop_at zero [] ys y k = absurd cc
drop_at zero (x ∷ xs) ys y k = let same : x ≡ y = cc in ap Some same
drop_at (suc n) [] ys y k = absurd cc
drop_at (suc n) (x ∷ xs) ys y k = drop_at n xs ys y k

map_more : {A B : Type 0} (f : A → B) (xs ys : List A) → map f (xs ++ ys) ≡ map f xs ++ map f ys
map_more f [] ys = refl
map_more f (x ∷ xs) ys = ap (λ l. f x ∷ l) (map_more f xs ys)

map_take : {A B : Type 0} (f : A → B) (n : ℕ) (xs : List A) → map f (take n xs) ≡ take n (map f xs)
map_take f zero xs = refl
map_take f (suc n) [] = refl
map_take f (suc n) (x ∷ xs) = ap (λ l. f x ∷ l) (map_take f n xs)

-- the message that is sent on this connection in this direction
sent_there : (c e : Conn) (d r : Dir) (m : Message) → (same_connection c e && same_direction d r) ≡ true → Sent e r m ≡ Sent c d m
sent_there c e d r m k =
    let both = and_parts (same_connection c e) (same_direction d r) k in
    (λ j. Sent (sym (same_is c e both.0) j) (sym (same_way_is d r both.1) j) m)

-- where it opens the connection
opening : (c e : Conn) (d r : Dir) (m : Message) (shown past : List Entry) → opens c (Sent e r m) ≡ true → Waits c d (Sent e r m ∷ shown) (Sent e r m ∷ past)
opening c e Down Down m shown past k = absurd cc
opening c e Up Down m shown past k = absurd cc
opening c e Down Up m shown past k =
    let none : is_sent_on c Down (Sent e Up m) ≡ false = and_never (same_connection c e) in
    record {
      on_way = [];
      rest = [];
      split = rw (none, k) refl;
      few = rw (none, k) (omega arith);
      messages = rw k refl;
      none_lost = λ live. refl;
    }
  where
    and_never : (b : Bool) → (b && false) ≡ false
    and_never true = refl
    and_never false = refl
opening c e Up Up m shown past k =
    let same : same_connection c e ≡ true = (and_parts (same_connection c e) (is_opening e m) k).0 in
    let here : is_sent_on c Up (Sent e Up m) ≡ true = rw same refl in
    elim (cases_Bool (is_stopped past)) [
      | inl stopped ↦ record {
        on_way = [];
        rest = length shown ∷ [];
        split = rw (here, k) refl;
        few = rw (here, k) (omega arith);
        messages = rw (k, stopped) refl;
        none_lost = λ live. absurd (both_ways (is_open_wire c (Sent e Up m ∷ past)) (closed stopped) live);
      }
      | inr up ↦ record {
        on_way = length shown ∷ [];
        rest = [];
        split = rw (here, k) refl;
        few = rw (here, k) (omega arith);
        messages = rw (k, up) (rw (eq-eqb (length shown) (length shown) refl) (ap (λ (x : Entry). Some x ∷ []) (sent_there c e Up Up m here)));
        none_lost = λ live. refl;
      }
    ]
  where
    closed : is_stopped past ≡ true → is_open_wire c (Sent e Up m ∷ past) ≡ false
    closed stopped = by (lost_since c past)
      where
        by : (o : Option Bool) → is_kept (lost_after c past (Sent e Up m) o) ≡ false
        by None = rw (k, stopped) refl
        by (Some b) = rw (k, stopped) refl

-- where it doesn't
sending : (c e : Conn) (d r : Dir) (m : Message) (shown past : List Entry) → opens c (Sent e r m) ≡ false → Waits c d shown past → Waits c d (Sent e r m ∷ shown) (Sent e r m ∷ past)
sending c e d r m shown past k w = elim (cases_Bool (same_connection c e && same_direction d r)) [
  | inr other ↦ inert_there c d (Sent e r m) shown past k other refl (rw (k, other) refl) refl w
  | inl here ↦
      let rows : sent_since c d (Sent e r m ∷ shown) ≡ sent_since c d shown ++ length shown ∷ [] = rw (here, k) refl in
      let count : got_since c d (Sent e r m ∷ shown) ≡ got_since c d shown = rw k refl in
      let stay = open_stays c (Sent e r m) past k refl in
      let left : drop (got_since c d (Sent e r m ∷ shown)) (sent_since c d (Sent e r m ∷ shown)) ≡ w.on_way ++ (w.rest ++ length shown ∷ []) =
      (λ j. drop (count j) (rows j)) ∙ drop_more (got_since c d shown) (sent_since c d shown) (length shown ∷ []) w.few ∙ ap (λ l. l ++ length shown ∷ []) w.split ∙ append_assoc w.on_way w.rest (length shown ∷ []) in
      let few : got_since c d (Sent e r m ∷ shown) ≤ length (sent_since c d (Sent e r m ∷ shown)) = omega (arith, count, ap length rows, length-append (sent_since c d shown) (length shown ∷ []), w.few) in
      let kept_on : map (λ q. in_row q (Sent e r m ∷ shown)) w.on_way ≡ map (λ n. Some (Sent c d n)) (in_transit c d past) = all_stay c d (Sent e r m) shown w.on_way (in_transit c d past) w.messages in
      elim (cases_Bool (is_open_wire c past)) [
        | inl live ↦
            let none : w.rest ≡ [] = w.none_lost live in
            let transit : in_transit c d (Sent e r m ∷ past) ≡ in_transit c d past ++ m ∷ [] = rw (k, here, live) refl in
            record {
              on_way = w.on_way ++ length shown ∷ [];
              rest = [];
              split = left ∙ ap (λ l. w.on_way ++ (l ++ length shown ∷ [])) none ∙ sym (append-nil (w.on_way ++ length shown ∷ []));
              few = few;
              messages = map_more (λ q. in_row q (Sent e r m ∷ shown)) w.on_way (length shown ∷ []) ∙ (λ j. kept_on j ++ newest here j)
                  ∙ sym (map_more (λ n. Some (Sent c d n)) (in_transit c d past) (m ∷ [])) ∙ sym (ap (map (λ n. Some (Sent c d n))) transit);
              none_lost = λ o. refl;
            }
        | inr closed ↦
            record {
              on_way = w.on_way;
              rest = w.rest ++ length shown ∷ [];
              split = left;
              few = few;
              messages = kept_on ∙ sym (ap (map (λ n. Some (Sent c d n))) (rw (k, here, closed) refl));
              none_lost = λ o. absurd (both_ways (is_open_wire c past) closed (sym stay ∙ o));
            }
      ]
]
  where
    newest : (same_connection c e && same_direction d r) ≡ true → map (λ q. in_row q (Sent e r m ∷ shown)) (length shown ∷ []) ≡ map (λ n. Some (Sent c d n)) (m ∷ [])
    newest here = rw (eq-eqb (length shown) (length shown) refl) (ap (λ (x : Entry). Some x ∷ []) (sent_there c e d r m here))

-- what is got is the first on the way
pub first_way : (c : Conn) (d : Dir) (past : List Entry) (m : Message) (rows : List ℕ) (ms : List Message) → map (λ r. in_row r past) rows ≡ map (λ n. Some (Sent c d n)) ms → is_next m ms
    → (r : ℕ) × (rs : List ℕ) × (rows ≡ r ∷ rs) × (in_row r past ≡ Some (Sent c d m)) × (map (λ q. in_row q past) rs ≡ map (λ n. Some (Sent c d n)) (without_first ms))
first_way c d past m rows [] k w = absurd w
first_way c d past m [] (n ∷ ms) k w = absurd cc
first_way c d past m (r ∷ rs) (n ∷ ms) k w =
    let now : in_row r past ≡ Some (Sent c d n) = cc in
    let more : map (λ q. in_row q past) rs ≡ map (λ i. Some (Sent c d i)) ms = cc in
    (r, rs, refl, now ∙ ap (λ i. Some (Sent c d i)) (sym w), more)

-- where the connection is lost, nothing of it comes any more
nothing_left : (c : Conn) (d : Dir) (x : Entry) (shown past : List Entry) → opens c x ≡ false → is_sent_on c d x ≡ false → got_since c d (x ∷ shown) ≤ length (sent_since c d shown) → in_transit c d (x ∷ past) ≡ [] → loses c x ≡ true
    → Waits c d (x ∷ shown) (x ∷ past)
nothing_left c d x shown past p q few t l =
    let rows : sent_since c d (x ∷ shown) ≡ sent_since c d shown = rw (q, p) refl in
    record {
      on_way = [];
      rest = drop (got_since c d (x ∷ shown)) (sent_since c d (x ∷ shown));
      split = refl;
      few = subst (λ (rs : List ℕ). got_since c d (x ∷ shown) ≤ length rs) (sym rows) few;
      messages = sym (ap (map (λ m. Some (Sent c d m))) t);
      none_lost = λ live. absurd (lost_now c x past p l live);
    }

getting : (c e : Conn) (d r : Dir) (m : Message) (shown past : List Entry) → is_next m (in_transit e r past) → Waits c d shown past → Waits c d (Got e r m ∷ shown) (Got e r m ∷ past)
getting c e d r m shown past next w = elim (cases_Bool (same_connection c e)) [
  | inr other ↦ inert_there c d (Got e r m) shown past refl refl (rw other refl) (rw other refl) (rw other refl) w
  | inl same ↦
      elim (cases_Bool (has_line e r m)) [
        | inr no_line ↦ nothing_left c d (Got e r m) shown past refl refl (few_enough same) (rw (same, no_line) refl) (rw (same, no_line) refl)
        | inl line ↦
            elim (cases_Bool (same_direction d r)) [
              | inr another ↦ inert_there c d (Got e r m) shown past refl refl (rw (same, another) refl) (rw (same, line, another) refl) (rw (same, line) refl) w
              | inl way ↦
                  let first = first_way c d shown m w.on_way (in_transit c d past) w.messages (next_here same way) in
                  let row = first.0 in
                  let rows = first.1 in
                  let left : drop (got_since c d shown) (sent_since c d shown) ≡ row ∷ (rows ++ w.rest) = w.split ∙ ap (λ (l : List ℕ). l ++ w.rest) first.2 in
                  let count : got_since c d (Got e r m ∷ shown) ≡ got_since c d shown + 1 = rw (same, way) refl in
                  record {
                    on_way = rows;
                    rest = w.rest;
                    split = ap (λ n. drop n (sent_since c d shown)) count ∙ drop_one (got_since c d shown) (sent_since c d shown) (rows ++ w.rest) row left;
                    few = omega (arith, count, drop_short (got_since c d shown) (sent_since c d shown) (rows ++ w.rest) row left);
                    messages = all_stay c d (Got e r m) shown rows (without_first (in_transit c d past)) first.4 ∙ sym (ap (map (λ n. Some (Sent c d n))) (rw (same, line, way) refl));
                    none_lost = λ live. w.none_lost (sym (open_stays c (Got e r m) past refl (rw (same, line) refl)) ∙ live);
                  }
            ]
      ]
]
  where
    next_here : same_connection c e ≡ true → same_direction d r ≡ true → is_next m (in_transit c d past)
    next_here same way = subst (λ (x : Conn). is_next m (in_transit x d past)) (sym (same_is c e same)) (subst (λ (y : Dir). is_next m (in_transit e y past)) (sym (same_way_is d r way)) next)

    few_enough : same_connection c e ≡ true → got_since c d (Got e r m ∷ shown) ≤ length (sent_since c d shown)
    few_enough same = elim (cases_Bool (same_direction d r)) [
      | inl way ↦
          let first = first_way c d shown m w.on_way (in_transit c d past) w.messages (next_here same way) in
          let count : got_since c d (Got e r m ∷ shown) ≡ got_since c d shown + 1 = rw (same, way) refl in
          omega (arith, count, drop_short (got_since c d shown) (sent_since c d shown) (first.1 ++ w.rest) first.0 (w.split ∙ ap (λ (l : List ℕ). l ++ w.rest) first.2))
      | inr another ↦
          let count : got_since c d (Got e r m ∷ shown) ≡ got_since c d shown = rw (same, another) refl in
          omega (arith, count, w.few)
    ]

cutting : (c e : Conn) (d : Dir) (u v : ℕ) (shown past : List Entry) → Waits c d shown past → Waits c d (Cut e u v ∷ shown) (Cut e u v ∷ past)
cutting c e d u v shown past w = elim (cases_Bool (same_connection c e)) [
  | inr other ↦ inert_there c d (Cut e u v) shown past refl refl refl (rw other refl) (rw other refl) w
  | inl same ↦
      let n : ℕ = kept d u v in
      record {
        on_way = take n w.on_way;
        rest = drop n w.on_way ++ w.rest;
        split = w.split ∙ ap (λ (l : List ℕ). l ++ w.rest) (sym (take-append-drop n w.on_way)) ∙ append_assoc (take n w.on_way) (drop n w.on_way) w.rest;
        few = w.few;
        messages = map_take (λ q. in_row q (Cut e u v ∷ shown)) n w.on_way ∙ ap (take n) (all_stay c d (Cut e u v) shown w.on_way (in_transit c d past) w.messages)
            ∙ sym (map_take (λ i. Some (Sent c d i)) n (in_transit c d past)) ∙ sym (ap (map (λ i. Some (Sent c d i))) (rw same refl));
        none_lost = λ live. absurd (lost_now c (Cut e u v) past refl same live);
      }
]

stopping : (c : Conn) (d : Dir) (shown past : List Entry) → Waits c d shown past → Waits c d (Stopped ∷ shown) (Stopped ∷ past)
stopping c Up shown past w = nothing_left c Up Stopped shown past refl refl w.few refl refl
stopping c Down shown past w =
    record {
      on_way = w.on_way;
      rest = w.rest;
      split = w.split;
      few = w.few;
      messages = all_stay c Down Stopped shown w.on_way (in_transit c Down past) w.messages;
      none_lost = λ live. absurd (lost_now c Stopped past refl refl live);
    }

-- an entry of no message neither opens, sends nor gets
pub opens_none : (c : Conn) (x : Entry) → is_message x ≡ false → opens c x ≡ false
opens_none c (Sent e r m) k = absurd cc
opens_none c _ k = refl

pub sends_none : (c : Conn) (d : Dir) (x : Entry) → is_message x ≡ false → is_sent_on c d x ≡ false
sends_none c d (Sent e r m) k = absurd cc
sends_none c d _ k = refl

pub gets_none : (c : Conn) (d : Dir) (x : Entry) → is_message x ≡ false → is_got_on c d x ≡ false
gets_none c d (Got e r m) k = absurd cc
gets_none c d _ k = refl

-- an entry that carries no message, and loses none
abbrev is_quiet : Entry → Bool
is_quiet (Sent e r m) = false
is_quiet (Got e r m) = false
is_quiet (Cut e u v) = false
is_quiet Stopped = false
is_quiet _ = true

quiet_none : (x : Entry) → is_quiet x ≡ true → is_message x ≡ false
quiet_none (Sent e r m) k = absurd cc
quiet_none (Got e r m) k = absurd cc
quiet_none _ k = refl

loses_none : (c : Conn) (x : Entry) → is_quiet x ≡ true → loses c x ≡ false
loses_none c (Got e r m) k = absurd cc
loses_none c (Cut e u v) k = absurd cc
loses_none c Stopped k = absurd cc
loses_none c _ k = refl

moves_none : (c : Conn) (d : Dir) (past : List Entry) (x : Entry) (ms : List Message) → is_quiet x ≡ true → transit_after c d past x ms ≡ ms
moves_none c d past (Sent e r m) ms k = absurd cc
moves_none c d past (Got e r m) ms k = absurd cc
moves_none c d past (Cut e u v) ms k = absurd cc
moves_none c d past Stopped ms k = absurd cc
moves_none c d past _ ms k = refl

quiet : (c : Conn) (d : Dir) (x : Entry) (shown past : List Entry) → is_quiet x ≡ true → Waits c d shown past → Waits c d (x ∷ shown) (x ∷ past)
quiet c d x shown past k w = inert_there c d x shown past (opens_none c x (quiet_none x k)) (sends_none c d x (quiet_none x k)) (gets_none c d x (quiet_none x k)) (moves_none c d past x (in_transit c d past) k) (loses_none c x k) w

pub step : (c : Conn) (d : Dir) (x : Entry) (shown past : List Entry) → MayCross past x → Waits c d shown past → Waits c d (x ∷ shown) (x ∷ past)
step c d (Sent e r m) shown past k w = elim (cases_Bool (opens c (Sent e r m))) [
  | inl opened ↦ opening c e d r m shown past opened
  | inr not_opened ↦ sending c e d r m shown past not_opened w
]
step c d (Got e r m) shown past k w = getting c e d r m shown past k w
step c d (Cut e u v) shown past k w = cutting c e d u v shown past w
step c d Stopped shown past k w = stopping c d shown past w
step c d x shown past k w = quiet c d x shown past refl w

-- an entry that is shown beside the history
pub beside : (c : Conn) (d : Dir) (x : Entry) (shown past : List Entry) → is_message x ≡ false → Waits c d shown past → Waits c d (x ∷ shown) past
beside c d x shown past k w = inert c d x shown past past (opens_none c x k) (sends_none c d x k) (gets_none c d x k) refl (λ live. live) w
