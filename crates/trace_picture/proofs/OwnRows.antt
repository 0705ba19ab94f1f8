-- No two messages that come were sent in one row: the rows of those still to come are above all rows of those that came.
use Rattle.std.proofs.Common.{◌≡◌, ◌⊎◌, ℕ, suc, ◌+◌, ◌<◌, ◌≤◌, ◌==◌, ◌||◌, Bool, true, false, List, [], ◌∷◌, ◌++◌, Option, Some, None, length, drop, refl, ap, subst, sym, ◌∙◌, arith, inl, inr}
use Rattle.std.proofs.lemmas.Bool.{and_parts, both_ways, cases_Bool, eqb-true, ne_eqb}
use Rattle.dtx_values.specs.Ends.{same_connection, same_direction}
use Rattle.dtx_values.specs.declared.entry.Entry.{Entry}
use Rattle.dtx_values.specs.declared.entry.Entry.TheVariants.{Got, Sent}
use Rattle.dtx_values.specs.declared.message.Conn.{Conn}
use Rattle.dtx_values.specs.declared.message.Dir.{Dir}
use Rattle.dtx_values.specs.declared.message.Message.{Message}
use Rattle.dtx_model.specs.Wires.{opens}
use Rattle.dtx_model.specs.Words.{has}
use Rattle.dtx_model.proofs.Connections.{same_is, same_way_is}
use Rattle.trace_picture.specs.Crossings.{arrived, got_since, is_got_on, is_sent_on, origin_in, row_if, sent_since}
use Rattle.trace_picture.specs.OwnSent.{in_row, is_message}
use Rattle.trace_picture.proofs.OwnSent.{drop_at, drop_more, drop_one, gets_none, opens_none, sends_none, within}

-- from low on, each above the one before, and all below high
abbrev pub Ascends : ℕ → List ℕ → ℕ → Type 0
Ascends low [] high = low ≤ high
Ascends low (x ∷ xs) high = (low ≤ x) × Ascends (suc x) xs high

ascends_to : (low : ℕ) (xs : List ℕ) (high top : ℕ) → Ascends low xs high → high ≤ top → Ascends low xs top
ascends_to low [] high top k l = omega (arith, k, l)
ascends_to low (x ∷ xs) high top k l = (k.0, ascends_to (suc x) xs high top k.1 l)

ascends_more : (low : ℕ) (xs : List ℕ) (high : ℕ) → Ascends low xs high → Ascends low (xs ++ high ∷ []) (suc high)
ascends_more low [] high k = (k, omega arith)
ascends_more low (x ∷ xs) high k = (k.0, ascends_more (suc x) xs high k.1)

-- the rows of what was sent since the connection was opened and didn't come yet
abbrev pub waiting : Conn → Dir → List Entry → List ℕ
waiting c d shown = drop (got_since c d shown) (sent_since c d shown)

abbrev pub is_sent_there : Conn → Dir → Option Entry → Bool
is_sent_there c d None = false
is_sent_there c d (Some x) = is_sent_on c d x

-- a message that came was sent in this row
abbrev pub came_from : ℕ → List Entry → Bool
came_from q shown = has (λ i. q == i) (arrived shown)

-- the rows of what is still to come are above those of what came on the same connection and in the same direction
pub record Above (c : Conn) (d : Dir) (shown : List Entry) : Type 0 where
  pub low : ℕ
  pub ascends : Ascends low (waiting c d shown) (length shown)
  pub below : (q : ℕ) → came_from q shown ≡ true → is_sent_there c d (in_row q shown) ≡ true → q < low

-- what came was sent in rows that are there
abbrev pub AllShown : List Entry → Type 0
AllShown shown = (q : ℕ) → came_from q shown ≡ true → q < length shown

-- what is got was sent in the first row of what is still to come there
abbrev pub IsFirst : Entry → List Entry → Type 0
IsFirst (Got e r m) shown = (row : ℕ) × (rs : List ℕ) × (waiting e r shown ≡ row ∷ rs) × (in_row row shown ≡ Some (Sent e r m))
IsFirst _ shown = Unit {0}

older : (q : ℕ) (x : Entry) (shown : List Entry) → q < length shown → in_row q (x ∷ shown) ≡ in_row q shown
older q x shown k = rw (ne_eqb q (length shown) (λ e. omega (arith, e, k))) refl

no_origin : (shown : List Entry) (x : Entry) → is_message x ≡ false → origin_in shown x ≡ None
no_origin shown (Got e r m) k = absurd cc
no_origin shown _ k = refl

-- where the entry gets nothing, nothing more came
same_below : (c : Conn) (d : Dir) (x : Entry) (shown : List Entry) (low : ℕ) → arrived (x ∷ shown) ≡ arrived shown → AllShown shown
    → ((q : ℕ) → came_from q shown ≡ true → is_sent_there c d (in_row q shown) ≡ true → q < low) → (q : ℕ) → came_from q (x ∷ shown) ≡ true → is_sent_there c d (in_row q (x ∷ shown)) ≡ true → q < low
same_below c d x shown low e known below q k s =
    let before : came_from q shown ≡ true = sym (ap (has (λ i. q == i)) e) ∙ k in
    below q before (sym (ap (is_sent_there c d) (older q x shown (known q before))) ∙ s)

-- an entry of no message, or of one elsewhere that is sent
still : (c : Conn) (d : Dir) (x : Entry) (shown : List Entry) → opens c x ≡ false → is_sent_on c d x ≡ false → is_got_on c d x ≡ false → arrived (x ∷ shown) ≡ arrived shown → AllShown shown → Above c d shown → Above c d (x ∷ shown)
still c d x shown p q g e known a =
    let rows : sent_since c d (x ∷ shown) ≡ sent_since c d shown = rw (q, p) refl in
    let count : got_since c d (x ∷ shown) ≡ got_since c d shown = rw (p, g) refl in
    record {
      low = a.low;
      ascends = subst (λ (ws : List ℕ). Ascends a.low ws (length (x ∷ shown))) (sym (λ j. drop (count j) (rows j))) (ascends_to a.low (waiting c d shown) (length shown) (length (x ∷ shown)) a.ascends (omega arith));
      below = same_below c d x shown a.low e known a.below;
    }

-- a message that opens the connection
opened : (c : Conn) (d : Dir) (e : Conn) (r : Dir) (m : Message) (shown : List Entry) → opens c (Sent e r m) ≡ true → AllShown shown → Above c d (Sent e r m ∷ shown)
opened c d e r m shown p known =
    let rows : sent_since c d (Sent e r m ∷ shown) ≡ row_if (is_sent_on c d (Sent e r m)) (length shown) [] = rw p refl in
    let count : got_since c d (Sent e r m ∷ shown) ≡ 0 = rw p refl in
    record {
      low = length shown;
      ascends = subst (λ (ws : List ℕ). Ascends (length shown) ws (suc (length shown))) (sym (λ j. drop (count j) (rows j))) (by (is_sent_on c d (Sent e r m)));
      below = same_below c d (Sent e r m) shown (length shown) refl known (λ q k s. known q k);
    }
  where
    by : (b : Bool) → Ascends (length shown) (row_if b (length shown) []) (suc (length shown))
    by true = (omega arith, omega arith)
    by false = omega arith

-- a message on the connection
sent : (c : Conn) (d : Dir) (e : Conn) (r : Dir) (m : Message) (shown : List Entry) → opens c (Sent e r m) ≡ false → is_sent_on c d (Sent e r m) ≡ true → got_since c d shown ≤ length (sent_since c d shown) → AllShown shown
    → Above c d shown → Above c d (Sent e r m ∷ shown)
sent c d e r m shown p q few known a =
    let rows : sent_since c d (Sent e r m ∷ shown) ≡ sent_since c d shown ++ length shown ∷ [] = rw (q, p) refl in
    let count : got_since c d (Sent e r m ∷ shown) ≡ got_since c d shown = rw p refl in
    let same : waiting c d (Sent e r m ∷ shown) ≡ waiting c d shown ++ length shown ∷ [] =
    (λ j. drop (count j) (rows j)) ∙ drop_more (got_since c d shown) (sent_since c d shown) (length shown ∷ []) few in
    record {
      low = a.low;
      ascends = subst (λ (ws : List ℕ). Ascends a.low ws (suc (length shown))) (sym same) (ascends_more a.low (waiting c d shown) (length shown) a.ascends);
      below = same_below c d (Sent e r m) shown a.low refl known a.below;
    }

-- the rows of what came, with that of the message that comes
came_more : (e : Conn) (r : Dir) (m : Message) (shown : List Entry) (first : IsFirst (Got e r m) shown) → arrived (Got e r m ∷ shown) ≡ first.0 ∷ arrived shown
came_more e r m shown first = rw (drop_at (got_since e r shown) (sent_since e r shown) first.1 first.0 first.2) refl

-- a row of what came is that of the message that comes, or came before
came_or : (e : Conn) (r : Dir) (m : Message) (shown : List Entry) (first : IsFirst (Got e r m) shown) (q : ℕ) → came_from q (Got e r m ∷ shown) ≡ true → (q ≡ first.0) ⊎ (came_from q shown ≡ true)
came_or e r m shown first q k =
    let now : ((q == first.0) || came_from q shown) ≡ true = sym (ap (has (λ i. q == i)) (came_more e r m shown first)) ∙ k in
    elim (cases_Bool (q == first.0)) [
      | inl same ↦ inl (eqb-true q first.0 same)
      | inr other ↦ inr (subst (λ b. (b || came_from q shown) ≡ true) other now)
    ]

-- a message that comes on this connection, in this direction
got_here : (c : Conn) (d : Dir) (m : Message) (shown : List Entry) → IsFirst (Got c d m) shown → is_got_on c d (Got c d m) ≡ true → AllShown shown → Above c d shown → Above c d (Got c d m ∷ shown)
got_here c d m shown first g known a =
    let count : got_since c d (Got c d m ∷ shown) ≡ got_since c d shown + 1 = rw g refl in
    let rows : waiting c d (Got c d m ∷ shown) ≡ first.1 = ap (λ n. drop n (sent_since c d shown)) count ∙ drop_one (got_since c d shown) (sent_since c d shown) first.1 first.0 first.2 in
    let start : Ascends a.low (first.0 ∷ first.1) (length shown) = subst (λ (ws : List ℕ). Ascends a.low ws (length shown)) first.2 a.ascends in
    record {
      low = suc first.0;
      ascends = subst (λ (ws : List ℕ). Ascends (suc first.0) ws (suc (length shown))) (sym rows) (ascends_to (suc first.0) first.1 (length shown) (suc (length shown)) start.1 (omega arith));
      below = λ q k s. elim (came_or c d m shown first q k) [
        | inl now ↦ omega (arith, now)
        | inr before ↦ omega (arith, start.0, a.below q before (sym (ap (is_sent_there c d) (older q (Got c d m) shown (known q before))) ∙ s))
      ];
    }

-- one that comes elsewhere
got_there : (c : Conn) (d : Dir) (e : Conn) (r : Dir) (m : Message) (shown : List Entry) → IsFirst (Got e r m) shown → is_got_on c d (Got e r m) ≡ false → AllShown shown → Above c d shown → Above c d (Got e r m ∷ shown)
got_there c d e r m shown first g known a =
    let count : got_since c d (Got e r m ∷ shown) ≡ got_since c d shown = rw g refl in
    record {
      low = a.low;
      ascends = subst (λ (ws : List ℕ). Ascends a.low ws (suc (length shown))) (sym (ap (λ n. drop n (sent_since c d shown)) count)) (ascends_to a.low (waiting c d shown) (length shown) (suc (length shown)) a.ascends (omega arith));
      below = λ q k s. elim (came_or e r m shown first q k) [
        | inl now ↦ absurd (both_ways (is_sent_on c d (Sent e r m)) g (not_sent q now s))
        | inr before ↦ a.below q before (sym (ap (is_sent_there c d) (older q (Got e r m) shown (known q before))) ∙ s)
      ];
    }
  where
    not_sent : (q : ℕ) → q ≡ first.0 → is_sent_there c d (in_row q (Got e r m ∷ shown)) ≡ true → is_sent_on c d (Sent e r m) ≡ true
    not_sent q now s =
        let there : in_row first.0 (Got e r m ∷ shown) ≡ Some (Sent e r m) = older first.0 (Got e r m) shown (within first.0 shown (Sent e r m) first.3) ∙ first.3 in
        sym (ap (is_sent_there c d) (ap (λ i. in_row i (Got e r m ∷ shown)) now ∙ there)) ∙ s

getting : (c : Conn) (d : Dir) (e : Conn) (r : Dir) (m : Message) (shown : List Entry) → IsFirst (Got e r m) shown → AllShown shown → Above c d shown → Above c d (Got e r m ∷ shown)
getting c d e r m shown first known a = elim (cases_Bool (is_got_on c d (Got e r m))) [
  | inr there ↦ got_there c d e r m shown first there known a
  | inl here ↦
      let both = and_parts (same_connection c e) (same_direction d r) here in
      by (same_is c e both.0) (same_way_is d r both.1) here first
]
  where
    by : c ≡ e → d ≡ r → is_got_on c d (Got e r m) ≡ true → IsFirst (Got e r m) shown → Above c d (Got e r m ∷ shown)
    by p q here f =
        let own : IsFirst (Got c d m) shown = subst (λ (z : Conn). IsFirst (Got z d m) shown) (sym p) (subst (λ (y : Dir). IsFirst (Got e y m) shown) (sym q) f) in
        let same : is_got_on c d (Got c d m) ≡ true = (λ j. is_got_on c d (Got (p j) (q j) m)) ∙ here in
        subst (λ (z : Conn). Above c d (Got z r m ∷ shown)) p (subst (λ (y : Dir). Above c d (Got c y m ∷ shown)) q (got_here c d m shown own same known a))

-- an entry of no message
pub plain_came : (x : Entry) (shown : List Entry) → is_message x ≡ false → arrived (x ∷ shown) ≡ arrived shown
plain_came x shown k = rw (no_origin shown x k) refl

pub above_plain : (c : Conn) (d : Dir) (x : Entry) (shown : List Entry) → is_message x ≡ false → AllShown shown → Above c d shown → Above c d (x ∷ shown)
above_plain c d x shown k known a = still c d x shown (opens_none c x k) (sends_none c d x k) (gets_none c d x k) (plain_came x shown k) known a

-- after each entry
pub above_step : (c : Conn) (d : Dir) (x : Entry) (shown : List Entry) → got_since c d shown ≤ length (sent_since c d shown) → IsFirst x shown → AllShown shown → Above c d shown → Above c d (x ∷ shown)
above_step c d (Sent e r m) shown few first known a = elim (cases_Bool (opens c (Sent e r m))) [
  | inl begins ↦ opened c d e r m shown begins known
  | inr not_open ↦ elim (cases_Bool (is_sent_on c d (Sent e r m))) [
    | inl here ↦ sent c d e r m shown not_open here few known a
    | inr there ↦ still c d (Sent e r m) shown not_open there refl refl known a
  ]
]
above_step c d (Got e r m) shown few first known a = getting c d e r m shown first known a
above_step c d x shown few first known a = above_plain c d x shown refl known a

plain_shown : (x : Entry) (shown : List Entry) → arrived (x ∷ shown) ≡ arrived shown → AllShown shown → AllShown (x ∷ shown)
plain_shown x shown e known q k = omega (arith, known q (sym (ap (has (λ i. q == i)) e) ∙ k))

pub shown_plain : (x : Entry) (shown : List Entry) → is_message x ≡ false → AllShown shown → AllShown (x ∷ shown)
shown_plain x shown k known = plain_shown x shown (plain_came x shown k) known

pub shown_step : (x : Entry) (shown : List Entry) → IsFirst x shown → AllShown shown → AllShown (x ∷ shown)
shown_step (Sent e r m) shown first known = plain_shown (Sent e r m) shown refl known
shown_step (Got e r m) shown first known = λ q k. elim (came_or e r m shown first q k) [
  | inl now ↦ omega (arith, now, within first.0 shown (Sent e r m) first.3)
  | inr before ↦ omega (arith, known q before)
]
shown_step x shown first known = shown_plain x shown refl known
