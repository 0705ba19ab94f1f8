-- Two stores are holders of prepared work.
use Rattle.std.specs.Prelude.{◌≢◌}
use Rattle.std.proofs.Common.{◌≡◌, ◌⊎◌, inl, inr, ℕ, ◌==◌, Bool, true, false, ◌&&◌, cond, List, [], ◌++◌, Option, Some, None, refl, sym, ap, subst, ◌∙◌, arith}
use Rattle.std.proofs.lemmas.Bool.{and_parts, cases_Bool}
use Rattle.std.proofs.lemmas.Bool.Decides.{nat_tests}
use Rattle.dtx_values.proofs.Ids.{same_id}
use Rattle.dtx_values.proofs.SameNumbers.{same_enlistment}
use Rattle.dtx_values.specs.TxIds.{number_of}
use Rattle.dtx_values.specs.declared.note.Note.{Note}
use Rattle.dtx_values.specs.declared.note.Note.TheVariants.{Rollback}
use Rattle.dtx_values.specs.declared.note.Reply.{Reply}
use Rattle.dtx_values.specs.declared.note.Reply.TheVariants.{Vote as VoteReply, Ack}
use Rattle.dtx_values.specs.declared.words.Vote.TheVariants.{Yes}
use Rattle.dtx_model.specs.Outcome.{is_empty}
use Rattle.recovery_laws.specs.Whole.{Site}
use Rattle.resource_managers.specs.Holding.{Holding}
use Rattle.resource_managers.specs.Pairs.{enlistment, pair_of}
use Rattle.resource_managers.specs.declared.enlistment.Enlistment.{Enlistment}
use Rattle.kv_resource.specs.Store.{KvState, Pair}
use Rattle.all_or_nothing.specs.Marks.{At, Becomes, IsTurned, Nowhere, fits_if, is_at, is_single, is_unmarked, marks_in, marks_of}
use Rattle.all_or_nothing.specs.Objects.{AreHolders}
use Rattle.kv_holding.specs.Holding.{KvHolds, KvKeeps, KvLeaves, KvSound, is_pair}
use Rattle.kv_holding.specs.TwoStores.{AreSound, AreTwoHolders, IsHandedOn, KeptBy, TheyGive, TwoKeep, TwoLeave, is_as, place_by, place_of, two_sites}
use Rattle.kv_holding.proofs.Held.{holds}
use Rattle.kv_holding.proofs.Records.{itself, none_after}

-- ---- what is enlisted

equal : (a b : ℕ) → (a == b) ≡ true → a ≡ b
equal a b e = grind (arith, nat_tests)

and_both : (a b : Bool) → a ≡ true → b ≡ true → a && b ≡ true
and_both true b p q = q
and_both false b p q = p

same_pair : (a b : Enlistment) → number_of a.transaction ≡ number_of b.transaction → a.number.value ≡ b.number.value → a ≡ b
same_pair a b p q = λ i. enlistment (same_id a.transaction b.transaction p i) (same_enlistment a.number b.number q i)

as_is : (o : Option Enlistment) (e : Enlistment) → is_as o e ≡ true → o ≡ Some e
as_is None e h = absurd cc
as_is (Some x) e h =
    let parts = and_parts (number_of x.transaction == number_of e.transaction) (x.number.value == e.number.value) h in
    ap Some (same_pair x e (equal (number_of x.transaction) (number_of e.transaction) parts.0) (equal x.number.value e.number.value parts.1))

as_not : (o : Option Enlistment) (e : Enlistment) → is_as o e ≡ false → o ≢ Some e
as_not o e off is =
    let on : is_as o e ≡ true = ap (λ (x : Option Enlistment). is_as x e) is ∙ and_both (number_of e.transaction == number_of e.transaction) (e.number.value == e.number.value) (itself (number_of e.transaction)) (itself e.number.value) in
    let both : true ≡ false = sym on ∙ off in cc

-- ---- places, and what is kept

left_place : (i j m : ℕ) (x y : Bool) → x ≡ true → place_by i j x y ≡ At m → i ≡ m
left_place i j m true y e h = cc
left_place i j m false y e h = absurd cc

right_place : (i j m : ℕ) (x y : Bool) → x ≡ false → y ≡ true → place_by i j x y ≡ At m → j ≡ m
right_place i j m false true e f h = cc
right_place i j m false false e f h = absurd cc
right_place i j m true y e f h = absurd cc

left_at : (i j m : ℕ) (x y : Bool) → x ≡ true → is_at (place_by i j x y) m ≡ (m == i)
left_at i j m true y e = refl
left_at i j m false y e = absurd cc

right_at : (i j m : ℕ) (x y : Bool) → x ≡ false → y ≡ true → is_at (place_by i j x y) m ≡ (m == j)
right_at i j m false true e f = refl
right_at i j m false false e f = absurd cc
right_at i j m true y e f = absurd cc

nowhere_at : (i j m : ℕ) (x y : Bool) → x ≡ false → y ≡ false → is_at (place_by i j x y) m ≡ false
nowhere_at i j m false false e f = refl
nowhere_at i j m false true e f = absurd cc
nowhere_at i j m true y e f = absurd cc

left_somewhere : (i j : ℕ) (x y : Bool) → x ≡ true → place_by i j x y ≡ Nowhere → ⊥
left_somewhere i j true y e h = cc
left_somewhere i j false y e h = cc

right_somewhere : (i j : ℕ) (x y : Bool) → x ≡ false → y ≡ true → place_by i j x y ≡ Nowhere → ⊥
right_somewhere i j false true e f h = cc
right_somewhere i j false false e f h = cc
right_somewhere i j true y e f h = cc

no_place : (i j m : ℕ) (x y : Bool) → x ≡ false → y ≡ false → place_by i j x y ≡ At m → ⊥
no_place i j m false false e f h = cc
no_place i j m false true e f h = cc
no_place i j m true y e f h = cc

keep_left : (x y : Bool) (L R : Type 0) → x ≡ true → L → KeptBy x y L R
keep_left true y L R e l = l
keep_left false y L R e l = absurd cc

keep_right : (x y : Bool) (L R : Type 0) → x ≡ false → y ≡ true → R → KeptBy x y L R
keep_right false true L R e f r = r
keep_right false false L R e f r = absurd cc
keep_right true y L R e f r = absurd cc

kept_by : (x y : Bool) (L R : Type 0) → KeptBy x y L R → ((x ≡ true) × L) ⊎ ((x ≡ false) × (y ≡ true) × R)
kept_by true y L R k = inl (refl, k)
kept_by false true L R k = inr (refl, refl, k)
kept_by false false L R k = absurd k

-- ---- the marks at two sites

-- what is held at one manager, by whether it is the left one's, and by whether it is the right one's
abbrev joined : Bool → Bool → List Bool → List Bool → List Bool
joined b c xs ys = cond b (xs ++ cond c (ys ++ []) []) (cond c (ys ++ []) [])

left_only : (b c : Bool) (xs ys : List Bool) → b ≡ true → c ≡ false → joined b c xs ys ≡ xs
left_only true false xs ys e f = none_after xs
left_only true true xs ys e f = absurd cc
left_only false c xs ys e f = absurd cc

right_only : (b c : Bool) (xs ys : List Bool) → b ≡ false → c ≡ true → joined b c xs ys ≡ ys
right_only false true xs ys e f = none_after ys
right_only false false xs ys e f = absurd cc
right_only true c xs ys e f = absurd cc

left_same : (b c : Bool) (xs zs ys : List Bool) → (b ≡ true → xs ≡ zs) → joined b c xs ys ≡ joined b c zs ys
left_same true c xs zs ys h = ap (λ (l : List Bool). l ++ cond c (ys ++ []) []) (h refl)
left_same false c xs zs ys h = refl

right_same : (b c : Bool) (xs ys zs : List Bool) → (c ≡ true → ys ≡ zs) → joined b c xs ys ≡ joined b c xs zs
right_same b true xs ys zs h = ap (λ (l : List Bool). joined b true xs l) (h refl)
right_same b false xs ys zs h = refl

apart : (i j : ℕ) → (i == j) ≡ false → (j == i) ≡ false
apart i j e = grind (arith, nat_tests)

marks_left : (i j n e : ℕ) (hs ks : List Holding) → (i == j) ≡ false → marks_of i n e (two_sites i j hs ks) ≡ marks_in n e hs
marks_left i j n e hs ks other = left_only (i == i) (i == j) (marks_in n e hs) (marks_in n e ks) (itself i) other

marks_right : (i j n e : ℕ) (hs ks : List Holding) → (i == j) ≡ false → marks_of j n e (two_sites i j hs ks) ≡ marks_in n e ks
marks_right i j n e hs ks other = right_only (j == i) (j == j) (marks_in n e hs) (marks_in n e ks) (apart i j other) (itself j)

off_pair : (x b : Bool) → x && b ≡ false → x ≡ true → b ≡ false
off_pair true b e f = e
off_pair false b e f = absurd cc

-- ---- two stores that hear a note

module _ {D : Type 0} (honest : Bool) (image : D → List ℕ → Type 0) (faults : D → ℕ) (i j : ℕ) (two : (i == j) ≡ false) (left right left_now right_now : KvState D) (left_as right_as : Option Enlistment) (e : Enlistment) (n : Note) (a : Option Reply) (sound : AreSound honest image left right) (h : IsHandedOn honest image faults left right left_as right_as e n a left_now right_now) where
  abbrev x : Bool
  x = is_as left_as e

  abbrev y : Bool
  y = is_as right_as e

  abbrev p : Pair
  p = pair_of e

  -- one of them heard it, or neither
  abbrev ToLeft : Type 0
  ToLeft = (x ≡ true) × KvHolds honest image left p n a left_now × (right_now ≡ right)

  abbrev ToRight : Type 0
  ToRight = (x ≡ false) × (y ≡ true) × KvHolds honest image right p n a right_now × (left_now ≡ left)

  abbrev ToNobody : Type 0
  ToNobody = (x ≡ false) × (y ≡ false) × (a ≡ None) × (left_now ≡ left) × (right_now ≡ right)

  heard : ToLeft ⊎ (ToRight ⊎ ToNobody)
  heard = elim (cases_Bool (is_as left_as e)) [
    | inl here ↦ let g = h.to_left (as_is left_as e here) in inl (here, holds honest image faults left left_now p n a sound.0 g.0, g.1)
    | inr off ↦ elim (cases_Bool (is_as right_as e)) [
      | inl here ↦ let g = h.to_right (as_not left_as e off) (as_is right_as e here) in inr (inl (off, here, holds honest image faults right right_now p n a sound.1 g.0, g.1))
      | inr none ↦ let g = h.to_nobody (as_not left_as e off) (as_not right_as e none) in inr (inr (off, none, g.0, g.1.0, g.1.1))
    ]
  ]

  sound_now : AreSound honest image left_now right_now
  sound_now = elim heard [
    | inl l ↦ (l.1.sound, subst (KvSound honest image) (sym l.2) sound.1)
    | inr (inl r) ↦ (subst (KvSound honest image) (sym r.3) sound.0, r.2.sound)
    | inr (inr o) ↦ (subst (KvSound honest image) (sym o.3) sound.0, subst (KvSound honest image) (sym o.4) sound.1)
  ]

  answer_fits : fits_if a n ≡ true
  answer_fits = elim heard [
    | inl l ↦ l.1.fitting
    | inr (inl r) ↦ r.2.fitting
    | inr (inr o) ↦ ap (λ (r : Option Reply). fits_if r n) o.2
  ]

  -- what each keeps stays, but for what was rolled back
  left_stays : (q : Pair) → KvKeeps honest image left q → KvKeeps honest image left_now q ⊎ ((q ≡ p) × (n ≡ Rollback))
  left_stays q k = elim heard [
    | inl l ↦ l.1.stays q k
    | inr (inl r) ↦ inl (subst (λ (s : KvState D). KvKeeps honest image s q) (sym r.3) k)
    | inr (inr o) ↦ inl (subst (λ (s : KvState D). KvKeeps honest image s q) (sym o.3) k)
  ]

  right_stays : (q : Pair) → KvKeeps honest image right q → KvKeeps honest image right_now q ⊎ ((q ≡ p) × (n ≡ Rollback))
  right_stays q k = elim heard [
    | inl l ↦ inl (subst (λ (s : KvState D). KvKeeps honest image s q) (sym l.2) k)
    | inr (inl r) ↦ r.2.stays q k
    | inr (inr o) ↦ inl (subst (λ (s : KvState D). KvKeeps honest image s q) (sym o.4) k)
  ]

  keeps_on : (f : Enlistment) → TwoKeep honest image left right left_as right_as f → TwoKeep honest image left_now right_now left_as right_as f ⊎ ((pair_of f ≡ p) × (n ≡ Rollback))
  keeps_on f k =
      let L = KvKeeps honest image left_now (pair_of f) in
      let R = KvKeeps honest image right_now (pair_of f) in
      elim (kept_by (is_as left_as f) (is_as right_as f) (KvKeeps honest image left (pair_of f)) (KvKeeps honest image right (pair_of f)) k) [
        | inl l ↦ elim (left_stays (pair_of f) l.1) [ inl on ↦ inl (keep_left (is_as left_as f) (is_as right_as f) L R l.0 on) | inr gone ↦ inr gone ]
        | inr r ↦ elim (right_stays (pair_of f) r.2) [ inl on ↦ inl (keep_right (is_as left_as f) (is_as right_as f) L R r.0 r.1 on) | inr gone ↦ inr gone ]
      ]

  yes_somewhere : a ≡ Some (VoteReply Yes) → place_of i j left_as right_as e ≡ Nowhere → ⊥
  yes_somewhere voted none = elim heard [
    | inl l ↦ left_somewhere i j x y l.0 none
    | inr (inl r) ↦ right_somewhere i j x y r.0 r.1 none
    | inr (inr o) ↦ let silent = o.2 in cc
  ]

  yes_keeps : a ≡ Some (VoteReply Yes) → TwoKeep honest image left_now right_now left_as right_as e
  yes_keeps voted =
      let L = KvKeeps honest image left_now p in
      let R = KvKeeps honest image right_now p in
      elim heard [
        | inl l ↦ keep_left x y L R l.0 (l.1.yes voted)
        | inr (inl r) ↦ keep_right x y L R r.0 r.1 (r.2.yes voted)
        | inr (inr o) ↦ absurd (let silent = o.2 in cc)
      ]

  -- what a crash may leave of both
  abbrev Turned : List Site → Type 0
  Turned new = (old : List Site) × TwoLeave honest image i j left right old × IsTurned (place_of i j left_as right_as e) p.0 p.1 n a old new

  left_turned : ToLeft → (hs ks : List Holding) → KvLeaves honest image left_now hs → KvLeaves honest image right ks → Turned (two_sites i j hs ks)
  left_turned l hs ks lh lk =
      let t = l.1.turns hs lh in
      let gs = t.0 in (
        two_sites i j gs ks,
        (gs, ks, t.1, lk, refl),
        record {
          own = λ m at.
              let is : i ≡ m = sym (equal m i (sym (left_at i j m x y l.0) ∙ at)) in
              subst (λ (k : ℕ). is_single (marks_of k p.0 p.1 (two_sites i j gs ks)) ≡ true → Becomes n a (marks_of k p.0 p.1 (two_sites i j gs ks)) (marks_of k p.0 p.1 (two_sites i j hs ks))) is
              (λ one. subst (λ (o : List Bool). Becomes n a o (marks_of i p.0 p.1 (two_sites i j hs ks))) (sym (marks_left i j p.0 p.1 gs ks two))
              (subst (λ (o : List Bool). Becomes n a (marks_in p.0 p.1 gs) o) (sym (marks_left i j p.0 p.1 hs ks two)) (t.2 (ap is_single (sym (marks_left i j p.0 p.1 gs ks two)) ∙ one))));
          others = λ m k f off. left_same (m == i) (m == j) (marks_in k f hs) (marks_in k f gs) (marks_in k f ks) (λ at. t.3 k f (off_pair (is_at (place_by i j x y) m) (is_pair p k f) off (left_at i j m x y l.0 ∙ at)));
        },
      )

  right_turned : ToRight → (hs ks : List Holding) → KvLeaves honest image left hs → KvLeaves honest image right_now ks → Turned (two_sites i j hs ks)
  right_turned r hs ks lh lk =
      let t = r.2.turns ks lk in
      let gs = t.0 in (
        two_sites i j hs gs,
        (hs, gs, lh, t.1, refl),
        record {
          own = λ m at.
              let is : j ≡ m = sym (equal m j (sym (right_at i j m x y r.0 r.1) ∙ at)) in
              subst (λ (k : ℕ). is_single (marks_of k p.0 p.1 (two_sites i j hs gs)) ≡ true → Becomes n a (marks_of k p.0 p.1 (two_sites i j hs gs)) (marks_of k p.0 p.1 (two_sites i j hs ks))) is
              (λ one. subst (λ (o : List Bool). Becomes n a o (marks_of j p.0 p.1 (two_sites i j hs ks))) (sym (marks_right i j p.0 p.1 hs gs two))
              (subst (λ (o : List Bool). Becomes n a (marks_in p.0 p.1 gs) o) (sym (marks_right i j p.0 p.1 hs ks two)) (t.2 (ap is_single (sym (marks_right i j p.0 p.1 hs gs two)) ∙ one))));
          others = λ m k f off. right_same (m == i) (m == j) (marks_in k f hs) (marks_in k f ks) (marks_in k f gs) (λ at. t.3 k f (off_pair (is_at (place_by i j x y) m) (is_pair p k f) off (right_at i j m x y r.0 r.1 ∙ at)));
        },
      )

  still_turned : ToNobody → (hs ks : List Holding) → KvLeaves honest image left hs → KvLeaves honest image right ks → Turned (two_sites i j hs ks)
  still_turned o hs ks lh lk = (
    two_sites i j hs ks,
    (hs, ks, lh, lk, refl),
    record { own = λ m at. absurd (let none = nowhere_at i j m x y o.0 o.1 in let both : true ≡ false = sym at ∙ none in cc); others = λ m k f off. refl },
  )

  turned : (new : List Site) → TwoLeave honest image i j left_now right_now new → Turned new
  turned new (hs, ks, lh, lk, is) = subst Turned (sym is) (elim heard [
    | inl l ↦ left_turned l hs ks lh (subst (λ (s : KvState D). KvLeaves honest image s ks) l.2 lk)
    | inr (inl r) ↦ right_turned r hs ks (subst (λ (s : KvState D). KvLeaves honest image s hs) r.3 lh) lk
    | inr (inr o) ↦ still_turned o hs ks (subst (λ (s : KvState D). KvLeaves honest image s hs) o.3 lh) (subst (λ (s : KvState D). KvLeaves honest image s ks) o.4 lk)
  ])

  -- what is acknowledged isn't unmarked
  acked_here : a ≡ Some Ack → TwoKeep honest image left right left_as right_as e → (m : ℕ) → place_of i j left_as right_as e ≡ At m → (ss : List Site) → TwoLeave honest image i j left_now right_now ss → is_unmarked (marks_of m p.0 p.1 ss) ≡ false
  acked_here ack k m at ss (hs, ks, lh, lk, is) =
      ap (λ (z : List Site). is_unmarked (marks_of m p.0 p.1 z)) is ∙ (elim (kept_by x y (KvKeeps honest image left p) (KvKeeps honest image right p) k) [
        | inl kept ↦ elim heard [
          | inl l ↦ sym (ap (λ (z : ℕ). is_unmarked (marks_of z p.0 p.1 (two_sites i j hs ks))) (left_place i j m x y l.0 at)) ∙ (ap is_unmarked (marks_left i j p.0 p.1 hs ks two) ∙ l.1.acked ack kept.1 hs lh)
          | inr (inl r) ↦ absurd (let on = kept.0 in let off = r.0 in let both : true ≡ false = sym on ∙ off in cc)
          | inr (inr o) ↦ absurd (let silent = o.2 in cc)
        ]
        | inr kept ↦ elim heard [
          | inl l ↦ absurd (let on = l.0 in let off = kept.0 in let both : true ≡ false = sym on ∙ off in cc)
          | inr (inl r) ↦ sym (ap (λ (z : ℕ). is_unmarked (marks_of z p.0 p.1 (two_sites i j hs ks))) (right_place i j m x y r.0 r.1 at)) ∙ (ap is_unmarked (marks_right i j p.0 p.1 hs ks two) ∙ r.2.acked ack kept.2 ks lk)
          | inr (inr o) ↦ absurd (let silent = o.2 in cc)
        ]
      ])

-- what is kept is held
kept_held : {D : Type 0} (honest : Bool) (image : D → List ℕ → Type 0) (i j : ℕ) → (i == j) ≡ false → (left right : KvState D) (left_as right_as : Option Enlistment) (f : Enlistment) (m : ℕ)
    → TwoKeep honest image left right left_as right_as f → place_of i j left_as right_as f ≡ At m → (ss : List Site) → TwoLeave honest image i j left right ss → is_empty (marks_of m (pair_of f).0 (pair_of f).1 ss) ≡ false
kept_held honest image i j two left right left_as right_as f m k at ss (hs, ks, lh, lk, is) =
    let q = pair_of f in
    let x = is_as left_as f in
    let y = is_as right_as f in
    ap (λ (z : List Site). is_empty (marks_of m q.0 q.1 z)) is ∙ (elim (kept_by x y (KvKeeps honest image left q) (KvKeeps honest image right q) k) [
      | inl l ↦ sym (ap (λ (z : ℕ). is_empty (marks_of z q.0 q.1 (two_sites i j hs ks))) (left_place i j m x y l.0 at)) ∙ (ap (λ (z : List Bool). is_empty z) (marks_left i j q.0 q.1 hs ks two) ∙ l.1.1 hs lh)
      | inr r ↦ sym (ap (λ (z : ℕ). is_empty (marks_of z q.0 q.1 (two_sites i j hs ks))) (right_place i j m x y r.0 r.1 at)) ∙ (ap (λ (z : List Bool). is_empty z) (marks_right i j q.0 q.1 hs ks two) ∙ r.2.1 ks lk)
    ])

-- ---- objects that are two stores

-- Objects are holders of prepared work where they have two stores, hand each note on to them, and enlist none anew under it.
module _ {D O : Type 0} (honest : Bool) (image : D → List ℕ → Type 0) (faults : D → ℕ) (i j : ℕ) (two : (i == j) ≡ false) (left right : O → KvState D) (left_as right_as : O → Option Enlistment) (gives : O → Enlistment → Note → Option Reply → O → Type 0)
    (handed : (a b : O) (e : Enlistment) (n : Note) (r : Option Reply) → gives a e n r b
    → IsHandedOn honest image faults (left a) (right a) (left_as a) (right_as a) e n r (left b) (right b) × ((left_as b ≡ left_as a) × (right_as b ≡ right_as a))) where
  abbrev Keeps : O → Enlistment → Type 0
  Keeps o = TwoKeep honest image (left o) (right o) (left_as o) (right_as o)

  -- by what is enlisted before
  keeps_as : (a b : O) (f : Enlistment) → left_as b ≡ left_as a → right_as b ≡ right_as a → TwoKeep honest image (left b) (right b) (left_as a) (right_as a) f → Keeps b f
  keeps_as a b f s t k = subst (λ (l : Option Enlistment). TwoKeep honest image (left b) (right b) l (right_as b) f) (sym s) (subst (λ (r : Option Enlistment). TwoKeep honest image (left b) (right b) (left_as a) r f) (sym t) k)

  pub stores_hold : AreHolders gives (λ o. place_of i j (left_as o) (right_as o)) (λ o. TwoKeep honest image (left o) (right o) (left_as o) (right_as o)) (λ o. TwoLeave honest image i j (left o) (right o)) (λ o. AreSound honest image (left o) (right o))
  stores_hold = record {
    hears = λ a b e n r sound g.
        let h = handed a b e n r g in
        record {
          fitting = answer_fits honest image faults i j two (left a) (right a) (left b) (right b) (left_as a) (right_as a) e n r sound h.0;
          somewhere = yes_somewhere honest image faults i j two (left a) (right a) (left b) (right b) (left_as a) (right_as a) e n r sound h.0;
          turns = turned honest image faults i j two (left a) (right a) (left b) (right b) (left_as a) (right_as a) e n r sound h.0;
          yes = λ voted m at. keeps_as a b e h.1.0 h.1.1 (yes_keeps honest image faults i j two (left a) (right a) (left b) (right b) (left_as a) (right_as a) e n r sound h.0 voted);
          stays = λ f k.
              let fe = enlistment e.transaction f in
              elim (keeps_on honest image faults i j two (left a) (right a) (left b) (right b) (left_as a) (right_as a) e n r sound h.0 fe k) [
                | inl on ↦ inl (keeps_as a b fe h.1.0 h.1.1 on)
                | inr gone ↦ inr (same_enlistment f e.number (ap (λ (q : Pair). q.1) gone.0), gone.1)
              ];
          acked = acked_here honest image faults i j two (left a) (right a) (left b) (right b) (left_as a) (right_as a) e n r sound h.0;
        };
    on = λ a b e n r sound g. sound_now honest image faults i j two (left a) (right a) (left b) (right b) (left_as a) (right_as a) e n r sound (handed a b e n r g).0;
    places = λ a b e n r g f. let h = handed a b e n r g in λ t. place_of i j (h.1.0 t) (h.1.1 t) f;
    others = λ a b e n r sound g f other k.
        let h = handed a b e n r g in
        elim (keeps_on honest image faults i j two (left a) (right a) (left b) (right b) (left_as a) (right_as a) e n r sound h.0 f k) [
          | inl on ↦ keeps_as a b f h.1.0 h.1.1 on
          | inr gone ↦ absurd (let same : (number_of f.transaction == number_of e.transaction) ≡ true = ap (λ (q : Pair). q.0 == number_of e.transaction) gone.0 ∙ itself (number_of e.transaction) in let both : true ≡ false = sym same ∙ other in cc)
        ];
    held = λ o f m sound k at ss l. kept_held honest image i j two (left o) (right o) (left_as o) (right_as o) f m k at ss l;
  }

-- two stores, and what each is enlisted as
pub two_hold : {D : Type 0} (honest : Bool) (image : D → List ℕ → Type 0) (faults : D → ℕ) (i j : ℕ) → (i == j) ≡ false → AreTwoHolders {D = D} honest image faults i j
two_hold honest image faults i j two = stores_hold honest image faults i j two (λ o. o.left) (λ o. o.right) (λ o. o.left_as) (λ o. o.right_as) (TheyGive honest image faults) (λ a b e n r g. g)
