-- The rows of the ways, and their places.
use Rattle.std.proofs.Common.{◌≡◌, ◌≢◌, ℕ, suc, zero, ◌≤◌, ◌==◌, Bool, true, false, cond, List, [], ◌∷◌, ◌++◌, Option, Some, None, get_or, length, set, refl, ap, arith, sym, ◌∙◌}
use Rattle.std.specs.Prelude.{slice_get}
use Rattle.std.proofs.lemmas.Bool.Decides.{nat_tests}
use Rattle.std.proofs.lemmas.Option.{get_or_from_slice_get, slice_get_past}
use Rattle.dtx_values.specs.declared.message.Message.{Message}
use Rattle.dtx_model.specs.Wires.{is_next}
use Rattle.trace_checker.specs.declared.ways.Way.{Way}
use Rattle.trace_checker.specs.declared.ways.Ways.{Ways}
use Rattle.trace_checker.specs.Ways.{AreSame, ChangesWay, IsPlaceOf, if_of, is_end_on, is_way_ended, messages, messages_on, place_of, way}
use Rattle.trace_checker.proofs.Keys.{same_is, same_number}

-- a row of way k is way k's, and no other one's
own : (k : ℕ) (w : Way) → w.number ≡ k → if_of k (Some w) ≡ Some w
own k w e = ap (λ n. cond (n == k) (Some w) None) e ∙ ap (λ b. cond b (Some w) None) (same_number k)

pub not_own : (k : ℕ) (w : Way) → w.number ≢ k → if_of k (Some w) ≡ None
not_own k w n = ap (λ b. cond b (Some w) None) apart
  where
    apart : (w.number == k) ≡ false
    apart = grind (arith, nat_tests)

foreign : (q k : ℕ) (w : Way) → w.number ≡ k → (q == k) ≡ false → if_of q (Some w) ≡ None
foreign q k w e n = ap (λ b. cond b (Some w) None) apart
  where
    apart : (w.number == q) ≡ false
    apart = grind (arith, nat_tests)

got_put : {A : Type 0} (xs : List A) (p : ℕ) (x y : A) → slice_get xs p ≡ Some x → slice_get (set xs p y) p ≡ Some y
got_put [] p x y e = absurd cc
got_put (z ∷ xs) zero x y e = refl
got_put (z ∷ xs) (suc p) x y e = got_put xs p x y e

next : (n p : ℕ) → (suc n == suc p) ≡ (n == p)
next n p = grind (arith, nat_tests)

got_beside : {A : Type 0} (xs : List A) (p n : ℕ) (y : A) → (n == p) ≡ false → slice_get (set xs p y) n ≡ slice_get xs n
got_beside [] p n y e = refl
got_beside (z ∷ xs) zero zero y e = absurd cc
got_beside (z ∷ xs) zero (suc n) y e = refl
got_beside (z ∷ xs) (suc p) zero y e = refl
got_beside (z ∷ xs) (suc p) (suc n) y e = got_beside xs p n y (sym (next n p) ∙ e)

got_last : {A : Type 0} (xs : List A) (y : A) → slice_get (xs ++ y ∷ []) (length xs) ≡ Some y
got_last [] y = refl
got_last (x ∷ xs) y = got_last xs y

-- the row that stands at way k's place is what there is of the way
pub row_is : (k p : ℕ) (ws : Ways) (y : Way) (at : IsPlaceOf k p ws) → y ≡ get_or ws.rows.items p y → way k ws ≡ Some y
row_is k p ws y at r =
    ap (λ n. if_of k (slice_get ws.rows.items n)) (sym at.place) ∙ (ap (if_of k) at.there ∙ (own k at.row at.number ∙ ap Some (sym (r ∙ get_or_from_slice_get ws.rows.items p at.row y at.there))))

-- way k's row is w now, and the others stay
abbrev pub Puts : ℕ → Way → Ways → Ways → Type 0
Puts k w old new = (q : ℕ) → way q new ≡ cond (q == k) (Some w) (way q old)

put_row : (k p : ℕ) (old new : Ways) (w : Way) → IsPlaceOf k p old → w.number ≡ k → new.places.items ≡ old.places.items → new.rows.items ≡ set old.rows.items p w → Puts k w old new
put_row k p old new w at e same rows q = ap (λ ns. if_of q (slice_get new.rows.items (get_or ns q 0))) same ∙ (ap (λ ws. if_of q (slice_get ws (place_of q old))) rows ∙ by (q == k) refl)
  where
    there : (q == k) ≡ false → (s : Bool) → (place_of q old == p) ≡ s → if_of q (slice_get (set old.rows.items p w) (place_of q old)) ≡ way q old
    there n true f =
        let here : place_of q old ≡ p = same_is (place_of q old) p f in
        ap (λ i. if_of q (slice_get (set old.rows.items p w) i)) here
        ∙ (ap (if_of q) (got_put old.rows.items p at.row w at.there)
        ∙ (foreign q k w e n ∙ sym (ap (λ i. if_of q (slice_get old.rows.items i)) here ∙ (ap (if_of q) at.there ∙ foreign q k at.row at.number n))))
    there n false f = ap (if_of q) (got_beside old.rows.items p (place_of q old) w f)

    by : (s : Bool) → (q == k) ≡ s → if_of q (slice_get (set old.rows.items p w) (place_of q old)) ≡ cond s (Some w) (way q old)
    by true f =
        ap (λ i. if_of i (slice_get (set old.rows.items p w) (place_of i old))) (same_is q k f)
        ∙ (ap (λ i. if_of k (slice_get (set old.rows.items p w) i)) (sym at.place) ∙ (ap (if_of k) (got_put old.rows.items p at.row w at.there) ∙ own k w e))
    by false f = there f (place_of q old == p) refl

-- a row for way k is put after the others
past_row : (q : ℕ) (rows : List Way) (w : Way) (n : ℕ) → if_of q (Some w) ≡ None → if_of q (slice_get (rows ++ w ∷ []) n) ≡ if_of q (slice_get rows n)
past_row q [] w zero e = e
past_row q [] w (suc n) e = refl
past_row q (x ∷ rows) w zero e = refl
past_row q (x ∷ rows) w (suc n) e = past_row q rows w n e

-- A row w for way k is put after the others, and its place is p.
module _ (k p : ℕ) (old new : Ways) (w : Way) (e : w.number ≡ k) (len : p ≡ length old.rows.items) (places : (q : ℕ) → place_of q new ≡ cond (q == k) p (place_of q old)) (rows : new.rows.items ≡ old.rows.items ++ w ∷ []) where
  more_row : Puts k w old new
  more_row q = ap (λ n. if_of q (slice_get new.rows.items n)) (places q) ∙ (ap (λ ws. if_of q (slice_get ws (cond (q == k) p (place_of q old)))) rows ∙ by (q == k) refl)
    where
      by : (s : Bool) → (q == k) ≡ s → if_of q (slice_get (old.rows.items ++ w ∷ []) (cond s p (place_of q old))) ≡ cond s (Some w) (way q old)
      by true f = ap (λ n. if_of q (slice_get (old.rows.items ++ w ∷ []) n)) len ∙ (ap (if_of q) (got_last old.rows.items w) ∙ own q w (e ∙ sym (same_is q k f)))
      by false f = past_row q old.rows.items w (place_of q old) (foreign q k w e f)

  pub more_place : IsPlaceOf k p new
  more_place = record {
    place = sym (places k ∙ ap (λ b. cond b p (place_of k old)) (same_number k));
    row = w;
    there = ap (λ ws. slice_get ws p) rows ∙ (ap (λ n. slice_get (old.rows.items ++ w ∷ []) n) len ∙ got_last old.rows.items w);
    number = e;
  }

  pub more_same : way k old ≡ None → w.messages.items ≡ [] → w.ended ≡ true → AreSame old new
  more_same none m d = record { messages = λ q. ap messages_on (more_row q) ∙ on q (q == k) refl; ended = λ q. ap is_end_on (more_row q) ∙ end q (q == k) refl }
    where
      on : (q : ℕ) (s : Bool) → (q == k) ≡ s → messages_on (cond s (Some w) (way q old)) ≡ messages q old
      on q true f = m ∙ sym (ap (λ n. messages n old) (same_is q k f) ∙ ap messages_on none)
      on q false f = refl

      end : (q : ℕ) (s : Bool) → (q == k) ≡ s → is_end_on (cond s (Some w) (way q old)) ≡ is_way_ended q old
      end q true f = d ∙ sym (ap (λ n. is_way_ended n old) (same_is q k f) ∙ ap is_end_on none)
      end q false f = refl

-- the row at way k's place is w now, and had the number of the row y that stood there
pub change : (k p : ℕ) (old new : Ways) (y w : Way) (ms : List Message) (e : Bool) → IsPlaceOf k p old → y ≡ get_or old.rows.items p y → w.number ≡ y.number
    → new.places.items ≡ old.places.items → new.rows.items ≡ set old.rows.items p w → w.messages.items ≡ ms → w.ended ≡ e → ChangesWay k ms e old new
change k p old new y w ms e at r n same rows m d = record {
  messages = λ q. ap messages_on (puts q) ∙ (on (q == k) (way q old) ∙ ap (λ xs. cond (q == k) xs (messages q old)) m);
  ended = λ q. ap is_end_on (puts q) ∙ (end (q == k) (way q old) ∙ ap (λ b. cond (q == k) b (is_way_ended q old)) d);
}
  where
    puts : Puts k w old new
    puts = put_row k p old new w at (n ∙ (ap (λ (x : Way). x.number) (r ∙ get_or_from_slice_get old.rows.items p at.row y at.there) ∙ at.number)) same rows

    on : (s : Bool) (o : Option Way) → messages_on (cond s (Some w) o) ≡ cond s w.messages.items (messages_on o)
    on true o = refl
    on false o = refl

    end : (s : Bool) (o : Option Way) → is_end_on (cond s (Some w) o) ≡ cond s w.ended (is_end_on o)
    end true o = refl
    end false o = refl

pub after_same : (k : ℕ) (ms : List Message) (e : Bool) (old mid new : Ways) → AreSame old mid → ChangesWay k ms e mid new → ChangesWay k ms e old new
after_same k ms e old mid new s c = record {
  messages = λ q. c.messages q ∙ ap (λ xs. cond (q == k) ms xs) (s.messages q);
  ended = λ q. c.ended q ∙ ap (λ b. cond (q == k) e b) (s.ended q);
}

-- where no row stands, or that of another way, the way has none
pub no_row_past : (k p : ℕ) (ws : Ways) → p ≡ place_of k ws → length ws.rows.items ≤ p → way k ws ≡ None
no_row_past k p ws e l = ap (λ n. if_of k (slice_get ws.rows.items n)) (sym e) ∙ ap (if_of k) (slice_get_past ws.rows.items p l)

pub no_row_other : (k p : ℕ) (ws : Ways) (y : Way) → p ≡ place_of k ws → slice_get ws.rows.items p ≡ Some y → y.number ≢ k → way k ws ≡ None
no_row_other k p ws y e there n = ap (λ n. if_of k (slice_get ws.rows.items n)) (sym e) ∙ (ap (if_of k) there ∙ not_own k y n)

-- the first message n that is on the way, and one that is it or isn't
pub next_is : (ms : List Message) (n m : Message) → 1 ≤ length ms → n ≡ get_or ms 0 n → m ≡ n → is_next m ms
next_is [] n m l e f = absurd (omega arith)
next_is (x ∷ ms) n m l e f = f ∙ e

pub next_is_not : (ms : List Message) (n m : Message) → 1 ≤ length ms → n ≡ get_or ms 0 n → m ≢ n → is_next m ms → ⊥
next_is_not [] n m l e f k = k
next_is_not (x ∷ ms) n m l e f k = f (k ∙ sym e)
