-- Pieces in a list.
use Rattle.std.proofs.Common.{◌≡◌, ℕ, zero, suc, ◌+◌, ◌<◌, ◌≤◌, min, Bool, true, false, ◌&&◌, List, [], ◌∷◌, ◌++◌, length, get_or, take, drop, position, filter, Some, None, refl, ap, sym, subst, ◌∙◌, arith, drop-cons}
use Rattle.std.specs.List.{remove}
use Rattle.std.proofs.lemmas.Bool.{and_parts, cond-false, cond-true}
use Rattle.std.proofs.lemmas.List.{length-take, take-append-drop, take_all, take_at, length-take-le}
use Rattle.std.proofs.lemmas.List.Elements.{filter-append}
use Rattle.std.proofs.lemmas.List.Edits.{length-remove}
use Rattle.std.proofs.lemmas.List.Filters.{length-filter_more}
use Rattle.std.proofs.lemmas.List.Sums.{fails_before_first}
use Rattle.std.proofs.lemmas.List.Quantifiers.{position-Some}
use Rattle.dtx_values.specs.declared.message.Conn.{Conn}
use Rattle.dtx_values.specs.declared.message.Dir.{Dir}
use Rattle.dtx_model.specs.Wires.{same_connection, same_direction}
use Rattle.oletx_session.specs.declared.piece.Piece.{Piece}
use Rattle.oletx_session.specs.Queues.{AreSameElse, is_on, on_way}
use Rattle.dtx_model.proofs.Connections.{same_is, same_way_is}
use Rattle.oletx_session.proofs.Links.{no_place}

module _ {X : Type 0} where
  -- a list is what stands before an item, the item and what stands after it
  split_at : (xs : List X) (i : ℕ) (x : X) → i < length xs → x ≡ get_or xs i x → xs ≡ take i xs ++ x ∷ drop (suc i) xs
  split_at xs i x within is = sym (take-append-drop i xs) ∙ ap (λ ys. take i xs ++ ys) (drop-cons xs i x within ∙ ap (λ y. y ∷ drop (suc i) xs) (sym is))

  -- a filter of a list that is split at an item which passes
  filter_split : (p : X → Bool) (xs : List X) (i : ℕ) (x : X) → i < length xs → x ≡ get_or xs i x → p x ≡ true → filter p xs ≡ filter p (take i xs) ++ x ∷ filter p (drop (suc i) xs)
  filter_split p xs i x within is passes =
      let back = drop (suc i) xs in
      ap (filter p) (split_at xs i x within is) ∙ filter-append p (take i xs) (x ∷ back)
      ∙ ap (λ ys. filter p (take i xs) ++ ys) (cond-true (p x) (x ∷ filter p back) (filter p back) passes)

  -- a filter of a list without an item
  filter_remove : (p : X → Bool) (xs : List X) (i : ℕ) → filter p (remove xs i) ≡ filter p (take i xs) ++ filter p (drop (suc i) xs)
  filter_remove p xs i = filter-append p (take i xs) (drop (suc i) xs)

  -- an item that doesn't pass may be taken out
  filter_remove_other : (p : X → Bool) (xs : List X) (i : ℕ) (x : X) → i < length xs → x ≡ get_or xs i x → p x ≡ false → filter p (remove xs i) ≡ filter p xs
  filter_remove_other p xs i x within is fails =
      let back = drop (suc i) xs in
      filter_remove p xs i ∙ ap (λ ys. filter p (take i xs) ++ ys) (sym (cond-false (p x) (x ∷ filter p back) (filter p back) fails))
      ∙ sym (ap (filter p) (split_at xs i x within is) ∙ filter-append p (take i xs) (x ∷ back))

  -- nothing passes before the first place
  filter_before : (p : X → Bool) (xs : List X) (i : ℕ) (d : X) → ((k : ℕ) → k < i → p (get_or xs k d) ≡ false) → filter p (take i xs) ≡ []
  filter_before p xs zero d before = refl
  filter_before p [] (suc i) d before = refl
  filter_before p (x ∷ xs) (suc i) d before =
      cond-false (p x) (x ∷ filter p (take i xs)) (filter p (take i xs)) (before 0 (omega arith)) ∙ filter_before p xs i d (λ k h. before (suc k) (omega arith))

  -- where none passes at any place, nothing is kept
  pub filter_none : (p : X → Bool) (xs : List X) → position p xs ≡ None → filter p xs ≡ []
  filter_none p [] none = refl
  filter_none p (x ∷ xs) none =
      let all = x ∷ xs in
      let past = no_place p all none in
      ap (filter p) (sym (take_all (length all) all (omega arith))) ∙ filter_before p all (length all) x (λ k h. fails_before_first p all k x (omega arith))

  -- the first that passes is taken out
  pub filter_first : (p : X → Bool) (xs : List X) (i : ℕ) (x : X) → position p xs ≡ Some i → x ≡ get_or xs i x → filter p xs ≡ x ∷ filter p (remove xs i)
  filter_first p xs i x at is =
      let first = position-Some p xs i x at in
      let none = filter_before p xs i x first.2 in
      let passes : p x ≡ true = subst (λ y. p y ≡ true) (sym is) first.1 in
      filter_split p xs i x first.0 is passes ∙ ap (λ ys. ys ++ x ∷ filter p (drop (suc i) xs)) none
      ∙ sym (ap (λ ys. x ∷ ys) (filter_remove p xs i ∙ ap (λ ys. ys ++ filter p (drop (suc i) xs)) none))

-- a piece on one lane is on no other
pub not_on : (c : Conn) (d : Dir) (x : Conn) (e : Dir) (p : Piece) → is_on c d p ≡ true → (same_connection x c && same_direction e d) ≡ false → is_on x e p ≡ false
not_on c d x e p on other =
    let both = and_parts (same_connection c p.connection) (same_direction d p.direction) on in
    let P : Conn → Type 0 = λ y. (same_connection x y && same_direction e p.direction) ≡ false in
    let Q : Dir → Type 0 = λ f. (same_connection x c && same_direction e f) ≡ false in
    subst P (same_is c p.connection both.0) (subst Q (same_way_is d p.direction both.1) other)

-- without a piece of one lane the others are as before
else_remove : (c : Conn) (d : Dir) (ps : List Piece) (i : ℕ) (p : Piece) → i < length ps → p ≡ get_or ps i p → is_on c d p ≡ true → AreSameElse c d ps (remove ps i)
else_remove c d ps i p within is on x e other = filter_remove_other (is_on x e) ps i p within is (not_on c d x e p on other)

-- without the first piece of one lane, too
pub else_first : (c : Conn) (d : Dir) (ps : List Piece) (i : ℕ) (p : Piece) → position (is_on c d) ps ≡ Some i → p ≡ get_or ps i p → AreSameElse c d ps (remove ps i)
else_first c d ps i p at is =
    let first = position-Some (is_on c d) ps i p at in
    let P : Piece → Type 0 = λ q. is_on c d q ≡ true in
    else_remove c d ps i p first.0 is (subst P (sym is) first.1)

-- the list is cut up to a place: what was passed there on the lane is counted and not more than is kept, and what is kept in the end and the other lanes are as before
pub record CutTo (c : Conn) (d : Dir) (keep kept place : ℕ) (old new : List Piece) : Type 0 where
  pub within : place ≤ length new
  pub counted : length (on_way c d (take place new)) ≡ kept
  pub few : kept ≤ keep
  pub same : take keep (on_way c d new) ≡ take keep (on_way c d old)
  pub others : AreSameElse c d old new

-- before the first step
pub cut_start : (c : Conn) (d : Dir) (keep : ℕ) (ps : List Piece) → CutTo c d keep 0 0 ps ps
cut_start c d keep ps = record { within = omega arith; counted = refl; few = omega arith; same = refl; others = λ x e other. refl }

-- a piece of another lane is passed
pub cut_past : (c : Conn) (d : Dir) (keep kept place : ℕ) (old new : List Piece) (p : Piece) → CutTo c d keep kept place old new → place < length new → p ≡ get_or new place p
    → is_on c d p ≡ false → CutTo c d keep kept (place + 1) old new
cut_past c d keep kept place old new p so_far within is off =
    let P : Piece → Type 0 = λ q. is_on c d q ≡ false in
    let none = cond-false {A = ℕ} (is_on c d (get_or new place p)) 1 0 (subst P is off) in
    record {
      within = omega arith;
      counted = omega (arith, length-filter_more (is_on c d) new place p within, none, so_far.counted);
      few = so_far.few;
      same = so_far.same;
      others = so_far.others;
    }

-- a piece of the lane is kept
pub cut_kept : (c : Conn) (d : Dir) (keep kept place : ℕ) (old new : List Piece) (p : Piece) → CutTo c d keep kept place old new → place < length new → p ≡ get_or new place p
    → is_on c d p ≡ true → kept < keep → CutTo c d keep (kept + 1) (place + 1) old new
cut_kept c d keep kept place old new p so_far within is on more =
    let P : Piece → Type 0 = λ q. is_on c d q ≡ true in
    let one = cond-true {A = ℕ} (is_on c d (get_or new place p)) 1 0 (subst P is on) in
    record {
      within = omega arith;
      counted = omega (arith, length-filter_more (is_on c d) new place p within, one, so_far.counted);
      few = omega arith;
      same = so_far.same;
      others = so_far.others;
    }

-- a piece of the lane beyond those that are kept is taken out
pub cut_out : (c : Conn) (d : Dir) (keep kept place : ℕ) (old new : List Piece) (p : Piece) → CutTo c d keep kept place old new → place < length new → p ≡ get_or new place p
    → is_on c d p ≡ true → keep ≤ kept → CutTo c d keep kept place old (remove new place)
cut_out c d keep kept place old new p so_far within is on enough =
    let on_lane = is_on c d in
    let front = take place new in
    let back = drop (suc place) new in
    let full : length (filter on_lane front) ≡ keep = omega (arith, so_far.counted, so_far.few) in
    let same_front : take place (remove new place) ≡ front = take_at front back place (length-take-le place new so_far.within) in
    record {
      within = omega (arith, length-remove new place within);
      counted = ap (λ xs. length (filter on_lane xs)) same_front ∙ so_far.counted;
      few = so_far.few;
      same =
          ap (take keep) (filter_remove on_lane new place) ∙ take_at (filter on_lane front) (filter on_lane back) keep full
          ∙ sym (ap (take keep) (filter_split on_lane new place p within is on) ∙ take_at (filter on_lane front) (p ∷ filter on_lane back) keep full) ∙ so_far.same;
      others = λ x e other. else_remove c d new place p within is on x e other ∙ so_far.others x e other;
    }

-- behind the last piece so many are left as there were or as are to be kept
pub cut_left : (c : Conn) (d : Dir) (keep kept place : ℕ) (old new : List Piece) → CutTo c d keep kept place old new → length new ≤ place → on_way c d new ≡ take keep (on_way c d old)
cut_left c d keep kept place old new so_far end =
    let all = ap (λ xs. length (on_way c d xs)) (take_all place new end) in
    sym (take_all keep (on_way c d new) (omega (arith, all, so_far.counted, so_far.few))) ∙ so_far.same

-- and their number was counted
pub cut_count : (c : Conn) (d : Dir) (keep kept place : ℕ) (old new : List Piece) → CutTo c d keep kept place old new → length new ≤ place → kept ≡ min keep (length (on_way c d old))
cut_count c d keep kept place old new so_far end =
    sym so_far.counted ∙ ap (λ xs. length (on_way c d xs)) (take_all place new end) ∙ ap length (cut_left c d keep kept place old new so_far end) ∙ length-take keep (on_way c d old)
