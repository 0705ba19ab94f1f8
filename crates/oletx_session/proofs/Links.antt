-- Links in a list.
use Rattle.std.proofs.Common.{◌≡◌, ℕ, zero, suc, ◌<◌, ◌≤◌, Bool, true, false, List, [], ◌∷◌, ◌++◌, length, get_or, set, position, Option, Some, None, is_some, refl, ap, sym, subst, ◌∙◌, arith, cond, inl, inr, nat_lt}
use Rattle.std.specs.List.{find, position_or_len}
use Rattle.std.proofs.lemmas.Bool.{cond-true, cond-false, cases_Bool, ltb-false}
use Rattle.std.proofs.lemmas.List.Folds.{find_at}
use Rattle.std.proofs.lemmas.Option.{slice_get_past}
use Rattle.std.proofs.lemmas.List.Quantifiers.{position-Some}
use Rattle.oletx_session.specs.declared.link.Link.{Link}
use Rattle.oletx_session.specs.Queues.{Changes, is_of, link_of}
use Rattle.dtx_model.proofs.Connections.{not_same, same_self}

-- a choice that gives nothing was made against the value
none_where : (b : Bool) (x : ℕ) → cond b (Some x) None ≡ None → b ≡ false
none_where true x h = absurd cc
none_where false x h = refl

module _ {X : Type 0} where
  -- what is found is found after an item that doesn't pass, too
  find_past : (p : X → Bool) (x : X) (xs : List X) → p x ≡ false → find p (x ∷ xs) ≡ find p xs
  find_past p x xs fails = cond-false (p x) (Some x) (find p xs) fails

  -- an item written at the first place that passes is found, where it passes
  find_set_first : (p : X → Bool) (xs : List X) (i : ℕ) (y : X) → i < length xs → p y ≡ true → ((k : ℕ) → k < i → p (get_or xs k y) ≡ false) → find p (set xs i y) ≡ Some y
  find_set_first p [] i y within passes before = absurd (omega arith)
  find_set_first p (x ∷ xs) zero y within passes before = cond-true (p y) (Some y) (find p xs) passes
  find_set_first p (x ∷ xs) (suc i) y within passes before =
      find_past p x (set xs i y) (before 0 (omega arith)) ∙ find_set_first p xs i y (omega arith) passes (λ k h. before (suc k) (omega arith))

  -- where neither what is written nor what stood there passes, the same is found
  find_set_other : (q : X → Bool) (xs : List X) (i : ℕ) (y : X) → q y ≡ false → q (get_or xs i y) ≡ false → find q (set xs i y) ≡ find q xs
  find_set_other q [] i y fails none = refl
  find_set_other q (x ∷ xs) zero y fails none = find_past q y xs fails ∙ sym (find_past q x xs none)
  find_set_other q (x ∷ xs) (suc i) y fails none = ap (cond (q x) (Some x)) (find_set_other q xs i y fails none)

  -- where nothing is found, an item behind that passes is
  find_push : (p : X → Bool) (xs : List X) (y : X) → find p xs ≡ None → p y ≡ true → find p (xs ++ y ∷ []) ≡ Some y
  find_push p [] y none passes = cond-true (p y) (Some y) None passes
  find_push p (x ∷ xs) y none passes =
      elim (cases_Bool (p x)) [
        | inl holds ↦ absurd (let found = sym (cond-true (p x) (Some x) (find p xs) holds) ∙ none in cc)
        | inr fails ↦ find_past p x (xs ++ y ∷ []) fails ∙ find_push p xs y (sym (find_past p x xs fails) ∙ none) passes
      ]

  -- an item behind that doesn't pass changes nothing
  find_push_other : (q : X → Bool) (xs : List X) (y : X) → q y ≡ false → find q (xs ++ y ∷ []) ≡ find q xs
  find_push_other q [] y fails = cond-false (q y) (Some y) None fails
  find_push_other q (x ∷ xs) y fails = ap (cond (q x) (Some x)) (find_push_other q xs y fails)

  -- where some item passes, one is found
  pub found_at : (p : X → Bool) (xs : List X) (i : ℕ) (d : X) → i < length xs → p (get_or xs i d) ≡ true → is_some (find p xs) ≡ true
  found_at p [] i d within passes = absurd (omega arith)
  found_at p (x ∷ xs) zero d within passes = ap is_some (cond-true (p x) (Some x) (find p xs) passes)
  found_at p (x ∷ xs) (suc i) d within passes =
      elim (cases_Bool (p x)) [
        | inl holds ↦ ap is_some (cond-true (p x) (Some x) (find p xs) holds)
        | inr fails ↦ ap is_some (find_past p x xs fails) ∙ found_at p xs i d (omega arith) passes
      ]

  -- where there is no first place, the place that is looked for is past the end
  pub no_place : (p : X → Bool) (xs : List X) → position p xs ≡ None → length xs ≤ position_or_len p xs
  no_place p xs none = let i = position_or_len p xs in ltb-false i (length xs) (none_where (nat_lt i (length xs)) i none)

  -- then nothing is found
  pub not_found : (p : X → Bool) (xs : List X) → position p xs ≡ None → find p xs ≡ None
  not_found p xs none = find_at p xs ∙ slice_get_past xs (position_or_len p xs) (no_place p xs none)

-- where a connection has a link, its place is found
pub link_at : (ls : List Link) (l : Link) (i : ℕ) → position (is_of l.connection) ls ≡ Some i → is_some (link_of l.connection ls) ≡ true
link_at ls l i at =
    let first = position-Some (is_of l.connection) ls i l at in
    found_at (is_of l.connection) ls i l first.0 first.1

-- a link in the place of that of its connection
pub link_set : (ls : List Link) (l : Link) (i : ℕ) → position (is_of l.connection) ls ≡ Some i → Changes l.connection l ls (set ls i l)
link_set ls l i at =
    let first = position-Some (is_of l.connection) ls i l at in
    record {
      here = find_set_first (is_of l.connection) ls i l first.0 (same_self l.connection) first.2;
      others = λ x other. find_set_other (is_of x) ls i l other (not_same x l.connection (get_or ls i l).connection other first.1);
    }

-- a link behind the others, where its connection has none
pub link_push : (ls : List Link) (l : Link) → link_of l.connection ls ≡ None → Changes l.connection l ls (ls ++ l ∷ [])
link_push ls l none =
    record {
      here = find_push (is_of l.connection) ls l none (same_self l.connection);
      others = λ x other. find_push_other (is_of x) ls l other;
    }

-- no value is there
none_is : (o : Option Link) → is_some o ≡ false → o ≡ None
none_is None h = refl
none_is (Some l) h = absurd cc

-- the same, where the list after is named
pub link_pushed : (ls ks ns : List Link) (l : Link) → false ≡ is_some (link_of l.connection ls) → ks ≡ ls → ns ≡ ks ++ l ∷ [] → Changes l.connection l ls ns
link_pushed ls ks ns l none same is =
    let P : List Link → Type 0 = λ xs. Changes l.connection l ls xs in
    subst P (sym (is ∙ ap (λ xs. xs ++ l ∷ []) same)) (link_push ls l (none_is (link_of l.connection ls) (sym none)))
