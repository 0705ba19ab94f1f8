-- Puts that are good, one after another.
use Rattle.std.proofs.Common.{◌≡◌, ℕ, suc, ◌+◌, Bool, true, false, List, [], ◌∷◌, ◌++◌, length, take, drop, append_assoc, refl, ap, sym, ◌∙◌, Some, None}
use Rattle.std.proofs.lemmas.List.{take-append-drop}
use Rattle.dtx_values.specs.declared.script.BadCause.{BadCause}
use Rattle.dtx_values.specs.declared.script.Line.{Line}
use Rattle.dtx_model.specs.Caused.{Of}
use Rattle.dtx_model.specs.Words.{onto, past_of}
use Rattle.dtx_model.proofs.Bools.{and_both, and_left, and_right}
use Rattle.heard_notes.specs.Puts.{Named, put_fault}
use Rattle.heard_notes.specs.declared.put.Put.{Put}
use Rattle.put_lines.specs.Input.{are_good, is_fine, named_in}
use Rattle.put_lines.specs.Keys.{key_fault}
use Rattle.put_lines.specs.Names.{naming_fault}

-- good puts, and one more
good-more : (most : ℕ) (s : List Line) (o : Of) (acc ps : List Put) (p : Put) → are_good most s o acc ps ≡ true → put_fault most (named_in s o p) (onto acc ps) p ≡ None
    → are_good most s o acc (ps ++ p ∷ []) ≡ true
good-more most s o acc [] p h k = and_both (is_fine (put_fault most (named_in s o p) acc p)) true (ap is_fine k) refl
good-more most s o acc (q ∷ ps) p h k =
    let first = is_fine (put_fault most (named_in s o q) acc q) in
    and_both first (are_good most s o (q ∷ acc) (ps ++ p ∷ [])) (and_left first _ h) (good-more most s o (q ∷ acc) ps p (and_right first _ h) k)

pub good_one_more : (most : ℕ) (s : List Line) (o : Of) (ps : List Put) (p : Put) → are_good most s o [] ps ≡ true → put_fault most (named_in s o p) (past_of ps) p ≡ None
    → are_good most s o [] (ps ++ p ∷ []) ≡ true
good_one_more most s o ps p h k = good-more most s o [] ps p h k

-- the fault of a put is that of its names, or where they have none that of its key
pub by_names : (most : ℕ) (n : Named) (before : List Put) (p : Put) (c : BadCause) → naming_fault n ≡ Some c → put_fault most n before p ≡ Some c
by_names most n before p c h = by n.made n.right refl refl
  where
    by : (m r : Bool) → n.made ≡ m → n.right ≡ r → put_fault most n before p ≡ Some c
    by false r e f = let k = rw e at h in rw e k
    by true false e f = let k = rw (e, f) at h in rw (e, f) k
    by true true e f = let k = rw (e, f) at h in absurd (cc k)

pub by_keys : (most : ℕ) (n : Named) (before : List Put) (p : Put) → naming_fault n ≡ None → put_fault most n before p ≡ key_fault most before p
by_keys most n before p h = by n.made n.right refl refl
  where
    by : (m r : Bool) → n.made ≡ m → n.right ≡ r → put_fault most n before p ≡ key_fault most before p
    by false r e f = let k = rw e at h in absurd (cc k)
    by true false e f = let k = rw (e, f) at h in absurd (cc k)
    by true true e f = rw (e, f) refl

-- the first bad put is one, with one cause
first-bad : (most : ℕ) (s : List Line) (o : Of) (acc before : List Put) (p : Put) (after other : List Put) (q : Put) (rest : List Put) (c d : BadCause) → before ++ p ∷ after ≡ other ++ q ∷ rest
    → are_good most s o acc before ≡ true → are_good most s o acc other ≡ true → put_fault most (named_in s o p) (onto acc before) p ≡ Some c → put_fault most (named_in s o q) (onto acc other) q ≡ Some d
    → (length before ≡ length other) × (c ≡ d)
first-bad most s o acc [] p after [] q rest c d e h k f g =
    let same : p ≡ q = cc in
    let causes : Some c ≡ Some d = sym f ∙ ap (λ (x : Put). put_fault most (named_in s o x) acc x) same ∙ g in
    (refl, cc causes)
first-bad most s o acc [] p after (y ∷ other) q rest c d e h k f g =
    let same : p ≡ y = cc in
    let fine = and_left (is_fine (put_fault most (named_in s o y) acc y)) _ k in
    let bad = ap (λ (x : Put). is_fine (put_fault most (named_in s o x) acc x)) (sym same) ∙ ap is_fine f in
    absurd (cc (sym bad ∙ fine))
first-bad most s o acc (x ∷ before) p after [] q rest c d e h k f g =
    let same : x ≡ q = cc in
    let fine = and_left (is_fine (put_fault most (named_in s o x) acc x)) _ h in
    let bad = ap (λ (x : Put). is_fine (put_fault most (named_in s o x) acc x)) same ∙ ap is_fine g in
    absurd (cc (sym bad ∙ fine))
first-bad most s o acc (x ∷ before) p after (y ∷ other) q rest c d e h k f g =
    let same : x ≡ y = cc in
    let behind : before ++ p ∷ after ≡ other ++ q ∷ rest = cc in
    let good = and_right (is_fine (put_fault most (named_in s o x) acc x)) _ h in
    let fine = and_right (is_fine (put_fault most (named_in s o y) acc y)) _ k in
    let r = first-bad most s o (x ∷ acc) before p after other q rest c d behind good
    (ap (λ (z : Put). are_good most s o (z ∷ acc) other) same ∙ fine) f
    (ap (λ (z : Put). put_fault most (named_in s o q) (onto (z ∷ acc) other) q) same ∙ g) in
    (ap (λ n. suc n) r.0, r.1)

pub first_bad : (most : ℕ) (s : List Line) (o : Of) (before : List Put) (p : Put) (after other : List Put) (q : Put) (rest : List Put) (c d : BadCause) → before ++ p ∷ after ≡ other ++ q ∷ rest
    → are_good most s o [] before ≡ true → are_good most s o [] other ≡ true → put_fault most (named_in s o p) (past_of before) p ≡ Some c → put_fault most (named_in s o q) (past_of other) q ≡ Some d
    → (length before ≡ length other) × (c ≡ d)
first_bad most s o before p after other q rest c d e h k f g = first-bad most s o [] before p after other q rest c d e h k f g

-- puts of which one is bad aren't good
good-none : (most : ℕ) (s : List Line) (o : Of) (acc before : List Put) (p : Put) (after : List Put) (c : BadCause) → are_good most s o acc (before ++ p ∷ after) ≡ true
    → put_fault most (named_in s o p) (onto acc before) p ≡ Some c → ⊥
good-none most s o acc [] p after c h f = cc (sym (ap is_fine f) ∙ and_left (is_fine (put_fault most (named_in s o p) acc p)) _ h)
good-none most s o acc (x ∷ before) p after c h f = good-none most s o (x ∷ acc) before p after c (and_right (is_fine (put_fault most (named_in s o x) acc x)) _ h) f

pub none_bad : (most : ℕ) (s : List Line) (o : Of) (before : List Put) (p : Put) (after : List Put) (c : BadCause) → are_good most s o [] (before ++ p ∷ after) ≡ true
    → put_fault most (named_in s o p) (past_of before) p ≡ Some c → ⊥
none_bad most s o before p after c h f = good-none most s o [] before p after c h f

-- a list, cut before an item
pub cut_at : (ps : List Put) (i : ℕ) (p : Put) → take (i + 1) ps ≡ take i ps ++ p ∷ [] → ps ≡ take i ps ++ p ∷ drop (i + 1) ps
cut_at ps i p e = sym (take-append-drop (i + 1) ps) ∙ ap (λ (xs : List Put). xs ++ drop (i + 1) ps) e ∙ append_assoc (take i ps) (p ∷ []) (drop (i + 1) ps)
