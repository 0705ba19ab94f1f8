-- Lines cut into words, and words joined to lines.
use Rattle.std.proofs.Common.{◌≡◌, ℕ, ◌==◌, Bool, true, false, List, [], ◌∷◌, ◌++◌, refl, ap, ◌∙◌, arith, if◌then◌else◌}
use Rattle.std.specs.List.{join_with_byte}
use Rattle.std.proofs.lemmas.Bool.Decides.{nat_tests}
use Rattle.dtx_model.specs.Words.{each, has}
use Rattle.dtx_model.specs.Outcome.{is_empty}
use Rattle.dtx_model.specs.Grammar.{is_from}
use Rattle.dtx_model.specs.Faults.{front, has_newline, push, split, words_of}
use Rattle.dtx_model.proofs.Bools.{and_both, and_left, and_right, or_false, or_first, or_second, or_right}
use Rattle.line_tail.specs.Cut.{IsWithout}
use Rattle.script_words.proofs.Splits.{split_at, split_none, split_some}
use Rattle.line_reader.proofs.CleanWords.{is_clean}

-- each byte may stand in a line
abbrev pub is_text : List ℕ → Bool
is_text bs = each (λ b. is_from 32 126 b) bs

-- the bytes behind the first LF
abbrev pub behind_front : List ℕ → List ℕ
behind_front [] = []
behind_front (b ∷ bs) = if b == 10 then bs else behind_front bs

-- a byte without space is one of a line
wider : (b : ℕ) → is_from 33 126 b ≡ true → is_from 32 126 b ≡ true
wider b h = grind (arith, nat_tests)

-- a byte of a line isn't LF
no_newline : (b : ℕ) → is_from 32 126 b ≡ true → (b == 10) ≡ false
no_newline b h = grind (arith, nat_tests)

-- a clean word before a text is a text
text_word : (w t : List ℕ) → is_clean w ≡ true → is_text t ≡ true → is_text (w ++ t) ≡ true
text_word [] t h k = k
text_word (b ∷ w) t h k = and_both (is_from 32 126 b) (is_text (w ++ t)) (wider b (and_left _ _ h)) (text_word w t (and_right _ _ h) k)

-- a clean word is a text
text_alone : (w : List ℕ) → is_clean w ≡ true → is_text w ≡ true
text_alone [] h = refl
text_alone (b ∷ w) h = and_both (is_from 32 126 b) (is_text w) (wider b (and_left _ _ h)) (text_alone w (and_right _ _ h))

-- clean words are a text together
pub text_words : (ws : List (List ℕ)) → each is_clean ws ≡ true → is_text (join_with_byte 32 ws) ≡ true
text_words [] h = refl
text_words (w ∷ []) h = text_alone w (and_left _ _ h)
text_words (w ∷ v ∷ ws) h = text_word w (32 ∷ join_with_byte 32 (v ∷ ws)) (and_left _ _ h) (text_words (v ∷ ws) (and_right _ _ h))

-- bytes with an LF have the line before it at their front
pub front_cut : (t a : List ℕ) → IsWithout 10 t → front (t ++ 10 ∷ a) ≡ t
front_cut [] a h = refl
front_cut (b ∷ t) a h = rw (or_first (b == 10) (has (λ x. x == 10) t) h, front_cut t a (or_second (b == 10) _ h)) refl

-- a text has no LF
text_without : (t : List ℕ) → is_text t ≡ true → IsWithout 10 t
text_without [] h = refl
text_without (b ∷ t) h = or_false (b == 10) _ (no_newline b (and_left _ _ h)) (text_without t (and_right _ _ h))

-- a text before an LF is the front
pub front_text : (t a : List ℕ) → is_text t ≡ true → front (t ++ 10 ∷ a) ≡ t
front_text t a h = front_cut t a (text_without t h)

-- and what follows the LF is after it
pub behind_text : (t a : List ℕ) → is_text t ≡ true → behind_front (t ++ 10 ∷ a) ≡ a
behind_text [] a h = refl
behind_text (b ∷ t) a h = rw (no_newline b (and_left _ _ h)) (behind_text t a (and_right _ _ h))

-- an LF is there
pub newline_there : (t a : List ℕ) → has_newline (t ++ 10 ∷ a) ≡ true
newline_there [] a = refl
newline_there (b ∷ t) a = or_right (b == 10) (has_newline (t ++ 10 ∷ a)) (newline_there t a)

-- a clean word has no space
clean_without : (w : List ℕ) → is_clean w ≡ true → IsWithout 32 w
clean_without [] h = refl
clean_without (b ∷ w) h = or_false (b == 32) _ (grind (arith, nat_tests, and_left (is_from 33 126 b) (is_clean w) h)) (clean_without w (and_right (is_from 33 126 b) (is_clean w) h))

-- clean words that are joined are split into the same words
split_joined : (w : List ℕ) (ws : List (List ℕ)) → each is_clean (w ∷ ws) ≡ true → split (join_with_byte 32 (w ∷ ws)) ≡ w ∷ ws
split_joined w [] h = split_none w (clean_without w (and_left _ _ h))
split_joined w (v ∷ ws) h =
    split_at w (join_with_byte 32 (v ∷ ws)) (clean_without w (and_left _ _ h)) ∙ ap (λ x. w ∷ x) (split_joined v ws (and_right _ _ h))

-- so are the words of a line, the first of which isn't empty
pub words_joined : (b : ℕ) (w : List ℕ) (ws : List (List ℕ)) → each is_clean ((b ∷ w) ∷ ws) ≡ true → words_of (join_with_byte 32 ((b ∷ w) ∷ ws)) ≡ (b ∷ w) ∷ ws
words_joined b w [] h = split_joined (b ∷ w) [] h
words_joined b w (v ∷ ws) h = split_joined (b ∷ w) (v ∷ ws) h

-- a byte in front of the first word is in front of the words joined
join_push : (b : ℕ) (ws : List (List ℕ)) → join_with_byte 32 (push b ws) ≡ b ∷ join_with_byte 32 ws
join_push b [] = refl
join_push b (w ∷ []) = refl
join_push b (w ∷ v ∷ ws) = refl

-- an empty word in front is a space in front
join_space : (ws : List (List ℕ)) → is_empty ws ≡ false → join_with_byte 32 ([] ∷ ws) ≡ 32 ∷ join_with_byte 32 ws
join_space [] h = absurd (cc h)
join_space (w ∷ ws) h = refl

-- the words between the spaces, joined by spaces, are the bytes again
join_split : (bs : List ℕ) → join_with_byte 32 (split bs) ≡ bs
join_split [] = refl
join_split (b ∷ bs) = by (b == 32) refl (join_split bs)
  where
    by : (k : Bool) → (b == 32) ≡ k → join_with_byte 32 (split bs) ≡ bs → join_with_byte 32 (split (b ∷ bs)) ≡ b ∷ bs
    by true e h =
        let q : 32 ≡ b = grind (arith, nat_tests) in
        rw e (join_space (split bs) (split_some bs) ∙ ap (λ x. 32 ∷ x) h ∙ ap (λ x. x ∷ bs) q)
    by false e h = rw e (join_push b (split bs) ∙ ap (λ x. b ∷ x) h)

-- so are a line's words, joined
pub join_words : (bs : List ℕ) → join_with_byte 32 (words_of bs) ≡ bs
join_words [] = refl
join_words (b ∷ bs) = join_split (b ∷ bs)

-- bytes with an LF are cut at the first
pub cut_front : (bs : List ℕ) → has_newline bs ≡ true → bs ≡ front bs ++ 10 ∷ behind_front bs
cut_front [] h = absurd (cc h)
cut_front (b ∷ bs) h = by (b == 10) refl (cut_front bs)
  where
    by : (k : Bool) → (b == 10) ≡ k → (has_newline bs ≡ true → bs ≡ front bs ++ 10 ∷ behind_front bs) → b ∷ bs ≡ front (b ∷ bs) ++ 10 ∷ behind_front (b ∷ bs)
    by true e f =
        let q : b ≡ 10 = grind (arith, nat_tests) in
        rw e (ap (λ x. x ∷ bs) q)
    by false e f =
        let k : has_newline bs ≡ true = rw e at h in
        rw e (ap (λ x. b ∷ x) (f k))
