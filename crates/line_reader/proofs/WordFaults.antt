-- Which words have no fault: those that fill a form.
use Rattle.std.proofs.Common.{◌≡◌, ℕ, Bool, true, false, ◌&&◌, List, [], ◌∷◌, refl, sym, ◌∙◌, None}
use Rattle.std.specs.List.{filter_map}
use Rattle.dtx_model.specs.Words.{has}
use Rattle.dtx_model.specs.Outcome.{is_empty}
use Rattle.dtx_model.specs.Faults.{Pattern, allows, behind, word_fault}

-- each place of the form allows its word, and no word is left
abbrev pub fits : List Pattern → List (List ℕ) → Bool
fits [] [] = true
fits [] (w ∷ ws) = false
fits (s ∷ f) [] = false
fits (s ∷ f) (w ∷ ws) = allows s w && fits f ws

-- some form is filled
abbrev pub fits_some : List (List Pattern) → List (List ℕ) → Bool
fits_some forms ws = has (λ f. fits f ws) forms

-- no words fill a form without places
no_words : (forms : List (List Pattern)) → fits_some forms [] ≡ has is_empty forms
no_words [] = refl
no_words ([] ∷ fs) = refl
no_words ((s ∷ f) ∷ fs) = no_words fs

-- one word in front: by whether the first place allows it
one_word : (b : Bool) (s : Pattern) (f : List Pattern) (fs : List (List Pattern)) (w : List ℕ) (ws : List (List ℕ)) → allows s w ≡ b
    → fits_some fs (w ∷ ws) ≡ fits_some (filter_map (behind w) fs) ws → fits_some ((s ∷ f) ∷ fs) (w ∷ ws) ≡ fits_some (filter_map (behind w) ((s ∷ f) ∷ fs)) ws
one_word true s f fs w ws e k = rw (e, k) refl
one_word false s f fs w ws e k = rw (e, k) refl

-- words fill a form where those behind the first fill what of it is left
more_words : (forms : List (List Pattern)) (w : List ℕ) (ws : List (List ℕ)) → fits_some forms (w ∷ ws) ≡ fits_some (filter_map (behind w) forms) ws
more_words [] w ws = refl
more_words ([] ∷ fs) w ws = more_words fs w ws
more_words ((s ∷ f) ∷ fs) w ws = one_word (allows s w) s f fs w ws refl (more_words fs w ws)

-- no fault where the words end: a form is filled
end_fits : (b : Bool) (forms : List (List Pattern)) → has is_empty forms ≡ b → word_fault forms [] ≡ None → b ≡ true
end_fits true forms e h = refl
end_fits false forms e h = let k = rw e at h in absurd (cc k)

-- no fault where one more word stands there: none in what is left
next_none : (b : Bool) (forms : List (List Pattern)) (w : List ℕ) (ws : List (List ℕ)) → is_empty (filter_map (behind w) forms) ≡ b → word_fault forms (w ∷ ws) ≡ None
    → word_fault (filter_map (behind w) forms) ws ≡ None
next_none true forms w ws e h = let k = rw e at h in absurd (cc k)
next_none false forms w ws e h = rw e at h

-- where a line's words have no fault, they fill a form
pub none_fits : (forms : List (List Pattern)) (ws : List (List ℕ)) → word_fault forms ws ≡ None → fits_some forms ws ≡ true
none_fits forms [] h = no_words forms ∙ end_fits (has is_empty forms) forms refl h
none_fits forms (w ∷ ws) h = more_words forms w ws ∙ none_fits (filter_map (behind w) forms) ws (next_none (is_empty (filter_map (behind w) forms)) forms w ws refl h)

-- some form is left where one is filled
some_left : (b : Bool) (forms : List (List Pattern)) (ws : List (List ℕ)) → is_empty forms ≡ b → fits_some forms ws ≡ true → b ≡ false
some_left false forms ws e h = refl
some_left true [] ws e h = absurd (cc h)
some_left true (f ∷ fs) ws e h = absurd (cc e)

-- where a line's words fill a form, they have no fault
pub fits_none : (forms : List (List Pattern)) (ws : List (List ℕ)) → fits_some forms ws ≡ true → word_fault forms ws ≡ None
fits_none forms [] h = rw (sym (no_words forms) ∙ h) refl
fits_none forms (w ∷ ws) h =
    let k = sym (more_words forms w ws) ∙ h in
    let left = some_left (is_empty (filter_map (behind w) forms)) (filter_map (behind w) forms) ws refl k in
    rw left (fits_none (filter_map (behind w) forms) ws k)
