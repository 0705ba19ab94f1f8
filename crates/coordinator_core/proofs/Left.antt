-- Who still waits once some were answered.
use Rattle.std.proofs.Common.{◌≡◌, ◌∙◌, ◌==◌, ◌&&◌, ◌||◌, not, Bool, true, false, cond, List, [], ◌∷◌, filter, refl, ap, sym, if◌then◌else◌}
use Rattle.std.proofs.lemmas.Bool.{eq-eqb, eqb-true, or_left, or_right}
use Rattle.dtx_values.specs.declared.number.EnlNo.{EnlNo}
use Rattle.dtx_model.specs.Words.{has}
use Rattle.dtx_model.specs.Coordinated.{but}
use Rattle.dtx_values.proofs.SameNumbers.{same_enlistment}

-- each of these that is reached is taken out, one after the other
abbrev pub left_by : (EnlNo → Bool) → List EnlNo → List EnlNo → List EnlNo
left_by reached [] ws = ws
left_by reached (e ∷ es) ws = left_by reached es (if reached e then but e.value ws else ws)

-- the enlistment is one of these
abbrev is_one_of : List EnlNo → EnlNo → Bool
is_one_of es f = has (λ e. e.value == f.value) es

-- one of these that is reached is this
abbrev was_answered : (EnlNo → Bool) → List EnlNo → EnlNo → Bool
was_answered reached es f = has (λ e. reached e && (e.value == f.value)) es

-- nothing is left out where nothing fails
all_pass : (ws : List EnlNo) → filter (λ f. not false) ws ≡ ws
all_pass [] = refl
all_pass (w ∷ ws) = ap (λ (xs : List EnlNo). w ∷ xs) (all_pass ws)

-- two filters after each other are one
both_out : (p q : EnlNo → Bool) (ws : List EnlNo) → filter (λ f. not (q f)) (filter (λ f. not (p f)) ws) ≡ filter (λ f. not (p f || q f)) ws
both_out p q [] = refl
both_out p q (w ∷ ws) = by (p w) (q w) (both_out p q ws)
  where
    by : (a b : Bool) → filter (λ f. not (q f)) (filter (λ f. not (p f)) ws) ≡ filter (λ f. not (p f || q f)) ws
        → filter (λ f. not (q f)) (cond (not a) (w ∷ filter (λ f. not (p f)) ws) (filter (λ f. not (p f)) ws)) ≡ cond (not (a || q w)) (w ∷ filter (λ f. not (p f || q f)) ws) (filter (λ f. not (p f || q f)) ws)
    by true b ih = ih
    by false b ih = in_turn (q w)
      where
        in_turn : (t : Bool) → cond (not t) (w ∷ filter (λ f. not (q f)) (filter (λ f. not (p f)) ws)) (filter (λ f. not (q f)) (filter (λ f. not (p f)) ws)) ≡ cond (not t) (w ∷ filter (λ f. not (p f || q f)) ws) (filter (λ f. not (p f || q f)) ws)
        in_turn true = ih
        in_turn false = ap (λ (xs : List EnlNo). w ∷ xs) ih

-- taking out one after the other leaves those that aren't among the reached ones
left_is : (reached : EnlNo → Bool) (es ws : List EnlNo) → left_by reached es ws ≡ filter (λ f. not (was_answered reached es f)) ws
left_is reached [] ws = sym (all_pass ws)
left_is reached (e ∷ es) ws = by (reached e) (λ vs. left_is reached es vs)
  where
    by : (b : Bool) → ((vs : List EnlNo) → left_by reached es vs ≡ filter (λ f. not (was_answered reached es f)) vs)
        → left_by reached es (if b then but e.value ws else ws) ≡ filter (λ f. not ((b && (e.value == f.value)) || was_answered reached es f)) ws
    by true ih = ih (but e.value ws) ∙ both_out (λ f. e.value == f.value) (was_answered reached es) ws
    by false ih = ih ws

-- one of these that is reached is this exactly where this is reached and one of them
answered_is : (reached : EnlNo → Bool) (es : List EnlNo) (f : EnlNo) → was_answered reached es f ≡ (reached f && is_one_of es f)
answered_is reached [] f = nothing (reached f)
  where
    nothing : (b : Bool) → false ≡ (b && false)
    nothing true = refl
    nothing false = refl
answered_is reached (e ∷ es) f = by (e.value == f.value) refl (answered_is reached es f)
  where
    out : (a b : Bool) → ((a && false) || b) ≡ b
    out true b = refl
    out false b = refl

    always : (a b c : Bool) → a ≡ b → ((a && true) || (b && c)) ≡ (b && true)
    always true b c same = same ∙ keep b
      where
        keep : (t : Bool) → t ≡ (t && true)
        keep true = refl
        keep false = refl
    always false b c same = ap (λ (t : Bool). t && c) (sym same) ∙ ap (λ (t : Bool). t && true) same

    by : (t : Bool) → (e.value == f.value) ≡ t → was_answered reached es f ≡ (reached f && is_one_of es f) → ((reached e && t) || was_answered reached es f) ≡ (reached f && (t || is_one_of es f))
    by true same ih = ap (λ (b : Bool). (reached e && true) || b) ih ∙ always (reached e) (reached f) (is_one_of es f) (ap reached (same_enlistment e f (eqb-true e.value f.value same)))
    by false same ih = out (reached e) (was_answered reached es f) ∙ ih

-- each of the first is one of the second
abbrev AreAmong : List EnlNo → List EnlNo → Type 0
AreAmong [] es = Unit {0}
AreAmong (w ∷ ws) es = (is_one_of es w ≡ true) × AreAmong ws es

among_more : (e : EnlNo) (ws es : List EnlNo) → AreAmong ws es → AreAmong ws (e ∷ es)
among_more e [] es among = tt
among_more e (w ∷ ws) es among = (or_right (e.value == w.value) (is_one_of es w) among.0, among_more e ws es among.1)

among_all : (ws : List EnlNo) → AreAmong ws ws
among_all [] = tt
among_all (w ∷ ws) = (or_left (w.value == w.value) (is_one_of ws w) (eq-eqb w.value w.value refl), among_more w ws ws (among_all ws))

-- so of themselves those are left that aren't reached
same_left : (reached : EnlNo → Bool) (ws es : List EnlNo) → AreAmong ws es → filter (λ f. not (was_answered reached es f)) ws ≡ filter (λ f. not (reached f)) ws
same_left reached [] es among = refl
same_left reached (w ∷ ws) es among =
    let rest = same_left reached ws es among.1 in
    let here : was_answered reached es w ≡ reached w = answered_is reached es w ∙ ap (λ (t : Bool). reached w && t) among.0 ∙ whole (reached w) in
    λ i. cond (not (here i)) (w ∷ rest i) (rest i)
  where
    whole : (b : Bool) → (b && true) ≡ b
    whole true = refl
    whole false = refl

pub left_reached : (reached : EnlNo → Bool) (ws : List EnlNo) → left_by reached ws ws ≡ filter (λ f. not (reached f)) ws
left_reached reached ws = left_is reached ws ws ∙ same_left reached ws ws (among_all ws)
