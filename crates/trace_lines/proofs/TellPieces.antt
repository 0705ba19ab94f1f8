-- Words with spaces between them, read back one by one.
use Rattle.std.proofs.Common.{◌≡◌, ℕ, List, ◌++◌, codes, refl, ap, ◌∙◌}
use Rattle.line_tail.specs.Cut.{IsWithout, behind, front}
use Rattle.trace_lines.proofs.CutWords.{cut_spaced, cut_twice}

-- what two words say, each read by its reader
abbrev pub of_two : {A B C : Type 0} → (A → B → C) → (List ℕ → A) → (List ℕ → B) → List ℕ → C
of_two f g h w = f (g (front 32 w)) (h (behind 32 w))

-- what three words say
abbrev pub of_three : {A B C D : Type 0} → (A → B → C → D) → (List ℕ → A) → (List ℕ → B) → (List ℕ → C) → List ℕ → D
of_three f g h k w = f (g (front 32 w)) (h (front 32 (behind 32 w))) (k (behind 32 (behind 32 w)))

-- both are read back where each is
pub two_are : {A B C : Type 0} (f : A → B → C) (g : List ℕ → A) (h : List ℕ → B) (a : A) (b : B) (v w : List ℕ) → IsWithout 32 v → g v ≡ a → h w ≡ b
    → of_two f g h (v ++ codes " " ++ w) ≡ f a b
two_are f g h a b v w apart ga hb =
    let k = cut_spaced (v ++ codes " " ++ w) _ _ v w refl refl refl apart in
    λ i. f ((ap g k.first ∙ ga) i) ((ap h k.last ∙ hb) i)

-- and all three
pub three_are : {A B C D : Type 0} (f : A → B → C → D) (g : List ℕ → A) (h : List ℕ → B) (m : List ℕ → C) (a : A) (b : B) (c : C) (u v w : List ℕ)
    → IsWithout 32 u → IsWithout 32 v → g u ≡ a → h v ≡ b → m w ≡ c → of_three f g h m (u ++ codes " " ++ v ++ codes " " ++ w) ≡ f a b c
three_are f g h m a b c u v w apart between ga hb mc =
    let k = cut_twice (u ++ codes " " ++ v ++ codes " " ++ w) _ _ u v w refl refl refl apart in
    let j = cut_spaced (behind 32 (u ++ codes " " ++ v ++ codes " " ++ w)) _ _ v w refl refl k.last between in
    λ i. f ((ap g k.first ∙ ga) i) ((ap h j.first ∙ hb) i) ((ap m j.last ∙ mc) i)
