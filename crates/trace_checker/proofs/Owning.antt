-- Who may own the commit, with one more enlistment.
use Rattle.std.proofs.Common.{◌≡◌, ℕ, Bool, true, false, cond, ◌==◌, ◌&&◌, ◌||◌, List, [], ◌∷◌, refl, ap, subst, sym, ◌∙◌, arith}
use Rattle.std.proofs.lemmas.Bool.Decides.{nat_tests}
use Rattle.dtx_values.specs.declared.entry.Entry.{Entry}
use Rattle.dtx_values.specs.declared.entry.Entry.TheVariants.{Enlisted}
use Rattle.dtx_values.specs.declared.number.EnlNo.{EnlNo}
use Rattle.dtx_values.specs.declared.words.Class.{Class}
use Rattle.dtx_model.specs.Outcome.{can_own, durables}
use Rattle.dtx_model.specs.Words.{each}
use Rattle.dtx_values.specs.Class.{is_volatile}
use Rattle.trace_checker.specs.declared.owner.Lasting.TheVariants.{One, Several}
use Rattle.trace_checker.specs.declared.owner.Owner.{Owner}
use Rattle.trace_checker.specs.Owner.{IsOwnerOf, named_by, named_with}

same_is : (n m : ℕ) → (n == m) ≡ true → n ≡ m
same_is n m e = grind (arith, nat_tests)

turned : (n m : ℕ) (b : Bool) → (n == m) ≡ b → (m == n) ≡ b
turned n m true e = grind (arith, nat_tests)
turned n m false e = grind (arith, nat_tests)

pub named_more : (x : EnlNo × Class) (ds : List (EnlNo × Class)) → named_by (x ∷ ds) ≡ named_with x.0.value (named_by ds)
named_more x [] = refl
named_more x (y ∷ ys) = by (x.0.value == y.0.value) refl (each (λ z. y.0.value == z.0.value) ys) refl
  where
    by : (s : Bool) → (x.0.value == y.0.value) ≡ s → (r : Bool) → each (λ z. y.0.value == z.0.value) ys ≡ r
        → cond (s && each (λ z. x.0.value == z.0.value) ys) (One x.0.value) Several ≡ named_with x.0.value (cond r (One y.0.value) Several)
    by true e true f =
        let n : x.0.value ≡ y.0.value = same_is x.0.value y.0.value e in
        let g : each (λ z. x.0.value == z.0.value) ys ≡ true = ap (λ k. each (λ (z : EnlNo × Class). k == z.0.value) ys) n ∙ f in
        let t : (y.0.value == x.0.value) ≡ true = turned x.0.value y.0.value true e in
        rw (g, t) (ap One n)
    by true e false f =
        let n : x.0.value ≡ y.0.value = same_is x.0.value y.0.value e in
        let g : each (λ z. x.0.value == z.0.value) ys ≡ false = ap (λ k. each (λ (z : EnlNo × Class). k == z.0.value) ys) n ∙ f in
        rw g refl
    by false e true f = let t : (y.0.value == x.0.value) ≡ false = turned x.0.value y.0.value false e in rw t refl
    by false e false f = refl

-- with a durable or promotable more
pub owner_more : (h : List Entry) (x : Entry) (e : EnlNo) (c : Class) (o w : Owner) (n : ℕ) (b : Bool) → x ≡ Enlisted e c → is_volatile c ≡ false → n ≡ e.value → b ≡ can_own c
    → w.lasting ≡ named_with n o.lasting → w.able ≡ (b || o.able) → IsOwnerOf h o → IsOwnerOf (x ∷ h) w
owner_more h x e c o w n b q v m a p r k = let P : Entry → Type 0 = λ y. IsOwnerOf (y ∷ h) w in subst P (sym q) (record {
  lasting = rw v (p ∙ ap (λ j. named_with j o.lasting) m ∙ ap (named_with e.value) k.lasting ∙ sym (named_more (e, c) (durables h)));
  able = rw v (r ∙ ap (λ d. d || o.able) a ∙ ap (λ d. can_own c || d) k.able);
})
