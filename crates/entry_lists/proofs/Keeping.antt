-- What is put into a list of entries in few bytes.
use Rattle.std.proofs.Common.{◌≡◌, ◌<◌, ℕ, true, false, Bool, List, [], ◌∷◌, ◌++◌, length, map, refl, ap, arith}
use Rattle.std.proofs.lemmas.List.{get_or_append_left, length-append}
use Rattle.std.proofs.lemmas.Bool.Decides.{Decides-ltb}
use Rattle.dtx_model.specs.Words.{each}
use Rattle.dtx_model.proofs.Bools.{and_both, and_left, and_right}
use Rattle.dtx_values.specs.declared.entry.Entry.{Entry}
use Rattle.dtx_values.specs.declared.entry.Entry.TheVariants.{Late}
use Rattle.entry_lists.specs.declared.brief.Brief.{Brief}
use Rattle.entry_lists.specs.declared.brief.Brief.TheVariants.{Called, Began, Enlisted, CommitAsked, RollbackAsked, Clock, Asked, Voted, Sealed, Decided, Told, ToldClient, Whole}
use Rattle.entry_lists.specs.declared.short.ShortPlace.{ShortPlace}
use Rattle.entry_lists.specs.Held.{entry_in, is_whole, is_within, is_placed_within, place_of, placed_in}

-- Another entry that stands whole changes none of those in few bytes.
pub more_wholes : (ws : List Entry) (e : Entry) (b : Brief) → is_within (length ws) b ≡ true → (entry_in (ws ++ e ∷ []) b ≡ entry_in ws b) × (is_within (length (ws ++ e ∷ [])) b ≡ true)
more_wholes ws e (Called a n) h = (refl, refl)
more_wholes ws e (Began n) h = (refl, refl)
more_wholes ws e (Enlisted f c) h = (refl, refl)
more_wholes ws e CommitAsked h = (refl, refl)
more_wholes ws e RollbackAsked h = (refl, refl)
more_wholes ws e (Clock n) h = (refl, refl)
more_wholes ws e (Asked f a) h = (refl, refl)
more_wholes ws e (Voted f v) h = (refl, refl)
more_wholes ws e Sealed h = (refl, refl)
more_wholes ws e (Decided o) h = (refl, refl)
more_wholes ws e (Told f o) h = (refl, refl)
more_wholes ws e (ToldClient o) h = (refl, refl)
more_wholes ws e (Whole k) h =
    let within : k < length ws = (Decides-ltb k (length ws)).0 h in
    let more : k < length (ws ++ e ∷ []) = omega (arith, length-append ws (e ∷ []), within) in
    (get_or_append_left ws (e ∷ []) Late k within, (Decides-ltb k (length (ws ++ e ∷ []))).1 more)

-- One that doesn't stand whole is the same among any.
pub brief_alike : (ws vs : List Entry) (n : ℕ) (b : Brief) → is_whole b ≡ false → (entry_in ws b ≡ entry_in vs b) × (is_within n b ≡ true)
brief_alike ws vs n (Called a m) h = (refl, refl)
brief_alike ws vs n (Began m) h = (refl, refl)
brief_alike ws vs n (Enlisted f c) h = (refl, refl)
brief_alike ws vs n CommitAsked h = (refl, refl)
brief_alike ws vs n RollbackAsked h = (refl, refl)
brief_alike ws vs n (Clock m) h = (refl, refl)
brief_alike ws vs n (Asked f a) h = (refl, refl)
brief_alike ws vs n (Voted f v) h = (refl, refl)
brief_alike ws vs n Sealed h = (refl, refl)
brief_alike ws vs n (Decided o) h = (refl, refl)
brief_alike ws vs n (Told f o) h = (refl, refl)
brief_alike ws vs n (ToldClient o) h = (refl, refl)
brief_alike ws vs n (Whole k) h = absurd cc

-- Each of a list shows the same after a change, and with one more it shows that too.
one_more : {X Y : Type 0} (f g : X → Y) (p q : X → Bool) (xs : List X) (x : X) → ((z : X) → p z ≡ true → (g z ≡ f z) × (q z ≡ true)) → each p xs ≡ true → q x ≡ true
    → (map g (xs ++ x ∷ []) ≡ map f xs ++ g x ∷ []) × (each q (xs ++ x ∷ []) ≡ true)
one_more f g p q [] x stay h k = (refl, and_both (q x) true k refl)
one_more f g p q (y ∷ ys) x stay h k =
    let here = stay y (and_left (p y) (each p ys) h) in
    let rest = one_more f g p q ys x stay (and_right (p y) (each p ys) h) k in
    ((λ i. here.0 i ∷ rest.0 i), and_both (q y) (each q (ys ++ x ∷ [])) here.1 rest.1)

-- the same of an entry with its place
placed_stays : (old new : List Entry) → ((b : Brief) → is_within (length old) b ≡ true → (entry_in new b ≡ entry_in old b) × (is_within (length new) b ≡ true))
    → (x : ShortPlace × Brief) → is_placed_within (length old) x ≡ true → (placed_in new x ≡ placed_in old x) × (is_placed_within (length new) x ≡ true)
placed_stays old new stay x h = let here = stay x.1 h in (ap (λ (e : Entry). (place_of x.0, e)) here.0, here.1)

-- With one more in few bytes, or whole, a list shows what it showed, and that one.
pub briefs_more : (old new : List Entry) (bs : List Brief) (b : Brief) → ((x : Brief) → is_within (length old) x ≡ true → (entry_in new x ≡ entry_in old x) × (is_within (length new) x ≡ true))
    → each (is_within (length old)) bs ≡ true → is_within (length new) b ≡ true
    → (map (entry_in new) (bs ++ b ∷ []) ≡ map (entry_in old) bs ++ entry_in new b ∷ []) × (each (is_within (length new)) (bs ++ b ∷ []) ≡ true)
briefs_more old new bs b stay h k = one_more (entry_in old) (entry_in new) (is_within (length old)) (is_within (length new)) bs b stay h k

-- the same of a list of entries with their places
pub placed_more : (old new : List Entry) (bs : List (ShortPlace × Brief)) (p : ShortPlace) (b : Brief)
    → ((x : Brief) → is_within (length old) x ≡ true → (entry_in new x ≡ entry_in old x) × (is_within (length new) x ≡ true)) → each (is_placed_within (length old)) bs ≡ true → is_within (length new) b ≡ true
    → (map (placed_in new) (bs ++ (p, b) ∷ []) ≡ map (placed_in old) bs ++ placed_in new (p, b) ∷ []) × (each (is_placed_within (length new)) (bs ++ (p, b) ∷ []) ≡ true)
placed_more old new bs p b stay h k = one_more (placed_in old) (placed_in new) (is_placed_within (length old)) (is_placed_within (length new)) bs (p, b) (placed_stays old new stay) h k
