-- Words on histories. A history is read newest first: `e ∷ past` is the history `past` with e after it.
use Rattle.std.specs.Prelude.{ℕ, zero, suc, Bool, true, false, ◌&&◌, ◌||◌, not, List, [], ◌∷◌, Option, Some, None, slice_get}
use Rattle.std.specs.List.{list_any, list_all}

-- some item passes
abbrev pub has : {A : Type 0} → (A → Bool) → List A → Bool
has p xs = list_any p xs

-- each item passes
abbrev pub each : {A : Type 0} → (A → Bool) → List A → Bool
each p xs = list_all p xs

-- some entry passes, with what stands before it
abbrev pub ever : {E : Type 0} → (List E → E → Bool) → List E → Bool
ever t [] = false
ever t (e ∷ past) = t past e || ever t past

-- each entry passes, with what stands before it
abbrev pub always : {E : Type 0} → (List E → E → Bool) → List E → Bool
always t [] = true
always t (e ∷ past) = t past e && always t past

-- the first where it is there, else the second
abbrev pub or_else : {A : Type 0} → Option A → Option A → Option A
or_else (Some x) o = Some x
or_else None o = o

-- what the newest entry with an answer gives
abbrev pub latest : {E A : Type 0} → (E → Option A) → List E → Option A
latest f [] = None
latest f (e ∷ past) = or_else (f e) (latest f past)

-- what was given is there, and true
abbrev pub holds : Option Bool → Bool
holds (Some b) = b
holds None = false

-- both or neither
abbrev pub same : Bool → Bool → Bool
same true b = b
same false b = not b

-- the item in front, where there is one
abbrev pub put : {A : Type 0} → Option A → List A → List A
put (Some x) xs = x ∷ xs
put None xs = xs

-- what the entries give, newest first
abbrev pub all_of : {E A : Type 0} → (E → Option A) → List E → List A
all_of f [] = []
all_of f (e ∷ past) = put (f e) (all_of f past)

-- the history with a block of entries after it, the block's first entry first
abbrev pub onto : {E : Type 0} → List E → List E → List E
onto past [] = past
onto past (e ∷ es) = onto (e ∷ past) es

-- the history whose entries stand in this list, oldest first
abbrev pub past_of : {E : Type 0} → List E → List E
past_of xs = onto [] xs

-- the k-th item, from 1
abbrev pub kth : {A : Type 0} → List A → ℕ → Option A
kth xs zero = None
kth xs (suc k) = slice_get xs k
