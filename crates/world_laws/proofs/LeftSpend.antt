-- What is left after a block: its free entries leave no more than their price, and what entries after its first may cost.
use Rattle.std.proofs.Common.{◌≡◌, ℕ, ◌+◌, ◌<◌, ◌≤◌, Bool, true, false, List, [], ◌∷◌, ◌++◌, map, if◌then◌else◌, refl, arith}
use Rattle.std.specs.List.{flat_map}
use Rattle.dtx_values.specs.declared.entry.Entry.{Entry}
use Rattle.dtx_values.specs.declared.entry.Entry.TheVariants.{Answered, Asked, Voted, PromoteReply, Requested, Sealed, Handed, OwnerAnswered, LocalYes, Decided, Told, Promoted, PromotionFailed, Sent, Down as Ended, LogFull, Freed, Stopped, Acked}
use Rattle.dtx_model.specs.Coordinated.{coordinate}
use Rattle.dtx_model.specs.Half.{half_of}
use Rattle.dtx_model.specs.declared.waiting.EnteredCall.{EnteredCall}
use Rattle.dtx_model.specs.Words.{each, onto}
use Rattle.dtx_model.proofs.Bools.{and_both, and_left, and_right}
use Rattle.world_laws.specs.Left.{commits, core_left, half_left, total, wires_left}
use Rattle.world_laws.proofs.LeftCore.{commits-more, core-free, is_core_free}
use Rattle.world_laws.proofs.LeftHalf.{half-free, is_free}
use Rattle.world_laws.proofs.LeftSums.{total-append}
use Rattle.world_laws.proofs.LeftWires.{cost, wires-ended, wires-sent, wires-stopped}

no : false ≡ true → ⊥
no e = absurd cc

-- what is left of a history
abbrev pub left : List EnteredCall → List Entry → ℕ
left ks h = half_left (half_of ks h) + core_left (commits h) (coordinate h) + wires_left h

-- what an entry costs: a message that is sent its steps, and the ends of the connection that it opens
abbrev pub price : Entry → ℕ
price (Sent c d m) = cost c d m
price _ = 0

-- an entry that is free at both sides leaves no more, where it sends nothing
pub still : (ks : List EnteredCall) (x : Entry) (h : List Entry) → is_free x ≡ true → is_core_free x ≡ true → wires_left (x ∷ h) ≤ wires_left h → left ks (x ∷ h) ≤ left ks h
unfolding coordinate
still ks x h f c w = let a = half-free ks x h f in let b = core-free (commits (x ∷ h)) (coordinate h) x c in let z = commits-more x h (coordinate h) in omega arith

-- a free entry leaves no more than its price
pub spend : (ks : List EnteredCall) (x : Entry) (h : List Entry) → is_free x ≡ true → left ks (x ∷ h) ≤ left ks h + price x
unfolding coordinate
spend ks (Sent c d m) h f = let a = half-free ks (Sent c d m) h refl in let b = core-free (commits h) (coordinate h) (Sent c d m) refl in let w = wires-sent c d m h in omega arith
spend ks (Ended c d) h f = let a = still ks (Ended c d) h refl refl (wires-ended c d h) in omega arith
spend ks Stopped h f = let a = still ks Stopped h refl refl (wires-stopped h) in omega arith
spend ks (Answered n x) h f = let a = still ks (Answered n x) h refl refl (omega arith) in omega arith
spend ks (Asked e x) h f = let a = still ks (Asked e x) h refl refl (omega arith) in omega arith
spend ks (Voted e v) h f = let a = still ks (Voted e v) h refl refl (omega arith) in omega arith
spend ks (PromoteReply e b) h f = let a = still ks (PromoteReply e b) h refl refl (omega arith) in omega arith
spend ks (Requested e r) h f = let a = still ks (Requested e r) h refl refl (omega arith) in omega arith
spend ks Sealed h f = let a = still ks Sealed h refl refl (omega arith) in omega arith
spend ks (Handed e) h f = let a = still ks (Handed e) h refl refl (omega arith) in omega arith
spend ks (OwnerAnswered e x) h f = let a = still ks (OwnerAnswered e x) h refl refl (omega arith) in omega arith
spend ks LocalYes h f = let a = still ks LocalYes h refl refl (omega arith) in omega arith
spend ks (Decided x) h f = let a = still ks (Decided x) h refl refl (omega arith) in omega arith
spend ks (Told p x) h f = let a = still ks (Told p x) h refl refl (omega arith) in omega arith
spend ks (Promoted u c) h f = let a = still ks (Promoted u c) h refl refl (omega arith) in omega arith
spend ks PromotionFailed h f = let a = still ks PromotionFailed h refl refl (omega arith) in omega arith
spend ks LogFull h f = let a = still ks LogFull h refl refl (omega arith) in omega arith
spend ks Freed h f = let a = still ks Freed h refl refl (omega arith) in omega arith
spend ks (Acked e) h f = let a = still ks (Acked e) h refl refl (omega arith) in omega arith
spend ks _ h f = absurd (no f)

-- free entries leave no more than their prices
pub spends : (ks : List EnteredCall) (h es : List Entry) → each is_free es ≡ true → left ks (onto h es) ≤ left ks h + total price es
spends ks h [] f = omega arith
spends ks h (x ∷ es) f =
    let a = spend ks x h (and_left (is_free x) (each is_free es) f) in
    let b = spends ks (x ∷ h) es (and_right (is_free x) (each is_free es) f) in
    omega arith

-- free entries whose prices are so much at most
pub record Free (es : List Entry) (n : ℕ) : Type 0 where
  pub free : each is_free es ≡ true
  pub cheap : total price es ≤ n

-- no entry costs nothing
pub free-none : (n : ℕ) → Free [] n
free-none n = record { free = refl; cheap = omega arith }

-- one entry more
pub free-cons : {es : List Entry} {n : ℕ} (x : Entry) → is_free x ≡ true → Free es n → Free (x ∷ es) (price x + n)
free-cons {es} {n} x f i = record { free = and_both (is_free x) (each is_free es) f i.free; cheap = let a = i.cheap in omega arith }

-- more may be allowed
pub free-more : {es : List Entry} {n : ℕ} (m : ℕ) → n ≤ m → Free es n → Free es m
free-more m l i = record { free = i.free; cheap = let a = i.cheap in omega arith }

each-join : {A : Type 0} (p : A → Bool) (xs ys : List A) → each p xs ≡ true → each p ys ≡ true → each p (xs ++ ys) ≡ true
each-join p [] ys a b = b
each-join p (x ∷ xs) ys a b = and_both (p x) (each p (xs ++ ys)) (and_left (p x) (each p xs) a) (each-join p xs ys (and_right (p x) (each p xs) a) b)

-- one block after another
pub free-join : {xs ys : List Entry} {n m : ℕ} → Free xs n → Free ys m → Free (xs ++ ys) (n + m)
free-join {xs} {ys} i j = record { free = each-join is_free xs ys i.free j.free; cheap = let a = i.cheap in let b = j.cheap in let c = total-append price xs ys in omega arith }

-- one of two blocks
pub free-if : (b : Bool) {xs ys : List Entry} {n : ℕ} → Free xs n → Free ys n → Free (if b then xs else ys) n
free-if true i j = i
free-if false i j = j

-- a list of blocks, each of which costs so much
pub free-flat : {A : Type 0} (f : A → List Entry) (n : ℕ) → ((x : A) → Free (f x) n) → (xs : List A) → Free (flat_map f xs) (total (λ x. n) xs)
free-flat f n k [] = record { free = refl; cheap = omega arith }
free-flat f n k (x ∷ xs) = free-join (k x) (free-flat f n k xs)

-- entries that cost nothing
pub free-map : {A : Type 0} (f : A → Entry) → ((x : A) → is_free (f x) ≡ true) → ((x : A) → price (f x) ≡ 0) → (xs : List A) → Free (map f xs) 0
free-map f k p [] = free-none 0
free-map f k p (x ∷ xs) = free-more 0 (let a = p x in omega arith) (free-cons (f x) (k x) (free-map f k p xs))

-- a block leaves no more than so much more
pub record Less (ks : List EnteredCall) (h es : List Entry) (n : ℕ) : Type 0 where
  pub proof : left ks (onto h es) ≤ left ks h + n

-- free entries leave no more than they cost
pub less-free : {ks : List EnteredCall} {h es : List Entry} {n : ℕ} → Free es n → Less ks h es n
less-free {ks} {h} {es} i = record { proof = let a = spends ks h es i.free in let b = i.cheap in omega arith }

-- more may be allowed
pub less-more : {ks : List EnteredCall} {h es : List Entry} {n : ℕ} (m : ℕ) → n ≤ m → Less ks h es n → Less ks h es m
less-more m l i = record { proof = let a = i.proof in omega arith }

-- one of two blocks
pub less-if : (b : Bool) {ks : List EnteredCall} {h xs ys : List Entry} {n : ℕ} → (b ≡ true → Less ks h xs n) → (b ≡ false → Less ks h ys n) → Less ks h (if b then xs else ys) n
less-if true i j = i refl
less-if false i j = j refl

-- less is left after a block whose first entry leaves so much less, and whose others don't make up for that
pub falls-by : (ks : List EnteredCall) (h es : List Entry) (x : Entry) (r n : ℕ) → left ks (x ∷ h) + r ≤ left ks h → Less ks (x ∷ h) es n → n < r → left ks (onto h (x ∷ es)) < left ks h
falls-by ks h es x r n a i l = let b = i.proof in omega arith

-- an entry of the local side's that leaves so much less there
pub by-half : (ks : List EnteredCall) (h : List Entry) (x : Entry) (r : ℕ) → half_left (half_of ks (x ∷ h)) + r ≤ half_left (half_of ks h) → is_core_free x ≡ true → wires_left (x ∷ h) ≤ wires_left h
    → left ks (x ∷ h) + r ≤ left ks h
unfolding coordinate
by-half ks h x r a c w = let b = core-free (commits (x ∷ h)) (coordinate h) x c in let z = commits-more x h (coordinate h) in omega arith
