-- A block pays what is demanded: its first entry's demand is met by its second, and the others demand nothing.
use Rattle.std.proofs.Common.{◌≡◌, Bool, true, false, ◌&&◌, List, [], ◌∷◌, ◌++◌, Option, Some, None, refl}
use Rattle.std.specs.Prelude.{filter, if◌then◌else◌}
use Rattle.std.specs.List.{flat_map}
use Rattle.dtx_values.specs.declared.entry.Entry.{Entry}
use Rattle.dtx_values.specs.declared.entry.Entry.TheVariants.{OwnerAnswered, Voted, PromoteReply, Requested, Sealed, LocalYes, Promoting, Got, Logged, Sent}
use Rattle.dtx_values.specs.declared.message.Conn.{Conn}
use Rattle.dtx_values.specs.declared.message.Conn.TheVariants.{Begin, Voter, Enl, Again}
use Rattle.dtx_values.specs.declared.message.Dir.TheVariants.{Down}
use Rattle.dtx_values.specs.declared.message.Message.{Message}
use Rattle.dtx_values.specs.declared.message.Message.TheVariants.{BeginCommitted, VoterCommit, EnlistCommit, ReenlistCommitted}
use Rattle.dtx_values.specs.Ends.{same_connection}
use Rattle.dtx_model.specs.Words.{each, has, onto}
use Rattle.dtx_model.specs.Coordinated.{Coordinated, commit_sends, coordinate, follow, is_prepared, to, to_each, to_waiting}
use Rattle.dtx_model.proofs.Bools.{and_left, and_right, and_both}
use Rattle.history_table.proofs.Scans.{each-append}
use Rattle.settled_histories.proofs.Debts.{debt, is_free, knows_there, meets, owes_none, paid, pays}

-- the entry demands nothing, whatever stands before it
abbrev pub is_silent : Entry → Bool
is_silent (Promoting c) = false
is_silent (PromoteReply e ok) = false
is_silent Sealed = false
is_silent (Requested e x) = false
is_silent LocalYes = false
is_silent (Voted e v) = false
is_silent (OwnerAnswered e x) = false
is_silent Logged = false
is_silent (Got c d m) = false
is_silent x = true

silent_free : (h : List Entry) (x : Entry) → is_silent x ≡ true → is_free (debt h x) ≡ true
silent_free h (Promoting c) k = absurd cc
silent_free h (PromoteReply e ok) k = absurd cc
silent_free h Sealed k = absurd cc
silent_free h (Requested e x) k = absurd cc
silent_free h LocalYes k = absurd cc
silent_free h (Voted e v) k = absurd cc
silent_free h (OwnerAnswered e x) k = absurd cc
silent_free h Logged k = absurd cc
silent_free h (Got c d m) k = absurd cc
silent_free h x k = refl

free_meets : (o : Option (Entry → Bool)) (x : Entry) → is_free o ≡ true → meets o x ≡ true
free_meets (Some q) x k = absurd cc
free_meets None x k = refl

free_pays : (h : List Entry) (x : Entry) → owes_none h ≡ true → pays h x ≡ true
free_pays [] x k = refl
free_pays (y ∷ h) x k = free_meets (debt h y) x k

-- a history in which all is paid and nothing is owed
pub record IsPaid (h : List Entry) : Type 0 where
  pub paid : paid h ≡ true
  pub free : owes_none h ≡ true

-- entries that demand nothing keep it so
pub silent_paid : (h xs : List Entry) → IsPaid h → each is_silent xs ≡ true → IsPaid (onto h xs)
silent_paid h [] p k = p
silent_paid h (x ∷ xs) p k =
    silent_paid (x ∷ h) xs
    (record { paid = and_both (pays h x) (paid h) (free_pays h x p.free) p.paid; free = silent_free h x (and_left (is_silent x) (each is_silent xs) k) })
    (and_right (is_silent x) (each is_silent xs) k)

-- and so does an entry whose demand the next one meets
pub block_paid : (h : List Entry) (x y : Entry) (xs : List Entry) → IsPaid h → meets (debt h x) y ≡ true → each is_silent (y ∷ xs) ≡ true → IsPaid (onto h (x ∷ y ∷ xs))
block_paid h x y xs p m k =
    silent_paid (y ∷ x ∷ h) xs
    (record {
      paid = and_both (meets (debt h x) y) (pays h x && paid h) m (and_both (pays h x) (paid h) (free_pays h x p.free) p.paid);
      free = silent_free (x ∷ h) y (and_left (is_silent y) (each is_silent xs) k);
    }) (and_right (is_silent y) (each is_silent xs) k)

-- or whose demand is none here
pub single_paid : (h : List Entry) (x : Entry) → IsPaid h → is_free (debt h x) ≡ true → IsPaid (x ∷ h)
single_paid h x p f = record { paid = and_both (pays h x) (paid h) (free_pays h x p.free) p.paid; free = f }

-- A block with lists of messages: `logged`.
silent_to : (k : Coordinated) (c : Conn) (m : Message) → each is_silent (to k c m) ≡ true
silent_to k c m = step (has (same_connection c) k.known)
  where
    step : (b : Bool) → each is_silent (if b then Sent c Down m ∷ [] else []) ≡ true
    step true = refl
    step false = refl

silent_each : {A : Type 0} (f : A → List Entry) → ((x : A) → each is_silent (f x) ≡ true) → (xs : List A) → each is_silent (flat_map f xs) ≡ true
silent_each f s [] = refl
silent_each f s (x ∷ xs) = each-append is_silent (f x) (flat_map f xs) (s x) (silent_each f s xs)

-- the block of the record is paid: where the coordinator knows b, COMMITTED is first
pub logged_paid : (h : List Entry) → IsPaid h → IsPaid (onto h (Logged ∷ commit_sends (coordinate (Logged ∷ h))))
unfolding coordinate follow
logged_paid h p =
    let k = coordinate (Logged ∷ h) in
    let rest = to k Voter VoterCommit ++ to_each k EnlistCommit (filter (λ d. is_prepared d.ballot) k.desks) ++ to_waiting k ReenlistCommitted in
    let silent : each is_silent rest ≡ true =
    each-append is_silent (to k Voter VoterCommit ++ to_each k EnlistCommit (filter (λ d. is_prepared d.ballot) k.desks)) (to_waiting k ReenlistCommitted)
    (each-append is_silent (to k Voter VoterCommit) (to_each k EnlistCommit (filter (λ d. is_prepared d.ballot) k.desks)) (silent_to k Voter VoterCommit)
    (silent_each (λ d. to k (Enl d.enlistment) EnlistCommit) (λ d. silent_to k (Enl d.enlistment) EnlistCommit) (filter (λ d. is_prepared d.ballot) k.desks)))
    (silent_each (λ e. to k (Again e) ReenlistCommitted) (λ e. silent_to k (Again e) ReenlistCommitted) k.waits) in
    step (has (same_connection Begin) (coordinate h).known) refl (to k Voter VoterCommit) (to_each k EnlistCommit (filter (λ d. is_prepared d.ballot) k.desks)) (to_waiting k ReenlistCommitted) silent
  where
    step : (b : Bool) → knows_there Begin h ≡ b → (xs ys zs : List Entry) → each is_silent (xs ++ ys ++ zs) ≡ true
        → IsPaid (onto h (Logged ∷ ((if b then Sent Begin Down BeginCommitted ∷ [] else []) ++ xs ++ ys ++ zs)))
    step true e xs ys zs s = block_paid h Logged (Sent Begin Down BeginCommitted) (xs ++ ys ++ zs) p (rw e refl) s
    step false e xs ys zs s = silent_paid (Logged ∷ h) (xs ++ ys ++ zs) (single_paid h Logged p (rw e refl)) s
