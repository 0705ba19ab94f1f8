-- How many ends there are after a message that the local side sends.
use Rattle.std.proofs.Common.{◌≡◌, ◌≤◌, ◌<◌, ℕ, suc, Bool, true, false, not, nat_lt, nat_le, List, [], ◌∷◌, length, map, filter, refl, ap, subst, sym, arith}
use Rattle.std.proofs.lemmas.Bool.{le-leb}
use Rattle.std.proofs.lemmas.Bool.Decides.{nat_tests}
use Rattle.std.proofs.lemmas.List.{length-map}
use Rattle.std.specs.Bool.{if◌then◌else◌}
use Rattle.dtx_values.specs.declared.end.End.{End}
use Rattle.dtx_values.specs.declared.entry.Entry.TheVariants.{Sent}
use Rattle.dtx_values.specs.declared.message.Conn.{Conn}
use Rattle.dtx_values.specs.declared.message.Dir.TheVariants.{Up}
use Rattle.dtx_values.specs.declared.message.Message.{Message}
use Rattle.dtx_values.specs.Ends.{end_order, ends_after, is_end_of, note_sent, tag_of, with_opened}
use Rattle.dtx_values.specs.Lines.{is_opening}
use Rattle.dtx_values.specs.Table.{insert_by}

-- an item put in its place is one more
length-insert_by : {A : Type 0} (key : A → ℕ) (x : A) (ys : List A) → length (insert_by key x ys) ≡ suc (length ys)
length-insert_by key x [] = refl
length-insert_by key x (y ∷ ys) = step (nat_lt (key y) (key x)) (length-insert_by key x ys)
  where
    step : (b : Bool) → length (insert_by key x ys) ≡ suc (length ys) → length (if b then y ∷ insert_by key x ys else x ∷ y ∷ ys) ≡ suc (suc (length ys))
    step true one = ap suc one
    step false one = refl

-- a connection that is opened has one more end than the others
pub length-opened : (c : Conn) (tag : ℕ) (ns : List End) → length (with_opened c tag ns) ≡ suc (length (filter (λ n. not (is_end_of c n)) ns))
length-opened c tag ns = length-insert_by end_order _ (filter (λ n. not (is_end_of c n)) ns)

-- where the message opens its connection, the others leave room
pub few_others : (c : Conn) (m : Message) (ns : List End) (most : ℕ) → is_opening c m ≡ true → length (ends_after (Sent c Up m) ns) ≤ most → length (filter (λ n. not (is_end_of c n)) ns) < most
few_others c m ns most opening few =
    let here : length (with_opened c (tag_of m) ns) ≤ most = subst (λ b. length (if b then with_opened c (tag_of m) ns else map (note_sent c (tag_of m)) ns) ≤ most) opening few in
    omega (arith, length-opened c (tag_of m) ns)

-- there is room for it exactly where the others leave some
pub room_opened : (c : Conn) (m : Message) (ns : List End) (most : ℕ) → is_opening c m ≡ true → nat_lt (length (filter (λ n. not (is_end_of c n)) ns)) most ≡ nat_le (length (ends_after (Sent c Up m) ns)) most
room_opened c m ns most opening =
    let one = length-opened c (tag_of m) ns in
    let here : nat_lt (length (filter (λ n. not (is_end_of c n)) ns)) most ≡ nat_le (length (with_opened c (tag_of m) ns)) most = rw one (grind (arith, nat_tests)) in
    subst (λ b. nat_lt (length (filter (λ n. not (is_end_of c n)) ns)) most ≡ nat_le (length (if b then with_opened c (tag_of m) ns else map (note_sent c (tag_of m)) ns)) most) (sym opening) here

-- any other message takes no room
pub room_kept : (c : Conn) (m : Message) (ns : List End) (most : ℕ) → is_opening c m ≡ false → length ns ≤ most → true ≡ nat_le (length (ends_after (Sent c Up m) ns)) most
room_kept c m ns most kept all =
    let here : true ≡ nat_le (length (map (note_sent c (tag_of m)) ns)) most = rw (length-map ns (note_sent c (tag_of m))) (sym (le-leb (length ns) most all)) in
    subst (λ b. true ≡ nat_le (length (if b then with_opened c (tag_of m) ns else map (note_sent c (tag_of m)) ns)) most) (sym kept) here
