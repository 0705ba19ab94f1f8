-- Blocks of entries that are written after each other.
use Rattle.std.proofs.Common.{◌≡◌, ◌-◌, List, [], ◌∷◌, ◌++◌, length, arith, append_assoc, length-append, refl, ap, sym, ◌∙◌}
use Rattle.std.proofs.lemmas.List.{append-nil}
use Rattle.dtx_values.specs.declared.entry.Entry.{Entry}
use Rattle.dtx_values.specs.declared.entry.Entry.TheVariants.{Sent}
use Rattle.dtx_values.specs.declared.message.Conn.{Conn}
use Rattle.dtx_values.specs.declared.message.Dir.{Dir}
use Rattle.dtx_values.specs.declared.message.Message.{Message}
use Rattle.dtx_values.specs.Outgoing.{Outgoing, sends_of, written}

-- the messages of two blocks after each other
pub sends_of-append : (xs ys : List Entry) → sends_of (xs ++ ys) ≡ sends_of xs ++ sends_of ys
sends_of-append [] ys = refl
sends_of-append (Sent c d m ∷ xs) ys = ap (λ (ms : List (Conn × Dir × Message)). (c, d, m) ∷ ms) (sends_of-append xs ys)
sends_of-append (x ∷ xs) ys = sends_of-append xs ys

-- two blocks after each other are one
pub written-written : (o : Outgoing) (xs ys : List Entry) → written (written o xs) ys ≡ written o (xs ++ ys)
written-written o xs ys =
    let sends : (o.sends ++ sends_of xs) ++ sends_of ys ≡ o.sends ++ sends_of (xs ++ ys) =
    append_assoc o.sends (sends_of xs) (sends_of ys) ∙ ap (λ (ms : List (Conn × Dir × Message)). o.sends ++ ms) (sym (sends_of-append xs ys)) in
    let few : length (sends_of (xs ++ ys)) ≡ length (sends_of xs ++ sends_of ys) = ap length (sends_of-append xs ys) in
    let room : (o.room - length xs) - length ys ≡ o.room - length (xs ++ ys) = omega (arith, length-append xs ys) in
    let send_room : (o.send_room - length (sends_of xs)) - length (sends_of ys) ≡ o.send_room - length (sends_of (xs ++ ys)) = omega (arith, few, length-append (sends_of xs) (sends_of ys)) in
    λ i. record { entries = append_assoc o.entries xs ys i; sends = sends i; room = room i; send_room = send_room i }

-- an empty block changes nothing
pub written-none : (o : Outgoing) → written o [] ≡ o
written-none o =
    let room : o.room - 0 ≡ o.room = omega arith in
    let send_room : o.send_room - 0 ≡ o.send_room = omega arith in
    λ i. record { entries = append-nil o.entries i; sends = append-nil o.sends i; room = room i; send_room = send_room i }
