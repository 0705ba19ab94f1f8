-- Writes in a row.
use Rattle.std.proofs.Common.{◌≡◌, ◌-◌, List, [], ◌++◌, length, arith, ap, sym, ◌∙◌}
use Rattle.std.proofs.lemmas.List.{append-nil}
use Rattle.dtx_values.specs.declared.entry.Entry.{Entry}
use Rattle.dtx_values.specs.declared.message.Conn.{Conn}
use Rattle.dtx_values.specs.declared.message.Dir.{Dir}
use Rattle.dtx_values.specs.declared.message.Message.{Message}
use Rattle.dtx_values.specs.Outgoing.{Outgoing, sends_of, with, written}
use Rattle.dtx_model.proofs.Writing.{written-none, written-written}

pub ruleset outgoing = (written-written, written-none)

-- entries that send nothing
pub unsent : (o : Outgoing) (es : List Entry) → sends_of es ≡ [] → with o es ≡ written o es
unsent o es none =
    let room : o.send_room ≡ o.send_room - length (sends_of es) = let zero = ap length none in omega (arith, zero) in
    let sends : o.sends ≡ o.sends ++ sends_of es = sym (ap (λ (ms : List (Conn × Dir × Message)). o.sends ++ ms) none ∙ append-nil o.sends) in
    λ i. record { entries = o.entries ++ es; sends = sends i; room = o.room - length es; send_room = room i }
