-- Recovery information that is read.
use Rattle.std.proofs.Common.{◌≡◌, ℕ, ◌==◌, ◌&&◌, true, codes, ap, sym, ◌∙◌, arith}
use Rattle.std.proofs.lemmas.Bool.Decides.{nat_tests}
use Rattle.dtx_values.specs.declared.number.EnlNo.{EnlNo}
use Rattle.dtx_values.specs.declared.message.Conn.TheVariants.{Enl, Again}
use Rattle.dtx_values.specs.declared.message.Info.{Info}
use Rattle.dtx_values.specs.declared.message.Message.{Message}
use Rattle.dtx_values.specs.declared.message.Message.TheVariants.{EnlistEnlist, ReenlistReenlist}
use Rattle.dtx_values.specs.declared.trace.Place.{Place}
use Rattle.dtx_values.specs.Lines.{is_enlist_up, is_reenlist_up}
use Rattle.dtx_model.specs.TraceText.{id_at, is_message_fit, message_text}
use Rattle.dtx_model.proofs.Bools.{and_left, and_right}
use Rattle.line_tail.specs.Cut.{front}
use Rattle.dtx_model.specs.Faults.{same_bytes}
use Rattle.dtx_values.proofs.SameNumbers.{same_enlistment, same_manager}

-- numbers that pass as equal are
equal : (m n : ℕ) → (m == n) ≡ true → m ≡ n
equal m n h = grind (arith, nat_tests)

-- the recovery information that is made is the one that the place and the connection have
info_found : (t : ℕ) (i j : Info) (e : EnlNo) → i.id ≡ t → i.rm.value ≡ 1 → i.enl ≡ e → ((j.id == t) && (j.rm.value == 1) && (j.enl.value == e.value)) ≡ true → i ≡ j
info_found t i j e a b d h =
    let first = and_left ((j.id == t) && (j.rm.value == 1)) (j.enl.value == e.value) h in
    let id : i.id ≡ j.id = a ∙ sym (equal j.id t (and_left (j.id == t) (j.rm.value == 1) first)) in
    let rm : i.rm ≡ j.rm = same_manager i.rm j.rm (b ∙ sym (equal j.rm.value 1 (and_right (j.id == t) (j.rm.value == 1) first))) in
    let enl : i.enl ≡ j.enl = same_enlistment i.enl j.enl (ap (λ x. x.value) d ∙ sym (equal j.enl.value e.value (and_right ((j.id == t) && (j.rm.value == 1)) (j.enl.value == e.value) h))) in
    λ k. record { id = id k; rm = rm k; enl = enl k }

-- so the message that enlists is found
pub enlist_found : (p : Place) (m : Message) (e : EnlNo) (i : Info) → i.id ≡ id_at p → i.rm.value ≡ 1 → i.enl ≡ e → is_enlist_up m ≡ true → is_message_fit p (Enl e) m ≡ true
    → same_bytes (codes "enlist") (front 32 (message_text m)) ≡ true → EnlistEnlist i ≡ m
enlist_found p (EnlistEnlist j) e i a b d h f k = ap EnlistEnlist (info_found (id_at p) i j e a b d f)
enlist_found p _ e i a b d h f k = absurd (cc (h, k))

-- and the one that reenlists
pub reenlist_found : (p : Place) (m : Message) (e : EnlNo) (i : Info) → i.id ≡ id_at p → i.rm.value ≡ 1 → i.enl ≡ e → is_reenlist_up m ≡ true → is_message_fit p (Again e) m ≡ true
    → same_bytes (codes "reenlist") (front 32 (message_text m)) ≡ true → ReenlistReenlist i ≡ m
reenlist_found p (ReenlistReenlist j) e i a b d h f k = ap ReenlistReenlist (info_found (id_at p) i j e a b d f)
reenlist_found p _ e i a b d h f k = absurd (cc (h, k))
