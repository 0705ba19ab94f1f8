-- What a text leaves out of the messages, put in as a trace that is read has it: the identifier of the place, and r1 as every manager.
use Rattle.std.proofs.Common.{◌≡◌, ℕ, ◌==◌, true, ◌&&◌, List, [], ◌∷◌, map, refl, ap, sym, arith}
use Rattle.std.proofs.lemmas.Bool.{eqb-true}
use Rattle.dtx_values.specs.declared.entry.Entry.{Entry}
use Rattle.dtx_values.specs.declared.entry.Entry.TheVariants.{Sent, Got}
use Rattle.dtx_values.specs.declared.message.Conn.{Conn}
use Rattle.dtx_values.specs.declared.message.Conn.TheVariants.{Enl, Again}
use Rattle.dtx_values.specs.declared.message.Info.{Info}
use Rattle.dtx_values.specs.declared.message.Message.{Message}
use Rattle.dtx_values.specs.declared.message.Message.TheVariants.{BeginBegun, VoterVoter, VoterRefused, EnlistEnlist, EnlistRefused, ReenlistReenlist}
use Rattle.dtx_values.specs.declared.number.EnlNo.{EnlNo}
use Rattle.dtx_values.specs.declared.number.RmNo.{RmNo}
use Rattle.dtx_values.specs.declared.trace.Place.{Place}
use Rattle.dtx_values.specs.Lines.{has_line}
use Rattle.dtx_values.proofs.SameNumbers.{same_enlistment, same_manager}
use Rattle.dtx_model.specs.Words.{each}
use Rattle.dtx_model.specs.Traces.{Placed}
use Rattle.dtx_model.specs.TraceText.{id_at, is_entry_fit, is_fit, is_info_at, is_message_fit}
use Rattle.dtx_model.proofs.Bools.{and_both, and_left, and_right}
use Rattle.trace_lines.specs.OneTrace.{carrying, is_carried, is_carried_at, is_cause_typed, is_typed, is_typed_at, told, told_at}

-- manager r1
unfoldable pub first_manager : RmNo
first_manager = record { value = 1; in_range = (omega arith, omega arith) }

-- the enlistment of a connection, and e1 where it has none
unfoldable pub enlistment_on : Conn → EnlNo
enlistment_on (Enl e) = e
enlistment_on (Again e) = e
enlistment_on c = record { value = 1; in_range = (omega arith, omega arith) }

-- the recovery information of r1 with this identifier on this connection
unfoldable pub info_on : ℕ → Conn → Info
info_on u c = record { id = u; rm = first_manager; enl = enlistment_on c }

-- the message on its connection with this identifier in it, alone or in its recovery information
unfoldable pub message_with : ℕ → Conn → Message → Message
message_with u c m = carrying u (info_on u c) m

-- the entry with this identifier in its message
unfoldable pub filled : ℕ → Entry → Entry
filled u (Sent c d m) = Sent c d (message_with u c m)
filled u (Got c d m) = Got c d (message_with u c m)
filled u x = x

-- the same at its place, with the identifier of that
unfoldable pub filled_at : Placed → Placed
filled_at x = (x.0, filled (id_at x.0) x.1)

-- what a message carries is put in anew
carried_again : (u v : ℕ) (i j : Info) (m : Message) → carrying u i (carrying v j m) ≡ carrying u i m
carried_again u v i j (BeginBegun w) = refl
carried_again u v i j (VoterVoter w) = refl
carried_again u v i j (EnlistEnlist k) = refl
carried_again u v i j (ReenlistReenlist k) = refl
carried_again u v i j m = refl

filled_told : (u v : ℕ) (j : Info) (x : Entry) → filled u (told v j x) ≡ filled u x
unfolding filled message_with
filled_told u v j (Sent c d m) = ap (Sent c d) (carried_again u v (info_on u c) j m)
filled_told u v j (Got c d m) = ap (Got c d) (carried_again u v (info_on u c) j m)
filled_told u v j x = refl

-- so it doesn't matter what stands there
pub filled_anew : (v : ℕ) (j : Info) (x : Placed) → filled_at (told_at v j x) ≡ filled_at x
unfolding filled_at
filled_anew v j x = let e = filled_told (id_at x.0) v j x.1 in λ k. (x.0, e k)

-- the recovery information that is fit is this one
fit_parts : (u : ℕ) (e : EnlNo) (i : Info) → ((i.id == u) && (i.rm.value == 1) && (i.enl.value == e.value)) ≡ true → info_on u (Enl e) ≡ i
unfolding info_on enlistment_on first_manager
fit_parts u e i h =
    let first = and_left ((i.id == u) && (i.rm.value == 1)) (i.enl.value == e.value) h in
    let id : u ≡ i.id = sym (eqb-true i.id u (and_left (i.id == u) (i.rm.value == 1) first)) in
    let rm : first_manager ≡ i.rm = same_manager first_manager i.rm (sym (eqb-true i.rm.value 1 (and_right (i.id == u) (i.rm.value == 1) first))) in
    let enl : e ≡ i.enl = same_enlistment e i.enl (sym (eqb-true i.enl.value e.value (and_right ((i.id == u) && (i.rm.value == 1)) (i.enl.value == e.value) h))) in
    λ k. record { id = id k; rm = rm k; enl = enl k }

fit_info : (p : Place) (c : Conn) (i : Info) → is_info_at p c i ≡ true → info_on (id_at p) c ≡ i
unfolding info_on enlistment_on
fit_info p (Enl e) i h = fit_parts (id_at p) e i h
fit_info p (Again e) i h = fit_parts (id_at p) e i h
fit_info p c i h = absurd cc

fit_message : (p : Place) (c : Conn) (m : Message) → is_message_fit p c m ≡ true → message_with (id_at p) c m ≡ m
unfolding message_with
fit_message p c (BeginBegun u) h = ap BeginBegun (sym (eqb-true u (id_at p) h))
fit_message p c (VoterVoter u) h = ap VoterVoter (sym (eqb-true u (id_at p) h))
fit_message p c (EnlistEnlist i) h = ap EnlistEnlist (fit_info p c i h)
fit_message p c (ReenlistReenlist i) h = ap ReenlistReenlist (fit_info p c i h)
fit_message p c m h = refl

fit_entry : (p : Place) (x : Entry) → is_entry_fit p x ≡ true → filled (id_at p) x ≡ x
unfolding filled
fit_entry p (Sent c d m) h = ap (Sent c d) (fit_message p c m (and_right (has_line c d m) (is_message_fit p c m) h))
fit_entry p (Got c d m) h = ap (Got c d) (fit_message p c m (and_right (has_line c d m) (is_message_fit p c m) h))
fit_entry p x h = refl

-- an entry that is fit is filled as it stands
pub fit_filled : (x : Placed) → is_fit x ≡ true → filled_at x ≡ x
unfolding filled_at
fit_filled x h = let e = fit_entry x.0 x.1 h in λ k. (x.0, e k)

fit_cause : (p : Place) (c : Conn) (m : Message) → is_message_fit p c m ≡ true → is_cause_typed m ≡ true
fit_cause p c (VoterRefused n) h = h
fit_cause p c (EnlistRefused n) h = h
fit_cause p c m h = refl

-- its numbers are those of their types
fit_typed : (p : Place) (x : Entry) → is_entry_fit p x ≡ true → is_typed x ≡ true
fit_typed p (Sent c d m) h = fit_cause p c m (and_right (has_line c d m) (is_message_fit p c m) h)
fit_typed p (Got c d m) h = fit_cause p c m (and_right (has_line c d m) (is_message_fit p c m) h)
fit_typed p x h = h

-- and its connection carries its message
fit_carried : (p : Place) (x : Entry) → is_entry_fit p x ≡ true → is_carried x ≡ true
fit_carried p (Sent c d m) h = and_left (has_line c d m) (is_message_fit p c m) h
fit_carried p (Got c d m) h = and_left (has_line c d m) (is_message_fit p c m) h
fit_carried p x h = refl

-- the same of a trace
pub all_typed : (T : List Placed) → each is_fit T ≡ true → each is_typed_at T ≡ true
all_typed [] h = refl
all_typed (x ∷ T) h = and_both (is_typed_at x) (each is_typed_at T) (fit_typed x.0 x.1 (and_left (is_fit x) (each is_fit T) h)) (all_typed T (and_right (is_fit x) (each is_fit T) h))

pub all_carried : (T : List Placed) → each is_fit T ≡ true → each is_carried_at T ≡ true
all_carried [] h = refl
all_carried (x ∷ T) h = and_both (is_carried_at x) (each is_carried_at T) (fit_carried x.0 x.1 (and_left (is_fit x) (each is_fit T) h)) (all_carried T (and_right (is_fit x) (each is_fit T) h))

pub all_filled : (T : List Placed) → each is_fit T ≡ true → map filled_at T ≡ T
all_filled [] h = refl
all_filled (x ∷ T) h =
    let first = fit_filled x (and_left (is_fit x) (each is_fit T) h) in
    let rest = all_filled T (and_right (is_fit x) (each is_fit T) h) in
    λ j. first j ∷ rest j

pub all_anew : (v : ℕ) (i : Info) (T : List Placed) → map filled_at (map (told_at v i) T) ≡ map filled_at T
all_anew v i [] = refl
all_anew v i (x ∷ T) =
    let first = filled_anew v i x in
    let rest = all_anew v i T in
    λ j. first j ∷ rest j
