-- The text of a trace is read: as the trace whose messages have what their places say.
use Rattle.std.proofs.Common.{◌≡◌, ℕ, suc, ◌==◌, ◌+◌, ◌∷◌, [], true, ◌&&◌, List, ◌++◌, codes, decimal, map, refl, ap, sym, ◌∙◌, arith}
use Rattle.std.proofs.lemmas.Bool.Decides.{nat_tests}
use Rattle.dtx_values.specs.declared.entry.Entry.{Entry}
use Rattle.dtx_values.specs.declared.entry.Entry.TheVariants.{Got, Sent}
use Rattle.dtx_values.specs.declared.message.Conn.{Conn}
use Rattle.dtx_values.specs.declared.message.Conn.TheVariants.{Again, Begin, Enl, Voter}
use Rattle.dtx_values.specs.declared.message.Dir.{Dir}
use Rattle.dtx_values.specs.declared.message.Dir.TheVariants.{Down, Up}
use Rattle.dtx_values.specs.declared.message.Info.{Info}
use Rattle.dtx_values.specs.declared.message.Message.{Message}
use Rattle.dtx_values.specs.declared.message.Message.TheVariants.{BeginBegun, EnlistEnlist, EnlistRefused, ReenlistReenlist, VoterRefused, VoterVoter}
use Rattle.dtx_values.specs.declared.number.EnlNo.{EnlNo}
use Rattle.dtx_values.specs.declared.trace.Place.{Place}
use Rattle.dtx_values.specs.Lines.{has_line}
use Rattle.dtx_model.specs.Grammar.{connection_word}
use Rattle.dtx_model.specs.Words.{each}
use Rattle.dtx_model.specs.Traces.{Placed}
use Rattle.dtx_model.specs.TraceText.{IsTextOf, direction_text, entry_text, id_at, is_entry_fit, is_fit, is_info_at, is_message_fit, lines_from, message_text, place_text, trace_text}
use Rattle.dtx_model.proofs.Bools.{and_both, and_left, and_right, three_hold}
use Rattle.trace_lines.specs.OneTrace.{carrying, is_carried, is_carried_at, is_cause_typed, is_typed, is_typed_at}
use Rattle.fine_texts.proofs.Filling.{enlistment_on, filled, filled_at, first_manager, info_on, message_with}
use Rattle.fine_texts.proofs.Looking.{lined}

-- a message's words leave out what it carries
message_same : (u : ℕ) (i : Info) (m : Message) → message_text (carrying u i m) ≡ message_text m
message_same u i (BeginBegun w) = refl
message_same u i (VoterVoter w) = refl
message_same u i (EnlistEnlist k) = refl
message_same u i (ReenlistReenlist k) = refl
message_same u i m = refl

entry_same : (u : ℕ) (x : Entry) → entry_text (filled u x) ≡ entry_text x
unfolding filled message_with
entry_same u (Sent c d m) = ap (λ (t : List ℕ). codes "sent " ++ (connection_word c ++ codes " " ++ direction_text d ++ codes " " ++ t)) (message_same u (info_on u c) m)
entry_same u (Got c d m) = ap (λ (t : List ℕ). codes "got " ++ (connection_word c ++ codes " " ++ direction_text d ++ codes " " ++ t)) (message_same u (info_on u c) m)
entry_same u x = refl

lines_same : (n : ℕ) (T : List Placed) → lines_from n (map filled_at T) ≡ lines_from n T
unfolding filled_at
lines_same n [] = refl
lines_same n (x ∷ T) =
    let words = entry_same (id_at x.0) x.1 in
    let rest = lines_same (suc n) T in
    λ j. (decimal n ++ codes " " ++ place_text x.0 ++ codes " " ++ words j ++ 10 ∷ []) ++ rest j

-- so the filled trace has the text
pub text_same : (T : List Placed) → trace_text (map filled_at T) ≡ trace_text T
unfolding trace_text
text_same T = lines_same 1 T

same_number : (n : ℕ) → (n == n) ≡ true
same_number n = grind (arith, nat_tests)

-- what is filled in is what its place says
info_there : (u : ℕ) (e : EnlNo) → (((info_on u (Enl e)).id == u) && ((info_on u (Enl e)).rm.value == 1) && ((info_on u (Enl e)).enl.value == e.value)) ≡ true
unfolding info_on enlistment_on first_manager
info_there u e = three_hold (u == u) (1 == 1) (e.value == e.value) (same_number u) refl (same_number e.value)

info_again : (u : ℕ) (e : EnlNo) → (((info_on u (Again e)).id == u) && ((info_on u (Again e)).rm.value == 1) && ((info_on u (Again e)).enl.value == e.value)) ≡ true
unfolding info_on enlistment_on first_manager
info_again u e = three_hold (u == u) (1 == 1) (e.value == e.value) (same_number u) refl (same_number e.value)

-- only connections of an enlistment carry recovery information
enlists_there : (p : Place) (c : Conn) (d : Dir) (i : Info) → has_line c d (EnlistEnlist i) ≡ true → is_info_at p c (info_on (id_at p) c) ≡ true
enlists_there p (Enl e) d i h = info_there (id_at p) e
enlists_there p (Again e) d i h = info_again (id_at p) e
enlists_there p Begin Up i h = absurd cc
enlists_there p Begin Down i h = absurd cc
enlists_there p Voter Up i h = absurd cc
enlists_there p Voter Down i h = absurd cc

comes_back_there : (p : Place) (c : Conn) (d : Dir) (i : Info) → has_line c d (ReenlistReenlist i) ≡ true → is_info_at p c (info_on (id_at p) c) ≡ true
comes_back_there p (Enl e) d i h = info_there (id_at p) e
comes_back_there p (Again e) d i h = info_again (id_at p) e
comes_back_there p Begin Up i h = absurd cc
comes_back_there p Begin Down i h = absurd cc
comes_back_there p Voter Up i h = absurd cc
comes_back_there p Voter Down i h = absurd cc

message_there : (p : Place) (c : Conn) (d : Dir) (m : Message) → has_line c d m ≡ true → is_cause_typed m ≡ true → is_message_fit p c (message_with (id_at p) c m) ≡ true
unfolding message_with
message_there p c d (BeginBegun u) h k = same_number (id_at p)
message_there p c d (VoterVoter u) h k = same_number (id_at p)
message_there p c d (VoterRefused n) h k = k
message_there p c d (EnlistRefused n) h k = k
message_there p c d (EnlistEnlist i) h k = enlists_there p c d i h
message_there p c d (ReenlistReenlist i) h k = comes_back_there p c d i h
message_there p c d m h k = refl

entry_there : (p : Place) (x : Entry) → is_typed x ≡ true → is_carried x ≡ true → is_entry_fit p (filled (id_at p) x) ≡ true
unfolding filled
entry_there p (Sent c d m) t k = and_both (has_line c d (message_with (id_at p) c m)) (is_message_fit p c (message_with (id_at p) c m)) (lined (id_at p) c d m ∙ k) (message_there p c d m k t)
entry_there p (Got c d m) t k = and_both (has_line c d (message_with (id_at p) c m)) (is_message_fit p c (message_with (id_at p) c m)) (lined (id_at p) c d m ∙ k) (message_there p c d m k t)
entry_there p x t k = t

-- and is fit
pub filled_fit : (T : List Placed) → each is_typed_at T ≡ true → each is_carried_at T ≡ true → each is_fit (map filled_at T) ≡ true
unfolding filled_at
filled_fit [] t k = refl
filled_fit (x ∷ T) t k =
    and_both (is_fit (filled_at x)) (each is_fit (map filled_at T)) (entry_there x.0 x.1 (and_left (is_typed_at x) (each is_typed_at T) t) (and_left (is_carried_at x) (each is_carried_at T) k))
    (filled_fit T (and_right (is_typed_at x) (each is_typed_at T) t) (and_right (is_carried_at x) (each is_carried_at T) k))

pub text_read : (T : List Placed) → each is_typed_at T ≡ true → each is_carried_at T ≡ true → (S : List Placed) × IsTextOf (trace_text T) S
text_read T t k = (map filled_at T, record { spelled = sym (text_same T); fit = filled_fit T t k })
