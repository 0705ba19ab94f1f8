-- Statements about the coordinator and the outcome that are to hold at each moment of a history, as tests. The traces are asked at each of their beginnings.
use Rattle.std.proofs.Common.{Bool, true, false, ◌&&◌, ◌||◌, not, List, [], ◌∷◌}
use Rattle.dtx_values.specs.declared.entry.Entry.{Entry}
use Rattle.dtx_values.specs.declared.entry.Entry.TheVariants.{Decided, Got, Sent}
use Rattle.dtx_values.specs.declared.message.Conn.TheVariants.{Again, Begin, Enl, Voter}
use Rattle.dtx_values.specs.declared.message.Dir.TheVariants.{Down, Up}
use Rattle.dtx_values.specs.declared.message.Message.TheVariants.{BeginAborted, EnlistAbort, EnlistOneAborted, ReenlistAborted, VoterAbort}
use Rattle.dtx_values.specs.declared.words.Outcome.TheVariants.{Aborted}
use Rattle.dtx_model.specs.Words.{each, has}
use Rattle.dtx_model.specs.Entries.{is_any_single_sent, is_hand}
use Rattle.dtx_model.specs.Outcome.{evidence}
use Rattle.dtx_model.specs.Learned.{coordinator_aborted}
use Rattle.dtx_model.specs.Coordinated.{Coordinated, coordinate, has_aborted, is_given, is_undecided, may_free, may_log}
use Rattle.dtx_model.specs.Tied.{can_free, can_log, tied}
use Rattle.dtx_model.specs.Traces.{Placed, history}
use Rattle.dtx_model.specs.AtLog.{transactions}

abbrev leads_to : Bool → Bool → Bool
leads_to a b = not a || b

abbrev is_one_aborted : Entry → Bool
is_one_aborted (Got (Enl e) Up EnlistOneAborted) = true
is_one_aborted _ = false

-- the commit was given away, and nobody heard that it was aborted
abbrev pub is_out : List Entry → Bool
is_out h = has is_any_single_sent h && not (has is_one_aborted h)

abbrev is_called_off : Entry → Bool
is_called_off (Decided Aborted) = true
is_called_off _ = false

-- what the coordinator knows, and what the entries say
abbrev known_right : Coordinated → List Entry → Bool
known_right k h =
    leads_to (has_aborted k.stage) (coordinator_aborted h) && leads_to (is_undecided k.stage) (not (coordinator_aborted h)) && leads_to (is_given k.stage) (not (coordinator_aborted h))
    && leads_to (may_log k) (can_log h) && leads_to (may_free k) (can_free h)

-- an abort is only sent where the commit isn't given away, and to who comes back only where it wasn't handed to him
abbrev sends_right : List Entry → Bool
sends_right (Sent Begin Down BeginAborted ∷ past) = not (is_out past)
sends_right (Sent Voter Down VoterAbort ∷ past) = not (is_out past)
sends_right (Sent (Enl e) Down EnlistAbort ∷ past) = not (is_out past)
sends_right (Sent (Again e) Down ReenlistAborted ∷ past) = not (has (is_hand e.value) past)
sends_right h = true

-- where the coordinator aborted, or the local side did, there is no evidence
abbrev off_right : List Entry → Bool
off_right h = leads_to (coordinator_aborted h && not (is_out h)) (not (evidence h)) && leads_to (has is_called_off h) (not (evidence h))

abbrev pub holds_now : List Entry → Bool
holds_now h = known_right (coordinate h) h && sends_right h && off_right h

abbrev pub holds_ever : List Entry → Bool
holds_ever [] = true
holds_ever (x ∷ past) = holds_now (x ∷ past) && holds_ever past

abbrev pub holds_in : List Placed → Bool
holds_in T = each (λ t. holds_ever (history t.value T) && tied (history t.value T)) (transactions T)

-- and the statement that is false now: where the coordinator aborted there is no evidence
abbrev pub is_off_always : List Entry → Bool
is_off_always [] = true
is_off_always (x ∷ past) = leads_to (coordinator_aborted (x ∷ past)) (not (evidence (x ∷ past))) && is_off_always past

abbrev pub is_off_in : List Placed → Bool
is_off_in T = each (λ t. is_off_always (history t.value T)) (transactions T)
