-- The calls that the local side answers alone, and what such a call writes.
use Rattle.std.specs.Prelude.{ℕ, Bool, true, false, ◌&&◌, List, [], ◌∷◌, ◌++◌, length, nat_le, find, if◌then◌else◌}
use Rattle.dtx_values.specs.declared.call.Call.{Call}
use Rattle.dtx_values.specs.declared.call.Call.TheVariants.{Lose, Gone, Reenlist, Recovered}
use Rattle.dtx_values.specs.declared.entry.Answer.{Answer}
use Rattle.dtx_values.specs.declared.entry.Answer.TheVariants.{Fine}
use Rattle.dtx_values.specs.declared.entry.Entry.{Entry}
use Rattle.dtx_values.specs.declared.entry.Entry.TheVariants.{Called}
use Rattle.dtx_values.specs.declared.message.Conn.{Conn}
use Rattle.dtx_values.specs.declared.message.Conn.TheVariants.{Begin, Enl, Again}
use Rattle.dtx_values.specs.declared.number.ActorNo.{ActorNo}
use Rattle.dtx_values.specs.declared.number.EnlNo.{EnlNo}
use Rattle.dtx_model.specs.Answers.{gone_answer, if_begun, local_answer}
use Rattle.dtx_model.specs.Facts.{facts_if, has_facts, local_facts}
use Rattle.dtx_model.specs.Half.{Half, is_gone, stands}
use Rattle.dtx_model.specs.Observed.{is_branch}
use Rattle.dtx_model.specs.Outcome.{is_empty}
use Rattle.dtx_model.specs.Wires.{is_open_wire}
use Rattle.local_half.specs.Half.{is_its_own}
use Rattle.dtx_model.specs.World.{World, cut_upward, gone_unlinked, open_ones, reenlist_facts}

-- the local side answers the call alone, as long as it isn't the loss of an enlistment with an open connection
abbrev pub is_local : Call → Bool
is_local (Lose t c u w) = false
is_local (Reenlist e) = false
is_local (Recovered t r) = false
is_local _ = true

-- the call isn't the loss of an enlistment with an open connection
abbrev pub is_unlinked : World → Call → Bool
is_unlinked w (Gone e) = is_empty (open_ones w e)
is_unlinked w c = true

-- the local side answers the call alone: it is one of its own, or the loss of an enlistment with no open connection
abbrev pub is_near : World → Call → Bool
is_near w (Gone e) = is_empty (open_ones w e)
is_near w c = is_its_own c

-- what the local side answers to it alone, and what it writes
abbrev pub half_answer : ℕ → Half → Call → ℕ → Answer
half_answer t h (Gone e) m = if_begun h.seen.limit (gone_answer (stands h.seen e.value) (is_gone h.seen e.value))
half_answer t h c m = local_answer t h c m

abbrev pub half_facts : ℕ → Half → Call → Answer → List Entry
half_facts t h (Gone e) a = gone_unlinked h e
half_facts t h c a = local_facts t h c a

abbrev pub called_with : ℕ → Half → ℕ → ActorNo → Call → Answer → List Entry
called_with t h n a c x = Called n a x ∷ facts_if (has_facts x) (half_facts t h c x)

-- the block of such a call, for which so many steps were done: its entry, and its facts
abbrev pub local_call : ℕ → Half → ℕ → ActorNo → Call → ℕ → List Entry
local_call t h n a c m = called_with t h n a c (half_answer t h c m)

-- the block of a `reenlist` that is answered ok
abbrev pub return_block : ℕ → Half → ℕ → ActorNo → EnlNo → List Entry
return_block t h n a e = Called n a Fine ∷ reenlist_facts t (find (is_branch e.value) h.seen.branches)

-- what cuts a connection, where that is wanted and it is open: all its upward messages are kept, and none downward
abbrev pub cut_if : List Entry → Bool → Conn → List Entry
cut_if past wanted c = if wanted && is_open_wire c past then cut_upward past c ∷ [] else []

-- what cuts the open connections of an enlistment, in order, that of the promotion where it is wanted
abbrev pub links_cut : List Entry → Bool → EnlNo → List Entry
links_cut past begin e = cut_if past begin Begin ++ (cut_if past true (Enl e) ++ cut_if past true (Again e))

-- as many entries as a cut can count, or fewer: no more messages than entries are on the way
abbrev pub is_countable : List Entry → Bool
is_countable past = nat_le (length past) 4294967295
