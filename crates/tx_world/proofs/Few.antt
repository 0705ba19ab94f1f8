-- A step of the local side writes few entries, where no promotion began and it begins none.
use Rattle.std.proofs.Common.{◌≡◌, ◌≤◌, ◌+◌, Bool, true, false, ◌&&◌, not, List, [], ◌∷◌, length, Option, Some, None, find, is_some, ap, sym, subst, ◌⊎◌, inl, inr, arith, lit≤, if◌then◌else◌}
use Rattle.dtx_values.specs.Clones.{is_open_rollback}
use Rattle.dtx_values.specs.TxIds.{number_of}
use Rattle.dtx_values.specs.declared.tx_id.TxId.{TxId}
use Rattle.dtx_values.specs.Owners.{owner_of}
use Rattle.dtx_values.specs.Table.{voted}
use Rattle.dtx_values.specs.Vote.{is_no}
use Rattle.dtx_values.specs.Waves.{all_voted, is_over, next_ask}
use Rattle.dtx_values.specs.declared.call.Call.{Call}
use Rattle.dtx_values.specs.declared.call.Call.TheVariants.{Commit, Gone, Tick}
use Rattle.dtx_values.specs.declared.entry.Entry.{Entry}
use Rattle.dtx_values.specs.declared.note.Reply.{Reply}
use Rattle.dtx_values.specs.declared.note.Reply.TheVariants.{Vote as VoteReply}
use Rattle.dtx_values.specs.declared.number.EnlNo.{EnlNo}
use Rattle.dtx_values.specs.declared.words.Outcome.{Outcome}
use Rattle.dtx_model.specs.declared.listener.Listener.{Listener}
use Rattle.dtx_model.specs.Words.{has, onto}
use Rattle.dtx_model.specs.Acts.{tell}
use Rattle.dtx_model.specs.Facts.{facts_if, is_done, lost_outcome, reaches, ticked}
use Rattle.dtx_model.specs.Half.{is_handed}
use Rattle.dtx_model.specs.Observed.{Observed, observe}
use Rattle.dtx_model.specs.World.{World}
use Rattle.dtx_model.specs.Steps.{Step, Acts, Calls, Replies, block_at, entered}
use Rattle.dtx_model.specs.Caused.{IsIn, is_unpromoted}
use Rattle.dtx_model.proofs.Bools.{not_both}
use Rattle.dtx_model.proofs.Local.{IsNarrow, free-local, step-narrow}
use Rattle.dtx_model.proofs.Narrow.{act_by, act_entries, after_seal, answer, before_seal, block, commit_act, decided_if, facts, is_late, is_to_tell, reply_entries, time_up, undecided_act, veto_if}
use Rattle.local_half.specs.Half.{Follows, Known}
use Rattle.coordinator_core.specs.Kept.{Kept as CoreKept}
use Rattle.tx_world.specs.Kept.{Kept}
use Rattle.tx_world.proofs.Sending.{unpromoted_there}
use Rattle.tx_world.proofs.Written.{Ready}
use Rattle.dtx_model.specs.Promotes.{is_promoting}

few_veto : (b : Bool) → length (veto_if b) ≤ 1
few_veto true = lit≤ tt
few_veto false = lit≤ tt

few_decided : (b : Bool) (x : Outcome) → length (decided_if b x) ≤ 1
few_decided true x = lit≤ tt
few_decided false x = lit≤ tt

few_time : (reached late : Bool) → length (if reached then time_up late else []) ≤ 2
few_time true true = lit≤ tt
few_time true false = lit≤ tt
few_time false late = lit≤ tt

few_facts : (o : Observed) (c : Call) → length (facts o c) ≤ 3
few_facts o (Commit u) = omega (arith, few_veto (has is_open_rollback o.clones))
few_facts o (Tick u n) = omega (arith, few_time (reaches o.limit o.clock (ticked o.clock n)) (is_late o))
few_facts o (Gone e) = omega (arith, few_decided (not (is_some o.decided) && not (voted e.value o.table)) (lost_outcome (is_handed o.handed e.value)))
few_facts o _ = lit≤ tt

few_if : (b : Bool) (es : List Entry) → length es ≤ 3 → length (facts_if b es) ≤ 3
few_if true es k = k
few_if false es k = lit≤ tt

few_reply : (e : EnlNo) (r : Reply) → length (reply_entries e r) ≤ 4
few_reply e (VoteReply v) = omega (arith, few_veto (is_no v))
few_reply e _ = lit≤ tt

few_tell : (x : Outcome) (l : Option Listener) (told : Option Outcome) → length (tell x l told) ≤ 4
few_tell x (Some l) told = lit≤ tt
few_tell x None (Some y) = lit≤ tt
few_tell x None None = lit≤ tt

few_before : (e : Option EnlNo) (over : Bool) → length (before_seal e over) ≤ 4
few_before (Some e) over = lit≤ tt
few_before None true = lit≤ tt
few_before None false = lit≤ tt

few_commit : (handed : Bool) (e : Option EnlNo) → length (commit_act handed e) ≤ 4
few_commit true e = lit≤ tt
few_commit false (Some e) = lit≤ tt
few_commit false None = lit≤ tt

few_after : (e : Option EnlNo) (all : Bool) (es : List Entry) → length es ≤ 4 → length (after_seal e all es) ≤ 4
few_after (Some e) all es k = lit≤ tt
few_after None true es k = k
few_after None false es k = lit≤ tt

few_undecided : (commit sealed : Bool) (b a : List Entry) → length b ≤ 4 → length a ≤ 4 → length (undecided_act commit sealed b a) ≤ 4
few_undecided false sealed b a p q = lit≤ tt
few_undecided true false b a p q = p
few_undecided true true b a p q = q

few_act : (d : Option Outcome) (o : Observed) → length (act_by d o) ≤ 4
few_act (Some x) o = few_tell x (find (is_to_tell o x) o.listeners) o.told_client
few_act None o =
    few_undecided o.commit o.sealed _ _ (few_before (next_ask o.table true) (is_over o.table o.clones 0))
    (few_after (next_ask o.table false) (all_voted o.table) _ (few_commit (is_some o.handed) (owner_of o.table)))

-- the block of a step that sees no promotion has at most four entries: a call, its clock, a timeout and what that decides
few_block : (o : Observed) (m : Step) → length (block o m) ≤ 4
unfolding block act_entries
few_block o (Calls n a c k) = omega (arith, few_if (is_done (answer o c k)) (facts o c) (few_facts o c))
few_block o (Replies e r) = few_reply e r
few_block o Acts = few_act o.decided o
few_block o _ = lit≤ tt

length-onto : (h xs : List Entry) → length (onto h xs) ≡ length xs + length h
length-onto h [] = omega arith
length-onto h (x ∷ xs) = omega (arith, length-onto (x ∷ h) xs)

-- so has what such a step writes
pub few_there : {t : TxId} {w : World} {m : Step} {h g : Known} {j k : CoreKept} {p xs : List Entry} (u : Bool) → Kept t w h j → Ready t w m g k p xs → p ≡ w.past → has is_promoting (block_at (number_of t) w m) ≡ false
    → ((v : World) → Follows (number_of h.transaction) v h.half → u ≡ is_unpromoted v.past) → not u ≡ false → length xs ≤ 4
few_there {t} {w} {m} {h} {g} {j} {k} {p} {xs} u kept r same calm says n =
    let local = free-local (IsIn w.calls) (number_of t) w.past (w.calls, kept.ran) (unpromoted_there u kept says n) in
    by (step-narrow (IsIn (entered m w.calls)) (number_of t) w m local r.came)
  where
    by : (has is_promoting (block_at (number_of t) w m) ≡ true) ⊎ IsNarrow (number_of t) w m → length xs ≤ 4
    by (inl b) = absurd (not_both (has is_promoting (block_at (number_of t) w m)) b calm)
    by (inr narrow) =
        let few : length (block_at (number_of t) w m) ≤ 4 = subst (λ (es : List Entry). length es ≤ 4) (sym narrow.0) (few_block (observe w.past) m) in
        omega (arith, few, length-onto p xs, ap length r.past, length-onto w.past (block_at (number_of t) w m), ap length same)
