-- Which entries no block but a call's has.
use Rattle.std.proofs.Common.{◌≡◌, Bool, true, false, ◌&&◌, List, [], Option, Some, None, refl}
use Rattle.std.specs.Prelude.{is_some, find, not, if◌then◌else◌}
use Rattle.dtx_values.specs.declared.number.EnlNo.{EnlNo}
use Rattle.dtx_values.specs.declared.call.Call.{Call}
use Rattle.dtx_values.specs.declared.call.Call.TheVariants.{Begin, Volatile, Durable, Promotable, Clone, Complete, Commit, Rollback, Tick, Gone}
use Rattle.dtx_values.specs.declared.entry.Entry.{Entry}
use Rattle.dtx_values.specs.declared.entry.Entry.TheVariants.{Called, Cloned, Enlisted, Asked, Voted, Sealed, Handed, OwnerAnswered, Decided, Told}
use Rattle.dtx_values.specs.declared.note.Reply.TheVariants.{Vote as VoteReply}
use Rattle.dtx_values.specs.declared.words.Outcome.{Outcome}
use Rattle.dtx_values.specs.Clones.{is_open_rollback}
use Rattle.dtx_model.specs.declared.listener.Listener.{Listener}
use Rattle.dtx_model.specs.Words.{has, each}
use Rattle.dtx_model.specs.Observed.{Observed}
use Rattle.dtx_values.specs.Vote.{is_no}
use Rattle.dtx_values.specs.Owners.{owner_of}
use Rattle.dtx_values.specs.Table.{voted}
use Rattle.dtx_model.specs.Half.{is_handed}
use Rattle.dtx_model.specs.Facts.{facts_if, lost_outcome, reaches, ticked}
use Rattle.dtx_model.specs.Steps.{Step, Calls, Replies, Acts}
use Rattle.dtx_model.proofs.Narrow.{facts, veto_if, time_up, is_late, decided_if, block}
use Rattle.dtx_values.specs.Waves.{all_voted, is_over, next_ask}
use Rattle.dtx_model.specs.Acts.{tell}
use Rattle.dtx_model.proofs.Narrow.{is_to_tell, before_seal, commit_act, after_seal, undecided_act, act_by, act_entries}
use Rattle.history_table.proofs.Scans.{each_more}

-- no call
abbrev pub is_no_call : Step → Bool
is_no_call (Calls n a c m) = false
is_no_call _ = true

-- an entry that isn't a call
abbrev pub is_not_called : Entry → Bool
is_not_called (Called n a x) = false
is_not_called _ = true

-- an entry that is no call and brings no name
abbrev pub is_plain : Entry → Bool
is_plain (Called n a x) = false
is_plain (Enlisted e c) = false
is_plain (Cloned c k) = false
is_plain _ = true

-- what is plain is no call
pub plain_not_called : (es : List Entry) → each is_plain es ≡ true → each is_not_called es ≡ true
plain_not_called es h = each_more is_plain is_not_called one es h
  where
    one : (x : Entry) → is_plain x ≡ true → is_not_called x ≡ true
    one (Called n a y) h = absurd cc
    one _ h = refl

-- the entries of a reply and of the local act
abbrev pub is_deed : Entry → Bool
is_deed (Asked e a) = true
is_deed (Voted e v) = true
is_deed Sealed = true
is_deed (Handed e) = true
is_deed (OwnerAnswered e x) = true
is_deed (Decided x) = true
is_deed (Told p x) = true
is_deed _ = false

-- a deed is plain
deeds_plain : (es : List Entry) → each is_deed es ≡ true → each is_plain es ≡ true
deeds_plain es h = each_more is_deed is_plain one es h
  where
    one : (x : Entry) → is_deed x ≡ true → is_plain x ≡ true
    one (Called n a y) h = absurd cc
    one (Enlisted e c) h = absurd cc
    one (Cloned c k) h = absurd cc
    one _ h = refl

-- a veto, where it stands, is a deed
pub veto_deed : (b : Bool) → each is_deed (veto_if b) ≡ true
veto_deed true = refl
veto_deed false = refl

-- a veto, where it stands, is plain
pub veto_plain : (b : Bool) → each is_plain (veto_if b) ≡ true
veto_plain b = deeds_plain (veto_if b) (veto_deed b)

-- a decision, where it stands, is a deed
pub decided_deed : (b : Bool) (x : Outcome) → each is_deed (decided_if b x) ≡ true
decided_deed true x = refl
decided_deed false x = refl

-- a decision, where it stands, is plain
pub decided_plain : (b : Bool) (x : Outcome) → each is_plain (decided_if b x) ≡ true
decided_plain b x = deeds_plain (decided_if b x) (decided_deed b x)

-- the end of the time is plain
pub time_plain : (reached late : Bool) → each is_plain (if reached then time_up late else []) ≡ true
time_plain true true = refl
time_plain true false = refl
time_plain false late = refl

-- the facts of a call are no calls
pub facts_not_called : (o : Observed) (c : Call) (b : Bool) → each is_not_called (facts_if b (facts o c)) ≡ true
facts_not_called o c false = refl
facts_not_called o (Begin t d) true = refl
facts_not_called o (Volatile t e x v) true = refl
facts_not_called o (Durable t e r x) true = refl
facts_not_called o (Promotable t e r v x p) true = refl
facts_not_called o (Clone t c k) true = refl
facts_not_called o (Complete c) true = refl
facts_not_called o (Commit t) true = plain_not_called (veto_if (has is_open_rollback o.clones)) (veto_plain (has is_open_rollback o.clones))
facts_not_called o (Rollback t) true = refl
facts_not_called o (Tick t n) true =
    let reached = reaches o.limit o.clock (ticked o.clock n) in
    plain_not_called (if reached then time_up (is_late o) else []) (time_plain reached (is_late o))
facts_not_called o (Gone e) true =
    let lost = not (is_some o.decided) && not (voted e.value o.table) in
    let x = lost_outcome (is_handed o.handed e.value) in
    plain_not_called (decided_if lost x) (decided_plain lost x)
facts_not_called o _ true = refl

-- what is told is a deed
tell_deed : (x : Outcome) (l : Option Listener) (told : Option Outcome) → each is_deed (tell x l told) ≡ true
tell_deed x (Some l) told = refl
tell_deed x None (Some y) = refl
tell_deed x None None = refl

-- what comes in phase zero is a deed
zero_deed : (e : Option EnlNo) (over : Bool) → each is_deed (before_seal e over) ≡ true
zero_deed (Some e) over = refl
zero_deed None true = refl
zero_deed None false = refl

-- the handing of the commit, or its decision, is a deed
commit_deed : (handed : Bool) (owner : Option EnlNo) → each is_deed (commit_act handed owner) ≡ true
commit_deed true owner = refl
commit_deed false (Some e) = refl
commit_deed false None = refl

-- what comes after the seal is a deed
seal_deed : (e : Option EnlNo) (voted : Bool) (xs : List Entry) → each is_deed xs ≡ true → each is_deed (after_seal e voted xs) ≡ true
seal_deed (Some e) voted xs h = refl
seal_deed None true xs h = h
seal_deed None false xs h = refl

-- what the local act does while nothing is decided is a deed
undecided_deed : (commit sealed : Bool) (xs ys : List Entry) → each is_deed xs ≡ true → each is_deed ys ≡ true → each is_deed (undecided_act commit sealed xs ys) ≡ true
undecided_deed false sealed xs ys h k = refl
undecided_deed true false xs ys h k = h
undecided_deed true true xs ys h k = k

-- what the local act does is a deed
act_deed : (d : Option Outcome) (o : Observed) → each is_deed (act_by d o) ≡ true
act_deed (Some x) o = tell_deed x (find (is_to_tell o x) o.listeners) o.told_client
act_deed None o =
    let commit = commit_act (is_some o.handed) (owner_of o.table) in
    undecided_deed o.commit o.sealed (before_seal (next_ask o.table true) (is_over o.table o.clones 0)) (after_seal (next_ask o.table false) (all_voted o.table) commit)
    (zero_deed (next_ask o.table true) (is_over o.table o.clones 0)) (seal_deed (next_ask o.table false) (all_voted o.table) commit (commit_deed (is_some o.handed) (owner_of o.table)))

-- the block of a reply or of the local act has deeds alone
pub block_deed : (o : Observed) (m : Step) → is_no_call m ≡ true → each is_deed (block o m) ≡ true
unfolding block act_entries
block_deed o (Calls n a c m) h = absurd cc
block_deed o (Replies e (VoteReply v)) h = veto_deed (is_no v)
block_deed o (Replies e _) h = refl
block_deed o Acts h = act_deed o.decided o
block_deed o _ h = refl

-- the block of a reply or of the local act is plain
pub block_plain : (o : Observed) (m : Step) → is_no_call m ≡ true → each is_plain (block o m) ≡ true
block_plain o m h = deeds_plain (block o m) (block_deed o m h)
