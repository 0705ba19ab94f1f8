-- What a step writes to the history of a transaction: no restart, no recovery, and no reply but the one that the step is.
use Rattle.std.proofs.lemmas.Bool.{or_left}
use Rattle.std.proofs.Common.{◌≡◌, ◌==◌, ◌≤◌, ℕ, Bool, true, false, ◌&&◌, ◌||◌, not, List, [], ◌∷◌, ◌++◌, length, refl, ap, sym, ◌∙◌, arith}
use Rattle.std.proofs.lemmas.Bool.Decides.{nat_tests}
use Rattle.dtx_values.specs.declared.call.Call.{Call}
use Rattle.dtx_values.specs.declared.call.Call.TheVariants.{Recovered}
use Rattle.dtx_values.specs.declared.entry.Entry.{Entry}
use Rattle.dtx_values.specs.declared.entry.Entry.TheVariants.{Acked, Voted, PromoteReply, Requested, OwnerAnswered, Recovered as RecoveredEntry, Restarted, Stopped}
use Rattle.dtx_values.specs.declared.note.Reply.{Reply}
use Rattle.dtx_values.specs.declared.note.Reply.TheVariants.{Vote as VoteReply, Promote as Promotes, Owner as OwnerReply, Ack}
use Rattle.dtx_values.specs.declared.number.EnlNo.{EnlNo}
use Rattle.dtx_values.specs.declared.words.Outcome.{Outcome}
use Rattle.dtx_values.specs.declared.words.Outcome.TheVariants.{Committed, Aborted, InDoubt}
use Rattle.dtx_values.specs.declared.words.Vote.{Vote}
use Rattle.dtx_values.specs.declared.words.Vote.TheVariants.{Yes, No, Done as VoteDone}
use Rattle.dtx_model.specs.AtLog.{is_restart}
use Rattle.dtx_model.specs.Words.{each, has, onto, same}
use Rattle.dtx_model.specs.Entries.{same_outcome}
use Rattle.dtx_model.specs.Caused.{same_vote}
use Rattle.dtx_model.specs.World.{World}
use Rattle.dtx_model.specs.Steps.{Done, Full, StoppedNow, StoppedBefore, Step, Calls, Replies, Acts, Coordinates, Delivers, Stops, Restarts, block_at}
use Rattle.dtx_model.proofs.Bools.{and_both, and_left, and_right, not_true, or_false}
use Rattle.dtx_model.proofs.Reading.{has-onto}
use Rattle.dtx_model.proofs.Histories.{onto-append}
use Rattle.history_table.proofs.Scans.{each-append}
use Rattle.record_laws.specs.Recorded.{is_recovered}
use Rattle.script_calls.proofs.StepBlocks.{OfReply, OfStep, is_deed, of_block}
use Rattle.tx_world.specs.State.{sends_begin, turned}
use Rattle.world_parts.specs.Stopping.{stop_if}
use Rattle.tx_world.proofs.Onward.{turned_past}
use Rattle.tx_world.proofs.StillTied.{is_restarting}
use Rattle.transactions.specs.Counting.{is_plain}
use Rattle.transactions.specs.Hearing.{Given, is_one_of}
use Rattle.transactions.proofs.Beside.{OfCall, OfMore, is_beside, of_more}

-- the entry that follows a step at once where the log stands stopped
abbrev pub stop_after : Bool → List Entry
stop_after true = Stopped ∷ []
stop_after false = []

-- the entries of a step, with the stop that may follow
abbrev pub written : Bool → ℕ → World → Step → List Entry
written up t w m = block_at t w m ++ stop_after (sends_begin t w m && not up)

pub turned_onto : (up : Bool) (t : ℕ) (w : World) (m : Step) → (turned up t w m).past ≡ onto w.past (written up t w m)
turned_onto up t w m = sym (ap (λ (v : World). v.past) (turned_past t w m up)) ∙ by (sends_begin t w m && not up)
  where
    by : (b : Bool) → stop_if b (onto w.past (block_at t w m)) ≡ onto w.past (block_at t w m ++ stop_after b)
    by true = sym (onto-append w.past (block_at t w m) (Stopped ∷ []))
    by false = sym (onto-append w.past (block_at t w m) [])

-- what each entry of a step passes, and a stop too, each entry passes that was written
pub each_written : (p : Entry → Bool) → ((x : Entry) → is_deed x ≡ true → p x ≡ true) → p Stopped ≡ true → (up : Bool) (t : ℕ) (w : World) (m : Step) → OfStep p m → each p (written up t w m) ≡ true
each_written p deed stop up t w m o = each-append p (block_at t w m) (stop_after (sends_begin t w m && not up)) (of_block p deed t w m o).proof (by (sends_begin t w m && not up))
  where
    by : (b : Bool) → each p (stop_after b) ≡ true
    by true = and_both (p Stopped) true stop refl
    by false = refl

-- No restart is written but by one.
abbrev pub is_no_restart : Entry → Bool
is_no_restart x = not (is_restart x)

deed_goes_on : (x : Entry) → is_deed x ≡ true → is_no_restart x ≡ true
deed_goes_on (Restarted found) k = absurd cc
deed_goes_on _ k = refl

reply_goes_on : (e : EnlNo) (r : Reply) → OfReply is_no_restart e r
reply_goes_on e (VoteReply v) = refl
reply_goes_on e (Promotes ok) = refl
reply_goes_on e (OwnerReply x) = (refl, refl)
reply_goes_on e Ack = tt

step_goes_on : (m : Step) → is_restarting m ≡ false → OfStep is_no_restart m
step_goes_on (Calls n a c k) i = tt
step_goes_on (Replies e r) i = reply_goes_on e r
step_goes_on Acts i = tt
step_goes_on (Coordinates Done) i = (refl, refl)
step_goes_on (Coordinates Full) i = tt
step_goes_on (Coordinates StoppedNow) i = refl
step_goes_on (Coordinates StoppedBefore) i = refl
step_goes_on (Delivers c d) i = tt
step_goes_on Stops i = refl
step_goes_on (Restarts found) i = absurd cc

none_has : {A : Type 0} (p : A → Bool) (xs : List A) → each (λ x. not (p x)) xs ≡ true → has p xs ≡ false
none_has p [] k = refl
none_has p (x ∷ xs) k = or_false (p x) (has p xs) (not_true (p x) (and_left (not (p x)) (each (λ y. not (p y)) xs) k)) (none_has p xs (and_right (not (p x)) (each (λ y. not (p y)) xs) k))

pub still_unrestarted : (up : Bool) (t : ℕ) (w : World) (m : Step) → is_restarting m ≡ false → has is_restart w.past ≡ false → has is_restart (turned up t w m).past ≡ false
still_unrestarted up t w m i u =
    let es = written up t w m in
    ap (has is_restart) (turned_onto up t w m) ∙ (has-onto is_restart w.past es ∙
    or_false (has is_restart es) (has is_restart w.past) (none_has is_restart es (each_written is_no_restart deed_goes_on refl up t w m (step_goes_on m i))) u)

-- No recovery is written but by that call.
abbrev pub is_unrecovered : Entry → Bool
is_unrecovered x = not (is_recovered x)

beside_unrecovered : (x : Entry) → is_beside x ≡ true → is_unrecovered x ≡ true
beside_unrecovered (RecoveredEntry r) k = absurd cc
beside_unrecovered _ k = refl

-- a plain call is no recovery
pub plain_unrecovered : (c : Call) → is_plain c ≡ true → OfCall is_unrecovered c
plain_unrecovered (Recovered t r) k = absurd cc
plain_unrecovered _ k = tt

-- nor is a reply
pub reply_unrecovered : (e : EnlNo) (r : Reply) → OfMore is_unrecovered (Replies e r)
reply_unrecovered e (VoteReply v) = tt
reply_unrecovered e (Promotes ok) = tt
reply_unrecovered e (OwnerReply x) = tt
reply_unrecovered e Ack = refl

-- what each entry of a step passes, and a stop too, each entry passes that was written
each_more_written : (p : Entry → Bool) → ((x : Entry) → is_beside x ≡ true → p x ≡ true) → (up : Bool) (t : ℕ) (w : World) (m : Step) → OfMore p m → each p (written up t w m) ≡ true
each_more_written p beside up t w m o = each-append p (block_at t w m) (stop_after (sends_begin t w m && not up)) (of_more p beside t w m o).proof (by (sends_begin t w m && not up))
  where
    by : (b : Bool) → each p (stop_after b) ≡ true
    by true = and_both (p Stopped) true (beside Stopped refl) refl
    by false = refl

pub still_unrecovered : (up : Bool) (t : ℕ) (w : World) (m : Step) → OfMore is_unrecovered m → has is_recovered w.past ≡ false → has is_recovered (turned up t w m).past ≡ false
still_unrecovered up t w m o u =
    let es = written up t w m in
    ap (has is_recovered) (turned_onto up t w m) ∙ (has-onto is_recovered w.past es ∙
    or_false (has is_recovered es) (has is_recovered w.past) (none_has is_recovered es (each_more_written is_unrecovered beside_unrecovered up t w m o)) u)

-- the entry is an acknowledgement
abbrev is_ack_entry : Entry → Bool
is_ack_entry (Acked e) = true
is_ack_entry _ = false

-- the entry is an acknowledgement, or no reply, or one of these
abbrev is_said : List Given → Entry → Bool
is_said rs x = is_ack_entry x || is_one_of rs x

-- the entry is no acknowledgement, or one of these
abbrev is_acked_so : List Given → Entry → Bool
is_acked_so rs x = not (is_ack_entry x) || is_one_of rs x

-- A reply is written by the step that is that reply alone.
deed_said : (rs : List Given) (x : Entry) → is_deed x ≡ true → is_said rs x ≡ true
deed_said rs (Voted e v) k = absurd cc
deed_said rs (PromoteReply e ok) k = absurd cc
deed_said rs (OwnerAnswered e x) k = absurd cc
deed_said rs (Requested e r) k = absurd cc
deed_said rs _ k = refl

-- the replies that a step gives
abbrev pub given_by : Step → List Given
given_by (Replies e r) = (e, r) ∷ []
given_by m = []

same_to_itself : (e : EnlNo) → (e.value == e.value) ≡ true
same_to_itself e = grind (arith, nat_tests)

vote_itself : (v : Vote) → same_vote v v ≡ true
vote_itself Yes = refl
vote_itself No = refl
vote_itself VoteDone = refl

same_itself : (b : Bool) → same b b ≡ true
same_itself true = refl
same_itself false = refl

outcome_itself : (o : Outcome) → same_outcome o o ≡ true
outcome_itself Committed = refl
outcome_itself Aborted = refl
outcome_itself InDoubt = refl

reply_said : (e : EnlNo) (r : Reply) → OfReply (is_said ((e, r) ∷ [])) e r
reply_said e (VoteReply v) = or_left (e.value == e.value && same_vote v v) false (and_both (e.value == e.value) (same_vote v v) (same_to_itself e) (vote_itself v))
reply_said e (Promotes ok) = or_left (e.value == e.value && same ok ok) false (and_both (e.value == e.value) (same ok ok) (same_to_itself e) (same_itself ok))
reply_said e (OwnerReply Committed) = (or_left (e.value == e.value && true) false (and_both (e.value == e.value) true (same_to_itself e) refl), or_left (e.value == e.value && true) false (and_both (e.value == e.value) true (same_to_itself e) refl))
reply_said e (OwnerReply Aborted) = (or_left (e.value == e.value && true) false (and_both (e.value == e.value) true (same_to_itself e) refl), or_left (e.value == e.value && true) false (and_both (e.value == e.value) true (same_to_itself e) refl))
reply_said e (OwnerReply InDoubt) = (or_left (e.value == e.value && true) false (and_both (e.value == e.value) true (same_to_itself e) refl), or_left (e.value == e.value && true) false (and_both (e.value == e.value) true (same_to_itself e) refl))
reply_said e Ack = tt

step_said : (m : Step) → OfStep (is_said (given_by m)) m
step_said (Calls n a c k) = tt
step_said (Replies e r) = reply_said e r
step_said Acts = tt
step_said (Coordinates Done) = (refl, refl)
step_said (Coordinates Full) = tt
step_said (Coordinates StoppedNow) = refl
step_said (Coordinates StoppedBefore) = refl
step_said (Delivers c d) = tt
step_said Stops = refl
step_said (Restarts found) = (refl, refl)

-- and an acknowledgement too
beside_acked : (rs : List Given) (x : Entry) → is_beside x ≡ true → is_acked_so rs x ≡ true
beside_acked rs (Acked e) k = absurd cc
beside_acked rs _ k = refl

step_acked : (m : Step) → OfMore (is_acked_so (given_by m)) m
step_acked (Calls n a (Recovered t r) k) = refl
step_acked (Calls n a c k) = tt
step_acked (Replies e Ack) = or_left (e.value == e.value) false (same_to_itself e)
step_acked (Replies e r) = tt
step_acked Acts = tt
step_acked (Coordinates a) = tt
step_acked (Delivers c d) = tt
step_acked Stops = tt
step_acked (Restarts found) = tt

-- so each reply that is written is the one that the step is
each_one_of : (rs : List Given) (xs : List Entry) → each (is_said rs) xs ≡ true → each (is_acked_so rs) xs ≡ true → each (is_one_of rs) xs ≡ true
each_one_of rs [] k j = refl
each_one_of rs (x ∷ xs) k j =
    and_both (is_one_of rs x) (each (is_one_of rs) xs)
    (by (is_ack_entry x) (is_one_of rs x) (and_left (is_said rs x) (each (is_said rs) xs) k) (and_left (is_acked_so rs x) (each (is_acked_so rs) xs) j))
    (each_one_of rs xs (and_right (is_said rs x) (each (is_said rs) xs) k) (and_right (is_acked_so rs x) (each (is_acked_so rs) xs) j))
  where
    by : (a b : Bool) → (a || b) ≡ true → (not a || b) ≡ true → b ≡ true
    by true b k j = j
    by false b k j = k

pub each_said : (up : Bool) (t : ℕ) (w : World) (m : Step) → each (is_one_of (given_by m)) (written up t w m) ≡ true
each_said up t w m =
    each_one_of (given_by m) (written up t w m) (each_written (is_said (given_by m)) (deed_said (given_by m)) refl up t w m (step_said m))
    (each_more_written (is_acked_so (given_by m)) (beside_acked (given_by m)) up t w m (step_acked m))

-- a history that goes on is no shorter
pub length_onto : {A : Type 0} (h xs : List A) → length h ≤ length (onto h xs)
length_onto h [] = omega arith
length_onto h (x ∷ xs) = let more = length_onto (x ∷ h) xs in omega arith
