-- The world of a script's history and the world of the calls that were entered, those of scope lines too, answer the same, the same is pending in them, and each step makes
-- the same block.
use Rattle.std.proofs.Common.{◌≡◌, ℕ, List, [], ◌∷◌, ◌++◌, refl, ap, ◌∙◌}
use Rattle.std.specs.List.{flat_map}
use Rattle.dtx_values.specs.declared.call.Call.{Call}
use Rattle.dtx_values.specs.declared.call.Call.TheVariants.{Lose, Gone, Reenlist, Recovered}
use Rattle.dtx_values.specs.declared.entry.Answer.{Answer}
use Rattle.dtx_values.specs.declared.entry.Entry.{Entry}
use Rattle.dtx_values.specs.declared.entry.Entry.TheVariants.{Called, Got, Down as Ended}
use Rattle.dtx_values.specs.declared.message.Conn.{Conn}
use Rattle.dtx_values.specs.declared.message.Dir.{Dir}
use Rattle.dtx_values.specs.declared.message.Dir.TheVariants.{Up, Down}
use Rattle.dtx_values.specs.declared.message.Message.{Message}
use Rattle.dtx_values.specs.declared.number.EnlNo.{EnlNo}
use Rattle.dtx_values.specs.declared.script.Line.{Line}
use Rattle.dtx_model.specs.declared.waiting.EnteredCall.{EnteredCall}
use Rattle.dtx_model.specs.Wires.{in_transit}
use Rattle.dtx_model.specs.Plans.{plan_of}
use Rattle.dtx_model.specs.Half.{Half, half_of}
use Rattle.dtx_model.specs.Answers.{local_answer}
use Rattle.dtx_model.specs.Arrivals.{local_down, local_got}
use Rattle.dtx_model.specs.Acts.{act_entries}
use Rattle.dtx_model.specs.Replies.{reply_entries}
use Rattle.dtx_model.specs.Facts.{facts_if, has_facts, local_facts}
use Rattle.dtx_model.specs.World.{World, answer_at, core, facts_at, gone_by, gone_unlinked, half, open_ones}
use Rattle.dtx_model.specs.Steps.{Step, Calls, Replies, Acts, Coordinates, Delivers, Stops, Restarts, block_at, called, core_act, delivered, deliveries_on, local_pending, pending}
use Rattle.dtx_model.specs.Caused.{entered_in, world_of}
use Rattle.script_histories.specs.LineCalls.{AreCalls}
use Rattle.script_histories.proofs.ScriptCalls.{half_same, plans_same}

-- Two worlds of one past and one half answer the same, and a step makes the same block there.
answers_alike : (t : ℕ) (ks js : List EnteredCall) (h : List Entry) (c : Call) (k : ℕ) → half_of ks h ≡ half_of js h
    → answer_at t (record { calls = ks; past = h }) c k ≡ answer_at t (record { calls = js; past = h }) c k
unfolding answer_at
answers_alike t ks js h (Lose u c n m) k e = refl
answers_alike t ks js h (Gone f) k e = refl
answers_alike t ks js h (Reenlist f) k e = refl
answers_alike t ks js h (Recovered u r) k e = refl
answers_alike t ks js h c k e = ap (λ (x : Half). local_answer t x c k) e

gone_alike : (ks js : List EnteredCall) (h : List Entry) (f : EnlNo) (cs : List Conn) → half_of ks h ≡ half_of js h → gone_by (record { calls = ks; past = h }) f cs ≡ gone_by (record { calls = js; past = h }) f cs
gone_alike ks js h f [] e = ap (λ (x : Half). gone_unlinked x f) e
gone_alike ks js h f (c ∷ cs) e = refl

facts_alike : (t : ℕ) (ks js : List EnteredCall) (h : List Entry) (c : Call) (a : Answer) → half_of ks h ≡ half_of js h
    → facts_at t (record { calls = ks; past = h }) c a ≡ facts_at t (record { calls = js; past = h }) c a
facts_alike t ks js h (Lose u c n m) a e = refl
facts_alike t ks js h (Gone f) a e = gone_alike ks js h f (open_ones (record { calls = ks; past = h }) f) e
facts_alike t ks js h (Reenlist f) a e = refl
facts_alike t ks js h (Recovered u r) a e = refl
facts_alike t ks js h c a e = ap (λ (x : Half). local_facts t x c a) e

delivered_alike : (t : ℕ) (ks js : List EnteredCall) (h : List Entry) (c : Conn) (d : Dir) (ms : List Message) → half_of ks h ≡ half_of js h
    → delivered t (record { calls = ks; past = h }) c d ms ≡ delivered t (record { calls = js; past = h }) c d ms
delivered_alike t ks js h c Up [] e = refl
delivered_alike t ks js h c Down [] e = ap (λ (x : Half). Ended c Down ∷ local_down x c) e
delivered_alike t ks js h c Up (m ∷ ms) e = refl
delivered_alike t ks js h c Down (m ∷ ms) e = ap (λ (x : Half). Got c Down m ∷ local_got t x c m) e

blocks_alike : (t : ℕ) (ks js : List EnteredCall) (h : List Entry) (m : Step) → half_of ks h ≡ half_of js h
    → block_at t (record { calls = ks; past = h }) m ≡ block_at t (record { calls = js; past = h }) m
unfolding block_at
blocks_alike t ks js h (Calls n a c k) e =
    let v : World = record { calls = ks; past = h } in
    let w : World = record { calls = js; past = h } in
    ap (called t v n a c) (answers_alike t ks js h c k e)
    ∙ ap (λ es. Called n a (answer_at t w c k) ∷ facts_if (has_facts (answer_at t w c k)) es) (facts_alike t ks js h c (answer_at t w c k) e)
blocks_alike t ks js h (Replies f r) e = ap (λ (x : Half). reply_entries x f r) e
blocks_alike t ks js h Acts e = ap act_entries e
blocks_alike t ks js h (Coordinates x) e = refl
blocks_alike t ks js h (Delivers c d) e = delivered_alike t ks js h c d (in_transit c d h) e
blocks_alike t ks js h Stops e = refl
blocks_alike t ks js h (Restarts found) e = refl

-- So by the calls of a history as by the script: a call is answered the same,
pub answer_same : (s : List Line) (t : ℕ) (ks : List EnteredCall) (h : List Entry) (c : Call) (k : ℕ) → AreCalls s t ks h → answer_at t (record { calls = ks; past = h }) c k ≡ answer_at t (world_of s h) c k
answer_same s t ks h c k r = answers_alike t ks (entered_in s h) h c k (half_same s t ks h r)

-- a step makes the same block,
pub block_same : (s : List Line) (t : ℕ) (ks : List EnteredCall) (h : List Entry) (m : Step) → AreCalls s t ks h → block_at t (record { calls = ks; past = h }) m ≡ block_at t (world_of s h) m
block_same s t ks h m r = blocks_alike t ks (entered_in s h) h m (half_same s t ks h r)

-- and the same is pending
pub pending_same : (s : List Line) (t : ℕ) (ks : List EnteredCall) (h : List Entry) → AreCalls s t ks h → pending (record { calls = ks; past = h }) ≡ pending (world_of s h)
unfolding pending
pending_same s t ks h r =
    let w = world_of s h in
    let ends = (half w).seen.ends in
    ap (λ (x : Half). local_pending (plan_of ks) x ++ core_act (core w) ++ flat_map (deliveries_on h) ends) (half_same s t ks h r)
    ∙ ap (λ p. local_pending p (half w) ++ core_act (core w) ++ flat_map (deliveries_on h) ends) (plans_same s t ks h r)
