-- What a step of the local side leaves, once its block was written: the world is the one after the step, which holds; and the step was done.
use Rattle.std.proofs.Common.{◌≡◌, ℕ, Bool, true, false, ◌&&◌, not, List, [], Option, Some, None, is_some, refl, ap, sym, subst, ◌∙◌, if◌then◌else◌}
use Rattle.dtx_values.specs.Outgoing.{Outgoing, blank, written as put_out}
use Rattle.dtx_values.specs.TxIds.{number_of}
use Rattle.dtx_values.specs.declared.tx_id.TxId.{TxId}
use Rattle.dtx_values.specs.declared.entry.Entry.{Entry}
use Rattle.dtx_values.specs.declared.entry.Entry.TheVariants.{Cut, Down as Ended, Got, Restarted, Sent, Stopped}
use Rattle.dtx_values.specs.declared.note.Note.{Note}
use Rattle.dtx_values.specs.declared.note.Reply.{Reply}
use Rattle.dtx_values.specs.declared.number.EnlNo.{EnlNo}
use Rattle.dtx_model.specs.Words.{each, has, onto, past_of}
use Rattle.dtx_model.specs.Log.{CommitRecord}
use Rattle.dtx_model.specs.declared.waiting.EnteredCall.{EnteredCall}
use Rattle.dtx_model.specs.Coordinated.{Coordinated}
use Rattle.dtx_model.specs.Wires.{is_stopped}
use Rattle.dtx_model.specs.Half.{Half}
use Rattle.dtx_model.specs.Outcome.{is_empty}
use Rattle.dtx_model.specs.Acts.{act_entries}
use Rattle.dtx_model.specs.Replies.{due_of, fits, reply_entries}
use Rattle.dtx_model.specs.World.{World, half}
use Rattle.dtx_model.specs.Steps.{Step, Replies, Acts, after, block_at, entered}
use Rattle.dtx_model.specs.Caused.{AreMadeOnce, IsIn, MayCome, is_begin_sent}
use Rattle.dtx_model.proofs.Bools.{not_true}
use Rattle.history_table.proofs.CoreStages.{stopped_same}
use Rattle.history_table.proofs.Scans.{each_more}
use Rattle.local_half.specs.Half.{Known, after as known_after, fits_due}
use Rattle.coordinator_core.specs.Kept.{Kept as CoreKept}
use Rattle.tx_world.specs.State.{TxState, sends_begin, turned}
use Rattle.tx_world.specs.Stepping.{DoesAt}
use Rattle.tx_world.proofs.StillTied.{apart_kept, is_apart}
use Rattle.world_laws.specs.Carried.{are_sendable}
use Rattle.world_laws.specs.Course.{is_far, is_near, is_written}
use Rattle.tx_world.specs.Kept.{Kept, stop_if, stopped_if}
use Rattle.tx_world.proofs.Begun.{MayWrite, may_write}
use Rattle.world_laws.proofs.Near.{near_act, near_reply}
use Rattle.tx_world.proofs.Onward.{act_block, act_kept, core_is, half_is, reply_block, reply_kept, turned_kept, turned_past}

-- the world of these calls, in order of their entering, and this history
abbrev pub world_of : List EnteredCall → List Entry → World
world_of calls past = record { calls = past_of calls; past = past }

-- what was put out into a blank outbox
pub block_of : (o n : Outgoing) (xs es : List Entry) → xs ≡ n.entries → n ≡ put_out o es → o ≡ blank → xs ≡ es
block_of o n xs es x e b = x ∙ ap (λ (y : Outgoing). y.entries) e ∙ ap (λ (y : Outgoing). (put_out y es).entries) b

-- what the local side and the coordinator write is written
near_one : (x : Entry) → is_near x ≡ true → is_written x ≡ true
near_one (Got c d m) n = absurd (cc)
near_one (Ended c d) n = absurd (cc)
near_one (Cut c a b) n = absurd (cc)
near_one Stopped n = absurd (cc)
near_one (Restarted found) n = absurd (cc)
near_one _ n = refl

far_one : (x : Entry) → is_far x ≡ true → is_written x ≡ true
far_one (Sent c d m) n = refl
far_one _ n = absurd (cc)

pub near_written : (xs es : List Entry) → xs ≡ es → each is_near es ≡ true → each is_written xs ≡ true
near_written xs es e n = ap (each is_written) e ∙ each_more is_near is_written near_one es n

pub far_written : (xs es : List Entry) → xs ≡ es → each is_far es ≡ true → each is_written xs ≡ true
far_written xs es e n = ap (each is_written) e ∙ each_more is_far is_written far_one es n

-- what is to be written may be sent
pub block_sendable : (t : ℕ) (w : World) (m : Step) (h xs : List Entry) → MayWrite t w m → h ≡ w.past → xs ≡ block_at t w m → are_sendable (onto h xs) ≡ true
block_sendable t w m h xs may past block = ap (λ (g : List Entry). are_sendable (onto g xs)) past ∙ ap (λ ys. are_sendable (onto w.past ys)) block ∙ may.sendable

-- whether the coordinator is stopped
pub stopped_is : {t : TxId} {w : World} {g : Known} {k : CoreKept} {h : List Entry} → Kept t w g k → h ≡ w.past → k.state.stopped ≡ is_stopped h
stopped_is {t} {w} {g} {k} kept past = ap (λ (x : Coordinated). x.stopped) (core_is t w g k kept) ∙ stopped_same w.past ∙ ap is_stopped (sym past)

pub begin_runs : (t : TxId) (w : World) (m : Step) (g : Known) (k : CoreKept) (xs : List Entry) → Kept t w g k → MayWrite (number_of t) w m → xs ≡ block_at (number_of t) w m → has is_begin_sent xs ≡ true → k.state.stopped ≡ false
begin_runs t w m g k xs kept may block b = ap (λ (x : Coordinated). x.stopped) (core_is t w g k kept) ∙ may.runs (ap (has is_begin_sent) (sym block) ∙ b)

-- the world that was written is the one after the step
pub world_written : (t : ℕ) (w : World) (m : Step) (up begins : Bool) (calls : List EnteredCall) (past n : List Entry) → calls ≡ entered m w.calls → begins ≡ sends_begin t w m
    → past ≡ onto w.past (block_at t w m) → n ≡ stop_if (begins && not up) past → record { calls = calls; past = n } ≡ turned up t w m
world_written t w m up begins calls past n same sends block wrote =
    (λ i. record { calls = same i; past = wrote i }) ∙ (λ i. record { calls = entered m w.calls; past = stop_if (sends i && not up) (block i) }) ∙ turned_past t w m up

-- it holds
pub written_kept : (t : TxId) (w : World) (m : Step) (up begins : Bool) (g : Known) (k j : CoreKept) (calls : List EnteredCall) (past n : List Entry) → Kept t (after (number_of t) w m) g k
    → (begins ≡ true → k.state.stopped ≡ false) → calls ≡ entered m w.calls → begins ≡ sends_begin (number_of t) w m → past ≡ onto w.past (block_at (number_of t) w m)
    → n ≡ stop_if (begins && not up) past → j ≡ stopped_if (begins && not up) k → Kept t (record { calls = calls; past = n }) g j
written_kept t w m up begins g k j calls past n kept runs same sends block wrote far =
    subst (λ (x : World). Kept t x g j) (sym (world_written (number_of t) w m up begins calls past n same sends block wrote))
    (turned_kept t w m up g k j kept (λ b. runs (sends ∙ b)) (far ∙ ap (λ b. stopped_if (b && not up) k) sends))

-- the step was done
pub does_step : (m : Step) (t : TxId) (w v : World) (ours : Option CommitRecord) (unsure : Bool) (life now : ℕ) (up : Bool) (log_life : ℕ) (begins : Bool)
    → is_apart m ≡ true → v ≡ turned up (number_of t) w m → begins ≡ sends_begin (number_of t) w m → now ≡ (if begins then log_life else life)
    → DoesAt up log_life m (record { transaction = t; world = w; ours = ours; unsure = unsure; life = life }) (record { transaction = t; world = v; ours = ours; unsure = unsure; life = now })
does_step m t w v ours unsure life now up log_life begins apart same sends lives =
    let old : TxState = record { transaction = t; world = w; ours = ours; unsure = unsure; life = life } in
    let new : TxState = record { transaction = t; world = v; ours = ours; unsure = unsure; life = now } in
    record { transaction = refl; world = same; life = lives ∙ ap (λ b. if b then log_life else life) sends; kept = apart_kept m old new apart (refl, refl) }

-- A step of the local side is ready to be written after h, which is its past with what came: its half took it, and with these entries its block is whole.
pub record Ready (t : TxId) (w : World) (m : Step) (g : Known) (k : CoreKept) (h xs : List Entry) : Type 0 where
  pub came : MayCome (IsIn (entered m w.calls)) (number_of t) w m
  pub kept : Kept t (after (number_of t) w m) g k
  pub past : onto h xs ≡ onto w.past (block_at (number_of t) w m)
  pub written : each is_written xs ≡ true
  pub sendable : are_sendable (onto h xs) ≡ true
  pub stopped : k.state.stopped ≡ is_stopped h
  pub sends : has is_begin_sent xs ≡ sends_begin (number_of t) w m
  pub runs : has is_begin_sent xs ≡ true → k.state.stopped ≡ false

-- a step to which nothing came
pub ready : (t : TxId) (w : World) (m : Step) (h g : Known) (k : CoreKept) (p xs : List Entry) → Kept t w h k → p ≡ w.past → MayCome (IsIn (entered m w.calls)) (number_of t) w m → AreMadeOnce (IsIn (entered m w.calls))
    → Kept t (after (number_of t) w m) g k → xs ≡ block_at (number_of t) w m → each is_near (block_at (number_of t) w m) ≡ true → Ready t w m g k p xs
ready t w m h g k p xs before same come once kept block near =
    let may = may_write t w m before.ran come once in
    let past = ap (λ (q : List Entry). onto q xs) same ∙ ap (onto w.past) block in
    record {
      came = come;
      kept = kept;
      past = past;
      written = near_written xs (block_at (number_of t) w m) block near;
      sendable = ap are_sendable past ∙ may.sendable;
      stopped = stopped_is before same;
      sends = ap (has is_begin_sent) block;
      runs = begin_runs t w m h k xs before may block;
    }

-- a step that sends no BEGIN was written: the world is the one after it, which holds
pub silent_kept : (t : TxId) (w : World) (m : Step) {g : Known} {k : CoreKept} {ks : List EnteredCall} {n : List Entry} → Kept t (after (number_of t) w m) g k → false ≡ sends_begin (number_of t) w m → ks ≡ entered m w.calls
    → n ≡ onto w.past (block_at (number_of t) w m) → Kept t (record { calls = ks; past = n }) g k
silent_kept t w m {g} {k} {ks} {n} kept silent calls past =
    written_kept t w m true false g k k ks (onto w.past (block_at (number_of t) w m)) n kept (λ b. absurd cc) calls silent refl past refl

-- the note to which a reply is due
due_note : (o : Option Note) (r : Reply) → is_some o ≡ true → fits_due r o ≡ true → (n : Note) × (o ≡ Some n) × (fits r n ≡ true)
due_note (Some n) r s f = (n, refl, f)
due_note None r s f = absurd (cc)

pub reply_ready : (t : TxId) (w : World) (h g : Known) (k : CoreKept) (e : EnlNo) (r : Reply) (o n : Outgoing) (p xs : List Entry) → Kept t w h k → p ≡ w.past → is_some (due_of h.half.seen e.value) ≡ true
    → fits_due r (due_of h.half.seen e.value) ≡ true → g ≡ known_after [] h (reply_entries h.half e r) → xs ≡ n.entries → n ≡ put_out o (reply_entries h.half e r) → o ≡ blank → Ready t w (Replies e r) g k p xs
unfolding block_at
reply_ready t w h g k e r o n p xs kept same some fit local value wrote clear =
    let due = due_note (due_of h.half.seen e.value) r some fit in
    let block = block_of o n xs (reply_entries h.half e r) value wrote clear ∙ reply_block t w h k e r kept in
    ready t w (Replies e r) h g k p xs kept same (due.0, ap (λ (x : Half). due_of x.seen e.value) (sym (half_is t w h k kept)) ∙ due.1, due.2) kept.once (reply_kept t w h g k e r due.0 kept due.1 due.2 local) block
    (near_reply (half w) e r).proof

pub act_ready : (t : TxId) (w : World) (h g : Known) (k : CoreKept) (o n : Outgoing) (p xs : List Entry) → Kept t w h k → p ≡ w.past → not (is_empty (act_entries h.half)) ≡ true → g ≡ known_after [] h (act_entries h.half)
    → xs ≡ n.entries → n ≡ put_out o (act_entries h.half) → o ≡ blank → Ready t w Acts g k p xs
unfolding block_at
act_ready t w h g k o n p xs kept same some local value wrote clear =
    let block = block_of o n xs (act_entries h.half) value wrote clear ∙ act_block t w h k kept in
    let acts = not_true (is_empty (act_entries h.half)) some in
    ready t w Acts h g k p xs kept same (ap (λ (x : Half). is_empty (act_entries x)) (sym (half_is t w h k kept)) ∙ acts) kept.once (act_kept t w h g k kept acts local) block (near_act (half w)).proof
