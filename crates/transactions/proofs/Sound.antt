-- A step keeps what holds of a transaction, and writes what the step writes.
use Rattle.std.specs.Prelude.{IsFalse}
use Rattle.std.proofs.Common.{inl, ◌≡◌, ◌≤◌, ◌+◌, ℕ, Bool, true, false, ◌&&◌, not, List, [], ◌∷◌, ◌++◌, Option, Some, None, Result, Ok, length, refl, ap, sym, subst, ◌∙◌, arith, nat_le}
use Rattle.dtx_values.specs.TxIds.{number_of}
use Rattle.std.proofs.lemmas.Bool.Decides.{nat_tests}
use Rattle.dtx_values.specs.declared.call.Call.{Call}
use Rattle.dtx_values.specs.declared.entry.Entry.{Entry}
use Rattle.dtx_values.specs.declared.note.Note.{Note}
use Rattle.dtx_values.specs.declared.note.Reply.{Reply}
use Rattle.dtx_values.specs.declared.number.ActorNo.{ActorNo}
use Rattle.dtx_values.specs.declared.number.EnlNo.{EnlNo}
use Rattle.dtx_model.specs.declared.waiting.EnteredCall.{EnteredCall}
use Rattle.dtx_model.specs.AtLog.{is_restart}
use Rattle.record_laws.specs.Recorded.{is_recovered}
use Rattle.dtx_model.specs.Caused.{IsNamed, made_by}
use Rattle.dtx_model.specs.Replies.{due_of, reply_entries, with_note}
use Rattle.dtx_model.specs.Words.{each, has, kth, onto}
use Rattle.dtx_model.specs.World.{World, half}
use Rattle.dtx_model.specs.Steps.{Step, StepName, Acts, Calls, Coordinates, Delivers, Done, Replies, Restarts, StoppedBefore, StoppedNow, Stops, CoordinatorAct, Delivery, LocalAct, ReplyOf, block_at, entered, pending}
use Rattle.dtx_model.proofs.Bools.{and_both}
use Rattle.dtx_model.proofs.Histories.{onto-append}
use Rattle.coordinator_log.specs.State.{LogState}
use Rattle.tx_world.specs.State.{TxState, sends_begin, turned}
use Rattle.tx_world.specs.Prepared.{NamesPrepared}
use Rattle.tx_world.specs.Stepping.{Does, DoesKth, IsAnswered, reply_in}
use Rattle.tx_world.proofs.Onward.{turned_past}
use Rattle.tx_world.proofs.StillTied.{is_restarting, named_elsewhere}
use Rattle.transactions.specs.Counting.{is_counted, is_given, is_plain}
use Rattle.transactions.specs.Hearing.{Given, Writes}
use Rattle.transactions.specs.Keeping.{IsSound}
use Rattle.transactions.specs.State.{LiveState, past}
use Rattle.transactions.proofs.Beside.{OfMore}
use Rattle.transactions.proofs.Counting.{counted_more}
use Rattle.transactions.proofs.Waiting.{ok_is}
use Rattle.transactions.proofs.Stepping.{each_said, given_by, is_unrecovered, length_onto, plain_unrecovered, reply_unrecovered, still_unrecovered, still_unrestarted, stop_after, turned_onto, written}

-- This step was done in a transaction, where this says whether the log is up.
pub record Stepped (up : Bool) (m : Step) (x y : LiveState) : Type 0 where
  pub transaction : y.tx.transaction ≡ x.tx.transaction
  pub world : y.tx.world ≡ turned up (number_of x.tx.transaction) x.tx.world m
  pub onward : is_restarting m ≡ false

-- what it wrote
pub grown : (up : Bool) (m : Step) (x y : LiveState) → Stepped up m x y → past y ≡ onto (past x) (written up (number_of x.tx.transaction) x.tx.world m)
grown up m x y s = ap (λ (w : World). w.past) s.world ∙ turned_onto up (number_of x.tx.transaction) x.tx.world m

-- the calls after it
pub calls_after : (up : Bool) (m : Step) (x y : LiveState) → Stepped up m x y → y.tx.world.calls ≡ entered m x.tx.world.calls
calls_after up m x y s = ap (λ (w : World). w.calls) s.world ∙ sym (ap (λ (w : World). w.calls) (turned_past (number_of x.tx.transaction) x.tx.world m up))

-- a call that is entered comes first
entered_first : (m : Step) (ks : List EnteredCall) → entered m ks ≡ entered m [] ++ ks
entered_first (Calls n a c k) ks = refl
entered_first (Replies e r) ks = refl
entered_first Acts ks = refl
entered_first (Coordinates a) ks = refl
entered_first (Delivers c d) ks = refl
entered_first Stops ks = refl
entered_first (Restarts found) ks = refl

pub writes_step : (up : Bool) (m : Step) (x y : LiveState) → Stepped up m x y → Writes (given_by m) x y
writes_step up m x y s =
    record {
      written = written up (number_of x.tx.transaction) x.tx.world m;
      grown = grown up m x y s;
      said = each_said up (number_of x.tx.transaction) x.tx.world m;
      called = entered m [];
      calls = calls_after up m x y s ∙ entered_first m x.tx.world.calls;
    }

-- What holds of the transaction holds after it, where its calls are counted then.
pub sound_step : (up : Bool) (m : Step) (x y : LiveState) → Stepped up m x y → y.number ≡ x.number → y.heard ≡ x.heard → each (is_counted y.lines y.enlisted y.cloned) y.tx.world.calls ≡ true
    → OfMore is_unrecovered m → (NamesPrepared x.tx → NamesPrepared y.tx) → IsSound x → IsSound y
sound_step up m x y s number heard counted plain named sound =
    let longer = length_onto (past x) (written up (number_of x.tx.transaction) x.tx.world m) in
    record {
      own = s.transaction ∙ (sound.own ∙ sym number);
      unrestarted = ap (λ (w : World). has is_restart w.past) s.world ∙ still_unrestarted up (number_of x.tx.transaction) x.tx.world m s.onward sound.unrestarted;
      within = subst (λ h. h ≤ length (past y)) (sym heard) (subst (λ h. x.heard ≤ length h) (sym (grown up m x y s)) (let w = sound.within in omega arith));
      counted = counted;
      unrecovered = ap (λ (w : World). has is_recovered w.past) s.world ∙ still_unrecovered up (number_of x.tx.transaction) x.tx.world m plain sound.unrecovered;
      named = named sound.named;
    }

-- what a call makes was numbered, and its line is the next one
pub counted_call : (line : ℕ) (a : ActorNo) (c : Call) (x : LiveState) → line ≡ x.lines + 1 → is_given x.enlisted x.cloned (made_by c) ≡ true → IsSound x
    → each (is_counted line x.enlisted x.cloned) (record { line = line; actor = a; call = c } ∷ x.tx.world.calls) ≡ true
counted_call line a c x next given sound =
    and_both (is_counted line x.enlisted x.cloned (record { line = line; actor = a; call = c })) (each (is_counted line x.enlisted x.cloned) x.tx.world.calls)
    (and_both (nat_le line line) (is_given x.enlisted x.cloned (made_by c)) (grind (arith, nat_tests)) given)
    (counted_more x.lines x.enlisted x.cloned line x.enlisted x.cloned x.tx.world.calls (omega arith) (omega arith) (omega arith) sound.counted)

-- a step that is no call keeps the calls
pub counted_same : (up : Bool) (m : Step) (x y : LiveState) → Stepped up m x y → entered m x.tx.world.calls ≡ x.tx.world.calls → each (is_counted x.lines x.enlisted x.cloned) x.tx.world.calls ≡ true
    → each (is_counted x.lines x.enlisted x.cloned) y.tx.world.calls ≡ true
counted_same up m x y s same k = ap (each (is_counted x.lines x.enlisted x.cloned)) (calls_after up m x y s ∙ same) ∙ k

-- So a call that was entered keeps what holds of the transaction.
pub called_sound : {D : Type 0} (faults : D → ℕ) (log : LogState D) (a : ActorNo) (line : ℕ) (c : Call) (x : LiveState) (tx : TxState) → line ≡ x.lines + 1 → is_given x.enlisted x.cloned (made_by c) ≡ true
    → is_plain c ≡ true → (NamesPrepared x.tx → NamesPrepared tx) → Does faults (Calls line a c 0) x.tx log tx log → IsSound x → IsSound (record x { tx = tx; lines = line })
called_sound faults log a line c x tx next given plain named did sound =
    let y : LiveState = record x { tx = tx; lines = line } in
    let s : Stepped log.is_up (Calls line a c 0) x y = record { transaction = did.transaction; world = did.world; onward = refl } in
    sound_step log.is_up (Calls line a c 0) x y s refl refl
    (ap (each (is_counted line x.enlisted x.cloned)) (calls_after log.is_up (Calls line a c 0) x y s) ∙ counted_call line a c x next given sound) (plain_unrecovered c plain) named sound

pub of_does : {D : Type 0} (faults : D → ℕ) (from to : LogState D) (m : Step) (x : LiveState) (tx : TxState) → is_restarting m ≡ false → Does faults m x.tx from tx to → Stepped from.is_up m x (record x { tx = tx })
of_does faults from to m x tx onward did = record { transaction = did.transaction; world = did.world; onward = onward }

-- And so does a reply, or a pending step.
pub stepped_sound : (up : Bool) (m : Step) (x : LiveState) (tx : TxState) → Stepped up m x (record x { tx = tx }) → entered m x.tx.world.calls ≡ x.tx.world.calls → OfMore is_unrecovered m
    → (NamesPrepared x.tx → NamesPrepared tx) → IsSound x → IsSound (record x { tx = tx })
stepped_sound up m x tx s same plain named sound =
    let y : LiveState = record x { tx = tx } in
    sound_step up m x y s refl refl (counted_same up m x y s same sound.counted) plain named sound

-- A reply that was done, or wasn't due, keeps what holds, and writes that reply.
pub replied_sound : {D E : Type 0} (faults : D → ℕ) (log : LogState D) (e : EnlNo) (r : Reply) (x : LiveState) (tx : TxState) (b : Bool) (z : Result Bool E) → z ≡ Ok b → (z ≡ Ok true → Does faults (Replies e r) x.tx log tx log)
    → (z ≡ Ok false → tx ≡ x.tx) → (NamesPrepared x.tx → NamesPrepared tx) → IsSound x → IsSound (record x { tx = tx })
replied_sound faults log e r x tx true z is done same named sound =
    stepped_sound log.is_up (Replies e r) x tx (of_does faults log log (Replies e r) x tx refl (done is)) refl (reply_unrecovered e r) named sound
replied_sound faults log e r x tx false z is done same named sound = subst (λ (y : TxState). IsSound (record x { tx = y })) (sym (same is)) sound

pub replied_writes : {D E F : Type 0} (faults : D → ℕ) (log : LogState D) (e : EnlNo) (r : Reply) (x : LiveState) (tx : TxState) (b : Bool) (z : Result Bool E) → z ≡ Ok b → (z ≡ Ok true → Does faults (Replies e r) x.tx log tx log)
    → ◌≡◌ {A = Result Bool F} (Ok b) (Ok true) → Writes ((e, r) ∷ []) x (record x { tx = tx })
replied_writes faults log e r x tx b z is done answer =
    writes_step log.is_up (Replies e r) x (record x { tx = tx }) (of_does faults log log (Replies e r) x tx refl (done (is ∙ ap (λ (a : Bool). Ok a) (ok_is b true answer))))

-- A pending step that is no reply.
unasked : (e : EnlNo) (o : Option Note) (n : Note) → o ≡ Some n → with_note e o ≡ None → ⊥
unasked e None n is none = absurd cc
unasked e (Some m) n is none = absurd cc

named_alone : (w : World) (s : StepName) (m : Step) → IsNamed w s m → reply_in w (Some s) ≡ None → (given_by m ≡ []) × ((ks : List EnteredCall) → entered m ks ≡ ks) × OfMore is_unrecovered m
named_alone w (ReplyOf e) m i none = absurd (unasked e (due_of (half w).seen e.value) i.1 i.2 none)
named_alone w LocalAct m i none = (ap (λ (n : Step). given_by n) i, λ ks. ap (λ (n : Step). entered n ks) i, subst (λ (n : Step). OfMore is_unrecovered n) (sym i) tt)
named_alone w CoordinatorAct m i none = (ap (λ (n : Step). given_by n) i.2, λ ks. ap (λ (n : Step). entered n ks) i.2, subst (λ (n : Step). OfMore is_unrecovered n) (sym i.2) tt)
named_alone w (Delivery c d) m i none = (ap (λ (n : Step). given_by n) i, λ ks. ap (λ (n : Step). entered n ks) i, subst (λ (n : Step). OfMore is_unrecovered n) (sym i) tt)

-- So where it was done, what holds is kept, and no reply was written.
pub record Alone (x y : LiveState) : Type 0 where
  pub sound : IsSound y
  pub writes : Writes [] x y

alone_kth : {D : Type 0} (faults : D → ℕ) (k : ℕ) (x : LiveState) (from : LogState D) (tx : TxState) (to : LogState D) → reply_in x.tx.world (kth (pending x.tx.world) k) ≡ None → DoesKth faults k x.tx from tx to
    → (NamesPrepared x.tx → NamesPrepared tx) → IsSound x → Alone x (record x { tx = tx })
alone_kth faults k x from tx to none d named sound =
    let apart = named_alone x.tx.world d.name d.step d.named (ap (reply_in x.tx.world) (sym d.stands) ∙ none) in
    let s = of_does faults from to d.step x tx (named_elsewhere x.tx.world d.name d.step d.named) d.done in
    record {
      sound = stepped_sound from.is_up d.step x tx s (apart.1 x.tx.world.calls) apart.2 named sound;
      writes = subst (λ (rs : List Given). Writes rs x (record x { tx = tx })) apart.0 (writes_step from.is_up d.step x (record x { tx = tx }) s);
    }

-- nothing was done
pub writes_none : (x : LiveState) → Writes [] x x
writes_none x = record { written = []; grown = refl; said = refl; called = []; calls = refl }

alone_same : (x : LiveState) (tx : TxState) → tx ≡ x.tx → IsSound x → Alone x (record x { tx = tx })
alone_same x tx same sound = subst (λ (y : TxState). Alone x (record x { tx = y })) (sym same) (record { sound = sound; writes = writes_none x })

pub alone_step : {D E : Type 0} (faults : D → ℕ) (k : ℕ) (x : LiveState) (from : LogState D) (tx : TxState) (to : LogState D) (b : Bool) (z : Result Bool E) → z ≡ Ok b → reply_in x.tx.world (kth (pending x.tx.world) k) ≡ None
    → (z ≡ Ok true → DoesKth faults k x.tx from tx to) → (z ≡ Ok false → (kth (pending x.tx.world) k ≡ None) × (tx ≡ x.tx) × (to ≡ from)) → (NamesPrepared x.tx → NamesPrepared tx) → IsSound x → Alone x (record x { tx = tx })
alone_step faults k x from tx to true z is none done same named sound = alone_kth faults k x from tx to none (done is) named sound
alone_step faults k x from tx to false z is none done same named sound = alone_same x tx (same is).1 sound

-- A step that is done where the log is down doesn't touch it.
down_does : {D : Type 0} (faults : D → ℕ) (m : Step) (x : TxState) (from : LogState D) (y : TxState) (to : LogState D) → IsAnswered faults x from to m → IsFalse from.is_up → to ≡ from
down_does faults (Coordinates a) x from y to answered down = answered.unchanged (λ is. never is (answered.before.1 (inl down))) (λ is. not_now is (answered.before.1 (inl down)))
  where
    never : a ≡ Done → a ≡ StoppedBefore → ⊥
    never p q = cc

    not_now : a ≡ StoppedNow → a ≡ StoppedBefore → ⊥
    not_now p q = cc
down_does faults (Calls n a c k) x from y to answered down = answered
down_does faults (Replies e r) x from y to answered down = answered
down_does faults Acts x from y to answered down = answered
down_does faults (Delivers c d) x from y to answered down = answered
down_does faults Stops x from y to answered down = answered
down_does faults (Restarts found) x from y to answered down = answered

pub down_step : {D E : Type 0} (faults : D → ℕ) (k : ℕ) (x : TxState) (from : LogState D) (y : TxState) (to : LogState D) (b : Bool) (z : Result Bool E) → z ≡ Ok b
    → (z ≡ Ok true → DoesKth faults k x from y to) → (z ≡ Ok false → (kth (pending x.world) k ≡ None) × (y ≡ x) × (to ≡ from)) → IsFalse from.is_up → to ≡ from
down_step faults k x from y to true z is done same down = let d = done is in down_does faults d.step x from y to d.done.answered down
down_step faults k x from y to false z is done same down = (same is).2

-- the entries of a reply come first of what it wrote
pub replied_onto : {D : Type 0} (faults : D → ℕ) (log : LogState D) (e : EnlNo) (r : Reply) (x : LiveState) (tx : TxState) → Does faults (Replies e r) x.tx log tx log
    → (es : List Entry) × (tx.world.past ≡ onto (onto (past x) (reply_entries (half x.tx.world) e r)) es)
unfolding block_at
replied_onto faults log e r x tx did =
    let t = (number_of x.tx.transaction) in
    let w = x.tx.world in
    let rest = stop_after (sends_begin t w (Replies e r) && not log.is_up) in
    (rest, ap (λ (v : World). v.past) did.world ∙ (turned_onto log.is_up t w (Replies e r) ∙ onto-append (past x) (block_at t w (Replies e r)) rest))
