-- A call that the connections or the coordinator answer, where it is done: what it leaves.
use Rattle.std.proofs.Common.{◌≡◌, ◌≢◌, ◌∙◌, ℕ, Bool, true, false, List, [], ◌∷◌, Option, Some, None, refl, ap, sym, if◌then◌else◌}
use Rattle.dtx_values.specs.declared.call.Call.{Call}
use Rattle.dtx_values.specs.TxIds.{number_of}
use Rattle.dtx_values.specs.declared.tx_id.TxId.{TxId}
use Rattle.dtx_values.specs.declared.call.Call.TheVariants.{Lose, Recovered}
use Rattle.dtx_values.specs.declared.entry.Answer.{Answer}
use Rattle.dtx_values.specs.declared.entry.Answer.TheVariants.{Fine, NoSuch}
use Rattle.dtx_values.specs.declared.entry.Entry.{Entry}
use Rattle.dtx_values.specs.declared.entry.Entry.TheVariants.{Called, Cut, Recovered as RecoveredEntry}
use Rattle.dtx_values.specs.declared.message.Conn.{Conn}
use Rattle.dtx_values.specs.declared.number.ActorNo.{ActorNo}
use Rattle.dtx_values.specs.declared.number.RmNo.{RmNo}
use Rattle.dtx_values.specs.declared.number.TxNo.{TxNo}
use Rattle.dtx_model.specs.Answers.{if_begun}
use Rattle.dtx_model.specs.Coordinated.{follow, follow_all}
use Rattle.dtx_model.specs.Half.{Half, heeds_all}
use Rattle.dtx_model.specs.Observed.{track}
use Rattle.dtx_model.specs.Steps.{Step, Calls, after, block_at, called, entered}
use Rattle.dtx_model.specs.Caused.{MayAnswer, is_begin_sent}
use Rattle.dtx_model.specs.Wires.{is_kept, is_open_wire, lost_after, lost_since}
use Rattle.dtx_model.specs.Words.{has, onto}
use Rattle.dtx_model.specs.World.{World, answer_at, cut, facts_at, half, lose_answer}
use Rattle.local_half.specs.Half.{Known, after as known_after}
use Rattle.coordinator_core.specs.Kept.{Kept as CoreKept}
use Rattle.world_laws.specs.Carried.{are_sendable}
use Rattle.tx_world.specs.Kept.{Kept}
use Rattle.tx_world.specs.State.{may_enter, sends_begin}
use Rattle.tx_world.proofs.Begun.{may_write}
use Rattle.tx_world.proofs.Calling.{call_once, may_come}
use Rattle.world_parts.proofs.LocalCalls.{call_heeded}
use Rattle.tx_world.proofs.Onward.{half_is, step_kept}
use Rattle.dtx_model.specs.Facts.{has_facts}

-- the block of a call that is answered ok
pub fine_block : (t : ℕ) (w : World) (n : ℕ) (a : ActorNo) (c : Call) (m : ℕ) → answer_at t w c m ≡ Fine → Called n a Fine ∷ facts_at t w c Fine ≡ block_at t w (Calls n a c m)
unfolding block_at
fine_block t w n a c m e = ap (called t w n a c) (sym e)

-- what holds after it
pub record Linked (t : TxId) (w : World) (m : Step) (g : Known) (j : CoreKept) (es : List Entry) : Type 0 where
  pub kept : Kept t (after (number_of t) w m) g j
  pub block : es ≡ block_at (number_of t) w m
  pub sendable : are_sendable (onto w.past es) ≡ true
  pub silent : false ≡ sends_begin (number_of t) w m

pub linked : (t : TxId) (w : World) (h g : Known) (k j : CoreKept) (n : ℕ) (a : ActorNo) (c : Call) (m : ℕ) (es : List Entry) → Kept t w h k → may_enter w n c ≡ true → MayAnswer (number_of t) w c m
    → es ≡ block_at (number_of t) w (Calls n a c m) → has is_begin_sent es ≡ false → g ≡ known_after (entered (Calls n a c m) []) h es → j ≡ record { transaction = k.transaction; state = follow_all k.state es }
    → Linked t w (Calls n a c m) g j es
linked t w h g k j n a c m es kept may answers block silent local far =
    let come = may_come t w h k n a c m kept may answers in
    let once = call_once t w h k n a c m kept may in
    record {
      kept =
          step_kept t w (Calls n a c m) h g k j kept come once (local ∙ ap (known_after (entered (Calls n a c m) []) h) block)
          (far ∙ ap (λ (xs : List Entry). record { transaction = k.transaction; state = follow_all k.state xs }) block);
      block = block;
      sendable = ap (λ (xs : List Entry). are_sendable (onto w.past xs)) block ∙ (may_write t w (Calls n a c m) kept.ran come once).sendable;
      silent = sym silent ∙ ap (has is_begin_sent) block;
    }

-- a loss: the connection is open
fine_open : (l : Option ℕ) (b : Bool) → if_begun l (if b then Fine else NoSuch) ≡ Fine → b ≡ true
fine_open None b e = absurd cc
fine_open (Some d) true e = refl
fine_open (Some d) false e = absurd cc

pub lost_open : (t : ℕ) (w : World) (u : TxNo) (c : Conn) (x y m : ℕ) → answer_at t w (Lose u c x y) m ≡ Fine → is_open_wire c w.past ≡ true
unfolding answer_at
lost_open t w u c x y m e = fine_open (half w).seen.limit (is_open_wire c w.past) e

pub lose_same : (t : ℕ) (w : World) (u : TxNo) (c : Conn) (x y m : ℕ) → answer_at t w (Lose u c x y) m ≡ answer_at t w (Lose u c x y) 0
unfolding answer_at
lose_same t w u c x y m = refl

pub after_call : (n : ℕ) (a : ActorNo) (v : Answer) (c : Conn) (h : List Entry) → is_open_wire c (Called n a v ∷ h) ≡ is_open_wire c h
after_call n a v c h = by (lost_since c h)
  where
    by : (o : Option Bool) → is_kept (lost_after c h (Called n a v) o) ≡ is_kept o
    by None = refl
    by (Some true) = refl
    by (Some false) = refl

cut_heeded : (h : Known) (n : ℕ) (a : ActorNo) (u : TxNo) (c : Conn) (x y i j : ℕ)
    → h ≡ known_after (record { line = n; actor = a; call = Lose u c x y } ∷ []) h (Called n a Fine ∷ Cut c i j ∷ [])
unfolding heeds_all track
cut_heeded h n a u c x y i j = ap (λ (g : Half). record { transaction = h.transaction; half = g }) (sym (call_heeded h.half n a (Lose u c x y) Fine refl refl))

cut_followed : (k : CoreKept) (n : ℕ) (a : ActorNo) (c : Conn) (i j : ℕ) → k ≡ record { transaction = k.transaction; state = follow_all k.state (Called n a Fine ∷ Cut c i j ∷ []) }
unfolding follow_all follow
cut_followed k n a c i j = refl

pub lost : (t : TxId) (w : World) (h : Known) (k : CoreKept) (n : ℕ) (a : ActorNo) (u : TxNo) (c : Conn) (x y m : ℕ) → Kept t w h k → may_enter w n (Lose u c x y) ≡ true → answer_at (number_of t) w (Lose u c x y) 0 ≡ Fine
    → Linked t w (Calls n a (Lose u c x y) m) h k (Called n a Fine ∷ cut w.past c x y ∷ [])
lost t w h k n a u c x y m kept may fine =
    linked t w h h k k n a (Lose u c x y) m (Called n a Fine ∷ cut w.past c x y ∷ []) kept may tt (fine_block (number_of t) w n a (Lose u c x y) m (lose_same (number_of t) w u c x y m ∙ fine)) refl
    (cut_heeded h n a u c x y _ _) (cut_followed k n a c _ _)

-- a manager has recovered
recovered_same : (t : ℕ) (w : World) (u : TxNo) (r : RmNo) (m : ℕ) → answer_at t w (Recovered u r) m ≡ answer_at t w (Recovered u r) 0
unfolding answer_at
recovered_same t w u r m = refl

recovery_heeded : (h : Known) (n : ℕ) (a : ActorNo) (u : TxNo) (r : RmNo) → h ≡ known_after (record { line = n; actor = a; call = Recovered u r } ∷ []) h (Called n a Fine ∷ RecoveredEntry r ∷ [])
unfolding heeds_all track
recovery_heeded h n a u r = ap (λ (g : Half). record { transaction = h.transaction; half = g }) (sym (call_heeded h.half n a (Recovered u r) Fine refl refl))

recovery_followed : (k j : CoreKept) (n : ℕ) (a : ActorNo) (r : RmNo) → j.transaction ≡ k.transaction → j.state ≡ follow k.state (RecoveredEntry r)
    → j ≡ record { transaction = k.transaction; state = follow_all k.state (Called n a Fine ∷ RecoveredEntry r ∷ []) }
unfolding follow_all follow
recovery_followed k j n a r same state = λ i. record { transaction = same i; state = state i }

pub recovered : (t : TxId) (w : World) (h : Known) (k j : CoreKept) (n : ℕ) (a : ActorNo) (u : TxNo) (r : RmNo) (m : ℕ) → Kept t w h k → may_enter w n (Recovered u r) ≡ true → answer_at (number_of t) w (Recovered u r) 0 ≡ Fine
    → j.transaction ≡ k.transaction → j.state ≡ follow k.state (RecoveredEntry r) → Linked t w (Calls n a (Recovered u r) m) h j (Called n a Fine ∷ RecoveredEntry r ∷ [])
recovered t w h k j n a u r m kept may fine same state =
    linked t w h h k j n a (Recovered u r) m (Called n a Fine ∷ RecoveredEntry r ∷ []) kept may tt (fine_block (number_of t) w n a (Recovered u r) m (recovered_same (number_of t) w u r m ∙ fine)) refl
    (recovery_heeded h n a u r) (recovery_followed k j n a r same state)

-- the history after a loss
pub lost_past : (n : ℕ) (a : ActorNo) (c : Conn) (x y i j : ℕ) (h p q : List Entry) → p ≡ Called n a Fine ∷ h → i ≡ x → j ≡ y → q ≡ cut p c i j ∷ p → q ≡ cut h c x y ∷ Called n a Fine ∷ h
lost_past n a c x y i j h p q wrote e f k =
    k ∙ ap (λ (g : List Entry). cut g c i j ∷ g) wrote ∙ ap (λ z. cut h c z j ∷ Called n a Fine ∷ h) e ∙ ap (λ z. cut h c x z ∷ Called n a Fine ∷ h) f

-- what it is answered
pub lose_is : (t : TxId) (w : World) (h : Known) (k : CoreKept) (u : TxNo) (c : Conn) (x y m : ℕ) (b : Bool) (a : Answer) → Kept t w h k → b ≡ is_open_wire c w.past → a ≡ if_begun h.half.seen.limit (if b then Fine else NoSuch)
    → a ≡ answer_at (number_of t) w (Lose u c x y) m
unfolding answer_at
lose_is t w h k u c x y m b a kept wire answered =
    answered ∙ ap (λ (v : Bool). if_begun h.half.seen.limit (if v then Fine else NoSuch)) wire ∙ ap (λ (g : Half). if_begun g.seen.limit (lose_answer w c)) (half_is t w h k kept)

lose_refused : (l : Option ℕ) (b : Bool) (a : Answer) → a ≡ if_begun l (if b then Fine else NoSuch) → a ≢ Fine → has_facts a ≡ false
lose_refused None b a e d = ap has_facts e
lose_refused (Some n) true a e d = absurd (d e)
lose_refused (Some n) false a e d = ap has_facts e

pub lose_alone : (t : ℕ) (w : World) (u : TxNo) (c : Conn) (x y m : ℕ) (a : Answer) → a ≡ answer_at t w (Lose u c x y) m → a ≢ Fine → has_facts a ≡ false
unfolding answer_at
lose_alone t w u c x y m a e d = lose_refused (half w).seen.limit (is_open_wire c w.past) a e d
