-- Which blocks have no stop and no restart: all but those of a stop, of a restart, and of an act of the coordinator that met a stopped log.
use Rattle.std.proofs.Common.{◌≡◌, ◌⊎◌, inl, inr, ℕ, Bool, true, false, List, [], ◌∷◌, is_some, refl, ap, sym, ◌∙◌, if◌then◌else◌}
use Rattle.dtx_values.specs.declared.entry.Ask.TheVariants.{Promote, Single as AskSingle}
use Rattle.dtx_values.specs.declared.entry.Entry.{Entry}
use Rattle.dtx_values.specs.declared.entry.Entry.TheVariants.{Asked, Called, Cut, Down as Ended, Freed, Got, Logged, LogFull, Recovered as RecoveredEntry, Restarted, Sealed, Sent, Stopped}
use Rattle.dtx_values.specs.declared.message.Conn.{Conn}
use Rattle.dtx_values.specs.declared.message.Conn.TheVariants.{Begin}
use Rattle.dtx_values.specs.declared.message.Dir.{Dir}
use Rattle.dtx_values.specs.declared.message.Dir.TheVariants.{Up, Down}
use Rattle.dtx_values.specs.declared.message.Message.{Message}
use Rattle.dtx_values.specs.Table.{how_many}
use Rattle.dtx_model.specs.Words.{each, onto}
use Rattle.dtx_model.specs.Promotes.{identifier_of}
use Rattle.dtx_model.specs.Wires.{in_transit, is_stopped}
use Rattle.dtx_model.specs.Coordinated.{follow, may_log}
use Rattle.dtx_model.specs.Half.{Half, sees}
use Rattle.dtx_model.specs.Arrivals.{local_got}
use Rattle.dtx_model.specs.Acts.{act_entries}
use Rattle.dtx_model.specs.World.{World, answer_at, core, half}
use Rattle.dtx_model.specs.Steps.{LogAnswer, Step, Calls, Replies, Acts, Coordinates, Delivers, Stops, Restarts, StoppedNow, StoppedBefore, Done, Full, StepName, ReplyOf, LocalAct, CoordinatorAct, Delivery, block_at, delivered}
use Rattle.dtx_model.specs.Caused.{IsNamed}
use Rattle.dtx_model.specs.AtLog.{is_restart}
use Rattle.dtx_model.specs.Replay.{is_in_replay}
use Rattle.dtx_model.proofs.Blocks.{of_abort_sends, of_arrived, of_called, of_commit_sends, of_core_down, of_core_got, of_local_down, of_reply, of_whole_act}
use Rattle.dtx_model.proofs.Bools.{and_left, and_right}
use Rattle.dtx_model.proofs.Writes.{ByAct, ByCall, ByMessage, ByReply, Each, IsClosed, OfOutcomes, OfWritten, Source, e_cons, e_if, e_one, each_closed, writes}
use Rattle.dtx_model.specs.Tied.{is_stop}

-- no stop and no restart
abbrev pub is_steady : Entry → Bool
is_steady Stopped = false
is_steady (Restarted found) = false
is_steady _ = true

-- the step neither stops the coordinator nor starts it again
abbrev pub goes_on : Step → Bool
goes_on (Coordinates StoppedNow) = false
goes_on (Coordinates StoppedBefore) = false
goes_on Stops = false
goes_on (Restarts found) = false
goes_on _ = true

-- a step that has a name and comes in replay goes on, or is an act that stops the log
pub named_goes : (w : World) (n : StepName) (m : Step) → IsNamed w n m → is_in_replay m ≡ true → (goes_on m ≡ true) ⊎ (m ≡ Coordinates StoppedNow)
named_goes w (ReplyOf e) m (r, note, due, fit, same) p = inl (ap goes_on same)
named_goes w LocalAct m same p = inl (ap goes_on same)
named_goes w CoordinatorAct m (a, may, same) p = by a same (sym (ap is_in_replay same) ∙ p)
  where
    by : (a : LogAnswer) → m ≡ Coordinates a → is_in_replay (Coordinates a) ≡ true → (goes_on m ≡ true) ⊎ (m ≡ Coordinates StoppedNow)
    by Done same p = inl (ap goes_on same)
    by Full same p = inl (ap goes_on same)
    by StoppedNow same p = inr same
    by StoppedBefore same p = absurd cc
named_goes w (Delivery c d) m same p = inl (ap goes_on same)

-- The blocks.
steady : IsClosed (λ ws es. Each is_steady es)
steady = each_closed is_steady refl (λ x. refl) (λ n x. refl) refl refl

steady_entry : (s : Source) → OfWritten s (Each is_steady)
steady_entry s x t = e_one x (passes x t)
  where
    passes : (x : Entry) → writes s x ≡ true → is_steady x ≡ true
    passes Stopped t = absurd cc
    passes (Restarted found) t = absurd cc
    passes _ t = refl

steady_sent : OfOutcomes (Each is_steady)
steady_sent c m l o = e_one (Sent c Down m) refl

steady_got : (t : ℕ) (w : World) (c : Conn) (d : Dir) (ms : List Message) → Each is_steady (delivered t w c d ms)
unfolding local_got
steady_got t w c Up [] = e_cons (Ended c Up) refl (of_core_down (steady.lists []) (core w) c steady_sent)
steady_got t w c Down [] = e_cons (Ended c Down) refl (of_local_down steady (half w) c)
steady_got t w c Up (m ∷ ms) = e_cons (Got c Up m) refl (of_core_got (steady.lists []) (identifier_of t) (core w) c m (λ d n l a. e_one (Sent d Down n) refl))
steady_got t w c Down (m ∷ ms) = e_cons (Got c Down m) refl (let g = sees (half w) (Got c Down m) in of_arrived steady t g c m (steady_entry (ByMessage g.waits c m)))

steady_act : (h : Half) → Each is_steady (act_entries h)
steady_act h =
    of_whole_act steady h (steady_entry (ByAct (is_some h.seen.decided))) (λ e. e_one (Asked e Promote) refl) (λ e. e_one (Asked e AskSingle) refl) (e_one Sealed refl)
    (λ m c. e_one (Sent Begin Up m) refl)

-- the block of a step that goes on
pub steady_block : (t : ℕ) (w : World) (m : Step) → goes_on m ≡ true → each is_steady (block_at t w m) ≡ true
unfolding block_at
steady_block t w (Calls n a c k) g =
    let x = answer_at t w c k in
    (e_cons (Called n a x) refl (of_called steady t w c x (steady_entry (ByCall c)) (λ d n m. e_one (Cut d n m) refl) (λ r. e_one (RecoveredEntry r) refl))).proof
steady_block t w (Replies e r) g = (of_reply steady (half w) e r (steady_entry (ByReply r))).proof
steady_block t w Acts g = (steady_act (half w)).proof
steady_block t w (Coordinates Done) g =
    (e_if (may_log (core w)) (e_cons Logged refl (of_commit_sends (steady.lists []) (follow (core w) Logged) steady_sent)) (e_one Freed refl)).proof
steady_block t w (Coordinates Full) g =
    (e_if (may_log (core w)) (e_cons LogFull refl (of_abort_sends (steady.lists []) (follow (core w) LogFull) steady_sent)) (record { proof = refl })).proof
steady_block t w (Coordinates StoppedNow) g = absurd cc
steady_block t w (Coordinates StoppedBefore) g = absurd cc
steady_block t w (Delivers c d) g = (steady_got t w c d (in_transit c d w.past)).proof
steady_block t w Stops g = absurd cc
steady_block t w (Restarts found) g = absurd cc

-- the block of an act that stops the log
pub stopping_block : (t : ℕ) (w : World) → block_at t w (Coordinates StoppedNow) ≡ Stopped ∷ []
unfolding block_at
stopping_block t w = by (may_log (core w))
  where
    by : (b : Bool) → (if b then Stopped ∷ [] else Stopped ∷ []) ≡ Stopped ∷ []
    by true = refl
    by false = refl

-- What such entries leave: whether the coordinator stands stopped,
steady_stop : (x : Entry) (h : List Entry) → is_steady x ≡ true → is_stopped (x ∷ h) ≡ is_stopped h
steady_stop Stopped h k = absurd cc
steady_stop (Restarted found) h k = absurd cc
steady_stop _ h k = refl

pub steady_stopped : (h es : List Entry) → each is_steady es ≡ true → is_stopped (onto h es) ≡ is_stopped h
steady_stopped h [] k = refl
steady_stopped h (x ∷ es) k = steady_stopped (x ∷ h) es (and_right (is_steady x) (each is_steady es) k) ∙ steady_stop x h (and_left (is_steady x) (each is_steady es) k)

pub steady_unstopped : (h : List Entry) → each is_steady h ≡ true → is_stopped h ≡ false
steady_unstopped [] k = refl
steady_unstopped (x ∷ h) k = steady_stop x h (and_left (is_steady x) (each is_steady h) k) ∙ steady_unstopped h (and_right (is_steady x) (each is_steady h) k)

-- and how many stops and restarts there are
one_stop : (x : Entry) → is_steady x ≡ true → is_stop x ≡ false
one_stop Stopped k = absurd cc
one_stop _ k = refl

one_restart : (x : Entry) → is_steady x ≡ true → is_restart x ≡ false
one_restart (Restarted found) k = absurd cc
one_restart _ k = refl

pub steady_stops : (h es : List Entry) → each is_steady es ≡ true → how_many is_stop (onto h es) ≡ how_many is_stop h
steady_stops h [] k = refl
steady_stops h (x ∷ es) k =
    steady_stops (x ∷ h) es (and_right (is_steady x) (each is_steady es) k) ∙ (let none = one_stop x (and_left (is_steady x) (each is_steady es) k) in rw none refl)

pub steady_restarts : (h es : List Entry) → each is_steady es ≡ true → how_many is_restart (onto h es) ≡ how_many is_restart h
steady_restarts h [] k = refl
steady_restarts h (x ∷ es) k =
    steady_restarts (x ∷ h) es (and_right (is_steady x) (each is_steady es) k) ∙ (let none = one_restart x (and_left (is_steady x) (each is_steady es) k) in rw none refl)

pub none_stops : (h : List Entry) → each is_steady h ≡ true → how_many is_stop h ≡ 0
none_stops [] k = refl
none_stops (x ∷ h) k = (let none = one_stop x (and_left (is_steady x) (each is_steady h) k) in rw none refl) ∙ none_stops h (and_right (is_steady x) (each is_steady h) k)

pub none_restarts : (h : List Entry) → each is_steady h ≡ true → how_many is_restart h ≡ 0
none_restarts [] k = refl
none_restarts (x ∷ h) k = (let none = one_restart x (and_left (is_steady x) (each is_steady h) k) in rw none refl) ∙ none_restarts h (and_right (is_steady x) (each is_steady h) k)
