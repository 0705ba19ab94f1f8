-- What is kept of the log stays what the coordinator knows in a step that isn't the coordinator's own at the log: it only begins to live where BEGIN was sent.
use Rattle.std.proofs.Common.{◌≡◌, ◌∙◌, ℕ, Bool, true, false, ◌&&◌, not, List, [], ◌∷◌, None, refl, ap, sym, subst, if◌then◌else◌}
use Rattle.dtx_values.specs.declared.entry.Entry.{Entry}
use Rattle.dtx_values.specs.TxIds.{number_of}
use Rattle.dtx_values.specs.declared.tx_id.TxId.{TxId}
use Rattle.dtx_values.specs.declared.entry.Entry.TheVariants.{Stopped}
use Rattle.dtx_model.specs.Words.{has, onto}
use Rattle.dtx_model.specs.declared.waiting.EnteredCall.{EnteredCall}
use Rattle.dtx_model.specs.Caused.{is_begin_sent}
use Rattle.dtx_model.specs.Coordinated.{Coordinated, coordinate, nothing}
use Rattle.dtx_model.specs.Promotes.{identifier_of}
use Rattle.dtx_model.specs.Tied.{tied}
use Rattle.dtx_model.specs.World.{World}
use Rattle.dtx_model.specs.Steps.{Step, block_at, entered}
use Rattle.dtx_model.proofs.Bools.{and_left}
use Rattle.dtx_model.proofs.Heeding.{coordinate-onto}
use Rattle.local_half.specs.Half.{Known}
use Rattle.coordinator_core.specs.Kept.{Kept as CoreKept}
use Rattle.tx_world.specs.State.{TxState, sends_begin, turned}
use Rattle.tx_world.specs.AtLog.{IsOurs, Kept as LogKept}
use Rattle.tx_world.specs.Kept.{Kept, Whole, stop_if, stopped_if}
use Rattle.tx_world.specs.Stepping.{DoesAt}
use Rattle.tx_world.specs.Tried.{IsTried}
use Rattle.world_parts.proofs.Keeping.{ours_stays, ours_stopped}
use Rattle.tx_world.proofs.Onward.{core_is}
use Rattle.tx_world.proofs.StillTied.{block_elsewhere, is_apart}
use Rattle.tx_world.proofs.Trying.{tied_before, tried_onto, tried_stopped, tried_turned}
use Rattle.tx_world.proofs.Written.{Ready, does_step, world_written, written_kept}

-- the life is nothing to it
ours_lives : (id : ℕ) (k : Coordinated) (x : LogKept) (life : ℕ) → IsOurs id k x → IsOurs id k (record { ours = x.ours; unsure = x.unsure; life = life })
ours_lives id k x life o = record { sure = o.sure; recorded = o.recorded; named = o.named }

tried_lives : (h : List Entry) (x : LogKept) (life : ℕ) → IsTried h x → IsTried h (record { ours = x.ours; unsure = x.unsure; life = life })
tried_lives h x life o = record { tried = o.tried; kept = o.kept; unsure = o.unsure }

-- nor is a stop of the coordinator
stopped_there : (id : ℕ) (h : List Entry) (x : LogKept) → IsOurs id (coordinate h) x → IsOurs id (coordinate (Stopped ∷ h)) x
unfolding coordinate
stopped_there id h x o = ours_stopped id (coordinate h) x o.named

stop_there : (id : ℕ) (h : List Entry) (x : LogKept) (b : Bool) → IsOurs id (coordinate h) x → IsOurs id (coordinate (stop_if b h)) x
stop_there id h x true o = stopped_there id h x o
stop_there id h x false o = o

-- what the coordinator of a world keeps, by its history
pub own_ours : (t : TxId) (w : World) (h : Known) (k : CoreKept) (x : LogKept) → Whole t w h k x → IsOurs (identifier_of (number_of t)) (coordinate w.past) x
own_ours t w h k x was = subst (λ (j : CoreKept). IsOurs (identifier_of (number_of j.transaction)) j.state x) was.kept.core was.ours

here_ours : (t : TxId) (w : World) (h : Known) (k : CoreKept) (x : LogKept) → Kept t w h k → IsOurs (identifier_of (number_of t)) (coordinate w.past) x → IsOurs (identifier_of (number_of k.transaction)) k.state x
here_ours t w h k x kept o = subst (λ (j : CoreKept). IsOurs (identifier_of (number_of j.transaction)) j.state x) (sym kept.core) o

-- after a step that isn't the log's, where nothing else is kept
pub whole_on : (t : TxId) (w : World) (m : Step) {h g : Known} {k j : CoreKept} {x : LogKept} {ks : List EnteredCall} {n : List Entry} → Whole t w h k x → is_apart m ≡ true
    → Kept t (record { calls = ks; past = n }) g j → n ≡ onto w.past (block_at (number_of t) w m) → Whole t (record { calls = ks; past = n }) g j x
whole_on t w m {h} {g} {k} {j} {x} {ks} {n} was apart kept past =
    let es = block_at (number_of t) w m in
    let id = identifier_of (number_of t) in
    let elsewhere = block_elsewhere (number_of t) w m apart in
    let old : IsOurs id (coordinate w.past) x = own_ours t w h k x was in
    let now : IsOurs id (coordinate n) x = subst (λ (c : Coordinated). IsOurs id c x) (sym (coordinate-onto w.past es) ∙ ap (λ (p : List Entry). coordinate p) (sym past)) (ours_stays id (coordinate w.past) x es elsewhere old) in
    record {
      kept = kept;
      ours = here_ours t (record { calls = ks; past = n }) g j x kept now;
      tried = λ d. subst (λ (p : List Entry). IsTried p x) (sym past) (tried_onto id w.past es x elsewhere old (was.tried (tied_before w.past es n false past d)));
    }

-- after the coordinator stopped that ran
pub whole_stopped : {t : TxId} {v : World} {g : Known} (w : World) (h : Known) (k j : CoreKept) {x : LogKept} → Whole t w h k x → Kept t v g j → k.state.stopped ≡ false → v.past ≡ Stopped ∷ w.past → Whole t v g j x
whole_stopped {t} {v} {g} w h k j {x} was kept runs past =
    let id = identifier_of (number_of t) in
    let old : IsOurs id (coordinate w.past) x = own_ours t w h k x was in
    let now : IsOurs id (coordinate v.past) x = subst (λ (p : List Entry). IsOurs id (coordinate p) x) (sym past) (stopped_there id w.past x old) in
    record {
      kept = kept;
      ours = here_ours t v g j x kept now;
      tried = λ d. subst (λ (p : List Entry). IsTried p x) (sym past) (tried_stopped id w.past x old (ap (λ (c : Coordinated). c.stopped) (sym (core_is t w h k was.kept)) ∙ runs));
    }

-- a transaction to which nothing happened yet
pub whole_new : {t : TxId} {v : World} {g : Known} {k : CoreKept} {x : LogKept} → Kept t v g k → k ≡ record { transaction = t; state = nothing } → v.past ≡ []
    → x ≡ record { ours = None; unsure = false; life = 0 } → Whole t v g k x
whole_new {t} {v} {g} {k} {x} kept core past none =
    let P : CoreKept → Type 0 = λ j. IsOurs (identifier_of (number_of j.transaction)) j.state (record { ours = None; unsure = false; life = 0 }) in
    let Q : LogKept → Type 0 = λ y. IsOurs (identifier_of (number_of k.transaction)) k.state y in
    let first : IsOurs (identifier_of (number_of t)) nothing (record { ours = None; unsure = false; life = 0 }) = record { sure = λ s. refl; recorded = λ s. refl; named = tt } in
    let empty : IsTried [] (record { ours = None; unsure = false; life = 0 }) = record { tried = λ o. absurd cc; kept = λ o. absurd cc; unsure = λ o. refl } in
    record { kept = kept; ours = subst Q (sym none) (subst P (sym core) first); tried = λ d. subst (λ (y : LogKept). IsTried v.past y) (sym none) (subst (λ (h : List Entry). IsTried h (record { ours = None; unsure = false; life = 0 })) (sym past) empty) }

-- what users see of a transaction
abbrev pub seen_as : TxId → World → LogKept → TxState
seen_as t w x = record { transaction = t; world = w; ours = x.ours; unsure = x.unsure; life = x.life }

-- the step of the local side was done
does_near : (m : Step) (t : TxId) (w v : World) (x y : LogKept) (up begins sends : Bool) (life : ℕ) → is_apart m ≡ true → v ≡ turned up (number_of t) w m → sends ≡ sends_begin (number_of t) w m
    → y ≡ record { ours = x.ours; unsure = x.unsure; life = (if begins then life else x.life) } → begins ≡ sends → DoesAt up life m (seen_as t w x) (seen_as t v y)
does_near m t w v x y up begins sends life apart same is lives sent =
    let P : LogKept → Type 0 = λ z. DoesAt up life m (seen_as t w x) (seen_as t v z) in
    let lived : (if begins then life else x.life) ≡ (if sends then life else x.life) = ap (λ (b : Bool). if b then life else x.life) sent in
    subst P (sym lives) (does_step m t w v x.ours x.unsure x.life (if begins then life else x.life) up life sends apart same is lived)

-- A step of the local side was written: these calls and this history are left, the coordinator stops where BEGIN is sent while the log isn't up, and it lives in this life of the
-- log where BEGIN is sent. Then the world holds.
pub near_whole : {t : TxId} {w : World} {m : Step} {f g : Known} {k : CoreKept} {h xs : List Entry} (up : Bool) (life : ℕ) {j : CoreKept} {x y : LogKept} {ks : List EnteredCall} {n : List Entry}
    → Ready t w m g k h xs → Whole t w f k x → is_apart m ≡ true → ks ≡ entered m w.calls → n ≡ stop_if (has is_begin_sent xs && not up) (onto h xs)
    → j ≡ stopped_if (has is_begin_sent xs && not up) k → y ≡ record { ours = x.ours; unsure = x.unsure; life = life } → Whole t (record { calls = ks; past = n }) g j y
near_whole {t} {w} {m} {f} {g} {k} {h} {xs} up life {j} {x} {y} {ks} {n} r was apart calls past far lives =
    let begins = has is_begin_sent xs in
    let stops = begins && not up in
    let es = block_at (number_of t) w m in
    let id = identifier_of (number_of t) in
    let kept = written_kept t w m up begins g k j ks (onto h xs) n r.kept r.runs calls r.sends r.past past far in
    let elsewhere = block_elsewhere (number_of t) w m apart in
    let old : IsOurs id (coordinate w.past) x = own_ours t w f k x was in
    let stays : IsOurs id (coordinate (onto w.past es)) x = subst (λ (c : Coordinated). IsOurs id c x) (sym (coordinate-onto w.past es)) (ours_stays id (coordinate w.past) x es elsewhere old) in
    let wrote : n ≡ stop_if stops (onto w.past es) = past ∙ ap (stop_if stops) r.past in
    let now : IsOurs id (coordinate n) x = subst (λ (p : List Entry). IsOurs id (coordinate p) x) (sym wrote) (stop_there id (onto w.past es) x stops stays) in
    let runs : stops ≡ true → (coordinate w.past).stopped ≡ false = λ s. ap (λ (c : Coordinated). c.stopped) (sym (core_is t w f k was.kept)) ∙ r.runs (and_left begins (not up) s) in
    let tried : tied n ≡ true → IsTried n x
    = λ d. subst (λ (p : List Entry). IsTried p x) (sym wrote) (tried_turned id w.past es x stops elsewhere old runs (was.tried (tied_before w.past es n stops wrote d))) in
    let v : World = record { calls = ks; past = n } in
    subst (λ (z : LogKept). Whole t v g j z) (sym lives)
    (record { kept = kept; ours = ours_lives (identifier_of (number_of j.transaction)) j.state x life (here_ours t v g j x kept now); tried = λ d. tried_lives n x life (tried d) })

-- and the step was done
pub near_done : {t : TxId} {w : World} {m : Step} {g : Known} {k : CoreKept} {h xs : List Entry} (x y : LogKept) (old : TxState) (up begins : Bool) (life : ℕ) {ks : List EnteredCall} {n : List Entry}
    → Ready t w m g k h xs → is_apart m ≡ true → ks ≡ entered m w.calls → n ≡ stop_if (has is_begin_sent xs && not up) (onto h xs)
    → y ≡ record { ours = x.ours; unsure = x.unsure; life = (if begins then life else x.life) } → begins ≡ has is_begin_sent xs → seen_as t w x ≡ old
    → DoesAt up life m old (seen_as t (record { calls = ks; past = n }) y)
near_done {t} {w} {m} {g} {k} {h} {xs} x y old up begins life {ks} {n} r apart calls past lives begun was =
    let sends = has is_begin_sent xs in
    let v : World = record { calls = ks; past = n } in
    subst (λ (z : TxState). DoesAt up life m z (seen_as t v y)) was
    (does_near m t w v x y up begins sends life apart (world_written (number_of t) w m up sends ks (onto h xs) n calls r.sends r.past past) r.sends lives begun)
