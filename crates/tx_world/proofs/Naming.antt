-- The record that is kept names who said PREPARED: none of them changes while there is a record, nor while the coordinator stands stopped, and each step leaves it so.
use Rattle.std.proofs.Common.{◌≡◌, ◌∙◌, inl, inr, ℕ, Bool, true, false, ◌&&◌, ◌||◌, not, List, [], ◌∷◌, map, filter, Option, Some, None, is_some, Result, Ok, Err, OnOk, OnErr, refl, ap, sym, subst, if◌then◌else◌}
use Rattle.std.proofs.lemmas.Bool.{false_from_ne_true}
use Rattle.dtx_values.specs.RecoveryInfo.{pair_of}
use Rattle.dtx_values.specs.TxIds.{number_of}
use Rattle.dtx_values.specs.declared.tx_id.TxId.{TxId}
use Rattle.dtx_values.specs.declared.entry.Entry.{Entry}
use Rattle.dtx_values.specs.declared.entry.Entry.TheVariants.{Got, Restarted, Stopped}
use Rattle.dtx_values.specs.declared.message.Conn.{Conn}
use Rattle.dtx_values.specs.declared.message.Conn.TheVariants.{Enl, Again}
use Rattle.dtx_values.specs.declared.message.Dir.TheVariants.{Up}
use Rattle.dtx_values.specs.declared.message.Message.{Message}
use Rattle.dtx_values.specs.declared.message.Message.TheVariants.{EnlistAck, EnlistEnlist, EnlistOneAborted, ReenlistAck}
use Rattle.dtx_values.specs.Table.{insert_by}
use Rattle.dtx_model.specs.declared.desk.Desk.{Desk}
use Rattle.dtx_model.specs.declared.desk.Ballot.TheVariants.{Refused}
use Rattle.dtx_model.specs.Words.{each, onto}
use Rattle.dtx_model.specs.Log.{CommitRecord}
use Rattle.dtx_model.specs.Promotes.{identifier_of}
use Rattle.dtx_model.specs.Coordinated.{Coordinated, accepts, ballot_of, coordinate, desk_number, desks_after, follow, has_desk, hears_one, is_active, is_prepared, is_recorded, unacked, with_ack, with_ballot}
use Rattle.dtx_model.specs.Wires.{MayCross, WireRun}
use Rattle.dtx_model.specs.World.{World, core}
use Rattle.dtx_model.specs.Steps.{Step, block_at}
use Rattle.dtx_model.specs.Caused.{IsIn, IsOwnRun}
use Rattle.dtx_model.proofs.Bools.{and_left, and_right, not_both, or_case}
use Rattle.dtx_model.proofs.Quiet.{wire_run}
use Rattle.history_table.proofs.CoreStages.{stopped_same}
use Rattle.history_table.proofs.Crossed.{nothing_up}
use Rattle.local_half.specs.Half.{Known}
use Rattle.coordinator_core.specs.Kept.{Kept as CoreKept}
use Rattle.tx_world.specs.AtLog.{IsOurs, Kept as LogKept, Tie, id_of}
use Rattle.tx_world.specs.Kept.{Whole, stop_if}
use Rattle.tx_world.specs.OwnCalls.{DoesAlone}
use Rattle.tx_world.specs.Prepared.{Names, NamesPrepared}
use Rattle.tx_world.specs.State.{TxState, sends_begin}
use Rattle.tx_world.specs.Stepping.{DoesAt}
use Rattle.world_parts.proofs.Keeping.{active_unrecorded, heard_unrecorded, is_elsewhere, stage_same, stopped_same as stop_same}
use Rattle.tx_world.proofs.Living.{own_ours, seen_as}
use Rattle.tx_world.proofs.Onward.{turned_past}
use Rattle.tx_world.proofs.StillTied.{block_elsewhere, is_apart, kept_apart}
use Rattle.tx_world.proofs.Unlogged.{at_alone}
use Rattle.coordinator_core.proofs.Loops.{pairs_of}
use Rattle.world_parts.proofs.Named.{named_stopped, names_same, record_with}

-- An acknowledgement changes none of them, and a restart that finds the record keeps them.
acked_prepared : (e : ℕ) (ds : List Desk) → pairs_of (map (with_ack e) ds) ≡ pairs_of ds
acked_prepared e [] = refl
acked_prepared e (d ∷ ds) = by (is_prepared d.ballot) (acked_prepared e ds)
  where
    by : (b : Bool) → pairs_of (map (with_ack e) ds) ≡ pairs_of ds
        → map (λ d. pair_of (d.manager, d.enlistment)) (if b then with_ack e d ∷ filter (λ d. is_prepared d.ballot) (map (with_ack e) ds) else filter (λ d. is_prepared d.ballot) (map (with_ack e) ds))
        ≡ map (λ d. pair_of (d.manager, d.enlistment)) (if b then d ∷ filter (λ d. is_prepared d.ballot) ds else filter (λ d. is_prepared d.ballot) ds)
    by true k = ap (λ (ps : List (ℕ × ℕ)). pair_of (d.manager, d.enlistment) ∷ ps) k
    by false k = k

kept_prepared : (ds : List Desk) → pairs_of (map unacked (filter (λ d. is_prepared d.ballot) ds)) ≡ pairs_of ds
kept_prepared [] = refl
kept_prepared (d ∷ ds) = by (is_prepared d.ballot) refl (kept_prepared ds)
  where
    by : (b : Bool) → is_prepared d.ballot ≡ b → pairs_of (map unacked (filter (λ d. is_prepared d.ballot) ds)) ≡ pairs_of ds
        → pairs_of (map unacked (if b then d ∷ filter (λ d. is_prepared d.ballot) ds else filter (λ d. is_prepared d.ballot) ds))
        ≡ map (λ d. pair_of (d.manager, d.enlistment)) (if b then d ∷ filter (λ d. is_prepared d.ballot) ds else filter (λ d. is_prepared d.ballot) ds)
    by true q k = rw q (ap (λ (ps : List (ℕ × ℕ)). pair_of (d.manager, d.enlistment) ∷ ps) k)
    by false q k = k

-- While there is a record, and while the coordinator stands stopped, no entry changes them but the log's: ENLIST and votes count while nothing is decided, so does a refusal of who decides, and nothing comes up to a coordinator that stands stopped.
abbrev is_settled : Coordinated → Bool
is_settled k = k.stopped || is_recorded k.stage

not_taken : (b : Bool) (xs ys : List Desk) → b ≡ false → pairs_of (if b then xs else ys) ≡ pairs_of ys
not_taken true xs ys e = absurd cc
not_taken false xs ys e = refl

-- it heeds no message upward that would change them
unheeded : (h : List Entry) (e : Conn) (m : Message) (b : Bool) (xs : List Desk) → is_settled (coordinate h) ≡ true → MayCross h (Got e Up m) → (b ≡ true → is_recorded (coordinate h).stage ≡ false)
    → pairs_of (if b then xs else (coordinate h).desks) ≡ pairs_of (coordinate h).desks
unheeded h e m b xs s w f =
    or_case (coordinate h).stopped (is_recorded (coordinate h).stage) (λ t. absurd (nothing_up e m h (sym (stopped_same h) ∙ t) w))
    (λ r. not_taken b xs (coordinate h).desks (false_from_ne_true b (λ t. not_both (is_recorded (coordinate h).stage) r (f t)))) s

one_same : (h : List Entry) (x : Entry) → is_elsewhere x ≡ true → MayCross h x → is_settled (coordinate h) ≡ true → pairs_of (desks_after (coordinate h) x) ≡ pairs_of (coordinate h).desks
one_same h (Got (Enl e) Up (EnlistEnlist i)) el w s =
    let k = coordinate h in
    unheeded h (Enl e) (EnlistEnlist i) (accepts k) (insert_by desk_number (record { enlistment = e; manager = i.rm; ballot = None; acked = false }) k.desks) s w (λ t. active_unrecorded k.stage (and_left (is_active k.stage) (not k.commit) t))
one_same h (Got (Enl e) Up EnlistAck) el w s = acked_prepared e.value (coordinate h).desks
one_same h (Got (Again e) Up ReenlistAck) el w s = acked_prepared e.value (coordinate h).desks
one_same h (Got (Enl e) Up EnlistOneAborted) el w s =
    let k = coordinate h in
    unheeded h (Enl e) EnlistOneAborted (hears_one k e.value) (map (with_ballot e.value (Some Refused)) k.desks) s w (heard_unrecorded k.stage (has_desk k e.value))
one_same h (Got (Enl e) Up m) el w s = unheeded h (Enl e) m (is_active (coordinate h).stage) (map (with_ballot e.value (ballot_of m)) (coordinate h).desks) s w (active_unrecorded (coordinate h).stage)
one_same h (Restarted found) el w s = absurd cc
one_same h x el w s = refl

settled_after : (k : Coordinated) (x : Entry) → is_elsewhere x ≡ true → is_settled k ≡ true → is_settled (follow k x) ≡ true
settled_after k x el s = ap (λ b. b || is_recorded (follow k x).stage) (stop_same k x el) ∙ ap (λ b. k.stopped || b) (stage_same k x el) ∙ s

wires_before : (h es : List Entry) → WireRun (onto h es) → WireRun h
wires_before h [] w = w
wires_before h (x ∷ es) w = (wires_before (x ∷ h) es w).1

all_same : (h es : List Entry) → each is_elsewhere es ≡ true → WireRun (onto h es) → is_settled (coordinate h) ≡ true → pairs_of (coordinate (onto h es)).desks ≡ pairs_of (coordinate h).desks
unfolding coordinate follow
all_same h [] el w s = refl
all_same h (x ∷ es) el w s =
    let here = and_left (is_elsewhere x) (each is_elsewhere es) el in
    all_same (x ∷ h) es (and_right (is_elsewhere x) (each is_elsewhere es) el) w (settled_after (coordinate h) x here s) ∙ one_same h x here (wires_before (x ∷ h) es w).0 s

-- nor does a stop after them
turned_same : (b : Bool) (h es : List Entry) → each is_elsewhere es ≡ true → WireRun (stop_if b (onto h es)) → is_settled (coordinate h) ≡ true
    → pairs_of (coordinate (stop_if b (onto h es))).desks ≡ pairs_of (coordinate h).desks
unfolding coordinate follow
turned_same true h es el w s = all_same h es el w.1 s
turned_same false h es el w s = all_same h es el w s

-- where one is kept, there is a record, or the coordinator stands stopped
kept_settled : (id : ℕ) (k : Coordinated) (x : LogKept) → IsOurs id k x → is_some x.ours ≡ true → is_settled k ≡ true
kept_settled id k x o s = by k.stopped refl
  where
    by : (b : Bool) → k.stopped ≡ b → (b || is_recorded k.stage) ≡ true
    by true e = refl
    by false e = sym (o.recorded e) ∙ s

-- So in a step that isn't the log's the record that is kept stays the one that the coordinator writes.
names_on : (t : TxId) (w v : World) (x : LogKept) (b : Bool) (es : List Entry) → IsOurs (identifier_of (number_of t)) (core w) x → WireRun v.past → each is_elsewhere es ≡ true → v.past ≡ stop_if b (onto w.past es)
    → Names (number_of t) x.ours (core w) → Names (number_of t) x.ours (core v)
names_on t w v x b es o wires el past n = λ s.
    let same : pairs_of (core v).desks ≡ pairs_of (core w).desks
    = ap (λ (h : List Entry). pairs_of (coordinate h).desks) past ∙ turned_same b w.past es el (subst (λ (h : List Entry). WireRun h) past wires) (kept_settled (identifier_of (number_of t)) (core w) x o s) in
    names_same (number_of t) x.ours (core w) (core v) same n s

-- the same of a transaction as its users see it
pub named_does : (up : Bool) (life : ℕ) (m : Step) (old new : TxState) → is_apart m ≡ true → IsOurs (id_of old) (core old.world) (record { ours = old.ours; unsure = old.unsure; life = old.life })
    → IsOwnRun (number_of new.transaction) new.world → DoesAt up life m old new → NamesPrepared old → NamesPrepared new
named_does up life m old new apart o ran d n =
    let t = old.transaction in
    let b = sends_begin (number_of t) old.world m && not up in
    let es = block_at (number_of t) old.world m in
    let past : new.world.past ≡ stop_if b (onto old.world.past es) = ap (λ (w : World). w.past) d.world ∙ sym (ap (λ (w : World). w.past) (turned_past (number_of t) old.world m up)) in
    let there : Names (number_of t) old.ours (core new.world)
    = names_on t old.world new.world (record { ours = old.ours; unsure = old.unsure; life = old.life }) b es o (wire_run (IsIn new.world.calls) (number_of new.transaction) ran.0 new.world ran.1)
    (block_elsewhere (number_of t) old.world m apart) past n in
    let P : TxId → Type 0 = λ u. Names (number_of u) new.ours (core new.world) in
    let Q : Option CommitRecord → Type 0 = λ p. Names (number_of t) p (core new.world) in
    subst P (sym d.transaction) (subst Q (sym (kept_apart m old new apart d.kept)) there)

-- of a call, or a step, that may fail
pub named_ok : {A E : Type 0} (r : Result A E) (up : Bool) (life : ℕ) (m : Step) (old new : TxState) → is_apart m ≡ true → IsOurs (id_of old) (core old.world) (record { ours = old.ours; unsure = old.unsure; life = old.life })
    → IsOwnRun (number_of new.transaction) new.world → OnOk r (DoesAt up life m old new) → OnErr r (new ≡ old) → NamesPrepared old → NamesPrepared new
named_ok (Ok a) up life m old new apart o ran d e n = named_does up life m old new apart o ran d n
named_ok (Err f) up life m old new apart o ran d e n = subst (λ (x : TxState). NamesPrepared x) (sym e) n

-- and of a step that was written
pub named_near : {t : TxId} {w v : World} {f g : Known} {k j : CoreKept} (up : Bool) (life : ℕ) (m : Step) (x y : LogKept) (old : TxState) → Whole t w f k x → Whole t v g j y → is_apart m ≡ true → seen_as t w x ≡ old
    → DoesAt up life m old (seen_as t v y) → NamesPrepared old → NamesPrepared (seen_as t v y)
named_near {t} {w} {v} {f} {g} {k} {j} up life m x y old was is apart seen d n =
    let P : TxState → Type 0 = λ z. DoesAt up life m z (seen_as t v y) → NamesPrepared z → NamesPrepared (seen_as t v y) in
    let here : P (seen_as t w x) = named_does up life m (seen_as t w x) (seen_as t v y) apart (own_ours t w f k x was) is.kept.ran in
    subst P seen here d n

pub named_alone : {t : TxId} {w v : World} {f g : Known} {k j : CoreKept} (m : Step) (x : LogKept) (old : TxState) → Whole t w f k x → Whole t v g j x → is_apart m ≡ true → seen_as t w x ≡ old
    → DoesAlone m old (seen_as t v x) → NamesPrepared old → NamesPrepared (seen_as t v x)
named_alone {t} {w} {v} m x old was is apart seen d n = named_near true 0 m x x old was is apart seen (at_alone true 0 m old (seen_as t v x) d) n

-- A restart that finds what is kept keeps it so.
pub named_found : (t : ℕ) (o found : Option CommitRecord) (u : Bool) (k : Coordinated) → Tie o u found → Names t o k → Names t found (follow k (Restarted (is_some found)))
unfolding follow
named_found t o None u k tie n = λ s. absurd cc
named_found t o (Some r) u k tie n = λ s. elim tie [ inl e ↦ e ∙ n (ap (λ (p : Option CommitRecord). is_some p) (sym e)) ∙ ap (λ (ps : List (ℕ × ℕ)). record_with t ps) (sym (kept_prepared k.desks)) | inr e ↦ absurd (none e.0) ]
  where
    none : Some r ≡ None → ⊥
    none e = absurd cc

-- So a stop of the log leaves it,
stopped_names : (t : ℕ) (o : Option CommitRecord) (h : List Entry) → Names t o (coordinate h) → Names t o (coordinate (Stopped ∷ h))
unfolding coordinate
stopped_names t o h n = named_stopped t o (coordinate h) n

pub named_halt : (t : TxId) (w v : World) (x : LogKept) (old : TxState) → v.past ≡ Stopped ∷ w.past → seen_as t w x ≡ old → NamesPrepared old → NamesPrepared (seen_as t v x)
named_halt t w v x old past seen n =
    let P : TxState → Type 0 = λ z. NamesPrepared z → NamesPrepared (seen_as t v x) in
    let here : P (seen_as t w x) = λ m. subst (λ (h : List Entry). Names (number_of t) x.ours (coordinate h)) (sym past) (stopped_names (number_of t) x.ours w.past m) in
    subst P seen here n

-- and so does an opening, where what it found ties with what was kept.
found_names : (t : ℕ) (o found : Option CommitRecord) (u b : Bool) (h : List Entry) → Tie o u found → Names t o (coordinate h) → Names t found (coordinate (Restarted (is_some found) ∷ stop_if b h))
unfolding coordinate
found_names t o found u true h tie n = named_found t o found u (coordinate (Stopped ∷ h)) tie (stopped_names t o h n)
found_names t o found u false h tie n = named_found t o found u (coordinate h) tie n

pub named_told : (t : TxId) (w v : World) (x y : LogKept) (old : TxState) (b : Bool) (found : Option CommitRecord) → v.past ≡ Restarted (is_some found) ∷ stop_if b w.past → seen_as t w x ≡ old
    → Tie old.ours old.unsure found → y.ours ≡ found → NamesPrepared old → NamesPrepared (seen_as t v y)
named_told t w v x y old b found past seen tie kept n =
    let P : TxState → Type 0 = λ z. Tie z.ours z.unsure found → NamesPrepared z → NamesPrepared (seen_as t v y) in
    let here : P (seen_as t w x) = λ ties m.
    subst (λ (o : Option CommitRecord). Names (number_of t) o (core v)) (sym kept)
    (subst (λ (h : List Entry). Names (number_of t) found (coordinate h)) (sym past) (found_names (number_of t) x.ours found x.unsure b w.past ties m)) in
    subst P seen here tie n
