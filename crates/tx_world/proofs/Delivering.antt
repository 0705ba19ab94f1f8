-- What comes on a connection: it has a line, there is room for it, and what it makes is the block of its delivery.
use Rattle.std.proofs.Common.{◌≡◌, ℕ, Bool, true, false, ◌&&◌, not, List, [], ◌∷◌, ◌++◌, ◌↔◌, Some, None, refl, ap, sym, subst, ◌∙◌}
use Rattle.std.proofs.lemmas.Bool.{or_left}
use Rattle.dtx_values.proofs.Ids.{number_high, number_low}
use Rattle.dtx_values.specs.declared.entry.Entry.{Entry}
use Rattle.dtx_values.specs.TxIds.{number_of}
use Rattle.dtx_values.specs.declared.tx_id.TxId.{TxId}
use Rattle.dtx_values.specs.declared.entry.Entry.TheVariants.{Down as Ended, Got, Sent}
use Rattle.dtx_values.specs.declared.message.Conn.{Conn}
use Rattle.dtx_values.specs.declared.message.Dir.{Dir}
use Rattle.dtx_values.specs.declared.message.Dir.TheVariants.{Up, Down}
use Rattle.dtx_values.specs.declared.message.Message.{Message}
use Rattle.dtx_values.specs.Lines.{has_line}
use Rattle.dtx_values.specs.Outgoing.{Outgoing, blank, written as put_out}
use Rattle.dtx_values.specs.declared.message.Conn.TheVariants.{Begin, Voter, Enl, Again}
use Rattle.dtx_model.specs.Words.{each, has, onto}
use Rattle.dtx_model.specs.Outcome.{is_empty}
use Rattle.dtx_model.specs.Promotes.{identifier_of}
use Rattle.dtx_model.specs.Observed.{track}
use Rattle.dtx_model.specs.Coordinated.{Coordinated, follow, follow_all, stopped_after}
use Rattle.dtx_model.specs.Half.{Half, heeds, heeds_all}
use Rattle.dtx_model.specs.Wires.{MayCross, is_ended, is_lost_wire, is_next, is_stopped, in_transit, same_connection, same_direction}
use Rattle.dtx_model.specs.World.{World, half, core, has_left}
use Rattle.dtx_model.specs.Steps.{Delivers, after, block_at, delivered}
use Rattle.dtx_model.specs.Caused.{IsIn, IsOwnRun, is_begin_sent}
use Rattle.dtx_model.proofs.Bools.{and_left, and_right, not_both, not_false, not_true, or_case, or_false}
use Rattle.dtx_model.proofs.Heeding.{coordinate-onto}
use Rattle.dtx_model.proofs.Histories.{onto-append}
use Rattle.history_table.proofs.CoreStages.{stopped_same}
use Rattle.oletx_session.specs.declared.session.Delivered.{Delivered}
use Rattle.oletx_session.specs.declared.session.Delivered.TheVariants.{Msg, End, BadFrame}
use Rattle.local_half.specs.Half.{Known, after as known_after}
use Rattle.coordinator_core.specs.Kept.{Kept as CoreKept, IsFew}
use Rattle.coordinator_core.proofs.Following.{follow_all-append}
use Rattle.tx_world.specs.State.{sends_begin}
use Rattle.world_laws.specs.Carried.{are_sendable}
use Rattle.world_laws.specs.Course.{Came, is_far, is_near, is_written, noted, rest_down, rest_up}
use Rattle.tx_world.specs.Kept.{Kept}
use Rattle.tx_world.proofs.Begun.{may_write}
use Rattle.dtx_model.proofs.Writes.{Each, e_none}
use Rattle.world_laws.proofs.Far.{far_core_down, far_core_got}
use Rattle.world_laws.proofs.Few.{runs_few}
use Rattle.world_laws.proofs.Near.{near_local_down, near_local_got}
use Rattle.tx_world.proofs.Onward.{core_is, core_transaction, far_heeds_all, near_follow_all, step_kept}
use Rattle.tx_world.proofs.Written.{Ready, block_of, far_written, near_written, stopped_is}
use Rattle.dtx_model.proofs.Quiet.{is_lined, sent_has_line}
use Rattle.dtx_model.proofs.Connections.{same_is, same_way_is}
use Rattle.history_table.proofs.Crossed.{came, is_sent_on}

-- the message is the first of those on the way
pub next_first : (m : Message) (ms : List Message) → is_next m ms → (rest : List Message) × (ms ≡ m ∷ rest)
next_first m [] n = absurd n
next_first m (x ∷ ms) n = (ms, ap (λ y. y ∷ ms) (sym n))

-- a message that has no line wasn't sent
abbrev unlined : Conn → Dir → Message → Bool
unlined c d m = not (has_line c d m)

not_sent : (c : Conn) (d : Dir) (x : Entry) → is_lined x ≡ true → is_sent_on c d (unlined c d) x ≡ true → ⊥
not_sent c d (Sent e r m) l s =
    let on = and_left (same_connection c e && same_direction d r) (unlined c d m) s in
    let one = same_is c e (and_left (same_connection c e) (same_direction d r) on) in
    let way = same_way_is d r (and_right (same_connection c e) (same_direction d r) on) in
    let there : has_line c d m ≡ true = ap (λ x. has_line x d m) one ∙ ap (λ y. has_line e y m) way ∙ l in
    not_both (has_line c d m) there (not_true (has_line c d m) (and_right (same_connection c e && same_direction d r) (unlined c d m) s))
not_sent c d _ l s = cc

never_sent : (c : Conn) (d : Dir) (h : List Entry) → each is_lined h ≡ true → has (is_sent_on c d (unlined c d)) h ≡ true → ⊥
never_sent c d [] l s = absurd (cc)
never_sent c d (x ∷ h) l s =
    or_case (is_sent_on c d (unlined c d) x) (has (is_sent_on c d (unlined c d)) h) (λ k. not_sent c d x (and_left (is_lined x) (each is_lined h) l) k)
    (λ k. never_sent c d h (and_right (is_lined x) (each is_lined h) l) k) s

-- each message that comes has a line
pub lined : (t : ℕ) (w : World) (c : Conn) (d : Dir) (m : Message) → IsOwnRun t w → MayCross w.past (Got c d m) → has_line c d m ≡ true
lined t w c d m r k = by (has_line c d m) refl
  where
    by : (b : Bool) → has_line c d m ≡ b → has_line c d m ≡ true
    by true e = e
    by false e =
        let first = next_first m (in_transit c d w.past) k in
        absurd (never_sent c d w.past (sent_has_line (IsIn w.calls) t r.0 w r.1)
        (came c d (unlined c d) w.past (ap (has (unlined c d)) first.1 ∙ or_left (unlined c d m) (has (unlined c d) first.0) (not_false (has_line c d m) e))))

-- nothing is on the way where the end comes
end_empty : (c : Conn) (d : Dir) (h : List Entry) → MayCross h (Ended c d) → in_transit c d h ≡ []
end_empty c d h k =
    none (in_transit c d h)
    (and_right (is_lost_wire c h) (is_empty (in_transit c d h)) (and_left (is_lost_wire c h && is_empty (in_transit c d h)) (not (is_ended c d h)) k))
  where
    none : (ms : List Message) → is_empty ms ≡ true → ms ≡ []
    none [] e = refl
    none (m ∷ ms) e = absurd (cc)

-- what came is the next of the way
pub came_past : (c : Conn) (d : Dir) (x : Delivered) (h n : List Entry) → Came c d x h n → n ≡ onto h (noted c d x)
came_past c d (Msg m) h n k = k.1
came_past c d End h n k = k.1
came_past c d (BadFrame e) h n k = absurd k

pub block_up : (t : ℕ) (w : World) (c : Conn) (x : Delivered) (n : List Entry) → Came c Up x w.past n → noted c Up x ++ rest_up (identifier_of t) (core w) c x ≡ block_at t w (Delivers c Up)
unfolding block_at
block_up t w c (Msg m) n k = let first = next_first m (in_transit c Up w.past) k.0 in ap (delivered t w c Up) (sym first.1)
block_up t w c End n k = ap (delivered t w c Up) (sym (end_empty c Up w.past k.0))
block_up t w c (BadFrame e) n k = absurd k

pub block_down : (t : ℕ) (w : World) (c : Conn) (x : Delivered) (n : List Entry) → Came c Down x w.past n → noted c Down x ++ rest_down t (half w) c x ≡ block_at t w (Delivers c Down)
unfolding block_at
block_down t w c (Msg m) n k = let first = next_first m (in_transit c Down w.past) k.0 in ap (delivered t w c Down) (sym first.1)
block_down t w c End n k = ap (delivered t w c Down) (sym (end_empty c Down w.past k.0))
block_down t w c (BadFrame e) n k = absurd k

-- the coordinator has room for what came
pub came_few : (t : TxId) (w : World) (h : Known) (k : CoreKept) (c : Conn) (x : Delivered) (n : List Entry) → Kept t w h k → Came c Up x w.past n → (m : Message) → x ≡ Msg m → IsFew (follow k.state (Got c Up m))
came_few t w h k c x n kept came m e =
    let cross : MayCross w.past (Got c Up m) = (subst (λ (y : Delivered). Came c Up y w.past n) e came).0 in
    let first = next_first m (in_transit c Up w.past) cross in
    subst (λ (s : Coordinated). IsFew (follow s (Got c Up m))) (sym (core_is t w h k kept)) (runs_few (IsIn w.calls) (number_of t) kept.ran.0 w c m first.0 (number_low t) (number_high t) kept.once kept.ran.1 first.1)

-- what comes to one side is nothing to the other
up_heeded : (h : Half) (c : Conn) (x : Delivered) → heeds_all [] h (noted c Up x) ≡ h
unfolding heeds_all track
up_heeded h Begin (Msg m) = refl
up_heeded h Voter (Msg m) = refl
up_heeded h (Enl e) (Msg m) = refl
up_heeded h (Again e) (Msg m) = refl
up_heeded h Begin End = refl
up_heeded h Voter End = refl
up_heeded h (Enl e) End = refl
up_heeded h (Again e) End = refl
up_heeded h c (BadFrame e) = refl

down_followed : (k : Coordinated) (c : Conn) (x : Delivered) → follow_all k (noted c Down x) ≡ k
unfolding follow_all follow
down_followed k Begin (Msg m) = refl
down_followed k Voter (Msg m) = refl
down_followed k (Enl e) (Msg m) = refl
down_followed k (Again e) (Msg m) = refl
down_followed k Begin End = refl
down_followed k Voter End = refl
down_followed k (Enl e) End = refl
down_followed k (Again e) End = refl
down_followed k c (BadFrame e) = refl

heeds_all-append : (h : Half) (xs ys : List Entry) → heeds_all [] h (xs ++ ys) ≡ heeds_all [] (heeds_all [] h xs) ys
unfolding heeds_all
heeds_all-append h [] ys = refl
heeds_all-append h (x ∷ xs) ys = heeds_all-append (heeds [] h x) xs ys

rest_far : (id : ℕ) (k : Coordinated) (c : Conn) (x : Delivered) → Each is_far (rest_up id k c x)
rest_far id k c (Msg m) = far_core_got id k c m
rest_far id k c End = far_core_down k c
rest_far id k c (BadFrame e) = e_none

rest_near : (t : ℕ) (h : Half) (c : Conn) (x : Delivered) → Each is_near (rest_down t h c x)
rest_near t h c (Msg m) = near_local_got t h c m
rest_near t h c End = near_local_down h c
rest_near t h c (BadFrame e) = e_none

-- BEGIN isn't among what the coordinator writes, nor is it what came
far_begin : (es : List Entry) → each is_far es ≡ true → has is_begin_sent es ≡ false
far_begin [] f = refl
far_begin (x ∷ es) f = or_false (is_begin_sent x) (has is_begin_sent es) (one x (and_left (is_far x) (each is_far es) f)) (far_begin es (and_right (is_far x) (each is_far es) f))
  where
    one : (x : Entry) → is_far x ≡ true → is_begin_sent x ≡ false
    one (Sent Begin Down m) f = refl
    one (Sent Voter Down m) f = refl
    one (Sent (Enl e) Down m) f = refl
    one (Sent (Again e) Down m) f = refl
    one (Sent c Up m) f = absurd (cc)
    one _ f = absurd (cc)

noted_begin : (c : Conn) (d : Dir) (x : Delivered) (es : List Entry) → has is_begin_sent (noted c d x ++ es) ≡ has is_begin_sent es
noted_begin c d (Msg m) es = refl
noted_begin c d End es = refl
noted_begin c d (BadFrame e) es = refl

-- whether it is stopped, the coordinator's messages don't change
far_stopped : (k : Coordinated) (es : List Entry) → each is_far es ≡ true → (follow_all k es).stopped ≡ k.stopped
unfolding follow_all follow
far_stopped k [] f = refl
far_stopped k (x ∷ es) f = far_stopped (follow k x) es (and_right (is_far x) (each is_far es) f) ∙ one x (and_left (is_far x) (each is_far es) f)
  where
    one : (x : Entry) → is_far x ≡ true → stopped_after x k.stopped ≡ k.stopped
    one (Sent c Down m) f = refl
    one _ f = absurd (cc)

-- What came on a connection was heard: the side to which it goes took it, and what follows of it is ready to be written.
pub record Heard (t : TxId) (w : World) (c : Conn) (d : Dir) (h : Known) (j : CoreKept) (n xs : List Entry) : Type 0 where
  pub kept : Kept t (after (number_of t) w (Delivers c d)) h j
  pub past : onto n xs ≡ onto w.past (block_at (number_of t) w (Delivers c d))
  pub written : each is_written xs ≡ true
  pub sendable : are_sendable (onto n xs) ≡ true
  pub stopped : j.state.stopped ≡ is_stopped n
  pub silent : sends_begin (number_of t) w (Delivers c d) ≡ false

pub up_ready : (t : TxId) (w : World) (h : Known) (k j : CoreKept) (c : Conn) (x : Delivered) (o p : Outgoing) (n xs : List Entry) → Kept t w h k → has_left c Up w.past ≡ true → Came c Up x w.past n
    → j.transaction ≡ k.transaction → j.state ≡ follow_all k.state (noted c Up x ++ rest_up (identifier_of (number_of k.transaction)) k.state c x)
    → xs ≡ p.entries → p ≡ put_out o (rest_up (identifier_of (number_of k.transaction)) k.state c x) → o ≡ blank → Heard t w c Up h j n xs
up_ready t w h k j c x o p n xs kept left came same state value wrote clear =
    let rest = rest_up (identifier_of (number_of t)) (core w) c x in
    let is_rest : rest_up (identifier_of (number_of k.transaction)) k.state c x ≡ rest =
    ap (λ (y : TxId). rest_up (identifier_of (number_of y)) k.state c x) (core_transaction t w h k kept) ∙ ap (λ (s : Coordinated). rest_up (identifier_of (number_of t)) s c x) (core_is t w h k kept) in
    let block = block_up (number_of t) w c x n came in
    let xs_is : xs ≡ rest = block_of o p xs (rest_up (identifier_of (number_of k.transaction)) k.state c x) value wrote clear ∙ is_rest in
    let far = (rest_far (identifier_of (number_of t)) (core w) c x).proof in
    let past : onto n xs ≡ onto w.past (block_at (number_of t) w (Delivers c Up)) =
    ap (onto n) xs_is ∙ ap (λ g. onto g rest) (came_past c Up x w.past n came) ∙ sym (onto-append w.past (noted c Up x) rest) ∙ ap (onto w.past) block in
    let may = may_write t w (Delivers c Up) kept.ran left kept.once in
    let moved : follow_all k.state (noted c Up x ++ rest_up (identifier_of (number_of k.transaction)) k.state c x) ≡ follow_all k.state (block_at (number_of t) w (Delivers c Up)) =
    ap (λ es. follow_all k.state (noted c Up x ++ es)) is_rest ∙ ap (follow_all k.state) block in
    let still : heeds_all [] h.half (block_at (number_of t) w (Delivers c Up)) ≡ h.half =
    ap (heeds_all [] h.half) (sym block) ∙ heeds_all-append h.half (noted c Up x) rest ∙ ap (λ (g : Half). heeds_all [] g rest) (up_heeded h.half c x) ∙ far_heeds_all [] h.half rest far in
    record {
      kept =
          step_kept t w (Delivers c Up) h h k j kept left kept.once (ap (λ (g : Half). record { transaction = h.transaction; half = g }) (sym still))
          (λ i. record { transaction = same i; state = (state ∙ moved) i });
      past = past;
      written = far_written xs rest xs_is far;
      sendable = ap are_sendable past ∙ may.sendable;
      stopped =
          ap (λ (s : Coordinated). s.stopped) (state ∙ ap (λ es. follow_all k.state (noted c Up x ++ es)) is_rest ∙ follow_all-append k.state (noted c Up x) rest)
          ∙ far_stopped (follow_all k.state (noted c Up x)) rest far
          ∙ ap (λ (s : Coordinated). (follow_all s (noted c Up x)).stopped) (core_is t w h k kept)
          ∙ ap (λ (s : Coordinated). s.stopped) (sym (coordinate-onto w.past (noted c Up x)))
          ∙ stopped_same (onto w.past (noted c Up x))
          ∙ ap is_stopped (sym (came_past c Up x w.past n came));
      silent = ap (has is_begin_sent) (sym block) ∙ noted_begin c Up x rest ∙ far_begin rest far;
    }

-- A delivery downward is ready to be written: the local side took it, and this is what follows of it.
noted_stopped : (c : Conn) (x : Delivered) (h : List Entry) → is_stopped (onto h (noted c Down x)) ≡ is_stopped h
noted_stopped c (Msg m) h = refl
noted_stopped c End h = refl
noted_stopped c (BadFrame e) h = refl

pub down_ready : (t : TxId) (w : World) (h g : Known) (k : CoreKept) (c : Conn) (x : Delivered) (o p : Outgoing) (n xs : List Entry) → Kept t w h k → has_left c Down w.past ≡ true → Came c Down x w.past n
    → g ≡ known_after [] h (noted c Down x ++ rest_down (number_of h.transaction) h.half c x)
    → xs ≡ p.entries → p ≡ put_out o (rest_down (number_of h.transaction) h.half c x) → o ≡ blank → Ready t w (Delivers c Down) g k n xs
down_ready t w h g k c x o p n xs kept left came local value wrote clear =
    let rest = rest_down (number_of t) (half w) c x in
    let is_rest : rest_down (number_of h.transaction) h.half c x ≡ rest = ap (λ (y : Known). rest_down (number_of y.transaction) y.half c x) kept.half in
    let block = block_down (number_of t) w c x n came in
    let xs_is : xs ≡ rest = block_of o p xs (rest_down (number_of h.transaction) h.half c x) value wrote clear ∙ is_rest in
    let near = (rest_near (number_of t) (half w) c x).proof in
    let past : onto n xs ≡ onto w.past (block_at (number_of t) w (Delivers c Down)) =
    ap (onto n) xs_is ∙ ap (λ y. onto y rest) (came_past c Down x w.past n came) ∙ sym (onto-append w.past (noted c Down x) rest) ∙ ap (onto w.past) block in
    let may = may_write t w (Delivers c Down) kept.ran left kept.once in
    let still : follow_all k.state (block_at (number_of t) w (Delivers c Down)) ≡ k.state =
    ap (follow_all k.state) (sym block) ∙ follow_all-append k.state (noted c Down x) rest ∙ ap (λ (s : Coordinated). follow_all s rest) (down_followed k.state c x) ∙ near_follow_all k.state rest near in
    let sends : has is_begin_sent xs ≡ sends_begin (number_of t) w (Delivers c Down) = ap (has is_begin_sent) xs_is ∙ sym (noted_begin c Down x rest) ∙ ap (has is_begin_sent) block in
    record {
      came = left;
      kept =
          step_kept t w (Delivers c Down) h g k k kept left kept.once (local ∙ ap (λ es. known_after [] h (noted c Down x ++ es)) is_rest ∙ ap (known_after [] h) block)
          (ap (λ (s : Coordinated). record { transaction = k.transaction; state = s }) (sym still));
      past = past;
      written = near_written xs rest xs_is near;
      sendable = ap are_sendable past ∙ may.sendable;
      stopped = stopped_is kept refl ∙ sym (noted_stopped c x w.past) ∙ ap is_stopped (sym (came_past c Down x w.past n came));
      sends = sends;
      runs = λ b. ap (λ (s : Coordinated). s.stopped) (core_is t w h k kept) ∙ may.runs (sym sends ∙ b);
    }

-- something was left where something came
pub some_left : (b : Bool) (x : Delivered) → (Some x ≡ None) ↔ (b ≡ false) → b ≡ true
some_left true x k = refl
some_left false x k = absurd (not_none x (k.1 refl))
  where
    not_none : (x : Delivered) → Some x ≡ None → ⊥
    not_none x e = cc
