-- Over the trace of a run, newest entry first, the store that is reached has of each pair with puts what the pair's history shows.
use Rattle.std.proofs.Common.{ℕ, ◌≡◌, ◌==◌, ◌&&◌, ◌+◌, ◌≤◌, Bool, true, false, List, [], ◌∷◌, length, Option, Some, None, refl, sym, subst, ap, ◌∙◌}
use Rattle.std.specs.Prelude.{if◌then◌else◌}
use Rattle.std.proofs.lemmas.Bool.{eqb-true, false_from_ne_true}
use Rattle.outside.specs.Faults.{Rose}
use Rattle.dtx_values.specs.declared.entry.Entry.{Entry}
use Rattle.dtx_values.specs.declared.entry.Entry.TheVariants.{Acked, Init as InitEntry, OwnerAnswered, PromoteReply, Requested, Told, Voted}
use Rattle.dtx_values.specs.declared.entry.Party.TheVariants.{Enl as Member}
use Rattle.dtx_values.specs.declared.note.Note.{Note}
use Rattle.dtx_values.specs.declared.note.Note.TheVariants.{Commit, Hand, Init, InDoubt, Prepare, Promote, Rollback, Single}
use Rattle.dtx_values.specs.declared.note.Reply.{Reply}
use Rattle.dtx_values.specs.declared.note.Reply.TheVariants.{Owner, Vote as VoteReply}
use Rattle.dtx_values.specs.declared.number.EnlNo.{EnlNo}
use Rattle.dtx_values.specs.declared.number.RmNo.{RmNo}
use Rattle.dtx_values.specs.declared.number.TxNo.{TxNo}
use Rattle.dtx_values.specs.declared.script.Line.{Line}
use Rattle.dtx_values.specs.declared.trace.Place.TheVariants.{Context, Log, Transaction}
use Rattle.dtx_values.specs.declared.words.Outcome.{Outcome}
use Rattle.dtx_values.specs.declared.words.Outcome.TheVariants.{Aborted, Committed, InDoubt as DoubtOutcome}
use Rattle.dtx_values.specs.declared.words.Vote.{Vote}
use Rattle.dtx_model.specs.Caused.{Manager, answers, is_volatile_in}
use Rattle.dtx_model.specs.Entries.{is_vote}
use Rattle.dtx_model.specs.Traces.{Placed, history}
use Rattle.dtx_model.specs.Words.{put}
use Rattle.dtx_model.proofs.Bools.{and_never, not_both}
use Rattle.heard_notes.specs.Heard.{HeardNote, IsHeardSo, Reaches, commit_of, heard, heard_if}
use Rattle.heard_notes.specs.Tables.{commits}
use Rattle.history_table.proofs.Tests.{eq_self}
use Rattle.kv_resource.specs.Images.{Gives}
use Rattle.kv_resource.specs.Notes.{AtMark, AtRecord, Fate, Smooth, answer_of, is_smooth, memory_after}
use Rattle.kv_resource.specs.Store.{KvMemory, KvState, Pair, above_highest, next_slot}
use Rattle.store_run.proofs.Acts.{Act, Drafted, Gone, IsOf, Marked, Prepared, Status, act_of, acted, after_act, answered, note_acts, seen, status}
use Rattle.store_run.proofs.Effects.{ActsWell, note_well}
use Rattle.store_run.proofs.Pairs.{is_pair}
use Rattle.store_run.proofs.Standing.{AreLaws, Stands, abort_moves, ack_moves, laws_before, owner_moves, stands_more, vote_moves}

-- what a store gives to a note of a transaction of epoch 0
abbrev pub GivesFirst : {D : Type 0} → Bool → (D → List ℕ → Type 0) → (D → ℕ) → KvState D → TxNo → EnlNo → Note → Option Reply → KvState D → Type 0
GivesFirst honest image faults old t e n a new = Gives honest image faults old (t.value, e.value) n a new

-- where no call of the disk fails, what is given is determined
pub given_smooth : {D : Type 0} (honest : Bool) (image : D → List ℕ → Type 0) (faults : D → ℕ) → ((x y : D) → Rose (faults x) (faults y) → ⊥) → (old new : KvState D) (t : TxNo) (e : EnlNo) (n : Note) (a : Option Reply)
    → GivesFirst honest image faults old t e n a new → (a ≡ answer_of old.memory (t.value, e.value) n Smooth) × (new.memory ≡ memory_after old.memory (t.value, e.value) n Smooth)
given_smooth honest image faults sure old new t e n a g = by g.fate g.answer g.kept g.cause
  where
    by : (f : Fate) → a ≡ answer_of old.memory (t.value, e.value) n f → new.memory ≡ memory_after old.memory (t.value, e.value) n f → (is_smooth f ≡ false → Rose (faults old.disk) (faults new.disk))
        → (a ≡ answer_of old.memory (t.value, e.value) n Smooth) × (new.memory ≡ memory_after old.memory (t.value, e.value) n Smooth)
    by Smooth x y c = (x, y)
    by AtRecord x y c = absurd (sure old.disk new.disk (c refl))
    by AtMark x y c = absurd (sure old.disk new.disk (c refl))

abbrev pub is_drafted : Status → Bool
is_drafted Drafted = true
is_drafted st = false

-- what is known of a pair that had a draft, and of one that had none
abbrev pub StandsBy : Bool → ℕ → List Entry → Status → Type 0
StandsBy true e h st = Stands e h st
StandsBy false e h st = st ≡ Gone

gone_stays : (next : Option ℕ) (n : Note) (st : Status) → st ≡ Gone → after_act st (act_of st next n) ≡ Gone
gone_stays next n Gone q = by n
  where
    by : (n : Note) → after_act Gone (act_of Gone next n) ≡ Gone
    by Init = refl
    by Prepare = refl
    by Promote = refl
    by Hand = refl
    by Single = refl
    by Commit = refl
    by Rollback = refl
    by InDoubt = refl
gone_stays next n Drafted q = absurd cc
gone_stays next n Prepared q = absurd cc
gone_stays next n Marked q = absurd cc

-- notes that change nothing
stays_at : (n : Note) → Type 0
stays_at n = (st : Status) (next : Option ℕ) → after_act st (act_of st next n) ≡ st

at_init : stays_at Init
unfolding stays_at
at_init Drafted next = refl
at_init Prepared next = refl
at_init Marked next = refl
at_init Gone next = refl

at_promote : stays_at Promote
unfolding stays_at
at_promote Drafted next = refl
at_promote Prepared next = refl
at_promote Marked next = refl
at_promote Gone next = refl

at_single : stays_at Single
unfolding stays_at
at_single Drafted next = refl
at_single Prepared next = refl
at_single Marked next = refl
at_single Gone next = refl

at_doubt : stays_at InDoubt
unfolding stays_at
at_doubt Drafted next = refl
at_doubt Prepared next = refl
at_doubt Marked next = refl
at_doubt Gone next = refl

stay_moves : (n : Note) → stays_at n → (e : ℕ) (x : Entry) (h : List Entry) (st : Status) (next : Option ℕ) → is_vote e x ≡ false → commits e x ≡ false → Stands e h st → Stands e (x ∷ h) (after_act st (act_of st next n))
unfolding stays_at
stay_moves n q e x h st next v c k = subst (Stands e (x ∷ h)) (sym (q st next)) (stands_more e x h st v c k)

-- what is answered is what the entry shows
pub vote_shown : (s : List Line) (u : TxNo) (g : EnlNo) (v : Vote) (st : Status) (next : Option ℕ) → IsHeardSo s (record { transaction = u; enlistment = g; note = Prepare; entry = Voted g v }) (answered st next Prepare)
    → answered st next Prepare ≡ Some (VoteReply v)
vote_shown s u g v Drafted (Some k) q = ap Some q
vote_shown s u g v Drafted None q = ap Some q
vote_shown s u g v Prepared next q = ap Some q
vote_shown s u g v Marked next q = ap Some q
vote_shown s u g v Gone next q = ap Some q

pub owner_shown : (s : List Line) (u : TxNo) (g : EnlNo) (o : Outcome) (st : Status) (next : Option ℕ) → IsHeardSo s (record { transaction = u; enlistment = g; note = Hand; entry = OwnerAnswered g o }) (answered st next Hand)
    → answered st next Hand ≡ Some (Owner o)
owner_shown s u g o Drafted (Some k) q = ap Some q
owner_shown s u g o Drafted None q = ap Some q
owner_shown s u g o Prepared next q = ap Some q
owner_shown s u g o Marked next q = ap Some q
owner_shown s u g o Gone next q = ap Some q

module _ (s : List Line) (r : RmNo) {D : Type 0} (honest : Bool) (image : D → List ℕ → Type 0) (faults : D → ℕ) (sure : (x y : D) → Rose (faults x) (faults y) → ⊥) (W : Pair → List (ℕ × ℕ)) (from : KvState D)
    (start : IsOf W from.memory) (begun : (e : EnlNo) (t : TxNo) → is_drafted (status from.memory (t.value, e.value)) ≡ false → status from.memory (t.value, e.value) ≡ Gone) where
  abbrev pub drafted_at : ℕ → ℕ → Bool
  drafted_at t e = is_drafted (status from.memory (t, e))

  abbrev pub Reached : List HeardNote → KvState D → Type 0
  Reached hs to = Reaches (GivesFirst honest image faults) s from hs to

  pub record Follows (P : List Placed) (m : KvMemory) : Type 0 where
    pub of : IsOf W m
    pub room : (n : ℕ) → above_highest 0 from.memory.slots 0 + length from.memory.drafts ≤ n → above_highest 0 m.slots 0 + length m.drafts ≤ n
    pub stands : (t : TxNo) (e : EnlNo) → answers s (Manager r) e.value ≡ true → StandsBy (drafted_at t.value e.value) e.value (history t.value P) (status m (t.value, e.value))

  -- a note that isn't the pair's, or none
  by_more : (b : Bool) (e : ℕ) (x : Entry) (h : List Entry) (st : Status) → is_vote e x ≡ false → commits e x ≡ false → StandsBy b e h st → StandsBy b e (x ∷ h) st
  by_more true e x h st v c k = stands_more e x h st v c k
  by_more false e x h st v c k = k

  -- what an entry that shows no note of the manager's leaves
  unheard : (P : List Placed) (u : TxNo) (x : Entry) (m : KvMemory) → ((e : EnlNo) → answers s (Manager r) e.value ≡ true → (is_vote e.value x ≡ false) × (commits e.value x ≡ false)) → Follows P m → Follows ((Transaction u, x) ∷ P) m
  unheard P u x m other f = record {
    of = f.of;
    room = f.room;
    stands = λ t e own. by t e own (t.value == u.value) (f.stands t e own);
  }
    where
      by : (t : TxNo) (e : EnlNo) → answers s (Manager r) e.value ≡ true → (b : Bool) → StandsBy (drafted_at t.value e.value) e.value (history t.value P) (status m (t.value, e.value))
          → StandsBy (drafted_at t.value e.value) e.value (if b then x ∷ history t.value P else history t.value P) (status m (t.value, e.value))
      by t e own true k = let no = other e own in by_more (drafted_at t.value e.value) e.value x (history t.value P) (status m (t.value, e.value)) no.0 no.1 k
      by t e own false k = k

  -- what a note of one of the manager's makes
  moved : (P : List Placed) (u : TxNo) (g : EnlNo) (n : Note) (x : Entry) (before to : KvState D) (a : Option Reply) → GivesFirst honest image faults before u g n a to
      → ((e : EnlNo) → (e.value == g.value) ≡ false → (is_vote e.value x ≡ false) × (commits e.value x ≡ false))
      → ((st : Status) (next : Option ℕ) → a ≡ answered st next n → Stands g.value (history u.value P) st → Stands g.value (x ∷ history u.value P) (after_act st (act_of st next n))) → Follows P before.memory
      → Follows ((Transaction u, x) ∷ P) to.memory
  moved P u g n x before to a gives other moves f = subst (Follows ((Transaction u, x) ∷ P)) (sym now) (record {
    of = well.of;
    room = λ k le. well.room k (f.room k le);
    stands = λ t e own. by t e own (t.value == u.value) (e.value == g.value) refl refl;
  })
    where
      m : KvMemory
      m = before.memory

      p : Pair
      p = (u.value, g.value)

      given : (a ≡ answer_of before.memory (u.value, g.value) n Smooth) × (to.memory ≡ memory_after before.memory (u.value, g.value) n Smooth)
      given = given_smooth honest image faults sure before to u g n a gives

      acts : (memory_after m p n Smooth ≡ acted m p (act_of (status m p) (next_slot m.slots) n)) × (answer_of m p n Smooth ≡ answered (status m p) (next_slot m.slots) n)
      acts = note_acts m p f.of.up (seen W m p f.of) n

      act : Act
      act = act_of (status m p) (next_slot m.slots) n

      now : to.memory ≡ acted m p act
      now = given.1 ∙ acts.0

      well : ActsWell W m p act
      well = note_well W m p n f.of

      -- the pair itself
      own_so : (b : Bool) → StandsBy b g.value (history u.value P) (status m p) → StandsBy b g.value (x ∷ history u.value P) (after_act (status m p) act)
      own_so true k = moves (status m p) (next_slot m.slots) (given.0 ∙ acts.1) k
      own_so false k = gone_stays (next_slot m.slots) n (status m p) k

      at : ℕ → ℕ → Type 0
      at t e = StandsBy (drafted_at t e) e (if t == u.value then x ∷ history t P else history t P) (status (acted m p act) (t, e))

      own_at : answers s (Manager r) g.value ≡ true → at u.value g.value
      own_at own =
          let h : (if u.value == u.value then x ∷ history u.value P else history u.value P) ≡ x ∷ history u.value P = ap (λ b. if b then x ∷ history u.value P else history u.value P) (eq_self u.value) in
          let same : is_pair p p ≡ true = (λ i. eq_self u.value i && eq_self g.value i) in
          let st : status (acted m p act) p ≡ after_act (status m p) act = well.status p ∙ ap (λ b. if b then after_act (status m p) act else status m p) same in
          let now = own_so (drafted_at u.value g.value) (f.stands u g own) in
          subst (λ y. StandsBy (drafted_at u.value g.value) g.value y (status (acted m p act) p)) (sym h) (subst (λ y. StandsBy (drafted_at u.value g.value) g.value (x ∷ history u.value P) y) (sym st) now)

      kept : (t : TxNo) (e : EnlNo) → is_pair (t.value, e.value) p ≡ false → status (acted m p act) (t.value, e.value) ≡ status m (t.value, e.value)
      kept t e no_pair = well.status (t.value, e.value) ∙ ap (λ b. if b then after_act (status m p) act else status m (t.value, e.value)) no_pair

      by : (t : TxNo) (e : EnlNo) → answers s (Manager r) e.value ≡ true → (b c : Bool) → (t.value == u.value) ≡ b → (e.value == g.value) ≡ c
          → StandsBy (drafted_at t.value e.value) e.value (if t.value == u.value then x ∷ history t.value P else history t.value P) (status (acted m p act) (t.value, e.value))
      by t e own true true q w =
          let here : t.value ≡ u.value = eqb-true t.value u.value q in
          let mine : e.value ≡ g.value = eqb-true e.value g.value w in
          subst (λ y. at y e.value) (sym here) (subst (λ y. at u.value y) (sym mine) (own_at (subst (λ y. answers s (Manager r) y ≡ true) mine own)))
      by t e own true false q w =
          let same = other e w in
          let apart : is_pair (t.value, e.value) p ≡ false = ap (λ b. (t.value == u.value) && b) w ∙ and_never (t.value == u.value) in
          subst (λ y. StandsBy (drafted_at t.value e.value) e.value y (status (acted m p act) (t.value, e.value))) (sym (ap (λ b. if b then x ∷ history t.value P else history t.value P) q))
          (subst (λ y. StandsBy (drafted_at t.value e.value) e.value (x ∷ history t.value P) y) (sym (kept t e apart))
          (by_more (drafted_at t.value e.value) e.value x (history t.value P) (status m (t.value, e.value)) same.0 same.1 (f.stands t e own)))
      by t e own false c q w =
          let apart : is_pair (t.value, e.value) p ≡ false = ap (λ b. b && (e.value == g.value)) q in
          subst (λ y. StandsBy (drafted_at t.value e.value) e.value y (status (acted m p act) (t.value, e.value))) (sym (ap (λ b. if b then x ∷ history t.value P else history t.value P) q))
          (subst (λ y. StandsBy (drafted_at t.value e.value) e.value (history t.value P) y) (sym (kept t e apart)) (f.stands t e own))

  -- a note that an entry shows
  noted : (P : List Placed) (u : TxNo) (g : EnlNo) (n : Note) (x : Entry) (hs : List HeardNote) (to : KvState D) → ((before : KvState D) → Reached hs before → Follows P before.memory)
      → ((e : EnlNo) → (e.value == g.value) ≡ false → (is_vote e.value x ≡ false) × (commits e.value x ≡ false))
      → (answers s (Manager r) g.value ≡ true → (a : Option Reply) → IsHeardSo s (record { transaction = u; enlistment = g; note = n; entry = x }) a
      → (st : Status) (next : Option ℕ) → a ≡ answered st next n → Stands g.value (history u.value P) st → Stands g.value (x ∷ history u.value P) (after_act st (act_of st next n)))
      → Reached (put (if answers s (Manager r) g.value then Some (record { transaction = u; enlistment = g; note = n; entry = x }) else None) hs) to → Follows ((Transaction u, x) ∷ P) to.memory
  noted P u g n x hs to ih other moves reached = by (answers s (Manager r) g.value) refl reached
    where
      by : (b : Bool) → answers s (Manager r) g.value ≡ b → Reached (put (if b then Some (record { transaction = u; enlistment = g; note = n; entry = x }) else None) hs) to → Follows ((Transaction u, x) ∷ P) to.memory
      by true own q = moved P u g n x q.0 to q.1 q.3 other (moves own q.1 q.4) (ih q.0 q.2)
      by false own q =
          unheard P u x to.memory (λ e mine. other e (false_from_ne_true (e.value == g.value) (λ w.
          not_both (answers s (Manager r) g.value) (subst (λ y. answers s (Manager r) y ≡ true) (eqb-true e.value g.value w) mine) own))) (ih to q)

  module _ (lasting : (e : ℕ) → answers s (Manager r) e ≡ true → is_volatile_in s e ≡ false) where
    one_more : (P : List Placed) (u : TxNo) (x : Entry) (to : KvState D) → AreLaws s r u.value (x ∷ history u.value P) → ((before : KvState D) → Reached (heard s (Manager r) P) before → Follows P before.memory)
        → Reached (heard s (Manager r) ((Transaction u, x) ∷ P)) to → Follows ((Transaction u, x) ∷ P) to.memory
    one_more P u (InitEntry g) to l ih reached =
        noted P u g Init (InitEntry g) (heard s (Manager r) P) to ih (λ e q. (refl, refl)) (λ own a so st next q k. stay_moves Init at_init g.value (InitEntry g) (history u.value P) st next refl refl k) reached
    one_more P u (Voted g v) to l ih reached =
        noted P u g Prepare (Voted g v) (heard s (Manager r) P) to ih (λ e q. (q, refl))
        (λ own a so st next q k. vote_moves g.value g v (history u.value P) st next (eq_self g.value) (vote_shown s u g v st next (subst (IsHeardSo s (record { transaction = u; enlistment = g; note = Prepare; entry = Voted g v })) q so)) k) reached
    one_more P u (PromoteReply g ok) to l ih reached =
        noted P u g Promote (PromoteReply g ok) (heard s (Manager r) P) to ih (λ e q. (refl, refl)) (λ own a so st next q k. stay_moves Promote at_promote g.value (PromoteReply g ok) (history u.value P) st next refl refl k) reached
    one_more P u (OwnerAnswered g o) to l ih reached =
        noted P u g Hand (OwnerAnswered g o) (heard s (Manager r) P) to ih (λ e q. (refl, other e o q))
        (λ own a so st next q k. owner_moves s r u.value g o (history u.value P) st next own l (owner_shown s u g o st next (subst (IsHeardSo s (record { transaction = u; enlistment = g; note = Hand; entry = OwnerAnswered g o })) q so)) k) reached
      where
        other : (e : EnlNo) (o : Outcome) → (e.value == g.value) ≡ false → commits e.value (OwnerAnswered g o) ≡ false
        other e Committed q = q
        other e Aborted q = refl
        other e DoubtOutcome q = refl
    one_more P u (Requested g q) to l ih reached =
        noted P u g Single (Requested g q) (heard s (Manager r) P) to ih (λ e q. (refl, refl)) (λ own a so st next w k. stay_moves Single at_single g.value (Requested g q) (history u.value P) st next refl refl k) reached
    one_more P u (Acked g) to l ih reached =
        noted P u g Commit (Acked g) (heard s (Manager r) P) to ih (λ e q. (refl, q)) (λ own a so st next q k. ack_moves s r u.value g (history u.value P) st next l k) reached
    one_more P u (Told (Member g) Committed) to l ih reached = by (is_volatile_in s g.value) refl reached
      where
        hs : List HeardNote
        hs = heard s (Manager r) P

        by : (b : Bool) → is_volatile_in s g.value ≡ b → Reached (put (heard_if (answers s (Manager r)) u (Told (Member g) Committed) (commit_of b g)) hs) to → Follows ((Transaction u, Told (Member g) Committed) ∷ P) to.memory
        by false e q = unheard P u (Told (Member g) Committed) to.memory (λ e own. (refl, refl)) (ih to q)
        by true e q = noted P u g Commit (Told (Member g) Committed) hs to ih (λ e q. (refl, refl)) (λ own a so st next w k. absurd (not_both (is_volatile_in s g.value) e (lasting g.value own))) q
    one_more P u (Told (Member g) Aborted) to l ih reached =
        noted P u g Rollback (Told (Member g) Aborted) (heard s (Manager r) P) to ih (λ e q. (refl, refl)) (λ own a so st next q k. abort_moves g (history u.value P) st next k) reached
    one_more P u (Told (Member g) DoubtOutcome) to l ih reached =
        noted P u g InDoubt (Told (Member g) DoubtOutcome) (heard s (Manager r) P) to ih (λ e q. (refl, refl))
        (λ own a so st next q k. stay_moves InDoubt at_doubt g.value (Told (Member g) DoubtOutcome) (history u.value P) st next refl refl k) reached
    one_more P u x to l ih reached = unheard P u x to.memory (λ e own. (refl, refl)) (ih to reached)

    -- at the start
    none_yet : (m : KvMemory) → m ≡ from.memory → Follows [] m
    none_yet m q = subst (Follows []) (sym q) (record { of = start; room = λ n le. le; stands = λ t e own. by e.value (status from.memory (t.value, e.value)) (begun e t) })
      where
        by : (e : ℕ) (st : Status) → (is_drafted st ≡ false → st ≡ Gone) → StandsBy (is_drafted st) e [] st
        by e Drafted f = (refl, refl)
        by e Prepared f = f refl
        by e Marked f = f refl
        by e Gone f = f refl

    pub followed : (P : List Placed) (to : KvState D) → ((t : TxNo) → AreLaws s r t.value (history t.value P)) → Reached (heard s (Manager r) P) to → Follows P to.memory
    followed [] to l reached = none_yet to.memory (ap (λ (x : KvState D). x.memory) reached)
    followed ((Transaction u, x) ∷ P) to l reached = one_more P u x to (here (u.value == u.value) (eq_self u.value) (l u)) (λ before q. followed P before (λ w. earlier w (w.value == u.value) (l w)) q) reached
      where
        earlier : (w : TxNo) (b : Bool) → AreLaws s r w.value (if b then x ∷ history w.value P else history w.value P) → AreLaws s r w.value (history w.value P)
        earlier w true g = laws_before s r w.value x (history w.value P) g
        earlier w false g = g

        here : (b : Bool) → b ≡ true → AreLaws s r u.value (if b then x ∷ history u.value P else history u.value P) → AreLaws s r u.value (x ∷ history u.value P)
        here true e g = g
        here false e g = absurd cc
    followed ((Context a, x) ∷ P) to l reached = let f = followed P to l reached in record { of = f.of; room = f.room; stands = f.stands }
    followed ((Log, x) ∷ P) to l reached = let f = followed P to l reached in record { of = f.of; room = f.room; stands = f.stands }
