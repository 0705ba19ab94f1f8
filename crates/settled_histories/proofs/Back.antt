-- What is so of whoever came back and was neither told nor broken off since, with each entry: it isn't finished, its manager hasn't recovered, and the coordinator has its REENLIST
-- before it, has answered, or has it wait while nothing is decided.
use Rattle.std.proofs.Common.{◌≡◌, ℕ, ◌==◌, Bool, true, false, ◌&&◌, ◌||◌, ◌⊎◌, inl, inr, List, [], ◌∷◌, Some, None, is_none, refl, ◌∙◌, ap, sym, subst}
use Rattle.std.specs.Prelude.{filter, not}
use Rattle.std.proofs.lemmas.Bool.{eqb-true, false_from_ne_true, or_left}
use Rattle.dtx_values.specs.declared.entry.Entry.{Entry}
use Rattle.dtx_values.specs.declared.entry.Entry.TheVariants.{Acked, Down as End, Freed, Got, LogFull, Logged, Recovered, Reenlisted, Restarted, Sent, Stopped, Told, Voted}
use Rattle.dtx_values.specs.declared.entry.Party.TheVariants.{Enl as Member}
use Rattle.dtx_values.specs.declared.message.Conn.{Conn}
use Rattle.dtx_values.specs.declared.message.Conn.TheVariants.{Enl, Again}
use Rattle.dtx_values.specs.declared.message.Dir.{Dir}
use Rattle.dtx_values.specs.declared.message.Dir.TheVariants.{Up, Down}
use Rattle.dtx_values.specs.declared.message.Message.{Message}
use Rattle.dtx_values.specs.declared.message.Message.TheVariants.{EnlistCommit, EnlistEnlist, EnlistEnlisted, EnlistSingle, ReenlistCommitted}
use Rattle.dtx_values.specs.declared.number.EnlNo.{EnlNo}
use Rattle.dtx_values.specs.declared.words.Outcome.TheVariants.{Aborted}
use Rattle.dtx_values.specs.Ends.{is_in, same_connection, same_direction}
use Rattle.dtx_model.specs.declared.branch.Branch.{Branch}
use Rattle.dtx_model.specs.Words.{each, has, onto}
use Rattle.dtx_model.specs.Entries.{is_told}
use Rattle.dtx_model.specs.Observed.{branch_acked, branch_due, branch_number, branches, due_in, is_branch}
use Rattle.dtx_model.specs.Learned.{breaks_off}
use Rattle.dtx_model.specs.Wires.{MayCross, ended_after, ends, is_ended, is_stopped, lost_since, opens}
use Rattle.dtx_model.specs.declared.desk.Stage.{Stage}
use Rattle.dtx_model.specs.declared.desk.Stage.TheVariants.{Given, Sole}
use Rattle.dtx_model.specs.Coordinated.{Coordinated, coordinate, follow, is_sole, recovered_after, stage_after, stage_if}
use Rattle.dtx_model.proofs.Bools.{and_both, and_left, and_never, and_right, not_both, not_true, or_case, or_false, or_right}
use Rattle.dtx_values.proofs.SameNumbers.{same_enlistment}
use Rattle.history_table.proofs.Lists.{each-insert}
use Rattle.history_table.proofs.Keeping.{Keeps}
use Rattle.history_table.proofs.Handing.{keeps_within}
use Rattle.history_table.proofs.Sendings.{got_line}
use Rattle.history_table.proofs.Crossed.{IsStill, is_sent_on, still_more, still_silent}
use Rattle.history_table.proofs.CoreStages.{changed, kept_some}
use Rattle.history_table.proofs.EntryTests.{is_return}
use Rattle.history_table.proofs.Marks.{opened_if_returned, unopened_again}
use Rattle.history_table.proofs.Managed.{enlist_opens, is_enlist_by}
use Rattle.settled_histories.proofs.Awaits.{withholds}
use Rattle.settled_histories.proofs.Finished.{is_finished, is_not_own, unfinished_more}
use Rattle.settled_histories.proofs.Awaiting.{IsAwaited, awaited_more, endless, is_back, is_unheard, is_underway, is_waiting_there, sent_goes, underway_more}

-- it is to acknowledge nothing
abbrev pub is_undue : ℕ → Branch → Bool
is_undue e b = not (is_branch e b) || is_none b.due

pub record IsBack (e : EnlNo) (h : List Entry) : Type 0 where
  -- the coordinator doesn't stand stopped
  pub standing : is_stopped h ≡ false
  -- nothing more crosses on its own connection
  pub up : IsStill (Enl e) Up h
  pub down : IsStill (Enl e) Down h
  -- the local side hasn't seen the end of the connection of its reenlistment
  pub unended : is_ended (Again e) Down h ≡ false
  -- it isn't finished, and is to acknowledge nothing; its manager hasn't recovered
  pub unfinished : is_finished e.value h ≡ false
  pub undue : each (is_undue e.value) (branches h) ≡ true
  pub unrecovered : (r : ℕ) → has (is_enlist_by e.value r) h ≡ true → is_in r (coordinate h).recovered ≡ false
  pub awaited : IsAwaited e h

-- the entry is no message that comes down to it, no vote or acknowledgement of its own, and no manager recovers
abbrev pub is_passing : EnlNo → Entry → Bool
is_passing e (Got c Down m) = not (same_connection (Again e) c)
is_passing e (Voted f v) = not (e.value == f.value)
is_passing e (Acked f) = not (e.value == f.value)
is_passing e (Recovered r) = false
is_passing e _ = true

passing_unheard : (e : EnlNo) (x : Entry) → is_passing e x ≡ true → is_unheard e x ≡ true
passing_unheard e (Got c Down m) p = p
passing_unheard e _ p = refl

passing_not_own : (e : EnlNo) (x : Entry) → is_passing e x ≡ true → is_not_own e.value x ≡ true
passing_not_own e (Voted f v) p = p
passing_not_own e (Acked f) p = p
passing_not_own e _ p = refl

passing_unrecovering : (e : EnlNo) (x : Entry) (rs : ℕ) → is_passing e x ≡ true → recovered_after x rs ≡ rs
passing_unrecovering e (Recovered r) rs p = absurd cc
passing_unrecovering e _ rs p = refl

-- The end of the connection isn't seen.
ends_none : (e : EnlNo) (x : Entry) (h : List Entry) → Keeps (x ∷ h) → lost_since (Again e) h ≡ Some false → ends (Again e) Down x ≡ false
ends_none e (End c d) h k o = ap (λ b. b && same_direction Down d) (endless e c d h k.wires.0 o)
ends_none e (Got c d m) h k o = ap (λ l. same_connection (Again e) c && same_direction Down d && not l) (got_line c d m h k) ∙ and_never (same_connection (Again e) c && same_direction Down d)
ends_none e _ h k o = refl

unended_more : (e : EnlNo) (x : Entry) (h : List Entry) → Keeps (x ∷ h) → lost_since (Again e) h ≡ Some false → is_ended (Again e) Down h ≡ false → is_ended (Again e) Down (x ∷ h) ≡ false
unended_more e x h k o n = by (opens (Again e) x)
  where
    by : (b : Bool) → ended_after b false (ends (Again e) Down x || is_ended (Again e) Down h) ≡ false
    by true = refl
    by false = or_false (ends (Again e) Down x) (is_ended (Again e) Down h) (ends_none e x h k o) n

-- It is to acknowledge nothing more.
other_due : (e f : ℕ) (c : Conn) (b : Branch) → (e == f) ≡ false → is_undue e b ≡ true → is_undue e (branch_due f (Some c) b) ≡ true
other_due e f c b n t = by (is_branch f b) refl
  where
    apart : (q : Bool) → is_branch e b ≡ q → is_branch f b ≡ true → (not q || false) ≡ true
    apart false s q = refl
    apart true s q =
        let P : ℕ → Type 0 = λ m. (e == m) ≡ true in
        absurd (not_both (e == f) (subst P (sym (eqb-true f b.enlistment.value q)) s) n)

    by : (q : Bool) → is_branch f b ≡ q → (not (is_branch e b) || is_none (due_in q (Some c) b.due)) ≡ true
    by false q = t
    by true q = apart (is_branch e b) refl q

silent_own : (e f : EnlNo) (m : Message) (h : List Entry) → IsStill (Enl e) Down h → MayCross h (Got (Enl f) Down m) → (e.value == f.value) ≡ false
silent_own e f m h w c = false_from_ne_true (e.value == f.value) (λ q. by q)
  where
    by : (e.value == f.value) ≡ true → ⊥
    by q = let P : EnlNo → Type 0 = λ g. MayCross h (Got (Enl g) Down m) in still_silent (Enl e) Down m h w (subst P (sym (same_enlistment e f (eqb-true e.value f.value q))) c)

no_due : (e f : ℕ) (b : Branch) → is_undue e b ≡ true → is_undue e (branch_due f None b) ≡ true
no_due e f b t = by (is_branch f b)
  where
    by : (q : Bool) → (not (is_branch e b) || is_none (due_in q None b.due)) ≡ true
    by true = or_right (not (is_branch e b)) true refl
    by false = t

undue_more : (e : EnlNo) (x : Entry) (h : List Entry) → Keeps (x ∷ h) → IsStill (Enl e) Down h → is_unheard e x ≡ true → each (is_undue e.value) (branches h) ≡ true → each (is_undue e.value) (branches (x ∷ h)) ≡ true
undue_more e (Sent (Enl f) Up (EnlistEnlist i)) h k w u t =
    let new : Branch = record { enlistment = f; manager = i.rm; enlisted = false; aborted = false; acked = false; due = None } in
    each-insert (is_undue e.value) branch_number new (filter (λ b. not (is_branch f.value b)) (branches h))
    ∙ and_both (is_undue e.value new) (each (is_undue e.value) (filter (λ b. not (is_branch f.value b)) (branches h))) (or_right (not (is_branch e.value new)) true refl) (kept_some (is_undue e.value) (λ b. not (is_branch f.value b)) (branches h) t)
undue_more e (Got (Enl f) Down EnlistEnlisted) h k w u t = changed (is_undue e.value) (is_undue e.value) _ (λ b s. s) (branches h) t
undue_more e (Got (Enl f) Down EnlistCommit) h k w u t =
    changed (is_undue e.value) (is_undue e.value) (branch_due f.value (Some (Enl f))) (λ b s. other_due e.value f.value (Enl f) b (silent_own e f EnlistCommit h w k.wires.0) s) (branches h) t
undue_more e (Got (Again f) Down ReenlistCommitted) h k w u t =
    changed (is_undue e.value) (is_undue e.value) (branch_due f.value (Some (Again f))) (λ b s. other_due e.value f.value (Again f) b (not_true (e.value == f.value) u) s) (branches h) t
undue_more e (Told (Member f) Aborted) h k w u t = changed (is_undue e.value) (is_undue e.value) _ (λ b s. s) (branches h) t
undue_more e (Acked f) h k w u t = changed (is_undue e.value) (is_undue e.value) (branch_acked f.value) (λ b s. no_due e.value f.value b s) (branches h) t
undue_more e (Reenlisted f) h k w u t = changed (is_undue e.value) (is_undue e.value) (branch_due f.value None) (λ b s. no_due e.value f.value b s) (branches h) t
undue_more e _ h k w u t = t

-- The coordinator goes on standing, since a stop would have broken it off.
stands_more : (e : ℕ) (x : Entry) (h : List Entry) → breaks_off e x ≡ false → is_stopped h ≡ false → is_stopped (x ∷ h) ≡ false
stands_more e Stopped h b s = absurd cc
stands_more e (Restarted found) h b s = refl
stands_more e _ h b s = s

-- One more entry, where no manager recovers that is its own.
pub back_beyond : (e : EnlNo) (x : Entry) (h : List Entry) → Keeps (x ∷ h) → has (opens (Enl e)) h ≡ true → is_unheard e x ≡ true → is_not_own e.value x ≡ true → breaks_off e.value x ≡ false
    → is_told e.value x ≡ false → ((r : ℕ) → has (is_enlist_by e.value r) h ≡ true → is_in r (coordinate (x ∷ h)).recovered ≡ false) → IsBack e h → IsBack e (x ∷ h)
back_beyond e x h k o u n b l f w =
    record {
      standing = stands_more e.value x h b w.standing;
      up = still_more (Enl e) Up x h (λ m t. absurd (not_both (opens (Enl e) x) t unopened)) (λ t. absurd (not_both (opens (Enl e) x) t unopened)) w.up;
      down = still_more (Enl e) Down x h (λ m t. absurd (not_both (opens (Enl e) x) t unopened)) (λ t. absurd (not_both (opens (Enl e) x) t unopened)) w.down;
      unended = unended_more e x h k w.awaited.opened w.unended;
      unfinished = unfinished_more e.value x h n l w.unfinished;
      undue = undue_more e x h k w.down u w.undue;
      unrecovered = λ r t. f r (or_case (is_enlist_by e.value r x) (has (is_enlist_by e.value r) h) (λ a. absurd (not_both (opens (Enl e) x) (enlist_opens e r x a) unopened)) (λ a. a) t);
      awaited = awaited_more e x h k w.standing u b w.awaited;
    }
  where
    unopened : opens (Enl e) x ≡ false
    unopened = unopened_again e x h k o

back_more : (e : EnlNo) (x : Entry) (h : List Entry) → Keeps (x ∷ h) → has (opens (Enl e)) h ≡ true → is_passing e x ≡ true → breaks_off e.value x ≡ false → is_told e.value x ≡ false → IsBack e h
    → IsBack e (x ∷ h)
unfolding coordinate follow
back_more e x h k o p b l w =
    back_beyond e x h k o (passing_unheard e x p) (passing_not_own e x p) b l (λ r t. ap (is_in r) (passing_unrecovering e x (coordinate h).recovered p) ∙ w.unrecovered r t) w

-- Who is back came back, and wasn't told or broken off.
pub back_returned : (e : ℕ) (h : List Entry) → is_back e h ≡ true → has (is_return e) h ≡ true
back_returned e [] t = absurd cc
back_returned e (x ∷ h) t =
    or_case (is_return e x) (is_back e h && (not (breaks_off e x) && not (is_told e x))) (λ a. or_left (is_return e x) (has (is_return e) h) a)
    (λ a. or_right (is_return e x) (has (is_return e) h) (back_returned e h (and_left (is_back e h) (not (breaks_off e x) && not (is_told e x)) a))) t

pub record WasBack (e : ℕ) (x : Entry) (h : List Entry) : Type 0 where
  pub before : is_back e h ≡ true
  pub unbroken : breaks_off e x ≡ false
  pub untold : is_told e x ≡ false

pub was_back : (e : ℕ) (x : Entry) (h : List Entry) → is_return e x ≡ false → is_back e (x ∷ h) ≡ true → WasBack e x h
was_back e x h n t =
    or_case (is_return e x) (is_back e h && (not (breaks_off e x) && not (is_told e x))) (λ a. absurd (not_both (is_return e x) a n))
    (λ a. let rest = and_right (is_back e h) (not (breaks_off e x) && not (is_told e x)) a in
    record {
      before = and_left (is_back e h) (not (breaks_off e x) && not (is_told e x)) a;
      unbroken = not_true (breaks_off e x) (and_left (not (breaks_off e x)) (not (is_told e x)) rest);
      untold = not_true (is_told e x) (and_right (not (breaks_off e x)) (not (is_told e x)) rest);
    }) t

pub back_entry : (e : EnlNo) (x : Entry) (h : List Entry) → Keeps (x ∷ h) → Keeps h → is_passing e x ≡ true → is_return e.value x ≡ false → (is_back e.value h ≡ true → IsBack e h) → is_back e.value (x ∷ h) ≡ true
    → IsBack e (x ∷ h)
back_entry e x h k past p n f t =
    let w = was_back e.value x h n t in
    back_more e x h k (opened_if_returned e h past (back_returned e.value h w.before)) p w.unbroken w.untold (f w.before)

-- At the end of a block: where nothing is on the way to or from it, nothing is decided that whoever comes back is told.
pub record IsAnswering (e : EnlNo) (h : List Entry) : Type 0 where
  pub back : IsBack e h
  pub heard : is_underway e h ≡ false → withholds (coordinate h).stage ≡ true

-- the entry may stand in a block after its first
abbrev pub is_lasting : EnlNo → Entry → Bool
is_lasting e (Got c d m) = false
is_lasting e (End c d) = false
is_lasting e Logged = false
is_lasting e LogFull = false
is_lasting e Freed = false
is_lasting e Stopped = false
is_lasting e (Restarted b) = false
is_lasting e (Reenlisted f) = not (e.value == f.value)
is_lasting e (Voted f v) = not (e.value == f.value)
is_lasting e (Acked f) = not (e.value == f.value)
is_lasting e (Recovered r) = false
is_lasting e _ = true

lasting_passing : (e : EnlNo) (x : Entry) → is_lasting e x ≡ true → is_passing e x ≡ true
lasting_passing e (Got c d m) p = absurd cc
lasting_passing e (Voted f v) p = p
lasting_passing e (Acked f) p = p
lasting_passing e (Recovered r) p = absurd cc
lasting_passing e _ p = refl

lasting_unreturned : (e : EnlNo) (x : Entry) → is_lasting e x ≡ true → is_return e.value x ≡ false
lasting_unreturned e (Reenlisted f) p = not_true (e.value == f.value) p
lasting_unreturned e _ p = refl

-- and leaves it so that it withholds
lasting_stage : (e : EnlNo) (k : Coordinated) (x : Entry) → is_lasting e x ≡ true → withholds (stage_after k x) ≡ withholds k.stage
lasting_stage e k (Got c d m) p = absurd cc
lasting_stage e k (End c d) p = absurd cc
lasting_stage e k Logged p = absurd cc
lasting_stage e k LogFull p = absurd cc
lasting_stage e k Freed p = absurd cc
lasting_stage e k (Restarted b) p = absurd cc
lasting_stage e k (Sent (Enl f) Down EnlistSingle) p = by k.stage
  where
    by : (s : Stage) → withholds (stage_if (is_sole s) Given s) ≡ withholds s
    by Sole = refl
    by _ = refl
lasting_stage e k _ p = refl

lasting_ungot : (e : EnlNo) (x : Entry) → is_lasting e x ≡ true → (c : Conn) (d : Dir) (m : Message) → x ≡ Got c d m → same_connection (Again e) c ≡ false
lasting_ungot e x p c d m q = let P : Entry → Type 0 = λ y. is_lasting e y ≡ true in let never : false ≡ true = subst P q p in absurd cc

-- a message down to it is sent
abbrev pub is_sent_to : EnlNo → Entry → Bool
is_sent_to e x = is_sent_on (Again e) Down (λ m. true) x

sent_there : (e : EnlNo) (x : Entry) (h : List Entry) → lost_since (Again e) h ≡ Some false → is_sent_to e x ≡ true → is_underway e (x ∷ h) ≡ true
sent_there e (Sent c Down m) h o t = sent_goes e c m h o (and_left (same_connection (Again e) c) true (and_left (same_connection (Again e) c && true) true t))
sent_there e (Sent c Up m) h o t = absurd (not_both (same_connection (Again e) c && false) (and_left (same_connection (Again e) c && false) true t) (and_never (same_connection (Again e) c)))
sent_there e _ h o t = absurd cc

-- while nothing is on the way, the coordinator withholds, or these entries send to it
abbrev pub IsReady : EnlNo → List Entry → List Entry → Type 0
IsReady e h es = is_underway e h ≡ false → (withholds (coordinate h).stage ≡ true) ⊎ (has (is_sent_to e) es ≡ true)

ready_more : (e : EnlNo) (x : Entry) (h es : List Entry) → is_lasting e x ≡ true → is_stopped h ≡ false → lost_since (Again e) h ≡ Some false → breaks_off e.value x ≡ false → IsReady e h (x ∷ es) → IsReady e (x ∷ h) es
unfolding coordinate follow
ready_more e x h es l s o b f u = by (is_underway e h) refl
  where
    after : (withholds (coordinate h).stage ≡ true) ⊎ (has (is_sent_to e) (x ∷ es) ≡ true) → (withholds (stage_after (coordinate h) x) ≡ true) ⊎ (has (is_sent_to e) es ≡ true)
    after (inl d) = inl (lasting_stage e (coordinate h) x l ∙ d)
    after (inr t) = or_case (is_sent_to e x) (has (is_sent_to e) es) (λ a. absurd (not_both (is_underway e (x ∷ h)) (sent_there e x h o a) u)) (λ a. inr a) t

    by : (q : Bool) → is_underway e h ≡ q → (withholds (stage_after (coordinate h) x) ≡ true) ⊎ (has (is_sent_to e) es ≡ true)
    by true q = absurd (not_both (is_underway e (x ∷ h)) (underway_more e x h s b (lasting_ungot e x l) q) u)
    by false q = after (f q)

pub block_answers : (e : EnlNo) (h es : List Entry) → each (is_lasting e) es ≡ true → Keeps (onto h es) → (is_back e.value h ≡ true → IsBack e h × IsReady e h es) → is_back e.value (onto h es) ≡ true
    → IsAnswering e (onto h es)
block_answers e h [] l k f t =
    let w = f t in
    record { back = w.0; heard = λ u. by (w.1 u) }
  where
    by : (withholds (coordinate h).stage ≡ true) ⊎ (has (is_sent_to e) [] ≡ true) → withholds (coordinate h).stage ≡ true
    by (inl d) = d
    by (inr a) = absurd cc
block_answers e h (x ∷ es) l k f t =
    let here = and_left (is_lasting e x) (each (is_lasting e) es) l in
    let now = keeps_within (x ∷ h) es k in
    let before = keeps_within h (x ∷ es) k in
    block_answers e (x ∷ h) es (and_right (is_lasting e x) (each (is_lasting e) es) l) k
    (λ b. let w = was_back e.value x h (lasting_unreturned e x here) b in
    let past = f w.before in
    (back_entry e x h now before (lasting_passing e x here) (lasting_unreturned e x here) (λ q. (f q).0) b, ready_more e x h es here past.0.standing past.0.awaited.opened w.unbroken past.1)) t

-- a block of such entries alone
pub lasting_answers : (e : EnlNo) (h es : List Entry) → each (is_lasting e) es ≡ true → Keeps (onto h es) → (is_back e.value h ≡ true → IsAnswering e h) → is_back e.value (onto h es) ≡ true
    → IsAnswering e (onto h es)
lasting_answers e h es l k f t = block_answers e h es l k (λ b. let w = f b in (w.back, λ u. inl (w.heard u))) t

-- a block whose first entry may decide
pub head_answers : (e : EnlNo) (x : Entry) (h es : List Entry) → is_passing e x ≡ true → is_return e.value x ≡ false → ((c : Conn) (d : Dir) (m : Message) → x ≡ Got c d m → same_connection (Again e) c ≡ false)
    → each (is_lasting e) es ≡ true → Keeps (onto (x ∷ h) es)
    → (withholds (coordinate h).stage ≡ true → withholds (coordinate (x ∷ h)).stage ≡ false → is_waiting_there e (x ∷ h) ≡ true → has (is_sent_to e) es ≡ true)
    → (is_back e.value h ≡ true → IsAnswering e h) → is_back e.value (onto (x ∷ h) es) ≡ true → IsAnswering e (onto (x ∷ h) es)
head_answers e x h es p n g l k d f t =
    let now = keeps_within (x ∷ h) es k in
    let past = keeps_within h (x ∷ es) k in
    block_answers e (x ∷ h) es l k
    (λ b. let w = was_back e.value x h n b in
    let back = back_entry e x h now past p n (λ q. (f q).back) b in
    (back, λ u. ready w (f w.before) back u)) t
  where
    ready : WasBack e.value x h → IsAnswering e h → IsBack e (x ∷ h) → IsReady e (x ∷ h) es
    ready w a b u = by (is_underway e h) refl
      where
        waits : is_waiting_there e (x ∷ h) ≡ true
        waits = or_case (is_underway e (x ∷ h)) (is_waiting_there e (x ∷ h)) (λ c. absurd (not_both (is_underway e (x ∷ h)) c u)) (λ c. c) b.awaited.way

        decided : (c : Bool) → withholds (coordinate (x ∷ h)).stage ≡ c → withholds (coordinate h).stage ≡ true → (withholds (coordinate (x ∷ h)).stage ≡ true) ⊎ (has (is_sent_to e) es ≡ true)
        decided true c v = inl c
        decided false c v = inr (d v c waits)

        by : (c : Bool) → is_underway e h ≡ c → (withholds (coordinate (x ∷ h)).stage ≡ true) ⊎ (has (is_sent_to e) es ≡ true)
        by true c = absurd (not_both (is_underway e (x ∷ h)) (underway_more e x h a.back.standing w.unbroken g c) u)
        by false c = decided (withholds (coordinate (x ∷ h)).stage) refl (a.heard c)
