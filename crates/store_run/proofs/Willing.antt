-- Where there is room for the records of all that have puts, each one of the manager's is willing.
use Rattle.std.proofs.Common.{ℕ, ◌≡◌, ◌==◌, ◌||◌, ◌&&◌, ◌+◌, ◌<◌, ◌≤◌, nat_lt, Bool, true, false, not, List, [], ◌∷◌, length, Option, Some, None, refl, sym, subst, ap, ◌∙◌, arith}
use Rattle.std.specs.Prelude.{if◌then◌else◌}
use Rattle.std.proofs.lemmas.Bool.{eq-eqb, eqb-true, or_left}
use Rattle.std.proofs.lemmas.Bool.Decides.{nat_tests}
use Rattle.outside.specs.Faults.{Rose}
use Rattle.dtx_values.specs.declared.entry.Entry.{Entry}
use Rattle.dtx_values.specs.declared.entry.Entry.TheVariants.{OwnerAnswered, PromoteReply, Requested, Told, Voted}
use Rattle.dtx_values.specs.declared.entry.Party.TheVariants.{Enl as Member}
use Rattle.dtx_values.specs.declared.entry.Request.{Request}
use Rattle.dtx_values.specs.declared.entry.Request.TheVariants.{Abort as RequestAbort, Commit as RequestCommit}
use Rattle.dtx_values.specs.declared.note.Note.{Note}
use Rattle.dtx_values.specs.declared.note.Note.TheVariants.{Hand, Prepare, Promote, Single}
use Rattle.dtx_values.specs.declared.note.Reply.TheVariants.{Owner, Vote as VoteReply}
use Rattle.dtx_values.specs.declared.number.EnlNo.{EnlNo}
use Rattle.dtx_values.specs.declared.number.RmNo.{RmNo}
use Rattle.dtx_values.specs.declared.number.TxNo.{TxNo}
use Rattle.dtx_values.specs.declared.script.Line.{Line}
use Rattle.dtx_values.specs.declared.trace.Place.TheVariants.{Context, Log, Transaction}
use Rattle.dtx_values.specs.declared.words.Outcome.{Outcome}
use Rattle.dtx_values.specs.declared.words.Outcome.TheVariants.{Aborted, Committed, InDoubt as DoubtOutcome}
use Rattle.dtx_values.specs.declared.words.Vote.{Vote}
use Rattle.dtx_values.specs.declared.words.Vote.TheVariants.{Done, Yes}
use Rattle.dtx_model.specs.Caused.{Manager, answers, is_volatile_in, same_vote}
use Rattle.dtx_model.specs.Entries.{is_any_owner, is_asked, is_decision, is_lost, is_owner, is_told, is_vote}
use Rattle.dtx_model.specs.Traces.{Placed, history}
use Rattle.dtx_model.specs.Words.{always, each, has, put}
use Rattle.dtx_model.proofs.Bools.{and_both, and_left, and_never, not_both, or_case, or_right}
use Rattle.heard_notes.specs.Heard.{HeardNote, IsHeardSo, Reaches, heard, heard_at}
use Rattle.heard_notes.specs.Tables.{AreWilling, expected_vote, has_puts, is_willing_reply}
use Rattle.heard_notes.specs.declared.put.Put.{Put}
use Rattle.history_table.proofs.EntryTests.{is_enlisted}
use Rattle.history_table.proofs.Keeping.{newest}
use Rattle.history_table.proofs.LetDecide.{owner_any}
use Rattle.history_table.proofs.Lists.{OfEach}
use Rattle.history_table.proofs.Table.{stands_volatile}
use Rattle.history_table.proofs.Tests.{eq_self, first_of_five}
use Rattle.kv_resource.specs.Store.{KvDraft, KvMemory, KvState, Pair, above_highest, has_draft, has_unmarked, is_draft_of, next_slot}
use Rattle.store_run.proofs.Acts.{Drafted, Gone, IsOf, Marked, Prepared, Status, answered, has_done, note_acts, seen, status, status_by}
use Rattle.store_run.proofs.Drafts.{is_put_of}
use Rattle.store_run.proofs.Dues.{is_owed}
use Rattle.store_run.proofs.Following.{GivesFirst, StandsBy, followed, given_smooth, is_drafted, owner_shown, vote_shown}
use Rattle.store_run.proofs.Laws.{no_vote, voted_once, voted_unowned, voted_untold, votes_no}
use Rattle.store_run.proofs.Lasting.{IsMadeBy}
use Rattle.store_run.proofs.Loading.{IsMade}
use Rattle.store_run.proofs.Standing.{AreLaws, drops_it, hears_abort, laws_before}

-- where a pair has a draft, there is a slot for it
drafted_some : (p : Pair) (ds : List KvDraft) → has (is_draft_of p) ds ≡ true → 1 ≤ length ds
drafted_some p [] t = absurd cc
drafted_some p (d ∷ ds) t = omega arith

drafted_room : (m : KvMemory) (p : Pair) → status m p ≡ Drafted → above_highest 0 m.slots 0 + length m.drafts ≤ 1024 → (k : ℕ) × (next_slot m.slots ≡ Some k)
drafted_room m p st le =
    let some = drafted_some p m.drafts (by (has_draft m p) (has_unmarked m p) (has_done m p) st) in
    let less : above_highest 0 m.slots 0 < 1024 = omega arith in
    (above_highest 0 m.slots 0, ap (λ b. if b then Some (above_highest 0 m.slots 0) else None) (test less))
  where
    by : (d u k : Bool) → status_by d u k ≡ Drafted → d ≡ true
    by true u k e = refl
    by false true k e = absurd cc
    by false false true e = absurd cc
    by false false false e = absurd cc

    test : above_highest 0 m.slots 0 < 1024 → nat_lt (above_highest 0 m.slots 0) 1024 ≡ true
    test lt = grind (arith, nat_tests)

-- the vote that is answered
vote_fits : (b : Bool) (st : Status) (next : Option ℕ) (v : Vote) → (st ≡ Drafted → (k : ℕ) × (next ≡ Some k)) → (b ≡ true → st ≡ Gone → ⊥) → (b ≡ false → st ≡ Gone) → answered st next Prepare ≡ Some (VoteReply v)
    → same_vote (expected_vote b) v ≡ true
vote_fits true Drafted (Some k) v f g h q = let is : Yes ≡ v = cc in subst (λ (x : Vote). same_vote Yes x ≡ true) is refl
vote_fits true Drafted None v f g h q = absurd (let r = (f refl).1 in cc)
vote_fits true Prepared next v f g h q = let is : Yes ≡ v = cc in subst (λ (x : Vote). same_vote Yes x ≡ true) is refl
vote_fits true Marked next v f g h q = let is : Yes ≡ v = cc in subst (λ (x : Vote). same_vote Yes x ≡ true) is refl
vote_fits true Gone next v f g h q = absurd (g refl refl)
vote_fits false Gone next v f g h q = let is : Done ≡ v = cc in subst (λ (x : Vote). same_vote Done x ≡ true) is refl
vote_fits false Drafted next v f g h q = absurd (let r = h refl in cc)
vote_fits false Prepared next v f g h q = absurd (let r = h refl in cc)
vote_fits false Marked next v f g h q = absurd (let r = h refl in cc)

-- the outcome that is answered
outcome_fits : (st : Status) (next : Option ℕ) (o : Outcome) → (st ≡ Drafted → (k : ℕ) × (next ≡ Some k)) → answered st next Hand ≡ Some (Owner o) → o ≡ Committed
outcome_fits Drafted (Some k) o f q = cc
outcome_fits Drafted None o f q = absurd (let r = (f refl).1 in cc)
outcome_fits Prepared next o f q = cc
outcome_fits Marked next o f q = cc
outcome_fits Gone next o f q = cc

-- who is asked to promote says yes, and who decides alone requests a commit
promote_fits : (s : List Line) (t : TxNo) (e : EnlNo) (ok : Bool) (st : Status) (next : Option ℕ) → IsHeardSo s (record { transaction = t; enlistment = e; note = Promote; entry = PromoteReply e ok }) (answered st next Promote) → ok ≡ true
promote_fits s t e ok Drafted next q = cc
promote_fits s t e ok Prepared next q = cc
promote_fits s t e ok Marked next q = cc
promote_fits s t e ok Gone next q = cc

request_fits : (s : List Line) (t : TxNo) (e : EnlNo) (q : Request) (st : Status) (next : Option ℕ) → IsHeardSo s (record { transaction = t; enlistment = e; note = Single; entry = Requested e q }) (answered st next Single) → q ≡ RequestCommit
request_fits s t e q Drafted next h = h
request_fits s t e q Prepared next h = h
request_fits s t e q Marked next h = h
request_fits s t e q Gone next h = h

-- who votes has dropped nothing
told_abort : (e : ℕ) (x : Entry) → hears_abort e x ≡ true → is_told e x ≡ true
told_abort e (Told (Member f) Aborted) k = k
told_abort e _ k = absurd cc

drop_cases : (e : ℕ) (h : List Entry) → has (drops_it e) h ≡ true → (has (is_told e) h ≡ true → ⊥) → (has (is_vote e) h ≡ true → ⊥) → (has (is_any_owner e) h ≡ true → ⊥) → ⊥
drop_cases e [] k a b c = cc
drop_cases e (x ∷ h) k a b c =
    or_case (drops_it e x) (has (drops_it e) h)
    (λ d. or_case (hears_abort e x) (votes_no e x || is_owner e Aborted x) (λ q. a (or_left (is_told e x) (has (is_told e) h) (told_abort e x q)))
    (λ q. or_case (votes_no e x) (is_owner e Aborted x) (λ w. b (or_left (is_vote e x) (has (is_vote e) h) (no_vote e x w))) (λ w. c (or_left (is_any_owner e x) (has (is_any_owner e) h) (owner_any e Aborted x w))) q) d)
    (λ d. drop_cases e h d (λ q. a (or_right (is_told e x) (has (is_told e) h) q)) (λ q. b (or_right (is_vote e x) (has (is_vote e) h) q)) (λ q. c (or_right (is_any_owner e x) (has (is_any_owner e) h) q))) k

voted_undropped : (s : List Line) (r : RmNo) (t : ℕ) (e : EnlNo) (v : Vote) (h : List Entry) → answers s (Manager r) e.value ≡ true → AreLaws s r t (Voted e v ∷ h) → has (drops_it e.value) h ≡ true → ⊥
voted_undropped s r t e v h own l d =
    let before = laws_before s r t (Voted e v) h l in
    drop_cases e.value h d
    (λ q. not_both (has (is_told e.value) h) q (voted_untold e v h l.keeps before.told (before.firm e.value own) (and_left (is_owed h (Voted e v)) (always is_owed h) l.owed)))
    (λ q. not_both (has (is_vote e.value) h) q (voted_once e v h l.keeps))
    (λ q. not_both (has (is_any_owner e.value) (Voted e v ∷ h)) q (voted_unowned e (Voted e v ∷ h) l.keeps (l.firm e.value own) (or_left (e.value == e.value) (has (is_vote e.value) h) (eq_self e.value))))

-- an enlistment's puts are the pair's
pub puts_of_pair : (s : List Line) (r : RmNo) (t e : ℕ) (ps : List Put) → OfEach (IsMade s r) ps → ((u : ℕ) → IsMadeBy s e u → u ≡ t) → has (is_put_of (t, e)) ps ≡ has_puts ps e
puts_of_pair s r t e [] g f = refl
puts_of_pair s r t e (q ∷ ps) g f = (λ i. by (e == q.enlistment.value) refl i || puts_of_pair s r t e ps g.1 f i)
  where
    by : (b : Bool) → (e == q.enlistment.value) ≡ b → ((t == q.transaction.value) && (e == q.enlistment.value)) ≡ (e == q.enlistment.value)
    by true w =
        let same : q.transaction.value ≡ t = f q.transaction.value (subst (λ n. IsMadeBy s n q.transaction.value) (sym (eqb-true e q.enlistment.value w)) g.0.0) in
        ap (λ b. b && (e == q.enlistment.value)) (eq-eqb t q.transaction.value (sym same))
    by false w = ap (λ b. (t == q.transaction.value) && b) w ∙ and_never (t == q.transaction.value) ∙ sym w

module _ (s : List Line) (r : RmNo) {D : Type 0} (honest : Bool) (image : D → List ℕ → Type 0) (faults : D → ℕ) (sure : (x y : D) → Rose (faults x) (faults y) → ⊥) (W : Pair → List (ℕ × ℕ)) (from : KvState D)
    (start : IsOf W from.memory) (begun : (e : EnlNo) (t : TxNo) → is_drafted (status from.memory (t.value, e.value)) ≡ false → status from.memory (t.value, e.value) ≡ Gone)
    (lasting : (e : ℕ) → answers s (Manager r) e ≡ true → is_volatile_in s e ≡ false) (ps : List Put) (made : OfEach (IsMade s r) ps)
    (drafted : (p : Pair) → is_drafted (status from.memory p) ≡ has (is_put_of p) ps) (room : above_highest 0 from.memory.slots 0 + length from.memory.drafts ≤ 1024) where
  -- what the store was where a note was heard
  record At (P : List Placed) (u : TxNo) (g : EnlNo) (n : Note) (x : Entry) : Type 0 where
    st : Status
    next : Option ℕ
    shown : IsHeardSo s (record { transaction = u; enlistment = g; note = n; entry = x }) (answered st next n)
    free : st ≡ Drafted → (k : ℕ) × (next ≡ Some k)
    stands : StandsBy (has (is_put_of (u.value, g.value)) ps) g.value (history u.value P) st

  at_note : (P : List Placed) (u : TxNo) (g : EnlNo) (n : Note) (x : Entry) (to : KvState D) → answers s (Manager r) g.value ≡ true → ((t : TxNo) → AreLaws s r t.value (history t.value P))
      → Reaches (GivesFirst honest image faults) s from (record { transaction = u; enlistment = g; note = n; entry = x } ∷ heard s (Manager r) P) to → At P u g n x
  at_note P u g n x to own laws q =
      let before = q.0 in
      let f = followed s r honest image faults sure W from start begun lasting P before laws q.2 in
      let pair : Pair = (u.value, g.value) in
      let given = given_smooth honest image faults sure before to u g n q.1 q.3 in
      let acts = note_acts before.memory pair f.of.up (seen W before.memory pair f.of) n in
      record {
        st = status before.memory pair;
        next = next_slot before.memory.slots;
        shown = subst (IsHeardSo s (record { transaction = u; enlistment = g; note = n; entry = x })) (given.0 ∙ acts.1) q.4;
        free = λ e. drafted_room before.memory pair e (f.room 1024 room);
        stands = subst (λ b. StandsBy b g.value (history u.value P) (status before.memory pair)) (drafted pair) (f.stands u g own);
      }

  -- the note of one of the manager's, where an entry shows one
  with_note : (P : List Placed) (u : TxNo) (g : EnlNo) (n : Note) (x : Entry) (to : KvState D) (C : Bool → Type 0) → C true → (answers s (Manager r) g.value ≡ true → At P u g n x → C (not (answers s (Manager r) g.value)))
      → ((t : TxNo) → AreLaws s r t.value (history t.value P))
      → Reaches (GivesFirst honest image faults) s from (put (if answers s (Manager r) g.value then Some (record { transaction = u; enlistment = g; note = n; entry = x }) else None) (heard s (Manager r) P)) to → C (not (answers s (Manager r) g.value))
  with_note P u g n x to C other own laws q = by (answers s (Manager r) g.value) refl q
    where
      by : (b : Bool) → answers s (Manager r) g.value ≡ b → Reaches (GivesFirst honest image faults) s from (put (if b then Some (record { transaction = u; enlistment = g; note = n; entry = x }) else None) (heard s (Manager r) P)) to
          → C (not (answers s (Manager r) g.value))
      by true e q = own e (at_note P u g n x to e laws q)
      by false e q = subst (λ b. C (not b)) (sym e) other

  or_so : (a b : Bool) → b ≡ true → (a || b) ≡ true
  or_so true b e = refl
  or_so false b e = e

  reply_willing : (t : TxNo) (x : Entry) (P : List Placed) (to : KvState D) → AreLaws s r t.value (x ∷ history t.value P) → ((t : TxNo) → AreLaws s r t.value (history t.value P))
      → Reaches (GivesFirst honest image faults) s from (heard s (Manager r) ((Transaction t, x) ∷ P)) to → is_willing_reply (answers s (Manager r)) ps x ≡ true
  reply_willing t (Voted e v) P to l laws q =
      with_note P t e Prepare (Voted e v) to (λ b. (b || same_vote (expected_vote (has_puts ps e.value)) v) ≡ true) refl (λ own a. or_so (not (answers s (Manager r) e.value)) _ (fits own a)) laws q
    where
      enlisted : has (is_enlisted e.value) (history t.value P) ≡ true
      enlisted =
          first_of_five (has (is_enlisted e.value) (history t.value P)) (has (is_asked e.value) (history t.value P)) (not (has (is_vote e.value) (history t.value P))) (not (has (is_lost e.value) (history t.value P)))
          (not (stands_volatile e.value (history t.value P) && has is_decision (history t.value P))) (newest (Voted e v) (history t.value P) l.keeps)

      same : has (is_put_of (t.value, e.value)) ps ≡ has_puts ps e.value
      same = puts_of_pair s r t.value e.value ps made (λ u m. (laws_before s r t.value (Voted e v) (history t.value P) l).made e.value u m enlisted)

      fits : answers s (Manager r) e.value ≡ true → At P t e Prepare (Voted e v) → same_vote (expected_vote (has_puts ps e.value)) v ≡ true
      fits own a =
          let stands = subst (λ b. StandsBy b e.value (history t.value P) a.st) same a.stands in
          vote_fits (has_puts ps e.value) a.st a.next v a.free (gone (has_puts ps e.value) a.st stands) (none (has_puts ps e.value) a.st stands) (vote_shown s t e v a.st a.next a.shown)
        where
          gone : (b : Bool) (st : Status) → StandsBy b e.value (history t.value P) st → b ≡ true → st ≡ Gone → ⊥
          gone true Gone k f g = voted_undropped s r t.value e v (history t.value P) own l k.1
          gone true Drafted k f g = cc
          gone true Prepared k f g = cc
          gone true Marked k f g = cc
          gone false st k f g = cc

          none : (b : Bool) (st : Status) → StandsBy b e.value (history t.value P) st → b ≡ false → st ≡ Gone
          none true st k f = absurd cc
          none false st k f = k
  reply_willing t (OwnerAnswered e Committed) P to l laws q = refl
  reply_willing t (OwnerAnswered e Aborted) P to l laws q =
      with_note P t e Hand (OwnerAnswered e Aborted) to (λ b. b ≡ true) refl (λ own a. absurd (let is = outcome_fits a.st a.next Aborted a.free (owner_shown s t e Aborted a.st a.next a.shown) in cc)) laws q
  reply_willing t (OwnerAnswered e DoubtOutcome) P to l laws q =
      with_note P t e Hand (OwnerAnswered e DoubtOutcome) to (λ b. b ≡ true) refl (λ own a. absurd (let is = outcome_fits a.st a.next DoubtOutcome a.free (owner_shown s t e DoubtOutcome a.st a.next a.shown) in cc)) laws q
  reply_willing t (PromoteReply e ok) P to l laws q =
      with_note P t e Promote (PromoteReply e ok) to (λ b. (b || ok) ≡ true) refl (λ own a. or_so (not (answers s (Manager r) e.value)) ok (promote_fits s t e ok a.st a.next a.shown)) laws q
  reply_willing t (Requested e RequestCommit) P to l laws q = refl
  reply_willing t (Requested e RequestAbort) P to l laws q =
      with_note P t e Single (Requested e RequestAbort) to (λ b. b ≡ true) refl (λ own a. absurd (let is = request_fits s t e RequestAbort a.st a.next a.shown in cc)) laws q
  reply_willing t _ P to l laws q = refl

  -- what is reached is reached from what was reached before the newest entry
  reached_before : (o : Option HeardNote) (hs : List HeardNote) (to : KvState D) → Reaches (GivesFirst honest image faults) s from (put o hs) to → (before : KvState D) × Reaches (GivesFirst honest image faults) s from hs before
  reached_before (Some h) hs to q = (q.0, q.2)
  reached_before None hs to q = (to, q)

  -- so all are
  pub all_willing : (P : List Placed) (to : KvState D) → ((t : TxNo) → AreLaws s r t.value (history t.value P)) → Reaches (GivesFirst honest image faults) s from (heard s (Manager r) P) to → AreWilling s (Manager r) ps P
  all_willing [] to l q t = refl
  all_willing ((Transaction u, x) ∷ P) to l q t =
      let before = reached_before (heard_at s (answers s (Manager r)) (Transaction u, x)) (heard s (Manager r) P) to q in
      by (t.value == u.value) refl (all_willing P before.0 (λ w. earlier w (w.value == u.value) (l w)) before.1 t)
    where
      earlier : (w : TxNo) (b : Bool) → AreLaws s r w.value (if b then x ∷ history w.value P else history w.value P) → AreLaws s r w.value (history w.value P)
      earlier w true g = laws_before s r w.value x (history w.value P) g
      earlier w false g = g

      here : (b : Bool) → b ≡ true → AreLaws s r u.value (if b then x ∷ history u.value P else history u.value P) → AreLaws s r u.value (x ∷ history u.value P)
      here true e g = g
      here false e g = absurd cc

      by : (b : Bool) → (t.value == u.value) ≡ b → each (is_willing_reply (answers s (Manager r)) ps) (history t.value P) ≡ true
          → each (is_willing_reply (answers s (Manager r)) ps) (if b then x ∷ history t.value P else history t.value P) ≡ true
      by true e k =
          and_both (is_willing_reply (answers s (Manager r)) ps x) (each (is_willing_reply (answers s (Manager r)) ps) (history t.value P))
          (reply_willing u x P to (here (u.value == u.value) (eq_self u.value) (l u)) (λ w. earlier w (w.value == u.value) (l w)) q) k
      by false e k = k
  all_willing ((Context a, x) ∷ P) to l q t = all_willing P to l q t
  all_willing ((Log, x) ∷ P) to l q t = all_willing P to l q t
