-- What stands at the end of each block of the connections that are opened: b and the voter's connection are opened once, an enlistment's after CREATED, and what the promotion
-- has to do with it; and which entries keep that.
use Rattle.std.proofs.Common.{◌≡◌, ◌≤◌, ◌⊎◌, inl, inr, ℕ, suc, ◌==◌, Bool, true, false, ◌&&◌, ◌||◌, List, [], ◌∷◌, filter, Option, Some, None, refl, sym, subst, ap, ◌∙◌, arith}
use Rattle.std.specs.Prelude.{not, if◌then◌else◌}
use Rattle.std.proofs.lemmas.Bool.{eqb-true, or_left}
use Rattle.dtx_values.specs.declared.entry.Ask.TheVariants.{Promote}
use Rattle.dtx_values.specs.declared.entry.Entry.{Entry}
use Rattle.dtx_values.specs.declared.entry.Entry.TheVariants.{Acked, Asked, Enlisted, Got, Promoted, Promoting, Reenlisted, Sent, Told}
use Rattle.dtx_values.specs.declared.entry.Party.TheVariants.{Enl as Member}
use Rattle.dtx_values.specs.declared.message.Conn.{Conn}
use Rattle.dtx_values.specs.declared.message.Conn.TheVariants.{Begin, Voter, Enl, Again}
use Rattle.dtx_values.specs.declared.message.Dir.TheVariants.{Up, Down}
use Rattle.dtx_values.specs.declared.message.Info.{Info}
use Rattle.dtx_values.specs.declared.message.Message.TheVariants.{BeginBegin, VoterVoter, EnlistEnlist, EnlistEnlisted, EnlistCommit, ReenlistCommitted}
use Rattle.dtx_values.specs.declared.number.EnlNo.{EnlNo}
use Rattle.dtx_values.specs.declared.number.RmNo.{RmNo}
use Rattle.dtx_values.specs.declared.row.Row.{Row}
use Rattle.dtx_values.specs.declared.words.Cause.{Cause}
use Rattle.dtx_values.specs.declared.words.Outcome.TheVariants.{Aborted}
use Rattle.dtx_values.specs.declared.words.Class.TheVariants.{Promotable}
use Rattle.dtx_values.specs.Class.{is_promotable}
use Rattle.dtx_values.specs.Lines.{is_opening}
use Rattle.dtx_values.specs.Owners.{lasting, only, owner_of}
use Rattle.dtx_values.specs.Row.{is_lasting, is_of}
use Rattle.dtx_values.specs.Table.{how_many}
use Rattle.dtx_model.specs.Entries.{is_promoted}
use Rattle.dtx_model.specs.Half.{is_handed}
use Rattle.dtx_model.specs.declared.branch.Branch.{Branch}
use Rattle.dtx_model.specs.Observed.{branch_acked, branch_aborted, branch_due, branch_enlisted, branch_number, branches, handover, is_ask_promote, is_branch, is_promote_reply, rows, with_branch}
use Rattle.dtx_model.specs.Outcome.{enlisted}
use Rattle.dtx_model.specs.Promotes.{is_begun_got, is_created_got, is_promoting}
use Rattle.dtx_model.specs.Wires.{opens, same_connection}
use Rattle.dtx_model.specs.Words.{each, has}
use Rattle.dtx_model.proofs.Bools.{and_both, and_left, and_never, and_right, not_both, not_true, or_case, or_first, or_right, or_second}
use Rattle.history_table.proofs.Owned.{has_filter}
use Rattle.history_table.proofs.Scans.{has_more}
use Rattle.dtx_model.proofs.Connections.{same_is}
use Rattle.history_table.proofs.Lists.{has-insert, has_kept}
use Rattle.history_table.proofs.Tests.{eq_self}
use Rattle.history_table.proofs.EntryTests.{is_enlisted}
use Rattle.history_table.proofs.TableRows.{enlisted_in_rows}
use Rattle.world_laws.proofs.SendingApt.{is_apt}

no : false ≡ true → ⊥
no e = absurd cc

-- nothing promotable was enlisted
abbrev pub is_unpromotable : List Entry → Bool
is_unpromotable h = each (λ x. not (is_promotable x.1)) (enlisted h)

-- b is opened after the promotion began, once, and by a promotable's answer or where there is no promotable; a promotable is asked to promote after it began
pub record BeginOpened (h : List Entry) : Type 0 where
  pub begun : has (opens Begin) h ≡ true → has is_promoting h ≡ true
  pub single : how_many (opens Begin) h ≤ 1
  pub bare : has (opens Begin) h ≡ true → has is_promote_reply h ≡ false → is_unpromotable h ≡ true
  pub asked : has is_ask_promote h ≡ true → has is_promoting h ≡ true

-- what stands of the enlistments' connections
pub record EnlistmentsOpened (h : List Entry) : Type 0 where
  -- an enlistment's connection is opened after CREATED, and before the promotion is over only that of the handover
  pub created : (e : EnlNo) → has (opens (Enl e)) h ≡ true → has is_created_got h ≡ true
  pub started : (e : EnlNo) → has (opens (Enl e)) h ≡ true → has is_promoting h ≡ true
  pub handed : (e : EnlNo) → has is_promoted h ≡ false → has (opens (Enl e)) h ≡ true → is_handed (handover h) e.value ≡ true
  -- the handover's enlistment stands
  pub owner : (e : EnlNo) → is_handed (handover h) e.value ≡ true → has (is_enlisted e.value) h ≡ true
  -- an enlistment's connection is opened once, and that of its reenlistment only where it is at the coordinator
  pub fresh : (e : EnlNo) → how_many (opens (Enl e)) h ≤ 1
  pub back : (e : EnlNo) → has (opens (Again e)) h ≡ true → has (is_branch e.value) (branches h) ≡ true

-- what stands of the connections and of the promotion
pub record Opened (h : List Entry) : Type 0 where
  pub on_begin : BeginOpened h
  -- v is opened once for each BEGUN
  pub voter : how_many (opens Voter) h ≤ how_many is_begun_got h
  pub on_enlistments : EnlistmentsOpened h
  -- the promotion is over after CREATED
  pub over : has is_promoted h ≡ true → has is_created_got h ≡ true
  pub going : has is_promoted h ≡ true → has is_promoting h ≡ true

-- before the first step
pub none_opened : Opened []
none_opened = record {
  on_begin = record { begun = λ k. absurd (no k); single = omega arith; bare = λ k n. refl; asked = λ k. absurd (no k) };
  voter = omega arith;
  on_enlistments =
      record {
        created = λ e k. absurd (no k);
        started = λ e k. absurd (no k);
        handed = λ e n k. absurd (no k);
        owner = λ e k. absurd (no k);
        fresh = λ e. omega arith;
        back = λ e k. absurd (no k);
      };
  over = λ k. absurd (no k);
  going = λ k. absurd (no k);
}

-- a connection of a reenlistment
abbrev pub is_again : Conn → Bool
is_again (Again e) = true
is_again _ = false

-- the connection is that of the reenlistment of one that is at the coordinator
abbrev pub comes_back : List Entry → Conn → Bool
comes_back h (Again e) = has (is_branch e.value) (branches h)
comes_back h _ = false

-- an entry that opens none of these but the last, begins or ends no promotion well, makes no promotable, and asks one to promote only where a promotion began
abbrev pub is_calm : List Entry → Entry → Bool
is_calm h (Sent c Up m) = comes_back h c || not (is_opening c m)
is_calm h (Enlisted e c) = not (is_promotable c)
is_calm h (Asked e Promote) = has is_promoting h
is_calm h (Promoting c) = false
is_calm h (Promoted u c) = false
is_calm h _ = true

-- an entry that may follow is calm
pub apt_calm : (h : List Entry) (x : Entry) → is_apt h x ≡ true → is_calm h x ≡ true
apt_calm h (Sent c Up m) k = or_right (comes_back h c) (not (is_opening c m)) (by _ (is_opening c m) _ k)
  where
    by : (v o s : Bool) → (v && not o && s) ≡ true → not o ≡ true
    by v o s k = and_right v (not o) (and_left (v && not o) s k)
apt_calm h (Enlisted e c) k = k
apt_calm h (Asked e Promote) k = k
apt_calm h (Promoting c) k = absurd (no k)
apt_calm h (Promoted u c) k = absurd (no k)
apt_calm h _ k = refl

shut : (c : Conn) → is_again c ≡ false → (h : List Entry) (x : Entry) → is_calm h x ≡ true → opens c x ≡ false
shut c a h (Sent e Up m) k = by c e a k
  where
    other : (c e : Conn) → not (is_opening e m) ≡ true → (same_connection c e && is_opening e m) ≡ false
    other c e k = ap (λ b. same_connection c e && b) (not_true (is_opening e m) k) ∙ and_never (same_connection c e)

    by : (c e : Conn) → is_again c ≡ false → (comes_back h e || not (is_opening e m)) ≡ true → (same_connection c e && is_opening e m) ≡ false
    by (Again f) (Again g) a k = absurd cc
    by Begin (Again g) a k = refl
    by Voter (Again g) a k = refl
    by (Enl f) (Again g) a k = refl
    by c Begin a k = other c Begin k
    by c Voter a k = other c Voter k
    by c (Enl f) a k = other c (Enl f) k
shut c a h (Sent e Down m) k = refl
shut c a h _ k = refl

calm_unpromoted : (h : List Entry) (x : Entry) → is_calm h x ≡ true → is_promoted x ≡ false
calm_unpromoted h (Promoted u c) k = absurd (no k)
calm_unpromoted h _ k = refl

calm_handover : (h : List Entry) (x : Entry) → is_calm h x ≡ true → handover (x ∷ h) ≡ handover h
calm_handover h (Promoting c) k = absurd (no k)
calm_handover h _ k = refl

calm_asked : (h : List Entry) (x : Entry) → is_calm h x ≡ true → is_ask_promote x ≡ true → has is_promoting h ≡ true
calm_asked h (Asked e Promote) k t = k
calm_asked h _ k t = absurd (no t)

calm_bare : (h : List Entry) (x : Entry) → is_calm h x ≡ true → is_unpromotable h ≡ true → is_unpromotable (x ∷ h) ≡ true
calm_bare h (Enlisted e c) k u = and_both (not (is_promotable c)) (is_unpromotable h) k u
calm_bare h _ k u = u

-- one that is at the coordinator stays there
with_stays : (f : ℕ) (e : EnlNo) (r : RmNo) (bs : List Branch) → has (is_branch f) bs ≡ true → has (is_branch f) (with_branch e r bs) ≡ true
with_stays f e r bs k =
    has-insert (is_branch f) branch_number (record { enlistment = e; manager = r; enlisted = false; aborted = false; acked = false; due = None }) (filter (λ b. not (is_branch e.value b)) bs)
    ∙ by (f == e.value) refl
  where
    other : (f == e.value) ≡ false → (cs : List Branch) → has (is_branch f) cs ≡ true → has (is_branch f) (filter (λ b. not (is_branch e.value b)) cs) ≡ true
    other q [] t = absurd (no t)
    other q (c ∷ cs) t = step (is_branch e.value c) refl (other q cs)
      where
        step : (b : Bool) → is_branch e.value c ≡ b → (has (is_branch f) cs ≡ true → has (is_branch f) (filter (λ b. not (is_branch e.value b)) cs) ≡ true)
            → has (is_branch f) (if not b then c ∷ filter (λ b. not (is_branch e.value b)) cs else filter (λ b. not (is_branch e.value b)) cs) ≡ true
        step true z ih =
            ih
            (or_case (f == c.enlistment.value) (has (is_branch f) cs)
            (λ a. absurd (not_both (f == e.value) (subst (λ n. (f == n) ≡ true) (sym (eqb-true e.value c.enlistment.value z)) a) q)) (λ a. a) t)
        step false z ih =
            or_case (f == c.enlistment.value) (has (is_branch f) cs) (λ a. or_left (f == c.enlistment.value) (has (is_branch f) (filter (λ b. not (is_branch e.value b)) cs)) a)
            (λ a. or_right (f == c.enlistment.value) (has (is_branch f) (filter (λ b. not (is_branch e.value b)) cs)) (ih a)) t

    by : (b : Bool) → (f == e.value) ≡ b → (b || has (is_branch f) (filter (λ b. not (is_branch e.value b)) bs)) ≡ true
    by true q = refl
    by false q = other q bs k

-- with any entry
pub branch_stays : (x : Entry) (h : List Entry) (f : ℕ) → has (is_branch f) (branches h) ≡ true → has (is_branch f) (branches (x ∷ h)) ≡ true
branch_stays (Sent (Enl e) Up (EnlistEnlist i)) h f k = with_stays f e i.rm (branches h) k
branch_stays (Got (Enl e) Down EnlistEnlisted) h f k = has_kept (is_branch f) (branch_enlisted e.value) (λ b. refl) (branches h) ∙ k
branch_stays (Got (Enl e) Down EnlistCommit) h f k = has_kept (is_branch f) (branch_due e.value (Some (Enl e))) (λ b. refl) (branches h) ∙ k
branch_stays (Got (Again e) Down ReenlistCommitted) h f k = has_kept (is_branch f) (branch_due e.value (Some (Again e))) (λ b. refl) (branches h) ∙ k
branch_stays (Told (Member e) Aborted) h f k = has_kept (is_branch f) (branch_aborted e.value) (λ b. refl) (branches h) ∙ k
branch_stays (Acked e) h f k = has_kept (is_branch f) (branch_acked e.value) (λ b. refl) (branches h) ∙ k
branch_stays (Reenlisted e) h f k = has_kept (is_branch f) (branch_due e.value None) (λ b. refl) (branches h) ∙ k
branch_stays x h f k = k

-- a connection of a reenlistment that a calm entry opens is of one that is there
back_there : (h : List Entry) (x : Entry) (e : EnlNo) → is_calm h x ≡ true → opens (Again e) x ≡ true → has (is_branch e.value) (branches h) ≡ true
back_there h (Sent (Again f) Up m) e k o =
    or_case (has (is_branch f.value) (branches h)) (not (is_opening (Again f) m))
    (λ t. subst (λ n. has (is_branch n) (branches h) ≡ true) (sym (eqb-true e.value f.value (and_left (e.value == f.value) (is_opening (Again f) m) o))) t)
    (λ t. absurd (not_both (is_opening (Again f) m) (and_right (e.value == f.value) (is_opening (Again f) m) o) (not_true (is_opening (Again f) m) t))) k
back_there h (Sent Begin Up m) e k o = absurd (no o)
back_there h (Sent Voter Up m) e k o = absurd (no o)
back_there h (Sent (Enl f) Up m) e k o = absurd (no o)
back_there h (Sent c Down m) e k o = absurd (no o)
back_there h _ e k o = absurd (no o)

-- where an entry fails a test, the history passes it as before
older : (p : Entry → Bool) (x : Entry) (h : List Entry) → p x ≡ false → has p (x ∷ h) ≡ true → has p h ≡ true
older p x h n k = or_case (p x) (has p h) (λ t. absurd (not_both (p x) t n)) (λ t. t) k

newer : (p : Entry → Bool) (x : Entry) (h : List Entry) → has p h ≡ true → has p (x ∷ h) ≡ true
newer p x h k = or_right (p x) (has p h) k

same_many : (p : Entry → Bool) (x : Entry) (h : List Entry) → p x ≡ false → how_many p (x ∷ h) ≡ how_many p h
same_many p x h n = rw n refl

more_many : (p : Entry → Bool) (x : Entry) (h : List Entry) → how_many p h ≤ how_many p (x ∷ h)
more_many p x h = by (p x)
  where
    by : (b : Bool) → how_many p h ≤ (if b then suc (how_many p h) else how_many p h)
    by true = omega arith
    by false = omega arith

-- an entry that doesn't open b keeps what stands of b
kept_begin : (x : Entry) (h : List Entry) → opens Begin x ≡ false → (is_unpromotable h ≡ true → is_unpromotable (x ∷ h) ≡ true) → (is_ask_promote x ≡ true → has is_promoting h ≡ true) → BeginOpened h → BeginOpened (x ∷ h)
kept_begin x h shut bare asked i = record {
  begun = λ t. newer is_promoting x h (i.begun (older (opens Begin) x h shut t));
  single = subst (λ n. n ≤ 1) (sym (same_many (opens Begin) x h shut)) i.single;
  bare = λ t n. bare (i.bare (older (opens Begin) x h shut t) (or_second (is_promote_reply x) (has is_promote_reply h) n));
  asked = λ t. newer is_promoting x h (or_case (is_ask_promote x) (has is_ask_promote h) asked i.asked t);
}

-- one that opens no enlistment's connection keeps what stands of them
kept_enlistments : (x : Entry) (h : List Entry) → ((e : EnlNo) → opens (Enl e) x ≡ false) → handover (x ∷ h) ≡ handover h → ((e : EnlNo) → opens (Again e) x ≡ true → has (is_branch e.value) (branches h) ≡ true)
    → EnlistmentsOpened h → EnlistmentsOpened (x ∷ h)
kept_enlistments x h shut same back i = record {
  created = λ e t. newer is_created_got x h (i.created e (older (opens (Enl e)) x h (shut e) t));
  started = λ e t. newer is_promoting x h (i.started e (older (opens (Enl e)) x h (shut e) t));
  handed = λ e n t. subst (λ o. is_handed o e.value ≡ true) (sym same) (i.handed e (or_second (is_promoted x) (has is_promoted h) n) (older (opens (Enl e)) x h (shut e) t));
  owner = λ e t. newer (is_enlisted e.value) x h (i.owner e (subst (λ o. is_handed o e.value ≡ true) same t));
  fresh = λ e. subst (λ n. n ≤ 1) (sym (same_many (opens (Enl e)) x h (shut e))) (i.fresh e);
  back = λ e t. branch_stays x h e.value (or_case (opens (Again e) x) (has (opens (Again e)) h) (back e) (i.back e) t);
}

-- a calm entry keeps what stands
pub calm_opened : (x : Entry) (h : List Entry) → is_calm h x ≡ true → Opened h → Opened (x ∷ h)
calm_opened x h k i = record {
  on_begin = kept_begin x h (shut Begin refl h x k) (calm_bare h x k) (calm_asked h x k) i.on_begin;
  voter = by (how_many (opens Voter) (x ∷ h)) (how_many (opens Voter) h) (how_many is_begun_got h) (how_many is_begun_got (x ∷ h)) (same_many (opens Voter) x h (shut Voter refl h x k)) i.voter (more_many is_begun_got x h);
  on_enlistments = kept_enlistments x h (λ e. shut (Enl e) refl h x k) (calm_handover h x k) (λ e t. back_there h x e k t) i.on_enlistments;
  over = λ t. newer is_created_got x h (i.over (older is_promoted x h (calm_unpromoted h x k) t));
  going = λ t. newer is_promoting x h (i.going (older is_promoted x h (calm_unpromoted h x k) t));
}
  where
    by : (u v z w : ℕ) → u ≡ v → v ≤ z → z ≤ w → u ≤ w
    by u v z w e p q = omega (arith, e, p, q)

-- The entries that open one, begin the promotion or end it well, and a promotable.
pub none_many : (p : Entry → Bool) (h : List Entry) → has p h ≡ false → how_many p h ≡ 0
none_many p [] n = refl
none_many p (x ∷ h) n = same_many p x h (or_first (p x) (has p h) n) ∙ none_many p h (or_second (p x) (has p h) n)

-- BEGIN is sent for the first time
pub begin_opened : (h : List Entry) → has (opens Begin) h ≡ false → has is_promoting h ≡ true → ((has is_promote_reply h ≡ true) ⊎ (is_unpromotable h ≡ true)) → Opened h
    → Opened (Sent Begin Up BeginBegin ∷ h)
begin_opened h n s p i = record {
  on_begin =
      record {
        begun = λ t. s;
        single = by (how_many (opens Begin) h) (none_many (opens Begin) h n);
        bare = λ t u. elim p as (λ z. is_unpromotable h ≡ true) [ inl r ↦ absurd (not_both (has is_promote_reply h) r u) | inr q ↦ q ];
        asked = i.on_begin.asked;
      };
  voter = i.voter;
  on_enlistments = kept_enlistments (Sent Begin Up BeginBegin) h (λ f. refl) refl (λ f t. absurd (no t)) i.on_enlistments;
  over = i.over;
  going = i.going;
}
  where
    by : (k : ℕ) → k ≡ 0 → suc k ≤ 1
    by k e = omega (arith, e)

-- one that passes counts
pub some_many : (p : Entry → Bool) (h : List Entry) → has p h ≡ true → 1 ≤ how_many p h
some_many p [] k = absurd (no k)
some_many p (x ∷ h) k = step (p x) (some_many p h) k
  where
    step : (b : Bool) → (has p h ≡ true → 1 ≤ how_many p h) → (b || has p h) ≡ true → 1 ≤ (if b then suc (how_many p h) else how_many p h)
    step true f k = omega arith
    step false f k = f k

-- VOTER is sent for the first time, after BEGUN
pub voter_opened : (h : List Entry) (u : ℕ) → has (opens Voter) h ≡ false → has is_begun_got h ≡ true → Opened h → Opened (Sent Voter Up (VoterVoter u) ∷ h)
voter_opened h u n b i = record {
  on_begin = kept_begin (Sent Voter Up (VoterVoter u)) h refl (λ u. u) (λ a. absurd (no a)) i.on_begin;
  voter = by (how_many (opens Voter) h) (how_many is_begun_got h) (none_many (opens Voter) h n) (some_many is_begun_got h b);
  on_enlistments = kept_enlistments (Sent Voter Up (VoterVoter u)) h (λ f. refl) refl (λ f t. absurd (no t)) i.on_enlistments;
  over = i.over;
  going = i.going;
}
  where
    by : (k m : ℕ) → k ≡ 0 → 1 ≤ m → suc k ≤ m
    by k m e p = omega (arith, e, p)

-- ENLIST is sent after CREATED, of the handover where the promotion isn't over
pub enlist_opened : (h : List Entry) (e : EnlNo) (m : Info) → has (opens (Enl e)) h ≡ false → has is_created_got h ≡ true → has is_promoting h ≡ true → (has is_promoted h ≡ false → is_handed (handover h) e.value ≡ true) → Opened h
    → Opened (Sent (Enl e) Up (EnlistEnlist m) ∷ h)
enlist_opened h e m new c s o i = record {
  on_begin = kept_begin (Sent (Enl e) Up (EnlistEnlist m)) h refl (λ u. u) (λ a. absurd (no a)) i.on_begin;
  voter = i.voter;
  on_enlistments =
      record {
        created = λ f t. c;
        started = λ f t. s;
        handed =
            λ f n t. or_case ((f.value == e.value) && true) (has (opens (Enl f)) h)
            (λ q. subst (λ k. is_handed (handover h) k ≡ true) (sym (eqb-true f.value e.value (and_left (f.value == e.value) true q))) (o n)) (λ q. i.on_enlistments.handed f n q) t;
        owner = i.on_enlistments.owner;
        fresh = λ f. once f (f.value == e.value) refl (i.on_enlistments.fresh f);
        back = λ f t. branch_stays (Sent (Enl e) Up (EnlistEnlist m)) h f.value (i.on_enlistments.back f t);
      };
  over = i.over;
  going = i.going;
}
  where
    once : (f : EnlNo) (b : Bool) → (f.value == e.value) ≡ b → how_many (opens (Enl f)) h ≤ 1 → (if b && true then suc (how_many (opens (Enl f)) h) else how_many (opens (Enl f)) h) ≤ 1
    once f true q k =
        let P : Conn → Type 0 = λ c. has (opens c) h ≡ false in
        let none = none_many (opens (Enl f)) h (subst P (sym (same_is (Enl f) (Enl e) q)) new) in omega (arith, none)
    once f false q k = k

-- the owner has a row
owner_row : (xs : List Row) (e : EnlNo) → owner_of xs ≡ Some e → has (is_of e.value) xs ≡ true
unfolding owner_of
owner_row xs e o =
    has_more (λ x. is_of e.value x && is_lasting x) (is_of e.value) (λ x t. and_left (is_of e.value x) (is_lasting x) t) xs
    (sym (has_filter (is_of e.value) is_lasting xs) ∙ by (lasting xs) o)
  where
    by : (ys : List Row) → only ys ≡ Some e → has (is_of e.value) ys ≡ true
    by [] o = absurd cc
    by (x ∷ []) o = let same : x.number ≡ e = cc in subst (λ (n : EnlNo). ((e.value == n.value) || false) ≡ true) (sym same) (rw (eq_self e.value) refl)
    by (x ∷ y ∷ ys) o = absurd cc

-- the promotion begins, for the first time
pub start_opened : (h : List Entry) (c : Cause) → has is_promoting h ≡ false → Opened h → Opened (Promoting c ∷ h)
start_opened h c n i = record {
  on_begin = kept_begin (Promoting c) h refl (λ u. u) (λ a. absurd (no a)) i.on_begin;
  voter = i.voter;
  on_enlistments =
      record {
        created = i.on_enlistments.created;
        started = λ e t. refl;
        handed = λ e u t. absurd (not_both (has is_promoting h) (i.on_enlistments.started e t) n);
        owner = λ e t. by e (owner_of (rows h)) refl t;
        fresh = i.on_enlistments.fresh;
        back = i.on_enlistments.back;
      };
  over = i.over;
  going = λ t. refl;
}
  where
    by : (e : EnlNo) (o : Option EnlNo) → owner_of (rows h) ≡ o → is_handed o e.value ≡ true → has (is_enlisted e.value) h ≡ true
    by e None q t = absurd (no t)
    by e (Some f) q t =
        sym (enlisted_in_rows e.value h) ∙ subst (λ k. has (is_of k) (rows h) ≡ true) (sym (eqb-true e.value f.value t)) (owner_row (rows h) f q)

-- the promotion is over, after CREATED
pub over_opened : (h : List Entry) (u : ℕ) (c : Cause) → has is_created_got h ≡ true → has is_promoting h ≡ true → Opened h → Opened (Promoted u c ∷ h)
over_opened h u c g s i = record {
  on_begin = kept_begin (Promoted u c) h refl (λ u. u) (λ a. absurd (no a)) i.on_begin;
  voter = i.voter;
  on_enlistments = kept_enlistments (Promoted u c) h (λ f. refl) refl (λ f t. absurd (no t)) i.on_enlistments;
  over = λ t. g;
  going = λ t. s;
}

-- a promotable is made where b wasn't opened
pub promotable_opened : (h : List Entry) (e : EnlNo) → has (opens Begin) h ≡ false → Opened h → Opened (Enlisted e Promotable ∷ h)
promotable_opened h e n i = record {
  on_begin = record { begun = i.on_begin.begun; single = i.on_begin.single; bare = λ t u. absurd (not_both (has (opens Begin) h) t n); asked = i.on_begin.asked };
  voter = i.voter;
  on_enlistments = kept_enlistments (Enlisted e Promotable) h (λ f. refl) refl (λ f t. absurd (no t)) i.on_enlistments;
  over = i.over;
  going = i.going;
}
