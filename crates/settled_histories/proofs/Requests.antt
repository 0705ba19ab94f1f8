-- In each world that steps made one promotable at most was enlisted; and COMMIT was sent where a promotable had requested it, or none stood, and never where a promotable requested an abort.
use Rattle.std.proofs.Common.{◌≡◌, ◌==◌, ℕ, Bool, true, false, if◌then◌else◌, ◌&&◌, ◌||◌, inl, inr, List, [], ◌∷◌, Some, refl, ◌∙◌, ap, sym, subst}
use Rattle.std.specs.Prelude.{filter, is_some, not}
use Rattle.std.proofs.lemmas.Bool.{eqb-true, false_from_ne_true, or_left}
use Rattle.dtx_values.specs.declared.call.Call.{Call}
use Rattle.dtx_values.specs.declared.call.Call.TheVariants.{Promotable as PromotableCall}
use Rattle.dtx_values.specs.declared.entry.Entry.{Entry}
use Rattle.dtx_values.specs.declared.entry.Entry.TheVariants.{Called, Enlisted, Got, Init, Requested, Sealed, Sent}
use Rattle.dtx_values.specs.declared.entry.Request.TheVariants.{Abort}
use Rattle.dtx_values.specs.declared.message.Conn.TheVariants.{Begin, Enl}
use Rattle.dtx_values.specs.declared.message.Dir.TheVariants.{Up, Down}
use Rattle.dtx_values.specs.declared.message.Message.{Message}
use Rattle.dtx_values.specs.declared.message.Message.TheVariants.{BeginAbort, BeginCommit, BeginCommitOne}
use Rattle.dtx_values.specs.declared.note.Note.TheVariants.{Single}
use Rattle.dtx_values.specs.declared.number.ActorNo.{ActorNo}
use Rattle.dtx_values.specs.declared.number.EnlNo.{EnlNo}
use Rattle.dtx_values.specs.declared.words.Class.{Class}
use Rattle.dtx_values.specs.declared.words.Class.TheVariants.{One, Promotable, Zero}
use Rattle.dtx_values.specs.declared.words.Outcome.{Outcome}
use Rattle.dtx_values.specs.declared.words.Outcome.TheVariants.{Committed, Aborted, InDoubt}
use Rattle.dtx_values.specs.Class.{is_promotable, is_volatile}
use Rattle.dtx_values.specs.Ends.{knows, same_connection}
use Rattle.dtx_model.specs.Words.{always, each, has, onto}
use Rattle.dtx_model.specs.Entries.{is_call, is_decision, is_promoted, is_sealed}
use Rattle.dtx_model.specs.Observed.{Observed, is_request, observe}
use Rattle.dtx_model.specs.Outcome.{durables, enlisted, is_empty}
use Rattle.dtx_model.specs.Promotes.{is_promoting}
use Rattle.dtx_model.specs.Wires.{MayCross, WireRun, opens}
use Rattle.dtx_model.specs.Half.{Half, to_up}
use Rattle.dtx_model.specs.Acts.{commit_message, commit_sent, promotable_in}
use Rattle.dtx_model.specs.Facts.{facts_if, has_facts}
use Rattle.dtx_model.specs.Replies.{due_of, request_message, request_of}
use Rattle.dtx_model.specs.World.{World, answer_at, half}
use Rattle.dtx_model.specs.Steps.{Step, Calls, after, block_at}
use Rattle.dtx_model.specs.Caused.{AreMadeOnce, MayCome, Ran}
use Rattle.dtx_model.proofs.Bools.{and_both, and_left, and_never, and_right, not_both, not_false, not_true, or_case, or_false, or_right}
use Rattle.history_table.proofs.Tests.{fourth_of_five}
use Rattle.history_table.proofs.Scans.{has_more}
use Rattle.history_table.proofs.EntryTests.{is_enlisted, has_promotable}
use Rattle.history_table.proofs.Table.{class_row, is_abort_request, is_abort_sent, is_enlist_got, is_lone_owner, is_opening_got, is_promotable_of, may_commit, rule, stands_promotable}
use Rattle.history_table.proofs.Keeping.{Keeps, before, keeps_before, newest}
use Rattle.history_table.proofs.Standing.{opened_if_got}
use Rattle.history_table.proofs.HalfOwner.{enlist_opening}
use Rattle.history_table.proofs.WorldCalls.{makes_new}
use Rattle.history_table.proofs.Handing.{keeps_within}
use Rattle.history_table.proofs.Messages.{COMMIT}
use Rattle.settled_histories.proofs.Onto.{stood_before}
use Rattle.history_table.proofs.BareBlocks.{Requests, Seals}
use Rattle.settled_histories.proofs.RequestBlocks.{BlockKind, block_kind, humble_block, is_humble, is_meek, request_passes, seal_passes}
use Rattle.history_table.proofs.Asking.{IsAsking, is_commit_sent, lone_there, request_owed}
use Rattle.history_table.proofs.Steady.{run_stands}
use Rattle.history_table.proofs.Crossed.{is_got_on, is_sent_on}
use Rattle.settled_histories.proofs.BeforeRows.{row_of}
use Rattle.settled_histories.proofs.Counted.{got_first, is_once}
use Rattle.settled_histories.proofs.Rest.{is_once_committed}

-- a promotable is enlisted where none is
abbrev pub is_alone : List Entry → Entry → Bool
is_alone h (Enlisted e c) = not (is_promotable c) || not (has_promotable h)
is_alone h _ = true

-- one promotable at most was enlisted
pub record IsLone (h : List Entry) : Type 0 where
  pub alone : always is_alone h ≡ true

-- where a promotable was enlisted COMMIT was sent only where it was requested, and never where an abort was; and it was sent once at most
pub record IsRequesting (h : List Entry) : Type 0 where
  pub asked : has (is_sent_on Begin Up COMMIT) h ≡ true → has_promotable h ≡ true → has is_request h ≡ true
  pub apart : has is_abort_request h ≡ true → has (is_sent_on Begin Up COMMIT) h ≡ false
  pub once : always (is_once (is_sent_on Begin Up COMMIT)) h ≡ true

-- two promotables are one
pub promotable_stands : (e : ℕ) (h : List Entry) → stands_promotable e h ≡ true → has_promotable h ≡ true
promotable_stands e h t = has_more (is_promotable_of e) (λ x. is_promotable x.1) (λ x a. and_right (e == x.0.value) (is_promotable x.1) a) (enlisted h) t

pub lone_same : (e f : ℕ) (h : List Entry) → always is_alone h ≡ true → stands_promotable e h ≡ true → stands_promotable f h ≡ true → e ≡ f
lone_same e f [] a s t = absurd cc
lone_same e f (Enlisted g c ∷ h) a s t =
    let past = and_right (is_alone h (Enlisted g c)) (always is_alone h) a in
    or_case ((e == g.value) && is_promotable c) (stands_promotable e h)
    (λ p. or_case ((f == g.value) && is_promotable c) (stands_promotable f h)
    (λ q. eqb-true e g.value (and_left (e == g.value) (is_promotable c) p) ∙ sym (eqb-true f g.value (and_left (f == g.value) (is_promotable c) q)))
    (λ q. absurd (none (and_right (e == g.value) (is_promotable c) p) (promotable_stands f h q))) t)
    (λ p. or_case ((f == g.value) && is_promotable c) (stands_promotable f h) (λ q. absurd (none (and_right (f == g.value) (is_promotable c) q) (promotable_stands e h p))) (λ q. lone_same e f h past p q) t) s
  where
    none : is_promotable c ≡ true → has_promotable h ≡ true → ⊥
    none p q =
        or_case (not (is_promotable c)) (not (has_promotable h)) (λ a. not_both (is_promotable c) p (not_true (is_promotable c) a)) (λ a. not_both (has_promotable h) q (not_true (has_promotable h) a))
        (and_left (is_alone h (Enlisted g c)) (always is_alone h) a)
lone_same e f (x ∷ h) a s t = lone_same e f h (and_right (is_alone h x) (always is_alone h) a) s t

-- an entry that enlists no promotable, and a block of such
humble_alone : (x : Entry) (h : List Entry) → is_humble x ≡ true → is_alone h x ≡ true
humble_alone (Enlisted e c) h t = or_left (not (is_promotable c)) (not (has_promotable h)) t
humble_alone _ h t = refl

humble_lone : (h es : List Entry) → each is_humble es ≡ true → always is_alone h ≡ true → always is_alone (onto h es) ≡ true
humble_lone h [] k a = a
humble_lone h (x ∷ es) k a =
    humble_lone (x ∷ h) es (and_right (is_humble x) (each is_humble es) k) (and_both (is_alone h x) (always is_alone h) (humble_alone x h (and_left (is_humble x) (each is_humble es) k)) a)

-- A promotable's call: its own connection wasn't opened, so nothing durable or promotable stood.
none_lasting : (xs : List (EnlNo × Class)) → is_empty (filter (λ x. not (is_volatile x.1)) xs) ≡ true → has (λ x. is_promotable x.1) xs ≡ false
none_lasting [] k = refl
none_lasting (x ∷ xs) k = step x.1 (filter (λ x. not (is_volatile x.1)) xs) (has (λ x. is_promotable x.1) xs) (λ q. none_lasting xs q) k
  where
    step : (c : Class) (ys : List (EnlNo × Class)) (b : Bool) → (is_empty ys ≡ true → b ≡ false) → is_empty (if not (is_volatile c) then x ∷ ys else ys) ≡ true → (is_promotable c || b) ≡ false
    step Zero ys b f k = f k
    step One ys b f k = f k
    step _ ys b f k = absurd cc

first_promotable : (h : List Entry) (e : EnlNo) → Keeps (Enlisted e Promotable ∷ h) → has (opens (Enl e)) h ≡ false → has_promotable h ≡ false
first_promotable h e k n =
    let row : class_row h e.value Promotable ≡ true =
    fourth_of_five (not (has is_decision h)) (not (has is_sealed h)) (not (has (is_enlisted e.value) h)) (class_row h e.value Promotable) (not (is_volatile Promotable && has (opens (Enl e)) h)) (newest (Enlisted e Promotable) h k) in
    none_lasting (enlisted h)
    (step (has (is_enlist_got e.value) h) (not (has is_promoting h)) (is_empty (durables h))
    (λ g. not_both (has (opens (Enl e)) h) (opened_if_got (Enl e) h (keeps_before (Enlisted e Promotable) h k) (has_more (is_enlist_got e.value) (is_opening_got (Enl e)) (enlist_opening e) h g)) n) row)
  where
    step : (g p n : Bool) → (g ≡ true → ⊥) → (false || g || (p && true && n)) ≡ true → n ≡ true
    step true p n f k = absurd (f refl)
    step false true n f k = and_right true n k
    step false false n f k = absurd cc

promotable_lone : (e : EnlNo) (h : List Entry) (b : Bool) → has (opens (Enl e)) h ≡ false → Keeps (onto h (facts_if b (Enlisted e Promotable ∷ Init e ∷ []))) → always is_alone h ≡ true
    → always is_alone (onto h (facts_if b (Enlisted e Promotable ∷ Init e ∷ []))) ≡ true
promotable_lone e h true n k a = and_both (not (has_promotable h)) (always is_alone h) (not_false (has_promotable h) (first_promotable h e (keeps_before (Init e) (Enlisted e Promotable ∷ h) k) n)) a
promotable_lone e h false n k a = a

step_lone : (t : ℕ) (w : World) (m : Step) → ((n : ℕ) (a : ActorNo) (c : Call) (j : ℕ) → m ≡ Calls n a c j → makes_new w.past c ≡ true) → Keeps (after t w m).past → IsLone w.past → IsLone (after t w m).past
unfolding after block_at
step_lone t w m new k l = record { alone = by m new k }
  where
    by : (m : Step) → ((n : ℕ) (a : ActorNo) (c : Call) (j : ℕ) → m ≡ Calls n a c j → makes_new w.past c ≡ true) → Keeps (onto w.past (block_at t w m)) → always is_alone (onto w.past (block_at t w m)) ≡ true
    by (Calls n a (PromotableCall u e r v o p) j) new k =
        let x = answer_at t w (PromotableCall u e r v o p) j in
        promotable_lone e (Called n a x ∷ w.past) (has_facts x)
        (not_true (has (opens (Enl e)) w.past) (and_right (not (has (is_enlisted e.value) w.past)) (not (has (opens (Enl e)) w.past)) (new n a (PromotableCall u e r v o p) j refl))) k l.alone
    by m new k = humble_lone w.past (block_at t w m) (humble_block t w m refl).proof l.alone

-- so it is in each world that steps made
pub ran_alone : (G : ℕ → ActorNo → Call → Type 0) (t : ℕ) (ms : List Step) (w : World) → AreMadeOnce G → Ran G t ms w → Keeps w.past → IsLone w.past
unfolding after
ran_alone G t [] w once r k = subst IsLone (sym r.1) (record { alone = refl })
ran_alone G t (m ∷ ms) w once r k =
    let v = r.0 in
    let now = subst (λ (x : World). Keeps x.past) r.3 k in
    let past = keeps_within v.past (block_at t v m) now in
    subst (λ (x : World). IsLone x.past) (sym r.3) (step_lone t v m (made m r.2 (run_stands G t ms v once r.1 past.ties).steady.new) now (ran_alone G t ms v once r.1 past))
  where
    made : (m : Step) → MayCome G t r.0 m → ((n : ℕ) (a : ActorNo) (c : Call) → G n a c → has (is_call n) r.0.past ≡ false → makes_new r.0.past c ≡ true)
        → (n : ℕ) (a : ActorNo) (c : Call) (j : ℕ) → m ≡ Calls n a c j → makes_new r.0.past c ≡ true
    made m q f n a c j e = let z = subst (MayCome G t r.0) e q in f n a c z.0 z.1

-- No COMMIT where an abort was requested. Such a block keeps it.
meek_uncommit : (x : Entry) → is_meek x ≡ true → is_commit_sent x ≡ false
meek_uncommit (Sent c Up m) t = ap (λ b. same_connection Begin c && true && b) (not_true (COMMIT m) t) ∙ and_never (same_connection Begin c && true)
meek_uncommit (Sent c Down m) t = down (same_connection Begin c) (COMMIT m)
  where
    down : (a b : Bool) → (a && false && b) ≡ false
    down true b = refl
    down false b = refl
meek_uncommit _ t = refl

meek_unrequested : (x : Entry) → is_meek x ≡ true → is_abort_request x ≡ false
meek_unrequested (Requested e r) t = absurd cc
meek_unrequested _ t = refl

abbrev IsApart : List Entry → Type 0
IsApart h = has is_abort_request h ≡ true → has is_commit_sent h ≡ false

meek_apart : (h es : List Entry) → each is_meek es ≡ true → IsApart h → IsApart (onto h es)
meek_apart h es k i =
    λ a. false_from_ne_true (has is_commit_sent (onto h es))
    (λ s. not_both (has is_commit_sent h) (stood_before is_commit_sent is_meek meek_uncommit h es k s) (i (stood_before is_abort_request is_meek meek_unrequested h es k a)))

-- an abort is requested after the seal
request_sealed : (x : Entry) (h : List Entry) → Keeps h → rule h x ≡ true → is_abort_request x ≡ true → has is_sealed h ≡ true
request_sealed (Requested e Abort) h k r t = third (not (has is_decision h)) (has is_promoted h) (has is_sealed h) _ r
  where
    third : (a b c d : Bool) → (a && b && c && d) ≡ true → c ≡ true
    third a b c d k = and_right (a && b) c (and_left (a && b && c) d k)
request_sealed _ h k r t = absurd cc

-- the entry requests no abort, or sends no COMMIT
abbrev is_unaborting : Entry → Bool
is_unaborting x = not (is_abort_request x)

abbrev is_uncommitting : Entry → Bool
is_uncommitting x = not (is_commit_sent x)

seal_apart : (h : List Entry) (v : Half) (es : List Entry) → v.seen ≡ observe h → Keeps h → Seals v es → IsApart (onto h es)
unfolding observe
seal_apart h v es q k s =
    let S : Observed → Type 0 = λ o. o.sealed ≡ false in
    let P : List Entry → Type 0 = λ es. IsApart (onto h es) in
    subst P (sym s.1)
    (λ a. absurd (not_both (has is_sealed h)
    (before is_abort_request is_sealed request_sealed h k
    (stood_before is_abort_request is_unaborting (λ x t. not_true (is_abort_request x) t) h (Sealed ∷ commit_sent v.seen) (seal_passes is_unaborting refl (λ m t. refl) v.seen) a)) (subst S q s.0)))

abort_is_request : (x : Entry) → is_abort_request x ≡ true → is_request x ≡ true
abort_is_request (Requested e Abort) t = refl
abort_is_request _ t = absurd cc

requests_apart : (h : List Entry) (v : Half) (e : EnlNo) (es : List Entry) → v.seen ≡ observe h → Keeps h → IsAsking h → Requests v e es → IsApart (onto h es)
requests_apart h v e es q k i s =
    let P : List Entry → Type 0 = λ es. IsApart (onto h es) in
    let D : Observed → Type 0 = λ o. due_of o e.value ≡ Some Single in
    let owes = request_owed h e.value s.0 (subst D q s.1) in
    subst P (sym s.2) (by s.0 owes.0 (unsent owes.0 owes.1))
  where
    unsent : has is_request h ≡ false → has_promotable h ≡ true → has is_commit_sent h ≡ false
    unsent r p =
        false_from_ne_true (has is_commit_sent h)
        (λ a. or_case (has is_request h) (not (has_promotable h)) (λ b. not_both (has is_request h) b r) (λ b. not_both (has_promotable h) p (not_true (has_promotable h) b)) (lone_there h k i.lone a))

    committed : (x : Entry) (m : Message) → is_abort_request x ≡ false → has is_request h ≡ false → IsApart (onto h (x ∷ to_up v.seen Begin m))
    committed x m n r = λ a.
        absurd (not_both (has is_request h)
        (has_more is_abort_request is_request abort_is_request h
        (stood_before is_abort_request is_unaborting (λ x t. not_true (is_abort_request x) t) h (x ∷ to_up v.seen Begin m) (request_passes is_unaborting x m (not_false (is_abort_request x) n) refl v.seen) a)) r)

    by : (x : Outcome) → has is_request h ≡ false → has is_commit_sent h ≡ false → IsApart (onto h (Requested e (request_of x) ∷ to_up v.seen Begin (request_message x)))
    by Aborted r u = λ a.
        false_from_ne_true (has is_commit_sent (onto h (Requested e Abort ∷ to_up v.seen Begin BeginAbort)))
        (λ t. not_both (has is_commit_sent h)
        (stood_before is_commit_sent is_uncommitting (λ x t. not_true (is_commit_sent x) t) h (Requested e Abort ∷ to_up v.seen Begin BeginAbort)
        (request_passes is_uncommitting (Requested e Abort) BeginAbort refl refl v.seen) t) u)
    by Committed r u = committed (Requested e (request_of Committed)) BeginCommit refl r
    by InDoubt r u = committed (Requested e (request_of InDoubt)) BeginCommit refl r

step_apart : (t : ℕ) (w : World) (m : Step) → Keeps w.past → IsAsking w.past → IsApart w.past → IsApart (after t w m).past
unfolding after
step_apart t w m k i a = by (block_kind t w m)
  where
    by : BlockKind w (block_at t w m) → IsApart (onto w.past (block_at t w m))
    by (inl q) = meek_apart w.past (block_at t w m) q.proof a
    by (inr (inl s)) = seal_apart w.past (half w) (block_at t w m) refl k s
    by (inr (inr s)) = requests_apart w.past (half w) s.0 (block_at t w m) refl k i s.1

ran_apart : (G : ℕ → ActorNo → Call → Type 0) (t : ℕ) (ms : List Step) (w : World) → AreMadeOnce G → Ran G t ms w → Keeps w.past → IsApart w.past
unfolding after
ran_apart G t [] w once r k = subst IsApart (sym r.1) (λ a. absurd cc)
ran_apart G t (m ∷ ms) w once r k =
    let v = r.0 in
    let past = keeps_within v.past (block_at t v m) (subst (λ (x : World). Keeps x.past) r.3 k) in
    subst (λ (x : World). IsApart x.past) (sym r.3) (step_apart t v m past (run_stands G t ms v once r.1 past.ties).asking (ran_apart G t ms v once r.1 past))

-- COMMIT is sent once at most: the seal comes once, and so does the request.
abbrev IsOnceSent : List Entry → Type 0
IsOnceSent h = always (is_once is_commit_sent) h ≡ true

meek_once : (h es : List Entry) → each is_meek es ≡ true → IsOnceSent h → IsOnceSent (onto h es)
meek_once h [] k o = o
meek_once h (x ∷ es) k o =
    meek_once (x ∷ h) es (and_right (is_meek x) (each is_meek es) k)
    (and_both (is_once is_commit_sent h x) (always (is_once is_commit_sent) h)
    (or_left (not (is_commit_sent x)) (not (has is_commit_sent h)) (not_false (is_commit_sent x) (meek_uncommit x (and_left (is_meek x) (each is_meek es) k)))) o)

first_once : (x y : Entry) (h : List Entry) → is_commit_sent x ≡ false → has is_commit_sent h ≡ false → IsOnceSent h → IsOnceSent (y ∷ x ∷ h)
first_once x y h n u o =
    and_both (is_once is_commit_sent (x ∷ h) y) (always (is_once is_commit_sent) (x ∷ h))
    (or_right (not (is_commit_sent y)) (not (has is_commit_sent (x ∷ h))) (not_false (has is_commit_sent (x ∷ h)) (or_false (is_commit_sent x) (has is_commit_sent h) n u)))
    (alone_once x h n o)
  where
    alone_once : (x : Entry) (h : List Entry) → is_commit_sent x ≡ false → IsOnceSent h → IsOnceSent (x ∷ h)
    alone_once x h n o = and_both (is_once is_commit_sent h x) (always (is_once is_commit_sent) h) (or_left (not (is_commit_sent x)) (not (has is_commit_sent h)) (not_false (is_commit_sent x) n)) o

then_once : (b : Bool) (x : Entry) (m : Message) (h : List Entry) → is_commit_sent x ≡ false → has is_commit_sent h ≡ false → IsOnceSent h → IsOnceSent (onto (x ∷ h) (if b then Sent Begin Up m ∷ [] else []))
then_once true x m h n u o = first_once x (Sent Begin Up m) h n u o
then_once false x m h n u o = and_both (is_once is_commit_sent h x) (always (is_once is_commit_sent) h) (or_left (not (is_commit_sent x)) (not (has is_commit_sent h)) (not_false (is_commit_sent x) n)) o

-- it is sent after the seal
commit_sealed : (x : Entry) (h : List Entry) → Keeps h → rule h x ≡ true → is_commit_sent x ≡ true → has is_sealed h ≡ true
commit_sealed (Sent Begin Up BeginCommit) h k r t = sealed_of h (and_left (may_commit h) (not (is_lone_owner (durables h))) (row_of Begin Up BeginCommit h r))
  where
    sealed_of : (h : List Entry) → may_commit h ≡ true → has is_sealed h ≡ true
    sealed_of h m =
        and_left (has is_sealed h) (has is_promoted h)
        (and_left (has is_sealed h && has is_promoted h) (not (has is_decision h))
        (and_left (has is_sealed h && has is_promoted h && not (has is_decision h)) (not (has is_abort_sent h) && (not (has_promotable h) || has is_request h)) m))
commit_sealed (Sent Begin Up BeginCommitOne) h k r t = sealed_of h (and_left (may_commit h) (is_lone_owner (durables h)) (row_of Begin Up BeginCommitOne h r))
  where
    sealed_of : (h : List Entry) → may_commit h ≡ true → has is_sealed h ≡ true
    sealed_of h m =
        and_left (has is_sealed h) (has is_promoted h)
        (and_left (has is_sealed h && has is_promoted h) (not (has is_decision h))
        (and_left (has is_sealed h && has is_promoted h && not (has is_decision h)) (not (has is_abort_sent h) && (not (has_promotable h) || has is_request h)) m))
commit_sealed x h k r t = absurd cc

seal_once : (h : List Entry) (v : Half) (es : List Entry) → v.seen ≡ observe h → Keeps h → Seals v es → IsOnceSent h → IsOnceSent (onto h es)
unfolding observe
seal_once h v es q k s o =
    let S : Observed → Type 0 = λ o. o.sealed ≡ false in
    let P : List Entry → Type 0 = λ es. IsOnceSent (onto h es) in
    let unsent = false_from_ne_true (has is_commit_sent h) (λ t. not_both (has is_sealed h) (before is_commit_sent is_sealed commit_sealed h k t) (subst S q s.0)) in
    subst P (sym s.1) (by (v.seen.promoted && not (is_some (promotable_in v.seen.table))) (knows Begin v.seen.ends) unsent)
  where
    by : (a b : Bool) → has is_commit_sent h ≡ false → IsOnceSent (onto (Sealed ∷ h) (if a then (if b then Sent Begin Up (commit_message v.seen) ∷ [] else []) else []))
    by true b u = then_once b Sealed (commit_message v.seen) h refl u o
    by false b u = o

requests_once : (h : List Entry) (v : Half) (e : EnlNo) (es : List Entry) → v.seen ≡ observe h → Keeps h → IsAsking h → Requests v e es → IsOnceSent h → IsOnceSent (onto h es)
requests_once h v e es q k i s o =
    let P : List Entry → Type 0 = λ es. IsOnceSent (onto h es) in
    let D : Observed → Type 0 = λ o. due_of o e.value ≡ Some Single in
    let owes = request_owed h e.value s.0 (subst D q s.1) in
    subst P (sym s.2) (then_once (knows Begin v.seen.ends) (Requested e (request_of s.0)) (request_message s.0) h refl (unsent owes.0 owes.1) o)
  where
    unsent : has is_request h ≡ false → has_promotable h ≡ true → has is_commit_sent h ≡ false
    unsent r p =
        false_from_ne_true (has is_commit_sent h)
        (λ a. or_case (has is_request h) (not (has_promotable h)) (λ b. not_both (has is_request h) b r) (λ b. not_both (has_promotable h) p (not_true (has_promotable h) b)) (lone_there h k i.lone a))

step_once : (t : ℕ) (w : World) (m : Step) → Keeps w.past → IsAsking w.past → IsOnceSent w.past → IsOnceSent (after t w m).past
unfolding after
step_once t w m k i a = by (block_kind t w m)
  where
    by : BlockKind w (block_at t w m) → IsOnceSent (onto w.past (block_at t w m))
    by (inl q) = meek_once w.past (block_at t w m) q.proof a
    by (inr (inl s)) = seal_once w.past (half w) (block_at t w m) refl k s a
    by (inr (inr s)) = requests_once w.past (half w) s.0 (block_at t w m) refl k i s.1 a

ran_once_sent : (G : ℕ → ActorNo → Call → Type 0) (t : ℕ) (ms : List Step) (w : World) → AreMadeOnce G → Ran G t ms w → Keeps w.past → IsOnceSent w.past
unfolding after
ran_once_sent G t [] w once r k = subst IsOnceSent (sym r.1) refl
ran_once_sent G t (m ∷ ms) w once r k =
    let v = r.0 in
    let past = keeps_within v.past (block_at t v m) (subst (λ (x : World). Keeps x.past) r.3 k) in
    subst (λ (x : World). IsOnceSent x.past) (sym r.3) (step_once t v m past (run_stands G t ms v once r.1 past.ties).asking (ran_once_sent G t ms v once r.1 past))

-- so it is got once at most
pub once_got : (h : List Entry) → WireRun h → always (is_once (is_sent_on Begin Up COMMIT)) h ≡ true → always is_once_committed h ≡ true
once_got [] w o = refl
once_got (x ∷ h) w o =
    let before = and_right (is_once (is_sent_on Begin Up COMMIT) h x) (always (is_once (is_sent_on Begin Up COMMIT)) h) o in
    and_both (is_once_committed h x) (always is_once_committed h) (one x w.0) (once_got h w.1 before)
  where
    later : always (is_once (is_sent_on Begin Up COMMIT)) h ≡ true
    later = and_right (is_once (is_sent_on Begin Up COMMIT) h x) (always (is_once (is_sent_on Begin Up COMMIT)) h) o

    first : (m : Message) (b : Bool) → COMMIT m ≡ b → MayCross h (Got Begin Up m) → (not b || not (has (is_got_on Begin Up COMMIT) h)) ≡ true
    first m true q n = not_false (has (is_got_on Begin Up COMMIT) h) (got_first Begin Up m COMMIT h w.1 n q later)
    first m false q n = refl

    one : (x : Entry) → MayCross h x → is_once_committed h x ≡ true
    one (Got Begin Up m) n = first m (COMMIT m) refl n
    one _ n = refl

-- so in each world that steps made
pub ran_requests : (G : ℕ → ActorNo → Call → Type 0) (t : ℕ) (ms : List Step) (w : World) → AreMadeOnce G → Ran G t ms w → Keeps w.past → IsRequesting w.past
ran_requests G t ms w once r k =
    record {
      asked = λ s p. or_case (has is_request w.past) (not (has_promotable w.past)) (λ a. a) (λ a. absurd (not_both (has_promotable w.past) p (not_true (has_promotable w.past) a)))
          (lone_there w.past k (run_stands G t ms w once r k.ties).asking.lone s);
      apart = ran_apart G t ms w once r k;
      once = ran_once_sent G t ms w once r k;
    }
