-- The local side's blocks: what they cost, and what it does after a message and after an end leaves less.
use Rattle.std.proofs.Common.{◌≡◌, ℕ, suc, ◌+◌, ◌*◌, ◌<◌, ◌≤◌, ◌==◌, Bool, true, false, ◌&&◌, ◌||◌, not, List, [], ◌∷◌, ◌++◌, find, Option, Some, None, is_some, refl, sym, subst, ◌∙◌, arith}
use Rattle.std.specs.List.{flat_map}
use Rattle.dtx_values.specs.declared.entry.Answer.TheVariants.{Fine, Ended as EndedAnswer, Id}
use Rattle.dtx_values.specs.declared.entry.Ask.TheVariants.{Prepare}
use Rattle.dtx_values.specs.declared.entry.Entry.{Entry}
use Rattle.dtx_values.specs.declared.entry.Entry.TheVariants.{Answered, Asked, Decided, Enlisted, Handed, Told, Sent, Got, Down as Ended, Promoted, PromotionFailed}
use Rattle.dtx_values.specs.declared.entry.Party.TheVariants.{Enl as Member}
use Rattle.dtx_values.specs.declared.message.Conn.{Conn}
use Rattle.dtx_values.specs.declared.message.Conn.TheVariants.{Begin, Voter, Enl, Again}
use Rattle.dtx_values.specs.declared.message.Dir.TheVariants.{Up, Down}
use Rattle.dtx_values.specs.declared.message.Message.{Message}
use Rattle.dtx_values.specs.declared.message.Message.TheVariants.{BeginAbort, BeginBegun, BeginCommitted, BeginAborted, BeginInDoubt, VoterVoter, VoterNo, VoterCreated, VoterRefused, VoterAsk, VoterCommit, VoterAbort, VoterInDoubt, EnlistEnlist, EnlistEnlisted, EnlistRefused, EnlistPrepare, EnlistCommit, EnlistAbort, EnlistSingle, ReenlistCommitted, ReenlistAborted}
use Rattle.dtx_values.specs.declared.number.EnlNo.{EnlNo}
use Rattle.dtx_values.specs.declared.number.RmNo.{RmNo}
use Rattle.dtx_values.specs.declared.words.Cause.{Cause}
use Rattle.dtx_values.specs.declared.words.Class.{Class}
use Rattle.dtx_values.specs.declared.words.Outcome.{Outcome}
use Rattle.dtx_values.specs.declared.words.Outcome.TheVariants.{Committed, Aborted, InDoubt}
use Rattle.dtx_values.specs.Ends.{knows, may_abort_by_begin, may_abort_by_voter, same_connection}
use Rattle.dtx_values.specs.Table.{how_many, voted}
use Rattle.dtx_model.specs.declared.waiting.EnteredCall.{EnteredCall}
use Rattle.dtx_model.specs.declared.waiting.Wanted.TheVariants.{Identifier, Place}
use Rattle.dtx_model.specs.Arrivals.{aborted_by, arrived, begun, committed_by, created, doubted_by, ended_by, enlisted_at, hand_over, handed_by, has_both_ends, is_called_off, local_down, local_got, place_given, told_abort, unless_decided}
use Rattle.dtx_model.specs.Coordinated.{coordinate}
use Rattle.dtx_model.specs.Entries.{is_promoted}
use Rattle.dtx_model.specs.Half.{Half, by_manager, decide, ended, enlist_sent, fails_if, given, half_of, info, is_gone, is_handed, is_promoting, over, promoted_by, sees, stands, to_up, veto, veto_if, veto_message, was_told}
use Rattle.dtx_model.specs.Observed.{Observed, observe, track}
use Rattle.dtx_model.specs.Promotes.{identifier_of}
use Rattle.dtx_model.specs.Waiting.{Waiter, is_place, is_place_of, waiting}
use Rattle.dtx_model.specs.Wires.{in_transit, is_ended}
use Rattle.dtx_model.specs.Words.{has, onto}
use Rattle.dtx_model.proofs.Bools.{and_left, not_true}
use Rattle.history_table.proofs.Tests.{eq_self, first_of_three, second_of_three}
use Rattle.world_laws.specs.Left.{commits, opened, weight}
use Rattle.world_laws.proofs.LeftCore.{commits-more, core-free}
use Rattle.world_laws.proofs.LeftCounts.{has-found}
use Rattle.world_laws.proofs.LeftHalf.{promoted-half}
use Rattle.world_laws.proofs.LeftItems.{answered-less, enlisted-more, gain, got-half}
use Rattle.world_laws.proofs.LeftSpend.{Free, Less, by-half, falls-by, free-cons, free-if, free-join, free-map, free-more, free-none, left, less-free, less-if, less-more, spends}
use Rattle.world_laws.proofs.LeftWires.{cost, wires-end, wires-got}

no : false ≡ true → ⊥
no e = absurd cc

-- a message up
pub free-up : (o : Observed) (c : Conn) (m : Message) (n : ℕ) → cost c Up m ≤ n → Free (to_up o c m) n
free-up o c m n l = free-if (knows c o.ends) (free-more n (let a = l in omega arith) (free-cons (Sent c Up m) refl (free-none 0))) (free-none n)

-- what follows a decision, which leaves no more
pub free-ended : (ws : List Waiter) (x : Outcome) → Free (ended ws x) 0
free-ended ws x = free-map (λ w. Answered w.0 (EndedAnswer x)) (λ w. refl) (λ w. refl) ws

-- a decision costs nothing
pub free-decide : (g : Half) (x : Outcome) → Free (decide g x) 0
free-decide g x = by (is_promoting g.seen)
  where
    rest : Free (Decided x ∷ ended g.waits x) 0
    rest = free-more 0 (omega arith) (free-cons (Decided x) refl (free-ended g.waits x))

    by : (b : Bool) → Free (fails_if b ++ Decided x ∷ ended g.waits x) 0
    by true = free-more 0 (omega arith) (free-cons PromotionFailed refl rest)
    by false = rest

-- a veto costs its message
pub free-veto : (g : Half) → Free (veto g) 1
unfolding veto
free-veto g = free-more 1 (omega arith) (free-join (free-decide g Aborted) message)
  where
    one : (c : Conn) (m : Message) → cost c Up m ≤ 1 → Free (Sent c Up m ∷ []) 1
    one c m l = free-more 1 (let a = l in omega arith) (free-cons (Sent c Up m) refl (free-none 0))

    message : Free (veto_message g.seen) 1
    message = free-if (may_abort_by_begin g.seen.ends) (one Begin BeginAbort (omega arith)) (free-if (may_abort_by_voter g.seen.ends) (one Voter VoterNo (omega arith)) (free-none 1))

-- so does one that may come
pub free-veto_if : (b : Bool) (g : Half) → Free (veto_if b g) 1
free-veto_if true g = free-veto g
free-veto_if false g = free-none 1

free-unless : (g : Half) {es : List Entry} {n : ℕ} → Free es n → Free (unless_decided g es) n
free-unless g {es} {n} f = free-if (is_some g.seen.decided) (free-none n) f

free-ended_by : (g : Half) (c : Conn) → Free (ended_by g c) 1
free-ended_by g Begin = free-unless g (free-if (not g.seen.yes) (free-veto g) (free-if (has_both_ends g.seen) (free-more 1 (omega arith) (free-decide g InDoubt)) (free-none 1)))
free-ended_by g Voter = free-unless g (free-if (not g.seen.yes) (free-veto g) (free-if (has_both_ends g.seen) (free-more 1 (omega arith) (free-decide g InDoubt)) (free-none 1)))
free-ended_by g (Enl e) = free-unless g (free-if (g.seen.yes || voted e.value g.seen.table) (free-none 1) (free-veto g))
free-ended_by g (Again e) = free-none 1

free-told_abort : (g : Half) (e : EnlNo) → Free (told_abort g e) 0
free-told_abort g e =
    free-if (stands g.seen e.value && not (was_told g.seen e.value) && not (is_gone g.seen e.value)) (free-more 0 (omega arith) (free-cons (Told (Member e) Aborted) refl (free-none 0))) (free-none 0)

free-begun : (t : ℕ) (g : Half) → Free (begun t g) 18
free-begun t g =
    free-if (is_some g.seen.decided) (free-up g.seen Begin BeginAbort 18 (omega arith))
    (free-if (is_promoting g.seen) (free-more 18 (omega arith) (free-cons (Sent Voter Up (VoterVoter (identifier_of t))) refl (free-none 0))) (free-none 18))

free-enlist : (t : ℕ) (e : EnlNo) (r : RmNo) → Free (enlist_sent t e r) 13
free-enlist t e r = free-more 13 (omega arith) (free-cons (Sent (Enl e) Up (EnlistEnlist (info t e r))) refl (free-none 0))

free-manager : (t : ℕ) (ms : List (EnlNo × RmNo)) (e : EnlNo) → Free (by_manager (enlist_sent t) ms e) 13
free-manager t [] e = free-none 13
free-manager t (m ∷ ms) e = free-if (e.value == m.0.value) (free-enlist t e m.1) (free-manager t ms e)

-- each call that waits gets the identifier, or its ENLIST is sent
free-given : (t : ℕ) (ws : List Waiter) → Free (flat_map (given t) ws) (13 * how_many is_place ws)
free-given t [] = free-none 0
free-given t ((n, Identifier) ∷ ws) = free-more (13 * how_many is_place ws) (omega arith) (free-cons (Answered n (Id (identifier_of t))) refl (free-given t ws))
free-given t ((n, Place e r c) ∷ ws) = free-more (13 * suc (how_many is_place ws)) (omega arith) (free-join (free-enlist t e r) (free-given t ws))

-- the end of the handover leaves no more
less-over : (ks : List EnteredCall) (h : List Entry) (t : ℕ) (g : Half) → g.seen.promoted ≡ has is_promoted h → g.waits ≡ waiting ks h → is_promoting g.seen ≡ true → Less ks h (over t g) 0
less-over ks h t g p w k = by g.seen.cause (first_of_three (is_some g.seen.cause) (not g.seen.promoted) (not g.seen.failed) k)
  where
    none : has is_promoted h ≡ false
    none = sym p ∙ not_true g.seen.promoted (second_of_three (is_some g.seen.cause) (not g.seen.promoted) (not g.seen.failed) k)

    by : (c : Option Cause) → is_some c ≡ true → Less ks h (promoted_by t c ++ flat_map (given t) g.waits) 0
    by (Some c) s = record {
      proof =
          let n = 13 * how_many is_place (waiting ks h) in
          let a = by-half ks h (Promoted (identifier_of t) c) n (promoted-half ks (identifier_of t) c h none) refl (omega arith) in
          let f : Free (flat_map (given t) g.waits) n = subst (λ (ws : List Waiter). Free (flat_map (given t) g.waits) (13 * how_many is_place ws)) w (free-given t g.waits) in
          let b = spends ks (Promoted (identifier_of t) c ∷ h) (flat_map (given t) g.waits) f.free in
          let z = f.cheap in
          omega arith;
    }
    by None s = absurd (no s)

enlisted-left : (ks : List EnteredCall) (h : List Entry) (m : EnlNo) (c : Class) → left ks (Enlisted m c ∷ h) ≤ left ks h + 4
unfolding coordinate
enlisted-left ks h m c = let a = enlisted-more ks m c h in let b = core-free (commits h) (coordinate h) (Enlisted m c) refl in omega arith

-- a call that waited has its place
less-place_given : (ks : List EnteredCall) (h : List Entry) (e : ℕ) → Less ks h (place_given (find (is_place_of e) (waiting ks h))) 0
less-place_given ks h e = by (find (is_place_of e) (waiting ks h)) refl
  where
    by : (o : Option Waiter) → find (is_place_of e) (waiting ks h) ≡ o → Less ks h (place_given o) 0
    by None f = less-free (free-none 0)
    by (Some (n, Identifier)) f = less-free (free-none 0)
    by (Some (n, Place m r c)) f = record {
      proof =
          let there = has-found (is_place_of e) (λ (w : Waiter). (n == w.0) && is_place w) (n, Place m r c) (waiting ks h) f (rw (eq_self n) refl) in
          let a = enlisted-left ks h m c in
          let b = by-half ks (Enlisted m c ∷ h) (Answered n Fine) 4 (answered-less ks n Fine (Enlisted m c ∷ h) there) refl (omega arith) in
          omega arith;
    }

less-unless : {ks : List EnteredCall} {h es : List Entry} (g : Half) {n : ℕ} → Less ks h es n → Less ks h (unless_decided g es) n
less-unless {ks} {h} {es} g {n} l = less-if (is_some g.seen.decided) (λ _. less-free (free-none n)) (λ _. l)

less-created : (ks : List EnteredCall) (h : List Entry) (t : ℕ) (g : Half) → g.seen.promoted ≡ has is_promoted h → g.waits ≡ waiting ks h → Less ks h (created t g) 13
less-created ks h t g p w = less-unless g (less-if (is_promoting g.seen) (λ k. by g.seen.handover k) (λ _. less-free (free-none 13)))
  where
    by : (e : Option EnlNo) → is_promoting g.seen ≡ true → Less ks h (hand_over t g e) 13
    by (Some e) k = less-free (free-manager t g.managers e)
    by None k = less-more 13 (omega arith) (less-over ks h t g p w k)

less-enlisted : (ks : List EnteredCall) (h : List Entry) (t : ℕ) (g : Half) (e : EnlNo) → g.seen.promoted ≡ has is_promoted h → g.waits ≡ waiting ks h → Less ks h (enlisted_at t g e) 0
less-enlisted ks h t g e p w =
    less-unless g (less-if (is_promoting g.seen && is_handed g.seen.handover e.value)
    (λ k. less-over ks h t g p w (and_left (is_promoting g.seen) (is_handed g.seen.handover e.value) k))
    (λ _. less-if g.seen.promoted (λ _. subst (λ (ws : List Waiter). Less ks h (place_given (find (is_place_of e.value) ws)) 0) (sym w) (less-place_given ks h e.value)) (λ _. less-free (free-none 0))))

-- A message that the local side gets.
down-left : (ks : List EnteredCall) (h : List Entry) (c : Conn) (m : Message) (ms : List Message) → in_transit c Down h ≡ m ∷ ms → has (same_connection c) (opened h) ≡ true
    → left ks (Got c Down m ∷ h) + weight Down m ≤ left ks h + gain c Down m
unfolding coordinate
down-left ks h c m ms t o = let w = wires-got c Down m ms h t o in let p = got-half ks c Down m h in let q = core-free (commits (Got c Down m ∷ h)) (coordinate h) (Got c Down m) refl in let z = commits-more (Got c Down m) h (coordinate h) in omega arith

down-falls : (ks : List EnteredCall) (h : List Entry) (c : Conn) (m : Message) (ms : List Message) (bs : List Entry) (n : ℕ) → in_transit c Down h ≡ m ∷ ms → has (same_connection c) (opened h) ≡ true
    → Less ks (Got c Down m ∷ h) bs n → n + gain c Down m < weight Down m → left ks (onto h (Got c Down m ∷ bs)) < left ks h
down-falls ks h c m ms bs n t o l w = let a = down-left ks h c m ms t o in let b = l.proof in omega arith

down_weight : (m : Message) → 2 ≤ weight Down m
down_weight (BeginBegun u) = omega arith
down_weight VoterCreated = omega arith
down_weight EnlistCommit = omega arith
down_weight ReenlistCommitted = omega arith
down_weight m = omega arith

-- how much may follow a message
abbrev allowed : Conn → Message → ℕ
allowed Begin (BeginBegun u) = 18
allowed Voter VoterCreated = 13
allowed (Enl e) EnlistCommit = 0
allowed (Again e) ReenlistCommitted = 0
allowed _ _ = 1

allowed_less : (c : Conn) (m : Message) → allowed c m + gain c Down m < weight Down m
allowed_less Begin (BeginBegun u) = omega arith
allowed_less Begin m = let a = down_weight m in omega arith
allowed_less Voter VoterCreated = omega arith
allowed_less Voter m = let a = down_weight m in omega arith
allowed_less (Enl e) EnlistCommit = omega arith
allowed_less (Enl e) m = let a = down_weight m in omega arith
allowed_less (Again e) ReenlistCommitted = omega arith
allowed_less (Again e) m = let a = down_weight m in omega arith

free-committed : (g : Half) (n : ℕ) → Free (committed_by g) n
free-committed g n = free-unless g (free-more n (omega arith) (free-decide g Committed))

free-aborted : (g : Half) (n : ℕ) → Free (aborted_by g) n
free-aborted g n = free-unless g (free-more n (omega arith) (free-decide g Aborted))

free-doubted : (g : Half) (n : ℕ) → Free (doubted_by g) n
free-doubted g n = free-unless g (free-more n (omega arith) (free-decide g InDoubt))

free-handed : (g : Half) (e : EnlNo) (n : ℕ) → Free (handed_by g e) n
free-handed g e n = free-if (is_called_off g.seen.decided || is_gone g.seen e.value) (free-none n) (free-more n (omega arith) (free-cons (Handed e) refl (free-none 0)))

less-arrived : (ks : List EnteredCall) (h : List Entry) (t : ℕ) (g : Half) (c : Conn) (m : Message) → g.seen.promoted ≡ has is_promoted h → g.waits ≡ waiting ks h → Less ks h (arrived t g c m) (allowed c m)
less-arrived ks h t g Begin (BeginBegun u) p w = less-free (free-begun t g)
less-arrived ks h t g Begin BeginCommitted p w = less-free (free-committed g 1)
less-arrived ks h t g Begin BeginAborted p w = less-free (free-aborted g 1)
less-arrived ks h t g Begin BeginInDoubt p w = less-free (free-doubted g 1)
less-arrived ks h t g Begin m p w = less-free (free-ended_by g Begin)
less-arrived ks h t g Voter VoterCreated p w = less-created ks h t g p w
less-arrived ks h t g Voter (VoterRefused cause) p w = less-free (free-unless g (free-veto g))
less-arrived ks h t g Voter VoterAsk p w = less-free (free-none 1)
less-arrived ks h t g Voter VoterCommit p w = less-free (free-committed g 1)
less-arrived ks h t g Voter VoterAbort p w = less-free (free-aborted g 1)
less-arrived ks h t g Voter VoterInDoubt p w = less-free (free-doubted g 1)
less-arrived ks h t g Voter m p w = less-free (free-ended_by g Voter)
less-arrived ks h t g (Enl e) EnlistEnlisted p w = less-more 1 (omega arith) (less-enlisted ks h t g e p w)
less-arrived ks h t g (Enl e) (EnlistRefused cause) p w = less-free (free-unless g (free-veto g))
less-arrived ks h t g (Enl e) EnlistPrepare p w = less-free (free-more 1 (omega arith) (free-cons (Asked e Prepare) refl (free-none 0)))
less-arrived ks h t g (Enl e) EnlistCommit p w = less-free (free-more 0 (omega arith) (free-cons (Told (Member e) Committed) refl (free-none 0)))
less-arrived ks h t g (Enl e) EnlistSingle p w = less-free (free-handed g e 1)
less-arrived ks h t g (Enl e) EnlistAbort p w = less-free (free-more 1 (omega arith) (free-join (free-told_abort g e) (free-aborted g 0)))
less-arrived ks h t g (Enl e) m p w = less-free (free-ended_by g (Enl e))
less-arrived ks h t g (Again e) ReenlistCommitted p w = less-free (free-more 0 (omega arith) (free-cons (Told (Member e) Committed) refl (free-none 0)))
less-arrived ks h t g (Again e) ReenlistAborted p w = less-free (free-more 1 (omega arith) (free-cons (Told (Member e) Aborted) refl (free-none 0)))
less-arrived ks h t g (Again e) m p w = less-free (free-ended_by g (Again e))

-- what the local side does after a message leaves less
pub got_down_falls : (ks : List EnteredCall) (h : List Entry) (t : ℕ) (c : Conn) (m : Message) (ms : List Message) → in_transit c Down h ≡ m ∷ ms → has (same_connection c) (opened h) ≡ true
    → left ks (onto h (Got c Down m ∷ local_got t (half_of ks h) c m)) < left ks h
unfolding local_got observe track
got_down_falls ks h t c m ms q o =
    down-falls ks h c m ms (arrived t (sees (half_of ks h) (Got c Down m)) c m) (allowed c m) q o
    (less-arrived ks (Got c Down m ∷ h) t (sees (half_of ks h) (Got c Down m)) c m refl refl) (allowed_less c m)

-- and so does what it does after an end
end-down-left : (ks : List EnteredCall) (h : List Entry) (c : Conn) → is_ended c Down h ≡ false → has (same_connection c) (opened h) ≡ true → left ks (Ended c Down ∷ h) + 2 ≤ left ks h
unfolding coordinate observe
end-down-left ks h c n o = let w = wires-end c Down h n o in let q = core-free (commits h) (coordinate h) (Ended c Down) refl in omega arith

-- what the local side does after an end leaves less
pub end_down_falls : (ks : List EnteredCall) (h : List Entry) (c : Conn) → is_ended c Down h ≡ false → has (same_connection c) (opened h) ≡ true
    → left ks (onto h (Ended c Down ∷ local_down (half_of ks h) c)) < left ks h
unfolding local_down
end_down_falls ks h c n o =
    falls-by ks h (ended_by (sees (half_of ks h) (Ended c Down)) c) (Ended c Down) 2 1 (end-down-left ks h c n o) (less-free (free-ended_by (sees (half_of ks h) (Ended c Down)) c)) (omega arith)
