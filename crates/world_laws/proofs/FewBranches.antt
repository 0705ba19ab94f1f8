-- How many enlistments are at the coordinator, and how many last or are waited for: what each entry and each block changes there.
use Rattle.std.proofs.Common.{◌≡◌, ◌≤◌, ◌<◌, ◌+◌, ℕ, suc, ◌==◌, Bool, true, false, ◌&&◌, ◌||◌, List, [], ◌∷◌, find, Some, None, refl, sym, subst, ap, ◌∙◌, arith}
use Rattle.std.specs.Prelude.{not, if◌then◌else◌}
use Rattle.std.specs.List.{flat_map}
use Rattle.std.proofs.lemmas.Bool.{eqb-true, or_left}
use Rattle.dtx_values.specs.declared.call.Call.{Call}
use Rattle.dtx_values.specs.declared.call.Call.TheVariants.{Durable}
use Rattle.dtx_values.specs.declared.entry.Answer.{Answer}
use Rattle.dtx_values.specs.declared.entry.Answer.TheVariants.{Fine, Id, Wait}
use Rattle.dtx_values.specs.declared.entry.Ask.TheVariants.{Prepare}
use Rattle.dtx_values.specs.declared.entry.Entry.{Entry}
use Rattle.dtx_values.specs.declared.entry.Entry.TheVariants.{Acked, Answered, Asked, Called, Enlisted, Got, Promoting, Reenlisted, Sent, Told, Voted}
use Rattle.dtx_values.specs.declared.entry.Party.TheVariants.{Enl as Member}
use Rattle.dtx_values.specs.declared.message.Conn.TheVariants.{Enl, Again}
use Rattle.dtx_values.specs.declared.message.Dir.TheVariants.{Up, Down}
use Rattle.dtx_values.specs.declared.message.Info.{Info}
use Rattle.dtx_values.specs.declared.message.Message.TheVariants.{EnlistEnlist, EnlistEnlisted, EnlistCommit, ReenlistCommitted}
use Rattle.dtx_values.specs.declared.number.ActorNo.{ActorNo}
use Rattle.dtx_values.specs.declared.number.EnlNo.{EnlNo}
use Rattle.dtx_values.specs.declared.number.RmNo.{RmNo}
use Rattle.dtx_values.specs.declared.row.Row.{Row}
use Rattle.dtx_values.specs.declared.script.Support.TheVariants.{SinglePhase, TwoPhase}
use Rattle.dtx_values.specs.declared.words.Class.{Class}
use Rattle.dtx_values.specs.declared.words.Outcome.TheVariants.{Aborted}
use Rattle.dtx_values.specs.Class.{is_volatile}
use Rattle.dtx_values.specs.Owners.{lasting, only, owner_of}
use Rattle.dtx_values.specs.Row.{fresh_row, is_lasting, is_of, mark_in, mark_row, number_of, vote_in, vote_row}
use Rattle.dtx_values.specs.Table.{how_many, marks, with_row}
use Rattle.dtx_model.specs.declared.waiting.EnteredCall.{EnteredCall}
use Rattle.dtx_model.specs.declared.waiting.Wanted.{Wanted}
use Rattle.dtx_model.specs.declared.waiting.Wanted.TheVariants.{Identifier, Place}
use Rattle.dtx_model.specs.Acts.{lasts}
use Rattle.dtx_model.specs.Entries.{is_decision}
use Rattle.dtx_model.specs.Half.{given, info, is_handed}
use Rattle.dtx_model.specs.Observed.{branches, handover, rows}
use Rattle.dtx_model.specs.Promotes.{identifier_of}
use Rattle.dtx_model.specs.Waiting.{Waiter, call_at, is_place, is_place_of, waiter_line, waiting, wanted, wanted_by}
use Rattle.dtx_model.specs.Words.{each, has, onto}
use Rattle.dtx_model.proofs.Bools.{and_left, and_right, not_both, or_case, or_right, or_second}
use Rattle.dtx_model.proofs.Counts.{how_many-insert_by, how_many-map}
use Rattle.dtx_model.proofs.Reading.{has-onto}
use Rattle.half_parts.specs.declared.branches.BranchChange.TheVariants.{Enlisted as IsEnlisted, Aborted as IsAborted, Acked as IsAcked, Due}
use Rattle.local_half.specs.Linked.{AreLinked, is_held}
use Rattle.local_half.specs.Waits.{without}
use Rattle.half_parts.proofs.Links.{links-answered, links-changed, links-held, links-row, links-wait, links-branched}
use Rattle.half_parts.proofs.Lists.{how_many-filter-le}
use Rattle.half_parts.proofs.Rows.{lasts-mark, lasts-more, lasts-new, lasts-vote}
use Rattle.history_table.proofs.Makers.{keep_place, same_wants}
use Rattle.history_table.proofs.DecidingBlocks.{Keeps, is_kept}
use Rattle.history_table.proofs.Lists.{OfEach}
use Rattle.history_table.proofs.Makers.{IsWaiter, of-filter, of-found, place_number}
use Rattle.history_table.proofs.Messages.{ENLIST}
use Rattle.history_table.proofs.Owned.{has_filter}
use Rattle.history_table.proofs.PlainBlocks.{Plain, is_plain}
use Rattle.history_table.proofs.Scans.{each_both}
use Rattle.history_table.proofs.Tests.{eq_self}
use Rattle.history_table.proofs.CameOnce.{is_unopening}

no : false ≡ true → ⊥
no e = absurd cc

-- Until something is decided, at most 16 last or are waited for; the handover's lasts; and those at the coordinator are at most 16, each of which, until something is
-- decided, lasts or is waited for.
pub record Roomy (ks : List EnteredCall) (h : List Entry) : Type 0 where
  pub few : has is_decision h ≡ false → how_many is_lasting (rows h) + how_many is_place (waiting ks h) ≤ 16
  pub owner : (e : ℕ) → is_handed (handover h) e ≡ true → lasts (rows h) e ≡ true
  pub linked : AreLinked (has is_decision h) (rows h) (waiting ks h) (branches h) []

-- nothing happened yet
pub none_roomy : (ks : List EnteredCall) → Roomy ks []
none_roomy ks = record {
  few = λ d. omega arith;
  owner = λ e k. absurd (no k);
  linked = record { once = λ e. omega arith; few = omega arith; held = λ k. refl; known_once = λ c. omega arith; of_branches = refl };
}

branch_links : (d : Bool) (xs : List Row) (ws : List Waiter) (x : Entry) (h : List Entry) → is_unopening x ≡ true → AreLinked d xs ws (branches h) [] → AreLinked d xs ws (branches (x ∷ h)) []
branch_links d xs ws (Sent (Enl e) Up (EnlistEnlist i)) h p l = absurd (no p)
branch_links d xs ws (Got (Enl e) Down EnlistEnlisted) h p l = links-changed d xs ws (branches h) [] e.value IsEnlisted l
branch_links d xs ws (Got (Enl e) Down EnlistCommit) h p l = links-changed d xs ws (branches h) [] e.value (Due (Some (Enl e))) l
branch_links d xs ws (Got (Again e) Down ReenlistCommitted) h p l = links-changed d xs ws (branches h) [] e.value (Due (Some (Again e))) l
branch_links d xs ws (Told (Member e) Aborted) h p l = links-changed d xs ws (branches h) [] e.value IsAborted l
branch_links d xs ws (Acked e) h p l = links-changed d xs ws (branches h) [] e.value IsAcked l
branch_links d xs ws (Reenlisted e) h p l = links-changed d xs ws (branches h) [] e.value (Due None) l
branch_links d xs ws x h p l = l

-- The handover's enlistment lasts, with any entry.
owner_row : (xs : List Row) (e : ℕ) → is_handed (owner_of xs) e ≡ true → lasts xs e ≡ true
unfolding owner_of
owner_row xs e o = sym (has_filter (is_of e) is_lasting xs) ∙ by (lasting xs) o
  where
    by : (ys : List Row) → is_handed (only ys) e ≡ true → has (is_of e) ys ≡ true
    by [] o = absurd (no o)
    by (x ∷ []) o = or_left (is_of e x) false o
    by (x ∷ y ∷ ys) o = absurd (no o)

row_stays : (x : Entry) (h : List Entry) (e : ℕ) → lasts (rows h) e ≡ true → lasts (rows (x ∷ h)) e ≡ true
row_stays (Enlisted f c) h e k = lasts-more f c (rows h) e k
row_stays (Asked f Prepare) h e k = lasts-mark f.value (rows h) e ∙ k
row_stays (Voted f v) h e k = lasts-vote f.value v (rows h) e ∙ k
row_stays _ h e k = k

owner_more : (x : Entry) (h : List Entry) → ((e : ℕ) → is_handed (handover h) e ≡ true → lasts (rows h) e ≡ true) → (e : ℕ) → is_handed (handover (x ∷ h)) e ≡ true → lasts (rows (x ∷ h)) e ≡ true
owner_more (Promoting c) h f e k = owner_row (rows h) e k
owner_more (Enlisted g c) h f e k = row_stays (Enlisted g c) h e (f e k)
owner_more (Asked g Prepare) h f e k = row_stays (Asked g Prepare) h e (f e k)
owner_more (Voted g v) h f e k = row_stays (Voted g v) h e (f e k)
owner_more _ h f e k = f e k

-- An entry that makes no enlistment, enters and answers no call, and sends no ENLIST.
abbrev pub is_gentle : Entry → Bool
is_gentle (Called n a x) = false
is_gentle (Answered n x) = false
is_gentle (Enlisted e c) = false
is_gentle (Sent c Up m) = not (ENLIST m)
is_gentle _ = true

gentle_unbranching : (x : Entry) → is_gentle x ≡ true → is_unopening x ≡ true
gentle_unbranching (Sent c Up m) g = g
gentle_unbranching _ g = refl

gentle_last : (x : Entry) (h : List Entry) → is_gentle x ≡ true → how_many is_lasting (rows (x ∷ h)) ≡ how_many is_lasting (rows h)
gentle_last (Enlisted e c) h g = absurd (no g)
gentle_last (Asked e Prepare) h g = how_many-map is_lasting (mark_in e.value (marks (rows h))) (λ x. mark_lasts (marks (rows h)) e.value x) (rows h)
  where
    mark_lasts : (n e : ℕ) (x : Row) → is_lasting (mark_in e n x) ≡ is_lasting x
    mark_lasts n e x = elim (is_of e x) as (λ b. is_lasting (if b then mark_row n x else x) ≡ is_lasting x) [ true ↦ refl | false ↦ refl ]
gentle_last (Voted e v) h g = how_many-map is_lasting (vote_in e.value v) (λ x. vote_lasts x) (rows h)
  where
    vote_lasts : (x : Row) → is_lasting (vote_in e.value v x) ≡ is_lasting x
    vote_lasts x = elim (is_of e.value x) as (λ b. is_lasting (if b then vote_row v x else x) ≡ is_lasting x) [ true ↦ refl | false ↦ refl ]
gentle_last _ h g = refl

gentle_waits : (ks : List EnteredCall) (x : Entry) (h : List Entry) → is_gentle x ≡ true → waiting ks (x ∷ h) ≡ waiting ks h
gentle_waits ks (Called n a y) h g = absurd (no g)
gentle_waits ks (Answered n y) h g = absurd (no g)
gentle_waits ks _ h g = refl

held_with : (xs ys : List Row) (ws vs : List Waiter) (e : ℕ) → (lasts xs e ≡ true → lasts ys e ≡ true) → (has (is_place_of e) ws ≡ true → is_held ys vs e ≡ true) → is_held xs ws e ≡ true → is_held ys vs e ≡ true
held_with xs ys ws vs e f g k = or_case (lasts xs e) (has (is_place_of e) ws) (λ t. or_left (lasts ys e) (has (is_place_of e) vs) (f t)) g k

-- such an entry keeps them few
pub gentle_roomy : (ks : List EnteredCall) (x : Entry) (h : List Entry) → is_gentle x ≡ true → Roomy ks h → Roomy ks (x ∷ h)
gentle_roomy ks x h g i =
    let waits = gentle_waits ks x h g in
    record {
      few = λ d. few (gentle_last x h g) waits (i.few (or_second (is_decision x) (has is_decision h) d));
      owner = owner_more x h i.owner;
      linked =
          branch_links (has is_decision (x ∷ h)) (rows (x ∷ h)) (waiting ks (x ∷ h)) x h (gentle_unbranching x g)
          (links-held (has is_decision h) (has is_decision (x ∷ h)) (rows h) (rows (x ∷ h)) (waiting ks h) (waiting ks (x ∷ h)) (branches h) [] (λ d. or_second (is_decision x) (has is_decision h) d)
          (λ d e k. held_with (rows h) (rows (x ∷ h)) (waiting ks h) (waiting ks (x ∷ h)) e (row_stays x h e)
          (λ t. or_right (lasts (rows (x ∷ h)) e) (has (is_place_of e) (waiting ks (x ∷ h))) (ap (has (is_place_of e)) waits ∙ t)) k) i.linked);
    }
  where
    few : how_many is_lasting (rows (x ∷ h)) ≡ how_many is_lasting (rows h) → waiting ks (x ∷ h) ≡ waiting ks h → how_many is_lasting (rows h) + how_many is_place (waiting ks h) ≤ 16
        → how_many is_lasting (rows (x ∷ h)) + how_many is_place (waiting ks (x ∷ h)) ≤ 16
    few a b k = let p = ap (how_many is_place) b in omega (arith, a, p, k)

-- so do such entries in a row
pub list_roomy : (ks : List EnteredCall) (h es : List Entry) → each is_gentle es ≡ true → Roomy ks h → Roomy ks (onto h es)
list_roomy ks h [] g i = i
list_roomy ks h (x ∷ es) g i = list_roomy ks (x ∷ h) es (and_right (is_gentle x) (each is_gentle es) g) (gentle_roomy ks x h (and_left (is_gentle x) (each is_gentle es) g) i)

-- A block that decides: it matters only who is at the coordinator.
record Loose (ks : List EnteredCall) (h : List Entry) : Type 0 where
  owner : (e : ℕ) → is_handed (handover h) e ≡ true → lasts (rows h) e ≡ true
  linked : AreLinked true (rows h) (waiting ks h) (branches h) []

plain_unbranching : (x : Entry) → is_plain x ≡ true → is_unopening x ≡ true
plain_unbranching (Sent c Up m) p = p
plain_unbranching _ p = refl

list_loose : (ks : List EnteredCall) (h es : List Entry) → each is_plain es ≡ true → Loose ks h → Loose ks (onto h es)
list_loose ks h [] p i = i
list_loose ks h (x ∷ es) p i =
    list_loose ks (x ∷ h) es (and_right (is_plain x) (each is_plain es) p)
    (record {
      owner = owner_more x h i.owner;
      linked =
          branch_links true (rows (x ∷ h)) (waiting ks (x ∷ h)) x h (plain_unbranching x (and_left (is_plain x) (each is_plain es) p))
          (links-held true true (rows h) (rows (x ∷ h)) (waiting ks h) (waiting ks (x ∷ h)) (branches h) [] (λ d. d) (λ d e k. absurd (no (sym d))) i.linked);
    })

gentle_of : (x : Entry) → is_plain x ≡ true → is_kept x ≡ true → is_gentle x ≡ true
gentle_of (Called n a x) p k = absurd (no p)
gentle_of (Answered n x) p k = absurd (no k)
gentle_of (Enlisted e c) p k = absurd (no p)
gentle_of (Sent c Up m) p k = p
gentle_of _ p k = refl

-- a block that makes nothing, and decides or answers nobody
pub block_roomy : {ws : List Waiter} (ks : List EnteredCall) (h es : List Entry) → Plain es → Keeps ws es → Roomy ks h → Roomy ks (onto h es)
block_roomy ks h es p k i = by (has is_decision es) refl (each is_kept es) refl k.proof
  where
    by : (a : Bool) → has is_decision es ≡ a → (c : Bool) → each is_kept es ≡ c → (a || c) ≡ true → Roomy ks (onto h es)
    by true q c z t =
        let decided : has is_decision (onto h es) ≡ true = has-onto is_decision h es ∙ or_left (has is_decision es) (has is_decision h) q in
        let loose = list_loose ks h es p.proof
        (record {
          owner = i.owner;
          linked = links-held (has is_decision h) true (rows h) (rows h) (waiting ks h) (waiting ks h) (branches h) [] (λ d. absurd (no (sym d))) (λ d e k. k) i.linked;
        }) in
        record {
          few = λ d. absurd (not_both (has is_decision (onto h es)) decided d);
          owner = loose.owner;
          linked = subst (λ d. AreLinked d (rows (onto h es)) (waiting ks (onto h es)) (branches (onto h es)) []) (sym decided) loose.linked;
        }
    by false q true z t = list_roomy ks h es (each_both is_plain is_kept is_gentle gentle_of es p.proof z) i
    by false q false z t = absurd (no t)

-- A call is answered that waits for no place.
pub answered_roomy : (ks : List EnteredCall) (n : ℕ) (y : Answer) (h : List Entry) → has (λ w. (n == w.0) && is_place w) (waiting ks h) ≡ false → Roomy ks h → Roomy ks (Answered n y ∷ h)
answered_roomy ks n y h none i = record {
  few = λ d. let a = i.few d in let b = how_many-filter-le is_place (λ w. not (n == w.0)) (waiting ks h) in omega (arith, a, b);
  owner = i.owner;
  linked = links-answered (has is_decision h) (rows h) (waiting ks h) (branches h) [] n (or_right (has is_decision h) (not (has (λ w. (n == w.0) && is_place w) (waiting ks h))) (shut none)) i.linked;
}
  where
    shut : has (λ w. (n == w.0) && is_place w) (waiting ks h) ≡ false → not (has (λ w. (n == w.0) && is_place w) (waiting ks h)) ≡ true
    shut k = rw k refl

-- how many last with one more
last_row : (e : EnlNo) (c : Class) (xs : List Row) → how_many is_lasting (with_row e c xs) ≡ (if not (is_volatile c) then suc (how_many is_lasting xs) else how_many is_lasting xs)
last_row e c xs = how_many-insert_by is_lasting number_of (fresh_row e c (marks xs)) xs

-- An enlistment more, for which there is room.
pub row_roomy : (ks : List EnteredCall) (e : EnlNo) (c : Class) (h : List Entry)
    → (has is_decision h ≡ false → is_volatile c ≡ false → how_many is_lasting (rows h) + how_many is_place (waiting ks h) < 16) → Roomy ks h → Roomy ks (Enlisted e c ∷ h)
row_roomy ks e c h room i = record {
  few = λ d. by (is_volatile c) (how_many is_lasting (rows (Enlisted e c ∷ h))) (last_row e c (rows h)) (room d) (i.few d);
  owner = owner_more (Enlisted e c) h i.owner;
  linked = links-row (has is_decision h) (rows h) (waiting ks h) (branches h) [] e c i.linked;
}
  where
    by : (v : Bool) (n : ℕ) → n ≡ (if not v then suc (how_many is_lasting (rows h)) else how_many is_lasting (rows h)) → (v ≡ false → how_many is_lasting (rows h) + how_many is_place (waiting ks h) < 16)
        → how_many is_lasting (rows h) + how_many is_place (waiting ks h) ≤ 16 → n + how_many is_place (waiting ks h) ≤ 16
    by true n k lt le = omega (arith, k, le)
    by false n k lt le = let less = lt refl in omega (arith, k, less)

-- A call more: it doesn't wait, it waits for no place, or there is room for its place.
pub called_roomy : (ks : List EnteredCall) (n : ℕ) (a : ActorNo) (x : Answer) (h : List Entry)
    → (x ≡ Wait → has is_decision h ≡ false → is_place (n, wanted (call_at ks n)) ≡ true → how_many is_lasting (rows h) + how_many is_place (waiting ks h) < 16) → Roomy ks h → Roomy ks (Called n a x ∷ h)
called_roomy ks n a Wait h room i = record {
  few = λ d. by (is_place (n, wanted (call_at ks n))) (how_many is_place (waiting ks (Called n a Wait ∷ h))) (how_many-insert_by is_place waiter_line (n, wanted (call_at ks n)) (waiting ks h)) (room refl d) (i.few d);
  owner = i.owner;
  linked = links-wait (has is_decision h) (rows h) (waiting ks h) (branches h) [] (n, wanted (call_at ks n)) i.linked;
}
  where
    by : (v : Bool) (k : ℕ) → k ≡ (if v then suc (how_many is_place (waiting ks h)) else how_many is_place (waiting ks h)) → (v ≡ true → how_many is_lasting (rows h) + how_many is_place (waiting ks h) < 16)
        → how_many is_lasting (rows h) + how_many is_place (waiting ks h) ≤ 16 → how_many is_lasting (rows h) + k ≤ 16
    by true k e lt le = let less = lt refl in omega (arith, e, less)
    by false k e lt le = omega (arith, e, le)
called_roomy ks n a _ h room i = record { few = i.few; owner = i.owner; linked = i.linked }

-- ENLIST is sent of one that lasts or is waited for, where nothing is decided.
pub sent_roomy : (ks : List EnteredCall) (e : EnlNo) (m : Info) (h : List Entry) → has is_decision h ≡ false → is_held (rows h) (waiting ks h) e.value ≡ true → Roomy ks h → Roomy ks (Sent (Enl e) Up (EnlistEnlist m) ∷ h)
sent_roomy ks e m h d mine i = record {
  few = i.few;
  owner = i.owner;
  linked =
      let old = subst (λ b. AreLinked b (rows h) (waiting ks h) (branches h) []) d i.linked in
      let new = links-branched false (rows h) (waiting ks h) (branches h) [] e m.rm refl mine (i.few d) old in
      record { once = new.once; few = new.few; held = λ k. new.held refl; known_once = λ c. omega arith; of_branches = refl };
}

-- A call has the place that it waited for.
found_fewer : (n : ℕ) (ws : List Waiter) (p : Waiter → Bool) (v : Waiter) → find p ws ≡ Some v → is_place v ≡ true → (n == v.0) ≡ true → suc (how_many is_place (without n ws)) ≤ how_many is_place ws
found_fewer n [] p v q a b = absurd cc
found_fewer n (w ∷ ws) p v q a b = step (p w) q (λ r. found_fewer n ws p v r a b)
  where
    here : w ≡ v → suc (how_many is_place (without n (w ∷ ws))) ≤ how_many is_place (w ∷ ws)
    here e =
        let le = how_many-filter-le is_place (λ u. not (n == u.0)) ws in
        let P : Waiter → Type 0 = λ u. suc (how_many is_place (without n (u ∷ ws))) ≤ how_many is_place (u ∷ ws) in
        subst P (sym e) (out (n == v.0) (is_place v) b a le)
      where
        out : (x y : Bool) → x ≡ true → y ≡ true → how_many is_place (without n ws) ≤ how_many is_place ws
            → suc (how_many is_place (if not x then v ∷ without n ws else without n ws)) ≤ (if y then suc (how_many is_place ws) else how_many is_place ws)
        out true true s t le = omega (arith, le)
        out true false s t le = absurd (no t)
        out false y s t le = absurd (no s)

    step : (c : Bool) → (if c then Some w else find p ws) ≡ Some v → (find p ws ≡ Some v → suc (how_many is_place (without n ws)) ≤ how_many is_place ws)
        → suc (how_many is_place (without n (w ∷ ws))) ≤ how_many is_place (w ∷ ws)
    step true q f = let e : w ≡ v = cc in here e
    step false q f = later (n == w.0) (is_place w) refl (f q)
      where
        later : (x y : Bool) → is_place w ≡ y → suc (how_many is_place (without n ws)) ≤ how_many is_place ws
            → suc (how_many is_place (if not x then w ∷ without n ws else without n ws)) ≤ (if y then suc (how_many is_place ws) else how_many is_place ws)
        later true true z le = omega (arith, le)
        later true false z le = le
        later false true z le = rw z (omega (arith, le))
        later false false z le = rw z le

-- who waits for a place is durable
abbrev class_in : Class → Wanted → Class
class_in d (Place e r c) = c
class_in d Identifier = d

durable_place : (e : EnlNo) (r : RmNo) (c : Class) (k : Call) → Place e r c ≡ wanted_by k → is_volatile c ≡ false
durable_place e r c (Durable t f q (SinglePhase v o)) w = ap (λ x. is_volatile (class_in c x)) w
durable_place e r c (Durable t f q (TwoPhase v)) w = ap (λ x. is_volatile (class_in c x)) w
durable_place e r c _ w = absurd cc

-- that place becomes an enlistment that lasts
pub placed_roomy : (G : ℕ → ActorNo → Call → Type 0) (ks : List EnteredCall) (h : List Entry) (n : ℕ) (e : EnlNo) (r : RmNo) (c : Class) → find (is_place_of e.value) (waiting ks h) ≡ Some (n, Place e r c)
    → OfEach (IsWaiter G ks h) (waiting ks h) → Roomy ks h → Roomy ks (Answered n Fine ∷ Enlisted e c ∷ h)
placed_roomy G ks h n e r c found o i =
    let own = of-found (IsWaiter G ks h) (is_place_of e.value) (waiting ks h) (n, Place e r c) o found in
    let lasting' = durable_place e r c own.call own.wants in
    let ws = waiting ks h in
    let ys = rows (Enlisted e c ∷ h) in
    record {
      few = λ d. by (how_many is_lasting ys) (last_row e c (rows h)) lasting' (found_fewer n ws (is_place_of e.value) (n, Place e r c) found refl (eq_self n)) (i.few d);
      owner = owner_more (Enlisted e c) h i.owner;
      linked =
          links-held (has is_decision h) (has is_decision h) (rows h) ys ws (without n ws) (branches h) [] (λ d. d)
          (λ d f k. held_with (rows h) ys ws (without n ws) f (row_stays (Enlisted e c) h f) (λ t. held f (f == e.value) refl lasting' own t) k) i.linked;
    }
  where
    by : (k : ℕ) → k ≡ (if not (is_volatile c) then suc (how_many is_lasting (rows h)) else how_many is_lasting (rows h)) → is_volatile c ≡ false
        → suc (how_many is_place (without n (waiting ks h))) ≤ how_many is_place (waiting ks h) → how_many is_lasting (rows h) + how_many is_place (waiting ks h) ≤ 16
        → k + how_many is_place (without n (waiting ks h)) ≤ 16
    by k q v less le = step (is_volatile c) v q
      where
        step : (b : Bool) → b ≡ false → k ≡ (if not b then suc (how_many is_lasting (rows h)) else how_many is_lasting (rows h)) → k + how_many is_place (without n (waiting ks h)) ≤ 16
        step true z q = absurd cc
        step false z q = omega (arith, q, less, le)

    held : (f : ℕ) (b : Bool) → (f == e.value) ≡ b → is_volatile c ≡ false → IsWaiter G ks h (n, Place e r c) → has (is_place_of f) (waiting ks h) ≡ true
        → is_held (rows (Enlisted e c ∷ h)) (without n (waiting ks h)) f ≡ true
    held f true q v own t =
        or_left (lasts (rows (Enlisted e c ∷ h)) f) (has (is_place_of f) (without n (waiting ks h)))
        (subst (λ g. lasts (rows (Enlisted e c ∷ h)) g ≡ true) (sym (eqb-true f e.value q)) (lasts-new e c (rows h) v))
    held f false q v own t =
        or_right (lasts (rows (Enlisted e c ∷ h)) f) (has (is_place_of f) (without n (waiting ks h)))
        (keep_place G ks h n f (Place e r c) own (λ g s d z. subst (λ m. (f == m) ≡ false) (ap place_number z) q) (waiting ks h) o t)

-- The promotion is over: each call that waits has the identifier, or its ENLIST is sent.
unplaced_at : (G : ℕ → ActorNo → Call → Type 0) (ks : List EnteredCall) (h : List Entry) (n : ℕ) → IsWaiter G ks h (n, Identifier) → (ws : List Waiter) → OfEach (IsWaiter G ks h) ws
    → has (λ w. (n == w.0) && is_place w) ws ≡ false
unplaced_at G ks h n own [] o = refl
unplaced_at G ks h n own ((m, Identifier) ∷ ws) o = both (n == m) (unplaced_at G ks h n own ws o.1)
  where
    both : (b : Bool) → has (λ w. (n == w.0) && is_place w) ws ≡ false → ((b && false) || has (λ w. (n == w.0) && is_place w) ws) ≡ false
    both true k = k
    both false k = k
unplaced_at G ks h n own ((m, Place e r c) ∷ ws) o = both (n == m) refl (unplaced_at G ks h n own ws o.1)
  where
    both : (b : Bool) → (n == m) ≡ b → has (λ w. (n == w.0) && is_place w) ws ≡ false → ((b && true) || has (λ w. (n == w.0) && is_place w) ws) ≡ false
    both true q k = let same : Identifier ≡ Place e r c = same_wants G ks h n m Identifier (Place e r c) own o.0 (eqb-true n m q) in absurd cc
    both false q k = k

no_place : (e : ℕ) (f : EnlNo) (r : RmNo) (c : Class) → Identifier ≡ Place f r c → (e == f.value) ≡ false
no_place e f r c q = absurd cc

-- so each whose ENLIST is sent is held
pub given_roomy : (G : ℕ → ActorNo → Call → Type 0) (ks : List EnteredCall) (t : ℕ) (h : List Entry) (vs : List Waiter) (g : List Entry) → OfEach (IsWaiter G ks h) vs → OfEach (IsWaiter G ks h) (waiting ks g)
    → ((e : ℕ) → has (is_place_of e) vs ≡ true → has (is_place_of e) (waiting ks g) ≡ true) → has is_decision g ≡ false → Roomy ks g → Roomy ks (onto g (flat_map (given t) vs))
given_roomy G ks t h [] g o w among d i = i
given_roomy G ks t h ((n, Identifier) ∷ vs) g o w among d i =
    given_roomy G ks t h vs (Answered n (Id (identifier_of t)) ∷ g) o.1 (of-filter (IsWaiter G ks h) (λ v. not (n == v.0)) (waiting ks g) w)
    (λ e k. keep_place G ks h n e Identifier o.0 (no_place e) (waiting ks g) w (among e k)) d
    (answered_roomy ks n (Id (identifier_of t)) g (unplaced_at G ks h n o.0 (waiting ks g) w) i)
given_roomy G ks t h ((n, Place f r c) ∷ vs) g o w among d i =
    given_roomy G ks t h vs (Sent (Enl f) Up (EnlistEnlist (info t f r)) ∷ g) o.1 w (λ e k. among e (or_right (e == f.value) (has (is_place_of e) vs) k)) d
    (sent_roomy ks f (info t f r) g d
    (or_right (lasts (rows g) f.value) (has (is_place_of f.value) (waiting ks g)) (among f.value (or_left (f.value == f.value) (has (is_place_of f.value) vs) (eq_self f.value)))) i)
