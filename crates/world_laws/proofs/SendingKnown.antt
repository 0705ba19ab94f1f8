-- On the connections that a side knows it may send: they were opened, and it didn't see their end. What each side knows is what the history shows.
use Rattle.std.proofs.Common.{◌≡◌, ℕ, Bool, true, false, ◌&&◌, ◌||◌, List, [], ◌∷◌, map, filter, Option, Some, None, is_some, refl, sym, subst, ap, ◌∙◌}
use Rattle.std.specs.Prelude.{not, if◌then◌else◌}
use Rattle.std.proofs.lemmas.Bool.{false_from_ne_true, or_left}
use Rattle.dtx_values.specs.declared.end.End.{End}
use Rattle.dtx_values.specs.declared.entry.Entry.{Entry}
use Rattle.dtx_values.specs.declared.entry.Entry.TheVariants.{Down as Ended, Got, Sent, Stopped, Restarted}
use Rattle.dtx_values.specs.declared.message.Conn.{Conn}
use Rattle.dtx_values.specs.declared.message.Dir.TheVariants.{Up, Down}
use Rattle.dtx_values.specs.declared.message.Message.{Message}
use Rattle.dtx_values.specs.Ends.{end_order, is_end_of, knows, note_end, note_got, note_sent, order_of, tag_of, with_opened, with_tag}
use Rattle.dtx_values.specs.Lines.{has_line, is_opening}
use Rattle.dtx_values.specs.Table.{insert_by}
use Rattle.dtx_model.specs.Coordinated.{coordinate, follow, without}
use Rattle.dtx_model.specs.Entries.{is_promoted}
use Rattle.dtx_model.specs.Observed.{cause_of_promotion, ends_of, is_promotion_failed, observe}
use Rattle.dtx_model.specs.Wires.{WireRun, ended_after, ends, in_transit, is_ended, is_kept, is_stopped, loses, lost_since, opens, same_connection, without_first}
use Rattle.dtx_model.specs.Words.{has, latest}
use Rattle.dtx_model.proofs.Bools.{and_both, and_left, and_never, and_right, not_both, not_false, not_true, or_case, or_false, or_right}
use Rattle.history_table.proofs.Lists.{has_kept, has-insert, if_kept}
use Rattle.history_table.proofs.Owned.{has_filter}
use Rattle.history_table.proofs.Scans.{has_more}
use Rattle.dtx_model.proofs.Connections.{same_self, same_is}
use Rattle.history_table.proofs.Crossed.{IsStill, end_still, nothing_up, no_end_up, still_more, still_silent, stopped_down}
use Rattle.history_table.proofs.Leading.{opening_was_sent}
use Rattle.history_table.proofs.Reenlisted.{opened_since}
use Rattle.history_table.proofs.HalfKnows.{cause_seen}
use Rattle.history_table.proofs.Table.{is_opening_got}
use Rattle.world_laws.proofs.SendingApt.{can_same, can_send, ended_same}
use Rattle.world_laws.proofs.SendingBlocks.{Hears, Speaks}
use Rattle.history_table.proofs.Tests.{not_up}

no : false ≡ true → ⊥
no e = absurd cc

-- The local side. A connection that is just opened can be sent on.
opened_can : (c : Conn) (x : Entry) (h : List Entry) → opens c x ≡ true → can_send c Up (x ∷ h) ≡ true
opened_can c x h o = by (opens c x) (lost_since c h) o
  where
    by : (b : Bool) (l : Option Bool) → b ≡ true
        → (is_some (elim l as (λ z. Option Bool) [ Some y ↦ if b then Some (is_stopped h) else Some (y || loses c x) | None ↦ if b then Some (is_stopped h) else None ])
        && not (ended_after b false (ends c Down x || is_ended c Down h))) ≡ true
    by true (Some y) o = refl
    by true None o = refl
    by false l o = absurd cc

abbrev is_known : Conn → End → Bool
is_known c n = is_end_of c n && not n.ended

-- the ends after a message that opens a connection
opened_known : (c e : Conn) (tag : ℕ) (ns : List End) → same_connection c e ≡ false → knows c (with_opened e tag ns) ≡ true → knows c ns ≡ true
opened_known c e tag ns n k =
    let new : End = record { connection = e; sent = with_tag tag 0; got = 0; ended = false } in
    let others = filter (λ x. not (is_end_of e x)) ns in
    or_case (same_connection c e && true) (has (is_known c) others) (λ s. absurd (not_both (same_connection c e) (and_left (same_connection c e) true s) n))
    (λ s. has_more (λ x. is_known c x && not (is_end_of e x)) (is_known c) (λ x t. and_left (is_known c x) (not (is_end_of e x)) t) ns (sym (has_filter (is_known c) (λ x. not (is_end_of e x)) ns) ∙ s))
    (sym (has-insert (is_known c) end_order new others) ∙ k)

sent_known : (c e : Conn) (tag : ℕ) (ns : List End) → knows c (map (note_sent e tag) ns) ≡ knows c ns
sent_known c e tag ns =
    has_kept (is_known c) (note_sent e tag)
    (λ n. if_kept (is_known c) (is_end_of e n) (record { connection = n.connection; sent = with_tag tag n.sent; got = n.got; ended = n.ended }) n refl) ns

got_known : (c e : Conn) (tag : ℕ) (ns : List End) → knows c (map (note_got e tag) ns) ≡ knows c ns
got_known c e tag ns =
    has_kept (is_known c) (note_got e tag)
    (λ n. if_kept (is_known c) (is_end_of e n) (record { connection = n.connection; sent = n.sent; got = with_tag tag n.got; ended = n.ended }) n refl) ns

-- whose end is seen isn't known any more
end_known : (c e : Conn) (ns : List End) → knows c (map (note_end e) ns) ≡ true → (same_connection c e ≡ false) × (knows c ns ≡ true)
end_known c e [] k = absurd (no k)
end_known c e (n ∷ ns) k =
    or_case (is_known c (note_end e n)) (knows c (map (note_end e) ns)) (λ t. here (is_end_of e n) refl t)
    (λ t. let w = end_known c e ns t in (w.0, or_right (is_known c n) (knows c ns) w.1)) k
  where
    here : (b : Bool) → is_end_of e n ≡ b → is_known c (if b then record { connection = n.connection; sent = n.sent; got = n.got; ended = true } else n) ≡ true
        → (same_connection c e ≡ false) × ((is_known c n || knows c ns) ≡ true)
    here true q t = absurd (not_both false (and_right (is_end_of c n) false t) refl)
    here false q t = (apart_by q t, or_left (is_known c n) (knows c ns) t)
      where
        apart_by : is_end_of e n ≡ false → is_known c n ≡ true → same_connection c e ≡ false
        apart_by q t =
            let at = same_is c n.connection (and_left (is_end_of c n) (not n.ended) t) in
            false_from_ne_true (same_connection c e)
            (λ s. not_both (is_end_of e n) (let P : Conn → Type 0 = λ x. same_connection x n.connection ≡ true in subst P (same_is c e s) (and_left (is_end_of c n) (not n.ended) t)) q)

stays_up : (c : Conn) (x : Entry) (h : List Entry) → opens c x ≡ false → ends c Down x ≡ false → can_send c Up h ≡ true → can_send c Up (x ∷ h) ≡ true
stays_up c x h n m k = can_same c Up h x n m ∙ k

lined : (a b : Bool) → b ≡ true → (a && true && not b) ≡ false
lined true true e = refl
lined true false e = absurd cc
lined false b e = refl

not_same : (a b : Bool) → a ≡ false → (a && true && b) ≡ false
not_same true b e = absurd cc
not_same false b e = refl

-- what the local side knows it may send on
pub known_up : (c : Conn) (h : List Entry) → knows c (ends_of h) ≡ true → can_send c Up h ≡ true
known_up c [] k = absurd (no k)
known_up c (Sent e Up m ∷ h) k = step (λ t. known_up c h t) (is_opening e m) refl k
  where
    step : (knows c (ends_of h) ≡ true → can_send c Up h ≡ true) → (o : Bool) → is_opening e m ≡ o → knows c (if o then with_opened e (tag_of m) (ends_of h) else map (note_sent e (tag_of m)) (ends_of h)) ≡ true → can_send c Up (Sent e Up m ∷ h) ≡ true
    step ih true q k = by ih (same_connection c e) refl k
      where
        by : (knows c (ends_of h) ≡ true → can_send c Up h ≡ true) → (s : Bool) → same_connection c e ≡ s → knows c (with_opened e (tag_of m) (ends_of h)) ≡ true → can_send c Up (Sent e Up m ∷ h) ≡ true
        by ih true s k = opened_can c (Sent e Up m) h (and_both (same_connection c e) (is_opening e m) s q)
        by ih false s k = stays_up c (Sent e Up m) h (ap (λ b. b && is_opening e m) s) refl (ih (opened_known c e (tag_of m) (ends_of h) s k))
    step ih false q k = stays_up c (Sent e Up m) h (ap (λ b. same_connection c e && b) q ∙ and_never (same_connection c e)) refl (ih (sym (sent_known c e (tag_of m) (ends_of h)) ∙ k))
known_up c (Got e Down m ∷ h) k = step (λ t. known_up c h t) (has_line e Down m) refl k
  where
    step : (knows c (ends_of h) ≡ true → can_send c Up h ≡ true) → (l : Bool) → has_line e Down m ≡ l → knows c (if l then map (note_got e (tag_of m)) (ends_of h) else map (note_end e) (ends_of h)) ≡ true → can_send c Up (Got e Down m ∷ h) ≡ true
    step ih true q k = stays_up c (Got e Down m) h refl (lined (same_connection c e) (has_line e Down m) q) (ih (sym (got_known c e (tag_of m) (ends_of h)) ∙ k))
    step ih false q k = let w = end_known c e (ends_of h) k in stays_up c (Got e Down m) h refl (not_same (same_connection c e) (not (has_line e Down m)) w.0) (ih w.1)
known_up c (Ended e Down ∷ h) k =
    let w = end_known c e (ends_of h) k in
    stays_up c (Ended e Down) h refl (ap (λ b. b && true) w.0) (known_up c h w.1)
known_up c (Got e Up m ∷ h) k = stays_up c (Got e Up m) h refl (not_up (same_connection c e) (not (has_line e Up m))) (known_up c h k)
known_up c (Ended e Up ∷ h) k = stays_up c (Ended e Up) h refl (and_never (same_connection c e)) (known_up c h k)
known_up c (x ∷ h) k = stays_up c x h refl refl (known_up c h k)

-- the local side may send on what it knows, and where it is promoting, a promotion began
pub hears : (h : List Entry) → Hears h (observe h)
unfolding observe
hears h =
    let cause = is_some (latest cause_of_promotion h) in
    let open' = not (has is_promoted h) in
    record {
      up = λ c k. known_up c h k;
      promoting = λ k. sym (cause_seen h) ∙ and_left cause open' (and_left (cause && open') (not (has is_promotion_failed h)) k);
    }

-- The coordinator. Where it has seen an end, nothing is on the way to it.
pub ended_still : (c : Conn) (h : List Entry) → WireRun h → is_ended c Up h ≡ true → IsStill c Up h
ended_still c [] w k = absurd (no k)
ended_still c (x ∷ h) w k = step (λ t. ended_still c h w.1 t) (opens c x) refl k
  where
    stop_same : (x : Entry) → opens c x ≡ true → is_stopped h ≡ true → is_stopped (x ∷ h) ≡ true
    stop_same (Sent e r m) o s = s
    stop_same _ o s = absurd (no o)

    lost : (e : Conn) (m : Message) → same_connection c e ≡ true → has_line e Up m ≡ false → IsStill c Up (Got e Up m ∷ h)
    lost e m s l = record { none = none (same_connection c e) (has_line e Up m) s l; shut = shut (same_connection c e) (has_line e Up m) (lost_since c h) s l }
      where
        none : (s l : Bool) → s ≡ true → l ≡ false → (if not s then in_transit c Up h else if not l then [] else without_first (in_transit c Up h)) ≡ []
        none true false p q = refl
        none true true p q = absurd cc
        none false l p q = absurd cc

        shut : (s l : Bool) (o : Option Bool) → s ≡ true → l ≡ false → is_kept (elim o as (λ z. Option Bool) [ Some y ↦ Some (y || (s && not l)) | None ↦ None ]) ≡ false
        shut true false (Some true) p q = refl
        shut true false (Some false) p q = refl
        shut true false None p q = refl
        shut true true o p q = absurd cc
        shut false l o p q = absurd cc

    here : (x : Entry) → WireRun (x ∷ h) → ends c Up x ≡ true → IsStill c Up (x ∷ h)
    here (Ended e Up) w t =
        let P : Conn → Type 0 = λ y. IsStill y Up (Ended e Up ∷ h) in subst P (sym (same_is c e (and_left (same_connection c e) true t))) (end_still e Up h w.0)
    here (Ended e Down) w t = absurd (not_both (same_connection c e && false) t (and_never (same_connection c e)))
    here (Got e Up m) w t =
        lost e m (and_left (same_connection c e) true (and_left (same_connection c e && true) (not (has_line e Up m)) t)) (not_true (has_line e Up m) (and_right (same_connection c e && true) (not (has_line e Up m)) t))
    here (Got e Down m) w t = absurd (not_both (same_connection c e && false && not (has_line e Down m)) t (not_up (same_connection c e) (not (has_line e Down m))))
    here Stopped w t = (stopped_down c (Stopped ∷ h) refl).still
    here _ w t = absurd (no t)

    step : (is_ended c Up h ≡ true → IsStill c Up h) → (o : Bool) → opens c x ≡ o → ended_after o (is_stopped h) (ends c Up x || is_ended c Up h) ≡ true → IsStill c Up (x ∷ h)
    step ih true q t = (stopped_down c (x ∷ h) (stop_same x q t)).still
    step ih false q t =
        or_case (ends c Up x) (is_ended c Up h) (λ a. here x w a)
        (λ a. still_more c Up x h (λ m o. absurd (not_both (opens c x) o q)) (λ o. absurd (not_both (opens c x) o q)) (ih a)) t

-- It knows no connection while it stands stopped.
pub stopped_empty : (h : List Entry) → WireRun h → is_stopped h ≡ true → (coordinate h).known ≡ []
unfolding coordinate follow
stopped_empty [] w s = refl
stopped_empty (Stopped ∷ h) w s = refl
stopped_empty (Restarted found ∷ h) w s = absurd (no s)
stopped_empty (Got c Up m ∷ h) w s = absurd (nothing_up c m h s w.0)
stopped_empty (Ended c Up ∷ h) w s = absurd (no_end_up c h s w.0)
stopped_empty (x ∷ h) w s = stopped_empty h w.1 s

stays_down : (c : Conn) (x : Entry) (h : List Entry) → opens c x ≡ false → ends c Up x ≡ false → can_send c Down h ≡ true → can_send c Down (x ∷ h) ≡ true
stays_down c x h n m k = can_same c Down h x n m ∙ k

-- the connection isn't this one where it is known without this one
known_without : (c e : Conn) (cs : List Conn) → has (same_connection c) (without e cs) ≡ true → (same_connection c e ≡ false) × (has (same_connection c) cs ≡ true)
known_without c e cs k =
    let t = sym (has_filter (same_connection c) (λ d. not (same_connection e d)) cs) ∙ k in (
      false_from_ne_true (same_connection c e) (λ s. not_both (has (λ d. same_connection c d && not (same_connection e d)) cs) t (none (same_is c e s) cs)),
      has_more (λ d. same_connection c d && not (same_connection e d)) (same_connection c) (λ d a. and_left (same_connection c d) (not (same_connection e d)) a) cs t,
    )
  where
    both_not : (b : Bool) → (b && not b) ≡ false
    both_not true = refl
    both_not false = refl

    none : c ≡ e → (cs : List Conn) → has (λ d. same_connection c d && not (same_connection e d)) cs ≡ false
    none q [] = refl
    none q (d ∷ cs) =
        or_false (same_connection c d && not (same_connection e d)) (has (λ d. same_connection c d && not (same_connection e d)) cs)
        (let P : Conn → Type 0 = λ y. (same_connection c d && not (same_connection y d)) ≡ false in subst P q (both_not (same_connection c d))) (none q cs)

-- what is opened while it runs hasn't ended
opened_down : (c : Conn) (x : Entry) (h : List Entry) → opens c x ≡ true → is_stopped h ≡ false → can_send c Down (x ∷ h) ≡ true
opened_down c x h o s = by (opens c x) (is_stopped h) (lost_since c h) o s
  where
    by : (b z : Bool) (l : Option Bool) → b ≡ true → z ≡ false
        → (is_some (elim l as (λ z. Option Bool) [ Some y ↦ if b then Some z else Some (y || loses c x) | None ↦ if b then Some z else None ])
        && not (ended_after b z (ends c Up x || is_ended c Up h))) ≡ true
    by true false (Some y) o s = refl
    by true false None o s = refl
    by true true l o s = absurd cc
    by false z l o s = absurd cc

-- the message that opened it came: nothing ended it
come_down : (c : Conn) (m : Message) (h : List Entry) → WireRun (Got c Up m ∷ h) → is_opening c m ≡ true → has_line c Up m ≡ true → can_send c Down (Got c Up m ∷ h) ≡ true
come_down c m h w o l =
    let x = Got c Up m in
    let got : has (is_opening_got c) (x ∷ h) ≡ true = or_left (same_connection c c && is_opening c m) (has (is_opening_got c) h) (and_both (same_connection c c) (is_opening c m) (same_self c) o) in
    let opened = opened_since c (x ∷ h) (opening_was_sent c (x ∷ h) w got) in
    let open' : is_ended c Up h ≡ false = false_from_ne_true (is_ended c Up h) (λ t. still_silent c Up m h (ended_still c h w.1 t) w.0) in
    and_both (is_some (lost_since c (x ∷ h))) (not (is_ended c Up (x ∷ h))) opened
    (not_false (is_ended c Up (x ∷ h)) (ended_same c Up h x refl (lined (same_connection c c) (has_line c Up m) l) ∙ open'))

-- what the coordinator knows it may send on
pub known_down : (c : Conn) (h : List Entry) → WireRun h → has (same_connection c) (coordinate h).known ≡ true → can_send c Down h ≡ true
unfolding coordinate follow
known_down c [] w k = absurd (no k)
known_down c (Got e Up m ∷ h) w k = step (λ t. known_down c h w.1 t) (has_line e Up m) (is_opening e m) refl refl k
  where
    step : (has (same_connection c) (coordinate h).known ≡ true → can_send c Down h ≡ true) → (l o : Bool) → has_line e Up m ≡ l → is_opening e m ≡ o
        → has (same_connection c) (if not l then without e (coordinate h).known else if o then insert_by order_of e (without e (coordinate h).known) else (coordinate h).known) ≡ true
        → can_send c Down (Got e Up m ∷ h) ≡ true
    step ih false o p q k = let t = known_without c e (coordinate h).known k in stays_down c (Got e Up m) h refl (not_same (same_connection c e) (not (has_line e Up m)) t.0) (ih t.1)
    step ih true false p q k = stays_down c (Got e Up m) h refl (lined (same_connection c e) (has_line e Up m) p) (ih k)
    step ih true true p q k =
        or_case (same_connection c e) (has (same_connection c) (without e (coordinate h).known))
        (λ s. let P : Conn → Type 0 = λ y. can_send y Down (Got e Up m ∷ h) ≡ true in subst P (sym (same_is c e s)) (come_down e m h w q p))
        (λ t. let u = known_without c e (coordinate h).known t in stays_down c (Got e Up m) h refl (not_same (same_connection c e) (not (has_line e Up m)) u.0) (ih u.1))
        (sym (has-insert (same_connection c) order_of e (without e (coordinate h).known)) ∙ k)
known_down c (Ended e Up ∷ h) w k =
    let t = known_without c e (coordinate h).known k in stays_down c (Ended e Up) h refl (ap (λ b. b && true) t.0) (known_down c h w.1 t.1)
known_down c (Stopped ∷ h) w k = absurd (no k)
known_down c (Sent e r m ∷ h) w k = step (known_down c h w.1 k) (opens c (Sent e r m)) refl
  where
    step : can_send c Down h ≡ true → (b : Bool) → opens c (Sent e r m) ≡ b → can_send c Down (Sent e r m ∷ h) ≡ true
    step ih true q =
        opened_down c (Sent e r m) h q
        (false_from_ne_true (is_stopped h) (λ s. not_both (has (same_connection c) (coordinate h).known) k (ap (has (same_connection c)) (stopped_empty h w.1 s))))
    step ih false q = stays_down c (Sent e r m) h q refl ih
known_down c (Got e Down m ∷ h) w k = stays_down c (Got e Down m) h refl (not_up (same_connection c e) (not (has_line e Down m))) (known_down c h w.1 k)
known_down c (Ended e Down ∷ h) w k = stays_down c (Ended e Down) h refl (and_never (same_connection c e)) (known_down c h w.1 k)
known_down c (x ∷ h) w k = stays_down c x h refl refl (known_down c h w.1 k)

-- the coordinator may send on what it knows
pub speaks : (h : List Entry) → WireRun h → Speaks h (coordinate h)
speaks h w = record { down = λ c k. known_down c h w k }
