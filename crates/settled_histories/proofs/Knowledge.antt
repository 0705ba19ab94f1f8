-- What each side knows of a connection whose end it didn't see: the local side each that it opened, and what it heard there; the coordinator each of which it
-- got the opening message.
use Rattle.std.proofs.Common.{Bool, ◌&&◌, ◌≡◌, ℕ, List, refl, true, false, ◌∙◌, subst, ◌||◌, [], ◌∷◌, sym}
use Rattle.std.specs.Prelude.{not, map, filter, if◌then◌else◌}
use Rattle.std.proofs.lemmas.Bool.{or_left}
use Rattle.dtx_values.specs.declared.end.End.{End}
use Rattle.dtx_values.specs.declared.entry.Entry.{Entry}
use Rattle.dtx_values.specs.declared.entry.Entry.TheVariants.{Sent, Got, Down as Ended, Stopped}
use Rattle.dtx_values.specs.declared.message.Conn.{Conn}
use Rattle.dtx_values.specs.declared.message.Conn.TheVariants.{Voter}
use Rattle.dtx_values.specs.declared.message.Dir.{Dir}
use Rattle.dtx_values.specs.declared.message.Dir.TheVariants.{Up, Down}
use Rattle.dtx_values.specs.declared.message.Message.{Message}
use Rattle.dtx_values.specs.declared.message.Message.TheVariants.{VoterAsk}
use Rattle.dtx_values.specs.Ends.{is_end_of, knows, note_sent, with_tag, note_got, end_order, same_connection, with_opened, note_end, tag_of, is_in, was_got, order_of}
use Rattle.dtx_values.specs.Lines.{has_line, is_opening}
use Rattle.dtx_values.specs.Table.{insert_by}
use Rattle.dtx_model.specs.Words.{has}
use Rattle.dtx_model.specs.Wires.{opens}
use Rattle.dtx_model.specs.Observed.{ends_of}
use Rattle.dtx_model.specs.Coordinated.{without, coordinate, follow}
use Rattle.dtx_model.proofs.Bools.{and_both, and_left, or_first, or_second, and_right, not_both, not_false, or_case}
use Rattle.dtx_model.proofs.Connections.{same_is}
use Rattle.history_table.proofs.Lists.{has_kept, if_kept, has-insert}
use Rattle.history_table.proofs.HalfKnows.{other_stays, with_other, with_own}
use Rattle.history_table.proofs.Crossed.{is_got_on}
use Rattle.history_table.proofs.CoreKnown.{has_made}
use Rattle.history_table.proofs.Owned.{has_filter}
use Rattle.history_table.proofs.Scans.{has_more}
use Rattle.settled_histories.proofs.Wired.{IsWired, is_end_on, newest, wired_before, opened_new}
use Rattle.settled_histories.proofs.Openings.{got_opened}
use Rattle.settled_histories.proofs.MessageKinds.{ASK}
use Rattle.settled_histories.proofs.Debts.{knows_there}

-- The local side. A connection that is known stays known with a message that is sent or got on any.
abbrev pub is_known_end : Conn → End → Bool
is_known_end c n = is_end_of c n && not n.ended

sent_known_end : (c e : Conn) (tag : ℕ) (ns : List End) → knows c (map (note_sent e tag) ns) ≡ knows c ns
sent_known_end c e tag ns =
    has_kept (is_known_end c) (note_sent e tag)
    (λ n. if_kept (is_known_end c) (is_end_of e n) (record { connection = n.connection; sent = with_tag tag n.sent; got = n.got; ended = n.ended }) n refl) ns

got_known_end : (c e : Conn) (tag : ℕ) (ns : List End) → knows c (map (note_got e tag) ns) ≡ knows c ns
got_known_end c e tag ns =
    has_kept (is_known_end c) (note_got e tag)
    (λ n. if_kept (is_known_end c) (is_end_of e n) (record { connection = n.connection; sent = n.sent; got = with_tag tag n.got; ended = n.ended }) n refl) ns

-- a connection that is opened is known
opened_known : (c e : Conn) (tag : ℕ) (ns : List End) → same_connection c e ≡ true → knows c (with_opened e tag ns) ≡ true
opened_known c e tag ns s =
    let new : End = record { connection = e; sent = with_tag tag 0; got = 0; ended = false } in
    has-insert (is_known_end c) end_order new (filter (λ n. not (is_end_of e n)) ns)
    ∙ or_left (same_connection c e && true) (knows c (filter (λ n. not (is_end_of e n)) ns)) (and_both (same_connection c e) true s refl)

-- the end of another connection leaves it
other_end : (c e : Conn) (ns : List End) → same_connection c e ≡ false → knows c (map (note_end e) ns) ≡ knows c ns
other_end c e ns other = has_kept (is_known_end c) (note_end e) (λ n. by n (is_end_of e n) refl) ns
  where
    apart : (a b d : Bool) → a ≡ false → (a && b) ≡ (a && d)
    apart true b d k = absurd cc
    apart false b d k = refl

    by : (n : End) (b : Bool) → is_end_of e n ≡ b
        → is_known_end c (if b then record { connection = n.connection; sent = n.sent; got = n.got; ended = true } else n) ≡ is_known_end c n
    by n false q = refl
    by n true q =
        let P : Conn → Type 0 = λ x. same_connection c x ≡ false in apart (same_connection c n.connection) false (not n.ended) (subst P (same_is e n.connection q) other)

and_first : (a : Bool) → (a && true) ≡ false → a ≡ false
and_first true k = k
and_first false k = refl

-- so each that was opened is known, where its end wasn't seen
pub knows_where : (c : Conn) (h : List Entry) → IsWired h → has (opens c) h ≡ true → has (is_end_on c Down) h ≡ false → knows c (ends_of h) ≡ true
knows_where c [] w k n = absurd cc
knows_where c (Sent e Up m ∷ h) w k n = step (λ q. knows_where c h (wired_before (Sent e Up m) h w) q n) (same_connection c e) (is_opening e m) refl k
  where
    step : (has (opens c) h ≡ true → knows c (ends_of h) ≡ true) → (s o : Bool) → same_connection c e ≡ s → ((s && o) || has (opens c) h) ≡ true
        → knows c (if o then with_opened e (tag_of m) (ends_of h) else map (note_sent e (tag_of m)) (ends_of h)) ≡ true
    step ih true true q k = opened_known c e (tag_of m) (ends_of h) q
    step ih false true q k = other_stays c e (is_known_end c) (tag_of m) (ends_of h) q (λ n a. and_left (is_end_of c n) (not n.ended) a) (ih k)
    step ih true false q k = sent_known_end c e (tag_of m) (ends_of h) ∙ ih k
    step ih false false q k = sent_known_end c e (tag_of m) (ends_of h) ∙ ih k
knows_where c (Got e Down m ∷ h) w k n = step (knows_where c h (wired_before (Got e Down m) h w) k n) (has_line e Down m) (newest (Got e Down m) h w)
  where
    step : knows c (ends_of h) ≡ true → (l : Bool) → l ≡ true → knows c (if l then map (note_got e (tag_of m)) (ends_of h) else map (note_end e) (ends_of h)) ≡ true
    step ih true l = got_known_end c e (tag_of m) (ends_of h) ∙ ih
    step ih false l = absurd cc
knows_where c (Ended e Down ∷ h) w k n =
    other_end c e (ends_of h) (and_first (same_connection c e) (or_first (same_connection c e && true) (has (is_end_on c Down) h) n))
    ∙ knows_where c h (wired_before (Ended e Down) h w) k (or_second (same_connection c e && true) (has (is_end_on c Down) h) n)
knows_where c (x ∷ h) w k n = knows_where c h (wired_before x h w) k (or_second (is_end_on c Down x) (has (is_end_on c Down) h) n)

-- so a connection on which something was sent or got is known
pub knows_got : (c : Conn) (d : Dir) (p : Message → Bool) (h : List Entry) → IsWired h → has (is_got_on c d p) h ≡ true → has (is_end_on c Down) h ≡ false → knows c (ends_of h) ≡ true
knows_got c d p h w k n = knows_where c h w (got_opened c d p h w k) n

-- Each that was opened is noted, also where its end was seen.
noted_sent : (c e : Conn) (tag : ℕ) (ns : List End) → has (is_end_of c) (map (note_sent e tag) ns) ≡ has (is_end_of c) ns
noted_sent c e tag ns =
    has_kept (is_end_of c) (note_sent e tag)
    (λ n. if_kept (is_end_of c) (is_end_of e n) (record { connection = n.connection; sent = with_tag tag n.sent; got = n.got; ended = n.ended }) n refl) ns

noted_got : (c e : Conn) (tag : ℕ) (ns : List End) → has (is_end_of c) (map (note_got e tag) ns) ≡ has (is_end_of c) ns
noted_got c e tag ns =
    has_kept (is_end_of c) (note_got e tag)
    (λ n. if_kept (is_end_of c) (is_end_of e n) (record { connection = n.connection; sent = n.sent; got = with_tag tag n.got; ended = n.ended }) n refl) ns

noted_end : (c e : Conn) (ns : List End) → has (is_end_of c) (map (note_end e) ns) ≡ has (is_end_of c) ns
noted_end c e ns =
    has_kept (is_end_of c) (note_end e) (λ n. if_kept (is_end_of c) (is_end_of e n) (record { connection = n.connection; sent = n.sent; got = n.got; ended = true }) n refl) ns

pub opened_noted : (c : Conn) (h : List Entry) → IsWired h → has (opens c) h ≡ true → has (is_end_of c) (ends_of h) ≡ true
opened_noted c [] w k = absurd cc
opened_noted c (Sent e Up m ∷ h) w k = step (opened_noted c h (wired_before (Sent e Up m) h w)) (same_connection c e) (is_opening e m) refl k
  where
    opened : same_connection c e ≡ true → has (is_end_of c) (with_opened e (tag_of m) (ends_of h)) ≡ true
    opened s =
        let new : End = record { connection = e; sent = with_tag (tag_of m) 0; got = 0; ended = false } in
        has-insert (is_end_of c) end_order new (filter (λ n. not (is_end_of e n)) (ends_of h))
        ∙ or_left (same_connection c e) (has (is_end_of c) (filter (λ n. not (is_end_of e n)) (ends_of h))) s

    step : (has (opens c) h ≡ true → has (is_end_of c) (ends_of h) ≡ true) → (s o : Bool) → same_connection c e ≡ s → ((s && o) || has (opens c) h) ≡ true
        → has (is_end_of c) (if o then with_opened e (tag_of m) (ends_of h) else map (note_sent e (tag_of m)) (ends_of h)) ≡ true
    step ih true true q k = opened q
    step ih false true q k = other_stays c e (is_end_of c) (tag_of m) (ends_of h) q (λ n a. a) (ih k)
    step ih true false q k = noted_sent c e (tag_of m) (ends_of h) ∙ ih k
    step ih false false q k = noted_sent c e (tag_of m) (ends_of h) ∙ ih k
opened_noted c (Got e Down m ∷ h) w k = step (opened_noted c h (wired_before (Got e Down m) h w) k) (has_line e Down m)
  where
    step : has (is_end_of c) (ends_of h) ≡ true → (l : Bool) → has (is_end_of c) (if l then map (note_got e (tag_of m)) (ends_of h) else map (note_end e) (ends_of h)) ≡ true
    step ih true = noted_got c e (tag_of m) (ends_of h) ∙ ih
    step ih false = noted_end c e (ends_of h) ∙ ih
opened_noted c (Ended e Down ∷ h) w k = noted_end c e (ends_of h) ∙ opened_noted c h (wired_before (Ended e Down) h w) k
opened_noted c (x ∷ h) w k = opened_noted c h (wired_before x h w) k

abbrev pub is_heard_end : Conn → ℕ → End → Bool
is_heard_end c tag n = is_end_of c n && is_in tag n.got

heard_sent : (c e : Conn) (tag other : ℕ) (ns : List End) → was_got c tag (map (note_sent e other) ns) ≡ was_got c tag ns
heard_sent c e tag other ns =
    has_kept (is_heard_end c tag) (note_sent e other)
    (λ n. if_kept (is_heard_end c tag) (is_end_of e n) (record { connection = n.connection; sent = with_tag other n.sent; got = n.got; ended = n.ended }) n refl) ns

heard_got : (c e : Conn) (tag other : ℕ) (ns : List End) → was_got c tag ns ≡ true → was_got c tag (map (note_got e other) ns) ≡ true
heard_got c e tag other ns k = has_made (is_heard_end c tag) (is_heard_end c tag) (note_got e other) (λ n a. step n (is_end_of e n) a) ns k
  where
    step : (n : End) (b : Bool) → is_heard_end c tag n ≡ true
        → is_heard_end c tag (if b then record { connection = n.connection; sent = n.sent; got = with_tag other n.got; ended = n.ended } else n) ≡ true
    step n true a = and_both (is_end_of c n) (is_in tag (with_tag other n.got)) (and_left (is_end_of c n) (is_in tag n.got) a) (with_other tag other n.got (and_right (is_end_of c n) (is_in tag n.got) a))
    step n false a = a

heard_end : (c e : Conn) (tag : ℕ) (ns : List End) → was_got c tag (map (note_end e) ns) ≡ was_got c tag ns
heard_end c e tag ns =
    has_kept (is_heard_end c tag) (note_end e)
    (λ n. if_kept (is_heard_end c tag) (is_end_of e n) (record { connection = n.connection; sent = n.sent; got = n.got; ended = true }) n refl) ns

heard_own : (c : Conn) (tag : ℕ) (ns : List End) → has (is_end_of c) ns ≡ true → was_got c tag (map (note_got c tag) ns) ≡ true
heard_own c tag ns k = has_made (is_end_of c) (is_heard_end c tag) (note_got c tag) (λ n a. step n (is_end_of c n) refl a) ns k
  where
    step : (n : End) (b : Bool) → is_end_of c n ≡ b → b ≡ true
        → is_heard_end c tag (if b then record { connection = n.connection; sent = n.sent; got = with_tag tag n.got; ended = n.ended } else n) ≡ true
    step n true q a = and_both (is_end_of c n) (is_in tag (with_tag tag n.got)) q (with_own tag n.got)
    step n false q a = absurd cc

-- a message in the other direction is another
pub elsewhere : (a b r : Bool) → ((a && false && b) || r) ≡ true → r ≡ true
elsewhere true b r k = k
elsewhere false b r k = k

-- what was asked of the voter is noted
pub ask_heard : (h : List Entry) → IsWired h → has (is_got_on Voter Down ASK) h ≡ true → was_got Voter (tag_of VoterAsk) (ends_of h) ≡ true
ask_heard [] w k = absurd cc
ask_heard (Sent e Up m ∷ h) w k = by (ask_heard h past k) (is_opening e m) refl (same_connection Voter e) refl
  where
    past : IsWired h
    past = wired_before (Sent e Up m) h w

    opened : has (opens Voter) h ≡ true
    opened = got_opened Voter Down ASK h past k

    by : was_got Voter (tag_of VoterAsk) (ends_of h) ≡ true → (o : Bool) → is_opening e m ≡ o → (s : Bool) → same_connection Voter e ≡ s
        → was_got Voter (tag_of VoterAsk) (if o then with_opened e (tag_of m) (ends_of h) else map (note_sent e (tag_of m)) (ends_of h)) ≡ true
    by ih true f true q = absurd (not_both (has (opens Voter) h) opened (opened_new Voter (Sent e Up m) h w refl (and_both (same_connection Voter e) (is_opening e m) q f)))
    by ih true f false q = other_stays Voter e (is_heard_end Voter (tag_of VoterAsk)) (tag_of m) (ends_of h) q (λ n a. and_left (is_end_of Voter n) (is_in (tag_of VoterAsk) n.got) a) ih
    by ih false f s q = heard_sent Voter e (tag_of VoterAsk) (tag_of m) (ends_of h) ∙ ih
ask_heard (Got Voter Down VoterAsk ∷ h) w k =
    heard_own Voter (tag_of VoterAsk) (ends_of h)
    (opened_noted Voter h (wired_before (Got Voter Down VoterAsk) h w) (got_opened Voter Down ASK (Got Voter Down VoterAsk ∷ h) w refl))
ask_heard (Got e Down m ∷ h) w k = step (ask_heard h (wired_before (Got e Down m) h w) k) (has_line e Down m) (newest (Got e Down m) h w)
  where
    step : was_got Voter (tag_of VoterAsk) (ends_of h) ≡ true → (l : Bool) → l ≡ true
        → was_got Voter (tag_of VoterAsk) (if l then map (note_got e (tag_of m)) (ends_of h) else map (note_end e) (ends_of h)) ≡ true
    step ih true l = heard_got Voter e (tag_of VoterAsk) (tag_of m) (ends_of h) ih
    step ih false l = absurd cc
ask_heard (Got e Up m ∷ h) w k = ask_heard h (wired_before (Got e Up m) h w) (elsewhere (same_connection Voter e) (ASK m) (has (is_got_on Voter Down ASK) h) k)
ask_heard (Ended e Down ∷ h) w k = heard_end Voter e (tag_of VoterAsk) (ends_of h) ∙ ask_heard h (wired_before (Ended e Down) h w) k
ask_heard (x ∷ h) w k = ask_heard h (wired_before x h w) k

-- The coordinator. A connection that is known stays known where another is opened, and where another ends.
pub known_without : (c d : Conn) (ks : List Conn) → same_connection c d ≡ false → has (same_connection c) ks ≡ true → has (same_connection c) (without d ks) ≡ true
known_without c d ks e k =
    has_filter (same_connection c) (λ x. not (same_connection d x)) ks
    ∙ has_more (same_connection c) (λ x. same_connection c x && not (same_connection d x)) (λ x a. and_both (same_connection c x) (not (same_connection d x)) a (apart x a)) ks k
  where
    apart : (x : Conn) → same_connection c x ≡ true → not (same_connection d x) ≡ true
    apart x a =
        not_false (same_connection d x)
        (by (same_connection d x) (λ s. not_both (same_connection c d) (let P : Conn → Type 0 = λ y. same_connection c y ≡ true in subst P (sym (same_is d x s)) a) e))
      where
        by : (b : Bool) → (b ≡ true → ⊥) → b ≡ false
        by true f = absurd (f refl)
        by false f = refl

pub known_still : (c d : Conn) (ks : List Conn) → has (same_connection c) ks ≡ true → has (same_connection c) (insert_by order_of d (without d ks)) ≡ true
known_still c d ks k = has-insert (same_connection c) order_of d (without d ks) ∙ step (same_connection c d) refl
  where
    step : (b : Bool) → same_connection c d ≡ b → (b || has (same_connection c) (without d ks)) ≡ true
    step true e = refl
    step false e = known_without c d ks e k

-- a connection whose opening message was got is known, where its end wasn't seen
pub opening_known : (c : Conn) (h : List Entry) → IsWired h → has (is_got_on c Up (is_opening c)) h ≡ true → has (is_end_on c Up) h ≡ false → knows_there c h ≡ true
unfolding coordinate follow
opening_known c [] w k n = absurd cc
opening_known c (Got e Up m ∷ h) w k n = step (λ a. opening_known c h (wired_before (Got e Up m) h w) a n) (has_line e Up m) (newest (Got e Up m) h w)
  where
    own : (same_connection c e && true && is_opening c m) ≡ true → has (same_connection c) (if is_opening e m then insert_by order_of e (without e (coordinate h).known) else (coordinate h).known) ≡ true
    own q =
        let s = and_left (same_connection c e) true (and_left (same_connection c e && true) (is_opening c m) q) in
        let P : Conn → Type 0 = λ x. is_opening x m ≡ true in
        let o : is_opening e m ≡ true = subst P (same_is c e s) (and_right (same_connection c e && true) (is_opening c m) q) in
        rw o (has-insert (same_connection c) order_of e (without e (coordinate h).known) ∙ or_left (same_connection c e) (has (same_connection c) (without e (coordinate h).known)) s)

    other : (o : Bool) → has (same_connection c) (coordinate h).known ≡ true → has (same_connection c) (if o then insert_by order_of e (without e (coordinate h).known) else (coordinate h).known) ≡ true
    other true a = known_still c e (coordinate h).known a
    other false a = a

    step : (has (is_got_on c Up (is_opening c)) h ≡ true → has (same_connection c) (coordinate h).known ≡ true) → (l : Bool) → l ≡ true
        → has (same_connection c) (if not l then without e (coordinate h).known else if is_opening e m then insert_by order_of e (without e (coordinate h).known) else (coordinate h).known) ≡ true
    step ih true l = or_case (same_connection c e && true && is_opening c m) (has (is_got_on c Up (is_opening c)) h) own (λ a. other (is_opening e m) (ih a)) k
    step ih false l = absurd cc
opening_known c (Got e Down m ∷ h) w k n = opening_known c h (wired_before (Got e Down m) h w) (elsewhere (same_connection c e) (is_opening c m) (has (is_got_on c Up (is_opening c)) h) k) n
opening_known c (Ended e Up ∷ h) w k n =
    known_without c e (coordinate h).known (and_first (same_connection c e) (or_first (same_connection c e && true) (has (is_end_on c Up) h) n))
    (opening_known c h (wired_before (Ended e Up) h w) k (or_second (same_connection c e && true) (has (is_end_on c Up) h) n))
opening_known c (Stopped ∷ h) w k n = let s : true ≡ false = w.unstopped in absurd cc
opening_known c (x ∷ h) w k n = opening_known c h (wired_before x h w) k (or_second (is_end_on c Up x) (has (is_end_on c Up) h) n)
