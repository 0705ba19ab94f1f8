-- What the local side knows of a promotion and of its connections, and what that has to do with the entries.
use Rattle.std.proofs.Common.{◌≡◌, List, [], ◌∷◌, refl, ◌&&◌, ◌∙◌, ap, ℕ, true, Bool, false, ◌||◌, sym, ◌≢◌, ◌==◌, ◌^◌, arith, subst, ◌<◌}
use Rattle.std.specs.Prelude.{is_some, not, map, filter, if◌then◌else◌, max, bit_or}
use Rattle.std.specs.Int.{bit_at}
use Rattle.std.proofs.lemmas.Bool.{or_left}
use Rattle.std.proofs.lemmas.Bool.Decides.{nat_tests}
use Rattle.std.proofs.lemmas.Nat.Bits.{bit_at_or, bit_at-pow_other, bit_at-lt, bit_at-pow_same}
use Rattle.dtx_values.specs.declared.end.End.{End}
use Rattle.dtx_values.specs.declared.entry.Entry.{Entry}
use Rattle.dtx_values.specs.declared.entry.Entry.TheVariants.{Promoting, PromotionFailed, Down as Ended, Got, Sent}
use Rattle.dtx_values.specs.declared.message.Conn.{Conn}
use Rattle.dtx_values.specs.declared.message.Conn.TheVariants.{Voter}
use Rattle.dtx_values.specs.declared.message.Dir.TheVariants.{Up, Down}
use Rattle.dtx_values.specs.declared.message.Message.{Message}
use Rattle.dtx_values.specs.declared.message.Message.TheVariants.{VoterAbort, VoterAsk, VoterCommit, VoterCreated, VoterRefused}
use Rattle.dtx_values.specs.Ends.{is_end_of, note_sent, with_tag, note_got, note_end, end_order, same_connection, tag_of, with_opened, knows, is_in, was_got}
use Rattle.dtx_values.specs.Lines.{has_line, is_opening}
use Rattle.dtx_model.specs.Words.{has, latest}
use Rattle.dtx_model.specs.Entries.{is_promoted}
use Rattle.dtx_model.specs.Observed.{cause_of_promotion, is_promotion_failed, observe, ends_of}
use Rattle.dtx_model.specs.Half.{is_promoting as sees_promoting}
use Rattle.dtx_model.specs.Promotes.{is_promoting, is_under_way}
use Rattle.dtx_model.specs.Wires.{opens}
use Rattle.dtx_model.proofs.Bools.{and_both, and_left, or_case, or_right, and_right, and_never, not_both}
use Rattle.dtx_model.proofs.Connections.{same_is}
use Rattle.history_table.proofs.Lists.{has_kept, if_kept, has-insert}
use Rattle.history_table.proofs.Owned.{has_filter}
use Rattle.history_table.proofs.Scans.{has_more}
use Rattle.history_table.proofs.Tests.{or_between}
use Rattle.history_table.proofs.Table.{is_ask_got}

-- a promotion began where a cause is known
pub cause_seen : (h : List Entry) → is_some (latest cause_of_promotion h) ≡ has is_promoting h
cause_seen [] = refl
cause_seen (Promoting c ∷ h) = refl
cause_seen (x ∷ h) = cause_seen h

-- the two words for a promotion that failed say the same
pub failed_seen : (h : List Entry) → has is_promotion_failed h ≡ has is_promotion_failed h
failed_seen [] = refl
failed_seen (PromotionFailed ∷ h) = refl
failed_seen (x ∷ h) = failed_seen h

-- the local side is promoting where a promotion is under way
pub way_seen : (h : List Entry) → sees_promoting (observe h) ≡ is_under_way h
unfolding observe
way_seen h =
    ap (λ b. b && not (has is_promoted h) && not (has is_promotion_failed h)) (cause_seen h) ∙ ap (λ b. has is_promoting h && not (has is_promoted h) && not b) (failed_seen h)

-- what a message that is sent changes in the ends, and what one that is got, or an end, changes
pub sent_same : (c e : Conn) (tag : ℕ) (ns : List End) → has (is_end_of c) (map (note_sent e tag) ns) ≡ has (is_end_of c) ns
sent_same c e tag ns =
    has_kept (is_end_of c) (note_sent e tag)
    (λ n. if_kept (is_end_of c) (is_end_of e n) (record { connection = n.connection; sent = with_tag tag n.sent; got = n.got; ended = n.ended }) n refl) ns

pub got_same : (c e : Conn) (tag : ℕ) (ns : List End) → has (is_end_of c) (map (note_got e tag) ns) ≡ has (is_end_of c) ns
got_same c e tag ns =
    has_kept (is_end_of c) (note_got e tag)
    (λ n. if_kept (is_end_of c) (is_end_of e n) (record { connection = n.connection; sent = n.sent; got = with_tag tag n.got; ended = n.ended }) n refl) ns

pub end_same : (c e : Conn) (ns : List End) → has (is_end_of c) (map (note_end e) ns) ≡ has (is_end_of c) ns
end_same c e ns =
    has_kept (is_end_of c) (note_end e)
    (λ n. if_kept (is_end_of c) (is_end_of e n) (record { connection = n.connection; sent = n.sent; got = n.got; ended = true }) n refl) ns

-- a connection of which something is known was opened
pub end_opened : (c : Conn) (h : List Entry) → has (is_end_of c) (ends_of h) ≡ true → has (opens c) h ≡ true
end_opened c [] k = absurd cc
end_opened c (Sent e Up m ∷ h) k = step (is_opening e m) k (end_opened c h)
  where
    step : (o : Bool) → has (is_end_of c) (if o then with_opened e (tag_of m) (ends_of h) else map (note_sent e (tag_of m)) (ends_of h)) ≡ true
        → (has (is_end_of c) (ends_of h) ≡ true → has (opens c) h ≡ true) → ((same_connection c e && o) || has (opens c) h) ≡ true
    step true k ih =
        let new : End = record { connection = e; sent = with_tag (tag_of m) 0; got = 0; ended = false } in
        let others = filter (λ n. not (is_end_of e n)) (ends_of h) in
        or_case (same_connection c e) (has (is_end_of c) others) (λ s. or_left (same_connection c e && true) (has (opens c) h) (and_both (same_connection c e) true s refl))
        (λ s. or_right (same_connection c e && true) (has (opens c) h)
        (ih (has_more (λ n. is_end_of c n && not (is_end_of e n)) (is_end_of c) (λ n. and_left (is_end_of c n) (not (is_end_of e n))) (ends_of h) (sym (has_filter (is_end_of c) (λ n. not (is_end_of e n)) (ends_of h)) ∙ s))))
        (sym (has-insert (is_end_of c) end_order new others) ∙ k)
    step false k ih = or_right (same_connection c e && false) (has (opens c) h) (ih (sym (sent_same c e (tag_of m) (ends_of h)) ∙ k))
end_opened c (Got e Down m ∷ h) k = end_opened c h (step (has_line e Down m) k)
  where
    step : (l : Bool) → has (is_end_of c) (if l then map (note_got e (tag_of m)) (ends_of h) else map (note_end e) (ends_of h)) ≡ true → has (is_end_of c) (ends_of h) ≡ true
    step true k = sym (got_same c e (tag_of m) (ends_of h)) ∙ k
    step false k = sym (end_same c e (ends_of h)) ∙ k
end_opened c (Ended e Down ∷ h) k = end_opened c h (sym (end_same c e (ends_of h)) ∙ k)
end_opened c (Sent e Down m ∷ h) k = end_opened c h k
end_opened c (Got e Up m ∷ h) k = end_opened c h k
end_opened c (Ended e Up ∷ h) k = end_opened c h k
end_opened c (x ∷ h) k = or_right (opens c x) (has (opens c) h) (end_opened c h k)

-- and so was one that is known
pub known_opened : (c : Conn) (h : List Entry) → knows c (ends_of h) ≡ true → has (opens c) h ≡ true
known_opened c h k = end_opened c h (has_more (λ n. is_end_of c n && not n.ended) (is_end_of c) (λ n. and_left (is_end_of c n) (not n.ended)) (ends_of h) k)

-- A tag that is among those with one more is that one, or was among them.
pub one_tag_more : (tag other tags : ℕ) → is_in tag (with_tag other tags) ≡ true → (tag == other) ≡ false → is_in tag tags ≡ true
one_tag_more tag other tags k d =
    let apart : tag ≢ other = λ q. grind (arith, nat_tests) in
    bit (bit_at tags tag) (bit_at (2 ^ other) tag) (bit_at (bit_or tags (2 ^ other)) tag) (bit_at-pow_other other tag apart) (bit_at_or tags (2 ^ other) tag) k
  where
    bit : (a b c : ℕ) → b ≡ 0 → c ≡ max a b → (c == 1) ≡ true → (a == 1) ≡ true
    bit a b c z e k = grind (arith, nat_tests)

-- The voter's ASK was noted only where it was got.
abbrev is_heard : Conn → ℕ → End → Bool
is_heard c tag n = is_end_of c n && is_in tag n.got

-- where each changed item that passes is this one, or passed before, some passed before or it is this one
pub unmapped : {A : Type 0} (c : Bool) (p : A → Bool) (f : A → A) → ((x : A) → p (f x) ≡ true → (c || p x) ≡ true) → (xs : List A) → has p (map f xs) ≡ true → (c || has p xs) ≡ true
unmapped c p f g [] k = absurd cc
unmapped c p f g (x ∷ xs) k =
    or_case (p (f x)) (has p (map f xs)) (λ t. step c (p x) (has p xs) (g x t)) (λ t. or_between c (p x) (has p xs) (unmapped c p f g xs t)) k
  where
    step : (a b d : Bool) → (a || b) ≡ true → (a || (b || d)) ≡ true
    step true b d k = refl
    step false true d k = refl
    step false false d k = absurd cc

heard_got : (c e : Conn) (tag : ℕ) (m : Message) (ns : List End) → was_got c tag (map (note_got e (tag_of m)) ns) ≡ true → ((same_connection c e && (tag == tag_of m)) || was_got c tag ns) ≡ true
heard_got c e tag m ns k = unmapped (same_connection c e && (tag == tag_of m)) (is_heard c tag) (note_got e (tag_of m)) (λ n t. by n (is_end_of e n) refl t) ns k
  where
    by : (n : End) (b : Bool) → is_end_of e n ≡ b → is_heard c tag (if b then record { connection = n.connection; sent = n.sent; got = with_tag (tag_of m) n.got; ended = n.ended } else n) ≡ true
        → ((same_connection c e && (tag == tag_of m)) || is_heard c tag n) ≡ true
    by n false q t = or_right (same_connection c e && (tag == tag_of m)) (is_heard c tag n) t
    by n true q t = tagged (tag == tag_of m) refl
      where
        here : is_end_of c n ≡ true
        here = and_left (is_end_of c n) (is_in tag (with_tag (tag_of m) n.got)) t

        tagged : (s : Bool) → (tag == tag_of m) ≡ s → ((same_connection c e && s) || is_heard c tag n) ≡ true
        tagged true z =
            let P : Conn → Type 0 = λ d. same_connection c d ≡ true in
            or_left (same_connection c e && true) (is_heard c tag n) (and_both (same_connection c e) true (subst P (sym (same_is e n.connection q)) here) refl)
        tagged false z =
            or_right (same_connection c e && false) (is_heard c tag n)
            (and_both (is_end_of c n) (is_in tag n.got) here (one_tag_more tag (tag_of m) n.got (and_right (is_end_of c n) (is_in tag (with_tag (tag_of m) n.got)) t) z))

asked_by : (e : Conn) (m : Message) → has_line e Down m ≡ true → (same_connection Voter e && (tag_of VoterAsk == tag_of m)) ≡ true → is_ask_got (Got e Down m) ≡ true
asked_by Voter VoterAsk l t = refl
asked_by Voter VoterCreated l t = absurd cc
asked_by Voter (VoterRefused cause) l t = absurd cc
asked_by Voter VoterCommit l t = absurd cc
asked_by Voter VoterAbort l t = absurd cc
asked_by Voter _ l t = absurd cc
asked_by _ m l t = absurd cc

pub ask_got : (h : List Entry) → was_got Voter (tag_of VoterAsk) (ends_of h) ≡ true → has is_ask_got h ≡ true
ask_got [] k = absurd cc
ask_got (Sent e Up m ∷ h) k = ask_got h (step (is_opening e m) k)
  where
    step : (o : Bool) → was_got Voter (tag_of VoterAsk) (if o then with_opened e (tag_of m) (ends_of h) else map (note_sent e (tag_of m)) (ends_of h)) ≡ true → was_got Voter (tag_of VoterAsk) (ends_of h) ≡ true
    step true k =
        let new : End = record { connection = e; sent = with_tag (tag_of m) 0; got = 0; ended = false } in
        let others = filter (λ n. not (is_end_of e n)) (ends_of h) in
        or_case (same_connection Voter e && is_in (tag_of VoterAsk) 0) (has (is_heard Voter (tag_of VoterAsk)) others) (λ s. absurd (not_both (same_connection Voter e && false) s (and_never (same_connection Voter e))))
        (λ s. has_more (λ n. is_heard Voter (tag_of VoterAsk) n && not (is_end_of e n)) (is_heard Voter (tag_of VoterAsk)) (λ n. and_left (is_heard Voter (tag_of VoterAsk) n) (not (is_end_of e n))) (ends_of h)
        (sym (has_filter (is_heard Voter (tag_of VoterAsk)) (λ n. not (is_end_of e n)) (ends_of h)) ∙ s)) (sym (has-insert (is_heard Voter (tag_of VoterAsk)) end_order new others) ∙ k)
    step false k =
        sym (has_kept (is_heard Voter (tag_of VoterAsk)) (note_sent e (tag_of m))
        (λ n. if_kept (is_heard Voter (tag_of VoterAsk)) (is_end_of e n) (record { connection = n.connection; sent = with_tag (tag_of m) n.sent; got = n.got; ended = n.ended }) n refl) (ends_of h)) ∙ k
ask_got (Got e Down m ∷ h) k = step (ask_got h) (has_line e Down m) refl k
  where
    step : (was_got Voter (tag_of VoterAsk) (ends_of h) ≡ true → has is_ask_got h ≡ true) → (l : Bool) → has_line e Down m ≡ l
        → was_got Voter (tag_of VoterAsk) (if l then map (note_got e (tag_of m)) (ends_of h) else map (note_end e) (ends_of h)) ≡ true → (is_ask_got (Got e Down m) || has is_ask_got h) ≡ true
    step ih true l k =
        or_case (same_connection Voter e && (tag_of VoterAsk == tag_of m)) (was_got Voter (tag_of VoterAsk) (ends_of h)) (λ t. or_left (is_ask_got (Got e Down m)) (has is_ask_got h) (asked_by e m l t))
        (λ t. or_right (is_ask_got (Got e Down m)) (has is_ask_got h) (ih t)) (heard_got Voter e (tag_of VoterAsk) m (ends_of h) k)
    step ih false l k =
        or_right (is_ask_got (Got e Down m)) (has is_ask_got h)
        (ih (sym (has_kept (is_heard Voter (tag_of VoterAsk)) (note_end e)
        (λ n. if_kept (is_heard Voter (tag_of VoterAsk)) (is_end_of e n) (record { connection = n.connection; sent = n.sent; got = n.got; ended = true }) n refl) (ends_of h)) ∙ k))
ask_got (Ended e Down ∷ h) k =
    ask_got h (sym (has_kept (is_heard Voter (tag_of VoterAsk)) (note_end e)
    (λ n. if_kept (is_heard Voter (tag_of VoterAsk)) (is_end_of e n) (record { connection = n.connection; sent = n.sent; got = n.got; ended = true }) n refl) (ends_of h)) ∙ k)
ask_got (x ∷ h) k = or_right (is_ask_got x) (has is_ask_got h) (ask_got h k)

-- where another is opened, what stands of this one stays
pub other_stays : (c e : Conn) (q : End → Bool) (tag : ℕ) (ns : List End) → same_connection c e ≡ false → ((n : End) → q n ≡ true → is_end_of c n ≡ true) → has q ns ≡ true → has q (with_opened e tag ns) ≡ true
other_stays c e q tag ns other of k =
    let new : End = record { connection = e; sent = with_tag tag 0; got = 0; ended = false } in
    has-insert q end_order new (filter (λ n. not (is_end_of e n)) ns)
    ∙ or_right (q new) (has q (filter (λ n. not (is_end_of e n)) ns))
    (has_filter q (λ n. not (is_end_of e n)) ns ∙ has_more q (λ n. q n && not (is_end_of e n)) (λ n a. and_both (q n) (not (is_end_of e n)) a (apart n (of n a))) ns k)
  where
    apart : (n : End) → is_end_of c n ≡ true → not (is_end_of e n) ≡ true
    apart n a = step (is_end_of e n) refl
      where
        step : (b : Bool) → is_end_of e n ≡ b → not b ≡ true
        step true s = absurd (not_both (same_connection c e) (let P : Conn → Type 0 = λ x. same_connection c x ≡ true in subst P (sym (same_is e n.connection s)) a) other)
        step false s = refl

-- A message's tag is among those of what was got.
pub with_own : (tag tags : ℕ) → is_in tag (with_tag tag tags) ≡ true
with_own tag tags =
    let e = bit_at_or tags (2 ^ tag) tag in
    let one = bit_at-pow_same tag in
    let low = bit_at-lt tags tag in
    bit (bit_at tags tag) (bit_at (2 ^ tag) tag) (bit_at (bit_or tags (2 ^ tag)) tag) low one e
  where
    bit : (a b c : ℕ) → a < 2 → b ≡ 1 → c ≡ max a b → (c == 1) ≡ true
    bit a b c l o e = grind (arith, nat_tests)

pub with_other : (tag other tags : ℕ) → is_in tag tags ≡ true → is_in tag (with_tag other tags) ≡ true
with_other tag other tags k =
    bit (bit_at tags tag) (bit_at (2 ^ other) tag) (bit_at (bit_or tags (2 ^ other)) tag) (bit_at-lt (2 ^ other) tag) k (bit_at_or tags (2 ^ other) tag)
  where
    bit : (a b c : ℕ) → b < 2 → (a == 1) ≡ true → c ≡ max a b → (c == 1) ≡ true
    bit a b c l o e = grind (arith, nat_tests)
