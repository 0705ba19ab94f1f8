-- Whose end the local side noted, its end was seen.
use Rattle.std.proofs.Common.{Bool, ◌&&◌, ◌≡◌, true, false, ◌||◌, List, refl, sym, subst, [], ◌∷◌, ◌∙◌}
use Rattle.std.specs.Prelude.{map, if◌then◌else◌, not, filter, ℕ}
use Rattle.std.proofs.lemmas.Bool.{or_left, false_from_ne_true}
use Rattle.dtx_values.specs.declared.end.End.{End}
use Rattle.dtx_values.specs.declared.entry.Entry.{Entry}
use Rattle.dtx_values.specs.declared.entry.Entry.TheVariants.{Down as Ended, Got, Sent}
use Rattle.dtx_values.specs.declared.message.Conn.{Conn}
use Rattle.dtx_values.specs.declared.message.Conn.TheVariants.{Begin, Voter}
use Rattle.dtx_values.specs.declared.message.Dir.TheVariants.{Up, Down}
use Rattle.dtx_values.specs.Ends.{is_end_of, note_end, same_connection, saw_end, end_order, note_got, note_sent, tag_of, with_opened, with_tag, knows}
use Rattle.dtx_values.specs.Lines.{has_line, is_opening}
use Rattle.dtx_model.specs.Words.{has}
use Rattle.dtx_model.specs.Observed.{ends_of}
use Rattle.dtx_model.specs.Outcome.{is_begin_end, is_voter_end}
use Rattle.dtx_model.specs.Wires.{ends, opens, ended_after, is_ended}
use Rattle.dtx_model.proofs.Bools.{and_left, or_right, and_both, and_never, not_both, or_case, and_right, or_false}
use Rattle.dtx_model.proofs.Connections.{same_is}
use Rattle.history_table.proofs.HalfKnows.{unmapped}
use Rattle.history_table.proofs.Lists.{has_kept, has-insert, if_kept}
use Rattle.history_table.proofs.Owned.{has_filter}
use Rattle.history_table.proofs.Scans.{has_more}

abbrev is_over : Conn → End → Bool
is_over c n = is_end_of c n && n.ended

ended_more : (c e : Conn) (ns : List End) → saw_end c (map (note_end e) ns) ≡ true → (same_connection c e || saw_end c ns) ≡ true
ended_more c e ns k = unmapped (same_connection c e) (is_over c) (note_end e) (λ n t. by n (is_end_of e n) refl t) ns k
  where
    by : (n : End) (b : Bool) → is_end_of e n ≡ b → is_over c (if b then record { connection = n.connection; sent = n.sent; got = n.got; ended = true } else n) ≡ true
        → (same_connection c e || is_over c n) ≡ true
    by n false q t = or_right (same_connection c e) (is_over c n) t
    by n true q t =
        let P : Conn → Type 0 = λ d. same_connection c d ≡ true in or_left (same_connection c e) (is_over c n) (subst P (sym (same_is e n.connection q)) (and_left (is_end_of c n) true t))

pub end_seen : (c : Conn) (h : List Entry) → saw_end c (ends_of h) ≡ true → has (ends c Down) h ≡ true
end_seen c [] k = absurd cc
end_seen c (Sent e Up m ∷ h) k = end_seen c h (step (is_opening e m) k)
  where
    step : (o : Bool) → saw_end c (if o then with_opened e (tag_of m) (ends_of h) else map (note_sent e (tag_of m)) (ends_of h)) ≡ true → saw_end c (ends_of h) ≡ true
    step true k =
        let new : End = record { connection = e; sent = with_tag (tag_of m) 0; got = 0; ended = false } in
        let others = filter (λ n. not (is_end_of e n)) (ends_of h) in
        or_case (same_connection c e && false) (has (is_over c) others) (λ s. absurd (not_both (same_connection c e && false) s (and_never (same_connection c e))))
        (λ s. has_more (λ n. is_over c n && not (is_end_of e n)) (is_over c) (λ n. and_left (is_over c n) (not (is_end_of e n))) (ends_of h) (sym (has_filter (is_over c) (λ n. not (is_end_of e n)) (ends_of h)) ∙ s))
        (sym (has-insert (is_over c) end_order new others) ∙ k)
    step false k =
        sym (has_kept (is_over c) (note_sent e (tag_of m))
        (λ n. if_kept (is_over c) (is_end_of e n) (record { connection = n.connection; sent = with_tag (tag_of m) n.sent; got = n.got; ended = n.ended }) n refl) (ends_of h)) ∙ k
end_seen c (Got e Down m ∷ h) k = step (end_seen c h) (has_line e Down m) refl k
  where
    step : (saw_end c (ends_of h) ≡ true → has (ends c Down) h ≡ true) → (l : Bool) → has_line e Down m ≡ l
        → saw_end c (if l then map (note_got e (tag_of m)) (ends_of h) else map (note_end e) (ends_of h)) ≡ true → ((same_connection c e && true && not l) || has (ends c Down) h) ≡ true
    step ih true l k =
        or_right (same_connection c e && true && false) (has (ends c Down) h)
        (ih (sym (has_kept (is_over c) (note_got e (tag_of m))
        (λ n. if_kept (is_over c) (is_end_of e n) (record { connection = n.connection; sent = n.sent; got = with_tag (tag_of m) n.got; ended = n.ended }) n refl) (ends_of h)) ∙ k))
    step ih false l k =
        or_case (same_connection c e) (saw_end c (ends_of h))
        (λ t. or_left (same_connection c e && true && true) (has (ends c Down) h) (and_both (same_connection c e && true) true (and_both (same_connection c e) true t refl) refl))
        (λ t. or_right (same_connection c e && true && true) (has (ends c Down) h) (ih t)) (ended_more c e (ends_of h) k)
end_seen c (Ended e Down ∷ h) k =
    or_case (same_connection c e) (saw_end c (ends_of h)) (λ t. or_left (same_connection c e && true) (has (ends c Down) h) (and_both (same_connection c e) true t refl))
    (λ t. or_right (same_connection c e && true) (has (ends c Down) h) (end_seen c h t)) (ended_more c e (ends_of h) k)
end_seen c (x ∷ h) k = or_right (ends c Down x) (has (ends c Down) h) (end_seen c h k)

begin_end : (x : Entry) → ends Begin Down x ≡ true → is_begin_end x ≡ true
begin_end (Ended Begin Down) t = refl
begin_end (Got Begin Down m) t = t
begin_end _ t = absurd cc

voter_end : (x : Entry) → ends Voter Down x ≡ true → is_voter_end x ≡ true
voter_end (Ended Voter Down) t = refl
voter_end (Got Voter Down m) t = t
voter_end _ t = absurd cc

pub begin_end_seen : (h : List Entry) → saw_end Begin (ends_of h) ≡ true → has is_begin_end h ≡ true
begin_end_seen h k = has_more (ends Begin Down) is_begin_end begin_end h (end_seen Begin h k)

pub voter_end_seen : (h : List Entry) → saw_end Voter (ends_of h) ≡ true → has is_voter_end h ≡ true
voter_end_seen h k = has_more (ends Voter Down) is_voter_end voter_end h (end_seen Voter h k)

abbrev is_known_end : Conn → End → Bool
is_known_end c n = is_end_of c n && not n.ended

never : false ≡ true → ⊥
never e = absurd cc

sent_same : (c e : Conn) (tag : ℕ) (ns : List End) → knows c (map (note_sent e tag) ns) ≡ knows c ns
sent_same c e tag ns =
    has_kept (is_known_end c) (note_sent e tag)
    (λ n. if_kept (is_known_end c) (is_end_of e n) (record { connection = n.connection; sent = with_tag tag n.sent; got = n.got; ended = n.ended }) n refl) ns

got_same : (c e : Conn) (tag : ℕ) (ns : List End) → knows c (map (note_got e tag) ns) ≡ knows c ns
got_same c e tag ns =
    has_kept (is_known_end c) (note_got e tag)
    (λ n. if_kept (is_known_end c) (is_end_of e n) (record { connection = n.connection; sent = n.sent; got = with_tag tag n.got; ended = n.ended }) n refl) ns

-- the end of a connection makes none known
ended_less : (c e : Conn) (ns : List End) → knows c ns ≡ false → knows c (map (note_end e) ns) ≡ false
ended_less c e ns k = false_from_ne_true (knows c (map (note_end e) ns)) (λ t. not_both (knows c ns) (unmapped false (is_known_end c) (note_end e) (λ n q. by n (is_end_of e n) q) ns t) k)
  where
    by : (n : End) (b : Bool) → is_known_end c (if b then record { connection = n.connection; sent = n.sent; got = n.got; ended = true } else n) ≡ true → is_known_end c n ≡ true
    by n false q = q
    by n true q = absurd (never (and_right (is_end_of c n) false q))

-- where another is opened, this one isn't
opened_less : (c e : Conn) (tag : ℕ) (ns : List End) → same_connection c e ≡ false → knows c ns ≡ false → knows c (with_opened e tag ns) ≡ false
opened_less c e tag ns other k = false_from_ne_true (knows c (with_opened e tag ns)) (λ t. by t)
  where
    new : End
    new = record { connection = e; sent = with_tag tag 0; got = 0; ended = false }

    by : knows c (with_opened e tag ns) ≡ true → ⊥
    by t =
        or_case (is_known_end c new) (has (is_known_end c) (filter (λ n. not (is_end_of e n)) ns))
        (λ a. not_both (same_connection c e) (and_left (same_connection c e) true a) other)
        (λ a. not_both (knows c ns)
        (has_more (λ n. is_known_end c n && not (is_end_of e n)) (is_known_end c) (λ n. and_left (is_known_end c n) (not (is_end_of e n))) ns (sym (has_filter (is_known_end c) (λ n. not (is_end_of e n)) ns) ∙ a)) k)
        (sym (has-insert (is_known_end c) end_order new (filter (λ n. not (is_end_of e n)) ns)) ∙ t)

-- An entry that doesn't open a connection makes it known to nobody.
pub unknown_more : (c : Conn) (x : Entry) (h : List Entry) → opens c x ≡ false → knows c (ends_of h) ≡ false → knows c (ends_of (x ∷ h)) ≡ false
unknown_more c (Sent e Up m) h o k = step (same_connection c e) (is_opening e m) refl o
  where
    step : (s b : Bool) → same_connection c e ≡ s → (s && b) ≡ false → knows c (if b then with_opened e (tag_of m) (ends_of h) else map (note_sent e (tag_of m)) (ends_of h)) ≡ false
    step s false q o = sent_same c e (tag_of m) (ends_of h) ∙ k
    step false true q o = opened_less c e (tag_of m) (ends_of h) q k
    step true true q o = absurd cc
unknown_more c (Got e Down m) h o k = step (has_line e Down m)
  where
    step : (b : Bool) → knows c (if b then map (note_got e (tag_of m)) (ends_of h) else map (note_end e) (ends_of h)) ≡ false
    step true = got_same c e (tag_of m) (ends_of h) ∙ k
    step false = ended_less c e (ends_of h) k
unknown_more c (Ended e Down) h o k = ended_less c e (ends_of h) k
unknown_more c x h o k = k

-- A connection whose end was seen isn't known.
noted_unknown : (c e : Conn) (ns : List End) → same_connection c e ≡ true → knows c (map (note_end e) ns) ≡ false
noted_unknown c e [] s = refl
noted_unknown c e (n ∷ ns) s = by (is_end_of e n) refl (noted_unknown c e ns s)
  where
    by : (b : Bool) → is_end_of e n ≡ b → knows c (map (note_end e) ns) ≡ false
        → (is_known_end c (if b then record { connection = n.connection; sent = n.sent; got = n.got; ended = true } else n) || knows c (map (note_end e) ns)) ≡ false
    by true q ih =
        let noted : End = record { connection = n.connection; sent = n.sent; got = n.got; ended = true } in
        or_false (is_known_end c noted) (knows c (map (note_end e) ns)) (false_from_ne_true (is_known_end c noted) (λ t. never (and_right (is_end_of c n) false t))) ih
    by false q ih =
        or_false (is_known_end c n) (knows c (map (note_end e) ns))
        (false_from_ne_true (is_known_end c n) (λ t. not_both (is_end_of e n) (own (and_left (is_end_of c n) (not n.ended) t)) q)) ih
      where
        own : is_end_of c n ≡ true → is_end_of e n ≡ true
        own t = let P : Conn → Type 0 = λ d. same_connection d n.connection ≡ true in subst P (same_is c e s) t

-- such an entry notes the end
ends_unknown : (c : Conn) (x : Entry) (h : List Entry) → ends c Down x ≡ true → knows c (ends_of (x ∷ h)) ≡ false
ends_unknown c (Ended e Down) h t = noted_unknown c e (ends_of h) (and_left (same_connection c e) true t)
ends_unknown c (Ended e Up) h t = absurd (never (and_right (same_connection c e) false t))
ends_unknown c (Got e Down m) h t = step (has_line e Down m) t
  where
    step : (b : Bool) → (same_connection c e && true && not b) ≡ true → knows c (if b then map (note_got e (tag_of m)) (ends_of h) else map (note_end e) (ends_of h)) ≡ false
    step true q = absurd (never (and_right (same_connection c e && true) false q))
    step false q = noted_unknown c e (ends_of h) (and_left (same_connection c e) true (and_left (same_connection c e && true) true q))
ends_unknown c (Got e Up m) h t = absurd (never (and_right (same_connection c e) false (and_left (same_connection c e && false) (not (has_line e Up m)) t)))
ends_unknown c _ h t = absurd (never t)

-- so where the end was seen since it was opened last, the local side doesn't know it
pub ended_unknown : (c : Conn) (h : List Entry) → is_ended c Down h ≡ true → knows c (ends_of h) ≡ false
ended_unknown c [] t = absurd (never t)
ended_unknown c (x ∷ h) t = step (ended_unknown c h) (opens c x) refl t
  where
    step : (is_ended c Down h ≡ true → knows c (ends_of h) ≡ false) → (b : Bool) → opens c x ≡ b → ended_after b false (ends c Down x || is_ended c Down h) ≡ true → knows c (ends_of (x ∷ h)) ≡ false
    step ih true o q = absurd (never q)
    step ih false o q = or_case (ends c Down x) (is_ended c Down h) (λ a. ends_unknown c x h a) (λ a. unknown_more c x h o (ih a)) q
