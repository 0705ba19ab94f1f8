-- The end of b, and that of v, that the local side saw is noted there, since each of the two is opened once.
use Rattle.std.proofs.Common.{◌≡◌, Bool, true, false, ◌&&◌, ◌||◌, List, [], ◌∷◌, refl, ◌∙◌, sym, subst}
use Rattle.std.specs.Prelude.{not, map, filter, if◌then◌else◌}
use Rattle.std.proofs.lemmas.Bool.{or_left}
use Rattle.dtx_values.specs.declared.end.End.{End}
use Rattle.dtx_values.specs.declared.entry.Entry.{Entry}
use Rattle.dtx_values.specs.declared.entry.Entry.TheVariants.{Down as Ended, Got, Sent}
use Rattle.dtx_values.specs.declared.message.Conn.{Conn}
use Rattle.dtx_values.specs.declared.message.Conn.TheVariants.{Begin, Voter}
use Rattle.dtx_values.specs.declared.message.Dir.TheVariants.{Up, Down}
use Rattle.dtx_values.specs.Ends.{end_order, is_end_of, note_end, note_got, note_sent, same_connection, same_direction, saw_end, tag_of, with_opened, with_tag}
use Rattle.dtx_values.specs.Lines.{has_line, is_opening}
use Rattle.dtx_model.specs.Words.{has}
use Rattle.dtx_model.specs.Observed.{ends_of}
use Rattle.dtx_model.specs.Wires.{MayCross, WireRun, opens}
use Rattle.dtx_model.proofs.Bools.{and_both, and_left, not_both, or_case, or_right}
use Rattle.dtx_model.proofs.Connections.{same_is}
use Rattle.history_table.proofs.Lists.{has_kept, has-insert, if_kept}
use Rattle.history_table.proofs.Table.{rule}
use Rattle.history_table.proofs.Keeping.{Keeps, keeps_before, newest}
use Rattle.history_table.proofs.Crossed.{end_opened}
use Rattle.history_table.proofs.Doubting.{begin_once, voter_once}
use Rattle.history_table.proofs.HalfKnows.{end_same, got_same, sent_same, other_stays}
use Rattle.history_table.proofs.CoreKnown.{has_made}
use Rattle.settled_histories.proofs.Wired.{is_end_on}
use Rattle.settled_histories.proofs.Fine.{is_pair}

abbrev is_over : Conn → End → Bool
is_over c n = is_end_of c n && n.ended

-- what isn't of this connection
last : (a b : Bool) → ((a && false) || b) ≡ true → b ≡ true
last true b k = k
last false b k = k

-- a connection that was opened is noted
pub noted : (c : Conn) (h : List Entry) → has (opens c) h ≡ true → has (is_end_of c) (ends_of h) ≡ true
noted c [] k = absurd cc
noted c (Sent e Up m ∷ h) k = step (is_opening e m) (same_connection c e) refl (noted c h) k
  where
    step : (o s : Bool) → same_connection c e ≡ s → (has (opens c) h ≡ true → has (is_end_of c) (ends_of h) ≡ true) → ((s && o) || has (opens c) h) ≡ true
        → has (is_end_of c) (if o then with_opened e (tag_of m) (ends_of h) else map (note_sent e (tag_of m)) (ends_of h)) ≡ true
    step true true q ih k =
        let new : End = record { connection = e; sent = with_tag (tag_of m) 0; got = 0; ended = false } in
        let others = filter (λ n. not (is_end_of e n)) (ends_of h) in
        has-insert (is_end_of c) end_order new others ∙ or_left (same_connection c e) (has (is_end_of c) others) q
    step true false q ih k = other_stays c e (is_end_of c) (tag_of m) (ends_of h) q (λ n a. a) (ih k)
    step false s q ih k = sent_same c e (tag_of m) (ends_of h) ∙ ih (last s (has (opens c) h) k)
noted c (Got e Down m ∷ h) k = step (noted c h k) (has_line e Down m)
  where
    step : has (is_end_of c) (ends_of h) ≡ true → (l : Bool) → has (is_end_of c) (if l then map (note_got e (tag_of m)) (ends_of h) else map (note_end e) (ends_of h)) ≡ true
    step ih true = got_same c e (tag_of m) (ends_of h) ∙ ih
    step ih false = end_same c e (ends_of h) ∙ ih
noted c (Ended e Down ∷ h) k = end_same c e (ends_of h) ∙ noted c h k
noted c (x ∷ h) k = noted c h k

-- a connection whose end was seen was opened
ended_opened : (c : Conn) (h : List Entry) → WireRun h → has (is_end_on c Down) h ≡ true → has (opens c) h ≡ true
ended_opened c [] w t = absurd cc
ended_opened c (x ∷ h) w t = or_right (opens c x) (has (opens c) h) (or_case (is_end_on c Down x) (has (is_end_on c Down) h) (λ q. one x w.0 q) (λ q. ended_opened c h w.1 q) t)
  where
    one : (x : Entry) → MayCross h x → is_end_on c Down x ≡ true → has (opens c) h ≡ true
    one (Ended e d) m q =
        let P : Conn → Type 0 = λ y. has (opens y) h ≡ true in
        subst P (sym (same_is c e (and_left (same_connection c e) (same_direction Down d) q))) (end_opened e d h m)
    one _ m q = absurd cc

-- b and v are opened once
pair_once : (c : Conn) (x : Entry) (h : List Entry) → is_pair c ≡ true → rule h x ≡ true → opens c x ≡ true → has (opens c) h ≡ false
pair_once Begin x h p r o = begin_once x h r o
pair_once Voter x h p r o = voter_once x h r o
pair_once _ x h p r o = absurd cc

-- one more end leaves those that were noted
end_more : (c e : Conn) (n : End) → is_over c n ≡ true → is_over c (note_end e n) ≡ true
end_more c e n a = step (is_end_of e n)
  where
    step : (b : Bool) → is_over c (if b then record { connection = n.connection; sent = n.sent; got = n.got; ended = true } else n) ≡ true
    step true = and_both (is_end_of c n) true (and_left (is_end_of c n) n.ended a) refl
    step false = a

-- and notes its own
end_now : (c e : Conn) → c ≡ e → (n : End) → is_end_of c n ≡ true → is_over c (note_end e n) ≡ true
end_now c e same n a = step (is_end_of e n) refl
  where
    step : (b : Bool) → is_end_of e n ≡ b → is_over c (if b then record { connection = n.connection; sent = n.sent; got = n.got; ended = true } else n) ≡ true
    step true q = and_both (is_end_of c n) true a refl
    step false q = absurd (not_both (is_end_of e n) (let P : Conn → Type 0 = λ y. is_end_of y n ≡ true in subst P same a) q)

pub ends_noted : (c : Conn) (h : List Entry) → is_pair c ≡ true → Keeps h → has (is_end_on c Down) h ≡ true → saw_end c (ends_of h) ≡ true
ends_noted c [] p k t = absurd cc
ends_noted c (Ended e Down ∷ h) p k t =
    or_case (same_connection c e && true) (has (is_end_on c Down) h)
    (λ q. let same = same_is c e (and_left (same_connection c e) true q) in
    let P : Conn → Type 0 = λ y. has (opens y) h ≡ true in
    has_made (is_end_of c) (is_over c) (note_end e) (end_now c e same) (ends_of h) (noted c h (subst P (sym same) (end_opened e Down h k.wires.0))))
    (λ q. has_made (is_over c) (is_over c) (note_end e) (end_more c e) (ends_of h) (ends_noted c h p (keeps_before (Ended e Down) h k) q)) t
ends_noted c (Ended e Up ∷ h) p k t = ends_noted c h p (keeps_before (Ended e Up) h k) (last (same_connection c e) (has (is_end_on c Down) h) t)
ends_noted c (Sent e Up m ∷ h) p k t = step (ends_noted c h p (keeps_before (Sent e Up m) h k) t) (is_opening e m) refl (same_connection c e) refl
  where
    step : saw_end c (ends_of h) ≡ true → (o : Bool) → is_opening e m ≡ o → (s : Bool) → same_connection c e ≡ s
        → saw_end c (if o then with_opened e (tag_of m) (ends_of h) else map (note_sent e (tag_of m)) (ends_of h)) ≡ true
    step ih true a true b =
        absurd (not_both (has (opens c) h) (ended_opened c h k.wires.1 t)
        (pair_once c (Sent e Up m) h p (newest (Sent e Up m) h k) (and_both (same_connection c e) (is_opening e m) b a)))
    step ih true a false b = other_stays c e (is_over c) (tag_of m) (ends_of h) b (λ n q. and_left (is_end_of c n) n.ended q) ih
    step ih false a s b =
        has_kept (is_over c) (note_sent e (tag_of m))
        (λ n. if_kept (is_over c) (is_end_of e n) (record { connection = n.connection; sent = with_tag (tag_of m) n.sent; got = n.got; ended = n.ended }) n refl) (ends_of h) ∙ ih
ends_noted c (Got e Down m ∷ h) p k t = step (ends_noted c h p (keeps_before (Got e Down m) h k) t) (has_line e Down m)
  where
    step : saw_end c (ends_of h) ≡ true → (l : Bool) → saw_end c (if l then map (note_got e (tag_of m)) (ends_of h) else map (note_end e) (ends_of h)) ≡ true
    step ih true =
        has_kept (is_over c) (note_got e (tag_of m))
        (λ n. if_kept (is_over c) (is_end_of e n) (record { connection = n.connection; sent = n.sent; got = with_tag (tag_of m) n.got; ended = n.ended }) n refl) (ends_of h) ∙ ih
    step ih false = has_made (is_over c) (is_over c) (note_end e) (end_more c e) (ends_of h) ih
ends_noted c (x ∷ h) p k t = ends_noted c h p (keeps_before x h k) t
