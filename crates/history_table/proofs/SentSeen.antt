-- What was sent on b or on v is noted there, since each of the two is opened once: so where the local side may still abort there, it sent neither COMMIT nor YES.
use Rattle.std.proofs.Common.{◌≡◌, ℕ, Bool, true, false, ◌&&◌, ◌||◌, List, [], ◌∷◌, refl, ◌∙◌, sym, subst}
use Rattle.std.specs.Prelude.{not, map, filter, if◌then◌else◌}
use Rattle.std.proofs.lemmas.Bool.{false_from_ne_true, or_left}
use Rattle.dtx_values.specs.declared.end.End.{End}
use Rattle.dtx_values.specs.declared.entry.Entry.{Entry}
use Rattle.dtx_values.specs.declared.entry.Entry.TheVariants.{Down as Ended, Got, Sent}
use Rattle.dtx_values.specs.declared.message.Conn.{Conn}
use Rattle.dtx_values.specs.declared.message.Conn.TheVariants.{Begin, Voter}
use Rattle.dtx_values.specs.declared.message.Dir.{Dir}
use Rattle.dtx_values.specs.declared.message.Dir.TheVariants.{Up, Down}
use Rattle.dtx_values.specs.declared.message.Message.{Message}
use Rattle.dtx_values.specs.declared.message.Message.TheVariants.{BeginAbort, BeginCommit, BeginCommitOne, VoterNo, VoterYes}
use Rattle.dtx_values.specs.Ends.{end_order, is_end_of, is_in, knows, may_abort_by_begin, may_abort_by_voter, note_end, note_got, note_sent, same_connection, same_direction, tag_of, voter_tag, was_commit_sent, was_got, was_sent as was_noted, begun_tag, with_opened, with_tag}
use Rattle.dtx_values.specs.Lines.{has_line, is_opening}
use Rattle.dtx_model.specs.Words.{has}
use Rattle.dtx_model.specs.Observed.{ends_of}
use Rattle.dtx_model.specs.Promotes.{is_promoting}
use Rattle.dtx_model.specs.Wires.{opens}
use Rattle.dtx_model.proofs.Bools.{and_both, and_left, and_right, not_both, not_true, or_case, or_first, or_right, or_second}
use Rattle.dtx_model.proofs.Connections.{same_is}
use Rattle.history_table.proofs.Tests.{second_of_four, third_of_four}
use Rattle.history_table.proofs.Lists.{has_kept, has-insert, if_kept}
use Rattle.history_table.proofs.Table.{is_commit_sent, is_there, is_yes_sent, message_row, rule}
use Rattle.history_table.proofs.Keeping.{Keeps, earlier, keeps_before, newest}
use Rattle.history_table.proofs.Crossed.{is_sent_on}
use Rattle.history_table.proofs.Messages.{COMMIT, COMMIT_ONE, COMMIT_TWO, YES}
use Rattle.history_table.proofs.Doubting.{begin_once, voter_once}
use Rattle.history_table.proofs.HalfKnows.{end_same, got_same, other_stays, sent_same, with_other, with_own}
use Rattle.history_table.proofs.CoreKnown.{has_made}

-- what isn't of this connection
last : (a b : Bool) → ((a && false) || b) ≡ true → b ≡ true
last true b k = k
last false b k = k

-- a connection that was opened is noted
pub opened_noted : (c : Conn) (h : List Entry) → has (opens c) h ≡ true → has (is_end_of c) (ends_of h) ≡ true
opened_noted c [] k = absurd cc
opened_noted c (Sent e Up m ∷ h) k = step (is_opening e m) (same_connection c e) refl (opened_noted c h) k
  where
    step : (o s : Bool) → same_connection c e ≡ s → (has (opens c) h ≡ true → has (is_end_of c) (ends_of h) ≡ true) → ((s && o) || has (opens c) h) ≡ true
        → has (is_end_of c) (if o then with_opened e (tag_of m) (ends_of h) else map (note_sent e (tag_of m)) (ends_of h)) ≡ true
    step true true q ih k =
        let new : End = record { connection = e; sent = with_tag (tag_of m) 0; got = 0; ended = false } in
        let others = filter (λ n. not (is_end_of e n)) (ends_of h) in
        has-insert (is_end_of c) end_order new others ∙ or_left (same_connection c e) (has (is_end_of c) others) q
    step true false q ih k = other_stays c e (is_end_of c) (tag_of m) (ends_of h) q (λ n a. a) (ih k)
    step false s q ih k = sent_same c e (tag_of m) (ends_of h) ∙ ih (last s (has (opens c) h) k)
opened_noted c (Got e Down m ∷ h) k = step (opened_noted c h k) (has_line e Down m)
  where
    step : has (is_end_of c) (ends_of h) ≡ true → (l : Bool) → has (is_end_of c) (if l then map (note_got e (tag_of m)) (ends_of h) else map (note_end e) (ends_of h)) ≡ true
    step ih true = got_same c e (tag_of m) (ends_of h) ∙ ih
    step ih false = end_same c e (ends_of h) ∙ ih
opened_noted c (Ended e Down ∷ h) k = end_same c e (ends_of h) ∙ opened_noted c h k
opened_noted c (x ∷ h) k = opened_noted c h k

-- the message of this tag is noted as sent
abbrev is_noted : Conn → ℕ → End → Bool
is_noted c tag n = is_end_of c n && is_in tag n.sent

-- a connection that is opened once, and a test of messages that have this tag and don't open it
record IsPlain (c : Conn) (p : Message → Bool) (tag : ℕ) : Type 0 where
  once : (x : Entry) (h : List Entry) → rule h x ≡ true → opens c x ≡ true → has (opens c) h ≡ false
  tagged : (m : Message) → p m ≡ true → tag_of m ≡ tag
  unopening : (m : Message) → p m ≡ true → is_opening c m ≡ false

module _ {c : Conn} {p : Message → Bool} {tag : ℕ} (w : IsPlain c p tag) where
  sent_open : (x : Entry) (h : List Entry) → Keeps h → rule h x ≡ true → is_sent_on c Up p x ≡ true → has (opens c) h ≡ true
  sent_open (Sent e r m) h k q t =
      let both = and_left (same_connection c e && same_direction Up r) (p m) t in
      by r (same_is c e (and_left (same_connection c e) (same_direction Up r) both)) (and_right (same_connection c e) (same_direction Up r) both) (and_right (same_connection c e && same_direction Up r) (p m) t)
      (third_of_four (has_line e r m) (has is_promoting h) (is_there h e r m) (message_row h e m) q)
    where
      by : (r : Dir) → c ≡ e → same_direction Up r ≡ true → p m ≡ true → is_there h e r m ≡ true → has (opens c) h ≡ true
      by Up s z a o =
          let P : Conn → Type 0 = λ d. (is_opening d m || has (opens d) h) ≡ true in
          or_case (is_opening c m) (has (opens c) h) (λ b. absurd (not_both (is_opening c m) b (w.unopening m a))) (λ b. b) (subst P (sym s) o)
      by Down s z a o = absurd cc
  sent_open _ h k q t = absurd cc

  sent_opened : (h : List Entry) → Keeps h → has (is_sent_on c Up p) h ≡ true → has (opens c) h ≡ true
  sent_opened h k t = earlier (is_sent_on c Up p) (λ g. has (opens c) g) (λ x g q. or_right (opens c x) (has (opens c) g) q) sent_open h k t

  -- one more message
  note_more : (e : Conn) (m : Message) (n : End) → is_noted c tag n ≡ true → is_noted c tag (note_sent e (tag_of m) n) ≡ true
  note_more e m n t = by (is_end_of e n)
    where
      by : (b : Bool) → is_noted c tag (if b then record { connection = n.connection; sent = with_tag (tag_of m) n.sent; got = n.got; ended = n.ended } else n) ≡ true
      by true = and_both (is_end_of c n) (is_in tag (with_tag (tag_of m) n.sent)) (and_left (is_end_of c n) (is_in tag n.sent) t) (with_other tag (tag_of m) n.sent (and_right (is_end_of c n) (is_in tag n.sent) t))
      by false = t

  note_new : (e : Conn) (m : Message) → same_connection c e ≡ true → p m ≡ true → (n : End) → is_end_of c n ≡ true → is_noted c tag (note_sent e (tag_of m) n) ≡ true
  note_new e m s a n t =
      let P : Conn → Type 0 = λ d. same_connection d n.connection ≡ true in by (is_end_of e n) (subst P (same_is c e s) t)
    where
      by : (b : Bool) → b ≡ true → is_noted c tag (if b then record { connection = n.connection; sent = with_tag (tag_of m) n.sent; got = n.got; ended = n.ended } else n) ≡ true
      by true q =
          and_both (is_end_of c n) (is_in tag (with_tag (tag_of m) n.sent)) t (subst (λ z. is_in z (with_tag (tag_of m) n.sent) ≡ true) (w.tagged m a) (with_own (tag_of m) n.sent))
      by false q = absurd cc

  noted_got : (e : Conn) (m : Message) (ns : List End) → has (is_noted c tag) (map (note_got e (tag_of m)) ns) ≡ has (is_noted c tag) ns
  noted_got e m ns =
      has_kept (is_noted c tag) (note_got e (tag_of m))
      (λ n. if_kept (is_noted c tag) (is_end_of e n) (record { connection = n.connection; sent = n.sent; got = with_tag (tag_of m) n.got; ended = n.ended }) n refl) ns

  noted_end : (e : Conn) (ns : List End) → has (is_noted c tag) (map (note_end e) ns) ≡ has (is_noted c tag) ns
  noted_end e ns =
      has_kept (is_noted c tag) (note_end e)
      (λ n. if_kept (is_noted c tag) (is_end_of e n) (record { connection = n.connection; sent = n.sent; got = n.got; ended = true }) n refl) ns

  sent_noted : (h : List Entry) → Keeps h → has (is_sent_on c Up p) h ≡ true → was_noted c tag (ends_of h) ≡ true
  sent_noted [] k t = absurd cc
  sent_noted (Sent e Up m ∷ h) k t = step (sent_noted h (keeps_before (Sent e Up m) h k)) (is_opening e m) refl
    where
      past : Keeps h
      past = keeps_before (Sent e Up m) h k

      step : (has (is_sent_on c Up p) h ≡ true → was_noted c tag (ends_of h) ≡ true) → (o : Bool) → is_opening e m ≡ o → was_noted c tag (if o then with_opened e (tag_of m) (ends_of h) else map (note_sent e (tag_of m)) (ends_of h)) ≡ true
      step ih true o =
          or_case (same_connection c e && true && p m) (has (is_sent_on c Up p) h)
          (λ a. let same = same_is c e (and_left (same_connection c e) true (and_left (same_connection c e && true) (p m) a)) in
          let P : Conn → Type 0 = λ d. is_opening d m ≡ true in
          absurd (not_both (is_opening c m) (subst P (sym same) o) (w.unopening m (and_right (same_connection c e && true) (p m) a))))
          (λ a. other_stays c e (is_noted c tag) (tag_of m) (ends_of h)
          (false_from_ne_true (same_connection c e) (λ s. not_both (has (opens c) h) (sent_opened h past a) (w.once (Sent e Up m) h (newest (Sent e Up m) h k) (and_both (same_connection c e) (is_opening e m) s o))))
          (λ n b. and_left (is_end_of c n) (is_in tag n.sent) b) (ih a)) t
      step ih false o =
          or_case (same_connection c e && true && p m) (has (is_sent_on c Up p) h)
          (λ a. let both = and_left (same_connection c e && true) (p m) a in
          has_made (is_end_of c) (is_noted c tag) (note_sent e (tag_of m)) (note_new e m (and_left (same_connection c e) true both) (and_right (same_connection c e && true) (p m) a)) (ends_of h)
          (opened_noted c h (sent_open (Sent e Up m) h past (newest (Sent e Up m) h k) a)))
          (λ a. has_made (is_noted c tag) (is_noted c tag) (note_sent e (tag_of m)) (note_more e m) (ends_of h) (ih a)) t
  sent_noted (Sent e Down m ∷ h) k t = sent_noted h (keeps_before (Sent e Down m) h k) (drop (same_connection c e) (p m) (has (is_sent_on c Up p) h) t)
    where
      drop : (a b d : Bool) → ((a && false && b) || d) ≡ true → d ≡ true
      drop true b d q = q
      drop false b d q = q
  sent_noted (Got e Down m ∷ h) k t = step (has_line e Down m) (sent_noted h (keeps_before (Got e Down m) h k) t)
    where
      step : (l : Bool) → was_noted c tag (ends_of h) ≡ true → was_noted c tag (if l then map (note_got e (tag_of m)) (ends_of h) else map (note_end e) (ends_of h)) ≡ true
      step true ih = noted_got e m (ends_of h) ∙ ih
      step false ih = noted_end e (ends_of h) ∙ ih
  sent_noted (Ended e Down ∷ h) k t = noted_end e (ends_of h) ∙ sent_noted h (keeps_before (Ended e Down) h k) t
  sent_noted (x ∷ h) k t = sent_noted h (keeps_before x h k) t

two_plain : IsPlain Begin COMMIT_TWO (tag_of BeginCommit)
two_plain = record { once = begin_once; tagged = tags; unopening = opens_none }
  where
    tags : (m : Message) → COMMIT_TWO m ≡ true → tag_of m ≡ tag_of BeginCommit
    tags BeginCommit t = refl
    tags _ t = absurd cc

    opens_none : (m : Message) → COMMIT_TWO m ≡ true → is_opening Begin m ≡ false
    opens_none BeginCommit t = refl
    opens_none _ t = absurd cc

one_plain : IsPlain Begin COMMIT_ONE (tag_of BeginCommitOne)
one_plain = record { once = begin_once; tagged = tags; unopening = opens_none }
  where
    tags : (m : Message) → COMMIT_ONE m ≡ true → tag_of m ≡ tag_of BeginCommitOne
    tags BeginCommitOne t = refl
    tags _ t = absurd cc

    opens_none : (m : Message) → COMMIT_ONE m ≡ true → is_opening Begin m ≡ false
    opens_none BeginCommitOne t = refl
    opens_none _ t = absurd cc

yes_plain : IsPlain Voter YES (tag_of VoterYes)
yes_plain = record { once = voter_once; tagged = tags; unopening = opens_none }
  where
    tags : (m : Message) → YES m ≡ true → tag_of m ≡ tag_of VoterYes
    tags VoterYes t = refl
    tags _ t = absurd cc

    opens_none : (m : Message) → YES m ≡ true → is_opening Voter m ≡ false
    opens_none VoterYes t = refl
    opens_none _ t = absurd cc

-- COMMIT of either name is one of the two
commit_split : (h : List Entry) → has is_commit_sent h ≡ true → (has (is_sent_on Begin Up COMMIT_TWO) h || has (is_sent_on Begin Up COMMIT_ONE) h) ≡ true
commit_split [] t = absurd cc
commit_split (x ∷ h) t =
    or_case (is_commit_sent x) (has is_commit_sent h)
    (λ a. or_case (is_sent_on Begin Up COMMIT_TWO x) (is_sent_on Begin Up COMMIT_ONE x)
    (λ b. or_left (has (is_sent_on Begin Up COMMIT_TWO) (x ∷ h)) (has (is_sent_on Begin Up COMMIT_ONE) (x ∷ h)) (or_left (is_sent_on Begin Up COMMIT_TWO x) (has (is_sent_on Begin Up COMMIT_TWO) h) b))
    (λ b. or_right (has (is_sent_on Begin Up COMMIT_TWO) (x ∷ h)) (has (is_sent_on Begin Up COMMIT_ONE) (x ∷ h)) (or_left (is_sent_on Begin Up COMMIT_ONE x) (has (is_sent_on Begin Up COMMIT_ONE) h) b)) (one x a))
    (λ a. or_case (has (is_sent_on Begin Up COMMIT_TWO) h) (has (is_sent_on Begin Up COMMIT_ONE) h)
    (λ b. or_left (has (is_sent_on Begin Up COMMIT_TWO) (x ∷ h)) (has (is_sent_on Begin Up COMMIT_ONE) (x ∷ h)) (or_right (is_sent_on Begin Up COMMIT_TWO x) (has (is_sent_on Begin Up COMMIT_TWO) h) b))
    (λ b. or_right (has (is_sent_on Begin Up COMMIT_TWO) (x ∷ h)) (has (is_sent_on Begin Up COMMIT_ONE) (x ∷ h)) (or_right (is_sent_on Begin Up COMMIT_ONE x) (has (is_sent_on Begin Up COMMIT_ONE) h) b)) (commit_split h a)) t
  where
    split : (a : Bool) (m : Message) → (a && COMMIT m) ≡ true → ((a && COMMIT_TWO m) || (a && COMMIT_ONE m)) ≡ true
    split true BeginCommit t = refl
    split true BeginCommitOne t = refl
    split true _ t = absurd cc
    split false m t = absurd cc

    one : (x : Entry) → is_commit_sent x ≡ true → (is_sent_on Begin Up COMMIT_TWO x || is_sent_on Begin Up COMMIT_ONE x) ≡ true
    one (Sent e r m) t = split (same_connection Begin e && same_direction Up r) m t
    one _ t = absurd cc

-- where the local side may abort on b no COMMIT was sent, and where it may on v no YES
pub commit_unsent : (h : List Entry) → Keeps h → may_abort_by_begin (ends_of h) ≡ true → has is_commit_sent h ≡ false
commit_unsent h k t = false_from_ne_true (has is_commit_sent h) (λ s.
    let none = not_true (was_commit_sent (ends_of h)) (second_of_four (was_got Begin begun_tag (ends_of h)) (not (was_commit_sent (ends_of h))) (not (was_noted Begin (tag_of BeginAbort) (ends_of h))) (knows Begin (ends_of h)) t) in
    or_case (has (is_sent_on Begin Up COMMIT_TWO) h) (has (is_sent_on Begin Up COMMIT_ONE) h)
    (λ a. not_both (was_noted Begin (tag_of BeginCommit) (ends_of h)) (sent_noted two_plain h k a) (or_first (was_noted Begin (tag_of BeginCommit) (ends_of h)) (was_noted Begin (tag_of BeginCommitOne) (ends_of h)) none))
    (λ a. not_both (was_noted Begin (tag_of BeginCommitOne) (ends_of h)) (sent_noted one_plain h k a) (or_second (was_noted Begin (tag_of BeginCommit) (ends_of h)) (was_noted Begin (tag_of BeginCommitOne) (ends_of h)) none))
    (commit_split h s))

pub yes_unsent : (h : List Entry) → Keeps h → may_abort_by_voter (ends_of h) ≡ true → has is_yes_sent h ≡ false
yes_unsent h k t = false_from_ne_true (has is_yes_sent h) (λ s.
    not_both (was_noted Voter (tag_of VoterYes) (ends_of h)) (sent_noted yes_plain h k s)
    (not_true (was_noted Voter (tag_of VoterYes) (ends_of h))
    (second_of_four (was_noted Voter voter_tag (ends_of h)) (not (was_noted Voter (tag_of VoterYes) (ends_of h))) (not (was_noted Voter (tag_of VoterNo) (ends_of h))) (knows Voter (ends_of h)) t)))
