-- Each volatile votes yes where it has puts, and done where it has none, and gives no other reply.
use Rattle.std.proofs.Common.{ℕ, ◌≡◌, ◌==◌, ◌||◌, Bool, true, false, not, List, [], ◌∷◌, Option, Some, None, refl, sym, subst, ap, ◌∙◌}
use Rattle.std.specs.Prelude.{if◌then◌else◌}
use Rattle.std.proofs.lemmas.Bool.{eqb-true, false_from_ne_true, or_left}
use Rattle.dtx_values.specs.declared.entry.Entry.{Entry}
use Rattle.dtx_values.specs.declared.entry.Entry.TheVariants.{OwnerAnswered, PromoteReply, Requested, Told, Voted}
use Rattle.dtx_values.specs.declared.entry.Party.TheVariants.{Enl}
use Rattle.dtx_values.specs.declared.entry.Request.TheVariants.{Abort as RequestAbort, Commit as RequestCommit}
use Rattle.dtx_values.specs.declared.message.Conn.TheVariants.{Enl as OnEnl}
use Rattle.dtx_values.specs.declared.note.Note.TheVariants.{Prepare}
use Rattle.dtx_values.specs.declared.note.Reply.{Reply}
use Rattle.dtx_values.specs.declared.note.Reply.TheVariants.{Vote as VoteReply}
use Rattle.dtx_values.specs.declared.number.EnlNo.{EnlNo}
use Rattle.dtx_values.specs.declared.number.TxNo.{TxNo}
use Rattle.dtx_values.specs.declared.script.Line.{Line}
use Rattle.dtx_values.specs.declared.trace.Place.TheVariants.{Transaction}
use Rattle.dtx_values.specs.declared.words.Outcome.TheVariants.{Aborted, Committed, InDoubt}
use Rattle.dtx_values.specs.declared.words.Vote.{Vote}
use Rattle.dtx_values.specs.declared.words.Vote.TheVariants.{Done, Yes}
use Rattle.dtx_model.specs.Caused.{Volatiles, answers, is_volatile_in, same_vote}
use Rattle.dtx_model.specs.Entries.{is_told}
use Rattle.dtx_model.specs.Grammar.{are_named_well}
use Rattle.dtx_model.specs.Traces.{Placed, history}
use Rattle.dtx_model.specs.Wires.{opens}
use Rattle.dtx_model.specs.Words.{each, has, put}
use Rattle.dtx_model.proofs.Bools.{and_both, not_both, not_false, or_second}
use Rattle.heard_notes.specs.Heard.{HeardNote, IsHeardSo, Reaches, heard, heard_at}
use Rattle.heard_notes.specs.Tables.{AreWilling, expected_vote, has_puts, hears_commit, is_willing_reply}
use Rattle.heard_notes.specs.declared.put.Put.{Put}
use Rattle.history_table.proofs.Lists.{OfEach, of-more}
use Rattle.history_table.proofs.Scans.{has_less}
use Rattle.history_table.proofs.Tests.{eq_self}
use Rattle.history_table.proofs.Table.{is_acked_by}
use Rattle.tx_map.specs.Live.{MapState, has_live}
use Rattle.tx_map.specs.Notes.{GivesNote, vote_of}
use Rattle.map_run.specs.Puts.{empty, with_puts}
use Rattle.map_run.proofs.Facts.{AreFacts, facts_before, votes_alone}
use Rattle.map_run.proofs.Hearing.{hears_commit_note, hears_rollback_note, reached_live}
use Rattle.map_run.proofs.Makers.{IsMadeBy}
use Rattle.map_run.proofs.Plans.{is_lasting_reply}
use Rattle.map_run.proofs.Puts.{is_put_of, live-puts, puts_of_pair}
use Rattle.map_run.proofs.Shown.{commit_was_shown, hears_abort, rollback_was_shown}
use Rattle.map_run.proofs.Told.{voted_enlisted, voted_untold}

-- who was told nothing, and acknowledged nothing, heard no outcome
commit_told : (e : ℕ) (x : Entry) → hears_commit e x ≡ true → is_told e x ≡ true
commit_told e (Told (Enl f) Committed) k = k
commit_told e _ k = absurd cc

abort_told : (e : ℕ) (x : Entry) → hears_abort e x ≡ true → is_told e x ≡ true
abort_told e (Told (Enl f) Aborted) k = k
abort_told e _ k = absurd cc

none_of_both : (p q : Entry → Bool) (h : List Entry) → has p h ≡ false → has q h ≡ false → has (λ x. p x || q x) h ≡ false
none_of_both p q [] a b = refl
none_of_both p q (x ∷ h) a b = by (p x) (q x) a b (none_of_both p q h)
  where
    by : (c d : Bool) → (c || has p h) ≡ false → (d || has q h) ≡ false → (has p h ≡ false → has q h ≡ false → has (λ x. p x || q x) h ≡ false) → ((c || d) || has (λ x. p x || q x) h) ≡ false
    by true d a b f = absurd cc
    by false true a b f = absurd cc
    by false false a b f = f a b

-- the expected vote is the one that a map with these puts gives
vote_expected : (b : Bool) (v : Vote) → v ≡ (if b then Yes else Done) → same_vote (expected_vote b) v ≡ true
vote_expected true v q = rw q refl
vote_expected false v q = rw q refl

module _ (s : List Line) (ps : List Put) (named : are_named_well s ≡ true) (made : OfEach (λ p. IsMadeBy s p.enlistment.value p.transaction.value) ps) where
  -- a volatile that votes gives the expected vote
  votes_so : (t : TxNo) (e : EnlNo) (v : Vote) (P : List Placed) (to : MapState) → is_volatile_in s e.value ≡ true → AreFacts s t.value (Voted e v ∷ history t.value P)
      → Reaches GivesNote s (with_puts empty ps) (record { transaction = t; enlistment = e; note = Prepare; entry = Voted e v } ∷ heard s Volatiles P) to → same_vote (expected_vote (has_puts ps e.value)) v ≡ true
  votes_so t e v P to w f r = vote_expected (has_puts ps e.value) v (sym (vote_is given) ∙ ap (λ b. if b then Yes else Done) live)
    where
      h : List Entry
      h = history t.value P

      untold : has (is_told e.value) h ≡ false
      untold = voted_untold e v h f.keeps (or_second (opens (OnEnl e) (Voted e v)) (has (opens (OnEnl e)) h) (f.unopened e w))

      unacked : has (is_acked_by e.value) h ≡ false
      unacked = or_second (is_acked_by e.value (Voted e v)) (has (is_acked_by e.value) h) (f.unacked e w)

      no_commit : has (hears_commit_note (t, e)) (heard s Volatiles P) ≡ false
      no_commit = false_from_ne_true (has (hears_commit_note (t, e)) (heard s Volatiles P)) (λ k.
          not_both (has (λ x. hears_commit e.value x || is_acked_by e.value x) h) (commit_was_shown s (t, e) P k)
          (none_of_both (hears_commit e.value) (is_acked_by e.value) h (has_less (hears_commit e.value) (is_told e.value) (commit_told e.value) h untold) unacked))

      no_rollback : has (hears_rollback_note (t, e)) (heard s Volatiles P) ≡ false
      no_rollback = false_from_ne_true (has (hears_rollback_note (t, e)) (heard s Volatiles P)) (λ k.
          not_both (has (hears_abort e.value) h) (rollback_was_shown s (t, e) P k) (has_less (hears_abort e.value) (is_told e.value) (abort_told e.value) h untold))

      own : OfEach (λ p. (e.value == p.enlistment.value) ≡ true → p.transaction.value ≡ t.value) ps
      own = of-more (λ p. IsMadeBy s p.enlistment.value p.transaction.value) (λ p. (e.value == p.enlistment.value) ≡ true → p.transaction.value ≡ t.value)
          (λ p m q. let P : ℕ → Type 0 = λ n. IsMadeBy s n p.transaction.value in
          f.made e.value p.transaction.value (subst P (sym (eqb-true e.value p.enlistment.value q)) m) (voted_enlisted e v h f.keeps)) ps made

      live : has_live (t, e) r.0.live ≡ has_puts ps e.value
      live =
          reached_live s (t, e) (with_puts empty ps) r.0 (heard s Volatiles P) r.2 no_commit no_rollback ∙ live-puts (t, e) ps empty ∙ or_none (has (is_put_of (t, e)) ps) (has_puts ps e.value) (puts_of_pair (t, e) ps own)
        where
          or_none : (a b : Bool) → a ≡ b → (a || false) ≡ b
          or_none true b q = q
          or_none false b q = q

      given : VoteReply (vote_of (t, e) r.0) ≡ VoteReply v
      given = let P : Option Reply → Type 0 = λ a. IsHeardSo s (record { transaction = t; enlistment = e; note = Prepare; entry = Voted e v }) a in subst P r.3.answered r.4

      vote_is : {a b : Vote} → VoteReply a ≡ VoteReply b → a ≡ b
      vote_is q = cc

  -- a volatile's reply is a vote
  apart : (t e : ℕ) (x : Entry) (h : List Entry) → AreFacts s t (x ∷ h) → is_lasting_reply e x ≡ true → not (is_volatile_in s e) ≡ true
  apart t e x h f k = not_false (is_volatile_in s e) (false_from_ne_true (is_volatile_in s e) (λ v. not_both (is_lasting_reply e x) k (votes_alone s t e x h named v f)))

  -- each reply is willing
  reply_willing : (t : TxNo) (x : Entry) (P : List Placed) (to : MapState) → AreFacts s t.value (x ∷ history t.value P) → Reaches GivesNote s (with_puts empty ps) (heard s Volatiles ((Transaction t, x) ∷ P)) to
      → is_willing_reply (answers s Volatiles) ps x ≡ true
  reply_willing t (Voted e v) P to f r = by (is_volatile_in s e.value) refl
    where
      by : (b : Bool) → is_volatile_in s e.value ≡ b → (not b || same_vote (expected_vote (has_puts ps e.value)) v) ≡ true
      by true w =
          let h : HeardNote = record { transaction = t; enlistment = e; note = Prepare; entry = Voted e v } in
          let R : Bool → Type 0 = λ b. Reaches GivesNote s (with_puts empty ps) (put (if b then Some h else None) (heard s Volatiles P)) to in
          votes_so t e v P to w f (subst R w r)
      by false w = refl
  reply_willing t (OwnerAnswered e Committed) P to f r = refl
  reply_willing t (OwnerAnswered e Aborted) P to f r = apart t.value e.value (OwnerAnswered e Aborted) (history t.value P) f (eq_self e.value)
  reply_willing t (OwnerAnswered e InDoubt) P to f r = apart t.value e.value (OwnerAnswered e InDoubt) (history t.value P) f (eq_self e.value)
  reply_willing t (PromoteReply e ok) P to f r = or_left (not (is_volatile_in s e.value)) ok (apart t.value e.value (PromoteReply e ok) (history t.value P) f (eq_self e.value))
  reply_willing t (Requested e RequestCommit) P to f r = refl
  reply_willing t (Requested e RequestAbort) P to f r = apart t.value e.value (Requested e RequestAbort) (history t.value P) f (eq_self e.value)
  reply_willing t _ P to f r = refl

  -- what is reached is reached from what was reached before the newest entry
  reached_before : (o : Option HeardNote) (hs : List HeardNote) (to : MapState) → Reaches GivesNote s (with_puts empty ps) (put o hs) to → (before : MapState) × Reaches GivesNote s (with_puts empty ps) hs before
  reached_before (Some h) hs to r = (r.0, r.2)
  reached_before None hs to r = (to, r)

  -- so all are
  pub all_willing : (P : List Placed) (to : MapState) → ((t : TxNo) → AreFacts s t.value (history t.value P)) → Reaches GivesNote s (with_puts empty ps) (heard s Volatiles P) to → AreWilling s Volatiles ps P
  all_willing [] to f r t = refl
  all_willing ((Transaction u, x) ∷ P) to f r t =
      let before = reached_before (heard_at s (answers s Volatiles) (Transaction u, x)) (heard s Volatiles P) to r in
      by (t.value == u.value) refl (all_willing P before.0 (λ w. earlier w (w.value == u.value) (f w)) before.1 t)
    where
      earlier : (w : TxNo) (b : Bool) → AreFacts s w.value (if b then x ∷ history w.value P else history w.value P) → AreFacts s w.value (history w.value P)
      earlier w true g = facts_before s w.value x (history w.value P) g
      earlier w false g = g

      here : (b : Bool) → b ≡ true → AreFacts s u.value (if b then x ∷ history u.value P else history u.value P) → AreFacts s u.value (x ∷ history u.value P)
      here true e g = g
      here false e g = absurd cc

      by : (b : Bool) → (t.value == u.value) ≡ b → each (is_willing_reply (answers s Volatiles) ps) (history t.value P) ≡ true
          → each (is_willing_reply (answers s Volatiles) ps) (if b then x ∷ history t.value P else history t.value P) ≡ true
      by true e k =
          and_both (is_willing_reply (answers s Volatiles) ps x) (each (is_willing_reply (answers s Volatiles) ps) (history t.value P)) (reply_willing u x P to (here (u.value == u.value) (eq_self u.value) (f u)) r) k
      by false e k = k
  all_willing (_ ∷ P) to f r t = all_willing P to f r t
