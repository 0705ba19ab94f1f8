-- What is held of a transaction stays tied to its history, move by move.
use Rattle.std.proofs.Common.{◌≡◌, ℕ, Bool, true, false, not, ◌&&◌, ◌||◌, ◌==◌, List, [], ◌∷◌, ◌++◌, refl, subst, sym, ◌∙◌}
use Rattle.std.proofs.lemmas.List.Folds.{list_any-append}
use Rattle.dtx_values.specs.declared.entry.Entry.{Entry}
use Rattle.dtx_values.specs.declared.entry.Entry.TheVariants.{Acked, Voted}
use Rattle.dtx_values.specs.declared.note.Reply.{Reply}
use Rattle.dtx_values.specs.declared.note.Reply.TheVariants.{Vote as VoteReply, Promote as Promotes, Owner as OwnerReply, Ack}
use Rattle.dtx_values.specs.declared.words.Vote.TheVariants.{Done, No, Yes}
use Rattle.dtx_model.proofs.Bools.{and_both, and_left, and_right, not_both, or_case, or_right}
use Rattle.dtx_model.proofs.Reading.{has-onto}
use Rattle.dtx_model.specs.Caused.{same_vote}
use Rattle.dtx_model.specs.Entries.{is_vote}
use Rattle.dtx_model.specs.Words.{each, has, onto}
use Rattle.record_laws.specs.Recorded.{is_ack, is_vote_yes}
use Rattle.transactions.specs.Hearing.{Given, is_one_of, is_reply, says}
use Rattle.all_or_nothing.specs.Tying.{gives, is_acking, is_any_vote, is_done, is_vote_done, is_yes}
use Rattle.std.proofs.lemmas.Bool.{or_left}
use Rattle.all_or_nothing.proofs.Tied.{SaysNoMore}

-- ---- what is written was given

-- what an entry says of a vote or an acknowledgement is what a reply says
record Tells (test : ℕ → Entry → Bool) (p : Reply → Bool) : Type 0 where
  replies : (e : ℕ) (x : Entry) → test e x ≡ true → is_reply x ≡ true
  told : (e : ℕ) (x : Entry) (g : Given) → test e x ≡ true → says g x ≡ true → ((g.0.value == e) && p g.1) ≡ true

one_given : (test : ℕ → Entry → Bool) (p : Reply → Bool) → Tells test p → (gs : List Given) (e : ℕ) (x : Entry) → is_one_of gs x ≡ true → test e x ≡ true → gives p e gs ≡ true
one_given test p t gs e x one k =
    or_case (not (is_reply x)) (has (λ g. says g x) gs) (λ q. absurd (not_both (is_reply x) (t.replies e x k) (Rattle.dtx_model.proofs.Bools.not_true (is_reply x) q)))
    (λ q. Rattle.history_table.proofs.Scans.has_more (λ g. says g x) (λ g. (g.0.value == e) && p g.1) (λ g s. t.told e x g k s) gs q) one

written_given : (test : ℕ → Entry → Bool) (p : Reply → Bool) → Tells test p → (gs : List Given) (e : ℕ) (ws : List Entry) → each (is_one_of gs) ws ≡ true → has (test e) ws ≡ true → gives p e gs ≡ true
written_given test p t gs e [] all k = absurd cc
written_given test p t gs e (w ∷ ws) all k =
    or_case (test e w) (has (test e) ws) (λ q. one_given test p t gs e w (and_left (is_one_of gs w) (each (is_one_of gs) ws) all) q)
    (λ q. written_given test p t gs e ws (and_right (is_one_of gs w) (each (is_one_of gs) ws) all) q) k

-- so after it no more is said than was, and was to be given
said_before : (test : ℕ → Entry → Bool) (p : Reply → Bool) → Tells test p → (gs hs : List Given) (e : ℕ) (h ws : List Entry) → each (is_one_of gs) ws ≡ true → (gives p e hs ≡ true → gives p e gs ≡ true)
    → (has (test e) (onto h ws) || gives p e hs) ≡ true → (has (test e) h || gives p e gs) ≡ true
said_before test p t gs hs e h ws all fewer k =
    or_case (has (test e) (onto h ws)) (gives p e hs)
    (λ q. or_case (has (test e) ws) (has (test e) h) (λ r. or_right (has (test e) h) (gives p e gs) (written_given test p t gs e ws all r)) (λ r. or_left (has (test e) h) (gives p e gs) r) (sym (has-onto (test e) h ws) ∙ q))
    (λ q. or_right (has (test e) h) (gives p e gs) (fewer q)) k

flip : (a b : ℕ) → (a == b) ≡ true → (b == a) ≡ true
flip a b q = subst (λ k. (k == a) ≡ true) (Rattle.std.proofs.lemmas.Bool.eqb-true a b q) (Rattle.history_table.proofs.Tests.eq_self a)

-- who gave a reply is whom the entry names
same_name : (e f g : ℕ) → (e == f) ≡ true → (g == f) ≡ true → (g == e) ≡ true
same_name e f g p q = subst (λ k. (g == k) ≡ true) (sym (Rattle.std.proofs.lemmas.Bool.eqb-true e f p)) q

vote_tells : Tells is_vote is_any_vote
vote_tells = record { replies = replies; told = told }
  where
    replies : (e : ℕ) (x : Entry) → is_vote e x ≡ true → is_reply x ≡ true
    replies e (Voted f v) k = refl
    replies e _ k = absurd cc

    told : (e : ℕ) (x : Entry) (g : Given) → is_vote e x ≡ true → says g x ≡ true → ((g.0.value == e) && is_any_vote g.1) ≡ true
    told e (Voted f v) (g, VoteReply w) k s = and_both (g.value == e) true (same_name e f.value g.value k (and_left (g.value == f.value) (same_vote w v) s)) refl
    told e (Voted f v) (g, Promotes b) k s = absurd cc
    told e (Voted f v) (g, OwnerReply o) k s = absurd cc
    told e (Voted f v) (g, Ack) k s = absurd cc
    told e _ g k s = absurd cc

yes_tells : Tells is_vote_yes is_yes
yes_tells = record { replies = replies; told = told }
  where
    replies : (e : ℕ) (x : Entry) → is_vote_yes e x ≡ true → is_reply x ≡ true
    replies e (Voted f v) k = refl
    replies e _ k = absurd cc

    told : (e : ℕ) (x : Entry) (g : Given) → is_vote_yes e x ≡ true → says g x ≡ true → ((g.0.value == e) && is_yes g.1) ≡ true
    told e (Voted f Yes) (g, VoteReply Yes) k s = and_both (g.value == e) true (same_name e f.value g.value k (and_left (g.value == f.value) true s)) refl
    told e (Voted f Yes) (g, VoteReply No) k s = absurd (no (g.value == f.value) s)
      where
        no : (b : Bool) → (b && false) ≡ true → ⊥
        no true q = absurd cc
        no false q = absurd cc
    told e (Voted f Yes) (g, VoteReply Done) k s = absurd (no (g.value == f.value) s)
      where
        no : (b : Bool) → (b && false) ≡ true → ⊥
        no true q = absurd cc
        no false q = absurd cc
    told e (Voted f Yes) (g, Promotes b) k s = absurd cc
    told e (Voted f Yes) (g, OwnerReply o) k s = absurd cc
    told e (Voted f Yes) (g, Ack) k s = absurd cc
    told e _ g k s = absurd cc

done_tells : Tells is_vote_done is_done
done_tells = record { replies = replies; told = told }
  where
    replies : (e : ℕ) (x : Entry) → is_vote_done e x ≡ true → is_reply x ≡ true
    replies e (Voted f v) k = refl
    replies e _ k = absurd cc

    told : (e : ℕ) (x : Entry) (g : Given) → is_vote_done e x ≡ true → says g x ≡ true → ((g.0.value == e) && is_done g.1) ≡ true
    told e (Voted f Done) (g, VoteReply Done) k s = and_both (g.value == e) true (same_name e f.value g.value k (and_left (g.value == f.value) true s)) refl
    told e (Voted f Done) (g, VoteReply No) k s = absurd (no (g.value == f.value) s)
      where
        no : (b : Bool) → (b && false) ≡ true → ⊥
        no true q = absurd cc
        no false q = absurd cc
    told e (Voted f Done) (g, VoteReply Yes) k s = absurd (no (g.value == f.value) s)
      where
        no : (b : Bool) → (b && false) ≡ true → ⊥
        no true q = absurd cc
        no false q = absurd cc
    told e (Voted f Done) (g, Promotes b) k s = absurd cc
    told e (Voted f Done) (g, OwnerReply o) k s = absurd cc
    told e (Voted f Done) (g, Ack) k s = absurd cc
    told e _ g k s = absurd cc

ack_tells : Tells is_ack is_acking
ack_tells = record { replies = replies; told = told }
  where
    replies : (e : ℕ) (x : Entry) → is_ack e x ≡ true → is_reply x ≡ true
    replies e (Acked f) k = refl
    replies e _ k = absurd cc

    told : (e : ℕ) (x : Entry) (g : Given) → is_ack e x ≡ true → says g x ≡ true → ((g.0.value == e) && is_acking g.1) ≡ true
    told e (Acked f) (g, Ack) k s = and_both (g.value == e) true (same_name e f.value g.value k s) refl
    told e (Acked f) (g, VoteReply v) k s = absurd cc
    told e (Acked f) (g, Promotes b) k s = absurd cc
    told e (Acked f) (g, OwnerReply o) k s = absurd cc
    told e _ g k s = absurd cc

abbrev pub Fewer : List Given → List Given → Type 0
Fewer hs gs = (p : Reply → Bool) (e : ℕ) → gives p e hs ≡ true → gives p e gs ≡ true

pub says_written : (gs hs : List Given) (h ws : List Entry) → each (is_one_of gs) ws ≡ true → Fewer hs gs → SaysNoMore gs h hs (onto h ws)
says_written gs hs h ws all fewer = record {
  vote = λ e k. said_before is_vote is_any_vote vote_tells gs hs e h ws all (fewer is_any_vote e) k;
  yes_vote = λ e k. said_before is_vote_yes is_yes yes_tells gs hs e h ws all (fewer is_yes e) k;
  done = λ e k. said_before is_vote_done is_done done_tells gs hs e h ws all (fewer is_done e) k;
  ack = λ e k. said_before is_ack is_acking ack_tells gs hs e h ws all (fewer is_acking e) k;
}

pub fewer_same : (gs : List Given) → Fewer gs gs
fewer_same gs p e k = k

pub fewer_first : (gs qs : List Given) → Fewer gs (gs ++ qs)
fewer_first gs qs p e k = list_any-append (λ g. (g.0.value == e) && p g.1) gs qs ∙ or_left (gives p e gs) (gives p e qs) k
