-- By the table: who answers as an owner was handed the commit, and who is asked for a vote was enlisted so.
use Rattle.std.proofs.Common.{◌≡◌, true, List, ◌∷◌, refl, ℕ, ◌&&◌, ◌||◌, sym, subst, ◌==◌, Bool, false, []}
use Rattle.std.specs.Prelude.{not, if◌then◌else◌, filter}
use Rattle.std.proofs.lemmas.Bool.{or_left, eqb-true, false_from_ne_true}
use Rattle.dtx_values.specs.declared.entry.Ask.TheVariants.{Prepare}
use Rattle.dtx_values.specs.declared.entry.Entry.{Entry}
use Rattle.dtx_values.specs.declared.entry.Entry.TheVariants.{Got, Asked}
use Rattle.dtx_values.specs.declared.message.Conn.TheVariants.{Enl}
use Rattle.dtx_values.specs.declared.message.Dir.TheVariants.{Down}
use Rattle.dtx_values.specs.declared.message.Message.TheVariants.{EnlistPrepare}
use Rattle.dtx_values.specs.declared.number.EnlNo.{EnlNo}
use Rattle.dtx_values.specs.declared.words.Class.{Class}
use Rattle.dtx_values.specs.Class.{is_volatile}
use Rattle.dtx_values.specs.declared.message.Message.{Message}
use Rattle.dtx_values.specs.Lines.{has_line}
use Rattle.dtx_model.specs.Words.{has, each}
use Rattle.dtx_model.specs.Entries.{is_promoted, is_commit_got, is_decision, is_commit, is_two_phase_got, is_asked, is_good_vote, is_vote}
use Rattle.dtx_model.specs.Outcome.{by_log, by_owner, by_seal, enlisted, evidence, ready, voters}
use Rattle.dtx_model.proofs.Bools.{or_right, or_case, and_right, and_left, not_both}
use Rattle.history_table.proofs.Table.{message_row, rule, ends_with, is_prepare_got, ask_row, stands_volatile, volatiles_well}
use Rattle.history_table.proofs.Keeping.{Keeps, earlier}
use Rattle.history_table.proofs.Messages.{PREPARE}
use Rattle.history_table.proofs.Sendings.{promoted_if_commit, by_got}
use Rattle.history_table.proofs.Tests.{first_of_three}
use Rattle.history_table.proofs.Scans.{has_more}
use Rattle.history_table.proofs.Lists.{each_filter}
use Rattle.history_table.proofs.EntryTests.{is_volatile_of, all_complete}
use Rattle.history_table.proofs.Recording.{two_phase_commit}
pub use Rattle.history_table.proofs.LetDecide.{handed_if_answered}
use Rattle.history_table.proofs.Evident.{volatile_more, local_voters, good_voted}

-- It was promoted where an enlistment got PREPARE.
prepare_of : (e : EnlNo) (m : Message) (h : List Entry) → Keeps h → PREPARE m ≡ true → has_line (Enl e) Down m ≡ true → message_row h (Enl e) m ≡ true → has is_promoted h ≡ true
prepare_of e EnlistPrepare h k t l r = promoted_if_commit h k (has_more is_two_phase_got is_commit_got two_phase_commit h r)
prepare_of e _ h k t l r = absurd cc

pub promoted_by_prepare : (e : EnlNo) (h : List Entry) → Keeps (Got (Enl e) Down EnlistPrepare ∷ h) → has is_promoted h ≡ true
promoted_by_prepare e h k =
    by_got (Enl e) Down PREPARE (λ g. has is_promoted g) (λ x g t. or_right (is_promoted x) (has is_promoted g) t) (prepare_of e) EnlistPrepare h k refl

-- Who is asked is volatile, or it is promoted.
prepare_promoted : (n : ℕ) (h : List Entry) → Keeps h → ends_with (is_prepare_got n) h ≡ true → has is_promoted h ≡ true
prepare_promoted n (Got (Enl g) Down EnlistPrepare ∷ h) k t = promoted_by_prepare g h k
prepare_promoted n _ k t = absurd cc

asked_row : (f : EnlNo) (h : List Entry) → Keeps h → ask_row h f.value ≡ true → (stands_volatile f.value h || has is_promoted h) ≡ true
asked_row f h k r =
    or_case (stands_volatile f.value h && has is_commit h && not (has is_decision h)) (ends_with (is_prepare_got f.value) h)
    (λ t. or_left (stands_volatile f.value h) (has is_promoted h) (first_of_three (stands_volatile f.value h) (has is_commit h) (not (has is_decision h)) t))
    (λ t. or_right (stands_volatile f.value h) (has is_promoted h) (prepare_promoted f.value h k t)) r

asked_now : (n : ℕ) (x : Entry) (h : List Entry) → Keeps h → rule h x ≡ true → is_asked n x ≡ true → (stands_volatile n h || has is_promoted h) ≡ true
asked_now n (Asked f Prepare) h k r t =
    let same : n ≡ f.value = eqb-true n f.value t in
    subst (λ m. (stands_volatile m h || has is_promoted h) ≡ true) (sym same) (asked_row f h k (and_right (not (has (is_asked f.value) h)) (ask_row h f.value) r))
asked_now n _ h k r t = absurd cc

pub asked_volatile : (n : ℕ) (h : List Entry) → Keeps h → has (is_asked n) h ≡ true → (stands_volatile n h || has is_promoted h) ≡ true
asked_volatile n h k s =
    earlier (is_asked n) (λ g. stands_volatile n g || has is_promoted g)
    (λ x g t. or_case (stands_volatile n g) (has is_promoted g) (λ v. or_left (stands_volatile n (x ∷ g)) (has is_promoted (x ∷ g)) (volatile_more n x g v))
    (λ p. or_right (stands_volatile n (x ∷ g)) (has is_promoted (x ∷ g)) (or_right (is_promoted x) (has is_promoted g) p)) t) (asked_now n) h k s

-- where a volatile hasn't voted, and nothing is promoted, there is no evidence
there_passes : (e : ℕ) (P : ℕ → Bool) (x : EnlNo × Class) (xs : List (EnlNo × Class)) (ys : List (EnlNo × Class)) → (has (is_volatile_of e) xs ≡ true → each (λ y. P y.0.value) ys ≡ true → P e ≡ true)
    → (v t : Bool) → (e == x.0.value) ≡ t → ((t && v) || has (is_volatile_of e) xs) ≡ true → each (λ y. P y.0.value) (if v then x ∷ ys else ys) ≡ true → P e ≡ true
there_passes e P x xs ys ih true true q s a =
    let same : e ≡ x.0.value = eqb-true e x.0.value q in subst (λ m. P m ≡ true) (sym same) (and_left (P x.0.value) (each (λ y. P y.0.value) ys) a)
there_passes e P x xs ys ih true false q s a = ih s (and_right (P x.0.value) (each (λ y. P y.0.value) ys) a)
there_passes e P x xs ys ih false true q s a = ih s a
there_passes e P x xs ys ih false false q s a = ih s a

volatile_passes : (e : ℕ) (P : ℕ → Bool) (xs : List (EnlNo × Class)) → has (is_volatile_of e) xs ≡ true → each (λ x. P x.0.value) (filter (λ x. is_volatile x.1) xs) ≡ true → P e ≡ true
volatile_passes e P [] s a = absurd cc
volatile_passes e P (x ∷ xs) s a =
    there_passes e P x xs (filter (λ y. is_volatile y.1) xs) (λ t b. volatile_passes e P xs t b) (is_volatile x.1) (e == x.0.value) refl s a

pub unvoted_open : (e : ℕ) (h : List Entry) → stands_volatile e h ≡ true → has (is_vote e) h ≡ false → has is_promoted h ≡ false → evidence h ≡ false
unfolding evidence ready
unvoted_open e h s v p =
    false_from_ne_true (ready h && (by_seal h || by_owner h || by_log h)) (λ t.
    let all = and_right (has is_commit h && all_complete h) (each (λ x. has (is_good_vote x.0.value) h) (voters h)) (and_left (ready h) (by_seal h || by_owner h || by_log h) t) in
    let good = volatile_passes e (λ n. has (is_good_vote n) h) (enlisted h) s (subst (λ xs. each (λ x. has (is_good_vote x.0.value) h) xs ≡ true) (local_voters h p) all) in
    not_both (has (is_vote e) h) (has_more (is_good_vote e) (is_vote e) (good_voted e) h good) v)

-- a volatile that stands voted well where each volatile did
pub volatile_good : (e : ℕ) (h : List Entry) → stands_volatile e h ≡ true → volatiles_well h ≡ true → has (is_good_vote e) h ≡ true
volatile_good e h s w = volatile_passes e (λ n. has (is_good_vote n) h) (enlisted h) s (each_filter (λ x. is_volatile x.1) (λ x. has (is_good_vote x.0.value) h) (enlisted h) w)
