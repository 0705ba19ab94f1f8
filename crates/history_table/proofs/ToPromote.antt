-- When a promotion begins: by a marshal call, by a promotable's call, and by who is asked to promote.
use Rattle.std.proofs.Common.{Bool, List, is_some, ◌≡◌, true, false, ◌&&◌, not, Option, None, refl, ap, sym, ◌∙◌, if◌then◌else◌, ℕ, Some}
use Rattle.std.proofs.lemmas.Bool.{false_from_ne_true}
use Rattle.dtx_values.specs.declared.entry.Answer.TheVariants.{False, Many, TooLate, True, Id, Wait}
use Rattle.dtx_values.specs.declared.entry.Entry.{Entry}
use Rattle.dtx_values.specs.declared.note.Note.{Note}
use Rattle.dtx_values.specs.declared.note.Reply.TheVariants.{Promote as Promotes}
use Rattle.dtx_values.specs.declared.number.EnlNo.{EnlNo}
use Rattle.dtx_values.specs.declared.row.Row.{Row}
use Rattle.dtx_values.specs.declared.words.Outcome.{Outcome}
use Rattle.dtx_values.specs.Class.{is_promotable}
use Rattle.dtx_values.specs.declared.limits.TheConstants.{ENLISTMENTS, CALLS}
use Rattle.dtx_values.specs.Owners.{may_own}
use Rattle.dtx_values.specs.Row.{is_of}
use Rattle.dtx_model.specs.Words.{latest, has}
use Rattle.dtx_model.specs.Entries.{is_decision, decision_of, is_promoted}
use Rattle.dtx_model.specs.Outcome.{enlisted}
use Rattle.dtx_model.specs.Observed.{cause_of_promotion, is_ask_promote, is_promote_reply, is_promotion_failed, observe, rows}
use Rattle.dtx_model.specs.Half.{is_promoting}
use Rattle.dtx_model.specs.Replies.{due_of, fits}
use Rattle.dtx_model.specs.Facts.{has_facts}
use Rattle.dtx_model.specs.World.{World, half}
use Rattle.dtx_model.proofs.Bools.{not_both, and_left, not_true}
use Rattle.history_table.proofs.Owned.{decision_seen, has_rows}
use Rattle.history_table.proofs.HalfReplies.{owed}
use Rattle.history_table.proofs.Lists.{found_at, has-at}
use Rattle.history_table.proofs.Tests.{first_of_four, second_of_four, third_of_four}

-- a promotion began
abbrev pub starts : List Entry → Bool
starts h = is_some (latest cause_of_promotion h)

-- Where it isn't promoted, isn't promoting, and nothing is decided, no promotion began,
pub unstarted : (h : List Entry) → has is_promoted h ≡ false → is_promoting (observe h) ≡ false → latest decision_of h ≡ None → (has is_promotion_failed h ≡ true → has is_decision h ≡ true) → starts h ≡ false
unfolding observe
unstarted h p w d f =
    by (starts h) (has is_promoted h) (has is_promotion_failed h) p
    (false_from_ne_true (has is_promotion_failed h) (λ k. not_both (has is_decision h) (f k) (sym (decision_seen h) ∙ ap (λ (o : Option Outcome). is_some o) d))) w
  where
    by : (s p f : Bool) → p ≡ false → f ≡ false → (s && not p && not f) ≡ false → s ≡ false
    by true false false a b k = absurd cc
    by true true f a b k = absurd cc
    by true false true a b k = absurd cc
    by false p f a b k = refl

-- A promotable's call, where no promotion is under way.
pub owns_alone : (s m f : Bool) → has_facts (if s then TooLate else if not m then False else if f then Many ENLISTMENTS else True) ≡ true → m ≡ true
owns_alone true m f k = absurd cc
owns_alone false true f k = refl
owns_alone false false f k = absurd cc

pub unowned : (xs : List Row) (p : Bool) → may_own xs p ≡ true → p ≡ false
unfolding may_own
unowned xs p k = not_true p (and_left (not p) _ k)

-- A marshal call: a promotion begins where none did.
pub marshal_waits : (p s c : Bool) (u : ℕ) → has_facts (if p then Id u else if s then TooLate else if c then Many CALLS else Wait) ≡ true → p ≡ false
marshal_waits true s c u k = absurd cc
marshal_waits false s c u k = refl

-- A promotable that is to promote was asked to, hasn't answered, and stands.
pub record IsToPromote (h : List Entry) : Type 0 where
  pub asked : has is_ask_promote h ≡ true
  pub new : has is_promote_reply h ≡ false
  pub stands : has (λ x. is_promotable x.1) (enlisted h) ≡ true

pub to_promote : (w : World) (e : EnlNo) (n : Note) → due_of (half w).seen e.value ≡ Some n → fits (Promotes true) n ≡ true → IsToPromote w.past
unfolding observe
to_promote w e n d f =
    let h = w.past in
    let o = owed h (Promotes true) n e.value refl d f in
    let class = third_of_four (has is_ask_promote h) (not (has is_promote_reply h)) (is_promotable o.row.class) (not (is_some (latest decision_of h))) o.answers in
    let place = found_at (is_of e.value) (rows h) o.row o.stands in
    record {
      asked = first_of_four (has is_ask_promote h) (not (has is_promote_reply h)) (is_promotable o.row.class) (not (is_some (latest decision_of h))) o.answers;
      new = not_true (has is_promote_reply h) (second_of_four (has is_ask_promote h) (not (has is_promote_reply h)) (is_promotable o.row.class) (not (is_some (latest decision_of h))) o.answers);
      stands = sym (has_rows (λ f c. is_promotable c) h) ∙ has-at (λ x. is_promotable x.class) (rows h) place.0 o.row place.1 class;
    }
