-- Where no enlistment is silent by its plan, the plans have each reply that is due.
use Rattle.std.proofs.Common.{◌≡◌, ℕ, Bool, true, false, ◌&&◌, ◌||◌, List, slice_get, Some, refl, ◌∙◌, ap, sym}
use Rattle.std.specs.Prelude.{if◌then◌else◌, is_none, is_some, not}
use Rattle.dtx_values.specs.declared.entry.Entry.{Entry}
use Rattle.dtx_values.specs.declared.entry.Entry.TheVariants.{Requested}
use Rattle.dtx_values.specs.declared.note.Plan.{Plan}
use Rattle.dtx_values.specs.declared.row.Row.{Row}
use Rattle.dtx_values.specs.Class.{is_promotable}
use Rattle.dtx_values.specs.Row.{has_voted, is_marked}
use Rattle.dtx_model.specs.Words.{has, latest}
use Rattle.dtx_model.specs.Entries.{decision_of, handed_of, is_any_owner, is_asked, is_asked_alone, is_hand, is_owner_answer, is_promoted, is_request_of, is_vote}
use Rattle.dtx_model.specs.Observed.{is_ask_single, is_request, observe, rows}
use Rattle.dtx_model.specs.Outcome.{enlisted}
use Rattle.dtx_model.specs.Half.{is_gone, is_handed}
use Rattle.dtx_model.specs.Replies.{is_unsettled, may_still_answer, may_still_vote, owes_vote}
use Rattle.dtx_model.specs.History.{is_silent, is_silent_to_promote}
use Rattle.dtx_model.proofs.Bools.{and_both, and_left, and_right, not_both, not_false, not_true, or_first, or_second}
use Rattle.history_table.proofs.Keeping.{Keeps}
use Rattle.history_table.proofs.HalfRows.{row_marked, row_voted}
use Rattle.history_table.proofs.Scans.{has_less}
use Rattle.history_table.proofs.Undecided.{hand_seen}
use Rattle.settled_histories.proofs.Owed.{AreHeeded, IsHeeded}
use Rattle.outcome_law.proofs.Told.{answer_of, none_row, promise_planned, unlost_row}

-- the four notes to which an enlistment is silent, if it isn't lost: its plan has no reply, and it gave none
abbrev pub is_silent_to_prepare : Plan → List Entry → ℕ → Bool
is_silent_to_prepare p h n = has (is_asked n) h && is_none p.vote && not (has (is_vote n) h)

abbrev pub is_silent_to_hand : Plan → List Entry → ℕ → Bool
is_silent_to_hand p h n = has (is_hand n) h && is_none p.owner && not (has (is_any_owner n) h)

abbrev pub is_silent_to_single : Plan → List Entry → ℕ → Bool
is_silent_to_single p h n = has (is_asked_alone n) h && is_none p.owner && not (has (is_request_of n) h)

-- a row of an enlistment that isn't gone and isn't silent is silent to none of them
pub record IsHeard (p : Plan) (h : List Entry) (n : ℕ) : Type 0 where
  pub prepare : is_silent_to_prepare p h n ≡ false
  pub hand : is_silent_to_hand p h n ≡ false
  pub promote : is_silent_to_promote p h n ≡ false
  pub single : is_silent_to_single p h n ≡ false

pub row_heard : (p : Plan) (h : List Entry) (x : Row) → Keeps h → is_gone (observe h) x.number.value ≡ false → is_silent p h x.number.value ≡ false → IsHeard p h x.number.value
row_heard p h x k there silent =
    record {
      prepare = or_first prepare hand (or_first (prepare || hand) promote first);
      hand = or_second prepare hand (or_first (prepare || hand) promote first);
      promote = or_second (prepare || hand) promote first;
      single = or_second (prepare || hand || promote) single quiet;
    }
  where
    n : ℕ
    n = x.number.value

    prepare : Bool
    prepare = is_silent_to_prepare p h n

    hand : Bool
    hand = is_silent_to_hand p h n

    promote : Bool
    promote = is_silent_to_promote p h n

    single : Bool
    single = is_silent_to_single p h n

    quiet : (prepare || hand || promote || single) ≡ false
    quiet = unlost_row h x k there (prepare || hand || promote || single) silent

    first : (prepare || hand || promote) ≡ false
    first = or_first (prepare || hand || promote) single quiet

-- of four that hold, the second does
second : (a b c d : Bool) → (a && b && c && d) ≡ true → b ≡ true
second a b c d k = and_right a b (and_left (a && b) c (and_left (a && b && c) d k))

-- the request of one is a request
request_of : (e : ℕ) (x : Entry) → is_request_of e x ≡ true → is_request x ≡ true
request_of e (Requested f r) k = refl
request_of e x k = absurd cc

-- its plan has each reply that is due of it
heeded : (p : Plan) (h : List Entry) (i : ℕ) (x : Row) → Keeps h → slice_get (rows h) i ≡ Some x → IsHeard p h x.number.value → IsHeeded p h x
unfolding observe
heeded p h i x k e heard =
    record {
      votes = λ o z. not_both (is_silent_to_prepare p h n)
          (and_both (has (is_asked n) h && is_none p.vote) (not (has (is_vote n) h))
          (and_both (has (is_asked n) h) (is_none p.vote) (sym (row_marked h i x k e) ∙ and_left (is_marked x) (not (has_voted x)) (open_vote o)) z)
          (ap not (sym (row_voted h i x k e)) ∙ and_right (is_marked x) (not (has_voted x)) (open_vote o)))
          heard.prepare;
      promotes = promise_planned p h x heard.promote;
      owns = λ m c o z. not_both (is_silent_to_hand p h n)
          (and_both (has (is_hand n) h && is_none p.owner) (not (has (is_any_owner n) h))
          (and_both (has (is_hand n) h) (is_none p.owner) (sym (hand_seen n h k) ∙ and_left (is_handed (latest handed_of h) n) (may_still_answer (observe h)) o) z)
          (not_false (has (is_any_owner n) h)
          (has_less (is_any_owner n) is_owner_answer (answer_of n) h (unanswered_now (has is_promoted h) (has is_owner_answer h) m (and_right (is_handed (latest handed_of h) n) (may_still_answer (observe h)) o)))))
          heard.hand;
      commits = λ a o z. not_both (is_silent_to_single p h n)
          (and_both (has (is_asked_alone n) h && is_none p.owner) (not (has (is_request_of n) h)) (and_both (has (is_asked_alone n) h) (is_none p.owner) a z)
          (not_false (has (is_request_of n) h)
          (has_less (is_request_of n) is_request (request_of n) h (not_true (has is_request h) (second (has is_ask_single h) (not (has is_request h)) (is_promotable x.class) _ o)))))
          heard.single;
    }
  where
    n : ℕ
    n = x.number.value

    unanswered_now : (m a : Bool) → m ≡ true → (if m then not a && is_unsettled (latest decision_of h) else not (is_some (latest decision_of h))) ≡ true → a ≡ false
    unanswered_now true true q k = absurd cc
    unanswered_now true false q k = refl
    unanswered_now false a q k = absurd cc

    open_vote : owes_vote (observe h) x ≡ true → (is_marked x && not (has_voted x)) ≡ true
    open_vote o = and_left (is_marked x && not (has_voted x)) (may_still_vote (observe h) x) o

-- where no enlistment is silent, no row that isn't gone is
pub rows_heard : (p : ℕ → Plan) (h : List Entry) (i : ℕ) (x : Row) → Keeps h → has (λ y. is_silent (p y.0.value) h y.0.value) (enlisted h) ≡ false → slice_get (rows h) i ≡ Some x
    → is_gone (observe h) x.number.value ≡ false → IsHeard (p x.number.value) h x.number.value
rows_heard p h i x k quiet e there = row_heard (p x.number.value) h x k there (none_row (λ n. is_silent (p n) h n) h i x quiet e)

-- so the plans have each reply that is due
pub all_heard : (p : ℕ → Plan) (h : List Entry) → Keeps h → has (λ y. is_silent (p y.0.value) h y.0.value) (enlisted h) ≡ false → AreHeeded p h
all_heard p h k quiet = λ i x e there. heeded (p x.number.value) h i x k e (rows_heard p h i x k quiet e there)
