-- What holds of a transaction's history in a run in which one object answers for all volatiles: of its end too, and so of each part up to an entry.
use Rattle.std.proofs.Common.{ℕ, ◌≡◌, true, false, List, ◌∷◌}
use Rattle.std.proofs.lemmas.Bool.{false_from_ne_true}
use Rattle.dtx_values.specs.declared.entry.Entry.{Entry}
use Rattle.dtx_values.specs.declared.message.Conn.TheVariants.{Enl}
use Rattle.dtx_values.specs.declared.number.EnlNo.{EnlNo}
use Rattle.dtx_values.specs.declared.script.Line.{Line}
use Rattle.dtx_model.specs.Caused.{CausedBy, IsCallOf, Volatiles, answers, is_as_planned, is_volatile_in, plans_of}
use Rattle.dtx_model.specs.Grammar.{are_named_well}
use Rattle.dtx_model.specs.Tied.{tied}
use Rattle.dtx_model.specs.Wires.{opens}
use Rattle.dtx_model.specs.Words.{always, has}
use Rattle.dtx_model.proofs.Bools.{and_left, and_right, not_both, or_right, or_second}
use Rattle.history_table.proofs.EntryTests.{is_enlisted}
use Rattle.history_table.proofs.Keeping.{Keeps, keeps_before}
use Rattle.history_table.proofs.Names.{script_once}
use Rattle.history_table.proofs.Steady.{free_keeps}
use Rattle.history_table.proofs.Table.{is_acked_by}
use Rattle.map_run.proofs.Makers.{IsMadeBy, made_by_line, stands_at, unopened}
use Rattle.map_run.proofs.Plans.{is_lasting_reply, none_planned, volatile_votes}
use Rattle.map_run.proofs.Unacked.{acked_opened}

-- it keeps the table; no connection of a volatile's own is opened, and none acknowledges; replies are as planned; and whoever stands is made for this transaction
pub record AreFacts (s : List Line) (t : ℕ) (h : List Entry) : Type 0 where
  pub keeps : Keeps h
  pub unopened : (e : EnlNo) → is_volatile_in s e.value ≡ true → has (opens (Enl e)) h ≡ false
  pub unacked : (e : EnlNo) → is_volatile_in s e.value ≡ true → has (is_acked_by e.value) h ≡ false
  pub planned : always (is_as_planned (plans_of s) (answers s Volatiles)) h ≡ true
  pub made : (e u : ℕ) → IsMadeBy s e u → has (is_enlisted e) h ≡ true → u ≡ t

-- so it is of the history before the newest entry
pub facts_before : (s : List Line) (t : ℕ) (x : Entry) (h : List Entry) → AreFacts s t (x ∷ h) → AreFacts s t h
facts_before s t x h f = record {
  keeps = keeps_before x h f.keeps;
  unopened = λ e v. or_second (opens (Enl e) x) (has (opens (Enl e)) h) (f.unopened e v);
  unacked = λ e v. or_second (is_acked_by e.value x) (has (is_acked_by e.value) h) (f.unacked e v);
  planned = and_right (is_as_planned (plans_of s) (answers s Volatiles) h x) (always (is_as_planned (plans_of s) (answers s Volatiles)) h) f.planned;
  made = λ e u m k. f.made e u m (or_right (is_enlisted e x) (has (is_enlisted e) h) k);
}

-- so it is of each history that the script causes, where each restart found what may be found
pub caused_facts : (s : List Line) (t : ℕ) (h : List Entry) → are_named_well s ≡ true → CausedBy s (answers s Volatiles) t h → tied h ≡ true → AreFacts s t h
caused_facts s t h named c d = record {
  keeps = free_keeps (IsCallOf s t) t h (script_once s t named) c.freely d;
  unopened = none;
  unacked = λ e v. false_from_ne_true (has (is_acked_by e.value) h) (λ k. not_both (has (opens (Enl e)) h) (acked_opened (IsCallOf s t) t e c.freely.1.0 (record { calls = c.freely.0; past = h }) c.freely.1.1 k) (none e v));
  planned = c.planned;
  made = λ e u m k. stands_at s e t u h named m c.freely k;
}
  where
    none : (e : EnlNo) → is_volatile_in s e.value ≡ true → has (opens (Enl e)) h ≡ false
    none e v = let m = made_by_line s e.value v in unopened s t m.0 e h named m.1 c.freely

-- the newest entry is no reply of a volatile but a vote
pub votes_alone : (s : List Line) (t e : ℕ) (x : Entry) (h : List Entry) → are_named_well s ≡ true → is_volatile_in s e ≡ true → AreFacts s t (x ∷ h) → is_lasting_reply e x ≡ false
votes_alone s t e x h named v f =
    let m = made_by_line s e v in
    none_planned (plans_of s) (answers s Volatiles) h x e (volatile_votes s e m.0 named m.1)
    (and_left (is_as_planned (plans_of s) (answers s Volatiles) h x) (always (is_as_planned (plans_of s) (answers s Volatiles)) h) f.planned)
