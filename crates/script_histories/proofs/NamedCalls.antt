-- What a history has of names that are made once: each enlistment and each clone is of a call that came, and what the call of a line makes is new where that line wasn't called yet.
use Rattle.std.proofs.Common.{Bool, false, ◌≡◌, true, List, refl, ◌&&◌, [], ℕ, ◌∙◌, ◌||◌, ◌∷◌, ap, sym, subst, Some, ◌==◌}
use Rattle.std.specs.Prelude.{is_some, not, if◌then◌else◌}
use Rattle.dtx_values.specs.declared.number.ActorNo.{ActorNo}
use Rattle.dtx_values.specs.declared.number.EnlNo.{EnlNo}
use Rattle.dtx_values.specs.declared.call.Call.{Call}
use Rattle.dtx_values.specs.declared.call.Call.TheVariants.{Volatile, Durable, Promotable, Clone, Commit, Tick, Gone}
use Rattle.dtx_values.specs.declared.entry.Answer.{Answer}
use Rattle.dtx_values.specs.declared.entry.Entry.{Entry}
use Rattle.dtx_values.specs.declared.entry.Entry.TheVariants.{Cloned, Enlisted, Called}
use Rattle.dtx_values.specs.Row.{is_of}
use Rattle.dtx_values.specs.Clones.{is_open_rollback, is_clone}
use Rattle.dtx_values.specs.Table.{voted}
use Rattle.dtx_model.specs.Words.{has, each, onto}
use Rattle.dtx_model.specs.Entries.{is_call}
use Rattle.dtx_model.specs.Observed.{Observed, observe, rows, clone_rows}
use Rattle.dtx_model.specs.Half.{is_handed}
use Rattle.dtx_model.specs.Facts.{facts_if, reaches, ticked, lost_outcome, is_done}
use Rattle.dtx_model.specs.Steps.{Step, Calls, Replies, Acts}
use Rattle.dtx_model.proofs.Narrow.{facts, veto_if, time_up, is_late, decided_if, answer, block}
use Rattle.dtx_model.specs.Caused.{made_by, AreMadeOnce, is_new}
use Rattle.dtx_model.specs.Grammar.{Name, OfEnlistment, OfClone, same_name}
use Rattle.dtx_model.proofs.Bools.{or_case, not_both, or_right, not_false}
use Rattle.dtx_model.proofs.Reading.{has-onto}
use Rattle.history_table.proofs.Scans.{none_more}
use Rattle.history_table.proofs.Names.{call_makes, same_is}
use Rattle.history_table.proofs.Tests.{eq_self}
use Rattle.history_table.proofs.EntryTests.{is_enlisted, is_cloned}
use Rattle.history_table.proofs.TableRows.{enlisted_in_rows, clone_stands}
use Rattle.script_histories.proofs.Pending.{is_plain, veto_plain, time_plain, decided_plain, block_plain}
use Rattle.script_histories.proofs.Runs.{MayComeLocal, RanLocal, IsLocalRun}

-- the entry brings this name
abbrev pub is_namer : Name → Entry → Bool
is_namer x (Enlisted e c) = same_name x (OfEnlistment e.value)
is_namer x (Cloned c k) = same_name x (OfClone c.value)
is_namer x _ = false

-- what is plain brings no name
plain_no_name : (x : Name) (es : List Entry) → each is_plain es ≡ true → has (is_namer x) es ≡ false
plain_no_name x es h = none_more is_plain (is_namer x) (one x) es h
  where
    one : (x : Name) (y : Entry) → is_plain y ≡ true → is_namer x y ≡ false
    one x (Enlisted e c) h = absurd cc
    one x (Cloned c k) h = absurd cc
    one x _ h = refl

-- a fact that brings a name is of a call that makes it
facts_make : (x : Name) (o : Observed) (c : Call) (b : Bool) → has (is_namer x) (facts_if b (facts o c)) ≡ true → call_makes x c ≡ true
facts_make x o c false h = absurd cc
facts_make x o (Volatile t e v p) true h = or_case (same_name x (OfEnlistment e.value)) false (λ k. k) (λ k. absurd cc) h
facts_make x o (Durable t e r y) true h = or_case (same_name x (OfEnlistment e.value)) false (λ k. k) (λ k. absurd cc) h
facts_make x o (Promotable t e r v y p) true h = or_case (same_name x (OfEnlistment e.value)) false (λ k. k) (λ k. absurd cc) h
facts_make x o (Clone t c k) true h = or_case (same_name x (OfClone c.value)) false (λ k. k) (λ k. absurd cc) h
facts_make x o (Commit t) true h = absurd (not_both _ h (plain_no_name x (veto_if (has is_open_rollback o.clones)) (veto_plain (has is_open_rollback o.clones))))
facts_make x o (Tick t n) true h =
    let reached = reaches o.limit o.clock (ticked o.clock n) in
    absurd (not_both _ h (plain_no_name x (if reached then time_up (is_late o) else []) (time_plain reached (is_late o))))
facts_make x o (Gone e) true h =
    let lost = not (is_some o.decided) && not (voted e.value o.table) in
    let y = lost_outcome (is_handed o.handed e.value) in
    absurd (not_both _ h (plain_no_name x (decided_if lost y) (decided_plain lost y)))
facts_make x o _ true h = absurd cc

-- a call that passes was made by its line in the history
pub record IsCalled (G : ℕ → ActorNo → Call → Type 0) (h : List Entry) (q : Call → Bool) : Type 0 where
  pub number : ℕ
  pub actor : ActorNo
  pub call : Call
  pub given : G number actor call
  pub passes : q call ≡ true
  pub called : has (is_call number) h ≡ true

-- p passes no call and nothing plain, and the facts of a call only where q passes the call
pub record IsFactOf (p : Entry → Bool) (q : Call → Bool) : Type 0 where
  pub no_call : (n : ℕ) (a : ActorNo) (y : Answer) → p (Called n a y) ≡ false
  pub no_deed : (es : List Entry) → each is_plain es ≡ true → has p es ≡ false
  pub by_call : (o : Observed) (c : Call) (b : Bool) → has p (facts_if b (facts o c)) ≡ true → q c ≡ true

-- what was called before a block was called after it too
called_behind : (G : ℕ → ActorNo → Call → Type 0) (h es : List Entry) (q : Call → Bool) → IsCalled G h q → IsCalled G (onto h es) q
called_behind G h es q r =
    record {
      number = r.number;
      actor = r.actor;
      call = r.call;
      given = r.given;
      passes = r.passes;
      called = has-onto (is_call r.number) h es ∙ or_right (has (is_call r.number) es) (has (is_call r.number) h) r.called;
    }

-- a block in which p passes is of a call that q passes
block_called : (G : ℕ → ActorNo → Call → Type 0) (h : List Entry) (p : Entry → Bool) (q : Call → Bool) → IsFactOf p q → (m : Step) → MayComeLocal G h m → has p (block (observe h) m) ≡ true
    → IsCalled G (onto h (block (observe h) m)) q
unfolding block
block_called G h p q f (Calls n a c d) k e =
    let y = answer (observe h) c d in
    let es = facts_if (is_done y) (facts (observe h) c) in
    let same = eq_self n in
    let here : has (is_call n) (Called n a y ∷ es) ≡ true = rw same refl in
    record {
      number = n;
      actor = a;
      call = c;
      given = k.0;
      passes = or_case (p (Called n a y)) (has p es) (λ e. absurd (not_both (p (Called n a y)) e (f.no_call n a y))) (λ e. f.by_call (observe h) c (is_done y) e) e;
      called = has-onto (is_call n) h (Called n a y ∷ es) ∙ ap (λ b. b || has (is_call n) h) here;
    }
block_called G h p q f (Replies i r) k e = absurd (not_both _ e (f.no_deed (block (observe h) (Replies i r)) (block_plain (observe h) (Replies i r) refl)))
block_called G h p q f Acts k e = absurd (not_both _ e (f.no_deed (block (observe h) Acts) (block_plain (observe h) Acts refl)))
block_called G h p q f _ k e = absurd k

-- each fact in the history is of a call that was entered
ran_called : (G : ℕ → ActorNo → Call → Type 0) (p : Entry → Bool) (q : Call → Bool) → IsFactOf p q → (steps : List Step) (h : List Entry) → RanLocal G steps h → has p h ≡ true → IsCalled G h q
ran_called G p q f [] h r k = absurd (not_both (has p h) k (ap (λ h. has p h) r))
ran_called G p q f (m ∷ ms) h r k =
    let es = block (observe r.0) m in
    let split : (has p es || has p r.0) ≡ true = sym (has-onto p r.0 es) ∙ ap (λ h. has p h) (sym r.3) ∙ k in
    subst (λ h. IsCalled G h q) (sym r.3)
    (or_case (has p es) (has p r.0) (λ e. block_called G r.0 p q f m r.2 e) (λ e. called_behind G r.0 es q (ran_called G p q f ms r.0 r.1 e)) split)

pub fact_called : (G : ℕ → ActorNo → Call → Type 0) (p : Entry → Bool) (q : Call → Bool) → IsFactOf p q → (h : List Entry) → IsLocalRun G h → has p h ≡ true → IsCalled G h q
fact_called G p q f h r k = ran_called G p q f r.0 h r.1 k

-- a name is brought by the facts of calls that make it
names_of_calls : (x : Name) → IsFactOf (is_namer x) (call_makes x)
names_of_calls x = record { no_call = λ n a y. refl; no_deed = λ es h. plain_no_name x es h; by_call = λ o c b h. facts_make x o c b h }

-- where a name is brought, a call that makes it was entered
pub name_called : (G : ℕ → ActorNo → Call → Type 0) (x : Name) (h : List Entry) → IsLocalRun G h → has (is_namer x) h ≡ true → IsCalled G h (call_makes x)
name_called G x h r k = fact_called G (is_namer x) (call_makes x) (names_of_calls x) h r k

-- the call that makes a name is the call by which that name is made
pub makes_made : (x : Name) (c : Call) → call_makes x c ≡ true → made_by c ≡ Some x
makes_made x (Volatile t e o v) k = ap (λ y. Some y) (sym (same_is x (OfEnlistment e.value) k))
makes_made x (Durable t e r s) k = ap (λ y. Some y) (sym (same_is x (OfEnlistment e.value) k))
makes_made x (Promotable t e r v o p) k = ap (λ y. Some y) (sym (same_is x (OfEnlistment e.value) k))
makes_made x (Clone t c k) m = ap (λ y. Some y) (sym (same_is x (OfClone c.value) m))
makes_made x _ k = absurd cc

-- what a call makes has no entry where its line wasn't called
not_named : (G : ℕ → ActorNo → Call → Type 0) (n : ℕ) (a : ActorNo) (c : Call) (x : Name) (h : List Entry) → AreMadeOnce G → IsLocalRun G h → G n a c → has (is_call n) h ≡ false
    → call_makes x c ≡ true → has (is_namer x) h ≡ false
not_named G n a c x h w r k u m = by_cases (has (is_namer x) h) refl
  where
    by_cases : (b : Bool) → has (is_namer x) h ≡ b → has (is_namer x) h ≡ false
    by_cases false e = e
    by_cases true e =
        let made : IsCalled G h (call_makes x) = name_called G x h r e in
        let same : made.number ≡ n = w made.number n made.actor a made.call c x made.given k (makes_made x made.call made.passes) (makes_made x c m) in
        absurd (not_both (has (is_call n) h) (subst (λ i. has (is_call i) h ≡ true) same made.called) u)

-- what brings the name of an enlistment is that enlistment's entry
pub enlisted_namer : (e : ℕ) (h : List Entry) → has (is_namer (OfEnlistment e)) h ≡ has (is_enlisted e) h
enlisted_namer e [] = refl
enlisted_namer e (Enlisted f c ∷ h) = ap (λ b. (e == f.value) || b) (enlisted_namer e h)
enlisted_namer e (x ∷ h) = enlisted_namer e h

-- what brings the name of a clone is that clone's entry
cloned_namer : (c : ℕ) (h : List Entry) → has (is_namer (OfClone c)) h ≡ has (is_cloned c) h
cloned_namer c [] = refl
cloned_namer c (Cloned d k ∷ h) = ap (λ b. (c == d.value) || b) (cloned_namer c h)
cloned_namer c (x ∷ h) = cloned_namer c h

-- an enlistment that a call makes doesn't stand where its line wasn't called
new_enlistment : (G : ℕ → ActorNo → Call → Type 0) (n : ℕ) (a : ActorNo) (c : Call) (e : EnlNo) (h : List Entry) → AreMadeOnce G → IsLocalRun G h → G n a c
    → has (is_call n) h ≡ false → call_makes (OfEnlistment e.value) c ≡ true → not (has (is_of e.value) (rows h)) ≡ true
new_enlistment G n a c e h w r k f m =
    let none : has (is_namer (OfEnlistment e.value)) h ≡ false = not_named G n a c (OfEnlistment e.value) h w r k f m in
    not_false (has (is_of e.value) (rows h)) (enlisted_in_rows e.value h ∙ sym (enlisted_namer e.value h) ∙ none)

-- what a call makes is new where its line wasn't called
pub run_new : (G : ℕ → ActorNo → Call → Type 0) (n : ℕ) (a : ActorNo) (c : Call) (h : List Entry) → AreMadeOnce G → IsLocalRun G h → G n a c → has (is_call n) h ≡ false
    → is_new (observe h) c ≡ true
unfolding observe
run_new G n a (Volatile u e o v) h w r k f = new_enlistment G n a (Volatile u e o v) e h w r k f (eq_self e.value)
run_new G n a (Durable u e i x) h w r k f = new_enlistment G n a (Durable u e i x) e h w r k f (eq_self e.value)
run_new G n a (Promotable u e i v o p) h w r k f = new_enlistment G n a (Promotable u e i v o p) e h w r k f (eq_self e.value)
run_new G n a (Clone u c x) h w r k f =
    let same = eq_self c.value in
    let none : has (is_namer (OfClone c.value)) h ≡ false = not_named G n a (Clone u c x) (OfClone c.value) h w r k f same in
    not_false (has (is_clone c.value) (clone_rows h)) (clone_stands c.value h ∙ sym (cloned_namer c.value h) ∙ none)
run_new G n a _ h w r k f = refl
