-- A call that has to wait: what is known with it.
use Rattle.std.proofs.Common.{◌≡◌, ◌<◌, ◌==◌, ◌+◌, ◌&&◌, ◌||◌, ℕ, suc, Bool, true, false, not, List, [], length, Option, Some, is_some, if◌then◌else◌, refl, sym, subst, ◌∙◌, arith}
use Rattle.std.proofs.lemmas.Bool.Decides.{nat_tests}
use Rattle.dtx_values.specs.declared.call.Call.{Call}
use Rattle.dtx_values.specs.TxIds.{number_of}
use Rattle.dtx_values.specs.declared.call.Call.TheVariants.{Durable, Marshal}
use Rattle.dtx_values.specs.declared.entry.Answer.TheVariants.{Wait}
use Rattle.dtx_values.specs.declared.entry.Entry.{Entry}
use Rattle.dtx_values.specs.declared.number.EnlNo.{EnlNo}
use Rattle.dtx_values.specs.declared.number.RmNo.{RmNo}
use Rattle.dtx_values.specs.declared.script.Support.{Support}
use Rattle.dtx_values.specs.declared.script.Support.TheVariants.{SinglePhase, TwoPhase}
use Rattle.dtx_values.specs.declared.row.Row.{Row}
use Rattle.dtx_values.specs.Class.{is_volatile}
use Rattle.dtx_values.specs.Row.{is_lasting}
use Rattle.dtx_values.specs.Table.{has_row, how_many, insert_by}
use Rattle.dtx_model.specs.Answers.{has_promotion, local_answer}
use Rattle.dtx_model.specs.Caused.{is_new}
use Rattle.dtx_model.specs.Half.{Half, enlist_sent, is_promoting}
use Rattle.dtx_model.specs.Waiting.{Waiter, class_by, is_place, is_place_of, waiter_line, wanted_by}
use Rattle.dtx_model.specs.declared.waiting.Wanted.{Wanted}
use Rattle.dtx_model.specs.declared.waiting.Wanted.TheVariants.{Identifier, Place}
use Rattle.dtx_model.proofs.Bools.{and_both, and_left, and_right, not_true}
use Rattle.dtx_model.proofs.Counts.{how_many-insert_by}
use Rattle.half_parts.specs.Half.{Known, is_awaited, is_free, is_its_own, is_made_by_waiting, waits_at}
use Rattle.half_parts.specs.Linked.{AreLinked, AreRows}
use Rattle.half_parts.specs.Waits.{AreWaiting, is_to_come}
use Rattle.half_parts.proofs.Links.{links-wait}
use Rattle.half_parts.proofs.Notes.{waits_for}
use Rattle.half_parts.proofs.Rows.{rows-awaited, rows-waits}
use Rattle.half_parts.proofs.Waiters.{add_waiter}
use Rattle.half_parts.specs.Taken.{is_place_awaited, place_sent}
use Rattle.dtx_model.specs.Facts.{begin_promotion, local_facts}
use Rattle.dtx_model.proofs.Passing.{has-insert_by}
use Rattle.dtx_values.specs.Owners.{cause_of}
use Rattle.dtx_values.specs.Support.{is_single}
use Rattle.dtx_values.specs.declared.words.Cause.TheVariants.{Marshal as MarshalCause}

-- what a call waits for that has to is free
record IsNewPlace (h : Half) (n : ℕ) (w : Wanted) : Type 0 where
  unawaited : (e : ℕ) → is_place_of e (n, w) ≡ true → is_awaited h.waits e ≡ false
  to_come : is_to_come h.seen.table (n, w) ≡ true

lasting_class : (s : Support) → is_volatile (class_by s) ≡ false
lasting_class (SinglePhase v o) = refl
lasting_class (TwoPhase v) = refl

new_place : (h : Half) (n : ℕ) (c : Call) → is_new h.seen c ≡ true → is_made_by_waiting h.waits c ≡ false → IsNewPlace h n (wanted_by c)
new_place h n (Durable t e r s) new none =
    record {
      unawaited = λ f k. let same : f ≡ e.value = grind (arith, nat_tests) in subst (λ g. is_awaited h.waits g ≡ false) (sym same) none;
      to_come = and_both (not (has_row e.value h.seen.table)) (not (is_volatile (class_by s))) new (rw (lasting_class s) refl);
    }
new_place h n c new none = record { unawaited = λ f k. absurd cc; to_come = refl }

-- what is known with the call that waits
pub record IsMore (l : Option ℕ) (p d : Bool) (xs : List Row) (m : Option (EnlNo × RmNo)) (h : Half) (ws : List Waiter) : Type 0 where
  pub rows : AreRows l p xs m ws
  pub waiting : AreWaiting xs ws
  pub links : AreLinked d xs ws h.seen.branches h.seen.ends

waits_more : (t : ℕ) (h : Half) (n : ℕ) (c : Call) → is_its_own c ≡ true → local_answer t h c 0 ≡ Wait → is_free h n c ≡ true → (m : Option (EnlNo × RmNo))
    → AreRows h.seen.limit h.seen.promoted h.seen.table m h.waits → AreWaiting h.seen.table h.waits → AreLinked (is_some h.seen.decided) h.seen.table h.waits h.seen.branches h.seen.ends
    → IsMore h.seen.limit h.seen.promoted (is_some h.seen.decided) h.seen.table m h (insert_by waiter_line (n, wanted_by c) h.waits)
waits_more t h n c own waits free m r w l =
    let inside = waits_for t h c own waits in
    let made = and_left (is_new h.seen c && not (is_made_by_waiting h.waits c)) (not (waits_at h.waits n)) free in
    let none = not_true (waits_at h.waits n) (and_right (is_new h.seen c && not (is_made_by_waiting h.waits c)) (not (waits_at h.waits n)) free) in
    let place = new_place h n c (and_left (is_new h.seen c) (not (is_made_by_waiting h.waits c)) made) (not_true (is_made_by_waiting h.waits c) (and_right (is_new h.seen c) (not (is_made_by_waiting h.waits c)) made)) in
    record {
      rows = rows (wanted_by c) (how_many-insert_by is_place waiter_line (n, wanted_by c) h.waits) inside.room inside.begun;
      waiting = add_waiter h.seen.table h.waits n (wanted_by c) w none inside.few_calls place.unawaited place.to_come;
      links = links-wait (is_some h.seen.decided) h.seen.table h.waits h.seen.branches h.seen.ends (n, wanted_by c) l;
    }
  where
    rows : (x : Wanted) → how_many is_place (insert_by waiter_line (n, x) h.waits) ≡ (if is_place (n, x) then suc (how_many is_place h.waits) else how_many is_place h.waits)
        → ((e : ℕ) → is_place_of e (0, x) ≡ true → (length h.seen.table + how_many is_place h.waits < 32) × (how_many is_lasting h.seen.table + how_many is_place h.waits < 16)) → is_some h.seen.limit ≡ true
        → AreRows h.seen.limit h.seen.promoted h.seen.table m (insert_by waiter_line (n, x) h.waits)
    rows Identifier same room begun =
        rows-waits h.seen.limit h.seen.promoted h.seen.table m h.waits (insert_by waiter_line (n, Identifier) h.waits) (omega (arith, same)) (λ k. absurd cc) r
    rows (Place e q y) same room begun =
        let itself : (e.value == e.value) ≡ true = grind (arith, nat_tests) in
        let few = room e.value itself in
        rows-awaited h.seen.limit h.seen.promoted h.seen.table m h.waits (insert_by waiter_line (n, Place e q y) h.waits) same few.0 few.1 begun r

-- the same, where what is kept shows as k
pub waits_seen : (j k : Known) → j ≡ k → (n : ℕ) (c : Call) → is_its_own c ≡ true → local_answer (number_of k.transaction) k.half c 0 ≡ Wait → is_free k.half n c ≡ true → (m : Option (EnlNo × RmNo))
    → AreRows j.half.seen.limit j.half.seen.promoted j.half.seen.table m j.half.waits → AreWaiting j.half.seen.table j.half.waits
    → AreLinked (is_some j.half.seen.decided) j.half.seen.table j.half.waits j.half.seen.branches j.half.seen.ends
    → IsMore j.half.seen.limit j.half.seen.promoted (is_some j.half.seen.decided) j.half.seen.table m j.half (insert_by waiter_line (n, wanted_by c) j.half.waits)
waits_seen j k same n c own waits free m r w l =
    waits_more (number_of j.transaction) j.half n c own (subst (λ (x : Known). local_answer (number_of x.transaction) x.half c 0 ≡ Wait) (sym same) waits) (subst (λ (x : Known). is_free x.half n c ≡ true) (sym same) free) m r w l

-- a promotion began where it succeeded or is under way
pub started_cause : (promoted failed some : Bool) → (promoted || ((some && not promoted) && not failed)) ≡ true → (promoted || some) ≡ false → ⊥
started_cause true failed some k n = cc
started_cause false failed true k n = cc
started_cause false failed false k n = cc

durable_started : (p g : Bool) (xs ys : List Entry) → (p || g) ≡ true → (if p then xs else if g then [] else ys) ≡ (if p then xs else [])
durable_started true g xs ys k = refl
durable_started false true xs ys k = refl
durable_started false false xs ys k = absurd cc

marshal_started : (p g : Bool) (ys : List Entry) → p ≡ false → (p || g) ≡ true → (if g then [] else ys) ≡ []
marshal_started true g ys z k = absurd cc
marshal_started false true ys z k = refl
marshal_started false false ys z k = absurd cc

-- what a call that waits writes where a promotion began
pub started_facts : (t : ℕ) (h : Half) (c : Call) → is_its_own c ≡ true → local_answer t h c 0 ≡ Wait → has_promotion h.seen ≡ true → local_facts t h c Wait ≡ place_sent t h c
started_facts t h (Durable u e r s) own waits started = durable_started h.seen.promoted (is_promoting h.seen) (enlist_sent t e r) (begin_promotion h (cause_of h.seen.table (is_single s))) started
started_facts t h (Marshal u) own waits started =
    marshal_started h.seen.promoted (is_promoting h.seen) (begin_promotion h (Some MarshalCause)) ((waits_for t h (Marshal u) own waits).unpromoted refl) started
started_facts t h c own waits started = let never = (waits_for t h c own waits).kind in absurd cc

pub place_awaited : (ws : List Waiter) (n : ℕ) (c : Call) → is_place_awaited (insert_by waiter_line (n, wanted_by c) ws) c ≡ true
place_awaited ws n (Durable t e r s) =
    let itself : (e.value == e.value) ≡ true = grind (arith, nat_tests) in
    has-insert_by (is_place_of e.value) waiter_line (n, Place e r (class_by s)) ws ∙ rw itself refl
place_awaited ws n _ = refl

-- no promotion began where none succeeded, none is under way, and nothing is decided
pub never_started : (p f s d : Bool) → (p || ((s && not p) && not f)) ≡ false → d ≡ false → (f ≡ true → d ≡ true) → (p || s) ≡ false
never_started true f s d k u g = absurd cc
never_started false true s d k u g = let never = g refl in absurd cc
never_started false false true d k u g = absurd cc
never_started false false false d k u g = refl
