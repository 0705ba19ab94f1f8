-- What the tables take.
use Rattle.std.proofs.Common.{◌≡◌, ◌<◌, ℕ, suc, ◌+◌, ◌||◌, ◌&&◌, Bool, true, false, not, List, [], ◌∷◌, length, Option, Some, None, nat_le, nat_lt, if◌then◌else◌, is_some, refl, arith, ap}
use Rattle.std.proofs.lemmas.Bool.Decides.{nat_tests}
use Rattle.dtx_values.specs.declared.call.Call.{Call}
use Rattle.dtx_values.specs.declared.call.Call.TheVariants.{Begin, Volatile, Durable, Promotable as PromotableCall, Clone, Complete, Commit, Rollback, Marshal, Status, Tick}
use Rattle.dtx_values.specs.declared.number.TxNo.{TxNo}
use Rattle.dtx_values.specs.declared.number.RmNo.{RmNo}
use Rattle.dtx_values.specs.declared.script.EnlistOption.{EnlistOption}
use Rattle.dtx_values.specs.declared.script.Support.{Support}
use Rattle.dtx_values.specs.declared.words.CloneKind.{CloneKind}
use Rattle.dtx_values.specs.declared.words.Timeout.{Timeout}
use Rattle.dtx_values.specs.declared.words.Vote.{Vote}
use Rattle.dtx_model.specs.Facts.{local_facts}
use Rattle.dtx_values.specs.declared.entry.Answer.{Answer}
use Rattle.dtx_values.specs.declared.entry.Answer.TheVariants.{Fine, Id, Many, False, True, TooLate, Wait}
use Rattle.dtx_values.specs.declared.number.CloneNo.{CloneNo}
use Rattle.dtx_values.specs.declared.number.EnlNo.{EnlNo}
use Rattle.dtx_values.specs.declared.words.Class.{Class}
use Rattle.dtx_values.specs.declared.words.Class.TheVariants.{DurableSingle, Promotable}
use Rattle.dtx_values.specs.declared.words.Outcome.{Outcome}
use Rattle.dtx_values.specs.declared.words.Cause.{Cause}
use Rattle.dtx_values.specs.declared.row.Row.{Row}
use Rattle.dtx_values.specs.Table.{how_many, has_row}
use Rattle.dtx_values.specs.Class.{is_volatile}
use Rattle.dtx_values.specs.Clones.{is_clone, is_complete_clone}
use Rattle.dtx_values.specs.Owners.{cause_of, may_own}
use Rattle.dtx_values.specs.Row.{is_lasting, is_of}
use Rattle.dtx_values.specs.Support.{is_single}
use Rattle.dtx_model.specs.Observed.{Observed}
use Rattle.dtx_model.specs.Half.{Half}
use Rattle.dtx_model.specs.Promotes.{identifier_of}
use Rattle.dtx_model.specs.Waiting.{is_place, is_place_of, wanted_by}
use Rattle.dtx_model.specs.Answers.{clone_answer, complete_answer, durable_answer, gone_answer, has_promotion, if_begun, is_crowded, is_full, is_full_of_durables, local_answer, marshal_answer, places, promotable_answer, status_answer, unless_ended, unless_late, unless_over, volatile_answer, wait_for}
use Rattle.dtx_model.specs.Words.{has}
use Rattle.dtx_model.proofs.Bools.{not_false, not_true}
use Rattle.dependent_clones.specs.Refusals.{clone_refusal}
use Rattle.half_parts.specs.Half.{Known, is_awaited, is_done, is_its_own}
use Rattle.half_parts.specs.Taken.{HasPlace, cause_for, with_call}
use Rattle.half_parts.proofs.Lists.{not_counted}
use Rattle.dtx_model.proofs.Unowned.{causeless}

-- some pass where their number isn't 0
pub some_left : {A : Type 0} (p : A → Bool) (xs : List A) → nat_lt 0 (how_many p xs) ≡ has p xs
some_left p [] = refl
some_left p (x ∷ xs) = step (p x) (some_left p xs)
  where
    step : (b : Bool) → nat_lt 0 (how_many p xs) ≡ has p xs → nat_lt 0 (if b then suc (how_many p xs) else how_many p xs) ≡ (b || has p xs)
    step true ih = grind (arith, nat_tests)
    step false ih = ih

-- an enlistment that stands was enlisted after the begin
pub standing_begun : (limit : Option ℕ) (xs : List Row) (e : ℕ) (gone : Bool) → (is_some limit ≡ false → length xs ≡ 0) → gone_answer (has_row e xs) gone ≡ Fine → is_some limit ≡ true
standing_begun (Some d) xs e gone none k = refl
standing_begun None [] e gone none k = absurd (cc)
standing_begun None (x ∷ xs) e gone none k = let never : suc (length xs) ≡ 0 = none refl in absurd (omega (arith, never))

-- a call is done only once it is begun, and while nothing is decided
done_inside : (o : Observed) (a : Answer) → is_done (unless_over o a) ≡ true → (is_done a ≡ true) × (is_some o.limit ≡ true)
done_inside o a k = step o.limit o.decided k
  where
    step : (l : Option ℕ) (d : Option Outcome) → is_done (if_begun l (unless_ended d a)) ≡ true → (is_done a ≡ true) × (is_some l ≡ true)
    step None d k = absurd (cc)
    step (Some l) (Some x) k = absurd (cc)
    step (Some l) None k = (k, refl)

undecided_there : (o : Observed) (a : Answer) → is_done (unless_over o a) ≡ true → is_some o.decided ≡ false
undecided_there o a k = step o.limit o.decided k
  where
    step : (l : Option ℕ) (d : Option Outcome) → is_done (if_begun l (unless_ended d a)) ≡ true → is_some d ≡ false
    step None d k = absurd (cc)
    step (Some l) (Some x) k = absurd (cc)
    step (Some l) None k = refl

-- fewer than 32 where 32 aren't there
below : (n m : ℕ) → nat_le n m ≡ false → m < n
below n m k = grind (arith, nat_tests)

-- a new volatile one whose call is done has its place
pub may_join : (h : Half) (e : EnlNo) (c : Class) → is_volatile c ≡ true → is_done (unless_over h.seen (volatile_answer h)) ≡ true → not (has (is_of e.value) h.seen.table) ≡ true
    → is_awaited h.waits e.value ≡ false → HasPlace h e c
may_join h e c v k new alone =
    let inside = done_inside h.seen (volatile_answer h) k in
    record {
      new = not_true (has (is_of e.value) h.seen.table) new;
      unawaited = alone;
      few = below 32 (length h.seen.table + places h) (step h.seen.sealed (is_full h) inside.0);
      few_last = λ w. absurd (cc);
      alone = rw v refl;
      begun = inside.1;
    }
  where
    step : (s f : Bool) → is_done (if s then TooLate else if f then Many 32 else Fine) ≡ true → f ≡ false
    step true f k = absurd (cc)
    step false true k = absurd (cc)
    step false false k = refl

-- where nothing lasts, few do with those that wait
few_there : (xs : List Row) → has is_lasting xs ≡ false → how_many is_lasting xs ≡ 0
few_there xs none = not_counted is_lasting xs none

-- a new durable one whose call is done has its place, and none lasts beside it
pub may_last : (h : Half) (e : EnlNo) (single : Bool) → is_done (unless_over h.seen (durable_answer h single)) ≡ true → not (has (is_of e.value) h.seen.table) ≡ true
    → is_awaited h.waits e.value ≡ false → HasPlace h e DurableSingle
may_last h e single k new unawaited =
    let inside = done_inside h.seen (durable_answer h single) k in
    let few = step h.seen.sealed (is_full h) (is_crowded h) (is_full_of_durables h) (has_promotion h.seen) (cause_of h.seen.table single) inside.0 in
    record {
      new = not_true (has (is_of e.value) h.seen.table) new;
      unawaited = unawaited;
      few = below 32 (length h.seen.table + places h) few.0;
      few_last = λ w. below 16 (how_many is_lasting h.seen.table + places h) few.1;
      alone = not_false (has is_lasting h.seen.table) (causeless h.seen.table single (ap (λ x. is_done (wait_for x)) few.2));
      begun = inside.1;
    }
  where
    step : (s f c d p : Bool) (o : Option Cause) → is_done (if s then TooLate else if f then Many 32 else if c then Many 32 else if d then Many 16 else if p then Wait else wait_for o) ≡ true
        → (f ≡ false) × (d ≡ false) × (o ≡ None)
    step true f c d p o k = absurd (cc)
    step false true c d p o k = absurd (cc)
    step false false true d p o k = absurd (cc)
    step false false false true p o k = absurd (cc)
    step false false false false true o k = absurd (cc)
    step false false false false false None k = (refl, refl, refl)
    step false false false false false (Some z) k = absurd (cc)

-- a new promotable one whose call is done has its place, and none lasts beside it
pub may_promote : (h : Half) (e : EnlNo) → how_many is_place h.waits ≡ 0 → is_done (unless_over h.seen (promotable_answer h)) ≡ true → not (has (is_of e.value) h.seen.table) ≡ true
    → is_awaited h.waits e.value ≡ false → HasPlace h e Promotable
unfolding may_own
may_promote h e none k new unawaited =
    let inside = done_inside h.seen (promotable_answer h) k in
    let few = step h.seen.sealed (has_promotion h.seen) (has is_lasting h.seen.table) (is_full h) inside.0 in
    record {
      new = not_true (has (is_of e.value) h.seen.table) new;
      unawaited = unawaited;
      few = below 32 (length h.seen.table + places h) few.0;
      few_last = λ w. let zero = few_there h.seen.table few.1 in omega (arith, zero, none);
      alone = not_false (has is_lasting h.seen.table) few.1;
      begun = inside.1;
    }
  where
    step : (s p l f : Bool) → is_done (if s then TooLate else if not (not p && not l) then False else if f then Many 32 else True) ≡ true → (f ≡ false) × (l ≡ false)
    step true p l f k = absurd (cc)
    step false true l f k = absurd (cc)
    step false false true f k = absurd (cc)
    step false false false true k = absurd (cc)
    step false false false false k = (refl, refl)

-- a promotion neither succeeded nor is under way where a promotable call is done
pub unstarted_there : (h : Half) → is_done (unless_over h.seen (promotable_answer h)) ≡ true → (has_promotion h.seen ≡ false) × (is_some h.seen.decided ≡ false)
unfolding may_own
unstarted_there h k = (step h.seen.sealed (has_promotion h.seen) (has is_lasting h.seen.table) (is_full h) (done_inside h.seen (promotable_answer h) k).0, undecided_there h.seen (promotable_answer h) k)
  where
    step : (s p l f : Bool) → is_done (if s then TooLate else if not (not p && not l) then False else if f then Many 32 else True) ≡ true → p ≡ false
    step true p l f k = absurd (cc)
    step false true l f k = absurd (cc)
    step false false l f k = refl

late_waits : (b : Bool) → unless_late b ≡ Wait → ⊥
late_waits true k = absurd (cc)
late_waits false k = absurd (cc)

begun_waits : (l : Option ℕ) (a : Answer) → (a ≡ Wait → ⊥) → if_begun l a ≡ Wait → ⊥
begun_waits (Some d) a n k = n k
begun_waits None a n k = absurd (cc)

status_waits : (d : Option Outcome) → status_answer d ≡ Wait → ⊥
status_waits (Some x) k = absurd (cc)
status_waits None k = absurd (cc)

-- a call that may have to wait
abbrev pub is_waiter : Call → Bool
is_waiter (Durable t e r s) = true
is_waiter (Marshal t) = true
is_waiter c = false

-- what answers wait, and what it finds
pub record IsWaiting (h : Half) (c : Call) : Type 0 where
  pub undecided : is_some h.seen.decided ≡ false
  pub few_calls : length h.waits < 32
  pub caused : has_promotion h.seen ≡ false → is_some (cause_for h.seen c) ≡ true
  pub room : (e : ℕ) → is_place_of e (0, wanted_by c) ≡ true → (length h.seen.table + places h < 32) × (how_many is_lasting h.seen.table + places h < 16)
  pub begun : is_some h.seen.limit ≡ true
  pub kind : is_waiter c ≡ true
  pub unpromoted : is_place (0, wanted_by c) ≡ false → h.seen.promoted ≡ false

waits_inside : (o : Observed) (a : Answer) → unless_over o a ≡ Wait → (a ≡ Wait) × (is_some o.limit ≡ true) × (is_some o.decided ≡ false)
waits_inside o a k = step o.limit o.decided k
  where
    step : (l : Option ℕ) (d : Option Outcome) → if_begun l (unless_ended d a) ≡ Wait → (a ≡ Wait) × (is_some l ≡ true) × (is_some d ≡ false)
    step None d k = absurd (cc)
    step (Some l) (Some x) k = absurd (cc)
    step (Some l) None k = (k, refl, refl)

never_waits : (o : Observed) (a : Answer) → (a ≡ Wait → ⊥) → unless_over o a ≡ Wait → ⊥
never_waits o a n k = n (waits_inside o a k).0

never_full : (s f : Bool) → (if s then TooLate else if f then Many 32 else Fine) ≡ Wait → ⊥
never_full true f k = absurd (cc)
never_full false true k = absurd (cc)
never_full false false k = absurd (cc)

pub waits_for : (t : ℕ) (h : Half) (c : Call) → is_its_own c ≡ true → local_answer t h c 0 ≡ Wait → IsWaiting h c
unfolding local_answer
waits_for t h (Durable u e r s) own k =
    let inside = waits_inside h.seen (durable_answer h (is_single s)) k in
    let few = step h.seen.sealed (is_full h) (is_crowded h) (is_full_of_durables h) (has_promotion h.seen) (cause_of h.seen.table (is_single s)) inside.0 in
    record {
      undecided = inside.2;
      few_calls = below 32 (length h.waits) few.1;
      caused = few.3;
      room = λ f p. (below 32 (length h.seen.table + places h) few.0, below 16 (how_many is_lasting h.seen.table + places h) few.2);
      begun = inside.1;
      kind = refl;
      unpromoted = λ p. absurd (cc);
    }
  where
    step : (s f c d p : Bool) (o : Option Cause) → (if s then TooLate else if f then Many 32 else if c then Many 32 else if d then Many 16 else if p then Wait else wait_for o) ≡ Wait
        → (f ≡ false) × (c ≡ false) × (d ≡ false) × (p ≡ false → is_some o ≡ true)
    step true f c d p o k = absurd (cc)
    step false true c d p o k = absurd (cc)
    step false false true d p o k = absurd (cc)
    step false false false true p o k = absurd (cc)
    step false false false false true o k = (refl, refl, refl, λ q. absurd (cc))
    step false false false false false (Some z) k = (refl, refl, refl, λ q. refl)
    step false false false false false None k = absurd (cc)
waits_for t h (Marshal u) own k =
    let inside = waits_inside h.seen (marshal_answer t h) k in
    let few = step h.seen.promoted h.seen.sealed (is_crowded h) inside.0 in
    record {
      undecided = inside.2;
      few_calls = below 32 (length h.waits) few.1;
      caused = λ p. refl;
      room = λ f p. absurd (cc);
      begun = inside.1;
      kind = refl;
      unpromoted = λ p. few.0;
    }
  where
    step : (p s c : Bool) → (if p then Id (identifier_of t) else if s then TooLate else if c then Many 32 else Wait) ≡ Wait → (p ≡ false) × (c ≡ false)
    step true s c k = absurd (cc)
    step false true c k = absurd (cc)
    step false false true k = absurd (cc)
    step false false false k = (refl, refl)
waits_for t h (Begin u d) own k = absurd (cc)
waits_for t h (Volatile u e x v) own k = absurd (never_waits h.seen (volatile_answer h) (λ q. never_full h.seen.sealed (is_full h) q) k)
waits_for t h (PromotableCall u e r v x p) own k = absurd (never_waits h.seen (promotable_answer h) (λ q. step h.seen.sealed (may_own h.seen.table (has_promotion h.seen)) (is_full h) q) k)
  where
    step : (s m f : Bool) → (if s then TooLate else if not m then False else if f then Many 32 else True) ≡ Wait → ⊥
    step true m f k = absurd (cc)
    step false false f k = absurd (cc)
    step false true true k = absurd (cc)
    step false true false k = absurd (cc)
waits_for t h (Clone u c x) own k = absurd (never_waits h.seen (clone_answer h.seen.commit (length h.seen.clones)) (λ q. never_full h.seen.commit (nat_le 32 (length h.seen.clones)) q) k)
waits_for t h (Complete c) own k = absurd (never_waits h.seen (complete_answer (has (is_clone c.value) h.seen.clones) (has (is_complete_clone c.value) h.seen.clones)) (λ q. step (has (is_clone c.value) h.seen.clones) (has (is_complete_clone c.value) h.seen.clones) q) k)
  where
    step : (s f : Bool) → complete_answer s f ≡ Wait → ⊥
    step false f k = absurd (cc)
    step true true k = absurd (cc)
    step true false k = absurd (cc)
waits_for t h (Commit u) own k = absurd (never_waits h.seen (unless_late h.seen.commit) (λ q. late_waits h.seen.commit q) k)
waits_for t h (Rollback u) own k = absurd (never_waits h.seen (unless_late h.seen.sealed) (λ q. late_waits h.seen.sealed q) k)
waits_for t h (Status u) own k = absurd (begun_waits h.seen.limit (status_answer h.seen.decided) (λ q. status_waits h.seen.decided q) k)
waits_for t h (Tick u n) own k = absurd (begun_waits h.seen.limit Fine (λ q. absurd (cc)) k)
waits_for t h _ own k = absurd (cc)

-- a new clone whose call is done is made
pub may_clone : (h : Half) (c : CloneNo) → is_done (unless_over h.seen (clone_answer h.seen.commit (length h.seen.clones))) ≡ true → not (has (is_clone c.value) h.seen.clones) ≡ true
    → clone_refusal c h.seen.commit h.seen.clones ≡ None
may_clone h c k new =
    let few = step h.seen.commit (nat_le 32 (length h.seen.clones)) (done_inside h.seen (clone_answer h.seen.commit (length h.seen.clones)) k).0 in
    rw (few.0, not_true (has (is_clone c.value) h.seen.clones) new, few.1) refl
  where
    step : (m f : Bool) → is_done (if m then TooLate else if f then Many 32 else Fine) ≡ true → (m ≡ false) × (f ≡ false)
    step true f k = absurd (cc)
    step false true k = absurd (cc)
    step false false k = (refl, refl)

-- a call that is done and makes no entry of its own
marshal_undone : (t : ℕ) (h : Half) → is_done (unless_over h.seen (marshal_answer t h)) ≡ true → ⊥
marshal_undone t h k = step h.seen.promoted h.seen.sealed (is_crowded h) (done_inside h.seen (marshal_answer t h) k).0
  where
    step : (p s c : Bool) → is_done (if p then Id (identifier_of t) else if s then TooLate else if c then Many 32 else Wait) ≡ true → ⊥
    step true s c k = absurd (cc)
    step false true c k = absurd (cc)
    step false false true k = absurd (cc)
    step false false false k = absurd (cc)

pub idle : (t : ℕ) (k : Known) (c : Call) → is_its_own c ≡ true → is_done (local_answer t k.half c 0) ≡ true
    → ((u : TxNo) (d : Timeout) → c ≡ Begin u d → ⊥) → ((u : TxNo) (e : EnlNo) (x : EnlistOption) (v : Option Vote) → c ≡ Volatile u e x v → ⊥) → ((u : TxNo) (e : EnlNo) (r : RmNo) (s : Support) → c ≡ Durable u e r s → ⊥)
    → ((u : TxNo) (e : EnlNo) (r : RmNo) (v : Option Vote) (x : Option Outcome) (p : Option Bool) → c ≡ PromotableCall u e r v x p → ⊥) → ((u : TxNo) (d : CloneNo) (x : CloneKind) → c ≡ Clone u d x → ⊥) → ((d : CloneNo) → c ≡ Complete d → ⊥)
    → ((u : TxNo) → c ≡ Commit u → ⊥) → ((u : TxNo) → c ≡ Rollback u → ⊥) → ((u : TxNo) (n : ℕ) → c ≡ Tick u n → ⊥)
    → (local_facts t k.half c Fine ≡ []) × (with_call c k ≡ k)
unfolding local_answer
idle t k (Begin u d) own done a b e f g h i j l = absurd (a u d refl)
idle t k (Volatile u d x v) own done a b e f g h i j l = absurd (b u d x v refl)
idle t k (Durable u d r s) own done a b e f g h i j l = absurd (e u d r s refl)
idle t k (PromotableCall u d r v x p) own done a b e f g h i j l = absurd (f u d r v x p refl)
idle t k (Clone u d x) own done a b e f g h i j l = absurd (g u d x refl)
idle t k (Complete d) own done a b e f g h i j l = absurd (h d refl)
idle t k (Commit u) own done a b e f g h i j l = absurd (i u refl)
idle t k (Rollback u) own done a b e f g h i j l = absurd (j u refl)
idle t k (Tick u n) own done a b e f g h i j l = absurd (l u n refl)
idle t k (Marshal u) own done a b e f g h i j l = absurd (marshal_undone t k.half done)
idle t k (Status u) own done a b e f g h i j l = (refl, refl)
idle t k _ own done a b e f g h i j l = absurd (cc)
