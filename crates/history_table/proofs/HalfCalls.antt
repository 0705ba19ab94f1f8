-- The block of each call that the local side answers by itself keeps the table, promoted or not.
use Rattle.std.proofs.Common.{◌≡◌, ℕ, ◌==◌, Bool, true, false, ◌&&◌, ◌||◌, List, [], ◌∷◌, Option, Some, None, refl, ◌∙◌, ap}
use Rattle.std.specs.Prelude.{not, if◌then◌else◌}
use Rattle.std.proofs.lemmas.Bool.{false_from_ne_true, or_left}
use Rattle.dtx_values.specs.declared.number.ActorNo.{ActorNo}
use Rattle.dtx_values.specs.declared.number.CloneNo.{CloneNo}
use Rattle.dtx_values.specs.declared.number.EnlNo.{EnlNo}
use Rattle.dtx_values.specs.declared.number.RmNo.{RmNo}
use Rattle.dtx_values.specs.declared.entry.Answer.{Answer}
use Rattle.dtx_values.specs.declared.entry.Entry.{Entry}
use Rattle.dtx_values.specs.declared.entry.Entry.TheVariants.{Called, Cloned, Completed, Enlisted, CommitAsked, RollbackAsked, TimedOut, Promoted, Promoting, Sent}
use Rattle.dtx_values.specs.declared.message.Conn.TheVariants.{Begin as OnBegin, Enl as OnEnl}
use Rattle.dtx_values.specs.declared.message.Dir.TheVariants.{Up}
use Rattle.dtx_values.specs.declared.message.Message.TheVariants.{BeginBegin, EnlistEnlist}
use Rattle.dtx_values.specs.declared.words.Cause.{Cause}
use Rattle.dtx_values.specs.declared.words.Class.{Class}
use Rattle.dtx_values.specs.declared.words.CloneKind.{CloneKind}
use Rattle.dtx_values.specs.Class.{is_volatile, is_promotable}
use Rattle.dtx_values.specs.Clones.{blocks}
use Rattle.dtx_model.specs.Words.{all_of, has, onto}
use Rattle.dtx_model.specs.Entries.{clone_of, is_any_hand, is_commit, is_decision, is_promoted, is_sealed, is_vote, is_yes}
use Rattle.dtx_model.specs.Observed.{observe, rows}
use Rattle.dtx_model.specs.Outcome.{can_own, durables, evidence, is_complete, is_empty, is_first_veto, is_rollback, is_veto}
use Rattle.dtx_model.specs.Promotes.{ends_refused, ends_told, is_begun_got, is_created_got, is_promoting, is_refusal, is_under_way}
use Rattle.dtx_model.specs.Wires.{opens}
use Rattle.dtx_model.specs.Waiting.{Waiter}
use Rattle.dtx_model.specs.Half.{enlist_sent, info, veto, veto_if}
use Rattle.dtx_model.specs.Facts.{begin_promotion}
use Rattle.dtx_model.proofs.Bools.{and_both, and_left, not_both, not_false, or_right}
use Rattle.history_table.proofs.Tests.{eq_self, five_hold, four_hold, or_between, closed_step}
use Rattle.history_table.proofs.Scans.{each_more}
use Rattle.history_table.proofs.Lists.{none_each}
use Rattle.history_table.proofs.EntryTests.{is_cloned, is_enlisted, all_closed}
use Rattle.history_table.proofs.Table.{but_failed, calls_off, class_row, ends_called_off, have_come, is_lost_there, is_of_conn, is_volatile_conn, rule, stands_volatile}
use Rattle.history_table.proofs.Keeping.{Keeps, before, fifth_of_five}
use Rattle.history_table.proofs.Sendings.{opened_promoting}
use Rattle.history_table.proofs.Recording.{commit_if_sealed, sealed_if_yes}
use Rattle.history_table.proofs.Evident.{sealed_if_handed, unsealed_open}
use Rattle.history_table.proofs.HalfRows.{unenlisted_unvoted}
use Rattle.history_table.proofs.Deciding.{one_more, seen_half, veto_decides, veto_keeps}
use Rattle.history_table.proofs.Undecided.{Stands, all_willing, decided_stand, is_going, stand}

-- an entry that vetoes where there was no evidence calls it off
called_off : (x : Entry) (h : List Entry) → is_veto h x ≡ true → evidence h ≡ false → (not (has is_yes h) || is_lost_there h x) ≡ true → calls_off h x ≡ true
called_off x h v e y =
    or_left (is_first_veto h x && (not (has is_yes h) || is_lost_there h x)) (is_refusal x || ends_told h x)
    (and_both (is_first_veto h x) (not (has is_yes h) || is_lost_there h x) (and_both (is_veto h x) (not (evidence h)) v (not_false (evidence h) e)) y)

veto_refused : (x : Entry) (h : List Entry) → is_veto h x ≡ true → ends_refused (x ∷ h) ≡ true
veto_refused x h v = or_left (is_veto h x || is_refusal x) (ends_told h x) (or_left (is_veto h x) (is_refusal x) v)

-- a veto after it keeps the table
pub veto_stands : (x : Entry) (h : List Entry) (ws : List Waiter) (ms : List (EnlNo × RmNo)) → but_failed (x ∷ h) ≡ x ∷ h → Keeps (x ∷ h) → has is_decision (x ∷ h) ≡ false
    → is_veto h x ≡ true → evidence h ≡ false → (not (has is_yes h) || is_lost_there h x) ≡ true → Stands (onto (x ∷ h) (veto (seen_half (x ∷ h) ws ms)))
veto_stands x h ws ms b k d v e y =
    let off = called_off x h v e y in
    decided_stand (onto (x ∷ h) (veto (seen_half (x ∷ h) ws ms)))
    (veto_keeps (x ∷ h) ws ms k d (λ w. veto_refused x h v) off (ap ends_called_off b ∙ off)) (veto_decides (x ∷ h) ws ms)

-- a call alone
pub call_alone : (n : ℕ) (a : ActorNo) (y : Answer) (h : List Entry) → Stands h → Stands (Called n a y ∷ h)
call_alone n a y h k = stand (Called n a y) h refl tt k refl (λ g. g)

-- one more enlistment
willing_more : (e : EnlNo) (c : Class) (h : List Entry) → Keeps h → has (is_enlisted e.value) h ≡ false → is_going h ≡ true → is_going (Enlisted e c ∷ h) ≡ true
willing_more e c h k n g = step (has is_decision h) (all_willing h) _ _ _ (not (is_volatile c)) (has (is_vote e.value) h) _ (unenlisted_unvoted e.value h k n) g
  where
    step : (d w u a f v t r : Bool) → t ≡ false → (d || (w && u && a && f)) ≡ true → (d || (((v || (not t || r)) && w) && u && a && f)) ≡ true
    step true w u a f v t r q g = refl
    step false w u a f v true r q g = absurd cc
    step false w u a f true false r q g = g
    step false w u a f false false r q g = g

pub enlisted_stands : (h : List Entry) (e : EnlNo) (c : Class) → Stands h → has is_decision h ≡ false → has is_sealed h ≡ false → has (is_enlisted e.value) h ≡ false
    → class_row h e.value c ≡ true → (is_volatile c && has (opens (OnEnl e)) h) ≡ false → Stands (Enlisted e c ∷ h)
enlisted_stands h e c k d s n r o =
    stand (Enlisted e c) h refl tt k
    (five_hold (not (has is_decision h)) (not (has is_sealed h)) (not (has (is_enlisted e.value) h)) (class_row h e.value c) (not (is_volatile c && has (opens (OnEnl e)) h))
    (not_false (has is_decision h) d) (not_false (has is_sealed h) s) (not_false (has (is_enlisted e.value) h) n) r (not_false (is_volatile c && has (opens (OnEnl e)) h) o))
    (willing_more e c h k.keeps n)

-- a durable or promotable that can own the commit, where no promotion began
pub owner_row : (h : List Entry) (e : EnlNo) (c : Class) → can_own c ≡ true → has is_promoting h ≡ false → durables h ≡ [] → class_row h e.value c ≡ true
owner_row h e c o p n = or_right (is_volatile c || _) (not (has is_promoting h) && can_own c && is_empty (durables h)) (and_both (not (has is_promoting h) && can_own c) (is_empty (durables h)) (and_both (not (has is_promoting h)) (can_own c) (not_false (has is_promoting h) p) o) (ap is_empty n))

-- a promotion begins
pub begin_stands : (h : List Entry) (ws : List Waiter) (ms : List (EnlNo × RmNo)) (c : Option Cause) → Stands h → has is_decision h ≡ false → has is_sealed h ≡ false
    → has is_promoting h ≡ false → Stands (onto h (begin_promotion (seen_half h ws ms) c))
unfolding observe
begin_stands h ws ms None k d s p = k
begin_stands h ws ms (Some c) k d s p = step (has (λ x. is_promotable x.class) (rows h))
  where
    promoting : Stands (Promoting c ∷ h)
    promoting =
        stand (Promoting c) h refl tt k
        (and_both (not (has is_decision h) && not (has is_sealed h)) (not (has is_promoting h))
        (and_both (not (has is_decision h)) (not (has is_sealed h)) (not_false (has is_decision h) d) (not_false (has is_sealed h) s)) (not_false (has is_promoting h) p)) (λ g. g)

    unopened : has (opens OnBegin) h ≡ false
    unopened = false_from_ne_true (has (opens OnBegin) h) (λ o. not_both (has is_promoting h) (opened_promoting OnBegin h k.keeps o) p)

    step : (b : Bool) → Stands (onto (Promoting c ∷ h) (if b then [] else Sent OnBegin Up BeginBegin ∷ []))
    step true = promoting
    step false = stand (Sent OnBegin Up BeginBegin) (Promoting c ∷ h) refl tt promoting (not_false (has (opens OnBegin) h) unopened) (λ g. g)

-- b was begun where it is promoted
promoted_begun : (x : Entry) (h : List Entry) → Keeps h → rule h x ≡ true → is_promoted x ≡ true → has is_begun_got h ≡ true
promoted_begun (Promoted u c) h k r t =
    and_left (has is_begun_got h) (has is_created_got h) (fifth_of_five (not (has is_decision h)) (not (has is_sealed h)) (is_under_way h) (have_come h) (has is_begun_got h && has is_created_got h) r)
promoted_begun _ h k r t = absurd cc

pub begun_if_promoted : (h : List Entry) → Keeps h → has is_promoted h ≡ true → has is_begun_got h ≡ true
begun_if_promoted h k p = before is_promoted is_begun_got promoted_begun h k p

-- an ENLIST is sent, once, of what doesn't stand
pub enlist_stands : (t : ℕ) (h : List Entry) (e : EnlNo) (r : RmNo) → Stands h → has is_promoting h ≡ true → has is_begun_got h ≡ true → has (opens (OnEnl e)) h ≡ false
    → stands_volatile e.value h ≡ false → Stands (onto h (enlist_sent t e r))
enlist_stands t h e r k p b o v =
    stand (Sent (OnEnl e) Up (EnlistEnlist (info t e r))) h refl tt k
    (and_both (has is_promoting h && true) (is_of_conn (OnEnl e) (info t e r) && has is_begun_got h && not (has (opens (OnEnl e)) h) && not (is_volatile_conn (OnEnl e) h))
    (and_both (has is_promoting h) true p refl)
    (four_hold (is_of_conn (OnEnl e) (info t e r)) (has is_begun_got h) (not (has (opens (OnEnl e)) h)) (not (stands_volatile e.value h)) (eq_self e.value) b (not_false (has (opens (OnEnl e)) h) o)
    (not_false (stands_volatile e.value h) v))) (λ g. g)

-- commit
commit_rule : (h : List Entry) → has is_decision h ≡ false → has is_commit h ≡ false → rule h CommitAsked ≡ true
commit_rule h d c = and_both (not (has is_decision h)) (not (has is_commit h)) (not_false (has is_decision h) d) (not_false (has is_commit h) c)

uncommitted_unsealed : (h : List Entry) → Keeps h → has is_commit h ≡ false → has is_sealed h ≡ false
uncommitted_unsealed h k c = false_from_ne_true (has is_sealed h) (λ s. not_both (has is_commit h) (commit_if_sealed h k s) c)

unsealed_unyes : (h : List Entry) → Keeps h → has is_sealed h ≡ false → has is_yes h ≡ false
unsealed_unyes h k s = false_from_ne_true (has is_yes h) (λ y. not_both (has is_sealed h) (sealed_if_yes h k y) s)

unsealed_unhanded : (h : List Entry) → Keeps h → has is_sealed h ≡ false → has is_any_hand h ≡ false
unsealed_unhanded h k s = false_from_ne_true (has is_any_hand h) (λ y. not_both (has is_sealed h) (sealed_if_handed h k y) s)

pub commit_stands : (h : List Entry) (ws : List Waiter) (ms : List (EnlNo × RmNo)) (b : Bool) → Stands h → has is_decision h ≡ false → has is_commit h ≡ false → is_veto h CommitAsked ≡ b
    → Stands (onto h (CommitAsked ∷ veto_if b (seen_half (CommitAsked ∷ h) ws ms)))
commit_stands h ws ms true k d c v =
    let s = uncommitted_unsealed h k.keeps c in
    veto_stands CommitAsked h ws ms refl (one_more CommitAsked h refl tt k.keeps (commit_rule h d c)) d v (unsealed_open h k.keeps s)
    (or_left (not (has is_yes h)) false (not_false (has is_yes h) (unsealed_unyes h k.keeps s)))
commit_stands h ws ms false k d c v = stand CommitAsked h refl tt k (commit_rule h d c) (step (has is_decision h) _ (has is_commit h) (all_closed h) _ closed)
  where
    closed : all_closed h ≡ true
    closed = none_each (λ c. is_rollback c.1 && not (is_complete h c)) (λ c. blocks c.1 || is_complete h c) (λ c. closed_step c.1 (is_complete h c)) (all_of clone_of h) v

    step : (d n c x f : Bool) → x ≡ true → (d || (n && (not c || x) && f)) ≡ true → (d || (n && x && f)) ≡ true
    step true n c x f e g = refl
    step false n c true f e g = last n c f g
      where
        last : (n c f : Bool) → (n && (not c || true) && f) ≡ true → (n && true && f) ≡ true
        last n true f g = g
        last n false f g = g
    step false n c false f e g = absurd cc

pub rollback_stands : (h : List Entry) (ws : List Waiter) (ms : List (EnlNo × RmNo)) → Stands h → has is_decision h ≡ false → has is_sealed h ≡ false
    → Stands (onto h (RollbackAsked ∷ veto (seen_half (RollbackAsked ∷ h) ws ms)))
rollback_stands h ws ms k d s =
    let y = unsealed_unyes h k.keeps s in
    let veto = and_both (not (has is_yes h)) (not (has is_any_hand h)) (not_false (has is_yes h) y) (not_false (has is_any_hand h) (unsealed_unhanded h k.keeps s)) in
    veto_stands RollbackAsked h ws ms refl
    (one_more RollbackAsked h refl tt k.keeps (and_both (not (has is_decision h)) (not (has is_sealed h)) (not_false (has is_decision h) d) (not_false (has is_sealed h) s))) d veto
    (unsealed_open h k.keeps s) (or_left (not (has is_yes h)) false (not_false (has is_yes h) y))

-- the timeout
pub timeout_stands : (h : List Entry) (ws : List Waiter) (ms : List (EnlNo × RmNo)) → Stands h → has is_decision h ≡ false → has is_yes h ≡ false → has is_any_hand h ≡ false → evidence h ≡ false
    → Stands (onto h (TimedOut ∷ veto (seen_half (TimedOut ∷ h) ws ms)))
timeout_stands h ws ms k d y u e =
    let veto = and_both (not (has is_yes h)) (not (has is_any_hand h)) (not_false (has is_yes h) y) (not_false (has is_any_hand h) u) in
    veto_stands TimedOut h ws ms refl
    (one_more TimedOut h refl tt k.keeps
    (four_hold (not (has is_decision h)) (not (has is_yes h)) (not (has is_any_hand h)) (not (evidence h)) (not_false (has is_decision h) d) (not_false (has is_yes h) y)
    (not_false (has is_any_hand h) u) (not_false (evidence h) e))) d veto e (or_left (not (has is_yes h)) false (not_false (has is_yes h) y))

-- one more clone, and one more that is complete
clones_step : (d n c x y f : Bool) → (c ≡ true → x ≡ true → y ≡ true) → (d || (n && (not c || x) && f)) ≡ true → (d || (n && (not c || y) && f)) ≡ true
clones_step true n c x y f g k = refl
clones_step false n false x y f g k = k
clones_step false n true true y f g k = rw (g refl refl) k
clones_step false true true false y f g k = absurd cc
clones_step false false true false y f g k = absurd cc

pub cloned_stands : (h : List Entry) (c : CloneNo) (d : CloneKind) → Stands h → has is_decision h ≡ false → has is_commit h ≡ false → has (is_cloned c.value) h ≡ false → Stands (Cloned c d ∷ h)
cloned_stands h c d k u m n =
    stand (Cloned c d) h refl tt k
    (and_both (not (has is_decision h) && not (has is_commit h)) (not (has (is_cloned c.value) h))
    (and_both (not (has is_decision h)) (not (has is_commit h)) (not_false (has is_decision h) u) (not_false (has is_commit h) m)) (not_false (has (is_cloned c.value) h) n))
    (clones_step (has is_decision h) _ (has is_commit h) (all_closed h) (all_closed (Cloned c d ∷ h)) _ (λ t. absurd (not_both (has is_commit h) t m)))

pub completed_stands : (h : List Entry) (c : CloneNo) → Stands h → has is_decision h ≡ false → has (is_cloned c.value) h ≡ true → Stands (Completed c ∷ h)
completed_stands h c k u n =
    stand (Completed c) h refl tt k (and_both (not (has is_decision h)) (has (is_cloned c.value) h) (not_false (has is_decision h) u) n)
    (clones_step (has is_decision h) _ (has is_commit h) (all_closed h) (all_closed (Completed c ∷ h)) _
    (λ t. each_more (λ d. blocks d.1 || is_complete h d) (λ d. blocks d.1 || is_complete (Completed c ∷ h) d)
    (λ d. or_between (blocks d.1) (d.0.value == c.value) (is_complete h d)) (all_of clone_of h)))
