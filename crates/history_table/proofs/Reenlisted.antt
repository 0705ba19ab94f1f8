-- The block of a reenlistment keeps the table: the one that comes back had its ENLISTED, and its connection opens again only after a cut or a stop.
use Rattle.std.proofs.Common.{◌≡◌, ◌==◌, Bool, true, false, ◌&&◌, ◌||◌, List, [], ◌∷◌, Option, Some, None, refl, ◌∙◌, ap}
use Rattle.std.specs.Prelude.{is_some, not, map, filter, if◌then◌else◌}
use Rattle.std.proofs.lemmas.Bool.{or_left}
use Rattle.dtx_values.specs.declared.entry.Entry.{Entry}
use Rattle.dtx_values.specs.declared.entry.Entry.TheVariants.{Acked, Cut, Down as End, Got, Reenlisted, Sent, Stopped, Told}
use Rattle.dtx_values.specs.declared.entry.Party.TheVariants.{Enl as Member}
use Rattle.dtx_values.specs.declared.words.Outcome.TheVariants.{Aborted}
use Rattle.dtx_values.specs.declared.message.Conn.{Conn}
use Rattle.dtx_values.specs.declared.message.Conn.TheVariants.{Enl, Again}
use Rattle.dtx_values.specs.declared.message.Dir.TheVariants.{Up, Down}
use Rattle.dtx_values.specs.declared.message.Message.TheVariants.{EnlistCommit, EnlistEnlist, EnlistEnlisted, ReenlistCommitted}
use Rattle.dtx_values.specs.Ends.{same_connection, same_direction}
use Rattle.dtx_values.specs.Lines.{has_line}
use Rattle.dtx_model.specs.declared.branch.Branch.{Branch}
use Rattle.dtx_model.specs.Words.{each, has, holds}
use Rattle.dtx_model.specs.Observed.{branch_number, branches, is_branch}
use Rattle.history_table.proofs.Crossed.{is_severing}
use Rattle.dtx_model.specs.Promotes.{is_enlisted_got}
use Rattle.dtx_model.specs.Wires.{ended_after, ends, is_ended, is_lost_wire, is_stopped, loses, lost_after, lost_since, opens}
use Rattle.dtx_model.specs.Tied.{is_stop}
use Rattle.dtx_model.proofs.Bools.{and_both, and_left, and_right, not_both, not_true, or_case, or_right}
use Rattle.history_table.proofs.Tests.{eq_swap}
use Rattle.history_table.proofs.Lists.{each-insert}
use Rattle.history_table.proofs.Scans.{each_more, has_more}
use Rattle.history_table.proofs.Keeping.{Keeps, keeps_before}
use Rattle.history_table.proofs.Sendings.{got_line}
use Rattle.history_table.proofs.Recording.{stopped_stop}

-- Where a connection is lost, there was a cut or a stop.
stop_loss : (x : Entry) → is_stop x ≡ true → is_severing x ≡ true
stop_loss Stopped t = refl
stop_loss _ t = absurd cc

stopped_loss : (h : List Entry) → is_stopped h ≡ true → has is_severing h ≡ true
stopped_loss h s = has_more is_stop is_severing stop_loss h (stopped_stop h s)

loses_loss : (c : Conn) (x : Entry) (h : List Entry) → Keeps (x ∷ h) → loses c x ≡ true → is_severing x ≡ true
loses_loss c Stopped h k t = refl
loses_loss c (Cut d u w) h k t = refl
loses_loss c (Got d r m) h k t = absurd (not_both (has_line d r m) (got_line d r m h k) (not_true (has_line d r m) (and_right (same_connection c d) (not (has_line d r m)) t)))
loses_loss c _ h k t = absurd cc

lost_loss : (c : Conn) (h : List Entry) → Keeps h → is_lost_wire c h ≡ true → has is_severing h ≡ true
lost_loss c [] k t = absurd cc
lost_loss c (x ∷ h) k t = step (lost_loss c h (keeps_before x h k)) (lost_since c h) refl t
  where
    stopped : is_stopped h ≡ true → has is_severing (x ∷ h) ≡ true
    stopped s = or_right (is_severing x) (has is_severing h) (stopped_loss h s)

    first : (b : Bool) → holds (if b then Some (is_stopped h) else None) ≡ true → has is_severing (x ∷ h) ≡ true
    first true t = stopped t
    first false t = absurd cc

    later : (b l : Bool) → (l ≡ true → has is_severing h ≡ true) → holds (if b then Some (is_stopped h) else Some (l || loses c x)) ≡ true → has is_severing (x ∷ h) ≡ true
    later true l f t = stopped t
    later false l f t = or_case l (loses c x) (λ q. or_right (is_severing x) (has is_severing h) (f q)) (λ q. or_left (is_severing x) (has is_severing h) (loses_loss c x h k q)) t

    step : (is_lost_wire c h ≡ true → has is_severing h ≡ true) → (o : Option Bool) → lost_since c h ≡ o → holds (lost_after c h x o) ≡ true → has is_severing (x ∷ h) ≡ true
    step ih None e t = first (opens c x) t
    step ih (Some l) e t = later (opens c x) l (λ q. ih (ap holds e ∙ q)) t

-- Whose end was seen, was lost.
ends_loss : (c : Conn) (x : Entry) (h : List Entry) → Keeps (x ∷ h) → ends c Down x ≡ true → has is_severing h ≡ true
ends_loss c (End d r) h k t =
    lost_loss d h (keeps_before (End d r) h k) (and_left (is_lost_wire d h) _ (and_left (is_lost_wire d h && _) _ k.wires.0))
ends_loss c (Got d r m) h k t =
    absurd (not_both (has_line d r m) (got_line d r m h k) (not_true (has_line d r m) (and_right (same_connection c d && same_direction Down r) (not (has_line d r m)) t)))
ends_loss c _ h k t = absurd cc

pub ended_loss : (c : Conn) (h : List Entry) → Keeps h → is_ended c Down h ≡ true → has is_severing h ≡ true
ended_loss c [] k t = absurd cc
ended_loss c (x ∷ h) k t = or_right (is_severing x) (has is_severing h) (step (ended_loss c h (keeps_before x h k)) (opens c x) t)
  where
    step : (is_ended c Down h ≡ true → has is_severing h ≡ true) → (b : Bool) → ended_after b false (ends c Down x || is_ended c Down h) ≡ true → has is_severing h ≡ true
    step ih true t = absurd cc
    step ih false t = or_case (ends c Down x) (is_ended c Down h) (λ q. ends_loss c x h k q) ih t

-- A connection that was opened is known as such.
pub opened_since : (c : Conn) (h : List Entry) → has (opens c) h ≡ true → is_some (lost_since c h) ≡ true
opened_since c [] k = absurd cc
opened_since c (x ∷ h) k = step (opens c x) (lost_since c h) (opened_since c h) k
  where
    step : (b : Bool) (o : Option Bool) → (has (opens c) h ≡ true → is_some o ≡ true) → (b || has (opens c) h) ≡ true
        → is_some (elim o as (λ z. Option Bool) [ Some l ↦ if b then Some (is_stopped h) else Some (l || loses c x) | None ↦ if b then Some (is_stopped h) else None ]) ≡ true
    step true (Some l) f t = refl
    step true None f t = refl
    step false (Some l) f t = refl
    step false None f t = f t

-- A branch is enlisted only where its ENLISTED was got.
abbrev is_got_there : List Entry → Branch → Bool
is_got_there h b = not b.enlisted || has (is_enlisted_got b.enlistment.value) h

each_through : (p q : Branch → Bool) (f : Branch → Branch) → ((b : Branch) → p b ≡ true → q (f b) ≡ true) → (bs : List Branch) → each p bs ≡ true → each q (map f bs) ≡ true
each_through p q f g [] k = refl
each_through p q f g (b ∷ bs) k = and_both (q (f b)) (each q (map f bs)) (g b (and_left (p b) (each p bs) k)) (each_through p q f g bs (and_right (p b) (each p bs) k))

each_left : (p q : Branch → Bool) (bs : List Branch) → each p bs ≡ true → each p (filter q bs) ≡ true
each_left p q [] k = refl
each_left p q (b ∷ bs) k = step (q b) (each_left p q bs (and_right (p b) (each p bs) k))
  where
    step : (c : Bool) → each p (filter q bs) ≡ true → each p (if c then b ∷ filter q bs else filter q bs) ≡ true
    step true ih = and_both (p b) (each p (filter q bs)) (and_left (p b) (each p bs) k) ih
    step false ih = ih

pub branches_got : (h : List Entry) → each (is_got_there h) (branches h) ≡ true
branches_got [] = refl
branches_got (Sent (Enl e) Up (EnlistEnlist i) ∷ h) =
    each-insert (is_got_there h) branch_number (record { enlistment = e; manager = i.rm; enlisted = false; aborted = false; acked = false; due = None }) (filter (λ b. not (is_branch e.value b)) (branches h))
    ∙ each_left (is_got_there h) (λ b. not (is_branch e.value b)) (branches h) (branches_got h)
branches_got (Got (Enl e) Down EnlistEnlisted ∷ h) =
    each_through (is_got_there h) (is_got_there (Got (Enl e) Down EnlistEnlisted ∷ h)) _
    (λ b t. step (e.value == b.enlistment.value) (b.enlistment.value == e.value) b.enlisted (has (is_enlisted_got b.enlistment.value) h) (eq_swap b.enlistment.value e.value) t) (branches h) (branches_got h)
  where
    step : (s z d g : Bool) → z ≡ s → (not d || g) ≡ true → (not (s || d) || (z || g)) ≡ true
    step s true d g e k = or_right (not (s || d)) true refl
    step false false d g e k = k
    step true false d g e k = absurd cc
branches_got (Got (Enl e) Down EnlistCommit ∷ h) = each_through (is_got_there h) (is_got_there h) _ (λ b t. t) (branches h) (branches_got h)
branches_got (Got (Again e) Down ReenlistCommitted ∷ h) = each_through (is_got_there h) (is_got_there h) _ (λ b t. t) (branches h) (branches_got h)
branches_got (Told (Member e) Aborted ∷ h) = each_through (is_got_there h) (is_got_there h) _ (λ b t. t) (branches h) (branches_got h)
branches_got (Acked e ∷ h) = each_through (is_got_there h) (is_got_there h) _ (λ b t. t) (branches h) (branches_got h)
branches_got (Reenlisted e ∷ h) = each_through (is_got_there h) (is_got_there h) _ (λ b t. t) (branches h) (branches_got h)
branches_got (x ∷ h) = each_more (is_got_there h) (is_got_there (x ∷ h)) (λ b t. step b.enlisted (is_enlisted_got b.enlistment.value x) (has (is_enlisted_got b.enlistment.value) h) t) (branches h) (branches_got h)
  where
    step : (d s g : Bool) → (not d || g) ≡ true → (not d || (s || g)) ≡ true
    step false s g k = refl
    step true s g k = or_right s g k
