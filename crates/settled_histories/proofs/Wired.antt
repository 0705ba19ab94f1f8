-- Where the coordinator doesn't stop: the rows of the table of rules on openings, and a connection that isn't lost, on which no end is seen.
use Rattle.std.proofs.Common.{◌≡◌, Bool, true, false, ◌&&◌, ◌||◌, List, [], ◌∷◌, Option, Some, None, refl, sym, subst}
use Rattle.std.specs.Prelude.{not, if◌then◌else◌}
use Rattle.dtx_values.specs.declared.entry.Entry.{Entry}
use Rattle.dtx_values.specs.declared.entry.Entry.TheVariants.{Sent, Got, Cut, Down as End, Stopped, Restarted}
use Rattle.dtx_values.specs.declared.message.Conn.{Conn}
use Rattle.dtx_values.specs.declared.message.Conn.TheVariants.{Again}
use Rattle.dtx_values.specs.declared.message.Dir.{Dir}
use Rattle.dtx_values.specs.declared.message.Dir.TheVariants.{Up}
use Rattle.dtx_values.specs.Ends.{same_connection, same_direction}
use Rattle.dtx_values.specs.Lines.{has_line, is_opening}
use Rattle.dtx_model.specs.Words.{has, always, holds}
use Rattle.dtx_model.specs.History.{is_loss}
use Rattle.dtx_model.specs.Outcome.{is_empty}
use Rattle.dtx_model.specs.Tied.{is_stop}
use Rattle.dtx_model.specs.Wires.{MayCross, WireRun, is_ended, is_lost_wire, is_stopped, in_transit, loses, lost_after, lost_since, opens}
use Rattle.dtx_model.proofs.Bools.{and_left, and_right, or_false, or_first, or_second, not_both}
use Rattle.dtx_model.proofs.Connections.{same_is}
use Rattle.history_table.proofs.Crossed.{is_severing}

-- b, v, or an enlistment's own connection: each is opened once at most
abbrev pub is_plain : Conn → Bool
is_plain (Again e) = false
is_plain c = true

-- Row of the table of rules: a connection is opened again only where it is that of a reenlistment and something was severed, what else is sent is sent where it was opened, and what is got
-- has a line.
abbrev pub is_opened_once : List Entry → Entry → Bool
is_opened_once past (Sent c d m) = if opens c (Sent c d m) then not (has (opens c) past) || (not (is_plain c) && has is_severing past) else has (opens c) past
is_opened_once past (Got c d m) = has_line c d m
is_opened_once past _ = true

-- the rows on openings are kept, the coordinator never stopped, and what is got was sent
pub record IsWired (h : List Entry) : Type 0 where
  pub opened : always is_opened_once h ≡ true
  pub unstopped : has is_stop h ≡ false
  pub run : WireRun h

-- it was so before the newest entry
pub wired_before : (x : Entry) (h : List Entry) → IsWired (x ∷ h) → IsWired h
wired_before x h w = record {
  opened = and_right (is_opened_once h x) (always is_opened_once h) w.opened;
  unstopped = or_second (is_stop x) (has is_stop h) w.unstopped;
  run = w.run.1;
}

-- the row of the newest entry
pub newest : (x : Entry) (h : List Entry) → IsWired (x ∷ h) → is_opened_once h x ≡ true
newest x h w = and_left (is_opened_once h x) (always is_opened_once h) w.opened

-- a plain connection that isn't lost
pub record IsFirm (c : Conn) (h : List Entry) : Type 0 where
  pub plain : is_plain c ≡ true
  pub kept : is_lost_wire c h ≡ false

-- this side saw the end of the connection
abbrev pub is_end_on : Conn → Dir → Entry → Bool
is_end_on c d (End e r) = same_connection c e && same_direction d r
is_end_on c d _ = false

-- a side saw the end of a connection
abbrev pub is_any_end : Entry → Bool
is_any_end (End c d) = true
is_any_end _ = false

-- where the coordinator never stopped, it doesn't stand stopped
pub unstopped : (h : List Entry) → has is_stop h ≡ false → is_stopped h ≡ false
unstopped [] n = refl
unstopped (Stopped ∷ h) n = absurd cc
unstopped (Restarted b ∷ h) n = refl
unstopped (x ∷ h) n = unstopped h (or_second (is_stop x) (has is_stop h) n)

-- what wasn't opened isn't lost
pub unopened_since : (c : Conn) (h : List Entry) → has (opens c) h ≡ false → lost_since c h ≡ None
unopened_since c [] k = refl
unopened_since c (x ∷ h) k = rw (unopened_since c h (or_second (opens c x) (has (opens c) h) k), or_first (opens c x) (has (opens c) h) k) refl

-- a plain connection wasn't opened before
pub opened_new : (c : Conn) (x : Entry) (h : List Entry) → IsWired (x ∷ h) → is_plain c ≡ true → opens c x ≡ true → has (opens c) h ≡ false
opened_new c (Sent e Up m) h w p o =
    let s = and_left (same_connection c e) (is_opening e m) o in
    let P : Conn → Type 0 = λ x. (if opens x (Sent e Up m) then not (has (opens x) h) || (not (is_plain x) && has is_severing h) else has (opens x) h) ≡ true in
    shut (opens c (Sent e Up m)) (has (opens c) h) (is_plain c) (has is_severing h) o p (subst P (sym (same_is c e s)) (newest (Sent e Up m) h w))
  where
    shut : (b o p l : Bool) → b ≡ true → p ≡ true → (if b then not o || (not p && l) else o) ≡ true → o ≡ false
    shut true true true l b p k = absurd cc
    shut true true false l b p k = absurd cc
    shut true false p l b q k = refl
    shut false o p l b q k = absurd cc
opened_new c _ h w p o = absurd cc

-- so a firm one was firm before
kept_step : (l b s z : Bool) → (b ≡ true → Some l ≡ None) → holds (if b then Some s else Some (l || z)) ≡ false → l ≡ false
kept_step l true s z u k = let e = u refl in absurd cc
kept_step l false s z u k = or_first l z k

kept_before : (c : Conn) (x : Entry) (h : List Entry) (o : Option Bool) → (opens c x ≡ true → o ≡ None) → holds (lost_after c h x o) ≡ false → holds o ≡ false
kept_before c x h None u k = refl
kept_before c x h (Some l) u k = kept_step l (opens c x) (is_stopped h) (loses c x) u k

pub firm_before : (c : Conn) (x : Entry) (h : List Entry) → IsWired (x ∷ h) → IsFirm c (x ∷ h) → IsFirm c h
firm_before c x h w f = record {
  plain = f.plain;
  kept = kept_before c x h (lost_since c h) (λ o. unopened_since c h (opened_new c x h w f.plain o)) f.kept;
}

-- whose end is seen is lost
pub end_lost : (c : Conn) (d : Dir) (h : List Entry) → MayCross h (End c d) → is_lost_wire c h ≡ true
end_lost c d h k = and_left (is_lost_wire c h) (is_empty (in_transit c d h)) (and_left (is_lost_wire c h && is_empty (in_transit c d h)) (not (is_ended c d h)) k)

-- no end of a firm one is seen
pub firm_unended : (c : Conn) (d : Dir) (h : List Entry) → IsWired h → IsFirm c h → has (is_end_on c d) h ≡ false
firm_unended c d [] w f = refl
firm_unended c d (End e r ∷ h) w f =
    or_false (same_connection c e && same_direction d r) (has (is_end_on c d) h) (other (same_connection c e) refl) (firm_unended c d h (wired_before (End e r) h w) firm)
  where
    firm : IsFirm c h
    firm = firm_before c (End e r) h w f

    other : (b : Bool) → same_connection c e ≡ b → (b && same_direction d r) ≡ false
    other false q = refl
    other true q = let P : Conn → Type 0 = λ x. is_lost_wire x h ≡ true in absurd (not_both (is_lost_wire c h) (subst P (sym (same_is c e q)) (end_lost e r h w.run.0)) firm.kept)
firm_unended c d (x ∷ h) w f = firm_unended c d h (wired_before x h w) (firm_before c x h w f)

-- where nothing was lost, no connection was
no_loss : (c : Conn) (h : List Entry) (x : Entry) → is_opened_once h x ≡ true → is_loss x ≡ false → loses c x ≡ false
no_loss c h Stopped k n = absurd cc
no_loss c h (Cut d u w) k n = absurd cc
no_loss c h (Got d r m) k n = rw k (never (same_connection c d))
  where
    never : (b : Bool) → (b && not true) ≡ false
    never true = refl
    never false = refl
no_loss c h _ k n = refl

pub unlost_wire : (c : Conn) (h : List Entry) → IsWired h → has is_loss h ≡ false → is_lost_wire c h ≡ false
unlost_wire c [] w n = refl
unlost_wire c (x ∷ h) w n =
    step (lost_since c h) (opens c x) (is_stopped h) (loses c x) (unstopped h (wired_before x h w).unstopped) (no_loss c h x (newest x h w) (or_first (is_loss x) (has is_loss h) n))
    (unlost_wire c h (wired_before x h w) (or_second (is_loss x) (has is_loss h) n))
  where
    step : (o : Option Bool) (b s z : Bool) → s ≡ false → z ≡ false → holds o ≡ false
        → holds (elim o as (λ y. Option Bool) [ Some l ↦ if b then Some s else Some (l || z) | None ↦ if b then Some s else None ]) ≡ false
    step None true s z n k i = n
    step None false s z n k i = refl
    step (Some l) true s z n k i = n
    step (Some l) false s z n k i = or_false l z i k

-- and no end comes
pub unlost_unended : (h : List Entry) → IsWired h → has is_loss h ≡ false → has is_any_end h ≡ false
unlost_unended [] w n = refl
unlost_unended (End c d ∷ h) w n =
    absurd (not_both (is_lost_wire c h) (end_lost c d h w.run.0) (unlost_wire c h (wired_before (End c d) h w) n))
unlost_unended (x ∷ h) w n = unlost_unended h (wired_before x h w) (or_second (is_loss x) (has is_loss h) n)
